-- The laws of the attributes' grammars.
use Rattle.std.proofs.Common.{◌≡◌, ℕ, zero, suc, true, false, List, refl, sym, arith}
use Rattle.std.specs.Prelude.{◌==◌, if◌then◌else◌}
use Rattle.std.proofs.lemmas.Bool.{eqb-true}
use Rattle.xdr_grammar.specs.Items.{pick}
use Rattle.xdr_grammar.specs.Laws.{Laws}
use Rattle.xdr_grammar.proofs.Rules.{grammar_laws, picked}
use Rattle.nfs3_types.specs.declared.attributes.SetTime.TheVariants.{DontChange, ServerTime}
use Rattle.nfs3_types.specs.FileTypes.{file_type}
use Rattle.nfs3_types.specs.Attributes.{time, spec_data, fattr, post_op_attr, optional_word, optional_hyper, optional_time}
use Rattle.nfs3_types.specs.Attributes.{time_how, set_time, sattr, wcc_attr, pre_op_attr, wcc_data}

pub time-laws : Laws time
unfolding time
time-laws = search grammar_laws

pub spec_data-laws : Laws spec_data
unfolding spec_data
spec_data-laws = search grammar_laws

pub file_type-laws : Laws file_type
unfolding file_type
file_type-laws = search grammar_laws

pub fattr-laws : Laws fattr
unfolding fattr
fattr-laws = search (grammar_laws, time-laws, spec_data-laws, file_type-laws) depth 60

pub post_op_attr-laws : Laws post_op_attr
unfolding post_op_attr
post_op_attr-laws = search (grammar_laws, fattr-laws)

optional_word-laws : Laws optional_word
unfolding optional_word
optional_word-laws = search grammar_laws

optional_hyper-laws : Laws optional_hyper
unfolding optional_hyper
optional_hyper-laws = search grammar_laws

pub optional_time-laws : Laws optional_time
unfolding optional_time
optional_time-laws = search (grammar_laws, time-laws)

-- how a time is set, by its number
is_two : (how : ℕ) → (how == 2) ≡ true → 2 ≡ how
is_two how h = sym (eqb-true how 2 h)

not_two : (how : ℕ) (front : List ℕ) → (pick 0 2).Spells how front → (how == 2) ≡ false
    → time_how (if how == 0 then DontChange else ServerTime) ≡ how
not_two zero front s h = refl
not_two (suc zero) front s h = refl
not_two (suc (suc zero)) front s h = absurd cc
not_two (suc (suc (suc n))) front s h = absurd (omega (arith, picked 0 2 (suc (suc (suc n))) front s))

set_time-laws : Laws set_time
unfolding set_time
set_time-laws = search (grammar_laws, time-laws, is_two, not_two)

pub sattr-laws : Laws sattr
unfolding sattr
sattr-laws = search (grammar_laws, optional_word-laws, optional_hyper-laws, set_time-laws) depth 40

wcc_attr-laws : Laws wcc_attr
unfolding wcc_attr
wcc_attr-laws = search (grammar_laws, time-laws)

pre_op_attr-laws : Laws pre_op_attr
unfolding pre_op_attr
pre_op_attr-laws = search (grammar_laws, wcc_attr-laws)

pub wcc_data-laws : Laws wcc_data
unfolding wcc_data
wcc_data-laws = search (grammar_laws, pre_op_attr-laws, post_op_attr-laws)
