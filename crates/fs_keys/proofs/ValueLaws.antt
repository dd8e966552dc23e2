-- The values of the other records say what they hold.
use Rattle.std.proofs.Common.{◌≡◌, ℕ, ◌≤◌, if◌then◌else◌, List, length, Some, refl, ◌∙◌, ap}
use Rattle.std.specs.Prelude.{nat_le}
use Rattle.std.proofs.lemmas.Bool.{le-leb}
use Rattle.xdr_grammar.specs.Grammar.{Grammar}
use Rattle.xdr_grammar.specs.Items.{hyper}
use Rattle.xdr_grammar.specs.Laws.{Laws}
use Rattle.xdr_grammar.proofs.Items.{hyper-laws}
use Rattle.xdr_grammar.proofs.Rules.{grammar_laws}
use Rattle.xdr_grammar.proofs.Whole.{whole-laws}
use Rattle.nfs3_types.proofs.AttributeLaws.{time-laws}
use Rattle.fs_rules.specs.Limits.{longest_name}
use Rattle.fs_keys.specs.declared.rows.CookieRow.{CookieRow}
use Rattle.fs_keys.specs.Values.{first, name, extent, times, ok_of, said_by, cookie_value, with_name, cookie_in}

pub first-laws : Laws first
unfolding first
first-laws = search (grammar_laws)

pub name-laws : Laws name
unfolding name
name-laws = search (grammar_laws)

pub extent-laws : Laws extent
unfolding extent
extent-laws = search (grammar_laws)

pub times-laws : Laws times
unfolding times
times-laws = search (grammar_laws, time-laws)

-- a value that was written says what was written
pub said-again : {A : Type 0} (g : Grammar A) → Laws g → (v : A) → g.Fits v → said_by g (g.spelling v) ≡ Some v
said-again g laws v fits = ap ok_of ((whole-laws g laws).again v (g.spelling v) (laws.written v fits))

pub cookie-again : (row : CookieRow) → hyper.Fits row.fileid → length row.name ≤ longest_name
    → cookie_in (cookie_value row) ≡ Some row
cookie-again row fits short =
    ap with_name (hyper-laws.again row.fileid (hyper.spelling row.fileid) row.name (hyper-laws.written row.fileid fits))
    ∙ rw (le-leb (length row.name) longest_name short) refl
