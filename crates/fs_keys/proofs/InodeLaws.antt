-- Inodes and their bytes undo one another.
use Rattle.std.proofs.Common.{◌≡◌, ℕ, zero, suc, ◌+◌, ◌<◌, ◌≤◌, ◌==◌, Bool, true, false, if◌then◌else◌, List, [], ◌∷◌, ◌++◌}
use Rattle.std.proofs.Common.{length}
use Rattle.std.proofs.Common.{replicate, Option, Some, None, is_some, Result, Ok, Err, refl, sym, ◌∙◌, ap, subst, arith}
use Rattle.std.proofs.Common.{length-append, unwrap_or}
use Rattle.std.specs.Prelude.{nat_le}
use Rattle.std.specs.Str.{bytes_eq}
use Rattle.std.proofs.lemmas.Bool.{eqb-true, leb-true, le-leb}
use Rattle.std.proofs.lemmas.Grind.{common_steps}
use Rattle.std.proofs.lemmas.Slice.Eq.{bytes_eq-Decides}
use Rattle.xdr_grammar.specs.declared.fault.XdrFault.{XdrFault}
use Rattle.xdr_grammar.specs.declared.fault.XdrFault.TheVariants.{BadBool, BadEnum}
use Rattle.xdr_grammar.specs.Grammar.{◌at◌, done}
use Rattle.xdr_grammar.specs.Items.{tested, bool_number, fixed, word, hyper}
use Rattle.xdr_grammar.specs.Choices.{either, in_case}
use Rattle.xdr_grammar.specs.Enumerations.{named, or_else}
use Rattle.xdr_grammar.specs.Laws.{Laws, AreBytes, AllSpelled}
use Rattle.xdr_grammar.proofs.Composed.{both-laws, done-laws}
use Rattle.xdr_grammar.proofs.Items.{number-laws, tested-laws, fixed-laws}
use Rattle.xdr_grammar.proofs.Choices.{either-laws, in_case-laws}
use Rattle.xdr_grammar.proofs.Rules.{grammar_laws, either-spelled, in_case-spelled, done-spelled, both-spelled}
use Rattle.nfs3_types.specs.declared.file_type.FileType.{FileType}
use Rattle.nfs3_types.specs.declared.file_type.FileType.TheVariants.{Reg}
use Rattle.nfs3_types.specs.FileTypes.{type_number, file_types}
use Rattle.nfs3_types.specs.Attributes.{time}
use Rattle.nfs3_types.proofs.AttributeLaws.{time-laws}
use Rattle.fs_rules.specs.Limits.{longest_target}
use Rattle.fs_keys.specs.declared.inode.Head.{Head}
use Rattle.fs_keys.specs.declared.inode.Inode.{Inode}
use Rattle.fs_keys.specs.Inodes.{byte, flag, kind, zeros, if_other, no_verifier, verifier, head, value_of, with_target, inode_of}
use Rattle.fs_keys.specs.Inodes.{Fits}

byte-laws : Laws byte
unfolding byte
byte-laws = number-laws 1

bool_number-test : (n : ℕ) → nat_le n 1 ≡ true → bool_number (n == 1) ≡ n
bool_number-test zero h = refl
bool_number-test (suc zero) h = refl
bool_number-test (suc (suc n)) h = absurd (omega (arith, leb-true (suc (suc n)) 1 h))

flag-laws : Laws flag
unfolding flag
flag-laws =
    both-laws (tested byte (λ n. nat_le n 1) BadBool at bool_number) (λ n. done (n == 1))
    (tested-laws byte (λ n. nat_le n 1) BadBool byte-laws)
    (λ n. done-laws (n == 1))
    (λ n front s r back t. ap bool_number t.is ∙ bool_number-test n s.passes)

-- a type that is found by a number has it
type-step : (a : FileType) (n : ℕ) (later : Option FileType) → (is_some later ≡ true → type_number (or_else Reg later) ≡ n)
    → (b : Bool) → (n == type_number a) ≡ b → is_some (if b then Some a else later) ≡ true
    → type_number (or_else Reg (if b then Some a else later)) ≡ n
type-step a n later back true e h = sym (eqb-true n (type_number a) e)
type-step a n later back false e h = back h

type-back : (types : List FileType) (n : ℕ) → is_some (named type_number types n) ≡ true
    → type_number (or_else Reg (named type_number types n)) ≡ n
type-back [] n h = absurd cc
type-back (a ∷ others) n h = type-step a n (named type_number others n) (type-back others n) (n == type_number a) refl h

kind-laws : Laws kind
unfolding kind
kind-laws =
    both-laws (tested byte (λ n. is_some (named type_number file_types n)) BadEnum at type_number)
    (λ n. done (or_else Reg (named type_number file_types n)))
    (tested-laws byte (λ n. is_some (named type_number file_types n)) BadEnum byte-laws)
    (λ n. done-laws (or_else Reg (named type_number file_types n)))
    (λ n front s r back t. ap type_number t.is ∙ type-back file_types n s.passes)

-- ---- verifiers

zeros-are : (bytes : List ℕ) → bytes_eq bytes zeros ≡ true → bytes ≡ zeros
zeros-are bytes is = grind (arith, common_steps, bytes_eq-Decides bytes zeros)

other-back : (bytes : List ℕ) → bytes_eq bytes zeros ≡ true → unwrap_or (if_other bytes) zeros ≡ bytes
other-back bytes is = rw is (sym (zeros-are bytes is))

other-none : (bytes : List ℕ) → bytes_eq bytes zeros ≡ true → is_some (if_other bytes) ≡ false
other-none bytes is = rw is refl

no_verifier-laws : Laws no_verifier
unfolding no_verifier
no_verifier-laws =
    both-laws (tested (fixed 8) (λ bytes. bytes_eq bytes zeros) BadEnum at (λ v. unwrap_or v zeros))
    (λ bytes. done (if_other bytes))
    (tested-laws (fixed 8) (λ bytes. bytes_eq bytes zeros) BadEnum (fixed-laws 8))
    (λ bytes. done-laws (if_other bytes))
    (λ bytes front s r back t. ap (λ (v : Option (List ℕ)). unwrap_or v zeros) t.is ∙ other-back bytes s.passes)

none-spelled : AllSpelled no_verifier (λ r. is_some r ≡ false)
unfolding no_verifier
none-spelled r bytes s = ap is_some s.second.is ∙ other-none (unwrap_or r zeros) s.first.passes

-- what follows the flag is there where it says so
there-kept : (there : Bool) (front : List ℕ) → flag.Spells there front
    → AllSpelled (either there (in_case Some (λ v. v) (fixed 8)) no_verifier) (λ r. is_some r ≡ there)
there-kept true front s r bytes t = rw t.made refl
there-kept false front s r bytes t = none-spelled r bytes t

verifier-laws : Laws verifier
unfolding verifier
verifier-laws = search (grammar_laws, flag-laws, no_verifier-laws, there-kept)

-- ---- the row

pub head-laws : Laws head
unfolding head
head-laws = search (grammar_laws, time-laws, kind-laws, verifier-laws) depth 60

pub inode-again : (i : Inode) → Fits i → inode_of (value_of i) ≡ Some i
inode-again i fits =
    ap with_target (head-laws.again i.head (head.spelling i.head) i.target (head-laws.written i.head fits.head))
    ∙ rw (le-leb (length i.target) longest_target fits.target) refl

pub front-bytes : (front rest : List ℕ) → AreBytes (front ++ rest) → AreBytes front
front-bytes [] rest are i = omega arith
front-bytes (x ∷ front) rest are zero = are 0
front-bytes (x ∷ front) rest are (suc i) = front-bytes front rest (λ j. are (suc j)) i

pub inode-fits : (value : List ℕ) (i : Inode) → AreBytes value → inode_of value ≡ Some i → Fits i
inode-fits value i are is = by_reading (head.read value) refl is
  where
    by_length : (h : Head) (target : List ℕ) → head.read value ≡ Ok (h, target) → (short : Bool)
        → nat_le (length target) longest_target ≡ short
        → (if short then Some (record { head = h; target = target }) else None) ≡ Some i → Fits i
    by_length h target reading true fit e =
        let f = head-laws.found value h target reading in
        let same : record { head = h; target = target } ≡ i = cc in
        subst Fits same (record {
          head = head-laws.fits h f.front (front-bytes f.front target (subst AreBytes f.parts are)) f.spelled;
          target = leb-true (length target) longest_target fit;
        })
    by_length h target reading false fit e = absurd (cc)

    by_reading : (reading : Result (Head × List ℕ) XdrFault) → head.read value ≡ reading → with_target reading ≡ Some i → Fits i
    by_reading (Ok (h, target)) reading e = by_length h target reading (nat_le (length target) longest_target) refl e
    by_reading (Err fault) reading e = absurd (cc)

verifier-size : (v : Option (List ℕ)) → verifier.size v ≡ 9
unfolding verifier no_verifier flag byte fixed
verifier-size (Some bytes) = refl
verifier-size None = refl

head-size : (h : Head) → head.size h ≡ 90
unfolding head kind byte time word hyper
head-size h = let v = verifier-size h.kept.verifier in omega (arith, v)

pub inode-short : (i : Inode) → Fits i → length (value_of i) ≤ 1113
unfolding longest_target
inode-short i fits =
    let long : length (head.spelling i.head) ≡ 90 = head-laws.sized i.head (head.spelling i.head)
    (head-laws.written i.head fits.head) ∙ head-size i.head in
    omega (arith, length-append (head.spelling i.head) i.target, long, fits.target)
