-- What a reading of a whole text says of the text.
use Rattle.std.proofs.Common.{◌≡◌, ℕ, List, length, Result, Ok, Err, IfOk, IfErr, sym, ◌∙◌}
use Rattle.xdr_grammar.specs.declared.fault.XdrFault.{XdrFault}
use Rattle.xdr_grammar.specs.Grammar.{Grammar}
use Rattle.xdr_grammar.specs.Reading.{GivesWhole}
use Rattle.xdr_grammar.specs.Whole.{whole, BreaksWhole}
use Rattle.xdr_grammar.specs.Laws.{Laws, AreBytes, AllSpelled}
use Rattle.xdr_grammar.proofs.Whole.{whole-laws}

pub gives-found : {A : Type 0} (g : Grammar A) → Laws g → (bytes : List ℕ) (r : Result A XdrFault)
    → GivesWhole (λ x. x) (whole g bytes) r → IfOk r (λ v. g.Spells v bytes)
gives-found g laws bytes (Ok v) e = (whole-laws g laws).found bytes v e
gives-found g laws bytes (Err fault) e = tt

pub gives-only : {A : Type 0} (g : Grammar A) → Laws g → (bytes : List ℕ) (r : Result A XdrFault)
    → GivesWhole (λ x. x) (whole g bytes) r
    → (v : A) → g.Spells v bytes → r ≡ Ok v
gives-only g laws bytes (Ok w) e v s = sym e ∙ (whole-laws g laws).again v bytes s
gives-only g laws bytes (Err fault) e v s = sym e ∙ (whole-laws g laws).again v bytes s

pub gives-fault : {A : Type 0} (g : Grammar A) → Laws g → (bytes : List ℕ) (r : Result A XdrFault)
    → GivesWhole (λ x. x) (whole g bytes) r → IfErr r (λ fault. BreaksWhole g bytes fault)
gives-fault g laws bytes (Ok v) e = tt
gives-fault g laws bytes (Err fault) e = (whole-laws g laws).breaks bytes fault e

pub gives-fits : {A : Type 0} (g : Grammar A) → Laws g → (bytes : List ℕ) → AreBytes bytes → (r : Result A XdrFault)
    → GivesWhole (λ x. x) (whole g bytes) r → IfOk r (λ v. g.Fits v)
gives-fits g laws bytes are (Ok v) e = laws.fits v bytes are ((whole-laws g laws).found bytes v e)
gives-fits g laws bytes are (Err fault) e = tt

pub gives-size : {A : Type 0} (g : Grammar A) → Laws g → (bytes : List ℕ) (r : Result A XdrFault)
    → GivesWhole (λ x. x) (whole g bytes) r → IfOk r (λ v. g.size v ≡ length bytes)
gives-size g laws bytes (Ok v) e = sym (laws.sized v bytes ((whole-laws g laws).found bytes v e))
gives-size g laws bytes (Err fault) e = tt

pub gives-all : {A : Type 0} (g : Grammar A) → Laws g → (bytes : List ℕ) (r : Result A XdrFault) (P : A → Type 0)
    → GivesWhole (λ x. x) (whole g bytes) r → AllSpelled g P → IfOk r P
gives-all g laws bytes (Ok v) P e all = all v bytes ((whole-laws g laws).found bytes v e)
gives-all g laws bytes (Err fault) P e all = tt
