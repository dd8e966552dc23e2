-- What a journal lets a pass know.
use Rattle.std.proofs.Common.{◌≡◌, ℕ, ◌==◌, ◌&&◌, ◌||◌, Bool, true, false, cond, List, [], ◌∷◌, Option, Some, None, refl, ap}
use Rattle.std.proofs.Common.{subst, sym, ◌∙◌, unwrap_or}
use Rattle.std.specs.Prelude.{IsSome, reverse}
use Rattle.std.specs.List.{list_any}
use Rattle.std.proofs.lemmas.List.Sorted.{list_any-IsPermutation, IsPermutation-reverse}
use Rattle.page_types.specs.declared.versions.PageRead.{PageRead}
use Rattle.page_types.specs.declared.command.Command.TheVariants.{Read}
use Rattle.page_types.specs.declared.answer.Answer.TheVariants.{Page}
use Rattle.page_types.specs.declared.journal.JEntry.{JEntry}
use Rattle.page_types.specs.declared.journal.JEntry.TheVariants.{Took}
use Rattle.page_types.specs.Asked.{first_of}
use Rattle.page_types.specs.Journals.{own, is_of}
use Rattle.page_types.specs.Fair.{Known, told_in, told_first, AreKnown}
use Rattle.two_phase.proofs.Basics.{eq_true}
use Rattle.commit_checks.specs.Rights.{answers, known_by}

and_true : (a b : Bool) → (a && b) ≡ true → (a ≡ true) × (b ≡ true)
and_true true b h = (refl, h)
and_true false b h = absurd cc

-- ## None of one's own entries passes a test that no entry passes

none_own : (f : JEntry → Bool) (pass : ℕ) (es : List JEntry) → list_any f es ≡ false → list_any f (own pass es) ≡ false
none_own f pass [] h = refl
none_own f pass (e ∷ es) h = at (f e) refl h (none_own f pass es)
  where
    keep : (b : Bool) → f e ≡ false → list_any f (own pass es) ≡ false →
        list_any f (cond b (e ∷ own pass es) (own pass es)) ≡ false
    keep true is rest = rw (is, rest) refl
    keep false is rest = rest

    at : (b : Bool) → f e ≡ b → (b || list_any f es) ≡ false → (list_any f es ≡ false → list_any f (own pass es) ≡ false) →
        list_any f (own pass (e ∷ es)) ≡ false
    at true is h rest = absurd cc
    at false is h rest = keep (is_of pass e) is (rest h)

pub none_of_own : (f : JEntry → Bool) (pass : ℕ) (journal : List JEntry) → list_any f journal ≡ false →
    list_any f (own pass (reverse journal)) ≡ false
none_of_own f pass journal h =
    none_own f pass (reverse journal)
    (sym (list_any-IsPermutation f journal (reverse journal) (IsPermutation-reverse journal)) ∙ h)

-- ## What was read is known

some_left : {A : Type 0} (x y : Option A) → IsSome x → IsSome (first_of x y)
some_left None y h = absurd cc
some_left (Some a) y h = h

some_right : {A : Type 0} (x y : Option A) → IsSome y → IsSome (first_of x y)
some_right None y h = h
some_right (Some a) y h = refl

module _ (pass here n v : ℕ) where
  some_if : {A : Type 0} (b : Bool) (x : A) → b ≡ true → IsSome (cond b (Some x) None)
  some_if true x is = refl
  some_if false x is = absurd cc

  told_one : (e : JEntry) → answers pass here n v e ≡ true → (is_of pass e ≡ true) × IsSome (told_in here n v e)
  told_one (Took asker store (Read m) (Page w content)) h =
      let a = and_true (asker == pass) ((store == here) && ((m == n) && (w == v))) h in
      (a.0, some_if ((store == here) && ((m == n) && (w == v))) (Some content) a.1)
  told_one e h = absurd cc

  kept : (b : Bool) (e : JEntry) (es : List JEntry) → IsSome (told_first here n v es) →
      IsSome (told_first here n v (cond b (e ∷ es) es))
  kept true e es h = some_left (told_first here n v es) (told_in here n v e) h
  kept false e es h = h

  come : (b : Bool) (e : JEntry) (es : List JEntry) → b ≡ true → IsSome (told_in here n v e) →
      IsSome (told_first here n v (cond b (e ∷ es) es))
  come true e es is h = some_right (told_first here n v es) (told_in here n v e) h
  come false e es is h = absurd cc

  told_some : (es : List JEntry) → list_any (answers pass here n v) es ≡ true → IsSome (told_first here n v (own pass es))
  told_some [] h = absurd cc
  told_some (e ∷ es) h = at (answers pass here n v e) refl h (told_some es)
    where
      at : (b : Bool) → answers pass here n v e ≡ b → (b || list_any (answers pass here n v) es) ≡ true →
          (list_any (answers pass here n v) es ≡ true → IsSome (told_first here n v (own pass es))) →
          IsSome (told_first here n v (own pass (e ∷ es)))
      at true is h rest = let o = told_one e is in come (is_of pass e) e (own pass es) o.0 o.1
      at false is h rest = kept (is_of pass e) e (own pass es) (rest h)

  seen_some : (b : Bool) (es : List JEntry) → IsSome (told_first here n v es) →
      IsSome (cond b (Some None) (told_first here n v es))
  seen_some true es h = refl
  seen_some false es h = h

  pub known_some : (journal : List JEntry) → list_any (answers pass here n v) journal ≡ true →
      IsSome (known_by pass journal here n v)
  known_some journal h =
      seen_some (v == 0) (own pass (reverse journal)) (told_some (reverse journal)
      (sym (list_any-IsPermutation (answers pass here n v) journal (reverse journal) (IsPermutation-reverse journal)) ∙ h))

-- no page was ever written at version 0
pub known_absent : (pass here n v : ℕ) (journal : List JEntry) → v ≡ 0 → IsSome (known_by pass journal here n v)
known_absent pass here n v journal is = rw is refl

-- ## One page that was read, or two

module _ (known : Known) (here : ℕ) where
  read_first : (r : PageRead) (number version : ℕ) (rest : Option ℕ) → IsSome (known here r.number r.version) →
      (rest ≡ Some version → IsSome (known here number version)) → (b : Bool) → (r.number == number) ≡ b →
      cond b (Some r.version) rest ≡ Some version → IsSome (known here number version)
  read_first r number version rest h later true is e =
      subst (λ m. IsSome (known here m version)) (eq_true r.number number is)
      (subst (λ w. IsSome (known here r.number w)) (ap (λ (o : Option ℕ). unwrap_or o 0) e) h)
  read_first r number version rest h later false is e = later e

  pub one_known : (r : PageRead) → IsSome (known here r.number r.version) → AreKnown known here (r ∷ [])
  one_known r h number version e = read_first r number version None h (λ x. absurd cc) (r.number == number) refl e

  pub two_known : (r s : PageRead) → IsSome (known here r.number r.version) → IsSome (known here s.number s.version) →
      AreKnown known here (r ∷ s ∷ [])
  two_known r s h g number version e =
      read_first r number version (cond (s.number == number) (Some s.version) None) h
      (λ x. one_known s g number version x) (r.number == number) refl e
