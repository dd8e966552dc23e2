-- A page that is told at a version is the one that the store kept at it, which is told of it first.
use Rattle.std.proofs.Common.{◌≡◌, ℕ, ◌==◌, ◌&&◌, Bool, true, false, cond, List, [], ◌∷◌, ◌++◌, Option, Some, None, ◌⊎◌}
use Rattle.std.proofs.Common.{inl, inr, refl, ap, sym, ◌∙◌, subst, arith}
use Rattle.std.specs.Prelude.{Contains}
use Rattle.std.proofs.lemmas.Bool.Decides.{nat_tests}
use Rattle.std.proofs.lemmas.List.Elements.{Contains-append_cases, Contains-push_cases}
use Rattle.pair_types.specs.PageMaps.{PageMap}
use Rattle.nfs3_types.specs.declared.entry.Entry.{Entry}
use Rattle.page_types.specs.declared.hold.WriteHold.{WriteHold}
use Rattle.page_types.specs.declared.command.Command.TheVariants.{Read}
use Rattle.page_types.specs.declared.answer.Answer.TheVariants.{Page}
use Rattle.page_types.specs.declared.journal.JEntry.{JEntry}
use Rattle.page_types.specs.declared.journal.JEntry.TheVariants.{Took}
use Rattle.page_types.specs.Journals.{Origin, is_of, own}
use Rattle.page_types.specs.Asked.{first_of}
use Rattle.page_types.specs.Stores.{Kept}
use Rattle.page_types.specs.Obeys.{page_answer, answer_of}
use Rattle.page_types.specs.Fair.{told_by, told_in, told_first}
use Rattle.serial_rules.specs.Worlds.{World, replay}
use Rattle.serial_rules.specs.Lawful.{IsMet, IsLawful}
use Rattle.serial_core.proofs.Serves.{equal_versions}
use Rattle.steady_port.specs.Steady.{IsSteady}

eq_true : (p q : ℕ) → (p == q) ≡ true → p ≡ q
eq_true p q h = grind (arith, nat_tests)

-- the store keeps this page at this version
record Keeps (world : World) (store number version : ℕ) (page : Option (List ℕ)) : Type 0 where
  pub version_is : ((world store).slot number).version ≡ version
  pub page_is : Some ((world store).slot number).content ≡ page

kept_page : (number : ℕ) (kept : Kept) (o : Option WriteHold) (version : ℕ) (content : List ℕ) →
    Page version content ≡ page_answer number kept o → (kept.version ≡ version) × (kept.content ≡ content)
kept_page number kept None version content is = (cc, cc)
kept_page number kept (Some w) version content is = absurd cc

told_kept : (world : World) (store number version q n : ℕ) (v : ℕ) (content : List ℕ) (page : Option (List ℕ)) →
    Page v content ≡ answer_of (world q) (Read n) →
    told_by store number version q (Read n) (Page v content) ≡ Some page → Keeps world store number version page
told_kept world store number version q n v content page given told =
    at (q == store) refl (n == number) refl (v == version) refl told
  where
    at : (x : Bool) → (q == store) ≡ x → (y : Bool) → (n == number) ≡ y → (z : Bool) → (v == version) ≡ z →
        cond (x && (y && z)) (Some (Some content)) None ≡ Some page → Keeps world store number version page
    at true is_q true is_n true is_v told =
        let kept = kept_page n ((world q).slot n) ((world q).slot n).writer v content given in
        let there : Keeps world q n v (Some content) =
        record { version_is = kept.0; page_is = ap (λ (c : List ℕ). Some c) kept.1 } in
        let same : Some content ≡ page = cc in
        subst (λ (o : Option (List ℕ)). Keeps world store number version o) same
        (subst (λ (k : ℕ). Keeps world store number k (Some content)) (eq_true v version is_v)
        (subst (λ (k : ℕ). Keeps world store k v (Some content)) (eq_true n number is_n)
        (subst (λ (k : ℕ). Keeps world k n v (Some content)) (eq_true q store is_q) there)))
    at true is_q true is_n false is_v told = absurd cc
    at true is_q false is_n z is_v told = absurd cc
    at false is_q y is_n z is_v told = absurd cc

module _ {S : Type 0} (stands : PageMap → S → Type 0) (next : S → List ℕ → Entry → S → Type 0) (o : Origin) where
  -- what a lawful entry tells was kept
  told_lawful : (es : List JEntry) (e : JEntry) → IsMet stands next o es e → (store number version : ℕ)
      (page : Option (List ℕ)) → told_in store number version e ≡ Some page →
      Keeps (replay o es) store number version page
  told_lawful es (Took pass q (Read n) (Page v content)) met store number version page told =
      told_kept (replay o es) store number version q n v content page met.0.given told
  told_lawful es e met store number version page told = absurd cc

  -- a page was told of a version at some time before, and was kept then
  record WasKept (es : List JEntry) (store number version : ℕ) (page : Option (List ℕ)) : Type 0 where
    pub later : List JEntry
    pub before : List JEntry
    pub is : es ≡ later ++ before
    pub keeps : Keeps (replay o before) store number version page

  kept_before : (es : List JEntry) (e : JEntry) (store number version : ℕ) (page : Option (List ℕ)) →
      WasKept es store number version page → WasKept (e ∷ es) store number version page
  kept_before es e store number version page w =
      record { later = e ∷ w.later; before = w.before; is = ap (λ (l : List JEntry). e ∷ l) w.is; keeps = w.keeps }

  first_kept : (pass : ℕ) (es : List JEntry) → IsLawful stands next o es → (store number version : ℕ)
      (page : Option (List ℕ)) → told_first store number version (own pass es) ≡ Some page →
      WasKept es store number version page
  first_kept pass [] law store number version page told = absurd cc
  first_kept pass (e ∷ es) law store number version page told =
      at (is_of pass e) told (λ was. first_kept pass es law.0 store number version page was)
    where
      here : (x : Option (Option (List ℕ))) → told_first store number version (own pass es) ≡ x →
          first_of x (told_in store number version e) ≡ Some page →
          (told_first store number version (own pass es) ≡ Some page → WasKept es store number version page) →
          WasKept (e ∷ es) store number version page
      here (Some before) was is rest = kept_before es e store number version page (rest (was ∙ is))
      here None was is rest = record {
        later = e ∷ [];
        before = es;
        is = refl;
        keeps = told_lawful es e law.1 store number version page is;
      }

      at : (b : Bool) → told_first store number version (cond b (e ∷ own pass es) (own pass es)) ≡ Some page →
          (told_first store number version (own pass es) ≡ Some page → WasKept es store number version page) →
          WasKept (e ∷ es) store number version page
      at true told rest = here (told_first store number version (own pass es)) refl told rest
      at false told rest = kept_before es e store number version page (rest told)

  -- what is told now is what was told first
  told_again : (pass : ℕ) (es : List JEntry) → IsLawful stands next o es → (e : JEntry) → IsMet stands next o es e →
      (store number version : ℕ) (page : Option (List ℕ)) → told_in store number version e ≡ Some page →
      told_first store number version (e ∷ own pass es) ≡ Some page
  told_again pass es law e met store number version page told =
      at (told_first store number version (own pass es)) refl
    where
      same : (before : Option (List ℕ)) → WasKept es store number version before → before ≡ page
      same before w =
          let now = told_lawful es e met store number version page told in
          let law_then : IsLawful stands next o (w.later ++ w.before) =
          subst (λ (l : List JEntry). IsLawful stands next o l) w.is law in
          let replayed : Keeps (replay o (w.later ++ w.before)) store number version page =
          subst (λ (l : List JEntry). Keeps (replay o l) store number version page) w.is now in
          let equal = (equal_versions stands next o w.later w.before law_then).content store number
          (w.keeps.version_is ∙ sym replayed.version_is) in
          sym w.keeps.page_is ∙ (ap (λ (c : List ℕ). Some c) equal ∙ replayed.page_is)

      at : (x : Option (Option (List ℕ))) → told_first store number version (own pass es) ≡ x →
          first_of x (told_in store number version e) ≡ Some page
      at None was = told
      at (Some before) was = ap (λ (p : Option (List ℕ)). Some p)
          (same before (first_kept pass es law store number version before was))

  none_in : (e : JEntry) → Contains {X = JEntry} [] e → ⊥
  none_in e c = let lt = c.1 in omega (arith, lt)

  pub own_steady : (es : List JEntry) → IsLawful stands next o es → (pass : ℕ) → IsSteady (own pass es)
  own_steady [] law pass = record { same = λ e c. absurd (none_in e c) }
  own_steady (x ∷ es) law pass = at (is_of pass x) (own_steady es law.0 pass)
    where
      more : IsSteady (own pass es) → IsSteady (x ∷ own pass es)
      more steady = record {
        same = λ e c store number version page told.
            of_entry e store number version page told (Contains-append_cases (x ∷ []) (own pass es) e c);
      }
        where
          known : (o : Option (Option (List ℕ))) (later : Option (Option (List ℕ))) (page : Option (List ℕ)) → o ≡ Some page →
              first_of o later ≡ Some page
          known o later page is = rw is refl

          one : (e : JEntry) (store number version : ℕ) (page : Option (List ℕ)) → told_in store number version e ≡ Some page →
              Contains {X = JEntry} [] e ⊎ (x ≡ e) → told_first store number version (x ∷ own pass es) ≡ Some page
          one e store number version page told (inl none) = absurd (none_in e none)
          one e store number version page told (inr same) =
              told_again pass es law.0 x law.1 store number version page
              (subst (λ (y : JEntry). told_in store number version y ≡ Some page) (sym same) told)

          of_entry : (e : JEntry) (store number version : ℕ) (page : Option (List ℕ)) →
              told_in store number version e ≡ Some page → Contains (x ∷ []) e ⊎ Contains (own pass es) e →
              told_first store number version (x ∷ own pass es) ≡ Some page
          of_entry e store number version page told (inl first) =
              one e store number version page told (Contains-push_cases [] x e first)
          of_entry e store number version page told (inr rest) =
              known (told_first store number version (own pass es)) (told_in store number version x) page
              (steady.same e rest store number version page told)

      at : (b : Bool) → IsSteady (own pass es) → IsSteady (cond b (x ∷ own pass es) (own pass es))
      at true steady = more steady
      at false steady = steady
