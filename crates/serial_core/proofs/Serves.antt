-- A lawful journal is serial, and what its steps say of versions.
use Rattle.std.proofs.Common.{◌≡◌, ℕ, ◌+◌, ◌≤◌, ◌==◌, false, List, [], ◌∷◌, ◌++◌, Option, Some, None, refl, ap}
use Rattle.std.proofs.Common.{sym, ◌∙◌, subst, arith}
use mathlib.Core.Path.{fun_ext}
use Rattle.std.proofs.lemmas.Bool.Decides.{nat_tests}
use Rattle.pair_types.specs.declared.slot.Slot.{Slot}
use Rattle.pair_types.specs.PageMaps.{PageMap, Agrees, laid, over, page_of}
use Rattle.nfs3_types.specs.declared.entry.Entry.{Entry}
use Rattle.page_types.specs.declared.journal.JEntry.{JEntry}
use Rattle.page_types.specs.Journals.{Origin}
use Rattle.page_types.specs.Fair.{Leads, root}
use Rattle.page_types.specs.Stores.{Kept}
use Rattle.serial_rules.specs.Worlds.{World, first_world, replay}
use Rattle.serial_rules.specs.Committed.{Committed, committed, present, shown, rewritten, with_writes}
use Rattle.serial_rules.specs.History.{Effect, effect_of, served_by, happened, history}
use Rattle.serial_rules.specs.Lawful.{IsLawful}
use Rattle.serial_rules.specs.Serial.{ReadsCommitted, Acts, IsStep, Goes, Serves, IsSerial}
use Rattle.serial_rules.specs.Versions.{VersionsRise, AreSameAtVersions}
use Rattle.serial_core.proofs.Moves.{Moves, Stays, Rises, moves_applied}
use Rattle.serial_core.proofs.Law.{step_of}

present_rewritten : (w : Option (List ℕ)) (c : Committed) → present (rewritten w c) ≡ laid w (present c)
present_rewritten None c = refl
present_rewritten (Some page) c = let t : (c.version + 1 == 0) ≡ false = grind (arith, nat_tests) in rw t refl

shown_over : (v w : World) (W : PageMap) → committed w ≡ with_writes W (committed v) → shown w ≡ over W (shown v)
shown_over v w W is =
    ap (λ (c : Slot → Committed). λ s. present (c s)) is ∙ fun_ext (λ s. present_rewritten (W s) (committed v s))

shown_same : (v w : World) → committed w ≡ committed v → shown w ≡ shown v
shown_same v w is = ap (λ (c : Slot → Committed). λ s. present (c s)) is

reads_agree : (w : World) (effect : Effect) → ReadsCommitted w effect → Agrees effect.reads (shown w)
reads_agree w effect r = record { at = λ s held h. one s held h (effect.versions s) refl }
  where
    one : (s : Slot) (held : Option (List ℕ)) → effect.reads s ≡ Some held → (v : Option ℕ) → effect.versions s ≡ v →
        shown w s ≡ held
    one s held h None is = absurd (let none = r.no_more s is in cc)
    one s held h (Some v) is = let page = r.page_is s v is in cc

module _ {S : Type 0} (stands : PageMap → S → Type 0) (next : S → List ℕ → Entry → S → Type 0) (o : Origin) where
  pub lawful_before : (later es : List JEntry) → IsLawful stands next o (later ++ es) → IsLawful stands next o es
  lawful_before [] es law = law
  lawful_before (e ∷ later) es law = lawful_before later es law.0

  -- an effect leads where its entry leads
  acts_serves : (first : S) (es : List JEntry) (e : JEntry) (effect : Effect) →
      Acts stands next (replay o es) (replay o (e ∷ es)) effect → Serves stands next o first es →
      (last : S) × Goes stands next first (happened (page_of (shown (replay o es) root)) (Some effect) ++ history o es) last ×
      stands (shown (replay o (e ∷ es))) last
  acts_serves first es e effect a s =
      at effect.entry (a.right (shown (replay o es)) s.0 (reads_agree (replay o es) effect a.reads_committed) s.2)
    where
      is : shown (replay o (e ∷ es)) ≡ over effect.writes (shown (replay o es))
      is = shown_over (replay o es) (replay o (e ∷ es)) effect.writes a.written

      at : (en : Option Entry) →
          Leads stands next s.0 (page_of (shown (replay o es) root)) en
          (λ led. stands (over effect.writes (shown (replay o es))) led) →
          (last : S) × Goes stands next first (served_by (page_of (shown (replay o es) root)) en ++ history o es) last ×
          stands (shown (replay o (e ∷ es))) last
      at None led = (s.0, s.1, subst (λ P. stands P s.0) (sym is) led)
      at (Some en) led = (led.0, (s.0, s.1, led.1), subst (λ P. stands P led.0) (sym is) led.2)

  serves_more : (first : S) (es : List JEntry) (e : JEntry) (ef : Option Effect) →
      IsStep stands next (replay o es) (replay o (e ∷ es)) ef → Serves stands next o first es →
      (last : S) × Goes stands next first (happened (page_of (shown (replay o es) root)) ef ++ history o es) last ×
      stands (shown (replay o (e ∷ es))) last
  serves_more first es e None step s =
      (s.0, s.1, subst (λ P. stands P s.0) (sym (shown_same (replay o es) (replay o (e ∷ es)) step)) s.2)
  serves_more first es e (Some effect) step s = acts_serves first es e effect step s

  pub serves : (first : S) → stands (shown (first_world o)) first → (es : List JEntry) → IsLawful stands next o es →
      Serves stands next o first es
  serves first st [] law = (first, refl, st)
  serves first st (e ∷ es) law =
      serves_more first es e (effect_of o es e) (step_of stands next o es e law) (serves first st es law.0)

  pub is_serial : (first : S) (es : List JEntry) → stands (shown (first_world o)) first → IsLawful stands next o es →
      IsSerial stands next o first es
  is_serial first es st law = record {
    legal = let s = serves first st es law in (s.0, s.1);
    serves = serves first st es law;
    steps = λ later e earlier is.
        step_of stands next o earlier e (lawful_before later (e ∷ earlier) (subst (IsLawful stands next o) is law));
  }

  -- ## Versions

  -- what is committed stays, or its version rises by one
  pub data Advances (c d : Committed) : Type 0 where
    IsSame : d ≡ c → Advances c d
    IsNext : d.version ≡ c.version + 1 → Advances c d

  advances : (v w : World) (ef : Option Effect) → IsStep stands next v w ef → (s : Slot) →
      Advances (committed v s) (committed w s)
  advances v w None step s = IsSame (ap (λ (c : Slot → Committed). c s) step)
  advances v w (Some effect) step s = at (effect.writes s) (ap (λ (c : Slot → Committed). c s) step.written)
    where
      at : (x : Option (List ℕ)) → committed w s ≡ rewritten x (committed v s) → Advances (committed v s) (committed w s)
      at None is = IsSame is
      at (Some page) is = IsNext (ap (λ (c : Committed). c.version) is)

  -- from an earlier page to a later one
  record Since (version : ℕ) (now : ℕ) (Same : Type 0) : Type 0 where
    rises : version ≤ now
    same : version ≡ now → Same

  kept_since : (later es : List JEntry) (p n : ℕ) →
      Since ((replay o es p).slot n).version ((replay o (later ++ es) p).slot n).version
      ((((replay o es p).slot n).content ≡ ((replay o (later ++ es) p).slot n).content) ×
      (((replay o es p).slot n).by ≡ ((replay o (later ++ es) p).slot n).by))
  kept_since [] es p n = record { rises = omega arith; same = λ _. (refl, refl) }
  kept_since (e ∷ later) es p n =
      at ((replay o es p).slot n) ((replay o (later ++ es) p).slot n) ((replay o ((e ∷ later) ++ es) p).slot n)
      (kept_since later es p n) (moves_applied (replay o (later ++ es)) e p n)
    where
      at : (j k l : Kept) → Since j.version k.version ((j.content ≡ k.content) × (j.by ≡ k.by)) → Moves k l →
          Since j.version l.version ((j.content ≡ l.content) × (j.by ≡ l.by))
      at j k l s (Stays version content by) = record {
        rises = let r = s.rises in omega (arith, version);
        same = λ is. (let b = s.same (is ∙ version) in (b.0 ∙ sym content, b.1 ∙ sym by));
      }
      at j k l s (Rises up) = record {
        rises = let r = s.rises in omega (arith, up);
        same = λ is. absurd (let r = s.rises in omega (arith, up, is));
      }

  committed_since : (later es : List JEntry) → IsLawful stands next o (later ++ es) → (s : Slot) →
      Since (committed (replay o es) s).version (committed (replay o (later ++ es)) s).version
      (committed (replay o es) s ≡ committed (replay o (later ++ es)) s)
  committed_since [] es law s = record { rises = omega arith; same = λ _. refl }
  committed_since (e ∷ later) es law s =
      at (committed (replay o es) s) (committed (replay o (later ++ es)) s) (committed (replay o ((e ∷ later) ++ es)) s)
      (committed_since later es law.0 s)
      (advances (replay o (later ++ es)) (replay o ((e ∷ later) ++ es)) (effect_of o (later ++ es) e)
      (step_of stands next o (later ++ es) e law) s)
    where
      at : (b c d : Committed) → Since b.version c.version (b ≡ c) → Advances c d → Since b.version d.version (b ≡ d)
      at b c d s (IsSame is) = record {
        rises = subst (λ (x : Committed). b.version ≤ x.version) (sym is) s.rises;
        same = λ v. s.same (v ∙ ap (λ (x : Committed). x.version) is) ∙ sym is;
      }
      at b c d s (IsNext up) = record {
        rises = let r = s.rises in omega (arith, up);
        same = λ v. absurd (let r = s.rises in omega (arith, up, v));
      }

  pub versions_rise : (later es : List JEntry) → IsLawful stands next o (later ++ es) →
      VersionsRise (replay o es) (replay o (later ++ es))
  versions_rise later es law = record {
    kept = λ p n. (kept_since later es p n).rises;
    of_committed = λ s. (committed_since later es law s).rises;
  }

  pub equal_versions : (later es : List JEntry) → IsLawful stands next o (later ++ es) →
      AreSameAtVersions (replay o es) (replay o (later ++ es))
  equal_versions later es law = record {
    content = λ p n is. ((kept_since later es p n).same is).0;
    by = λ p n is. ((kept_since later es p n).same is).1;
    of_committed = λ s is. (committed_since later es law s).same is;
  }
