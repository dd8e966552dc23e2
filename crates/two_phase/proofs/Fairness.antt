-- A command that was doubted may be asked again.
use Rattle.std.proofs.Common.{◌≡◌, ℕ, zero, suc, ◌==◌, if◌then◌else◌, ap, List, ◌∷◌, ◌++◌, Option, Some, None, refl, sym}
use Rattle.std.proofs.Common.{◌∙◌, subst, inl}
use mathlib.Core.Path.{fun_ext}
use Rattle.pair_types.specs.PageMaps.{PageMap}
use Rattle.nfs3_types.specs.declared.entry.Entry.{Entry}
use Rattle.page_types.specs.declared.outcome.Outcome.{Outcome}
use Rattle.page_types.specs.declared.outcome.Outcome.TheVariants.{Commit, Abort}
use Rattle.page_types.specs.declared.command.Part.{Part}
use Rattle.page_types.specs.declared.command.Decision.{Decision}
use Rattle.page_types.specs.declared.command.Command.{Command}
use Rattle.page_types.specs.declared.command.Command.TheVariants.{Fresh, Read, Look, Write, Prepare, Decide, Resolve}
use Rattle.page_types.specs.declared.journal.JEntry.{JEntry}
use Rattle.page_types.specs.declared.journal.JEntry.TheVariants.{Doubted}
use Rattle.page_types.specs.Asked.{plan_of, part_asked, plan_asked, alone_asked, commit_asked, is_prepared_at, is_told_at, Names}
use Rattle.page_types.specs.Fair.{Known, told_first, seen, reads_alone, writes_alone, reads_of_part, writes_of_part}
use Rattle.page_types.specs.Fair.{reads_of_all, writes_of_all, AreKnown, IsRight, CommitFair, DecisionFair, IsFair}
use Rattle.two_phase.specs.Tries.{doubted}
use Rattle.two_phase.proofs.Basics.{first_end, again_more, eq_self, same_self, any_more}

pub seen_doubt : (es : List JEntry) (pass p : ℕ) (c : Command) → seen (Doubted pass p c ∷ es) ≡ seen es
seen_doubt es pass p c = fun_ext (λ q. fun_ext (λ n. fun_ext (λ v.
    ap (λ (x : Option (Option (List ℕ))). if v == 0 then Some None else x) (first_end (told_first q n v es)))))

module _ {S : Type 0} (stands : PageMap → S → Type 0) (next : S → List ℕ → Entry → S → Type 0) (stores : ℕ) where
  commit_again : (es : List JEntry) (pass p : ℕ) (d : Decision) (en : Option Entry) → d.outcome ≡ Commit en →
      CommitFair stands next (seen es) es pass p d.tid en →
      CommitFair stands next (seen (Doubted pass p (Decide d) ∷ es)) (Doubted pass p (Decide d) ∷ es) pass p d.tid en
  commit_again es pass p d en is f = record {
    of_pass = f.of_pass;
    plan = f.plan;
    planned = first_end (plan_asked es d.tid) ∙ f.planned;
    home = f.home;
    again = rw (same_self d.tid, is) (again_more (commit_asked es d.tid) en f.again);
    prepared = λ q h. any_more (is_prepared_at d.tid q) es (Doubted pass p (Decide d)) (f.prepared q h);
    are_known = λ q part h. subst (λ (k : Known). AreKnown k q part.reads) (sym (seen_doubt es pass p (Decide d)))
        (f.are_known q part (sym (first_end (part_asked es d.tid q)) ∙ h));
    entry = f.entry;
    right = subst
        (λ (k : Known). IsRight stands next (reads_of_all k (Doubted pass p (Decide d) ∷ es) d.tid)
        (writes_of_all (Doubted pass p (Decide d) ∷ es) d.tid) en)
        (sym (seen_doubt es pass p (Decide d)))
        (subst
        (λ (h : ℕ → Option Part). IsRight stands next (λ s. reads_of_part (seen es) (h s.store) s)
        (λ s. writes_of_part (h s.store) s) en)
        (sym parts) f.right);
  }
    where
      parts : ◌≡◌ {A = ℕ → Option Part} (λ q. part_asked (Doubted pass p (Decide d) ∷ es) d.tid q)
          (λ q. part_asked es d.tid q)
      parts = fun_ext (λ q. first_end (part_asked es d.tid q))

  fair_again : (es : List JEntry) (pass p : ℕ) (c : Command) → IsFair stands next stores es pass p c →
      IsFair stands next stores (Doubted pass p c ∷ es) pass p c
  fair_again es pass p Fresh f = tt
  fair_again es pass p (Read n) f = tt
  fair_again es pass p (Look ns) f = tt
  fair_again es pass p (Write x) f = record {
    of_pass = f.of_pass;
    accesses = f.accesses;
    again = rw (same_self x.tid) (again_more (alone_asked es x.tid) _ f.again);
    not_planned = first_end (plan_asked es x.tid) ∙ f.not_planned;
    are_known =
        subst (λ (k : Known). AreKnown k p x.reads) (sym (seen_doubt es pass p (Write x))) f.are_known;
    entry = f.entry;
    right = subst
        (λ (k : Known). IsRight stands next (reads_alone k (record { store = p; transaction = x }))
        (writes_alone (record { store = p; transaction = x })) x.entry)
        (sym (seen_doubt es pass p (Write x))) f.right;
  }
  fair_again es pass p (Prepare part) f = record {
    of_pass = f.of_pass;
    accesses = f.accesses;
    not_alone = first_end (alone_asked es part.tid) ∙ f.not_alone;
    again = rw (eq_self p, same_self part.tid) (again_more (part_asked es part.tid p) part f.again);
    planned = rw (same_self part.tid) (again_more (plan_asked es part.tid) (plan_of part) f.planned);
    here = f.here;
    home = f.home;
    lowest = f.lowest;
    below = f.below;
  }
  fair_again es pass p (Decide d) f = at d.outcome refl f
    where
      at : (out : Outcome) → d.outcome ≡ out → DecisionFair stands next (seen es) (Names es) es pass p d.tid out →
          DecisionFair stands next (seen (Doubted pass p (Decide d) ∷ es)) (Names (Doubted pass p (Decide d) ∷ es))
          (Doubted pass p (Decide d) ∷ es) pass p d.tid out
      at (Commit en) is f = commit_again es pass p d en is f
      at Abort is f = record { plan = f.plan; planned = inl f.planned; home = f.home }
  fair_again es pass p (Resolve r) f = record {
    plan = f.plan;
    planned = inl f.planned;
    here = f.here;
    told = any_more (is_told_at pass r.tid f.plan.home r.commit) es (Doubted pass p (Resolve r)) f.told;
  }

  pub again_times : (times : ℕ) (es : List JEntry) (pass p : ℕ) (c : Command) → IsFair stands next stores es pass p c →
      IsFair stands next stores (doubted times (Doubted pass p c) ++ es) pass p c
  again_times zero es pass p c f = f
  again_times (suc times) es pass p c f =
      fair_again (doubted times (Doubted pass p c) ++ es) pass p c (again_times times es pass p c f)
