-- A journal is lawful where the answers are the stores' and each pass's own entries are fair.
use Rattle.std.proofs.Common.{◌≡◌, ℕ, ◌==◌, Bool, true, false, cond, List, [], ◌∷◌, Option, Some, None, sym, ◌∙◌, subst}
use mathlib.Core.Path.{fun_ext}
use Rattle.pair_types.specs.declared.slot.Slot.{Slot}
use Rattle.pair_types.specs.declared.slot.Tid.{Tid}
use Rattle.pair_types.specs.PageMaps.{PageMap}
use Rattle.nfs3_types.specs.declared.entry.Entry.{Entry}
use Rattle.page_types.specs.declared.outcome.Outcome.{Outcome}
use Rattle.page_types.specs.declared.outcome.Outcome.TheVariants.{Commit, Abort}
use Rattle.page_types.specs.declared.versions.PageRead.{PageRead}
use Rattle.page_types.specs.declared.command.Transaction.{Transaction}
use Rattle.page_types.specs.declared.command.Part.{Part}
use Rattle.page_types.specs.declared.command.Command.{Command}
use Rattle.page_types.specs.declared.command.Command.TheVariants.{Fresh, Read, Look, Write, Prepare, Decide, Resolve}
use Rattle.page_types.specs.declared.journal.JEntry.{JEntry}
use Rattle.page_types.specs.declared.journal.JEntry.TheVariants.{Took, Doubted, Late}
use Rattle.page_types.specs.Accesses.{read_at}
use Rattle.page_types.specs.Journals.{Origin, is_of, own}
use Rattle.page_types.specs.Asked.{Plan, plan_of, part_in, plan_in, alone_in, commit_in, part_asked}
use Rattle.page_types.specs.Asked.{is_prepared_at, is_told_at, Names}
use Rattle.page_types.specs.Fair.{seen, read_then, reads_alone, writes_alone, reads_of_part, writes_of_part, IsAgain, AreKnown}
use Rattle.page_types.specs.Fair.{PartFair, IsRight, AloneFair, CommitFair, DecisionFair, IsFair}
use Rattle.serial_rules.specs.Contents.{content_at}
use Rattle.serial_rules.specs.Lawful.{Answered, IsPlan, IsAllowed, IsLawful, FairList}
use Rattle.serial_core.proofs.Basics.{some_more, eq_self}
use Rattle.serial_core.proofs.Law.{right_more}
use Rattle.serial_core.proofs.Commands.{alone_at}
use Rattle.serial_core.proofs.Own.{only_part, only_plan, only_alone, only_commit, seen_found, any_own, found_own, names_plan}

module _ {S : Type 0} (stands : PageMap → S → Type 0) (next : S → List ℕ → Entry → S → Type 0) (o : Origin) where
  module _ (es : List JEntry) (law : IsLawful stands next o es) (ans : Answered o es) (pass p : ℕ) where
    known_more : (q : ℕ) (reads : List PageRead) → AreKnown (seen (own pass es)) q reads → AreKnown (content_at o es) q reads
    known_more q reads known n v is =
        some_more (seen (own pass es) q n v) (content_at o es q n v) (seen_found o pass es ans q n v) (known n v is)

    then_more : (q n : ℕ) (held : Option (List ℕ)) (v : Option ℕ) → read_then (seen (own pass es)) q n v ≡ Some held →
        read_then (content_at o es) q n v ≡ Some held
    then_more q n held None h = h
    then_more q n held (Some v) h = seen_found o pass es ans q n v held h

    of_plan : (t : Tid) (plan : Plan) → Names (own pass es) t plan → IsPlan es pass t plan
    of_plan t plan names = record { planned = names_plan stands next o es law pass t plan names; known = names }

    alone_allowed : (x : Transaction) → AloneFair stands next (seen (own pass es)) (own pass es) pass (alone_at p x) →
        AloneFair stands next (content_at o es) es pass (alone_at p x)
    alone_allowed x f = record {
      of_pass = f.of_pass;
      accesses = f.accesses;
      again = subst (λ y. IsAgain y (alone_at p x))
          (sym (found_own stands next o (alone_in x.tid) pass (only_alone x.tid pass f.of_pass.own) es law)) f.again;
      not_planned =
          found_own stands next o (plan_in x.tid) pass (only_plan x.tid pass f.of_pass.own) es law ∙ f.not_planned;
      are_known = known_more p x.reads f.are_known;
      entry = f.entry;
      right = right_more stands next o (reads_alone (seen (own pass es)) (alone_at p x))
          (reads_alone (content_at o es) (alone_at p x)) (writes_alone (alone_at p x)) x.entry
          (λ s held h. at s held (s.store == p) h) f.right;
    }
      where
        at : (s : Slot) (held : Option (List ℕ)) (b : Bool) →
            cond b (read_then (seen (own pass es)) s.store s.number (read_at x.reads s.number)) None ≡ Some held →
            cond b (read_then (content_at o es) s.store s.number (read_at x.reads s.number)) None ≡ Some held
        at s held true h = then_more s.store s.number held (read_at x.reads s.number) h
        at s held false h = h

    part_allowed : (part : Part) → PartFair o.stores (own pass es) pass p part → PartFair o.stores es pass p part
    part_allowed part f = record {
      of_pass = f.of_pass;
      accesses = f.accesses;
      not_alone =
          found_own stands next o (alone_in part.tid) pass (only_alone part.tid pass f.of_pass.own) es law ∙ f.not_alone;
      again = subst (λ y. IsAgain y part)
          (sym (found_own stands next o (part_in part.tid p) pass (only_part part.tid p pass f.of_pass.own) es law)) f.again;
      planned = subst (λ y. IsAgain y (plan_of part))
          (sym (found_own stands next o (plan_in part.tid) pass (only_plan part.tid pass f.of_pass.own) es law)) f.planned;
      here = f.here;
      home = f.home;
      lowest = f.lowest;
      below = f.below;
    }

    commit_allowed : (t : Tid) (en : Option Entry) → CommitFair stands next (seen (own pass es)) (own pass es) pass p t en →
        CommitFair stands next (content_at o es) es pass p t en
    commit_allowed t en f = record {
      of_pass = f.of_pass;
      plan = f.plan;
      planned = found_own stands next o (plan_in t) pass (only_plan t pass f.of_pass.own) es law ∙ f.planned;
      home = f.home;
      again = subst (λ y. IsAgain y en)
          (sym (found_own stands next o (commit_in t) pass (only_commit t pass f.of_pass.own) es law)) f.again;
      prepared = λ q h. any_own (is_prepared_at t q) pass es (f.prepared q h);
      are_known = λ q part is. known_more q part.reads (f.are_known q part (sym (same q) ∙ is));
      entry = f.entry;
      right =
          subst (λ (h : ℕ → Option Part). IsRight stands next (λ s. reads_of_part (content_at o es) (h s.store) s)
          (λ s. writes_of_part (h s.store) s) en)
          (sym (fun_ext (λ q. found_own stands next o (part_in t q) pass (only_part t q pass f.of_pass.own) es law)))
          (right_more stands next o (λ s. reads_of_part (seen (own pass es)) (part_asked (own pass es) t s.store) s)
          (λ s. reads_of_part (content_at o es) (part_asked (own pass es) t s.store) s)
          (λ s. writes_of_part (part_asked (own pass es) t s.store) s) en
          (λ s held h. more s held (part_asked (own pass es) t s.store) h) f.right);
    }
      where
        same : (q : ℕ) → part_asked es t q ≡ part_asked (own pass es) t q
        same q = found_own stands next o (part_in t q) pass (only_part t q pass f.of_pass.own) es law

        more : (s : Slot) (held : Option (List ℕ)) (x : Option Part) →
            reads_of_part (seen (own pass es)) x s ≡ Some held → reads_of_part (content_at o es) x s ≡ Some held
        more s held None h = h
        more s held (Some part) h = then_more s.store s.number held (read_at part.reads s.number) h

    allowed : (c : Command) → IsFair stands next o.stores (own pass es) pass p c → IsAllowed stands next o es pass p c
    allowed Fresh f = tt
    allowed (Read n) f = tt
    allowed (Look ns) f = tt
    allowed (Write x) f = alone_allowed x f
    allowed (Prepare part) f = part_allowed part f
    allowed (Decide d) f = at d.outcome f
      where
        at : (out : Outcome) →
            DecisionFair stands next (seen (own pass es)) (Names (own pass es)) (own pass es) pass p d.tid out →
            DecisionFair stands next (content_at o es) (IsPlan es pass) es pass p d.tid out
        at (Commit en) f = commit_allowed d.tid en f
        at Abort f = record { plan = f.plan; planned = of_plan d.tid f.plan f.planned; home = f.home }
    allowed (Resolve r) f = record {
      plan = f.plan;
      planned = of_plan r.tid f.plan f.planned;
      here = f.here;
      told = any_own (is_told_at pass r.tid f.plan.home r.commit) pass es f.told;
    }

  -- ## One entry fewer

  fair_tail : (stores : ℕ) (e : JEntry) (es : List JEntry) → FairList stands next stores (e ∷ es) →
      FairList stands next stores es
  fair_tail stores (Took pass p c a) es f = f.0
  fair_tail stores (Doubted pass p c) es f = f.0
  fair_tail stores (Late p c a) es f = absurd f

  fair_before : (stores : ℕ) (e : JEntry) (es : List JEntry) (who : ℕ) → FairList stands next stores (own who (e ∷ es)) →
      FairList stands next stores (own who es)
  fair_before stores e es who f = at (is_of who e) f
    where
      at : (b : Bool) → FairList stands next stores (cond b (e ∷ own who es) (own who es)) →
          FairList stands next stores (own who es)
      at true f = fair_tail stores e (own who es) f
      at false f = f

  -- the newest entry stands among those of its pass
  fair_of : (stores : ℕ) (e : JEntry) (es : List JEntry) (pass : ℕ) → is_of pass e ≡ true →
      FairList stands next stores (own pass (e ∷ es)) → FairList stands next stores (e ∷ own pass es)
  fair_of stores e es pass is f =
      subst (λ b. FairList stands next stores (cond b (e ∷ own pass es) (own pass es))) is f

  pub all_fair : (es : List JEntry) → Answered o es → ((pass : ℕ) → FairList stands next o.stores (own pass es)) →
      IsLawful stands next o es
  all_fair [] ans fair = tt
  all_fair (Took pass p c a ∷ es) ans fair =
      let law = all_fair es ans.0 (λ who. fair_before o.stores (Took pass p c a) es who (fair who)) in
      let mine = fair_of o.stores (Took pass p c a) es pass (eq_self pass) (fair pass) in
      (law, (ans.1, allowed es law ans.0 pass p c mine.1))
  all_fair (Doubted pass p c ∷ es) ans fair =
      let law = all_fair es ans (λ who. fair_before o.stores (Doubted pass p c) es who (fair who)) in
      let mine = fair_of o.stores (Doubted pass p c) es pass (eq_self pass) (fair pass) in
      (law, allowed es law ans pass p c mine.1)
  all_fair (Late p c a ∷ es) ans fair =
      (all_fair es ans.0 (λ who. fair_before o.stores (Late p c a) es who (fair who)), ans.1)
