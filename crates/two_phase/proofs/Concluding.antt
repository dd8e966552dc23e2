-- How the commit of a transaction of several stores follows from its steps.
use Rattle.std.proofs.Common.{◌≡◌, ℕ, zero, suc, ◌≤◌, Bool, true, false, List, [], ◌∷◌, ◌++◌, length, Option}
use Rattle.std.proofs.Common.{Result, Ok, Err, refl, ap, sym, ◌∙◌, subst, arith}
use Rattle.std.specs.Prelude.{All, Contains}
use Rattle.std.proofs.lemmas.List.Elements.{All-nil, All-cons, All-append, All-weaker}
use Rattle.pair_types.specs.declared.slot.Tid.{Tid}
use Rattle.pair_types.specs.declared.fault.StepFault.{StepFault}
use Rattle.pair_types.specs.declared.fault.Cross.TheVariants as cross
use Rattle.nfs3_types.specs.declared.entry.Entry.{Entry}
use Rattle.page_types.specs.declared.command.Command.{Command}
use Rattle.page_types.specs.declared.command.Command.TheVariants.{Decide, Resolve}
use Rattle.page_types.specs.declared.answer.Answer.TheVariants.{Decided}
use Rattle.page_types.specs.declared.journal.JEntry.{JEntry}
use Rattle.page_types.specs.declared.journal.JEntry.TheVariants.{Doubted}
use Rattle.page_types.specs.Asked.{is_commit}
use Rattle.page_types.specs.Ports.{PortState}
use Rattle.two_phase.specs.declared.closing.Commit.TheVariants.{Done, Crossed}
use Rattle.two_phase.specs.Tries.{Onward, doubted}
use Rattle.two_phase.specs.Endings.{Asks, Decides, WasEnded, ResolvesAll, end_of}
use Rattle.two_phase.specs.Parts.{carries}
use Rattle.two_phase.specs.Commits.{effects, SettledAgainst, EndedFirst, goes_on, GoesOn}
use Rattle.two_phase.specs.Commits.{IsCrossed, Concludes}
use Rattle.two_phase.proofs.Basics.{same_self}
use Rattle.two_phase.proofs.Onwards.{onward_on}
use Rattle.two_phase.proofs.Ended.{cause_of, cause_after}
use Rattle.two_phase.proofs.Effects.{Idle, effects_idle, settled_idle, faulted_none, commit_of, answered_decide, none_aborted}
use Rattle.two_phase.proofs.Effects.{settled_aborted}
use Rattle.two_phase.proofs.Meeting.{idle_asks, carries_asks}

pub goes_doubted : (tid : Tid) (times pass p : ℕ) (c : Command) → goes_on tid c ≡ true →
    All (GoesOn tid) (doubted times (Doubted pass p c))
goes_doubted tid zero pass p c h = All-nil (GoesOn tid)
goes_doubted tid (suc times) pass p c h =
    All-cons (GoesOn tid) (Doubted pass p c) (doubted times (Doubted pass p c)) h (goes_doubted tid times pass p c h)

pub ended_several : (pass : ℕ) (tid : Tid) (stores : List ℕ) (later : List JEntry) (commit : Bool) → 2 ≤ length stores →
    ((store : ℕ) → Contains stores store → WasEnded pass (end_of tid commit) later store) →
    EndedFirst pass tid stores later
ended_several pass tid [] later commit h f = absurd (omega arith)
ended_several pass tid (x ∷ []) later commit h f = absurd (omega arith)
ended_several pass tid (x ∷ y ∷ stores) later commit h f = (commit, f)

-- ## The home decides, and the parts are ended

module _ (old mid new : PortState) (tid : Tid) (home : ℕ) (stores : List ℕ) (served : Option Entry)
    (none : effects tid old.mine ≡ []) where
  decide_carries : (part : List JEntry) → All (Asks (λ s. s ≡ home) (Decide (commit_of tid served))) part →
      All (λ e. carries tid e ≡ true) part
  decide_carries part h = All-weaker (Asks (λ s. s ≡ home) (Decide (commit_of tid served))) (λ e. carries tid e ≡ true)
      (λ e x. carries_asks (λ s. s ≡ home) tid (Decide (commit_of tid served)) e (same_self tid) x) part h

  resolve_carries : (commit : Bool) (part : List JEntry) → All (Asks (Contains stores) (Resolve (end_of tid commit))) part →
      All (λ e. carries tid e ≡ true) part
  resolve_carries commit part h =
      All-weaker (Asks (Contains stores) (Resolve (end_of tid commit))) (λ e. carries tid e ≡ true)
      (λ e x. carries_asks (Contains stores) tid (Resolve (end_of tid commit)) e (same_self tid) x) part h

  resolve_idle : (commit : Bool) (part : List JEntry) → All (Asks (Contains stores) (Resolve (end_of tid commit))) part →
      All (Idle tid) part
  resolve_idle commit part h =
      All-weaker (Asks (Contains stores) (Resolve (end_of tid commit))) (Idle tid)
      (λ e x. idle_asks (Contains stores) tid (Resolve (end_of tid commit)) e refl x) part h

  pub undecided : (f : StepFault) → Decides old mid home (commit_of tid served) (Err f) →
      Concludes old mid tid stores served (Err f)
  undecided f d = record {
    part = d.part;
    onward = d.onward;
    asks = decide_carries d.part d.asks;
    ends = (
      ap (λ (l : List JEntry). effects tid l) d.onward.mine
          ∙ (faulted_none tid old mid home (Decide (commit_of tid served)) f d.part old.mine d.told ∙ none),
      cause_of old mid home (Decide (commit_of tid served)) f d.part d.told,
    );
  }

  module _ (commit : Bool) (d : Decides old mid home (commit_of tid served) (Ok commit)) (result : Result Unit StepFault)
      (r : ResolvesAll mid new stores (end_of tid commit) result) where
    effects_both : effects tid new.mine ≡ effects tid (d.part ++ old.mine)
    effects_both =
        ap (λ (l : List JEntry). effects tid l) r.onward.mine
        ∙ (effects_idle tid r.part mid.mine (resolve_idle commit r.part r.asks)
        ∙ ap (λ (l : List JEntry). effects tid l) d.onward.mine)

    none_both : commit ≡ false → effects tid new.mine ≡ []
    none_both aborted = effects_both
        ∙ none_aborted old.pass home tid served d.told.0 d.part old.mine d.told.2 (sym d.told.1 ∙ aborted) none

    carries_both : All (λ e. carries tid e ≡ true) (r.part ++ d.part)
    carries_both = All-append (λ e. carries tid e ≡ true) r.part d.part (resolve_carries commit r.part r.asks)
        (decide_carries d.part d.asks)

    on_both : Onward old new (r.part ++ d.part)
    on_both = onward_on old mid new d.part r.part d.onward r.onward

    pub concludes_done : commit ≡ true → Concludes old new tid stores served (Ok Done)
    concludes_done committed = record {
      part = r.part ++ d.part;
      onward = on_both;
      asks = carries_both;
      ends = effects_both
          ∙ answered_decide old.pass home tid served d.told.0 d.part old.mine d.told.2 (sym d.told.1 ∙ committed) none;
    }

  module _ (commit : Bool) (aborted : commit ≡ false) (d : Decides old mid home (commit_of tid served) (Ok commit)) where
    pub concludes_fault : (f : StepFault) → ResolvesAll mid new stores (end_of tid commit) (Err f) →
        Concludes old new tid stores served (Err f)
    concludes_fault f r = record {
      part = r.part ++ d.part;
      onward = on_both commit d (Err f) r;
      asks = carries_both commit d (Err f) r;
      ends = (none_both commit d (Err f) r aborted, cause_after old mid new f d.part r.part d.onward r.ended);
    }

    crossed_by : (done : Unit) (r : ResolvesAll mid new stores (end_of tid commit) (Ok done)) → 2 ≤ length stores →
        IsCrossed old.pass tid stores (cross.Aborted tid) (r.part ++ d.part)
    crossed_by done r several = record {
      store = home;
      command = Decide (commit_of tid served);
      answer = Decided d.told.0;
      finishing = [];
      ending = r.part;
      before = doubted d.told.2.times (Doubted old.pass home (Decide (commit_of tid served)));
      is = ap (λ (l : List JEntry). r.part ++ l) d.told.2.is;
      went_on = goes_doubted tid d.told.2.times old.pass home (Decide (commit_of tid served)) (rw (same_self tid) refl);
      goes = rw (same_self tid) refl;
      refused = refl;
      no_effect = let no : is_commit d.told.0 ≡ false = sym d.told.1 ∙ aborted in rw (same_self tid, no) refl;
      cross_is = refl;
      ended = ended_several old.pass tid stores r.part commit several
          (λ store c. subst (λ (n : ℕ). WasEnded n (end_of tid commit) r.part store) d.onward.pass (r.ended store c));
      finished = refl;
    }

    pub concludes_crossed : (done : Unit) → ResolvesAll mid new stores (end_of tid commit) (Ok done) → 2 ≤ length stores →
        Concludes old new tid stores served (Ok (Crossed (cross.Aborted tid)))
    concludes_crossed done r several = record {
      part = r.part ++ d.part;
      onward = on_both commit d (Ok done) r;
      asks = carries_both commit d (Ok done) r;
      ends = (
        subst (λ (l : List JEntry). SettledAgainst l tid) (sym r.onward.mine)
            (settled_idle tid r.part mid.mine (resolve_idle commit r.part r.asks)
            (subst (λ (l : List JEntry). SettledAgainst l tid) (sym d.onward.mine)
            (settled_aborted old.pass home tid served d.told.0 d.part old.mine d.told.2 (sym d.told.1 ∙ aborted)))),
        (none_both commit d (Ok done) r aborted, crossed_by done r several),
      );
    }
