-- The commit of a transaction of one store: its Write, and what is in the way.
use Rattle.std.proofs.Common.{◌≡◌, ℕ, ◌<◌, ◌==◌, Bool, true, false, List, [], ◌∷◌, ◌++◌, Option, None, Result, Ok, Err}
use Rattle.std.proofs.Common.{refl, ap, sym, ◌∙◌, subst, arith, inl, inr}
use Rattle.std.proofs.lemmas.Bool.Decides.{nat_tests}
use Rattle.std.specs.Prelude.{All, Contains}
use Rattle.std.proofs.lemmas.List.Elements.{All-append, All-weaker, Contains-push}
use mathlib.Core.Path.{fun_ext}
use Rattle.pair_types.specs.declared.slot.Slot.{Slot}
use Rattle.pair_types.specs.declared.slot.Tid.{Tid}
use Rattle.pair_types.specs.declared.fault.StepFault.{StepFault}
use Rattle.pair_types.specs.declared.fault.Cross.{Cross}
use Rattle.pair_types.specs.PageMaps.{PageMap, ReadMap}
use Rattle.nfs3_types.specs.declared.entry.Entry.{Entry}
use Rattle.page_types.specs.declared.command.Transaction.{Transaction}
use Rattle.page_types.specs.declared.command.Command.TheVariants.{Write}
use Rattle.page_types.specs.declared.answer.Answer.{Answer}
use Rattle.page_types.specs.declared.answer.Answer.TheVariants.{Wrote}
use Rattle.page_types.specs.declared.journal.JEntry.{JEntry}
use Rattle.page_types.specs.declared.journal.JEntry.TheVariants.{Doubted}
use Rattle.page_types.specs.Journals.{Origin}
use Rattle.page_types.specs.Asked.{Alone, plan_in, alone_in}
use Rattle.page_types.specs.Fair.{seen, reads_alone, writes_alone, IsAgain, IsRight}
use Rattle.page_types.specs.Ports.{PortState, IsWithin, MayAsk}
use Rattle.two_phase.specs.declared.parts.Part.{Part}
use Rattle.two_phase.specs.declared.closing.Commit.TheVariants.{Done, Crossed, Fault}
use Rattle.two_phase.specs.Tries.{Onward, doubted, Tried, Retries}
use Rattle.two_phase.specs.Endings.{Asks}
use Rattle.two_phase.specs.Parts.{reads_among, writes_among, IsTransaction}
use Rattle.two_phase.specs.Commits.{wrote_entry, effects, AnsweredFor, SettledAgainst, FinishedFirst, IsOfCommit, IsOfOther}
use Rattle.two_phase.specs.Commits.{IsMet, Meets}
use Rattle.two_phase.specs.Commits.{Commits}
use Rattle.two_phase.proofs.Basics.{same_self}
use Rattle.two_phase.proofs.Onwards.{onward_on}
use Rattle.two_phase.proofs.Ended.{asks_tried, asks_fault, cause_of, cause_after}
use Rattle.two_phase.proofs.Freshness.{found_none, plan_none, alone_none}
use Rattle.two_phase.proofs.Effects.{none_carried, Idle, effects_idle, settled_idle, faulted_none, answered_alone}
use Rattle.two_phase.proofs.Effects.{settled_alone, none_alone}
use Rattle.two_phase.proofs.Refusing.{refused_write_is}
use Rattle.two_phase.proofs.Meeting.{carries_asks, idle_other, is_met}
use Rattle.two_phase.proofs.Concluding.{goes_doubted}

eq_turned : (a b : ℕ) → (a == b) ≡ (b == a)
eq_turned a b = grind (arith, nat_tests)

-- ## The Write is fair

abbrev pub alone_of : Tid → Part → Option Entry → Transaction
alone_of tid part served = record { tid = tid; reads = part.reads; writes = part.writes; entry = served }

only : (part : Part) → Contains (part ∷ []) part
only part = Contains-push [] part

pub fair_alone : {S : Type 0} (stands : Origin → PageMap → S → Type 0) (next : S → List ℕ → Entry → S → Type 0)
    (p : PortState) (tid : Tid) (part : Part) (served : Option Entry) →
    IsTransaction stands next p tid (part ∷ []) served → MayAsk stands next p part.store (Write (alone_of tid part served))
fair_alone stands next p tid part served tr = record {
  of_pass = tr.of_pass;
  accesses = tr.accesses part (only part);
  again = subst (λ (o : Option Alone). IsAgain o (record { store = part.store; transaction = alone_of tid part served }))
      (sym (found_none tid (alone_in tid) (alone_none tid) p.mine tr.fresh)) tt;
  not_planned = found_none tid (plan_in tid) (plan_none tid) p.mine tr.fresh;
  are_known = tr.are_known part (only part);
  entry = tr.entry;
  right = subst (λ (r : ReadMap). IsRight (stands p.origin) next r
      (writes_alone (record { store = part.store; transaction = alone_of tid part served })) served) (sym reads)
      (subst (λ (w : PageMap). IsRight (stands p.origin) next (reads_among (seen p.mine) (part ∷ [])) w served) (sym writes)
      tr.right);
}
  where
    reads_at_one : (s : Slot) (b : Bool) → (part.store == s.store) ≡ b → (s.store == part.store) ≡ b →
        reads_alone (seen p.mine) (record { store = part.store; transaction = alone_of tid part served }) s ≡
        reads_among (seen p.mine) (part ∷ []) s
    reads_at_one s true is turned = rw (is, turned) refl
    reads_at_one s false is turned = rw (is, turned) refl

    reads : reads_alone (seen p.mine) (record { store = part.store; transaction = alone_of tid part served }) ≡
        reads_among (seen p.mine) (part ∷ [])
    reads = fun_ext (λ s. reads_at_one s (part.store == s.store) refl (eq_turned s.store part.store))

    writes_at_one : (s : Slot) (b : Bool) → (part.store == s.store) ≡ b → (s.store == part.store) ≡ b →
        writes_alone (record { store = part.store; transaction = alone_of tid part served }) s ≡ writes_among (part ∷ []) s
    writes_at_one s true is turned = rw (is, turned) refl
    writes_at_one s false is turned = rw (is, turned) refl

    writes : writes_alone (record { store = part.store; transaction = alone_of tid part served }) ≡ writes_among (part ∷ [])
    writes = fun_ext (λ s. writes_at_one s (part.store == s.store) refl (eq_turned s.store part.store))

-- ## What comes of it

module _ {S : Type 0} (stands : Origin → PageMap → S → Type 0) (next : S → List ℕ → Entry → S → Type 0)
    (old : PortState) (tid : Tid) (part : Part) (served : Option Entry)
    (tr : IsTransaction stands next old tid (part ∷ []) served) where
  pub alone_below : part.store < old.origin.stores
  alone_below = tr.below part (only part)

  none_yet : effects tid old.mine ≡ []
  none_yet = none_carried tid old.mine tr.fresh

  asks_write : (entries : List JEntry) → All (Asks (λ s. s ≡ part.store) (Write (alone_of tid part served))) entries →
      All (IsOfCommit tid) entries
  asks_write entries h =
      All-weaker (Asks (λ s. s ≡ part.store) (Write (alone_of tid part served))) (IsOfCommit tid)
      (λ e x. inl (carries_asks (λ s. s ≡ part.store) tid (Write (alone_of tid part served)) e (same_self tid) x)) entries h

  pub alone_faulted : (new : PortState) (f : StepFault) →
      Retries old new part.store (Write (alone_of tid part served)) (Err f) →
      Commits old new tid (part ∷ []) served (Fault f)
  alone_faulted new f r = record {
    part = r.part;
    onward = r.onward;
    asks = asks_write r.part (asks_fault (λ s. s ≡ part.store) old new part.store (Write (alone_of tid part served)) f r.part
        refl r.ends);
    ends = (
      ap (λ (l : List JEntry). effects tid l) r.onward.mine
          ∙ (faulted_none tid old new part.store (Write (alone_of tid part served)) f r.part old.mine r.ends ∙ none_yet),
      cause_of old new part.store (Write (alone_of tid part served)) f r.part r.ends,
    );
  }

  module _ (mid : PortState) (a : Answer) (r : Retries old mid part.store (Write (alone_of tid part served)) (Ok a)) where
    asks_first : All (IsOfCommit tid) r.part
    asks_first = asks_write r.part
        (asks_tried (λ s. s ≡ part.store) old.pass part.store (Write (alone_of tid part served)) a r.part refl r.ends.0)

    pub alone_done : a ≡ Wrote → Commits old mid tid (part ∷ []) served Done
    alone_done is = record {
      part = r.part;
      onward = r.onward;
      asks = asks_first;
      ends = subst (λ (l : List JEntry). AnsweredFor l tid served) (sym r.onward.mine)
          (answered_alone old.pass part.store (alone_of tid part served) r.part old.mine none_yet
          (subst (λ (b : Answer). Tried old.pass part.store (Write (alone_of tid part served)) b r.part) is r.ends.0));
    }

    pub alone_met : IsMet mid a
    alone_met = is_met mid old.pass part.store (Write (alone_of tid part served)) a []
        (doubted r.ends.0.times (Doubted old.pass part.store (Write (alone_of tid part served))) ++ old.mine)
        (r.onward.mine ∙ ap (λ (l : List JEntry). l ++ old.mine) r.ends.0.is)
        (subst (λ (o : Origin). IsWithin o.stores a) (sym r.onward.origin) r.ends.1.within)

    module _ (refused : wrote_entry served a ≡ None) (new : PortState) (result : Result Cross StepFault)
        (z : Meets mid new tid part.store a result) where
      asks_both : All (IsOfCommit tid) (z.part ++ r.part)
      asks_both = All-append (IsOfCommit tid) z.part r.part
          (All-weaker (IsOfOther tid) (IsOfCommit tid) (λ e h. inr h) z.part z.asks) asks_first

      on_both : Onward old new (z.part ++ r.part)
      on_both = onward_on old mid new r.part z.part r.onward z.onward

      idle_later : All (Idle tid) z.part
      idle_later = All-weaker (IsOfOther tid) (Idle tid) (idle_other tid) z.part z.asks

      none_both : effects tid new.mine ≡ []
      none_both =
          ap (λ (l : List JEntry). effects tid l) z.onward.mine
          ∙ (effects_idle tid z.part mid.mine idle_later
          ∙ (ap (λ (l : List JEntry). effects tid l) r.onward.mine
          ∙ none_alone old.pass part.store (alone_of tid part served) a r.part old.mine none_yet refused r.ends.0))

      settled_both : SettledAgainst new.mine tid
      settled_both = subst (λ (l : List JEntry). SettledAgainst l tid) (sym z.onward.mine)
          (settled_idle tid z.part mid.mine idle_later
          (subst (λ (l : List JEntry). SettledAgainst l tid) (sym r.onward.mine)
          (settled_alone old.pass part.store (alone_of tid part served) a r.part old.mine refused r.ends.0)))

    module _ (refused : wrote_entry served a ≡ None) (new : PortState) where
      pub alone_unmet : (f : StepFault) → Meets mid new tid part.store a (Err f) →
          Commits old new tid (part ∷ []) served (Fault f)
      alone_unmet f z = record {
        part = z.part ++ r.part;
        onward = on_both refused new (Err f) z;
        asks = asks_both refused new (Err f) z;
        ends = (none_both refused new (Err f) z, cause_after old mid new f r.part z.part r.onward z.ends);
      }

      pub alone_crossed : (cr : Cross) → Meets mid new tid part.store a (Ok cr) →
          Commits old new tid (part ∷ []) served (Crossed cr)
      alone_crossed cr z = record {
        part = z.part ++ r.part;
        onward = on_both refused new (Ok cr) z;
        asks = asks_both refused new (Ok cr) z;
        ends = (
          settled_both refused new (Ok cr) z,
          (
            none_both refused new (Ok cr) z,
            record {
              store = part.store;
              command = Write (alone_of tid part served);
              answer = a;
              finishing = z.part;
              ending = [];
              before = doubted r.ends.0.times (Doubted old.pass part.store (Write (alone_of tid part served)));
              is = ap (λ (l : List JEntry). z.part ++ l) r.ends.0.is;
              went_on =
                  goes_doubted tid r.ends.0.times old.pass part.store (Write (alone_of tid part served)) (same_self tid);
              goes = same_self tid;
              refused = refused_write_is old.origin.stores (alone_of tid part served) a served r.ends.1 refused;
              no_effect = rw (same_self tid) refused;
              cross_is = z.ends.0;
              ended = refl;
              finished = subst (λ (n : ℕ). FinishedFirst n tid a z.part) r.onward.pass z.ends.1;
            },
          ),
        );
      }
