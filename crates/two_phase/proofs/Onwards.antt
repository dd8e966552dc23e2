-- Steps one after the other.
use Rattle.std.proofs.Common.{◌≡◌, ℕ, suc, ◌<◌, ◌≤◌, false, List, [], ◌∷◌, ◌++◌, length}
use Rattle.std.proofs.Common.{Option, Some, None, Result, Ok, Err, refl, ap, sym, ◌∙◌, subst, arith, inl, inr, ◌⊎◌}
use Rattle.std.specs.List.{list_any}
use Rattle.pair_types.specs.PageMaps.{PageMap}
use Rattle.pair_types.specs.declared.fault.StepFault.{StepFault}
use Rattle.pair_types.specs.declared.fault.StepFault.TheVariants as fault
use Rattle.nfs3_types.specs.declared.entry.Entry.{Entry}
use Rattle.nfs3_types.specs.Count.{Rose}
use Rattle.page_types.specs.declared.command.Command.{Command}
use Rattle.page_types.specs.declared.answer.Answer.{Answer}
use Rattle.page_types.specs.declared.journal.JEntry.{JEntry}
use Rattle.page_types.specs.declared.journal.JEntry.TheVariants.{Took, Doubted}
use Rattle.page_types.specs.Journals.{Origin}
use Rattle.page_types.specs.Fair.{IsFair}
use Rattle.page_types.specs.Ports.{PortState, IsAnswer, Grew, Steps, MayAsk, IsDoubted}
use Rattle.two_phase.specs.Tries.{is_doubted, Onward, doubted, Retries}
use Rattle.two_phase.proofs.Basics.{join_assoc, any_join}
use Rattle.two_phase.proofs.Fairness.{again_times}

pub grew_on : (a b c : Option (List JEntry)) → Grew a b → Grew b c → Grew a c
grew_on None b c f g = subst (λ (o : Option (List JEntry)). Grew o c) f g
grew_on (Some x) b c f g =
    let h : Grew (Some (f.0 ++ x)) c = subst (λ (o : Option (List JEntry)). Grew o c) f.1 g in
    (h.0 ++ f.0, h.1 ∙ ap (λ (l : List JEntry). Some l) (sym (join_assoc h.0 f.0 x)))

pub grew_none : (a : Option (List JEntry)) → Grew a a
grew_none None = refl
grew_none (Some x) = ([], refl)

pub onward_none : (old : PortState) → Onward old old []
onward_none old = record {
  mine = refl;
  formed = λ h. h;
  origin = refl;
  pass = refl;
  journal = grew_none old.journal;
  doubts = omega arith;
  quiet = λ h. refl;
  stops = omega arith;
}

-- two parts of the way
pub onward_on : (old mid new : PortState) (early late : List JEntry) → Onward old mid early → Onward mid new late →
    Onward old new (late ++ early)
onward_on old mid new early late a b = record {
  mine = b.mine ∙ (ap (λ l. late ++ l) a.mine ∙ sym (join_assoc late early old.mine));
  formed = λ h. b.formed (a.formed h);
  origin = b.origin ∙ a.origin;
  pass = b.pass ∙ a.pass;
  journal = grew_on old.journal mid.journal new.journal a.journal b.journal;
  doubts = let x = a.doubts in let y = b.doubts in omega arith;
  quiet = λ h. let k = any_join is_doubted late early h in b.quiet k.0 ∙ a.quiet k.1;
  stops = let x = a.stops in let y = b.stops in omega arith;
}

pub rose_after : (old mid new : ℕ) → old ≤ mid → Rose mid new → Rose old new
rose_after old mid new a b = omega arith

longer : (e : JEntry) (es : List JEntry) → es ≡ e ∷ es → ⊥
longer e es is = let n : length es ≡ suc (length es) = ap (λ l. length l) is in omega arith

not_doubted : (old new : PortState) (p : ℕ) (c : Command) (a : Answer) → new.mine ≡ Took old.pass p c a ∷ old.mine →
    (new.doubts ≡ old.doubts) ⊎ IsDoubted old new p c → new.doubts ≡ old.doubts
not_doubted old new p c a is (inl same) = same
not_doubted old new p c a is (inr doubt) = absurd (differ (sym is ∙ doubt))
  where
    differ : Took old.pass p c a ∷ old.mine ≡ Doubted old.pass p c ∷ old.mine → ⊥
    differ h = cc

none_doubted : (old new : PortState) (p : ℕ) (c : Command) → new.mine ≡ old.mine →
    (new.doubts ≡ old.doubts) ⊎ IsDoubted old new p c → new.doubts ≡ old.doubts
none_doubted old new p c is (inl same) = same
none_doubted old new p c is (inr doubt) = absurd (longer (Doubted old.pass p c) old.mine (sym is ∙ doubt))

module _ (old new : PortState) (p : ℕ) (c : Command) where
  by_step : (r : Result Answer StepFault) (part : List JEntry) → Steps old new p c r → new.mine ≡ part ++ old.mine →
      (list_any is_doubted part ≡ false → new.doubts ≡ old.doubts) → Onward old new part
  by_step r part s is quiet = record {
    mine = is;
    formed = λ h. s.formed;
    origin = s.origin;
    pass = s.pass;
    journal = s.journal;
    doubts = s.doubts;
    quiet = quiet;
    stops = s.stops;
  }

  pub took_onward : (a : Answer) → Steps old new p c (Ok a) → Onward old new (Took old.pass p c a ∷ [])
  took_onward a s = by_step (Ok a) (Took old.pass p c a ∷ []) s s.gains.0
      (λ h. not_doubted old new p c a s.gains.0 s.doubts_rise)

  doubt_onward : (r : Result Answer StepFault) → Steps old new p c r → IsDoubted old new p c →
      Onward old new (Doubted old.pass p c ∷ [])
  doubt_onward r s is = by_step r (Doubted old.pass p c ∷ []) s is (λ h. absurd cc)

  none_onward : (r : Result Answer StepFault) → Steps old new p c r → new.mine ≡ old.mine → Onward old new []
  none_onward r s is = by_step r [] s is (λ h. none_doubted old new p c is s.doubts_rise)

-- the command was doubted so often, and nothing else was asked
abbrev pub Trying : PortState → PortState → ℕ → Command → ℕ → Type 0
Trying old now p c times = Onward old now (doubted times (Doubted old.pass p c))

module _ (old mid new : PortState) (p : ℕ) (c : Command) (times : ℕ) (so_far : Trying old mid p c times) where
  -- one more entry, of the same pass
  add : (e : ℕ → JEntry) → Onward mid new (e mid.pass ∷ []) →
      Onward old new (e old.pass ∷ doubted times (Doubted old.pass p c))
  add e on = onward_on old mid new (doubted times (Doubted old.pass p c)) (e old.pass ∷ []) so_far
      (subst (λ (n : ℕ). Onward mid new (e n ∷ [])) so_far.pass on)

  pub trying_more : Steps mid new p c (Err fault.Doubt) → Trying old new p c (suc times)
  trying_more s = add (λ n. Doubted n p c) (doubt_onward mid new p c (Err fault.Doubt) s s.gains.0)

  pub tried_now : (a : Answer) → times < 8 → Steps mid new p c (Ok a) → Retries old new p c (Ok a)
  tried_now a few s = record {
    part = Took old.pass p c a ∷ doubted times (Doubted old.pass p c);
    onward = add (λ n. Took n p c a) (took_onward mid new p c a s);
    ends = (
      record { times = times; few = few; is = refl },
      subst (λ (o : Origin). IsAnswer o.stores c a) so_far.origin s.gains.1,
    );
  }

  pub stopped_now : times < 8 → Steps mid new p c (Err fault.Stopped) → Retries old new p c (Err fault.Stopped)
  stopped_now few s = record {
    part = doubted times (Doubted old.pass p c);
    onward = onward_on old mid new (doubted times (Doubted old.pass p c)) [] so_far
        (none_onward mid new p c (Err fault.Stopped) s s.gains.0);
    ends = (
      record { times = times; few = omega arith; is = refl },
      rose_after old.stops mid.stops new.stops so_far.stops s.gains.1,
    );
  }

  pub lacking_now : times < 8 → Steps mid new p c (Err fault.NoMemory) → Retries old new p c (Err fault.NoMemory)
  lacking_now few s = at s.gains
    where
      at : (new.mine ≡ mid.mine) ⊎ IsDoubted mid new p c → Retries old new p c (Err fault.NoMemory)
      at (inl is) = record {
        part = doubted times (Doubted old.pass p c);
        onward = onward_on old mid new (doubted times (Doubted old.pass p c)) [] so_far
            (none_onward mid new p c (Err fault.NoMemory) s is);
        ends = record { times = times; few = omega arith; is = refl };
      }
      at (inr is) = record {
        part = doubted (suc times) (Doubted old.pass p c);
        onward = add (λ n. Doubted n p c) (doubt_onward mid new p c (Err fault.NoMemory) s is);
        ends = record { times = suc times; few = omega arith; is = refl };
      }

  -- the same of a fault that is one of these
  module _ (f : StepFault) (s : Steps mid new p c (Err f)) where
    as_fault : (known : StepFault) → f ≡ known → Steps mid new p c (Err known)
    as_fault known is = subst (λ (x : StepFault). Steps mid new p c (Err x)) is s

    pub trying_by : f ≡ fault.Doubt → Trying old new p c (suc times)
    trying_by is = trying_more (as_fault fault.Doubt is)

    pub rose_by : f ≡ fault.Doubt → Rose old.doubts new.doubts
    rose_by is =
        let x : Steps mid new p c (Err fault.Doubt) = as_fault fault.Doubt is in
        rose_after old.doubts mid.doubts new.doubts so_far.doubts x.gains.1

    pub stopped_by : f ≡ fault.Stopped → times < 8 → Retries old new p c (Err fault.Stopped)
    stopped_by is few = stopped_now few (as_fault fault.Stopped is)

    pub lacking_by : f ≡ fault.NoMemory → times < 8 → Retries old new p c (Err fault.NoMemory)
    lacking_by is few = lacking_now few (as_fault fault.NoMemory is)

pub doubted_out : (old new : PortState) (p : ℕ) (c : Command) → Trying old new p c 8 → Rose old.doubts new.doubts →
    Retries old new p c (Err fault.Doubt)
doubted_out old new p c t rose =
    record { part = doubted 8 (Doubted old.pass p c); onward = t; ends = (refl, rose) }

pub out_of_tries : (old new : PortState) (p : ℕ) (c : Command) (times : ℕ) → times ≡ 8 → Trying old new p c times →
    (times ≡ 0) ⊎ Rose old.doubts new.doubts → Retries old new p c (Err fault.Doubt)
out_of_tries old new p c times is t (inl none) = absurd (omega arith)
out_of_tries old new p c times is t (inr rose) =
    doubted_out old new p c (subst (λ (n : ℕ). Trying old new p c n) is t) rose

-- what may be asked by the same entries, over the same way, may be asked
pub may_move : {S : Type 0} (stands : Origin → PageMap → S → Type 0) (next : S → List ℕ → Entry → S → Type 0)
    (old mid : PortState) (part : List JEntry) (p : ℕ) (c : Command) → Onward old mid part →
    IsFair (stands old.origin) next old.origin.stores (part ++ old.mine) old.pass p c → MayAsk stands next mid p c
may_move stands next old mid part p c on f =
    let here : IsFair (stands old.origin) next old.origin.stores mid.mine old.pass p c =
    subst (λ (l : List JEntry). IsFair (stands old.origin) next old.origin.stores l old.pass p c) (sym on.mine) f in
    let passes : IsFair (stands old.origin) next old.origin.stores mid.mine mid.pass p c =
    subst (λ (n : ℕ). IsFair (stands old.origin) next old.origin.stores mid.mine n p c) (sym on.pass) here in
    subst (λ (o : Origin). IsFair (stands o) next o.stores mid.mine mid.pass p c) (sym on.origin) passes

-- it may be asked once more
pub may_again : {S : Type 0} (stands : Origin → PageMap → S → Type 0) (next : S → List ℕ → Entry → S → Type 0)
    (old mid : PortState) (p : ℕ) (c : Command) (times : ℕ) → Trying old mid p c times → MayAsk stands next old p c →
    MayAsk stands next mid p c
may_again stands next old mid p c times t f =
    may_move stands next old mid (doubted times (Doubted old.pass p c)) p c t
    (again_times (stands old.origin) next old.origin.stores times old.mine old.pass p c f)
