-- How decisions and ends of parts follow from steps that are tried again.
use Rattle.std.proofs.Common.{◌≡◌, ℕ, zero, suc, ◌<◌, Bool, true, List, [], ◌∷◌, ◌++◌, take, length}
use Rattle.std.proofs.Common.{Some, Ok, Err, refl, ap, sym, ◌∙◌, subst, arith, inl, inr, ◌⊎◌, slice_get}
use Rattle.std.proofs.Common.{get_or, unwrap_or}
use Rattle.std.specs.Prelude.{All, Contains}
use Rattle.std.specs.List.{list_any}
use Rattle.std.proofs.lemmas.List.Elements.{All-nil, All-cons, All-append, All-weaker, Contains-append_left}
use Rattle.std.proofs.lemmas.List.Elements.{Contains-append_right}
use Rattle.std.proofs.lemmas.List.Elements.{Contains-push, Contains-push_cases}
use Rattle.pair_types.specs.PageMaps.{PageMap}
use Rattle.pair_types.specs.declared.slot.Tid.{Tid}
use Rattle.pair_types.specs.declared.fault.StepFault.{StepFault}
use Rattle.pair_types.specs.declared.fault.StepFault.TheVariants as fault
use Rattle.nfs3_types.specs.declared.entry.Entry.{Entry}
use Rattle.page_types.specs.declared.outcome.Outcome.{Outcome}
use Rattle.page_types.specs.declared.outcome.Outcome.TheVariants.{Commit, Abort}
use Rattle.page_types.specs.declared.command.Decision.{Decision}
use Rattle.page_types.specs.declared.command.Resolution.{Resolution}
use Rattle.page_types.specs.declared.command.Command.{Command}
use Rattle.page_types.specs.declared.command.Command.TheVariants.{Decide, Resolve}
use Rattle.page_types.specs.declared.answer.Answer.{Answer}
use Rattle.page_types.specs.declared.answer.Answer.TheVariants.{Decided, Resolved}
use Rattle.page_types.specs.declared.journal.JEntry.{JEntry}
use Rattle.page_types.specs.declared.journal.JEntry.TheVariants.{Took, Doubted}
use Rattle.page_types.specs.Journals.{Origin}
use Rattle.page_types.specs.Asked.{Plan, Names, WasTold, is_told_at, tells, is_commit}
use Rattle.page_types.specs.Ports.{PortState, IsAnswer, MayAsk}
use Rattle.two_phase.specs.Tries.{Onward, doubted, Tried, Missed, Ends, Retries, IsCause}
use Rattle.two_phase.specs.Endings.{Asks, Decides, WasEnded, ResolvesAll, abort_of, end_of, IsEnd}
use Rattle.two_phase.specs.Endings.{Finishes}
use Rattle.two_phase.proofs.Basics.{eq_self, same_self, any_more, join_assoc}
use Rattle.two_phase.proofs.Onwards.{onward_none, onward_on, rose_after, may_move}

-- ## What tries ask

pub asks_doubted : (Here : ℕ → Type 0) (times pass p : ℕ) (c : Command) → Here p →
    All (Asks Here c) (doubted times (Doubted pass p c))
asks_doubted Here zero pass p c h = All-nil (Asks Here c)
asks_doubted Here (suc times) pass p c h =
    All-cons (Asks Here c) (Doubted pass p c) (doubted times (Doubted pass p c)) (h, refl) (asks_doubted Here times pass p c h)

pub asks_tried : (Here : ℕ → Type 0) (pass p : ℕ) (c : Command) (a : Answer) (part : List JEntry) → Here p →
    Tried pass p c a part → All (Asks Here c) part
asks_tried Here pass p c a part h t =
    subst (λ (l : List JEntry). All (Asks Here c) l) (sym t.is)
    (All-cons (Asks Here c) (Took pass p c a) (doubted t.times (Doubted pass p c)) (h, refl)
    (asks_doubted Here t.times pass p c h))

asks_missed : (Here : ℕ → Type 0) (most pass p : ℕ) (c : Command) (part : List JEntry) → Here p →
    Missed most pass p c part → All (Asks Here c) part
asks_missed Here most pass p c part h m =
    subst (λ (l : List JEntry). All (Asks Here c) l) (sym m.is) (asks_doubted Here m.times pass p c h)

pub asks_fault : (Here : ℕ → Type 0) (old new : PortState) (p : ℕ) (c : Command) (f : StepFault) (part : List JEntry) →
    Here p → Ends old new p c (Err f) part → All (Asks Here c) part
asks_fault Here old new p c fault.Doubt part h e =
    subst (λ (l : List JEntry). All (Asks Here c) l) (sym e.0) (asks_doubted Here 8 old.pass p c h)
asks_fault Here old new p c fault.NoMemory part h e = asks_missed Here 8 old.pass p c part h e
asks_fault Here old new p c fault.Stopped part h e = asks_missed Here 7 old.pass p c part h e.0

-- ## Causes

join_nil : {A : Type 0} (xs : List A) → xs ≡ xs ++ []
join_nil [] = refl
join_nil (x ∷ xs) = ap (λ l. x ∷ l) (join_nil xs)

pub cause_of : (old new : PortState) (p : ℕ) (c : Command) (f : StepFault) (part : List JEntry) →
    Ends old new p c (Err f) part → IsCause old new f part
cause_of old new p c fault.Doubt part e = record {
  store = p;
  command = c;
  earlier = [];
  is = e.0 ∙ join_nil (doubted 8 (Doubted old.pass p c));
  rose = e.1;
}
cause_of old new p c fault.NoMemory part e = tt
cause_of old new p c fault.Stopped part e = e.1

-- what was the cause stays it where more was done before
pub cause_after : (old mid new : PortState) (f : StepFault) (early late : List JEntry) → Onward old mid early →
    IsCause mid new f late → IsCause old new f (late ++ early)
cause_after old mid new fault.Doubt early late on c = record {
  store = c.store;
  command = c.command;
  earlier = c.earlier ++ early;
  is = ap (λ l. l ++ early) c.is
      ∙ (join_assoc (doubted 8 (Doubted mid.pass c.store c.command)) c.earlier early
      ∙ ap (λ n. doubted 8 (Doubted n c.store c.command) ++ (c.earlier ++ early)) on.pass);
  rose = rose_after old.doubts mid.doubts new.doubts on.doubts c.rose;
}
cause_after old mid new fault.NoMemory early late on c = tt
cause_after old mid new fault.Stopped early late on c = rose_after old.stops mid.stops new.stops on.stops c

-- ## Decisions

pub decided_is : (n : ℕ) (d : Decision) (a : Answer) → IsAnswer n (Decide d) a → (out : Outcome) × (a ≡ Decided out)
decided_is n d a g = (unwrap_or (g.state.decided d.tid) d.outcome, sym g.given)

pub decides_ok : (old new : PortState) (home : ℕ) (d : Decision) (a : Answer) (commit : Bool) →
    ((out : Outcome) → a ≡ Decided out → commit ≡ is_commit out) → Retries old new home (Decide d) (Ok a) →
    Decides old new home d (Ok commit)
decides_ok old new home d a commit tells_is r = at (decided_is old.origin.stores d a r.ends.1)
  where
    at : ((out : Outcome) × (a ≡ Decided out)) → Decides old new home d (Ok commit)
    at (out, is) = record {
      part = r.part;
      onward = r.onward;
      asks = asks_tried (λ s. s ≡ home) old.pass home (Decide d) a r.part refl r.ends.0;
      told = (
        out,
        tells_is out is,
        subst (λ (x : Answer). Tried old.pass home (Decide d) x r.part) is r.ends.0,
      );
    }

pub decides_fault : (old new : PortState) (home : ℕ) (d : Decision) (f : StepFault) →
    Retries old new home (Decide d) (Err f) → Decides old new home d (Err f)
decides_fault old new home d f r = record {
  part = r.part;
  onward = r.onward;
  asks = asks_fault (λ s. s ≡ home) old new home (Decide d) f r.part refl r.ends;
  told = r.ends;
}

pub decides_none : (old : PortState) (home : ℕ) (d : Decision) → Decides old old home d (Err fault.NoMemory)
decides_none old home d = record {
  part = [];
  onward = onward_none old;
  asks = All-nil (Asks (λ s. s ≡ home) (Decide d));
  told = record { times = 0; few = omega arith; is = refl };
}

-- ## Ends of parts

-- these of the stores are done
pub record Resolving (old now : PortState) (stores done : List ℕ) (r : Resolution) : Type 0 where
  pub part : List JEntry
  pub onward : Onward old now part
  pub asks : All (Asks (Contains stores) (Resolve r)) part
  pub ended : (store : ℕ) → Contains done store → WasEnded old.pass r part store

none_in : {A : Type 0} (x : A) → Contains [] x → ⊥
none_in x c = let lt = c.1 in omega arith

pub resolving_none : (old : PortState) (stores : List ℕ) (r : Resolution) → Resolving old old stores [] r
resolving_none old stores r = record {
  part = [];
  onward = onward_none old;
  asks = All-nil (Asks (Contains stores) (Resolve r));
  ended = λ store c. absurd (none_in store c);
}

take_more : {A : Type 0} (xs : List A) (i : ℕ) (x : A) → slice_get xs i ≡ Some x → take (suc i) xs ≡ take i xs ++ (x ∷ [])
take_more [] i x h = absurd cc
take_more (y ∷ ys) zero x h = let same : y ≡ x = cc in ap (λ z. z ∷ []) same
take_more (y ∷ ys) (suc i) x h = ap (λ l. y ∷ l) (take_more ys i x h)

pub is_in : {A : Type 0} (xs : List A) (i : ℕ) (x : A) → slice_get xs i ≡ Some x → Contains xs x
is_in [] i x h = absurd cc
is_in (y ∷ ys) zero x h =
    let same : y ≡ x = cc in
    subst (λ z. Contains (y ∷ ys) z) same (Contains-append_left (y ∷ []) ys y (Contains-push [] y))
is_in (y ∷ ys) (suc i) x h = Contains-append_right (y ∷ []) ys x (is_in ys i x h)

pub get_at : {A : Type 0} (xs : List A) (i : ℕ) (d : A) → i < length xs → slice_get xs i ≡ Some (get_or xs i d)
get_at [] i d lt = absurd (omega arith)
get_at (y ∷ ys) zero d lt = refl
get_at (y ∷ ys) (suc i) d lt = get_at ys i d (omega arith)

pub item_at : {A : Type 0} (xs : List A) (i : ℕ) (x : A) → i < length xs → x ≡ get_or xs i x → slice_get xs i ≡ Some x
item_at xs i x lt is = get_at xs i x lt ∙ ap Some (sym is)

-- the first of a part is in it
first_in : (e : JEntry) (es : List JEntry) → Contains (e ∷ es) e
first_in e es = Contains-append_left (e ∷ []) es e (Contains-push [] e)

pub ended_by : (pass p : ℕ) (n : ℕ) (r : Resolution) (a : Answer) (part : List JEntry) → Tried pass p (Resolve r) a part →
    IsAnswer n (Resolve r) a → WasEnded pass r part p
ended_by pass p n r a part t g =
    let is : part ≡ Took pass p (Resolve r) Resolved ∷ doubted t.times (Doubted pass p (Resolve r)) =
    t.is ∙ ap (λ (x : Answer). Took pass p (Resolve r) x ∷ doubted t.times (Doubted pass p (Resolve r))) (sym g.given) in
    subst (λ (l : List JEntry). Contains l (Took pass p (Resolve r) Resolved)) (sym is)
    (first_in (Took pass p (Resolve r) Resolved) (doubted t.times (Doubted pass p (Resolve r))))

module _ (old mid new : PortState) (stores : List ℕ) (i p : ℕ) (r : Resolution) (at : slice_get stores i ≡ Some p)
    (so_far : Resolving old mid stores (take i stores) r) where
  pub resolving_more : (a : Answer) → Retries mid new p (Resolve r) (Ok a) →
      Resolving old new stores (take (suc i) stores) r
  resolving_more a x = record {
    part = x.part ++ so_far.part;
    onward = onward_on old mid new so_far.part x.part so_far.onward x.onward;
    asks = All-append (Asks (Contains stores) (Resolve r)) x.part so_far.part
        (asks_tried (Contains stores) mid.pass p (Resolve r) a x.part (is_in stores i p at) x.ends.0) so_far.asks;
    ended = λ store c. one store (Contains-push_cases (take i stores) p store
        (subst (λ l. Contains l store) (take_more stores i p at) c));
  }
    where
      here : WasEnded old.pass r x.part p
      here = subst (λ (n : ℕ). WasEnded n r x.part p) so_far.onward.pass
          (ended_by mid.pass p mid.origin.stores r a x.part x.ends.0 x.ends.1)

      one : (store : ℕ) → Contains (take i stores) store ⊎ (p ≡ store) → WasEnded old.pass r (x.part ++ so_far.part) store
      one store (inl c) = Contains-append_right x.part so_far.part (Took old.pass store (Resolve r) Resolved)
          (so_far.ended store c)
      one store (inr same) = subst (λ (q : ℕ). WasEnded old.pass r (x.part ++ so_far.part) q) same
          (Contains-append_left x.part so_far.part (Took old.pass p (Resolve r) Resolved) here)

  pub resolving_fault : (f : StepFault) → Retries mid new p (Resolve r) (Err f) → ResolvesAll old new stores r (Err f)
  resolving_fault f x = record {
    part = x.part ++ so_far.part;
    onward = onward_on old mid new so_far.part x.part so_far.onward x.onward;
    asks = All-append (Asks (Contains stores) (Resolve r)) x.part so_far.part
        (asks_fault (Contains stores) mid new p (Resolve r) f x.part (is_in stores i p at) x.ends) so_far.asks;
    ended = cause_after old mid new f so_far.part x.part so_far.onward
        (cause_of mid new p (Resolve r) f x.part x.ends);
  }

pub resolving_done : (old new : PortState) (stores : List ℕ) (r : Resolution) (done : Unit) → Resolving old new stores stores r →
    ResolvesAll old new stores r (Ok done)
resolving_done old new stores r done x = record { part = x.part; onward = x.onward; asks = x.asks; ended = x.ended }

pub resolves_none : (old : PortState) (stores : List ℕ) (r : Resolution) → ResolvesAll old old stores r (Err fault.NoMemory)
resolves_none old stores r =
    record { part = []; onward = onward_none old; asks = All-nil (Asks (Contains stores) (Resolve r)); ended = tt }

-- ## What was known stays known

pub any_later : (f : JEntry → Bool) (part es : List JEntry) → list_any f es ≡ true → list_any f (part ++ es) ≡ true
any_later f [] es h = h
any_later f (e ∷ part) es h = any_more f (part ++ es) e (any_later f part es h)

pub names_later : (part es : List JEntry) (tid : Tid) (plan : Plan) → Names es tid plan → Names (part ++ es) tid plan
names_later [] es tid plan h = h
names_later (e ∷ part) es tid plan h = inl (names_later part es tid plan h)

tells_is : (out : Outcome) → tells (is_commit out) (Decided out) ≡ true
tells_is (Commit e) = refl
tells_is Abort = refl

was_told : (pass home : ℕ) (d : Decision) (out : Outcome) (es : List JEntry) →
    list_any (is_told_at pass d.tid home (is_commit out)) (Took pass home (Decide d) (Decided out) ∷ es) ≡ true
was_told pass home d out es = rw (eq_self pass, eq_self home, same_self d.tid, tells_is out) refl

told_by : (pass home : ℕ) (d : Decision) (commit : Bool) (out : Outcome) (part es : List JEntry) → commit ≡ is_commit out →
    Tried pass home (Decide d) (Decided out) part → WasTold (part ++ es) pass d.tid home commit
told_by pass home d commit out part es is t =
    subst (λ (l : List JEntry). WasTold (l ++ es) pass d.tid home commit) (sym t.is)
    (subst (λ (b : Bool). list_any (is_told_at pass d.tid home b)
    (Took pass home (Decide d) (Decided out) ∷ (doubted t.times (Doubted pass home (Decide d)) ++ es)) ≡ true) (sym is)
    (was_told pass home d out (doubted t.times (Doubted pass home (Decide d)) ++ es)))

-- a part may be ended as the home was heard to have decided
pub end_fair : {S : Type 0} (stands : Origin → PageMap → S → Type 0) (next : S → List ℕ → Entry → S → Type 0)
    (old mid : PortState) (d : Decision) (plan : Plan) (commit : Bool) (store : ℕ) → Names old.mine d.tid plan →
    Decides old mid plan.home d (Ok commit) → Contains plan.parts store →
    MayAsk stands next mid store (Resolve (end_of d.tid commit))
end_fair stands next old mid d plan commit store names x c =
    may_move stands next old mid x.part store (Resolve (end_of d.tid commit)) x.onward (record {
      plan = plan;
      planned = names_later x.part old.mine d.tid plan names;
      here = c;
      told = told_by old.pass plan.home d commit x.told.0 x.part old.mine x.told.1 x.told.2;
    })

-- what may be ended may still be ended later
pub resolve_later : {S : Type 0} (stands : Origin → PageMap → S → Type 0) (next : S → List ℕ → Entry → S → Type 0)
    (old mid : PortState) (part : List JEntry) (store : ℕ) (r : Resolution) → Onward old mid part →
    MayAsk stands next old store (Resolve r) → MayAsk stands next mid store (Resolve r)
resolve_later stands next old mid part store r on f =
    may_move stands next old mid part store (Resolve r) on (record {
      plan = f.plan;
      planned = names_later part old.mine r.tid f.plan f.planned;
      here = f.here;
      told = any_later (is_told_at old.pass r.tid f.plan.home r.commit) part old.mine f.told;
    })

-- ## Finished

module _ (old mid new : PortState) (tid : Tid) (plan : Plan) where
  decide_ends : (part : List JEntry) → All (Asks (λ s. s ≡ plan.home) (Decide (abort_of tid))) part →
      All (IsEnd tid plan) part
  decide_ends part h = All-weaker (Asks (λ s. s ≡ plan.home) (Decide (abort_of tid))) (IsEnd tid plan) (λ e x. inl x) part h

  resolve_ends : (commit : Bool) (part : List JEntry) →
      All (Asks (Contains plan.parts) (Resolve (end_of tid commit))) part → All (IsEnd tid plan) part
  resolve_ends commit part h =
      All-weaker (Asks (Contains plan.parts) (Resolve (end_of tid commit))) (IsEnd tid plan) (λ e x. inr (commit, x)) part h

  pub finish_undecided : (f : StepFault) → Decides old mid plan.home (abort_of tid) (Err f) →
      Finishes old mid tid plan (Err f)
  finish_undecided f d =
      record {
        part = d.part;
        onward = d.onward;
        asks = decide_ends d.part d.asks;
        ended = cause_of old mid plan.home (Decide (abort_of tid)) f d.part d.told;
      }

  module _ (commit : Bool) (d : Decides old mid plan.home (abort_of tid) (Ok commit)) where
    pub finish_faulted : (f : StepFault) → ResolvesAll mid new plan.parts (end_of tid commit) (Err f) →
        Finishes old new tid plan (Err f)
    finish_faulted f r = record {
      part = r.part ++ d.part;
      onward = onward_on old mid new d.part r.part d.onward r.onward;
      asks = All-append (IsEnd tid plan) r.part d.part (resolve_ends commit r.part r.asks) (decide_ends d.part d.asks);
      ended = cause_after old mid new f d.part r.part d.onward r.ended;
    }

    pub finish_done : (done : Unit) → ResolvesAll mid new plan.parts (end_of tid commit) (Ok done) →
        Finishes old new tid plan (Ok commit)
    finish_done done r = record {
      part = r.part ++ d.part;
      onward = onward_on old mid new d.part r.part d.onward r.onward;
      asks = All-append (IsEnd tid plan) r.part d.part (resolve_ends commit r.part r.asks) (decide_ends d.part d.asks);
      ended = record {
        outcome = d.told.0;
        commit_is = d.told.1;
        first = d.part;
        told = d.told.2;
        later = r.part;
        is = refl;
        asks = r.asks;
        ended = λ store c. subst (λ (n : ℕ). WasEnded n (end_of tid commit) r.part store) d.onward.pass (r.ended store c);
      };
    }
