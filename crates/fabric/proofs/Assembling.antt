-- One step at one store group, put together from what its calls tell.
use Rattle.std.proofs.Common.{arith, ◌≡◌, ◌≢◌, ℕ, ◌+◌, ◌≤◌, Bool, true, false, List, [], ◌∷◌, ◌++◌, Option, Some, None}
use Rattle.std.proofs.Common.{Result, Ok, Err, refl, ap, sym, ◌∙◌, subst}
use Rattle.std.specs.Prelude.{reverse, IfOk, OnOk, OnErr, IfErr, IsTrue, is_some}
use Rattle.page_types.specs.Obeys.{answer_of}
use Rattle.page_store.specs.Shown.{after_maybe}
use Rattle.std.proofs.lemmas.List.{append-nil}
use Rattle.pair_types.specs.declared.fault.StepFault.{StepFault}
use Rattle.pair_types.specs.declared.fault.StepFault.TheVariants as fault
use Rattle.outside.specs.Weather.{WeatherTold}
use Rattle.page_types.specs.declared.command.Command.{Command}
use Rattle.page_types.specs.declared.answer.Answer.{Answer}
use Rattle.page_types.specs.declared.journal.JEntry.{JEntry}
use Rattle.paxos_group.specs.declared.fault.GroupFault.{GroupFault}
use Rattle.paxos_group.specs.declared.fault.GroupFault.TheVariants as group
use Rattle.paxos_group.specs.Moments.{Attempts, IsHeard, moment}
use Rattle.paxos_group.specs.Settling.{Settling}
use Rattle.paxos_group.specs.Steps.{Endures}
use Rattle.store_group.specs.declared.group.StoreGroup.{StoreGroup}
use Rattle.store_group.specs.Behind.{Behind, Left, settled_by}
use Rattle.store_group.specs.Journal.{Request, gained}
use Rattle.store_group.specs.Shown.{behind, settling_of, first_of_store, end_of}
use Rattle.fabric.specs.declared.book.Book.{Book}
use Rattle.fabric.specs.Settled.{taken, doubts_in}
use Rattle.fabric.specs.Stepping.{AreHeard, Worsens}
use Rattle.fabric.specs.Taking.{Scene, Takes, IsSame, IsSameBook, written}
use Rattle.fabric.proofs.Growing.{same_behind, at_same}

ok_end : (own : Result Answer StepFault) (P : Type 0) → OnOk (end_of own) P → OnOk own P
ok_end (Ok a) P h = h
ok_end (Err f) P h = tt

doubt_end : (own : Result Answer StepFault) (P : Type 0) → IfErr (end_of own) (λ why. why ≡ group.Doubt → P) →
    IfErr own (λ why. why ≡ fault.Doubt → P)
doubt_end (Ok a) P h = tt
doubt_end (Err fault.Doubt) P h = λ e. h refl
doubt_end (Err fault.NoMemory) P h = λ e. absurd ((cc))
doubt_end (Err fault.Stopped) P h = λ e. absurd ((cc))

unmoved_so : (own : Result Answer StepFault) (doubted : Bool) (late : Option (Command × Answer)) (c : Command)
    (g h : StoreGroup) (P : Type 0) →
    Left own doubted (behind g) (behind h) c late → first_of_store h ≡ first_of_store g →
    OnErr own (doubted ≡ false → (settling_of h ≡ settling_of g) × P) → OnErr own (doubted ≡ false → IsSame g h × P)
unmoved_so (Ok a) doubted late c g h P left first un = tt
unmoved_so (Err f) true late c g h P left first un = λ off. absurd ((cc))
unmoved_so (Err f) false late c g h P left first un = λ off. (
  record {
    behind_is = same_behind (behind h) (behind g) left.state left.pending;
    settling_is = (un off).0;
    first_is = first;
  },
  (un off).1,
)

pub same_self : (g : StoreGroup) → IsSame g g
same_self g = record { behind_is = refl; settling_is = refl; first_is = refl }

same_again : (f g h : StoreGroup) → IsSame f g → IsSame g h → IsSame f h
same_again f g h p q = record {
  behind_is = q.behind_is ∙ p.behind_is;
  settling_is = q.settling_is ∙ p.settling_is;
  first_is = q.first_is ∙ p.first_is;
}

-- a step is answered as it was told before
pub own_is_told : (own : Result Answer StepFault) (doubted : Bool) (old new : Behind) (c : Command)
    (late : Option (Command × Answer))
    (told : Answer) → Left own doubted old new c late → told ≡ answer_of (after_maybe old.state old.pending) c →
    IfOk own (λ a. a ≡ told)
own_is_told (Ok a) doubted old new c late told left is = left.answer ∙ sym is
own_is_told (Err f) doubted old new c late told left is = tt

module _ {W : Type 0} (told : WeatherTold W) where
  endures_self : (w : W) → Endures told w w
  endures_self w = record { never_falls = λ s r. omega arith; same_silence = λ s r k. refl }

  -- nothing was asked of any replica, for want of memory
  nothing_yet : (g h : StoreGroup) (old new : Book) (w : W) (asked : Request) → IsSame g h → IsSameBook old new →
      Takes told (record { group = g; book = old; weather = w }) (record { group = h; book = new; weather = w }) asked
      (Err fault.NoMemory)
  nothing_yet g h old new w asked same book = record {
    late = None;
    doubted = false;
    entries = ap reverse book.entries;
    steps = let e = book.steps in omega (arith, e);
    doubts = let e = book.doubts in omega (arith, e);
    left = record {
      was_late = refl;
      state = ap (λ (b : Behind). b.state) same.behind_is;
      pending = ap (λ (b : Behind). b.pending) same.behind_is;
    };
    log = ap (λ (s : Settling Command). s.log) same.settling_is ∙ sym (append-nil (settling_of g).log);
    round = let e : (settling_of h).round ≡ (settling_of g).round = ap (λ (s : Settling Command). s.round) same.settling_is in
        omega (arith, e);
    unmoved = λ off. (same, refl);
    number = ap (λ (s : Settling Command). s.store) same.settling_is;
    replicas = ap (λ (s : Settling Command). s.replicas) same.settling_is;
    first = same.first_is;
    endures = endures_self w;
    heard = tt;
    late_heard = λ e. absurd (let x : false ≡ true = e in (cc));
    worsens = λ e. absurd (let x : fault.NoMemory ≡ fault.Doubt = e in (cc));
    doubt_is_doubted = λ e. absurd (let x : fault.NoMemory ≡ fault.Doubt = e in (cc));
    never_stopped = λ e. let x : fault.NoMemory ≡ fault.Stopped = e in (cc);
  }

  pub nothing : (g h : StoreGroup) (old new : Book) (w : W) (asked : Request) (f : StepFault) → f ≡ fault.NoMemory → IsSame g h →
      IsSameBook old new → Takes told (record { group = g; book = old; weather = w })
      (record { group = h; book = new; weather = w }) asked (Err f)
  nothing g h old new w asked f is same book =
      subst (λ x. Takes told (record { group = g; book = old; weather = w }) (record { group = h; book = new; weather = w }) asked
      (Err x)) (sym is) (nothing_yet g h old new w asked same book)

  -- a step of a group, and what was written down of it
  pub stepped_so : (g h : StoreGroup) (old new : Book) (v w : W) (asked : Request) (own : Result Answer StepFault)
      (doubted : Bool)
      (late : Option (Command × Answer)) →
      Left own doubted (behind g) (behind h) asked.command late →
      OnErr own (doubted ≡ false → (settling_of h ≡ settling_of g) × (w ≡ v)) →
      first_of_store h ≡ first_of_store g →
      (settling_of h).round ≤ (settling_of g).round + 2 →
      (settling_of h).log ≡ (settling_of g).log ++ settled_by late own asked.command →
      Attempts told 8 (moment (settling_of g) v) (moment (settling_of h) w) (end_of own) →
      IfErr own (λ why. why ≡ fault.Doubt → doubted ≡ true) →
      IfErr own (λ why. why ≢ fault.Stopped) →
      (IsTrue (is_some late) → IsHeard told (moment (settling_of g) v)) →
      written new ≡ gained asked late own doubted (written old) →
      new.steps ≡ old.steps + taken own doubted →
      new.doubts ≡ old.doubts + doubts_in own →
      Takes told (record { group = g; book = old; weather = v }) (record { group = h; book = new; weather = w }) asked own
  stepped_so g h old new v w asked own doubted late left un first round log attempts doubtful stopped heard entries steps doubts
      = record {
        late = late;
        doubted = doubted;
        entries = entries;
        steps = steps;
        doubts = doubts;
        left = left;
        log = log;
        round = round;
        unmoved = unmoved_so own doubted late asked.command g h (w ≡ v) left first un;
        number = attempts.store;
        replicas = attempts.replicas;
        first = first;
        endures = attempts.endures;
        heard = ok_end own (AreHeard told (settling_of g).replicas v (settling_of g).store) attempts.heard;
        late_heard = heard;
        worsens = doubt_end own (Worsens told (settling_of g).replicas v w (settling_of g).store) attempts.doubt;
        doubt_is_doubted = doubtful;
        never_stopped = stopped;
      }

  -- what was made ready before changed nothing that is seen
  pub from_same : (f g h : StoreGroup) (old mid new : Book) (v w : W) (asked : Request) (own : Result Answer StepFault) →
      IsSame f g →
      IsSameBook old mid →
      Takes told (record { group = g; book = mid; weather = v }) (record { group = h; book = new; weather = w }) asked own →
      Takes told (record { group = f; book = old; weather = v }) (record { group = h; book = new; weather = w }) asked own
  from_same f g h old mid new v w asked own same book t = record {
    late = t.late;
    doubted = t.doubted;
    entries = t.entries ∙ ap (λ l. gained asked t.late own t.doubted (reverse l)) book.entries;
    steps = t.steps ∙ ap (λ n. n + taken own t.doubted) book.steps;
    doubts = t.doubts ∙ ap (λ n. n + doubts_in own) book.doubts;
    left = subst (λ (b : Behind). Left own t.doubted b (behind h) asked.command t.late) same.behind_is t.left;
    log = t.log ∙ ap (λ (s : Settling Command). s.log ++ settled_by t.late own asked.command) same.settling_is;
    round = subst (λ (s : Settling Command). (settling_of h).round ≤ s.round + 2) same.settling_is t.round;
    unmoved = at_same own t.doubted (λ p. (same_again f g h same p.0, p.1)) t.unmoved;
    number = t.number ∙ ap (λ (s : Settling Command). s.store) same.settling_is;
    replicas = t.replicas ∙ ap (λ (s : Settling Command). s.replicas) same.settling_is;
    first = t.first ∙ same.first_is;
    endures = t.endures;
    heard = subst (λ (s : Settling Command). OnOk own (AreHeard told s.replicas v s.store)) same.settling_is t.heard;
    late_heard = subst (λ (s : Settling Command). IsTrue (is_some t.late) → AreHeard told s.replicas v s.store) same.settling_is
        t.late_heard;
    worsens = subst (λ (s : Settling Command). IfErr own (λ why. why ≡ fault.Doubt → Worsens told s.replicas v w s.store))
        same.settling_is t.worsens;
    doubt_is_doubted = t.doubt_is_doubted;
    never_stopped = t.never_stopped;
  }
