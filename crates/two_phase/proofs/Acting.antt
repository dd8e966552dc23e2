-- A command other than Fresh acts at most once: what it leaves in a store's state, and that this stays.
use Rattle.std.proofs.Common.{◌≡◌, ℕ, ◌==◌, ◌&&◌, ◌||◌, Bool, true, false, cond, List, [], ◌∷◌, Option, Some, None, refl, ap, sym}
use Rattle.std.proofs.Common.{◌∙◌, subst, inl, inr, ◌⊎◌, IsSome, is_some}
use Rattle.std.specs.Prelude.{All}
use Rattle.std.proofs.lemmas.List.Elements.{All-head, All-tail}
use mathlib.Core.Path.{fun_ext}
use Rattle.pair_types.specs.declared.slot.Tid.{Tid}
use Rattle.page_types.specs.declared.hold.Hold.{Hold}
use Rattle.page_types.specs.declared.hold.WriteHold.{WriteHold}
use Rattle.page_types.specs.declared.outcome.Outcome.{Outcome}
use Rattle.page_types.specs.declared.outcome.Outcome.TheVariants.{Commit}
use Rattle.page_types.specs.declared.versions.PageRead.{PageRead}
use Rattle.page_types.specs.declared.versions.PageWrite.{PageWrite}
use Rattle.page_types.specs.declared.command.Transaction.{Transaction}
use Rattle.page_types.specs.declared.command.Part.{Part}
use Rattle.page_types.specs.declared.command.Decision.{Decision}
use Rattle.page_types.specs.declared.command.Resolution.{Resolution}
use Rattle.page_types.specs.declared.command.Command.{Command}
use Rattle.page_types.specs.declared.command.Command.TheVariants.{Fresh, Read, Look, Write, Prepare, Decide, Resolve}
use Rattle.page_types.specs.declared.answer.Answer.{Answer}
use Rattle.page_types.specs.declared.answer.Answer.TheVariants.{Decided, Ended, Prepared}
use Rattle.page_types.specs.Accesses.{is_same, read_at, written_at, AreAccesses}
use Rattle.page_types.specs.Asked.{first_of}
use Rattle.page_types.specs.Stores.{Kept, StoreState}
use Rattle.page_types.specs.Obeys.{IsFormed, first_over, other_writer, other_reader}
use Rattle.page_types.specs.Obeys.{busy_reader, busy_at, busy, conflict, settled}
use Rattle.page_types.specs.Obeys.{write_refusal, after_write, written}
use Rattle.page_types.specs.Obeys.{after_decide, has_hold, has_writer}
use Rattle.page_types.specs.Obeys.{has_reader, own_hold, prepare_refusal, hold_of}
use Rattle.page_types.specs.Obeys.{holding, after_prepare, without, releasing, resolving}
use Rattle.page_types.specs.Obeys.{ending, after_resolve, after, after_all, sooner, busy_by}
use Rattle.two_phase.specs.Once.{is_fresh, ActsOnce}
use Rattle.two_phase.proofs.Basics.{or_false, or_right, eq_true, eq_self, same_self}

-- what each command keeps holds after all of them
stays_over : (I : StoreState → Type 0) → ((s : StoreState) (c : Command) → IsFormed c → I s → I (after s c)) →
    (cs : List Command) → All IsFormed cs → (s : StoreState) → I s → I (after_all s cs)
stays_over I step [] h s i = i
stays_over I step (c ∷ cs) h s i =
    stays_over I step cs (All-tail IsFormed c cs h) (after s c) (step s c (All-head IsFormed c cs h) i)

and_true : (a b : Bool) → (a && b) ≡ true → (a ≡ true) × (b ≡ true)
and_true true b h = (refl, h)
and_true false b h = absurd cc

same_tid : (s t : Tid) → is_same s t ≡ true → s ≡ t
same_tid s t h =
    let b = and_true (s.pass == t.pass) (s.serial == t.serial) h in
    let pass : s.pass ≡ t.pass = eq_true s.pass t.pass b.0 in
    let serial : s.serial ≡ t.serial = eq_true s.serial t.serial b.1 in
    at s.pass s.serial pass serial
  where
    at : (p n : ℕ) → p ≡ t.pass → n ≡ t.serial → ◌≡◌ {A = Tid} (record { pass = p; serial = n }) t
    at p n is same = rw (is, same) refl

-- ## Decisions stay

some_if : {A : Type 0} (b : Bool) (x : A) (o : Option A) → IsSome o → IsSome (cond b (Some x) o)
some_if true x o h = refl
some_if false x o h = h

module _ (t : Tid) where
  decided_write : (r : Option Answer) (s : StoreState) (x : Transaction) → IsSome (s.decided t) →
      IsSome ((after_write r s x).decided t)
  decided_write None s x h = some_if (is_same x.tid t) (Commit x.entry) (s.decided t) h
  decided_write (Some a) s x h = h

  decided_prepare : (r : Option Answer) (s : StoreState) (p : Part) → IsSome (s.decided t) →
      IsSome ((after_prepare r s p).decided t)
  decided_prepare None s p h = h
  decided_prepare (Some a) s p h = h

  decided_decide : (o : Option Outcome) (s : StoreState) (tid : Tid) (out : Outcome) → IsSome (s.decided t) →
      IsSome ((after_decide o s tid out).decided t)
  decided_decide None s tid out h = some_if (is_same tid t) out (s.decided t) h
  decided_decide (Some earlier) s tid out h = h

  stays_decided : (s : StoreState) (c : Command) → IsSome (s.decided t) → IsSome ((after s c).decided t)
  stays_decided s Fresh h = h
  stays_decided s (Read n) h = h
  stays_decided s (Look ns) h = h
  stays_decided s (Write x) h = decided_write (write_refusal s x) s x h
  stays_decided s (Prepare p) h = decided_prepare (prepare_refusal s p) s p h
  stays_decided s (Decide d) h = decided_decide (s.decided d.tid) s d.tid d.outcome h
  stays_decided s (Resolve r) h = h

  ended_write : (r : Option Answer) (s : StoreState) (x : Transaction) → s.ended t ≡ true →
      (after_write r s x).ended t ≡ true
  ended_write None s x h = h
  ended_write (Some a) s x h = h

  ended_prepare : (r : Option Answer) (s : StoreState) (p : Part) → s.ended t ≡ true → (after_prepare r s p).ended t ≡ true
  ended_prepare None s p h = h
  ended_prepare (Some a) s p h = h

  ended_decide : (o : Option Outcome) (s : StoreState) (tid : Tid) (out : Outcome) → s.ended t ≡ true →
      (after_decide o s tid out).ended t ≡ true
  ended_decide None s tid out h = h
  ended_decide (Some earlier) s tid out h = h

  stays_ended : (s : StoreState) (c : Command) → s.ended t ≡ true → (after s c).ended t ≡ true
  stays_ended s Fresh h = h
  stays_ended s (Read n) h = h
  stays_ended s (Look ns) h = h
  stays_ended s (Write x) h = ended_write (write_refusal s x) s x h
  stays_ended s (Prepare p) h = ended_prepare (prepare_refusal s p) s p h
  stays_ended s (Decide d) h = ended_decide (s.decided d.tid) s d.tid d.outcome h
  stays_ended s (Resolve r) h = rw h (or_right (is_same r.tid t))

  -- where it was decided, or has ended, a command of it is refused
  settles_decided : (s : StoreState) (o : Option Outcome) → s.decided t ≡ o → IsSome o → (a : Answer) × (settled s t ≡ Some a)
  settles_decided s None is h = absurd cc
  settles_decided s (Some out) is h = (Decided out, rw is refl)

  settles_ended : (s : StoreState) (o : Option Outcome) → s.decided t ≡ o → s.ended t ≡ true →
      (a : Answer) × (settled s t ≡ Some a)
  settles_ended s None is h = (Ended, rw (is, h) refl)
  settles_ended s (Some out) is h = (Decided out, rw is refl)

-- ## Writes and decisions

write_refused : (w : StoreState) (x : Transaction) → ((a : Answer) × (settled w x.tid ≡ Some a)) → after w (Write x) ≡ w
write_refused w x f = let is : settled w x.tid ≡ Some f.0 = f.1 in rw is refl

module _ (s : StoreState) (others : List Command) (formed : All IsFormed others) where
  write_once : (x : Transaction) (r : Option Answer) → write_refusal s x ≡ r →
      (after s (Write x) ≡ s)
      ⊎ (after (after_all (after s (Write x)) others) (Write x) ≡ after_all (after s (Write x)) others)
  write_once x (Some a) is = inl (rw is refl)
  write_once x None is =
      let first : IsSome ((after s (Write x)).decided x.tid) = rw (is, same_self x.tid) refl in
      let last = stays_over (λ v. IsSome (v.decided x.tid)) (λ v c f. stays_decided x.tid v c) others formed
      (after s (Write x)) first in
      inr (write_refused (after_all (after s (Write x)) others) x
      (settles_decided x.tid (after_all (after s (Write x)) others)
      ((after_all (after s (Write x)) others).decided x.tid) refl last))

  decide_again : (w : StoreState) (d : Decision) (o : Option Outcome) → w.decided d.tid ≡ o → IsSome o → after w (Decide d) ≡ w
  decide_again w d None is h = absurd cc
  decide_again w d (Some out) is h = rw is refl

  decide_once : (d : Decision) (o : Option Outcome) → s.decided d.tid ≡ o →
      (after s (Decide d) ≡ s)
      ⊎ (after (after_all (after s (Decide d)) others) (Decide d) ≡ after_all (after s (Decide d)) others)
  decide_once d (Some out) is = inl (rw is refl)
  decide_once d None is =
      let first : IsSome ((after s (Decide d)).decided d.tid) = rw (is, same_self d.tid) refl in
      let last = stays_over (λ v. IsSome (v.decided d.tid)) (λ v c f. stays_decided d.tid v c) others formed
      (after s (Decide d)) first in
      inr (decide_again (after_all (after s (Decide d)) others) d
      ((after_all (after s (Decide d)) others).decided d.tid) refl last)

-- ## Ends of parts

without_none : (t : Tid) (hs : List Hold) → has_reader t (without t hs) ≡ false
without_none t [] = refl
without_none t (h ∷ hs) = at (is_same h.tid t) refl (without_none t hs)
  where
    at : (b : Bool) → is_same h.tid t ≡ b → has_reader t (without t hs) ≡ false →
        has_reader t (cond b (without t hs) (h ∷ without t hs)) ≡ false
    at true is rest = rest
    at false is rest = rw is rest

without_less : (t u : Tid) (hs : List Hold) → has_reader t hs ≡ false → has_reader t (without u hs) ≡ false
without_less t u [] none = refl
without_less t u (h ∷ hs) none =
    let both = or_false (is_same h.tid t) (has_reader t hs) none in at (is_same h.tid u) both.0 (without_less t u hs both.1)
  where
    at : (b : Bool) → is_same h.tid t ≡ false → has_reader t (without u hs) ≡ false →
        has_reader t (cond b (without u hs) (h ∷ without u hs)) ≡ false
    at true other rest = rest
    at false other rest = rw other rest

without_same : (t : Tid) (hs : List Hold) → has_reader t hs ≡ false → without t hs ≡ hs
without_same t [] none = refl
without_same t (h ∷ hs) none =
    let both = or_false (is_same h.tid t) (has_reader t hs) none in
    let other : is_same h.tid t ≡ false = both.0 in
    rw other (ap (λ (l : List Hold). h ∷ l) (without_same t hs both.1))

-- the transaction's part has ended, and it has no hold
record Gone (t : Tid) (s : StoreState) : Type 0 where
  pub over : s.ended t ≡ true
  pub free : (n : ℕ) → has_hold t (s.slot n) ≡ false

module _ (t : Tid) where
  released_free : (commit : Bool) (page : List ℕ) (k : Kept) → has_hold t (releasing t commit page k) ≡ false
  released_free true page k = without_none t k.readers
  released_free false page k = without_none t k.readers

  resolved_free : (commit : Bool) (o : Option WriteHold) (k : Kept) → k.writer ≡ o → has_hold t (resolving t commit o k) ≡ false
  resolved_free commit None k is = rw is (without_none t k.readers)
  resolved_free commit (Some w) k is = at (is_same w.hold.tid t) refl
    where
      at : (b : Bool) → is_same w.hold.tid t ≡ b →
          has_hold t (cond b (releasing t commit w.content k) (record k { readers = without t k.readers })) ≡ false
      at true same = released_free commit w.content k
      at false same = rw (is, same) (without_none t k.readers)

  -- ending it once more changes nothing
  resolved_same : (commit : Bool) (o : Option WriteHold) (k : Kept) → k.writer ≡ o → has_hold t k ≡ false →
      resolving t commit o k ≡ k
  resolved_same commit None k is free =
      let both = or_false (has_writer t k.writer) (has_reader t k.readers) free in
      ap (λ (l : List Hold). record k { readers = l }) (without_same t k.readers both.1)
  resolved_same commit (Some w) k is free =
      let both = or_false (has_writer t k.writer) (has_reader t k.readers) free in
      let other : is_same w.hold.tid t ≡ false = sym (ap (λ (o : Option WriteHold). has_writer t o) is) ∙ both.0 in
      rw other (ap (λ (l : List Hold). record k { readers = l }) (without_same t k.readers both.1))

  gone_first : (s : StoreState) (commit : Bool) → Gone t (after_resolve s t commit)
  gone_first s commit = record {
    over = rw (same_self t) refl;
    free = λ n. resolved_free commit (s.slot n).writer (s.slot n) refl;
  }

  ended_same : (w : StoreState) (other : Tid) (b : Bool) → is_same t other ≡ b → w.ended t ≡ true →
      (b || w.ended other) ≡ w.ended other
  ended_same w other true same over = sym (ap (λ (u : Tid). w.ended u) (sym (same_tid t other same)) ∙ over)
  ended_same w other false same over = refl

  same_state : (w : StoreState) (slot : ℕ → Kept) (ended : Tid → Bool) → slot ≡ w.slot → ended ≡ w.ended →
      record w { slot = slot; ended = ended } ≡ w
  same_state w slot ended p q =
      ap (λ (f : ℕ → Kept). record w { slot = f; ended = ended }) p
      ∙ ap (λ (f : Tid → Bool). record w { slot = w.slot; ended = f }) q

  gone_again : (w : StoreState) (commit : Bool) → Gone t w → after_resolve w t commit ≡ w
  gone_again w commit gone =
      same_state w (λ n. resolving t commit (w.slot n).writer (w.slot n)) (ending w.ended t)
      (fun_ext (λ n. resolved_same commit (w.slot n).writer (w.slot n) refl (gone.free n)))
      (fun_ext (λ other. ended_same w other (is_same t other) refl gone.over))

  -- no other command gives it a hold
  held_written : (u : Tid) (o : Option (List ℕ)) (k : Kept) → has_hold t (written u o k) ≡ has_hold t k
  held_written u None k = refl
  held_written u (Some page) k = refl

  free_write : (r : Option Answer) (s : StoreState) (x : Transaction) → ((n : ℕ) → has_hold t (s.slot n) ≡ false) →
      (n : ℕ) → has_hold t ((after_write r s x).slot n) ≡ false
  free_write None s x free n = held_written x.tid (written_at x.writes n) (s.slot n) ∙ free n
  free_write (Some a) s x free n = free n

  free_held : (h : Hold) (o : Option (List ℕ)) (v : Option ℕ) (k : Kept) → is_same h.tid t ≡ false → has_hold t k ≡ false →
      has_hold t (holding h o v k) ≡ false
  free_held h (Some page) v k other free =
      let both = or_false (has_writer t k.writer) (has_reader t k.readers) free in rw other both.1
  free_held h None (Some v) k other free =
      let both = or_false (has_writer t k.writer) (has_reader t k.readers) free in
      let none : has_writer t k.writer ≡ false = both.0 in
      rw (none, other) both.1
  free_held h None None k other free = free

  free_prepare : (r : Option Answer) (s : StoreState) (p : Part) → is_same p.tid t ≡ false →
      ((n : ℕ) → has_hold t (s.slot n) ≡ false) → (n : ℕ) → has_hold t ((after_prepare r s p).slot n) ≡ false
  free_prepare None s p other free n =
      free_held (hold_of p) (written_at p.writes n) (read_at p.reads n) (s.slot n) other (free n)
  free_prepare (Some a) s p other free n = free n

  free_decide : (o : Option Outcome) (s : StoreState) (tid : Tid) (out : Outcome) →
      ((n : ℕ) → has_hold t (s.slot n) ≡ false) → (n : ℕ) → has_hold t ((after_decide o s tid out).slot n) ≡ false
  free_decide None s tid out free n = free n
  free_decide (Some earlier) s tid out free n = free n

  free_resolve : (u : Tid) (commit : Bool) (o : Option WriteHold) (k : Kept) → k.writer ≡ o → has_hold t k ≡ false →
      has_hold t (resolving u commit o k) ≡ false
  free_resolve u commit None k is free =
      let both = or_false (has_writer t k.writer) (has_reader t k.readers) free in
      rw is (without_less t u k.readers both.1)
  free_resolve u commit (Some w) k is free =
      at (is_same w.hold.tid u) commit (or_false (has_writer t k.writer) (has_reader t k.readers) free)
    where
      at : (b commit : Bool) → (has_writer t k.writer ≡ false) × (has_reader t k.readers ≡ false) →
          has_hold t (cond b (releasing u commit w.content k) (record k { readers = without u k.readers })) ≡ false
      at true true both = without_less t u k.readers both.1
      at true false both = without_less t u k.readers both.1
      at false commit both =
          let none : has_writer t k.writer ≡ false = both.0 in rw none (without_less t u k.readers both.1)

-- a command of a transaction that was settled is refused
prepare_refused : (w : StoreState) (p : Part) → ((a : Answer) × (settled w p.tid ≡ Some a)) → after w (Prepare p) ≡ w
prepare_refused w p f = let is : settled w p.tid ≡ Some f.0 = f.1 in rw is refl

free_own : (t : Tid) (s : StoreState) (p : Part) (b : Bool) → is_same p.tid t ≡ b → Gone t s → (n : ℕ) →
    has_hold t ((after s (Prepare p)).slot n) ≡ false
free_own t s p true same gone n =
    let is = same_tid p.tid t same in
    let over : s.ended p.tid ≡ true = ap (λ (u : Tid). s.ended u) is ∙ gone.over in
    subst (λ (v : StoreState). has_hold t (v.slot n) ≡ false)
    (sym (prepare_refused s p (settles_ended p.tid s (s.decided p.tid) refl over))) (gone.free n)
free_own t s p false other gone n = free_prepare t (prepare_refusal s p) s p other gone.free n

stays_gone : (t : Tid) (s : StoreState) (c : Command) → IsFormed c → Gone t s → Gone t (after s c)
stays_gone t s c formed gone = record { over = stays_ended t s c gone.over; free = free c }
  where
    free : (c : Command) → (n : ℕ) → has_hold t ((after s c).slot n) ≡ false
    free Fresh n = gone.free n
    free (Read m) n = gone.free n
    free (Look ms) n = gone.free n
    free (Write x) n = free_write t (write_refusal s x) s x gone.free n
    free (Prepare p) n = free_own t s p (is_same p.tid t) refl gone n
    free (Decide d) n = free_decide t (s.decided d.tid) s d.tid d.outcome gone.free n
    free (Resolve r) n = free_resolve t r.tid r.commit (s.slot n).writer (s.slot n) refl (gone.free n)

resolve_once : (s : StoreState) (others : List Command) → All IsFormed others → (r : Resolution) →
    after (after_all (after s (Resolve r)) others) (Resolve r) ≡ after_all (after s (Resolve r)) others
resolve_once s others formed r =
    gone_again r.tid (after_all (after s (Resolve r)) others) r.commit
    (stays_over (Gone r.tid) (stays_gone r.tid) others formed (after s (Resolve r)) (gone_first r.tid s r.commit))

-- ## Prepares

-- the transaction has a hold on each page that was read
abbrev Held : Tid → List PageRead → StoreState → Type 0
Held t rs s = (n : ℕ) → IsSome (read_at rs n) → has_hold t (s.slot n) ≡ true

-- it was decided, or its part has ended, or it is held still
abbrev Stays : Tid → List PageRead → StoreState → Type 0
Stays t rs s = IsSome (s.decided t) ⊎ ((s.ended t ≡ true) ⊎ Held t rs s)

or_true : (a b : Bool) → (a || b) ≡ true → (a ≡ true) ⊎ (b ≡ true)
or_true true b h = inl refl
or_true false b h = inr h

with_reader : (a b : Bool) → b ≡ true → (a || b) ≡ true
with_reader a b h = rw h (or_right a)

without_other : (t u : Tid) (hs : List Hold) → is_same u t ≡ false → has_reader t hs ≡ true →
    has_reader t (without u hs) ≡ true
without_other t u [] other h = absurd cc
without_other t u (k ∷ hs) other h =
    at (is_same k.tid u) refl (or_true (is_same k.tid t) (has_reader t hs) h) (λ x. without_other t u hs other x)
  where
    at : (b : Bool) → is_same k.tid u ≡ b → (is_same k.tid t ≡ true) ⊎ (has_reader t hs ≡ true) →
        (has_reader t hs ≡ true → has_reader t (without u hs) ≡ true) →
        has_reader t (cond b (without u hs) (k ∷ without u hs)) ≡ true
    at true same (inl own) rest =
        let is = same_tid k.tid u same in
        let mine : is_same u t ≡ true = ap (λ (v : Tid). is_same v t) (sym is) ∙ own in absurd cc
    at true same (inr later) rest = rest later
    at false same (inl own) rest = rw own refl
    at false same (inr later) rest = with_reader (is_same k.tid t) (has_reader t (without u hs)) (rest later)

module _ (t : Tid) where
  -- holds of another one that end leave it its own
  held_resolve : (u : Tid) (commit : Bool) (o : Option WriteHold) (k : Kept) → k.writer ≡ o → is_same u t ≡ false →
      has_hold t k ≡ true → has_hold t (resolving u commit o k) ≡ true
  held_resolve u commit None k is other h = at (or_true (has_writer t k.writer) (has_reader t k.readers) h)
    where
      at : (has_writer t k.writer ≡ true) ⊎ (has_reader t k.readers ≡ true) →
          (has_writer t k.writer || has_reader t (without u k.readers)) ≡ true
      at (inl own) = rw own refl
      at (inr own) = with_reader (has_writer t k.writer) (has_reader t (without u k.readers))
          (without_other t u k.readers other own)
  held_resolve u commit (Some w) k is other h =
      at (is_same w.hold.tid u) refl commit (or_true (has_writer t k.writer) (has_reader t k.readers) h)
    where
      at : (b : Bool) → is_same w.hold.tid u ≡ b → (commit : Bool) →
          (has_writer t k.writer ≡ true) ⊎ (has_reader t k.readers ≡ true) →
          has_hold t (cond b (releasing u commit w.content k) (record k { readers = without u k.readers })) ≡ true
      at true same commit (inl own) =
          let same_one = same_tid w.hold.tid u same in
          let mine : is_same w.hold.tid t ≡ true = sym (ap (λ (o : Option WriteHold). has_writer t o) is) ∙ own in
          let turned : is_same u t ≡ true = ap (λ (v : Tid). is_same v t) (sym same_one) ∙ mine in absurd cc
      at true same true (inr own) = without_other t u k.readers other own
      at true same false (inr own) = without_other t u k.readers other own
      at false same commit (inl own) = rw own refl
      at false same commit (inr own) = with_reader (has_writer t k.writer) (has_reader t (without u k.readers))
          (without_other t u k.readers other own)

  held_write : (rs : List PageRead) (r : Option Answer) (s : StoreState) (x : Transaction) → Held t rs s →
      Held t rs (after_write r s x)
  held_write rs None s x held n h = held_written t x.tid (written_at x.writes n) (s.slot n) ∙ held n h
  held_write rs (Some a) s x held n h = held n h

  held_decide : (rs : List PageRead) (o : Option Outcome) (s : StoreState) (tid : Tid) (out : Outcome) → Held t rs s →
      Held t rs (after_decide o s tid out)
  held_decide rs None s tid out held n h = held n h
  held_decide rs (Some earlier) s tid out held n h = held n h

-- where nothing refuses reads, nothing does at any of them
none_over : (f : ℕ → ℕ → Option Answer) (rs : List PageRead) (n v : ℕ) → first_over f rs ≡ None → read_at rs n ≡ Some v →
    f n v ≡ None
none_over f [] n v none read = absurd cc
none_over f (r ∷ rs) n v none read =
    at (r.number == n) refl (f r.number r.version) refl none read (λ later x. none_over f rs n v later x)
  where
    at : (b : Bool) → (r.number == n) ≡ b → (o : Option Answer) → f r.number r.version ≡ o →
        first_of o (first_over f rs) ≡ None → cond b (Some r.version) (read_at rs n) ≡ Some v →
        (first_over f rs ≡ None → read_at rs n ≡ Some v → f n v ≡ None) → f n v ≡ None
    at b same (Some a) is none read rest = absurd cc
    at true same None is none read rest =
        let number : r.number ≡ n = eq_true r.number n same in
        let version : r.version ≡ v = cc in
        subst (λ (m : ℕ). f m v ≡ None) number (subst (λ (w : ℕ). f r.number w ≡ None) version is)
    at false same None is none read rest = rest none read

none_first : (a b : Option Answer) → first_of a b ≡ None → (a ≡ None) × (b ≡ None)
none_first None b h = (refl, h)
none_first (Some x) b h = absurd cc

-- the readers' holds on a page that another one may write are its own
own_readers : (t u : Tid) (hs : List Hold) → other_reader u hs ≡ None → has_reader t hs ≡ true → is_same u t ≡ true
own_readers t u [] none h = absurd cc
own_readers t u (k ∷ hs) none h =
    at (is_same k.tid u) refl none (or_true (is_same k.tid t) (has_reader t hs) h) (λ later x. own_readers t u hs later x)
  where
    at : (b : Bool) → is_same k.tid u ≡ b → cond b (other_reader u hs) (Some (sooner k (other_reader u hs))) ≡ None →
        (is_same k.tid t ≡ true) ⊎ (has_reader t hs ≡ true) →
        (other_reader u hs ≡ None → has_reader t hs ≡ true → is_same u t ≡ true) → is_same u t ≡ true
    at true same none (inl own) rest =
        let is = same_tid k.tid u same in ap (λ (v : Tid). is_same v t) (sym is) ∙ own
    at true same none (inr later) rest = rest none later
    at false same none own rest = absurd cc

own_writer : (t u : Tid) (n : ℕ) (o : Option WriteHold) → other_writer u n o ≡ None → has_writer t o ≡ true →
    is_same u t ≡ true
own_writer t u n None none h = absurd cc
own_writer t u n (Some w) none h = at (is_same w.hold.tid u) refl none
  where
    at : (b : Bool) → is_same w.hold.tid u ≡ b → cond b None (Some (busy_by n w.hold)) ≡ None → is_same u t ≡ true
    at true same none = let is = same_tid w.hold.tid u same in ap (λ (v : Tid). is_same v t) (sym is) ∙ h
    at false same none = absurd cc

busy_own : (t u : Tid) (ws : List PageWrite) (n : ℕ) (k : Kept) → busy_at u ws n k ≡ None →
    is_some (written_at ws n) ≡ true → has_hold t k ≡ true → is_same u t ≡ true
busy_own t u ws n k none writes h =
    by (none_first (other_writer u n k.writer)
    (cond (is_some (written_at ws n)) (busy_reader n (other_reader u k.readers)) None) none)
    (or_true (has_writer t k.writer) (has_reader t k.readers) h)
  where
    no_reader : (o : Option Hold) → busy_reader n o ≡ None → o ≡ None
    no_reader None x = refl
    no_reader (Some hold) x = absurd cc

    by : (other_writer u n k.writer ≡ None)
        × (cond (is_some (written_at ws n)) (busy_reader n (other_reader u k.readers)) None ≡ None) →
        (has_writer t k.writer ≡ true) ⊎ (has_reader t k.readers ≡ true) → is_same u t ≡ true
    by both (inl own) = own_writer t u n k.writer both.0 own
    by both (inr own) =
        let free : busy_reader n (other_reader u k.readers) ≡ None = rw writes at both.1 in
        own_readers t u k.readers (no_reader (other_reader u k.readers) free) own

module _ (t : Tid) where
  -- a new hold takes none away where no page of another one's is written
  held_more : (h : Hold) (o : Option (List ℕ)) (v : Option ℕ) (k : Kept) →
      (is_some o ≡ true → is_same h.tid t ≡ true) → has_hold t k ≡ true → has_hold t (holding h o v k) ≡ true
  held_more h (Some page) v k own held = let mine : is_same h.tid t ≡ true = own refl in rw mine refl
  held_more h None (Some v) k own held = at (or_true (has_writer t k.writer) (has_reader t k.readers) held)
    where
      at : (has_writer t k.writer ≡ true) ⊎ (has_reader t k.readers ≡ true) →
          (has_writer t k.writer || (is_same h.tid t || has_reader t k.readers)) ≡ true
      at (inl writer) = rw writer refl
      at (inr reader) = with_reader (has_writer t k.writer) (is_same h.tid t || has_reader t k.readers)
          (with_reader (is_same h.tid t) (has_reader t k.readers) reader)
  held_more h None None k own held = held

  -- a Prepare that is not refused writes no page on which another transaction has a hold
  writes_own : (s : StoreState) (p : Part) → AreAccesses p.reads p.writes → prepare_refusal s p ≡ None → (n : ℕ) →
      has_hold t (s.slot n) ≡ true → is_some (written_at p.writes n) ≡ true → is_same p.tid t ≡ true
  writes_own s p formed none n held writes =
      at (read_at p.reads n) refl (formed.are_read n writes)
    where
      unsettled : (own_hold s p.tid p.reads ≡ None) × (first_of (busy s p.tid p.reads p.writes) (conflict s p.reads) ≡ None)
      unsettled = none_first (own_hold s p.tid p.reads) (first_of (busy s p.tid p.reads p.writes) (conflict s p.reads))
          ((none_first (settled s p.tid) (first_of (own_hold s p.tid p.reads)
          (first_of (busy s p.tid p.reads p.writes) (conflict s p.reads))) none).1)

      at : (o : Option ℕ) → read_at p.reads n ≡ o → IsSome o → is_same p.tid t ≡ true
      at None is some = absurd cc
      at (Some v) is some =
          busy_own t p.tid p.writes n (s.slot n)
          (none_over (λ m w. busy_at p.tid p.writes m (s.slot m)) p.reads n v
          ((none_first (busy s p.tid p.reads p.writes) (conflict s p.reads) unsettled.1).0) is)
          writes held

  held_prepare : (rs : List PageRead) (s : StoreState) (p : Part) → AreAccesses p.reads p.writes →
      (r : Option Answer) → prepare_refusal s p ≡ r → Held t rs s → Held t rs (after_prepare r s p)
  held_prepare rs s p formed None is held n h =
      held_more (hold_of p) (written_at p.writes n) (read_at p.reads n) (s.slot n)
      (λ writes. writes_own s p formed is n (held n h) writes) (held n h)
  held_prepare rs s p formed (Some a) is held n h = held n h

  stays_held : (rs : List PageRead) (s : StoreState) (c : Command) → IsFormed c → Held t rs s → Stays t rs (after s c)
  stays_held rs s Fresh f held = inr (inr held)
  stays_held rs s (Read m) f held = inr (inr held)
  stays_held rs s (Look ms) f held = inr (inr held)
  stays_held rs s (Write x) f held = inr (inr (held_write t rs (write_refusal s x) s x held))
  stays_held rs s (Prepare p) f held = inr (inr (held_prepare rs s p f (prepare_refusal s p) refl held))
  stays_held rs s (Decide d) f held = inr (inr (held_decide t rs (s.decided d.tid) s d.tid d.outcome held))
  stays_held rs s (Resolve r) f held = at (is_same r.tid t) refl
    where
      at : (b : Bool) → is_same r.tid t ≡ b → Stays t rs (after s (Resolve r))
      at true same = inr (inl (rw same refl))
      at false other = inr (inr (λ n h.
          held_resolve t r.tid r.commit (s.slot n).writer (s.slot n) refl other (held n h)))

  stays_still : (rs : List PageRead) (s : StoreState) (c : Command) → IsFormed c → Stays t rs s → Stays t rs (after s c)
  stays_still rs s c f (inl d) = inl (stays_decided t s c d)
  stays_still rs s c f (inr (inl e)) = inr (inl (stays_ended t s c e))
  stays_still rs s c f (inr (inr held)) = stays_held rs s c f held

holds_own : (h : Hold) (o : Option (List ℕ)) (v : Option ℕ) (k : Kept) → IsSome v →
    has_hold h.tid (holding h o v k) ≡ true
holds_own h (Some page) v k some = rw (same_self h.tid) refl
holds_own h None (Some v) k some = rw (same_self h.tid) (or_right (has_writer h.tid k.writer))
holds_own h None None k some = absurd cc

-- a Prepare with no reads writes nothing, and holds nothing
module _ (w : StoreState) (p : Part) where
  holds_none : AreAccesses p.reads p.writes → p.reads ≡ [] → (r : Option Answer) → after_prepare r w p ≡ w
  holds_none formed is (Some a) = refl
  holds_none formed is None =
      ap (λ (f : ℕ → Kept). record w { slot = f }) (fun_ext (λ n. at n (written_at p.writes n) refl))
    where
      none_read : (n : ℕ) → read_at p.reads n ≡ None
      none_read n = rw is refl

      at : (n : ℕ) (o : Option (List ℕ)) → written_at p.writes n ≡ o →
          holding (hold_of p) o (read_at p.reads n) (w.slot n) ≡ w.slot n
      at n None absent = let none = none_read n in rw none refl
      at n (Some page) present =
          let read : IsSome (read_at p.reads n) = formed.are_read n (rw present refl) in
          let none = none_read n in
          let bad = rw none at read in absurd cc

  -- where it holds what it read, it is refused
  own_refused : (r : PageRead) (rs : List PageRead) → p.reads ≡ r ∷ rs → Held p.tid p.reads w →
      after w (Prepare p) ≡ w
  own_refused r rs is held = at (settled w p.tid) refl
    where
      first : has_hold p.tid (w.slot r.number) ≡ true
      first = held r.number (rw (is, eq_self r.number) refl)

      own : own_hold w p.tid p.reads ≡ Some Prepared
      own = rw (is, first) refl

      at : (o : Option Answer) → settled w p.tid ≡ o → after w (Prepare p) ≡ w
      at None none = rw (none, own) refl
      at (Some a) some = prepare_refused w p (a, some)

  prepare_again : AreAccesses p.reads p.writes → Stays p.tid p.reads w → after w (Prepare p) ≡ w
  prepare_again formed (inl d) = prepare_refused w p (settles_decided p.tid w (w.decided p.tid) refl d)
  prepare_again formed (inr (inl e)) = prepare_refused w p (settles_ended p.tid w (w.decided p.tid) refl e)
  prepare_again formed (inr (inr held)) = at p.reads refl
    where
      at : (rs : List PageRead) → p.reads ≡ rs → after w (Prepare p) ≡ w
      at [] is = holds_none formed is (prepare_refusal w p)
      at (r ∷ rs) is = own_refused r rs is held

prepare_once : (s : StoreState) (others : List Command) → All IsFormed others → (p : Part) → AreAccesses p.reads p.writes →
    (r : Option Answer) → prepare_refusal s p ≡ r →
    (after s (Prepare p) ≡ s)
    ⊎ (after (after_all (after s (Prepare p)) others) (Prepare p) ≡ after_all (after s (Prepare p)) others)
prepare_once s others all p formed (Some a) is = inl (rw is refl)
prepare_once s others all p formed None is =
    inr (prepare_again (after_all (after s (Prepare p)) others) p formed
    (stays_over (Stays p.tid p.reads) (stays_still p.tid p.reads) others all (after s (Prepare p)) first))
  where
    first : Stays p.tid p.reads (after s (Prepare p))
    first = inr (inr (subst (λ (r : Option Answer). Held p.tid p.reads (after_prepare r s p)) (sym is)
        (λ n h. holds_own (hold_of p) (written_at p.writes n) (read_at p.reads n) (s.slot n) h)))

pub once : (c : Command) → is_fresh c ≡ false → IsFormed c → ActsOnce c
once Fresh h f = absurd cc
once (Read n) h f = λ s others all. inl refl
once (Look ns) h f = λ s others all. inl refl
once (Write x) h f = λ s others all. write_once s others all x (write_refusal s x) refl
once (Prepare p) h f = λ s others all. prepare_once s others all p f (prepare_refusal s p) refl
once (Decide d) h f = λ s others all. decide_once s others all d (s.decided d.tid) refl
once (Resolve r) h f = λ s others all. inr (resolve_once s others all r)
