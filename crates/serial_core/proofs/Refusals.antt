-- Why a store refuses a command: what each answer says of the state, and what it says that none was given.
use Rattle.std.proofs.Common.{◌≡◌, ℕ, ◌==◌, Bool, true, false, cond, ◌||◌, List, [], ◌∷◌, Option, Some, None}
use Rattle.std.proofs.Common.{refl, ap, sym, ◌∙◌, subst, inl, inr, ◌⊎◌, is_some}
use Rattle.pair_types.specs.declared.slot.Tid.{Tid}
use Rattle.page_types.specs.declared.hold.Hold.{Hold}
use Rattle.page_types.specs.declared.hold.WriteHold.{WriteHold}
use Rattle.page_types.specs.declared.outcome.Outcome.{Outcome}
use Rattle.page_types.specs.declared.versions.PageRead.{PageRead}
use Rattle.page_types.specs.declared.versions.PageWrite.{PageWrite}
use Rattle.page_types.specs.declared.command.Transaction.{Transaction}
use Rattle.page_types.specs.declared.command.Part.{Part}
use Rattle.page_types.specs.declared.answer.Answer.{Answer}
use Rattle.page_types.specs.declared.answer.Answer.TheVariants as answer
use Rattle.page_types.specs.Accesses.{is_same, read_at, written_at}
use Rattle.page_types.specs.Asked.{first_of}
use Rattle.page_types.specs.Stores.{Kept, StoreState}
use Rattle.page_types.specs.Obeys.{first_over, busy_by, other_writer, is_before, sooner, other_reader, busy_reader, busy_at, busy}
use Rattle.page_types.specs.Obeys.{conflict_at, conflict, decided_answer, settled, write_refusal, own_hold, prepare_refusal}
use Rattle.page_types.specs.Obeys.{has_reader, has_hold, without}
use Rattle.serial_core.proofs.Basics.{first_none, or_true, or_right, cond_none, eq_true}
use Rattle.serial_core.proofs.Basics.{same_true, same_self}

-- ## Readers' holds

-- the hold is one of these
abbrev pub IsIn : Hold → List Hold → Type 0
IsIn hold [] = ⊥
IsIn hold (h ∷ hs) = (h ≡ hold) ⊎ IsIn hold hs

pub in_has : (hold : Hold) (holds : List Hold) → IsIn hold holds → has_reader hold.tid holds ≡ true
in_has hold [] is = absurd is
in_has hold (h ∷ hs) (inl same) =
    let t : is_same h.tid hold.tid ≡ true = rw same (same_self hold.tid) in rw t refl
in_has hold (h ∷ hs) (inr rest) = rw (in_has hold hs rest) (or_right (is_same h.tid hold.tid))

pub has_in : (tid : Tid) (holds : List Hold) → has_reader tid holds ≡ true → (hold : Hold) × IsIn hold holds × (hold.tid ≡ tid)
has_in tid [] h = absurd cc
has_in tid (x ∷ xs) h = elim (or_true (is_same x.tid tid) (has_reader tid xs) h) [
  | inl a ↦ (x, inl refl, same_true x.tid tid a)
  | inr b ↦ (let r = has_in tid xs b in (r.0, inr r.1, r.2))
]

pub in_without : (tid : Tid) (hold : Hold) (holds : List Hold) → IsIn hold (without tid holds) → IsIn hold holds
in_without tid hold [] h = h
in_without tid hold (x ∷ xs) h = at (is_same x.tid tid) h (λ h'. in_without tid hold xs h')
  where
    at : (b : Bool) → IsIn hold (cond b (without tid xs) (x ∷ without tid xs)) → (IsIn hold (without tid xs) → IsIn hold xs) →
        (x ≡ hold) ⊎ IsIn hold xs
    at true h rest = inr (rest h)
    at false (inl same) rest = inl same
    at false (inr h) rest = inr (rest h)

pub has_kept : (t u : Tid) (holds : List Hold) → (u ≡ t → ⊥) → has_reader u holds ≡ true → has_reader u (without t holds) ≡ true
has_kept t u [] ne h = h
has_kept t u (w ∷ ws) ne h = at (is_same w.tid t) refl (is_same w.tid u) refl h (λ h'. has_kept t u ws ne h')
  where
    at : (b : Bool) → is_same w.tid t ≡ b → (d : Bool) → is_same w.tid u ≡ d → (d || has_reader u ws) ≡ true →
        (has_reader u ws ≡ true → has_reader u (without t ws) ≡ true) →
        has_reader u (cond b (without t ws) (w ∷ without t ws)) ≡ true
    at true is true is' h rest = absurd (ne (sym (same_true w.tid u is') ∙ same_true w.tid t is))
    at true is false is' h rest = rest h
    at false is true is' h rest = rw is' refl
    at false is false is' h rest = rw (rest h) (or_right (is_same w.tid u))

-- ## Where nothing is refused

pub first_over_none : (f : ℕ → ℕ → Option Answer) (reads : List PageRead) (n v : ℕ) → first_over f reads ≡ None →
    read_at reads n ≡ Some v → f n v ≡ None
first_over_none f [] n v h e = absurd cc
first_over_none f (r ∷ rs) n v h e =
    let b = first_none (f r.number r.version) (first_over f rs) h in
    more (r.number == n) refl e b.0 (λ e'. first_over_none f rs n v b.1 e')
  where
    more : (b : Bool) → (r.number == n) ≡ b → cond b (Some r.version) (read_at rs n) ≡ Some v →
        f r.number r.version ≡ None → (read_at rs n ≡ Some v → f n v ≡ None) → f n v ≡ None
    more true is e h rest =
        let same : r.number ≡ n = eq_true r.number n is in
        let val : r.version ≡ v = cc in
        rw (← same, ← val) h
    more false is e h rest = rest e

pub conflict_at_none : (n v : ℕ) (k : Kept) → conflict_at n v k ≡ None → k.version ≡ v
conflict_at_none n v k h = at (k.version == v) refl h
  where
    at : (b : Bool) → (k.version == v) ≡ b → cond b None (Some (answer.Conflict n k.version k.by)) ≡ None → k.version ≡ v
    at true is h = eq_true k.version v is
    at false is h = absurd cc

pub other_writer_none : (t : Tid) (n : ℕ) (o : Option WriteHold) (w : WriteHold) → other_writer t n o ≡ None → o ≡ Some w →
    w.hold.tid ≡ t
other_writer_none t n None w e is = absurd cc
other_writer_none t n (Some g) w e is =
    let same : g ≡ w = cc in
    ap (λ (x : WriteHold). x.hold.tid) (sym same) ∙ same_true g.hold.tid t (at (busy_by n g.hold) (is_same g.hold.tid t) e)
  where
    at : (x : Answer) (b : Bool) → cond b None (Some x) ≡ None → b ≡ true
    at x true e = refl
    at x false e = absurd cc

pub other_reader_none : (t : Tid) (holds : List Hold) (u : Tid) → other_reader t holds ≡ None → has_reader u holds ≡ true → u ≡ t
other_reader_none t [] u e h = absurd cc
other_reader_none t (w ∷ ws) u e h =
    at (sooner w (other_reader t ws)) (is_same w.tid t) refl e (is_same w.tid u) refl h (λ e' h'. other_reader_none t ws u e' h')
  where
    at : (x : Hold) (b : Bool) → is_same w.tid t ≡ b → cond b (other_reader t ws) (Some x) ≡ None → (d : Bool) →
        is_same w.tid u ≡ d → (d || has_reader u ws) ≡ true →
        (other_reader t ws ≡ None → has_reader u ws ≡ true → u ≡ t) → u ≡ t
    at x true is e true is' h rest = sym (same_true w.tid u is') ∙ same_true w.tid t is
    at x true is e false is' h rest = rest e h
    at x false is e d is' h rest = absurd cc

pub busy_reader_none : (n : ℕ) (o : Option Hold) → busy_reader n o ≡ None → o ≡ None
busy_reader_none n None h = refl
busy_reader_none n (Some x) h = absurd cc

pub settled_none : (s : StoreState) (t : Tid) → settled s t ≡ None → (s.decided t ≡ None) × (s.ended t ≡ false)
settled_none s t h =
    let b = first_none (decided_answer (s.decided t)) (cond (s.ended t) (Some answer.Ended) None) h in
    (undecided (s.decided t) b.0, cond_none (s.ended t) answer.Ended b.1)
  where
    undecided : (o : Option Outcome) → decided_answer o ≡ None → o ≡ None
    undecided None h = refl
    undecided (Some o) h = absurd cc

-- nothing stands in the way of a Write
pub record WriteFree (s : StoreState) (x : Transaction) : Type 0 where
  pub decided : s.decided x.tid ≡ None
  pub quiet : busy s x.tid x.reads x.writes ≡ None
  pub same : conflict s x.reads ≡ None

pub write_free : (s : StoreState) (x : Transaction) → write_refusal s x ≡ None → WriteFree s x
write_free s x h =
    let a = first_none (settled s x.tid) _ h in
    let d = first_none (busy s x.tid x.reads x.writes) (conflict s x.reads) a.1 in
    record { decided = (settled_none s x.tid a.0).0; quiet = d.0; same = d.1 }

-- nothing stands in the way of a Prepare
pub record PrepareFree (s : StoreState) (part : Part) : Type 0 where
  pub decided : s.decided part.tid ≡ None
  pub ended : s.ended part.tid ≡ false
  pub own : own_hold s part.tid part.reads ≡ None
  pub quiet : busy s part.tid part.reads part.writes ≡ None
  pub same : conflict s part.reads ≡ None

pub prepare_free : (s : StoreState) (part : Part) → prepare_refusal s part ≡ None → PrepareFree s part
prepare_free s part h =
    let a = first_none (settled s part.tid) _ h in
    let b = first_none (own_hold s part.tid part.reads) _ a.1 in
    let d = first_none (busy s part.tid part.reads part.writes) (conflict s part.reads) b.1 in
    let e = settled_none s part.tid a.0 in
    record { decided = e.0; ended = e.1; own = b.0; quiet = d.0; same = d.1 }

-- ## What a refusal says

-- the hold stands on the page
abbrev pub IsHeld : Kept → Hold → Type 0
IsHeld k hold = ((w : WriteHold) × (k.writer ≡ Some w) × (w.hold ≡ hold)) ⊎ IsIn hold k.readers

pub data Cause (s : StoreState) (t : Tid) (a : Answer) : Type 0 where
  IsDecided : (o : Outcome) → s.decided t ≡ Some o → a ≡ answer.Decided o → Cause s t a
  IsEnded : a ≡ answer.Ended → Cause s t a
  IsOwn : (n : ℕ) → has_hold t (s.slot n) ≡ true → a ≡ answer.Prepared → Cause s t a
  IsBusy : (n : ℕ) (hold : Hold) → IsHeld (s.slot n) hold → a ≡ busy_by n hold → Cause s t a
  IsConflict : (n v : ℕ) (by : Tid) → a ≡ answer.Conflict n v by → Cause s t a

pub first_over_some : (f : ℕ → ℕ → Option Answer) (reads : List PageRead) (a : Answer) → first_over f reads ≡ Some a →
    (n : ℕ) × ((v : ℕ) × (f n v ≡ Some a))
first_over_some f [] a h = absurd cc
first_over_some f (r ∷ rs) a h = at (f r.number r.version) refl h (first_over_some f rs a)
  where
    at : (o : Option Answer) → f r.number r.version ≡ o → first_of o (first_over f rs) ≡ Some a →
        (first_over f rs ≡ Some a → (n : ℕ) × ((v : ℕ) × (f n v ≡ Some a))) → (n : ℕ) × ((v : ℕ) × (f n v ≡ Some a))
    at None is h rest = rest h
    at (Some x) is h rest = (r.number, (r.version, is ∙ h))

sooner_in : (hold : Hold) (o : Option Hold) (holds : List Hold) → ((h : Hold) → o ≡ Some h → IsIn h holds) →
    IsIn (sooner hold o) (hold ∷ holds)
sooner_in hold None holds old = inl refl
sooner_in hold (Some other) holds old = at (is_before other.tid hold.tid)
  where
    at : (b : Bool) → IsIn (cond b other hold) (hold ∷ holds)
    at true = inr (old other refl)
    at false = inl refl

pub other_reader_in : (t : Tid) (holds : List Hold) (hold : Hold) → other_reader t holds ≡ Some hold → IsIn hold holds
other_reader_in t [] hold h = absurd cc
other_reader_in t (w ∷ ws) hold h =
    at (is_same w.tid t) h (λ h'. other_reader_in t ws hold h')
    (sooner_in w (other_reader t ws) ws (λ x is. other_reader_in t ws x is))
  where
    at : (b : Bool) → cond b (other_reader t ws) (Some (sooner w (other_reader t ws))) ≡ Some hold →
        (other_reader t ws ≡ Some hold → IsIn hold ws) → IsIn (sooner w (other_reader t ws)) (w ∷ ws) →
        (w ≡ hold) ⊎ IsIn hold ws
    at true h rest least = inr (rest h)
    at false h rest least =
        let same : sooner w (other_reader t ws) ≡ hold = cc in
        subst (λ x. IsIn x (w ∷ ws)) same least

busy_cause : (t : Tid) (writes : List PageWrite) (n : ℕ) (k : Kept) (a : Answer) → busy_at t writes n k ≡ Some a →
    (hold : Hold) × IsHeld k hold × (a ≡ busy_by n hold)
busy_cause t writes n k a h = at k.writer refl h
  where
    reader : (o : Option Hold) → other_reader t k.readers ≡ o → busy_reader n o ≡ Some a →
        (hold : Hold) × IsHeld k hold × (a ≡ busy_by n hold)
    reader None is h = absurd cc
    reader (Some x) is h = (x, inr (other_reader_in t k.readers x is), cc)

    written : (b : Bool) → cond b (busy_reader n (other_reader t k.readers)) None ≡ Some a →
        (hold : Hold) × IsHeld k hold × (a ≡ busy_by n hold)
    written true h = reader (other_reader t k.readers) refl h
    written false h = absurd cc

    other : (w : WriteHold) → k.writer ≡ Some w → (b : Bool) →
        first_of (cond b None (Some (busy_by n w.hold)))
        (cond (is_some (written_at writes n)) (busy_reader n (other_reader t k.readers)) None) ≡ Some a →
        (hold : Hold) × IsHeld k hold × (a ≡ busy_by n hold)
    other w is true h = written (is_some (written_at writes n)) h
    other w is false h = (w.hold, inl (w, is, refl), cc)

    at : (o : Option WriteHold) → k.writer ≡ o →
        first_of (other_writer t n o)
        (cond (is_some (written_at writes n)) (busy_reader n (other_reader t k.readers)) None) ≡ Some a →
        (hold : Hold) × IsHeld k hold × (a ≡ busy_by n hold)
    at None is h = written (is_some (written_at writes n)) h
    at (Some w) is h = other w is (is_same w.hold.tid t) h

in_the_way : (s : StoreState) (t : Tid) (reads : List PageRead) (writes : List PageWrite) (a : Answer) →
    first_of (busy s t reads writes) (conflict s reads) ≡ Some a → Cause s t a
in_the_way s t reads writes a h = at (busy s t reads writes) refl h
  where
    old : (n v : ℕ) (b : Bool) → cond b None (Some (answer.Conflict n (s.slot n).version (s.slot n).by)) ≡ Some a → Cause s t a
    old n v true h = absurd cc
    old n v false h = IsConflict n (s.slot n).version (s.slot n).by cc

    at : (o : Option Answer) → busy s t reads writes ≡ o → first_of o (conflict s reads) ≡ Some a → Cause s t a
    at (Some x) is h =
        let f = first_over_some (λ n v. busy_at t writes n (s.slot n)) reads a (is ∙ h) in
        let b = busy_cause t writes f.0 (s.slot f.0) a f.1.1 in
        IsBusy f.0 b.0 b.1 b.2
    at None is h =
        let f = first_over_some (λ n v. conflict_at n v (s.slot n)) reads a h in
        old f.0 f.1.0 ((s.slot f.0).version == f.1.0) f.1.1

is_settled : (s : StoreState) (t : Tid) (a : Answer) → settled s t ≡ Some a → Cause s t a
is_settled s t a h = at (s.decided t) refl (s.ended t) h
  where
    at : (d : Option Outcome) → s.decided t ≡ d → (b : Bool) →
        first_of (decided_answer d) (cond b (Some answer.Ended) None) ≡ Some a → Cause s t a
    at (Some o) is b h = IsDecided o is cc
    at None is true h = IsEnded cc
    at None is false h = absurd cc

pub write_cause : (s : StoreState) (x : Transaction) (a : Answer) → write_refusal s x ≡ Some a → Cause s x.tid a
write_cause s x a h = at (settled s x.tid) refl h
  where
    at : (o : Option Answer) → settled s x.tid ≡ o →
        first_of o (first_of (busy s x.tid x.reads x.writes) (conflict s x.reads)) ≡ Some a → Cause s x.tid a
    at (Some y) is h = is_settled s x.tid a (is ∙ h)
    at None is h = in_the_way s x.tid x.reads x.writes a h

pub prepare_cause : (s : StoreState) (part : Part) (a : Answer) → prepare_refusal s part ≡ Some a → Cause s part.tid a
prepare_cause s part a h = one (settled s part.tid) refl h
  where
    own : (n : ℕ) (b : Bool) → has_hold part.tid (s.slot n) ≡ b → cond b (Some answer.Prepared) None ≡ Some a →
        Cause s part.tid a
    own n true is h = IsOwn n is cc
    own n false is h = absurd cc

    two : (o : Option Answer) → own_hold s part.tid part.reads ≡ o →
        first_of o (first_of (busy s part.tid part.reads part.writes) (conflict s part.reads)) ≡ Some a → Cause s part.tid a
    two (Some y) is h =
        let f = first_over_some (λ n v. cond (has_hold part.tid (s.slot n)) (Some answer.Prepared) None) part.reads a (is ∙ h) in
        own f.0 (has_hold part.tid (s.slot f.0)) refl f.1.1
    two None is h = in_the_way s part.tid part.reads part.writes a h

    one : (o : Option Answer) → settled s part.tid ≡ o →
        first_of o (first_of (own_hold s part.tid part.reads)
        (first_of (busy s part.tid part.reads part.writes) (conflict s part.reads))) ≡ Some a → Cause s part.tid a
    one (Some y) is h = is_settled s part.tid a (is ∙ h)
    one None is h = two (own_hold s part.tid part.reads) refl h
