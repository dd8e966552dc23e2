-- Holds, and where each transaction has them.
use Rattle.std.proofs.Common.{◌≡◌, ℕ, Bool, true, false, cond, List, [], ◌∷◌, ◌++◌, map, Option, Some, None, IsSome, refl, ap}
use Rattle.std.proofs.Common.{sym, ◌∙◌, subst}
use Rattle.std.specs.Prelude.{◌==◌, ◌&&◌, ◌||◌, if◌then◌else◌}
use Rattle.std.specs.List.{list_any}
use Rattle.pair_types.specs.declared.slot.Tid.{Tid}
use Rattle.page_types.specs.declared.hold.Hold.{Hold}
use Rattle.page_types.specs.declared.hold.WriteHold.{WriteHold}
use Rattle.page_types.specs.declared.versions.PageRead.{PageRead}
use Rattle.page_types.specs.Accesses.{is_same, read_at}
use Rattle.page_types.specs.Stores.{Kept}
use Rattle.page_types.specs.Obeys.{has_reader, has_writer, has_hold, without, written, holding, releasing, resolving}
use Rattle.page_store.specs.Keeps.{is_among}
use Rattle.page_store.proofs.Tids.{same_tids, equal_to_self}

-- ## Tests

pub or_true : (a b : Bool) → a ≡ true → (a || b) ≡ true
or_true true b h = refl
or_true false b h = cc

pub or_right : (a b : Bool) → b ≡ true → (a || b) ≡ true
or_right true b h = refl
or_right false b h = h

pub or_false_left : (a b : Bool) → (a || b) ≡ false → a ≡ false
or_false_left true b h = h
or_false_left false b h = refl

pub or_false_right : (a b : Bool) → (a || b) ≡ false → b ≡ false
or_false_right true b h = cc
or_false_right false b h = h

-- ## Numbers among others

left_from : (b before after : Bool) → (before ≡ true → after ≡ true) → (b || before) ≡ true → (b || after) ≡ true
left_from true before after later h = refl
left_from false before after later h = later h

pub among_left : (xs ys : List ℕ) (n : ℕ) → is_among xs n ≡ true → is_among (xs ++ ys) n ≡ true
among_left [] ys n h = cc
among_left (x ∷ xs) ys n h = left_from (x == n) (is_among xs n) (is_among (xs ++ ys) n) (among_left xs ys n) h

pub among_right : (xs ys : List ℕ) (n : ℕ) → is_among ys n ≡ true → is_among (xs ++ ys) n ≡ true
among_right [] ys n h = h
among_right (x ∷ xs) ys n h = or_right (x == n) (is_among (xs ++ ys) n) (among_right xs ys n h)

read_from : (b : Bool) (version : ℕ) (o : Option ℕ) (after : Bool) → (IsSome o → after ≡ true) →
    IsSome (if b then Some version else o) → (b || after) ≡ true
read_from true version o after later h = refl
read_from false version o after later h = later h

-- a page that was read is among those read
pub among_read : (rs : List PageRead) (n : ℕ) → IsSome (read_at rs n) → is_among (map (λ (r : PageRead). r.number) rs) n ≡ true
among_read [] n h = cc
among_read (r ∷ rs) n h =
    read_from (r.number == n) r.version (read_at rs n) (is_among (map (λ (r : PageRead). r.number) rs) n) (among_read rs n) h

-- ## Holds after changes

none_from : (b before : Bool) (hold : Hold) (left holds : List Hold) → (before ≡ false → left ≡ holds) → (b || before) ≡ false →
    (if b then left else hold ∷ left) ≡ hold ∷ holds
none_from true before hold left holds later h = cc
none_from false before hold left holds later h = ap (λ l. hold ∷ l) (later h)

-- where there is no hold, none goes
pub without_none : (tid : Tid) (holds : List Hold) → has_reader tid holds ≡ false → without tid holds ≡ holds
without_none tid [] h = refl
without_none tid (hold ∷ holds) h =
    none_from (is_same hold.tid tid) (has_reader tid holds) hold (without tid holds) holds (without_none tid holds) h

stays_from : (t : Tid) (b : Bool) (hold : Hold) (left holds : List Hold) → (has_reader t left ≡ true → has_reader t holds ≡ true)
    →
    has_reader t (if b then left else hold ∷ left) ≡ true → has_reader t (hold ∷ holds) ≡ true
stays_from t true hold left holds later h = or_right (is_same hold.tid t) (has_reader t holds) (later h)
stays_from t false hold left holds later h = left_from (is_same hold.tid t) (has_reader t left) (has_reader t holds) later h

-- a reader's hold that stands was there
pub reader_stays : (t tid : Tid) (holds : List Hold) → has_reader t (without tid holds) ≡ true → has_reader t holds ≡ true
reader_stays t tid [] h = h
reader_stays t tid (hold ∷ holds) h =
    stays_from t (is_same hold.tid tid) hold (without tid holds) holds (reader_stays t tid holds) h

left_by : (tid : Tid) (b : Bool) (hold : Hold) (left : List Hold) → is_same hold.tid tid ≡ b → has_reader tid left ≡ false →
    has_reader tid (if b then left else hold ∷ left) ≡ false
left_by tid true hold left is none = none
left_by tid false hold left is none = ap (λ (b : Bool). b || has_reader tid left) is ∙ none

-- none of this transaction's is left
pub none_left : (tid : Tid) (holds : List Hold) → has_reader tid (without tid holds) ≡ false
none_left tid [] = refl
none_left tid (hold ∷ holds) = left_by tid (is_same hold.tid tid) hold (without tid holds) refl (none_left tid holds)

-- ## Resolved pages

-- a page on which the transaction has no hold stays as it is
pub quiet : (tid : Tid) (commit : Bool) (w : Option WriteHold) (kept : Kept) → has_writer tid w ≡ false
    → has_reader tid kept.readers ≡ false →
    resolving tid commit w kept ≡ kept
quiet tid commit None kept writer readers = ap (λ holds. record kept { readers = holds }) (without_none tid kept.readers readers)
quiet tid commit (Some w) kept writer readers =
    rw writer (ap (λ holds. record kept { readers = holds }) (without_none tid kept.readers readers))

pub quiet_page : (tid : Tid) (commit : Bool) (kept : Kept) → has_hold tid kept ≡ false
    → resolving tid commit kept.writer kept ≡ kept
quiet_page tid commit kept h =
    quiet tid commit kept.writer kept (or_false_left (has_writer tid kept.writer) (has_reader tid kept.readers) h)
    (or_false_right (has_writer tid kept.writer) (has_reader tid kept.readers) h)

-- a hold that stands after a Resolve was there before
pub hold_was : (t tid : Tid) (commit : Bool) (w : Option WriteHold) (kept : Kept) → kept.writer ≡ w →
    has_hold t (resolving tid commit w kept) ≡ true → has_hold t kept ≡ true
hold_was t tid commit None kept is h = rw is (reader_stays t tid kept.readers (rw is at h))
hold_was t tid commit (Some w) kept is h = by_own (is_same w.hold.tid tid) commit h
  where
    by_own : (b commit : Bool) → has_hold t (if b then releasing tid commit w.content kept else record kept {
      readers =
          without tid kept.readers;
    }) ≡ true →
        has_hold t kept ≡ true
    by_own true true h = or_right (has_writer t kept.writer) (has_reader t kept.readers) (reader_stays t tid kept.readers h)
    by_own true false h = or_right (has_writer t kept.writer) (has_reader t kept.readers) (reader_stays t tid kept.readers h)
    by_own false commit h = by_writer (has_writer t kept.writer) h
      where
        by_writer : (b : Bool) → (b || has_reader t (without tid kept.readers)) ≡ true → (b || has_reader t kept.readers) ≡ true
        by_writer true h = refl
        by_writer false h = reader_stays t tid kept.readers h

-- after a Resolve the transaction has none
pub no_hold : (tid : Tid) (commit : Bool) (w : Option WriteHold) (kept : Kept) → kept.writer ≡ w →
    has_hold tid (resolving tid commit w kept) ≡ false
no_hold tid commit None kept is = rw is (none_left tid kept.readers)
no_hold tid commit (Some w) kept is = by_own (is_same w.hold.tid tid) refl commit
  where
    by_own : (b : Bool) → is_same w.hold.tid tid ≡ b → (commit : Bool) →
        has_hold tid (if b then releasing tid commit w.content kept else record kept {
          readers =
              without tid kept.readers;
        }) ≡ false
    by_own true own true = none_left tid kept.readers
    by_own true own false = none_left tid kept.readers
    by_own false own commit = rw (is, own) (none_left tid kept.readers)

-- a Write changes no hold
pub hold_written : (t tid : Tid) (page : Option (List ℕ)) (kept : Kept) → has_hold t (written tid page kept) ≡ has_hold t kept
hold_written t tid None kept = refl
hold_written t tid (Some page) kept = refl

-- a hold that stands after a Prepare was there, or is the transaction's own on a page that it read
pub hold_from : (t : Tid) (hold : Hold) (page : Option (List ℕ)) (version : Option ℕ) (kept : Kept) →
    has_hold t (holding hold page version kept) ≡ true → is_same hold.tid t ≡ false → has_hold t kept ≡ true
hold_from t hold (Some page) version kept h other = or_right (has_writer t kept.writer) (has_reader t kept.readers)
    (rw other at h)
hold_from t hold None (Some version) kept h other = by_writer (has_writer t kept.writer) h
  where
    by_writer : (b : Bool) → (b || (is_same hold.tid t || has_reader t kept.readers)) ≡ true
        → (b || has_reader t kept.readers) ≡ true
    by_writer true h = refl
    by_writer false h = rw other at h
hold_from t hold None None kept h other = h
