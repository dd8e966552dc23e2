-- Calls one after the other.
use Rattle.std.proofs.Common.{◌≡◌, ℕ, ◌≤◌, ◌==◌, Bool, true, false, List, [], ◌++◌, None, Result, Ok, Err, refl, subst, arith}
use Rattle.std.specs.Prelude.{⊤}
use Rattle.nfs3_types.specs.Count.{Rose}
use Rattle.pair_types.specs.declared.slot.Tid.{Tid}
use Rattle.pair_types.specs.declared.slot.Slot.{Slot}
use Rattle.pair_types.specs.declared.fault.PageFault.{PageFault}
use Rattle.pair_types.specs.PageState.{no_memory}
use Rattle.page_types.specs.declared.journal.JEntry.{JEntry}
use Rattle.page_types.specs.Ports.{PortState}
use Rattle.two_phase.specs.Tries.{Onward}
use Rattle.two_phase.proofs.Onwards.{onward_none, onward_on}
use Rattle.two_phase.proofs.Basics.{eq_true}
use Rattle.page_txn.specs.Rows.{Rows, row_at}
use Rattle.page_txn.specs.Causes.{faults_of}
use Rattle.page_txn.specs.Since.{WasAnswered}
use Rattle.page_txn.specs.Asking.{AreForeign, IsCounted, Asks, IsFresh}
use Rattle.page_txn.proofs.Growing.{faults_on, foreign_on, answered_late}

-- a way that asked nothing for the transaction
pub record Far (own : Tid) (old new : PortState) : Type 0 where
  pub part : List JEntry
  pub onward : Onward old new part
  pub foreign : AreForeign own part

pub far_none : (own : Tid) (old : PortState) → Far own old old
far_none own old = record { part = []; onward = onward_none old; foreign = refl }

pub rose_later : (a b c : ℕ) → a ≤ b → Rose b c → Rose a c
rose_later a b c le rose = omega (arith, le, rose)

module _ {A : Type 0} (Given : A → List JEntry → Type 0) (own : Tid) where
  abbrev pub far_of : (old new : PortState) (r : Result A PageFault) → Asks Given own old new r → Far own old new
  far_of old new r x = record { part = x.part; onward = x.onward; foreign = x.foreign }

  pub counted_after : (old mid new : PortState) (part : List JEntry) (fault : PageFault) → Onward old mid part →
      IsCounted own mid new fault → IsCounted own old new fault
  counted_after old mid new part fault on counted apart =
      rose_later (faults_of own old fault) (faults_of own mid fault) (faults_of own new fault)
      (faults_on own old mid part on fault) (counted apart)

  -- a fault of a later call
  pub asks_err : {B : Type 0} (Other : B → List JEntry → Type 0) (old mid new : PortState) (fault : PageFault) →
      Far own old mid → Asks Other own mid new (Err fault) → Asks Given own old new (Err fault)
  asks_err Other old mid new fault far x = record {
    part = x.part ++ far.part;
    onward = onward_on old mid new far.part x.part far.onward x.onward;
    foreign = foreign_on own x.part far.part x.foreign far.foreign;
    ends = counted_after old mid new far.part fault far.onward x.ends;
  }

  -- an answer of a later call, by what stays given when more was asked before
  pub asks_ok : {B : Type 0} (Other : B → List JEntry → Type 0) (old mid new : PortState) (x : B) (y : A) →
      ((part earlier : List JEntry) → Other x part → Given y (part ++ earlier)) →
      Far own old mid → Asks Other own mid new (Ok x) → Asks Given own old new (Ok y)
  asks_ok Other old mid new x y gives far a = record {
    part = a.part ++ far.part;
    onward = onward_on old mid new far.part a.part far.onward a.onward;
    foreign = foreign_on own a.part far.part a.foreign far.foreign;
    ends = gives a.part far.part a.ends;
  }

pub far_on : (own : Tid) (old mid new : PortState) → Far own old mid → Far own mid new → Far own old new
far_on own old mid new a b = record {
  part = b.part ++ a.part;
  onward = onward_on old mid new a.part b.part a.onward b.onward;
  foreign = foreign_on own b.part a.part b.foreign a.foreign;
}

-- want of memory, after what was asked
pub asks_none : {A : Type 0} (Given : A → List JEntry → Type 0) (own : Tid) (old new : PortState) → Far own old new →
    Asks Given own old new (Err no_memory)
asks_none Given own old new far =
    record { part = far.part; onward = far.onward; foreign = far.foreign; ends = λ apart. absurd (apart refl) }

-- ## A fresh slot

fresh_later : (rows : Rows) (store : ℕ) (s : Slot) (part earlier : List JEntry) → IsFresh rows store s part →
    IsFresh rows store s (part ++ earlier)
fresh_later rows store s part earlier f =
    record { store_is = f.store_is; unknown = f.unknown; absent = answered_late s 0 part earlier f.absent }

-- what is drawn, and whether it is fresh
abbrev pub Drawn : Rows → ℕ → Slot × Bool → List JEntry → Type 0
Drawn rows store drawn part = drawn.1 ≡ true → IsFresh rows store drawn.0 part

module _ (rows : Rows) (store : ℕ) (own : Tid) where
  -- a number of a row
  pub drawn_known : (old new : PortState) (n m : ℕ) → Asks (λ (number : ℕ) (part : List JEntry). ⊤) own old new (Ok m) →
      Asks (Drawn rows store) own old new (Ok (record { store = store; number = n }, false))
  drawn_known old new n m x =
      record { part = x.part; onward = x.onward; foreign = x.foreign; ends = λ is. absurd cc }

  -- a number of no row, which was looked at
  pub drawn_looked : (old mid new : PortState) (s : Slot) (m version : ℕ) → s.store ≡ store → row_at rows s ≡ None →
      Asks (λ (number : ℕ) (part : List JEntry). ⊤) own old mid (Ok m) → Asks (WasAnswered s) own mid new (Ok version) →
      Asks (Drawn rows store) own old new (Ok (s, version == 0))
  drawn_looked old mid new s m version here unknown x y = record {
    part = y.part ++ x.part;
    onward = onward_on old mid new x.part y.part x.onward y.onward;
    foreign = foreign_on own y.part x.part y.foreign x.foreign;
    ends = λ is. record {
      store_is = here;
      unknown = unknown;
      absent = answered_late s 0 y.part x.part
          (subst (λ (v : ℕ). WasAnswered s v y.part) (eq_true version 0 is) y.ends);
    };
  }

  -- a drawn slot that is fresh
  pub drawn_fresh : (old mid new : PortState) (drawn : Slot × Bool) → drawn.1 ≡ true → Far own old mid →
      Asks (Drawn rows store) own mid new (Ok drawn) → Asks (IsFresh rows store) own old new (Ok drawn.0)
  drawn_fresh old mid new drawn is far x =
      asks_ok (IsFresh rows store) own (Drawn rows store) old mid new drawn drawn.0
      (λ part earlier f. fresh_later rows store drawn.0 part earlier (f is)) far x
