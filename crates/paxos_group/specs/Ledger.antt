-- What an append leaves.
use Rattle.std.specs.Prelude.{◌≡◌, ℕ, ◌+◌, Bool, true, false, List, [], ◌∷◌, ◌++◌, length, Option, Some, None, IsSome, is_some}
use Rattle.std.specs.Prelude.{unwrap_or, Result, Ok, Err}
use Rattle.paxos_group.specs.declared.fault.GroupFault.{GroupFault}
use Rattle.paxos_group.specs.declared.fault.GroupFault.TheVariants as fault
use Rattle.paxos_group.specs.declared.fault.Appended.{Appended}
use Rattle.paxos_group.specs.declared.parts.Parts.{Parts}
use Rattle.paxos_group.specs.Formed.{list_of}
use Rattle.paxos_group.specs.Settling.{Settling}

-- the settled commands from index 0 on, the pending command, and the round of the next attempt
pub record Ledger (V : Type 0) : Type 0 where
  pub log : List V
  pub pending : Option V
  pub round : ℕ

module _ {V : Type 0} where
  abbrev pub ledger_of : Parts V → Ledger V
  ledger_of parts = record { log = parts.log.items; pending = parts.pending; round = parts.round }

  abbrev pub ledger : Settling V → Ledger V
  ledger g = record { log = g.log; pending = g.pending; round = g.round }

  -- the pending command, where there is one, and then this one are settled
  pub record IsSettledNow (old new : Ledger V) (command : V) (a : Appended) : Type 0 where
    pub log : new.log ≡ (old.log ++ list_of old.pending) ++ command ∷ []
    pub pending : new.pending ≡ None
    pub late : a.late ≡ is_some old.pending
    pub not_doubted : a.doubted ≡ false
    pub round : new.round ≡ old.round + length (list_of old.pending) + 1

  -- the pending command was settled, and this one is pending
  pub record IsLateOnly (old new : Ledger V) (command : V) : Type 0 where
    pub was : IsSome old.pending
    pub log : new.log ≡ old.log ++ list_of old.pending
    pub pending : new.pending ≡ Some command
    pub round : new.round ≡ old.round + 2

  -- nothing was settled, and the pending command is still pending; or this one is, where there was none
  pub record IsPendingNow (old new : Ledger V) (command : V) : Type 0 where
    pub log : new.log ≡ old.log
    pub pending : new.pending ≡ Some (unwrap_or old.pending command)
    pub round : new.round ≡ old.round + 1

  -- how the group stands after a doubt
  abbrev pub InDoubt : Bool → Ledger V → Ledger V → V → Type 0
  InDoubt true old new command = IsLateOnly old new command
  InDoubt false old new command = IsPendingNow old new command

  -- nothing was asked of any replica, for want of memory
  pub record IsUnasked (old new : Ledger V) (a : Appended) : Type 0 where
    pub same : new ≡ old
    pub late : a.late ≡ false
    pub own : a.own ≡ Err fault.NoMemory

  abbrev pub Leaves : Result (Unit {0}) GroupFault → Bool → Ledger V → Ledger V → V → Appended → Type 0
  Leaves (Ok u) doubted old new command a = IsSettledNow old new command a
  Leaves (Err f) true old new command a = InDoubt a.late old new command
  Leaves (Err f) false old new command a = IsUnasked old new a
