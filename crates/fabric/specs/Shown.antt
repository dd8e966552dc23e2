-- What a contract sees of a fabric, and of a port that owns one.
use Rattle.std.specs.Prelude.{ℕ, List, reverse, Some}
use Rattle.page_types.specs.declared.journal.JEntry.{JEntry}
use Rattle.page_types.specs.Journals.{Origin, own}
use Rattle.page_types.specs.Ports.{PortState}
use Rattle.serial_rules.specs.Worlds.{replay, pending}
use Rattle.store_group.specs.Behind.{Behind}

-- The stores began so, each with so many replicas; the journal, the oldest entry first; how many steps answered a doubt;
-- and the weather.
pub record Shown (W : Type 0) : Type 0 where
  pub origin : Origin
  pub replicas : ℕ
  pub journal : List JEntry
  pub doubts : ℕ
  pub weather : W

-- a port that owns a fabric: whose it is, how many steps answered a doubt since, and how many were stopped
pub record Held (W : Type 0) : Type 0 where
  pub fabric : Shown W
  pub pass : ℕ
  pub doubts : ℕ
  pub stops : ℕ

-- what a journal tells of a store
abbrev pub told_of : Origin → List JEntry → ℕ → Behind
told_of origin es store = record { state = replay origin es store; pending = pending es store }

module _ {W : Type 0} where
  -- the journal, the newest entry first
  abbrev pub past : Shown W → List JEntry
  past f = reverse f.journal

  -- what a store keeps, and the command that may be settled already
  abbrev pub store_of : Shown W → ℕ → Behind
  store_of f store = told_of f.origin (past f) store

  -- what the port tells
  abbrev pub port_of : Held W → PortState
  port_of p = record {
    origin = p.fabric.origin;
    pass = p.pass;
    mine = own p.pass (past p.fabric);
    journal = Some (past p.fabric);
    doubts = p.doubts;
    stops = p.stops;
  }
