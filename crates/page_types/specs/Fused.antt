-- What a contract sees of a port that ends after so many steps.
use Rattle.std.specs.Prelude.{ℕ, ◌+◌}
use Rattle.page_types.specs.declared.fused_port.FusedPort.{FusedPort}
use Rattle.page_types.specs.Ports.{PortState}

module _ {P : Type 0} where
  -- the port that it hands steps to, how many more it hands on, and how many it stopped
  abbrev pub inner_of : FusedPort P → P
  inner_of port = port.inner

  abbrev pub left_of : FusedPort P → ℕ
  left_of port = port.left

  abbrev pub stops_of : FusedPort P → ℕ
  stops_of port = port.stops

-- a port that also stopped so many steps
abbrev pub fused : PortState → ℕ → PortState
fused p stopped = record p { stops = p.stops + stopped }
