-- Sessions on one text.
use Rattle.std.specs.Prelude.{◌≡◌, ℕ, List}
use Rattle.service.specs.declared.session.SessionEnd.{SessionEnd}
use Rattle.service.specs.Turns.{Answering, Turn, Tells}
use Rattle.service.specs.Session.{EndsAs}

-- what a session on this text did from this tree on
pub record Reading {T : Type 0} (a : Answering T) (tree : T) (text : List ℕ) : Type 0 where
  pub end : SessionEnd
  pub turns : List Turn
  pub bytes : List ℕ
  pub behind : T
  pub tells : Tells a tree behind turns
  pub ends : EndsAs a.fsid end text turns bytes

-- two of them did the same
pub record IsSame {T : Type 0} {a : Answering T} {tree : T} {text : List ℕ} (r s : Reading a tree text) : Type 0 where
  pub turns : r.turns ≡ s.turns
  pub bytes : r.bytes ≡ s.bytes
  pub behind : r.behind ≡ s.behind
