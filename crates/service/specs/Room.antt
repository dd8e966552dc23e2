-- The room of a session.
use Rattle.std.specs.Prelude.{◌≡◌, ◌<◌, ◌≤◌, length, vec_capacity}
use Rattle.rpc_records.specs.Progress.{fresh}
use Rattle.service.specs.declared.room.Room.{Room}
use Rattle.service.specs.declared.room.TheConstants.{ROOM, LONGEST_RECORD}

-- before the first take: a take has some bytes of room, no record is begun, and every reply has room
pub record IsRoom (room : Room) : Type 0 where
  pub some : 0 < length room.buffer.items
  pub most : length room.buffer.items ≤ ROOM
  pub begins : room.records ≡ fresh
  pub reply : LONGEST_RECORD ≤ vec_capacity room.reply
