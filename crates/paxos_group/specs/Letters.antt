-- The names by which the weather knows messages.
use Rattle.std.specs.Prelude.{ℕ, Bool, true, false}
use Rattle.outside.specs.declared.weather.MessageKind.{MessageKind}
use Rattle.outside.specs.declared.weather.MessageKind.TheVariants as kind
use Rattle.outside.specs.declared.weather.MessageName.{MessageName}
use Rattle.paxos_core.specs.Standing.{index_of}
use Rattle.paxos_core.specs.declared.message.Message.{Message}
use Rattle.paxos_core.specs.declared.message.Message.TheVariants.{Ask, Promise, Put, Ack, Nack}

module _ {V : Type 0} where
  abbrev pub kind_of : Message V → MessageKind
  kind_of (Ask i b) = kind.Ask
  kind_of (Promise r i b a) = kind.Promise
  kind_of (Put i b v) = kind.Put
  kind_of (Ack r i b) = kind.Ack
  kind_of (Nack r i b) = kind.Nack

  -- whether a replica receives it
  abbrev pub is_to_replica : Message V → Bool
  is_to_replica (Ask i b) = true
  is_to_replica (Put i b v) = true
  is_to_replica (Promise r i b a) = false
  is_to_replica (Ack r i b) = false
  is_to_replica (Nack r i b) = false

  -- the round of its ballot
  abbrev pub round_of : Message V → ℕ
  round_of (Ask i b) = b.round
  round_of (Promise r i b a) = b.round
  round_of (Put i b v) = b.round
  round_of (Ack r i b) = b.round
  round_of (Nack r i b) = b.round

  -- the name of a message between the group of this store and this replica
  abbrev pub name_of : ℕ → ℕ → Message V → MessageName
  name_of store replica m = record {
    store = store;
    replica = replica;
    to_replica = is_to_replica m;
    kind = kind_of m;
    index =
        index_of m;
    round = round_of m;
  }
