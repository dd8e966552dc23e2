-- A call over records in pages, seen as a transaction over the pages.
use Rattle.std.specs.Prelude.{◌≡◌}
use Rattle.nfs3_types.specs.declared.entry.Entry.{Entry}
use Rattle.nfs3_types.specs.declared.reply.Reply.{Reply}
use Rattle.pair_types.specs.PageMaps.{PageMap}
use Rattle.pairs.specs.Told.{PairsTold}
use Rattle.birth_death.specs.Shows.{Seat, told_by}
use Rattle.fs_rules.specs.Answers.{Asked}
use Rattle.fss_meaning.specs.Meaning.{asked_in, nothing_written}

-- what a tree over pages tells, by its seat
abbrev pub seated : PairsTold Seat PageMap
seated = told_by (λ seat. seat)

-- a transaction over the same stores, that began where nothing was written
pub record Runs (old new : Seat) : Type 0 where
  pub stores : new.state.stores ≡ old.state.stores
  pub writes : old.state.writes ≡ nothing_written
  pub puts : old.puts ≡ 0

-- the entry is of this call, with this reply
pub record IsEntryOf (asked : Asked) (reply : Reply) (e : Entry) : Type 0 where
  pub call : asked_in e ≡ asked
  pub told : e.reply ≡ reply
