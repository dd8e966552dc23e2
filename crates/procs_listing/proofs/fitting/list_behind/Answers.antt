-- Entries are read one after another while they fit.
use Rattle.std.proofs.Common.{ℕ, ◌-◌, ◌++◌, List, [], ◌∷◌, nat_le, Option, true, false, sym, subst}
use Rattle.procs_listing.specs.declared.entries.Entry.{Entry}
use Rattle.fs_rules.specs.Listing.{padded}
use Rattle.fs_shows.specs.Steps.{Reads}
use Rattle.fs_shows.proofs.Doing.{up-memory}
use Rattle.procs_object.specs.Finding.{HasPlace}
use Rattle.procs_listing.specs.Entries.{lists, listed_as, size_with, IsNextOf, IsTold}
use Rattle.procs_listing.proofs.Filling.{HasRead, read-none, read-goes, read-up, read-all, read-some, read-more}
use Rattle.procs_listing.proofs.Filling.{room-none, room-some, room-less}
use Rattle.procs_listing.proofs.fitting.list_behind.Goals as goal

pub entries-init : goal.entries-init
entries-init g c =
    subst (λ (es : List Entry). HasRead g.P.Pairs.told c.args.directory c.args.above (size_with c.args.bare) c.args.room
    c.args.cookie c.args.pairs.now c.args.pairs.now es c.args.cookie c.args.room) (sym c.new-told.ensures.items)
    (read-none g.P.Pairs.told c.args.directory c.args.above (size_with c.args.bare) c.args.room c.args.cookie c.args.pairs.now)

pub returns-in-Err-clause-goes : goal.returns-in-Err-clause-goes
returns-in-Err-clause-goes g c =
    read-goes g.P.Pairs.told c.args.directory c.args.above (size_with c.args.bare) c.args.room c.args.cookie c.args.pairs.now
    c.entries.pairs c.first_listed.new.pairs c.entries.told.items c.entries.last c.entries.left c.entries.invariant
    c.first_listed.ensures.goes

pub returns-in-Err-clause-fault : goal.returns-in-Err-clause-fault
returns-in-Err-clause-fault g c =
    read-up g.P.Pairs.told c.args.directory c.args.above (size_with c.args.bare) c.args.room c.args.cookie c.args.pairs.now
    c.entries.pairs c.first_listed.new.pairs c.entries.told.items c.entries.last c.entries.left c.entries.invariant
    c.first_listed.ensures.goes c.in-Err.fault c.in-Err.ensures.fault

pub returns-in-None-clause-goes : goal.returns-in-None-clause-goes
returns-in-None-clause-goes g c =
    read-goes g.P.Pairs.told c.args.directory c.args.above (size_with c.args.bare) c.args.room c.args.cookie c.args.pairs.now
    c.entries.pairs c.first_listed.new.pairs c.entries.told.items c.entries.last c.entries.left c.entries.invariant
    c.first_listed.ensures.goes

pub returns-in-None-clause-ok : goal.returns-in-None-clause-ok
returns-in-None-clause-ok g c =
    subst (λ (es : List Entry). Reads g.P.Pairs.told c.args.pairs.now c.first_listed.new.pairs (HasPlace c.args.directory)
    (λ t. IsTold (size_with c.args.bare) c.args.room c.args.cookie (lists t c.args.directory c.args.above) (record {
      entries = es;
      eof = true;
    })))
    (sym c.from_vec.ensures)
    (read-all g.P.Pairs.told c.args.directory c.args.above (size_with c.args.bare) c.args.room c.args.cookie c.args.pairs.now
    c.entries.pairs c.first_listed.new.pairs c.entries.told.items c.entries.last c.entries.left c.entries.invariant
    c.first_listed.ensures.goes
    (subst (λ (o : Option Entry). Reads g.P.Pairs.told c.entries.pairs c.first_listed.new.pairs
    (HasPlace c.args.directory)
    (λ t. IsNextOf (lists t c.args.directory c.args.above) c.entries.last o)) c.in-None.is c.in-Ok.ensures.ok))

pub returns-in-None-room_behind-clause-goes : goal.returns-in-None-room_behind-clause-goes
returns-in-None-room_behind-clause-goes g c =
    read-goes g.P.Pairs.told c.args.directory c.args.above (size_with c.args.bare) c.args.room c.args.cookie c.args.pairs.now
    c.entries.pairs c.first_listed.new.pairs c.entries.told.items c.entries.last c.entries.left c.entries.invariant
    c.first_listed.ensures.goes

pub returns-in-None-room_behind-clause-ok : goal.returns-in-None-room_behind-clause-ok
returns-in-None-room_behind-clause-ok g c =
    subst (λ (es : List Entry). Reads g.P.Pairs.told c.args.pairs.now c.first_listed.new.pairs (HasPlace c.args.directory)
    (λ t. IsTold (size_with c.args.bare) c.args.room c.args.cookie (lists t c.args.directory c.args.above) (record {
      entries = es;
      eof = false;
    })))
    (sym c.from_vec-in-None-room_behind.ensures)
    (read-some g.P.Pairs.told c.args.directory c.args.above (size_with c.args.bare) c.args.room c.args.cookie c.args.pairs.now
    c.entries.pairs c.first_listed.new.pairs c.entries.told.items c.entries.last c.entries.left c.entries.invariant
    c.first_listed.ensures.goes c.in-Some.e
    (subst (λ (o : Option Entry). Reads g.P.Pairs.told c.entries.pairs c.first_listed.new.pairs
    (HasPlace c.args.directory)
    (λ t. IsNextOf (lists t c.args.directory c.args.above) c.entries.last o)) c.in-Some.is c.in-Ok.ensures.ok)
    (room-none (nat_le (size_with c.args.bare (listed_as c.in-Some.e)) c.entries.left)
    (c.entries.left - size_with c.args.bare (listed_as c.in-Some.e)) c.in-None-room_behind.ensures))

pub entries-smaller : goal.entries-smaller
entries-smaller g c =
    let r = room-some (nat_le (size_with c.args.bare (listed_as c.in-Some.e)) c.entries.left)
    (c.entries.left - size_with c.args.bare (listed_as c.in-Some.e)) c.in-Some-room_behind.less c.in-Some-room_behind.ensures in
    room-less c.args.bare (padded c.in-Some.e.name) c.entries.left c.in-Some-room_behind.less c.requires r.0 r.1

pub entries-preserved : goal.entries-preserved
entries-preserved g c =
    let r = room-some (nat_le (size_with c.args.bare (listed_as c.in-Some.e)) c.entries.left)
    (c.entries.left - size_with c.args.bare (listed_as c.in-Some.e)) c.in-Some-room_behind.less c.in-Some-room_behind.ensures in
    let P : List Entry → ℕ → Type 0 = λ es n.
    HasRead g.P.Pairs.told c.args.directory c.args.above (size_with c.args.bare) c.args.room c.args.cookie c.args.pairs.now
    c.first_listed.new.pairs es c.in-Some.e.cookie n in
    subst (λ (es : List Entry). P es c.in-Some-room_behind.less) (sym c.in-Ok-push_entry.ensures)
    (subst (λ (n : ℕ). P (c.entries.told.items ++ c.in-Some.e ∷ []) n) (sym r.1)
    (read-more g.P.Pairs.told c.args.directory c.args.above (size_with c.args.bare) c.args.room c.args.cookie c.args.pairs.now
    c.entries.pairs c.first_listed.new.pairs c.entries.told.items c.entries.last c.entries.left c.entries.invariant
    c.first_listed.ensures.goes c.in-Some.e
    (subst (λ (o : Option Entry). Reads g.P.Pairs.told c.entries.pairs c.first_listed.new.pairs
    (HasPlace c.args.directory)
    (λ t. IsNextOf (lists t c.args.directory c.args.above) c.entries.last o)) c.in-Some.is c.in-Ok.ensures.ok) r.0))

pub returns-in-Err-push_entry-clause-goes : goal.returns-in-Err-push_entry-clause-goes
returns-in-Err-push_entry-clause-goes g c =
    read-goes g.P.Pairs.told c.args.directory c.args.above (size_with c.args.bare) c.args.room c.args.cookie c.args.pairs.now
    c.entries.pairs c.first_listed.new.pairs c.entries.told.items c.entries.last c.entries.left c.entries.invariant
    c.first_listed.ensures.goes

pub returns-in-Err-push_entry-clause-fault : goal.returns-in-Err-push_entry-clause-fault
returns-in-Err-push_entry-clause-fault g c =
    up-memory g.P.Pairs.told c.args.pairs.now c.first_listed.new.pairs (HasPlace c.args.directory) c.from.result
    c.from.ensures
