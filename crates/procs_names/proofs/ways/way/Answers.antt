-- The name has a place of its own, or an entry.
use Rattle.std.proofs.Common.{◌≡◌, ◌∙◌, sym}
use Rattle.std.specs.Prelude.{option_map}
use Rattle.fs_rules.specs.Places.{entry_at, place_named}
use Rattle.fs_shows.proofs.Doing.{goes-none}
use Rattle.procs_object.specs.Finding.{HasPlace}
use Rattle.procs_object.proofs.Reading.{reads-more, reads-none}
use Rattle.procs_names.specs.Naming.{fileid_of, seen}
use Rattle.procs_names.proofs.Leading.{leads-entry, leads-own}
use Rattle.procs_names.proofs.ways.way.Goals as goal

pub returns-then-is_some-clause-goes : goal.returns-then-is_some-clause-goes
returns-then-is_some-clause-goes g c = goes-none g.P.Pairs.told c.args.pairs.now

pub returns-then-is_some-clause-ok : goal.returns-then-is_some-clause-ok
returns-then-is_some-clause-ok g c =
    reads-none g.P.Pairs.told c.args.pairs.now (HasPlace c.args.d.now.place)
    (λ t. place_named t (seen c.args.d.now) c.args.name.now ≡ c.own_place-own.result)
    (λ t has. leads-own t (seen c.args.d.now) c.args.name.now c.own_place-own.result c.own_place-own.ensures
    (sym c.is_some.ensures ∙ c.if-is_some.true))

pub fileid_named-requires : goal.fileid_named-requires
fileid_named-requires g c = c.requires

pub returns-in-Ok-clause-goes : goal.returns-in-Ok-clause-goes
returns-in-Ok-clause-goes g c = c.fileid_named.ensures.goes

pub returns-in-Ok-clause-ok : goal.returns-in-Ok-clause-ok
returns-in-Ok-clause-ok g c =
    let d = c.args.d.now in
    let name = c.args.name.now in
    reads-more g.P.Pairs.told c.args.pairs.now c.fileid_named.new.pairs (HasPlace d.place) (HasPlace d.place)
    (λ t. option_map fileid_of (entry_at t d.place name) ≡ c.in-Ok.found)
    (λ t. place_named t (seen d) name ≡ c.beside_if.result) (λ t has. has)
    (λ t has said. leads-entry t (seen d) name c.own_place-own.result c.own_place-own.ensures
    (sym c.is_some.ensures ∙ c.if-is_some.false)
    ∙ c.beside_if.ensures (entry_at t d.place name) said)
    c.in-Ok.ensures.ok

pub returns-in-Err-clause-goes : goal.returns-in-Err-clause-goes
returns-in-Err-clause-goes g c = c.fileid_named.ensures.goes

pub returns-in-Err-clause-fault : goal.returns-in-Err-clause-fault
returns-in-Err-clause-fault g c = c.in-Err.ensures.fault
