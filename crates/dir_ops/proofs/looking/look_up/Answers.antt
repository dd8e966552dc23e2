use Rattle.std.proofs.Common.{◌≡◌, ◌∙◌, ap, sym, Some, None}
use Rattle.fs_keys.specs.declared.key_parts.KeyParts.TheVariants.{Name as NameKey}
use Rattle.fs_keys.specs.Values.{name_in}
use Rattle.fs_shows.specs.Views.{IsKept}
use Rattle.fs_shows.proofs.Apart.{short-name}
use Rattle.fs_shows.proofs.Doing.{up-read}
use Rattle.inode_ops.proofs.Loading.{none-held, some-held}
use Rattle.dir_ops.proofs.Looked.{name-reads, name-odd}
use Rattle.dir_ops.proofs.looking.look_up.Goals as goal

pub get_row-requires : goal.get_row-requires
get_row-requires g c = rw c.new.ensures (c.ranges.directory.fits, short-name c.args.name.now c.requires)

pub returns-in-Err-clause-fault : goal.returns-in-Err-clause-fault
returns-in-Err-clause-fault g c = up-read g.P.Pairs.told c.args.pairs.now c.get_row.new.pairs
    (IsKept c.args.at) c.in-Err.fault c.in-Err.ensures.fault

pub returns-in-None-clause-ok : goal.returns-in-None-clause-ok
returns-in-None-clause-ok g c =
    name-reads g.P.Pairs.told c.args.pairs.now c.get_row.new.pairs c.args.at c.args.directory c.args.name.now
    c.ranges.directory.fits c.requires None
    (none-held g.P.Pairs.told c.args.pairs.now c.get_row.new.pairs name_in c.args.at
    (NameKey c.args.directory c.args.name.now) c.in-Ok.found (rw c.new.ensures at c.in-Ok.ensures.ok) c.in-None.is)

pub returns-in-None-clause-record : goal.returns-in-None-clause-record
returns-in-None-clause-record g c = none-held g.P.Pairs.told c.args.pairs.now c.get_row.new.pairs name_in c.args.at
    (NameKey c.args.directory c.args.name.now) c.in-Ok.found (rw c.new.ensures at c.in-Ok.ensures.ok) c.in-None.is

pub returns-in-Some-name_of-clause-ok : goal.returns-in-Some-name_of-clause-ok
returns-in-Some-name_of-clause-ok g c =
    let says : name_in c.in-Some.value ≡ Some c.in-Some-name_of.row = ap name_in (sym c.as_slice.ensures)
    ∙ sym c.in-Some-name_of.ensures in
    name-reads g.P.Pairs.told c.args.pairs.now c.get_row.new.pairs c.args.at c.args.directory c.args.name.now
    c.ranges.directory.fits c.requires (Some c.in-Some-name_of.row)
    (some-held g.P.Pairs.told c.args.pairs.now c.get_row.new.pairs name_in c.args.at
    (NameKey c.args.directory c.args.name.now) c.in-Ok.found
    (rw c.new.ensures at c.in-Ok.ensures.ok) c.in-Some.value c.in-Some-name_of.row c.in-Some.is says)

pub returns-in-Some-name_of-clause-record : goal.returns-in-Some-name_of-clause-record
returns-in-Some-name_of-clause-record g c =
    let says : name_in c.in-Some.value ≡ Some c.in-Some-name_of.row = ap name_in (sym c.as_slice.ensures)
    ∙ sym c.in-Some-name_of.ensures in
    some-held g.P.Pairs.told c.args.pairs.now c.get_row.new.pairs name_in c.args.at
    (NameKey c.args.directory c.args.name.now) c.in-Ok.found
    (rw c.new.ensures at c.in-Ok.ensures.ok) c.in-Some.value c.in-Some-name_of.row c.in-Some.is says

pub returns-clause-fault : goal.returns-clause-fault
returns-clause-fault g c =
    let says : name_in c.in-Some.value ≡ None = ap name_in (sym c.as_slice.ensures) ∙ sym c.in-None-name_of.ensures in
    name-odd g.P.Pairs.told c.args.pairs.now c.get_row.new.pairs c.args.at c.args.directory c.args.name.now
    c.ranges.directory.fits c.requires c.in-Ok.found c.in-Some.value
    (rw c.new.ensures at c.in-Ok.ensures.ok) c.in-Some.is says
