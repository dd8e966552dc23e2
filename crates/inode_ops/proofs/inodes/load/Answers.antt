use Rattle.std.proofs.Common.{◌≡◌, sym, ◌∙◌, ap, None, Some}
use Rattle.fs_keys.specs.Inodes.{inode_of}
use Rattle.fs_keys.specs.declared.key_parts.KeyParts.TheVariants.{Inode as InodeKey}
use Rattle.fs_shows.specs.Views.{IsKept}
use Rattle.fs_shows.proofs.Doing.{up-read, up-memory}
use Rattle.inode_ops.proofs.Loading.{none-held, some-held, load-reads, load-odd, target-short}
use Rattle.inode_ops.proofs.inodes.load.Goals as goal

pub returns-in-Err-clause-fault : goal.returns-in-Err-clause-fault
returns-in-Err-clause-fault g c = up-read g.P.Pairs.told c.args.pairs.now c.get_row.new.pairs
    (IsKept c.args.at) c.in-Err.fault c.in-Err.ensures.fault

pub returns-in-None-clause-ok : goal.returns-in-None-clause-ok
returns-in-None-clause-ok g c =
    load-reads g.P.Pairs.told c.args.pairs.now c.get_row.new.pairs c.args.at c.args.id None c.ranges.id.fits
    (none-held g.P.Pairs.told c.args.pairs.now c.get_row.new.pairs inode_of c.args.at
    (InodeKey c.args.id) c.in-Ok.found c.in-Ok.ensures.ok c.in-None.is)

pub returns-in-None-clause-record : goal.returns-in-None-clause-record
returns-in-None-clause-record g c =
    none-held g.P.Pairs.told c.args.pairs.now c.get_row.new.pairs inode_of c.args.at
    (InodeKey c.args.id) c.in-Ok.found c.in-Ok.ensures.ok c.in-None.is

pub returns-in-Err-inode_of-clause-fault : goal.returns-in-Err-inode_of-clause-fault
returns-in-Err-inode_of-clause-fault g c = up-memory g.P.Pairs.told c.args.pairs.now c.get_row.new.pairs
    (IsKept c.args.at) c.from.result c.from.ensures

pub returns-in-Some-said-clause-ok : goal.returns-in-Some-said-clause-ok
returns-in-Some-said-clause-ok g c =
    let says : inode_of c.in-Some.value ≡ Some c.in-Some-said.inode = ap inode_of (sym c.as_slice.ensures)
    ∙ sym c.in-Ok-inode_of.ensures ∙ c.in-Some-said.is in
    load-reads g.P.Pairs.told c.args.pairs.now c.get_row.new.pairs c.args.at c.args.id
    (Some c.in-Some-said.inode) c.ranges.id.fits
    (some-held g.P.Pairs.told c.args.pairs.now c.get_row.new.pairs inode_of c.args.at
    (InodeKey c.args.id) c.in-Ok.found c.in-Ok.ensures.ok c.in-Some.value
    c.in-Some-said.inode c.in-Some.is says)

pub returns-in-Some-said-clause-record : goal.returns-in-Some-said-clause-record
returns-in-Some-said-clause-record g c =
    let says : inode_of c.in-Some.value ≡ Some c.in-Some-said.inode = ap inode_of (sym c.as_slice.ensures)
    ∙ sym c.in-Ok-inode_of.ensures ∙ c.in-Some-said.is in
    some-held g.P.Pairs.told c.args.pairs.now c.get_row.new.pairs inode_of c.args.at
    (InodeKey c.args.id) c.in-Ok.found c.in-Ok.ensures.ok c.in-Some.value
    c.in-Some-said.inode c.in-Some.is says

pub returns-in-Some-said-clause-short : goal.returns-in-Some-said-clause-short
returns-in-Some-said-clause-short g c =
    let says : inode_of c.in-Some.value ≡ Some c.in-Some-said.inode = ap inode_of (sym c.as_slice.ensures)
    ∙ sym c.in-Ok-inode_of.ensures ∙ c.in-Some-said.is in target-short c.in-Some.value c.in-Some-said.inode says

pub returns-clause-fault : goal.returns-clause-fault
returns-clause-fault g c =
    let says : inode_of c.in-Some.value ≡ None = ap inode_of (sym c.as_slice.ensures) ∙ sym c.in-Ok-inode_of.ensures
    ∙ c.in-None-said.is in
    load-odd g.P.Pairs.told c.args.pairs.now c.get_row.new.pairs c.args.at c.args.id c.in-Ok.found c.in-Some.value
    c.ranges.id.fits c.in-Ok.ensures.ok c.in-Some.is says
