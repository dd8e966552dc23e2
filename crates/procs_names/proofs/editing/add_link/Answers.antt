-- The file has a name more first, and then the directory.
use Rattle.std.proofs.Common.{arith}
use Rattle.std.proofs.lemmas.Result.{on_ok_weaker, IfErr-weaker}
use Rattle.fs_rules.specs.Making.{gain_name}
use Rattle.fs_rules.specs.Edits.{edit_node}
use Rattle.inode_ops.specs.Changes.{HasLinkLeft}
use Rattle.dir_ops.specs.Directories.{CanAdd}
use Rattle.fs_shows.proofs.Doing.{goes-then, goes-most}
use Rattle.procs_names.specs.Readying.{CanLink, linked, with_link}
use Rattle.procs_names.proofs.Readied.{gains-plain}
use Rattle.procs_names.proofs.Twice.{edit-up-given, twice-edits, twice-up}
use Rattle.procs_names.proofs.editing.add_link.Goals as goal

pub returns-in-Err-clause-goes : goal.returns-in-Err-clause-goes
returns-in-Err-clause-goes g c =
    goes-most g.P.Pairs.told c.args.pairs.now c.link.new.pairs 1 4 (omega arith) c.link.ensures.goes

pub returns-in-Err-clause-fault : goal.returns-in-Err-clause-fault
returns-in-Err-clause-fault g c =
    edit-up-given g.P.Pairs.told c.args.pairs.now c.link.new.pairs
    (CanLink c.args.now c.args.directory c.args.name.now c.args.file) (HasLinkLeft c.args.file) (λ t can. can.link) c.in-Err.fault
    c.in-Err.ensures.fault

pub add-requires : goal.add-requires
add-requires g c = c.requires.name

pub returns-clause-goes : goal.returns-clause-goes
returns-clause-goes g c =
    goes-then g.P.Pairs.told c.args.pairs.now c.link.new.pairs c.add.new.pairs 1 3 c.link.ensures.goes
    c.add.ensures.goes

pub returns-clause-ok : goal.returns-clause-ok
returns-clause-ok g c =
    on_ok_weaker c.add.result
    (twice-edits g.P.Pairs.told c.args.pairs.now c.link.new.pairs c.add.new.pairs 1 3 c.link.ensures.goes c.add.ensures.goes
    (CanLink c.args.now c.args.directory c.args.name.now c.args.file) (HasLinkLeft c.args.file)
    (CanAdd c.args.directory c.args.name.now) (with_link c.args.now c.args.file) c.in-Ok.ensures.ok
    (λ t can. can.link) (λ t can. can.add)
    (edit_node c.args.directory (gain_name c.args.kind c.args.name.now c.args.file c.args.now))
    (linked c.args.now c.args.directory c.args.name.now c.args.file)
    (λ t. gains-plain c.args.kind c.args.name.now c.args.file c.args.now c.args.directory (with_link c.args.now c.args.file t)
    c.requires.kind))
    c.add.ensures.ok

pub returns-clause-fault : goal.returns-clause-fault
returns-clause-fault g c =
    IfErr-weaker c.add.result _ _
    (twice-up g.P.Pairs.told c.args.pairs.now c.link.new.pairs c.add.new.pairs 1 3 c.link.ensures.goes c.add.ensures.goes
    (CanLink c.args.now c.args.directory c.args.name.now c.args.file) (HasLinkLeft c.args.file)
    (CanAdd c.args.directory c.args.name.now) (with_link c.args.now c.args.file) c.in-Ok.ensures.ok
    (λ t can. can.link) (λ t can. can.add))
    c.add.ensures.fault
