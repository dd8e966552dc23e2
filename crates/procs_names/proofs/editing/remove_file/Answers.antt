-- The file loses its name first, and then the directory.
use Rattle.std.proofs.Common.{refl, arith}
use Rattle.std.proofs.lemmas.Result.{on_ok_weaker, IfErr-weaker}
use Rattle.fs_rules.specs.Edits.{edit_node, touch, drop_name}
use Rattle.fs_rules.specs.Removing.{lose_name, remove_file}
use Rattle.inode_ops.specs.Losing.{MayLose}
use Rattle.dir_ops.specs.Directories.{CanDrop}
use Rattle.fs_shows.proofs.Doing.{goes-then, goes-most}
use Rattle.procs_names.specs.Readying.{CanRemove}
use Rattle.procs_names.proofs.Twice.{edit-up-given, twice-edits, twice-up}
use Rattle.procs_names.proofs.editing.remove_file.Goals as goal

pub returns-in-Err-clause-goes : goal.returns-in-Err-clause-goes
returns-in-Err-clause-goes g c =
    goes-most g.P.Pairs.told c.args.pairs.now c.lose_name.new.pairs 1 2 (omega arith) c.lose_name.ensures.goes

pub returns-in-Err-clause-fault : goal.returns-in-Err-clause-fault
returns-in-Err-clause-fault g c =
    edit-up-given g.P.Pairs.told c.args.pairs.now c.lose_name.new.pairs
    (CanRemove c.args.now c.args.directory c.args.name.now c.args.file) (MayLose c.args.file) (λ t can. can.lose) c.in-Err.fault
    c.in-Err.ensures.fault

pub drop_name-requires : goal.drop_name-requires
drop_name-requires g c = c.requires

pub returns-clause-goes : goal.returns-clause-goes
returns-clause-goes g c =
    goes-then g.P.Pairs.told c.args.pairs.now c.lose_name.new.pairs c.drop_name.new.pairs 1 1 c.lose_name.ensures.goes
    c.drop_name.ensures.goes

pub returns-clause-ok : goal.returns-clause-ok
unfolding remove_file
returns-clause-ok g c =
    on_ok_weaker c.drop_name.result
    (twice-edits g.P.Pairs.told c.args.pairs.now c.lose_name.new.pairs c.drop_name.new.pairs 1 1 c.lose_name.ensures.goes
    c.drop_name.ensures.goes
    (CanRemove c.args.now c.args.directory c.args.name.now c.args.file) (MayLose c.args.file)
    (CanDrop c.args.directory c.args.name.now) (lose_name c.args.now c.args.file) c.in-Ok.ensures.ok
    (λ t can. can.lose) (λ t can. can.drop)
    (edit_node c.args.directory (λ n. touch c.args.now (drop_name c.args.name.now n)))
    (remove_file c.args.now c.args.directory c.args.name.now c.args.file) (λ t. refl))
    c.drop_name.ensures.ok

pub returns-clause-fault : goal.returns-clause-fault
returns-clause-fault g c =
    IfErr-weaker c.drop_name.result _ _
    (twice-up g.P.Pairs.told c.args.pairs.now c.lose_name.new.pairs c.drop_name.new.pairs 1 1 c.lose_name.ensures.goes
    c.drop_name.ensures.goes
    (CanRemove c.args.now c.args.directory c.args.name.now c.args.file) (MayLose c.args.file)
    (CanDrop c.args.directory c.args.name.now) (lose_name c.args.now c.args.file) c.in-Ok.ensures.ok
    (λ t can. can.lose) (λ t can. can.drop))
    c.drop_name.ensures.fault
