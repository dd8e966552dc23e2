-- The directory within goes first, and then its name.
use Rattle.std.proofs.Common.{refl, arith}
use Rattle.std.proofs.lemmas.Result.{on_ok_weaker, IfErr-weaker}
use Rattle.fs_rules.specs.Edits.{edit_node, touch, drop_name, drop_link, drop_node}
use Rattle.fs_rules.specs.Removing.{drop_directory}
use Rattle.fs_shows.specs.Files.{MayGo}
use Rattle.dir_ops.specs.Directories.{CanDrop}
use Rattle.fs_shows.proofs.Doing.{goes-then, goes-most}
use Rattle.procs_names.specs.Readying.{CanRemoveDirectory}
use Rattle.procs_names.proofs.Twice.{edit-up-given, twice-edits, twice-up}
use Rattle.procs_names.proofs.editing.remove_directory.Goals as goal

pub returns-in-Err-clause-goes : goal.returns-in-Err-clause-goes
returns-in-Err-clause-goes g c =
    goes-most g.P.Pairs.told c.args.pairs.now c.forget.new.pairs 1 2 (omega arith) c.forget.ensures.goes

pub returns-in-Err-clause-fault : goal.returns-in-Err-clause-fault
returns-in-Err-clause-fault g c =
    edit-up-given g.P.Pairs.told c.args.pairs.now c.forget.new.pairs
    (CanRemoveDirectory c.args.directory c.args.name.now c.args.within) (MayGo c.args.within) (λ t can. can.go) c.in-Err.fault
    c.in-Err.ensures.fault

pub drop_directory-requires : goal.drop_directory-requires
drop_directory-requires g c = c.requires

pub returns-clause-goes : goal.returns-clause-goes
returns-clause-goes g c =
    goes-then g.P.Pairs.told c.args.pairs.now c.forget.new.pairs c.drop_directory.new.pairs 1 1 c.forget.ensures.goes
    c.drop_directory.ensures.goes

pub returns-clause-ok : goal.returns-clause-ok
unfolding drop_directory
returns-clause-ok g c =
    on_ok_weaker c.drop_directory.result
    (twice-edits g.P.Pairs.told c.args.pairs.now c.forget.new.pairs c.drop_directory.new.pairs 1 1 c.forget.ensures.goes
    c.drop_directory.ensures.goes
    (CanRemoveDirectory c.args.directory c.args.name.now c.args.within) (MayGo c.args.within)
    (CanDrop c.args.directory c.args.name.now) (drop_node c.args.within) c.in-Ok.ensures.ok
    (λ t can. can.go) (λ t can. can.drop)
    (edit_node c.args.directory (λ n. touch c.args.now (drop_link (drop_name c.args.name.now n))))
    (drop_directory c.args.now c.args.directory c.args.name.now c.args.within) (λ t. refl))
    c.drop_directory.ensures.ok

pub returns-clause-fault : goal.returns-clause-fault
returns-clause-fault g c =
    IfErr-weaker c.drop_directory.result _ _
    (twice-up g.P.Pairs.told c.args.pairs.now c.forget.new.pairs c.drop_directory.new.pairs 1 1 c.forget.ensures.goes
    c.drop_directory.ensures.goes
    (CanRemoveDirectory c.args.directory c.args.name.now c.args.within) (MayGo c.args.within)
    (CanDrop c.args.directory c.args.name.now) (drop_node c.args.within) c.in-Ok.ensures.ok
    (λ t can. can.go) (λ t can. can.drop))
    c.drop_directory.ensures.fault
