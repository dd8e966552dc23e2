use Rattle.std.proofs.Common.{Some}
use Rattle.std.proofs.lemmas.Result.{on_ok_weaker, IfErr-weaker}
use Rattle.pairs.specs.declared.at.At.TheVariants.{Live}
use Rattle.fs_keys.specs.declared.key_parts.KeyParts.TheVariants.{Inode as InodeKey}
use Rattle.fs_keys.specs.Inodes.{inode_of}
use Rattle.fs_shows.specs.Extents.{row}
use Rattle.fs_shows.specs.Nodes.{Holds}
use Rattle.fs_shows.specs.Views.{IsThere}
use Rattle.fs_shows.proofs.Doing.{does-tell, up-given, up-edit, up-behind}
use Rattle.inode_ops.specs.Changes.{Allows}
use Rattle.inode_ops.proofs.Revising.{some-weaker, change-edits, change-odd}
use Rattle.std.specs.Prelude.{⊤}
use Rattle.inode_ops.proofs.edits.revise.Goals as goal

pub returns-in-Err-clause-fault : goal.returns-in-Err-clause-fault
returns-in-Err-clause-fault g c =
    up-edit g.P.Pairs.told c.args.pairs.now c.load_live.new.pairs (Allows c.args.id c.args.change.now) c.in-Err.fault
    (up-given g.P.Pairs.told c.args.pairs.now c.load_live.new.pairs (Allows c.args.id c.args.change.now) (IsThere c.args.id)
    (λ t allows. some-weaker (t.nodes c.args.id) _ (λ n. ⊤) (λ n may. tt) allows) c.in-Err.fault c.in-Err.ensures.fault)

pub returns-in-None-clause-fault : goal.returns-in-None-clause-fault
returns-in-None-clause-fault g c =
    change-odd g.P.Pairs.told c.args.pairs.now c.load_live.new.pairs c.load_live.new.pairs c.args.id c.in-Ok.inode
    c.args.change.now c.ranges.id.fits c.in-Ok.ensures.record c.in-None.ensures.none

pub returns-clause-ok : goal.returns-clause-ok
returns-clause-ok g c =
    on_ok_weaker c.save.result
    (change-edits g.P.Pairs.told c.args.pairs.now c.load_live.new.pairs c.save.new.pairs c.args.id c.in-Ok.inode
    c.args.change.now c.in-Some.kept c.ranges.id.fits
    c.save.ensures.goes c.in-Ok.ensures.record c.in-Some.ensures.ok)
    c.save.ensures.ok

pub returns-clause-fault : goal.returns-clause-fault
returns-clause-fault g c =
    IfErr-weaker c.save.result _ _
    (λ fault up. up-behind g.P.Pairs.told c.args.pairs.now c.load_live.new.pairs c.save.new.pairs 0 1 (λ v. v)
    (λ v. Holds inode_of (row v Live (InodeKey c.args.id)) (Some c.in-Ok.inode))
    (Allows c.args.id c.args.change.now) fault (λ v lives. lives) c.in-Ok.ensures.goes c.save.ensures.goes
    (does-tell g.P.Pairs.told c.args.pairs.now c.load_live.new.pairs
    (λ v. Holds inode_of (row v Live (InodeKey c.args.id)) (Some c.in-Ok.inode)) c.in-Ok.ensures.record) up)
    c.save.ensures.fault
