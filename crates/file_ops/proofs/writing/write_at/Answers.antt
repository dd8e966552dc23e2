-- The inode is loaded, the blocks are written, and the inode is saved.
use Rattle.std.proofs.Common.{◌∙◌, ◌<◌, ◌+◌, Some, length, sym, subst, arith}
use Rattle.std.proofs.lemmas.Bool.{eqb-true, eqb-false}
use Rattle.std.specs.Prelude.{⊤}
use Rattle.std.proofs.lemmas.Result.{on_ok_weaker, IfErr-weaker}
use Rattle.pairs.specs.declared.at.At.TheVariants.{Live}
use Rattle.pairs.specs.Versions.{Versions, with_put}
use Rattle.fs_keys.specs.declared.key_parts.KeyParts.TheVariants.{Inode as InodeKey}
use Rattle.fs_keys.specs.Inodes.{inode_of, value_of}
use Rattle.fs_keys.specs.Keys.{key_of}
use Rattle.fs_rules.specs.Edits.{edit_node, write_at}
use Rattle.fs_shows.specs.Extents.{Marks, row}
use Rattle.fs_shows.specs.Nodes.{Holds, marks_of}
use Rattle.fs_shows.specs.Shows.{Shows}
use Rattle.fs_shows.specs.Steps.{Lies}
use Rattle.fs_shows.specs.Views.{IsThere}
use Rattle.fs_shows.proofs.Doing.{up-given, up-edit}
use Rattle.inode_ops.proofs.Revising.{some-weaker}
use Rattle.extent_ops.specs.Ranges.{Writes, blocks_in}
use Rattle.extent_ops.specs.Steps.{HasBlocks, Makes}
use Rattle.extent_ops.proofs.Chaining.{goes-still, goes-more, goes-both}
use Rattle.file_ops.specs.Given.{IsFile, MayFill}
use Rattle.file_ops.proofs.Wrote.{rewritten, edit-wrote, edit-none, wrote-shown, makes-read, up-read-blocks}
use Rattle.file_ops.specs.Heads.{filled}
use Rattle.file_ops.proofs.Wrote.{saves-so, saved-behind, up-saved}
use Rattle.file_ops.proofs.writing.write_at.Goals as goal

pub returns-then-is_empty-clause-goes : goal.returns-then-is_empty-clause-goes
returns-then-is_empty-clause-goes g c = goes-still g.P.Pairs.told c.args.pairs.now _

pub returns-then-is_empty-clause-ok : goal.returns-then-is_empty-clause-ok
returns-then-is_empty-clause-ok g c = λ w t agrees lies may.
    subst (Lies g.P.Pairs.told c.args.pairs.now w)
    (sym (edit-none c.args.offset c.args.content.now c.args.now c.args.id t
    (eqb-true (length c.args.content.now) 0 (sym c.is_empty.ensures ∙ c.if-is_empty.true)))) lies

pub returns-in-Err-clause-goes : goal.returns-in-Err-clause-goes
returns-in-Err-clause-goes g c = goes-more g.P.Pairs.told c.args.pairs.now c.load_live.new.pairs 0 _ (omega arith)
    c.load_live.ensures.goes

pub returns-in-Err-clause-fault : goal.returns-in-Err-clause-fault
returns-in-Err-clause-fault g c =
    up-edit g.P.Pairs.told c.args.pairs.now c.load_live.new.pairs (MayFill c.args.id) c.in-Err.fault
    (up-given g.P.Pairs.told c.args.pairs.now c.load_live.new.pairs (MayFill c.args.id) (IsThere c.args.id)
    (λ t may. some-weaker (t.nodes c.args.id) IsFile (λ n. ⊤) (λ n file. tt) may.file) c.in-Err.fault c.in-Err.ensures.fault)

pub returns-in-Err-write-clause-goes : goal.returns-in-Err-write-clause-goes
returns-in-Err-write-clause-goes g c =
    goes-both g.P.Pairs.told c.args.pairs.now c.load_live.new.pairs c.write.new.pairs 0
    (blocks_in c.args.offset (length c.args.content.now)) _ (omega arith) c.load_live.ensures.goes c.write.ensures.goes

pub returns-in-Err-write-clause-fault : goal.returns-in-Err-write-clause-fault
returns-in-Err-write-clause-fault g c =
    up-read-blocks g.P.Pairs.told c.args.pairs.now c.load_live.new.pairs
    (λ v. Holds inode_of (row v Live (InodeKey c.args.id)) (Some c.in-Ok.inode)) c.load_live.ensures.goes c.in-Ok.ensures.record
    c.write.new.pairs (blocks_in c.args.offset (length c.args.content.now)) (MayFill c.args.id) c.in-Err-write.fault
    c.write.ensures.goes c.in-Err-write.ensures.fault

pub returns-clause-goes : goal.returns-clause-goes
returns-clause-goes g c =
    let b = blocks_in c.args.offset (length c.args.content.now) in
    goes-both g.P.Pairs.told c.args.pairs.now c.write.new.pairs c.save.new.pairs b 1 (b + 1) (omega arith)
    (goes-both g.P.Pairs.told c.args.pairs.now c.load_live.new.pairs c.write.new.pairs 0 b b (omega arith)
    c.load_live.ensures.goes
    c.write.ensures.goes) c.save.ensures.goes

pub returns-clause-ok : goal.returns-clause-ok
returns-clause-ok g c =
    let b = blocks_in c.args.offset (length c.args.content.now) in
    let i = c.in-Ok.inode in
    let P : Versions → Type 0 = λ v. Holds inode_of (row v Live (InodeKey c.args.id)) (Some i) in
    let Q : Versions → Versions → Type 0 =
    Writes c.args.id (marks_of i.head) c.args.offset (length c.args.content.now) c.args.content.now in
    let made = makes-read g.P.Pairs.told c.args.pairs.now c.load_live.new.pairs P c.load_live.ensures.goes c.in-Ok.ensures.record
    c.write.new.pairs b Q c.write.ensures.goes
    (subst (λ (m : Marks). Makes g.P.Pairs.told c.load_live.new.pairs c.write.new.pairs HasBlocks
    (Writes c.args.id m c.args.offset (length c.args.content.now) c.args.content.now)) c.of-marks.ensures
    c.in-Ok-write.ensures.ok) in
    let some : 0 < length c.args.content.now =
    omega (arith, eqb-false (length c.args.content.now) 0 (sym c.is_empty.ensures ∙ c.if-is_empty.false)) in
    on_ok_weaker c.save.result
    (λ saves. saved-behind g.P.Pairs.told c.args.pairs.now c.write.new.pairs c.save.new.pairs b c.args.id
    (rewritten c.args.offset c.args.content.now c.args.now i) (λ v z. P v × Q v z)
    (goes-both g.P.Pairs.told c.args.pairs.now c.load_live.new.pairs c.write.new.pairs 0 b b (omega arith)
    c.load_live.ensures.goes
    c.write.ensures.goes) c.save.ensures.goes made (λ v y is. is.1.leaves.has.lives) (MayFill c.args.id)
    (edit_node c.args.id (write_at c.args.offset c.args.content.now c.args.now))
    (saves-so g.P.Pairs.told c.write.new.pairs c.save.new.pairs c.args.id i c.filled-head.result
    (filled (c.args.offset + length c.args.content.now) c.args.now i.head) c.filled-head.ensures saves)
    (λ v y t shows is may.
    subst (Shows (with_put (key_of (InodeKey c.args.id)) (value_of (rewritten c.args.offset c.args.content.now c.args.now i)) y))
    (edit-wrote c.args.offset c.args.content.now c.args.now c.args.id t some)
    (wrote-shown c.args.offset c.args.content.now c.args.now v y t c.args.id i c.ranges.id.fits shows may is.0 is.1
    (saves-so g.P.Pairs.told c.write.new.pairs c.save.new.pairs c.args.id i c.filled-head.result
    (filled (c.args.offset + length c.args.content.now) c.args.now i.head) c.filled-head.ensures saves).again)))
    c.save.ensures.ok

pub returns-clause-fault : goal.returns-clause-fault
returns-clause-fault g c =
    let b = blocks_in c.args.offset (length c.args.content.now) in
    let i = c.in-Ok.inode in
    let P : Versions → Type 0 = λ v. Holds inode_of (row v Live (InodeKey c.args.id)) (Some i) in
    let Q : Versions → Versions → Type 0 =
    Writes c.args.id (marks_of i.head) c.args.offset (length c.args.content.now) c.args.content.now in
    let made = makes-read g.P.Pairs.told c.args.pairs.now c.load_live.new.pairs P c.load_live.ensures.goes c.in-Ok.ensures.record
    c.write.new.pairs b Q c.write.ensures.goes
    (subst (λ (m : Marks). Makes g.P.Pairs.told c.load_live.new.pairs c.write.new.pairs HasBlocks
    (Writes c.args.id m c.args.offset (length c.args.content.now) c.args.content.now)) c.of-marks.ensures
    c.in-Ok-write.ensures.ok) in
    IfErr-weaker c.save.result _ _
    (λ fault up. up-saved g.P.Pairs.told c.args.pairs.now c.write.new.pairs c.save.new.pairs b c.args.id i (λ v z. P v × Q v z)
    (goes-both g.P.Pairs.told c.args.pairs.now c.load_live.new.pairs c.write.new.pairs 0 b b (omega arith)
    c.load_live.ensures.goes
    c.write.ensures.goes) c.save.ensures.goes made (λ v y is. is.1.leaves.has.lives) (MayFill c.args.id) fault up)
    c.save.ensures.fault
