-- The inode is loaded; then the file is cut, or not; and the inode is saved.
use Rattle.std.proofs.Common.{◌≡◌, ℕ, Bool, true, Some, sym, subst, arith}
use Rattle.std.specs.Prelude.{⊤}
use Rattle.pairs.specs.declared.at.At.TheVariants.{Live}
use Rattle.pairs.specs.Versions.{Versions, HasLives, with_put}
use Rattle.pairs.specs.Told.{PairsTold}
use Rattle.fs_rules.specs.Edits.{edit_node, set_size}
use Rattle.fs_keys.specs.declared.key_parts.KeyParts.TheVariants.{Inode as InodeKey}
use Rattle.fs_keys.specs.Inodes.{inode_of, value_of}
use Rattle.fs_keys.specs.Keys.{key_of}
use Rattle.fs_shows.specs.Extents.{Marks, row}
use Rattle.fs_shows.specs.Nodes.{Holds, marks_of}
use Rattle.fs_shows.specs.Shows.{Shows}
use Rattle.fs_shows.specs.Views.{IsThere}
use Rattle.fs_shows.proofs.Doing.{up-given, up-edit}
use Rattle.inode_ops.proofs.Revising.{some-weaker}
use Rattle.extent_ops.specs.Cuts.{Cuts, CutsOrWaits}
use Rattle.extent_ops.specs.Marking.{as_marks}
use Rattle.extent_ops.specs.Steps.{HasBlocks, Makes}
use Rattle.extent_ops.proofs.Chaining.{goes-more, goes-both, Stays}
use Rattle.file_ops.specs.Given.{IsFile, MaySize}
use Rattle.file_ops.specs.Heads.{grown, cut}
use Rattle.file_ops.proofs.Wrote.{makes-read, up-read-blocks, saves-so, saved-behind, up-saved, tells-blocks}
use Rattle.file_ops.proofs.Resized.{grown-shown, cut-shown, cuts-odd, waits-told}
use Rattle.file_ops.proofs.sizing.set_size.Goals as goal

pub returns-in-Err-clause-goes : goal.returns-in-Err-clause-goes
returns-in-Err-clause-goes g c = goes-more g.P.Pairs.told c.args.pairs.now c.load_live.new.pairs 0 3 (omega arith)
    c.load_live.ensures.goes

pub returns-in-Err-clause-fault : goal.returns-in-Err-clause-fault
returns-in-Err-clause-fault g c =
    up-edit g.P.Pairs.told c.args.pairs.now c.load_live.new.pairs (MaySize c.args.id) c.in-Err.fault
    (up-given g.P.Pairs.told c.args.pairs.now c.load_live.new.pairs (MaySize c.args.id) (IsThere c.args.id)
    (λ t may. some-weaker (t.nodes c.args.id) IsFile (λ n. ⊤) (λ n file. tt) may.fill.file) c.in-Err.fault c.in-Err.ensures.fault)

pub returns-in-Ok-save-clause-goes : goal.returns-in-Ok-save-clause-goes
returns-in-Ok-save-clause-goes g c =
    goes-both g.P.Pairs.told c.args.pairs.now c.load_live.new.pairs c.save.new.pairs 0 1 3 (omega arith) c.load_live.ensures.goes
    c.save.ensures.goes

pub returns-in-Ok-save-clause-ok : goal.returns-in-Ok-save-clause-ok
returns-in-Ok-save-clause-ok g c =
    let i = c.in-Ok.inode in
    let P : Versions → Type 0 = λ v. Holds inode_of (row v Live (InodeKey c.args.id)) (Some i) in
    saved-behind g.P.Pairs.told c.args.pairs.now c.load_live.new.pairs c.save.new.pairs 0 c.args.id
    (record i { head = grown c.args.size i.head }) (λ v z. HasBlocks v × Stays g.P.Pairs.told P v z) c.load_live.ensures.goes
    c.save.ensures.goes
    (tells-blocks g.P.Pairs.told c.args.pairs.now c.load_live.new.pairs P c.in-Ok.ensures.record)
    (λ v y is. subst HasLives (sym is.1.same) is.0.lives) (MaySize c.args.id) (edit_node c.args.id (set_size c.args.size))
    c.in-Ok-save.ensures.ok
    (λ v y t shows is may.
    subst (λ (y : Versions). Shows (with_put (key_of (InodeKey c.args.id))
    (value_of (record i { head = grown c.args.size i.head })) y)
    (edit_node c.args.id (set_size c.args.size) t)) (sym is.1.same)
    (grown-shown c.args.size v t c.args.id i c.ranges.id.fits shows may.fill is.1.is (omega arith) c.in-Ok-save.ensures.ok.again))

pub returns-then-inode-size-clause-goes : goal.returns-then-inode-size-clause-goes
returns-then-inode-size-clause-goes g c =
    goes-both g.P.Pairs.told c.args.pairs.now c.load_live.new.pairs c.save.new.pairs 0 1 3 (omega arith) c.load_live.ensures.goes
    c.save.ensures.goes

pub returns-then-inode-size-clause-fault : goal.returns-then-inode-size-clause-fault
returns-then-inode-size-clause-fault g c =
    let i = c.in-Ok.inode in
    let P : Versions → Type 0 = λ v. Holds inode_of (row v Live (InodeKey c.args.id)) (Some i) in
    up-saved g.P.Pairs.told c.args.pairs.now c.load_live.new.pairs c.save.new.pairs 0 c.args.id i
    (λ v z. HasBlocks v × Stays g.P.Pairs.told P v z) c.load_live.ensures.goes c.save.ensures.goes
    (tells-blocks g.P.Pairs.told c.args.pairs.now c.load_live.new.pairs P c.in-Ok.ensures.record)
    (λ v y is. subst HasLives (sym is.1.same) is.0.lives) (MaySize c.args.id) c.in-Err-save.fault c.in-Err-save.ensures.fault

pub returns-in-None-clause-goes : goal.returns-in-None-clause-goes
returns-in-None-clause-goes g c =
    goes-more g.P.Pairs.told c.args.pairs.now c.load_live.new.pairs 0 3 (omega arith) c.load_live.ensures.goes

pub returns-in-None-clause-fault : goal.returns-in-None-clause-fault
returns-in-None-clause-fault g c =
    cuts-odd g.P.Pairs.told c.args.pairs.now c.load_live.new.pairs c.args.id c.args.size c.in-Ok.inode c.ranges.id.fits
    c.in-Ok.ensures.record c.in-None.ensures.none

pub returns-in-Err-cut-clause-goes : goal.returns-in-Err-cut-clause-goes
returns-in-Err-cut-clause-goes g c =
    goes-both g.P.Pairs.told c.args.pairs.now c.load_live.new.pairs c.cut.new.pairs 0 2 3 (omega arith) c.load_live.ensures.goes
    c.cut.ensures.goes

pub returns-in-Err-cut-clause-fault : goal.returns-in-Err-cut-clause-fault
returns-in-Err-cut-clause-fault g c =
    up-read-blocks g.P.Pairs.told c.args.pairs.now c.load_live.new.pairs
    (λ v. Holds inode_of (row v Live (InodeKey c.args.id)) (Some c.in-Ok.inode)) c.load_live.ensures.goes c.in-Ok.ensures.record
    c.cut.new.pairs 2 (MaySize c.args.id) c.in-Err-cut.fault c.cut.ensures.goes c.in-Err-cut.ensures.fault

pub returns-clause-goes : goal.returns-clause-goes
returns-clause-goes g c =
    goes-both g.P.Pairs.told c.args.pairs.now c.load_live.new.pairs c.cut.new.pairs 0 2 3 (omega arith) c.load_live.ensures.goes
    c.cut.ensures.goes

pub returns-clause-ok : goal.returns-clause-ok
returns-clause-ok g c =
    waits-told g.P.Pairs.told c.args.pairs.now c.load_live.new.pairs c.args.id c.args.size c.in-Ok.inode c.ranges.id.fits
    c.in-Ok.ensures.record c.cut.new.pairs (as_marks c.of-marks.result) c.of-marks.ensures (omega arith) c.cut.ensures.goes
    (subst (CutsOrWaits g.P.Pairs.told c.load_live.new.pairs c.cut.new.pairs c.args.id (as_marks c.of-marks.result) c.args.size)
    c.if-is_cut.false c.in-Ok-cut.ensures.ok)

-- the file was cut, with the marks of its inode
cut-made : {S W : Type 0} (told : PairsTold S W) (mid new : S) (id size : ℕ) (m marks : Marks) (is_cut : Bool) → m ≡ marks
    → is_cut ≡ true → CutsOrWaits told mid new id m size is_cut → Makes told mid new HasBlocks (Cuts id marks size)
cut-made told mid new id size m marks is_cut same was cuts =
    let made : Makes told mid new HasBlocks (Cuts id m size) = subst (CutsOrWaits told mid new id m size) was cuts in
    subst (λ (m : Marks). Makes told mid new HasBlocks (Cuts id m size)) same made

pub returns-in-Ok-save-2-clause-goes : goal.returns-in-Ok-save-2-clause-goes
returns-in-Ok-save-2-clause-goes g c =
    goes-both g.P.Pairs.told c.args.pairs.now c.cut.new.pairs c.save-then-is_cut.new.pairs 2 1 3 (omega arith)
    (goes-both g.P.Pairs.told c.args.pairs.now c.load_live.new.pairs c.cut.new.pairs 0 2 2 (omega arith) c.load_live.ensures.goes
    c.cut.ensures.goes) c.save-then-is_cut.ensures.goes

pub returns-in-Ok-save-2-clause-ok : goal.returns-in-Ok-save-2-clause-ok
returns-in-Ok-save-2-clause-ok g c =
    let i = c.in-Ok.inode in
    let P : Versions → Type 0 = λ v. Holds inode_of (row v Live (InodeKey c.args.id)) (Some i) in
    let Q : Versions → Versions → Type 0 = Cuts c.args.id (marks_of i.head) c.args.size in
    let saves = saves-so g.P.Pairs.told c.cut.new.pairs c.save-then-is_cut.new.pairs c.args.id i c.in-Some.head
    (cut c.args.size i.head)
    c.in-Some.ensures.some c.in-Ok-save-2.ensures.ok in
    saved-behind g.P.Pairs.told c.args.pairs.now c.cut.new.pairs c.save-then-is_cut.new.pairs 2 c.args.id
    (record i { head = cut c.args.size i.head }) (λ v z. P v × Q v z)
    (goes-both g.P.Pairs.told c.args.pairs.now c.load_live.new.pairs c.cut.new.pairs 0 2 2 (omega arith) c.load_live.ensures.goes
    c.cut.ensures.goes) c.save-then-is_cut.ensures.goes
    (makes-read g.P.Pairs.told c.args.pairs.now c.load_live.new.pairs P c.load_live.ensures.goes c.in-Ok.ensures.record
    c.cut.new.pairs 2 Q c.cut.ensures.goes
    (cut-made g.P.Pairs.told c.load_live.new.pairs c.cut.new.pairs c.args.id c.args.size (as_marks c.of-marks.result)
    (marks_of i.head)
    c.in-Ok-cut.is_cut c.of-marks.ensures c.if-is_cut.true c.in-Ok-cut.ensures.ok))
    (λ v y is. is.1.leaves.has.lives) (MaySize c.args.id) (edit_node c.args.id (set_size c.args.size)) saves
    (λ v y t shows is may.
    cut-shown c.args.size v t c.args.id i c.ranges.id.fits shows may.fill is.0 y (omega arith) is.1 saves.again)

pub returns-then-is_cut-clause-goes : goal.returns-then-is_cut-clause-goes
returns-then-is_cut-clause-goes g c =
    goes-both g.P.Pairs.told c.args.pairs.now c.cut.new.pairs c.save-then-is_cut.new.pairs 2 1 3 (omega arith)
    (goes-both g.P.Pairs.told c.args.pairs.now c.load_live.new.pairs c.cut.new.pairs 0 2 2 (omega arith) c.load_live.ensures.goes
    c.cut.ensures.goes) c.save-then-is_cut.ensures.goes

pub returns-then-is_cut-clause-fault : goal.returns-then-is_cut-clause-fault
returns-then-is_cut-clause-fault g c =
    let i = c.in-Ok.inode in
    let P : Versions → Type 0 = λ v. Holds inode_of (row v Live (InodeKey c.args.id)) (Some i) in
    let Q : Versions → Versions → Type 0 = Cuts c.args.id (marks_of i.head) c.args.size in
    up-saved g.P.Pairs.told c.args.pairs.now c.cut.new.pairs c.save-then-is_cut.new.pairs 2 c.args.id i (λ v z. P v × Q v z)
    (goes-both g.P.Pairs.told c.args.pairs.now c.load_live.new.pairs c.cut.new.pairs 0 2 2 (omega arith) c.load_live.ensures.goes
    c.cut.ensures.goes) c.save-then-is_cut.ensures.goes
    (makes-read g.P.Pairs.told c.args.pairs.now c.load_live.new.pairs P c.load_live.ensures.goes c.in-Ok.ensures.record
    c.cut.new.pairs 2 Q c.cut.ensures.goes
    (cut-made g.P.Pairs.told c.load_live.new.pairs c.cut.new.pairs c.args.id c.args.size (as_marks c.of-marks.result)
    (marks_of i.head)
    c.in-Ok-cut.is_cut c.of-marks.ensures c.if-is_cut.true c.in-Ok-cut.ensures.ok))
    (λ v y is. is.1.leaves.has.lives) (MaySize c.args.id) c.in-Err-save-2.fault c.in-Err-save-2.ensures.fault
