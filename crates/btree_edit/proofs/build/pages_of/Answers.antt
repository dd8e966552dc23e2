use Rattle.std.proofs.Common.{◌<◌, ◌==◌, None, arith, map}
use Rattle.btree_page.specs.Cells.{entry_of}
use Rattle.btree_edit.specs.Made.{size}
use Rattle.btree_edit.proofs.Parting.{short_cells, halves_of, split_any}
use Rattle.btree_edit.proofs.build.pages_of.Goals as goal

pub bytes_of-requires-clause-short : goal.bytes_of-requires-clause-short
bytes_of-requires-clause-short c = short_cells (c.args.level == 0) None (map entry_of c.args.cells.now) c.requires.rules

pub middle_of-requires : goal.middle_of-requires
middle_of-requires c = short_cells (c.args.level == 0) None (map entry_of c.args.cells.now) c.requires.rules

pub build-requires-2 : goal.build-requires-2
build-requires-2 c =
    let full : 8188 < size (map entry_of c.args.cells.now) = omega (arith, c.bytes_of.ensures, c.if-bytes_of-le-CELL_BYTES.false)
    in
    (halves_of c.args.level c.args.cells.now c.split_at.result.0.now c.split_at.result.1.now c.middle_of.result c.requires
    c.middle_of.ensures full c.split_at.ensures.front c.split_at.ensures.back).0

pub build_behind-requires-clause-rules : goal.build_behind-requires-clause-rules
build_behind-requires-clause-rules c =
    let full : 8188 < size (map entry_of c.args.cells.now) = omega (arith, c.bytes_of.ensures, c.if-bytes_of-le-CELL_BYTES.false)
    in
    (halves_of c.args.level c.args.cells.now c.split_at.result.0.now c.split_at.result.1.now c.middle_of.result c.requires
    c.middle_of.ensures full c.split_at.ensures.front c.split_at.ensures.back).1

pub returns : goal.returns
returns c =
    let full : 8188 < size (map entry_of c.args.cells.now) = omega (arith, c.bytes_of.ensures, c.if-bytes_of-le-CELL_BYTES.false)
    in
    split_any c.args.level c.args.cells.now c.split_at.result.0.now c.split_at.result.1.now c.middle_of.result _ c.in_ok-left.left
    c.in_ok-right.right c.two.result c.requires c.middle_of.ensures full c.split_at.ensures.front c.split_at.ensures.back
    c.in_ok-left.ensures c.in_ok-right.ensures c.two.ensures
