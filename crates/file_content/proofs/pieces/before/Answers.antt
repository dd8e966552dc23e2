use Rattle.std.proofs.Common.{◌<◌, length, arith}
use Rattle.file_content.proofs.PieceLaws.{before_none, before_some}
use Rattle.file_content.proofs.pieces.before.Goals as goal

pub returns-then-place-pieces-clause-all : goal.returns-then-place-pieces-clause-all
returns-then-place-pieces-clause-all c =
    before_none c.place_of-place.result.index _ _ c.args.pieces.now _ _ c.place_of-place.ensures.at (omega arith)
    c.new-part.ensures c.new.ensures.items

pub returns-clause-all : goal.returns-clause-all
returns-clause-all c =
    let within : c.place_of-place.result.index < length c.args.pieces.now = omega (arith, c.place_of-place.ensures.within) in
    before_some _ _ _ _ _ _ c.place_of-place.ensures.at within (c.place_of-place.ensures.inside within) c.index-pieces-place.is
    c.in_ok-part.ensures
