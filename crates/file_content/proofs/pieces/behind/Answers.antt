use Rattle.std.proofs.Common.{◌<◌, length, arith}
use Rattle.file_content.proofs.PieceLaws.{behind_some}
use Rattle.file_content.proofs.pieces.behind.Goals as goal

pub returns-clause-all : goal.returns-clause-all
returns-clause-all c =
    let within : c.place_of-place.result.index < length c.args.pieces.now = omega (arith, c.place_of-place.ensures.within) in
    behind_some _ _ _ _ _ _ c.place_of-place.ensures.at within (c.place_of-place.ensures.inside within) c.index-pieces-place.is
    c.in_ok-part.ensures
