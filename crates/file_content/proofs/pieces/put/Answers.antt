use Rattle.std.proofs.Common.{ap, ◌∙◌}
use Rattle.std.specs.List.{concat}
use Rattle.file_content.proofs.PieceLaws.{concat_push}
use Rattle.file_content.proofs.pieces.put.Goals as goal

pub returns-in_ok-push : goal.returns-in_ok-push
returns-in_ok-push c = ap concat c.in_ok-push.ensures.items ∙ concat_push c.args.pieces.now.items c.args.piece
