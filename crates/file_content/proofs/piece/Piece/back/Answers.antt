use Rattle.std.proofs.Common.{◌∙◌}
use Rattle.file_content.proofs.Cuts.{back_is}
use Rattle.file_content.proofs.piece.Piece.back.Goals as goal

pub returns : goal.returns
returns c =
    back_is _ _ _ _ _ _ _ _ c.self.view_is c.deref.ensures.value c.saturating_sub.ensures c.saturating_sub-2.ensures
    (c.in_ok-from_slice.ensures.items ∙ c.rest-kept.ensures)
