use Rattle.std.proofs.Common.{ℕ, List, ap, take, ◌-◌, ◌∙◌, ◌++◌}
use Rattle.file_content.proofs.Cuts.{read_piece_is}
use Rattle.file_content.proofs.piece.Piece.read.Goals as goal

pub returns : goal.returns
returns c =
    read_piece_is _ _ _ _ _ _ _ _ _ _ _ _ c.self.view_is c.deref.ensures.value c.saturating_sub.ensures c.min-zeros.ensures
    c.saturating_sub-2.ensures
    c.in_ok-put_zeros.ensures
    (c.in_ok-extend_from_slice.ensures.items
    ∙ ap (λ (l : List ℕ). c.put_zeros.new.out.items ++ l) (c.start.ensures
    ∙ ap (λ (l : List ℕ). take (c.args.count - c.min-zeros.result) l) c.rest-rest.ensures))
