use Rattle.std.proofs.Common.{◌∙◌, ◌≡◌, length, arith}
use Rattle.file_content.proofs.ContentLaws.{read_filled}
use Rattle.file_content.proofs.content.Content.read.Goals as goal

pub returns : goal.returns
returns c =
    let long : c.in_ok-bytes.bytes.len ≡ length c.in_ok-bytes.bytes.items = omega arith in
    c.from_vec.ensures
    ∙ read_filled _ _ _ _ _ _ _ _ _ _ _ c.self.invariant c.self.view_is c.deref.ensures.value c.saturating_sub.ensures
    c.min-count.ensures
    c.in_ok-bytes.ensures long c.in_ok-resize.ensures.items
