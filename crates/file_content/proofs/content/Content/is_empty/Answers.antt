use Rattle.std.proofs.Common.{ℕ, ap, nat_eq}
use Rattle.file_content.proofs.ContentLaws.{size_is_length}
use Rattle.file_content.proofs.content.Content.is_empty.Goals as goal

pub returns : goal.returns
returns c = ap (λ (n : ℕ). nat_eq n 0) (size_is_length _ _ _ c.self.view_is)
