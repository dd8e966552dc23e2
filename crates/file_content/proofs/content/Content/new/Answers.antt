use Rattle.std.proofs.Common.{ℕ, List, ap, ◌∙◌}
use Rattle.std.specs.List.{concat}
use Rattle.file_content.specs.Content.{resized}
use Rattle.file_content.proofs.ContentLaws.{resized_none}
use Rattle.file_content.proofs.content.Content.new.Goals as goal

pub returns : goal.returns
returns c = ap (λ (l : List (List ℕ)). resized 0 (concat l)) c.new.ensures.items ∙ resized_none 0
