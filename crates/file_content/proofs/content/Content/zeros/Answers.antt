use Rattle.std.proofs.Common.{ℕ, List, ap, ◌∙◌}
use Rattle.std.specs.List.{concat}
use Rattle.file_content.specs.Content.{resized}
use Rattle.file_content.proofs.ContentLaws.{resized_none}
use Rattle.file_content.proofs.content.Content.zeros.Goals as goal

pub returns : goal.returns
returns c = ap (λ (l : List (List ℕ)). resized c.args.size (concat l)) c.new.ensures.items ∙ resized_none c.args.size
