use Rattle.file_content.proofs.ContentLaws.{size_is_length}
use Rattle.file_content.proofs.content.Content.len.Goals as goal

pub returns : goal.returns
returns c = size_is_length _ _ _ c.self.view_is
