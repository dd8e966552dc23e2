use Rattle.file_content.proofs.ContentLaws.{resize_is}
use Rattle.file_content.proofs.content.Content.resize.Goals as goal

pub returns : goal.returns
returns c = resize_is _ _ _ _ _ c.self.invariant c.self.view_is c.cut.ensures
