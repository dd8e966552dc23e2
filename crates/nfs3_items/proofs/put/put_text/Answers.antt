use Rattle.nfs3_types.specs.Calls.{text}
use Rattle.nfs3_items.proofs.put.put_text.Goals as goal

pub returns : goal.returns
unfolding text
returns c = c.put_opaque.ensures.puts _
