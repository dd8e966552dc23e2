use Rattle.nfs3_types.specs.Handles.{file_handle}
use Rattle.nfs3_items.proofs.put.put_handle.Goals as goal

pub returns : goal.returns
unfolding file_handle
returns c = c.put_opaque.ensures.puts _
