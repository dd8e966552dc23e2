use Rattle.nfs3_res.proofs.Handles.{handle_short}
use Rattle.nfs3_res.proofs.texts.post_op_handle_size.Goals as goal

pub post_op_handle_size-requires : goal.post_op_handle_size-requires
post_op_handle_size-requires c = handle_short c.args.handle.now c.requires
