use Rattle.nfs3_res.proofs.Handles.{handle_short}
use Rattle.nfs3_res.proofs.texts.put_post_op_handle.Goals as goal

pub put_post_op_handle-requires : goal.put_post_op_handle-requires
put_post_op_handle-requires c = handle_short c.args.handle.now c.requires
