use Rattle.std.proofs.Common.{rules}
use Rattle.nfs3_fits.proofs.Contents.{fs_stat_fits_by}
use Rattle.nfs3_fits.proofs.bodies.fs_stat_fits.Goals as goal

pub returns : goal.returns
returns c = fs_stat_fits_by c.args.ok c.post_op_attr_fits.ensures (search rules) (search rules) (search rules) (search rules)
    (search rules) (search rules) (search rules)
