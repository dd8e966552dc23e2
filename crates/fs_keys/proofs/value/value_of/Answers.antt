use Rattle.std.proofs.Common.{◌≡◌, ◌≤◌, ℕ, List, length, ◌∙◌, ap, subst, sym, rules}
use Rattle.fs_keys.specs.Inodes.{value_of, inode_of, Fits}
use Rattle.fs_keys.proofs.InodeLaws.{inode-again, inode-short}
use Rattle.fs_keys.proofs.value.value_of.Goals as goal

pub returns-clause-again : goal.returns-clause-again
returns-clause-again c =
    let is : c.from_vec.result ≡ value_of c.args.inode.now = search rules in
    let fits : Fits c.args.inode.now = record { head = c.in_ok-put_head.ensures.fits; target = c.requires } in
    ap inode_of is ∙ inode-again c.args.inode.now fits

pub returns-clause-short : goal.returns-clause-short
returns-clause-short c =
    let is : c.from_vec.result ≡ value_of c.args.inode.now = search rules in
    let fits : Fits c.args.inode.now = record { head = c.in_ok-put_head.ensures.fits; target = c.requires } in
    subst (λ (bytes : List ℕ). length bytes ≤ 1113) (sym is) (inode-short c.args.inode.now fits)
