use Rattle.std.proofs.lemmas.Result.{err_from_is_err_and}
use Rattle.plain_tree.specs.Trees.{tree_of}
use Rattle.plain_tree.proofs.Refusing.{read_dir_fails}
use Rattle.plain_tree.proofs.plain.Plain.read_dir.Goals as goal

pub returns-in_err-page : goal.returns-in_err-page
returns-in_err-page c =
    let p = err_from_is_err_and c.from_residual.result c.from_residual.ensures.1 in
    let h = rw c.as_slice.ensures at c.in_err-page.ensures in
    rw (p.1, p.2) (read_dir_fails (tree_of c.args.self.now) c.args.cred.now c.args.a.now c.in_err-page.field-0.0 h)
