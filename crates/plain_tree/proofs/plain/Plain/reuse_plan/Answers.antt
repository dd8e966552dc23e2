use Rattle.std.proofs.Common.{◌≡◌, false, rules, sym}
use Rattle.fs_rules.specs.Places.{Object}
use Rattle.fs_rules.specs.Setting.{lacks_cuts}
use Rattle.plain_tree.specs.Trees.{tree_of}
use Rattle.plain_tree.proofs.Standing.{at_has}
use Rattle.plain_tree.proofs.plain.Plain.reuse_plan.Goals as goal

pub returns-clause-cuts : goal.returns-clause-cuts
returns-clause-cuts c =
    let enough : lacks_cuts c.size_over-size.result c.in-Some.file ≡ false = search rules in
    at_has (λ (o : Object). lacks_cuts c.size_over-size.result o ≡ false) (tree_of c.args.self.now) c.args.e.now.fileid
    c.in-Some.file
    (sym c.in-Some.ensures) enough
