use Rattle.std.proofs.Common.{◌≡◌, ℕ, true, false, IfSome, rules, subst}
use Rattle.fs_rules.specs.Checks.{is_live}
use Rattle.fs_rules.specs.Places.{Object, fileid_at}
use Rattle.fs_rules.specs.Setting.{lacks_cuts}
use Rattle.plain_nodes.specs.Needs.{HasCuts}
use Rattle.plain_tree.specs.Trees.{tree_of}
use Rattle.plain_tree.proofs.Standing.{live_has}
use Rattle.plain_tree.proofs.plain.Plain.set_attr_plan.Goals as goal

pub returns-clause-cuts : goal.returns-clause-cuts
returns-clause-cuts c =
    let t = tree_of c.args.self.now in
    let size = c.args.a.now.attributes.size in
    let enough : lacks_cuts size c.in_ok-o.o ≡ false = search rules in
    let live : is_live c.in_ok-o.o.place ≡ true = search rules in
    let at : fileid_at c.in_ok-o.o.place ≡ c.fileid.result = search rules in
    subst (λ (f : ℕ). IfSome (t.nodes f) (HasCuts size)) at
    (live_has (λ (o : Object). lacks_cuts size o ≡ false) t c.in_ok-o.o c.in_ok-o.ensures.stands live enough)
