use Rattle.std.proofs.Common.{rules, ◌≡◌, ℕ, ◌==◌, if◌then◌else◌, cond, Option, Some, None, IsSome, option_map, refl, subst}
use Rattle.std.proofs.Math.Path.{fun_ext}
use Rattle.std.specs.BTreeMap.{get_by, is_at}
use Rattle.std.specs.Ordering.{nat_cmp}
use Rattle.fs_rules.specs.Making.{gain_name}
use Rattle.plain_nodes.proofs.nodes.Nodes.gain_name.Goals as goal

-- one value is edited
edited : {A : Type 0} (d q : ℕ) (r o x : Option A) (f : A → A) (n : A) → Some n ≡ o
    → r ≡ cond (is_at (nat_cmp d) q) (Some (f n)) x → r ≡ (if q == d then option_map f o else x)
edited d q r (Some o) x f n same is = search (rules, same, is)
edited d q r None x f n same is = absurd cc

pub returns-in_ok-gain_name-clause-ok : goal.returns-in_ok-gain_name-clause-ok
unfolding Rattle.fs_rules.specs.Edits.with_node
returns-in_ok-gain_name-clause-ok c =
    let f = gain_name c.args.kind c.args.name.now c.args.fileid c.args.now in
    let there : IsSome (get_by (nat_cmp c.args.directory) c.args.self.now.map) = subst IsSome c.in-Some.ensures.value refl in
    let u = (c.get_mut.follows.holds (f c.in-Some.node.now)).3 there in
    rw c.in_ok-gain_name.ensures.ok (fun_ext (λ q. edited c.args.directory q _ _ _ f c.in-Some.node.now c.in-Some.ensures.value
    (u.0 q)))
