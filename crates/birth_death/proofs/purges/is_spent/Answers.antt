use Rattle.std.proofs.Common.{◌≡◌, ◌==◌, ◌&&◌, false, nat_le, nat_lt, refl, arith, rules, tests}
use Rattle.std.proofs.lemmas.Grind.{common_steps}
use Rattle.std.proofs.lemmas.Iterator.{YieldsList-from_slice}
use Rattle.std.proofs.lemmas.Iterator.Search.{any_from_yields_List}
use Rattle.std.specs.List.{list_any}
use Rattle.pairs.specs.Lives.{never}
use Rattle.birth_death.proofs.purges.is_spent.Goals as goal

pub returns-then-q : goal.returns-then-q
returns-then-q c =
    let q = c.args.q.now in
    let dead : (q.death == never) ≡ false = grind (arith, common_steps, c.if-q.true) in
    let seen : c.any.result ≡ list_any (λ n. nat_le q.birth n && nat_lt n q.death) c.args.kept.now =
    any_from_yields_List _ _ _ c.any.result c.any.ensures.ran (YieldsList-from_slice c.args.kept.now cc)
    (λ x b q k. search (rules, tests)) in
    rw (dead, seen) refl
