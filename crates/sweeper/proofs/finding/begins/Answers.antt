-- A text that begins with the front is the front and a rest.
use Rattle.std.proofs.Common.{◌≡◌, true, false, sym, ◌∙◌}
use Rattle.std.specs.Prelude.{length, drop}
use Rattle.std.proofs.lemmas.Bool.Decides.{Decides-eqb}
use Rattle.std.proofs.lemmas.Slice.Eq.{starts_is}
use Rattle.sweeper.proofs.finding.begins.Goals as goal

true-false : true ≡ false → ⊥
true-false e = cc

pub returns-clause-some : goal.returns-clause-some
returns-clause-some c =
    λ is. (
      drop (length c.args.front.now) c.args.key.now,
      (starts_is Decides-eqb c.args.key.now c.args.front.now c.starts_with.result c.starts_with.ensures.value).0 is,
    )

pub returns-clause-none : goal.returns-clause-none
returns-clause-none c =
    λ is rest same. true-false
    (sym ((starts_is Decides-eqb c.args.key.now c.args.front.now c.starts_with.result c.starts_with.ensures.value).1 rest same)
    ∙ is)
