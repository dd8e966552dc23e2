use Rattle.std.proofs.Common.{◌≡◌, List, refl, subst}
use Rattle.pair_types.specs.declared.quad.Quad.{Quad}
use Rattle.pairs.specs.declared.at.At.TheVariants.{Live}
use Rattle.pairs.specs.Lives.{seen, lives_of}
use Rattle.pairs.specs.Versions.{epoch_in, epoch_key}
use Rattle.mem_pairs.proofs.ShownLaws.{moves_put}
use Rattle.mem_pairs.proofs.mem_pairs.MemPairsPairs.put.Goals as goal

pub returns-clause-ok : goal.returns-clause-ok
returns-clause-ok c =
    moves_put c.args.self.now (record c.args.self.now { rows = c.put.new.rows }) c.epoch-epoch.result c.args.key.now
    c.args.value.now refl
    (subst (λ (qs : List Quad). epoch_in (seen Live (lives_of qs epoch_key)) ≡ c.epoch-epoch.result)
    c.deref.ensures.value c.epoch-epoch.ensures) c.in_ok-put.ensures
