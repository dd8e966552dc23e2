use Rattle.std.proofs.Common.{◌≡◌, List, refl, subst}
use Rattle.pair_types.specs.declared.quad.Quad.{Quad}
use Rattle.pairs.specs.declared.at.At.TheVariants.{Live}
use Rattle.pairs.specs.Lives.{seen, lives_of}
use Rattle.pairs.specs.Versions.{epoch_in, epoch_key}
use Rattle.mem_pairs.proofs.ShownLaws.{moves_del}
use Rattle.mem_pairs.proofs.mem_pairs.MemPairsPairs.del.Goals as goal

pub returns-clause-ok : goal.returns-clause-ok
returns-clause-ok c =
    moves_del c.args.self.now (record c.args.self.now { rows = c.del.new.rows }) c.epoch-epoch.result c.args.key.now
    refl
    (subst (λ (qs : List Quad). epoch_in (seen Live (lives_of qs epoch_key)) ≡ c.epoch-epoch.result)
    c.deref.ensures.value c.epoch-epoch.ensures) c.del.ensures.edits
