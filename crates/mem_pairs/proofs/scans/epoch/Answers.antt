use Rattle.std.proofs.Common.{ℕ, List, Some, sym, ap, ◌∙◌}
use Rattle.pairs.specs.declared.at.At.TheVariants.{Live}
use Rattle.pairs.specs.Versions.{epoch_in, epoch_key}
use Rattle.mem_pairs.proofs.ReadsLaws.{epoch_none, seen_first}
use Rattle.mem_pairs.proofs.scans.epoch.Goals as goal

pub returns-in_default : goal.returns-in_default
returns-in_default c = epoch_none c.args.rows.now c.in_default.ensures.first

pub returns : goal.returns
returns c =
    ap epoch_in (seen_first Live epoch_key c.args.rows.now c.in-Some.place c.index-rows-place.result
    c.in-Some.ensures.first c.index-rows-place.is)
    ∙ (ap (λ (bytes : List ℕ). epoch_in (Some bytes)) (sym c.value.ensures.value) ∙ sym c.first_number.ensures)
