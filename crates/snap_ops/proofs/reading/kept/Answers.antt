-- The row of the number holds a name where a snapshot is kept.
use Rattle.std.proofs.Common.{◌≡◌, Bool, subst, sym, is_some}
use Rattle.std.specs.Prelude.{⊤}
use Rattle.fs_rules.specs.Places.{snapshot_numbered}
use Rattle.fs_shows.specs.Steps.{Reads}
use Rattle.fs_shows.proofs.Doing.{up-read}
use Rattle.snap_ops.proofs.Rows.{kept-reads}
use Rattle.snap_ops.proofs.reading.kept.Goals as goal

pub returns-in-Ok-clause-ok : goal.returns-in-Ok-clause-ok
returns-in-Ok-clause-ok g c =
    subst (λ (b : Bool). Reads g.P.Pairs.told c.args.pairs.now c.get_row.new.pairs (λ t. ⊤)
    (λ t. is_some (snapshot_numbered t c.args.number) ≡ b)) (sym c.is_some.ensures)
    (kept-reads g.P.Pairs.told c.args.pairs.now c.get_row.new.pairs c.args.number c.in-Ok.found c.ranges.number.fits
    c.in-Ok.ensures.ok)

pub returns-in-Err-clause-fault : goal.returns-in-Err-clause-fault
returns-in-Err-clause-fault g c = up-read g.P.Pairs.told c.args.pairs.now c.get_row.new.pairs
    (λ t. ⊤) c.in-Err.fault c.in-Err.ensures.fault
