-- The row of times holds them.
use Rattle.std.proofs.Common.{◌≡◌, ◌∙◌, ap, sym, Some, None}
use Rattle.std.specs.Prelude.{⊤}
use Rattle.pairs.specs.declared.at.At.TheVariants.{Live}
use Rattle.fs_keys.specs.declared.key_parts.KeyParts.TheVariants.{Times}
use Rattle.fs_keys.specs.Values.{times_in}
use Rattle.fs_shows.proofs.Doing.{up-read}
use Rattle.inode_ops.proofs.Loading.{odd-held, odd-said, said-reads}
use Rattle.snap_ops.proofs.Rows.{times-held}
use Rattle.snap_ops.proofs.reading.snapshot_times.Goals as goal

pub returns-in-Err-clause-fault : goal.returns-in-Err-clause-fault
returns-in-Err-clause-fault g c = up-read g.P.Pairs.told c.args.pairs.now c.get_row.new.pairs
    (λ t. ⊤) c.in-Err.fault c.in-Err.ensures.fault

pub returns-in-None-clause-fault : goal.returns-in-None-clause-fault
returns-in-None-clause-fault g c =
    odd-held g.P.Pairs.told c.args.pairs.now c.get_row.new.pairs times_in Live Times c.in-Ok.found c.in-Ok.ensures.ok
    (λ t. ⊤) (λ t. t.snapshot_times) times-held c.in-None.is

pub returns-in-Some-times_of-clause-ok : goal.returns-in-Some-times_of-clause-ok
returns-in-Some-times_of-clause-ok g c =
    let says : times_in c.in-Some.value ≡ Some c.in-Some-times_of.times = ap times_in (sym c.as_slice.ensures)
    ∙ sym c.in-Some-times_of.ensures in
    said-reads g.P.Pairs.told c.args.pairs.now c.get_row.new.pairs times_in Live Times c.in-Ok.found c.in-Ok.ensures.ok
    (λ t. ⊤) (λ t. t.snapshot_times) c.in-Some.value c.in-Some-times_of.times times-held c.in-Some.is says

pub returns-clause-fault : goal.returns-clause-fault
returns-clause-fault g c =
    let says : times_in c.in-Some.value ≡ None = ap times_in (sym c.as_slice.ensures) ∙ sym c.in-None-times_of.ensures in
    odd-said g.P.Pairs.told c.args.pairs.now c.get_row.new.pairs times_in Live Times c.in-Ok.found c.in-Ok.ensures.ok
    (λ t. ⊤) (λ t. t.snapshot_times) c.in-Some.value times-held c.in-Some.is says
