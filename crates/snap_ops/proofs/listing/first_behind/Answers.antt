-- What follows the key of the number says which snapshot follows it.
use Rattle.std.proofs.Common.{◌≡◌, ◌∙◌}
use Rattle.std.proofs.lemmas.Result.{IfOk-weaker, IfErr-weaker}
use Rattle.fs_rules.specs.Sound.{IsSound}
use Rattle.fs_keys.specs.declared.key_parts.KeyParts.TheVariants.{Snapshot}
use Rattle.fs_keys.specs.Keys.{key_of}
use Rattle.fs_shows.proofs.Doing.{goes-none, up-read, up-memory}
use Rattle.snap_ops.proofs.Following.{none-reads, next-reads, next-up}
use Rattle.snap_ops.proofs.listing.first_behind.Goals as goal

pub returns-in-Err-clause-goes : goal.returns-in-Err-clause-goes
returns-in-Err-clause-goes g c = goes-none g.P.Pairs.told c.args.pairs.now

pub returns-in-Err-clause-fault : goal.returns-in-Err-clause-fault
returns-in-Err-clause-fault g c = up-memory g.P.Pairs.told c.args.pairs.now c.args.pairs.now IsSound c.from.result c.from.ensures

pub returns-in-Err-next_at-clause-fault : goal.returns-in-Err-next_at-clause-fault
returns-in-Err-next_at-clause-fault g c = up-read g.P.Pairs.told c.args.pairs.now c.next_at.new.self IsSound
    c.in-Err-next_at.fault c.in-Err-next_at.ensures.fault

pub returns-clause-ok : goal.returns-clause-ok
returns-clause-ok g c =
    let is : c.as_slice.result.now ≡ key_of (Snapshot c.args.number) = c.as_slice.ensures ∙ c.in-Ok.ensures in
    none-reads g.P.Pairs.told c.args.pairs.now c.next_at.new.self c.args.number c.ranges.number.fits
    (rw c.in-None.is at (rw is at c.in-Ok-next_at.ensures.ok))

pub returns-in-Some-clause-ok : goal.returns-in-Some-clause-ok
returns-in-Some-clause-ok g c =
    let is : c.as_slice.result.now ≡ key_of (Snapshot c.args.number) = c.as_slice.ensures ∙ c.in-Ok.ensures in
    IfOk-weaker c.entry_said.result _ _
    (λ found says. next-reads g.P.Pairs.told c.args.pairs.now c.next_at.new.self c.args.number c.ranges.number.fits
    c.in-Some.pair.0 c.in-Some.pair.1 found
    (rw c.in-Some.is at (rw is at c.in-Ok-next_at.ensures.ok)) says)
    c.entry_said.ensures.ok

pub returns-in-Some-clause-fault : goal.returns-in-Some-clause-fault
returns-in-Some-clause-fault g c =
    let is : c.as_slice.result.now ≡ key_of (Snapshot c.args.number) = c.as_slice.ensures ∙ c.in-Ok.ensures in
    IfErr-weaker c.entry_said.result _ _
    (λ fault up. next-up g.P.Pairs.told c.args.pairs.now c.next_at.new.self c.args.number c.ranges.number.fits
    c.in-Some.pair.0 c.in-Some.pair.1 fault
    (rw c.in-Some.is at (rw is at c.in-Ok-next_at.ensures.ok)) up)
    c.entry_said.ensures.fault
