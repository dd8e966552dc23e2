-- The first key behind the place says which number follows.
use Rattle.std.proofs.Common.{◌≡◌, ◌∙◌, sym}
use Rattle.pairs.specs.Versions.{HasLives}
use Rattle.fs_shows.proofs.Doing.{goes-none, memory-up}
use Rattle.sweeper.specs.Rows.{behind}
use Rattle.sweeper.proofs.Nexts.{tells-none, tells-found, tells-other}
use Rattle.sweeper.proofs.finding.next_in.Goals as goal

pub returns-in-Err-clause-goes : goal.returns-in-Err-clause-goes
returns-in-Err-clause-goes g c = goes-none g.P.Pairs.told c.args.pairs.now

pub returns-in-Err-clause-fault : goal.returns-in-Err-clause-fault
returns-in-Err-clause-fault g c =
    memory-up g.P.Pairs.told c.args.pairs.now c.args.pairs.now HasLives c.from.result c.from.ensures

pub returns-in-Err-next_at-clause-goes : goal.returns-in-Err-next_at-clause-goes
returns-in-Err-next_at-clause-goes g c = c.next_at.ensures.goes

pub returns-in-Err-next_at-clause-fault : goal.returns-in-Err-next_at-clause-fault
returns-in-Err-next_at-clause-fault g c = c.in-Err-next_at.ensures.fault

pub returns-in-None-clause-goes : goal.returns-in-None-clause-goes
returns-in-None-clause-goes g c = c.next_at.ensures.goes

pub returns-in-None-clause-ok : goal.returns-in-None-clause-ok
returns-in-None-clause-ok g c =
    let is : c.as_slice.result.now ≡ behind c.args.front.now c.args.after = c.as_slice.ensures.value ∙ c.in-Ok.ensures in
    tells-none g.P.Pairs.told c.args.pairs.now c.next_at.new.self c.args.front.now c.args.after
    (rw c.in-None.is at (rw is at c.in-Ok-next_at.ensures.ok))

pub returns-in-Some-number_in-clause-goes : goal.returns-in-Some-number_in-clause-goes
returns-in-Some-number_in-clause-goes g c = c.next_at.ensures.goes

pub returns-in-Some-number_in-clause-ok : goal.returns-in-Some-number_in-clause-ok
returns-in-Some-number_in-clause-ok g c =
    let is : c.as_slice.result.now ≡ behind c.args.front.now c.args.after = c.as_slice.ensures.value ∙ c.in-Ok.ensures in
    tells-found g.P.Pairs.told c.args.pairs.now c.next_at.new.self c.args.front.now c.args.after c.in-Some.pair.0 c.in-Some.pair.1
    c.in-Some-number_in.number c.in-Some-number_in.ensures.fits
    (sym c.as_slice-2.ensures ∙ c.in-Some-number_in.ensures.some)
    (rw c.in-Some.is at (rw is at c.in-Ok-next_at.ensures.ok))

pub returns-clause-goes : goal.returns-clause-goes
returns-clause-goes g c = c.next_at.ensures.goes

pub returns-clause-ok : goal.returns-clause-ok
returns-clause-ok g c =
    let is : c.as_slice.result.now ≡ behind c.args.front.now c.args.after = c.as_slice.ensures.value ∙ c.in-Ok.ensures in
    tells-other g.P.Pairs.told c.args.pairs.now c.next_at.new.self c.args.front.now c.args.after c.in-Some.pair.0 c.in-Some.pair.1
    (λ rest front. c.number_in.ensures.none c.in-None-number_in.is rest (c.as_slice-2.ensures ∙ front))
    (rw c.in-Some.is at (rw is at c.in-Ok-next_at.ensures.ok))
