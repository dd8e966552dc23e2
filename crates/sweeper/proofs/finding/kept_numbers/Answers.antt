-- Numbers are found one after another, up to the most.
use Rattle.std.proofs.Common.{◌≡◌, ◌∙◌, ap, ◌+◌, ℕ, List, [], ◌∷◌, length, Option, Some, None, sym, subst, arith}
use Rattle.std.proofs.lemmas.List.{length-append}
use Rattle.pairs.specs.Told.{Tells}
use Rattle.fs_rules.specs.Limits.{most_snapshots}
use Rattle.fs_rules.specs.Sound.{IsSound}
use Rattle.fs_shows.proofs.Doing.{up-memory}
use Rattle.sweeper.specs.Rows.{snapshot_front, HasNumbers, NextIn}
use Rattle.sweeper.proofs.Numbered.{HasFound, found-none, found-goes, found-up, found-all, found-more, found-odd}
use Rattle.sweeper.proofs.finding.kept_numbers.Goals as goal

pub numbers-init : goal.numbers-init
numbers-init g c =
    subst (λ (ks : List ℕ). HasFound g.P.Pairs.told c.args.pairs.now c.args.pairs.now ks None) (sym c.new-kept.ensures.items)
    (found-none g.P.Pairs.told c.args.pairs.now)

pub returns-in-Err-clause-goes : goal.returns-in-Err-clause-goes
returns-in-Err-clause-goes g c =
    found-goes g.P.Pairs.told c.args.pairs.now c.numbers.pairs c.next_in.new.pairs c.numbers.kept.items c.numbers.after
    c.numbers.invariant c.next_in.ensures.goes

pub returns-in-Err-clause-fault : goal.returns-in-Err-clause-fault
returns-in-Err-clause-fault g c =
    found-up g.P.Pairs.told c.args.pairs.now c.numbers.pairs c.next_in.new.pairs c.numbers.kept.items c.numbers.after
    c.numbers.invariant c.next_in.ensures.goes c.in-Err.fault c.in-Err.ensures.fault

pub returns-in-None-clause-goes : goal.returns-in-None-clause-goes
returns-in-None-clause-goes g c =
    found-goes g.P.Pairs.told c.args.pairs.now c.numbers.pairs c.next_in.new.pairs c.numbers.kept.items c.numbers.after
    c.numbers.invariant c.next_in.ensures.goes

pub returns-in-None-clause-ok : goal.returns-in-None-clause-ok
returns-in-None-clause-ok g c =
    found-all g.P.Pairs.told c.args.pairs.now c.numbers.pairs c.next_in.new.pairs c.numbers.kept.items c.numbers.after
    c.numbers.invariant c.next_in.ensures.goes
    (subst (λ (o : Option (ℕ × List ℕ)). Tells g.P.Pairs.told c.numbers.pairs c.next_in.new.pairs
    (λ v. HasNumbers snapshot_front v → NextIn snapshot_front c.numbers.after o v)) c.in-None.is c.in-Ok.ensures.ok)

pub returns-then-len-ge-MOST_SNAPSHOTS-clause-goes : goal.returns-then-len-ge-MOST_SNAPSHOTS-clause-goes
returns-then-len-ge-MOST_SNAPSHOTS-clause-goes g c =
    found-goes g.P.Pairs.told c.args.pairs.now c.numbers.pairs c.next_in.new.pairs c.numbers.kept.items c.numbers.after
    c.numbers.invariant c.next_in.ensures.goes

pub returns-then-len-ge-MOST_SNAPSHOTS-clause-fault : goal.returns-then-len-ge-MOST_SNAPSHOTS-clause-fault
unfolding most_snapshots
returns-then-len-ge-MOST_SNAPSHOTS-clause-fault g c =
    found-odd g.P.Pairs.told c.args.pairs.now c.numbers.pairs c.next_in.new.pairs c.numbers.kept.items c.numbers.after
    c.numbers.invariant c.next_in.ensures.goes c.in-Some.pair.0 c.in-Some.pair.1
    (subst (λ (o : Option (ℕ × List ℕ)). Tells g.P.Pairs.told c.numbers.pairs c.next_in.new.pairs
    (λ v. HasNumbers snapshot_front v → NextIn snapshot_front c.numbers.after o v)) c.in-Some.is c.in-Ok.ensures.ok)
    (omega (arith, c.if-len-ge-MOST_SNAPSHOTS.true, c.len.ensures, c.numbers.kept.ok))

pub numbers-smaller : goal.numbers-smaller
numbers-smaller g c =
    let more : length c.push_number.new.kept.items ≡ length c.numbers.kept.items + 1 =
    ap length c.in-Ok-push_number.ensures ∙ length-append c.numbers.kept.items (c.in-Some.pair.0 ∷ []) in
    omega (arith, more, c.if-len-ge-MOST_SNAPSHOTS.false, c.len.ensures, c.numbers.kept.ok)

pub numbers-preserved : goal.numbers-preserved
numbers-preserved g c =
    subst (λ (ks : List ℕ). HasFound g.P.Pairs.told c.args.pairs.now c.next_in.new.pairs ks (Some c.in-Some.pair.0))
    (sym c.in-Ok-push_number.ensures)
    (found-more g.P.Pairs.told c.args.pairs.now c.numbers.pairs c.next_in.new.pairs c.numbers.kept.items c.numbers.after
    c.numbers.invariant c.next_in.ensures.goes c.in-Some.pair.0 c.in-Some.pair.1
    (subst (λ (o : Option (ℕ × List ℕ)). Tells g.P.Pairs.told c.numbers.pairs c.next_in.new.pairs
    (λ v. HasNumbers snapshot_front v → NextIn snapshot_front c.numbers.after o v)) c.in-Some.is c.in-Ok.ensures.ok))

pub returns-in-Err-push_number-clause-goes : goal.returns-in-Err-push_number-clause-goes
returns-in-Err-push_number-clause-goes g c =
    found-goes g.P.Pairs.told c.args.pairs.now c.numbers.pairs c.next_in.new.pairs c.numbers.kept.items c.numbers.after
    c.numbers.invariant c.next_in.ensures.goes

pub returns-in-Err-push_number-clause-fault : goal.returns-in-Err-push_number-clause-fault
returns-in-Err-push_number-clause-fault g c =
    up-memory g.P.Pairs.told c.args.pairs.now c.next_in.new.pairs IsSound c.from.result c.from.ensures
