use Rattle.std.proofs.Common.{◌≡◌, Some, None}
use Rattle.btree_search.proofs.Walks.{only_then}
use Rattle.btree_edit.proofs.States.{goes_same, goes_only, goes_then}
use Rattle.pairs.specs.Versions.{HasLives, with_del}
use Rattle.birth_death.specs.Changes.{Dies}
use Rattle.birth_death.proofs.Ending.{del-finds, del-none-moves, del-was}
use Rattle.birth_death.proofs.Finding.{moves-then, gives-up-then}
use Rattle.birth_death.proofs.Rooting.{keeps-only, keeps-reads-then}
use Rattle.birth_death.proofs.edits.del.Goals as goal

pub returns-in-Err-clause-goes_on : goal.returns-in-Err-clause-goes_on
returns-in-Err-clause-goes_on g c = goes_only _ _ c.in-Err.ensures.only_reads

pub returns-in-Ok-None-clause-goes_on : goal.returns-in-Ok-None-clause-goes_on
returns-in-Ok-None-clause-goes_on g c =
    goes_then _ _ _ (goes_only _ _ c.in-Ok.ensures.only_reads) (goes_only _ _ c.in-Ok-None.ensures.only_reads)

pub returns-in-Ok-None-clause-ok : goal.returns-in-Ok-None-clause-ok
returns-in-Ok-None-clause-ok g c =
    del-none-moves _ _ _ c.args.key.now c.in-Ok.ensures.only_reads c.in-Ok-None.ensures.only_reads
    (rw c.in-Ok-None.field-0-is at c.in-Ok-None.ensures.found)

pub returns-in-Ok-None-clause-was : goal.returns-in-Ok-None-clause-was
returns-in-Ok-None-clause-was g c =
    del-was (g.G.Pages.state c.args.pages.now) (g.G.Pages.state c.epoch.new.pages) (g.G.Pages.state c.born.new.pages)
    (g.G.Pages.state c.born.new.pages) c.args.key.now None c.in-Ok.ensures.only_reads
    (rw c.in-Ok-None.field-0-is at c.in-Ok-None.ensures.found)
    (goes_same _)

pub returns-in-Ok-None-clause-root : goal.returns-in-Ok-None-clause-root
returns-in-Ok-None-clause-root g c =
    keeps-only _ _ (only_then _ _ _ c.in-Ok.ensures.only_reads c.in-Ok-None.ensures.only_reads)

pub returns-in-Err-born-clause-goes_on : goal.returns-in-Err-born-clause-goes_on
returns-in-Err-born-clause-goes_on g c =
    goes_then _ _ _ (goes_only _ _ c.in-Ok.ensures.only_reads) (goes_only _ _ c.in-Err-born.ensures.only_reads)

pub returns-in-Err-born-clause-fault : goal.returns-in-Err-born-clause-fault
returns-in-Err-born-clause-fault g c =
    gives-up-then (g.G.Pages.state c.args.pages.now) (g.G.Pages.state c.epoch.new.pages)
    (g.G.Pages.state c.born.new.pages) HasLives HasLives c.in-Err-born.fault
    (record { only = c.in-Ok.ensures.only_reads; finds = λ under v agrees shows has. has })
    c.in-Err-born.ensures.only_reads.extends c.in-Err-born.ensures.fault

pub returns-in-Ok-end_live-clause-goes_on : goal.returns-in-Ok-end_live-clause-goes_on
returns-in-Ok-end_live-clause-goes_on g c =
    goes_then _ _ _ (goes_only _ _ (only_then _ _ _ c.in-Ok.ensures.only_reads c.in-Ok-Some.ensures.only_reads))
    c.in-Ok-end_live.ensures.goes_on

pub returns-in-Ok-end_live-clause-ok : goal.returns-in-Ok-end_live-clause-ok
returns-in-Ok-end_live-clause-ok g c =
    let found = del-finds _ _ _ c.args.key.now c.in-Ok-Some.birth c.in-Ok.now c.in-Ok.ensures.only_reads
    c.in-Ok-Some.ensures.only_reads
    c.in-Ok.ensures.found (rw c.in-Ok-Some.field-0-is at c.in-Ok-Some.ensures.found) in
    moves-then _ _ _ HasLives (Dies c.args.key.now c.in-Ok-Some.birth c.in-Ok.now) (with_del c.args.key.now) found
    c.in-Ok-end_live.ensures.goes_on.extends c.in-Ok-end_live.ensures.ok

pub returns-in-Ok-end_live-clause-was : goal.returns-in-Ok-end_live-clause-was
returns-in-Ok-end_live-clause-was g c =
    del-was _ _ _ _ c.args.key.now (Some c.in-Ok-Some.birth) c.in-Ok.ensures.only_reads
    (rw c.in-Ok-Some.field-0-is at c.in-Ok-Some.ensures.found)
    c.in-Ok-end_live.ensures.goes_on

pub returns-in-Ok-end_live-clause-root : goal.returns-in-Ok-end_live-clause-root
returns-in-Ok-end_live-clause-root g c =
    keeps-reads-then _ _ _ 0 (only_then _ _ _ c.in-Ok.ensures.only_reads c.in-Ok-Some.ensures.only_reads)
    c.in-Ok-end_live.ensures.root

pub returns-in-Err-end_live-clause-goes_on : goal.returns-in-Err-end_live-clause-goes_on
returns-in-Err-end_live-clause-goes_on g c =
    goes_then _ _ _ (goes_only _ _ (only_then _ _ _ c.in-Ok.ensures.only_reads c.in-Ok-Some.ensures.only_reads))
    c.in-Err-end_live.ensures.goes_on

pub returns-in-Err-end_live-clause-fault : goal.returns-in-Err-end_live-clause-fault
returns-in-Err-end_live-clause-fault g c =
    let found = del-finds _ _ _ c.args.key.now c.in-Ok-Some.birth c.in-Ok.now c.in-Ok.ensures.only_reads
    c.in-Ok-Some.ensures.only_reads
    c.in-Ok.ensures.found (rw c.in-Ok-Some.field-0-is at c.in-Ok-Some.ensures.found) in
    gives-up-then (g.G.Pages.state c.args.pages.now) (g.G.Pages.state c.born.new.pages)
    (g.G.Pages.state c.end_live.new.pages) HasLives (Dies c.args.key.now c.in-Ok-Some.birth c.in-Ok.now)
    c.in-Err-end_live.fault found
    c.in-Err-end_live.ensures.goes_on.extends c.in-Err-end_live.ensures.fault
