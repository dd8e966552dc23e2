use Rattle.std.proofs.Common.{ap, arith}
use Rattle.std.proofs.lemmas.Result.{on_ok_weaker, IfErr-weaker}
use Rattle.pair_types.specs.declared.quad.Quad.{Quad}
use Rattle.btree_search.proofs.Walks.{only_then}
use Rattle.btree_edit.proofs.States.{goes_only, goes_then}
use Rattle.pairs.specs.Versions.{HasLives, CanPut}
use Rattle.birth_death.proofs.Causes.{gives-up-given, gives-up-put, memory-gives-up}
use Rattle.birth_death.proofs.Finding.{gives-up-then}
use Rattle.birth_death.proofs.Putting.{record-fits, put-finds, put-moves, put-fails}
use Rattle.birth_death.proofs.Rooting.{keeps-reads-then}
use Rattle.birth_death.proofs.edits.put.Goals as goal

pub returns-in-Err-clause-goes_on : goal.returns-in-Err-clause-goes_on
returns-in-Err-clause-goes_on g c = goes_only _ _ c.in-Err.ensures.only_reads

pub returns-in-Err-clause-fault : goal.returns-in-Err-clause-fault
returns-in-Err-clause-fault g c =
    gives-up-put (g.G.Pages.state c.args.pages.now) (g.G.Pages.state c.epoch.new.pages)
    (CanPut c.args.key.now c.args.value.now) c.in-Err.fault
    (gives-up-given (g.G.Pages.state c.args.pages.now) (g.G.Pages.state c.epoch.new.pages) HasLives
    (CanPut c.args.key.now c.args.value.now) c.in-Err.fault (λ v can. can.lives) c.in-Err.ensures.fault)

pub returns-in-Err-born-clause-goes_on : goal.returns-in-Err-born-clause-goes_on
returns-in-Err-born-clause-goes_on g c =
    goes_then _ _ _ (goes_only _ _ c.in-Ok.ensures.only_reads) (goes_only _ _ c.in-Err-born.ensures.only_reads)

pub returns-in-Err-born-clause-fault : goal.returns-in-Err-born-clause-fault
returns-in-Err-born-clause-fault g c =
    gives-up-put (g.G.Pages.state c.args.pages.now) (g.G.Pages.state c.born.new.pages)
    (CanPut c.args.key.now c.args.value.now) c.in-Err-born.fault
    (gives-up-then (g.G.Pages.state c.args.pages.now) (g.G.Pages.state c.epoch.new.pages)
    (g.G.Pages.state c.born.new.pages) (CanPut c.args.key.now c.args.value.now) HasLives c.in-Err-born.fault
    (record { only = c.in-Ok.ensures.only_reads; finds = λ under v agrees shows can. can.lives })
    c.in-Err-born.ensures.only_reads.extends c.in-Err-born.ensures.fault)

pub put_record-requires-clause-record_fits : goal.put_record-requires-clause-record_fits
put_record-requires-clause-record_fits g c =
    record-fits c.args.key.now c.args.value.now c.in-Ok.now c.in-Ok-new_record.q c.in-Ok-new_record.ensures
    c.requires.key c.requires.value

pub put_record-requires-clause-lives : goal.put_record-requires-clause-lives
put_record-requires-clause-lives g c = ap (λ (q : Quad). q.death) c.in-Ok-new_record.ensures

pub put_record-requires-clause-store : goal.put_record-requires-clause-store
put_record-requires-clause-store g c =
    omega (
      arith,
      c.in-Ok.ensures.only_reads.lasts.stores,
      c.in-Ok-born.ensures.only_reads.lasts.stores,
      c.requires.store,
    )

pub returns-in-Ok-new_record-clause-goes_on : goal.returns-in-Ok-new_record-clause-goes_on
returns-in-Ok-new_record-clause-goes_on g c =
    goes_then _ _ _ (goes_only _ _ (only_then _ _ _ c.in-Ok.ensures.only_reads c.in-Ok-born.ensures.only_reads))
    c.put_record.ensures.goes_on

pub returns-in-Ok-new_record-clause-ok : goal.returns-in-Ok-new_record-clause-ok
returns-in-Ok-new_record-clause-ok g c =
    let found = put-finds _ _ _ c.args.key.now c.args.value.now c.in-Ok.now c.in-Ok-born.birth
    c.in-Ok.ensures.only_reads
    c.in-Ok-born.ensures.only_reads c.in-Ok.ensures.found c.in-Ok-born.ensures.found in
    on_ok_weaker c.put_record.result
    (put-moves _ _ _ c.args.key.now c.args.value.now c.in-Ok.now c.in-Ok-born.birth c.in-Ok-new_record.q
    c.in-Ok-new_record.ensures found c.put_record.ensures.goes_on)
    c.put_record.ensures.ok

pub returns-in-Ok-new_record-clause-root : goal.returns-in-Ok-new_record-clause-root
returns-in-Ok-new_record-clause-root g c =
    on_ok_weaker c.put_record.result
    (keeps-reads-then (g.G.Pages.state c.args.pages.now) (g.G.Pages.state c.born.new.pages)
    (g.G.Pages.state c.put_record.new.pages) 1 (only_then _ _ _ c.in-Ok.ensures.only_reads
    c.in-Ok-born.ensures.only_reads)) c.put_record.ensures.root

pub returns-in-Ok-new_record-clause-fault : goal.returns-in-Ok-new_record-clause-fault
returns-in-Ok-new_record-clause-fault g c =
    let found = put-finds _ _ _ c.args.key.now c.args.value.now c.in-Ok.now c.in-Ok-born.birth
    c.in-Ok.ensures.only_reads
    c.in-Ok-born.ensures.only_reads c.in-Ok.ensures.found c.in-Ok-born.ensures.found in
    IfErr-weaker c.put_record.result _ _
    (λ fault fails. put-fails _ _ _ c.args.key.now c.args.value.now c.in-Ok.now c.in-Ok-born.birth c.in-Ok-new_record.q
    fault c.in-Ok-new_record.ensures found
    c.put_record.ensures.goes_on fails)
    c.put_record.ensures.fault

pub returns-in-Err-new_record-clause-goes_on : goal.returns-in-Err-new_record-clause-goes_on
returns-in-Err-new_record-clause-goes_on g c =
    goes_then _ _ _ (goes_only _ _ c.in-Ok.ensures.only_reads) (goes_only _ _ c.in-Ok-born.ensures.only_reads)

pub returns-in-Err-new_record-clause-fault : goal.returns-in-Err-new_record-clause-fault
returns-in-Err-new_record-clause-fault g c =
    gives-up-put (g.G.Pages.state c.args.pages.now) (g.G.Pages.state c.born.new.pages)
    (CanPut c.args.key.now c.args.value.now) c.from.result
    (memory-gives-up (g.G.Pages.state c.args.pages.now) (g.G.Pages.state c.born.new.pages)
    (CanPut c.args.key.now c.args.value.now) c.from.result c.from.ensures)
