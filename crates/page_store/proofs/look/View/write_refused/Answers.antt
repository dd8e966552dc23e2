use Rattle.std.proofs.Common.{◌≡◌, ◌∙◌, ap, Option, Bool}
use Rattle.page_types.specs.declared.outcome.Outcome.{Outcome}
use Rattle.page_store.specs.Changes.{settled_write}
use Rattle.page_store.specs.Keeps.{state}
use Rattle.page_store.specs.Steps.{seen}
use Rattle.page_store.proofs.Refusing.{crossed_over, write_crossed}
use Rattle.page_store.proofs.look.View.write_refused.Goals as goal

pub returns-in-None : goal.returns-in-None
returns-in-None c =
    let s = state (seen c.args.self.now) in
    let x = c.args.x.now in
    write_crossed c.crossed.result s x
    (c.in-None.ensures ∙ (ap (λ (d : Option Outcome). settled_write d c.has_ended.result) c.outcome.ensures ∙
    ap (λ (e : Bool). settled_write (((seen c.args.self.now).party x.tid).outcome) e) c.has_ended.ensures))
    (crossed_over c.crossed.result s x.tid c.as_slice.result.now x.reads c.as_slice-in-None.result.now x.writes
    c.as_slice.ensures c.as_slice-in-None.ensures c.crossed.ensures.answer)
    c.crossed.ensures.plain
