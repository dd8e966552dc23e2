use Rattle.std.proofs.Common.{◌≡◌, ◌∙◌, ap, sym, Option, Some}
use Rattle.nfs3_types.specs.declared.entry.Entry.{Entry}
use Rattle.page_types.specs.declared.outcome.Outcome.TheVariants.{Commit}
use Rattle.page_store.specs.Steps.{seen}
use Rattle.page_store.proofs.Refusing.{none_if}
use Rattle.page_store.proofs.Patching.{write_refused, write_done}
use Rattle.page_store.proofs.look.View.write.Goals as goal

pub returns-in-Some : goal.returns-in-Some
returns-in-Some c =
    write_refused (seen c.args.self.now) c.args.x.now c.only.result c.in-Some.answer
    (sym c.in-Some.is ∙ c.in_ok-answer.ensures) c.only.ensures.answer c.only.ensures.nothing

pub returns : goal.returns
returns c =
    let keeps = seen c.args.self.now in
    let x = c.args.x.now in
    write_done keeps x c.in_ok-rows.rows.items c.in_ok-party.party c.all.result
    (none_if _ c.in_default.not-Some ∙ c.in_ok-answer.ensures)
    c.in_ok-rows.ensures
    (c.in_ok-party.ensures ∙ ap (λ (e : Option Entry). record (keeps.party x.tid) { outcome = Some (Commit e) })
    c.in_ok-copy_entry.ensures)
    c.all.ensures.answer c.all.ensures.patch
