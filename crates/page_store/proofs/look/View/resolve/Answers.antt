use Rattle.std.proofs.Common.{◌≡◌, ◌∙◌, ap, ℕ, List, map, true}
use Rattle.page_store.specs.declared.party.Party.{Party}
use Rattle.page_store.specs.Changes.{end_change}
use Rattle.page_store.specs.Steps.{seen}
use Rattle.page_store.proofs.Patching.{resolve_done}
use Rattle.page_store.proofs.look.View.resolve.Goals as goal

pub returns : goal.returns
returns c =
    let keeps = seen c.args.self.now in
    let r = c.args.r in
    let same : c.in_ok-party.party ≡ keeps.party r.tid = c.in_ok-party.ensures ∙ c.party.ensures in
    resolve_done keeps r.tid r.commit c.in_ok-rows.rows.items
    (record { outcome = c.in_ok-party.party.outcome; ended = true; numbers = c.new.result })
    c.all.result c.requires.indexed
    (c.in_ok-rows.ensures ∙ ap (λ (l : List ℕ). map (end_change keeps r.tid r.commit) l)
    (c.as_slice.ensures ∙ ap (λ (p : Party). p.numbers) same))
    (λ i. record { outcome = (same i).outcome; ended = true; numbers = c.new.ensures i })
    c.all.ensures.answer c.all.ensures.patch
