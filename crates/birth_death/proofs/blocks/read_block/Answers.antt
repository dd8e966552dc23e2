use Rattle.std.proofs.Common.{◌∙◌, List, ℕ, subst}
use Rattle.std.specs.Prelude.{⊤}
use Rattle.pairs.specs.Found.{Fills}
use Rattle.birth_death.proofs.Blocking.{block-read}
use Rattle.birth_death.proofs.Finding.{gives-up}
use Rattle.birth_death.proofs.blocks.read_block.Goals as goal

pub returns-in-Ok-clause-ok : goal.returns-in-Ok-clause-ok
returns-in-Ok-clause-ok g c = λ under v agrees shows has block is.
    subst (λ (x : List ℕ). Fills x c.args.room.now c.fill.new.room c.fill.result)
    (c.as_slice.ensures ∙ block-read _ _ c.args.s c.in-Ok.page block under v c.in-Ok.ensures.page
    c.in-Ok.ensures.only_reads agrees shows is)
    c.fill.ensures

pub returns-in-Err-clause-fault : goal.returns-in-Err-clause-fault
returns-in-Err-clause-fault g c =
    gives-up (g.G.Pages.state c.args.pages.now) (g.G.Pages.state c.load.new.pages) ⊥ (λ _. ⊤) c.in-Err.fault
    (λ none. absurd none) c.in-Err.ensures.fault
