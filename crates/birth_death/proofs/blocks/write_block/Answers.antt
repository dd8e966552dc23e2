use Rattle.std.proofs.Common.{◌≡◌, List, ℕ, Some, sym, ◌∙◌}
use Rattle.std.proofs.lemmas.Result.{on_ok_weaker}
use Rattle.btree_edit.proofs.States.{goes_same}
use Rattle.pairs.specs.Versions.{IsBlock}
use Rattle.birth_death.proofs.Blocking.{block-moves}
use Rattle.birth_death.proofs.Causes.{memory-gives-up}
use Rattle.birth_death.proofs.Rooting.{keeps-still}
use Rattle.birth_death.proofs.blocks.write_block.Goals as goal

same-part : (page part x : List ℕ) → page ≡ part → Some part ≡ Some x → x ≡ page
same-part page part x made is = let same : part ≡ x = cc in sym same ∙ sym made

pub returns-in-Ok-clause-ok : goal.returns-in-Ok-clause-ok
returns-in-Ok-clause-ok g c =
    on_ok_weaker c.write_page.result
    (block-moves _ _ c.args.s c.in-Ok.page (Some c.args.part.now)
    (λ x is. same-part c.in-Ok.page c.args.part.now x c.in-Ok.ensures is))
    c.write_page.ensures.ok

pub returns-in-Err-clause-goes_on : goal.returns-in-Err-clause-goes_on
returns-in-Err-clause-goes_on g c = goes_same _

pub returns-in-Err-clause-root : goal.returns-in-Err-clause-root
returns-in-Err-clause-root g c = keeps-still _

pub returns-in-Err-clause-fault : goal.returns-in-Err-clause-fault
returns-in-Err-clause-fault g c =
    memory-gives-up (g.G.Pages.state c.args.pages.now) (g.G.Pages.state c.args.pages.now)
    (IsBlock c.args.s) c.from.result c.from.ensures
