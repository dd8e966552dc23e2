use Rattle.std.proofs.Common.{◌≡◌, ◌∙◌, List, [], ◌∷◌, ◌++◌, None, sym, ap}
use Rattle.page_store.specs.declared.patch.Patch.{Patch}
use Rattle.page_store.specs.declared.row.Change.{Change}
use Rattle.page_store.specs.Keeps.{Keeps, first_keeps}
use Rattle.page_store.specs.Steps.{under}
use Rattle.page_store.proofs.Storing.{first_put}
use Rattle.page_store.proofs.store.first_shelf.Goals as goal

pub returns : goal.returns
returns c =
    let patch : Patch = record { rows = c.push.new.self; party = None; next = 1 } in
    record {
      kept =
          c.adopt.ensures.under
          ∙ ap (λ (k : Keeps). under patch k) (c.in_ok-make_room.ensures.same ∙ c.new-shelf.ensures)
          ∙ first_put _ _ (c.in_ok-push.ensures.items
          ∙ ap (λ (l : List Change). l ++ (c.first_change.result ∷ [])) c.in_ok-rows.ensures.items
          ∙ ap (λ (x : Change). x ∷ []) c.first_change.ensures)
          ∙ ap first_keeps (sym c.in-Some.is);
    }
