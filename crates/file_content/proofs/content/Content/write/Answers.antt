use Rattle.file_content.proofs.ContentLaws.{write_is, write_within}
use Rattle.std.proofs.Common.{ℕ, ap, ◌∙◌, subst, sym, length, ◌≤◌}
use Rattle.std.specs.List.{concat}
use Rattle.file_content.specs.Content.{resized}
use Rattle.file_content.proofs.content.Content.write.Goals as goal

pub invariant_of-self-2 : goal.invariant_of-self-2
invariant_of-self-2 c =
    subst (λ (n : ℕ). length (concat c.write.new.pieces.items) ≤ n) (sym c.max-self-inside.ensures)
    (write_within _ _ _ _ _ c.self.invariant c.in_ok-write.ensures.ok)

pub returns-clause-ok : goal.returns-clause-ok
returns-clause-ok c =
    ap (λ (n : ℕ). resized n (concat c.write.new.pieces.items)) c.max-self-inside.ensures
    ∙ write_is _ _ _ _ _ _ c.self.invariant c.self.view_is c.in_ok-write.ensures.ok
