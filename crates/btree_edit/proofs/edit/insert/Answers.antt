use Rattle.std.proofs.Common.{⊎_elim}
use Rattle.btree_edit.proofs.Tops.{put_any}
use Rattle.btree_edit.proofs.edit.insert.Goals as goal

pub returns-in-Ok-clause-inserted : goal.returns-in-Ok-clause-inserted
returns-in-Ok-clause-inserted g c = ⊎_elim (λ h. h.0) (λ none. absurd none) (put_any _ _ _ _ _ c.in-Ok.ensures)

pub returns-in-Ok-clause-root : goal.returns-in-Ok-clause-root
returns-in-Ok-clause-root g c = ⊎_elim (λ h. h.1) (λ none. absurd none) (put_any _ _ _ _ _ c.in-Ok.ensures)
