-- Journals, the newest entry first: the entries of one pass, and what the stores began with.
use Rattle.std.specs.Prelude.{ℕ, ◌==◌, Bool, false, if◌then◌else◌, List, [], ◌∷◌}
use Rattle.page_types.specs.declared.journal.JEntry.{JEntry}
use Rattle.page_types.specs.declared.journal.JEntry.TheVariants.{Took, Doubted, Late}

-- the stores, counted from 0 up to this number, and the page that lies in slot 0 of store 0 from the start
pub record Origin : Type 0 where
  pub stores : ℕ
  pub first : List ℕ

-- whether the pass asked; nobody asked for what was settled late, which its pass had asked before
abbrev pub is_of : ℕ → JEntry → Bool
is_of pass (Took asker store command answer) = asker == pass
is_of pass (Doubted asker store command) = asker == pass
is_of pass (Late store command answer) = false

-- the entries of a pass
abbrev pub own : ℕ → List JEntry → List JEntry
own pass [] = []
own pass (e ∷ es) = if is_of pass e then e ∷ own pass es else own pass es
