-- How a journal, the newest entry first, grows in one turn.
use Rattle.std.specs.Prelude.{◌≡◌, ℕ, List, [], ◌∷◌, ◌++◌, ⊤}
use Rattle.page_types.specs.declared.journal.JEntry.{JEntry}
use Rattle.page_types.specs.declared.journal.JEntry.TheVariants.{Took, Doubted, Late}

-- the list only gained newer entries
abbrev pub Grew : {A : Type 0} → List A → List A → Type 0
Grew {A} before now = (part : List A) × (now ≡ part ++ before)

-- the entry is of this pass, or was settled late
abbrev pub IsBy : ℕ → JEntry → Type 0
IsBy pass (Took asker store command answer) = asker ≡ pass
IsBy pass (Doubted asker store command) = asker ≡ pass
IsBy pass (Late store command answer) = ⊤

abbrev pub AreBy : ℕ → List JEntry → Type 0
AreBy pass [] = ⊤
AreBy pass (e ∷ es) = IsBy pass e × AreBy pass es

-- the journal only gained entries of this pass, and such as were settled late
pub record GrowsBy (pass : ℕ) (before now : List JEntry) : Type 0 where
  pub part : List JEntry
  pub is : now ≡ part ++ before
  pub by : AreBy pass part
