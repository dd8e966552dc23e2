-- That a page which is told at a version is the one that was told of it first. Newest entry first.
use Rattle.std.specs.Prelude.{◌≡◌, ℕ, List, Option, Some}
use Rattle.std.specs.List.{Contains}
use Rattle.page_types.specs.declared.journal.JEntry.{JEntry}
use Rattle.page_types.specs.Fair.{told_in, told_first}

-- whatever an entry tells of a page at a version, the first that told of that version told
pub record IsSteady (es : List JEntry) : Type 0 where
  pub same : (e : JEntry) → Contains es e → (store number version : ℕ) (page : Option (List ℕ)) →
      told_in store number version e ≡ Some page → told_first store number version es ≡ Some page
