-- Steps of an object, each of which does a part.
use Rattle.std.specs.Prelude.{List, [], ◌++◌}

-- Staying is a step that does nothing, and two steps in a row are one step that does their parts in a row.
pub record Composes {S X : Type 0} (Step : S → S → List X → Type 0) : Type 0 where
  pub nothing : (here : S) → Step here here []
  pub in_a_row : (old mid now : S) (p q : List X) → Step old mid p → Step mid now q → Step old now (p ++ q)
