-- How far the root of a tree moved since it was read, after so many puts.
use Rattle.std.specs.Prelude.{ℕ, ◌≡◌, ◌⊎◌, ◌+◌, ◌≤◌, length, None, unwrap_or}
use Rattle.pair_types.specs.PageMaps.{page_of, latest}
use Rattle.pair_types.specs.PageState.{PageState}
use Rattle.btree_page.specs.Content.{Content, Spells}
use Rattle.btree_page.specs.Tree.{root}

-- the root page, as it was read, is this one
pub record WasRoot (state : PageState) (content : Content) : Type 0 where
  pub spelled : Spells content (page_of (unwrap_or (state.reads root) None))

-- as it was read, it is as high as roots get
pub record IsHigh (state : PageState) : Type 0 where
  pub content : Content
  pub was : WasRoot state content
  pub highest : content.level ≡ 64

-- it was written: it has the level that it had when it was read, or was raised and has no more cells than two and the puts
pub record IsMoved (puts : ℕ) (state : PageState) : Type 0 where
  pub before : Content
  pub after : Content
  pub was : WasRoot state before
  pub is : Spells after (latest state.writes state.reads root)
  pub moved : (after.level ≡ before.level) ⊎ (length after.cells ≤ 2 + puts)

-- it is as it was read, or moved so
abbrev pub FollowsPuts : ℕ → PageState → Type 0
FollowsPuts puts state = (state.writes root ≡ None) ⊎ IsMoved puts state

-- a call that puts so often
abbrev pub KeepsRoot : ℕ → PageState → PageState → Type 0
KeepsRoot n old new = (puts : ℕ) → FollowsPuts puts old → FollowsPuts (puts + n) new
