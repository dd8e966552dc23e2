-- What is given of the versions where a change of one key is right, and of the records that it edits.
use Rattle.std.specs.Prelude.{ℕ, ◌≡◌, List, Option, Some}
use Rattle.pair_types.specs.declared.quad.Quad.{Quad}
use Rattle.pairs.specs.Lives.{born, spent, life_of}
use Rattle.pairs.specs.Versions.{Versions, HasLives, CanPut, epoch}
use Rattle.btree_page.specs.Content.{Bound}
use Rattle.btree_edit.specs.Edits.{Lacks}

-- a record is at a place
abbrev pub Has : Bound → List Quad → Type 0
Has pair quads = Lacks pair quads → ⊥

-- a value may be put as this record, where the live value of its key was born then
pub record PutsAs (q : Quad) (birth : Option ℕ) (v : Versions) : Type 0 where
  pub can : CanPut q.key q.value v
  pub epoch : q.birth ≡ epoch v
  pub born : born (v.lives q.key) ≡ birth

-- the live value of a key was born then, and ends as of this epoch
pub record Dies (key : List ℕ) (birth now : ℕ) (v : Versions) : Type 0 where
  pub lives : HasLives v
  pub epoch : now ≡ epoch v
  pub born : born (v.lives key) ≡ Some birth

-- a record is the first of its key that is dead and unseen by these numbers
pub record GoesFirst (kept : List ℕ) (q : Quad) (v : Versions) : Type 0 where
  pub lives : HasLives v
  pub first : spent kept (v.lives q.key) ≡ Some (life_of q)
