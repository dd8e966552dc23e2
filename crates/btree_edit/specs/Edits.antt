-- Edits of a list of records, of one record each.
use Rattle.std.specs.Prelude.{ℕ, ◌≡◌, ◌≢◌, List, ◌∷◌, ◌++◌, All}
use Rattle.pair_types.specs.declared.quad.Quad.{Quad}
use Rattle.btree_page.specs.Content.{Bound}
use Rattle.btree_page.specs.Tree.{quad_bound}

-- the place of a record with this key and birth
abbrev pub bound_at : List ℕ → ℕ → Bound
bound_at key birth = record { key = key; birth = birth }

-- nothing is said of the records
abbrev pub Nothing : List Quad → Type 0
Nothing quads = Unit {0}

-- no record stands at this key and birth
abbrev pub Lacks : Bound → List Quad → Type 0
Lacks pair quads = All (λ r. quad_bound r ≢ pair) quads

-- the record at this key and birth goes; the others stay, in their order
pub record Removes (pair : Bound) (old new : List Quad) : Type 0 where
  pub below : List Quad
  pub gone : Quad
  pub above : List Quad
  pub was : old ≡ below ++ (gone ∷ above)
  pub place : quad_bound gone ≡ pair
  pub now : new ≡ below ++ above

-- this record comes in the place of the one at its key and birth
pub record Replaces (q : Quad) (old new : List Quad) : Type 0 where
  pub below : List Quad
  pub gone : Quad
  pub above : List Quad
  pub was : old ≡ below ++ (gone ∷ above)
  pub place : quad_bound gone ≡ quad_bound q
  pub now : new ≡ below ++ (q ∷ above)

-- the record at this key and birth has this death from now on
pub record Ends (pair : Bound) (death : ℕ) (old new : List Quad) : Type 0 where
  pub below : List Quad
  pub gone : Quad
  pub above : List Quad
  pub was : old ≡ below ++ (gone ∷ above)
  pub place : quad_bound gone ≡ pair
  pub now : new ≡ below ++ ((record gone { death = death }) ∷ above)

-- this record comes in; where it stands, the order of the records says
pub record Inserts (q : Quad) (old new : List Quad) : Type 0 where
  pub below : List Quad
  pub above : List Quad
  pub was : old ≡ below ++ above
  pub now : new ≡ below ++ (q ∷ above)
