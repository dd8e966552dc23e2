-- The formed B-tree: what a map from slots to pages stands for, knowing nothing of paths or splits.
-- A relation by recursion on the level, with the list of the slots that are reached as its last part.
use Rattle.std.specs.Prelude.{ℕ, zero, suc, ◌≡◌, ◌≢◌, ◌⊎◌, ◌<◌, ◌≤◌, List, [], ◌∷◌, ◌++◌, length, map, Option, Some, None, IsSome}
use Rattle.std.specs.declared.cmp.Ordering.TheVariants.{Greater}
use Rattle.pair_types.specs.declared.slot.Slot.{Slot}
use Rattle.pair_types.specs.declared.quad.Quad.{Quad}
use Rattle.pair_types.specs.PageMaps.{PageMap}
use Rattle.btree_page.specs.Content.{Bound, bound_cmp, IsBelow, Entry, Content, Spells, leaf_entry, inner_entry}

-- the slot holds a page with this content
pub record Holds (p : PageMap) (slot : Slot) (content : Content) : Type 0 where
  pub bytes : List ℕ
  pub held : p slot ≡ Some bytes
  pub spelled : Spells content bytes

-- a place in a range: not below its low end, and below its high end where it has one
pub record IsIn (low : Bound) (high : Option Bound) (b : Bound) : Type 0 where
  pub from : bound_cmp low b ≢ Greater
  pub to : (end : Bound) → high ≡ Some end → IsBelow b end

abbrev pub AllIn : Bound → Option Bound → List Bound → Type 0
AllIn low high [] = Unit {0}
AllIn low high (b ∷ bs) = IsIn low high b × AllIn low high bs

-- one of the slots
abbrev pub Among : Slot → List Slot → Type 0
Among s [] = ⊥
Among s (t ∷ ts) = (s ≡ t) ⊎ Among s ts

-- no slot is in both lists
pub record Apart (ss ts : List Slot) : Type 0 where
  pub none : (s : Slot) → Among s ss → Among s ts → ⊥

-- ---- leaves

abbrev pub quad_bound : Quad → Bound
quad_bound q = record { key = q.key; birth = q.birth }

abbrev pub quad_cell : Quad → Entry
quad_cell q = leaf_entry q.key q.birth q.death q.value

-- a record within the limits of a page
pub record IsRecord (q : Quad) : Type 0 where
  pub key : length q.key ≤ 264
  pub value : length q.value ≤ 1200

-- a leaf of these quads, which lie in its range
pub record IsLeaf (p : PageMap) (slot : Slot) (low : Bound) (high : Option Bound) (quads : List Quad)
    (slots : List Slot) : Type 0 where
  pub page : Holds p slot (record { level = 0; cells = map quad_cell quads })
  pub within : AllIn low high (map quad_bound quads)
  pub reached : slots ≡ slot ∷ []

-- ---- inner pages

-- a child after the first: the least place of its range, and where it lies
pub record Child : Type 0 where
  pub bound : Bound
  pub slot : Slot

abbrev pub child_cell : Child → Entry
child_cell c = inner_entry c.bound.key c.bound.birth c.slot

-- two neighbours: first the quads and slots of the left one, then those of the right one
pub record Join (Left Right : List Quad → List Slot → Type 0) (quads : List Quad) (slots : List Slot) : Type 0 where
  pub quads_left : List Quad
  pub quads_right : List Quad
  pub slots_left : List Slot
  pub slots_right : List Slot
  pub left : Left quads_left slots_left
  pub right : Right quads_right slots_right
  pub all_quads : quads ≡ quads_left ++ quads_right
  pub all_slots : slots ≡ slots_left ++ slots_right
  pub apart : Apart slots_left slots_right

-- children side by side: each has the range from its bound up to the next one's
abbrev pub Kids : (Slot → Bound → Option Bound → List Quad → List Slot → Type 0)
    → Slot → Bound → List Child → Option Bound → List Quad → List Slot → Type 0
Kids Sub first low [] high = Sub first low high
Kids Sub first low (next ∷ rest) high = Join (Sub first low (Some next.bound)) (Kids Sub next.slot next.bound rest high)

-- an inner page over these children, whose bounds lie in its range
pub record IsInner (Sub : Slot → Bound → Option Bound → List Quad → List Slot → Type 0) (p : PageMap) (level : ℕ) (slot : Slot)
    (low : Bound) (high : Option Bound) (quads : List Quad) (slots : List Slot) : Type 0 where
  pub first : Slot
  pub rest : List Child
  pub below : List Slot
  pub page : Holds p slot (record { level = level; cells = inner_entry [] 0 first ∷ map child_cell rest })
  pub within : AllIn low high (map (λ c. c.bound) rest)
  pub kids : Kids Sub first low rest high quads below
  pub reached : slots ≡ slot ∷ below
  pub apart : Among slot below → ⊥

-- ---- trees

-- the page in this slot and all below it, down to leaves of level 0: they hold these quads of this
-- range, and reach these slots, each once
abbrev pub Subtree : PageMap → ℕ → Slot → Bound → Option Bound → List Quad → List Slot → Type 0
Subtree p zero = IsLeaf p
Subtree p (suc level) = IsInner (Subtree p level) p (suc level)

abbrev pub root : Slot
root = record { store = 0; number = 0 }

-- the least place of all
abbrev pub least : Bound
least = record { key = []; birth = 0 }

-- the map is a B-tree of these quads over so many stores, which reaches these slots
pub record IsFormed (stores : ℕ) (p : PageMap) (quads : List Quad) (slots : List Slot) : Type 0 where
  pub in_range : (s : Slot) → IsSome (p s) → s.store < stores
  pub level : ℕ
  pub height : level ≤ 64
  pub tree : Subtree p level root least None quads slots

-- ---- laws

-- a map that is the same at the slots that a tree reaches has that tree
abbrev pub KeepsTrees : Type 0
KeepsTrees = (p q : PageMap) (level : ℕ) (slot : Slot) (low : Bound) (high : Option Bound) (quads : List Quad) (slots : List Slot)
    → Subtree p level slot low high quads slots → ((s : Slot) → Among s slots → q s ≡ p s)
    → Subtree q level slot low high quads slots

-- no slot that a tree reaches is absent
abbrev pub ReachesPages : Type 0
ReachesPages = (p : PageMap) (level : ℕ) (slot : Slot) (low : Bound) (high : Option Bound) (quads : List Quad) (slots : List Slot)
    → Subtree p level slot low high quads slots → (s : Slot) → Among s slots → IsSome (p s)

-- a map stands for one list of quads at most, and reaches one list of slots
abbrev pub HasOneList : Type 0
HasOneList = (stores : ℕ) (p : PageMap) (quads quads' : List Quad) (slots slots' : List Slot)
    → IsFormed stores p quads slots → IsFormed stores p quads' slots' → (quads ≡ quads') × (slots ≡ slots')

-- a text is the spelling of one page at most
abbrev pub HasOneContent : Type 0
HasOneContent = (bytes : List ℕ) (a b : Content) → Spells a bytes → Spells b bytes → a ≡ b
