-- The page grammar: what a page of a tree holds, which rules it keeps, and its one spelling.
use Rattle.std.specs.Prelude.{ℕ, ◌≡◌, ◌<◌, ◌≤◌, ◌^◌, Bool, true, false, List, [], ◌∷◌, ◌++◌, ◌-◌, length, take, drop, Option}
use Rattle.std.specs.Prelude.{Some, None, ◌==◌}
use Rattle.std.specs.List.{flat_map}
use Rattle.std.specs.Int.{w16, w32, w64, to_be_bytes}
use Rattle.std.specs.Ordering.{nat_cmp, ordering_then}
use Rattle.std.specs.Cmp.Lexicographic.{slice_cmp}
use Rattle.std.specs.declared.cmp.Ordering.{Ordering}
use Rattle.std.specs.declared.cmp.Ordering.TheVariants.{Less}
use Rattle.pair_types.specs.declared.slot.Slot.{Slot}

-- where a record stands in a tree: records rise by their key's bytes, and at equal keys by birth
pub record Bound : Type 0 where
  pub key : List ℕ
  pub birth : ℕ

abbrev pub bound_cmp : Bound → Bound → Ordering
bound_cmp a b = ordering_then (slice_cmp nat_cmp a.key b.key) (nat_cmp a.birth b.birth)

abbrev pub IsBelow : Bound → Bound → Type 0
IsBelow a b = bound_cmp a b ≡ Less

-- what follows the key and the birth: in a leaf the rest of a record, in an inner page a child
pub data Body : Type 0 where
  Carries : (death : ℕ) (value : List ℕ) → Body
  Leads : (child : Slot) → Body

pub record Entry : Type 0 where
  pub key : List ℕ
  pub birth : ℕ
  pub body : Body

abbrev pub bound_of : Entry → Bound
bound_of e = record { key = e.key; birth = e.birth }

-- what a page holds; a page of level 0 is a leaf
pub record Content : Type 0 where
  pub level : ℕ
  pub cells : List Entry

-- ---- the spelling

-- two bytes of length, and the bytes
abbrev pub string : List ℕ → List ℕ
string bytes = to_be_bytes w16 (length bytes) ++ bytes

abbrev pub body_spelling : Body → List ℕ
body_spelling (Carries death value) = to_be_bytes w64 death ++ string value
body_spelling (Leads child) = to_be_bytes w32 child.store ++ to_be_bytes w64 child.number

abbrev pub entry_spelling : Entry → List ℕ
entry_spelling e = string e.key ++ (to_be_bytes w64 e.birth ++ body_spelling e.body)

-- the format, which is 1, the level, the number of cells, and the cells
abbrev pub head : ℕ → ℕ → List ℕ
head level count = 1 ∷ level ∷ to_be_bytes w16 count

abbrev pub spelling : Content → List ℕ
spelling page = head page.level (length page.cells) ++ flat_map entry_spelling page.cells

-- ---- the rules

abbrev pub FitsBody : Bool → Body → Type 0
FitsBody true (Carries death value) = (death < 2 ^ 64) × (length value ≤ 1200)
FitsBody true (Leads child) = ⊥
FitsBody false (Carries death value) = ⊥
FitsBody false (Leads child) = (child.store < 2 ^ 32) × (child.number < 2 ^ 64)

-- a cell by itself, of a leaf or of an inner page
pub record Fits (is_leaf : Bool) (e : Entry) : Type 0 where
  pub key : length e.key ≤ 264
  pub birth : e.birth < 2 ^ 64
  pub body : FitsBody is_leaf e.body

-- a cell after the one before it: cells rise, and an inner page begins with the empty key and birth 0
abbrev pub Follows : Bool → Option Bound → Entry → Type 0
Follows true None e = Unit {0}
Follows false None e = (e.key ≡ []) × (e.birth ≡ 0)
Follows is_leaf (Some before) e = IsBelow before (bound_of e)

abbrev pub AreCells : Bool → Option Bound → List Entry → Type 0
AreCells is_leaf before [] = Unit {0}
AreCells is_leaf before (e ∷ es) = Fits is_leaf e × (Follows is_leaf before e × AreCells is_leaf (Some (bound_of e)) es)

-- what stands before the cell that comes next
abbrev pub last_bound : Option Bound → List Entry → Option Bound
last_bound before [] = before
last_bound before (e ∷ es) = last_bound (Some (bound_of e)) es

pub record IsPage (page : Content) : Type 0 where
  pub level : page.level < 256
  pub cells : AreCells (page.level == 0) None page.cells
  pub least : 0 < page.level → 2 ≤ length page.cells
  pub size : length (spelling page) ≤ 8192

-- the text is the spelling of this page, which keeps the rules
pub record Spells (content : Content) (bytes : List ℕ) : Type 0 where
  pub rules : IsPage content
  pub text : spelling content ≡ bytes

-- ---- a page that is built

-- a page with one cell more
abbrev pub with_cell : Content → Entry → Content
with_cell page e = record page { cells = page.cells ++ e ∷ [] }

-- a page with the cells of another from one index up to the next one
abbrev pub with_run : Content → Content → ℕ → ℕ → Content
with_run page other from to = record page { cells = page.cells ++ take (to - from) (drop from other.cells) }

-- a cell that may be added: it is one of this kind of page, and above the cells so far
pub record IsNext (page : Content) (e : Entry) : Type 0 where
  pub fits : Fits (page.level == 0) e
  pub follows : Follows (page.level == 0) (last_bound None page.cells) e

-- a record and a child, as cells
abbrev pub leaf_entry : List ℕ → ℕ → ℕ → List ℕ → Entry
leaf_entry key birth death value = record { key = key; birth = birth; body = Carries death value }

abbrev pub inner_entry : List ℕ → ℕ → Slot → Entry
inner_entry key birth child = record { key = key; birth = birth; body = Leads child }
