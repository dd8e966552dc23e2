-- Reading a page from left to right, with the place of the first field that does not read.
use Rattle.std.specs.Prelude.{ℕ, zero, suc, ◌≡◌, ◌+◌, Bool, true, false, ◌||◌, List, [], ◌∷◌, length, take, drop, Option, Some}
use Rattle.std.specs.Prelude.{None, Result, Ok, Err, nat_lt, nat_le, ◌==◌, if◌then◌else◌}
use Rattle.std.specs.Int.{Width, w8, w16, w32, w64, byte_len, from_be_bytes}
use Rattle.std.specs.Ordering.{is_lt}
use Rattle.cursor.specs.Position.{Position}
use Rattle.btree_page.specs.declared.format.PageFormat.{PageFormat}
use Rattle.btree_page.specs.declared.format.PageFormat.TheVariants.{Malformed}
use Rattle.btree_page.specs.Content.{Bound, bound_cmp, Body, Carries, Leads, Entry, bound_of, Content}

infixl 10 ◌>>=◌
abbrev pub ◌>>=◌ : {A B : Type 0} → Result A PageFormat → (A → Result B PageFormat) → Result B PageFormat
(Ok x) >>= f = f x
(Err e) >>= f = Err e

-- the bytes that are still to be read, and how many lie before them
pub record Ahead : Type 0 where
  pub place : ℕ
  pub bytes : List ℕ

abbrev pub ahead : Position → Ahead
ahead p = record { place = p.place; bytes = drop p.place p.text }

-- a field does not read
abbrev pub fails : {A : Type 0} → Ahead → Result A PageFormat
fails a = Err (Malformed a.place)

-- the next n bytes
unfoldable pub part_at : ℕ → Ahead → Result (List ℕ × Ahead) PageFormat
part_at n a =
    if nat_lt (length a.bytes) n then fails a else Ok (take n a.bytes, record { place = a.place + n; bytes = drop n a.bytes })

unfoldable pub number_at : Width → Ahead → Result (ℕ × Ahead) PageFormat
number_at w a = do
  part ← part_at (byte_len w) a
  Ok (from_be_bytes w part.0, part.1)

-- two bytes of length, which are at most the limit, and that many bytes
unfoldable pub string_at : ℕ → Ahead → Result (List ℕ × Ahead) PageFormat
string_at limit a = do
  n ← number_at w16 a
  if nat_lt limit n.0 then fails a else part_at n.0 n.1

unfoldable pub body_at : Bool → Ahead → Result (Body × Ahead) PageFormat
body_at true a = do
  death ← number_at w64 a
  value ← string_at 1200 death.1
  Ok (Carries death.0 value.0, value.1)
body_at false a = do
  store ← number_at w32 a
  number ← number_at w64 store.1
  Ok (Leads (record { store = store.0; number = number.0 }), number.1)

-- how long a key may be: at the beginning of an inner page it is empty
abbrev pub key_limit : Bool → Option Bound → ℕ
key_limit true before = 264
key_limit false None = 0
key_limit false (Some before) = 264

-- whether a key and a birth may come after the cell before them
abbrev pub may_follow : Bool → Option Bound → List ℕ → ℕ → Bool
may_follow true None key birth = true
may_follow false None key birth = birth == 0
may_follow is_leaf (Some before) key birth = is_lt (bound_cmp before (record { key = key; birth = birth }))

-- the rest of a cell whose key and birth were read
unfoldable pub rest_at : Bool → List ℕ → ℕ → Ahead → Result (Entry × Ahead) PageFormat
rest_at is_leaf key birth a = do
  body ← body_at is_leaf a
  Ok (record { key = key; birth = birth; body = body.0 }, body.1)

unfoldable pub entry_at : Bool → Option Bound → Ahead → Result (Entry × Ahead) PageFormat
entry_at is_leaf before a = do
  key ← string_at (key_limit is_leaf before) a
  birth ← number_at w64 key.1
  if may_follow is_leaf before key.0 birth.0 then rest_at is_leaf key.0 birth.0 birth.1 else fails key.1

unfoldable pub cells_at : Bool → ℕ → Option Bound → Ahead → Result (List Entry × Ahead) PageFormat
cells_at is_leaf zero before a = Ok ([], a)
cells_at is_leaf (suc n) before a = do
  first ← entry_at is_leaf before a
  others ← cells_at is_leaf n (Some (bound_of first.0)) first.1
  Ok (first.0 ∷ others.0, others.1)

-- the level and the number of cells
unfoldable pub head_at : Ahead → Result ((ℕ × ℕ) × Ahead) PageFormat
head_at a = do
  format ← number_at w8 a
  if format.0 == 1 then (do
    level ← number_at w8 format.1
    count ← number_at w16 level.1
    if level.0 == 0 || nat_le 2 count.0 then Ok ((level.0, count.0), count.1) else fails level.1) else fails a

-- the whole of a text, of which no field may end past 8,192 bytes
unfoldable pub page_at : List ℕ → Result Content PageFormat
page_at text = do
  head ← head_at (record { place = 0; bytes = take 8192 text })
  cells ← cells_at (head.0.0 == 0) head.0.1 None head.1
  if cells.1.place == length text then Ok (record { level = head.0.0; cells = cells.0 }) else fails cells.1

-- what a reader over a cursor returned and left is what reading gives
abbrev pub Gives : {X Y : Type 0} → (X → Y) → (Ahead → Result (Y × Ahead) PageFormat) → Position → Position → Result X PageFormat
    → Type 0
Gives view reads old new (Ok x) = reads (ahead old) ≡ Ok (view x, ahead new)
Gives view reads old new (Err fault) = reads (ahead old) ≡ Err fault

-- the bytes of a text from a place on
abbrev pub from_place : List ℕ → ℕ → Ahead
from_place text place = record { place = place; bytes = drop place text }

-- a cell wherever it stands, without the order of cells
unfoldable pub plain_at : Bool → Ahead → Result (Entry × Ahead) PageFormat
plain_at is_leaf a = do
  key ← string_at 264 a
  birth ← number_at w64 key.1
  rest_at is_leaf key.0 birth.0 birth.1

-- the cell that stands at a place of a text, if one does
abbrev pub value_of : {A : Type 0} → Result (A × Ahead) PageFormat → Option A
value_of (Ok x) = Some x.0
value_of (Err fault) = None

abbrev pub cell_in : Bool → List ℕ → ℕ → Option Entry
cell_in is_leaf text place = value_of (plain_at is_leaf (from_place text place))
