-- The table of the places of a page's cells, as a loop makes it.
use Rattle.std.proofs.Common.{◌≡◌, ◌≢◌, ℕ, zero, suc, ◌+◌, ◌*◌, ◌<◌, ◌≤◌, Bool, true, false, cond, ltb, List, [], ◌∷◌, ◌++◌}
use Rattle.std.proofs.Common.{length, take, set, append_assoc, Option, Some, None, Result, Ok, Err, refl, sym, ap, subst, ◌∙◌}
use Rattle.std.proofs.Common.{arith, below_more, get_or-set_same, get_or-set_other, add-one}
use Rattle.std.specs.Prelude.{slice_get, slice_index}
use Rattle.std.specs.List.{flat_map}
use Rattle.std.specs.Int.{Width, w16, w32, w64, byte_len, from_be_bytes, to_be_bytes}
use Rattle.std.proofs.lemmas.Bool.{ltb-false, le-ltb}
use Rattle.std.proofs.lemmas.List.{length-set, length-append, length-take, append-nil, take_all}
use Rattle.pair_types.specs.declared.slot.Slot.{Slot}
use Rattle.cursor.specs.Position.{Position}
use Rattle.btree_page.specs.declared.format.PageFormat.{PageFormat}
use Rattle.btree_page.specs.declared.format.PageFormat.TheVariants.{Malformed}
use Rattle.btree_page.specs.Content.{Bound, Body, Carries, Leads, Entry, bound_of, last_bound, string, body_spelling}
use Rattle.btree_page.specs.Content.{entry_spelling}
use Rattle.btree_page.specs.Reading.{◌>>=◌, Ahead, ahead, fails, part_at, number_at, string_at, body_at, rest_at, entry_at}
use Rattle.btree_page.specs.Reading.{plain_at, cells_at, cell_in, value_of, key_limit, may_follow}
use Rattle.btree_page.specs.View.{StandsAt, IsIndex, IsTable}
use Rattle.btree_page.proofs.Fields.{bind_ok, bind_by, guard_ok, test_ok, ok_is}
use Rattle.btree_page.proofs.Cells.{key_limit-le, cells_more, cells_end, last_bound-push}

-- ---- how far a field goes: as far as its spelling is long

part_moves : (n : ℕ) (a : Ahead) (x : List ℕ × Ahead) → part_at n a ≡ Ok x → (x.1.place ≡ a.place + n) × (length x.0 ≡ n)
unfolding part_at
part_moves n a x e =
    let g = guard_ok (ltb (length a.bytes) n) (Malformed a.place) _ x e in
    let is = ok_is _ x g.1 in (
      sym (ap (λ (p : List ℕ × Ahead). p.1.place) is),
      sym (ap (λ (p : List ℕ × Ahead). length p.0) is) ∙ omega (arith, length-take n a.bytes, ltb-false (length a.bytes) n g.0),
    )

pub number_moves : (w : Width) (a : Ahead) (x : ℕ × Ahead) → number_at w a ≡ Ok x → x.1.place ≡ a.place + byte_len w
unfolding number_at
number_moves w a x e =
    let s = bind_ok (part_at (byte_len w) a) (λ part. Ok (from_be_bytes w part.0, part.1)) x e in
    sym (ap (λ (p : ℕ × Ahead). p.1.place) (ok_is _ x s.2)) ∙ (part_moves (byte_len w) a s.0 s.1).0

string_moves : (limit : ℕ) (a : Ahead) (x : List ℕ × Ahead) → string_at limit a ≡ Ok x → x.1.place ≡ a.place + (2 + length x.0)
unfolding string_at
string_moves limit a x e =
    let s = bind_ok (number_at w16 a) (λ n. cond (ltb limit n.0) (fails a) (part_at n.0 n.1)) x e in
    let g = guard_ok (ltb limit s.0.0) (Malformed a.place) (part_at s.0.0 s.0.1) x s.2 in
    let p = part_moves s.0.0 s.0.1 x g.1 in
    omega (arith, number_moves w16 a s.0 s.1, p.0, p.1)

carries_size : (death : ℕ) (value : List ℕ) → length (body_spelling (Carries death value)) ≡ 10 + length value
carries_size death value = omega (
  arith,
  length-append (to_be_bytes w64 death) (string value),
  length-append
      (to_be_bytes w16 (length value)) value,
)

leads_size : (child : Slot) → length (body_spelling (Leads child)) ≡ 12
leads_size child = omega (arith, length-append (to_be_bytes w32 child.store) (to_be_bytes w64 child.number))

body_moves : (is_leaf : Bool) (a : Ahead) (x : Body × Ahead) → body_at is_leaf a ≡ Ok x
    → (x.1.place ≡ a.place + length (body_spelling x.0)) × (10 ≤ length (body_spelling x.0))
unfolding body_at
body_moves true a x e =
    let d = bind_ok (number_at w64 a) (λ death. string_at 1200 death.1 >>= λ value. Ok (Carries death.0 value.0, value.1)) x e in
    let v = bind_ok (string_at 1200 d.0.1) (λ value. Ok (Carries d.0.0 value.0, value.1)) x d.2 in
    let is = ok_is _ x v.2 in
    let same = ap (λ (p : Body × Ahead). p.1.place) is in
    let size = ap (λ (p : Body × Ahead). length (body_spelling p.0)) is in
    let long = carries_size d.0.0 v.0.0 in
    (omega (arith, number_moves w64 a d.0 d.1, string_moves 1200 d.0.1 v.0 v.1, same, size, long), omega (arith, size, long))
body_moves false a x e =
    let s = bind_ok (number_at w32 a) (λ store. number_at w64 store.1 >>= λ number. Ok
    (Leads (record { store = store.0; number = number.0 }), number.1)) x e in
    let n = bind_ok (number_at w64 s.0.1) (λ number. Ok (Leads (record { store = s.0.0; number = number.0 }), number.1)) x s.2 in
    let is = ok_is _ x n.2 in
    let same = ap (λ (p : Body × Ahead). p.1.place) is in
    let size = ap (λ (p : Body × Ahead). length (body_spelling p.0)) is in
    let long = leads_size (record { store = s.0.0; number = n.0.0 }) in
    (omega (arith, number_moves w32 a s.0 s.1, number_moves w64 s.0.1 n.0 n.1, same, size, long), omega (arith, size, long))

-- the fields of a cell that was read
record Read (is_leaf : Bool) (before : Option Bound) (a : Ahead) (x : Entry × Ahead) : Type 0 where
  key : List ℕ × Ahead
  birth : ℕ × Ahead
  key_read : string_at (key_limit is_leaf before) a ≡ Ok key
  birth_read : number_at w64 key.1 ≡ Ok birth
  rest_read : rest_at is_leaf key.0 birth.0 birth.1 ≡ Ok x

read_of : (is_leaf : Bool) (before : Option Bound) (a : Ahead) (x : Entry × Ahead) → entry_at is_leaf before a ≡ Ok x
    → Read is_leaf before a x
unfolding entry_at
read_of is_leaf before a x e =
    let k = bind_ok (string_at (key_limit is_leaf before) a) (λ key. number_at w64 key.1 >>= λ birth. cond
    (may_follow is_leaf before key.0 birth.0) (rest_at is_leaf key.0 birth.0 birth.1) (fails key.1)) x e in
    let n = bind_ok (number_at w64 k.0.1) (λ birth. cond (may_follow is_leaf before k.0.0 birth.0)
    (rest_at is_leaf k.0.0 birth.0 birth.1) (fails k.0.1)) x k.2 in
    let t = test_ok (may_follow is_leaf before k.0.0 n.0.0) (Malformed k.0.1.place) (rest_at is_leaf k.0.0 n.0.0 n.0.1) x n.2 in
    record { key = k.0; birth = n.0; key_read = k.1; birth_read = n.1; rest_read = t.1 }

entry_moves : (is_leaf : Bool) (before : Option Bound) (a : Ahead) (x : Entry × Ahead) → entry_at is_leaf before a ≡ Ok x
    → (x.1.place ≡ a.place + length (entry_spelling x.0)) × (20 ≤ length (entry_spelling x.0))
unfolding rest_at
entry_moves is_leaf before a x e =
    let r = read_of is_leaf before a x e in
    let y = bind_ok (body_at is_leaf r.birth.1) (λ body. let made : Entry = record {
      key = r.key.0;
      birth = r.birth.0;
      body =
          body.0;
    } in Ok (made, body.1)) x r.rest_read in
    let is = ok_is _ x y.2 in
    let same = ap (λ (p : Entry × Ahead). p.1.place) is in
    let size = ap (λ (p : Entry × Ahead). length (entry_spelling p.0)) is in
    let body = body_moves is_leaf r.birth.1 y.0 y.1 in
    let key = string_moves (key_limit is_leaf before) a r.key r.key_read in
    let birth = number_moves w64 r.key.1 r.birth r.birth_read in
    let long : length (entry_spelling (record { key = r.key.0; birth = r.birth.0; body = y.0.0 })) ≡ 10 + length r.key.0 + length
    (body_spelling y.0.0) = omega (
      arith,
      length-append (string r.key.0) (to_be_bytes w64 r.birth.0 ++ body_spelling y.0.0),
      length-append (to_be_bytes w64 r.birth.0) (body_spelling y.0.0),
      length-append (to_be_bytes w16 (length r.key.0)) r.key.0,
    ) in
    (omega (arith, key, birth, body.0, same, size, long), omega (arith, body.1, size, long))

-- a string within one limit is within a greater one
string_wider : (limit : ℕ) (a : Ahead) (x : List ℕ × Ahead) → limit ≤ 264 → string_at limit a ≡ Ok x → string_at 264 a ≡ Ok x
unfolding string_at
string_wider limit a x le e =
    let s = bind_ok (number_at w16 a) (λ n. cond (ltb limit n.0) (fails a) (part_at n.0 n.1)) x e in
    let g = guard_ok (ltb limit s.0.0) (Malformed a.place) (part_at s.0.0 s.0.1) x s.2 in
    let within : ltb 264 s.0.0 ≡ false = le-ltb _ _ (omega (arith, ltb-false limit s.0.0 g.0)) in
    bind_by (number_at w16 a) (λ n. cond (ltb 264 n.0) (fails a) (part_at n.0 n.1)) s.0 (Ok x) s.1 (rw within g.1)

-- a cell that was read in its order reads by itself too
plain_too : (is_leaf : Bool) (before : Option Bound) (a : Ahead) (x : Entry × Ahead) → entry_at is_leaf before a ≡ Ok x
    → plain_at is_leaf a ≡ Ok x
unfolding plain_at
plain_too is_leaf before a x e =
    let r = read_of is_leaf before a x e in
    bind_by (string_at 264 a) (λ key. number_at w64 key.1 >>= λ birth. rest_at is_leaf key.0 birth.0 birth.1) r.key (Ok x)
    (string_wider (key_limit is_leaf before) a r.key (key_limit-le is_leaf before) r.key_read)
    (bind_by (number_at w64 r.key.1) (λ birth. rest_at is_leaf r.key.0 birth.0 birth.1) r.birth (Ok x) r.birth_read r.rest_read)

-- ---- the loop

cells_count : (is_leaf : Bool) (n : ℕ) (before : Option Bound) (a : Ahead) (cells : List Entry) (b : Ahead)
    → cells_at is_leaf n before a ≡ Ok (cells, b) → length cells ≡ n
unfolding cells_at
cells_count is_leaf zero before a cells b e = sym (ap (λ (p : List Entry × Ahead). length p.0) (ok_is ([], a) (cells, b) e))
cells_count is_leaf (suc n) before a cells b e =
    let f = bind_ok (entry_at is_leaf before a) (λ first. cells_at is_leaf n (Some (bound_of first.0)) first.1 >>= λ others. Ok
    (first.0 ∷ others.0, others.1)) (cells, b) e in
    let o = bind_ok (cells_at is_leaf n (Some (bound_of f.0.0)) f.0.1) (λ others. Ok (f.0.0 ∷ others.0, others.1)) (cells, b) f.2
    in
    let same = ap (λ (p : List Entry × Ahead). length p.0) (ok_is (f.0.0 ∷ o.0.0, o.0.1) (cells, b) o.2) in
    sym same ∙ ap suc (cells_count is_leaf n (Some (bound_of f.0.0)) f.0.1 o.0.0 o.0.1 o.1)

slice_get-front : (xs ys : List Entry) (k : ℕ) → k < length xs → slice_get (xs ++ ys) k ≡ slice_get xs k
slice_get-front [] ys k lt = absurd (omega arith)
slice_get-front (x ∷ xs) ys zero lt = refl
slice_get-front (x ∷ xs) ys (suc k) lt = slice_get-front xs ys k (omega arith)

slice_get-last : (xs : List Entry) (x : Entry) → slice_get (xs ++ x ∷ []) (length xs) ≡ Some x
slice_get-last [] x = refl
slice_get-last (y ∷ xs) x = slice_get-last xs x

take-front : (xs ys : List Entry) (k : ℕ) → k ≤ length xs → take k (xs ++ ys) ≡ take k xs
take-front [] ys zero le = refl
take-front [] ys (suc k) le = absurd (omega arith)
take-front (x ∷ xs) ys zero le = refl
take-front (x ∷ xs) ys (suc k) le = ap (λ (es : List Entry). x ∷ es) (take-front xs ys k (omega arith))

pub flat_map-push : (cells : List Entry) (e : Entry) → flat_map entry_spelling (cells ++ e ∷ []) ≡ flat_map entry_spelling cells
    ++ entry_spelling e
flat_map-push [] e = append-nil (entry_spelling e)
flat_map-push (c ∷ cells) e =
    ap (λ (xs : List ℕ). entry_spelling c ++ xs) (flat_map-push cells e)
    ∙ sym (append_assoc (entry_spelling c) (flat_map entry_spelling cells) (entry_spelling e))

pub cells_count_of : (is_leaf : Bool) (n : ℕ) (text : List ℕ) (from now : Ahead) (table : List ℕ) (cells : List Entry)
    → IsIndex is_leaf n text from now table cells → length cells ≡ n
cells_count_of is_leaf n text from now table cells h = cells_count is_leaf n None from cells now h.read

-- the first i cells were read
pub record Indexed (is_leaf : Bool) (i : ℕ) (from now : Position) (before : Option Bound) (table : List ℕ) : Type 0 where
  pub cells : List Entry
  pub index : IsIndex is_leaf i from.text (ahead from) (ahead now) table cells
  pub last : before ≡ last_bound None cells
  pub room : 20 * i ≤ now.place
  pub reached : now.place ≡ from.place + length (flat_map entry_spelling cells)
  pub full : length table ≡ 410
  pub text : now.text ≡ from.text

pub indexed_none : (is_leaf : Bool) (from : Position) (table : List ℕ) → length table ≡ 410
    → Indexed is_leaf 0 from from None table
unfolding cells_at
indexed_none is_leaf from table full = record {
  cells = [];
  index = record { few = omega arith; read = refl; places = λ k lt. absurd (omega arith); tiles = λ k lt. absurd (omega arith) };
  last = refl;
  room = omega arith;
  reached = omega arith;
  full = full;
  text = refl;
}

pub indexed_more : (is_leaf : Bool) (i : ℕ) (from now next : Position) (before : Option Bound) (table : List ℕ) (e : Entry)
    → Indexed is_leaf i from now before table → entry_at is_leaf before (ahead now) ≡ Ok (e, ahead next) → next.text ≡ now.text
    → i < 410 → (place : ℕ) → place ≡ now.place → now.place ≤ length now.text → (after : Option Bound) → after ≡ Some (bound_of e)
    → Indexed is_leaf (i + 1) from next after (set table i place)
indexed_more is_leaf i from now next before table e h read text lt place at within after is =
    let here : entry_at is_leaf (last_bound None h.cells) (ahead now) ≡ Ok (e, ahead next) =
    subst (λ (b : Option Bound). entry_at is_leaf b (ahead now) ≡ Ok (e, ahead next)) h.last read in
    let inside : i < length table = omega (arith, h.full) in
    let stands : cell_in is_leaf from.text now.place ≡ Some e =
    subst (λ (text : List ℕ). cell_in is_leaf text now.place ≡ Some e) h.text
    (ap (λ (r : Result (Entry × Ahead) PageFormat). value_of r) (plain_too is_leaf before (ahead now) (e, ahead next) read)) in
    let count : length h.cells ≡ i = cells_count is_leaf i None (ahead from) h.cells (ahead now) h.index.read in
    let moves = entry_moves is_leaf before (ahead now) (e, ahead next) read in
    record {
      cells = h.cells ++ e ∷ [];
      index = record {
        few = omega arith;
        read = rw add-one (cells_more is_leaf i None (ahead from) h.cells (ahead now) e (ahead next) h.index.read here);
        places = below_more _ _
            (λ k less.
            let other : k ≢ i = omega arith in
            let old : slice_index (set table i place) k ≡ slice_index table k = get_or-set_other table i k place 0 other in
            let same : slice_get h.cells k ≡ slice_get (h.cells ++ e ∷ []) k =
            sym (slice_get-front h.cells (e ∷ []) k (omega (arith, count))) in
            let before_it : StandsAt is_leaf from.text (slice_index (set table i place) k) (slice_get h.cells k) =
            subst (λ (n : ℕ). StandsAt is_leaf from.text n (slice_get h.cells k)) (sym old) (h.index.places k less) in
            subst (λ (o : Option Entry). StandsAt is_leaf from.text (slice_index (set table i place) k) o) same before_it)
            (let new : slice_index (set table i place) i ≡ now.place = get_or-set_same table i place 0 inside ∙ at in
            let same : Some e ≡ slice_get (h.cells ++ e ∷ []) i =
            sym (slice_get-last h.cells e) ∙ ap (λ (n : ℕ). slice_get (h.cells ++ e ∷ []) n) count in
            let length_is : length now.text ≡ length from.text = ap (λ (xs : List ℕ). length xs) h.text in
            let here_it : StandsAt is_leaf from.text now.place (Some e) = record { within = omega arith; reads = stands } in
            subst (λ (o : Option Entry). StandsAt is_leaf from.text (slice_index (set table i place) i) o) same
            (subst (λ (n : ℕ). StandsAt is_leaf from.text n (Some e)) (sym new) here_it));
        tiles = below_more _ _
            (λ k less.
            let other : k ≢ i = omega arith in
            get_or-set_other table i k place 0 other
            ∙ (h.index.tiles k less ∙ ap (λ (es : List Entry). from.place + length (flat_map entry_spelling es))
            (sym (take-front h.cells (e ∷ []) k (omega (arith, count))))))
            (get_or-set_same table i place 0 inside
            ∙ (at ∙ (h.reached ∙ ap (λ (es : List Entry). from.place + length (flat_map entry_spelling es))
            (sym (take-front h.cells (e ∷ []) i (omega (arith, count)) ∙ take_all i h.cells (omega (arith, count)))))));
      };
      last = is ∙ sym (last_bound-push None h.cells e);
      room = omega (arith, h.room, moves.0, moves.1);
      reached = omega (
        arith,
        h.reached,
        moves.0,
        ap (λ (xs : List ℕ). length xs) (flat_map-push h.cells e),
        length-append
            (flat_map entry_spelling h.cells) (entry_spelling e),
      );
      full = length-set table i place ∙ h.full;
      text = text ∙ h.text;
    }

pub index_ends : (is_leaf : Bool) (i count : ℕ) (from now : Position) (before : Option Bound) (table : List ℕ)
    (fault : PageFormat)
    → Indexed is_leaf i from now before table → entry_at is_leaf before (ahead now) ≡ Err fault → i < count
    → cells_at is_leaf count None (ahead from) ≡ Err fault
index_ends is_leaf i count from now before table fault h read lt =
    let here : entry_at is_leaf (last_bound None h.cells) (ahead now) ≡ Err fault =
    subst (λ (b : Option Bound). entry_at is_leaf b (ahead now) ≡ Err fault) h.last read in
    cells_end is_leaf i count None (ahead from) h.cells (ahead now) fault h.index.read here lt

pub table_of : (is_leaf : Bool) (i : ℕ) (from now : Position) (before : Option Bound) (table : List ℕ)
    → Indexed is_leaf i from now before table → IsTable is_leaf i from now table
table_of is_leaf i from now before table h = (h.cells, h.index)
