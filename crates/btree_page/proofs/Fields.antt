-- A field that is read is the field that was written, and what was written is read again.
use Rattle.std.proofs.Common.{◌≡◌, ℕ, ◌+◌, ◌^◌, ◌<◌, ◌≤◌, ◌%◌, Bool, true, false, cond, ltb, List, [], ◌∷◌, ◌++◌, length, get_or}
use Rattle.std.proofs.Common.{take, drop, Result, Ok, Err, refl, sym, ap, subst, ◌∙◌, append_assoc, arith, inl, inr}
use Rattle.std.specs.Int.{Width, w8, w16, w32, w64, byte_len, from_be_bytes, to_be_bytes}
use Rattle.std.proofs.lemmas.Bool.{cases_lt, ltb-false, le-ltb}
use Rattle.std.proofs.lemmas.List.{take_at, drop_at, take-append-drop, length-append, length-take, get_or-drop, get_or-take}
use Rattle.std.proofs.lemmas.List.{get_or_past}
use Rattle.std.proofs.lemmas.Nat.{be_bytes_2, be_bytes_4, be_bytes_8, from_be_bytes-to_be_bytes_2, from_be_bytes-to_be_bytes_4}
use Rattle.std.proofs.lemmas.Nat.{from_be_bytes-to_be_bytes_8}
use Rattle.btree_page.specs.declared.format.PageFormat.{PageFormat}
use Rattle.btree_page.specs.declared.format.PageFormat.TheVariants.{Malformed}
use Rattle.btree_page.specs.Content.{string}
use Rattle.btree_page.specs.Reading.{◌>>=◌, Ahead, fails, part_at, number_at, string_at}

abbrev pub IsBytes : List ℕ → Type 0
IsBytes bytes = (i : ℕ) → get_or bytes i 0 < 256

pub IsBytes-drop : (n : ℕ) (bytes : List ℕ) → IsBytes bytes → IsBytes (drop n bytes)
IsBytes-drop n bytes h i = rw get_or-drop (h (n + i))

pub IsBytes-take : (n : ℕ) (bytes : List ℕ) → IsBytes bytes → IsBytes (take n bytes)
IsBytes-take n bytes h i =
    elim (cases_lt i n) [
      | inl lt ↦ rw (get_or-take n bytes i 0 lt) (h i)
      | inr le ↦ rw (get_or_past (take n bytes) i 0 (omega (arith, length-take n bytes))) (omega arith)
    ]

-- the value of a step that did not fail
pub bind_ok : {A B : Type 0} (r : Result A PageFormat) (f : A → Result B PageFormat) (y : B) → (r >>= f) ≡ Ok y → (x : A)
    × (r ≡ Ok x) × (f x ≡ Ok y)
bind_ok (Ok x) f y e = (x, refl, e)
bind_ok (Err d) f y e = absurd cc

-- a step that did not fail goes on, and a step that failed ends
pub bind_by : {A B : Type 0} (r : Result A PageFormat) (f : A → Result B PageFormat) (x : A) (y : Result B PageFormat) → r ≡ Ok x
    → f x ≡ y → (r >>= f) ≡ y
bind_by r f x y is e = rw is e

pub bind_err : {A B : Type 0} (r : Result A PageFormat) (f : A → Result B PageFormat) (fault : PageFormat) → r ≡ Err fault
    → (r >>= f) ≡ Err fault
bind_err r f fault is = rw is refl

-- a test that did not fail
pub guard_ok : {A : Type 0} (b : Bool) (d : PageFormat) (x : Result A PageFormat) (y : A) → cond b (Err d) x ≡ Ok y → (b ≡ false)
    × (x ≡ Ok y)
guard_ok true d x y e = absurd cc
guard_ok false d x y e = (refl, e)

pub test_ok : {A : Type 0} (b : Bool) (d : PageFormat) (x : Result A PageFormat) (y : A) → cond b x (Err d) ≡ Ok y → (b ≡ true)
    × (x ≡ Ok y)
test_ok true d x y e = (refl, e)
test_ok false d x y e = absurd cc

abbrev done : {A : Type 0} → A → Result A PageFormat
done x = Ok x

pub ok_is : {A : Type 0} (x y : A) → done x ≡ done y → x ≡ y
ok_is x y e = cc

-- the bytes ahead after a text
abbrev pub past : Ahead → List ℕ → List ℕ → Ahead
past a text rest = record { place = a.place + length text; bytes = rest }

-- what a reader took from the front
pub record Takes (a : Ahead) (text : List ℕ) (b : Ahead) : Type 0 where
  pub parts : a.bytes ≡ text ++ b.bytes
  pub place : b.place ≡ a.place + length text
  pub rest_fits : IsBytes b.bytes

pub Takes-then : (a : Ahead) (x : List ℕ) (b : Ahead) (y : List ℕ) (c : Ahead) → Takes a x b → Takes b y c → Takes a (x ++ y) c
Takes-then a x b y c p q = record {
  parts = p.parts ∙ ap (λ (t : List ℕ). x ++ t) q.parts ∙ sym (append_assoc x y c.bytes);
  place = omega (arith, p.place, q.place, length-append x y);
  rest_fits = q.rest_fits;
}

pub past-then : (a : Ahead) (x y rest : List ℕ) → past (past a x (y ++ rest)) y rest ≡ past a (x ++ y) rest
past-then a x y rest =
    let e : a.place + length x + length y ≡ a.place + length (x ++ y) = omega (arith, length-append x y) in
    ap (λ (n : ℕ). let made : Ahead = record { place = n; bytes = rest } in made) e

-- ---- parts

pub part_takes : (n : ℕ) (a : Ahead) (x : List ℕ) (b : Ahead) → IsBytes a.bytes → part_at n a ≡ Ok (x, b) → Takes a x b
    × (length x ≡ n)
unfolding part_at
part_takes n a x b fits e =
    let g = guard_ok (ltb (length a.bytes) n) (Malformed a.place)
    (Ok (take n a.bytes, record { place = a.place + n; bytes = drop n a.bytes })) (x, b) e in
    let long : n ≤ length a.bytes = ltb-false _ _ g.0 in
    let len : length (take n a.bytes) ≡ n = omega (arith, length-take n a.bytes) in
    let after : Ahead = record { place = a.place + n; bytes = drop n a.bytes } in
    let takes : Takes a (take n a.bytes) after = record {
      parts = sym (take-append-drop n a.bytes);
      place = omega (arith, len);
      rest_fits = IsBytes-drop n a.bytes fits;
    } in
    subst (λ (p : List ℕ × Ahead). Takes a p.0 p.1 × (length p.0 ≡ n)) (ok_is (take n a.bytes, after) (x, b) g.1) (takes, len)

pub part_again : (x : List ℕ) (a : Ahead) (rest : List ℕ) → a.bytes ≡ x ++ rest → part_at (length x) a ≡ Ok (x, past a x rest)
unfolding part_at
part_again x a rest e =
    let long : ltb (length a.bytes) (length x) ≡ false = le-ltb _ _ (rw e (omega (arith, length-append x rest))) in
    rw (long, e, take_at x rest (length x) refl, drop_at x rest (length x) refl) refl

-- ---- numbers

pub record IsWide (w : Width) (limit : ℕ) : Type 0 where
  pub len : (n : ℕ) → length (to_be_bytes w n) ≡ byte_len w
  pub back : (bytes : List ℕ) → length bytes ≡ byte_len w → IsBytes bytes → to_be_bytes w (from_be_bytes w bytes) ≡ bytes
  pub again : (n : ℕ) → n < limit → from_be_bytes w (to_be_bytes w n) ≡ n
  pub below : (bytes : List ℕ) → IsBytes bytes → from_be_bytes w bytes < limit

pub small : (n : ℕ) → n < 256 → n % 256 ≡ n
small n lt = omega arith

single : (bytes : List ℕ) → length bytes ≡ 1 → IsBytes bytes → (get_or bytes 0 0 % 256) ∷ [] ≡ bytes
single [] len fits = absurd (omega (arith, len))
single (b ∷ []) len fits = ap (λ (x : ℕ). x ∷ []) (small b (fits 0))
single (b ∷ c ∷ bytes) len fits = absurd (omega (arith, len))

pub wide8 : IsWide w8 (2 ^ 8)
wide8 = record {
  len = λ n. refl;
  back = λ bytes len fits. single bytes len fits;
  again = λ n lt. small n lt;
  below = λ bytes fits. omega (arith, fits 0);
}

pub wide16 : IsWide w16 (2 ^ 16)
wide16 = record {
  len = λ n. refl;
  back = λ bytes len fits. be_bytes_2 bytes _ len fits refl;
  again = λ n lt. from_be_bytes-to_be_bytes_2 n lt;
  below = λ bytes fits. omega (arith, fits 0, fits 1);
}

pub wide32 : IsWide w32 (2 ^ 32)
wide32 = record {
  len = λ n. refl;
  back = λ bytes len fits. be_bytes_4 bytes _ len fits refl;
  again = λ n lt. from_be_bytes-to_be_bytes_4 n lt;
  below = λ bytes fits. omega (arith, fits 0, fits 1, fits 2, fits 3);
}

pub wide64 : IsWide w64 (2 ^ 64)
wide64 = record {
  len = λ n. refl;
  back = λ bytes len fits. be_bytes_8 bytes _ len fits refl;
  again = λ n lt. from_be_bytes-to_be_bytes_8 n lt;
  below = λ bytes fits. omega (arith, fits 0, fits 1, fits 2, fits 3, fits 4, fits 5, fits 6, fits 7);
}

pub number_takes : (w : Width) (limit : ℕ) (wide : IsWide w limit) (a : Ahead) (n : ℕ) (b : Ahead) → IsBytes a.bytes
    → number_at w a ≡ Ok (n, b) → Takes a (to_be_bytes w n) b × (n < limit)
unfolding number_at
number_takes w limit wide a n b fits e =
    let s = bind_ok (part_at (byte_len w) a) (λ part. Ok (from_be_bytes w part.0, part.1)) (n, b) e in
    let t = part_takes (byte_len w) a s.0.0 s.0.1 fits s.1 in
    let bytes_fit : IsBytes s.0.0 = λ i. subst (λ (xs : List ℕ). get_or xs i 0 < 256) (sym (front_of a s.0.0 s.0.1 t.0))
    (IsBytes-take (length s.0.0) a.bytes fits i) in
    let spelled : to_be_bytes w (from_be_bytes w s.0.0) ≡ s.0.0 = wide.back s.0.0 t.1 bytes_fit in
    let whole : Takes a (to_be_bytes w (from_be_bytes w s.0.0)) s.0.1 = subst (λ (xs : List ℕ). Takes a xs s.0.1) (sym spelled)
    t.0 in
    subst (λ (p : ℕ × Ahead). Takes a (to_be_bytes w p.0) p.1 × (p.0 < limit)) (ok_is (from_be_bytes w s.0.0, s.0.1) (n, b) s.2)
    (whole, wide.below s.0.0 bytes_fit)
  where
    front_of : (a : Ahead) (x : List ℕ) (b : Ahead) → Takes a x b → x ≡ take (length x) a.bytes
    front_of a x b t = rw t.parts (sym (take_at x b.bytes (length x) refl))

pub number_again : (w : Width) (limit : ℕ) (wide : IsWide w limit) (n : ℕ) (a : Ahead) (rest : List ℕ) → n < limit
    → a.bytes ≡ to_be_bytes w n ++ rest → number_at w a ≡ Ok (n, past a (to_be_bytes w n) rest)
unfolding number_at
number_again w limit wide n a rest lt e =
    let part : part_at (byte_len w) a ≡ Ok (to_be_bytes w n, past a (to_be_bytes w n) rest) =
    subst (λ (k : ℕ). part_at k a ≡ Ok (to_be_bytes w n, past a (to_be_bytes w n) rest)) (wide.len n)
    (part_again (to_be_bytes w n) a rest e) in
    rw part (ap (λ (m : ℕ). Ok (m, past a (to_be_bytes w n) rest)) (wide.again n lt))

-- ---- strings

pub string_takes : (limit : ℕ) (a : Ahead) (x : List ℕ) (b : Ahead) → IsBytes a.bytes → string_at limit a ≡ Ok (x, b)
    → Takes a (string x) b × (length x ≤ limit)
unfolding string_at
string_takes limit a x b fits e =
    let s = bind_ok (number_at w16 a) (λ n. cond (ltb limit n.0) (fails a) (part_at n.0 n.1)) (x, b) e in
    let t = number_takes w16 (2 ^ 16) wide16 a s.0.0 s.0.1 fits s.1 in
    let g = guard_ok (ltb limit s.0.0) (Malformed a.place) (part_at s.0.0 s.0.1) (x, b) s.2 in
    let within : s.0.0 ≤ limit = ltb-false _ _ g.0 in
    let p = part_takes s.0.0 s.0.1 x b t.0.rest_fits g.1 in
    let both = Takes-then a (to_be_bytes w16 s.0.0) s.0.1 x b t.0 p.0 in
    (subst (λ (k : ℕ). Takes a (to_be_bytes w16 k ++ x) b) (sym p.1) both, omega (arith, p.1))

pub string_again : (limit : ℕ) (x : List ℕ) (a : Ahead) (rest : List ℕ) → length x ≤ limit → limit < 2 ^ 16
    → a.bytes ≡ string x ++ rest → string_at limit a ≡ Ok (x, past a (string x) rest)
unfolding string_at
string_again limit x a rest le small_limit e =
    let front = to_be_bytes w16 (length x) in
    let n = number_again w16 (2 ^ 16) wide16 (length x) a (x ++ rest) (omega arith) (e ∙ append_assoc front x rest) in
    let within : ltb limit (length x) ≡ false = le-ltb _ _ le in
    let part = part_again x (past a front (x ++ rest)) rest refl in
    rw (n, within, part) (ap (λ (b : Ahead). Ok (x, b)) (past-then a front x rest))
