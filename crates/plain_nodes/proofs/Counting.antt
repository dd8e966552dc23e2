-- The numbers of all nodes, and what is counted over them.
use Rattle.std.proofs.Common.{◌≡◌, ℕ, ◌==◌, ◌+◌, ◌*◌, ◌^◌, ◌≤◌, ◌<◌, ◌||◌, cond, Bool, true, false, List, [], ◌∷◌, length, Option}
use Rattle.std.proofs.Common.{Some, is_some, ap, arith, refl, sym, subst, ◌∙◌}
use Rattle.std.proofs.lemmas.Bool.{eqb-true, true≢false}
use Rattle.std.proofs.lemmas.Cmp.{nat_cmp_total, tied_itself}
use Rattle.std.proofs.lemmas.List.Elements.{All-head, All-tail}
use Rattle.std.proofs.lemmas.List.Sums.{sum_by-cons}
use Rattle.std.proofs.lemmas.Map.Entries.{length-keys_of}
use Rattle.std.proofs.lemmas.Map.Keys.{IsStrictlyIncreasing-from_sorted, sorted_from_strictly_increasing}
use Rattle.std.proofs.lemmas.Map.Lookups.{exact_unsigned}
use Rattle.std.specs.BTreeMap.{BTreeMap, IsOrdered, btree_map_len, get, is_at, keys}
use Rattle.std.specs.Cmp.{unsigned_ties}
use Rattle.std.specs.List.{All, AllByRecursion, sum_by}
use Rattle.std.specs.List.Sorted.{IsStrictlySortedBy}
use Rattle.std.specs.Map.{keys_of, lookup}
use Rattle.std.specs.declared.cmp.Ordering.{Ordering}
use Rattle.std.specs.declared.cmp.Ordering.TheVariants.{Less, Equal, Greater}
use Rattle.std.specs.Ordering.{is_eq, nat_cmp, ordering_reverse}
use Rattle.fs_rules.specs.Tree.{Node, Nodes}
use Rattle.plain_nodes.specs.Counts.{Lists, bytes_at, bytes_in, bytes_of, is_among}

-- ---- one list of all numbers

-- each is above the number
abbrev AllAbove : ℕ → List ℕ → Type 0
AllAbove q ids = AllByRecursion (λ y. nat_cmp q y ≡ Less) ids

neither : (b c : Bool) → b ≡ false → c ≡ false → (b || c) ≡ false
neither true c e is = absurd (true≢false e)
neither false c e is = is

absent : (q : ℕ) (ids : List ℕ) → AllAbove q ids → is_among q ids ≡ false
absent q [] above = refl
absent q (x ∷ ids) above = neither (q == x) (is_among q ids) (unsigned_ties q x ∙ ap is_eq above.0) (absent q ids above.1)

above_too : (q x : ℕ) (ids : List ℕ) → nat_cmp q x ≡ Less → AllAbove x ids → AllAbove q ids
above_too q x [] less above = tt
above_too q x (y ∷ ids) less above = (nat_cmp_total.trans q x y less above.0, above_too q x ids less above.1)

first_is : (x : ℕ) (ids : List ℕ) → is_among x (x ∷ ids) ≡ true
first_is x ids = ap (λ (b : Bool). b || is_among x ids) (unsigned_ties x x ∙ ap is_eq (tied_itself nat_cmp_total x))

-- the one list begins above the other's first number
apart : (x y : ℕ) (xs ys : List ℕ) → nat_cmp x y ≡ Less → AllAbove y ys → is_among x (x ∷ xs) ≡ is_among x (y ∷ ys) → ⊥
apart x y xs ys less above h = true≢false (sym (first_is x xs) ∙ h ∙ absent x (y ∷ ys) (less, above_too x y ys less above))

heads_by : (x y : ℕ) (xs ys : List ℕ) → AllAbove x xs → AllAbove y ys → ((q : ℕ) → is_among q (x ∷ xs) ≡ is_among q (y ∷ ys))
    → (r : Ordering) → nat_cmp x y ≡ r → x ≡ y
heads_by x y xs ys s t h Less is = absurd (apart x y xs ys is t (h x))
heads_by x y xs ys s t h Equal is = exact_unsigned x y is
heads_by x y xs ys s t h Greater is = absurd (apart y x ys xs (nat_cmp_total.antisymm y x ∙ ap ordering_reverse is) s (sym (h y)))

other_than : (b c d : Bool) → (b || c) ≡ (b || d) → (b ≡ true → c ≡ false) → (b ≡ true → d ≡ false) → c ≡ d
other_than true c d e left right = left refl ∙ sym (right refl)
other_than false c d e left right = e

behind_first : (q x : ℕ) (ids : List ℕ) → AllAbove x ids → (q == x) ≡ true → is_among q ids ≡ false
behind_first q x ids above e = absent q ids (subst (λ z. AllAbove z ids) (sym (eqb-true q x e)) above)

tails : (x : ℕ) (xs ys : List ℕ) → AllAbove x xs → AllAbove x ys → ((q : ℕ) → is_among q (x ∷ xs) ≡ is_among q (x ∷ ys)) → (q : ℕ)
    → is_among q xs ≡ is_among q ys
tails x xs ys s t h q = other_than (q == x) (is_among q xs) (is_among q ys) (h q) (behind_first q x xs s) (behind_first q x ys t)

joined : (x y : ℕ) (xs ys : List ℕ) → x ≡ y → xs ≡ ys → x ∷ xs ≡ y ∷ ys
joined x y xs ys e is = λ i. e i ∷ is i

-- rising lists of the same numbers are the same
same : (xs ys : List ℕ) → IsStrictlySortedBy nat_cmp xs → IsStrictlySortedBy nat_cmp ys
    → ((q : ℕ) → is_among q xs ≡ is_among q ys) → xs ≡ ys
unfolding IsStrictlySortedBy
same [] [] s t h = refl
same [] (y ∷ ys) s t h = absurd (true≢false (sym (first_is y ys) ∙ sym (h y)))
same (x ∷ xs) [] s t h = absurd (true≢false (sym (first_is x xs) ∙ h x))
same (x ∷ xs) (y ∷ ys) s t h =
    let e = heads_by x y xs ys s.0 t.0 h (nat_cmp x y) refl in
    let above : AllAbove x ys = subst (λ z. AllAbove z ys) (sym e) t.0 in
    joined x y xs ys e (same xs ys s.1 t.1 (tails x xs ys s.0 above (λ q. h q ∙ ap (λ z. is_among q (z ∷ ys)) (sym e))))

-- ---- the keys of a map

either_some : (b : Bool) (n : Node) (o : Option Node) → (b || is_some o) ≡ is_some (cond b (Some n) o)
either_some true n o = refl
either_some false n o = refl

keys_found : (es : List (ℕ × Node)) (q : ℕ) → is_among q (keys_of es) ≡ is_some (lookup (is_at (nat_cmp q)) es)
keys_found [] q = refl
keys_found (e ∷ es) q =
    (λ i. unsigned_ties q e.0 i || keys_found es q i) ∙ either_some (is_at (nat_cmp q) e.0) e.1 (lookup (is_at (nat_cmp q)) es)

-- they are the numbers of all nodes
pub keys_list : (m : BTreeMap ℕ Node) → IsOrdered nat_cmp m → Lists (λ q. get nat_cmp m q) (keys m)
keys_list m ordered = record { rising = IsStrictlyIncreasing-from_sorted (keys m) ordered; all = keys_found m.entries }

keys_alone : (m : BTreeMap ℕ Node) → IsOrdered nat_cmp m → (ids : List ℕ) → Lists (λ q. get nat_cmp m q) ids → keys m ≡ ids
keys_alone m ordered ids l =
    same (keys m) ids ordered (sorted_from_strictly_increasing ids l.rising) (λ q. keys_found m.entries q ∙ sym (l.all q))

-- there are as many nodes as entries
pub nodes_counted : (m : BTreeMap ℕ Node) → IsOrdered nat_cmp m → (ids : List ℕ) → Lists (λ q. get nat_cmp m q) ids
    → btree_map_len m ≡ length ids
nodes_counted m ordered ids l = sym (length-keys_of m.entries) ∙ ap length (keys_alone m ordered ids l)

-- how many bytes the node of an entry holds, where it is a file
abbrev pub entry_bytes : ℕ × Node → ℕ
entry_bytes e = bytes_of e.1

-- the entry is that of the node of its number
abbrev pub Held : Nodes → ℕ × Node → Type 0
Held nodes e = nodes e.0 ≡ Some e.1

bytes_by_keys : (nodes : Nodes) (es : List (ℕ × Node)) → All (Held nodes) es → sum_by entry_bytes es ≡ bytes_at nodes (keys_of es)
bytes_by_keys nodes [] there = refl
bytes_by_keys nodes (e ∷ es) there =
    let first : bytes_of e.1 ≡ bytes_in (nodes e.0) = ap bytes_in {x = Some e.1} {y = nodes e.0}
    (sym (All-head (Held nodes) e es there)) in
    let rest = bytes_by_keys nodes es (All-tail (Held nodes) e es there) in
    sum_by-cons entry_bytes e es ∙ (λ i. first i + rest i) ∙ sym (sum_by-cons (λ q. bytes_in (nodes q)) e.0 (keys_of es))

-- the bytes of all entries are those of all nodes
pub bytes_counted : (m : BTreeMap ℕ Node) → IsOrdered nat_cmp m → All (Held (λ q. get nat_cmp m q)) m.entries → (ids : List ℕ)
    → Lists (λ q. get nat_cmp m q) ids
    → sum_by entry_bytes m.entries ≡ bytes_at (λ q. get nat_cmp m q) ids
bytes_counted m ordered there ids l =
    bytes_by_keys (λ q. get nat_cmp m q) m.entries there ∙ ap (bytes_at (λ q. get nat_cmp m q)) (keys_alone m ordered ids l)

-- ---- entry by entry

-- the bytes of all entries but those that are left; each holds less than 2 ^ 64
pub record Counted (all left : List (ℕ × Node)) (count : ℕ) : Type 0 where
  pub total : count + sum_by entry_bytes left ≡ sum_by entry_bytes all
  pub low : count + 2 ^ 64 * length left ≤ 2 ^ 64 * length all

pub counted_first : (all left : List (ℕ × Node)) → left ≡ all → Counted all left 0
counted_first all left is =
    let same_total : sum_by entry_bytes left ≡ sum_by entry_bytes all = ap (sum_by entry_bytes) is in
    let as_long : length left ≡ length all = ap length is in
    record { total = omega (arith, same_total); low = omega (arith, as_long) }

pub counted_fits : (all left rest : List (ℕ × Node)) (e : ℕ × Node) (count n : ℕ) → Counted all left count → left ≡ e ∷ rest
    → n < 2 ^ 64 → length all < 2 ^ 63 → count + n < 2 ^ 128
counted_fits all left rest e count n c is small few =
    let long : length left ≡ length rest + 1 = ap length is ∙ omega arith in
    omega (arith, c.low, long, small, few)

pub counted_next : (all left rest : List (ℕ × Node)) (e : ℕ × Node) (count n : ℕ) → Counted all left count → left ≡ e ∷ rest
    → n ≡ entry_bytes e → n < 2 ^ 64 → Counted all rest (count + n)
counted_next all left rest e count n c is counts small =
    let long : length left ≡ length rest + 1 = ap length is ∙ omega arith in
    let more : sum_by entry_bytes left ≡ entry_bytes e + sum_by entry_bytes rest = ap (sum_by entry_bytes) is
    ∙ sum_by-cons entry_bytes e rest in
    record {
      total = omega (arith, c.total, more, counts);
      low = omega (arith, c.low, long, small);
    }

pub counted_last : (all left : List (ℕ × Node)) (count : ℕ) → Counted all left count → left ≡ [] → count ≡ sum_by entry_bytes all
counted_last all left count c is =
    let none : sum_by entry_bytes left ≡ 0 = ap (sum_by entry_bytes) is in
    omega (arith, c.total, none)
