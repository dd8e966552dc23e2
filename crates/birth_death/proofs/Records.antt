-- Records in rising order, and the lives of a key among them.
use Rattle.std.proofs.Common.{◌≡◌, ◌≢◌, inl, inr, ◌⊎◌, ℕ, zero, suc, ◌<◌, ◌≤◌, Bool, true, false, if◌then◌else◌, ◌&&◌}
use Rattle.std.proofs.Common.{List, [], ◌∷◌, ◌++◌}
use Rattle.std.proofs.Common.{Option, Some, None, refl, sym, ◌∙◌, ap, subst, arith}
use Rattle.std.proofs.lemmas.Grind.{common_steps}
use Rattle.std.specs.Prelude.{All, Contains, option_map}
use Rattle.std.specs.List.{find}
use Rattle.std.specs.Str.{bytes_eq}
use Rattle.std.specs.Ordering.{nat_cmp, ordering_then}
use Rattle.std.specs.Cmp.Lexicographic.{slice_cmp}
use Rattle.std.specs.declared.cmp.Ordering.{Ordering}
use Rattle.std.specs.declared.cmp.Ordering.TheVariants.{Less, Equal, Greater}
use Rattle.std.proofs.lemmas.Cmp.{ranked, tied_itself, nat_list_cmp_total}
use Rattle.std.proofs.lemmas.List.Elements.{All-nil, All-cons, All-head, All-tail, All-weaker, All-same}
use Rattle.pair_types.specs.declared.quad.Quad.{Quad}
use Rattle.btree_page.specs.Content.{Bound, bound_cmp, IsBelow}
use Rattle.btree_page.specs.Tree.{quad_bound}
use Rattle.btree_search.specs.declared.aim.Aim.TheVariants.{After}
use Rattle.btree_search.specs.Aim.{is_sought}
use Rattle.btree_search.specs.Found.{takes, IsGreatest, IsFloor}
use Rattle.pairs.specs.declared.at.At.{At}
use Rattle.pairs.specs.Lives.{Life, never, sees, life_of, AreLives}
use Rattle.pairs.proofs.VersionsLaws.{is-same, same-is, other-is}
use Rattle.birth_death.specs.Quads.{lives_of, last_birth, if_seen}
use Rattle.birth_death.proofs.OneKey.{AllBehind, AllAhead, NoBirth, unseen-behind, seen-last}
use Rattle.birth_death.proofs.Rising.{Rises}

-- ---- lives of parts of a list

pub lives-append : (key : List ℕ) (a b : List Quad) → lives_of (a ++ b) key ≡ lives_of a key ++ lives_of b key
lives-append key [] b = refl
lives-append key (q ∷ a) b = by_test (bytes_eq q.key key) (lives-append key a b)
  where
    by_test : (t : Bool) → lives_of (a ++ b) key ≡ lives_of a key ++ lives_of b key
        → (if t then life_of q ∷ lives_of (a ++ b) key else lives_of (a ++ b) key)
        ≡ (if t then life_of q ∷ lives_of a key else lives_of a key) ++ lives_of b key
    by_test true same = ap (λ (ls : List Life). life_of q ∷ ls) same
    by_test false same = same

pub lives-here : (key : List ℕ) (q : Quad) (qs : List Quad) → q.key ≡ key
    → lives_of (q ∷ qs) key ≡ life_of q ∷ lives_of qs key
lives-here key q qs is =
    let t : bytes_eq q.key key ≡ true = subst (λ (k : List ℕ). bytes_eq q.key k ≡ true) is (is-same q.key) in
    rw t refl

pub lives-there : (key : List ℕ) (q : Quad) (qs : List Quad) → q.key ≢ key → lives_of (q ∷ qs) key ≡ lives_of qs key
lives-there key q qs other =
    let f : bytes_eq q.key key ≡ false = other-is q.key key other in
    rw f refl

-- what is so of each record of a key is so of each of its lives
pub each-life : (P : Life → Type 0) (PL : List Life → Type 0) → PL []
    → ((l : Life) (ls : List Life) → P l → PL ls → PL (l ∷ ls))
    → (key : List ℕ) (qs : List Quad) → All (λ q. q.key ≡ key → P (life_of q)) qs → PL (lives_of qs key)
each-life P PL nil cons key [] h = nil
each-life P PL nil cons key (q ∷ qs) h =
    by_test (bytes_eq q.key key) refl
    (All-head (λ r. r.key ≡ key → P (life_of r)) q qs h)
    (each-life P PL nil cons key qs (All-tail (λ r. r.key ≡ key → P (life_of r)) q qs h))
  where
    by_test : (t : Bool) → bytes_eq q.key key ≡ t → (q.key ≡ key → P (life_of q)) → PL (lives_of qs key)
        → PL (if t then life_of q ∷ lives_of qs key else lives_of qs key)
    by_test true is here more = cons (life_of q) (lives_of qs key) (here (same-is q.key key is)) more
    by_test false is here more = more

pub lives-behind : (n : ℕ) (key : List ℕ) (qs : List Quad) → All (λ q. q.key ≡ key → n < q.birth) qs
    → AllBehind n (lives_of qs key)
lives-behind n key qs h = each-life (λ l. n < l.birth) (AllBehind n) tt (λ l ls a b. (a, b)) key qs h

pub lives-no_birth : (n : ℕ) (key : List ℕ) (qs : List Quad) → All (λ q. q.key ≡ key → q.birth ≢ n) qs
    → NoBirth n (lives_of qs key)
lives-no_birth n key qs h = each-life (λ l. l.birth ≢ n) (NoBirth n) tt (λ l ls a b. (a, b)) key qs h

-- ---- the order

-- of two records of a key the lower one was born earlier
pub below-births : (q r : Quad) → IsBelow (quad_bound q) (quad_bound r) → q.key ≡ r.key → q.birth < r.birth
below-births q r below same =
    let tied : slice_cmp nat_cmp q.key r.key ≡ Equal = subst (λ (k : List ℕ). slice_cmp nat_cmp q.key k ≡ Equal) same
    (tied_itself nat_list_cmp_total q.key) in
    let less : nat_cmp q.birth r.birth ≡ Less = rw tied at below in
    ranked q.birth r.birth Less (sym less)

pub above-split : (a b : List Quad) (q : Quad) → Rises (a ++ (q ∷ b))
    → All (λ r. IsBelow (quad_bound q) (quad_bound r)) b
above-split [] b q rise = rise.0
above-split (x ∷ a) b q rise = above-split a b q rise.1

-- behind a record, the lives of its key are born later
pub above-lives : (q : Quad) (qs : List Quad) → All (λ r. IsBelow (quad_bound q) (quad_bound r)) qs
    → AllBehind q.birth (lives_of qs q.key)
above-lives q qs above =
    lives-behind q.birth q.key qs
    (All-weaker (λ r. IsBelow (quad_bound q) (quad_bound r)) (λ r. r.key ≡ q.key → q.birth < r.birth)
    (λ r below same. below-births q r below (sym same)) qs above)

pub same-key : (a b : List ℕ) → slice_cmp nat_cmp a b ≡ Equal → a ≡ b
same-key [] [] is = refl
same-key [] (y ∷ ys) is = absurd (cc)
same-key (x ∷ xs) [] is = absurd (cc)
same-key (x ∷ xs) (y ∷ ys) is = by_order (nat_cmp x y) refl is (same-key xs ys)
  where
    by_order : (o : Ordering) → nat_cmp x y ≡ o → ordering_then o (slice_cmp nat_cmp xs ys) ≡ Equal
        → (slice_cmp nat_cmp xs ys ≡ Equal → xs ≡ ys) → x ∷ xs ≡ y ∷ ys
    by_order Less o is more = absurd (cc)
    by_order Equal o is more =
        let first : x ≡ y = ranked x y Equal (sym o) in
        let rest : xs ≡ ys = more is in cc
    by_order Greater o is more = absurd (cc)

-- ---- the greatest record at or below a key and a birth

-- a record of the key that is sought behind a birth was born later, and one that is not was not
sought-later : (key : List ℕ) (n : ℕ) (q : Quad) → q.key ≡ key
    → takes After (record { key = key; birth = n }) q ≡ is_sought After (nat_cmp q.birth n)
sought-later key n q is =
    let tied : slice_cmp nat_cmp q.key key ≡ Equal = subst (λ (k : List ℕ). slice_cmp nat_cmp q.key k ≡ Equal) is
    (tied_itself nat_list_cmp_total q.key) in
    rw tied refl

taken-later : (key : List ℕ) (n : ℕ) (q : Quad) → q.key ≡ key → takes After (record { key = key; birth = n }) q ≡ true
    → n < q.birth
taken-later key n q is taken = by_order (nat_cmp q.birth n) refl (sym (sought-later key n q is) ∙ taken)
  where
    by_order : (o : Ordering) → nat_cmp q.birth n ≡ o → is_sought After o ≡ true → n < q.birth
    by_order Less o t = absurd (cc)
    by_order Equal o t = absurd (cc)
    by_order Greater o t = ranked q.birth n Greater (sym o)

left-earlier : (key : List ℕ) (n : ℕ) (q : Quad) → q.key ≡ key → takes After (record { key = key; birth = n }) q ≡ false
    → q.birth ≤ n
left-earlier key n q is left = by_order (nat_cmp q.birth n) refl (sym (sought-later key n q is) ∙ left)
  where
    by_order : (o : Ordering) → nat_cmp q.birth n ≡ o → is_sought After o ≡ false → q.birth ≤ n
    by_order Less o t = let lt : q.birth < n = ranked q.birth n Less (sym o) in omega arith
    by_order Equal o t = let eq : q.birth ≡ n = ranked q.birth n Equal (sym o) in omega arith
    by_order Greater o t = absurd (cc)

-- one of another key that is not sought has a lower key
left-lower : (key : List ℕ) (n : ℕ) (q : Quad) → q.key ≢ key → takes After (record { key = key; birth = n }) q ≡ false
    → slice_cmp nat_cmp q.key key ≡ Less
left-lower key n q other left = by_order (slice_cmp nat_cmp q.key key) refl left
  where
    by_order : (o : Ordering) → slice_cmp nat_cmp q.key key ≡ o
        → is_sought After (ordering_then o (nat_cmp q.birth n)) ≡ false → slice_cmp nat_cmp q.key key ≡ Less
    by_order Less o t = o
    by_order Equal o t = absurd (other (same-key q.key key o))
    by_order Greater o t = absurd (cc)

pub contains-split : (xs : List Quad) (x : Quad) → Contains xs x
    → (front : List Quad) × (rest : List Quad) × (xs ≡ front ++ (x ∷ rest))
contains-split [] x (k, lt, at) = absurd (omega arith)
contains-split (y ∷ ys) x (zero, lt, at) = ([], ys, ap (λ (z : Quad). z ∷ ys) at)
contains-split (y ∷ ys) x (suc k, lt, at) =
    let more = contains-split ys x (k, omega arith, at) in
    (y ∷ more.0, more.1, ap (λ (zs : List Quad). y ∷ zs) more.2)

all-right : (P : Quad → Type 0) (xs ys : List Quad) → All P (xs ++ ys) → All P ys
all-right P [] ys h = h
all-right P (x ∷ xs) ys h = all-right P xs ys (All-tail P x (xs ++ ys) h)

not_false : (t : Bool) → (t ≡ false → ⊥) → t ≡ true
not_false true h = refl
not_false false h = absurd (h refl)

-- behind the greatest one all are above
behind-greatest : (pair : Bound) (quads front rest : List Quad) (q : Quad) → Rises quads → IsGreatest pair quads q
    → quads ≡ front ++ (q ∷ rest)
    → All (λ r. takes After pair r ≡ true) rest
behind-greatest pair quads front rest q rise great split =
    let below = above-split front rest q (subst Rises split rise) in
    let none : All (λ r. takes After pair r ≡ false → IsBelow (quad_bound q) (quad_bound r) → ⊥) rest =
    All-tail (λ r. takes After pair r ≡ false → IsBelow (quad_bound q) (quad_bound r) → ⊥) q rest
    (all-right (λ r. takes After pair r ≡ false → IsBelow (quad_bound q) (quad_bound r) → ⊥) front (q ∷ rest)
    (All-same (λ r. takes After pair r ≡ false → IsBelow (quad_bound q) (quad_bound r) → ⊥)
    (front ++ (q ∷ rest)) quads (sym split) great.greatest)) in
    λ k d lt. not_false _ (λ left. none k d lt left (below k d lt))

all-later : (key : List ℕ) (n : ℕ) (qs : List Quad) → All (λ r. takes After (record { key = key; birth = n })
    r ≡ true) qs → AllBehind n (lives_of qs key)
all-later key n qs h =
    lives-behind n key qs
    (All-weaker (λ r. takes After (record { key = key; birth = n }) r ≡ true) (λ r. r.key ≡ key → n < r.birth)
    (λ r taken same. taken-later key n r same taken) qs h)

-- beside a greatest record of another key, all of the key are born later
other-later : (key : List ℕ) (n : ℕ) (quads : List Quad) (q : Quad) → q.key ≢ key
    → IsGreatest (record { key = key; birth = n }) quads q
    → AllBehind n (lives_of quads key)
other-later key n quads q other great =
    lives-behind n key quads
    (All-weaker (λ r. takes After (record { key = key; birth = n }) r ≡ false → IsBelow (quad_bound q) (quad_bound r)
    → ⊥) (λ r. r.key ≡ key → n < r.birth)
    (λ r none same. later r same none) quads great.greatest)
  where
    lower : slice_cmp nat_cmp q.key key ≡ Less
    lower = left-lower key n q other great.at_or_below

    later : (r : Quad) → r.key ≡ key → (takes After (record { key = key; birth = n }) r ≡ false → IsBelow (quad_bound q)
        (quad_bound r) → ⊥) → n < r.birth
    later r same none =
        taken-later key n r same (not_false _ (λ left. none left
        (let less : slice_cmp nat_cmp q.key r.key ≡ Less = subst (λ (k : List ℕ). slice_cmp nat_cmp q.key k ≡ Less)
        (sym same) lower in rw less refl)))

-- what a view sees of a key is the greatest record at or below the key and the last birth that it can see, if it sees that
pub floor-seen : (key : List ℕ) (at : At) (epoch : ℕ) (quads : List Quad) (found : Option Quad) → Rises quads
    → epoch < never
    → AreLives epoch 0 (lives_of quads key) → IsFloor (record { key = key; birth = last_birth at }) quads found
    → find (sees at) (lives_of quads key) ≡ option_map life_of (if_seen key at found)
floor-seen key at epoch quads None rise early are floor =
    unseen-behind at epoch 0 (lives_of quads key) early are (all-later key (last_birth at) quads floor)
floor-seen key at epoch quads (Some q) rise early are great = by_key (bytes_eq q.key key) refl
  where
    split : (front : List Quad) × (rest : List Quad) × (quads ≡ front ++ (q ∷ rest))
    split = contains-split quads q great.among

    hidden : (t : Bool) → (if t then Some (life_of q) else None) ≡ option_map life_of (if t then Some q else None)
    hidden true = refl
    hidden false = refl

    by_key : (t : Bool) → bytes_eq q.key key ≡ t → find (sees at) (lives_of quads key) ≡ option_map life_of (if
        t && sees at (life_of q) then Some q else None)
    by_key true is =
        let own : q.key ≡ key = same-is q.key key is in
        let listed : lives_of quads key ≡ lives_of split.0 key ++ (life_of q ∷ lives_of split.1 key) =
        ap (λ (xs : List Quad). lives_of xs key) split.2 ∙ lives-append key split.0 (q ∷ split.1)
        ∙ ap (λ (ls : List Life). lives_of split.0 key ++ ls) (lives-here key q split.1 own) in
        ap (find (sees at)) listed
        ∙ seen-last at epoch 0 (lives_of split.0 key) (lives_of split.1 key) (life_of q) early
        (subst (AreLives epoch 0) listed are)
        (left-earlier key (last_birth at) q own great.at_or_below)
        (all-later key (last_birth at) split.1 (behind-greatest _ quads split.0 split.1 q rise great split.2))
        ∙ hidden (sees at (life_of q))
    by_key false is =
        let other : q.key ≢ key = λ same. (let t : bytes_eq q.key key ≡ true = subst
        (λ (k : List ℕ). bytes_eq q.key k ≡ true) same (is-same q.key) in cc) in
        unseen-behind at epoch 0 (lives_of quads key) early are (other-later key (last_birth at) quads q other great)
