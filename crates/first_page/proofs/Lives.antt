-- What the records of the first page tell: each key that has a record has one life, and every other key has none.
use Rattle.std.proofs.Common.{◌≡◌, inl, ℕ, zero, suc, ◌+◌, ◌^◌, ◌<◌, ◌≤◌, ◌==◌, Bool, true, false, ◌&&◌, if◌then◌else◌, List, []}
use Rattle.std.proofs.Common.{◌∷◌, ◌++◌, Option, Some, None, is_some, refl, sym, ap, subst, ◌∙◌, arith}
use Rattle.std.specs.List.{list_all}
use Rattle.std.specs.Str.{bytes_eq}
use Rattle.std.proofs.lemmas.Bool.{eqb-true, eqb-false, ne_eqb}
use Rattle.std.proofs.lemmas.Grind.{common_steps}
use Rattle.std.proofs.lemmas.Slice.Eq.{bytes_eq-Decides}
use Rattle.xdr_grammar.specs.Items.{hyper}
use Rattle.pair_types.specs.declared.quad.Quad.{Quad}
use Rattle.pairs.specs.Lives.{Life, never, new_life, life_of, lives_of, AreLives}
use Rattle.fs_keys.specs.declared.key_parts.KeyParts.TheVariants as key
use Rattle.fs_keys.specs.Keys.{Parts, key_of, parts_of}
use Rattle.fs_keys.proofs.KeyLaws.{said-again}
use Rattle.first_page.specs.Records.{newborn, lane_quad, lanes_to}

-- the records, whatever the values of the first, of the root and of the times of `.snapshot`
abbrev pub quads_with : List ℕ → List ℕ → List ℕ → List Quad
quads_with first root times =
    ((newborn key.First first ∷ lanes_to 16) ++ newborn (key.Inode 1) root ∷ []) ++ newborn key.Times times ∷ []

-- ---- keys that are equal

same_bytes : (a b : List ℕ) → bytes_eq a b ≡ true → a ≡ b
same_bytes a b is = grind (arith, common_steps, bytes_eq-Decides a b)

-- ---- lives in order

is_nil : List Life → Bool
is_nil [] = true
is_nil (l ∷ ls) = false

nil_is : (ls : List Life) → is_nil ls ≡ true → ls ≡ []
unfolding is_nil
nil_is [] is = refl
nil_is (l ∷ ls) is = absurd (cc)

-- each was born at 1 and is alive, and no later one has its key
are_right : List Quad → Bool
are_right [] = true
are_right (q ∷ qs) = ((q.birth == 1) && (q.death == never)) && (is_nil (lives_of qs q.key) && are_right qs)

both-first : (a b : Bool) → (a && b) ≡ true → a ≡ true
both-first true b is = refl
both-first false b is = absurd (cc)

both-second : (a b : Bool) → (a && b) ≡ true → b ≡ true
both-second true b is = is
both-second false b is = absurd (cc)

right_lives : (qs : List Quad) → are_right qs ≡ true → (k : List ℕ) → AreLives 1 0 (lives_of qs k)
unfolding are_right AreLives
right_lives [] right k = tt
right_lives (q ∷ qs) right k =
    let later : are_right qs ≡ true = both-second (is_nil (lives_of qs q.key)) (are_right qs) apart in
    by_key (bytes_eq q.key k) refl (right_lives qs later k)
  where
    new : ((q.birth == 1) && (q.death == never)) ≡ true
    new = both-first ((q.birth == 1) && (q.death == never)) (is_nil (lives_of qs q.key) && are_right qs) right

    apart : (is_nil (lives_of qs q.key) && are_right qs) ≡ true
    apart = both-second ((q.birth == 1) && (q.death == never)) (is_nil (lives_of qs q.key) && are_right qs) right

    born : q.birth ≡ 1
    born = eqb-true q.birth 1 (both-first (q.birth == 1) (q.death == never) new)

    alive : q.death ≡ never
    alive = eqb-true q.death never (both-second (q.birth == 1) (q.death == never) new)

    alone : lives_of qs q.key ≡ []
    alone = nil_is (lives_of qs q.key) (both-first (is_nil (lives_of qs q.key)) (are_right qs) apart)

    by_key : (b : Bool) → bytes_eq q.key k ≡ b → AreLives 1 0 (lives_of qs k)
        → AreLives 1 0 (if b then life_of q ∷ lives_of qs k else lives_of qs k)
    by_key true is more = (
      omega arith,
      omega (arith, born),
      omega (arith, born, alive),
      inl (alive, subst (λ (x : List ℕ). lives_of qs x ≡ []) (same_bytes q.key k is) alone),
    )
    by_key false is more = more

quads_right : (first root times : List ℕ) → are_right (quads_with first root times) ≡ true
unfolding are_right is_nil lanes_to
quads_right first root times = refl

pub lives_in_order : (first root times k : List ℕ) → AreLives 1 0 (lives_of (quads_with first root times) k)
lives_in_order first root times k = right_lives (quads_with first root times) (quads_right first root times) k

-- ---- keys outside of the table

outside_none : (qs : List Quad) → list_all (λ q. is_some (parts_of q.key)) qs ≡ true → (k : List ℕ) → parts_of k ≡ None
    → lives_of qs k ≡ []
outside_none [] all k out = refl
outside_none (q ∷ qs) all k out =
    let later : list_all (λ q. is_some (parts_of q.key)) qs ≡ true =
    both-second (is_some (parts_of q.key)) (list_all (λ q. is_some (parts_of q.key)) qs) all in
    by_key (bytes_eq q.key k) refl (outside_none qs later k out)
  where
    by_key : (b : Bool) → bytes_eq q.key k ≡ b → lives_of qs k ≡ []
        → (if b then life_of q ∷ lives_of qs k else lives_of qs k) ≡ []
    by_key true is more =
        let none : parts_of q.key ≡ None = subst (λ (x : List ℕ). parts_of x ≡ None) (sym (same_bytes q.key k is)) out in
        let some : is_some (parts_of q.key) ≡ true =
        both-first (is_some (parts_of q.key)) (list_all (λ q. is_some (parts_of q.key)) qs) all in
        let clash : true ≡ false = sym some ∙ ap (λ (o : Option Parts). is_some o) none in
        absurd (cc)
    by_key false is more = more

pub outside_table : (first root times k : List ℕ) → parts_of k ≡ None → lives_of (quads_with first root times) k ≡ []
unfolding lanes_to
outside_table first root times k out = outside_none (quads_with first root times) refl k out

-- ---- rows with one record, and rows with none

module _ (first root times : List ℕ) where
  pub first_lives : lives_of (quads_with first root times) (key_of key.First) ≡ new_life 1 first ∷ []
  unfolding lanes_to
  first_lives = refl

  pub times_lives : lives_of (quads_with first root times) (key_of key.Times) ≡ new_life 1 times ∷ []
  unfolding lanes_to
  times_lives = refl

  pub snapshot_lives : (number : ℕ) → lives_of (quads_with first root times) (key_of (key.Snapshot number)) ≡ []
  unfolding lanes_to
  snapshot_lives number = refl

  pub name_lives : (directory : ℕ) (name : List ℕ) → lives_of (quads_with first root times)
      (key_of (key.Name directory name)) ≡ []
  unfolding lanes_to
  name_lives directory name = refl

  pub cookie_lives : (directory cookie : ℕ)
      → lives_of (quads_with first root times) (key_of (key.Cookie directory cookie)) ≡ []
  unfolding lanes_to
  cookie_lives directory cookie = refl

  pub extent_lives : (file index : ℕ) → lives_of (quads_with first root times) (key_of (key.Extent file index)) ≡ []
  unfolding lanes_to
  extent_lives file index = refl

  pub stale_lives : (file : ℕ) → lives_of (quads_with first root times) (key_of (key.Stale file)) ≡ []
  unfolding lanes_to
  stale_lives file = refl

-- ---- inodes

inode_as : ℕ → Option Parts
inode_as id = Some (key.Inode id)

same_inode : (a b : ℕ) → inode_as a ≡ inode_as b → b ≡ a
unfolding inode_as
same_inode a b is = cc

-- the root's key is no other inode's
other_inode : (id : ℕ) → id < 2 ^ 64 → (id ≡ 1 → ⊥) → (b : Bool)
    → bytes_eq (key_of (key.Inode 1)) (key_of (key.Inode id)) ≡ b → b ≡ false
unfolding inode_as
other_inode id fits other true is =
    let keys : key_of (key.Inode 1) ≡ key_of (key.Inode id) = same_bytes (key_of (key.Inode 1)) (key_of (key.Inode id)) is in
    absurd (other (same_inode 1 id (sym (said-again (key.Inode 1) (omega arith))
    ∙ (ap parts_of keys ∙ said-again (key.Inode id) fits))))
other_inode id fits other false is = refl

inode_key : (id : ℕ) → id < 2 ^ 64 → (b : Bool) → (id == 1) ≡ b → bytes_eq (key_of (key.Inode 1)) (key_of (key.Inode id)) ≡ b
inode_key id fits true is =
    subst (λ (n : ℕ). bytes_eq (key_of (key.Inode 1)) (key_of (key.Inode n)) ≡ true) (sym (eqb-true id 1 is)) refl
inode_key id fits false is = other_inode id fits (eqb-false id 1 is) (bytes_eq (key_of (key.Inode 1)) (key_of (key.Inode id)))
    refl

pub inode_lives : (first root times : List ℕ) (id : ℕ) → id < 2 ^ 64
    → lives_of (quads_with first root times) (key_of (key.Inode id)) ≡ (if id == 1 then new_life 1 root ∷ [] else [])
unfolding lanes_to
inode_lives first root times id fits =
    ap (λ (b : Bool). if b then new_life 1 root ∷ [] else []) (inode_key id fits (id == 1) refl)

-- ---- lanes

lives-append : (a b : List Quad) (k : List ℕ) → lives_of (a ++ b) k ≡ lives_of a k ++ lives_of b k
lives-append [] b k = refl
lives-append (q ∷ a) b k = by_key (bytes_eq q.key k) (lives-append a b k)
  where
    by_key : (t : Bool) → lives_of (a ++ b) k ≡ lives_of a k ++ lives_of b k
        → (if t then life_of q ∷ lives_of (a ++ b) k else lives_of (a ++ b) k)
        ≡ (if t then life_of q ∷ lives_of a k else lives_of a k) ++ lives_of b k
    by_key true more = ap (λ (ls : List Life). life_of q ∷ ls) more
    by_key false more = more

abbrev lane_life : ℕ → Life
lane_life lane = new_life 1 (hyper.spelling (16 + lane))

-- the record of one lane, at the key of another or of the same
last_lane : (n lane : ℕ) (b : Bool) → (n == lane) ≡ b
    → lives_of (lane_quad n ∷ []) (key_of (key.Lane lane)) ≡ (if b then lane_life n ∷ [] else [])
last_lane n lane b is = ap (λ (t : Bool). if t && true then lane_life n ∷ [] else []) is ∙ by_test b
  where
    by_test : (t : Bool) → (if t && true then lane_life n ∷ [] else []) ≡ (if t then lane_life n ∷ [] else [])
    by_test true = refl
    by_test false = refl

lanes_none : (n lane : ℕ) → n ≤ lane → lives_of (lanes_to n) (key_of (key.Lane lane)) ≡ []
unfolding lanes_to
lanes_none zero lane above = refl
lanes_none (suc n) lane above =
    let other : (n == lane) ≡ false = ne_eqb n lane (λ e. omega arith) in
    lives-append (lanes_to n) (lane_quad n ∷ []) (key_of (key.Lane lane))
    ∙ (ap (λ (ls : List Life). ls ++ lives_of (lane_quad n ∷ []) (key_of (key.Lane lane))) (lanes_none n lane (omega arith))
    ∙ last_lane n lane false other)

lanes_some : (n lane : ℕ) → lane < n → lives_of (lanes_to n) (key_of (key.Lane lane)) ≡ lane_life lane ∷ []
unfolding lanes_to
lanes_some zero lane low = absurd (omega arith)
lanes_some (suc n) lane low =
    lives-append (lanes_to n) (lane_quad n ∷ []) (key_of (key.Lane lane))
    ∙ by_test (n == lane) refl (λ less. lanes_some n lane less)
  where
    by_test : (b : Bool) → (n == lane) ≡ b → (lane < n → lives_of (lanes_to n) (key_of (key.Lane lane)) ≡ lane_life lane ∷ [])
        → lives_of (lanes_to n) (key_of (key.Lane lane)) ++ lives_of (lane_quad n ∷ []) (key_of (key.Lane lane))
        ≡ lane_life lane ∷ []
    by_test true is more =
        let same : n ≡ lane = eqb-true n lane is in
        ap (λ (ls : List Life). ls ++ lives_of (lane_quad n ∷ []) (key_of (key.Lane lane))) (lanes_none n lane (omega arith))
        ∙ (last_lane n lane true is ∙ ap (λ (m : ℕ). lane_life m ∷ []) same)
    by_test false is more =
        let other : n ≡ lane → ⊥ = eqb-false n lane is in
        ap (λ (ls : List Life). ls ++ lives_of (lane_quad n ∷ []) (key_of (key.Lane lane))) (more (omega arith))
        ∙ ap (λ (ls : List Life). lane_life lane ∷ ls) (last_lane n lane false is)

lane_lives : (first root times : List ℕ) (lane : ℕ) (ls : List Life) → lives_of (lanes_to 16) (key_of (key.Lane lane)) ≡ ls
    → lives_of (quads_with first root times) (key_of (key.Lane lane)) ≡ (ls ++ []) ++ []
lane_lives first root times lane ls is =
    lives-append (newborn key.First first ∷ lanes_to 16 ++ newborn (key.Inode 1) root ∷ []) (newborn key.Times times ∷ [])
    (key_of (key.Lane lane))
    ∙ (ap (λ (xs : List Life). xs ++ []) (lives-append (newborn key.First first ∷ lanes_to 16) (newborn (key.Inode 1) root ∷ [])
    (key_of (key.Lane lane))) ∙ ap (λ (xs : List Life). (xs ++ []) ++ []) is)

pub lane_lives-some : (first root times : List ℕ) (lane : ℕ) → lane < 16
    → lives_of (quads_with first root times) (key_of (key.Lane lane)) ≡ lane_life lane ∷ []
lane_lives-some first root times lane low = lane_lives first root times lane _ (lanes_some 16 lane low)

pub lane_lives-none : (first root times : List ℕ) (lane : ℕ) → 16 ≤ lane
    → lives_of (quads_with first root times) (key_of (key.Lane lane)) ≡ []
lane_lives-none first root times lane high = lane_lives first root times lane _ (lanes_none 16 lane high)
