-- The lives that a list of records tells: where it is split, and where one record is edited.
use Rattle.std.proofs.Common.{◌≡◌, ℕ, ◌==◌, Bool, true, false, if◌then◌else◌, List, [], ◌∷◌, ◌++◌, Option, Some, None, option_map}
use Rattle.std.proofs.Common.{refl, sym, ◌∙◌, ap, subst, arith}
use Rattle.std.proofs.Math.Path.{fun_ext}
use Rattle.std.proofs.lemmas.Grind.{common_steps}
use Rattle.std.proofs.lemmas.List.{append_assoc, append-nil}
use Rattle.std.specs.List.{find}
use Rattle.std.specs.Str.{bytes_eq}
use Rattle.pair_types.specs.declared.quad.Quad.{Quad}
use Rattle.pairs.specs.declared.at.At.{At}
use Rattle.pairs.specs.declared.at.At.TheVariants.{Live, Snap}
use Rattle.pairs.specs.Lives.{Life, never, sees, seen, born, new_life, put_life, del_life, is_spent, spent, purge_life, life_of}
use Rattle.pairs.specs.Lives.{lives_of}
use Rattle.pairs.specs.Versions.{with_lives}
use Rattle.pairs.proofs.VersionsLaws.{is-same, same-is, other-is, lives-here, lives-there}

-- ---- look-ups of lives, by the first that passes a test

pub seen-find : (at : At) (ls : List Life) → seen at ls ≡ option_map (λ (l : Life). l.value) (find (sees at) ls)
seen-find at [] = refl
seen-find at (l ∷ ls) = by_test (sees at l) (seen-find at ls)
  where
    by_test : (t : Bool) → seen at ls ≡ option_map (λ (l : Life). l.value) (find (sees at) ls)
        → (if t then Some l.value else seen at ls) ≡ option_map (λ (l : Life). l.value) (if t then Some l else find (sees at) ls)
    by_test true ih = refl
    by_test false ih = ih

pub born-find : (ls : List Life) → born ls ≡ option_map (λ (l : Life). l.birth) (find (sees Live) ls)
born-find [] = refl
born-find (l ∷ ls) = by_test (l.death == never) (born-find ls)
  where
    by_test : (t : Bool) → born ls ≡ option_map (λ (l : Life). l.birth) (find (sees Live) ls)
        → (if t then Some l.birth else born ls) ≡ option_map (λ (l : Life). l.birth) (if t then Some l else find (sees Live) ls)
    by_test true ih = refl
    by_test false ih = ih

pub spent-find : (kept : List ℕ) (ls : List Life) → spent kept ls ≡ find (is_spent kept) ls
spent-find kept [] = refl
spent-find kept (l ∷ ls) = by_test (is_spent kept l) (spent-find kept ls)
  where
    by_test : (t : Bool) → spent kept ls ≡ find (is_spent kept) ls
        → (if t then Some l else spent kept ls) ≡ (if t then Some l else find (is_spent kept) ls)
    by_test true ih = refl
    by_test false ih = ih

-- ---- lives behind others, none of which passes

pub find-behind : (test : Life → Bool) (ls ms : List Life) → find test ls ≡ None → find test (ls ++ ms) ≡ find test ms
find-behind test [] ms none = refl
find-behind test (l ∷ ls) ms none = by_test (test l) (find-behind test ls ms) none
  where
    by_test : (t : Bool) → (find test ls ≡ None → find test (ls ++ ms) ≡ find test ms)
        → (if t then Some l else find test ls) ≡ None
        → (if t then Some l else find test (ls ++ ms)) ≡ find test ms
    by_test true ih none = cc
    by_test false ih none = ih none

pub find-before : (test : Life → Bool) (ls ms : List Life) (m : Life) → find test ls ≡ Some m → find test (ls ++ ms) ≡ Some m
find-before test [] ms m is = cc
find-before test (l ∷ ls) ms m is = by_test (test l) (find-before test ls ms m) is
  where
    by_test : (t : Bool) → (find test ls ≡ Some m → find test (ls ++ ms) ≡ Some m) → (if t then Some l else find test ls) ≡ Some m
        → (if t then Some l else find test (ls ++ ms)) ≡ Some m
    by_test true ih is = is
    by_test false ih is = ih is

pub put-behind : (epoch : ℕ) (value : List ℕ) (ls ms : List Life) → find (sees Live) ls ≡ None
    → put_life epoch value (ls ++ ms) ≡ ls ++ put_life epoch value ms
put-behind epoch value [] ms none = refl
put-behind epoch value (l ∷ ls) ms none = by_test (l.death == never) (put-behind epoch value ls ms) none
  where
    by_test : (t : Bool) → (find (sees Live) ls ≡ None → put_life epoch value (ls ++ ms) ≡ ls ++ put_life epoch value ms)
        → (if t then Some l else find (sees Live) ls) ≡ None
        → (if t
        then (if l.birth == epoch then new_life epoch value ∷ (ls ++ ms) else record l { death = epoch }
        ∷ (new_life epoch value ∷ (ls ++ ms)))
        else (l ∷ put_life epoch value (ls ++ ms)))
        ≡ l ∷ (ls ++ put_life epoch value ms)
    by_test true ih none = cc
    by_test false ih none = ap (λ (ns : List Life). l ∷ ns) (ih none)

pub del-behind : (epoch : ℕ) (ls ms : List Life) → find (sees Live) ls ≡ None → del_life epoch (ls ++ ms) ≡ ls
    ++ del_life epoch ms
del-behind epoch [] ms none = refl
del-behind epoch (l ∷ ls) ms none = by_test (l.death == never) (del-behind epoch ls ms) none
  where
    by_test : (t : Bool) → (find (sees Live) ls ≡ None → del_life epoch (ls ++ ms) ≡ ls ++ del_life epoch ms)
        → (if t then Some l else find (sees Live) ls) ≡ None
        → (if t then (if l.birth == epoch then (ls ++ ms) else record l { death = epoch } ∷ (ls ++ ms))
        else (l ∷ del_life epoch (ls ++ ms)))
        ≡ l ∷ (ls ++ del_life epoch ms)
    by_test true ih none = cc
    by_test false ih none = ap (λ (ns : List Life). l ∷ ns) (ih none)

pub purge-behind : (kept : List ℕ) (ls ms : List Life) → find (is_spent kept) ls ≡ None
    → purge_life kept (ls ++ ms) ≡ ls ++ purge_life kept ms
purge-behind kept [] ms none = refl
purge-behind kept (l ∷ ls) ms none = by_test (is_spent kept l) (purge-behind kept ls ms) none
  where
    by_test : (t : Bool) → (find (is_spent kept) ls ≡ None → purge_life kept (ls ++ ms) ≡ ls ++ purge_life kept ms)
        → (if t then Some l else find (is_spent kept) ls) ≡ None
        → (if t then (ls ++ ms) else l ∷ purge_life kept (ls ++ ms)) ≡ l ∷ (ls ++ purge_life kept ms)
    by_test true ih none = cc
    by_test false ih none = ap (λ (ns : List Life). l ∷ ns) (ih none)

-- ---- the lives of a list of records

pub lives_of-append : (qs rs : List Quad) (key : List ℕ) → lives_of (qs ++ rs) key ≡ lives_of qs key ++ lives_of rs key
lives_of-append [] rs key = refl
lives_of-append (q ∷ qs) rs key = by_test (bytes_eq q.key key) (lives_of-append qs rs key)
  where
    by_test : (t : Bool) → lives_of (qs ++ rs) key ≡ lives_of qs key ++ lives_of rs key
        → (if t then life_of q ∷ lives_of (qs ++ rs) key else lives_of (qs ++ rs) key)
        ≡ (if t then life_of q ∷ lives_of qs key else lives_of qs key) ++ lives_of rs key
    by_test true ih = ap (λ (ls : List Life). life_of q ∷ ls) ih
    by_test false ih = ih

pub lives_of-own : (q : Quad) (qs : List Quad) (key : List ℕ) → q.key ≡ key → lives_of (q ∷ qs) key ≡ life_of q ∷ lives_of qs key
lives_of-own q qs key is = rw (subst (λ (k : List ℕ). bytes_eq q.key k ≡ true) is (is-same q.key)) refl

pub lives_of-other : (q : Quad) (qs : List Quad) (key : List ℕ) → bytes_eq q.key key ≡ false
    → lives_of (q ∷ qs) key ≡ lives_of qs key
lives_of-other q qs key other = rw other refl

-- a split at a record of the key: its life stands behind those of the records before it
pub lives_of-split : (qs : List Quad) (q : Quad) (rs : List Quad) (key : List ℕ) → q.key ≡ key
    → lives_of (qs ++ (q ∷ rs)) key ≡ lives_of qs key ++ (life_of q ∷ lives_of rs key)
lives_of-split qs q rs key is =
    lives_of-append qs (q ∷ rs) key ∙ ap (λ (ls : List Life). lives_of qs key ++ ls) (lives_of-own q rs key is)

-- a record of one key is no record of another one
pub apart : (q : Quad) (key k : List ℕ) → q.key ≡ key → bytes_eq k key ≡ false → bytes_eq q.key k ≡ false
apart q key k is other = other-is q.key k (λ same. absurd (differs same))
  where
    differs : q.key ≡ k → ⊥
    differs same =
        let t : bytes_eq k k ≡ true = is-same k in
        let u : k ≡ key = sym same ∙ is in
        let w : bytes_eq k key ≡ true = subst (λ (j : List ℕ). bytes_eq k j ≡ true) u t in
        cc

-- where the lives of one key are these, and those of others stay, they are edited at that key
pub lives_of-edited : (key : List ℕ) (ls : List Life) (old new : List Quad) → lives_of new key ≡ ls
    → ((k : List ℕ) → bytes_eq k key ≡ false → lives_of new k ≡ lives_of old k) → lives_of new ≡ with_lives key ls (lives_of old)
unfolding with_lives
lives_of-edited key ls old new here there = fun_ext (λ k. by_key k (bytes_eq k key) refl)
  where
    by_key : (k : List ℕ) (t : Bool) → bytes_eq k key ≡ t → lives_of new k ≡ (if bytes_eq k key then ls else lives_of old k)
    by_key k true is = rw is (ap (lives_of new) (same-is k key is) ∙ here)
    by_key k false is = rw is (there k is)
