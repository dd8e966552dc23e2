-- What follows a key: the keys that have records, and a walk that passes over the keys that a view has not.
use Rattle.std.proofs.Common.{◌≡◌, ◌≢◌, ◌⊎◌, inl, inr, ℕ, ◌<◌, ◌≤◌, true, false, List, [], ◌∷◌, ◌++◌}
use Rattle.std.proofs.Common.{Option, Some, None, refl, sym, ◌∙◌, ap, subst, arith}
use Rattle.std.specs.Prelude.{All, Contains, option_map}
use Rattle.std.specs.Ordering.{nat_cmp, ordering_then, ordering_reverse}
use Rattle.std.specs.Cmp.Lexicographic.{slice_cmp}
use Rattle.std.specs.declared.cmp.Ordering.{Ordering}
use Rattle.std.specs.declared.cmp.Ordering.TheVariants.{Less, Equal, Greater}
use Rattle.std.proofs.lemmas.Cmp.{ranked, nat_list_cmp_total}
use Rattle.std.proofs.lemmas.List.Elements.{All-weaker}
use Rattle.pair_types.specs.declared.fault.PairFault.{PairFault}
use Rattle.pair_types.specs.declared.quad.Quad.{Quad}
use Rattle.pair_types.specs.PageState.{PageState}
use Rattle.btree_page.specs.Content.{Bound, IsBelow}
use Rattle.btree_page.specs.Tree.{quad_bound}
use Rattle.btree_search.specs.declared.aim.Aim.TheVariants.{After}
use Rattle.btree_search.specs.Aim.{is_sought}
use Rattle.btree_search.specs.Found.{takes, IsFound, IsFoundIn, OnlyReads}
use Rattle.btree_search.proofs.Walks.{only_then, only_same}
use Rattle.pairs.specs.declared.at.At.{At}
use Rattle.pairs.specs.Lives.{Life, never, seen, life_of, lives_of, AreLives}
use Rattle.pairs.specs.Versions.{Versions, epoch, HasLives, value_at}
use Rattle.pairs.proofs.RecordsLaws.{lives_of-split}
use Rattle.pairs.specs.Found.{IsBefore, IsFrom, Follows}
use Rattle.birth_death.specs.Shows.{FindsIn, GivesUpIn}
use Rattle.birth_death.specs.Walks.{FollowsKey}
use Rattle.birth_death.proofs.Finding.{Lists, lists-of, shows-only, finds-later, finds-then, gives-up-then}
use Rattle.birth_death.proofs.Records.{each-life, contains-split, same-key}

-- ---- the order of keys

pub turned-key : (a b : List ℕ) (o : Ordering) → slice_cmp nat_cmp a b ≡ o → slice_cmp nat_cmp b a ≡ ordering_reverse o
turned-key a b o is = nat_list_cmp_total.antisymm b a ∙ ap ordering_reverse is

-- behind a key is behind each one that is not behind it
pub from-before : (a b c : List ℕ) → IsFrom a b → IsBefore b c → IsBefore a c
from-before a b c from before = by_order (slice_cmp nat_cmp a b) refl from
  where
    by_order : (o : Ordering) → slice_cmp nat_cmp a b ≡ o → o ≢ Greater → IsBefore a c
    by_order Less is h = nat_list_cmp_total.trans a b c is before
    by_order Equal is h = nat_list_cmp_total.congr a b c is ∙ before
    by_order Greater is h = absurd (h refl)

pub before-from : (a b : List ℕ) → IsBefore a b → IsFrom a b
before-from a b before = λ wrong. cc

pub not-back : (a b : List ℕ) → IsBefore a b → IsFrom b a → ⊥
not-back a b before back = back (turned-key a b Less before)

pub from-same : (a : List ℕ) → IsFrom a a
from-same a = λ wrong. (let back = turned-key a a Greater wrong in cc)

-- a key is at most another one, or behind it
pub upto-or-behind : (k last : List ℕ) → IsFrom k last ⊎ IsBefore last k
upto-or-behind k last = by_order (slice_cmp nat_cmp k last) refl
  where
    by_order : (o : Ordering) → slice_cmp nat_cmp k last ≡ o → (o ≢ Greater) ⊎ IsBefore last k
    by_order Less is = inl (λ wrong. cc)
    by_order Equal is = inl (λ wrong. cc)
    by_order Greater is = inr (turned-key k last Greater is)

-- ---- records and the lives that they tell

pub some-life : (front rest : List Life) (l : Life) → front ++ (l ∷ rest) ≢ []
some-life [] rest l = λ e. cc
some-life (m ∷ front) rest l = λ e. cc

-- the life of a record is among those of its key
pub listed : (v : Versions) (quads : List Quad) (q : Quad) → Lists v quads → Contains quads q
    → (front : List Life) × (rest : List Life) × (v.lives q.key ≡ front ++ (life_of q ∷ rest))
listed v quads q lists among =
    let split = contains-split quads q among in (
      lives_of split.0 q.key,
      lives_of split.1 q.key,
      lists.lives q.key ∙ ap (λ (xs : List Quad). lives_of xs q.key) split.2
          ∙ lives_of-split split.0 q split.1 q.key refl,
    )

pub has-lives : (v : Versions) (quads : List Quad) (q : Quad) → Lists v quads → Contains quads q → v.lives q.key ≢ []
has-lives v quads q lists among =
    let found = listed v quads q lists among in
    λ none. some-life found.0 found.1 (life_of q) (sym found.2 ∙ none)

upto-birth : (epoch from : ℕ) (front rest : List Life) (l : Life) → AreLives epoch from (front ++ (l ∷ rest))
    → l.birth ≤ epoch
unfolding AreLives
upto-birth epoch from [] rest l (a, b, c, d) = b
upto-birth epoch from (m ∷ front) rest l (a, b, c, inl h) = absurd (some-life front rest l h.1)
upto-birth epoch from (m ∷ front) rest l (a, b, c, inr h) = upto-birth epoch m.death front rest l h.1

-- no record is born after the greatest number
pub born-early : (v : Versions) (quads : List Quad) (q : Quad) → Lists v quads → HasLives v → Contains quads q
    → q.birth < never
born-early v quads q lists has among =
    let found = listed v quads q lists among in
    let upto : q.birth ≤ epoch v =
    upto-birth (epoch v) 0 found.0 found.1 (life_of q) (subst (AreLives (epoch v) 0) found.2 (has.lives q.key)) in
    omega (arith, has.early)

pub no-lives : (key : List ℕ) (quads : List Quad) → All (λ r. r.key ≡ key → ⊥) quads → lives_of quads key ≡ []
no-lives key quads none = each-life (λ l. ⊥) (λ ls. ls ≡ []) refl (λ l ls no_life rest. absurd no_life) key quads none

-- a record of a lower key lies below
pub below-by-key : (r q : Quad) → IsBefore r.key q.key → IsBelow (quad_bound r) (quad_bound q)
below-by-key r q before = rw before refl

-- ---- the first key behind another one

-- the place behind all records of a key
abbrev pub place-behind : List ℕ → Bound
place-behind after = record { key = after; birth = never }

-- a record of a key behind one is sought behind that
behind-taken : (after : List ℕ) (r : Quad) → IsBefore after r.key → takes After (place-behind after) r ≡ true
behind-taken after r behind =
    let greater : slice_cmp nat_cmp r.key after ≡ Greater = turned-key after r.key Less behind in
    rw greater refl

-- and one that is sought behind the greatest birth has a key behind it
taken-behind : (after : List ℕ) (r : Quad) → r.birth < never → takes After (place-behind after) r ≡ true
    → IsBefore after r.key
taken-behind after r early taken = by_order (slice_cmp nat_cmp r.key after) refl taken
  where
    by_birth : (o : Ordering) → nat_cmp r.birth never ≡ o → is_sought After o ≡ true → ⊥
    by_birth Less is t = cc
    by_birth Equal is t = cc
    by_birth Greater is t = let later : never < r.birth = ranked r.birth never Greater (sym is) in omega arith

    by_order : (o : Ordering) → slice_cmp nat_cmp r.key after ≡ o
        → is_sought After (ordering_then o (nat_cmp r.birth never)) ≡ true → IsBefore after r.key
    by_order Less is t = absurd (cc)
    by_order Equal is t = absurd (by_birth (nat_cmp r.birth never) refl t)
    by_order Greater is t = turned-key r.key after Greater is

pub next-key : (after : List ℕ) (v : Versions) (quads : List Quad) (found : Option Quad) → Lists v quads → HasLives v
    → IsFound After (place-behind after) quads found → FollowsKey after (option_map (λ (q : Quad). q.key) found) v
next-key after v quads None lists has none = λ k behind.
    lists.lives k
    ∙ no-lives k quads
    (All-weaker (λ r. takes After (place-behind after) r ≡ false) (λ r. r.key ≡ k → ⊥)
    (λ r left same. (let taken = behind-taken after r (subst (IsBefore after) (sym same) behind) in cc)) quads none)
next-key after v quads (Some q) lists has least = record {
  behind = taken-behind after q (born-early v quads q lists has least.among) least.sought;
  there = has-lives v quads q lists least.among;
  first = λ k behind before.
      lists.lives k
      ∙ no-lives k quads
      (All-weaker (λ r. takes After (place-behind after) r ≡ true → IsBelow (quad_bound r) (quad_bound q) → ⊥)
      (λ r. r.key ≡ k → ⊥)
      (λ r lowest same.
      lowest (behind-taken after r (subst (IsBefore after) (sym same) behind))
      (below-by-key r q (subst (λ (x : List ℕ). IsBefore x q.key) (sym same) before)))
      quads least.least);
}

-- what is found in each tree is so of what was shown
pub found-follows : (old new : PageState) (after : List ℕ) (found : Option Quad) → OnlyReads old new
    → IsFoundIn (IsFound After (place-behind after)) new found
    → FindsIn old new (FollowsKey after (option_map (λ (q : Quad). q.key) found))
found-follows old new after found only is = λ under v agrees shows has.
    let s = shows-only old new under v only shows in
    next-key after v s.quads found (lists-of new under v s) has (is under agrees s.quads s.slots s.formed)

-- ---- a walk

-- so far there is none that the view has
pub record Passed (at : At) (after last : List ℕ) (v : Versions) : Type 0 where
  pub from : IsFrom after last
  pub none : (k : List ℕ) → IsBefore after k → IsFrom k last → value_at at v k ≡ None

pub record Walked (at : At) (after last : List ℕ) (a b : PageState) : Type 0 where
  pub only : OnlyReads a b
  pub passed : FindsIn a b (Passed at after last)

pub walk-starts : (at : At) (after last : List ℕ) (a : PageState) → last ≡ after → Walked at after last a a
walk-starts at after last a same = subst (λ (x : List ℕ). Walked at after x a a) (sym same) start
  where
    start : Walked at after after a a
    start = record {
      only = only_same a;
      passed = λ under v agrees shows has. record {
        from = from-same after;
        none = λ k behind upto. absurd (not-back after k behind upto);
      };
    }

-- where no key follows the last one, none follows that the view has
ends-so : (at : At) (after last : List ℕ) (v : Versions) → Passed at after last v → FollowsKey last None v
    → Follows at after None v
ends-so at after last v passed none = λ k behind. by_place k behind (upto-or-behind k last)
  where
    by_place : (k : List ℕ) → IsBefore after k → IsFrom k last ⊎ IsBefore last k → value_at at v k ≡ None
    by_place k behind (inl upto) = passed.none k behind upto
    by_place k behind (inr past) = ap (seen at) (none k past)

-- up to the key that follows the last one the view has none
none-up-to : (at : At) (after last key : List ℕ) (v : Versions) → Passed at after last v → FollowsKey last (Some key) v
    → (k : List ℕ) → IsBefore after k → IsBefore k key → value_at at v k ≡ None
none-up-to at after last key v passed next k behind before = by_place (upto-or-behind k last)
  where
    by_place : IsFrom k last ⊎ IsBefore last k → value_at at v k ≡ None
    by_place (inl upto) = passed.none k behind upto
    by_place (inr past) = ap (seen at) (next.first k past before)

finds-so : (at : At) (after last key value : List ℕ) (v : Versions) → Passed at after last v → FollowsKey last (Some key) v
    → value_at at v key ≡ Some value → Follows at after (Some (key, value)) v
finds-so at after last key value v passed next here = record {
  behind = from-before after last key passed.from next.behind;
  has = here;
  first = none-up-to at after last key v passed next;
}

passes-so : (at : At) (after last key : List ℕ) (v : Versions) → Passed at after last v → FollowsKey last (Some key) v
    → value_at at v key ≡ None → Passed at after key v
passes-so at after last key v passed next here = record {
  from = before-from after key (from-before after last key passed.from next.behind);
  none = λ k behind upto. by_order k behind (slice_cmp nat_cmp k key) refl upto;
}
  where
    by_order : (k : List ℕ) → IsBefore after k → (o : Ordering) → slice_cmp nat_cmp k key ≡ o → o ≢ Greater
        → value_at at v k ≡ None
    by_order k behind Less is upto = none-up-to at after last key v passed next k behind is
    by_order k behind Equal is upto = subst (λ (x : List ℕ). value_at at v x ≡ None) (sym (same-key k key is)) here
    by_order k behind Greater is upto = absurd (upto refl)

pub walk-ends : (at : At) (after last : List ℕ) (a b c : PageState) → Walked at after last a b → OnlyReads b c
    → FindsIn b c (FollowsKey last None) → FindsIn a c (Follows at after None)
walk-ends at after last a b c walked only none = λ under v agrees shows has.
    ends-so at after last v (finds-later a b c (Passed at after last) only.extends walked.passed under v agrees shows has)
    (finds-then a b c (FollowsKey last None) walked.only none under v agrees shows has)

-- a turn of it: a key was found, and then what the view has of it
pub record Turn (at : At) (last key : List ℕ) (value : Option (List ℕ)) (b c d : PageState) : Type 0 where
  pub only : OnlyReads b c
  pub next : FindsIn b c (FollowsKey last (Some key))
  pub more : OnlyReads c d
  pub here : FindsIn c d (λ v. value_at at v key ≡ value)

-- what a walk and its turn found, together
both-so : (at : At) (after last key : List ℕ) (value : Option (List ℕ)) (a b c d : PageState) (IsSo : Versions → Type 0)
    → Walked at after last a b → Turn at last key value b c d
    → ((v : Versions) → Passed at after last v → FollowsKey last (Some key) v → value_at at v key ≡ value → IsSo v)
    → FindsIn a d IsSo
both-so at after last key value a b c d IsSo walked turn all = λ under v agrees shows has.
    all v
    (finds-later a b d (Passed at after last) (only_then b c d turn.only turn.more).extends walked.passed
    under v agrees shows has)
    (finds-later a c d (FollowsKey last (Some key)) turn.more.extends
    (finds-then a b c (FollowsKey last (Some key)) walked.only turn.next) under v agrees shows has)
    (finds-then a c d (λ v. value_at at v key ≡ value) (only_then a b c walked.only turn.only) turn.here
    under v agrees shows has)

pub walk-finds : (at : At) (after last key value : List ℕ) (a b c d : PageState) → Walked at after last a b
    → Turn at last key (Some value) b c d → FindsIn a d (Follows at after (Some (key, value)))
walk-finds at after last key value a b c d walked turn =
    both-so at after last key (Some value) a b c d (Follows at after (Some (key, value))) walked turn
    (finds-so at after last key value)

pub walk-passes : (at : At) (after last key : List ℕ) (a b c d : PageState) → Walked at after last a b
    → Turn at last key None b c d → Walked at after key a d
walk-passes at after last key a b c d walked turn = record {
  only = only_then a b d walked.only (only_then b c d turn.only turn.more);
  passed = both-so at after last key None a b c d (Passed at after key) walked turn (passes-so at after last key);
}

-- ---- why it gives up

pub only-gives-up : (a b c : PageState) (fault : PairFault) → OnlyReads a b → OnlyReads b c
    → GivesUpIn b c HasLives fault → GivesUpIn a c HasLives fault
only-gives-up a b c fault before only cause =
    gives-up-then a b c HasLives HasLives fault (record { only = before; finds = λ under v agrees shows has. has })
    only.extends cause
