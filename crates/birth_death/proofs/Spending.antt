-- Records that are dead and unseen: the first of them from a key on, as a walk over the records finds it.
use Rattle.std.proofs.Common.{◌≡◌, ℕ, ◌<◌, Bool, true, false, List, [], ◌∷◌, ◌++◌, length, get_or}
use Rattle.std.proofs.Common.{Option, Some, None, refl, sym, ◌∙◌, ap, subst, arith}
use Rattle.std.specs.Prelude.{All, Contains}
use Rattle.std.specs.List.{find}
use Rattle.std.specs.Ordering.{nat_cmp, ordering_then}
use Rattle.std.specs.Cmp.Lexicographic.{slice_cmp}
use Rattle.std.specs.declared.cmp.Ordering.{Ordering}
use Rattle.std.specs.declared.cmp.Ordering.TheVariants.{Less, Equal, Greater}
use Rattle.std.proofs.lemmas.Cmp.{ranked}
use Rattle.std.proofs.lemmas.List.Elements.{All-nil, All-cons, All-head, All-tail, All-append, All-weaker, All-same}
use Rattle.pair_types.specs.declared.quad.Quad.{Quad}
use Rattle.pair_types.specs.declared.slot.Slot.{Slot}
use Rattle.pair_types.specs.PageMaps.{PageMap, over}
use Rattle.pair_types.specs.PageState.{PageState}
use Rattle.btree_page.specs.Content.{Bound, bound_cmp, IsBelow}
use Rattle.btree_page.specs.Tree.{quad_bound, IsFormed}
use Rattle.btree_search.specs.declared.aim.Aim.TheVariants.{AtOrAfter, After}
use Rattle.btree_search.specs.Aim.{is_sought}
use Rattle.btree_search.specs.Found.{takes, IsFound, IsFoundIn, OnlyReads}
use Rattle.btree_search.proofs.Backs.{all_left}
use Rattle.btree_search.proofs.Order.{turned}
use Rattle.btree_search.proofs.Walks.{only_then, agrees_before}
use Rattle.pairs.proofs.RecordsLaws.{spent-find, find-behind, lives_of-split}
use Rattle.pairs.specs.Lives.{Life, is_spent, spent, life_of, lives_of}
use Rattle.pairs.specs.Versions.{Versions}
use Rattle.pairs.specs.Found.{IsBefore, IsFrom, AllKept, NoneSpent, IsSpent, StopsAt}
use Rattle.birth_death.specs.Shows.{FindsIn}
use Rattle.birth_death.proofs.Finding.{Lists, lists-of, shows-only}
use Rattle.birth_death.proofs.Nexts.{turned-key, from-before, before-from, below-by-key, has-lives}
use Rattle.birth_death.proofs.Records.{each-life, contains-split, above-split, same-key}
use Rattle.birth_death.proofs.Rising.{Rises, formed_rises}

-- ---- records before one, and at its place

abbrev AreAbove : Quad → List Quad → Type 0
AreAbove q qs = All (λ r. IsBelow (quad_bound q) (quad_bound r)) qs

abbrev AreBelow : Quad → List Quad → Type 0
AreBelow q qs = All (λ r. IsBelow (quad_bound r) (quad_bound q)) qs

below-cons : (x : Quad) (a b : List Quad) (q : Quad) → AreAbove x (a ++ (q ∷ b)) → IsBelow (quad_bound x) (quad_bound q)
below-cons x [] b q above = All-head (λ r. IsBelow (quad_bound x) (quad_bound r)) q b above
below-cons x (y ∷ a) b q above =
    below-cons x a b q (All-tail (λ r. IsBelow (quad_bound x) (quad_bound r)) y (a ++ (q ∷ b)) above)

below-split : (a b : List Quad) (q : Quad) → Rises (a ++ (q ∷ b)) → AreBelow q a
below-split [] b q rise = All-nil (λ r. IsBelow (quad_bound r) (quad_bound q))
below-split (x ∷ a) b q rise =
    All-cons (λ r. IsBelow (quad_bound r) (quad_bound q)) x a (below-cons x a b q rise.0) (below-split a b q rise.1)

-- no other record lies at its place
abbrev IsAlone : Quad → Quad → Type 0
IsAlone q r = bound_cmp (quad_bound r) (quad_bound q) ≡ Equal → r ≡ q

alone-below : (q r : Quad) → IsBelow (quad_bound r) (quad_bound q) → IsAlone q r
alone-below q r below = λ same. absurd (cc)

alone-above : (q r : Quad) → IsBelow (quad_bound q) (quad_bound r) → IsAlone q r
alone-above q r above = λ same. (let back = turned (quad_bound q) (quad_bound r) Less above in absurd (cc))

one-place : (quads : List Quad) (q : Quad) → Rises quads → Contains quads q → All (IsAlone q) quads
one-place quads q rise among =
    let split = contains-split quads q among in
    let rising = subst Rises split.2 rise in
    All-same (IsAlone q) quads (split.0 ++ (q ∷ split.1)) split.2
    (All-append (IsAlone q) split.0 (q ∷ split.1)
    (All-weaker (λ r. IsBelow (quad_bound r) (quad_bound q)) (IsAlone q) (alone-below q) split.0
    (below-split split.0 split.1 q rising))
    (All-cons (IsAlone q) q split.1 (λ same. refl)
    (All-weaker (λ r. IsBelow (quad_bound q) (quad_bound r)) (IsAlone q) (alone-above q) split.1
    (above-split split.0 split.1 q rising))))

-- ---- lives that are kept

none-spent : (kept key : List ℕ) (quads : List Quad) → All (λ r. r.key ≡ key → is_spent kept (life_of r) ≡ false) quads
    → spent kept (lives_of quads key) ≡ None
none-spent kept key quads kept_all =
    each-life (λ l. is_spent kept l ≡ false) (λ ls. spent kept ls ≡ None) refl (λ l ls here rest. rw here rest)
    key quads kept_all

spent-first : (kept : List ℕ) (front rest : List Life) (l : Life) → spent kept front ≡ None → is_spent kept l ≡ true
    → spent kept (front ++ (l ∷ rest)) ≡ Some l
spent-first kept front rest l none is =
    let first : find (is_spent kept) (l ∷ rest) ≡ Some l = rw is refl in
    spent-find kept (front ++ (l ∷ rest))
    ∙ find-behind (is_spent kept) front (l ∷ rest) (sym (spent-find kept front) ∙ none) ∙ first

-- ---- how far a walk over the records came

-- a record of a key from one on is kept
abbrev pub IsKept : List ℕ → List ℕ → Quad → Type 0
IsKept kept from r = IsFrom from r.key → is_spent kept (life_of r) ≡ false

-- it is one of the records, of a key from one on, and those below it are kept
pub record IsReached (kept from : List ℕ) (quads : List Quad) (q : Quad) : Type 0 where
  pub among : Contains quads q
  pub from_key : IsFrom from q.key
  pub before : All (λ r. IsBelow (quad_bound r) (quad_bound q) → IsKept kept from r) quads

-- so far came a walk: to such a record, or behind all
abbrev pub Reaches : List ℕ → List ℕ → List Quad → Option Quad → Type 0
Reaches kept from quads None = All (IsKept kept from) quads
Reaches kept from quads (Some q) = IsReached kept from quads q

-- the least place of a key
abbrev pub place-of : List ℕ → Bound
place-of from = record { key = from; birth = 0 }

-- a record of a key from one on is sought at or after that key
from-taken : (from : List ℕ) (r : Quad) → IsFrom from r.key → takes AtOrAfter (place-of from) r ≡ true
from-taken from r is = by_order (slice_cmp nat_cmp r.key from) refl
  where
    by_birth : (o : Ordering) → nat_cmp r.birth 0 ≡ o → is_sought AtOrAfter o ≡ true
    by_birth Less e = let below : r.birth < 0 = ranked r.birth 0 Less (sym e) in absurd (omega arith)
    by_birth Equal e = refl
    by_birth Greater e = refl

    by_order : (o : Ordering) → slice_cmp nat_cmp r.key from ≡ o
        → is_sought AtOrAfter (ordering_then o (nat_cmp r.birth 0)) ≡ true
    by_order Less e = absurd (is (turned-key r.key from Less e))
    by_order Equal e = by_birth (nat_cmp r.birth 0) refl
    by_order Greater e = refl

-- and one that is sought there has a key from it on
taken-from : (from : List ℕ) (r : Quad) → takes AtOrAfter (place-of from) r ≡ true → IsFrom from r.key
taken-from from r taken = by_order (slice_cmp nat_cmp r.key from) refl taken
  where
    by_order : (o : Ordering) → slice_cmp nat_cmp r.key from ≡ o
        → is_sought AtOrAfter (ordering_then o (nat_cmp r.birth 0)) ≡ true → IsFrom from r.key
    by_order Less e t = absurd (cc)
    by_order Equal e t = λ wrong. (let back = turned-key r.key from Equal e in cc)
    by_order Greater e t = λ wrong. (let back = turned-key r.key from Greater e in cc)

starts-so : (kept from : List ℕ) (quads : List Quad) (found : Option Quad)
    → IsFound AtOrAfter (place-of from) quads found → Reaches kept from quads found
starts-so kept from quads None none =
    All-weaker (λ r. takes AtOrAfter (place-of from) r ≡ false) (IsKept kept from)
    (λ r left is. (let taken = from-taken from r is in absurd (cc))) quads none
starts-so kept from quads (Some q) least = record {
  among = least.among;
  from_key = taken-from from q least.sought;
  before = All-weaker (λ r. takes AtOrAfter (place-of from) r ≡ true → IsBelow (quad_bound r) (quad_bound q) → ⊥)
      (λ r. IsBelow (quad_bound r) (quad_bound q) → IsKept kept from r)
      (λ r lowest below is. absurd (lowest (from-taken from r is) below)) quads least.least;
}

-- a record that is not behind one that is kept is kept, if those below that are
left-kept : (kept from : List ℕ) (q r : Quad) → is_spent kept (life_of q) ≡ false → IsAlone q r
    → (IsBelow (quad_bound r) (quad_bound q) → IsKept kept from r) → takes After (quad_bound q) r ≡ false → IsKept kept from r
left-kept kept from q r here alone before left = by_order (bound_cmp (quad_bound r) (quad_bound q)) refl left
  where
    by_order : (o : Ordering) → bound_cmp (quad_bound r) (quad_bound q) ≡ o → is_sought After o ≡ false → IsKept kept from r
    by_order Less e t = before e
    by_order Equal e t = λ is. subst (λ (x : Quad). is_spent kept (life_of x) ≡ false) (sym (alone e)) here
    by_order Greater e t = absurd (cc)

-- one that lies behind a record is of a key from that of the record on
behind-from : (from : List ℕ) (q r : Quad) → IsFrom from q.key → takes After (quad_bound q) r ≡ true → IsFrom from r.key
behind-from from q r is taken = by_order (slice_cmp nat_cmp r.key q.key) refl taken
  where
    by_order : (o : Ordering) → slice_cmp nat_cmp r.key q.key ≡ o
        → is_sought After (ordering_then o (nat_cmp r.birth q.birth)) ≡ true → IsFrom from r.key
    by_order Less e t = absurd (cc)
    by_order Equal e t = subst (IsFrom from) (sym (same-key r.key q.key e)) is
    by_order Greater e t = before-from from r.key (from-before from q.key r.key is (turned-key r.key q.key Greater e))

steps-so : (kept from : List ℕ) (quads : List Quad) (q : Quad) (found : Option Quad) → Rises quads
    → IsReached kept from quads q → is_spent kept (life_of q) ≡ false → IsFound After (quad_bound q) quads found
    → Reaches kept from quads found
steps-so kept from quads q None rise reached here none = λ k d lt.
    left-kept kept from q _ here (one-place quads q rise reached.among k d lt) (reached.before k d lt) (none k d lt)
steps-so kept from quads q (Some next) rise reached here least = record {
  among = least.among;
  from_key = behind-from from q next reached.from_key least.sought;
  before = λ k d lt below. by_test k d lt below _ refl;
}
  where
    by_test : (k : ℕ) (d : Quad) (lt : k < length quads) → IsBelow (quad_bound (get_or quads k d)) (quad_bound next)
        → (t : Bool) → takes After (quad_bound q) (get_or quads k d) ≡ t → IsKept kept from (get_or quads k d)
    by_test k d lt below true taken = absurd (least.least k d lt taken below)
    by_test k d lt below false left =
        left-kept kept from q _ here (one-place quads q rise reached.among k d lt) (reached.before k d lt) left

-- ---- what a walk finds

-- a record that is kept where it lies below one
abbrev IsKeptBelow : List ℕ → List ℕ → Quad → Quad → Type 0
IsKeptBelow kept from q r = IsBelow (quad_bound r) (quad_bound q) → IsKept kept from r

-- one of this key is kept
abbrev IsKeptAt : List ℕ → List ℕ → Quad → Type 0
IsKeptAt kept key r = r.key ≡ key → is_spent kept (life_of r) ≡ false

-- before the key of a record that was reached all is kept
reached-none : (kept from : List ℕ) (v : Versions) (quads : List Quad) (q : Quad) → Lists v quads
    → IsReached kept from quads q → NoneSpent kept from q.key v
reached-none kept from v quads q lists reached = λ k is before.
    ap (spent kept) (lists.lives k)
    ∙ none-spent kept k quads
    (All-weaker (IsKeptBelow kept from q) (IsKeptAt kept k)
    (λ r kept_below same.
    kept_below (below-by-key r q (subst (λ (x : List ℕ). IsBefore x q.key) (sym same) before))
    (subst (IsFrom from) (sym same) is))
    quads reached.before)

all-kept : (kept from : List ℕ) (v : Versions) (quads : List Quad) → Lists v quads → All (IsKept kept from) quads
    → AllKept kept from v
all-kept kept from v quads lists all = λ k is.
    ap (spent kept) (lists.lives k)
    ∙ none-spent kept k quads
    (All-weaker (IsKept kept from) (IsKeptAt kept k) (λ r kept_from same. kept_from (subst (IsFrom from) (sym same) is))
    quads all)

-- a record that was reached, and is spent, is the first
reached-spent : (kept from : List ℕ) (v : Versions) (quads : List Quad) (q : Quad) → Lists v quads
    → IsReached kept from quads q → is_spent kept (life_of q) ≡ true → IsSpent kept from q v
reached-spent kept from v quads q lists reached is = record {
  key = reached.from_key;
  life = ap (spent kept) listed_so
      ∙ spent-first kept (lives_of split.0 q.key) (lives_of split.1 q.key) (life_of q) none_before is;
  first = reached-none kept from v quads q lists reached;
}
  where
    split : (front : List Quad) × (rest : List Quad) × (quads ≡ front ++ (q ∷ rest))
    split = contains-split quads q reached.among

    listed_so : v.lives q.key ≡ lives_of split.0 q.key ++ (life_of q ∷ lives_of split.1 q.key)
    listed_so =
        lists.lives q.key ∙ ap (λ (xs : List Quad). lives_of xs q.key) split.2
        ∙ lives_of-split split.0 q split.1 q.key refl

    below : AreBelow q split.0
    below = below-split split.0 split.1 q (subst Rises split.2 lists.rises)

    before : All (IsKeptBelow kept from q) split.0
    before = all_left (IsKeptBelow kept from q) split.0 (q ∷ split.1)
        (All-same (IsKeptBelow kept from q) (split.0 ++ (q ∷ split.1)) quads (sym split.2) reached.before)

    none_before : spent kept (lives_of split.0 q.key) ≡ None
    none_before = none-spent kept q.key split.0
        (λ k d lt same. before k d lt (below k d lt) (subst (IsFrom from) (sym same) reached.from_key))

-- ---- a walk

-- it only read, and came so far in every tree
pub record Walked (kept from : List ℕ) (found : Option Quad) (a b : PageState) : Type 0 where
  pub only : OnlyReads a b
  pub reached : IsFoundIn (Reaches kept from) b found

pub walk-starts : (kept from : List ℕ) (found : Option Quad) (a b : PageState) → OnlyReads a b
    → IsFoundIn (IsFound AtOrAfter (place-of from)) b found → Walked kept from found a b
walk-starts kept from found a b only is = record {
  only = only;
  reached = λ under agrees quads slots formed. starts-so kept from quads found (is under agrees quads slots formed);
}

-- what is formed over the later state is formed over the earlier one
formed-before : (b c : PageState) (under : PageMap) (quads : List Quad) (slots : List Slot) → OnlyReads b c
    → IsFormed c.stores (over c.writes under) quads slots → IsFormed b.stores (over b.writes under) quads slots
formed-before b c under quads slots only formed =
    subst (λ (n : ℕ). IsFormed n (over b.writes under) quads slots) only.lasts.stores
    (subst (λ (w : PageMap). IsFormed c.stores (over w under) quads slots) only.writes formed)

pub walk-steps : (kept from : List ℕ) (q : Quad) (found : Option Quad) (a b c : PageState)
    → Walked kept from (Some q) a b → is_spent kept (life_of q) ≡ false → OnlyReads b c
    → IsFoundIn (IsFound After (quad_bound q)) c found → Walked kept from found a c
walk-steps kept from q found a b c walked here only is = record {
  only = only_then a b c walked.only only;
  reached = λ under agrees quads slots formed.
      steps-so kept from quads q found (formed_rises c.stores (over c.writes under) quads slots formed)
      (walked.reached under (agrees_before b.reads c.reads under only.extends agrees) quads slots
      (formed-before b c under quads slots only formed))
      here (is under agrees quads slots formed);
}

pub walk-ends : (kept from : List ℕ) (a b : PageState) → Walked kept from None a b → FindsIn a b (AllKept kept from)
walk-ends kept from a b walked = λ under v agrees shows has.
    let s = shows-only a b under v walked.only shows in
    all-kept kept from v s.quads (lists-of b under v s) (walked.reached under agrees s.quads s.slots s.formed)

pub walk-finds : (kept from : List ℕ) (q : Quad) (a b : PageState) → Walked kept from (Some q) a b
    → is_spent kept (life_of q) ≡ true → FindsIn a b (IsSpent kept from q)
walk-finds kept from q a b walked is = λ under v agrees shows has.
    let s = shows-only a b under v walked.only shows in
    reached-spent kept from v s.quads q (lists-of b under v s) (walked.reached under agrees s.quads s.slots s.formed) is

pub walk-stops : (kept from : List ℕ) (q : Quad) (a b : PageState) → Walked kept from (Some q) a b
    → FindsIn a b (StopsAt kept from q.key)
walk-stops kept from q a b walked = λ under v agrees shows has.
    let s = shows-only a b under v walked.only shows in
    let reached = walked.reached under agrees s.quads s.slots s.formed in record {
      none = reached-none kept from v s.quads q (lists-of b under v s) reached;
      lives = has-lives v s.quads q (lists-of b under v s) reached.among;
    }
