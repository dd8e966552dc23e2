-- The lives of one key: which of them a view sees, and what edits of one of them make of the list.
use Rattle.std.proofs.Common.{◌≡◌, ◌≢◌, ◌⊎◌, inl, inr, ℕ, ◌<◌, ◌≤◌, ◌==◌, Bool, true, false, if◌then◌else◌, List, []}
use Rattle.std.proofs.Common.{◌∷◌, ◌++◌}
use Rattle.std.proofs.Common.{Option, Some, None, refl, sym, ◌∙◌, ap, subst, arith}
use Rattle.std.proofs.lemmas.Grind.{common_steps}
use Rattle.std.specs.List.{find}
use Rattle.pairs.specs.declared.at.At.{At}
use Rattle.pairs.specs.declared.at.At.TheVariants.{Live, Snap}
use Rattle.pairs.specs.Lives.{Life, never, sees, born, new_life, put_life, del_life, is_spent, spent, purge_life}
use Rattle.pairs.specs.Lives.{AreLives}
use Rattle.birth_death.specs.Quads.{last_birth}

-- ---- births before and behind a number

-- each is born later
abbrev pub AllBehind : ℕ → List Life → Type 0
AllBehind n [] = Unit {0}
AllBehind n (l ∷ ls) = (n < l.birth) × AllBehind n ls

-- each is born earlier
abbrev pub AllAhead : ℕ → List Life → Type 0
AllAhead n [] = Unit {0}
AllAhead n (l ∷ ls) = (l.birth < n) × AllAhead n ls

-- none is born then
abbrev pub NoBirth : ℕ → List Life → Type 0
NoBirth n [] = Unit {0}
NoBirth n (l ∷ ls) = (l.birth ≢ n) × NoBirth n ls

pub ahead-no_birth : (n : ℕ) (ls : List Life) → AllAhead n ls → NoBirth n ls
ahead-no_birth n [] h = tt
ahead-no_birth n (l ∷ ls) (a, b) = (λ is. absurd (omega arith), ahead-no_birth n ls b)

pub no_birth-born : (n : ℕ) (ls : List Life) → NoBirth n ls → born ls ≡ Some n → ⊥
no_birth-born n [] h is = cc
no_birth-born n (l ∷ ls) (a, b) is = by_test (l.death == never) is (no_birth-born n ls b)
  where
    by_test : (t : Bool) → (if t then Some l.birth else born ls) ≡ Some n → (born ls ≡ Some n → ⊥) → ⊥
    by_test true is more = a (cc)
    by_test false is more = more is

pub no_birth-spent : (kept : List ℕ) (n : ℕ) (ls : List Life) (s : Life) → NoBirth n ls → spent kept ls ≡ Some s
    → s.birth ≡ n → ⊥
no_birth-spent kept n [] s h is birth = cc
no_birth-spent kept n (l ∷ ls) s (a, b) is birth = by_test (is_spent kept l) is (no_birth-spent kept n ls s b)
  where
    by_test : (t : Bool) → (if t then Some l else spent kept ls) ≡ Some s → (spent kept ls ≡ Some s → s.birth ≡ n → ⊥)
        → ⊥
    by_test true is more = a (let same : l ≡ s = cc in ap (λ (x : Life). x.birth) same ∙ birth)
    by_test false is more = more is birth

none_empty : (front rest : List Life) (l : Life) → front ++ (l ∷ rest) ≡ [] → ⊥
none_empty [] rest l e = cc
none_empty (m ∷ front) rest l e = cc

-- lives from a number on are born no earlier
pub from-birth : (epoch from : ℕ) (front rest : List Life) (l : Life) → AreLives epoch from (front ++ (l ∷ rest))
    → from ≤ l.birth
unfolding AreLives
from-birth epoch from [] rest l (a, b, c, d) = a
from-birth epoch from (m ∷ front) rest l (a, b, c, inl h) = absurd (none_empty front rest l h.1)
from-birth epoch from (m ∷ front) rest l (a, b, c, inr h) =
    let more : m.death ≤ l.birth = from-birth epoch m.death front rest l h.1 in omega arith

pub from-born : (epoch from n : ℕ) (ls : List Life) → AreLives epoch from ls → born ls ≡ Some n → from ≤ n
unfolding AreLives
from-born epoch from n [] are is = absurd (cc)
from-born epoch from n (l ∷ ls) (a, b, c, inl h) is =
    let t : (l.death == never) ≡ true = grind (arith, common_steps, h.0) in
    let s : Some l.birth ≡ Some n = rw t at is in
    let e : l.birth ≡ n = cc in omega arith
from-born epoch from n (l ∷ ls) (a, b, c, inr h) is = by_test (l.death == never) is (from-born epoch l.death n ls h.1)
  where
    by_test : (t : Bool) → (if t then Some l.birth else born ls) ≡ Some n → (born ls ≡ Some n → l.death ≤ n) → from ≤ n
    by_test true is more = let e : l.birth ≡ n = cc in omega arith
    by_test false is more = let late : l.death ≤ n = more is in omega arith

pub from-spent : (kept : List ℕ) (epoch from : ℕ) (ls : List Life) (s : Life) → AreLives epoch from ls
    → spent kept ls ≡ Some s → from ≤ s.birth
unfolding AreLives
from-spent kept epoch from [] s are is = absurd (cc)
from-spent kept epoch from (l ∷ ls) s (a, b, c, inl h) is = by_test (is_spent kept l) is (ap (spent kept) h.1)
  where
    by_test : (t : Bool) → (if t then Some l else spent kept ls) ≡ Some s → spent kept ls ≡ None → from ≤ s.birth
    by_test true is none = let same : l ≡ s = cc in let e : l.birth ≡ s.birth = ap
        (λ (x : Life). x.birth) same in omega arith
    by_test false is none = absurd (cc)
from-spent kept epoch from (l ∷ ls) s (a, b, c, inr h) is =
    by_test (is_spent kept l) is (from-spent kept epoch l.death ls s h.1)
  where
    by_test : (t : Bool) → (if t then Some l else spent kept ls) ≡ Some s → (spent kept ls ≡ Some s → l.death ≤ s.birth)
        → from ≤ s.birth
    by_test true is more = let same : l ≡ s = cc in let e : l.birth ≡ s.birth = ap
        (λ (x : Life). x.birth) same in omega arith
    by_test false is more = let late : l.death ≤ s.birth = more is in omega arith

-- ---- what is seen beside the greatest birth that can be seen

pub unseen-behind : (at : At) (epoch from : ℕ) (ls : List Life) → epoch < never → AreLives epoch from ls
    → AllBehind (last_birth at) ls
    → find (sees at) ls ≡ None
unfolding AreLives
unseen-behind at epoch from [] early are behind = refl
unseen-behind Live epoch from (l ∷ ls) early (a, b, c, d) (late, more) = absurd (omega arith)
unseen-behind (Snap n) epoch from (l ∷ ls) early (a, b, c, inl h) (late, more) =
    let t : sees (Snap n) l ≡ false = grind (arith, common_steps, late) in
    rw t (ap (find (sees (Snap n))) h.1)
unseen-behind (Snap n) epoch from (l ∷ ls) early (a, b, c, inr h) (late, more) =
    let t : sees (Snap n) l ≡ false = grind (arith, common_steps, late) in
    rw t (unseen-behind (Snap n) epoch l.death ls early h.1 more)

-- a life that died by then is not seen
died : (at : At) (epoch n : ℕ) (l : Life) → epoch < never → l.death ≤ epoch → l.death ≤ n
    → n ≤ last_birth at → sees at l ≡ false
died Live epoch n l early dead by upto = grind (arith, common_steps)
died (Snap m) epoch n l early dead by upto = grind (arith, common_steps)

pub seen-last : (at : At) (epoch from : ℕ) (front rest : List Life) (l : Life) → epoch < never
    → AreLives epoch from (front ++ (l ∷ rest))
    → l.birth ≤ last_birth at → AllBehind (last_birth at) rest
    → find (sees at) (front ++ (l ∷ rest)) ≡ (if sees at l then Some l else None)
unfolding AreLives
seen-last at epoch from [] rest l early (a, b, c, inl h) by behind =
    ap (λ (o : Option Life). if sees at l then Some l else o) (ap (find (sees at)) h.1)
seen-last at epoch from [] rest l early (a, b, c, inr h) by behind =
    ap (λ (o : Option Life). if sees at l then Some l else o) (unseen-behind at epoch l.death rest early h.1 behind)
seen-last at epoch from (m ∷ front) rest l early (a, b, c, inl h) by behind = absurd (none_empty front rest l h.1)
seen-last at epoch from (m ∷ front) rest l early (a, b, c, inr h) by behind =
    let t : sees at m ≡ false = died at epoch l.birth m early h.0 (from-birth epoch m.death front rest l h.1) by in
    rw t (seen-last at epoch m.death front rest l early h.1 by behind)

-- ---- what lives is the last

pub live-last : (epoch from : ℕ) (front rest : List Life) (g : Life) → epoch < never
    → AreLives epoch from (front ++ (g ∷ rest))
    → born (front ++ (g ∷ rest)) ≡ Some g.birth → (g.death ≡ never) × (rest ≡ [])
unfolding AreLives
live-last epoch from [] rest g early (a, b, c, inl h) is = h
live-last epoch from [] rest g early (a, b, c, inr h) is =
    let f : (g.death == never) ≡ false = grind (arith, common_steps, h.0) in
    let later : born rest ≡ Some g.birth = rw f at is in
    let wrong : g.death ≤ g.birth = from-born epoch g.death g.birth rest h.1 later in
    absurd (omega arith)
live-last epoch from (m ∷ front) rest g early (a, b, c, inl h) is = absurd (none_empty front rest g h.1)
live-last epoch from (m ∷ front) rest g early (a, b, c, inr h) is =
    let f : (m.death == never) ≡ false = grind (arith, common_steps, h.0) in
    live-last epoch m.death front rest g early h.1 (rw f at is)

-- ---- puts

pub put-none : (epoch from : ℕ) (value : List ℕ) (ls : List Life) → epoch < never → AreLives epoch from ls
    → born ls ≡ None
    → put_life epoch value ls ≡ ls ++ (new_life epoch value ∷ [])
unfolding AreLives
put-none epoch from value [] early are none = refl
put-none epoch from value (l ∷ ls) early (a, b, c, inl h) none =
    let t : (l.death == never) ≡ true = grind (arith, common_steps, h.0) in
    let wrong : Some l.birth ≡ None = rw t at none in
    absurd (cc)
put-none epoch from value (l ∷ ls) early (a, b, c, inr h) none =
    let f : (l.death == never) ≡ false = grind (arith, common_steps, h.0) in
    let more : born ls ≡ None = rw f at none in
    rw f (ap (λ (xs : List Life). l ∷ xs) (put-none epoch l.death value ls early h.1 more))

pub put-over : (epoch from : ℕ) (value : List ℕ) (front : List Life) (g : Life) → epoch < never
    → AreLives epoch from (front ++ (g ∷ []))
    → g.death ≡ never → g.birth ≡ epoch → put_life epoch value (front ++ (g ∷ [])) ≡ front ++ (new_life epoch
    value ∷ [])
unfolding AreLives
put-over epoch from value [] g early are live now =
    let t : (g.death == never) ≡ true = grind (arith, common_steps, live) in
    let u : (g.birth == epoch) ≡ true = grind (arith, common_steps, now) in
    rw (t, u) refl
put-over epoch from value (m ∷ front) g early (a, b, c, inl h) live now = absurd (none_empty front [] g h.1)
put-over epoch from value (m ∷ front) g early (a, b, c, inr h) live now =
    let f : (m.death == never) ≡ false = grind (arith, common_steps, h.0) in
    rw f (ap (λ (xs : List Life). m ∷ xs) (put-over epoch m.death value front g early h.1 live now))

pub put-after : (epoch from : ℕ) (value : List ℕ) (front : List Life) (g : Life) → epoch < never
    → AreLives epoch from (front ++ (g ∷ []))
    → g.death ≡ never → g.birth ≢ epoch
    → put_life epoch value (front ++ (g ∷ [])) ≡ front ++ (record g { death = epoch } ∷ (new_life epoch value ∷ []))
unfolding AreLives
put-after epoch from value [] g early are live now =
    let t : (g.death == never) ≡ true = grind (arith, common_steps, live) in
    let u : (g.birth == epoch) ≡ false = grind (arith, common_steps, now) in
    rw (t, u) refl
put-after epoch from value (m ∷ front) g early (a, b, c, inl h) live now = absurd (none_empty front [] g h.1)
put-after epoch from value (m ∷ front) g early (a, b, c, inr h) live now =
    let f : (m.death == never) ≡ false = grind (arith, common_steps, h.0) in
    rw f (ap (λ (xs : List Life). m ∷ xs) (put-after epoch m.death value front g early h.1 live now))

-- ---- deletions

pub del-none : (epoch : ℕ) (ls : List Life) → born ls ≡ None → del_life epoch ls ≡ ls
del-none epoch [] none = refl
del-none epoch (l ∷ ls) none = by_test (l.death == never) none (del-none epoch ls)
  where
    by_test : (t : Bool) → (if t then Some l.birth else born ls) ≡ None → (born ls ≡ None → del_life epoch ls ≡ ls)
        → (if t then (if l.birth == epoch then ls else record l { death = epoch } ∷ ls)
        else (l ∷ del_life epoch ls)) ≡ l ∷ ls
    by_test true none more = absurd (cc)
    by_test false none more = ap (λ (xs : List Life). l ∷ xs) (more none)

pub del-over : (epoch from : ℕ) (front : List Life) (g : Life) → epoch < never → AreLives epoch from (front ++ (g ∷ []))
    → g.death ≡ never → g.birth ≡ epoch → del_life epoch (front ++ (g ∷ [])) ≡ front ++ []
unfolding AreLives
del-over epoch from [] g early are live now =
    let t : (g.death == never) ≡ true = grind (arith, common_steps, live) in
    let u : (g.birth == epoch) ≡ true = grind (arith, common_steps, now) in
    rw (t, u) refl
del-over epoch from (m ∷ front) g early (a, b, c, inl h) live now = absurd (none_empty front [] g h.1)
del-over epoch from (m ∷ front) g early (a, b, c, inr h) live now =
    let f : (m.death == never) ≡ false = grind (arith, common_steps, h.0) in
    rw f (ap (λ (xs : List Life). m ∷ xs) (del-over epoch m.death front g early h.1 live now))

pub del-after : (epoch from : ℕ) (front : List Life) (g : Life) → epoch < never
    → AreLives epoch from (front ++ (g ∷ []))
    → g.death ≡ never → g.birth ≢ epoch → del_life epoch (front ++ (g ∷ [])) ≡ front ++ (record
    g { death = epoch } ∷ [])
unfolding AreLives
del-after epoch from [] g early are live now =
    let t : (g.death == never) ≡ true = grind (arith, common_steps, live) in
    let u : (g.birth == epoch) ≡ false = grind (arith, common_steps, now) in
    rw (t, u) refl
del-after epoch from (m ∷ front) g early (a, b, c, inl h) live now = absurd (none_empty front [] g h.1)
del-after epoch from (m ∷ front) g early (a, b, c, inr h) live now =
    let f : (m.death == never) ≡ false = grind (arith, common_steps, h.0) in
    rw f (ap (λ (xs : List Life). m ∷ xs) (del-after epoch m.death front g early h.1 live now))

-- ---- all that died were born before the epoch

pub dead-ahead : (epoch from : ℕ) (ls : List Life) → AreLives epoch from ls → born ls ≡ None → AllAhead epoch ls
unfolding AreLives
dead-ahead epoch from [] are none = tt
dead-ahead epoch from (l ∷ ls) (a, b, c, inl h) none =
    let t : (l.death == never) ≡ true = grind (arith, common_steps, h.0) in
    let wrong : Some l.birth ≡ None = rw t at none in
    absurd (cc)
dead-ahead epoch from (l ∷ ls) (a, b, c, inr h) none =
    (omega (arith, h.0), by_test (l.death == never) none (dead-ahead epoch l.death ls h.1))
  where
    by_test : (t : Bool) → (if t then Some l.birth else born ls) ≡ None → (born ls ≡ None → AllAhead epoch ls)
        → AllAhead epoch ls
    by_test true wrong more = absurd (cc)
    by_test false none more = more none

pub ended-ahead : (epoch from : ℕ) (front : List Life) (g : Life) → AreLives epoch from (front ++ (g ∷ []))
    → g.birth ≢ epoch
    → AllAhead epoch (front ++ (record g { death = epoch } ∷ []))
unfolding AreLives
ended-ahead epoch from [] g (a, b, c, d) old = (omega arith, tt)
ended-ahead epoch from (m ∷ front) g (a, b, c, inl h) old = absurd (none_empty front [] g h.1)
ended-ahead epoch from (m ∷ front) g (a, b, c, inr h) old =
    (omega (arith, h.0), ended-ahead epoch m.death front g h.1 old)

-- ---- purges

pub purge-first : (kept : List ℕ) (epoch from : ℕ) (front rest : List Life) (g s : Life)
    → AreLives epoch from (front ++ (g ∷ rest))
    → spent kept (front ++ (g ∷ rest)) ≡ Some s → g.birth ≡ s.birth
    → purge_life kept (front ++ (g ∷ rest)) ≡ front ++ rest
unfolding AreLives
purge-first kept epoch from [] rest g s (a, b, c, inl h) is same = by_test (is_spent kept g) is (ap (spent kept) h.1)
  where
    by_test : (t : Bool) → (if t then Some g else spent kept rest) ≡ Some s → spent kept rest ≡ None
        → (if t then rest else (g ∷ purge_life kept rest)) ≡ rest
    by_test true is none = refl
    by_test false is none = absurd (cc)
purge-first kept epoch from [] rest g s (a, b, c, inr h) is same =
    by_test (is_spent kept g) is (from-spent kept epoch g.death rest s h.1)
  where
    by_test : (t : Bool) → (if t then Some g else spent kept rest) ≡ Some s
        → (spent kept rest ≡ Some s → g.death ≤ s.birth)
        → (if t then rest else (g ∷ purge_life kept rest)) ≡ rest
    by_test true is more = refl
    by_test false is more = absurd (let late : g.death ≤ s.birth = more is in omega arith)
purge-first kept epoch from (m ∷ front) rest g s (a, b, c, inl h) is same = absurd (none_empty front rest g h.1)
purge-first kept epoch from (m ∷ front) rest g s (a, b, c, inr h) is same =
    by_test (is_spent kept m) is (from-birth epoch m.death front rest g h.1)
    (λ is. purge-first kept epoch m.death front rest g s h.1 is same)
  where
    by_test : (t : Bool) → (if t then Some m else spent kept (front ++ (g ∷ rest))) ≡ Some s → m.death ≤ g.birth
        → (spent kept (front ++ (g ∷ rest)) ≡ Some s → purge_life kept (front ++ (g ∷ rest)) ≡ front ++ rest)
        → (if t then (front ++ (g ∷ rest)) else (m ∷ purge_life kept (front ++ (g ∷ rest)))) ≡ m ∷ (front ++ rest)
    by_test true is late more = absurd (
        let one : m ≡ s = cc in
        let birth : m.birth ≡ s.birth = ap (λ (x : Life). x.birth) one in omega arith)
    by_test false is late more = ap (λ (xs : List Life). m ∷ xs) (more is)
