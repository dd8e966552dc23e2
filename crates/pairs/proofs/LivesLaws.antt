-- What edits of the lives of one key show, and that lives stay in order.
use Rattle.std.proofs.Common.{◌≡◌, ◌≢◌, inl, inr, ℕ, zero, suc, ◌<◌, ◌≤◌, ◌==◌, Bool, true, false, not, ◌&&◌}
use Rattle.std.proofs.Common.{if◌then◌else◌, List, [], ◌∷◌, Option, Some, None, refl, sym, ap, subst, arith}
use Rattle.std.proofs.lemmas.Grind.{common_steps}
use Rattle.std.specs.List.{Contains, list_any}
use Rattle.pairs.specs.declared.at.At.{At}
use Rattle.pairs.specs.declared.at.At.TheVariants.{Live, Snap}
use Rattle.pairs.specs.Lives.{Life, never, sees, seen, born, new_life, put_life, del_life, is_spent, purge_life, AreLives}

-- ---- lives in order

-- up to a later epoch
pub are-later : (epoch later from : ℕ) (ls : List Life) → epoch ≤ later → AreLives epoch from ls → AreLives later from ls
unfolding AreLives
are-later epoch later from [] up are = tt
are-later epoch later from (l ∷ ls) up (a, b, c, inl h) = (a, omega arith, c, inl h)
are-later epoch later from (l ∷ ls) up (a, b, c, inr h) =
    (a, omega arith, c, inr (omega (arith, h.0), are-later epoch later l.death ls up h.1))

-- from an earlier birth on
pub are-from : (epoch from sooner : ℕ) (ls : List Life) → sooner ≤ from → AreLives epoch from ls → AreLives epoch sooner ls
unfolding AreLives
are-from epoch from sooner [] up are = tt
are-from epoch from sooner (l ∷ ls) up (a, b, c, d) = (omega arith, b, c, d)

-- ---- puts

pub seen-put : (epoch from : ℕ) (value : List ℕ) (ls : List Life) → epoch < never → AreLives epoch from ls
    → seen Live (put_life epoch value ls) ≡ Some value
unfolding AreLives
seen-put epoch from value [] early are = grind (arith, common_steps)
seen-put epoch from value (l ∷ ls) early (a, b, c, inl h) = grind (arith, common_steps)
seen-put epoch from value (l ∷ ls) early (a, b, c, inr h) =
    let ih : seen Live (put_life epoch value ls) ≡ Some value = seen-put epoch l.death value ls early h.1 in
    let old : l.death ≢ never = omega (arith, h.0) in
    grind (arith, common_steps, ih, old)

pub born-put : (epoch from : ℕ) (value : List ℕ) (ls : List Life) → epoch < never → AreLives epoch from ls
    → born (put_life epoch value ls) ≡ Some epoch
unfolding AreLives
born-put epoch from value [] early are = grind (arith, common_steps)
born-put epoch from value (l ∷ ls) early (a, b, c, inl h) = grind (arith, common_steps)
born-put epoch from value (l ∷ ls) early (a, b, c, inr h) =
    let ih : born (put_life epoch value ls) ≡ Some epoch = born-put epoch l.death value ls early h.1 in
    let old : l.death ≢ never = omega (arith, h.0) in
    grind (arith, common_steps, ih, old)

pub seen-put-later : (n epoch from : ℕ) (value : List ℕ) (ls : List Life) → epoch ≤ n → n < never → AreLives epoch from ls
    → seen (Snap n) (put_life epoch value ls) ≡ Some value
unfolding AreLives
seen-put-later n epoch from value [] up early are = grind (arith, common_steps)
seen-put-later n epoch from value (l ∷ ls) up early (a, b, c, inl h) = grind (arith, common_steps, h.0)
seen-put-later n epoch from value (l ∷ ls) up early (a, b, c, inr h) =
    let ih : seen (Snap n) (put_life epoch value ls) ≡ Some value = seen-put-later n epoch l.death value ls up early h.1 in
    let old : l.death ≢ never = omega (arith, h.0) in
    let past : l.death ≤ n = omega (arith, h.0) in
    grind (arith, common_steps, ih, old, past)

pub seen-put-earlier : (n epoch from : ℕ) (value : List ℕ) (ls : List Life) → n < epoch → epoch < never → AreLives epoch from ls
    → seen (Snap n) (put_life epoch value ls) ≡ seen (Snap n) ls
unfolding AreLives
seen-put-earlier n epoch from value [] early late are = grind (arith, common_steps)
seen-put-earlier n epoch from value (l ∷ ls) early late (a, b, c, inl h) = grind (arith, common_steps, h.0, h.1)
seen-put-earlier n epoch from value (l ∷ ls) early late (a, b, c, inr h) =
    let ih : seen (Snap n) (put_life epoch value ls) ≡ seen (Snap n) ls = seen-put-earlier n epoch l.death value ls early late h.1
    in
    let old : l.death ≢ never = omega (arith, h.0) in
    grind (arith, common_steps, ih, old)

pub are-put : (epoch from : ℕ) (value : List ℕ) (ls : List Life) → epoch < never → from ≤ epoch → AreLives epoch from ls
    → AreLives epoch from (put_life epoch value ls)
unfolding AreLives
are-put epoch from value [] early within are = (within, omega arith, early, inl (refl, refl))
are-put epoch from value (l ∷ ls) early within (a, b, c, inl h) =
    let t : (l.death == never) ≡ true = grind (arith, common_steps, h.0) in
    rw t (at_birth (l.birth == epoch) refl)
  where
    at_birth : (u : Bool) → (l.birth == epoch) ≡ u → AreLives epoch from (if u then new_life epoch value ∷ ls
        else record l { death = epoch } ∷ (new_life epoch value ∷ ls))
    at_birth true is = (within, omega arith, early, inl (refl, h.1))
    at_birth false is = let less : l.birth < epoch = grind (arith, common_steps, b) in
        (a, b, less, inr (omega arith, (omega arith, omega arith, early, inl (refl, h.1))))
are-put epoch from value (l ∷ ls) early within (a, b, c, inr h) =
    let f : (l.death == never) ≡ false = grind (arith, common_steps, h.0) in
    rw f (a, b, c, inr (h.0, are-put epoch l.death value ls early h.0 h.1))

pub put-again : (epoch from : ℕ) (first last : List ℕ) (ls : List Life) → epoch < never → AreLives epoch from ls
    → put_life epoch last (put_life epoch first ls) ≡ put_life epoch last ls
unfolding AreLives
put-again epoch from first last [] early are = grind (arith, common_steps)
put-again epoch from first last (l ∷ ls) early (a, b, c, inl h) =
    let t : (l.death == never) ≡ true = grind (arith, common_steps, h.0) in
    let f : (epoch == never) ≡ false = grind (arith, common_steps) in
    let e : (epoch == epoch) ≡ true = grind (arith, common_steps) in
    rw t (at_birth (l.birth == epoch) f e)
  where
    at_birth : (u : Bool) → (epoch == never) ≡ false → (epoch == epoch) ≡ true
        → put_life epoch last (if u then new_life epoch first ∷ ls else record l { death = epoch } ∷ (new_life epoch first ∷ ls))
        ≡ (if u then new_life epoch last ∷ ls else record l { death = epoch } ∷ (new_life epoch last ∷ ls))
    at_birth true f e = rw e refl
    at_birth false f e = rw (f, e) refl
put-again epoch from first last (l ∷ ls) early (a, b, c, inr h) =
    let f : (l.death == never) ≡ false = grind (arith, common_steps, h.0) in
    rw f (rw f (ap (λ (more : List Life). l ∷ more) (put-again epoch l.death first last ls early h.1)))

-- ---- dels

pub seen-del : (epoch from : ℕ) (ls : List Life) → epoch < never → AreLives epoch from ls → seen Live (del_life epoch ls) ≡ None
unfolding AreLives
seen-del epoch from [] early are = refl
seen-del epoch from (l ∷ ls) early (a, b, c, inl h) = grind (arith, common_steps, h.0, h.1)
seen-del epoch from (l ∷ ls) early (a, b, c, inr h) =
    let ih : seen Live (del_life epoch ls) ≡ None = seen-del epoch l.death ls early h.1 in
    let old : l.death ≢ never = omega (arith, h.0) in
    grind (arith, common_steps, ih, old)

pub seen-del-earlier : (n epoch from : ℕ) (ls : List Life) → n < epoch → epoch < never → AreLives epoch from ls
    → seen (Snap n) (del_life epoch ls) ≡ seen (Snap n) ls
unfolding AreLives
seen-del-earlier n epoch from [] early late are = refl
seen-del-earlier n epoch from (l ∷ ls) early late (a, b, c, inl h) = grind (arith, common_steps, h.0, h.1)
seen-del-earlier n epoch from (l ∷ ls) early late (a, b, c, inr h) =
    let ih : seen (Snap n) (del_life epoch ls) ≡ seen (Snap n) ls = seen-del-earlier n epoch l.death ls early late h.1 in
    let old : l.death ≢ never = omega (arith, h.0) in
    grind (arith, common_steps, ih, old)

pub are-del : (epoch from : ℕ) (ls : List Life) → AreLives epoch from ls → epoch < never → AreLives epoch from (del_life epoch ls)
unfolding AreLives
are-del epoch from [] are early = tt
are-del epoch from (l ∷ ls) (a, b, c, inl h) early =
    let t : (l.death == never) ≡ true = grind (arith, common_steps, h.0) in
    rw t (at_birth (l.birth == epoch) refl)
  where
    none : AreLives epoch epoch ls
    none = subst (AreLives epoch epoch) (sym h.1) tt

    at_birth : (u : Bool) → (l.birth == epoch) ≡ u → AreLives epoch from (if u then ls else record l { death = epoch } ∷ ls)
    at_birth true is = subst (AreLives epoch from) (sym h.1) tt
    at_birth false is = let less : l.birth < epoch = grind (arith, common_steps, b) in (a, b, less, inr (omega arith, none))
are-del epoch from (l ∷ ls) (a, b, c, inr h) early =
    let f : (l.death == never) ≡ false = grind (arith, common_steps, h.0) in
    rw f (a, b, c, inr (h.0, are-del epoch l.death ls h.1 early))

-- ---- purges

-- a number among these does not see what none of them sees
unseen-by : (test : ℕ → Bool) (kept : List ℕ) (n : ℕ) → Contains kept n → list_any test kept ≡ false → test n ≡ false
unseen-by test [] n (k, low, at) none = absurd (omega (arith, low))
unseen-by test (m ∷ kept) n (zero, low, at) none = first (test m) refl
  where
    first : (t : Bool) → test m ≡ t → test n ≡ false
    first true is = absurd (cc)
    first false is = subst (λ (x : ℕ). test x ≡ false) at is
unseen-by test (m ∷ kept) n (suc k, low, at) none =
    first (test m) refl none (λ more. unseen-by test kept n (k, omega (arith, low), at) more)
  where
    first : (t : Bool) → test m ≡ t → list_any test (m ∷ kept) ≡ false → (list_any test kept ≡ false → test n ≡ false)
        → test n ≡ false
    first true is all more = absurd (cc)
    first false is all more = more (cc)

-- a view of these numbers, and the live one, does not see a spent life
pub unseen-spent : (kept : List ℕ) (n : ℕ) (l : Life) → Contains kept n → is_spent kept l ≡ true → sees (Snap n) l ≡ false
unseen-spent kept n l here is = unseen-by (λ m. sees (Snap m) l) kept n here
    (by_test (l.death == never) (list_any (λ m. sees (Snap m) l) kept) is)
  where
    by_test : (dead any : Bool) → (not dead && not any) ≡ true → any ≡ false
    by_test true any is = cc
    by_test false true is = cc
    by_test false false is = refl

pub dead-spent : (kept : List ℕ) (l : Life) → is_spent kept l ≡ true → (l.death == never) ≡ false
dead-spent kept l is = by_test (l.death == never) (list_any (λ m. sees (Snap m) l) kept) is
  where
    by_test : (dead any : Bool) → (not dead && not any) ≡ true → dead ≡ false
    by_test true any is = cc
    by_test false any is = refl

-- what a view sees that sees no spent life
seen-purge-by : (at : At) (kept : List ℕ) (ls : List Life) → ((l : Life) → is_spent kept l ≡ true → sees at l ≡ false)
    → seen at (purge_life kept ls) ≡ seen at ls
seen-purge-by at kept [] blind = refl
seen-purge-by at kept (l ∷ ls) blind = by_test (is_spent kept l) refl (seen-purge-by at kept ls blind)
  where
    by_test : (t : Bool) → is_spent kept l ≡ t → seen at (purge_life kept ls) ≡ seen at ls
        → seen at (if t then ls else l ∷ purge_life kept ls) ≡ (if sees at l then Some l.value else seen at ls)
    by_test true is same = rw (blind l is) refl
    by_test false is same = ap (λ (x : Option (List ℕ)). if sees at l then Some l.value else x) same

pub seen-purge-live : (kept : List ℕ) (ls : List Life) → seen Live (purge_life kept ls) ≡ seen Live ls
seen-purge-live kept ls = seen-purge-by Live kept ls (dead-spent kept)

pub seen-purge-kept : (kept : List ℕ) (n : ℕ) (ls : List Life) → Contains kept n → seen (Snap n) (purge_life kept ls) ≡ seen
    (Snap n) ls
seen-purge-kept kept n ls here = seen-purge-by (Snap n) kept ls (λ l. unseen-spent kept n l here)

pub are-purge : (kept : List ℕ) (epoch from : ℕ) (ls : List Life) → AreLives epoch from ls
    → AreLives epoch from (purge_life kept ls)
unfolding AreLives
are-purge kept epoch from [] are = tt
are-purge kept epoch from (l ∷ ls) (a, b, c, inl h) = by_test (is_spent kept l) refl
  where
    by_test : (t : Bool) → is_spent kept l ≡ t → AreLives epoch from (if t then ls else l ∷ purge_life kept ls)
    by_test true is = subst (AreLives epoch from) (sym h.1) tt
    by_test false is = (a, b, c, inl (h.0, ap (purge_life kept) h.1))
are-purge kept epoch from (l ∷ ls) (a, b, c, inr h) = by_test (is_spent kept l) (are-purge kept epoch l.death ls h.1)
  where
    by_test : (t : Bool) → AreLives epoch l.death (purge_life kept ls)
        → AreLives epoch from (if t then ls else l ∷ purge_life kept ls)
    by_test true are = are-from epoch l.death from ls (omega arith) h.1
    by_test false are = (a, b, c, inr (h.0, are))
