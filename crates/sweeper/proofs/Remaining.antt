-- Lives that are left where one ends or is purged.
use Rattle.std.proofs.Common.{◌≡◌, ◌≢◌, ◌⊎◌, inl, inr, ℕ, ◌<◌, ◌≤◌, ◌==◌, Bool, true, false, if◌then◌else◌}
use Rattle.std.proofs.Common.{List, [], ◌∷◌, Some, refl, sym, ◌∙◌, ap, subst, arith}
use Rattle.std.specs.List.{Contains}
use Rattle.pairs.specs.Lives.{Life, never, del_life, is_spent, spent, purge_life, AreLives}
use Rattle.extent_ops.proofs.Among.{among-first, among-later, among-none, among-cons, Lived}

-- ---- a life that ends

lived-later : (birth : ℕ) (value : List ℕ) (ls : List Life) (m : Life) → Lived birth value ls → Lived birth value (m ∷ ls)
lived-later birth value ls m s =
    record { life = s.life; among = among-later m s.life ls s.among; born_at = s.born_at; is = s.is }

pub lived-same : (l : Life) (ls : List Life) → Contains ls l → Lived l.birth l.value ls
lived-same l ls among = record { life = l; among = among; born_at = refl; is = refl }

pub among-del : (epoch : ℕ) (l : Life) (ls : List Life) → Contains (del_life epoch ls) l → Lived l.birth l.value ls
among-del epoch l [] is = absurd (among-none l is)
among-del epoch l (m ∷ ls) is = by_tests (m.death == never) (m.birth == epoch) is (λ h. among-del epoch l ls h)
  where
    of-first : (x : Life) → x.birth ≡ m.birth → x.value ≡ m.value → l ≡ x → Lived l.birth l.value (m ∷ ls)
    of-first x birth value e = record {
      life = m;
      among = among-first m ls;
      born_at = sym (ap (λ (y : Life). y.birth) e ∙ birth);
      is = sym (ap (λ (y : Life). y.value) e ∙ value);
    }

    rest : Contains ls l → Lived l.birth l.value (m ∷ ls)
    rest h = lived-later l.birth l.value ls m (lived-same l ls h)

    or-ended : (l ≡ record m { death = epoch }) ⊎ Contains ls l → Lived l.birth l.value (m ∷ ls)
    or-ended (inl e) = of-first (record m { death = epoch }) refl refl e
    or-ended (inr h) = rest h

    or-more : (Contains (del_life epoch ls) l → Lived l.birth l.value ls) → (l ≡ m) ⊎ Contains (del_life epoch ls) l
        → Lived l.birth l.value (m ∷ ls)
    or-more more (inl e) = of-first m refl refl e
    or-more more (inr h) = lived-later l.birth l.value ls m (more h)

    by_tests : (t u : Bool)
        → Contains (if t then (if u then ls else record m { death = epoch } ∷ ls) else (m ∷ del_life epoch ls)) l
        → (Contains (del_life epoch ls) l → Lived l.birth l.value ls) → Lived l.birth l.value (m ∷ ls)
    by_tests true true h more = rest h
    by_tests true false h more = or-ended (among-cons (record m { death = epoch }) l ls h)
    by_tests false u h more = or-more more (among-cons m l (del_life epoch ls) h)

pub none-del : (epoch : ℕ) (ls : List Life) → ls ≡ [] → del_life epoch ls ≡ []
none-del epoch [] is = refl
none-del epoch (l ∷ ls) is = absurd (cc)

-- ---- a life that is purged

pub none-purge : (kept : List ℕ) (ls : List Life) → ls ≡ [] → purge_life kept ls ≡ []
none-purge kept [] is = refl
none-purge kept (l ∷ ls) is = absurd (cc)

pub among-purge : (kept : List ℕ) (l : Life) (ls : List Life) → Contains (purge_life kept ls) l → Contains ls l
among-purge kept l [] is = absurd (among-none l is)
among-purge kept l (m ∷ ls) is = by_test (is_spent kept m) is (λ h. among-purge kept l ls h)
  where
    or-more : (Contains (purge_life kept ls) l → Contains ls l) → (l ≡ m) ⊎ Contains (purge_life kept ls) l → Contains (m ∷ ls) l
    or-more more (inl e) = subst (λ (x : Life). Contains (m ∷ ls) x) (sym e) (among-first m ls)
    or-more more (inr h) = among-later m l ls (more h)

    by_test : (t : Bool) → Contains (if t then ls else (m ∷ purge_life kept ls)) l
        → (Contains (purge_life kept ls) l → Contains ls l) → Contains (m ∷ ls) l
    by_test true h more = among-later m l ls h
    by_test false h more = or-more more (among-cons m l (purge_life kept ls) h)

-- the first spent life is one of them, and is spent
pub spent-among : (kept : List ℕ) (l : Life) (ls : List Life) → spent kept ls ≡ Some l → Contains ls l × (is_spent kept l ≡ true)
spent-among kept l [] is = absurd (cc)
spent-among kept l (m ∷ ls) is = by_test (is_spent kept m) refl is (λ h. spent-among kept l ls h)
  where
    by_test : (t : Bool) → is_spent kept m ≡ t → (if t then Some m else spent kept ls) ≡ Some l
        → (spent kept ls ≡ Some l → Contains ls l × (is_spent kept l ≡ true)) → Contains (m ∷ ls) l × (is_spent kept l ≡ true)
    by_test true at h more =
        let same : m ≡ l = cc in
        subst (λ (x : Life). Contains (m ∷ ls) x × (is_spent kept x ≡ true)) same (among-first m ls, at)
    by_test false at h more = (among-later m l ls (more h).0, (more h).1)

-- ---- births rise

pub born-from : (epoch from : ℕ) (l : Life) (ls : List Life) → AreLives epoch from ls → Contains ls l → from ≤ l.birth
unfolding AreLives
born-from epoch from l [] are is = absurd (among-none l is)
born-from epoch from l (m ∷ ls) (a, b, c, d) is =
    by_place (among-cons m l ls is) d (λ are h. born-from epoch m.death l ls are h)
  where
    by_place : (l ≡ m) ⊎ Contains ls l → ((m.death ≡ never) × (ls ≡ [])) ⊎ ((m.death ≤ epoch) × AreLives epoch m.death ls)
        → (AreLives epoch m.death ls → Contains ls l → m.death ≤ l.birth) → from ≤ l.birth
    by_place (inl e) d more = subst (λ (x : Life). from ≤ x.birth) (sym e) a
    by_place (inr h) (inl last) more = absurd (among-none l (subst (λ (xs : List Life). Contains xs l) last.1 h))
    by_place (inr h) (inr lasts) more = let up : m.death ≤ l.birth = more lasts.1 h in omega (arith, up, a, c)

-- those behind the first are born later
later-born : (epoch from : ℕ) (m l : Life) (ls : List Life) → AreLives epoch from (m ∷ ls) → Contains ls l → m.birth < l.birth
unfolding AreLives
later-born epoch from m l ls (a, b, c, inl last) h = absurd (among-none l (subst (λ (xs : List Life). Contains xs l) last.1 h))
later-born epoch from m l ls (a, b, c, inr more) h =
    let up : m.death ≤ l.birth = born-from epoch m.death l ls more.1 h in omega (arith, up, c)

are-rest : (epoch from : ℕ) (m : Life) (ls : List Life) → AreLives epoch from (m ∷ ls) → AreLives epoch m.death ls
unfolding AreLives
are-rest epoch from m ls (a, b, c, inl last) = subst (AreLives epoch m.death) (sym last.1) tt
are-rest epoch from m ls (a, b, c, inr more) = more.1

pub one-birth : (epoch from : ℕ) (a b : Life) (ls : List Life) → AreLives epoch from ls → Contains ls a → Contains ls b
    → a.birth ≡ b.birth → a ≡ b
one-birth epoch from a b [] are is is' same = absurd (among-none a is)
one-birth epoch from a b (m ∷ ls) are is is' same = by_places (among-cons m a ls is) (among-cons m b ls is')
    (λ h h'. one-birth epoch m.death a b ls (are-rest epoch from m ls are) h h' same)
  where
    by_places : (a ≡ m) ⊎ Contains ls a → (b ≡ m) ⊎ Contains ls b → (Contains ls a → Contains ls b → a ≡ b) → a ≡ b
    by_places (inl e) (inl f) more = e ∙ sym f
    by_places (inl e) (inr h) more =
        let up : m.birth < b.birth = later-born epoch from m b ls are h in
        let is : a.birth ≡ m.birth = ap (λ (x : Life). x.birth) e in absurd (omega (arith, up, is, same))
    by_places (inr h) (inl f) more =
        let up : m.birth < a.birth = later-born epoch from m a ls are h in
        let is : b.birth ≡ m.birth = ap (λ (x : Life). x.birth) f in absurd (omega (arith, up, is, same))
    by_places (inr h) (inr h') more = more h h'

-- what is left was born at another time than what was purged
pub purged-other : (kept : List ℕ) (epoch from : ℕ) (l other : Life) (ls : List Life) → AreLives epoch from ls
    → spent kept ls ≡ Some l → Contains (purge_life kept ls) other → other.birth ≢ l.birth
purged-other kept epoch from l other [] are is among = absurd (among-none other among)
purged-other kept epoch from l other (m ∷ ls) are is among =
    by_test (is_spent kept m) is among (λ h k. purged-other kept epoch m.death l other ls (are-rest epoch from m ls are) h k)
  where
    or-more : spent kept ls ≡ Some l → (Contains (purge_life kept ls) other → other.birth ≢ l.birth)
        → (other ≡ m) ⊎ Contains (purge_life kept ls) other → other.birth ≢ l.birth
    or-more h more (inl e) = λ same.
        let up : m.birth < l.birth = later-born epoch from m l ls are (spent-among kept l ls h).0 in
        let is : other.birth ≡ m.birth = ap (λ (x : Life). x.birth) e in absurd (omega (arith, up, is, same))
    or-more h more (inr k) = more k

    by_test : (t : Bool) → (if t then Some m else spent kept ls) ≡ Some l
        → Contains (if t then ls else (m ∷ purge_life kept ls)) other
        → (spent kept ls ≡ Some l → Contains (purge_life kept ls) other → other.birth ≢ l.birth) → other.birth ≢ l.birth
    by_test true h k more = λ same.
        let first : m ≡ l = cc in
        let up : m.birth < other.birth = later-born epoch from m other ls are k in
        let is : m.birth ≡ l.birth = ap (λ (x : Life). x.birth) first in absurd (omega (arith, up, is, same))
    by_test false h k more = or-more h (more h) (among-cons m other (purge_life kept ls) k)
