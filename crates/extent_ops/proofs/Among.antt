-- Lives among the lives of a key: which one a view sees, and which are there behind a put.
use Rattle.std.proofs.Common.{◌≡◌, ◌⊎◌, inl, inr, ℕ, zero, suc, ◌<◌, ◌==◌, Bool, true, false}
use Rattle.std.proofs.Common.{if◌then◌else◌, List, [], ◌∷◌, Some, refl, sym, ap, arith}
use Rattle.std.proofs.lemmas.Grind.{common_steps}
use Rattle.std.specs.List.{Contains}
use Rattle.pairs.specs.declared.at.At.{At}
use Rattle.pairs.specs.declared.at.At.TheVariants.{Live, Snap}
use Rattle.pairs.specs.Lives.{Life, never, sees, seen, born, new_life, put_life}

-- ---- one of the lives

pub among-first : (l : Life) (ls : List Life) → Contains (l ∷ ls) l
among-first l ls = (zero, omega arith, refl)

pub among-later : (m l : Life) (ls : List Life) → Contains ls l → Contains (m ∷ ls) l
among-later m l ls (k, low, at) = (suc k, omega (arith, low), at)

pub among-none : (l : Life) → Contains [] l → ⊥
among-none l (k, low, at) = absurd (omega (arith, low))

pub among-cons : (m l : Life) (ls : List Life) → Contains (m ∷ ls) l → (l ≡ m) ⊎ Contains ls l
among-cons m l ls (zero, low, at) = inl (sym at)
among-cons m l ls (suc k, low, at) = inr (k, omega (arith, low), at)

-- ---- what a view sees

pub record Sees (at : At) (value : List ℕ) (ls : List Life) : Type 0 where
  pub life : Life
  pub among : Contains ls life
  pub seen : sees at life ≡ true
  pub is : life.value ≡ value

later_sees : (at : At) (value : List ℕ) (ls : List Life) (l : Life) → Sees at value ls → Sees at value (l ∷ ls)
later_sees at value ls l s = record { life = s.life; among = among-later l s.life ls s.among; seen = s.seen; is = s.is }

pub seen-among : (at : At) (value : List ℕ) (ls : List Life) → seen at ls ≡ Some value → Sees at value ls
seen-among at value [] is = absurd (cc)
seen-among at value (l ∷ ls) is = by_test (sees at l) refl is (λ h. seen-among at value ls h)
  where
    by_test : (t : Bool) → sees at l ≡ t → (if t then Some l.value else seen at ls) ≡ Some value
        → (seen at ls ≡ Some value → Sees at value ls) → Sees at value (l ∷ ls)
    by_test true test is more = record { life = l; among = among-first l ls; seen = test; is = (cc) }
    by_test false test is more = later_sees at value ls l (more is)

-- ---- by birth and value

pub record Lived (birth : ℕ) (value : List ℕ) (ls : List Life) : Type 0 where
  pub life : Life
  pub among : Contains ls life
  pub born_at : life.birth ≡ birth
  pub is : life.value ≡ value

later_lived : (birth : ℕ) (value : List ℕ) (ls : List Life) (l : Life) → Lived birth value ls → Lived birth value (l ∷ ls)
later_lived birth value ls l s =
    record { life = s.life; among = among-later l s.life ls s.among; born_at = s.born_at; is = s.is }

-- what lives, by its value and its birth
pub born-among : (birth : ℕ) (value : List ℕ) (ls : List Life) → seen Live ls ≡ Some value → born ls ≡ Some birth
    → Lived birth value ls
born-among birth value [] is at = absurd (cc)
born-among birth value (l ∷ ls) is at = by_test (l.death == never) is at (λ h k. born-among birth value ls h k)
  where
    by_test : (t : Bool) → (if t then Some l.value else seen Live ls) ≡ Some value
        → (if t then Some l.birth else born ls) ≡ Some birth
        → (seen Live ls ≡ Some value → born ls ≡ Some birth → Lived birth value ls) → Lived birth value (l ∷ ls)
    by_test true is at more = record { life = l; among = among-first l ls; born_at = (cc); is = (cc) }
    by_test false is at more = later_lived birth value ls l (more is at)

-- the life that was put, or one that was there with this birth and value
abbrev pub PutOrLived : ℕ → List ℕ → Life → List Life → Type 0
PutOrLived epoch value l ls = ((l.value ≡ value) × (l.birth ≡ epoch)) ⊎ Lived l.birth l.value ls

later : (epoch : ℕ) (value : List ℕ) (l m : Life) (ls : List Life) → PutOrLived epoch value l ls
    → PutOrLived epoch value l (m ∷ ls)
later epoch value l m ls (inl x) = inl x
later epoch value l m ls (inr r) = inr (later_lived l.birth l.value ls m r)

pub among-put : (epoch : ℕ) (value : List ℕ) (l : Life) (ls : List Life) → Contains (put_life epoch value ls) l
    → PutOrLived epoch value l ls
among-put epoch value l [] is = by_first (among-cons (new_life epoch value) l [] is)
  where
    by_first : (l ≡ new_life epoch value) ⊎ Contains [] l → PutOrLived epoch value l []
    by_first (inl e) = inl (ap (λ (x : Life). x.value) e, ap (λ (x : Life). x.birth) e)
    by_first (inr none) = absurd (among-none l none)
among-put epoch value l (m ∷ ls) is = by_tests (m.death == never) (m.birth == epoch) is (λ h. among-put epoch value l ls h)
  where
    new : l ≡ new_life epoch value → PutOrLived epoch value l (m ∷ ls)
    new e = inl (ap (λ (x : Life). x.value) e, ap (λ (x : Life). x.birth) e)

    old : Contains ls l → PutOrLived epoch value l (m ∷ ls)
    old here = inr (record { life = l; among = among-later m l ls here; born_at = refl; is = refl })

    same : l ≡ m → PutOrLived epoch value l (m ∷ ls)
    same e = inr (record {
      life = m;
      among = among-first m ls;
      born_at = sym (ap (λ (x : Life). x.birth) e);
      is = sym (ap (λ (x : Life). x.value) e);
    })

    ended : l ≡ record m { death = epoch } → PutOrLived epoch value l (m ∷ ls)
    ended e = inr (record {
      life = m;
      among = among-first m ls;
      born_at = sym (ap (λ (x : Life). x.birth) e);
      is = sym (ap (λ (x : Life). x.value) e);
    })

    or_old : (l ≡ new_life epoch value) ⊎ Contains ls l → PutOrLived epoch value l (m ∷ ls)
    or_old (inl e) = new e
    or_old (inr h) = old h

    or_new : (l ≡ record m { death = epoch }) ⊎ Contains (new_life epoch value ∷ ls) l → PutOrLived epoch value l (m ∷ ls)
    or_new (inl e) = ended e
    or_new (inr h) = or_old (among-cons (new_life epoch value) l ls h)

    or_more : (Contains (put_life epoch value ls) l → PutOrLived epoch value l ls)
        → (l ≡ m) ⊎ Contains (put_life epoch value ls) l → PutOrLived epoch value l (m ∷ ls)
    or_more more (inl e) = same e
    or_more more (inr h) = later epoch value l m ls (more h)

    by_tests : (t u : Bool)
        → Contains (if t then (if u then new_life epoch value ∷ ls else record m { death = epoch } ∷ (new_life epoch value ∷ ls))
        else (m ∷ put_life epoch value ls)) l
        → (Contains (put_life epoch value ls) l → PutOrLived epoch value l ls) → PutOrLived epoch value l (m ∷ ls)
    by_tests true true h more = or_old (among-cons (new_life epoch value) l ls h)
    by_tests true false h more = or_new (among-cons (record m { death = epoch }) l (new_life epoch value ∷ ls) h)
    by_tests false u h more = or_more more (among-cons m l (put_life epoch value ls) h)

-- a view of an earlier number sees no life of this birth
pub unseen-earlier : (n epoch : ℕ) (l : Life) → n < epoch → l.birth ≡ epoch → sees (Snap n) l ≡ true → ⊥
unseen-earlier n epoch l late born seen = grind (arith, common_steps)
