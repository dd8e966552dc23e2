-- Entries of a history by their serials: those of a range, and those of a transaction alone.
use Rattle.std.proofs.Common.{◌≡◌, ◌≢◌, ℕ, suc, ◌<◌, ◌≤◌, ◌==◌, Bool, true, false, cond, List, [], ◌∷◌, ◌++◌, refl, ap}
use Rattle.std.proofs.Common.{sym, ◌∙◌, subst, arith, nat_le, nat_lt}
use Rattle.std.proofs.lemmas.Bool.Decides.{nat_tests}
use Rattle.nfs3_types.specs.declared.entry.Entry.{Entry}
use Rattle.serial_rules.specs.History.{Happened, is_between, those_between}
use Rattle.serial_core.proofs.Basics.{and_true, eq_true, eq_self, not_both}

-- those of one transaction
abbrev pub ones : ℕ → ℕ → List Happened → List Entry
ones pass n hs = those_between pass n (suc n) hs

-- the entry is of the pass and of this range
pub record IsAt (pass first last : ℕ) (e : Entry) : Type 0 where
  pub pass_is : e.pass ≡ pass
  pub low : first ≤ e.serial
  pub high : e.serial < last

pub le_true : (a b : ℕ) → nat_le a b ≡ true → a ≤ b
le_true a b h = grind (arith, nat_tests)

pub true_le : (a b : ℕ) → a ≤ b → nat_le a b ≡ true
true_le a b h = grind (arith, nat_tests)

pub lt_true : (a b : ℕ) → nat_lt a b ≡ true → a < b
lt_true a b h = grind (arith, nat_tests)

pub true_lt : (a b : ℕ) → a < b → nat_lt a b ≡ true
true_lt a b h = grind (arith, nat_tests)

pub not_eq : (n m : ℕ) → (n == m) ≡ false → n ≢ m
not_eq n m is same = not_both (subst (λ k. (n == k) ≡ true) same (eq_self n)) is

pub is_at : (pass first last : ℕ) (e : Entry) → is_between pass first last e ≡ true → IsAt pass first last e
is_at pass first last e h =
    let a = and_true (e.pass == pass) _ h in
    let b = and_true (nat_le first e.serial) _ a.1 in
    record { pass_is = eq_true e.pass pass a.0; low = le_true first e.serial b.0; high = lt_true e.serial last b.1 }

pub at_is : (pass first last : ℕ) (e : Entry) → IsAt pass first last e → is_between pass first last e ≡ true
at_is pass first last e a =
    let p : (e.pass == pass) ≡ true = subst (λ x. (e.pass == x) ≡ true) a.pass_is (eq_self e.pass) in
    rw (p, true_le first e.serial a.low, true_lt e.serial last a.high) refl

pub not_at : (pass first last : ℕ) (e : Entry) → (IsAt pass first last e → ⊥) → is_between pass first last e ≡ false
not_at pass first last e none = at (is_between pass first last e) refl
  where
    at : (b : Bool) → is_between pass first last e ≡ b → b ≡ false
    at true is = absurd (none (is_at pass first last e is))
    at false is = refl

pub those_append : (pass first last : ℕ) (hs is : List Happened) →
    those_between pass first last (hs ++ is) ≡ those_between pass first last hs ++ those_between pass first last is
those_append pass first last [] is = refl
those_append pass first last (h ∷ hs) is = at (is_between pass first last h.entry) (those_append pass first last hs is)
  where
    at : (b : Bool) → those_between pass first last (hs ++ is) ≡
        those_between pass first last hs ++ those_between pass first last is →
        cond b (h.entry ∷ those_between pass first last (hs ++ is)) (those_between pass first last (hs ++ is)) ≡
        cond b (h.entry ∷ those_between pass first last hs) (those_between pass first last hs) ++ those_between pass first last is
    at true rest = ap (λ (l : List Entry). h.entry ∷ l) rest
    at false rest = rest

-- ## Ranges of which nothing stands

-- no transaction of the range has an entry
abbrev pub AreNone : ℕ → ℕ → ℕ → List Happened → Type 0
AreNone pass first last hs = (n : ℕ) → first ≤ n → n < last → ones pass n hs ≡ []

-- an entry is not of a transaction that has none
not_here : (pass n : ℕ) (h : Happened) (hs : List Happened) → ones pass n (h ∷ hs) ≡ [] →
    is_between pass n (suc n) h.entry ≡ false
not_here pass n h hs none = at (is_between pass n (suc n) h.entry) none
  where
    at : (b : Bool) → cond b (h.entry ∷ ones pass n hs) (ones pass n hs) ≡ [] → b ≡ false
    at true none = absurd cc
    at false none = refl

none_rest : (pass n : ℕ) (h : Happened) (hs : List Happened) → ones pass n (h ∷ hs) ≡ [] → ones pass n hs ≡ []
none_rest pass n h hs none = at (is_between pass n (suc n) h.entry) none
  where
    at : (b : Bool) → cond b (h.entry ∷ ones pass n hs) (ones pass n hs) ≡ [] → ones pass n hs ≡ []
    at true none = absurd cc
    at false none = none

-- at its own serial
at_own : (pass first last : ℕ) (e : Entry) → IsAt pass first last e → is_between pass e.serial (suc e.serial) e ≡ true
at_own pass first last e a = at_is pass e.serial (suc e.serial) e
    (record { pass_is = a.pass_is; low = omega arith; high = omega arith })

none_outside : (pass first last : ℕ) (h : Happened) (hs : List Happened) → AreNone pass first last (h ∷ hs) →
    IsAt pass first last h.entry → ⊥
none_outside pass first last h hs none a =
    not_both (at_own pass first last h.entry a) (not_here pass h.entry.serial h hs (none h.entry.serial a.low a.high))

-- both tests agree where the entry is not between the two beginnings
same_tests : (pass a b c : ℕ) (e : Entry) → a ≤ b → (IsAt pass a b e → ⊥) → is_between pass a c e ≡ is_between pass b c e
same_tests pass a b c e ab none = at (is_between pass a c e) refl (is_between pass b c e) refl
  where
    at : (x : Bool) → is_between pass a c e ≡ x → (y : Bool) → is_between pass b c e ≡ y → x ≡ y
    at true x_is true y_is = refl
    at false x_is false y_is = refl
    at true x_is false y_is =
        let i = is_at pass a c e x_is in
        let late : e.serial < b → ⊥ = (λ l. none (record { pass_is = i.pass_is; low = i.low; high = l })) in
        absurd (not_both (at_is pass b c e (record { pass_is = i.pass_is; low = not_below late; high = i.high })) y_is)
      where
        not_below : (e.serial < b → ⊥) → b ≤ e.serial
        not_below late = grind (arith, late)
    at false x_is true y_is =
        let i = is_at pass b c e y_is in
        let low = i.low in
        absurd (not_both (at_is pass a c e (record { pass_is = i.pass_is; low = omega (arith, low, ab); high = i.high })) x_is)

pub skip : (pass a b c : ℕ) (hs : List Happened) → a ≤ b → AreNone pass a b hs →
    those_between pass a c hs ≡ those_between pass b c hs
skip pass a b c [] ab none = refl
skip pass a b c (h ∷ hs) ab none =
    at (is_between pass a c h.entry) (is_between pass b c h.entry)
    (same_tests pass a b c h.entry ab (none_outside pass a b h hs none))
    (skip pass a b c hs ab (λ n low high. none_rest pass n h hs (none n low high)))
  where
    at : (x y : Bool) → x ≡ y → those_between pass a c hs ≡ those_between pass b c hs →
        cond x (h.entry ∷ those_between pass a c hs) (those_between pass a c hs) ≡
        cond y (h.entry ∷ those_between pass b c hs) (those_between pass b c hs)
    at true true same rest = ap (λ (l : List Entry). h.entry ∷ l) rest
    at false false same rest = rest
    at true false same rest = absurd cc
    at false true same rest = absurd cc

pub empty_range : (pass first last : ℕ) (hs : List Happened) → last ≤ first → those_between pass first last hs ≡ []
empty_range pass first last [] le = refl
empty_range pass first last (h ∷ hs) le =
    rw (not_at pass first last h.entry (λ a. let l = a.low in let k = a.high in omega (arith, l, k, le)))
    (empty_range pass first last hs le)

pub none_between : (pass first last : ℕ) (hs : List Happened) → first ≤ last → AreNone pass first last hs →
    those_between pass first last hs ≡ []
none_between pass first last hs le none =
    skip pass first last last hs le none ∙ empty_range pass last last hs (omega arith)

-- ## Ranges in which one stands

-- the first list is the second, with this entry at some place
pub record IsWith (e : Entry) (whole rest : List Entry) : Type 0 where
  pub newer : List Entry
  pub older : List Entry
  pub whole_is : whole ≡ newer ++ (e ∷ older)
  pub rest_is : rest ≡ newer ++ older

with_more : (e x : Entry) (whole rest : List Entry) → IsWith e whole rest → IsWith e (x ∷ whole) (x ∷ rest)
with_more e x whole rest w = record {
  newer = x ∷ w.newer;
  older = w.older;
  whole_is = ap (λ (l : List Entry). x ∷ l) w.whole_is;
  rest_is = ap (λ (l : List Entry). x ∷ l) w.rest_is;
}

-- of the range this transaction alone has an entry
pub record HasOne (pass first last m : ℕ) (e : Entry) (hs : List Happened) : Type 0 where
  pub low : first ≤ m
  pub high : m < last
  pub others : (n : ℕ) → first ≤ n → n < last → n ≢ m → ones pass n hs ≡ []
  pub one : ones pass m hs ≡ e ∷ []

pub insert_one : (pass a b c m : ℕ) (e : Entry) (hs : List Happened) → a ≤ b → b ≤ c → HasOne pass a b m e hs →
    IsWith e (those_between pass a c hs) (those_between pass b c hs)
insert_one pass a b c m e [] ab bc one = absurd (let z = one.one in cc)
insert_one pass a b c m e (h ∷ hs) ab bc one =
    by (is_between pass m (suc m) h.entry) refl one.one (λ rest. insert_one pass a b c m e hs ab bc rest)
  where
    here : is_between pass m (suc m) h.entry ≡ true → h.entry ≡ e → ones pass m hs ≡ [] →
        IsWith e (those_between pass a c (h ∷ hs)) (those_between pass b c (h ∷ hs))
    here is same rest =
        let i = is_at pass m (suc m) h.entry is in
        let low = i.low in
        let high = i.high in
        let l = one.low in
        let k = one.high in
        let yes_a : is_between pass a c h.entry ≡ true =
        at_is pass a c h.entry (record { pass_is = i.pass_is; low = omega (arith, low, l); high = omega (arith, high, k, bc) }) in
        let no_b : is_between pass b c h.entry ≡ false =
        not_at pass b c h.entry (λ j. let jl = j.low in omega (arith, jl, high, k)) in
        record {
          newer = [];
          older = those_between pass b c hs;
          whole_is = rw yes_a (λ i. same i ∷ skip pass a b c hs ab all_none i);
          rest_is = rw no_b refl;
        }
      where
        all_none : AreNone pass a b hs
        all_none n low high = at (n == m) refl
          where
            at : (x : Bool) → (n == m) ≡ x → ones pass n hs ≡ []
            at true is = subst (λ k. ones pass k hs ≡ []) (sym (eq_true n m is)) rest
            at false is = none_rest pass n h hs (one.others n low high (not_eq n m is))

    there : is_between pass m (suc m) h.entry ≡ false → ones pass m hs ≡ e ∷ [] →
        (HasOne pass a b m e hs → IsWith e (those_between pass a c hs) (those_between pass b c hs)) →
        IsWith e (those_between pass a c (h ∷ hs)) (those_between pass b c (h ∷ hs))
    there is rest old =
        at (is_between pass a c h.entry) (is_between pass b c h.entry)
        (same_tests pass a b c h.entry ab outside)
        (old (record {
          low = one.low;
          high = one.high;
          others = λ n low high ne. none_rest pass n h hs (one.others n low high ne);
          one = rest;
        }))
      where
        outside : IsAt pass a b h.entry → ⊥
        outside i = not_both (at_own pass a b h.entry i)
            (not_here pass h.entry.serial h hs (one.others h.entry.serial i.low i.high other))
          where
            other : h.entry.serial ≢ m
            other same = not_both (at_is pass m (suc m) h.entry
                (record { pass_is = i.pass_is; low = omega (arith, same); high = omega (arith, same) })) is

        at : (x y : Bool) → x ≡ y → IsWith e (those_between pass a c hs) (those_between pass b c hs) →
            IsWith e (cond x (h.entry ∷ those_between pass a c hs) (those_between pass a c hs))
            (cond y (h.entry ∷ those_between pass b c hs) (those_between pass b c hs))
        at true true same w = with_more e h.entry _ _ w
        at false false same w = w
        at true false same w = absurd cc
        at false true same w = absurd cc

    by : (x : Bool) → is_between pass m (suc m) h.entry ≡ x → cond x (h.entry ∷ ones pass m hs) (ones pass m hs) ≡ e ∷ [] →
        (HasOne pass a b m e hs → IsWith e (those_between pass a c hs) (those_between pass b c hs)) →
        IsWith e (those_between pass a c (h ∷ hs)) (those_between pass b c (h ∷ hs))
    by true is one old = here is (cc) (cc)
    by false is one old = there is one old
