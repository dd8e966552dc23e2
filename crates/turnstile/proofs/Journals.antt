-- Journals, the newest entry first, their growth, and the entries of one pass in them.
use Rattle.std.proofs.Common.{◌≡◌, ◌≢◌, ℕ, ◌+◌, ◌≤◌, ◌==◌, Bool, true, false, List, [], ◌∷◌, ◌++◌, refl, ap, sym, ◌∙◌, arith}
use Rattle.std.proofs.Common.{length}
use Rattle.std.proofs.Common.{append_assoc, length-append, nat_lt}
use Rattle.page_types.specs.declared.journal.JEntry.{JEntry}
use Rattle.page_types.specs.declared.journal.JEntry.TheVariants.{Took, Doubted, Late}
use Rattle.page_types.specs.Journals.{own, is_of}
use Rattle.turnstile.specs.Growth.{Grew, GrowsBy, AreBy, IsBy}
use Rattle.turnstile.specs.Views.{longer}

pub grew_self : {A : Type 0} (xs : List A) → Grew xs xs
grew_self xs = ([], refl)

pub grew_trans : {A : Type 0} (xs ys zs : List A) → Grew xs ys → Grew ys zs → Grew xs zs
grew_trans xs ys zs p q = (q.0 ++ p.0, q.1 ∙ (ap (λ l. q.0 ++ l) p.1 ∙ sym (append_assoc q.0 p.0 xs)))

append_nil : {A : Type 0} (xs : List A) → xs ++ [] ≡ xs
append_nil [] = refl
append_nil (x ∷ xs) = ap (λ l. x ∷ l) (append_nil xs)

pub nil_grew : {A : Type 0} (xs : List A) → Grew [] xs
nil_grew xs = (xs, sym (append_nil xs))

pub own_append : (n : ℕ) (xs ys : List JEntry) → own n (xs ++ ys) ≡ own n xs ++ own n ys
own_append n [] ys = refl
own_append n (x ∷ xs) ys = grind (arith, own_append n xs ys)

nil_of : {A : Type 0} (xs : List A) → length xs ≡ 0 → xs ≡ []
nil_of [] e = refl
nil_of (x ∷ xs) e = absurd (omega arith)

own_grew : (n : ℕ) (xs ys : List JEntry) (p : Grew xs ys) → own n ys ≡ own n p.0 ++ own n xs
own_grew n xs ys p = ap (own n) p.1 ∙ own_append n p.0 xs

own_longer : (n : ℕ) (xs ys : List JEntry) → Grew xs ys → length (own n xs) ≤ length (own n ys)
own_longer n xs ys p =
    let l : length (own n ys) ≡ length (own n p.0) + length (own n xs) =
    ap length (own_grew n xs ys p) ∙ length-append (own n p.0) (own n xs) in omega (arith, l)

-- what is between two journals with one pass's entries alike has them too
pub own_between : (n : ℕ) (xs ys zs : List JEntry) → Grew xs ys → Grew ys zs → own n xs ≡ own n zs → own n ys ≡ own n zs
own_between n xs ys zs p q e =
    let a = own_longer n xs ys p in
    let b : own n zs ≡ own n q.0 ++ own n ys = own_grew n ys zs q in
    let l : length (own n zs) ≡ length (own n q.0) + length (own n ys) = ap length b ∙ length-append (own n q.0) (own n ys) in
    let x : length (own n xs) ≡ length (own n zs) = ap length e in
    let none : own n q.0 ≡ [] = nil_of (own n q.0) (omega (arith, a, l, x)) in
    sym (b ∙ ap (λ r. r ++ own n ys) none)

-- of two earlier states of one journal the shorter is an earlier one of the longer
nested : {A : Type 0} (p xs q ys : List A) → p ++ xs ≡ q ++ ys → length xs ≤ length ys → Grew xs ys
nested p xs [] ys e l = (p, sym e)
nested [] xs (z ∷ q) ys e l =
    absurd (let n : length xs ≡ length (z ∷ q) + length ys = ap length e ∙ length-append (z ∷ q) ys in omega (arith, n, l))
nested (y ∷ p) xs (z ∷ q) ys e l = nested p xs q ys (grind (arith, e)) l

longer_by : (xs ys now : List JEntry) (b : Bool) → nat_lt (length xs) (length ys) ≡ b → Grew xs now → Grew ys now
    → Grew (longer xs ys) now × Grew xs (longer xs ys) × Grew ys (longer xs ys)
longer_by xs ys now true e p q = rw e (q, nested p.0 xs q.0 ys (sym p.1 ∙ q.1) (grind (arith, e)), grew_self ys)
longer_by xs ys now false e p q = rw e (p, grew_self xs, nested q.0 ys p.0 xs (sym q.1 ∙ p.1) (grind (arith, e)))

pub longer_has : (xs ys now : List JEntry) → Grew xs now → Grew ys now
    → Grew (longer xs ys) now × Grew xs (longer xs ys) × Grew ys (longer xs ys)
longer_has xs ys now p q = longer_by xs ys now (nat_lt (length xs) (length ys)) refl p q

not_of : (n k : ℕ) → k ≢ n → (n == k) ≡ false
not_of n k ne = grind (arith, ne)

not_is_of : (n k : ℕ) (e : JEntry) → k ≢ n → IsBy n e → is_of k e ≡ false
not_is_of n k (Took asker store command answer) ne by = ap (λ x. x == k) by ∙ not_of n k ne
not_is_of n k (Doubted asker store command) ne by = ap (λ x. x == k) by ∙ not_of n k ne
not_is_of n k (Late store command answer) ne by = refl

none_of : (n k : ℕ) (part : List JEntry) → k ≢ n → AreBy n part → own k part ≡ []
none_of n k [] ne by = refl
none_of n k (e ∷ es) ne by = rw (not_is_of n k e ne by.0) (none_of n k es ne by.1)

-- a turn adds no entries of other passes
pub others_stay : (n k : ℕ) (before now : List JEntry) → GrowsBy n before now → k ≢ n → own k before ≡ own k now
others_stay n k before now g ne =
    sym (ap (own k) g.is ∙ (own_append k g.part before ∙ ap (λ l. l ++ own k before) (none_of n k g.part ne g.by)))

pub grows_grew : (n : ℕ) (before now : List JEntry) → GrowsBy n before now → Grew before now
grows_grew n before now g = (g.part, g.is)
