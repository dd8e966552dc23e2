-- The laws of arrays.
use Rattle.std.proofs.Common.{◌≡◌, ℕ, zero, suc, List, [], ◌∷◌, ◌++◌, length, Result, Ok, Err, refl, ap, subst, ◌∙◌, inl, inr}
use Rattle.std.proofs.Common.{append_assoc, length-append, arith}
use Rattle.std.specs.Prelude.{nat_le}
use Rattle.std.specs.List.{All, flat_map, sum_by}
use Rattle.std.proofs.lemmas.List.Concat.{flat_map-cons}
use Rattle.std.proofs.lemmas.List.Elements.{All-nil, All-cons}
use Rattle.std.proofs.lemmas.List.Sums.{sum_by-cons}
use Rattle.xdr_grammar.specs.declared.fault.XdrFault.{XdrFault}
use Rattle.xdr_grammar.specs.declared.fault.XdrFault.TheVariants.{TooLong}
use Rattle.xdr_grammar.specs.Grammar.{Grammar, ◌at◌, ◌>>=◌, done, and_then}
use Rattle.xdr_grammar.specs.Items.{word, tested}
use Rattle.xdr_grammar.specs.Arrays.{SpellsItems, BreaksItems, read_items, items, array}
use Rattle.xdr_grammar.specs.Arrays.SpellsItems.{ended, item}
use Rattle.xdr_grammar.specs.Arrays.BreaksItems.{in_item, behind}
use Rattle.xdr_grammar.specs.Laws.{Laws, Found, AreBytes}
use Rattle.xdr_grammar.proofs.Steps.{and_then-ok, and_then-err, ok_is, AreBytes-front, AreBytes-back, All-first, All-others}
use Rattle.xdr_grammar.proofs.Composed.{both-laws, done-laws}
use Rattle.xdr_grammar.proofs.Items.{tested-laws, word-laws}

abbrev others_of : {A : Type 0} → A → List A × List ℕ → Result (List A × List ℕ) XdrFault
others_of x xs = Ok (x ∷ xs.0, xs.1)

abbrev item_of : {A : Type 0} → ℕ → Grammar A → A × List ℕ → Result (List A × List ℕ) XdrFault
item_of n g x = and_then (read_items n g x.1) (others_of x.0)

two_fronts : (bytes a after b rest : List ℕ) → bytes ≡ a ++ after → after ≡ b ++ rest → bytes ≡ (a ++ b) ++ rest
two_fronts bytes a after b rest p q = rw (p, q, append_assoc a b rest) refl

read_items-found : {A : Type 0} (g : Grammar A) → Laws g → (n : ℕ) (bytes : List ℕ) (xs : List A) (rest : List ℕ)
    → read_items n g bytes ≡ Ok (xs, rest) → Found (items n g) bytes xs rest
unfolding read_items items
read_items-found {A = A} g laws zero bytes xs rest e =
    let made : ([], bytes) ≡ (xs, rest) = ok_is ([], bytes) (xs, rest) e in
    subst (λ (z : List A × List ℕ). Found (items zero g) bytes z.0 z.1) made (record {
      front = [];
      parts = refl;
      spelled =
          ended [] refl;
    })
read_items-found {A = A} g laws (suc n) bytes xs rest e =
    let x = and_then-ok (g.read bytes) (item_of n g) (xs, rest) e in
    let y = and_then-ok (read_items n g x.0.1) (others_of x.0.0) (xs, rest) x.2 in
    let f = laws.found bytes x.0.0 x.0.1 x.1 in
    let s = read_items-found g laws n x.0.1 y.0.0 y.0.1 y.1 in
    let made : (x.0.0 ∷ y.0.0, y.0.1) ≡ (xs, rest) = ok_is (x.0.0 ∷ y.0.0, y.0.1) (xs, rest) y.2 in
    let text : List ℕ = f.front ++ s.front in
    subst (λ (z : List A × List ℕ). Found (items (suc n) g) bytes z.0 z.1) made
    (record {
      front = text;
      parts = two_fronts bytes f.front x.0.1 s.front y.0.1 f.parts s.parts;
      spelled =
          item n x.0.0 y.0.0 text f.front s.front (refl {a = text}) f.spelled s.spelled;
    })

read_items-again : {A : Type 0} (g : Grammar A) → Laws g → (n : ℕ) (xs : List A) (front : List ℕ) → SpellsItems g n xs front
    → (rest : List ℕ) → read_items n g (front ++ rest) ≡ Ok (xs, rest)
unfolding read_items
read_items-again g laws _ _ _ (ended front e) rest = rw e refl
read_items-again g laws _ _ _ (item n x xs bytes front back parts s more) rest =
    ap (λ x. and_then x (item_of n g)) (ap g.read (ap (λ (t : List ℕ). t ++ rest) parts ∙ append_assoc front back rest)
    ∙ laws.again x front (back ++ rest) s)
    ∙ ap (λ r. and_then r (others_of x)) (read_items-again g laws n xs back more rest)

read_items-breaks : {A : Type 0} (g : Grammar A) → Laws g → (n : ℕ) (bytes : List ℕ) (fault : XdrFault)
    → read_items n g bytes ≡ Err fault → BreaksItems g fault n bytes
unfolding read_items
read_items-breaks g laws zero bytes fault e = absurd cc
read_items-breaks g laws (suc n) bytes fault e = elim (and_then-err (g.read bytes) (item_of n g) fault e) [
  | inl here ↦ in_item n bytes (laws.breaks bytes fault here)
  | inr x ↦ elim (and_then-err (read_items n g x.0.1) (others_of x.0.0) fault x.2) [
    | inl later ↦
        let f = laws.found bytes x.0.0 x.0.1 x.1 in
        behind n x.0.0 bytes f.front x.0.1 f.parts f.spelled (read_items-breaks g laws n x.0.1 fault later)
    | inr y ↦ let never = y.2 in absurd cc
  ]
]

read_items-broken : {A : Type 0} (g : Grammar A) → Laws g → (fault : XdrFault) (n : ℕ) (bytes : List ℕ)
    → BreaksItems g fault n bytes → read_items n g bytes ≡ Err fault
unfolding read_items
read_items-broken g laws fault _ _ (in_item n bytes b) = ap (λ x. and_then x (item_of n g)) (laws.broken bytes fault b)
read_items-broken g laws fault _ _ (behind n x bytes front back parts s b) =
    ap (λ x. and_then x (item_of n g)) (ap g.read parts ∙ laws.again x front back s)
    ∙ ap (λ r. and_then r (others_of x)) (read_items-broken g laws fault n back b)

items-written : {A : Type 0} (g : Grammar A) → Laws g → (xs : List A) → All g.Fits xs
    → SpellsItems g (length xs) xs (flat_map g.spelling xs)
items-written g laws [] h = ended [] refl
items-written g laws (x ∷ xs) h =
    item (length xs) x xs (flat_map g.spelling (x ∷ xs)) (g.spelling x) (flat_map g.spelling xs) (flat_map-cons g.spelling x xs)
    (laws.written x (All-first g.Fits x xs h)) (items-written g laws xs (All-others g.Fits x xs h))

items-long : {A : Type 0} (g : Grammar A) (n : ℕ) (xs : List A) (front : List ℕ) → SpellsItems g n xs front → length xs ≡ n
items-long g _ _ _ (ended front e) = refl
items-long g _ _ _ (item n x xs bytes front back parts s more) = ap suc (items-long g n xs back more)

items-all : {A : Type 0} (g : Grammar A) → Laws g → (n : ℕ) (xs : List A) (front : List ℕ) → SpellsItems g n xs front
    → AreBytes front → All g.Fits xs
items-all g laws _ _ _ (ended front e) bytes = All-nil g.Fits
items-all g laws _ _ _ (item n x xs text front back parts s more) bytes =
    let both : AreBytes (front ++ back) = subst AreBytes parts bytes in
    All-cons g.Fits x xs (laws.fits x front (AreBytes-front front back both) s)
    (items-all g laws n xs back more (AreBytes-back front back both))

items-sized : {A : Type 0} (g : Grammar A) → Laws g → (n : ℕ) (xs : List A) (front : List ℕ) → SpellsItems g n xs front
    → length front ≡ sum_by g.size xs
items-sized g laws _ _ _ (ended front e) = ap length e
items-sized g laws _ _ _ (item n x xs text front back parts s more) =
    let one = laws.sized x front s in
    let two = items-sized g laws n xs back more in
    omega (arith, ap length parts, length-append front back, one, two, sum_by-cons g.size x xs)

pub items-laws : {A : Type 0} (n : ℕ) (g : Grammar A) → Laws g → Laws (items n g)
unfolding items
items-laws n g laws = record {
  found = λ bytes xs rest e. read_items-found g laws n bytes xs rest e;
  again = λ xs front rest s. read_items-again g laws n xs front s rest;
  breaks = λ bytes fault e. read_items-breaks g laws n bytes fault e;
  broken = λ bytes fault b. read_items-broken g laws fault n bytes b;
  written = λ xs h. subst (λ (k : ℕ). SpellsItems g k xs (flat_map g.spelling xs)) h.long (items-written g laws xs h.all);
  fits = λ xs front bytes s. record { long = items-long g n xs front s; all = items-all g laws n xs front s bytes };
  sized = λ xs front s. items-sized g laws n xs front s;
}

-- what an array spells has its length
pub items_long : {A : Type 0} (g : Grammar A) (n : ℕ) (xs : List A) (front : List ℕ) → (items n g).Spells xs front → length xs ≡ n
unfolding items
items_long g n xs front s = items-long g n xs front s

pub array-laws : {A : Type 0} (max : ℕ) (g : Grammar A) → Laws g → Laws (array max g)
array-laws max g laws =
    both-laws (tested word (λ n. nat_le n max) TooLong at length) (λ n. items n g at (λ xs. xs) >>= done)
    (tested-laws word (λ n. nat_le n max) TooLong word-laws)
    (λ n. both-laws (items n g at (λ xs. xs)) done (items-laws n g laws) done-laws (λ xs front s r back t. t.is))
    (λ n front s r back t. items_long g n r t.front t.first)
