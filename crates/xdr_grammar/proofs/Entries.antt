-- The laws of lists that a false boolean ends.
use Rattle.std.proofs.Common.{◌≡◌, ℕ, zero, suc, ◌+◌, ◌<◌, Bool, true, false, List, [], ◌∷◌, ◌++◌, length, Result, Ok, Err, refl}
use Rattle.std.proofs.Common.{sym, ap, subst, ◌∙◌, inl, inr, append_assoc, zero-add, length-append, arith}
use Rattle.std.specs.Prelude.{if◌then◌else◌}
use Rattle.std.specs.List.{All, flat_map}
use Rattle.std.proofs.lemmas.List.Concat.{flat_map-cons}
use Rattle.std.proofs.lemmas.List.Elements.{All-nil, All-cons}
use Rattle.std.proofs.lemmas.List.Sums.{sum_by-cons}
use Rattle.xdr_grammar.specs.declared.fault.XdrFault.{XdrFault}
use Rattle.xdr_grammar.specs.Grammar.{Grammar, and_then}
use Rattle.xdr_grammar.specs.Items.{word, truth}
use Rattle.xdr_grammar.specs.Entries.{SpellsEntries, BreaksEntries, entry_spelling, entries_spelling, entries_size, read_entries}
use Rattle.xdr_grammar.specs.Entries.{entries}
use Rattle.xdr_grammar.specs.Entries.SpellsEntries.{ended, entry}
use Rattle.xdr_grammar.specs.Entries.BreaksEntries.{in_mark, in_entry, behind}
use Rattle.xdr_grammar.specs.Laws.{Laws, Found, AreBytes}
use Rattle.xdr_grammar.proofs.Steps.{and_then-ok, and_then-err, ok_is, AreBytes-front, AreBytes-back, fronts, before_rest}
use Rattle.xdr_grammar.proofs.Steps.{All-first, All-others}
use Rattle.xdr_grammar.proofs.Fits.{truth_fits}
use Rattle.xdr_grammar.proofs.Items.{truth-laws}

-- each boolean is four bytes
pub truth-size : (b : Bool) → truth.size b ≡ 4
unfolding truth word
truth-size b = refl

pub mark-long : (b : Bool) (mark : List ℕ) → truth.Spells b mark → length mark ≡ 4
mark-long b mark s = truth-laws.sized b mark s ∙ truth-size b

-- what stands behind an entry
abbrev pub others_of : {A : Type 0} → A → List A × List ℕ → Result (List A × List ℕ) XdrFault
others_of x xs = Ok (x ∷ xs.0, xs.1)

abbrev pub entry_of : {A : Type 0} → ℕ → Grammar A → A × List ℕ → Result (List A × List ℕ) XdrFault
entry_of bound g x = and_then (read_entries bound g x.1) (others_of x.0)

-- what stands behind a boolean
abbrev pub mark_of : {A : Type 0} → ℕ → Grammar A → Bool × List ℕ → Result (List A × List ℕ) XdrFault
mark_of bound g more = if more.0 then and_then (g.read more.1) (entry_of bound g) else Ok ([], more.1)

-- ---- found

abbrev FindsEntries : {A : Type 0} → ℕ → Grammar A → Type 0
FindsEntries {A = A} bound g = (bytes : List ℕ) (xs : List A) (rest : List ℕ) → read_entries bound g bytes ≡ Ok (xs, rest)
    → Found (entries g) bytes xs rest

behind_mark-found : {A : Type 0} (g : Grammar A) → Laws g → (bound : ℕ) → FindsEntries bound g
    → (bytes : List ℕ) (more : Bool) (after : List ℕ) → Found truth bytes more after → (xs : List A) (rest : List ℕ)
    → mark_of bound g (more, after) ≡ Ok (xs, rest) → Found (entries g) bytes xs rest
unfolding entries
behind_mark-found {A = A} g laws bound before bytes true after t xs rest e =
    let x = and_then-ok (g.read after) (entry_of bound g) (xs, rest) e in
    let y = and_then-ok (read_entries bound g x.0.1) (others_of x.0.0) (xs, rest) x.2 in
    let f = laws.found after x.0.0 x.0.1 x.1 in
    let s = before x.0.1 y.0.0 y.0.1 y.1 in
    let made : (x.0.0 ∷ y.0.0, y.0.1) ≡ (xs, rest) = ok_is (x.0.0 ∷ y.0.0, y.0.1) (xs, rest) y.2 in
    let text : List ℕ = t.front ++ (f.front ++ s.front) in
    let outer : bytes ≡ text ++ y.0.1 = fronts bytes t.front after f.front x.0.1 s.front y.0.1 t.parts f.parts s.parts in
    subst (λ (z : List A × List ℕ). Found (entries g) bytes z.0 z.1) made
    (record {
      front = text;
      parts = outer;
      spelled = entry x.0.0 y.0.0 text t.front f.front s.front (refl {a = text}) t.spelled
          f.spelled s.spelled;
    })
behind_mark-found {A = A} g laws bound before bytes false after t xs rest e =
    let made : ([], after) ≡ (xs, rest) = ok_is ([], after) (xs, rest) e in
    subst (λ (z : List A × List ℕ). Found (entries g) bytes z.0 z.1) made
    (record { front = t.front; parts = t.parts; spelled = ended t.front t.spelled })

read_entries-found : {A : Type 0} (g : Grammar A) → Laws g → (bound : ℕ) → FindsEntries bound g
unfolding read_entries
read_entries-found g laws zero bytes xs rest e = absurd cc
read_entries-found g laws (suc bound) bytes xs rest e =
    let m = and_then-ok (truth.read bytes) (mark_of bound g) (xs, rest) e in
    behind_mark-found g laws bound (read_entries-found g laws bound) bytes m.0.0 m.0.1 (truth-laws.found bytes m.0.0 m.0.1 m.1) xs
    rest m.2

-- ---- again

read_entries-again : {A : Type 0} (g : Grammar A) → Laws g → (xs : List A) (front : List ℕ) → SpellsEntries g xs front
    → (bound : ℕ) (rest : List ℕ) → length front < bound → read_entries bound g (front ++ rest) ≡ Ok (xs, rest)
unfolding read_entries
read_entries-again g laws _ _ (ended front s) zero rest lt = absurd (omega arith)
read_entries-again g laws _ _ (ended front s) (suc bound) rest lt =
    ap (λ x. and_then x (mark_of bound g)) (truth-laws.again false front rest s)
read_entries-again g laws _ _ (entry x xs front mark item others parts t s more) zero rest lt = absurd (omega arith)
read_entries-again g laws _ _ (entry x xs front mark item others parts t s more) (suc bound) rest lt =
    let text : front ++ rest ≡ mark ++ (item ++ (others ++ rest)) = before_rest front mark item others rest parts in
    let one = mark-long true mark t in
    let less : length others < bound = omega (
      arith,
      ap length parts,
      length-append mark (item ++ others),
      length-append item others,
    ) in
    let three = read_entries-again g laws xs others more bound rest less in
    ap (λ x. and_then x (mark_of bound g)) (ap truth.read text ∙ truth-laws.again true mark (item ++ (others ++ rest)) t)
    ∙ ap (λ x. and_then x (entry_of bound g)) (laws.again x item (others ++ rest) s)
    ∙ ap (λ r. and_then r (others_of x)) three

-- ---- faults

abbrev AllBreak : {A : Type 0} → ℕ → Grammar A → Type 0
AllBreak bound g = (bytes : List ℕ) (fault : XdrFault) → length bytes < bound → read_entries bound g bytes ≡ Err fault
    → BreaksEntries g fault bytes

behind_item-breaks : {A : Type 0} (g : Grammar A) → Laws g → (bound : ℕ) → AllBreak bound g
    → (bytes mark after : List ℕ) (fault : XdrFault) → bytes ≡ mark ++ after → truth.Spells true mark → length bytes < suc bound
    → and_then (g.read after) (entry_of bound g) ≡ Err fault → BreaksEntries g fault bytes
behind_item-breaks g laws bound before bytes mark after fault parts t lt e =
    elim (and_then-err (g.read after) (entry_of bound g) fault e) [
      | inl here ↦ in_entry bytes mark after parts t (laws.breaks after fault here)
      | inr x ↦ elim (and_then-err (read_entries bound g x.0.1) (others_of x.0.0) fault x.2) [
        | inl later ↦
            let f = laws.found after x.0.0 x.0.1 x.1 in
            let four = mark-long true mark t in
            let less : length x.0.1 < bound = omega (
              arith,
              ap length parts,
              length-append mark after,
              ap length f.parts,
              length-append f.front x.0.1,
            ) in
            behind x.0.0 bytes mark f.front x.0.1 (parts ∙ ap (λ (r : List ℕ). mark ++ r) f.parts) t f.spelled
            (before x.0.1 fault less later)
        | inr y ↦ let never = y.2 in absurd cc
      ]
    ]

behind_mark-breaks : {A : Type 0} (g : Grammar A) → Laws g → (bound : ℕ) → AllBreak bound g
    → (bytes : List ℕ) (more : Bool) (after : List ℕ) → Found truth bytes more after → (fault : XdrFault)
    → length bytes < suc bound → mark_of bound g (more, after) ≡ Err fault → BreaksEntries g fault bytes
behind_mark-breaks g laws bound before bytes true after t fault lt e = behind_item-breaks g laws bound before bytes t.front after
    fault t.parts t.spelled lt e
behind_mark-breaks g laws bound before bytes false after t fault lt e = absurd cc

read_entries-breaks : {A : Type 0} (g : Grammar A) → Laws g → (bound : ℕ) → AllBreak bound g
unfolding read_entries
read_entries-breaks g laws zero bytes fault lt e = absurd (omega arith)
read_entries-breaks g laws (suc bound) bytes fault lt e = elim (and_then-err (truth.read bytes) (mark_of bound g) fault e) [
  | inl here ↦ in_mark bytes (truth-laws.breaks bytes fault here)
  | inr m ↦ behind_mark-breaks g laws bound (read_entries-breaks g laws bound) bytes m.0.0 m.0.1
      (truth-laws.found bytes m.0.0 m.0.1 m.1) fault lt m.2
]

read_entries-broken : {A : Type 0} (g : Grammar A) → Laws g → (fault : XdrFault) (bytes : List ℕ) → BreaksEntries g fault bytes
    → (bound : ℕ) → length bytes < bound → read_entries bound g bytes ≡ Err fault
unfolding read_entries
read_entries-broken g laws fault bytes b zero lt = absurd (omega arith)
read_entries-broken g laws fault _ (in_mark bytes b) (suc bound) lt = ap (λ x. and_then x (mark_of bound g))
    (truth-laws.broken bytes fault b)
read_entries-broken g laws fault _ (in_entry bytes mark item parts t b) (suc bound) lt =
    ap (λ x. and_then x (mark_of bound g)) (ap truth.read parts ∙ truth-laws.again true mark item t)
    ∙ ap (λ x. and_then x (entry_of bound g)) (laws.broken item fault b)
read_entries-broken g laws fault _ (behind x bytes mark item others parts t s b) (suc bound) lt =
    let four = mark-long true mark t in
    let less : length others < bound = omega (
      arith,
      ap length parts,
      length-append mark (item ++ others),
      length-append item others,
    ) in
    ap (λ x. and_then x (mark_of bound g)) (ap truth.read parts ∙ truth-laws.again true mark (item ++ others) t)
    ∙ ap (λ x. and_then x (entry_of bound g)) (laws.again x item others s)
    ∙ ap (λ r. and_then r (others_of x)) (read_entries-broken g laws fault others b bound less)

-- ---- writing

pub truth_written : (b : Bool) → truth.Spells b (truth.spelling b)
truth_written b = truth-laws.written b (truth_fits b)

-- the first entry and the others
entries_spelling-cons : {A : Type 0} (g : Grammar A) (x : A) (xs : List A) → entries_spelling g (x ∷ xs) ≡ truth.spelling true
    ++ (g.spelling x ++ entries_spelling g xs)
entries_spelling-cons g x xs =
    ap (λ (t : List ℕ). t ++ truth.spelling false) (flat_map-cons (entry_spelling g) x xs)
    ∙ append_assoc (entry_spelling g x) (flat_map (entry_spelling g) xs) (truth.spelling false)
    ∙ append_assoc (truth.spelling true) (g.spelling x) (entries_spelling g xs)

entries-written : {A : Type 0} (g : Grammar A) → Laws g → (xs : List A) → All g.Fits xs
    → SpellsEntries g xs (entries_spelling g xs)
entries-written g laws [] h = ended (truth.spelling false) (truth_written false)
entries-written g laws (x ∷ xs) h =
    entry x xs (entries_spelling g (x ∷ xs)) (truth.spelling true) (g.spelling x) (entries_spelling g xs)
    (entries_spelling-cons g x xs)
    (truth_written true) (laws.written x (All-first g.Fits x xs h)) (entries-written g laws xs (All-others g.Fits x xs h))

entries-fits : {A : Type 0} (g : Grammar A) → Laws g → (xs : List A) (front : List ℕ) → SpellsEntries g xs front → AreBytes front
    → All g.Fits xs
entries-fits g laws _ _ (ended front s) bytes = All-nil g.Fits
entries-fits g laws _ _ (entry x xs front mark item others parts t s more) bytes =
    let back : AreBytes (item ++ others) = AreBytes-back mark (item ++ others) (subst AreBytes parts bytes) in
    All-cons g.Fits x xs (laws.fits x item (AreBytes-front item others back) s)
    (entries-fits g laws xs others more (AreBytes-back item others back))

entries-sized : {A : Type 0} (g : Grammar A) → Laws g → (xs : List A) (front : List ℕ) → SpellsEntries g xs front
    → length front ≡ entries_size g xs
entries-sized g laws _ _ (ended front s) = truth-laws.sized false front s ∙ sym (zero-add (truth.size false))
entries-sized g laws _ _ (entry x xs front mark item others parts t s more) =
    let one = truth-laws.sized true mark t in
    let two = laws.sized x item s in
    let three = entries-sized g laws xs others more in
    omega (
      arith,
      ap length parts,
      length-append mark (item ++ others),
      length-append item others,
      one,
      two,
      three,
      sum_by-cons (λ y. truth.size true + g.size y) x xs,
    )

pub entries-laws : {A : Type 0} (g : Grammar A) → Laws g → Laws (entries g)
unfolding entries
entries-laws g laws = record {
  found = λ bytes xs rest e. read_entries-found g laws (suc (length bytes)) bytes xs rest e;
  again = λ xs front rest s. read_entries-again g laws xs front s (suc (length (front ++ rest))) rest
      (omega (arith, length-append front rest));
  breaks = λ bytes fault e. read_entries-breaks g laws (suc (length bytes)) bytes fault (omega arith) e;
  broken = λ bytes fault b. read_entries-broken g laws fault bytes b (suc (length bytes)) (omega arith);
  written = λ xs h. entries-written g laws xs h;
  fits = λ xs front bytes s. entries-fits g laws xs front s bytes;
  sized = λ xs front s. entries-sized g laws xs front s;
}
