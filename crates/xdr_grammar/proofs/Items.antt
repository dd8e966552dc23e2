-- The laws of the items.
use Rattle.std.proofs.Common.{◌≡◌, ℕ, zero, suc, ◌+◌, ◌≤◌, Bool, true, false, ◌&&◌, List, [], ◌++◌, length, take, drop, replicate}
use Rattle.std.proofs.Common.{Result, Ok, Err, refl, sym, ap, subst, ◌∙◌, inl, inr, append_assoc, length-append, arith}
use Rattle.std.specs.Prelude.{if◌then◌else◌, ◌==◌, nat_lt, nat_le}
use Rattle.std.proofs.lemmas.Bool.{ltb-true, ltb-false, lt-ltb, le-ltb, leb-true}
use Rattle.std.proofs.lemmas.List.{append-nil, take_at, drop_at, take-append-drop, drop-drop, length-take, length-drop}
use Rattle.std.proofs.lemmas.List.{length-replicate}
use Rattle.byteorder.specs.Endian.{big_number, big_bytes}
use Rattle.byteorder.specs.Numbers.{big_from-lt, big_number-reads_back, length-bytes_high_first}
use Rattle.xdr_grammar.specs.declared.fault.XdrFault.{XdrFault}
use Rattle.xdr_grammar.specs.declared.fault.XdrFault.TheVariants.{Short, TooLong, BadBool, BadEnum}
use Rattle.xdr_grammar.specs.Grammar.{Grammar, ◌at◌, ◌>>=◌, done, and_then}
use Rattle.xdr_grammar.specs.Items.{IsShort, SpellsNumber, number, word, hyper, SpellsTested, BreaksTested, tested, pick}
use Rattle.xdr_grammar.specs.Items.{bool_number, truth, padding, SpellsFixed, fixed, opaque}
use Rattle.xdr_grammar.specs.Items.BreaksTested.{in_item, in_test}
use Rattle.xdr_grammar.specs.Laws.{Laws, Found}
use Rattle.xdr_grammar.proofs.Steps.{and_then-ok, and_then-err, refused_not, refused, passed, passed_not}
use Rattle.xdr_grammar.proofs.Composed.{both-laws, done-laws}

-- ---- numbers

number-found : (n : ℕ) (bytes : List ℕ) (v : ℕ) (rest : List ℕ) → (number n).read bytes ≡ Ok (v, rest)
    → Found (number n) bytes v rest
number-found n bytes v rest e =
    let g = refused_not (nat_lt (length bytes) n) Short (big_number n (take n bytes), drop n bytes) (v, rest) e in
    let enough : n ≤ length bytes = ltb-false _ _ g.0 in
    record {
      front = take n bytes;
      parts = sym (take-append-drop n bytes) ∙ ap (λ (p : ℕ × List ℕ). take n bytes ++ p.1) g.1;
      spelled = record { long = omega (arith, length-take n bytes); value = ap (λ (p : ℕ × List ℕ). p.0) g.1 };
    }

number-again : (n v : ℕ) (front rest : List ℕ) → SpellsNumber n v front → (number n).read (front ++ rest) ≡ Ok (v, rest)
number-again n v front rest s =
    let long = s.long in
    let enough : nat_lt (length (front ++ rest)) n ≡ false = le-ltb _ _ (omega (arith, length-append front rest)) in
    rw (enough, take_at front rest n long, drop_at front rest n long, s.value) refl

number-breaks : (n : ℕ) (bytes : List ℕ) (fault : XdrFault) → (number n).read bytes ≡ Err fault → IsShort n bytes fault
number-breaks n bytes fault e =
    let g = refused (nat_lt (length bytes) n) Short fault (big_number n (take n bytes), drop n bytes) e in
    record { short = ltb-true _ _ g.0; fault_is = g.1 }

number-broken : (n : ℕ) (bytes : List ℕ) (fault : XdrFault) → IsShort n bytes fault → (number n).read bytes ≡ Err fault
number-broken n bytes fault b =
    let short : nat_lt (length bytes) n ≡ true = lt-ltb _ _ b.short in
    rw (short, b.fault_is) refl

pub number-laws : (n : ℕ) → Laws (number n)
number-laws n = record {
  found = number-found n;
  again = number-again n;
  breaks = number-breaks n;
  broken = number-broken n;
  written = λ v h. record {
    long = length-bytes_high_first n v;
    value = ap (big_number n) (sym (append-nil (big_bytes n v))) ∙ big_number-reads_back n v [] h;
  };
  fits = λ v front bytes s. rw (← s.value) (big_from-lt 0 n front bytes);
  sized = λ v front s. s.long;
}

pub word-laws : Laws word
unfolding word
word-laws = number-laws 4

pub hyper-laws : Laws hyper
unfolding hyper
hyper-laws = number-laws 8

-- ---- an item under a test

-- a value that was read, under the test
abbrev under : {A : Type 0} → (A → Bool) → XdrFault → A × List ℕ → Result (A × List ℕ) XdrFault
under test refusal x = if test x.0 then Ok x else Err refusal

tested-found : {A : Type 0} (g : Grammar A) (test : A → Bool) (refusal : XdrFault) → Laws g
    → (bytes : List ℕ) (v : A) (rest : List ℕ) → (tested g test refusal).read bytes ≡ Ok (v, rest)
    → Found (tested g test refusal) bytes v rest
tested-found {A = A} g test refusal laws bytes v rest e =
    let x = and_then-ok (g.read bytes) (under test refusal) (v, rest) e in
    let p = passed (test x.0.0) refusal x.0 (v, rest) x.2 in
    let f = laws.found bytes x.0.0 x.0.1 x.1 in
    subst (λ (y : A × List ℕ). Found (tested g test refusal) bytes y.0 y.1) p.1 (record {
      front = f.front;
      parts = f.parts;
      spelled = record { spelled = f.spelled; passes = p.0 };
    })

tested-again : {A : Type 0} (g : Grammar A) (test : A → Bool) (refusal : XdrFault) → Laws g
    → (v : A) (front rest : List ℕ) → SpellsTested g test v front → (tested g test refusal).read (front ++ rest) ≡ Ok (v, rest)
tested-again g test refusal laws v front rest s =
    ap (λ x. and_then x (under test refusal)) (laws.again v front rest s.spelled) ∙ rw s.passes refl

tested-breaks : {A : Type 0} (g : Grammar A) (test : A → Bool) (refusal : XdrFault) → Laws g
    → (bytes : List ℕ) (fault : XdrFault) → (tested g test refusal).read bytes ≡ Err fault
    → BreaksTested g test refusal bytes fault
tested-breaks g test refusal laws bytes fault e = elim (and_then-err (g.read bytes) (under test refusal) fault e) [
  | inl here ↦ in_item (laws.breaks bytes fault here)
  | inr x ↦
      let p = passed_not (test x.0.0) refusal fault x.0 x.2 in
      let f = laws.found bytes x.0.0 x.0.1 x.1 in
      in_test x.0.0 f.front x.0.1 f.parts f.spelled p.0 p.1
]

tested-broken : {A : Type 0} (g : Grammar A) (test : A → Bool) (refusal : XdrFault) → Laws g
    → (bytes : List ℕ) (fault : XdrFault) → BreaksTested g test refusal bytes fault
    → (tested g test refusal).read bytes ≡ Err fault
tested-broken g test refusal laws bytes fault (in_item b) = ap (λ x. and_then x (under test refusal)) (laws.broken bytes fault b)
tested-broken g test refusal laws bytes fault (in_test a front rest parts s fails is) =
    ap (λ x. and_then x (under test refusal)) (ap g.read parts ∙ laws.again a front rest s) ∙ rw (fails, is) refl

pub tested-laws : {A : Type 0} (g : Grammar A) (test : A → Bool) (refusal : XdrFault) → Laws g → Laws (tested g test refusal)
tested-laws g test refusal laws = record {
  found = tested-found g test refusal laws;
  again = tested-again g test refusal laws;
  breaks = tested-breaks g test refusal laws;
  broken = tested-broken g test refusal laws;
  written = λ v h. record { spelled = laws.written v h.fits; passes = h.passes };
  fits = λ v front bytes s. record { fits = laws.fits v front bytes s.spelled; passes = s.passes };
  sized = λ v front s. laws.sized v front s.spelled;
}

pub pick-laws : (low high : ℕ) → Laws (pick low high)
unfolding pick
pick-laws low high = tested-laws word (λ n. nat_le low n && nat_le n high) BadEnum word-laws

bool_number-test : (n : ℕ) → nat_le n 1 ≡ true → bool_number (n == 1) ≡ n
bool_number-test zero h = refl
bool_number-test (suc zero) h = refl
bool_number-test (suc (suc n)) h = absurd (omega (arith, leb-true (suc (suc n)) 1 h))

pub truth-laws : Laws truth
unfolding truth
truth-laws =
    both-laws (tested word (λ n. nat_le n 1) BadBool at bool_number) (λ n. done (n == 1))
    (tested-laws word (λ n. nat_le n 1) BadBool word-laws)
    (λ n. done-laws (n == 1))
    (λ n front s r back t. ap bool_number t.is ∙ bool_number-test n s.passes)

-- ---- bytes

fixed-found : (n : ℕ) (bytes part rest : List ℕ) → (fixed n).read bytes ≡ Ok (part, rest) → Found (fixed n) bytes part rest
unfolding fixed
fixed-found n bytes part rest e =
    let p = padding n in
    let g = refused_not (nat_lt (length bytes) (n + p)) Short (take n bytes, drop (n + p) bytes) (part, rest) e in
    let enough : n + p ≤ length bytes = ltb-false _ _ g.0 in
    let pad = take p (drop n bytes) in
    let inner : drop n bytes ≡ pad ++ drop (n + p) bytes = sym (take-append-drop p (drop n bytes))
    ∙ ap (λ (t : List ℕ). pad ++ t) (drop-drop p n bytes) in
    let outer : bytes ≡ (take n bytes ++ pad) ++ drop (n + p) bytes = sym (take-append-drop n bytes)
    ∙ ap (λ (t : List ℕ). take n bytes ++ t) inner ∙ sym (append_assoc (take n bytes) pad (drop (n + p) bytes)) in
    let part_long : length (take n bytes) ≡ n = omega (arith, length-take n bytes) in
    let pad_long : length pad ≡ p = omega (arith, length-take p (drop n bytes), length-drop n bytes) in
    subst (λ (y : List ℕ × List ℕ). Found (fixed n) bytes y.0 y.1) g.1 (record {
      front = take n bytes ++ pad;
      parts = outer;
      spelled = record { pad = pad; part_long = part_long; pad_long = pad_long; parts = refl };
    })

fixed-again : (n : ℕ) (part front rest : List ℕ) → SpellsFixed n part front → (fixed n).read (front ++ rest) ≡ Ok (part, rest)
unfolding fixed
fixed-again n part front rest s =
    let p = padding n in
    let whole_long : length (part ++ s.pad) ≡ n + p = omega (arith, length-append part s.pad, s.part_long, s.pad_long) in
    let enough : nat_lt (length ((part ++ s.pad) ++ rest)) (n + p) ≡ false =
    le-ltb _ _ (omega (arith, length-append (part ++ s.pad) rest)) in
    let front_is : take n ((part ++ s.pad) ++ rest) ≡ part = ap (take n) (append_assoc part s.pad rest)
    ∙ take_at part (s.pad ++ rest) n s.part_long in
    let rest_is : drop (n + p) ((part ++ s.pad) ++ rest) ≡ rest = drop_at (part ++ s.pad) rest (n + p) whole_long in
    ap (λ (t : List ℕ). (fixed n).read (t ++ rest)) s.parts ∙ rw (enough, front_is, rest_is) refl

pub fixed-laws : (n : ℕ) → Laws (fixed n)
unfolding fixed
fixed-laws n = record {
  found = fixed-found n;
  again = fixed-again n;
  breaks = λ bytes fault e.
      let g = refused (nat_lt (length bytes) (n + padding n)) Short fault (take n bytes, drop (n + padding n) bytes) e in
      record { short = ltb-true _ _ g.0; fault_is = g.1 };
  broken = λ bytes fault b.
      let short : nat_lt (length bytes) (n + padding n) ≡ true = lt-ltb _ _ b.short in
      rw (short, b.fault_is) refl;
  written = λ part h. record {
    pad = replicate (padding n) 0;
    part_long = h;
    pad_long = length-replicate (padding n) 0;
    parts =
        refl;
  };
  fits = λ part front bytes s. s.part_long;
  sized = λ part front s. omega (arith, ap length s.parts, length-append part s.pad, s.part_long, s.pad_long);
}

-- what fixed opaque data spells has its length
pub fixed_long : (n : ℕ) (part bytes : List ℕ) → (fixed n).Spells part bytes → length part ≡ n
unfolding fixed
fixed_long n part bytes s = s.part_long

pub opaque-laws : (max : ℕ) → Laws (opaque max)
unfolding opaque
opaque-laws max =
    both-laws (tested word (λ n. nat_le n max) TooLong at length) (λ n. fixed n at (λ part. part) >>= done)
    (tested-laws word (λ n. nat_le n max) TooLong word-laws)
    (λ n. both-laws (fixed n at (λ part. part)) done (fixed-laws n) done-laws (λ part front s r back t. t.is))
    (λ n front s r back t. fixed_long n r t.front t.first)
