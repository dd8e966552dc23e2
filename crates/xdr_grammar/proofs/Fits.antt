-- Which values can be spelled, by item: what a caller of a writer shows.
use Rattle.std.proofs.Common.{◌≡◌, ℕ, ◌^◌, ◌<◌, ◌≤◌, Bool, true, false, List, length, Some, None, refl, arith}
use Rattle.std.proofs.lemmas.Bool.{le-leb, leb-true}
use Rattle.xdr_grammar.specs.Grammar.{Grammar}
use Rattle.xdr_grammar.specs.Items.{word, hyper, truth, pick, fixed, opaque}
use Rattle.xdr_grammar.specs.Choices.{optional}

pub word_fits : (n : ℕ) → n < 2 ^ 32 → word.Fits n
unfolding word
word_fits n h = h

pub hyper_fits : (n : ℕ) → n < 2 ^ 64 → hyper.Fits n
unfolding hyper
hyper_fits n h = h

pub truth_fits : (b : Bool) → truth.Fits b
unfolding truth word
truth_fits true = record { first = record { fits = omega arith; passes = refl }; second = refl }
truth_fits false = record { first = record { fits = omega arith; passes = refl }; second = refl }

pub pick_fits : (low high n : ℕ) → low ≤ n → n ≤ high → n < 2 ^ 32 → (pick low high).Fits n
unfolding pick word
pick_fits low high n above below h = record { fits = h; passes = rw (le-leb low n above, le-leb n high below) refl }

pub fixed_fits : (n : ℕ) (part : List ℕ) → length part ≡ n → (fixed n).Fits part
unfolding fixed
fixed_fits n part h = h

pub opaque_fits : (max : ℕ) (part : List ℕ) → length part ≤ max → length part < 2 ^ 32 → (opaque max).Fits part
unfolding opaque word fixed
opaque_fits max part within h = record {
  first = record { fits = h; passes = le-leb (length part) max within };
  second =
      record { first = refl; second = refl };
}

pub none_fits : {A : Type 0} (g : Grammar A) → (optional g).Fits None
none_fits g = record { first = truth_fits false; second = refl }

pub some_fits : {A : Type 0} (g : Grammar A) (v : A) → g.Fits v → (optional g).Fits (Some v)
some_fits g v h = record { first = truth_fits true; second = record { value = v; made = refl; fits = h } }

-- ---- and what follows from it

pub opaque_within : (max : ℕ) (part : List ℕ) → (opaque max).Fits part → length part ≤ max
unfolding opaque
opaque_within max part h = leb-true (length part) max h.first.passes

-- what can be spelled as opaque data has a length of 32 bits
pub opaque_short : (max : ℕ) (part : List ℕ) → (opaque max).Fits part → length part < 2 ^ 32
unfolding opaque word
opaque_short max part h = h.first.fits
