-- What a caller shows of a list that it made from another one: how much was counted of each item.
use Rattle.std.proofs.Common.{◌≡◌, ℕ, ◌+◌, ◌≤◌, List, [], ◌∷◌, length, map, slice_index_or, refl, arith}
use Rattle.std.specs.List.{fold, sum_by}
use Rattle.std.specs.Prelude.{IfSome}
use Rattle.std.proofs.lemmas.List.Elements.{All-map}
use Rattle.std.proofs.lemmas.List.Sums.{sum_by-le-sum_by}
use Rattle.nfs3_types.specs.declared.body.DirEntry.{DirEntry}
use Rattle.nfs3_types.specs.declared.body.DirEntryPlus.{DirEntryPlus}
use Rattle.nfs3_fits.specs.Shape.{IsHandle, AreShort, AreShortPlus}

sum_of_made : {A B : Type 0} (f : A → B) (g : B → ℕ) (xs : List A) (a : ℕ) → fold (λ a y. a + g y) a (map f xs) ≡ fold
    (λ a x. a + g (f x)) a xs
sum_of_made f g [] a = refl
sum_of_made f g (x ∷ xs) a = sum_of_made f g xs (a + g (f x))

-- entries that were made from items, of which each was counted as long enough
pub made_short : {A : Type 0} (f : A → DirEntry) (size : A → ℕ) (xs : List A) → ((x : A) → 24 + length (f x).name ≤ size x)
    → sum_by size xs ≤ 32768 → AreShort (map f xs)
made_short f size xs each within = omega (
  arith,
  within,
  sum_of_made f (λ e. 24 + length e.name) xs 0,
  sum_by-le-sum_by
      (λ x. 24 + length (f x).name) size xs each,
)

-- the same of READDIRPLUS, whose handles are handles
pub made_short_plus : {A : Type 0} (f : A → DirEntryPlus) (size : A → ℕ) (xs : List A)
    → ((x : A) → 144 + length (f x).name ≤ size x) → ((x : A) → IfSome (f x).object IsHandle) → sum_by size xs ≤ 32768
    → AreShortPlus (map f xs)
made_short_plus f size xs each handles within = record {
  short = omega (
    arith,
    within,
    sum_of_made f (λ e. 144 + length e.name) xs 0,
    sum_by-le-sum_by (λ x. 144 + length (f x).name)
        size xs each,
  );
  handles = All-map (λ e. IfSome e.object IsHandle) f xs (λ k d lt. handles (slice_index_or xs k d));
}
