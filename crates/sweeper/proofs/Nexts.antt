-- The first record behind a key says which number of a front follows.
use Rattle.std.proofs.Common.{◌≡◌, ◌≢◌, ℕ, ◌+◌, ◌^◌, ◌<◌, ◌==◌, Bool, true, false, List, ◌∷◌, ◌++◌, length}
use Rattle.std.proofs.Common.{Option, Some, None, refl, sym, ◌∙◌, ap, subst, arith}
use Rattle.std.proofs.lemmas.Bool.{eqb-true}
use Rattle.byteorder.specs.Endian.{big_bytes}
use Rattle.pairs.specs.declared.at.At.TheVariants.{Live}
use Rattle.pairs.specs.Found.{IsBefore, IsNext, Follows}
use Rattle.pairs.specs.Lives.{seen}
use Rattle.pairs.specs.Told.{PairsTold, Tells}
use Rattle.pairs.specs.Versions.{Versions, value_at}
use Rattle.fs_rules.specs.Tree.{Tree}
use Rattle.fs_keys.specs.Keys.{Parts, only}
use Rattle.fs_shows.specs.Shows.{Shows}
use Rattle.dir_ops.proofs.Cookies.{between}
use Rattle.sweeper.specs.Rows.{snapshot_front, extent_front, mark_front, numbered, tail, behind, value_in, HasNumbers, IsAfter}
use Rattle.sweeper.specs.Rows.{NextIn}

-- ---- what follows

pub next-found : (front : List ℕ) (after : Option ℕ) (key value : List ℕ) (n : ℕ) (v : Versions) → n < 2 ^ 64
    → key ≡ numbered front n → IsNext Live (behind front after) key value v → NextIn front after (Some (n, value)) v
next-found front after key value n v fits own next = record {
  fits = fits;
  later = subst (λ (j : List ℕ). IsBefore (behind front after) j) own next.behind;
  has = subst (λ (j : List ℕ). value_at Live v j ≡ Some value) own next.has;
  first = λ k low later before. next.first (numbered front k) later
      (subst (λ (j : List ℕ). IsBefore (numbered front k) j) (sym own) before);
}

pub next-other : (front : List ℕ) (after : Option ℕ) (key value : List ℕ) (v : Versions)
    → ((rest : List ℕ) → key ≡ front ++ rest → length rest ≢ 8) → IsNext Live (behind front after) key value v
    → HasNumbers front v → (k : ℕ) → k < 2 ^ 64 → IsAfter front after k → value_in front k v ≡ None
next-other front after key value v other next has k fits later = by_value (value_in front k v) refl
  where
    differs : (x : List ℕ) → None ≡ Some x → ⊥
    differs x e = cc

    by_value : (o : Option (List ℕ)) → value_in front k v ≡ o → o ≡ None
    by_value None is = refl
    by_value (Some x) is =
        let r = between front (tail after) (big_bytes 8 k) key next.behind
        (λ before. differs x (sym (next.first (numbered front k) later before) ∙ is)) in
        absurd (differs value
        (sym (ap (seen Live) (has.only r.0 (other r.0 r.1)))
        ∙ subst (λ (j : List ℕ). value_at Live v j ≡ Some value) r.1 next.has))

-- ---- of all that may lie below

module _ {S W : Type 0} (told : PairsTold S W) (old new : S) where
  -- what follows from what was found
  pub tells-so : (P Q : Versions → Type 0) → ((v : Versions) → P v → Q v) → Tells told old new P → Tells told old new Q
  tells-so P Q so tells = record {
    shows = tells.shows;
    finds = λ w v agrees shown lives. so v (tells.finds w v agrees shown lives);
  }

  pub tells-none : (front : List ℕ) (after : Option ℕ) → Tells told old new (Follows Live (behind front after) None)
      → Tells told old new (λ v. HasNumbers front v → NextIn front after None v)
  tells-none front after tells =
      tells-so (Follows Live (behind front after) None) (λ v. HasNumbers front v → NextIn front after None v)
      (λ v follows has k fits later. follows (numbered front k) later) tells

  pub tells-found : (front : List ℕ) (after : Option ℕ) (key value : List ℕ) (n : ℕ) → n < 2 ^ 64 → key ≡ numbered front n
      → Tells told old new (IsNext Live (behind front after) key value)
      → Tells told old new (λ v. HasNumbers front v → NextIn front after (Some (n, value)) v)
  tells-found front after key value n fits own tells =
      tells-so (IsNext Live (behind front after) key value) (λ v. HasNumbers front v → NextIn front after (Some (n, value)) v)
      (λ v next has. next-found front after key value n v fits own next) tells

  pub tells-other : (front : List ℕ) (after : Option ℕ) (key value : List ℕ)
      → ((rest : List ℕ) → key ≡ front ++ rest → length rest ≢ 8)
      → Tells told old new (IsNext Live (behind front after) key value)
      → Tells told old new (λ v. HasNumbers front v → NextIn front after None v)
  tells-other front after key value other tells =
      tells-so (IsNext Live (behind front after) key value) (λ v. HasNumbers front v → NextIn front after None v)
      (λ v next has k fits later. next-other front after key value v other next has k fits later) tells

-- ---- the fronts of the table

-- only keys with a number behind them are in the table
outside : (n m : ℕ) (p : Parts) → n ≢ m → only (n == m) p ≡ None
outside n m p other = by_test (n == m) refl
  where
    by_test : (b : Bool) → (n == m) ≡ b → only b p ≡ None
    by_test true is = absurd (other (eqb-true n m is))
    by_test false is = refl

pub snapshot-numbers : (v : Versions) (t : Tree) → Shows v t → HasNumbers snapshot_front v
snapshot-numbers v t shows = record {
  only = λ rest other. shows.within.table (3 ∷ rest) (outside (length rest) 8 _ other);
}

pub mark-numbers : (v : Versions) (t : Tree) → Shows v t → HasNumbers mark_front v
mark-numbers v t shows = record {
  only = λ rest other. shows.within.table (8 ∷ rest) (outside (length rest) 8 _ other);
}

pub extent-numbers : (v : Versions) (t : Tree) (file : ℕ) → Shows v t → HasNumbers (extent_front file) v
extent-numbers v t file shows = record {
  only = λ rest other. shows.within.table (7 ∷ (big_bytes 8 file ++ rest))
      (outside (length (big_bytes 8 file ++ rest)) 16 _ (longer rest other));
}
  where
    longer : (rest : List ℕ) → length rest ≢ 8 → length (big_bytes 8 file ++ rest) ≢ 16
    longer rest other is = let long : length (big_bytes 8 file ++ rest) ≡ 8 + length rest = omega arith in
        other (omega (arith, long, is))
