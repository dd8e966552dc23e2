-- Walks from where they begin to where they end.
use Rattle.std.proofs.Common.{◌≡◌, ◌≢◌, ◌⊎◌, inl, inr, ℕ, ◌==◌, Bool, true, false, not, ◌&&◌, if◌then◌else◌, List, [], ◌∷◌}
use Rattle.std.proofs.Common.{Option, Some, None, refl, sym, subst, arith}
use Rattle.std.proofs.lemmas.Bool.{eqb-true}
use Rattle.std.proofs.lemmas.List.Folds.{Any-from_list_any}
use Rattle.std.specs.List.{Contains, list_any}
use Rattle.std.specs.Prelude.{⊤}
use Rattle.pair_types.specs.declared.fault.PairFault.{PairFault}
use Rattle.pair_types.specs.declared.fault.PairFault.TheVariants.{Odd, HeightFull, Page}
use Rattle.pairs.specs.declared.at.At.TheVariants.{Snap}
use Rattle.pairs.specs.Lives.{Life, never, sees, is_spent, spent}
use Rattle.pairs.specs.Told.{PairsTold, Goes}
use Rattle.pairs.specs.Versions.{Versions}
use Rattle.fs_rules.specs.Tree.{Tree}
use Rattle.fs_shows.specs.Shows.{Shows, live_marks, counts_by}
use Rattle.fs_shows.specs.Steps.{Lies, Edits, Reads, GivesUpOn}
use Rattle.extent_ops.proofs.Among.{among-none, among-cons}
use Rattle.sweeper.specs.declared.place.SweepPlace.{SweepPlace}
use Rattle.sweeper.specs.declared.place.SweepPlace.TheVariants.{Files, Extents, Dead}
use Rattle.sweeper.specs.declared.place.Walk.{Walk}
use Rattle.sweeper.specs.Keeping.{Known, Keeps}
use Rattle.sweeper.specs.Knowing.{IsKeptLife, IsSwept, AreKept, KnowsAt, Knows}
use Rattle.sweeper.specs.Rows.{extent_front, mark_front}
use Rattle.sweeper.specs.Sweeping.{is_whole, walk_of, EndsKnown, FileFits}
use Rattle.sweeper.proofs.Ordered.{all-after, from-first}

false-true : false ≡ true → ⊥
false-true e = cc

-- ---- where a walk begins

-- a walk that is not trusted may begin at any place
pub knows-any : (kept : List ℕ) (place : SweepPlace) (v : Versions) → FileFits place → KnowsAt false kept (is_whole place) place v
knows-any kept (Files after) v fits = λ trust. absurd (false-true trust)
knows-any kept (Extents file None) v fits = (
  fits,
  λ all index x place early at. absurd (early (all-after (extent_front file) index)),
  λ trust. absurd (false-true trust),
)
knows-any kept (Extents file (Some after)) v fits = (fits, λ all. absurd (false-true all), λ trust. absurd (false-true trust))
knows-any kept (Dead from) v fits = λ trust. absurd (false-true trust)

-- and one that is, at the start
pub knows-start : (kept : List ℕ) (v : Versions) → KnowsAt true kept true (Files None) v
knows-start kept v = λ trust file fits early. absurd (early (all-after mark_front file))

-- ---- where it ends

counts-or : (b : Bool) → (b ≡ false → ⊥) → b ≡ true
counts-or true other = refl
counts-or false other = absurd (other refl)

-- a life that is not spent is one that a kept number sees
kept-life : (kept : List ℕ) (t : Tree) (l : Life) → AreKept kept t → is_spent kept l ≡ false → l.death ≢ never → IsKeptLife t l
kept-life kept t l are is dead = by_tests (l.death == never) refl (list_any (λ n. sees (Snap n) l) kept) refl is
  where
    by_tests : (u : Bool) → (l.death == never) ≡ u → (b : Bool) → list_any (λ n. sees (Snap n) l) kept ≡ b
        → (not u && not b) ≡ false → IsKeptLife t l
    by_tests true at b any is = absurd (dead (eqb-true l.death never at))
    by_tests false at true any is =
        let a = Any-from_list_any (λ n. sees (Snap n) l) kept any in
        record { number = a.1; kept = are.only a.1 (a.0, a.2, a.3); seen = a.4 }
    by_tests false at false any is = absurd (cc)

unspent : (kept : List ℕ) (l : Life) (ls : List Life) → spent kept ls ≡ None → Contains ls l → is_spent kept l ≡ false
unspent kept l [] none here = absurd (among-none l here)
unspent kept l (m ∷ ls) none here =
    by_place (is_spent kept m) refl none (among-cons m l ls here) (λ h k. unspent kept l ls h k)
  where
    by_place : (b : Bool) → is_spent kept m ≡ b → (if b then Some m else spent kept ls) ≡ None → (l ≡ m) ⊎ Contains ls l
        → (spent kept ls ≡ None → Contains ls l → is_spent kept l ≡ false) → is_spent kept l ≡ false
    by_place true at none place more = absurd (cc)
    by_place false at none (inl same) more = subst (λ (x : Life). is_spent kept x ≡ false) (sym same) at
    by_place false at none (inr later) more = more none later

-- what is known at the end of a walk that is trusted
pub all-swept : (v : Versions) (t : Tree) (kept : List ℕ) → Shows v t → Knows true kept None v t → IsSwept v t
all-swept v t kept shows (are, ends) = record {
  extents = λ file index x place at.
      counts-or (counts_by (live_marks v file) index x)
      (λ out. shows.stale.marked file index x place at out ((ends refl).0 file place.file_fits));
  marks = λ file fits. (ends refl).0 file fits;
  dead = λ key l here dead.
      kept-life kept t l are (unspent kept l (v.lives key) ((ends refl).1 key (from-first key)) here) dead;
}

-- ---- of the trees that may lie below

module _ {S W : Type 0} (told : PairsTold S W) where
  pub keeps-none : (s : S) (Given : Known) → Keeps told s s Given Given
  keeps-none s Given = λ w t agrees lies. lies

  pub keeps-then : (old mid new : S) (n : ℕ) (Given Mid Then : Known) → Goes told mid new n → Keeps told old mid Given Mid
      → Keeps told mid new Mid Then → Keeps told old new Given Then
  keeps-then old mid new n Given Mid Then goes first more = λ w t agrees lies.
      more w t agrees (first w t (goes.agreed w agrees) lies)

  -- a walk that stops
  pub keeps-stop : (old new : S) (trusted : Bool) (kept : List ℕ) (Given : Known) (place : SweepPlace) (walk : Walk)
      → Keeps told old new Given (Knows trusted kept (Some walk)) → Keeps told old new Given (EndsKnown trusted kept (Some place))
  keeps-stop old new trusted kept Given place walk keeps = λ w t agrees lies.
      let l = keeps w t agrees lies in
      record { versions = l.versions; shown = l.shown; shows = l.shows; is = l.is.0 }

  -- it gives up where the trees that lie there are those that lay at its place
  pub walk-up : (old mid new : S) (n m : ℕ) (kept : List ℕ) (place : SweepPlace) (walk : Walk) (fault : PairFault)
      → FileFits place → Goes told old mid n → Goes told mid new m
      → Keeps told old mid (Knows false kept (Some (walk_of place))) (Knows false kept (Some walk))
      → GivesUpOn told mid new (λ t. ⊤) fault → GivesUpOn told old new (AreKept kept) fault
  walk-up old mid new n m kept place walk Odd fits before goes keeps up = λ w t agrees lies are.
      let l = keeps w t (goes.agreed w agrees) (record {
        versions = lies.versions;
        shown = lies.shown;
        shows = lies.shows;
        is = (are, knows-any kept place lies.versions fits);
      }) in
      up w t agrees (record { versions = l.versions; shown = l.shown; shows = l.shows }) tt
  walk-up old mid new n m kept place walk HeightFull fits before goes keeps up = up
  walk-up old mid new n m kept place walk (Page fault) fits before goes keeps (inl lacks) = inl lacks
  walk-up old mid new n m kept place walk (Page fault) fits before goes keeps (inr rose) =
      inr (omega (arith, before.faults fault, rose))

  -- ---- the whole sweep

  -- the numbers of the snapshots are read, and then it walks
  pub sweep-up : (old mid new : S) (n m : ℕ) (kept : List ℕ) (Given : Tree → Type 0) (fault : PairFault) → Goes told old mid n
      → Goes told mid new m → Reads told old mid (λ t. ⊤) (AreKept kept) → GivesUpOn told mid new (AreKept kept) fault
      → GivesUpOn told old new Given fault
  sweep-up old mid new n m kept Given Odd before goes reads up = λ w t agrees lies is.
      let a = goes.agreed w agrees in
      up w t agrees (reads.stays w t a lies tt) (reads.learns w t a lies tt)
  sweep-up old mid new n m kept Given HeightFull before goes reads up = up
  sweep-up old mid new n m kept Given (Page fault) before goes reads (inl lacks) = inl lacks
  sweep-up old mid new n m kept Given (Page fault) before goes reads (inr rose) = inr (omega (arith, before.faults fault, rose))

  pub sweep-keeps : (old mid new : S) (n : ℕ) (kept : List ℕ) (place : SweepPlace) (next : Option SweepPlace) → FileFits place
      → Goes told mid new n → Reads told old mid (λ t. ⊤) (AreKept kept)
      → Keeps told mid new (Knows false kept (Some (walk_of place))) (EndsKnown false kept next)
      → Edits told old new (λ t. ⊤) (λ t. t)
  sweep-keeps old mid new n kept place next fits goes reads keeps = λ w t agrees lies is.
      let a = goes.agreed w agrees in
      let at = reads.stays w t a lies tt in
      let l = keeps w t agrees (record {
        versions = at.versions;
        shown = at.shown;
        shows = at.shows;
        is = (reads.learns w t a lies tt, knows-any kept place at.versions fits);
      }) in
      record { versions = l.versions; shown = l.shown; shows = l.shows }

  -- it came from the start to the end
  pub sweep-done : (old mid new : S) (n : ℕ) (kept : List ℕ) → Goes told mid new n → Reads told old mid (λ t. ⊤) (AreKept kept)
      → Keeps told mid new (Knows true kept (Some (walk_of (Files None)))) (EndsKnown true kept None)
      → Keeps told old new (λ v t. ⊤) IsSwept
  sweep-done old mid new n kept goes reads keeps = λ w t agrees lies.
      let a = goes.agreed w agrees in
      let lay : Lies told old w t = record { versions = lies.versions; shown = lies.shown; shows = lies.shows } in
      let at = reads.stays w t a lay tt in
      let l = keeps w t agrees (record {
        versions = at.versions;
        shown = at.shown;
        shows = at.shows;
        is = (reads.learns w t a lay tt, knows-start kept at.versions);
      }) in
      record { versions = l.versions; shown = l.shown; shows = l.shows; is = all-swept l.versions t kept l.shows l.is }
