-- What is known at a place of a walk is known at the next one.
use Rattle.std.proofs.Common.{◌≡◌, ◌≢◌, ◌⊎◌, inl, inr, ℕ, ◌^◌, ◌<◌, true, List, [], Option, Some, None, refl, sym, ◌∙◌}
use Rattle.std.proofs.Common.{ap, subst}
use Rattle.std.specs.Prelude.{option_and_then}
use Rattle.pairs.specs.declared.at.At.TheVariants.{Live}
use Rattle.pairs.specs.Found.{IsBefore, IsFrom, NoneSpent, AllKept}
use Rattle.pairs.specs.Lives.{spent}
use Rattle.pairs.specs.Versions.{Versions, with_del}
use Rattle.fs_rules.specs.Tree.{Tree}
use Rattle.fs_keys.specs.declared.key_parts.KeyParts.TheVariants.{Extent, Stale}
use Rattle.fs_keys.specs.declared.rows.Extent.{Extent as ExtentRow}
use Rattle.fs_keys.specs.Keys.{key_of}
use Rattle.fs_keys.specs.Values.{extent_in}
use Rattle.fs_shows.specs.Extents.{Marks, IsPlace, row, extent_at}
use Rattle.fs_shows.specs.Shows.{Shows, live_marks, counts_by}
use Rattle.sweeper.specs.Ending.{IsStale, Counts}
use Rattle.sweeper.specs.Knowing.{IsClear, AllCount, NoMarksTo, NoMarksBefore, NoMarks}
use Rattle.sweeper.specs.Rows.{extent_front, mark_front, numbered, behind, IsAfter, IsSooner, NextIn}
use Rattle.sweeper.proofs.Clearing.{gone, marks-same, extents-stay, mark-kept, unmarked-here}
use Rattle.sweeper.proofs.Ordered.{before-or, from-or, not-before-itself, order-of}

-- ---- files that are marked

pub marks-before : (after : Option ℕ) (n : ℕ) (value : List ℕ) (v : Versions) → NextIn mark_front after (Some (n, value)) v
    → NoMarksTo after v → NoMarksBefore n v
marks-before after n value v next none = λ file fits before.
    by_place file fits before (before-or (behind mark_front after) (numbered mark_front file))
  where
    by_place : (file : ℕ) → file < 2 ^ 64 → IsSooner mark_front file n
        → IsAfter mark_front after file ⊎ (IsAfter mark_front after file → ⊥) → row v Live (Stale file) ≡ None
    by_place file fits before (inl later) = next.first file fits later before
    by_place file fits before (inr early) = none file fits early

pub marks-none : (after : Option ℕ) (v : Versions) → NextIn mark_front after None v → NoMarksTo after v → NoMarks v
marks-none after v next none = λ file fits.
    by_place file fits (before-or (behind mark_front after) (numbered mark_front file))
  where
    by_place : (file : ℕ) → file < 2 ^ 64 → IsAfter mark_front after file ⊎ (IsAfter mark_front after file → ⊥)
        → row v Live (Stale file) ≡ None
    by_place file fits (inl later) = next file fits later
    by_place file fits (inr early) = none file fits early

-- ---- extents of a file

nothing-some : {A : Type 0} (x : A) → None ≡ Some x → ⊥
nothing-some x e = cc

-- no extent is at a number that has no value
no-extent : (v : Versions) (file index : ℕ) (x : ExtentRow) → row v Live (Extent file index) ≡ None
    → extent_at v Live file index ≡ Some x → ⊥
no-extent v file index x none at = nothing-some x (sym (ap (option_and_then extent_in) none) ∙ at)

-- what counts up to a place counts up to the next, where that one does
clear-to : (file : ℕ) (after : Option ℕ) (n : ℕ) (value : List ℕ) (v z : Versions)
    → NextIn (extent_front file) after (Some (n, value)) v
    → ((i : ℕ) (x : ExtentRow) → IsPlace file i → extent_at z Live file i ≡ Some x → extent_at v Live file i ≡ Some x)
    → live_marks z file ≡ live_marks v file
    → ((x : ExtentRow) → extent_at z Live file n ≡ Some x → counts_by (live_marks z file) n x ≡ true)
    → IsClear file after v → IsClear file (Some n) z
clear-to file after n value v z next stay marks here clear = λ index x place early at.
    by_order index x place early at (order-of (extent_front file) index n place.index_fits next.fits)
  where
    by_place : (index : ℕ) (x : ExtentRow) → IsPlace file index → IsSooner (extent_front file) index n
        → extent_at v Live file index ≡ Some x
        → IsAfter (extent_front file) after index ⊎ (IsAfter (extent_front file) after index → ⊥)
        → counts_by (live_marks v file) index x ≡ true
    by_place index x place before at (inl later) =
        absurd (no-extent v file index x (next.first index place.index_fits later before) at)
    by_place index x place before at (inr early) = clear index x place early at

    by_order : (index : ℕ) (x : ExtentRow) → IsPlace file index → (IsAfter (extent_front file) (Some n) index → ⊥)
        → extent_at z Live file index ≡ Some x
        → (index ≡ n) ⊎ (IsSooner (extent_front file) index n ⊎ IsSooner (extent_front file) n index)
        → counts_by (live_marks z file) index x ≡ true
    by_order index x place early at (inl same) =
        subst (λ (i : ℕ). counts_by (live_marks z file) i x ≡ true) (sym same)
        (here x (subst (λ (i : ℕ). extent_at z Live file i ≡ Some x) same at))
    by_order index x place early at (inr (inl before)) =
        subst (λ (m : Option Marks). counts_by m index x ≡ true) (sym marks)
        (by_place index x place before (stay index x place at)
        (before-or (behind (extent_front file) after) (numbered (extent_front file) index)))
    by_order index x place early at (inr (inr more)) = absurd (early more)

-- the next extent counts
pub clear-counts : (file : ℕ) (after : Option ℕ) (n : ℕ) (value : List ℕ) (v : Versions)
    → NextIn (extent_front file) after (Some (n, value)) v → Counts (live_marks v file) n value → IsClear file after v
    → IsClear file (Some n) v
clear-counts file after n value v next count clear =
    clear-to file after n value v v next (λ i x place at. at) refl
    (λ x at. count x (sym (ap (option_and_then extent_in) next.has) ∙ at)) clear

-- or it did not, and is gone
pub clear-ended : (v : Versions) (t : Tree) (file : ℕ) (after : Option ℕ) (n : ℕ) (value : List ℕ) → (place : IsPlace file n)
    → (shows : Shows v t) → (next : NextIn (extent_front file) after (Some (n, value)) v)
    → (stale : IsStale (live_marks v file) n value) → IsClear file after v
    → IsClear file (Some n) (with_del (key_of (Extent file n)) v)
clear-ended v t file after n value place shows next stale clear =
    clear-to file after n value v (with_del (key_of (Extent file n)) v) next
    (λ i x there at. extents-stay v t file n value place shows next.has stale file i x there at)
    (marks-same v t file n value place shows next.has stale file place.file_fits)
    (λ x at. absurd (no-extent (with_del (key_of (Extent file n)) v) file n x
    (gone v t file n value place shows next.has stale) at))
    clear

-- behind the last extent all count
pub clear-all : (file : ℕ) (after : Option ℕ) (v : Versions) → NextIn (extent_front file) after None v → IsClear file after v
    → AllCount file v
clear-all file after v next clear = λ index x place at.
    by_place index x place at (before-or (behind (extent_front file) after) (numbered (extent_front file) index))
  where
    by_place : (index : ℕ) (x : ExtentRow) → IsPlace file index → extent_at v Live file index ≡ Some x
        → IsAfter (extent_front file) after index ⊎ (IsAfter (extent_front file) after index → ⊥)
        → counts_by (live_marks v file) index x ≡ true
    by_place index x place at (inl later) = absurd (no-extent v file index x (next index place.index_fits later) at)
    by_place index x place at (inr early) = clear index x place early at

-- and no file up to this one is marked, once its mark is taken away
pub marks-to : (v : Versions) (t : Tree) (file : ℕ) (fits : file < 2 ^ 64) (shows : Shows v t) (count : AllCount file v)
    → NoMarksBefore file v → NoMarksTo (Some file) (with_del (key_of (Stale file)) v)
marks-to v t file fits shows count none = λ f low early. by_order f low early (order-of mark_front f file low fits)
  where
    by_order : (f : ℕ) → f < 2 ^ 64 → (IsAfter mark_front (Some file) f → ⊥)
        → (f ≡ file) ⊎ (IsSooner mark_front f file ⊎ IsSooner mark_front file f)
        → row (with_del (key_of (Stale file)) v) Live (Stale f) ≡ None
    by_order f low early (inl same) =
        subst (λ (g : ℕ). row (with_del (key_of (Stale file)) v) Live (Stale g) ≡ None) (sym same)
        (unmarked-here v t file fits shows count)
    by_order f low early (inr (inl before)) =
        mark-kept v t file fits shows count f low
        (λ same. not-before-itself (numbered mark_front file)
        (subst (λ (g : ℕ). IsBefore (numbered mark_front g) (numbered mark_front file)) same before))
        ∙ none f low before
    by_order f low early (inr (inr more)) = absurd (early more)

-- ---- dead records

pub spent-to : (kept from to : List ℕ) (v : Versions) → NoneSpent kept [] from v → NoneSpent kept from to v
    → NoneSpent kept [] to v
spent-to kept from to v first more = λ k start before. by_place k start before (from-or from k)
  where
    by_place : (k : List ℕ) → IsFrom [] k → IsBefore k to → IsFrom from k ⊎ IsBefore k from → spent kept (v.lives k) ≡ None
    by_place k start before (inl later) = more k later before
    by_place k start before (inr early) = first k start early

pub spent-all : (kept from : List ℕ) (v : Versions) → NoneSpent kept [] from v → AllKept kept from v → AllKept kept [] v
spent-all kept from v first more = λ k start. by_place k start (from-or from k)
  where
    by_place : (k : List ℕ) → IsFrom [] k → IsFrom from k ⊎ IsBefore k from → spent kept (v.lives k) ≡ None
    by_place k start (inl later) = more k later
    by_place k start (inr early) = first k start early

pub spent-same : (kept to : List ℕ) (v z : Versions) → ((k : List ℕ) → k ≢ to → z.lives k ≡ v.lives k) → NoneSpent kept [] to v
    → NoneSpent kept [] to z
spent-same kept to v z same none = λ k start before.
    ap (spent kept) (same k (λ e. not-before-itself to (subst (λ (j : List ℕ). IsBefore j to) e before))) ∙ none k start before
