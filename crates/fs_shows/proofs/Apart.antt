-- Keys of different parts differ, and so do keys of the table and others; which rows are those of one file.
use Rattle.std.proofs.Common.{◌≡◌, ◌≢◌, ℕ, ◌==◌, Bool, true, false, List, Option, Some, None, refl, sym, ◌∙◌, ap, subst}
use Rattle.std.proofs.lemmas.Bool.{eqb-true, eqb-false}
use Rattle.std.specs.Prelude.{⊤, ◌≤◌, length}
use Rattle.fs_rules.specs.Limits.{longest_name}
use Rattle.fs_keys.specs.declared.key_parts.KeyParts.TheVariants.{First, Lane, Snapshot, Inode, Name, Cookie, Extent, Stale}
use Rattle.fs_keys.specs.declared.key_parts.KeyParts.TheVariants.{Times}
use Rattle.fs_keys.specs.Keys.{Parts, HasBounds, key_of, parts_of}
use Rattle.fs_keys.proofs.KeyLaws.{said-again}

abbrev pub Differ : Parts → Parts → Type 0
Differ p q = p ≢ q

pub keys-apart : (p q : Parts) → HasBounds p → HasBounds q → q ≢ p → key_of q ≢ key_of p
keys-apart p q fits fits' other is = other (same p q (sym (said-again q fits') ∙ ap parts_of is ∙ said-again p fits))
  where
    same : (p q : Parts) → Some q ≡ Some p → q ≡ p
    same p q e = cc

-- a name that is short enough for a directory is so for a key
pub short-name : (name : List ℕ) → length name ≤ longest_name → length name ≤ 255
unfolding longest_name
short-name name short = short

pub outside-apart : (p : Parts) (k : List ℕ) → HasBounds p → parts_of k ≡ None → k ≢ key_of p
outside-apart p k fits none is = differs p (sym none ∙ ap parts_of is ∙ said-again p fits)
  where
    differs : (p : Parts) → None ≡ Some p → ⊥
    differs p e = cc

-- what holds at one number, and at all others, holds at each
pub each-number : (P : ℕ → Type 0) (id : ℕ) → P id → ((i : ℕ) → i ≢ id → P i) → (i : ℕ) → P i
each-number P id here there i = by_test (i == id) refl
  where
    by_test : (u : Bool) → (i == id) ≡ u → P i
    by_test true is = subst P (sym (eqb-true i id is)) here
    by_test false is = there i (eqb-false i id is)

-- a row that is no row of this file, or one of its extents
abbrev pub IsApart : ℕ → Parts → Type 0
IsApart id First = ⊤
IsApart id (Lane lane) = ⊤
IsApart id (Snapshot number) = ⊤
IsApart id (Inode file) = file ≢ id
IsApart id (Name directory name) = directory ≢ id
IsApart id (Cookie directory cookie) = directory ≢ id
IsApart id (Extent file index) = ⊤
IsApart id (Stale file) = file ≢ id
IsApart id Times = ⊤

-- a row of this file, but for its extents
abbrev pub IsOf : ℕ → Parts → Type 0
IsOf id First = ⊥
IsOf id (Lane lane) = ⊥
IsOf id (Snapshot number) = ⊥
IsOf id (Inode file) = file ≡ id
IsOf id (Name directory name) = directory ≡ id
IsOf id (Cookie directory cookie) = directory ≡ id
IsOf id (Extent file index) = ⊥
IsOf id (Stale file) = file ≡ id
IsOf id Times = ⊥

pub of-apart : (id : ℕ) (p q : Parts) → IsOf id p → IsApart id q → q ≢ p
of-apart id p q of apart is = both p of (subst (IsApart id) is apart)
  where
    both : (p : Parts) → IsOf id p → IsApart id p → ⊥
    both First of apart = of
    both (Lane lane) of apart = of
    both (Snapshot number) of apart = of
    both (Inode file) of apart = apart of
    both (Name directory name) of apart = apart of
    both (Cookie directory cookie) of apart = apart of
    both (Extent file index) of apart = of
    both (Stale file) of apart = apart of
    both Times of apart = of

pub of-first : (id : ℕ) (p : Parts) → IsOf id p → First ≢ p
of-first id p of is = subst (IsOf id) (sym is) of
