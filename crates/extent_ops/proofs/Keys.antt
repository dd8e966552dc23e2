-- Keys and values of extents: keys tell their places, and values what they were made of.
use Rattle.std.proofs.Common.{◌≡◌, ◌≢◌, ℕ, ◌<◌, ◌≤◌, ◌^◌, List, length, slice_index, Option, Some, refl, ap, arith}
use Rattle.xdr_grammar.specs.Items.{hyper}
use Rattle.pairs.specs.Versions.{epoch_key}
use Rattle.fs_keys.specs.declared.key_parts.KeyParts.TheVariants.{Extent as ExtentKey, Inode as InodeKey, Stale as StaleKey}
use Rattle.fs_keys.specs.declared.rows.Extent.{Extent}
use Rattle.fs_keys.specs.Keys.{Parts, key_of, parts_of}
use Rattle.fs_keys.specs.Values.{extent, extent_in}
use Rattle.fs_keys.proofs.KeyLaws.{said-again}
use Rattle.fs_keys.proofs.ValueLaws.{extent-laws, said-again as value-again}
use Rattle.fs_shows.specs.Extents.{IsPlace}
use Rattle.extent_ops.specs.Blocks.{extent_key, extent_value, IsBeside}

same_parts : (f i g j : ℕ) (a b : Option Parts) → a ≡ Some (ExtentKey f i) → b ≡ Some (ExtentKey g j) → a ≡ b
    → (f ≡ g) × (i ≡ j)
same_parts f i g j a b p q is = (cc, cc)

pub key-place : (f i g j : ℕ) → IsPlace f i → IsPlace g j → extent_key f i ≡ extent_key g j → (f ≡ g) × (i ≡ j)
key-place f i g j p q is = same_parts f i g j (parts_of (extent_key f i)) (parts_of (extent_key g j))
    (said-again (ExtentKey f i) (p.file_fits, p.index_fits)) (said-again (ExtentKey g j) (q.file_fits, q.index_fits))
    (ap parts_of is)

-- the row of a key is its first byte
row-of : List ℕ → ℕ
row-of key = slice_index key 0

pub key-not_epoch : (f i : ℕ) → extent_key f i ≢ epoch_key
unfolding row-of
key-not_epoch f i is = let e : 7 ≡ 1 = ap row-of is in absurd (omega (arith, e))

pub inode-beside : (file f : ℕ) → IsBeside file (key_of (InodeKey f))
unfolding row-of
inode-beside file f = λ i small is. let e : 4 ≡ 7 = ap row-of is in absurd (omega (arith, e))

pub stale-beside : (file f : ℕ) → IsBeside file (key_of (StaleKey f))
unfolding row-of
stale-beside file f = λ i small is. let e : 8 ≡ 7 = ap row-of is in absurd (omega (arith, e))

pub file-beside : (file g j : ℕ) → file < 2 ^ 64 → IsPlace g j → g ≢ file → IsBeside file (extent_key g j)
file-beside file g j fits place other = λ i small is.
    other (key-place g j file i place (record { file_fits = fits; index_fits = small }) is).0

pub value-in : (x : Extent) → x.number < 2 ^ 64 → x.stamp < 2 ^ 64 → extent_in (extent_value x) ≡ Some x
unfolding extent hyper
value-in x number stamp =
    value-again extent extent-laws x (record { first = number; second = record { first = stamp; second = refl } })

pub value-short : (x : Extent) → length (extent_value x) ≤ 1200
unfolding extent hyper
value-short x = omega arith

pub stale-not_epoch : (file : ℕ) → key_of (StaleKey file) ≢ epoch_key
unfolding row-of
stale-not_epoch file is = let e : 8 ≡ 1 = ap row-of is in absurd (omega (arith, e))

pub extent-not_stale : (f i file : ℕ) → extent_key f i ≢ key_of (StaleKey file)
unfolding row-of
extent-not_stale f i file is = let e : 7 ≡ 8 = ap row-of is in absurd (omega (arith, e))

pub inode-not_stale : (f file : ℕ) → key_of (InodeKey f) ≢ key_of (StaleKey file)
unfolding row-of
inode-not_stale f file is = let e : 4 ≡ 8 = ap row-of is in absurd (omega (arith, e))
