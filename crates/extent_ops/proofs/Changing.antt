-- What edits do to versions, beside what the laws of pairs say.
use Rattle.std.proofs.Common.{◌≡◌, ◌≢◌, ◌⊎◌, inl, inr, ℕ, Bool, true, false, if◌then◌else◌, List, Option, Some, None, refl}
use Rattle.std.proofs.Common.{sym, ap, subst}
use Rattle.std.specs.Prelude.{option_map, option_and_then}
use Rattle.std.specs.List.{Contains}
use Rattle.std.specs.Str.{bytes_eq}
use Rattle.pair_types.specs.declared.slot.Slot.{Slot}
use Rattle.pairs.specs.declared.at.At.TheVariants.{Live}
use Rattle.pairs.specs.Lives.{Life, seen, put_life}
use Rattle.pairs.specs.Versions.{Versions, epoch, epoch_in, epoch_key, is_same_slot, with_put, with_block}
use Rattle.pairs.specs.Versions.{HasLives}
use Rattle.pairs.proofs.VersionsLaws.{is-same, same-is, other-is, lives-here, lives-there, others-put}
use Rattle.fs_keys.specs.declared.inode.Inode.{Inode}
use Rattle.fs_keys.specs.declared.key_parts.KeyParts.TheVariants.{Inode as InodeKey}
use Rattle.fs_keys.specs.Inodes.{inode_of}
use Rattle.fs_keys.specs.Keys.{key_of}
use Rattle.fs_shows.specs.Nodes.{marks_of}
use Rattle.fs_shows.specs.Shows.{live_marks}
use Rattle.extent_ops.proofs.Among.{Lived, PutOrLived, among-put}

-- ---- keys

pub key_or : (k key : List ℕ) → (k ≡ key) ⊎ (k ≢ key)
key_or k key = by_test (bytes_eq k key) refl
  where
    differs : bytes_eq k key ≡ false → k ≡ key → ⊥
    differs other same =
        let t : bytes_eq k key ≡ true = subst (λ (j : List ℕ). bytes_eq j key ≡ true) (sym same) (is-same key) in
        absurd (cc)

    by_test : (t : Bool) → bytes_eq k key ≡ t → (k ≡ key) ⊎ (k ≢ key)
    by_test true is = inl (same-is k key is)
    by_test false is = inr (differs is)

pub marks_kept : (file : ℕ) (v z : Versions) → z.lives (key_of (InodeKey file)) ≡ v.lives (key_of (InodeKey file))
    → live_marks z file ≡ live_marks v file
marks_kept file v z same =
    ap (λ (ls : List Life). option_map (λ (i : Inode). marks_of i.head) (option_and_then inode_of (seen Live ls))) same

-- ---- blocks

pub block-epoch : (at : Slot) (b : Option (List ℕ)) (v : Versions) → epoch (with_block at b v) ≡ epoch v
unfolding epoch with_block
block-epoch at b v = refl

pub block-stores : (at : Slot) (b : Option (List ℕ)) (v : Versions) → (with_block at b v).stores ≡ v.stores
unfolding with_block
block-stores at b v = refl

pub has-block : (at : Slot) (b : Option (List ℕ)) (v : Versions) → HasLives v → HasLives (with_block at b v)
unfolding epoch with_block
has-block at b v has = record { early = has.early; lives = has.lives }

pub block-some : (at : Slot) (b : List ℕ) (v : Versions) (t : Slot) → v.blocks t ≢ None → (with_block at (Some b) v).blocks
    t ≢ None
unfolding with_block
block-some at b v t some = by_test (is_same_slot t at)
  where
    by_test : (u : Bool) → (if u then Some b else v.blocks t) ≢ None
    by_test true = λ is. absurd (cc)
    by_test false = some

-- ---- puts

pub epoch-put : (key value : List ℕ) (v : Versions) → key ≢ epoch_key → epoch (with_put key value v) ≡ epoch v
unfolding epoch
epoch-put key value v other = ap epoch_in (others-put key value epoch_key v Live (λ same. other (sym same)))

pub put-here : (key value : List ℕ) (v : Versions) → (with_put key value v).lives key ≡ put_life (epoch v) value (v.lives key)
unfolding with_put
put-here key value v = lives-here key (put_life (epoch v) value (v.lives key)) v.lives

pub put-there : (key value k : List ℕ) (v : Versions) → k ≢ key → (with_put key value v).lives k ≡ v.lives k
unfolding with_put
put-there key value k v other = lives-there key k (put_life (epoch v) value (v.lives key)) v.lives (other-is k key other)

pub put-blocks : (key value : List ℕ) (v : Versions) → (with_put key value v).blocks ≡ v.blocks
unfolding with_put
put-blocks key value v = refl

pub put-stores : (key value : List ℕ) (v : Versions) → (with_put key value v).stores ≡ v.stores
unfolding with_put
put-stores key value v = refl

-- a life behind a put is the one that was put, or was there, by its birth and value
pub record IsPut (key value : List ℕ) (v : Versions) (k : List ℕ) (l : Life) : Type 0 where
  pub key_is : k ≡ key
  pub value_is : l.value ≡ value
  pub birth_is : l.birth ≡ epoch v

pub origin : (key value : List ℕ) (v : Versions) (k : List ℕ) (l : Life) → Contains ((with_put key value v).lives k) l
    → IsPut key value v k l ⊎ Lived l.birth l.value (v.lives k)
origin key value v k l among = by_key (key_or k key)
  where
    put_or : k ≡ key → PutOrLived (epoch v) value l (v.lives key) → IsPut key value v k l ⊎ Lived l.birth l.value (v.lives k)
    put_or is (inl x) = inl (record { key_is = is; value_is = x.0; birth_is = x.1 })
    put_or is (inr x) = inr (subst (λ (j : List ℕ). Lived l.birth l.value (v.lives j)) (sym is) x)

    by_key : (k ≡ key) ⊎ (k ≢ key) → IsPut key value v k l ⊎ Lived l.birth l.value (v.lives k)
    by_key (inl is) =
        let here = subst (λ (j : List ℕ). Contains ((with_put key value v).lives j) l) is among in
        put_or is (among-put (epoch v) value l (v.lives key) (subst (λ (ls : List Life). Contains ls l) (put-here key value
        v) here))
    by_key (inr other) = inr (record {
      life = l;
      among = subst (λ (ls : List Life). Contains ls l) (put-there key value k v other) among;
      born_at = refl;
      is = refl;
    })
