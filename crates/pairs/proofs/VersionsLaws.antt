-- What edits of versions show, at each key, and that lives stay in order.
use Rattle.std.proofs.Common.{◌≡◌, ◌≢◌, ℕ, ◌<◌, ◌≤◌, Bool, true, false, if◌then◌else◌, List, [], Option, Some, None}
use Rattle.std.proofs.Common.{refl, sym, ◌∙◌, ap, subst, arith}
use Rattle.std.proofs.lemmas.Grind.{common_steps}
use Rattle.std.proofs.lemmas.Slice.Eq.{bytes_eq-Decides}
use Rattle.std.specs.List.{Contains}
use Rattle.std.specs.Str.{bytes_eq}
use Rattle.pair_types.specs.declared.slot.Slot.{Slot}
use Rattle.pairs.specs.declared.at.At.{At}
use Rattle.pairs.specs.declared.at.At.TheVariants.{Live, Snap}
use Rattle.pairs.specs.Lives.{Life, never, seen, born, put_life, del_life, purge_life, AreLives}
use Rattle.pairs.specs.Versions.{Versions, value_at, epoch, epoch_in, epoch_key, with_lives, with_put, with_del, with_purge}
use Rattle.pairs.specs.Versions.{with_block}
use Rattle.pairs.specs.Versions.{is_same_slot, HasLives, CanPut}
use Rattle.pairs.proofs.LivesLaws.{are-later, seen-put, born-put, seen-put-later, seen-put-earlier, are-put, seen-del}
use Rattle.pairs.proofs.LivesLaws.{seen-del-earlier}
use Rattle.pairs.proofs.LivesLaws.{are-del, seen-purge-live, seen-purge-kept, are-purge}

-- ---- keys

pub is-same : (k : List ℕ) → bytes_eq k k ≡ true
is-same k = grind (arith, common_steps, bytes_eq-Decides k k)

pub same-is : (j k : List ℕ) → bytes_eq j k ≡ true → j ≡ k
same-is j k is = grind (arith, common_steps, bytes_eq-Decides j k)

pub other-is : (j k : List ℕ) → j ≢ k → bytes_eq j k ≡ false
other-is j k other = grind (arith, common_steps, bytes_eq-Decides j k, other)

pub lives-here : (key : List ℕ) (ls : List Life) (lives : List ℕ → List Life) → with_lives key ls lives key ≡ ls
unfolding with_lives
lives-here key ls lives = rw (is-same key) refl

pub lives-there : (key k : List ℕ) (ls : List Life) (lives : List ℕ → List Life) → bytes_eq k key ≡ false
    → with_lives key ls lives k ≡ lives k
unfolding with_lives
lives-there key k ls lives other = rw other refl

-- what holds of the lives here, and of all others, holds at each key
pub at-each : (P : List ℕ → List Life → Type 0) (key : List ℕ) (ls : List Life) (lives : List ℕ → List Life) → P key ls
    → ((k : List ℕ) → P k (lives k)) → (k : List ℕ) → P k (with_lives key ls lives k)
at-each P key ls lives here there k = by_key (bytes_eq k key) refl
  where
    by_key : (t : Bool) → bytes_eq k key ≡ t → P k (with_lives key ls lives k)
    by_key true is = subst (λ (j : List ℕ). P j (with_lives key ls lives j)) (sym (same-is k key is))
        (subst (P key) (sym (lives-here key ls lives)) here)
    by_key false is = subst (P k) (sym (lives-there key k ls lives is)) (there k)

-- ---- puts

pub live-put : (key value : List ℕ) (v : Versions) → CanPut key value v → value_at Live (with_put key value v) key ≡ Some value
unfolding with_put
live-put key value v can =
    ap (seen Live) (lives-here key (put_life (epoch v) value (v.lives key)) v.lives)
    ∙ seen-put (epoch v) 0 value (v.lives key) can.lives.early (can.lives.lives key)

pub birth-put : (key value : List ℕ) (v : Versions) → CanPut key value v → born ((with_put key value v).lives key) ≡ Some
    (epoch v)
unfolding with_put
birth-put key value v can =
    ap born (lives-here key (put_life (epoch v) value (v.lives key)) v.lives)
    ∙ born-put (epoch v) 0 value (v.lives key) can.lives.early (can.lives.lives key)

pub later-put : (key value : List ℕ) (v : Versions) (n : ℕ) → CanPut key value v → epoch v ≤ n → n < never
    → value_at (Snap n) (with_put key value v) key ≡ Some value
unfolding with_put
later-put key value v n can up early =
    ap (seen (Snap n)) (lives-here key (put_life (epoch v) value (v.lives key)) v.lives)
    ∙ seen-put-later n (epoch v) 0 value (v.lives key) up early (can.lives.lives key)

pub earlier-put : (key value k : List ℕ) (v : Versions) (n : ℕ) → CanPut key value v → n < epoch v
    → value_at (Snap n) (with_put key value v) k ≡ value_at (Snap n) v k
unfolding with_put
earlier-put key value k v n can late =
    at-each (λ j ls. seen (Snap n) ls ≡ seen (Snap n) (v.lives j)) key (put_life (epoch v) value (v.lives key)) v.lives
    (seen-put-earlier n (epoch v) 0 value (v.lives key) late can.lives.early (can.lives.lives key)) (λ j. refl) k

pub others-put : (key value k : List ℕ) (v : Versions) (at : At) → k ≢ key → value_at at (with_put key value v) k ≡ value_at at v
    k
unfolding with_put
others-put key value k v at other = ap (seen at) (lives-there key k (put_life (epoch v) value (v.lives key)) v.lives
    (other-is k key other))

-- the epoch behind a put: that of the value, at the key of the epoch
epoch-put-here : (key value : List ℕ) (v : Versions) → CanPut key value v → key ≡ epoch_key
    → epoch (with_put key value v) ≡ epoch_in (Some value)
unfolding epoch
epoch-put-here key value v can is = ap epoch_in (subst (λ (k : List ℕ). value_at Live (with_put key value v) k ≡ Some value) is
    (live-put key value v can))

epoch-put-there : (key value : List ℕ) (v : Versions) → epoch_key ≢ key → epoch (with_put key value v) ≡ epoch v
unfolding epoch
epoch-put-there key value v other = ap epoch_in (others-put key value epoch_key v Live other)

-- lives up to an epoch that is no earlier
lives-put-to : (key value : List ℕ) (v : Versions) (e : ℕ) → CanPut key value v → epoch v ≤ e → (k : List ℕ)
    → AreLives e 0 ((with_put key value v).lives k)
unfolding with_put
lives-put-to key value v e can up =
    at-each (λ j ls. AreLives e 0 ls) key (put_life (epoch v) value (v.lives key)) v.lives
    (are-later (epoch v) e 0 (put_life (epoch v) value (v.lives key)) up (are-put (epoch v) 0 value (v.lives key) can.lives.early
    (omega arith) (can.lives.lives key)))
    (λ j. are-later (epoch v) e 0 (v.lives j) up (can.lives.lives j))

pub has-put : (key value : List ℕ) (v : Versions) → CanPut key value v → HasLives (with_put key value v)
has-put key value v can = by_key (bytes_eq epoch_key key) refl
  where
    to : (e : ℕ) → epoch (with_put key value v) ≡ e → epoch v ≤ e → e < never → HasLives (with_put key value v)
    to e is up early = record { early = rw is early; lives = rw is (lives-put-to key value v e can up) }

    by_key : (t : Bool) → bytes_eq epoch_key key ≡ t → HasLives (with_put key value v)
    by_key true is =
        let same : key ≡ epoch_key = sym (same-is epoch_key key is) in
        to (epoch_in (Some value)) (epoch-put-here key value v can same) (can.rises same).0 (can.rises same).1
    by_key false is = to (epoch v) (epoch-put-there key value v (λ same. absurd (differs same is))) (omega arith) can.lives.early
      where
        differs : epoch_key ≡ key → bytes_eq epoch_key key ≡ false → ⊥
        differs same is =
            let t : bytes_eq epoch_key key ≡ true = subst (λ (k : List ℕ). bytes_eq epoch_key k ≡ true) same (is-same epoch_key)
            in
            cc

-- ---- dels

pub live-del : (key : List ℕ) (v : Versions) → HasLives v → value_at Live (with_del key v) key ≡ None
unfolding with_del
live-del key v h =
    ap (seen Live) (lives-here key (del_life (epoch v) (v.lives key)) v.lives) ∙ seen-del (epoch v) 0 (v.lives key) h.early
    (h.lives key)

pub earlier-del : (key k : List ℕ) (v : Versions) (n : ℕ) → HasLives v → n < epoch v
    → value_at (Snap n) (with_del key v) k ≡ value_at (Snap n) v k
unfolding with_del
earlier-del key k v n h late =
    at-each (λ j ls. seen (Snap n) ls ≡ seen (Snap n) (v.lives j)) key (del_life (epoch v) (v.lives key)) v.lives
    (seen-del-earlier n (epoch v) 0 (v.lives key) late h.early (h.lives key)) (λ j. refl) k

pub others-del : (key k : List ℕ) (v : Versions) (at : At) → k ≢ key → value_at at (with_del key v) k ≡ value_at at v k
unfolding with_del
others-del key k v at other = ap (seen at) (lives-there key k (del_life (epoch v) (v.lives key)) v.lives (other-is k key other))

epoch-del : (key : List ℕ) (v : Versions) → key ≢ epoch_key → epoch (with_del key v) ≡ epoch v
unfolding epoch
epoch-del key v other = ap epoch_in (others-del key epoch_key v Live (λ is. other (sym is)))

lives-del : (key : List ℕ) (v : Versions) → HasLives v → (k : List ℕ) → AreLives (epoch v) 0 ((with_del key v).lives k)
unfolding with_del
lives-del key v h =
    at-each (λ j ls. AreLives (epoch v) 0 ls) key (del_life (epoch v) (v.lives key)) v.lives
    (are-del (epoch v) 0 (v.lives key) (h.lives key) h.early) h.lives

pub has-del : (key : List ℕ) (v : Versions) → key ≢ epoch_key → HasLives v → HasLives (with_del key v)
has-del key v other h =
    let is : epoch (with_del key v) ≡ epoch v = epoch-del key v other in
    record { early = rw is h.early; lives = rw is (lives-del key v h) }

-- ---- purges

pub live-purge : (kept key k : List ℕ) (v : Versions) → value_at Live (with_purge kept key v) k ≡ value_at Live v k
unfolding with_purge
live-purge kept key k v =
    at-each (λ j ls. seen Live ls ≡ seen Live (v.lives j)) key (purge_life kept (v.lives key)) v.lives
    (seen-purge-live kept (v.lives key)) (λ j. refl) k

pub kept-purge : (kept key k : List ℕ) (v : Versions) (n : ℕ) → Contains kept n
    → value_at (Snap n) (with_purge kept key v) k ≡ value_at (Snap n) v k
unfolding with_purge
kept-purge kept key k v n here =
    at-each (λ j ls. seen (Snap n) ls ≡ seen (Snap n) (v.lives j)) key (purge_life kept (v.lives key)) v.lives
    (seen-purge-kept kept n (v.lives key) here) (λ j. refl) k

epoch-purge : (kept key : List ℕ) (v : Versions) → epoch (with_purge kept key v) ≡ epoch v
unfolding epoch
epoch-purge kept key v = ap epoch_in (live-purge kept key epoch_key v)

lives-purge : (kept key : List ℕ) (v : Versions) → HasLives v → (k : List ℕ)
    → AreLives (epoch v) 0 ((with_purge kept key v).lives k)
unfolding with_purge
lives-purge kept key v h =
    at-each (λ j ls. AreLives (epoch v) 0 ls) key (purge_life kept (v.lives key)) v.lives
    (are-purge kept (epoch v) 0 (v.lives key) (h.lives key)) h.lives

pub has-purge : (kept key : List ℕ) (v : Versions) → HasLives v → HasLives (with_purge kept key v)
has-purge kept key v h =
    let is : epoch (with_purge kept key v) ≡ epoch v = epoch-purge kept key v in
    record { early = rw is h.early; lives = rw is (lives-purge kept key v h) }

-- ---- blocks

same-slot : (a b : Slot) → is_same_slot a b ≡ true → a ≡ b
same-slot a b is =
    let p : a.store ≡ b.store = grind (arith, common_steps) in
    let q : a.number ≡ b.number = grind (arith, common_steps) in
    ap (λ (x : ℕ). record { store = x; number = a.number }) p ∙ ap (λ (y : ℕ). record { store = b.store; number = y }) q

pub block-here : (s : Slot) (block : Option (List ℕ)) (v : Versions) → (with_block s block v).blocks s ≡ block
unfolding with_block
block-here s block v = grind (arith, common_steps)

pub block-there : (s t : Slot) (block : Option (List ℕ)) (v : Versions) → t ≢ s → (with_block s block v).blocks t ≡ v.blocks t
unfolding with_block
block-there s t block v other = by_test (is_same_slot t s) refl
  where
    by_test : (u : Bool) → is_same_slot t s ≡ u → (if u then block else v.blocks t) ≡ v.blocks t
    by_test true is = absurd (other (same-slot t s is))
    by_test false is = refl

pub block-lives : (s : Slot) (block : Option (List ℕ)) (v : Versions) → (with_block s block v).lives ≡ v.lives
unfolding with_block
block-lives s block v = refl

-- ---- nothing

pub has-nothing : (stores : ℕ) → HasLives (record { stores = stores; lives = λ _. []; blocks = λ _. None })
unfolding epoch AreLives
has-nothing stores = record { early = omega arith; lives = λ k. tt }
