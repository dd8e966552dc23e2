-- What an edit of the map of blocks does to the slots.
use Rattle.std.proofs.Common.{◌≡◌, ℕ, Bool, true, false, if◌then◌else◌, List, Option, Some, refl, sym, ap, subst}
use Rattle.std.proofs.Common.{arith, ◌∙◌}
use Rattle.std.proofs.Math.Path.{fun_ext}
use Rattle.std.proofs.lemmas.Grind.{common_steps}
use Rattle.std.proofs.lemmas.Map.Lookups.{exact_pairs, exact_unsigned}
use Rattle.std.specs.BTreeMap as tree
use Rattle.std.specs.BTreeMap.{is_at}
use Rattle.std.specs.Ordering.{is_eq, nat_cmp}
use Rattle.std.specs.declared.cmp.Ordering.{Ordering}
use Rattle.std.specs.declared.cmp.Ordering.TheVariants.{Less, Equal, Greater}
use Rattle.pair_types.specs.declared.slot.Slot.{Slot}
use Rattle.pair_types.specs.MemPages.{place_cmp}
use Rattle.pairs.specs.Versions.{is_same_slot}
use Rattle.mem_pairs.specs.declared.mem_blocks.MemBlocks.{MemBlocks}
use Rattle.mem_pairs.specs.Blocks.{blocks_of, Holds}

abbrev place : Slot → ℕ × ℕ
place s = (s.store, s.number)

equal_from_test : (o : Ordering) → is_eq o ≡ true → o ≡ Equal
equal_from_test Less h = cc
equal_from_test Equal h = refl
equal_from_test Greater h = cc

same_slot : (a b : Slot) → is_same_slot a b ≡ true → a ≡ b
same_slot a b is =
    let p : a.store ≡ b.store = grind (arith, common_steps) in
    let q : a.number ≡ b.number = grind (arith, common_steps) in
    ap (λ (x : ℕ). record { store = x; number = a.number }) p ∙ ap (λ (y : ℕ). record { store = b.store; number = y }) q

same_itself : (s : Slot) → is_same_slot s s ≡ true
same_itself s = grind (arith, common_steps)

slot_from_place : (s t : Slot) → place s ≡ place t → t ≡ s
slot_from_place s t e =
    let same : t ≡ s = ap (λ (p : ℕ × ℕ). let made : Slot = record { store = p.0; number = p.1 } in made)
    (sym e) in same

-- two slots are found at different places
other_place : (s t : Slot) → is_same_slot t s ≡ false → is_at (place_cmp (place s)) (place t) ≡ false
other_place s t apart = at_test _ refl
  where
    at_test : (b : Bool) → is_at (place_cmp (place s)) (place t) ≡ b → is_at (place_cmp (place s)) (place t) ≡ false
    at_test false e = e
    at_test true e =
        let same : t ≡ s = slot_from_place s t (exact_pairs nat_cmp nat_cmp exact_unsigned exact_unsigned _ _
        (equal_from_test _ e)) in
        let is : is_same_slot t s ≡ true = subst (λ (u : Slot). is_same_slot t u ≡ true) same (same_itself t) in
        cc

-- one update of the map is one of the slots
pub holds : (old new : MemBlocks) (s : Slot) (block : Option (List ℕ)) → new.stores ≡ old.stores
    → tree.Updates place_cmp old.held new.held (s.store, s.number) block → Holds s block old new
holds old new s block stores updates = record {
  stores = stores;
  blocks = fun_ext (λ t. by_test t (is_same_slot t s) refl);
}
  where
    by_test : (t : Slot) (u : Bool) → is_same_slot t s ≡ u
        → blocks_of new t ≡ (if is_same_slot t s then block else blocks_of old t)
    by_test t true is = rw is (ap (blocks_of new) (same_slot t s is) ∙ updates.1)
    by_test t false is = rw is (updates.2 (place t) (other_place s t is))

-- the same, of a page with these bytes
pub holds_page : (old new : MemBlocks) (s : Slot) (page bytes : List ℕ) → page ≡ bytes → new.stores ≡ old.stores
    → tree.Updates place_cmp old.held new.held (s.store, s.number) (Some page) → Holds s (Some bytes) old new
holds_page old new s page bytes is stores updates =
    subst (λ (p : List ℕ). Holds s (Some p) old new) is (holds old new s (Some page) stores updates)
