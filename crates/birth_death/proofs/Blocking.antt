-- Blocks beside a tree: what a page that is read, written or fresh means.
use Rattle.std.proofs.Common.{◌≡◌, ◌≢◌, inl, inr, ◌⊎◌, ⊎_elim, ℕ, zero, suc, ◌+◌, ◌<◌, ◌≤◌, ◌%◌, Bool, true, false}
use Rattle.std.proofs.Common.{List, [], ◌∷◌, Option, Some, None, refl, sym, ◌∙◌, ap, subst, arith}
use Rattle.std.proofs.lemmas.Grind.{common_steps}
use Rattle.std.specs.Prelude.{⊤, IsSome}
use Rattle.pair_types.specs.declared.fault.PageFault.{PageFault}
use Rattle.pair_types.specs.declared.fault.PairFault.TheVariants.{Page}
use Rattle.pair_types.specs.declared.quad.Quad.{Quad}
use Rattle.pair_types.specs.declared.slot.Slot.{Slot}
use Rattle.pair_types.specs.PageMaps.{PageMap, Agrees, Puts, over, laid}
use Rattle.pair_types.specs.PageState.{PageState, Reads, Writes, Freshens, GivesUp}
use Rattle.btree_page.specs.Content.{Bound}
use Rattle.btree_page.specs.Tree.{Among, Subtree, root, least, IsFormed}
use Rattle.btree_page.proofs.Trees.{keeps_trees, reaches_pages}
use Rattle.btree_search.specs.Found.{OnlyReads}
use Rattle.btree_search.proofs.Walks.{agrees_before, page_there, some_of}
use Rattle.btree_edit.specs.Edited.{GoesOn}
use Rattle.btree_edit.proofs.Opened.{some_not_none, slot_cases}
use Rattle.btree_edit.proofs.States.{extends_learns, over_put, in_stores_put}
use Rattle.pairs.specs.Versions.{Versions, IsBlock, with_block, is_same_slot}
use Rattle.pairs.specs.Found.{Fills, IsFresh}
use Rattle.pairs.proofs.VersionsLaws.{block-here, block-there}
use Rattle.birth_death.specs.Roots.{KeepsRoot}
use Rattle.birth_death.specs.Shows.{IsOutside, Shows, MovesIn, GivesUpIn}
use Rattle.birth_death.proofs.Finding.{counted, shows-same, shows-only}
use Rattle.birth_death.proofs.Rooting.{keeps-same}

-- ---- what is read

-- a block that is shown is what is read in its slot
pub block-read : (a b : PageState) (slot : Slot) (page block : List ℕ) (under : PageMap) (v : Versions)
    → Reads a b slot page → OnlyReads a b
    → Agrees b.reads under → Shows a under v → v.blocks slot ≡ Some block → page ≡ block
block-read a b slot page block under v reads only agrees shows is =
    let now = shows-only a b under v only shows in
    let here = now.blocks slot block is in
    let within : slot.store < b.stores = now.formed.in_range slot
    (some_of (over b.writes under slot) block here.held) in
    page_there a b slot page under block reads agrees (omega (arith, within, only.lasts.stores)) here.held

-- ---- where no block lies

root-among : (p : PageMap) (level : ℕ) (slot : Slot) (low : Bound) (high : Option Bound) (quads : List Quad)
    (slots : List Slot)
    → Subtree p level slot low high quads slots → Among slot slots
root-among p zero slot low high quads slots h = subst (Among slot) (sym h.reached) (inl refl)
root-among p (suc level) slot low high quads slots h = subst (Among slot) (sym h.reached) (inl refl)

block_of : (o : Option (List ℕ)) → o ≢ None → (x : List ℕ) × (o ≡ Some x)
block_of None h = absurd (h refl)
block_of (Some x) h = (x, refl)

pub block-outside : (a : PageState) (under : PageMap) (v : Versions) (s : Shows a under v) (slot : Slot)
    → IsBlock slot v → Among slot s.slots → ⊥
block-outside a under v s slot is = let block = block_of (v.blocks slot) is.there in
    (s.blocks slot block.0 block.1).outside

pub block-not_root : (a : PageState) (under : PageMap) (v : Versions) (slot : Slot) → Shows a under v → IsBlock slot v
    → slot ≡ root → ⊥
block-not_root a under v slot s is same =
    block-outside a under v s slot is
    (subst (λ (x : Slot). Among x s.slots) (sym same)
    (root-among (over a.writes under) s.formed.level root least None s.quads s.slots s.formed.tree))

pub block-within : (a : PageState) (under : PageMap) (v : Versions) (slot : Slot) → Shows a under v → IsBlock slot v
    → slot.store < a.stores
block-within a under v slot s is =
    let block = block_of (v.blocks slot) is.there in
    s.formed.in_range slot (some_of (over a.writes under slot) block.0 (s.blocks slot block.0 block.1).held)

-- ---- whether a slot is the root's

same-root : (s : Slot) → is_same_slot s root ≡ true → s ≡ root
same-root s is =
    let p : s.store ≡ 0 = grind (arith, common_steps) in
    let q : s.number ≡ 0 = grind (arith, common_steps) in
    ap (λ (x : ℕ). record { store = x; number = s.number }) p ∙ ap (λ (y : ℕ). record { store = 0; number = y }) q

pub is-root : (s : Slot) (test : Bool) → test ≡ is_same_slot s root → test ≡ true → s ≡ root
is-root s test made is = same-root s (sym made ∙ is)

pub isnt-root : (s : Slot) (test : Bool) → test ≡ is_same_slot s root → test ≡ false → s ≡ root → ⊥
isnt-root s test made is same =
    let there : is_same_slot s root ≡ true = subst (λ (x : Slot). is_same_slot x root ≡ true) (sym same) refl in cc

-- ---- what is fresh

pub fresh-goes : (a b : PageState) (store : ℕ) (slot : Slot) → Freshens a b store slot → GoesOn a b
fresh-goes a b store slot fresh =
    record { lasts = fresh.lasts; extends = extends_learns a.reads b.reads slot fresh.learns }

pub fresh-keeps : (a b : PageState) (store : ℕ) (slot : Slot) → Freshens a b store slot → KeepsRoot 0 a b
fresh-keeps a b store slot fresh =
    keeps-same a b (ap (λ (w : PageMap). w root) fresh.writes) (extends_learns a.reads b.reads slot fresh.learns)

-- the store that is asked for is one of them
pub fresh-within : (file index stores asked all : ℕ) → stores ≡ all → asked ≡ (file + index) % stores → 0 < all
    → asked < all
fresh-within file index stores asked all same is some =
    subst (λ (n : ℕ). asked < n) same
    (let positive : 0 < stores = omega arith in omega arith)

-- a fresh slot is absent
fresh-absent : (a b : PageState) (store : ℕ) (slot : Slot) (under : PageMap) → Freshens a b store slot
    → Agrees b.reads under → over a.writes under slot ≡ None
fresh-absent a b store slot under fresh agrees =
    ap (λ (o : Option (List ℕ)). laid o (under slot)) fresh.unwritten ∙ agrees.at slot None fresh.absent

pub fresh-outside : (a b : PageState) (store : ℕ) (slot : Slot) (under : PageMap) (v : Versions) (s : Shows a under v)
    → Freshens a b store slot
    → Agrees b.reads under → Among slot s.slots → ⊥
fresh-outside a b store slot under v s fresh agrees there =
    some_not_none (over a.writes under slot)
    (reaches_pages (over a.writes under) s.formed.level root least None s.quads s.slots s.formed.tree slot there)
    (fresh-absent a b store slot under fresh agrees)

pub fresh-not_root : (a b : PageState) (store : ℕ) (slot : Slot) (under : PageMap) (v : Versions) → Shows a under v
    → Freshens a b store slot
    → Agrees b.reads under → slot ≡ root → ⊥
fresh-not_root a b store slot under v s fresh agrees same =
    fresh-outside a b store slot under v s fresh agrees
    (subst (λ (x : Slot). Among x s.slots) (sym same)
    (root-among (over a.writes under) s.formed.level root least None s.quads s.slots s.formed.tree))

pub fresh-is : (a b : PageState) (store file index : ℕ) (slot : Slot) (under : PageMap) (v : Versions)
    → Freshens a b store slot
    → store ≡ (file + index) % a.stores → Agrees b.reads under → Shows a under v → IsFresh file index slot v
fresh-is a b store file index slot under v fresh is agrees s = record {
  absent = none (v.blocks slot) refl;
  store = fresh.store ∙ is ∙ ap (λ (n : ℕ). (file + index) % n) (sym s.stores);
}
  where
    none : (o : Option (List ℕ)) → v.blocks slot ≡ o → v.blocks slot ≡ None
    none None is = is
    none (Some block) is =
        absurd (let here : over a.writes under slot ≡ Some block = (s.blocks slot block is).held in
        let gone : over a.writes under slot ≡ None = fresh-absent a b store slot under fresh agrees in cc)

-- ---- a page is written outside of the tree

formed-beside : (stores : ℕ) (p q : PageMap) (quads : List Quad) (slots : List Slot) (slot : Slot) (page : List ℕ)
    → IsFormed stores p quads slots
    → slot.store < stores → Puts p q slot page → (Among slot slots → ⊥) → IsFormed stores q quads slots
formed-beside stores p q quads slots slot page f within puts outside = record {
  in_range = (in_stores_put stores p q slot page (record { at = f.in_range }) within puts.others).at;
  level = f.level;
  height = f.height;
  tree = keeps_trees p q f.level root least None quads slots f.tree
      (λ s there. puts.others s (λ same. outside (subst (λ (x : Slot). Among x slots) same there)));
}

-- the slot holds this from now on, or no block
pub shows-written : (a b : PageState) (slot : Slot) (page : List ℕ) (block : Option (List ℕ)) (under : PageMap)
    (v : Versions) (s : Shows a under v)
    → Writes a b slot page → slot.store < a.stores → (Among slot s.slots → ⊥)
    → ((x : List ℕ) → block ≡ Some x → x ≡ page)
    → Shows b under (with_block slot block v)
unfolding with_block
shows-written a b slot page block under v s writes within outside holds = record {
  stores = s.stores ∙ sym writes.lasts.stores;
  quads = s.quads;
  slots = s.slots;
  formed = subst (λ (n : ℕ). IsFormed n (over b.writes under) s.quads s.slots) (sym writes.lasts.stores)
      (formed-beside a.stores (over a.writes under) (over b.writes under) s.quads s.slots slot page s.formed within puts
      outside);
  lives = s.lives;
  blocks = λ t x is. at t x is (slot_cases t slot);
}
  where
    puts : Puts (over a.writes under) (over b.writes under) slot page
    puts = over_put a.writes b.writes under slot page writes.puts

    at : (t : Slot) (x : List ℕ) → (with_block slot block v).blocks t ≡ Some x → (t ≡ slot) ⊎ (t ≢ slot)
        → IsOutside (over b.writes under) s.slots t x
    at t x is (inl same) = subst (λ (u : Slot). IsOutside (over b.writes under) s.slots u x) (sym same) (record {
      held =
          puts.put ∙ ap Some (sym (holds x (sym (block-here slot block v) ∙ subst
          (λ (u : Slot). (with_block slot block v).blocks u ≡ Some x) same is)));
      outside = outside;
    })
    at t x is (inr other) =
        let before = s.blocks t x (sym (block-there slot t block v other) ∙ is) in
        record { held = puts.others t other ∙ before.held; outside = before.outside }

pub block-moves : (a b : PageState) (slot : Slot) (page : List ℕ) (block : Option (List ℕ))
    → ((x : List ℕ) → block ≡ Some x → x ≡ page)
    → Writes a b slot page → MovesIn a b (IsBlock slot) (with_block slot block)
block-moves a b slot page block holds writes = λ under v agrees shows is.
    shows-written a b slot page block under v shows writes (block-within a under v slot shows is)
    (block-outside a under v shows slot is) holds

-- a fresh slot is written
pub fresh-moves : (a b c : PageState) (store : ℕ) (slot : Slot) → store < a.stores → Freshens a b store slot
    → Writes b c slot []
    → MovesIn a c (λ _. ⊤) (with_block slot (Some []))
unfolding shows-same
fresh-moves a b c store slot within fresh writes = λ under v agrees shows given.
    let early : Agrees b.reads under = agrees_before b.reads c.reads under
    (extends_learns b.reads c.reads slot writes.learns) agrees in
    shows-written b c slot [] (Some []) under v (shows-same a b under v fresh.lasts.stores fresh.writes shows) writes
    (omega (arith, fresh.store, fresh.lasts.stores))
    (fresh-outside a b store slot under v shows fresh early)
    (λ x is. cc)

pub fresh-before : (a b c : PageState) (store file index : ℕ) (slot : Slot) (under : PageMap) (v : Versions)
    → Freshens a b store slot
    → Writes b c slot [] → store ≡ (file + index) % a.stores → Agrees c.reads under → Shows a under v
    → IsFresh file index slot v
fresh-before a b c store file index slot under v fresh writes is agrees shows =
    fresh-is a b store file index slot under v fresh is
    (agrees_before b.reads c.reads under (extends_learns b.reads c.reads slot writes.learns) agrees) shows

-- ---- faults

pub page-gives-up : (a b : PageState) (Given : Versions → Type 0) (fault : PageFault) → GivesUp a b fault
    → GivesUpIn a b Given (Page fault)
page-gives-up a b Given fault gives = counted a b fault gives.counted

pub page-gives-up-later : (a b c : PageState) (Given : Versions → Type 0) (fault : PageFault) → GoesOn a b
    → GivesUp b c fault
    → GivesUpIn a c Given (Page fault)
page-gives-up-later a b c Given fault on gives =
    counted a c fault (λ isnt. omega (arith, on.lasts.faults fault, gives.counted isnt))
