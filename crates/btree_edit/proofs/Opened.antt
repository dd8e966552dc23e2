-- A part of a tree as its uppermost page and what lies below that.
use Rattle.std.proofs.Common.{◌≡◌, ◌≢◌, ◌⊎◌, ⊎_elim, inl, inr, ℕ, zero, suc, List, [], ◌∷◌, ◌++◌, map, Option, Some, None, IsSome}
use Rattle.std.proofs.Common.{refl, ap, subst, ◌∙◌}
use Rattle.std.proofs.lemmas.Bool.{cases_eq}
use Rattle.pair_types.specs.declared.slot.Slot.{Slot}
use Rattle.pair_types.specs.declared.quad.Quad.{Quad}
use Rattle.pair_types.specs.PageMaps.{PageMap}
use Rattle.btree_page.specs.Content.{Bound, Entry, inner_entry}
use Rattle.btree_page.specs.Tree.{Holds, Among, quad_cell, Child, child_cell, Kids, Subtree}
use Rattle.btree_page.proofs.Trees.{among_left, among_right, among_either, keeps_trees, reaches_pages}
use Rattle.btree_edit.specs.Below.{Bears}

pub record Seated (p : PageMap) (level : ℕ) (slot : Slot) (low : Bound) (high : Option Bound) (quads : List Quad)
    (slots : List Slot) : Type 0 where
  pub below : List Slot
  pub cells : List Entry
  pub page : Holds p slot (record { level = level; cells = cells })
  pub bears : Bears p level cells low high quads below
  pub reached : slots ≡ slot ∷ below
  pub apart : Among slot below → ⊥

pub opened : (p : PageMap) (level : ℕ) (slot : Slot) (low : Bound) (high : Option Bound) (quads : List Quad) (slots : List Slot)
    → Subtree p level slot low high quads slots → Seated p level slot low high quads slots
opened p zero slot low high quads slots h = record {
  below = [];
  cells = map quad_cell quads;
  page = h.page;
  bears = record { records = refl; within = h.within; nothing = refl };
  reached = h.reached;
  apart = λ none. none;
}
opened p (suc level) slot low high quads slots h = record {
  below = h.below;
  cells = inner_entry [] 0 h.first ∷ map child_cell h.rest;
  page = h.page;
  bears = record { first = h.first; rest = h.rest; children = refl; within = h.within; kids = h.kids };
  reached = h.reached;
  apart = h.apart;
}

pub closed : (p : PageMap) (level : ℕ) (slot : Slot) (low : Bound) (high : Option Bound) (quads : List Quad) (slots : List Slot)
    → Seated p level slot low high quads slots → Subtree p level slot low high quads slots
closed p zero slot low high quads slots h = record {
  page = subst (λ (cs : List Entry). Holds p slot (record { level = 0; cells = cs })) h.bears.records h.page;
  within = h.bears.within;
  reached = h.reached ∙ ap (λ (ss : List Slot). slot ∷ ss) h.bears.nothing;
}
closed p (suc level) slot low high quads slots h = record {
  first = h.bears.first;
  rest = h.bears.rest;
  below = h.below;
  page = subst (λ (cs : List Entry). Holds p slot (record { level = suc level; cells = cs })) h.bears.children h.page;
  within = h.bears.within;
  kids = h.bears.kids;
  reached = h.reached;
  apart = h.apart;
}

-- ---- the frame

pub kids_keep : (p q : PageMap) (level : ℕ) (rest : List Child) (first : Slot) (low : Bound) (high : Option Bound)
    (quads : List Quad) (slots : List Slot)
    → Kids (Subtree p level) first low rest high quads slots → ((s : Slot) → Among s slots → q s ≡ p s)
    → Kids (Subtree q level) first low rest high quads slots
kids_keep p q level [] first low high quads slots h same = keeps_trees p q level first low high quads slots h same
kids_keep p q level (next ∷ rest) first low high quads slots h same =
    let there : (s : Slot) → Among s (h.slots_left ++ h.slots_right) → q s ≡ p s =
    subst (λ (ss : List Slot). (s : Slot) → Among s ss → q s ≡ p s) h.all_slots same in
    record {
      quads_left = h.quads_left;
      quads_right = h.quads_right;
      slots_left = h.slots_left;
      slots_right = h.slots_right;
      left = keeps_trees p q level first low (Some next.bound) h.quads_left h.slots_left h.left
          (λ s here. there s (among_left s h.slots_left h.slots_right here));
      right = kids_keep p q level rest next.slot next.bound high h.quads_right h.slots_right h.right
          (λ s here. there s (among_right s h.slots_left h.slots_right here));
      all_quads = h.all_quads;
      all_slots = h.all_slots;
      apart = h.apart;
    }

pub bears_keep : (p q : PageMap) (level : ℕ) (cells : List Entry) (low : Bound) (high : Option Bound) (quads : List Quad)
    (below : List Slot)
    → Bears p level cells low high quads below → ((s : Slot) → Among s below → q s ≡ p s)
    → Bears q level cells low high quads below
bears_keep p q zero cells low high quads below h same = record { records = h.records; within = h.within; nothing = h.nothing }
bears_keep p q (suc level) cells low high quads below h same = record {
  first = h.first;
  rest = h.rest;
  children = h.children;
  within = h.within;
  kids = kids_keep p q level h.rest h.first low high quads below h.kids same;
}

-- ---- no reached slot is absent

pub kids_present : (p : PageMap) (level : ℕ) (rest : List Child) (first : Slot) (low : Bound) (high : Option Bound)
    (quads : List Quad) (slots : List Slot)
    → Kids (Subtree p level) first low rest high quads slots → (s : Slot) → Among s slots → IsSome (p s)
kids_present p level [] first low high quads slots h s here = reaches_pages p level first low high quads slots h s here
kids_present p level (next ∷ rest) first low high quads slots h s here =
    ⊎_elim
    (λ l. reaches_pages p level first low (Some next.bound) h.quads_left h.slots_left h.left s l)
    (λ r. kids_present p level rest next.slot next.bound high h.quads_right h.slots_right h.right s r)
    (among_either s h.slots_left h.slots_right (subst (λ (ss : List Slot). Among s ss) h.all_slots here))

pub some_not_none : (o : Option (List ℕ)) → IsSome o → o ≡ None → ⊥
some_not_none None h e = none_is_not_some h
  where
    none_is_not_some : IsSome {T = List ℕ} None → ⊥
    none_is_not_some h = cc
some_not_none (Some x) h e = cc

-- two slots are one or are not
pub slot_cases : (s t : Slot) → (s ≡ t) ⊎ (s ≢ t)
slot_cases s t =
    ⊎_elim
    (λ e. ⊎_elim (λ f. inl (same e f)) (λ f. inr (λ is. f (ap (λ (x : Slot). x.number) is))) (cases_eq s.number t.number))
    (λ e. inr (λ is. e (ap (λ (x : Slot). x.store) is)))
    (cases_eq s.store t.store)
  where
    same : s.store ≡ t.store → s.number ≡ t.number → s ≡ t
    same e f =
        let left : s ≡ record { store = t.store; number = s.number } =
        ap (λ (n : ℕ). let made : Slot = record { store = n; number = s.number } in made) e in
        left ∙ ap (λ (n : ℕ). let made : Slot = record { store = t.store; number = n } in made) f
