-- The laws of trees: what keeps a tree, that it reaches no absent slot, and that it is unique.
use Rattle.std.proofs.Common.{◌≡◌, ℕ, zero, suc, ◌⊎◌, inl, inr, ⊎_elim, List, [], ◌∷◌, ◌++◌, map, Option, Some, None, IsSome}
use Rattle.std.proofs.Common.{refl, sym, ap, subst, ◌∙◌}
use Rattle.pair_types.specs.declared.slot.Slot.{Slot}
use Rattle.pair_types.specs.declared.quad.Quad.{Quad}
use Rattle.pair_types.specs.PageMaps.{PageMap}
use Rattle.btree_page.specs.Content.{Bound, Carries, Leads, Body, Entry, Content, Spells, inner_entry}
use Rattle.btree_page.specs.Tree.{Holds, Among, quad_cell, Child, child_cell, Kids, Subtree, root, least, KeepsTrees}
use Rattle.btree_page.specs.Tree.{ReachesPages, HasOneList, HasOneContent}
use Rattle.btree_page.proofs.Whole.{one_content}

pub has_one_content : HasOneContent
has_one_content = one_content

-- ---- members of a joined list

pub among_left : (s : Slot) (ss ts : List Slot) → Among s ss → Among s (ss ++ ts)
among_left s [] ts h = absurd h
among_left s (t ∷ ss) ts h = ⊎_elim (λ e. inl e) (λ more. inr (among_left s ss ts more)) h

pub among_right : (s : Slot) (ss ts : List Slot) → Among s ts → Among s (ss ++ ts)
among_right s [] ts h = h
among_right s (t ∷ ss) ts h = inr (among_right s ss ts h)

pub among_either : (s : Slot) (ss ts : List Slot) → Among s (ss ++ ts) → Among s ss ⊎ Among s ts
among_either s [] ts h = inr h
among_either s (t ∷ ss) ts h =
    ⊎_elim (λ e. inl (inl e)) (λ more. ⊎_elim (λ l. inl (inr l)) (λ r. inr r) (among_either s ss ts more)) h

-- ---- the frame

holds_there : (p q : PageMap) (slot : Slot) (content : Content) → Holds p slot content → q slot ≡ p slot → Holds q slot content
holds_there p q slot content h same = record { bytes = h.bytes; held = same ∙ h.held; spelled = h.spelled }

kids_keep : (p q : PageMap) (level : ℕ) (keep : (slot : Slot) (low : Bound) (high : Option Bound) (quads : List Quad)
    (slots : List Slot)
    → Subtree p level slot low high quads slots → ((s : Slot) → Among s slots → q s ≡ p s)
    → Subtree q level slot low high quads slots)
    (rest : List Child) (first : Slot) (low : Bound) (high : Option Bound) (quads : List Quad) (slots : List Slot)
    → Kids (Subtree p level) first low rest high quads slots → ((s : Slot) → Among s slots → q s ≡ p s)
    → Kids (Subtree q level) first low rest high quads slots
kids_keep p q level keep [] first low high quads slots h same = keep first low high quads slots h same
kids_keep p q level keep (next ∷ rest) first low high quads slots h same =
    let there : (s : Slot) → Among s (h.slots_left ++ h.slots_right) → q s ≡ p s =
    subst (λ (ss : List Slot). (s : Slot) → Among s ss → q s ≡ p s) h.all_slots same in
    record {
      quads_left = h.quads_left;
      quads_right = h.quads_right;
      slots_left = h.slots_left;
      slots_right = h.slots_right;
      left = keep first low (Some next.bound) h.quads_left h.slots_left h.left
          (λ s here. there s (among_left s h.slots_left h.slots_right here));
      right = kids_keep p q level keep rest next.slot next.bound high h.quads_right h.slots_right h.right
          (λ s here. there s (among_right s h.slots_left h.slots_right here));
      all_quads = h.all_quads;
      all_slots = h.all_slots;
      apart = h.apart;
    }

pub keeps_trees : KeepsTrees
keeps_trees p q zero slot low high quads slots h same =
    let there : (s : Slot) → Among s (slot ∷ []) → q s ≡ p s = subst (λ (ss : List Slot). (s : Slot) → Among s ss → q s ≡ p s)
    h.reached same in
    record { page = holds_there p q slot _ h.page (there slot (inl refl)); within = h.within; reached = h.reached }
keeps_trees p q (suc level) slot low high quads slots h same =
    let there : (s : Slot) → Among s (slot ∷ h.below) → q s ≡ p s = subst (λ (ss : List Slot). (s : Slot) → Among s ss
    → q s ≡ p s) h.reached same in
    record {
      first = h.first;
      rest = h.rest;
      below = h.below;
      page = holds_there p q slot _ h.page (there slot (inl refl));
      within = h.within;
      kids = kids_keep p q level (keeps_trees p q level) h.rest h.first low high quads h.below h.kids
          (λ s here. there s (inr here));
      reached = h.reached;
      apart = h.apart;
    }

-- ---- no reached slot is absent

some_page : (p : PageMap) (slot : Slot) (content : Content) (s : Slot) → Holds p slot content → s ≡ slot → IsSome (p s)
some_page p slot content s h e = rw (e, h.held) refl

kids_present : (p : PageMap) (level : ℕ) (present : (slot : Slot) (low : Bound) (high : Option Bound) (quads : List Quad)
    (slots : List Slot)
    → Subtree p level slot low high quads slots → (s : Slot) → Among s slots → IsSome (p s))
    (rest : List Child) (first : Slot) (low : Bound) (high : Option Bound) (quads : List Quad) (slots : List Slot)
    → Kids (Subtree p level) first low rest high quads slots → (s : Slot) → Among s slots → IsSome (p s)
kids_present p level present [] first low high quads slots h s here = present first low high quads slots h s here
kids_present p level present (next ∷ rest) first low high quads slots h s here =
    ⊎_elim
    (λ l. present first low (Some next.bound) h.quads_left h.slots_left h.left s l)
    (λ r. kids_present p level present rest next.slot next.bound high h.quads_right h.slots_right h.right s r)
    (among_either s h.slots_left h.slots_right (subst (λ (ss : List Slot). Among s ss) h.all_slots here))

pub reaches_pages : ReachesPages
reaches_pages p zero slot low high quads slots h s here =
    ⊎_elim (λ e. some_page p slot _ s h.page e) (λ no. absurd no) (subst (λ (ss : List Slot). Among s ss) h.reached here)
reaches_pages p (suc level) slot low high quads slots h s here =
    ⊎_elim
    (λ e. some_page p slot _ s h.page e)
    (λ more. kids_present p level (reaches_pages p level) h.rest h.first low high quads h.below h.kids s more)
    (subst (λ (ss : List Slot). Among s ss) h.reached here)

-- ---- uniqueness

-- one slot holds one page
same_content : (p : PageMap) (slot : Slot) (a b : Content) → Holds p slot a → Holds p slot b → a ≡ b
same_content p slot a b h k =
    let same : Some h.bytes ≡ Some k.bytes = sym h.held ∙ k.held in
    let bytes : h.bytes ≡ k.bytes = cc in
    one_content k.bytes a b (subst (λ (xs : List ℕ). Spells a xs) bytes h.spelled) k.spelled

-- the parts of a cell, to read them back from an equation of cells
quad_of : Entry → Quad
quad_of e = record { key = e.key; birth = e.birth; death = death_of e.body; value = value_of e.body }
  where
    death_of : Body → ℕ
    death_of (Carries death value) = death
    death_of (Leads child) = 0

    value_of : Body → List ℕ
    value_of (Carries death value) = value
    value_of (Leads child) = []

slot_of : Entry → Slot
slot_of e = where_to e.body
  where
    where_to : Body → Slot
    where_to (Carries death value) = root
    where_to (Leads child) = child

child_of : Entry → Child
child_of e = record { bound = record { key = e.key; birth = e.birth }; slot = slot_of e }

back_quads : (quads : List Quad) → map quad_of (map quad_cell quads) ≡ quads
unfolding quad_of
back_quads [] = refl
back_quads (q ∷ qs) = ap (λ (xs : List Quad). q ∷ xs) (back_quads qs)

back_children : (rest : List Child) → map child_of (map child_cell rest) ≡ rest
unfolding child_of slot_of
back_children [] = refl
back_children (c ∷ cs) = ap (λ (xs : List Child). c ∷ xs) (back_children cs)

same_quads : (quads quads' : List Quad) → map quad_cell quads ≡ map quad_cell quads' → quads ≡ quads'
same_quads quads quads' e =
    sym (back_quads quads) ∙ (ap (λ (cells : List Entry). map quad_of cells) e ∙ back_quads quads')

-- the first child and the others
record Children : Type 0 where
  first : Slot
  rest : List Child

cells_of_children : Children → List Entry
cells_of_children c = inner_entry [] 0 c.first ∷ map child_cell c.rest

children_of : List Entry → Children
children_of [] = record { first = root; rest = [] }
children_of (e ∷ es) = record { first = slot_of e; rest = map child_of es }

back_all : (c : Children) → children_of (cells_of_children c) ≡ c
unfolding children_of cells_of_children slot_of
back_all c = ap (λ (rest : List Child). let made : Children = record { first = c.first; rest = rest } in made)
    (back_children c.rest)

same_children : (c d : Children) → cells_of_children c ≡ cells_of_children d → c ≡ d
same_children c d e = sym (back_all c) ∙ (ap (λ (cells : List Entry). children_of cells) e ∙ back_all d)

-- two readings of the same children
abbrev Same : List Quad → List Quad → List Slot → List Slot → Type 0
Same quads quads' slots slots' = (quads ≡ quads') × (slots ≡ slots')

both_lists : (a a' b b' : List Quad) → a ≡ a' → b ≡ b' → a ++ b ≡ a' ++ b'
both_lists a a' b b' p q = ap (λ (x : List Quad). x ++ b) p ∙ ap (λ (x : List Quad). a' ++ x) q

both_slots : (a a' b b' : List Slot) → a ≡ a' → b ≡ b' → a ++ b ≡ a' ++ b'
both_slots a a' b b' p q = ap (λ (x : List Slot). x ++ b) p ∙ ap (λ (x : List Slot). a' ++ x) q

kids_same : (p : PageMap) (level : ℕ) (same : (slot : Slot) (low : Bound) (high : Option Bound) (quads quads' : List Quad)
    (slots slots' : List Slot)
    → Subtree p level slot low high quads slots → Subtree p level slot low high quads' slots' → Same quads quads' slots slots')
    (rest : List Child) (first : Slot) (low : Bound) (high : Option Bound) (quads quads' : List Quad) (slots slots' : List Slot)
    → Kids (Subtree p level) first low rest high quads slots → Kids (Subtree p level) first low rest high quads' slots'
    → Same quads quads' slots slots'
kids_same p level same [] first low high quads quads' slots slots' h k = same first low high quads quads' slots slots' h k
kids_same p level same (next ∷ rest) first low high quads quads' slots slots' h k =
    let l = same first low (Some next.bound) h.quads_left k.quads_left h.slots_left k.slots_left h.left k.left in
    let r = kids_same p level same rest next.slot next.bound high h.quads_right k.quads_right h.slots_right k.slots_right h.right
    k.right in (
      h.all_quads ∙ (both_lists h.quads_left k.quads_left h.quads_right k.quads_right l.0 r.0 ∙ sym k.all_quads),
      h.all_slots ∙ (both_slots h.slots_left k.slots_left h.slots_right k.slots_right l.1 r.1 ∙ sym k.all_slots),
    )

subtrees_same : (p : PageMap) (level : ℕ) (slot : Slot) (low : Bound) (high : Option Bound) (quads quads' : List Quad)
    (slots slots' : List Slot)
    → Subtree p level slot low high quads slots → Subtree p level slot low high quads' slots' → Same quads quads' slots slots'
unfolding cells_of_children
subtrees_same p zero slot low high quads quads' slots slots' h k =
    let cells : map quad_cell quads ≡ map quad_cell quads' = ap (λ (c : Content). c.cells) (same_content p slot _ _ h.page k.page)
    in
    (same_quads quads quads' cells, h.reached ∙ sym k.reached)
subtrees_same p (suc level) slot low high quads quads' slots slots' h k =
    let c : Children = record { first = h.first; rest = h.rest } in
    let d : Children = record { first = k.first; rest = k.rest } in
    let cells : cells_of_children c ≡ cells_of_children d = ap (λ (x : Content). x.cells) (same_content p slot _ _ h.page k.page)
    in
    let is : d ≡ c = sym (same_children c d cells) in
    let kids : Kids (Subtree p level) h.first low h.rest high quads' k.below =
    subst (λ (x : Children). Kids (Subtree p level) x.first low x.rest high quads' k.below) is k.kids in
    let both = kids_same p level (subtrees_same p level) h.rest h.first low high quads quads' h.below k.below h.kids kids in
    (both.0, h.reached ∙ (ap (λ (ss : List Slot). slot ∷ ss) both.1 ∙ sym k.reached))

-- the content of the root says its level
root_content : (p : PageMap) (level : ℕ) (slot : Slot) (low : Bound) (high : Option Bound) (quads : List Quad) (slots : List Slot)
    → Subtree p level slot low high quads slots → (cells : List Entry) × Holds p slot (record { level = level; cells = cells })
root_content p zero slot low high quads slots h = (map quad_cell quads, h.page)
root_content p (suc level) slot low high quads slots h = (inner_entry [] 0 h.first ∷ map child_cell h.rest, h.page)

pub one_list : HasOneList
one_list stores p quads quads' slots slots' h k =
    let a = root_content p h.level root least None quads slots h.tree in
    let b = root_content p k.level root least None quads' slots' k.tree in
    let level : k.level ≡ h.level = sym (ap (λ (c : Content). c.level) (same_content p root _ _ a.1 b.1)) in
    let tree : Subtree p h.level root least None quads' slots' =
    subst (λ (n : ℕ). Subtree p n root least None quads' slots') level k.tree in
    subtrees_same p h.level root least None quads quads' slots slots' h.tree tree
