-- The child of an inner page into whose range a key and a birth fall, between its siblings.
use Rattle.std.proofs.Common.{◌≡◌, ◌≢◌, ◌⊎◌, ⊎_elim, inl, inr, ℕ, zero, suc, ◌<◌, ◌≤◌, true, false, List, [], ◌∷◌, ◌++◌, map}
use Rattle.std.proofs.Common.{length, take, drop, Option, Some, IsSome, refl, sym, ap, subst, ◌∙◌, arith, append_assoc}
use Rattle.std.specs.Prelude.{All, slice_get}
use Rattle.std.specs.declared.cmp.Ordering.{Ordering}
use Rattle.std.specs.declared.cmp.Ordering.TheVariants.{Less, Equal, Greater}
use Rattle.std.proofs.lemmas.List.{append-nil}
use Rattle.std.proofs.lemmas.List.Elements.{All-nil, All-append, All-weaker}
use Rattle.pair_types.specs.declared.slot.Slot.{Slot}
use Rattle.pair_types.specs.declared.quad.Quad.{Quad}
use Rattle.pair_types.specs.PageMaps.{PageMap}
use Rattle.btree_page.specs.Content.{Bound, bound_cmp, IsBelow, Entry, AreCells}
use Rattle.btree_page.specs.Tree.{IsIn, AllIn, Among, quad_bound, Child, child_cell, Kids, Subtree}
use Rattle.btree_page.proofs.Trees.{among_left, among_right, among_either, keeps_trees}
use Rattle.btree_search.specs.declared.aim.Aim.TheVariants.{After}
use Rattle.btree_search.specs.Aim.{is_sought}
use Rattle.btree_search.specs.Find.{seeks}
use Rattle.btree_search.proofs.Order.{bound_total, turned}
use Rattle.btree_search.proofs.Ranges.{below_from, upto, raised, subtree_in, kids_within, all_under, under_all}
use Rattle.btree_search.proofs.Parts.{not_both}
use Rattle.btree_edit.specs.Edits.{Lacks}
use Rattle.btree_edit.proofs.Opened.{kids_keep, kids_present}

-- the bounds up to this index lie at or below the pair, and the next one above it
abbrev pub Falls : Bound → ℕ → List Child → Type 0
Falls pair zero [] = Unit {0}
Falls pair zero (next ∷ rest) = IsBelow pair next.bound
Falls pair (suc i) [] = ⊥
Falls pair (suc i) (next ∷ rest) = (bound_cmp next.bound pair ≢ Greater) × Falls pair i rest

-- the low end and the high end of the range of a child
abbrev pub from_of : ℕ → List Child → Bound → Bound
from_of zero rest low = low
from_of (suc i) [] low = low
from_of (suc i) (next ∷ rest) low = from_of i rest next.bound

abbrev pub to_of : ℕ → List Child → Option Bound → Option Bound
to_of zero [] high = high
to_of zero (next ∷ rest) high = Some next.bound
to_of (suc i) [] high = high
to_of (suc i) (next ∷ rest) high = to_of i rest high

-- a slot of a sibling, before or behind
abbrev pub Beside : Slot → List Slot → List Slot → Type 0
Beside s ss ts = Among s ss ⊎ Among s ts

pub record Seat (p : PageMap) (level : ℕ) (pair : Bound) (i : ℕ) (rest : List Child) (first : Slot) (low : Bound)
    (high : Option Bound) (quads : List Quad) (slots : List Slot) : Type 0 where
  pub child : Slot
  pub from : Bound
  pub to : Option Bound
  pub before : List Quad
  pub here : List Quad
  pub after : List Quad
  pub slots_before : List Slot
  pub slots_here : List Slot
  pub slots_after : List Slot
  pub leads : slice_get (first ∷ map (λ c. c.slot) rest) i ≡ Some child
  pub tree : Subtree p level child from to here slots_here
  pub falls : IsIn from to pair
  pub all_quads : quads ≡ before ++ (here ++ after)
  pub all_slots : slots ≡ slots_before ++ (slots_here ++ slots_after)
  pub lacks_before : Lacks pair before
  pub lacks_after : Lacks pair after
  pub siblings : (s : Slot) → Beside s slots_before slots_after → IsSome (p s)
  pub apart : (s : Slot) → Beside s slots_before slots_after → Among s slots_here → ⊥
  pub from_is : from ≡ from_of i rest low
  pub to_is : to ≡ to_of i rest high
  pub widens : (b : Bound) → IsIn from to b → IsIn low high b
  -- children in place of this one, over pages where its siblings stay
  pub rebuild : (q : PageMap) (more : List Child) (here' : List Quad) (slots' : List Slot)
      → Kids (Subtree q level) child from more to here' slots'
      → ((s : Slot) → Beside s slots_before slots_after → q s ≡ p s)
      → ((s : Slot) → Beside s slots_before slots_after → Among s slots' → ⊥)
      → Kids (Subtree q level) first low (take i rest ++ (more ++ drop i rest)) high (before ++ (here' ++ after)) (slots_before
      ++ (slots' ++ slots_after))

-- ---- the parts

below_apart : (a b : Bound) → IsBelow a b → a ≢ b
below_apart a b below same =
    let itself : IsBelow b b = subst (λ (x : Bound). IsBelow x b) same below in not_both b b itself itself

lacks_above : (pair b : Bound) (high : Option Bound) (quads : List Quad) → IsBelow pair b → AllIn b high (map quad_bound quads)
    → Lacks pair quads
lacks_above pair b high quads below within =
    All-weaker (λ r. IsBelow pair (quad_bound r)) (λ r. quad_bound r ≢ pair) (λ r up. λ same. below_apart pair (quad_bound r) up
    (sym same)) quads (under_all pair b high quads below within)

lacks_under : (pair b : Bound) (quads : List Quad) → bound_cmp b pair ≢ Greater → All (λ r. IsBelow (quad_bound r) b) quads
    → Lacks pair quads
lacks_under pair b quads le under =
    All-weaker (λ r. IsBelow (quad_bound r) b) (λ r. quad_bound r ≢ pair) (λ r down. below_apart (quad_bound r) pair
    (below_from (quad_bound r) b pair down le)) quads under

kids_again : (q : PageMap) (level : ℕ) (first : Slot) (low : Bound) (high : Option Bound) (rest rest' : List Child)
    (quads quads' : List Quad) (slots slots' : List Slot)
    → rest ≡ rest' → quads ≡ quads' → slots ≡ slots' → Kids (Subtree q level) first low rest high quads slots
    → Kids (Subtree q level) first low rest' high quads' slots'
kids_again q level first low high rest rest' quads quads' slots slots' a b c h =
    subst (λ (cs : List Child). Kids (Subtree q level) first low cs high quads' slots') a
    (subst (λ (qs : List Quad). Kids (Subtree q level) first low rest high qs slots') b
    (subst (λ (ss : List Slot). Kids (Subtree q level) first low rest high quads ss) c h))

-- children side by side
pub join_kids : (q : PageMap) (level : ℕ) (more : List Child) (next : Child) (rest : List Child) (first : Slot) (low : Bound)
    (high : Option Bound) (xs ys : List Quad) (ss ts : List Slot)
    → Kids (Subtree q level) first low more (Some next.bound) xs ss → Kids (Subtree q level) next.slot next.bound rest high ys ts
    → ((s : Slot) → Among s ss → Among s ts → ⊥)
    → Kids (Subtree q level) first low (more ++ (next ∷ rest)) high (xs ++ ys) (ss ++ ts)
join_kids q level [] next rest first low high xs ys ss ts h k apart = record {
  quads_left = xs;
  quads_right = ys;
  slots_left = ss;
  slots_right = ts;
  left = h;
  right = k;
  all_quads = refl;
  all_slots = refl;
  apart = record { none = apart };
}
join_kids q level (m ∷ more) next rest first low high xs ys ss ts h k apart =
    let there : (s : Slot) → Among s (h.slots_left ++ h.slots_right) → Among s ts → ⊥ =
    subst (λ (us : List Slot). (s : Slot) → Among s us → Among s ts → ⊥) h.all_slots apart in
    record {
      quads_left = h.quads_left;
      quads_right = h.quads_right ++ ys;
      slots_left = h.slots_left;
      slots_right = h.slots_right ++ ts;
      left = h.left;
      right = join_kids q level more next rest m.slot m.bound high h.quads_right ys h.slots_right ts h.right k
          (λ s l r. there s (among_right s h.slots_left h.slots_right l) r);
      all_quads = ap (λ (us : List Quad). us ++ ys) h.all_quads ∙ append_assoc h.quads_left h.quads_right ys;
      all_slots = ap (λ (us : List Slot). us ++ ts) h.all_slots ∙ append_assoc h.slots_left h.slots_right ts;
      apart = record {
        none = λ s l r. ⊎_elim (λ mid. h.apart.none s l mid) (λ far. there s (among_left s h.slots_left h.slots_right l) far)
            (among_either s h.slots_right ts r);
      };
    }

-- ---- the seat

pub seat : (p : PageMap) (level : ℕ) (pair : Bound) (i : ℕ) (rest : List Child) (first : Slot) (low : Bound) (high : Option Bound)
    (quads : List Quad) (slots : List Slot) (b : Bound)
    → Kids (Subtree p level) first low rest high quads slots → AreCells false (Some b) (map child_cell rest)
    → AllIn low high (map (λ c. c.bound) rest)
    → IsIn low high pair → Falls pair i rest → Seat p level pair i rest first low high quads slots
seat p level pair zero [] first low high quads slots b h rules within falls at = record {
  child = first;
  from = low;
  to = high;
  before = [];
  here = quads;
  after = [];
  slots_before = [];
  slots_here = slots;
  slots_after = [];
  leads = refl;
  tree = h;
  falls = falls;
  all_quads = sym (append-nil quads);
  all_slots = sym (append-nil slots);
  lacks_before = All-nil (λ r. quad_bound r ≢ pair);
  lacks_after = All-nil (λ r. quad_bound r ≢ pair);
  siblings = λ s beside. ⊎_elim (λ n. absurd n) (λ n. absurd n) beside;
  apart = λ s beside here. ⊎_elim (λ n. n) (λ n. n) beside;
  from_is = refl;
  to_is = refl;
  widens = λ b h. h;
  rebuild = λ q more here' slots' kids same apart.
      kids_again q level first low high more (more ++ []) here' (here' ++ []) slots' (slots' ++ []) (sym (append-nil more))
      (sym (append-nil here')) (sym (append-nil slots')) kids;
}
seat p level pair zero (next ∷ rest) first low high quads slots b h rules within falls at = record {
  child = first;
  from = low;
  to = Some next.bound;
  before = [];
  here = h.quads_left;
  after = h.quads_right;
  slots_before = [];
  slots_here = h.slots_left;
  slots_after = h.slots_right;
  leads = refl;
  tree = h.left;
  falls = record { from = falls.from; to = λ end is. ended end is };
  all_quads = h.all_quads;
  all_slots = h.all_slots;
  lacks_before = All-nil (λ r. quad_bound r ≢ pair);
  lacks_after = lacks_above pair next.bound high h.quads_right at
      (kids_within p level rest next.slot next.bound high h.quads_right h.slots_right next.bound h.right rules.1.1
      (raised low next.bound high rest rules.1.1 within.1));
  siblings = λ s beside. ⊎_elim (λ n. absurd n) (λ r. kids_present p level rest next.slot next.bound high h.quads_right
      h.slots_right h.right s r) beside;
  apart = λ s beside here. ⊎_elim (λ n. n) (λ r. h.apart.none s here r) beside;
  from_is = refl;
  to_is = refl;
  widens = λ b k. record {
    from = k.from;
    to = λ end is. bound_total.trans b next.bound end (k.to next.bound refl)
        (within.0.to end is);
  };
  rebuild = λ q more here' slots' kids same apart.
      join_kids q level more next rest first low high here' h.quads_right slots' h.slots_right kids
      (kids_keep p q level rest next.slot next.bound high h.quads_right h.slots_right h.right (λ s r. same s (inr r)))
      (λ s l r. apart s (inr r) l);
}
  where
    ended : (end : Bound) → Some next.bound ≡ Some end → IsBelow pair end
    ended end is =
        let same : next.bound ≡ end = cc in subst (λ (x : Bound). IsBelow pair x) same at
seat p level pair (suc i) [] first low high quads slots b h rules within falls at = absurd at
seat p level pair (suc i) (next ∷ rest) first low high quads slots b h rules within falls at =
    let inner : IsIn next.bound high pair = record { from = at.0; to = falls.to } in
    let r = seat p level pair i rest next.slot next.bound high h.quads_right h.slots_right next.bound h.right rules.1.1
    (raised low next.bound high rest rules.1.1 within.1) inner at.1 in
    let left = all_under low next.bound h.quads_left (subtree_in p level first low (Some next.bound) h.quads_left h.slots_left
    h.left) in
    let right_of : (s : Slot) → Among s (r.slots_before ++ (r.slots_here ++ r.slots_after)) → Among s h.slots_right =
    λ s there. subst (λ (ss : List Slot). Among s ss) (sym r.all_slots) there in
    let in_before : (s : Slot) → Among s r.slots_before → Among s h.slots_right =
    λ s there. right_of s (among_left s r.slots_before (r.slots_here ++ r.slots_after) there) in
    let in_here : (s : Slot) → Among s r.slots_here → Among s h.slots_right =
    λ s there. right_of s (among_right s r.slots_before (r.slots_here ++ r.slots_after)
    (among_left s r.slots_here r.slots_after there)) in
    let in_after : (s : Slot) → Among s r.slots_after → Among s h.slots_right =
    λ s there. right_of s (among_right s r.slots_before (r.slots_here ++ r.slots_after)
    (among_right s r.slots_here r.slots_after there)) in
    record {
      child = r.child;
      from = r.from;
      to = r.to;
      before = h.quads_left ++ r.before;
      here = r.here;
      after = r.after;
      slots_before = h.slots_left ++ r.slots_before;
      slots_here = r.slots_here;
      slots_after = r.slots_after;
      leads = r.leads;
      tree = r.tree;
      falls = r.falls;
      all_quads = h.all_quads ∙ (ap (λ (qs : List Quad). h.quads_left ++ qs) r.all_quads
          ∙ sym (append_assoc h.quads_left r.before (r.here ++ r.after)));
      all_slots = h.all_slots ∙ (ap (λ (ss : List Slot). h.slots_left ++ ss) r.all_slots
          ∙ sym (append_assoc h.slots_left r.slots_before (r.slots_here ++ r.slots_after)));
      lacks_before = All-append (λ r. quad_bound r ≢ pair) h.quads_left r.before
          (lacks_under pair next.bound h.quads_left at.0 left) r.lacks_before;
      lacks_after = r.lacks_after;
      siblings = λ s beside. ⊎_elim
          (λ l. ⊎_elim
          (λ here. kids_present p level [] first low (Some next.bound) h.quads_left h.slots_left h.left s here)
          (λ there. r.siblings s (inl there))
          (among_either s h.slots_left r.slots_before l))
          (λ there. r.siblings s (inr there))
          beside;
      apart = λ s beside here. ⊎_elim
          (λ l. ⊎_elim (λ near. h.apart.none s near (in_here s here)) (λ there. r.apart s (inl there) here)
          (among_either s h.slots_left r.slots_before l))
          (λ there. r.apart s (inr there) here)
          beside;
      from_is = r.from_is;
      to_is = r.to_is;
      widens = λ b k. let wide = r.widens b k in record { from = upto low next.bound b within.0.from wide.from; to = wide.to };
      rebuild = λ q more here' slots' kids same apart.
          let near : (s : Slot) → Among s h.slots_left → Beside s (h.slots_left ++ r.slots_before) r.slots_after =
          λ s l. inl (among_left s h.slots_left r.slots_before l) in
          let wider : (s : Slot) → Beside s r.slots_before r.slots_after
          → Beside s (h.slots_left ++ r.slots_before) r.slots_after =
          λ s beside. ⊎_elim (λ l. inl (among_right s h.slots_left r.slots_before l)) (λ there. inr there) beside in
          record {
            quads_left = h.quads_left;
            quads_right = r.before ++ (here' ++ r.after);
            slots_left = h.slots_left;
            slots_right = r.slots_before ++ (slots' ++ r.slots_after);
            left = keeps_trees p q level first low (Some next.bound) h.quads_left h.slots_left h.left (λ s l. same s (near s l));
            right = r.rebuild q more here' slots' kids (λ s beside. same s (wider s beside))
                (λ s beside. apart s (wider s beside));
            all_quads = append_assoc h.quads_left r.before (here' ++ r.after);
            all_slots = append_assoc h.slots_left r.slots_before (slots' ++ r.slots_after);
            apart = record {
              none = λ s l there. ⊎_elim
                  (λ x. h.apart.none s l (in_before s x))
                  (λ x. ⊎_elim (λ y. apart s (near s l) y) (λ y. h.apart.none s l (in_after s y))
                  (among_either s slots' r.slots_after x))
                  (among_either s r.slots_before (slots' ++ r.slots_after) there);
            };
          };
    }

-- ---- where a pair falls

not_after : (o : Ordering) → is_sought After o ≡ false → o ≢ Greater
not_after Less e = λ f. cc
not_after Equal e = λ f. cc
not_after Greater e = absurd cc

is_after : (o : Ordering) → is_sought After o ≡ true → o ≡ Greater
is_after Less e = absurd cc
is_after Equal e = absurd cc
is_after Greater e = refl

pub falls_so : (pair : Bound) (i : ℕ) (rest : List Child) → i ≤ length rest
    → ((k : ℕ) → k < i → (e : Entry) → slice_get (map child_cell rest) k ≡ Some e → seeks After pair e ≡ false)
    → ((k : ℕ) → i ≤ k → (e : Entry) → slice_get (map child_cell rest) k ≡ Some e → seeks After pair e ≡ true)
    → Falls pair i rest
falls_so pair zero [] le low high = tt
falls_so pair zero (next ∷ rest) le low high =
    let up : bound_cmp next.bound pair ≡ Greater = is_after _ (high 0 (omega arith) (child_cell next) refl) in
    turned next.bound pair Greater up
falls_so pair (suc i) [] le low high = absurd (omega arith)
falls_so pair (suc i) (next ∷ rest) le low high = (
  not_after _ (low 0 (omega arith) (child_cell next) refl),
  falls_so pair i rest (omega arith)
      (λ k lt e there. low (suc k) (omega arith) e there) (λ k up e there. high (suc k) (omega arith) e there),
)
