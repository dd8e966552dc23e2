-- The way of a key and a birth down the pages: one step of it over what was read, and that a search finds
-- the record to which it leads.
use Rattle.std.proofs.Common.{◌≡◌, ◌≢◌, ⊎_elim, ℕ, zero, suc, ◌-◌, ◌<◌, ◌≤◌, true, false, List, [], ◌∷◌, map, length, Option}
use Rattle.std.proofs.Common.{Some, None, unwrap_or, is_some, Result, Ok, Err, refl, sym, ap, subst, ◌∙◌, arith}
use Rattle.std.specs.Prelude.{Contains, slice_get, ◌==◌, IfOk}
use Rattle.std.proofs.lemmas.Bool.{cases_lt}
use Rattle.std.proofs.lemmas.Cmp.{tied_itself}
use Rattle.std.proofs.lemmas.List.Elements.{Contains-append_left, Contains-append_right}
use Rattle.std.specs.declared.cmp.Ordering.{Ordering}
use Rattle.std.specs.declared.cmp.Ordering.TheVariants.{Less, Equal}
use Rattle.pair_types.specs.declared.slot.Slot.{Slot}
use Rattle.pair_types.specs.declared.quad.Quad.{Quad}
use Rattle.pair_types.specs.declared.fault.PairFault.{PairFault}
use Rattle.pair_types.specs.PageMaps.{PageMap, ReadMap, Agrees, Extends, laid, over, page_of}
use Rattle.pair_types.specs.PageState.{PageState, Reads}
use Rattle.btree_page.specs.Content.{Bound, bound_cmp, Entry, Content, Spells, AreCells, inner_entry, Leads}
use Rattle.btree_page.specs.Tree.{Holds, quad_bound, quad_cell, Child, child_cell, Kids, Subtree, root, least}
use Rattle.btree_search.specs.declared.aim.Aim.{Aim}
use Rattle.btree_search.specs.declared.aim.Aim.TheVariants.{AtOrAfter, After}
use Rattle.btree_search.specs.Aim.{is_sought}
use Rattle.btree_search.specs.Find.{seeks, BeginsAt}
use Rattle.btree_search.specs.Found.{OnlyReads}
use Rattle.btree_search.specs.Walk.{IsShown, LeadsAt, IsFirst, IsChildPage}
use Rattle.btree_search.specs.Way.{EndsAt, GoesDown, Goes, FindsMet, FindsFrom, MeetsRecords}
use Rattle.btree_search.proofs.Order.{bound_total, cells_rise}
use Rattle.btree_search.proofs.Ranges.{root_page}
use Rattle.btree_search.proofs.Leaves.{same_quad, among_cells, within_list}
use Rattle.btree_search.proofs.Walks.{one_child, told, agrees_before, same_content}

-- ---- pages that were read

-- the empty text is no page
pub no_page : (content : Content) (bytes : List ℕ) → Spells content bytes → bytes ≡ [] → ⊥
no_page content bytes h is = no_cons _ _ (h.text ∙ is)
  where
    no_cons : (x : ℕ) (xs : List ℕ) → x ∷ xs ≡ [] → ⊥
    no_cons x xs e = cc

-- a page that is read so lies in a store
pub shown_within : (a b : PageState) (slot : Slot) (page : List ℕ) (least most : ℕ) (content : Content) → Reads a b slot page
    → IsShown least most page content → slot.store < a.stores
shown_within a b slot page least most content reads shown =
    ⊎_elim (λ lt. lt) (λ le. absurd (no_page content page shown.spelled (reads.beyond le).0)) (cases_lt slot.store a.stores)

-- each map that agrees has the page that was read
pub page_held : (a b : PageState) (slot : Slot) (page : List ℕ) (least most : ℕ) (content : Content) (under : PageMap)
    → Reads a b slot page → IsShown least most page content → Agrees b.reads under
    → Holds (over b.writes under) slot content
page_held a b slot page least most content under reads shown agrees =
    let within = shown_within a b slot page least most content reads shown in
    let learns = reads.learns within in
    let is : under slot ≡ unwrap_or (b.reads slot) None = agrees.at slot _ (told (b.reads slot) learns.known) in
    let same : page ≡ page_of (over b.writes under slot) = reads.latest within
    ∙ ap (λ (held : Option (List ℕ)). page_of (laid (b.writes slot) held)) (sym is) in
    by_case (over b.writes under slot) refl same
  where
    by_case : (o : Option (List ℕ)) → over b.writes under slot ≡ o → page ≡ page_of o → Holds (over b.writes under) slot content
    by_case None there is = absurd (no_page content page shown.spelled is)
    by_case (Some bytes) there is = record {
      bytes = bytes;
      held = there;
      spelled =
          subst (λ (xs : List ℕ). Spells content xs) is shown.spelled;
    }

-- ---- one step of a way

-- the cells that are sought begin at one place
pub one_begin : (aim : Aim) (pair : Bound) (cells : List Entry) (n m : ℕ) → BeginsAt aim pair cells n → BeginsAt aim pair cells m
    → n ≡ m
one_begin aim pair cells n m h k = ⊎_elim
    (λ lt. absurd (apart n m h k lt))
    (λ le. ⊎_elim (λ gt. absurd (apart m n k h gt)) (λ ge. omega arith) (cases_lt m n))
    (cases_lt n m)
  where
    at : (es : List Entry) (i : ℕ) → i < length es → (e : Entry) × (slice_get es i ≡ Some e)
    at [] i lt = absurd (omega arith)
    at (e ∷ es) zero lt = (e, refl)
    at (e ∷ es) (suc i) lt = at es i (omega arith)

    apart : (i j : ℕ) → BeginsAt aim pair cells i → BeginsAt aim pair cells j → i < j → ⊥
    apart i j a b lt =
        let x = at cells i (omega (arith, b.within)) in
        let no : seeks aim pair x.0 ≡ false = b.before i lt x.0 x.1 in
        let yes : seeks aim pair x.0 ≡ true = a.after i (omega arith) x.0 x.1 in cc

-- the child of a page was read: over each map that agrees, the way goes on there and nowhere else
pub record Stepped (writes : PageMap) (reads : ReadMap) (pair : Bound) (content below : Content) : Type 0 where
  pub down : (under : PageMap) → Agrees reads under → (q : Quad) → Goes (over writes under) pair content.level content.cells q
      → Goes (over writes under) pair below.level below.cells q
  pub up : (under : PageMap) → Agrees reads under → (q : Quad) → Goes (over writes under) pair below.level below.cells q
      → Goes (over writes under) pair content.level content.cells q

pub step : (a b : PageState) (reads : ReadMap) (pair : Bound) (content below : Content) (past i : ℕ) (slot : Slot) (page : List ℕ)
    → content.level ≢ 0 → BeginsAt After pair content.cells past → i ≡ past - 1 → LeadsAt content.cells i slot
    → Reads a b slot page → Extends b.reads reads
    → IsShown (content.level - 1) (content.level - 1) page below → Stepped b.writes reads pair content below
step a b reads pair content below past i slot page inner begins at leads read extends shown = record {
  down = λ under agrees q goes.
      let p = over b.writes under in
      let h : GoesDown (Goes p pair (content.level - 1)) p (content.level - 1) pair content.cells q =
      subst (λ (n : ℕ). Goes p pair n content.cells q) above goes in
      let place : h.past - 1 ≡ i = ap (λ (n : ℕ). n - 1) (one_begin After pair content.cells h.past past h.begins begins)
      ∙ sym at in
      let child : h.child ≡ slot = one_child content.cells i h.child slot (subst (λ (n : ℕ). LeadsAt content.cells n h.child)
      place h.leads) leads in
      let there : Holds p slot (record { level = content.level - 1; cells = h.below }) =
      subst (λ (s : Slot). Holds p s (record { level = content.level - 1; cells = h.below })) child h.page in
      let one : record { level = content.level - 1; cells = h.below } ≡ below =
      same_content p slot _ below there (held under agrees) in
      subst (λ (c : Content). Goes p pair c.level c.cells q) one h.goes;
  up = λ under agrees q goes.
      let p = over b.writes under in
      let h : GoesDown (Goes p pair (content.level - 1)) p (content.level - 1) pair content.cells q = record {
        past = past;
        begins = begins;
        child = slot;
        leads = subst (λ (n : ℕ). LeadsAt content.cells n slot) at leads;
        below = below.cells;
        page = subst (λ (n : ℕ). Holds p slot (record { level = n; cells = below.cells })) on (held under agrees);
        goes = subst (λ (n : ℕ). Goes p pair n below.cells q) on goes;
      } in
      subst (λ (n : ℕ). Goes p pair n content.cells q) (sym above) h;
}
  where
    above : content.level ≡ suc (content.level - 1)
    above = omega (arith, inner)

    on : below.level ≡ content.level - 1
    on = omega (arith, shown.from, shown.to)

    held : (under : PageMap) → Agrees reads under → Holds (over b.writes under) slot below
    held under agrees = page_held a b slot page _ _ below under read shown (agrees_before b.reads reads under extends agrees)

-- ---- a search

equal_sought : (pair : Bound) (b : Bound) → b ≡ pair → is_sought AtOrAfter (bound_cmp b pair) ≡ true
equal_sought pair b is =
    let same : bound_cmp b pair ≡ Equal = ap (λ (x : Bound). bound_cmp x pair) is ∙ tied_itself bound_total pair in
    ap (λ (o : Ordering). is_sought AtOrAfter o) same

-- at a leaf
pub leaf_finds : (aim : Aim) (pair : Bound) (state : PageState) (content : Content) (found : Option Quad) → content.level ≡ 0
    → AreCells (content.level == 0) None content.cells
    → IsFirst aim pair content.cells found → FindsFrom aim pair state content found
leaf_finds After pair state content found leaf rules first = tt
leaf_finds AtOrAfter pair state content found leaf rules first = λ under agrees q goes.
    ends found first q (subst (λ (n : ℕ). Goes (over state.writes under) pair n content.cells q) leaf goes)
  where
    not_before : (n k : ℕ) (q : Quad) → BeginsAt AtOrAfter pair content.cells n → k < n
        → slice_get content.cells k ≡ Some (quad_cell q) → quad_bound q ≡ pair → ⊥
    not_before n k q h lt there place =
        let no : seeks AtOrAfter pair (quad_cell q) ≡ false = h.before k lt (quad_cell q) there in
        let yes = equal_sought pair (quad_bound q) place in cc

    ends : (found : Option Quad) → IsFirst AtOrAfter pair content.cells found → (q : Quad) → EndsAt pair content.cells q
        → found ≡ Some q
    ends None h q e = absurd (not_before h.0 e.at q h.1 (omega (arith, h.2, within_list content.cells e.at (quad_cell q) e.there))
        e.there e.place)
    ends (Some r) h q e = ⊎_elim
        (λ lt. absurd (not_before h.0 e.at q h.1 lt e.there e.place))
        (λ le. ⊎_elim (λ gt. absurd (behind gt)) (λ ge. same (omega arith)) (cases_lt h.0 e.at))
        (cases_lt e.at h.0)
      where
        -- the first sought cell is not below the pair
        behind : h.0 < e.at → ⊥
        behind lt =
            let below : bound_cmp (quad_bound r) (quad_bound q) ≡ Less = cells_rise (content.level == 0) None content.cells h.0
            e.at (quad_cell r) (quad_cell q) rules lt h.2 e.there in
            let yes : seeks AtOrAfter pair (quad_cell r) ≡ true = h.1.after h.0 (omega arith) (quad_cell r) h.2 in
            let no : is_sought AtOrAfter (bound_cmp (quad_bound r) pair) ≡ false =
            subst (λ (b : Bound). is_sought AtOrAfter (bound_cmp (quad_bound r) b) ≡ false) e.place
            (ap (λ (o : Ordering). is_sought AtOrAfter o) below) in cc

        same : e.at ≡ h.0 → Some r ≡ Some q
        same is =
            let there : slice_get content.cells h.0 ≡ Some (quad_cell q) =
            subst (λ (n : ℕ). slice_get content.cells n ≡ Some (quad_cell q)) is e.there in
            let cell : quad_cell r ≡ quad_cell q = cc in ap (λ (x : Quad). Some x) (same_quad r q cell)

pub leaf_finds_any : (aim : Aim) (pair : Bound) (state : PageState) (content : Content) (result : Result (Option Quad) PairFault)
    → content.level ≡ 0 → AreCells (content.level == 0) None content.cells
    → IfOk result (λ found. IsFirst aim pair content.cells found) → IfOk result (λ found. FindsFrom aim pair state content found)
leaf_finds_any aim pair state content (Ok found) leaf rules h = leaf_finds aim pair state content found leaf rules h
leaf_finds_any aim pair state content (Err fault) leaf rules h = tt

-- what was found by what was read before is found by what is read later
pub finds_later : (aim : Aim) (pair : Bound) (a b : PageState) (content : Content) (found : Option Quad) → OnlyReads a b
    → FindsFrom aim pair a content found → FindsFrom aim pair b content found
finds_later After pair a b content found only h = tt
finds_later AtOrAfter pair a b content found only h = λ under agrees q goes.
    h under (agrees_before a.reads b.reads under only.extends agrees) q
    (subst (λ (w : PageMap). Goes (over w under) pair content.level content.cells q) only.writes goes)

-- along an inner page, before this index no way leads to a record
pub record Unmet (aim : Aim) (pair : Bound) (state : PageState) (content : Content) (i : ℕ) : Type 0 where
  pub since : (n : ℕ) → BeginsAt After pair content.cells n → n - 1 ≤ i
  pub none : (n : ℕ) → BeginsAt After pair content.cells n → n - 1 < i → FindsFrom aim pair state content None

pub unmet_first : (aim : Aim) (pair : Bound) (state : PageState) (content : Content) (past i : ℕ)
    → BeginsAt After pair content.cells past → i ≡ past - 1 → Unmet aim pair state content i
unmet_first aim pair state content past i begins at = record {
  since = λ n h. omega (arith, at, one_begin After pair content.cells n past h begins);
  none = λ n h lt. absurd (omega (arith, at, lt, one_begin After pair content.cells n past h begins));
}

pub unmet_later : (aim : Aim) (pair : Bound) (a b : PageState) (content : Content) (i : ℕ) → OnlyReads a b
    → Unmet aim pair a content i → Unmet aim pair b content i
unmet_later aim pair a b content i only h =
    record { since = h.since; none = λ n begins lt. finds_later aim pair a b content None only (h.none n begins lt) }

-- what the search below a child finds is what it finds below the page
pub finds_child : (aim : Aim) (pair : Bound) (b c d : PageState) (content below : Content) (i : ℕ) (page : List ℕ)
    (found : Option Quad) → content.level ≢ 0
    → Unmet aim pair b content i → OnlyReads b c → IsChildPage b c content.cells i page → OnlyReads c d
    → IsShown (content.level - 1) (content.level - 1) page below
    → FindsFrom aim pair d below found → FindsFrom aim pair d content found
finds_child After pair b c d content below i page found inner u first read later shown finds = tt
finds_child AtOrAfter pair b c d content below i page found inner u first read later shown finds = λ under agrees q goes.
    let p = over d.writes under in
    let h : GoesDown (Goes p pair (content.level - 1)) p (content.level - 1) pair content.cells q =
    subst (λ (n : ℕ). Goes p pair n content.cells q) above goes in
    ⊎_elim
    (λ lt. absurd (none_some q None refl (finds_later AtOrAfter pair c d content None later
    (finds_later AtOrAfter pair b c content None first (u.none h.past h.begins lt)) under agrees q goes)))
    (λ le.
    let at : i ≡ h.past - 1 = omega (arith, le, u.since h.past h.begins) in
    let s = step b c d.reads pair content below h.past i read.slot page inner h.begins at read.leads read.reads later.extends
    shown in
    let there : Goes (over c.writes under) pair content.level content.cells q =
    subst (λ (w : PageMap). Goes (over w under) pair content.level content.cells q) later.writes goes in
    finds under agrees q (subst (λ (w : PageMap). Goes (over w under) pair below.level below.cells q) (sym later.writes)
    (s.down under agrees q there)))
    (cases_lt (h.past - 1) i)
  where
    above : content.level ≡ suc (content.level - 1)
    above = omega (arith, inner)

    none_some : (q : Quad) (o : Option Quad) → o ≡ None → o ≡ Some q → ⊥
    none_some q o none e = cc

pub unmet_next : (aim : Aim) (pair : Bound) (b c d : PageState) (content below : Content) (i n : ℕ) (page : List ℕ)
    (found : Option Quad) → content.level ≢ 0
    → Unmet aim pair b content i → OnlyReads b c → IsChildPage b c content.cells i page → OnlyReads c d
    → IsShown (content.level - 1) (content.level - 1) page below
    → FindsFrom aim pair d below found → is_some found ≡ false → n ≡ suc i → Unmet aim pair d content n
unmet_next aim pair b c d content below i n page (Some q) inner u first read later shown finds none is = absurd cc
unmet_next aim pair b c d content below i n page None inner u first read later shown finds none is = record {
  since = λ m h. omega (arith, is, u.since m h);
  none = λ m h lt. finds_child aim pair b c d content below i page None inner u first read later shown finds;
}

pub unmet_ends : (aim : Aim) (pair : Bound) (state : PageState) (content : Content) (i : ℕ) → content.level ≢ 0
    → length content.cells ≤ i → Unmet aim pair state content i
    → FindsFrom aim pair state content None
unmet_ends After pair state content i inner le u = tt
unmet_ends AtOrAfter pair state content i inner le u = λ under agrees q goes.
    let p = over state.writes under in
    let h : GoesDown (Goes p pair (content.level - 1)) p (content.level - 1) pair content.cells q =
    subst (λ (n : ℕ). Goes p pair n content.cells q) above goes in
    u.none h.past h.begins (omega (arith, le, within_list content.cells (h.past - 1) h.leads.cell h.leads.there)) under agrees q
    goes
  where
    above : content.level ≡ suc (content.level - 1)
    above = omega (arith, inner)

-- from the root
pub finds_in_tree : (pair : Bound) (old mid new : PageState) (page : List ℕ) (content : Content)
    (result : Result (Option Quad) PairFault) → Reads old mid root page → IsShown 0 64 page content
    → OnlyReads mid new → IfOk result (λ found. FindsFrom AtOrAfter pair new content found)
    → IfOk result (λ found. FindsMet pair new found)
finds_in_tree pair old mid new page content (Err fault) reads shown only h = tt
finds_in_tree pair old mid new page content (Ok found) reads shown only h = λ under agrees q meets.
    let held = page_held old mid root page 0 64 content under reads shown (agrees_before mid.reads new.reads under only.extends
    agrees) in
    let there : Holds (over new.writes under) root content = subst (λ (w : PageMap). Holds (over w under) root content)
    (sym only.writes) held in
    let one : meets.top ≡ content = same_content (over new.writes under) root meets.top content meets.held there in
    h under agrees q (subst (λ (c : Content). Goes (over new.writes under) pair c.level c.cells q) one meets.goes)

-- ---- in a tree

-- the child to which a cell leads has some of the records
record Kid (p : PageMap) (level : ℕ) (child : Slot) (quads : List Quad) : Type 0 where
  low : Bound
  high : Option Bound
  here : List Quad
  slots : List Slot
  tree : Subtree p level child low high here slots
  among : (q : Quad) → Contains here q → Contains quads q

kid_at : (p : PageMap) (level : ℕ) (rest : List Child) (first : Slot) (low : Bound) (high : Option Bound) (quads : List Quad)
    (slots : List Slot) (key : List ℕ) (birth i : ℕ) (child : Slot)
    → Kids (Subtree p level) first low rest high quads slots → LeadsAt (inner_entry key birth first ∷ map child_cell rest) i child
    → Kid p level child quads
kid_at p level rest first low high quads slots key birth zero child kids leads =
    let cell : inner_entry key birth first ≡ leads.cell = cc in
    let body : Leads first ≡ Leads child = ap (λ (e : Entry). e.body) cell ∙ leads.leads in
    let is : first ≡ child = cc in
    first_kid rest kids is
  where
    first_kid : (rest : List Child) → Kids (Subtree p level) first low rest high quads slots → first ≡ child
        → Kid p level child quads
    first_kid [] kids is = record {
      low = low;
      high = high;
      here = quads;
      slots = slots;
      tree =
          subst (λ (s : Slot). Subtree p level s low high quads slots) is kids;
      among = λ q h. h;
    }
    first_kid (next ∷ rest) kids is = record {
      low = low;
      high = Some next.bound;
      here = kids.quads_left;
      slots = kids.slots_left;
      tree = subst (λ (s : Slot). Subtree p level s low (Some next.bound) kids.quads_left kids.slots_left) is kids.left;
      among = λ q h. subst (λ (qs : List Quad). Contains qs q) (sym kids.all_quads)
          (Contains-append_left kids.quads_left kids.quads_right q h);
    }
kid_at p level [] first low high quads slots key birth (suc i) child kids leads =
    let there = leads.there in absurd cc
kid_at p level (next ∷ rest) first low high quads slots key birth (suc i) child kids leads =
    let k = kid_at p level rest next.slot next.bound high kids.quads_right kids.slots_right next.bound.key next.bound.birth i
    child kids.right
    (record { cell = leads.cell; there = leads.there; leads = leads.leads }) in
    record {
      low = k.low;
      high = k.high;
      here = k.here;
      slots = k.slots;
      tree = k.tree;
      among = λ q h. subst (λ (qs : List Quad). Contains qs q) (sym kids.all_quads)
          (Contains-append_right kids.quads_left kids.quads_right q (k.among q h));
    }

goes_among : (p : PageMap) (pair : Bound) (level : ℕ) (slot : Slot) (low : Bound) (high : Option Bound) (quads : List Quad)
    (slots : List Slot) (cells : List Entry) (q : Quad)
    → Subtree p level slot low high quads slots → Holds p slot (record { level = level; cells = cells })
    → Goes p pair level cells q → (quad_bound q ≡ pair) × Contains quads q
goes_among p pair zero slot low high quads slots cells q tree held goes =
    let is : cells ≡ map quad_cell quads = ap (λ (c : Content). c.cells) (same_content p slot _ _ held tree.page) in (
      goes.place,
      among_cells quads goes.at q (subst (λ (es : List Entry). slice_get es goes.at ≡ Some (quad_cell q)) is
          goes.there),
    )
goes_among p pair (suc level) slot low high quads slots cells q tree held goes =
    let is : cells ≡ inner_entry [] 0 tree.first ∷ map child_cell tree.rest =
    ap (λ (c : Content). c.cells) (same_content p slot _ _ held tree.page) in
    let k = kid_at p level tree.rest tree.first low high quads tree.below [] 0 (goes.past - 1) goes.child tree.kids
    (subst (λ (es : List Entry). LeadsAt es (goes.past - 1) goes.child) is goes.leads) in
    let more = goes_among p pair level goes.child k.low k.high k.here k.slots goes.below q k.tree goes.page goes.goes in
    (more.0, k.among q more.1)

pub meets_records : MeetsRecords
meets_records stores p quads slots formed pair q meets =
    let top = root_page p formed.level root least None quads slots formed.tree in
    let one : meets.top ≡ record { level = formed.level; cells = top.0 } = same_content p root meets.top _ meets.held top.1 in
    goes_among p pair formed.level root least None quads slots top.0 q formed.tree top.1
    (subst (λ (c : Content). Goes p pair c.level c.cells q) one meets.goes)
