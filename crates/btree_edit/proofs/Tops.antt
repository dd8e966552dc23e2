-- From the root page to the tree: what an edit below the root is of every tree.
use Rattle.std.proofs.Common.{◌≡◌, ◌≢◌, ◌⊎◌, ⊎_elim, inl, inr, ℕ, zero, suc, ◌+◌, ◌<◌, ◌≤◌, Bool, true, false, List, [], ◌∷◌}
use Rattle.std.proofs.Common.{◌++◌, Option, Some, None, IsSome, unwrap_or, Ok, Err, Result, refl, sym, ap, subst, ◌∙◌, arith}
use Rattle.std.proofs.Common.{add-one}
use Rattle.std.specs.Prelude.{IfOk, IfErr}
use Rattle.pair_types.specs.declared.slot.Slot.{Slot}
use Rattle.pair_types.specs.declared.quad.Quad.{Quad}
use Rattle.pair_types.specs.declared.fault.PageFault.{PageFault}
use Rattle.pair_types.specs.declared.fault.PairFault.{PairFault}
use Rattle.pair_types.specs.declared.fault.PairFault.TheVariants.{Odd, HeightFull, Page as PageGave}
use Rattle.pair_types.specs.PageMaps.{PageMap, Agrees, Extends, laid, over, latest, page_of}
use Rattle.pair_types.specs.PageState.{PageState, IsSound, Reads, Writes, Freshens, GivesUp}
use Rattle.btree_page.specs.Content.{Bound, Entry, Content, Spells, inner_entry}
use Rattle.btree_page.specs.Tree.{Holds, Among, Child, Kids, Subtree, quad_bound, root, least, IsFormed}
use Rattle.btree_page.proofs.Trees.{among_left, among_right, among_either, has_one_content}
use Rattle.btree_search.specs.Found.{OnlyReads, HasCause}
use Rattle.btree_search.specs.Walk.{InStores, IsShown}
use Rattle.btree_search.specs.Way.{Goes, Meets}
use Rattle.btree_search.proofs.Ways.{shown_within, page_held}
use Rattle.btree_search.proofs.Walks.{odd_cause, cause_later, agrees_before, page_there, some_of, same_content}
use Rattle.btree_edit.specs.declared.change.Change.{Change}
use Rattle.btree_edit.specs.declared.change.Change.TheVariants.{Remove, End, Replace, Insert}
use Rattle.btree_edit.specs.declared.outcome.Edited.TheVariants.{Missing, Below, Page, Two}
use Rattle.btree_edit.specs.Edits.{bound_at, Nothing}
use Rattle.btree_edit.specs.Edited.{Room, room_in, IsOpen, EditsTree, EditsIn, HadNoTree, GoesOn, RootStays, RootGrows, IsFull}
use Rattle.btree_edit.specs.Edited.{HasPutCause}
use Rattle.btree_edit.specs.Changes.{pair_of, edit_of, given_of, open_of}
use Rattle.btree_edit.specs.Below.{Bears, IsMet, Changed, IsNotMet, Grows, Finds, Divides, Parted, EditsBelow, PutsTwo}
use Rattle.btree_edit.specs.Roots.{Raises, FailsSo, TreeGrows, TreeMet, TreeStays, NeverGrows, MissesIn, PutsIn}
use Rattle.btree_edit.proofs.Least.{all_in}
use Rattle.btree_edit.proofs.Opened.{Seated, opened, closed, bears_keep, some_not_none, slot_cases}
use Rattle.btree_edit.proofs.Rebuilt.{not_open, some_held, reclosed, unread_before, changed_before, parted_before}
use Rattle.btree_edit.proofs.Grafts.{bears_present, unwritten_before, open_free}
use Rattle.btree_edit.proofs.States.{extends_learns, goes_only, goes_then, goes_write, goes_gives_up, over_put, in_stores_put}
use Rattle.btree_edit.proofs.States.{reads_latest}

-- the edit meets the root
pub record MetRoot (Given : List Quad → Type 0) (pair : Bound) (a b z : PageState) (content : Content) (under : PageMap)
    (quads : List Quad) (slots : List Slot) (page : List ℕ) : Type 0 where
  pub inner : Seated (over a.writes under) content.level root least None quads slots
  pub height : content.level ≤ 64
  pub is_page : over a.writes under root ≡ Some page
  pub met : IsMet Given pair b z content under least None quads inner.below

pub met_root : (Given : List Quad → Type 0) (pair : Bound) (a b z : PageState) (content : Content) (under : PageMap)
    (quads : List Quad) (slots : List Slot) (page : List ℕ)
    → Reads a b root page → IsShown 0 64 page content → GoesOn b z → Agrees z.reads under
    → IsFormed z.stores (over a.writes under) quads slots → Given quads
    → MetRoot Given pair a b z content under quads slots page
met_root Given pair a b z content under quads slots page reads shown goes agrees formed given =
    let p = over a.writes under in
    let top = opened p formed.level root least None quads slots formed.tree in
    let same = root_bytes top.page.bytes top.page.held in
    let spelled : Spells content top.page.bytes = subst (λ (xs : List ℕ). Spells content xs) same shown.spelled in
    let one : content ≡ record { level = formed.level; cells = top.cells } =
    has_one_content top.page.bytes content _ spelled top.page.spelled in
    let on : formed.level ≡ content.level = sym (ap (λ (c : Content). c.level) one) in
    let inner = opened p content.level root least None quads slots (subst (λ (n : ℕ). Subtree p n root least None quads slots) on
    formed.tree) in
    let here : content ≡ record { level = content.level; cells = inner.cells } =
    has_one_content inner.page.bytes content _ (subst (λ (xs : List ℕ). Spells content xs)
    (root_bytes inner.page.bytes inner.page.held) shown.spelled) inner.page.spelled in
    let bears : Bears p content.level content.cells least None quads inner.below =
    subst (λ (es : List Entry). Bears p content.level es least None quads inner.below) (sym (ap (λ (c : Content). c.cells) here))
    inner.bears in
    record {
      inner = inner;
      height = shown.to;
      is_page = subst (λ (xs : List ℕ). p root ≡ Some xs) (sym same) top.page.held;
      met = record {
        rules = shown.spelled.rules;
        agrees = agrees;
        in_stores = record {
          at = subst (λ (w : PageMap). (s : Slot) → IsSome (over w under s) → s.store < z.stores)
              (sym reads.writes) formed.in_range;
        };
        bears = subst (λ (w : PageMap). Bears (over w under) content.level content.cells least None quads inner.below)
            (sym reads.writes) bears;
        falls = all_in pair;
        given = given;
      };
    }
  where
    root_bytes : (bytes : List ℕ) → over a.writes under root ≡ Some bytes → page ≡ bytes
    root_bytes bytes held =
        let within : 0 < z.stores = formed.in_range root (some_of (over a.writes under root) bytes held) in
        page_there a b root page under bytes reads (agrees_before b.reads z.reads under goes.extends agrees)
        (omega (arith, within, goes.lasts.stores, reads.lasts.stores))
        (subst (λ (w : PageMap). over w under root ≡ Some bytes) (sym reads.writes) held)

-- where the root's page then lies in its slot, the tree is edited
tree_edited : (Edit : List Quad → List Quad → Type 0) (Given : List Quad → Type 0) (store : Option Room) (pair : Bound)
    (a b z : PageState) (content : Content) (under : PageMap) (quads : List Quad) (slots : List Slot) (page : List ℕ)
    (m : MetRoot Given pair a b z content under quads slots page) → b.writes ≡ a.writes
    → (stores : ℕ) (mid q : PageMap) (cells : List Entry) (page' : List ℕ)
    → Changed Edit store stores (over b.writes under) mid content.level cells least None quads m.inner.below
    → q root ≡ Some page' → Spells (record { level = content.level; cells = cells }) page' → ((t : Slot) → t ≢ root → q t ≡ mid t)
    → InStores stores q
    → EditsTree Edit store stores (over a.writes under) q quads slots
tree_edited Edit Given store pair a b z content under quads slots page m same stores mid q cells page' changed put spelled others
    in_stores =
    let there : Changed Edit store stores (over a.writes under) mid content.level cells least None quads m.inner.below =
    subst (λ (w : PageMap). Changed Edit store stores (over w under) mid content.level cells least None quads m.inner.below) same
    changed in
    let done = reclosed Edit store stores (over a.writes under) mid q content.level root least None quads slots m.inner cells
    page' there put spelled others in
    record {
      after = there.after;
      reached = root ∷ there.reached;
      edit = there.edit;
      formed = record { in_range = in_stores.at; level = content.level; height = m.height; tree = done.0 };
      frame = done.1;
    }

-- ---- the root was read

pub record WasRead (a b : PageState) (content : Content) (page : List ℕ) : Type 0 where
  pub reads : Reads a b root page
  pub only : OnlyReads a b
  pub shown : IsShown 0 64 page content

-- ---- the tree

pub root_misshown : (Given : List Quad → Type 0) (a b : PageState) (page : List ℕ) (fault : PairFault) → Reads a b root page
    → OnlyReads a b → fault ≡ Odd
    → ((content : Content) → IsShown 0 64 page content → ⊥) → HasCause a b (HadNoTree Given a b) fault
root_misshown Given a b page fault reads only is none = odd_cause a b (HadNoTree Given a b) fault is
    (λ under agrees quads slots formed given.
    let p = over a.writes under in
    let top = opened p formed.level root least None quads slots formed.tree in
    let within : 0 < b.stores = formed.in_range root (some_of (p root) top.page.bytes top.page.held) in
    let same : page ≡ top.page.bytes =
    page_there a b root page under top.page.bytes reads agrees (omega (arith, within, reads.lasts.stores))
    (subst (λ (w : PageMap). over w under root ≡ Some top.page.bytes) (sym reads.writes) top.page.held) in
    let content : Content = record { level = formed.level; cells = top.cells } in
    none content (record {
      spelled = subst (λ (xs : List ℕ). Spells content xs) (sym same) top.page.spelled;
      from = omega arith;
      to = formed.height;
    }))

pub tree_fault : (change : Change) (store : ℕ) (a b c : PageState) (content : Content) (page : List ℕ) (fault : PairFault)
    → WasRead a b content page → EditsBelow change store b c content (Err fault)
    → HasCause a c (HadNoTree (given_of change) a c) fault
tree_fault change store a b c content page fault r h =
    cause_later a b c (IsNotMet (given_of change) (pair_of change) b c content) (HadNoTree (given_of change) a c) fault r.only
    (λ none under agrees quads slots formed given.
    let m = met_root (given_of change) (pair_of change) a b c content under quads slots page r.reads r.shown h.goes_on agrees
    formed given in
    none under least None quads m.inner.below m.met)
    h.answer

pub tree_changed : (change : Change) (store : ℕ) (a b c : PageState) (content : Content) (page : List ℕ)
    → WasRead a b content page → EditsBelow change store b c content (Ok Below) → EditsIn (edit_of change) (given_of change)
    (open_of change store) a c
tree_changed change store a b c content page r h = λ under agrees quads slots formed given.
    let m = met_root (given_of change) (pair_of change) a b c content under quads slots page r.reads r.shown h.goes_on agrees
    formed given in
    let changed = changed_before (edit_of change) (open_of change store) a b c.stores (over b.writes under) (over c.writes under)
    content.level content.cells least None quads m.inner.below r.only.extends
    (h.answer.1 under least None quads m.inner.below m.met) in
    let before : over b.writes under root ≡ Some page = subst (λ (w : PageMap). over w under root ≡ Some page)
    (sym r.reads.writes) m.is_page in
    let some : IsSome (over b.writes under root) = some_of (over b.writes under root) page before in
    let away : Among root changed.reached → ⊥ = λ there. ⊎_elim (λ old. m.inner.apart old)
    (λ free. not_open (room_in (open_of change store) a) (over b.writes under) root some free)
    (changed.frame.within root there) in
    tree_edited (edit_of change) (given_of change) (room_in (open_of change store) a) (pair_of change) a b c content under quads
    slots page m r.reads.writes c.stores (over c.writes under) (over c.writes under) content.cells page changed
    (changed.frame.others root m.inner.apart away ∙ before) r.shown.spelled (λ t apart. refl) changed.in_stores

formed_before : (a c d : PageState) (under : PageMap) (quads : List Quad) (slots : List Slot) → GoesOn c d
    → IsFormed d.stores (over a.writes under) quads slots → IsFormed c.stores (over a.writes under) quads slots
formed_before a c d under quads slots goes formed = subst (λ (n : ℕ). IsFormed n (over a.writes under) quads slots)
    goes.lasts.stores formed

pub tree_written : (change : Change) (store : ℕ) (a b c d : PageState) (content : Content) (page page' : List ℕ)
    → WasRead a b content page → EditsBelow change store b c content (Ok (Page page')) → Writes c d root page'
    → EditsIn (edit_of change) (given_of change) (open_of change store) a d
tree_written change store a b c d content page page' r h writes = λ under agrees quads slots formed given.
    let goes = goes_write c d root page' writes in
    let formed_c = formed_before a c d under quads slots goes formed in
    let m = met_root (given_of change) (pair_of change) a b c content under quads slots page r.reads r.shown h.goes_on
    (agrees_before c.reads d.reads under goes.extends agrees) formed_c given in
    let changed = changed_before (edit_of change) (open_of change store) a b c.stores (over b.writes under) (over c.writes under)
    content.level h.answer.1.cells least None quads m.inner.below r.only.extends
    (h.answer.1.changes under least None quads m.inner.below m.met) in
    let put = over_put c.writes d.writes under root page' writes.puts in
    let within : 0 < c.stores = formed_c.in_range root (some_of (over a.writes under root) page m.is_page) in
    let stored : InStores c.stores (over d.writes under) = in_stores_put c.stores (over c.writes under) (over d.writes under) root
    page' changed.in_stores within put.others in
    subst (λ (n : ℕ). EditsTree (edit_of change) (room_in (open_of change store) a) n (over a.writes under) (over d.writes under)
    quads slots) (sym writes.lasts.stores)
    (tree_edited (edit_of change) (given_of change) (room_in (open_of change store) a) (pair_of change) a b c content under quads
    slots page m r.reads.writes c.stores (over c.writes under) (over d.writes under) h.answer.1.cells page' changed
    put.put h.answer.1.spelled put.others stored)

pub tree_misses : (change : Change) (store : ℕ) (a b c : PageState) (content : Content) (page : List ℕ)
    → WasRead a b content page → EditsBelow change store b c content (Ok Missing) → MissesIn change a c
tree_misses (Remove key birth) store a b c content page r h = record {
  writes = h.answer.1 ∙ r.reads.writes;
  lacks = λ under agrees quads slots formed.
      let m = met_root Nothing (bound_at key.now birth) a b c content under quads slots page r.reads r.shown h.goes_on agrees
      formed tt in
      h.answer.2 under least None quads m.inner.below m.met;
}
tree_misses (End key birth death) store a b c content page r h = record {
  writes = h.answer.1 ∙ r.reads.writes;
  lacks = λ under agrees quads slots formed.
      let m = met_root Nothing (bound_at key.now birth) a b c content under quads slots page r.reads r.shown h.goes_on agrees
      formed tt in
      h.answer.2 under least None quads m.inner.below m.met;
}
tree_misses (Replace q) store a b c content page r h = record {
  writes = h.answer.1 ∙ r.reads.writes;
  lacks = λ under agrees quads slots formed.
      let m = met_root Nothing (quad_bound q.now) a b c content under quads slots page r.reads r.shown h.goes_on agrees formed tt
      in
      h.answer.2 under least None quads m.inner.below m.met;
}
tree_misses (Insert q) store a b c content page r h = absurd h.answer.0

tree_grows : (change : Change) (store : ℕ) (a b c d : PageState) (content : Content) (page : List ℕ) → WasRead a b content page
    → GoesOn b c → GoesOn c d → Grows change b c content → TreeGrows change a d
tree_grows (Remove key birth) store a b c d content page r h goes grows = grows
tree_grows (End key birth death) store a b c d content page r h goes grows = grows
tree_grows (Insert q) store a b c d content page r h goes grows = tt
tree_grows (Replace q) store a b c d content page r h goes grows = λ under agrees gone meets.
    let agrees_c = agrees_before c.reads d.reads under goes.extends agrees in
    let held = page_held a b root page 0 64 content under r.reads r.shown (agrees_before b.reads c.reads under h.extends agrees_c)
    in
    let there : Holds (over a.writes under) root content = subst (λ (w : PageMap). Holds (over w under) root content)
    r.reads.writes held in
    let one : meets.top ≡ content = same_content (over a.writes under) root meets.top content meets.held there in
    grows under agrees_c gone
    (subst (λ (w : PageMap). Goes (over w under) (quad_bound q.now) content.level content.cells gone) (sym r.reads.writes)
    (subst (λ (t : Content). Goes (over a.writes under) (quad_bound q.now) t.level t.cells gone) one meets.goes))

-- what was read, and nothing else
pub known : PageState → PageMap
known d s = unwrap_or (d.reads s) None

pub known_agrees : (d : PageState) → Agrees d.reads (known d)
unfolding known
known_agrees d = record { at = λ s held is. ap (λ (r : Option (Option (List ℕ))). unwrap_or r None) is }

goes_place : (p : PageMap) (pair : Bound) (level : ℕ) (cells : List Entry) (q : Quad) → Goes p pair level cells q
    → quad_bound q ≡ pair
goes_place p pair zero cells q h = h.place
goes_place p pair (suc level) cells q h = goes_place p pair level h.below q h.goes

-- what was found below the root was found in the tree
pub tree_finds : (change : Change) (a b c d : PageState) (content : Content) (page : List ℕ) → WasRead a b content page
    → GoesOn b c → GoesOn c d → Finds change b c content → TreeMet change a d
tree_finds (Remove key birth) a b c d content page r h goes finds = tt
tree_finds (End key birth death) a b c d content page r h goes finds = tt
tree_finds (Insert q) a b c d content page r h goes finds = tt
tree_finds (Replace q) a b c d content page r h goes finds =
    let pair = quad_bound q.now in
    let meets : (under : PageMap) → Agrees d.reads under → Meets (over a.writes under) pair finds.gone = λ under agrees.
    let agrees_c = agrees_before c.reads d.reads under goes.extends agrees in
    let held = page_held a b root page 0 64 content under r.reads r.shown (agrees_before b.reads c.reads under h.extends agrees_c)
    in
    record {
      top = content;
      held = subst (λ (w : PageMap). Holds (over w under) root content) r.reads.writes held;
      goes = subst (λ (w : PageMap). Goes (over w under) pair content.level content.cells finds.gone) r.reads.writes
          (finds.goes under agrees_c);
    } in
    let m = meets (known d) (known_agrees d) in
    record {
      gone = finds.gone;
      place = goes_place (over a.writes (known d)) pair m.top.level m.top.cells finds.gone m.goes;
      meets = meets;
    }

-- ---- the root page

-- the root page, as it read, is the one that was read
pub root_was : (a b z : PageState) (page : List ℕ) (content : Content) → WasRead a b content page → Extends b.reads z.reads
    → Spells content (latest a.writes z.reads root)
root_was a b z page content r later =
    let within : 0 < a.stores = shown_within a b root page 0 64 content r.reads r.shown in
    subst (λ (xs : List ℕ). Spells content xs) (reads_latest a b z root page r.reads later within) r.shown.spelled

pub root_same : (a z : PageState) (content : Content) → Spells content (latest a.writes z.reads root)
    → z.writes root ≡ a.writes root → RootStays a z
root_same a z content was same = record {
  before = content;
  after = content;
  was = was;
  is = subst (λ (o : Option (List ℕ)). Spells content (page_of (laid o (unwrap_or (z.reads root) None)))) (sym same) was;
  moves = (refl, omega arith);
}

pub root_changed : (change : Change) (store : ℕ) (a b c : PageState) (content : Content) (page : List ℕ)
    → WasRead a b content page → EditsBelow change store b c content (Ok Below) → RootStays a c
root_changed change store a b c content page r h =
    let was = root_was a b c page content r h.goes_on.extends in
    let there : Spells content (latest b.writes c.reads root) = subst (λ (w : PageMap). Spells content (latest w c.reads root))
    (sym r.reads.writes) was in
    root_same a c content was (h.answer.0 root content there (omega arith) ∙ ap (λ (w : PageMap). w root) r.reads.writes)

-- what was put there is what the root page is
root_is : (d : PageState) (content : Content) (page' : List ℕ) → d.writes root ≡ Some page' → Spells content page'
    → Spells content (latest d.writes d.reads root)
root_is d content page' put spelled =
    subst (λ (o : Option (List ℕ)). Spells content (page_of (laid o (unwrap_or (d.reads root) None)))) (sym put) spelled

pub root_written : (change : Change) (store : ℕ) (a b c d : PageState) (content : Content) (page page' : List ℕ)
    → WasRead a b content page → EditsBelow change store b c content (Ok (Page page')) → Writes c d root page' → RootStays a d
    ⊎ (TreeGrows change a d × RootGrows a d)
root_written change store a b c d content page page' r h writes =
    let goes = goes_write c d root page' writes in
    let later = goes_then b c d h.goes_on goes in
    let after : Content = record { level = content.level; cells = h.answer.1.cells } in
    let was = root_was a b d page content r later.extends in
    let is = root_is d after page' writes.puts.put h.answer.1.spelled in ⊎_elim
    (λ few. inl (record { before = content; after = after; was = was; is = is; moves = (refl, few) }))
    (λ more. inr (
      tree_grows change store a b c d content page r h.goes_on goes more.0,
      record { before = content; after = after; was = was; is = is; moves = inl (refl, more.1) },
    ))
    h.answer.1.few

pub root_full : (change : Change) (store : ℕ) (a b c : PageState) (content : Content) (page left : List ℕ) (bound : Bound)
    (right : List ℕ)
    → WasRead a b content page → GoesOn b c → Divides change store b c content left bound right → content.level ≡ 64 → IsFull a c
root_full change store a b c content page left bound right r goes parts highest =
    let within : 0 < a.stores = shown_within a b root page 0 64 content r.reads r.shown in
    record {
      content = content;
      spelled = subst (λ (xs : List ℕ). Spells content xs) (reads_latest a b c root page r.reads goes.extends within)
          r.shown.spelled;
      highest = highest;
      many = parts.many (omega arith);
    }

pub root_raised : (change : Change) (store : ℕ) (a b c d : PageState) (content : Content) (page left : List ℕ) (bound : Bound)
    (right : List ℕ)
    → WasRead a b content page → GoesOn b c → Divides change store b c content left bound right
    → Raises c d (content.level + 1) left bound right store → RootStays a d ⊎ (TreeGrows change a d × RootGrows a d)
root_raised change store a b c d content page left bound right r goes parts raises =
    inr (
      tree_grows change store a b c d content page r goes raises.goes_on parts.grows,
      record {
        before = content;
        after = _;
        was = root_was a b d page content r (goes_then b c d goes raises.goes_on).extends;
        is = root_is d _ raises.page raises.root_put raises.spelled;
        moves = inr (refl, refl);
      },
    )

-- ---- the tree is one level higher

-- the root was read, so no fresh slot is the root
fresh_not_root : (a b c : PageState) (page : List ℕ) (content : Content) (s : Slot) → WasRead a b content page → GoesOn b c
    → c.reads s ≡ None → s ≢ root
fresh_not_root a b c page content s r goes unread is =
    let within : 0 < a.stores = shown_within a b root page 0 64 content r.reads r.shown in
    let some = (r.reads.learns within).known in
    by_case (b.reads root) refl some
  where
    differ : (o : Option (Option (List ℕ))) (x : Option (List ℕ)) → o ≡ None → o ≡ Some x → ⊥
    differ o x p q = cc

    no : IsSome {T = Option (List ℕ)} None → ⊥
    no h = cc

    by_case : (o : Option (Option (List ℕ))) → b.reads root ≡ o → IsSome o → ⊥
    by_case None e some = no some
    by_case (Some x) e some = differ (c.reads root) x (ap (λ (t : Slot). c.reads t) (sym is) ∙ unread) (goes.extends.at root x e)

pub tree_raised : (change : Change) (store : ℕ) (a b c d : PageState) (content : Content) (page left : List ℕ) (bound : Bound)
    (right : List ℕ)
    → WasRead a b content page → GoesOn b c → Divides change store b c content left bound right
    → Raises c d (content.level + 1) left bound right store → IsSound a → content.level < 64 → store < a.stores
    → EditsIn (edit_of change) (given_of change) (open_of change store) a d
tree_raised change store a b c d content page left bound right r goes parts raises sound low asked =
    λ under agrees quads slots formed given.
    let formed_c = formed_before a c d under quads slots raises.goes_on formed in
    let m = met_root (given_of change) (pair_of change) a b c content under quads slots page r.reads r.shown goes
    (agrees_before c.reads d.reads under raises.goes_on.extends agrees) formed_c given in
    let p = over a.writes under in
    let mid = over c.writes under in
    let q = over d.writes under in
    let x : Parted (edit_of change) (room_in (open_of change store) a) c.stores p mid content.level parts.front bound parts.back
    least None quads m.inner.below =
    parted_before (edit_of change) (open_of change store) a b c.stores p mid content.level parts.front bound parts.back least None
    quads m.inner.below r.only.extends
    (subst (λ (v : PageMap). Parted (edit_of change) (room_in (open_of change store) b) c.stores (over v under) mid content.level
    parts.front bound parts.back least None quads m.inner.below) r.reads.writes
    (parts.parts under least None quads m.inner.below m.met)) in
    let l = raises.first in
    let k = raises.second in
    let until = (goes_then a b c (goes_only a b r.only) goes).extends in
    let l_none : p l ≡ None = ap (λ (o : Option (List ℕ)). laid o (under l))
    (unwritten_before a c l sound until raises.first_unread) ∙ agrees.at l None raises.first_absent in
    let k_none : p k ≡ None = ap (λ (o : Option (List ℕ)). laid o (under k))
    (unwritten_before a c k sound until raises.second_unread) ∙ agrees.at k None raises.second_absent in
    let l_mid : mid l ≡ None = ap (λ (o : Option (List ℕ)). laid o (under l)) raises.first_unwritten
    ∙ agrees.at l None raises.first_absent in
    let k_mid : mid k ≡ None = ap (λ (o : Option (List ℕ)). laid o (under k)) raises.second_unwritten
    ∙ agrees.at k None raises.second_absent in
    let l_root : l ≢ root = fresh_not_root a b c page content l r goes raises.first_unread in
    let k_root : k ≢ root = fresh_not_root a b c page content k r goes raises.second_unread in
    let present = some_held p root _ m.inner.page in
    let left_there : (s : Slot) → Among s x.reached_left → IsSome (mid s) = bears_present mid content.level parts.front least
    (Some bound) x.after_left x.reached_left x.left in
    let right_there : (s : Slot) → Among s x.reached_right → IsSome (mid s) =
    bears_present mid content.level parts.back bound None x.after_right x.reached_right x.right in
    let root_out : Among root (x.reached_left ++ x.reached_right) → ⊥ = λ there. ⊎_elim (λ old. m.inner.apart old)
    (λ free. not_open (room_in (open_of change store) a) p root present free) (x.frame.within root there) in
    let apart_from : (s t : Slot) → IsSome (mid s) → mid t ≡ None → s ≢ t = λ s t some none is. some_not_none (mid s) some
    (ap (λ (y : Slot). mid y) is ∙ none) in
    let kept : (s : Slot) → IsSome (mid s) → s ≢ root → q s ≡ mid s = λ s some not_root.
    ap (λ (o : Option (List ℕ)). laid o (under s)) (raises.others s not_root (apart_from s l some l_mid)
    (apart_from s k some k_mid)) in
    let not_root_left : (s : Slot) → Among s x.reached_left → s ≢ root =
    λ s there is. root_out (among_left root x.reached_left x.reached_right
    (subst (λ (y : Slot). Among y x.reached_left) is there)) in
    let not_root_right : (s : Slot) → Among s x.reached_right → s ≢ root =
    λ s there is. root_out (among_right root x.reached_left x.reached_right (subst (λ (y : Slot). Among y x.reached_right) is
    there)) in
    let l_left : Among l x.reached_left → ⊥ = λ there. some_not_none (mid l) (left_there l there) l_mid in
    let l_right : Among l x.reached_right → ⊥ = λ there. some_not_none (mid l) (right_there l there) l_mid in
    let k_left : Among k x.reached_left → ⊥ = λ there. some_not_none (mid k) (left_there k there) k_mid in
    let k_right : Among k x.reached_right → ⊥ = λ there. some_not_none (mid k) (right_there k there) k_mid in
    let new : Child = record { bound = bound; slot = k } in
    let below = (l ∷ x.reached_left) ++ (k ∷ x.reached_right) in
    let left_tree : Subtree q content.level l least (Some bound) x.after_left (l ∷ x.reached_left) =
    closed q content.level l least (Some bound) x.after_left (l ∷ x.reached_left) (record {
      below = x.reached_left;
      cells = parts.front;
      page = record {
        bytes = left;
        held = ap (λ (o : Option (List ℕ)). laid o (under l)) (raises.first_put l_root);
        spelled =
            parts.left_page;
      };
      bears = bears_keep mid q content.level parts.front least (Some bound) x.after_left x.reached_left x.left
          (λ s there. kept s (left_there s there) (not_root_left s there));
      reached = refl;
      apart = l_left;
    }) in
    let right_tree : Subtree q content.level k bound None x.after_right (k ∷ x.reached_right) =
    closed q content.level k bound None x.after_right (k ∷ x.reached_right) (record {
      below = x.reached_right;
      cells = parts.back;
      page = record {
        bytes = right;
        held = ap (λ (o : Option (List ℕ)). laid o (under k)) (raises.second_put k_root);
        spelled =
            parts.right_page;
      };
      bears = bears_keep mid q content.level parts.back bound None x.after_right x.reached_right x.right
          (λ s there. kept s (right_there s there) (not_root_right s there));
      reached = refl;
      apart = k_right;
    }) in
    let kids : Kids (Subtree q content.level) l least (new ∷ []) None (x.after_left ++ x.after_right) below = record {
      quads_left = x.after_left;
      quads_right = x.after_right;
      slots_left = l ∷ x.reached_left;
      slots_right = k ∷ x.reached_right;
      left = left_tree;
      right = right_tree;
      all_quads = refl;
      all_slots = refl;
      apart = record {
        none = λ s n f. ⊎_elim
            (λ is. ⊎_elim (λ is'. raises.two (sym is ∙ is'))
            (λ far. l_right (subst (λ (y : Slot). Among y x.reached_right) is far)) f)
            (λ near. ⊎_elim (λ is'. k_left (subst (λ (y : Slot). Among y x.reached_left) is' near)) (λ far. x.apart s near far) f)
            n;
      };
    } in
    let within : 0 < a.stores = shown_within a b root page 0 64 content r.reads r.shown in
    let stored : (s : Slot) → IsSome (q s) → s.store < d.stores = λ s some. ⊎_elim
    (λ is. subst (λ (y : Slot). y.store < d.stores) (sym is)
    (omega (arith, within, raises.goes_on.lasts.stores, goes.lasts.stores, r.only.lasts.stores)))
    (λ not_root. ⊎_elim
    (λ is. subst (λ (y : Slot). y.store < d.stores) (sym is)
    (omega (arith, raises.first_store, asked, raises.goes_on.lasts.stores, goes.lasts.stores, r.only.lasts.stores)))
    (λ not_l. ⊎_elim
    (λ is. subst (λ (y : Slot). y.store < d.stores) (sym is)
    (omega (arith, raises.second_store, asked, raises.goes_on.lasts.stores, goes.lasts.stores, r.only.lasts.stores)))
    (λ not_k. omega (
      arith,
      raises.goes_on.lasts.stores,
      x.in_stores.at s (subst (λ (o : Option (List ℕ)). IsSome o)
          (ap (λ (o : Option (List ℕ)). laid o (under s)) (raises.others s not_root not_l not_k)) some),
    ))
    (slot_cases s k))
    (slot_cases s l))
    (slot_cases s root) in
    let from_mid : (s : Slot) → Among s (x.reached_left ++ x.reached_right) → Among s slots
    ⊎ IsOpen (room_in (open_of change store) a) p s = λ s there.
    ⊎_elim (λ old. inl (subst (λ (ss : List Slot). Among s ss) (sym m.inner.reached) (inr old))) (λ free. inr free)
    (x.frame.within s there) in
    let tree : Subtree q (suc content.level) root least None (x.after_left ++ x.after_right) (root ∷ below) = record {
      first = l;
      rest = new ∷ [];
      below = below;
      page = record {
        bytes = raises.page;
        held = ap (λ (o : Option (List ℕ)). laid o (under root)) raises.root_put;
        spelled = subst (λ (n : ℕ). Spells (record {
          level = n;
          cells = inner_entry [] 0 l ∷ inner_entry bound.key bound.birth k
              ∷ [];
        }) raises.page) (add-one content.level) raises.spelled;
      };
      within = (all_in bound, tt);
      kids = kids;
      reached = refl;
      apart = λ there. ⊎_elim
          (λ n. ⊎_elim (λ is. l_root (sym is)) (λ near. root_out (among_left root x.reached_left x.reached_right near)) n)
          (λ f. ⊎_elim (λ is. k_root (sym is)) (λ far. root_out (among_right root x.reached_left x.reached_right far)) f)
          (among_either root (l ∷ x.reached_left) (k ∷ x.reached_right) there);
    } in
    record {
      after = x.after_left ++ x.after_right;
      reached = root ∷ below;
      edit = x.edit;
      formed = record { in_range = stored; level = suc content.level; height = omega arith; tree = tree };
      frame = record {
        within = λ s there. ⊎_elim
            (λ is. inl (subst (λ (ss : List Slot). Among s ss) (sym m.inner.reached) (inl is)))
            (λ more. ⊎_elim
            (λ n. ⊎_elim (λ is. inr (subst (λ (y : Slot). IsOpen (room_in (open_of change store) a) p y) (sym is)
            (open_free change store a p l b c content parts.grows l_none raises.first_store
            (unread_before a.reads c.reads l until raises.first_unread))))
            (λ near. from_mid s (among_left s x.reached_left x.reached_right near)) n)
            (λ f. ⊎_elim (λ is. inr (subst (λ (y : Slot). IsOpen (room_in (open_of change store) a) p y) (sym is)
            (open_free change store a p k b c content parts.grows k_none raises.second_store
            (unread_before a.reads c.reads k until raises.second_unread))))
            (λ far. from_mid s (among_right s x.reached_left x.reached_right far)) f)
            (among_either s (l ∷ x.reached_left) (k ∷ x.reached_right) more))
            there;
        others = λ s gone out.
            let not_root : s ≢ root = λ is. out (inl is) in
            let not_l : s ≢ l = λ is. out (inr (among_left s (l ∷ x.reached_left) (k ∷ x.reached_right) (inl is))) in
            let not_k : s ≢ k = λ is. out (inr (among_right s (l ∷ x.reached_left) (k ∷ x.reached_right) (inl is))) in
            ap (λ (o : Option (List ℕ)). laid o (under s)) (raises.others s not_root not_l not_k)
            ∙ x.frame.others s (λ old. gone (subst (λ (ss : List Slot). Among s ss) (sym m.inner.reached) (inr old)))
            (λ there. ⊎_elim
            (λ near. out (inr (among_left s (l ∷ x.reached_left) (k ∷ x.reached_right) (inr near))))
            (λ far. out (inr (among_right s (l ∷ x.reached_left) (k ∷ x.reached_right) (inr far))))
            (among_either s x.reached_left x.reached_right there));
      };
    }

-- ---- causes

pub put_cause : (a b : PageState) (P : Type 0) (fault : PairFault) → HasCause a b P fault → HasPutCause a b P fault
put_cause a b P Odd h = h
put_cause a b P HeightFull h = absurd h
put_cause a b P (PageGave fault) h = h

pub raise_cause : (a c d : PageState) (P : Type 0) (fault : PairFault) → GoesOn a c → HasCause c d ⊥ fault
    → HasPutCause a d P fault
raise_cause a c d P Odd goes h = absurd h
raise_cause a c d P HeightFull goes h = absurd h
raise_cause a c d P (PageGave fault) goes h = λ isnt. omega (arith, goes.lasts.faults fault, h isnt)

-- ---- the whole of a raise

fresh_goes : (a b : PageState) (store : ℕ) (s : Slot) → Freshens a b store s → GoesOn a b
fresh_goes a b store s h = record { lasts = h.lasts; extends = extends_learns a.reads b.reads s h.learns }

pub raised_so : (a b c d : PageState) (first second : Slot) (level : ℕ) (left : List ℕ) (bound : Bound) (right page : List ℕ)
    (store : ℕ) → Freshens a b store first → PutsTwo b c first left store second right
    → Spells (record { level = level; cells = inner_entry [] 0 first ∷ inner_entry bound.key bound.birth second ∷ [] }) page
    → Writes c d root page → Raises a d level left bound right store
raised_so a b c d first second level left bound right page store fresh two spelled writes =
    let first_b = fresh_goes a b store first fresh in
    let apart : first ≢ second = λ is. differ (b.reads second) (subst (λ (s : Slot). b.reads s ≡ Some None) is fresh.absent)
    two.unread in
    let write = goes_write c d root page writes in
    record {
      first = first;
      second = second;
      page = page;
      goes_on = goes_then a b d first_b (goes_then b c d two.goes_on write);
      spelled = spelled;
      root_put = writes.puts.put;
      first_put = λ other. writes.puts.others first other ∙ two.left_put;
      second_put = λ other. writes.puts.others second other ∙ two.right_put apart;
      first_unwritten = fresh.unwritten;
      second_unwritten = ap (λ (w : PageMap). w second) (sym fresh.writes) ∙ two.unwritten;
      first_unread = fresh.unread;
      second_unread = sym (fresh.learns.others second (λ is. apart (sym is))) ∙ two.unread;
      first_absent = write.extends.at first None (two.goes_on.extends.at first None fresh.absent);
      second_absent = write.extends.at second None two.absent;
      first_store = fresh.store;
      second_store = two.in_store;
      two = apart;
      others = λ t not_root not_first not_second. writes.puts.others t not_root
          ∙ (two.others t not_first not_second ∙ ap (λ (w : PageMap). w t) fresh.writes);
    }
  where
    differ : (o : Option (Option (List ℕ))) → o ≡ Some None → o ≡ None → ⊥
    differ o h k = cc

pub fails_write : (a b c d : PageState) (first second : Slot) (left right : List ℕ) (store : ℕ) (fault : PageFault)
    → Freshens a b store first → PutsTwo b c first left store second right → GivesUp c d fault → FailsSo a d (PageGave fault)
fails_write a b c d first second left right store fault fresh two gives =
    let until = goes_then a b c (fresh_goes a b store first fresh) two.goes_on in
    record {
      goes_on = goes_then a c d until (goes_gives_up c d fault gives);
      cause =
          λ isnt. omega (arith, until.lasts.faults fault, gives.counted isnt);
    }

-- ---- what the calls promise

pub stays_grows : (a b : PageState) → RootStays a b → RootGrows a b
stays_grows a b h = record {
  before = h.before;
  after = h.after;
  was = h.was;
  is = h.is;
  moves =
      inl (h.moves.0, omega (arith, h.moves.1));
}

moved_grows : (a b : PageState) (P : Type 0) → RootStays a b ⊎ (P × RootGrows a b) → RootGrows a b
moved_grows a b P h = ⊎_elim (λ s. stays_grows a b s) (λ g. g.1) h

pub put_edits : (change : Change) (store : ℕ) (a b : PageState) (result : Result Bool PairFault) → PutsIn change store a b result
    → IfOk result (λ found. found ≡ true → EditsIn (edit_of change) (given_of change) (open_of change store) a b)
put_edits change store a b (Ok true) h = λ is. h.answer.0
put_edits change store a b (Ok false) h = λ is. absurd cc
put_edits change store a b (Err fault) h = tt

pub put_misses : (change : Change) (store : ℕ) (a b : PageState) (result : Result Bool PairFault) → PutsIn change store a b result
    → IfOk result (λ found. found ≡ false → MissesIn change a b)
put_misses change store a b (Ok true) h = λ is. absurd cc
put_misses change store a b (Ok false) h = λ is. h.answer.0
put_misses change store a b (Err fault) h = tt

pub put_grows : (change : Change) (store : ℕ) (a b : PageState) (result : Result Bool PairFault) → PutsIn change store a b result
    → IfOk result (λ _. RootGrows a b)
put_grows change store a b (Ok true) h = moved_grows a b (TreeGrows change a b) h.answer.1
put_grows change store a b (Ok false) h = stays_grows a b h.answer.1
put_grows change store a b (Err fault) h = tt

pub put_faults : (change : Change) (store : ℕ) (a b : PageState) (result : Result Bool PairFault) → PutsIn change store a b result
    → IfErr result (λ fault. HasPutCause a b (HadNoTree (given_of change) a b) fault)
put_faults change store a b (Ok found) h = tt
put_faults change store a b (Err fault) h = h.answer

-- an edit that is no miss
pub put_any : (change : Change) (store : ℕ) (a b : PageState) (found : Bool) → PutsIn change store a b (Ok found)
    → (EditsIn (edit_of change) (given_of change) (open_of change store) a b × RootGrows a b) ⊎ MissesIn change a b
put_any change store a b true h = inl (h.answer.0, moved_grows a b (TreeGrows change a b) h.answer.1)
put_any change store a b false h = inr h.answer.0

-- a record in the place of another
pub put_stays : (change : Change) (store : ℕ) (a b : PageState) (result : Result Bool PairFault) → PutsIn change store a b result
    → IfOk result (λ found. TreeStays change a b found)
put_stays (Replace q) store a b (Ok true) h = record {
  met = h.finds;
  stays = λ le. ⊎_elim (λ s. s)
      (λ g. absurd (omega (arith, le, g.0 (known b) (known_agrees b) h.finds.gone (h.finds.meets (known b) (known_agrees b)))))
      h.answer.1;
}
put_stays (Replace q) store a b (Ok false) h = h.answer.1
put_stays (Remove key birth) store a b (Ok found) h = tt
put_stays (End key birth death) store a b (Ok found) h = tt
put_stays (Insert q) store a b (Ok found) h = tt
put_stays change store a b (Err fault) h = tt

-- a removal never divides a page
pub never_two : (change : Change) (store : ℕ) (b c : PageState) (content : Content) (left : List ℕ) (key : List ℕ) (birth : ℕ)
    (right : List ℕ) (P : Type 0)
    → (Grows change b c content → ⊥) → EditsBelow change store b c content (Ok (Two left key birth right)) → P
never_two change store b c content left key birth right P none h = absurd (none h.answer.1.grows)

pub root_kept : (change : Change) (a d : PageState) → (TreeGrows change a d → ⊥) → RootStays a d
    ⊎ (TreeGrows change a d × RootGrows a d) → RootStays a d
root_kept change a d none h = ⊎_elim (λ s. s) (λ g. absurd (none g.0)) h

pub root_missing : (change : Change) (store : ℕ) (a b c : PageState) (content : Content) (page : List ℕ)
    → WasRead a b content page → EditsBelow change store b c content (Ok Missing) → RootStays a c
root_missing change store a b c content page r h = root_same a c content (root_was a b c page content r h.goes_on.extends)
    (ap (λ (w : PageMap). w root) (h.answer.1 ∙ r.reads.writes))

pub root_kept_written : (change : Change) (store : ℕ) (a b c d : PageState) (content : Content) (page page' : List ℕ)
    → (TreeGrows change a d → ⊥)
    → WasRead a b content page → EditsBelow change store b c content (Ok (Page page')) → Writes c d root page' → RootStays a d
root_kept_written change store a b c d content page page' none r h writes =
    root_kept change a d none (root_written change store a b c d content page page' r h writes)

-- ---- a change that lets nothing grow

pub never_grows : (change : Change) → NeverGrows change → (a b : PageState) → TreeGrows change a b → ⊥
never_grows (Remove key birth) never a b grows = grows
never_grows (End key birth death) never a b grows = grows
never_grows (Replace q) never a b grows = never
never_grows (Insert q) never a b grows = never

pub never_more : (change : Change) → NeverGrows change → (a b : PageState) (content : Content) → Grows change a b content → ⊥
never_more (Remove key birth) never a b content grows = grows
never_more (End key birth death) never a b content grows = grows
never_more (Replace q) never a b content grows = never
never_more (Insert q) never a b content grows = never
