-- What is read in a slot is what every tree has there, and what each step of a walk makes of its answer.
use Rattle.std.proofs.Common.{◌≡◌, ◌≢◌, ℕ, zero, suc, ◌-◌, ◌<◌, ◌≤◌, true, false, List, [], ◌∷◌, map, length, drop, Option, Some}
use Rattle.std.proofs.Common.{None, IsSome, is_some, unwrap_or, Ok, Err, refl, sym, ap, subst, ◌∙◌, arith}
use Rattle.nfs3_types.specs.Count.{Rose}
use Rattle.pair_types.specs.declared.slot.Slot.{Slot}
use Rattle.pair_types.specs.declared.quad.Quad.{Quad}
use Rattle.pair_types.specs.declared.fault.PairFault.{PairFault}
use Rattle.pair_types.specs.declared.fault.PairFault.TheVariants.{Odd, HeightFull, Page}
use Rattle.pair_types.specs.PageMaps.{PageMap, ReadMap, Agrees, Extends, over, laid, page_of}
use Rattle.pair_types.specs.PageState.{PageState, Reads}
use Rattle.btree_page.specs.Content.{Bound, Entry, Leads, Content, Spells, IsPage, inner_entry}
use Rattle.btree_page.specs.Tree.{Holds, child_cell, Subtree}
use Rattle.btree_page.proofs.Trees.{has_one_content}
use Rattle.btree_search.specs.declared.aim.Aim.{Aim}
use Rattle.btree_search.specs.declared.aim.Aim.TheVariants.{After}
use Rattle.btree_search.specs.Find.{BeginsAt}
use Rattle.btree_search.specs.Found.{IsFound, OnlyReads, HasCause}
use Rattle.btree_search.specs.Walk.{InStores, IsPart, HasNoPart, IsShown, LeadsAt, HasNoChild, IsChildPage, Walks}
use Rattle.btree_search.proofs.Ranges.{root_page, children_rise}
use Rattle.btree_search.proofs.Parts.{Along, along_kids, Passed, skip, opens, passes, hits, ends}

-- ---- states one after the other

pub only_then : (a b c : PageState) → OnlyReads a b → OnlyReads b c → OnlyReads a c
only_then a b c h k = record {
  lasts = record {
    stores = k.lasts.stores ∙ h.lasts.stores;
    below = k.lasts.below ∙ h.lasts.below;
    faults = λ fault. omega (arith, h.lasts.faults fault, k.lasts.faults fault);
  };
  writes = k.writes ∙ h.writes;
  extends = record { at = λ s held is. k.extends.at s held (h.extends.at s held is) };
}

pub only_same : (a : PageState) → OnlyReads a a
only_same a = record {
  lasts = record { stores = refl; below = refl; faults = λ fault. omega arith };
  writes = refl;
  extends = record { at = λ s held is. is };
}

-- a count that rose after it did not fall rose in all
pub rose_later : (x y z : ℕ) → x ≤ y → Rose y z → Rose x z
rose_later x y z le rose = omega (arith, rose)

pub cause_later : (a b c : PageState) (P Q : Type 0) (fault : PairFault) → OnlyReads a b → (P → Q) → HasCause b c P fault
    → HasCause a c Q fault
cause_later a b c P Q Odd h f cause = f cause
cause_later a b c P Q HeightFull h f cause = cause
cause_later a b c P Q (Page fault) h f cause = λ isnt. rose_later (a.faults fault) (b.faults fault) (c.faults fault)
    (h.lasts.faults fault) (cause isnt)

pub odd_cause : (a b : PageState) (P : Type 0) (fault : PairFault) → fault ≡ Odd → P → HasCause a b P fault
odd_cause a b P fault is p = subst (λ (f : PairFault). HasCause a b P f) (sym is) p

-- what agrees with later reads agrees with earlier ones
pub agrees_before : (old new : ReadMap) (under : PageMap) → Extends old new → Agrees new under → Agrees old under
agrees_before old new under e a = record { at = λ s held is. a.at s held (e.at s held is) }

-- a part of a tree by what is known later is one by what was known before
pub part_before : (old new : PageState) (content : Content) (under : PageMap) (quads : List Quad) → OnlyReads old new
    → IsPart new content under quads → IsPart old content under quads
part_before old new content under quads h part = record {
  agrees = agrees_before old.reads new.reads under h.extends part.agrees;
  in_stores = subst (λ (n : ℕ). InStores n (over old.writes under)) h.lasts.stores
      (subst (λ (w : PageMap). InStores new.stores (over w under)) h.writes part.in_stores);
  slot = part.slot;
  low = part.low;
  high = part.high;
  slots = part.slots;
  held = subst (λ (w : PageMap). Holds (over w under) part.slot content) h.writes part.held;
  tree = subst (λ (w : PageMap). Subtree (over w under) content.level part.slot part.low part.high quads part.slots) h.writes
      part.tree;
}

-- ---- pages that were read

pub told : (r : Option (Option (List ℕ))) → IsSome r → r ≡ Some (unwrap_or r None)
told (Some held) some = refl
told None some = cc

-- a page that was read in a slot is what each agreeing map has there, under what was written
pub page_there : (old new : PageState) (slot : Slot) (page : List ℕ) (under : PageMap) (bytes : List ℕ) → Reads old new slot page
    → Agrees new.reads under → slot.store < old.stores → over new.writes under slot ≡ Some bytes → page ≡ bytes
page_there old new slot page under bytes reads agrees within there =
    let learns = reads.learns within in
    let is : under slot ≡ unwrap_or (new.reads slot) None = agrees.at slot _ (told (new.reads slot) learns.known) in
    reads.latest within
    ∙ (ap (λ (held : Option (List ℕ)). page_of (laid (new.writes slot) held)) (sym is)
    ∙ ap (λ (held : Option (List ℕ)). page_of held) there)

pub some_of : (o : Option (List ℕ)) (bytes : List ℕ) → o ≡ Some bytes → IsSome o
some_of o bytes e = rw e refl

-- one slot holds one page
pub same_content : (p : PageMap) (slot : Slot) (a b : Content) → Holds p slot a → Holds p slot b → a ≡ b
same_content p slot a b h k =
    let same : Some h.bytes ≡ Some k.bytes = sym h.held ∙ k.held in
    let bytes : h.bytes ≡ k.bytes = cc in
    has_one_content k.bytes a b (subst (λ (xs : List ℕ). Spells a xs) bytes h.spelled) k.spelled

-- a cell leads to one child
pub one_child : (cells : List Entry) (i : ℕ) (a b : Slot) → LeadsAt cells i a → LeadsAt cells i b → a ≡ b
one_child cells i a b h k =
    let some : Some h.cell ≡ Some k.cell = sym h.there ∙ k.there in
    let cell : h.cell ≡ k.cell = cc in
    let leads : Leads a ≡ Leads b = sym h.leads ∙ (ap (λ (e : Entry). e.body) cell ∙ k.leads) in
    cc

-- ---- the children of a page

pub along_part : (state : PageState) (content : Content) (under : PageMap) (quads : List Quad) (level : ℕ)
    → content.level ≡ suc level
    → IsPart state content under quads → Along (over state.writes under) level content.cells quads
along_part state content under quads level is part =
    let p = over state.writes under in
    let tree : Subtree p (suc level) part.slot part.low part.high quads part.slots =
    subst (λ (n : ℕ). Subtree p n part.slot part.low part.high quads part.slots) is part.tree in
    let cells : content.cells ≡ inner_entry [] 0 tree.first ∷ map child_cell tree.rest =
    ap (λ (c : Content). c.cells) (same_content p part.slot content _ part.held tree.page) in
    let rules = children_rise level None (inner_entry [] 0 tree.first) (map child_cell tree.rest) tree.page.spelled.rules.cells in
    subst (λ (es : List Entry). Along p level es quads) (sym cells)
    (along_kids p level tree.rest tree.first part.low part.high quads tree.below _ [] 0 tree.kids rules tree.within)

-- the child to which a cell leads, and its records
pub record Seen (p : PageMap) (level : ℕ) (cells : List Entry) (i : ℕ) : Type 0 where
  pub here : List Quad
  pub child : Slot
  pub low : Bound
  pub high : Option Bound
  pub slots : List Slot
  pub leads : LeadsAt cells i child
  pub tree : Subtree p level child low high here slots

-- a walk along an inner page: it has only read so far, and in every tree so much is passed
pub record Passing (Passed : PageMap → ℕ → List Quad → Type 0) (old now : PageState) (content : Content) : Type 0 where
  pub only : OnlyReads old now
  pub passed : (level : ℕ) → content.level ≡ suc level → (under : PageMap) (quads : List Quad) → IsPart now content under quads
      → Passed (over now.writes under) level quads

-- where so much is passed, a child is seen next
abbrev pub Sees : (PageMap → ℕ → List Quad → Type 0) → List Entry → ℕ → Type 0
Sees Passed cells i = (p : PageMap) (level : ℕ) (quads : List Quad) → Passed p level quads → Seen p level cells i

-- what was passed before a read is passed after it
pub passing_later : (Passed : PageMap → ℕ → List Quad → Type 0) (a b c : PageState) (content : Content)
    → Passing Passed a b content → OnlyReads b c
    → Passing Passed a c content
passing_later Passed a b c content h only = record {
  only = only_then a b c h.only only;
  passed = λ level above under quads part.
      subst (λ (w : PageMap). Passed (over w under) level quads) (sym only.writes)
      (h.passed level above under quads (part_before b c content under quads only part));
}

-- the page that was read for the child is the one that the tree has there
pub child_bytes : (a b c : PageState) (content : Content) (i : ℕ) (page bytes : List ℕ) (under : PageMap) (quads : List Quad)
    (child : Slot)
    → IsChildPage a b content.cells i page → OnlyReads b c → IsPart c content under quads → LeadsAt content.cells i child
    → over c.writes under child ≡ Some bytes → page ≡ bytes
child_bytes a b c content i page bytes under quads child read only part leads there =
    let slot : read.slot ≡ child = one_child content.cells i read.slot child read.leads leads in
    let reads : Reads a b child page = subst (λ (s : Slot). Reads a b s page) slot read.reads in
    let within : child.store < c.stores = part.in_stores.at child (some_of (over c.writes under child) bytes there) in
    page_there a b child page under bytes reads (agrees_before b.reads c.reads under only.extends part.agrees)
    (omega (arith, within, only.lasts.stores, reads.lasts.stores))
    (subst (λ (w : PageMap). over w under child ≡ Some bytes) only.writes there)

-- the child is a part of the tree, and the page that was read is its uppermost one
pub child_part : (a b c : PageState) (content below : Content) (i level : ℕ) (page : List ℕ) (under : PageMap) (quads : List Quad)
    → IsChildPage a b content.cells i page → OnlyReads b c → IsShown level level page below → IsPart c content under quads
    → (h : Seen (over c.writes under) level content.cells i) → IsPart c below under h.here
child_part a b c content below i level page under quads read only shown part h =
    let root = root_page (over c.writes under) level h.child h.low h.high h.here h.slots h.tree in
    let same : page ≡ root.1.bytes = child_bytes a b c content i page root.1.bytes under quads h.child read only part h.leads
    root.1.held in
    let on : level ≡ below.level = omega (arith, shown.from, shown.to) in
    record {
      agrees = part.agrees;
      in_stores = part.in_stores;
      slot = h.child;
      low = h.low;
      high = h.high;
      slots = h.slots;
      held = record {
        bytes = root.1.bytes;
        held = root.1.held;
        spelled =
            subst (λ (xs : List ℕ). Spells below xs) same shown.spelled;
      };
      tree = subst (λ (n : ℕ). Subtree (over c.writes under) n h.child h.low h.high h.here h.slots) on h.tree;
    }

pub child_shown : (a b : PageState) (content : Content) (i level : ℕ) (page : List ℕ) (under : PageMap) (quads : List Quad)
    → IsChildPage a b content.cells i page → IsPart b content under quads
    → (h : Seen (over b.writes under) level content.cells i) → (below : Content) × IsShown level level page below
child_shown a b content i level page under quads read part h =
    let root = root_page (over b.writes under) level h.child h.low h.high h.here h.slots h.tree in
    let same : page ≡ root.1.bytes = child_bytes a b b content i page root.1.bytes under quads h.child read (only_same b) part
    h.leads root.1.held in
    let shown : IsShown level level page (record { level = level; cells = root.0 }) =
    record {
      spelled = subst (λ (xs : List ℕ). Spells (record { level = level; cells = root.0 }) xs) (sym same) root.1.spelled;
      from = omega arith;
      to = omega arith;
    } in
    (_, shown)

-- ---- what a walk answers

level_above : (n : ℕ) → n ≢ 0 → n ≡ suc (n - 1)
level_above n isnt = omega (arith, isnt)

-- the child's page could not be read
pub lost : (Found : List Quad → Option Quad → Type 0) (Passed : PageMap → ℕ → List Quad → Type 0) (a b c : PageState)
    (content : Content) (i : ℕ) (fault : PairFault)
    → content.level ≢ 0 → Sees Passed content.cells i
    → Passing Passed a b content → OnlyReads b c → HasCause b c (HasNoChild content.cells i) fault
    → Walks Found a c content (Err fault)
lost Found Passed a b c content i fault inner sees h only cause =
    let later = passing_later Passed a b c content h only in
    record {
      only = later.only;
      answer = cause_later a b c (HasNoChild content.cells i) (HasNoPart c content) fault h.only
          (λ none under quads part.
          let o = sees (over c.writes under) (content.level - 1) quads (later.passed (content.level - 1) (level_above _ inner)
          under quads part) in
          none o.child o.leads)
          cause;
    }

-- the child's page is no page of the level
pub misshown : (Found : List Quad → Option Quad → Type 0) (Passed : PageMap → ℕ → List Quad → Type 0) (a b c : PageState)
    (content : Content) (i : ℕ) (page : List ℕ)
    (fault : PairFault) → content.level ≢ 0 → Sees Passed content.cells i
    → Passing Passed a b content → OnlyReads b c → IsChildPage b c content.cells i page → fault ≡ Odd
    → ((below : Content) → IsShown (content.level - 1) (content.level - 1) page below → ⊥) → Walks Found a c content (Err fault)
misshown Found Passed a b c content i page fault inner sees h only read is none =
    let later = passing_later Passed a b c content h only in
    record {
      only = later.only;
      answer = odd_cause a c (HasNoPart c content) fault is (λ under quads part.
          let o = sees (over c.writes under) (content.level - 1) quads (later.passed (content.level - 1) (level_above _ inner)
          under quads part) in
          let shown = child_shown b c content i (content.level - 1) page under quads read part o in none shown.0 shown.1);
    }

-- the walk below the child gave up
pub gave_up : (Found : List Quad → Option Quad → Type 0) (Passed : PageMap → ℕ → List Quad → Type 0) (a b c d : PageState)
    (content below : Content) (i : ℕ)
    (page : List ℕ) (fault : PairFault) → content.level ≢ 0 → Sees Passed content.cells i
    → Passing Passed a b content → OnlyReads b c → IsChildPage b c content.cells i page
    → IsShown (content.level - 1) (content.level - 1) page below
    → Walks Found c d below (Err fault) → Walks Found a d content (Err fault)
gave_up Found Passed a b c d content below i page fault inner sees h only read shown walks =
    let later = passing_later Passed a b c content h only in
    let last = passing_later Passed a c d content later walks.only in
    record {
      only = last.only;
      answer = cause_later a c d (HasNoPart d below) (HasNoPart d content) fault later.only
          (λ none under quads part.
          let o = sees (over d.writes under) (content.level - 1) quads (last.passed (content.level - 1) (level_above _ inner)
          under quads part) in
          none under o.here (child_part b c d content below i (content.level - 1) page under quads read walks.only shown part o))
          walks.answer;
    }

-- the child has the record
pub hit : (Found : List Quad → Option Quad → Type 0) (Passed : PageMap → ℕ → List Quad → Type 0) (a b c d : PageState)
    (content below : Content) (i : ℕ)
    (page : List ℕ) (found : Option Quad) → content.level ≢ 0 → (sees : Sees Passed content.cells i)
    → ((p : PageMap) (level : ℕ) (quads : List Quad) (h : Passed p level quads) (q : Quad)
    → Found (sees p level quads h).here (Some q) → Found quads (Some q))
    → Passing Passed a b content → OnlyReads b c → IsChildPage b c content.cells i page
    → IsShown (content.level - 1) (content.level - 1) page below
    → Walks Found c d below (Ok found) → is_some found ≡ true → Walks Found a d content (Ok found)
hit Found Passed a b c d content below i page None inner sees hits h only read shown walks some = absurd cc
hit Found Passed a b c d content below i page (Some q) inner sees hits h only read shown walks some =
    let last = passing_later Passed a c d content (passing_later Passed a b c content h only) walks.only in
    record {
      only = last.only;
      answer = λ under quads part.
          let passed = last.passed (content.level - 1) (level_above _ inner) under quads part in
          let o = sees (over d.writes under) (content.level - 1) quads passed in
          hits (over d.writes under) (content.level - 1) quads passed q
          (walks.answer under o.here (child_part b c d content below i (content.level - 1) page under quads read walks.only shown
          part o));
    }

-- the child has none, and the walk goes on
pub miss : (Found : List Quad → Option Quad → Type 0) (Passed Next : PageMap → ℕ → List Quad → Type 0) (a b c d : PageState)
    (content below : Content) (i : ℕ)
    (page : List ℕ) (found : Option Quad) → content.level ≢ 0 → (sees : Sees Passed content.cells i)
    → ((p : PageMap) (level : ℕ) (quads : List Quad) (h : Passed p level quads) → Found (sees p level quads h).here None
    → Next p level quads)
    → Passing Passed a b content → OnlyReads b c → IsChildPage b c content.cells i page
    → IsShown (content.level - 1) (content.level - 1) page below
    → Walks Found c d below (Ok found) → is_some found ≡ false → Passing Next a d content
miss Found Passed Next a b c d content below i page (Some q) inner sees passes h only read shown walks some = absurd cc
miss Found Passed Next a b c d content below i page None inner sees passes h only read shown walks some =
    let last = passing_later Passed a c d content (passing_later Passed a b c content h only) walks.only in
    record {
      only = last.only;
      passed = λ level above under quads part.
          let passed = last.passed level above under quads part in
          let o = sees (over d.writes under) level quads passed in
          let on : content.level - 1 ≡ level = omega (arith, above) in
          let here : IsShown level level page below = subst (λ (m : ℕ). IsShown m m page below) on shown in
          passes (over d.writes under) level quads passed
          (walks.answer under o.here (child_part b c d content below i level page under quads read walks.only here part o));
    }

-- no child has any
pub last : (Found : List Quad → Option Quad → Type 0) (Passed : PageMap → ℕ → List Quad → Type 0) (a b : PageState)
    (content : Content) → content.level ≢ 0
    → ((p : PageMap) (level : ℕ) (quads : List Quad) → Passed p level quads → Found quads None) → Passing Passed a b content
    → Walks Found a b content (Ok None)
last Found Passed a b content inner ends h = record {
  only = h.only;
  answer = λ under quads part.
      ends (over b.writes under) (content.level - 1) quads (h.passed (content.level - 1) (level_above _ inner) under quads part);
}

-- ---- forwards

-- no record before index i is sought
abbrev pub Forwards : Aim → Bound → List Entry → ℕ → PageMap → ℕ → List Quad → Type 0
Forwards aim pair cells i p level quads = Passed p level aim pair (drop i cells) quads

pub starts : (aim : Aim) (pair : Bound) (state : PageState) (content : Content) (past n : ℕ) → IsPage content → content.level ≢ 0
    → BeginsAt After pair content.cells past → n ≡ past - 1 → Passing (Forwards aim pair content.cells n) state state content
starts aim pair state content past n rules inner begins is = record {
  only = only_same state;
  passed = λ level above under quads part.
      let many : 2 ≤ length content.cells = rules.least (omega (arith, above)) in
      skip (over state.writes under) level aim pair n content.cells quads (along_part state content under quads level above part)
      (omega (arith, begins.within, many, is))
      (λ k lt e there. begins.before (suc k) (omega (arith, is, lt)) e there);
}

pub sees_forwards : (aim : Aim) (pair : Bound) (cells : List Entry) (i : ℕ) → i < length cells
    → Sees (Forwards aim pair cells i) cells i
sees_forwards aim pair cells i lt p level quads h =
    let o = opens p level aim pair cells i quads lt h in
    record { here = o.here; child = o.child; low = o.low; high = o.high; slots = o.slots; leads = o.leads; tree = o.tree }

pub hits_forwards : (aim : Aim) (pair : Bound) (cells : List Entry) (i : ℕ) (lt : i < length cells) (p : PageMap) (level : ℕ)
    (quads : List Quad)
    (h : Forwards aim pair cells i p level quads) (q : Quad)
    → IsFound aim pair (sees_forwards aim pair cells i lt p level quads h).here (Some q) → IsFound aim pair quads (Some q)
unfolding sees_forwards
hits_forwards aim pair cells i lt p level quads h q found = hits p level aim pair cells i quads q
    (opens p level aim pair cells i quads lt h) found

pub passes_forwards : (aim : Aim) (pair : Bound) (cells : List Entry) (i n : ℕ) (lt : i < length cells) → n ≡ suc i
    → (p : PageMap) (level : ℕ) (quads : List Quad)
    (h : Forwards aim pair cells i p level quads) → IsFound aim pair (sees_forwards aim pair cells i lt p level quads h).here None
    → Forwards aim pair cells n p level quads
unfolding sees_forwards
passes_forwards aim pair cells i n lt is p level quads h none =
    subst (λ (m : ℕ). Passed p level aim pair (drop m cells) quads) (sym is) (passes p level aim pair cells i quads
    (opens p level aim pair cells i quads lt h) none)

drop_past : (cells : List Entry) (n : ℕ) → length cells ≤ n → drop n cells ≡ []
drop_past [] zero le = refl
drop_past [] (suc n) le = refl
drop_past (c ∷ cells) zero le = absurd (omega arith)
drop_past (c ∷ cells) (suc n) le = drop_past cells n (omega arith)

pub ends_forwards : (aim : Aim) (pair : Bound) (cells : List Entry) (i : ℕ) → length cells ≤ i
    → (p : PageMap) (level : ℕ) (quads : List Quad)
    → Forwards aim pair cells i p level quads → IsFound aim pair quads None
ends_forwards aim pair cells i le p level quads h =
    ends p level aim pair quads (subst (λ (es : List Entry). Passed p level aim pair es quads) (drop_past cells i le) h)
