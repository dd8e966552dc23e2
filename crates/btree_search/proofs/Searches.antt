-- From the root page to the tree: what a walk below the root answers of every tree.
use Rattle.std.proofs.Common.{◌≡◌, ℕ, ◌<◌, List, Option, Some, None, Result, Ok, Err, sym, ap, subst, arith}
use Rattle.std.specs.Prelude.{IfOk, IfErr}
use Rattle.pair_types.specs.declared.slot.Slot.{Slot}
use Rattle.pair_types.specs.declared.quad.Quad.{Quad}
use Rattle.pair_types.specs.declared.fault.PairFault.{PairFault}
use Rattle.pair_types.specs.declared.fault.PairFault.TheVariants.{Odd}
use Rattle.pair_types.specs.PageMaps.{PageMap, Agrees, over}
use Rattle.pair_types.specs.PageState.{PageState, Reads}
use Rattle.btree_page.specs.Content.{Content, Spells}
use Rattle.btree_page.specs.Tree.{Holds, Subtree, root, least, IsFormed}
use Rattle.btree_search.specs.Found.{IsFoundIn, HasNoTree, OnlyReads, HasCause}
use Rattle.btree_search.specs.Walk.{IsPart, IsShown, Walks}
use Rattle.btree_search.proofs.Ranges.{root_page}
use Rattle.btree_search.proofs.Walks.{only_same, cause_later, odd_cause, agrees_before, page_there, some_of, same_content}

root_bytes : (old mid new : PageState) (page bytes : List ℕ) (under : PageMap) (quads : List Quad) (slots : List Slot)
    → Reads old mid root page
    → OnlyReads mid new → Agrees new.reads under → IsFormed new.stores (over new.writes under) quads slots
    → over new.writes under root ≡ Some bytes → page ≡ bytes
root_bytes old mid new page bytes under quads slots reads only agrees formed there =
    let within : 0 < new.stores = formed.in_range root (some_of (over new.writes under root) bytes there) in
    page_there old mid root page under bytes reads (agrees_before mid.reads new.reads under only.extends agrees)
    (omega (arith, within, only.lasts.stores, reads.lasts.stores))
    (subst (λ (w : PageMap). over w under root ≡ Some bytes) only.writes there)

-- the tree is the part below its root
root_part : (old mid new : PageState) (page : List ℕ) (content : Content) (under : PageMap) (quads : List Quad)
    (slots : List Slot) → Reads old mid root page
    → OnlyReads mid new → IsShown 0 64 page content → Agrees new.reads under → IsFormed new.stores (over new.writes under) quads
    slots
    → IsPart new content under quads
root_part old mid new page content under quads slots reads only shown agrees formed =
    let p = over new.writes under in
    let top = root_page p formed.level root least None quads slots formed.tree in
    let same : page ≡ top.1.bytes = root_bytes old mid new page top.1.bytes under quads slots reads only agrees formed top.1.held
    in
    let held : Holds p root content = record {
      bytes = top.1.bytes;
      held = top.1.held;
      spelled =
          subst (λ (xs : List ℕ). Spells content xs) same shown.spelled;
    } in
    let level : formed.level ≡ content.level = ap (λ (c : Content). c.level) (same_content p root _ content top.1 held) in
    record {
      agrees = agrees;
      in_stores = record { at = formed.in_range };
      slot = root;
      low = least;
      high = None;
      slots = slots;
      held = held;
      tree = subst (λ (n : ℕ). Subtree p n root least None quads slots) level formed.tree;
    }

-- the root's page is no page of a root
pub root_misshown : (old new : PageState) (page : List ℕ) (fault : PairFault) → Reads old new root page → fault ≡ Odd
    → ((content : Content) → IsShown 0 64 page content → ⊥) → HasCause old new (HasNoTree new) fault
root_misshown old new page fault reads is none = odd_cause old new (HasNoTree new) fault is (λ under agrees quads slots formed.
    let top = root_page (over new.writes under) formed.level root least None quads slots formed.tree in
    let same : page ≡ top.1.bytes = root_bytes old new new page top.1.bytes under quads slots reads (only_same new) agrees formed
    top.1.held in
    let content : Content = record { level = formed.level; cells = top.0 } in
    none content (record {
      spelled = subst (λ (xs : List ℕ). Spells content xs) (sym same) top.1.spelled;
      from = omega arith;
      to =
          formed.height;
    }))

pub found_in_tree : (Found : List Quad → Option Quad → Type 0) (old mid new : PageState) (page : List ℕ) (content : Content)
    (result : Result (Option Quad) PairFault)
    → Reads old mid root page → IsShown 0 64 page content → Walks Found mid new content result
    → IfOk result (λ found. IsFoundIn Found new found)
found_in_tree Found old mid new page content (Ok found) reads shown walks =
    λ under agrees quads slots formed. walks.answer under quads (root_part old mid new page content under quads slots reads
    walks.only shown agrees formed)
found_in_tree Found old mid new page content (Err fault) reads shown walks = tt

pub cause_in_tree : (Found : List Quad → Option Quad → Type 0) (old mid new : PageState) (page : List ℕ) (content : Content)
    (result : Result (Option Quad) PairFault)
    → Reads old mid root page → OnlyReads old mid → IsShown 0 64 page content → Walks Found mid new content result
    → IfErr result (λ fault. HasCause old new (HasNoTree new) fault)
cause_in_tree Found old mid new page content (Ok found) reads only shown walks = tt
cause_in_tree Found old mid new page content (Err fault) reads only shown walks =
    cause_later old mid new _ (HasNoTree new) fault only
    (λ none under agrees quads slots formed. none under quads (root_part old mid new page content under quads slots reads
    walks.only shown agrees formed))
    walks.answer

pub load_cause : (old new : PageState) (fault : PairFault) → HasCause old new ⊥ fault → HasCause old new (HasNoTree new) fault
load_cause old new fault cause = cause_later old old new ⊥ (HasNoTree new) fault (only_same old) (λ no. absurd no) cause
