-- What edits of a tree make of the versions that its pages show.
use Rattle.std.proofs.Common.{◌≡◌, ◌≢◌, inl, inr, ◌⊎◌, ℕ, Bool, true, false, List, [], Option, Some, None, refl, sym}
use Rattle.std.proofs.Common.{◌∙◌, ap, subst}
use Rattle.std.specs.Str.{bytes_eq}
use Rattle.pair_types.specs.declared.quad.Quad.{Quad}
use Rattle.pair_types.specs.declared.slot.Slot.{Slot}
use Rattle.pair_types.specs.PageMaps.{PageMap, Agrees, over}
use Rattle.pair_types.specs.PageState.{PageState}
use Rattle.btree_page.specs.Tree.{Among, IsFormed}
use Rattle.btree_edit.specs.Edited.{Room, room_in, IsOpen, Frame, EditsTree, EditsIn, HadNoTree, GoesOn}
use Rattle.pairs.specs.Lives.{Life}
use Rattle.pairs.specs.Versions.{Versions, with_lives}
use Rattle.pairs.proofs.VersionsLaws.{same-is, is-same, lives-here, lives-there}
use Rattle.birth_death.specs.Quads.{lives_of}
use Rattle.birth_death.specs.Shows.{IsOutside, Shows, MovesIn}
use Rattle.birth_death.proofs.Finding.{Lists, lists-of}
use Rattle.birth_death.proofs.Rising.{Rises, formed_rises}

-- the frame of an edit leaves blocks where they are
pub outside-kept : (room : Option Room) (p q : PageMap) (before after : List Slot) (slot : Slot) (block : List ℕ)
    → Frame room p q before after
    → IsOutside p before slot block → IsOutside q after slot block
outside-kept room p q before after slot block frame is =
    record { held = frame.others slot is.outside apart ∙ is.held; outside = apart }
  where
    closed : (room : Option Room) → IsOpen room p slot → ⊥
    closed None open' = open'
    closed (Some room) open' = let none : p slot ≡ None = open'.0 in let some : p slot ≡ Some block = is.held in cc

    either : (Among slot before) ⊎ IsOpen room p slot → ⊥
    either (inl there) = is.outside there
    either (inr open') = closed room open'

    apart : Among slot after → ⊥
    apart there = either (frame.within slot there)

-- versions with other lives
pub record SameBeside (v w : Versions) : Type 0 where
  pub stores : w.stores ≡ v.stores
  pub blocks : w.blocks ≡ v.blocks

unfoldable pub shows-edited : (Edit : List Quad → List Quad → Type 0) (store : Option ℕ) (old new : PageState)
    (under : PageMap) (v w : Versions) (s : Shows old under v)
    → new.stores ≡ old.stores
    → (t : EditsTree Edit (room_in store old) new.stores (over old.writes under)
    (over new.writes under) s.quads s.slots)
    → SameBeside v w → ((key : List ℕ) → w.lives key ≡ lives_of t.after key) → Shows new under w
shows-edited Edit store old new under v w s stores t same lives = record {
  stores = same.stores ∙ s.stores ∙ sym stores;
  quads = t.after;
  slots = t.reached;
  formed = t.formed;
  lives = lives;
  blocks = λ slot block is.
      outside-kept (room_in store old) (over old.writes under)
      (over new.writes under) s.slots t.reached slot block t.frame
      (s.blocks slot block (subst (λ (blocks : Slot → Option (List ℕ)). blocks slot ≡ Some block) same.blocks is));
}

-- the tree that an edit makes of one that is shown
pub edits-shown : (Edit : List Quad → List Quad → Type 0) (Given : List Quad → Type 0) (store : Option ℕ)
    (old new : PageState) (under : PageMap) (v : Versions)
    (s : Shows old under v) → EditsIn Edit Given store old new → GoesOn old new → Agrees new.reads under → Given s.quads
    → EditsTree Edit (room_in store old) new.stores (over old.writes under) (over new.writes under) s.quads s.slots
edits-shown Edit Given store old new under v s edits on agrees given =
    edits under agrees s.quads s.slots
    (subst (λ (n : ℕ). IsFormed n (over old.writes under) s.quads s.slots) (sym on.lasts.stores) s.formed) given

-- an edit of the list of records is an edit of the versions
pub record Means (Edit : List Quad → List Quad → Type 0) (Given : List Quad → Type 0) (IsGiven : Versions → Type 0)
    (edit : Versions → Versions) : Type 0 where
  pub same : (v : Versions) → SameBeside v (edit v)
  pub given : (v : Versions) (quads : List Quad) → Lists v quads → IsGiven v → Given quads
  pub lives : (v : Versions) (quads after : List Quad) → Lists v quads → Rises after → IsGiven v → Edit quads after
      → (key : List ℕ) → (edit v).lives key ≡ lives_of after key

pub moves-by : (Edit : List Quad → List Quad → Type 0) (Given : List Quad → Type 0) (store : Option ℕ)
    (old new : PageState) (IsGiven : Versions → Type 0) (edit : Versions → Versions)
    → Means Edit Given IsGiven edit → GoesOn old new → EditsIn Edit Given store old new → MovesIn old new IsGiven edit
moves-by Edit Given store old new IsGiven edit means on edits = λ under v agrees shows given.
    let listed = lists-of old under v shows in
    let t = edits-shown Edit Given store old new under v shows edits on agrees
    (means.given v shows.quads listed given) in
    shows-edited Edit store old new under v (edit v) shows on.lasts.stores t (means.same v)
    (means.lives v shows.quads t.after listed (formed_rises new.stores (over new.writes under) t.after t.reached
    t.formed) given t.edit)

-- no tree was shown of which an edit gives up
pub had-none : (Given : List Quad → Type 0) (old new : PageState) (IsGiven : Versions → Type 0) → GoesOn old new
    → ((v : Versions) (quads : List Quad) → Lists v quads → IsGiven v → Given quads) → HadNoTree Given old new
    → (under : PageMap) (v : Versions) → Agrees new.reads under → Shows old under v → IsGiven v → ⊥
had-none Given old new IsGiven on given none under v agrees shows is =
    none under agrees shows.quads shows.slots
    (subst (λ (n : ℕ). IsFormed n (over old.writes under) shows.quads shows.slots) (sym on.lasts.stores) shows.formed)
    (given v shows.quads (lists-of old under v shows) is)

-- ---- lives with those of one key edited

pub lives-with : (key : List ℕ) (ls : List Life) (lives : List ℕ → List Life) (after : List Quad)
    → lives_of after key ≡ ls
    → ((k : List ℕ) → k ≢ key → lives_of after k ≡ lives k) → (k : List ℕ)
    → with_lives key ls lives k ≡ lives_of after k
lives-with key ls lives after here there k = by_key (bytes_eq k key) refl
  where
    by_key : (t : Bool) → bytes_eq k key ≡ t → with_lives key ls lives k ≡ lives_of after k
    by_key true is =
        subst (λ (j : List ℕ). with_lives key ls lives j ≡ lives_of after j) (sym (same-is k key is))
        (lives-here key ls lives ∙ sym here)
    by_key false is = lives-there key k ls lives is ∙ sym (there k (λ same. differs same is))
      where
        differs : k ≡ key → bytes_eq k key ≡ false → ⊥
        differs same f = let t : bytes_eq k key ≡ true = subst (λ (j : List ℕ). bytes_eq k j ≡ true) same
            (is-same k) in cc
