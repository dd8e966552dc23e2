-- How the root follows what calls do.
use Rattle.std.proofs.Common.{◌≡◌, ◌≢◌, inl, inr, ◌⊎◌, ℕ, ◌+◌, ◌<◌, ◌≤◌, List, [], Option, Some, None, length, refl}
use Rattle.std.proofs.Common.{sym, ◌∙◌, ap, subst, arith}
use Rattle.std.specs.Prelude.{unwrap_or}
use Rattle.pair_types.specs.declared.fault.PageFault.{PageFault}
use Rattle.pair_types.specs.declared.slot.Slot.{Slot}
use Rattle.pair_types.specs.PageMaps.{PageMap, ReadMap, Extends, page_of, laid, latest}
use Rattle.pair_types.specs.PageState.{PageState, Writes, GivesUp}
use Rattle.btree_page.specs.Content.{Content, Spells}
use Rattle.btree_page.specs.Tree.{root}
use Rattle.btree_page.proofs.Trees.{has_one_content}
use Rattle.btree_search.specs.Found.{OnlyReads}
use Rattle.btree_search.proofs.Ways.{no_page}
use Rattle.btree_edit.specs.Edited.{GoesOn, RootStays, RootGrows, IsFull}
use Rattle.btree_edit.proofs.States.{extends_learns}
use Rattle.birth_death.specs.Roots.{WasRoot, IsHigh, IsMoved, FollowsPuts, KeepsRoot}

-- where the root was read as a page, it is known
known_page : (held : Option (Option (List ℕ))) (content : Content) → Spells content (page_of (unwrap_or held None))
    → (page : Option (List ℕ)) × (held ≡ Some page)
known_page None content spelled = absurd (no_page content [] spelled refl)
known_page (Some page) content spelled = (page, refl)

read_same : (old new : PageState) (content : Content) → Extends old.reads new.reads → WasRoot old content
    → new.reads root ≡ old.reads root
read_same old new content extends was =
    let known = known_page (old.reads root) content was.spelled in extends.at root known.0 known.1 ∙ sym known.1

pub was-later : (old new : PageState) (content : Content) → Extends old.reads new.reads → WasRoot old content
    → WasRoot new content
was-later old new content extends was =
    record {
      spelled = subst (λ (held : Option (Option (List ℕ))). Spells content (page_of (unwrap_or held None)))
          (sym (read_same old new content extends was)) was.spelled;
    }

-- what was not written reads as it was read
unwritten : (writes : PageMap) (reads : ReadMap) (content : Content) → writes root ≡ None
    → Spells content (latest writes reads root)
    → Spells content (page_of (unwrap_or (reads root) None))
unwritten writes reads content none spelled =
    subst (λ (held : Option (List ℕ)). Spells content (page_of (laid held (unwrap_or (reads root) None)))) none spelled

-- ---- the root is not written

pub follows-same : (puts : ℕ) (old new : PageState) → new.writes root ≡ old.writes root → Extends old.reads new.reads
    → FollowsPuts puts old → FollowsPuts puts new
follows-same puts old new same extends (inl none) = inl (same ∙ none)
follows-same puts old new same extends (inr m) =
    inr (record {
      before = m.before;
      after = m.after;
      was = was-later old new m.before extends m.was;
      is =
          subst (λ (held : Option (List ℕ)). Spells m.after (page_of (laid held (unwrap_or (new.reads root) None))))
          (sym same)
          (subst (λ (held : Option (Option (List ℕ))). Spells m.after
          (page_of (laid (old.writes root) (unwrap_or held None))))
          (sym (read_same old new m.before extends m.was)) m.is);
      moved = m.moved;
    })

pub follows-only : (puts : ℕ) (old new : PageState) → OnlyReads old new → FollowsPuts puts old → FollowsPuts puts new
follows-only puts old new only = follows-same puts old new (ap (λ (w : PageMap). w root) only.writes) only.extends

pub follows-more : (puts more : ℕ) (state : PageState) → puts ≤ more → FollowsPuts puts state → FollowsPuts more state
follows-more puts more state up (inl none) = inl none
follows-more puts more state up (inr m) =
    inr (record { before = m.before; after = m.after; was = m.was; is = m.is; moved = moved m.moved })
  where
    moved : (m.after.level ≡ m.before.level) ⊎ (length m.after.cells ≤ 2 + puts)
        → (m.after.level ≡ m.before.level) ⊎ (length m.after.cells ≤ 2 + more)
    moved (inl same) = inl same
    moved (inr few) = inr (omega arith)

pub keeps-same : (old new : PageState) → new.writes root ≡ old.writes root → Extends old.reads new.reads
    → KeepsRoot 0 old new
keeps-same old new same extends = λ puts follows.
    follows-more puts (puts + 0) new (omega arith) (follows-same puts old new same extends follows)

pub keeps-only : (old new : PageState) → OnlyReads old new → KeepsRoot 0 old new
keeps-only old new only = keeps-same old new (ap (λ (w : PageMap). w root) only.writes) only.extends

pub keeps-still : (state : PageState) → KeepsRoot 0 state state
keeps-still state = keeps-same state state refl (record { at = λ slot held is. is })

pub keeps-written : (old new : PageState) (slot : Slot) (page : List ℕ) → (slot ≡ root → ⊥) → Writes old new slot page
    → KeepsRoot 0 old new
keeps-written old new slot page other writes =
    keeps-same old new (writes.puts.others root (λ same. other (sym same)))
    (extends_learns old.reads new.reads slot writes.learns)

pub keeps-gives_up : (old new : PageState) (fault : PageFault) → GivesUp old new fault → KeepsRoot 0 old new
keeps-gives_up old new fault gives = keeps-same old new (ap (λ (w : PageMap). w root) gives.writes) gives.extends

-- ---- the root moved

-- as it was when a call began, where it follows the puts
record Began (puts : ℕ) (old new : PageState) (content : Content) : Type 0 where
  first : Content
  was : WasRoot new first
  moved : (content.level ≡ first.level) ⊎ (length content.cells ≤ 2 + puts)

began : (puts : ℕ) (old new : PageState) (content : Content) → Extends old.reads new.reads
    → Spells content (latest old.writes new.reads root)
    → FollowsPuts puts old → Began puts old new content
began puts old new content extends spelled (inl none) =
    record {
      first = content;
      was = record { spelled = unwritten old.writes new.reads content none spelled };
      moved = inl refl;
    }
began puts old new content extends spelled (inr m) =
    record { first = m.before; was = was-later old new m.before extends m.was; moved = moved }
  where
    there : Spells m.after (latest old.writes new.reads root)
    there =
        subst (λ (held : Option (Option (List ℕ))). Spells m.after
        (page_of (laid (old.writes root) (unwrap_or held None)))) (sym (read_same old new m.before extends m.was)) m.is

    same : content ≡ m.after
    same = has_one_content _ content m.after spelled there

    moved : (content.level ≡ m.before.level) ⊎ (length content.cells ≤ 2 + puts)
    moved = subst (λ (c : Content). (c.level ≡ m.before.level) ⊎ (length c.cells ≤ 2 + puts)) (sym same) m.moved

pub keeps-stays : (old new : PageState) → GoesOn old new → RootStays old new → KeepsRoot 0 old new
keeps-stays old new on stays = λ puts follows.
    inr (moved puts (began puts old new stays.before on.extends stays.was follows))
  where
    moved : (puts : ℕ) → Began puts old new stays.before → IsMoved (puts + 0) new
    moved puts b = record { before = b.first; after = stays.after; was = b.was; is = stays.is; moved = by_move b.moved }
      where
        by_move : (stays.before.level ≡ b.first.level) ⊎ (length stays.before.cells ≤ 2 + puts)
            → (stays.after.level ≡ b.first.level) ⊎ (length stays.after.cells ≤ 2 + (puts + 0))
        by_move (inl same) = inl (stays.moves.0 ∙ same)
        by_move (inr few) = inr (omega (arith, stays.moves.1))

pub keeps-grows : (old new : PageState) → GoesOn old new → RootGrows old new → KeepsRoot 1 old new
keeps-grows old new on grows = λ puts follows.
    inr (moved puts (began puts old new grows.before on.extends grows.was follows))
  where
    moved : (puts : ℕ) → Began puts old new grows.before → IsMoved (puts + 1) new
    moved puts b = record {
      before = b.first;
      after = grows.after;
      was = b.was;
      is = grows.is;
      moved = by_move b.moved grows.moves;
    }
      where
        by_move : (grows.before.level ≡ b.first.level) ⊎ (length grows.before.cells ≤ 2 + puts)
            → ((grows.after.level ≡ grows.before.level) × (length grows.after.cells ≤ length grows.before.cells + 1))
            ⊎ ((grows.after.level ≡ grows.before.level + 1) × (length grows.after.cells ≡ 2))
            → (grows.after.level ≡ b.first.level) ⊎ (length grows.after.cells ≤ 2 + (puts + 1))
        by_move (inl same) (inl h) = inl (h.0 ∙ same)
        by_move (inr few) (inl h) = inr (omega (arith, h.1))
        by_move before (inr h) = inr (omega (arith, h.1))

-- two calls, of which the second puts
pub keeps-then : (a b c : PageState) → KeepsRoot 0 a b → KeepsRoot 1 b c → KeepsRoot 1 a c
keeps-then a b c first second = λ puts follows.
    follows-more ((puts + 0) + 1) (puts + 1) c (omega arith) (second (puts + 0) (first puts follows))

pub keeps-reads-then : (a b c : PageState) (n : ℕ) → OnlyReads a b → KeepsRoot n b c → KeepsRoot n a c
keeps-reads-then a b c n only second = λ puts follows. second puts (follows-only puts a b only follows)

pub keeps-both : (a b c : PageState) → KeepsRoot 0 a b → KeepsRoot 0 b c → KeepsRoot 0 a c
keeps-both a b c first second = λ puts follows.
    follows-more ((puts + 0) + 0) (puts + 0) c (omega arith) (second (puts + 0) (first puts follows))

-- a full root was as high when it was read, where few puts were made
pub full-high : (puts : ℕ) (old new : PageState) → puts < 24 → GoesOn old new → FollowsPuts puts old → IsFull old new
    → IsHigh new
full-high puts old new few on follows full = by_move (began puts old new full.content on.extends full.spelled follows)
  where
    by_move : Began puts old new full.content → IsHigh new
    by_move b = either b.moved
      where
        either : (full.content.level ≡ b.first.level) ⊎ (length full.content.cells ≤ 2 + puts) → IsHigh new
        either (inl same) = record { content = b.first; was = b.was; highest = sym same ∙ full.highest }
        either (inr less) = absurd (omega (arith, full.many))
