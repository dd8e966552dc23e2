-- How a map of pages in memory changes with the collections that it is made of.
use Rattle.std.proofs.Common.{◌≡◌, ◌≢◌, ℕ, List, Bool, true, false, Option, Some, None, IsSome, refl, sym, ap, subst, arith, ◌∙◌}
use Rattle.std.proofs.Common.{le_of_eq, [], ◌<◌, ◌≤◌, unwrap_or, ⊎_elim}
use Rattle.std.proofs.lemmas.Bool.{cases_lt}
use Rattle.std.proofs.lemmas.Map.Lookups.{exact_pairs, exact_unsigned}
use Rattle.std.specs.BTreeMap as tree
use Rattle.std.specs.BTreeMap.{BTreeMap, is_at}
use Rattle.std.specs.BTreeSet as sorted
use Rattle.std.specs.BTreeSet.{BTreeSet}
use Rattle.std.specs.Ordering.{is_eq, nat_cmp}
use Rattle.std.specs.declared.cmp.Ordering.{Ordering}
use Rattle.std.specs.declared.cmp.Ordering.TheVariants.{Less, Equal, Greater}
use Rattle.pair_types.specs.declared.slot.Slot.{Slot}
use Rattle.pair_types.specs.declared.mem_pages.MemPages.{MemPages}
use Rattle.pair_types.specs.PageMaps.{PageMap, Puts, page_of, laid}
use Rattle.pair_types.specs.MemPagesSound.{known_at, known_at-written}
use Rattle.pair_types.specs.PageState.{PageState, Reads, Writes, GivesUp, Freshens, no_memory}
use Rattle.pair_types.specs.declared.fault.PageFault.{PageFault}
use Rattle.pair_types.specs.MemPages.{place_cmp, held_of, writes_of, reads_of, state_of, IsMarked, IsFreeIn, Sets}

abbrev place : Slot → ℕ × ℕ
place s = (s.store, s.number)

equal_from_test : (o : Ordering) → is_eq o ≡ true → o ≡ Equal
equal_from_test Less h = cc
equal_from_test Equal h = refl
equal_from_test Greater h = cc

slot_from_place : (s t : Slot) → place s ≡ place t → t ≡ s
slot_from_place s t e =
    let same : t ≡ s = ap (λ (p : ℕ × ℕ). let made : Slot = record { store = p.0; number = p.1 } in made) (sym e) in same

-- two slots are found at different places
other_place : (s t : Slot) → t ≢ s → is_at (place_cmp (place s)) (place t) ≡ false
other_place s t apart = at_test _ refl
  where
    at_test : (b : Bool) → is_at (place_cmp (place s)) (place t) ≡ b → is_at (place_cmp (place s)) (place t) ≡ false
    at_test false e = e
    at_test true e =
        absurd (apart (slot_from_place s t (exact_pairs nat_cmp nat_cmp exact_unsigned exact_unsigned _ _ (equal_from_test _ e))))

-- one insertion into a map of pages is one put
pub puts_from_updates : (m n : BTreeMap (ℕ × ℕ) (List ℕ)) (s : Slot) (page : List ℕ)
    → tree.Updates place_cmp m n (place s) (Some page)
    → Puts (λ t. tree.get place_cmp m (place t)) (λ t. tree.get place_cmp n (place t)) s page
puts_from_updates m n s page updates = record {
  put = updates.1;
  others = λ t apart. updates.2 (place t) (other_place s t apart);
}

-- what one slot is known to hold, at the parts that it is read from
known : BTreeSet (ℕ × ℕ) → BTreeMap (ℕ × ℕ) (List ℕ) → BTreeMap (ℕ × ℕ) (List ℕ) → Slot → Option (Option (List ℕ))
known read written held t =
    known_at (sorted.contains place_cmp read (place t)) (tree.get place_cmp written (place t)) (tree.get place_cmp held (place t))

-- a slot that is added to those that were read is known, and no other slot changes
pub marked : (old new : MemPages) (s : Slot) → new.stores ≡ old.stores → new.held ≡ old.held → new.written ≡ old.written
    → sorted.Updates place_cmp old.read new.read (place s) true → IsMarked old new s
marked old new s stores held written updates = record {
  stores = stores;
  held = ap (λ (m : BTreeMap (ℕ × ℕ) (List ℕ)). λ t. tree.get place_cmp m (place t)) held;
  writes = ap (λ (m : BTreeMap (ℕ × ℕ) (List ℕ)). λ t. tree.get place_cmp m (place t)) written;
  known = rw (updates.1, held) refl;
  others = λ t apart. rw (updates.2 (place t) (other_place s t apart), held, written) refl;
}

none_is_not_some : IsSome {T = Option (List ℕ)} None → ⊥
none_is_not_some h = cc

-- a slot that is known is known to hold what lies there
known_at-some : (read : Bool) (written held : Option (List ℕ)) → IsSome (known_at read written held)
    → Some held ≡ known_at read written held
known_at-some true written held some = refl
known_at-some false (Some w) held some = refl
known_at-some false None held some = absurd (none_is_not_some some)

learns_by_write : (read : Bool) (written held : Option (List ℕ)) (page : List ℕ)
    → IsSome (known_at read written held) → known_at read (Some page) held ≡ known_at read written held
learns_by_write true written held page some = refl
learns_by_write false (Some w) held page some = refl
learns_by_write false None held page some = cc

-- an insertion among the writes is a write
pub written_so : (old new : MemPages) (s : Slot) (page : List ℕ) → new.stores ≡ old.stores → new.held ≡ old.held
    → new.read ≡ old.read
    → tree.Updates place_cmp old.written new.written (place s) (Some page) → Writes (state_of old) (state_of new) s page
written_so old new s page stores held read updates = record {
  lasts = record {
    stores = stores;
    below = ap (λ (m : BTreeMap (ℕ × ℕ) (List ℕ)). Some (λ t. tree.get place_cmp m (place t))) held;
    faults = λ fault. omega arith;
  };
  puts = puts_from_updates old.written new.written s page updates;
  learns = record {
    known = rw (updates.1, held, read) (known_at-written (sorted.contains place_cmp old.read (place s)) (Some page)
        (held_of old s) refl);
    kept = λ some. rw (updates.1, held, read) (learns_by_write (sorted.contains place_cmp old.read (place s)) (writes_of old s)
        (held_of old s) page some);
    others = λ t apart. rw (updates.2 (place t) (other_place s t apart), held, read) refl;
  };
}

-- a slot that is set is held, and unread and unwritten
pub sets_so : (old new : MemPages) (s : Slot) (page : List ℕ) → new.stores ≡ old.stores
    → tree.Updates place_cmp old.held new.held (place s) (Some page)
    → sorted.Updates place_cmp old.read new.read (place s) false
    → tree.Updates place_cmp old.written new.written (place s) None → Sets old new s page
sets_so old new s page stores held read written = record {
  stores = stores;
  held = puts_from_updates old.held new.held s page held;
  unread = rw (read.1, written.1) refl;
  unwritten = written.1;
  other_reads = λ t apart.
      let away = other_place s t apart in
      rw (read.2 (place t) away, written.2 (place t) away, held.2 (place t) away) refl;
  other_writes = λ t apart. written.2 (place t) (other_place s t apart);
}

-- a call that gives up for want of memory, with nothing changed
pub gives_up_unchanged : (old new : PageState) (fault : PageFault) → new ≡ old → fault ≡ no_memory → GivesUp old new fault
gives_up_unchanged old new fault same is = record {
  lasts = record {
    stores = ap (λ (s : PageState). s.stores) same;
    below = ap (λ (s : PageState). s.below) same;
    faults = λ f. le_of_eq (ap (λ (s : PageState). s.faults f) (sym same));
  };
  writes = ap (λ (s : PageState). s.writes) same;
  extends = record { at = λ t held was. ap (λ (s : PageState). s.reads t) same ∙ was };
  unchanged = λ _. ap (λ (s : PageState). s.reads) same;
  counted = λ isnt. absurd (isnt is);
}

-- a free slot that is marked is fresh
pub fresh_so : (old new : MemPages) (s : Slot) (store : ℕ) → IsFreeIn old store s → IsMarked old new s
    → Freshens (state_of old) (state_of new) store s
fresh_so old new s store free marked = record {
  lasts = record { stores = marked.stores; below = ap (λ (m : PageMap). Some m) marked.held; faults = λ fault. omega arith };
  writes = marked.writes;
  store = free.store;
  unread = free.unread;
  unwritten = free.unwritten;
  absent = marked.known ∙ ap (λ (h : Option (List ℕ)). Some h) free.held;
  learns = record {
    known = rw marked.known refl;
    kept = λ some. absurd (none_is_not_some (subst (λ (o : Option (Option (List ℕ))). IsSome o) free.unread some));
    others = marked.others;
  };
}

-- a slot that is in none of the collections is free
pub free_so : (pages : MemPages) (s : Slot) → tree.get place_cmp pages.held (place s) ≡ None
    → tree.get place_cmp pages.written (place s) ≡ None → sorted.contains place_cmp pages.read (place s) ≡ false
    → IsFreeIn pages s.store s
free_so pages s held written read = record { store = refl; held = held; unread = rw (read, written) refl; unwritten = written }

-- a mark and then the page in the slot is a read
pub read_so : (old new : MemPages) (s : Slot) (page : List ℕ)
    → (s.store < old.stores → IsMarked old new s)
    → (old.stores ≤ s.store → state_of new ≡ state_of old)
    → (s.store < new.stores → page ≡ page_of (laid (writes_of new s) (held_of new s)))
    → (new.stores ≤ s.store → page ≡ [])
    → Reads (state_of old) (state_of new) s page
read_so old new s page within beyond page_within page_beyond =
    ⊎_elim inside outside (cases_lt s.store old.stores)
  where
    inside : s.store < old.stores → Reads (state_of old) (state_of new) s page
    inside h =
        let mark : IsMarked old new s = within h in record {
          lasts = record { stores = mark.stores; below = ap (λ (m : PageMap). Some m) mark.held; faults = λ fault. omega arith };
          writes = mark.writes;
          learns = λ _. record {
            known = rw mark.known refl;
            kept = λ some. kept mark some;
            others = mark.others;
          };
          latest = λ _.
              page_within (omega (arith, mark.stores))
              ∙ ap (λ (m : PageMap). page_of (laid (writes_of new s) (m s))) mark.held
              ∙ ap (λ (o : Option (Option (List ℕ))). page_of (laid (writes_of new s) (unwrap_or o None))) (sym mark.known);
          beyond = λ over. absurd (omega arith);
        }
      where
        kept : IsMarked old new s → IsSome (reads_of old s) → reads_of new s ≡ reads_of old s
        kept mark some = mark.known ∙ known_at-some (sorted.contains place_cmp old.read (place s)) (writes_of old s)
            (held_of old s) some

    outside : old.stores ≤ s.store → Reads (state_of old) (state_of new) s page
    outside h =
        let same : state_of new ≡ state_of old = beyond h in record {
          lasts = record {
            stores = ap (λ (a : PageState). a.stores) same;
            below = ap (λ (a : PageState). a.below) same;
            faults = λ fault. omega arith;
          };
          writes = ap (λ (a : PageState). a.writes) same;
          learns = λ under. absurd (omega arith);
          latest = λ under. absurd (omega arith);
          beyond = λ _. (page_beyond (omega (arith, ap (λ (a : PageState). a.stores) same)), same);
        }
