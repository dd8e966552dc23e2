-- What a map of pages in memory keeps: each written slot was read, and the reads are true of what lies below.
use Rattle.std.proofs.Common.{◌≡◌, ◌||◌, ℕ, List, Bool, true, false, Option, Some, None, IsSome, is_some, if◌then◌else◌, refl}
use Rattle.std.proofs.Common.{subst}
use Rattle.std.specs.BTreeSet.{contains}
use Rattle.pair_types.specs.declared.mem_pages.MemPages.{MemPages}
use Rattle.pair_types.specs.PageMaps.{PageMap}
use Rattle.pair_types.specs.PageState.{IsSound}
use Rattle.pair_types.specs.MemPages.{place_cmp, held_of, writes_of, state_of}

-- at one slot
abbrev pub known_at : Bool → Option (List ℕ) → Option (List ℕ) → Option (Option (List ℕ))
known_at read written held = if read || is_some written then Some held else None

pub known_at-written : (read : Bool) (written held : Option (List ℕ)) → IsSome written → IsSome (known_at read written held)
known_at-written true written held some = refl
known_at-written false (Some page) held some = refl
known_at-written false None held some = some

known_at-held : (read : Bool) (written held told : Option (List ℕ)) → known_at read written held ≡ Some told → held ≡ told
known_at-held true written held told is = cc
known_at-held false (Some page) held told is = cc
known_at-held false None held told is = cc

pub state_of-sound : (pages : MemPages) → IsSound (state_of pages)
state_of-sound pages = record {
  covers = λ s written. known_at-written (contains place_cmp pages.read (s.store, s.number)) (writes_of pages s) (held_of pages s)
      written;
  agrees = λ below told. record {
    at = λ s held is.
        let same : held_of pages ≡ below = cc in
        subst (λ (under : PageMap). under s ≡ held) same
        (known_at-held (contains place_cmp pages.read (s.store, s.number)) (writes_of pages s) (held_of pages s) held is);
  };
}
