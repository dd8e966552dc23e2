-- The first page, alone in its slot, is what a journal begins with.
use Rattle.std.proofs.Common.{◌≡◌, ℕ, ◌==◌, ◌≤◌, ◌&&◌, Bool, true, false, if◌then◌else◌, List, Option, Some, None, refl, sym}
use Rattle.std.proofs.Common.{◌∙◌, subst}
use Rattle.std.proofs.Math.Path.{fun_ext}
use Rattle.std.specs.Prelude.{option_and_then}
use Rattle.pair_types.specs.declared.slot.Slot.{Slot}
use Rattle.pair_types.specs.PageMaps.{PageMap}
use Rattle.page_types.specs.Journals.{Origin}
use Rattle.page_types.specs.Stores.{first_kept, first_written, never_written}
use Rattle.serial_rules.specs.Worlds.{World, first_page, first_world}
use Rattle.serial_rules.specs.Committed.{present, shown, standing, to_come}
use Rattle.btree_page.specs.Tree.{IsFormed}
use Rattle.fs_rules.specs.Tree.{Tree}
use Rattle.first_page.specs.Standing.{IsFirstPage, only_page, versions_of}
use Rattle.fss_meaning.specs.Meaning.{PagesStand}

-- what a slot of a store shows that began with this page, or with none
of-store : (world : World) (first : Option (List ℕ)) (number : ℕ)
    → present (standing (to_come world (first_kept first number).writer) (first_kept first number))
    ≡ option_and_then (λ page. if number == 0 then Some page else None) first
of-store world None number = refl
of-store world (Some page) number = by_zero (number == 0)
  where
    by_zero : (b : Bool)
        → present (standing (to_come world (if b then first_written page else never_written).writer)
        (if b then first_written page else never_written)) ≡ (if b then Some page else None)
    by_zero true = refl
    by_zero false = refl

only-first : (origin : Origin) (s : Slot) → shown (first_world origin) s ≡ only_page origin.first s
only-first origin s =
    of-store (first_world origin) (first_page origin s.store) s.number ∙ by_store (s.store == 0)
  where
    by_store : (b : Bool)
        → option_and_then (λ (page : List ℕ). if s.number == 0 then Some page else None)
        (if b then Some origin.first else None)
        ≡ (if b && (s.number == 0) then Some origin.first else None)
    by_store true = refl
    by_store false = refl

pub first-stands : (origin : Origin) (t : Tree) → 1 ≤ origin.stores → IsFirstPage origin.first t
    → PagesStand origin.stores (shown (first_world origin)) t
first-stands origin t some first =
    let alone = first origin.stores some in
    record {
      versions = versions_of origin.stores alone.quads;
      shown = record {
        stores = refl;
        quads = alone.quads;
        slots = alone.slots;
        formed = subst (λ (p : PageMap). IsFormed origin.stores p alone.quads alone.slots)
            (sym (fun_ext (only-first origin))) alone.formed;
        lives = λ key. refl;
        blocks = λ slot block at. absurd (cc);
      };
      stands = alone.stands;
    }
