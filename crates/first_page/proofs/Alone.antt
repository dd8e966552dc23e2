-- The page of the first tree's records, alone, is a B-tree of them, and so stands for that tree.
use Rattle.std.proofs.Common.{◌≡◌, ◌≢◌, ℕ, ◌<◌, ◌≤◌, ◌==◌, Bool, true, false, ◌&&◌, if◌then◌else◌, List, [], ◌∷◌}
use Rattle.std.proofs.Common.{map, Some, None, IsSome, refl, sym, ◌∙◌, arith}
use Rattle.std.specs.Ordering.{nat_cmp}
use Rattle.std.specs.declared.cmp.Ordering.TheVariants.{Less, Equal, Greater}
use Rattle.std.proofs.lemmas.Bool.{eqb-true}
use Rattle.std.proofs.lemmas.Cmp.{ranked, by_ranked}
use Rattle.nfs3_types.specs.declared.moment.Moment.{Moment}
use Rattle.pair_types.specs.declared.quad.Quad.{Quad}
use Rattle.pair_types.specs.declared.slot.Slot.{Slot}
use Rattle.btree_page.specs.Content.{bound_cmp, Spells}
use Rattle.btree_page.specs.Tree.{AllIn, quad_bound, least, root, IsFormed}
use Rattle.fs_rules.specs.Sound.{IsSound}
use Rattle.fs_rules.specs.Tree.{first_tree}
use Rattle.first_page.specs.Records.{AreGiven, first_quad, root_quad, times_quad}
use Rattle.first_page.specs.Standing.{only_page, IsFirstPage}
use Rattle.first_page.proofs.Adding.{page_of}
use Rattle.first_page.proofs.Lives.{quads_with}
use Rattle.first_page.proofs.Showing.{shows_first}

-- ---- a leaf alone

clash_less : Less ≡ Greater → ⊥
clash_less f = cc

clash_equal : Equal ≡ Greater → ⊥
clash_equal f = cc

from_least : (key : List ℕ) (birth : ℕ) → bound_cmp least (record { key = key; birth = birth }) ≢ Greater
from_least [] birth = by_ranked (0 < birth) (0 ≡ birth) (birth < 0) (nat_cmp 0 birth) (ranked 0 birth (nat_cmp 0 birth) refl)
    (λ is less f. clash_less (sym is ∙ f))
    (λ is same f. clash_equal (sym is ∙ f))
    (λ is more. absurd (omega arith))
from_least (x ∷ key) birth = clash_less

all_within : (quads : List Quad) → AllIn least None (map quad_bound quads)
all_within [] = tt
all_within (q ∷ qs) = (record { from = from_least q.key q.birth; to = λ end is. absurd cc }, all_within qs)

none_is_not_some : IsSome {T = List ℕ} None → ⊥
none_is_not_some h = cc

-- the page lies in the store 0
in_first_store : (page : List ℕ) (slot : Slot) (stores : ℕ) → 1 ≤ stores → (b : Bool) → (slot.store == 0) ≡ b
    → IsSome (if b && (slot.number == 0) then Some page else None) → slot.store < stores
in_first_store page slot stores some true is here = omega (arith, eqb-true slot.store 0 is)
in_first_store page slot stores some false is here = absurd (none_is_not_some here)

pub leaf_alone : (page : List ℕ) (quads : List Quad) (stores : ℕ) → 1 ≤ stores → Spells (page_of quads) page
    → IsFormed stores (only_page page) quads (root ∷ [])
leaf_alone page quads stores some spelled = record {
  in_range = λ slot here. in_first_store page slot stores some (slot.store == 0) refl here;
  level = 0;
  height = omega arith;
  tree = record {
    page = record { bytes = page; held = refl; spelled = spelled };
    within = all_within quads;
    reached = refl;
  };
}

-- ---- the first page

pub stands_alone : (fsid : ℕ) (verifier : List ℕ) (at : Moment) (page : List ℕ) → AreGiven fsid verifier at
    → IsSound (first_tree fsid verifier at)
    → Spells (page_of (quads_with (first_quad fsid verifier).value (root_quad at).value (times_quad at).value)) page
    → IsFirstPage page (first_tree fsid verifier at)
stands_alone fsid verifier at page given sound spelled stores some = record {
  quads = quads_with (first_quad fsid verifier).value (root_quad at).value (times_quad at).value;
  slots = root ∷ [];
  formed = leaf_alone page _ stores some spelled;
  stands = record { shows = shows_first stores fsid verifier at given some; sound = sound };
}
