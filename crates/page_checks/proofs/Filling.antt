-- Records of one key that rise by birth.
use Rattle.std.proofs.Common.{ℕ, ◌≡◌, ◌+◌, true, [], None, List, refl, arith}
use Rattle.std.proofs.lemmas.Bool.{lt-ltb}
use Rattle.std.proofs.lemmas.Cmp.{tied_itself, nat_list_cmp_total}
use Rattle.std.specs.Ordering.{nat_cmp}
use Rattle.std.specs.declared.cmp.Ordering.TheVariants.{Less}
use Rattle.btree_page.specs.Content.{Content, Follows, last_bound, leaf_entry, with_cell}
use Rattle.btree_page.proofs.Cells.{last_bound-push}

-- the record born one later may follow
pub rises : (key value : List ℕ) (birth death : ℕ) (page : Content)
    → Follows true (last_bound None (with_cell page (leaf_entry key birth death value)).cells) (leaf_entry key (birth + 1) 0 [])
rises key value birth death page =
    rw (last_bound-push None page.cells (leaf_entry key birth death value)) (rw (tied_itself nat_list_cmp_total key) (later birth))
  where
    later : (n : ℕ) → nat_cmp n (n + 1) ≡ Less
    later n = rw (lt-ltb n (n + 1) (omega arith)) refl
