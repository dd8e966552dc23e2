-- The root of the first tree, in records: its inode, and no names, no cookies and no blocks.
use Rattle.std.proofs.Common.{◌≡◌, ℕ, ◌/◌, ◌^◌, ◌<◌, ◌==◌, Bool, true, false, if◌then◌else◌, List, [], ◌∷◌}
use Rattle.std.proofs.Common.{Some, None, refl, sym, subst}
use Rattle.std.specs.Prelude.{option_map}
use Rattle.nfs3_types.specs.declared.moment.Moment.{Moment}
use Rattle.pairs.specs.declared.at.At.TheVariants.{Live}
use Rattle.pairs.specs.Lives.{Life, new_life, seen}
use Rattle.pairs.specs.Versions.{Versions}
use Rattle.fs_rules.specs.Attributes.{size_of}
use Rattle.fs_rules.specs.Names.{named}
use Rattle.fs_rules.specs.Places.{names_of}
use Rattle.fs_rules.specs.Tree.{Node, root_inode, always, first_nodes}
use Rattle.fs_keys.specs.declared.key_parts.KeyParts.TheVariants as key
use Rattle.fs_keys.specs.Inodes.{value_of}
use Rattle.fs_keys.specs.Values.{name_in, cookie_in}
use Rattle.fs_shows.specs.Extents.{Marks, row, ShowsContent, block_slot, byte_at}
use Rattle.fs_shows.specs.Nodes.{Holds, IsInodeOf, ShowsNode, ShowsInode, ShowsNodes, marks_of, name_row, cookie_row, numbered}
use Rattle.first_page.specs.Records.{IsTime, root_row}
use Rattle.first_page.specs.Standing.{versions_of}
use Rattle.first_page.proofs.Lives.{quads_with, inode_lives, name_lives, cookie_lives, extent_lives}
use Rattle.first_page.proofs.Values.{root_said}

abbrev root_node : Moment → Node
root_node at = record { inode = root_inode 2 3 (always at); content = []; names = [] }

root_is : (at : Moment) → IsInodeOf (root_row at) (root_node at)
unfolding root_inode size_of
root_is at = record { kept = refl; size = refl; target = refl }

module _ (stores : ℕ) (first times : List ℕ) (at : Moment) (is : IsTime at) where
  abbrev v : Versions
  v = versions_of stores (quads_with first (value_of (root_row at)) times)

  -- there is no block, so that each byte is 0
  no_slot : (file : ℕ) (m : Marks) (index : ℕ) → block_slot v Live file m index ≡ None
  unfolding block_slot
  no_slot file m index = rw (extent_lives first (value_of (root_row at)) times file index) refl

  no_bytes : (file : ℕ) (m : Marks) → ShowsContent v Live file m []
  unfolding byte_at
  no_bytes file m = record { bytes = λ offset fits. rw (no_slot file m (offset / 8192)) refl }

  shows_root : (id : ℕ) → ShowsNode v Live id (value_of (root_row at)) (root_node at)
  unfolding root_inode
  shows_root id = record {
    inode = root_row at;
    said = root_said at is;
    is = root_is at;
    content = no_bytes id (marks_of (root_row at).head);
  }

  by_id : (id : ℕ) (b : Bool) → ShowsInode v Live id (seen Live (if b then new_life 1 (value_of (root_row at)) ∷ [] else []))
      (if b then Some (root_node at) else None)
  by_id id true = shows_root id
  by_id id false = tt

  shows_inode : (id : ℕ) → id < 2 ^ 64 → ShowsInode v Live id (row v Live (key.Inode id)) (first_nodes at id)
  shows_inode id fits =
      subst (λ (ls : List Life). ShowsInode v Live id (seen Live ls) (first_nodes at id))
      (sym (inode_lives first (value_of (root_row at)) times id fits)) (by_id id (id == 1))

  -- the root has no names
  no_names : (directory : ℕ) (b : Bool) → names_of (if b then Some (root_node at) else None) ≡ []
  no_names directory true = refl
  no_names directory false = refl

  shows_names : (directory : ℕ) (name : List ℕ)
      → Holds name_in (row v Live (key.Name directory name))
      (option_map name_row (named name (names_of (first_nodes at directory))))
  unfolding named
  shows_names directory name =
      rw (name_lives first (value_of (root_row at)) times directory name, no_names directory (directory == 1)) tt

  shows_cookies : (directory cookie : ℕ)
      → Holds cookie_in (row v Live (key.Cookie directory cookie))
      (option_map cookie_row (numbered cookie (names_of (first_nodes at directory))))
  unfolding numbered
  shows_cookies directory cookie =
      rw (cookie_lives first (value_of (root_row at)) times directory cookie, no_names directory (directory == 1)) tt

  pub shows_nodes : ShowsNodes v Live (first_nodes at)
  shows_nodes = record {
    inodes = shows_inode;
    names = λ directory name fits short. shows_names directory name;
    cookies = λ directory cookie fits fits'. shows_cookies directory cookie;
  }
