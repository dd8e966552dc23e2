-- A view by the number of the epoch sees what is live: each life was born by then, and what is dead died by then.
use Rattle.std.proofs.Common.{◌≡◌, ◌≢◌, ℕ, ◌/◌, ◌%◌, ◌<◌, inl, inr, List, [], ◌∷◌, Option, Some, None, refl, sym, ◌∙◌, ap}
use Rattle.std.proofs.Common.{subst, arith}
use Rattle.std.proofs.lemmas.Grind.{common_steps}
use Rattle.std.specs.Prelude.{slice_index_or, option_map, option_and_then, unwrap_or}
use Rattle.pairs.specs.declared.at.At.{At}
use Rattle.pairs.specs.declared.at.At.TheVariants.{Live, Snap}
use Rattle.pairs.specs.Lives.{Life, never, seen, AreLives}
use Rattle.pairs.specs.Versions.{Versions, HasLives, epoch}
use Rattle.fs_rules.specs.Names.{named}
use Rattle.fs_rules.specs.Places.{names_of}
use Rattle.fs_rules.specs.Tree.{Nodes, Node}
use Rattle.fs_keys.specs.declared.key_parts.KeyParts.TheVariants.{Inode, Name, Cookie, Extent}
use Rattle.fs_keys.specs.Keys.{Parts, key_of}
use Rattle.fs_keys.specs.Values.{extent_in, name_in, cookie_in}
use Rattle.fs_shows.specs.Extents.{Marks, counted, slot_of, row, block_size, block_slot, byte_at, ShowsContent}
use Rattle.fs_shows.specs.Nodes.{Holds, ShowsInode, ShowsNodes, marks_of, bytes_of, name_row, cookie_row, numbered}

pub seen-now : (n from : ℕ) (ls : List Life) → n < never → AreLives n from ls → seen (Snap n) ls ≡ seen Live ls
unfolding AreLives
seen-now n from [] early are = refl
seen-now n from (l ∷ ls) early (a, b, c, inl h) = grind (arith, common_steps, h.0)
seen-now n from (l ∷ ls) early (a, b, c, inr h) =
    let ih : seen (Snap n) ls ≡ seen Live ls = seen-now n l.death ls early h.1 in
    let old : l.death ≢ never = omega (arith, h.0) in
    grind (arith, common_steps, ih, old, h.0)

pub row-now : (v : Versions) (n : ℕ) (p : Parts) → HasLives v → epoch v ≡ n → row v (Snap n) p ≡ row v Live p
row-now v n p lives is =
    seen-now n 0 (v.lives (key_of p)) (subst (λ (e : ℕ). e < never) is lives.early)
    (subst (λ (e : ℕ). AreLives e 0 (v.lives (key_of p))) is (lives.lives (key_of p)))

-- ---- two views that see the same rows show the same nodes

module _ (v : Versions) (at to : At) (same : (p : Parts) → row v to p ≡ row v at p) where
  byte-viewed : (file : ℕ) (m : Marks) (offset : ℕ) → byte_at v to file m offset ≡ byte_at v at file m offset
  unfolding byte_at block_slot
  byte-viewed file m offset =
      ap (λ (x : Option (List ℕ)). slice_index_or
      (unwrap_or
      (option_and_then v.blocks
      (option_map (slot_of v.stores file (offset / block_size))
      (counted m (offset / block_size) (option_and_then extent_in x))))
      [])
      (offset % block_size)
      0)
      (same (Extent file (offset / block_size)))

  content-viewed : (id : ℕ) (m : Marks) (content : List ℕ) → ShowsContent v at id m content → ShowsContent v to id m content
  content-viewed id m content shows = record { bytes = λ o less. shows.bytes o less ∙ sym (byte-viewed id m o) }

  inode-viewed : (id : ℕ) (value : Option (List ℕ)) (n : Option Node) → ShowsInode v at id value n → ShowsInode v to id value n
  inode-viewed id None None shows = tt
  inode-viewed id None (Some n) shows = shows
  inode-viewed id (Some value) None shows = shows
  inode-viewed id (Some value) (Some n) shows = record {
    inode = shows.inode;
    said = shows.said;
    is = shows.is;
    content = content-viewed id (marks_of shows.inode.head) (bytes_of n) shows.content;
  }

  pub nodes-viewed : (nodes : Nodes) → ShowsNodes v at nodes → ShowsNodes v to nodes
  nodes-viewed nodes shows = record {
    inodes = λ id fits.
        subst (λ (x : Option (List ℕ)). ShowsInode v to id x (nodes id)) (sym (same (Inode id)))
        (inode-viewed id (row v at (Inode id)) (nodes id) (shows.inodes id fits));
    names = λ directory name fits short.
        subst (λ (x : Option (List ℕ)). Holds name_in x (option_map name_row (named name (names_of (nodes directory)))))
        (sym (same (Name directory name))) (shows.names directory name fits short);
    cookies = λ directory cookie fits fits'.
        subst (λ (x : Option (List ℕ)). Holds cookie_in x (option_map cookie_row (numbered cookie (names_of (nodes directory)))))
        (sym (same (Cookie directory cookie))) (shows.cookies directory cookie fits fits');
  }
