-- A node that is new, and one that goes.
use Rattle.std.proofs.Common.{◌≡◌, ◌≢◌, ℕ, ◌<◌, ◌≤◌, ◌^◌, ◌/◌, ◌%◌, Bool, true, false, List, [], ◌∷◌, Option, Some, None, refl}
use Rattle.std.proofs.Common.{sym, ◌∙◌, ap, subst, arith}
use Rattle.std.specs.Prelude.{⊤, option_map, option_and_then, slice_index_or, IfSome, length}
use Rattle.pairs.specs.declared.at.At.TheVariants.{Live}
use Rattle.pairs.specs.Lives.{Life, seen}
use Rattle.pairs.specs.Versions.{Versions, HasLives, with_put, with_del}
use Rattle.fs_rules.specs.Edits.{with_node, add_node, drop_node}
use Rattle.fs_rules.specs.Places.{names_of}
use Rattle.fs_rules.specs.Sound.{is_given}
use Rattle.fs_rules.specs.Tree.{Tree, Node}
use Rattle.fs_keys.specs.declared.key_parts.KeyParts.TheVariants.{First, Inode, Name, Cookie, Extent, Stale}
use Rattle.fs_keys.specs.declared.inode.Inode.{Inode as InodeRow}
use Rattle.fs_keys.specs.declared.rows.Extent.{Extent as ExtentRow}
use Rattle.fs_keys.specs.Inodes.{inode_of, value_of}
use Rattle.fs_keys.specs.Keys.{key_of}
use Rattle.fs_keys.specs.Values.{extent_in}
use Rattle.fs_shows.specs.Extents.{Marks, IsPlace, row, block_size, extent_at, byte_at, ShowsContent}
use Rattle.fs_shows.specs.Nodes.{Holds, ShowsInode, IsInodeOf, marks_of, bytes_of}
use Rattle.fs_shows.specs.Shows.{Shows, live_marks, counts_by}
use Rattle.fs_shows.specs.Files.{IsNew, IsUngiven, MayGo}
use Rattle.fs_shows.proofs.Apart.{Differ, short-name, keys-apart, IsApart}
use Rattle.fs_shows.proofs.Rewriting.{Rewrites, rewrites-none, row-put, row-put-other, row-del, row-del-other, lives-put-other}
use Rattle.fs_shows.proofs.Rewriting.{row-apart, byte-none, keeps-put}
use Rattle.fs_shows.proofs.NodeEdits.{NodeHere, NamesHere, StaleHere, node-shown, rewrites-own-put, rewrites-own-del, names-same}
use Rattle.fs_shows.proofs.InodeEdits.{inode-first, inode-apart-name, inode-apart-cookie, inode-apart-stale, inode-apart-extent}

no-lives : (ls : List Life) → (ls ≢ [] → ⊥) → ls ≡ []
no-lives [] none = refl
no-lives (l ∷ ls) none = absurd (none (λ is. cc))

some-none : {A : Type 0} (o : Option A) (a : A) → o ≡ None → o ≡ Some a → ⊥
some-none o a p q = cc

true-false : (b : Bool) → b ≡ true → b ≡ false → ⊥
true-false b p q = cc

-- ---- a new node

-- a file whose number was not given has no extents
no-extent : (v : Versions) (t : Tree) (id index : ℕ) → IsPlace id index → Shows v t → is_given t id ≡ false → v.lives
    (key_of (Extent id index)) ≡ []
no-extent v t id index place shows none =
    no-lives (v.lives (key_of (Extent id index)))
    (λ some. true-false (is_given t id) (shows.within.extents id index place some) none)

pub node-made : (v : Versions) (t : Tree) (id : ℕ) (i : InodeRow) (n : Node) → id < 2 ^ 64 → Shows v t → IsUngiven id t
    → IsNew i n
    → inode_of (value_of i) ≡ Some i → Shows (with_put (key_of (Inode id)) (value_of i) v) (add_node id n t)
unfolding add_node
node-made v t id i n fits shows free new again = node-shown v z t id (Some n) shows r here
  where
    z : Versions
    z = with_put (key_of (Inode id)) (value_of i) v

    r : Rewrites v z (IsApart id)
    r = rewrites-own-put id (Inode id) (value_of i) v v fits refl (rewrites-none v (IsApart id) shows.lives)

    now : row z Live (Inode id) ≡ Some (value_of i)
    now = row-put (Inode id) (value_of i) v fits (λ is. cc) shows.lives

    none : (index : ℕ) → index < 2 ^ 64 → row z Live (Extent id index) ≡ None
    none index less =
        row-apart v z (IsApart id) (Extent id index) Live r (fits, less) tt
        ∙ ap (seen Live) (no-extent v t id index (record { file_fits = fits; index_fits = less }) shows free.ungiven)

    unextended : (index : ℕ) (x : ExtentRow) → IsPlace id index → extent_at z Live id index ≡ Some x → ⊥
    unextended index x place is = some-none (extent_at z Live id index) x
        (ap (option_and_then extent_in) (none index place.index_fits)) is

    here : NodeHere z t id (Some n)
    here = record {
      inode = subst (λ (x : Option (List ℕ)). ShowsInode z Live id x (Some n)) (sym now) (record {
        inode = i;
        said = again;
        is = new.is;
        content = record {
          bytes = λ o less. new.blank o ∙ sym (byte-none z Live id (marks_of i.head) o (none (o / block_size) (omega arith)));
        };
      });
      names = names-same v z t id n.names shows fits (new.names ∙ sym (ap names_of free.absent))
          (λ name short. row-put-other (Inode id) (Name id name) (value_of i) v Live fits (fits, short-name name short)
          (inode-apart-name id id name))
          (λ cookie fits'. row-put-other (Inode id) (Cookie id cookie) (value_of i) v Live fits (fits, fits')
          (inode-apart-cookie id id cookie));
      stale = record {
        within = λ index x place is. absurd (unextended index x place is);
        marked = λ index x place is out. absurd (unextended index x place is);
        given = λ some. shows.within.stale id fits
            (subst (λ (ls : List Life). ls ≢ []) (lives-put-other (key_of (Inode id)) (value_of i) (key_of (Stale id)) v
            (keys-apart (Inode id) (Stale id) fits fits (inode-apart-stale id id))) some);
      };
    }

-- ---- a node that goes

pub stale-first : (id : ℕ) → Differ First (Stale id)
stale-first id is = cc

-- the file is marked as one that has stale extents, and its inode goes
pub node-gone : (v : Versions) (t : Tree) (id : ℕ) (mark : List ℕ) → id < 2 ^ 64 → Shows v t → MayGo id t
    → Shows (with_del (key_of (Inode id)) (with_put (key_of (Stale id)) mark v)) (drop_node id t)
unfolding drop_node
node-gone v t id mark fits shows may = node-shown v z t id None shows r here
  where
    y : Versions
    y = with_put (key_of (Stale id)) mark v

    z : Versions
    z = with_del (key_of (Inode id)) y

    marked : HasLives y
    marked = keeps-put (Stale id) mark v fits (stale-first id) shows.lives

    r : Rewrites v z (IsApart id)
    r = rewrites-own-del id (Inode id) v y fits refl
        (rewrites-own-put id (Stale id) mark v v fits refl (rewrites-none v (IsApart id) shows.lives))

    gone : row z Live (Inode id) ≡ None
    gone = row-del (Inode id) y marked

    there : row z Live (Stale id) ≡ Some mark
    there = row-del-other (Inode id) (Stale id) y Live fits fits (inode-apart-stale id id) ∙ row-put (Stale id) mark v fits
        (stale-first id) shows.lives

    no-marks : live_marks z id ≡ None
    no-marks = ap (λ (x : Option (List ℕ)). option_map (λ (i : InodeRow). marks_of i.head) (option_and_then inode_of x)) gone

    here : NodeHere z t id None
    here = record {
      inode = subst (λ (x : Option (List ℕ)). ShowsInode z Live id x None) (sym gone) tt;
      names = names-same v z t id [] shows fits (sym may.bare)
          (λ name short.
          row-del-other (Inode id) (Name id name) y Live fits (fits, short-name name short) (inode-apart-name id id name)
          ∙ row-put-other (Stale id) (Name id name) mark v Live fits (fits, short-name name short) (λ is. cc))
          (λ cookie fits'.
          row-del-other (Inode id) (Cookie id cookie) y Live fits (fits, fits') (inode-apart-cookie id id cookie)
          ∙ row-put-other (Stale id) (Cookie id cookie) mark v Live fits (fits, fits') (λ is. cc));
      stale = record {
        within = λ index x place is. subst (λ (o : Option Marks). IfSome o (λ m. x.stamp ≤ m.stamp)) (sym no-marks) tt;
        marked = λ index x place is out none. some-none (row z Live (Stale id)) mark none there;
        given = λ some. may.given;
      };
    }
