-- Where there was room, a node can be made, on every sound tree; and what is told of it is what the tree shows.
use Rattle.std.proofs.Common.{◌≡◌, ◌∙◌, ℕ, ◌+◌, ◌≤◌, ◌<◌, Bool, true, false, if◌then◌else◌, List, length}
use Rattle.std.proofs.Common.{Option, Some, None, refl, sym, ap, subst, arith}
use Rattle.std.specs.Prelude.{option_map}
use Rattle.nfs3_types.specs.declared.attributes.Fattr.{Fattr}
use Rattle.nfs3_types.specs.declared.body.CreateOk.{CreateOk}
use Rattle.nfs3_types.specs.declared.file_type.FileType.{FileType}
use Rattle.nfs3_types.specs.declared.handle.Handle.{Handle}
use Rattle.nfs3_types.specs.declared.moment.Moment.{Moment}
use Rattle.nfs3_types.specs.Handles.{handle}
use Rattle.fs_rules.specs.declared.place.Place.{Place}
use Rattle.fs_rules.specs.declared.inode.Inode.{Inode as InodeKept}
use Rattle.fs_rules.specs.declared.place.Place.TheVariants.{Live, SnapshotDirectory, Kept}
use Rattle.fs_rules.specs.Attributes.{attributes_of, is_directory, size_of, wcc_of}
use Rattle.fs_rules.specs.Checks.{is_live}
use Rattle.fs_rules.specs.Edits.{add_link, add_node, edit_node, give_number}
use Rattle.fs_rules.specs.Limits.{most_links}
use Rattle.fs_rules.specs.Making.{gain_name, told_of_new}
use Rattle.fs_rules.specs.Names.{named}
use Rattle.fs_rules.specs.Places.{Object, attributes, entry_at, fileid_at, handle_at, names_of, node_at, object_at, object_by}
use Rattle.fs_rules.specs.Places.{shown}
use Rattle.fs_rules.specs.Sound.{IsDirectoryWithin, IsNodeWithin, IsOfKind, IsSound}
use Rattle.fs_rules.specs.Tree.{Tree, Node}
use Rattle.fs_keys.specs.declared.inode.Inode.{Inode}
use Rattle.fs_shows.specs.Files.{IsNew, IsUngiven}
use Rattle.fs_shows.specs.Nodes.{name_row}
use Rattle.fs_shows.proofs.NameLists.{next-is-fresh}
use Rattle.procs_object.specs.Finding.{IsPlaceFor}
use Rattle.procs_object.proofs.Handles.{attributes-by-inode}
use Rattle.procs_making.specs.declared.child.NewNode.{NewNode}
use Rattle.procs_making.specs.declared.room.Room.{Room}
use Rattle.procs_making.specs.Children.{child_of, node_by, made_in, CanMake, gained_attributes, told_new}
use Rattle.procs_making.specs.Rooms.{IsRoom}
use Rattle.procs_making.proofs.Made.{child-apart}
use Rattle.procs_making.proofs.Sounds.{added-elsewhere, added-here, at-elsewhere, at-here, kind-is, next-ungiven, node-has}

pub map-none : {A B : Type 0} (f : A → B) (o : Option A) → option_map f o ≡ None → o ≡ None
map-none f (Some a) is = absurd (cc)
map-none f None is = refl

pub some-same : (o : Option Node) (m n : Node) → o ≡ Some m → o ≡ Some n → m ≡ n
some-same o m n one two = cc

pub live-is : (p : Place) → is_live p ≡ true → p ≡ Live (fileid_at p)
live-is (Live id) live = refl
live-is SnapshotDirectory live = absurd (cc)
live-is (Kept number id) live = absurd (cc)

-- ---- the directory of a room

module _ (name : List ℕ) (lane : ℕ) (t : Tree) (x : Room) (o : Object) (room : IsRoom name lane t x o)
    (place : IsPlaceFor name x.directory) where
  abbrev number : ℕ
  number = fileid_at x.directory.place

  abbrev directory-node : Node
  directory-node = room.object.node

  place-is : x.directory.place ≡ Live number
  place-is = live-is x.directory.place place.live

  -- its node is there
  pub room-node : t.nodes number ≡ Some directory-node
  unfolding node_at
  room-node = subst (λ (p : Place). node_at t p ≡ Some directory-node) place-is room.object.there

  -- the attributes that were found are the node's
  pub room-attributes : attributes_of t.fsid number directory-node.inode (length directory-node.content) ≡ x.directory.attributes
  unfolding attributes
  room-attributes =
      sym (ap (λ (o : Object). attributes t o) (room.object.is ∙ ap (λ (p : Place). object_by p directory-node) place-is))
      ∙ room.object.attributes

  -- the attributes say the file system
  pub room-fsid : t.fsid ≡ x.directory.attributes.fsid
  unfolding attributes_of
  room-fsid = ap (λ (a : Fattr). a.fsid) room-attributes

  entry-there : entry_at t o.place name ≡ named name directory-node.names
  unfolding entry_at node_at
  entry-there =
      ap (λ (p : Place). entry_at t p name) (ap (λ (o : Object). o.place) room.object.is ∙ place-is)
      ∙ ap (λ (o : Option Node). named name (names_of o)) room-node

  module _ (sound : IsSound t) (low : lane < 16) (free : x.entry ≡ None) where
    node-within : IsNodeWithin number directory-node
    node-within = node-has (IsNodeWithin number) (t.nodes number) directory-node room-node (sound.bounds.live.each number)

    kind-there : is_directory directory-node.inode.kind ≡ true
    kind-there = ap (λ (k : InodeKept). is_directory k.kind) (sym room.object.inode.kept) ∙ place.directory

    directory-within : IsDirectoryWithin number directory-node
    directory-within =
        subst (λ (k : FileType). IsOfKind k number directory-node) (kind-is directory-node.inode.kind kind-there) node-within.kind

    name-free : named name directory-node.names ≡ None
    name-free = sym entry-there ∙ map-none name_row (entry_at t o.place name) (room.entry ∙ free)

    -- a node can be made there
    pub can-make : (now : Moment) (inode : Inode) → CanMake name (child_of now lane x inode) t
    can-make now inode = record {
      ungiven = subst (λ (id : ℕ). IsUngiven id t) room.next (next-ungiven t lane low sound.bounds);
      give = record { has = omega (arith, low, sound.bounds.lanes); most = (sound.bounds.next lane low).most };
      add = record {
        node = directory-node;
        there = room-node;
        free = name-free;
        fresh = next-is-fresh 3 directory-node.inode.next_cookie directory-node.names directory-within.entries.cookies;
        room = record { cookies = directory-within.most; links = node-within.links };
      };
    }

-- ---- what is told

gained-by : (b : Bool) (fsid id : ℕ) (name : List ℕ) (target : ℕ) (now : Moment) (n : Node) (after : Node)
    → after ≡ (if b then add_link n else n)
    → attributes_of fsid id (record after.inode { next_cookie = after.inode.next_cookie + 1; mtime = now; ctime = now })
    (length after.content)
    ≡ record (attributes_of fsid id n.inode (length n.content)) {
      nlink = if b then n.inode.nlink + 1 else n.inode.nlink;
      mtime = now;
      ctime = now;
    }
unfolding attributes_of size_of
gained-by true fsid id name target now n after is = rw is refl
gained-by false fsid id name target now n after is = rw is refl

-- the attributes of a directory that has gained a name
attributes-gained : (fsid id : ℕ) (kind : FileType) (name : List ℕ) (target : ℕ) (now : Moment) (n : Node)
    → attributes_of fsid id (gain_name kind name target now n).inode (length (gain_name kind name target now n).content)
    ≡ gained_attributes kind now (attributes_of fsid id n.inode (length n.content))
unfolding attributes_of
attributes-gained fsid id kind name target now n =
    gained-by (is_directory kind) fsid id name target now n (if is_directory kind then add_link n else n) refl

pub shown-live : (t : Tree) (id : ℕ) (n : Node) → t.nodes id ≡ Some n
    → shown t (Live id) ≡ Some (attributes_of t.fsid id n.inode (length n.content))
unfolding shown object_at node_at attributes
shown-live t id n is = ap (λ (o : Option Node). option_map (attributes t) (option_map (object_by (Live id)) o)) is

module _ (name : List ℕ) (x : NewNode) (t : Tree) (directory : Fattr) (can : CanMake name x t)
    (is : attributes_of t.fsid x.plan.directory can.add.node.inode (length can.add.node.content) ≡ directory)
    (new : IsNew x.inode (node_by x.inode)) where
  abbrev after : Tree
  after = made_in name x t

  -- a link more of the directory can be counted
  pub links-fit : directory.nlink ≤ most_links
  unfolding attributes_of
  links-fit = subst (λ (n : ℕ). n ≤ most_links) (ap (λ (a : Fattr). a.nlink) is) can.add.room.links

  own-fsid : t.fsid ≡ directory.fsid
  unfolding attributes_of
  own-fsid = ap (λ (a : Fattr). a.fsid) is

  after-fsid : after.fsid ≡ t.fsid
  unfolding edit_node add_node give_number
  after-fsid = refl

  child-there : after.nodes x.plan.fileid ≡ Some (node_by x.inode)
  child-there =
      at-elsewhere x.plan.directory x.plan.fileid (gain_name x.inode.head.kept.kind name x.plan.fileid x.moment)
      (add_node x.plan.fileid (node_by x.inode) (give_number x.lane t)) (λ same. child-apart name x t can (sym same))
      ∙ added-here x.plan.fileid (node_by x.inode) (give_number x.lane t)

  directory-there : after.nodes x.plan.directory
      ≡ Some (gain_name x.inode.head.kept.kind name x.plan.fileid x.moment can.add.node)
  unfolding give_number
  directory-there =
      at-here x.plan.directory (gain_name x.inode.head.kept.kind name x.plan.fileid x.moment)
      (add_node x.plan.fileid (node_by x.inode) (give_number x.lane t)) can.add.node
      (added-elsewhere x.plan.fileid x.plan.directory (node_by x.inode) (give_number x.lane t) (child-apart name x t can)
      ∙ can.add.there)

  child-shown : shown after (Live x.plan.fileid)
      ≡ Some (attributes_of directory.fsid x.plan.fileid x.inode.head.kept x.inode.head.size)
  child-shown =
      shown-live after x.plan.fileid (node_by x.inode) child-there
      ∙ ap (λ (a : Fattr). Some a) (attributes-by-inode after.fsid x.plan.fileid x.inode (node_by x.inode) new.is)
      ∙ ap (λ (f : ℕ). Some (attributes_of f x.plan.fileid x.inode.head.kept x.inode.head.size)) (after-fsid ∙ own-fsid)

  directory-shown : shown after (Live x.plan.directory) ≡ Some (gained_attributes x.inode.head.kept.kind x.moment directory)
  directory-shown =
      let g = gain_name x.inode.head.kept.kind name x.plan.fileid x.moment can.add.node in
      shown-live after x.plan.directory g directory-there
      ∙ ap (λ (f : ℕ). Some (attributes_of f x.plan.directory g.inode (length g.content))) after-fsid
      ∙ ap (λ (a : Fattr). Some a)
      (attributes-gained t.fsid x.plan.directory x.inode.head.kept.kind name x.plan.fileid x.moment can.add.node)
      ∙ ap (λ (a : Fattr). Some (gained_attributes x.inode.head.kept.kind x.moment a)) is

  abbrev own-handle : List ℕ
  own-handle = handle.spelling (record { fsid = directory.fsid; snapshot = 0; fileid = x.plan.fileid })

  abbrev own-attributes : Fattr
  own-attributes = attributes_of directory.fsid x.plan.fileid x.inode.head.kept x.inode.head.size

  handle-is : handle_at after (Live x.plan.fileid) ≡ own-handle
  unfolding handle_at
  handle-is =
      ap (λ (f : ℕ). let h : Handle = record { fsid = f; snapshot = 0; fileid = x.plan.fileid } in handle.spelling h)
      (after-fsid ∙ own-fsid)

  -- it is what the trees before and behind show
  pub told-is : told_of_new t after (Live x.plan.directory) (Live x.plan.fileid) ≡ told_new directory x
  unfolding told_of_new
  told-is =
      let whole : List ℕ → Option Fattr → Option Fattr → Option Fattr → CreateOk =
      λ h child before now. record { object = Some h; attributes = child; directory = wcc_of before now } in
      ap (λ (h : List ℕ). whole h (shown after (Live x.plan.fileid)) (shown t (Live x.plan.directory))
      (shown after (Live x.plan.directory))) handle-is
      ∙ ap (λ (c : Option Fattr). whole own-handle c (shown t (Live x.plan.directory)) (shown after (Live x.plan.directory)))
      child-shown
      ∙ ap (λ (b : Option Fattr). whole own-handle (Some own-attributes) b (shown after (Live x.plan.directory)))
      (shown-live t x.plan.directory can.add.node can.add.there ∙ ap (λ (a : Fattr). Some a) is)
      ∙ ap (λ (d : Option Fattr). whole own-handle (Some own-attributes) (Some directory) d) directory-shown
