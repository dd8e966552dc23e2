-- Rows that make a node: once there is room, a check, and then the node and its name.
use Rattle.std.proofs.Common.{◌≡◌, ◌∙◌, ℕ, ◌≤◌, ◌<◌, Bool, List, length, Option, None, Ok, Err, refl, sym, ap, subst, arith}
use Rattle.std.specs.Prelude.{is_some, is_ok}
use Rattle.nfs3_types.specs.declared.args.DirOp.{DirOp}
use Rattle.nfs3_types.specs.declared.body.Body.{Body}
use Rattle.nfs3_types.specs.declared.body.CreateOk.{CreateOk}
use Rattle.nfs3_types.specs.declared.cred.Cred.{Cred}
use Rattle.nfs3_types.specs.declared.moment.Moment.{Moment}
use Rattle.nfs3_types.specs.declared.status.Status.{Status}
use Rattle.fs_rules.specs.declared.inode.Inode.{Inode}
use Rattle.fs_rules.specs.declared.place.Place.{Place}
use Rattle.fs_rules.specs.declared.place.Place.TheVariants.{Live}
use Rattle.fs_rules.specs.declared.plans.NewPlan.{NewPlan}
use Rattle.fs_rules.specs.Checks.{Check, Row, Done, ◌>>=◌, done}
use Rattle.fs_rules.specs.Limits.{most_links}
use Rattle.fs_rules.specs.Edits.{add_node, edit_node, give_number}
use Rattle.fs_rules.specs.Making.{Making, gain_name, make_node, new_node, told_of_new}
use Rattle.fs_rules.specs.Places.{Object, entry_at, fileid_at}
use Rattle.fs_rules.specs.Sound.{IsSound}
use Rattle.fs_rules.specs.Attributes.{attributes_of}
use Rattle.fs_rules.specs.Tree.{Tree, Node, next_fileid}
use Rattle.fs_keys.specs.declared.inode.Inode.{Inode as NewInode}
use Rattle.fs_keys.specs.declared.rows.NameRow.{NameRow}
use Rattle.fs_shows.specs.Files.{IsNew}
use Rattle.fs_shows.specs.Nodes.{name_row}
use Rattle.pair_types.specs.declared.fault.PairFault.{PairFault}
use Rattle.pair_types.specs.declared.fault.PairFault.TheVariants.{Page}
use Rattle.pair_types.specs.PageState.{no_memory}
use Rattle.pairs.specs.Told.{PairsTold, Goes}
use Rattle.fs_shows.specs.declared.halt.Halt.{Halt}
use Rattle.fs_shows.specs.declared.halt.Halt.TheVariants.{Refused, Fault}
use Rattle.fs_shows.specs.Steps.{Edits, Reads, EditGivesUp}
use Rattle.fs_shows.proofs.Doing.{goes-most, up-memory}
use Rattle.procs_object.specs.Finding.{IsPlaceFor, CheckedOn}
use Rattle.procs_object.specs.Performing.{Performs}
use Rattle.procs_object.proofs.Gathering.{halts-by, refuses-by, edits-by, edit-halts-by}
use Rattle.procs_object.proofs.Told.{object-place, object-inode}
use Rattle.procs_making.specs.declared.child.NewNode.{NewNode}
use Rattle.procs_making.specs.declared.room.Room.{Room}
use Rattle.procs_making.specs.Children.{child_of, node_by, made_in, CanMake, told_new}
use Rattle.procs_making.specs.Rooms.{IsRoom, room_found}
use Rattle.procs_making.proofs.Grouped.{mapped-some}
use Rattle.procs_making.proofs.Placed.{can-make, links-fit, room-attributes, room-node, some-same, told-is}

abbrev plan-at : Tree → ℕ → ℕ → NewPlan
plan-at t lane directory = record { directory = directory; fileid = next_fileid t lane }

-- what is made where, by whom and when; what is checked of the directory, of whether the name is there, and of the number that
-- the node would get; and what is told
pub record Wanted : Type 0 where
  pub cred : Cred
  pub place : DirOp (List ℕ)
  pub now : Moment
  pub lane : ℕ
  pub check : Inode → Bool → ℕ → Check (Unit {0})
  pub making : Making
  -- the inode by the number of the directory, and that its node is the table's
  pub inode : ℕ → NewInode
  pub whole : (parent : ℕ) → node_by (inode parent) ≡ new_node cred now parent making
  pub body : CreateOk → Body

module _ (q : Wanted) where
  abbrev pub wanted-child : Room → NewNode
  wanted-child x = child_of q.now q.lane x (q.inode (fileid_at x.directory.place))

  -- the check of what was read
  abbrev pub wanted-check : Room → Check (Unit {0})
  wanted-check x = q.check x.directory.inode.head.kept (is_some x.entry) x.next

  module _ (t : Tree) where
    -- what is planned of a directory
    abbrev pub plan-in : Object → Check NewPlan
    plan-in o = Ok (plan-at t q.lane (fileid_at o.place))

    abbrev pub rest-of : Object → Check NewPlan
    rest-of o = q.check o.inode (is_some (entry_at t o.place q.place.name)) (next_fileid t q.lane) >>= (λ u. plan-in o)

    abbrev pub row-of : Check NewPlan → Row
    row-of plan =
        done plan (λ plan. make_node q.cred q.now q.lane plan q.place.name q.making t)
        (λ plan after. q.body (told_of_new t after (Live plan.directory) (Live plan.fileid)))

    -- it is told, and made
    abbrev pub done-by : NewNode → CreateOk → Row
    done-by child ok = Ok (record { body = q.body ok; tree = made_in q.place.name child t })

    -- the row, once there is room
    module _ (row : Row) (x : Room) (o : Object) (room : IsRoom q.place.name q.lane t x o) (is : row ≡ row-of (rest-of o)) where
      checked : (c : Check (Unit {0})) → wanted-check x ≡ c → row ≡ row-of (c >>= (λ u. plan-in o))
      checked c checks =
          is
          ∙ ap (λ (i : Inode). row-of (q.check i (is_some (entry_at t o.place q.place.name)) (next_fileid t q.lane)
          >>= (λ u. plan-in o))) (object-inode t x.directory o room.object)
          ∙ ap (λ (b : Bool). row-of (q.check x.directory.inode.head.kept b (next_fileid t q.lane) >>= (λ u. plan-in o)))
          (sym (mapped-some name_row (entry_at t o.place q.place.name)) ∙ ap (λ (e : Option NameRow). is_some e) room.entry)
          ∙ ap (λ (n : ℕ). row-of (q.check x.directory.inode.head.kept (is_some x.entry) n >>= (λ u. plan-in o))) room.next
          ∙ ap (λ (c : Check (Unit {0})). row-of (c >>= (λ u. plan-in o))) checks

      -- the check that follows refuses
      pub row-refused : (status : Status) → wanted-check x ≡ Err status → row ≡ Err status
      row-refused status checks = checked (Err status) checks

      plan-is : plan-at t q.lane (fileid_at o.place) ≡ (wanted-child x).plan
      plan-is =
          ap (λ (p : Place). plan-at t q.lane (fileid_at p)) (object-place t x.directory o room.object)
          ∙ ap (λ (n : ℕ). let p : NewPlan = record { directory = fileid_at x.directory.place; fileid = n } in p) room.next

      made-is : make_node q.cred q.now q.lane (wanted-child x).plan q.place.name q.making t
          ≡ made_in q.place.name (wanted-child x) t
      unfolding make_node new_node
      made-is =
          let p : NewPlan = (wanted-child x).plan in
          ap (λ (n : Node). edit_node p.directory (gain_name n.inode.kind q.place.name p.fileid q.now)
          (add_node p.fileid n (give_number q.lane t))) (sym (q.whole (fileid_at x.directory.place)))

      module _ (place : IsPlaceFor q.place.name x.directory) (sound : IsSound t) (low : q.lane < 16) (free : x.entry ≡ None)
          (new : IsNew (wanted-child x).inode (node_by (wanted-child x).inode)) where
        -- a node can be made
        pub row-can : CanMake q.place.name (wanted-child x) t
        row-can = can-make q.place.name q.lane t x o room place sound low free q.now (q.inode (fileid_at x.directory.place))

        -- its directory has the attributes that were read
        row-attributes : attributes_of t.fsid (wanted-child x).plan.directory row-can.add.node.inode
            (length row-can.add.node.content) ≡ x.directory.attributes
        row-attributes =
            ap (λ (n : Node). attributes_of t.fsid (wanted-child x).plan.directory n.inode (length n.content))
            (some-same (t.nodes (wanted-child x).plan.directory) row-can.add.node room.object.node row-can.add.there
            (room-node q.place.name q.lane t x o room place))
            ∙ room-attributes q.place.name q.lane t x o room place

        -- a link more of the directory can be counted
        pub row-links : x.directory.attributes.nlink ≤ most_links
        row-links = links-fit q.place.name (wanted-child x) t x.directory.attributes row-can row-attributes new

        -- the node is made
        pub row-made : (u : Unit {0}) → wanted-check x ≡ Ok u → row ≡ Ok (record {
          body = q.body (told_new x.directory.attributes (wanted-child x));
          tree = made_in q.place.name (wanted-child x) t;
        })
        row-made u checks =
            checked (Ok u) checks ∙ ap (λ (p : NewPlan). row-of (Ok p)) plan-is
            ∙ ap (λ (after : Tree). let d : Done = record {
              body = q.body (told_of_new t after (Live (wanted-child x).plan.directory) (Live (wanted-child x).plan.fileid));
              tree = after;
            } in Ok d) made-is
            ∙ ap (λ (c : CreateOk). done-by (wanted-child x) c)
            (told-is q.place.name (wanted-child x) t x.directory.attributes row-can row-attributes new)

-- a row that is such on every tree
module _ (q : Wanted) (row : Tree → Row)
    (is : (t : Tree) → row t ≡ row-of q t (room_found t q.cred q.place >>= rest-of q t)) where
  pub row-halts : (t : Tree) (status : Status) → room_found t q.cred q.place ≡ Err status → row t ≡ Err status
  row-halts t status refused = is t ∙ ap (λ (c : Check Object). row-of q t (c >>= rest-of q t)) refused

  pub row-goes_on : (t : Tree) (o : Object) → room_found t q.cred q.place ≡ Ok o
      → row t ≡ row-of q t (rest-of q t o)
  row-goes_on t o found = is t ∙ ap (λ (c : Check Object). row-of q t (c >>= rest-of q t)) found

-- ---- procedures that end so

module _ {S W : Type 0} (told : PairsTold S W) (q : Wanted) (row : Tree → Row)
    (halts : (t : Tree) (status : Status) → room_found t q.cred q.place ≡ Err status → row t ≡ Err status) (old new : S)
    (goes : Goes told old new 0) where
  -- there was no room
  pub making-halts : (halt : Halt)
      → CheckedOn told old new IsSound (IsRoom q.place.name q.lane) (λ t. room_found t q.cred q.place) (Err halt)
      → Performs told old new 5 row (Err halt)
  making-halts (Refused status) checked =
      refuses-by told old new row (λ t. room_found t q.cred q.place ≡ Err status) checked 5 status
      (goes-most told old new 0 5 (omega arith) goes) (λ t sound refused. halts t status refused)
  making-halts (Fault fault) up = halts-by told old new 5 row (goes-most told old new 0 5 (omega arith) goes) fault up

-- what was read of a tree
abbrev pub RoomOn : Wanted → Room → Tree → Type 0
RoomOn q x t = (o : Object) × (room_found t q.cred q.place ≡ Ok o) × IsRoom q.place.name q.lane t x o

module _ {S W : Type 0} (told : PairsTold S W) (q : Wanted) (row : Tree → Row) (x : Room)
    (goes_on : (t : Tree) (found : RoomOn q x t) → row t ≡ row-of q t (rest-of q t found.0)) where
  -- the check that follows refuses
  pub making-refuses : (old new : S) → Goes told old new 0 → Reads told old new IsSound (RoomOn q x) → (status : Status)
      → wanted-check q x ≡ Err status → Performs told old new 5 row (Err (Refused status))
  making-refuses old new goes reads status checks =
      refuses-by told old new row (RoomOn q x) reads 5 status (goes-most told old new 0 5 (omega arith) goes)
      (λ t sound found. row-refused q t (row t) x found.0 found.2 (goes_on t found) status checks)

  module _ (old mid new : S) (before : Goes told old mid 0) (goes : Goes told mid new 5)
      (reads : Reads told old mid IsSound (RoomOn q x)) (place : IsPlaceFor q.place.name x.directory) (low : q.lane < 16)
      (free : x.entry ≡ None)
      (new-is : IsNew (wanted-child q x).inode (node_by (wanted-child q x).inode)) (u : Unit {0})
      (checks : wanted-check q x ≡ Ok u) where
    can : (t : Tree) → IsSound t → RoomOn q x t → CanMake q.place.name (wanted-child q x) t
    can t sound found =
        row-can q t (row t) x found.0 found.2 (goes_on t found) place sound low free new-is

    made : (t : Tree) → IsSound t → RoomOn q x t → row t ≡ Ok (record {
      body = q.body (told_new x.directory.attributes (wanted-child q x));
      tree = made_in q.place.name (wanted-child q x) t;
    })
    made t sound found =
        row-made q t (row t) x found.0 found.2 (goes_on t found) place sound low free new-is u checks

    module _ (name : List ℕ) (child : NewNode) (own : name ≡ q.place.name) (same : child ≡ wanted-child q x) where
      -- the node was made, and is told of
      pub making-done : (ok : CreateOk) → (x.directory.attributes.nlink ≤ most_links → ok ≡ told_new x.directory.attributes child)
          → Edits told mid new (CanMake name child) (made_in name child) → Performs told old new 5 row (Ok (q.body ok))
      making-done ok is edited =
          let by_name : List ℕ → Type 0 = λ n. Edits told mid new (CanMake n child) (made_in n child) in
          let by_child : NewNode → Type 0 = λ c. Edits told mid new (CanMake q.place.name c) (made_in q.place.name c) in
          edits-by told old mid row (RoomOn q x) reads new 0 5 before goes (CanMake q.place.name (wanted-child q x)) can
          (q.body ok) (made_in q.place.name (wanted-child q x))
          (λ t sound found.
          made t sound found
          ∙ ap (λ (c : CreateOk). done-by q t (wanted-child q x) c)
          (sym (is (row-links q t (row t) x found.0 found.2 (goes_on t found) place sound low free new-is)
          ∙ ap (λ (c : NewNode). told_new x.directory.attributes c) same)))
          (subst by_child same (subst by_name own edited))

      -- it could not be made
      pub making-fails : (fault : PairFault) → EditGivesUp told mid new (CanMake name child) fault
          → Performs told old new 5 row (Err (Fault fault))
      making-fails fault up =
          let by_name : List ℕ → Type 0 = λ n. EditGivesUp told mid new (CanMake n child) fault in
          let by_child : NewNode → Type 0 = λ c. EditGivesUp told mid new (CanMake q.place.name c) fault in
          edit-halts-by told old mid row (RoomOn q x) reads new 0 5 before goes (CanMake q.place.name (wanted-child q x)) can
          (omega arith) (λ t sound found. ap (λ (r : Row). is_ok r) (made t sound found)) fault
          (subst by_child same (subst by_name own up))

-- memory ran out
pub making-lacks : {S W : Type 0} (told : PairsTold S W) (row : Tree → Row) (old new : S) → Goes told old new 0
    → (fault : PairFault) → fault ≡ Page no_memory → Performs told old new 5 row (Err (Fault fault))
making-lacks told row old new goes fault lacks =
    halts-by told old new 5 row (goes-most told old new 0 5 (omega arith) goes) fault (up-memory told old new IsSound fault lacks)
