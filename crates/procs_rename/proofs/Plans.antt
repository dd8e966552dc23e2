-- The plan, by what is seen; and that it can be done.
use Rattle.std.proofs.Common.{◌≡◌, ◌∙◌, ℕ, suc, ◌+◌, ◌≤◌, if◌then◌else◌, Bool, true, false, not, ◌||◌, ◌&&◌, List, [], ◌∷◌}
use Rattle.std.proofs.Common.{length, refl, sym, ap, subst}
use Rattle.std.proofs.Common.{Option, Some, None, Ok, Err, arith}
use Rattle.std.proofs.lemmas.Bool.{eqb-false, leb-false, ltb-false}
use Rattle.std.specs.Prelude.{⊤, ◌==◌, option_map, IfSome, IsSomeAnd, is_some, is_none, nat_lt, nat_le}
use Rattle.nfs3_types.specs.declared.args.RenameArgs.{RenameArgs}
use Rattle.nfs3_types.specs.declared.cred.Cred.{Cred}
use Rattle.nfs3_types.specs.declared.file_type.FileType.{FileType}
use Rattle.nfs3_types.specs.declared.file_type.FileType.TheVariants.{Reg, Dir, Lnk, Blk, Chr, Sock, Fifo}
use Rattle.nfs3_types.specs.declared.status.Status.{Status}
use Rattle.fs_rules.specs.declared.inode.Inode.{Inode as Kept}
use Rattle.fs_rules.specs.declared.name_entry.NameEntry.{NameEntry}
use Rattle.fs_rules.specs.declared.place.Place.{Place}
use Rattle.fs_rules.specs.declared.place.Place.TheVariants.{Live}
use Rattle.fs_rules.specs.declared.plans.Climb.{Climb}
use Rattle.fs_rules.specs.declared.plans.RenamePlan.{RenamePlan}
use Rattle.fs_rules.specs.Attributes.{given, is_directory}
use Rattle.fs_rules.specs.Checks.{Check, ◌>>=◌, is_live, refuse_if}
use Rattle.fs_rules.specs.Limits.{deepest, most_links}
use Rattle.fs_rules.specs.Names.{has_name, named}
use Rattle.fs_rules.specs.Places.{Object, attributes, entry_at, fileid_at, leads_to, names_at, names_of, node_at, object_at}
use Rattle.fs_rules.specs.Places.{object_by, shown}
use Rattle.fs_rules.specs.Removing.{has_names}
use Rattle.fs_rules.specs.Renaming.{Renaming, allow_move, climb, differs, is_in_the_way, is_same_node, need_room, rename_plan}
use Rattle.fs_rules.specs.Renaming.{reparents, replaced_by, target_at}
use Rattle.fs_rules.specs.Sound.{AreNames, IsNodeWithin, IsOfKind, IsSound, Rise, is_given}
use Rattle.fs_rules.specs.Tree.{Tree, Node}
use Rattle.fs_shows.specs.Views.{IsThere}
use Rattle.fs_shows.proofs.Viewing.{find-all}
use Rattle.dir_ops.specs.Listing.{IsListed}
use Rattle.dir_ops.proofs.Keeping.{sound-keeps, sound-gains, sound-listed}
use Rattle.pairs.specs.declared.at.At.TheVariants.{Live as LiveView}
use Rattle.procs_object.specs.declared.object.Found.{Found}
use Rattle.procs_object.specs.Finding.{IsObject, IsLed}
use Rattle.procs_object.proofs.Handles.{led-nowhere, led-there}
use Rattle.procs_rename.specs.declared.seeing.Seen.{Seen}
use Rattle.procs_rename.specs.Moving.{IsOrderly, number_at, Has, HasRoom, CanTake, CanGo, CanMove}
use Rattle.procs_rename.specs.Seeing.{found_as, IsSeen, IsOpen, renaming_by, way_for, room_behind, other_room, plan_by, IsPlanned}
use Rattle.procs_rename.proofs.Sights.{live-place, place-is, own-fsid, as-found, planned-by, room_then}

-- ---- sizes do not matter

module _ (t : Tree) (k l m n : ℕ) (f g s : Found) where
  abbrev sized : Option Found → Renaming
  sized o = record { from = found_as k f; to = found_as l g; source = found_as m s; target = option_map (found_as n) o }

  abbrev unsized : Option Found → Renaming
  unsized o = record { from = found_as 0 f; to = found_as 0 g; source = found_as 0 s; target = option_map (found_as 0) o }

  room-unsized : (o : Option Found) → other_room t (sized o) ≡ other_room t (unsized o)
  unfolding need_room
  room-unsized None = refl
  room-unsized (Some y) = refl

  plan-unsized : (o : Option Found) → plan_by (sized o) ≡ plan_by (unsized o)
  plan-unsized None = refl
  plan-unsized (Some y) = refl

renaming-as : (r : Renaming) (f g s : Object) (o : Option Object) → r.from ≡ f → r.to ≡ g → r.source ≡ s → r.target ≡ o
    → r ≡ record { from = f; to = g; source = s; target = o }
renaming-as r f g s o from to source target =
    ap (λ (x : Object). let q : Renaming = record { from = x; to = r.to; source = r.source; target = r.target } in q) from
    ∙ ap (λ (x : Object). let q : Renaming = record { from = f; to = x; source = r.source; target = r.target } in q) to
    ∙ ap (λ (x : Object). let q : Renaming = record { from = f; to = g; source = x; target = r.target } in q) source
    ∙ ap (λ (x : Option Object). let q : Renaming = record { from = f; to = g; source = s; target = x } in q) target

led-as : (t : Tree) (o : Option Found) (p : Option Object) → IsLed t o p → (n : ℕ) × (p ≡ option_map (found_as n) o)
led-as t None None led = (0, refl)
led-as t None (Some p) led = absurd led
led-as t (Some x) None led = absurd led
led-as t (Some x) (Some p) led = (p.size, ap (λ (o : Object). Some o) (as-found t x p led))

module _ (t : Tree) (cred : Cred) (a : RenameArgs (List ℕ)) (x : Seen) (s : IsSeen cred a x t) where
  -- the plan of the table, by what is seen
  pub seen-plan : rename_plan t cred a ≡ (other_room t (renaming_by x) >>= (λ _. Ok (plan_by (renaming_by x))))
  seen-plan =
      let r = s.renaming in
      let n = led-as t x.target r.target s.target in
      planned-by t cred a (Ok r) s.found
      ∙ ap (room_then t) (renaming-as r (found_as r.from.size x.from) (found_as r.to.size x.to) (found_as r.source.size x.source)
      (option_map (found_as n.0) x.target) (as-found t x.from r.from s.from) (as-found t x.to r.to s.to)
      (as-found t x.source r.source s.source.is) n.1)
      ∙ ap (λ (c : Check (Unit {0})). c >>= (λ _. Ok (plan_by
      (sized t r.from.size r.to.size r.source.size n.0 x.from x.to x.source x.target))))
      (room-unsized t r.from.size r.to.size r.source.size n.0 x.from x.to x.source x.target)
      ∙ ap (λ (p : RenamePlan). other_room t (renaming_by x) >>= (λ _. Ok p))
      (plan-unsized t r.from.size r.to.size r.source.size n.0 x.from x.to x.source x.target)

  pub plan-refused : (status : Status) → other_room t (renaming_by x) ≡ Err status → rename_plan t cred a ≡ Err status
  plan-refused status refused =
      seen-plan ∙ ap (λ (c : Check (Unit {0})). c >>= (λ _. Ok (plan_by (renaming_by x)))) refused

  pub plan-passed : (u : Unit {0}) → other_room t (renaming_by x) ≡ Ok u → rename_plan t cred a ≡ Ok (plan_by (renaming_by x))
  plan-passed u passed = seen-plan ∙ ap (λ (c : Check (Unit {0})). c >>= (λ _. Ok (plan_by (renaming_by x)))) passed

-- ---- what is told of what was found

shown-at : (t : Tree) (p : Place) (n : Node) → node_at t p ≡ Some n → shown t p ≡ Some (attributes t (object_by p n))
unfolding shown object_at
shown-at t p n is = ap (λ (o : Option Node). option_map (attributes t) (option_map (object_by p) o)) is

module _ (t : Tree) (x : Found) (o : Object) (is : IsObject t x o) (live : is_live x.place ≡ true) where
  pub found-shown : shown t (Live (fileid_at x.place)) ≡ Some x.attributes
  found-shown =
      let P : Place → Type 0 = λ p. shown t p ≡ Some x.attributes in
      subst P (live-place x.place live)
      (shown-at t x.place is.node is.there ∙ ap (λ (o : Object). Some (attributes t o)) (sym is.is)
      ∙ ap (λ a. Some a) is.attributes)

  own-node : t.nodes (fileid_at x.place) ≡ Some is.node
  unfolding node_at
  own-node =
      let P : Place → Type 0 = λ p. node_at t p ≡ Some is.node in subst P (live-place x.place live) is.there

  node-kind : is_directory is.node.inode.kind ≡ is_directory x.inode.head.kept.kind
  node-kind = ap (λ (k : Kept). is_directory k.kind) (sym is.inode.kept)

  node-entry : (name : List ℕ) → entry_at t (Live (fileid_at x.place)) name ≡ named name is.node.names
  unfolding entry_at node_at
  node-entry name = ap (λ (o : Option Node). named name (names_of o)) own-node

  own-there : IsThere (fileid_at x.place) t
  own-there = subst (λ (o : Option Node). IsSomeAnd o (λ n. ⊤)) (sym own-node) tt

  module _ (sound : IsSound t) where
    own-given : is_given t (fileid_at x.place) ≡ true
    own-given =
        subst (λ (o : Option Node). IfSome o (λ n. is_given t (fileid_at x.place) ≡ true)) own-node
        (sound.bounds.live.given (fileid_at x.place))

    own-within : IsNodeWithin (fileid_at x.place) is.node
    own-within =
        subst (λ (o : Option Node). IfSome o (IsNodeWithin (fileid_at x.place))) own-node
        (sound.bounds.live.each (fileid_at x.place))

    own-names : AreNames t.nodes is.node.names
    own-names =
        subst (λ (o : Option Node). IfSome o (λ n. AreNames t.nodes n.names)) own-node (sound.live.names (fileid_at x.place))

    own-orderly : is_directory x.inode.head.kept.kind ≡ true → IsOrderly is.node
    own-orderly kind =
        let keeps = sound-keeps t sound (fileid_at x.place) is.node own-node (node-kind ∙ kind) in
        let gains = sound-gains t sound (fileid_at x.place) is.node own-node (node-kind ∙ kind) in
        record { distinct = keeps.distinct; cookies = keeps.cookies; most = gains.cookies }

-- where a place leads, that stands
led-place : (t : Tree) (p : Place) (o : Object) → leads_to t p ≡ Some o → o.place ≡ p
unfolding object_at
led-place t p o is = by_node (node_at t p) is
  where
    by_node : (n : Option Node) → option_map (object_by p) n ≡ Some o → o.place ≡ p
    by_node None is = absurd (cc)
    by_node (Some n) is = let same : object_by p n ≡ o = cc in ap (λ (o : Object). o.place) (sym same)

pub leads-somewhere : (t : Tree) (id : ℕ) → is_some (t.nodes id) ≡ true → leads_to t (Live id) ≡ None → ⊥
unfolding object_at node_at
leads-somewhere t id some none = by_node (t.nodes id) some none
  where
    by_node : (n : Option Node) → is_some n ≡ true → option_map (object_by (Live id)) n ≡ None → ⊥
    by_node None some none = cc
    by_node (Some n) some none = cc

-- the number of what has the new name is that of what was found
module _ (t : Tree) where
  target-number : (q : Option NameEntry) (o : Option Found) (p : Option Object)
      → ((e : NameEntry) → q ≡ Some e → is_some (t.nodes e.fileid) ≡ true) → IsLed t o p → p ≡ target_at t q
      → option_map (λ e. e.fileid) q ≡ option_map (λ r. r.fileid) (option_map replaced_by (option_map (found_as 0) o))
  target-number None None p lead led is = refl
  target-number None (Some x) p lead led is = absurd (nothing p led is)
    where
      nothing : (p : Option Object) → IsLed t (Some x) p → p ≡ None → ⊥
      nothing None led is = led
      nothing (Some p) led is = cc
  target-number (Some e) None p lead led is =
      absurd (leads-somewhere t e.fileid (lead e refl) (sym is ∙ led-nowhere t p led))
  target-number (Some e) (Some x) p lead led is =
      let there = led-there t x p led in
      let at : there.0.place ≡ Live e.fileid = led-place t (Live e.fileid) there.0 (sym is ∙ there.1) in
      ap (λ (p : Place). Some (fileid_at p)) (sym at ∙ place-is t x there.0 there.2)

-- ---- checks that passed

passed-by : (c d : Check (Unit {0})) (u : Unit {0}) → (c >>= (λ _. d)) ≡ Ok u → d ≡ Ok u
passed-by (Ok v) d u is = is
passed-by (Err status) d u is = absurd (cc)

passed-if : (b : Bool) (status : Status) (d : Check (Unit {0})) (u : Unit {0}) → (refuse_if b status >>= (λ _. d)) ≡ Ok u
    → (b ≡ false) × (d ≡ Ok u)
passed-if true status d u is = absurd (cc)
passed-if false status d u is = (refl, is)

passed-last : (b : Bool) (status : Status) (u : Unit {0}) → refuse_if b status ≡ Ok u → b ≡ false
passed-last true status u is = absurd (cc)
passed-last false status u is = refl

record HasPassed (t : Tree) (r : Renaming) : Type 0 where
  blocked : given r.target (is_in_the_way t r.source) ≡ false
  links : (reparents r && is_none r.target && nat_le most_links r.to.inode.nlink) ≡ false

has-passed : (t : Tree) (r : Renaming) (u : Unit {0}) → is_same_node r ≡ false → other_room t r ≡ Ok u → HasPassed t r
unfolding need_room
has-passed t r u other is =
    let room : (way_for t r >>= (λ _. room_behind (given r.target (is_in_the_way t r.source)) r)) ≡ Ok u =
    subst (λ (b : Bool). (if b then Ok tt else need_room t r) ≡ Ok u) other is in
    let first = passed-if (given r.target (is_in_the_way t r.source)) _ _ u
    (passed-by (way_for t r) (room_behind (given r.target (is_in_the_way t r.source)) r) u room) in
    let second = passed-if (reparents r && is_none r.target && nat_le most_links r.to.inode.nlink) _ _ u first.1 in
    record { blocked = first.0; links = second.0 }

and-last : (b l : Bool) → (b && true && l) ≡ false → b ≡ true → l ≡ false
and-last true l is asked = is
and-last false l is asked = absurd (cc)

and-first : (a b : Bool) → (a && b) ≡ true → a ≡ true
and-first true b is = refl
and-first false b is = absurd (cc)

-- what is in the way of nothing
both-kinds : (d s n : Bool) → (differs d s || (d && n)) ≡ false → s ≡ true → d ≡ true
both-kinds true s n is asked = refl
both-kinds false true n is asked = absurd (cc)
both-kinds false false n is asked = absurd (cc)

no-names : (d s n : Bool) → (differs d s || (d && n)) ≡ false → d ≡ true → n ≡ false
no-names true true n is asked = is
no-names true false n is asked = absurd (cc)
no-names false s n is asked = absurd (cc)

none-left : (names : List NameEntry) → nat_lt 0 (length names) ≡ false → names ≡ []
none-left [] is = refl
none-left (e ∷ names) is =
    let few : suc (length names) ≤ 0 = ltb-false 0 (length (e ∷ names)) is in absurd (omega (arith, few))

leaf-bare : (kind : FileType) (id : ℕ) (n : Node) → IsOfKind kind id n → is_directory kind ≡ false → n.names ≡ []
leaf-bare Reg id n of is = of.leaf.nothing
leaf-bare Dir id n of is = absurd (cc)
leaf-bare Blk id n of is = absurd of
leaf-bare Chr id n of is = absurd of
leaf-bare Lnk id n of is = of.leaf.nothing
leaf-bare Sock id n of is = absurd of
leaf-bare Fifo id n of is = absurd of

-- ---- the plan can be done

module _ (t : Tree) (sound : IsSound t) (source : Found) where
  -- what goes has no names
  goes-bare : (y : Found) (o : Object) (is : IsObject t y o) → is_live y.place ≡ true
      → is_in_the_way t (found_as 0 source) (found_as 0 y) ≡ false → names_of (t.nodes (fileid_at y.place)) ≡ []
  goes-bare y o is live free =
      ap (λ (o : Option Node). names_of o) (own-node t y o is live) ∙ by_kind (is_directory y.inode.head.kept.kind) refl
    where
      by_kind : (u : Bool) → is_directory y.inode.head.kept.kind ≡ u → is.node.names ≡ []
      by_kind true kind =
          sym (ap (λ (o : Option Node). names_of o) is.there)
          ∙ none-left (names_at t y.place)
          (no-names (is_directory y.inode.head.kept.kind) (is_directory source.inode.head.kept.kind)
          (has_names t y.place) free kind)
      by_kind false kind =
          leaf-bare is.node.inode.kind (fileid_at y.place) is.node (own-within t y o is live sound).kind
          (node-kind t y o is live ∙ kind)

  goes-by : (o : Option Found) (p : Option Object) → IsLed t o p → IfSome o (λ y. is_live y.place ≡ true)
      → given (option_map (found_as 0) o) (is_in_the_way t (found_as 0 source)) ≡ false
      → given (option_map (found_as 0) o) (λ y. fileid_at y.place == fileid_at source.place) ≡ false
      → IfSome (option_map replaced_by (option_map (found_as 0) o)) (CanGo (fileid_at source.place) t)
  goes-by None p led live free other = tt
  goes-by (Some y) p led live free other =
      let there = led-there t y p led in
      record {
        other = eqb-false (fileid_at y.place) (fileid_at source.place) other;
        lose = record {
          there = own-there t y there.0 there.2 live;
          go = record { given = own-given t y there.0 there.2 live sound; bare = goes-bare y there.0 there.2 live free };
        };
      }

  room-by : (o : Option Found) (i j : Kept) (b : Bool) → i ≡ j → (b ≡ true → is_directory source.inode.head.kept.kind ≡ true)
      → given (option_map (found_as 0) o) (is_in_the_way t (found_as 0 source)) ≡ false
      → (b && is_none (option_map (found_as 0) o) && nat_le most_links i.nlink) ≡ false → b ≡ true
      → HasRoom (option_map replaced_by (option_map (found_as 0) o)) j
  room-by None i j b same kind free links asked =
      let few = leb-false most_links i.nlink (and-last b (nat_le most_links i.nlink) links asked) in
      subst (λ (k : Kept). k.nlink + 1 ≤ most_links) same (omega (arith, few))
  room-by (Some y) i j b same kind free links asked =
      both-kinds (is_directory y.inode.head.kept.kind) (is_directory source.inode.head.kept.kind) (has_names t y.place) free
      (kind asked)

module _ (t : Tree) (cred : Cred) (a : RenameArgs (List ℕ)) (x : Seen) (s : IsSeen cred a x t) (opens : IsOpen a x)
    (sound : IsSound t) where
  source-number : s.source.entry.fileid ≡ fileid_at x.source.place
  source-number =
      ap (λ (p : Place). fileid_at p) (sym (led-place t (Live s.source.entry.fileid) s.renaming.source s.source.leads)
      ∙ place-is t x.source s.renaming.source s.source.is)

  from-has : IsSomeAnd (t.nodes (fileid_at x.from.place)) (Has a.from.name (fileid_at x.source.place))
  from-has =
      subst (λ (o : Option Node). IsSomeAnd o (Has a.from.name (fileid_at x.source.place)))
      (sym (own-node t x.from s.renaming.from s.from opens.ends.from_live))
      (record {
        orderly = own-orderly t x.from s.renaming.from s.from opens.ends.from_live sound opens.ends.from_kind;
        leads = ap (λ (o : Option NameEntry). option_map (λ e. e.fileid) o)
            (sym (node-entry t x.from s.renaming.from s.from opens.ends.from_live a.from.name) ∙ s.source.named)
            ∙ ap (λ (id : ℕ). Some id) source-number;
      })

  to-leads : number_at a.to.name s.to.node
      ≡ option_map (λ r. r.fileid) (option_map replaced_by (option_map (found_as 0) x.target))
  unfolding named
  to-leads =
      target-number t (named a.to.name s.to.node.names) x.target s.renaming.target
      (λ e is. (find-all (has_name a.to.name) (λ e. is_some (t.nodes e.fileid) ≡ true) s.to.node.names e
      (own-names t x.to s.renaming.to s.to opens.ends.to_live sound).lead is).0)
      s.target
      (s.aimed ∙ ap (λ (o : Option NameEntry). target_at t o)
      (node-entry t x.to s.renaming.to s.to opens.ends.to_live a.to.name))

  pub can-move : (u : Unit {0}) → other_room t (renaming_by x) ≡ Ok u → (plan_by (renaming_by x)).is_same ≡ false
      → CanMove a (plan_by (renaming_by x)) t
  can-move u room other =
      let passed = has-passed t (renaming_by x) u other room in
      record {
        from = from-has;
        to = subst (λ (o : Option Node). IsSomeAnd o (CanTake a.to.name (reparents (renaming_by x))
            (option_map replaced_by (option_map (found_as 0) x.target))))
            (sym (own-node t x.to s.renaming.to s.to opens.ends.to_live))
            (record {
              orderly = own-orderly t x.to s.renaming.to s.to opens.ends.to_live sound opens.ends.to_kind;
              leads = to-leads;
              links = (own-within t x.to s.renaming.to s.to opens.ends.to_live sound).links;
              room = room-by t sound x.source x.target x.to.inode.head.kept s.to.node.inode (reparents (renaming_by x))
                  s.to.inode.kept
                  (and-first (is_directory x.source.inode.head.kept.kind)
                  (not (fileid_at x.from.place == fileid_at x.to.place)))
                  passed.blocked passed.links;
            });
        source = own-there t x.source s.renaming.source s.source.is opens.source;
        replaced = goes-by t sound x.source x.target s.renaming.target s.target opens.target passed.blocked other;
      }

  pub planned-as : (u : Unit {0}) → other_room t (renaming_by x) ≡ Ok u → (p : RenamePlan) → p ≡ plan_by (renaming_by x)
      → IsPlanned cred a (record { plan = p; from = x.from.attributes; to = x.to.attributes }) t
  planned-as u room p is =
      let P : RenamePlan → Type 0 = λ p.
      IsPlanned cred a (record { plan = p; from = x.from.attributes; to = x.to.attributes }) t in
      subst P (sym is) (record {
        planned = plan-passed t cred a x s u room;
        from = found-shown t x.from s.renaming.from s.from opens.ends.from_live;
        to = found-shown t x.to s.renaming.to s.to opens.ends.to_live;
        fsid = own-fsid t x.from s.renaming.from s.from opens.ends.from_live;
        moves = λ other. can-move u room other;
      })

-- ---- the checks of the plan, one after another

module _ (t : Tree) (r : Renaming) where
  pub way-none : reparents r ≡ false → way_for t r ≡ Ok tt
  way-none is =
      ap (λ (b : Bool). if b then allow_move (climb t.nodes (fileid_at r.source.place) (deepest + 1) (fileid_at r.to.place))
      else Ok tt) is

  pub way-by : (s d : ℕ) (way : Climb) (c : Check (Unit {0})) → reparents r ≡ true → s ≡ fileid_at r.source.place
      → d ≡ fileid_at r.to.place → climb t.nodes s 1025 d ≡ way → allow_move way ≡ c → way_for t r ≡ c
  unfolding deepest
  way-by s d way c asked source to climbed allowed =
      ap (λ (b : Bool). if b then allow_move (climb t.nodes (fileid_at r.source.place) 1025
      (fileid_at r.to.place)) else Ok tt) asked
      ∙ ap (λ (id : ℕ). allow_move (climb t.nodes id 1025 (fileid_at r.to.place))) (sym source)
      ∙ ap (λ (id : ℕ). allow_move (climb t.nodes s 1025 id)) (sym to) ∙ ap allow_move climbed ∙ allowed

  pub room-refused : (status : Status) → way_for t r ≡ Err status → need_room t r ≡ Err status
  unfolding need_room
  room-refused status refused =
      ap (λ (c : Check (Unit {0})). c >>= (λ _. room_behind (given r.target (is_in_the_way t r.source)) r)) refused

  pub room-as : (u : Unit {0}) (b : Bool) → way_for t r ≡ Ok u → given r.target (is_in_the_way t r.source) ≡ b
      → need_room t r ≡ room_behind b r
  unfolding need_room
  room-as u b way blocked =
      ap (λ (c : Check (Unit {0})). c >>= (λ _. room_behind (given r.target (is_in_the_way t r.source)) r)) way
      ∙ ap (λ (b : Bool). room_behind b r) blocked

module _ (t : Tree) (y s : Found) where
  pub way-differs : differs (is_directory y.inode.head.kept.kind) (is_directory s.inode.head.kept.kind) ≡ true
      → is_in_the_way t (found_as 0 s) (found_as 0 y) ≡ true
  way-differs is = ap (λ (b : Bool). b || (is_directory y.inode.head.kept.kind && has_names t y.place)) is

  pub way-leaf : differs (is_directory y.inode.head.kept.kind) (is_directory s.inode.head.kept.kind) ≡ false
      → is_directory y.inode.head.kept.kind ≡ false → is_in_the_way t (found_as 0 s) (found_as 0 y) ≡ false
  way-leaf is leaf =
      ap (λ (b : Bool). b || (is_directory y.inode.head.kept.kind && has_names t y.place)) is
      ∙ ap (λ (b : Bool). b && has_names t y.place) leaf

  pub way-names : (n : Bool) → differs (is_directory y.inode.head.kept.kind) (is_directory s.inode.head.kept.kind) ≡ false
      → is_directory y.inode.head.kept.kind ≡ true → is_live y.place ≡ true → has_names t (Live (fileid_at y.place)) ≡ n
      → is_in_the_way t (found_as 0 s) (found_as 0 y) ≡ n
  way-names n is directory live names =
      ap (λ (b : Bool). b || (is_directory y.inode.head.kept.kind && has_names t y.place)) is
      ∙ ap (λ (b : Bool). b && has_names t y.place) directory ∙ ap (λ (p : Place). has_names t p) (live-place y.place live)
      ∙ names

-- the names of any node of a sound tree can be listed
module _ (t : Tree) (sound : IsSound t) (id : ℕ) where
  bare-listed : names_of (t.nodes id) ≡ [] → IsListed LiveView id t
  unfolding node_at Rise
  bare-listed bare = record {
    kept = tt;
    next = 3;
    rises = subst (Rise 3 3) (sym bare) (omega arith);
    most = omega arith;
  }

  pub listed : IsListed LiveView id t
  listed = by_node (t.nodes id) refl
    where
      by_node : (o : Option Node) → t.nodes id ≡ o → IsListed LiveView id t
      by_node None at = bare-listed (ap (λ (o : Option Node). names_of o) at)
      by_node (Some n) at = by_kind (is_directory n.inode.kind) refl
        where
          by_kind : (u : Bool) → is_directory n.inode.kind ≡ u → IsListed LiveView id t
          by_kind true kind = sound-listed t sound id n at kind
          by_kind false kind =
              bare-listed (ap (λ (o : Option Node). names_of o) at
              ∙ leaf-bare n.inode.kind id n
              (subst (λ (o : Option Node). IfSome o (IsNodeWithin id)) at (sound.bounds.live.each id)).kind kind)
