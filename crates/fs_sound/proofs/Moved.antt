-- RENAME leaves a tree whose nodes hang together.
use Rattle.std.proofs.Common.{option_map, ◌==◌, ◌||◌, ◌∙◌, ◌≡◌, ℕ, ◌+◌, Bool, true, false, not, if◌then◌else◌, List, Option}
use Rattle.std.proofs.Common.{Some, refl, sym, subst, ◌&&◌, Ok}
use Rattle.nfs3_types.specs.declared.moment.Moment.{Moment}
use Rattle.nfs3_types.specs.declared.args.RenameArgs.{RenameArgs}
use Rattle.nfs3_types.specs.declared.cred.Cred.{Cred}
use Rattle.nfs3_types.specs.declared.status.Status.TheVariants.{NotDir, Inval, Acces, Exist, NoEnt, Rofs}
use Rattle.fs_rules.specs.Answers.{tree_by}
use Rattle.fs_rules.specs.Attributes.{given, is_directory}
use Rattle.fs_rules.specs.Checks.{find_object, is_live}
use Rattle.fs_rules.specs.Limits.{deepest}
use Rattle.fs_rules.specs.Names.{is_dots, name_fault}
use Rattle.fs_rules.specs.Places.{Object, entry_at, fileid_at, is_snapshots_name, leads_to, object_by}
use Rattle.fs_rules.specs.Removing.{may_alter}
use Rattle.fs_rules.specs.Renaming.{Renaming, allow_move, climb, find_renaming, is_in_the_way, is_same_node, move_node}
use Rattle.fs_rules.specs.Renaming.{need_room, rename, rename_plan, reparents, replaced_by, target_at}
use Rattle.fs_rules.specs.Sound.{HangTogether, IsSound}
use Rattle.fs_rules.specs.Tree.{Tree}
use Rattle.fs_rules.specs.declared.name_entry.NameEntry.{NameEntry}
use Rattle.fs_rules.specs.declared.place.Place.TheVariants.{Live}
use Rattle.fs_rules.specs.declared.plans.Climb.{Climb}
use Rattle.fs_rules.specs.declared.plans.Climb.TheVariants.{Found, Root, TooDeep}
use Rattle.fs_rules.specs.declared.plans.RenamePlan.{RenamePlan}
use Rattle.fs_laws.proofs.Copies.{done_has}
use Rattle.fs_laws.proofs.Passed.{ended, next_of, past, past_fault, past_some}
use Rattle.fs_laws.proofs.Places.{of_live, to_live}
use Rattle.fs_sound.proofs.Checked.{IsLiveDirectory, LeadsTo, LiveNode, entry_of, leads_ok, live_directory_ok}
use Rattle.fs_sound.proofs.Replacing.{target_hangs}
use Rattle.fs_sound.proofs.Up.{LeadsPast, past_climb}

-- ---- what is known once the checks have passed

-- both directories stand, the old name leads to the node, and what has the new name is the target
pub record AreFound (t : Tree) (a : RenameArgs (List ℕ)) (r : Renaming) : Type 0 where
  pub from : IsLiveDirectory t r.from
  pub to : IsLiveDirectory t r.to
  pub entry : NameEntry
  pub old : entry_at t r.from.place a.from.name ≡ Some entry
  pub source : LeadsTo t entry.fileid r.source
  pub target : r.target ≡ target_at t (entry_at t r.to.place a.to.name)

pub found : (t : Tree) (cred : Cred) (a : RenameArgs (List ℕ)) (r : Renaming) → find_renaming t cred a ≡ Ok r → AreFound t a r
unfolding find_renaming
found t cred a r e =
    next_of (find_object t a.from.directory) _ r e (λ from one e.
    next_of (find_object t a.to.directory) _ r e (λ to two e.
    past (not (is_directory from.inode.kind)) NotDir _ r e (λ one_kind e.
    past (not (is_directory to.inode.kind)) NotDir _ r e (λ two_kind e.
    past (not (is_live from.place)) Rofs _ r e (λ one_live e.
    past (not (is_live to.place)) Rofs _ r e (λ two_live e.
    past_fault (name_fault a.from.name) _ r e (λ five e.
    past_fault (name_fault a.to.name) _ r e (λ good e.
    past (is_dots a.from.name || is_dots a.to.name) Inval _ r e (λ dots e.
    past (is_snapshots_name from.place a.from.name || is_snapshots_name to.place a.to.name) Acces _ r e (λ snapshots e.
    past (not (may_alter cred from.inode)) Acces _ r e (λ six e.
    past (not (may_alter cred to.inode)) Acces _ r e (λ seven e.
    past_some (entry_at t from.place a.from.name) NoEnt _ r e (λ entry old e.
    past_some (leads_to t (Live entry.fileid)) NoEnt _ r e (λ source leads e.
    ended (AreFound t a) (record {
      from = from;
      to = to;
      source = source;
      target = target_at t (entry_at t to.place a.to.name);
    }) r e (record {
      from = live_directory_ok t a.from.directory from one one_kind one_live;
      to = live_directory_ok t a.to.directory to two two_kind two_live;
      entry = entry;
      old = old;
      source = leads_ok t entry.fileid source leads;
      target = refl;
    })))))))))))))))

-- it has room, and nothing is in its way
pub record CanGo (t : Tree) (r : Renaming) : Type 0 where
  pub way : reparents r ≡ true → climb t.nodes (fileid_at r.source.place) (deepest + 1) (fileid_at r.to.place) ≡ Root
  pub clear : given r.target (is_in_the_way t r.source) ≡ false

allowed : (way : Climb) (u : Unit {0}) → allow_move way ≡ Ok u → way ≡ Root
allowed TooDeep u e = absurd cc
allowed Found u e = absurd cc
allowed Root u e = refl

way_ok : (b : Bool) (way : Climb) (u : Unit {0}) → (if b then allow_move way else Ok tt) ≡ Ok u → b ≡ true → way ≡ Root
way_ok true way u e is = allowed way u e
way_ok false way u e is = absurd cc

pub can_go : (t : Tree) (r : Renaming) (u : Unit {0}) → need_room t r ≡ Ok u → CanGo t r
unfolding need_room
can_go t r u e =
    let up = climb t.nodes (fileid_at r.source.place) (deepest + 1) (fileid_at r.to.place) in
    next_of (if reparents r then allow_move up else Ok tt) _ u e (λ v way e.
    past (given r.target (is_in_the_way t r.source)) Exist _ u e (λ clear e.
    record { way = way_ok (reparents r) up v way; clear = clear }))

-- ---- RENAME

abbrev plan_of : Renaming → RenamePlan
plan_of r = record {
  from = fileid_at r.from.place;
  to = fileid_at r.to.place;
  fileid = fileid_at r.source.place;
  is_same = is_same_node r;
  reparents = reparents r;
  replaced = option_map replaced_by r.target;
}

abbrev with_target : Renaming → Option Object → Renaming
with_target r target = record r { target = target }

abbrev by_objects : Object → Object → Object → Option Object → Renaming
by_objects from to source target = record { from = from; to = to; source = source; target = target }

module _ (t : Tree) (k : IsSound t) (a : RenameArgs (List ℕ)) (now : Moment) (r : Renaming) (f : AreFound t a r) where
  abbrev own : LiveNode
  own = record { fileid = f.entry.fileid; node = f.source.node }

  abbrev other : Option NameEntry
  other = entry_at t r.to.place a.to.name

  abbrev Moves : Object → Object → Object → Option Object → Type 0
  Moves from to source target = HangTogether (move_node now a (plan_of (by_objects from to source target)) t).nodes

  -- it gets another parent, as the objects and as the nodes have it
  moves_parent : (is_directory own.node.inode.kind && not (f.from.node.fileid == f.to.node.fileid)) ≡ true → reparents r ≡ true
  moves_parent b =
      of_live (λ x. (is_directory r.source.inode.kind && not (fileid_at x.place == fileid_at r.to.place)) ≡ true) f.from.live
      (of_live (λ x. (is_directory r.source.inode.kind && not (f.from.node.fileid == fileid_at x.place)) ≡ true) f.to.live
      (of_live (λ x. (is_directory x.inode.kind && not (f.from.node.fileid == f.to.node.fileid)) ≡ true) f.source.live b))

  past_to : CanGo t r → (is_directory own.node.inode.kind && not (f.from.node.fileid == f.to.node.fileid)) ≡ true
      → LeadsPast t.nodes own.fileid f.to.node.fileid
  past_to c b =
      to_live (λ x. LeadsPast t.nodes own.fileid (fileid_at x.place)) f.to.live
      (to_live (λ x. LeadsPast t.nodes (fileid_at x.place) (fileid_at r.to.place)) f.source.live
      (past_climb t.nodes (fileid_at r.source.place) (deepest + 1) (fileid_at r.to.place) (c.way (moves_parent b))))

  move_hangs : is_same_node r ≡ false → CanGo t r → Moves r.from r.to r.source r.target
  unfolding move_node
  move_hangs far c =
      let apart = subst (λ (x : Option Object). given x (λ o. fileid_at o.place == fileid_at r.source.place) ≡ false) f.target
      far in
      let clear = subst (λ (x : Option Object). given x (is_in_the_way t r.source) ≡ false) f.target c.clear in
      subst (λ (x : Option Object). Moves r.from r.to r.source x) (sym f.target)
      (of_live (λ x. Moves x r.to r.source (target_at t other)) f.from.live
      (of_live (λ x. Moves (object_by (Live f.from.node.fileid) f.from.node.node) x r.source (target_at t other)) f.to.live
      (of_live (λ x. Moves (object_by (Live f.from.node.fileid) f.from.node.node)
      (object_by (Live f.to.node.fileid) f.to.node.node) x (target_at t other)) f.source.live
      (target_hangs t k a.from.name a.to.name f.from.node f.to.node own f.entry f.from.stands f.to.stands
      (sym (entry_of t r.from f.from a.from.name) ∙ f.old) refl f.source.live.stands now (past_to c)
      other (sym (entry_of t r.to f.to a.to.name))
      (to_live (λ x. given (target_at t other) (λ o. fileid_at o.place == fileid_at x.place) ≡ false) f.source.live apart)
      (to_live (λ x. given (target_at t other) (is_in_the_way t x) ≡ false) f.source.live clear)))))

same_or_moved : (same : Bool) (t : Tree) (k : IsSound t) (a : RenameArgs (List ℕ)) (now : Moment) (r : Renaming)
    (f : AreFound t a r) (u : Unit {0})
    → is_same_node r ≡ same → (if same then Ok tt else need_room t r) ≡ Ok u
    → HangTogether (if same then t else move_node now a (plan_of r) t).nodes
same_or_moved true t k a now r f u is e = k.live
same_or_moved false t k a now r f u is e = move_hangs t k a now r f is (can_go t r u e)

planned_hangs : (t : Tree) (cred : Cred) (a : RenameArgs (List ℕ)) (now : Moment) (plan : RenamePlan) → IsSound t
    → rename_plan t cred a ≡ Ok plan
    → HangTogether (if plan.is_same then t else move_node now a plan t).nodes
unfolding rename_plan
planned_hangs t cred a now plan k e =
    next_of (find_renaming t cred a) _ plan e (λ r is e.
    next_of (if is_same_node r then Ok tt else need_room t r) _ plan e (λ u room e.
    ended (λ (p : RenamePlan). HangTogether (if p.is_same then t else move_node now a p t).nodes) (plan_of r) plan e
    (same_or_moved (is_same_node r) t k a now r (found t cred a r is) u refl room)))

pub rename_hangs : (t : Tree) (cred : Cred) (a : RenameArgs (List ℕ)) (now : Moment) → IsSound t
    → HangTogether (tree_by t (rename t cred a now)).nodes
unfolding rename
rename_hangs t cred a now k =
    done_has (λ (x : Tree). HangTogether x.nodes) t (rename_plan t cred a) _ k.live
    (λ plan is. planned_hangs t cred a now plan k is)
