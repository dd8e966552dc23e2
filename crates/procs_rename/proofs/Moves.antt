-- What a tree is like at each edit of a move.
use Rattle.std.proofs.Common.{◌≡◌, ◌≢◌, ℕ, ◌+◌, ◌-◌, ◌≤◌, Bool, true, false, if◌then◌else◌, List, [], Option, Some, None}
use Rattle.std.proofs.Common.{refl, sym, ◌∙◌, ap, subst, arith}
use Rattle.std.specs.Prelude.{⊤, IsSome, IsSomeAnd, IfSome, option_map, option_and_then}
use Rattle.nfs3_types.specs.declared.args.RenameArgs.{RenameArgs}
use Rattle.nfs3_types.specs.declared.moment.Moment.{Moment}
use Rattle.fs_rules.specs.declared.name_entry.NameEntry.{NameEntry}
use Rattle.fs_rules.specs.declared.plans.RenamePlan.{RenamePlan}
use Rattle.fs_rules.specs.declared.plans.Replaced.{Replaced}
use Rattle.fs_rules.specs.Edits.{with_node, edit_node, drop_node, touch, add_name, drop_name, add_link, drop_link, set_ctime}
use Rattle.fs_rules.specs.Edits.{set_parent}
use Rattle.fs_rules.specs.Limits.{most_links}
use Rattle.fs_rules.specs.Names.{named}
use Rattle.fs_rules.specs.Places.{names_of}
use Rattle.fs_rules.specs.Removing.{lose_link, lose_name, remove_file, drop_directory}
use Rattle.fs_rules.specs.Renaming.{replace, relink, renew, move_node}
use Rattle.fs_rules.specs.Tree.{Tree, Node, Nodes}
use Rattle.fs_shows.specs.Views.{IsThere}
use Rattle.fs_shows.proofs.NodeEdits.{each-node}
use Rattle.inode_ops.specs.Changes.{HasLinkLeft}
use Rattle.inode_ops.proofs.Revising.{some-weaker}
use Rattle.dir_ops.specs.Directories.{CanDrop}
use Rattle.procs_rename.specs.Moving.{CanTakeOut, CanReplace, CanRelink, CanClear, CanRename, CanMove, cleared, unnamed, renamed}
use Rattle.procs_rename.specs.Moving.{IsOrderly, number_at, Has, CanTake, CanGo}
use Rattle.procs_rename.proofs.Beside.{node-edited, node-still, node-beside}
use Rattle.procs_rename.proofs.Names.{orderly-dropped, number-other, number-dropped, number-free, names-differ, bare-not}
use Rattle.procs_rename.proofs.Names.{can-drop, can-add, IsFree}

-- ---- a node goes, and then its name

node-kept : (nodes : Nodes) (d id : ℕ) (m : Option Node) → d ≢ id → with_node id m nodes d ≡ nodes d
node-kept nodes d id m other =
    each-node (λ i o. i ≡ d → o ≡ nodes i) id m nodes (λ same. absurd (other (sym same))) (λ i differs same. refl) d refl

bare-other : (name : List ℕ) (o : Option Node) (n : Node) → o ≡ Some n → names_of o ≡ [] → IsSome (named name n.names) → ⊥
unfolding named
bare-other name o n is bare has =
    nothing (subst (λ (names : List NameEntry). IsSome (named name names)) (sym (ap names_of is) ∙ bare) has)
  where
    nothing : false ≡ true → ⊥
    nothing e = cc

module _ (directory : ℕ) (name : List ℕ) (fileid : ℕ) (t : Tree) (can : CanTakeOut directory name fileid t) where
  still-drops : (m : Option Node) → CanDrop directory name (record t { nodes = with_node fileid m t.nodes })
  still-drops m = record {
    node = can.drop.node;
    there = node-kept t.nodes directory fileid m apart ∙ can.drop.there;
    distinct = can.drop.distinct;
    cookies = can.drop.cookies;
    has = can.drop.has;
  }
    where
      apart : directory ≢ fileid
      apart same =
          bare-other name (t.nodes directory) can.drop.node can.drop.there
          (subst (λ (id : ℕ). names_of (t.nodes id) ≡ []) (sym same) can.lose.go.bare) can.drop.has

  pub drops-lost : (now : Moment) → CanDrop directory name (lose_name now fileid t)
  unfolding lose_name
  drops-lost now = still-drops (option_and_then (lose_link now) (t.nodes fileid))

  pub drops-gone : CanDrop directory name (drop_node fileid t)
  unfolding drop_node
  drops-gone = still-drops None

-- ---- directories that are edited

orderly-as : (n m : Node) → m.names ≡ n.names → m.inode.next_cookie ≡ n.inode.next_cookie → IsOrderly n → IsOrderly m
orderly-as n m names next o = record {
  distinct = rw names o.distinct;
  cookies = rw (names, next) o.cookies;
  most = rw next o.most;
}

has-as : (name : List ℕ) (f : ℕ) (n m : Node) → m.names ≡ n.names → m.inode.next_cookie ≡ n.inode.next_cookie → Has name f n
    → Has name f m
has-as name f n m names next has = record {
  orderly = orderly-as n m names next has.orderly;
  leads = ap (λ (names : List NameEntry). option_map (λ e. e.fileid) (named name names)) names ∙ has.leads;
}

number-as : (name : List ℕ) (n m : Node) → m.names ≡ n.names → number_at name m ≡ number_at name n
number-as name n m names = ap (λ (names : List NameEntry). option_map (λ e. e.fileid) (named name names)) names

-- a directory has not the name, and may have a link more where one is asked for, and a name
record IsReady (name : List ℕ) (reparents : Bool) (n : Node) : Type 0 where
  orderly : IsOrderly n
  leads : number_at name n ≡ None
  links : n.inode.nlink ≤ most_links
  room : reparents ≡ true → n.inode.nlink + 1 ≤ most_links

names-apart : (a b : List ℕ) (f g : ℕ) (u : Bool) (r : Replaced) (o : Option Node) → IsSomeAnd o (Has a f)
    → IsSomeAnd o (CanTake b u (Some r)) → r.fileid ≢ f → a ≢ b
names-apart a b f g u r None has take other = absurd has
names-apart a b f g u r (Some n) has take other = names-differ a b f r.fileid n has take.leads other

less-room : (links : ℕ) → links + 1 ≤ most_links → (links - 1) + 1 ≤ most_links
unfolding most_links
less-room links few = omega (arith, few)

-- an edit that drops a name, and no more than one link
record Drops (name : List ℕ) (reparents : Bool) (g : Node → Node) : Type 0 where
  names : (n : Node) → (g n).names ≡ (drop_name name n).names
  next : (n : Node) → (g n).inode.next_cookie ≡ n.inode.next_cookie
  links : (n : Node) → (g n).inode.nlink ≤ n.inode.nlink
  room : (n : Node) → reparents ≡ true → n.inode.nlink ≤ most_links → (g n).inode.nlink + 1 ≤ most_links

module _ (now : Moment) (a : RenameArgs (List ℕ)) (p : RenamePlan) where
  -- once what has the new name is gone
  record Gone (t : Tree) : Type 0 where
    from : IsSomeAnd (t.nodes p.from) (Has a.from.name p.fileid)
    to : IsSomeAnd (t.nodes p.to) (IsReady a.to.name p.reparents)
    source : IsThere p.fileid t

  -- once links are those of the move
  record Linked (t : Tree) : Type 0 where
    from : IsSomeAnd (t.nodes p.from) (Has a.from.name p.fileid)
    to : IsSomeAnd (t.nodes p.to) (IsFree a.to.name)
    source : IsThere p.fileid t

  module _ (t : Tree) where
    -- ---- what has the new name goes

    module _ (r : Replaced) (from : IsSomeAnd (t.nodes p.from) (Has a.from.name p.fileid))
        (to : IsSomeAnd (t.nodes p.to) (CanTake a.to.name p.reparents (Some r))) (source : IsThere p.fileid t)
        (go : CanGo p.fileid t r) where
      to-has : IsSomeAnd (t.nodes p.to) (Has a.to.name r.fileid)
      to-has = some-weaker (t.nodes p.to) (CanTake a.to.name p.reparents (Some r)) (Has a.to.name r.fileid)
          (λ n take. record { orderly = take.orderly; leads = take.leads }) to

      from-apart : p.from ≢ r.fileid
      from-apart same =
          bare-not a.from.name p.fileid (t.nodes p.from)
          (subst (λ (id : ℕ). names_of (t.nodes id) ≡ []) (sym same) go.lose.go.bare) from

      to-apart : p.to ≢ r.fileid
      to-apart same =
          bare-not a.to.name r.fileid (t.nodes p.to)
          (subst (λ (id : ℕ). names_of (t.nodes id) ≡ []) (sym same) go.lose.go.bare) to-has

      differ : p.from ≡ p.to → a.from.name ≢ a.to.name
      differ same =
          names-apart a.from.name a.to.name p.fileid r.fileid p.reparents r (t.nodes p.from) from
          (subst (λ (id : ℕ). IsSomeAnd (t.nodes id) (CanTake a.to.name p.reparents (Some r))) (sym same) to) go.other

      module _ (m : Option Node) (g : Node → Node) (drops : Drops a.to.name p.reparents g) where
        mid : Tree
        mid = record t { nodes = with_node r.fileid m t.nodes }

        less : (n : Node) → IsOrderly n → IsOrderly (g n)
        less n o = orderly-as (drop_name a.to.name n) (g n) (drops.names n) (drops.next n) (orderly-dropped a.to.name n o)

        taken : Gone (edit_node p.to g (record t { nodes = with_node r.fileid m t.nodes }))
        taken = record {
          from = node-edited (record t { nodes = with_node r.fileid m t.nodes }) p.from p.to g (Has a.from.name p.fileid)
              (Has a.from.name p.fileid)
              (λ n same has. record {
                orderly = less n has.orderly;
                leads = number-as a.from.name (drop_name a.to.name n) (g n) (drops.names n)
                    ∙ number-other a.from.name a.to.name n (differ same) ∙ has.leads;
              })
              (λ n other has. has) (node-beside t.nodes p.from r.fileid m (Has a.from.name p.fileid) from-apart from);
          to = node-edited (record t { nodes = with_node r.fileid m t.nodes }) p.to p.to g
              (CanTake a.to.name p.reparents (Some r)) (IsReady a.to.name p.reparents)
              (λ n same take. record {
                orderly = less n take.orderly;
                leads = number-as a.to.name (drop_name a.to.name n) (g n) (drops.names n) ∙ number-dropped a.to.name n;
                links = omega (arith, drops.links n, take.links);
                room = λ asked. drops.room n asked take.links;
              })
              (λ n other take. absurd (other refl))
              (node-beside t.nodes p.to r.fileid m (CanTake a.to.name p.reparents (Some r)) to-apart to);
          source = node-still (record t { nodes = with_node r.fileid m t.nodes }) p.fileid p.to g (λ n. ⊤) (λ n is. tt)
              (node-beside t.nodes p.fileid r.fileid m (λ n. ⊤) (λ same. go.other (sym same)) source);
        }

      asked-room : p.reparents ≡ true → r.is_directory ≡ true
      asked-room asked = by_node (t.nodes p.to) to
        where
          by_node : (o : Option Node) → IsSomeAnd o (CanTake a.to.name p.reparents (Some r)) → r.is_directory ≡ true
          by_node None take = absurd take
          by_node (Some n) take = take.room asked

      gone-some : (u : Bool) → r.is_directory ≡ u
          → Gone (if u then drop_directory now p.to a.to.name r.fileid t else remove_file now p.to a.to.name r.fileid t)
      unfolding drop_directory remove_file drop_node lose_name most_links
      gone-some true is = taken None (λ n. touch now (drop_link (drop_name a.to.name n))) (record {
        names = λ n. refl;
        next = λ n. refl;
        links = λ n. omega arith;
        room = λ n asked few. omega (arith, few);
      })
      gone-some false is =
          taken (option_and_then (lose_link now) (t.nodes r.fileid)) (λ n. touch now (drop_name a.to.name n)) (record {
            names = λ n. refl;
            next = λ n. refl;
            links = λ n. omega arith;
            room = λ n asked few. absurd (differs r.is_directory (asked-room asked) is);
          })
        where
          differs : (b : Bool) → b ≡ true → b ≡ false → ⊥
          differs b p q = cc

    gone-by : (o : Option Replaced) → IsSomeAnd (t.nodes p.from) (Has a.from.name p.fileid)
        → IsSomeAnd (t.nodes p.to) (CanTake a.to.name p.reparents o) → IsThere p.fileid t → IfSome o (CanGo p.fileid t)
        → Gone (replace now p.to a.to.name o t)
    gone-by None from to source go = record {
      from = from;
      to = some-weaker (t.nodes p.to) (CanTake a.to.name p.reparents None) (IsReady a.to.name p.reparents)
          (λ n take. record { orderly = take.orderly; leads = take.leads; links = take.links; room = take.room }) to;
      source = source;
    }
    gone-by (Some r) from to source go = gone-some r from to source go r.is_directory refl

    take-by : (o : Option Replaced) → IsSomeAnd (t.nodes p.to) (CanTake a.to.name p.reparents o) → IfSome o (CanGo p.fileid t)
        → CanReplace p.to a.to.name o t
    take-by None to go = tt
    take-by (Some r) to go = record {
      lose = go.lose;
      drop = can-drop p.to a.to.name r.fileid t
          (some-weaker (t.nodes p.to) (CanTake a.to.name p.reparents (Some r)) (Has a.to.name r.fileid)
          (λ n take. record { orderly = take.orderly; leads = take.leads }) to);
    }

    -- ---- links

    relinks : Gone t → CanRelink p t
    relinks gone = record {
      from = λ asked. some-weaker (t.nodes p.from) (Has a.from.name p.fileid) (λ n. ⊤) (λ n has. tt) gone.from;
      to = λ asked. some-weaker (t.nodes p.to) (IsReady a.to.name p.reparents) (λ n. n.inode.nlink ≤ most_links)
          (λ n ready. ready.links) gone.to;
    }

    linked-by : (u : Bool) → p.reparents ≡ u → Gone t
        → Linked (if u then edit_node p.to add_link (edit_node p.from drop_link t) else t)
    linked-by true asked gone =
        let mid = edit_node p.from drop_link t in
        record {
          from = node-still mid p.from p.to add_link (Has a.from.name p.fileid)
              (λ n. has-as a.from.name p.fileid n (add_link n) refl refl)
              (node-still t p.from p.from drop_link (Has a.from.name p.fileid)
              (λ n. has-as a.from.name p.fileid n (drop_link n) refl refl) gone.from);
          to = node-edited mid p.to p.to add_link (IsReady a.to.name p.reparents) (IsFree a.to.name)
              (λ n same ready. record {
                orderly = orderly-as n (add_link n) refl refl ready.orderly;
                leads = ready.leads;
                links = ready.room asked;
              })
              (λ n other ready. absurd (other refl))
              (node-still t p.to p.from drop_link (IsReady a.to.name p.reparents)
              (λ n ready. record {
                orderly = orderly-as n (drop_link n) refl refl ready.orderly;
                leads = ready.leads;
                links = omega (arith, ready.links);
                room = λ asked. less-room n.inode.nlink (ready.room asked);
              }) gone.to);
          source = node-still mid p.fileid p.to add_link (λ n. ⊤) (λ n is. tt)
              (node-still t p.fileid p.from drop_link (λ n. ⊤) (λ n is. tt) gone.source);
        }
    linked-by false asked gone = record {
      from = gone.from;
      to = some-weaker (t.nodes p.to) (IsReady a.to.name p.reparents) (IsFree a.to.name)
          (λ n ready. record { orderly = ready.orderly; leads = ready.leads; links = ready.links }) gone.to;
      source = gone.source;
    }

    -- ---- the name

    renames : Linked t → CanRename now a p t
    renames linked = record {
      drop = can-drop p.from a.from.name p.fileid t linked.from;
      add = can-add p.to a.to.name (unnamed now a p t)
          (node-edited t p.to p.from (λ n. touch now (drop_name a.from.name n)) (IsFree a.to.name) (IsFree a.to.name)
          (λ n same free. record {
            orderly = orderly-as (drop_name a.from.name n) (touch now (drop_name a.from.name n)) refl refl
                (orderly-dropped a.from.name n free.orderly);
            leads = number-as a.to.name (drop_name a.from.name n) (touch now (drop_name a.from.name n)) refl
                ∙ number-free a.to.name a.from.name n free.leads;
            links = free.links;
          })
          (λ n other free. free) linked.to);
    }

    still-there : (id : ℕ) → IsThere id t → IsThere id (renamed now a p t)
    still-there id is =
        node-still (unnamed now a p t) id p.to (λ n. touch now (add_name a.to.name p.fileid n)) (λ n. ⊤) (λ n is. tt)
        (node-still t id p.from (λ n. touch now (drop_name a.from.name n)) (λ n. ⊤) (λ n is. tt) is)

  module _ (t : Tree) (can : CanMove a p t) where
    gone : Gone (replace now p.to a.to.name p.replaced t)
    gone = gone-by t p.replaced can.from can.to can.source can.replaced

    linked : Linked (cleared now a.to.name p t)
    linked = linked-by (replace now p.to a.to.name p.replaced t) p.reparents refl gone

    pub clears : CanClear now a.to.name p t
    clears = record {
      first = take-by t p.replaced can.to can.replaced;
      then = relinks (replace now p.to a.to.name p.replaced t) gone;
    }

    pub then-renames : CanRename now a p (cleared now a.to.name p t)
    then-renames = renames (cleared now a.to.name p t) linked

    pub then-there : IsThere p.fileid (renamed now a p (cleared now a.to.name p t))
    then-there = still-there (cleared now a.to.name p t) p.fileid linked.source

-- ---- the edits of the table, by a test of the plan

module _ (p : RenamePlan) (t : Tree) where
  pub relinked : p.reparents ≡ true → edit_node p.to add_link (edit_node p.from drop_link t) ≡ relink p t
  relinked is = ap (λ (u : Bool). if u then edit_node p.to add_link (edit_node p.from drop_link t) else t) (sym is)

  pub linkable : CanRelink p t → p.reparents ≡ true → HasLinkLeft p.to (edit_node p.from drop_link t)
  linkable can asked =
      node-still t p.to p.from drop_link (λ n. n.inode.nlink ≤ most_links) (λ n few. omega (arith, few)) (can.to asked)

  module _ (now : Moment) where
    pub renewed : (u : Bool) → p.reparents ≡ u
        → edit_node p.fileid (λ n. set_ctime now (if u then set_parent p.to n else n)) t ≡ edit_node p.fileid (renew p now) t
    renewed u is = ap (λ (u : Bool). edit_node p.fileid (λ n. set_ctime now (if u then set_parent p.to n else n)) t) (sym is)

module _ (now : Moment) (to : ℕ) (name : List ℕ) (r : Replaced) (t : Tree) where
  pub replaced-by : (u : Bool) → r.is_directory ≡ u
      → (if u then drop_directory now to name r.fileid t else remove_file now to name r.fileid t) ≡ replace now to name (Some r) t
  replaced-by u is =
      ap (λ (u : Bool). if u then drop_directory now to name r.fileid t else remove_file now to name r.fileid t) (sym is)

-- ---- behind a move

edited-fsid : (id : ℕ) (g : Node → Node) (t : Tree) → (edit_node id g t).fsid ≡ t.fsid
unfolding edit_node
edited-fsid id g t = refl

gone-fsid : (now : Moment) (to : ℕ) (name : List ℕ) (id : ℕ) (t : Tree) → (drop_directory now to name id t).fsid ≡ t.fsid
unfolding drop_directory edit_node drop_node
gone-fsid now to name id t = refl

lost-fsid : (now : Moment) (to : ℕ) (name : List ℕ) (id : ℕ) (t : Tree) → (remove_file now to name id t).fsid ≡ t.fsid
unfolding remove_file edit_node lose_name
lost-fsid now to name id t = refl

replaced-fsid : (now : Moment) (to : ℕ) (name : List ℕ) (o : Option Replaced) (t : Tree) → (replace now to name o t).fsid ≡ t.fsid
replaced-fsid now to name None t = refl
replaced-fsid now to name (Some r) t = by_kind r.is_directory
  where
    by_kind : (u : Bool)
        → (if u then drop_directory now to name r.fileid t else remove_file now to name r.fileid t).fsid ≡ t.fsid
    by_kind true = gone-fsid now to name r.fileid t
    by_kind false = lost-fsid now to name r.fileid t

relinked-fsid : (p : RenamePlan) (t : Tree) → (relink p t).fsid ≡ t.fsid
relinked-fsid p t = by_asked p.reparents
  where
    by_asked : (u : Bool) → (if u then edit_node p.to add_link (edit_node p.from drop_link t) else t).fsid ≡ t.fsid
    by_asked true = edited-fsid p.to add_link (edit_node p.from drop_link t) ∙ edited-fsid p.from drop_link t
    by_asked false = refl

module _ (now : Moment) (a : RenameArgs (List ℕ)) (p : RenamePlan) (t : Tree) (can : CanMove a p t) where
  -- the file system is the same
  pub moved-fsid : (move_node now a p t).fsid ≡ t.fsid
  unfolding move_node edit_node
  moved-fsid =
      relinked-fsid p (replace now p.to a.to.name p.replaced t) ∙ replaced-fsid now p.to a.to.name p.replaced t

  moved-there : (id : ℕ) → IsThere id (cleared now a.to.name p t) → IsThere id (move_node now a p t)
  unfolding move_node
  moved-there id is =
      node-still (renamed now a p (cleared now a.to.name p t)) id p.fileid (renew p now) (λ n. ⊤) (λ n is. tt)
      (still-there now a p (cleared now a.to.name p t) id is)

  -- both directories are there
  pub from-there : IsThere p.from (move_node now a p t)
  from-there =
      let after = cleared now a.to.name p t in
      moved-there p.from
      (some-weaker (after.nodes p.from) (Has a.from.name p.fileid) (λ n. ⊤) (λ n has. tt) (linked now a p t can).from)

  pub to-there : IsThere p.to (move_node now a p t)
  to-there =
      let after = cleared now a.to.name p t in
      moved-there p.to (some-weaker (after.nodes p.to) (IsFree a.to.name) (λ n. ⊤) (λ n free. tt) (linked now a p t can).to)
