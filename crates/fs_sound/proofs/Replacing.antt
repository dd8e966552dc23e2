-- What has the new name of a RENAME goes first, and then the name moves.
use Rattle.std.proofs.Common.{◌≡◌, ℕ, zero, suc, ◌≤◌, ◌<◌, ◌==◌, Bool, true, false, not, if◌then◌else◌, true≢false, List, []}
use Rattle.std.proofs.Common.{◌∷◌, filter, Option, Some, None, is_some, ⊎_elim, refl, sym, ap, subst, ◌∙◌, arith, nat_lt, ◌&&◌}
use Rattle.std.proofs.Common.{cond, length, find, option_map}
use Rattle.std.proofs.lemmas.Bool.{cases_eq, eqb-true, eqb-false, false_from_ne_true, ltb-false, or_parts}
use Rattle.nfs3_types.specs.declared.moment.Moment.{Moment}
use Rattle.fs_rules.specs.Answers.{after}
use Rattle.fs_rules.specs.Attributes.{given, is_directory}
use Rattle.fs_rules.specs.Edits.{drop_link, drop_name, touch}
use Rattle.fs_rules.specs.Names.{has_name, named}
use Rattle.fs_rules.specs.Places.{fileid_at, node_at, object_at, object_by}
use Rattle.fs_rules.specs.Removing.{drop_directory, has_names, remove_file}
use Rattle.fs_rules.specs.Renaming.{differs, is_in_the_way, parent_of, replace, replaced_by, target_at}
use Rattle.fs_rules.specs.Sound.{HangTogether, IsSound, all_numbers, ancestor, count_in, count_of, is_some_directory}
use Rattle.fs_rules.specs.Tree.{Node, Nodes, Tree}
use Rattle.fs_rules.specs.declared.name_entry.NameEntry.{NameEntry}
use Rattle.fs_rules.specs.declared.place.Place.TheVariants.{Live}
use Rattle.fs_laws.proofs.Passed.{past}
use Rattle.fs_sound.proofs.Checked.{LiveNode, StandsLive}
use Rattle.fs_sound.proofs.Counts.{count_found, count_nil, has_name-is, named_has, named_is}
use Rattle.fs_sound.proofs.Facts.{file_nothing, names_are, parent_is, placed, root_unnamed, stands_in, there_below}
use Rattle.fs_sound.proofs.Moving.{CanMove, kinds_apart, moved_by, moves}
use Rattle.fs_sound.proofs.Others.{names_in_some, parent_of_same}
use Rattle.fs_sound.proofs.Removal.{bounds_within}
use Rattle.fs_sound.proofs.Removed.{Removable, directory_removed_directory, directory_removed_elsewhere}
use Rattle.fs_sound.proofs.Removed.{directory_removed_hangs, file_removed, names_live, removed_directory, removed_elsewhere}
use Rattle.fs_sound.proofs.Removed.{without_lacks}
use Rattle.fs_sound.proofs.Up.{IsPast, LeadsPast, StaysOnWay, past_here, past_root, past_step}

-- ---- no directory is its own parent

own_parent : (nodes : Nodes) (id : ℕ) → parent_of (nodes id) id ≡ id → (steps : ℕ) → ancestor nodes steps id ≡ id
unfolding ancestor
own_parent nodes id is zero = refl
own_parent nodes id is (suc steps) = ap (ancestor nodes steps) is ∙ own_parent nodes id is steps

-- a directory has no name in itself
not_in_itself : (t : Tree) (id : ℕ) (n : Node) → IsSound t → t.nodes id ≡ Some n → is_directory n.inode.kind ≡ true
    → 1 ≤ count_in (t.nodes id) id → ⊥
not_in_itself t id n s is dir some =
    let apart : id ≡ 1 → ⊥ = root_unnamed t t.nodes id id s.bounds s.bounds.live s.live some in
    let parent : n.inode.parent ≡ id = parent_is t t.nodes id id n s.bounds s.bounds.live s.live is dir apart some in
    let up = (placed t.nodes id n s.live is dir).up in
    apart (sym (own_parent t.nodes id (ap (λ (o : Option Node). parent_of o id) is ∙ parent) up.steps) ∙ up.ends)

-- ---- names that are left

named_alike : (name : List ℕ) (n m : Node) → n.names ≡ m.names → named name n.names ≡ named name m.names
unfolding named
named_alike name n m is = ap (find (has_name name)) is

left_by : (p q : NameEntry → Bool) (x e : NameEntry) (names : List NameEntry) (b : Bool) → p x ≡ b
    → cond b (Some x) (find p names) ≡ Some e → q e ≡ false
    → (find p names ≡ Some e → find p (filter (λ y. not (q y)) names) ≡ Some e) → (c : Bool) → q x ≡ c
    → find p (cond (not c) (x ∷ filter (λ y. not (q y)) names) (filter (λ y. not (q y)) names)) ≡ Some e
left_by p q x e names true is h out rest true at =
    let same : x ≡ e = cc in absurd (true≢false (sym at ∙ ap q same ∙ out))
left_by p q x e names true is h out rest false at =
    ap (λ (b : Bool). cond b (Some x) (find p (filter (λ y. not (q y)) names))) is ∙ h
left_by p q x e names false is h out rest true at = rest h
left_by p q x e names false is h out rest false at =
    ap (λ (b : Bool). cond b (Some x) (find p (filter (λ y. not (q y)) names))) is ∙ rest h

-- what passes the one test and not the other is found also where what passes the other is gone
found_left : (p q : NameEntry → Bool) (names : List NameEntry) (e : NameEntry) → find p names ≡ Some e → q e ≡ false
    → find p (filter (λ y. not (q y)) names) ≡ Some e
found_left p q [] e h out = absurd cc
found_left p q (x ∷ names) e h out = left_by p q x e names (p x) refl h out (λ k. found_left p q names e k out) (q x) refl

named_left : (from to : List ℕ) (n : Node) (e : NameEntry) → named from n.names ≡ Some e → has_name to e ≡ false
    → named from (drop_name to n).names ≡ Some e
unfolding named
named_left from to n e h out = found_left (has_name from) (has_name to) n.names e h out

-- ---- a way past one directory, where others are there

past_by : (nodes after : Nodes) (x : ℕ) (P : ℕ → Type 0) → ((id : ℕ) → P id → (id ≡ 1 → ⊥) → StaysOnWay nodes after P id)
    → (steps id : ℕ) → IsPast nodes x steps id → P id → LeadsPast after x id
unfolding IsPast
past_by nodes after x P stays zero id p on = past_root after x id p.0 p.1
past_by nodes after x P stays (suc steps) id p on =
    ⊎_elim
    (λ is. past_root after x id is p.0)
    (λ apart.
    let s = stays id on apart in
    past_step after x id p.0 (subst (LeadsPast after x) s.same (past_by nodes after x P stays steps (parent_of (nodes id) id)
    p.1 s.next)))
    (cases_eq id 1)

past_kept : (nodes after : Nodes) (x : ℕ) (P : ℕ → Type 0) → ((id : ℕ) → P id → (id ≡ 1 → ⊥) → StaysOnWay nodes after P id)
    → (id : ℕ) → P id → LeadsPast nodes x id → LeadsPast after x id
past_kept nodes after x P stays id on l = past_by nodes after x P stays l.steps id l.ends on

-- ---- what has the new name goes first

-- a tree without a name in this directory, and where what it led to may be gone; all else is the same
record NameGone (t after : Tree) (g : ℕ) (to : List ℕ) (n : Node) (x : ℕ) : Type 0 where
  node : Node
  is : after.nodes g ≡ Some node
  kind : n.inode.kind ≡ node.inode.kind
  names : (drop_name to n).names ≡ node.names
  parent : n.inode.parent ≡ node.inode.parent
  others : (q : ℕ) → (q ≡ g → ⊥) → (q ≡ x → ⊥) → after.nodes q ≡ t.nodes q

pub some_named : (nodes : Nodes) (d : ℕ) (n : Node) (name : List ℕ) (e : NameEntry) → HangTogether nodes → nodes d ≡ Some n
    → named name n.names ≡ Some e → 1 ≤ count_in (nodes d) e.fileid
some_named nodes d n name e h is found =
    omega (arith, names_in_some (nodes d) e.fileid n is, count_found name n e (names_are nodes d n h is).distinct found)

-- what has no names is no directory with one
pub nameless : (nodes : Nodes) (d x id : ℕ) (n : Node) → nodes x ≡ Some n → n.names ≡ [] → 1 ≤ count_in (nodes d) id → d ≡ x → ⊥
nameless nodes d x id n is empty some same =
    let none : count_in (nodes d) id ≡ 0 =
    ap (λ (k : ℕ). count_in (nodes k) id) same ∙ names_in_some (nodes x) id n is ∙ ap (count_of id) empty ∙ count_nil id in
    omega (arith, none, some)

abbrev without_node : Bool → Moment → ℕ → List ℕ → ℕ → Tree → Tree
without_node dir now g to x t = if dir then drop_directory now g to x t else remove_file now g to x t

entry_number : (e y : NameEntry) → Some e ≡ Some y → e.fileid ≡ y.fileid
entry_number e y is = cc

same_node : (o : Option Node) (n m : Node) → o ≡ Some n → o ≡ Some m → n ≡ m
same_node o n m p q = cc

empty_list : (names : List NameEntry) → length names ≤ 0 → names ≡ []
empty_list [] le = refl
empty_list (e ∷ names) le = absurd (omega arith)

pub empty_of : (dir : Bool) (names : List NameEntry) → dir ≡ true → (dir && nat_lt 0 (length names)) ≡ false → names ≡ []
empty_of true names is h = empty_list names (ltb-false 0 (length names) h)
empty_of false names is h = absurd cc

-- a directory with a name that is found
record Naming (nodes : Nodes) (d : ℕ) (name : List ℕ) (e : NameEntry) : Type 0 where
  node : Node
  is : nodes d ≡ Some node
  kind : is_directory node.inode.kind ≡ true
  found : named name node.names ≡ Some e

-- the directories and what the old name leads to, as the checks found them
module _ (t : Tree) (k : IsSound t) (from to : List ℕ) (f g s : LiveNode) (e : NameEntry) (stands : StandsLive t f)
    (lands : StandsLive t g)
    (found : named from f.node.names ≡ Some e) (leads : e.fileid ≡ s.fileid) (source : t.nodes s.fileid ≡ Some s.node) where
  abbrev changes_parent : Bool
  changes_parent = is_directory s.node.inode.kind && not (f.fileid == g.fileid)

  named_s : 1 ≤ count_in (t.nodes f.fileid) s.fileid
  named_s = subst (λ (x : ℕ). 1 ≤ count_in (t.nodes f.fileid) x) leads (some_named t.nodes f.fileid f.node from e k.live
      stands.is found)

  apart_by : (b : Bool) → is_directory s.node.inode.kind ≡ b → s.fileid ≡ f.fileid → ⊥
  apart_by true dir same =
      not_in_itself t s.fileid s.node k source dir (subst (λ (x : ℕ). 1 ≤ count_in (t.nodes x) s.fileid) (sym same) named_s)
  apart_by false file same = kinds_apart t.nodes s.fileid f.fileid s.node f.node source stands.is file stands.kind same

  apart : s.fileid ≡ f.fileid → ⊥
  apart same = apart_by (is_directory s.node.inode.kind) refl same

  low : f.fileid < all_numbers
  low = there_below t t.nodes f.fileid f.node k.bounds k.bounds.live stands.is

  lower : g.fileid < all_numbers
  lower = there_below t t.nodes g.fileid g.node k.bounds k.bounds.live lands.is

  -- where nothing has the new name
  can_move : named to g.node.names ≡ None → CanMove t.nodes from to f.fileid g.fileid s.fileid
  can_move free = record {
    first = f.node;
    first_is = stands.is;
    first_kind = stands.kind;
    second = g.node;
    second_is = lands.is;
    second_kind = lands.kind;
    source = s.node;
    source_is = source;
    entry = e;
    found = found;
    leads = leads;
    free = free;
    low = low;
    lower = lower;
  }

  -- what goes has no names, so that it is not the directory of the new name
  second_gone : (y : NameEntry) (n : Node) → named to g.node.names ≡ Some y → t.nodes y.fileid ≡ Some n → n.names ≡ []
      → g.fileid ≡ y.fileid → ⊥
  second_gone y n had at empty same =
      nameless t.nodes g.fileid y.fileid y.fileid n at empty (some_named t.nodes g.fileid g.node to y k.live lands.is had) same

  other_by : (dir same : Bool) → is_directory s.node.inode.kind ≡ dir → (f.fileid == g.fileid) ≡ same
      → ((dir && not same) ≡ true → LeadsPast t.nodes s.fileid g.fileid) → s.fileid ≡ g.fileid → ⊥
  other_by dir true kind same past is = apart (is ∙ sym (eqb-true f.fileid g.fileid same))
  other_by true false kind same past is = past_here t.nodes s.fileid g.fileid (past refl) (sym is)
  other_by false false kind same past is = kinds_apart t.nodes s.fileid g.fileid s.node g.node source lands.is kind lands.kind is

  other : (changes_parent ≡ true → LeadsPast t.nodes s.fileid g.fileid) → s.fileid ≡ g.fileid → ⊥
  other past is = other_by (is_directory s.node.inode.kind) (f.fileid == g.fileid) refl refl past is

  -- where something else has it, without names of its own: then the tree where that went
  module _ (after : Tree) (y : NameEntry) (n : Node) (had : named to g.node.names ≡ Some y) (at : t.nodes y.fileid ≡ Some n)
      (empty : n.names ≡ [])
      (differ : y.fileid ≡ s.fileid → ⊥) (gone : NameGone t after g.fileid to g.node y.fileid) where
    first_far : f.fileid ≡ y.fileid → ⊥
    first_far same = nameless t.nodes f.fileid y.fileid s.fileid n at empty named_s same

    -- the name that went is not the old one
    other_name : f.node ≡ g.node → has_name to e ≡ false
    other_name same =
        false_from_ne_true (has_name to e)
        (λ is.
        let names : from ≡ to = sym (named_is from f.node e found) ∙ has_name-is to e is in
        let entries : Some e ≡ Some y =
        sym found ∙ ap (λ (a : List ℕ). named a f.node.names) names ∙ ap (λ (m : Node). named to m.names) same ∙ had in
        differ (sym (entry_number e y entries) ∙ leads))

    old_name : Naming after.nodes f.fileid from e
    old_name =
        ⊎_elim
        (λ is.
        let nodes_same : f.node ≡ g.node = same_node (t.nodes f.fileid) f.node g.node stands.is (ap t.nodes is ∙ lands.is) in
        record {
          node = gone.node;
          is = ap after.nodes is ∙ gone.is;
          kind = sym (ap is_directory gone.kind) ∙ lands.kind;
          found = sym (named_alike from (drop_name to g.node) gone.node gone.names) ∙ named_left from to g.node e
              (sym (ap (λ (m : Node). named from m.names) nodes_same) ∙ found) (other_name nodes_same);
        })
        (λ far. record { node = f.node; is = gone.others f.fileid far first_far ∙ stands.is; kind = stands.kind; found = found })
        (cases_eq f.fileid g.fileid)

    can_move_on : (s.fileid ≡ g.fileid → ⊥) → CanMove after.nodes from to f.fileid g.fileid s.fileid
    can_move_on far = record {
      first = old_name.node;
      first_is = old_name.is;
      first_kind = old_name.kind;
      second = gone.node;
      second_is = gone.is;
      second_kind = sym (ap is_directory gone.kind) ∙ lands.kind;
      source = s.node;
      source_is = gone.others s.fileid far (λ is. differ (sym is)) ∙ source;
      entry = e;
      found = old_name.found;
      leads = leads;
      free = sym (named_alike to (drop_name to g.node) gone.node gone.names) ∙ without_lacks to g.node;
      low = low;
      lower = lower;
    }

    parent_on : (q : ℕ) → (q ≡ y.fileid → ⊥) → parent_of (t.nodes q) q ≡ parent_of (after.nodes q) q
    parent_on q far =
        ⊎_elim
        (λ is. subst (λ (z : ℕ). parent_of (t.nodes z) z ≡ parent_of (after.nodes z) z) (sym is)
        (parent_of_same (t.nodes g.fileid) (after.nodes g.fileid) g.fileid g.node gone.node lands.is gone.is gone.parent))
        (λ no_g. sym (ap (λ (o : Option Node). parent_of o q) (gone.others q no_g far)))
        (cases_eq q g.fileid)

    -- what went stood on no way up: it has no names
    past_on : LeadsPast t.nodes s.fileid g.fileid → LeadsPast after.nodes s.fileid g.fileid
    past_on past =
        past_kept t.nodes after.nodes s.fileid (λ q. (is_some_directory (t.nodes q) ≡ true) × (q ≡ y.fileid → ⊥))
        (λ q p far.
        let st = stands_in t t.nodes q k.bounds.live k.live p.0 far in
        let once : count_in (t.nodes (parent_of (t.nodes q) q)) q ≡ 1 = st.once in
        record {
          same = parent_on q p.1;
          next = (
            st.parent,
            nameless t.nodes (parent_of (t.nodes q) q) y.fileid q n at empty
                (omega (arith, once)),
          );
        })
        g.fileid (ap is_some_directory lands.is ∙ lands.kind, second_gone y n had at empty) past

    hangs_on : (now : Moment) → (changes_parent ≡ true → LeadsPast t.nodes s.fileid g.fileid) → HangTogether after.nodes
        → HangTogether (moved_by changes_parent now from to f.fileid g.fileid s.fileid after).nodes
    unfolding can_move_on
    hangs_on now past h =
        moves now from to f.fileid g.fileid s.fileid after (can_move_on (other past)) apart h (is_directory s.node.inode.kind)
        (f.fileid == g.fileid) refl refl (λ b. past_on (past b))

  -- ---- by what has the new name

  module _ (now : Moment) (past : changes_parent ≡ true → LeadsPast t.nodes s.fileid g.fileid) where
    replaced_hangs : (y : NameEntry) (n : Node) → named to g.node.names ≡ Some y → t.nodes y.fileid ≡ Some n
        → (y.fileid ≡ s.fileid → ⊥)
        → (is_directory n.inode.kind && nat_lt 0 (length n.names)) ≡ false → (dir : Bool) → is_directory n.inode.kind ≡ dir
        → HangTogether (moved_by changes_parent now from to f.fileid g.fileid s.fileid
        (without_node dir now g.fileid to y.fileid t)).nodes
    replaced_hangs y n had at far clear true dir =
        let empty : n.names ≡ [] = empty_of (is_directory n.inode.kind) n.names dir clear in
        let r : Removable t g.fileid to y g.node n = record { directory = lands.is; found = had; there = at } in
        let no_g : g.fileid ≡ y.fileid → ⊥ = second_gone y n had at empty in
        hangs_on (drop_directory now g.fileid to y.fileid t) y n had at empty far
        (record {
          node = touch now (drop_link (drop_name to g.node));
          is = directory_removed_directory now g.fileid to t y g.node n r no_g;
          kind = refl;
          names = refl;
          parent = refl;
          others = λ q a b. directory_removed_elsewhere now g.fileid to t y.fileid q a b;
        })
        now past
        (directory_removed_hangs now g.fileid to t y g.node n (bounds_within t k.bounds) k.live r dir empty)
    replaced_hangs y n had at far clear false file =
        let empty : n.names ≡ [] = file_nothing t t.nodes y.fileid n k.bounds.live at file in
        let r : Removable t g.fileid to y g.node n = record { directory = lands.is; found = had; there = at } in
        let no_g : g.fileid ≡ y.fileid → ⊥ = second_gone y n had at empty in
        hangs_on (remove_file now g.fileid to y.fileid t) y n had at empty far
        (record {
          node = touch now (drop_name to g.node);
          is = removed_directory now g.fileid to t y g.node n r no_g;
          kind = refl;
          names = refl;
          parent = refl;
          others = λ q a b. removed_elsewhere now g.fileid to t y.fileid q a b;
        })
        now past
        (file_removed now g.fileid to t y g.node n (bounds_within t k.bounds) k.live r file)

    named_by : (y : NameEntry) (o : Option Node) → named to g.node.names ≡ Some y → t.nodes y.fileid ≡ o
        → given (option_map (object_by (Live y.fileid)) o) (λ x. fileid_at x.place == s.fileid) ≡ false
        → given (option_map (object_by (Live y.fileid)) o) (is_in_the_way t (object_by (Live s.fileid) s.node)) ≡ false
        → HangTogether (moved_by changes_parent now from to f.fileid g.fileid s.fileid
        (replace now g.fileid to (option_map replaced_by (option_map (object_by (Live y.fileid)) o)) t)).nodes
    named_by y (Some n) had at far clear =
        let kinds = differs (is_directory n.inode.kind) (is_directory s.node.inode.kind) in
        let empty = (or_parts kinds (is_directory n.inode.kind && has_names t (Live y.fileid)) clear).1 in
        replaced_hangs y n had at (eqb-false y.fileid s.fileid far)
        (subst (λ (names : List NameEntry). (is_directory n.inode.kind && nat_lt 0 (length names)) ≡ false)
        (names_live t y.fileid n at) empty)
        (is_directory n.inode.kind) refl
    named_by y None had at far clear =
        let led : is_some (t.nodes y.fileid) ≡ true =
        named_has (λ z. is_some (t.nodes z.fileid) ≡ true) to g.node y had
        (names_are t.nodes g.fileid g.node k.live lands.is).lead in
        absurd (true≢false (sym led ∙ ap is_some at))

    pub target_hangs : (o : Option NameEntry) → named to g.node.names ≡ o
        → given (target_at t o) (λ x. fileid_at x.place == s.fileid) ≡ false
        → given (target_at t o) (is_in_the_way t (object_by (Live s.fileid) s.node)) ≡ false
        → HangTogether (moved_by changes_parent now from to f.fileid g.fileid s.fileid
        (replace now g.fileid to (option_map replaced_by (target_at t o)) t)).nodes
    unfolding can_move object_at node_at
    target_hangs (Some y) had far clear = named_by y (t.nodes y.fileid) had refl far clear
    target_hangs None free far clear =
        moves now from to f.fileid g.fileid s.fileid t (can_move free) apart k.live (is_directory s.node.inode.kind)
        (f.fileid == g.fileid) refl refl past
