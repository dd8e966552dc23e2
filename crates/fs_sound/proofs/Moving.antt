-- A name moves: it goes from one directory, and a name for the same node comes into one.
use Rattle.std.proofs.Common.{◌≡◌, ℕ, ◌+◌, ◌-◌, ◌≤◌, ◌<◌, ◌==◌, Bool, true, false, not, if◌then◌else◌, true≢false, List, []}
use Rattle.std.proofs.Common.{◌∷◌, ◌++◌, bytes_eq, Option, Some, None, is_some, ◌⊎◌, inl, inr, ⊎_elim, refl, sym, ap, subst}
use Rattle.std.proofs.Common.{◌∙◌, arith, ◌&&◌}
use Rattle.std.proofs.lemmas.Bool.{eqb-true, eqb-false}
use Rattle.std.proofs.lemmas.List.Elements.{All-filter}
use Rattle.nfs3_types.specs.declared.moment.Moment.{Moment}
use Rattle.fs_rules.specs.Attributes.{is_directory}
use Rattle.fs_rules.specs.Edits.{add_link, add_name, drop_link, drop_name, edit_node, set_ctime, set_parent, touch}
use Rattle.fs_rules.specs.Names.{has_name, named}
use Rattle.fs_rules.specs.Renaming.{parent_of}
use Rattle.fs_rules.specs.Sound.{AreNames, HangTogether, Lacks, LeadsUp, all_numbers, count_in, count_names, is_some_directory}
use Rattle.fs_rules.specs.Sound.{subdirectories}
use Rattle.fs_rules.specs.Tree.{Node, Nodes, Tree}
use Rattle.fs_rules.specs.declared.name_entry.NameEntry.{NameEntry}
use Rattle.fs_laws.proofs.Passed.{past}
use Rattle.fs_sound.proofs.Counts.{count_append, count_found, count_without, counts_none, counts_one, lead_same, named_has}
use Rattle.fs_sound.proofs.Counts.{named_lacks, subdirectories_append, subdirectories_same, subdirectories_without, without}
use Rattle.fs_sound.proofs.Edited.{at_elsewhere, at_here}
use Rattle.fs_sound.proofs.Facts.{in_all, in_two, names_are, placed}
use Rattle.fs_sound.proofs.Others.{AreKept, IsKept, at_one, at_three, count_moved, directory_of, hangs_kept, kept_same}
use Rattle.fs_sound.proofs.Others.{kept_some, names_in_some, names_with, names_without, one_if, parent_of_same}
use Rattle.fs_sound.proofs.Others.{subdirectories_moved, sum_moved}
use Rattle.fs_sound.proofs.Skeleton.{at_keeps}
use Rattle.fs_sound.proofs.Sums.{sum_same}
use Rattle.fs_sound.proofs.Up.{LeadsPast, past_here, past_same, up_below, up_joined, up_same}

-- ---- a move that can be done

-- two directories, a name in the first, and the node that it leads to; the second has no such name
pub record CanMove (nodes : Nodes) (from to : List ℕ) (f g s : ℕ) : Type 0 where
  pub first : Node
  pub first_is : nodes f ≡ Some first
  pub first_kind : is_directory first.inode.kind ≡ true
  pub second : Node
  pub second_is : nodes g ≡ Some second
  pub second_kind : is_directory second.inode.kind ≡ true
  pub source : Node
  pub source_is : nodes s ≡ Some source
  pub entry : NameEntry
  pub found : named from first.names ≡ Some entry
  pub leads : entry.fileid ≡ s
  pub free : named to second.names ≡ None
  pub low : f < all_numbers
  pub lower : g < all_numbers

-- ---- in one directory

module _ (now : Moment) (from to : List ℕ) (nodes after : Nodes) (d s : ℕ) (n : Node) (e : NameEntry) (is : nodes d ≡ Some n)
    (done : after d ≡ Some (touch now (add_name to s (touch now (drop_name from n)))))
    (others : (q : ℕ) → (q ≡ d → ⊥) → nodes q ≡ after q)
    (found : named from n.names ≡ Some e) (leads : e.fileid ≡ s) (free : named to n.names ≡ None) (h : HangTogether nodes) where
  abbrev new_name : Node → NameEntry
  new_name x = record { cookie = x.inode.next_cookie; name = to; fileid = s }

  abbrev own : Node
  own = touch now (add_name to s (touch now (drop_name from n)))

  some_one : (q : ℕ) → is_some (nodes q) ≡ true → is_some (after q) ≡ true
  some_one =
      at_one (λ q. is_some (nodes q) ≡ true → is_some (after q) ≡ true) d
      (λ k. ap is_some done)
      (λ q apart k. sym (ap is_some (others q apart)) ∙ k)

  directory_one : (q : ℕ) → is_some_directory (nodes q) ≡ is_some_directory (after q)
  directory_one =
      at_one (λ q. is_some_directory (nodes q) ≡ is_some_directory (after q)) d
      (directory_of (nodes d) (after d) n own is done refl)
      (λ q apart. ap is_some_directory (others q apart))

  parent_one : (q : ℕ) → parent_of (nodes q) q ≡ parent_of (after q) q
  parent_one =
      at_one (λ q. parent_of (nodes q) q ≡ parent_of (after q) q) d
      (parent_of_same (nodes d) (after d) d n own is done refl)
      (λ q apart. ap (λ (o : Option Node). parent_of o q) (others q apart))

  names_one : (id q : ℕ) → count_in (nodes q) id ≡ count_in (after q) id
  names_one id =
      at_one (λ q. count_in (nodes q) id ≡ count_in (after q) id) d
      (names_in_some (nodes d) id n is ∙ count_moved id from n e (new_name n) (names_are nodes d n h is).distinct found leads ∙
      sym (names_in_some (after d) id own done))
      (λ q apart. ap (λ (o : Option Node). count_in o id) (others q apart))

  total_one : (id : ℕ) → count_names nodes id ≡ count_names after id
  unfolding count_names
  total_one id = sum_same (λ q. count_in (nodes q) id) (λ q. count_in (after q) id) all_numbers (names_one id)

  own_one : IsKept nodes after d n own
  own_one =
      let a = names_are nodes d n h is in
      let lacks : Lacks to n.names = named_lacks to n free in
      let s_there : is_some (nodes s) ≡ true =
      ap (λ (k : ℕ). is_some (nodes k)) (sym leads) ∙ named_has (λ x. is_some (nodes x.fileid) ≡ true) from n e found a.lead in
      record {
        kind = refl;
        root = λ k. refl;
        names = names_with nodes after (without from n.names) (new_name n) some_one
            (names_without nodes nodes from n.names (λ q k. k) a) (All-filter (λ x. not (has_name from x))
            (λ x. bytes_eq x.name to ≡ false) n.names lacks) s_there;
        links = ap (λ (k : ℕ). n.inode.nlink + k)
            (sym (subdirectories_moved nodes from n e (new_name n) a.distinct found leads ∙ subdirectories_same nodes after
            own.names directory_one));
        file = λ k. refl;
        there = λ k one. sym (names_one d n.inode.parent) ∙ one;
      }

  kept_one : (q : ℕ) → AreKept nodes after q (nodes q) (after q)
  kept_one =
      at_one (λ q. AreKept nodes after q (nodes q) (after q)) d
      (kept_some nodes after d (nodes d) (after d) n own is done own_one)
      (λ q apart. kept_same nodes after q some_one directory_one (names_one q) h (others q apart))

  one_hangs : HangTogether after
  one_hangs =
      hangs_kept nodes after total_one
      (λ id u. up_same nodes after (λ q. Unit {0}) (λ q p apart. record { same = parent_one q; next = tt }) id tt u)
      kept_one h

-- ---- between two directories

abbrev with_links : ℕ → Node → Node
with_links nlink n = record n { inode = record n.inode { nlink = nlink } }

-- what a directory's links lose or win
abbrev share : Nodes → ℕ → ℕ
share nodes s = one_if (is_some_directory (nodes s))

module _ (now : Moment) (from to : List ℕ) (nodes after : Nodes) (f g s k l p : ℕ) (c : CanMove nodes from to f g s)
    (differ : f ≡ g → ⊥) (apart : s ≡ f → ⊥) (other : s ≡ g → ⊥)
    (first_links : c.first.inode.nlink ≡ k + share nodes s) (second_links : l ≡ c.second.inode.nlink + share nodes s)
    (parent : is_directory c.source.inode.kind ≡ true → p ≡ g)
    (first_done : after f ≡ Some (touch now (drop_name from (with_links k c.first))))
    (second_done : after g ≡ Some (touch now (add_name to s (with_links l c.second))))
    (source_done : after s ≡ Some (set_ctime now (set_parent p c.source)))
    (others : (q : ℕ) → (q ≡ f → ⊥) → (q ≡ g → ⊥) → (q ≡ s → ⊥) → nodes q ≡ after q)
    (way : (p ≡ c.source.inode.parent) ⊎ ((p ≡ g) × LeadsPast nodes s g)) (h : HangTogether nodes) where
  abbrev new_first : Node
  new_first = touch now (drop_name from (with_links k c.first))

  abbrev new_second : Node
  new_second = touch now (add_name to s (with_links l c.second))

  abbrev new_source : Node
  new_source = set_ctime now (set_parent p c.source)

  abbrev added : NameEntry
  added = record { cookie = c.second.inode.next_cookie; name = to; fileid = s }

  abbrev left : List NameEntry
  left = without from c.first.names

  first_are : AreNames nodes c.first.names
  first_are = names_are nodes f c.first h c.first_is

  second_are : AreNames nodes c.second.names
  second_are = names_are nodes g c.second h c.second_is

  some_two : (q : ℕ) → is_some (nodes q) ≡ true → is_some (after q) ≡ true
  some_two =
      at_three (λ q. is_some (nodes q) ≡ true → is_some (after q) ≡ true) f g s
      (λ b. ap is_some first_done)
      (λ b. ap is_some second_done)
      (λ b. ap is_some source_done)
      (λ q no_f no_g no_s b. sym (ap is_some (others q no_f no_g no_s)) ∙ b)

  directory_two : (q : ℕ) → is_some_directory (nodes q) ≡ is_some_directory (after q)
  directory_two =
      at_three (λ q. is_some_directory (nodes q) ≡ is_some_directory (after q)) f g s
      (directory_of (nodes f) (after f) c.first new_first c.first_is first_done refl)
      (directory_of (nodes g) (after g) c.second new_second c.second_is second_done refl)
      (directory_of (nodes s) (after s) c.source new_source c.source_is source_done refl)
      (λ q no_f no_g no_s. ap is_some_directory (others q no_f no_g no_s))

  parent_two : (q : ℕ) → (q ≡ s → ⊥) → parent_of (nodes q) q ≡ parent_of (after q) q
  parent_two =
      at_three (λ q. (q ≡ s → ⊥) → parent_of (nodes q) q ≡ parent_of (after q) q) f g s
      (λ out. parent_of_same (nodes f) (after f) f c.first new_first c.first_is first_done refl)
      (λ out. parent_of_same (nodes g) (after g) g c.second new_second c.second_is second_done refl)
      (λ out. absurd (out refl))
      (λ q no_f no_g no_s out. ap (λ (o : Option Node). parent_of o q) (others q no_f no_g no_s))

  -- all parents stay where a file moves, and the new parent of a directory leads up past it
  up_two : (id : ℕ) → LeadsUp nodes id → LeadsUp after id
  up_two id u =
      ⊎_elim
      (λ stays.
      let all : (q : ℕ) → parent_of (nodes q) q ≡ parent_of (after q) q =
      at_one (λ q. parent_of (nodes q) q ≡ parent_of (after q) q) s
      (parent_of_same (nodes s) (after s) s c.source new_source c.source_is source_done (sym stays)) parent_two in
      up_same nodes after (λ q. Unit {0}) (λ q b far. record { same = all q; next = tt }) id tt u)
      (λ moves.
      let own : LeadsUp after s =
      up_below after s g (ap (λ (o : Option Node). parent_of o s) source_done ∙ moves.0)
      (past_same nodes after s parent_two g moves.1) in
      up_joined nodes after s parent_two own id u)
      way

  -- the name of a node that goes, and the one that comes
  goes : (id : ℕ) → count_in (nodes f) id ≡ count_in (after f) id + one_if (s == id)
  goes id =
      let test : one_if (c.entry.fileid == id) ≡ one_if (s == id) = ap (λ (x : ℕ). one_if (x == id)) c.leads in
      omega (
        arith,
        names_in_some (nodes f) id c.first c.first_is,
        names_in_some (after f) id new_first first_done,
        count_without id from c.first c.entry first_are.distinct c.found,
        test,
      )

  comes : (id : ℕ) → count_in (after g) id ≡ count_in (nodes g) id + one_if (s == id)
  comes id =
      omega (
        arith,
        names_in_some (nodes g) id c.second c.second_is,
        names_in_some (after g) id new_second second_done,
        count_append id c.second.names added,
      )

  source_same : (id : ℕ) → count_in (nodes s) id ≡ count_in (after s) id
  source_same id = names_in_some (nodes s) id c.source c.source_is ∙ sym (names_in_some (after s) id new_source source_done)

  rest_same : (id q : ℕ) → (q ≡ f → ⊥) → (q ≡ g → ⊥) → count_in (nodes q) id ≡ count_in (after q) id
  rest_same id q no_f no_g =
      at_one (λ x. (x ≡ f → ⊥) → (x ≡ g → ⊥) → count_in (nodes x) id ≡ count_in (after x) id) s
      (λ a b. source_same id)
      (λ x no_s a b. ap (λ (o : Option Node). count_in o id) (others x a b no_s))
      q no_f no_g

  total_two : (id : ℕ) → count_names nodes id ≡ count_names after id
  unfolding count_names
  total_two id =
      sum_moved (λ q. count_in (nodes q) id) (λ q. count_in (after q) id) f g all_numbers c.low c.lower differ (rest_same id)
      (omega (arith, goes id, comes id))

  -- the names of all others are where they were
  names_two : (id : ℕ) → (id ≡ s → ⊥) → (q : ℕ) → count_in (nodes q) id ≡ count_in (after q) id
  names_two id out =
      let none : one_if (s == id) ≡ 0 = counts_none s id (λ is. out (sym is)) in
      at_three (λ q. count_in (nodes q) id ≡ count_in (after q) id) f g s
      (omega (arith, goes id, none))
      (omega (arith, comes id, none))
      (source_same id)
      (λ q no_f no_g no_s. rest_same id q no_f no_g)

  named_once : 1 ≤ count_in (nodes f) s
  named_once =
      subst (λ (x : ℕ). 1 ≤ count_in (nodes f) x) c.leads
      (omega (
        arith,
        names_in_some (nodes f) c.entry.fileid c.first c.first_is,
        count_found from c.first c.entry
            first_are.distinct c.found,
      ))

  -- the node that moves is not the root
  not_root : s ≡ 1 → ⊥
  not_root is =
      let none : count_names nodes s ≡ 0 = ap (count_names nodes) is ∙ h.unnamed in
      omega (arith, in_all nodes f s c.low, named_once, none)

  -- a directory's only name stands in its new parent then
  stands_new : is_directory c.source.inode.kind ≡ true → count_in (after g) s ≡ 1
  stands_new dir =
      let one : count_names nodes s ≡ 1 = ((placed nodes s c.source h c.source_is dir).parent not_root).once in
      omega (arith, one, in_two nodes f g s c.low c.lower differ, named_once, comes s, counts_one s s refl)

  first_kept : IsKept nodes after f c.first new_first
  first_kept =
      let test : one_if (is_some_directory (nodes c.entry.fileid)) ≡ share nodes s = ap (λ (x : ℕ). share nodes x) c.leads in
      record {
        kind = refl;
        root = λ b. refl;
        names = names_without nodes after from c.first.names some_two first_are;
        links = omega (
          arith,
          first_links,
          subdirectories_without nodes from c.first c.entry first_are.distinct c.found,
          test,
          subdirectories_same nodes after left directory_two,
        );
        file = λ b. absurd (true≢false (sym c.first_kind ∙ b));
        there = λ b one. sym (names_two f (λ is. apart (sym is)) c.first.inode.parent) ∙ one;
      }

  second_kept : IsKept nodes after g c.second new_second
  second_kept =
      record {
        kind = refl;
        root = λ b. refl;
        names = names_with nodes after c.second.names added some_two second_are (named_lacks to c.second c.free)
            (ap is_some c.source_is);
        links = omega (
          arith,
          second_links,
          subdirectories_append nodes c.second.names added,
          subdirectories_same nodes after
              (c.second.names ++ (added ∷ [])) directory_two,
        );
        file = λ b. absurd (true≢false (sym c.second_kind ∙ b));
        there = λ b one. sym (names_two g (λ is. other (sym is)) c.second.inode.parent) ∙ one;
      }

  source_kept : IsKept nodes after s c.source new_source
  source_kept =
      let a = names_are nodes s c.source h c.source_is in
      record {
        kind = refl;
        root = λ is. absurd (not_root is);
        names = record { distinct = a.distinct; lead = lead_same nodes after c.source.names some_two a.lead };
        links = ap (λ (x : ℕ). c.source.inode.nlink + x) (sym (subdirectories_same nodes after c.source.names directory_two));
        file = λ b. refl;
        there = λ dir one. ap (λ (x : ℕ). count_in (after x) s) (parent dir) ∙ stands_new dir;
      }

  kept_two : (q : ℕ) → AreKept nodes after q (nodes q) (after q)
  kept_two =
      at_three (λ q. AreKept nodes after q (nodes q) (after q)) f g s
      (kept_some nodes after f (nodes f) (after f) c.first new_first c.first_is first_done first_kept)
      (kept_some nodes after g (nodes g) (after g) c.second new_second c.second_is second_done second_kept)
      (kept_some nodes after s (nodes s) (after s) c.source new_source c.source_is source_done source_kept)
      (λ q no_f no_g no_s. kept_same nodes after q some_two directory_two (names_two q no_s) h (others q no_f no_g no_s))

  two_hang : HangTogether after
  two_hang = hangs_kept nodes after total_two up_two kept_two h

-- ---- the edits of a move

-- with another parent for the node, or without
abbrev pub moved_by : Bool → Moment → List ℕ → List ℕ → ℕ → ℕ → ℕ → Tree → Tree
moved_by another now from to f g s t =
    edit_node s (λ n. set_ctime now (if another then set_parent g n else n))
    (edit_node g (λ n. touch now (add_name to s n))
    (edit_node f (λ n. touch now (drop_name from n))
    (if another then edit_node g add_link (edit_node f drop_link t) else t)))

one_node : (o : Option Node) (a b : Node) → o ≡ Some a → o ≡ Some b → a ≡ b
one_node o a b p q = cc

pub moved_within : (now : Moment) (from to : List ℕ) (d s : ℕ) (t : Tree) → CanMove t.nodes from to d d s → HangTogether t.nodes
    → HangTogether (moved_by false now from to d d s t).nodes
moved_within now from to d s t c h =
    let less : Node → Node = λ n. touch now (drop_name from n) in
    let more : Node → Node = λ n. touch now (add_name to s n) in
    let before : Tree = edit_node d less t in
    let after : Tree = edit_node d more before in
    let free : named to c.first.names ≡ None =
    ap (λ (n : Node). named to n.names) (one_node (t.nodes d) c.first c.second c.first_is c.second_is) ∙ c.free in
    at_keeps after (λ n. set_ctime now n) s (λ n. refl)
    (one_hangs now from to t.nodes after.nodes d s c.first c.entry c.first_is
    (at_here d more before (less c.first) (at_here d less t c.first c.first_is))
    (λ q apart. sym (at_elsewhere d q more before apart ∙ at_elsewhere d q less t apart))
    c.found c.leads free h)

-- the last three edits, of different nodes
module _ (t : Tree) (f g s : ℕ) (less more last : Node → Node) (differ : f ≡ g → ⊥) (apart : s ≡ f → ⊥) (other : s ≡ g → ⊥) where
  abbrev all : Tree
  all = edit_node s last (edit_node g more (edit_node f less t))

  first_at : (n : Node) → t.nodes f ≡ Some n → all.nodes f ≡ Some (less n)
  first_at n is =
      at_elsewhere s f last (edit_node g more (edit_node f less t)) (λ same. apart (sym same))
      ∙ at_elsewhere g f more (edit_node f less t) differ
      ∙ at_here f less t n is

  second_at : (n : Node) → t.nodes g ≡ Some n → all.nodes g ≡ Some (more n)
  second_at n is =
      at_elsewhere s g last (edit_node g more (edit_node f less t)) (λ same. other (sym same))
      ∙ at_here g more (edit_node f less t) n (at_elsewhere f g less t (λ same. differ (sym same)) ∙ is)

  source_at : (n : Node) → t.nodes s ≡ Some n → all.nodes s ≡ Some (last n)
  source_at n is =
      at_here s last (edit_node g more (edit_node f less t)) n (at_elsewhere g s more (edit_node f less t) other ∙ at_elsewhere
      f s less t apart ∙ is)

  rest_at : (q : ℕ) → (q ≡ f → ⊥) → (q ≡ g → ⊥) → (q ≡ s → ⊥) → all.nodes q ≡ t.nodes q
  rest_at q no_f no_g no_s =
      at_elsewhere s q last (edit_node g more (edit_node f less t)) no_s ∙ at_elsewhere g q more (edit_node f less t) no_g ∙
      at_elsewhere f q less t no_f

pub file_moved : (now : Moment) (from to : List ℕ) (f g s : ℕ) (t : Tree) (c : CanMove t.nodes from to f g s) → (f ≡ g → ⊥)
    → (s ≡ f → ⊥) → (s ≡ g → ⊥)
    → is_directory c.source.inode.kind ≡ false → HangTogether t.nodes → HangTogether (moved_by false now from to f g s t).nodes
file_moved now from to f g s t c differ apart other file h =
    let less : Node → Node = λ n. touch now (drop_name from n) in
    let more : Node → Node = λ n. touch now (add_name to s n) in
    let last : Node → Node = λ n. set_ctime now n in
    let none : share t.nodes s ≡ 0 = ap one_if (ap is_some_directory c.source_is ∙ file) in
    two_hang now from to t.nodes (moved_by false now from to f g s t).nodes f g s c.first.inode.nlink c.second.inode.nlink
    c.source.inode.parent c
    differ apart other (omega (arith, none)) (omega (arith, none)) (λ dir. absurd (true≢false (sym dir ∙ file)))
    (first_at t f g s less more last differ apart other c.first c.first_is)
    (second_at t f g s less more last differ apart other c.second c.second_is)
    (source_at t f g s less more last differ apart other c.source c.source_is)
    (λ q no_f no_g no_s. sym (rest_at t f g s less more last differ apart other q no_f no_g no_s))
    (inl refl) h

pub directory_moved : (now : Moment) (from to : List ℕ) (f g s : ℕ) (t : Tree) (c : CanMove t.nodes from to f g s) → (f ≡ g → ⊥)
    → (s ≡ f → ⊥)
    → is_directory c.source.inode.kind ≡ true → LeadsPast t.nodes s g → HangTogether t.nodes
    → HangTogether (moved_by true now from to f g s t).nodes
directory_moved now from to f g s t c differ apart dir past h =
    let less : Node → Node = λ n. touch now (drop_name from n) in
    let more : Node → Node = λ n. touch now (add_name to s n) in
    let last : Node → Node = λ n. set_ctime now (set_parent g n) in
    let other : s ≡ g → ⊥ = λ is. past_here t.nodes s g past (sym is) in
    let half : Tree = edit_node f drop_link t in
    let base : Tree = edit_node g add_link half in
    let one : share t.nodes s ≡ 1 = ap one_if (ap is_some_directory c.source_is ∙ dir) in
    let links : c.first.inode.nlink ≡ 2 + subdirectories t.nodes c.first.names =
    (placed t.nodes f c.first h c.first_is c.first_kind).links in
    two_hang now from to t.nodes (moved_by true now from to f g s t).nodes f g s (c.first.inode.nlink - 1)
    (c.second.inode.nlink + 1) g c
    differ apart other (omega (arith, one, links)) (omega (arith, one)) (λ b. refl)
    (first_at base f g s less more last differ apart other (drop_link c.first)
    (at_elsewhere g f add_link half differ ∙ at_here f drop_link t c.first c.first_is))
    (second_at base f g s less more last differ apart other (add_link c.second)
    (at_here g add_link half c.second (at_elsewhere f g drop_link t (λ is. differ (sym is)) ∙ c.second_is)))
    (source_at base f g s less more last differ apart other c.source (at_elsewhere g s add_link half other ∙ at_elsewhere f s
    drop_link t apart ∙ c.source_is))
    (λ q no_f no_g no_s. sym (rest_at base f g s less more last differ apart other q no_f no_g no_s ∙ at_elsewhere g q add_link
    half no_g ∙ at_elsewhere f q drop_link t no_f))
    (inr (refl, past)) h

-- ---- the move, by whether it is within one directory, and what moves

pub kinds_apart : (nodes : Nodes) (a b : ℕ) (n m : Node) → nodes a ≡ Some n → nodes b ≡ Some m
    → is_directory n.inode.kind ≡ false → is_directory m.inode.kind ≡ true → a ≡ b → ⊥
kinds_apart nodes a b n m is now file dir same =
    true≢false (sym (ap is_some_directory now ∙ dir) ∙ ap (λ (k : ℕ). is_some_directory (nodes k)) (sym same) ∙ ap
    is_some_directory is ∙ file)

within_by : (now : Moment) (from to : List ℕ) (f g s : ℕ) (t : Tree) → CanMove t.nodes from to f g s → f ≡ g
    → HangTogether t.nodes
    → HangTogether (moved_by false now from to f g s t).nodes
within_by now from to f g s t c same h =
    subst (λ (k : ℕ). CanMove t.nodes from to f k s → HangTogether (moved_by false now from to f k s t).nodes) same
    (λ d. moved_within now from to f s t d h) c

pub moves : (now : Moment) (from to : List ℕ) (f g s : ℕ) (t : Tree) (c : CanMove t.nodes from to f g s) → (s ≡ f → ⊥)
    → HangTogether t.nodes
    → (dir same : Bool) → is_directory c.source.inode.kind ≡ dir → (f == g) ≡ same
    → ((dir && not same) ≡ true → LeadsPast t.nodes s g)
    → HangTogether (moved_by (dir && not same) now from to f g s t).nodes
moves now from to f g s t c apart h true true dir same past = within_by now from to f g s t c (eqb-true f g same) h
moves now from to f g s t c apart h true false dir same past =
    directory_moved now from to f g s t c (eqb-false f g same) apart dir (past refl) h
moves now from to f g s t c apart h false true dir same past = within_by now from to f g s t c (eqb-true f g same) h
moves now from to f g s t c apart h false false dir same past =
    file_moved now from to f g s t c (eqb-false f g same) apart (kinds_apart t.nodes s g c.source c.second c.source_is
    c.second_is dir c.second_kind) dir h
