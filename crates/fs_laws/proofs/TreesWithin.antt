-- Edits of the live tree that leave the tree within its bounds.
use Rattle.std.proofs.Common.{◌≡◌, ℕ, ◌+◌, ◌%◌, ◌≤◌, ◌<◌, ◌==◌, nat_le, nat_lt, ◌||◌, ◌&&◌, Bool, true, false, if◌then◌else◌}
use Rattle.std.proofs.Common.{length, slice_set, slice_index_or, Option, Some, None, IfSome, option_map, option_and_then, inl}
use Rattle.std.proofs.Common.{inr, refl, sym, subst, arith, length-set, get_or-set_same, get_or-set_other}
use Rattle.std.specs.Bool.{⊤}
use Rattle.std.proofs.lemmas.Bool.{and_from, and_parts, cases_eq, eqb-true, eq-eqb, le-leb, lt-ltb, ltb-true, or_cases}
use Rattle.std.proofs.lemmas.List.Elements.{All-weaker}
use Rattle.nfs3_types.specs.declared.moment.Moment.{Moment}
use Rattle.fs_rules.specs.Attributes.{given}
use Rattle.fs_rules.specs.Edits.{drop_link, drop_node, edit_node, give_number, set_ctime, with_node}
use Rattle.fs_rules.specs.Limits.{most_numbers}
use Rattle.fs_rules.specs.Removing.{lose_link, lose_name}
use Rattle.fs_rules.specs.Sound.{AreNodesWithin, HasBounds, IsNextOf, IsNodeWithin, is_given}
use Rattle.fs_rules.specs.Tree.{Node, Nodes, Tree, next_fileid}
use Rattle.fs_laws.proofs.Checked.{gives}
use Rattle.fs_laws.proofs.NodesWithin.{ctime_within, link_less_within}
use Rattle.fs_laws.proofs.Passed.{or_right}

-- ---- options

pub some_more : {A : Type 0} (P Q : A → Type 0) (o : Option A) → ((a : A) → P a → Q a) → IfSome o P → IfSome o Q
some_more P Q (Some a) more h = more a h
some_more P Q None more h = tt

pub some_both : {A : Type 0} (P Q R : A → Type 0) (o : Option A) → ((a : A) → P a → Q a → R a) → IfSome o P → IfSome o Q
    → IfSome o R
some_both P Q R (Some a) both h k = both a h k
some_both P Q R None both h k = tt

mapped : {A : Type 0} (P : A → Type 0) (edit : A → A) (o : Option A) → IfSome o (λ a. P (edit a)) → IfSome (option_map edit o) P
mapped P edit (Some a) h = h
mapped P edit None h = tt

pub of_some : {A : Type 0} (P : A → Type 0) (o : Option A) (a : A) → o ≡ Some a → P a → IfSome o P
of_some {A = A} P o a is h = subst (λ (x : Option A). IfSome x P) (sym is) h

-- ---- numbers that were given stay given

pub given_kept : (t u : Tree) (nodes : Nodes) → ((fileid : ℕ) → is_given t fileid ≡ true → is_given u fileid ≡ true)
    → AreNodesWithin t nodes → AreNodesWithin u nodes
given_kept t u nodes more h = record {
  each = h.each;
  given = λ fileid. some_more (λ n. is_given t fileid ≡ true) (λ n. is_given u fileid ≡ true) (nodes fileid) (λ n. more fileid)
      (h.given fileid);
}

same_given : (t : Tree) (nodes live : Nodes) → AreNodesWithin t nodes → AreNodesWithin (record t { nodes = live }) nodes
unfolding is_given
same_given t nodes live h = record { each = h.each; given = h.given }

-- ---- other nodes

-- with these live nodes
pub live_within : (t : Tree) (live : Nodes) → AreNodesWithin t live → HasBounds t → HasBounds (record t { nodes = live })
live_within t live new h = record {
  lanes = h.lanes;
  next = h.next;
  live = same_given t live live new;
  kept = All-weaker (λ s. AreNodesWithin t s.nodes) (λ s. AreNodesWithin (record t { nodes = live }) s.nodes)
      (λ s. same_given t s.nodes live) t.snapshots h.kept;
  snapshots = record { entries = h.snapshots.entries; distinct = h.snapshots.distinct; few = h.snapshots.few };
  epoch = h.epoch;
  fsid = h.fsid;
}

put_at : (P : ℕ → Node → Type 0) (nodes : Nodes) (fileid q : ℕ) (o : Option Node) (here : Bool) → (q == fileid) ≡ here
    → IfSome o (P fileid) → IfSome (nodes q) (P q) → IfSome (if here then o else nodes q) (P q)
put_at P nodes fileid q o true e new old = subst (λ (x : ℕ). IfSome o (P x)) (sym (eqb-true q fileid e)) new
put_at P nodes fileid q o false e new old = old

-- what is true of all nodes stays true where it is true of the node that is put in
put : (P : ℕ → Node → Type 0) (nodes : Nodes) (fileid q : ℕ) (o : Option Node) → IfSome o (P fileid) → IfSome (nodes q) (P q)
    → IfSome (with_node fileid o nodes q) (P q)
unfolding with_node
put P nodes fileid q o new old = put_at P nodes fileid q o (q == fileid) refl new old

pub put_within : (t : Tree) (fileid : ℕ) (o : Option Node) → IfSome o (IsNodeWithin fileid)
    → IfSome o (λ n. is_given t fileid ≡ true) → HasBounds t → HasBounds (record t { nodes = with_node fileid o t.nodes })
put_within t fileid o new given h = live_within t (with_node fileid o t.nodes) (record {
  each = λ q. put IsNodeWithin t.nodes fileid q o new (h.live.each q);
  given = λ q. put (λ x n. is_given t x ≡ true) t.nodes fileid q o given (h.live.given q);
}) h

-- ---- edits of one node

edit_given : (t : Tree) (fileid : ℕ) (edit : Node → Node) (o : Option Node) → IfSome o (λ n. is_given t fileid ≡ true)
    → IfSome (option_map edit o) (λ n. is_given t fileid ≡ true)
edit_given t fileid edit (Some n) h = h
edit_given t fileid edit None h = tt

-- what is true of the node that stands there lets the edit keep its bounds
pub edit_node_within : (P : Node → Type 0) (t : Tree) (fileid : ℕ) (edit : Node → Node)
    → ((n : Node) → P n → IsNodeWithin fileid n → IsNodeWithin fileid (edit n)) → IfSome (t.nodes fileid) P → HasBounds t
    → HasBounds (edit_node fileid edit t)
unfolding edit_node
edit_node_within P t fileid edit keeps there h = put_within t fileid (option_map edit (t.nodes fileid))
    (mapped (IsNodeWithin fileid) edit (t.nodes fileid) (some_both P (IsNodeWithin fileid) (λ n. IsNodeWithin fileid (edit n))
    (t.nodes fileid) keeps there (h.live.each fileid)))
    (edit_given t fileid edit (t.nodes fileid) (h.live.given fileid)) h

any_node : (o : Option Node) → IfSome o (λ n. ⊤)
any_node (Some n) = tt
any_node None = tt

-- an edit that keeps the bounds of every node
pub each_node_within : (t : Tree) (fileid : ℕ) (edit : Node → Node)
    → ((n : Node) → IsNodeWithin fileid n → IsNodeWithin fileid (edit n)) → HasBounds t → HasBounds (edit_node fileid edit t)
each_node_within t fileid edit keeps h = edit_node_within (λ n. ⊤) t fileid edit (λ n any. keeps n) (any_node (t.nodes fileid)) h

-- an edit that keeps the bounds of this very node
pub edited_within : (t : Tree) (fileid : ℕ) (n : Node) (edit : Node → Node) → t.nodes fileid ≡ Some n
    → (IsNodeWithin fileid n → IsNodeWithin fileid (edit n)) → HasBounds t → HasBounds (edit_node fileid edit t)
edited_within t fileid n edit there keeps h =
    edit_node_within (λ m. m ≡ n) t fileid edit (λ m same. subst (λ (x : Node). IsNodeWithin fileid x → IsNodeWithin fileid
    (edit x)) (sym same) keeps) (of_some (λ m. m ≡ n) (t.nodes fileid) n there refl) h

pub drop_within : (t : Tree) (fileid : ℕ) → HasBounds t → HasBounds (drop_node fileid t)
unfolding drop_node
drop_within t fileid h = put_within t fileid None tt tt h

lost_by : (more : Bool) (P : Node → Type 0) (now : Moment) (n : Node) → P (set_ctime now (drop_link n))
    → IfSome (if more then Some (set_ctime now (drop_link n)) else None) P
lost_by true P now n h = h
lost_by false P now n h = tt

lost : (P : Node → Type 0) (now : Moment) (o : Option Node) → IfSome o (λ n. P (set_ctime now (drop_link n)))
    → IfSome (option_and_then (lose_link now) o) P
lost P now (Some n) h = lost_by (nat_lt 1 n.inode.nlink) P now n h
lost P now None h = tt

pub lose_within : (now : Moment) (t : Tree) (fileid : ℕ) → HasBounds t → HasBounds (lose_name now fileid t)
unfolding lose_name
lose_within now t fileid h = put_within t fileid (option_and_then (lose_link now) (t.nodes fileid))
    (lost (IsNodeWithin fileid) now (t.nodes fileid) (some_more (IsNodeWithin fileid)
    (λ n. IsNodeWithin fileid (set_ctime now (drop_link n))) (t.nodes fileid)
    (λ n k. ctime_within now fileid (drop_link n) (link_less_within fileid n k)) (h.live.each fileid)))
    (lost (λ n. is_given t fileid ≡ true) now (t.nodes fileid) (h.live.given fileid)) h

-- ---- what stays true of a node while others are edited, or it itself

kept_by : (P : Node → Type 0) (nodes : Nodes) (fileid q : ℕ) (o : Option Node) (here : Bool) → (q == fileid) ≡ here
    → (q ≡ fileid → IfSome o P) → IfSome (nodes q) P → IfSome (if here then o else nodes q) P
kept_by P nodes fileid q o true e new old = new (eqb-true q fileid e)
kept_by P nodes fileid q o false e new old = old

kept_at : (P : Node → Type 0) (nodes : Nodes) (fileid q : ℕ) (o : Option Node) → (q ≡ fileid → IfSome o P) → IfSome (nodes q) P
    → IfSome (with_node fileid o nodes q) P
unfolding with_node
kept_at P nodes fileid q o new old = kept_by P nodes fileid q o (q == fileid) refl new old

pub edit_node_keeps : (P : Node → Type 0) (t : Tree) (fileid q : ℕ) (edit : Node → Node) → ((n : Node) → P n → P (edit n))
    → IfSome (t.nodes q) P → IfSome ((edit_node fileid edit t).nodes q) P
unfolding edit_node
edit_node_keeps P t fileid q edit keeps h =
    kept_at P t.nodes fileid q (option_map edit (t.nodes fileid)) (λ same. mapped P edit (t.nodes fileid)
    (some_more P (λ n. P (edit n)) (t.nodes fileid) keeps (subst (λ (x : ℕ). IfSome (t.nodes x) P) same h))) h

gives_at : (Q : Node → Type 0) (nodes : Nodes) (fileid : ℕ) (o : Option Node) (here : Bool) → here ≡ true → IfSome o Q
    → IfSome (if here then o else nodes fileid) Q
gives_at Q nodes fileid o true e h = h
gives_at Q nodes fileid o false e h = absurd cc

-- what is true of a node once it is edited
pub edit_node_gives : (P Q : Node → Type 0) (t : Tree) (fileid : ℕ) (edit : Node → Node) → ((n : Node) → P n → Q (edit n))
    → IfSome (t.nodes fileid) P → IfSome ((edit_node fileid edit t).nodes fileid) Q
unfolding edit_node with_node
edit_node_gives P Q t fileid edit gives h =
    gives_at Q t.nodes fileid (option_map edit (t.nodes fileid)) (fileid == fileid) (eq-eqb fileid fileid refl)
    (mapped Q edit (t.nodes fileid) (some_more P (λ n. Q (edit n)) (t.nodes fileid) gives h))

pub drop_keeps : (P : Node → Type 0) (t : Tree) (fileid q : ℕ) → IfSome (t.nodes q) P → IfSome ((drop_node fileid t).nodes q) P
unfolding drop_node
drop_keeps P t fileid q h = kept_at P t.nodes fileid q None (λ same. tt) h

pub lose_keeps : (P : Node → Type 0) (now : Moment) (t : Tree) (fileid q : ℕ)
    → ((n : Node) → P n → P (set_ctime now (drop_link n))) → IfSome (t.nodes q) P → IfSome ((lose_name now fileid t).nodes q) P
unfolding lose_name
lose_keeps P now t fileid q keeps h =
    kept_at P t.nodes fileid q (option_and_then (lose_link now) (t.nodes fileid))
    (λ same. lost P now (t.nodes fileid) (some_more P (λ n. P (set_ctime now (drop_link n))) (t.nodes fileid) keeps
    (subst (λ (x : ℕ). IfSome (t.nodes x) P) same h))) h

-- ---- the next number of a lane

rises : (t : Tree) (lane q : ℕ) → lane < length t.next_fileids → next_fileid t q ≤ next_fileid (give_number lane t) q
unfolding give_number
rises t lane q in' = elim (cases_eq q lane) [
  | inl same ↦ subst (λ (x : ℕ). next_fileid t x ≤ slice_index_or (slice_set t.next_fileids lane (next_fileid t lane + 16)) x 0)
      (sym same) (omega (arith, get_or-set_same t.next_fileids lane (next_fileid t lane + 16) 0 in'))
  | inr other ↦ omega (arith, get_or-set_other t.next_fileids lane q (next_fileid t lane + 16) 0 other)
]

-- the number is below a greater one too
given_by : (fileid low high : ℕ) → low ≤ high → ((fileid == 1) || (nat_le 16 fileid && nat_lt fileid low)) ≡ true
    → ((fileid == 1) || (nat_le 16 fileid && nat_lt fileid high)) ≡ true
given_by fileid low high more e = elim (or_cases (fileid == 1) (nat_le 16 fileid && nat_lt fileid low) e) [
  | inl root ↦ rw root refl
  | inr k ↦
      let both = and_parts (nat_le 16 fileid) (nat_lt fileid low) k in
      let below : fileid < high = omega (arith, ltb-true fileid low both.1, more) in
      or_right (fileid == 1) (nat_le 16 fileid && nat_lt fileid high) (and_from (nat_le 16 fileid) (nat_lt fileid high) both.0
      (lt-ltb fileid high below))
]

given_more : (t : Tree) (lane : ℕ) → lane < length t.next_fileids → (fileid : ℕ) → is_given t fileid ≡ true
    → is_given (give_number lane t) fileid ≡ true
unfolding is_given
given_more t lane in' fileid e =
    given_by fileid (next_fileid t (fileid % 16)) (next_fileid (give_number lane t) (fileid % 16))
    (rises t lane (fileid % 16) in') e

next_of_lane : (t : Tree) (lane q : ℕ) → lane < length t.next_fileids → next_fileid t lane < most_numbers
    → IsNextOf lane (next_fileid t lane) → IsNextOf q (next_fileid t q) → IsNextOf q (next_fileid (give_number lane t) q)
unfolding give_number
next_of_lane t lane q in' room own old = elim (cases_eq q lane) [
  | inl same ↦
      let one : IsNextOf lane (next_fileid t lane + 16) =
      record { own = omega (arith, own.own); least = omega (arith, own.least); most = omega (arith, room) } in
      let there : IsNextOf lane (slice_index_or (slice_set t.next_fileids lane (next_fileid t lane + 16)) lane 0) =
      subst (IsNextOf lane) (sym (get_or-set_same t.next_fileids lane (next_fileid t lane + 16) 0 in')) one in
      subst (λ (x : ℕ). IsNextOf x (slice_index_or (slice_set t.next_fileids lane (next_fileid t lane + 16)) x 0)) (sym same)
      there
  | inr other ↦ subst (IsNextOf q) (sym (get_or-set_other t.next_fileids lane q (next_fileid t lane + 16) 0 other)) old
]

next_length : (t : Tree) (lane : ℕ) → length t.next_fileids ≡ 16 → length (give_number lane t).next_fileids ≡ 16
unfolding give_number
next_length t lane h = omega (arith, length-set t.next_fileids lane (next_fileid t lane + 16), h)

next_by : (t : Tree) (lane : ℕ) → ((fileid : ℕ) → is_given t fileid ≡ true → is_given (give_number lane t) fileid ≡ true)
    → length (give_number lane t).next_fileids ≡ 16 → ((q : ℕ) → q < 16 → IsNextOf q (next_fileid (give_number lane t) q))
    → HasBounds t → HasBounds (give_number lane t)
unfolding give_number
next_by t lane given lanes next h = record {
  lanes = lanes;
  next = next;
  live = given_kept t (give_number lane t) t.nodes given h.live;
  kept = All-weaker (λ s. AreNodesWithin t s.nodes) (λ s. AreNodesWithin (give_number lane t) s.nodes)
      (λ s. given_kept t (give_number lane t) s.nodes given) t.snapshots h.kept;
  snapshots = record { entries = h.snapshots.entries; distinct = h.snapshots.distinct; few = h.snapshots.few };
  epoch = h.epoch;
  fsid = h.fsid;
}

pub next_within : (t : Tree) (lane : ℕ) → lane < 16 → next_fileid t lane < most_numbers → HasBounds t
    → HasBounds (give_number lane t)
next_within t lane low room h =
    let in' : lane < length t.next_fileids = omega (arith, h.lanes) in
    next_by t lane (given_more t lane in') (next_length t lane h.lanes)
    (λ q below. next_of_lane t lane q in' room (h.next lane low) (h.next q below)) h

-- the number that the lane gives was not given
pub not_given : (t : Tree) (lane : ℕ) → lane < 16 → HasBounds t → is_given t (next_fileid t lane) ≡ true → ⊥
unfolding is_given
not_given t lane low h e =
    let own = h.next lane low in
    let f = next_fileid t lane in
    elim (or_cases (f == 1) (nat_le 16 f && nat_lt f (next_fileid t (f % 16))) e) [
      | inl root ↦ omega (arith, eqb-true f 1 root, own.least)
      | inr k ↦
          let below : f < next_fileid t (f % 16) =
          ltb-true f (next_fileid t (f % 16)) (and_parts (nat_le 16 f) (nat_lt f (next_fileid t (f % 16))) k).1 in
          let same : f < f = subst (λ (x : ℕ). f < next_fileid t x) own.own below in
          omega arith
    ]

-- it is given now
pub given_next : (t : Tree) (lane : ℕ) → lane < 16 → HasBounds t → is_given (give_number lane t) (next_fileid t lane) ≡ true
unfolding is_given give_number
given_next t lane low h =
    let own = h.next lane low in
    let f = next_fileid t lane in
    let there = get_or-set_same t.next_fileids lane (f + 16) 0 (omega (arith, h.lanes)) in
    let below : f < slice_index_or (slice_set t.next_fileids lane (f + 16)) (f % 16) 0 =
    subst (λ (x : ℕ). f < slice_index_or (slice_set t.next_fileids lane (f + 16)) x 0) (sym own.own) (omega (arith, there)) in
    or_right (f == 1) (nat_le 16 f && nat_lt f (slice_index_or (slice_set t.next_fileids lane (f + 16)) (f % 16) 0))
    (and_from (nat_le 16 f) (nat_lt f (slice_index_or (slice_set t.next_fileids lane (f + 16)) (f % 16) 0))
    (le-leb 16 f own.least) (lt-ltb f (slice_index_or (slice_set t.next_fileids lane (f + 16)) (f % 16) 0) below))
