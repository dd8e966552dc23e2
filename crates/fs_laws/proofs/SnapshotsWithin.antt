-- MKDIR and RMDIR in `.snapshot` leave the tree within its bounds.
use Rattle.std.proofs.Common.{◌≡◌, ℕ, ◌+◌, ◌≤◌, ◌<◌, ◌==◌, nat_le, ◌||◌, Bool, true, false, cond, not, List, [], ◌∷◌, ◌++◌}
use Rattle.std.proofs.Common.{length, map, filter, find, bytes_eq, Option, Some, None, is_some, Ok, inl, inr, refl, sym, subst}
use Rattle.std.proofs.Common.{ap, ◌∙◌, arith, length-append}
use Rattle.std.proofs.lemmas.Bool.{cases_Bool, leb-false, true≢false}
use Rattle.std.proofs.lemmas.List.{length-map, map-append}
use Rattle.std.proofs.lemmas.List.Elements.{All-filter, All-nil, All-push, All-weaker}
use Rattle.std.proofs.lemmas.Slice.Eq.{bytes_eq-Decides}
use Rattle.nfs3_types.specs.declared.cred.Cred.{Cred}
use Rattle.nfs3_types.specs.declared.moment.Moment.{Moment}
use Rattle.nfs3_types.specs.declared.status.Status.TheVariants.{Acces, Exist, NoSpc}
use Rattle.fs_rules.specs.Answers.{tree_by}
use Rattle.fs_rules.specs.Limits.{last_epoch, most_snapshots}
use Rattle.fs_rules.specs.Names.{has_name, is_dots, name_fault, named}
use Rattle.fs_rules.specs.Places.{entry_at, is_snapshots_name, node_at, snapshot_directory, snapshot_entry}
use Rattle.fs_rules.specs.Renaming.{differs}
use Rattle.fs_rules.specs.Snapshots.{add_snapshot, drop_named, drop_snapshot, has_snapshot, need_new_snapshot, need_snapshot}
use Rattle.fs_rules.specs.Snapshots.{take_snapshot}
use Rattle.fs_rules.specs.Sound.{AreDistinct, AreNodesWithin, AreSnapshots, HasBounds, IsEntryName, Lacks, Rise, is_given}
use Rattle.fs_rules.specs.Tree.{Snapshot, Tree}
use Rattle.fs_rules.specs.declared.name_entry.NameEntry.{NameEntry}
use Rattle.fs_rules.specs.declared.place.Place.TheVariants.{Live}
use Rattle.fs_laws.proofs.NodesWithin.{rise_filter, rise_more}
use Rattle.fs_laws.proofs.Passed.{or_false, past, past_fault, test_passed}
use Rattle.fs_laws.proofs.SettingWithin.{done_within}
use Rattle.fs_laws.proofs.TreesWithin.{given_kept}

-- ---- names that differ

other_way : (a b : List ℕ) → bytes_eq a b ≡ false → bytes_eq b a ≡ false
other_way a b e = elim (cases_Bool (bytes_eq b a)) [
  | inl same ↦ absurd (true≢false (sym ((bytes_eq-Decides a b).1 (sym ((bytes_eq-Decides b a).0 same))) ∙ e))
  | inr differs ↦ differs
]

-- the search finds nothing: neither here nor behind
none_behind : (b : Bool) (e : NameEntry) (rest : Option NameEntry) → is_some (cond b (Some e) rest) ≡ false
    → (b ≡ false) × (is_some rest ≡ false)
none_behind true e rest h = absurd cc
none_behind false e rest h = (refl, h)

distinct_more : (names : List NameEntry) (new : NameEntry) → is_some (find (has_name new.name) names) ≡ false
    → AreDistinct names → AreDistinct (names ++ new ∷ [])
unfolding AreDistinct has_name
distinct_more [] new none h = (All-nil (λ x. bytes_eq x.name new.name ≡ false), tt)
distinct_more (e ∷ names) new none h =
    let other = none_behind (has_name new.name e) e (find (has_name new.name) names) none in (
      All-push (λ x. bytes_eq x.name e.name ≡ false) names new h.0 (other_way e.name new.name other.0),
      distinct_more names new
          other.1 h.1,
    )

distinct_one : (keeps : Bool) (e : NameEntry) (names : List NameEntry) → Lacks e.name names → AreDistinct names
    → AreDistinct (cond keeps (e ∷ names) names)
unfolding AreDistinct
distinct_one true e names lacks h = (lacks, h)
distinct_one false e names lacks h = h

distinct_filter : (test : NameEntry → Bool) (names : List NameEntry) → AreDistinct names → AreDistinct (filter test names)
unfolding AreDistinct
distinct_filter test [] h = h
distinct_filter test (e ∷ names) h =
    distinct_one (test e) e (filter test names) (All-filter test (λ x. bytes_eq x.name e.name ≡ false) names h.0)
    (distinct_filter test names h.1)

fewer_one : (keeps : Bool) (most : ℕ) (e : NameEntry) (names : List NameEntry) → length names ≤ most
    → length (cond keeps (e ∷ names) names) ≤ most + 1
fewer_one true most e names h = omega arith
fewer_one false most e names h = omega arith

fewer : (test : NameEntry → Bool) (names : List NameEntry) → length (filter test names) ≤ length names
fewer test [] = omega arith
fewer test (e ∷ names) = omega (arith, fewer_one (test e) (length names) e (filter test names) (fewer test names))

-- ---- one more snapshot

-- `.snapshot` is a name that only the root has no entry of
is_free : (name : List ℕ) → is_dots name ≡ false → (is_dots name || is_snapshots_name (Live 2) name) ≡ false
is_free name e = rw e refl

more_snapshots : (t u : Tree) (names : List NameEntry) (name : List ℕ) → u.epoch ≡ t.epoch + 1 → name_fault name ≡ None
    → is_dots name ≡ false → is_some (find (has_name name) names) ≡ false → length names < most_snapshots → AreSnapshots t names
    → AreSnapshots u (names ++ record { cookie = t.epoch + 2; name = name; fileid = t.epoch } ∷ [])
more_snapshots t u names name next good dots none few h =
    let new : NameEntry = record { cookie = t.epoch + 2; name = name; fileid = t.epoch } in
    let same : t.epoch + 2 + 1 ≡ u.epoch + 2 = omega (arith, next) in
    record {
      entries = record {
        own = All-push (λ e. IsEntryName 2 e.name) names new h.entries.own (record { good = good; free = is_free name dots });
        cookies = subst (λ (x : ℕ). Rise 3 x (names ++ new ∷ [])) same (rise_more 3 (t.epoch + 2) names name t.epoch
            h.entries.cookies);
      };
      distinct = distinct_more names new none h.distinct;
      few = omega (arith, length-append names (new ∷ []), few);
    }

add_snapshot_within : (now : Moment) (name : List ℕ) (t : Tree) → name_fault name ≡ None → is_dots name ≡ false
    → is_some (find (has_name name) (map snapshot_entry t.snapshots)) ≡ false → length t.snapshots < most_snapshots
    → t.epoch < last_epoch → HasBounds t → HasBounds (add_snapshot now name t)
unfolding add_snapshot is_given
add_snapshot_within now name t good dots none few left h =
    let new : Snapshot = record { name = name; number = t.epoch; nodes = t.nodes } in
    let live = given_kept t (add_snapshot now name t) t.nodes (λ fileid e. e) h.live in
    record {
      lanes = h.lanes;
      next = h.next;
      live = live;
      kept = All-push (λ s. AreNodesWithin (add_snapshot now name t) s.nodes) t.snapshots new
          (All-weaker (λ s. AreNodesWithin t s.nodes) (λ s. AreNodesWithin (add_snapshot now name t) s.nodes)
          (λ s. given_kept t (add_snapshot now name t) s.nodes (λ fileid e. e)) t.snapshots h.kept) live;
      snapshots = subst (AreSnapshots (add_snapshot now name t)) (sym (map-append snapshot_entry t.snapshots (new ∷ [])))
          (more_snapshots t (add_snapshot now name t) (map snapshot_entry t.snapshots) name refl good dots none
          (omega (arith, length-map t.snapshots snapshot_entry)) h.snapshots);
      epoch = omega arith;
      fsid = h.fsid;
    }

take_done : (t : Tree) (cred : Cred) (name : List ℕ) (now : Moment) (u : Unit {0}) → HasBounds t
    → need_new_snapshot t cred name ≡ Ok u
    → HasBounds (add_snapshot now name t)
unfolding need_new_snapshot entry_at named node_at snapshot_directory
take_done t cred name now u h e =
    past_fault (name_fault name) _ u e (λ good e.
    past (not (cred.uid == 0)) Acces _ u e (λ root e.
    past (is_dots name || has_snapshot t name) Exist _ u e (λ free e.
    past (nat_le most_snapshots (length t.snapshots)) NoSpc _ u e (λ few e.
    let other = or_false (is_dots name) (has_snapshot t name) free in
    let left = test_passed (nat_le last_epoch t.epoch) NoSpc u e in
    add_snapshot_within now name t good other.0 other.1 (leb-false most_snapshots (length t.snapshots) few)
    (leb-false last_epoch t.epoch left) h))))

pub take_within : (t : Tree) (cred : Cred) (name : List ℕ) (now : Moment) → HasBounds t
    → HasBounds (tree_by t (take_snapshot t cred name now))
unfolding take_snapshot
take_within t cred name now h = done_within t (need_new_snapshot t cred name) _ h (λ u. take_done t cred name now u h)

-- ---- one less

kept_one : (keeps : Bool) (s : Snapshot) (rest : List Snapshot) (names : List NameEntry) → map snapshot_entry rest ≡ names
    → map snapshot_entry (cond keeps (s ∷ rest) rest) ≡ cond keeps (snapshot_entry s ∷ names) names
kept_one true s rest names h = ap (λ (l : List NameEntry). snapshot_entry s ∷ l) h
kept_one false s rest names h = h

-- the entries that are left
entries_left : (name : List ℕ) (snapshots : List Snapshot)
    → map snapshot_entry (filter (λ s. not (bytes_eq s.name name)) snapshots) ≡ filter (λ e. not (bytes_eq e.name name))
    (map snapshot_entry snapshots)
entries_left name [] = refl
entries_left name (s ∷ snapshots) =
    kept_one (not (bytes_eq s.name name)) s (filter (λ s. not (bytes_eq s.name name)) snapshots)
    (filter (λ e. not (bytes_eq e.name name)) (map snapshot_entry snapshots)) (entries_left name snapshots)

fewer_snapshots : (t u : Tree) (test : NameEntry → Bool) (names : List NameEntry) → u.epoch ≡ t.epoch → AreSnapshots t names
    → AreSnapshots u (filter test names)
fewer_snapshots t u test names same h = record {
  entries = record {
    own = All-filter test (λ e. IsEntryName 2 e.name) names h.entries.own;
    cookies = subst (λ (x : ℕ). Rise 3 (x + 2) (filter test names)) (sym same)
        (rise_filter test 3 (t.epoch + 2) names h.entries.cookies);
  };
  distinct = distinct_filter test names h.distinct;
  few = omega (arith, fewer test names, h.few);
}

drop_named_within : (now : Moment) (name : List ℕ) (t : Tree) → HasBounds t → HasBounds (drop_named now name t)
unfolding drop_named is_given
drop_named_within now name t h = record {
  lanes = h.lanes;
  next = h.next;
  live = given_kept t (drop_named now name t) t.nodes (λ fileid e. e) h.live;
  kept = All-filter (λ s. not (bytes_eq s.name name)) (λ s. AreNodesWithin (drop_named now name t) s.nodes) t.snapshots
      (All-weaker (λ s. AreNodesWithin t s.nodes) (λ s. AreNodesWithin (drop_named now name t) s.nodes)
      (λ s. given_kept t (drop_named now name t) s.nodes (λ fileid e. e)) t.snapshots h.kept);
  snapshots = subst (AreSnapshots (drop_named now name t)) (sym (entries_left name t.snapshots))
      (fewer_snapshots t (drop_named now name t) (λ e. not (bytes_eq e.name name)) (map snapshot_entry t.snapshots) refl
      h.snapshots);
  epoch = h.epoch;
  fsid = h.fsid;
}

pub drop_within : (t : Tree) (cred : Cred) (name : List ℕ) (now : Moment) → HasBounds t
    → HasBounds (tree_by t (drop_snapshot t cred name now))
unfolding drop_snapshot
drop_within t cred name now h = done_within t (need_snapshot t cred name) _ h (λ u e. drop_named_within now name t h)
