-- A snapshot is taken: the view by its number sees what was live, and all that was shown is shown on.
use Rattle.std.proofs.Common.{◌≡◌, ◌≢◌, ℕ, ◌+◌, ◌==◌, ◌^◌, ◌<◌, ◌≤◌, Bool, true, false, List, [], ◌∷◌, ◌++◌, length}
use Rattle.std.proofs.Common.{Some, None, refl, sym, ◌∙◌, ap, subst, arith, if◌then◌else◌}
use Rattle.std.proofs.lemmas.Bool.{le-ltb, eqb-true}
use Rattle.std.proofs.lemmas.List.{map-append}
use Rattle.std.proofs.lemmas.List.Elements.{All-push, All-weaker}
use Rattle.std.proofs.lemmas.Nat.{from_be_bytes-to_be_bytes_8}
use Rattle.std.specs.Prelude.{All, map, nat_lt, option_map}
use Rattle.byteorder.specs.Endian.{big_bytes}
use Rattle.xdr_grammar.specs.Items.{hyper, fixed}
use Rattle.nfs3_types.specs.declared.moment.Moment.{Moment}
use Rattle.pairs.specs.declared.at.At.TheVariants.{Live, Snap}
use Rattle.pairs.specs.Lives.{never}
use Rattle.pairs.specs.Versions.{Versions, HasLives, CanPut, epoch, epoch_in, epoch_key, with_put}
use Rattle.pairs.proofs.VersionsLaws.{live-put, others-put, has-put}
use Rattle.fs_rules.specs.declared.name_entry.NameEntry.{NameEntry}
use Rattle.fs_rules.specs.Places.{snapshot_entry}
use Rattle.fs_rules.specs.Snapshots.{add_snapshot, touch_times}
use Rattle.fs_rules.specs.Tree.{Tree, Snapshot}
use Rattle.fs_keys.specs.declared.key_parts.KeyParts.TheVariants as key
use Rattle.fs_keys.specs.declared.rows.First.{First}
use Rattle.fs_keys.specs.Keys.{key_of}
use Rattle.fs_keys.specs.Values.{first, first_in, times_in}
use Rattle.fs_shows.specs.Extents.{row}
use Rattle.fs_shows.specs.Nodes.{ShowsNodes, numbered}
use Rattle.fs_shows.specs.Shows.{Shows}
use Rattle.fs_shows.proofs.Apart.{Differ, keys-apart, each-number}
use Rattle.fs_shows.proofs.NameLists.{all-tail, numbered-added, numbered-beside}
use Rattle.fs_shows.proofs.Rewriting.{keeps-put, row-put, row-put-other}
use Rattle.snap_ops.specs.Taking.{IsNow, Rises, with_snapshot}
use Rattle.snap_ops.proofs.Copying.{row-now, nodes-viewed}
use Rattle.snap_ops.proofs.Entries.{names-held}
use Rattle.snap_ops.proofs.Leaving.{Leaves, leaves-none, leaves-put, nodes-left, shows-left}

-- ---- the epoch of a first record

epoch-begins : (n : ℕ) (rest : List ℕ) → n < 2 ^ 64 → epoch_in (Some (big_bytes 8 n ++ rest)) ≡ n
epoch-begins n rest fits =
    let long : nat_lt (length (big_bytes 8 n ++ rest)) 8 ≡ false = le-ltb (length (big_bytes 8 n ++ rest)) 8 (omega arith) in
    rw long (from_be_bytes-to_be_bytes_8 n fits)

pub first-begins : (r : First) → r.epoch < 2 ^ 64 → epoch_in (Some (first.spelling r)) ≡ r.epoch
unfolding first hyper
first-begins r fits = epoch-begins r.epoch (hyper.spelling r.fsid ++ ((fixed 8).spelling r.verifier ++ [])) fits

-- ---- the puts, one after another

pub snapshot-first : (number : ℕ) → Differ key.First (key.Snapshot number)
snapshot-first number is = cc

pub times-first : Differ key.First key.Times
times-first is = cc

pub epoch-put : (key value : List ℕ) (v : Versions) → epoch_key ≢ key → epoch (with_put key value v) ≡ epoch v
unfolding epoch
epoch-put key value v other = ap epoch_in (others-put key value epoch_key v Live other)

pub epoch-rises : (value : List ℕ) (v : Versions) → CanPut epoch_key value v → epoch (with_put epoch_key value v) ≡ epoch_in
    (Some value)
unfolding epoch
epoch-rises value v can = ap epoch_in (live-put epoch_key value v can)

-- with the name at its number
abbrev named_with : ℕ → List ℕ → Versions → Versions
named_with e name v = with_put (key_of (key.Snapshot e)) name v

module _ (v : Versions) (e : ℕ) (name : List ℕ) (fits : e < 2 ^ 64) (now : IsNow e v) where
  named-lives : HasLives (named_with e name v)
  named-lives = keeps-put (key.Snapshot e) name v fits (snapshot-first e) now.lives

  named-epoch : epoch (named_with e name v) ≡ e
  named-epoch =
      epoch-put (key_of (key.Snapshot e)) name v (keys-apart (key.Snapshot e) key.First fits tt (snapshot-first e)) ∙ now.epoch_is

  pub named-rises : (next : ℕ) → e ≤ next → next < never → Rises next (named_with e name v)
  named-rises next up early = record { lives = named-lives; up = rw named-epoch up; early = early }

-- the name at a number below 2 ^ 64, then a first record whose epoch is no earlier, then the times
module _ (v : Versions) (e next : ℕ) (name one times : List ℕ) (fits : e < 2 ^ 64) (now : IsNow e v)
    (begins : epoch_in (Some one) ≡ next)
    (up : e ≤ next) (early : next < never) where
  abbrev named_v : Versions
  named_v = named_with e name v

  abbrev risen_v : Versions
  risen_v = with_put (key_of key.First) one named_v

  abbrev taken_v : Versions
  taken_v = with_snapshot e name one times v

  can-rise : CanPut epoch_key one named_v
  can-rise = record {
    lives = named-lives v e name fits now;
    rises = λ is. (
      subst (λ (n : ℕ). epoch named_v ≤ n) (sym begins) (rw (named-epoch v e name fits now) up),
      subst (λ (n : ℕ). n < never) (sym begins) early,
    );
  }

  pub risen-lives : HasLives risen_v
  risen-lives = has-put epoch_key one named_v can-rise

  pub taken-lives : HasLives taken_v
  taken-lives = keeps-put key.Times times risen_v tt times-first risen-lives

  pub taken-epoch : epoch taken_v ≡ next
  taken-epoch =
      epoch-put (key_of key.Times) times risen_v (keys-apart key.Times key.First tt tt times-first)
      ∙ epoch-rises one named_v can-rise
      ∙ begins

  pub taken-leaves : Leaves v taken_v
  taken-leaves =
      leaves-put key.Times times v risen_v tt (λ other. other)
      (leaves-put key.First one v named_v tt (λ other. other)
      (leaves-put (key.Snapshot e) name v v fits (λ other. other) (leaves-none v)))

  pub taken-first : row taken_v Live key.First ≡ Some one
  taken-first = row-put-other key.Times key.First times risen_v Live tt tt times-first ∙ live-put epoch_key one named_v can-rise

  pub taken-times : row taken_v Live key.Times ≡ Some times
  taken-times = row-put key.Times times risen_v tt times-first risen-lives

  snapshot-times : (number : ℕ) → Differ (key.Snapshot number) key.Times
  snapshot-times number is = cc

  first-snapshot : (number : ℕ) → Differ (key.Snapshot number) key.First
  first-snapshot number is = cc

  snapshot-risen : (number : ℕ) → number < 2 ^ 64 → row taken_v Live (key.Snapshot number) ≡ row named_v Live
      (key.Snapshot number)
  snapshot-risen number less =
      row-put-other key.Times (key.Snapshot number) times risen_v Live tt less (snapshot-times number)
      ∙ row-put-other key.First (key.Snapshot number) one named_v Live tt less (first-snapshot number)

  pub taken-name : row taken_v Live (key.Snapshot e) ≡ Some name
  taken-name = snapshot-risen e fits ∙ row-put (key.Snapshot e) name v fits (snapshot-first e) now.lives

  pub other-name : (number : ℕ) → number < 2 ^ 64 → number ≢ e
      → row taken_v Live (key.Snapshot number) ≡ row v Live (key.Snapshot number)
  other-name number less other =
      snapshot-risen number less
      ∙ row-put-other (key.Snapshot e) (key.Snapshot number) name v Live fits less (differs number other)
    where
      differs : (n : ℕ) → n ≢ e → Differ (key.Snapshot n) (key.Snapshot e)
      differs n other is = other (cc)

-- ---- snapshots by number

-- no snapshot has the epoch as its number
none-numbered : (e : ℕ) (snapshots : List Snapshot) → All (λ s. s.number < e) snapshots
    → numbered (e + 2) (map snapshot_entry snapshots) ≡ None
unfolding numbered
none-numbered e [] all = refl
none-numbered e (s ∷ snapshots) all =
    by_test (s.number + 2 == e + 2) refl (none-numbered e snapshots (all-tail (λ s. s.number < e) s snapshots all))
  where
    by_test : (u : Bool) → (s.number + 2 == e + 2) ≡ u → numbered (e + 2) (map snapshot_entry snapshots) ≡ None
        → (if u then Some (snapshot_entry s) else numbered (e + 2) (map snapshot_entry snapshots)) ≡ None
    by_test true is none =
        let less : s.number < e = all 0 s (omega arith) in
        absurd (omega (arith, less, eqb-true (s.number + 2) (e + 2) is))
    by_test false is none = none

-- ---- the tree

module _ (v : Versions) (t : Tree) (now : Moment) (name one times : List ℕ) (shows : Shows v t) (early : t.epoch + 1 < never)
    (says : first_in one ≡ Some (record { epoch = t.epoch + 1; fsid = t.fsid; verifier = t.verifier }))
    (begins : epoch_in (Some one) ≡ t.epoch + 1)
    (said : times_in times ≡ Some (touch_times now t.snapshot_times)) where
  abbrev z : Versions
  z = with_snapshot t.epoch name one times v

  abbrev new : Snapshot
  new = record { name = name; number = t.epoch; nodes = t.nodes }

  is-now : IsNow t.epoch v
  is-now = record { lives = shows.lives; epoch_is = shows.epoch_is }

  low : t.epoch < 2 ^ 64
  low = omega (arith, early)

  up : t.epoch ≤ t.epoch + 1
  up = omega arith

  -- the entries with the new one
  entries-taken : map snapshot_entry (t.snapshots ++ new ∷ []) ≡ map snapshot_entry t.snapshots ++ snapshot_entry new ∷ []
  entries-taken = map-append snapshot_entry t.snapshots (new ∷ [])

  NameAt : ℕ → Type 0
  NameAt number = number < 2 ^ 64
      → row z Live (key.Snapshot number) ≡ option_map (λ (e : NameEntry). e.name) (numbered (number + 2)
      (map snapshot_entry t.snapshots ++ snapshot_entry new ∷ []))

  name-taken : NameAt t.epoch
  unfolding NameAt
  name-taken fits =
      taken-name v t.epoch (t.epoch + 1) name one times low is-now begins up early
      ∙ ap (option_map (λ (e : NameEntry). e.name))
      (sym (numbered-added name (t.epoch + 2) t.epoch (map snapshot_entry t.snapshots)
      (none-numbered t.epoch t.snapshots shows.earlier)))

  name-beside : (number : ℕ) → number ≢ t.epoch → NameAt number
  unfolding NameAt
  name-beside number other fits =
      other-name v t.epoch (t.epoch + 1) name one times low is-now begins up early number fits other
      ∙ names-held v t shows number fits
      ∙ ap (option_map (λ (e : NameEntry). e.name))
      (sym (numbered-beside name (t.epoch + 2) (number + 2) t.epoch (map snapshot_entry t.snapshots)
      (λ is. other (omega (arith, is)))))

  names-taken : (number : ℕ) → number < 2 ^ 64
      → row z Live (key.Snapshot number) ≡ option_map (λ (e : NameEntry). e.name) (numbered (number + 2)
      (map snapshot_entry (t.snapshots ++ new ∷ [])))
  unfolding NameAt
  names-taken number fits =
      subst (λ (es : List NameEntry). row z Live (key.Snapshot number) ≡ option_map (λ (e : NameEntry). e.name)
      (numbered (number + 2) es)) (sym entries-taken)
      (each-number NameAt t.epoch name-taken name-beside number fits)

  leaves : Leaves v z
  leaves = taken-leaves v t.epoch (t.epoch + 1) name one times low is-now begins up early

  -- the view by the new number
  new-kept : ShowsNodes z (Snap t.epoch) t.nodes
  new-kept =
      nodes-left v z leaves (Snap t.epoch) t.nodes
      (nodes-viewed v Live (Snap t.epoch) (λ p. row-now v t.epoch p shows.lives shows.epoch_is) t.nodes shows.live)

  pub snapshot-taken : Shows z (add_snapshot now name t)
  unfolding add_snapshot
  snapshot-taken =
      shows-left v z t (t.epoch + 1) (touch_times now t.snapshot_times) (t.snapshots ++ new ∷ []) leaves shows (record {
        lives = taken-lives v t.epoch (t.epoch + 1) name one times low is-now begins up early;
        epoch_is = taken-epoch v t.epoch (t.epoch + 1) name one times low is-now begins up early;
        first = rw (taken-first v t.epoch (t.epoch + 1) name one times low is-now begins up early) says;
        names = names-taken;
        times = rw (taken-times v t.epoch (t.epoch + 1) name one times low is-now begins up early) said;
        earlier = All-push (λ (s : Snapshot). s.number < t.epoch + 1) t.snapshots new
            (All-weaker (λ (s : Snapshot). s.number < t.epoch) (λ (s : Snapshot). s.number < t.epoch + 1)
            (λ s less. omega (arith, less)) t.snapshots shows.earlier)
            (omega arith);
        kept = All-push (λ (s : Snapshot). ShowsNodes z (Snap s.number) s.nodes) t.snapshots new
            (All-weaker (λ (s : Snapshot). ShowsNodes v (Snap s.number) s.nodes)
            (λ (s : Snapshot). ShowsNodes z (Snap s.number) s.nodes)
            (λ s shown. nodes-left v z leaves (Snap s.number) s.nodes shown) t.snapshots shows.kept)
            new-kept;
      })
