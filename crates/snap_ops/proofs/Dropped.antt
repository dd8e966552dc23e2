-- A snapshot is dropped: its name is no more, and all that was shown of others is shown on.
use Rattle.std.proofs.Common.{◌≡◌, ◌≢◌, ℕ, ◌+◌, ◌^◌, ◌<◌, not, List, Option, Some, None, refl, sym, ◌∙◌}
use Rattle.std.proofs.Common.{ap, subst, arith}
use Rattle.std.proofs.lemmas.List.Elements.{All-filter, All-weaker}
use Rattle.std.specs.Prelude.{All, filter, map, option_map}
use Rattle.std.specs.Str.{bytes_eq}
use Rattle.nfs3_types.specs.declared.moment.Moment.{Moment}
use Rattle.pairs.specs.declared.at.At.TheVariants.{Live, Snap}
use Rattle.pairs.specs.Versions.{Versions, HasLives, epoch, epoch_in, epoch_key, with_put, with_del}
use Rattle.pairs.proofs.VersionsLaws.{others-del}
use Rattle.fs_rules.specs.declared.name_entry.NameEntry.{NameEntry}
use Rattle.fs_rules.specs.Names.{named}
use Rattle.fs_rules.specs.Places.{snapshot_entry}
use Rattle.fs_rules.specs.Snapshots.{drop_named, touch_times}
use Rattle.fs_rules.specs.Tree.{Tree, Snapshot}
use Rattle.fs_keys.specs.declared.key_parts.KeyParts.TheVariants as key
use Rattle.fs_keys.specs.Keys.{key_of}
use Rattle.fs_keys.specs.Values.{times_in}
use Rattle.fs_shows.specs.Extents.{row}
use Rattle.fs_shows.specs.Nodes.{ShowsNodes, numbered}
use Rattle.fs_shows.specs.Shows.{Shows}
use Rattle.fs_shows.proofs.Apart.{Differ, keys-apart, each-number}
use Rattle.fs_shows.proofs.NameLists.{IsAlone, alone-names, without, numbered-dropped, numbered-left}
use Rattle.fs_shows.proofs.Rewriting.{keeps-put, keeps-del, row-put, row-put-other, row-del, row-del-other}
use Rattle.fs_shows.proofs.Viewing.{find-all}
use Rattle.snap_ops.specs.Dropping.{IsNamed}
use Rattle.snap_ops.proofs.Entries.{names-held, cookies-tell, entries-left}
use Rattle.snap_ops.proofs.Leaving.{Leaves, leaves-none, leaves-put, leaves-del, nodes-left, shows-left}
use Rattle.snap_ops.proofs.Taken.{snapshot-first, times-first, epoch-put}

epoch-del : (key : List ℕ) (v : Versions) → epoch_key ≢ key → epoch (with_del key v) ≡ epoch v
unfolding epoch
epoch-del key v other = ap epoch_in (others-del key epoch_key v Live other)

module _ (v : Versions) (t : Tree) (now : Moment) (number : ℕ) (name times : List ℕ) (fits : number < 2 ^ 64) (shows : Shows v t)
    (given : IsNamed number name t)
    (said : times_in times ≡ Some (touch_times now t.snapshot_times)) where
  abbrev y : Versions
  y = with_put (key_of key.Times) times v

  abbrev z : Versions
  z = with_del (key_of (key.Snapshot number)) y

  abbrev left : List Snapshot
  left = filter (λ (s : Snapshot). not (bytes_eq s.name name)) t.snapshots

  timed-lives : HasLives y
  timed-lives = keeps-put key.Times times v tt times-first shows.lives

  dropped-lives : HasLives z
  dropped-lives = keeps-del (key.Snapshot number) y fits (snapshot-first number) timed-lives

  dropped-epoch : epoch z ≡ t.epoch
  dropped-epoch =
      epoch-del (key_of (key.Snapshot number)) y
      (keys-apart (key.Snapshot number) key.First fits tt (snapshot-first number))
      ∙ epoch-put (key_of key.Times) times v (keys-apart key.Times key.First tt tt times-first)
      ∙ shows.epoch_is

  leaves : Leaves v z
  leaves = leaves-del (key.Snapshot number) v y fits (λ other. other)
      (leaves-put key.Times times v v tt (λ other. other) (leaves-none v))

  dropped-first : row z Live key.First ≡ row v Live key.First
  dropped-first =
      row-del-other (key.Snapshot number) key.First y Live fits tt (snapshot-first number)
      ∙ row-put-other key.Times key.First times v Live tt tt times-first

  times-snapshot : Differ key.Times (key.Snapshot number)
  times-snapshot is = cc

  snapshot-times : (n : ℕ) → Differ (key.Snapshot n) key.Times
  snapshot-times n is = cc

  dropped-times : row z Live key.Times ≡ Some times
  dropped-times =
      row-del-other (key.Snapshot number) key.Times y Live fits tt times-snapshot
      ∙ row-put key.Times times v tt times-first shows.lives

  -- ---- the entries that are left

  abbrev entries : List NameEntry
  entries = map snapshot_entry t.snapshots

  -- the entry of the name, and it alone, has the cookie of the number
  alone : All (IsAlone name (number + 2)) entries
  unfolding named
  alone = by_found (named name entries) refl given.there
    where
      by_found : (o : Option NameEntry) → named name entries ≡ o → option_map (λ (e : NameEntry). e.fileid) o ≡ Some number
          → All (IsAlone name (number + 2)) entries
      by_found None is there = absurd (cc)
      by_found (Some e) is there =
          let own : e.fileid ≡ number = one e.fileid there in
          let tells : e.cookie ≡ e.fileid + 2 = (find-all _ (λ (e : NameEntry). e.cookie ≡ e.fileid + 2) entries e
          (cookies-tell t.snapshots) is).0 in
          subst (λ (cookie : ℕ). All (IsAlone name cookie) entries) (tells ∙ ap (λ (n : ℕ). n + 2) own)
          (alone-names 3 (t.epoch + 2) entries name e given.snapshots.distinct given.snapshots.entries.cookies is)
        where
          one : (n : ℕ) → Some n ≡ Some number → n ≡ number
          one n e = cc

  NameAt : ℕ → Type 0
  NameAt n = n < 2 ^ 64
      → row z Live (key.Snapshot n) ≡ option_map (λ (e : NameEntry). e.name) (numbered (n + 2) (without name entries))

  name-gone : NameAt number
  unfolding NameAt
  name-gone less =
      row-del (key.Snapshot number) y timed-lives
      ∙ ap (option_map (λ (e : NameEntry). e.name)) (sym (numbered-dropped name (number + 2) entries alone))

  differs : (n : ℕ) → n ≢ number → Differ (key.Snapshot n) (key.Snapshot number)
  differs n other is = other (cc)

  name-left : (n : ℕ) → n ≢ number → NameAt n
  unfolding NameAt
  name-left n other less =
      row-del-other (key.Snapshot number) (key.Snapshot n) y Live fits less (differs n other)
      ∙ row-put-other key.Times (key.Snapshot n) times v Live tt less (snapshot-times n)
      ∙ names-held v t shows n less
      ∙ ap (option_map (λ (e : NameEntry). e.name))
      (sym (numbered-left name (number + 2) (n + 2) entries alone (λ is. other (omega (arith, is)))))

  names-left : (n : ℕ) → n < 2 ^ 64
      → row z Live (key.Snapshot n) ≡ option_map (λ (e : NameEntry). e.name) (numbered (n + 2) (map snapshot_entry left))
  unfolding NameAt
  names-left n less =
      subst (λ (es : List NameEntry). row z Live (key.Snapshot n) ≡ option_map (λ (e : NameEntry). e.name)
      (numbered (n + 2) es)) (sym (entries-left name t.snapshots))
      (each-number NameAt number name-gone name-left n less)

  pub snapshot-dropped : Shows z (drop_named now name t)
  unfolding drop_named
  snapshot-dropped =
      shows-left v z t t.epoch (touch_times now t.snapshot_times) left leaves shows (record {
        lives = dropped-lives;
        epoch_is = dropped-epoch;
        first = rw dropped-first shows.rows.first;
        names = names-left;
        times = rw dropped-times said;
        earlier = All-filter (λ (s : Snapshot). not (bytes_eq s.name name)) (λ (s : Snapshot). s.number < t.epoch) t.snapshots
            shows.earlier;
        kept = All-weaker (λ (s : Snapshot). ShowsNodes v (Snap s.number) s.nodes)
            (λ (s : Snapshot). ShowsNodes z (Snap s.number) s.nodes)
            (λ s shown. nodes-left v z leaves (Snap s.number) s.nodes shown) left
            (All-filter (λ (s : Snapshot). not (bytes_eq s.name name)) (λ (s : Snapshot). ShowsNodes v (Snap s.number) s.nodes)
            t.snapshots shows.kept);
      })
