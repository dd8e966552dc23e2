-- A number is given by a lane.
use Rattle.std.proofs.Common.{◌≡◌, ◌≢◌, ℕ, zero, suc, ◌+◌, ◌%◌, ◌^◌, ◌<◌, ◌≤◌, ◌==◌, Bool, true, false, ◌||◌, ◌&&◌, List, [], ◌∷◌}
use Rattle.std.proofs.Common.{Option, Some, None}
use Rattle.std.proofs.Common.{refl, sym, ◌∙◌, ap, subst, arith, length, get_or-set_same, get_or-set_other}
use Rattle.std.proofs.lemmas.Bool.{ltb-true, lt-ltb}
use Rattle.std.proofs.lemmas.Option.{slice_get-get_or}
use Rattle.std.proofs.lemmas.List.{length-set}
use Rattle.std.specs.Prelude.{⊤, nat_le, nat_lt, slice_get, slice_set, slice_index_or, option_map, option_and_then, IfSome}
use Rattle.pairs.specs.declared.at.At.TheVariants.{Live}
use Rattle.pairs.specs.Lives.{Life}
use Rattle.pairs.specs.Versions.{Versions, with_put}
use Rattle.fs_rules.specs.Edits.{give_number}
use Rattle.fs_rules.specs.Places.{snapshot_numbered}
use Rattle.fs_rules.specs.Sound.{is_given}
use Rattle.fs_rules.specs.Tree.{Tree, next_fileid}
use Rattle.fs_keys.specs.declared.key_parts.KeyParts.TheVariants.{First, Lane, Snapshot, Inode, Name, Cookie, Extent, Stale}
use Rattle.fs_keys.specs.declared.key_parts.KeyParts.TheVariants.{Times}
use Rattle.fs_keys.specs.declared.inode.Inode.{Inode as InodeRow}
use Rattle.fs_keys.specs.declared.rows.Extent.{Extent as ExtentRow}
use Rattle.fs_keys.specs.Inodes.{inode_of}
use Rattle.fs_keys.specs.Keys.{Parts, HasBounds, key_of}
use Rattle.fs_keys.specs.Values.{extent_in, first_in, lane_in, times_in}
use Rattle.fs_shows.specs.Extents.{Marks, IsPlace, row, extent_at}
use Rattle.fs_shows.specs.Nodes.{Holds, marks_of}
use Rattle.fs_shows.specs.Shows.{first_of, MarksStale, IsWithin, ShowsRows, Shows, live_marks, counts_by}
use Rattle.fs_shows.proofs.Apart.{Differ, each-number}
use Rattle.fs_shows.proofs.Rewriting.{Rewrites, rewrites-none, rewrites-put, row-apart, row-put, IsFileRow, nodes-carried}
use Rattle.fs_shows.proofs.Rewriting.{shows-rewritten}

-- ---- lanes

get-set_same : (xs : List ℕ) (i x : ℕ) → i < length xs → slice_get (slice_set xs i x) i ≡ Some x
get-set_same [] i x low = absurd (omega (arith, low))
get-set_same (y ∷ xs) zero x low = refl
get-set_same (y ∷ xs) (suc i) x low = get-set_same xs i x (omega (arith, low))

get-set_other : (xs : List ℕ) (i j x : ℕ) → j ≢ i → slice_get (slice_set xs i x) j ≡ slice_get xs j
get-set_other [] i j x other = refl
get-set_other (y ∷ xs) zero zero x other = absurd (other refl)
get-set_other (y ∷ xs) zero (suc j) x other = refl
get-set_other (y ∷ xs) (suc i) zero x other = refl
get-set_other (y ∷ xs) (suc i) (suc j) x other = get-set_other xs i j x (λ is. other (ap suc is))

-- the number that a lane gives next is no lower
next-rises : (xs : List ℕ) (lane x k : ℕ) → slice_index_or xs lane 0 ≤ x → slice_index_or xs k 0 ≤ slice_index_or
    (slice_set xs lane x) k 0
next-rises [] lane x k up = omega arith
next-rises (y ∷ xs) zero x zero up = up
next-rises (y ∷ xs) zero x (suc k) up = omega arith
next-rises (y ∷ xs) (suc lane) x zero up = omega arith
next-rises (y ∷ xs) (suc lane) x (suc k) up = next-rises xs lane x k up

-- what was given stays given
still-given : (one least : Bool) (file next later : ℕ) → next ≤ later → (one || (least && nat_lt file next)) ≡ true
    → (one || (least && nat_lt file later)) ≡ true
still-given true least file next later up is = refl
still-given false true file next later up is = lt-ltb file later (let h = ltb-true file next is in omega (arith, h, up))
still-given false false file next later up is = is

given-on : (t : Tree) (lane file : ℕ) → is_given t file ≡ true → is_given (give_number lane t) file ≡ true
unfolding is_given give_number
given-on t lane file is =
    still-given (file == 1) (nat_le 16 file) file (next_fileid t (file % 16))
    (slice_index_or (slice_set t.next_fileids lane (next_fileid t lane + 16)) (file % 16) 0)
    (next-rises t.next_fileids lane (next_fileid t lane + 16) (file % 16) (omega arith)) is

lane-apart : (lane : ℕ) (p : Parts) → IsFileRow p → p ≢ Lane lane
lane-apart lane p of is = subst IsFileRow is of

pub lane-first : (lane : ℕ) → Differ First (Lane lane)
lane-first lane is = cc

lane-differs : (l lane : ℕ) → l ≢ lane → Differ (Lane l) (Lane lane)
lane-differs l lane other is = other (cc)

-- ---- what stays shown beside

module _ (v z : Versions) (t : Tree) (lane : ℕ) (shows : Shows v t) (r : Rewrites v z (λ p. p ≢ Lane lane)) where
  same : (p : Parts) → HasBounds p → p ≢ Lane lane → row z Live p ≡ row v Live p
  same p fits apart = row-apart v z (λ p. p ≢ Lane lane) p Live r fits apart

  marks-same : (file : ℕ) → file < 2 ^ 64 → live_marks z file ≡ live_marks v file
  marks-same file fits =
      ap (λ (x : Option (List ℕ)). option_map (λ (i : InodeRow). marks_of i.head) (option_and_then inode_of x))
      (same (Inode file) fits (λ is. cc))

  extent-same : (file index : ℕ) → IsPlace file index → extent_at z Live file index ≡ extent_at v Live file index
  extent-same file index place =
      ap (option_and_then extent_in) (same (Extent file index) (place.file_fits, place.index_fits) (λ is. cc))

  stale-carried : MarksStale z
  stale-carried = record {
    within = λ file index x place is.
        subst (λ (o : Option Marks). IfSome o (λ m. x.stamp ≤ m.stamp)) (sym (marks-same file place.file_fits))
        (shows.stale.within file index x place (sym (extent-same file index place) ∙ is));
    marked = λ file index x place is out.
        subst (λ (o : Option (List ℕ)). o ≢ None) (sym (same (Stale file) place.file_fits (λ is. cc)))
        (shows.stale.marked file index x place (sym (extent-same file index place) ∙ is)
        (subst (λ (o : Option Marks). counts_by o index x ≡ false) (marks-same file place.file_fits) out));
  }

  within-carried : IsWithin z (give_number lane t)
  within-carried = record {
    extents = λ file index place some.
        given-on t lane file (shows.within.extents file index place
        (subst (λ (ls : List Life). ls ≢ []) (r.apart (Extent file index) (place.file_fits, place.index_fits) (λ is. cc)) some));
    stale = λ file fits some.
        given-on t lane file (shows.within.stale file fits
        (subst (λ (ls : List Life). ls ≢ []) (r.apart (Stale file) fits (λ is. cc)) some));
    table = λ k none. r.outside k none ∙ shows.within.table k none;
  }

  rows-given : lane < length t.next_fileids → (value : List ℕ) → row z Live (Lane lane) ≡ Some value → lane_in value ≡ Some
      (next_fileid t lane + 16)
      → ShowsRows z (give_number lane t)
  unfolding give_number snapshot_numbered
  rows-given low value is says = record {
    first = subst (λ (x : Option (List ℕ)). Holds first_in x (Some (first_of t)))
        (sym (same First tt (λ is. cc))) shows.rows.first;
    lanes = λ other fits. each-number LaneAt lane (λ fits. own) there other fits;
    snapshots = λ number fits. same (Snapshot number) fits (λ is. cc) ∙ shows.rows.snapshots number fits;
    times = subst (λ (x : Option (List ℕ)). Holds times_in x (Some t.snapshot_times))
        (sym (same Times tt (λ is. cc))) shows.rows.times;
  }
    where
      LaneAt : ℕ → Type 0
      LaneAt l = l < 256 → Holds lane_in (row z Live (Lane l))
          (slice_get (slice_set t.next_fileids lane (next_fileid t lane + 16)) l)

      own : Holds lane_in (row z Live (Lane lane)) (slice_get (slice_set t.next_fileids lane (next_fileid t lane + 16)) lane)
      own =
          subst (λ (x : Option (List ℕ)). Holds lane_in x
          (slice_get (slice_set t.next_fileids lane (next_fileid t lane + 16)) lane)) (sym is)
          (subst (λ (o : Option ℕ). Holds lane_in (Some value) o)
          (sym (get-set_same t.next_fileids lane (next_fileid t lane + 16) low)) says)

      there : (l : ℕ) → l ≢ lane → LaneAt l
      there l other fits =
          subst (λ (x : Option (List ℕ)). Holds lane_in x (slice_get (slice_set t.next_fileids lane (next_fileid t lane + 16)) l))
          (sym (same (Lane l) fits (lane-differs l lane other)))
          (subst (λ (o : Option ℕ). Holds lane_in (row v Live (Lane l)) o)
          (sym (get-set_other t.next_fileids lane l (next_fileid t lane + 16) other))
          (shows.rows.lanes l fits))

pub lane-given : (v : Versions) (t : Tree) (lane : ℕ) (value : List ℕ) → lane < 256 → Shows v t → lane < length t.next_fileids
    → lane_in value ≡ Some (next_fileid t lane + 16) → Shows (with_put (key_of (Lane lane)) value v) (give_number lane t)
unfolding give_number
lane-given v t lane value fits shows low says =
    shows-rewritten v z t t.nodes (slice_set t.next_fileids lane (next_fileid t lane + 16)) (λ p. p ≢ Lane lane)
    (λ file index is. cc) r shows
    (rows-given v z t lane shows r low value (row-put (Lane lane) value v fits (λ is. cc) shows.lives) says)
    (nodes-carried v z Live t.nodes r.stores_are r.blocks_are
    (λ p fits of. same v z t lane shows r p fits (lane-apart lane p of)) shows.live)
    (stale-carried v z t lane shows r) (within-carried v z t lane shows r)
  where
    z : Versions
    z = with_put (key_of (Lane lane)) value v

    r : Rewrites v z (λ p. p ≢ Lane lane)
    r = rewrites-put (λ p. p ≢ Lane lane) (Lane lane) value v v fits (λ is. cc) (λ q apart. apart)
        (rewrites-none v (λ p. p ≢ Lane lane) shows.lives)
