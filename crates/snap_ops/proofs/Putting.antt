-- The records of snapshots as they are put: how long their values are, and what the puts do behind one another.
use Rattle.std.proofs.Common.{◌≡◌, ℕ, ◌+◌, ◌^◌, ◌<◌, ◌≤◌, inl, inr, List, length, Some, Result, Ok, Err}
use Rattle.std.proofs.Common.{refl, sym, ◌∙◌, ap, subst, arith}
use Rattle.std.specs.Prelude.{⊤}
use Rattle.nfs3_types.specs.Count.{Rose}
use Rattle.nfs3_types.specs.declared.moment.Moment.{Moment}
use Rattle.xdr_grammar.specs.declared.fault.XdrFault.{XdrFault}
use Rattle.xdr_grammar.specs.Grammar.{Grammar}
use Rattle.xdr_grammar.specs.Laws.{Laws}
use Rattle.xdr_grammar.specs.Whole.{whole}
use Rattle.xdr_grammar.specs.Items.{word, hyper, fixed}
use Rattle.xdr_grammar.proofs.Whole.{whole-laws}
use Rattle.nfs3_types.specs.Attributes.{time}
use Rattle.pair_types.specs.declared.fault.PairFault.{PairFault}
use Rattle.pair_types.specs.declared.fault.PairFault.TheVariants.{Odd, HeightFull, Page}
use Rattle.pairs.specs.Lives.{never}
use Rattle.pairs.specs.Versions.{Versions, HasLives, CanPut, epoch, epoch_in, epoch_key, with_put, with_del}
use Rattle.pairs.specs.Told.{PairsTold, Goes, Moves, GivesUp, PutGivesUp}
use Rattle.fs_rules.specs.declared.times.Times.{Times}
use Rattle.fs_rules.specs.Limits.{last_epoch}
use Rattle.fs_rules.specs.Snapshots.{add_snapshot, drop_named, touch_times}
use Rattle.fs_rules.specs.Tree.{Tree}
use Rattle.fs_keys.specs.declared.key_parts.KeyParts.TheVariants as key
use Rattle.fs_keys.specs.declared.rows.First.{First}
use Rattle.fs_keys.specs.Keys.{key_of}
use Rattle.fs_keys.specs.Values.{first, times, ok_of, said_by, first_in, times_in}
use Rattle.fs_keys.proofs.ValueLaws.{first-laws, times-laws}
use Rattle.fs_shows.specs.Shows.{first_of}
use Rattle.fs_shows.specs.Steps.{Lies, Learns, Edits, Reads, EditGivesUp}
use Rattle.fs_shows.proofs.Doing.{goes-then}
use Rattle.fs_shows.proofs.Rewriting.{keeps-put}
use Rattle.snap_ops.specs.Dropping.{IsNamed}
use Rattle.snap_ops.specs.Taking.{next_first, MayTake, IsNow, Rises, PutsFirst, PutsTimes, PutsSnapshot}
use Rattle.snap_ops.proofs.Dropped.{snapshot-dropped}
use Rattle.snap_ops.proofs.Taken.{first-begins, named-rises, risen-lives, snapshot-taken, times-first}

-- ---- how long values are

said-long : {A : Type 0} (g : Grammar A) → Laws g → (value : List ℕ) (x : A) → said_by g value ≡ Some x
    → length value ≡ g.size x
said-long {A = A} g laws value x says = by_whole (whole g value) refl says
  where
    by_whole : (r : Result A XdrFault) → whole g value ≡ r → ok_of r ≡ Some x → length value ≡ g.size x
    by_whole (Ok y) is same =
        let own : y ≡ x = cc in
        laws.sized x value ((whole-laws g laws).found value x (is ∙ ap (λ (z : A). Ok z) own))
    by_whole (Err fault) is same = absurd (cc)

pub first-short : (value : List ℕ) (row : First) → first_in value ≡ Some row → length value ≤ 1200
unfolding first hyper fixed
first-short value row says = rw (said-long first first-laws value row says) (omega arith)

pub times-short : (value : List ℕ) (row : Times) → times_in value ≡ Some row → length value ≤ 1200
unfolding times time word
times-short value row says = rw (said-long times times-laws value row says) (omega arith)

rises_behind : (a b c : ℕ) → a ≤ b → Rose b c → Rose a c
rises_behind a b c first then = omega (arith, first, then)

module _ {S W : Type 0} (told : PairsTold S W) where
  -- ---- a first record

  can-first : (row : First) (value : List ℕ) → epoch_in (Some value) ≡ row.epoch → (v : Versions) → Rises row.epoch v
      → CanPut epoch_key value v
  can-first row value begins v rises = record {
    lives = rises.lives;
    rises = λ is. (
      subst (λ (n : ℕ). epoch v ≤ n) (sym begins) rises.up,
      subst (λ (n : ℕ). n < never) (sym begins) rises.early,
    );
  }

  value-begins : (row : First) (value : List ℕ) → row.epoch < 2 ^ 64 → value ≡ first.spelling row
      → epoch_in (Some value) ≡ row.epoch
  value-begins row value fits is = ap (λ (bytes : List ℕ). epoch_in (Some bytes)) is ∙ first-begins row fits

  pub puts-first : (old new : S) (row : First) (value bytes : List ℕ) → row.epoch < 2 ^ 64 → bytes ≡ value
      → value ≡ first.spelling row → first_in value ≡ Some row
      → Moves told old new (CanPut epoch_key bytes) (with_put epoch_key bytes) → PutsFirst told old new row
  puts-first old new row value bytes fits same is says moves =
      let begins = value-begins row value fits is in
      let own = subst (λ (b : List ℕ). Moves told old new (CanPut epoch_key b) (with_put epoch_key b)) same moves in
      record {
        value = value;
        says = says;
        begins = begins;
        moves = λ w v agrees shown rises. own w v agrees shown (can-first row value begins v rises);
      }

  pub first-up : (old new : S) (row : First) (value bytes : List ℕ) → row.epoch < 2 ^ 64 → bytes ≡ value
      → value ≡ first.spelling row → (fault : PairFault) → PutGivesUp told old new (CanPut epoch_key bytes) fault
      → PutGivesUp told old new (Rises row.epoch) fault
  first-up old new row value bytes fits same is Odd up = λ w v agrees shown rises.
      up w v agrees shown (subst (λ (b : List ℕ). CanPut epoch_key b v) (sym same)
      (can-first row value (value-begins row value fits is) v rises))
  first-up old new row value bytes fits same is HeightFull up = up
  first-up old new row value bytes fits same is (Page fault) up = up

  -- ---- a put behind others

  pub put-up : (old mid new : S) (m n : ℕ) (Given Then : Versions → Type 0) (edit : Versions → Versions)
      → Goes told old mid m → Goes told mid new n → Moves told old mid Given edit
      → ((v : Versions) → Given v → Then (edit v))
      → (fault : PairFault) → PutGivesUp told mid new Then fault → PutGivesUp told old new Given fault
  put-up old mid new m n Given Then edit before goes moves then Odd up = λ w v agrees shown is.
      up w (edit v) agrees (moves w v (goes.agreed w agrees) shown is) (then v is)
  put-up old mid new m n Given Then edit before goes moves then HeightFull up = λ clean few. up (before.clean clean) few
  put-up old mid new m n Given Then edit before goes moves then (Page fault) (inl lacks) = inl lacks
  put-up old mid new m n Given Then edit before goes moves then (Page fault) (inr rose) =
      inr (rises_behind (told.faults old fault) (told.faults mid fault) (told.faults new fault) (before.faults fault) rose)

  -- ---- the records of a new snapshot

  module _ (s a b : S) (row : First) (name : List ℕ) (fits : row.epoch < 2 ^ 64) (early : row.epoch + 1 < never)
      (goes-a : Goes told s a 1)
      (goes-b : Goes told a b 1)
      (named : Moves told s a HasLives (with_put (key_of (key.Snapshot row.epoch)) name)) where
    now-rises : (v : Versions) → IsNow row.epoch v → Rises (row.epoch + 1) (with_put (key_of (key.Snapshot row.epoch)) name v)
    now-rises v now = named-rises v row.epoch name fits now (row.epoch + 1) (omega arith) early

    named-now : Moves told s a (IsNow row.epoch) (with_put (key_of (key.Snapshot row.epoch)) name)
    named-now = λ w v agrees shown now. named w v agrees shown now.lives

    pub risen-up : (fault : PairFault) → PutGivesUp told a b (Rises (row.epoch + 1)) fault
        → PutGivesUp told s b (IsNow row.epoch) fault
    risen-up = put-up s a b 1 1 (IsNow row.epoch) (Rises (row.epoch + 1)) (with_put (key_of (key.Snapshot row.epoch)) name) goes-a
        goes-b named-now now-rises

    module _ (risen : PutsFirst told a b (next_first row)) where
      abbrev risen_with : Versions → Versions
      risen_with v = with_put (key_of key.First) risen.value (with_put (key_of (key.Snapshot row.epoch)) name v)

      risen-moves : Moves told s b (IsNow row.epoch) risen_with
      risen-moves = λ w v agrees shown now.
          risen.moves w (with_put (key_of (key.Snapshot row.epoch)) name v) agrees
          (named w v (goes-b.agreed w agrees) shown now.lives) (now-rises v now)

      risen-has : (v : Versions) → IsNow row.epoch v → HasLives (risen_with v)
      risen-has v now = risen-lives v row.epoch (row.epoch + 1) name risen.value risen.value fits now risen.begins (omega arith) early

      pub timed-up : (c : S) → Goes told b c 1 → (fault : PairFault) → PutGivesUp told b c HasLives fault
          → PutGivesUp told s c (IsNow row.epoch) fault
      timed-up c goes-c =
          put-up s b c 2 1 (IsNow row.epoch) HasLives risen_with (goes-then told s a b 1 1 goes-a goes-b) goes-c risen-moves
          risen-has

      pub puts-snapshot : (c : S) (at : Times) → Goes told b c 1 → PutsTimes told b c at → PutsSnapshot told s c row name at
      puts-snapshot c at goes-c timed = record {
        first = risen.value;
        said = timed.value;
        says_first = risen.says;
        begins = risen.begins;
        says_times = timed.says;
        moves = λ w v agrees shown now.
            timed.moves w (risen_with v) agrees (risen-moves w v (goes-c.agreed w agrees) shown now) (risen-has v now);
      }

  -- ---- of the trees that may lie below

  epoch-early : (n : ℕ) → n < last_epoch → n + 1 < never
  unfolding last_epoch
  epoch-early n less = omega (arith, less)

  module _ (old a b : S) (row : First) (held : Times) (goes-a : Goes told old a 0) (goes-b : Goes told a b 0)
      (begins : Reads told old a (λ t. ⊤) (λ t. first_of t ≡ row))
      (timed : Reads told a b (λ t. ⊤) (λ t. t.snapshot_times ≡ held)) where
    pub late-up : last_epoch ≤ row.epoch → EditGivesUp told old b MayTake Odd
    late-up late = λ w t agrees lies may.
        let is : t.epoch ≡ row.epoch =
        ap (λ (r : First). r.epoch) (begins.learns w t (goes-b.agreed w agrees) lies tt) in
        absurd (omega (arith, late, is, may))

    module _ (c : S) (name : List ℕ) (now : Moment) (goes-c : Goes told b c 3) where
      -- what lies below behind both reads
      lies-b : (w : W) (t : Tree) → told.agrees c w → Lies told old w t → Lies told b w t
      lies-b w t agrees lies =
          let at-b = goes-c.agreed w agrees in
          timed.stays w t at-b (begins.stays w t (goes-b.agreed w at-b) lies tt) tt

      first-is : (w : W) (t : Tree) → told.agrees c w → Lies told old w t → first_of t ≡ row
      first-is w t agrees lies = begins.learns w t (goes-b.agreed w (goes-c.agreed w agrees)) lies tt

      times-is : (w : W) (t : Tree) → told.agrees c w → Lies told old w t → t.snapshot_times ≡ held
      times-is w t agrees lies =
          let at-b = goes-c.agreed w agrees in
          timed.learns w t at-b (begins.stays w t (goes-b.agreed w at-b) lies tt) tt

      now-is : (w : W) (t : Tree) → (agrees : told.agrees c w) → (lies : Lies told old w t)
          → IsNow row.epoch (lies-b w t agrees lies).versions
      now-is w t agrees lies =
          let below = lies-b w t agrees lies in
          record {
            lives = below.shows.lives;
            epoch_is = below.shows.epoch_is ∙ ap (λ (r : First). r.epoch) (first-is w t agrees lies);
          }

      pub taken : PutsSnapshot told b c row name (touch_times now held) → Edits told old c MayTake (add_snapshot now name)
      taken puts = λ w t agrees lies may.
          let below = lies-b w t agrees lies in
          by_first t agrees lies may below (first-is w t agrees lies) (times-is w t agrees lies) (now-is w t agrees lies)
        where
          by_first : {w : W} (t : Tree) → told.agrees c w → Lies told old w t → MayTake t → (below : Lies told b w t)
              → first_of t ≡ row → t.snapshot_times ≡ held → IsNow row.epoch below.versions
              → Lies told c w (add_snapshot now name t)
          by_first {w} t agrees lies may below is at now-here =
              let own = subst (λ (r : First). PutsSnapshot told b c r name (touch_times now held)) (sym is) puts in
              let mine = subst (λ (x : Times). PutsSnapshot told b c (first_of t) name (touch_times now x)) (sym at) own in
              let here = subst (λ (r : First). IsNow r.epoch below.versions) (sym is) now-here in
              record {
                versions = _;
                shown = mine.moves w below.versions agrees below.shown here;
                shows = snapshot-taken below.versions t now name mine.first mine.said below.shows (epoch-early t.epoch may)
                    mine.says_first mine.begins mine.says_times;
              }

      pub number-is : Learns told old c MayTake (λ t. t.epoch ≡ row.epoch)
      number-is = λ w t agrees lies may. ap (λ (r : First). r.epoch) (first-is w t agrees lies)

      pub taken-up : (fault : PairFault) → PutGivesUp told b c (IsNow row.epoch) fault → EditGivesUp told old c MayTake fault
      taken-up Odd up = λ w t agrees lies may.
          let below = lies-b w t agrees lies in
          up w below.versions agrees below.shown (now-is w t agrees lies)
      taken-up HeightFull up = λ clean few. up (goes-b.clean (goes-a.clean clean)) few
      taken-up (Page fault) (inl lacks) = inl lacks
      taken-up (Page fault) (inr rose) =
          let both = goes-then told old a b 0 0 goes-a goes-b in
          inr (rises_behind (told.faults old fault) (told.faults b fault) (told.faults c fault) (both.faults fault) rose)

  -- ---- a snapshot that is dropped

  module _ (old a b c : S) (number : ℕ) (held : Times) (now : Moment) (fits : number < 2 ^ 64) (goes-a : Goes told old a 0)
      (goes-b : Goes told a b 1) (goes-c : Goes told b c 0)
      (read : Reads told old a (λ t. ⊤) (λ t. t.snapshot_times ≡ held))
      (timed : PutsTimes told a b (touch_times now held)) where
    pub dropped : Moves told b c HasLives (with_del (key_of (key.Snapshot number))) → (name : List ℕ)
        → Edits told old c (IsNamed number name) (drop_named now name)
    dropped moves name = λ w t agrees lies given.
        let at-b = goes-c.agreed w agrees in
        let at-a = goes-b.agreed w at-b in
        let below = read.stays w t at-a lies tt in
        let is = read.learns w t at-a lies tt in
        let lives = keeps-put key.Times timed.value below.versions tt times-first below.shows.lives in
        record {
          versions = with_del (key_of (key.Snapshot number)) (with_put (key_of key.Times) timed.value below.versions);
          shown = moves w (with_put (key_of key.Times) timed.value below.versions) agrees
              (timed.moves w below.versions at-b below.shown below.shows.lives) lives;
          shows = snapshot-dropped below.versions t now number name timed.value fits below.shows given
              (timed.says ∙ ap (λ (x : Times). Some (touch_times now x)) (sym is));
        }

    pub dropped-up : (fault : PairFault) → GivesUp told b c HasLives fault → EditGivesUp told old c (λ t. ⊤) fault
    dropped-up Odd up = λ w t agrees lies given.
        let at-b = goes-c.agreed w agrees in
        let at-a = goes-b.agreed w at-b in
        let below = read.stays w t at-a lies tt in
        up w (with_put (key_of key.Times) timed.value below.versions) agrees
        (timed.moves w below.versions at-b below.shown below.shows.lives)
        (keeps-put key.Times timed.value below.versions tt times-first below.shows.lives)
    dropped-up HeightFull up = absurd up
    dropped-up (Page fault) (inl lacks) = inl lacks
    dropped-up (Page fault) (inr rose) =
        let both = goes-then told old a b 0 1 goes-a goes-b in
        inr (rises_behind (told.faults old fault) (told.faults b fault) (told.faults c fault) (both.faults fault) rose)
