-- Calls over pairs one after another, as what they do to versions, and then to trees.
use Rattle.std.proofs.Common.{◌≡◌, ℕ, ◌+◌, ◌≤◌, inl, inr, refl, subst, arith}
use Rattle.std.specs.Prelude.{⊤}
use Rattle.nfs3_types.specs.Count.{Rose}
use Rattle.fs_rules.specs.Tree.{Tree}
use Rattle.pair_types.specs.declared.fault.PairFault.{PairFault}
use Rattle.pair_types.specs.declared.fault.PairFault.TheVariants.{Odd, HeightFull, Page}
use Rattle.pair_types.specs.PageState.{no_memory}
use Rattle.pairs.specs.Versions.{Versions, HasLives}
use Rattle.pairs.specs.Told.{PairsTold, Goes, Finds, Moves, Tells, GivesUp, PutGivesUp}
use Rattle.fs_shows.specs.Shows.{Shows}
use Rattle.fs_shows.specs.Steps.{Lies, Edits, Reads, GivesUpOn, EditGivesUp}

rises_behind : (a b c : ℕ) → a ≤ b → Rose b c → Rose a c
rises_behind a b c first then = omega (arith, first, then)

-- an edit of versions that keeps lives in order
abbrev pub KeepsLives : (Versions → Versions) → Type 0
KeepsLives edit = (v : Versions) → HasLives v → HasLives (edit v)

module _ {S W : Type 0} (told : PairsTold S W) where
  -- ---- what holds of every call

  pub goes-none : (s : S) → Goes told s s 0
  goes-none s = record {
    agreed = λ w agrees. agrees;
    faults = λ fault. omega arith;
    puts = omega arith;
    few = omega arith;
    clean = λ clean. clean;
  }

  pub goes-then : (old mid new : S) (m n : ℕ) → Goes told old mid m → Goes told mid new n → Goes told old new (m + n)
  goes-then old mid new m n first then = record {
    agreed = λ w agrees. first.agreed w (then.agreed w agrees);
    faults = λ fault. omega (arith, first.faults fault, then.faults fault);
    puts = omega (arith, first.puts, then.puts);
    few = omega (arith, first.few, then.few);
    clean = λ clean. then.clean (first.clean clean);
  }

  pub goes-most : (old new : S) (m n : ℕ) → m ≤ n → Goes told old new m → Goes told old new n
  goes-most old new m n less goes = record {
    agreed = goes.agreed;
    faults = goes.faults;
    puts = goes.puts;
    few = omega (arith, goes.few, less);
    clean = goes.clean;
  }

  -- ---- what calls do to versions whose lives are in order

  -- what is shown is what was shown, edited, and this much is so of what was shown
  pub record Does (old new : S) (edit : Versions → Versions) (IsSo : Versions → Type 0) : Type 0 where
    pub moves : Moves told old new HasLives edit
    pub finds : Finds told old new IsSo

  pub does-tell : (old new : S) (P : Versions → Type 0) → Tells told old new P → Does old new (λ v. v) P
  does-tell old new P tells = record {
    moves = λ w v agrees shown lives. tells.shows w v agrees shown;
    finds = tells.finds;
  }

  pub does-move : (old new : S) (edit : Versions → Versions) → Moves told old new HasLives edit → Does old new edit (λ v. ⊤)
  does-move old new edit moves = record { moves = moves; finds = λ w v agrees shown lives. tt }

  -- nothing was done
  pub does-none : (s : S) → Does s s (λ v. v) (λ v. ⊤)
  does-none s = record { moves = λ w v agrees shown lives. shown; finds = λ w v agrees shown lives. tt }

  pub does-then : (old mid new : S) (n : ℕ) (edit next : Versions → Versions) (P Q : Versions → Type 0) → KeepsLives edit
      → Goes told mid new n → Does old mid edit P → Does mid new next Q → Does old new (λ v. next (edit v))
      (λ v. P v × Q (edit v))
  does-then old mid new n edit next P Q keeps goes first then = record {
    moves = λ w v agrees shown lives.
        then.moves w (edit v) agrees (first.moves w v (goes.agreed w agrees) shown lives) (keeps v lives);
    finds = λ w v agrees shown lives. (
      first.finds w v (goes.agreed w agrees) shown lives,
      then.finds w (edit v) agrees (first.moves w v (goes.agreed w agrees) shown lives) (keeps v lives),
    );
  }

  -- ---- what they do to trees

  pub edits-of : (old new : S) (edit : Versions → Versions) (P : Versions → Type 0) (Given : Tree → Type 0) (change : Tree → Tree)
      → Does old new edit P → ((v : Versions) (t : Tree) → Shows v t → P v → Given t → Shows (edit v) (change t))
      → Edits told old new Given change
  edits-of old new edit P Given change does shows = λ w t agrees lies is. record {
    versions = edit lies.versions;
    shown = does.moves w lies.versions agrees lies.shown lies.shows.lives;
    shows = shows lies.versions t lies.shows (does.finds w lies.versions agrees lies.shown lies.shows.lives) is;
  }

  pub reads-of : (old new : S) (P : Versions → Type 0) (Given Q : Tree → Type 0) → Tells told old new P
      → ((v : Versions) (t : Tree) → Shows v t → P v → Given t → Q t) → Reads told old new Given Q
  reads-of old new P Given Q tells says = record {
    stays = λ w t agrees lies is. record {
      versions = lies.versions;
      shown = tells.shows w lies.versions agrees lies.shown;
      shows = lies.shows;
    };
    learns = λ w t agrees lies is.
        says lies.versions t lies.shows (tells.finds w lies.versions agrees lies.shown lies.shows.lives) is;
  }

  -- ---- what is given

  pub moves-given : (old new : S) (Given Less : Versions → Type 0) (edit : Versions → Versions) →
      ((v : Versions) → Less v → Given v)
      → Moves told old new Given edit → Moves told old new Less edit
  moves-given old new Given Less edit given moves = λ w v agrees shown is. moves w v agrees shown (given v is)

  pub up-put-given : (old new : S) (Given Less : Versions → Type 0) → ((v : Versions) → Less v → Given v) → (fault : PairFault)
      → PutGivesUp told old new Given fault → PutGivesUp told old new Less fault
  up-put-given old new Given Less given Odd up = λ w v agrees shown is. up w v agrees shown (given v is)
  up-put-given old new Given Less given HeightFull up = up
  up-put-given old new Given Less given (Page fault) up = up

  -- ---- why they give up

  pub memory-up : (old new : S) (Given : Versions → Type 0) (fault : PairFault) → fault ≡ Page no_memory
      → GivesUp told old new Given fault
  memory-up old new Given Odd is = absurd (cc)
  memory-up old new Given HeightFull is = absurd (cc)
  memory-up old new Given (Page fault) is = inl (cc)

  pub memory-put : (old new : S) (Given : Versions → Type 0) (fault : PairFault) → fault ≡ Page no_memory
      → PutGivesUp told old new Given fault
  memory-put old new Given Odd is = absurd (cc)
  memory-put old new Given HeightFull is = absurd (cc)
  memory-put old new Given (Page fault) is = inl (cc)

  -- want of memory
  pub up-memory : (old new : S) (Given : Tree → Type 0) (fault : PairFault) → fault ≡ Page no_memory
      → GivesUpOn told old new Given fault
  up-memory old new Given Odd is = absurd (cc)
  up-memory old new Given HeightFull is = absurd (cc)
  up-memory old new Given (Page fault) is = inl (cc)

  pub up-read : (old new : S) (Given : Tree → Type 0) (fault : PairFault) → GivesUp told old new HasLives fault
      → GivesUpOn told old new Given fault
  up-read old new Given Odd up = λ w t agrees lies is. up w lies.versions agrees lies.shown lies.shows.lives
  up-read old new Given HeightFull up = up
  up-read old new Given (Page fault) up = up

  pub up-put : (old new : S) (Given : Tree → Type 0) (fault : PairFault) → PutGivesUp told old new HasLives fault
      → EditGivesUp told old new Given fault
  up-put old new Given Odd up = λ w t agrees lies is. up w lies.versions agrees lies.shown lies.shows.lives
  up-put old new Given HeightFull up = up
  up-put old new Given (Page fault) up = up

  -- of more that is given
  pub up-given : (old new : S) (Given Less : Tree → Type 0) → ((t : Tree) → Given t → Less t) → (fault : PairFault)
      → GivesUpOn told old new Less fault → GivesUpOn told old new Given fault
  up-given old new Given Less less Odd up = λ w t agrees lies is. up w t agrees lies (less t is)
  up-given old new Given Less less HeightFull up = up
  up-given old new Given Less less (Page fault) up = up

  -- a read gives up in an edit
  pub up-edit : (old new : S) (Given : Tree → Type 0) (fault : PairFault) → GivesUpOn told old new Given fault
      → EditGivesUp told old new Given fault
  up-edit old new Given Odd up = up
  up-edit old new Given HeightFull up = absurd up
  up-edit old new Given (Page fault) up = up

  -- what was found cannot be of a tree of which this much is given
  pub up-odd : (old new : S) (edit : Versions → Versions) (P : Versions → Type 0) (Given : Tree → Type 0) → Does old new edit P
      → ((v : Versions) (t : Tree) → Shows v t → P v → Given t → ⊥) → GivesUpOn told old new Given Odd
  up-odd old new edit P Given does none = λ w t agrees lies is.
      none lies.versions t lies.shows (does.finds w lies.versions agrees lies.shown lies.shows.lives) is

  -- behind other calls
  pub up-behind : (old mid new : S) (m n : ℕ) (edit : Versions → Versions) (P : Versions → Type 0) (Given : Tree → Type 0)
      (fault : PairFault)
      → KeepsLives edit → Goes told old mid m → Goes told mid new n → Does old mid edit P → PutGivesUp told mid new HasLives fault
      → EditGivesUp told old new Given fault
  up-behind old mid new m n edit P Given Odd keeps before goes does up = λ w t agrees lies is.
      up w (edit lies.versions) agrees (does.moves w lies.versions (goes.agreed w agrees) lies.shown lies.shows.lives)
      (keeps lies.versions lies.shows.lives)
  up-behind old mid new m n edit P Given HeightFull keeps before goes does up = λ clean few. up (before.clean clean) few
  up-behind old mid new m n edit P Given (Page fault) keeps before goes does (inl lacks) = inl lacks
  up-behind old mid new m n edit P Given (Page fault) keeps before goes does (inr rose) =
      inr (rises_behind (told.faults old fault) (told.faults mid fault) (told.faults new fault) (before.faults fault) rose)

  -- a call that puts nothing gives up for no more reasons than a put
  pub up-as-put : (old new : S) (fault : PairFault) → GivesUp told old new HasLives fault → PutGivesUp told old new HasLives fault
  up-as-put old new Odd up = up
  up-as-put old new HeightFull up = absurd up
  up-as-put old new (Page fault) up = up

  -- a read behind calls that only read
  pub up-behind-read : (old mid new : S) (m n : ℕ) (P : Versions → Type 0) (Given : Tree → Type 0) (fault : PairFault)
      → Goes told old mid m
      → Goes told mid new n → Tells told old mid P → GivesUpOn told mid new Given fault → GivesUpOn told old new Given fault
  up-behind-read old mid new m n P Given Odd before goes tells up = λ w t agrees lies is.
      up w t agrees (record {
        versions = lies.versions;
        shown = tells.shows w lies.versions (goes.agreed w agrees) lies.shown;
        shows = lies.shows;
      }) is
  up-behind-read old mid new m n P Given HeightFull before goes tells up = up
  up-behind-read old mid new m n P Given (Page fault) before goes tells (inl lacks) = inl lacks
  up-behind-read old mid new m n P Given (Page fault) before goes tells (inr rose) =
      inr (rises_behind (told.faults old fault) (told.faults mid fault) (told.faults new fault) (before.faults fault) rose)

  -- an edit behind a call that only reads
  pub up-after-read : (old mid new : S) (m n : ℕ) (First Given Then P : Tree → Type 0) (fault : PairFault) → Goes told old mid m
      → Goes told mid new n → Reads told old mid First P → ((t : Tree) → Given t → Then t) → EditGivesUp told mid new Then fault
      → EditGivesUp told old new Given fault
  up-after-read old mid new m n First Given Then P Odd before goes reads then up = λ w t agrees lies is.
      up w t agrees (reads.stays w t (goes.agreed w agrees) lies tt) (then t is)
  up-after-read old mid new m n First Given Then P HeightFull before goes reads then up = λ clean few. up (before.clean clean) few
  up-after-read old mid new m n First Given Then P (Page fault) before goes reads then (inl lacks) = inl lacks
  up-after-read old mid new m n First Given Then P (Page fault) before goes reads then (inr rose) =
      inr (rises_behind (told.faults old fault) (told.faults mid fault) (told.faults new fault) (before.faults fault) rose)

  -- an edit that is another one, where this much was learned
  pub edits-as : (old mid new : S) (n : ℕ) (First Given Then P : Tree → Type 0) (edit change : Tree → Tree) → Goes told mid new n
      → Reads told old mid First P → ((t : Tree) → Given t → First t) → ((t : Tree) → Given t → Then t)
      → Edits told mid new Then edit
      → ((t : Tree) → Given t → P t → edit t ≡ change t) → Edits told old new Given change
  edits-as old mid new n First Given Then P edit change goes reads first then edits same = λ w t agrees lies is.
      let a = goes.agreed w agrees in
      subst (Lies told new w) (same t is (reads.learns w t a lies (first t is)))
      (edits w t agrees (reads.stays w t a lies tt) (then t is))

  -- ---- the same over versions

  pub put-up-behind : (old mid new : S) (m n : ℕ) (edit : Versions → Versions) (fault : PairFault) → KeepsLives edit
      → Goes told old mid m
      → Goes told mid new n → Moves told old mid HasLives edit → PutGivesUp told mid new HasLives fault
      → PutGivesUp told old new HasLives fault
  put-up-behind old mid new m n edit Odd keeps before goes moves up = λ w v agrees shown lives.
      up w (edit v) agrees (moves w v (goes.agreed w agrees) shown lives) (keeps v lives)
  put-up-behind old mid new m n edit HeightFull keeps before goes moves up = λ clean few. up (before.clean clean) few
  put-up-behind old mid new m n edit (Page fault) keeps before goes moves (inl lacks) = inl lacks
  put-up-behind old mid new m n edit (Page fault) keeps before goes moves (inr rose) =
      inr (rises_behind (told.faults old fault) (told.faults mid fault) (told.faults new fault) (before.faults fault) rose)

  pub up-behind-del : (old mid new : S) (m n : ℕ) (edit : Versions → Versions) (fault : PairFault) → KeepsLives edit
      → Goes told old mid m
      → Goes told mid new n → Moves told old mid HasLives edit → GivesUp told mid new HasLives fault
      → GivesUp told old new HasLives fault
  up-behind-del old mid new m n edit Odd keeps before goes moves up = λ w v agrees shown lives.
      up w (edit v) agrees (moves w v (goes.agreed w agrees) shown lives) (keeps v lives)
  up-behind-del old mid new m n edit HeightFull keeps before goes moves up = up
  up-behind-del old mid new m n edit (Page fault) keeps before goes moves (inl lacks) = inl lacks
  up-behind-del old mid new m n edit (Page fault) keeps before goes moves (inr rose) =
      inr (rises_behind (told.faults old fault) (told.faults mid fault) (told.faults new fault) (before.faults fault) rose)
