-- Reads that answer as a check does.
use Rattle.std.proofs.Common.{◌≡◌, ℕ, ◌≤◌, inl, inr, Result, Ok, Err, arith}
use Rattle.std.specs.Prelude.{⊤}
use Rattle.fs_rules.specs.Checks.{Check}
use Rattle.fs_rules.specs.Sound.{IsSound}
use Rattle.fs_rules.specs.Tree.{Tree}
use Rattle.pair_types.specs.declared.fault.PairFault.{PairFault}
use Rattle.pair_types.specs.declared.fault.PairFault.TheVariants.{Odd, HeightFull, Page}
use Rattle.nfs3_types.specs.Count.{Rose}
use Rattle.pairs.specs.Told.{PairsTold, Goes}
use Rattle.fs_keys.specs.declared.rows.First.{First}
use Rattle.fs_shows.specs.declared.halt.Halt.{Halt}
use Rattle.fs_shows.specs.declared.halt.Halt.TheVariants.{Refused, Fault}
use Rattle.fs_shows.specs.Shows.{first_of}
use Rattle.fs_shows.specs.Steps.{Reads, GivesUpOn}
use Rattle.procs_object.specs.Finding.{Begins, CheckedOn}

pub rises-behind : (a b c : ℕ) → a ≤ b → Rose b c → Rose a c
rises-behind a b c first then = omega (arith, first, then)

module _ {S W : Type 0} (told : PairsTold S W) where
  -- nothing was read
  pub reads-none : (s : S) (Given Q : Tree → Type 0) → ((t : Tree) → Given t → Q t) → Reads told s s Given Q
  reads-none s Given Q says = record { stays = λ w t agrees lies is. lies; learns = λ w t agrees lies given. says t given }

  -- what was learned, where more is given
  pub reads-more : (old new : S) (Given Less P Q : Tree → Type 0) → ((t : Tree) → Given t → Less t)
      → ((t : Tree) → Given t → P t → Q t) → Reads told old new Less P → Reads told old new Given Q
  reads-more old new Given Less P Q less says reads = record {
    stays = reads.stays;
    learns = λ w t agrees lies given. says t given (reads.learns w t agrees lies (less t given));
  }

  -- no tree says what was learned
  pub odd-by : (old new : S) (Given Q : Tree → Type 0) → ((t : Tree) → Given t → Q t → ⊥) → Reads told old new Given Q
      → GivesUpOn told old new Given Odd
  odd-by old new Given Q never reads = λ w t agrees lies given. never t given (reads.learns w t agrees lies given)

  -- ---- reads one after another

  module _ (old mid new : S) (Given Q Next : Tree → Type 0) (goes : Goes told mid new 0) (reads : Reads told old mid Given Q)
      (given : (t : Tree) → Given t → Q t → Next t) where
    -- what was learned before, and what a read behind it learns, of which that is given
    pub reads-then : (R : Tree → Type 0) → Reads told mid new Next R → Reads told old new Given (λ t. Q t × R t)
    reads-then R then = record {
      stays = λ w t agrees lies is. then.stays w t agrees (reads.stays w t (goes.agreed w agrees) lies tt) tt;
      learns = λ w t agrees lies is.
          let a = goes.agreed w agrees in
          let learned = reads.learns w t a lies is in
          (learned, then.learns w t agrees (reads.stays w t a lies tt) (given t is learned));
    }

    -- a read behind it gives up
    pub up-then : (m : ℕ) → Goes told old mid m → (fault : PairFault) → GivesUpOn told mid new Next fault
        → GivesUpOn told old new Given fault
    up-then m before Odd up = λ w t agrees lies is.
        let a = goes.agreed w agrees in
        up w t agrees (reads.stays w t a lies tt) (given t is (reads.learns w t a lies is))
    up-then m before HeightFull up = up
    up-then m before (Page fault) (inl lacks) = inl lacks
    up-then m before (Page fault) (inr rose) =
        inr (rises-behind (told.faults old fault) (told.faults mid fault) (told.faults new fault) (before.faults fault) rose)

  -- the first record was read, and then a call by it gave up
  pub begins-up : (old mid new : S) (row : First) → Goes told old mid 0 → Goes told mid new 0
      → Reads told old mid (λ t. ⊤) (λ t. first_of t ≡ row) → (fault : PairFault) → GivesUpOn told mid new (Begins row) fault
      → GivesUpOn told old new IsSound fault
  begins-up old mid new row before goes first Odd up = λ w t agrees lies sound.
      up w t agrees (first.stays w t (goes.agreed w agrees) lies tt)
      (record { sound = sound; first = first.learns w t (goes.agreed w agrees) lies tt })
  begins-up old mid new row before goes first HeightFull up = up
  begins-up old mid new row before goes first (Page fault) (inl lacks) = inl lacks
  begins-up old mid new row before goes first (Page fault) (inr rose) =
      inr (rises-behind (told.faults old fault) (told.faults mid fault) (told.faults new fault) (before.faults fault) rose)

  -- the first record was read, and then a check was made by it
  pub begins-then : {A X : Type 0} (old mid new : S) (row : First) (Finds : Tree → X → A → Type 0) (check : Tree → Check A)
      (r : Result X Halt) → Goes told old mid 0 → Goes told mid new 0 → Reads told old mid (λ t. ⊤) (λ t. first_of t ≡ row)
      → CheckedOn told mid new (Begins row) Finds check r → CheckedOn told old new IsSound Finds check r
  begins-then old mid new row Finds check (Ok x) before goes first then = record {
    stays = λ w t agrees lies is. then.stays w t agrees (first.stays w t (goes.agreed w agrees) lies tt) tt;
    learns = λ w t agrees lies sound.
        then.learns w t agrees (first.stays w t (goes.agreed w agrees) lies tt)
        (record { sound = sound; first = first.learns w t (goes.agreed w agrees) lies tt });
  }
  begins-then old mid new row Finds check (Err (Refused status)) before goes first then = record {
    stays = λ w t agrees lies is. then.stays w t agrees (first.stays w t (goes.agreed w agrees) lies tt) tt;
    learns = λ w t agrees lies sound.
        then.learns w t agrees (first.stays w t (goes.agreed w agrees) lies tt)
        (record { sound = sound; first = first.learns w t (goes.agreed w agrees) lies tt });
  }
  begins-then old mid new row Finds check (Err (Fault fault)) before goes first then =
      begins-up old mid new row before goes first fault then
