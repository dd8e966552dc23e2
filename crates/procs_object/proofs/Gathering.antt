-- Procedures that gather what they need by reads, one after another, and then end.
use Rattle.std.proofs.Common.{◌≡◌, ℕ, ◌+◌, ◌≤◌, inl, inr, Ok, Err}
use Rattle.std.specs.Prelude.{IsOk}
use Rattle.nfs3_types.specs.declared.body.Body.{Body}
use Rattle.nfs3_types.specs.declared.status.Status.{Status}
use Rattle.fs_rules.specs.Checks.{Row}
use Rattle.fs_rules.specs.Sound.{IsSound}
use Rattle.fs_rules.specs.Tree.{Tree}
use Rattle.pair_types.specs.declared.fault.PairFault.{PairFault}
use Rattle.pair_types.specs.declared.fault.PairFault.TheVariants.{Odd, HeightFull, Page}
use Rattle.pairs.specs.Told.{PairsTold, Goes}
use Rattle.fs_shows.specs.declared.halt.Halt.TheVariants.{Refused, Fault}
use Rattle.fs_shows.specs.Steps.{Edits, Reads, GivesUpOn, EditGivesUp}
use Rattle.fs_shows.proofs.Doing.{goes-then}
use Rattle.procs_object.specs.Performing.{Performs}
use Rattle.procs_object.proofs.Reading.{rises-behind, reads-then, up-then}

module _ {S W : Type 0} (told : PairsTold S W) where
  -- ---- reads one after another

  module _ (old mid new : S) (Q Given : Tree → Type 0) (goes : Goes told mid new 0) (reads : Reads told old mid IsSound Q)
      (given : (t : Tree) → IsSound t → Q t → Given t) where
    -- what was learned before, and what a read behind it learns, of which that is given
    pub gathers : (R : Tree → Type 0) → Reads told mid new Given R → Reads told old new IsSound (λ t. Q t × R t)
    gathers = reads-then told old mid new IsSound Q Given goes reads given

    -- a read behind it gives up
    pub gathers-up : (m : ℕ) → Goes told old mid m → (fault : PairFault) → GivesUpOn told mid new Given fault
        → GivesUpOn told old new IsSound fault
    gathers-up = up-then told old mid new IsSound Q Given goes reads given

  -- ---- edits one after another

  -- an edit gives up behind another
  pub edit-up-behind : (old mid new : S) (m n : ℕ) (Given Then : Tree → Type 0) (edit : Tree → Tree) → Goes told old mid m
      → Goes told mid new n → Edits told old mid Given edit → ((t : Tree) → Given t → Then (edit t)) → (fault : PairFault)
      → EditGivesUp told mid new Then fault → EditGivesUp told old new Given fault
  edit-up-behind old mid new m n Given Then edit before goes first given Odd then = λ w t agrees lies is.
      then w (edit t) agrees (first w t (goes.agreed w agrees) lies is) (given t is)
  edit-up-behind old mid new m n Given Then edit before goes first given HeightFull then = λ clean few. then
      (before.clean clean) few
  edit-up-behind old mid new m n Given Then edit before goes first given (Page fault) (inl lacks) = inl lacks
  edit-up-behind old mid new m n Given Then edit before goes first given (Page fault) (inr rose) =
      inr (rises-behind (told.faults old fault) (told.faults mid fault) (told.faults new fault) (before.faults fault) rose)

  -- ---- the end

  -- a read gave up
  pub halts-by : (old new : S) (most : ℕ) (row : Tree → Row) → Goes told old new most → (fault : PairFault)
      → GivesUpOn told old new IsSound fault → Performs told old new most row (Err (Fault fault))
  halts-by old new most row goes Odd up = record { goes = goes; ends = up }
  halts-by old new most row goes HeightFull up = absurd up
  halts-by old new most row goes (Page fault) up = record { goes = goes; ends = up }

  module _ (old mid : S) (row : Tree → Row) (Q : Tree → Type 0) (reads : Reads told old mid IsSound Q) where
    -- by what was learned the row refuses
    pub refuses-by : (most : ℕ) (status : Status) → Goes told old mid most → ((t : Tree) → IsSound t → Q t → row t ≡ Err status)
        → Performs told old mid most row (Err (Refused status))
    refuses-by most status goes says = record {
      goes = goes;
      ends = λ w t agrees lies sound. record {
        is = says t sound (reads.learns w t agrees lies sound);
        lies = reads.stays w t agrees lies tt;
      };
    }

    -- by what was learned the row tells this, and the tree stays
    pub tells-by : (most : ℕ) (body : Body) → Goes told old mid most
        → ((t : Tree) → IsSound t → Q t → row t ≡ Ok (record { body = body; tree = t }))
        → Performs told old mid most row (Ok body)
    tells-by most body goes says = record {
      goes = goes;
      ends = λ w t agrees lies sound. record {
        tree = t;
        is = says t sound (reads.learns w t agrees lies sound);
        lies = reads.stays w t agrees lies tt;
      };
    }

    -- by what was learned an edit can be made that is the row's
    module _ (new : S) (m n : ℕ) (before : Goes told old mid m) (goes : Goes told mid new n) (Then : Tree → Type 0)
        (then : (t : Tree) → IsSound t → Q t → Then t) where
      pub edits-by : (body : Body) (edit : Tree → Tree)
          → ((t : Tree) → IsSound t → Q t → row t ≡ Ok (record { body = body; tree = edit t })) → Edits told mid new Then edit
          → Performs told old new (m + n) row (Ok body)
      edits-by body edit says edited = record {
        goes = goes-then told old mid new m n before goes;
        ends = λ w t agrees lies sound.
            let a = goes.agreed w agrees in
            let learned = reads.learns w t a lies sound in
            record {
              tree = edit t;
              is = says t sound learned;
              lies = edited w t agrees (reads.stays w t a lies tt) (then t sound learned);
            };
      }

      -- the edit gives up: the row does not refuse
      pub edit-halts-by : 1 ≤ m + n → ((t : Tree) → IsSound t → Q t → IsOk (row t)) → (fault : PairFault)
          → EditGivesUp told mid new Then fault → Performs told old new (m + n) row (Err (Fault fault))
      edit-halts-by some passes Odd up = record {
        goes = goes-then told old mid new m n before goes;
        ends = λ w t agrees lies sound.
            let a = goes.agreed w agrees in
            up w t agrees (reads.stays w t a lies tt) (then t sound (reads.learns w t a lies sound));
      }
      edit-halts-by some passes HeightFull up = record {
        goes = goes-then told old mid new m n before goes;
        ends = (
          some,
          (λ clean few. up (before.clean clean) few),
          (λ w t agrees lies sound. passes t sound (reads.learns w t (goes.agreed w agrees) lies sound)),
        );
      }
      edit-halts-by some passes (Page fault) (inl lacks) = record {
        goes = goes-then told old mid new m n before goes;
        ends = inl lacks;
      }
      edit-halts-by some passes (Page fault) (inr rose) = record {
        goes = goes-then told old mid new m n before goes;
        ends = inr (rises-behind (told.faults old fault) (told.faults mid fault) (told.faults new fault)
            (before.faults fault) rose);
      }
