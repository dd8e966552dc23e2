-- What is answered to a call, as a transaction over records.
use Rattle.std.specs.Prelude.{ℕ, ◌≡◌, Result, Ok, Err, IfOk, if◌then◌else◌}
use Rattle.nfs3_fits.specs.Shape.{HasShape}
use Rattle.nfs3_types.specs.Calls.{Call}
use Rattle.nfs3_types.specs.declared.body.Body.{Body}
use Rattle.nfs3_types.specs.declared.body.Body.TheVariants.{Nothing}
use Rattle.nfs3_types.specs.declared.reply.Reply.{Reply}
use Rattle.nfs3_types.specs.declared.status.Status.TheVariants.{Ok as StatusOk}
use Rattle.fs_rules.specs.Answers.{Asked, after, answer, is_changing, row}
use Rattle.fs_rules.specs.Tree.{Tree}
use Rattle.pairs.specs.Told.{PairsTold, Goes}
use Rattle.fs_shows.specs.Steps.{Lies}
use Rattle.fs_shows.specs.declared.halt.Halt.{Halt}
use Rattle.fs_shows.specs.declared.halt.Halt.TheVariants.{Refused, Fault}
use Rattle.procs_object.specs.Performing.{OnTrees, StopsFor}
use Rattle.procs_bytes.specs.declared.stop.Stop.{Stop}
use Rattle.procs_bytes.specs.declared.stop.Stop.TheVariants.{Halted, SweepFirst as Waits}
use Rattle.procs_bytes.specs.Waiting.{IsHeldUp}
use Rattle.nfs3_procs.specs.declared.fault.BodyFault.{BodyFault}
use Rattle.nfs3_procs.specs.declared.fault.BodyFault.TheVariants.{Pair, SweepFirst}

-- how often a call may put: one that looks at the tree alone does not
abbrev pub most_puts : Call → ℕ
most_puts call = if is_changing call then 9 else 0

-- what ends any procedure, of one that may have to wait
abbrev pub stopped : Result Body Halt → Result Body Stop
stopped (Ok body) = Ok body
stopped (Err halt) = Err (Halted halt)

-- the reply by what a procedure of this number gave
abbrev pub replied : ℕ → Result Body Stop → Result Reply BodyFault
replied procedure (Ok body) = Ok (record { procedure = procedure; status = StatusOk; body = body })
replied procedure (Err (Halted (Refused status))) = Ok (record { procedure = procedure; status = status; body = Nothing })
replied procedure (Err (Halted (Fault fault))) = Err (Pair fault)
replied procedure (Err (Waits id)) = Err (SweepFirst id)

module _ {S W : Type 0} (told : PairsTold S W) (old new : S) where
  -- the reply is the table's, and the tree that the table has after the call lies below now
  pub record IsReplied (asked : Asked) (reply : Reply) (w : W) (t : Tree) : Type 0 where
    pub is : reply ≡ answer t asked
    pub lies : Lies told new w (after t asked)

  -- How a call ends: it is answered; or its file waits for a sweep; or the transaction is to be given up.
  abbrev pub EndsAs : Asked → Result Reply BodyFault → Type 0
  EndsAs asked (Ok reply) = OnTrees told old new (IsReplied asked reply)
  EndsAs asked (Err (SweepFirst id)) = OnTrees told old new (λ w t. IsHeldUp told old new w t (row t asked) id)
  EndsAs asked (Err (Pair fault)) = StopsFor told old new (most_puts asked.call) (λ t. row t asked) fault

  pub record Answers (asked : Asked) (result : Result Reply BodyFault) : Type 0 where
    pub goes : Goes told old new (most_puts asked.call)
    pub ends : EndsAs asked result
    -- whatever was read, a reply has the shape that its spelling needs
    pub shaped : IfOk result HasShape
