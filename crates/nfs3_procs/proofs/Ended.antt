-- How calls end.
use Rattle.std.proofs.Common.{◌≡◌, ℕ, ◌≤◌, List, Bool, true, false, Result, Ok, Err, refl, sym, ◌∙◌, ap, subst}
use Rattle.std.proofs.Common.{inl, inr, arith}
use Rattle.std.specs.Prelude.{IfOk, IfErr, if◌then◌else◌}
use Rattle.nfs3_fits.specs.Shape.{HasShape}
use Rattle.fs_laws.proofs.Shaped.{answer_fits}
use Rattle.nfs3_types.specs.Calls.{Call, procedure_of}
use Rattle.nfs3_types.specs.declared.body.Body.{Body}
use Rattle.nfs3_types.specs.declared.body.Body.TheVariants.{Null as NullBody}
use Rattle.nfs3_types.specs.declared.status.Status.TheVariants.{NotSupp}
use Rattle.pairs.specs.Told.{PairsTold}
use Rattle.fs_rules.specs.Answers.{Asked, is_changing, reply_by, row, row_of, tree_by}
use Rattle.fs_rules.specs.Checks.{Row}
use Rattle.fs_rules.specs.Tree.{Tree}
use Rattle.pair_types.specs.declared.fault.PairFault.TheVariants.{Odd, HeightFull, Page}
use Rattle.fs_shows.specs.Steps.{Lies}
use Rattle.fs_shows.specs.declared.halt.Halt.{Halt}
use Rattle.fs_shows.specs.declared.halt.Halt.TheVariants.{Refused, Fault}
use Rattle.fs_shows.proofs.Doing.{goes-none, goes-most}
use Rattle.procs_object.specs.Performing.{Performs}
use Rattle.procs_bytes.specs.declared.stop.Stop.{Stop}
use Rattle.procs_bytes.specs.declared.stop.Stop.TheVariants.{Halted, SweepFirst}
use Rattle.procs_bytes.specs.Waiting.{PerformsOrWaits}
use Rattle.nfs3_types.specs.declared.reply.Reply.{Reply}
use Rattle.nfs3_procs.specs.declared.fault.BodyFault.{BodyFault}
use Rattle.nfs3_procs.specs.declared.fault.BodyFault.TheVariants.{Pair}
use Rattle.nfs3_procs.specs.Answering.{Answers, EndsAs, most_puts, replied, stopped}
use Rattle.nfs3_procs.specs.Shaping.{IsHandedOn, IsMisshapen}

at-least : (m n : ℕ) → 1 ≤ m → m ≤ n → 1 ≤ n
at-least m n some more = omega (arith, some, more)

module _ {S W : Type 0} (told : PairsTold S W) where
  -- nothing is read or put, and the tree tells this
  pub tells-null : (s : S) → Performs told s s 0 (λ t. Ok (record { body = NullBody; tree = t })) (Ok NullBody)
  tells-null s = record {
    goes = goes-none told s;
    ends = λ w t agrees lies sound. record { tree = t; is = refl; lies = lies };
  }

  pub refuses-all : (s : S) → Performs told s s 0 (λ t. Err NotSupp) (Err (Refused NotSupp))
  refuses-all s = record { goes = goes-none told s; ends = λ w t agrees lies sound. record { is = refl; lies = lies } }

  -- what has not to wait, as what may have to, by more puts
  pub ends-so : (old new : S) (m n : ℕ) (row : Tree → Row) (given : Result Body Halt) (result : Result Body Stop) → m ≤ n
      → result ≡ stopped given → Performs told old new m row given → PerformsOrWaits told old new n row result
  ends-so old new m n row given result more is p = subst (PerformsOrWaits told old new n row) (sym is) (so given p)
    where
      so : (r : Result Body Halt) → Performs told old new m row r → PerformsOrWaits told old new n row (stopped r)
      so (Ok body) q = record { goes = goes-most told old new m n more q.goes; ends = q.ends }
      so (Err (Refused status)) q = record { goes = goes-most told old new m n more q.goes; ends = q.ends }
      so (Err (Fault Odd)) q = record { goes = goes-most told old new m n more q.goes; ends = q.ends }
      so (Err (Fault HeightFull)) q = record {
        goes = goes-most told old new m n more q.goes;
        ends = (at-least m n q.ends.0 more, q.ends.1, q.ends.2);
      }
      so (Err (Fault (Page fault))) q = record { goes = goes-most told old new m n more q.goes; ends = q.ends }

  -- more puts, of what may have to wait
  pub waits-more : (old new : S) (m n : ℕ) (row : Tree → Row) (r : Result Body Stop) → m ≤ n
      → PerformsOrWaits told old new m row r → PerformsOrWaits told old new n row r
  waits-more old new m n row (Ok body) more q = record { goes = goes-most told old new m n more q.goes; ends = q.ends }
  waits-more old new m n row (Err (SweepFirst id)) more q = record {
    goes = goes-most told old new m n more q.goes;
    ends = q.ends;
  }
  waits-more old new m n row (Err (Halted (Refused status))) more q = record {
    goes = goes-most told old new m n more q.goes;
    ends = q.ends;
  }
  waits-more old new m n row (Err (Halted (Fault Odd))) more q = record {
    goes = goes-most told old new m n more q.goes;
    ends = q.ends;
  }
  waits-more old new m n row (Err (Halted (Fault HeightFull))) more q = record {
    goes = goes-most told old new m n more q.goes;
    ends = (at-least m n q.ends.0 more, q.ends.1, q.ends.2);
  }
  waits-more old new m n row (Err (Halted (Fault (Page fault)))) more q = record {
    goes = goes-most told old new m n more q.goes;
    ends = q.ends;
  }

  -- the reply is built from what the procedure gave
  ends-by : (old new : S) (asked : Asked) (r : Result Body Stop)
      → PerformsOrWaits told old new (most_puts asked.call) (λ t. row t asked) r
      → EndsAs told old new asked (replied (procedure_of asked.call) r)
  ends-by old new asked (Ok body) p = λ w t agrees lies sound.
      let a = p.ends w t agrees lies sound in
      record {
        is = ap (reply_by (procedure_of asked.call)) (sym a.is);
        lies = subst (λ (r : Row). Lies told new w (tree_by t r)) (sym a.is) a.lies;
      }
  ends-by old new asked (Err (Halted (Refused status))) p = λ w t agrees lies sound.
      let a = p.ends w t agrees lies sound in
      record {
        is = ap (reply_by (procedure_of asked.call)) (sym a.is);
        lies = subst (λ (r : Row). Lies told new w (tree_by t r)) (sym a.is) a.lies;
      }
  ends-by old new asked (Err (Halted (Fault fault))) p = p.ends
  ends-by old new asked (Err (SweepFirst id)) p = p.ends

  -- a reply that has not its shape is that of no sound tree
  ends-misshapen : (old new : S) (asked : Asked) (given : Result Reply BodyFault) → IsMisshapen given
      → EndsAs told old new asked given → EndsAs told old new asked (Err (Pair Odd))
  ends-misshapen old new asked (Ok reply) not ends = λ w t agrees lies sound.
      not (subst HasShape (sym (ends w t agrees lies sound).is) (answer_fits t asked sound.bounds))
  ends-misshapen old new asked (Err fault) not ends = absurd not

  ends-handed : (old new : S) (asked : Asked) (given : Result Reply BodyFault) (fault : BodyFault) → IsHandedOn given fault
      → EndsAs told old new asked given → EndsAs told old new asked (Err fault)
  ends-handed old new asked given fault (inl same) ends = subst (EndsAs told old new asked) same ends
  ends-handed old new asked given fault (inr (is, not)) ends =
      subst (λ (f : BodyFault). EndsAs told old new asked (Err f)) (sym is) (ends-misshapen old new asked given not ends)

  -- of a handle, by a copy of it that is lent
  pub by-handle : (old new : S) (row : List ℕ → Tree → Row) (r : Result Body Halt) (lent own : List ℕ) → lent ≡ own
      → Performs told old new 0 (row lent) r → Performs told old new 0 (row own) r
  by-handle old new row r lent own same p = subst (λ (h : List ℕ). Performs told old new 0 (row h) r) same p

  -- a call that can change the tree, and one that can not
  pub changes : (old new : S) (call : Call) (row : Tree → Row) (r : Result Body Stop) → is_changing call ≡ true
      → PerformsOrWaits told old new 9 row r → PerformsOrWaits told old new (most_puts call) row r
  changes old new call row r is p =
      subst (λ (m : ℕ). PerformsOrWaits told old new m row r) (sym (ap (λ (b : Bool). if b then 9 else 0) is)) p

  pub looks : (old new : S) (call : Call) (row : Tree → Row) (given : Result Body Halt) (r : Result Body Stop)
      → is_changing call ≡ false → r ≡ stopped given → Performs told old new 0 row given
      → PerformsOrWaits told old new (most_puts call) row r
  looks old new call row given r is so p =
      subst (λ (m : ℕ). PerformsOrWaits told old new m row r) (sym (ap (λ (b : Bool). if b then 9 else 0) is))
      (ends-so old new 0 0 row given r (omega arith) so p)

  -- what was given, checked
  ends-checked : (old new : S) (asked : Asked) (given result : Result Reply BodyFault)
      → IfOk result (λ reply. (given ≡ Ok reply) × HasShape reply) → IfErr result (IsHandedOn given)
      → EndsAs told old new asked given → EndsAs told old new asked result
  ends-checked old new asked given (Ok reply) ok fault ends = subst (EndsAs told old new asked) ok.0 ends
  ends-checked old new asked given (Err f) ok fault ends = ends-handed old new asked given f fault ends

  shaped-by : (given result : Result Reply BodyFault) → IfOk result (λ reply. (given ≡ Ok reply) × HasShape reply)
      → IfOk result HasShape
  shaped-by given (Ok reply) ok = ok.1
  shaped-by given (Err f) ok = tt

  -- the reply, as it was built and checked
  pub answers-so : (old new : S) (asked : Asked) (procedure : ℕ) (r : Result Body Stop) (given result : Result Reply BodyFault)
      → procedure ≡ procedure_of asked.call → given ≡ replied procedure r
      → IfOk result (λ reply. (given ≡ Ok reply) × HasShape reply) → IfErr result (IsHandedOn given)
      → PerformsOrWaits told old new (most_puts asked.call)
      (λ t. row_of t asked.cred asked.now asked.lane asked.call) r → Answers told old new asked result
  unfolding row
  answers-so old new asked procedure r given result number is ok fault p = record {
    goes = p.goes;
    ends = ends-checked old new asked given result ok fault
        (subst (EndsAs told old new asked) (sym (is ∙ ap (λ (n : ℕ). replied n r) number)) (ends-by old new asked r p));
    shaped = shaped-by given result ok;
  }
