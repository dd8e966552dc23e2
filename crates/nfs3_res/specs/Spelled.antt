-- Replies that have a spelling.
use Rattle.std.specs.Prelude.{◌≡◌, ℕ, ◌-◌, ◌^◌, ◌<◌, ◌≤◌, false}
use Rattle.nfs3_types.specs.declared.body.Body.{Body}
use Rattle.nfs3_types.specs.declared.body.Body.TheVariants.{Nothing}
use Rattle.nfs3_types.specs.declared.reply.Reply.{Reply}
use Rattle.nfs3_types.specs.Procedures.{procedure_number}
use Rattle.nfs3_types.specs.Replies.{is_ok, said_by, result_of, outcome_of}

-- the number of the procedure whose result of status OK this is
abbrev pub procedure_in : Body → ℕ
procedure_in body = procedure_number (said_by body)

-- the reply is of a procedure, a failure says nothing, its result has a spelling, and a record can hold it
pub record IsSpelled (reply : Reply) : Type 0 where
  pub procedure_is : reply.procedure ≤ 21
  pub nothing : is_ok reply.status ≡ false → reply.body ≡ Nothing
  pub fits : (result_of reply.procedure).Fits (outcome_of reply)
  pub short : (result_of reply.procedure).size (outcome_of reply) < 2 ^ 31 - 24
