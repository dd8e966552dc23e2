-- The records of replies to calls of NFS.
use Rattle.std.proofs.Common.{◌≡◌, ℕ, List, ◌++◌, length, Result, Ok, Err, OnOk, sym, ◌∙◌}
use Rattle.rpc_msg.specs.Replies.{accepted_record}
use Rattle.nfs3_types.specs.declared.reply.Reply.{Reply}
use Rattle.nfs3_types.specs.Replies.{result_of, outcome_of}
use Rattle.nfs3_types.proofs.ReplyLaws.{result_of-laws}
use Rattle.nfs3_res.specs.Spelled.{IsSpelled}
use Rattle.rpc_route.specs.Sealing.{sealed}

result_long : (r : Reply) → IsSpelled r
    → length ((result_of r.procedure).spelling (outcome_of r)) ≡ (result_of r.procedure).size (outcome_of r)
result_long r spelled =
    let laws = result_of-laws r.procedure in
    laws.sized (outcome_of r) _ (laws.written (outcome_of r) spelled.fits)

-- the result that is put behind a head of its length makes the record
pub sealed_behind : {A E : Type 0} (result : Result A E) (old mid new : List ℕ) (xid size : ℕ) (r : Reply) → IsSpelled r
    → size ≡ (result_of r.procedure).size (outcome_of r)
    → ((results : List ℕ) → length results ≡ size → mid ++ results ≡ old ++ accepted_record xid 0 results)
    → OnOk result (new ≡ mid ++ (result_of r.procedure).spelling (outcome_of r)) → OnOk result (new ≡ old ++ sealed xid r)
unfolding sealed
sealed_behind (Ok x) old mid new xid size r spelled is head gained = gained ∙ head _ (result_long r spelled ∙ sym is)
sealed_behind (Err e) old mid new xid size r spelled is head gained = gained
