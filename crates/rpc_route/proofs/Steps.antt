-- The steps of routing.
use Rattle.std.proofs.Common.{◌≡◌, ℕ, ◌-◌, ◌<◌, ◌≤◌, List, [], ◌∷◌, ◌++◌, length, take, drop, Result, Ok, Err, refl, sym, ap, ◌∙◌}
use Rattle.std.proofs.Common.{subst, length-append, arith}
use Rattle.std.specs.Prelude.{◌≢◌, ◌↔◌}
use Rattle.rpc_msg.specs.declared.call.CallHead.{CallHead}
use Rattle.std.proofs.lemmas.Bool.{ne_eqb}
use Rattle.std.proofs.lemmas.List.{take_at, take_all, drop_at, length-drop}
use Rattle.xdr_grammar.specs.declared.fault.XdrFault.{XdrFault}
use Rattle.xdr_grammar.specs.Enumerations.{enumeration}
use Rattle.xdr_grammar.specs.Items.{word, truth}
use Rattle.xdr_grammar.specs.Whole.{whole}
use Rattle.rpc_msg.specs.declared.call.HeadFault.{HeadFault}
use Rattle.rpc_msg.specs.declared.call.HeadFault.TheVariants.{Short, NotCall}
use Rattle.rpc_msg.specs.Message.{MessageHead, message_head, kind_of}
use Rattle.rpc_msg.specs.Auth.{Caller}
use Rattle.rpc_msg.specs.Replies.{accepted_record}
use Rattle.rpc_msg.proofs.Heads.{head_reads, kind_read, message_head-laws}
use Rattle.nfs3_types.specs.Statuses.{status}
use Rattle.nfs3_types.specs.Attributes.{wcc_data, pre_op_attr, post_op_attr}
use Rattle.nfs3_types.specs.Replies.{result, result_with_status, told}
use Rattle.nfs3_types.specs.declared.procedure.Procedure.{Procedure}
use Rattle.nfs3_types.specs.declared.procedure.Procedure.TheVariants as procedures
use Rattle.nfs3_types.specs.Procedures.{procedure_number, procedure_at}
use Rattle.nfs3_types.specs.Calls.{Call, call_of}
use Rattle.nfs3_types.specs.Calls.{arguments as call_arguments}
use Rattle.nfs3_types.proofs.ProcedureLaws.{procedure_at-number}
use Rattle.xdr_grammar.specs.Reading.{GivesWhole}
use Rattle.mount3.specs.Protocol.{arguments}
use Rattle.mount3.specs.Answering.{body}
use Rattle.rpc_route.specs.declared.routed.Routed.{Routed}
use Rattle.rpc_route.specs.declared.routed.Routed.TheVariants.{Nfs, Ready}
use Rattle.rpc_route.specs.declared.routed.RouteFault.{RouteFault}
use Rattle.rpc_route.specs.declared.routed.RouteFault.TheVariants.{BadRecord, NoMemory}
use Rattle.rpc_route.specs.Immediate.{Immediate, Bad, Replied, not_supported, garbage, of_mount, in_nfs, in_mount}
use Rattle.rpc_route.specs.Immediate.{behind_head, immediate_reply, with_head}
use Rattle.rpc_route.specs.Routing.{Routes, RoutesRecord, HasXid}

-- ---- results that are literal bytes

pub not_supported-spelled : not_supported ≡ 0 ∷ 0 ∷ 39 ∷ 20 ∷ 0 ∷ 0 ∷ 0 ∷ 0 ∷ 0 ∷ 0 ∷ 0 ∷ 0 ∷ []
unfolding not_supported result result_with_status status enumeration told wcc_data pre_op_attr post_op_attr truth word
not_supported-spelled = refl

pub versions-spelled : word.spelling 3 ++ word.spelling 3 ≡ 0 ∷ 0 ∷ 0 ∷ 3 ∷ 0 ∷ 0 ∷ 0 ∷ 3 ∷ []
unfolding word
versions-spelled = refl

pub nfs_mismatch : (m : MessageHead) (caller : Caller) (args : List ℕ) → (m.vers ≡ 3 → ⊥)
    → in_nfs m caller args ≡ Replied (accepted_record m.xid 2 (0 ∷ 0 ∷ 0 ∷ 3 ∷ 0 ∷ 0 ∷ 0 ∷ 3 ∷ []))
unfolding in_nfs
nfs_mismatch m caller args other = rw (ne_eqb m.vers 3 other, versions-spelled) refl

pub mount_mismatch : (fsid : ℕ) (m : MessageHead) (args : List ℕ) → (m.vers ≡ 3 → ⊥)
    → in_mount fsid m args ≡ Replied (accepted_record m.xid 2 (0 ∷ 0 ∷ 0 ∷ 3 ∷ 0 ∷ 0 ∷ 0 ∷ 3 ∷ []))
unfolding in_mount
mount_mismatch fsid m args other = rw (ne_eqb m.vers 3 other, versions-spelled) refl

-- ---- NFS

pub number_small : (p : Procedure) → procedure_number p ≤ 21
number_small procedures.Null = omega arith
number_small procedures.GetAttr = omega arith
number_small procedures.SetAttr = omega arith
number_small procedures.Lookup = omega arith
number_small procedures.Access = omega arith
number_small procedures.ReadLink = omega arith
number_small procedures.Read = omega arith
number_small procedures.Write = omega arith
number_small procedures.Create = omega arith
number_small procedures.Mkdir = omega arith
number_small procedures.Symlink = omega arith
number_small procedures.Mknod = omega arith
number_small procedures.Remove = omega arith
number_small procedures.Rmdir = omega arith
number_small procedures.Rename = omega arith
number_small procedures.Link = omega arith
number_small procedures.ReadDir = omega arith
number_small procedures.ReadDirPlus = omega arith
number_small procedures.FsStat = omega arith
number_small procedures.FsInfo = omega arith
number_small procedures.PathConf = omega arith
number_small procedures.Commit = omega arith

-- what was read by the procedure's number was read by the procedure
pub read_by_number : (p : Procedure) (n : ℕ) (args : List ℕ) (result : Result Call XdrFault) → n ≡ procedure_number p
    → GivesWhole (λ call. call) (whole (call_of n) args) result → GivesWhole (λ call. call) (whole (call_arguments p) args) result
unfolding call_of
read_by_number p n args result is h =
    subst (λ (q : Procedure). GivesWhole (λ call. call) (whole (call_arguments q) args) result)
    (ap procedure_at is ∙ procedure_at-number p) h

-- ---- MOUNT

pub mount_garbage : (fsid xid procedure : ℕ) (args old mid new : List ℕ) (result : Result Routed RouteFault)
    (fault : XdrFault) → whole (arguments procedure) args ≡ Err fault → mid ≡ old
    → (nothing : List ℕ) → nothing ≡ [] → Routes (Replied (accepted_record xid 4 nothing)) xid mid new result
    → Routes (of_mount fsid xid procedure (whole (arguments procedure) args)) xid old new result
mount_garbage fsid xid procedure args old mid new result fault e same nothing none h =
    rw e (subst (λ (items : List ℕ). Routes (garbage xid) xid items new result) same
    (subst (λ (items : List ℕ). Routes (Replied (accepted_record xid 4 items)) xid mid new result) none h))

-- what was copied from a place on is all that stands there
pub copied_tail : (before : ℕ) (lent mid copied : List ℕ) → lent ≡ mid
    → copied ≡ take (length lent - before) (drop before lent) → copied ≡ drop before mid
copied_tail before lent mid copied same is =
    is ∙ take_all (length lent - before) (drop before lent) (omega (arith, length-drop before lent)) ∙ ap (drop before) same

-- the body was put behind the old items, taken from there, and given as results
pub tail_answered : (fsid xid procedure : ℕ) (args old path mid kept copied zeros new : List ℕ) (before size : ℕ)
    (result : Result Routed RouteFault)
    → whole (arguments procedure) args ≡ Ok path → mid ≡ old ++ body fsid procedure path → before ≡ length old
    → size ≡ length mid → kept ≡ take before mid → copied ≡ drop before mid
    → Routes (Replied (accepted_record xid 0 (take (size - before) (copied ++ zeros)))) xid kept new result
    → Routes (of_mount fsid xid procedure (whole (arguments procedure) args)) xid old new result
tail_answered fsid xid procedure args old path mid kept copied zeros new before size result read gained before_is size_is
    kept_is copied_is h =
    let results = body fsid procedure path in
    let kept_old : kept ≡ old = kept_is ∙ ap (take before) gained ∙ take_at old results before (sym before_is) in
    let copied_body : copied ≡ results = copied_is ∙ ap (drop before) gained ∙ drop_at old results before (sym before_is) in
    let long : length results ≡ size - before = omega (arith, ap length gained, length-append old results) in
    let taken : take (size - before) (copied ++ zeros) ≡ results =
    ap (λ (t : List ℕ). take (size - before) (t ++ zeros)) copied_body ∙ take_at results zeros (size - before) long in
    rw read (subst (λ (items : List ℕ). Routes (Replied (accepted_record xid 0 results)) xid items new result) kept_old
    (subst (λ (items : List ℕ). Routes (Replied (accepted_record xid 0 items)) xid kept new result) taken h))

-- ---- the record

head_size : (m : MessageHead) → message_head.size m ≡ 24
unfolding message_head word
head_size m = refl

-- what is too short for a head has none
short_reading : (fsid : ℕ) (text : List ℕ) (reading : Result (MessageHead × List ℕ) XdrFault)
    → message_head.read text ≡ reading → length text < 24 → with_head fsid reading ≡ Bad Short
short_reading fsid text (Ok m) e short =
    let f = message_head-laws.found text m.0 m.1 e in
    let size = message_head-laws.sized m.0 f.front f.spelled in
    absurd (omega (arith, size, ap length f.parts, length-append f.front m.1, head_size m.0))
short_reading fsid text (Err fault) e short = refl

pub short_is_bad : (fsid : ℕ) (text : List ℕ) → length text < 24 → immediate_reply fsid text ≡ Bad Short
unfolding immediate_reply
short_is_bad fsid text short = short_reading fsid text (message_head.read text) refl short

pub other_is_bad : (fsid : ℕ) (text : List ℕ) → 24 ≤ length text → kind_of text ≢ 0 → immediate_reply fsid text ≡ Bad NotCall
unfolding immediate_reply
other_is_bad fsid text long other =
    let m = head_reads text long in
    let kind = kind_read text _ _ long m in
    rw m (rw (ne_eqb _ 0 (λ e. other (sym kind ∙ e))) refl)

pub routes_record : (immediate : Immediate) (text old new : List ℕ) (xid : ℕ) (result : Result Routed RouteFault)
    → Routes immediate xid old new result → HasXid text xid → RoutesRecord immediate text old new result
routes_record immediate text old new xid (Err (NoMemory x)) h has = (h.0, subst (HasXid text) (sym h.1) has)
routes_record immediate text old new xid (Err (BadRecord fault)) h has = h
routes_record immediate text old new xid (Ok Ready) h has = h
routes_record immediate text old new xid (Ok (Nfs x who lent)) h has = h

pub refused_record : (fsid : ℕ) (text : List ℕ) (result : Result CallHead HeadFault) (fault : HeadFault) → result ≡ Err fault
    → ((result ≡ Err Short) ↔ (length text < 24)) → ((result ≡ Err NotCall) ↔ ((24 ≤ length text) × (kind_of text ≢ 0)))
    → immediate_reply fsid text ≡ Bad fault
refused_record fsid text result Short e short not_call = short_is_bad fsid text (short.0 e)
refused_record fsid text result NotCall e short not_call = let other = not_call.0 e in other_is_bad fsid text other.0 other.1

pub whole_record : (fsid : ℕ) (text tail : List ℕ) (m : MessageHead) → message_head.read text ≡ Ok (m, tail) → m.kind ≡ 0
    → immediate_reply fsid text ≡ behind_head fsid m tail
unfolding immediate_reply
whole_record fsid text tail m e call = rw (e, call) refl
