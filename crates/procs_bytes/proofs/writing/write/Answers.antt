-- The plan is made from what the handle leads to, done by one edit, and told.
use Rattle.std.proofs.Common.{List, ℕ, ◌≡◌, ◌+◌, take, length, Some, Ok, Err, refl, ap, ◌∙◌, subst, arith}
use Rattle.std.specs.Prelude.{⊤, is_ok}
use Rattle.nfs3_types.specs.declared.body.Body.TheVariants.{Write}
use Rattle.nfs3_types.specs.declared.stable_how.StableHow.TheVariants.{FileSync}
use Rattle.fs_rules.specs.Attributes.{wcc_of}
use Rattle.fs_rules.specs.Checks.{find_object, Row}
use Rattle.fs_rules.specs.Edits.{edit_node, write_at}
use Rattle.fs_rules.specs.Sound.{IsSound}
use Rattle.fs_rules.specs.Transfers.{write}
use Rattle.nfs3_types.specs.declared.attributes.Fattr.{Fattr}
use Rattle.fs_shows.specs.Steps.{Edits}
use Rattle.procs_bytes.specs.Writing.{written_attributes}
use Rattle.fs_shows.proofs.Doing.{goes-then, goes-most, up-given}
use Rattle.extent_ops.specs.Ranges.{blocks_in}
use Rattle.procs_object.specs.Finding.{Begins, IsObject, CheckedOn}
use Rattle.procs_object.proofs.Gathering.{halts-by, refuses-by, edits-by, edit-halts-by}
use Rattle.procs_object.proofs.Told.{object-place, object-inode}
use Rattle.file_ops.specs.Given.{MayFill}
use Rattle.procs_bytes.proofs.Behind.{SeesBy, seen-reads, seen-halts}
use Rattle.procs_bytes.proofs.WrittenBack.{front-long, few-blocks, write-halted, write-refused, write-may, write-done}
use Rattle.procs_bytes.proofs.writing.write.Goals as goal

pub returns-in-Err : goal.returns-in-Err
returns-in-Err g c =
    halts-by g.P.Pairs.told c.args.pairs.now c.first.new.pairs 6 (λ t. write t c.args.cred.now c.args.a.now c.args.now)
    (goes-most g.P.Pairs.told c.args.pairs.now c.first.new.pairs 0 6 (omega arith) c.first.ensures.goes) c.in-Err.fault
    (up-given g.P.Pairs.told c.args.pairs.now c.first.new.pairs IsSound (λ t. ⊤) (λ t sound. tt) c.in-Err.fault
    c.in-Err.ensures.fault)

pub returns-in-Err-find_object : goal.returns-in-Err-find_object
returns-in-Err-find_object g c =
    let P : List ℕ → Type 0 = λ bytes.
    CheckedOn g.P.Pairs.told c.first.new.pairs c.find_object.new.pairs (Begins c.in-Ok.begins) IsObject (λ t. find_object t bytes)
    (Err c.in-Err-find_object.halt) in
    seen-halts g.P.Pairs.told c.args.pairs.now c.first.new.pairs c.find_object.new.pairs c.in-Ok.begins
    (λ t. find_object t c.args.a.now.file) c.first.ensures.goes c.find_object.ensures.goes c.in-Ok.ensures.ok 6
    (λ t. write t c.args.cred.now c.args.a.now c.args.now)
    (goes-most g.P.Pairs.told c.args.pairs.now c.find_object.new.pairs 0 6 (omega arith)
    (goes-then g.P.Pairs.told c.args.pairs.now c.first.new.pairs c.find_object.new.pairs 0 0 c.first.ensures.goes
    c.find_object.ensures.goes))
    (λ t status refused. write-halted t c.args.cred.now c.args.a.now c.args.now status refused) c.in-Err-find_object.halt
    (subst P c.as_slice.ensures c.in-Err-find_object.ensures.check)

pub returns-in-Err-plan_of : goal.returns-in-Err-plan_of
returns-in-Err-plan_of g c =
    let P : List ℕ → Type 0 = λ bytes.
    CheckedOn g.P.Pairs.told c.first.new.pairs c.find_object.new.pairs (Begins c.in-Ok.begins) IsObject (λ t. find_object t bytes)
    (Ok c.in-Ok-find_object.o) in
    refuses-by g.P.Pairs.told c.args.pairs.now c.find_object.new.pairs (λ t. write t c.args.cred.now c.args.a.now c.args.now)
    (SeesBy c.in-Ok.begins c.in-Ok-find_object.o (λ t. find_object t c.args.a.now.file))
    (seen-reads g.P.Pairs.told c.args.pairs.now c.first.new.pairs c.find_object.new.pairs c.in-Ok.begins
    (λ t. find_object t c.args.a.now.file) c.first.ensures.goes c.find_object.ensures.goes c.in-Ok.ensures.ok
    c.in-Ok-find_object.o (subst P c.as_slice.ensures c.in-Ok-find_object.ensures.check)) 6 c.in-Err-plan_of.status
    (goes-most g.P.Pairs.told c.args.pairs.now c.find_object.new.pairs 0 6 (omega arith)
    (goes-then g.P.Pairs.told c.args.pairs.now c.first.new.pairs c.find_object.new.pairs 0 0 c.first.ensures.goes
    c.find_object.ensures.goes))
    (λ t sound seen. write-refused t c.args.cred.now c.args.a.now c.args.now c.in-Ok-find_object.o seen.1.0 seen.1.1 seen.1.2
    c.in-Err-plan_of.status
    (c.in-Err-plan_of.ensures.check seen.1.0 (object-place t c.in-Ok-find_object.o seen.1.0 seen.1.2)
    (object-inode t c.in-Ok-find_object.o seen.1.0 seen.1.2)))

pub attributes_behind-after-requires : goal.attributes_behind-after-requires
attributes_behind-after-requires g c = c.in-Ok-plan_of.ensures.reach

pub front-bytes-requires : goal.front-bytes-requires
front-bytes-requires g c = c.in-Ok-plan_of.ensures.count

pub write_at-requires : goal.write_at-requires
write_at-requires g c =
    let p = c.in-Ok-plan_of.plan in
    let long : length c.front-bytes.result.now ≡ p.count =
    front-long c.front-bytes.result.now p.count c.args.a.now.data c.front-bytes.ensures c.in-Ok-plan_of.ensures.count in
    omega (arith, long, c.in-Ok-plan_of.ensures.reach)

pub returns-in-Ok-write_at : goal.returns-in-Ok-write_at
returns-in-Ok-write_at g c =
    let x = c.in-Ok-find_object.o in
    let p = c.in-Ok-plan_of.plan in
    let a = c.args.a.now in
    let long : length c.front-bytes.result.now ≡ p.count =
    front-long c.front-bytes.result.now p.count a.data c.front-bytes.ensures c.in-Ok-plan_of.ensures.count in
    let P : List ℕ → Type 0 = λ bytes.
    CheckedOn g.P.Pairs.told c.first.new.pairs c.find_object.new.pairs (Begins c.in-Ok.begins) IsObject
    (λ t. find_object t bytes) (Ok x) in
    edits-by g.P.Pairs.told c.args.pairs.now c.find_object.new.pairs (λ t. write t c.args.cred.now a c.args.now)
    (SeesBy c.in-Ok.begins x (λ t. find_object t a.file))
    (seen-reads g.P.Pairs.told c.args.pairs.now c.first.new.pairs c.find_object.new.pairs c.in-Ok.begins
    (λ t. find_object t a.file) c.first.ensures.goes c.find_object.ensures.goes c.in-Ok.ensures.ok
    x (subst P c.as_slice.ensures c.in-Ok-find_object.ensures.check)) c.write_at.new.pairs 0 6
    (goes-then g.P.Pairs.told c.args.pairs.now c.first.new.pairs c.find_object.new.pairs 0 0 c.first.ensures.goes
    c.find_object.ensures.goes)
    (goes-most g.P.Pairs.told c.find_object.new.pairs c.write_at.new.pairs
    (blocks_in a.offset (length c.front-bytes.result.now) + 1) 6
    (few-blocks a.offset (length c.front-bytes.result.now) (omega (arith, long, c.in-Ok-plan_of.ensures.few)))
    c.write_at.ensures.goes)
    (MayFill p.fileid)
    (λ t sound seen. write-may t x seen.1.0 seen.1.2 p.fileid c.in-Ok-plan_of.ensures.file c.in-Ok-plan_of.ensures.live
    c.in-Ok-plan_of.ensures.fileid sound)
    (Write (record { file = c.wcc_of.result; count = p.count; committed = FileSync; verifier = c.in-Ok.begins.verifier }))
    (edit_node p.fileid (write_at a.offset (take p.count a.data) c.args.now))
    (λ t sound seen. write-done t c.args.cred.now a c.args.now x seen.1.0 seen.1.1 seen.1.2 p
    (c.in-Ok-plan_of.ensures.check seen.1.0 (object-place t x seen.1.0 seen.1.2) (object-inode t x seen.1.0 seen.1.2))
    c.in-Ok-plan_of.ensures.file c.in-Ok-plan_of.ensures.live c.in-Ok-plan_of.ensures.fileid c.in-Ok-plan_of.ensures.count
    c.wcc_of.result c.in-Ok.begins seen.0
    (c.wcc_of.ensures ∙ ap (λ (at : Fattr). wcc_of (Some x.attributes) (Some at)) c.attributes_behind-after.ensures))
    (subst (λ (bytes : List ℕ). Edits g.P.Pairs.told c.find_object.new.pairs c.write_at.new.pairs (MayFill p.fileid)
    (edit_node p.fileid (write_at a.offset bytes c.args.now))) c.front-bytes.ensures c.in-Ok-write_at.ensures.ok)

pub returns : goal.returns
returns g c =
    let x = c.in-Ok-find_object.o in
    let p = c.in-Ok-plan_of.plan in
    let a = c.args.a.now in
    let long : length c.front-bytes.result.now ≡ p.count =
    front-long c.front-bytes.result.now p.count a.data c.front-bytes.ensures c.in-Ok-plan_of.ensures.count in
    let P : List ℕ → Type 0 = λ bytes.
    CheckedOn g.P.Pairs.told c.first.new.pairs c.find_object.new.pairs (Begins c.in-Ok.begins) IsObject
    (λ t. find_object t bytes) (Ok x) in
    edit-halts-by g.P.Pairs.told c.args.pairs.now c.find_object.new.pairs (λ t. write t c.args.cred.now a c.args.now)
    (SeesBy c.in-Ok.begins x (λ t. find_object t a.file))
    (seen-reads g.P.Pairs.told c.args.pairs.now c.first.new.pairs c.find_object.new.pairs c.in-Ok.begins
    (λ t. find_object t a.file) c.first.ensures.goes c.find_object.ensures.goes c.in-Ok.ensures.ok
    x (subst P c.as_slice.ensures c.in-Ok-find_object.ensures.check)) c.write_at.new.pairs 0 6
    (goes-then g.P.Pairs.told c.args.pairs.now c.first.new.pairs c.find_object.new.pairs 0 0 c.first.ensures.goes
    c.find_object.ensures.goes)
    (goes-most g.P.Pairs.told c.find_object.new.pairs c.write_at.new.pairs
    (blocks_in a.offset (length c.front-bytes.result.now) + 1) 6
    (few-blocks a.offset (length c.front-bytes.result.now) (omega (arith, long, c.in-Ok-plan_of.ensures.few)))
    c.write_at.ensures.goes)
    (MayFill p.fileid)
    (λ t sound seen. write-may t x seen.1.0 seen.1.2 p.fileid c.in-Ok-plan_of.ensures.file c.in-Ok-plan_of.ensures.live
    c.in-Ok-plan_of.ensures.fileid sound)
    (omega arith)
    (λ t sound seen. ap (λ (r : Row). is_ok r) (write-done t c.args.cred.now a c.args.now x seen.1.0 seen.1.1 seen.1.2 p
    (c.in-Ok-plan_of.ensures.check seen.1.0 (object-place t x seen.1.0 seen.1.2) (object-inode t x seen.1.0 seen.1.2))
    c.in-Ok-plan_of.ensures.file c.in-Ok-plan_of.ensures.live c.in-Ok-plan_of.ensures.fileid c.in-Ok-plan_of.ensures.count
    (wcc_of (Some x.attributes) (Some (written_attributes x.attributes a.offset p.count c.args.now))) c.in-Ok.begins seen.0 refl))
    c.in-Err-write_at.fault c.in-Err-write_at.ensures.fault
