-- The checks are made of what the handle leads to; the size is set, and then the other attributes; or the size waits.
use Rattle.std.proofs.Common.{List, ℕ, Some, Ok, Err, refl, sym, ◌∙◌, ap, subst, arith}
use Rattle.std.specs.Prelude.{is_ok}
use Rattle.nfs3_types.specs.declared.body.Body.TheVariants.{SetAttr}
use Rattle.nfs3_types.specs.declared.status.Status.TheVariants.{NoSpc}
use Rattle.fs_rules.specs.Attributes.{wcc_of}
use Rattle.fs_rules.specs.Checks.{find_object, Row}
use Rattle.fs_rules.specs.Edits.{edit_node, set_attributes, set_size}
use Rattle.fs_rules.specs.Places.{fileid_at}
use Rattle.fs_rules.specs.Setting.{set_attr}
use Rattle.fs_rules.specs.Sound.{IsSound}
use Rattle.fs_shows.specs.declared.halt.Halt.TheVariants.{Refused, Fault}
use Rattle.fs_shows.specs.Views.{IsThere}
use Rattle.fs_shows.proofs.Doing.{goes-then, goes-most}
use Rattle.fs_shows.proofs.Passing.{edits_both}
use Rattle.procs_object.specs.Finding.{IsObject, CheckedOn}
use Rattle.procs_object.proofs.Ending.{halts, refuses}
use Rattle.procs_object.proofs.Gathering.{edit-up-behind, edits-by, edit-halts-by}
use Rattle.procs_object.proofs.Told.{object-place, object-inode}
use Rattle.file_ops.specs.Given.{MaySize}
use Rattle.file_ops.specs.Sizes.{SizesOrWaits}
use Rattle.procs_bytes.proofs.Behind.{Sees}
use Rattle.procs_bytes.proofs.HeldUp.{no-wait, held-up}
use Rattle.procs_bytes.proofs.SizeSet.{size-halted, size-refused, size-no-space, size-may, size-done, size-resizes, sized-still}
use Rattle.procs_bytes.proofs.resizing.set_attr_sized.Goals as goal

pub may_set-requires : goal.may_set-requires
may_set-requires g c = c.requires.sized

pub returns-in-Err : goal.returns-in-Err
returns-in-Err g c =
    let P : List ℕ → Type 0 = λ bytes.
    CheckedOn g.P.Pairs.told c.args.pairs.now c.see.new.pairs IsSound IsObject (λ t. find_object t bytes) (Err c.in-Err.halt) in
    no-wait g.P.Pairs.told c.args.pairs.now c.see.new.pairs 4 (λ t. set_attr t c.args.cred.now c.args.a.now c.args.now)
    (Err c.in-Err.halt)
    (halts g.P.Pairs.told c.args.pairs.now c.see.new.pairs (λ t. find_object t c.args.a.now.object)
    (λ t. set_attr t c.args.cred.now c.args.a.now c.args.now) 4
    (goes-most g.P.Pairs.told c.args.pairs.now c.see.new.pairs 0 4 (omega arith) c.see.ensures.goes)
    (λ t status refused. size-halted t c.args.cred.now c.args.a.now c.args.now status refused) c.in-Err.halt
    (subst P c.as_slice.ensures c.in-Err.ensures.check))

pub returns-in-Err-may_set : goal.returns-in-Err-may_set
returns-in-Err-may_set g c =
    let x = c.in-Ok.o in
    let P : List ℕ → Type 0 = λ bytes.
    CheckedOn g.P.Pairs.told c.args.pairs.now c.see.new.pairs IsSound IsObject (λ t. find_object t bytes) (Ok x) in
    no-wait g.P.Pairs.told c.args.pairs.now c.see.new.pairs 4 (λ t. set_attr t c.args.cred.now c.args.a.now c.args.now)
    (Err (Refused c.in-Err-may_set.status))
    (refuses g.P.Pairs.told c.args.pairs.now c.see.new.pairs (λ t. find_object t c.args.a.now.object)
    (λ t. set_attr t c.args.cred.now c.args.a.now c.args.now) x (subst P c.as_slice.ensures c.in-Ok.ensures.check) 4
    c.in-Err-may_set.status
    (goes-most g.P.Pairs.told c.args.pairs.now c.see.new.pairs 0 4 (omega arith) c.see.ensures.goes)
    (λ t o found is. size-refused t c.args.cred.now c.args.a.now c.args.now x o found is c.in-Err-may_set.status
    (c.in-Err-may_set.ensures.check o (object-place t x o is) (object-inode t x o is))))

pub returns-then-lacks_cuts : goal.returns-then-lacks_cuts
returns-then-lacks_cuts g c =
    let x = c.in-Ok.o in
    let P : List ℕ → Type 0 = λ bytes.
    CheckedOn g.P.Pairs.told c.args.pairs.now c.see.new.pairs IsSound IsObject (λ t. find_object t bytes) (Ok x) in
    no-wait g.P.Pairs.told c.args.pairs.now c.see.new.pairs 4 (λ t. set_attr t c.args.cred.now c.args.a.now c.args.now)
    (Err (Refused NoSpc))
    (refuses g.P.Pairs.told c.args.pairs.now c.see.new.pairs (λ t. find_object t c.args.a.now.object)
    (λ t. set_attr t c.args.cred.now c.args.a.now c.args.now) x (subst P c.as_slice.ensures c.in-Ok.ensures.check) 4 NoSpc
    (goes-most g.P.Pairs.told c.args.pairs.now c.see.new.pairs 0 4 (omega arith) c.see.ensures.goes)
    (λ t o found is. size-no-space t c.args.cred.now c.args.a.now c.args.now x o found is c.args.size c.in-Ok-may_set.field-0
    c.requires.sized (c.in-Ok-may_set.ensures.check o (object-place t x o is) (object-inode t x o is)) (fileid_at x.place)
    c.in-Ok-may_set.ensures.file c.in-Ok-may_set.ensures.live refl (sym c.lacks_cuts.ensures ∙ c.if-lacks_cuts.true)))

pub returns-in-Err-set_size : goal.returns-in-Err-set_size
returns-in-Err-set_size g c =
    let x = c.in-Ok.o in
    let id = c.number_at-id.result in
    let lacks = sym c.lacks_cuts.ensures ∙ c.if-lacks_cuts.false in
    let P : List ℕ → Type 0 = λ bytes.
    CheckedOn g.P.Pairs.told c.args.pairs.now c.see.new.pairs IsSound IsObject (λ t. find_object t bytes) (Ok x) in
    no-wait g.P.Pairs.told c.args.pairs.now c.set_size.new.pairs 4 (λ t. set_attr t c.args.cred.now c.args.a.now c.args.now)
    (Err (Fault c.in-Err-set_size.fault))
    (edit-halts-by g.P.Pairs.told c.args.pairs.now c.see.new.pairs (λ t. set_attr t c.args.cred.now c.args.a.now c.args.now)
    (Sees x (λ t. find_object t c.args.a.now.object)) (subst P c.as_slice.ensures c.in-Ok.ensures.check) c.set_size.new.pairs 0 4
    c.see.ensures.goes
    (goes-most g.P.Pairs.told c.see.new.pairs c.set_size.new.pairs 3 4 (omega arith) c.set_size.ensures.goes) (MaySize id)
    (λ t sound seen. size-may t c.args.cred.now c.args.a.now c.args.now x seen.0 seen.1 seen.2 c.args.size c.in-Ok-may_set.field-0
    c.requires.sized (c.in-Ok-may_set.ensures.check seen.0 (object-place t x seen.0 seen.2) (object-inode t x seen.0 seen.2)) id
    c.in-Ok-may_set.ensures.file c.in-Ok-may_set.ensures.live c.number_at-id.ensures.is sound)
    (omega arith)
    (λ t sound seen. ap (λ (r : Row). is_ok r)
    (size-done t c.args.cred.now c.args.a.now c.args.now x seen.0 seen.1 seen.2 c.args.size
    c.in-Ok-may_set.field-0 c.requires.sized
    (c.in-Ok-may_set.ensures.check seen.0 (object-place t x seen.0 seen.2) (object-inode t x seen.0 seen.2)) id
    c.in-Ok-may_set.ensures.file c.in-Ok-may_set.ensures.live c.number_at-id.ensures.is lacks c.apply_sattr-after.result
    c.apply_sattr-after.ensures (wcc_of (Some x.attributes) (Some c.apply_sattr-after.result)) refl))
    c.in-Err-set_size.fault c.in-Err-set_size.ensures.fault)

pub returns-in-Ok-describe : goal.returns-in-Ok-describe
returns-in-Ok-describe g c =
    let x = c.in-Ok.o in
    let id = c.number_at-id.result in
    let p = c.apply_sattr-after.result in
    let lacks = sym c.lacks_cuts.ensures ∙ c.if-lacks_cuts.false in
    let P : List ℕ → Type 0 = λ bytes.
    CheckedOn g.P.Pairs.told c.args.pairs.now c.see.new.pairs IsSound IsObject (λ t. find_object t bytes) (Ok x) in
    no-wait g.P.Pairs.told c.args.pairs.now c.describe.new.pairs 4 (λ t. set_attr t c.args.cred.now c.args.a.now c.args.now)
    (Ok (SetAttr c.wcc_of.result))
    (edits-by g.P.Pairs.told c.args.pairs.now c.see.new.pairs (λ t. set_attr t c.args.cred.now c.args.a.now c.args.now)
    (Sees x (λ t. find_object t c.args.a.now.object)) (subst P c.as_slice.ensures c.in-Ok.ensures.check) c.describe.new.pairs 0 4
    c.see.ensures.goes
    (goes-then g.P.Pairs.told c.see.new.pairs c.set_size.new.pairs c.describe.new.pairs 3 1 c.set_size.ensures.goes
    c.describe.ensures.goes) (MaySize id)
    (λ t sound seen. size-may t c.args.cred.now c.args.a.now c.args.now x seen.0 seen.1 seen.2 c.args.size c.in-Ok-may_set.field-0
    c.requires.sized (c.in-Ok-may_set.ensures.check seen.0 (object-place t x seen.0 seen.2) (object-inode t x seen.0 seen.2)) id
    c.in-Ok-may_set.ensures.file c.in-Ok-may_set.ensures.live c.number_at-id.ensures.is sound)
    (SetAttr c.wcc_of.result) (λ t. edit_node id (set_attributes p) (edit_node id (set_size c.args.size) t))
    (λ t sound seen. size-done t c.args.cred.now c.args.a.now c.args.now x seen.0 seen.1 seen.2 c.args.size
    c.in-Ok-may_set.field-0 c.requires.sized
    (c.in-Ok-may_set.ensures.check seen.0 (object-place t x seen.0 seen.2) (object-inode t x seen.0 seen.2)) id
    c.in-Ok-may_set.ensures.file c.in-Ok-may_set.ensures.live c.number_at-id.ensures.is lacks p
    c.apply_sattr-after.ensures c.wcc_of.result c.wcc_of.ensures)
    (edits_both g.P.Pairs.told c.see.new.pairs c.set_size.new.pairs c.describe.new.pairs 1 (MaySize id) (IsThere id)
    (edit_node id (set_size c.args.size)) (edit_node id (set_attributes p)) c.describe.ensures.goes
    (subst (SizesOrWaits g.P.Pairs.told c.see.new.pairs c.set_size.new.pairs id c.args.size) c.if-is_set.true
    c.in-Ok-set_size.ensures.ok) (λ t may. sized-still id c.args.size t may) c.in-Ok-describe.ensures.ok))

pub returns-then-is_set : goal.returns-then-is_set
returns-then-is_set g c =
    let x = c.in-Ok.o in
    let id = c.number_at-id.result in
    let p = c.apply_sattr-after.result in
    let lacks = sym c.lacks_cuts.ensures ∙ c.if-lacks_cuts.false in
    let P : List ℕ → Type 0 = λ bytes.
    CheckedOn g.P.Pairs.told c.args.pairs.now c.see.new.pairs IsSound IsObject (λ t. find_object t bytes) (Ok x) in
    no-wait g.P.Pairs.told c.args.pairs.now c.describe.new.pairs 4 (λ t. set_attr t c.args.cred.now c.args.a.now c.args.now)
    (Err (Fault c.in-Err-describe.fault))
    (edit-halts-by g.P.Pairs.told c.args.pairs.now c.see.new.pairs (λ t. set_attr t c.args.cred.now c.args.a.now c.args.now)
    (Sees x (λ t. find_object t c.args.a.now.object)) (subst P c.as_slice.ensures c.in-Ok.ensures.check) c.describe.new.pairs 0 4
    c.see.ensures.goes
    (goes-then g.P.Pairs.told c.see.new.pairs c.set_size.new.pairs c.describe.new.pairs 3 1 c.set_size.ensures.goes
    c.describe.ensures.goes) (MaySize id)
    (λ t sound seen. size-may t c.args.cred.now c.args.a.now c.args.now x seen.0 seen.1 seen.2 c.args.size c.in-Ok-may_set.field-0
    c.requires.sized (c.in-Ok-may_set.ensures.check seen.0 (object-place t x seen.0 seen.2) (object-inode t x seen.0 seen.2)) id
    c.in-Ok-may_set.ensures.file c.in-Ok-may_set.ensures.live c.number_at-id.ensures.is sound)
    (omega arith)
    (λ t sound seen. ap (λ (r : Row). is_ok r)
    (size-done t c.args.cred.now c.args.a.now c.args.now x seen.0 seen.1 seen.2 c.args.size
    c.in-Ok-may_set.field-0 c.requires.sized
    (c.in-Ok-may_set.ensures.check seen.0 (object-place t x seen.0 seen.2) (object-inode t x seen.0 seen.2)) id
    c.in-Ok-may_set.ensures.file c.in-Ok-may_set.ensures.live c.number_at-id.ensures.is lacks p
    c.apply_sattr-after.ensures (wcc_of (Some x.attributes) (Some p)) refl))
    c.in-Err-describe.fault
    (edit-up-behind g.P.Pairs.told c.see.new.pairs c.set_size.new.pairs c.describe.new.pairs 3 1 (MaySize id) (IsThere id)
    (edit_node id (set_size c.args.size)) c.set_size.ensures.goes c.describe.ensures.goes
    (subst (SizesOrWaits g.P.Pairs.told c.see.new.pairs c.set_size.new.pairs id c.args.size) c.if-is_set.true
    c.in-Ok-set_size.ensures.ok) (λ t may. sized-still id c.args.size t may) c.in-Err-describe.fault
    c.in-Err-describe.ensures.fault))

pub returns : goal.returns
returns g c =
    let x = c.in-Ok.o in
    let id = c.number_at-id.result in
    let lacks = sym c.lacks_cuts.ensures ∙ c.if-lacks_cuts.false in
    let P : List ℕ → Type 0 = λ bytes.
    CheckedOn g.P.Pairs.told c.args.pairs.now c.see.new.pairs IsSound IsObject (λ t. find_object t bytes) (Ok x) in
    held-up g.P.Pairs.told c.args.pairs.now c.see.new.pairs c.set_size.new.pairs 0 4
    (λ t. set_attr t c.args.cred.now c.args.a.now c.args.now) (λ t. find_object t c.args.a.now.object) x id c.args.size
    c.number_at-id.ensures.fits c.see.ensures.goes
    (goes-most g.P.Pairs.told c.see.new.pairs c.set_size.new.pairs 3 4 (omega arith) c.set_size.ensures.goes)
    (subst P c.as_slice.ensures c.in-Ok.ensures.check)
    (λ t o found is. size-resizes t c.args.cred.now c.args.a.now c.args.now x o found is c.args.size c.in-Ok-may_set.field-0
    c.requires.sized (c.in-Ok-may_set.ensures.check o (object-place t x o is) (object-inode t x o is)) id
    c.in-Ok-may_set.ensures.file c.in-Ok-may_set.ensures.live c.number_at-id.ensures.is lacks c.apply_sattr-after.result
    c.apply_sattr-after.ensures)
    (subst (SizesOrWaits g.P.Pairs.told c.see.new.pairs c.set_size.new.pairs id c.args.size) c.if-is_set.false
    c.in-Ok-set_size.ensures.ok)
