-- What the handle leads to is a file that the caller may read, and what it has of the range is told.
use Rattle.std.proofs.Common.{List, ℕ, ◌≡◌, take, drop, Ok, Err, sym, ◌∙◌, subst}
use Rattle.nfs3_types.specs.declared.status.Status.TheVariants.{Inval, Acces}
use Rattle.fs_rules.specs.Checks.{find_object, told}
use Rattle.fs_rules.specs.Places.{content_at}
use Rattle.fs_rules.specs.Sound.{IsSound}
use Rattle.fs_rules.specs.Transfers.{read}
use Rattle.fs_rules.specs.Tree.{Tree}
use Rattle.fs_shows.specs.Views.{place_in}
use Rattle.fs_shows.proofs.Doing.{goes-then}
use Rattle.procs_object.specs.Finding.{IsObject, CheckedOn}
use Rattle.procs_object.proofs.Ending.{halts, refuses}
use Rattle.procs_object.proofs.Gathering.{gathers, gathers-up, halts-by, tells-by}
use Rattle.file_ops.specs.Given.{HasFile}
use Rattle.procs_bytes.proofs.Behind.{Sees}
use Rattle.procs_bytes.proofs.Transferred.{read-refused, read-inval, read-acces, read-has, read-told, read-body}
use Rattle.procs_bytes.proofs.reading.read.Goals as goal

pub returns-in-Err : goal.returns-in-Err
returns-in-Err g c =
    let P : List ℕ → Type 0 = λ bytes.
    CheckedOn g.P.Pairs.told c.args.pairs.now c.see.new.pairs IsSound IsObject (λ t. find_object t bytes) (Err c.in-Err.halt) in
    halts g.P.Pairs.told c.args.pairs.now c.see.new.pairs (λ t. find_object t c.args.a.now.file)
    (λ t. told t (read t c.args.cred.now c.args.a.now)) 0 c.see.ensures.goes
    (λ t status refused. read-refused t c.args.cred.now c.args.a.now status refused) c.in-Err.halt
    (subst P c.as_slice.ensures c.in-Err.ensures.check)

pub returns : goal.returns
returns g c =
    let P : List ℕ → Type 0 = λ bytes.
    CheckedOn g.P.Pairs.told c.args.pairs.now c.see.new.pairs IsSound IsObject (λ t. find_object t bytes) (Ok c.in-Ok.o) in
    refuses g.P.Pairs.told c.args.pairs.now c.see.new.pairs (λ t. find_object t c.args.a.now.file)
    (λ t. told t (read t c.args.cred.now c.args.a.now)) c.in-Ok.o (subst P c.as_slice.ensures c.in-Ok.ensures.check) 0 Inval
    c.see.ensures.goes
    (λ t o found is. read-inval t c.args.cred.now c.args.a.now c.in-Ok.o o found is (sym c.is_file.ensures ∙ c.if-is_file.false))

pub returns-then-is_file : goal.returns-then-is_file
returns-then-is_file g c =
    let P : List ℕ → Type 0 = λ bytes.
    CheckedOn g.P.Pairs.told c.args.pairs.now c.see.new.pairs IsSound IsObject (λ t. find_object t bytes) (Ok c.in-Ok.o) in
    refuses g.P.Pairs.told c.args.pairs.now c.see.new.pairs (λ t. find_object t c.args.a.now.file)
    (λ t. told t (read t c.args.cred.now c.args.a.now)) c.in-Ok.o (subst P c.as_slice.ensures c.in-Ok.ensures.check) 0 Acces
    c.see.ensures.goes
    (λ t o found is. read-acces t c.args.cred.now c.args.a.now c.in-Ok.o o found is (sym c.is_file.ensures ∙ c.if-is_file.true)
    (sym c.may_see.ensures ∙ c.if-may_see.false))

pub returns-in-Ok-read_at : goal.returns-in-Ok-read_at
returns-in-Ok-read_at g c =
    let file = sym c.is_file.ensures ∙ c.if-is_file.true in
    let P : List ℕ → Type 0 = λ bytes.
    CheckedOn g.P.Pairs.told c.args.pairs.now c.see.new.pairs IsSound IsObject (λ t. find_object t bytes) (Ok c.in-Ok.o) in
    let R : Tree → Type 0 = λ t.
    c.in-Ok-read_at.data ≡ take c.read_count-count.result (drop c.args.a.now.offset
    (content_at t (place_in c.view_of-view.result c.fileid.result))) in
    tells-by g.P.Pairs.told c.args.pairs.now c.read_at.new.pairs (λ t. told t (read t c.args.cred.now c.args.a.now))
    (λ t. Sees c.in-Ok.o (λ t. find_object t c.args.a.now.file) t × R t)
    (gathers g.P.Pairs.told c.args.pairs.now c.see.new.pairs c.read_at.new.pairs
    (Sees c.in-Ok.o (λ t. find_object t c.args.a.now.file)) (HasFile c.view_of-view.result c.fileid.result) c.read_at.ensures.goes
    (subst P c.as_slice.ensures c.in-Ok.ensures.check)
    (λ t sound seen. read-has t c.args.cred.now c.args.a.now c.in-Ok.o seen.0 seen.1 seen.2 file c.view_of-view.result
    c.fileid.result
    c.view_of-view.ensures c.fileid.ensures) R c.in-Ok-read_at.ensures.ok)
    0 (read-body c.in-Ok.o.attributes c.read_count-count.result c.ends.result c.in-Ok-read_at.data)
    (goes-then g.P.Pairs.told c.args.pairs.now c.see.new.pairs c.read_at.new.pairs 0 0 c.see.ensures.goes c.read_at.ensures.goes)
    (λ t sound got. read-told t c.args.cred.now c.args.a.now c.in-Ok.o got.0.0 got.0.1 got.0.2 file c.view_of-view.result
    c.fileid.result c.view_of-view.ensures c.fileid.ensures c.read_count-count.result c.ends.result c.in-Ok-read_at.data
    (sym c.may_see.ensures ∙ c.if-may_see.true) c.read_count-count.ensures c.ends.ensures got.1)

pub returns-then-may_see : goal.returns-then-may_see
returns-then-may_see g c =
    let file = sym c.is_file.ensures ∙ c.if-is_file.true in
    let P : List ℕ → Type 0 = λ bytes.
    CheckedOn g.P.Pairs.told c.args.pairs.now c.see.new.pairs IsSound IsObject (λ t. find_object t bytes) (Ok c.in-Ok.o) in
    halts-by g.P.Pairs.told c.args.pairs.now c.read_at.new.pairs 0 (λ t. told t (read t c.args.cred.now c.args.a.now))
    (goes-then g.P.Pairs.told c.args.pairs.now c.see.new.pairs c.read_at.new.pairs 0 0 c.see.ensures.goes c.read_at.ensures.goes)
    c.in-Err-read_at.fault
    (gathers-up g.P.Pairs.told c.args.pairs.now c.see.new.pairs c.read_at.new.pairs
    (Sees c.in-Ok.o (λ t. find_object t c.args.a.now.file)) (HasFile c.view_of-view.result c.fileid.result) c.read_at.ensures.goes
    (subst P c.as_slice.ensures c.in-Ok.ensures.check)
    (λ t sound seen. read-has t c.args.cred.now c.args.a.now c.in-Ok.o seen.0 seen.1 seen.2 file c.view_of-view.result
    c.fileid.result
    c.view_of-view.ensures c.fileid.ensures) 0 c.see.ensures.goes c.in-Err-read_at.fault c.in-Err-read_at.ensures.fault)
