-- The first record is read, and what the handle leads to by it, and both are told.
use Rattle.std.proofs.Common.{List, ℕ, Ok, Err, sym, ◌∙◌, subst}
use Rattle.std.specs.Prelude.{⊤}
use Rattle.nfs3_types.specs.declared.status.Status.TheVariants.{Inval}
use Rattle.fs_rules.specs.Checks.{find_object, told}
use Rattle.fs_rules.specs.Sound.{IsSound}
use Rattle.fs_rules.specs.Transfers.{commit}
use Rattle.fs_shows.proofs.Doing.{goes-then, up-given}
use Rattle.procs_object.specs.Finding.{Begins, IsObject, CheckedOn}
use Rattle.procs_object.proofs.Gathering.{halts-by, refuses-by, tells-by}
use Rattle.procs_bytes.proofs.Behind.{SeesBy, seen-reads, seen-halts}
use Rattle.procs_bytes.proofs.Transferred.{commit-refused, commit-inval, commit-told}
use Rattle.procs_bytes.proofs.reading.commit.Goals as goal

pub returns-in-Err : goal.returns-in-Err
returns-in-Err g c =
    halts-by g.P.Pairs.told c.args.pairs.now c.first.new.pairs 0 (λ t. told t (commit t c.args.a.now)) c.first.ensures.goes
    c.in-Err.fault
    (up-given g.P.Pairs.told c.args.pairs.now c.first.new.pairs IsSound (λ t. ⊤) (λ t sound. tt) c.in-Err.fault
    c.in-Err.ensures.fault)

pub returns-in-Err-find_object : goal.returns-in-Err-find_object
returns-in-Err-find_object g c =
    let P : List ℕ → Type 0 = λ bytes.
    CheckedOn g.P.Pairs.told c.first.new.pairs c.find_object.new.pairs (Begins c.in-Ok.begins) IsObject (λ t. find_object t bytes)
    (Err c.in-Err-find_object.halt) in
    seen-halts g.P.Pairs.told c.args.pairs.now c.first.new.pairs c.find_object.new.pairs c.in-Ok.begins
    (λ t. find_object t c.args.a.now.file) c.first.ensures.goes c.find_object.ensures.goes c.in-Ok.ensures.ok 0
    (λ t. told t (commit t c.args.a.now))
    (goes-then g.P.Pairs.told c.args.pairs.now c.first.new.pairs c.find_object.new.pairs 0 0 c.first.ensures.goes
    c.find_object.ensures.goes)
    (λ t status refused. commit-refused t c.args.a.now status refused) c.in-Err-find_object.halt
    (subst P c.as_slice.ensures c.in-Err-find_object.ensures.check)

pub returns-then-is_file : goal.returns-then-is_file
returns-then-is_file g c =
    let P : List ℕ → Type 0 = λ bytes.
    CheckedOn g.P.Pairs.told c.first.new.pairs c.find_object.new.pairs (Begins c.in-Ok.begins) IsObject (λ t. find_object t bytes)
    (Ok c.in-Ok-find_object.o) in
    tells-by g.P.Pairs.told c.args.pairs.now c.find_object.new.pairs (λ t. told t (commit t c.args.a.now))
    (SeesBy c.in-Ok.begins c.in-Ok-find_object.o (λ t. find_object t c.args.a.now.file))
    (seen-reads g.P.Pairs.told c.args.pairs.now c.first.new.pairs c.find_object.new.pairs c.in-Ok.begins
    (λ t. find_object t c.args.a.now.file) c.first.ensures.goes c.find_object.ensures.goes c.in-Ok.ensures.ok
    c.in-Ok-find_object.o (subst P c.as_slice.ensures c.in-Ok-find_object.ensures.check)) 0 _
    (goes-then g.P.Pairs.told c.args.pairs.now c.first.new.pairs c.find_object.new.pairs 0 0 c.first.ensures.goes
    c.find_object.ensures.goes)
    (λ t sound seen. commit-told t c.args.a.now c.in-Ok-find_object.o seen.1.0 seen.1.1 seen.1.2 c.in-Ok.begins c.wcc_of.result
    c.wcc_of.ensures seen.0 (sym c.is_file.ensures ∙ c.if-is_file.true))

pub returns : goal.returns
returns g c =
    let P : List ℕ → Type 0 = λ bytes.
    CheckedOn g.P.Pairs.told c.first.new.pairs c.find_object.new.pairs (Begins c.in-Ok.begins) IsObject (λ t. find_object t bytes)
    (Ok c.in-Ok-find_object.o) in
    refuses-by g.P.Pairs.told c.args.pairs.now c.find_object.new.pairs (λ t. told t (commit t c.args.a.now))
    (SeesBy c.in-Ok.begins c.in-Ok-find_object.o (λ t. find_object t c.args.a.now.file))
    (seen-reads g.P.Pairs.told c.args.pairs.now c.first.new.pairs c.find_object.new.pairs c.in-Ok.begins
    (λ t. find_object t c.args.a.now.file) c.first.ensures.goes c.find_object.ensures.goes c.in-Ok.ensures.ok
    c.in-Ok-find_object.o (subst P c.as_slice.ensures c.in-Ok-find_object.ensures.check)) 0 Inval
    (goes-then g.P.Pairs.told c.args.pairs.now c.first.new.pairs c.find_object.new.pairs 0 0 c.first.ensures.goes
    c.find_object.ensures.goes)
    (λ t sound seen. commit-inval t c.args.a.now c.in-Ok-find_object.o seen.1.0 seen.1.1 seen.1.2
    (sym c.is_file.ensures ∙ c.if-is_file.false))
