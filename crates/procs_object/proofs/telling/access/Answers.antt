-- What the handle leads to is told, with what of it is allowed.
use Rattle.std.proofs.Common.{List, ℕ, Ok, Err, subst}
use Rattle.std.specs.Prelude.{bit_and}
use Rattle.fs_rules.specs.Checks.{find_object, told}
use Rattle.fs_rules.specs.Sound.{IsSound}
use Rattle.fs_rules.specs.Telling.{access}
use Rattle.procs_object.specs.Finding.{IsObject, CheckedOn}
use Rattle.procs_object.proofs.Ending.{halts, tells}
use Rattle.procs_object.proofs.Told.{access-refused, access-told, access-body, object-place, object-inode}
use Rattle.procs_object.proofs.telling.access.Goals as goal

pub returns-in-Ok : goal.returns-in-Ok
returns-in-Ok g c =
    let P : List ℕ → Type 0 = λ bytes.
    CheckedOn g.P.Pairs.told c.args.pairs.now c.see.new.pairs IsSound IsObject (λ t. find_object t bytes) (Ok c.in-Ok.o) in
    tells g.P.Pairs.told c.args.pairs.now c.see.new.pairs (λ t. find_object t c.args.a.now.object)
    (λ t. told t (access t c.args.cred.now c.args.a.now)) c.in-Ok.o (subst P c.as_slice.ensures c.in-Ok.ensures.check) 0
    (access-body c.in-Ok.o.attributes (bit_and c.args.a.now.access c.allowed.result)) c.see.ensures.goes
    (λ t o found is. access-told t c.args.cred.now c.args.a.now c.in-Ok.o o c.allowed.result found is
    (c.allowed.ensures o (object-place t c.in-Ok.o o is) (object-inode t c.in-Ok.o o is)))

pub returns-in-Err : goal.returns-in-Err
returns-in-Err g c =
    let P : List ℕ → Type 0 = λ bytes.
    CheckedOn g.P.Pairs.told c.args.pairs.now c.see.new.pairs IsSound IsObject (λ t. find_object t bytes) (Err c.in-Err.halt) in
    halts g.P.Pairs.told c.args.pairs.now c.see.new.pairs (λ t. find_object t c.args.a.now.object)
    (λ t. told t (access t c.args.cred.now c.args.a.now)) 0 c.see.ensures.goes
    (λ t status refused. access-refused t c.args.cred.now c.args.a.now status refused) c.in-Err.halt
    (subst P c.as_slice.ensures c.in-Err.ensures.check)
