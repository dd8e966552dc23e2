-- What is found is told.
use Rattle.std.proofs.Common.{◌≡◌, ◌∙◌, ap, Ok}
use Rattle.nfs3_types.specs.declared.body.Body.{Body}
use Rattle.fs_rules.specs.Checks.{told}
use Rattle.fs_rules.specs.Looking.{lookup}
use Rattle.procs_object.proofs.Gathering.{tells-by}
use Rattle.procs_names.specs.Naming.{IsTold}
use Rattle.procs_names.proofs.Knowing.{check-ends}
use Rattle.procs_names.proofs.Looked.{told_not, told_of}
use Rattle.procs_names.proofs.looking.lookup.Goals as goal

pub returns-in-Ok : goal.returns-in-Ok
returns-in-Ok g c =
    tells-by g.P.Pairs.told c.args.pairs.now c.find_lookup.new.pairs (λ t. told t (lookup t c.args.cred.now c.args.a.now))
    (λ t. (body : Body) × (lookup t c.args.cred.now c.args.a.now ≡ Ok body) × IsTold t c.in-Ok.body body)
    c.in-Ok.ensures.check 0 c.in-Ok.body c.find_lookup.ensures.goes
    (λ t sound known. told_of t (lookup t c.args.cred.now c.args.a.now) c.in-Ok.body
    (known.1 ∙ ap (λ (b : Body). Ok b) known.2))

pub returns-in-Err : goal.returns-in-Err
returns-in-Err g c =
    check-ends g.P.Pairs.told c.args.pairs.now c.find_lookup.new.pairs IsTold (λ t. lookup t c.args.cred.now c.args.a.now)
    (λ t. told t (lookup t c.args.cred.now c.args.a.now)) 0 c.find_lookup.ensures.goes
    (λ t status refused. told_not t (lookup t c.args.cred.now c.args.a.now) status refused) c.in-Err.halt c.in-Err.ensures.check
