use Rattle.std.proofs.Common.{◌≡◌, ◌∙◌, ap, sym, Some, None}
use Rattle.std.specs.Prelude.{⊤}
use Rattle.pairs.specs.declared.at.At.TheVariants.{Live}
use Rattle.fs_keys.specs.declared.key_parts.KeyParts.TheVariants.{First}
use Rattle.fs_keys.specs.Values.{first_in}
use Rattle.fs_shows.specs.Shows.{first_of}
use Rattle.fs_shows.proofs.Doing.{up-read}
use Rattle.inode_ops.proofs.Loading.{odd-held, odd-said, said-reads, first-holds}
use Rattle.inode_ops.proofs.lanes.first.Goals as goal

pub returns-in-Err-clause-fault : goal.returns-in-Err-clause-fault
returns-in-Err-clause-fault g c = up-read g.P.Pairs.told c.args.pairs.now c.get_row.new.pairs
    (λ t. ⊤) c.in-Err.fault c.in-Err.ensures.fault

pub returns-in-None-clause-fault : goal.returns-in-None-clause-fault
returns-in-None-clause-fault g c =
    odd-held g.P.Pairs.told c.args.pairs.now c.get_row.new.pairs first_in Live First c.in-Ok.found c.in-Ok.ensures.ok
    (λ t. ⊤) first_of first-holds c.in-None.is

pub returns-in-Some-first_of-clause-ok : goal.returns-in-Some-first_of-clause-ok
returns-in-Some-first_of-clause-ok g c =
    let says : first_in c.in-Some.value ≡ Some c.in-Some-first_of.row = ap first_in (sym c.as_slice.ensures)
    ∙ sym c.in-Some-first_of.ensures in
    said-reads g.P.Pairs.told c.args.pairs.now c.get_row.new.pairs first_in Live First c.in-Ok.found c.in-Ok.ensures.ok
    (λ t. ⊤) first_of c.in-Some.value c.in-Some-first_of.row first-holds c.in-Some.is says

pub returns-clause-fault : goal.returns-clause-fault
returns-clause-fault g c =
    let says : first_in c.in-Some.value ≡ None = ap first_in (sym c.as_slice.ensures) ∙ sym c.in-None-first_of.ensures in
    odd-said g.P.Pairs.told c.args.pairs.now c.get_row.new.pairs first_in Live First c.in-Ok.found c.in-Ok.ensures.ok
    (λ t. ⊤) first_of c.in-Some.value first-holds c.in-Some.is says
