-- The first record is read, and then what the handle leads to by it.
use Rattle.std.proofs.Common.{◌≡◌, ℕ, List, Ok, Err}
use Rattle.std.specs.Prelude.{⊤}
use Rattle.fs_rules.specs.Checks.{find_object}
use Rattle.fs_rules.specs.Places.{Object}
use Rattle.fs_rules.specs.Sound.{IsSound}
use Rattle.pairs.specs.Told.{PairsTold, Goes}
use Rattle.fs_keys.specs.declared.rows.First.{First}
use Rattle.fs_shows.specs.declared.halt.Halt.{Halt}
use Rattle.fs_shows.specs.declared.halt.Halt.TheVariants.{Refused, Fault}
use Rattle.fs_shows.specs.Shows.{first_of}
use Rattle.fs_shows.specs.Steps.{Reads}
use Rattle.fs_shows.proofs.Doing.{goes-then, up-given}
use Rattle.procs_object.specs.declared.object.Found.{Found}
use Rattle.procs_object.specs.Finding.{Begins, CheckedOn, IsBegun, IsObject}
use Rattle.procs_object.proofs.Reading.{begins-then, reads-more, reads-then}
use Rattle.procs_object.proofs.object.look.Goals as goal

module _ {S W : Type 0} (told : PairsTold S W) (old mid new : S) (row : First) (handle : List ℕ) (before : Goes told old mid 0)
    (goes : Goes told mid new 0) (first : Reads told old mid (λ t. ⊤) (λ t. first_of t ≡ row)) where
  begun-halts : (halt : Halt) → CheckedOn told mid new (Begins row) IsObject (λ t. find_object t handle) (Err halt)
      → CheckedOn told old new IsSound IsBegun (λ t. find_object t handle) (Err halt)
  begun-halts (Refused status) then =
      begins-then told old mid new row IsObject (λ t. find_object t handle) (Err (Refused status)) before goes first then
  begun-halts (Fault fault) then =
      begins-then told old mid new row IsObject (λ t. find_object t handle) (Err (Fault fault)) before goes first then

  begun-found : (x : Found) → CheckedOn told mid new (Begins row) IsObject (λ t. find_object t handle) (Ok x)
      → CheckedOn told old new IsSound IsBegun (λ t. find_object t handle) (Ok (record { begins = row; found = x }))
  begun-found x then =
      reads-more told old new IsSound IsSound
      (λ t. (first_of t ≡ row) × ((o : Object) × (find_object t handle ≡ Ok o) × IsObject t x o))
      (λ t. (o : Object) × (find_object t handle ≡ Ok o) × IsBegun t (record { begins = row; found = x }) o) (λ t sound. sound)
      (λ t sound both. (both.1.0, both.1.1, record { object = both.1.2; first = both.0 }))
      (reads-then told old mid new IsSound (λ t. first_of t ≡ row) (Begins row) goes
      (reads-more told old mid IsSound (λ t. ⊤) (λ t. first_of t ≡ row) (λ t. first_of t ≡ row) (λ t sound. tt)
      (λ t sound is. is) first)
      (λ t sound is. record { sound = sound; first = is }) (λ t. (o : Object) × (find_object t handle ≡ Ok o) × IsObject t x o)
      then)

pub returns-in-Err-clause-goes : goal.returns-in-Err-clause-goes
returns-in-Err-clause-goes g c = c.first.ensures.goes

pub returns-in-Err-clause-check : goal.returns-in-Err-clause-check
returns-in-Err-clause-check g c =
    up-given g.P.Pairs.told c.args.pairs.now c.first.new.pairs IsSound (λ t. ⊤)
    (λ t sound. tt) c.in-Err.fault c.in-Err.ensures.fault

pub returns-in-Ok-find_object-clause-goes : goal.returns-in-Ok-find_object-clause-goes
returns-in-Ok-find_object-clause-goes g c =
    goes-then g.P.Pairs.told c.args.pairs.now c.first.new.pairs c.find_object.new.pairs 0 0 c.first.ensures.goes
    c.find_object.ensures.goes

pub returns-in-Ok-find_object-clause-check : goal.returns-in-Ok-find_object-clause-check
returns-in-Ok-find_object-clause-check g c =
    begun-found g.P.Pairs.told c.args.pairs.now c.first.new.pairs c.find_object.new.pairs c.in-Ok.begins c.args.handle.now
    c.first.ensures.goes c.find_object.ensures.goes c.in-Ok.ensures.ok c.in-Ok-find_object.found
    c.in-Ok-find_object.ensures.check

pub returns-in-Err-find_object-clause-goes : goal.returns-in-Err-find_object-clause-goes
returns-in-Err-find_object-clause-goes g c =
    goes-then g.P.Pairs.told c.args.pairs.now c.first.new.pairs c.find_object.new.pairs 0 0 c.first.ensures.goes
    c.find_object.ensures.goes

pub returns-in-Err-find_object-clause-check : goal.returns-in-Err-find_object-clause-check
returns-in-Err-find_object-clause-check g c =
    begun-halts g.P.Pairs.told c.args.pairs.now c.first.new.pairs c.find_object.new.pairs c.in-Ok.begins c.args.handle.now
    c.first.ensures.goes c.find_object.ensures.goes c.in-Ok.ensures.ok c.in-Err-find_object.halt
    c.in-Err-find_object.ensures.check
