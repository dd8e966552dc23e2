-- What the handle leads to is looked at once more.
use Rattle.std.proofs.Common.{◌≡◌, Ok, Err}
use Rattle.fs_rules.specs.Checks.{find_object, find_directory}
use Rattle.fs_rules.specs.Places.{Object}
use Rattle.fs_rules.specs.Sound.{IsSound}
use Rattle.procs_object.specs.Finding.{IsObject}
use Rattle.procs_object.proofs.Places.{halted-behind, directory-looked}
use Rattle.procs_object.proofs.Reading.{reads-more}
use Rattle.procs_object.proofs.Told.{object-place, object-inode}
use Rattle.procs_object.proofs.naming.find_directory.Goals as goal

pub returns-in-Err-clause-goes : goal.returns-in-Err-clause-goes
returns-in-Err-clause-goes g c = c.see.ensures.goes

pub returns-in-Err-clause-check : goal.returns-in-Err-clause-check
returns-in-Err-clause-check g c =
    halted-behind g.P.Pairs.told c.args.pairs.now c.see.new.pairs c.args.handle.now c.args.name.now c.in-Err.halt
    c.in-Err.ensures.check

pub returns-in-Ok-need_place_for-clause-goes : goal.returns-in-Ok-need_place_for-clause-goes
returns-in-Ok-need_place_for-clause-goes g c = c.see.ensures.goes

pub returns-in-Ok-need_place_for-clause-check : goal.returns-in-Ok-need_place_for-clause-check
returns-in-Ok-need_place_for-clause-check g c =
    reads-more g.P.Pairs.told c.args.pairs.now c.see.new.pairs IsSound IsSound
    (λ t. (o : Object) × (find_object t c.args.handle.now ≡ Ok o) × IsObject t c.in-Ok.o o)
    (λ t. (o : Object) × (find_directory t (record { directory = c.args.handle.now; name = c.args.name.now }) ≡ Ok o)
    × IsObject t c.in-Ok.o o) (λ t sound. sound)
    (λ t sound found. (
      found.0,
      directory-looked t c.args.handle.now c.args.name.now found.0 (Ok tt) found.1
          (c.in-Ok-need_place_for.ensures.check found.0 (object-place t c.in-Ok.o found.0 found.2)
          (object-inode t c.in-Ok.o found.0 found.2)),
      found.2,
    ))
    c.in-Ok.ensures.check

pub returns-in-Ok-need_place_for-clause-place : goal.returns-in-Ok-need_place_for-clause-place
returns-in-Ok-need_place_for-clause-place g c = c.in-Ok-need_place_for.ensures.place

pub returns-in-Err-need_place_for-clause-goes : goal.returns-in-Err-need_place_for-clause-goes
returns-in-Err-need_place_for-clause-goes g c = c.see.ensures.goes

pub returns-in-Err-need_place_for-clause-check : goal.returns-in-Err-need_place_for-clause-check
returns-in-Err-need_place_for-clause-check g c =
    reads-more g.P.Pairs.told c.args.pairs.now c.see.new.pairs IsSound IsSound
    (λ t. (o : Object) × (find_object t c.args.handle.now ≡ Ok o) × IsObject t c.in-Ok.o o)
    (λ t. find_directory t (record { directory = c.args.handle.now; name = c.args.name.now }) ≡ Err
    c.in-Err-need_place_for.status) (λ t sound. sound)
    (λ t sound found. directory-looked t c.args.handle.now c.args.name.now found.0 (Err c.in-Err-need_place_for.status) found.1
    (c.in-Err-need_place_for.ensures.check found.0 (object-place t c.in-Ok.o found.0 found.2)
    (object-inode t c.in-Ok.o found.0 found.2)))
    c.in-Ok.ensures.check
