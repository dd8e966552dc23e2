-- The directory is found by the first record, then its entries, and then the root.
use Rattle.std.proofs.Common.{◌≡◌, ◌∙◌, ℕ, ◌+◌, ◌^◌, ◌≤◌, List, Ok, Err, length, map, sym, ap, subst, arith}
use Rattle.fs_rules.specs.declared.name_entry.NameEntry.{NameEntry}
use Rattle.fs_rules.specs.declared.place.Place.TheVariants.{Live}
use Rattle.fs_rules.specs.Checks.{find_object}
use Rattle.fs_rules.specs.Limits.{longest_name}
use Rattle.fs_rules.specs.Places.{leads_to, snapshot_entry}
use Rattle.fs_rules.specs.Sound.{IsSound}
use Rattle.fs_rules.specs.Tree.{Tree}
use Rattle.fs_keys.specs.declared.rows.First.{First}
use Rattle.fs_shows.proofs.Doing.{goes-then}
use Rattle.procs_object.specs.Finding.{IsBegun, IsLed}
use Rattle.procs_object.proofs.Gathering.{gathers, gathers-up}
use Rattle.procs_object.proofs.Reading.{odd-by, reads-more}
use Rattle.procs_names.proofs.Dropped.{drop-before}
use Rattle.procs_names.proofs.Knowing.{IsBegunAt, check-halted, checked-as}
use Rattle.procs_mkdir.specs.Taking.{IsTaking, new_check, take_check}
use Rattle.procs_mkdir.proofs.Snapped.{root-is, sum-low, take-asks, take-halted}
use Rattle.procs_mkdir.proofs.taking.find_taking.Goals as goal

pub returns-in-Err-clause-goes : goal.returns-in-Err-clause-goes
returns-in-Err-clause-goes g c = c.look.ensures.goes

pub returns-in-Err-clause-check : goal.returns-in-Err-clause-check
returns-in-Err-clause-check g c =
    check-halted g.P.Pairs.told IsBegun IsTaking (λ t. find_object t c.args.a.now.place.directory)
    (λ t. take_check t c.args.cred.now c.args.a.now) c.args.pairs.now c.look.new.pairs IsSound
    (λ t status refused. take-halted t c.args.cred.now c.args.a.now status refused) c.in-Err.halt
    (checked-as g.P.Pairs.told c.args.pairs.now c.look.new.pairs IsSound IsBegun (λ directory t. find_object t directory)
    (Err c.in-Err.halt) c.as_slice.ensures c.in-Err.ensures.check)

pub returns-in-Err-snapshots-clause-goes : goal.returns-in-Err-snapshots-clause-goes
returns-in-Err-snapshots-clause-goes g c =
    goes-then g.P.Pairs.told c.args.pairs.now c.look.new.pairs c.snapshots.new.pairs 0 0 c.look.ensures.goes
    c.snapshots.ensures.goes

pub returns-in-Err-snapshots-clause-check : goal.returns-in-Err-snapshots-clause-check
returns-in-Err-snapshots-clause-check g c =
    gathers-up g.P.Pairs.told c.args.pairs.now c.look.new.pairs c.snapshots.new.pairs
    (IsBegunAt c.args.a.now.place.directory c.in-Ok.x) IsSound c.snapshots.ensures.goes
    (checked-as g.P.Pairs.told c.args.pairs.now c.look.new.pairs IsSound IsBegun (λ directory t. find_object t directory)
    (Ok c.in-Ok.x) c.as_slice.ensures c.in-Ok.ensures.check)
    (λ t sound known. sound) 0 c.look.ensures.goes c.in-Err-snapshots.fault c.in-Err-snapshots.ensures.fault

pub returns-in-Err-check_new-clause-goes : goal.returns-in-Err-check_new-clause-goes
returns-in-Err-check_new-clause-goes g c =
    goes-then g.P.Pairs.told c.args.pairs.now c.look.new.pairs c.snapshots.new.pairs 0 0 c.look.ensures.goes
    c.snapshots.ensures.goes

pub returns-in-Err-check_new-clause-check : goal.returns-in-Err-check_new-clause-check
returns-in-Err-check_new-clause-check g c =
    let a = c.args.a.now in
    let cred = c.args.cred.now in
    let x = c.in-Ok.x in
    let R : Tree → Type 0 = λ t. map snapshot_entry t.snapshots ≡ c.in-Ok-snapshots.entries in
    reads-more g.P.Pairs.told c.args.pairs.now c.snapshots.new.pairs IsSound IsSound
    (λ t. IsBegunAt a.place.directory x t × R t)
    (λ t. take_check t cred a ≡ Err c.in-Err-check_new.status) (λ t sound. sound)
    (λ t sound known. take-asks t cred a known.0.0 known.0.1 c.in-Ok-snapshots.entries x.begins known.1 known.0.2.first
    ∙ ap (λ (n : List ℕ). new_check cred n c.in-Ok-snapshots.entries x.begins.epoch) (sym c.as_slice-2.ensures)
    ∙ ap (λ (es : List NameEntry). new_check cred c.as_slice-2.result.now es x.begins.epoch) (sym c.as_slice-3.ensures)
    ∙ sym c.in-Err-check_new.ensures.check)
    (gathers g.P.Pairs.told c.args.pairs.now c.look.new.pairs c.snapshots.new.pairs (IsBegunAt a.place.directory x) IsSound
    c.snapshots.ensures.goes
    (checked-as g.P.Pairs.told c.args.pairs.now c.look.new.pairs IsSound IsBegun (λ directory t. find_object t directory)
    (Ok x) c.as_slice.ensures c.in-Ok.ensures.check)
    (λ t sound known. sound) R c.in-Ok-snapshots.ensures.ok)

pub returns-in-None-clause-goes : goal.returns-in-None-clause-goes
returns-in-None-clause-goes g c =
    goes-then g.P.Pairs.told c.args.pairs.now c.look.new.pairs c.snapshots.new.pairs 0 0 c.look.ensures.goes
    c.snapshots.ensures.goes

pub returns-in-None-clause-check : goal.returns-in-None-clause-check
returns-in-None-clause-check g c =
    let a = c.args.a.now in
    let x = c.in-Ok.x in
    let high : 2 ^ 64 ≤ x.begins.fsid + x.begins.epoch = omega arith in
    odd-by g.P.Pairs.told c.args.pairs.now c.snapshots.new.pairs IsSound
    (λ t. IsBegunAt a.place.directory x t × (map snapshot_entry t.snapshots ≡ c.in-Ok-snapshots.entries))
    (λ t sound known. absurd (omega (arith, high, sum-low t x.begins known.0.2.first sound)))
    (gathers g.P.Pairs.told c.args.pairs.now c.look.new.pairs c.snapshots.new.pairs (IsBegunAt a.place.directory x) IsSound
    c.snapshots.ensures.goes
    (checked-as g.P.Pairs.told c.args.pairs.now c.look.new.pairs IsSound IsBegun (λ directory t. find_object t directory)
    (Ok x) c.as_slice.ensures c.in-Ok.ensures.check)
    (λ t sound known. sound) (λ t. map snapshot_entry t.snapshots ≡ c.in-Ok-snapshots.entries) c.in-Ok-snapshots.ensures.ok)

pub returns-in-Ok-find_child-clause-goes : goal.returns-in-Ok-find_child-clause-goes
returns-in-Ok-find_child-clause-goes g c =
    goes-then g.P.Pairs.told c.args.pairs.now c.snapshots.new.pairs c.find_child.new.pairs 0 0
    (goes-then g.P.Pairs.told c.args.pairs.now c.look.new.pairs c.snapshots.new.pairs 0 0 c.look.ensures.goes
    c.snapshots.ensures.goes) c.find_child.ensures.goes

pub returns-in-Ok-find_child-clause-check : goal.returns-in-Ok-find_child-clause-check
returns-in-Ok-find_child-clause-check g c =
    let a = c.args.a.now in
    let cred = c.args.cred.now in
    let x = c.in-Ok.x in
    let R : Tree → Type 0 = λ t. map snapshot_entry t.snapshots ≡ c.in-Ok-snapshots.entries in
    let L : Tree → Type 0 = λ t. IsLed t c.in-Ok-find_child.root (leads_to t (Live 1)) in
    let sum : c.in-Some.fsid ≡ x.begins.fsid + x.begins.epoch = omega arith in
    reads-more g.P.Pairs.told c.args.pairs.now c.find_child.new.pairs IsSound IsSound
    (λ t. (IsBegunAt a.place.directory x t × R t) × L t)
    (λ t. (u : Unit {0}) × (take_check t cred a ≡ Ok u) × IsTaking t (record {
      begins = x.begins;
      directory = x.found.attributes;
      root = c.root_of.result;
    }) u) (λ t sound. sound)
    (λ t sound known. (
      tt,
      take-asks t cred a known.0.0.0 known.0.0.1 c.in-Ok-snapshots.entries x.begins known.0.1 known.0.0.2.first
          ∙ ap (λ (n : List ℕ). new_check cred n c.in-Ok-snapshots.entries x.begins.epoch) (sym c.as_slice-2.ensures)
          ∙ ap (λ (es : List NameEntry). new_check cred c.as_slice-2.result.now es x.begins.epoch) (sym c.as_slice-3.ensures)
          ∙ sym c.in-Ok-check_new.ensures.check,
      record {
        first = known.0.0.2.first;
        before = drop-before t a.place.directory x.found known.0.0.0 c.requires known.0.0.1 known.0.0.2.object;
        root = root-is t x.begins known.0.0.2.first c.in-Some.fsid sum c.in-Ok-find_child.root known.1 ∙ sym c.root_of.ensures;
      },
    ))
    (gathers g.P.Pairs.told c.args.pairs.now c.snapshots.new.pairs c.find_child.new.pairs
    (λ t. IsBegunAt a.place.directory x t × R t) (λ t. t.fsid ≡ x.begins.fsid) c.find_child.ensures.goes
    (gathers g.P.Pairs.told c.args.pairs.now c.look.new.pairs c.snapshots.new.pairs (IsBegunAt a.place.directory x) IsSound
    c.snapshots.ensures.goes
    (checked-as g.P.Pairs.told c.args.pairs.now c.look.new.pairs IsSound IsBegun (λ directory t. find_object t directory)
    (Ok x) c.as_slice.ensures c.in-Ok.ensures.check)
    (λ t sound known. sound) R c.in-Ok-snapshots.ensures.ok)
    (λ t sound known. ap (λ (r : First). r.fsid) known.0.2.first) L c.in-Ok-find_child.ensures.ok)

pub returns-in-Ok-find_child-clause-short : goal.returns-in-Ok-find_child-clause-short
returns-in-Ok-find_child-clause-short g c =
    subst (λ (n : List ℕ). length n ≤ longest_name) c.as_slice-2.ensures c.in-Ok-check_new.ensures.short

pub returns-clause-goes : goal.returns-clause-goes
returns-clause-goes g c =
    goes-then g.P.Pairs.told c.args.pairs.now c.snapshots.new.pairs c.find_child.new.pairs 0 0
    (goes-then g.P.Pairs.told c.args.pairs.now c.look.new.pairs c.snapshots.new.pairs 0 0 c.look.ensures.goes
    c.snapshots.ensures.goes) c.find_child.ensures.goes

pub returns-clause-check : goal.returns-clause-check
returns-clause-check g c =
    let a = c.args.a.now in
    let x = c.in-Ok.x in
    let R : Tree → Type 0 = λ t. map snapshot_entry t.snapshots ≡ c.in-Ok-snapshots.entries in
    gathers-up g.P.Pairs.told c.args.pairs.now c.snapshots.new.pairs c.find_child.new.pairs
    (λ t. IsBegunAt a.place.directory x t × R t) (λ t. t.fsid ≡ x.begins.fsid) c.find_child.ensures.goes
    (gathers g.P.Pairs.told c.args.pairs.now c.look.new.pairs c.snapshots.new.pairs (IsBegunAt a.place.directory x) IsSound
    c.snapshots.ensures.goes
    (checked-as g.P.Pairs.told c.args.pairs.now c.look.new.pairs IsSound IsBegun (λ directory t. find_object t directory)
    (Ok x) c.as_slice.ensures c.in-Ok.ensures.check)
    (λ t sound known. sound) R c.in-Ok-snapshots.ensures.ok)
    (λ t sound known. ap (λ (r : First). r.fsid) known.0.2.first) 0
    (goes-then g.P.Pairs.told c.args.pairs.now c.look.new.pairs c.snapshots.new.pairs 0 0 c.look.ensures.goes
    c.snapshots.ensures.goes) c.in-Err-find_child.fault c.in-Err-find_child.ensures.fault
