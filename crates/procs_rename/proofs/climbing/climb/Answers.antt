-- Each turn goes one directory further up.
use Rattle.std.proofs.Common.{◌≡◌, ◌∙◌, ◌-◌, Bool, sym, ap, arith}
use Rattle.std.specs.Prelude.{⊤}
use Rattle.std.proofs.lemmas.Bool.{eq-eqb, ne_eqb}
use Rattle.fs_rules.specs.declared.plans.Climb.TheVariants.{TooDeep, Root}
use Rattle.fs_rules.specs.Renaming.{climb, parent_of, through}
use Rattle.fs_shows.proofs.Doing.{goes-then}
use Rattle.fs_shows.proofs.Passing.{reads_both, gives_up_behind}
use Rattle.procs_object.proofs.Reading.{reads-more}
use Rattle.procs_rename.proofs.Way.{climb-on, climb-root, climb-end}
use Rattle.procs_rename.proofs.climbing.climb.Goals as goal

pub returns-then-at-eq1-clause-ok : goal.returns-then-at-eq1-clause-ok
returns-then-at-eq1-clause-ok g c =
    let l = c.loop-left in
    reads-more g.P.Pairs.told c.args.pairs.now l.pairs (λ t. ⊤) (λ t. ⊤)
    (λ t. climb t.nodes c.args.sought c.args.most c.args.fileid ≡ through l.is_through (climb t.nodes c.args.sought l.left l.at))
    (λ t. climb t.nodes c.args.sought c.args.most c.args.fileid ≡ c.through.result) (λ t given. tt)
    (λ t given is.
    is ∙ climb-root t.nodes c.args.sought l.left l.at l.is_through c.loop-left-test.true (eq-eqb l.at 1 c.if-at-eq1.true)
    ∙ ap (λ (b : Bool). through b Root) (sym c.passes-is_through.ensures) ∙ sym c.through.ensures)
    l.invariant.reads

pub returns-in-Err-clause-fault : goal.returns-in-Err-clause-fault
returns-in-Err-clause-fault g c =
    gives_up_behind g.P.Pairs.told c.args.pairs.now c.loop-left.pairs c.parent_of.new.pairs 0 0 (λ t. ⊤) (λ t. ⊤) (λ t. t)
    c.loop-left.invariant.goes c.in-Err.ensures.goes c.loop-left.invariant.reads.stays (λ t is. is) c.in-Err.fault
    c.in-Err.ensures.fault

pub loop-left-preserved : goal.loop-left-preserved
loop-left-preserved g c =
    let l = c.loop-left in
    let next = c.in-Ok.parent in
    record {
      goes = goes-then g.P.Pairs.told c.args.pairs.now l.pairs c.parent_of.new.pairs 0 0 l.invariant.goes c.in-Ok.ensures.goes;
      reads = reads-more g.P.Pairs.told c.args.pairs.now c.parent_of.new.pairs (λ t. ⊤) (λ t. ⊤)
          (λ t. (climb t.nodes c.args.sought c.args.most c.args.fileid
          ≡ through l.is_through (climb t.nodes c.args.sought l.left l.at)) × (parent_of (t.nodes l.at) l.at ≡ next))
          (λ t. climb t.nodes c.args.sought c.args.most c.args.fileid
          ≡ through c.passes-is_through.result (climb t.nodes c.args.sought (l.left - 1) next))
          (λ t given. tt)
          (λ t given is.
          is.0 ∙ climb-on t.nodes c.args.sought l.left l.at l.is_through c.loop-left-test.true next
          (ne_eqb l.at 1 c.if-at-eq1.false) is.1
          ∙ ap (λ (b : Bool). through b (climb t.nodes c.args.sought (l.left - 1) next)) (sym c.passes-is_through.ensures))
          (reads_both g.P.Pairs.told c.args.pairs.now l.pairs c.parent_of.new.pairs 0 (λ t. ⊤)
          (λ t. climb t.nodes c.args.sought c.args.most c.args.fileid
          ≡ through l.is_through (climb t.nodes c.args.sought l.left l.at))
          (λ t. parent_of (t.nodes l.at) l.at ≡ next) c.in-Ok.ensures.goes l.invariant.reads c.in-Ok.ensures.ok);
    }

pub returns-clause-ok : goal.returns-clause-ok
returns-clause-ok g c =
    let l = c.loop-left in
    reads-more g.P.Pairs.told c.args.pairs.now l.pairs (λ t. ⊤) (λ t. ⊤)
    (λ t. climb t.nodes c.args.sought c.args.most c.args.fileid ≡ through l.is_through (climb t.nodes c.args.sought l.left l.at))
    (λ t. climb t.nodes c.args.sought c.args.most c.args.fileid ≡ TooDeep) (λ t given. tt)
    (λ t given is. is ∙ climb-end t.nodes c.args.sought l.left l.at l.is_through (omega (arith, c.loop-left-test.false)))
    l.invariant.reads
