use Rattle.std.proofs.Common.{◌≡◌, false, sym, ◌∙◌, ap, subst}
use Rattle.page_types.specs.Stores.{first_state}
use Rattle.page_store.specs.Shown.{state_of, AreFormed, IsPlan}
use Rattle.paxos_group.specs.Ledger.{ledger, IsSettledNow, IsUnasked}
use Rattle.store_group.specs.Adopted.{AdoptsBoth}
use Rattle.store_group.specs.Behind.{late_of}
use Rattle.store_group.proofs.Folding.{joins_both}
use Rattle.store_group.proofs.Leaving.{Obeyed, at_ok, at_err, both_obeyed, err_log, late_obeyed, err_formed}
use Rattle.store_group.proofs.group.StoreGroup.step.Goals as goal

pub invariant_of-self : goal.invariant_of-self
invariant_of-self g c =
    let s = c.args.self.now in
    let a = c.append-appended in
    let before = ledger s.group in
    let now = ledger a.new.self in
    let is : IsSettledNow before now c.args.command.now a.result =
    at_ok a.result.own c.in-Ok.field-0 (IsSettledNow before now c.args.command.now a.result) c.in-Ok.is a.ensures.ok in
    let plan : IsPlan s.store c.args.ready.late c.args.command.now c.args.ready.plan =
    subst (λ d. IsPlan s.store d c.args.command.now c.args.ready.plan) (sym c.requires.ready.late) c.requires.ready.plan in
    let o : Obeyed (first_state s.first) c.adopt_both-settled.new.store a.new.self.log =
    both_obeyed (first_state s.first) s.store c.adopt_both-settled.new.store before now c.args.ready.late c.args.command.now
    a.result c.adopt_both-settled.result is c.requires.ready.late (record { state = s.folded; count = s.counted })
    (c.adopt_both-settled.ensures c.args.command.now plan) in
    record { folded = o.state; counted = o.count; formed = subst AreFormed (sym is.pending) tt }

pub invariant_of-self-in-Err : goal.invariant_of-self-in-Err
invariant_of-self-in-Err g c =
    let s = c.args.self.now in
    let a = c.append-appended in
    let before = ledger s.group in
    let now = ledger a.new.self in
    let unasked =
    at_err a.result.own c.in-Err.fault (a.result.doubted ≡ false → IsUnasked before now a.result) c.in-Err.is a.ensures.unasked in
    let log = err_log a.result.doubted a.result before now c.args.command.now a.ensures.in_doubt unasked in
    let o : Obeyed (first_state s.first) c.adopt_late.new.store a.new.self.log =
    late_obeyed a.result.late (first_state s.first) s.store c.adopt_late.new.store before now c.args.ready.late
    c.adopt_late.result log c.requires.ready.late (record { state = s.folded; count = s.counted }) c.adopt_late.ensures in
    record {
      folded = o.state;
      counted = o.count;
      formed = err_formed a.result.doubted a.result before now c.args.command.now a.ensures.in_doubt unasked s.formed
          c.requires.formed;
    }

pub returns-in-Ok-clause-log : goal.returns-in-Ok-clause-log
returns-in-Ok-clause-log g c =
    let s = c.args.self.now in
    let a = c.append-appended in
    let before = ledger s.group in
    let now = ledger a.new.self in
    let is : IsSettledNow before now c.args.command.now a.result =
    at_ok a.result.own c.in-Ok.field-0 (IsSettledNow before now c.args.command.now a.result) c.in-Ok.is a.ensures.ok in
    let plan : IsPlan s.store c.args.ready.late c.args.command.now c.args.ready.plan =
    subst (λ d. IsPlan s.store d c.args.command.now c.args.ready.plan) (sym c.requires.ready.late) c.requires.ready.plan in
    let both : AdoptsBoth s.store c.adopt_both-settled.new.store c.args.ready.late c.args.command.now
    c.adopt_both-settled.result =
    c.adopt_both-settled.ensures c.args.command.now plan in
    joins_both (state_of s.store) s.group.log a.new.self.log s.group.pending c.args.command.now c.adopt_both-settled.result.late
    c.adopt_both-settled.result.own is.log
    (both.late ∙ ap (λ d. late_of (state_of s.store) d) c.requires.ready.late)
