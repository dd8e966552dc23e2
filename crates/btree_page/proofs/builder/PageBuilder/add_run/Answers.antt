use Rattle.std.proofs.Common.{◌≡◌, ◌+◌, ◌-◌, ◌<◌, ◌++◌, ℕ, List, length, take, drop, ap, ◌∙◌, arith}
use Rattle.std.specs.List.{flat_map}
use Rattle.btree_page.specs.Content.{Entry, entry_spelling}
use Rattle.btree_page.proofs.Built.{added_run, size_run, run_long, few}
use Rattle.btree_page.proofs.builder.PageBuilder.add_run.Goals as goal

pub extend_reserved-requires : goal.extend_reserved-requires
extend_reserved-requires c =
    let run = take (c.args.to - c.args.from) (drop c.args.from c.args.view.now.cells) in
    omega (
      arith,
      c.self.invariant.room,
      c.requires.room,
      size_run c.args.self.now c.self.inside.level c.self.inside.count
          c.self.inside.bytes.spare c.self.inside.bytes.items run c.self.view_is c.self.invariant,
      ap (λ (xs : List ℕ). length xs)
          c.run.ensures.bytes,
    )

pub overflow_cast-self : goal.overflow_cast-self
overflow_cast-self c = omega (arith, c.run.ensures.few)

pub overflow_add-self : goal.overflow_add-self
overflow_add-self c =
    let small : c.self.inside.count < 8192 = few c.self.inside.level c.self.inside.count c.self.inside.bytes.spare
    c.self.inside.bytes.items c.self.invariant in omega (arith, c.run.ensures.few)

pub invariant_of-self : goal.invariant_of-self
invariant_of-self c =
    let run = take (c.args.to - c.args.from) (drop c.args.from c.args.view.now.cells) in
    let size = ap (λ (xs : List ℕ). length xs) c.run.ensures.bytes in
    (added_run c.args.self.now c.self.inside.level c.self.inside.count c.self.inside.bytes.spare c.extend_reserved.new.self.spare
    (c.args.to - c.args.from) c.self.inside.bytes.items c.extend_reserved.new.self.items run
    c.self.view_is c.self.invariant c.requires.rules (run_long c.args.view.now.cells c.args.from c.args.to c.requires.order
    c.requires.within)
    (c.extend_reserved.ensures.items ∙ ap (λ (xs : List ℕ). c.self.inside.bytes.items ++ xs) c.run.ensures.bytes)
    (omega (
      arith,
      c.requires.room,
      size_run c.args.self.now c.self.inside.level c.self.inside.count c.self.inside.bytes.spare
          c.self.inside.bytes.items run c.self.view_is c.self.invariant,
    ))
    (omega (arith, size, c.extend_reserved.ensures.spare))).0

pub returns : goal.returns
returns c =
    let run = take (c.args.to - c.args.from) (drop c.args.from c.args.view.now.cells) in
    let size = ap (λ (xs : List ℕ). length xs) c.run.ensures.bytes in
    (added_run c.args.self.now c.self.inside.level c.self.inside.count c.self.inside.bytes.spare c.extend_reserved.new.self.spare
    (c.args.to - c.args.from) c.self.inside.bytes.items c.extend_reserved.new.self.items run
    c.self.view_is c.self.invariant c.requires.rules (run_long c.args.view.now.cells c.args.from c.args.to c.requires.order
    c.requires.within)
    (c.extend_reserved.ensures.items ∙ ap (λ (xs : List ℕ). c.self.inside.bytes.items ++ xs) c.run.ensures.bytes)
    (omega (
      arith,
      c.requires.room,
      size_run c.args.self.now c.self.inside.level c.self.inside.count c.self.inside.bytes.spare
          c.self.inside.bytes.items run c.self.view_is c.self.invariant,
    ))
    (omega (arith, size, c.extend_reserved.ensures.spare))).1
