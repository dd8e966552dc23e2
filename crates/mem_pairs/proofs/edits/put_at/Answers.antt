use Rattle.std.proofs.Common.{◌≡◌, ◌≢◌, ◌+◌, ℕ, List, subst, ◌∙◌, ap, arith}
use Rattle.std.proofs.lemmas.Grind.{common_steps}
use Rattle.std.specs.List.{insert}
use Rattle.pair_types.specs.declared.quad.Quad.{Quad}
use Rattle.mem_pairs.specs.Scans.{Changes}
use Rattle.mem_pairs.proofs.EditsLaws.{put_replaced, put_succeeded}
use Rattle.mem_pairs.proofs.edits.put_at.Goals as goal

pub returns-then-is_new : goal.returns-then-is_new
returns-then-is_new c =
    let is : c.index-live.result.now.birth ≡ c.args.epoch = omega arith in
    put_replaced c.args.epoch c.args.key.now c.args.value.now c.args.rows.now.items c.replace_at.new.rows.items
    c.args.place
    c.index-live.result.now c.requires.first c.index-live.ensures is
    (subst (λ (v : List ℕ). Changes c.args.place (λ row. record row { value = v }) c.args.rows.now.items
    c.replace_at.new.rows.items)
    c.in_ok-value.ensures c.replace_at.ensures)

pub returns : goal.returns
returns c =
    let isnt : c.index-live.result.now.birth ≢ c.args.epoch = λ is. omega arith in
    let mid : c.insert.new.self.items ≡ insert c.args.rows.now.items (c.args.place + 1) c.in_ok-next.next = grind
    (arith, common_steps) in
    put_succeeded c.args.epoch c.args.key.now c.args.value.now c.args.rows.now.items c.end_at.new.rows.items
    c.args.place
    c.index-live.result.now c.requires.first c.index-live.ensures isnt
    (subst (λ (qs : List Quad). Changes c.args.place
    (λ row. record row { death = c.args.epoch }) qs c.end_at.new.rows.items)
    (mid ∙ ap (λ (q : Quad). insert c.args.rows.now.items (c.args.place + 1) q) c.in_ok-next.ensures) c.end_at.ensures)
