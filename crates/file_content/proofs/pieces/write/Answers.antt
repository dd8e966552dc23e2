use Rattle.std.proofs.Common.{◌∙◌, ap, refl, take, drop, arith}
use Rattle.std.proofs.lemmas.List.{take_rest}
use Rattle.std.specs.List.{concat}
use Rattle.file_content.proofs.PieceLaws.{part_within, write_joined}
use Rattle.file_content.proofs.pieces.write.Goals as goal

pub overflow_add-end : goal.overflow_add-end
overflow_add-end c =
    omega (
      arith,
      part_within c.args.offset (concat (take c.in_ok-front.front.index c.deref.result.now)) c.in_ok-front.front.part
          (concat c.deref.result.now) c.in_ok-front.ensures.all,
    )

pub returns-clause-ok : goal.returns-clause-ok
returns-clause-ok c =
    write_joined _ _ _ _ _ _ _ _ _ _ _ _ _ _ c.deref.ensures.value c.in_ok-front.ensures.all
    (take_rest c.deref-2.result.now c.in_ok-front.front.index ∙ ap (drop c.in_ok-front.front.index) c.deref-2.ensures.value)
    c.in_ok-back.ensures.all c.len.ensures refl refl c.in_ok-others.ensures c.in_ok-replace.ensures.ok
