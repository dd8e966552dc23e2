use Rattle.std.proofs.Common.{◌≡◌, ◌∙◌, ap, length, vec_len, arith}
use Rattle.std.specs.List.{splice}
use Rattle.file_content.proofs.Replaced.{all_given}
use Rattle.file_content.proofs.pieces.replace.Goals as goal

pub returns-clause-ok : goal.returns-clause-ok
returns-clause-ok c =
    let long : vec_len c.args.others ≡ length c.args.others.items = omega arith in
    let h = c.in_ok-splice.ensures.items in
    h.4 ∙ ap (splice c.args.pieces.now.items c.args.from c.args.to) (all_given _ _ h.1 h.0 h.2.0 h.2.1 long h.3)
