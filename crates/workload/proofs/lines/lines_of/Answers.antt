use Rattle.std.proofs.Common.{refl}
use Rattle.workload.proofs.lines.lines_of.Goals as goal

pub returns : goal.returns
returns c =
    rw (
      c.from_vec.ensures,
      c.in_ok-put_line-9.ensures,
      c.in_ok-put_line-8.ensures,
      c.in_ok-put_line-7.ensures,
      c.in_ok-put_line-6.ensures,
      c.in_ok-put_line-5.ensures,
      c.in_ok-put_line-4.ensures,
      c.in_ok-put_line-3.ensures,
      c.in_ok-put_line-2.ensures,
      c.in_ok-put_line.ensures,
      c.new-text.ensures.items,
      c.from.ensures,
      c.from-2.ensures,
      c.from-3.ensures,
      c.from-4.ensures,
      c.from-5.ensures,
      c.from-6.ensures,
      c.from-7.ensures,
      c.from-8.ensures,
    ) refl
