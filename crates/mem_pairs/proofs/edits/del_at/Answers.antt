use Rattle.std.proofs.Common.{◌≡◌, ◌≢◌, arith}
use Rattle.mem_pairs.proofs.EditsLaws.{del_removed, del_ended}
use Rattle.mem_pairs.proofs.edits.del_at.Goals as goal

pub returns-then-birth-epoch : goal.returns-then-birth-epoch
returns-then-birth-epoch c = λ key f.
    let is : c.index-row.result.now.birth ≡ c.args.epoch = omega arith in
    del_removed c.args.epoch key c.args.rows.now.items c.remove.new.self.items c.args.place c.index-row.result.now f
    c.index-row.ensures is
    c.remove.ensures.items

pub returns : goal.returns
returns c = λ key f.
    let isnt : c.index-row.result.now.birth ≢ c.args.epoch = λ is. omega arith in
    del_ended c.args.epoch key c.args.rows.now.items c.end_at.new.rows.items c.args.place c.index-row.result.now f
    c.index-row.ensures isnt
    c.end_at.ensures
