use Rattle.std.proofs.Common.{◌≡◌, ◌∙◌, ◌%◌, ◌+◌, ◌-◌, length, drop, ap, arith}
use Rattle.std.proofs.lemmas.List.{length-take, length-drop}
use Rattle.extent_ops.specs.Marking.{as_marks}
use Rattle.extent_ops.proofs.Filling.{part_read, after_range}
use Rattle.extent_ops.proofs.ranges.read_part.Goals as goal

pub returns-in-Err-clause-goes : goal.returns-in-Err-clause-goes
returns-in-Err-clause-goes g c = c.load_block.ensures.goes

pub returns-in-Err-clause-fault : goal.returns-in-Err-clause-fault
returns-in-Err-clause-fault g c = c.in-Err.ensures.fault

pub overflow_add-from : goal.overflow_add-from
overflow_add-from g c = omega (arith, c.requires)

pub copy_from_slice-requires : goal.copy_from_slice-requires
copy_from_slice-requires g c =
    let long : length c.as_slice-bytes.result.now ≡ 8192 = ap length c.as_slice-bytes.ensures.value ∙ c.in-Ok.ensures.full in
    omega (
      arith,
      length-take (c.args.offset % 8192 + length c.args.room.now - c.args.offset % 8192)
          (drop (c.args.offset % 8192) c.as_slice-bytes.result.now),
      length-drop (c.args.offset % 8192) c.as_slice-bytes.result.now,
      long,
      c.requires,
    )

pub returns-clause-goes : goal.returns-clause-goes
returns-clause-goes g c = c.load_block.ensures.goes

pub returns-clause-ok : goal.returns-clause-ok
returns-clause-ok g c = record {
  shows = c.in-Ok.ensures.ok.shows;
  finds = λ w v agrees shown lives.
      part_read v c.args.at c.args.file (as_marks c.args.marks) c.args.offset (length c.args.room.now) c.in-Ok.loaded.slot
      c.in-Ok.loaded.bytes.items c.copy_from_slice.new.self c.in-Ok.loaded.count (omega arith) (omega arith)
      (omega (arith, c.requires)) (after_range (c.args.offset % 8192) (length c.args.room.now) c.as_slice-bytes.result.now
      c.in-Ok.loaded.bytes.items c.copy_from_slice.new.self c.copy_from_slice.ensures.after c.as_slice-bytes.ensures.value)
      (c.in-Ok.ensures.ok.finds w v agrees shown lives);
}
