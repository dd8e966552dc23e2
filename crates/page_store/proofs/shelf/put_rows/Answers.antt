use Rattle.std.proofs.Common.{◌≡◌, ◌∙◌}
use Rattle.page_store.proofs.Rooms.{put_last, ready_rest}
use Rattle.page_store.proofs.shelf.put_rows.Goals as goal

pub loop-change-preserved : goal.loop-change-preserved
loop-change-preserved c = record {
  ready = ready_rest c.loop-change.rows c.put_row.new.rows c.loop-change.changes.items c.pop.new.self.items c.in-Some.change
      c.in-Some.ensures.items c.loop-change.invariant.ready c.put_row.ensures.room;
  here = λ n. put_last c.loop-change.rows c.put_row.new.rows c.loop-change.changes.items c.pop.new.self.items c.in-Some.change
      c.in-Some.ensures.items c.put_row.ensures.here n ∙ c.loop-change.invariant.here n;
  room = λ n h. c.put_row.ensures.room n (c.loop-change.invariant.room n h);
}
