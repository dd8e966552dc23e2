use Rattle.std.proofs.Common.{◌≡◌, ◌-◌, true, length, drop, Ok, Err, Option, ap, length-take, length-drop, arith}
use Rattle.rpc_records.specs.declared.fault.RecordFault.{RecordFault}
use Rattle.rpc_records.specs.Progress.{IsUnfinished}
use Rattle.rpc_records.proofs.ReaderLaws.{goes_on-step, feeds-from, feeds-kept, feeds-for_good, answer_of}
use Rattle.rpc_records.proofs.StreamLaws.{HasRead-feed}
use Rattle.rpc_records.proofs.records.Records.feed.Goals as goal
use Rattle.rpc_records.proofs.records.Records.feed.Goals.{then-loop-taken-test+else-is_unfinished, else-loop-taken-test}

pub loop-taken-preserved : goal.loop-taken-preserved
loop-taken-preserved c =
    let before = c.loop-taken.invariant in
    let step = c.step-taken.ensures in
    let piece = c.args.piece.now in
    let n = c.loop-taken.taken in
    let unfinished : IsUnfinished c.loop-taken.self = c.is_unfinished.ensures.0 c.if-is_unfinished.true in
    record {
      within = omega (arith, step.within, length-take (length piece - n) (drop n piece), length-drop n piece);
      reading =
          goes_on-step c.args.self.now c.loop-taken.self c.step-taken.new.self piece n c.step-taken.result before.within
          before.reading step.reading;
      count = λ now. omega (arith, step.taken now, before.count unfinished);
    }

pub returns-in-Some : goal.returns-in-Some
returns-in-Some c =
    let before = c.loop-taken.invariant in
    let n = c.loop-taken.taken in
    let all : IsUnfinished c.loop-taken.self → n ≡ length c.args.piece.now = λ unfinished.
    elim c.loop-taken-test.branch [
      | then-loop-taken-test+else-is_unfinished w ↦ let is : w.is_unfinished.result ≡ true =
          w.is_unfinished.ensures.1 unfinished in absurd cc
      | else-loop-taken-test w ↦ omega arith
    ] in
    let feeds = feeds-from c.args.self.now c.loop-taken.self c.args.piece.now n (Err c.in-Some.fault)
    (ap (λ (r : Option RecordFault). answer_of r n) c.in-Some.ensures.refusal)
    before.within before.reading before.count c.in-Some.ensures.partial all in
    record {
      whole = feeds.whole;
      partial = feeds.partial;
      refused = feeds.refused;
      goes_on = feeds.goes_on;
      within = tt;
      kept = feeds-kept c.args.self.now c.loop-taken.self c.args.piece.now (Err c.in-Some.fault) feeds;
      for_good = feeds-for_good c.args.self.now c.loop-taken.self c.args.piece.now (Err c.in-Some.fault) feeds;
      stream = λ text dropped read. HasRead-feed text dropped c.args.self.now c.loop-taken.self c.args.piece.now
          (Err c.in-Some.fault) read feeds;
    }

pub returns-in-None : goal.returns-in-None
returns-in-None c =
    let before = c.loop-taken.invariant in
    let n = c.loop-taken.taken in
    let all : IsUnfinished c.loop-taken.self → n ≡ length c.args.piece.now = λ unfinished.
    elim c.loop-taken-test.branch [
      | then-loop-taken-test+else-is_unfinished w ↦ let is : w.is_unfinished.result ≡ true =
          w.is_unfinished.ensures.1 unfinished in absurd cc
      | else-loop-taken-test w ↦ omega arith
    ] in
    let feeds = feeds-from c.args.self.now c.loop-taken.self c.args.piece.now n (Ok n)
    (ap (λ (r : Option RecordFault). answer_of r n) c.in-None.ensures.refusal)
    before.within before.reading before.count c.in-None.ensures.partial all in
    record {
      whole = feeds.whole;
      partial = feeds.partial;
      refused = feeds.refused;
      goes_on = feeds.goes_on;
      within = before.within;
      kept = feeds-kept c.args.self.now c.loop-taken.self c.args.piece.now (Ok n) feeds;
      for_good = feeds-for_good c.args.self.now c.loop-taken.self c.args.piece.now (Ok n) feeds;
      stream = λ text dropped read. HasRead-feed text dropped c.args.self.now c.loop-taken.self c.args.piece.now
          (Ok n) read feeds;
    }
