use Rattle.std.proofs.Common.{◌≡◌, ◌++◌, ℕ, List, take, sym, ap, ◌∙◌, arith, rules}
use Rattle.std.proofs.lemmas.Grind.{common_steps}
use Rattle.rpc_records.specs.declared.stage.Stage.{Stage}
use Rattle.rpc_records.specs.Progress.{Progress, reading_of}
use Rattle.rpc_records.specs.Progress.Progress.{InHead, InFragment}
use Rattle.rpc_records.specs.Stage.{progress_at}
use Rattle.rpc_records.specs.Reading.{head_of}
use Rattle.rpc_records.proofs.ReaderLaws.{step-head, step-fragment}
use Rattle.rpc_records.proofs.records.Records.step.Goals as goal

pub returns-else-taken-n-lt4-clause-reading : goal.returns-else-taken-n-lt4-clause-reading
unfolding head_of
returns-else-taken-n-lt4-clause-reading c = λ more.
    let fragments = c.self.inside.fragments in
    let content = c.self.inside.content.items in
    let old = c.self.inside.head in
    let head = c.fill_head-n.new.head in
    let n = c.fill_head-n.result in
    let taken = c.in-Head.taken in
    let part = take n c.args.piece.now in
    let stage = c.behind_head-self-inside.result in
    let reads = c.behind_head-self-inside.ensures.reading head content head more (omega arith) (search rules) (search rules) in
    let here = step-head fragments n taken content old head part more (omega arith) c.fill_head-n.ensures.head in
    let view : InHead fragments content (take taken old) ≡ c.args.self.now =
    ap (λ (s : Stage). progress_at s fragments content old) (sym c.in-Head.is) ∙ c.self.view_is in
    ap (λ (k : ℕ). reading_of (progress_at stage k content head) more) c.saturating_sub-self-inside.ensures
    ∙ (reads ∙ (here ∙ ap (λ (p : Progress). reading_of p (part ++ more)) view))

pub returns-in-Fragment-clause-reading : goal.returns-in-Fragment-clause-reading
returns-in-Fragment-clause-reading c = λ more.
    let fragments = c.self.inside.fragments in
    let content = c.self.inside.content.items in
    let head = c.self.inside.head in
    let n = c.min-n.result in
    let part = take n c.args.piece.now in
    let stage = c.in_fragment-self-inside.result in
    let last = c.in-Fragment.last in
    let left = c.in-Fragment.left in
    let items : c.extend_from_slice.new.self.items ≡ content ++ part = grind (arith, common_steps) in
    let reads = c.in_fragment-self-inside.ensures.reading fragments (content ++ part) head more in
    let here = step-fragment fragments n left last content c.args.piece.now more (omega arith) (omega arith) in
    let view : InFragment fragments content last left ≡ c.args.self.now =
    ap (λ (s : Stage). progress_at s fragments content head) (sym c.in-Fragment.is) ∙ c.self.view_is in
    ap (λ (t : List ℕ). reading_of (progress_at stage fragments t head) more) items
    ∙ (reads ∙ (here ∙ ap (λ (p : Progress). reading_of p (part ++ more)) view))
