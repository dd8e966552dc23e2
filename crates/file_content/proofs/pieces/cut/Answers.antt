use Rattle.std.proofs.Common.{ℕ, ◌<◌, List, ap, length, arith}
use Rattle.file_content.proofs.PieceLaws.{cut_some}
use Rattle.file_content.proofs.pieces.cut.Goals as goal

pub returns-then-place-len : goal.returns-then-place-len
returns-then-place-len c =
    let within : c.place_of-place.result.index < length c.deref.result.now =
    omega (arith, ap (λ (l : List (List ℕ)). length l) c.deref.ensures.value) in
    cut_some _ _ _ _ _ _ _ _ c.deref.ensures.value c.place_of-place.ensures.at within (c.place_of-place.ensures.inside within)
    c.truncate.ensures.items
    c.index_mut.ensures.value c.cut.ensures
