use Rattle.std.proofs.Common.{rules}
use Rattle.std.proofs.lemmas.Map.Made.{map_same_pairs}
use Rattle.page_txn.proofs.Learned.{cleared, forget_rows}
use Rattle.page_txn.proofs.rows.forget.Goals as goal

pub returns : goal.returns
returns c =
    forget_rows c.args.rows.now c.retain.new.self
    (map_same_pairs _ cleared _ (λ k v b w f' t. search rules) _ _ c.retain.ensures.filtered)
