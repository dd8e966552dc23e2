use Rattle.std.proofs.Common.{bytes_eq, not, rules}
use Rattle.std.proofs.lemmas.Fn.{filter_same}
use Rattle.plain_tree.proofs.Dropping.{fewer}
use Rattle.plain_tree.proofs.snapshots.drop_snapshots_named.Goals as goal

pub returns-clause-kept : goal.returns-clause-kept
returns-clause-kept c = filter_same _ _ _ (λ x b f' k. search rules) _ _ c.retain.ensures.filtered

pub returns-clause-few : goal.returns-clause-few
returns-clause-few c =
    fewer (λ s. not (bytes_eq s.name c.args.name.now)) c.args.snapshots.now.items _
    (filter_same _ _ _ (λ x b f' k. search rules) _ _ c.retain.ensures.filtered)
