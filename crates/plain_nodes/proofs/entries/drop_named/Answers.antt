use Rattle.std.proofs.Common.{rules}
use Rattle.std.proofs.lemmas.Fn.{filter_same}
use Rattle.plain_nodes.proofs.entries.drop_named.Goals as goal

pub returns : goal.returns
unfolding Rattle.fs_rules.specs.Names.has_name
returns c = filter_same _ _ _ (λ x b f' k. search rules) _ _ c.retain.ensures.filtered
