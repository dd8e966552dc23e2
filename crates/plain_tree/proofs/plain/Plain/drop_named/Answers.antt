use Rattle.std.proofs.Common.{bytes_eq, not, rules}
use Rattle.fs_rules.specs.Tree.{Snapshot}
use Rattle.plain_tree.specs.Trees.{snapshot_of}
use Rattle.plain_tree.proofs.Dropping.{kept_seen}
use Rattle.plain_tree.proofs.plain.Plain.drop_named.Goals as goal

pub returns : goal.returns
unfolding Rattle.fs_rules.specs.Snapshots.drop_named
returns c =
    let seen = kept_seen snapshot_of (λ (s : Snapshot). not (bytes_eq s.name c.args.name.now)) c.args.self.now.snapshots.items in
    search (rules, seen)
