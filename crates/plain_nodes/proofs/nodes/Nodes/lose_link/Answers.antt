use Rattle.std.proofs.Common.{◌≡◌, nat_lt, true, false, IfSome, rules}
use Rattle.plain_nodes.specs.Nodes.{nodes_of}
use Rattle.plain_nodes.proofs.Losing.{loses_kept, loses_last}
use Rattle.plain_nodes.proofs.nodes.Nodes.lose_link.Goals as goal

pub returns-then-stays : goal.returns-then-stays
returns-then-stays c =
    let o = nodes_of c.args.self.now c.args.fileid in
    let more : IfSome o (λ n. nat_lt 1 n.inode.nlink ≡ true) = search rules in
    let same = loses_kept c.args.now o more in
    search (rules, same)

pub returns-else-stays : goal.returns-else-stays
returns-else-stays c =
    let o = nodes_of c.args.self.now c.args.fileid in
    let last : IfSome o (λ n. nat_lt 1 n.inode.nlink ≡ false) = search rules in
    let same = loses_last c.args.now o last in
    search (rules, same)
