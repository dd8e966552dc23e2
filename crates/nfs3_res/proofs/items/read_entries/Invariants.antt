use Rattle.std.proofs.Common.{◌≡◌, length}
use Rattle.xdr_grammar.specs.Entries.{entries}
use Rattle.xdr_grammar.proofs.Loops.{with_front}
use Rattle.nfs3_res.proofs.items.read_entries.Given as goal

abbrev pub invariant-loop-items : goal.invariant-loop-items
invariant-loop-items g l =
    with_front l.items.items ((entries g.T.ListItem.grammar).read l.reader) ≡ (entries g.T.ListItem.grammar).read l.fn.reader

abbrev pub decreases-loop-items : goal.decreases-loop-items
decreases-loop-items g l = length l.reader
