use Rattle.std.proofs.Common.{All, subst}
use Rattle.std.proofs.lemmas.List.{take_all}
use Rattle.std.proofs.lemmas.List.Elements.{All-more}
use Rattle.nfs3_types.specs.Replies.{dir_entry_plus}
use Rattle.nfs3_fits.proofs.entries.entries_plus_fit.Goals as goal

pub loop-entry-preserved : goal.loop-entry-preserved
loop-entry-preserved c =
    All-more dir_entry_plus.Fits c.args.entries.now c.loop-entry.entry-index c.entry-item.result c.loop-entry-test.true
    c.loop-entry.invariant (subst dir_entry_plus.Fits c.entry-item.is c.dir_entry_plus_fits.ensures)

pub returns : goal.returns
returns c = subst (All dir_entry_plus.Fits) (take_all c.loop-entry.entry-index c.args.entries.now c.loop-entry-test.false)
    c.loop-entry.invariant
