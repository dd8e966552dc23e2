use Rattle.std.proofs.Common.{◌∙◌, sym}
use Rattle.page_txn.proofs.Rechecked.{may_one, compared_some, compared_none}
use Rattle.page_txn.proofs.Looking.{one_changed}
use Rattle.page_txn.proofs.rechecking.compare.Goals as goal

pub ask_writer-requires : goal.ask_writer-requires
ask_writer-requires g c =
    may_one _ _ c.args.part.now c.in-Some.read
    (one_changed _ _ c.requires.may.rise _ (sym (rw c.as_slice.ensures at c.other_version.ensures) ∙ c.in-Some.is)).0
    c.requires.may

pub returns-in-Some : goal.returns-in-Some
returns-in-Some g c =
    compared_some _ _ _ _ c.in-Some.read (sym (rw c.as_slice.ensures at c.other_version.ensures) ∙ c.in-Some.is) _
    c.ask_writer.ensures

pub returns-in-None : goal.returns-in-None
returns-in-None g c = compared_none _ _ _ (sym (rw c.as_slice.ensures at c.other_version.ensures) ∙ c.in-None.is)
