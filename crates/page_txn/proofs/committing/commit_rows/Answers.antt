use Rattle.std.proofs.Common.{◌∙◌}
use Rattle.page_txn.proofs.Handing.{parts_handed, commits_rows, commits_lacking}
use Rattle.page_txn.proofs.committing.commit_rows.Goals as goal

pub commit-requires : goal.commit-requires
commit-requires g c =
    c.requires.transaction _ (parts_handed g.P.Rules.Meaning.stands g.P.Rules.Meaning.next _ _ _ _ c.requires
    c.len-in_order.ensures.ordered _ c.stores-stores.ensures.stores c.stores-stores.ensures.some _
    (c.deref.ensures.value ∙ c.in-Ok.ensures))

pub returns-in-Ok : goal.returns-in-Ok
returns-in-Ok g c =
    commits_rows _ _ _ _ _ _ _ (parts_handed g.P.Rules.Meaning.stands g.P.Rules.Meaning.next _ _ _ _ c.requires
    c.len-in_order.ensures.ordered _ c.stores-stores.ensures.stores c.stores-stores.ensures.some _
    (c.deref.ensures.value ∙ c.in-Ok.ensures))
    c.commit.ensures

pub returns-in-Err : goal.returns-in-Err
returns-in-Err g c =
    commits_lacking g.P.Rules.Meaning.stands g.P.Rules.Meaning.next _ _ _ _ c.requires
    c.len-in_order.ensures.ordered _ c.stores-stores.ensures.stores c.stores-stores.ensures.some
