use Rattle.page_txn.proofs.Handing.{handable}
use Rattle.page_txn.proofs.txn.Txn.commit.Goals as goal

pub commit_rows-commit-requires : goal.commit_rows-commit-requires
commit_rows-commit-requires g c =
    handable g.P.Rules.Meaning.stands g.P.Rules.Meaning.next _ _ _ _ _ c.args.self.standing c.requires.entry c.requires.right
