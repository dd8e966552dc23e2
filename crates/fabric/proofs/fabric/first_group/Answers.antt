use Rattle.fabric.proofs.Beginning.{made_first}
use Rattle.fabric.proofs.fabric.first_group.Goals as goal

pub returns : goal.returns
returns c =
    made_first c.args.first.now c.args.replicas c.args.store c.in_ok-page.page c.in_ok-group.group c.in_ok-page.ensures
    c.in_ok-group.ensures.behind c.in_ok-group.ensures.settling c.in_ok-group.ensures.first
