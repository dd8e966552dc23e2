use Rattle.std.proofs.Common.{refl}
use Rattle.btree_page.proofs.Built.{joined}
use Rattle.btree_page.proofs.builder.put_leaf.Goals as goal

pub returns-clause-items : goal.returns-clause-items
returns-clause-items c =
    joined c.args.out.now.items _ _ _ _ _ _ _ _ _ c.to_be_bytes.ensures refl c.put_head.ensures.items
    c.extend_reserved.ensures.items c.put_string.ensures.items
