use Rattle.std.proofs.Common.{◌≡◌, ◌+◌, ◌<◌, length, arith}
use Rattle.btree_page.specs.Content.{Entry, inner_entry, entry_spelling}
use Rattle.btree_page.proofs.Built.{added, size_with, inner_size, few}
use Rattle.btree_page.proofs.builder.PageBuilder.add_inner.Goals as goal

pub overflow_add-self : goal.overflow_add-self
overflow_add-self c =
    let small : c.self.inside.count < 8192 = few c.self.inside.level c.self.inside.count c.self.inside.bytes.spare
    c.self.inside.bytes.items c.self.invariant in omega arith

pub invariant_of-self : goal.invariant_of-self
invariant_of-self c =
    let e : Entry = inner_entry c.args.key.now c.args.birth c.args.child in
    let size : length (entry_spelling e) ≡ 22 + length c.args.key.now = inner_size c.args.key.now c.args.birth c.args.child in
    (added c.args.self.now c.self.inside.level c.self.inside.count c.self.inside.bytes.spare c.put_inner.new.out.spare
    c.self.inside.bytes.items c.put_inner.new.out.items e
    c.self.view_is c.self.invariant c.requires c.put_inner.ensures.items
    (omega (arith, size, c.len.ensures.value, c.if-len-key-gt-PAGE_LIMIT.false))
    (omega (arith, size, c.put_inner.ensures.spare))).0

pub returns-clause-ok : goal.returns-clause-ok
returns-clause-ok c =
    let e : Entry = inner_entry c.args.key.now c.args.birth c.args.child in
    let size : length (entry_spelling e) ≡ 22 + length c.args.key.now = inner_size c.args.key.now c.args.birth c.args.child in
    (added c.args.self.now c.self.inside.level c.self.inside.count c.self.inside.bytes.spare c.put_inner.new.out.spare
    c.self.inside.bytes.items c.put_inner.new.out.items e
    c.self.view_is c.self.invariant c.requires c.put_inner.ensures.items
    (omega (arith, size, c.len.ensures.value, c.if-len-key-gt-PAGE_LIMIT.false))
    (omega (arith, size, c.put_inner.ensures.spare))).1

pub returns-clause-too_big : goal.returns-clause-too_big
returns-clause-too_big c =
    let e : Entry = inner_entry c.args.key.now c.args.birth c.args.child in
    let size : length (entry_spelling e) ≡ 22 + length c.args.key.now = inner_size c.args.key.now c.args.birth c.args.child in
    let whole = size_with c.args.self.now c.self.inside.level c.self.inside.count c.self.inside.bytes.spare
    c.self.inside.bytes.items e c.self.view_is c.self.invariant in
    (λ h. absurd cc, λ big. absurd (omega (arith, whole, size, c.len.ensures.value, c.if-len-key-gt-PAGE_LIMIT.false)))
