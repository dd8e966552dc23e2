use Rattle.std.proofs.Common.{◌≡◌, ◌≤◌, ◌==◌, ℕ, None, Err, length, sym, subst, ◌∙◌, arith}
use Rattle.btree_page.specs.Reading.{Ahead, ahead, head_at, cells_at}
use Rattle.btree_page.specs.declared.format.PageFormat.TheVariants.{Malformed}
use Rattle.btree_page.specs.View.{IsTable}
use Rattle.btree_page.proofs.Whole.{opened, opened-short, start_is, head_fails, cells_fail, end_failed, indexed_so, page_found}
use Rattle.btree_page.proofs.Whole.{only_fails, only_reads}
use Rattle.btree_page.proofs.view.PageView.of.Goals as goal

pub index-requires : goal.index-requires
index-requires c =
    opened-short c.args.p.now c.in-Ok.head.0 c.in-Ok.head.1 c.head.new.cursor
    (opened _ _ _ _ _ _ c.new-cursor.ensures c.front.ensures c.in-Ok.ensures.gives c.in-Ok.ensures.text)

pub returns-in-Err : goal.returns-in-Err
returns-in-Err c =
    let exact = head_fails c.args.p.now c.in-Err.fault
    (subst (λ (a : Ahead). head_at a ≡ Err c.in-Err.fault) (start_is _ _ _ c.new-cursor.ensures c.front.ensures)
    c.in-Err.ensures.gives) in
    record { found = tt; only = only_fails c.args.p.now c.in-Err.fault exact; exact = exact }

pub returns-in-Err-index : goal.returns-in-Err-index
returns-in-Err-index c =
    let h = opened _ _ _ _ _ _ c.new-cursor.ensures c.front.ensures c.in-Ok.ensures.gives c.in-Ok.ensures.text in
    let exact = cells_fail c.args.p.now ((c.in-Ok.head.0, c.in-Ok.head.1), ahead c.head.new.cursor) c.in-Err-index.fault h.read
    (subst (λ (n : ℕ). cells_at (c.in-Ok.head.0 == 0) n None (ahead c.head.new.cursor) ≡ Err c.in-Err-index.fault) c.from.ensures
    c.in-Err-index.ensures.fault) in
    record { found = tt; only = only_fails c.args.p.now c.in-Err-index.fault exact; exact = exact }

pub returns-then-end-p : goal.returns-then-end-p
returns-then-end-p c =
    let h = opened _ _ _ _ _ _ c.new-cursor.ensures c.front.ensures c.in-Ok.ensures.gives c.in-Ok.ensures.text in
    let table = subst (λ (n : ℕ). IsTable (c.in-Ok.head.0 == 0) n c.head.new.cursor c.index.new.cursor c.in-Ok-index.places)
    c.from.ensures c.in-Ok-index.ensures.table in
    let exact = end_failed c.args.p.now c.in-Ok.head.0 c.in-Ok.head.1 c.head.new.cursor c.index.new.cursor c.in-Ok-index.places
    c.place-end.result h table c.place-end.ensures.place c.if-end-p.true in
    record { found = tt; only = only_fails c.args.p.now (Malformed c.place-end.result) exact; exact = exact }

pub invariant_of-result : goal.invariant_of-result
invariant_of-result c =
    let h = opened _ _ _ _ _ _ c.new-cursor.ensures c.front.ensures c.in-Ok.ensures.gives c.in-Ok.ensures.text in
    let table = subst (λ (n : ℕ). IsTable (c.in-Ok.head.0 == 0) n c.head.new.cursor c.index.new.cursor c.in-Ok-index.places)
    c.from.ensures c.in-Ok-index.ensures.table in
    let within : c.index.new.cursor.place ≤ length c.index.new.cursor.text =
    omega (arith, c.place-end.ensures.place, c.place-end.ensures.within) in
    indexed_so c.args.p.now c.in-Ok.head.0 c.in-Ok.head.1 c.in-Ok-index.places c.head.new.cursor c.index.new.cursor h.cut
    c.in-Ok-index.ensures.text within (sym c.place-end.ensures.place ∙ c.if-end-p.false) h.read table
    (λ e. (page_found c.args.p.now _ (λ i. omega (arith, c.type_inv.p i)) e))

pub returns : goal.returns
returns c =
    let exact = (invariant_of-result c).read in
    record {
      found = page_found c.args.p.now _ (λ i. omega (arith, c.type_inv.p i)) exact;
      only = λ content spells. only_reads c.args.p.now content spells;
      exact = exact;
    }
