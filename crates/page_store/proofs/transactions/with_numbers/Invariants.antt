use Rattle.std.proofs.Common.{◌≡◌, ◌++◌, map, take}
use Rattle.page_types.specs.declared.versions.PageRead.{PageRead}
use Rattle.page_store.proofs.transactions.with_numbers.Given as goal

abbrev pub invariant-loop-read : goal.invariant-loop-read
invariant-loop-read l = l.list.items ≡ l.numbers ++ map (λ (r : PageRead). r.number) (take l.read-index l.reads)
