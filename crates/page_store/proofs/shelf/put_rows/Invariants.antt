use Rattle.std.proofs.Common.{◌≡◌, ℕ, IsSome, vec_len}
use Rattle.std.specs.BTreeMap.{get}
use Rattle.std.specs.Ordering.{nat_cmp}
use Rattle.page_store.specs.Keeps.{kept_in, changed, change_in, IsReady}
use Rattle.page_store.proofs.shelf.put_rows.Given as goal

abbrev pub invariant-loop-change : goal.invariant-loop-change
invariant-loop-change l = record {
  ready : IsReady l.rows l.changes.items;
  here : (number : ℕ) → changed (change_in l.changes.items number) (kept_in l.rows number)
      ≡ changed (change_in l.initial.changes.items number) (kept_in l.initial.rows number);
  room : (number : ℕ) → IsSome (get nat_cmp l.initial.rows number) → IsSome (get nat_cmp l.rows number);
}

abbrev pub decreases-loop-change : goal.decreases-loop-change
decreases-loop-change l = vec_len l.changes
