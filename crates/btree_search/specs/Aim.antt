-- What is sought beside a key and a birth: the places at or after them, or those after them.
use Rattle.std.specs.Prelude.{Bool, true, false}
use Rattle.std.specs.declared.cmp.Ordering.{Ordering}
use Rattle.std.specs.declared.cmp.Ordering.TheVariants.{Less, Equal, Greater}
use Rattle.btree_search.specs.declared.aim.Aim.{Aim}
use Rattle.btree_search.specs.declared.aim.Aim.TheVariants.{AtOrAfter, After}

-- whether a place that compares so with the key and the birth is sought
abbrev pub is_sought : Aim → Ordering → Bool
is_sought AtOrAfter Less = false
is_sought AtOrAfter Equal = true
is_sought AtOrAfter Greater = true
is_sought After Less = false
is_sought After Equal = false
is_sought After Greater = true
