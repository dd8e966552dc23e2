-- What an iterator over the items of a vector has given, once it is empty.
use Rattle.std.proofs.Common.{◌≡◌, ◌∙◌, ℕ, List, [], ◌∷◌, length, None, sym, ap, arith}
use Rattle.std.proofs.lemmas.List.{nil_from_length}
use Rattle.std.specs.Iterator.{YieldsThen, Drains}
use Rattle.std.specs.Vec.Iter.{into_iter_items, into_iter_len, into_iter_steps}
use Rattle.std.specs.declared.vec.IntoIter.{IntoIter}

given : {X Z : Type 0} (xs : List X) (s u : IntoIter X Z) → length (into_iter_items s) ≡ into_iter_len s
    → YieldsThen into_iter_steps s xs None u → xs ≡ into_iter_items s
given [] s u long ends =
    let none : into_iter_len s ≡ 0 = ap into_iter_len ends.1 ∙ ends.2.0 in
    sym (nil_from_length (into_iter_items s) (long ∙ none))
given (x ∷ xs) s u long ends =
    let left : length (into_iter_items ends.1.0) ≡ into_iter_len ends.1.0 = omega (arith, ap length ends.1.1.0, ends.1.1.1) in
    ap (λ l. x ∷ l) (given xs ends.1.0 u left (ends.0, ends.1.2, ends.2)) ∙ sym ends.1.1.0

-- all items of a vector were given
pub all_given : {X Z : Type 0} (n : ℕ) (items xs : List X) (s : IntoIter X Z) → into_iter_items s ≡ items → into_iter_len s ≡ n
    → n ≡ length items → Drains into_iter_steps s xs → xs ≡ items
all_given n items xs s is len_is long ends =
    let same : length (into_iter_items s) ≡ into_iter_len s = ap length is ∙ sym long ∙ sym len_is in
    given xs s ends.0 same ends.1 ∙ is
