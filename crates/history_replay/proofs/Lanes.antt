-- Lanes that were tested.
use Rattle.std.proofs.Common.{arith, ◌≡◌, ◌<◌, ◌&&◌, All, Bool, true, false, List, [], ◌∷◌, nat_lt, refl, sym, ◌∙◌}
use Rattle.std.specs.List.{list_all}
use Rattle.std.proofs.lemmas.List.Elements.{All-cons, All-nil}
use Rattle.nfs3_types.specs.declared.entry.Entry.{Entry}

both : (a b : Bool) → (a && b) ≡ true → (a ≡ true) × (b ≡ true)
both true b e = (refl, e)
both false b e = absurd cc

low_ones : (es : List Entry) → list_all (λ (e : Entry). nat_lt e.lane 16) es ≡ true → All (λ (e : Entry). e.lane < 16) es
low_ones [] e = All-nil (λ (e : Entry). e.lane < 16)
low_ones (x ∷ xs) e =
    let b = both (nat_lt x.lane 16) (list_all (λ (e : Entry). nat_lt e.lane 16) xs) e in
    let low = b.0 in
    All-cons (λ (e : Entry). e.lane < 16) x xs (grind (arith, low)) (low_ones xs b.1)

pub in_lanes : (es : List Entry) (found : Bool) → found ≡ list_all (λ (e : Entry). nat_lt e.lane 16) es → found ≡ true
    → All (λ (e : Entry). e.lane < 16) es
in_lanes es found is true_is = low_ones es (sym is ∙ true_is)
