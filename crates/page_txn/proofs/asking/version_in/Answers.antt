use Rattle.std.proofs.Common.{◌≡◌, ℕ, List, [], ◌∷◌, length, refl, sym, ap, ◌∙◌, arith}
use Rattle.page_types.specs.declared.answer.Answer.{Answer}
use Rattle.page_types.specs.declared.answer.Answer.TheVariants.{Versions}
use Rattle.page_txn.proofs.asking.version_in.Goals as goal

one_long : (vs : List ℕ) → length vs ≡ 1 → (v : ℕ) × (vs ≡ v ∷ [])
one_long [] is = absurd (omega (arith, is))
one_long (v ∷ []) is = (v, refl)
one_long (v ∷ w ∷ vs) is = absurd (omega (arith, is))

pub returns-in-Versions : goal.returns-in-Versions
returns-in-Versions c =
    let o = one_long c.in-Versions.versions (c.requires c.in-Versions.versions c.in-Versions.is) in
    let versions_of : List ℕ → Answer = λ vs. Versions vs in
    c.in-Versions.is ∙ ap versions_of (o.1 ∙ ap (λ (v : ℕ). v ∷ []) (sym (c.first_in.ensures o.0 o.1)))
