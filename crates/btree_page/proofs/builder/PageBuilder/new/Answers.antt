use Rattle.std.proofs.Common.{◌≡◌, ◌++◌, ◌∷◌, [], ℕ, List, length, refl, ap, ◌∙◌, arith}
use Rattle.btree_page.specs.Content.{Content, Entry}
use Rattle.btree_page.proofs.Built.{is_built}
use Rattle.btree_page.proofs.builder.PageBuilder.new.Goals as goal

pub invariant_of-result : goal.invariant_of-result
invariant_of-result c =
    let spelled : c.extend_reserved.new.self.items ≡ 1 ∷ c.args.level ∷ 0 ∷ 0 ∷ [] =
    c.extend_reserved.ensures.items ∙ ap (λ (t : List ℕ). t ++ 1 ∷ c.args.level ∷ 0 ∷ 0 ∷ []) c.in_ok-bytes.ensures.items in
    let len : length c.extend_reserved.new.self.items ≡ 4 = ap (λ (t : List ℕ). length t) spelled in
    (is_built c.args.level 0 c.extend_reserved.new.self.spare c.extend_reserved.new.self.items [] (omega (arith, c.requires))
    spelled tt refl
    (omega (arith, len)) (omega (arith, len, c.extend_reserved.ensures.spare, c.in_ok-bytes.ensures.spare))).0

pub returns : goal.returns
returns c =
    let spelled : c.extend_reserved.new.self.items ≡ 1 ∷ c.args.level ∷ 0 ∷ 0 ∷ [] =
    c.extend_reserved.ensures.items ∙ ap (λ (t : List ℕ). t ++ 1 ∷ c.args.level ∷ 0 ∷ 0 ∷ []) c.in_ok-bytes.ensures.items in
    let len : length c.extend_reserved.new.self.items ≡ 4 = ap (λ (t : List ℕ). length t) spelled in
    ap (λ (cs : List Entry). let made : Content = record { level = c.args.level; cells = cs } in made)
    (is_built c.args.level 0 c.extend_reserved.new.self.spare c.extend_reserved.new.self.items [] (omega (arith, c.requires))
    spelled tt refl
    (omega (arith, len)) (omega (arith, len, c.extend_reserved.ensures.spare, c.in_ok-bytes.ensures.spare))).1
