-- The way up from a directory, one step further up.
use Rattle.std.proofs.Common.{◌≡◌, ℕ, suc, ◌-◌, ◌<◌, ◌==◌, ◌||◌, Bool, true, false, if◌then◌else◌, refl, sym, ap, subst, ◌∙◌}
use Rattle.std.proofs.Common.{arith}
use Rattle.fs_rules.specs.declared.plans.Climb.{Climb}
use Rattle.fs_rules.specs.declared.plans.Climb.TheVariants.{TooDeep, Found, Root}
use Rattle.fs_rules.specs.Renaming.{climb, parent_of, through}
use Rattle.fs_rules.specs.Tree.{Nodes}

through-both : (a b : Bool) (way : Climb) → through b (through a way) ≡ through (a || b) way
through-both true true TooDeep = refl
through-both true true Found = refl
through-both true true Root = refl
through-both true false way = refl
through-both false true way = refl
through-both false false way = refl

module _ (nodes : Nodes) (sought left at : ℕ) (before : Bool) (some : 0 < left) where
  climbed : climb nodes sought left at
      ≡ through (at == sought) (if at == 1 then Root else climb nodes sought (left - 1) (parent_of (nodes at) at))
  unfolding climb
  climbed =
      let e : suc (left - 1) ≡ left = omega (arith, some) in
      subst (λ (n : ℕ). climb nodes sought n at
      ≡ through (at == sought) (if at == 1 then Root else climb nodes sought (left - 1) (parent_of (nodes at) at))) e refl

  -- by way of a directory that is not the root
  pub climb-on : (next : ℕ) → (at == 1) ≡ false → parent_of (nodes at) at ≡ next
      → through before (climb nodes sought left at) ≡ through ((at == sought) || before) (climb nodes sought (left - 1) next)
  climb-on next other is =
      ap (through before) (climbed
      ∙ ap (λ (b : Bool). through (at == sought) (if b then Root
      else climb nodes sought (left - 1) (parent_of (nodes at) at))) other
      ∙ ap (λ (n : ℕ). through (at == sought) (climb nodes sought (left - 1) n)) is)
      ∙ through-both (at == sought) before (climb nodes sought (left - 1) next)

  pub climb-root : (at == 1) ≡ true → through before (climb nodes sought left at) ≡ through ((at == sought) || before) Root
  climb-root root =
      ap (through before) (climbed
      ∙ ap (λ (b : Bool). through (at == sought) (if b then Root
      else climb nodes sought (left - 1) (parent_of (nodes at) at))) root)
      ∙ through-both (at == sought) before Root

deep : (b : Bool) → through b TooDeep ≡ TooDeep
deep true = refl
deep false = refl

-- none are left to look at
pub climb-end : (nodes : Nodes) (sought left at : ℕ) (before : Bool) → left ≡ 0
    → through before (climb nodes sought left at) ≡ TooDeep
unfolding climb
climb-end nodes sought left at before e =
    subst (λ (n : ℕ). through before (climb nodes sought n at) ≡ TooDeep) (sym e) (deep before)
