-- The way from a directory up to the root, one step further up.
use Rattle.std.proofs.Common.{◌≡◌, ℕ, suc, ◌-◌, ◌<◌, ◌==◌, ◌||◌, Bool, true, false, if◌then◌else◌, refl, arith, subst, sym, ap}
use Rattle.std.proofs.Common.{◌∙◌}
use Rattle.fs_rules.specs.declared.plans.Climb.{Climb}
use Rattle.fs_rules.specs.declared.plans.Climb.TheVariants.{TooDeep, Found, Root}
use Rattle.fs_rules.specs.Renaming.{climb, parent_of, through}
use Rattle.fs_rules.specs.Tree.{Nodes}

twice : (a b : Bool) (way : Climb) → through a (through b way) ≡ through (b || a) way
twice true true TooDeep = refl
twice true true Found = refl
twice true true Root = refl
twice true false way = refl
twice false true TooDeep = refl
twice false true Found = refl
twice false true Root = refl
twice false false way = refl

climb_next : (nodes : Nodes) (sought left at : ℕ) → 0 < left
    → climb nodes sought left at ≡ through (at == sought) (if at == 1 then Root else climb nodes sought (left - 1)
    (parent_of (nodes at) at))
unfolding climb
climb_next nodes sought left at some =
    let e : suc (left - 1) ≡ left = omega (arith, some) in
    subst (λ (n : ℕ). climb nodes sought n at ≡ through (at == sought) (if at == 1 then Root else climb nodes sought (left - 1)
    (parent_of (nodes at) at))) e refl

stepped : (nodes : Nodes) (sought left at : ℕ) (before here : Bool) → 0 < left → (at == sought) ≡ here → (at == 1) ≡ false
    → through before (climb nodes sought left at) ≡ through (here || before)
    (climb nodes sought (left - 1) (parent_of (nodes at) at))
stepped nodes sought left at before here some here_is other =
    ap (through before) (climb_next nodes sought left at some
    ∙ ap (λ (b : Bool). through b (if at == 1 then Root else climb nodes sought (left - 1) (parent_of (nodes at) at))) here_is
    ∙ ap (λ (b : Bool). through here (if b then Root else climb nodes sought (left - 1) (parent_of (nodes at) at))) other)
    ∙ twice before here (climb nodes sought (left - 1) (parent_of (nodes at) at))

-- one directory more was on the way, which is not the root
pub climb_step : (nodes : Nodes) (sought left at next : ℕ) (before after : Bool) (start : Climb)
    → start ≡ through before (climb nodes sought left at) → 0 < left → after ≡ ((at == sought) || before) → (at == 1) ≡ false
    → next ≡ parent_of (nodes at) at → start ≡ through after (climb nodes sought (left - 1) next)
climb_step nodes sought left at next before after start is some after_is other next_is =
    is ∙ stepped nodes sought left at before (at == sought) some refl other
    ∙ ap (λ (b : Bool). through b (climb nodes sought (left - 1) (parent_of (nodes at) at))) (sym after_is)
    ∙ ap (λ (n : ℕ). through after (climb nodes sought (left - 1) n)) (sym next_is)

-- the root was on the way
pub climb_root : (nodes : Nodes) (sought left at : ℕ) (before after : Bool) (start : Climb)
    → start ≡ through before (climb nodes sought left at) → 0 < left → after ≡ ((at == sought) || before) → (at == 1) ≡ true
    → start ≡ through after Root
climb_root nodes sought left at before after start is some after_is root =
    is ∙ ap (through before) (climb_next nodes sought left at some
    ∙ ap (λ (b : Bool). through (at == sought) (if b then Root else climb nodes sought (left - 1) (parent_of (nodes at) at)))
    root)
    ∙ twice before (at == sought) Root
    ∙ ap (λ (b : Bool). through b Root) (sym after_is)

deep : (b : Bool) → through b TooDeep ≡ TooDeep
deep true = refl
deep false = refl

-- none are left to look at
pub climb_end : (nodes : Nodes) (sought left at : ℕ) (before : Bool) → left ≡ 0
    → through before (climb nodes sought left at) ≡ TooDeep
unfolding climb
climb_end nodes sought left at before e = subst (λ (n : ℕ). through before (climb nodes sought n at) ≡ TooDeep) (sym e)
    (deep before)
