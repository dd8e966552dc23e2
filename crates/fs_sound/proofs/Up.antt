-- How the parents of directories lead to the root.
use Rattle.std.proofs.Common.{◌≡◌, ℕ, zero, suc, ◌==◌, Bool, true, false, if◌then◌else◌, Option}
use Rattle.std.proofs.Common.{None, ⊎_elim, refl, sym, ap, subst, ◌∙◌}
use Rattle.std.proofs.lemmas.Bool.{cases_eq, eqb-true, eqb-false}
use Rattle.fs_rules.specs.Answers.{after}
use Rattle.fs_rules.specs.Renaming.{climb, parent_of, through}
use Rattle.fs_rules.specs.Sound.{LeadsUp, ancestor}
use Rattle.fs_rules.specs.Tree.{Node, Nodes}
use Rattle.fs_rules.specs.declared.plans.Climb.{Climb}
use Rattle.fs_rules.specs.declared.plans.Climb.TheVariants.{Found, Root, TooDeep}

-- ---- steps

pub up_root : (nodes : Nodes) → LeadsUp nodes 1
unfolding ancestor
up_root nodes = record { steps = 0; ends = refl }

pub up_at_root : (nodes : Nodes) (id : ℕ) → id ≡ 1 → LeadsUp nodes id
up_at_root nodes id is = subst (LeadsUp nodes) (sym is) (up_root nodes)

-- one step further down
pub up_step : (nodes : Nodes) (id : ℕ) → LeadsUp nodes (parent_of (nodes id) id) → LeadsUp nodes id
unfolding ancestor
up_step nodes id u = record { steps = suc u.steps; ends = u.ends }

pub up_below : (nodes : Nodes) (id parent : ℕ) → parent_of (nodes id) id ≡ parent → LeadsUp nodes parent → LeadsUp nodes id
up_below nodes id parent is u = up_step nodes id (subst (LeadsUp nodes) (sym is) u)

-- ---- to other nodes

-- P holds of all that is on the way, and there the parents are the same
pub record StaysOnWay (nodes after : Nodes) (P : ℕ → Type 0) (id : ℕ) : Type 0 where
  pub same : parent_of (nodes id) id ≡ parent_of (after id) id
  pub next : P (parent_of (nodes id) id)

way : (nodes after : Nodes) (P : ℕ → Type 0) → ((id : ℕ) → P id → (id ≡ 1 → ⊥) → StaysOnWay nodes after P id)
    → (steps id : ℕ) → ancestor nodes steps id ≡ 1 → P id → LeadsUp after id
unfolding ancestor
way nodes after P stays zero id ends p = up_at_root after id ends
way nodes after P stays (suc steps) id ends p =
    ⊎_elim
    (λ is. up_at_root after id is)
    (λ apart.
    let s = stays id p apart in
    up_below after id (parent_of (nodes id) id) (sym s.same) (way nodes after P stays steps (parent_of (nodes id) id) ends
    s.next))
    (cases_eq id 1)

pub up_same : (nodes after : Nodes) (P : ℕ → Type 0) → ((id : ℕ) → P id → (id ≡ 1 → ⊥) → StaysOnWay nodes after P id)
    → (id : ℕ) → P id → LeadsUp nodes id → LeadsUp after id
up_same nodes after P stays id p u = way nodes after P stays u.steps id u.ends p

-- where all parents but that of one are the same, and that one leads up
join : (nodes after : Nodes) (x : ℕ) → ((id : ℕ) → (id ≡ x → ⊥) → parent_of (nodes id) id ≡ parent_of (after id) id)
    → LeadsUp after x
    → (steps id : ℕ) → ancestor nodes steps id ≡ 1 → LeadsUp after id
unfolding ancestor
join nodes after x same up zero id ends = up_at_root after id ends
join nodes after x same up (suc steps) id ends =
    ⊎_elim
    (λ is. subst (LeadsUp after) (sym is) up)
    (λ apart. up_below after id (parent_of (nodes id) id) (sym (same id apart))
    (join nodes after x same up steps (parent_of (nodes id) id) ends))
    (cases_eq id x)

pub up_joined : (nodes after : Nodes) (x : ℕ) → ((id : ℕ) → (id ≡ x → ⊥) → parent_of (nodes id) id ≡ parent_of (after id) id)
    → LeadsUp after x
    → (id : ℕ) → LeadsUp nodes id → LeadsUp after id
up_joined nodes after x same up id u = join nodes after x same up u.steps id u.ends

-- what no node has leads nowhere
stuck : (nodes : Nodes) (x : ℕ) → nodes x ≡ None → (steps : ℕ) → ancestor nodes steps x ≡ x
unfolding ancestor
stuck nodes x none zero = refl
stuck nodes x none (suc steps) = ap (λ (o : Option Node). ancestor nodes steps (parent_of o x)) none ∙ stuck nodes x none steps

add : (nodes after : Nodes) (x : ℕ) → nodes x ≡ None → (x ≡ 1 → ⊥)
    → ((id : ℕ) → (id ≡ x → ⊥) → parent_of (nodes id) id ≡ parent_of (after id) id)
    → (steps id : ℕ) → ancestor nodes steps id ≡ 1 → LeadsUp after id
unfolding ancestor
add nodes after x none apart same zero id ends = up_at_root after id ends
add nodes after x none apart same (suc steps) id ends =
    ⊎_elim
    (λ is. absurd (apart (sym (stuck nodes x none (suc steps)) ∙ ap (ancestor nodes (suc steps)) (sym is) ∙ ends)))
    (λ other. up_below after id (parent_of (nodes id) id) (sym (same id other))
    (add nodes after x none apart same steps (parent_of (nodes id) id) ends))
    (cases_eq id x)

-- with a new node, which none had as its parent
pub up_added : (nodes after : Nodes) (x : ℕ) → nodes x ≡ None → (x ≡ 1 → ⊥)
    → ((id : ℕ) → (id ≡ x → ⊥) → parent_of (nodes id) id ≡ parent_of (after id) id)
    → (id : ℕ) → LeadsUp nodes id → LeadsUp after id
up_added nodes after x none apart same id u = add nodes after x none apart same u.steps id u.ends

-- ---- a way that does not meet one directory

-- so many steps up to the root
unfoldable pub IsPast : Nodes → ℕ → ℕ → ℕ → Type 0
IsPast nodes x zero id = (id ≡ 1) × (id ≡ x → ⊥)
IsPast nodes x (suc steps) id = (id ≡ x → ⊥) × IsPast nodes x steps (parent_of (nodes id) id)

pub record LeadsPast (nodes : Nodes) (x id : ℕ) : Type 0 where
  pub steps : ℕ
  pub ends : IsPast nodes x steps id

here_by : (nodes : Nodes) (x steps id : ℕ) → IsPast nodes x steps id → id ≡ x → ⊥
unfolding IsPast
here_by nodes x zero id p is = p.1 is
here_by nodes x (suc steps) id p is = p.0 is

pub past_here : (nodes : Nodes) (x id : ℕ) → LeadsPast nodes x id → id ≡ x → ⊥
past_here nodes x id l is = here_by nodes x l.steps id l.ends is

next_by : (nodes : Nodes) (x steps id : ℕ) → IsPast nodes x steps id → (id ≡ 1 → ⊥) → LeadsPast nodes x (parent_of (nodes id) id)
unfolding IsPast
next_by nodes x zero id p apart = absurd (apart p.0)
next_by nodes x (suc steps) id p apart = record { steps = steps; ends = p.1 }

pub past_next : (nodes : Nodes) (x id : ℕ) → LeadsPast nodes x id → (id ≡ 1 → ⊥) → LeadsPast nodes x (parent_of (nodes id) id)
past_next nodes x id l apart = next_by nodes x l.steps id l.ends apart

pub past_root : (nodes : Nodes) (x id : ℕ) → id ≡ 1 → (id ≡ x → ⊥) → LeadsPast nodes x id
unfolding IsPast
past_root nodes x id is apart = record { steps = 0; ends = (is, apart) }

pub past_step : (nodes : Nodes) (x id : ℕ) → (id ≡ x → ⊥) → LeadsPast nodes x (parent_of (nodes id) id) → LeadsPast nodes x id
unfolding IsPast
past_step nodes x id apart l = record { steps = suc l.steps; ends = (apart, l.ends) }

ends_by : (nodes : Nodes) (x steps id : ℕ) → IsPast nodes x steps id → ancestor nodes steps id ≡ 1
unfolding IsPast ancestor
ends_by nodes x zero id p = p.0
ends_by nodes x (suc steps) id p = ends_by nodes x steps (parent_of (nodes id) id) p.1

pub past_up : (nodes : Nodes) (x id : ℕ) → LeadsPast nodes x id → LeadsUp nodes id
past_up nodes x id l = record { steps = l.steps; ends = ends_by nodes x l.steps id l.ends }

-- it leads up also where that directory has another parent
pub past_same : (nodes after : Nodes) (x : ℕ) → ((id : ℕ) → (id ≡ x → ⊥) → parent_of (nodes id) id ≡ parent_of (after id) id)
    → (id : ℕ) → LeadsPast nodes x id → LeadsUp after id
past_same nodes after x same id l =
    up_same nodes after (LeadsPast nodes x) (λ q p apart. record {
      same = same q (past_here nodes x q p);
      next = past_next nodes
          x q p apart;
    }) id l (past_up nodes x id l)

-- ---- what the way up says

through_root : (here : Bool) (way : Climb) → through here way ≡ Root → (here ≡ false) × (way ≡ Root)
through_root true TooDeep e = absurd cc
through_root true Found e = absurd cc
through_root true Root e = absurd cc
through_root false way e = (refl, e)

climb_by : (nodes : Nodes) (x most id : ℕ) (b : Bool) → (id == 1) ≡ b
    → (climb nodes x most (parent_of (nodes id) id) ≡ Root → LeadsPast nodes x (parent_of (nodes id) id)) → (id ≡ x → ⊥)
    → (if b then Root else climb nodes x most (parent_of (nodes id) id)) ≡ Root → LeadsPast nodes x id
climb_by nodes x most id true e before apart up = past_root nodes x id (eqb-true id 1 e) apart
climb_by nodes x most id false e before apart up = past_step nodes x id apart (before up)

-- a way to the root that does not lead through x
pub past_climb : (nodes : Nodes) (x most id : ℕ) → climb nodes x most id ≡ Root → LeadsPast nodes x id
unfolding climb
past_climb nodes x zero id e = absurd cc
past_climb nodes x (suc most) id e =
    let parts = through_root (id == x) (if id == 1 then Root else climb nodes x most (parent_of (nodes id) id)) e in
    climb_by nodes x most id (id == 1) refl (past_climb nodes x most (parent_of (nodes id) id)) (eqb-false id x parts.0) parts.1
