-- The tree that is served stays sound, and each of its replies has the shape that its spelling needs.
use Rattle.std.proofs.Common.{◌≡◌, ℕ, ◌^◌, ◌<◌, ◌≤◌, List, Result, Ok, Err, subst, sym, arith}
use Rattle.std.proofs.Math.Logic.{∥∥₁_elim, ∥∥₁_map}
use Rattle.nfs3_types.specs.declared.memory.NoMemory.{NoMemory}
use Rattle.nfs3_types.specs.declared.moment.Moment.{Moment}
use Rattle.nfs3_types.specs.declared.reply.Reply.{Reply}
use Rattle.nfs3_fits.specs.Shape.{HasShape}
use Rattle.fs_rules.specs.Answers.{Asked, after, answer}
use Rattle.fs_rules.specs.Tree.{Tree, first_tree}
use Rattle.fs_rules.specs.Sound.{HasBounds, IsSound}
use Rattle.plain_tree.specs.Giving.{Answers, IsDone}
use Rattle.service.specs.Served.{fsid, made_at, verifier}
use Rattle.service.proofs.Shapes.{shape_prop}

pub stays_sound : (t new : Tree) (a : Asked) (result : Result Reply NoMemory) → Answers a t new result → a.lane < 16
    → ∥ IsSound t ∥₁ → ((u : Tree) (b : Asked) → b.lane < 16 → IsSound u → IsSound (after u b)) → ∥ IsSound new ∥₁
stays_sound t new a (Ok reply) answers lane sound law =
    ∥∥₁_map sound (λ (h : IsSound t). subst IsSound (sym answers.ok.tree_is) (law t a lane h))
stays_sound t new a (Err lack) answers lane sound law = ∥∥₁_map sound (λ (h : IsSound t). subst IsSound (sym answers.err) h)

pub has_shape : (t new : Tree) (a : Asked) (reply : Reply) → IsDone a t new reply → ∥ IsSound t ∥₁
    → ((u : Tree) (b : Asked) → HasBounds u → HasShape (answer u b)) → HasShape reply
has_shape t new a reply done sound law =
    ∥∥₁_elim sound (shape_prop reply) (λ (h : IsSound t). subst HasShape (sym done.reply_is) (law t a h.bounds))

pub begins_sound : (old new : Tree) (first : Moment) → new ≡ made_at first → ∥ IsSound old ∥₁
    → ((f : ℕ) (v : List ℕ) (m : Moment) → f ≤ 2 ^ 63 → IsSound (first_tree f v m)) → ∥ IsSound new ∥₁
begins_sound old new first is sound law =
    ∥∥₁_map sound (λ (h : IsSound old). subst IsSound (sym is) (law fsid verifier first (omega arith)))
