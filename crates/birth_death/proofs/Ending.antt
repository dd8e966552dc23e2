-- Deletions and purges: what they move, and why they give up.
use Rattle.std.proofs.Common.{◌≡◌, ◌≢◌, ℕ, Bool, true, false, List, Option, Some, None, refl, sym, ◌∙◌, ap}
use Rattle.std.specs.Prelude.{is_some}
use Rattle.pair_types.specs.declared.fault.PairFault.{PairFault}
use Rattle.pair_types.specs.declared.quad.Quad.{Quad}
use Rattle.pair_types.specs.declared.slot.Slot.{Slot}
use Rattle.pair_types.specs.PageMaps.{PageMap}
use Rattle.pair_types.specs.PageState.{PageState}
use Rattle.btree_page.specs.Tree.{quad_bound}
use Rattle.btree_search.specs.Found.{OnlyReads, HasCause}
use Rattle.btree_search.proofs.Walks.{only_then}
use Rattle.btree_edit.specs.Edits.{bound_at, Nothing, Removes, Ends}
use Rattle.btree_edit.specs.Edited.{EditsIn, GoesOn, HadNoTree}
use Rattle.pairs.specs.Lives.{born, del_life}
use Rattle.pairs.specs.Versions.{Versions, HasLives, epoch, with_del, with_purge}
use Rattle.birth_death.specs.Changes.{Has, Dies, GoesFirst}
use Rattle.birth_death.specs.Shows.{Shows, FindsIn, MovesIn, GivesUpIn}
use Rattle.birth_death.proofs.Changes.{del-beside, del-lives, dies-has, del-over-means, del-after-means, purge-has}
use Rattle.birth_death.proofs.Changes.{purge-means}
use Rattle.birth_death.proofs.Finding.{gives-up, finds-later, finds-then, Finding, shows-only}
use Rattle.birth_death.proofs.Moves.{SameBeside, moves-by, had-none}
use Rattle.birth_death.proofs.OneKey.{del-none}

-- ---- the live value of a key, of which the birth is known

pub del-over-moves : (key : List ℕ) (birth now : ℕ) (old new : PageState) → birth ≡ now → GoesOn old new
    → EditsIn (Removes (bound_at key birth)) Nothing None old new → MovesIn old new (Dies key birth now) (with_del key)
del-over-moves key birth now old new same on edits =
    moves-by (Removes (bound_at key birth)) Nothing None old new (Dies key birth now) (with_del key)
    (del-over-means key birth now same) on edits

pub del-after-moves : (key : List ℕ) (birth now : ℕ) (old new : PageState) → birth ≢ now → GoesOn old new
    → EditsIn (Ends (bound_at key birth) now) Nothing None old new → MovesIn old new (Dies key birth now) (with_del key)
del-after-moves key birth now old new other on edits =
    moves-by (Ends (bound_at key birth) now) Nothing None old new (Dies key birth now) (with_del key)
    (del-after-means key birth now other) on edits

pub dies-fails : (key : List ℕ) (birth now : ℕ) (old new : PageState) (fault : PairFault) → GoesOn old new
    → HasCause old new (HadNoTree (Has (bound_at key birth)) old new) fault
    → GivesUpIn old new (Dies key birth now) fault
dies-fails key birth now old new fault on cause =
    gives-up old new (HadNoTree (Has (bound_at key birth)) old new) (Dies key birth now) fault
    (had-none (Has (bound_at key birth)) old new (Dies key birth now) on (dies-has key birth now)) cause

-- ---- as of the epoch

pub del-finds : (a b c : PageState) (key : List ℕ) (birth now : ℕ) → OnlyReads a b → OnlyReads b c
    → FindsIn a b (λ v. now ≡ epoch v)
    → FindsIn b c (λ v. born (v.lives key) ≡ Some birth) → Finding a c HasLives (Dies key birth now)
del-finds a b c key birth now first second at found = record {
  only = only_then a b c first second;
  finds = λ under v agrees shows has. record {
    lives = has;
    epoch = finds-later a b c (λ w. now ≡ epoch w) second.extends at under v agrees shows has;
    born = finds-then a b c (λ w. born (w.lives key) ≡ Some birth) first found under v agrees shows has;
  };
}

-- where none lives, nothing ends
pub del-none-moves : (a b c : PageState) (key : List ℕ) → OnlyReads a b → OnlyReads b c
    → FindsIn b c (λ v. born (v.lives key) ≡ None)
    → MovesIn a c HasLives (with_del key)
del-none-moves a b c key first second found = λ under v agrees shows has.
    let s : Shows c under v = shows-only a c under v (only_then a b c first second) shows in
    let none : born (v.lives key) ≡ None = finds-then a b c (λ w. born (w.lives key) ≡ None) first found under v agrees
    shows has in
    let beside : SameBeside v (with_del key v) = del-beside key v in
    record {
      stores = beside.stores ∙ s.stores;
      quads = s.quads;
      slots = s.slots;
      formed = s.formed;
      lives =
          del-lives key v s.quads (sym (s.lives key) ∙ sym (del-none (epoch v) (v.lives key) none))
          (λ k other. sym (s.lives k));
      blocks = λ slot block is.
          s.blocks slot block (sym (ap (λ (blocks : Slot → Option (List ℕ)). blocks slot) beside.blocks) ∙ is);
    }

pub del-was : (a b c d : PageState) (key : List ℕ) (birth : Option ℕ) → OnlyReads a b
    → FindsIn b c (λ v. born (v.lives key) ≡ birth) → GoesOn c d
    → FindsIn a d (λ v. is_some (born (v.lives key)) ≡ is_some birth)
del-was a b c d key birth first found on = λ under v agrees shows has.
    ap is_some
    (finds-later a c d (λ w. born (w.lives key) ≡ birth) on.extends
    (finds-then a b c (λ w. born (w.lives key) ≡ birth) first found) under v agrees shows has)

-- ---- purges

pub take-moves : (q : Quad) (old new : PageState) → GoesOn old new
    → EditsIn (Removes (bound_at q.key q.birth)) Nothing None old new
    → (kept : List ℕ) → MovesIn old new (GoesFirst kept q) (with_purge kept q.key)
take-moves q old new on edits = λ kept.
    moves-by (Removes (bound_at q.key q.birth)) Nothing None old new (GoesFirst kept q) (with_purge kept q.key)
    (purge-means kept q) on edits

pub take-fails : (q : Quad) (old new : PageState) (fault : PairFault) → GoesOn old new
    → HasCause old new (HadNoTree (Has (bound_at q.key q.birth)) old new) fault → (kept : List ℕ)
    → GivesUpIn old new (GoesFirst kept q) fault
take-fails q old new fault on cause = λ kept.
    gives-up old new (HadNoTree (Has (bound_at q.key q.birth)) old new) (GoesFirst kept q) fault
    (had-none (Has (bound_at q.key q.birth)) old new (GoesFirst kept q) on (purge-has kept q)) cause
