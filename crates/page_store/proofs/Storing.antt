-- A store begins, and keeps what always holds.
use Rattle.std.proofs.Common.{◌≡◌, ℕ, ◌+◌, ◌≤◌, ◌<◌, ◌^◌, Bool, true, false, cond, List, [], ◌∷◌, Option, Some, None, refl, ap}
use Rattle.std.proofs.Common.{sym, ◌∙◌, subst, arith}
use Rattle.std.specs.Prelude.{◌==◌, if◌then◌else◌, is_some}
use Rattle.std.proofs.Math.Path.{fun_ext}
use Rattle.std.proofs.lemmas.Bool.Decides.{nat_tests}
use Rattle.pair_types.specs.declared.slot.Tid.{Tid}
use Rattle.page_types.specs.declared.command.Command.{Command}
use Rattle.page_types.specs.declared.answer.Answer.{Answer}
use Rattle.page_types.specs.Stores.{Kept, StoreState, never_written, first_written, first_kept}
use Rattle.page_types.specs.Obeys.{after, has_hold}
use Rattle.page_store.specs.declared.row.Row.{Row}
use Rattle.page_store.specs.declared.row.Change.{Change}
use Rattle.page_store.specs.declared.patch.Patch.{Patch}
use Rattle.page_store.specs.Rows.{row_of}
use Rattle.page_store.specs.Keeps.{Keeps, state, patched, changed, change_in, nothing, first_keeps, stranger, IsIndexed}
use Rattle.page_store.specs.Keeps.{IsBounded}
use Rattle.page_store.specs.declared.patch.Step.{Step}
use Rattle.page_store.specs.Steps.{under, IsStep}
use Rattle.page_store.specs.Shown.{after_maybe, answer_maybe, number_of}

-- a patch without rows and without a transaction
pub under_none : (patch : Patch) (keeps : Keeps) → patch.rows.items ≡ [] → patch.party ≡ None → patch.next ≡ keeps.next
    → under patch keeps ≡ keeps
under_none patch keeps rows party next = λ i. patched (rows i) (party i) (next i) keeps

no_hold_at : (t : Tid) (page : List ℕ) (b : Bool) → has_hold t (if b then first_written page else never_written) ≡ true
    → false ≡ true
no_hold_at t page true h = h
no_hold_at t page false h = h

pub first_indexed : (first : Option (List ℕ)) → IsIndexed (first_keeps first)
first_indexed None n t h = h
first_indexed (Some page) n t h = no_hold_at t page (n == 0) h

first_version : (page : List ℕ) (b : Bool) → (if b then first_written page else never_written).version ≤ 0 + 1
first_version page true = omega arith
first_version page false = omega arith

pub first_bounded : (first : Option (List ℕ)) → IsBounded (0 + 1) (state (first_keeps first))
first_bounded None = record { versions = λ n. omega arith; next = omega arith }
first_bounded (Some page) = record { versions = λ n. first_version page (n == 0); next = omega arith }

zero_first : (n : ℕ) → (0 == n) ≡ (n == 0)
zero_first n = grind (arith, nat_tests)

-- the first page, put into slot 0
pub first_put : (page : List ℕ) (rows : List Change) → rows ≡ record { number = 0; row = row_of (first_written page) } ∷ [] →
    patched rows None 1 nothing ≡ first_keeps (Some page)
first_put page rows is =
    let slots = fun_ext (λ n. by_number n (n == 0) (zero_first n)) in
    ap (λ (l : List Change). patched l None 1 nothing) is
    ∙ (λ i. record { slot = slots i; party = λ (t : Tid). stranger; next = 1 })
  where
    by_number : (n : ℕ) (b : Bool) → (0 == n) ≡ b →
        changed (change_in (record { number = 0; row = row_of (first_written page) } ∷ []) n) never_written
        ≡ (if b then first_written page else never_written)
    by_number n true zero_is = rw zero_is refl
    by_number n false zero_is = rw zero_is refl

-- how many commands have an answer
pub answered : (s : StoreState) (first : Option Command) (a : Option Answer) → a ≡ answer_maybe s first →
    (if is_some a then 1 else 0) ≡ number_of first
answered s None a is = rw is refl
answered s (Some command) a is = rw is refl

-- a step under a patch that changes nothing
pub step_over : (old seen : Keeps) (command : Command) (step : Step) → seen ≡ old → IsStep seen command step
    → IsStep old command step
step_over old seen command step same done = subst (λ (k : Keeps). IsStep k command step) same done

-- a step that is adopted once there is room
pub step_adopted : (old roomy new : Keeps) (command : Command) (step : Step) → IsStep old command step → IsIndexed old
    → roomy ≡ old →
    new ≡ under step.patch roomy → (state new ≡ after (state old) command) × IsIndexed new
step_adopted old roomy new command step done indexed same adopted =
    let is : new ≡ under step.patch old = adopted ∙ ap (λ (k : Keeps). under step.patch k) same in
    (ap state is ∙ done.after, subst IsIndexed (sym is) (done.indexed indexed))
