-- The entries of a step.
use Rattle.std.proofs.Common.{arith, ◌≡◌, ℕ, Bool, true, false, cond, List, [], ◌∷◌, Option, Some, None, Result, Ok, Err, refl}
use Rattle.std.proofs.Common.{ap, sym, ◌∙◌, subst, unwrap_or, IsSome}
use Rattle.std.specs.Prelude.{◌==◌}
use Rattle.std.proofs.lemmas.Bool.Decides.{nat_tests}
use Rattle.page_types.specs.declared.command.Command.{Command}
use Rattle.page_types.specs.declared.answer.Answer.{Answer}
use Rattle.page_types.specs.declared.journal.JEntry.{JEntry}
use Rattle.page_types.specs.declared.journal.JEntry.TheVariants.{Took, Doubted, Late}
use Rattle.pair_types.specs.declared.fault.StepFault.{StepFault}
use Rattle.page_types.specs.Asked.{first_of}
use Rattle.page_types.specs.Journals.{Origin}
use Rattle.page_types.specs.Stores.{StoreState}
use Rattle.page_types.specs.Obeys.{answer_of, after}
use Rattle.page_store.specs.Shown.{after_maybe}
use Rattle.serial_rules.specs.Worlds.{replay, pending}
use Rattle.serial_rules.specs.Lawful.{Answered}
use Rattle.store_group.specs.Behind.{Behind, Settles, IsLate, Waits, InDoubt, Unmoved, Left, late_of}
use Rattle.store_group.specs.Journal.{Tells, Request, gained, with_late}

equal_to_self : (n : ℕ) → (n == n) ≡ true
equal_to_self n = grind (arith, nat_tests)

-- once the pending command is settled
pub settled_late : (o : Origin) (es : List JEntry) (p : ℕ) (old : Behind) → Tells o es p old → (d : Option Command)
    → old.pending ≡ d →
    Tells o (with_late p (late_of old.state d) es) p (record { state = after_maybe old.state d; pending = None })
settled_late o es p old tells None is = record {
  answered = tells.answered;
  state = tells.state;
  pending = sym is
      ∙ tells.pending;
}
settled_late o es p old tells (Some c) is = record {
  answered = (tells.answered, record { given = ap (λ s. answer_of s c) tells.state; waited = sym tells.pending ∙ is });
  state = rw (equal_to_self p) (ap (λ s. after s c) tells.state);
  pending = rw (equal_to_self p) refl;
}

took : (o : Origin) (es : List JEntry) (asked : Request) (b new : Behind) (a : Answer) → Tells o es asked.store b
    → b.pending ≡ None →
    a ≡ answer_of b.state asked.command → new.state ≡ after b.state asked.command → new.pending ≡ None →
    Tells o (Took asked.pass asked.store asked.command a ∷ es) asked.store new
took o es asked b new a tells none answer state pending' = record {
  answered = (
    tells.answered,
    record { given = answer ∙ ap (λ s. answer_of s asked.command) tells.state; waited = sym tells.pending ∙ none },
  );
  state = rw (equal_to_self asked.store) (state ∙ ap (λ s. after s asked.command) tells.state);
  pending = pending' ∙ (sym none ∙ tells.pending);
}

waits_on : (d : Option Command) (c : Command) → Some (unwrap_or d c) ≡ first_of d (Some c)
waits_on None c = refl
waits_on (Some x) c = refl

doubted_so : (o : Origin) (es : List JEntry) (asked : Request) (b new : Behind) → Tells o es asked.store b →
    new.state ≡ b.state → new.pending ≡ Some (unwrap_or b.pending asked.command) →
    Tells o (Doubted asked.pass asked.store asked.command ∷ es) asked.store new
doubted_so o es asked b new tells state pending' = record {
  answered = tells.answered;
  state = state ∙ tells.state;
  pending = rw (equal_to_self asked.store)
      (pending' ∙ (waits_on b.pending asked.command ∙ ap (λ d. first_of d (Some asked.command)) tells.pending));
}

in_doubt : (o : Origin) (es : List JEntry) (asked : Request) (old new : Behind) (late : Option (Command × Answer)) →
    Tells o es asked.store old → InDoubt late old new asked.command →
    Tells o (Doubted asked.pass asked.store asked.command ∷ with_late asked.store late es) asked.store new
in_doubt o es asked old new (Some l) tells left =
    subst (λ k. Tells o (Doubted asked.pass asked.store asked.command ∷ with_late asked.store k es) asked.store new)
    (sym left.was_late)
    (doubted_so o (with_late asked.store (late_of old.state old.pending) es) asked
    (record { state = after_maybe old.state old.pending; pending = None }) new
    (settled_late o es asked.store old tells old.pending refl) left.state left.pending)
in_doubt o es asked old new None tells left = doubted_so o es asked old new tells left.state left.pending

pub steps : (o : Origin) (es : List JEntry) (asked : Request) (old new : Behind) (late : Option (Command × Answer))
    (own : Result Answer StepFault) (doubted : Bool) →
    Tells o es asked.store old → Left own doubted old new asked.command late
    → Tells o (gained asked late own doubted es) asked.store new
steps o es asked old new late (Ok a) doubted tells left =
    subst (λ k. Tells o (Took asked.pass asked.store asked.command a ∷ with_late asked.store k es) asked.store new)
    (sym left.was_late)
    (took o (with_late asked.store (late_of old.state old.pending) es) asked
    (record { state = after_maybe old.state old.pending; pending = None }) new a
    (settled_late o es asked.store old tells old.pending refl) refl left.answer left.state left.pending)
steps o es asked old new late (Err f) true tells left = in_doubt o es asked old new late tells left
steps o es asked old new late (Err f) false tells left =
    subst (λ k. Tells o (with_late asked.store k es) asked.store new) (sym left.was_late)
    (record { answered = tells.answered; state = left.state ∙ tells.state; pending = left.pending ∙ tells.pending })
