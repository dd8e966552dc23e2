-- A step of a fabric is a step of its port.
use Rattle.std.proofs.Common.{arith, ◌≡◌, ℕ, ◌+◌, ◌-◌, ◌^◌, ◌<◌, ◌≤◌, ◌==◌, Bool, true, false, List, [], ◌∷◌, ◌++◌, length, min}
use Rattle.std.proofs.Common.{Option, Some, None, Result, Ok, Err, refl, ap, sym, ◌∙◌, subst, inl, inr}
use Rattle.std.specs.Prelude.{if◌then◌else◌, IfOk, IfErr, ◌⊎◌}
use Rattle.pair_types.specs.declared.fault.StepFault.{StepFault}
use Rattle.pair_types.specs.declared.fault.StepFault.TheVariants as fault
use Rattle.outside.specs.Weather.{WeatherTold}
use Rattle.page_types.specs.declared.command.Command.{Command}
use Rattle.page_types.specs.declared.answer.Answer.{Answer}
use Rattle.page_types.specs.declared.journal.JEntry.{JEntry}
use Rattle.page_types.specs.declared.journal.JEntry.TheVariants.{Took, Doubted, Late}
use Rattle.page_types.specs.Journals.{Origin, own}
use Rattle.page_types.specs.Ports.{PortState, IsPort, IsAnswer, IsDoubted, Gains, Grew, Steps}
use Rattle.store_group.specs.Journal.{Request, gained, with_late}
use Rattle.fabric.specs.Settled.{steps, doubts_in, stops_after}
use Rattle.fabric.specs.Shown.{Shown, Held, past, port_of}
use Rattle.fabric.specs.Stepping.{StepsAs}
use Rattle.fabric.proofs.Entries.{equal_to_self, own_most}

pub port_formed : {W : Type 0} (p : Held W) → 1 ≤ p.fabric.origin.stores → steps (past p.fabric) ≤ 2 ^ 62 → IsPort (port_of p)
port_formed p some most = record {
  stores = some;
  most = let l = own_most p.pass (past p.fabric) in omega (arith, l, most);
  are_own = refl;
}

-- a pass's own entries after a step that it asked
took_own : (asked : Request) (late : Option (Command × Answer)) (a : Answer) (doubted : Bool) (es : List JEntry) →
    own asked.pass (gained asked late (Ok a) doubted es) ≡ Took asked.pass asked.store asked.command a ∷ own asked.pass es
took_own asked None a doubted es = rw (equal_to_self asked.pass) refl
took_own asked (Some l) a doubted es = rw (equal_to_self asked.pass) refl

doubted_own : (asked : Request) (late : Option (Command × Answer)) (f : StepFault) (es : List JEntry) →
    own asked.pass (gained asked late (Err f) true es) ≡ Doubted asked.pass asked.store asked.command ∷ own asked.pass es
doubted_own asked None f es = rw (equal_to_self asked.pass) refl
doubted_own asked (Some l) f es = rw (equal_to_self asked.pass) refl

same_own : (asked : Request) (late : Option (Command × Answer)) (f : StepFault) (es : List JEntry) →
    own asked.pass (gained asked late (Err f) false es) ≡ own asked.pass es
same_own asked None f es = refl
same_own asked (Some l) f es = refl

-- what a journal gained stands before what it had
grew : (asked : Request) (late : Option (Command × Answer)) (result : Result Answer StepFault) (doubted : Bool)
    (es : List JEntry) →
    (part : List JEntry) × (gained asked late result doubted es ≡ part ++ es)
grew asked None (Ok a) doubted es = (Took asked.pass asked.store asked.command a ∷ [], refl)
grew asked (Some l) (Ok a) doubted es =
    (Took asked.pass asked.store asked.command a ∷ Late asked.store l.0 l.1 ∷ [], refl)
grew asked None (Err f) true es = (Doubted asked.pass asked.store asked.command ∷ [], refl)
grew asked (Some l) (Err f) true es = (Doubted asked.pass asked.store asked.command ∷ Late asked.store l.0 l.1 ∷ [], refl)
grew asked None (Err f) false es = ([], refl)
grew asked (Some l) (Err f) false es = (Late asked.store l.0 l.1 ∷ [], refl)

module _ {W : Type 0} (told : WeatherTold W) (old new : Shown W) (pass store : ℕ) (command : Command) (before stops : ℕ) where
  abbrev asked : Request
  asked = record { pass = pass; store = store; command = command }

  abbrev port_before : Held W
  port_before = record { fabric = old; pass = pass; doubts = old.doubts - before; stops = stops }

  abbrev port_after : Result Answer StepFault → Held W
  port_after result =
      record { fabric = new; pass = pass; doubts = new.doubts - before; stops = stops_after stops result }

  module _ (since : before ≤ old.doubts) where
    doubt_entry : (f : StepFault) (s : StepsAs told old new asked (Err f)) → s.doubted ≡ true →
        own pass (past new) ≡ Doubted pass store command ∷ own pass (past old)
    doubt_entry f s is = ap (own pass) s.journal
        ∙ subst (λ d. own pass (gained asked s.late (Err f) d (past old)) ≡ Doubted pass store command ∷ own pass (past old))
        (sym is)
        (doubted_own asked s.late f (past old))

    by_doubt : (f : StepFault) (s : StepsAs told old new asked (Err f)) (d : Bool) → s.doubted ≡ d →
        (own pass (past new) ≡ own pass (past old)) ⊎ (own pass (past new) ≡ Doubted pass store command ∷ own pass (past old))
    by_doubt f s true is = inr (doubt_entry f s is)
    by_doubt f s false is = inl (ap (own pass) s.journal
        ∙ subst (λ d. own pass (gained asked s.late (Err f) d (past old)) ≡ own pass (past old)) (sym is)
        (same_own asked s.late f (past old)))

    gains : (result : Result Answer StepFault) → StepsAs told old new asked result →
        IfOk result (IsAnswer old.origin.stores command) →
        new.doubts ≡ old.doubts + doubts_in result →
        IfErr result (λ why. why ≡ fault.Stopped → (steps (past old) ≡ 2 ^ 62) × (new ≡ old)) →
        Gains (port_of port_before) (port_of (port_after result)) store command result
    gains (Ok a) s answer doubts stopped = (ap (own pass) s.journal ∙ took_own asked s.late a s.doubted (past old), answer)
    gains (Err fault.Doubt) s answer doubts stopped =
        (doubt_entry fault.Doubt s (s.doubt_is_doubted refl), omega (arith, doubts, since))
    gains (Err fault.NoMemory) s answer doubts stopped = by_doubt fault.NoMemory s s.doubted refl
    gains (Err fault.Stopped) s answer doubts stopped =
        (ap (λ (f : Shown W). own pass (past f)) (stopped refl).1, omega arith)

    rises : (result : Result Answer StepFault) → StepsAs told old new asked result → new.doubts ≡ old.doubts + doubts_in result →
        (new.doubts - before ≡ old.doubts - before) ⊎ IsDoubted (port_of port_before) (port_of (port_after result)) store command
    rises (Ok a) s doubts = inl (omega (arith, doubts))
    rises (Err fault.Doubt) s doubts = inr (doubt_entry fault.Doubt s (s.doubt_is_doubted refl))
    rises (Err fault.NoMemory) s doubts = inl (omega (arith, doubts))
    rises (Err fault.Stopped) s doubts = inl (omega (arith, doubts))

    stops_rise : (result : Result Answer StepFault) → stops < 2 ^ 64 → stops ≤ stops_after stops result
    stops_rise (Ok a) l = omega arith
    stops_rise (Err fault.Doubt) l = omega arith
    stops_rise (Err fault.NoMemory) l = omega arith
    stops_rise (Err fault.Stopped) l = omega (arith, l)

    pub port_steps : (result : Result Answer StepFault) → stops < 2 ^ 64 → StepsAs told old new asked result →
        IfOk result (IsAnswer old.origin.stores command) → new.doubts ≡ old.doubts + doubts_in result → new.origin ≡ old.origin →
        IfErr result (λ why. why ≡ fault.Stopped → (steps (past old) ≡ 2 ^ 62) × (new ≡ old)) →
        1 ≤ new.origin.stores → steps (past new) ≤ 2 ^ 62 →
        Steps (port_of port_before) (port_of (port_after result)) store command result
    port_steps result fits s answer doubts origin stopped some most = record {
      gains = gains result s answer doubts stopped;
      formed = port_formed (port_after result) some most;
      origin = origin;
      pass = refl;
      journal = let g = grew asked s.late result s.doubted (past old) in (g.0, ap Some (s.journal ∙ g.1));
      doubts = omega (arith, doubts);
      doubts_rise = rises result s doubts;
      stops = stops_rise result fits;
    }
