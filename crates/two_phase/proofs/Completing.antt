-- What a commit's answer says of what was in its way.
use Rattle.std.proofs.Common.{◌≡◌, ◌⊎◌, inl, inr, ℕ, Bool, true, false, ◌||◌, ◌&&◌, List, [], ◌∷◌, ◌++◌, Option, Some, None, refl}
use Rattle.std.proofs.Common.{sym, ap, ◌∙◌, subst}
use Rattle.std.specs.Prelude.{is_none}
use Rattle.std.specs.List.{list_any}
use Rattle.pair_types.specs.declared.slot.Tid.{Tid}
use Rattle.pair_types.specs.declared.fault.StepFault.{StepFault}
use Rattle.pair_types.specs.declared.fault.Cross.{Cross}
use Rattle.pair_types.specs.declared.fault.StepFault.TheVariants as fault
use Rattle.nfs3_types.specs.declared.entry.Entry.{Entry}
use Rattle.page_types.specs.declared.journal.JEntry.{JEntry}
use Rattle.page_types.specs.declared.journal.JEntry.TheVariants.{Took, Doubted, Late}
use Rattle.page_types.specs.Ports.{PortState}
use Rattle.two_phase.specs.declared.parts.Part.{Part}
use Rattle.two_phase.specs.declared.closing.Commit.{Commit}
use Rattle.two_phase.specs.declared.closing.Commit.TheVariants.{Done, Crossed, Fault}
use Rattle.two_phase.specs.Tries.{DoubtedOut, doubted}
use Rattle.two_phase.specs.Parts.{stores_of}
use Rattle.two_phase.specs.Commits.{Commits, CommitsAs, IsCrossed}
use Rattle.two_phase.specs.Complete.{hinders, IsUnhindered, AreComplete}
use Rattle.two_phase.proofs.Basics.{any_join}

-- a crossing was told by an entry that hinders
crossed_hinders : (pass : ℕ) (tid : Tid) (stores : List ℕ) (cross : Cross) (part : List JEntry)
    → IsCrossed pass tid stores cross part
    → list_any (hinders tid) part ≡ false → ⊥
crossed_hinders pass tid stores cross part c none =
    let split : list_any (hinders tid) (c.finishing ++ (c.ending ++ (Took pass c.store c.command c.answer ∷ c.before))) ≡ false =
    subst (λ (es : List JEntry). list_any (hinders tid) es ≡ false) c.is none in
    let later = any_join (hinders tid) c.finishing (c.ending ++ (Took pass c.store c.command c.answer ∷ c.before)) split in
    let last = any_join (hinders tid) c.ending (Took pass c.store c.command c.answer ∷ c.before) later.1 in
    let here : hinders tid (Took pass c.store c.command c.answer) ≡ true = rw (c.goes, c.refused, c.no_effect) refl in
    at_front here last.1
  where
    at_front : hinders tid (Took pass c.store c.command c.answer) ≡ true
        → list_any (hinders tid) (Took pass c.store c.command c.answer ∷ c.before) ≡ false → ⊥
    at_front is left = let first = any_join (hinders tid) (Took pass c.store c.command c.answer ∷ []) c.before left in cc

-- eight doubts in a row hinder
doubts_hinder : (old new : PortState) (tid : Tid) (part : List JEntry) → DoubtedOut old new part
    → list_any (hinders tid) part ≡ false → ⊥
doubts_hinder old new tid part d none =
    let split : list_any (hinders tid) (doubted 8 (Doubted old.pass d.store d.command) ++ d.earlier) ≡ false =
    subst (λ (es : List JEntry). list_any (hinders tid) es ≡ false) d.is none in
    cc

by_answer : (old new : PortState) (tid : Tid) (stores : List ℕ) (served : Option Entry) (part : List JEntry) (result : Commit)
    → CommitsAs old new tid stores served result part → IsUnhindered old new tid part
    → (result ≡ Done) ⊎ (result ≡ Fault fault.NoMemory)
by_answer old new tid stores served part Done c free = inl refl
by_answer old new tid stores served part (Crossed cross) c free =
    absurd (crossed_hinders old.pass tid stores cross part c.1.1 free.entries)
by_answer old new tid stores served part (Fault fault.Doubt) c free = absurd (doubts_hinder old new tid part c.1 free.entries)
by_answer old new tid stores served part (Fault fault.NoMemory) c free = inr refl
by_answer old new tid stores served part (Fault fault.Stopped) c free = absurd (free.stops c.1)

pub complete : (old new : PortState) (tid : Tid) (parts : List Part) (served : Option Entry)
    → AreComplete old new tid parts served
complete old new tid parts served = record {
  ends = λ result c free. by_answer old new tid (stores_of parts) served c.part result c.ends free;
}
