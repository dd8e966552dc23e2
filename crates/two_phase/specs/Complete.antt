-- Commits that nothing is in the way of.
use Rattle.std.specs.Prelude.{◌≡◌, ◌⊎◌, ◌&&◌, Bool, true, false, List, Option, is_none}
use Rattle.std.specs.List.{list_any}
use Rattle.pair_types.specs.declared.slot.Tid.{Tid}
use Rattle.pair_types.specs.declared.fault.StepFault.TheVariants as fault
use Rattle.nfs3_types.specs.declared.entry.Entry.{Entry}
use Rattle.nfs3_types.specs.Count.{Rose}
use Rattle.page_types.specs.declared.journal.JEntry.{JEntry}
use Rattle.page_types.specs.declared.journal.JEntry.TheVariants.{Took, Doubted, Late}
use Rattle.page_types.specs.Ports.{PortState}
use Rattle.two_phase.specs.declared.parts.Part.{Part}
use Rattle.two_phase.specs.declared.closing.Commit.{Commit}
use Rattle.two_phase.specs.declared.closing.Commit.TheVariants.{Done, Fault}
use Rattle.two_phase.specs.Commits.{goes_on, refuses, effect_in, Commits}

-- a command was doubted, or one of the transaction was refused
abbrev pub hinders : Tid → JEntry → Bool
hinders tid (Took pass store command answer) =
    goes_on tid command && (refuses answer && is_none (effect_in tid command answer))
hinders tid (Doubted pass store command) = true
hinders tid (Late store command answer) = false

-- no entry is one that hinders, and no step was stopped
pub record IsUnhindered (old new : PortState) (tid : Tid) (part : List JEntry) : Type 0 where
  pub entries : list_any (hinders tid) part ≡ false
  pub stops : Rose old.stops new.stops → ⊥

-- a commit that is not hindered is done, but for want of memory
pub record AreComplete (old new : PortState) (tid : Tid) (parts : List Part) (served : Option Entry) : Type 0 where
  pub ends : (result : Commit) (c : Commits old new tid parts served result) → IsUnhindered old new tid c.part →
      (result ≡ Done) ⊎ (result ≡ Fault fault.NoMemory)
