-- That a command is formed has one proof at most, as a fact that a struct keeps has to.
use Rattle.std.specs.Prelude.{true, List, [], ◌∷◌, Option, Some, None, is_some, IsSome}
use Rattle.std.specs.Coded.{×_prop, Unit-prop, le_prop}
use mathlib.Core.Bool.{Bool-set}
use Rattle.page_types.specs.declared.versions.PageRead.{PageRead}
use Rattle.page_types.specs.declared.versions.PageWrite.{PageWrite}
use Rattle.page_types.specs.declared.command.Command.{Command}
use Rattle.page_types.specs.declared.command.Command.TheVariants.{Fresh, Read, Look, Write, Prepare, Decide, Resolve}
use Rattle.page_types.specs.Accesses.{read_at, written_at, ReadsRise, WritesRise, AreAccesses}
use Rattle.page_types.specs.Obeys.{IsFormed}
use Rattle.page_store.specs.Shown.{AreFormed}

pub ReadsRise-prop : (reads : List PageRead) → IsProp (ReadsRise reads)
ReadsRise-prop [] = Unit-prop
ReadsRise-prop (r ∷ []) = Unit-prop
ReadsRise-prop (r ∷ s ∷ rs) = ×_prop le_prop (ReadsRise-prop (s ∷ rs))

pub WritesRise-prop : (writes : List PageWrite) → IsProp (WritesRise writes)
WritesRise-prop [] = Unit-prop
WritesRise-prop (w ∷ []) = Unit-prop
WritesRise-prop (w ∷ v ∷ ws) = ×_prop le_prop (WritesRise-prop (v ∷ ws))

pub IsSome-prop : {A : Type 0} (o : Option A) → IsProp (IsSome o)
IsSome-prop o = Bool-set (is_some o) true

pub AreAccesses-prop : (reads : List PageRead) (writes : List PageWrite) → IsProp (AreAccesses reads writes)
AreAccesses-prop reads writes a b = λ i. record {
  reads_rise = ReadsRise-prop reads a.reads_rise b.reads_rise i;
  writes_rise = WritesRise-prop writes a.writes_rise b.writes_rise i;
  are_read = λ number some. IsSome-prop (read_at reads number) (a.are_read number some) (b.are_read number some) i;
}

pub IsFormed-prop : (command : Command) → IsProp (IsFormed command)
IsFormed-prop Fresh = Unit-prop
IsFormed-prop (Read number) = Unit-prop
IsFormed-prop (Look numbers) = Unit-prop
IsFormed-prop (Write x) = AreAccesses-prop x.reads x.writes
IsFormed-prop (Prepare part) = AreAccesses-prop part.reads part.writes
IsFormed-prop (Decide d) = Unit-prop
IsFormed-prop (Resolve r) = Unit-prop

pub AreFormed-prop : (command : Option Command) → IsProp (AreFormed command)
AreFormed-prop None = Unit-prop
AreFormed-prop (Some command) = IsFormed-prop command
