-- Versions of pages, from an earlier world to a later one.
use Rattle.std.specs.Prelude.{◌≡◌, ℕ, ◌≤◌}
use Rattle.pair_types.specs.declared.slot.Slot.{Slot}
use Rattle.serial_rules.specs.Worlds.{World}
use Rattle.serial_rules.specs.Committed.{committed}

-- no version falls, neither in a store nor of what is committed
pub record VersionsRise (old new : World) : Type 0 where
  pub kept : (store number : ℕ) → ((old store).slot number).version ≤ ((new store).slot number).version
  pub of_committed : (s : Slot) → (committed old s).version ≤ (committed new s).version

-- a page of the same version is the same page, in a store and of what is committed
pub record AreSameAtVersions (old new : World) : Type 0 where
  pub content : (store number : ℕ) → ((old store).slot number).version ≡ ((new store).slot number).version →
      ((old store).slot number).content ≡ ((new store).slot number).content
  pub by : (store number : ℕ) → ((old store).slot number).version ≡ ((new store).slot number).version →
      ((old store).slot number).by ≡ ((new store).slot number).by
  pub of_committed : (s : Slot) → (committed old s).version ≡ (committed new s).version →
      committed old s ≡ committed new s
