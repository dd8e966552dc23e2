-- That the entries of a history are those of calls: of each acknowledged one, in order, and of others at most once.
use Rattle.std.specs.Prelude.{ℕ, ◌≡◌, ◌≤◌, List, [], ◌∷◌, map, reverse, ◌⊎◌}
use Rattle.std.specs.List.{sum_by}
use Rattle.nfs3_types.specs.declared.entry.Entry.{Entry}
use Rattle.page_types.specs.declared.journal.JEntry.{JEntry}
use Rattle.page_types.specs.Journals.{Origin}
use Rattle.serial_rules.specs.History.{stand}
use Rattle.call_accounts.specs.Asked.{Asked, Told, told_in, acknowledged, open_calls}
use Rattle.call_accounts.specs.Calls.{Span}

-- the third list has the items of the first and those of the second, each in their order
abbrev pub Merges : {A : Type 0} → List A → List A → List A → Type 0
Merges xs ys [] = (xs ≡ []) × (ys ≡ [])
Merges {A = A} xs ys (z ∷ zs) =
    ((others : List A) × (xs ≡ z ∷ others) × Merges others ys zs) ⊎ ((others : List A) × (ys ≡ z ∷ others) × Merges xs others zs)

-- each item stands at most as often among the first as among the second: whatever the items weigh, the first weigh no more
abbrev pub AreAmong : {A : Type 0} → List A → List A → Type 0
AreAmong {A = A} xs ys = (weight : A → ℕ) → sum_by weight xs ≤ sum_by weight ys

-- The acknowledged calls stand here once, in their order and with their replies; and what else stands here is of the open
-- calls, of each at most once.
pub record Accounts (asked : List Asked) (entries : List Entry) : Type 0 where
  pub rest : List Told
  pub order : Merges (acknowledged asked) rest (map told_in entries)
  pub few : AreAmong (map (λ t. t.called) rest) (open_calls asked)

-- the entries of the history that are of a span's transactions, the oldest first
abbrev pub served_in : Span → Origin → List JEntry → List Entry
served_in s origin es = reverse (stand s.pass s.first s.last origin es)
