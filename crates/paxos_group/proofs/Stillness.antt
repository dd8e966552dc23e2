-- Calm for many messages is calm for fewer.
use Rattle.std.proofs.Common.{◌≡◌, ℕ, zero, suc, ◌+◌, ◌*◌, ◌≤◌, List, [], ◌∷◌, arith, ap}
use Rattle.std.specs.Prelude.{Option, Some, None}
use Rattle.outside.specs.declared.weather.Fate.{Fate}
use Rattle.paxos_group.specs.declared.parts.Parts.{Parts}
use Rattle.paxos_group.specs.Fates.{AllDeliver, Delivers, IsStill}

pub all_deliver_less : (n m : ℕ) (fates : List Fate) → m ≤ n → AllDeliver n fates → AllDeliver m fates
all_deliver_less n zero fates le h = tt
all_deliver_less zero (suc m) fates le h = absurd (omega arith)
all_deliver_less (suc n) (suc m) [] le h = tt
all_deliver_less (suc n) (suc m) (fate ∷ fates) le h = (h.0, all_deliver_less n m fates (omega arith) h.1)

pub delivers_less : (n m : ℕ) (to_come : Option (List Fate)) → m ≤ n → Delivers n to_come → Delivers m to_come
delivers_less n m None le h = h
delivers_less n m (Some fates) le h = all_deliver_less n m fates le h

pub still_less : (held n m : ℕ) (to_come : Option (List Fate)) → m ≤ n → IsStill held to_come n → IsStill held to_come m
still_less held n m to_come le h = record { empty = h.empty; fates = delivers_less n m to_come le h.fates }

-- two attempts, one after the other
pub still_split : (held r n : ℕ) (to_come : Option (List Fate)) → IsStill held to_come (8 * r + n) →
    IsStill held to_come (4 * r + (4 * r + n))
still_split held r n to_come h = still_less held (8 * r + n) (4 * r + (4 * r + n)) to_come (omega arith) h

module _ {V : Type 0} where
  -- only the log has another capacity
  pub same_net : (p q : Parts V) → p ≡ record q { log = p.log } → p.net ≡ q.net
  same_net p q e = ap (λ (s : Parts V). s.net) e

  pub same_replicas : (p q : Parts V) → p ≡ record q { log = p.log } → p.replicas ≡ q.replicas
  same_replicas p q e = ap (λ (s : Parts V). s.replicas) e
