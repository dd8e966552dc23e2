-- How a weather of this crate counts bad fates: apart for each store and replica below the limits, and
-- together for all others.
use Rattle.std.specs.Prelude.{ℕ, ◌+◌, ◌*◌, ◌&&◌, nat_lt, List, slice_index, slice_set, replicate, if◌then◌else◌}
use Rattle.outside.specs.declared.weather.Fate.{Fate}
use Rattle.outside.specs.declared.weather.MessageName.{MessageName}
use Rattle.outside.specs.declared.weather.TheConstants.{MOST_STORES, MOST_REPLICAS}
use Rattle.nfs3_types.specs.Count.{one_more}
use Rattle.outside.specs.Weather.{is_bad}

-- where the count of a store and a replica stands; all that are not below the limits share the last place
unfoldable pub place_of : ℕ → ℕ → ℕ
place_of store replica = if nat_lt store MOST_STORES && nat_lt replica MOST_REPLICAS then store * MOST_REPLICAS + replica else
    MOST_STORES * MOST_REPLICAS

-- the counts in their places, as the count of each store and replica
unfoldable pub counts_at : List ℕ → ℕ → ℕ → ℕ
counts_at counts store replica = slice_index counts (place_of store replica)

-- no bad fate yet
unfoldable pub no_counts : List ℕ
no_counts = replicate (MOST_STORES * MOST_REPLICAS + 1) 0

-- the counts after a message met a fate: where it is bad, one more at the message's place
unfoldable pub counted : List ℕ → MessageName → Fate → List ℕ
counted counts message fate = let place = place_of message.store message.replica in if is_bad fate then slice_set counts place
    (one_more (slice_index counts place)) else counts
