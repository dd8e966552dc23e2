-- What fits is the beginning of the listing.
use Rattle.std.proofs.Common.{◌≡◌, ℕ, ◌-◌, nat_le, if◌then◌else◌, true, false, List, [], ◌∷◌, length, take, refl, ap}
use Rattle.fs_rules.specs.Listing.{Listed, fitting}

pub take_fitting : (size : Listed → ℕ) (room : ℕ) (entries : List Listed)
    → take (length (fitting size room entries)) entries ≡ fitting size room entries
unfolding fitting
take_fitting size room [] = refl
take_fitting size room (e ∷ entries) =
    elim (nat_le (size e) room) as (λ fits. take (length (if fits then e ∷ fitting size (room - size e) entries else []))
    (e ∷ entries) ≡ (if fits then e ∷ fitting size (room - size e) entries else []))
    [ true ↦ ap (λ told. e ∷ told) (take_fitting size (room - size e) entries) | false ↦ refl ]
