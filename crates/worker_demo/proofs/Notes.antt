-- A journal that gained one entry, or none.
use Rattle.std.proofs.Common.{◌≡◌, ◌∙◌, ℕ, List, [], ◌∷◌, ◌++◌, ap, reverse}
use Rattle.std.proofs.lemmas.List.{reverse-append}
use Rattle.page_types.specs.declared.journal.JEntry.{JEntry}
use Rattle.turnstile.specs.Growth.{GrowsBy, IsBy}

pub gains_one : (pass : ℕ) (e : JEntry) (old new : List JEntry) → IsBy pass e → new ≡ old ++ e ∷ []
    → GrowsBy pass (reverse old) (reverse new)
gains_one pass e old new by grown = record { part = e ∷ []; is = ap reverse grown ∙ reverse-append old (e ∷ []); by = (by, tt) }

pub gains_none : (pass : ℕ) (old new : List JEntry) → new ≡ old → GrowsBy pass (reverse old) (reverse new)
gains_none pass old new same = record { part = []; is = ap reverse same; by = tt }
