-- How lasting a write is (RFC 1813, section 3.3.7, stable_how), and the numbers of that.
use Rattle.std.specs.Prelude.{ℕ, List, [], ◌∷◌}
use Rattle.xdr_grammar.specs.Grammar.{Grammar}
use Rattle.xdr_grammar.specs.Enumerations.{enumeration}
use Rattle.nfs3_types.specs.declared.stable_how.StableHow.{StableHow}
use Rattle.nfs3_types.specs.declared.stable_how.StableHow.TheVariants.{Unstable, DataSync, FileSync}

abbrev pub stable_number : StableHow → ℕ
stable_number Unstable = 0
stable_number DataSync = 1
stable_number FileSync = 2

abbrev pub stabilities : List StableHow
stabilities = Unstable ∷ DataSync ∷ FileSync ∷ []

unfoldable pub stable_how : Grammar StableHow
stable_how = enumeration Unstable stable_number stabilities
