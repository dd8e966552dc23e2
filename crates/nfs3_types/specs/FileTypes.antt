-- Types of files (RFC 1813, section 2.6, ftype3), and their numbers.
use Rattle.std.specs.Prelude.{ℕ, List, [], ◌∷◌}
use Rattle.xdr_grammar.specs.Grammar.{Grammar}
use Rattle.xdr_grammar.specs.Enumerations.{enumeration}
use Rattle.nfs3_types.specs.declared.file_type.FileType.{FileType}
use Rattle.nfs3_types.specs.declared.file_type.FileType.TheVariants.{Reg, Dir, Blk, Chr, Lnk, Sock, Fifo}

abbrev pub type_number : FileType → ℕ
type_number Reg = 1
type_number Dir = 2
type_number Blk = 3
type_number Chr = 4
type_number Lnk = 5
type_number Sock = 6
type_number Fifo = 7

abbrev pub file_types : List FileType
file_types = Reg ∷ Dir ∷ Blk ∷ Chr ∷ Lnk ∷ Sock ∷ Fifo ∷ []

unfoldable pub file_type : Grammar FileType
file_type = enumeration Reg type_number file_types
