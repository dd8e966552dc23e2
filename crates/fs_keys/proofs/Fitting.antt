-- What is kept of files can be spelled.
use Rattle.std.proofs.Common.{◌≡◌, ℕ, ◌<◌, ◌^◌, List, length, Option, Some, None, refl, arith}
use Rattle.nfs3_types.specs.declared.file_type.FileType.{FileType}
use Rattle.nfs3_types.specs.declared.file_type.FileType.TheVariants.{Reg, Dir, Blk, Chr, Lnk, Sock, Fifo}
use Rattle.nfs3_types.specs.FileTypes.{type_number, file_types}
use Rattle.xdr_grammar.specs.Items.{fixed}
use Rattle.fs_keys.specs.Inodes.{byte, flag, kind, no_verifier, verifier}

pub kind-fits : (k : FileType) → kind.Fits k
unfolding kind byte
kind-fits Reg = record { first = record { fits = omega arith; passes = refl }; second = refl }
kind-fits Dir = record { first = record { fits = omega arith; passes = refl }; second = refl }
kind-fits Blk = record { first = record { fits = omega arith; passes = refl }; second = refl }
kind-fits Chr = record { first = record { fits = omega arith; passes = refl }; second = refl }
kind-fits Lnk = record { first = record { fits = omega arith; passes = refl }; second = refl }
kind-fits Sock = record { first = record { fits = omega arith; passes = refl }; second = refl }
kind-fits Fifo = record { first = record { fits = omega arith; passes = refl }; second = refl }

pub some-fits : (bytes : List ℕ) → length bytes ≡ 8 → verifier.Fits (Some bytes)
unfolding verifier flag byte fixed
some-fits bytes long = record {
  first = record { first = record { fits = omega arith; passes = refl }; second = refl };
  second = record { value = bytes; made = refl; fits = long };
}

pub none-fits : verifier.Fits None
unfolding verifier no_verifier flag byte fixed
none-fits = record {
  first = record { first = record { fits = omega arith; passes = refl }; second = refl };
  second = record { first = record { fits = refl; passes = refl }; second = refl };
}
