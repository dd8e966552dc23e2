-- What refuses a listing refuses READDIR and READDIRPLUS.
use Rattle.std.proofs.Common.{ℕ, List}
use Rattle.nfs3_types.specs.declared.args.ReadDirArgs.{ReadDirArgs}
use Rattle.nfs3_types.specs.declared.args.ReadDirPlusArgs.{ReadDirPlusArgs}
use Rattle.nfs3_types.specs.declared.cred.Cred.{Cred}
use Rattle.fs_rules.specs.Listing.{count_all, entry_plus_size, entry_size, page, read_dir, read_dir_plus}
use Rattle.fs_rules.specs.Tree.{Tree}
use Rattle.plain_tree.specs.declared.fault.Fault.{Fault}
use Rattle.plain_tree.specs.declared.fault.Fault.TheVariants.{Refused, NoMemory}
use Rattle.plain_tree.specs.Giving.{Fails}

pub read_dir_fails : (t : Tree) (cred : Cred) (a : ReadDirArgs (List ℕ)) (fault : Fault) → Fails (page t cred entry_size a) fault
    → Fails (read_dir t cred a) fault
unfolding read_dir
read_dir_fails t cred a (Refused status) h = rw h
read_dir_fails t cred a NoMemory h = tt

pub read_dir_plus_fails : (t : Tree) (cred : Cred) (a : ReadDirPlusArgs (List ℕ)) (fault : Fault)
    → Fails (page t cred entry_plus_size (count_all a)) fault → Fails (read_dir_plus t cred a) fault
unfolding read_dir_plus
read_dir_plus_fails t cred a (Refused status) h = rw h
read_dir_plus_fails t cred a NoMemory h = tt
