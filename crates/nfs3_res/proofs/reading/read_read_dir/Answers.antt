use Rattle.nfs3_res.proofs.EntryLaws.{dir_entry-laws}
use Rattle.nfs3_res.proofs.reading.read_read_dir.Goals as goal

pub read_entries-requires : goal.read_entries-requires
read_entries-requires c = record { lawful = dir_entry-laws }
