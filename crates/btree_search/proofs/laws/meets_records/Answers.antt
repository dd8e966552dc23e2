use Rattle.btree_search.proofs.Ways.{meets_records}
use Rattle.btree_search.proofs.laws.meets_records.Goals as goal

pub returns : goal.returns
returns c = meets_records
