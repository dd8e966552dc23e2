use Rattle.nfs3_types.proofs.CountLaws.{rose-in_a_row, counted-in_a_row, rose-still, sum_below-one, sum_below-all}
use Rattle.nfs3_types.proofs.count.counts_add_up.Goals as goal

pub returns-clause-in_a_row : goal.returns-clause-in_a_row
returns-clause-in_a_row c = rose-in_a_row

pub returns-clause-counted : goal.returns-clause-counted
returns-clause-counted c = counted-in_a_row

pub returns-clause-one : goal.returns-clause-one
returns-clause-one c = sum_below-one

pub returns-clause-all : goal.returns-clause-all
returns-clause-all c = sum_below-all

pub returns-clause-still : goal.returns-clause-still
returns-clause-still c = rose-still
