use Rattle.std.proofs.Common.{inl}
use Rattle.birth_death.proofs.tree.Tree.new.Goals as goal

pub returns-clause-clean : goal.returns-clause-clean
returns-clause-clean g c = λ none not few. inl none
