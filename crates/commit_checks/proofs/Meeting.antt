-- What a read met, and what is known once it is finished.
use Rattle.std.proofs.Common.{◌≡◌, ℕ, ◌<◌, Bool, [], ◌∷◌, ◌++◌, Result, Ok, sym, subst, ap, ◌∙◌}
use Rattle.std.specs.Prelude.{Contains}
use Rattle.pair_types.specs.declared.slot.Tid.{Tid}
use Rattle.pair_types.specs.declared.fault.StepFault.{StepFault}
use Rattle.page_types.specs.declared.command.Command.{Command}
use Rattle.page_types.specs.declared.answer.Answer.{Answer}
use Rattle.page_types.specs.declared.journal.JEntry.TheVariants.{Doubted}
use Rattle.page_types.specs.Asked.{Plan, Names}
use Rattle.page_types.specs.Journals.{Origin}
use Rattle.page_types.specs.Ports.{PortState, IsWithin}
use Rattle.two_phase.specs.Tries.{doubted, Retries}
use Rattle.two_phase.specs.Endings.{IsKnown, Finishes}
use Rattle.two_phase.specs.Commits.{IsMet}
use Rattle.two_phase.proofs.Ended.{names_later}
use Rattle.two_phase.proofs.Meeting.{is_met}

-- what an answer names is known
pub retried_met : (old new : PortState) (store : ℕ) (command : Command) (answer : Answer) →
    Retries old new store command (Ok answer) → IsMet new answer
retried_met old new store command answer r =
    is_met new old.pass store command answer [] (doubted r.ends.0.times (Doubted old.pass store command) ++ old.mine)
    (r.onward.mine ∙ ap (λ l. l ++ old.mine) r.ends.0.is)
    (subst (λ (o : Origin). IsWithin o.stores answer) (sym r.onward.origin) r.ends.1.within)

-- what was known is known once it is finished
pub finished_known : (old new : PortState) (tid : Tid) (plan : Plan) (result : Result Bool StepFault) →
    IsKnown old tid plan → Finishes old new tid plan result → IsKnown new tid plan
finished_known old new tid plan result k f = record {
  names = subst (λ l. Names l tid plan) (sym f.onward.mine) (names_later f.part old.mine tid plan k.names);
  home = subst (λ (o : Origin). plan.home < o.stores) (sym f.onward.origin) k.home;
  parts = λ store c. subst (λ (o : Origin). store < o.stores) (sym f.onward.origin) (k.parts store c);
}
