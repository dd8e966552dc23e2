use Rattle.std.proofs.Common.{◌≡◌, subst, List, ℕ, Some, None, IfOk, IfErr}
use Rattle.clap.specs.Words.{found_of}
use Rattle.fss_words.specs.Commands.{command_of}
use Rattle.fss_words.specs.declared.fault.WordsFault.TheVariants.{Usage}
use Rattle.fss_words.proofs.Taken.{found_values}
use Rattle.fss_words.proofs.entered.Goals as goal

pub returns-in-Some : goal.returns-in-Some
returns-in-Some c =
    let is = found_values _ (found_of c.args.matches.now) c.in-Some.ensures in
    record {
      ok = subst (λ (vs : List (List ℕ)). IfOk c.found.result (λ w. command_of c.args.name.now vs
          ≡ Some w)) is c.found.ensures.ok;
      err = subst (λ (vs : List (List ℕ)). IfErr c.found.result (λ e. e ≡ Usage
          → command_of c.args.name.now vs ≡ None)) is c.found.ensures.err;
    }

pub returns-in-None : goal.returns-in-None
returns-in-None c =
    let is = found_values _ (found_of c.args.matches.now) c.in-None.ensures in
    record {
      ok = subst (λ (vs : List (List ℕ)). IfOk c.found-in-None.result (λ w. command_of c.args.name.now vs
          ≡ Some w)) is c.found-in-None.ensures.ok;
      err = subst (λ (vs : List (List ℕ)). IfErr c.found-in-None.result (λ e. e ≡ Usage
          → command_of c.args.name.now vs ≡ None)) is c.found-in-None.ensures.err;
    }
