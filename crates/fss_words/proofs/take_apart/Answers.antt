use Rattle.std.proofs.Common.{◌≡◌, subst, map, IfOk, true}
use Rattle.std.specs.String.{string_bytes}
use Rattle.clap.specs.Simple.{App, app_of, HasMatchesOf}
use Rattle.clap.specs.Faults.{fault_of, is_simple_and_free}
use Rattle.clap.specs.Kinds.{FailsBy}
use Rattle.fss_words.specs.Tree.{fss}
use Rattle.fss_words.proofs.Apart.{fss_is_simple, parsed_ok, parsed_err}
use Rattle.fss_words.proofs.take_apart.Goals as goal

pub returns : goal.returns
returns c =
    let parse = c.try_get_matches_from in
    let words = map string_bytes c.args.words.now in
    let is : app_of c.in_ok-fss.fss ≡ fss = c.in_ok-fss.ensures in
    let found = subst (λ (a : App). IfOk parse.result (HasMatchesOf a words)) is parse.ensures.matches in
    let fails = subst (λ (a : App). is_simple_and_free a ≡ true
    → FailsBy (fault_of a words) parse.result) is parse.ensures.kinds fss_is_simple in
    record { ok = parsed_ok parse.result words found fails; err = parsed_err parse.result words fails }
