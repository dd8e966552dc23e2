use Rattle.std.proofs.Common.{◌≡◌, ◌∙◌, ap, codes, Option, Some, None}
use Rattle.std.specs.Option.{IsSomeAnd}
use Rattle.clap.specs.Lexer.{usize_max}
use Rattle.clap.specs.Walk.{Rule, rule_of}
use Rattle.clap.specs.Simple.{new_rule}
use Rattle.clap.specs.declared.builder.arg.Arg.{Arg}
use Rattle.clap.specs.declared.builder.range.ValueRange.{ValueRange}
use Rattle.fss_words.specs.Tree.{values_rule}
use Rattle.fss_words.proofs.values.Goals as goal

abbrev any_number : ValueRange
any_number = record { start_inclusive = 0; end_inclusive = usize_max }

rule_is : (new r : Arg) (o : Option ValueRange) → rule_of new ≡ new_rule (codes "values") → r ≡ record new { num_vals = o }
    → IsSomeAnd o (λ v. v ≡ any_number) → rule_of r ≡ values_rule
rule_is new r None rule e h = absurd h
rule_is new r (Some v) rule e h = ap rule_of e ∙ ap (λ (q : Rule). record q { range = Some v }) rule
    ∙ ap (λ (w : ValueRange). record (new_rule (codes "values")) { range = Some w }) h

pub returns : goal.returns
returns c =
    let num = c.num_args.ensures in
    record {
      rule = rule_is c.new.result c.num_args.result c.num_args.result.num_vals c.new.ensures.rule num.0 num.1;
      local = ap (λ (a : Arg). a.global) num.0 ∙ c.new.ensures.optional.1;
    }
