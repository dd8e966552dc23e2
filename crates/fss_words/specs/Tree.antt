-- The commands as clap is given them: one level of subcommands, each with one list of texts.
use Rattle.std.specs.Prelude.{true, [], Some, codes}
use Rattle.clap.specs.Lexer.{usize_max}
use Rattle.clap.specs.Walk.{Rule, Text}
use Rattle.clap.specs.Simple.{App, Shape, new_app, new_rule, new_shape, with_rule, with_subcommand}

abbrev pub values_rule : Rule
values_rule = record (new_rule (codes "values")) { range = Some (record { start_inclusive = 0; end_inclusive = usize_max }) }

-- a command whose values are texts
abbrev pub leaf : Text → Shape
leaf name = (with_rule (new_app name) values_rule).top

abbrev pub top : Shape
top = record (new_shape (codes "fss")) { no_binary_name = true; disable_help_flag = true; disable_help_subcommand = true }

abbrev pub fss : App
fss = with_subcommand (with_subcommand (with_subcommand (record { top = top; subs = [] }) (leaf (codes "feed"))) (leaf
    (codes "work"))) (leaf (codes "serve"))
