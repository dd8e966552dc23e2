use Rattle.std.proofs.Common.{rules, ◌≡◌, ◌∙◌, ap, ap₂, true, codes, []}
use Rattle.std.proofs.lemmas.Result.{IfOk-weaker}
use Rattle.clap.specs.Simple.{App, Shape, app_of, app_of_fields, on_top, with_rule, with_subcommand, shape_of}
use Rattle.fss_words.specs.Tree.{leaf, top}
use Rattle.fss_words.proofs.tree.Goals as goal

pub returns : goal.returns
returns c =
    let feed_is : shape_of c.in_ok-feed.feed ≡ leaf (codes "feed") = ap (λ (a : App). a.top) (c.in_ok-feed.ensures.shape
    (search rules) ∙ ap₂ with_rule c.new.ensures.app c.values.ensures.rule) in
    let work_is : shape_of c.in_ok-work.work ≡ leaf (codes "work") = ap (λ (a : App). a.top) (c.in_ok-work.ensures.shape
    (search rules) ∙ ap₂ with_rule c.new-2.ensures.app c.values-2.ensures.rule) in
    let serve_is : shape_of c.in_ok-serve.serve
    ≡ leaf (codes "serve") = ap (λ (a : App). a.top) (c.in_ok-serve.ensures.shape (search rules)
    ∙ ap₂ with_rule c.new-3.ensures.app c.values-3.ensures.rule) in
    let bare_is : app_of c.disable_help_subcommand.result ≡ record { top = top; subs = [] } =
    ap app_of_fields c.disable_help_subcommand.ensures
    ∙ ap (on_top (λ (s : Shape). record s { disable_help_subcommand = true }))
    (ap app_of_fields c.disable_help_flag.ensures
    ∙ ap (on_top (λ (s : Shape). record s { disable_help_flag = true }))
    (ap app_of_fields c.no_binary_name.ensures
    ∙ ap (on_top (λ (s : Shape). record s { no_binary_name = true })) c.new-4.ensures.app)) in
    let one_is = c.in_ok-subcommand.ensures.shape (search rules) ∙ ap₂ with_subcommand bare_is feed_is in
    let two_is = c.in_ok-subcommand-2.ensures.shape (search rules) ∙ ap₂ with_subcommand one_is work_is in
    IfOk-weaker c.subcommand-3.result _ _ (λ r h. h.shape (search rules)
    ∙ ap₂ with_subcommand two_is serve_is) c.subcommand-3.ensures
