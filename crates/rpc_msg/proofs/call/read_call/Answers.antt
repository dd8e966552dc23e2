use Rattle.std.proofs.Common.{◌≡◌, ◌≤◌, length, refl, sym, ◌∙◌, arith}
use Rattle.rpc_msg.specs.Message.{kind_of}
use Rattle.rpc_msg.proofs.Heads.{kind_read, no_fault, short_has_none, other_has_none}
use Rattle.rpc_msg.proofs.call.read_call.Goals as goal

pub returns-then-words-ne0-clause-not_call : goal.returns-then-words-ne0-clause-not_call
returns-then-words-ne0-clause-not_call c =
    let long : 24 ≤ length c.args.text.now = omega arith in
    let kind : c.in-Ok.words.kind ≡ kind_of c.args.text.now = kind_read _ _ _ long (rw c.new-reader.ensures at c.in-Ok.ensures) in
    (λ _. (long, λ e. c.if-words-ne0.true (kind ∙ e)), λ _. refl)

pub returns-clause-not_call : goal.returns-clause-not_call
returns-clause-not_call c =
    let long : 24 ≤ length c.args.text.now = omega arith in
    let kind : c.in-Ok.words.kind ≡ kind_of c.args.text.now = kind_read _ _ _ long (rw c.new-reader.ensures at c.in-Ok.ensures) in
    (λ e. (cc), λ h. absurd (h.1 (sym kind ∙ c.if-words-ne0.false)))

pub unreachable-requires : goal.unreachable-requires
unreachable-requires c = no_fault _ _ (omega arith) (rw c.new-reader.ensures at c.in_default.ensures)

pub returns-then-text-lt-HEAD-clause-refused : goal.returns-then-text-lt-HEAD-clause-refused
returns-then-text-lt-HEAD-clause-refused c = short_has_none c.args.text.now (omega arith)

pub returns-then-words-ne0-clause-refused : goal.returns-then-words-ne0-clause-refused
returns-then-words-ne0-clause-refused c =
    let long : 24 ≤ length c.args.text.now = omega arith in
    let kind : c.in-Ok.words.kind ≡ kind_of c.args.text.now = kind_read _ _ _ long (rw c.new-reader.ensures at c.in-Ok.ensures) in
    other_has_none c.args.text.now long (λ e. c.if-words-ne0.true (kind ∙ e))
