use Rattle.std.proofs.Common.{rules, ◌≡◌, append_assoc, arith}
use Rattle.xdr_grammar.specs.Items.{word}
use Rattle.rpc_msg.proofs.ReplyHeads.{denied_two-spelled, denied_three-spelled, marked_head_long}
use Rattle.rpc_msg.proofs.reply.put_denied.Goals as goal

pub returns-in_ok-put_word-clause-ok : goal.returns-in_ok-put_word-clause-ok
returns-in_ok-put_word-clause-ok c =
    rw (c.if-count-eq2.true, denied_two-spelled _ _ c.requires.three) (search (rules, append_assoc))

pub returns-in_ok-put_word-3-clause-ok : goal.returns-in_ok-put_word-3-clause-ok
returns-in_ok-put_word-3-clause-ok c =
    let three : c.args.count ≡ 3 = omega (arith, c.requires.least, c.requires.most, c.if-count-eq2.false) in
    rw (three, denied_three-spelled _ _ c.requires.three) (search (rules, append_assoc))

pub returns-in_err-put_head-clause-room : goal.returns-in_err-put_head-clause-room
unfolding word
returns-in_err-put_head-clause-room c = λ enough. let long = marked_head_long 20 c.args.xid 1 in search rules

pub returns-in_err-put_word-clause-room : goal.returns-in_err-put_word-clause-room
unfolding word
returns-in_err-put_word-clause-room c = λ enough. let long = marked_head_long 20 c.args.xid 1 in search rules

pub returns-in_ok-put_word-clause-room : goal.returns-in_ok-put_word-clause-room
unfolding word
returns-in_ok-put_word-clause-room c = λ enough. let long = marked_head_long 20 c.args.xid 1 in search rules

pub returns-in_err-put_head-2-clause-room : goal.returns-in_err-put_head-2-clause-room
unfolding word
returns-in_err-put_head-2-clause-room c = λ enough. let long = marked_head_long 24 c.args.xid 1 in search rules

pub returns-in_err-put_word-2-clause-room : goal.returns-in_err-put_word-2-clause-room
unfolding word
returns-in_err-put_word-2-clause-room c = λ enough. let long = marked_head_long 24 c.args.xid 1 in search rules

pub returns-in_err-put_word-3-clause-room : goal.returns-in_err-put_word-3-clause-room
unfolding word
returns-in_err-put_word-3-clause-room c = λ enough. let long = marked_head_long 24 c.args.xid 1 in search rules

pub returns-in_ok-put_word-3-clause-room : goal.returns-in_ok-put_word-3-clause-room
unfolding word
returns-in_ok-put_word-3-clause-room c = λ enough. let long = marked_head_long 24 c.args.xid 1 in search rules
