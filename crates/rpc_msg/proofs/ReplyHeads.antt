-- How the records of replies are spelled, item by item.
use Rattle.std.proofs.Common.{rules, ◌≡◌, ℕ, ◌+◌, List, [], ◌∷◌, ◌++◌, length, Result, Ok, Err, OnOk, refl, sym, ap, ◌∙◌}
use Rattle.std.proofs.Common.{append_assoc, length-append}
use Rattle.std.proofs.lemmas.List.{append-nil}
use Rattle.std.specs.Prelude.{◌^◌, slice_index}
use Rattle.xdr_grammar.specs.Items.{word, opaque, fixed}
use Rattle.xdr_grammar.specs.Arrays.{items}
use Rattle.xdr_grammar.specs.Laws.{Laws}
use Rattle.xdr_grammar.proofs.Rules.{grammar_laws}
use Rattle.rpc_records.specs.Reading.{marked}
use Rattle.rpc_msg.specs.Auth.{opaque_auth}
use Rattle.rpc_msg.specs.Replies.{reply_head, accepted_reply, accepted, behind_mark, marked_head, accepted_head, accepted_record}
use Rattle.rpc_msg.specs.Replies.{denied_record}
use Rattle.rpc_msg.proofs.Auth.{opaque_auth-laws}

reply_head-laws : Laws reply_head
unfolding reply_head
reply_head-laws = search grammar_laws

pub accepted_reply-laws : Laws accepted_reply
unfolding accepted_reply
accepted_reply-laws = search (grammar_laws, reply_head-laws, opaque_auth-laws)

-- the parts of an accepted reply's head
accepted_parts : (xid stat : ℕ)
    → accepted_reply.spelling (accepted xid stat) ≡ reply_head.spelling (record { xid = xid; kind = 1; stat = 0 }) ++
    (word.spelling 0 ++ (word.spelling 0 ++ word.spelling stat))
unfolding accepted_reply reply_head opaque_auth opaque fixed word
accepted_parts xid stat = refl

accepted_long : (xid stat : ℕ) → length (accepted_reply.spelling (accepted xid stat)) ≡ 24
unfolding accepted_reply reply_head opaque_auth opaque fixed word
accepted_long xid stat = refl

pub accepted_head-spelled : (size xid stat : ℕ)
    → (behind_mark accepted_reply).spelling (accepted_head size xid stat)
    ≡ (behind_mark reply_head).spelling (marked_head (24 + size) xid 0) ++
    (word.spelling 0 ++ (word.spelling 0 ++ word.spelling stat))
unfolding behind_mark
accepted_head-spelled size xid stat =
    rw (accepted_parts xid stat, append-nil, append-nil) (search (rules, append_assoc))

pub accepted_head_size : (size xid stat : ℕ)
    → (behind_mark accepted_reply).size (accepted_head size xid stat)
    ≡ (behind_mark reply_head).size (marked_head (24 + size) xid 0) + (word.size 0 + (word.size 0 + word.size stat))
unfolding behind_mark accepted_reply reply_head opaque_auth opaque fixed word
accepted_head_size size xid stat = refl

pub marked_head_long : (size xid stat : ℕ) → (behind_mark reply_head).size (marked_head size xid stat) ≡ 16
unfolding behind_mark reply_head word
marked_head_long size xid stat = refl

pub accepted_head_long : (size xid stat : ℕ) → (behind_mark accepted_reply).size (accepted_head size xid stat) ≡ 28
unfolding behind_mark accepted_reply reply_head opaque_auth opaque fixed word
accepted_head_long size xid stat = refl

-- the record is its head, and then its results
pub accepted_parted : (xid stat : ℕ) (results : List ℕ)
    → accepted_record xid stat results ≡ (behind_mark accepted_reply).spelling (accepted_head (length results) xid stat)
    ++ results
unfolding accepted_record marked behind_mark
accepted_parted xid stat results =
    let head = accepted_reply.spelling (accepted xid stat) in
    let long : length (head ++ results) ≡ 24 + length results = length-append head results
    ∙ ap (λ n. n + length results) (accepted_long xid stat) in
    ap (λ n. word.spelling (2 ^ 31 + n) ++ (head ++ results)) long ∙ rw append-nil (search (rules, append_assoc))

-- results that are put behind a head of their length make it a record
pub accepted_behind : {A E : Type 0} (result : Result A E) (old new : List ℕ) (size xid stat : ℕ)
    → OnOk result (new ≡ old ++ (behind_mark accepted_reply).spelling (accepted_head size xid stat))
    → OnOk result ((results : List ℕ) → length results ≡ size → new ++ results ≡ old ++ accepted_record xid stat results)
accepted_behind (Ok x) old new size xid stat gained = λ results long.
    ap (λ (front : List ℕ). front ++ results) gained
    ∙ append_assoc old ((behind_mark accepted_reply).spelling (accepted_head size xid stat)) results
    ∙ ap (λ (n : ℕ). old ++ ((behind_mark accepted_reply).spelling (accepted_head n xid stat) ++ results)) (sym long)
    ∙ ap (λ (t : List ℕ). old ++ t) (sym (accepted_parted xid stat results))
accepted_behind (Err e) old new size xid stat gained = gained

pub denied_two-spelled : (xid : ℕ) (words : List ℕ) → length words ≡ 3
    → denied_record xid 2 words ≡ (behind_mark reply_head).spelling (marked_head 20 xid 1) ++
    (word.spelling (slice_index words 0) ++ word.spelling (slice_index words 1))
unfolding denied_record marked behind_mark reply_head word items
denied_two-spelled xid (a ∷ b ∷ c ∷ []) long = refl
denied_two-spelled xid [] long = absurd cc
denied_two-spelled xid (a ∷ []) long = absurd cc
denied_two-spelled xid (a ∷ b ∷ []) long = absurd cc
denied_two-spelled xid (a ∷ b ∷ c ∷ d ∷ more) long = absurd cc

pub denied_three-spelled : (xid : ℕ) (words : List ℕ) → length words ≡ 3
    → denied_record xid 3 words ≡ (behind_mark reply_head).spelling (marked_head 24 xid 1) ++
    (word.spelling (slice_index words 0) ++ (word.spelling (slice_index words 1) ++ word.spelling (slice_index words 2)))
unfolding denied_record marked behind_mark reply_head word items
denied_three-spelled xid (a ∷ b ∷ c ∷ []) long = refl
denied_three-spelled xid [] long = absurd cc
denied_three-spelled xid (a ∷ []) long = absurd cc
denied_three-spelled xid (a ∷ b ∷ []) long = absurd cc
denied_three-spelled xid (a ∷ b ∷ c ∷ d ∷ more) long = absurd cc
