-- What reading the head of a message gives, by the length of the text.
use Rattle.std.proofs.Common.{◌≡◌, ℕ, ◌+◌, ◌<◌, ◌≤◌, ◌≢◌, List, length, take, drop, Result, Ok, Err, refl, sym, ◌∙◌, ap, arith}
use Rattle.std.proofs.Common.{rules}
use Rattle.std.proofs.lemmas.List.{length-drop}
use Rattle.std.proofs.lemmas.Bool.Decides.{nat_tests}
use Rattle.byteorder.specs.Endian.{big_number}
use Rattle.xdr_grammar.specs.declared.fault.XdrFault.{XdrFault}
use Rattle.xdr_grammar.specs.Items.{word}
use Rattle.xdr_grammar.specs.Laws.{Laws}
use Rattle.xdr_grammar.proofs.Rules.{grammar_laws}
use Rattle.xdr_grammar.proofs.Whole.{takes_size}
use Rattle.rpc_msg.specs.Message.{MessageHead, message_head, kind_of, HasNoCall}

pub word_reads : (bytes : List ℕ) → 4 ≤ length bytes → word.read bytes ≡ Ok (big_number 4 (take 4 bytes), drop 4 bytes)
unfolding word
word_reads bytes h = search (rules, nat_tests)

four_more : (bytes : List ℕ) (k : ℕ) → k + 4 ≤ length bytes → k ≤ length (drop 4 bytes)
four_more bytes k h = rw length-drop (omega arith)

abbrev pub words_of : List ℕ → MessageHead
words_of text = record {
  xid = big_number 4 (take 4 text);
  kind = big_number 4 (take 4 (drop 4 text));
  rpcvers = big_number 4 (take 4 (drop 4 (drop 4 text)));
  prog = big_number 4 (take 4 (drop 4 (drop 4 (drop 4 text))));
  vers = big_number 4 (take 4 (drop 4 (drop 4 (drop 4 (drop 4 text)))));
  procedure = big_number 4 (take 4 (drop 4 (drop 4 (drop 4 (drop 4 (drop 4 text))))));
}

abbrev pub behind : List ℕ → List ℕ
behind text = drop 4 (drop 4 (drop 4 (drop 4 (drop 4 (drop 4 text)))))

pub head_reads : (text : List ℕ) → 24 ≤ length text → message_head.read text ≡ Ok (words_of text, behind text)
unfolding message_head
head_reads text h =
    let h1 = four_more text 20 h in
    let h2 = four_more (drop 4 text) 16 h1 in
    let h3 = four_more (drop 4 (drop 4 text)) 12 h2 in
    let h4 = four_more (drop 4 (drop 4 (drop 4 text))) 8 h3 in
    let h5 = four_more (drop 4 (drop 4 (drop 4 (drop 4 text)))) 4 h4 in
    rw (word_reads text (omega arith))
    (rw (word_reads (drop 4 text) (omega arith))
    (rw (word_reads (drop 4 (drop 4 text)) (omega arith))
    (rw (word_reads (drop 4 (drop 4 (drop 4 text))) (omega arith))
    (rw (word_reads (drop 4 (drop 4 (drop 4 (drop 4 text)))) (omega arith))
    (rw (word_reads (drop 4 (drop 4 (drop 4 (drop 4 (drop 4 text))))) h5) refl)))))

-- a text that is long enough has a head
pub no_fault : (text : List ℕ) (fault : XdrFault) → 24 ≤ length text → message_head.read text ≡ Err fault → ⊥
no_fault text fault h e = let ok = head_reads text h in cc

-- the second word is the kind
same_pair : (p q : MessageHead × List ℕ) (read : Result (MessageHead × List ℕ) XdrFault) → read ≡ Ok p → read ≡ Ok q → p ≡ q
same_pair p q read e f = cc

pub kind_read : (text : List ℕ) (m : MessageHead) (rest : List ℕ) → 24 ≤ length text → message_head.read text ≡ Ok (m, rest)
    → m.kind ≡ kind_of text
unfolding kind_of
kind_read text m rest h e =
    ap (λ (p : MessageHead × List ℕ). p.0.kind)
    (same_pair (m, rest) (words_of text, behind text) (message_head.read text) e (head_reads text h))

pub message_head-laws : Laws message_head
unfolding message_head
message_head-laws = search grammar_laws depth 40

size_is : (m : MessageHead) → message_head.size m ≡ 24
unfolding message_head word
size_is m = refl

-- a text that is too short has no head
pub short_has_none : (text : List ℕ) → length text < 24 → HasNoCall text
short_has_none text h m rest e =
    absurd (let size = size_is m in omega (arith, takes_size message_head message_head-laws text m rest e))

-- a second word that is not 0 begins no call
pub other_has_none : (text : List ℕ) → 24 ≤ length text → kind_of text ≢ 0 → HasNoCall text
other_has_none text h other m rest e zero = other (sym (kind_read text m rest h e) ∙ zero)
