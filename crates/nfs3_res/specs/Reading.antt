-- What a reader of results gave, where it may want memory.
use Rattle.std.specs.Prelude.{◌≡◌, ⊤, ℕ, List, Result, Ok, Err}
use Rattle.xdr_grammar.specs.declared.fault.XdrFault.{XdrFault}
use Rattle.xdr_grammar.specs.Grammar.{Grammar, and_then}
use Rattle.xdr_grammar.specs.Whole.{whole, BreaksWhole}
use Rattle.nfs3_types.specs.declared.reply.Reply.{Reply}
use Rattle.nfs3_types.specs.Replies.{Outcome, result_of, reply_of}
use Rattle.nfs3_res.specs.declared.fault.ResFault.{ResFault}
use Rattle.nfs3_res.specs.declared.fault.ResFault.TheVariants as faults

-- the fault is the reading's; want of memory says nothing of it
abbrev pub Fails : {A : Type 0} → Result A XdrFault → ResFault → Type 0
Fails reading (faults.Bad fault) = reading ≡ Err fault
Fails reading faults.NoMemory = ⊤

-- the result is this reading, unless memory ran out
abbrev pub Tells : {A : Type 0} → Result (A × List ℕ) XdrFault → List ℕ → Result A ResFault → Type 0
Tells reading new (Ok x) = reading ≡ Ok (x, new)
Tells reading new (Err e) = Fails reading e

-- the reader gave what the grammar reads, unless memory ran out
abbrev pub GivesOwn : {A : Type 0} → Grammar A → List ℕ → List ℕ → Result A ResFault → Type 0
GivesOwn g old new result = Tells (g.read old) new result

-- the rest of the text behind what was read
abbrev pub rest_of : {A : Type 0} → Result (A × List ℕ) XdrFault → Result (List ℕ) XdrFault
rest_of reading = and_then reading (λ x. Ok x.1)

-- the reader passed what the grammar reads
abbrev pub Passes : {A : Type 0} → Grammar A → List ℕ → List ℕ → Result Unit XdrFault → Type 0
Passes g old new (Ok _) = rest_of (g.read old) ≡ Ok new
Passes g old new (Err fault) = g.read old ≡ Err fault

-- the reply of the result at the front of a text
abbrev pub reply_at : ℕ → List ℕ → Result (Reply × List ℕ) XdrFault
reply_at procedure bytes = and_then ((result_of procedure).read bytes) (λ x. Ok (reply_of procedure x.0, x.1))

-- ---- of a whole text

-- the reply of the result that is the whole text
abbrev pub reply_in : ℕ → List ℕ → Result Reply XdrFault
reply_in procedure bytes = and_then (whole (result_of procedure) bytes) (λ outcome. Ok (reply_of procedure outcome))

-- the result is this reading of a whole text, unless memory ran out
abbrev pub TellsWhole : {A : Type 0} → Result A XdrFault → Result A ResFault → Type 0
TellsWhole reading (Ok x) = reading ≡ Ok x
TellsWhole reading (Err e) = Fails reading e

-- the reply of the result that the text spells
pub record IsReplyOf (procedure : ℕ) (text : List ℕ) (reply : Reply) : Type 0 where
  pub outcome : Outcome
  pub spelled : (result_of procedure).Spells outcome text
  pub is : reply ≡ reply_of procedure outcome

-- this reply, unless memory ran out
abbrev pub Answers : Reply → Result Reply ResFault → Type 0
Answers reply (Ok r) = r ≡ reply
Answers reply (Err faults.NoMemory) = ⊤
Answers reply (Err (faults.Bad fault)) = ⊥

-- the text has this fault; want of memory says nothing of it
abbrev pub IsFaultOf : ℕ → List ℕ → ResFault → Type 0
IsFaultOf procedure text (faults.Bad fault) = BreaksWhole (result_of procedure) text fault
IsFaultOf procedure text faults.NoMemory = ⊤
