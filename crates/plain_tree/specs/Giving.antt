-- What a check or a call in code gave, beside what it is in the answer table; memory may have run out instead.
use Rattle.std.specs.Prelude.{◌≡◌, ⊤, IfOk, OnErr, Result, Ok, Err}
use Rattle.nfs3_types.specs.declared.body.Body.{Body}
use Rattle.nfs3_types.specs.declared.memory.NoMemory.{NoMemory as WantOfMemory}
use Rattle.nfs3_types.specs.declared.reply.Reply.{Reply}
use Rattle.fs_rules.specs.Answers.{Asked, after, answer}
use Rattle.fs_rules.specs.Checks.{Check, IsRefused, Row}
use Rattle.fs_rules.specs.Tree.{Tree}
use Rattle.plain_tree.specs.declared.fault.Fault.{Fault}
use Rattle.plain_tree.specs.declared.fault.Fault.TheVariants.{Refused, NoMemory}

-- the refusal is the check's; want of memory says nothing of it
abbrev pub Fails : {A : Type 0} → Check A → Fault → Type 0
Fails check (Refused status) = check ≡ Err status
Fails check NoMemory = ⊤

-- the result is the check's, unless memory ran out
abbrev pub GivesOwn : {A : Type 0} → Check A → Result A Fault → Type 0
GivesOwn check (Ok a) = check ≡ Ok a
GivesOwn check (Err fault) = Fails check fault

-- ---- of a call that can change the tree

-- the call has no result, and the tree is as it was; want of memory says nothing of the row
abbrev pub Stops : Row → Tree → Tree → Fault → Type 0
Stops row old new (Refused status) = IsRefused row old new status
Stops row old new NoMemory = new ≡ old

-- the body and the tree that is there now are the row's, unless memory ran out
abbrev pub DoesOwn : Row → Tree → Tree → Result Body Fault → Type 0
DoesOwn row old new (Ok body) = row ≡ Ok (record { body = body; tree = new })
DoesOwn row old new (Err fault) = Stops row old new fault

-- ---- of a call that is answered

-- the reply and the tree after it are the table's
pub record IsDone (asked : Asked) (old new : Tree) (reply : Reply) : Type 0 where
  pub reply_is : reply ≡ answer old asked
  pub tree_is : new ≡ after old asked

-- the call was answered as the table has it; or memory ran out, and the tree is as it was
pub record Answers (asked : Asked) (old new : Tree) (result : Result Reply WantOfMemory) : Type 0 where
  pub ok : IfOk result (IsDone asked old new)
  pub err : OnErr result (new ≡ old)
