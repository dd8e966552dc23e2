-- Histories of calls on the plain tree, the oldest entry first: which are legal, and the tree to which they lead.
use Rattle.std.specs.Prelude.{◌≡◌, if◌then◌else◌, true, List, [], ◌∷◌, ◌⊎◌}
use Rattle.nfs3_types.specs.declared.body.Body.TheVariants.{Nothing}
use Rattle.nfs3_types.specs.declared.entry.Entry.{Entry}
use Rattle.nfs3_types.specs.declared.status.Status.TheVariants.{NoSpc}
use Rattle.nfs3_types.specs.Calls.{procedure_of}
use Rattle.nfs3_types.specs.Replies.{is_ok}
use Rattle.fs_rules.specs.Answers.{Asked, after, answer, is_changing}
use Rattle.fs_rules.specs.Tree.{Tree}

-- what the plain tree is asked by an entry
abbrev pub asked_of : Entry → Asked
asked_of e = record { cred = e.cred; call = e.call; now = e.moment; lane = e.lane }

-- ---- what is legal

-- the entry was answered as the answer table has it, and leads to the table's tree
pub record IsAnswered (t : Tree) (e : Entry) (next : Tree) : Type 0 where
  pub reply_is : e.reply ≡ answer t (asked_of e)
  pub next_is : next ≡ after t (asked_of e)

-- A call that changes the tree, and would have succeeded, was answered that there is no room, and changed nothing
-- (RFC 1813, section 2.6, NFS3ERR_NOSPC). Whether there was room is no part of an entry.
pub record FoundNoRoom (t : Tree) (e : Entry) (next : Tree) : Type 0 where
  pub changing : is_changing e.call ≡ true
  pub would : is_ok (answer t (asked_of e)).status ≡ true
  pub reply_is : e.reply ≡ record { procedure = procedure_of e.call; status = NoSpc; body = Nothing }
  pub next_is : next ≡ t

-- an entry meets a tree in one of two ways, and leads to the next
abbrev pub Meets : Tree → Entry → Tree → Type 0
Meets t e next = IsAnswered t e next ⊎ FoundNoRoom t e next

-- entries lead from one tree to another: they are legal where they lead somewhere
abbrev pub Goes : Tree → List Entry → Tree → Type 0
Goes from [] to = from ≡ to
Goes from (e ∷ es) to = (mid : Tree) × Meets from e mid × Goes mid es to

-- ---- the tree after any list

-- a call that succeeded leaves the table's tree, and one that failed the tree as it was
abbrev pub moved : Tree → Entry → Tree
moved t e = if is_ok e.reply.status then after t (asked_of e) else t

abbrev pub tree_after : Tree → List Entry → Tree
tree_after t [] = t
tree_after t (e ∷ es) = tree_after (moved t e) es
