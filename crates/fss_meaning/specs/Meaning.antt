-- What pages stand for as a file tree, and where a call leads.
use Rattle.std.specs.Prelude.{ℕ, ◌≡◌, ◌⊎◌, List, None, Err, true}
use Rattle.nfs3_types.specs.Calls.{Call, procedure_of}
use Rattle.nfs3_types.specs.declared.entry.Entry.{Entry}
use Rattle.nfs3_types.specs.declared.reply.Reply.{Reply}
use Rattle.nfs3_types.specs.declared.status.Status.TheVariants.{Ok as StatusOk, NoSpc}
use Rattle.pair_types.specs.declared.fault.PageFault.{PageFault}
use Rattle.pair_types.specs.PageMaps.{PageMap}
use Rattle.pair_types.specs.PageState.{PageState}
use Rattle.btree_page.specs.Content.{Content, Spells}
use Rattle.pairs.specs.Versions.{Versions}
use Rattle.birth_death.specs.Shows.{Shows}
use Rattle.fs_rules.specs.Answers.{Asked, answer, after, is_changing, reply_by}
use Rattle.fs_rules.specs.Tree.{Tree}
use Rattle.fs_shows.specs.Shows.{Stands}

-- ---- what pages stand for

abbrev pub nothing_written : PageMap
nothing_written slot = None

-- a transaction over so many stores that has read and written nothing
abbrev pub untouched : ℕ → PageState
untouched stores = record { stores = stores; below = None; reads = λ slot. None; writes = nothing_written; faults = λ fault. 0 }

-- Pages of so many stores stand for a tree: they are a B-tree of records, with blocks beside it, which show versions that
-- stand for it.
pub record PagesStand (stores : ℕ) (pages : PageMap) (t : Tree) : Type 0 where
  pub versions : Versions
  pub shown : Shows (untouched stores) pages versions
  pub stands : Stands versions t

-- ---- where a call leads

abbrev pub asked_in : Entry → Asked
asked_in e = record { cred = e.cred; call = e.call; now = e.moment; lane = e.lane }

-- the table answers the call so, and the tree behind it is the next one
pub record IsAnswered (t next : Tree) (e : Entry) : Type 0 where
  pub reply : e.reply ≡ answer t (asked_in e)
  pub tree : next ≡ after t (asked_in e)

-- the reply that says that there is no space
abbrev pub no_space : Call → Reply
no_space call = reply_by (procedure_of call) (Err NoSpc)

-- the root page is as high as roots get
pub record IsHighest (page : List ℕ) : Type 0 where
  pub content : Content
  pub spelled : Spells content page
  pub highest : content.level ≡ 64

-- The table would change the tree by the call, but the root page is as high as roots get: it is answered NOSPC, and the tree
-- stays.
pub record IsFull (t next : Tree) (page : List ℕ) (e : Entry) : Type 0 where
  pub changing : is_changing e.call ≡ true
  pub would : (answer t (asked_in e)).status ≡ StatusOk
  pub high : IsHighest page
  pub reply : e.reply ≡ no_space e.call
  pub stays : next ≡ t

-- from a tree, with this root page, the call of an entry leads to the next one
abbrev pub GoesOn : Tree → List ℕ → Entry → Tree → Type 0
GoesOn t page e next = IsAnswered t next e ⊎ IsFull t next page e
