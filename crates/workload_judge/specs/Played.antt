-- The workload of a number on the plain tree.
use Rattle.std.specs.Prelude.{◌≡◌, ◌+◌, ◌%◌, ℕ, zero, suc, List, [], ◌∷◌, length, Some}
use Rattle.nfs3_types.specs.declared.cred.Cred.{Cred}
use Rattle.nfs3_types.specs.declared.moment.Moment.{Moment}
use Rattle.nfs3_types.specs.Calls.{Call}
use Rattle.fs_rules.specs.Answers.{Asked, after, answer}
use Rattle.fs_rules.specs.Tree.{Tree, first_tree}
use Rattle.plain_nodes.specs.Counts.{IsListed, Lists, bytes_at}
use Rattle.workload.specs.Drive.{Drive, Replies, drive}
use Rattle.workload.specs.Driving.{Driving, DriverAt}
use Rattle.workload_judge.specs.declared.counts.Counts.{Counts}

-- user 0, of group 0 and no other
abbrev pub caller : Cred
caller = record { uid = 0; gid = 0; gids = [] }

-- all times of the first tree
abbrev pub first_moment : Moment
first_moment = record { seconds = 0; nanos = 0 }

-- fss, and the number 1
abbrev pub verifier : List ℕ
verifier = 102 ∷ 115 ∷ 115 ∷ 0 ∷ 0 ∷ 0 ∷ 0 ∷ 1 ∷ []

-- what the plain tree is asked: the call's lane is its pass
abbrev pub asked_by : Drive → Asked
asked_by next = record { cred = caller; call = next.call; now = next.moment; lane = next.pass }

-- what the plain tree is asked by this call, after so many
abbrev pub asks : ℕ → Call → Asked
asks calls call = record { cred = caller; call = call; now = record { seconds = calls + 1; nanos = 0 }; lane = calls % 4 }

-- the tree and the replies after some calls, the newest first
pub record Played : Type 0 where
  pub tree : Tree
  pub replies : Replies

abbrev pub answered : Played → Asked → Played
answered p asked = record { tree = after p.tree asked; replies = Some (answer p.tree asked) ∷ p.replies }

-- after so many calls of this number
unfoldable pub played : ℕ → ℕ → ℕ → Played
played number rough zero = record { tree = first_tree 4294967296 verifier first_moment; replies = [] }
played number rough (suc calls) =
    answered (played number rough calls) (asked_by (drive number rough (played number rough calls).replies))

-- the tree and the driver stand after so many calls
pub record PlayedTo (number rough calls : ℕ) (tree : Tree) (driver : Driving) : Type 0 where
  pub tree_is : tree ≡ (played number rough calls).tree
  pub driver_at : DriverAt number rough (played number rough calls).replies driver

-- the counts are those of the live tree, whose nodes can be listed
pub record IsCounted (tree : Tree) (counts : Counts) : Type 0 where
  pub nodes : (ids : List ℕ) → Lists tree.nodes ids → counts.nodes ≡ length ids
  pub bytes : (ids : List ℕ) → Lists tree.nodes ids → counts.bytes ≡ bytes_at tree.nodes ids
  pub listed : IsListed tree.nodes
