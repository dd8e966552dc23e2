-- The tree that the service answers on: the answer table, in one lane.
use Rattle.std.specs.Prelude.{ℕ, ◌^◌, List, [], ◌∷◌}
use Rattle.nfs3_types.specs.declared.moment.Moment.{Moment}
use Rattle.nfs3_types.specs.declared.cred.Cred.{Cred}
use Rattle.nfs3_types.specs.declared.reply.Reply.{Reply}
use Rattle.nfs3_types.specs.Calls.{Call}
use Rattle.fs_rules.specs.Tree.{Tree, first_tree}
use Rattle.fs_rules.specs.Answers.{answer, after}
use Rattle.service.specs.Turns.{Answering}

-- the file system that is exported
abbrev pub fsid : ℕ
fsid = 2 ^ 32

-- what tells a client that the server did not lose what it wrote: "fss", four zeros and a 1
abbrev pub verifier : List ℕ
verifier = 102 ∷ 115 ∷ 115 ∷ 0 ∷ 0 ∷ 0 ∷ 0 ∷ 1 ∷ []

-- the tree that is made at this moment
abbrev pub made_at : Moment → Tree
made_at first = first_tree fsid verifier first

-- the tree before it begins at the clock's first moment: its times say nothing
abbrev pub not_begun : Tree
not_begun = made_at (record { seconds = 0; nanos = 0 })

-- the answer table, in the first lane
unfoldable pub answer_in_lane : Tree → Cred → Call → Moment → Reply
answer_in_lane tree cred call now = answer tree (record { cred = cred; call = call; now = now; lane = 0 })

unfoldable pub after_in_lane : Tree → Cred → Call → Moment → Tree
after_in_lane tree cred call now = after tree (record { cred = cred; call = call; now = now; lane = 0 })

abbrev pub answering : Answering Tree
answering = record { fsid = fsid; answer = answer_in_lane; after = after_in_lane }
