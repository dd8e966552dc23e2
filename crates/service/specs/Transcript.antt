-- The replies of a tree for which memory always suffices.
use Rattle.std.specs.Prelude.{ℕ, Bool, true, false, List, [], ◌∷◌, ◌++◌, map}
use Rattle.nfs3_types.specs.declared.moment.Moment.{Moment}
use Rattle.rpc_route.specs.Immediate.{Immediate, Bad, Replied, Needs, immediate_reply}
use Rattle.rpc_route.specs.Sealing.{sealed}
use Rattle.service.specs.Turns.{Answering, Outcome, Ready, Told, Starved, Turn, cred_of}

-- the reply to one record, and then those to the others
abbrev pub replied : {T : Type 0} → Answering T → T → Immediate → List Moment → (T → List Moment → List ℕ) → List ℕ
replied a tree (Bad fault) moments others = []
replied a tree (Replied reply) moments others = reply ++ others tree moments
replied a tree (Needs xid caller call) [] others = []
replied a tree (Needs xid caller call) (moment ∷ moments) others =
    sealed xid (a.answer tree (cred_of caller) call moment) ++ others (a.after tree (cred_of caller) call moment) moments

-- the replies to these records from this tree on, where each that needs the tree takes the next moment
abbrev pub transcript : {T : Type 0} → Answering T → T → List (List ℕ) → List Moment → List ℕ
transcript a tree [] moments = []
transcript a tree (content ∷ records) moments =
    replied a tree (immediate_reply a.fsid content) moments (λ next later. transcript a next records later)

abbrev pub is_starved : Outcome → Bool
is_starved Ready = false
is_starved (Told moment reply) = false
is_starved (Starved moment) = true

-- at which of the turns memory ran out
abbrev pub starved : List Turn → List Bool
starved turns = map (λ t. is_starved t.outcome) turns

abbrev pub unless : Bool → Turn → List Turn → List Turn
unless true t turns = []
unless false t turns = t ∷ turns

-- the turns up to the first at which it did
abbrev pub fed : List Turn → List Turn
fed [] = []
fed (t ∷ turns) = unless (is_starved t.outcome) t (fed turns)
