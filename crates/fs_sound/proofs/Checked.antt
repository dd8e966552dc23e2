-- What is known once a check has passed.
use Rattle.std.proofs.Common.{◌∙◌, ap, ◌≡◌, ℕ, Bool, true, false, not, List, Option, Some, None, Ok, Err, refl, ap}
use Rattle.nfs3_types.specs.declared.args.DirOp.{DirOp}
use Rattle.nfs3_types.specs.declared.status.Status.{Status}
use Rattle.fs_rules.specs.Attributes.{is_directory}
use Rattle.fs_rules.specs.Checks.{Check, find_directory, find_object, is_live, need_place_for, no_fault, refuse_if, ◌>>=◌}
use Rattle.fs_rules.specs.Names.{named}
use Rattle.fs_rules.specs.Places.{Object, entry_at, leads_to, names_of, node_at}
use Rattle.fs_rules.specs.Tree.{Node, Tree}
use Rattle.fs_rules.specs.declared.place.Place.TheVariants.{Live}
use Rattle.fs_laws.proofs.MakingWithin.{leads_live}
use Rattle.fs_laws.proofs.Places.{IsLive, IsPlace, live_found, live_kind, place_for, place_of_name}

-- ---- steps

-- the first step passed, and so did the rest
pub record Both {A B : Type 0} (r : Check A) (next : A → Check B) (b : B) : Type 0 where
  pub value : A
  pub first : r ≡ Ok value
  pub rest : next value ≡ Ok b

pub both : {A B : Type 0} (r : Check A) (next : A → Check B) (b : B) → (r >>= next) ≡ Ok b → Both r next b
both (Ok a) next b e = record { value = a; first = refl; rest = e }
both (Err status) next b e = absurd cc

-- the test did not refuse
pub passed : {B : Type 0} (test : Bool) (status : Status) (next : Unit {0} → Check B) (b : B)
    → (refuse_if test status >>= next) ≡ Ok b → (test ≡ false) × (next tt ≡ Ok b)
passed true status next b e = absurd cc
passed false status next b e = (refl, e)

pub no_fault_ok : (fault : Option Status) (u : Unit {0}) → no_fault fault ≡ Ok u → fault ≡ None
no_fault_ok (Some status) u e = absurd cc
no_fault_ok None u e = refl

-- ---- what was found

-- a node of the live tree, and its number
pub record LiveNode : Type 0 where
  pub fileid : ℕ
  pub node : Node

-- a live directory: it is there, and is one
pub record StandsLive (t : Tree) (l : LiveNode) : Type 0 where
  pub is : t.nodes l.fileid ≡ Some l.node
  pub kind : is_directory l.node.inode.kind ≡ true

-- the object is one
pub record IsLiveDirectory (t : Tree) (o : Object) : Type 0 where
  pub node : LiveNode
  pub stands : StandsLive t node
  pub live : IsLive t node.fileid node.node o

place_is : (t : Tree) (fileid : ℕ) (n : Node) (o : Object) (name : List ℕ) → IsPlace t fileid n o name → IsLiveDirectory t o
place_is t fileid n o name at = record {
  node = record { fileid = fileid; node = n };
  stands = record { is = at.live.stands; kind = ap is_directory at.kind };
  live = at.live;
}

pub directory_ok : (t : Tree) (a : DirOp (List ℕ)) (o : Object) → find_directory t a ≡ Ok o → IsLiveDirectory t o
directory_ok t a o e = place_of_name t a o e (λ fileid n at. place_is t fileid n o a.name at)

pub place_ok : (t : Tree) (bytes : List ℕ) (o : Object) (name : List ℕ) (u : Unit {0}) → find_object t bytes ≡ Ok o
    → need_place_for o name ≡ Ok u
    → IsLiveDirectory t o
place_ok t bytes o name u is e = place_for t bytes o name u is e (λ fileid n at. place_is t fileid n o name at)

pub live_directory_ok : (t : Tree) (bytes : List ℕ) (o : Object) → find_object t bytes ≡ Ok o
    → not (is_directory o.inode.kind) ≡ false
    → not (is_live o.place) ≡ false → IsLiveDirectory t o
live_directory_ok t bytes o is kind live = live_found t bytes o is live (λ fileid n alive. record {
  node = record { fileid = fileid; node = n };
  stands = record { is = alive.stands; kind = ap is_directory (live_kind t fileid n o alive kind) };
  live = alive;
})

-- the entry of a name in it
pub entry_here : (t : Tree) (fileid : ℕ) (n : Node) (name : List ℕ) → t.nodes fileid ≡ Some n
    → entry_at t (Live fileid) name ≡ named name n.names
unfolding entry_at node_at
entry_here t fileid n name is = ap (λ (o : Option Node). named name (names_of o)) is

pub entry_of : (t : Tree) (o : Object) (l : IsLiveDirectory t o) (name : List ℕ)
    → entry_at t o.place name ≡ named name l.node.node.names
entry_of t o l name =
    ap (λ (x : Object). entry_at t x.place name) l.live.same ∙ entry_here t l.node.fileid l.node.node name l.stands.is

-- what a name leads to is there
pub record LeadsTo (t : Tree) (fileid : ℕ) (o : Object) : Type 0 where
  pub node : Node
  pub live : IsLive t fileid node o

pub leads_ok : (t : Tree) (fileid : ℕ) (o : Object) → leads_to t (Live fileid) ≡ Some o → LeadsTo t fileid o
leads_ok t fileid o e = leads_live t fileid o e (λ n is. record { node = n; live = is })
