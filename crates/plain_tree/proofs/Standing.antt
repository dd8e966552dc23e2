-- What a handle leads to stands in the tree, so that what the checks show of it is true of the node of its number.
use Rattle.std.proofs.Common.{◌≡◌, ℕ, ◌<◌, ◌^◌, nat_le, ◌&&◌, Bool, true, false, Option, Some, None, IfSome, Ok, option_map, refl}
use Rattle.std.proofs.Common.{sym, subst, ap, arith}
use Rattle.nfs3_types.specs.declared.attributes.Sattr.{Sattr}
use Rattle.nfs3_types.specs.declared.cred.Cred.{Cred}
use Rattle.nfs3_types.specs.declared.file_type.FileType.{FileType}
use Rattle.nfs3_types.specs.declared.status.Status.{Status}
use Rattle.fs_rules.specs.declared.place.Place.{Place}
use Rattle.fs_rules.specs.declared.place.Place.TheVariants.{Live, SnapshotDirectory, Kept}
use Rattle.fs_rules.specs.Attributes.{is_file, is_too_large}
use Rattle.fs_rules.specs.Checks.{◌>>=◌, is_live, refuse_if}
use Rattle.fs_rules.specs.Limits.{most_numbers}
use Rattle.fs_rules.specs.Making.{is_of_others, is_others, lacks_cookies, lacks_links, lacks_numbers, need_new_node}
use Rattle.fs_rules.specs.Places.{Object, fileid_at, node_at, object_at, object_by}
use Rattle.fs_rules.specs.Tree.{Node, Tree, next_fileid}
use Rattle.plain_tree.specs.Needs.{CanMake, Stands}

placed_by : (place : Place) (n : Option Node) (o : Object) → option_map (object_by place) n ≡ Some o → place ≡ o.place
placed_by place (Some n) o e =
    let same : object_by place n ≡ o = cc in
    ap (λ (x : Object). x.place) same
placed_by place None o e = absurd cc

pub stands_by : (t : Tree) (place : Place) (o : Object) → object_at t place ≡ Some o → Stands t o
unfolding object_at
stands_by t place o e = subst (λ (p : Place). object_at t p ≡ Some o) (placed_by place (node_at t place) o e) e

live_is : (place : Place) → is_live place ≡ true → place ≡ Live (fileid_at place)
live_is (Live fileid) e = refl
live_is SnapshotDirectory e = absurd cc
live_is (Kept number fileid) e = absurd cc

has_by : (P : Object → Type 0) (place : Place) (n : Option Node) (o : Object) → option_map (object_by place) n ≡ Some o → P o
    → IfSome n (λ n. P (object_by place n))
has_by P place (Some n) o e h =
    let same : object_by place n ≡ o = cc in
    subst P (sym same) h
has_by P place None o e h = tt

-- what is true of what stands at a number is true of its node
pub at_has : (P : Object → Type 0) (t : Tree) (fileid : ℕ) (o : Object) → object_at t (Live fileid) ≡ Some o → P o
    → IfSome (t.nodes fileid) (λ n. P (object_by (Live fileid) n))
unfolding object_at node_at
at_has P t fileid o e h = has_by P (Live fileid) (t.nodes fileid) o e h

pub live_has : (P : Object → Type 0) (t : Tree) (o : Object) → Stands t o → is_live o.place ≡ true → P o
    → IfSome (t.nodes (fileid_at o.place)) (λ n. P (object_by (Live (fileid_at o.place)) n))
live_has P t o stands live h =
    at_has P t (fileid_at o.place) o (subst (λ (p : Place). object_at t p ≡ Some o) (live_is o.place live) stands) h

-- ---- a new node

last_three : (a b c d e f : Bool) (p q r s v w : Status) (u : Unit {0})
    → (refuse_if a p >>= (λ _. refuse_if b q >>=
    (λ _. refuse_if c r >>= (λ _. refuse_if d s >>= (λ _. refuse_if e v >>= (λ _. refuse_if f w))))))
    ≡ Ok u
    → (d ≡ false) × (e ≡ false) × (f ≡ false)
last_three true b c d e f p q r s v w u is = absurd cc
last_three false true c d e f p q r s v w u is = absurd cc
last_three false false true d e f p q r s v w u is = absurd cc
last_three false false false true e f p q r s v w u is = absurd cc
last_three false false false false true f p q r s v w u is = absurd cc
last_three false false false false false true p q r s v w u is = absurd cc
last_three false false false false false false p q r s v w u is = (refl, refl, refl)

below : (n : ℕ) → nat_le most_numbers n ≡ false → n < 2 ^ 62
unfolding most_numbers
below n e = grind (arith, e)

-- the checks of a new node show that it can be made
pub can_make : (t : Tree) (cred : Cred) (lane : ℕ) (kind : FileType) (s : Sattr) (o : Object) (u : Unit {0})
    → Stands t o → is_live o.place ≡ true → need_new_node t cred lane o.inode kind s ≡ Ok u
    → CanMake t lane kind (fileid_at o.place)
unfolding need_new_node
can_make t cred lane kind s o u stands live e =
    let parts = last_three (is_others cred s.uid) (is_of_others cred s.gid) (is_file kind && is_too_large s.size)
    (lacks_links kind o.inode)
    (lacks_numbers t lane) (lacks_cookies o.inode) _ _ _ _ _ _ u e in
    record {
      number = below (next_fileid t lane) parts.1;
      links = live_has (λ (o : Object). lacks_links kind o.inode ≡ false) t o stands live parts.0;
      cookies = live_has (λ (o : Object). lacks_cookies o.inode ≡ false) t o stands live parts.2;
    }
