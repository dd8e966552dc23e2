-- The inode that is read says the parent.
use Rattle.std.proofs.Common.{◌≡◌, ℕ, Option, Some, None, refl, sym, ap, subst}
use Rattle.std.specs.Prelude.{⊤}
use Rattle.fs_rules.specs.declared.inode.Inode.{Inode as Kept}
use Rattle.fs_rules.specs.declared.place.Place.TheVariants.{Live as LivePlace}
use Rattle.fs_rules.specs.Places.{node_at}
use Rattle.fs_rules.specs.Renaming.{parent_of}
use Rattle.fs_rules.specs.Tree.{Tree, Node}
use Rattle.pairs.specs.declared.at.At.TheVariants.{Live}
use Rattle.fs_keys.specs.declared.inode.Inode.{Inode}
use Rattle.fs_shows.specs.Views.{IsKept, IsFoundAs}
use Rattle.procs_object.proofs.Reading.{reads-more}
use Rattle.procs_rename.proofs.climbing.parent_of.Goals as goal

above-some : (id : ℕ) (i : Inode) (o : Option Node) → IsFoundAs (Some i) o → parent_of o id ≡ i.head.kept.parent
above-some id i None found = absurd found
above-some id i (Some n) found = sym (ap (λ (k : Kept). k.parent) found.kept)

above-none : (id : ℕ) (o : Option Node) → IsFoundAs None o → parent_of o id ≡ id
above-none id None found = refl
above-none id (Some n) found = absurd found

above-is : (t : Tree) (id up : ℕ) (i j : Option Inode) → i ≡ j → ((o : Option Node) → IsFoundAs j o → parent_of o id ≡ up)
    → IsFoundAs i (node_at t (LivePlace id)) → parent_of (t.nodes id) id ≡ up
unfolding node_at
above-is t id up i j same says is =
    let P : Option Inode → Type 0 = λ i. IsFoundAs i (t.nodes id) in says (t.nodes id) (subst P same is)

pub returns-in-Some-clause-ok : goal.returns-in-Some-clause-ok
returns-in-Some-clause-ok g c =
    let up = c.in-Some.inode.head.kept.parent in
    reads-more g.P.Pairs.told c.args.pairs.now c.load.new.pairs (λ t. ⊤) (IsKept Live)
    (λ t. IsFoundAs c.in-Ok.found (node_at t (LivePlace c.args.id))) (λ t. parent_of (t.nodes c.args.id) c.args.id ≡ up)
    (λ t given. tt)
    (λ t given is. above-is t c.args.id up c.in-Ok.found (Some c.in-Some.inode) c.in-Some.is
    (above-some c.args.id c.in-Some.inode) is)
    c.in-Ok.ensures.ok

pub returns-in-None-clause-ok : goal.returns-in-None-clause-ok
returns-in-None-clause-ok g c =
    reads-more g.P.Pairs.told c.args.pairs.now c.load.new.pairs (λ t. ⊤) (IsKept Live)
    (λ t. IsFoundAs c.in-Ok.found (node_at t (LivePlace c.args.id)))
    (λ t. parent_of (t.nodes c.args.id) c.args.id ≡ c.args.id) (λ t given. tt)
    (λ t given is. above-is t c.args.id c.args.id c.in-Ok.found None c.in-None.is (above-none c.args.id) is)
    c.in-Ok.ensures.ok
