-- What the checks of a RENAME and of a LINK show of the directory of the new name.
use Rattle.std.proofs.Common.{◌≡◌, ◌+◌, ◌<◌, ◌^◌, nat_le, ◌&&◌, ◌||◌, Bool, true, false, ℕ, Option, Some, None, IfSome, is_none}
use Rattle.std.proofs.Common.{option_map, arith, refl, subst, sym}
use Rattle.fs_rules.specs.Attributes.{given, is_directory}
use Rattle.fs_rules.specs.Checks.{is_live}
use Rattle.fs_rules.specs.Limits.{most_links}
use Rattle.fs_rules.specs.Making.{lacks_cookies}
use Rattle.fs_rules.specs.Places.{Object, fileid_at}
use Rattle.fs_rules.specs.declared.plans.LinkPlan.{LinkPlan}
use Rattle.fs_rules.specs.declared.plans.RenamePlan.{RenamePlan}
use Rattle.fs_rules.specs.Renaming.{Renaming, differs, is_in_the_way, reparents, replaced_by}
use Rattle.fs_rules.specs.Tree.{Node, Tree}
use Rattle.plain_tree.specs.Needs.{CanLink, CanMove, HasLinks, HasOpenWay, Stands}
use Rattle.plain_tree.proofs.Standing.{live_has}

alike : (b s c : Bool) → (differs b s || c) ≡ false → s ≡ true → b ≡ true
alike true s c e is = refl
alike false true c e is = absurd cc
alike false false c e is = absurd cc

of_none : (moves b : Bool) → (moves && true && b) ≡ false → moves ≡ true → b ≡ false
of_none true b e is = e
of_none false b e is = absurd cc

both_so : (a b : Bool) → (a && b) ≡ true → a ≡ true
both_so true b e = refl
both_so false b e = absurd cc

fewer : (n : ℕ) → nat_le most_links n ≡ false → n + 1 < 2 ^ 32
unfolding most_links
fewer n e = grind (arith, e)

links_by : (t : Tree) (target : Option Object) (source to : Object) (moves : Bool) → Stands t to → is_live to.place ≡ true
    → to.inode.nlink < 2 ^ 32 → given target (is_in_the_way t source) ≡ false
    → (moves && is_none target && nat_le most_links to.inode.nlink) ≡ false → is_directory source.inode.kind ≡ true → moves ≡ true
    → HasLinks (option_map replaced_by target) (t.nodes (fileid_at to.place))
links_by t None source to moves stands live few free enough kind on =
    live_has (λ (o : Object). o.inode.nlink + 1 < 2 ^ 32) t to stands live
    (fewer to.inode.nlink (of_none moves (nat_le most_links to.inode.nlink) enough on))
links_by t (Some o) source to moves stands live few free enough kind on = (
  alike (is_directory o.inode.kind) (is_directory source.inode.kind) _ free kind,
  live_has (λ (o : Object). o.inode.nlink < 2 ^ 32) t to stands live few,
)

-- a move that passed the checks can be made
pub can_move : (t : Tree) (r : Renaming) (p : RenamePlan) → Stands t r.to → is_live r.to.place ≡ true → HasOpenWay t r
    → p.to ≡ fileid_at r.to.place → p.reparents ≡ reparents r → p.replaced ≡ option_map replaced_by r.target
    → CanMove t.nodes p
can_move t r p stands live way to_is moves_is replaced_is = record {
  cookies = subst (λ (x : ℕ). IfSome (t.nodes x) (λ (n : Node). lacks_cookies n.inode ≡ false)) (sym to_is)
      (live_has (λ (o : Object). lacks_cookies o.inode ≡ false) t r.to stands live way.cookies);
  links = λ on.
      let moves : reparents r ≡ true = cc in
      let has = links_by t r.target r.source r.to (reparents r) stands live way.few way.free way.enough
      (both_so (is_directory r.source.inode.kind) _ moves) moves in
      rw (to_is, replaced_is) has;
}

-- a file that passed the checks can have a further link
pub can_link : (t : Tree) (file directory : Object) (p : LinkPlan) → Stands t file → is_live file.place ≡ true
    → Stands t directory → is_live directory.place ≡ true → nat_le most_links file.inode.nlink ≡ false
    → lacks_cookies directory.inode ≡ false
    → p.file ≡ fileid_at file.place → p.directory ≡ fileid_at directory.place → CanLink t.nodes p
can_link t file directory p file_stands file_live stands live few cookies file_is directory_is = record {
  links = subst (λ (x : ℕ). IfSome (t.nodes x) (λ (n : Node). n.inode.nlink + 1 < 2 ^ 32)) (sym file_is)
      (live_has (λ (o : Object). o.inode.nlink + 1 < 2 ^ 32) t file file_stands file_live (fewer file.inode.nlink few));
  cookies = subst (λ (x : ℕ). IfSome (t.nodes x) (λ (n : Node). lacks_cookies n.inode ≡ false)) (sym directory_is)
      (live_has (λ (o : Object). lacks_cookies o.inode ≡ false) t directory stands live cookies);
}
