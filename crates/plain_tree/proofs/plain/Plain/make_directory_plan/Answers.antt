use Rattle.std.proofs.Common.{◌≡◌, ℕ, Ok, rules, subst}
use Rattle.nfs3_types.specs.declared.file_type.FileType.TheVariants.{Dir}
use Rattle.fs_rules.specs.Making.{need_new_node}
use Rattle.fs_rules.specs.Places.{fileid_at}
use Rattle.plain_tree.specs.Needs.{CanMake}
use Rattle.plain_tree.specs.Trees.{tree_of}
use Rattle.plain_tree.proofs.Standing.{can_make}
use Rattle.plain_tree.proofs.plain.Plain.make_directory_plan.Goals as goal

pub returns-clause-room : goal.returns-clause-room
returns-clause-room c =
    let at : fileid_at c.args.directory.now.place ≡ c.fileid.result = search rules in
    let passed : need_new_node (tree_of c.args.self.now) c.args.cred.now c.args.lane c.args.directory.now.inode Dir
    c.args.a.now.attributes ≡ Ok tt = search rules in
    subst (λ (d : ℕ). CanMake (tree_of c.args.self.now) c.args.lane Dir d) at
    (can_make _ _ _ _ _ _ _ c.requires.found c.in_ok-need_place_for.ensures.live passed)
