use Rattle.std.proofs.Common.{◌≡◌, ℕ, Ok, rules, subst}
use Rattle.nfs3_types.specs.declared.file_type.FileType.TheVariants.{Reg}
use Rattle.fs_rules.specs.Making.{create_attributes, need_new_node}
use Rattle.fs_rules.specs.Places.{fileid_at}
use Rattle.plain_tree.specs.Needs.{CanMake}
use Rattle.plain_tree.specs.Trees.{tree_of}
use Rattle.plain_tree.proofs.Standing.{can_make}
use Rattle.plain_tree.proofs.plain.Plain.new_plan.Goals as goal

pub returns-clause-room : goal.returns-clause-room
returns-clause-room c =
    let at : fileid_at c.args.directory.now.place ≡ c.fileid.result = search rules in
    let passed : need_new_node (tree_of c.args.self.now) c.args.cred.now c.args.lane c.args.directory.now.inode Reg
    (create_attributes c.args.how) ≡ Ok tt = search rules in
    subst (λ (d : ℕ). CanMake (tree_of c.args.self.now) c.args.lane Reg d) at
    (can_make _ _ _ _ _ _ _ c.requires.found c.requires.live passed)
