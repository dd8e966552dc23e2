-- What the procedures share, to be imported from one place: the tree and its places, the checks, the edits.
pub use Rattle.fs_rules.specs.Limits.{deepest, last_epoch, longest_name, longest_target, most_links, most_listing, most_numbers}
pub use Rattle.fs_rules.specs.Limits.{most_size, most_snapshots, most_transfer, told_listing, told_transfer}
pub use Rattle.fs_rules.specs.Tree.{Node, Nodes, Tree, next_fileid}
pub use Rattle.fs_rules.specs.Names.{is_dot, is_dot_dot, is_dots, name_fault, target_fault}
pub use Rattle.fs_rules.specs.Rights.{is_in_group, may_read, may_search, may_write, owns}
pub use Rattle.fs_rules.specs.Attributes.{apply_sattr, given, is_directory, is_file, is_link, is_too_large, sattr_fault, time_by}
pub use Rattle.fs_rules.specs.Places.{Object, above, attributes, beside, change, content_at, entry_at, fileid_at, handle_at}
pub use Rattle.fs_rules.specs.Places.{is_snapshots_name, leads_to, names_at, place_named, shown, snapshot_entry}
pub use Rattle.fs_rules.specs.Checks.{Check, Row, done, find_directory, find_object, is_live, need, need_directory, need_file}
pub use Rattle.fs_rules.specs.Checks.{need_good_name, need_live, need_place_for, need_search, no_fault, refuse_if, some_or, told}
pub use Rattle.fs_rules.specs.Checks.{◌>>=◌}
pub use Rattle.fs_rules.specs.Edits.{add_link, drop_link, drop_name, drop_node, edit_node, give_number, set_attributes, set_ctime}
pub use Rattle.fs_rules.specs.Edits.{add_name, add_node, set_parent, set_size, set_size_if, touch, with_node, write_at, zeros}
