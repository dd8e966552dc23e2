-- A new file shows zeros.
use Rattle.std.proofs.Common.{◌≡◌, ℕ, ◌≤◌, Bool, true, false, refl, sym, arith}
use Rattle.std.proofs.lemmas.List.{length-replicate, get_or-replicate, get_or_past}
use Rattle.std.specs.Prelude.{slice_index_or, nat_lt}
use Rattle.std.proofs.lemmas.Bool.{ltb-true, ltb-false}
use Rattle.nfs3_types.specs.declared.args.CreateHow.{CreateHow}
use Rattle.nfs3_types.specs.declared.cred.Cred.{Cred}
use Rattle.nfs3_types.specs.declared.moment.Moment.{Moment}
use Rattle.fs_rules.specs.Attributes.{size_of}
use Rattle.fs_rules.specs.Edits.{zeros}
use Rattle.fs_rules.specs.Making.{new_file, new_node}
use Rattle.fs_shows.specs.Files.{IsNew}
use Rattle.procs_making.specs.Children.{node_by}
use Rattle.procs_create.specs.Files.{file_inode, new_size}

zero-there : (n o : ℕ) → slice_index_or (zeros n) o 0 ≡ 0
zero-there n o = by_test (nat_lt o n) refl
  where
    by_test : (b : Bool) → nat_lt o n ≡ b → slice_index_or (zeros n) o 0 ≡ 0
    by_test true is = get_or-replicate n o 0 0 (ltb-true o n is)
    by_test false is =
        let past : n ≤ o = ltb-false o n is in get_or_past (zeros n) o 0 (omega (arith, past, length-replicate {A = ℕ} n 0))

module _ (cred : Cred) (now : Moment) (how : CreateHow) (parent : ℕ) where
  -- its node is the table's
  pub file-whole : node_by (file_inode cred now how parent) ≡ new_node cred now parent (new_file how)
  unfolding new_node
  file-whole = refl

  -- and has no byte that is not zero
  pub file-new : IsNew (file_inode cred now how parent) (node_by (file_inode cred now how parent))
  unfolding new_node size_of
  file-new = record {
    is = record { kept = refl; size = sym (length-replicate (new_size how) 0); target = refl };
    blank = λ offset. zero-there (new_size how) offset;
    names = refl;
  }
