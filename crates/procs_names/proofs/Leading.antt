-- Where names lead, by what is read of their entries.
use Rattle.std.proofs.Common.{◌≡◌, ◌∙◌, ℕ, Bool, true, false, if◌then◌else◌, List, map, refl, sym, ap, Option, Some, None}
use Rattle.std.proofs.Common.{Err}
use Rattle.std.specs.Prelude.{option_map, is_some}
use Rattle.nfs3_types.specs.declared.status.Status.TheVariants.{NoEnt}
use Rattle.fs_rules.specs.declared.name_entry.NameEntry.{NameEntry}
use Rattle.fs_rules.specs.declared.place.Place.{Place}
use Rattle.fs_rules.specs.declared.place.Place.TheVariants.{SnapshotDirectory}
use Rattle.fs_rules.specs.Checks.{◌>>=◌, some_or}
use Rattle.fs_rules.specs.Names.{is_dot, is_dot_dot, named}
use Rattle.fs_rules.specs.Places.{Object, above, beside, entry_at, is_snapshots_name, node_at, place_named}
use Rattle.fs_rules.specs.Places.{snapshot_directory, snapshot_entry}
use Rattle.fs_rules.specs.Tree.{Tree}
use Rattle.fs_keys.specs.declared.rows.NameRow.{NameRow}
use Rattle.fs_shows.specs.Nodes.{name_row}
use Rattle.procs_names.specs.Naming.{fileid_of, leads_at, own_place, stands_at}

-- the number of an entry, by its row
pub number-by-row : (o : Option NameEntry) (r : Option NameRow) (n : Option ℕ) → option_map name_row o ≡ r
    → n ≡ option_map (λ r. r.fileid) r → option_map fileid_of o ≡ n
number-by-row o r n said is = by_entry o ∙ ap (λ (r : Option NameRow). option_map (λ r. r.fileid) r) said ∙ sym is
  where
    by_entry : (o : Option NameEntry) → option_map fileid_of o ≡ option_map (λ (r : NameRow). r.fileid) (option_map name_row o)
    by_entry None = refl
    by_entry (Some e) = refl

-- the entries of `.snapshot`
pub entry-of-snapshots : (t : Tree) (entries : List NameEntry) (name : List ℕ) → map snapshot_entry t.snapshots ≡ entries
    → entry_at t SnapshotDirectory name ≡ named name entries
unfolding entry_at node_at snapshot_directory
entry-of-snapshots t entries name is = ap (named name) is

-- ---- names without an entry

own-is : (a b c : Bool) (p q r : Place) (e : Option Place)
    → is_some (if a then Some p else (if b then Some q else (if c then Some r else None))) ≡ true
    → (if a then Some p else (if b then Some q else (if c then Some r else e)))
    ≡ (if a then Some p else (if b then Some q else (if c then Some r else None)))
own-is true b c p q r e own = refl
own-is false true c p q r e own = refl
own-is false false true p q r e own = refl
own-is false false false p q r e own = absurd (cc)

own-not : (a b c : Bool) (p q r : Place) (e : Option Place)
    → is_some (if a then Some p else (if b then Some q else (if c then Some r else None))) ≡ false
    → (if a then Some p else (if b then Some q else (if c then Some r else e))) ≡ e
own-not true b c p q r e none = absurd (cc)
own-not false true c p q r e none = absurd (cc)
own-not false false true p q r e none = absurd (cc)
own-not false false false p q r e none = refl

module _ (t : Tree) (d : Object) (name : List ℕ) (own : Option Place) (is : own ≡ own_place d.place d.inode name) where
  pub leads-own : is_some own ≡ true → place_named t d name ≡ own
  unfolding place_named
  leads-own there =
      own-is (is_dot name) (is_dot_dot name) (is_snapshots_name d.place name) d.place (above d.place d.inode) SnapshotDirectory
      (option_map (beside d.place) (entry_at t d.place name))
      (ap (λ (o : Option Place). is_some o) (sym is) ∙ there) ∙ sym is

  pub leads-entry : is_some own ≡ false → place_named t d name ≡ option_map (beside d.place) (entry_at t d.place name)
  unfolding place_named
  leads-entry none =
      own-not (is_dot name) (is_dot_dot name) (is_snapshots_name d.place name) d.place (above d.place d.inode) SnapshotDirectory
      (option_map (beside d.place) (entry_at t d.place name)) (ap (λ (o : Option Place). is_some o) (sym is) ∙ none)

-- ---- what stands there

module _ (t : Tree) (d : Object) (name : List ℕ) where
  pub leads-nowhere : place_named t d name ≡ None → leads_at t d name ≡ Err NoEnt
  leads-nowhere none = ap (λ (o : Option Place). some_or o NoEnt >>= stands_at t) none

  pub leads-there : (p : Place) → place_named t d name ≡ Some p → leads_at t d name ≡ stands_at t p
  leads-there p is = ap (λ (o : Option Place). some_or o NoEnt >>= stands_at t) is
