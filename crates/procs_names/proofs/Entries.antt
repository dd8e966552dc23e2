-- What the entry of a name leads to, as its record says.
use Rattle.std.proofs.Common.{◌≡◌, ◌∙◌, ℕ, List, Option, Some, None, Result, Ok, Err, refl, ap}
use Rattle.std.specs.Prelude.{option_map, is_some}
use Rattle.nfs3_types.specs.declared.status.Status.TheVariants.{NoEnt}
use Rattle.fs_rules.specs.declared.name_entry.NameEntry.{NameEntry}
use Rattle.fs_rules.specs.declared.place.Place.TheVariants.{Live}
use Rattle.fs_rules.specs.Checks.{◌>>=◌, some_or}
use Rattle.fs_rules.specs.Places.{Object, entry_at, leads_to}
use Rattle.fs_rules.specs.Tree.{Tree}
use Rattle.pairs.specs.Told.{PairsTold, Goes}
use Rattle.fs_keys.specs.declared.rows.NameRow.{NameRow}
use Rattle.fs_shows.specs.declared.halt.Halt.{Halt}
use Rattle.fs_shows.specs.declared.halt.Halt.TheVariants.{Refused, Fault}
use Rattle.fs_shows.specs.Nodes.{name_row}
use Rattle.fs_shows.specs.Steps.{Reads}
use Rattle.fs_shows.specs.Views.{IsKept}
use Rattle.fs_shows.proofs.Passing.{reads_both, gives_up_behind}
use Rattle.pairs.specs.declared.at.At.TheVariants.{Live as LiveView}
use Rattle.procs_object.specs.declared.object.Found.{Found}
use Rattle.procs_object.specs.Finding.{CheckedOn, IsObject}
use Rattle.procs_object.proofs.Reading.{reads-more}
use Rattle.procs_names.specs.Naming.{IsOf, child_at}

entry-none : (o : Option NameEntry) → option_map name_row o ≡ None → o ≡ None
entry-none None is = refl
entry-none (Some e) is = absurd (cc)

entry-some : (o : Option NameEntry) (r : NameRow) → option_map name_row o ≡ Some r → (e : NameEntry) × (o ≡ Some e)
    × (e.fileid ≡ r.fileid)
entry-some None r is = absurd (cc)
entry-some (Some e) r is =
    let same : name_row e ≡ r = cc in (e, refl, ap (λ (r : NameRow). r.fileid) same)

-- it has an entry where it has a record
pub entry-is : (o : Option NameEntry) (r : Option NameRow) → option_map name_row o ≡ r → is_some o ≡ is_some r
entry-is None r is = ap (λ (r : Option NameRow). is_some r) is
entry-is (Some e) r is = ap (λ (r : Option NameRow). is_some r) is

module _ (t : Tree) (directory : ℕ) (name : List ℕ) where
  pub child-lacks : option_map name_row (entry_at t (Live directory) name) ≡ None → child_at t (Live directory) name ≡ Err NoEnt
  unfolding child_at
  child-lacks none =
      ap (λ (o : Option NameEntry). some_or o NoEnt >>= (λ e. some_or (leads_to t (Live e.fileid)) NoEnt)) (entry-none _ none)

  pub child-has : (r : NameRow) → option_map name_row (entry_at t (Live directory) name) ≡ Some r
      → child_at t (Live directory) name ≡ some_or (leads_to t (Live r.fileid)) NoEnt
  unfolding child_at
  child-has r said =
      let e = entry-some (entry_at t (Live directory) name) r said in
      ap (λ (o : Option NameEntry). some_or o NoEnt >>= (λ e. some_or (leads_to t (Live e.fileid)) NoEnt)) e.1
      ∙ ap (λ (id : ℕ). some_or (leads_to t (Live id)) NoEnt) e.2

module _ {S W : Type 0} (told : PairsTold S W) (old mid new : S) (fsid directory : ℕ) (name : List ℕ) (found : Option NameRow)
    (r : NameRow) (is : found ≡ Some r) (before : Goes told old mid 0) (goes : Goes told mid new 0)
    (first : Reads told old mid (IsKept LiveView) (λ t. option_map name_row (entry_at t (Live directory) name) ≡ found)) where
  named-so : Reads told old mid (IsOf fsid) (λ t. option_map name_row (entry_at t (Live directory) name) ≡ Some r)
  named-so =
      reads-more told old mid (IsOf fsid) (IsKept LiveView)
      (λ t. option_map name_row (entry_at t (Live directory) name) ≡ found)
      (λ t. option_map name_row (entry_at t (Live directory) name) ≡ Some r) (λ t own. tt) (λ t own said. said ∙ is) first

  both : (P : Tree → Type 0) → Reads told mid new (IsOf fsid) P
      → Reads told old new (IsOf fsid) (λ t. (option_map name_row (entry_at t (Live directory) name) ≡ Some r) × P t)
  both P then = reads_both told old mid new 0 (IsOf fsid) (λ t. option_map name_row (entry_at t (Live directory) name) ≡ Some r) P
      goes named-so then

  -- the name was looked up, and then its number
  pub child-then : (result : Result Found Halt)
      → CheckedOn told mid new (IsOf fsid) IsObject (λ t. some_or (leads_to t (Live r.fileid)) NoEnt) result
      → CheckedOn told old new (IsOf fsid) IsObject (λ t. child_at t (Live directory) name) result
  child-then (Ok x) then =
      reads-more told old new (IsOf fsid) (IsOf fsid) _
      (λ t. (o : Object) × (child_at t (Live directory) name ≡ Ok o) × IsObject t x o) (λ t own. own)
      (λ t own known. (known.1.0, child-has t directory name r known.0 ∙ known.1.1, known.1.2))
      (both (λ t. (o : Object) × (some_or (leads_to t (Live r.fileid)) NoEnt ≡ Ok o) × IsObject t x o) then)
  child-then (Err (Refused status)) then =
      reads-more told old new (IsOf fsid) (IsOf fsid) _ (λ t. child_at t (Live directory) name ≡ Err status) (λ t own. own)
      (λ t own known. child-has t directory name r known.0 ∙ known.1)
      (both (λ t. some_or (leads_to t (Live r.fileid)) NoEnt ≡ Err status) then)
  child-then (Err (Fault fault)) then =
      gives_up_behind told old mid new 0 0 (IsOf fsid) (IsOf fsid) (λ t. t) before goes
      (λ w t agrees lies own. named-so.stays w t agrees lies tt) (λ t own. own) fault then
