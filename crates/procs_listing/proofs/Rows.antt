-- How calls end that tell a page, and what they tell of its entries.
use Rattle.std.proofs.Common.{◌≡◌, ◌∙◌, ℕ, Bool, ◌++◌, List, [], ◌∷◌, map, replicate, refl, sym, ap, Option, Some, None, Ok, Err}
use Rattle.std.specs.Prelude.{option_map}
use Rattle.std.proofs.lemmas.List.{map-append}
use Rattle.nfs3_types.specs.declared.args.ReadDirArgs.{ReadDirArgs}
use Rattle.nfs3_types.specs.declared.args.ReadDirPlusArgs.{ReadDirPlusArgs}
use Rattle.nfs3_types.specs.declared.attributes.Fattr.{Fattr}
use Rattle.nfs3_types.specs.declared.body.Body.{Body}
use Rattle.nfs3_types.specs.declared.body.Body.TheVariants.{ReadDir}
use Rattle.nfs3_types.specs.declared.body.DirEntry.{DirEntry}
use Rattle.nfs3_types.specs.declared.body.DirEntryPlus.{DirEntryPlus}
use Rattle.nfs3_types.specs.declared.cred.Cred.{Cred}
use Rattle.nfs3_types.specs.declared.status.Status.{Status}
use Rattle.fs_rules.specs.Checks.{Check, Row, ◌>>=◌, told}
use Rattle.fs_rules.specs.Listing.{Page as PageOf, entry, entry_plus, entry_size, entry_plus_size, count_all, page}
use Rattle.fs_rules.specs.Listing.{read_dir, read_dir_plus}
use Rattle.fs_rules.specs.Places.{Object, attributes, handle_at, leads_to, shown}
use Rattle.fs_rules.specs.Sound.{IsSound}
use Rattle.fs_rules.specs.Tree.{Tree}
use Rattle.pair_types.specs.declared.fault.PairFault.{PairFault}
use Rattle.pairs.specs.Told.{PairsTold, Goes}
use Rattle.fs_keys.specs.declared.rows.First.{First}
use Rattle.fs_shows.specs.declared.halt.Halt.{Halt}
use Rattle.fs_shows.specs.declared.halt.Halt.TheVariants.{Refused, Fault}
use Rattle.fs_shows.specs.Steps.{Reads, GivesUpOn}
use Rattle.fs_shows.proofs.Doing.{goes-none, goes-then}
use Rattle.fs_shows.proofs.Passing.{gives_up_behind, reads_both}
use Rattle.procs_object.specs.declared.object.Found.{Found}
use Rattle.procs_object.specs.Finding.{Begins, IsLed, CheckedOn}
use Rattle.procs_object.specs.Performing.{Performs}
use Rattle.procs_object.proofs.Gathering.{halts-by, refuses-by}
use Rattle.procs_object.proofs.Reading.{reads-none, reads-more}
use Rattle.procs_listing.specs.declared.paging.Page.{Page}
use Rattle.procs_listing.specs.declared.entries.Entry.{Entry}
use Rattle.procs_listing.specs.Entries.{listed_as, plus_by, shown_by}
use Rattle.procs_listing.specs.Paging.{body_by, body_plus_by, IsPage}

-- ---- calls that tell what a check finds

module _ {S W : Type 0} (told : PairsTold S W) {A X : Type 0} (Finds : Tree → X → A → Type 0) (check : Tree → Check A) where
  -- a check ended the next one, which it is the first part of
  pub checks-as : {B Y : Type 0} (Gives : Tree → Y → B → Type 0) (next : Tree → Check B) (old new : S)
      → ((t : Tree) (status : Status) → check t ≡ Err status → next t ≡ Err status) → (halt : Halt)
      → CheckedOn told old new IsSound Finds check (Err halt) → CheckedOn told old new IsSound Gives next (Err halt)
  checks-as Gives next old new says (Refused status) checked =
      reads-more told old new IsSound IsSound (λ t. check t ≡ Err status) (λ t. next t ≡ Err status) (λ t is. is)
      (λ t sound refused. says t status refused) checked
  checks-as Gives next old new says (Fault fault) checked = checked

  -- a check ended the call
  pub check-halts : (old new : S) (row : Tree → Row) (most : ℕ) → Goes told old new most
      → ((t : Tree) (status : Status) → check t ≡ Err status → row t ≡ Err status) → (halt : Halt)
      → CheckedOn told old new IsSound Finds check (Err halt) → Performs told old new most row (Err halt)
  check-halts old new row most goes says (Refused status) checked =
      refuses-by told old new row (λ t. check t ≡ Err status) checked most status goes (λ t sound refused. says t status refused)
  check-halts old new row most goes says (Fault fault) up = halts-by told old new most row goes fault up

-- ---- READDIR

abbrev pub plains : List Entry → List DirEntry
plains es = map (λ e. entry (listed_as e)) es

plains-again : (es : List Entry) → map entry (map listed_as es) ≡ plains es
plains-again [] = refl
plains-again (e ∷ es) = ap (λ (l : List DirEntry). entry (listed_as e) ∷ l) (plains-again es)

-- one entry more
pub plains-more : (es : List Entry) (e : Entry) (told : List DirEntry) → told ≡ plains es
    → told ++ entry (listed_as e) ∷ [] ≡ plains (es ++ e ∷ [])
plains-more es e told is =
    ap (λ (l : List DirEntry). l ++ entry (listed_as e) ∷ []) is ∙ sym (map-append (λ e. entry (listed_as e)) es (e ∷ []))

abbrev dir-body : Fattr → List DirEntry → Bool → Body
dir-body f es eof = ReadDir (record { attributes = Some f; verifier = replicate 8 0; entries = es; eof = eof })

module _ (t : Tree) (cred : Cred) (a : ReadDirArgs (List ℕ)) where
  abbrev tells : PageOf → Body
  tells p = dir-body (attributes t p.directory) (map entry p.told) p.eof

  pub read_dir-refused : (status : Status) → page t cred entry_size a ≡ Err status → told t (read_dir t cred a) ≡ Err status
  unfolding read_dir
  read_dir-refused status refused = ap (λ (c : Check PageOf). told t (c >>= (λ p. Ok (tells p)))) refused

  pub read_dir-told : (x : Page) (p : PageOf) (entries : List DirEntry) → page t cred entry_size a ≡ Ok p → IsPage t x p
      → entries ≡ plains x.listing.entries
      → told t (read_dir t cred a) ≡ Ok (record { body = body_by x.attributes entries x.listing.eof; tree = t })
  unfolding read_dir
  read_dir-told x p entries found is so =
      ap (λ (c : Check PageOf). told t (c >>= (λ p. Ok (tells p)))) found
      ∙ ap (λ (b : Body). Ok (record { body = b; tree = t })) same
    where
      same : tells p ≡ body_by x.attributes entries x.listing.eof
      same =
          ap (λ (f : Fattr). dir-body f (map entry p.told) p.eof) is.attributes_are
          ∙ ap (λ (l : List DirEntry). dir-body x.attributes l p.eof) (ap (map entry) is.told ∙ plains-again x.listing.entries ∙ sym so)
          ∙ ap (λ (b : Bool). dir-body x.attributes entries b) is.eof

-- ---- what entries lead to

shown-found : (t : Tree) (found : Option Found) (o : Option Object) → IsLed t found o
    → option_map (attributes t) o ≡ shown_by found
shown-found t None None led = refl
shown-found t None (Some o) led = absurd led
shown-found t (Some x) None led = absurd led
shown-found t (Some x) (Some o) led = ap (λ (f : Fattr). Some f) led.attributes

pub plus-found : (t : Tree) (row : First) (e : Entry) (found : Option Found) → Begins row t
    → IsLed t found (leads_to t e.place) → entry_plus t (listed_as e) ≡ plus_by row.fsid e (shown_by found)
unfolding shown handle_at
plus-found t row e found begins led =
    ap (λ (a : Option Fattr). plus_by t.fsid e a) (shown-found t found (leads_to t e.place) led)
    ∙ ap (λ (r : First). plus_by r.fsid e (shown_by found)) begins.first

abbrev pub pluses : Tree → List Entry → List DirEntryPlus
pluses t es = map (λ e. entry_plus t (listed_as e)) es

module _ {S W : Type 0} (told : PairsTold S W) (row : First) where
  -- so far these were told
  pub record HasTold (old now : S) (es : List Entry) (entries : List DirEntryPlus) : Type 0 where
    pub goes : Goes told old now 0
    pub reads : Reads told old now (Begins row) (λ t. pluses t es ≡ entries)

  pub told-none : (s : S) → HasTold s s [] []
  told-none s = record {
    goes = goes-none told s;
    reads = reads-none told s (Begins row) (λ t. pluses t [] ≡ []) (λ t of. refl);
  }

  module _ (old mid new : S) (es : List Entry) (entries : List DirEntryPlus) (has : HasTold old mid es entries)
      (goes : Goes told mid new 0) where
    pub told-goes : Goes told old new 0
    told-goes = goes-then told old mid new 0 0 has.goes goes

    pub told-up : (fault : PairFault) → GivesUpOn told mid new (Begins row) fault → GivesUpOn told old new (Begins row) fault
    told-up fault up =
        gives_up_behind told old mid new 0 0 (Begins row) (Begins row) (λ t. t) has.goes goes
        (λ w t agrees lies is. has.reads.stays w t agrees lies tt) (λ t is. is) fault up

    pub told-more : (e : Entry) (entry : DirEntryPlus) → Reads told mid new (Begins row)
        (λ t. entry_plus t (listed_as e) ≡ entry)
        → HasTold old new (es ++ e ∷ []) (entries ++ entry ∷ [])
    told-more e entry reads = record {
      goes = told-goes;
      reads = reads-more told old new (Begins row) (Begins row)
          (λ t. (pluses t es ≡ entries) × (entry_plus t (listed_as e) ≡ entry))
          (λ t. pluses t (es ++ e ∷ []) ≡ entries ++ entry ∷ []) (λ t is. is)
          (λ t of both. map-append (λ e. entry_plus t (listed_as e)) es (e ∷ [])
          ∙ ap (λ (l : List DirEntryPlus). l ++ entry_plus t (listed_as e) ∷ []) both.0
          ∙ ap (λ (p : DirEntryPlus). entries ++ p ∷ []) both.1)
          (reads_both told old mid new 0 (Begins row) (λ t. pluses t es ≡ entries) (λ t. entry_plus t (listed_as e) ≡ entry) goes
          has.reads reads);
    }

-- ---- READDIRPLUS

pluses-again : (t : Tree) (es : List Entry) → map (entry_plus t) (map listed_as es) ≡ pluses t es
pluses-again t [] = refl
pluses-again t (e ∷ es) = ap (λ (l : List DirEntryPlus). entry_plus t (listed_as e) ∷ l) (pluses-again t es)

module _ (t : Tree) (cred : Cred) (a : ReadDirPlusArgs (List ℕ)) where
  abbrev tells-plus : PageOf → Body
  tells-plus p = body_plus_by (attributes t p.directory) (map (entry_plus t) p.told) p.eof

  pub read_dir_plus-refused : (status : Status) → page t cred entry_plus_size (count_all a) ≡ Err status
      → told t (read_dir_plus t cred a) ≡ Err status
  unfolding read_dir_plus
  read_dir_plus-refused status refused = ap (λ (c : Check PageOf). told t (c >>= (λ p. Ok (tells-plus p)))) refused

  pub read_dir_plus-told : (x : Page) (p : PageOf) (entries : List DirEntryPlus)
      → page t cred entry_plus_size (count_all a) ≡ Ok p
      → IsPage t x p → pluses t x.listing.entries ≡ entries
      → told t (read_dir_plus t cred a) ≡ Ok (record { body = body_plus_by x.attributes entries x.listing.eof; tree = t })
  unfolding read_dir_plus
  read_dir_plus-told x p entries found is so =
      ap (λ (c : Check PageOf). told t (c >>= (λ p. Ok (tells-plus p)))) found
      ∙ ap (λ (b : Body). Ok (record { body = b; tree = t })) same
    where
      same : tells-plus p ≡ body_plus_by x.attributes entries x.listing.eof
      same =
          ap (λ (f : Fattr). body_plus_by f (map (entry_plus t) p.told) p.eof) is.attributes_are
          ∙ ap (λ (l : List DirEntryPlus). body_plus_by x.attributes l p.eof)
          (ap (map (entry_plus t)) is.told ∙ pluses-again t x.listing.entries ∙ so)
          ∙ ap (λ (b : Bool). body_plus_by x.attributes entries b) is.eof
