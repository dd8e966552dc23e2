-- The page is told, with what its entries lead to.
use Rattle.std.proofs.Common.{◌≡◌, ℕ, List, Ok, Err, sym, subst, arith}
use Rattle.nfs3_types.specs.declared.body.Body.{Body}
use Rattle.fs_rules.specs.Checks.{told}
use Rattle.fs_rules.specs.Listing.{Page as PageOf, count_all, entry_plus_size, page, read_dir_plus}
use Rattle.fs_rules.specs.Sound.{IsSound}
use Rattle.fs_rules.specs.Tree.{Tree}
use Rattle.fs_shows.specs.Steps.{Reads}
use Rattle.fs_shows.proofs.Doing.{goes-then}
use Rattle.procs_object.specs.Finding.{Begins, CheckedOn}
use Rattle.procs_object.specs.Performing.{Performs}
use Rattle.procs_object.proofs.Gathering.{gathers, gathers-up, halts-by, tells-by}
use Rattle.procs_listing.specs.declared.entries.Entry.{Entry}
use Rattle.procs_listing.specs.Paging.{body_plus_by, IsPage}
use Rattle.procs_listing.proofs.Rows.{check-halts, pluses, read_dir_plus-refused, read_dir_plus-told}
use Rattle.procs_listing.proofs.telling.read_dir_plus.Goals as goal

pub find_page-told-requires : goal.find_page-told-requires
find_page-told-requires g c = omega arith

pub returns-in-Err : goal.returns-in-Err
returns-in-Err g c =
    let a = c.args.a.now in
    let P : List ℕ → Type 0 = λ bytes. CheckedOn g.P.Pairs.told c.args.pairs.now c.find_page-told.new.pairs IsSound IsPage
    (λ t. page t c.args.cred.now entry_plus_size (record {
      directory = bytes;
      cookie = a.cookie;
      verifier = a.verifier;
      count = a.maxcount;
    })) (Err c.in-Err.halt) in
    check-halts g.P.Pairs.told IsPage (λ t. page t c.args.cred.now entry_plus_size (count_all a)) c.args.pairs.now
    c.find_page-told.new.pairs (λ t. told t (read_dir_plus t c.args.cred.now a)) 0 c.find_page-told.ensures.goes
    (λ t status refused. read_dir_plus-refused t c.args.cred.now a status refused) c.in-Err.halt
    (subst P c.as_slice.ensures c.in-Err.ensures.check)

pub returns-in-Ok-entries_plus_of : goal.returns-in-Ok-entries_plus_of
returns-in-Ok-entries_plus_of g c =
    let a = c.args.a.now in
    let x = c.in-Ok.page in
    let P : List ℕ → Type 0 = λ bytes. CheckedOn g.P.Pairs.told c.args.pairs.now c.find_page-told.new.pairs IsSound IsPage
    (λ t. page t c.args.cred.now entry_plus_size (record {
      directory = bytes;
      cookie = a.cookie;
      verifier = a.verifier;
      count = a.maxcount;
    })) (Ok x) in
    let Q : Tree → Type 0 = λ t. (p : PageOf) × (page t c.args.cred.now entry_plus_size (count_all a) ≡ Ok p) × IsPage t x p in
    let R : Tree → Type 0 = λ t. pluses t x.listing.entries ≡ c.in-Ok-entries_plus_of.entries.items in
    let T : List Entry → Type 0 = λ es.
    Reads g.P.Pairs.told c.find_page-told.new.pairs c.entries_plus_of.new.pairs (Begins x.begins)
    (λ t. pluses t es ≡ c.in-Ok-entries_plus_of.entries.items) in
    subst (λ (b : Body). Performs g.P.Pairs.told c.args.pairs.now c.entries_plus_of.new.pairs 0
    (λ t. told t (read_dir_plus t c.args.cred.now a)) (Ok b)) (sym c.body_plus_of.ensures)
    (tells-by g.P.Pairs.told c.args.pairs.now c.entries_plus_of.new.pairs (λ t. told t (read_dir_plus t c.args.cred.now a))
    (λ t. Q t × R t)
    (gathers g.P.Pairs.told c.args.pairs.now c.find_page-told.new.pairs c.entries_plus_of.new.pairs Q (Begins x.begins)
    c.entries_plus_of.ensures.goes (subst P c.as_slice.ensures c.in-Ok.ensures.check) (λ t sound found. record { sound = sound; first = found.2.first }) R
    (subst T c.as_slice-2.ensures c.in-Ok-entries_plus_of.ensures.ok)) 0
    (body_plus_by x.attributes c.in-Ok-entries_plus_of.entries.items x.listing.eof)
    (goes-then g.P.Pairs.told c.args.pairs.now c.find_page-told.new.pairs c.entries_plus_of.new.pairs 0 0
    c.find_page-told.ensures.goes c.entries_plus_of.ensures.goes)
    (λ t sound both. read_dir_plus-told t c.args.cred.now a x both.0.0 c.in-Ok-entries_plus_of.entries.items both.0.1 both.0.2
    both.1))

pub returns : goal.returns
returns g c =
    let a = c.args.a.now in
    let x = c.in-Ok.page in
    let P : List ℕ → Type 0 = λ bytes. CheckedOn g.P.Pairs.told c.args.pairs.now c.find_page-told.new.pairs IsSound IsPage
    (λ t. page t c.args.cred.now entry_plus_size (record {
      directory = bytes;
      cookie = a.cookie;
      verifier = a.verifier;
      count = a.maxcount;
    })) (Ok x) in
    let Q : Tree → Type 0 = λ t. (p : PageOf) × (page t c.args.cred.now entry_plus_size (count_all a) ≡ Ok p) × IsPage t x p in
    halts-by g.P.Pairs.told c.args.pairs.now c.entries_plus_of.new.pairs 0 (λ t. told t (read_dir_plus t c.args.cred.now a))
    (goes-then g.P.Pairs.told c.args.pairs.now c.find_page-told.new.pairs c.entries_plus_of.new.pairs 0 0
    c.find_page-told.ensures.goes c.entries_plus_of.ensures.goes) c.in-Err-entries_plus_of.fault
    (gathers-up g.P.Pairs.told c.args.pairs.now c.find_page-told.new.pairs c.entries_plus_of.new.pairs Q (Begins x.begins)
    c.entries_plus_of.ensures.goes (subst P c.as_slice.ensures c.in-Ok.ensures.check) (λ t sound found. record { sound = sound; first = found.2.first }) 0
    c.find_page-told.ensures.goes c.in-Err-entries_plus_of.fault c.in-Err-entries_plus_of.ensures.fault)
