-- The page is told.
use Rattle.std.proofs.Common.{◌≡◌, ◌∙◌, ℕ, List, Ok, Err, ap, sym, subst, arith}
use Rattle.nfs3_types.specs.declared.body.Body.{Body}
use Rattle.fs_rules.specs.Checks.{told}
use Rattle.fs_rules.specs.Listing.{Page as PageOf, entry_size, page, read_dir}
use Rattle.fs_rules.specs.Sound.{IsSound}
use Rattle.fs_rules.specs.Tree.{Tree}
use Rattle.fs_shows.proofs.Doing.{up-memory}
use Rattle.procs_object.specs.Finding.{CheckedOn}
use Rattle.procs_object.specs.Performing.{Performs}
use Rattle.procs_object.proofs.Gathering.{halts-by, tells-by}
use Rattle.procs_listing.specs.Paging.{body_by, IsPage}
use Rattle.procs_listing.proofs.Rows.{check-halts, plains, read_dir-refused, read_dir-told}
use Rattle.procs_listing.proofs.telling.read_dir.Goals as goal

pub find_page-told-requires : goal.find_page-told-requires
find_page-told-requires g c = omega arith

pub returns-in-Err : goal.returns-in-Err
returns-in-Err g c =
    let a = c.args.a.now in
    let P : List ℕ → Type 0 = λ bytes. CheckedOn g.P.Pairs.told c.args.pairs.now c.find_page-told.new.pairs IsSound IsPage
    (λ t. page t c.args.cred.now entry_size (record {
      directory = bytes;
      cookie = a.cookie;
      verifier = a.verifier;
      count = a.count;
    })) (Err c.in-Err.halt) in
    check-halts g.P.Pairs.told IsPage (λ t. page t c.args.cred.now entry_size a) c.args.pairs.now c.find_page-told.new.pairs
    (λ t. told t (read_dir t c.args.cred.now a)) 0 c.find_page-told.ensures.goes
    (λ t status refused. read_dir-refused t c.args.cred.now a status refused) c.in-Err.halt
    (subst P c.as_slice.ensures c.in-Err.ensures.check)

pub returns-in-Ok-entries_of : goal.returns-in-Ok-entries_of
returns-in-Ok-entries_of g c =
    let a = c.args.a.now in
    let x = c.in-Ok.page in
    let P : List ℕ → Type 0 = λ bytes. CheckedOn g.P.Pairs.told c.args.pairs.now c.find_page-told.new.pairs IsSound IsPage
    (λ t. page t c.args.cred.now entry_size (record {
      directory = bytes;
      cookie = a.cookie;
      verifier = a.verifier;
      count = a.count;
    })) (Ok x) in
    let Q : Tree → Type 0 = λ t. (p : PageOf) × (page t c.args.cred.now entry_size a ≡ Ok p) × IsPage t x p in
    let so = c.in-Ok-entries_of.ensures ∙ ap plains c.as_slice-2.ensures in
    subst (λ (b : Body). Performs g.P.Pairs.told c.args.pairs.now c.find_page-told.new.pairs 0
    (λ t. told t (read_dir t c.args.cred.now a)) (Ok b)) (sym c.body_of.ensures)
    (tells-by g.P.Pairs.told c.args.pairs.now c.find_page-told.new.pairs (λ t. told t (read_dir t c.args.cred.now a)) Q
    (subst P c.as_slice.ensures c.in-Ok.ensures.check) 0
    (body_by x.attributes c.in-Ok-entries_of.entries.items x.listing.eof) c.find_page-told.ensures.goes
    (λ t sound found. read_dir-told t c.args.cred.now a x found.0 c.in-Ok-entries_of.entries.items found.1 found.2 so))

pub returns : goal.returns
returns g c =
    halts-by g.P.Pairs.told c.args.pairs.now c.find_page-told.new.pairs 0 (λ t. told t (read_dir t c.args.cred.now c.args.a.now))
    c.find_page-told.ensures.goes c.from.result
    (up-memory g.P.Pairs.told c.args.pairs.now c.find_page-told.new.pairs IsSound c.from.result c.from.ensures)
