-- The directory is found, what may be told of it is read, and makes a page.
use Rattle.std.proofs.Common.{List, ℕ}
use Rattle.nfs3_types.specs.declared.args.ReadDirArgs.{ReadDirArgs}
use Rattle.fs_rules.specs.Checks.{find_object}
use Rattle.fs_rules.specs.Listing.{page}
use Rattle.fs_shows.proofs.Doing.{goes-then}
use Rattle.procs_object.specs.Finding.{IsBegun}
use Rattle.procs_listing.specs.Entries.{size_with}
use Rattle.procs_listing.specs.Paging.{IsPage}
use Rattle.procs_listing.proofs.Pages.{page-unfound, find-refused, find-up, find-small, find-told}
use Rattle.procs_listing.proofs.Rows.{checks-as}
use Rattle.procs_listing.proofs.paging.find_page.Goals as goal

pub returns-in-Err-clause-goes : goal.returns-in-Err-clause-goes
returns-in-Err-clause-goes g c = c.look.ensures.goes

pub returns-in-Err-clause-check : goal.returns-in-Err-clause-check
returns-in-Err-clause-check g c =
    let a : ReadDirArgs (List ℕ) = record {
      directory = c.args.directory.now;
      cookie = c.args.cookie;
      verifier = c.args.verifier.now;
      count = c.args.count;
    } in
    checks-as g.P.Pairs.told IsBegun (λ t. find_object t a.directory) IsPage
    (λ t. page t c.args.cred.now (size_with c.args.bare) a)
    c.args.pairs.now c.look.new.pairs
    (λ t status refused. page-unfound t c.args.cred.now (size_with c.args.bare) a status refused) c.in-Err.halt
    c.in-Err.ensures.check

pub returns-in-Err-room_for-clause-goes : goal.returns-in-Err-room_for-clause-goes
returns-in-Err-room_for-clause-goes g c = c.look.ensures.goes

pub returns-in-Err-room_for-clause-check : goal.returns-in-Err-room_for-clause-check
returns-in-Err-room_for-clause-check g c =
    let a : ReadDirArgs (List ℕ) = record {
      directory = c.args.directory.now;
      cookie = c.args.cookie;
      verifier = c.args.verifier.now;
      count = c.args.count;
    } in
    find-refused g.P.Pairs.told c.args.pairs.now c.look.new.pairs c.args.cred.now (size_with c.args.bare) a c.in-Ok.seen
    c.in-Ok.ensures.check c.in-Err-room_for.status c.in-Err-room_for.ensures

pub list_behind-requires : goal.list_behind-requires
list_behind-requires g c = c.requires

pub returns-in-Err-list_behind-clause-goes : goal.returns-in-Err-list_behind-clause-goes
returns-in-Err-list_behind-clause-goes g c =
    goes-then g.P.Pairs.told c.args.pairs.now c.look.new.pairs c.list_behind.new.pairs 0 0 c.look.ensures.goes
    c.list_behind.ensures.goes

pub returns-in-Err-list_behind-clause-check : goal.returns-in-Err-list_behind-clause-check
returns-in-Err-list_behind-clause-check g c =
    let a : ReadDirArgs (List ℕ) = record {
      directory = c.args.directory.now;
      cookie = c.args.cookie;
      verifier = c.args.verifier.now;
      count = c.args.count;
    } in
    find-up g.P.Pairs.told c.args.pairs.now c.look.new.pairs c.args.cred.now (size_with c.args.bare) a c.in-Ok.seen
    c.in-Ok.ensures.check c.list_behind.new.pairs c.look.ensures.goes c.list_behind.ensures.goes
    c.in-Ok-room_for.room c.above-upper.result c.in-Ok-room_for.ensures c.above-upper.ensures c.in-Err-list_behind.fault
    c.in-Err-list_behind.ensures.fault

pub returns-in-Ok-page_of-clause-goes : goal.returns-in-Ok-page_of-clause-goes
returns-in-Ok-page_of-clause-goes g c =
    goes-then g.P.Pairs.told c.args.pairs.now c.look.new.pairs c.list_behind.new.pairs 0 0 c.look.ensures.goes
    c.list_behind.ensures.goes

pub returns-in-Ok-page_of-clause-check : goal.returns-in-Ok-page_of-clause-check
returns-in-Ok-page_of-clause-check g c =
    let a : ReadDirArgs (List ℕ) = record {
      directory = c.args.directory.now;
      cookie = c.args.cookie;
      verifier = c.args.verifier.now;
      count = c.args.count;
    } in
    find-told g.P.Pairs.told c.args.pairs.now c.look.new.pairs c.args.cred.now (size_with c.args.bare) a c.in-Ok.seen
    c.in-Ok.ensures.check c.list_behind.new.pairs c.look.ensures.goes c.list_behind.ensures.goes
    c.in-Ok-room_for.room c.above-upper.result c.in-Ok-room_for.ensures c.above-upper.ensures c.in-Ok-list_behind.listing
    c.in-Ok-list_behind.ensures.ok c.in-Ok-page_of.page c.in-Ok-page_of.ensures

pub returns-clause-goes : goal.returns-clause-goes
returns-clause-goes g c =
    goes-then g.P.Pairs.told c.args.pairs.now c.look.new.pairs c.list_behind.new.pairs 0 0 c.look.ensures.goes
    c.list_behind.ensures.goes

pub returns-clause-check : goal.returns-clause-check
returns-clause-check g c =
    let a : ReadDirArgs (List ℕ) = record {
      directory = c.args.directory.now;
      cookie = c.args.cookie;
      verifier = c.args.verifier.now;
      count = c.args.count;
    } in
    find-small g.P.Pairs.told c.args.pairs.now c.look.new.pairs c.args.cred.now (size_with c.args.bare) a c.in-Ok.seen
    c.in-Ok.ensures.check c.list_behind.new.pairs c.look.ensures.goes c.list_behind.ensures.goes
    c.in-Ok-room_for.room c.above-upper.result c.in-Ok-room_for.ensures c.above-upper.ensures c.in-Ok-list_behind.listing
    c.in-Ok-list_behind.ensures.ok c.in-Err-page_of.status c.in-Err-page_of.ensures
