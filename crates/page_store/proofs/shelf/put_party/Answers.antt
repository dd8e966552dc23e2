use Rattle.std.proofs.Common.{◌≡◌, ◌∙◌, ap, sym, subst, Option, IsSome, unwrap_or}
use Rattle.std.specs.BTreeMap.{get}
use Rattle.page_store.specs.declared.party.Involved.{Involved}
use Rattle.page_store.specs.Keeps.{tid_cmp, concerned, party_in, IsPartyReady}
use Rattle.page_store.proofs.Rooms.{party_put, party_stays}
use Rattle.page_store.proofs.shelf.put_party.Goals as goal

pub returns-in-Some-get_mut-clause-here : goal.returns-in-Some-get_mut-clause-here
returns-in-Some-get_mut-clause-here c =
    let i = c.in-Some.involved in
    let there : IsSome (get tid_cmp c.args.parties.now (i.tid.pass, i.tid.serial)) =
    subst (λ (o : Option Involved). IsPartyReady c.args.parties.now o) c.in-Some.is c.requires in
    λ t. party_put c.args.parties.now (c.get_mut.follows.lender i.party) i.tid i.party ((c.get_mut.follows.holds i.party).3 there)
    t ∙
    ap (λ (o : Option Involved). unwrap_or (concerned o t) (party_in c.args.parties.now t)) (sym c.in-Some.is)

pub returns-in-Some-get_mut-clause-room : goal.returns-in-Some-get_mut-clause-room
returns-in-Some-get_mut-clause-room c =
    let i = c.in-Some.involved in
    let there : IsSome (get tid_cmp c.args.parties.now (i.tid.pass, i.tid.serial)) =
    subst (λ (o : Option Involved). IsPartyReady c.args.parties.now o) c.in-Some.is c.requires in
    λ place h. party_stays c.args.parties.now (c.get_mut.follows.lender i.party) i.tid i.party
    ((c.get_mut.follows.holds i.party).3 there) place h
