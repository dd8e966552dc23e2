use Rattle.std.proofs.Common.{◌≡◌, ◌∙◌, sym, subst, Option, Some}
use Rattle.page_store.specs.declared.party.Party.{Party}
use Rattle.page_store.specs.Keeps.{tid_cmp, PartiesStay}
use Rattle.std.specs.BTreeMap.{Updates}
use Rattle.page_store.proofs.Rooms.{stranger_put}
use Rattle.page_store.proofs.shelf.party_room.Goals as goal

pub returns-in_ok-insert-clause-stay : goal.returns-in_ok-insert-clause-stay
returns-in_ok-insert-clause-stay c =
    stranger_put c.args.parties.now c.insert.new.self c.in-Some.involved.tid (sym c.contains_key.ensures
    ∙ c.if-not-contains_key.true)
    (subst (λ (p : Party). Updates tid_cmp c.args.parties.now c.insert.new.self (
      c.in-Some.involved.tid.pass,
      c.in-Some.involved.tid.serial,
    ) (Some p))
    c.stranger.ensures c.in_ok-insert.ensures.updates)
