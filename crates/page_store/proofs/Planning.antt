-- Plans: what a first command does, the second over it, and their room.
use Rattle.std.proofs.Common.{◌≡◌, ℕ, ◌<◌, ◌^◌, Option, Some, None, IsSome, refl, ap, sym, ◌∙◌, subst}
use Rattle.std.specs.BTreeMap.{BTreeMap, get}
use Rattle.page_types.specs.declared.command.Command.{Command}
use Rattle.page_types.specs.declared.answer.Answer.{Answer}
use Rattle.page_types.specs.Stores.{StoreState}
use Rattle.page_types.specs.Obeys.{answer_of, after}
use Rattle.page_store.specs.declared.party.Party.{Party}
use Rattle.page_store.specs.declared.party.Involved.{Involved}
use Rattle.page_store.specs.declared.patch.Patch.{Patch}
use Rattle.page_store.specs.declared.patch.Step.{Step}
use Rattle.page_store.specs.declared.patch.First.{First}
use Rattle.page_store.specs.declared.shelf.Shelf.{Shelf}
use Rattle.page_store.specs.declared.store.Store.{Store}
use Rattle.page_store.specs.declared.store.Plan.{Plan}
use Rattle.page_store.specs.Keeps.{Keeps, state, tid_cmp, IsIndexed, IsPartyReady}
use Rattle.page_store.specs.Steps.{keeps_of, under, IsStep, HasRoom, RoomStays}
use Rattle.page_store.specs.Shown.{state_of, after_maybe, answer_maybe, IsFirst, IsPlan}

-- a first command
pub first_done : (shelf : Shelf) (first : Option Command) (command : Command) (step : Step) → first ≡ Some command →
    IsStep (keeps_of shelf) command step → IsIndexed (keeps_of shelf) →
    IsFirst shelf first (record { patch = step.patch; answer = Some step.answer })
first_done shelf first command step is done indexed =
    subst (λ (o : Option Command). IsFirst shelf o (record { patch = step.patch; answer = Some step.answer })) (sym is) (record {
      answer = ap (λ (a : Answer). Some a) done.answer;
      after = done.after;
      indexed = done.indexed indexed;
    })

party_room_stays : (m n : BTreeMap (ℕ × ℕ) Party) (o : Option Involved) →
    ((place : ℕ × ℕ) → IsSome (get tid_cmp m place) → IsSome (get tid_cmp n place)) → IsPartyReady m o → IsPartyReady n o
party_room_stays m n None stays ready = tt
party_room_stays m n (Some i) stays ready = stays (i.tid.pass, i.tid.serial) ready

pub room_stays : (old new : Shelf) (patch : Patch) → RoomStays old new → HasRoom old patch → HasRoom new patch
room_stays old new patch stays room = record {
  rows = λ k change found. stays.rows change.number (room.rows k change found);
  party = party_room_stays old.parties new.parties patch.party stays.parties room.party;
}

-- what was planned over a shelf, once there is room
pub planned : (old : Shelf) (store : Store) (first : Option Command) (second : Command) (plan : Plan) → store.obeyed < 2 ^ 63 →
    keeps_of store.shelf ≡ keeps_of old →
    IsFirst old first (record { patch = plan.first_patch; answer = plan.first }) →
    IsStep (under plan.first_patch (keeps_of old)) second (record { patch = plan.second_patch; answer = plan.second }) →
    HasRoom store.shelf plan.first_patch → HasRoom store.shelf plan.second_patch → IsPlan store first second plan
planned old store first second plan few same one two first_room second_room = record {
  obeyed = few;
  first_answer = subst (λ (k : Keeps). plan.first ≡ answer_maybe (state k) first) (sym same) one.answer;
  first_after = subst (λ (k : Keeps). state (under plan.first_patch k) ≡ after_maybe (state k) first) (sym same) one.after;
  first_indexed = subst (λ (k : Keeps). IsIndexed (under plan.first_patch k)) (sym same) one.indexed;
  first_room = first_room;
  second_answer = subst (λ (k : Keeps). plan.second ≡ answer_of (after_maybe (state k) first) second) (sym same)
      (two.answer ∙ ap (λ (s : StoreState). answer_of s second) one.after);
  second_after = subst (λ (k : Keeps). state (under plan.second_patch (under plan.first_patch k)) ≡ after
      (after_maybe (state k) first) second)
      (sym same) (two.after ∙ ap (λ (s : StoreState). after s second) one.after);
  second_indexed = subst (λ (k : Keeps). IsIndexed (under plan.second_patch (under plan.first_patch k))) (sym same)
      (two.indexed one.indexed);
  second_room = second_room;
}
