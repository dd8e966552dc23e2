-- A fabric before its first step.
use Rattle.std.proofs.Common.{arith, ◌≡◌, ◌≢◌, ℕ, ◌+◌, ◌*◌, ◌^◌, ◌<◌, ◌≤◌, ◌==◌, Bool, true, false, List, [], ◌∷◌, ◌++◌}
use Rattle.std.proofs.Common.{length, Option, Some, None, slice_get, refl, ap, sym, ◌∙◌, subst}
use Rattle.std.proofs.Common.{length-append}
use Rattle.std.specs.Prelude.{reverse, if◌then◌else◌, ⊤, ◌⊎◌}
use Rattle.pair_types.specs.PageMaps.{PageMap}
use Rattle.nfs3_types.specs.declared.entry.Entry.{Entry}
use Rattle.outside.specs.Weather.{WeatherTold}
use Rattle.page_types.specs.declared.journal.JEntry.{JEntry}
use Rattle.page_types.specs.Journals.{Origin, own}
use Rattle.page_types.specs.Stores.{first_state, first_kept}
use Rattle.serial_rules.specs.Worlds.{first_page, replay, pending}
use Rattle.serial_rules.specs.Lawful.{Answered, FairList}
use Rattle.store_group.specs.declared.group.StoreGroup.{StoreGroup}
use Rattle.fabric.specs.declared.book.Book.{Book}
use Rattle.std.proofs.lemmas.Option.{same_Some}
use Rattle.paxos_group.specs.Settling.{Settling}
use Rattle.page_types.specs.declared.command.Command.{Command}
use Rattle.store_group.specs.Behind.{Behind}
use Rattle.store_group.specs.Shown.{behind, settling_of, first_of_store}
use Rattle.fabric.proofs.Lists.{push_last, push_other}
use Rattle.fabric.proofs.Entries.{are_equal}
use Rattle.fabric.specs.Keeping.{AreFirst, IsFirst, IsStoreOf, IsFabric, shown_of}
use Rattle.fabric.specs.Settled.{settled, steps as all_steps}
use Rattle.fabric.specs.Stepping.{IsShape, AreHeard}
use Rattle.fabric.specs.Within.{AreWithin, AreReadersWithin, IsWriterWithin, IsPendingWithin}

abbrev origin_of : ℕ → List ℕ → Origin
origin_of stores first = record { stores = stores; first = first }

at_first : (book : Book) → book.entries.items ≡ [] → (P : List JEntry → Type 0) → P [] → P (reverse book.entries.items)
at_first book entries P h = subst (λ l. P (reverse l)) (sym entries) h

record NoHolds (stores : ℕ) (p : Option (List ℕ)) (n : ℕ) : Type 0 where
  readers : AreReadersWithin stores (first_kept p n).readers
  writer : IsWriterWithin stores (first_kept p n).writer

none_held : (stores : ℕ) (p : Option (List ℕ)) (n : ℕ) → NoHolds stores p n
none_held stores None n = record { readers = tt; writer = tt }
none_held stores (Some page) n = by_slot (n == 0) refl
  where
    by_slot : (b : Bool) → (n == 0) ≡ b → NoHolds stores (Some page) n
    by_slot true is = record { readers = rw is tt; writer = rw is tt }
    by_slot false is = record { readers = rw is tt; writer = rw is tt }

first_within : (stores : ℕ) (p : Option (List ℕ)) → AreWithin stores (first_state p)
first_within stores p = record { readers = λ n. (none_held stores p n).readers; writer = λ n. (none_held stores p n).writer }

first_store : (origin : Origin) (size store : ℕ) (g : StoreGroup) → IsFirst origin.first size store g →
    IsStoreOf origin size [] store g
first_store origin size store g is = record {
  behind_is = is.behind_is;
  number = is.number;
  replicas = is.replicas;
  first_is = is.first_is;
  log = is.log;
  round = let e = is.round in omega (arith, e);
}

-- what a new store group is made with
pub made_first : (first : List ℕ) (size store : ℕ) (page : Option (List ℕ)) (g : StoreGroup) →
    page ≡ (if store == 0 then Some first else None) → behind g ≡ record { state = first_state page; pending = None } →
    settling_of g ≡ record { store = store; replicas = size; accepted = []; log = []; pending = None; round = 1; held = 0 } →
    first_of_store g ≡ page → IsFirst first size store g
made_first first size store page g is b s f = record {
  behind_is = b ∙ ap (λ (p : Option (List ℕ)). record { state = first_state p; pending = None }) is;
  number = ap (λ (x : Settling Command). x.store) s;
  replicas = ap (λ (x : Settling Command). x.replicas) s;
  first_is = f ∙ is;
  log = ap (λ (x : Settling Command). x.log) s;
  round = ap (λ (x : Settling Command). x.round) s;
}

pub none_first : (first : List ℕ) (size : ℕ) (groups : List StoreGroup) → groups ≡ [] → AreFirst first size 0 groups
none_first first size groups is = subst (AreFirst first size 0) (sym is)
    (record { groups_are = refl; each = λ store g at. absurd (let e : None ≡ Some g = at in (cc)) })

pub pushed : (first : List ℕ) (size count : ℕ) (groups later : List StoreGroup) (g : StoreGroup) →
    AreFirst first size count groups →
    later ≡ groups ++ g ∷ [] → IsFirst first size count g → AreFirst first size (count + 1) later
pushed first size count groups later g are is new = subst (AreFirst first size (count + 1)) (sym is) (record {
  groups_are = length-append groups (g ∷ []) ∙ ap (λ n. n + 1) are.groups_are;
  each = λ store x at. by_place store x at (store == length groups) refl;
})
  where
    by_place : (store : ℕ) (x : StoreGroup) → slice_get (groups ++ g ∷ []) store ≡ Some x → (b : Bool) →
        (store == length groups) ≡ b →
        IsFirst first size store x
    by_place store x at true e =
        let here : store ≡ length groups = are_equal store (length groups) e in
        let last : slice_get (groups ++ g ∷ []) (length groups) ≡ Some g = push_last groups g in
        let same : g ≡ x = same_Some g x (sym last ∙ (ap (λ n. slice_get (groups ++ g ∷ []) n) (sym here) ∙ at)) in
        subst (λ y. IsFirst first size store y) same (subst (λ n. IsFirst first size n g) (sym (here ∙ are.groups_are)) new)
    by_place store x at false e = are.each store x (sym (push_other groups g store e) ∙ at)

module _ {S W : Type 0} (stands : PageMap → S → Type 0) (next : S → List ℕ → Entry → S → Type 0) (told : WeatherTold W) where
  pub begins : (stores : ℕ) (first : List ℕ) (size : ℕ) (book : Book) (weather : W) (groups : List StoreGroup) →
      IsShape stores size →
      book.entries.items ≡ [] → book.steps ≡ 0 → book.doubts ≡ 0 → length groups ≡ stores →
      ((store : ℕ) (g : StoreGroup) → slice_get groups store ≡ Some g → IsFirst first size store g) →
      IsFabric stands next told (shown_of stores first size book weather) groups book.steps
  begins stores first size book weather groups shape entries steps doubts count each = record {
    groups_are = count;
    some = shape.some;
    not_many = shape.most;
    size = shape.size;
    answered = at_first book entries (λ es. Answered (origin_of stores first) es) tt;
    fair = λ p. at_first book entries (λ es. FairList stands next stores (own p es)) tt;
    count_is = at_first book entries (λ es. book.steps ≡ all_steps es) steps;
    most = omega (arith, steps);
    doubted = omega (arith, doubts);
    few = omega (arith, doubts);
    marred = λ l. absurd (omega (arith, doubts, l));
    each = λ store g at. at_first book entries (λ es. IsStoreOf (origin_of stores first) size es store g)
        (first_store (origin_of stores first) size store g (each store g at));
    within = λ store. at_first book entries (λ es. AreWithin stores (replay (origin_of stores first) es store))
        (first_within stores (first_page (origin_of stores first) store));
    pending_within = λ store. at_first book entries (λ es. IsPendingWithin stores (pending es store)) tt;
    heard = λ store. at_first book entries (λ es. 1 ≤ length (settled es store) → AreHeard told size weather store)
        (λ l. absurd (omega (arith, l)));
  }
