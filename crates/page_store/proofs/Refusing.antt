-- Why a Write or a Prepare changes nothing, one cause after another.
use Rattle.std.proofs.Common.{◌≡◌, Bool, true, false, List, Option, Some, None, Result, Ok, Err, refl, ap, sym, ◌∙◌}
use Rattle.std.specs.Prelude.{if◌then◌else◌, option_map, IfOk, IfSome}
use Rattle.nfs3_types.specs.declared.memory.NoMemory.{NoMemory}
use Rattle.pair_types.specs.declared.slot.Tid.{Tid}
use Rattle.page_types.specs.declared.outcome.Outcome.{Outcome}
use Rattle.page_types.specs.declared.versions.PageRead.{PageRead}
use Rattle.page_types.specs.declared.versions.PageWrite.{PageWrite}
use Rattle.page_types.specs.declared.command.Transaction.{Transaction}
use Rattle.page_types.specs.declared.command.Part.{Part}
use Rattle.page_types.specs.declared.answer.Answer.{Answer}
use Rattle.page_types.specs.declared.answer.Answer.TheVariants as answer
use Rattle.page_types.specs.Asked.{first_of}
use Rattle.page_types.specs.Stores.{StoreState}
use Rattle.page_types.specs.Obeys.{busy, conflict, settled, own_hold, decided_answer, refused_write, write_refusal}
use Rattle.page_types.specs.Obeys.{prepare_refusal}
use Rattle.page_store.specs.Changes.{settled_write}

-- what is no answer is none
pub none_if : {X : Type 0} (o : Option X) → ((x : X) → o ≡ Some x → ⊥) → None ≡ o
none_if None h = refl
none_if (Some x) h = absurd (h x refl)

-- equal lists are refused equally
pub crossed_over : (r : Result (Option Answer) NoMemory) (s : StoreState) (tid : Tid) (rs qs : List PageRead)
    (ws us : List PageWrite) →
    rs ≡ qs → ws ≡ us → IfOk r (λ a. a ≡ first_of (busy s tid rs ws) (conflict s rs)) →
    IfOk r (λ a. a ≡ first_of (busy s tid qs us) (conflict s qs))
crossed_over (Ok a) s tid rs qs ws us reads writes given = given
    ∙ (λ i. first_of (busy s tid (reads i) (writes i)) (conflict s (reads i)))
crossed_over (Err e) s tid rs qs ws us reads writes given = tt

unsettled : (d : Option Outcome) (e : Bool) → None ≡ settled_write d e →
    first_of (decided_answer d) (if e then Some answer.Ended else None) ≡ None
unsettled None false h = refl
unsettled None true h = cc
unsettled (Some o) e h = cc

plain : (a : Option Answer) → IfSome a (λ k. refused_write k ≡ k) → a ≡ option_map refused_write a
plain None h = refl
plain (Some k) h = ap (λ y. Some y) (sym h)

-- a transaction that is not settled is refused where something stands in its way
pub write_crossed : (r : Result (Option Answer) NoMemory) (s : StoreState) (x : Transaction) →
    None ≡ settled_write (s.decided x.tid) (s.ended x.tid) →
    IfOk r (λ a. a ≡ first_of (busy s x.tid x.reads x.writes) (conflict s x.reads)) →
    IfOk r (λ a. IfSome a (λ k. refused_write k ≡ k)) →
    IfOk r (λ a. a ≡ option_map refused_write (write_refusal s x))
write_crossed (Ok a) s x open_yet given is_plain =
    plain a is_plain ∙ ap (λ (o : Option Answer). option_map refused_write o)
    (given ∙ ap (λ (o : Option Answer). first_of o (first_of (busy s x.tid x.reads x.writes) (conflict s x.reads)))
    (sym (unsettled (s.decided x.tid) (s.ended x.tid) open_yet)))
write_crossed (Err e) s x open_yet given is_plain = tt

chain : (a d e o z : Option Answer) → None ≡ d → None ≡ first_of e o → a ≡ z → a ≡ first_of (first_of d e) (first_of o z)
chain a None None None z h k is = is
chain a None None (Some y) z h k is = cc
chain a None (Some y) o z h k is = cc
chain a (Some y) e o z h k is = cc

-- a part that is not settled and not prepared is refused where something stands in its way
pub prepare_crossed : (r : Result (Option Answer) NoMemory) (s : StoreState) (part : Part) →
    None ≡ decided_answer (s.decided part.tid) →
    None ≡ first_of (if s.ended part.tid then Some answer.Ended else None) (own_hold s part.tid part.reads) →
    IfOk r (λ a. a ≡ first_of (busy s part.tid part.reads part.writes) (conflict s part.reads)) →
    IfOk r (λ a. a ≡ prepare_refusal s part)
prepare_crossed (Ok a) s part undecided unprepared given =
    chain a (decided_answer (s.decided part.tid)) (if s.ended part.tid then Some answer.Ended else None)
    (own_hold s part.tid part.reads) (first_of (busy s part.tid part.reads part.writes) (conflict s part.reads))
    undecided unprepared given
prepare_crossed (Err e) s part undecided unprepared given = tt
