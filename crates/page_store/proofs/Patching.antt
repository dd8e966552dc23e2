-- A patch makes what is kept what it is after its command.
use Rattle.std.proofs.Common.{◌≡◌, ℕ, ◌+◌, Bool, true, false, cond, List, [], ◌∷◌, ◌++◌, map, Option, Some, None, IsSome}
use Rattle.std.proofs.Common.{unwrap_or, refl, ap, sym, ◌∙◌, subst}
use Rattle.std.specs.Prelude.{◌==◌, ◌&&◌, ◌||◌, if◌then◌else◌, option_map}
use Rattle.std.proofs.Math.Path.{fun_ext}
use Rattle.pair_types.specs.declared.slot.Tid.{Tid}
use Rattle.page_types.specs.declared.outcome.Outcome.{Outcome}
use Rattle.page_types.specs.declared.outcome.Outcome.TheVariants.{Commit}
use Rattle.page_types.specs.declared.versions.PageRead.{PageRead}
use Rattle.page_types.specs.declared.versions.PageWrite.{PageWrite}
use Rattle.page_types.specs.declared.command.Transaction.{Transaction}
use Rattle.page_types.specs.declared.command.Part.{Part}
use Rattle.page_types.specs.declared.command.Decision.{Decision}
use Rattle.page_types.specs.declared.command.Command.{Command}
use Rattle.page_types.specs.declared.command.Command.TheVariants.{Fresh, Write, Prepare, Decide, Resolve}
use Rattle.page_types.specs.declared.answer.Answer.{Answer}
use Rattle.page_types.specs.declared.answer.Answer.TheVariants as answer
use Rattle.page_types.specs.Accesses.{is_same, read_at, written_at, AreAccesses}
use Rattle.page_types.specs.Stores.{Kept, StoreState}
use Rattle.page_types.specs.Obeys.{answer_of, after, after_write, after_prepare, after_decide, write_refusal, prepare_refusal}
use Rattle.page_types.specs.Obeys.{refused_write, write_answer, decided_answer, deciding, ending, has_hold, written, holding}
use Rattle.page_types.specs.Obeys.{hold_of, resolving}
use Rattle.page_store.specs.declared.row.Row.{Row}
use Rattle.page_store.specs.declared.row.Change.{Change}
use Rattle.page_store.specs.declared.party.Party.{Party}
use Rattle.page_store.specs.declared.party.Involved.{Involved}
use Rattle.page_store.specs.declared.patch.Step.{Step}
use Rattle.page_store.specs.Keeps.{Keeps, state, patched, changed, change_in, concerned, is_among, IsIndexed}
use Rattle.page_store.specs.Changes.{write_change, hold_change, end_change}
use Rattle.page_store.specs.Steps.{under, IsStep}
use Rattle.page_store.proofs.Tids.{equal_numbers, same_tids, equal_to_self}
use Rattle.page_store.proofs.Holding.{or_true, or_right, or_false_left, or_false_right, among_left, among_right, among_read}
use Rattle.page_store.proofs.Holding.{quiet_page, hold_was, no_hold, hold_written, hold_from}

-- ## Rows

written_by : (keeps : Keeps) (tid : Tid) (w : PageWrite) (o : Option Row) (page : Option (List ℕ)) (n : ℕ) (b : Bool)
    → (w.number == n) ≡ b →
    changed o (keeps.slot n) ≡ written tid page (keeps.slot n) →
    changed (if b then Some (write_change keeps tid w).row else o) (keeps.slot n)
    ≡ written tid (if b then Some w.content else page) (keeps.slot n)
written_by keeps tid w o page n true is later =
    ap (λ (m : ℕ). written tid (Some w.content) (keeps.slot m)) (equal_numbers w.number n is)
written_by keeps tid w o page n false is later = later

pub rows_written : (keeps : Keeps) (tid : Tid) (ws : List PageWrite) (n : ℕ) →
    changed (change_in (map (write_change keeps tid) ws) n) (keeps.slot n) ≡ written tid (written_at ws n) (keeps.slot n)
rows_written keeps tid [] n = refl
rows_written keeps tid (w ∷ ws) n =
    written_by keeps tid w (change_in (map (write_change keeps tid) ws) n) (written_at ws n) n (w.number == n) refl
    (rows_written keeps tid ws n)

-- a page once it is held, where it was read
abbrev held_if : Part → ℕ → Option ℕ → Kept → Kept
held_if part n None kept = kept
held_if part n (Some version) kept = holding (hold_of part) (written_at part.writes n) (Some version) kept

held_by : (keeps : Keeps) (part : Part) (r : PageRead) (o : Option Row) (version : Option ℕ) (n : ℕ) (b : Bool)
    → (r.number == n) ≡ b →
    changed o (keeps.slot n) ≡ held_if part n version (keeps.slot n) →
    changed (if b then Some (hold_change keeps part r).row else o) (keeps.slot n)
    ≡ held_if part n (if b then Some r.version else version) (keeps.slot n)
held_by keeps part r o version n true is later =
    ap (λ (m : ℕ). holding (hold_of part) (written_at part.writes m) (Some r.version) (keeps.slot m))
    (equal_numbers r.number n is)
held_by keeps part r o version n false is later = later

rows_held_if : (keeps : Keeps) (part : Part) (rs : List PageRead) (n : ℕ) →
    changed (change_in (map (hold_change keeps part) rs) n) (keeps.slot n) ≡ held_if part n (read_at rs n) (keeps.slot n)
rows_held_if keeps part [] n = refl
rows_held_if keeps part (r ∷ rs) n =
    held_by keeps part r (change_in (map (hold_change keeps part) rs) n) (read_at rs n) n (r.number == n) refl
    (rows_held_if keeps part rs n)

held_is : (part : Part) (n : ℕ) (page : Option (List ℕ)) (version : Option ℕ) (kept : Kept) → written_at part.writes n ≡ page →
    (IsSome page → IsSome version) → held_if part n version kept ≡ holding (hold_of part) page version kept
held_is part n page (Some version) kept is covers = ap (λ p. holding (hold_of part) p (Some version) kept) is
held_is part n None None kept is covers = refl
held_is part n (Some page) None kept is covers = absurd (let h : IsSome {T = ℕ} None = covers refl in cc)

pub rows_held : (keeps : Keeps) (part : Part) → AreAccesses part.reads part.writes → (n : ℕ) →
    changed (change_in (map (hold_change keeps part) part.reads) n) (keeps.slot n)
    ≡ holding (hold_of part) (written_at part.writes n) (read_at part.reads n) (keeps.slot n)
rows_held keeps part accesses n =
    rows_held_if keeps part part.reads n ∙
    held_is part n (written_at part.writes n) (read_at part.reads n) (keeps.slot n) refl (accesses.are_read n)

ended_by : (keeps : Keeps) (tid : Tid) (commit : Bool) (m : ℕ) (o : Option Row) (among : Bool) (n : ℕ) (b : Bool) → (m == n) ≡ b →
    ((among ≡ false → resolving tid commit (keeps.slot n).writer (keeps.slot n) ≡ keeps.slot n) →
    changed o (keeps.slot n) ≡ resolving tid commit (keeps.slot n).writer (keeps.slot n)) →
    ((b || among) ≡ false → resolving tid commit (keeps.slot n).writer (keeps.slot n) ≡ keeps.slot n) →
    changed (if b then Some (end_change keeps tid commit m).row else o) (keeps.slot n)
    ≡ resolving tid commit (keeps.slot n).writer (keeps.slot n)
ended_by keeps tid commit m o among n true is later quiet =
    ap (λ (k : ℕ). resolving tid commit (keeps.slot k).writer (keeps.slot k)) (equal_numbers m n is)
ended_by keeps tid commit m o among n false is later quiet = later quiet

pub rows_ended : (keeps : Keeps) (tid : Tid) (commit : Bool) (ms : List ℕ) (n : ℕ) →
    (is_among ms n ≡ false → resolving tid commit (keeps.slot n).writer (keeps.slot n) ≡ keeps.slot n) →
    changed (change_in (map (end_change keeps tid commit) ms) n) (keeps.slot n)
    ≡ resolving tid commit (keeps.slot n).writer (keeps.slot n)
rows_ended keeps tid commit [] n quiet = sym (quiet refl)
rows_ended keeps tid commit (m ∷ ms) n quiet =
    ended_by keeps tid commit m (change_in (map (end_change keeps tid commit) ms) n) (is_among ms n) n (m == n) refl
    (rows_ended keeps tid commit ms n) quiet

-- where the index has all holds, a Resolve may pass the other pages
pub quiet_elsewhere : (keeps : Keeps) (tid : Tid) (commit : Bool) → IsIndexed keeps → (n : ℕ) →
    is_among (keeps.party tid).numbers n ≡ false → resolving tid commit (keeps.slot n).writer (keeps.slot n) ≡ keeps.slot n
quiet_elsewhere keeps tid commit indexed n away = by_hold (has_hold tid (keeps.slot n)) refl
  where
    by_hold : (b : Bool) → has_hold tid (keeps.slot n) ≡ b → resolving tid commit (keeps.slot n).writer
        (keeps.slot n) ≡ keeps.slot n
    by_hold true is = absurd (let h : true ≡ false = sym (indexed n tid is) ∙ away in cc)
    by_hold false is = quiet_page tid commit (keeps.slot n) is

-- ## Transactions

abbrev with_party : Tid → Party → Keeps → Tid → Party
with_party tid party keeps t = unwrap_or (concerned (Some (record { tid = tid; party = party })) t) (keeps.party t)

outcomes : (tid : Tid) (party : Party) (outcome : Outcome) (keeps : Keeps) → party.outcome ≡ Some outcome →
    (λ (t : Tid). (with_party tid party keeps t).outcome) ≡ deciding (state keeps).decided tid outcome
outcomes tid party outcome keeps is = fun_ext (λ t. by_test t (is_same tid t))
  where
    by_test : (t : Tid) (b : Bool) → (unwrap_or (if b then Some party else None) (keeps.party t)).outcome
        ≡ (if b then Some outcome else (keeps.party t).outcome)
    by_test t true = is
    by_test t false = refl

same_outcomes : (tid : Tid) (party : Party) (keeps : Keeps) → party.outcome ≡ (keeps.party tid).outcome →
    (λ (t : Tid). (with_party tid party keeps t).outcome) ≡ (state keeps).decided
same_outcomes tid party keeps is = fun_ext (λ t. by_test t (is_same tid t) refl)
  where
    by_test : (t : Tid) (b : Bool) → is_same tid t ≡ b
        → (unwrap_or (if b then Some party else None) (keeps.party t)).outcome ≡ (keeps.party t).outcome
    by_test t true same = is ∙ ap (λ u. (keeps.party u).outcome) (same_tids tid t same)
    by_test t false same = refl

same_ends : (tid : Tid) (party : Party) (keeps : Keeps) → party.ended ≡ (keeps.party tid).ended →
    (λ (t : Tid). (with_party tid party keeps t).ended) ≡ (state keeps).ended
same_ends tid party keeps is = fun_ext (λ t. by_test t (is_same tid t) refl)
  where
    by_test : (t : Tid) (b : Bool) → is_same tid t ≡ b
        → (unwrap_or (if b then Some party else None) (keeps.party t)).ended ≡ (keeps.party t).ended
    by_test t true same = is ∙ ap (λ u. (keeps.party u).ended) (same_tids tid t same)
    by_test t false same = refl

ends : (tid : Tid) (party : Party) (keeps : Keeps) → party.ended ≡ true →
    (λ (t : Tid). (with_party tid party keeps t).ended) ≡ ending (state keeps).ended tid
ends tid party keeps is = fun_ext (λ t. by_test t (is_same tid t))
  where
    by_test : (t : Tid) (b : Bool) → (unwrap_or (if b then Some party else None) (keeps.party t)).ended ≡ (b
        || (keeps.party t).ended)
    by_test t true = is
    by_test t false = refl

same_numbers : (tid : Tid) (party : Party) (keeps : Keeps) (t : Tid) (n : ℕ) →
    (is_among (keeps.party tid).numbers n ≡ true → is_among party.numbers n ≡ true) →
    is_among (keeps.party t).numbers n ≡ true → is_among (with_party tid party keeps t).numbers n ≡ true
same_numbers tid party keeps t n grows h = by_test (is_same tid t) refl
  where
    by_test : (b : Bool) → is_same tid t ≡ b → is_among (unwrap_or (if b then Some party else None) (keeps.party t)).numbers
        n ≡ true
    by_test true same = grows (subst (λ u. is_among (keeps.party u).numbers n ≡ true) (sym (same_tids tid t same)) h)
    by_test false same = h

-- ## Steps

none_before : {A B : Type 0} (f : A → B) (o : Option A) → option_map f o ≡ None → o ≡ None
none_before f None h = refl
none_before f (Some x) h = cc

-- a step that changes nothing
pub only_step : (keeps : Keeps) (command : Command) (step : Step) → under step.patch keeps ≡ keeps →
    step.answer ≡ answer_of (state keeps) command → after (state keeps) command ≡ state keeps → IsStep keeps command step
only_step keeps command step same told stays = record {
  answer = told;
  after = ap state same ∙ sym stays;
  indexed = λ indexed. subst IsIndexed (sym same) indexed;
}

refused_answer : (refusal : Option Answer) (a : Answer) → Some a ≡ option_map refused_write refusal → a ≡ write_answer refusal
refused_answer None a h = cc
refused_answer (Some r) a h = cc

refused_after : (refusal : Option Answer) (a : Answer) (s : StoreState) (x : Transaction)
    → Some a ≡ option_map refused_write refusal →
    after_write refusal s x ≡ s
refused_after None a s x h = cc
refused_after (Some r) a s x h = refl

-- a Write that is refused
pub write_refused : (keeps : Keeps) (x : Transaction) (step : Step) (a : Answer) →
    Some a ≡ option_map refused_write (write_refusal (state keeps) x) → step.answer ≡ a → under step.patch keeps ≡ keeps →
    IsStep keeps (Write x) step
write_refused keeps x step a refused told same =
    only_step keeps (Write x) step same (told ∙ refused_answer (write_refusal (state keeps) x) a refused)
    (refused_after (write_refusal (state keeps) x) a (state keeps) x refused)

-- a Write that is done
pub write_done : (keeps : Keeps) (x : Transaction) (rows : List Change) (party : Party) (step : Step) →
    None ≡ option_map refused_write (write_refusal (state keeps) x) →
    rows ≡ map (write_change keeps x.tid) x.writes →
    party ≡ record (keeps.party x.tid) { outcome = Some (Commit x.entry) } →
    step.answer ≡ answer.Wrote →
    under step.patch keeps ≡ patched rows (Some (record { tid = x.tid; party = party })) keeps.next keeps →
    IsStep keeps (Write x) step
write_done keeps x rows party step refused are is told under_is = record {
  answer = told ∙ ap write_answer (sym free);
  after = ap state under_is ∙ (made ∙ ap (λ r. after_write r (state keeps) x) (sym free));
  indexed = λ indexed. subst IsIndexed (sym under_is) (λ n t h.
      same_numbers x.tid party keeps t n (subst (λ (p : Party). is_among (keeps.party x.tid).numbers n ≡ true
      → is_among p.numbers n ≡ true) (sym is) (λ h. h))
      (indexed n t (sym (hold_written t x.tid (written_at x.writes n) (keeps.slot n)) ∙
      subst (λ k. has_hold t k ≡ true) (slots n) h)));
}
  where
    free : write_refusal (state keeps) x ≡ None
    free = none_before refused_write (write_refusal (state keeps) x) (sym refused)

    slots : (n : ℕ) → changed (change_in rows n) (keeps.slot n) ≡ written x.tid (written_at x.writes n) (keeps.slot n)
    slots n = subst (λ l. changed (change_in l n) (keeps.slot n) ≡ written x.tid (written_at x.writes n) (keeps.slot n)) (sym are)
        (rows_written keeps x.tid x.writes n)

    made : state (patched rows (Some (record { tid = x.tid; party = party })) keeps.next keeps) ≡ after_write None (state keeps) x
    made =
        let decided = outcomes x.tid party (Commit x.entry) keeps (ap (λ (p : Party). p.outcome) is) in
        let ended = same_ends x.tid party keeps (ap (λ (p : Party). p.ended) is) in
        let slot = fun_ext slots in
        λ i. record { slot = slot i; decided = decided i; ended = ended i; next = keeps.next }

given_answer : (refusal : Option Answer) (a : Answer) → Some a ≡ refusal → a ≡ unwrap_or refusal answer.Prepared
given_answer None a h = cc
given_answer (Some r) a h = cc

given_after : (refusal : Option Answer) (a : Answer) (s : StoreState) (part : Part) → Some a ≡ refusal
    → after_prepare refusal s part ≡ s
given_after None a s part h = cc
given_after (Some r) a s part h = refl

-- a Prepare that is refused
pub prepare_refused : (keeps : Keeps) (part : Part) (step : Step) (a : Answer) →
    Some a ≡ prepare_refusal (state keeps) part → step.answer ≡ a → under step.patch keeps ≡ keeps
    → IsStep keeps (Prepare part) step
prepare_refused keeps part step a refused told same =
    only_step keeps (Prepare part) step same (told ∙ given_answer (prepare_refusal (state keeps) part) a refused)
    (given_after (prepare_refusal (state keeps) part) a (state keeps) part refused)

-- a Prepare that is done
pub prepare_done : (keeps : Keeps) (part : Part) (rows : List Change) (party : Party) (step : Step) →
    AreAccesses part.reads part.writes →
    None ≡ prepare_refusal (state keeps) part →
    rows ≡ map (hold_change keeps part) part.reads →
    party ≡ record (keeps.party part.tid) {
      numbers = (keeps.party part.tid).numbers
          ++ map (λ (r : PageRead). r.number) part.reads;
    } →
    step.answer ≡ answer.Prepared →
    under step.patch keeps ≡ patched rows (Some (record { tid = part.tid; party = party })) keeps.next keeps →
    IsStep keeps (Prepare part) step
prepare_done keeps part rows party step accesses refused are is told under_is = record {
  answer = told ∙ ap (λ r. unwrap_or r answer.Prepared) refused;
  after = ap state under_is ∙ (made ∙ ap (λ r. after_prepare r (state keeps) part) refused);
  indexed = λ indexed. subst IsIndexed (sym under_is) (λ n t h.
      by_own indexed n t (is_same part.tid t) refl (subst (λ k. has_hold t k ≡ true) (slots n) h));
}
  where
    slots : (n : ℕ) → changed (change_in rows n) (keeps.slot n)
        ≡ holding (hold_of part) (written_at part.writes n) (read_at part.reads n) (keeps.slot n)
    slots n = subst (λ l. changed (change_in l n) (keeps.slot n)
        ≡ holding (hold_of part) (written_at part.writes n) (read_at part.reads n) (keeps.slot n)) (sym are)
        (rows_held keeps part accesses n)

    made : state (patched rows (Some (record { tid = part.tid; party = party })) keeps.next keeps) ≡ after_prepare None
        (state keeps) part
    made =
        let decided = same_outcomes part.tid party keeps (ap (λ (p : Party). p.outcome) is) in
        let ended = same_ends part.tid party keeps (ap (λ (p : Party). p.ended) is) in
        let slot = fun_ext slots in
        λ i. record { slot = slot i; decided = decided i; ended = ended i; next = keeps.next }

    -- a page that was not read is as it was
    grown : IsIndexed keeps → (n : ℕ) (version : Option ℕ) → read_at part.reads n ≡ version →
        has_hold part.tid (holding (hold_of part) (written_at part.writes n) version (keeps.slot n)) ≡ true →
        is_among ((keeps.party part.tid).numbers ++ map (λ (r : PageRead). r.number) part.reads) n ≡ true
    grown indexed n (Some version) found h =
        among_right (keeps.party part.tid).numbers (map (λ (r : PageRead). r.number) part.reads) n
        (among_read part.reads n (subst (λ (o : Option ℕ). IsSome o) (sym found) refl))
    grown indexed n None found h = by_page (written_at part.writes n) refl h
      where
        by_page : (page : Option (List ℕ)) → written_at part.writes n ≡ page →
            has_hold part.tid (holding (hold_of part) page None (keeps.slot n)) ≡ true →
            is_among ((keeps.party part.tid).numbers ++ map (λ (r : PageRead). r.number) part.reads) n ≡ true
        by_page None wrote h =
            among_left (keeps.party part.tid).numbers (map (λ (r : PageRead). r.number) part.reads) n (indexed n part.tid h)
        by_page (Some page) wrote h =
            absurd (let some : IsSome (read_at part.reads n) =
            accesses.are_read n (subst (λ (o : Option (List ℕ)). IsSome o) (sym wrote) refl) in
            let none : IsSome {T = ℕ} None = subst (λ (o : Option ℕ). IsSome o) found some in cc)

    by_own : IsIndexed keeps → (n : ℕ) (t : Tid) (b : Bool) → is_same part.tid t ≡ b →
        has_hold t (holding (hold_of part) (written_at part.writes n) (read_at part.reads n) (keeps.slot n)) ≡ true →
        is_among (unwrap_or (if b then Some party else None) (keeps.party t)).numbers n ≡ true
    by_own indexed n t true same h =
        subst (λ (p : Party). is_among p.numbers n ≡ true) (sym is)
        (grown indexed n (read_at part.reads n) refl
        (subst (λ u. has_hold u (holding (hold_of part) (written_at part.writes n) (read_at part.reads n) (keeps.slot n)) ≡ true)
        (sym (same_tids part.tid t same)) h))
    by_own indexed n t false same h =
        indexed n t (hold_from t (hold_of part) (written_at part.writes n) (read_at part.reads n) (keeps.slot n) h same)

decided_given : (o : Option Outcome) (a : Answer) (s : StoreState) (tid : Tid) (p : Outcome) → Some a ≡ decided_answer o
    → a ≡ answer.Decided (unwrap_or o p)
decided_given None a s tid p h = cc
decided_given (Some q) a s tid p h = cc

decided_stays : (o : Option Outcome) (a : Answer) (s : StoreState) (tid : Tid) (p : Outcome) → Some a ≡ decided_answer o
    → after_decide o s tid p ≡ s
decided_stays None a s tid p h = cc
decided_stays (Some q) a s tid p h = refl

-- a Decide of what was decided
pub decide_refused : (keeps : Keeps) (d : Decision) (step : Step) (a : Answer) →
    Some a ≡ decided_answer (keeps.party d.tid).outcome → step.answer ≡ a → under step.patch keeps ≡ keeps
    → IsStep keeps (Decide d) step
decide_refused keeps d step a decided told same =
    only_step keeps (Decide d) step same (told ∙ decided_given (keeps.party d.tid).outcome a (state keeps) d.tid d.outcome
    decided)
    (decided_stays (keeps.party d.tid).outcome a (state keeps) d.tid d.outcome decided)

undecided : (o : Option Outcome) → None ≡ decided_answer o → o ≡ None
undecided None h = refl
undecided (Some q) h = cc

-- a Decide of what was not decided yet
pub decide_done : (keeps : Keeps) (d : Decision) (party : Party) (step : Step) →
    None ≡ decided_answer (keeps.party d.tid).outcome →
    party ≡ record (keeps.party d.tid) { outcome = Some d.outcome } →
    step.answer ≡ answer.Decided d.outcome →
    under step.patch keeps ≡ patched [] (Some (record { tid = d.tid; party = party })) keeps.next keeps →
    IsStep keeps (Decide d) step
decide_done keeps d party step decided is told under_is = record {
  answer = told ∙ ap (λ (o : Option Outcome). answer.Decided (unwrap_or o d.outcome)) (sym free);
  after = ap state under_is ∙ (made ∙ ap (λ (o : Option Outcome). after_decide o (state keeps) d.tid d.outcome) (sym free));
  indexed = λ indexed. subst IsIndexed (sym under_is) (λ n t h.
      same_numbers d.tid party keeps t n
      (subst (λ (p : Party). is_among (keeps.party d.tid).numbers n ≡ true → is_among p.numbers n ≡ true) (sym is) (λ h. h))
      (indexed n t h));
}
  where
    free : (keeps.party d.tid).outcome ≡ None
    free = undecided (keeps.party d.tid).outcome decided

    made : state (patched [] (Some (record { tid = d.tid; party = party })) keeps.next keeps) ≡ after_decide None (state keeps)
        d.tid d.outcome
    made =
        let decided = outcomes d.tid party d.outcome keeps (ap (λ (p : Party). p.outcome) is) in
        let ended = same_ends d.tid party keeps (ap (λ (p : Party). p.ended) is) in
        λ i. record { slot = keeps.slot; decided = decided i; ended = ended i; next = keeps.next }

-- a Resolve
pub resolve_done : (keeps : Keeps) (tid : Tid) (commit : Bool) (rows : List Change) (party : Party) (step : Step) →
    IsIndexed keeps →
    rows ≡ map (end_change keeps tid commit) (keeps.party tid).numbers →
    party ≡ record { outcome = (keeps.party tid).outcome; ended = true; numbers = [] } →
    step.answer ≡ answer.Resolved →
    under step.patch keeps ≡ patched rows (Some (record { tid = tid; party = party })) keeps.next keeps →
    IsStep keeps (Resolve (record { tid = tid; commit = commit })) step
resolve_done keeps tid commit rows party step indexed are is told under_is = record {
  answer = told;
  after = ap state under_is ∙ made;
  indexed = λ old. subst IsIndexed (sym under_is) (λ n t h.
      by_own n t (is_same tid t) refl (subst (λ k. has_hold t k ≡ true) (slots n) h));
}
  where
    slots : (n : ℕ) → changed (change_in rows n) (keeps.slot n) ≡ resolving tid commit (keeps.slot n).writer (keeps.slot n)
    slots n = subst (λ l. changed (change_in l n) (keeps.slot n) ≡ resolving tid commit (keeps.slot n).writer (keeps.slot n))
        (sym are)
        (rows_ended keeps tid commit (keeps.party tid).numbers n (quiet_elsewhere keeps tid commit indexed n))

    made : state (patched rows (Some (record { tid = tid; party = party })) keeps.next keeps)
        ≡ after (state keeps) (Resolve (record { tid = tid; commit = commit }))
    made =
        let decided = same_outcomes tid party keeps (ap (λ (p : Party). p.outcome) is) in
        let ended = ends tid party keeps (ap (λ (p : Party). p.ended) is) in
        let slot = fun_ext slots in
        λ i. record { slot = slot i; decided = decided i; ended = ended i; next = keeps.next }

    by_own : (n : ℕ) (t : Tid) (b : Bool) → is_same tid t ≡ b →
        has_hold t (resolving tid commit (keeps.slot n).writer (keeps.slot n)) ≡ true →
        is_among (unwrap_or (if b then Some party else None) (keeps.party t)).numbers n ≡ true
    by_own n t true same h =
        absurd (let none : has_hold tid (resolving tid commit (keeps.slot n).writer (keeps.slot n)) ≡ false =
        no_hold tid commit (keeps.slot n).writer (keeps.slot n) refl in
        let some : has_hold tid (resolving tid commit (keeps.slot n).writer (keeps.slot n)) ≡ true =
        subst (λ u. has_hold u (resolving tid commit (keeps.slot n).writer (keeps.slot n)) ≡ true) (sym (same_tids tid t same)) h
        in
        let bad : true ≡ false = sym some ∙ none in cc)
    by_own n t false same h = indexed n t (hold_was t tid commit (keeps.slot n).writer (keeps.slot n) refl h)
