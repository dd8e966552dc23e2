-- What a transaction knows stays true as its pass's own entries grow.
use Rattle.std.proofs.Common.{◌≡◌, ℕ, suc, ◌+◌, ◌-◌, ◌<◌, ◌≤◌, ◌==◌, ◌||◌, Bool, true, false, cond, List}
use Rattle.std.proofs.Common.{[], ◌∷◌, ◌++◌, length, take, drop}
use Rattle.std.proofs.Common.{Option, Some, None, refl, ap, sym, ◌∙◌, subst, arith, length-append, length-drop}
use Rattle.std.specs.List.{list_any}
use Rattle.std.proofs.lemmas.List.Folds.{list_any-append}
use Rattle.pair_types.specs.declared.slot.Slot.{Slot}
use Rattle.pair_types.specs.declared.slot.Tid.{Tid}
use Rattle.pair_types.specs.declared.fault.PageFault.{PageFault}
use Rattle.pair_types.specs.declared.fault.PageFault.TheVariants.{Crossed, Step}
use Rattle.pair_types.specs.declared.fault.StepFault.TheVariants.{Doubt, NoMemory, Stopped}
use Rattle.pair_types.specs.PageState.{Lasts}
use Rattle.page_types.specs.declared.journal.JEntry.{JEntry}
use Rattle.page_types.specs.Asked.{first_of}
use Rattle.page_types.specs.Fair.{told_first, told_in, seen}
use Rattle.page_types.specs.Ports.{PortState}
use Rattle.two_phase.specs.Tries.{Onward}
use Rattle.two_phase.specs.Parts.{carries}
use Rattle.page_txn.specs.declared.row.Row.{Row}
use Rattle.page_txn.specs.Rows.{Rows, row_at}
use Rattle.page_txn.specs.Causes.{crossings, faults_of, state_by}
use Rattle.page_txn.specs.Since.{BeganAs, since, answers_version, WasAnswered, IsRowOf, Standing}
use Rattle.page_txn.specs.Asking.{AreForeign}
use Rattle.page_txn.proofs.Counting.{counted_on}

-- ## Counts

pub faults_on : (own : Tid) (old new : PortState) (part : List JEntry) → Onward old new part → (fault : PageFault) →
    faults_of own old fault ≤ faults_of own new fault
faults_on own old new part on (Crossed crossed) =
    subst (λ (l : List JEntry). crossings own crossed [] old.mine ≤ crossings own crossed [] l) (sym on.mine)
    (counted_on own crossed [] part old.mine)
faults_on own old new part on (Step Doubt) = on.doubts
faults_on own old new part on (Step NoMemory) = omega arith
faults_on own old new part on (Step Stopped) = on.stops

pub lasts_on : (own : Tid) (old new : PortState) (part : List JEntry) (before after : Rows) → Onward old new part →
    Lasts (state_by own old before) (state_by own new after)
lasts_on own old new part before after on =
    record { stores = ap (λ o. o.stores) on.origin; below = refl; faults = faults_on own old new part on }

-- ## Since the transaction began

drop_sum : {A : Type 0} (n : ℕ) (part xs : List A) → drop (length part + n) (part ++ xs) ≡ drop n xs
drop_sum n [] xs = let e : 0 + n ≡ n = omega arith in ap (λ k. drop k xs) e
drop_sum n (x ∷ part) xs =
    let e : suc (length part) + n ≡ suc (length part + n) = omega arith in
    ap (λ k. drop k (x ∷ (part ++ xs))) e ∙ drop_sum n part xs

take_sum : {A : Type 0} (n : ℕ) (part xs : List A) → take (length part + n) (part ++ xs) ≡ part ++ take n xs
take_sum n [] xs = let e : 0 + n ≡ n = omega arith in ap (λ k. take k xs) e
take_sum n (x ∷ part) xs =
    let e : suc (length part) + n ≡ suc (length part + n) = omega arith in
    ap (λ k. take k (x ∷ (part ++ xs))) e ∙ ap (λ l. x ∷ l) (take_sum n part xs)

began_long : (first now : List JEntry) → BeganAs first now → length first ≤ length now
began_long first now h =
    let long : length (drop (length now - length first) now) ≡ length first = ap (λ l. length l) h in
    let cut = length-drop (length now - length first) now in omega (arith, long, cut)

longer : (first part now : List JEntry) → BeganAs first now →
    length (part ++ now) - length first ≡ length part + (length now - length first)
longer first part now h = let le = began_long first now h in let sum = length-append part now in omega (arith, le, sum)

pub began_on : (first part now : List JEntry) → BeganAs first now → BeganAs first (part ++ now)
began_on first part now h =
    ap (λ k. drop k (part ++ now)) (longer first part now h) ∙ (drop_sum (length now - length first) part now ∙ h)

pub since_on : (first part now : List JEntry) → BeganAs first now → since first (part ++ now) ≡ part ++ since first now
since_on first part now h =
    ap (λ k. take k (part ++ now)) (longer first part now h) ∙ take_sum (length now - length first) part now

-- ## What was told

some_first : {A : Type 0} (o later : Option A) (x : A) → o ≡ Some x → first_of o later ≡ Some x
some_first o later x is = rw is refl

told_on : (q n v : ℕ) (x : Option (List ℕ)) (part es : List JEntry) → told_first q n v es ≡ Some x →
    told_first q n v (part ++ es) ≡ Some x
told_on q n v x [] es h = h
told_on q n v x (e ∷ part) es h =
    some_first (told_first q n v (part ++ es)) (told_in q n v e) x (told_on q n v x part es h)

pub seen_on : (q n v : ℕ) (x : Option (List ℕ)) (part es : List JEntry) → seen es q n v ≡ Some x →
    seen (part ++ es) q n v ≡ Some x
seen_on q n v x part es h = at (v == 0) h
  where
    at : (b : Bool) → cond b (Some None) (told_first q n v es) ≡ Some x →
        cond b (Some None) (told_first q n v (part ++ es)) ≡ Some x
    at true is = is
    at false is = told_on q n v x part es is

or_left : (a b : Bool) → a ≡ true → (a || b) ≡ true
or_left a b h = rw h refl

or_last : (a b : Bool) → b ≡ true → (a || b) ≡ true
or_last true b h = refl
or_last false b h = h

pub answered_late : (s : Slot) (v : ℕ) (part es : List JEntry) → WasAnswered s v part → WasAnswered s v (part ++ es)
answered_late s v part es h =
    list_any-append (answers_version s v) part es
    ∙ or_left (list_any (answers_version s v) part) (list_any (answers_version s v) es) h

pub answered_before : (s : Slot) (v : ℕ) (part es : List JEntry) → WasAnswered s v es → WasAnswered s v (part ++ es)
answered_before s v part es h =
    list_any-append (answers_version s v) part es
    ∙ or_last (list_any (answers_version s v) part) (list_any (answers_version s v) es) h

pub foreign_on : (own : Tid) (part es : List JEntry) → AreForeign own part → AreForeign own es → AreForeign own (part ++ es)
foreign_on own part es a b = list_any-append (carries own) part es ∙ rw (a, b) refl

-- ## Standing

module _ (start old new : PortState) (part : List JEntry) (on : Onward old new part) where
  -- a row stays what was answered
  row_on : (s : Slot) (row : Row) → BeganAs start.mine old.mine → IsRowOf start old s row → IsRowOf start new s row
  row_on s row began r = record {
    within = subst (λ (n : ℕ). s.store < n) (sym (ap (λ o. o.stores) on.origin)) r.within;
    answered = subst (λ (l : List JEntry). WasAnswered s row.version (since start.mine l)) (sym on.mine)
        (subst (λ (l : List JEntry). WasAnswered s row.version l) (sym (since_on start.mine part old.mine began))
        (answered_before s row.version part (since start.mine old.mine) r.answered));
    known = subst (λ (l : List JEntry). seen l s.store s.number row.version ≡ Some row.content) (sym on.mine)
        (seen_on s.store s.number row.version row.content part old.mine r.known);
  }

  module _ (tid : Tid) (rows : Rows) (foreign : AreForeign tid part) (stands : Standing start old tid rows) where
    pub began_new : BeganAs start.mine new.mine
    began_new = subst (λ (l : List JEntry). BeganAs start.mine l) (sym on.mine)
        (began_on start.mine part old.mine stands.began)

    pub standing_on : Standing start new tid rows
    standing_on = record {
      of_pass = record { own = stands.of_pass.own ∙ sym on.pass; serial = stands.of_pass.serial };
      pass = on.pass ∙ stands.pass;
      origin = on.origin ∙ stands.origin;
      began = began_new;
      doubts = let a = stands.doubts in let b = on.doubts in omega (arith, a, b);
      stops = let a = stands.stops in let b = on.stops in omega (arith, a, b);
      fresh = subst (λ (l : List JEntry). list_any (carries tid) l ≡ false) (sym on.mine)
          (foreign_on tid part old.mine foreign stands.fresh);
      rows_of = λ s row is. row_on s row stands.began (stands.rows_of s row is);
    }

    -- what was answered in this part was answered since the transaction began
    pub answered_new : (s : Slot) (v : ℕ) → WasAnswered s v part → WasAnswered s v (since start.mine new.mine)
    answered_new s v h = subst (λ (l : List JEntry). WasAnswered s v (since start.mine l)) (sym on.mine)
        (subst (λ (l : List JEntry). WasAnswered s v l) (sym (since_on start.mine part old.mine stands.began))
        (answered_late s v part (since start.mine old.mine) h))

-- with other rows, each of what was answered
pub standing_with : (start now : PortState) (tid : Tid) (rows others : Rows) → Standing start now tid rows →
    ((s : Slot) (row : Row) → row_at others s ≡ Some row → IsRowOf start now s row) → Standing start now tid others
standing_with start now tid rows others stands h = record {
  of_pass = stands.of_pass;
  pass = stands.pass;
  origin = stands.origin;
  began = stands.began;
  doubts = stands.doubts;
  stops = stands.stops;
  fresh = stands.fresh;
  rows_of = h;
}
