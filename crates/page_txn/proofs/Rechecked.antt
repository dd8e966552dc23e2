-- Looking again, step by step, and that what is in the way is finished.
use Rattle.std.proofs.Common.{◌≡◌, ℕ, zero, suc, ◌<◌, ◌≤◌, ◌==◌, Bool, true, false, cond, List, [], ◌∷◌, ◌++◌, length, take}
use Rattle.std.proofs.Common.{Option, Some, None, IsSome, is_some, slice_get, Result, Ok, Err, refl, ap, sym, ◌∙◌, subst}
use Rattle.std.proofs.Common.{arith, ◌⊎◌, inl, inr}
use Rattle.std.specs.Prelude.{All, Contains}
use Rattle.std.specs.List.{list_any}
use Rattle.std.specs.BTreeMap.{IsOrdered}
use mathlib.Core.Path.{fun_ext}
use Rattle.std.proofs.lemmas.List.Elements.{All-nil, All-append, All-weaker, Contains-append_left, Contains-append_right}
use Rattle.std.proofs.lemmas.List.Elements.{Contains-push, Contains-push_cases}
use Rattle.std.proofs.lemmas.List.Folds.{list_any-append}
use Rattle.pair_types.specs.declared.slot.Slot.{Slot}
use Rattle.pair_types.specs.declared.slot.Tid.{Tid}
use Rattle.pair_types.specs.declared.fault.Cross.{Cross}
use Rattle.pair_types.specs.declared.fault.StepFault.{StepFault}
use Rattle.pair_types.specs.declared.fault.StepFault.TheVariants.{NoMemory}
use Rattle.pair_types.specs.MemPages.{place_cmp}
use Rattle.pair_types.specs.PageMaps.{PageMap, laid, over}
use Rattle.nfs3_types.specs.declared.entry.Entry.{Entry}
use Rattle.page_types.specs.declared.versions.PageRead.{PageRead}
use Rattle.page_types.specs.declared.command.Transaction.{Transaction}
use Rattle.page_types.specs.declared.command.Command.{Command}
use Rattle.page_types.specs.declared.command.Command.TheVariants.{Look, Write}
use Rattle.page_types.specs.declared.answer.Answer.{Answer}
use Rattle.page_types.specs.declared.answer.Answer.TheVariants.{Versions, Busy}
use Rattle.page_types.specs.declared.journal.JEntry.{JEntry}
use Rattle.page_types.specs.declared.journal.JEntry.TheVariants.{Took, Doubted, Late}
use Rattle.page_types.specs.Accesses.{read_at, written_at}
use Rattle.page_types.specs.Asked.{Alone, plan_in, alone_in}
use Rattle.page_types.specs.Journals.{Origin}
use Rattle.page_types.specs.Fair.{seen, IsAgain, writes_alone}
use Rattle.page_types.specs.Ports.{PortState, IsWithin, MayAsk}
use Rattle.two_phase.specs.declared.parts.Part.{Part}
use Rattle.two_phase.specs.Tries.{Onward, doubted, Retries}
use Rattle.two_phase.specs.Endings.{Asks as AsksFor}
use Rattle.two_phase.specs.Parts.{part_at, carries}
use Rattle.two_phase.specs.Commits.{IsMet, IsOfOther, FinishedFirst}
use Rattle.two_phase.proofs.Basics.{eq_self, eq_true, same_self, join_assoc}
use Rattle.two_phase.proofs.Onwards.{onward_none, onward_on}
use Rattle.two_phase.proofs.Ended.{asks_tried, asks_fault, cause_of, cause_after, is_in, any_later}
use Rattle.two_phase.proofs.Freshness.{found_none, plan_none, alone_none}
use Rattle.two_phase.proofs.Meeting.{is_met}
use Rattle.page_txn.specs.declared.row.Row.{Row}
use Rattle.page_txn.specs.Rows.{Rows, row_at, version_of}
use Rattle.page_txn.specs.Since.{Standing, WasAnswered}
use Rattle.page_txn.specs.Asking.{AreForeign, is_versions}
use Rattle.page_txn.specs.Parts.{version_at, parts_below, or_nothing, ArePartsOf}
use Rattle.page_txn.specs.Rechecks.{IsInquiry, Inquires, IsOfRecheck, is_stale, IsStale, WasMet, Looks, AreUnchanged}
use Rattle.page_txn.specs.Rechecks.{IsAnyStale, Rechecks, MayLook, MayRecheck, numbers_of, first_changed, MeetsSome, one_read}
use Rattle.page_txn.specs.Rechecks.{AsksWriter, Compares, IsUnchanged, IsStaleIn, RechecksPart, EachUnchanged, SomeStale}
use Rattle.page_txn.specs.Rechecks.{RechecksParts}
use Rattle.page_txn.proofs.Answering.{tried_foreign}
use Rattle.page_txn.proofs.Growing.{seen_on, answered_late, answered_before, foreign_on}
use Rattle.page_txn.proofs.Parting.{are_parts}
use Rattle.page_txn.proofs.Handing.{part_found, handed_known}
use Rattle.page_txn.proofs.Looking.{IsBusyAt, busy_look, versions_long, all_unchanged, one_changed}

-- ## Steps one after the other

inquires : (tid : Tid) (Here : ℕ → Type 0) (c : Command) (e : JEntry) → IsInquiry tid c → AsksFor Here c e → Inquires tid e
inquires tid Here c (Took pass p d a) h x = subst (λ (k : Command). IsInquiry tid k) (sym x.1) h
inquires tid Here c (Doubted pass p d) h x = subst (λ (k : Command). IsInquiry tid k) (sym x.1) h
inquires tid Here c (Late p d a) h x = absurd x

asks_by : (tid : Tid) (Here : ℕ → Type 0) (c : Command) (part : List JEntry) → IsInquiry tid c →
    All (AsksFor Here c) part → All (IsOfRecheck tid) part
asks_by tid Here c part h all =
    All-weaker (AsksFor Here c) (IsOfRecheck tid) (λ e x. inl (inquires tid Here c e h x)) part all

any_early : (f : JEntry → Bool) (late early : List JEntry) → list_any f late ≡ true → list_any f (late ++ early) ≡ true
any_early f late early h = list_any-append f late early ∙ rw h refl

met_later : (pass : ℕ) (tid : Tid) (crossed : Cross) (late early : List JEntry) → WasMet pass tid crossed late →
    WasMet pass tid crossed (late ++ early)
met_later pass tid crossed late early m = record {
  store = m.store;
  command = m.command;
  answer = m.answer;
  finishing = m.finishing;
  before = m.before ++ early;
  is = ap (λ (l : List JEntry). l ++ early) m.is
      ∙ join_assoc m.finishing (Took pass m.store m.command m.answer ∷ m.before) early;
  cross_is = m.cross_is;
  finished = m.finished;
}

pub met_of : (old mid : PortState) (p : ℕ) (c : Command) (a : Answer) → Retries old mid p c (Ok a) → IsMet mid a
met_of old mid p c a r =
    is_met mid old.pass p c a [] (doubted r.ends.0.times (Doubted old.pass p c) ++ old.mine)
    (r.onward.mine ∙ ap (λ (l : List JEntry). l ++ old.mine) r.ends.0.is)
    (subst (λ (o : Origin). IsWithin o.stores a) (sym r.onward.origin) r.ends.1.within)

module _ (Unchanged Stale : List JEntry → Type 0) (tid : Tid) where
  pub looks_lacking : (old : PortState) → Looks Unchanged Stale old old tid (Err NoMemory)
  looks_lacking old = record { part = []; onward = onward_none old; asks = All-nil (IsOfRecheck tid); ends = tt }

  pub looks_missed : (old mid : PortState) (p : ℕ) (c : Command) (f : StepFault) → IsInquiry tid c →
      Retries old mid p c (Err f) → Looks Unchanged Stale old mid tid (Err f)
  looks_missed old mid p c f h r = record {
    part = r.part;
    onward = r.onward;
    asks = asks_by tid (λ s. s ≡ p) c r.part h (asks_fault (λ s. s ≡ p) old mid p c f r.part refl r.ends);
    ends = cause_of old mid p c f r.part r.ends;
  }

  -- nothing is in the way of what asked nothing
  pub looks_at_none : (old : PortState) → Unchanged [] → Looks Unchanged Stale old old tid (Ok None)
  looks_at_none old h =
      record { part = []; onward = onward_none old; asks = All-nil (IsOfRecheck tid); ends = (refl, h) }

  -- it was answered what is in the way, which was finished
  module _ (old mid new : PortState) (p : ℕ) (c : Command) (a : Answer) (h : IsInquiry tid c)
      (r : Retries old mid p c (Ok a)) (stale : (late : List JEntry) → Stale (late ++ r.part)) where
    asked : (late : List JEntry) → All (IsOfOther tid) late → All (IsOfRecheck tid) (late ++ r.part)
    asked late all =
        All-append (IsOfRecheck tid) late r.part (All-weaker (IsOfOther tid) (IsOfRecheck tid) (λ e x. inr x) late all)
        (asks_by tid (λ s. s ≡ p) c r.part h (asks_tried (λ s. s ≡ p) old.pass p c a r.part refl r.ends.0))

    pub looks_met : (result : Result (Option Cross) StepFault) → MeetsSome mid new tid p a result →
        Looks Unchanged Stale old new tid result
    looks_met (Ok None) x = absurd x
    looks_met (Ok (Some crossed)) x = record {
      part = x.part ++ r.part;
      onward = onward_on old mid new r.part x.part r.onward x.onward;
      asks = asked x.part x.asks;
      ends = (
        record {
          store = p;
          command = c;
          answer = a;
          finishing = x.part;
          before = doubted r.ends.0.times (Doubted old.pass p c);
          is = ap (λ (l : List JEntry). x.part ++ l) r.ends.0.is;
          cross_is = x.ends.0;
          finished = subst (λ (n : ℕ). FinishedFirst n tid a x.part) r.onward.pass x.ends.1;
        },
        stale x.part,
      );
    }
    looks_met (Err f) x = record {
      part = x.part ++ r.part;
      onward = onward_on old mid new r.part x.part r.onward x.onward;
      asks = asked x.part x.asks;
      ends = cause_after old mid new f r.part x.part r.onward x.ends;
    }

  -- what comes later, after what asked nothing for the transaction
  module _ (Others OtherStale : List JEntry → Type 0) (old mid new : PortState) (early : List JEntry)
      (on : Onward old mid early) (asks : All (IsOfRecheck tid) early) (foreign : AreForeign tid early) where
    pub looks_fault : (f : StepFault) → Looks Others OtherStale mid new tid (Err f) →
        Looks Unchanged Stale old new tid (Err f)
    looks_fault f x = record {
      part = x.part ++ early;
      onward = onward_on old mid new early x.part on x.onward;
      asks = All-append (IsOfRecheck tid) x.part early x.asks asks;
      ends = cause_after old mid new f early x.part on x.ends;
    }

    pub looks_some : (crossed : Cross) → ((late : List JEntry) → OtherStale late → Stale (late ++ early)) →
        Looks Others OtherStale mid new tid (Ok (Some crossed)) → Looks Unchanged Stale old new tid (Ok (Some crossed))
    looks_some crossed stale x = record {
      part = x.part ++ early;
      onward = onward_on old mid new early x.part on x.onward;
      asks = All-append (IsOfRecheck tid) x.part early x.asks asks;
      ends = (
        met_later old.pass tid crossed x.part early
            (subst (λ (n : ℕ). WasMet n tid crossed x.part) on.pass x.ends.0),
        stale x.part x.ends.1,
      );
    }

    pub looks_none : ((late : List JEntry) → Others late → Unchanged (late ++ early)) →
        Looks Others OtherStale mid new tid (Ok None) → Looks Unchanged Stale old new tid (Ok None)
    looks_none same x = record {
      part = x.part ++ early;
      onward = onward_on old mid new early x.part on x.onward;
      asks = All-append (IsOfRecheck tid) x.part early x.asks asks;
      ends = (foreign_on tid x.part early x.ends.0 foreign, same x.part x.ends.1);
    }

    pub looks_after : ((late : List JEntry) → Others late → Unchanged (late ++ early)) →
        ((late : List JEntry) → OtherStale late → Stale (late ++ early)) → (result : Result (Option Cross) StepFault) →
        Looks Others OtherStale mid new tid result → Looks Unchanged Stale old new tid result
    looks_after same stale (Ok None) x = looks_none same x
    looks_after same stale (Ok (Some crossed)) x = looks_some crossed stale x
    looks_after same stale (Err f) x = looks_fault f x

-- ## What may be looked at

known_on : (q n v : ℕ) (part es : List JEntry) → IsSome (seen es q n v) → IsSome (seen (part ++ es) q n v)
known_on q n v part es h = at (seen es q n v) refl h
  where
    at : (o : Option (Option (List ℕ))) → seen es q n v ≡ o → IsSome o → IsSome (seen (part ++ es) q n v)
    at None is h = absurd cc
    at (Some x) is h = subst (λ (o : Option (Option (List ℕ))). IsSome o) (sym (seen_on q n v x part es is)) refl

module _ (tid : Tid) where
  pub may_later : (old mid : PortState) (early : List JEntry) (part : Part) → Onward old mid early → AreForeign tid early →
      MayLook old tid part → MayLook mid tid part
  may_later old mid early part on foreign m = record {
    of_pass = record { own = m.of_pass.own ∙ sym on.pass; serial = m.of_pass.serial };
    fresh = subst (λ (l : List JEntry). list_any (carries tid) l ≡ false) (sym on.mine)
        (foreign_on tid early old.mine foreign m.fresh);
    below = subst (λ (o : Origin). part.store < o.stores) (sym on.origin) m.below;
    rise = m.rise;
    are_known = λ number version is.
        subst (λ (l : List JEntry). IsSome (seen l part.store number version)) (sym on.mine)
        (known_on part.store number version early old.mine (m.are_known number version is));
  }

  pub may_one : (p : PortState) (part : Part) (read : PageRead) → read_at part.reads read.number ≡ Some read.version →
      MayLook p tid part → MayLook p tid (one_read part.store read)
  may_one p part read known m = record {
    of_pass = m.of_pass;
    fresh = m.fresh;
    below = m.below;
    rise = tt;
    are_known = λ number version is. at number version (read.number == number) refl is;
  }
    where
      at : (number version : ℕ) (b : Bool) → (read.number == number) ≡ b → cond b (Some read.version) None ≡ Some version →
          IsSome (seen p.mine part.store number version)
      at number version true here is =
          let same : read.version ≡ version = cc in
          subst (λ (k : ℕ). IsSome (seen p.mine part.store k version)) (eq_true read.number number here)
          (subst (λ (v : ℕ). IsSome (seen p.mine part.store read.number v)) same
          (m.are_known read.number read.version known))
      at number version false here is = absurd cc

-- ## The Write that asks who is in the way

abbrev pub asked_write : Tid → PageRead → Transaction
asked_write tid read = record { tid = tid; reads = read ∷ []; writes = []; entry = None }

nothing_over : (tid : Tid) (store : ℕ) (read : PageRead) (under : PageMap) →
    over (writes_alone (record { store = store; transaction = asked_write tid read })) under ≡ under
nothing_over tid store read under = fun_ext (λ s. at s (s.store == store))
  where
    at : (s : Slot) (b : Bool) → laid (cond b (written_at [] s.number) None) (under s) ≡ under s
    at s true = refl
    at s false = refl

pub fair_write : {S : Type 0} (stands : Origin → PageMap → S → Type 0) (next : S → List ℕ → Entry → S → Type 0)
    (p : PortState) (tid : Tid) (store : ℕ) (read : PageRead) → MayLook p tid (one_read store read) →
    MayAsk stands next p store (Write (asked_write tid read))
fair_write stands next p tid store read m = record {
  of_pass = m.of_pass;
  accesses = record { reads_rise = tt; writes_rise = tt; are_read = λ number h. absurd cc };
  again = subst (λ (o : Option Alone). IsAgain o (record { store = store; transaction = asked_write tid read }))
      (sym (found_none tid (alone_in tid) (alone_none tid) p.mine m.fresh)) tt;
  not_planned = found_none tid (plan_in tid) (plan_none tid) p.mine m.fresh;
  are_known = m.are_known;
  entry = tt;
  right = λ under state agrees so.
      subst (λ (w : PageMap). stands p.origin w state) (sym (nothing_over tid store read under)) so;
}

module _ (old mid new : PortState) (tid : Tid) (store : ℕ) (read : PageRead) (c : Command)
    (c_is : c ≡ Write (asked_write tid read)) where
  is_inquiry : IsInquiry tid c
  is_inquiry = subst (λ (k : Command). IsInquiry tid k) (sym c_is) (same_self tid, (refl, refl))

  pub writer_missed : (f : StepFault) → Retries old mid store c (Err f) → AsksWriter old mid tid (Err f)
  writer_missed f r = looks_missed (λ es. ⊥) (λ es. Unit {0}) tid old mid store c f is_inquiry r

  pub writer_met : (a : Answer) → Retries old mid store c (Ok a) → (result : Result (Option Cross) StepFault) →
      MeetsSome mid new tid store a result → AsksWriter old new tid result
  writer_met a r result x =
      looks_met (λ es. ⊥) (λ es. Unit {0}) tid old mid new store c a is_inquiry r (λ late. tt) result x

-- ## What was read of a store

pub compared_some : (old new : PortState) (tid : Tid) (changed : Option PageRead) (read : PageRead) → changed ≡ Some read →
    (result : Result (Option Cross) StepFault) → AsksWriter old new tid result → Compares old new tid changed result
compared_some old new tid changed read is result x =
    looks_after (λ es. changed ≡ None) (λ es. (read : PageRead) × (changed ≡ Some read)) tid (λ es. ⊥) (λ es. Unit {0})
    old old new [] (onward_none old) (All-nil (IsOfRecheck tid)) refl (λ late h. absurd h) (λ late h. (read, is)) result x

pub compared_none : (old : PortState) (tid : Tid) (changed : Option PageRead) → changed ≡ None →
    Compares old old tid changed (Ok None)
compared_none old tid changed is =
    looks_at_none (λ es. changed ≡ None) (λ es. (read : PageRead) × (changed ≡ Some read)) tid old is

module _ (old mid : PortState) (tid : Tid) (part : Part) (c : Command) (c_is : c ≡ Look (numbers_of part.reads)) where
  look_inquiry : IsInquiry tid c
  look_inquiry = subst (λ (k : Command). IsInquiry tid k) (sym c_is) tt

  pub part_missed : (f : StepFault) → Retries old mid part.store c (Err f) → RechecksPart old mid tid part (Err f)
  part_missed f r = looks_missed (IsUnchanged part) (IsStaleIn part) tid old mid part.store c f look_inquiry r

  module _ (a : Answer) (given : Retries old mid part.store c (Ok a)) where
    looks : Retries old mid part.store (Look (numbers_of part.reads)) (Ok a)
    looks = subst (λ (k : Command). Retries old mid part.store k (Ok a)) c_is given

    foreign : AreForeign tid looks.part
    foreign = tried_foreign {A = ℕ} (λ v es. Unit {0}) tid old mid part.store (Look (numbers_of part.reads)) refl a
        looks.part looks.ends.0

    asks : All (IsOfRecheck tid) looks.part
    asks = asks_by tid (λ s. s ≡ part.store) (Look (numbers_of part.reads)) looks.part tt
        (asks_tried (λ s. s ≡ part.store) old.pass part.store (Look (numbers_of part.reads)) a looks.part refl
        looks.ends.0)

    pub part_may : MayLook old tid part → MayLook mid tid part
    part_may m = may_later tid old mid looks.part part looks.onward foreign m

    pub part_long : (vs : List ℕ) → a ≡ Versions vs → length vs ≡ length part.reads
    part_long vs is = versions_long old.origin.stores part.reads a looks.ends.1 vs is

    pub part_met : (b : Answer) → b ≡ a → IsMet mid b
    part_met b is = subst (λ (x : Answer). IsMet mid x) (sym is) (met_of old mid part.store c a given)

    -- the entries of the answer
    whole : (b : Answer) → a ≡ b → looks.part ≡ Took old.pass part.store (Look (numbers_of part.reads)) b
        ∷ doubted looks.ends.0.times (Doubted old.pass part.store (Look (numbers_of part.reads)))
    whole b is = looks.ends.0.is ∙ ap (λ (x : Answer). Took old.pass part.store (Look (numbers_of part.reads)) x
        ∷ doubted looks.ends.0.times (Doubted old.pass part.store (Look (numbers_of part.reads)))) is

    module _ (new : PortState) (result : Result (Option Cross) StepFault) where
      pub part_compared : (vs : List ℕ) → a ≡ Versions vs → MayLook old tid part →
          Compares mid new tid (first_changed part.reads vs) result → RechecksPart old new tid part result
      part_compared vs is m x =
          looks_after (IsUnchanged part) (IsStaleIn part) tid (λ es. first_changed part.reads vs ≡ None)
          (λ es. (read : PageRead) × (first_changed part.reads vs ≡ Some read)) old mid new looks.part looks.onward asks
          foreign unchanged stale result x
        where
          unchanged : (late : List JEntry) → first_changed part.reads vs ≡ None → IsUnchanged part (late ++ looks.part)
          unchanged late none number version read =
              let s : Slot = record { store = part.store; number = number } in
              answered_before s version late looks.part
              (subst (λ (l : List JEntry). WasAnswered s version l) (sym (whole (Versions vs) is))
              (rw (eq_self part.store, all_unchanged part.reads vs (part_long vs is) none number version read) refl))

          stale : (late : List JEntry) → ((read : PageRead) × (first_changed part.reads vs ≡ Some read)) →
              IsStaleIn part (late ++ looks.part)
          stale late (read, changed) =
              let other = one_changed part.reads vs m.rise read changed in
              let s : Slot = record { store = part.store; number = read.number } in
              record {
                number = read.number;
                version = read.version;
                was_read = other.0;
                stale = any_later (is_stale s read.version) late looks.part
                    (subst (λ (l : List JEntry). IsStale s read.version l) (sym (whole (Versions vs) is))
                    (rw (eq_self part.store, other.1) refl));
              }

      pub part_refused : (b : Answer) → b ≡ a → is_versions a ≡ false → MeetsSome mid new tid part.store b result →
          RechecksPart old new tid part result
      part_refused b is none x =
          looks_met (IsUnchanged part) (IsStaleIn part) tid old mid new part.store (Look (numbers_of part.reads)) a tt looks
          stale result (subst (λ (y : Answer). MeetsSome mid new tid part.store y result) is x)
        where
          held : IsBusyAt part.reads a
          held = busy_look old.origin.stores part.reads a looks.ends.1 none

          stale : (late : List JEntry) → IsStaleIn part (late ++ looks.part)
          stale late =
              let s : Slot = record { store = part.store; number = held.number } in
              record {
                number = held.number;
                version = held.version;
                was_read = held.was_read;
                stale = any_later (is_stale s held.version) late looks.part
                    (subst (λ (l : List JEntry). IsStale s held.version l)
                    (sym (whole (Busy held.number held.holder held.home held.parts) held.is))
                    (rw (eq_self part.store, eq_self held.number) refl));
              }

-- ## All parts

none_in : (x : Part) → Contains {X = Part} [] x → ⊥
none_in x c = let lt = c.1 in omega (arith, lt)

take_more : (xs : List Part) (i : ℕ) (x : Part) → slice_get xs i ≡ Some x → take (suc i) xs ≡ take i xs ++ (x ∷ [])
take_more [] i x h = absurd cc
take_more (y ∷ ys) zero x h = let same : y ≡ x = cc in ap (λ (z : Part). z ∷ []) same
take_more (y ∷ ys) (suc i) x h = ap (λ (l : List Part). y ∷ l) (take_more ys i x h)

-- these of the parts are unchanged
abbrev pub LookingAt : PortState → PortState → Tid → List Part → List Part → Type 0
LookingAt old now tid parts done = Looks (EachUnchanged done) (SomeStale parts) old now tid (Ok None)

pub looking_none : (old : PortState) (tid : Tid) (parts : List Part) → LookingAt old old tid parts []
looking_none old tid parts = looks_at_none (EachUnchanged []) (SomeStale parts) tid old (λ part c. absurd (none_in part c))

module _ (old mid new : PortState) (tid : Tid) (parts : List Part) (i : ℕ) (p : Part) (at : slice_get parts i ≡ Some p)
    (so_far : LookingAt old mid tid parts (take i parts)) where
  pub looking_may : ((part : Part) → Contains parts part → MayLook old tid part) → MayLook mid tid p
  looking_may may = may_later tid old mid so_far.part p so_far.onward so_far.ends.0 (may p (is_in parts i p at))

  pub looking_fault : (f : StepFault) → RechecksPart mid new tid p (Err f) → RechecksParts old new tid parts (Err f)
  looking_fault f x =
      looks_fault (EachUnchanged parts) (SomeStale parts) tid (IsUnchanged p) (IsStaleIn p) old mid new so_far.part
      so_far.onward so_far.asks so_far.ends.0 f x

  stale_later : (late : List JEntry) → IsStaleIn p late → SomeStale parts (late ++ so_far.part)
  stale_later late s = (
    p,
    (
      is_in parts i p at,
      record {
        number = s.number;
        version = s.version;
        was_read = s.was_read;
        stale = any_early (is_stale (record { store = p.store; number = s.number }) s.version) late so_far.part s.stale;
      },
    ),
  )

  pub looking_found : (found : Option Cross) → is_some found ≡ true → RechecksPart mid new tid p (Ok found) →
      RechecksParts old new tid parts (Ok found)
  looking_found None h x = absurd cc
  looking_found (Some crossed) h x =
      looks_some (EachUnchanged parts) (SomeStale parts) tid (IsUnchanged p) (IsStaleIn p) old mid new so_far.part
      so_far.onward so_far.asks so_far.ends.0 crossed stale_later x

  more_unchanged : (late : List JEntry) → IsUnchanged p late → EachUnchanged (take (suc i) parts) (late ++ so_far.part)
  more_unchanged late same q c =
      one q (Contains-push_cases (take i parts) p q (subst (λ (l : List Part). Contains l q) (take_more parts i p at) c))
    where
      one : (q : Part) → Contains (take i parts) q ⊎ (p ≡ q) → IsUnchanged q (late ++ so_far.part)
      one q (inl c) = λ number version is.
          answered_before (record { store = q.store; number = number }) version late so_far.part
          (so_far.ends.1 q c number version is)
      one q (inr is_p) = subst (λ (x : Part). IsUnchanged x (late ++ so_far.part)) is_p
          (λ number version is. answered_late (record { store = p.store; number = number }) version late so_far.part
          (same number version is))

  pub looking_more : (found : Option Cross) → is_some found ≡ false → RechecksPart mid new tid p (Ok found) →
      LookingAt old new tid parts (take (suc i) parts)
  looking_more None h x =
      looks_none (EachUnchanged (take (suc i) parts)) (SomeStale parts) tid (IsUnchanged p) (IsStaleIn p) old mid new
      so_far.part so_far.onward so_far.asks so_far.ends.0 more_unchanged x
  looking_more (Some crossed) h x = absurd cc

-- ## The rows

part_in : (parts : List Part) (q : ℕ) (part : Part) → part_at parts q ≡ Some part → Contains parts part × (part.store ≡ q)
part_in [] q part is = absurd cc
part_in (x ∷ xs) q part is = at (x.store == q) refl is (λ rest. part_in xs q part rest)
  where
    at : (b : Bool) → (x.store == q) ≡ b → cond b (Some x) (part_at xs q) ≡ Some part →
        (part_at xs q ≡ Some part → Contains xs part × (part.store ≡ q)) → Contains (x ∷ xs) part × (part.store ≡ q)
    at true here is rest =
        let same : x ≡ part = cc in
        subst (λ (y : Part). Contains (x ∷ xs) y × (y.store ≡ q)) same
        (Contains-append_left (x ∷ []) xs x (Contains-push [] x), eq_true x.store q here)
    at false here is rest = let later = rest is in (Contains-append_right (x ∷ []) xs part later.0, later.1)

module _ (p : PortState) (tid : Tid) (rows : Rows) (may : MayRecheck p tid rows) (order : IsOrdered place_cmp rows)
    (stores : ℕ) (stores_is : stores ≡ p.origin.stores) (some : 1 ≤ stores) (parts : List Part)
    (is : parts ≡ or_nothing (parts_below rows.entries stores)) where
  are_these : ArePartsOf p.origin.stores rows parts
  are_these = subst (λ (l : List Part). ArePartsOf p.origin.stores rows l) (sym is)
      (subst (λ (n : ℕ). ArePartsOf n rows (or_nothing (parts_below rows.entries stores))) stores_is
      (are_parts stores rows order (λ s row known. subst (λ (n : ℕ). s.store < n) (sym stores_is) (may.within s row known))
      some))

  pub parts_may : (part : Part) → Contains parts part → MayLook p tid part
  parts_may = may.look parts are_these

  rows_unchanged : (es : List JEntry) → EachUnchanged parts es → AreUnchanged rows (es ++ [])
  rows_unchanged es each s row known =
      at (part_at parts s.store) refl (are_these.versions s ∙ ap (λ (o : Option Row). version_of o) known)
    where
      at : (o : Option Part) → part_at parts s.store ≡ o → version_at o s.number ≡ Some row.version →
          WasAnswered s row.version (es ++ [])
      at None none version = absurd cc
      at (Some part) found version =
          let there = part_in parts s.store part found in
          answered_late s row.version es []
          (subst (λ (q : ℕ). WasAnswered (record { store = q; number = s.number }) row.version es) there.1
          (each part there.0 s.number row.version version))

  row_stale : (es : List JEntry) → SomeStale parts es → IsAnyStale rows (es ++ [])
  row_stale es (part, (has, st)) =
      let s : Slot = record { store = part.store; number = st.number } in
      let version : version_of (row_at rows s) ≡ Some st.version =
      sym (are_these.versions s)
      ∙ (ap (λ (o : Option Part). version_at o st.number) (part_found parts are_these.rise part has) ∙ st.was_read) in
      at s st.version st.stale (row_at rows s) refl version
    where
      at : (s : Slot) (v : ℕ) → IsStale s v es → (o : Option Row) → row_at rows s ≡ o → version_of o ≡ Some v →
          IsAnyStale rows (es ++ [])
      at s v stale None known version = absurd cc
      at s v stale (Some row) known version =
          let same : v ≡ row.version = cc in
          record {
            slot = s;
            row = row;
            known = known;
            stale = any_early (is_stale s row.version) es [] (subst (λ (k : ℕ). IsStale s k es) same stale);
          }

  pub rows_rechecked : (new : PortState) (result : Result (Option Cross) StepFault) → RechecksParts p new tid parts result →
      Rechecks p new tid rows result
  rows_rechecked new result x =
      looks_after (AreUnchanged rows) (IsAnyStale rows) tid (EachUnchanged parts) (SomeStale parts) p p new []
      (onward_none p) (All-nil (IsOfRecheck tid)) refl rows_unchanged row_stale result x

pub rechecks_lacking : (p : PortState) (tid : Tid) (rows : Rows) → Rechecks p p tid rows (Err NoMemory)
rechecks_lacking p tid rows = looks_lacking (AreUnchanged rows) (IsAnyStale rows) tid p

pub may_recheck : (start p : PortState) (tid : Tid) (rows : Rows) → Standing start p tid rows → MayRecheck p tid rows
may_recheck start p tid rows so = record {
  within = λ s row is. (so.rows_of s row is).within;
  look = λ parts are part c. record {
    of_pass = so.of_pass;
    fresh = so.fresh;
    below = are.below part c;
    rise = (are.accesses part c).reads_rise;
    are_known = handed_known start p tid rows parts so are part c;
  };
}
