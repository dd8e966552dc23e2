-- A fabric stays one by a step.
use Rattle.std.proofs.Common.{arith, ◌≡◌, ◌≢◌, ℕ, ◌+◌, ◌*◌, ◌^◌, ◌<◌, ◌≤◌, ◌==◌, Bool, true, false, cond, List, [], ◌∷◌, ◌++◌}
use Rattle.std.proofs.Common.{length, Option, Some, None, Result, Ok, Err, slice_get, refl, ap, sym, ◌∙◌, subst, unwrap_or}
use Rattle.std.proofs.Common.{length-set, ◌-◌, min, ⊎_elim}
use Rattle.std.specs.Prelude.{reverse, OnOk, OnErr, IfOk, IfErr, IsTrue, is_some, ⊤, ◌⊎◌}
use Rattle.std.proofs.Math.ListN.{set}
use Rattle.std.proofs.lemmas.List.{length-reverse}
use Rattle.std.proofs.lemmas.Option.{same_Some, slice_get_within}
use Rattle.pair_types.specs.PageMaps.{PageMap}
use Rattle.pair_types.specs.declared.fault.StepFault.{StepFault}
use Rattle.pair_types.specs.declared.fault.StepFault.TheVariants as fault
use Rattle.nfs3_types.specs.declared.entry.Entry.{Entry}
use Rattle.outside.specs.Weather.{WeatherTold, is_heard, bad_fates}
use Rattle.outside.specs.declared.weather.MessageKind.{MessageKind}
use Rattle.outside.specs.declared.weather.MessageKind.TheVariants.{Put, Ack}
use Rattle.page_types.specs.declared.command.Command.{Command}
use Rattle.page_types.specs.declared.command.Command.TheVariants.{Fresh, Read, Look, Write, Prepare, Decide, Resolve}
use Rattle.page_types.specs.declared.answer.Answer.{Answer}
use Rattle.page_types.specs.declared.journal.JEntry.{JEntry}
use Rattle.page_types.specs.Fair.{IsFair}
use Rattle.page_types.specs.Journals.{Origin, own}
use Rattle.page_types.specs.Ports.{IsAnswer, IsWithin}
use Rattle.page_types.specs.Obeys.{answer_of, after, IsFormed}
use Rattle.page_types.specs.Stores.{StoreState}
use Rattle.page_store.specs.Shown.{after_maybe}
use Rattle.paxos_core.specs.Majority.{IsMajority}
use Rattle.paxos_group.specs.Formed.{list_of}
use Rattle.paxos_group.specs.Settling.{Settling}
use Rattle.paxos_group.specs.Steps.{Endures}
use Rattle.serial_rules.specs.Worlds.{replay, pending}
use Rattle.serial_rules.specs.Lawful.{Answered, FairList}
use Rattle.store_group.specs.declared.group.StoreGroup.{StoreGroup}
use Rattle.store_group.specs.Behind.{Behind, Left, settled_by}
use Rattle.store_group.specs.Journal.{Request, Tells, gained}
use Rattle.store_group.specs.Shown.{behind, settling_of, first_of_store}
use Rattle.store_group.proofs.Gains as gains
use Rattle.fabric.specs.declared.book.Book.{Book}
use Rattle.fabric.specs.Settled.{settled, steps, taken, doubts_in}
use Rattle.fabric.specs.Shown.{Shown, past, told_of, store_of}
use Rattle.fabric.specs.Stepping.{AreHeard, AreMarred, Worsens, StepsAs}
use Rattle.fabric.specs.Taking.{Scene, Takes, IsSame, written}
use Rattle.fabric.specs.Keeping.{IsStoreOf, IsFabric, shown_of}
use Rattle.fabric.specs.Within.{AreWithin, IsCommandWithin, IsPendingWithin}
use Rattle.fabric.proofs.Counting.{bad_rise, rose_some}
use Rattle.outside.proofs.FateLaws.{bad_fates-le}
use Rattle.nfs3_types.specs.Count.{Rose}
use Rattle.fabric.proofs.Lists.{set_here, set_elsewhere, same_reversed}
use Rattle.fabric.proofs.Within.{after_within}
use Rattle.fabric.proofs.Told.{answer_within}
use Rattle.fabric.proofs.Entries.{IsAlike, equal_to_self, are_equal, gained_steps, gained_fair, gained_settled, elsewhere}
use Rattle.fabric.proofs.Entries.{settled_room, next_room, next_most}

pub same_behind : (b c : Behind) → b.state ≡ c.state → b.pending ≡ c.pending → b ≡ c
same_behind b c s p =
    ap (λ x. record { state = x; pending = b.pending }) s ∙ ap (λ y. record { state = c.state; pending = y }) p

-- ## Holds of stores that are there

module _ (stores : ℕ) where
  maybe_within : (s : StoreState) (d : Option Command) → AreWithin stores s → IsPendingWithin stores d →
      AreWithin stores (after_maybe s d)
  maybe_within s None w p = w
  maybe_within s (Some c) w p = after_within stores s c p w

  waiting_within : (d : Option Command) (c : Command) → IsPendingWithin stores d → IsCommandWithin stores c →
      IsCommandWithin stores (unwrap_or d c)
  waiting_within None c p w = w
  waiting_within (Some x) c p w = p

  record AreBothWithin (b : Behind) : Type 0 where
    state : AreWithin stores b.state
    pending : IsPendingWithin stores b.pending

  left_within : (result : Result Answer StepFault) (doubted : Bool) (old new : Behind) (c : Command)
      (late : Option (Command × Answer)) →
      Left result doubted old new c late → AreBothWithin old → IsCommandWithin stores c → AreBothWithin new
  left_within (Ok a) doubted old new c late left w cw = record {
    state = subst (AreWithin stores) (sym left.state) (after_within stores (after_maybe old.state old.pending) c cw
        (maybe_within old.state old.pending w.state w.pending));
    pending = subst (IsPendingWithin stores) (sym left.pending) tt;
  }
  left_within (Err f) true old new c (Some l) left w cw = record {
    state = subst (AreWithin stores) (sym left.state) (maybe_within old.state old.pending w.state w.pending);
    pending = subst (IsPendingWithin stores) (sym left.pending) cw;
  }
  left_within (Err f) true old new c None left w cw = record {
    state = subst (AreWithin stores) (sym left.state) w.state;
    pending = subst (IsPendingWithin stores) (sym left.pending) (waiting_within old.pending c w.pending cw);
  }
  left_within (Err f) false old new c late left w cw = record {
    state = subst (AreWithin stores) (sym left.state) w.state;
    pending = subst (IsPendingWithin stores) (sym left.pending) w.pending;
  }

  module _ {S : Type 0} (stands : PageMap → S → Type 0) (next : S → List ℕ → Entry → S → Type 0) where
    fair_within : (es : List JEntry) (pass store : ℕ) (c : Command) → IsFair stands next stores es pass store c →
        IsCommandWithin stores c
    fair_within es pass store Fresh f = tt
    fair_within es pass store (Read n) f = tt
    fair_within es pass store (Look ns) f = tt
    fair_within es pass store (Write x) f = tt
    fair_within es pass store (Prepare part) f = record { home = f.below part.home f.home; parts = f.below }
    fair_within es pass store (Decide d) f = tt
    fair_within es pass store (Resolve r) f = tt

-- what is fair is formed
module _ {S : Type 0} (stands : PageMap → S → Type 0) (next : S → List ℕ → Entry → S → Type 0) where
  pub fair_formed : (stores : ℕ) (es : List JEntry) (pass store : ℕ) (c : Command) → IsFair stands next stores es pass store c →
      IsFormed c
  fair_formed stores es pass store Fresh f = tt
  fair_formed stores es pass store (Read n) f = tt
  fair_formed stores es pass store (Look ns) f = tt
  fair_formed stores es pass store (Write x) f = f.accesses
  fair_formed stores es pass store (Prepare part) f = f.accesses
  fair_formed stores es pass store (Decide d) f = tt
  fair_formed stores es pass store (Resolve r) f = tt

-- a store's log and rounds have room for a step more
pub log_fits : (o : Origin) (size store : ℕ) (es : List JEntry) (g : StoreGroup) → IsStoreOf o size es store g → Answered o es →
    steps es < 2 ^ 62 → length (settling_of g).log < 2 ^ 63
log_fits o size store es g is a l =
    let n : length (settling_of g).log ≡ length (settled es store) =
    ap (λ (xs : List Command). length xs) is.log ∙ length-reverse (settled es store) in
    let m = settled_room o es a store in omega (arith, n, m, l)

pub round_fits : (o : Origin) (size store : ℕ) (es : List JEntry) (g : StoreGroup) → IsStoreOf o size es store g →
    steps es < 2 ^ 62 → (settling_of g).round < 2 ^ 63
round_fits o size store es g is l = let r = is.round in omega (arith, r, l)

-- ## Answers

answer_is : (stores : ℕ) (result : Result Answer StepFault) (doubted : Bool) (old new : Behind) (c : Command)
    (late : Option (Command × Answer)) → Left result doubted old new c late → AreBothWithin stores old →
    old.state.next + length (list_of old.pending) ≤ 2 ^ 62 → IfOk result (λ a. IsAnswer stores c a)
answer_is stores (Ok a) doubted old new c late left w l = record {
  state = after_maybe old.state old.pending;
  given = sym left.answer;
  within = subst (IsWithin stores) (sym left.answer)
      (answer_within stores (after_maybe old.state old.pending) (maybe_within stores old.state old.pending w.state w.pending) c
      (next_most old.state old.pending (2 ^ 62) l));
}
answer_is stores (Err f) doubted old new c late left w l = tt

-- what stays where nothing happened
same_entries : (asked : Request) (result : Result Answer StepFault) (doubted : Bool) (old new : Behind)
    (late : Option (Command × Answer))
    (es fs : List JEntry) → Left result doubted old new asked.command late → fs ≡ gained asked late result doubted es →
    OnErr result (doubted ≡ false → fs ≡ es)
same_entries asked (Ok a) doubted old new late es fs left is = tt
same_entries asked (Err f) true old new late es fs left is = λ off. absurd ((cc))
same_entries asked (Err f) false old new late es fs left is = λ off. is ∙ ap (λ l. gained asked l (Err f) false es) left.was_late

same_doubts : (result : Result Answer StepFault) (doubted : Bool) → IfErr result (λ why. why ≡ fault.Doubt → doubted ≡ true) →
    OnErr result (doubted ≡ false → doubts_in result ≡ 0)
same_doubts (Ok a) doubted h = tt
same_doubts (Err fault.Doubt) doubted h = λ off. absurd (let e = h refl in (cc))
same_doubts (Err fault.NoMemory) doubted h = λ off. refl
same_doubts (Err fault.Stopped) doubted h = λ off. refl

all_same : (result : Result Answer StepFault) (doubted : Bool) {P Q R T : Type 0} → (P → Q → R → T) →
    OnErr result (doubted ≡ false → P) →
    OnErr result (doubted ≡ false → Q) → OnErr result (doubted ≡ false → R) → OnErr result (doubted ≡ false → T)
all_same (Ok a) doubted f p q r = tt
all_same (Err e) doubted f p q r = λ off. f (p off) (q off) (r off)

same_shown : {W : Type 0} (stores : ℕ) (first : List ℕ) (size : ℕ) (old new : Book) (v w : W) → written new ≡ written old →
    new.doubts ≡ old.doubts → w ≡ v → shown_of stores first size new w ≡ shown_of stores first size old v
same_shown stores first size old new v w entries doubts weather =
    ap (λ l. record {
      origin = record { stores = stores; first = first };
      replicas = size;
      journal = l;
      doubts = new.doubts;
      weather = w;
    })
    (same_reversed new.entries.items old.entries.items entries)
    ∙ (ap (λ n. record {
      origin = record { stores = stores; first = first };
      replicas = size;
      journal = old.entries.items;
      doubts = n;
      weather = w;
    }) doubts
    ∙ ap (λ x. record {
      origin = record { stores = stores; first = first };
      replicas = size;
      journal = old.entries.items;
      doubts = old.doubts;
      weather = x;
    }) weather)

size_most : (n : ℕ) → (n ≡ 3) ⊎ (n ≡ 5) → n ≤ 5
size_most n h = ⊎_elim (λ (e : n ≡ 3). omega (arith, e)) (λ (e : n ≡ 5). omega (arith, e)) h

differ : (n m : ℕ) → (n == m) ≡ false → n ≢ m
differ n m off e = let h : (n == m) ≡ true = subst (λ x. (n == x) ≡ true) e (equal_to_self n) in (cc)

-- ## Replicas that are heard, and rounds

same_heard : (s t : ℕ → ℕ → MessageKind → Bool) (k r : ℕ) → ((j : MessageKind) → t k r j ≡ s k r j) →
    is_heard t k r ≡ is_heard s k r
same_heard s t k r e = rw (e Put, e Ack) refl

on_ok : (result : Result Answer StepFault) {P Q : Type 0} → (P → Q) → OnOk result P → OnOk result Q
on_ok (Ok a) f p = f p
on_ok (Err e) f p = tt

on_doubt : (result : Result Answer StepFault) {P Q : Type 0} → (P → Q) → IfErr result (λ why. why ≡ fault.Doubt → P) →
    IfErr result (λ why. why ≡ fault.Doubt → Q)
on_doubt (Ok a) f p = tt
on_doubt (Err e) f p = λ is. f (p is)

round_grown : (result : Result Answer StepFault) (doubted : Bool) (old new n : ℕ) → OnErr result (doubted ≡ false → new ≡ old) →
    new ≤ old + 2 → old ≤ 1 + 2 * n → new ≤ 1 + 2 * (n + taken result doubted)
round_grown (Ok a) doubted old new n same l r = omega arith
round_grown (Err f) true old new n same l r = omega arith
round_grown (Err f) false old new n same l r = let e = same refl in omega (arith, e)

pub at_same : (result : Result Answer StepFault) (doubted : Bool) {P Q : Type 0} → (P → Q) →
    OnErr result (doubted ≡ false → P) → OnErr result (doubted ≡ false → Q)
at_same (Ok a) doubted f p = tt
at_same (Err e) doubted f p = λ is. f (p is)

doubts_taken : (result : Result Answer StepFault) (doubted : Bool) → IfErr result (λ why. why ≡ fault.Doubt → doubted ≡ true) →
    doubts_in result ≤ taken result doubted
doubts_taken (Ok a) doubted h = omega arith
doubts_taken (Err f) true h = one f
  where
    one : (x : StepFault) → doubts_in (Err x) ≤ 1
    one fault.Doubt = omega arith
    one fault.NoMemory = omega arith
    one fault.Stopped = omega arith
doubts_taken (Err fault.Doubt) false h = absurd (let e = h refl in (cc))
doubts_taken (Err fault.NoMemory) false h = omega arith
doubts_taken (Err fault.Stopped) false h = omega arith

few_kept : (result : Result Answer StepFault) (d x y : ℕ) → IfErr result (λ why. why ≡ fault.Doubt → Rose x y) → x ≤ y → d ≤ x →
    d + doubts_in result ≤ 2 ^ 62 → d + doubts_in result ≤ y
few_kept (Ok a) d x y rose le l m = omega arith
few_kept (Err fault.Doubt) d x y rose le l m = let r : min (x + 1) (2 ^ 64 - 1) ≤ y = rose refl in omega (arith, r, l, m)
few_kept (Err fault.NoMemory) d x y rose le l m = omega arith
few_kept (Err fault.Stopped) d x y rose le l m = omega arith

taken_one : (result : Result Answer StepFault) (doubted : Bool) → taken result doubted ≤ 1
taken_one (Ok a) doubted = omega arith
taken_one (Err f) true = omega arith
taken_one (Err f) false = omega arith

-- at the store something was settled before, or now by heard replicas
heard_by : (asked : Request) (late : Option (Command × Answer)) (result : Result Answer StepFault) (doubted : Bool)
    (es : List JEntry) (H : Type 0) →
    (IsTrue (is_some late) → H) → OnOk result H → (1 ≤ length (settled es asked.store) → H) →
    1 ≤ length (settled (gained asked late result doubted es) asked.store) → H
heard_by asked (Some l) result doubted es H hl ho he n = hl refl
heard_by asked None (Ok a) doubted es H hl ho he n = ho
heard_by asked None (Err f) true es H hl ho he n = he n
heard_by asked None (Err f) false es H hl ho he n = he n

module _ {S W : Type 0} (stands : PageMap → S → Type 0) (next : S → List ℕ → Entry → S → Type 0) (told : WeatherTold W) where
  heard_stays : (n : ℕ) (old new : W) (k : ℕ) → Endures told old new → AreHeard told n old k → AreHeard told n new k
  heard_stays n old new k e h = record {
    marks = h.marks;
    count = h.count;
    most = h.most;
    each = λ r is. same_heard (told.silent old) (told.silent new) k r (e.same_silence k r) ∙ h.each r is;
  }

  marred_stays : (stores n : ℕ) (old new : W) → Endures told old new → AreMarred told stores n old → AreMarred told stores n new
  marred_stays stores n old new e m = record {
    store = m.store;
    there = m.there;
    marred = record {
      marks = m.marred.marks;
      count = m.marred.count;
      most = m.marred.most;
      each = λ r is. let a = m.marred.each r is in let b = e.never_falls m.store r in omega (arith, a, b);
    };
  }

  marred_now : (stores n : ℕ) (old new : W) (store : ℕ) → store < stores → Worsens told n old new store →
      AreMarred told stores n new
  marred_now stores n old new store l m = record {
    store = store;
    there = l;
    marred = record {
      marks = m.marks;
      count = m.count;
      most = m.most;
      each = λ r is. rose_some (told.bad old store r) (told.bad new store r) (m.each r is);
    };
  }

  marred_kept : (result : Result Answer StepFault) (stores n d : ℕ) (old new : W) (store : ℕ) →
      IfErr result (λ why. why ≡ fault.Doubt → Worsens told n old new store) → Endures told old new → store < stores →
      (1 ≤ d → AreMarred told stores n old) → 1 ≤ d + doubts_in result → AreMarred told stores n new
  marred_kept (Ok a) stores n d old new store w e s h l = marred_stays stores n old new e (h (omega (arith, l)))
  marred_kept (Err fault.Doubt) stores n d old new store w e s h l = marred_now stores n old new store s (w refl)
  marred_kept (Err fault.NoMemory) stores n d old new store w e s h l = marred_stays stores n old new e (h (omega (arith, l)))
  marred_kept (Err fault.Stopped) stores n d old new store w e s h l = marred_stays stores n old new e (h (omega (arith, l)))

  -- a journal that gained the entries of a step at a store, and the store's group after it
  record IsGrown (o : Origin) (size store : ℕ) (weather : W) (g : StoreGroup) (count : ℕ) (es fs : List JEntry) : Type 0 where
    answered : Answered o fs
    fair : (p : ℕ) → FairList stands next o.stores (own p fs)
    steps_are : steps fs ≡ count
    here : IsStoreOf o size fs store g
    alike : (k : ℕ) → (store == k) ≡ false → IsAlike o es fs k
    within : AreWithin o.stores (replay o fs store)
    pending_within : IsPendingWithin o.stores (pending fs store)
    heard_here : 1 ≤ length (settled fs store) → AreHeard told size weather store

  module _ (o : Origin) (size : ℕ) (asked : Request) (old new : Scene W) (result : Result Answer StepFault)
      (t : Takes told old new asked result) (is : IsStoreOf o size (written old.book) asked.store old.group) where
    tells : Answered o (written old.book) → Tells o (gained asked t.late result t.doubted (written old.book)) asked.store
        (behind new.group)
    tells a = gains.steps o (written old.book) asked (behind old.group) (behind new.group) t.late result t.doubted
        (record {
          answered = a;
          state = ap (λ (b : Behind). b.state) is.behind_is;
          pending = ap (λ (b : Behind). b.pending)
              is.behind_is;
        }) t.left

    -- replicas that were heard are heard
    heard_so : AreHeard told (settling_of old.group).replicas old.weather (settling_of old.group).store →
        AreHeard told size old.weather asked.store
    heard_so h = subst (λ n. AreHeard told n old.weather asked.store) is.replicas
        (subst (λ k. AreHeard told (settling_of old.group).replicas old.weather k) is.number h)

    store_grown : Answered o (written old.book) →
        IsStoreOf o size (gained asked t.late result t.doubted (written old.book)) asked.store new.group
    store_grown a =
        let known = tells a in
        record {
          behind_is = same_behind (behind new.group)
              (told_of o (gained asked t.late result t.doubted (written old.book)) asked.store) known.state known.pending;
          number = t.number ∙ is.number;
          replicas = t.replicas ∙ is.replicas;
          first_is = t.first ∙ is.first_is;
          log = t.log ∙ (ap (λ l. l ++ settled_by t.late result asked.command) is.log
              ∙ sym (gained_settled asked t.late result t.doubted (written old.book)));
          round = subst (λ n. (settling_of new.group).round ≤ 1 + 2 * n)
              (sym (gained_steps asked t.late result t.doubted (written old.book)))
              (round_grown result t.doubted (settling_of old.group).round (settling_of new.group).round (steps (written old.book))
              (at_same result t.doubted (λ p. ap (λ (s : Settling Command). s.round) p.0.settling_is) t.unmoved) t.round
              is.round);
        }

    grown : Answered o (written old.book) → ((p : ℕ) → FairList stands next o.stores (own p (written old.book))) →
        IsFair stands next o.stores (own asked.pass (written old.book)) asked.pass asked.store asked.command →
        AreWithin o.stores (replay o (written old.book) asked.store) →
        IsPendingWithin o.stores (pending (written old.book) asked.store) →
        (1 ≤ length (settled (written old.book) asked.store) → AreHeard told size old.weather asked.store) →
        IsGrown o size asked.store new.weather new.group (steps (written old.book) + taken result t.doubted) (written old.book)
        (written new.book)
    grown a fs fair w pw h =
        let known = tells a in
        let both : AreBothWithin o.stores (behind new.group) = left_within o.stores result t.doubted (behind old.group)
        (behind new.group)
        asked.command t.late t.left
        (record {
          state = subst (λ (b : Behind). AreWithin o.stores b.state) (sym is.behind_is) w;
          pending = subst (λ (b : Behind). IsPendingWithin o.stores b.pending) (sym is.behind_is) pw;
        })
        (fair_within o.stores stands next (own asked.pass (written old.book)) asked.pass asked.store asked.command fair) in
        let moves : AreHeard told size old.weather asked.store → AreHeard told size new.weather asked.store =
        heard_stays size old.weather new.weather asked.store t.endures in
        subst (λ l. IsGrown o size asked.store new.weather new.group (steps (written old.book) + taken result t.doubted)
        (written old.book) l)
        (sym t.entries)
        (record {
          answered = known.answered;
          fair = gained_fair stands next o.stores asked t.late result t.doubted (written old.book) fs fair;
          steps_are = gained_steps asked t.late result t.doubted (written old.book);
          here = store_grown a;
          alike = λ k ne. elsewhere o asked t.late result t.doubted (written old.book) k ne;
          within = subst (AreWithin o.stores) known.state both.state;
          pending_within = subst (IsPendingWithin o.stores) known.pending both.pending;
          heard_here = heard_by asked t.late result t.doubted (written old.book) (AreHeard told size new.weather asked.store)
              (λ l. moves (heard_so (t.late_heard l))) (on_ok result (λ x. moves (heard_so x)) t.heard) (λ l. moves (h l));
        })

  -- ## The fabric

  other_store : (o : Origin) (size : ℕ) (es fs : List JEntry) (k : ℕ) (g : StoreGroup) → IsAlike o es fs k → steps es ≤ steps fs →
      IsStoreOf o size es k g → IsStoreOf o size fs k g
  other_store o size es fs k g alike l is = record {
    behind_is = is.behind_is ∙ same_behind (told_of o es k) (told_of o fs k) (sym alike.replayed) (sym alike.waits);
    number = is.number;
    replicas = is.replicas;
    first_is = is.first_is;
    log = is.log ∙ ap reverse (sym alike.obeyed);
    round = let r = is.round in omega (arith, r, l);
  }

  -- a fact of each store stands, where it does at the store of the step and at the others
  each_store : (P : ℕ → Type 0) (store k : ℕ) → P store → ((store == k) ≡ false → P k) → P k
  each_store P store k here there = by_same (store == k) refl
    where
      by_same : (b : Bool) → (store == k) ≡ b → P k
      by_same true is = subst P (are_equal store k is) here
      by_same false is = there is

  module _ (stores : ℕ) (first : List ℕ) (size : ℕ) (asked : Request) (old new : Scene W) (groups : List StoreGroup)
      (result : Result Answer StepFault) (t : Takes told old new asked result)
      (k : IsFabric stands next told (shown_of stores first size old.book old.weather) groups old.book.steps)
      (there : slice_get groups asked.store ≡ Some old.group) (room : old.book.steps < 2 ^ 62)
      (fair : IsFair stands next stores (own asked.pass (written old.book)) asked.pass asked.store asked.command) where
    abbrev origin : Origin
    origin = record { stores = stores; first = first }

    grew : IsGrown origin size asked.store new.weather new.group (steps (written old.book) + taken result t.doubted)
        (written old.book) (written new.book)
    grew = grown origin size asked old new result t (k.each asked.store old.group there) k.answered k.fair fair
        (k.within asked.store) (k.pending_within asked.store) (k.heard asked.store)

    store_there : asked.store < stores
    store_there = subst (λ n. asked.store < n) k.groups_are (slice_get_within groups asked.store old.group there)

    more_steps : steps (written old.book) ≤ steps (written new.book)
    more_steps = let e = grew.steps_are in omega (arith, e)

    each_group : (s : ℕ) (g : StoreGroup) → slice_get (set groups asked.store new.group) s ≡ Some g →
        IsStoreOf origin size (written new.book) s g
    each_group s g at = by_same (asked.store == s) refl
      where
        by_same : (b : Bool) → (asked.store == s) ≡ b → IsStoreOf origin size (written new.book) s g
        by_same true is =
            let e : new.group ≡ g = same_Some new.group g
            (sym (set_here groups asked.store new.group (slice_get_within groups asked.store old.group there))
            ∙ (ap (λ n. slice_get (set groups asked.store new.group) n) (are_equal asked.store s is) ∙ at)) in
            subst (λ x. IsStoreOf origin size (written new.book) s x) e
            (subst (λ n. IsStoreOf origin size (written new.book) n new.group) (are_equal asked.store s is) grew.here)
        by_same false is = other_store origin size (written old.book) (written new.book) s g (grew.alike s is) more_steps
            (k.each s g (sym (set_elsewhere groups asked.store s new.group (differ asked.store s is)) ∙ at))

    pub are_heard : OnOk result (AreHeard told size old.weather asked.store)
    are_heard = on_ok result (heard_so origin size asked old new result t (k.each asked.store old.group there)) t.heard

    pub worsened : IfErr result (λ why. why ≡ fault.Doubt → Worsens told size old.weather new.weather asked.store)
    worsened = on_doubt result
        (λ h. subst (λ n. Worsens told n old.weather new.weather asked.store) (k.each asked.store old.group there).replicas
        (subst (λ s. Worsens told (settling_of old.group).replicas old.weather new.weather s)
        (k.each asked.store old.group there).number h))
        t.worsens

    pub keeps : IsFabric stands next told (shown_of stores first size new.book new.weather) (set groups asked.store new.group)
        new.book.steps
    keeps = record {
      groups_are = length-set groups asked.store new.group ∙ k.groups_are;
      some = k.some;
      not_many = k.not_many;
      size = k.size;
      answered = grew.answered;
      fair = grew.fair;
      count_is = t.steps ∙ (ap (λ n. n + taken result t.doubted) k.count_is ∙ sym grew.steps_are);
      most = let e = t.steps in let l = taken_one result t.doubted in omega (arith, e, l, room);
      doubted = let e = t.steps in let d = t.doubts in let l = k.doubted in
          let m = doubts_taken result t.doubted t.doubt_is_doubted in omega (arith, e, d, l, m);
      few = subst (λ n. n ≤ bad_fates (told.bad new.weather)) (sym t.doubts)
          (few_kept result old.book.doubts (bad_fates (told.bad old.weather)) (bad_fates (told.bad new.weather))
          (on_doubt result (λ h. bad_rise (told.bad old.weather) (told.bad new.weather) asked.store size t.endures.never_falls
          (let a = store_there in let b = k.not_many in omega (arith, a, b)) (size_most size k.size) h) worsened)
          (bad_fates-le (told.bad old.weather) (told.bad new.weather) t.endures.never_falls) k.few
          (let e = t.steps in let l = k.doubted in let m = doubts_taken result t.doubted t.doubt_is_doubted in
          let o = taken_one result t.doubted in omega (arith, e, l, m, o, room)));
      marred = λ l. marred_kept result stores size old.book.doubts old.weather new.weather asked.store worsened t.endures
          store_there
          k.marred (subst (λ n. 1 ≤ n) t.doubts l);
      each = each_group;
      within = λ s. each_store (λ n. AreWithin stores (replay origin (written new.book) n)) asked.store s grew.within
          (λ ne. subst (AreWithin stores) (sym (grew.alike s ne).replayed) (k.within s));
      pending_within = λ s. each_store (λ n. IsPendingWithin stores (pending (written new.book) n)) asked.store s
          grew.pending_within
          (λ ne. subst (IsPendingWithin stores) (sym (grew.alike s ne).waits) (k.pending_within s));
      heard = λ s. each_store (λ n. 1 ≤ length (settled (written new.book) n) → AreHeard told size new.weather n) asked.store s
          grew.heard_here
          (λ ne l. heard_stays size old.weather new.weather s t.endures
          (k.heard s (subst (λ xs. 1 ≤ length xs) (grew.alike s ne).obeyed l)));
    }

    pub stepped : StepsAs told (shown_of stores first size old.book old.weather)
        (shown_of stores first size new.book new.weather) asked result
    stepped = record {
      late = t.late;
      doubted = t.doubted;
      journal = t.entries;
      left = subst (λ (b : Behind). Left result t.doubted b (told_of origin (written new.book) asked.store) asked.command t.late)
          (k.each asked.store old.group there).behind_is
          (subst (λ (b : Behind). Left result t.doubted (behind old.group) b asked.command t.late) grew.here.behind_is t.left);
      untouched = all_same result t.doubted
          (λ entries doubts moved. same_shown stores first size old.book new.book old.weather new.weather entries
          (let e = t.doubts in omega (arith, e, doubts)) moved.1)
          (same_entries asked result t.doubted (behind old.group) (behind new.group) t.late (written old.book)
          (written new.book) t.left t.entries)
          (same_doubts result t.doubted t.doubt_is_doubted) t.unmoved;
      doubt_is_doubted = t.doubt_is_doubted;
      late_heard = λ l. heard_so origin size asked old new result t (k.each asked.store old.group there) (t.late_heard l);
    }

    pub answers : IfOk result (λ a. IsAnswer stores asked.command a)
    answers = answer_is stores result t.doubted (behind old.group) (behind new.group) asked.command t.late t.left
        (record {
          state = subst (λ (b : Behind). AreWithin stores b.state) (sym (k.each asked.store old.group there).behind_is)
              (k.within asked.store);
          pending = subst (λ (b : Behind). IsPendingWithin stores b.pending) (sym (k.each asked.store old.group there).behind_is)
              (k.pending_within asked.store);
        })
        (subst (λ (b : Behind). b.state.next + length (list_of b.pending) ≤ 2 ^ 62)
        (sym (k.each asked.store old.group there).behind_is)
        (let l = next_room origin (written old.book) k.answered asked.store in let e = k.count_is in omega (arith, l, e, room)))

-- a step that is stopped does nothing
pub stopped_so : {W : Type 0} (told : WeatherTold W) (f : Shown W) (asked : Request) → StepsAs told f f asked (Err fault.Stopped)
stopped_so told f asked = record {
  late = None;
  doubted = false;
  journal = refl;
  left = record { was_late = refl; state = refl; pending = refl };
  untouched = λ off. refl;
  doubt_is_doubted = λ e. absurd (let x : fault.Stopped ≡ fault.Doubt = e in (cc));
  late_heard = λ e. absurd (let x : false ≡ true = e in (cc));
}
