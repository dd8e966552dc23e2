-- One more part that is prepared.
use Rattle.std.proofs.Common.{◌≡◌, ℕ, zero, suc, ◌<◌, ◌==◌, Bool, true, false, cond, ◌&&◌, List, [], ◌∷◌, ◌++◌}
use Rattle.std.proofs.Common.{Option, Some, None, Ok, Err, refl, ap, sym, ◌∙◌, subst, take, slice_get, arith, IsSome}
use Rattle.std.proofs.lemmas.Bool.Decides.{nat_tests}
use Rattle.std.specs.Prelude.{All}
use Rattle.std.proofs.lemmas.List.Elements.{All-nil, All-append, All-weaker}
use Rattle.pair_types.specs.PageMaps.{PageMap}
use Rattle.pair_types.specs.declared.slot.Tid.{Tid}
use Rattle.pair_types.specs.declared.fault.StepFault.{StepFault}
use Rattle.pair_types.specs.declared.fault.StepFault.TheVariants as fault
use Rattle.nfs3_types.specs.declared.entry.Entry.{Entry}
use Rattle.page_types.specs.declared.command.Part.{Part as AskedPart}
use Rattle.page_types.specs.declared.command.Command.{Command}
use Rattle.page_types.specs.declared.command.Command.TheVariants.{Prepare}
use Rattle.page_types.specs.declared.answer.Answer.{Answer}
use Rattle.page_types.specs.declared.answer.Answer.TheVariants.{Prepared}
use Rattle.page_types.specs.declared.journal.JEntry.{JEntry}
use Rattle.page_types.specs.declared.journal.JEntry.TheVariants.{Took, Doubted}
use Rattle.page_types.specs.Journals.{Origin}
use Rattle.page_types.specs.Asked.{first_of, found, Plan, part_in, plan_in, alone_in, commit_in, part_asked, plan_asked}
use Rattle.page_types.specs.Asked.{alone_asked, commit_asked, is_prepared, is_prepared_at, WasPrepared}
use Rattle.page_types.specs.Fair.{IsAgain}
use Rattle.page_types.specs.Ports.{PortState, IsAnswer, MayAsk}
use Rattle.two_phase.specs.declared.parts.Part.{Part}
use Rattle.two_phase.specs.declared.prepares.Preparation.TheVariants.{Ready, Refused}
use Rattle.two_phase.specs.Tries.{Onward, doubted, Tried, Retries}
use Rattle.two_phase.specs.Endings.{Asks}
use Rattle.two_phase.specs.Parts.{part_at, StoresRise, asked_for, asked_of, planned_by, ArePrepared, MayPrepare, AsksPart}
use Rattle.two_phase.specs.Parts.{Prepares}
use Rattle.two_phase.proofs.Basics.{first_end, eq_self, same_self}
use Rattle.two_phase.proofs.Onwards.{onward_none, onward_on}
use Rattle.two_phase.proofs.Ended.{any_later, is_in, asks_tried, asks_fault, cause_of, cause_after}

-- ## What one more command that was tried adds to what was asked

first_twice : {A : Type 0} (o x : Option A) → first_of (first_of o x) x ≡ first_of o x
first_twice None None = refl
first_twice None (Some x) = refl
first_twice (Some y) x = refl

found_doubts : {A : Type 0} (f : ℕ → Command → Option A) (times pass p : ℕ) (c : Command) (es : List JEntry) →
    first_of (found f (doubted times (Doubted pass p c) ++ es)) (f p c) ≡ first_of (found f es) (f p c)
found_doubts f zero pass p c es = refl
found_doubts f (suc times) pass p c es =
    first_twice (found f (doubted times (Doubted pass p c) ++ es)) (f p c) ∙ found_doubts f times pass p c es

pub found_tried : {A : Type 0} (f : ℕ → Command → Option A) (pass p : ℕ) (c : Command) (a : Answer) (part es : List JEntry) →
    Tried pass p c a part → found f (part ++ es) ≡ first_of (found f es) (f p c)
found_tried f pass p c a part es t =
    ap (λ (l : List JEntry). found f (l ++ es)) t.is ∙ found_doubts f t.times pass p c es

-- ## Which parts stand before one

first_store : (ps : List Part) (x p : Part) (i : ℕ) → StoresRise (x ∷ ps) → slice_get ps i ≡ Some p → x.store < p.store
first_store [] x p i rise h = absurd cc
first_store (y ∷ ps) x p zero rise h = let same : y ≡ p = cc in subst (λ (z : Part). x.store < z.store) same rise.0
first_store (y ∷ ps) x p (suc i) rise h =
    let a = rise.0 in let b = first_store ps y p i rise.1 h in omega arith

rise_tail : (x : Part) (ps : List Part) → StoresRise (x ∷ ps) → StoresRise ps
rise_tail x [] rise = tt
rise_tail x (y ∷ ps) rise = rise.1

below_not : (a b : ℕ) → a < b → (a == b) ≡ false
below_not a b lt = grind (arith, nat_tests)

-- no part before this one is of its store
apart : (ps : List Part) (i : ℕ) (p : Part) → StoresRise ps → slice_get ps i ≡ Some p →
    part_at (take i ps) p.store ≡ None
apart [] i p rise h = absurd cc
apart (x ∷ ps) zero p rise h = refl
apart (x ∷ ps) (suc i) p rise h =
    rw (below_not x.store p.store (first_store ps x p i rise h)) (apart ps i p (rise_tail x ps rise) h)

module _ (tid : Tid) (plan : Plan) where
  one_alone : (x : Part) (b : Bool) → asked_of tid plan (cond b (Some x) None) ≡ cond b (Some (asked_for tid plan x)) None
  one_alone x true = refl
  one_alone x false = refl

  asked_take : (ps : List Part) (i : ℕ) (p : Part) (q : ℕ) → slice_get ps i ≡ Some p →
      asked_of tid plan (part_at (take (suc i) ps) q) ≡
      first_of (asked_of tid plan (part_at (take i ps) q)) (cond (p.store == q) (Some (asked_for tid plan p)) None)
  asked_take [] i p q h = absurd cc
  asked_take (x ∷ ps) zero p q h =
      let same : x ≡ p = cc in
      one_alone x (x.store == q)
      ∙ ap (λ (y : Part). cond (y.store == q) (Some (asked_for tid plan y)) None) same
  asked_take (x ∷ ps) (suc i) p q h = at (x.store == q) (asked_take ps i p q h)
    where
      at : (b : Bool) → asked_of tid plan (part_at (take (suc i) ps) q) ≡
          first_of (asked_of tid plan (part_at (take i ps) q))
          (cond (p.store == q) (Some (asked_for tid plan p)) None) →
          asked_of tid plan (cond b (Some x) (part_at (take (suc i) ps) q)) ≡
          first_of (asked_of tid plan (cond b (Some x) (part_at (take i ps) q)))
          (cond (p.store == q) (Some (asked_for tid plan p)) None)
      at true rest = refl
      at false rest = rest

  planned_again : (ps : List Part) → IsAgain (planned_by plan ps) plan
  planned_again [] = tt
  planned_again (x ∷ ps) = refl

  planned_take : (ps : List Part) (i : ℕ) (p : Part) → slice_get ps i ≡ Some p →
      first_of (planned_by plan (take i ps)) (Some plan) ≡ planned_by plan (take (suc i) ps)
  planned_take [] i p h = absurd cc
  planned_take (x ∷ ps) zero p h = refl
  planned_take (x ∷ ps) (suc i) p h = refl

-- ## Asking the next part

pub fair_prepare : {S : Type 0} (stands : Origin → PageMap → S → Type 0) (next : S → List ℕ → Entry → S → Type 0)
    (old mid : PortState) (part : List JEntry) (tid : Tid) (plan : Plan) (parts : List Part) (i : ℕ) (p : Part) →
    MayPrepare old tid plan parts → Onward old mid part → slice_get parts i ≡ Some p →
    ArePrepared mid.mine tid plan (take i parts) → MayAsk stands next mid p.store (Prepare (asked_for tid plan p))
fair_prepare stands next old mid part tid plan parts i p may on at prepared = record {
  of_pass = record { own = may.of_pass.own ∙ sym on.pass; serial = may.of_pass.serial };
  accesses = may.accesses p (is_in parts i p at);
  not_alone = prepared.not_alone;
  again = subst (λ (o : Option AskedPart). IsAgain o (asked_for tid plan p))
      (sym (prepared.asked p.store ∙ ap (λ (o : Option Part). asked_of tid plan o) (apart parts i p may.rise at))) tt;
  planned = subst (λ (o : Option Plan). IsAgain o plan) (sym prepared.planned)
      (planned_again tid plan (take i parts));
  here = may.listed p (is_in parts i p at);
  home = may.home;
  lowest = may.lowest;
  below = λ other c. subst (λ (o : Origin). other < o.stores) (sym on.origin) (may.below other c);
}

pub part_below : (old mid : PortState) (part : List JEntry) (tid : Tid) (plan : Plan) (parts : List Part) (i : ℕ) (p : Part) →
    MayPrepare old tid plan parts → Onward old mid part → slice_get parts i ≡ Some p → p.store < mid.origin.stores
part_below old mid part tid plan parts i p may on at =
    subst (λ (o : Origin). p.store < o.stores) (sym on.origin) (may.below p.store (may.listed p (is_in parts i p at)))

pub prepared_only : (a : Answer) → is_prepared a ≡ true → a ≡ Prepared
prepared_only Prepared h = refl
prepared_only a h = absurd cc

and_self : (b : Bool) → (b && true) ≡ b
and_self true = refl
and_self false = refl

-- ## One part more

module _ (pass : ℕ) (tid : Tid) (plan : Plan) (parts : List Part) (i : ℕ) (p : Part) (entries es : List JEntry)
    (own : tid.pass ≡ pass) (at : slice_get parts i ≡ Some p) (prepared : ArePrepared es tid plan (take i parts))
    (tried : Tried pass p.store (Prepare (asked_for tid plan p)) Prepared entries) where
  asked_now : (q : ℕ) → part_asked (entries ++ es) tid q ≡ asked_of tid plan (part_at (take (suc i) parts) q)
  asked_now q =
      found_tried (part_in tid q) pass p.store (Prepare (asked_for tid plan p)) Prepared entries es tried
      ∙ (ap (λ (o : Option AskedPart). first_of o (part_in tid q p.store (Prepare (asked_for tid plan p)))) (prepared.asked q)
      ∙ (ap (λ (b : Bool). first_of (asked_of tid plan (part_at (take i parts) q)) (cond b (Some (asked_for tid plan p)) None))
      (ap (λ (d : Bool). (p.store == q) && d) (same_self tid) ∙ and_self (p.store == q))
      ∙ sym (asked_take tid plan parts i p q at)))

  planned_now : plan_asked (entries ++ es) tid ≡ planned_by plan (take (suc i) parts)
  planned_now =
      found_tried (plan_in tid) pass p.store (Prepare (asked_for tid plan p)) Prepared entries es tried
      ∙ (ap (λ (b : Bool). first_of (plan_asked es tid) (cond b (Some plan) None)) (same_self tid)
      ∙ (ap (λ (o : Option Plan). first_of o (Some plan)) prepared.planned ∙ planned_take tid plan parts i p at))

  -- the newest entry is the answer
  newest : (q : ℕ) → (p.store == q) ≡ true → WasPrepared (entries ++ es) tid q
  newest q same = subst (λ (l : List JEntry). WasPrepared (l ++ es) tid q) (sym tried.is)
      (let mine : (pass == tid.pass) ≡ true = rw own (eq_self pass) in rw (mine, same, same_self tid) refl)

  was_some : (q : ℕ) (b : Bool) → (p.store == q) ≡ b → (o : Option Part) → part_at (take i parts) q ≡ o →
      IsSome (first_of (asked_of tid plan o) (cond b (Some (asked_for tid plan p)) None)) →
      WasPrepared (entries ++ es) tid q
  was_some q true same o is h = newest q same
  was_some q false same None is h = absurd cc
  was_some q false same (Some x) is h =
      any_later (is_prepared_at tid q) entries es (prepared.prepared q (rw is refl))

  some_asked : (o : Option Part) → IsSome o → IsSome (asked_of tid plan o)
  some_asked None h = absurd cc
  some_asked (Some x) h = refl

  pub prepared_more : ArePrepared (entries ++ es) tid plan (take (suc i) parts)
  prepared_more = record {
    asked = asked_now;
    prepared = λ q h. was_some q (p.store == q) refl (part_at (take i parts) q) refl
        (subst (λ (o : Option AskedPart). IsSome o) (asked_take tid plan parts i p q at)
        (some_asked (part_at (take (suc i) parts) q) h));
    planned = planned_now;
    not_alone = found_tried (alone_in tid) pass p.store (Prepare (asked_for tid plan p)) Prepared entries es tried
        ∙ (first_end (alone_asked es tid) ∙ prepared.not_alone);
    not_decided = found_tried (commit_in tid) pass p.store (Prepare (asked_for tid plan p)) Prepared entries es tried
        ∙ (first_end (commit_asked es tid) ∙ prepared.not_decided);
  }

-- ## The parts so far

-- these of the parts are prepared, and nothing else was asked
pub record Preparing (old now : PortState) (tid : Tid) (plan : Plan) (parts done : List Part) : Type 0 where
  pub part : List JEntry
  pub onward : Onward old now part
  pub asks : All (AsksPart tid plan parts) part
  pub prepared : ArePrepared now.mine tid plan done

pub preparing_none : (old : PortState) (tid : Tid) (plan : Plan) (parts : List Part) → MayPrepare old tid plan parts →
    Preparing old old tid plan parts []
preparing_none old tid plan parts may = record {
  part = [];
  onward = onward_none old;
  asks = All-nil (AsksPart tid plan parts);
  prepared = may.none_yet;
}

pub preparing_done : (old new : PortState) (tid : Tid) (plan : Plan) (parts : List Part) →
    Preparing old new tid plan parts parts → Prepares old new tid plan parts (Ok Ready)
preparing_done old new tid plan parts x =
    record { part = x.part; onward = x.onward; asks = x.asks; ends = x.prepared }

pub prepare_lacking : (old now : PortState) (tid : Tid) (plan : Plan) (parts done : List Part) →
    Preparing old now tid plan parts done → Prepares old now tid plan parts (Err fault.NoMemory)
prepare_lacking old now tid plan parts done x = record { part = x.part; onward = x.onward; asks = x.asks; ends = tt }

module _ (old mid new : PortState) (tid : Tid) (plan : Plan) (parts : List Part) (i : ℕ) (p : Part)
    (may : MayPrepare old tid plan parts) (at : slice_get parts i ≡ Some p)
    (so_far : Preparing old mid tid plan parts (take i parts)) where
  asks_one : (entries : List JEntry) →
      All (Asks (λ store. store ≡ p.store) (Prepare (asked_for tid plan p))) entries → All (AsksPart tid plan parts) entries
  asks_one entries h =
      All-weaker (Asks (λ store. store ≡ p.store) (Prepare (asked_for tid plan p))) (AsksPart tid plan parts)
      (λ e x. (p, (is_in parts i p at, x))) entries h

  more_prepared : Retries mid new p.store (Prepare (asked_for tid plan p)) (Ok Prepared) →
      Preparing old new tid plan parts (take (suc i) parts)
  more_prepared x = record {
    part = x.part ++ so_far.part;
    onward = onward_on old mid new so_far.part x.part so_far.onward x.onward;
    asks = All-append (AsksPart tid plan parts) x.part so_far.part
        (asks_one x.part (asks_tried (λ store. store ≡ p.store) mid.pass p.store (Prepare (asked_for tid plan p)) Prepared
        x.part refl x.ends.0)) so_far.asks;
    prepared = subst (λ (l : List JEntry). ArePrepared l tid plan (take (suc i) parts)) (sym x.onward.mine)
        (prepared_more mid.pass tid plan parts i p x.part mid.mine (may.of_pass.own ∙ sym so_far.onward.pass) at
        so_far.prepared x.ends.0);
  }

  pub preparing_more : (a : Answer) → is_prepared a ≡ true → Retries mid new p.store (Prepare (asked_for tid plan p)) (Ok a) →
      Preparing old new tid plan parts (take (suc i) parts)
  preparing_more a is x = more_prepared
      (subst (λ (b : Answer). Retries mid new p.store (Prepare (asked_for tid plan p)) (Ok b)) (prepared_only a is) x)

  pub prepare_refused : (a : Answer) → is_prepared a ≡ false → Retries mid new p.store (Prepare (asked_for tid plan p)) (Ok a) →
      Prepares old new tid plan parts (Ok (Refused p.store a))
  prepare_refused a unprepared x = record {
    part = x.part ++ so_far.part;
    onward = onward_on old mid new so_far.part x.part so_far.onward x.onward;
    asks = All-append (AsksPart tid plan parts) x.part so_far.part
        (asks_one x.part (asks_tried (λ store. store ≡ p.store) mid.pass p.store (Prepare (asked_for tid plan p)) a
        x.part refl x.ends.0)) so_far.asks;
    ends = record {
      part = p;
      among = is_in parts i p at;
      store_is = refl;
      before = doubted x.ends.0.times (Doubted mid.pass p.store (Prepare (asked_for tid plan p))) ++ so_far.part;
      is = ap (λ (l : List JEntry). l ++ so_far.part) x.ends.0.is
          ∙ ap (λ (n : ℕ). Took n p.store (Prepare (asked_for tid plan p)) a
          ∷ (doubted x.ends.0.times (Doubted mid.pass p.store (Prepare (asked_for tid plan p))) ++ so_far.part))
          so_far.onward.pass;
      given = subst (λ (o : Origin). IsAnswer o.stores (Prepare (asked_for tid plan p)) a) so_far.onward.origin x.ends.1;
      unprepared = unprepared;
    };
  }

  pub prepare_faulted : (f : StepFault) → Retries mid new p.store (Prepare (asked_for tid plan p)) (Err f) →
      Prepares old new tid plan parts (Err f)
  prepare_faulted f x = record {
    part = x.part ++ so_far.part;
    onward = onward_on old mid new so_far.part x.part so_far.onward x.onward;
    asks = All-append (AsksPart tid plan parts) x.part so_far.part
        (asks_one x.part (asks_fault (λ store. store ≡ p.store) mid new p.store (Prepare (asked_for tid plan p)) f x.part refl
        x.ends)) so_far.asks;
    ends = cause_after old mid new f so_far.part x.part so_far.onward
        (cause_of mid new p.store (Prepare (asked_for tid plan p)) f x.part x.ends);
  }
