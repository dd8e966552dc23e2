-- The commit of a transaction of several stores, from its plan to its answer.
use Rattle.std.proofs.Common.{◌≡◌, ℕ, suc, ◌<◌, ◌≤◌, Bool, true, List, [], ◌∷◌, ◌++◌, length, Option, Some}
use Rattle.std.proofs.Common.{None, Result, Ok, Err, refl, ap, sym, ◌∙◌, subst, arith, inl, inr, get_or}
use Rattle.std.specs.Prelude.{All, Contains}
use Rattle.std.proofs.lemmas.List.Elements.{All-nil, All-cons, All-append, All-weaker, All-tail, All-map, All-contains}
use Rattle.std.proofs.lemmas.List.Elements.{All-contains_itself, Contains-append_left, Contains-append_right, Contains-push}
use Rattle.pair_types.specs.PageMaps.{PageMap}
use Rattle.pair_types.specs.declared.slot.Tid.{Tid}
use Rattle.pair_types.specs.declared.fault.StepFault.{StepFault}
use Rattle.pair_types.specs.declared.fault.StepFault.TheVariants as fault
use Rattle.pair_types.specs.declared.fault.Cross.{Cross}
use Rattle.nfs3_types.specs.declared.entry.Entry.{Entry}
use Rattle.page_types.specs.declared.command.Command.TheVariants.{Prepare}
use Rattle.page_types.specs.declared.answer.Answer.{Answer}
use Rattle.page_types.specs.declared.journal.JEntry.{JEntry}
use Rattle.page_types.specs.declared.journal.JEntry.TheVariants.{Took}
use Rattle.page_types.specs.Journals.{Origin}
use Rattle.page_types.specs.Asked.{Plan, Names, found, found_in, first_of, plan_in}
use Rattle.page_types.specs.Ports.{PortState, IsWithin}
use Rattle.two_phase.specs.declared.parts.Part.{Part}
use Rattle.two_phase.specs.declared.prepares.Preparation.TheVariants.{Ready, Refused}
use Rattle.two_phase.specs.declared.closing.Commit.{Commit}
use Rattle.two_phase.specs.declared.closing.Commit.TheVariants.{Done, Crossed, Fault}
use Rattle.two_phase.specs.Tries.{Onward}
use Rattle.two_phase.specs.Endings.{IsKnown, IsEnd, WasEnded, Finishes, end_of}
use Rattle.two_phase.specs.Parts.{stores_of, StoresRise, carries, asked_for, MayPrepare, AsksPart, Prepares, IsTransaction}
use Rattle.two_phase.specs.Commits.{effects, SettledAgainst, GoesOn, IsCrossed, CommitsAs, IsOfCommit, IsOfOther}
use Rattle.two_phase.specs.Commits.{Commits}
use Rattle.two_phase.specs.Commits.{as_commit, IsMet, Meets, FinishedFirst, IsReady, Concludes}
use Rattle.two_phase.proofs.Basics.{same_self, join_assoc}
use Rattle.two_phase.proofs.Onwards.{onward_none, onward_on}
use Rattle.two_phase.proofs.Ended.{cause_after}
use Rattle.two_phase.proofs.Effects.{Idle, effects_idle, settled_idle, none_carried, settled_before}
use Rattle.two_phase.proofs.Freshness.{none_prepared}
use Rattle.two_phase.proofs.Committing.{fair_commit, planned_some}
use Rattle.two_phase.proofs.Refusing.{refused_prepare_is}
use Rattle.two_phase.proofs.Meeting.{idle_asks, carries_asks, goes_asks, idle_end, carries_end, idle_other, is_met}
use Rattle.two_phase.proofs.Concluding.{ended_several}

-- ## The stores of the parts

first_in : (x : ℕ) (xs : List ℕ) → Contains (x ∷ xs) x
first_in x xs = Contains-append_left (x ∷ []) xs x (Contains-push [] x)

all_in : (parts : List Part) → All (λ p. Contains (stores_of parts) p.store) parts
all_in [] = All-nil (λ p. Contains (stores_of []) p.store)
all_in (x ∷ parts) =
    All-cons (λ p. Contains (stores_of (x ∷ parts)) p.store) x parts (first_in x.store (stores_of parts))
    (All-weaker (λ p. Contains (stores_of parts) p.store) (λ p. Contains (stores_of (x ∷ parts)) p.store)
    (λ p c. Contains-append_right (x.store ∷ []) (stores_of parts) p.store c) parts (all_in parts))

-- what holds of the store of each part holds of each store
of_stores : (P : ℕ → Type 0) (parts : List Part) → ((p : Part) → Contains parts p → P p.store) → (store : ℕ) →
    Contains (stores_of parts) store → P store
of_stores P parts h store c =
    All-contains P (stores_of parts) store
    (All-map P (λ (p : Part). p.store) parts
    (All-weaker (Contains parts) (λ p. P p.store) h parts (All-contains_itself parts))) c

lowest_first : (x : Part) (parts : List Part) → StoresRise (x ∷ parts) → All (λ s. x.store ≤ s) (stores_of (x ∷ parts))
lowest_first x [] rise = All-cons (λ s. x.store ≤ s) x.store [] (omega arith) (All-nil (λ s. x.store ≤ s))
lowest_first x (y ∷ parts) rise =
    All-cons (λ s. x.store ≤ s) x.store (stores_of (y ∷ parts)) (omega arith)
    (All-weaker (λ s. y.store ≤ s) (λ s. x.store ≤ s) (λ s h. let a = rise.0 in omega arith) (stores_of (y ∷ parts))
    (lowest_first y parts rise.1))

record IsHome (parts : List Part) (home : ℕ) : Type 0 where
  pub listed : Contains (stores_of parts) home
  pub lowest : (store : ℕ) → Contains (stores_of parts) store → home ≤ store

home_first : (parts : List Part) (home : ℕ) → 1 ≤ length parts → StoresRise parts → home ≡ get_or (stores_of parts) 0 0 →
    IsHome parts home
home_first [] home some rise is = absurd (omega arith)
home_first (x ∷ parts) home some rise is =
    let same : x.store ≡ home = sym is in
    subst (λ (h : ℕ). IsHome (x ∷ parts) h) same (record {
      listed = first_in x.store (stores_of parts);
      lowest = λ store c. All-contains (λ s. x.store ≤ s) (stores_of (x ∷ parts)) store (lowest_first x parts rise) c;
    })

pub first_home : (stores : List ℕ) (parts : List Part) → stores ≡ stores_of parts →
    get_or stores 0 0 ≡ get_or (stores_of parts) 0 0
first_home stores parts is = ap (λ (l : List ℕ). get_or l 0 0) is

pub stores_count : (parts : List Part) → length (stores_of parts) ≡ length parts
stores_count [] = refl
stores_count (x ∷ parts) = ap suc (stores_count parts)

pub only_part : (parts : List Part) (x : Part) → length parts ≡ 1 → x ≡ get_or parts 0 x → parts ≡ x ∷ []
only_part [] x one is = absurd cc
only_part (y ∷ []) x one is = ap (λ (z : Part). z ∷ []) (sym is)
only_part (y ∷ z ∷ parts) x one is = absurd (omega arith)

-- a plan that was asked first is named
names_planned : (es : List JEntry) (tid : Tid) (plan : Plan) → found (plan_in tid) es ≡ Some plan → Names es tid plan
names_planned [] tid plan h = absurd cc
names_planned (e ∷ es) tid plan h = at (found (plan_in tid) es) h (λ is. names_planned es tid plan is)
  where
    at : (o : Option Plan) → first_of o (found_in (plan_in tid) e) ≡ Some plan → (o ≡ Some plan → Names es tid plan) →
        Names (e ∷ es) tid plan
    at None is rest = inr (inl is)
    at (Some x) is rest = inl (rest is)

abbrev pub plan_at : ℕ → List ℕ → Plan
plan_at home stores = record { home = home; parts = stores }

-- where memory lacks before anything is asked
pub commits_none : {S : Type 0} (stands : Origin → PageMap → S → Type 0) (next : S → List ℕ → Entry → S → Type 0)
    (old : PortState) (tid : Tid) (parts : List Part) (served : Option Entry) →
    IsTransaction stands next old tid parts served → Commits old old tid parts served (Fault fault.NoMemory)
commits_none stands next old tid parts served tr = record {
  part = [];
  onward = onward_none old;
  asks = All-nil (IsOfCommit tid);
  ends = (none_carried tid old.mine tr.fresh, tt);
}

module _ {S : Type 0} (stands : Origin → PageMap → S → Type 0) (next : S → List ℕ → Entry → S → Type 0)
    (old : PortState) (tid : Tid) (home : ℕ) (stores : List ℕ) (parts : List Part) (served : Option Entry)
    (tr : IsTransaction stands next old tid parts served) (listed : stores ≡ stores_of parts)
    (first : home ≡ get_or (stores_of parts) 0 0) where
  is_home : IsHome parts home
  is_home = home_first parts home tr.some tr.rise first

  below_all : (store : ℕ) → Contains stores store → store < old.origin.stores
  below_all store c = of_stores (λ s. s < old.origin.stores) parts tr.below store
      (subst (λ (l : List ℕ). Contains l store) listed c)

  at_home : Contains stores home
  at_home = subst (λ (l : List ℕ). Contains l home) (sym listed) is_home.listed

  pub may_prepare : MayPrepare old tid (plan_at home stores) parts
  may_prepare = record {
    of_pass = tr.of_pass;
    none_yet = none_prepared tid (plan_at home stores) old.mine tr.fresh;
    rise = tr.rise;
    accesses = tr.accesses;
    listed = λ p c. subst (λ (l : List ℕ). Contains l p.store) (sym listed)
        (All-contains (λ q. Contains (stores_of parts) q.store) parts p (all_in parts) c);
    home = at_home;
    lowest = λ store c. is_home.lowest store (subst (λ (l : List ℕ). Contains l store) listed c);
    below = below_all;
  }

  known_by : (mid : PortState) (part : List JEntry) → Onward old mid part → Names mid.mine tid (plan_at home stores) →
      IsKnown mid tid (plan_at home stores)
  known_by mid part on names = record {
    names = names;
    home = subst (λ (o : Origin). home < o.stores) (sym on.origin) (below_all home at_home);
    parts = λ store c. subst (λ (o : Origin). store < o.stores) (sym on.origin) (below_all store c);
  }

  asks_idle : (e : JEntry) → AsksPart tid (plan_at home stores) parts e → Idle tid e
  asks_idle e x = idle_asks (λ s. s ≡ x.0.store) tid (Prepare (asked_for tid (plan_at home stores) x.0)) e refl x.1.1

  asks_carries : (e : JEntry) → AsksPart tid (plan_at home stores) parts e → IsOfCommit tid e
  asks_carries e x = inl (carries_asks (λ s. s ≡ x.0.store) tid (Prepare (asked_for tid (plan_at home stores) x.0)) e
      (same_self tid) x.1.1)

  asks_go : (e : JEntry) → AsksPart tid (plan_at home stores) parts e → GoesOn tid e
  asks_go e x = goes_asks (λ s. s ≡ x.0.store) tid (Prepare (asked_for tid (plan_at home stores) x.0)) e
      (same_self tid) x.1.1

  -- a part of which nothing asks that the transaction takes effect
  none_after : (now : PortState) (part : List JEntry) → Onward old now part → All (Idle tid) part →
      effects tid now.mine ≡ []
  none_after now part on idle = ap (λ (l : List JEntry). effects tid l) on.mine
      ∙ (effects_idle tid part old.mine idle ∙ none_carried tid old.mine tr.fresh)

  -- ## All parts are prepared

  module _ (mid : PortState) (x : Prepares old mid tid (plan_at home stores) parts (Ok Ready)) where
    pub is_ready : IsReady stands next mid tid (plan_at home stores) served
    is_ready = record {
      known = known_by mid x.part x.onward
          (names_planned mid.mine tid (plan_at home stores)
          (x.ends.planned ∙ planned_some (plan_at home stores) parts tr.some));
      fair = fair_commit stands next old mid x.part tid (plan_at home stores) parts served tr listed x.onward x.asks x.ends;
      none_yet = none_after mid x.part x.onward
          (All-weaker (AsksPart tid (plan_at home stores) parts) (Idle tid) asks_idle x.part x.asks);
    }

    crossed_later : (cr : Cross) (part : List JEntry) → IsCrossed mid.pass tid stores cr part →
        IsCrossed old.pass tid (stores_of parts) cr (part ++ x.part)
    crossed_later cr part k = subst (λ (l : List ℕ). IsCrossed old.pass tid l cr (part ++ x.part)) listed
        (at (subst (λ (n : ℕ). IsCrossed n tid stores cr part) x.onward.pass k))
      where
        at : IsCrossed old.pass tid stores cr part → IsCrossed old.pass tid stores cr (part ++ x.part)
        at c = record {
          store = c.store;
          command = c.command;
          answer = c.answer;
          finishing = c.finishing;
          ending = c.ending;
          before = c.before ++ x.part;
          is = ap (λ (l : List JEntry). l ++ x.part) c.is
              ∙ (join_assoc c.finishing (c.ending ++ (Took old.pass c.store c.command c.answer ∷ c.before)) x.part
              ∙ ap (λ (l : List JEntry). c.finishing ++ l)
              (join_assoc c.ending (Took old.pass c.store c.command c.answer ∷ c.before) x.part));
          went_on = All-append (GoesOn tid) c.before x.part c.went_on
              (All-weaker (AsksPart tid (plan_at home stores) parts) (GoesOn tid) asks_go x.part x.asks);
          goes = c.goes;
          refused = c.refused;
          no_effect = c.no_effect;
          cross_is = c.cross_is;
          ended = c.ended;
          finished = c.finished;
        }

    ends_later : (new : PortState) (result : Commit) (part : List JEntry) →
        CommitsAs mid new tid stores served result part → CommitsAs old new tid (stores_of parts) served result (part ++ x.part)
    ends_later new Done part c = c
    ends_later new (Crossed cr) part c = (c.0, (c.1.0, crossed_later cr part c.1.1))
    ends_later new (Fault f) part c = (c.0, cause_after old mid new f x.part part x.onward c.1)

    pub commits_ready : (new : PortState) (result : Result Commit StepFault) →
        Concludes mid new tid stores served result → Commits old new tid parts served (as_commit result)
    commits_ready new result c = record {
      part = c.part ++ x.part;
      onward = onward_on old mid new x.part c.part x.onward c.onward;
      asks = All-append (IsOfCommit tid) c.part x.part
          (All-weaker (λ e. carries tid e ≡ true) (IsOfCommit tid) (λ e h. inl h) c.part c.asks)
          (All-weaker (AsksPart tid (plan_at home stores) parts) (IsOfCommit tid) asks_carries x.part x.asks);
      ends = ends_later new (as_commit result) c.part c.ends;
    }

  -- ## A fault

  pub commits_unprepared : (new : PortState) (f : StepFault) → Prepares old new tid (plan_at home stores) parts (Err f) →
      Commits old new tid parts served (Fault f)
  commits_unprepared new f x = record {
    part = x.part;
    onward = x.onward;
    asks = All-weaker (AsksPart tid (plan_at home stores) parts) (IsOfCommit tid) asks_carries x.part x.asks;
    ends = (
      none_after new x.part x.onward
          (All-weaker (AsksPart tid (plan_at home stores) parts) (Idle tid) asks_idle x.part x.asks),
      x.ends,
    );
  }

  -- ## A part is refused

  module _ (mid : PortState) (store : ℕ) (a : Answer)
      (x : Prepares old mid tid (plan_at home stores) parts (Ok (Refused store a))) where
    pub refused_known : IsKnown mid tid (plan_at home stores)
    refused_known = known_by mid x.part x.onward
        (subst (λ (l : List JEntry). Names l tid (plan_at home stores)) (sym x.onward.mine)
        (subst (λ (l : List JEntry). Names (l ++ old.mine) tid (plan_at home stores)) (sym x.ends.is)
        (inr (inl (rw (same_self tid) refl)))))

    idle_first : All (Idle tid) x.part
    idle_first = All-weaker (AsksPart tid (plan_at home stores) parts) (Idle tid) asks_idle x.part x.asks

    -- its own holds are ended
    module _ (late : PortState) where
      idle_both : (result : Result Bool StepFault) (y : Finishes mid late tid (plan_at home stores) result) →
          All (Idle tid) (y.part ++ x.part)
      idle_both result y = All-append (Idle tid) y.part x.part
          (All-weaker (IsEnd tid (plan_at home stores)) (Idle tid) (idle_end tid tid (plan_at home stores)) y.part y.asks)
          idle_first

      asks_both : (result : Result Bool StepFault) (y : Finishes mid late tid (plan_at home stores) result) →
          All (IsOfCommit tid) (y.part ++ x.part)
      asks_both result y = All-append (IsOfCommit tid) y.part x.part
          (All-weaker (IsEnd tid (plan_at home stores)) (IsOfCommit tid)
          (λ e h. inl (carries_end tid (plan_at home stores) e h)) y.part y.asks)
          (All-weaker (AsksPart tid (plan_at home stores) parts) (IsOfCommit tid) asks_carries x.part x.asks)

      on_both : (result : Result Bool StepFault) (y : Finishes mid late tid (plan_at home stores) result) →
          Onward old late (y.part ++ x.part)
      on_both result y = onward_on old mid late x.part y.part x.onward y.onward

      pub commits_unfinished : (f : StepFault) → Finishes mid late tid (plan_at home stores) (Err f) →
          Commits old late tid parts served (Fault f)
      commits_unfinished f y = record {
        part = y.part ++ x.part;
        onward = on_both (Err f) y;
        asks = asks_both (Err f) y;
        ends = (
          none_after late (y.part ++ x.part) (on_both (Err f) y) (idle_both (Err f) y),
          cause_after old mid late f x.part y.part x.onward y.ended,
        );
      }

      module _ (commit : Bool) (y : Finishes mid late tid (plan_at home stores) (Ok commit)) where
        pub refused_met : IsMet late a
        refused_met = is_met late old.pass store (Prepare (asked_for tid (plan_at home stores) x.ends.part)) a y.part
            (x.ends.before ++ old.mine)
            (y.onward.mine ∙ ap (λ (l : List JEntry). y.part ++ l)
            (x.onward.mine ∙ ap (λ (l : List JEntry). l ++ old.mine) x.ends.is))
            (subst (λ (o : Origin). IsWithin o.stores a) (sym ((on_both (Ok commit) y).origin)) x.ends.given.within)

        module _ (new : PortState) (result : Result Cross StepFault) (z : Meets late new tid store a result) where
          idle_all : All (Idle tid) (z.part ++ (y.part ++ x.part))
          idle_all = All-append (Idle tid) z.part (y.part ++ x.part)
              (All-weaker (IsOfOther tid) (Idle tid) (idle_other tid) z.part z.asks) (idle_both (Ok commit) y)

          asks_all : All (IsOfCommit tid) (z.part ++ (y.part ++ x.part))
          asks_all = All-append (IsOfCommit tid) z.part (y.part ++ x.part)
              (All-weaker (IsOfOther tid) (IsOfCommit tid) (λ e h. inr h) z.part z.asks) (asks_both (Ok commit) y)

          on_all : Onward old new (z.part ++ (y.part ++ x.part))
          on_all = onward_on old late new (y.part ++ x.part) z.part (on_both (Ok commit) y) z.onward

          none_all : effects tid new.mine ≡ []
          none_all = none_after new (z.part ++ (y.part ++ x.part)) on_all idle_all

        pub commits_unmet : (new : PortState) (f : StepFault) → Meets late new tid store a (Err f) →
            Commits old new tid parts served (Fault f)
        commits_unmet new f z = record {
          part = z.part ++ (y.part ++ x.part);
          onward = on_all new (Err f) z;
          asks = asks_all new (Err f) z;
          ends = (
            none_all new (Err f) z,
            cause_after old late new f (y.part ++ x.part) z.part (on_both (Ok commit) y) z.ends,
          );
        }

        ended_in : (s : ℕ) → Contains stores s → WasEnded old.pass (end_of tid commit) y.part s
        ended_in s c = subst (λ (n : ℕ). WasEnded n (end_of tid commit) y.part s) x.onward.pass
            (subst (λ (l : List JEntry). WasEnded mid.pass (end_of tid commit) l s) (sym y.ended.is)
            (Contains-append_left y.ended.later y.ended.first _ (y.ended.ended s c)))

        pub commits_refused : 2 ≤ length stores → (new : PortState) (cr : Cross) → Meets late new tid store a (Ok cr) →
            Commits old new tid parts served (Crossed cr)
        commits_refused several new cr z = record {
          part = z.part ++ (y.part ++ x.part);
          onward = on_all new (Ok cr) z;
          asks = asks_all new (Ok cr) z;
          ends = (
            subst (λ (l : List JEntry). SettledAgainst l tid) (sym (on_all new (Ok cr) z).mine)
                (settled_idle tid (z.part ++ (y.part ++ x.part)) old.mine (idle_all new (Ok cr) z)
                (settled_before tid old.mine tr.fresh)),
            (
              none_all new (Ok cr) z,
              subst (λ (l : List ℕ). IsCrossed old.pass tid l cr (z.part ++ (y.part ++ x.part))) listed (record {
                store = store;
                command = Prepare (asked_for tid (plan_at home stores) x.ends.part);
                answer = a;
                finishing = z.part;
                ending = y.part;
                before = x.ends.before;
                is = ap (λ (l : List JEntry). z.part ++ (y.part ++ l)) x.ends.is;
                went_on = All-tail (GoesOn tid)
                    (Took old.pass store (Prepare (asked_for tid (plan_at home stores) x.ends.part)) a) x.ends.before
                    (subst (λ (l : List JEntry). All (GoesOn tid) l) x.ends.is
                    (All-weaker (AsksPart tid (plan_at home stores) parts) (GoesOn tid) asks_go x.part x.asks));
                goes = same_self tid;
                refused = refused_prepare_is old.origin.stores (asked_for tid (plan_at home stores) x.ends.part) a x.ends.given
                    x.ends.unprepared;
                no_effect = refl;
                cross_is = z.ends.0;
                ended = ended_several old.pass tid stores y.part commit several ended_in;
                finished = subst (λ (n : ℕ). FinishedFirst n tid a z.part) (on_both (Ok commit) y).pass z.ends.1;
              }),
            ),
          );
        }
