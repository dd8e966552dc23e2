-- Once all parts are prepared, the home may be asked to commit.
use Rattle.std.proofs.Common.{◌≡◌, ℕ, ◌≤◌, ◌==◌, if◌then◌else◌, cond, Bool, true, false, List, [], ◌∷◌, ◌++◌}
use Rattle.std.proofs.Common.{Option, Some, None, refl, ap, sym, ◌∙◌, subst, arith, IsSome, length}
use Rattle.std.specs.Prelude.{All, Contains}
use Rattle.std.proofs.lemmas.List.Elements.{All-nil, All-cons, All-head, All-tail, All-weaker, All-contains}
use Rattle.std.proofs.lemmas.List.Elements.{Contains-append_left, Contains-append_right, Contains-push}
use mathlib.Core.Path.{fun_ext}
use Rattle.pair_types.specs.declared.slot.Slot.{Slot}
use Rattle.pair_types.specs.declared.slot.Tid.{Tid}
use Rattle.pair_types.specs.PageMaps.{PageMap, ReadMap}
use Rattle.nfs3_types.specs.declared.entry.Entry.{Entry}
use Rattle.page_types.specs.declared.outcome.Outcome.TheVariants.{Commit}
use Rattle.page_types.specs.declared.command.Part.{Part as AskedPart}
use Rattle.page_types.specs.declared.command.Command.{Command}
use Rattle.page_types.specs.declared.command.Command.TheVariants.{Prepare, Decide}
use Rattle.page_types.specs.declared.journal.JEntry.{JEntry}
use Rattle.page_types.specs.declared.journal.JEntry.TheVariants.{Took, Doubted, Late}
use Rattle.page_types.specs.Journals.{Origin}
use Rattle.page_types.specs.Asked.{first_of, Plan}
use Rattle.page_types.specs.Fair.{Known, told_first, told_in, seen, reads_of_part, writes_of_part, reads_of_all, writes_of_all}
use Rattle.page_types.specs.Fair.{IsAgain, AreKnown, IsRight}
use Rattle.page_types.specs.Ports.{PortState, MayAsk}
use Rattle.two_phase.specs.declared.parts.Part.{Part}
use Rattle.two_phase.specs.Tries.{Onward}
use Rattle.two_phase.specs.Endings.{Asks}
use Rattle.two_phase.specs.Parts.{part_at, stores_of, reads_at, writes_at, reads_among, writes_among, asked_for, asked_of}
use Rattle.two_phase.specs.Parts.{planned_by, ArePrepared, AsksPart, IsTransaction}
use Rattle.two_phase.proofs.Basics.{first_end, eq_self, eq_true}

-- ## A Prepare tells no page

asks_tell_none : (Here : ℕ → Type 0) (x : AskedPart) (e : JEntry) (q n v : ℕ) → Asks Here (Prepare x) e →
    told_in q n v e ≡ None
asks_tell_none Here x (Took pass p c a) q n v asks =
    subst (λ (d : Command). told_in q n v (Took pass p d a) ≡ None) (sym asks.1) refl
asks_tell_none Here x (Doubted pass p c) q n v asks = refl
asks_tell_none Here x (Late p c a) q n v asks = absurd asks

told_same : (tid : Tid) (plan : Plan) (parts : List Part) (entries es : List JEntry) (q n v : ℕ) →
    All (AsksPart tid plan parts) entries → told_first q n v (entries ++ es) ≡ told_first q n v es
told_same tid plan parts [] es q n v all = refl
told_same tid plan parts (e ∷ entries) es q n v all =
    let first = All-head (AsksPart tid plan parts) e entries all in
    let rest = All-tail (AsksPart tid plan parts) e entries all in
    ap (λ (o : Option (Option (List ℕ))). first_of (told_first q n v (entries ++ es)) o)
    (asks_tell_none (λ store. store ≡ first.0.store) (asked_for tid plan first.0) e q n v first.1.1)
    ∙ (first_end (told_first q n v (entries ++ es)) ∙ told_same tid plan parts entries es q n v rest)

pub seen_same : (tid : Tid) (plan : Plan) (parts : List Part) (entries es : List JEntry) →
    All (AsksPart tid plan parts) entries → seen (entries ++ es) ≡ seen es
seen_same tid plan parts entries es all = fun_ext (λ q. fun_ext (λ n. fun_ext (λ v.
    ap (λ (x : Option (Option (List ℕ))). if v == 0 then Some None else x) (told_same tid plan parts entries es q n v all))))

-- ## The part at a store

some_more : (x : Part) (b : Bool) (o : Option Part) → IsSome o → IsSome (cond b (Some x) o)
some_more x true o h = refl
some_more x false o h = h

all_some : (parts : List Part) → All (λ store. IsSome (part_at parts store)) (stores_of parts)
all_some [] = All-nil (λ store. IsSome (part_at [] store))
all_some (x ∷ parts) =
    All-cons (λ store. IsSome (part_at (x ∷ parts) store)) x.store (stores_of parts) (rw (eq_self x.store) refl)
    (All-weaker (λ store. IsSome (part_at parts store)) (λ store. IsSome (part_at (x ∷ parts) store))
    (λ q h. some_more x (x.store == q) (part_at parts q) h) (stores_of parts) (all_some parts))

pub some_at : (parts : List Part) (store : ℕ) → Contains (stores_of parts) store → IsSome (part_at parts store)
some_at parts store c = All-contains (λ q. IsSome (part_at parts q)) (stores_of parts) store (all_some parts) c

record IsAt (parts : List Part) (store : ℕ) (part : Part) : Type 0 where
  pub here : part.store ≡ store
  pub among : Contains parts part

at_store : (parts : List Part) (store : ℕ) (x : Part) → part_at parts store ≡ Some x → IsAt parts store x
at_store [] store x h = absurd cc
at_store (y ∷ ys) store x h = at (y.store == store) refl h (λ is. at_store ys store x is)
  where
    at : (b : Bool) → (y.store == store) ≡ b → cond b (Some y) (part_at ys store) ≡ Some x →
        (part_at ys store ≡ Some x → IsAt ys store x) → IsAt (y ∷ ys) store x
    at true same is rest =
        let z : y ≡ x = cc in
        subst (λ (w : Part). IsAt (y ∷ ys) store w) z (record {
          here = eq_true y.store store same;
          among = Contains-append_left (y ∷ []) ys y (Contains-push [] y);
        })
    at false same is rest =
        let found = rest is in
        record { here = found.here; among = Contains-append_right (y ∷ []) ys x found.among }

module _ (tid : Tid) (plan : Plan) where
  reads_same : (known : Known) (o : Option Part) (s : Slot) → reads_of_part known (asked_of tid plan o) s ≡ reads_at known o s
  reads_same known None s = refl
  reads_same known (Some x) s = refl

  writes_same : (o : Option Part) (s : Slot) → writes_of_part (asked_of tid plan o) s ≡ writes_at o s
  writes_same None s = refl
  writes_same (Some x) s = refl

  module _ (es : List JEntry) (parts : List Part) (prepared : ArePrepared es tid plan parts) where
    pub reads_all : (known : Known) → reads_of_all known es tid ≡ reads_among known parts
    reads_all known = fun_ext (λ s.
        ap (λ (o : Option AskedPart). reads_of_part known o s) (prepared.asked s.store)
        ∙ reads_same known (part_at parts s.store) s)

    pub writes_all : writes_of_all es tid ≡ writes_among parts
    writes_all = fun_ext (λ s.
        ap (λ (o : Option AskedPart). writes_of_part o s) (prepared.asked s.store)
        ∙ writes_same (part_at parts s.store) s)

    known_at : (known : Known) → ((part : Part) → Contains parts part → AreKnown known part.store part.reads) →
        (store : ℕ) (o : Option Part) → part_at parts store ≡ o → (x : AskedPart) → asked_of tid plan o ≡ Some x →
        AreKnown known store x.reads
    known_at known all store None is x h = absurd cc
    known_at known all store (Some part) is x h =
        let found = at_store parts store part is in
        let same : asked_for tid plan part ≡ x = cc in
        subst (λ (y : AskedPart). AreKnown known store y.reads) same
        (subst (λ (q : ℕ). AreKnown known q part.reads) found.here (all part found.among))

pub planned_some : (plan : Plan) (parts : List Part) → 1 ≤ length parts → planned_by plan parts ≡ Some plan
planned_some plan [] h = absurd (omega arith)
planned_some plan (x ∷ parts) h = refl

-- ## The Commit is fair

pub fair_commit : {S : Type 0} (stands : Origin → PageMap → S → Type 0) (next : S → List ℕ → Entry → S → Type 0)
    (old mid : PortState) (part : List JEntry) (tid : Tid) (plan : Plan) (parts : List Part) (served : Option Entry) →
    IsTransaction stands next old tid parts served → plan.parts ≡ stores_of parts → Onward old mid part →
    All (AsksPart tid plan parts) part → ArePrepared mid.mine tid plan parts →
    MayAsk stands next mid plan.home (Decide (record { tid = tid; outcome = Commit served }))
fair_commit stands next old mid part tid plan parts served tr listed on asks prepared = record {
  of_pass = record { own = tr.of_pass.own ∙ sym on.pass; serial = tr.of_pass.serial };
  plan = plan;
  planned = prepared.planned ∙ planned_some plan parts tr.some;
  home = refl;
  again = subst (λ (o : Option (Option Entry)). IsAgain o served) (sym prepared.not_decided) tt;
  prepared = λ other c. prepared.prepared other
      (some_at parts other (subst (λ (l : List ℕ). Contains l other) listed c));
  are_known = λ other x h. subst (λ (k : Known). AreKnown k other x.reads) (sym same)
      (known_at tid plan mid.mine parts prepared (seen old.mine) tr.are_known other (part_at parts other) refl x
      (sym (prepared.asked other) ∙ h));
  entry = tr.entry;
  right =
      subst
      (λ (o : Origin). IsRight (stands o) next (reads_of_all (seen mid.mine) mid.mine tid) (writes_of_all mid.mine tid) served)
      (sym on.origin)
      (subst (λ (r : ReadMap). IsRight (stands old.origin) next r (writes_of_all mid.mine tid) served)
      (sym (reads_all tid plan mid.mine parts prepared (seen mid.mine)))
      (subst (λ (w : PageMap). IsRight (stands old.origin) next (reads_among (seen mid.mine) parts) w served)
      (sym (writes_all tid plan mid.mine parts prepared))
      (subst (λ (k : Known). IsRight (stands old.origin) next (reads_among k parts) (writes_among parts) served) (sym same)
      tr.right)));
}
  where
    same : seen mid.mine ≡ seen old.mine
    same = ap (λ (l : List JEntry). seen l) on.mine ∙ seen_same tid plan parts part old.mine asks
