-- What a decision to commit does: its transaction read what is committed, and what its parts write is committed then.
use Rattle.std.proofs.Common.{◌≡◌, ℕ, Bool, true, false, List, ◌∷◌, Option, Some, None, refl, ap, sym, ◌∙◌}
use Rattle.std.proofs.Common.{subst, IsSome}
use Rattle.std.specs.List.{list_any, Contains}
use Rattle.pair_types.specs.declared.slot.Slot.{Slot}
use Rattle.pair_types.specs.declared.slot.Tid.{Tid}
use Rattle.nfs3_types.specs.declared.entry.Entry.{Entry}
use Rattle.page_types.specs.declared.hold.Hold.{Hold}
use Rattle.page_types.specs.declared.hold.WriteHold.{WriteHold}
use Rattle.page_types.specs.declared.outcome.Outcome.TheVariants.{Commit}
use Rattle.page_types.specs.declared.command.Part.{Part}
use Rattle.page_types.specs.declared.journal.JEntry.{JEntry}
use Rattle.page_types.specs.Accesses.{is_same, read_at, written_at}
use Rattle.page_types.specs.Journals.{Origin}
use Rattle.page_types.specs.Asked.{Plan, plan_of, part_asked, plan_asked}
use Rattle.page_types.specs.Fair.{read_then, reads_of_part, writes_of_part, writes_of_all}
use Rattle.page_types.specs.Obeys.{hold_of, has_reader, after_decide}
use Rattle.serial_rules.specs.Worlds.{World, put, replay}
use Rattle.serial_rules.specs.Contents.{content_at}
use Rattle.serial_rules.specs.Committed.{Committed, commits, to_come, standing, committed, present, shown, rewritten, with_writes}
use Rattle.serial_rules.specs.History.{versions_of_part, all_effect}
use Rattle.serial_rules.specs.Serial.{ReadsCommitted}
use Rattle.serial_core.proofs.Basics.{some_of, is_some_by, some_same, eq_self, same_true, same_self, not_both, none_some}
use Rattle.serial_core.proofs.Refusals.{IsIn, has_in}
use Rattle.serial_core.proofs.Asks.{Asks}
use Rattle.serial_core.proofs.Moves.{content_now}
use Rattle.serial_core.proofs.Slots.{prepared_at, HoldsAt}
use Rattle.serial_core.proofs.Holds.{Holds, ReadyCommit}
use Rattle.serial_core.proofs.Pages.{slot_at, page_all, decided_other}

-- the page is kept at this version, and nothing is to come
pub record IsCurrent (w : World) (q n v : ℕ) : Type 0 where
  pub version_is : ((w q).slot n).version ≡ v
  pub none_comes : to_come w ((w q).slot n).writer ≡ None

pub current_committed : (w : World) (q n v : ℕ) → IsCurrent w q n v →
    committed w (slot_at q n) ≡ record { version = v; content = ((w q).slot n).content }
current_committed w q n v c =
    ap (λ o. standing o ((w q).slot n)) c.none_comes ∙
    ap (λ (u : ℕ). record { version = u; content = ((w q).slot n).content }) c.version_is

pub current_known : (o : Origin) (es : List JEntry) (q n v : ℕ) → IsCurrent (replay o es) q n v →
    content_at o es q n v ≡ Some (shown (replay o es) (slot_at q n))
current_known o es q n v c =
    content_now o es q n v c.version_is ∙ ap (λ x. Some x) (sym (ap present (current_committed (replay o es) q n v c)))

module _ (o : Origin) (es : List JEntry) (e : JEntry) (old : Holds es (replay o es)) (asks : Asks (e ∷ es)) (before : Asks es)
    (p : ℕ) (t : Tid) (en : Option Entry) (ready : ReadyCommit es p t) (free : (replay o es p).decided t ≡ None) where
  its_plan : (q : ℕ) (part : Part) → part_asked es t q ≡ Some part → plan_of part ≡ ready.plan
  its_plan q part is = some_same (plan_asked es t) (plan_of part) ready.plan (before.agree t q part is).plan_is ready.planned

  home_of : (q : ℕ) (part : Part) → part_asked es t q ≡ Some part → part.home ≡ p
  home_of q part is = ap (λ (x : Plan). x.home) (its_plan q part is) ∙ ready.home

  prepared_there : (q : ℕ) (part : Part) → part_asked es t q ≡ Some part → list_any (prepared_at t q) es ≡ true
  prepared_there q part is =
      ready.prepared q (subst (λ (x : Plan). Contains x.parts q) (its_plan q part is) (before.agree t q part is).here)

  -- no part has ended
  alive : (q : ℕ) (b : Bool) → (replay o es q).ended t ≡ b → b ≡ false
  alive q false is = refl
  alive q true is =
      let d = old.ended q t is in
      let same : d.plan ≡ ready.plan = some_same (plan_asked es t) d.plan ready.plan d.planned ready.planned in
      let none : (replay o es d.plan.home).decided t ≡ None =
      subst (λ x. (replay o es x).decided t ≡ None) (sym (ap (λ (x : Plan). x.home) same ∙ ready.home)) free in
      absurd (none_some none d.decided)

  holds : (q : ℕ) (part : Part) (n v : ℕ) → part_asked es t q ≡ Some part → read_at part.reads n ≡ Some v →
      HoldsAt ((replay o es q).slot n) t (written_at part.writes n)
  holds q part n v is reads =
      old.held q t part (prepared_there q part is) is (alive q ((replay o es q).ended t) refl) n v reads

  -- its writer's holds are not yet decided
  undecided : (q : ℕ) (part : Part) (h : WriteHold) → part_asked es h.hold.tid q ≡ Some part → hold_of part ≡ h.hold →
      h.hold.tid ≡ t → to_come (replay o es) (Some h) ≡ None
  undecided q part h is hold tid =
      let is' : part_asked es t q ≡ Some part = subst (λ (x : Tid). part_asked es x q ≡ Some part) tid is in
      let home : h.hold.home ≡ p = ap (λ (x : Hold). x.home) (sym hold) ∙ home_of q part is' in
      let none : (replay o es h.hold.home).decided h.hold.tid ≡ None =
      subst (λ (x : Tid). (replay o es h.hold.home).decided x ≡ None) (sym tid)
      (subst (λ x. (replay o es x).decided t ≡ None) (sym home) free) in
      rw none refl

  -- each page that a part read is as it read it
  current : (q : ℕ) (part : Part) (n v : ℕ) → part_asked es t q ≡ Some part → read_at part.reads n ≡ Some v →
      IsCurrent (replay o es) q n v
  current q part n v is reads = at (written_at part.writes n) refl (holds q part n v is reads)
    where
      same_version : (ask : Part) → part_asked es t q ≡ Some ask → read_at ask.reads n ≡ Some ((replay o es q).slot n).version →
          ((replay o es q).slot n).version ≡ v
      same_version ask ask_is at_version =
          let same : ask ≡ part = some_same (part_asked es t q) ask part ask_is is in
          some_same (read_at part.reads n) ((replay o es q).slot n).version v
          (subst (λ (x : Part). read_at x.reads n ≡ Some ((replay o es q).slot n).version) same at_version) reads

      no_writer : (h : Hold) → IsIn h ((replay o es q).slot n).readers → (x : Option WriteHold) →
          ((replay o es q).slot n).writer ≡ x → to_come (replay o es) x ≡ None
      no_writer h within None x_is = refl
      no_writer h within (Some g) x_is = absurd ((old.slots q n).alone g h x_is within)

      at : (w : Option (List ℕ)) → written_at part.writes n ≡ w →
          HoldsAt ((replay o es q).slot n) t (written_at part.writes n) → IsCurrent (replay o es) q n v
      at None w_is hold =
          let hold' : has_reader t ((replay o es q).slot n).readers ≡ true =
          subst (λ w. HoldsAt ((replay o es q).slot n) t w) w_is hold in
          let h = has_in t ((replay o es q).slot n).readers hold' in
          let g = (old.slots q n).reader h.0 h.1 in
          let ask_is : part_asked es t q ≡ Some g.ask = subst (λ (x : Tid). part_asked es x q ≡ Some g.ask) h.2 g.is in
          record {
            version_is = same_version g.ask ask_is g.reads;
            none_comes = no_writer h.0 h.1 ((replay o es q).slot n).writer refl;
          }
      at (Some page) w_is hold =
          let hold' : HoldsAt ((replay o es q).slot n) t (Some page) =
          subst (λ w. HoldsAt ((replay o es q).slot n) t w) w_is hold in
          let g = (old.slots q n).writer hold'.0 hold'.1 in
          let ask_is : part_asked es t q ≡ Some g.ask = subst (λ (x : Tid). part_asked es x q ≡ Some g.ask) hold'.2 g.is in
          record {
            version_is = same_version g.ask ask_is g.reads;
            none_comes = ap (to_come (replay o es)) hold'.1 ∙ undecided q g.ask hold'.0 g.is g.hold_is hold'.2;
          }

  pub decide_reads : ReadsCommitted (replay o es) (all_effect o es t en)
  decide_reads = record {
    version_is = λ s v h. version s v (part_asked es t s.store) refl h;
    page_is = λ s v h. page s v (part_asked es t s.store) refl h;
    no_more = λ s h. nothing s (part_asked es t s.store) h;
    are_read = λ s h. read s (part_asked es t s.store) refl h;
  }
    where
      version : (s : Slot) (v : ℕ) (x : Option Part) → part_asked es t s.store ≡ x → versions_of_part x s.number ≡ Some v →
          (committed (replay o es) s).version ≡ v
      version s v None is h = absurd cc
      version s v (Some part) is h =
          ap (λ (c : Committed). c.version)
          (current_committed (replay o es) s.store s.number v (current s.store part s.number v is h))

      page : (s : Slot) (v : ℕ) (x : Option Part) → part_asked es t s.store ≡ x → versions_of_part x s.number ≡ Some v →
          reads_of_part (content_at o es) x s ≡ Some (shown (replay o es) s)
      page s v None is h = absurd cc
      page s v (Some part) is h =
          ap (read_then (content_at o es) s.store s.number) h ∙
          current_known o es s.store s.number v (current s.store part s.number v is h)

      nothing : (s : Slot) (x : Option Part) → versions_of_part x s.number ≡ None →
          reads_of_part (content_at o es) x s ≡ None
      nothing s None h = refl
      nothing s (Some part) h = ap (read_then (content_at o es) s.store s.number) h

      read : (s : Slot) (x : Option Part) → part_asked es t s.store ≡ x → IsSome (writes_of_part x s) →
          IsSome (versions_of_part x s.number)
      read s None is h = absurd cc
      read s (Some part) is h = (before.agree t s.store part is).accesses.are_read s.number h

  own_hold_at : (q n : ℕ) (page : List ℕ) → writes_of_all es t (slot_at q n) ≡ Some page →
      HoldsAt ((replay o es q).slot n) t (Some page)
  own_hold_at q n page is = at (part_asked es t q) refl is
    where
      at : (x : Option Part) → part_asked es t q ≡ x → writes_of_part x (slot_at q n) ≡ Some page →
          HoldsAt ((replay o es q).slot n) t (Some page)
      at None x_is h = absurd cc
      at (Some part) x_is h =
          let a = before.agree t q part x_is in
          let r = some_of (read_at part.reads n) (a.accesses.are_read n (is_some_by (written_at part.writes n) page h)) in
          subst (λ w. HoldsAt ((replay o es q).slot n) t w) h (holds q part n r.0 x_is r.1)

  -- the world after the decision
  abbrev decided : World
  decided = put (replay o es) p (after_decide None (replay o es p) t (Commit en))

  now_committed : (h : Hold) → h.home ≡ p → h.tid ≡ t → commits ((decided h.home).decided h.tid) ≡ true
  now_committed h home tid = rw (home, tid, eq_self p, same_self t) refl

  pub pages_commit : committed (put (replay o es) p (after_decide None (replay o es p) t (Commit en))) ≡
      with_writes (writes_of_all es t) (committed (replay o es))
  pages_commit = page_all (replay o es) p (after_decide None (replay o es p) t (Commit en)) (writes_of_all es t)
      (λ n. one p n ((replay o es p).slot n).writer refl (writes_of_all es t (slot_at p n)) refl)
      (λ q n ne. one q n ((replay o es q).slot n).writer refl (writes_of_all es t (slot_at q n)) refl)
    where
      one : (q n : ℕ) (x : Option WriteHold) → ((replay o es q).slot n).writer ≡ x → (w : Option (List ℕ)) →
          writes_of_all es t (slot_at q n) ≡ w →
          standing (to_come decided x) ((replay o es q).slot n) ≡
          rewritten w (standing (to_come (replay o es) x) ((replay o es q).slot n))
      one q n None is None w_is = refl
      one q n None is (Some page) w_is = let h = own_hold_at q n page w_is in absurd (none_some is h.1)
      one q n (Some h) is w w_is = by (is_same t h.hold.tid) refl w w_is
        where
          by : (d : Bool) → is_same t h.hold.tid ≡ d → (w : Option (List ℕ)) → writes_of_all es t (slot_at q n) ≡ w →
              standing (to_come decided (Some h)) ((replay o es q).slot n) ≡
              rewritten w (standing (to_come (replay o es) (Some h)) ((replay o es q).slot n))
          by true tid w w_is =
              let t_is : h.hold.tid ≡ t = sym (same_true t h.hold.tid tid) in
              let f = (old.slots q n).writer h is in
              let ask : part_asked es t q ≡ Some f.ask = subst (λ (x : Tid). part_asked es x q ≡ Some f.ask) t_is f.is in
              let all : writes_of_all es t (slot_at q n) ≡ Some h.content =
              ap (λ x. writes_of_part x (slot_at q n)) ask ∙ f.writes in
              let home : h.hold.home ≡ p = ap (λ (x : Hold). x.home) (sym f.hold_is) ∙ home_of q f.ask ask in
              let now : to_come decided (Some h) ≡ Some h.content = rw (now_committed h.hold home t_is) refl in
              let none : to_come (replay o es) (Some h) ≡ None = undecided q f.ask h f.is f.hold_is t_is in
              let w_all : w ≡ Some h.content = sym w_is ∙ all in
              ap (λ x. standing x ((replay o es q).slot n)) now ∙
              sym (ap (λ x. rewritten x (standing (to_come (replay o es) (Some h)) ((replay o es q).slot n))) w_all ∙
              ap (λ x. rewritten (Some h.content) (standing x ((replay o es q).slot n))) none)
          by false tid None w_is = rw (decided_other es e (replay o es) old asks p t
              (after_decide None (replay o es p) t (Commit en)) (Commit en) refl h.hold
              (λ home t_is. not_both (let s : is_same t h.hold.tid ≡ true = rw t_is (same_self t) in s) tid)) refl
          by false tid (Some page) w_is =
              let g = own_hold_at q n page w_is in
              let same : g.0 ≡ h = some_same ((replay o es q).slot n).writer g.0 h g.1 is in
              let t_is : h.hold.tid ≡ t = ap (λ (x : WriteHold). x.hold.tid) (sym same) ∙ g.2 in
              absurd (not_both (let s : is_same t h.hold.tid ≡ true = rw t_is (same_self t) in s) tid)
