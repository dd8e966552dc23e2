-- A transaction that goes on stands as it began.
use Rattle.std.proofs.Common.{◌≡◌, ℕ, ◌<◌, ◌≤◌, ◌-◌, true, false, [], Option, Some, None, IsSome, is_some, Result, Ok, Err}
use Rattle.std.proofs.Common.{◌⊎◌, inl, inr, refl, sym, ap, subst, arith, ◌∙◌, length, drop}
use mathlib.Core.Path.{fun_ext}
use Rattle.std.specs.List.{list_any}
use Rattle.std.specs.Prelude.{OnOk, IfErr, MatchResult}
use Rattle.std.specs.BTreeMap.{is_at, Updates}
use Rattle.pair_types.specs.declared.slot.Slot.{Slot}
use Rattle.pair_types.specs.declared.slot.Tid.{Tid}
use Rattle.pair_types.specs.declared.fault.PageFault.{PageFault}
use Rattle.pair_types.specs.MemPages.{place_cmp}
use Rattle.pair_types.specs.PageState.{Freshens, GivesUp, no_memory}
use Rattle.page_types.specs.Fair.{IsOfPass}
use Rattle.page_types.specs.Ports.{PortState}
use Rattle.two_phase.specs.Parts.{carries}
use Rattle.two_phase.proofs.Onwards.{onward_none}
use Rattle.page_txn.specs.declared.row.Row.{Row}
use Rattle.page_txn.specs.Rows.{Rows, row_at, content_of, written_of, nothing_read, nothing_written, reads_of, writes_of}
use Rattle.page_txn.specs.Causes.{state_by}
use Rattle.page_txn.specs.Since.{BeganAs, WasAnswered, IsRowOf, Standing}
use Rattle.page_txn.specs.Asking.{Asks, IsRead, IsFresh}
use Rattle.page_txn.specs.Learning.{Learned, IsAnsweredNow, MovesOn, At, LearnsRow, FreshensRow}
use Rattle.page_txn.proofs.Growing.{lasts_on, standing_on, standing_with, answered_new}
use Rattle.page_txn.proofs.Sequel.{Far, far_of}
use Rattle.page_txn.proofs.Learned.{place, is_or_not, some_same, gives_up, gives_up_same, learned, freshened}

-- ## Rows

rows_same : (before after : Rows) → after.entries ≡ before.entries → (s : Slot) → row_at after s ≡ row_at before s
rows_same before after same s = rw same refl

moves_same : (tid : Tid) (old new : PortState) (before after : Rows) → Far tid old new → after.entries ≡ before.entries →
    MovesOn tid old new before after
moves_same tid old new before after far same = record {
  part = far.part;
  onward = far.onward;
  foreign = far.foreign;
  rows_of = λ s row is. inl (sym (rows_same before after same s) ∙ is);
}

moves_more : (tid : Tid) (old new : PortState) (before after : Rows) (s : Slot) (row : Row) (far : Far tid old new) →
    Updates place_cmp before after (place s) (Some row) → IsAnsweredNow new s row far.part → MovesOn tid old new before after
moves_more tid old new before after s row far updates now = record {
  part = far.part;
  onward = far.onward;
  foreign = far.foreign;
  rows_of = λ t other has. at t other has (is_or_not s t);
}
  where
    at : (t : Slot) (other : Row) → row_at after t ≡ Some other →
        (t ≡ s) ⊎ (is_at (place_cmp (place s)) (place t) ≡ false) →
        (row_at before t ≡ Some other) ⊎ IsAnsweredNow new t other far.part
    at t other has (inl e) =
        let here : row_at after s ≡ Some other = subst (λ (u : Slot). row_at after u ≡ Some other) e has in
        inr (subst (λ (u : Slot). IsAnsweredNow new u other far.part) (sym e)
        (subst (λ (r : Row). IsAnsweredNow new s r far.part) (some_same row other (sym updates.1 ∙ here)) now))
    at t other has (inr e) = inl (sym (updates.2 (place t) e) ∙ has)

-- a transaction that moves on stands
pub standing_moved : (start old new : PortState) (tid : Tid) (before after : Rows) → Standing start old tid before →
    MovesOn tid old new before after → Standing start new tid after
standing_moved start old new tid before after stands m =
    standing_with start new tid before after
    (standing_on start old new m.part m.onward tid before m.foreign stands) (λ s row has. at s row (m.rows_of s row has))
  where
    at : (s : Slot) (row : Row) → (row_at before s ≡ Some row) ⊎ IsAnsweredNow new s row m.part → IsRowOf start new s row
    at s row (inl was) = (standing_on start old new m.part m.onward tid before m.foreign stands).rows_of s row was
    at s row (inr now) = record {
      within = now.within;
      answered = answered_new start old new m.part m.onward tid before m.foreign stands s row.version now.answered;
      known = now.known;
    }

-- a transaction that begins stands
pub standing_new : (start now : PortState) (tid : Tid) (rows : Rows) → now ≡ start → IsOfPass now.pass tid →
    list_any (carries tid) now.mine ≡ false → rows.entries ≡ [] → Standing start now tid rows
standing_new start now tid rows is of_pass fresh none = record {
  of_pass = of_pass;
  pass = ap (λ (p : PortState). p.pass) is;
  origin = ap (λ (p : PortState). p.origin) is;
  began = subst (λ (p : PortState). BeganAs p.mine now.mine) is
      (let e : length now.mine - length now.mine ≡ 0 = omega arith in ap (λ k. drop k now.mine) e);
  doubts = subst (λ (p : PortState). p.doubts ≤ now.doubts) is (omega arith);
  stops = subst (λ (p : PortState). p.stops ≤ now.stops) is (omega arith);
  fresh = fresh;
  rows_of = λ s row has. absurd (no_row s row has);
}
  where
    no_row : (s : Slot) (row : Row) → row_at rows s ≡ Some row → ⊥
    no_row s row has = let none_at : row_at rows s ≡ None = rw none refl in (let no : None ≡ Some row = sym none_at ∙ has in cc)

pub nothing_in : (rows : Rows) → rows.entries ≡ [] → (reads_of rows ≡ nothing_read) × (writes_of rows ≡ nothing_written)
nothing_in rows none = (
  fun_ext (λ s. let none_at : row_at rows s ≡ None = rw none refl in ap (λ (o : Option Row). content_of o) none_at),
  fun_ext (λ s. let none_at : row_at rows s ≡ None = rw none refl in ap (λ (o : Option Row). written_of o) none_at),
)

-- ## Slots that come to be known

some_known : (o : Option Row) → is_some o ≡ true → IsSome (content_of o)
some_known None h = cc
some_known (Some row) h = refl

module _ (tid : Tid) (old new : PortState) (before after : Rows) (s : Slot) where
  pub learned_already : is_some (row_at before s) ≡ true →
      LearnsRow tid (record { port = old; rows = before }) (record { port = old; rows = before }) s (Ok tt)
  learned_already has = record {
    moves = record { part = []; onward = onward_none old; foreign = refl; rows_of = λ t row is. inl is };
    ends = record {
      lasts = lasts_on tid old old [] before before (onward_none old);
      writes = refl;
      learns = record { known = some_known (row_at before s) has; kept = λ h. refl; others = λ t apart. refl };
    };
  }

  pub learn_failed : (fault : PageFault) → Asks (IsRead new.mine s) tid old new (Err fault) →
      LearnsRow tid (record { port = old; rows = before }) (record { port = new; rows = before }) s (Err fault)
  learn_failed fault x = record {
    moves = moves_same tid old new before before (far_of (IsRead new.mine s) tid old new (Err fault) x) refl;
    ends = gives_up tid old new (IsRead new.mine s) before fault x;
  }

  module _ (row : Row) (x : Asks (IsRead new.mine s) tid old new (Ok row)) where
    pub learn_lacking : after.entries ≡ before.entries →
        LearnsRow tid (record { port = old; rows = before }) (record { port = new; rows = after }) s (Err no_memory)
    learn_lacking same = record {
      moves = moves_same tid old new before after (far_of (IsRead new.mine s) tid old new (Ok row) x) same;
      ends = gives_up_same tid old new before after (far_of (IsRead new.mine s) tid old new (Ok row) x) same;
    }

    pub learned_now : s.store < old.origin.stores → row_at before s ≡ None →
        Updates place_cmp before after (place s) (Some row) →
        LearnsRow tid (record { port = old; rows = before }) (record { port = new; rows = after }) s (Ok tt)
    learned_now within none updates = record {
      moves = moves_more tid old new before after s row (far_of (IsRead new.mine s) tid old new (Ok row) x) updates (record {
        within = subst (λ (n : ℕ). s.store < n) (sym (ap (λ o. o.stores) x.onward.origin)) within;
        answered = x.ends.answered;
        known = x.ends.known_as;
      });
      ends = learned tid old new (far_of (IsRead new.mine s) tid old new (Ok row) x) before after s row none updates
          x.ends.unwritten;
    }

module _ (tid : Tid) (old new : PortState) (before after : Rows) (store : ℕ) where
  pub freshen_failed : (fault : PageFault) → Asks (IsFresh before store) tid old new (Err fault) →
      FreshensRow tid (record { port = old; rows = before }) (record { port = new; rows = before }) store (Err fault)
  freshen_failed fault x = record {
    moves = moves_same tid old new before before (far_of (IsFresh before store) tid old new (Err fault) x) refl;
    ends = gives_up tid old new (IsFresh before store) before fault x;
  }

  module _ (s : Slot) (x : Asks (IsFresh before store) tid old new (Ok s)) where
    pub freshen_lacking : after.entries ≡ before.entries →
        FreshensRow tid (record { port = old; rows = before }) (record { port = new; rows = after }) store (Err no_memory)
    freshen_lacking same = record {
      moves = moves_same tid old new before after (far_of (IsFresh before store) tid old new (Ok s) x) same;
      ends = gives_up_same tid old new before after (far_of (IsFresh before store) tid old new (Ok s) x) same;
    }

    pub freshened_now : (row : Row) → store < old.origin.stores → row.version ≡ 0 → row.content ≡ None → row.written ≡ None →
        Updates place_cmp before after (place s) (Some row) →
        FreshensRow tid (record { port = old; rows = before }) (record { port = new; rows = after }) store (Ok s)
    freshened_now row within none absent unwritten updates = record {
      moves = moves_more tid old new before after s row (far_of (IsFresh before store) tid old new (Ok s) x) updates (record {
        within = subst (λ (n : ℕ). s.store < n) (sym (ap (λ o. o.stores) x.onward.origin))
            (subst (λ (n : ℕ). n < old.origin.stores) (sym x.ends.store_is) within);
        answered = subst (λ (v : ℕ). WasAnswered s v x.part) (sym none) x.ends.absent;
        known = rw (none, absent) refl;
      });
      ends = freshened tid old new (far_of (IsFresh before store) tid old new (Ok s) x) before after s row x.ends.unknown
          updates store x.ends.store_is absent unwritten;
    }

-- ## By the result

pub learns_ok : (tid : Tid) (old new : At) (s : Slot) (r : Result Unit PageFault) → LearnsRow tid old new s r →
    OnOk r (Learned (state_by tid old.port old.rows) (state_by tid new.port new.rows) s)
learns_ok tid old new s (Ok done) x = x.ends
learns_ok tid old new s (Err fault) x = tt

pub learns_err : (tid : Tid) (old new : At) (s : Slot) (r : Result Unit PageFault) → LearnsRow tid old new s r →
    IfErr r (λ fault. GivesUp (state_by tid old.port old.rows) (state_by tid new.port new.rows) fault)
learns_err tid old new s (Ok done) x = tt
learns_err tid old new s (Err fault) x = x.ends

pub freshens_result : (tid : Tid) (old new : At) (store : ℕ) (r : Result Slot PageFault) → FreshensRow tid old new store r →
    MatchResult r (λ s. Freshens (state_by tid old.port old.rows) (state_by tid new.port new.rows) store s)
    (λ fault. GivesUp (state_by tid old.port old.rows) (state_by tid new.port new.rows) fault)
freshens_result tid old new store (Ok s) x = x.ends
freshens_result tid old new store (Err fault) x = x.ends
