-- Maps that get room, and take what there is room for.
use Rattle.std.proofs.Common.{◌≡◌, ◌≢◌, ℕ, zero, suc, ◌<◌, ◌+◌, Bool, true, false, cond, List, [], ◌∷◌, ◌++◌, Option, Some, None}
use Rattle.std.proofs.Common.{IsSome, unwrap_or, refl, ap, sym, ◌∙◌, subst, arith}
use Rattle.std.specs.Prelude.{◌==◌, if◌then◌else◌, slice_get, is_some}
use Rattle.std.specs.BTreeMap as tree
use Rattle.std.specs.BTreeMap.{BTreeMap, get, is_at, Updates}
use Rattle.std.specs.Ordering.{nat_cmp}
use Rattle.pair_types.specs.declared.slot.Tid.{Tid}
use Rattle.page_types.specs.Accesses.{is_same}
use Rattle.page_types.specs.Stores.{Kept, never_written}
use Rattle.page_store.specs.declared.row.Row.{Row}
use Rattle.page_store.specs.declared.row.Change.{Change}
use Rattle.page_store.specs.declared.party.Party.{Party}
use Rattle.page_store.specs.declared.party.Involved.{Involved}
use Rattle.page_store.specs.Rows.{kept_at, kept_of, row_of}
use Rattle.page_store.specs.Keeps.{kept_in, party_in, stranger, tid_cmp, changed, change_in, changed_by, concerned, IsReady}
use Rattle.page_store.specs.Keeps.{RowsStay, PartiesStay}
use Rattle.page_store.proofs.Tids.{at_number, at_tid, equal_numbers, same_tids}

some_if : (b : Bool) {X : Type 0} (x : X) (o : Option X) → IsSome o → IsSome (cond b (Some x) o)
some_if true x o h = refl
some_if false x o h = h

is_none : {X : Type 0} (o : Option X) → is_some o ≡ false → o ≡ None
is_none None h = refl
is_none (Some x) h = cc

-- a blank row, where there was none
pub blank_put : (old new : BTreeMap ℕ Row) (n : ℕ) → is_some (get nat_cmp old n) ≡ false
    → Updates nat_cmp old new n (Some (row_of never_written)) →
    RowsStay old new
blank_put old new n none updates = record {
  same = λ q. ap kept_at (updates.0 q) ∙ same q (is_at (nat_cmp n) q) (at_number n q);
  room = λ q h. subst (λ (o : Option Row). IsSome o) (sym (updates.0 q)) (some_if (is_at (nat_cmp n) q) (row_of never_written)
      (get nat_cmp old q) h);
}
  where
    same : (q : ℕ) (b : Bool) → b ≡ (n == q) → kept_at (cond b (Some (row_of never_written)) (get nat_cmp old q)) ≡ kept_in old q
    same q false is = refl
    same q true is =
        let e : n ≡ q = equal_numbers n q (sym is) in
        sym (ap kept_at (subst (λ m. get nat_cmp old m ≡ None) e (is_none (get nat_cmp old n) none)))

-- a stranger, where there was no party
pub stranger_put : (old new : BTreeMap (ℕ × ℕ) Party) (tid : Tid) → is_some (get tid_cmp old (tid.pass, tid.serial)) ≡ false →
    Updates tid_cmp old new (tid.pass, tid.serial) (Some stranger) → PartiesStay old new
stranger_put old new tid none updates = record {
  same = λ t. ap (λ (o : Option Party). unwrap_or o stranger) (updates.0 (t.pass, t.serial))
      ∙ same t (is_at (tid_cmp (tid.pass, tid.serial)) (t.pass, t.serial)) (at_tid tid t);
  room = λ p h. subst (λ (o : Option Party). IsSome o) (sym (updates.0 p)) (some_if (is_at (tid_cmp (tid.pass, tid.serial)) p)
      stranger (get tid_cmp old p) h);
}
  where
    same : (t : Tid) (b : Bool) → b ≡ is_same tid t → unwrap_or (cond b (Some stranger) (get tid_cmp old (t.pass, t.serial)))
        stranger ≡ party_in old t
    same t false is = refl
    same t true is =
        let e : tid ≡ t = same_tids tid t (sym is) in
        sym (ap (λ (o : Option Party). unwrap_or o stranger) (subst (λ (u : Tid). get tid_cmp old (u.pass, u.serial) ≡ None) e
        (is_none (get tid_cmp old (tid.pass, tid.serial)) none)))

-- one row is put
pub row_put : (old new : BTreeMap ℕ Row) (change : Change) → Updates nat_cmp old new change.number (Some change.row) → (q : ℕ) →
    kept_in new q ≡ changed_by change (kept_in old) q
row_put old new change updates q = ap kept_at (updates.0 q) ∙ by_place (is_at (nat_cmp change.number) q)
    (at_number change.number q)
  where
    by_place : (b : Bool) → b ≡ (change.number == q) → kept_at (cond b (Some change.row) (get nat_cmp old q)) ≡ changed_by change
        (kept_in old) q
    by_place true is = rw (← is) refl
    by_place false is = rw (← is) refl

pub row_stays : (old new : BTreeMap ℕ Row) (change : Change) → Updates nat_cmp old new change.number (Some change.row) → (q : ℕ) →
    IsSome (get nat_cmp old q) → IsSome (get nat_cmp new q)
row_stays old new change updates q h =
    subst (λ (o : Option Row). IsSome o) (sym (updates.0 q)) (some_if (is_at (nat_cmp change.number) q) change.row
    (get nat_cmp old q) h)

alone : (c : Change) (slot : Kept) (b : Bool) → changed (if b then Some c.row else None) slot ≡ (if b then kept_of c.row
    else slot)
alone c slot true = refl
alone c slot false = refl

last_by : (d : Change) (all rest : Option Row) (slot next : Kept) (b : Bool) → changed all slot ≡ changed rest next →
    changed (if b then Some d.row else all) slot ≡ changed (if b then Some d.row else rest) next
last_by d all rest slot next true later = refl
last_by d all rest slot next false later = later

-- the last of several changes is put first
pub last_change : (cs : List Change) (c : Change) (slots : ℕ → Kept) (n : ℕ) →
    changed (change_in (cs ++ c ∷ []) n) (slots n) ≡ changed (change_in cs n) (changed_by c slots n)
last_change [] c slots n = alone c (slots n) (c.number == n)
last_change (d ∷ cs) c slots n =
    last_by d (change_in (cs ++ c ∷ []) n) (change_in cs n) (slots n) (changed_by c slots n) (d.number == n)
    (last_change cs c slots n)

get_left : {X : Type 0} (xs ys : List X) (k : ℕ) (x : X) → slice_get xs k ≡ Some x → slice_get (xs ++ ys) k ≡ Some x
get_left [] ys k x h = absurd cc
get_left (y ∷ xs) ys zero x h = h
get_left (y ∷ xs) ys (suc k) x h = get_left xs ys k x h

-- one change less, one row more
pub put_last : (m n : BTreeMap ℕ Row) (all rest : List Change) (c : Change) → all ≡ rest ++ c ∷ [] →
    ((q : ℕ) → kept_in n q ≡ changed_by c (kept_in m) q) → (q : ℕ) →
    changed (change_in rest q) (kept_in n q) ≡ changed (change_in all q) (kept_in m q)
put_last m n all rest c is here q =
    ap (λ (k : Kept). changed (change_in rest q) k) (here q) ∙ (sym (last_change rest c (kept_in m) q) ∙
    ap (λ (l : List Change). changed (change_in l q) (kept_in m q)) (sym is))

pub ready_rest : (m n : BTreeMap ℕ Row) (all rest : List Change) (c : Change) → all ≡ rest ++ c ∷ [] → IsReady m all →
    ((q : ℕ) → IsSome (get nat_cmp m q) → IsSome (get nat_cmp n q)) → IsReady n rest
ready_rest m n all rest c is ready room k d found =
    room d.number (ready k d (subst (λ (l : List Change). slice_get l k ≡ Some d) (sym is) (get_left rest (c ∷ []) k d found)))

-- a party is put
pub party_put : (old new : BTreeMap (ℕ × ℕ) Party) (tid : Tid) (party : Party) → Updates tid_cmp old new (tid.pass, tid.serial)
    (Some party) → (t : Tid) →
    party_in new t ≡ unwrap_or (concerned (Some (record { tid = tid; party = party })) t) (party_in old t)
party_put old new tid party updates t =
    ap (λ (o : Option Party). unwrap_or o stranger) (updates.0 (t.pass, t.serial)) ∙
    by_test (is_at (tid_cmp (tid.pass, tid.serial)) (t.pass, t.serial)) (at_tid tid t)
  where
    by_test : (b : Bool) → b ≡ is_same tid t → unwrap_or (cond b (Some party) (get tid_cmp old (t.pass, t.serial))) stranger
        ≡ unwrap_or (concerned (Some (record { tid = tid; party = party })) t) (party_in old t)
    by_test true is = rw (← is) refl
    by_test false is = rw (← is) refl

pub party_stays : (old new : BTreeMap (ℕ × ℕ) Party) (tid : Tid) (party : Party) → Updates tid_cmp old new (tid.pass, tid.serial)
    (Some party) → (place : ℕ × ℕ) →
    IsSome (get tid_cmp old place) → IsSome (get tid_cmp new place)
party_stays old new tid party updates place h =
    subst (λ (o : Option Party). IsSome o) (sym (updates.0 place))
    (some_if (is_at (tid_cmp (tid.pass, tid.serial)) place) party (get tid_cmp old place) h)
