-- What a transaction hands down is what it knows, and may be committed.
use Rattle.std.proofs.Common.{◌≡◌, ℕ, ◌<◌, ◌≤◌, ◌==◌, Bool, true, false, cond, List, [], ◌∷◌, Option, Some, None, IsSome, ◌⊎◌}
use Rattle.std.proofs.Common.{inl, inr, refl, ap, sym, ◌∙◌, subst, arith}
use Rattle.std.specs.Prelude.{Contains}
use mathlib.Core.Path.{fun_ext}
use Rattle.std.proofs.lemmas.List.Elements.{Contains-append_cases, Contains-push_cases}
use Rattle.pair_types.specs.declared.slot.Slot.{Slot}
use Rattle.pair_types.specs.declared.slot.Tid.{Tid}
use Rattle.pair_types.specs.PageMaps.{PageMap, ReadMap}
use Rattle.nfs3_types.specs.declared.entry.Entry.{Entry}
use Rattle.page_types.specs.Journals.{Origin}
use Rattle.page_types.specs.Fair.{Known, seen, read_then, AreKnown, IsOwnEntry, IsRight}
use Rattle.page_types.specs.Ports.{PortState}
use Rattle.two_phase.specs.declared.parts.Part.{Part}
use Rattle.two_phase.specs.Parts.{StoresRise, part_at, reads_at, writes_at, reads_among, writes_among, IsTransaction}
use Rattle.two_phase.specs.declared.closing.Commit.{Commit}
use Rattle.two_phase.specs.declared.closing.Commit.TheVariants.{Fault}
use Rattle.two_phase.specs.Commits.{Commits}
use Rattle.two_phase.proofs.Basics.{eq_self, eq_true}
use Rattle.two_phase.proofs.Several.{commits_none}
use Rattle.std.specs.BTreeMap.{IsOrdered}
use Rattle.pair_types.specs.MemPages.{place_cmp}
use Rattle.pair_types.specs.declared.fault.StepFault.TheVariants.{NoMemory}
use Rattle.page_txn.specs.declared.row.Row.{Row}
use Rattle.page_txn.specs.Rows.{Rows, row_at, version_of, content_of, reads_of, writes_of}
use Rattle.page_txn.specs.Since.{Standing}
use Rattle.page_txn.specs.Parts.{version_at, content_at, parts_below, or_nothing, ArePartsOf, IsHandable, CommitsRows}
use Rattle.page_txn.proofs.Parting.{are_parts}

-- ## The part of a store

not_in_none : (part : Part) → Contains {X = Part} [] part → ⊥
not_in_none part c = let lt = c.1 in omega (arith, lt)

-- a part in a list is the first or in the rest
first_or_rest : (x : Part) (xs : List Part) (part : Part) → Contains (x ∷ xs) part → (x ≡ part) ⊎ Contains xs part
first_or_rest x xs part c = at (Contains-append_cases (x ∷ []) xs part c)
  where
    one : Contains {X = Part} [] part ⊎ (x ≡ part) → (x ≡ part) ⊎ Contains xs part
    one (inl none) = absurd (not_in_none part none)
    one (inr same) = inl same

    at : Contains (x ∷ []) part ⊎ Contains xs part → (x ≡ part) ⊎ Contains xs part
    at (inl c) = one (Contains-push_cases [] x part c)
    at (inr c) = inr c

rise_above : (x : Part) (xs : List Part) → StoresRise (x ∷ xs) → (part : Part) → Contains xs part → x.store < part.store
rise_above x [] h part c = absurd (not_in_none part c)
rise_above x (y ∷ ys) h part c = at (first_or_rest y ys part c) (λ rest. rise_above y ys h.1 part rest)
  where
    at : (y ≡ part) ⊎ Contains ys part → (Contains ys part → y.store < part.store) → x.store < part.store
    at (inl same) more = subst (λ (p : Part). x.store < p.store) same h.0
    at (inr rest) more = let a = h.0 in let b = more rest in omega (arith, a, b)

rise_rest : (x : Part) (xs : List Part) → StoresRise (x ∷ xs) → StoresRise xs
rise_rest x [] h = tt
rise_rest x (y ∷ ys) h = h.1

pub part_found : (parts : List Part) → StoresRise parts → (part : Part) → Contains parts part →
    part_at parts part.store ≡ Some part
part_found [] h part c = absurd (not_in_none part c)
part_found (x ∷ xs) h part c =
    at (first_or_rest x xs part c) (λ rest. part_found xs (rise_rest x xs h) part rest)
  where
    apart : Contains xs part → part_at xs part.store ≡ Some part → (b : Bool) → (x.store == part.store) ≡ b →
        cond b (Some x) (part_at xs part.store) ≡ Some part
    apart rest found true is = absurd (let same = eq_true x.store part.store is in
        let up = rise_above x xs h part rest in omega (arith, same, up))
    apart rest found false is = found

    at : (x ≡ part) ⊎ Contains xs part → (Contains xs part → part_at xs part.store ≡ Some part) →
        cond (x.store == part.store) (Some x) (part_at xs part.store) ≡ Some part
    at (inl same) more = subst (λ (p : Part). cond (x.store == p.store) (Some x) (part_at xs p.store) ≡ Some p) same
        (rw (eq_self x.store) refl)
    at (inr rest) more = apart rest (more rest) (x.store == part.store) refl

-- ## What is handed down

reads_by : (known : Known) (o : Option Part) (s : Slot) →
    reads_at known o s ≡ read_then known s.store s.number (version_at o s.number)
reads_by known None s = refl
reads_by known (Some part) s = refl

writes_by : (o : Option Part) (s : Slot) → writes_at o s ≡ content_at o s.number
writes_by None s = refl
writes_by (Some part) s = refl

module _ (start p : PortState) (tid : Tid) (rows : Rows) (parts : List Part) (stands_so : Standing start p tid rows)
    (are : ArePartsOf p.origin.stores rows parts) where
  known_row : (s : Slot) (o : Option Row) → row_at rows s ≡ o →
      read_then (seen p.mine) s.store s.number (version_of o) ≡ content_of o
  known_row s None is = refl
  known_row s (Some row) is = (stands_so.rows_of s row is).known

  reads_handed : reads_among (seen p.mine) parts ≡ reads_of rows
  reads_handed = fun_ext (λ s.
      reads_by (seen p.mine) (part_at parts s.store) s
      ∙ (ap (λ (o : Option ℕ). read_then (seen p.mine) s.store s.number o) (are.versions s)
      ∙ known_row s (row_at rows s) refl))

  writes_handed : writes_among parts ≡ writes_of rows
  writes_handed = fun_ext (λ s. writes_by (part_at parts s.store) s ∙ are.writes s)

  pub handed_known : (part : Part) → Contains parts part → AreKnown (seen p.mine) part.store part.reads
  handed_known part c number version is =
      let s : Slot = record { store = part.store; number = number } in
      let version_is : Some version ≡ version_of (row_at rows s) =
      sym is ∙ (ap (λ (o : Option Part). version_at o number) (sym (part_found parts are.rise part c)) ∙ are.versions s) in
      at s (row_at rows s) refl version_is
    where
      at : (s : Slot) (o : Option Row) → row_at rows s ≡ o → Some version ≡ version_of o →
          IsSome (seen p.mine s.store s.number version)
      at s None none is = absurd cc
      at s (Some row) has is =
          let same : row.version ≡ version = cc in
          subst (λ (v : ℕ). IsSome (seen p.mine s.store s.number v)) same
          (subst (λ (o : Option (Option (List ℕ))). IsSome o) (sym (stands_so.rows_of s row has).known) refl)

  pub handed : {S : Type 0} (stands : Origin → PageMap → S → Type 0) (next : S → List ℕ → Entry → S → Type 0)
      (served : Option Entry) → IsOwnEntry tid served →
      IsRight (stands p.origin) next (reads_of rows) (writes_of rows) served →
      IsTransaction stands next p tid parts served
  handed stands next served entry right = record {
    of_pass = stands_so.of_pass;
    fresh = stands_so.fresh;
    some = are.some;
    rise = are.rise;
    below = are.below;
    accesses = are.accesses;
    are_known = handed_known;
    entry = entry;
    right = subst (λ (r : ReadMap). IsRight (stands p.origin) next r (writes_among parts) served) (sym reads_handed)
        (subst (λ (w : PageMap). IsRight (stands p.origin) next (reads_of rows) w served) (sym writes_handed) right);
  }

-- ## The commit

module _ {S : Type 0} (stands : Origin → PageMap → S → Type 0) (next : S → List ℕ → Entry → S → Type 0) where
  pub handable : (start p : PortState) (tid : Tid) (rows : Rows) (served : Option Entry) → Standing start p tid rows →
      IsOwnEntry tid served → IsRight (stands p.origin) next (reads_of rows) (writes_of rows) served →
      IsHandable stands next p tid rows served
  handable start p tid rows served so entry right = record {
    within = λ s row is. (so.rows_of s row is).within;
    transaction = λ parts are. handed start p tid rows parts so are stands next served entry right;
  }

  module _ (p : PortState) (tid : Tid) (rows : Rows) (served : Option Entry) (h : IsHandable stands next p tid rows served)
      (order : IsOrdered place_cmp rows) (stores : ℕ) (stores_is : stores ≡ p.origin.stores) (some : 1 ≤ stores) where
    are_these : ArePartsOf p.origin.stores rows (or_nothing (parts_below rows.entries stores))
    are_these = subst (λ (n : ℕ). ArePartsOf n rows (or_nothing (parts_below rows.entries stores))) stores_is
        (are_parts stores rows order (λ s row is. subst (λ (n : ℕ). s.store < n) (sym stores_is) (h.within s row is)) some)

    pub parts_handed : (parts : List Part) → parts ≡ or_nothing (parts_below rows.entries stores) →
        ArePartsOf p.origin.stores rows parts
    parts_handed parts is = subst (λ (l : List Part). ArePartsOf p.origin.stores rows l) (sym is) are_these

    pub commits_lacking : CommitsRows p p tid rows served (Fault NoMemory)
    commits_lacking = record {
      parts = or_nothing (parts_below rows.entries stores);
      are = are_these;
      commits = commits_none stands next p tid (or_nothing (parts_below rows.entries stores)) served
          (h.transaction (or_nothing (parts_below rows.entries stores)) are_these);
    }

pub commits_rows : (old new : PortState) (tid : Tid) (rows : Rows) (served : Option Entry) (result : Commit)
    (parts : List Part) → ArePartsOf old.origin.stores rows parts → Commits old new tid parts served result →
    CommitsRows old new tid rows served result
commits_rows old new tid rows served result parts are commits = record { parts = parts; are = are; commits = commits }
