-- Names of a directory, found by name and by cookie, where one was added or dropped.
use Rattle.std.proofs.Common.{◌≡◌, ◌≢◌, ℕ, zero, suc, ◌+◌, ◌<◌, ◌≤◌, ◌==◌, Bool, true, false, not, if◌then◌else◌, List, [], ◌∷◌}
use Rattle.std.proofs.Common.{◌++◌}
use Rattle.std.proofs.Common.{Option, Some, None, refl, sym, ◌∙◌, ap, subst, arith, length}
use Rattle.std.proofs.lemmas.Bool.{eqb-true, eqb-false, eq-eqb}
use Rattle.std.specs.Prelude.{⊤, All, find, filter, slice_index_or}
use Rattle.std.specs.Str.{bytes_eq}
use Rattle.pairs.proofs.VersionsLaws.{is-same, same-is, other-is}
use Rattle.fs_rules.specs.declared.name_entry.NameEntry.{NameEntry}
use Rattle.fs_rules.specs.Names.{has_name, named}
use Rattle.fs_rules.specs.Sound.{Rise, Lacks, AreDistinct}
use Rattle.fs_shows.specs.Nodes.{numbered}

-- ---- lists

pub all-cons : {X : Type 0} (P : X → Type 0) (x : X) (xs : List X) → P x → All P xs → All P (x ∷ xs)
all-cons P x xs here there zero d less = here
all-cons P x xs here there (suc k) d less = there k d (omega (arith, less))

pub all-tail : {X : Type 0} (P : X → Type 0) (x : X) (xs : List X) → All P (x ∷ xs) → All P xs
all-tail P x xs all k d less = all (suc k) d (omega (arith, less))

pub all-weaker : {X : Type 0} (P Q : X → Type 0) (xs : List X) → ((x : X) → P x → Q x) → All P xs → All Q xs
all-weaker P Q xs weaker all k d less = weaker (slice_index_or xs k d) (all k d less)

find-last : {X : Type 0} (p : X → Bool) (xs : List X) (e : X) → find p xs ≡ None → p e ≡ true → find p (xs ++ e ∷ []) ≡ Some e
find-last p [] e none is = rw is refl
find-last p (x ∷ xs) e none is = by_test (p x) none (λ more. find-last p xs e more is)
  where
    by_test : (u : Bool) → (if u then Some x else find p xs) ≡ None → (find p xs ≡ None → find p (xs ++ e ∷ []) ≡ Some e)
        → (if u then Some x else find p (xs ++ e ∷ [])) ≡ Some e
    by_test true none more = cc
    by_test false none more = more none

find-skip : {X : Type 0} (p : X → Bool) (xs : List X) (e : X) → p e ≡ false → find p (xs ++ e ∷ []) ≡ find p xs
find-skip p [] e is = rw is refl
find-skip p (x ∷ xs) e is = by_test (p x) (find-skip p xs e is)
  where
    by_test : (u : Bool) → find p (xs ++ e ∷ []) ≡ find p xs
        → (if u then Some x else find p (xs ++ e ∷ [])) ≡ (if u then Some x else find p xs)
    by_test true same = refl
    by_test false same = same

-- all that is sought is kept
find-filter : {X : Type 0} (p keep : X → Bool) (xs : List X) → All (λ x. p x ≡ true → keep x ≡ true) xs → find p
    (filter keep xs) ≡ find p xs
find-filter p keep [] all = refl
find-filter p keep (x ∷ xs) all =
    by_test (keep x) (p x) refl (all 0 x (omega arith))
    (find-filter p keep xs (all-tail (λ x. p x ≡ true → keep x ≡ true) x xs all))
  where
    by_test : (u w : Bool) → p x ≡ w → (w ≡ true → u ≡ true) → find p (filter keep xs) ≡ find p xs
        → find p (if u then x ∷ filter keep xs else filter keep xs) ≡ (if w then Some x else find p xs)
    by_test true w is kept same = rw is (ap (λ (o : Option _). if w then Some x else o) same)
    by_test false true is kept same = absurd (differs (kept refl))
      where
        differs : false ≡ true → ⊥
        differs e = cc
    by_test false false is kept same = same

-- nothing that is sought is kept
find-filtered : {X : Type 0} (p keep : X → Bool) (xs : List X) → All (λ x. p x ≡ true → keep x ≡ false) xs → find p
    (filter keep xs) ≡ None
find-filtered p keep [] all = refl
find-filtered p keep (x ∷ xs) all =
    by_test (keep x) (p x) refl (all 0 x (omega arith))
    (find-filtered p keep xs (all-tail (λ x. p x ≡ true → keep x ≡ false) x xs all))
  where
    by_test : (u w : Bool) → p x ≡ w → (w ≡ true → u ≡ false) → find p (filter keep xs) ≡ None
        → find p (if u then x ∷ filter keep xs else filter keep xs) ≡ None
    by_test false w is lost none = none
    by_test true true is lost none = absurd (differs (lost refl))
      where
        differs : true ≡ false → ⊥
        differs e = cc
    by_test true false is lost none = rw is none

-- ---- a name more

abbrev pub entry_of : ℕ → List ℕ → ℕ → NameEntry
entry_of cookie name fileid = record { cookie = cookie; name = name; fileid = fileid }

pub named-added : (name : List ℕ) (cookie fileid : ℕ) (names : List NameEntry) → named name names ≡ None
    → named name (names ++ entry_of cookie name fileid ∷ []) ≡ Some (entry_of cookie name fileid)
unfolding named has_name
named-added name cookie fileid names none = find-last (λ e. bytes_eq e.name name) names (entry_of cookie name fileid) none
    (is-same name)

pub named-beside : (name other : List ℕ) (cookie fileid : ℕ) (names : List NameEntry) → other ≢ name
    → named other (names ++ entry_of cookie name fileid ∷ []) ≡ named other names
unfolding named has_name
named-beside name other cookie fileid names differs =
    find-skip (λ e. bytes_eq e.name other) names (entry_of cookie name fileid) (other-is name other (λ is. differs (sym is)))

pub numbered-added : (name : List ℕ) (cookie fileid : ℕ) (names : List NameEntry) → numbered cookie names ≡ None
    → numbered cookie (names ++ entry_of cookie name fileid ∷ []) ≡ Some (entry_of cookie name fileid)
unfolding numbered
numbered-added name cookie fileid names none = find-last (λ e. e.cookie == cookie) names (entry_of cookie name fileid) none
    (eq-eqb cookie cookie refl)

pub numbered-beside : (name : List ℕ) (cookie other fileid : ℕ) (names : List NameEntry) → other ≢ cookie
    → numbered other (names ++ entry_of cookie name fileid ∷ []) ≡ numbered other names
unfolding numbered
numbered-beside name cookie other fileid names differs =
    find-skip (λ e. e.cookie == other) names (entry_of cookie name fileid) (not-equal cookie other (λ is. differs (sym is)))
  where
    not-equal : (a b : ℕ) → a ≢ b → (a == b) ≡ false
    not-equal a b differs = by_test (a == b) refl
      where
        by_test : (u : Bool) → (a == b) ≡ u → (a == b) ≡ false
        by_test true is = absurd (differs (eqb-true a b is))
        by_test false is = is

-- cookies that rise are below the next
pub rise-below : (least next : ℕ) (names : List NameEntry) → Rise least next names → All (λ e. e.cookie < next) names
unfolding Rise
rise-below least next [] rise = λ k d less. absurd (omega (arith, less))
rise-below least next (e ∷ names) rise =
    all-cons (λ e. e.cookie < next) e names (head (e.cookie + 1) names (omega arith) rise.1)
    (rise-below (e.cookie + 1) next names rise.1)
  where
    head : (from : ℕ) (names : List NameEntry) → e.cookie < from → Rise from next names → e.cookie < next
    head from [] less rise = omega (arith, less, rise)
    head from (f ∷ names) less rise = head (f.cookie + 1) names (omega (arith, less, rise.0)) rise.1

pub rise-above : (least next : ℕ) (names : List NameEntry) → Rise least next names → All (λ e. least ≤ e.cookie) names
unfolding Rise
rise-above least next [] rise = λ k d less. absurd (omega (arith, less))
rise-above least next (e ∷ names) rise =
    all-cons (λ e. least ≤ e.cookie) e names rise.0
    (all-weaker (λ f. e.cookie + 1 ≤ f.cookie) (λ f. least ≤ f.cookie) names (λ f up. omega (arith, up, rise.0))
    (rise-above (e.cookie + 1) next names rise.1))

-- no entry has the next cookie
pub next-is-fresh : (least next : ℕ) (names : List NameEntry) → Rise least next names → numbered next names ≡ None
unfolding numbered
next-is-fresh least next names rise = none names (rise-below least next names rise)
  where
    none : (names : List NameEntry) → All (λ e. e.cookie < next) names → find (λ e. e.cookie == next) names ≡ None
    none [] all = refl
    none (e ∷ names) all = by_test (e.cookie == next) refl (none names (all-tail (λ e. e.cookie < next) e names all))
      where
        by_test : (u : Bool) → (e.cookie == next) ≡ u → find (λ e. e.cookie == next) names ≡ None
            → (if u then Some e else find (λ e. e.cookie == next) names) ≡ None
        by_test true is more = let below : e.cookie < next = all 0 e (omega arith) in absurd
            (omega (arith, below, eqb-true e.cookie next is))
        by_test false is more = more

-- ---- a name less

-- one entry alone has the name, and it alone has its cookie
pub record IsAlone (name : List ℕ) (cookie : ℕ) (e : NameEntry) : Type 0 where
  pub by_name : bytes_eq e.name name ≡ true → e.cookie ≡ cookie
  pub by_cookie : e.cookie ≡ cookie → bytes_eq e.name name ≡ true

found-holds : {X : Type 0} (p : X → Bool) (P : X → Type 0) (xs : List X) (s : X) → All P xs → find p xs ≡ Some s → P s
found-holds p P [] s all is = absurd (cc)
found-holds p P (x ∷ xs) s all is = by_test (p x) is (found-holds p P xs s (all-tail P x xs all))
  where
    by_test : (u : Bool) → (if u then Some x else find p xs) ≡ Some s → (find p xs ≡ Some s → P s) → P s
    by_test true is more = let same : x ≡ s = cc in subst P same (all 0 x (omega arith))
    by_test false is more = more is

pub alone-names : (least next : ℕ) (names : List NameEntry) (name : List ℕ) (s : NameEntry) → AreDistinct names
    → Rise least next names
    → named name names ≡ Some s → All (IsAlone name s.cookie) names
unfolding AreDistinct Rise named has_name
alone-names least next [] name s distinct rise is = absurd (cc)
alone-names least next (e ∷ names) name s distinct rise is =
    by_test (bytes_eq e.name name) refl is (λ more. alone-names (e.cookie + 1) next names name s distinct.1 rise.1 more)
  where
    above : All (λ f. e.cookie + 1 ≤ f.cookie) names
    above = rise-above (e.cookie + 1) next names rise.1

    by_test : (u : Bool) → bytes_eq e.name name ≡ u → (if u then Some e else find (λ e. bytes_eq e.name name) names) ≡ Some s
        → (find (λ e. bytes_eq e.name name) names ≡ Some s → All (IsAlone name s.cookie) names) → All (IsAlone name s.cookie)
        (e ∷ names)
    by_test true at is more =
        let same : e ≡ s = cc in
        let own : e.name ≡ name = same-is e.name name at in
        subst (λ (f : NameEntry). All (IsAlone name f.cookie) (e ∷ names)) same
        (all-cons (IsAlone name e.cookie) e names (record { by_name = λ at. refl; by_cookie = λ is. at })
        (λ k d less. record {
          by_name = λ there. absurd (differs (slice_index_or names k d).name own (distinct.0 k d less) there);
          by_cookie = λ there. absurd (omega (arith, above k d less, there));
        }))
      where
        differs : (other : List ℕ) → e.name ≡ name → bytes_eq other e.name ≡ false → bytes_eq other name ≡ true → ⊥
        differs other own p q =
            let r : bytes_eq other name ≡ false = subst (λ (x : List ℕ). bytes_eq other x ≡ false) own p in cc
    by_test false at is more =
        all-cons (IsAlone name s.cookie) e names (record {
          by_name = λ there. absurd (contradicts at there);
          by_cookie = λ there.
              let up : e.cookie + 1 ≤ s.cookie = found-holds (λ e. bytes_eq e.name name)
              (λ f. e.cookie + 1 ≤ f.cookie) names s above is in
              absurd (omega (arith, up, there));
        }) (more is)
      where
        contradicts : bytes_eq e.name name ≡ false → bytes_eq e.name name ≡ true → ⊥
        contradicts p q = cc

abbrev pub without : List ℕ → List NameEntry → List NameEntry
without name names = filter (λ e. not (has_name name e)) names

not-false : (u : Bool) → u ≡ false → not u ≡ true
not-false u is = rw is refl

not-true : (u : Bool) → u ≡ true → not u ≡ false
not-true u is = rw is refl

pub named-dropped : (name : List ℕ) (names : List NameEntry) → named name (without name names) ≡ None
unfolding named has_name
named-dropped name names =
    find-filtered (λ e. bytes_eq e.name name) (λ e. not (bytes_eq e.name name)) names
    (λ k d less is. not-true (bytes_eq (slice_index_or names k d).name name) is)

pub named-left : (name other : List ℕ) (names : List NameEntry) → other ≢ name → named other
    (without name names) ≡ named other names
unfolding named has_name
named-left name other names differs =
    find-filter (λ e. bytes_eq e.name other) (λ e. not (bytes_eq e.name name)) names
    (λ k d less is. not-false (bytes_eq (slice_index_or names k d).name name)
    (other-is (slice_index_or names k d).name name
    (λ own. differs (sym (same-is (slice_index_or names k d).name other is) ∙ own))))

pub numbered-dropped : (name : List ℕ) (cookie : ℕ) (names : List NameEntry) → All (IsAlone name cookie) names
    → numbered cookie (without name names) ≡ None
unfolding numbered has_name
numbered-dropped name cookie names alone =
    find-filtered (λ e. e.cookie == cookie) (λ e. not (bytes_eq e.name name)) names
    (λ k d less is. let a = alone k d less in
    not-true (bytes_eq (slice_index_or names k d).name name) (a.by_cookie (eqb-true (slice_index_or names k d).cookie cookie is)))

pub numbered-left : (name : List ℕ) (cookie other : ℕ) (names : List NameEntry) → All (IsAlone name cookie) names → other ≢ cookie
    → numbered other (without name names) ≡ numbered other names
unfolding numbered has_name
numbered-left name cookie other names alone differs =
    find-filter (λ e. e.cookie == other) (λ e. not (bytes_eq e.name name)) names
    (λ k d less is. let a = alone k d less in
    not-false (bytes_eq (slice_index_or names k d).name name)
    (by_test (bytes_eq (slice_index_or names k d).name name) refl (λ own.
    differs (sym (eqb-true (slice_index_or names k d).cookie other is) ∙ a.by_name own))))
  where
    by_test : {u : Bool} (w : Bool) → u ≡ w → (u ≡ true → ⊥) → u ≡ false
    by_test true is none = absurd (none is)
    by_test false is none = is
