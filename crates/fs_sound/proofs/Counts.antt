-- Counts of names, and what holds of the names of a directory.
use Rattle.std.proofs.Common.{◌≡◌, ℕ, ◌+◌, ◌≤◌, ◌==◌, Bool, true, false, cond, not, if◌then◌else◌, true≢false, List, [], ◌∷◌}
use Rattle.std.proofs.Common.{◌++◌, length, get_or, All, filter, find, bytes_eq, Some, None, is_some, refl, sym, ap, subst}
use Rattle.std.proofs.Common.{◌∙◌, arith}
use Rattle.std.proofs.lemmas.Bool.{eqb-false, eq-eqb, ne_eqb, false_from_ne_true}
use Rattle.std.proofs.lemmas.List.Elements.{All-nil, All-cons, All-head, All-tail, All-push, All-filter, All-weaker}
use Rattle.std.proofs.lemmas.Slice.Eq.{bytes_eq-Decides}
use Rattle.fs_rules.specs.Answers.{after}
use Rattle.fs_rules.specs.Names.{has_name, named}
use Rattle.fs_rules.specs.Sound.{AreDistinct, Lacks, count_of, is_some_directory, subdirectories}
use Rattle.fs_rules.specs.Tree.{Node, Nodes}
use Rattle.fs_rules.specs.declared.name_entry.NameEntry.{NameEntry}

-- ---- how many names pass a test

abbrev pub one_if : Bool → ℕ
one_if b = if b then 1 else 0

abbrev tally : (NameEntry → Bool) → List NameEntry → ℕ
tally p names = length (filter p names)

-- the names but for those of this name
abbrev pub without : List ℕ → List NameEntry → List NameEntry
without name names = filter (λ e. not (has_name name e)) names

long_by : (b : Bool) (e : NameEntry) (names : List NameEntry) → length (cond b (e ∷ names) names) ≡ one_if b + length names
long_by true e names = omega arith
long_by false e names = omega arith

tally-cons : (p : NameEntry → Bool) (e : NameEntry) (names : List NameEntry) → tally p (e ∷ names) ≡ one_if (p e) + tally p names
tally-cons p e names = long_by (p e) e (filter p names)

tally-append : (p : NameEntry → Bool) (names : List NameEntry) (e : NameEntry)
    → tally p (names ++ (e ∷ [])) ≡ tally p names + one_if (p e)
tally-append p [] e = omega (arith, tally-cons p e [])
tally-append p (x ∷ names) e = omega (arith, tally-cons p x (names ++ (e ∷ [])), tally-cons p x names, tally-append p names e)

tally-none : (p : NameEntry → Bool) (names : List NameEntry) → All (λ e. p e ≡ false) names → tally p names ≡ 0
tally-none p [] h = refl
tally-none p (e ∷ names) h =
    tally-cons p e names
    ∙ ap (λ (b : Bool). one_if b + tally p names) (All-head (λ e. p e ≡ false) e names h)
    ∙ omega (arith, tally-none p names (All-tail (λ e. p e ≡ false) e names h))

passes_not : (b : Bool) (n : ℕ) → one_if b + n ≡ 0 → b ≡ false
passes_not true n h = absurd (omega arith)
passes_not false n h = refl

none-tally : (p : NameEntry → Bool) (names : List NameEntry) → tally p names ≡ 0 → All (λ e. p e ≡ false) names
none-tally p [] h = All-nil (λ e. p e ≡ false)
none-tally p (e ∷ names) h =
    let both : one_if (p e) + tally p names ≡ 0 = sym (tally-cons p e names) ∙ h in
    All-cons (λ e. p e ≡ false) e names (passes_not (p e) (tally p names) both) (none-tally p names (omega arith))

tally-agree : (p q : NameEntry → Bool) (names : List NameEntry) → All (λ e. p e ≡ q e) names → tally p names ≡ tally q names
tally-agree p q [] h = refl
tally-agree p q (e ∷ names) h =
    tally-cons p e names
    ∙ ap (λ (b : Bool). one_if b + tally p names) (All-head (λ e. p e ≡ q e) e names h)
    ∙ ap (λ (n : ℕ). one_if (q e) + n) (tally-agree p q names (All-tail (λ e. p e ≡ q e) e names h))
    ∙ sym (tally-cons q e names)

-- ---- names that are the same

bytes_same : (a b : List ℕ) → bytes_eq a b ≡ true → a ≡ b
bytes_same a b h = (bytes_eq-Decides a b).0 h

other_way : (a b : List ℕ) → bytes_eq a b ≡ false → bytes_eq b a ≡ false
other_way a b h = false_from_ne_true (bytes_eq b a) (λ is. true≢false (sym ((bytes_eq-Decides a b).1 (sym (bytes_same b a is)))
    ∙ h))

-- whose name is this one
pub has_name-is : (name : List ℕ) (e : NameEntry) → has_name name e ≡ true → e.name ≡ name
unfolding has_name
has_name-is name e h = bytes_same e.name name h

lacks-has : (name : List ℕ) (names : List NameEntry) → Lacks name names → All (λ e. has_name name e ≡ false) names
unfolding has_name
lacks-has name names h = h

-- ---- the name that is found

find_by : (q : NameEntry → Bool) (P : NameEntry → Type 0) (x : NameEntry) (names : List NameEntry) (e : NameEntry) (b : Bool)
    → q x ≡ b → cond b (Some x) (find q names) ≡ Some e
    → (find q names ≡ Some e → All P names → P e) → All P (x ∷ names) → P e
find_by q P x names e true is h rest all = let same : x ≡ e = cc in subst P same (All-head P x names all)
find_by q P x names e false is h rest all = rest h (All-tail P x names all)

find_has : (q : NameEntry → Bool) (P : NameEntry → Type 0) (names : List NameEntry) (e : NameEntry) → find q names ≡ Some e
    → All P names → P e
find_has q P [] e h all = absurd cc
find_has q P (x ∷ names) e h all = find_by q P x names e (q x) refl h (find_has q P names e) all

passes_by : (q : NameEntry → Bool) (x : NameEntry) (names : List NameEntry) (e : NameEntry) (b : Bool) → q x ≡ b
    → cond b (Some x) (find q names) ≡ Some e
    → (find q names ≡ Some e → q e ≡ true) → q e ≡ true
passes_by q x names e true is h rest = let same : x ≡ e = cc in subst (λ (y : NameEntry). q y ≡ true) same is
passes_by q x names e false is h rest = rest h

find_passes : (q : NameEntry → Bool) (names : List NameEntry) (e : NameEntry) → find q names ≡ Some e → q e ≡ true
find_passes q [] e h = absurd cc
find_passes q (x ∷ names) e h = passes_by q x names e (q x) refl h (find_passes q names e)

none_by : (q : NameEntry → Bool) (x : NameEntry) (names : List NameEntry) (b : Bool) → q x ≡ b
    → cond b (Some x) (find q names) ≡ None
    → (find q names ≡ None → All (λ e. q e ≡ false) names) → All (λ e. q e ≡ false) (x ∷ names)
none_by q x names true is h rest = absurd cc
none_by q x names false is h rest = All-cons (λ e. q e ≡ false) x names is (rest h)

find_none : (q : NameEntry → Bool) (names : List NameEntry) → find q names ≡ None → All (λ e. q e ≡ false) names
find_none q [] h = All-nil (λ e. q e ≡ false)
find_none q (x ∷ names) h = none_by q x names (q x) refl h (find_none q names)

-- what holds of all names of a directory holds of the one that is found
pub named_has : (P : NameEntry → Type 0) (name : List ℕ) (n : Node) (e : NameEntry) → named name n.names ≡ Some e
    → All P n.names → P e
unfolding named
named_has P name n e h all = find_has (has_name name) P n.names e h all

pub named_is : (name : List ℕ) (n : Node) (e : NameEntry) → named name n.names ≡ Some e → e.name ≡ name
unfolding named
named_is name n e h = has_name-is name e (find_passes (has_name name) n.names e h)

-- where none is found, none has the name
pub named_lacks : (name : List ℕ) (n : Node) → named name n.names ≡ None → Lacks name n.names
unfolding named has_name
named_lacks name n h = find_none (has_name name) n.names h

-- ---- a list without a name

kept_all : (q : NameEntry → Bool) (names : List NameEntry) → All (λ e. q e ≡ false) names → filter (λ e. not (q e)) names ≡ names
kept_all q [] h = refl
kept_all q (e ∷ names) h =
    ap (λ (b : Bool). cond (not b) (e ∷ filter (λ e. not (q e)) names) (filter (λ e. not (q e)) names))
    (All-head (λ e. q e ≡ false) e names h)
    ∙ ap (λ (l : List NameEntry). e ∷ l) (kept_all q names (All-tail (λ e. q e ≡ false) e names h))

-- a name that is not there takes nothing away
pub without_none : (name : List ℕ) (names : List NameEntry) → Lacks name names → without name names ≡ names
without_none name names h = kept_all (has_name name) names (lacks-has name names h)

without_by : (p : NameEntry → Bool) (name : List ℕ) (x : NameEntry) (names : List NameEntry) (e : NameEntry) (b : Bool)
    → has_name name x ≡ b → Lacks x.name names
    → cond b (Some x) (find (has_name name) names) ≡ Some e
    → (find (has_name name) names ≡ Some e → tally p names ≡ tally p (without name names) + one_if (p e))
    → tally p (x ∷ names) ≡ tally p (cond (not b) (x ∷ without name names) (without name names)) + one_if (p e)
without_by p name x names e true is lacks h rest =
    let same : x ≡ e = cc in
    let left : without name names ≡ names =
    without_none name names (subst (λ (a : List ℕ). Lacks a names) (has_name-is name x is) lacks) in
    let test : one_if (p x) ≡ one_if (p e) = ap (λ (y : NameEntry). one_if (p y)) same in
    omega (arith, tally-cons p x names, ap (tally p) left, test)
without_by p name x names e false is lacks h rest =
    omega (arith, tally-cons p x names, tally-cons p x (without name names), rest h)

tally-without : (p : NameEntry → Bool) (name : List ℕ) (names : List NameEntry) (e : NameEntry) → AreDistinct names
    → find (has_name name) names ≡ Some e
    → tally p names ≡ tally p (without name names) + one_if (p e)
unfolding AreDistinct
tally-without p name [] e d h = absurd cc
tally-without p name (x ∷ names) e d h =
    without_by p name x names e (has_name name x) refl d.0 h (tally-without p name names e d.1)

-- ---- distinct names

pub distinct_append : (names : List NameEntry) (e : NameEntry) → AreDistinct names → Lacks e.name names
    → AreDistinct (names ++ (e ∷ []))
unfolding AreDistinct
distinct_append [] e d lacks = (All-nil (λ y. bytes_eq y.name e.name ≡ false), tt)
distinct_append (x ∷ names) e d lacks = (
  All-push (λ y. bytes_eq y.name x.name ≡ false) names e d.0 (other_way x.name e.name
      (All-head (λ y. bytes_eq y.name e.name ≡ false) x names lacks)),
  distinct_append names e d.1 (All-tail (λ y. bytes_eq y.name e.name ≡ false) x names lacks),
)

distinct_by : (x : NameEntry) (names : List NameEntry) (b : Bool) → Lacks x.name names → AreDistinct names
    → AreDistinct (cond b (x ∷ names) names)
unfolding AreDistinct
distinct_by x names true lacks d = (lacks, d)
distinct_by x names false lacks d = d

pub distinct_filter : (p : NameEntry → Bool) (names : List NameEntry) → AreDistinct names → AreDistinct (filter p names)
unfolding AreDistinct
distinct_filter p [] d = tt
distinct_filter p (x ∷ names) d =
    distinct_by x (filter p names) (p x) (All-filter p (λ y. bytes_eq y.name x.name ≡ false) names d.0)
    (distinct_filter p names d.1)

-- ---- the names of a node

pub count_append : (fileid : ℕ) (names : List NameEntry) (e : NameEntry)
    → count_of fileid (names ++ (e ∷ [])) ≡ count_of fileid names + one_if (e.fileid == fileid)
unfolding count_of
count_append fileid names e = tally-append (λ e. e.fileid == fileid) names e

-- the name that is found goes
pub count_without : (fileid : ℕ) (name : List ℕ) (n : Node) (e : NameEntry) → AreDistinct n.names → named name n.names ≡ Some e
    → count_of fileid n.names ≡ count_of fileid (without name n.names) + one_if (e.fileid == fileid)
unfolding count_of named
count_without fileid name n e d h = tally-without (λ e. e.fileid == fileid) name n.names e d h

pub count_none : (fileid : ℕ) (names : List NameEntry) → All (λ e. (e.fileid == fileid) ≡ false) names → count_of fileid names ≡ 0
unfolding count_of
count_none fileid names h = tally-none (λ e. e.fileid == fileid) names h

pub none_count : (fileid : ℕ) (names : List NameEntry) → count_of fileid names ≡ 0 → All (λ e. (e.fileid == fileid) ≡ false) names
unfolding count_of
none_count fileid names h = none-tally (λ e. e.fileid == fileid) names h

pub count_nil : (fileid : ℕ) → count_of fileid [] ≡ 0
unfolding count_of
count_nil fileid = refl

own_number : (a b : ℕ) → a ≡ b → one_if (a == b) ≡ 1
own_number a b is = ap one_if (eq-eqb a b is)

-- a name that is found counts
pub count_found : (name : List ℕ) (n : Node) (e : NameEntry) → AreDistinct n.names → named name n.names ≡ Some e
    → 1 ≤ count_of e.fileid n.names
count_found name n e d h = omega (arith, count_without e.fileid name n e d h, own_number e.fileid e.fileid refl)

-- the test whether a name is this node's
pub counts_one : (a b : ℕ) → a ≡ b → one_if (a == b) ≡ 1
counts_one a b is = own_number a b is

pub counts_none : (a b : ℕ) → (a ≡ b → ⊥) → one_if (a == b) ≡ 0
counts_none a b apart = ap one_if (ne_eqb a b apart)

-- ---- where names lead

-- no name leads to a number that no node has
pub unled : (nodes : Nodes) (x : ℕ) (names : List NameEntry) → nodes x ≡ None → All (λ e. is_some (nodes e.fileid) ≡ true) names
    → count_of x names ≡ 0
unled nodes x names none lead =
    count_none x names
    (λ k d lt.
    let e : NameEntry = get_or names k d in
    ne_eqb e.fileid x (λ is. true≢false (sym (lead k d lt) ∙ ap (λ (id : ℕ). is_some (nodes id)) is ∙ ap is_some none)))

-- names lead to nodes also where others are there, unless they lead to the one that is gone
pub lead_but : (nodes after : Nodes) (x : ℕ) (names : List NameEntry)
    → ((id : ℕ) → (id ≡ x → ⊥) → is_some (nodes id) ≡ true → is_some (after id) ≡ true)
    → count_of x names ≡ 0 → All (λ e. is_some (nodes e.fileid) ≡ true) names → All (λ e. is_some (after e.fileid) ≡ true) names
lead_but nodes after x names same none lead =
    λ k d lt.
    let e : NameEntry = get_or names k d in
    same e.fileid (eqb-false e.fileid x (none_count x names none k d lt)) (lead k d lt)

pub lead_same : (nodes after : Nodes) (names : List NameEntry)
    → ((id : ℕ) → is_some (nodes id) ≡ true → is_some (after id) ≡ true)
    → All (λ e. is_some (nodes e.fileid) ≡ true) names → All (λ e. is_some (after e.fileid) ≡ true) names
lead_same nodes after names same lead =
    All-weaker (λ (e : NameEntry). is_some (nodes e.fileid) ≡ true) (λ e. is_some (after e.fileid) ≡ true)
    (λ e h. same e.fileid h) names lead

-- ---- subdirectories

pub subdirectories_append : (nodes : Nodes) (names : List NameEntry) (e : NameEntry)
    → subdirectories nodes (names ++ (e ∷ [])) ≡ subdirectories nodes names + one_if (is_some_directory (nodes e.fileid))
unfolding subdirectories
subdirectories_append nodes names e = tally-append (λ e. is_some_directory (nodes e.fileid)) names e

pub subdirectories_without : (nodes : Nodes) (name : List ℕ) (n : Node) (e : NameEntry) → AreDistinct n.names
    → named name n.names ≡ Some e
    → subdirectories nodes n.names ≡ subdirectories nodes (without name n.names) + one_if (is_some_directory (nodes e.fileid))
unfolding subdirectories named
subdirectories_without nodes name n e d h = tally-without (λ e. is_some_directory (nodes e.fileid)) name n.names e d h

pub subdirectories_nil : (nodes : Nodes) → subdirectories nodes [] ≡ 0
unfolding subdirectories
subdirectories_nil nodes = refl

-- where other nodes are there, but for one that no name leads to
pub subdirectories_but : (nodes after : Nodes) (x : ℕ) (names : List NameEntry)
    → ((id : ℕ) → (id ≡ x → ⊥) → is_some_directory (nodes id) ≡ is_some_directory (after id))
    → count_of x names ≡ 0 → subdirectories nodes names ≡ subdirectories after names
unfolding subdirectories
subdirectories_but nodes after x names same none =
    tally-agree (λ e. is_some_directory (nodes e.fileid)) (λ e. is_some_directory (after e.fileid)) names
    (λ k d lt.
    let e : NameEntry = get_or names k d in
    same e.fileid (eqb-false e.fileid x (none_count x names none k d lt)))

pub subdirectories_same : (nodes after : Nodes) (names : List NameEntry)
    → ((id : ℕ) → is_some_directory (nodes id) ≡ is_some_directory (after id))
    → subdirectories nodes names ≡ subdirectories after names
unfolding subdirectories
subdirectories_same nodes after names same =
    tally-agree (λ e. is_some_directory (nodes e.fileid)) (λ e. is_some_directory (after e.fileid)) names
    (λ k d lt. same (get_or names k d).fileid)
