-- What a Look is answered, by what was read.
use Rattle.std.proofs.Common.{◌≡◌, ℕ, zero, suc, ◌<◌, ◌==◌, ◌&&◌, ◌||◌, Bool, true, false, cond, List, [], ◌∷◌}
use Rattle.std.proofs.Common.{length, drop, Option, Some, None, unwrap_or, slice_get, refl, ap, sym, ◌∙◌, subst, arith}
use Rattle.std.proofs.lemmas.Bool.Decides.{nat_tests}
use Rattle.pair_types.specs.declared.slot.Tid.{Tid}
use Rattle.page_types.specs.declared.versions.PageRead.{PageRead}
use Rattle.page_types.specs.declared.hold.WriteHold.{WriteHold}
use Rattle.page_types.specs.declared.command.Command.TheVariants.{Look}
use Rattle.page_types.specs.declared.answer.Answer.{Answer}
use Rattle.page_types.specs.declared.answer.Answer.TheVariants.{Versions, Busy}
use Rattle.page_types.specs.Accesses.{read_at, ReadsRise}
use Rattle.page_types.specs.Asked.{first_of}
use Rattle.page_types.specs.Stores.{StoreState}
use Rattle.page_types.specs.Obeys.{busy_by, held_by, first_held, versions_of}
use Rattle.page_types.specs.Ports.{IsAnswer}
use Rattle.two_phase.proofs.Basics.{eq_self, eq_true}
use Rattle.page_txn.specs.Since.{looked}
use Rattle.page_txn.specs.Asking.{is_versions}
use Rattle.page_txn.specs.Rechecks.{numbers_of, first_changed, other_looked}

eq_of : (a b : ℕ) → a ≡ b → (a == b) ≡ true
eq_of a b h = grind (arith, nat_tests, h)

turned_false : (a b : ℕ) → (a == b) ≡ false → (b == a) ≡ false
turned_false a b h = grind (arith, nat_tests, h)

less_apart : (a b : ℕ) → a < b → (a == b) ≡ false
less_apart a b h = grind (arith, nat_tests, h)

-- ## A writer's hold

-- the answer is that a page that was read has a writer's hold
pub record IsBusyAt (reads : List PageRead) (a : Answer) : Type 0 where
  pub number : ℕ
  pub version : ℕ
  pub holder : Tid
  pub home : ℕ
  pub parts : List ℕ
  pub was_read : read_at reads number ≡ Some version
  pub is : a ≡ Busy number holder home parts

busy_held : (state : StoreState) (reads : List PageRead) (a : Answer) → first_held state (numbers_of reads) ≡ Some a →
    IsBusyAt reads a
busy_held state [] a is = absurd cc
busy_held state (r ∷ rs) a is = at (state.slot r.number).writer is (λ rest. busy_held state rs a rest)
  where
    later : IsBusyAt rs a → IsBusyAt (r ∷ rs) a
    later b = by_number (r.number == b.number) refl
      where
        by_number : (x : Bool) → (r.number == b.number) ≡ x → IsBusyAt (r ∷ rs) a
        by_number true same = record {
          number = b.number;
          version = r.version;
          holder = b.holder;
          home = b.home;
          parts = b.parts;
          was_read = rw same refl;
          is = b.is;
        }
        by_number false apart = record {
          number = b.number;
          version = b.version;
          holder = b.holder;
          home = b.home;
          parts = b.parts;
          was_read = rw apart b.was_read;
          is = b.is;
        }

    at : (w : Option WriteHold) → first_of (held_by r.number w) (first_held state (numbers_of rs)) ≡ Some a →
        (first_held state (numbers_of rs) ≡ Some a → IsBusyAt rs a) → IsBusyAt (r ∷ rs) a
    at None is rest = later (rest is)
    at (Some w) is rest =
        let same : busy_by r.number w.hold ≡ a = cc in
        record {
          number = r.number;
          version = r.version;
          holder = w.hold.tid;
          home = w.hold.home;
          parts = w.hold.parts;
          was_read = rw (eq_self r.number) refl;
          is = sym same;
        }

pub busy_look : (n : ℕ) (reads : List PageRead) (a : Answer) → IsAnswer n (Look (numbers_of reads)) a →
    is_versions a ≡ false → IsBusyAt reads a
busy_look n reads a g h = at (first_held g.state (numbers_of reads)) refl g.given
  where
    at : (o : Option Answer) → first_held g.state (numbers_of reads) ≡ o →
        unwrap_or o (Versions (versions_of g.state (numbers_of reads))) ≡ a → IsBusyAt reads a
    at None is same = absurd (let told : is_versions (Versions (versions_of g.state (numbers_of reads))) ≡ false =
        subst (λ (x : Answer). is_versions x ≡ false) (sym same) h in cc)
    at (Some b) is same = subst (λ (x : Answer). IsBusyAt reads x) same (busy_held g.state reads b is)

-- ## Versions

long_versions : (state : StoreState) (reads : List PageRead) → length (versions_of state (numbers_of reads)) ≡ length reads
long_versions state [] = refl
long_versions state (r ∷ rs) = ap (λ (k : ℕ). suc k) (long_versions state rs)

pub versions_long : (n : ℕ) (reads : List PageRead) (a : Answer) → IsAnswer n (Look (numbers_of reads)) a →
    (vs : List ℕ) → a ≡ Versions vs → length vs ≡ length reads
versions_long n reads a g vs is = at (first_held g.state (numbers_of reads)) refl (g.given ∙ is)
  where
    at : (o : Option Answer) → first_held g.state (numbers_of reads) ≡ o →
        unwrap_or o (Versions (versions_of g.state (numbers_of reads))) ≡ Versions vs → length vs ≡ length reads
    at None none same =
        let these : versions_of g.state (numbers_of reads) ≡ vs = cc in
        subst (λ (l : List ℕ). length l ≡ length reads) these (long_versions g.state reads)
    at (Some b) some same =
        absurd (let held = busy_held g.state reads b some in
        let no : Busy held.number held.holder held.home held.parts ≡ Versions vs = sym held.is ∙ same in cc)

pub all_unchanged : (reads : List PageRead) (vs : List ℕ) → length vs ≡ length reads → first_changed reads vs ≡ None →
    (number version : ℕ) → read_at reads number ≡ Some version → looked (numbers_of reads) vs number version ≡ true
all_unchanged [] vs long none number version is = absurd cc
all_unchanged (r ∷ rs) [] long none number version is = absurd (omega (arith, long))
all_unchanged (r ∷ rs) (v ∷ vs) long none number version is =
    at (r.version == v) refl none (r.number == number) refl is
    (λ none rest. all_unchanged rs vs (omega (arith, long)) none number version rest)
  where
    at : (x : Bool) → (r.version == v) ≡ x → cond x (first_changed rs vs) (Some r) ≡ None →
        (y : Bool) → (r.number == number) ≡ y → cond y (Some r.version) (read_at rs number) ≡ Some version →
        (first_changed rs vs ≡ None → read_at rs number ≡ Some version →
        looked (numbers_of rs) vs number version ≡ true) →
        (((r.number == number) && (v == version)) || looked (numbers_of rs) vs number version) ≡ true
    at false apart none y here is rest = absurd cc
    at true same none true here is rest =
        let read : r.version ≡ version = cc in
        let equal : (v == version) ≡ true = eq_of v version (sym (eq_true r.version v same) ∙ read) in
        rw (here, equal) refl
    at true same none false here is rest = rw here (rest none is)

rise_above : (r : PageRead) (rs : List PageRead) → ReadsRise (r ∷ rs) → (number version : ℕ) →
    read_at rs number ≡ Some version → r.number < number
rise_above r [] rise number version is = absurd cc
rise_above r (s ∷ ss) rise number version is =
    at (s.number == number) refl is (λ rest. rise_above s ss rise.1 number version rest)
  where
    at : (x : Bool) → (s.number == number) ≡ x → cond x (Some s.version) (read_at ss number) ≡ Some version →
        (read_at ss number ≡ Some version → s.number < number) → r.number < number
    at true same is rest = subst (λ (k : ℕ). r.number < k) (eq_true s.number number same) rise.0
    at false apart is rest = let a = rise.0 in let b = rest is in omega (arith, a, b)

rise_rest : (r : PageRead) (rs : List PageRead) → ReadsRise (r ∷ rs) → ReadsRise rs
rise_rest r [] h = tt
rise_rest r (s ∷ ss) h = h.1

-- the read is of these, and its page was answered another version
abbrev pub IsOther : List PageRead → List ℕ → PageRead → Type 0
IsOther reads vs r =
    (read_at reads r.number ≡ Some r.version) × (other_looked (numbers_of reads) vs r.number r.version ≡ true)

pub one_changed : (reads : List PageRead) (vs : List ℕ) → ReadsRise reads → (r : PageRead) →
    first_changed reads vs ≡ Some r → IsOther reads vs r
one_changed [] vs rise r is = absurd cc
one_changed (x ∷ xs) [] rise r is = absurd cc
one_changed (x ∷ xs) (v ∷ vs) rise r is =
    at (x.version == v) refl is (λ rest. one_changed xs vs (rise_rest x xs rise) r rest)
  where
    at : (b : Bool) → (x.version == v) ≡ b → cond b (first_changed xs vs) (Some x) ≡ Some r →
        (first_changed xs vs ≡ Some r → IsOther xs vs r) → IsOther (x ∷ xs) (v ∷ vs) r
    at false apart is rest =
        let same : x ≡ r = cc in
        subst (λ (k : PageRead). IsOther (x ∷ xs) (v ∷ vs) k) same
        (rw (eq_self x.number) refl, rw (eq_self x.number, turned_false x.version v apart) refl)
    at true same is rest =
        let later = rest is in
        let apart : (x.number == r.number) ≡ false =
        less_apart x.number r.number (rise_above x xs rise r.number r.version later.0) in
        (rw apart later.0, rw apart later.1)

-- ## The first that changed, read by read

pub changed_at : (reads : List PageRead) (vs : List ℕ) (i : ℕ) (r : PageRead) (v : ℕ) → slice_get reads i ≡ Some r →
    slice_get vs i ≡ Some v →
    first_changed (drop i reads) (drop i vs) ≡
    cond (r.version == v) (first_changed (drop (suc i) reads) (drop (suc i) vs)) (Some r)
changed_at [] vs i r v a b = absurd cc
changed_at (x ∷ xs) [] i r v a b = absurd cc
changed_at (x ∷ xs) (w ∷ ws) zero r v a b =
    let read : x ≡ r = cc in
    let version : w ≡ v = cc in
    subst (λ (y : PageRead). first_changed (x ∷ xs) (w ∷ ws) ≡ cond (y.version == v) (first_changed xs ws) (Some y)) read
    (subst (λ (u : ℕ). first_changed (x ∷ xs) (w ∷ ws) ≡ cond (x.version == u) (first_changed xs ws) (Some x)) version refl)
changed_at (x ∷ xs) (w ∷ ws) (suc i) r v a b = changed_at xs ws i r v a b
