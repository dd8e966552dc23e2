-- Snapshots are read one after another, by rising number.
use Rattle.std.proofs.Common.{◌≡◌, ℕ, ◌+◌, ◌<◌, ◌≤◌, Bool, true, false, if◌then◌else◌, List, [], ◌∷◌, ◌++◌, length}
use Rattle.std.proofs.Common.{append_assoc, Option, Some, None, refl, sym, ◌∙◌, ap, subst, arith}
use Rattle.std.proofs.lemmas.Bool.{lt-ltb, ltb-true, ltb-false}
use Rattle.std.proofs.lemmas.List.{append-nil, length-append}
use Rattle.std.specs.Prelude.{filter, nat_lt}
use Rattle.pair_types.specs.declared.fault.PairFault.{PairFault}
use Rattle.pair_types.specs.declared.fault.PairFault.TheVariants.{Odd}
use Rattle.pairs.specs.Told.{PairsTold, Goes}
use Rattle.fs_rules.specs.declared.name_entry.NameEntry.{NameEntry}
use Rattle.fs_rules.specs.Limits.{most_snapshots}
use Rattle.fs_rules.specs.Sound.{IsSound, Rise}
use Rattle.fs_rules.specs.Tree.{Tree}
use Rattle.fs_shows.specs.Steps.{Reads, GivesUpOn}
use Rattle.fs_shows.proofs.Doing.{goes-none, goes-then}
use Rattle.fs_shows.proofs.Passing.{reads_both, gives_up_behind}
use Rattle.fs_shows.proofs.Viewing.{find-all}
use Rattle.dir_ops.specs.Listing.{next_entry}
use Rattle.snap_ops.proofs.Entries.{cookies-tell}
use Rattle.snap_ops.proofs.Following.{entries_of}

-- ---- the entries behind a cookie

abbrev pub behind : ℕ → List NameEntry → List NameEntry
behind cookie names = filter (λ (e : NameEntry). nat_lt cookie e.cookie) names

not-less : (a b : ℕ) → b ≤ a → nat_lt a b ≡ false
not-less a b low = by_test (nat_lt a b) refl
  where
    by_test : (u : Bool) → nat_lt a b ≡ u → nat_lt a b ≡ false
    by_test true is = let more : a < b = ltb-true a b is in absurd (omega (arith, low, more))
    by_test false is = is

-- all names are behind a cookie below the least
all-behind : (cookie least next : ℕ) (names : List NameEntry) → cookie < least → Rise least next names → behind cookie names ≡ names
unfolding Rise
all-behind cookie least next [] low rise = refl
all-behind cookie least next (e ∷ names) low rise =
    let up : nat_lt cookie e.cookie ≡ true = lt-ltb cookie e.cookie (omega (arith, low, rise.0)) in
    rw up (ap (λ (l : List NameEntry). e ∷ l)
    (all-behind cookie (e.cookie + 1) next names (omega (arith, low, rise.0)) rise.1))

abbrev Behind : ℕ → List NameEntry → Option NameEntry → Type 0
Behind cookie names None = behind cookie names ≡ []
Behind cookie names (Some e) = (cookie < e.cookie) × (behind cookie names ≡ e ∷ behind e.cookie names)

-- the first name behind a cookie, and those behind it
names-behind : (cookie least next : ℕ) (names : List NameEntry) → Rise least next names
    → Behind cookie names (next_entry cookie names)
unfolding Rise
names-behind cookie least next [] rise = refl
names-behind cookie least next (x ∷ names) rise =
    by_test (nat_lt cookie x.cookie) refl (names-behind cookie (x.cookie + 1) next names rise.1)
  where
    own : behind x.cookie (x ∷ names) ≡ names
    own =
        let none : nat_lt x.cookie x.cookie ≡ false = not-less x.cookie x.cookie (omega arith) in
        rw none (all-behind x.cookie (x.cookie + 1) next names (omega arith) rise.1)

    skip : (e : NameEntry) → cookie < e.cookie → x.cookie ≤ cookie → behind e.cookie names ≡ behind e.cookie (x ∷ names)
    skip e less low =
        let none : nat_lt e.cookie x.cookie ≡ false = not-less e.cookie x.cookie (omega (arith, less, low)) in
        rw none refl

    passed : (o : Option NameEntry) → x.cookie ≤ cookie → Behind cookie names o → nat_lt cookie x.cookie ≡ false
        → Behind cookie (x ∷ names) o
    passed None low more at = rw at more
    passed (Some e) low more at = (
      more.0,
      by_cookie (behind cookie (x ∷ names)) (rw at refl) ∙ more.1 ∙ ap (λ (l : List NameEntry). e ∷ l) (skip e more.0 low),
    )
      where
        by_cookie : (l : List NameEntry) → l ≡ behind cookie names → l ≡ behind cookie names
        by_cookie l is = is

    by_test : (u : Bool) → nat_lt cookie x.cookie ≡ u → Behind cookie names (next_entry cookie names)
        → Behind cookie (x ∷ names) (if u then Some x else next_entry cookie names)
    by_test true at more =
        let less : cookie < x.cookie = ltb-true cookie x.cookie at in (
          less,
          rw at (ap (λ (l : List NameEntry). x ∷ l)
              (all-behind cookie (x.cookie + 1) next names (omega (arith, less)) rise.1 ∙ sym own)),
        )
    by_test false at more = passed (next_entry cookie names) (ltb-false cookie x.cookie at) more at

-- ---- over the entries of a sound tree

-- so far these entries were read, and the last of them has this number
abbrev pub GoesOn : List NameEntry → ℕ → Tree → Type 0
GoesOn entries last t = entries_of t ≡ entries ++ behind (last + 2) (entries_of t)

rises-of : (t : Tree) → IsSound t → Rise 3 (t.epoch + 2) (entries_of t)
rises-of t sound = sound.bounds.snapshots.entries.cookies

goes-begin : (t : Tree) → IsSound t → GoesOn [] 0 t
goes-begin t sound = sym (all-behind 2 3 (t.epoch + 2) (entries_of t) (omega arith) (rises-of t sound))

behind-is : (t : Tree) (last : ℕ) (found : Option NameEntry) → IsSound t → next_entry (last + 2) (entries_of t) ≡ found
    → Behind (last + 2) (entries_of t) found
behind-is t last found sound is =
    subst (Behind (last + 2) (entries_of t)) is (names-behind (last + 2) 3 (t.epoch + 2) (entries_of t) (rises-of t sound))

goes-end : (t : Tree) (entries : List NameEntry) (last : ℕ) → IsSound t → GoesOn entries last t
    → next_entry (last + 2) (entries_of t) ≡ None → entries_of t ≡ entries
goes-end t entries last sound goes none =
    goes ∙ ap (λ (l : List NameEntry). entries ++ l) (behind-is t last None sound none) ∙ append-nil entries

module _ (t : Tree) (entries : List NameEntry) (last : ℕ) (e : NameEntry) (sound : IsSound t) (goes : GoesOn entries last t)
    (is : next_entry (last + 2) (entries_of t) ≡ Some e) where
  cookie-is : e.cookie ≡ e.fileid + 2
  cookie-is = (find-all (λ (e : NameEntry). nat_lt (last + 2) e.cookie) (λ (e : NameEntry). e.cookie ≡ e.fileid + 2)
      (entries_of t) e
      (cookies-tell t.snapshots) is).0

  goes-more : GoesOn (entries ++ e ∷ []) e.fileid t
  goes-more =
      goes
      ∙ ap (λ (l : List NameEntry). entries ++ l) (behind-is t last (Some e) sound is).1
      ∙ sym (append_assoc entries (e ∷ []) (behind e.cookie (entries_of t)))
      ∙ ap (λ (c : ℕ). (entries ++ e ∷ []) ++ behind c (entries_of t)) cookie-is

  -- no more than the most were read before the last
  goes-few : length entries < most_snapshots
  goes-few =
      let all : length (entries_of t) ≡ length entries + length (e ∷ behind e.cookie (entries_of t)) =
      ap length (goes ∙ ap (λ (l : List NameEntry). entries ++ l) (behind-is t last (Some e) sound is).1)
      ∙ length-append entries (e ∷ behind e.cookie (entries_of t)) in
      let few : length (entries_of t) ≤ most_snapshots = sound.bounds.snapshots.few in
      omega (arith, all, few)

-- ---- of the trees that may lie below

module _ {S W : Type 0} (told : PairsTold S W) where
  -- so far these were read
  pub record HasRead (old now : S) (entries : List NameEntry) (last : ℕ) : Type 0 where
    pub goes : Goes told old now 0
    pub reads : Reads told old now IsSound (GoesOn entries last)

  pub read-none : (s : S) → HasRead s s [] 0
  read-none s = record {
    goes = goes-none told s;
    reads = record {
      stays = λ w t agrees lies is. lies;
      learns = λ w t agrees lies sound. goes-begin t sound;
    };
  }

  module _ (old mid new : S) (entries : List NameEntry) (last : ℕ) (has : HasRead old mid entries last)
      (goes : Goes told mid new 0) where
    pub read-goes : Goes told old new 0
    read-goes = goes-then told old mid new 0 0 has.goes goes

    pub read-up : (fault : PairFault) → GivesUpOn told mid new IsSound fault → GivesUpOn told old new IsSound fault
    read-up fault up =
        gives_up_behind told old mid new 0 0 IsSound IsSound (λ t. t) has.goes goes
        (λ w t agrees lies is. has.reads.stays w t agrees lies tt) (λ t is. is) fault up

    module _ (found : Option NameEntry)
        (next : Reads told mid new IsSound (λ t. next_entry (last + 2) (entries_of t) ≡ found)) where
      both : Reads told old new IsSound (λ t. GoesOn entries last t × (next_entry (last + 2) (entries_of t) ≡ found))
      both = reads_both told old mid new 0 IsSound (GoesOn entries last) (λ t. next_entry (last + 2) (entries_of t) ≡ found) goes
          has.reads next

      read-then : (Q : Tree → Type 0)
          → ((t : Tree) → IsSound t → GoesOn entries last t → next_entry (last + 2) (entries_of t) ≡ found → Q t)
          → Reads told old new IsSound Q
      read-then Q says = record {
        stays = both.stays;
        learns = λ w t agrees lies sound.
            let b = both.learns w t agrees lies sound in says t sound b.0 b.1;
      }

    pub read-all : Reads told mid new IsSound (λ t. next_entry (last + 2) (entries_of t) ≡ None)
        → Reads told old new IsSound (λ t. entries_of t ≡ entries)
    read-all next =
        read-then None next (λ t. entries_of t ≡ entries) (λ t sound so none. goes-end t entries last sound so none)

    module _ (e : NameEntry) (next : Reads told mid new IsSound (λ t. next_entry (last + 2) (entries_of t) ≡ Some e)) where
      pub read-more : HasRead old new (entries ++ e ∷ []) e.fileid
      read-more = record {
        goes = read-goes;
        reads = read-then (Some e) next (GoesOn (entries ++ e ∷ []) e.fileid)
            (λ t sound so is. goes-more t entries last e sound so is);
      }

      -- more than the most
      pub read-odd : most_snapshots ≤ length entries → GivesUpOn told old new IsSound Odd
      read-odd many = λ w t agrees lies sound.
          let b = (both (Some e) next).learns w t agrees lies sound in
          absurd (omega (arith, many, goes-few t entries last e sound b.0 b.1))
