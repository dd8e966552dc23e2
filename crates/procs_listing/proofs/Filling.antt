-- Entries are told one by one, while they fit.
use Rattle.std.proofs.Common.{◌≡◌, ℕ, ◌+◌, ◌-◌, ◌==◌, ◌<◌, ◌≤◌, Bool, true, false, if◌then◌else◌, nat_le, List, [], ◌∷◌, ◌++◌}
use Rattle.std.proofs.Common.{length, map, append_assoc, Option, Some, None, refl, sym, ◌∙◌, ap, arith}
use Rattle.std.proofs.lemmas.Bool.{eq-eqb, eqb-true, leb-true}
use Rattle.std.proofs.lemmas.List.{append-nil, map-append, length-map, length-append}
use Rattle.pair_types.specs.declared.fault.PairFault.{PairFault}
use Rattle.fs_rules.specs.declared.place.Place.{Place}
use Rattle.pairs.specs.Told.{PairsTold, Goes}
use Rattle.fs_rules.specs.Listing.{Listed, behind, fitting}
use Rattle.fs_rules.specs.Tree.{Tree}
use Rattle.fs_shows.specs.Steps.{Reads, GivesUpOn}
use Rattle.fs_shows.proofs.Doing.{goes-none, goes-then}
use Rattle.fs_shows.proofs.Passing.{reads_both, gives_up_behind}
use Rattle.procs_object.proofs.Reading.{reads-none, reads-more}
use Rattle.procs_object.specs.Finding.{HasPlace}
use Rattle.procs_listing.specs.declared.entries.Entry.{Entry}
use Rattle.procs_listing.specs.Entries.{lists, listed_as, IsNextOf, IsTold}

-- ---- over a listing

module _ (size : Listed → ℕ) (room cookie : ℕ) (entries : List Listed) where
  -- so far these were told: behind the last of them, and in the room that is left, it goes on
  pub record GoesOn (told : List Entry) (last left : ℕ) : Type 0 where
    pub rest : behind cookie entries ≡ map listed_as told ++ behind last entries
    pub fits : fitting size room (behind cookie entries) ≡ map listed_as told ++ fitting size left (behind last entries)

  goes-begin : GoesOn [] cookie room
  goes-begin = record { rest = refl; fits = refl }

  module _ (told : List Entry) (last left : ℕ) (goes : GoesOn told last left) where
    fitting-none : behind last entries ≡ [] → fitting size left (behind last entries) ≡ []
    unfolding fitting
    fitting-none none = ap (fitting size left) none

    told-all : behind last entries ≡ [] → IsTold size room cookie entries (record { entries = told; eof = true })
    told-all none = record {
      told = goes.fits ∙ ap (λ (l : List Listed). map listed_as told ++ l) (fitting-none none) ∙ append-nil (map listed_as told);
      eof = eq-eqb (length told) (length (behind cookie entries))
          (sym (ap length (goes.rest ∙ ap (λ (l : List Listed). map listed_as told ++ l) none ∙ append-nil (map listed_as told))
          ∙ length-map told listed_as));
    }

    module _ (e : Entry) (more : behind last entries ≡ listed_as e ∷ behind e.cookie entries) where
      fitting-more : (u : Bool) → nat_le (size (listed_as e)) left ≡ u
          → fitting size left (behind last entries)
          ≡ (if u then listed_as e ∷ fitting size (left - size (listed_as e)) (behind e.cookie entries) else [])
      unfolding fitting
      fitting-more u at =
          ap (fitting size left) more
          ∙ ap (λ (w : Bool). if w then listed_as e ∷ fitting size (left - size (listed_as e))
          (behind e.cookie entries) else []) at

      appended : (l : List Listed) → map listed_as told ++ (listed_as e ∷ l) ≡ map listed_as (told ++ e ∷ []) ++ l
      appended l =
          sym (append_assoc (map listed_as told) (listed_as e ∷ []) l)
          ∙ ap (λ (x : List Listed). x ++ l) (sym (map-append listed_as told (e ∷ [])))

      goes-more : nat_le (size (listed_as e)) left ≡ true → GoesOn (told ++ e ∷ []) e.cookie (left - size (listed_as e))
      goes-more at = record {
        rest = goes.rest ∙ ap (λ (l : List Listed). map listed_as told ++ l) more ∙ appended (behind e.cookie entries);
        fits = goes.fits ∙ ap (λ (l : List Listed). map listed_as told ++ l) (fitting-more true at)
            ∙ appended (fitting size (left - size (listed_as e)) (behind e.cookie entries));
      }

      told-some : nat_le (size (listed_as e)) left ≡ false
          → IsTold size room cookie entries (record { entries = told; eof = false })
      told-some at = record {
        told = goes.fits ∙ ap (λ (l : List Listed). map listed_as told ++ l) (fitting-more false at)
            ∙ append-nil (map listed_as told);
        eof = not-equal (length told) (length (behind cookie entries)) longer;
      }
        where
          all : length (behind cookie entries) ≡ length (map listed_as told) + length (listed_as e ∷ behind e.cookie entries)
          all =
              ap length (goes.rest ∙ ap (λ (l : List Listed). map listed_as told ++ l) more)
              ∙ length-append (map listed_as told) (listed_as e ∷ behind e.cookie entries)

          longer : length told < length (behind cookie entries)
          longer = omega (arith, all, length-map told listed_as)

          not-equal : (a b : ℕ) → a < b → (a == b) ≡ false
          not-equal a b less = by_test (a == b) refl
            where
              by_test : (u : Bool) → (a == b) ≡ u → (a == b) ≡ false
              by_test true is = absurd (omega (arith, less, eqb-true a b is))
              by_test false is = is

-- ---- of the trees that may lie below

module _ {S W : Type 0} (told : PairsTold S W) (directory above : Place) (size : Listed → ℕ) (room cookie : ℕ) where
  -- so far these were read
  pub record HasRead (old now : S) (entries : List Entry) (last left : ℕ) : Type 0 where
    pub goes : Goes told old now 0
    pub reads : Reads told old now (HasPlace directory)
        (λ t. GoesOn size room cookie (lists t directory above) entries last left)

  pub read-none : (s : S) → HasRead s s [] cookie room
  read-none s = record {
    goes = goes-none told s;
    reads = reads-none told s (HasPlace directory)
        (λ t. GoesOn size room cookie (lists t directory above) [] cookie room)
        (λ t is. goes-begin size room cookie (lists t directory above));
  }

  module _ (old mid new : S) (entries : List Entry) (last left : ℕ) (has : HasRead old mid entries last left)
      (goes : Goes told mid new 0) where
    pub read-goes : Goes told old new 0
    read-goes = goes-then told old mid new 0 0 has.goes goes

    pub read-up : (fault : PairFault) → GivesUpOn told mid new (HasPlace directory) fault
        → GivesUpOn told old new (HasPlace directory) fault
    read-up fault up =
        gives_up_behind told old mid new 0 0 (HasPlace directory) (HasPlace directory) (λ t. t) has.goes goes
        (λ w t agrees lies is. has.reads.stays w t agrees lies tt) (λ t is. is) fault up

    module _ (found : Option Entry)
        (next : Reads told mid new (HasPlace directory) (λ t. IsNextOf (lists t directory above) last found)) where
      abbrev So : Tree → Type 0
      So t = GoesOn size room cookie (lists t directory above) entries last left

      read-then : (Q : Tree → Type 0) → ((t : Tree) → So t → IsNextOf (lists t directory above) last found → Q t)
          → Reads told old new (HasPlace directory) Q
      read-then Q says =
          reads-more told old new (HasPlace directory) (HasPlace directory)
          (λ t. So t × IsNextOf (lists t directory above) last found) Q (λ t is. is) (λ t is both. says t both.0 both.1)
          (reads_both told old mid new 0 (HasPlace directory) So (λ t. IsNextOf (lists t directory above) last found) goes
          has.reads next)

    pub read-all : Reads told mid new (HasPlace directory) (λ t. IsNextOf (lists t directory above) last None)
        → Reads told old new (HasPlace directory)
        (λ t. IsTold size room cookie (lists t directory above) (record { entries = entries; eof = true }))
    read-all next =
        read-then None next
        (λ t. IsTold size room cookie (lists t directory above) (record { entries = entries; eof = true }))
        (λ t so none. told-all size room cookie (lists t directory above) entries last left so none)

    module _ (e : Entry)
        (next : Reads told mid new (HasPlace directory) (λ t. IsNextOf (lists t directory above) last (Some e))) where
      pub read-some : nat_le (size (listed_as e)) left ≡ false → Reads told old new (HasPlace directory)
          (λ t. IsTold size room cookie (lists t directory above) (record { entries = entries; eof = false }))
      read-some at =
          read-then (Some e) next
          (λ t. IsTold size room cookie (lists t directory above) (record { entries = entries; eof = false }))
          (λ t so more. told-some size room cookie (lists t directory above) entries last left so e more at)

      pub read-more : nat_le (size (listed_as e)) left ≡ true
          → HasRead old new (entries ++ e ∷ []) e.cookie (left - size (listed_as e))
      read-more at = record {
        goes = read-goes;
        reads = read-then (Some e) next
            (λ t. GoesOn size room cookie (lists t directory above) (entries ++ e ∷ []) e.cookie (left - size (listed_as e)))
            (λ t so more. goes-more size room cookie (lists t directory above) entries last left so e more at);
      }

-- ---- what room is left

-- there is none behind an entry that does not fit
pub room-none : (b : Bool) (n : ℕ) → None ≡ (if b then Some n else None) → b ≡ false
room-none true n is = absurd (cc)
room-none false n is = refl

pub room-some : (b : Bool) (n k : ℕ) → Some k ≡ (if b then Some n else None) → (b ≡ true) × (k ≡ n)
room-some true n k is = (refl, one k n is)
  where
    one : (k n : ℕ) → Some k ≡ Some n → k ≡ n
    one k n e = cc
room-some false n k is = absurd (cc)

pub room-less : (bare rest left less : ℕ) → 1 ≤ bare → nat_le (bare + rest) left ≡ true → less ≡ left - (bare + rest)
    → less < left
room-less bare rest left less some fits is =
    let up : bare + rest ≤ left = leb-true (bare + rest) left fits in omega (arith, some, up, is)
