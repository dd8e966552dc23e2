-- Calls one after another, seen as what they do to trees.
use Rattle.std.proofs.Common.{◌≡◌, ◌∙◌, ℕ, ◌≤◌, inl, inr, ap, Result, Ok, Err, arith}
use Rattle.nfs3_types.specs.Count.{Rose}
use Rattle.fs_rules.specs.Checks.{Check, ◌>>=◌}
use Rattle.fs_rules.specs.Sound.{IsSound}
use Rattle.fs_rules.specs.Tree.{Tree}
use Rattle.pair_types.specs.declared.fault.PairFault.{PairFault}
use Rattle.pair_types.specs.declared.fault.PairFault.TheVariants.{Odd, HeightFull, Page}
use Rattle.pairs.specs.Told.{PairsTold, Goes}
use Rattle.fs_shows.specs.declared.halt.Halt.{Halt}
use Rattle.fs_shows.specs.declared.halt.Halt.TheVariants.{Refused, Fault}
use Rattle.fs_shows.specs.Steps.{Lies, Learns, Edits, Reads, GivesUpOn, Checked}

rises_behind : (a b c : ℕ) → a ≤ b → Rose b c → Rose a c
rises_behind a b c first then = omega (arith, first, then)

module _ {S W : Type 0} (told : PairsTold S W) (old mid new : S) where
  -- ---- what was learned and edited, and then more

  -- a fact of the tree that lies below, from a call behind an edit
  pub learns_behind : (n : ℕ) (Given Then P : Tree → Type 0) (edit : Tree → Tree) → Goes told mid new n
      → Edits told old mid Given edit → ((t : Tree) → Given t → Then (edit t)) → Learns told mid new Then P
      → Learns told old new Given (λ t. P (edit t))
  learns_behind n Given Then P edit goes first given then = λ w t agrees lies is.
      then w (edit t) agrees (first w t (goes.agreed w agrees) lies is) (given t is)

  -- what the first call learned, behind the second one
  pub learns_still : (n : ℕ) (Given P : Tree → Type 0) → Goes told mid new n → Learns told old mid Given P
      → Learns told old new Given P
  learns_still n Given P goes first = λ w t agrees lies is. first w t (goes.agreed w agrees) lies is

  -- two edits are one
  pub edits_both : (n : ℕ) (Given Then : Tree → Type 0) (edit next : Tree → Tree) → Goes told mid new n
      → Edits told old mid Given edit → ((t : Tree) → Given t → Then (edit t)) → Edits told mid new Then next
      → Edits told old new Given (λ t. next (edit t))
  edits_both n Given Then edit next goes first given then = λ w t agrees lies is.
      then w (edit t) agrees (first w t (goes.agreed w agrees) lies is) (given t is)

  -- two calls that only read are one
  pub reads_both : (n : ℕ) (Given P Q : Tree → Type 0) → Goes told mid new n → Reads told old mid Given P
      → Reads told mid new Given Q → Reads told old new Given (λ t. P t × Q t)
  reads_both n Given P Q goes first then = record {
    stays = λ w t agrees lies is. then.stays w t agrees (first.stays w t (goes.agreed w agrees) lies tt) tt;
    learns = λ w t agrees lies is. (
      first.learns w t (goes.agreed w agrees) lies is,
      then.learns w t agrees (first.stays w t (goes.agreed w agrees) lies tt) is,
    );
  }

  -- ---- a fault behind a first call

  pub gives_up_behind : (m n : ℕ) (Given Then : Tree → Type 0) (edit : Tree → Tree) → Goes told old mid m → Goes told mid new n
      → Edits told old mid Given edit → ((t : Tree) → Given t → Then (edit t)) → (fault : PairFault)
      → GivesUpOn told mid new Then fault → GivesUpOn told old new Given fault
  gives_up_behind m n Given Then edit before goes first given Odd then = λ w t agrees lies is.
      then w (edit t) agrees (first w t (goes.agreed w agrees) lies is) (given t is)
  gives_up_behind m n Given Then edit before goes first given HeightFull then = then
  gives_up_behind m n Given Then edit before goes first given (Page fault) (inl lacks) = inl lacks
  gives_up_behind m n Given Then edit before goes first given (Page fault) (inr rose) =
      inr (rises_behind (told.faults old fault) (told.faults mid fault) (told.faults new fault) (before.faults fault) rose)

  -- ---- checks one after another

  module _ {A B X Y : Type 0} (Finds : X → A → Type 0) (Gives : Y → B → Type 0) (x : X) (check : Tree → Check A)
      (next : Tree → A → Check B) (rest : Tree → Check B) where
    -- the first check passed, and what is left of the checks is what the second call looks at
    pub pass : (m n : ℕ) → Goes told old mid m → Goes told mid new n → Checked told Finds old mid check (Ok x)
        → ((t : Tree) (a : A) → IsSound t → Finds x a → next t a ≡ rest t)
        → (r : Result Y Halt) → Checked told Gives mid new rest r → Checked told Gives old new (λ t. check t >>= next t) r
    pass m n before goes first same (Ok y) then = record {
      stays = λ w t agrees lies is. then.stays w t agrees (first.stays w t (goes.agreed w agrees) lies tt) tt;
      learns = λ w t agrees lies sound.
          let found = first.learns w t (goes.agreed w agrees) lies sound in
          let given = then.learns w t agrees (first.stays w t (goes.agreed w agrees) lies tt) sound in
          (given.0, ap (λ c. c >>= next t) found.1 ∙ same t found.0 sound found.2 ∙ given.1, given.2);
    }
    pass m n before goes first same (Err (Refused status)) then = record {
      stays = λ w t agrees lies is. then.stays w t agrees (first.stays w t (goes.agreed w agrees) lies tt) tt;
      learns = λ w t agrees lies sound.
          let found = first.learns w t (goes.agreed w agrees) lies sound in
          let given = then.learns w t agrees (first.stays w t (goes.agreed w agrees) lies tt) sound in
          ap (λ c. c >>= next t) found.1 ∙ same t found.0 sound found.2 ∙ given;
    }
    pass m n before goes first same (Err (Fault fault)) then =
        gives_up_behind m n IsSound IsSound (λ t. t) before goes (λ w t agrees lies is. first.stays w t agrees lies tt)
        (λ t is. is) fault then

module _ {S W : Type 0} (told : PairsTold S W) (old new : S) {A B X Y : Type 0} (Finds : X → A → Type 0) (Gives : Y → B → Type 0)
    (check : Tree → Check A) (next : Tree → A → Check B) where
  -- a first check that refuses decides
  pub refuse : (halt : Halt) → Checked told Finds old new check (Err halt)
      → Checked told Gives old new (λ t. check t >>= next t) (Err halt)
  refuse (Refused status) first = record {
    stays = first.stays;
    learns = λ w t agrees lies sound. ap (λ c. c >>= next t) (first.learns w t agrees lies sound);
  }
  refuse (Fault fault) first = first
