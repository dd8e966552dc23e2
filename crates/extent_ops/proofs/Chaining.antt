-- Calls one after another, by what they make of versions, and why they give up.
use Rattle.std.proofs.Common.{◌≡◌, ℕ, ◌+◌, ◌≤◌, inl, inr, refl, sym, subst, arith}
use Rattle.nfs3_types.specs.Count.{Rose}
use Rattle.pair_types.specs.declared.fault.PairFault.{PairFault}
use Rattle.pair_types.specs.declared.fault.PairFault.TheVariants.{Odd, HeightFull, Page}
use Rattle.pair_types.specs.PageState.{no_memory}
use Rattle.pairs.specs.Versions.{Versions, HasLives}
use Rattle.pairs.specs.Told.{PairsTold, Goes, Tells, Moves, GivesUp, PutGivesUp}
use Rattle.extent_ops.specs.Steps.{Makes}

rises_behind : (a b c : ℕ) → a ≤ b → Rose b c → Rose a c
rises_behind a b c first then = omega (arith, first, then)

at_least : (a b c : ℕ) → a ≤ b → b ≤ c → a ≤ c
at_least a b c p q = omega arith

few_both : (a b c m n k : ℕ) → b ≤ a + m → c ≤ b + n → m + n ≤ k → c ≤ a + k
few_both a b c m n k p q r = omega arith

few_more : (a b m n : ℕ) → b ≤ a + m → m ≤ n → b ≤ a + n
few_more a b m n p q = omega arith

same_few : (a n : ℕ) → a ≤ a + n
same_few a n = omega arith

same_least : (a : ℕ) → a ≤ a
same_least a = omega arith

module _ {S W : Type 0} (told : PairsTold S W) where
  -- ---- what goes on

  pub goes-still : (s : S) (n : ℕ) → Goes told s s n
  goes-still s n = record {
    agreed = λ w agrees. agrees;
    faults = λ fault. same_least (told.faults s fault);
    puts = same_least (told.puts s);
    few = same_few (told.puts s) n;
    clean = λ clean. clean;
  }

  pub goes-more : (old new : S) (m n : ℕ) → m ≤ n → Goes told old new m → Goes told old new n
  goes-more old new m n more goes = record {
    agreed = goes.agreed;
    faults = goes.faults;
    puts = goes.puts;
    few = few_more (told.puts old) (told.puts new) m n goes.few more;
    clean = goes.clean;
  }

  pub goes-both : (old mid new : S) (m n k : ℕ) → m + n ≤ k → Goes told old mid m → Goes told mid new n → Goes told old new k
  goes-both old mid new m n k most first then = record {
    agreed = λ w agrees. first.agreed w (then.agreed w agrees);
    faults = λ fault.
        at_least (told.faults old fault) (told.faults mid fault) (told.faults new fault) (first.faults fault) (then.faults fault);
    puts = at_least (told.puts old) (told.puts mid) (told.puts new) first.puts then.puts;
    few = few_both (told.puts old) (told.puts mid) (told.puts new) m n k first.few then.few most;
    clean = λ clean. then.clean (first.clean clean);
  }

  -- ---- what is made, by one call behind another

  pub makes-both : (old mid new : S) (n : ℕ) (Given Then : Versions → Type 0) (First Next Both : Versions → Versions → Type 0)
      → Goes told mid new n → Makes told old mid Given First → ((v y : Versions) → Given v → First v y → Then y)
      → Makes told mid new Then Next → ((v y z : Versions) → Given v → First v y → Next y z → Both v z)
      → Makes told old new Given Both
  makes-both old mid new n Given Then First Next Both goes first given then both = λ w v agrees shown is.
      let a = first w v (goes.agreed w agrees) shown is in
      let b = then w a.versions agrees a.shown (given v a.versions is a.is) in
      record { versions = b.versions; shown = b.shown; is = both v a.versions b.versions is a.is b.is }

  -- ---- why a call gives up

  pub gives-up-memory : (old new : S) (Given : Versions → Type 0) (fault : PairFault) → fault ≡ Page no_memory
      → GivesUp told old new Given fault
  gives-up-memory old new Given fault is = subst (GivesUp told old new Given) (sym is) (inl refl)

  pub put-gives-up-memory : (old new : S) (Given : Versions → Type 0) (fault : PairFault) → fault ≡ Page no_memory
      → PutGivesUp told old new Given fault
  put-gives-up-memory old new Given fault is = subst (PutGivesUp told old new Given) (sym is) (inl refl)

  -- where more is given
  pub gives-up-given : (old new : S) (Given Less : Versions → Type 0) (fault : PairFault)
      → ((v : Versions) → Given v → Less v) → GivesUp told old new Less fault → GivesUp told old new Given fault
  gives-up-given old new Given Less Odd less none = λ w v agrees shown is. none w v agrees shown (less v is)
  gives-up-given old new Given Less HeightFull less none = none
  gives-up-given old new Given Less (Page fault) less none = none

  pub gives-up-put : (old new : S) (Given : Versions → Type 0) (fault : PairFault) → GivesUp told old new Given fault
      → PutGivesUp told old new Given fault
  gives-up-put old new Given Odd none = none
  gives-up-put old new Given HeightFull none = absurd none
  gives-up-put old new Given (Page fault) none = none

  pub put-gives-up-given : (old new : S) (Given Less : Versions → Type 0) (fault : PairFault)
      → ((v : Versions) → Given v → Less v) → PutGivesUp told old new Less fault → PutGivesUp told old new Given fault
  put-gives-up-given old new Given Less Odd less none = λ w v agrees shown is. none w v agrees shown (less v is)
  put-gives-up-given old new Given Less HeightFull less high = high
  put-gives-up-given old new Given Less (Page fault) less cause = cause

  -- a call that puts nothing, where more is given
  pub put-gives-up-first : (old new : S) (Given Less : Versions → Type 0) (fault : PairFault)
      → ((v : Versions) → Given v → Less v) → GivesUp told old new Less fault → PutGivesUp told old new Given fault
  put-gives-up-first old new Given Less fault less none =
      gives-up-put old new Given fault (gives-up-given old new Given Less fault less none)

  -- behind a first call
  pub gives-up-behind : (old mid new : S) (m n : ℕ) (Given Then : Versions → Type 0) (First : Versions → Versions → Type 0)
      (fault : PairFault) → Goes told old mid m → Goes told mid new n → Makes told old mid Given First
      → ((v y : Versions) → Given v → First v y → Then y) → GivesUp told mid new Then fault → GivesUp told old new Given fault
  gives-up-behind old mid new m n Given Then First Odd before goes first given none = λ w v agrees shown is.
      let a = first w v (goes.agreed w agrees) shown is in
      none w a.versions agrees a.shown (given v a.versions is a.is)
  gives-up-behind old mid new m n Given Then First HeightFull before goes first given none = none
  gives-up-behind old mid new m n Given Then First (Page fault) before goes first given (inl lacks) = inl lacks
  gives-up-behind old mid new m n Given Then First (Page fault) before goes first given (inr rose) =
      inr (rises_behind (told.faults old fault) (told.faults mid fault) (told.faults new fault) (before.faults fault) rose)

  pub put-gives-up-behind : (old mid new : S) (m n : ℕ) (Given Then : Versions → Type 0)
      (First : Versions → Versions → Type 0) (fault : PairFault) → Goes told old mid m → Goes told mid new n
      → Makes told old mid Given First → ((v y : Versions) → Given v → First v y → Then y)
      → PutGivesUp told mid new Then fault → PutGivesUp told old new Given fault
  put-gives-up-behind old mid new m n Given Then First Odd before goes first given none =
      gives-up-behind old mid new m n Given Then First Odd before goes first given none
  put-gives-up-behind old mid new m n Given Then First HeightFull before goes first given high = λ clean few.
      high (before.clean clean) few
  put-gives-up-behind old mid new m n Given Then First (Page fault) before goes first given cause =
      gives-up-behind old mid new m n Given Then First (Page fault) before goes first given cause

  -- ---- calls of a transaction, as what they make

  -- one that only reads: what was shown is shown, and this much is so of it
  pub record Stays (IsSo : Versions → Type 0) (v z : Versions) : Type 0 where
    pub same : z ≡ v
    pub is : IsSo v

  pub tells-makes : (old new : S) (Given IsSo : Versions → Type 0) → ((v : Versions) → Given v → HasLives v)
      → Tells told old new IsSo → Makes told old new Given (Stays IsSo)
  tells-makes old new Given IsSo lives tells = λ w v agrees shown given. record {
    versions = v;
    shown = tells.shows w v agrees shown;
    is = record { same = refl; is = tells.finds w v agrees shown (lives v given) };
  }

  pub moves-makes : (old new : S) (Given Less : Versions → Type 0) (edit : Versions → Versions)
      → ((v : Versions) → Given v → Less v) → Moves told old new Less edit → Makes told old new Given (λ v z. z ≡ edit v)
  moves-makes old new Given Less edit less moves = λ w v agrees shown given. record {
    versions = edit v;
    shown = moves w v agrees shown (less v given);
    is = refl;
  }

  -- two calls that only read
  pub tells-both : (old mid new : S) (n : ℕ) (P Q Both : Versions → Type 0) → Goes told mid new n → Tells told old mid P
      → Tells told mid new Q → ((v : Versions) → P v → Q v → Both v) → Tells told old new Both
  tells-both old mid new n P Q Both goes first then both = record {
    shows = λ w v agrees shown. then.shows w v agrees (first.shows w v (goes.agreed w agrees) shown);
    finds = λ w v agrees shown lives. both v (first.finds w v (goes.agreed w agrees) shown lives)
        (then.finds w v agrees (first.shows w v (goes.agreed w agrees) shown) lives);
  }

  -- and why the second gives up
  pub gives-up-reading : (old mid new : S) (m n : ℕ) (P : Versions → Type 0) (fault : PairFault) → Goes told old mid m
      → Goes told mid new n → Tells told old mid P → GivesUp told mid new HasLives fault → GivesUp told old new HasLives fault
  gives-up-reading old mid new m n P fault before goes first none =
      gives-up-behind old mid new m n HasLives HasLives (Stays P) fault before goes
      (tells-makes old mid HasLives P (λ v lives. lives) first)
      (λ v y lives stays. subst HasLives (sym stays.same) lives) none
