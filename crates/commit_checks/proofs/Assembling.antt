-- A transaction that may be committed.
use Rattle.std.proofs.Common.{◌≡◌, ℕ, ◌<◌, List, [], ◌∷◌, arith, refl, sym, subst}
use Rattle.std.proofs.lemmas.List.Elements.{All-nil, All-cons, All-contains}
use Rattle.pair_types.specs.declared.slot.Tid.{Tid}
use Rattle.page_types.specs.Fair.{Known, AreKnown}
use Rattle.page_types.specs.Fused.{fused}
use Rattle.page_types.specs.Ports.{PortState}
use Rattle.fabric.specs.Shown.{Held, port_of}
use Rattle.two_phase.specs.declared.parts.Part.{Part}
use Rattle.two_phase.specs.Parts.{carries}
use Rattle.commit_checks.specs.Rights.{known_by, IsPart, ArePartsOf, IsNew, MayCommit}
use Rattle.commit_checks.proofs.Knowing.{none_of_own}

module _ (stores : ℕ) (known : Known) where
  pub one_part : (a : Part) → IsPart stores known a → ArePartsOf stores known (a ∷ [])
  one_part a h = record {
    some = omega arith;
    rise = tt;
    all = λ part c. All-contains (IsPart stores known) (a ∷ []) part
        (All-cons (IsPart stores known) a [] h (All-nil (IsPart stores known))) c;
  }

  pub two_parts : (a b : Part) → a.store < b.store → IsPart stores known a → IsPart stores known b →
      ArePartsOf stores known (a ∷ b ∷ [])
  two_parts a b l h g = record {
    some = omega arith;
    rise = (l, tt);
    all = λ part c. All-contains (IsPart stores known) (a ∷ b ∷ []) part
        (All-cons (IsPart stores known) a (b ∷ []) h
        (All-cons (IsPart stores known) b [] g (All-nil (IsPart stores known)))) c;
  }

  -- one part more, before two
  pub before_two : (a b d : Part) → a.store < b.store → IsPart stores known a → ArePartsOf stores known (b ∷ d ∷ []) →
      ArePartsOf stores known (a ∷ b ∷ d ∷ [])
  before_two a b d l h are = record {
    some = omega arith;
    rise = (l, are.rise);
    all = λ part c. All-contains (IsPart stores known) (a ∷ b ∷ d ∷ []) part
        (All-cons (IsPart stores known) a (b ∷ d ∷ []) h
        (All-cons (IsPart stores known) b (d ∷ []) (are.all b (0, omega arith, refl))
        (All-cons (IsPart stores known) d [] (are.all d (1, omega arith, refl)) (All-nil (IsPart stores known))))) c;
  }

-- the transaction may be committed over a new port of its pass
pub may_be : {W : Type 0} (p : Held W) (tid : Tid) (parts : List Part) → p.pass ≡ tid.pass →
    IsNew p.fabric.origin.stores p.fabric.journal tid parts → MayCommit (port_of p) tid parts
may_be p tid parts pass is = record {
  of_pass = record { own = sym pass; serial = is.serial };
  fresh = none_of_own (carries tid) p.pass p.fabric.journal is.fresh;
  some = is.are_parts.some;
  rise = is.are_parts.rise;
  below = λ part c. (is.are_parts.all part c).below;
  accesses = λ part c. (is.are_parts.all part c).accesses;
  are_known = λ part c. subst (λ who. AreKnown (known_by who p.fabric.journal) part.store part.reads) (sym pass)
      (is.are_parts.all part c).are_known;
  entry = tt;
  right = λ under state agrees stands. tt;
}

-- and over one that stops after some steps
pub may_fused : (p : PortState) (stops : ℕ) (tid : Tid) (parts : List Part) → MayCommit p tid parts →
    MayCommit (fused p stops) tid parts
may_fused p stops tid parts may = record {
  of_pass = may.of_pass;
  fresh = may.fresh;
  some = may.some;
  rise = may.rise;
  below = may.below;
  accesses = may.accesses;
  are_known = may.are_known;
  entry = may.entry;
  right = may.right;
}
