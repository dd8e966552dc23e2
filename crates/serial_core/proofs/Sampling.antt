-- The sample is a lawful journal.
use Rattle.std.proofs.Common.{◌≡◌, ℕ, zero, suc, ◌<◌, ◌==◌, Bool, true, false, cond, ◌&&◌, List, [], ◌∷◌, Option, Some, None}
use Rattle.std.proofs.Common.{refl, ap, sym, subst, arith, IsSome, inl, inr, ◌⊎◌}
use Rattle.std.specs.List.{Contains}
use Rattle.pair_types.specs.PageMaps.{page_of}
use Rattle.page_types.specs.declared.command.Part.{Part}
use Rattle.page_types.specs.declared.command.Command.TheVariants.{Read, Prepare}
use Rattle.page_types.specs.declared.answer.Answer.TheVariants.{Prepared, Busy}
use Rattle.page_types.specs.declared.journal.JEntry.{JEntry}
use Rattle.page_types.specs.declared.journal.JEntry.TheVariants.{Took}
use Rattle.page_types.specs.Accesses.{read_at, AreAccesses}
use Rattle.page_types.specs.Asked.{first_of, part_asked, WasPrepared}
use Rattle.page_types.specs.Fair.{IsRight, PartFair, CommitFair, reads_of_all, writes_of_all}
use Rattle.serial_rules.specs.Contents.{content_at}
use Rattle.serial_rules.specs.Lawful.{IsLawful}
use Rattle.serial_rules.specs.Sample.{stands_for_root, page_after, rewrites_root, two_stores, its_tid, its_entry, root_part}
use Rattle.serial_rules.specs.Sample.{other_part, prepared_sample, sample, IsSample}
use Rattle.serial_core.proofs.Basics.{cond_some, eq_true}

-- its stores are 0 and 1
of_two : (x : ℕ) → Contains (0 ∷ 1 ∷ []) x → (0 ≡ x) ⊎ (1 ≡ x)
of_two x (zero, lt, is) = inl is
of_two x (suc zero, lt, is) = inr is
of_two x (suc (suc k), lt, is) = absurd (omega (arith, lt))

here_zero : Contains {X = ℕ} (0 ∷ 1 ∷ []) 0
here_zero = (0, omega arith, refl)

here_one : Contains {X = ℕ} (0 ∷ 1 ∷ []) 1
here_one = (1, omega arith, refl)

below_two : (x : ℕ) → Contains (0 ∷ 1 ∷ []) x → x < 2
below_two x h = elim (of_two x h) [ inl is ↦ omega (arith, is) | inr is ↦ omega (arith, is) ]

-- one page is read, and it is written
one_access : (v : ℕ) (page : List ℕ) →
    AreAccesses (record { number = 0; version = v } ∷ []) (record { number = 0; content = page } ∷ [])
one_access v page = record { reads_rise = tt; writes_rise = tt; are_read = λ n h. at (0 == n) h }
  where
    at : (b : Bool) → IsSome (cond b (Some page) None) → IsSome (cond {A = Option ℕ} b (Some v) None)
    at true h = refl
    at false h = absurd cc

root_fair : PartFair 2 [] 0 0 root_part
root_fair = record {
  of_pass = record { own = refl; serial = omega arith };
  accesses = one_access 1 page_after;
  not_alone = refl;
  again = tt;
  planned = tt;
  here = here_zero;
  home = here_zero;
  lowest = λ x h. omega arith;
  below = below_two;
}

other_fair : PartFair 2 (Took 0 0 (Prepare root_part) Prepared ∷ []) 0 1 other_part
other_fair = record {
  of_pass = record { own = refl; serial = omega arith };
  accesses = one_access 0 (8 ∷ []);
  not_alone = refl;
  again = tt;
  planned = refl;
  here = here_one;
  home = here_zero;
  lowest = λ x h. omega arith;
  below = below_two;
}

-- the journal before the decision is asked
abbrev before_commit : List JEntry
before_commit = Took 1 1 (Read 0) (Busy 0 its_tid 0 (0 ∷ 1 ∷ [])) ∷ prepared_sample

known_part : (q n v : ℕ) (part : Part) → (q ≡ 0) × (root_part ≡ part) ⊎ (q ≡ 1) × (other_part ≡ part) →
    read_at part.reads n ≡ Some v → IsSome (content_at two_stores before_commit q n v)
known_part q n v part (inl (q_is, is)) h =
    let h' : read_at root_part.reads n ≡ Some v = subst (λ (x : Part). read_at x.reads n ≡ Some v) (sym is) h in
    let a = cond_some (0 == n) 1 v h' in
    subst (λ q. IsSome (content_at two_stores before_commit q n v)) (sym q_is)
    (subst (λ n. IsSome (content_at two_stores before_commit 0 n v)) (eq_true 0 n a.0)
    (subst (λ v. IsSome (content_at two_stores before_commit 0 0 v)) a.1 refl))
known_part q n v part (inr (q_is, is)) h =
    let h' : read_at other_part.reads n ≡ Some v = subst (λ (x : Part). read_at x.reads n ≡ Some v) (sym is) h in
    let a = cond_some (0 == n) 0 v h' in
    subst (λ q. IsSome (content_at two_stores before_commit q n v)) (sym q_is)
    (subst (λ n. IsSome (content_at two_stores before_commit 1 n v)) (eq_true 0 n a.0)
    (subst (λ v. IsSome (content_at two_stores before_commit 1 0 v)) a.1 refl))

which_part : (q : ℕ) (part : Part) → part_asked before_commit its_tid q ≡ Some part →
    (q ≡ 0) × (root_part ≡ part) ⊎ (q ≡ 1) × (other_part ≡ part)
which_part q part h = at (0 == q) refl (1 == q) refl h
  where
    at : (b : Bool) → (0 == q) ≡ b → (d : Bool) → (1 == q) ≡ d →
        first_of (first_of (first_of None (cond (b && true) (Some root_part) None)) (cond (d && true) (Some other_part) None))
        None ≡ Some part →
        (q ≡ 0) × (root_part ≡ part) ⊎ (q ≡ 1) × (other_part ≡ part)
    at true is d d_is h = inl (sym (eq_true 0 q is), cc)
    at false is true d_is h = inr (sym (eq_true 1 q d_is), cc)
    at false is false d_is h = absurd cc

its_right : IsRight stands_for_root rewrites_root (reads_of_all (content_at two_stores before_commit) before_commit its_tid)
    (writes_of_all before_commit its_tid) (Some its_entry)
its_right under state agrees st = (page_after, (sym (ap page_of st), refl), refl)

commit_fair : CommitFair stands_for_root rewrites_root (content_at two_stores before_commit) before_commit 0 0 its_tid
    (Some its_entry)
commit_fair = record {
  of_pass = record { own = refl; serial = omega arith };
  plan = record { home = 0; parts = 0 ∷ 1 ∷ [] };
  planned = refl;
  home = refl;
  again = tt;
  prepared = λ q h. elim (of_two q h) [
    | inl is ↦ subst (WasPrepared before_commit its_tid) is refl
    | inr is ↦ subst (WasPrepared before_commit its_tid) is refl
  ];
  are_known = λ q part is n v h. known_part q n v part (which_part q part is) h;
  entry = (refl, refl);
  right = its_right;
}

is_lawful : IsLawful stands_for_root rewrites_root two_stores sample
is_lawful = (
  (
    (
      ((tt, (record { given = refl; waited = refl }, root_fair)), (record { given = refl; waited = refl }, other_fair)),
      (record { given = refl; waited = refl }, tt),
    ),
    commit_fair,
  ),
  record { given = refl; waited = refl },
)

pub is_sample : IsSample
is_sample = record { begins = refl; lawful = is_lawful; held = refl; late = refl; told = refl }
