-- The two small journals are lawful, and each has its call once.
use Rattle.std.proofs.Common.{◌≡◌, ◌≢◌, ℕ, zero, suc, ◌<◌, ◌≤◌, ◌==◌, Bool, true, false, cond, ◌&&◌, List, [], ◌∷◌, Some, None}
use Rattle.std.proofs.Common.{refl, ap, sym, subst, arith, IsSome, inl, inr, ◌⊎◌}
use Rattle.std.specs.List.{Contains, All}
use Rattle.std.proofs.lemmas.List.Elements.{All-from_recursion}
use Rattle.pair_types.specs.PageMaps.{page_of}
use Rattle.nfs3_types.specs.declared.entry.Entry.{Entry}
use Rattle.page_types.specs.declared.command.Part.{Part}
use Rattle.page_types.specs.declared.command.Command.TheVariants.{Prepare}
use Rattle.page_types.specs.declared.answer.Answer.TheVariants.{Prepared}
use Rattle.page_types.specs.declared.journal.JEntry.{JEntry}
use Rattle.page_types.specs.declared.journal.JEntry.TheVariants.{Took, Doubted}
use Rattle.page_types.specs.Journals.{own}
use Rattle.page_types.specs.Accesses.{read_at}
use Rattle.page_types.specs.Asked.{first_of, part_asked, WasPrepared}
use Rattle.page_types.specs.Fair.{IsRight, CommitFair, reads_of_all, writes_of_all}
use Rattle.serial_rules.specs.Contents.{content_at}
use Rattle.serial_rules.specs.Lawful.{IsLawful}
use Rattle.serial_rules.specs.Sample.{stands_for_root, page_after, rewrites_root, two_stores, its_tid, its_entry, root_part}
use Rattle.serial_rules.specs.Sample.{other_part, its_commit, prepared_sample, sample}
use Rattle.serial_core.proofs.Basics.{cond_some, eq_true, eq_not}
use Rattle.serial_core.proofs.Sampling.{is_sample}
use Rattle.call_accounts.specs.Asked.{Replied, Unanswered, called_in}
use Rattle.call_accounts.specs.Calls.{IsWithin, asks_for, StandsOnce, MayStand, CallEnds}
use Rattle.call_accounts.specs.Calls.{early_span}
use Rattle.call_accounts.specs.Sample.{told_sample, span_in, its_call, HasCall, IsSample}

-- ## The decision may be asked

-- its stores are 0 and 1
of_two : (x : ℕ) → Contains (0 ∷ 1 ∷ []) x → (0 ≡ x) ⊎ (1 ≡ x)
of_two x (zero, lt, is) = inl is
of_two x (suc zero, lt, is) = inr is
of_two x (suc (suc k), lt, is) = absurd (omega (arith, lt))

known_part : (q n v : ℕ) (part : Part) → (q ≡ 0) × (root_part ≡ part) ⊎ (q ≡ 1) × (other_part ≡ part) →
    read_at part.reads n ≡ Some v → IsSome (content_at two_stores prepared_sample q n v)
known_part q n v part (inl (q_is, is)) h =
    let h' : read_at root_part.reads n ≡ Some v = subst (λ (x : Part). read_at x.reads n ≡ Some v) (sym is) h in
    let a = cond_some (0 == n) 1 v h' in
    subst (λ q. IsSome (content_at two_stores prepared_sample q n v)) (sym q_is)
    (subst (λ n. IsSome (content_at two_stores prepared_sample 0 n v)) (eq_true 0 n a.0)
    (subst (λ v. IsSome (content_at two_stores prepared_sample 0 0 v)) a.1 refl))
known_part q n v part (inr (q_is, is)) h =
    let h' : read_at other_part.reads n ≡ Some v = subst (λ (x : Part). read_at x.reads n ≡ Some v) (sym is) h in
    let a = cond_some (0 == n) 0 v h' in
    subst (λ q. IsSome (content_at two_stores prepared_sample q n v)) (sym q_is)
    (subst (λ n. IsSome (content_at two_stores prepared_sample 1 n v)) (eq_true 0 n a.0)
    (subst (λ v. IsSome (content_at two_stores prepared_sample 1 0 v)) a.1 refl))

which_part : (q : ℕ) (part : Part) → part_asked prepared_sample its_tid q ≡ Some part →
    (q ≡ 0) × (root_part ≡ part) ⊎ (q ≡ 1) × (other_part ≡ part)
which_part q part h = at (0 == q) refl (1 == q) refl h
  where
    at : (b : Bool) → (0 == q) ≡ b → (d : Bool) → (1 == q) ≡ d →
        first_of (first_of None (cond (b && true) (Some root_part) None)) (cond (d && true) (Some other_part) None) ≡ Some part →
        (q ≡ 0) × (root_part ≡ part) ⊎ (q ≡ 1) × (other_part ≡ part)
    at true is d d_is h = inl (sym (eq_true 0 q is), cc)
    at false is true d_is h = inr (sym (eq_true 1 q d_is), cc)
    at false is false d_is h = absurd cc

its_right : IsRight stands_for_root rewrites_root (reads_of_all (content_at two_stores prepared_sample) prepared_sample its_tid)
    (writes_of_all prepared_sample its_tid) (Some its_entry)
its_right under state agrees st = (page_after, (sym (ap page_of st), refl), refl)

commit_fair : CommitFair stands_for_root rewrites_root (content_at two_stores prepared_sample) prepared_sample 0 0 its_tid
    (Some its_entry)
commit_fair = record {
  of_pass = record { own = refl; serial = omega arith };
  plan = record { home = 0; parts = 0 ∷ 1 ∷ [] };
  planned = refl;
  home = refl;
  again = tt;
  prepared = λ q h. elim (of_two q h) [
    | inl is ↦ subst (WasPrepared prepared_sample its_tid) is refl
    | inr is ↦ subst (WasPrepared prepared_sample its_tid) is refl
  ];
  are_known = λ q part is n v h. known_part q n v part (which_part q part is) h;
  entry = (refl, refl);
  right = its_right;
}

is_lawful : IsLawful stands_for_root rewrites_root two_stores told_sample
is_lawful = (is_sample.lawful.0.0.0, (record { given = refl; waited = refl }, commit_fair))

-- ## Its call

only_one : (es : List JEntry) (n : ℕ) → IsWithin (span_in es) n → n ≢ 1 → ⊥
only_one es n within ne = let l = within.low in let h = within.high in ne (omega (arith, l, h))

none_below : (n : ℕ) → n < 1 → n ≡ 0
none_below n lt = omega (arith, lt)

not_its : (n : ℕ) → 2 ≤ n → (1 == n) ≡ false
not_its n le = eq_not 1 n (λ is. omega (arith, is, le))

told_once : StandsOnce (early_span (span_in told_sample) 2 (own 0 told_sample)) (called_in its_entry) its_entry.reply
told_once = record {
  serial = 1;
  within = record { low = omega arith; high = omega arith };
  answered = refl;
  others = λ n within ne. absurd (only_one told_sample n (record { low = within.low; high = within.high }) ne);
}

told_ends : CallEnds (early_span (span_in told_sample) 2 (own 0 told_sample)) (its_call (Replied its_entry.reply))
told_ends = record {
  rises = omega arith;
  from = λ n lt. rw (none_below n lt) refl;
  below = λ n le. rw (not_its n le) refl;
  stands = told_once;
  cause = tt;
}

told_call : HasCall told_sample (Replied its_entry.reply)
told_call = record {
  lawful = is_lawful;
  span = record { later = []; own_is = refl; new = λ n le. refl; alone = λ n within. refl };
  calls = (2, own 0 told_sample, [], refl, told_ends, (refl, refl));
  stands = refl;
}

-- it is asked for its call, if for any
abbrev IsForIt : JEntry → Type 0
IsForIt e = (entry : Entry) → asks_for its_tid e ≡ Some entry → called_in entry ≡ called_in its_entry

commit_for : IsForIt (Doubted 0 0 its_commit)
commit_for entry is = let same : its_entry ≡ entry = cc in ap called_in (sym same)

prepare_for : (part : Part) (store : ℕ) → IsForIt (Took 0 store (Prepare part) Prepared)
prepare_for part store entry is = absurd cc

asked_late : All IsForIt (own 0 sample)
asked_late = All-from_recursion IsForIt (own 0 sample)
    (commit_for, (prepare_for other_part 1, (prepare_for root_part 0, tt)))

may_stand : MayStand (early_span (span_in sample) 2 (own 0 sample)) (called_in its_entry)
may_stand = record {
  serial = 1;
  asked = asked_late;
  others = λ n within ne. absurd (only_one sample n (record { low = within.low; high = within.high }) ne);
}

late_ends : CallEnds (early_span (span_in sample) 2 (own 0 sample)) (its_call Unanswered)
late_ends = record {
  rises = omega arith;
  from = λ n lt. rw (none_below n lt) refl;
  below = λ n le. rw (not_its n le) refl;
  stands = may_stand;
  cause = tt;
}

late_call : HasCall sample Unanswered
late_call = record {
  lawful = is_sample.lawful;
  span = record { later = []; own_is = refl; new = λ n le. refl; alone = λ n within. refl };
  calls = (2, own 0 sample, [], refl, late_ends, (refl, refl));
  stands = refl;
}

pub is_sample_accounted : IsSample
is_sample_accounted = record { acknowledged = told_call; late = late_call }
