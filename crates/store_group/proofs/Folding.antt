-- A store that obeyed a log, and then what joins the log.
use Rattle.std.proofs.Common.{◌≡◌, ℕ, ◌+◌, Bool, true, false, List, [], ◌∷◌, ◌++◌, length, Option, Some, None, Result, Ok, Err}
use Rattle.std.proofs.Common.{refl, ap, sym, ◌∙◌, subst, arith, length-append, append_assoc}
use Rattle.page_types.specs.declared.command.Command.{Command}
use Rattle.page_types.specs.Stores.{StoreState}
use Rattle.page_types.specs.Obeys.{after, after_all}
use Rattle.page_store.specs.Shown.{after_maybe, number_of}
use Rattle.page_types.specs.declared.answer.Answer.{Answer}
use Rattle.pair_types.specs.declared.fault.StepFault.{StepFault}
use Rattle.paxos_group.specs.Formed.{list_of}
use Rattle.store_group.specs.Behind.{late_of, late_command, own_command, settled_by}

pub fold_append : (s : StoreState) (xs ys : List Command) → after_all s (xs ++ ys) ≡ after_all (after_all s xs) ys
fold_append s [] ys = refl
fold_append s (x ∷ xs) ys = fold_append (after s x) xs ys

fold_maybe : (s : StoreState) (d : Option Command) → after_all s (list_of d) ≡ after_maybe s d
fold_maybe s None = refl
fold_maybe s (Some c) = refl

length_maybe : (d : Option Command) → length (list_of d) ≡ number_of d
length_maybe None = refl
length_maybe (Some c) = refl

-- once the pending command has joined it
pub folds_late : (s0 s new : StoreState) (log later : List Command) (d : Option Command) → later ≡ log ++ list_of d →
    s ≡ after_all s0 log → new ≡ after_maybe s d → new ≡ after_all s0 later
folds_late s0 s new log later d is old to =
    to ∙ (ap (λ x. after_maybe x d) old ∙ (sym (fold_maybe (after_all s0 log) d) ∙
    (sym (fold_append s0 log (list_of d)) ∙ ap (λ l. after_all s0 l) (sym is))))

-- once both have
pub folds_both : (s0 s new : StoreState) (log later : List Command) (d : Option Command) (c : Command)
    → later ≡ (log ++ list_of d) ++ c ∷ [] →
    s ≡ after_all s0 log → new ≡ after (after_maybe s d) c → new ≡ after_all s0 later
folds_both s0 s new log later d c is old to =
    to ∙ (ap (λ x. after x c) (folds_late s0 s (after_maybe s d) log (log ++ list_of d) d refl old refl) ∙
    (sym (fold_append s0 (log ++ list_of d) (c ∷ [])) ∙ ap (λ l. after_all s0 l) (sym is)))

pub counts_late : (n m : ℕ) (log later : List Command) (d : Option Command) → later ≡ log ++ list_of d → n ≡ length log →
    m ≡ n + number_of d → m ≡ length later
counts_late n m log later d is old to =
    let k : length later ≡ length (log ++ list_of d) = ap (λ (l : List Command). length l) is in
    let a = length-append log (list_of d) in
    let b = length_maybe d in
    omega arith

pub counts_both : (n m : ℕ) (log later : List Command) (d : Option Command) (c : Command) → later ≡ (log ++ list_of d) ++ c ∷ []
    → n ≡ length log →
    m ≡ n + number_of d + 1 → m ≡ length later
counts_both n m log later d c is old to =
    let k : length later ≡ length ((log ++ list_of d) ++ c ∷ []) = ap (λ (l : List Command). length l) is in
    let a = length-append log (list_of d) in
    let e = length-append (log ++ list_of d) (c ∷ []) in
    let b = length_maybe d in
    let one : length (c ∷ []) ≡ 1 = refl in
    omega arith

-- ## What joins the log

append_none : {A : Type 0} (xs : List A) → xs ++ [] ≡ xs
append_none [] = refl
append_none (x ∷ xs) = ap (λ l. x ∷ l) (append_none xs)

late_list : (s : StoreState) (d : Option Command) → late_command (late_of s d) ≡ list_of d
late_list s None = refl
late_list s (Some c) = refl

pub joins_both : (s : StoreState) (log later : List Command) (d : Option Command) (c : Command) (late : Option (Command × Answer))
    (a : Answer) →
    later ≡ (log ++ list_of d) ++ c ∷ [] → late ≡ late_of s d → later ≡ log ++ settled_by late (Ok a) c
joins_both s log later d c late a is was =
    is ∙ (append_assoc log (list_of d) (c ∷ []) ∙ ap (λ l. log ++ (l ++ c ∷ [])) (sym (ap late_command was ∙ late_list s d)))

pub joins_late : (s : StoreState) (log later : List Command) (d : Option Command) (c : Command) (late : Option (Command × Answer))
    (f : StepFault) →
    later ≡ log ++ list_of d → late ≡ late_of s d → later ≡ log ++ settled_by late (Err f) c
joins_late s log later d c late f is was =
    is ∙ ap (λ l. log ++ l) (sym (append_none (late_command late) ∙ (ap late_command was ∙ late_list s d)))

pub joins_none : (log later : List Command) (c : Command) (late : Option (Command × Answer)) (f : StepFault) →
    later ≡ log → late ≡ None → later ≡ log ++ settled_by late (Err f) c
joins_none log later c late f is was =
    is ∙ (sym (append_none log) ∙ ap (λ l. log ++ settled_by l (Err f) c) (sym was))
