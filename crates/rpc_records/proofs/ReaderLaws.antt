-- What the reader's steps say about the present record.
use Rattle.std.proofs.Common.{◌≡◌, ℕ, zero, suc, ◌+◌, ◌-◌, ◌*◌, ◌<◌, ◌≤◌, Bool, false, List, [], ◌++◌, length, take, drop, Result}
use Rattle.std.proofs.Common.{Ok, Err, Option, Some, None, refl, sym, ap, subst, ◌∙◌, append_assoc, length-append, length-take}
use Rattle.std.proofs.Common.{length-drop, arith}
use Rattle.std.proofs.Math.Seq.{take-add}
use Rattle.std.proofs.lemmas.List.{take_all, take-append-drop, append-nil}
use Rattle.std.proofs.lemmas.Bool.{ne_eqb}
use Rattle.std.specs.Prelude.{nat_eq}
use Rattle.rpc_records.specs.declared.limits.TheConstants.{MOST_BYTES, MOST_FRAGMENTS}
use Rattle.rpc_records.specs.declared.fault.RecordFault.{RecordFault}
use Rattle.rpc_records.specs.declared.fault.RecordFault.TheVariants.{TooLong, TooManyFragments}
use Rattle.rpc_records.specs.declared.stage.Stage.{Stage}
use Rattle.rpc_records.specs.declared.stage.Stage.TheVariants as at
use Rattle.rpc_records.specs.Reading.{head_of, is_last, fragment_length, fragment_at, record_at}
use Rattle.rpc_records.specs.Reading.Reading.{Whole, Partial, Refused}
use Rattle.rpc_records.specs.Progress.{Progress, IsUnfinished, reading_of, taken_of, is_at_edge, refusal_of, Feeds}
use Rattle.rpc_records.specs.Progress.Progress.{InHead, InFragment, Holding, Refusing}
use Rattle.rpc_records.specs.Stage.{progress_at, IsStage}
use Rattle.rpc_records.proofs.RecordLaws.{fragment_at-short, record_at-short, record_at-none, record_at-head, record_at-head_long}
use Rattle.rpc_records.proofs.RecordLaws.{fragment_at-part}

-- ---- behind a whole head

pub record_at-no_fragment : (fragments : ℕ) (content mark text : List ℕ) → fragments ≡ 0 → length mark ≡ 4
    → record_at fragments content (mark ++ text) ≡ Refused TooManyFragments
record_at-no_fragment zero content mark text none long =
    record_at-none content (mark ++ text) (omega (arith, length-append mark text))
record_at-no_fragment (suc n) content mark text none long = absurd (omega arith)

pub record_at-too_long : (fragments x : ℕ) (content mark text : List ℕ) → 0 < fragments → length mark ≡ 4 → head_of mark ≡ x
    → MOST_BYTES < length content + fragment_length x
    → record_at fragments content (mark ++ text) ≡ Refused TooLong
record_at-too_long zero x content mark text some long is passes = absurd (omega arith)
record_at-too_long (suc n) x content mark text some long is passes = record_at-head_long n x content mark text long is passes

pub record_at-fragment : (fragments x : ℕ) (content mark text : List ℕ) → 0 < fragments → length mark ≡ 4 → head_of mark ≡ x
    → length content + fragment_length x ≤ MOST_BYTES
    → record_at fragments content (mark ++ text) ≡ fragment_at (record_at (fragments - 1)) (is_last x)
    (fragment_length x) content text
record_at-fragment zero x content mark text some long is fits = absurd (omega arith)
record_at-fragment (suc n) x content mark text some long is fits =
    let less : n ≡ suc n - 1 = omega arith in
    record_at-head n x content mark text long is fits
    ∙ ap (λ (k : ℕ). fragment_at (record_at k) (is_last x) (fragment_length x) content text) less

-- ---- a step

-- the bytes that complete a head
pub step-head : (fragments n taken : ℕ) (content old new part more : List ℕ) → length new ≤ taken + n
    → take (taken + n) new ≡ take taken old ++ part
    → record_at fragments content (new ++ more) ≡ reading_of (InHead fragments content (take taken old)) (part ++ more)
step-head fragments n taken content old new part more whole filled =
    let all : new ≡ take taken old ++ part = sym (take_all (taken + n) new whole) ∙ filled in
    ap (λ (t : List ℕ). record_at fragments content (t ++ more)) all
    ∙ ap (record_at fragments content) (append_assoc (take taken old) part more)

-- bytes of a fragment
pub step-fragment : (fragments n left : ℕ) (last : Bool) (content piece more : List ℕ) → n ≤ left → n ≤ length piece
    → fragment_at (record_at fragments) last (left - n) (content ++ take n piece) more ≡ reading_of
    (InFragment fragments content last left) (take n piece ++ more)
step-fragment fragments n left last content piece more few enough =
    let part = take n piece in
    let long : length part ≡ n = omega (arith, length-take n piece) in
    let all : length part + (left - n) ≡ left = omega arith in
    sym (fragment_at-part (record_at fragments) last (left - n) content part more)
    ∙ ap (λ (size : ℕ). fragment_at (record_at fragments) last size content (part ++ more)) all

-- ---- before a step

-- what is unfinished is no whole record yet
pub unfinished-partial : (s : Stage) (fragments : ℕ) (content head : List ℕ) → IsStage s fragments (length content)
    → IsUnfinished (progress_at s fragments content head) → reading_of (progress_at s fragments content head) [] ≡ Partial
unfinished-partial (at.Head taken) fragments content head is un =
    record_at-short fragments content (take taken head ++ [])
    (omega (arith, length-append (take taken head) [], length-take taken head))
unfinished-partial (at.Fragment last left) fragments content head is un =
    fragment_at-short (record_at fragments) last left content [] (omega arith)
unfinished-partial at.Whole fragments content head is un = absurd un
unfinished-partial (at.Refused fault) fragments content head is un = absurd un

-- ---- a run of steps

-- one step more
pub goes_on-step : (old mid new : Progress) (piece : List ℕ) (n m : ℕ) → n ≤ length piece
    → ((more : List ℕ) → reading_of mid more ≡ reading_of old (take n piece ++ more))
    → ((more : List ℕ) → reading_of new more ≡ reading_of mid (take m (take (length piece - n) (drop n piece)) ++ more))
    → (more : List ℕ) → reading_of new more ≡ reading_of old (take (n + m) piece ++ more)
goes_on-step old mid new piece n m within before step more =
    let rest : take (length piece - n) (drop n piece) ≡ drop n piece =
    take_all (length piece - n) (drop n piece) (omega (arith, length-drop n piece)) in
    let part = take m (drop n piece) in
    let both : take (n + m) piece ≡ take n piece ++ part = take-add n m piece in
    step more
    ∙ (ap (λ (t : List ℕ). reading_of mid (take m t ++ more)) rest
    ∙ (before (part ++ more)
    ∙ ap (reading_of old) (sym (append_assoc (take n piece) part more) ∙ ap (λ (t : List ℕ). t ++ more) (sym both))))

-- the answer after so many bytes
abbrev pub answer_of : Option RecordFault → ℕ → Result ℕ RecordFault
answer_of None n = Ok n
answer_of (Some fault) n = Err fault

-- what the steps come to, where the record is unfinished
feeds-unfinished : (old now : Progress) (piece : List ℕ) (n : ℕ) → refusal_of now ≡ None
    → ((more : List ℕ) → reading_of now more ≡ reading_of old (take n piece ++ more))
    → taken_of now ≡ taken_of old + n → reading_of now [] ≡ Partial → n ≡ length piece
    → Feeds old piece (answer_of (refusal_of now) n) now
feeds-unfinished old now piece n unrefused reads taken partial all =
    let piece_is : take n piece ++ [] ≡ piece = append-nil (take n piece) ∙ take_all n piece (omega arith) in
    let old_is : reading_of old piece ≡ Partial = sym (ap (reading_of old) piece_is) ∙ (sym (reads []) ∙ partial) in
    rw unrefused (record {
      whole = λ content rest e. let not : Partial ≡ Whole content rest = sym old_is ∙ e in absurd cc;
      partial = λ e. (ap (answer_of None) all, taken ∙ ap (λ (k : ℕ). taken_of old + k) all);
      refused = λ fault e. let not : Partial ≡ Refused fault = sym old_is ∙ e in absurd cc;
      goes_on = reads;
    })

-- what the steps come to, by the reading of the whole piece
feeds-by : (old now : Progress) (piece : List ℕ) (n : ℕ) → n ≤ length piece
    → ((more : List ℕ) → reading_of now more ≡ reading_of old (take n piece ++ more))
    → (IsUnfinished now → taken_of now ≡ taken_of old + n)
    → (IsUnfinished now → reading_of now [] ≡ Partial)
    → (IsUnfinished now → n ≡ length piece)
    → reading_of old piece ≡ reading_of now (drop n piece)
    → Feeds old piece (answer_of (refusal_of now) n) now
feeds-by old (Holding content) piece n within reads taken partial all whole = record {
  whole = λ inner rest e.
      let same : Whole content (drop n piece) ≡ Whole inner rest = sym whole ∙ e in
      let content_is : content ≡ inner = cc in
      let rest_is : drop n piece ≡ rest = cc in
      let count : n ≡ length piece - length rest = omega (arith, ap length rest_is, length-drop n piece) in
      (ap (λ (k : ℕ). answer_of None k) count, ap Holding content_is);
  partial = λ e. let not : Whole content (drop n piece) ≡ Partial = sym whole ∙ e in absurd cc;
  refused = λ fault e. let not : Whole content (drop n piece) ≡ Refused fault = sym whole ∙ e in absurd cc;
  goes_on = reads;
}
feeds-by old (Refusing fault) piece n within reads taken partial all whole = record {
  whole = λ content rest e. let not : Refused fault ≡ Whole content rest = sym whole ∙ e in absurd cc;
  partial = λ e. let not : Refused fault ≡ Partial = sym whole ∙ e in absurd cc;
  refused = λ other e.
      let same : Refused fault ≡ Refused other = sym whole ∙ e in
      let fault_is : fault ≡ other = cc in
      (ap (λ (f : RecordFault). answer_of (Some f) n) fault_is, ap Refusing fault_is);
  goes_on = tt;
}
feeds-by old (InHead fragments content bytes) piece n within reads taken partial all whole =
    feeds-unfinished old (InHead fragments content bytes) piece n refl reads (taken tt) (partial tt) (all tt)
feeds-by old (InFragment fragments content last left) piece n within reads taken partial all whole =
    feeds-unfinished old (InFragment fragments content last left) piece n refl reads (taken tt) (partial tt) (all tt)

-- what the steps come to
pub feeds-from : (old now : Progress) (piece : List ℕ) (n : ℕ) (result : Result ℕ RecordFault)
    → result ≡ answer_of (refusal_of now) n → n ≤ length piece
    → ((more : List ℕ) → reading_of now more ≡ reading_of old (take n piece ++ more))
    → (IsUnfinished now → taken_of now ≡ taken_of old + n)
    → (IsUnfinished now → reading_of now [] ≡ Partial)
    → (IsUnfinished now → n ≡ length piece)
    → Feeds old piece result now
feeds-from old now piece n result is within reads taken partial all =
    let whole : reading_of old piece ≡ reading_of now (drop n piece) =
    sym (reads (drop n piece) ∙ ap (reading_of old) (take-append-drop n piece)) in
    rw is (feeds-by old now piece n within reads taken partial all whole)

-- a kept record takes nothing
pub feeds-kept : (old now : Progress) (piece : List ℕ) (result : Result ℕ RecordFault) → Feeds old piece result now
    → (content : List ℕ) → old ≡ Holding content → (result ≡ Ok 0) × (now ≡ old)
feeds-kept old now piece result f content is =
    let whole = f.whole content piece (ap (λ (p : Progress). reading_of p piece) is) in
    let none : length piece - length piece ≡ 0 = omega arith in
    (whole.0 ∙ ap (answer_of None) none, whole.1 ∙ sym is)

-- a refusal stays
pub feeds-for_good : (old now : Progress) (piece : List ℕ) (result : Result ℕ RecordFault) → Feeds old piece result now
    → (fault : RecordFault) → old ≡ Refusing fault → (result ≡ Err fault) × (now ≡ old)
feeds-for_good old now piece result f fault is =
    let refused = f.refused fault (ap (λ (p : Progress). reading_of p piece) is) in
    (refused.0, refused.1 ∙ sym is)

-- ---- at the edge

-- a part of a head is no edge
pub at_edge-head : (s : Stage) (taken fragments : ℕ) (content head : List ℕ) (now : Progress)
    → progress_at s fragments content head ≡ now → s ≡ at.Head taken → 0 < length head → 0 < taken → false ≡ is_at_edge now
at_edge-head s taken fragments content head now view is within some =
    let n = 4 * (MOST_FRAGMENTS - fragments) + length content + length (take taken head) in
    let off : nat_eq n 0 ≡ false = ne_eqb n 0 (λ e. omega (arith, length-take taken head)) in
    let view_is : InHead fragments content (take taken head) ≡ now =
    ap (λ (t : Stage). progress_at t fragments content head) (sym is) ∙ view in
    subst (λ (p : Progress). false ≡ is_at_edge p) view_is (sym off)

-- ---- no refusal

pub unrefused : (s : Stage) (fragments : ℕ) (content head : List ℕ) → ((fault : RecordFault) → s ≡ at.Refused fault → ⊥)
    → None ≡ refusal_of (progress_at s fragments content head)
unrefused (at.Head taken) fragments content head h = refl
unrefused (at.Fragment last left) fragments content head h = refl
unrefused at.Whole fragments content head h = refl
unrefused (at.Refused fault) fragments content head h = absurd (h fault refl)
