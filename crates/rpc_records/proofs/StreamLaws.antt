-- A reader over a whole stream follows record marking.
use Rattle.std.proofs.Common.{◌≡◌, ℕ, false, List, [], ◌∷◌, ◌++◌, length, take, Result, Ok, Err, Some, None, refl, sym, ap, subst}
use Rattle.std.proofs.Common.{◌∙◌, inl, inr, append_assoc, length-append, arith}
use Rattle.std.specs.Prelude.{◌==◌}
use Rattle.std.proofs.lemmas.Bool.{ne_eqb, cases_lt}
use Rattle.std.proofs.lemmas.List.{append-nil, take_all}
use Rattle.rpc_records.specs.declared.limits.TheConstants.{MOST_FRAGMENTS}
use Rattle.rpc_records.specs.declared.fault.RecordFault.{RecordFault}
use Rattle.rpc_records.specs.Reading.{Reading, first_record}
use Rattle.rpc_records.specs.Reading.Reading.{Whole, Partial, Refused}
use Rattle.rpc_records.specs.Marking.{Marking, none_whole, with_records, marking}
use Rattle.rpc_records.specs.Progress.{Progress, IsUnfinished, fresh, reading_of, taken_of, is_at_edge, kept_by, refusal_of}
use Rattle.rpc_records.specs.Progress.{Feeds, after_next}
use Rattle.rpc_records.specs.Progress.Progress.{InHead, InFragment, Holding, Refusing}
use Rattle.rpc_records.specs.Stream.{taken_part, HasRead, FollowsMarking, Call, Runs, IsSameReading}
use Rattle.rpc_records.specs.Stream.Call.{Feed, Next}
use Rattle.rpc_records.proofs.RecordLaws.{record_at-short}
use Rattle.rpc_records.proofs.MarkingLaws.{first_record-longer_refused, marking-whole, marking-partial, marking-refused}
use Rattle.rpc_records.proofs.MarkingLaws.{marking-append_none}

-- no text has no record
marking-nil : marking [] ≡ none_whole [] None
marking-nil = marking-partial [] (record_at-short MOST_FRAGMENTS [] [] (omega arith))

-- ---- the calls

pub HasRead-fresh : HasRead [] [] fresh
HasRead-fresh = record {
  front = [];
  present = [];
  parts = refl;
  front_is = marking-nil;
  reads = λ more. refl;
  partial = λ un. record_at-short MOST_FRAGMENTS [] [] (omega arith);
  taken = λ un. refl;
}

-- where the record is partial it is unfinished
partial-unfinished : (now : Progress) (text : List ℕ) → reading_of now text ≡ Partial → IsUnfinished now
partial-unfinished (InHead fragments content bytes) text e = tt
partial-unfinished (InFragment fragments content last left) text e = tt
partial-unfinished (Holding content) text e = absurd cc
partial-unfinished (Refusing fault) text e = absurd cc

-- the reader read a piece that it took in part
fed-ok : (text : List ℕ) (dropped : List (List ℕ)) (old new : Progress) (piece : List ℕ) (n : ℕ) → HasRead text dropped old
    → Feeds old piece (Ok n) new
    → (IsUnfinished new → (reading_of old piece ≡ Partial) × (n ≡ length piece)) → HasRead (text ++ take n piece) dropped new
fed-ok text dropped old new piece n h f all = record {
  front = h.front;
  present = h.present ++ take n piece;
  parts = ap (λ (t : List ℕ). t ++ take n piece) h.parts ∙ append_assoc h.front h.present (take n piece);
  front_is = h.front_is;
  reads = λ more. f.goes_on more
      ∙ (h.reads (take n piece ++ more) ∙ ap first_record (sym (append_assoc h.present (take n piece) more)));
  partial = λ un.
      let a = all un in
      let whole : take n piece ≡ piece = take_all n piece (omega (arith, a.1)) in
      ap (λ (t : List ℕ). first_record (h.present ++ t)) whole ∙ (sym (h.reads piece) ∙ a.0);
  taken = λ un.
      let a = all un in
      let whole : take n piece ≡ piece = take_all n piece (omega (arith, a.1)) in
      let before = h.taken (partial-unfinished old piece a.0) in
      let count = (f.partial a.0).1 in
      omega (arith, before, count, length-append h.present (take n piece), ap length whole);
}

-- the reader refused a piece
fed-err : (text : List ℕ) (dropped : List (List ℕ)) (old new : Progress) (piece : List ℕ) (fault : RecordFault)
    → HasRead text dropped old
    → reading_of old piece ≡ Refused fault → new ≡ Refusing fault → HasRead (text ++ piece) dropped new
fed-err text dropped old new piece fault h e is = subst (λ (p : Progress). HasRead (text ++ piece) dropped p) (sym is) (record {
  front = h.front;
  present = h.present ++ piece;
  parts = ap (λ (t : List ℕ). t ++ piece) h.parts ∙ append_assoc h.front h.present piece;
  front_is = h.front_is;
  reads = λ more. sym (first_record-longer_refused (h.present ++ piece) more fault (sym (h.reads piece) ∙ e));
  partial = λ un. absurd un;
  taken = λ un. absurd un;
})

ok_is : (m n : ℕ) → (let first : Result ℕ RecordFault = Ok m in let second : Result ℕ RecordFault = Ok n in first ≡ second)
    → m ≡ n
ok_is m n e = cc

pub HasRead-feed : (text : List ℕ) (dropped : List (List ℕ)) (old new : Progress) (piece : List ℕ) (result : Result ℕ RecordFault)
    → HasRead text dropped old → Feeds old piece result new → HasRead (text ++ taken_part result piece) dropped new
HasRead-feed text dropped old new piece (Ok n) h f =
    (elim (reading_of old piece) as (λ (r : Reading). reading_of old piece ≡ r → HasRead (text ++ take n piece) dropped new) [
      | Whole content rest ↦ λ e.
          fed-ok text dropped old new piece n h f (λ un. absurd (subst IsUnfinished (f.whole content rest e).1 un))
      | Partial ↦ λ e. fed-ok text dropped old new piece n h f (λ un. (e, ok_is n (length piece) (f.partial e).0))
      | Refused fault ↦ λ e. let not = (f.refused fault e).0 in absurd cc
    ]) refl
HasRead-feed text dropped old new piece (Err fault) h f =
    (elim (reading_of old piece) as (λ (r : Reading). reading_of old piece ≡ r → HasRead (text ++ piece) dropped new) [
      | Whole content rest ↦ λ e. let not = (f.whole content rest e).0 in absurd cc
      | Partial ↦ λ e. let not = (f.partial e).0 in absurd cc
      | Refused other ↦ λ e. fed-err text dropped old new piece other h e (f.refused other e).1
    ]) refl

-- what has been read, by the present bytes
marking-read : (text : List ℕ) (dropped : List (List ℕ)) (now : Progress) (h : HasRead text dropped now)
    → marking text ≡ with_records dropped (marking h.present)
marking-read text dropped now h =
    let open_end : (marking h.front).refusal ≡ None = ap (λ (m : Marking). m.refusal) h.front_is in
    ap marking h.parts ∙ (marking-append_none h.front h.present open_end
    ∙ ap (λ (m : Marking). with_records m.records (marking (m.rest ++ h.present))) h.front_is)

-- the present bytes are the kept record
present-whole : (text content : List ℕ) (dropped : List (List ℕ)) → (h : HasRead text dropped (Holding content))
    → marking h.present ≡ with_records (content ∷ []) (none_whole [] None)
present-whole text content dropped h =
    let front : first_record h.present ≡ Whole content [] = ap first_record (sym (append-nil h.present)) ∙ sym (h.reads []) in
    marking-whole h.present content [] front ∙ ap (with_records (content ∷ [])) marking-nil

same-dropped : (text : List ℕ) (dropped : List (List ℕ)) (now : Progress) → HasRead text dropped now
    → HasRead text (dropped ++ []) now
same-dropped text dropped now h = subst (λ (d : List (List ℕ)). HasRead text d now) (sym (append-nil dropped)) h

pub HasRead-next : (text : List ℕ) (dropped : List (List ℕ)) (old : Progress) → HasRead text dropped old
    → HasRead text (dropped ++ kept_by old) (after_next old)
HasRead-next text dropped (InHead fragments content bytes) h = same-dropped text dropped (InHead fragments content bytes) h
HasRead-next text dropped (InFragment fragments content last left) h =
    same-dropped text dropped (InFragment fragments content last left) h
HasRead-next text dropped (Refusing fault) h = same-dropped text dropped (Refusing fault) h
HasRead-next text dropped (Holding content) h = record {
  front = text;
  present = [];
  parts = sym (append-nil text);
  front_is = marking-read text dropped (Holding content) h ∙ ap (with_records dropped) (present-whole text content dropped h);
  reads = λ more. refl;
  partial = λ un. record_at-short MOST_FRAGMENTS [] [] (omega arith);
  taken = λ un. refl;
}

-- the kept record was dropped
pub HasRead-dropped : (text content : List ℕ) (dropped : List (List ℕ)) (old new : Progress) → Holding content ≡ old
    → new ≡ fresh → HasRead text dropped old → HasRead text (dropped ++ kept_by old) new
HasRead-dropped text content dropped old new is begun h =
    let h' = subst (HasRead text dropped) (sym is) h in
    let next = subst (λ (p : Progress). HasRead text (dropped ++ kept_by p) fresh) is
    (HasRead-next text dropped (Holding content) h') in
    subst (HasRead text (dropped ++ kept_by old)) (sym begun) next

-- ---- what was read

-- a text that is refused has bytes
refused-some : (text : List ℕ) (fault : RecordFault) → first_record text ≡ Refused fault → (length text == 0) ≡ false
refused-some text fault e = elim (cases_lt (length text) 4) [
  | inl short ↦ let not : Partial ≡ Refused fault = sym (record_at-short MOST_FRAGMENTS [] text short) ∙ e in absurd cc
  | inr long ↦ ne_eqb (length text) 0 (λ none. omega arith)
]

-- what was read, where the record is unfinished
follows-unfinished : (text : List ℕ) (dropped : List (List ℕ)) (now : Progress) (h : HasRead text dropped now) → IsUnfinished now
    → kept_by now ≡ [] → refusal_of now ≡ None → is_at_edge now ≡ (taken_of now == 0) → FollowsMarking text dropped now
follows-unfinished text dropped now h un kept refusal edge =
    let here : marking text ≡ with_records dropped (none_whole h.present None) = marking-read text dropped now h
    ∙ ap (with_records dropped) (marking-partial h.present (h.partial un)) in
    record {
      records = ap (λ (m : Marking). m.records) here ∙ ap (λ (r : List (List ℕ)). dropped ++ r) (sym kept);
      refusal = ap (λ (m : Marking). m.refusal) here ∙ sym refusal;
      edge = edge ∙ (ap (λ (n : ℕ). n == 0) (h.taken un) ∙ ap (λ (m : Marking). length m.rest == 0) (sym here));
    }

pub HasRead-follows : (text : List ℕ) (dropped : List (List ℕ)) (now : Progress) → HasRead text dropped now
    → FollowsMarking text dropped now
HasRead-follows text dropped (InHead fragments content bytes) h =
    follows-unfinished text dropped (InHead fragments content bytes) h tt refl refl refl
HasRead-follows text dropped (InFragment fragments content last left) h =
    follows-unfinished text dropped (InFragment fragments content last left) h tt refl refl refl
HasRead-follows text dropped (Holding content) h =
    let here : marking text ≡ with_records dropped (with_records (content ∷ []) (none_whole [] None)) =
    marking-read text dropped (Holding content) h ∙ ap (with_records dropped) (present-whole text content dropped h) in
    record {
      records = ap (λ (m : Marking). m.records) here;
      refusal = ap (λ (m : Marking). m.refusal) here;
      edge = ap (λ (m : Marking). length m.rest == 0) (sym here);
    }
HasRead-follows text dropped (Refusing fault) h =
    let front : first_record h.present ≡ Refused fault = ap first_record (sym (append-nil h.present)) ∙ sym (h.reads []) in
    let here : marking text ≡ with_records dropped (none_whole h.present (Some fault)) =
    marking-read text dropped (Refusing fault) h ∙ ap (with_records dropped) (marking-refused h.present fault front) in
    record {
      records = ap (λ (m : Marking). m.records) here;
      refusal = ap (λ (m : Marking). m.refusal) here;
      edge = sym (ap (λ (m : Marking). length m.rest == 0) here ∙ refused-some h.present fault front);
    }

-- ---- runs

pub HasRead-runs : (calls : List Call) (before text : List ℕ) (first dropped : List (List ℕ)) (old now : Progress)
    → HasRead before first old → Runs old calls text dropped now → HasRead (before ++ text) (first ++ dropped) now
HasRead-runs [] before text first dropped old now h r =
    rw (r.0, r.1, r.2, append-nil before, append-nil first) h
HasRead-runs (Feed piece result ∷ calls) before text first dropped old now h r =
    let fed = HasRead-feed before first old r.0 piece result h r.2 in
    let all = HasRead-runs calls (before ++ taken_part result piece) r.1 first dropped r.0 now fed r.4 in
    rw (r.3, ← append_assoc before (taken_part result piece) r.1) all
HasRead-runs (Next ∷ calls) before text first dropped old now h r =
    let next = HasRead-next before first old h in
    let all = HasRead-runs calls before text (first ++ kept_by old) r.0 (after_next old) now next r.2 in
    rw (r.1, ← append_assoc first (kept_by old) r.0) all

pub runs-follow : (calls : List Call) (text : List ℕ) (dropped : List (List ℕ)) (now : Progress)
    → Runs fresh calls text dropped now → FollowsMarking text dropped now
runs-follow calls text dropped now r =
    HasRead-follows text dropped now (HasRead-runs calls [] text [] dropped fresh now HasRead-fresh r)

pub runs-same : (calls calls' : List Call) (text : List ℕ) (dropped dropped' : List (List ℕ)) (now now' : Progress)
    → Runs fresh calls text dropped now → Runs fresh calls' text dropped' now' → IsSameReading dropped now dropped' now'
runs-same calls calls' text dropped dropped' now now' r s =
    let a = runs-follow calls text dropped now r in
    let b = runs-follow calls' text dropped' now' s in
    record { records = sym a.records ∙ b.records; refusal = sym a.refusal ∙ b.refusal; edge = a.edge ∙ sym b.edge }
