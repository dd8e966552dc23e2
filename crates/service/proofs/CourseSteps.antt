-- The course of a text, by what a reader of it has read.
use Rattle.std.proofs.Common.{◌≡◌, ◌==◌, ℕ, Bool, true, false, List, [], ◌∷◌, ◌++◌, length, Option, None, refl, sym, ◌∙◌, ap}
use Rattle.std.proofs.Common.{subst, ◌⊎◌, inl, inr, append_assoc, arith}
use Rattle.std.proofs.lemmas.Bool.{ne_eqb}
use Rattle.std.proofs.lemmas.List.{append-nil}
use Rattle.rpc_records.specs.declared.fault.RecordFault.{RecordFault}
use Rattle.rpc_records.specs.Marking.{Marking, marking, with_records}
use Rattle.rpc_records.specs.Progress.{Progress, IsUnfinished, is_at_edge, kept_by, refusal_of}
use Rattle.rpc_records.specs.Progress.Progress.{InHead, InFragment, Holding, Refusing}
use Rattle.rpc_records.specs.Stream.{HasRead}
use Rattle.rpc_records.proofs.StreamLaws.{HasRead-follows}
use Rattle.rpc_records.proofs.MarkingLaws.{marking-append_none}
use Rattle.service.specs.declared.session.SessionEnd.{SessionEnd}
use Rattle.service.specs.declared.session.SessionEnd.TheVariants.{Done, CutRecord, TooLong, BadRecord, WriteFault}
use Rattle.service.specs.Course.{Course, ending, followed_by, begun_by, course_of, end_behind, course}
use Rattle.service.specs.Session.{ConsistsOf, AnswersAll}
use Rattle.service.specs.Steps.{AreAnswered, StopsAs}

-- ---- records in a row

course_of-append : (none : List ℕ → Bool) (rs ss : List (List ℕ)) (others : Course)
    → course_of none (rs ++ ss) others ≡ course_of none rs (course_of none ss others)
course_of-append none [] ss others = refl
course_of-append none (r ∷ rs) ss others = ap (begun_by r (none r)) (course_of-append none rs ss others)

followed_by-append : (rs ss : List (List ℕ)) (c : Course) → followed_by rs (followed_by ss c) ≡ followed_by (rs ++ ss) c
followed_by-append rs ss c = rw (append_assoc rs ss c.answered) refl

followed_by-ending : (rs : List (List ℕ)) (end : SessionEnd) → ConsistsOf (followed_by rs (ending end)) rs end
followed_by-ending rs end = rw (append-nil rs) refl

pub answered-nil : (none : List ℕ → Bool) → AreAnswered none []
answered-nil none others = refl

pub answered-one : (none : List ℕ → Bool) (content : List ℕ) → none content ≡ false → AreAnswered none (content ∷ [])
answered-one none content h others = ap (λ (b : Bool). begun_by content b others) h

pub answered-append : (none : List ℕ → Bool) (rs ss : List (List ℕ)) → AreAnswered none rs → AreAnswered none ss
    → AreAnswered none (rs ++ ss)
answered-append none rs ss first then others =
    course_of-append none rs ss others ∙ (ap (course_of none rs) (then others) ∙
    (first (followed_by ss others) ∙ followed_by-append rs ss others))

-- ---- behind the whole records

pub unfinished-kept : (now : Progress) → IsUnfinished now → kept_by now ≡ []
unfinished-kept (InHead fragments content bytes) un = refl
unfinished-kept (InFragment fragments content last left) un = refl
unfinished-kept (Holding content) un = absurd un
unfinished-kept (Refusing fault) un = absurd un

pub unfinished-accepted : (now : Progress) → IsUnfinished now → refusal_of now ≡ None
unfinished-accepted (InHead fragments content bytes) un = refl
unfinished-accepted (InFragment fragments content last left) un = refl
unfinished-accepted (Holding content) un = absurd un
unfinished-accepted (Refusing fault) un = absurd un

-- a text all of whose whole records were read and answered
follows-all : (none : List ℕ → Bool) (text : List ℕ) (records : List (List ℕ)) (now : Progress) → HasRead text records now
    → kept_by now ≡ [] → AreAnswered none records
    → ConsistsOf (course none text) records (end_behind (refusal_of now) (marking text).rest)
follows-all none text records now read kept answered =
    let follows = HasRead-follows text records now read in
    let end = end_behind (marking text).refusal (marking text).rest in
    let all : (marking text).records ≡ records =
    follows.records ∙ (ap (λ (k : List (List ℕ)). records ++ k) kept ∙ append-nil records) in
    ap (λ (r : List (List ℕ)). course_of none r (ending end)) all
    ∙ (answered (ending end) ∙ (followed_by-ending records end
    ∙ ap (λ (r : Option RecordFault). record { answered = records; end = end_behind r (marking text).rest }) follows.refusal))

end-done : (rest : List ℕ) → true ≡ (length rest == 0) → end_behind None rest ≡ Done
end-done [] e = refl
end-done (byte ∷ rest) e = let not : (length (byte ∷ rest) == 0) ≡ false =
    ne_eqb (length (byte ∷ rest)) 0 (λ none. omega arith) in absurd cc

end-cut : (rest : List ℕ) → false ≡ (length rest == 0) → end_behind None rest ≡ CutRecord
end-cut [] e = absurd cc
end-cut (byte ∷ rest) e = refl

end-open : (rest : List ℕ) → (end_behind None rest ≡ Done) ⊎ (end_behind None rest ≡ CutRecord)
end-open [] = inl refl
end-open (byte ∷ rest) = inr refl

-- the same, where no refusal was met
follows-rest : (none : List ℕ → Bool) (text : List ℕ) (records : List (List ℕ)) (now : Progress) → HasRead text records now
    → IsUnfinished now → AreAnswered none records
    → ConsistsOf (course none text) records (end_behind None (marking text).rest)
follows-rest none text records now read un answered =
    follows-all none text records now read (unfinished-kept now un) answered
    ∙ ap (λ (r : Option RecordFault). record { answered = records; end = end_behind r (marking text).rest })
    (unfinished-accepted now un)

pub follows-done : (none : List ℕ → Bool) (text : List ℕ) (records : List (List ℕ)) (now : Progress) → HasRead text records now
    → IsUnfinished now → AreAnswered none records
    → is_at_edge now ≡ true → ConsistsOf (course none text) records Done
follows-done none text records now read un answered edge =
    follows-rest none text records now read un answered
    ∙ ap (λ (e : SessionEnd). record { answered = records; end = e }) (end-done (marking text).rest
    (sym edge ∙ (HasRead-follows text records now read).edge))

pub follows-cut : (none : List ℕ → Bool) (text : List ℕ) (records : List (List ℕ)) (now : Progress) → HasRead text records now
    → IsUnfinished now → AreAnswered none records
    → is_at_edge now ≡ false → ConsistsOf (course none text) records CutRecord
follows-cut none text records now read un answered edge =
    follows-rest none text records now read un answered
    ∙ ap (λ (e : SessionEnd). record { answered = records; end = e }) (end-cut (marking text).rest
    (sym edge ∙ (HasRead-follows text records now read).edge))

pub follows-open : (none : List ℕ → Bool) (text : List ℕ) (records : List (List ℕ)) (now : Progress) → HasRead text records now
    → IsUnfinished now → AreAnswered none records
    → AnswersAll (course none text) records
follows-open none text records now read un answered =
    let all = follows-rest none text records now read un answered in
    let end : (course none text).end ≡ end_behind None (marking text).rest = ap (λ (c : Course). c.end) all in
    record {
      all = all ∙ ap (λ (e : SessionEnd). record { answered = records; end = e }) (sym end);
      open_end = subst (λ (e : SessionEnd). (e ≡ Done) ⊎ (e ≡ CutRecord)) (sym end) (end-open (marking text).rest);
    }

-- ---- where the answering stops

-- record marking refuses the text
pub stops-too_long : (none : List ℕ → Bool) (old new : Progress) (part : List ℕ) (fault : RecordFault) → new ≡ Refusing fault
    → ((text : List ℕ) (before : List (List ℕ)) → HasRead text before old → HasRead (text ++ part) before new)
    → StopsAs none TooLong old part []
stops-too_long none old new part fault is stream text before h answered =
    let read = subst (HasRead (text ++ part) before) is (stream text before h) in
    rw (append-nil before) (follows-all none (text ++ part) before (Refusing fault) read refl answered)

-- a whole record stands in the text, behind those that were answered, and these others behind it
record Meets (none : List ℕ → Bool) (text : List ℕ) (before : List (List ℕ)) (content : List ℕ) : Type 0 where
  others : Course
  is : course none text ≡ followed_by before (begun_by content (none content) others)

meets : (none : List ℕ → Bool) (text more content : List ℕ) (before : List (List ℕ)) → HasRead text before (Holding content)
    → AreAnswered none before → Meets none (text ++ more) before content
meets none text more content before h answered =
    let follows = HasRead-follows text before (Holding content) h in
    let behind = marking ((marking text).rest ++ more) in
    let longer : marking (text ++ more) ≡ with_records (marking text).records behind =
    marking-append_none text more follows.refusal in
    let records : (marking (text ++ more)).records ≡ (before ++ content ∷ []) ++ behind.records =
    ap (λ (m : Marking). m.records) longer ∙ ap (λ (r : List (List ℕ)). r ++ behind.records) follows.records in
    let end = ending (end_behind (marking (text ++ more)).refusal (marking (text ++ more)).rest) in
    record {
      others = course_of none behind.records end;
      is = ap (λ (r : List (List ℕ)). course_of none r end) records
          ∙ (course_of-append none (before ++ content ∷ []) behind.records end
          ∙ (course_of-append none before (content ∷ []) (course_of none behind.records end)
          ∙ answered (begun_by content (none content) (course_of none behind.records end))));
    }

-- a record is no call
pub stops-no_call : (none : List ℕ → Bool) (content more : List ℕ) → none content ≡ true
    → StopsAs none BadRecord (Holding content) more []
stops-no_call none content more is text before h answered =
    let m = meets none text more content before h answered in
    m.is ∙ ap (λ (b : Bool). followed_by before (begun_by content b m.others)) is

-- a reply could not be written whole
pub stops-writing : (none : List ℕ → Bool) (content more : List ℕ) → none content ≡ false
    → StopsAs none WriteFault (Holding content) more (content ∷ [])
stops-writing none content more some text before h answered =
    let m = meets none text more content before h answered in
    let is : course none (text ++ more) ≡ followed_by before (followed_by (content ∷ []) m.others) =
    m.is ∙ ap (λ (b : Bool). followed_by before (begun_by content b m.others)) some in
    record {
      others = m.others.answered;
      first = ap (λ (c : Course). c.answered) is ∙ sym (append_assoc before (content ∷ []) m.others.answered);
    }
