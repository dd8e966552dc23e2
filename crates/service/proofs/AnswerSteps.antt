-- Steps of answering: one record, and records in a row.
use Rattle.std.proofs.Common.{◌≡◌, ◌==◌, false, ℕ, ◌-◌, ◌≤◌, ◌<◌, Bool, List, [], ◌∷◌, ◌++◌, length, take, drop, None, Result}
use Rattle.std.proofs.Common.{Ok, Err, refl, sym, ◌∙◌, ap, arith, append_assoc, inl, inr, subst}
use Rattle.std.proofs.lemmas.Bool.{cases_lt}
use Rattle.std.proofs.lemmas.List.{append-nil, length-take, length-drop, take-append-drop, take_rest, take_all}
use Rattle.outside.specs.Told.{GotBytes}
use Rattle.outside.specs.Clock.{GaveMoments}
use Rattle.outside.proofs.ToldLaws.{got_bytes-nil, got_bytes-append}
use Rattle.outside.proofs.MomentLaws.{gave_moments-nil, gave_moments-append}
use Rattle.rpc_records.specs.declared.fault.RecordFault.{RecordFault}
use Rattle.rpc_records.specs.Reading.{Reading, first_record}
use Rattle.rpc_records.specs.Reading.Reading.{Whole, Partial, Refused}
use Rattle.rpc_records.specs.Progress.{Progress, IsUnfinished, Feeds, reading_of, refusal_of, kept_by}
use Rattle.rpc_records.specs.Progress.Progress.{InHead, InFragment, Holding, Refusing}
use Rattle.rpc_records.specs.Stream.{HasRead}
use Rattle.rpc_msg.specs.declared.call.HeadFault.{HeadFault}
use Rattle.rpc_route.specs.Immediate.{Bad, immediate_reply}
use Rattle.service.specs.declared.session.SessionEnd.{SessionEnd}
use Rattle.service.specs.declared.session.SessionEnd.TheVariants.{TooLong, BadRecord, WriteFault}
use Rattle.service.specs.Turns.{Outcome, Turn, contents, is_no_call, moment_of, moments_of, no_reply, written}
use Rattle.service.specs.Session.{Desk, DeskTold, Serves, Wrote, desk}
use Rattle.service.specs.Steps.{TakesTurn, GotFront, IsReading, Went, GoesOn, StopsAs, AnsweredAll, AnsweredUntil}
use Rattle.service.proofs.CourseSteps.{answered-nil, answered-one, answered-append, stops-too_long, stops-no_call, stops-writing}
use Rattle.service.proofs.TurnSteps.{contents-append, moments-append, tells-append, written-append, wrote-behind}

-- ---- parts of a text, one behind the other

went-append : (old mid new : Progress) (p q : List ℕ) (rs ss : List (List ℕ)) → Went old mid p rs → Went mid new q ss
    → Went old new (p ++ q) (rs ++ ss)
went-append old mid new p q rs ss first then text before h =
    rw (← append_assoc text p q, ← append_assoc before rs ss) (then (text ++ p) (before ++ rs) (first text before h))

went-nil : (now : Progress) → Went now now [] []
went-nil now text before h = rw (append-nil text, append-nil before) h

goes_on-append : (none : List ℕ → Bool) (old mid new : Progress) (p q : List ℕ) (rs ss : List (List ℕ))
    → GoesOn none old mid p rs → GoesOn none mid new q ss → GoesOn none old new (p ++ q) (rs ++ ss)
goes_on-append none old mid new p q rs ss first then = record {
  went = went-append old mid new p q rs ss first.went then.went;
  answered = answered-append none rs ss first.answered then.answered;
}

stops-append : (none : List ℕ → Bool) (end : SessionEnd) (old mid : Progress) (p q : List ℕ) (rs ss : List (List ℕ))
    → GoesOn none old mid p rs → StopsAs none end mid q ss → StopsAs none end old (p ++ q) (rs ++ ss)
stops-append none end old mid p q rs ss first then text before h answered =
    rw (← append_assoc text p q, ← append_assoc before rs ss)
    (then (text ++ p) (before ++ rs) (first.went text before h) (answered-append none before rs answered first.answered))

dropped-went : (now new : Progress) (content : List ℕ) → now ≡ Holding content
    → ((text : List ℕ) (before : List (List ℕ)) → HasRead text before now → HasRead text (before ++ kept_by now) new)
    → Went now new [] (content ∷ [])
dropped-went now new content is stream text before h =
    rw append-nil (subst (λ (p : Progress). HasRead text (before ++ kept_by p) new) is (stream text before h))

-- some bytes were fed
fed-goes_on : (none : List ℕ → Bool) (now fed : Progress) (part : List ℕ)
    → ((text : List ℕ) (before : List (List ℕ)) → HasRead text before now → HasRead (text ++ part) before fed)
    → GoesOn none now fed part []
fed-goes_on none now fed part stream =
    record { went = λ text before h. rw append-nil (stream text before h); answered = answered-nil none }

reading-on : (none : List ℕ → Bool) (old new : Progress) (part : List ℕ) (records : List (List ℕ)) → IsReading old
    → GoesOn none old new part records → IsUnfinished new → IsReading new
reading-on none old new part records h on unfinished =
    record {
      text = h.text ++ part;
      dropped = h.dropped ++ records;
      read = on.went h.text h.dropped h.read;
      unfinished =
          unfinished;
    }

-- ---- feeding

ok_is : (m n : ℕ) → (let first : Result ℕ RecordFault = Ok m in let second : Result ℕ RecordFault = Ok n in first ≡ second)
    → m ≡ n
ok_is m n e = cc

-- a reader that took bytes did not refuse
accepted-partial : (now : Progress) → reading_of now [] ≡ Partial → refusal_of now ≡ None
accepted-partial (InHead fragments content bytes) e = refl
accepted-partial (InFragment fragments content last left) e = refl
accepted-partial (Holding content) e = absurd cc
accepted-partial (Refusing fault) e = absurd cc

pub fed-accepted : (old new : Progress) (piece : List ℕ) (n : ℕ) → Feeds old piece (Ok n) new → refusal_of new ≡ None
fed-accepted old new piece n f =
    (elim (reading_of old piece) as (λ (r : Reading). reading_of old piece ≡ r → refusal_of new ≡ None) [
      | Whole content rest ↦ λ e. ap refusal_of (f.whole content rest e).1
      | Partial ↦ λ e.
          let all : take n piece ++ [] ≡ piece =
          append-nil (take n piece) ∙ take_all n piece (let is = ok_is n (length piece) (f.partial e).0 in omega arith) in
          accepted-partial new (f.goes_on [] ∙ (ap (reading_of old) all ∙ e))
      | Refused fault ↦ λ e. let not = (f.refused fault e).0 in absurd cc
    ]) refl

-- a reader in the middle of a record takes some bytes
whole_apart : (content rest : List ℕ) → Whole content rest ≡ Partial → ⊥
whole_apart content rest e = cc

nothing-taken : (old new : Progress) (piece content rest : List ℕ) (n : ℕ) → IsReading old → Feeds old piece (Ok n) new
    → reading_of old piece ≡ Whole content rest → n ≡ 0 → ⊥
nothing-taken old new piece content rest n h f e none =
    let before : reading_of old [] ≡ Partial =
    h.read.reads [] ∙ (ap first_record (append-nil h.read.present) ∙ h.read.partial h.unfinished) in
    let after : reading_of new [] ≡ reading_of old (take n piece ++ []) = f.goes_on [] in
    let empty : take n piece ++ [] ≡ [] = ap (λ (k : ℕ). take k piece ++ []) none in
    whole_apart content [] (ap (λ (p : Progress). reading_of p []) (sym (f.whole content rest e).1) ∙
    (after ∙ (ap (reading_of old) empty ∙ before)))

pub fed-some : (old new : Progress) (piece : List ℕ) (n : ℕ) → IsReading old → 0 < length piece → Feeds old piece (Ok n) new
    → 0 < n
fed-some old new piece n h some f =
    (elim (reading_of old piece) as (λ (r : Reading). reading_of old piece ≡ r → 0 < n) [
      | Whole content rest ↦ λ e. elim (cases_lt 0 n) [
        | inl more ↦ more
        | inr none ↦ absurd (nothing-taken old new piece content rest n h f e (omega arith))
      ]
      | Partial ↦ λ e. let is = ok_is n (length piece) (f.partial e).0 in omega arith
      | Refused fault ↦ λ e. let not = (f.refused fault e).0 in absurd cc
    ]) refl

refused-is : (old new : Progress) (piece : List ℕ) (fault : RecordFault) → Feeds old piece (Err fault) new
    → (other : RecordFault) × (new ≡ Refusing other)
refused-is old new piece fault f =
    (elim (reading_of old piece) as (λ (r : Reading). reading_of old piece ≡ r → (other : RecordFault) × (new ≡ Refusing other)) [
      | Whole content rest ↦ λ e. let not = (f.whole content rest e).0 in absurd cc
      | Partial ↦ λ e. let not = (f.partial e).0 in absurd cc
      | Refused other ↦ λ e. (other, (f.refused other e).1)
    ]) refl

some-left : (rest : List ℕ) (empty : Bool) → empty ≡ (length rest == 0) → empty ≡ false → 0 < length rest
some-left [] empty is not = absurd cc
some-left (x ∷ rest) empty is not = omega arith

-- ---- what was served

-- the turn of a record
abbrev turn_of : List ℕ → Outcome → Turn
turn_of content outcome = record { content = content; outcome = outcome }

module _ {T C K : Type 0} (told : DeskTold T C K) where
  pub serves-none : (here : Desk T C K) → Serves told here here [] []
  serves-none here = record {
    tells = refl;
    gave = gave_moments-nil told.clock here.clock;
    got = got_bytes-nil told.sink
        here.sink;
  }

  serves-one : (old new : Desk T C K) (content reply bytes : List ℕ) (taken : TakesTurn told.answering told.clock
      (old.tree, old.clock) (new.tree, new.clock) content reply) → GotBytes told.sink old.sink new.sink bytes
      → Serves told old new (turn_of content taken.outcome ∷ []) bytes
  serves-one old new content reply bytes taken got = record {
    tells = (new.tree, taken.tells, refl);
    gave = subst (GaveMoments told.clock old.clock new.clock) (sym (append-nil (moment_of taken.outcome))) taken.gave;
    got = got;
  }

  pub serves-append : (old mid new : Desk T C K) (ts us : List Turn) (bs cs : List ℕ) → Serves told old mid ts bs
      → Serves told mid new us cs → Serves told old new (ts ++ us) (bs ++ cs)
  serves-append old mid new ts us bs cs first then = record {
    tells = tells-append told.answering old.tree mid.tree new.tree ts us first.tells then.tells;
    gave = subst (GaveMoments told.clock old.clock new.clock) (sym (moments-append ts us))
        (gave_moments-append told.clock old.clock mid.clock new.clock (moments_of ts) (moments_of us) first.gave then.gave);
    got = got_bytes-append told.sink old.sink mid.sink new.sink bs cs first.got then.got;
  }

  -- all was answered in one part, and in another
  answered-both : (old mid new : Desk T C K) (a b c : Progress) (p q : List ℕ) → AnsweredAll told old mid a b p
      → AnsweredAll told mid new b c q → AnsweredAll told old new a c (p ++ q)
  answered-both old mid new a b c p q first then =
      let fsid = told.answering.fsid in
      record {
        turns = first.turns ++ then.turns;
        serves = subst (Serves told old new (first.turns ++ then.turns)) (sym (written-append fsid first.turns then.turns))
            (serves-append old mid new first.turns then.turns (written fsid first.turns) (written fsid then.turns) first.serves
            then.serves);
        goes_on = subst (GoesOn (no_reply fsid) a c (p ++ q)) (sym (contents-append first.turns then.turns))
            (goes_on-append (no_reply fsid) a b c p q (contents first.turns) (contents then.turns) first.goes_on then.goes_on);
      }

  -- all was answered in one part, and the session ended in the next
  answered-until : (old mid new : Desk T C K) (end : SessionEnd) (a b : Progress) (p q : List ℕ)
      → AnsweredAll told old mid a b p → AnsweredUntil told mid new end b q → AnsweredUntil told old new end a (p ++ q)
  answered-until old mid new end a b p q first then =
      let fsid = told.answering.fsid in
      record {
        turns = first.turns ++ then.turns;
        bytes = written fsid first.turns ++ then.bytes;
        serves = serves-append old mid new first.turns then.turns (written fsid first.turns) then.bytes first.serves then.serves;
        wrote = wrote-behind fsid end first.turns then.turns then.bytes then.wrote;
        stops = subst (StopsAs (no_reply fsid) end a (p ++ q)) (sym (contents-append first.turns then.turns))
            (stops-append (no_reply fsid) end a b p q (contents first.turns) (contents then.turns) first.goes_on then.stops);
      }

  -- nothing was answered, and the session ended
  ended-none : (here : Desk T C K) (end : SessionEnd) (old : Progress) (part : List ℕ) → Wrote told.answering.fsid end [] []
      → StopsAs (no_reply told.answering.fsid) end old part [] → AnsweredUntil told here here end old part
  ended-none here end old part wrote stops =
      record { turns = []; bytes = []; serves = serves-none here; wrote = wrote; stops = stops }

  -- ---- the record that is kept

  -- no record is whole
  pub whole-none : (here : Desk T C K) (now : Progress) → AnsweredAll told here here now now []
  whole-none here now =
      record {
        turns = [];
        serves = serves-none here;
        goes_on = record {
          went = went-nil now;
          answered = answered-nil
              (no_reply told.answering.fsid);
        };
      }

  -- it is no call
  pub whole-no_call : (tree tree' : T) (clock clock' : C) (sink : K) (now : Progress) (content more : List ℕ)
      (fault : HeadFault) → now ≡ Holding content → immediate_reply told.answering.fsid content ≡ Bad fault → tree' ≡ tree
      → clock' ≡ clock
      → AnsweredUntil told (desk tree clock sink) (desk tree' clock' sink) BadRecord now more
  unfolding no_reply
  whole-no_call tree tree' clock clock' sink now content more fault is bad same still =
      rw (same, still) (ended-none (desk tree clock sink) BadRecord now more refl
      (rw is (stops-no_call (no_reply told.answering.fsid) content more (ap is_no_call bad))))

  -- its reply is written in part
  pub whole-write_fault : (old new : Desk T C K) (now : Progress) (content more out : List ℕ) → now ≡ Holding content
      → TakesTurn told.answering told.clock (old.tree, old.clock) (new.tree, new.clock) content out
      → GotFront told.sink old.sink new.sink out
      → AnsweredUntil told old new WriteFault now more
  whole-write_fault old new now content more out is taken front = record {
    turns = turn_of content taken.outcome ∷ [];
    bytes = front.bytes;
    serves = serves-one old new content out front.bytes taken front.got;
    wrote = record {
      answered = [];
      last = turn_of content taken.outcome;
      turns_are = refl;
      front = front.bytes;
      rest = front.rest;
      reply = sym taken.reply_is ∙ front.whole;
      not_whole = front.some;
      bytes_are = refl;
    };
    stops = rw is (stops-writing (no_reply told.answering.fsid) content more taken.answered);
  }

  -- its reply is written
  pub whole-one : (old new : Desk T C K) (now next : Progress) (content out : List ℕ) → now ≡ Holding content
      → TakesTurn told.answering told.clock (old.tree, old.clock) (new.tree, new.clock) content out
      → GotBytes told.sink old.sink new.sink out
      → ((text : List ℕ) (before : List (List ℕ)) → HasRead text before now → HasRead text (before ++ kept_by now) next)
      → AnsweredAll told old new now next []
  whole-one old new now next content out is taken got stream = record {
    turns = turn_of content taken.outcome ∷ [];
    serves = subst (Serves told old new (turn_of content taken.outcome ∷ [])) (taken.reply_is ∙ sym (append-nil _))
        (serves-one old new content out out taken got);
    goes_on = record {
      went = dropped-went now next content is stream;
      answered = answered-one (no_reply told.answering.fsid)
          content taken.answered;
    };
  }

-- ---- a piece

-- what is fed makes the rest smaller
pub piece-smaller : (old new : Progress) (rest : List ℕ) (n : ℕ) (empty : Bool) → IsReading old → empty ≡ (length rest == 0)
    → empty ≡ false → n ≤ length rest → Feeds old rest (Ok n) new → length (take (length rest - n) (drop n rest)) < length rest
piece-smaller old new rest n empty reading is not within f =
    let bytes = some-left rest empty is not in
    let some = fed-some old new rest n reading bytes f in
    omega (arith, length-take (length rest - n) (drop n rest), length-drop n rest)

module _ {T C K : Type 0} (told : DeskTold T C K) where
  -- A piece, of which a front was answered.
  pub record PieceSoFar (old new : Desk T C K) (a b : Progress) (piece rest : List ℕ) : Type 0 where
    pub front : List ℕ
    pub whole : piece ≡ front ++ rest
    pub answered : AnsweredAll told old new a b front
    pub reading : IsReading b
    pub never_falls : told.sink.faults old.sink ≤ told.sink.faults new.sink

  pub piece-begins : (here : Desk T C K) (now : Progress) (piece : List ℕ) → IsReading now
      → PieceSoFar here here now now piece piece
  piece-begins here now piece reading = record {
    front = [];
    whole = refl;
    answered = whole-none told here now;
    reading = reading;
    never_falls = omega arith;
  }

  -- what was answered before some bytes were fed, and those bytes
  passed : (old new : Desk T C K) (a b fed : Progress) (front part : List ℕ) → AnsweredAll told old new a b front
      → ((text : List ℕ) (before : List (List ℕ)) → HasRead text before b → HasRead (text ++ part) before fed)
      → AnsweredAll told old new a fed (front ++ part)
  passed old new a b fed front part answered stream =
      answered-both told old new new a b fed front part answered
      (record {
        turns = [];
        serves = serves-none told new;
        goes_on = fed-goes_on (no_reply told.answering.fsid) b fed part
            stream;
      })

  pub piece-goes_on : (old mid new : Desk T C K) (a b fed c : Progress) (piece rest : List ℕ) (n : ℕ) → IsReading a
      → PieceSoFar old mid a b piece rest
      → ((text : List ℕ) (before : List (List ℕ)) → HasRead text before b → HasRead (text ++ take n rest) before fed)
      → AnsweredAll told mid new fed c [] → IsUnfinished c → told.sink.faults mid.sink ≤ told.sink.faults new.sink
      → PieceSoFar old new a c piece (take (length rest - n) (drop n rest))
  piece-goes_on old mid new a b fed c piece rest n reading so_far stream next unfinished le =
      let before = passed old mid a b fed so_far.front (take n rest) so_far.answered stream in
      let all = answered-both told old mid new a fed c (so_far.front ++ take n rest) [] before next in
      rw take_rest (record {
        front = (so_far.front ++ take n rest) ++ [];
        whole = so_far.whole ∙ (ap (λ (xs : List ℕ). so_far.front ++ xs) (sym (take-append-drop n rest)) ∙
            (sym (append_assoc so_far.front (take n rest) (drop n rest)) ∙ ap (λ (xs : List ℕ). xs ++ drop n rest)
            (sym (append-nil (so_far.front ++ take n rest)))));
        answered = all;
        reading = reading-on (no_reply told.answering.fsid) a c ((so_far.front ++ take n rest) ++ []) (contents all.turns)
            reading all.goes_on unfinished;
        never_falls = omega (arith, so_far.never_falls);
      })

  -- the answering of a record stopped, with the rest of the piece behind it
  pub piece-stops : (old mid new : Desk T C K) (a b fed : Progress) (piece rest : List ℕ) (n : ℕ) (end : SessionEnd)
      → PieceSoFar old mid a b piece rest
      → ((text : List ℕ) (before : List (List ℕ)) → HasRead text before b → HasRead (text ++ take n rest) before fed)
      → AnsweredUntil told mid new end fed (drop n rest) → AnsweredUntil told old new end a piece
  piece-stops old mid new a b fed piece rest n end so_far stream next =
      let before = passed old mid a b fed so_far.front (take n rest) so_far.answered stream in
      let all = answered-until told old mid new end a fed (so_far.front ++ take n rest) (drop n rest) before next in
      let whole : (so_far.front ++ take n rest) ++ drop n rest ≡ piece =
      append_assoc so_far.front (take n rest) (drop n rest) ∙ (ap (λ (xs : List ℕ). so_far.front ++ xs)
      (take-append-drop n rest) ∙ sym so_far.whole) in
      subst (AnsweredUntil told old new end a) whole all

  -- record marking refused the piece
  pub piece-too_long : (old mid : Desk T C K) (a b new : Progress) (piece rest : List ℕ) (fault : RecordFault)
      → PieceSoFar old mid a b piece rest → Feeds b rest (Err fault) new
      → ((text : List ℕ) (before : List (List ℕ)) → HasRead text before b → HasRead (text ++ rest) before new)
      → AnsweredUntil told old mid TooLong a piece
  piece-too_long old mid a b new piece rest fault so_far f stream =
      let refused = refused-is b new rest fault f in
      let stop = ended-none told mid TooLong b rest refl (stops-too_long (no_reply told.answering.fsid) b new rest refused.0
      refused.1 stream) in
      let all = answered-until told old mid mid TooLong a b so_far.front rest so_far.answered stop in
      subst (AnsweredUntil told old mid TooLong a) (sym so_far.whole) all

  pub piece-ends : (old new : Desk T C K) (a b : Progress) (piece rest : List ℕ) → PieceSoFar old new a b piece rest
      → length rest ≡ 0 → AnsweredAll told old new a b piece
  piece-ends old new a b piece [] so_far empty =
      subst (AnsweredAll told old new a b) (sym (append-nil so_far.front) ∙ sym so_far.whole) so_far.answered
  piece-ends old new a b piece (x ∷ rest) so_far empty = absurd (omega (arith, empty))
