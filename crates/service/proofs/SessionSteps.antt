-- Steps of a session: one take and what is answered of it.
use Rattle.std.proofs.Common.{◌≡◌, ℕ, ◌+◌, ◌*◌, ◌^◌, ◌<◌, ◌≤◌, true, false, min, List, [], ◌++◌, length, take, drop, refl, ◌∙◌}
use Rattle.std.proofs.Common.{ap, arith, ◌⊎◌, ⊎_elim, subst, sym}
use Rattle.std.proofs.Math.Seq.{take-take}
use Rattle.std.proofs.lemmas.List.{append-nil, take-append-le, length-append, length-drop, length-take, length-take-le}
use Rattle.nfs3_types.specs.Count.{Rose}
use Rattle.outside.specs.Told.{SourceTold, GaveBytes, IsUsedUp}
use Rattle.outside.proofs.ToldLaws.{gave_bytes-nil, gave_bytes-append}
use Rattle.rpc_records.specs.Progress.{Progress, IsUnfinished, fresh, is_at_edge}
use Rattle.rpc_records.specs.Stream.{HasRead}
use Rattle.rpc_records.proofs.StreamLaws.{HasRead-fresh}
use Rattle.service.specs.declared.answering.Stop.{Stop}
use Rattle.service.specs.declared.answering.Stop.TheVariants as stops
use Rattle.service.specs.declared.session.SessionEnd.{SessionEnd}
use Rattle.service.specs.declared.session.SessionEnd.TheVariants.{Done, ReadFault, WriteFault, CutRecord, ManyReads}
use Rattle.service.specs.Turns.{Turn, contents, no_reply, written}
use Rattle.service.specs.Course.{course}
use Rattle.service.specs.Session.{Desk, SessionTold, SessionAt, EndsBy, Follows, Serves, SessionRuns, Wrote, session_at}
use Rattle.service.specs.Steps.{IsReading, AreAnswered, AnsweredAll, AnsweredUntil, end_of}
use Rattle.service.proofs.CourseSteps.{answered-nil, answered-append, follows-done, follows-cut, follows-open}
use Rattle.service.proofs.TurnSteps.{contents-append, some-turns, written-append, wrote-behind}
use Rattle.service.proofs.AnswerSteps.{serves-none, serves-append}

part_length : (room : List ℕ) (n : ℕ) → n ≤ length room → length room ≤ 4096 → 0 < n
    → (0 < length (take n room)) × (length (take n room) ≤ 4096)
part_length room n within most some = rw (length-take-le n room within) (some, omega arith)

-- a buffer behind the front of which new bytes came keeps its length
pub kept_some : (len : ℕ) (items room : List ℕ) → 0 < len → 0 < length items
    → 0 < length (take len (room ++ drop (length room) items))
kept_some len items room some more =
    omega (
      arith,
      length-take len (room ++ drop (length room) items),
      length-append room (drop (length room) items),
      length-drop
          (length room) items,
    )

pub kept_most : (len : ℕ) (items room : List ℕ) → len ≤ 4096 → length (take len (room ++ drop (length room) items)) ≤ 4096
kept_most len items room most = omega (arith, length-take len (room ++ drop (length room) items))

-- and it begins with them
pub front_kept : (len n : ℕ) (items room now : List ℕ) → now ≡ take len (room ++ drop (length room) items) → n ≤ len
    → n ≤ length room → take n now ≡ take n room
front_kept len n items room now is within fits =
    ap (λ (xs : List ℕ). take n xs) is ∙ (take-take n len (room ++ drop (length room) items) within ∙ take-append-le n room
    (drop (length room) items) fits)

-- what the source gave, and a last take that gave nothing
last_take : {S : Type 0} (told : SourceTold S) (old now new : S) (takes : ℕ) (text : List ℕ) → GaveBytes told old now takes text
    → GaveBytes told now new 0 [] → GaveBytes told old new takes text
last_take told old now new takes text gave last =
    let both : GaveBytes told old new (takes + 0) (text ++ []) = gave_bytes-append told old now new takes 0 text [] gave last in
    let still : takes + 0 ≡ takes = omega arith in
    subst (λ (k : ℕ). GaveBytes told old new k text) still (subst (GaveBytes told old new (takes + 0)) (append-nil text) both)

-- a take of no byte, and one of some
pub took_none : {S : Type 0} (told : SourceTold S) (now new : S) (room : List ℕ) (n : ℕ) → n ≡ 0
    → GaveBytes told now new (min n 1) (take n room) → GaveBytes told now new 0 []
took_none told now new room n none gave = subst (λ (k : ℕ). GaveBytes told now new (min k 1) (take k room)) none gave

took_some : {S : Type 0} (told : SourceTold S) (now new : S) (n : ℕ) (part : List ℕ) → 0 < n
    → GaveBytes told now new (min n 1) part → GaveBytes told now new 1 part
took_some told now new n part some gave = subst (λ (k : ℕ). GaveBytes told now new k part) (omega arith) gave

-- not_many of an end that is none of those
no_early_end : (end : SessionEnd) (few : Type 0) → (end ≡ Done → ⊥) → (end ≡ CutRecord → ⊥) → (end ≡ ReadFault → ⊥)
    → (end ≡ Done) ⊎ (end ≡ CutRecord) ⊎ (end ≡ ReadFault) → few
no_early_end end few a b c h = ⊎_elim (λ h. absurd (a h)) (λ h. ⊎_elim (λ h. absurd (b h)) (λ h. absurd (c h)) h) h

-- the end where the answering stopped is no other one
record IsStop (end : SessionEnd) : Type 0 where
  done : end ≡ Done → ⊥
  cut : end ≡ CutRecord → ⊥
  many : end ≡ ManyReads → ⊥
  read_fault : end ≡ ReadFault → ⊥

stop_ends : (stop : Stop) → IsStop (end_of stop)
stop_ends stops.TooLong = record { done = λ e. (cc); cut = λ e. (cc); many = λ e. (cc); read_fault = λ e. (cc) }
stop_ends stops.BadRecord = record { done = λ e. (cc); cut = λ e. (cc); many = λ e. (cc); read_fault = λ e. (cc) }
stop_ends stops.WriteFault = record { done = λ e. (cc); cut = λ e. (cc); many = λ e. (cc); read_fault = λ e. (cc) }

-- it is for a failed write only where that stopped it
stop_writing : (stop : Stop) → end_of stop ≡ WriteFault → stop ≡ stops.WriteFault
stop_writing stops.TooLong e = cc
stop_writing stops.BadRecord e = cc
stop_writing stops.WriteFault e = refl

module _ {T S C K : Type 0} (told : SessionTold T S C K) where
  -- A session of which so many takes gave a byte: all whole records of its text were answered.
  pub record SessionSoFar (old now : SessionAt T S C K) (reader : Progress) (takes : ℕ) : Type 0 where
    pub text : List ℕ
    pub turns : List Turn
    pub gave : GaveBytes told.source old.source now.source takes text
    pub read : HasRead text (contents turns) reader
    pub unfinished : IsUnfinished reader
    pub answered : AreAnswered (no_reply told.desk.answering.fsid) (contents turns)
    pub serves : Serves told.desk old.desk now.desk turns (written told.desk.answering.fsid turns)
    pub fewest : takes ≤ length text
    pub most : length text ≤ 4096 * takes
    pub reads_never_fall : told.source.faults old.source ≤ told.source.faults now.source
    pub writes_never_fall : told.desk.sink.faults old.desk.sink ≤ told.desk.sink.faults now.desk.sink

  pub session_reading : (old now : SessionAt T S C K) (reader : Progress) (takes : ℕ) → SessionSoFar old now reader takes
      → IsReading reader
  session_reading old now reader takes so_far =
      record { text = so_far.text; dropped = contents so_far.turns; read = so_far.read; unfinished = so_far.unfinished }

  pub session_begins : (here : SessionAt T S C K) (reader : Progress) → reader ≡ fresh → SessionSoFar here here reader 0
  session_begins here reader is = rw is (record {
    text = [];
    turns = [];
    gave = gave_bytes-nil told.source here.source;
    read = HasRead-fresh;
    unfinished = tt;
    answered = answered-nil (no_reply told.desk.answering.fsid);
    serves = serves-none told.desk here.desk;
    fewest = omega arith;
    most = omega arith;
    reads_never_fall = omega arith;
    writes_never_fall = omega arith;
  })

  -- a take that gave some bytes, of which all whole records are answered
  pub session_goes_on : (old now new : SessionAt T S C K) (reader next : Progress) (room : List ℕ) (n takes : ℕ)
      → SessionSoFar old now reader takes
      → n ≤ length room → length room ≤ 4096 → 0 < n → GaveBytes told.source now.source new.source (min n 1) (take n room)
      → AnsweredAll told.desk now.desk new.desk reader next (take n room) → IsUnfinished next
      → told.source.faults now.source ≤ told.source.faults new.source
      → told.desk.sink.faults now.desk.sink ≤ told.desk.sink.faults new.desk.sink
      → SessionSoFar old new next (takes + 1)
  session_goes_on old now new reader next room n takes so_far within most some gave more unfinished read write =
      let fsid = told.desk.answering.fsid in
      let part = part_length room n within most some in
      let long = length-append so_far.text (take n room) in
      let same = contents-append so_far.turns more.turns in
      record {
        text = so_far.text ++ take n room;
        turns = so_far.turns ++ more.turns;
        gave = gave_bytes-append told.source old.source now.source new.source takes 1 so_far.text (take n room) so_far.gave
            (took_some told.source now.source new.source n (take n room) some gave);
        read = rw same (more.goes_on.went so_far.text (contents so_far.turns) so_far.read);
        unfinished = unfinished;
        answered = rw same (answered-append (no_reply fsid) (contents so_far.turns) (contents more.turns) so_far.answered
            more.goes_on.answered);
        serves = subst (Serves told.desk old.desk new.desk (so_far.turns ++ more.turns))
            (sym (written-append fsid so_far.turns more.turns))
            (serves-append told.desk old.desk now.desk new.desk so_far.turns more.turns (written fsid so_far.turns)
            (written fsid more.turns) so_far.serves more.serves);
        fewest = omega (arith, so_far.fewest);
        most = omega (arith, so_far.most);
        reads_never_fall = omega (arith, so_far.reads_never_fall);
        writes_never_fall = omega (arith, so_far.writes_never_fall);
      }

  -- a session that ends where no more is answered, after a take that gave nothing
  ends_open : (old now : SessionAt T S C K) (source : S) (reader : Progress) (takes : ℕ) (end : SessionEnd)
      (so_far : SessionSoFar old now reader takes)
      → GaveBytes told.source now.source source 0 [] → (end ≡ WriteFault → ⊥)
      → Follows end (course (no_reply told.desk.answering.fsid) so_far.text) (contents so_far.turns)
      → Wrote told.desk.answering.fsid end so_far.turns (written told.desk.answering.fsid so_far.turns)
      → EndsBy told old (session_at source now.desk) takes end → SessionRuns told old (session_at source now.desk) end
  ends_open old now source reader takes end so_far gave not follows wrote ended = record {
    text = so_far.text;
    takes = takes;
    gave = last_take told.source old.source now.source source takes so_far.text so_far.gave gave;
    fewest = so_far.fewest;
    most = so_far.most;
    turns = so_far.turns;
    bytes = written told.desk.answering.fsid so_far.turns;
    serves = so_far.serves;
    ends = record { follows = follows; wrote = wrote };
    not_ahead = record {
      earlier = so_far.text;
      last = [];
      text_is = sym (append-nil so_far.text);
      one_take = omega arith;
      answered = so_far.turns;
      others = [];
      turns_are = sym (append-nil so_far.turns);
      all = follows-open (no_reply told.desk.answering.fsid) so_far.text (contents so_far.turns) reader so_far.read
          so_far.unfinished so_far.answered;
      whole = λ e. absurd (not e);
    };
    ended = ended;
  }

  -- the source failed
  pub session_read_fault : (old now : SessionAt T S C K) (source : S) (reader : Progress) (takes : ℕ)
      → SessionSoFar old now reader takes → takes < 2 ^ 48
      → GaveBytes told.source now.source source 0 [] → told.source.faults now.source ≤ told.source.faults source
      → Rose (told.source.faults now.source) (told.source.faults source)
      → SessionRuns told old (session_at source now.desk) ReadFault
  session_read_fault old now source reader takes so_far few gave le rose =
      ends_open old now source reader takes ReadFault so_far gave (λ e. (cc))
      (follows-open (no_reply told.desk.answering.fsid) so_far.text (contents so_far.turns) reader so_far.read so_far.unfinished
      so_far.answered) refl
      (record {
        used_up = ⊎_elim (λ (e : ReadFault ≡ Done). absurd (cc)) (λ (e : ReadFault ≡ CutRecord). absurd (cc));
        many = λ e. (cc);
        not_many = λ _. few;
        most = omega (arith, few);
        reads_never_fall = omega (arith, so_far.reads_never_fall);
        writes_never_fall = so_far.writes_never_fall;
        read_fault = λ e. omega (arith, so_far.reads_never_fall, rose);
        write_fault = λ e. (cc);
      })

  -- the input ended between two records
  pub session_done : (old now : SessionAt T S C K) (source : S) (reader : Progress) (takes : ℕ)
      → SessionSoFar old now reader takes → takes < 2 ^ 48
      → GaveBytes told.source now.source source 0 [] → IsUsedUp (told.source.left source)
      → told.source.faults now.source ≤ told.source.faults source → is_at_edge reader ≡ true
      → SessionRuns told old (session_at source now.desk) Done
  session_done old now source reader takes so_far few gave used le edge =
      ends_open old now source reader takes Done so_far gave (λ e. (cc))
      (follows-done (no_reply told.desk.answering.fsid) so_far.text (contents so_far.turns) reader so_far.read so_far.unfinished
      so_far.answered edge) refl
      (record {
        used_up = λ _. used;
        many = λ e. (cc);
        not_many = λ _. few;
        most = omega (arith, few);
        reads_never_fall = omega (arith, so_far.reads_never_fall);
        writes_never_fall = so_far.writes_never_fall;
        read_fault = λ e. (cc);
        write_fault = λ e. (cc);
      })

  -- the input ended inside a record
  pub session_cut : (old now : SessionAt T S C K) (source : S) (reader : Progress) (takes : ℕ)
      → SessionSoFar old now reader takes → takes < 2 ^ 48
      → GaveBytes told.source now.source source 0 [] → IsUsedUp (told.source.left source)
      → told.source.faults now.source ≤ told.source.faults source → is_at_edge reader ≡ false
      → SessionRuns told old (session_at source now.desk) CutRecord
  session_cut old now source reader takes so_far few gave used le edge =
      ends_open old now source reader takes CutRecord so_far gave (λ e. (cc))
      (follows-cut (no_reply told.desk.answering.fsid) so_far.text (contents so_far.turns) reader so_far.read so_far.unfinished
      so_far.answered edge) refl
      (record {
        used_up = λ _. used;
        many = λ e. (cc);
        not_many = λ _. few;
        most = omega (arith, few);
        reads_never_fall = omega (arith, so_far.reads_never_fall);
        writes_never_fall = so_far.writes_never_fall;
        read_fault = λ e. (cc);
        write_fault = λ e. (cc);
      })

  -- the takes were used up
  pub session_many : (old now : SessionAt T S C K) (reader : Progress) (takes : ℕ) → SessionSoFar old now reader takes
      → takes ≡ 2 ^ 48 → SessionRuns told old now ManyReads
  session_many old now reader takes so_far many =
      ends_open old now now.source reader takes ManyReads so_far (gave_bytes-nil told.source now.source) (λ e. (cc))
      (follows-open (no_reply told.desk.answering.fsid) so_far.text (contents so_far.turns) reader so_far.read so_far.unfinished
      so_far.answered) refl
      (record {
        used_up = ⊎_elim (λ (e : ManyReads ≡ Done). absurd (cc)) (λ (e : ManyReads ≡ CutRecord). absurd (cc));
        many = λ e. many;
        not_many = no_early_end ManyReads (takes < 2 ^ 48) (λ e. (cc)) (λ e. (cc)) (λ e. (cc));
        most = omega (arith, many);
        reads_never_fall = so_far.reads_never_fall;
        writes_never_fall = so_far.writes_never_fall;
        read_fault = λ e. (cc);
        write_fault = λ e. (cc);
      })

  -- the answering stopped
  pub session_stops : (old now new : SessionAt T S C K) (reader : Progress) (room : List ℕ) (n takes : ℕ) (stop : Stop)
      (end : SessionEnd) → SessionSoFar old now reader takes → takes < 2 ^ 48
      → n ≤ length room → length room ≤ 4096 → 0 < n → GaveBytes told.source now.source new.source (min n 1) (take n room)
      → AnsweredUntil told.desk now.desk new.desk (end_of stop) reader (take n room)
      → told.source.faults now.source ≤ told.source.faults new.source
      → told.desk.sink.faults now.desk.sink ≤ told.desk.sink.faults new.desk.sink
      → (stop ≡ stops.WriteFault → Rose (told.desk.sink.faults now.desk.sink) (told.desk.sink.faults new.desk.sink))
      → end ≡ end_of stop
      → SessionRuns told old new end
  session_stops old now new reader room n takes stop end so_far few within most some gave more read write cause is =
      let fsid = told.desk.answering.fsid in
      let part = part_length room n within most some in
      let long = length-append so_far.text (take n room) in
      let ends = stop_ends stop in
      rw is (record {
        text = so_far.text ++ take n room;
        takes = takes + 1;
        gave = gave_bytes-append told.source old.source now.source new.source takes 1 so_far.text (take n room) so_far.gave
            (took_some told.source now.source new.source n (take n room) some gave);
        fewest = omega (arith, so_far.fewest);
        most = omega (arith, so_far.most);
        turns = so_far.turns ++ more.turns;
        bytes = written fsid so_far.turns ++ more.bytes;
        serves = serves-append told.desk old.desk now.desk new.desk so_far.turns more.turns (written fsid so_far.turns)
            more.bytes so_far.serves more.serves;
        ends = record {
          follows = subst (Follows (end_of stop) (course (no_reply fsid) (so_far.text ++ take n room)))
              (sym (contents-append so_far.turns more.turns)) (more.stops so_far.text (contents so_far.turns) so_far.read
              so_far.answered);
          wrote = wrote-behind fsid (end_of stop) so_far.turns more.turns more.bytes more.wrote;
        };
        not_ahead = record {
          earlier = so_far.text;
          last = take n room;
          text_is = refl;
          one_take = part.1;
          answered = so_far.turns;
          others = more.turns;
          turns_are = refl;
          all = follows-open (no_reply fsid) so_far.text (contents so_far.turns) reader so_far.read so_far.unfinished
              so_far.answered;
          whole = λ e. some-turns fsid (end_of stop) more.turns more.bytes more.wrote e;
        };
        ended = record {
          used_up = ⊎_elim (λ (e : end_of stop ≡ Done). absurd (ends.done e))
              (λ (e : end_of stop ≡ CutRecord). absurd (ends.cut e));
          many = λ e. absurd (ends.many e);
          not_many = no_early_end (end_of stop) (takes + 1 < 2 ^ 48) ends.done ends.cut ends.read_fault;
          most = omega (arith, few);
          reads_never_fall = omega (arith, so_far.reads_never_fall);
          writes_never_fall = omega (arith, so_far.writes_never_fall);
          read_fault = λ e. absurd (ends.read_fault e);
          write_fault = λ e. let rose = cause (stop_writing stop e) in omega (arith, so_far.writes_never_fall, rose);
        };
      })
