-- Turns in a row: what each does, they do in a row.
use Rattle.std.proofs.Common.{◌≡◌, ℕ, ◌+◌, ◌<◌, List, [], ◌∷◌, ◌++◌, length, refl, sym, ◌∙◌, ap, subst, arith, append_assoc}
use Rattle.std.proofs.lemmas.List.{append-nil, map-append, length-append}
use Rattle.std.proofs.lemmas.List.Concat.{flat_map-append}
use Rattle.nfs3_types.specs.declared.moment.Moment.{Moment}
use Rattle.service.specs.declared.session.SessionEnd.{SessionEnd}
use Rattle.service.specs.declared.session.SessionEnd.TheVariants.{Done, ReadFault, WriteFault, CutRecord, TooLong, BadRecord}
use Rattle.service.specs.declared.session.SessionEnd.TheVariants.{ManyReads}
use Rattle.service.specs.Turns.{Answering, Turn, Tells, contents, moment_of, moments_of, reply_to, written}
use Rattle.service.specs.Session.{BreaksIn, Wrote}

pub contents-append : (ts us : List Turn) → contents (ts ++ us) ≡ contents ts ++ contents us
contents-append ts us = map-append (λ (t : Turn). t.content) ts us

pub moments-append : (ts us : List Turn) → moments_of (ts ++ us) ≡ moments_of ts ++ moments_of us
moments-append ts us = flat_map-append (λ (t : Turn). moment_of t.outcome) ts us

pub written-append : (fsid : ℕ) (ts us : List Turn) → written fsid (ts ++ us) ≡ written fsid ts ++ written fsid us
written-append fsid ts us = flat_map-append (reply_to fsid) ts us

pub tells-append : {T : Type 0} (a : Answering T) (old mid new : T) (ts us : List Turn) → Tells a old mid ts
    → Tells a mid new us → Tells a old new (ts ++ us)
tells-append {T = T} a old mid new [] us first then = subst (λ (t : T). Tells a t new us) first then
tells-append {T = T} a old mid new (t ∷ ts) us first then = (first.0, first.1, tells-append a first.0 mid new ts us first.2 then)

-- ---- what was written, behind what was written before

breaks-behind : (fsid : ℕ) (ts us : List Turn) (bytes : List ℕ) → BreaksIn fsid us bytes
    → BreaksIn fsid (ts ++ us) (written fsid ts ++ bytes)
breaks-behind fsid ts us bytes b = record {
  answered = ts ++ b.answered;
  last = b.last;
  turns_are = ap (λ (xs : List Turn). ts ++ xs) b.turns_are ∙ sym (append_assoc ts b.answered (b.last ∷ []));
  front = b.front;
  rest = b.rest;
  reply = b.reply;
  not_whole = b.not_whole;
  bytes_are = ap (λ (xs : List ℕ). written fsid ts ++ xs) b.bytes_are
      ∙ (sym (append_assoc (written fsid ts) (written fsid b.answered) b.front)
      ∙ ap (λ (xs : List ℕ). xs ++ b.front) (sym (written-append fsid ts b.answered)));
}

all-behind : (fsid : ℕ) (ts us : List Turn) (bytes : List ℕ) → bytes ≡ written fsid us
    → written fsid ts ++ bytes ≡ written fsid (ts ++ us)
all-behind fsid ts us bytes w = ap (λ (xs : List ℕ). written fsid ts ++ xs) w ∙ sym (written-append fsid ts us)

pub wrote-behind : (fsid : ℕ) (end : SessionEnd) (ts us : List Turn) (bytes : List ℕ) → Wrote fsid end us bytes
    → Wrote fsid end (ts ++ us) (written fsid ts ++ bytes)
wrote-behind fsid WriteFault ts us bytes w = breaks-behind fsid ts us bytes w
wrote-behind fsid Done ts us bytes w = all-behind fsid ts us bytes w
wrote-behind fsid ReadFault ts us bytes w = all-behind fsid ts us bytes w
wrote-behind fsid CutRecord ts us bytes w = all-behind fsid ts us bytes w
wrote-behind fsid TooLong ts us bytes w = all-behind fsid ts us bytes w
wrote-behind fsid BadRecord ts us bytes w = all-behind fsid ts us bytes w
wrote-behind fsid ManyReads ts us bytes w = all-behind fsid ts us bytes w

-- where writing failed there is a last turn
some-broken : (fsid : ℕ) (turns : List Turn) (bytes : List ℕ) → BreaksIn fsid turns bytes → 0 < length turns
some-broken fsid turns bytes b =
    let long : length turns ≡ length b.answered + 1 =
    ap (λ (xs : List Turn). length xs) b.turns_are ∙ length-append b.answered (b.last ∷ []) in
    omega arith

pub some-turns : (fsid : ℕ) (end : SessionEnd) (turns : List Turn) (bytes : List ℕ) → Wrote fsid end turns bytes
    → end ≡ WriteFault → 0 < length turns
some-turns fsid end turns bytes w is = some-broken fsid turns bytes (subst (λ (e : SessionEnd). Wrote fsid e turns bytes) is w)
