-- Up to the first turn at which memory ran out, a tree tells what it would tell with enough of it.
use Rattle.std.proofs.Common.{◌≡◌, ℕ, false, List, [], ◌∷◌, ◌++◌, refl, sym, ◌∙◌, ap}
use Rattle.nfs3_types.specs.declared.moment.Moment.{Moment}
use Rattle.rpc_route.specs.Immediate.{Immediate, Bad, Replied, Needs, immediate_reply}
use Rattle.rpc_route.specs.Sealing.{sealed}
use Rattle.service.specs.Session.{IsFront}
use Rattle.service.specs.Transcript.{fed, is_starved, replied, transcript, unless}
use Rattle.service.specs.Turns.{Answering, Outcome, Ready, Told, Starved, Turn, Tells, TellsBy, TellsTurn, contents, cred_of}
use Rattle.service.specs.Turns.{moment_of, moments_of, reply_by, reply_to, written}

module _ {T : Type 0} (a : Answering T) where
  -- one reply, and those behind it
  fed-by : (old next : T) (i : Immediate) (o : Outcome) (records : List (List ℕ)) (moments : List Moment) (rest : List ℕ)
      → is_starved o ≡ false → TellsBy a old next i o → rest ≡ transcript a next records moments
      → reply_by i o ++ rest ≡ replied a old i (moment_of o ++ moments)
      (λ (t : T) (later : List Moment). transcript a t records later)
  fed-by old next (Bad fault) o records moments rest enough tells is = absurd tells
  fed-by old next (Replied reply) o records moments rest enough tells is =
      ap (λ (xs : List ℕ). reply ++ xs)
      (is ∙ (ap (λ (t : T). transcript a t records moments) tells.1 ∙ ap
      (λ (q : Outcome). transcript a old records (moment_of q ++ moments)) (sym tells.0)))
  fed-by old next (Needs xid caller lent) Ready records moments rest enough tells is = absurd tells
  fed-by old next (Needs xid caller lent) (Told moment reply) records moments rest enough tells is =
      ap (λ r. sealed xid r ++ rest) tells.0
      ∙ ap (λ (xs : List ℕ). sealed xid (a.answer old (cred_of caller) lent moment) ++ xs)
      (is ∙ ap (λ (t : T). transcript a t records moments) tells.1)
  fed-by old next (Needs xid caller lent) (Starved moment) records moments rest enough tells is = absurd cc

  fed-turn : (old next : T) (content : List ℕ) (o : Outcome) (turns : List Turn)
      → TellsBy a old next (immediate_reply a.fsid content) o
      → written a.fsid turns ≡ transcript a next (contents turns) (moments_of turns)
      → written a.fsid (unless (is_starved o) (record { content = content; outcome = o }) turns)
      ≡ transcript a old (contents (unless (is_starved o) (record { content = content; outcome = o }) turns))
      (moments_of (unless (is_starved o) (record { content = content; outcome = o }) turns))
  unfolding reply_to
  fed-turn old next content Ready turns tells is =
      fed-by old next (immediate_reply a.fsid content) Ready (contents turns) (moments_of turns) (written a.fsid turns) refl
      tells is
  fed-turn old next content (Told moment reply) turns tells is =
      fed-by old next (immediate_reply a.fsid content) (Told moment reply) (contents turns) (moments_of turns)
      (written a.fsid turns) refl tells is
  fed-turn old next content (Starved moment) turns tells is = refl

  pub fed-is : (old new : T) (turns : List Turn) → Tells a old new turns
      → written a.fsid (fed turns) ≡ transcript a old (contents (fed turns)) (moments_of (fed turns))
  unfolding TellsTurn
  fed-is old new [] tells = refl
  fed-is old new (t ∷ turns) tells =
      fed-turn old tells.0 t.content t.outcome (fed turns) tells.1 (fed-is tells.0 new turns tells.2)

front-turn : (o : Outcome) (content : List ℕ) (turns : List Turn) → IsFront (fed turns) turns
    → IsFront (unless (is_starved o) (record { content = content; outcome = o }) (fed turns))
    (record { content = content; outcome = o } ∷ turns)
front-turn Ready content turns f =
    record { rest = f.rest; whole = ap (λ (xs : List Turn). record { content = content; outcome = Ready } ∷ xs) f.whole }
front-turn (Told moment reply) content turns f =
    record {
      rest = f.rest;
      whole = ap (λ (xs : List Turn). record { content = content; outcome = Told moment reply } ∷ xs)
          f.whole;
    }
front-turn (Starved moment) content turns f =
    record { rest = record { content = content; outcome = Starved moment } ∷ turns; whole = refl }

pub fed-front : (turns : List Turn) → IsFront (fed turns) turns
fed-front [] = record { rest = []; whole = refl }
fed-front (t ∷ turns) = front-turn t.outcome t.content turns (fed-front turns)
