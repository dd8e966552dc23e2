-- A text has one reading.
use Rattle.std.proofs.Common.{◌≡◌, ℕ, Bool, List, [], ◌∷◌, ◌++◌, map, refl, sym, ◌∙◌, ap, subst, append_assoc}
use Rattle.std.proofs.lemmas.List.{append-nil}
use Rattle.nfs3_types.specs.declared.cred.Cred.{Cred}
use Rattle.nfs3_types.specs.declared.moment.Moment.{Moment}
use Rattle.nfs3_types.specs.Calls.{Call}
use Rattle.rpc_route.specs.Immediate.{Immediate, Bad, Replied, Needs, immediate_reply}
use Rattle.service.specs.declared.session.SessionEnd.{SessionEnd}
use Rattle.service.specs.declared.session.SessionEnd.TheVariants.{Done, ReadFault, WriteFault, CutRecord, TooLong, BadRecord}
use Rattle.service.specs.declared.session.SessionEnd.TheVariants.{ManyReads}
use Rattle.service.specs.Turns.{Answering, Outcome, Ready, Told, Starved, Turn, Tells, TellsBy, TellsCall, TellsTurn, contents}
use Rattle.service.specs.Turns.{cred_of, moment_of, moments_of, no_reply, reply_to, written}
use Rattle.service.specs.Transcript.{is_starved, starved}
use Rattle.service.specs.Course.{Course, course}
use Rattle.service.specs.Session.{BreaksIn, ConsistsOf, EndsAs, Follows, IsByText, IsFront, Wrote}
use Rattle.service.specs.Readings.{IsSame, Reading}
use Rattle.service.proofs.TurnSteps.{written-append}

-- ---- by the text

consists-answered : (c : Course) (records : List (List ℕ)) (end : SessionEnd) → ConsistsOf c records end → c.answered ≡ records
consists-answered c records end all = ap (λ (d : Course). d.answered) all

answered-are : (end : SessionEnd) (c : Course) (records : List (List ℕ)) → Follows end c records → (end ≡ WriteFault → ⊥)
    → c.answered ≡ records
answered-are Done c records follows not = consists-answered c records Done follows
answered-are CutRecord c records follows not = consists-answered c records CutRecord follows
answered-are TooLong c records follows not = consists-answered c records TooLong follows
answered-are BadRecord c records follows not = consists-answered c records BadRecord follows
answered-are ReadFault c records follows not = consists-answered c records c.end follows.all
answered-are ManyReads c records follows not = consists-answered c records c.end follows.all
answered-are WriteFault c records follows not = absurd (not refl)

pub follows-by_text : (end : SessionEnd) (c : Course) (records : List (List ℕ)) → Follows end c records → IsByText end
    → c.end ≡ end
follows-by_text Done c records follows by = ap (λ (d : Course). d.end) follows
follows-by_text CutRecord c records follows by = ap (λ (d : Course). d.end) follows
follows-by_text TooLong c records follows by = ap (λ (d : Course). d.end) follows
follows-by_text BadRecord c records follows by = ap (λ (d : Course). d.end) follows
follows-by_text ReadFault c records follows by = absurd by
follows-by_text ManyReads c records follows by = absurd by
follows-by_text WriteFault c records follows by = absurd by

wrote-is : (fsid : ℕ) (end : SessionEnd) (turns : List Turn) (bytes : List ℕ) → Wrote fsid end turns bytes
    → (end ≡ WriteFault → ⊥) → bytes ≡ written fsid turns
wrote-is fsid Done turns bytes w not = w
wrote-is fsid CutRecord turns bytes w not = w
wrote-is fsid TooLong turns bytes w not = w
wrote-is fsid BadRecord turns bytes w not = w
wrote-is fsid ReadFault turns bytes w not = w
wrote-is fsid ManyReads turns bytes w not = w
wrote-is fsid WriteFault turns bytes w not = absurd (not refl)

-- ---- turns that begin alike

first-of : {X : Type 0} (x y : X) (xs ys : List X) → x ∷ xs ≡ y ∷ ys → x ≡ y
first-of x y xs ys e = cc

others-of : {X : Type 0} (x y : X) (xs ys : List X) → x ∷ xs ≡ y ∷ ys → xs ≡ ys
others-of x y xs ys e = cc

none-begins : {X : Type 0} (x : X) (xs : List X) → [] ≡ x ∷ xs → ⊥
none-begins x xs e = cc

turn-is : (t u : Turn) → t.content ≡ u.content → t.outcome ≡ u.outcome → t ≡ u
turn-is t u e f = ap (λ (c : List ℕ). record { content = c; outcome = t.outcome }) e ∙ ap
    (λ (o : Outcome). record { content = u.content; outcome = o }) f

module _ {T : Type 0} (a : Answering T) where
  -- two outcomes of one record on one tree, with what their moments come before
  record IsLike (x y : T) (o p : Outcome) (ms ns : List Moment) : Type 0 where
    outcome : o ≡ p
    tree : x ≡ y
    moments : ms ≡ ns

  like-call : (tree x y : T) (cred : Cred) (lent : Call) (o p : Outcome) (ms ns : List Moment) → TellsCall a tree x cred lent o
      → TellsCall a tree y cred lent p → is_starved o ≡ is_starved p → moment_of o ++ ms ≡ moment_of p ++ ns
      → IsLike x y o p ms ns
  like-call tree x y cred lent Ready p ms ns first then st e = absurd first
  like-call tree x y cred lent (Told m r) Ready ms ns first then st e = absurd then
  like-call tree x y cred lent (Starved m) Ready ms ns first then st e = absurd then
  like-call tree x y cred lent (Told m r) (Starved n) ms ns first then st e = absurd cc
  like-call tree x y cred lent (Starved m) (Told n s) ms ns first then st e = absurd cc
  like-call tree x y cred lent (Starved m) (Starved n) ms ns first then st e = record {
    outcome = ap Starved (first-of m n ms ns e);
    tree = first ∙ sym then;
    moments = others-of m n ms ns e;
  }
  like-call tree x y cred lent (Told m r) (Told n s) ms ns first then st e =
      let same : m ≡ n = first-of m n ms ns e in
      let reply : r ≡ s = first.0 ∙ (ap (λ (k : Moment). a.answer tree cred lent k) same ∙ sym then.0) in
      record {
        outcome = ap (λ (k : Moment). Told k r) same ∙ ap (Told n) reply;
        tree = first.1 ∙ (ap (λ (k : Moment). a.after tree cred lent k) same ∙ sym then.1);
        moments = others-of m n ms ns e;
      }

  like : (tree x y : T) (i : Immediate) (o p : Outcome) (ms ns : List Moment) → TellsBy a tree x i o → TellsBy a tree y i p
      → is_starved o ≡ is_starved p → moment_of o ++ ms ≡ moment_of p ++ ns → IsLike x y o p ms ns
  like tree x y (Bad fault) o p ms ns first then st e = absurd first
  like tree x y (Replied reply) o p ms ns first then st e = record {
    outcome = first.0 ∙ sym then.0;
    tree = first.1 ∙ sym then.1;
    moments = sym (ap (λ (q : Outcome). moment_of q ++ ms) first.0) ∙ (e ∙ ap (λ (q : Outcome). moment_of q ++ ns) then.0);
  }
  like tree x y (Needs xid caller lent) o p ms ns first then st e =
      like-call tree x y (cred_of caller) lent o p ms ns first then st e

  -- the turns s are r, and then come others
  pub record GoesOnFrom (x y : T) (r s : List Turn) (c : List (List ℕ)) : Type 0 where
    pub others : List Turn
    pub turns : s ≡ r ++ others
    pub records : contents others ≡ c
    pub tells : Tells a x y others

  pub goes_on-from : (tree x y : T) (r s : List Turn) (c : List (List ℕ)) (m : List Moment) (n : List Bool) → Tells a tree x r
      → Tells a tree y s
      → contents s ≡ contents r ++ c → moments_of s ≡ moments_of r ++ m → starved s ≡ starved r ++ n → GoesOnFrom x y r s c
  unfolding TellsTurn
  goes_on-from tree x y [] s c m n first then cs ms ns =
      record { others = s; turns = refl; records = cs; tells = subst (λ (t : T). Tells a t y s) (sym first) then }
  goes_on-from tree x y (t ∷ r) [] c m n first then cs ms ns = absurd (none-begins t.content (contents r ++ c) cs)
  goes_on-from tree x y (t ∷ r) (u ∷ s) c m n first then cs ms ns =
      let content : u.content ≡ t.content = first-of u.content t.content (contents s) (contents r ++ c) cs in
      let starve : is_starved u.outcome ≡ is_starved t.outcome =
      first-of (is_starved u.outcome) (is_starved t.outcome) (starved s) (starved r ++ n) ns in
      let grouped : moment_of t.outcome ++ (moments_of r ++ m) ≡ moment_of u.outcome ++ moments_of s =
      sym (ms ∙ append_assoc (moment_of t.outcome) (moments_of r) m) in
      let tells : TellsBy a tree then.0 (immediate_reply a.fsid t.content) u.outcome =
      subst (λ (k : List ℕ). TellsBy a tree then.0 (immediate_reply a.fsid k) u.outcome) content then.1 in
      let same = like tree first.0 then.0 (immediate_reply a.fsid t.content) t.outcome u.outcome (moments_of r ++ m)
      (moments_of s) first.1 tells (sym starve) grouped in
      let rest = goes_on-from first.0 x y r s c m n first.2 (subst (λ (k : T). Tells a k y s) (sym same.tree) then.2)
      (others-of u.content t.content (contents s) (contents r ++ c) cs) (sym same.moments)
      (others-of (is_starved u.outcome) (is_starved t.outcome) (starved s) (starved r ++ n) ns) in
      record {
        others = rest.others;
        turns = ap (λ (k : Turn). k ∷ s) (turn-is u t content (sym same.outcome)) ∙ ap (λ (xs : List Turn). t ∷ xs) rest.turns;
        records = rest.records;
        tells = rest.tells;
      }

  -- turns of the same records, moments and wants of memory
  record AreSame (x y : T) (r s : List Turn) : Type 0 where
    turns : r ≡ s
    behind : x ≡ y

  same-nil : (x y : T) (r s others : List Turn) → contents others ≡ [] → s ≡ r ++ others → Tells a x y others → AreSame x y r s
  same-nil x y r s [] none turns tells = record { turns = sym (turns ∙ append-nil r); behind = sym tells }
  same-nil x y r s (t ∷ others) none turns tells = absurd (none-begins t.content (contents others) (sym none))

  same-turns : (tree x y : T) (r s : List Turn) → Tells a tree x r → Tells a tree y s → contents r ≡ contents s
      → moments_of r ≡ moments_of s → starved r ≡ starved s → AreSame x y r s
  same-turns tree x y r s first then cs ms ns =
      let on = goes_on-from tree x y r s [] [] [] first then (sym cs ∙ sym (append-nil (contents r)))
      (sym ms ∙ sym (append-nil (moments_of r))) (sym ns ∙ sym (append-nil (starved r))) in
      same-nil x y r s on.others on.records on.turns on.tells

  -- ---- two sessions on one text

  pub one_records : (tree other : T) (text : List ℕ) (r : Reading a tree text) (s : Reading a other text)
      → (r.end ≡ WriteFault → ⊥) → (s.end ≡ WriteFault → ⊥) → contents r.turns ≡ contents s.turns
  one_records tree other text r s not nor =
      sym (answered-are r.end (course (no_reply a.fsid) text) (contents r.turns) r.ends.follows not) ∙ answered-are s.end
      (course (no_reply a.fsid) text) (contents s.turns) s.ends.follows nor

  pub one_end : (tree other : T) (text : List ℕ) (r : Reading a tree text) (s : Reading a other text) → IsByText r.end
      → IsByText s.end → r.end ≡ s.end
  one_end tree other text r s by too =
      sym (follows-by_text r.end (course (no_reply a.fsid) text) (contents r.turns) r.ends.follows by) ∙ follows-by_text s.end
      (course (no_reply a.fsid) text) (contents s.turns) s.ends.follows too

  pub one_reading : (tree : T) (text : List ℕ) (r s : Reading a tree text) → (r.end ≡ WriteFault → ⊥) → (s.end ≡ WriteFault → ⊥)
      → moments_of r.turns ≡ moments_of s.turns → starved r.turns ≡ starved s.turns → IsSame r s
  one_reading tree text r s not nor ms ns =
      let same = same-turns tree r.behind s.behind r.turns s.turns r.tells s.tells (one_records tree tree text r s not nor) ms
      ns in
      record {
        turns = same.turns;
        bytes = wrote-is a.fsid r.end r.turns r.bytes r.ends.wrote not ∙
            (ap (written a.fsid) same.turns ∙ sym (wrote-is a.fsid s.end s.turns s.bytes s.ends.wrote nor));
        behind = same.behind;
      }

  -- what was written of broken turns, which others go on from
  broken-front : (r s others : List Turn) (bytes : List ℕ) → BreaksIn a.fsid r bytes → s ≡ r ++ others
      → IsFront bytes (written a.fsid s)
  broken-front r s others bytes b is =
      let fsid = a.fsid in
      let last : written fsid (b.last ∷ []) ≡ b.front ++ b.rest = append-nil (reply_to fsid b.last) ∙ b.reply in
      let whole : written fsid r ≡ (written fsid b.answered ++ b.front) ++ b.rest =
      ap (written fsid) b.turns_are ∙ (written-append fsid b.answered (b.last ∷ [])
      ∙ (ap (λ (xs : List ℕ). written fsid b.answered ++ xs) last ∙ sym
      (append_assoc (written fsid b.answered) b.front b.rest))) in
      record {
        rest = b.rest ++ written fsid others;
        whole = ap (written fsid) is ∙ (written-append fsid r others
            ∙ (ap (λ (xs : List ℕ). xs ++ written fsid others) (whole ∙ ap (λ (xs : List ℕ). xs ++ b.rest) (sym b.bytes_are))
            ∙ append_assoc bytes b.rest (written fsid others)));
      }

  pub one_front : (tree : T) (text : List ℕ) (r s : Reading a tree text) → r.end ≡ WriteFault → (s.end ≡ WriteFault → ⊥)
      → IsFront (moments_of r.turns) (moments_of s.turns) → IsFront (starved r.turns) (starved s.turns) → IsFront r.bytes s.bytes
  one_front tree text r s broken nor ms ns =
      let breaks = subst (λ (e : SessionEnd). Follows e (course (no_reply a.fsid) text) (contents r.turns)) broken
      r.ends.follows in
      let wrote = subst (λ (e : SessionEnd). Wrote a.fsid e r.turns r.bytes) broken r.ends.wrote in
      let records = sym (answered-are s.end (course (no_reply a.fsid) text) (contents s.turns) s.ends.follows nor) ∙
      breaks.first in
      let on = goes_on-from tree r.behind s.behind r.turns s.turns breaks.others ms.rest ns.rest r.tells s.tells records
      ms.whole ns.whole in
      subst (IsFront r.bytes) (sym (wrote-is a.fsid s.end s.turns s.bytes s.ends.wrote nor))
      (broken-front r.turns s.turns on.others r.bytes wrote on.turns)
