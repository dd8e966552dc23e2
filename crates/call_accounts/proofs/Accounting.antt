-- The law of accounts: the entries of a span of calls, one call after another.
use Rattle.std.proofs.Common.{◌≡◌, ◌≢◌, ℕ, suc, ◌<◌, ◌≤◌, ◌==◌, Bool, true, false, cond, List, [], ◌∷◌, ◌++◌, reverse, Option}
use Rattle.std.proofs.Common.{Some, None, refl, ap, sym, ◌∙◌, subst, arith, ◌⊎◌, inl, inr, append_assoc, append-nil, nat_le}
use Rattle.std.proofs.Common.{nat_lt}
use Rattle.std.specs.List.{list_any, All}
use Rattle.std.proofs.lemmas.List.{append_cancel_right, reverse-append}
use Rattle.std.proofs.lemmas.List.Elements.{All-cons, All-append}
use Rattle.pair_types.specs.declared.slot.Tid.{Tid}
use Rattle.pair_types.specs.PageMaps.{PageMap, page_of}
use Rattle.nfs3_types.specs.declared.entry.Entry.{Entry}
use Rattle.nfs3_types.specs.declared.reply.Reply.{Reply}
use Rattle.page_types.specs.declared.command.Command.{Command}
use Rattle.page_types.specs.declared.journal.JEntry.{JEntry}
use Rattle.page_types.specs.declared.journal.JEntry.TheVariants.{Took, Doubted, Late}
use Rattle.page_types.specs.Journals.{Origin, is_of, own}
use Rattle.page_types.specs.Fair.{root}
use Rattle.serial_rules.specs.Worlds.{replay}
use Rattle.serial_rules.specs.Committed.{shown}
use Rattle.serial_rules.specs.Lawful.{IsLawful}
use Rattle.serial_rules.specs.History.{Happened, happened, effect_of, history, those_between, stand}
use Rattle.serial_core.proofs.Basics.{or_false, eq_true, not_both}
use Rattle.serial_core.proofs.Serves.{lawful_before}
use Rattle.two_phase.specs.Parts.{carries}
use Rattle.two_phase.specs.Commits.{asks_effect, AnsweredFor, SettledAgainst}
use Rattle.two_phase.proofs.Effects.{Idle, effects_idle, settled_idle, settled_before}
use Rattle.call_accounts.specs.Asked.{Given, Replied, Jukebox, Serverfault, LacksMemory, Unanswered, Called, Asked, called_in}
use Rattle.call_accounts.specs.Asked.{entry_by}
use Rattle.call_accounts.specs.Calls.{Span, tid_of, behind, IsWithin, call_in, asks_for, StandsForNone, IsAskedFor, StandsOnce}
use Rattle.call_accounts.specs.Calls.{MayStand, StandsAs, asks, AsksFrom, CarriesBelow, early_span, late_span, Calls}
use Rattle.call_accounts.specs.Calls.{IsSpanOf}
use Rattle.call_accounts.specs.Accounts.{Accounts, served_in}
use Rattle.call_accounts.proofs.Fates.{asks_none, call_is, joined}
use Rattle.call_accounts.proofs.Fixing.{stands_once, stands_never, stands_for_none, stands_at_most}
use Rattle.call_accounts.proofs.Ranges.{le_true, true_le, lt_true, true_lt, not_eq, ones, those_append, AreNone, skip}
use Rattle.call_accounts.proofs.Ranges.{empty_range, none_between, IsWith, HasOne, insert_one}
use Rattle.call_accounts.proofs.Merging.{accounts_replied, accounts_jukebox, accounts_serverfault, accounts_lacks}
use Rattle.call_accounts.proofs.Merging.{accounts_unanswered, MayBeIn}

-- ## Entries that ask nothing of a transaction

abbrev IsIdle : Tid → List JEntry → Type 0
IsIdle t es = list_any (asks t) es ≡ false

idle_one : (t : Tid) (e : JEntry) → asks t e ≡ false → Idle t e
idle_one t (Took pass q c a) h = h
idle_one t (Doubted pass q c) h = h
idle_one t (Late q c a) h = tt

all_idle : (t : Tid) (es : List JEntry) → IsIdle t es → All (Idle t) es
all_idle t [] h = λ k d lt. absurd (omega (arith, lt))
all_idle t (e ∷ es) h =
    let b = or_false (asks t e) (list_any (asks t) es) h in
    All-cons (Idle t) e es (idle_one t e b.0) (all_idle t es b.1)

no_call : (t : Tid) (c : Command) → asks_effect t c ≡ false → call_in t c ≡ None
no_call t c h = call_is t c ∙ ap joined (asks_none t c h)

none_one : (t : Tid) (e : JEntry) → asks t e ≡ false → asks_for t e ≡ None
none_one t (Took pass q c a) h = no_call t c h
none_one t (Doubted pass q c) h = no_call t c h
none_one t (Late q c a) h = refl

all_none : (t : Tid) (es : List JEntry) → IsIdle t es → All (λ e. asks_for t e ≡ None) es
all_none t [] h = λ k d lt. absurd (omega (arith, lt))
all_none t (e ∷ es) h =
    let b = or_false (asks t e) (list_any (asks t) es) h in
    All-cons (λ e. asks_for t e ≡ None) e es (none_one t e b.0) (all_none t es b.1)

pub idle_append : (t : Tid) (es fs : List JEntry) → IsIdle t es → IsIdle t fs → IsIdle t (es ++ fs)
idle_append t [] fs h k = k
idle_append t (e ∷ es) fs h k =
    let b = or_false (asks t e) (list_any (asks t) es) h in rw (b.0) (idle_append t es fs b.1 k)

-- ## A part of a pass's entries that asks nothing more

module _ (t : Tid) (after before : List JEntry) (idle : IsIdle t after) where
  lift_answered : (served : Option Entry) → AnsweredFor before t served → AnsweredFor (after ++ before) t served
  lift_answered served h = effects_idle t after before (all_idle t after idle) ∙ h

  lift_none : StandsForNone before t → StandsForNone (after ++ before) t
  lift_none (inl h) = inl (settled_idle t after before (all_idle t after idle) h)
  lift_none (inr h) = inr (All-append (λ e. asks_for t e ≡ None) after before (all_none t after idle) h)

  lift_asked : (called : Called) → IsAskedFor before t called → IsAskedFor (after ++ before) t called
  lift_asked called h = All-append (λ e. (entry : Entry) → asks_for t e ≡ Some entry → called_in entry ≡ called) after before
      (weaker after (all_none t after idle)) h
    where
      weaker : (es : List JEntry) → All (λ e. asks_for t e ≡ None) es →
          All (λ e. (entry : Entry) → asks_for t e ≡ Some entry → called_in entry ≡ called) es
      weaker es all k d lt entry is = absurd (let n = all k d lt in cc)

-- ## A journal in two pieces

-- the journal up to some place, by the pass's own entries up to there
record Pieces (pass : ℕ) (es after before : List JEntry) : Type 0 where
  newer : List JEntry
  older : List JEntry
  is : es ≡ newer ++ older
  own_is : own pass older ≡ before

pieces : (pass : ℕ) (es after before : List JEntry) → own pass es ≡ after ++ before → Pieces pass es after before
pieces pass es [] before h = record { newer = []; older = es; is = refl; own_is = h }
pieces pass [] (a ∷ after) before h = absurd cc
pieces pass (e ∷ es) (a ∷ after) before h =
    at (is_of pass e) h (λ h'. pieces pass es after before h') (λ h'. pieces pass es (a ∷ after) before h')
  where
    more : (rest : List JEntry) → Pieces pass es rest before → Pieces pass (e ∷ es) (a ∷ after) before
    more rest p =
        record { newer = e ∷ p.newer; older = p.older; is = ap (λ (l : List JEntry). e ∷ l) p.is; own_is = p.own_is }

    at : (b : Bool) → cond b (e ∷ own pass es) (own pass es) ≡ a ∷ (after ++ before) →
        (own pass es ≡ after ++ before → Pieces pass es after before) →
        (own pass es ≡ (a ∷ after) ++ before → Pieces pass es (a ∷ after) before) →
        Pieces pass (e ∷ es) (a ∷ after) before
    at true h one two = more after (one cc)
    at false h one two = more (a ∷ after) (two h)

gained : (o : Origin) (newer older : List JEntry) → (hs : List Happened) × (history o (newer ++ older) ≡ hs ++ history o older)
gained o [] older = ([], refl)
gained o (e ∷ newer) older =
    let g = gained o newer older in
    let h = happened (page_of (shown (replay o (newer ++ older)) root)) (effect_of o (newer ++ older) e) in
    (h ++ g.0, ap (λ (l : List Happened). h ++ l) g.1 ∙ sym (append_assoc h g.0 (history o older)))

-- ## Lists

both_nil : {A : Type 0} (xs ys : List A) → xs ++ ys ≡ [] → (xs ≡ []) × (ys ≡ [])
both_nil [] ys h = (refl, h)
both_nil (x ∷ xs) ys h = absurd cc

alone_with : (x : Entry) (whole rest : List Entry) → IsWith x whole rest → rest ≡ [] → whole ≡ x ∷ []
alone_with x whole rest w none =
    let b = both_nil w.newer w.older (sym w.rest_is ∙ none) in
    w.whole_is ∙ (λ i. b.0 i ++ (x ∷ b.1 i))

turned : (x : Entry) (newer older : List Entry) → reverse (newer ++ (x ∷ older)) ≡ reverse older ++ (x ∷ reverse newer)
turned x newer older =
    reverse-append newer (x ∷ older)
    ∙ (ap (λ (l : List Entry). l ++ reverse newer) (reverse-append (x ∷ []) older)
    ∙ append_assoc (reverse older) (x ∷ []) (reverse newer))

-- ## What stands of a span

module _ {S : Type 0} (stands : PageMap → S → Type 0) (next : S → List ℕ → Entry → S → Type 0) (o : Origin) where
  module _ (es : List JEntry) (law : IsLawful stands next o es) (s : Span) (of : IsSpanOf es s) where
    none_of : (n : ℕ) → IsWithin s n → StandsForNone (behind s) (tid_of s n) → ones s.pass n (history o es) ≡ []
    none_of n within h =
        by (subst (λ (l : List JEntry). StandsForNone l (tid_of s n)) (sym of.own_is)
        (lift_none (tid_of s n) of.later (behind s) (of.alone n within) h))
      where
        by : StandsForNone (own s.pass es) (tid_of s n) → ones s.pass n (history o es) ≡ []
        by (inl h) = stands_never stands next o es law (tid_of s n) h
        by (inr h) = stands_for_none stands next o es law (tid_of s n) h

    once_of : (n : ℕ) → IsWithin s n → (x : Entry) → AnsweredFor (behind s) (tid_of s n) (Some x) →
        ones s.pass n (history o es) ≡ x ∷ []
    once_of n within x h =
        stands_once stands next o es law (tid_of s n) x
        (subst (λ (l : List JEntry). AnsweredFor l (tid_of s n) (Some x)) (sym of.own_is)
        (lift_answered (tid_of s n) of.later (behind s) (of.alone n within) (Some x) h))

    most_of : (n : ℕ) → IsWithin s n → (called : Called) → IsAskedFor (behind s) (tid_of s n) called →
        (ones s.pass n (history o es) ≡ []) ⊎
        ((x : Entry) × (ones s.pass n (history o es) ≡ x ∷ []) × (called_in x ≡ called))
    most_of n within called h =
        stands_at_most stands next o es law (tid_of s n) called
        (subst (λ (l : List JEntry). IsAskedFor l (tid_of s n) called) (sym of.own_is)
        (lift_asked (tid_of s n) of.later (behind s) (of.alone n within) called h))

    -- of a call that was crossed too often
    none_stands : ((n : ℕ) → IsWithin s n → StandsForNone (behind s) (tid_of s n)) → s.first ≤ s.last → (last : ℕ) →
        stand s.pass s.first last o es ≡ stand s.pass s.last last o es
    none_stands h rises last =
        skip s.pass s.first s.last last (history o es) rises
        (λ n low high. none_of n (record { low = low; high = high }) (h n (record { low = low; high = high })))

    one_stands : (n : ℕ) → IsWithin s n → (x : Entry) → ones s.pass n (history o es) ≡ x ∷ [] →
        ((other : ℕ) → IsWithin s other → other ≢ n → StandsForNone (behind s) (tid_of s other)) →
        HasOne s.pass s.first s.last n x (history o es)
    one_stands n within x one others = record {
      low = within.low;
      high = within.high;
      others = λ m low high ne.
          none_of m (record { low = low; high = high }) (others m (record { low = low; high = high }) ne);
      one = one;
    }

    -- of an open call
    may_stand : (called : Called) → MayStand s called → s.first ≤ s.last → (last : ℕ) → s.last ≤ last →
        (stand s.pass s.first last o es ≡ stand s.pass s.last last o es) ⊎
        ((x : Entry) × (called_in x ≡ called) ×
        IsWith x (stand s.pass s.first last o es) (stand s.pass s.last last o es))
    may_stand called m rises last le = at (nat_le s.first m.serial) refl (nat_lt m.serial s.last) refl
      where
        outside : (IsWithin s m.serial → ⊥) → stand s.pass s.first last o es ≡ stand s.pass s.last last o es
        outside out = none_stands
            (λ n within. m.others n within (λ same. out (subst (λ k. IsWithin s k) same within))) rises last

        inside : IsWithin s m.serial → (stand s.pass s.first last o es ≡ stand s.pass s.last last o es) ⊎
            ((x : Entry) × (called_in x ≡ called) ×
            IsWith x (stand s.pass s.first last o es) (stand s.pass s.last last o es))
        inside within = elim (most_of m.serial within called m.asked) [
          | inl none ↦ inl (skip s.pass s.first s.last last (history o es) rises
              (λ n low high. by none n low high (n == m.serial) refl))
          | inr x ↦ inr (
            x.0,
            x.2,
            insert_one s.pass s.first s.last last m.serial x.0 (history o es) rises le
                (one_stands m.serial within x.0 x.1 m.others),
          )
        ]
          where
            by : ones s.pass m.serial (history o es) ≡ [] → (n : ℕ) → s.first ≤ n → n < s.last → (b : Bool) →
                (n == m.serial) ≡ b → ones s.pass n (history o es) ≡ []
            by none n low high true is = subst (λ k. ones s.pass k (history o es) ≡ []) (sym (eq_true n m.serial is)) none
            by none n low high false is =
                none_of n (record { low = low; high = high }) (m.others n (record { low = low; high = high })
                (not_eq n m.serial is))

        at : (a : Bool) → nat_le s.first m.serial ≡ a → (b : Bool) → nat_lt m.serial s.last ≡ b →
            (stand s.pass s.first last o es ≡ stand s.pass s.last last o es) ⊎
            ((x : Entry) × (called_in x ≡ called) ×
            IsWith x (stand s.pass s.first last o es) (stand s.pass s.last last o es))
        at true a_is true b_is =
            inside (record { low = le_true s.first m.serial a_is; high = lt_true m.serial s.last b_is })
        at true a_is false b_is = inl (outside (λ w. not_both (true_lt m.serial s.last w.high) b_is))
        at false a_is b b_is = inl (outside (λ w. not_both (true_le s.first m.serial w.low) a_is))

  -- the span ends here, and nothing of it follows
  ends_here : (es : List JEntry) (s : Span) → own s.pass es ≡ behind s → CarriesBelow s.pass s.first s.before → IsSpanOf es s
  ends_here es s own_is new = record { later = []; own_is = own_is; new = new; alone = λ n within. refl }

  -- of a call that was acknowledged: its entry, before those of all later calls
  once_stands : (es : List JEntry) → IsLawful stands next o es → (s : Span) → IsSpanOf es s → (called : Called) (reply : Reply) →
      (h : StandsOnce s called reply) → CarriesBelow s.pass s.last (behind s) → s.first ≤ s.last → (last : ℕ) → s.last ≤ last →
      stand s.pass s.first last o es ≡
      stand s.pass s.last last o es ++ (entry_by (tid_of s h.serial) called reply ∷ [])
  once_stands es law s of called reply h below rises last le =
      whole_is ∙ ap (λ (l : List Entry). l ++ (x ∷ [])) (sym rest_is)
    where
      x : Entry
      x = entry_by (tid_of s h.serial) called reply

      cut : Pieces s.pass es of.later (behind s)
      cut = pieces s.pass es of.later (behind s) of.own_is

      gs : List Happened
      gs = (gained o cut.newer cut.older).0

      hs : List Happened
      hs = history o cut.older

      all_is : history o es ≡ gs ++ hs
      all_is = ap (λ (l : List JEntry). history o l) cut.is ∙ (gained o cut.newer cut.older).1

      law' : IsLawful stands next o cut.older
      law' = lawful_before stands next o cut.newer cut.older (subst (λ (l : List JEntry). IsLawful stands next o l) cut.is law)

      of' : IsSpanOf cut.older s
      of' = ends_here cut.older s cut.own_is of.new

      then_one : ones s.pass h.serial hs ≡ x ∷ []
      then_one = once_of cut.older law' s of' h.serial h.within x h.answered

      now_one : ones s.pass h.serial gs ++ ones s.pass h.serial hs ≡ x ∷ []
      now_one =
          sym (those_append s.pass h.serial (suc h.serial) gs hs)
          ∙ (ap (λ (l : List Happened). ones s.pass h.serial l) (sym all_is) ∙ once_of es law s of h.serial h.within x h.answered)

      later_none : AreNone s.pass s.last last hs
      later_none n low high =
          stands_never stands next o cut.older law' (tid_of s n)
          (subst (λ (l : List JEntry). SettledAgainst l (tid_of s n)) (sym cut.own_is)
          (settled_before (tid_of s n) (behind s) (below n low)))

      none_gained : AreNone s.pass s.first s.last gs
      none_gained n low high = at (n == h.serial) refl
        where
          at : (b : Bool) → (n == h.serial) ≡ b → ones s.pass n gs ≡ []
          at true is = subst (λ k. ones s.pass k gs ≡ []) (sym (eq_true n h.serial is))
              (append_cancel_right (ones s.pass h.serial gs) [] (x ∷ [])
              (subst (λ (l : List Entry). ones s.pass h.serial gs ++ l ≡ x ∷ []) then_one now_one))
          at false is =
              (both_nil (ones s.pass n gs) (ones s.pass n hs)
              (sym (those_append s.pass n (suc n) gs hs)
              ∙ (ap (λ (l : List Happened). ones s.pass n l) (sym all_is)
              ∙ none_of es law s of n (record { low = low; high = high })
              (h.others n (record { low = low; high = high })
              (not_eq n h.serial is))))).0

      one : HasOne s.pass s.first s.last h.serial x hs
      one = one_stands cut.older law' s of' h.serial h.within x then_one h.others

      last_none : those_between s.pass s.last last hs ≡ []
      last_none = none_between s.pass s.last last hs le later_none

      there : those_between s.pass s.first last hs ≡ x ∷ []
      there = alone_with x _ _ (insert_one s.pass s.first s.last last h.serial x hs rises le one) last_none

      whole_is : stand s.pass s.first last o es ≡ those_between s.pass s.last last gs ++ (x ∷ [])
      whole_is =
          ap (λ (l : List Happened). those_between s.pass s.first last l) all_is
          ∙ (those_append s.pass s.first last gs hs
          ∙ (λ i. skip s.pass s.first s.last last gs rises none_gained i ++ there i))

      rest_is : stand s.pass s.last last o es ≡ those_between s.pass s.last last gs
      rest_is =
          ap (λ (l : List Happened). those_between s.pass s.last last l) all_is
          ∙ (those_append s.pass s.last last gs hs
          ∙ (ap (λ (l : List Entry). those_between s.pass s.last last gs ++ l) last_none
          ∙ append-nil (those_between s.pass s.last last gs)))

  -- ## One call after another

  calls_rise : (asked : List Asked) (s : Span) → Calls s asked → s.first ≤ s.last
  calls_rise [] s c = let is = c.1 in omega (arith, is)
  calls_rise (a ∷ asked) s c =
      let r = c.4.rises in
      let l = calls_rise asked (late_span s c.0 c.1 c.2) c.5 in
      omega (arith, r, l)

  calls_from : (asked : List Asked) (s : Span) → Calls s asked → AsksFrom s.pass s.first s.part
  calls_from [] s c n lt =
      subst (λ (l : List JEntry). IsIdle (record { pass = s.pass; serial = n }) l) (sym c.0) refl
  calls_from (a ∷ asked) s c n lt =
      subst (λ (l : List JEntry). IsIdle (record { pass = s.pass; serial = n }) l) (sym c.3)
      (idle_append (record { pass = s.pass; serial = n }) c.2 c.1
      (calls_from asked (late_span s c.0 c.1 c.2) c.5 n (let r = c.4.rises in omega (arith, r, lt))) (c.4.from n lt))

  module _ (es : List JEntry) (law : IsLawful stands next o es) where
    -- the first call's span, and that of the others
    first_of_calls : (a : Asked) (asked : List Asked) (s : Span) → IsSpanOf es s → (c : Calls s (a ∷ asked)) →
        IsSpanOf es (early_span s c.0 c.1)
    first_of_calls a asked s of c = record {
      later = of.later ++ c.2;
      own_is =
          of.own_is
          ∙ (ap (λ (l : List JEntry). of.later ++ (l ++ s.before)) c.3
          ∙ (ap (λ (l : List JEntry). of.later ++ l) (append_assoc c.2 c.1 s.before)
          ∙ sym (append_assoc of.later c.2 (c.1 ++ s.before))));
      new = of.new;
      alone = λ n within.
          idle_append (tid_of s n) of.later c.2
          (of.alone n (let l = calls_rise asked (late_span s c.0 c.1 c.2) c.5 in
          let h = within.high in record { low = within.low; high = omega (arith, h, l) }))
          (calls_from asked (late_span s c.0 c.1 c.2) c.5 n within.high);
    }

    carries_append : (t : Tid) (fs gs : List JEntry) → list_any (carries t) fs ≡ false → list_any (carries t) gs ≡ false →
        list_any (carries t) (fs ++ gs) ≡ false
    carries_append t [] gs h k = k
    carries_append t (f ∷ fs) gs h k =
        let b = or_false (carries t f) (list_any (carries t) fs) h in rw b.0 (carries_append t fs gs b.1 k)

    below_all : (a : Asked) (asked : List Asked) (s : Span) → IsSpanOf es s → (c : Calls s (a ∷ asked)) →
        CarriesBelow s.pass c.0 (c.1 ++ s.before)
    below_all a asked s of c n le =
        carries_append (record { pass = s.pass; serial = n }) c.1 s.before (c.4.below n le)
        (of.new n (let r = c.4.rises in omega (arith, r, le)))

    rest_of_calls : (a : Asked) (asked : List Asked) (s : Span) → IsSpanOf es s → (c : Calls s (a ∷ asked)) →
        IsSpanOf es (late_span s c.0 c.1 c.2)
    rest_of_calls a asked s of c = record {
      later = of.later;
      own_is =
          of.own_is
          ∙ (ap (λ (l : List JEntry). of.later ++ (l ++ s.before)) c.3
          ∙ ap (λ (l : List JEntry). of.later ++ l) (append_assoc c.2 c.1 s.before));
      new = below_all a asked s of c;
      alone = λ n within. of.alone n (let r = c.4.rises in
          let l = within.low in record { low = omega (arith, r, l); high = within.high });
    }

    may_be : (called : Called) (whole rest : List Entry) →
        (whole ≡ rest) ⊎ ((x : Entry) × (called_in x ≡ called) × IsWith x whole rest) →
        (reverse whole ≡ reverse rest) ⊎ MayBeIn called (reverse whole) (reverse rest)
    may_be called whole rest (inl same) = inl (ap (λ (l : List Entry). reverse l) same)
    may_be called whole rest (inr m) = inr (record {
      x = m.0;
      is = m.1;
      older = reverse m.2.older;
      newer = reverse m.2.newer;
      whole_is = ap (λ (l : List Entry). reverse l) m.2.whole_is ∙ turned m.0 m.2.newer m.2.older;
      rest_is = ap (λ (l : List Entry). reverse l) m.2.rest_is ∙ reverse-append m.2.newer m.2.older;
    })

    -- one call, before the others
    one_more : (s : Span) → IsSpanOf es s → (called : Called) (given : Given) → StandsAs s called given →
        CarriesBelow s.pass s.last (behind s) → s.first ≤ s.last → (last : ℕ) → s.last ≤ last → (asked : List Asked) →
        Accounts asked (reverse (stand s.pass s.last last o es)) →
        Accounts (record { called = called; given = given } ∷ asked) (reverse (stand s.pass s.first last o es))
    one_more s of called (Replied reply) h below rises last le asked a =
        subst (λ (l : List Entry). Accounts (record { called = called; given = Replied reply } ∷ asked) l)
        (sym (ap (λ (l : List Entry). reverse l) (once_stands es law s of called reply h below rises last le)
        ∙ reverse-append (stand s.pass s.last last o es) (entry_by (tid_of s h.serial) called reply ∷ [])))
        (accounts_replied called reply asked (entry_by (tid_of s h.serial) called reply)
        (reverse (stand s.pass s.last last o es)) refl a)
    one_more s of called Jukebox h below rises last le asked a =
        accounts_jukebox called asked (reverse (stand s.pass s.first last o es))
        (subst (λ (l : List Entry). Accounts asked (reverse l)) (sym (none_stands es law s of h rises last)) a)
    one_more s of called Serverfault h below rises last le asked a =
        accounts_serverfault called asked _ _ (may_be called _ _ (may_stand es law s of called h rises last le)) a
    one_more s of called LacksMemory h below rises last le asked a =
        accounts_lacks called asked _ _ (may_be called _ _ (may_stand es law s of called h rises last le)) a
    one_more s of called Unanswered h below rises last le asked a =
        accounts_unanswered called asked _ _ (may_be called _ _ (may_stand es law s of called h rises last le)) a

    pub are_accounted : (asked : List Asked) (s : Span) → IsSpanOf es s → Calls s asked → Accounts asked (served_in s o es)
    are_accounted [] s of c =
        subst (λ (l : List Entry). Accounts [] (reverse l))
        (sym (empty_range s.pass s.first s.last (history o es) (let is = c.1 in omega (arith, is))))
        (record { rest = []; order = (refl, refl); few = λ w. omega arith })
    are_accounted (a ∷ asked) s of c =
        one_more (early_span s c.0 c.1) (first_of_calls a asked s of c) a.called a.given c.4.stands
        (below_all a asked s of c) c.4.rises s.last (calls_rise asked (late_span s c.0 c.1 c.2) c.5) asked
        (are_accounted asked (late_span s c.0 c.1 c.2) (rest_of_calls a asked s of c) c.5)
