-- What clap makes of any list of words, for this program's commands.
use Rattle.std.proofs.Common.{◌≡◌, ◌∙◌, ◌≤◌, ◌<◌, ℕ, Bool, cond, true, false, not, zero, suc, refl, sym, ap, ap₂, subst, arith}
use Rattle.std.proofs.Common.{codes, List, [], ◌∷◌, ◌++◌, length, append_assoc, append-nil, Option, Some, None, option_map, ◌⊎◌}
use Rattle.std.proofs.Common.{inl, inr, ◌||◌, ◌==◌, fold, is_some, true≢false, Result, Ok, Err, IfOk, IfErr}
use Rattle.std.specs.Str.{bytes_eq, chars}
use Rattle.std.specs.List.{list_all}
use Rattle.std.specs.Option.{option_map_or}
use Rattle.std.specs.Prelude.{slice_get}
use Rattle.std.proofs.lemmas.Bool.{le-ltb}
use Rattle.std.proofs.lemmas.Slice.Eq.{bytes_eq-Decides}
use Rattle.clap.specs.Lexer.{usize_max, long_of, short_of}
use Rattle.clap.specs.Walk.{Held, Names, Outcome, Row, Rule, Step, Text, Waiting, Walk, idle, positional, value, plain, refused}
use Rattle.clap.specs.Walk.{bundle_met, bundle_step, walked, walk_from, nothing_held, rows_after, stop_after, long_or_other}
use Rattle.clap.specs.Walk.{short_or_plain, after_flag, after_step, finished, arg_by_long, arg_by_short, long_met, short_met}
use Rattle.clap.specs.Walk.{long_word, subcommand_met, subcommand_or_other, word_met, answers_to, settled}
use Rattle.clap.specs.Walk as walk
use Rattle.clap.specs.Simple.{Shape, built, new_shape, subcommand_of, entered, HasMatchesOf}
use Rattle.clap.specs.Kinds.{Kinds, HasKind, FailsBy, or_else, values_kinds, range_kinds}
use Rattle.clap.specs.Faults.{fault_of, is_simple_and_free, walk_fault, turn_fault, level_fault, settle_fault, defaults_fault}
use Rattle.clap.specs.Faults.{word_fault, step_fault, check_fault, entered_fault}
use Rattle.clap.specs.declared.builder.action.ArgAction.TheVariants.{Append}
use Rattle.clap.specs.declared.builder.value_parser.ValueParser.TheVariants as vp
use Rattle.clap.specs.declared.error.kind.ErrorKind.{ErrorKind}
use Rattle.clap.specs.declared.error.kind.ErrorKind.TheVariants.{OutOfMemory, UnknownArgument, InvalidSubcommand}
use Rattle.clap.proofs.FaultLemmas.{past, stopped_fault}
use Rattle.clap.proofs.SimpleLemmas.{is_false}
use Rattle.clap.proofs.WalkLemmas.{both}
use Rattle.fss_words.specs.Parts.{without_dashes, values_in, parted, is_name, begins_with_minus, IsTaken, parts_of}
use Rattle.clap.specs.declared.parser.matches.ArgMatches.{ArgMatches}
use Rattle.clap.specs.declared.error.Error.{Error}
use Rattle.clap.specs.Words.{kind_of}
use Rattle.fss_words.specs.Tree.{values_rule, fss}

pub fss_is_simple : is_simple_and_free fss ≡ true
fss_is_simple = refl

-- the rule of the values, as building makes it
abbrev pub ready : Rule
ready = record values_rule { index = Some 1; action = Some Append; parser = Some vp.String }

abbrev rules : List Rule
rules = ready ∷ []

abbrev dashes : Text
dashes = 45 ∷ 45 ∷ []

-- ---- a word that no flag answers to

module _ (c : List Rule) (no_long : (name : Text) → arg_by_long c name ≡ None) (no_short : (x : ℕ)
    → arg_by_short c x ≡ None) where
  bundle_is : (n : ℕ) (flags : Text) (h : Held)
      → (bundle_met c n flags 0 plain h ≡ (h, plain)) ⊎ (bundle_met c n flags 0 plain h ≡ (h, refused))
  unfolding bundle_met
  bundle_is zero flags h = inl refl
  bundle_is (suc n) flags h = go (slice_get (chars flags) 0)
    where
      go : (o : Option ℕ) → (bundle_step c o flags 0 plain h (bundle_met c n)
          ≡ (h, plain)) ⊎ (bundle_step c o flags 0 plain h (bundle_met c n) ≡ (h, refused))
      go None = inl refl
      go (Some x) = inr (rw (no_short x) refl)

  pub shorts_are : (w : Text) (rows : List Row) (pending : Option (Text × List Text)) (sh : Option Text)
      → (short_or_plain c idle w sh (record { rows = rows; pending = pending; skip = 0 })
      ≡ (record { rows = rows; pending = pending; skip = 0 }, value))
      × (short_or_plain c positional w sh (record { rows = rows; pending = pending; skip = 0 })
      ≡ (record { rows = rows; pending = pending; skip = 0 }, value))
  shorts_are w rows pending None = (refl, refl)
  shorts_are w rows pending (Some flags) =
      let h : Held = record { rows = rows; pending = pending; skip = 0 } in
      elim (bundle_is (length flags) flags h) [
        | inl e ↦ (
          ap (λ (m : Held × Outcome). after_flag c idle w m.0 m.1) e,
          ap (λ (m : Held
              × Outcome). after_flag c positional w m.0 m.1) e,
        )
        | inr e ↦ (
          ap (λ (m : Held × Outcome). after_flag c idle w m.0 m.1) e,
          ap (λ (m : Held
              × Outcome). after_flag c positional w m.0 m.1) e,
        )
      ]

  pub others_are : (w : Text) (rows : List Row) (pending : Option (Text × List Text)) (lo : Option (Text × Option Text))
      → (long_or_other c idle w lo (record { rows = rows; pending = pending; skip = 0 })
      ≡ (record { rows = rows; pending = pending; skip = 0 }, value))
      × (long_or_other c positional w lo (record { rows = rows; pending = pending; skip = 0 })
      ≡ (record { rows = rows; pending = pending; skip = 0 }, value))
  others_are w rows pending None = shorts_are w rows pending (short_of w)
  others_are w rows pending (Some p) =
      let h : Held = record { rows = rows; pending = pending; skip = 0 } in (
        ap (λ (o : Option Rule). after_flag c idle w (long_met c o p.1 h).0 (long_met c o p.1 h).1) (no_long p.0),
        ap (λ (o : Option Rule). after_flag c positional w (long_met c o p.1 h).0 (long_met c o p.1 h).1) (no_long p.0),
      )

-- ---- the walk over the words after a command's name

abbrev pending_at : List Text → Option (Text × List Text)
pending_at [] = None
pending_at (v ∷ vs) = Some (codes "values", v ∷ vs)

abbrev waiting_at : List Text → Waiting
waiting_at [] = idle
waiting_at (v ∷ vs) = positional

abbrev held_at : List Text → Held
held_at vs = record { rows = []; pending = pending_at vs; skip = 0 }

abbrev state : Bool → List Text → Walk
state trailing vs = record { held = held_at vs; waiting = waiting_at vs; position = 1; is_trailing = trailing; stopped = None }

trailing_step : (vs : List Text) (w : Text) → walked rules [] (state true vs) w ≡ state true (vs ++ w ∷ [])
unfolding walked
trailing_step [] w = refl
trailing_step (v ∷ vs) w = refl

dashes_step : (vs : List Text) (w : Text) → bytes_eq w dashes ≡ true → walked rules [] (state false vs) w ≡ state true vs
unfolding walked
dashes_step [] w e = rw e refl
dashes_step (v ∷ vs) w e = rw e refl

value_step : (vs : List Text) (w : Text) → bytes_eq w dashes ≡ false
    → walked rules [] (state false vs) w ≡ state false (vs ++ w ∷ [])
unfolding walked
value_step [] w e =
    rw e (ap (λ (m : Held × Step). after_step rules w (state false []) m.0 m.1) (others_are rules (λ name. refl)
    (λ x. refl) w [] None (long_of w)).0)
value_step (v ∷ vs) w e =
    rw e (ap (λ (m : Held × Step). after_step rules w (state false (v ∷ vs)) m.0 m.1) (others_are rules (λ name. refl)
    (λ x. refl) w [] (Some (codes "values", v ∷ vs)) (long_of w)).1)

abbrev over : Walk → List Text → Walk
over = fold (walked rules [])

trailing_walk : (vs ws : List Text) → over (state true vs) ws ≡ state true (vs ++ ws)
trailing_walk vs [] = ap (state true) (sym (append-nil vs))
trailing_walk vs (w ∷ ws) = ap (λ s. over s ws) (trailing_step vs w) ∙ trailing_walk (vs ++ w ∷ []) ws
    ∙ ap (state true) (append_assoc vs (w ∷ []) ws)

leaf_walk : (vs ws : List Text) → (trailing : Bool) × (over (state false vs) ws ≡ state trailing (vs ++ without_dashes ws))
leaf_walk vs [] = (false, ap (state false) (sym (append-nil vs)))
leaf_walk vs (w ∷ ws) = go (bytes_eq w dashes) refl (leaf_walk (vs ++ w ∷ []) ws)
  where
    go : (b : Bool) → bytes_eq w dashes ≡ b → (trailing : Bool) × (over (state false (vs ++ w ∷ [])) ws
        ≡ state trailing ((vs ++ w ∷ []) ++ without_dashes ws))
        → (trailing : Bool) × (over (walked rules [] (state false vs) w) ws
        ≡ state trailing (vs ++ cond b ws (w ∷ without_dashes ws)))
    go true e r = (true, ap (λ s. over s ws) (dashes_step vs w e) ∙ trailing_walk vs ws)
    go false e r = (
      r.0,
      ap (λ s. over s ws) (value_step vs w e) ∙ r.1
          ∙ ap (state r.0) (append_assoc vs (w ∷ []) (without_dashes ws)),
    )

held_values : (vs : List Text) → values_in (finished rules (held_at vs)) ≡ vs
held_values [] = refl
held_values (v ∷ vs) = refl

pub leaf_rows : (ws : List Text) → values_in (rows_after rules [] ws) ≡ without_dashes ws
leaf_rows ws =
    let r = leaf_walk [] ws in
    ap (λ (s : Walk). values_in (finished rules s.held)) r.1 ∙ held_values (without_dashes ws)

-- ---- the walk over all the words

abbrev names : Names
names = (codes "feed", []) ∷ (codes "work", []) ∷ (codes "serve", []) ∷ []

abbrev start : Walk
start = walk_from nothing_held

abbrev stopped_at : Text → List Text → Walk
stopped_at name ws = record { held = nothing_held; waiting = idle; position = 1; is_trailing = false; stopped = Some (name, ws) }

stopped_walk : (name : Text) (ws rest : List Text)
    → fold (walked [] names) (stopped_at name ws) rest ≡ stopped_at name (ws ++ rest)
unfolding walked
stopped_walk name ws [] = ap (stopped_at name) (sym (append-nil ws))
stopped_walk name ws (w ∷ rest) = stopped_walk name (ws ++ w ∷ []) rest ∙ ap (stopped_at name) (append_assoc ws (w ∷ []) rest)

abbrev parts : Option (Text × List Row) → Option (Text × List Text)
parts = option_map (λ p. (p.0, values_in p.1))

feed_step : walked [] names start (codes "feed") ≡ stopped_at (codes "feed") []
unfolding walked
feed_step = refl

feed_parts : (rest : List Text) → parts (subcommand_of fss (codes "feed" ∷ rest)) ≡ Some (codes "feed", without_dashes rest)
feed_parts rest =
    ap (λ (s : Walk). parts (entered (built fss) (fold (walked [] names) s rest).stopped)) feed_step
    ∙ ap (λ (s : Walk). parts (entered (built fss) s.stopped)) (stopped_walk (codes "feed") [] rest)
    ∙ ap (λ vs. Some (codes "feed", vs)) (leaf_rows rest)

work_step : walked [] names start (codes "work") ≡ stopped_at (codes "work") []
unfolding walked
work_step = refl

work_parts : (rest : List Text) → parts (subcommand_of fss (codes "work" ∷ rest)) ≡ Some (codes "work", without_dashes rest)
work_parts rest =
    ap (λ (s : Walk). parts (entered (built fss) (fold (walked [] names) s rest).stopped)) work_step
    ∙ ap (λ (s : Walk). parts (entered (built fss) s.stopped)) (stopped_walk (codes "work") [] rest)
    ∙ ap (λ vs. Some (codes "work", vs)) (leaf_rows rest)

serve_step : walked [] names start (codes "serve") ≡ stopped_at (codes "serve") []
unfolding walked
serve_step = refl

serve_parts : (rest : List Text) → parts (subcommand_of fss (codes "serve" ∷ rest)) ≡ Some (codes "serve", without_dashes rest)
serve_parts rest =
    ap (λ (s : Walk). parts (entered (built fss) (fold (walked [] names) s rest).stopped)) serve_step
    ∙ ap (λ (s : Walk). parts (entered (built fss) s.stopped)) (stopped_walk (codes "serve") [] rest)
    ∙ ap (λ vs. Some (codes "serve", vs)) (leaf_rows rest)

-- ---- the three names, and other words

data NameCase (word : Text) : Type 0 where
  is_feed : word ≡ codes "feed" → NameCase word
  is_work : word ≡ codes "work" → NameCase word
  is_serve : word ≡ codes "serve" → NameCase word

name_cases : (word : Text) → is_name word ≡ true → NameCase word
name_cases word e = go (bytes_eq (codes "feed") word) (bytes_eq (codes "work") word) (bytes_eq
    (codes "serve") word) refl refl refl e
  where
    go : (a b c : Bool) → bytes_eq (codes "feed") word ≡ a → bytes_eq (codes "work") word ≡ b
        → bytes_eq (codes "serve") word ≡ c → (a || (b || c)) ≡ true → NameCase word
    go true b c ea eb ec e = is_feed (sym ((bytes_eq-Decides (codes "feed") word).0 ea))
    go false true c ea eb ec e = is_work (sym ((bytes_eq-Decides (codes "work") word).0 eb))
    go false false true ea eb ec e = is_serve (sym ((bytes_eq-Decides (codes "serve") word).0 ec))
    go false false false ea eb ec e = absurd (true≢false (sym e))

pub named_parts : (word : Text) (rest : List Text) → is_name word ≡ true
    → parts (subcommand_of fss (word ∷ rest)) ≡ Some (word, without_dashes rest)
named_parts word rest e = elim (name_cases word e) [
  | is_feed e ↦ subst (λ (w : Text). parts (subcommand_of fss (w ∷ rest))
      ≡ Some (w, without_dashes rest)) (sym e) (feed_parts rest)
  | is_work e ↦ subst (λ (w : Text). parts (subcommand_of fss (w ∷ rest))
      ≡ Some (w, without_dashes rest)) (sym e) (work_parts rest)
  | is_serve e ↦ subst (λ (w : Text). parts (subcommand_of fss (w ∷ rest))
      ≡ Some (w, without_dashes rest)) (sym e) (serve_parts rest)
]

none_met : (word : Text) → is_name word ≡ false → subcommand_met names idle word ≡ None
none_met word e = go (bytes_eq (codes "feed") word) (bytes_eq (codes "work") word) (bytes_eq
    (codes "serve") word) refl refl refl e
  where
    go : (a b c : Bool) → bytes_eq (codes "feed") word ≡ a → bytes_eq (codes "work") word ≡ b
        → bytes_eq (codes "serve") word ≡ c → (a || (b || c)) ≡ false → subcommand_met names idle word ≡ None
    go true b c ea eb ec e = absurd (true≢false e)
    go false true c ea eb ec e = absurd (true≢false e)
    go false false true ea eb ec e = absurd (true≢false e)
    go false false false ea eb ec e = rw (ea, eb, ec) refl

-- ---- faults

first_none : (a b : Kinds) → or_else a b ≡ [] → a ≡ []
first_none [] b e = refl
first_none (k ∷ ks) b e = e

not_none : (a : Kinds) (k : ErrorKind) (ks : Kinds) → or_else a (k ∷ ks) ≡ [] → ⊥
not_none [] k ks e = cc
not_none (x ∷ xs) k ks e = cc

abbrev topmost : Shape
topmost = (built fss).top

abbrev start_trailing : Walk
start_trailing = record { held = nothing_held; waiting = idle; position = 1; is_trailing = true; stopped = None }

met_is : (word : Text) → is_name word ≡ false → bytes_eq word dashes ≡ false
    → word_met [] names false idle 1 word nothing_held ≡ (nothing_held, value)
met_is word e d =
    ap (λ o. subcommand_or_other [] o idle 1 word nothing_held) (none_met word e)
    ∙ ap (λ (b : Bool). cond b (nothing_held, walk.trailing 1) (long_or_other [] idle word (long_of word) nothing_held)) d
    ∙ (others_are [] (λ name. refl) (λ x. refl) word [] None (long_of word)).0

-- a word that names no command goes to no argument
stray : (word : Text) → is_name word ≡ false → bytes_eq word dashes ≡ false → turn_fault topmost names start word ≡ [] → ⊥
stray word e d none =
    let step : step_fault topmost 1 nothing_held value
    ≡ step_fault topmost 1 (word_met [] names false idle 1 word nothing_held).0
    (word_met [] names false idle 1 word nothing_held).1
    = ap (λ (m : Held × Step). step_fault topmost 1 m.0 m.1) (sym (met_is word e d)) in
    not_none (word_fault topmost names false idle word nothing_held) UnknownArgument (InvalidSubcommand ∷ []) (ap (or_else
    (word_fault topmost names false idle word nothing_held)) step ∙ none)

dashes_first : (word : Text) → is_name word ≡ false → bytes_eq word dashes ≡ true → walked [] names start word ≡ start_trailing
unfolding walked
dashes_first word e d =
    ap (λ o. after_step [] word start (subcommand_or_other [] o idle 1 word nothing_held).0
    (subcommand_or_other [] o idle 1 word nothing_held).1) (none_met word e)
    ∙ ap (λ (b : Bool). after_step [] word start (cond b (nothing_held, walk.trailing 1) (long_or_other [] idle word
    (long_of word) nothing_held)).0 (cond b (nothing_held, walk.trailing 1) (long_or_other [] idle word
    (long_of word) nothing_held)).1) d

walk_first : (s : Shape) (w : Walk) (word : Text) (rest : List Text) → walk_fault s names w (word ∷ rest) ≡ []
    → (turn_fault s names w word ≡ []) × (walk_fault s names (walked s.rules names w word) rest ≡ [])
unfolding walk_fault
walk_first s w word rest none =
    let first = first_none (turn_fault s names w word) (walk_fault s names (walked s.rules names w word) rest) none in
    (first, sym (past (turn_fault s names w word) (walk_fault s names (walked s.rules names w word) rest) first) ∙ none)

trailing_stray : (word : Text) → turn_fault topmost names start_trailing word ≡ UnknownArgument ∷ InvalidSubcommand ∷ []
trailing_stray word = refl

pub unnamed_parts : (word : Text) (rest : List Text) → is_name word ≡ false
    → walk_fault topmost names start (word ∷ rest) ≡ [] → parts (subcommand_of fss (word ∷ rest)) ≡ None
unnamed_parts word rest e none = go (bytes_eq word dashes) refl rest none
  where
    go : (b : Bool) → bytes_eq word dashes ≡ b → (rest : List Text) → walk_fault topmost names start (word ∷ rest) ≡ []
        → parts (subcommand_of fss (word ∷ rest)) ≡ None
    go false d rest none = absurd (stray word e d (walk_first topmost start word rest none).0)
    go true d [] none = ap (λ (s : Walk). parts (entered (built fss) s.stopped)) (dashes_first word e d)
    go true d (w ∷ ws) none =
        let after : walk_fault topmost names start_trailing (w ∷ ws)
        ≡ [] = ap (λ s. walk_fault topmost names s (w ∷ ws)) (sym (dashes_first word e d))
        ∙ (walk_first topmost start word (w ∷ ws) none).1 in
        let bad : UnknownArgument ∷ InvalidSubcommand ∷ [] ≡ [] = sym (trailing_stray w)
        ∙ (walk_first topmost start_trailing w ws after).0 in
        cc

-- where the parse passes, it has parted the words
pub passes_parted : (words : List Text) → fault_of fss words ≡ [] → parts (subcommand_of fss words) ≡ parted words
passes_parted [] none = refl
passes_parted (word ∷ rest) none = go (is_name word) refl
  where
    go : (b : Bool) → is_name word ≡ b → parts (subcommand_of fss (word ∷ rest)) ≡ cond b (Some (word, without_dashes rest)) None
    go true e = named_parts word rest e
    go false e = unnamed_parts word rest e (first_none _ _ none)

-- ---- a command's words pass

abbrev sub : Text → Shape
sub name = record (new_shape name) {
  rules = rules;
  is_built = true;
  no_binary_name = true;
  disable_help_flag = true;
  disable_help_subcommand = true;
}

no_short_at : (b : ℕ) (bs : Text) → (b == 45) ≡ false → short_of (b ∷ bs) ≡ None
no_short_at b bs e = rw e refl

value_turn : (name : Text) (vs : List Text) (w : Text) → begins_with_minus w ≡ false
    → turn_fault (sub name) [] (state false vs) w ≡ []
value_turn name [] [] e = refl
value_turn name [] (b ∷ bs) e = rw (e, no_short_at b bs e) refl
value_turn name (v ∷ vs) [] e = refl
value_turn name (v ∷ vs) (b ∷ bs) e = rw (e, no_short_at b bs e) refl

dashes_turn : (name : Text) (vs : List Text) (w : Text) → bytes_eq w dashes ≡ true
    → turn_fault (sub name) [] (state false vs) w ≡ []
dashes_turn name [] w d = rw d refl
dashes_turn name (v ∷ vs) w d = rw d refl

trailing_turn : (name : Text) (vs : List Text) (w : Text) → turn_fault (sub name) [] (state true vs) w ≡ []
trailing_turn name [] w = refl
trailing_turn name (v ∷ vs) w = refl

trailing_fine : (name : Text) (vs ws : List Text) → walk_fault (sub name) [] (state true vs) ws ≡ []
unfolding walk_fault
trailing_fine name vs [] = refl
trailing_fine name vs (w ∷ ws) = ap₂ or_else (trailing_turn name vs w) (ap (λ s. walk_fault (sub name) [] s ws)
    (trailing_step vs w) ∙ trailing_fine name (vs ++ w ∷ []) ws)

abbrev all_plain : List Text → Bool
all_plain = list_all (λ value. not (begins_with_minus value))

words_fine : (name : Text) (vs ws : List Text) → all_plain (without_dashes ws) ≡ true
    → walk_fault (sub name) [] (state false vs) ws ≡ []
unfolding walk_fault
words_fine name vs [] fine_words = refl
words_fine name vs (w ∷ ws) fine_words = go (bytes_eq w dashes) refl fine_words (words_fine name (vs ++ w ∷ []) ws)
  where
    go : (b : Bool) → bytes_eq w dashes ≡ b → all_plain (cond b ws (w ∷ without_dashes ws)) ≡ true
        → (all_plain (without_dashes ws) ≡ true → walk_fault (sub name) [] (state false (vs ++ w ∷ [])) ws ≡ [])
        → or_else (turn_fault (sub name) [] (state false vs) w) (walk_fault (sub name) [] (walked rules []
        (state false vs) w) ws) ≡ []
    go true d fine_words more = ap₂ or_else (dashes_turn name vs w d) (ap (λ s. walk_fault (sub name) [] s ws)
        (dashes_step vs w d) ∙ trailing_fine name vs ws)
    go false d fine_words more =
        let parts = both (not (begins_with_minus w)) (all_plain (without_dashes ws)) fine_words in
        ap₂ or_else (value_turn name vs w (is_false (begins_with_minus w) parts.0)) (ap (λ s. walk_fault (sub name) [] s ws)
        (value_step vs w d) ∙ more parts.1)

texts_fine : (vs : List Text) → values_kinds false vp.String vs ≡ []
texts_fine [] = refl
texts_fine (v ∷ vs) = texts_fine vs

range_fine : (n : ℕ) → n ≤ 8 → range_kinds 0 usize_max n ≡ []
range_fine n few =
    let low : n < 0 → ⊥ = λ h. omega arith in
    rw (le-ltb n 0 (omega arith), le-ltb usize_max n (omega arith)) refl

settle_fine : (v : Text) (vs : List Text) → length (v ∷ vs) ≤ 8 → settle_fault rules false (held_at (v ∷ vs)) ≡ []
settle_fine v vs few = ap₂ or_else (range_fine (length (v ∷ vs)) few) (texts_fine (v ∷ vs))

abbrev end_fault : Text → Held → Kinds
end_fault name end = or_else (settle_fault rules false end) (or_else (defaults_fault (settled rules end).rows rules)
    (check_fault (sub name) (finished rules end) false))

end_fine : (name : Text) (vs : List Text) → length vs ≤ 8 → end_fault name (held_at vs) ≡ []
unfolding defaults_fault
end_fine name [] few = refl
end_fine name (v ∷ vs) few = ap (λ ks. or_else ks []) (settle_fine v vs few)

leaf_fine : (name : Text) (ws : List Text) → length (without_dashes ws) ≤ 8 → all_plain (without_dashes ws) ≡ true
    → level_fault (sub name) [] nothing_held ws false [] ≡ []
leaf_fine name ws few fine_words =
    ap₂ or_else (words_fine name [] ws fine_words) (ap (λ (s : Walk). end_fault name s.held) (leaf_walk [] ws).1
    ∙ end_fine name (without_dashes ws) few)

module _ (name : Text) (rest : List Text) (few : length (without_dashes rest) ≤ 8) (fine_words : all_plain
    (without_dashes rest) ≡ true) where
  abbrev top_end : Walk → Kinds
  top_end s = or_else (entered_fault (built fss) s.stopped) (or_else (settle_fault [] false s.held) (or_else (defaults_fault
      (settled [] s.held).rows []) (check_fault topmost (finished [] s.held) (is_some (entered (built fss) s.stopped)))))

  fine : walked [] names start name ≡ stopped_at name [] → turn_fault topmost names start name ≡ []
      → top_end (stopped_at name rest) ≡ or_else (level_fault (sub name) [] nothing_held rest false []) []
      → fault_of fss (name ∷ rest) ≡ []
  unfolding walk_fault
  fine step turn found =
      ap₂ or_else (ap₂ or_else turn (ap (λ s. walk_fault topmost names s rest) step
      ∙ stopped_fault topmost names start (name, []) rest))
      (ap (λ s. top_end (fold (walked [] names) s rest)) step ∙ ap top_end (stopped_walk name [] rest) ∙ found
      ∙ ap (λ ks. or_else ks []) (leaf_fine name rest few fine_words))

feed_fine : (rest : List Text) → length (without_dashes rest) ≤ 8 → all_plain (without_dashes rest) ≡ true
    → fault_of fss (codes "feed" ∷ rest) ≡ []
unfolding defaults_fault
feed_fine rest few fine_words = fine (codes "feed") rest few fine_words feed_step refl refl

work_fine : (rest : List Text) → length (without_dashes rest) ≤ 8 → all_plain (without_dashes rest) ≡ true
    → fault_of fss (codes "work" ∷ rest) ≡ []
unfolding defaults_fault
work_fine rest few fine_words = fine (codes "work") rest few fine_words work_step refl refl

serve_fine : (rest : List Text) → length (without_dashes rest) ≤ 8 → all_plain (without_dashes rest) ≡ true
    → fault_of fss (codes "serve" ∷ rest) ≡ []
unfolding defaults_fault
serve_fine rest few fine_words = fine (codes "serve") rest few fine_words serve_step refl refl

pub taken_fine : (words : List Text) → IsTaken words → fault_of fss words ≡ []
taken_fine [] t = let bad : ◌≡◌ {A = Option (Text × List Text)} None (Some (t.name, t.values)) = t.parts in cc
taken_fine (word ∷ rest) t = go (is_name word) refl t.parts
  where
    go : (b : Bool) → is_name word ≡ b → cond {A = Option (Text × List Text)} b (Some (word, without_dashes rest)) None
        ≡ Some (t.name, t.values) → fault_of fss (word ∷ rest) ≡ []
    go false e p = cc
    go true e p =
        let values : without_dashes rest ≡ t.values = ap (λ (o : Option (Text × List Text)). option_map_or (λ (q : Text
        × List Text). q.1) o []) p in
        let few : length (without_dashes rest) ≤ 8 = rw values t.few in
        let fine_words : all_plain (without_dashes rest) ≡ true = rw values t.plain in
        elim (name_cases word e) [
          | is_feed e ↦ subst (λ (w : Text). fault_of fss (w ∷ rest) ≡ []) (sym e) (feed_fine rest few fine_words)
          | is_work e ↦ subst (λ (w : Text). fault_of fss (w ∷ rest) ≡ []) (sym e) (work_fine rest few fine_words)
          | is_serve e ↦ subst (λ (w : Text). fault_of fss (w ∷ rest) ≡ []) (sym e) (serve_fine rest few fine_words)
        ]

-- ---- what a parse says

pub parsed_ok : (r : Result ArgMatches Error) (words : List Text) → IfOk r (HasMatchesOf fss words)
    → FailsBy (fault_of fss words) r → IfOk r (λ m. parts_of m ≡ parted words)
parsed_ok (Ok m) words h none = ap parts (h refl).1 ∙ passes_parted words none
parsed_ok (Err e) words h none = tt

pub parsed_err : (r : Result ArgMatches Error) (words : List Text) → FailsBy (fault_of fss words) r
    → IfErr r (λ e. IsTaken words → kind_of e ≡ OutOfMemory)
parsed_err (Ok m) words fails = tt
parsed_err (Err e) words fails = λ t. go (subst (λ (ks : Kinds). HasKind ks e) (taken_fine words t) fails)
  where
    go : HasKind [] e → kind_of e ≡ OutOfMemory
    go (inl k) = k
    go (inr bad) = absurd bad
