-- The words of every command are taken.
use Rattle.std.proofs.Common.{◌≡◌, ◌∙◌, ◌≤◌, ℕ, Bool, cond, true, false, not, refl, sym, ap, subst, arith, codes, List, [], ◌∷◌}
use Rattle.std.proofs.Common.{length, Option, Some, None, ◌&&◌, ◌||◌, ◌==◌, nat_le, lit≤, map, option_map, true≢false, Box, Bor}
use Rattle.std.proofs.Common.{take, suc, ◌+◌, nat_lt}
use Rattle.std.specs.Prelude.{option_and_then, unwrap_or}
use Rattle.std.specs.List.{list_all, after_first, before_first, position_or_len, prefix_len}
use Rattle.std.specs.Str.{bytes_eq}
use Rattle.std.specs.Str.Parse.{digits_value}
use Rattle.std.proofs.lemmas.Bool.Decides.{nat_tests}
use Rattle.clap.proofs.WalkLemmas.{both}
use Rattle.fss_words.specs.Parts.{IsTaken, Text, begins_with_minus, is_name, parted, parts_of, values_in, without_dashes}
use Rattle.std.specs.Box.{box_value}
use Rattle.clap.specs.Walk.{Row, rows_of}
use Rattle.clap.specs.Matches.{subcommand_name_of, matched_of, raw_values}
use Rattle.std.specs.Option.{option_map_or}
use Rattle.clap.specs.declared.parser.matches.Found.{Found}
use Rattle.clap.proofs.WalkLemmas.{raw_values-rows}
use Rattle.clap.specs.Simple.{subcommand_rows, subcommand_rows_of}
use Rattle.clap.specs.declared.parser.matches.ArgMatches.{ArgMatches}
use Rattle.clap.specs.declared.parser.matches.ArgMatches.TheViews.{out-ArgMatches, out-SubCommand}
use Rattle.clap.specs.declared.parser.matches.SubCommand.{SubCommand}
use Rattle.fss_words.specs.Commands.{after_dot, command_of, cut, feed_of, is_address, is_digit, is_numeral, is_port, last_part}
use Rattle.fss_words.specs.Commands.{long, meaning, number, rough, serve_of, server_numbers, short, work_of}
use Rattle.fss_words.specs.declared.wanted.Wanted.{Wanted}
use Rattle.fss_words.proofs.Numerals.{digit_range, digits_of}

and_then : {X Y : Type 0} (f : X → Option Y) (o : Option X) (y : Y) → option_and_then f o ≡ Some y
    → (x : X) × (o ≡ Some x) × (f x ≡ Some y)
and_then f None y e = cc
and_then f (Some x) y e = (x, refl, e)

no_minus : (b : ℕ) → 48 ≤ b → (b == 45) ≡ false
no_minus b h = grind (arith, nat_tests)

numeral_plain : (t : Text) → is_numeral t ≡ true → begins_with_minus t ≡ false
numeral_plain [] e = refl
numeral_plain (b ∷ bs) e = no_minus b (digit_range b (both (is_digit b) (list_all is_digit bs) (digits_of (b ∷ bs) e)).0).0

number_plain : (most n : ℕ) (t : Text) → number most t ≡ Some n → begins_with_minus t ≡ false
number_plain most n t e = go (is_numeral t) (nat_le (digits_value 10 t) most) refl e
  where
    go : (a b : Bool) → is_numeral t ≡ a → cond {A = Option ℕ} (a && b) (Some (digits_value 10 t)) None ≡ Some n
        → begins_with_minus t ≡ false
    go true b ea e = numeral_plain t ea
    go false b ea e = cc

abbrev all_plain : List Text → Bool
all_plain = list_all (λ value. not (begins_with_minus value))

feed_taken : (vs : List Text) (w : Wanted) → feed_of vs ≡ Some w → (length vs ≤ 8) × (all_plain vs ≡ true)
feed_taken [] w e = (lit≤ tt, refl)
feed_taken (s ∷ []) w e = cc
feed_taken (s ∷ r ∷ []) w e =
    let a = and_then _ (short s) w e in
    let b = and_then _ (short r) w a.2 in
    (lit≤ tt, rw (number_plain _ a.0 s a.1, number_plain _ b.0 r b.1) refl)
feed_taken (s ∷ r ∷ t ∷ us) w e = cc

work_taken : (vs : List Text) (w : Wanted) → work_of vs ≡ Some w → (length vs ≤ 8) × (all_plain vs ≡ true)
work_taken [] w e = cc
work_taken (n ∷ []) w e = cc
work_taken (n ∷ c ∷ []) w e =
    let a = and_then _ (long n) w e in
    let b = and_then _ (number 16384 c) w a.2 in
    (lit≤ tt, rw (number_plain _ a.0 n a.1, number_plain _ b.0 c b.1) refl)
work_taken (n ∷ c ∷ s ∷ []) w e = cc
work_taken (n ∷ c ∷ s ∷ r ∷ []) w e = cc
work_taken (n ∷ c ∷ s ∷ r ∷ l ∷ []) w e = cc
work_taken (n ∷ c ∷ s ∷ r ∷ l ∷ q ∷ []) w e =
    let a = and_then _ (long n) w e in
    let b = and_then _ (number 16384 c) w a.2 in
    let d = and_then _ (short s) w b.2 in
    let f = and_then _ (short r) w d.2 in
    let g = and_then _ (short l) w f.2 in
    let h = and_then _ (rough q) w g.2 in
    let i = and_then _ (number 32768 q) h.0 h.1 in (
      lit≤ tt,
      rw (
        number_plain _ a.0 n a.1,
        number_plain _ b.0 c b.1,
        number_plain _ d.0 s d.1,
        number_plain _ f.0 r f.1,
        number_plain _ g.0 l g.1,
        number_plain _ i.0 q i.1,
      ) refl,
    )
work_taken (n ∷ c ∷ s ∷ r ∷ l ∷ q ∷ x ∷ xs) w e = cc

cond_some : {X : Type 0} (b : Bool) (o : Option X) (x : X) → cond b o None ≡ Some x → (b ≡ true) × (o ≡ Some x)
cond_some true o x e = (refl, e)
cond_some false o x e = cc

map_some : {X Y : Type 0} (f : X → Y) (o : Option X) (y : Y) → option_map f o ≡ Some y → (x : X) × (o ≡ Some x)
map_some f None y e = cc
map_some f (Some x) y e = (x, refl)

-- a text whose part before its first dot begins with no minus begins with none
not_dot : (b : ℕ) → (b == 46) ≡ true → (b == 45) ≡ false
not_dot b e = grind (arith, nat_tests)

head_taken : (n b : ℕ) (bs : Text) → begins_with_minus (take (1 + n) (b ∷ bs)) ≡ (b == 45)
head_taken n b bs =
    let one : 1 + n ≡ suc n = omega arith in
    ap (λ (k : ℕ). begins_with_minus (take k (b ∷ bs))) one

front_plain : (t : Text) → begins_with_minus (before_first (λ b. b == 46) t) ≡ false → begins_with_minus t ≡ false
front_plain [] e = refl
front_plain (b ∷ bs) e = go (b == 46) refl
  where
    go : (x : Bool) → (b == 46) ≡ x → (b == 45) ≡ false
    go true eb = not_dot b eb
    go false eb = let h : begins_with_minus (take (1 + prefix_len (λ x. not (x == 46)) bs) (b ∷ bs)) ≡ false = rw eb at e in
        sym (head_taken _ b bs) ∙ h

cut_front : (t : Text) (p : Text × Text) → cut 46 t ≡ Some p → p.0 ≡ before_first (λ b. b == 46) t
cut_front t p e =
    let q = cond_some (nat_lt (position_or_len (λ b. b == 46) t) (length t)) (Some (
      before_first (λ b. b == 46) t,
      after_first
          (λ b. b == 46) t,
    )) p e in
    ap (λ (o : Option (Text × Text)). option_map_or (λ (r : Text × Text). r.0) o []) (sym q.1)

or_true : (o : Option Text) → option_map_or is_port o false ≡ true → (x : Text) × (o ≡ Some x)
or_true None e = absurd (true≢false (sym e))
or_true (Some x) e = (x, refl)

address_plain : (t : Text) → is_address t ≡ true → begins_with_minus t ≡ false
address_plain t e =
    let last = or_true (last_part t) e in
    let third = and_then after_dot (option_and_then after_dot (after_dot t)) last.0 last.1 in
    let second = and_then after_dot (after_dot t) third.0 third.1 in
    let first = and_then (λ (p : Text × Text). option_map (λ n. p.1) (number 255 p.0)) (cut 46 t) second.0 second.1 in
    let n = map_some _ (number 255 first.0.0) second.0 first.2 in
    let front = cut_front t first.0 first.1 in
    front_plain t (subst (λ (x : Text). begins_with_minus x ≡ false) front (number_plain 255 n.0 first.0.0 n.1))

serve_taken : (vs : List Text) (w : Wanted) → serve_of vs ≡ Some w → (length vs ≤ 8) × (all_plain vs ≡ true)
serve_taken [] w e = cc
serve_taken (a ∷ []) w e = cc
serve_taken (a ∷ b ∷ []) w e = cc
serve_taken (a ∷ b ∷ c ∷ []) w e = cc
serve_taken (a ∷ b ∷ c ∷ d ∷ []) w e = cc
serve_taken (a ∷ b ∷ c ∷ d ∷ f ∷ []) w e =
    let address = cond_some (is_address a) _ w e in
    let four = map_some _ (server_numbers b c d f) w address.1 in
    let g = and_then _ (short b) four.0 four.1 in
    let h = and_then _ (short c) four.0 g.2 in
    let i = and_then _ (short d) four.0 h.2 in
    let j = and_then _ (short f) four.0 i.2 in (
      lit≤ tt,
      rw (
        address_plain a address.0,
        number_plain _ g.0 b g.1,
        number_plain _ h.0 c h.1,
        number_plain _ i.0 d i.1,
        number_plain _ j.0 f j.1,
      ) refl,
    )
serve_taken (a ∷ b ∷ c ∷ d ∷ f ∷ x ∷ xs) w e = cc

-- ---- the meaning, by the parts

command_taken : (name : Text) (vs : List Text) (w : Wanted) → command_of name vs ≡ Some w
    → (is_name name ≡ true) × (length vs ≤ 8) × (all_plain vs ≡ true)
command_taken name vs w e = go (bytes_eq (codes "feed") name) (bytes_eq (codes "work") name) (bytes_eq
    (codes "serve") name) refl refl refl e
  where
    go : (a b c : Bool) → bytes_eq (codes "feed") name ≡ a → bytes_eq (codes "work") name ≡ b → bytes_eq (codes "serve") name ≡ c
        → cond a (feed_of vs) (cond b (work_of vs) (cond c (serve_of vs) None)) ≡ Some w
        → (is_name name ≡ true) × (length vs ≤ 8) × (all_plain vs ≡ true)
    go true b c ea eb ec e = let t = feed_taken vs w e in (rw ea refl, t.0, t.1)
    go false true c ea eb ec e = let t = work_taken vs w e in (rw (ea, eb) refl, t.0, t.1)
    go false false true ea eb ec e = let t = serve_taken vs w e in (rw (ea, eb, ec) refl, t.0, t.1)
    go false false false ea eb ec e = cc

pub taken : (words : List Text) (w : Wanted) → meaning words ≡ Some w → IsTaken words
taken [] w e = cc
taken (word ∷ rest) w e =
    let t = command_taken word (without_dashes rest) w e in
    record { name = word; values = without_dashes rest; parts = rw t.0 refl; few = t.1; plain = t.2 }

unnamed : (name : Text) (vs : List Text) → is_name name ≡ false → command_of name vs ≡ None
unnamed name vs e = go (bytes_eq (codes "feed") name) (bytes_eq (codes "work") name) (bytes_eq
    (codes "serve") name) refl refl refl e
  where
    go : (a b c : Bool) → bytes_eq (codes "feed") name ≡ a → bytes_eq (codes "work") name ≡ b → bytes_eq (codes "serve") name ≡ c
        → (a || (b || c)) ≡ false → command_of name vs ≡ None
    go true b c ea eb ec e = absurd (true≢false e)
    go false true c ea eb ec e = absurd (true≢false e)
    go false false true ea eb ec e = absurd (true≢false e)
    go false false false ea eb ec e = rw (ea, eb, ec) refl

abbrev Parts : Type 0
Parts = Option (Text × List Text)

abbrev by_parts : Parts → Option Wanted
by_parts o = option_and_then (λ p. command_of p.0 p.1) o

pub by_parted : (words : List Text) → meaning words ≡ by_parts (parted words)
by_parted [] = refl
by_parted (word ∷ rest) = go (is_name word) refl
  where
    go : (b : Bool) → is_name word ≡ b → command_of word (without_dashes rest)
        ≡ by_parts (cond b (Some (word, without_dashes rest)) None)
    go true e = refl
    go false e = unnamed word (without_dashes rest) e

parts_named : {Z : Type 0} (o : Option (Box SubCommand Z)) (name : Text) (rows : List Row)
    → Some name ≡ option_map (λ b. (out-SubCommand (box_value b)).name.now) o
    → Some rows ≡ option_map (λ p. p.1) (subcommand_rows o)
    → option_map {U = Text × List Text} (λ p. (p.0, values_in p.1)) (subcommand_rows o) ≡ Some (name, values_in rows)
parts_named None name rows n r = cc
parts_named (Some b) name rows n r = cc

pub entered_is : (m : ArgMatches) (words : List Text) (name : Text) (rows : List Row) → parts_of m ≡ parted words
    → Some name ≡ subcommand_name_of m → Some rows ≡ option_map (λ p. p.1) (subcommand_rows_of m)
    → meaning words ≡ command_of name (values_in rows)
entered_is m words name rows e n r =
    by_parted words ∙ ap by_parts (sym e) ∙ ap by_parts (parts_named (out-ArgMatches m).subcommand name rows n r)

none_named : {Z : Type 0} (o : Option (Box SubCommand Z))
    → None ≡ option_map (λ b. (out-SubCommand (box_value b)).name.now) o
    → option_map {U = Text × List Text} (λ (p : Text × List Row). (p.0, values_in p.1)) (subcommand_rows o) ≡ None
none_named None n = refl
none_named (Some b) n = cc

pub none_entered : (m : ArgMatches) (words : List Text) → parts_of m ≡ parted words → None ≡ subcommand_name_of m
    → meaning words ≡ None
none_entered m words e n = by_parted words ∙ ap by_parts (sym e) ∙ ap by_parts (none_named (out-ArgMatches m).subcommand n)

pub refused : {Bad : Type 0} (words : List Text) → (IsTaken words → Bad) → (Bad → ⊥) → meaning words ≡ None
refused words h bad = go (meaning words) refl
  where
    go : (o : Option Wanted) → meaning words ≡ o → o ≡ None
    go None e = refl
    go (Some w) e = absurd (bad (h (taken words w e)))

-- ---- the values of matches

pub found_values : (o : Option (List Text)) (f : Found) → o ≡ option_map raw_values (matched_of f (codes "values"))
    → unwrap_or o [] ≡ values_in (rows_of f)
found_values o f e = ap (λ (x : Option (List Text)). unwrap_or x []) (e ∙ raw_values-rows f (codes "values"))

pub serve_none : (vs : List (Bor Text)) → (length vs ≡ 5 → ⊥) → None ≡ serve_of (map (λ value. value.now) vs)
serve_none [] other = refl
serve_none (a ∷ []) other = refl
serve_none (a ∷ b ∷ []) other = refl
serve_none (a ∷ b ∷ c ∷ []) other = refl
serve_none (a ∷ b ∷ c ∷ d ∷ []) other = refl
serve_none (a ∷ b ∷ c ∷ d ∷ f ∷ []) other = absurd (other refl)
serve_none (a ∷ b ∷ c ∷ d ∷ f ∷ x ∷ xs) other = refl
