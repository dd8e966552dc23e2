-- The lists of words that are commands, and what each asks for.
use Rattle.std.specs.Prelude.{ℕ, ◌&&◌, ◌||◌, ◌==◌, Bool, List, [], ◌∷◌, length, Option, Some, None, is_some, false}
use Rattle.std.specs.Prelude.{if◌then◌else◌, codes, nat_lt, nat_le, option_and_then, option_map}
use Rattle.std.specs.Option.{option_map_or}
use Rattle.std.specs.Str.{bytes_eq}
use Rattle.std.specs.Str.Parse.{digits_value}
use Rattle.std.specs.List.{list_all, before_first, after_first, position_or_len}
use Rattle.fss_words.specs.Parts.{Text, without_dashes}
use Rattle.fss_words.specs.declared.wanted.Wanted.{Wanted}
use Rattle.fss_words.specs.declared.wanted.Wanted.TheVariants.{Feed, Work, Serve}
use Rattle.fss_words.specs.declared.wanted.ServePlan.{ServePlan}

-- an ASCII digit
abbrev pub is_digit : ℕ → Bool
is_digit b = nat_le 48 b && nat_le b 57

-- 1 to 20 decimal digits
abbrev pub is_numeral : Text → Bool
is_numeral text = nat_lt 0 (length text) && (nat_le (length text) 20 && list_all is_digit text)

-- a number of at most `most`
abbrev pub number : ℕ → Text → Option ℕ
number most text = if is_numeral text && nat_le (digits_value 10 text) most then Some (digits_value 10 text) else None

-- any number below 2 ^ 64, and below 2 ^ 32
abbrev pub long : Text → Option ℕ
long = number 18446744073709551615

abbrev pub short : Text → Option ℕ
short = number 4294967295

abbrev pub is_rough : ℕ → Bool
is_rough n = n == 0 || nat_le 8 n

abbrev pub rough : Text → Option ℕ
rough text = option_and_then (λ n. if is_rough n then Some n else None) (number 32768 text)

-- what stands before and after the first byte c
abbrev pub cut : ℕ → Text → Option (Text × Text)
cut c text = if nat_lt (position_or_len (λ b. b == c) text) (length text)
    then Some (before_first (λ b. b == c) text, after_first (λ b. b == c) text) else None

-- what follows a first part of at most 255 and a dot
abbrev pub after_dot : Text → Option Text
after_dot text = option_and_then (λ p. option_map (λ n. p.1) (number 255 p.0)) (cut 46 text)

abbrev pub last_part : Text → Option Text
last_part text = option_and_then after_dot (option_and_then after_dot (after_dot text))

-- a part of at most 255, a colon and a port
abbrev pub is_port : Text → Bool
is_port text = option_map_or (λ p. is_some (number 255 p.0) && is_some (number 65535 p.1)) (cut 58 text) false

-- A.B.C.D:PORT
abbrev pub is_address : Text → Bool
is_address text = option_map_or is_port (last_part text) false

abbrev pub feed_of : List Text → Option Wanted
feed_of [] = Some (Feed 4 3)
feed_of (stores ∷ replicas ∷ []) = option_and_then (λ s. option_and_then (λ r. Some (Feed s r)) (short replicas)) (short stores)
feed_of _ = None

abbrev pub work_of : List Text → Option Wanted
work_of (name ∷ calls ∷ []) = option_and_then (λ n. option_and_then (λ c. Some (Work n c 4 3 0 0)) (number 16384 calls))
    (long name)
work_of (name ∷ calls ∷ stores ∷ replicas ∷ lost ∷ roughness ∷ []) =
    option_and_then (λ n. option_and_then (λ c. option_and_then (λ s. option_and_then (λ r. option_and_then (λ l.
    option_and_then (λ q. Some (Work n c s r l q)) (rough roughness)) (short lost)) (short replicas)) (short stores))
    (number 16384 calls)) (long name)
work_of _ = None

abbrev pub plan : Text → ℕ → ℕ → ℕ → ℕ → ServePlan
plan address workers connections stores replicas = record {
  address = address;
  workers = workers;
  connections = connections;
  stores = stores;
  replicas = replicas;
  fsid = 4294967296;
  verifier = 102 ∷ 115 ∷ 115 ∷ 0 ∷ 0 ∷ 0 ∷ 0 ∷ 1 ∷ [];
}

-- workers, connections, stores, replicas
abbrev pub server_numbers : Text → Text → Text → Text → Option (ℕ × ℕ × ℕ × ℕ)
server_numbers workers connections stores replicas = option_and_then (λ w. option_and_then (λ c. option_and_then (λ s.
    option_and_then (λ r. Some (w, c, s, r)) (short replicas)) (short stores)) (short connections)) (short workers)

abbrev pub serve_of : List Text → Option Wanted
serve_of (address ∷ workers ∷ connections ∷ stores ∷ replicas ∷ []) =
    if is_address address then option_map (λ n. Serve (plan address n.0 n.1 n.2 n.3))
    (server_numbers workers connections stores replicas)
    else None
serve_of _ = None

-- what a command with these values asks for
abbrev pub command_of : Text → List Text → Option Wanted
command_of name values = if bytes_eq (codes "feed") name then feed_of values
    else (if bytes_eq (codes "work") name then work_of values
    else (if bytes_eq (codes "serve") name then serve_of values else None))

-- what the words ask for: None where they are no command
abbrev pub meaning : List Text → Option Wanted
meaning [] = None
meaning (name ∷ rest) = command_of name (without_dashes rest)
