-- A record as it is written in fragments.
use Rattle.std.specs.Prelude.{◌≡◌, ℕ, ◌<◌, List, ◌++◌, length}
use Rattle.std.specs.List.{flat_map}
use Rattle.xdr_grammar.specs.Items.{word}
use Rattle.rpc_records.specs.declared.limits.TheConstants.{MOST_FRAGMENTS}
use Rattle.rpc_records.specs.Reading.{marked}

-- a fragment that another one follows: the top bit of its head is clear
unfoldable pub unmarked : List ℕ → List ℕ
unmarked part = word.spelling (length part) ++ part

-- these fragments, and then the last one
abbrev pub in_fragments : List (List ℕ) → List ℕ → List ℕ
in_fragments parts last = flat_map unmarked parts ++ marked last

-- their content
abbrev pub joined : List (List ℕ) → List ℕ → List ℕ
joined parts last = flat_map (λ part. part) parts ++ last

-- the text begins with a record of this content in fragments, and this rest stands behind it
pub record IsInFragments (text content rest : List ℕ) : Type 0 where
  pub parts : List (List ℕ)
  pub last : List ℕ
  pub text_is : text ≡ in_fragments parts last ++ rest
  pub content_is : content ≡ joined parts last
  pub few : length parts < MOST_FRAGMENTS
