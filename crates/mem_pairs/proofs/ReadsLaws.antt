-- What is read at the places that scans find.
use Rattle.std.proofs.Common.{◌≡◌, ℕ, ◌<◌, Bool, true, List, length, get_or, Some, None, option_map, is_some}
use Rattle.std.proofs.Common.{sym, ◌∙◌, ap, subst}
use Rattle.std.proofs.lemmas.Option.{slice_get_within, get_or_from_slice_get}
use Rattle.std.specs.List.{find}
use Rattle.std.specs.Ordering.{is_lt}
use Rattle.pair_types.specs.declared.quad.Quad.{Quad}
use Rattle.pairs.specs.declared.at.At.{At}
use Rattle.pairs.specs.declared.at.At.TheVariants.{Live}
use Rattle.pairs.specs.Lives.{Life, sees, seen, born, is_spent, spent, life_of, lives_of}
use Rattle.pairs.specs.Versions.{Versions, epoch_in, epoch_key}
use Rattle.pairs.specs.Found.{Follows, AllKept, IsSpent}
use Rattle.pairs.proofs.RecordsLaws.{seen-find, born-find, spent-find}
use Rattle.mem_pairs.specs.Scans.{NonePasses, IsFirst, IsFirstOf, IsLeast, Least, Tell, is_behind, is_from}
use Rattle.mem_pairs.proofs.PlacesLaws.{found_first}
use Rattle.mem_pairs.proofs.ScansLaws.{before_behind, from_is, is_from-is}

-- ---- of one key

pub within_first : (test : Life → Bool) (key : List ℕ) (rows : List Quad) (place : ℕ) → IsFirstOf test key rows place
    → place < length rows
within_first test key rows place f = slice_get_within rows place f.row f.first.here

-- the record that is read there is the one that was found
pub read_first : (test : Life → Bool) (rows : List Quad) (place : ℕ) (row x : Quad) → IsFirst test rows place row
    → x ≡ get_or rows place x → row ≡ x
read_first test rows place row x first read = sym (read ∙ get_or_from_slice_get rows place row x first.here)

found_of : (test : Life → Bool) (key : List ℕ) (rows : List Quad) (place : ℕ) (x : Quad)
    → IsFirstOf test key rows place → x ≡ get_or rows place x
    → find test (lives_of rows key) ≡ Some (life_of x)
found_of test key rows place x f read =
    subst (λ (k : List ℕ). find test (lives_of rows k) ≡ Some (life_of x)) f.same
    (found_first test rows place f.row f.first ∙ ap (λ (q : Quad). Some (life_of q))
    (read_first test rows place f.row x f.first read))

pub seen_none : (at : At) (key : List ℕ) (rows : List Quad) → NonePasses (sees at) rows key
    → seen at (lives_of rows key) ≡ None
seen_none at key rows none = seen-find at (lives_of rows key) ∙ ap (option_map (λ (l : Life). l.value)) none

pub seen_first : (at : At) (key : List ℕ) (rows : List Quad) (place : ℕ) (x : Quad)
    → IsFirstOf (sees at) key rows place → x ≡ get_or rows place x
    → seen at (lives_of rows key) ≡ Some x.value
seen_first at key rows place x f read =
    seen-find at (lives_of rows key) ∙ ap (option_map (λ (l : Life). l.value))
    (found_of (sees at) key rows place x f read)

pub born_none : (key : List ℕ) (rows : List Quad) → NonePasses (sees Live) rows key → born (lives_of rows key) ≡ None
born_none key rows none = born-find (lives_of rows key) ∙ ap (option_map (λ (l : Life). l.birth)) none

pub born_first : (key : List ℕ) (rows : List Quad) (place : ℕ) (x : Quad) → IsFirstOf (sees Live) key rows place
    → x ≡ get_or rows place x
    → born (lives_of rows key) ≡ Some x.birth
born_first key rows place x f read =
    born-find (lives_of rows key) ∙ ap (option_map (λ (l : Life). l.birth))
    (found_of (sees Live) key rows place x f read)

-- there is a birth
pub was_born : (key : List ℕ) (rows : List Quad) (place : ℕ) → IsFirstOf (sees Live) key rows place
    → is_some (born (lives_of rows key)) ≡ true
was_born key rows place f =
    ap is_some (born_first key rows place f.row f (sym (get_or_from_slice_get rows place f.row f.row f.first.here)))

pub epoch_none : (rows : List Quad) → NonePasses (sees Live) rows epoch_key
    → epoch_in (seen Live (lives_of rows epoch_key)) ≡ 0
epoch_none rows none = ap epoch_in (seen_none Live epoch_key rows none)

-- ---- of the least key

module _ (at : At) (after : List ℕ) (rows : List Quad) where
  pub follows_none : Least (sees at) (is_behind after) rows None → Tell rows (Follows at after None)
  follows_none least = λ v lives k before.
      ap (λ (l : List ℕ → List Life). seen at (l k)) lives ∙ seen_none at k rows (least k (ap is_lt before))

  pub follows_some : (place : ℕ) (x : Quad) → IsLeast (sees at) (is_behind after) rows place → x ≡ get_or rows place x
      → Tell rows (Follows at after (Some (x.key, x.value)))
  follows_some place x least read =
      let is : least.row ≡ x = read_first (sees at) rows place least.row x least.first read in
      subst (λ (q : Quad). Tell rows (Follows at after (Some (q.key, q.value)))) is follows
    where
      follows : Tell rows (Follows at after (Some (least.row.key, least.row.value)))
      follows = λ v lives. record {
        behind = before_behind after least.row.key least.within;
        has =
            ap (λ (l : List ℕ → List Life). seen at (l least.row.key)) lives
            ∙ (seen-find at (lives_of rows least.row.key)
            ∙ ap (option_map (λ (l : Life). l.value)) (found_first (sees at) rows place least.row least.first));
        first = λ k before lesser.
            ap (λ (l : List ℕ → List Life). seen at (l k)) lives
            ∙ seen_none at k rows (least.least k (ap is_lt before) lesser);
      }

  -- with a copy of its key and of its value
  pub follows_copy : (place : ℕ) (x : Quad) (key value : List ℕ) → IsLeast (sees at) (is_behind after) rows place
      → x ≡ get_or rows place x
      → key ≡ x.key → value ≡ x.value → Tell rows (Follows at after (Some (key, value)))
  follows_copy place x key value least read is also =
      subst (λ (k : List ℕ). Tell rows (Follows at after (Some (k, value)))) (sym is)
      (subst (λ (u : List ℕ). Tell rows (Follows at after (Some (x.key, u)))) (sym also)
      (follows_some place x least read))

module _ (kept from : List ℕ) (rows : List Quad) where
  spent_none : (k : List ℕ) (v : Versions) → v.lives ≡ lives_of rows → NonePasses (is_spent kept) rows k
      → spent kept (v.lives k) ≡ None
  spent_none k v lives none =
      ap (λ (l : List ℕ → List Life). spent kept (l k)) lives ∙ (spent-find kept (lives_of rows k) ∙ none)

  pub kept_all : Least (is_spent kept) (is_from from) rows None → Tell rows (AllKept kept from)
  kept_all least = λ v lives k within. spent_none k v lives (least k (is_from-is from k within))

  pub spent_first : (place : ℕ) (least : IsLeast (is_spent kept) (is_from from) rows place)
      → Tell rows (IsSpent kept from least.row)
  spent_first place least = λ v lives. record {
    key = from_is from least.row.key least.within;
    life =
        ap (λ (l : List ℕ → List Life). spent kept (l least.row.key)) lives
        ∙ (spent-find kept (lives_of rows least.row.key)
        ∙ found_first (is_spent kept) rows place least.row least.first);
    first = λ k within lesser. spent_none k v lives (least.least k (is_from-is from k within) lesser);
  }
