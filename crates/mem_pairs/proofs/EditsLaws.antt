-- What edits of a list of records do to the lives of a key.
use Rattle.std.proofs.Common.{◌≡◌, ◌≢◌, ℕ, zero, suc, ◌≤◌, ◌+◌, ◌<◌, ◌==◌, true, false, List, [], ◌∷◌, ◌++◌, take}
use Rattle.std.proofs.Common.{drop, length, get_or, set}
use Rattle.std.proofs.Common.{Some, refl, sym, ◌∙◌, ap, subst, arith}
use Rattle.std.proofs.lemmas.Grind.{common_steps}
use Rattle.std.proofs.lemmas.List.{append_assoc, append-nil, set_split, set_at, length-take-le}
use Rattle.std.proofs.lemmas.Option.{slice_get_within}
use Rattle.std.specs.List.{slice_get, insert, remove}
use Rattle.std.specs.Str.{bytes_eq}
use Rattle.pair_types.specs.declared.quad.Quad.{Quad}
use Rattle.pairs.specs.declared.at.At.TheVariants.{Live}
use Rattle.pairs.specs.Lives.{Life, never, sees, new_life, put_life, del_life, is_spent, purge_life, life_of, lives_of}
use Rattle.pairs.proofs.RecordsLaws.{put-behind, del-behind, purge-behind, lives_of-append, lives_of-own}
use Rattle.pairs.proofs.RecordsLaws.{lives_of-other, lives_of-split, apart, lives_of-edited}
use Rattle.mem_pairs.specs.Purging.{Takes}
use Rattle.mem_pairs.specs.Scans.{NonePasses, IsFirstOf, IsLeast, Edits, Changes, is_from}
use Rattle.mem_pairs.proofs.PlacesLaws.{split_at, take_one_more}
use Rattle.mem_pairs.proofs.ReadsLaws.{read_first, spent_first}

-- ---- records in place of one

-- records of no other key
abbrev OnlyOf : List ℕ → List Quad → Type 0
OnlyOf key news = (k : List ℕ) → bytes_eq k key ≡ false → lives_of news k ≡ []

none_only : (key : List ℕ) → OnlyOf key []
none_only key = λ k other. refl

one_only : (key : List ℕ) (q : Quad) → q.key ≡ key → OnlyOf key (q ∷ [])
one_only key q is = λ k other. lives_of-other q [] k (apart q key k is other)

two_only : (key : List ℕ) (q r : Quad) → q.key ≡ key → r.key ≡ key → OnlyOf key (q ∷ r ∷ [])
two_only key q r is also = λ k other. lives_of-other q (r ∷ []) k (apart q key k is other) ∙ one_only key r also k other

-- the lives of a key around a place
pub around : (xs news ys : List Quad) (k : List ℕ) → lives_of (xs ++ (news ++ ys)) k ≡ lives_of xs k ++
    (lives_of news k ++ lives_of ys k)
around xs news ys k =
    lives_of-append xs (news ++ ys) k ∙ ap (λ (ls : List Life). lives_of xs k ++ ls) (lives_of-append news ys k)

module _ (key : List ℕ) (old : List Quad) (place : ℕ) (row : Quad) where
  -- records of the key in place of one of it
  edited_at : (edit : List Life → List Life) (news new : List Quad) → slice_get old place ≡ Some row → row.key ≡ key
      → new ≡ take place old ++ (news ++ drop (suc place) old) → OnlyOf key news
      → edit (lives_of (take place old) key ++ (life_of row ∷ lives_of (drop (suc place) old) key))
      ≡ lives_of (take place old) key ++ (lives_of news key ++ lives_of (drop (suc place) old) key)
      → Edits key edit old new
  edited_at edit news new here is new_is only edits = lives_of-edited key (edit (lives_of old key)) old new own others
    where
      own : lives_of new key ≡ edit (lives_of old key)
      own =
          ap (λ (qs : List Quad). lives_of qs key) new_is
          ∙ (around (take place old) news (drop (suc place) old) key
          ∙ (sym edits
          ∙ (ap edit (sym (lives_of-split (take place old) row (drop (suc place) old) key is))
          ∙ ap (λ (qs : List Quad). edit (lives_of qs key)) (sym (split_at old place row here)))))

      others : (k : List ℕ) → bytes_eq k key ≡ false → lives_of new k ≡ lives_of old k
      others k other =
          ap (λ (qs : List Quad). lives_of qs k) new_is
          ∙ (around (take place old) news (drop (suc place) old) k
          ∙ (ap (λ (ls : List Life). lives_of (take place old) k ++ (ls ++ lives_of (drop (suc place) old) k))
          (only k other)
          ∙ (ap (λ (ls : List Life). lives_of (take place old) k ++ ls)
          (sym (lives_of-other row (drop (suc place) old) k (apart row key k is other)))
          ∙ (sym (lives_of-append (take place old) (row ∷ drop (suc place) old) k)
          ∙ ap (λ (qs : List Quad). lives_of qs k) (sym (split_at old place row here))))))

-- ---- the first live life, or the first spent one

equal_test : (a b : ℕ) → a ≡ b → (a == b) ≡ true
equal_test a b is = grind (arith, common_steps)

test_equal : (a b : ℕ) → (a == b) ≡ true → a ≡ b
test_equal a b is = grind (arith, common_steps)

differ_test : (a b : ℕ) → a ≢ b → (a == b) ≡ false
differ_test a b isnt = grind (arith, common_steps)

put_over : (epoch : ℕ) (value : List ℕ) (l : Life) (ls : List Life) → l.death ≡ never → l.birth ≡ epoch
    → put_life epoch value (l ∷ ls) ≡ record l { value = value } ∷ ls
put_over epoch value l ls dies is =
    rw (equal_test l.death never dies, equal_test l.birth epoch is) (ap (λ (m : Life). m ∷ ls) (sym same))
  where
    same : (record l { value = value }) ≡ new_life epoch value
    same =
        ap (λ (b : ℕ). let m : Life = record { birth = b; death = l.death; value = value } in m) is
        ∙ ap (λ (d : ℕ). let m : Life = record { birth = epoch; death = d; value = value } in m) dies

put_behind_it : (epoch : ℕ) (value : List ℕ) (l : Life) (ls : List Life) → l.death ≡ never → l.birth ≢ epoch
    → put_life epoch value (l ∷ ls) ≡ record l { death = epoch } ∷ (new_life epoch value ∷ ls)
put_behind_it epoch value l ls dies isnt = rw (equal_test l.death never dies, differ_test l.birth epoch isnt) refl

del_it : (epoch : ℕ) (l : Life) (ls : List Life) → l.death ≡ never → l.birth ≡ epoch → del_life epoch (l ∷ ls) ≡ ls
del_it epoch l ls dies is = rw (equal_test l.death never dies, equal_test l.birth epoch is) refl

end_it : (epoch : ℕ) (l : Life) (ls : List Life) → l.death ≡ never → l.birth ≢ epoch
    → del_life epoch (l ∷ ls) ≡ record l { death = epoch } ∷ ls
end_it epoch l ls dies isnt = rw (equal_test l.death never dies, differ_test l.birth epoch isnt) refl

purge_it : (kept : List ℕ) (l : Life) (ls : List Life) → is_spent kept l ≡ true → purge_life kept (l ∷ ls) ≡ ls
purge_it kept l ls is = rw is refl

-- ---- puts

abbrev pub made : List ℕ → ℕ → List ℕ → Quad
made key epoch value = record { key = key; birth = epoch; death = never; value = value }

-- one record is changed, and keeps its key
changed : (key : List ℕ) (edit : List Life → List Life) (old new : List Quad) (place : ℕ) (row row' : Quad)
    → slice_get old place ≡ Some row → row.key ≡ key → row'.key ≡ key → new ≡ set old place row'
    → edit (lives_of (take place old) key ++ (life_of row ∷ lives_of (drop (suc place) old) key))
    ≡ lives_of (take place old) key ++ (life_of row' ∷ lives_of (drop (suc place) old) key)
    → Edits key edit old new
changed key edit old new place row row' here is also new_is edits =
    edited_at key old place row edit (row' ∷ []) new here is
    (new_is ∙ set_split old place row' (slice_get_within old place row here)) (one_only key row' also)
    (edits
    ∙ ap (λ (ls : List Life). lives_of (take place old) key ++ (ls ++ lives_of (drop (suc place) old) key))
    (sym (lives_of-own row' [] key also)))

-- one record goes
removed : (key : List ℕ) (edit : List Life → List Life) (old new : List Quad) (place : ℕ) (row : Quad)
    → slice_get old place ≡ Some row → row.key ≡ key → new ≡ remove old place
    → edit (lives_of (take place old) key ++ (life_of row ∷ lives_of (drop (suc place) old) key))
    ≡ lives_of (take place old) key ++ lives_of (drop (suc place) old) key
    → Edits key edit old new
removed key edit old new place row here is new_is edits =
    edited_at key old place row edit [] new here is new_is (none_only key) edits

-- an insertion right behind a place, and a change at it
inserted : (old : List Quad) (place : ℕ) (row row' next : Quad) → slice_get old place ≡ Some row
    → set (insert old (place + 1) next) place row' ≡ take place old ++ ((row' ∷ next ∷ []) ++ drop (suc place) old)
inserted old place row row' next here =
    ap (λ (qs : List Quad). set (qs ++ (next ∷ drop (place + 1) old)) place row') (take_one_more old place row here)
    ∙ (ap (λ (qs : List Quad). set qs place row') (append_assoc (take place old) (row ∷ [])
    (next ∷ drop (place + 1) old))
    ∙ (set_at (take place old) row (next ∷ drop (place + 1) old) row' place (length-take-le place old (below here))
    ∙ ap (λ (n : ℕ). take place old ++ (row' ∷ next ∷ drop n old)) one_more))
  where
    below : slice_get old place ≡ Some row → place ≤ length old
    below is = let within : place < length old = slice_get_within old place row is in omega arith

    one_more : place + 1 ≡ suc place
    one_more = omega arith

-- what stood at the place stands there behind the insertion
still_suc : (old : List Quad) (place : ℕ) (row next : Quad) → slice_get old place ≡ Some row
    → slice_get (take (suc place) old ++ (next ∷ drop (suc place) old)) place ≡ Some row
still_suc [] place row next is = cc
still_suc (q ∷ qs) zero row next is = is
still_suc (q ∷ qs) (suc place) row next is = still_suc qs place row next is

still : (old : List Quad) (place : ℕ) (row next : Quad) → slice_get old place ≡ Some row
    → slice_get (insert old (place + 1) next) place ≡ Some row
still old place row next is =
    let one_more : suc place ≡ place + 1 = omega arith in
    subst (λ (n : ℕ). slice_get (take n old ++ (next ∷ drop n old)) place ≡ Some row) one_more
    (still_suc old place row next is)

live_dies : (row : Quad) → sees Live (life_of row) ≡ true → row.death ≡ never
live_dies row sees = test_equal row.death never sees

module _ (epoch : ℕ) (key value : List ℕ) (old new : List Quad) (place : ℕ) (x : Quad) where
  -- the live record of the key, born in the epoch, carries the value from now on
  pub put_replaced : IsFirstOf (sees Live) key old place → x ≡ get_or old place x → x.birth ≡ epoch
      → Changes place (λ row. record row { value = value }) old new → Edits key (put_life epoch value) old new
  put_replaced f read is changes =
      let same : f.row ≡ x = read_first (sees Live) old place f.row x f.first read in
      let dies : f.row.death ≡ never = live_dies f.row f.first.passes in
      let birth : f.row.birth ≡ epoch = ap (λ (q : Quad). q.birth) same ∙ is in
      let none : NonePasses (sees Live) (take place old) key = subst
      (λ (k : List ℕ). NonePasses (sees Live) (take place old) k) f.same f.first.none in
      changed key (put_life epoch value) old new place f.row
      (record f.row { value = value }) f.first.here f.same f.same (changes f.row f.first.here)
      (put-behind epoch value (lives_of (take place old) key) (life_of f.row ∷ lives_of (drop (suc place) old) key) none
      ∙ ap (λ (ls : List Life). lives_of (take place old) key ++ ls)
      (put_over epoch value (life_of f.row) (lives_of (drop (suc place) old) key) dies birth))

  -- the live record of the key, born before the epoch, ends, and one of the value comes right behind it
  pub put_succeeded : IsFirstOf (sees Live) key old place → x ≡ get_or old place x → x.birth ≢ epoch
      → Changes place (λ row. record row { death = epoch }) (insert old (place + 1) (made key epoch value)) new
      → Edits key (put_life epoch value) old new
  put_succeeded f read isnt changes =
      let same : f.row ≡ x = read_first (sees Live) old place f.row x f.first read in
      let dies : f.row.death ≡ never = live_dies f.row f.first.passes in
      let birth : f.row.birth ≢ epoch = λ is. isnt (ap (λ (q : Quad). q.birth) (sym same) ∙ is) in
      let none : NonePasses (sees Live) (take place old) key = subst
      (λ (k : List ℕ). NonePasses (sees Live) (take place old) k) f.same f.first.none in
      let ended : Quad = record f.row { death = epoch } in
      edited_at key old place f.row (put_life epoch value) (ended ∷ made key epoch value ∷ []) new f.first.here f.same
      (changes f.row (still old place f.row (made key epoch value) f.first.here)
      ∙ inserted old place f.row ended (made key epoch value) f.first.here)
      (two_only key ended (made key epoch value) f.same refl)
      (put-behind epoch value (lives_of (take place old) key) (life_of f.row ∷ lives_of (drop (suc place) old) key) none
      ∙ (ap (λ (ls : List Life). lives_of (take place old) key ++ ls)
      (put_behind_it epoch value (life_of f.row) (lives_of (drop (suc place) old) key) dies birth)
      ∙ ap (λ (ls : List Life). lives_of (take place old) key ++ (ls ++ lives_of (drop (suc place) old) key))
      (sym (two_lives ended (made key epoch value) f.same refl))))
    where
      two_lives : (q r : Quad) → q.key ≡ key → r.key ≡ key → lives_of (q ∷ r ∷ []) key ≡ life_of q ∷ life_of r ∷ []
      two_lives q r is also =
          lives_of-own q (r ∷ []) key is ∙ ap (λ (ls : List Life). life_of q ∷ ls) (lives_of-own r [] key also)

-- the live record of the key, born in the epoch, goes
pub del_removed : (epoch : ℕ) (key : List ℕ) (old new : List Quad) (place : ℕ) (x : Quad)
    → IsFirstOf (sees Live) key old place
    → x ≡ get_or old place x → x.birth ≡ epoch → new ≡ remove old place → Edits key (del_life epoch) old new
del_removed epoch key old new place x f read is removes =
    let same : f.row ≡ x = read_first (sees Live) old place f.row x f.first read in
    let dies : f.row.death ≡ never = live_dies f.row f.first.passes in
    let birth : f.row.birth ≡ epoch = ap (λ (q : Quad). q.birth) same ∙ is in
    let none : NonePasses (sees Live) (take place old) key = subst
    (λ (k : List ℕ). NonePasses (sees Live) (take place old) k) f.same f.first.none in
    removed key (del_life epoch) old new place f.row f.first.here f.same removes
    (del-behind epoch (lives_of (take place old) key) (life_of f.row ∷ lives_of (drop (suc place) old) key) none
    ∙ ap (λ (ls : List Life). lives_of (take place old) key ++ ls)
    (del_it epoch (life_of f.row) (lives_of (drop (suc place) old) key) dies birth))

-- the live record of the key, born before the epoch, ends
pub del_ended : (epoch : ℕ) (key : List ℕ) (old new : List Quad) (place : ℕ) (x : Quad)
    → IsFirstOf (sees Live) key old place
    → x ≡ get_or old place x → x.birth ≢ epoch → Changes place (λ row. record row { death = epoch }) old new
    → Edits key (del_life epoch) old new
del_ended epoch key old new place x f read isnt changes =
    let same : f.row ≡ x = read_first (sees Live) old place f.row x f.first read in
    let dies : f.row.death ≡ never = live_dies f.row f.first.passes in
    let birth : f.row.birth ≢ epoch = λ is. isnt (ap (λ (q : Quad). q.birth) (sym same) ∙ is) in
    let none : NonePasses (sees Live) (take place old) key = subst
    (λ (k : List ℕ). NonePasses (sees Live) (take place old) k) f.same f.first.none in
    changed key (del_life epoch) old new place f.row (record f.row { death = epoch }) f.first.here f.same f.same
    (changes f.row f.first.here)
    (del-behind epoch (lives_of (take place old) key) (life_of f.row ∷ lives_of (drop (suc place) old) key) none
    ∙ ap (λ (ls : List Life). lives_of (take place old) key ++ ls)
    (end_it epoch (life_of f.row) (lives_of (drop (suc place) old) key) dies birth))

-- the first spent record goes
pub purge_removed : (kept from : List ℕ) (old new : List Quad) (place : ℕ) (x : Quad)
    → IsLeast (is_spent kept) (is_from from) old place
    → x ≡ get_or old place x → new ≡ remove old place → Takes kept from x old new
purge_removed kept from old new place x least read removes =
    subst (λ (q : Quad). Takes kept from q old new)
    (read_first (is_spent kept) old place least.row x least.first read) record {
      spent = spent_first kept from old place least;
      edits =
          removed least.row.key (purge_life kept) old new place least.row least.first.here refl removes
          (purge-behind kept (lives_of (take place old) least.row.key)
          (life_of least.row ∷ lives_of (drop (suc place) old) least.row.key) least.first.none
          ∙ ap (λ (ls : List Life). lives_of (take place old) least.row.key ++ ls)
          (purge_it kept (life_of least.row) (lives_of (drop (suc place) old) least.row.key) least.first.passes));
    }

-- ---- where the key has no live record

pub put_pushed : (epoch : ℕ) (key value : List ℕ) (old new : List Quad) → NonePasses (sees Live) old key
    → new ≡ old ++ (made key epoch value ∷ []) → Edits key (put_life epoch value) old new
put_pushed epoch key value old new none pushes =
    lives_of-edited key (put_life epoch value (lives_of old key)) old new own others
  where
    own : lives_of new key ≡ put_life epoch value (lives_of old key)
    own =
        ap (λ (qs : List Quad). lives_of qs key) pushes
        ∙ (lives_of-append old (made key epoch value ∷ []) key
        ∙ (ap (λ (ls : List Life). lives_of old key ++ ls) (lives_of-own (made key epoch value) [] key refl)
        ∙ (sym (put-behind epoch value (lives_of old key) [] none)
        ∙ ap (put_life epoch value) (append-nil (lives_of old key)))))

    others : (k : List ℕ) → bytes_eq k key ≡ false → lives_of new k ≡ lives_of old k
    others k other =
        ap (λ (qs : List Quad). lives_of qs k) pushes
        ∙ (lives_of-append old (made key epoch value ∷ []) k
        ∙ (ap (λ (ls : List Life). lives_of old k ++ ls)
        (lives_of-other (made key epoch value) [] k (apart (made key epoch value) key k refl other))
        ∙ append-nil (lives_of old k)))

pub del_nothing : (epoch : ℕ) (key : List ℕ) (rows : List Quad) → NonePasses (sees Live) rows key
    → Edits key (del_life epoch) rows rows
del_nothing epoch key rows none =
    lives_of-edited key (del_life epoch (lives_of rows key)) rows rows own (λ k other. refl)
  where
    own : lives_of rows key ≡ del_life epoch (lives_of rows key)
    own =
        sym (append-nil (lives_of rows key))
        ∙ (sym (del-behind epoch (lives_of rows key) [] none) ∙ ap (del_life epoch) (append-nil (lives_of rows key)))
