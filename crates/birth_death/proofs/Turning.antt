-- What edits of the list of records make of the lives of each key.
use Rattle.std.proofs.Common.{◌≡◌, ◌≢◌, ℕ, ◌<◌, ◌≤◌, Bool, true, false, if◌then◌else◌, List, [], ◌∷◌, ◌++◌, Option}
use Rattle.std.proofs.Common.{Some, None, refl, sym, ◌∙◌, ap, subst, arith}
use Rattle.std.proofs.lemmas.List.{append-nil}
use Rattle.std.specs.Str.{bytes_eq}
use Rattle.std.proofs.lemmas.List.Elements.{All-nil, All-cons, All-weaker}
use Rattle.pair_types.specs.declared.quad.Quad.{Quad}
use Rattle.btree_page.specs.Content.{Bound}
use Rattle.btree_page.specs.Tree.{quad_bound}
use Rattle.btree_edit.specs.Edits.{bound_at, Lacks, Removes, Replaces, Ends, Inserts}
use Rattle.pairs.specs.Lives.{Life, born, spent, life_of}
use Rattle.pairs.proofs.VersionsLaws.{is-same}
use Rattle.birth_death.specs.Quads.{lives_of}
use Rattle.birth_death.specs.Changes.{Has}
use Rattle.birth_death.proofs.OneKey.{AllBehind, AllAhead, NoBirth, ahead-no_birth, no_birth-born, no_birth-spent}
use Rattle.birth_death.proofs.Records.{lives-append, lives-here, lives-there, lives-no_birth, above-split, above-lives}
use Rattle.birth_death.proofs.Rising.{Rises}

-- ---- one record becomes others of its key

-- of the lives of a key, the one of a birth becomes these; those of other keys stay
pub record Turns (key : List ℕ) (birth : ℕ) (into : Life → List Life) (old new : List Quad) : Type 0 where
  pub front : List Life
  pub gone : Life
  pub rest : List Life
  pub was : lives_of old key ≡ front ++ (gone ∷ rest)
  pub place : gone.birth ≡ birth
  pub now : lives_of new key ≡ front ++ (into gone ++ rest)
  pub others : (k : List ℕ) → k ≢ key → lives_of new k ≡ lives_of old k

turned_to : (key : List ℕ) (birth : ℕ) (into : Life → List Life) (below above mid : List Quad) (gone : Quad)
    (old new : List Quad)
    → old ≡ below ++ (gone ∷ above) → gone.key ≡ key → gone.birth ≡ birth → new ≡ below ++ (mid ++ above)
    → lives_of mid key ≡ into (life_of gone)
    → ((k : List ℕ) → k ≢ key → lives_of mid k ≡ []) → Turns key birth into old new
turned_to key birth into below above mid gone old new was own born now turned none = record {
  front = lives_of below key;
  gone = life_of gone;
  rest = lives_of above key;
  was = ap (λ (xs : List Quad). lives_of xs key) was ∙ lives-append key below (gone ∷ above)
      ∙ ap (λ (ls : List Life). lives_of below key ++ ls) (lives-here key gone above own);
  place = born;
  now = ap (λ (xs : List Quad). lives_of xs key) now ∙ lives-append key below (mid ++ above)
      ∙ ap (λ (ls : List Life). lives_of below key ++ ls) (lives-append key mid above ∙ ap
      (λ (ls : List Life). ls ++ lives_of above key) turned);
  others = λ k other.
      ap (λ (xs : List Quad). lives_of xs k) now ∙ lives-append k below (mid ++ above)
      ∙ ap (λ (ls : List Life). lives_of below k ++ ls) (lives-append k mid above ∙ ap
      (λ (ls : List Life). ls ++ lives_of above k) (none k other))
      ∙ sym (ap (λ (xs : List Quad). lives_of xs k) was ∙ lives-append k below (gone ∷ above)
      ∙ ap (λ (ls : List Life). lives_of below k ++ ls)
      (lives-there k gone above (λ same. other (sym same ∙ own))));
}

one-here : (key : List ℕ) (q : Quad) → q.key ≡ key → lives_of (q ∷ []) key ≡ life_of q ∷ []
one-here key q own = lives-here key q [] own

one-there : (key : List ℕ) (q : Quad) → q.key ≡ key → (k : List ℕ) → k ≢ key → lives_of (q ∷ []) k ≡ []
one-there key q own k other = lives-there k q [] (λ same. other (sym same ∙ own))

pub removed : (key : List ℕ) (birth : ℕ) (old new : List Quad) → Removes (bound_at key birth) old new
    → Turns key birth (λ _. []) old new
removed key birth old new h =
    turned_to key birth (λ _. []) h.below h.above [] h.gone old new h.was (ap (λ (b : Bound). b.key) h.place)
    (ap (λ (b : Bound). b.birth) h.place) h.now
    refl (λ k other. refl)

pub ended : (key : List ℕ) (birth death : ℕ) (old new : List Quad) → Ends (bound_at key birth) death old new
    → Turns key birth (λ l. record l { death = death } ∷ []) old new
ended key birth death old new h =
    let own : h.gone.key ≡ key = ap (λ (b : Bound). b.key) h.place in
    turned_to key birth (λ l. record l { death = death } ∷ []) h.below h.above
    (record h.gone { death = death } ∷ []) h.gone old new h.was own
    (ap (λ (b : Bound). b.birth) h.place) h.now
    (one-here key (record h.gone { death = death }) own) (one-there key (record h.gone { death = death }) own)

pub replaced : (q : Quad) (old new : List Quad) → Replaces q old new → Turns q.key q.birth (λ _. life_of q ∷ []) old new
replaced q old new h =
    turned_to q.key q.birth (λ _. life_of q ∷ []) h.below h.above (q ∷ []) h.gone old new h.was
    (ap (λ (b : Bound). b.key) h.place)
    (ap (λ (b : Bound). b.birth) h.place) h.now (one-here q.key q refl) (one-there q.key q refl)

-- ---- a record comes in

-- behind all lives of its key; those of other keys stay
pub record Joins (q : Quad) (old new : List Quad) : Type 0 where
  pub now : lives_of new q.key ≡ lives_of old q.key ++ (life_of q ∷ [])
  pub others : (k : List ℕ) → k ≢ q.key → lives_of new k ≡ lives_of old k

-- no life is born both before and behind a number
neither : (n : ℕ) (ls : List Life) → AllAhead n ls → AllBehind n ls → ls ≡ []
neither n [] a b = refl
neither n (l ∷ ls) (a, x) (b, y) = absurd (omega arith)

ahead-right : (n : ℕ) (a b : List Life) → AllAhead n (a ++ b) → AllAhead n b
ahead-right n [] b h = h
ahead-right n (l ∷ a) b (x, h) = ahead-right n a b h

pub inserted : (q : Quad) (old new : List Quad) → Inserts q old new → Rises new → AllAhead q.birth (lives_of old q.key)
    → Joins q old new
inserted q old new h rise ahead = record { now = now; others = others }
  where
    parts : (k : List ℕ) → lives_of old k ≡ lives_of h.below k ++ lives_of h.above k
    parts k = ap (λ (xs : List Quad). lives_of xs k) h.was ∙ lives-append k h.below h.above

    none : lives_of h.above q.key ≡ []
    none = neither q.birth (lives_of h.above q.key)
        (ahead-right q.birth (lives_of h.below q.key) (lives_of h.above q.key)
        (subst (AllAhead q.birth) (parts q.key) ahead))
        (above-lives q h.above (above-split h.below h.above q (subst Rises h.now rise)))

    now : lives_of new q.key ≡ lives_of old q.key ++ (life_of q ∷ [])
    now = ap (λ (xs : List Quad). lives_of xs q.key) h.now ∙ lives-append q.key h.below (q ∷ h.above)
        ∙ ap (λ (ls : List Life). lives_of h.below q.key ++ ls) (lives-here q.key q h.above refl)
        ∙ ap (λ (ls : List Life). lives_of h.below q.key ++ (life_of q ∷ ls)) none
        ∙ ap (λ (ls : List Life). ls ++ (life_of q ∷ []))
        (sym (append-nil (lives_of h.below q.key)) ∙ ap (λ (ls : List Life). lives_of h.below q.key ++ ls) (sym
        none) ∙ sym (parts q.key))

    others : (k : List ℕ) → k ≢ q.key → lives_of new k ≡ lives_of old k
    others k other = ap (λ (xs : List Quad). lives_of xs k) h.now ∙ lives-append k h.below (q ∷ h.above)
        ∙ ap (λ (ls : List Life). lives_of h.below k ++ ls) (lives-there k q h.above (λ same. other (sym same)))
        ∙ sym (parts k)

-- ---- whether a record stands at a key and a birth

pub lacks-no_birth : (key : List ℕ) (birth : ℕ) (quads : List Quad) → Lacks (bound_at key birth) quads
    → NoBirth birth (lives_of quads key)
lacks-no_birth key birth quads lacks = lives-no_birth birth key quads
    (All-weaker (λ r. quad_bound r ≢ bound_at key birth) (λ r. r.key ≡ key → r.birth ≢ birth)
    (λ r lack own born. lack (bound_is r own born)) quads lacks)
  where
    bound_is : (r : Quad) → r.key ≡ key → r.birth ≡ birth → quad_bound r ≡ bound_at key birth
    bound_is r own born = ap (λ (k : List ℕ). bound_at k r.birth) own ∙ ap (bound_at key) born

pub born-has : (key : List ℕ) (birth : ℕ) (quads : List Quad) → born (lives_of quads key) ≡ Some birth
    → Has (bound_at key birth) quads
born-has key birth quads is = λ lacks.
    no_birth-born birth (lives_of quads key) (lacks-no_birth key birth quads lacks) is

pub spent-has : (kept : List ℕ) (q : Quad) (quads : List Quad) → spent kept (lives_of quads q.key) ≡ Some (life_of q)
    → Has (quad_bound q) quads
spent-has kept q quads is = λ lacks.
    no_birth-spent kept q.birth (lives_of quads q.key) (life_of q) (lacks-no_birth q.key q.birth quads lacks) is refl

-- where all lives of a key were born before, no record stands at the key and the birth
pub ahead-lacks : (key : List ℕ) (birth : ℕ) (quads : List Quad) → AllAhead birth (lives_of quads key)
    → Lacks (bound_at key birth) quads
ahead-lacks key birth [] ahead = All-nil (λ r. quad_bound r ≢ bound_at key birth)
ahead-lacks key birth (q ∷ qs) ahead = by_test (bytes_eq q.key key) refl ahead (ahead-lacks key birth qs)
  where
    by_test : (t : Bool) → bytes_eq q.key key ≡ t → AllAhead birth (if t then life_of q ∷ lives_of qs key else lives_of
        qs key)
        → (AllAhead birth (lives_of qs key) → Lacks (bound_at key birth) qs) → Lacks (bound_at key birth) (q ∷ qs)
    by_test true is h more =
        All-cons (λ r. quad_bound r ≢ bound_at key birth) q qs
        (λ same. absurd (let b : q.birth ≡ birth = ap (λ (x : Bound). x.birth) same in omega (arith, h.0))) (more h.1)
    by_test false is h more =
        All-cons (λ r. quad_bound r ≢ bound_at key birth) q qs
        (λ same. absurd (let t : bytes_eq q.key key ≡ true = subst (λ (k : List ℕ). bytes_eq q.key k ≡ true)
        (ap (λ (x : Bound). x.key) same) (is-same q.key) in cc)) (more h)
