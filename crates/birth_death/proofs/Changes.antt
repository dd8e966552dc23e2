-- What puts, deletions and purges edit is what they mean.
use Rattle.std.proofs.Common.{◌≡◌, ◌≢◌, ℕ, ◌<◌, ◌≤◌, List, [], ◌∷◌, ◌++◌, Option, Some, None, refl, sym, ◌∙◌, ap, subst}
use Rattle.std.proofs.Common.{arith, append_assoc}
use Rattle.std.proofs.lemmas.List.{append-nil}
use Rattle.pair_types.specs.declared.quad.Quad.{Quad}
use Rattle.btree_page.specs.Tree.{quad_bound}
use Rattle.btree_edit.specs.Edits.{bound_at, Nothing, Lacks, Removes, Ends, Replaces, Inserts}
use Rattle.pairs.specs.Lives.{Life, never, born, new_life, put_life, del_life, purge_life, spent, life_of, AreLives}
use Rattle.pairs.specs.Versions.{Versions, epoch, with_put, with_del, with_purge, HasLives}
use Rattle.birth_death.specs.Quads.{lives_of}
use Rattle.birth_death.specs.Changes.{Has, PutsAs, Dies, GoesFirst}
use Rattle.birth_death.proofs.OneKey.{AllAhead, live-last, put-none, put-over, put-after, del-over, del-after}
use Rattle.birth_death.proofs.OneKey.{dead-ahead, ended-ahead, purge-first}
use Rattle.birth_death.proofs.Turning.{Turns, Joins, removed, ended, replaced, inserted, born-has, spent-has}
use Rattle.birth_death.proofs.Turning.{ahead-lacks}
use Rattle.birth_death.proofs.Finding.{Lists}
use Rattle.birth_death.proofs.Moves.{SameBeside, Means, lives-with}
use Rattle.birth_death.proofs.Rising.{Rises}

-- ---- edits change lives alone

pub put-beside : (key value : List ℕ) (v : Versions) → SameBeside v (with_put key value v)
unfolding with_put
put-beside key value v = record { stores = refl; blocks = refl }

pub del-beside : (key : List ℕ) (v : Versions) → SameBeside v (with_del key v)
unfolding with_del
del-beside key v = record { stores = refl; blocks = refl }

pub purge-beside : (kept key : List ℕ) (v : Versions) → SameBeside v (with_purge kept key v)
unfolding with_purge
purge-beside kept key v = record { stores = refl; blocks = refl }

pub put-lives : (key value : List ℕ) (v : Versions) (after : List Quad)
    → lives_of after key ≡ put_life (epoch v) value (v.lives key)
    → ((k : List ℕ) → k ≢ key → lives_of after k ≡ v.lives k) → (k : List ℕ)
    → (with_put key value v).lives k ≡ lives_of after k
unfolding with_put
put-lives key value v after here there k =
    lives-with key (put_life (epoch v) value (v.lives key)) v.lives after here there k

pub del-lives : (key : List ℕ) (v : Versions) (after : List Quad)
    → lives_of after key ≡ del_life (epoch v) (v.lives key)
    → ((k : List ℕ) → k ≢ key → lives_of after k ≡ v.lives k) → (k : List ℕ)
    → (with_del key v).lives k ≡ lives_of after k
unfolding with_del
del-lives key v after here there k = lives-with key (del_life (epoch v) (v.lives key)) v.lives after here there k

pub purge-lives : (kept key : List ℕ) (v : Versions) (after : List Quad)
    → lives_of after key ≡ purge_life kept (v.lives key)
    → ((k : List ℕ) → k ≢ key → lives_of after k ≡ v.lives k) → (k : List ℕ)
    → (with_purge kept key v).lives k ≡ lives_of after k
unfolding with_purge
purge-lives kept key v after here there k = lives-with key (purge_life kept (v.lives key)) v.lives after here there k

-- ---- the lives of a key in the list

listed : (v : Versions) (quads : List Quad) (key : List ℕ) → Lists v quads → HasLives v
    → AreLives (epoch v) 0 (lives_of quads key)
listed v quads key l has = subst (AreLives (epoch v) 0) (l.lives key) (has.lives key)

born-listed : (v : Versions) (quads : List Quad) (key : List ℕ) (birth : Option ℕ) → Lists v quads
    → born (v.lives key) ≡ birth → born (lives_of quads key) ≡ birth
born-listed v quads key birth l is = ap born (sym (l.lives key)) ∙ is

-- the life that lives is the last of its key
record IsLast (key : List ℕ) (birth : ℕ) (into : Life → List Life) (v : Versions)
    (quads after : List Quad) : Type 0 where
  front : List Life
  gone : Life
  was : lives_of quads key ≡ front ++ (gone ∷ [])
  are : AreLives (epoch v) 0 (front ++ (gone ∷ []))
  live : gone.death ≡ never
  place : gone.birth ≡ birth
  now : lives_of after key ≡ front ++ into gone
  others : (k : List ℕ) → k ≢ key → lives_of after k ≡ v.lives k

last-turned : (key : List ℕ) (birth : ℕ) (into : Life → List Life) (v : Versions) (quads after : List Quad)
    → Lists v quads → HasLives v
    → born (v.lives key) ≡ Some birth → Turns key birth into quads after → IsLast key birth into v quads after
last-turned key birth into v quads after l has is t = record {
  front = t.front;
  gone = t.gone;
  was = was;
  are = subst (AreLives (epoch v) 0) was (listed v quads key l has);
  live = last.0;
  place = t.place;
  now =
      t.now ∙ ap (λ (ls : List Life). t.front ++ (into t.gone ++ ls)) last.1
      ∙ ap (λ (ls : List Life). t.front ++ ls) (append-nil (into t.gone));
  others = λ k other. t.others k other ∙ sym (l.lives k);
}
  where
    last : (t.gone.death ≡ never) × (t.rest ≡ [])
    last =
        live-last (epoch v) 0 t.front t.rest t.gone has.early
        (subst (AreLives (epoch v) 0) t.was (listed v quads key l has))
        (ap born (sym t.was) ∙ born-listed v quads key (Some birth) l is ∙ ap Some (sym t.place))

    was : lives_of quads key ≡ t.front ++ (t.gone ∷ [])
    was = t.was ∙ ap (λ (ls : List Life). t.front ++ (t.gone ∷ ls)) last.1

-- ---- a value is put

-- the record of a value that lives from the epoch on
record_life : (q : Quad) (v : Versions) → q.death ≡ never → q.birth ≡ epoch v → life_of q ≡ new_life (epoch v) q.value
record_life q v lives is =
    ap (λ (d : ℕ). record { birth = q.birth; death = d; value = q.value }) lives ∙ ap (λ (b : ℕ). new_life b q.value) is

put-over-lives : (q : Quad) (v : Versions) (quads after : List Quad) → q.death ≡ never → Lists v quads
    → PutsAs q (Some q.birth) v → Replaces q quads after
    → (key : List ℕ) → (with_put q.key q.value v).lives key ≡ lives_of after key
put-over-lives q v quads after lives l is edit =
    let t = last-turned q.key q.birth (λ _. life_of q ∷ []) v quads after l is.can.lives is.born
    (replaced q quads after edit) in
    put-lives q.key q.value v after
    (t.now ∙ ap (λ (x : Life). t.front ++ (x ∷ [])) (record_life q v lives is.epoch)
    ∙ sym (ap (put_life (epoch v) q.value) (l.lives q.key ∙ t.was)
    ∙ put-over (epoch v) 0 q.value t.front t.gone is.can.lives.early t.are t.live (t.place ∙ is.epoch)))
    t.others

pub put-over-means : (q : Quad) → q.death ≡ never → Means (Replaces q) Nothing (PutsAs q (Some q.birth)) (with_put q.key
    q.value)
put-over-means q lives = record {
  same = put-beside q.key q.value;
  given = λ v quads l is. tt;
  lives = λ v quads after l rises is edit. put-over-lives q v quads after lives l is edit;
}

pub put-over-has : (q : Quad) (v : Versions) (quads : List Quad) → Lists v quads → PutsAs q (Some q.birth) v
    → Has (quad_bound q) quads
put-over-has q v quads l is = born-has q.key q.birth quads (born-listed v quads q.key (Some q.birth) l is.born)

none-ahead : (q : Quad) (v : Versions) (quads : List Quad) → Lists v quads → PutsAs q None v
    → AllAhead q.birth (lives_of quads q.key)
none-ahead q v quads l is =
    subst (λ (n : ℕ). AllAhead n (lives_of quads q.key)) (sym is.epoch)
    (dead-ahead (epoch v) 0 (lives_of quads q.key) (listed v quads q.key l is.can.lives)
    (born-listed v quads q.key None l is.born))

put-first-lives : (q : Quad) (v : Versions) (quads after : List Quad) → q.death ≡ never → Lists v quads → Rises after
    → PutsAs q None v → Inserts q quads after
    → (key : List ℕ) → (with_put q.key q.value v).lives key ≡ lives_of after key
put-first-lives q v quads after lives l rises is edit =
    let j = inserted q quads after edit rises (none-ahead q v quads l is) in
    put-lives q.key q.value v after
    (j.now ∙ ap (λ (x : Life). lives_of quads q.key ++ (x ∷ [])) (record_life q v lives is.epoch)
    ∙ sym (ap (put_life (epoch v) q.value) (l.lives q.key)
    ∙ put-none (epoch v) 0 q.value (lives_of quads q.key) is.can.lives.early
    (listed v quads q.key l is.can.lives) (born-listed v quads q.key None l is.born)))
    (λ k other. j.others k other ∙ sym (l.lives k))

pub put-first-means : (q : Quad) → q.death ≡ never → Means (Inserts q) (Lacks (quad_bound q)) (PutsAs q None) (with_put
    q.key q.value)
put-first-means q lives = record {
  same = put-beside q.key q.value;
  given = λ v quads l is. ahead-lacks q.key q.birth quads (none-ahead q v quads l is);
  lives = λ v quads after l rises is edit. put-first-lives q v quads after lives l rises is edit;
}

-- ---- a value is put where an older one lives: that ends, and the new one comes in

pub put-after-has : (q : Quad) (birth : ℕ) (v : Versions) (quads : List Quad) → Lists v quads → PutsAs q (Some birth) v
    → Has (bound_at q.key birth) quads
put-after-has q birth v quads l is = born-has q.key birth quads (born-listed v quads q.key (Some birth) l is.born)

last-ended : (q : Quad) (birth : ℕ) (v : Versions) (quads mid : List Quad) → Lists v quads → PutsAs q (Some birth) v
    → Ends (bound_at q.key birth) q.birth quads mid
    → IsLast q.key birth (λ g. record g { death = q.birth } ∷ []) v quads mid
last-ended q birth v quads mid l is edit =
    last-turned q.key birth (λ g. record g { death = q.birth } ∷ []) v quads mid l is.can.lives is.born
    (ended q.key birth q.birth quads mid edit)

pub mid-ahead : (q : Quad) (birth : ℕ) (v : Versions) (quads mid : List Quad) → birth ≢ q.birth → Lists v quads
    → PutsAs q (Some birth) v
    → Ends (bound_at q.key birth) q.birth quads mid → AllAhead q.birth (lives_of mid q.key)
mid-ahead q birth v quads mid other l is edit =
    let t = last-ended q birth v quads mid l is edit in
    subst (AllAhead q.birth) (sym t.now)
    (subst (λ (n : ℕ). AllAhead n (t.front ++ (record t.gone { death = n } ∷ []))) (sym is.epoch)
    (ended-ahead (epoch v) 0 t.front t.gone t.are (λ same. other (sym t.place ∙ same ∙ sym is.epoch))))

pub mid-lacks : (q : Quad) (birth : ℕ) (v : Versions) (quads mid : List Quad) → birth ≢ q.birth → Lists v quads
    → PutsAs q (Some birth) v
    → Ends (bound_at q.key birth) q.birth quads mid → Lacks (quad_bound q) mid
mid-lacks q birth v quads mid other l is edit =
    ahead-lacks q.key q.birth mid (mid-ahead q birth v quads mid other l is edit)

pub put-after-lives : (q : Quad) (birth : ℕ) (v : Versions) (quads mid after : List Quad) → q.death ≡ never
    → birth ≢ q.birth → Lists v quads → Rises after
    → PutsAs q (Some birth) v → Ends (bound_at q.key birth) q.birth quads mid → Inserts q mid after
    → (key : List ℕ) → (with_put q.key q.value v).lives key ≡ lives_of after key
put-after-lives q birth v quads mid after lives other l rises is ends edit =
    let t = last-ended q birth v quads mid l is ends in
    let j = inserted q mid after edit rises (mid-ahead q birth v quads mid other l is ends) in
    put-lives q.key q.value v after
    (j.now ∙ ap (λ (ls : List Life). ls ++ (life_of q ∷ [])) t.now
    ∙ append_assoc t.front (record t.gone { death = q.birth } ∷ []) (life_of q ∷ [])
    ∙ ap (λ (n : ℕ). t.front ++ (record t.gone { death = n } ∷ (life_of q ∷ []))) is.epoch
    ∙ ap (λ (x : Life). t.front ++ (record t.gone { death = epoch v } ∷ (x ∷ []))) (record_life q v lives is.epoch)
    ∙ sym (ap (put_life (epoch v) q.value) (l.lives q.key ∙ t.was)
    ∙ put-after (epoch v) 0 q.value t.front t.gone is.can.lives.early t.are t.live
    (λ same. other (sym t.place ∙ same ∙ sym is.epoch))))
    (λ k there. j.others k there ∙ t.others k there)

-- ---- a value ends

pub dies-has : (key : List ℕ) (birth now : ℕ) (v : Versions) (quads : List Quad) → Lists v quads → Dies key birth now v
    → Has (bound_at key birth) quads
dies-has key birth now v quads l is = born-has key birth quads (born-listed v quads key (Some birth) l is.born)

del-over-lives : (key : List ℕ) (birth now : ℕ) (v : Versions) (quads after : List Quad) → birth ≡ now → Lists v quads
    → Dies key birth now v
    → Removes (bound_at key birth) quads after → (k : List ℕ) → (with_del key v).lives k ≡ lives_of after k
del-over-lives key birth now v quads after same l is edit =
    let t = last-turned key birth (λ _. []) v quads after l is.lives is.born (removed key birth quads after edit) in
    del-lives key v after
    (t.now ∙ sym (ap (del_life (epoch v)) (l.lives key ∙ t.was)
    ∙ del-over (epoch v) 0 t.front t.gone is.lives.early t.are t.live (t.place ∙ same ∙ is.epoch)))
    t.others

pub del-over-means : (key : List ℕ) (birth now : ℕ) → birth ≡ now
    → Means (Removes (bound_at key birth)) Nothing (Dies key birth now) (with_del key)
del-over-means key birth now same = record {
  same = del-beside key;
  given = λ v quads l is. tt;
  lives = λ v quads after l rises is edit. del-over-lives key birth now v quads after same l is edit;
}

del-after-lives : (key : List ℕ) (birth now : ℕ) (v : Versions) (quads after : List Quad) → birth ≢ now → Lists v quads
    → Dies key birth now v
    → Ends (bound_at key birth) now quads after → (k : List ℕ) → (with_del key v).lives k ≡ lives_of after k
del-after-lives key birth now v quads after other l is edit =
    let t = last-turned key birth (λ g. record g { death = now } ∷ []) v quads after l is.lives is.born
    (ended key birth now quads after edit) in
    del-lives key v after
    (t.now ∙ ap (λ (n : ℕ). t.front ++ (record t.gone { death = n } ∷ [])) is.epoch
    ∙ sym (ap (del_life (epoch v)) (l.lives key ∙ t.was)
    ∙ del-after (epoch v) 0 t.front t.gone is.lives.early t.are t.live
    (λ same. other (sym t.place ∙ same ∙ sym is.epoch))))
    t.others

pub del-after-means : (key : List ℕ) (birth now : ℕ) → birth ≢ now
    → Means (Ends (bound_at key birth) now) Nothing (Dies key birth now) (with_del key)
del-after-means key birth now other = record {
  same = del-beside key;
  given = λ v quads l is. tt;
  lives = λ v quads after l rises is edit. del-after-lives key birth now v quads after other l is edit;
}

-- ---- a record goes

pub purge-has : (kept : List ℕ) (q : Quad) (v : Versions) (quads : List Quad) → Lists v quads → GoesFirst kept q v
    → Has (quad_bound q) quads
purge-has kept q v quads l is = spent-has kept q quads (ap (spent kept) (sym (l.lives q.key)) ∙ is.first)

purged-lives : (kept : List ℕ) (q : Quad) (v : Versions) (quads after : List Quad) → Lists v quads → GoesFirst kept q v
    → Removes (bound_at q.key q.birth) quads after → (k : List ℕ) → (with_purge kept q.key v).lives k ≡ lives_of after k
purged-lives kept q v quads after l is edit =
    let t = removed q.key q.birth quads after edit in
    purge-lives kept q.key v after
    (t.now ∙ sym (ap (purge_life kept) (l.lives q.key ∙ t.was)
    ∙ purge-first kept (epoch v) 0 t.front t.rest t.gone (life_of q)
    (subst (AreLives (epoch v) 0) t.was (listed v quads q.key l is.lives))
    (ap (spent kept) (sym (l.lives q.key ∙ t.was)) ∙ is.first) t.place))
    (λ k other. t.others k other ∙ sym (l.lives k))

pub purge-means : (kept : List ℕ) (q : Quad) → Means (Removes (bound_at q.key q.birth)) Nothing (GoesFirst kept
    q) (with_purge kept q.key)
purge-means kept q = record {
  same = purge-beside kept q.key;
  given = λ v quads l is. tt;
  lives = λ v quads after l rises is edit. purged-lives kept q v quads after l is edit;
}
