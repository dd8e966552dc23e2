-- Each kind of step keeps the rule.
use Rattle.std.proofs.Common.{◌≡◌, ◌≢◌, ℕ, suc, ◌<◌, ◌≤◌, true, false, List, [], ◌∷◌, ◌++◌, ◌⊎◌, inl, inr, Option, Some, refl}
use Rattle.std.proofs.Common.{ap, sym, ◌∙◌, subst, arith, slice_set}
use mathlib.Core.Option as maybe
use mathlib.Core.Option.{some-injective}
use mathlib.Core.Logic.{dite}
use native.Mathlib.Decide.{ℕ_discrete, dec_le}
use lib.ListN.{get_elem?}
use Rattle.atomic_table.specs.Table.{State, Me, Final, Seen, keeps, takes, gives, Allows, Splits, Joins, stepped}
use Rattle.atomic_table.proofs.Lists.{at_set, set_again, at_longer, set_else}
use Rattle.page_types.specs.declared.journal.JEntry.{JEntry}
use Rattle.page_types.specs.Journals.{Origin, own}
use Rattle.turnstile.specs.declared.view.View.{View}
use Rattle.turnstile.specs.declared.view.Claim.{Claim}
use Rattle.turnstile.specs.Growth.{Grew, GrowsBy}
use Rattle.turnstile.specs.Views.{Has, holding, resting, joined, spent, longer, Border, quiet, below, above}
use Rattle.turnstile.specs.Rules.{All, Apart, Knows, AtHome, IsOut, TurnRule, Takes, Gives, Found, AreTrue, Bears, Looks}
use Rattle.turnstile.specs.Rules.{TookIn}
use Rattle.turnstile.proofs.Places.{set_at, at_end, one_view, all_set, all_snoc, apart_snoc, apart_within}
use Rattle.turnstile.proofs.Journals.{grew_self, grew_trans, nil_grew, own_between, longer_has, others_stay, grows_grew}

module _ {S : Type 0} (journal : S → List JEntry) (origin_of : S → Origin) (origin : Origin) where
  abbrev Rule : State (Option S) View → Type 0
  Rule = TurnRule journal origin_of origin

  -- ---- take and miss

  took_out : (s : State (Option S) View) (id : ℕ) (v : View) → v.low < v.high → get_elem? s.views id ≡ maybe.some v
      → (h : AtHome journal origin_of origin s)
      → Rule (stepped s 0 1 id [] (holding v (journal h.value)) (takes 0 (Some h.value)))
  took_out s id v some at h =
      let w = holding v (journal h.value) in
      let k = h.know id v at in
      inr (record {
        word = ap (λ ws. slice_set ws 0 1) h.word;
        home = ap (λ hs. slice_set hs 0 maybe.none) h.home;
        holder = id;
        view = w;
        is = set_at s.views id w v at;
        holds = refl;
        some = some;
        idle = λ i u is ne. elim (at_set s.views id i w u is) [ inl a ↦ absurd (ne a.0) | inr a ↦ h.idle i u a.1 ];
        know = all_set (Knows origin (journal h.value)) s.views id w
            (record { from = k.from; saw = grew_self (journal h.value); mine = λ n hn. refl; ends = k.ends; claims = tt })
            (λ j u is ne. h.know j u is);
        apart = apart_within s.views id v w at (λ n hn. hn) h.apart;
      })

  missed : (s : State (Option S) View) (id : ℕ) (v : View) → get_elem? s.views id ≡ maybe.some v → (h : IsOut origin s)
      → Rule (stepped s 0 1 id [] v keeps)
  missed s id v at h =
      let same : slice_set s.views id v ≡ s.views = set_again s.views id v at in
      inr (record {
        word = ap (λ ws. slice_set ws 0 1) h.word;
        home = h.home;
        holder = h.holder;
        view = h.view;
        is = rw same h.is;
        holds = h.holds;
        some = h.some;
        idle = λ i u is ne. h.idle i u (subst (λ l. get_elem? l i ≡ maybe.some u) same is) ne;
        know = λ i u is. h.know i u (subst (λ l. get_elem? l i ≡ maybe.some u) same is);
        apart = subst Apart (sym same) h.apart;
      })

  pub take_allows : (id : ℕ) (v : View) → v.low < v.high → Allows Rule 1 id (v, []) 0 (λ n. 1) (Takes journal origin_of (v, []))
  take_allows id v some s (inl h) len at small =
      let k = h.know id v at in (
        holding v (journal h.value),
        takes 0 (Some h.value),
        ap (λ hs. get_elem? hs 0) h.home,
        took_out s id v some at h,
        rw h.word (h.value, refl, record { origin = h.origin_is ∙ sym (k.from some); grew = k.saw; mine = k.mine }),
      )
  take_allows id v some s (inr h) len at small = (v, keeps, tt, missed s id v at h, rw h.word refl)

  -- ---- give

  claims_move : (old now : List JEntry) (u : View) (cs : List Claim) → ((n : ℕ) → Has u n → own n old ≡ own n now)
      → AreTrue old u cs → AreTrue now u cs
  claims_move old now u [] same t = tt
  claims_move old now u (c ∷ cs) same t = (
    record { saw = t.0.saw; within = t.0.within; mine = λ n a b. t.0.mine n a b ∙ same n (t.0.within n a b) },
    claims_move old now u cs same t.1,
  )

  put_home : (s : State (Option S) View) (id : ℕ) (v : View) (x : S) → v.low < v.high → v.holds ≡ true → origin_of x ≡ v.origin
      → GrowsBy v.low v.seen (journal x)
      → get_elem? s.views id ≡ maybe.some v → (h : IsOut origin s) → h.holder ≡ id
      → Rule (stepped s 0 0 id ((0, Some x) ∷ []) (resting v (journal x)) gives)
  put_home s id v x some holds from grows at h here =
      let w = resting v (journal x) in
      let k = h.know id v at in
      let same : h.view ≡ v = one_view s.views id h.view v (subst (λ i. get_elem? s.views i ≡ maybe.some h.view) here h.is)
      at in
      inl (record {
        word = ap (λ ws. slice_set ws 0 0) h.word;
        value = x;
        home = ap (λ hs. slice_set hs 0 (maybe.some (Some x))) h.home;
        origin_is = from ∙ k.from some;
        idle = all_set (λ u. u.holds ≡ false) s.views id w refl (λ j u is ne. h.idle j u is (λ e. ne (e ∙ here)));
        know = all_set (Knows origin (journal x)) s.views id w
            (record { from = k.from; saw = grew_self (journal x); mine = λ n hn. refl; ends = k.ends; claims = tt })
            (λ j u is ne.
            let q = h.know j u is in record {
              from = q.from;
              saw = grew_trans u.seen v.seen (journal x) (subst (λ (y : View). Grew u.seen y.seen) same q.saw)
                  (grows_grew v.low v.seen (journal x) grows);
              mine = λ n hn. subst (λ (y : View). own n u.seen ≡ own n y.seen) same (q.mine n hn) ∙ others_stay v.low n v.seen
                  (journal x) grows (λ e. ne (h.apart j id u v n is at hn (rw e (omega arith, some))));
              ends = q.ends;
              claims = claims_move v.seen (journal x) u u.claims
                  (λ n hn. others_stay v.low n v.seen (journal x) grows
                  (λ e. ne (h.apart j id u v n is at hn (rw e (omega arith, some)))))
                  (subst (λ (y : View). AreTrue y.seen u u.claims) same q.claims);
            });
        apart = apart_within s.views id v w at (λ n hn. hn) h.apart;
      })

  pub give_allows : (id : ℕ) (v : View) (x : S) → v.low < v.high → v.holds ≡ true → origin_of x ≡ v.origin
      → GrowsBy v.low v.seen (journal x)
      → Allows Rule 1 id (v, (0, Some x) ∷ []) 0 (λ n. 0) (λ n. Gives journal (v, (0, Some x) ∷ []))
  give_allows id v x some holds from grows s (inl h) len at small = absurd (let f = h.idle id v at in grind (arith, holds, f))
  give_allows id v x some holds from grows s (inr h) len at small = (
    resting v (journal x),
    gives,
    tt,
    dite (ℕ_discrete h.holder id) (λ e. put_home s id v x some holds from grows at h e)
        (λ ne. absurd (let f = h.idle id v at (λ e. ne (sym e)) in grind (arith, holds, f))),
    (x, refl, refl),
  )

  -- ---- split

  part : (v w : View) (now : List JEntry) → w.claims ≡ [] → w.origin ≡ v.origin → w.seen ≡ v.seen → w.high ≤ v.high
      → v.low ≤ w.low → Knows origin now v → Knows origin now w
  part v w now c o e high low k = record {
    from = λ lt. o ∙ k.from (omega (arith, lt, low, high));
    saw = subst (λ l. Grew l now) (sym e) k.saw;
    mine = λ n hn. ap (own n) e ∙ k.mine n (omega (arith, hn.0, hn.1), omega (arith, hn.0, hn.1));
    ends = let x = k.ends in omega arith;
    claims = subst (λ cs. AreTrue now w cs) (sym c) tt;
  }

  -- the facts of all views, where one of them is cut in two
  all_cut : (F : View → Type 0) (vs : List View) (id : ℕ) (l r : View) → F l → F r → All F vs
      → All F (slice_set vs id l ++ r ∷ [])
  all_cut F vs id l r fl fr old = all_snoc F (slice_set vs id l) r fr (all_set F vs id l fl (λ j u is ne. old j u is))

  cut_apart : (vs : List View) (id : ℕ) (v l r : View) → get_elem? vs id ≡ maybe.some v → ((n : ℕ) → Has l n → Has v n)
      → ((n : ℕ) → Has r n → Has v n) → ((n : ℕ) → Has l n → Has r n → ⊥) → Apart vs
      → Apart (slice_set vs id l ++ r ∷ [])
  cut_apart vs id v l r at lv rv two apart =
      apart_snoc (slice_set vs id l) r
      (λ j u n is hu hr. elim (at_set vs id j l u is) [
        | inl a ↦ two n (subst (λ (y : View). Has y n) (sym a.1) hu) hr
        | inr a ↦ a.0 (apart j id u v n a.1 at hu (rv n hr))
      ])
      (apart_within vs id v l at lv apart)

  -- the holder's own range is cut
  cut_out : (s : State (Option S) View) (id : ℕ) (v : View) (from : ℕ) → v.low < from → from < v.high
      → get_elem? s.views id ≡ maybe.some v
      → ((now : List JEntry) → All (Knows origin now) s.views → All (Knows origin now)
      (slice_set s.views id (below from v) ++ above from v ∷ []))
      → (Apart s.views → Apart (slice_set s.views id (below from v) ++ above from v ∷ []))
      → (h : IsOut origin s) → h.holder ≡ id
      → Rule (record { words = s.words; homes = s.homes; views = slice_set s.views id (below from v) ++ above from v ∷ [] })
  cut_out s id v from low high at know two h here =
      let l = below from v in
      let r = above from v in
      let same : h.view ≡ v = one_view s.views id h.view v (subst (λ i. get_elem? s.views i ≡ maybe.some h.view) here h.is)
      at in
      inr (record {
        word = h.word;
        home = h.home;
        holder = id;
        view = l;
        is = at_longer (slice_set s.views id l) (r ∷ []) id l (set_at s.views id l v at);
        holds = subst (λ (u : View). u.holds ≡ true) same h.holds;
        some = low;
        idle = λ i u is away. elim (at_end (slice_set s.views id l) r u i is) [
          | inl a ↦ elim (at_set s.views id i l u a)
              [ inl b ↦ absurd (away b.0) | inr b ↦ h.idle i u b.1 (λ e. away (e ∙ here)) ]
          | inr a ↦ subst (λ (x : View). x.holds ≡ false) a.1 refl
        ];
        know = subst (λ (u : View). All (Knows origin u.seen) (slice_set s.views id l ++ r ∷ [])) same
            (know h.view.seen h.know);
        apart = two h.apart;
      })

  -- the range of a pass that holds no turn is cut, while another holds it
  cut_other : (s : State (Option S) View) (id : ℕ) (v : View) (from : ℕ) → get_elem? s.views id ≡ maybe.some v
      → ((now : List JEntry) → All (Knows origin now) s.views → All (Knows origin now)
      (slice_set s.views id (below from v) ++ above from v ∷ []))
      → (Apart s.views → Apart (slice_set s.views id (below from v) ++ above from v ∷ []))
      → (h : IsOut origin s) → h.holder ≢ id
      → Rule (record { words = s.words; homes = s.homes; views = slice_set s.views id (below from v) ++ above from v ∷ [] })
  cut_other s id v from at know two h ne =
      let l = below from v in
      let r = above from v in
      inr (record {
        word = h.word;
        home = h.home;
        holder = h.holder;
        view = h.view;
        holds = h.holds;
        some = h.some;
        is = at_longer (slice_set s.views id l) (r ∷ []) h.holder h.view (set_else s.views id h.holder l ne ∙ h.is);
        idle = λ i u is away. elim (at_end (slice_set s.views id l) r u i is) [
          | inl a ↦ elim (at_set s.views id i l u a) [
            | inl b ↦ subst (λ (x : View). x.holds ≡ false) b.1 (h.idle id v at (λ e. ne (sym e)))
            | inr b ↦ h.idle i u b.1
                away
          ]
          | inr a ↦ subst (λ (x : View). x.holds ≡ false) a.1 refl
        ];
        know = know h.view.seen h.know;
        apart = two h.apart;
      })

  pub cut_splits : (id : ℕ) (v : View) (from : ℕ) → v.low < from → from < v.high
      → Splits Rule id v (below from v) (above from v)
  cut_splits id v from low high s holds at =
      let l = below from v in
      let r = above from v in
      let two : Apart s.views → Apart (slice_set s.views id l ++ r ∷ []) =
      cut_apart s.views id v l r at (λ n hn. (hn.0, omega (arith, hn.1, high))) (λ n hn. (omega (arith, hn.0, low), hn.1))
      (λ n hl hr. omega (arith, hl.1, hr.0)) in
      let know : (now : List JEntry) → All (Knows origin now) s.views
      → All (Knows origin now) (slice_set s.views id l ++ r ∷ []) =
      λ now old. let k = old id v at in
      all_cut (Knows origin now) s.views id l r (part v l now refl refl refl (omega (arith, high)) (omega arith) k)
      (part v r now refl refl refl (omega arith) (omega (arith, low)) k) old in
      elim holds [
        | inl h ↦ inl (record {
          word = h.word;
          value = h.value;
          home = h.home;
          origin_is = h.origin_is;
          idle = all_cut (λ u. u.holds ≡ false) s.views id l r (h.idle id v at) refl h.idle;
          know = know (journal h.value) h.know;
          apart = two h.apart;
        })
        | inr h ↦ dite (ℕ_discrete h.holder id) (λ e. cut_out s id v from low high at know two h e)
            (λ ne. cut_other s id v from at know two h ne)
      ]

  -- ---- join

  -- a number of both ranges together is in one of them
  in_one : (v w : View) → v.low < v.high → w.low < w.high → Border v w → (n : ℕ) → Has (joined v w) n → Has v n ⊎ Has w n
  in_one v w sv sw border n h =
      dite (dec_le v.low n)
      (λ a. dite (dec_le (suc n) v.high) (λ b. inl (a, b))
      (λ b. inr (elim border
      [ inl e ↦ (omega (arith, b, e), omega (arith, h.1, b)) | inr e ↦ absurd (omega (arith, h.1, b, e, sv)) ])))
      (λ a. inr (elim border
      [ inl e ↦ absurd (omega (arith, h.0, a, e, sw)) | inr e ↦ (omega (arith, h.0, a), omega (arith, a, e)) ]))

  joined_knows : (v w : View) (now : List JEntry) → v.low < v.high → w.low < w.high → Border v w → Knows origin now v
      → Knows origin now w → Knows origin now (joined v w)
  joined_knows v w now sv sw border k l =
      let p = longer_has v.seen w.seen now k.saw l.saw in record {
        from = λ _. k.from sv;
        saw = p.0;
        mine = λ n hn. elim (in_one v w sv sw border n hn) [
          | inl a ↦ own_between n v.seen (longer v.seen w.seen) now p.1 p.0 (k.mine n a)
          | inr a ↦ own_between n w.seen (longer v.seen w.seen) now p.2 p.0 (l.mine n a)
        ];
        ends = let x = k.ends in let y = l.ends in omega (arith, x, y);
        claims = (
          record { saw = p.1; within = λ n a b. (omega (arith, a), omega (arith, b)); mine = λ n a b. k.mine n (a, b) },
          (record { saw = p.2; within = λ n a b. (omega (arith, a), omega (arith, b)); mine = λ n a b. l.mine n (a, b) }, tt),
        );
      }

  spent_knows : (now : List JEntry) → Knows origin now spent
  spent_knows now = record {
    from = λ lt. absurd (omega (arith, lt));
    saw = nil_grew now;
    mine =
        λ n hn. absurd (omega (arith, hn.1));
    ends = omega arith;
    claims = tt;
  }

  -- where each view of the new list stands in the old one
  from_old : (F : View → Type 0) (vs : List View) (id other : ℕ) (both : View) → F both → F spent
      → ((j : ℕ) (u : View) → get_elem? vs j ≡ maybe.some u → j ≢ id → j ≢ other → F u)
      → All F (slice_set (slice_set vs id both) other spent)
  from_old F vs id other both fb fs old = all_set F (slice_set vs id both) other spent fs
      (λ j u is ne. elim (at_set vs id j both u is) [ inl a ↦ subst F a.1 fb | inr a ↦ old j u a.1 a.0 ne ])

  joined_apart : (vs : List View) (id other : ℕ) (v w : View) → get_elem? vs id ≡ maybe.some v
      → get_elem? vs other ≡ maybe.some w
      → v.low < v.high → w.low < w.high → Border v w → Apart vs → Apart (slice_set (slice_set vs id (joined v w)) other spent)
  joined_apart vs id other v w atv atw sv sw border apart j k u x n isj isk hu hx =
      let both = joined v w in
      let vs1 = slice_set vs id both in
      let far : (i : ℕ) (y : View) → get_elem? vs i ≡ maybe.some y → i ≢ id → i ≢ other → Has y n → Has both n → ⊥ =
      λ i y is ni no hy hb. elim (in_one v w sv sw border n hb)
      [ inl a ↦ ni (apart i id y v n is atv hy a) | inr a ↦ no (apart i other y w n is atw hy a) ] in
      let no_spent : (y : View) → spent ≡ y → Has y n → ⊥ = λ y e h. let z : Has spent n =
      subst (λ (t : View). Has t n) (sym e) h in omega (arith, z.1) in
      elim (at_set vs1 other j spent u isj) [
        | inl a ↦ absurd (no_spent u a.1 hu)
        | inr a ↦ elim (at_set vs1 other k spent x isk) [
          | inl b ↦ absurd (no_spent x b.1 hx)
          | inr b ↦ elim (at_set vs id j both u a.1) [
            | inl c ↦ elim (at_set vs id k both x b.1)
                [ inl d ↦ c.0 ∙ sym d.0 | inr d ↦ absurd (far k x d.1 d.0 b.0 hx (subst (λ (y : View). Has y n) (sym c.1) hu)) ]
            | inr c ↦ elim (at_set vs id k both x b.1) [
              | inl d ↦ absurd (far j u c.1 c.0 a.0 hu (subst (λ (y : View). Has y n) (sym d.1) hx))
              | inr d ↦ apart j k u x n
                  c.1 d.1 hu hx
            ]
          ]
        ]
      ]

  pub whole_joins : (id : ℕ) (v : View) (other : ℕ) (w : View) → v.holds ≡ false → w.holds ≡ false → v.low < v.high
      → w.low < w.high → Border v w → Joins Rule id v other w (joined v w) spent
  whole_joins id v other w fv fw sv sw border s holds atv two at1 =
      let both = joined v w in
      let atw : get_elem? s.views other ≡ maybe.some w = elim (at_set s.views id other both w at1)
      [ inl a ↦ absurd (two a.0) | inr a ↦ a.1 ] in
      let know : (now : List JEntry) → All (Knows origin now) s.views
      → All (Knows origin now) (slice_set (slice_set s.views id both) other spent) =
      λ now old. from_old (Knows origin now) s.views id other both
      (joined_knows v w now sv sw border (old id v atv) (old other w atw)) (spent_knows now) (λ j u is _ _. old j u is) in
      elim holds [
        | inl h ↦ inl (record {
          word = h.word;
          value = h.value;
          home = h.home;
          origin_is = h.origin_is;
          idle = from_old (λ u. u.holds ≡ false) s.views id other both refl refl (λ j u is _ _. h.idle j u is);
          know = know (journal h.value) h.know;
          apart = joined_apart s.views id other v w atv atw sv sw border h.apart;
        })
        | inr h ↦
            let none : (i : ℕ) (y : View) → get_elem? s.views i ≡ maybe.some y → y.holds ≡ false → h.holder ≢ i =
            λ i y at free e. let same =
            one_view s.views i h.view y (subst (λ j. get_elem? s.views j ≡ maybe.some h.view) e h.is) at in
            let x = h.holds in grind (arith, same, x, free) in
            inr (record {
              word = h.word;
              home = h.home;
              holder = h.holder;
              view = h.view;
              holds = h.holds;
              some = h.some;
              is = set_else (slice_set s.views id both) other h.holder spent (none other w atw fw) ∙
                  (set_else s.views id h.holder both (none id v atv fv) ∙ h.is);
              idle = λ i u is away. elim (at_set (slice_set s.views id both) other i spent u is) [
                | inl a ↦ subst (λ (x : View). x.holds ≡ false) a.1 refl
                | inr a ↦ elim (at_set s.views id i both u a.1)
                    [ inl b ↦ subst (λ (x : View). x.holds ≡ false) b.1 refl | inr b ↦ h.idle i u b.1 away ]
              ];
              know = know h.view.seen h.know;
              apart = joined_apart s.views id other v w atv atw sv sw border h.apart;
            })
      ]

  -- ---- look

  bears : (now : List JEntry) (v : View) (cs : List Claim) → ((n : ℕ) → Has v n → own n v.seen ≡ own n now) → AreTrue now v cs
      → Bears v cs
  bears now v [] mine t = tt
  bears now v (c ∷ cs) mine t = (t.0.saw, (λ n a b. t.0.mine n a b ∙ sym (mine n (t.0.within n a b))), bears now v cs mine t.1)

  quiet_knows : (v : View) (now : List JEntry) → Knows origin now v → Knows origin now (quiet v)
  quiet_knows v now k = record { from = k.from; saw = k.saw; mine = k.mine; ends = k.ends; claims = tt }

  pub look_allows : (id : ℕ) (v : View) → v.holds ≡ false → Allows Rule 1 id (v, []) 0 (λ n. n) (λ n. Looks (v, []))
  look_allows id v free s (inl h) len at small =
      let k = h.know id v at in (
        quiet v,
        keeps,
        tt,
        inl (record {
          word = rw h.word refl;
          value = h.value;
          home = h.home;
          origin_is = h.origin_is;
          idle = all_set (λ u. u.holds ≡ false) s.views id (quiet v) free (λ j u is ne. h.idle j u is);
          know = all_set (Knows origin (journal h.value)) s.views id (quiet v) (quiet_knows v (journal h.value) k)
              (λ j u is ne. h.know j u is);
          apart = apart_within s.views id v (quiet v) at (λ n hn. hn) h.apart;
        }),
        (refl, bears (journal h.value) v v.claims k.mine k.claims),
      )
  look_allows id v free s (inr h) len at small =
      let k = h.know id v at in
      let ne : h.holder ≢ id = λ e. let same = one_view s.views id h.view v
      (subst (λ i. get_elem? s.views i ≡ maybe.some h.view) e h.is) at in let x = h.holds in grind (arith, same, x, free) in (
        quiet v,
        keeps,
        tt,
        inr (record {
          word = rw h.word refl;
          home = h.home;
          holder = h.holder;
          view = h.view;
          holds = h.holds;
          some = h.some;
          is = set_else s.views id h.holder (quiet v) ne ∙ h.is;
          idle = λ i u is away. elim (at_set s.views id i (quiet v) u is)
              [ inl b ↦ subst (λ (x : View). x.holds ≡ false) b.1 free | inr b ↦ h.idle i u b.1 away ];
          know = all_set (Knows origin h.view.seen) s.views id (quiet v) (quiet_knows v h.view.seen k)
              (λ j u is ne. h.know j u is);
          apart = apart_within s.views id v (quiet v) at (λ n hn. hn) h.apart;
        }),
        (refl, bears h.view.seen v v.claims k.mine k.claims),
      )

  pub look_allows_at : (slots id : ℕ) (v : View) (m : Me (Option S) View) → slots ≡ 1 → m ≡ (v, []) → v.holds ≡ false
      → Allows Rule slots id m 0 (λ n. n) (λ n. Looks m)
  look_allows_at slots id v m one me free =
      subst (λ (k : ℕ). Allows Rule k id m 0 (λ n. n) (λ n. Looks m)) (sym one)
      (subst (λ (k : Me (Option S) View). Allows Rule 1 id k 0 (λ n. n) (λ n. Looks k)) (sym me) (look_allows id v free))

  -- ---- close

  pub record Ends (v : View) (x : Option S) : Type 0 where
    pub value : S
    pub is : x ≡ Some value
    pub found : Found journal origin_of v value

  pub closes : (id : ℕ) (v : View) (ws : List ℕ) (xs : List (Option S)) (x : Option S) → v.holds ≡ false → v.low ≡ 0
      → v.high ≡ 4294967296 → Final (Seen Rule id v) ws xs → get_elem? xs 0 ≡ maybe.some x → Ends v x
  closes id v ws xs x free low high f at =
      let s = f.0 in
      let seat : get_elem? s.views id ≡ maybe.some v = f.1.1 in
      elim f.1.0 [
        | inl h ↦
            let k = h.know id v seat in
            let home : get_elem? s.homes 0 ≡ maybe.some (maybe.some (Some h.value)) = ap (λ hs. get_elem? hs 0) h.home in
            record {
              value = h.value;
              is = some-injective x (Some h.value) (sym at ∙ f.4 0 (Some h.value) home);
              found = record { origin = h.origin_is ∙ sym (k.from (omega (arith, low, high))); grew = k.saw; mine = k.mine };
            }
        | inr h ↦ absurd (
            let e = (h.know h.holder h.view h.is).ends in
            let some = h.some in
            let same = h.apart h.holder id h.view v h.view.low h.is seat (omega arith, some)
            (omega (arith, low), omega (arith, some, e, high)) in
            let is = one_view s.views id h.view v (subst (λ j. get_elem? s.views j ≡ maybe.some h.view) same h.is) seat in
            let y = h.holds in grind (arith, is, y, free))
      ]

pub looked : {S : Type 0} (v w : View) (x : Me (Option S) View) → Looks (joined v w, []) x → TookIn v w x.0 × (x.1 ≡ [])
looked v w x t = rw t.0 (
  record {
    low = refl;
    high = refl;
    rests = refl;
    claims = refl;
    origin = refl;
    saw_first = t.1.0;
    saw_second = t.1.2.0;
    first = λ n h. t.1.1 n h.0 h.1;
    second = λ n h. t.1.2.1 n h.0 h.1;
  },
  refl,
)
