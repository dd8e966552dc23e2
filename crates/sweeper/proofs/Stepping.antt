-- A step of a walk, as calls one after another.
use Rattle.std.proofs.Common.{◌≡◌, inl, inr, ℕ, ◌≤◌, Bool, true, false, List, [], Option, Some, None, refl, sym, ◌∙◌}
use Rattle.std.proofs.Common.{subst, arith}
use Rattle.std.specs.Prelude.{⊤}
use Rattle.nfs3_types.specs.Count.{Rose}
use Rattle.pair_types.specs.declared.fault.PairFault.{PairFault}
use Rattle.pair_types.specs.declared.fault.PairFault.TheVariants.{Odd, HeightFull, Page}
use Rattle.pair_types.specs.declared.quad.Quad.{Quad}
use Rattle.xdr_grammar.specs.Laws.{AreBytes}
use Rattle.pairs.specs.declared.at.Purged.{Purged}
use Rattle.pairs.specs.Found.{IsBefore, AllKept, StopsAt, Takes, PurgesSome}
use Rattle.pairs.specs.Lives.{life_of}
use Rattle.pairs.specs.Told.{PairsTold, Goes, Tells, Moves, GivesUp}
use Rattle.pairs.specs.Versions.{Versions, HasLives, with_del, with_purge}
use Rattle.fs_rules.specs.Tree.{Tree}
use Rattle.fs_keys.specs.declared.key_parts.KeyParts.TheVariants.{Extent, Stale}
use Rattle.fs_keys.specs.Keys.{key_of}
use Rattle.fs_shows.specs.Extents.{IsPlace}
use Rattle.fs_shows.specs.Shows.{Shows}
use Rattle.fs_shows.specs.Steps.{GivesUpOn}
use Rattle.extent_ops.specs.Steps.{Makes}
use Rattle.sweeper.specs.declared.place.SweepPlace.{SweepPlace}
use Rattle.sweeper.specs.declared.place.SweepPlace.TheVariants.{Files, Extents, Dead}
use Rattle.sweeper.specs.declared.place.Walk.{Walk}
use Rattle.sweeper.specs.Dropping.{slot_named, without, NamesThere, without_named}
use Rattle.sweeper.specs.Ending.{EndsOr, unmarked}
use Rattle.sweeper.specs.Keeping.{LiesSo}
use Rattle.sweeper.specs.Knowing.{KnowsNext, Knows, Walks}
use Rattle.sweeper.specs.Rows.{extent_front, mark_front, HasNumbers, NextIn}
use Rattle.sweeper.proofs.Clearing.{extent-ended, mark-ended, stale-same}
use Rattle.sweeper.proofs.Nexts.{mark-numbers, extent-numbers}
use Rattle.sweeper.proofs.Ordered.{all-after, none-before}
use Rattle.sweeper.proofs.Purging.{names-there, named-is, purged-shows, row-same, other-lives}
use Rattle.sweeper.proofs.Walking.{marks-before, marks-none, clear-counts, clear-ended, clear-all, marks-to, spent-to}
use Rattle.sweeper.proofs.Walking.{spent-all, spent-same}

false-true : false ≡ true → ⊥
false-true e = cc

rises_behind : (a b c : ℕ) → a ≤ b → Rose b c → Rose a c
rises_behind a b c first then = omega (arith, first, then)

module _ {S W : Type 0} (told : PairsTold S W) where
  -- ---- the files that are marked

  pub files-found : (old new : S) (after : Option ℕ) (n : ℕ) (value : List ℕ)
      → Tells told old new (λ v. HasNumbers mark_front v → NextIn mark_front after (Some (n, value)) v) → (kept : List ℕ)
      → (whole : Bool)
      → Walks told old new kept (record { place = Files after; whole = whole })
      (Some (record { place = Extents n None; whole = true }))
  files-found old new after n value tells kept whole = λ trusted w t agrees lies.
      let next = tells.finds w lies.versions agrees lies.shown lies.shows.lives (mark-numbers lies.versions t lies.shows) in
      record {
        versions = lies.versions;
        shown = tells.shows w lies.versions agrees lies.shown;
        shows = lies.shows;
        is = (
          lies.is.0,
          (
            next.fits,
            λ e index x place early at. absurd (early (all-after (extent_front n) index)),
            λ trust. (refl, marks-before after n value lies.versions next (lies.is.1 trust)),
          ),
        );
      }

  pub files-none : (old new : S) (after : Option ℕ) (start : List ℕ) → start ≡ []
      → Tells told old new (λ v. HasNumbers mark_front v → NextIn mark_front after None v) → (kept : List ℕ) (whole : Bool)
      → Walks told old new kept (record { place = Files after; whole = whole })
      (Some (record { place = Dead start; whole = true }))
  files-none old new after start is tells kept whole = λ trusted w t agrees lies.
      let next = tells.finds w lies.versions agrees lies.shown lies.shows.lives (mark-numbers lies.versions t lies.shows) in
      record {
        versions = lies.versions;
        shown = tells.shows w lies.versions agrees lies.shown;
        shows = lies.shows;
        is = (
          lies.is.0,
          λ trust. (
            marks-none after lies.versions next (lies.is.1 trust),
            λ k from before. absurd (none-before k (subst (λ (to : List ℕ). IsBefore k to) is before)),
          ),
        );
      }

  -- ---- the extents of a file

  pub extents-found : (old mid new : S) (n : ℕ) (file : ℕ) (after : Option ℕ) (index : ℕ) (value : List ℕ) (ended : Bool)
      → Goes told mid new n
      → Tells told old mid (λ v. HasNumbers (extent_front file) v → NextIn (extent_front file) after (Some (index, value)) v)
      → Makes told mid new HasLives (EndsOr file index value ended) → (kept : List ℕ) (whole : Bool)
      → Walks told old new kept (record { place = Extents file after; whole = whole })
      (Some (record { place = Extents file (Some index); whole = whole }))
  extents-found old mid new n file after index value ended goes tells makes kept whole = λ trusted w t agrees lies.
      let v = lies.versions in
      let a = goes.agreed w agrees in
      let next = tells.finds w v a lies.shown lies.shows.lives (extent-numbers v t file lies.shows) in
      let made = makes w v agrees (tells.shows w v a lies.shown) lies.shows.lives in
      by_end trusted w t v lies.shows lies.is next ended made.versions made.shown made.is
    where
      by_end : (trusted : Bool) (w : W) (t : Tree) (v : Versions) → Shows v t
          → Knows trusted kept (Some (record { place = Extents file after; whole = whole })) v t
          → NextIn (extent_front file) after (Some (index, value)) v → (ended : Bool) (z : Versions) → told.shows new w z
          → EndsOr file index value ended v z
          → LiesSo told (Knows trusted kept (Some (record { place = Extents file (Some index); whole = whole }))) new w t
      by_end trusted w t v shows knows next true z shown ends =
          let place : IsPlace file index = record { file_fits = knows.1.0; index_fits = next.fits } in
          record {
            versions = with_del (key_of (Extent file index)) v;
            shown = subst (λ (y : Versions). told.shows new w y) ends.0 shown;
            shows = extent-ended v t file index value place shows next.has ends.1;
            is = (
              knows.0,
              (
                knows.1.0,
                λ all. clear-ended v t file after index value place shows next ends.1 (knows.1.1 all),
                λ trust. (
                  (knows.1.2 trust).0,
                  λ f fits before.
                      stale-same v t file index value place shows next.has ends.1 f fits ∙ (knows.1.2 trust).1 f fits before,
                ),
              ),
            );
          }
      by_end trusted w t v shows knows next false z shown ends = record {
        versions = v;
        shown = subst (λ (y : Versions). told.shows new w y) ends.0 shown;
        shows = shows;
        is = (knows.0, (knows.1.0, λ all. clear-counts file after index value v next ends.1 (knows.1.1 all), knows.1.2));
      }

  pub extents-none : (old mid new : S) (n : ℕ) (file : ℕ) (after : Option ℕ) (whole : Bool) → Goes told mid new n
      → Tells told old mid (λ v. HasNumbers (extent_front file) v → NextIn (extent_front file) after None v)
      → Moves told mid new HasLives (unmarked whole file) → (kept : List ℕ)
      → Walks told old new kept (record { place = Extents file after; whole = whole })
      (Some (record { place = Files (Some file); whole = whole }))
  extents-none old mid new n file after whole goes tells moves kept = λ trusted w t agrees lies.
      let v = lies.versions in
      let a = goes.agreed w agrees in
      let next = tells.finds w v a lies.shown lies.shows.lives (extent-numbers v t file lies.shows) in
      by_whole trusted w t v lies.shows whole lies.is next (moves w v agrees (tells.shows w v a lies.shown) lies.shows.lives)
    where
      by_whole : (trusted : Bool) (w : W) (t : Tree) (v : Versions) → Shows v t → (whole : Bool)
          → Knows trusted kept (Some (record { place = Extents file after; whole = whole })) v t
          → NextIn (extent_front file) after None v → told.shows new w (unmarked whole file v)
          → LiesSo told (Knows trusted kept (Some (record { place = Files (Some file); whole = whole }))) new w t
      by_whole trusted w t v shows true knows next shown =
          let count = clear-all file after v next (knows.1.1 refl) in
          record {
            versions = with_del (key_of (Stale file)) v;
            shown = shown;
            shows = mark-ended v t file knows.1.0 shows count;
            is = (knows.0, λ trust. marks-to v t file knows.1.0 shows count (knows.1.2 trust).1);
          }
      by_whole trusted w t v shows false knows next shown = record {
        versions = v;
        shown = shown;
        shows = shows;
        is = (knows.0, λ trust. absurd (false-true (knows.1.2 trust).0));
      }

  -- ---- dead records

  pub dead-stopped : (old new : S) (kept from key : List ℕ) → Tells told old new (StopsAt kept from key) → (whole : Bool)
      → Walks told old new kept (record { place = Dead from; whole = whole }) (Some (record { place = Dead key; whole = true }))
  dead-stopped old new kept from key tells whole = λ trusted w t agrees lies.
      let stops = tells.finds w lies.versions agrees lies.shown lies.shows.lives in
      record {
        versions = lies.versions;
        shown = tells.shows w lies.versions agrees lies.shown;
        shows = lies.shows;
        is = (
          lies.is.0,
          λ trust. ((lies.is.1 trust).0, spent-to kept from key lies.versions (lies.is.1 trust).1 stops.none),
        );
      }

  pub dead-ended : (old new : S) (kept from : List ℕ) → Tells told old new (AllKept kept from) → (whole : Bool)
      → Walks told old new kept (record { place = Dead from; whole = whole }) None
  dead-ended old new kept from tells whole = λ trusted w t agrees lies.
      let all = tells.finds w lies.versions agrees lies.shown lies.shows.lives in
      record {
        versions = lies.versions;
        shown = tells.shows w lies.versions agrees lies.shown;
        shows = lies.shows;
        is = (
          lies.is.0,
          λ trust. ((lies.is.1 trust).0, spent-all kept from lies.versions (lies.is.1 trust).1 all),
        );
      }

  pub dead-took : (old mid new : S) (n : ℕ) (kept from : List ℕ) (q : Quad) → Goes told mid new n → Takes told old mid kept from q
      → AreBytes q.key → Moves told mid new (NamesThere q.key q.value) (without_named q.key q.value) → (whole : Bool)
      → Walks told old new kept (record { place = Dead from; whole = whole }) (Some (record { place = Dead q.key; whole = true }))
  dead-took old mid new n kept from q goes takes bytes moves whole = λ trusted w t agrees lies.
      let v = lies.versions in
      let a = goes.agreed w agrees in
      let gone = takes.finds w v a lies.shown lies.shows.lives in
      let there = names-there v t kept q.key (life_of q) lies.shows bytes gone.life in
      let shown = moves w (with_purge kept q.key v) agrees (takes.moves w v a lies.shown lies.shows.lives) there in
      record {
        versions = without_named q.key q.value (with_purge kept q.key v);
        shown = shown;
        shows = subst (λ (z : Versions). Shows z t) (sym (named-is v t kept q.key (life_of q) lies.shows bytes gone.life))
            (purged-shows v t kept q.key (life_of q) lies.shows bytes gone.life lies.is.0);
        is = (
          lies.is.0,
          λ trust.
              subst (λ (z : Versions). (KnowsNext true kept (Some (record { place = Dead q.key; whole = true })) z))
              (sym (named-is v t kept q.key (life_of q) lies.shows bytes gone.life))
              (λ e. (
                λ file fits.
                    row-same v t kept q.key (life_of q) lies.shows bytes gone.life (Stale file) ∙ (lies.is.1 trust).0 file fits,
                spent-same kept q.key v (without (slot_named v.stores q.key q.value) (with_purge kept q.key v))
                    (other-lives v t kept q.key (life_of q) lies.shows bytes gone.life)
                    (spent-to kept from q.key v (lies.is.1 trust).1 gone.first),
              )) refl,
        );
      }

  -- the drop of a block gives up behind the purge
  pub dead-up : (old mid new : S) (m n : ℕ) (kept from : List ℕ) (q : Quad) (fault : PairFault) → Goes told old mid m
      → Goes told mid new n → Takes told old mid kept from q → AreBytes q.key
      → GivesUp told mid new (NamesThere q.key q.value) fault → GivesUpOn told old new (λ t. ⊤) fault
  dead-up old mid new m n kept from q Odd before goes takes bytes up = λ w t agrees lies is.
      let v = lies.versions in
      let a = goes.agreed w agrees in
      let gone = takes.finds w v a lies.shown lies.shows.lives in
      up w (with_purge kept q.key v) agrees (takes.moves w v a lies.shown lies.shows.lives)
      (names-there v t kept q.key (life_of q) lies.shows bytes gone.life)
  dead-up old mid new m n kept from q HeightFull before goes takes bytes up = up
  dead-up old mid new m n kept from q (Page fault) before goes takes bytes (inl lacks) = inl lacks
  dead-up old mid new m n kept from q (Page fault) before goes takes bytes (inr rose) =
      inr (rises_behind (told.faults old fault) (told.faults mid fault) (told.faults new fault) (before.faults fault) rose)

  -- ---- any place

  pub walks-at : (old new : S) (kept : List ℕ) (walk : Walk) (place : SweepPlace) (next : Option Walk) → walk.place ≡ place
      → Walks told old new kept (record { place = place; whole = walk.whole }) next → Walks told old new kept walk next
  walks-at old new kept walk place next is walks =
      subst (λ (p : SweepPlace). Walks told old new kept (record { place = p; whole = walk.whole }) next) (sym is) walks

  -- what a purge did, of keys and kinds by their names
  pub purges-as : (old new : S) (kept slice from : List ℕ) (p q : Purged) → slice ≡ from → p ≡ q
      → PurgesSome told old new kept slice p → PurgesSome told old new kept from q
  purges-as old new kept slice from p q key is purges =
      subst (λ (r : Purged). PurgesSome told old new kept from r) is
      (subst (λ (f : List ℕ). PurgesSome told old new kept f p) key purges)
