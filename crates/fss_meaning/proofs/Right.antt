-- A transaction over the pages of a tree of records: what the tree tells of the file trees below makes it right.
use Rattle.std.proofs.Common.{◌≡◌, ◌≢◌, ◌⊎◌, inl, inr, ℕ, ◌+◌, ◌<◌, ◌≤◌, Bool, true, false, if◌then◌else◌, List, [], ◌∷◌}
use Rattle.std.proofs.Common.{Option}
use Rattle.std.proofs.Common.{Some, None, refl, sym, ◌∙◌, ap, subst, arith}
use Rattle.std.specs.Prelude.{⊤, Result, Ok, Err, IsOk, unwrap_or}
use Rattle.nfs3_types.specs.Calls.{procedure_of}
use Rattle.nfs3_types.specs.declared.entry.Entry.{Entry}
use Rattle.nfs3_types.specs.declared.reply.Reply.{Reply}
use Rattle.nfs3_types.specs.declared.status.Status.TheVariants.{Ok as StatusOk}
use Rattle.pair_types.specs.declared.fault.PairFault.TheVariants.{HeightFull}
use Rattle.pair_types.specs.declared.slot.Slot.{Slot}
use Rattle.pair_types.specs.PageMaps.{PageMap, ReadMap, Agrees, over, page_of}
use Rattle.pair_types.specs.PageState.{PageState}
use Rattle.page_types.specs.Fair.{IsRight}
use Rattle.btree_page.specs.Content.{Content, Spells, spelling}
use Rattle.btree_page.specs.Tree.{root, IsFormed}
use Rattle.pairs.specs.Versions.{Versions}
use Rattle.pairs.specs.Told.{PairsTold, Goes}
use Rattle.birth_death.specs.Roots.{IsHigh}
use Rattle.birth_death.specs.Shows.{Seat, Shows, IsOutside, IsClean, told_by}
use Rattle.fs_rules.specs.Answers.{Asked, answer, after, is_changing, reply_by, row}
use Rattle.fs_rules.specs.Checks.{Row}
use Rattle.fs_rules.specs.Sound.{IsSound}
use Rattle.fs_rules.specs.Tree.{Tree}
use Rattle.fs_shows.specs.Steps.{Lies, Edits}
use Rattle.nfs3_procs.specs.Answering.{Answers, most_puts}
use Rattle.nfs3_procs.specs.declared.fault.BodyFault.TheVariants.{Pair}
use Rattle.fss_meaning.specs.Meaning.{PagesStand, GoesOn, IsHighest, asked_in, no_space, nothing_written, untouched}
use Rattle.fss_meaning.specs.Runs.{Runs, IsEntryOf}

-- ---- what pages show

-- a transaction that has written nothing shows what the pages show that lie below
shows-begun : (state : PageState) (stores : ℕ) (under : PageMap) (v : Versions) → stores ≡ state.stores
    → state.writes ≡ nothing_written → Shows (untouched stores) under v → Shows state under v
shows-begun state stores under v same none s = record {
  stores = s.stores ∙ same;
  quads = s.quads;
  slots = s.slots;
  formed = subst (λ (n : ℕ). IsFormed n (over state.writes under) s.quads s.slots) same
      (subst (λ (w : PageMap). IsFormed stores (over w under) s.quads s.slots) (sym none) s.formed);
  lives = s.lives;
  blocks = λ slot block at.
      subst (λ (w : PageMap). IsOutside (over w under) s.slots slot block) (sym none) (s.blocks slot block at);
}

-- and what a transaction shows, the pages show with its writes over them
shows-written : (state : PageState) (under : PageMap) (v : Versions) → Shows state under v
    → Shows (untouched state.stores) (over state.writes under) v
shows-written state under v s = record {
  stores = s.stores;
  quads = s.quads;
  slots = s.slots;
  formed = s.formed;
  lives = s.lives;
  blocks = s.blocks;
}

-- ---- over a tree of records

module _ {S : Type 0} (seat : S → Seat) (old new : S) (runs : Runs (seat old) (seat new)) where
  abbrev told : PairsTold S PageMap
  told = told_by seat

  abbrev stores : ℕ
  stores = (seat new).state.stores

  lies-before : (under : PageMap) (t : Tree) → PagesStand stores under t → Lies told old under t
  lies-before under t p = record {
    versions = p.versions;
    shown = shows-begun (seat old).state stores under p.versions runs.stores runs.writes p.shown;
    shows = p.stands.shows;
  }

  stands-after : (under : PageMap) (t : Tree) → Lies told new under t → IsSound t
      → PagesStand stores (over (seat new).state.writes under) t
  stands-after under t l sound = record {
    versions = l.versions;
    shown = shows-written (seat new).state under l.versions l.shown;
    stands = record { shows = l.shows; sound = sound };
  }

  -- ---- a reply

  pub replied-right : (asked : Asked) (reply : Reply) (e : Entry) → ((t : Tree) → IsSound t → IsSound (after t asked))
      → Answers told old new asked (Ok reply) → IsEntryOf asked reply e
      → IsRight (PagesStand stores) GoesOn (seat new).state.reads (seat new).state.writes (Some e)
  replied-right asked reply e keeps answers of = λ under t agrees p.
      let r = answers.ends under t agrees (lies-before under t p) p.stands.sound in (
        after t asked,
        inl (record {
          reply = of.told ∙ (r.is ∙ ap (answer t) (sym of.call));
          tree = ap (after t) (sym of.call);
        }),
        stands-after under (after t asked) r.lies (keeps t p.stands.sound),
      )

  -- ---- a sweep

  pub swept-right : Edits told old new (λ t. ⊤) (λ t. t)
      → IsRight (PagesStand stores) GoesOn (seat new).state.reads (seat new).state.writes None
  swept-right edits = λ under t agrees p.
      stands-after under t (edits under t agrees (lies-before under t p) tt) p.stands.sound

  -- ---- a tree of pages that is full

  clean : IsClean (seat old)
  clean = λ whole few. inl (ap (λ (w : PageMap). w root) runs.writes)

  puts-changing : (b : Bool) → 1 ≤ (if b then 9 else 0) → b ≡ true
  puts-changing true least = refl
  puts-changing false least = absurd (omega (arith, least))

  few-puts : (b : Bool) (n m : ℕ) → n ≡ 0 → m ≤ n + (if b then 9 else 0) → m ≤ 24
  few-puts true n m none few = omega (arith, none, few)
  few-puts false n m none few = omega (arith, none, few)

  spelled-root : (c : Content) (under : PageMap) → Agrees (seat new).state.reads under → (o : Option (Option (List ℕ)))
      → (seat new).state.reads root ≡ o → Spells c (page_of (unwrap_or o None)) → Spells c (page_of (under root))
  spelled-root c under agrees None is s = absurd (differs s.text)
    where
      differs : spelling c ≡ [] → ⊥
      differs same = cc
  spelled-root c under agrees (Some held) is s =
      subst (λ (x : Option (List ℕ)). Spells c (page_of x)) (sym (agrees.at root held is)) s

  status-ok : (procedure : ℕ) (r : Row) → IsOk r → (reply_by procedure r).status ≡ StatusOk
  status-ok procedure (Ok d) ok = refl
  status-ok procedure (Err s) ok = absurd (cc)

  pub full-right : (asked : Asked) (e : Entry) → Answers told old new asked (Err (Pair HeightFull))
      → IsEntryOf asked (no_space asked.call) e
      → IsRight (PagesStand stores) GoesOn (seat new).state.reads nothing_written (Some e)
  full-right asked e answers of = λ under t agrees p.
      let high = answers.ends.1 clean (few-puts (is_changing asked.call) (seat old).puts (seat new).puts runs.puts answers.goes.few)
      in
      let ok = answers.ends.2 under t agrees (lies-before under t p) p.stands.sound in (
        t,
        inr (record {
          changing = ap (λ (a : Asked). is_changing a.call) of.call ∙ puts-changing (is_changing asked.call) answers.ends.0;
          would = ap (λ (a : Asked). (answer t a).status) of.call ∙ status-ok (procedure_of asked.call) (row t asked) ok;
          high = record {
            content = high.content;
            spelled = spelled-root high.content under agrees ((seat new).state.reads root) refl high.was.spelled;
            highest = high.highest;
          };
          reply = of.told ∙ ap (λ (a : Asked). no_space a.call) (sym of.call);
          stays = refl;
        }),
        p,
      )
