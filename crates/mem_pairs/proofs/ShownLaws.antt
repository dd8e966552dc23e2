-- What calls tell of the one state that pairs in memory show.
use Rattle.std.proofs.Common.{◌≡◌, ℕ, inl, List, Option, Some, None, refl, sym, ◌∙◌, ap, subst, arith}
use Rattle.pair_types.specs.declared.fault.PairFault.{PairFault}
use Rattle.pair_types.specs.declared.fault.PairFault.TheVariants.{Page}
use Rattle.pair_types.specs.declared.quad.Quad.{Quad}
use Rattle.pair_types.specs.declared.slot.Slot.{Slot}
use Rattle.pair_types.specs.PageState.{no_memory}
use Rattle.pairs.specs.declared.at.At.TheVariants.{Live}
use Rattle.pairs.specs.Lives.{Life, seen, put_life, del_life, purge_life, lives_of}
use Rattle.pairs.specs.Versions.{Versions, HasLives, CanPut, epoch, epoch_in, epoch_key, with_lives, with_put}
use Rattle.pairs.specs.Versions.{with_del, with_purge, with_block}
use Rattle.pairs.specs.Told.{Goes, Tells, Moves, GivesUp, PutGivesUp}
use Rattle.pairs.specs.Found.{Purges as PurgesTold}
use Rattle.mem_pairs.specs.declared.mem_blocks.MemBlocks.{MemBlocks}
use Rattle.mem_pairs.specs.declared.mem_pairs.MemPairs.{MemPairs}
use Rattle.mem_pairs.specs.Blocks.{blocks_of, Holds}
use Rattle.mem_pairs.specs.Purging.{Purges, Takes, Keeps}
use Rattle.mem_pairs.specs.Scans.{Tell, Edits}
use Rattle.mem_pairs.specs.Shown.{versions_of, told_of}

pub goes : (old new : MemPairs) (most : ℕ) → Goes told_of old new most
goes old new most = record {
  agreed = λ w agrees. tt;
  faults = λ fault. omega arith;
  puts = omega arith;
  few = omega arith;
  clean = λ clean. tt;
}

-- want of memory
pub gives_up : (old new : MemPairs) (Given : Versions → Type 0) (fault : PairFault) → fault ≡ Page no_memory
    → GivesUp told_of old new Given fault
gives_up old new Given fault is = subst (GivesUp told_of old new Given) (sym is) (inl refl)

pub put_gives_up : (old new : MemPairs) (Given : Versions → Type 0) (fault : PairFault) → fault ≡ Page no_memory
    → PutGivesUp told_of old new Given fault
put_gives_up old new Given fault is = subst (PutGivesUp told_of old new Given) (sym is) (inl refl)

-- ---- calls that read

-- what is so of the lives of all records
pub tells : (pairs : MemPairs) (IsSo : Versions → Type 0) → Tell pairs.rows.items IsSo → Tells told_of pairs pairs IsSo
tells pairs IsSo tell = record {
  shows = λ w v agrees shows. shows;
  finds = λ w v agrees shows has. tell v (ap (λ (u : Versions). u.lives) shows);
}

-- what is so of the lives of one key
pub tells_key : {X : Type 0} (pairs : MemPairs) (look : List Life → X) (key : List ℕ) (found : X)
    → look (lives_of pairs.rows.items key) ≡ found
    → Tells told_of pairs pairs (λ v. look (v.lives key) ≡ found)
tells_key pairs look key found is =
    tells pairs (λ v. look (v.lives key) ≡ found) (λ v lives. ap (λ (l : List ℕ → List Life). look (l key)) lives ∙ is)

-- ---- edits of lives

-- an edit of the lives of one key
edited : (old new : MemPairs) (key : List ℕ) (ls : List Life) → new.blocks ≡ old.blocks
    → lives_of new.rows.items ≡ with_lives key ls (lives_of old.rows.items)
    → record (versions_of old) { lives = with_lives key ls (lives_of old.rows.items) } ≡ versions_of new
edited old new key ls blocks lives =
    ap (λ (l : List ℕ → List Life). let v : Versions = record (versions_of old) { lives = l } in v) (sym lives)
    ∙ ap (λ (b : MemBlocks). let v : Versions = record
    { stores = b.stores; lives = lives_of new.rows.items; blocks = blocks_of b } in v) (sym blocks)

pub moves_put : (old new : MemPairs) (n : ℕ) (key value : List ℕ) → new.blocks ≡ old.blocks
    → epoch_in (seen Live (lives_of old.rows.items epoch_key)) ≡ n
    → Edits key (put_life n value) old.rows.items new.rows.items
    → Moves told_of old new (CanPut key value) (with_put key value)
unfolding with_put epoch
moves_put old new n key value blocks is edits = λ w v agrees shows given. ap (with_put key value) shows ∙ step
  where
    lives : lives_of new.rows.items
        ≡ with_lives key (put_life (epoch (versions_of old)) value (lives_of old.rows.items key))
        (lives_of old.rows.items)
    lives =
        edits ∙ ap (λ (m : ℕ). with_lives key (put_life m value (lives_of old.rows.items key))
        (lives_of old.rows.items)) (sym is)

    step : with_put key value (versions_of old) ≡ versions_of new
    step = edited old new key (put_life (epoch (versions_of old)) value (lives_of old.rows.items key)) blocks lives

pub moves_del : (old new : MemPairs) (n : ℕ) (key : List ℕ) → new.blocks ≡ old.blocks
    → epoch_in (seen Live (lives_of old.rows.items epoch_key)) ≡ n
    → Edits key (del_life n) old.rows.items new.rows.items → Moves told_of old new HasLives (with_del key)
unfolding with_del epoch
moves_del old new n key blocks is edits = λ w v agrees shows given. ap (with_del key) shows ∙ step
  where
    lives : lives_of new.rows.items ≡ with_lives key
        (del_life (epoch (versions_of old)) (lives_of old.rows.items key)) (lives_of old.rows.items)
    lives =
        edits ∙ ap (λ (m : ℕ). with_lives key (del_life m (lives_of old.rows.items key)) (lives_of old.rows.items))
        (sym is)

    step : with_del key (versions_of old) ≡ versions_of new
    step = edited old new key (del_life (epoch (versions_of old)) (lives_of old.rows.items key)) blocks lives

moves_purge : (old new : MemPairs) (kept key : List ℕ) → new.blocks ≡ old.blocks
    → Edits key (purge_life kept) old.rows.items new.rows.items → Moves told_of old new HasLives (with_purge kept key)
unfolding with_purge
moves_purge old new kept key blocks edits = λ w v agrees shows given. ap (with_purge kept key) shows ∙ step
  where
    step : with_purge kept key (versions_of old) ≡ versions_of new
    step = edited old new key (purge_life kept (lives_of old.rows.items key)) blocks edits

-- ---- purges

same_pairs : (old new : MemPairs) → new.blocks ≡ old.blocks → new.rows.items ≡ old.rows.items
    → versions_of old ≡ versions_of new
same_pairs old new blocks rows =
    ap (λ (qs : List Quad). let v : Versions = record (versions_of old) { lives = lives_of qs } in v) (sym rows)
    ∙ ap (λ (b : MemBlocks). let v : Versions = record
    { stores = b.stores; lives = lives_of new.rows.items; blocks = blocks_of b } in v) (sym blocks)

pub took : (old new : MemPairs) (kept from : List ℕ) (q : Quad) → new.blocks ≡ old.blocks
    → Takes kept from q old.rows.items new.rows.items
    → PurgesTold told_of old new kept from (Some q)
took old new kept from q blocks takes = record {
  moves = moves_purge old new kept q.key blocks takes.edits;
  finds = λ w v agrees shows has. takes.spent v (ap (λ (u : Versions). u.lives) shows);
}

kept_all : (old new : MemPairs) (kept from : List ℕ) → new.blocks ≡ old.blocks
    → Keeps kept from old.rows.items new.rows.items
    → PurgesTold told_of old new kept from None
kept_all old new kept from blocks keeps = record {
  shows = λ w v agrees shows. shows ∙ same_pairs old new blocks keeps.same;
  finds = λ w v agrees shows has. keeps.none v (ap (λ (u : Versions). u.lives) shows);
}

pub purges : (old new : MemPairs) (kept from : List ℕ) (found : Option Quad) → new.blocks ≡ old.blocks
    → Purges kept from found old.rows.items new.rows.items → PurgesTold told_of old new kept from found
purges old new kept from None blocks so = kept_all old new kept from blocks so
purges old new kept from (Some q) blocks so = took old new kept from q blocks so

-- ---- blocks

pub moves_block : (old new : MemPairs) (s : Slot) (block : Option (List ℕ)) (Given : Versions → Type 0)
    → new.rows.items ≡ old.rows.items
    → Holds s block old.blocks new.blocks → Moves told_of old new Given (with_block s block)
unfolding with_block
moves_block old new s block Given rows holds = λ w v agrees shows given. ap (with_block s block) shows ∙ step
  where
    step : with_block s block (versions_of old) ≡ versions_of new
    step =
        ap (λ (b : Slot → Option (List ℕ)). let v : Versions = record (versions_of old) { blocks = b } in v)
        (sym holds.blocks)
        ∙ (ap (λ (n : ℕ). let v : Versions = record
        { stores = n; lives = lives_of old.rows.items; blocks = blocks_of new.blocks } in v) (sym holds.stores)
        ∙ ap (λ (qs : List Quad). let v : Versions = record
        { stores = new.blocks.stores; lives = lives_of qs; blocks = blocks_of new.blocks } in v)
        (sym rows))
