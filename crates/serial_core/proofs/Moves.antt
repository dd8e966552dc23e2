-- How a command moves a page's version, and what a journal tells of the contents at versions.
use Rattle.std.proofs.Common.{◌≡◌, ℕ, ◌+◌, ◌≤◌, ◌==◌, Bool, true, false, cond, List, [], ◌∷◌, Option, Some, None, refl}
use Rattle.std.proofs.Common.{subst, arith}
use Rattle.pair_types.specs.declared.slot.Tid.{Tid}
use Rattle.page_types.specs.declared.hold.Hold.{Hold}
use Rattle.page_types.specs.declared.hold.WriteHold.{WriteHold}
use Rattle.page_types.specs.declared.outcome.Outcome.{Outcome}
use Rattle.page_types.specs.declared.command.Transaction.{Transaction}
use Rattle.page_types.specs.declared.command.Part.{Part}
use Rattle.page_types.specs.declared.command.Command.{Command}
use Rattle.page_types.specs.declared.command.Command.TheVariants.{Fresh, Read, Look, Write, Prepare, Decide, Resolve}
use Rattle.page_types.specs.declared.answer.Answer.{Answer}
use Rattle.page_types.specs.declared.journal.JEntry.{JEntry}
use Rattle.page_types.specs.declared.journal.JEntry.TheVariants.{Took, Doubted, Late}
use Rattle.page_types.specs.Accesses.{is_same, read_at, written_at}
use Rattle.page_types.specs.Journals.{Origin}
use Rattle.page_types.specs.Asked.{first_of}
use Rattle.page_types.specs.Stores.{Kept, StoreState}
use Rattle.page_types.specs.Obeys.{written, holding, hold_of, without, releasing, resolving, after_write, after_prepare}
use Rattle.page_types.specs.Obeys.{after_decide, after, write_refusal, prepare_refusal}
use Rattle.serial_rules.specs.Worlds.{World, first_world, applied, replay}
use Rattle.serial_rules.specs.Contents.{at_version, first_at, content_at}
use Rattle.serial_core.proofs.Basics.{eq_true, eq_self}

-- a page stays at its version, as it is, or its version rises by one
pub data Moves (k l : Kept) : Type 0 where
  Stays : l.version ≡ k.version → l.content ≡ k.content → l.by ≡ k.by → Moves k l
  Rises : l.version ≡ k.version + 1 → Moves k l

moves_written : (t : Tid) (w : Option (List ℕ)) (k : Kept) → Moves k (written t w k)
moves_written t None k = Stays refl refl refl
moves_written t (Some page) k = Rises refl

moves_write : (r : Option Answer) (s : StoreState) (x : Transaction) (n : ℕ) → Moves (s.slot n) ((after_write r s x).slot n)
moves_write (Some a) s x n = Stays refl refl refl
moves_write None s x n = moves_written x.tid (written_at x.writes n) (s.slot n)

moves_hold : (h : Hold) (w : Option (List ℕ)) (r : Option ℕ) (k : Kept) → Moves k (holding h w r k)
moves_hold h (Some page) r k = Stays refl refl refl
moves_hold h None (Some v) k = Stays refl refl refl
moves_hold h None None k = Stays refl refl refl

moves_prepare : (a : Option Answer) (s : StoreState) (part : Part) (n : ℕ) →
    Moves (s.slot n) ((after_prepare a s part).slot n)
moves_prepare (Some a) s part n = Stays refl refl refl
moves_prepare None s part n = moves_hold (hold_of part) (written_at part.writes n) (read_at part.reads n) (s.slot n)

moves_decide : (a : Option Outcome) (s : StoreState) (t : Tid) (o : Outcome) (n : ℕ) →
    Moves (s.slot n) ((after_decide a s t o).slot n)
moves_decide (Some a) s t o n = Stays refl refl refl
moves_decide None s t o n = Stays refl refl refl

moves_resolve : (t : Tid) (b : Bool) (w : Option WriteHold) (k : Kept) → Moves k (resolving t b w k)
moves_resolve t b None k = Stays refl refl refl
moves_resolve t b (Some g) k = at (is_same g.hold.tid t) b
  where
    at : (d b : Bool) → Moves k (cond d (releasing t b g.content k) (record k { readers = without t k.readers }))
    at true true = Rises refl
    at true false = Stays refl refl refl
    at false b = Stays refl refl refl

pub moves_after : (s : StoreState) (c : Command) (n : ℕ) → Moves (s.slot n) ((after s c).slot n)
moves_after s Fresh n = Stays refl refl refl
moves_after s (Read m) n = Stays refl refl refl
moves_after s (Look ms) n = Stays refl refl refl
moves_after s (Write x) n = moves_write (write_refusal s x) s x n
moves_after s (Prepare part) n = moves_prepare (prepare_refusal s part) s part n
moves_after s (Decide d) n = moves_decide (s.decided d.tid) s d.tid d.outcome n
moves_after s (Resolve r) n = moves_resolve r.tid r.commit (s.slot n).writer (s.slot n)

moves_put : (w : World) (q : ℕ) (s : StoreState) (p n : ℕ) (b : Bool) → (q == p) ≡ b →
    ((m : ℕ) → Moves ((w q).slot m) (s.slot m)) → Moves ((w p).slot n) ((cond b s (w p)).slot n)
moves_put w q s p n true is h = subst (λ r. Moves ((w r).slot n) (s.slot n)) (eq_true q p is) (h n)
moves_put w q s p n false is h = Stays refl refl refl

pub moves_applied : (w : World) (e : JEntry) (p n : ℕ) → Moves ((w p).slot n) ((applied w e p).slot n)
moves_applied w (Took pass q c a) p n = moves_put w q (after (w q) c) p n (q == p) refl (moves_after (w q) c)
moves_applied w (Doubted pass q c) p n = Stays refl refl refl
moves_applied w (Late q c a) p n = moves_put w q (after (w q) c) p n (q == p) refl (moves_after (w q) c)

-- ## Contents at versions

at_version_some : (v : ℕ) (k : Kept) (x : Option (List ℕ)) → at_version v k ≡ Some x →
    (k.version ≡ v) × (Some k.content ≡ x)
at_version_some v k x h = cases (k.version == v) refl h
  where
    cases : (b : Bool) → (k.version == v) ≡ b → cond b (Some (Some k.content)) None ≡ Some x →
        (k.version ≡ v) × (Some k.content ≡ x)
    cases true is e = (eq_true k.version v is, cc)
    cases false is e = absurd cc

at_version_own : (k : Kept) → at_version k.version k ≡ Some (Some k.content)
at_version_own k = rw (eq_self k.version) refl

below_step : (o : Option (Option (List ℕ))) (v : ℕ) (k l : Kept) (x : Option (List ℕ)) →
    ((y : Option (List ℕ)) → o ≡ Some y → v ≤ k.version) → Moves k l → first_of o (at_version v l) ≡ Some x → v ≤ l.version
below_step None v k l x old m h = let e = at_version_some v l x h in omega (arith, e.0)
below_step (Some y) v k l x old (Stays same pages by) h = omega (arith, same, old y refl)
below_step (Some y) v k l x old (Rises up) h = omega (arith, up, old y refl)

-- no page had a version above its own
first_below : (o : Origin) (es : List JEntry) (p n v : ℕ) (x : Option (List ℕ)) → first_at o es p n v ≡ Some x →
    v ≤ ((replay o es p).slot n).version
first_below o [] p n v x h = let e = at_version_some v ((first_world o p).slot n) x h in omega (arith, e.0)
first_below o (e ∷ es) p n v x h =
    below_step (first_at o es p n v) v ((replay o es p).slot n) ((applied (replay o es) e p).slot n) x
    (λ y q. first_below o es p n v y q) (moves_applied (replay o es) e p n) h

now_step : (f : ℕ → Option (Option (List ℕ))) (k l : Kept) →
    ((v : ℕ) (y : Option (List ℕ)) → f v ≡ Some y → v ≤ k.version) → f k.version ≡ Some (Some k.content) → Moves k l →
    (o : Option (Option (List ℕ))) → f l.version ≡ o → first_of o (at_version l.version l) ≡ Some (Some l.content)
now_step f k l below old m None is = at_version_own l
now_step f k l below old (Stays same pages by) (Some y) is =
    let e : f l.version ≡ Some (Some k.content) = rw same old in cc (e, pages, is)
now_step f k l below old (Rises up) (Some y) is = absurd (omega (arith, up, below l.version y is))

-- what a page holds now is what it held when it first had its version
pub first_now : (o : Origin) (es : List JEntry) (p n : ℕ) →
    first_at o es p n ((replay o es p).slot n).version ≡ Some (Some ((replay o es p).slot n).content)
first_now o [] p n = at_version_own ((first_world o p).slot n)
first_now o (e ∷ es) p n =
    now_step (first_at o es p n) ((replay o es p).slot n) ((applied (replay o es) e p).slot n) (first_below o es p n)
    (first_now o es p n) (moves_applied (replay o es) e p n)
    (first_at o es p n ((applied (replay o es) e p).slot n).version) refl

-- a page, or its absence at version 0
abbrev pub page_at : ℕ → List ℕ → Option (List ℕ)
page_at v content = cond (v == 0) None (Some content)

pub content_now : (o : Origin) (es : List JEntry) (p n v : ℕ) → ((replay o es p).slot n).version ≡ v →
    content_at o es p n v ≡ Some (page_at v ((replay o es p).slot n).content)
content_now o es p n v is = at (v == 0)
  where
    now : first_at o es p n v ≡ Some (Some ((replay o es p).slot n).content)
    now = subst (λ w. first_at o es p n w ≡ Some (Some ((replay o es p).slot n).content)) is (first_now o es p n)

    at : (b : Bool) → cond b (Some None) (first_at o es p n v) ≡ Some (cond b None (Some ((replay o es p).slot n).content))
    at true = refl
    at false = now

-- what was known before is known still
pub content_more : (o : Origin) (es : List JEntry) (e : JEntry) (p n v : ℕ) (x : Option (List ℕ)) →
    content_at o es p n v ≡ Some x → content_at o (e ∷ es) p n v ≡ Some x
content_more o es e p n v x h = at (v == 0) h
  where
    at : (b : Bool) → cond b (Some None) (first_at o es p n v) ≡ Some x →
        cond b (Some None) (first_of (first_at o es p n v) (at_version v ((replay o (e ∷ es) p).slot n))) ≡ Some x
    at true h = h
    at false h = rw h refl
