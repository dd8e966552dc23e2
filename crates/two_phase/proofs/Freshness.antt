-- A transaction of which nothing was asked yet: the first of its parts may be asked.
use Rattle.std.proofs.Common.{◌≡◌, ℕ, ◌==◌, ◌&&◌, Bool, true, false, List, [], ◌∷◌, Option, None, refl}
use Rattle.std.specs.List.{list_any}
use Rattle.pair_types.specs.declared.slot.Tid.{Tid}
use Rattle.page_types.specs.declared.command.Command.{Command}
use Rattle.page_types.specs.declared.command.Command.TheVariants.{Fresh, Read, Look, Write, Prepare, Decide, Resolve}
use Rattle.page_types.specs.declared.journal.JEntry.{JEntry}
use Rattle.page_types.specs.declared.journal.JEntry.TheVariants.{Took, Doubted, Late}
use Rattle.page_types.specs.Asked.{found, Plan, part_in, plan_in, alone_in, commit_in}
use Rattle.two_phase.specs.Parts.{is_of_tid, carries, ArePrepared}
use Rattle.two_phase.proofs.Basics.{or_false}

and_false : (b : Bool) → (b && false) ≡ false
and_false true = refl
and_false false = refl

pub found_none : {A : Type 0} (tid : Tid) (f : ℕ → Command → Option A) →
    ((p : ℕ) (c : Command) → is_of_tid tid c ≡ false → f p c ≡ None) → (es : List JEntry) →
    list_any (carries tid) es ≡ false → found f es ≡ None
found_none tid f none [] h = refl
found_none tid f none (Took pass p c a ∷ es) h =
    let b = or_false (is_of_tid tid c) (list_any (carries tid) es) h in rw (found_none tid f none es b.1) (none p c b.0)
found_none tid f none (Doubted pass p c ∷ es) h =
    let b = or_false (is_of_tid tid c) (list_any (carries tid) es) h in rw (found_none tid f none es b.1) (none p c b.0)
found_none tid f none (Late p c a ∷ es) h =
    let b = or_false (is_of_tid tid c) (list_any (carries tid) es) h in rw (found_none tid f none es b.1) refl

module _ (tid : Tid) where
  part_none : (q p : ℕ) (c : Command) → is_of_tid tid c ≡ false → part_in tid q p c ≡ None
  part_none q p Fresh h = refl
  part_none q p (Read n) h = refl
  part_none q p (Look ns) h = refl
  part_none q p (Write x) h = refl
  part_none q p (Prepare x) h = rw (h, and_false (p == q)) refl
  part_none q p (Decide d) h = refl
  part_none q p (Resolve r) h = refl

  pub plan_none : (p : ℕ) (c : Command) → is_of_tid tid c ≡ false → plan_in tid p c ≡ None
  plan_none p Fresh h = refl
  plan_none p (Read n) h = refl
  plan_none p (Look ns) h = refl
  plan_none p (Write x) h = refl
  plan_none p (Prepare x) h = rw h refl
  plan_none p (Decide d) h = refl
  plan_none p (Resolve r) h = refl

  pub alone_none : (p : ℕ) (c : Command) → is_of_tid tid c ≡ false → alone_in tid p c ≡ None
  alone_none p Fresh h = refl
  alone_none p (Read n) h = refl
  alone_none p (Look ns) h = refl
  alone_none p (Write x) h = rw h refl
  alone_none p (Prepare x) h = refl
  alone_none p (Decide d) h = refl
  alone_none p (Resolve r) h = refl

  commit_none : (p : ℕ) (c : Command) → is_of_tid tid c ≡ false → commit_in tid p c ≡ None
  commit_none p Fresh h = refl
  commit_none p (Read n) h = refl
  commit_none p (Look ns) h = refl
  commit_none p (Write x) h = refl
  commit_none p (Prepare x) h = refl
  commit_none p (Decide d) h = rw h refl
  commit_none p (Resolve r) h = refl

  -- none of its parts is prepared, and nothing more was asked
  pub none_prepared : (plan : Plan) (es : List JEntry) → list_any (carries tid) es ≡ false → ArePrepared es tid plan []
  none_prepared plan es fresh = record {
    asked = λ q. found_none tid (part_in tid q) (part_none q) es fresh;
    prepared = λ q h. absurd cc;
    planned = found_none tid (plan_in tid) plan_none es fresh;
    not_alone = found_none tid (alone_in tid) alone_none es fresh;
    not_decided = found_none tid (commit_in tid) commit_none es fresh;
  }
