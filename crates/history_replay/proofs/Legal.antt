-- A legal list leads to the tree after the calls that succeeded.
use Rattle.std.proofs.Common.{◌≡◌, ◌∙◌, ℕ, Bool, true, false, if◌then◌else◌, List, [], ◌∷◌, ◌⊎◌, inl, inr, refl, sym, ap, subst}
use Rattle.std.proofs.Common.{Ok, Err}
use Rattle.nfs3_types.specs.declared.entry.Entry.{Entry}
use Rattle.nfs3_types.specs.declared.reply.Reply.{Reply}
use Rattle.nfs3_types.specs.declared.status.Status.{Status}
use Rattle.nfs3_types.specs.Replies.{is_ok}
use Rattle.nfs3_types.specs.Calls.{procedure_of}
use Rattle.fs_rules.specs.Answers.{Asked, after, answer, reply_by, row, tree_by}
use Rattle.fs_rules.specs.Checks.{Row}
use Rattle.fs_rules.specs.Tree.{Tree}
use Rattle.history_replay.specs.Replayed.{FoundNoRoom, Goes, IsAnswered, Meets, asked_of, moved, tree_after}

-- by what a row says, the tree after it is the one before where its status is a failure's
by_row : (t : Tree) (procedure : ℕ) (r : Row)
    → (if is_ok (reply_by procedure r).status then tree_by t r else t) ≡ tree_by t r
by_row t procedure (Ok d) = refl
by_row t procedure (Err status) = elim (is_ok status) as (λ b. (if b then t else t) ≡ t) [ true ↦ refl | false ↦ refl ]

-- a call that is answered as the table has it moves the tree as the table has it
answered_moves : (t : Tree) (a : Asked) → (if is_ok (answer t a).status then after t a else t) ≡ after t a
answered_moves t a = by_row t (procedure_of a.call) (row t a)

pub meets_moves : (t next : Tree) (e : Entry) → Meets t e next → next ≡ moved t e
meets_moves t next e (inl m) =
    m.next_is ∙ sym (ap (λ (r : Reply). if is_ok r.status then after t (asked_of e) else t) m.reply_is
    ∙ answered_moves t (asked_of e))
meets_moves t next e (inr m) =
    m.next_is ∙ sym (ap (λ (r : Reply). if is_ok r.status then after t (asked_of e) else t) m.reply_is)

-- where a legal list leads, that is the tree after it
pub goes_after : (from to : Tree) (es : List Entry) → Goes from es to → tree_after from es ≡ to
goes_after from to [] same = same
goes_after from to (e ∷ es) (mid, meets, goes) =
    ap (λ (t : Tree). tree_after t es) (sym (meets_moves from mid e meets)) ∙ goes_after mid to es goes

pub leads_to : (from tree : Tree) (es : List Entry) → tree ≡ tree_after from es → (last : Tree) → Goes from es last
    → tree ≡ last
leads_to from tree es is last goes = is ∙ goes_after from last es goes
