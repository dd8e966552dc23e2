-- Small journals with a call each: one in which it was acknowledged, and one in which it was not, and took effect late.
use Rattle.std.specs.Prelude.{◌≡◌, List, [], ◌∷◌, Some}
use Rattle.page_types.specs.declared.outcome.Outcome.TheVariants.{Commit}
use Rattle.page_types.specs.declared.answer.Answer.TheVariants.{Decided}
use Rattle.page_types.specs.declared.journal.JEntry.{JEntry}
use Rattle.page_types.specs.declared.journal.JEntry.TheVariants.{Took}
use Rattle.page_types.specs.Journals.{own}
use Rattle.serial_rules.specs.Lawful.{IsLawful}
use Rattle.serial_rules.specs.Sample.{stands_for_root, rewrites_root, two_stores, its_entry, its_commit, prepared_sample, sample}
use Rattle.call_accounts.specs.Asked.{Given, Replied, Unanswered, Asked, called_in}
use Rattle.call_accounts.specs.Calls.{Span, Calls, IsSpanOf}
use Rattle.call_accounts.specs.Accounts.{served_in}

-- the decision is answered
abbrev pub told_sample : List JEntry
told_sample = Took 0 0 its_commit (Decided (Commit (Some its_entry))) ∷ prepared_sample

-- what pass 0 did in a journal, with one transaction
abbrev pub span_in : List JEntry → Span
span_in es = record { pass = 0; first = 1; last = 2; before = []; part = own 0 es }

abbrev pub its_call : Given → Asked
its_call given = record { called = called_in its_entry; given = given }

-- Lawful journals in which pass 0 served one call, which stands in the history once.
pub record HasCall (es : List JEntry) (given : Given) : Type 0 where
  pub lawful : IsLawful stands_for_root rewrites_root two_stores es
  pub span : IsSpanOf es (span_in es)
  pub calls : Calls (span_in es) (its_call given ∷ [])
  pub stands : served_in (span_in es) two_stores es ≡ its_entry ∷ []

pub record IsSample : Type 0 where
  pub acknowledged : HasCall told_sample (Replied its_entry.reply)
  pub late : HasCall sample Unanswered
