-- What a pass's own entries, newest first, tell of the calls that it served one after another.
use Rattle.std.specs.Prelude.{ℕ, ◌≡◌, ◌≢◌, ◌<◌, ◌≤◌, Bool, false, if◌then◌else◌, List, [], ◌∷◌, ◌++◌, length, Option, Some}
use Rattle.std.specs.Prelude.{None, ⊤, ◌⊎◌}
use Rattle.std.specs.List.{All, Contains, list_any}
use Rattle.pair_types.specs.declared.slot.Tid.{Tid}
use Rattle.pair_types.specs.declared.fault.Cross.{Cross}
use Rattle.nfs3_types.specs.declared.entry.Entry.{Entry}
use Rattle.nfs3_types.specs.declared.reply.Reply.{Reply}
use Rattle.page_types.specs.declared.outcome.Outcome.{Outcome}
use Rattle.page_types.specs.declared.outcome.Outcome.TheVariants.{Commit, Abort}
use Rattle.page_types.specs.declared.command.Command.{Command}
use Rattle.page_types.specs.declared.command.Command.TheVariants.{Write, Decide}
use Rattle.page_types.specs.declared.journal.JEntry.{JEntry}
use Rattle.page_types.specs.declared.journal.JEntry.TheVariants.{Took, Doubted, Late}
use Rattle.page_types.specs.Accesses.{is_same}
use Rattle.page_types.specs.Journals.{own}
use Rattle.serial_rules.specs.Crossed.{crossings}
use Rattle.two_phase.specs.Tries.{doubted}
use Rattle.two_phase.specs.Parts.{carries}
use Rattle.two_phase.specs.Commits.{asks_effect, AnsweredFor, SettledAgainst}
use Rattle.call_accounts.specs.Asked.{Given, Replied, Jukebox, Serverfault, LacksMemory, Unanswered, Called, Asked}
use Rattle.call_accounts.specs.Asked.{called_in, entry_by}

-- What a pass did: the serials of its transactions, from the first up to the last, which is the next one's; its own entries
-- before it, and those that this added.
pub record Span : Type 0 where
  pub pass : ℕ
  pub first : ℕ
  pub last : ℕ
  pub before : List JEntry
  pub part : List JEntry

abbrev pub tid_of : Span → ℕ → Tid
tid_of s serial = record { pass = s.pass; serial = serial }

-- its own entries behind it
abbrev pub behind : Span → List JEntry
behind s = s.part ++ s.before

-- the serial is one of the span's
pub record IsWithin (s : Span) (serial : ℕ) : Type 0 where
  pub low : s.first ≤ serial
  pub high : serial < s.last

-- ---- what became of a transaction

-- the call for which an entry asks that the transaction take effect, where it does
abbrev pub served_by : Outcome → Option Entry
served_by (Commit served) = served
served_by Abort = None

abbrev pub call_in : Tid → Command → Option Entry
call_in tid (Write x) = if is_same x.tid tid then x.entry else None
call_in tid (Decide d) = if is_same d.tid tid then served_by d.outcome else None
call_in tid command = None

abbrev pub asks_for : Tid → JEntry → Option Entry
asks_for tid (Took pass store command answer) = call_in tid command
asks_for tid (Doubted pass store command) = call_in tid command
asks_for tid (Late store command answer) = None

-- it stands for no call: it did not take effect, or it was asked for none
abbrev pub StandsForNone : List JEntry → Tid → Type 0
StandsForNone es tid = SettledAgainst es tid ⊎ All (λ e. asks_for tid e ≡ None) es

-- it was asked for this call alone, if for any
abbrev pub IsAskedFor : List JEntry → Tid → Called → Type 0
IsAskedFor es tid called = All (λ e. (entry : Entry) → asks_for tid e ≡ Some entry → called_in entry ≡ called) es

-- of the span's transactions this one stands for the call, with this reply, and no other stands for any
pub record StandsOnce (s : Span) (called : Called) (reply : Reply) : Type 0 where
  pub serial : ℕ
  pub within : IsWithin s serial
  pub answered : AnsweredFor (behind s) (tid_of s serial) (Some (entry_by (tid_of s serial) called reply))
  pub others : (other : ℕ) → IsWithin s other → other ≢ serial → StandsForNone (behind s) (tid_of s other)

-- none stands for any, but this one, which may stand for the call
pub record MayStand (s : Span) (called : Called) : Type 0 where
  pub serial : ℕ
  pub asked : IsAskedFor (behind s) (tid_of s serial) called
  pub others : (other : ℕ) → IsWithin s other → other ≢ serial → StandsForNone (behind s) (tid_of s other)

abbrev pub StandsAs : Span → Called → Given → Type 0
StandsAs s called (Replied reply) = StandsOnce s called reply
StandsAs s called Jukebox = (serial : ℕ) → IsWithin s serial → StandsForNone (behind s) (tid_of s serial)
StandsAs s called Serverfault = MayStand s called
StandsAs s called LacksMemory = MayStand s called
StandsAs s called Unanswered = MayStand s called

-- ---- why it was answered so

abbrev pub AreDistinct : List Cross → Type 0
AreDistinct [] = ⊤
AreDistinct (c ∷ cs) = All (λ other. c ≢ other) cs × AreDistinct cs

-- sixteen times another transaction crossed it, each time another way
pub record WasCrossed (s : Span) : Type 0 where
  pub crosses : List Cross
  pub sixteen : length crosses ≡ 16
  pub distinct : AreDistinct crosses
  pub are : All (λ c. Contains (crossings s.pass s.before s.part) c) crosses

-- one command was doubted eight times in a row
pub record FellSilent (s : Span) : Type 0 where
  pub store : ℕ
  pub command : Command
  pub earlier : List JEntry
  pub later : List JEntry
  pub is : s.part ≡ later ++ (doubted 8 (Doubted s.pass store command) ++ earlier)

abbrev pub IsCause : Span → Given → Type 0
IsCause s (Replied reply) = ⊤
IsCause s Jukebox = WasCrossed s
IsCause s Serverfault = FellSilent s
IsCause s LacksMemory = ⊤
IsCause s Unanswered = ⊤

-- ---- calls one after another

-- the entry asks that the transaction take effect
abbrev pub asks : Tid → JEntry → Bool
asks tid (Took pass store command answer) = asks_effect tid command
asks tid (Doubted pass store command) = asks_effect tid command
asks tid (Late store command answer) = false

-- no entry asks that a transaction of this pass before this serial take effect
abbrev pub AsksFrom : ℕ → ℕ → List JEntry → Type 0
AsksFrom pass serial es =
    (other : ℕ) → other < serial → list_any (asks (record { pass = pass; serial = other })) es ≡ false

-- no entry carries a transaction of this pass from this serial on
abbrev pub CarriesBelow : ℕ → ℕ → List JEntry → Type 0
CarriesBelow pass serial es =
    (other : ℕ) → serial ≤ other → list_any (carries (record { pass = pass; serial = other })) es ≡ false

-- One call: its entries ask no effect of an earlier call's transactions and carry none of a later one's; which transactions
-- stand for it; and why it was answered so.
pub record CallEnds (s : Span) (a : Asked) : Type 0 where
  pub rises : s.first ≤ s.last
  pub from : AsksFrom s.pass s.first s.part
  pub below : CarriesBelow s.pass s.last s.part
  pub stands : StandsAs s a.called a.given
  pub cause : IsCause s a.given

-- the span up to a place of its entries, with the serials up to this one, and from there on
abbrev pub early_span : Span → ℕ → List JEntry → Span
early_span s mid early = record s { last = mid; part = early }

abbrev pub late_span : Span → ℕ → List JEntry → List JEntry → Span
late_span s mid early later = record s { first = mid; before = early ++ s.before; part = later }

-- These calls, one after another, the earliest first, are all that the pass did.
abbrev pub Calls : Span → List Asked → Type 0
Calls s [] = (s.part ≡ []) × (s.last ≡ s.first)
Calls s (a ∷ asked) =
    (mid : ℕ) × (early later : List JEntry) × (s.part ≡ later ++ early) × CallEnds (early_span s mid early) a ×
    Calls (late_span s mid early later) asked

-- ---- in a journal

-- no entry asks that one of the span's transactions take effect
abbrev pub LeavesAlone : Span → List JEntry → Type 0
LeavesAlone s es = (serial : ℕ) → IsWithin s serial → list_any (asks (tid_of s serial)) es ≡ false

-- The span is a part of what the pass did in a journal: its transactions were new, and later on none of them was asked to take
-- effect again.
pub record IsSpanOf (es : List JEntry) (s : Span) : Type 0 where
  pub later : List JEntry
  pub own_is : own s.pass es ≡ later ++ behind s
  pub new : CarriesBelow s.pass s.first s.before
  pub alone : LeavesAlone s later
