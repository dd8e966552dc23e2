-- A run ends by the bytes that it read, but for what is apart from them.
use Rattle.std.proofs.Common.{◌≡◌, ◌^◌, ℕ, List, String, true≢false, refl, sym, ◌∙◌, ap, subst, ◌⊎◌, inl, inr, arith}
use Rattle.std.specs.declared.alloc.Global.{Global}
use Rattle.nfs3_types.specs.Count.{Rose, RoseBy}
use Rattle.outside.specs.Seen.{StreamsTold, Streams}
use Rattle.service.specs.declared.session.SessionEnd.{SessionEnd}
use Rattle.service.specs.declared.session.SessionEnd.TheVariants.{Done, ReadFault, WriteFault, CutRecord, TooLong, BadRecord}
use Rattle.service.specs.declared.session.SessionEnd.TheVariants.{ManyReads}
use Rattle.service.specs.declared.command.RunEnd.{RunEnd}
use Rattle.service.specs.declared.command.RunEnd.TheVariants.{Usage, NoMemory, Session}
use Rattle.service.specs.Turns.{contents, no_reply}
use Rattle.service.specs.Course.{course}
use Rattle.service.specs.Session.{IsByText}
use Rattle.service.specs.Served.{fsid}
use Rattle.service.specs.Run.{IsFeed, Feeds, Outcome, IsApart, EndsByText, status_of}
use Rattle.service.proofs.Readings.{follows-by_text}

module _ {S C K : Type 0} (told : StreamsTold S C K) (words : List (String Global)) (before now : Streams S C K) where
  -- the text alone ended the session
  ends-by_text : (end : SessionEnd) (status : ℕ) → IsByText end → status ≡ status_of (Session end) → Feeds told before now end
      → EndsByText told.source before.source now.source status
  ends-by_text end status by is feeds =
      let s = feeds.session in
      record {
        text = s.text;
        takes = s.takes;
        gave = s.gave;
        status_is = is ∙ ap (λ (e : SessionEnd). status_of (Session e))
            (sym (follows-by_text end (course (no_reply fsid) s.text) (contents s.turns) s.ends.follows by));
      }

  pub apart-or_by_text : (end : RunEnd) (status : ℕ) → status ≡ status_of end → Outcome told words before now end
      → IsApart status ⊎ EndsByText told.source before.source now.source status
  apart-or_by_text Usage status is o = inl (inl is)
  apart-or_by_text (Session ReadFault) status is o = inl (inr (inl is))
  apart-or_by_text (Session WriteFault) status is o = inl (inr (inr (inl is)))
  apart-or_by_text NoMemory status is o = inl (inr (inr (inr (inl is))))
  apart-or_by_text (Session ManyReads) status is o = inl (inr (inr (inr (inr is))))
  apart-or_by_text (Session Done) status is o = inr (ends-by_text Done status tt is o.did)
  apart-or_by_text (Session CutRecord) status is o = inr (ends-by_text CutRecord status tt is o.did)
  apart-or_by_text (Session TooLong) status is o = inr (ends-by_text TooLong status tt is o.did)
  apart-or_by_text (Session BadRecord) status is o = inr (ends-by_text BadRecord status tt is o.did)

  -- the same, where the words are the command and no count rose
  pub complete : (end : RunEnd) (status : ℕ) → status ≡ status_of end → Outcome told words before now end → IsFeed words
      → (Rose (told.source.faults before.source) (told.source.faults now.source) → ⊥)
      → (Rose (told.sink.faults before.sink) (told.sink.faults now.sink) → ⊥)
      → (status ≡ 7) ⊎ (status ≡ 8) ⊎ EndsByText told.source before.source now.source status
  complete Usage status is o feed read write = absurd (true≢false (sym feed ∙ o.says))
  complete (Session ReadFault) status is o feed read write = absurd (read (o.did.session.ended.read_fault refl))
  complete (Session WriteFault) status is o feed read write = absurd (write (o.did.session.ended.write_fault refl))
  complete NoMemory status is o feed read write = inl is
  complete (Session ManyReads) status is o feed read write = inr (inl is)
  complete (Session Done) status is o feed read write = inr (inr (ends-by_text Done status tt is o.did))
  complete (Session CutRecord) status is o feed read write = inr (inr (ends-by_text CutRecord status tt is o.did))
  complete (Session TooLong) status is o feed read write = inr (inr (ends-by_text TooLong status tt is o.did))
  complete (Session BadRecord) status is o feed read write = inr (inr (ends-by_text BadRecord status tt is o.did))

  -- ---- the causes of the statuses

  pub read_fault-rose : (end : RunEnd) (status : ℕ) → status ≡ status_of end → Outcome told words before now end → status ≡ 2
      → Rose (told.source.faults before.source) (told.source.faults now.source)
  read_fault-rose Usage status is o e = absurd (omega (arith, is, e))
  read_fault-rose NoMemory status is o e = absurd (omega (arith, is, e))
  read_fault-rose (Session Done) status is o e = absurd (omega (arith, is, e))
  read_fault-rose (Session ReadFault) status is o e = o.did.session.ended.read_fault refl
  read_fault-rose (Session WriteFault) status is o e = absurd (omega (arith, is, e))
  read_fault-rose (Session CutRecord) status is o e = absurd (omega (arith, is, e))
  read_fault-rose (Session TooLong) status is o e = absurd (omega (arith, is, e))
  read_fault-rose (Session BadRecord) status is o e = absurd (omega (arith, is, e))
  read_fault-rose (Session ManyReads) status is o e = absurd (omega (arith, is, e))

  pub write_fault-rose : (end : RunEnd) (status : ℕ) → status ≡ status_of end → Outcome told words before now end → status ≡ 3
      → Rose (told.sink.faults before.sink) (told.sink.faults now.sink)
  write_fault-rose Usage status is o e = absurd (omega (arith, is, e))
  write_fault-rose NoMemory status is o e = absurd (omega (arith, is, e))
  write_fault-rose (Session Done) status is o e = absurd (omega (arith, is, e))
  write_fault-rose (Session ReadFault) status is o e = absurd (omega (arith, is, e))
  write_fault-rose (Session WriteFault) status is o e = o.did.session.ended.write_fault refl
  write_fault-rose (Session CutRecord) status is o e = absurd (omega (arith, is, e))
  write_fault-rose (Session TooLong) status is o e = absurd (omega (arith, is, e))
  write_fault-rose (Session BadRecord) status is o e = absurd (omega (arith, is, e))
  write_fault-rose (Session ManyReads) status is o e = absurd (omega (arith, is, e))

  pub no_memory-same : (end : RunEnd) (status : ℕ) → status ≡ status_of end → Outcome told words before now end → status ≡ 7
      → now ≡ before
  no_memory-same Usage status is o e = absurd (omega (arith, is, e))
  no_memory-same NoMemory status is o e = o.did
  no_memory-same (Session Done) status is o e = absurd (omega (arith, is, e))
  no_memory-same (Session ReadFault) status is o e = absurd (omega (arith, is, e))
  no_memory-same (Session WriteFault) status is o e = absurd (omega (arith, is, e))
  no_memory-same (Session CutRecord) status is o e = absurd (omega (arith, is, e))
  no_memory-same (Session TooLong) status is o e = absurd (omega (arith, is, e))
  no_memory-same (Session BadRecord) status is o e = absurd (omega (arith, is, e))
  no_memory-same (Session ManyReads) status is o e = absurd (omega (arith, is, e))

  pub many-took : (end : RunEnd) (status : ℕ) → status ≡ status_of end → Outcome told words before now end → status ≡ 8
      → RoseBy (2 ^ 48) (told.source.takes before.source) (told.source.takes now.source)
  many-took Usage status is o e = absurd (omega (arith, is, e))
  many-took NoMemory status is o e = absurd (omega (arith, is, e))
  many-took (Session Done) status is o e = absurd (omega (arith, is, e))
  many-took (Session ReadFault) status is o e = absurd (omega (arith, is, e))
  many-took (Session WriteFault) status is o e = absurd (omega (arith, is, e))
  many-took (Session CutRecord) status is o e = absurd (omega (arith, is, e))
  many-took (Session TooLong) status is o e = absurd (omega (arith, is, e))
  many-took (Session BadRecord) status is o e = absurd (omega (arith, is, e))
  many-took (Session ManyReads) status is o e = let s =
      o.did.session in subst (λ (k : ℕ). RoseBy k (told.source.takes before.source) (told.source.takes now.source))
      (s.ended.many refl) s.gave.counted.rose

  pub usage-not : (end : RunEnd) (status : ℕ) → status ≡ status_of end → Outcome told words before now end → status ≡ 1
      → IsFeed words → ⊥
  usage-not Usage status is o e feed = true≢false (sym feed ∙ o.says)
  usage-not NoMemory status is o e feed = absurd (omega (arith, is, e))
  usage-not (Session Done) status is o e feed = absurd (omega (arith, is, e))
  usage-not (Session ReadFault) status is o e feed = absurd (omega (arith, is, e))
  usage-not (Session WriteFault) status is o e feed = absurd (omega (arith, is, e))
  usage-not (Session CutRecord) status is o e feed = absurd (omega (arith, is, e))
  usage-not (Session TooLong) status is o e feed = absurd (omega (arith, is, e))
  usage-not (Session BadRecord) status is o e feed = absurd (omega (arith, is, e))
  usage-not (Session ManyReads) status is o e feed = absurd (omega (arith, is, e))

  pub refused : (end : RunEnd) (status : ℕ) → status ≡ status_of end → Outcome told words before now end
      → (IsFeed words → ⊥) → (status ≡ 1) ⊎ (status ≡ 7)
  refused Usage status is o h = inl is
  refused NoMemory status is o h = inr is
  refused (Session end) status is o h = absurd (h o.says)
