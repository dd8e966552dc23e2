-- The way that is read is the table's.
use Rattle.std.proofs.Common.{◌≡◌, ◌∙◌, Ok, Err, refl, sym}
use Rattle.std.specs.Prelude.{⊤}
use Rattle.fs_rules.specs.Renaming.{climb}
use Rattle.fs_rules.specs.Sound.{IsSound}
use Rattle.fs_shows.proofs.Doing.{up-given}
use Rattle.procs_object.proofs.Reading.{reads-none, reads-more}
use Rattle.procs_rename.specs.Seeing.{renaming_by, way_for}
use Rattle.procs_rename.proofs.Plans.{way-none, way-by}
use Rattle.procs_rename.proofs.planning.need_way.Goals as goal

pub returns-then-not-reparents-clause-check : goal.returns-then-not-reparents-clause-check
returns-then-not-reparents-clause-check g c =
    let r = renaming_by c.args.x.now in
    reads-none g.P.Pairs.told c.args.pairs.now IsSound (λ t. (u : Unit {0}) × (way_for t r ≡ Ok u) × (tt ≡ u))
    (λ t sound. (tt, way-none t r (sym c.reparents.ensures ∙ c.if-not-reparents.true), refl))

pub returns-in-Err-clause-check : goal.returns-in-Err-clause-check
returns-in-Err-clause-check g c =
    up-given g.P.Pairs.told c.args.pairs.now c.climb.new.pairs IsSound (λ t. ⊤)
    (λ t sound. tt) c.in-Err.fault c.in-Err.ensures.fault

pub returns-in-Ok-allow_move-clause-check : goal.returns-in-Ok-allow_move-clause-check
returns-in-Ok-allow_move-clause-check g c =
    let r = renaming_by c.args.x.now in
    reads-more g.P.Pairs.told c.args.pairs.now c.climb.new.pairs IsSound (λ t. ⊤)
    (λ t. climb t.nodes c.fileid-source.result 1025 c.fileid.result ≡ c.in-Ok.way)
    (λ t. (u : Unit {0}) × (way_for t r ≡ Ok u) × (tt ≡ u)) (λ t sound. tt)
    (λ t sound is. (
      c.in-Ok-allow_move.field-0,
      way-by t r c.fileid-source.result c.fileid.result c.in-Ok.way (Ok c.in-Ok-allow_move.field-0)
          (sym c.reparents.ensures ∙ c.if-not-reparents.false) c.fileid-source.ensures c.fileid.ensures is
          (sym c.allow_move.ensures ∙ c.in-Ok-allow_move.is),
      refl,
    ))
    c.in-Ok.ensures.ok

pub returns-in-Err-allow_move-clause-check : goal.returns-in-Err-allow_move-clause-check
returns-in-Err-allow_move-clause-check g c =
    let r = renaming_by c.args.x.now in
    reads-more g.P.Pairs.told c.args.pairs.now c.climb.new.pairs IsSound (λ t. ⊤)
    (λ t. climb t.nodes c.fileid-source.result 1025 c.fileid.result ≡ c.in-Ok.way)
    (λ t. way_for t r ≡ Err c.in-Err-allow_move.status) (λ t sound. tt)
    (λ t sound is.
    way-by t r c.fileid-source.result c.fileid.result c.in-Ok.way (Err c.in-Err-allow_move.status)
    (sym c.reparents.ensures ∙ c.if-not-reparents.false) c.fileid-source.ensures c.fileid.ensures is
    (sym c.allow_move.ensures ∙ c.in-Err-allow_move.is))
    c.in-Ok.ensures.ok
