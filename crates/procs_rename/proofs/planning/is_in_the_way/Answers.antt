-- What is known of the target decides, or whether it has names.
use Rattle.std.proofs.Common.{◌≡◌, ◌∙◌, ℕ, Bool, true, false, not, Option, Some, sym, ap, subst}
use Rattle.std.specs.Prelude.{option_map, IfSome}
use Rattle.fs_rules.specs.declared.place.Place.TheVariants.{Live as LivePlace}
use Rattle.fs_rules.specs.Attributes.{given}
use Rattle.fs_rules.specs.Checks.{is_live}
use Rattle.fs_rules.specs.Removing.{has_names}
use Rattle.fs_rules.specs.Renaming.{differs, is_in_the_way}
use Rattle.fs_rules.specs.Sound.{IsSound}
use Rattle.fs_rules.specs.Tree.{Tree}
use Rattle.pairs.specs.declared.at.At.TheVariants.{Live}
use Rattle.fs_shows.proofs.Doing.{up-given}
use Rattle.dir_ops.specs.Listing.{IsListed}
use Rattle.procs_object.specs.declared.object.Found.{Found}
use Rattle.procs_object.proofs.Reading.{reads-none, reads-more}
use Rattle.procs_rename.specs.Seeing.{found_as}
use Rattle.procs_rename.proofs.Plans.{way-differs, way-leaf, way-names, listed}
use Rattle.procs_rename.proofs.planning.is_in_the_way.Goals as goal

abbrev blocks : Tree → Found → Option Found → Bool
blocks t s o = given (option_map (found_as 0) o) (is_in_the_way t (found_as 0 s))

-- of what is there
there-blocks : (t : Tree) (s : Found) (o : Option Found) (y : Found) (b : Bool) → o ≡ Some y
    → is_in_the_way t (found_as 0 s) (found_as 0 y) ≡ b → blocks t s o ≡ b
there-blocks t s o y b at is = ap (λ (o : Option Found). blocks t s o) at ∙ is

live-of : (o : Option Found) (y : Found) → o ≡ Some y → IfSome o (λ y. is_live y.place ≡ true) → is_live y.place ≡ true
live-of o y at live = let P : Option Found → Type 0 = λ o. IfSome o (λ y. is_live y.place ≡ true) in subst P at live

differ-as : (a b c d e : Bool) → c ≡ a → d ≡ b → e ≡ differs c d → differs a b ≡ e
differ-as a b c d e first second is = ap (λ (a : Bool). differs a b) (sym first) ∙ ap (λ (b : Bool). differs c b) (sym second)
    ∙ sym is

pub returns-in-None-clause-ok : goal.returns-in-None-clause-ok
returns-in-None-clause-ok g c =
    let x = c.args.x.now in
    reads-none g.P.Pairs.told c.args.pairs.now IsSound (λ t. blocks t x.source x.target ≡ false)
    (λ t sound. ap (λ (o : Option Found). blocks t x.source o) c.in-None.is)

pub returns-then-differs-clause-ok : goal.returns-then-differs-clause-ok
returns-then-differs-clause-ok g c =
    let x = c.args.x.now in
    let y = c.in-Some.o in
    reads-none g.P.Pairs.told c.args.pairs.now IsSound (λ t. blocks t x.source x.target ≡ true)
    (λ t sound. there-blocks t x.source x.target y true c.in-Some.is
    (way-differs t y x.source
    (differ-as _ _ c.is_directory.result c.is_directory-2.result c.differs.result c.is_directory.ensures c.is_directory-2.ensures
    c.differs.ensures ∙ c.if-differs.true)))

pub returns-then-not-is_directory-clause-ok : goal.returns-then-not-is_directory-clause-ok
returns-then-not-is_directory-clause-ok g c =
    let x = c.args.x.now in
    let y = c.in-Some.o in
    reads-none g.P.Pairs.told c.args.pairs.now IsSound (λ t. blocks t x.source x.target ≡ false)
    (λ t sound. there-blocks t x.source x.target y false c.in-Some.is
    (way-leaf t y x.source
    (differ-as _ _ c.is_directory.result c.is_directory-2.result c.differs.result c.is_directory.ensures c.is_directory-2.ensures
    c.differs.ensures ∙ c.if-differs.false)
    (sym c.is_directory-3.ensures ∙ c.if-not-is_directory.true)))

pub returns-in-Ok-clause-ok : goal.returns-in-Ok-clause-ok
returns-in-Ok-clause-ok g c =
    let x = c.args.x.now in
    let y = c.in-Some.o in
    reads-more g.P.Pairs.told c.args.pairs.now c.is_empty.new.pairs IsSound (IsListed Live c.fileid.result)
    (λ t. has_names t (LivePlace c.fileid.result) ≡ not c.in-Ok.empty) (λ t. blocks t x.source x.target ≡ not c.in-Ok.empty)
    (λ t sound. listed t sound c.fileid.result)
    (λ t sound is. there-blocks t x.source x.target y (not c.in-Ok.empty) c.in-Some.is
    (way-names t y x.source (not c.in-Ok.empty)
    (differ-as _ _ c.is_directory.result c.is_directory-2.result c.differs.result c.is_directory.ensures c.is_directory-2.ensures
    c.differs.ensures ∙ c.if-differs.false)
    (sym c.is_directory-3.ensures ∙ c.if-not-is_directory.false) (live-of x.target y c.in-Some.is c.requires)
    (ap (λ (id : ℕ). has_names t (LivePlace id)) (sym c.fileid.ensures) ∙ is)))
    c.in-Ok.ensures.ok

pub returns-in-Err-clause-fault : goal.returns-in-Err-clause-fault
returns-in-Err-clause-fault g c =
    up-given g.P.Pairs.told c.args.pairs.now c.is_empty.new.pairs IsSound (IsListed Live c.fileid.result)
    (λ t sound. listed t sound c.fileid.result) c.in-Err.fault c.in-Err.ensures.fault
