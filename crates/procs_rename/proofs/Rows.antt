-- The row of RENAME, once it is planned.
use Rattle.std.proofs.Common.{◌≡◌, ◌∙◌, ℕ, Bool, true, false, if◌then◌else◌, List, Option, Some, None, Ok, Err, refl, sym}
use Rattle.std.proofs.Common.{ap, subst}
use Rattle.std.specs.Prelude.{⊤, IsSomeAnd, option_map, is_some}
use Rattle.nfs3_types.specs.declared.args.RenameArgs.{RenameArgs}
use Rattle.nfs3_types.specs.declared.attributes.Fattr.{Fattr}
use Rattle.nfs3_types.specs.declared.attributes.Wcc.{Wcc}
use Rattle.nfs3_types.specs.declared.body.Body.{Body}
use Rattle.nfs3_types.specs.declared.body.Body.TheVariants.{Rename}
use Rattle.nfs3_types.specs.declared.cred.Cred.{Cred}
use Rattle.nfs3_types.specs.declared.moment.Moment.{Moment}
use Rattle.nfs3_types.specs.declared.status.Status.{Status}
use Rattle.fs_rules.specs.declared.place.Place.TheVariants.{Live}
use Rattle.fs_rules.specs.declared.plans.RenamePlan.{RenamePlan}
use Rattle.fs_rules.specs.Attributes.{wcc_of}
use Rattle.fs_rules.specs.Checks.{Check, done}
use Rattle.fs_rules.specs.Places.{Object, attributes, change, leads_to, shown}
use Rattle.fs_rules.specs.Renaming.{move_node, rename, rename_plan}
use Rattle.fs_rules.specs.Tree.{Tree, Node}
use Rattle.pairs.specs.Told.{PairsTold, Goes}
use Rattle.fs_shows.specs.declared.halt.Halt.{Halt}
use Rattle.fs_shows.specs.declared.halt.Halt.TheVariants.{Refused, Fault}
use Rattle.fs_shows.specs.Views.{IsThere}
use Rattle.procs_object.specs.declared.object.Found.{Found}
use Rattle.procs_object.specs.Finding.{IsLed}
use Rattle.procs_object.specs.Performing.{Performs}
use Rattle.procs_object.proofs.Gathering.{halts-by, refuses-by}
use Rattle.procs_object.proofs.Handles.{led-nowhere, led-there}
use Rattle.procs_rename.specs.declared.planning.Planned.{Planned}
use Rattle.procs_rename.specs.Doing.{CanTell, CanDo, told_of}
use Rattle.procs_rename.specs.Seeing.{Gathers, IsPlanned}
use Rattle.procs_rename.proofs.Moves.{moved-fsid, from-there, to-there}
use Rattle.procs_rename.proofs.Plans.{leads-somewhere}

-- ---- what is told of a node

led-shown : (t : Tree) (id : ℕ) (x : Found) → IsLed t (Some x) (leads_to t (Live id)) → shown t (Live id) ≡ Some x.attributes
unfolding shown
led-shown t id x led =
    let there = led-there t x (leads_to t (Live id)) led in
    ap (λ (o : Option Object). option_map (attributes t) o) there.1 ∙ ap (λ (a : Fattr). Some a) there.2.attributes

pub found-told : (t : Tree) (id : ℕ) (f : Option Found) (x : Found) → f ≡ Some x → IsLed t f (leads_to t (Live id))
    → shown t (Live id) ≡ Some x.attributes
found-told t id f x is led =
    let P : Option Found → Type 0 = λ f. IsLed t f (leads_to t (Live id)) in led-shown t id x (subst P is led)

some-there : (o : Option Node) → IsSomeAnd o (λ n. ⊤) → is_some o ≡ true
some-there None is = absurd is
some-there (Some n) is = refl

pub found-none : (t : Tree) (id : ℕ) (f : Option Found) → f ≡ None → IsLed t f (leads_to t (Live id)) → IsThere id t → ⊥
found-none t id f is led there =
    let P : Option Found → Type 0 = λ f. IsLed t f (leads_to t (Live id)) in
    leads-somewhere t id (some-there (t.nodes id) there) (led-nowhere t (leads_to t (Live id)) (subst P is led))

-- ---- the end

module _ (t : Tree) (cred : Cred) (a : RenameArgs (List ℕ)) (now : Moment) where
  row-by : (c : Check RenamePlan) → rename_plan t cred a ≡ c
      → rename t cred a now
      ≡ done c (λ plan. if plan.is_same then t else move_node now a plan t) (λ plan after. told_of plan t after)
  unfolding rename
  row-by c is =
      ap (λ (c : Check RenamePlan). done c (λ plan. if plan.is_same then t else move_node now a plan t)
      (λ plan after. told_of plan t after)) is

  pub row-refused : (status : Status) → rename_plan t cred a ≡ Err status → rename t cred a now ≡ Err status
  row-refused status refused = row-by (Err status) refused

  module _ (x : Planned) (is : IsPlanned cred a x t) where
    row-ended : (u : Bool) → x.plan.is_same ≡ u
        → rename t cred a now ≡ Ok (record {
          body = told_of x.plan t (if u then t else move_node now a x.plan t);
          tree = if u then t else move_node now a x.plan t;
        })
    row-ended u same =
        row-by (Ok x.plan) is.planned
        ∙ ap (λ (u : Bool). Ok (record {
          body = told_of x.plan t (if u then t else move_node now a x.plan t);
          tree = if u then t else move_node now a x.plan t;
        })) same

    -- both names are the node's already
    pub row-same : x.plan.is_same ≡ true → (body : Body)
        → body ≡ Rename (record { from = wcc_of (Some x.from) (Some x.from); to = wcc_of (Some x.to) (Some x.to) })
        → rename t cred a now ≡ Ok (record { body = body; tree = t })
    row-same same body told =
        row-ended true same
        ∙ ap (λ (f : Option Fattr). Ok (record {
          body = Rename (record { from = wcc_of f f; to = change t t (Live x.plan.to) });
          tree = t;
        })) is.from
        ∙ ap (λ (f : Option Fattr). Ok (record {
          body = Rename (record { from = wcc_of (Some x.from) (Some x.from); to = wcc_of f f });
          tree = t;
        })) is.to
        ∙ ap (λ (b : Body). Ok (record { body = b; tree = t })) (sym told)

    pub row-moved : x.plan.is_same ≡ false → (body : Body) → told_of x.plan t (move_node now a x.plan t) ≡ body
        → rename t cred a now ≡ Ok (record { body = body; tree = move_node now a x.plan t })
    row-moved same body told =
        row-ended false same ∙ ap (λ (b : Body). Ok (record { body = b; tree = move_node now a x.plan t })) told

    pub may-do : x.plan.is_same ≡ false → CanDo a x t
    may-do other = record { moves = is.moves other; from = is.from; to = is.to; own = is.fsid }

-- ---- both directories behind the move

module _ (a : RenameArgs (List ℕ)) (x : Planned) (now : Moment) (t : Tree) (can : CanDo a x t) where
  pub from-tells : CanTell x.from.fsid x.plan.from (move_node now a x.plan t)
  from-tells = record {
    there = from-there now a x.plan t can.moves;
    own = moved-fsid now a x.plan t can.moves ∙ can.own;
  }

  pub to-tells : CanTell x.from.fsid x.plan.to (move_node now a x.plan t)
  to-tells = record { there = to-there now a x.plan t can.moves; own = moved-fsid now a x.plan t can.moves ∙ can.own }

  pub told-so : (from to : Fattr) (w z : Wcc) → shown (move_node now a x.plan t) (Live x.plan.from) ≡ Some from
      → shown (move_node now a x.plan t) (Live x.plan.to) ≡ Some to → w ≡ wcc_of (Some x.from) (Some from)
      → z ≡ wcc_of (Some x.to) (Some to) → told_of x.plan t (move_node now a x.plan t) ≡ Rename (record { from = w; to = z })
  told-so from to w z from-is to-is w-is z-is =
      let after = move_node now a x.plan t in
      let first : change t after (Live x.plan.from) ≡ w =
      ap (λ (f : Option Fattr). wcc_of f (shown after (Live x.plan.from))) can.from
      ∙ ap (λ (f : Option Fattr). wcc_of (Some x.from) f) from-is ∙ sym w-is in
      let second : change t after (Live x.plan.to) ≡ z =
      ap (λ (f : Option Fattr). wcc_of f (shown after (Live x.plan.to))) can.to
      ∙ ap (λ (f : Option Fattr). wcc_of (Some x.to) f) to-is ∙ sym z-is in
      ap (λ (w : Wcc). Rename (record { from = w; to = change t after (Live x.plan.to) })) first
      ∙ ap (λ (z : Wcc). Rename (record { from = w; to = z })) second

-- the plan was not made
pub not-planned : {S W : Type 0} (told : PairsTold S W) (old new : S) (most : ℕ) (cred : Cred) (a : RenameArgs (List ℕ))
    (now : Moment) (halt : Halt) → Goes told old new most
    → Gathers told old new (IsPlanned cred a) (λ t. rename_plan t cred a) (Err halt)
    → Performs told old new most (λ t. rename t cred a now) (Err halt)
not-planned told old new most cred a now (Refused status) goes ended =
    refuses-by told old new (λ t. rename t cred a now) (λ t. rename_plan t cred a ≡ Err status) ended most status goes
    (λ t sound refused. row-refused t cred a now status refused)
not-planned told old new most cred a now (Fault fault) goes ended =
    halts-by told old new most (λ t. rename t cred a now) goes fault ended
