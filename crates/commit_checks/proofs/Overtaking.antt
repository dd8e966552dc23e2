-- What a pass may ask behind another one's turn.
use Rattle.std.proofs.Common.{◌≡◌, ℕ, ◌<◌, Bool, true, false, cond, List, [], ◌∷◌, ◌++◌, Option, None, Ok, refl, ap, sym}
use Rattle.std.proofs.Common.{subst, ◌∙◌, unwrap_or, length, drop, get_or}
use Rattle.std.specs.Prelude.{reverse}
use Rattle.std.specs.List.{list_any}
use Rattle.std.proofs.Math.Seq.{drop-append_seam}
use Rattle.std.proofs.lemmas.List.{reverse-append, reverse-reverse}
use Rattle.std.proofs.lemmas.List.Sorted.{list_any-IsPermutation, IsPermutation-reverse}
use Rattle.pair_types.specs.declared.slot.Tid.{Tid}
use Rattle.page_types.specs.declared.outcome.Outcome.TheVariants.{Commit}
use Rattle.page_types.specs.declared.command.Command.TheVariants.{Decide}
use Rattle.page_types.specs.declared.journal.JEntry.{JEntry}
use Rattle.page_types.specs.Asked.{Names}
use Rattle.page_types.specs.Fair.{IsFair}
use Rattle.page_types.specs.Journals.{Origin, own, is_of}
use Rattle.page_types.specs.Ports.{PortState}
use Rattle.fabric.specs.Shown.{Shown, Held, past, port_of}
use Rattle.two_phase.specs.declared.parts.Part.{Part}
use Rattle.two_phase.specs.declared.prepares.Preparation.TheVariants.{Ready}
use Rattle.two_phase.specs.Parts.{stores_of, Prepares}
use Rattle.two_phase.specs.Commits.{effects, IsReady}
use Rattle.two_phase.proofs.Basics.{or_false}
use Rattle.two_phase.proofs.Onwards.{onward_none, onward_on}
use Rattle.two_phase.proofs.Several.{first_home, is_ready}
use Rattle.commit_checks.specs.Rights.{any_stands, any_next, MayCommit, IsOn, IsLater, IsPrepared}

-- ## One way to the stores, and one fabric

pub on_none : (p : PortState) → IsOn p p
on_none p = record { part = []; onward = onward_none p }

pub on_then : (a b d : PortState) → IsOn a b → IsOn b d → IsOn a d
on_then a b d f g = record { part = g.part ++ f.part; onward = onward_on a b d f.part g.part f.onward g.onward }

pub later_none : {W : Type 0} (f : Shown W) → IsLater f f
later_none f = record { part = []; is = refl; origin = refl }

pub later_of : {W : Type 0} (old new : Held W) → IsOn (port_of old) (port_of new) → IsLater old.fabric new.fabric
later_of old new on = record {
  part = on.onward.journal.0;
  is = ap (λ (o : Option (List JEntry)). unwrap_or o []) on.onward.journal.1;
  origin = on.onward.origin;
}

-- ## Entries of others leave a pass's own as they were

own_behind : (pass : ℕ) (part es : List JEntry) → list_any (is_of pass) part ≡ false → own pass (part ++ es) ≡ own pass es
own_behind pass [] es h = refl
own_behind pass (e ∷ part) es h =
    let b = or_false (is_of pass e) (list_any (is_of pass) part) h in
    at (is_of pass e) b.0 (own_behind pass part es b.1)
  where
    at : (b : Bool) → b ≡ false → own pass (part ++ es) ≡ own pass es →
        cond b (e ∷ own pass (part ++ es)) (own pass (part ++ es)) ≡ own pass es
    at true is rest = absurd cc
    at false is rest = rest

module _ {W : Type 0} (old new : Shown W) (later : IsLater old new) where
  gained : drop (length old.journal) new.journal ≡ reverse later.part
  gained =
      ap (λ (l : List JEntry). drop (length old.journal) l)
      (sym (reverse-reverse new.journal) ∙ (ap (λ (l : List JEntry). reverse l) later.is
      ∙ (reverse-append later.part (reverse old.journal)
      ∙ ap (λ (l : List JEntry). l ++ reverse later.part) (reverse-reverse old.journal))))
      ∙ drop-append_seam old.journal (reverse later.part)

  -- behind another's turn, where the pass asked nothing since
  own_same : (pass : ℕ) → list_any (is_of pass) (drop (length old.journal) new.journal) ≡ false →
      own pass (past new) ≡ own pass (past old)
  own_same pass none =
      ap (λ (l : List JEntry). own pass l) later.is
      ∙ own_behind pass later.part (past old)
      (list_any-IsPermutation (is_of pass) later.part (reverse later.part) (IsPermutation-reverse later.part)
      ∙ subst (λ (l : List JEntry). list_any (is_of pass) l ≡ false) gained none)

-- ## All parts are prepared

module _ (p q : PortState) (tid : Tid) (home : ℕ) (stores : List ℕ) where
  ready_moved : q.mine ≡ p.mine → q.origin ≡ p.origin → q.pass ≡ p.pass →
      IsReady any_stands any_next p tid (record { home = home; parts = stores }) None →
      IsReady any_stands any_next q tid (record { home = home; parts = stores }) None
  ready_moved mine origin pass r = record {
    known = record {
      names = subst (λ (l : List JEntry). Names l tid (record { home = home; parts = stores })) (sym mine) r.known.names;
      home = subst (λ (o : Origin). home < o.stores) (sym origin) r.known.home;
      parts = λ store c. subst (λ (o : Origin). store < o.stores) (sym origin) (r.known.parts store c);
    };
    fair =
        subst
        (λ (o : Origin). IsFair (any_stands o) any_next o.stores q.mine q.pass home
        (Decide (record { tid = tid; outcome = Commit None })))
        (sym origin)
        (subst
        (λ (n : ℕ). IsFair (any_stands p.origin) any_next p.origin.stores q.mine n home
        (Decide (record { tid = tid; outcome = Commit None })))
        (sym pass)
        (subst
        (λ (l : List JEntry). IsFair (any_stands p.origin) any_next p.origin.stores l p.pass home
        (Decide (record { tid = tid; outcome = Commit None })))
        (sym mine) r.fair));
    none_yet = subst (λ (l : List JEntry). effects tid l ≡ []) (sym mine) r.none_yet;
  }

pub prepared_over : {W : Type 0} (p : Held W) (tid : Tid) (home : ℕ) (stores : List ℕ) →
    IsReady any_stands any_next (port_of p) tid (record { home = home; parts = stores }) None →
    IsPrepared p.fabric tid home stores
prepared_over p tid home stores r =
    ready_moved (port_of p) (port_of (record { fabric = p.fabric; pass = tid.pass; doubts = 0; stops = 0 })) tid home stores
    (ap (λ (n : ℕ). own n (past p.fabric)) r.fair.of_pass.own) refl r.fair.of_pass.own r

pub prepared_now : {W : Type 0} (p q : Held W) (tid : Tid) (home : ℕ) (stores : List ℕ) (parts : List Part) →
    MayCommit (port_of p) tid parts → stores ≡ stores_of parts → home ≡ get_or stores 0 0 →
    Prepares (port_of p) (port_of q) tid (record { home = home; parts = stores }) parts (Ok Ready) →
    IsPrepared q.fabric tid home stores
prepared_now p q tid home stores parts may listed first x =
    prepared_over q tid home stores
    (is_ready any_stands any_next (port_of p) tid home stores parts None may listed (first ∙ first_home stores parts listed)
    (port_of q) x)

-- all parts are prepared behind another's turn too
pub prepared_later : {W : Type 0} (old new : Shown W) (tid : Tid) (home : ℕ) (stores : List ℕ) →
    IsPrepared old tid home stores → IsLater old new →
    list_any (is_of tid.pass) (drop (length old.journal) new.journal) ≡ false → IsPrepared new tid home stores
prepared_later old new tid home stores r later none =
    ready_moved (port_of (record { fabric = old; pass = tid.pass; doubts = 0; stops = 0 }))
    (port_of (record { fabric = new; pass = tid.pass; doubts = 0; stops = 0 })) tid home stores
    (own_same old new later tid.pass none) later.origin refl r
