-- Puts: what they move, and why they give up.
use Rattle.std.proofs.Common.{◌≡◌, ◌≢◌, ℕ, ◌+◌, ◌<◌, ◌≤◌, List, length, Option, Some, None, refl, sym, ◌∙◌, ap, subst}
use Rattle.std.proofs.Common.{arith}
use Rattle.pair_types.specs.declared.fault.PairFault.{PairFault}
use Rattle.pair_types.specs.declared.fault.PairFault.TheVariants.{Odd, HeightFull, Page}
use Rattle.pair_types.specs.declared.quad.Quad.{Quad}
use Rattle.pair_types.specs.PageMaps.{PageMap, Agrees, over}
use Rattle.pair_types.specs.PageState.{PageState}
use Rattle.btree_page.specs.Tree.{quad_bound, IsRecord, IsFormed}
use Rattle.btree_search.specs.Found.{OnlyReads, HasCause}
use Rattle.btree_search.proofs.Walks.{agrees_before, only_then}
use Rattle.btree_edit.specs.Edits.{bound_at, Nothing, Lacks, Ends, Replaces, Inserts}
use Rattle.btree_edit.specs.Edited.{room_in, EditsTree, EditsIn, RootStays, GoesOn, HadNoTree, HasPutCause}
use Rattle.pairs.specs.Lives.{never, born}
use Rattle.pairs.specs.Versions.{Versions, HasLives, CanPut, epoch, with_put}
use Rattle.birth_death.specs.Changes.{Has, PutsAs}
use Rattle.birth_death.specs.Quads.{lives_of}
use Rattle.birth_death.specs.Roots.{FollowsPuts, IsHigh}
use Rattle.birth_death.specs.Shows.{Shows, FindsIn, MovesIn, GivesUpIn, PutGivesUpIn}
use Rattle.birth_death.proofs.Causes.{gives-up-put, put-gives-up, put-gives-up-then}
use Rattle.birth_death.proofs.Changes.{put-beside, put-first-means, put-over-means, put-over-has, put-after-has}
use Rattle.birth_death.proofs.Changes.{mid-lacks, put-after-lives}
use Rattle.birth_death.proofs.Finding.{counted, gives-up, finds-later, finds-then, Finding, lists-of, moves-then}
use Rattle.birth_death.proofs.Moves.{SameBeside, shows-edited, edits-shown, moves-by, had-none}
use Rattle.birth_death.proofs.Rising.{Rises, formed_rises}
use Rattle.birth_death.proofs.Rooting.{keeps-stays, full-high}

-- ---- where none lives

pub put-first-moves : (q : Quad) (store : ℕ) (old new : PageState) → q.death ≡ never → GoesOn old new
    → EditsIn (Inserts q) (Lacks (quad_bound q)) (Some store) old new
    → MovesIn old new (PutsAs q None) (with_put q.key q.value)
put-first-moves q store old new lives on edits =
    moves-by (Inserts q) (Lacks (quad_bound q)) (Some store) old new (PutsAs q None) (with_put q.key q.value)
    (put-first-means q lives) on edits

pub put-first-fails : (q : Quad) (old new : PageState) (fault : PairFault) → q.death ≡ never → GoesOn old new
    → HasPutCause old new (HadNoTree (Lacks (quad_bound q)) old new) fault → PutGivesUpIn old new (PutsAs q None) fault
put-first-fails q old new fault lives on cause =
    put-gives-up old new (HadNoTree (Lacks (quad_bound q)) old new) (PutsAs q None) fault on
    (had-none (Lacks (quad_bound q)) old new (PutsAs q None) on (put-first-means q lives).given) cause

-- ---- where one lives that was born in the epoch

pub put-over-moves : (q : Quad) (store : ℕ) (old new : PageState) → q.death ≡ never → GoesOn old new
    → EditsIn (Replaces q) Nothing (Some store) old new → MovesIn old new (PutsAs q (Some q.birth)) (with_put q.key
    q.value)
put-over-moves q store old new lives on edits =
    moves-by (Replaces q) Nothing (Some store) old new (PutsAs q (Some q.birth)) (with_put q.key q.value)
    (put-over-means q lives) on edits

pub put-over-fails : (q : Quad) (old new : PageState) (fault : PairFault) → GoesOn old new
    → HasPutCause old new (HadNoTree (Has (quad_bound q)) old new) fault
    → PutGivesUpIn old new (PutsAs q (Some q.birth)) fault
put-over-fails q old new fault on cause =
    put-gives-up old new (HadNoTree (Has (quad_bound q)) old new) (PutsAs q (Some q.birth)) fault on
    (had-none (Has (quad_bound q)) old new (PutsAs q (Some q.birth)) on (put-over-has q)) cause

-- ---- where one lives that was born before

-- the record that lives ends, from one state to another
pub record EndsFirst (q : Quad) (birth : ℕ) (a b : PageState) : Type 0 where
  pub lives : q.death ≡ never
  pub other : birth ≢ q.birth
  pub on : GoesOn a b
  pub ends : EditsIn (Ends (bound_at q.key birth) q.birth) Nothing None a b
  pub stays : RootStays a b

pub put-after-end : (q : Quad) (birth : ℕ) (a b : PageState) (fault : PairFault) → GoesOn a b
    → HasCause a b (HadNoTree (Has (bound_at q.key birth)) a b) fault → PutGivesUpIn a b (PutsAs q (Some birth)) fault
put-after-end q birth a b fault on cause =
    gives-up-put a b (PutsAs q (Some birth)) fault
    (gives-up a b (HadNoTree (Has (bound_at q.key birth)) a b) (PutsAs q (Some birth)) fault
    (had-none (Has (bound_at q.key birth)) a b (PutsAs q (Some birth)) on (put-after-has q birth)) cause)

-- the tree between the two edits
record Between (q : Quad) (b : PageState) (under : PageMap) (v : Versions) : Type 0 where
  mid : Versions
  shown : Shows b under mid
  beside : SameBeside mid (with_put q.key q.value v)
  lacks : Lacks (quad_bound q) shown.quads
  put : (after : List Quad) → Rises after → Inserts q shown.quads after → (key : List ℕ)
      → (with_put q.key q.value v).lives key ≡ lives_of after key

between : (q : Quad) (birth : ℕ) (a b : PageState) → EndsFirst q birth a b → (under : PageMap) (v : Versions)
    → Agrees b.reads under → Shows a under v
    → PutsAs q (Some birth) v → Between q b under v
unfolding shows-edited
between q birth a b e under v agrees shows given = record {
  mid = record v { lives = lives_of t.after };
  shown =
      shows-edited (Ends (bound_at q.key birth) q.birth) None a b under v
      (record v { lives = lives_of t.after }) shows e.on.lasts.stores t
      (record { stores = refl; blocks = refl }) (λ key. refl);
  beside = record { stores = (put-beside q.key q.value v).stores; blocks = (put-beside q.key q.value v).blocks };
  lacks = mid-lacks q birth v shows.quads t.after e.other (lists-of a under v shows) given t.edit;
  put = λ after rises edit.
      put-after-lives q birth v shows.quads t.after after e.lives e.other
      (lists-of a under v shows) rises given t.edit edit;
}
  where
    t : EditsTree (Ends (bound_at q.key birth) q.birth) (room_in None a) b.stores (over a.writes under)
        (over b.writes under) shows.quads shows.slots
    t = edits-shown (Ends (bound_at q.key birth) q.birth) Nothing None a b under v shows e.ends e.on agrees tt

pub put-after-moves : (q : Quad) (birth store : ℕ) (a b c : PageState) → EndsFirst q birth a b → GoesOn b c
    → EditsIn (Inserts q) (Lacks (quad_bound q)) (Some store) b c
    → MovesIn a c (PutsAs q (Some birth)) (with_put q.key q.value)
put-after-moves q birth store a b c e on inserts = λ under v agrees shows given.
    let m : Between q b under v = between q birth a b e under v
    (agrees_before b.reads c.reads under on.extends agrees) shows given in
    let u : EditsTree (Inserts q) (room_in (Some store) b) c.stores (over b.writes under)
    (over c.writes under) m.shown.quads m.shown.slots =
    edits-shown (Inserts q) (Lacks (quad_bound q)) (Some store) b c under m.mid m.shown inserts on agrees m.lacks in
    shows-edited (Inserts q) (Some store) b c under m.mid (with_put q.key q.value v) m.shown on.lasts.stores u m.beside
    (m.put u.after (formed_rises c.stores (over c.writes under) u.after u.reached u.formed) u.edit)

pub put-after-fails : (q : Quad) (birth : ℕ) (a b c : PageState) (fault : PairFault) → EndsFirst q birth a b
    → GoesOn b c
    → HasPutCause b c (HadNoTree (Lacks (quad_bound q)) b c) fault → PutGivesUpIn a c (PutsAs q (Some birth)) fault
put-after-fails q birth a b c Odd e on cause = λ under v agrees shows given.
    let m : Between q b under v = between q birth a b e under v
    (agrees_before b.reads c.reads under on.extends agrees) shows given in
    cause under agrees m.shown.quads m.shown.slots
    (subst (λ (n : ℕ). IsFormed n (over b.writes under) m.shown.quads m.shown.slots)
    (sym on.lasts.stores) m.shown.formed) m.lacks
put-after-fails q birth a b c HeightFull e on cause = λ puts few follows.
    full-high (puts + 0) b c (omega arith) on (keeps-stays a b e.on e.stays puts follows) cause
put-after-fails q birth a b c (Page fault) e on cause =
    counted a c fault (λ isnt. omega (arith, e.on.lasts.faults fault, cause isnt))

-- ---- as of the epoch

-- the record of a value that lives from then on
abbrev pub record_of : List ℕ → List ℕ → ℕ → Quad
record_of key value birth = record { key = key; birth = birth; death = never; value = value }

pub record-fits : (key value : List ℕ) (now : ℕ) (q : Quad) → q ≡ record_of key value now → length key ≤ 264
    → length value ≤ 1200 → IsRecord q
record-fits key value now q made few short = subst IsRecord (sym made) (record { key = few; value = short })

pub put-finds : (a b c : PageState) (key value : List ℕ) (now : ℕ) (birth : Option ℕ) → OnlyReads a b → OnlyReads b c
    → FindsIn a b (λ v. now ≡ epoch v)
    → FindsIn b c (λ v. born (v.lives key) ≡ birth) → Finding a c (CanPut key value) (PutsAs (record_of key value now)
    birth)
put-finds a b c key value now birth first second at found = record {
  only = only_then a b c first second;
  finds = λ under v agrees shows can. record {
    can = can;
    epoch = finds-later a b c (λ w. now ≡ epoch w) second.extends at under v agrees shows can.lives;
    born = finds-then a b c (λ w. born (w.lives key) ≡ birth) first found under v agrees shows can.lives;
  };
}

pub put-moves : (a c d : PageState) (key value : List ℕ) (now : ℕ) (birth : Option ℕ) (q : Quad)
    → q ≡ record_of key value now
    → Finding a c (CanPut key value) (PutsAs (record_of key value now) birth) → GoesOn c d
    → MovesIn c d (PutsAs q birth) (with_put q.key q.value) → MovesIn a d (CanPut key value) (with_put key value)
put-moves a c d key value now birth q made found on moves =
    moves-then a c d (CanPut key value) (PutsAs (record_of key value now) birth) (with_put key value) found on.extends
    (subst (λ (x : Quad). MovesIn c d (PutsAs x birth) (with_put x.key x.value)) made moves)

pub put-fails : (a c d : PageState) (key value : List ℕ) (now : ℕ) (birth : Option ℕ) (q : Quad) (fault : PairFault)
    → q ≡ record_of key value now
    → Finding a c (CanPut key value) (PutsAs (record_of key value now) birth) → GoesOn c d
    → PutGivesUpIn c d (PutsAs q birth) fault → PutGivesUpIn a d (CanPut key value) fault
put-fails a c d key value now birth q fault made found on fails =
    put-gives-up-then a c d (CanPut key value) (PutsAs (record_of key value now) birth) fault found on.extends
    (subst (λ (x : Quad). PutGivesUpIn c d (PutsAs x birth) fault) made fails)
