-- The records of the first page, one behind the other.
use Rattle.std.proofs.Common.{◌≡◌, ℕ, zero, suc, ◌+◌, ◌*◌, ◌<◌, ◌≤◌, List, [], ◌∷◌, ◌++◌, refl, sym, ap, ◌∙◌, arith}
use Rattle.std.proofs.Common.{add-one}
use Rattle.std.specs.Cmp.{nat_cmp_is}
use Rattle.std.specs.Ordering.{ordering_then}
use Rattle.std.specs.declared.cmp.Ordering.{Ordering}
use Rattle.std.specs.declared.cmp.Ordering.TheVariants.{Less, Equal}
use Rattle.nfs3_types.specs.declared.moment.Moment.{Moment}
use Rattle.pair_types.specs.declared.quad.Quad.{Quad}
use Rattle.btree_page.specs.Content.{IsBelow, Content, with_cell}
use Rattle.btree_page.specs.Tree.{quad_bound, quad_cell}
use Rattle.fs_keys.specs.declared.key_parts.KeyParts.TheVariants as key
use Rattle.first_page.specs.Records.{AreGiven, first_quad, root_quad, times_quad, lane_quad, lanes_to, MayFollow}
use Rattle.first_page.proofs.Adding.{page_of, one_more, bytes_of, bytes_of-append, first_follows, next_follows}
use Rattle.first_page.proofs.Values.{first_long, lane_long, root_short, times_long}

-- the records before a lane's, and all up to the root's
abbrev pub before_lane : ℕ → List ℕ → ℕ → List Quad
before_lane fsid verifier lane = first_quad fsid verifier ∷ lanes_to lane

abbrev pub up_to_root : ℕ → List ℕ → Moment → List Quad
up_to_root fsid verifier at = before_lane fsid verifier 16 ++ root_quad at ∷ []

-- ---- how long they are

lanes_size : (n : ℕ) → bytes_of (lanes_to n) ≡ 30 * n
unfolding lanes_to
lanes_size zero = refl
lanes_size (suc n) =
    omega (arith, bytes_of-append (lanes_to n) (lane_quad n ∷ []), lanes_size n, lane_long (16 + n))

before_size : (fsid : ℕ) (verifier : List ℕ) (at : Moment) (lane : ℕ) → AreGiven fsid verifier at → lane ≤ 16
    → bytes_of (before_lane fsid verifier lane) ≤ 600
before_size fsid verifier at lane given few =
    omega (arith, lanes_size lane, first_long fsid verifier given.fsid_fits given.eight)

root_size : (fsid : ℕ) (verifier : List ℕ) (at : Moment) → AreGiven fsid verifier at
    → bytes_of (up_to_root fsid verifier at) ≤ 6000
root_size fsid verifier at given =
    omega (
      arith,
      bytes_of-append (before_lane fsid verifier 16) (root_quad at ∷ []),
      before_size fsid verifier at 16 given (omega arith),
      root_short at given.time,
    )

-- ---- each may come next

pub first_next : (fsid : ℕ) (verifier : List ℕ) (at : Moment) (page : Content) → AreGiven fsid verifier at
    → page ≡ record { level = 0; cells = [] } → MayFollow page (first_quad fsid verifier)
first_next fsid verifier at page given is =
    first_follows page key.First (first_quad fsid verifier).value is tt
    (omega (arith, first_long fsid verifier given.fsid_fits given.eight))

-- one lane is below the next
lane_rises : (n : ℕ) → IsBelow (quad_bound (lane_quad n)) (quad_bound (lane_quad (suc n)))
lane_rises n =
    ap (λ (o : Ordering). ordering_then (ordering_then o Equal) Equal) (sym (nat_cmp_is n (suc n) Less (omega arith)))

pub lane_next : (fsid : ℕ) (verifier : List ℕ) (at : Moment) (lane : ℕ) (page : Content) → AreGiven fsid verifier at → lane < 16
    → page ≡ page_of (before_lane fsid verifier lane) → MayFollow page (lane_quad lane)
unfolding lanes_to
lane_next fsid verifier at zero page given few is =
    next_follows page [] (first_quad fsid verifier) (key.Lane 0) (lane_quad 0).value is (omega arith)
    (omega (arith, lane_long 16)) (omega (arith, before_size fsid verifier at 0 given (omega arith))) refl
lane_next fsid verifier at (suc n) page given few is =
    next_follows page (before_lane fsid verifier n) (lane_quad n) (key.Lane (suc n)) (lane_quad (suc n)).value is (omega arith)
    (omega (arith, lane_long (16 + suc n)))
    (omega (arith, before_size fsid verifier at (suc n) given (omega arith))) (lane_rises n)

pub root_next : (fsid : ℕ) (verifier : List ℕ) (at : Moment) (page : Content) → AreGiven fsid verifier at
    → page ≡ page_of (before_lane fsid verifier 16) → MayFollow page (root_quad at)
unfolding lanes_to
root_next fsid verifier at page given is =
    next_follows page (before_lane fsid verifier 15) (lane_quad 15) (key.Inode 1) (root_quad at).value is (omega arith)
    (omega (arith, root_short at given.time)) (omega (arith, before_size fsid verifier at 16 given (omega arith))) refl

pub times_next : (fsid : ℕ) (verifier : List ℕ) (at : Moment) (page : Content) → AreGiven fsid verifier at
    → page ≡ page_of (up_to_root fsid verifier at) → MayFollow page (times_quad at)
times_next fsid verifier at page given is =
    next_follows page (before_lane fsid verifier 16) (root_quad at) key.Times (times_quad at).value is tt
    (omega (arith, times_long at given.time)) (root_size fsid verifier at given) refl

-- ---- one lane more

pub lane_added : (fsid : ℕ) (verifier : List ℕ) (lane : ℕ) (page page' : Content)
    → page ≡ page_of (before_lane fsid verifier lane) → page' ≡ with_cell page (quad_cell (lane_quad lane))
    → page' ≡ page_of (before_lane fsid verifier (lane + 1))
unfolding lanes_to
lane_added fsid verifier lane page page' before is =
    one_more page page' (before_lane fsid verifier lane) (lane_quad lane) before is
    ∙ ap (λ (n : ℕ). page_of (before_lane fsid verifier n)) (sym (add-one lane))

-- all lanes
pub lanes_end : (fsid : ℕ) (verifier : List ℕ) (lane : ℕ) (page : Content) → 16 ≤ lane → lane ≤ 16
    → page ≡ page_of (before_lane fsid verifier lane) → page ≡ page_of (before_lane fsid verifier 16)
lanes_end fsid verifier lane page from to is =
    let all : lane ≡ 16 = omega arith in is ∙ ap (λ (n : ℕ). page_of (before_lane fsid verifier n)) all
