-- Records that are loaded, and saved.
use Rattle.std.proofs.Common.{◌≡◌, ℕ, ◌+◌, ◌<◌, ◌≤◌, ◌^◌, Bool, true, false, if◌then◌else◌, List, [], length, Option, Some, None}
use Rattle.std.proofs.Common.{Result, Ok, Err}
use Rattle.std.proofs.Common.{refl, sym, ◌∙◌, ap, subst, arith}
use Rattle.std.proofs.lemmas.Bool.{leb-true}
use Rattle.std.proofs.lemmas.Option.{get_or_from_slice_get, slice_get-get_or}
use Rattle.std.specs.Prelude.{⊤, nat_le, slice_get, IsSomeAnd}
use Rattle.xdr_grammar.specs.declared.fault.XdrFault.{XdrFault}
use Rattle.pair_types.specs.declared.fault.PairFault.TheVariants.{Odd}
use Rattle.pairs.specs.declared.at.At.{At}
use Rattle.pairs.specs.declared.at.At.TheVariants.{Live}
use Rattle.pairs.specs.Versions.{Versions, HasLives, with_put}
use Rattle.pairs.specs.Told.{PairsTold, Goes, Tells, Moves}
use Rattle.fs_rules.specs.Edits.{give_number}
use Rattle.fs_rules.specs.Limits.{longest_target, most_numbers}
use Rattle.fs_rules.specs.Places.{node_at}
use Rattle.fs_rules.specs.Tree.{Tree, Node, next_fileid}
use Rattle.fs_keys.specs.declared.key_parts.KeyParts.TheVariants.{First as FirstKey, Lane, Inode as InodeKey}
use Rattle.fs_keys.specs.declared.inode.Head.{Head}
use Rattle.fs_keys.specs.declared.inode.Inode.{Inode}
use Rattle.fs_keys.specs.declared.rows.First.{First}
use Rattle.fs_keys.specs.Inodes.{head, inode_of, value_of, with_target}
use Rattle.fs_keys.specs.Keys.{Parts, key_of}
use Rattle.fs_keys.specs.Values.{lane_in, first_in}
use Rattle.fs_shows.specs.Extents.{row}
use Rattle.fs_shows.specs.Nodes.{Holds}
use Rattle.fs_shows.specs.Shows.{Shows, first_of}
use Rattle.fs_shows.specs.Steps.{Lies, Reads, Edits, GivesUpOn}
use Rattle.fs_shows.specs.Views.{place_in, IsKept, IsFoundAs, IsThere}
use Rattle.fs_shows.proofs.Doing.{does-tell, does-move, does-then, edits-of, reads-of, up-odd}
use Rattle.fs_shows.proofs.LaneEdits.{lane-given}
use Rattle.fs_shows.proofs.Viewing.{holds-same, holds-unsaid, inode-found, inode-unsaid}
use Rattle.inode_ops.specs.Giving.{HasLane, CanGive}
use Rattle.inode_ops.specs.Saving.{Saves}

-- a target that was read is short enough
pub target-short : (value : List ℕ) (i : Inode) → inode_of value ≡ Some i → length i.target ≤ longest_target
target-short value i is = by_reading (head.read value) is
  where
    by_length : (h : Head) (target : List ℕ) (short : Bool) → nat_le (length target) longest_target ≡ short
        → (if short then Some (record { head = h; target = target }) else None) ≡ Some i → length i.target ≤ longest_target
    by_length h target true fit e =
        let same : record { head = h; target = target } ≡ i = cc in
        subst (λ (j : Inode). length j.target ≤ longest_target) same (leb-true (length target) longest_target fit)
    by_length h target false fit e = absurd (cc)

    by_reading : (reading : Result (Head × List ℕ) XdrFault) → with_target reading ≡ Some i → length i.target ≤ longest_target
    by_reading (Ok (h, target)) e = by_length h target (nat_le (length target) longest_target) refl e
    by_reading (Err fault) e = absurd (cc)

module _ {S W : Type 0} (told : PairsTold S W) (old new : S) where
  pub tells-weaker : (P Q : Versions → Type 0) → ((v : Versions) → P v → Q v) → Tells told old new P → Tells told old new Q
  tells-weaker P Q weaker tells = record {
    shows = tells.shows;
    finds = λ w v agrees shown lives. weaker v (tells.finds w v agrees shown lives);
  }

  -- ---- what a record holds

  module _ {A : Type 0} (says : List ℕ → Option A) (at : At) (p : Parts) (found : Option (List ℕ))
      (tells : Tells told old new (λ v. row v at p ≡ found)) where
    pub none-held : found ≡ None → Tells told old new (λ v. Holds says (row v at p) None)
    none-held none =
        tells-weaker (λ v. row v at p ≡ found) (λ v. Holds says (row v at p) None)
        (λ v is. subst (λ (x : Option (List ℕ)). Holds says x None) (sym (is ∙ none)) tt) tells

    pub some-held : (value : List ℕ) (a : A) → found ≡ Some value → says value ≡ Some a → Tells told old new
        (λ v. Holds says (row v at p) (Some a))
    some-held value a some says_it =
        tells-weaker (λ v. row v at p ≡ found) (λ v. Holds says (row v at p) (Some a))
        (λ v is. subst (λ (x : Option (List ℕ)). Holds says x (Some a)) (sym (is ∙ some)) says_it) tells

    -- what is there says nothing, or is not there, where each tree of which this much is given says something
    pub odd-held : (Given : Tree → Type 0) (a : Tree → A) →
        ((v : Versions) (t : Tree) → Shows v t → Given t → Holds says (row v at p) (Some (a t)))
        → found ≡ None → GivesUpOn told old new Given Odd
    odd-held Given a holds none =
        up-odd told old new (λ v. v) (λ v. row v at p ≡ found) Given (does-tell told old new (λ v. row v at p ≡ found) tells)
        (λ v t shows is given. subst (λ (x : Option (List ℕ)). Holds says x (Some (a t))) (is ∙ none) (holds v t shows given))

    pub odd-said : (Given : Tree → Type 0) (a : Tree → A) (value : List ℕ)
        → ((v : Versions) (t : Tree) → Shows v t → Given t → Holds says (row v at p) (Some (a t)))
        → found ≡ Some value → says value ≡ None → GivesUpOn told old new Given Odd
    odd-said Given a value holds some none =
        up-odd told old new (λ v. v) (λ v. row v at p ≡ found) Given (does-tell told old new (λ v. row v at p ≡ found) tells)
        (λ v t shows is given. holds-unsaid says value (Some (a t)) none
        (subst (λ (x : Option (List ℕ)). Holds says x (Some (a t))) (is ∙ some) (holds v t shows given)))

    -- what was said is what each such tree says
    pub said-reads : (Given : Tree → Type 0) (a : Tree → A) (value : List ℕ) (b : A)
        → ((v : Versions) (t : Tree) → Shows v t → Given t → Holds says (row v at p) (Some (a t)))
        → found ≡ Some value → says value ≡ Some b → Reads told old new Given (λ t. a t ≡ b)
    said-reads Given a value b holds some says_it =
        reads-of told old new (λ v. row v at p ≡ found) Given (λ t. a t ≡ b) tells
        (λ v t shows is given. same (a t) (holds-same says (Some value) (Some (a t)) (Some b)
        (subst (λ (x : Option (List ℕ)). Holds says x (Some (a t))) (is ∙ some) (holds v t shows given)) says_it))
      where
        same : (x : A) → Some x ≡ Some b → x ≡ b
        same x e = cc

  -- ---- inodes

  pub load-reads : (at : At) (id : ℕ) (r : Option Inode) → id < 2 ^ 64 → Tells told old new
      (λ v. Holds inode_of (row v at (InodeKey id)) r)
      → Reads told old new (IsKept at) (λ t. IsFoundAs r (node_at t (place_in at id)))
  load-reads at id r fits tells =
      reads-of told old new (λ v. Holds inode_of (row v at (InodeKey id)) r) (IsKept at)
      (λ t. IsFoundAs r (node_at t (place_in at id))) tells
      (λ v t shows holds kept. inode-found v t at id r fits shows kept holds)

  pub load-odd : (at : At) (id : ℕ) (found : Option (List ℕ)) (value : List ℕ) → id < 2 ^ 64 → Tells told old new
      (λ v. row v at (InodeKey id) ≡ found)
      → found ≡ Some value → inode_of value ≡ None → GivesUpOn told old new (IsKept at) Odd
  load-odd at id found value fits tells some none =
      up-odd told old new (λ v. v) (λ v. row v at (InodeKey id) ≡ found) (IsKept at)
      (does-tell told old new (λ v. row v at (InodeKey id) ≡ found) tells)
      (λ v t shows is kept. inode-unsaid v t at id value fits shows kept (is ∙ some) none)

  pub live-reads : (id : ℕ) (found : Option Inode) (i : Inode) → found ≡ Some i
      → Reads told old new (IsKept Live) (λ t. IsFoundAs found (node_at t (place_in Live id)))
      → Reads told old new (IsThere id) (λ t. IsFoundAs (Some i) (t.nodes id))
  unfolding node_at
  live-reads id found i some reads = record {
    stays = reads.stays;
    learns = λ w t agrees lies there. subst (λ (o : Option Inode). IsFoundAs o (t.nodes id)) some
        (reads.learns w t agrees lies tt);
  }

  pub live-odd : (id : ℕ) (found : Option Inode) → found ≡ None
      → Reads told old new (IsKept Live) (λ t. IsFoundAs found (node_at t (place_in Live id))) → GivesUpOn told old new
      (IsThere id) Odd
  unfolding node_at
  live-odd id found none reads = λ w t agrees lies there.
      absent (t.nodes id) there (subst (λ (o : Option Inode). IsFoundAs o (t.nodes id)) none (reads.learns w t agrees lies tt))
    where
      absent : (o : Option Node) → IsSomeAnd o (λ n. ⊤) → IsFoundAs None o → ⊥
      absent None there found = there
      absent (Some n) there found = found

  pub saves-of : (id : ℕ) (i : Inode) (value : List ℕ) → value ≡ value_of i → inode_of value ≡ Some i
      → Moves told old new HasLives (with_put (key_of (InodeKey id)) value) → Saves told old new id i
  saves-of id i value is again moves = record {
    moves = subst (λ (x : List ℕ). Moves told old new HasLives (with_put (key_of (InodeKey id)) x)) is moves;
    again = subst (λ (x : List ℕ). inode_of x ≡ Some i) is again;
  }

-- ---- lanes and the first record

pub lane-holds : (lane : ℕ) → lane < 256 → (v : Versions) (t : Tree) → Shows v t → HasLane lane t
    → Holds lane_in (row v Live (Lane lane)) (Some (next_fileid t lane))
lane-holds lane fits v t shows has =
    subst (λ (o : Option ℕ). Holds lane_in (row v Live (Lane lane)) o) (slice_get-get_or t.next_fileids lane 0 has)
    (shows.rows.lanes lane fits)

pub first-holds : (v : Versions) (t : Tree) → Shows v t → ⊤ → Holds first_in (row v Live FirstKey) (Some (first_of t))
first-holds v t shows given = shows.rows.first

over : (n next : ℕ) → n ≡ next → n ≤ most_numbers + 15 → 2 ^ 64 ≤ next + 16 → ⊥
unfolding most_numbers
over n next is most high = omega (arith, is, most, high)

module _ {S W : Type 0} (told : PairsTold S W) (old mid new : S) (lane next : ℕ) where
  pub give-odd : Reads told old mid (HasLane lane) (λ t. next_fileid t lane ≡ next) → 2 ^ 64 ≤ next + 16 → GivesUpOn told old mid
      (CanGive lane) Odd
  give-odd reads high = λ w t agrees lies can. over (next_fileid t lane) next (reads.learns w t agrees lies can.has) can.most high

  pub give-edits : (after : ℕ) (value : List ℕ) → lane < 256 → Goes told mid new 1
      → Tells told old mid (λ v. Holds lane_in (row v Live (Lane lane)) (Some next)) → after ≡ next + 16
      → lane_in value ≡ Some after
      → Moves told mid new HasLives (with_put (key_of (Lane lane)) value) → Edits told old new (CanGive lane) (give_number lane)
  give-edits after value fits goes tells is says moves =
      edits-of told old new (with_put (key_of (Lane lane)) value) (λ v. Holds lane_in (row v Live (Lane lane)) (Some next) × ⊤)
      (CanGive lane) (give_number lane)
      (does-then told old mid new 1 (λ v. v) (with_put (key_of (Lane lane)) value)
      (λ v. Holds lane_in (row v Live (Lane lane)) (Some next)) (λ v. ⊤)
      (λ v lives. lives) goes
      (does-tell told old mid (λ v. Holds lane_in (row v Live (Lane lane)) (Some next)) tells)
      (does-move told mid new (with_put (key_of (Lane lane)) value) moves))
      (λ v t shows p can. lane-given v t lane value fits shows can.has
      (says ∙ ap (λ (x : ℕ). Some x) (is ∙ ap (λ (x : ℕ). x + 16) (same (next_fileid t lane)
      (holds-same lane_in (row v Live (Lane lane)) (Some next) (Some (next_fileid t lane)) p.0
      (lane-holds lane fits v t shows can.has))))))
    where
      same : (x : ℕ) → Some next ≡ Some x → next ≡ x
      same x e = cc
