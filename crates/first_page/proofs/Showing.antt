-- The records of the first page show the first tree.
use Rattle.std.proofs.Common.{◌≡◌, ℕ, zero, suc, Bool, true, false, ◌+◌, ◌<◌, ◌≤◌, List, [], ◌∷◌, ◌++◌, length}
use Rattle.std.proofs.Common.{Some, None, refl, sym, ap, ◌∙◌, arith}
use Rattle.std.specs.Prelude.{slice_get, nat_lt}
use Rattle.std.specs.List.{Contains}
use Rattle.std.proofs.lemmas.Bool.{le-ltb, ltb-true, ltb-false}
use Rattle.std.proofs.lemmas.List.Elements.{All-nil}
use Rattle.std.proofs.lemmas.Option.{slice_get_past}
use Rattle.xdr_grammar.specs.Items.{hyper, fixed}
use Rattle.nfs3_types.specs.declared.moment.Moment.{Moment}
use Rattle.pairs.specs.declared.at.At.TheVariants.{Live}
use Rattle.pairs.specs.Lives.{Life, seen}
use Rattle.pairs.specs.Versions.{Versions, HasLives, epoch, epoch_in}
use Rattle.fs_rules.specs.Places.{snapshot_numbered}
use Rattle.fs_rules.specs.Tree.{first_tree, first_fileids, always}
use Rattle.fs_keys.specs.declared.key_parts.KeyParts.TheVariants as key
use Rattle.fs_keys.specs.Inodes.{value_of}
use Rattle.fs_keys.specs.Values.{first, times, lane_in}
use Rattle.fs_shows.specs.Extents.{row, extent_at}
use Rattle.fs_shows.specs.Nodes.{Holds}
use Rattle.fs_shows.specs.Shows.{KeepsBlocks, MarksStale, IsWithin, ShowsRows, Shows}
use Rattle.first_page.specs.Records.{AreGiven, first_row, root_row}
use Rattle.first_page.specs.Standing.{versions_of}
use Rattle.first_page.proofs.Lives.{quads_with, lives_in_order, outside_table, first_lives, times_lives, snapshot_lives}
use Rattle.first_page.proofs.Lives.{extent_lives, stale_lives, lane_lives-some, lane_lives-none}
use Rattle.first_page.proofs.Values.{first_said, lane_said, times_said}
use Rattle.first_page.proofs.Root.{shows_nodes}

-- a value that begins with the number 1 says the epoch 1
one_epoch : (rest : List ℕ) → epoch_in (Some (0 ∷ 0 ∷ 0 ∷ 0 ∷ 0 ∷ 0 ∷ 0 ∷ 1 ∷ rest)) ≡ 1
one_epoch rest =
    let long : nat_lt (length (0 ∷ 0 ∷ 0 ∷ 0 ∷ 0 ∷ 0 ∷ 0 ∷ 1 ∷ rest)) 8 ≡ false =
    le-ltb (length (0 ∷ 0 ∷ 0 ∷ 0 ∷ 0 ∷ 0 ∷ 0 ∷ 1 ∷ rest)) 8 (omega arith) in
    rw long refl

none_in : {A : Type 0} (xs : List A) (x : A) → xs ≡ [] → Contains xs x → ⊥
none_in xs x empty here = let none : length xs ≡ 0 = ap (λ (ys : List _). length ys) empty in omega (arith, none, here.1)

none_some : {A : Type 0} {x : A} → None ≡ Some x → ⊥
none_some is = cc

-- the numbers that lanes give first
count_from : ℕ → ℕ → List ℕ
count_from from zero = []
count_from from (suc n) = from ∷ count_from (from + 1) n

count_get : (from n lane : ℕ) → lane < n → slice_get (count_from from n) lane ≡ Some (from + lane)
unfolding count_from
count_get from zero lane low = absurd (omega arith)
count_get from (suc n) zero low = ap (λ (m : ℕ). Some m) (omega arith)
count_get from (suc n) (suc lane) low = count_get (from + 1) n lane (omega arith) ∙ ap (λ (m : ℕ). Some m) (omega arith)

lane_next : (lane : ℕ) → lane < 16 → slice_get first_fileids lane ≡ Some (16 + lane)
unfolding count_from
lane_next lane low = count_get 16 16 lane low

module _ (stores fsid : ℕ) (verifier : List ℕ) (at : Moment) (given : AreGiven fsid verifier at) where
  abbrev f : List ℕ
  f = first.spelling (first_row fsid verifier)

  abbrev r : List ℕ
  r = value_of (root_row at)

  abbrev t : List ℕ
  t = times.spelling (always at)

  abbrev v : Versions
  v = versions_of stores (quads_with f r t)

  epoch_one : epoch v ≡ 1
  unfolding epoch first hyper
  epoch_one = ap (λ (ls : List Life). epoch_in (seen Live ls)) (first_lives f r t)
      ∙ one_epoch (hyper.spelling fsid ++ ((fixed 8).spelling verifier ++ []))

  in_order : HasLives v
  in_order = record {
    early = omega (arith, epoch_one);
    lives = λ k. rw epoch_one (lives_in_order f r t k);
  }

  shows_lane : (lane : ℕ) (b : Bool) → nat_lt lane 16 ≡ b → Holds lane_in (row v Live (key.Lane lane))
      (slice_get first_fileids lane)
  shows_lane lane true is =
      let low : lane < 16 = ltb-true lane 16 is in
      rw (lane_lives-some f r t lane low, lane_next lane low) (lane_said (16 + lane) (omega arith))
  shows_lane lane false is =
      let high : 16 ≤ lane = ltb-false lane 16 is in
      rw (lane_lives-none f r t lane high, slice_get_past first_fileids lane high) tt

  shows_rows : ShowsRows v (first_tree fsid verifier at)
  unfolding first_tree snapshot_numbered
  shows_rows = record {
    first = first_said fsid verifier given.fsid_fits given.eight;
    lanes = λ lane fits. shows_lane lane (nat_lt lane 16) refl;
    snapshots = λ number fits. rw (snapshot_lives f r t number) refl;
    times = rw (times_lives f r t) (times_said at given.time);
  }

  no_extent : (file index : ℕ) → extent_at v Live file index ≡ None
  no_extent file index = rw (extent_lives f r t file index) refl

  keeps_blocks : 1 ≤ stores → KeepsBlocks v
  keeps_blocks some = record {
    some = some;
    named = λ file index l place here. absurd (none_in _ l (extent_lives f r t file index) here);
    alone = λ f' i g j l k x y first second same. absurd (none_in _ l (extent_lives f r t f' i) first.life);
  }

  marks_stale : MarksStale v
  marks_stale = record {
    within = λ file index x place is. absurd (none_some (sym (no_extent file index) ∙ is));
    marked = λ file index x place is old. absurd (none_some (sym (no_extent file index) ∙ is));
  }

  is_within : IsWithin v (first_tree fsid verifier at)
  is_within = record {
    extents = λ file index place some. absurd (some (extent_lives f r t file index));
    stale = λ file fits some. absurd (some (stale_lives f r t file));
    table = λ k out. outside_table f r t k out;
  }

  pub shows_first : 1 ≤ stores → Shows v (first_tree fsid verifier at)
  unfolding first_tree
  shows_first some = record {
    lives = in_order;
    epoch_is = epoch_one;
    rows = shows_rows;
    live = shows_nodes stores f t at given.time;
    earlier = All-nil _;
    kept = All-nil _;
    blocks = keeps_blocks some;
    stale = marks_stale;
    within = is_within;
  }
