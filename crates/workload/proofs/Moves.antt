-- How the driver moves from call to call.
use Rattle.std.proofs.Common.{◌≡◌, ◌∙◌, ◌<◌, ◌+◌, ◌%◌, ◌==◌, ℕ, Bool, cond, true, false, refl, sym, ap, ap₂, subst}
use Rattle.std.proofs.Common.{arith, List, [], ◌∷◌, length, Option, Some, None, slice_index_or, slice_set, eqb-true, replicate}
use Rattle.std.specs.Option.{option_map_or}
use Rattle.std.proofs.lemmas.Bool.{eqb-false}
use Rattle.std.proofs.lemmas.Grind.{get_or-set_at}
use Rattle.std.proofs.lemmas.List.{get_or_default, get_or-replicate, get_or-set_other}
use Rattle.nfs3_types.specs.declared.handle.Handle.{Handle}
use Rattle.nfs3_types.specs.declared.reply.Reply.{Reply}
use Rattle.workload.specs.declared.choice.Choice.{Choice}
use Rattle.workload.specs.declared.choice.Kind.{Kind}
use Rattle.workload.specs.Calls.{call_of, choice_at, fuse_of}
use Rattle.workload.specs.Draws.{drawn}
use Rattle.workload.specs.Drive.{Replies, choice, drive, known, last_fuse, learned, seed}
use Rattle.workload.specs.Driving.{Driving, DriverAt}

pub starts : (number rough : ℕ) (driver : Driving) → driver.state ≡ number % 2147483648 → driver.calls ≡ 0 → driver.rough ≡ rough
    → driver.handles ≡ replicate 256 None → driver.asked ≡ None → driver.fuse ≡ None → DriverAt number rough [] driver
unfolding seed known last_fuse
starts number rough driver s c r h a f = record {
  state = s;
  calls = c;
  rough_is = r;
  handles = λ b lt. ap (λ (l : List (Option Handle)). slice_index_or l b None) h ∙ get_or-replicate 256 b None None lt;
  asked = a;
  fuse = f;
}

-- a call that had no reply teaches nothing
untold : (number : ℕ) (rs : Replies) (b : ℕ) → known number (None ∷ rs) b ≡ known number rs b
unfolding known
untold number rs b = go (b == (choice number rs).name)
  where
    go : (x : Bool) → cond x (known number rs b) (known number rs b) ≡ known number rs b
    go true = refl
    go false = refl

-- what the draws of the next call are
pub chosen_is : (number rough : ℕ) (rs : Replies) (old : Driving) (calls : ℕ) (next : Choice) → DriverAt number rough rs old
    → calls ≡ old.calls + 1 → next ≡ choice_at calls old.state → next ≡ choice number rs
unfolding choice
chosen_is number rough rs old calls next at c n =
    n ∙ ap₂ choice_at (c ∙ ap (λ (k : ℕ). k + 1) at.calls) at.state

pub name_low : (calls state : ℕ) → (choice_at calls state).name < 256
unfolding choice_at
name_low calls state = omega arith

chosen_low : (number : ℕ) (rs : Replies) → (choice number rs).name < 256
unfolding choice
chosen_low number rs = name_low (length rs + 1) (seed number rs)

-- a place of the handles says what the place of its name does
placed : (l : List (Option Handle)) (p n : ℕ) (x : Option Handle) → length l ≡ 256 → n < 256 → p ≡ n
    → x ≡ slice_index_or l p x → x ≡ slice_index_or l n None
placed l p n x size low e is =
    let inside : p < length l = omega (arith, size, low, e) in
    is ∙ get_or_default l p x None inside ∙ ap (λ (k : ℕ). slice_index_or l k None) e

-- the call that is made is the workload's
pub called : (number rough : ℕ) (rs : Replies) (old : Driving) (calls p : ℕ) (next : Choice) (h : Option Handle)
    → DriverAt number rough rs old → length old.handles ≡ 256 → calls ≡ old.calls + 1 → next ≡ choice_at calls old.state
    → p ≡ next.name → h ≡ slice_index_or old.handles p h → call_of calls next h ≡ (drive number rough rs).call
unfolding drive
called number rough rs old calls p next h at size c n e is =
    let next_is = chosen_is number rough rs old calls next at c n in
    let low : next.name < 256 = subst (λ (x : Choice). x.name < 256) (sym next_is) (chosen_low number rs) in
    let h_is : h ≡ known number rs (choice number rs).name =
    placed old.handles p next.name h size low e is
    ∙ at.handles next.name low ∙ ap (λ (x : Choice). known number rs x.name) next_is in
    ap (λ (k : ℕ). call_of k next h) (c ∙ ap (λ (k : ℕ). k + 1) at.calls)
    ∙ ap₂ (λ (x : Choice) (o : Option Handle). call_of (length rs + 1) x o) next_is h_is

-- the driver goes on to the call
pub moved : (number rough : ℕ) (rs : Replies) (old : Driving) (calls s : ℕ) (next : Choice) (f : Option ℕ)
    → DriverAt number rough rs old → calls ≡ old.calls + 1 → next ≡ choice_at calls old.state
    → s ≡ drawn (drawn (drawn old.state)) → f ≡ fuse_of old.rough calls next.piece
    → DriverAt number rough (None ∷ rs) (record old { state = s; calls = calls; asked = Some next; fuse = f })
unfolding seed last_fuse drive
moved number rough rs old calls s next f at c n s_is f_is =
    let next_is = chosen_is number rough rs old calls next at c n in
    let calls_is : calls ≡ length rs + 1 = c ∙ ap (λ (k : ℕ). k + 1) at.calls in
    record {
      state = s_is ∙ ap (λ (s : ℕ). drawn (drawn (drawn s))) at.state;
      calls = omega (arith, calls_is);
      rough_is = at.rough_is;
      handles = λ b lt. at.handles b lt ∙ sym (untold number rs b);
      asked = ap (λ (x : Choice). Some x) next_is;
      fuse = f_is ∙ ap (λ (r : ℕ). fuse_of r calls next.piece) at.rough_is
          ∙ ap₂ (λ (k : ℕ) (x : Choice). fuse_of rough k x.piece) calls_is next_is;
    }

-- ---- a reply

one_of : (x y : Choice) → ◌≡◌ {A = Option Choice} (Some x) (Some y) → x ≡ y
one_of x y e = ap (λ (o : Option Choice). option_map_or (λ (c : Choice). c) o x) e

either : (b n : ℕ) (l x y : Option Handle) → (b ≡ n → l ≡ x) → ((b ≡ n → ⊥) → l ≡ y) → l ≡ cond (b == n) x y
either b n l x y here apart = go (b == n) refl
  where
    go : (e : Bool) → (b == n) ≡ e → l ≡ cond e x y
    go true e = here (eqb-true b n e)
    go false e = apart (eqb-false b n e)

-- the driver takes the reply
pub taught : (number rough : ℕ) (rs : Replies) (old : Driving) (p : ℕ) (last : Choice) (r : Reply) (was put : Option Handle)
    → DriverAt number rough (None ∷ rs) old → length old.handles ≡ 256 → old.asked ≡ Some last → p ≡ last.name
    → was ≡ slice_index_or old.handles p was → put ≡ learned last.kind (Some r) was
    → DriverAt number rough (Some r ∷ rs) (record old { handles = slice_set old.handles p put; asked = None })
unfolding seed known last_fuse
taught number rough rs old p last r was put at size e p_is is put_is =
    let last_is : last ≡ choice number rs = one_of last (choice number rs) (sym e ∙ at.asked) in
    let name_is : p ≡ (choice number rs).name = p_is ∙ ap (λ (x : Choice). x.name) last_is in
    let low : last.name < 256 = subst (λ (x : Choice). x.name < 256) (sym last_is) (chosen_low number rs) in
    let inside : p < length old.handles = omega (arith, size, low, p_is) in
    let was_is : was ≡ known number rs (choice number rs).name =
    placed old.handles p last.name was size low p_is is ∙ at.handles last.name low ∙ untold number rs last.name
    ∙ ap (λ (x : Choice). known number rs x.name) last_is in
    let put_known : put ≡ learned (choice number rs).kind (Some r) (known number rs (choice number rs).name) =
    put_is ∙ ap₂ (λ (k : Kind) (o : Option Handle). learned k (Some r) o) (ap (λ (x : Choice). x.kind) last_is) was_is in
    let here : (b : ℕ) → b ≡ (choice number rs).name → slice_index_or (slice_set old.handles p put) b None
    ≡ learned (choice number rs).kind (Some r) (known number rs b) = λ b same.
    get_or-set_at old.handles p b put None (same ∙ sym name_is) inside ∙ put_known
    ∙ ap (λ (k : ℕ). learned (choice number rs).kind (Some r) (known number rs k)) (sym same) in
    let apart : (b : ℕ) → b < 256 → (b ≡ (choice number rs).name → ⊥)
    → slice_index_or (slice_set old.handles p put) b None ≡ known number rs b = λ b lt ne.
    get_or-set_other old.handles p b put None (λ same. ne (same ∙ name_is)) ∙ at.handles b lt ∙ untold number rs b in
    record {
      state = at.state;
      calls = at.calls;
      rough_is = at.rough_is;
      handles = λ b lt. either b (choice number rs).name _ _ _ (λ same. here b same) (λ ne. apart b lt ne);
      asked = refl;
      fuse = at.fuse;
    }
