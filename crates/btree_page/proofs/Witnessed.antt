-- The smallest trees are trees.
use Rattle.std.proofs.Common.{◌≡◌, ◌≢◌, ℕ, zero, suc, ◌<◌, ⊎_elim, List, [], ◌∷◌, ◌++◌, Option, Some, None, IsSome, refl, sym, ap}
use Rattle.std.proofs.Common.{subst, ◌∙◌, arith}
use Rattle.std.proofs.lemmas.List.{length-append}
use Rattle.pair_types.specs.declared.slot.Slot.{Slot}
use Rattle.btree_page.specs.Content.{Bound, IsBelow, Spells, spelling, head, entry_spelling, inner_entry}
use Rattle.btree_page.specs.Tree.{Apart, quad_cell, Child, child_cell}
use Rattle.btree_page.specs.Witness.{slot, record_at, leaf_of, in_store, one_leaf, two_leaves, AreTrees}
use Rattle.btree_page.proofs.Built.{leaf_size, inner_size}

none_is_not_some : IsSome {T = List ℕ} None → ⊥
none_is_not_some h = cc

in_range : (pages : ℕ → Option (List ℕ)) (store number : ℕ) → IsSome (in_store pages store number) → store < 1
in_range pages zero number h = omega arith
in_range pages (suc store) number h = absurd (none_is_not_some h)

one_record : (byte : ℕ) → Spells (record { level = 0; cells = quad_cell (record_at byte) ∷ [] }) (leaf_of (record_at byte ∷ []))
one_record byte = record {
  rules = record {
    level = omega arith;
    cells = (record { key = omega arith; birth = omega arith; body = (omega arith, omega arith) }, (tt, tt));
    least = λ up. absurd (omega arith);
    size = omega (
      arith,
      length-append (head 0 1) (entry_spelling (quad_cell (record_at byte)) ++ []),
      length-append (entry_spelling (quad_cell (record_at byte))) [],
      leaf_size (byte ∷ []) 1 18446744073709551615 [],
    );
  };
  text = refl;
}

no_records : Spells (record { level = 0; cells = [] }) (leaf_of [])
no_records = record {
  rules = record { level = omega arith; cells = tt; least = λ up. absurd (omega arith); size = omega arith };
  text = refl;
}

abbrev second : Child
second = record { bound = record { key = 98 ∷ []; birth = 0 }; slot = slot 2 }

two_children : Spells (record { level = 1; cells = inner_entry [] 0 (slot 1) ∷ (child_cell second ∷ []) })
    (spelling (record { level = 1; cells = inner_entry [] 0 (slot 1) ∷ (child_cell second ∷ []) }))
two_children = record {
  rules = record {
    level = omega arith;
    cells = (
      record { key = omega arith; birth = omega arith; body = (omega arith, omega arith) },
      (
        (refl, refl),
        (record { key = omega arith; birth = omega arith; body = (omega arith, omega arith) }, (refl, tt)),
      ),
    );
    least = λ up. omega arith;
    size = omega (
      arith,
      length-append (head 1 2) (entry_spelling (inner_entry [] 0 (slot 1)) ++ (entry_spelling (child_cell second) ++ [])),
      length-append (entry_spelling (inner_entry [] 0 (slot 1))) (entry_spelling (child_cell second) ++ []),
      length-append (entry_spelling (child_cell second)) [],
      inner_size [] 0 (slot 1),
      inner_size (98 ∷ []) 0 (slot 2),
    );
  };
  text = refl;
}

apart : (m n : ℕ) → m ≢ n → Apart (slot m ∷ []) (slot n ∷ [])
apart m n isnt = record {
  none = λ s here there.
      ⊎_elim (λ e. ⊎_elim (λ f. isnt (ap (λ (x : Slot). x.number) (sym e ∙ f))) (λ no. no) there) (λ no. no) here;
}

number_apart : (m n : ℕ) → m ≢ n → slot m ≡ slot n → ⊥
number_apart m n isnt e = isnt (ap (λ (x : Slot). x.number) e)

under : (end : Bound) → Some second.bound ≡ Some end → IsBelow (record { key = 97 ∷ []; birth = 1 }) end
under end is =
    let e : second.bound ≡ end = cc in subst (λ (b : Bound). IsBelow (record { key = 97 ∷ []; birth = 1 }) b) e refl

pub trees : AreTrees
trees = record {
  one = record {
    in_range = λ s some. in_range one_leaf s.store s.number some;
    level = 0;
    height = omega arith;
    tree = record { page = record { bytes = leaf_of []; held = refl; spelled = no_records }; within = tt; reached = refl };
  };
  two = record {
    in_range = λ s some. in_range two_leaves s.store s.number some;
    level = 1;
    height = omega arith;
    tree = record {
      first = slot 1;
      rest = second ∷ [];
      below = slot 1 ∷ (slot 2 ∷ []);
      page = record { bytes = _; held = refl; spelled = two_children };
      within = (record { from = λ is. absurd cc; to = λ end is. absurd cc }, tt);
      kids = record {
        quads_left = record_at 97 ∷ [];
        quads_right = record_at 98 ∷ [];
        slots_left = slot 1 ∷ [];
        slots_right = slot 2 ∷ [];
        left = record {
          page = record { bytes = _; held = refl; spelled = one_record 97 };
          within = (record { from = λ is. absurd cc; to = λ end is. under end is }, tt);
          reached = refl;
        };
        right = record {
          page = record { bytes = _; held = refl; spelled = one_record 98 };
          within = (record { from = λ is. absurd cc; to = λ end is. absurd cc }, tt);
          reached = refl;
        };
        all_quads = refl;
        all_slots = refl;
        apart = apart 1 2 (λ is. absurd cc);
      };
      reached = refl;
      apart = λ there. ⊎_elim (λ e. number_apart 0 1 (λ is. absurd cc) e)
          (λ more. ⊎_elim (λ e. number_apart 0 2 (λ is. absurd cc) e) (λ no. no) more) there;
    };
  };
}
