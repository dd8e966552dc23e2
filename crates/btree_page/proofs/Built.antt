-- A page that is being built, and what one cell more makes of it.
use Rattle.std.proofs.Common.{◌≡◌, ℕ, ◌+◌, ◌<◌, ◌≤◌, Bool, true, false, List, [], ◌∷◌, ◌++◌, ◌-◌, length, take, drop, None}
use Rattle.std.proofs.Common.{Result, sym, ap, subst, ◌∙◌, arith, append_assoc}
use Rattle.std.specs.Prelude.{◌==◌}
use Rattle.std.specs.List.{flat_map}
use Rattle.std.specs.Int.{w16, w32, w64, to_be_bytes}
use Rattle.std.proofs.lemmas.List.{length-append, length-take, length-drop, append-nil}
use Rattle.pair_types.specs.declared.slot.Slot.{Slot}
use Rattle.btree_page.specs.declared.format.PageFormat.{PageFormat}
use Rattle.btree_page.specs.Content.{Carries, Entry, Content, string, head, spelling, entry_spelling, FitsBody, AreCells, Spells}
use Rattle.btree_page.specs.Content.{IsNext, with_cell, leaf_entry, inner_entry}
use Rattle.btree_page.specs.Reading.{Ahead, from_place}
use Rattle.btree_page.specs.Builder.{built, cells_in, IsBuilt, with_count}
use Rattle.btree_page.proofs.Index.{flat_map-push}
use Rattle.btree_page.proofs.Runs.{flat_append}
use Rattle.btree_page.proofs.Cells.{cells_again, cells_many, AreCells-push}

-- the bytes of a page that is built from these cells
abbrev pub bytes_of : ℕ → List Entry → List ℕ
bytes_of level cells = 1 ∷ level ∷ 0 ∷ 0 ∷ flat_map entry_spelling cells

pub built_is : (level : ℕ) (cells : List Entry) → AreCells (level == 0) None cells
    → built level (length cells) (bytes_of level cells) ≡ cells
built_is level cells rules =
    ap (λ (r : Result (List Entry × Ahead) PageFormat). cells_in r)
    (cells_again (level == 0) None cells (from_place (bytes_of level cells) 4) [] rules
    (sym (append-nil (flat_map entry_spelling cells))))

-- bytes that are spelled so are a page that is built
pub is_built : (level count spare : ℕ) (bytes : List ℕ) (cells : List Entry) → level < 256 → bytes ≡ bytes_of level cells
    → AreCells (level == 0) None cells → length cells ≡ count → length bytes ≤ 8192 → 8192 ≤ length bytes + spare
    → IsBuilt level count bytes spare × (built level count bytes ≡ cells)
is_built level count spare bytes cells byte spelled rules counted short room =
    let is : built level count bytes ≡ cells =
    ap (λ (n : ℕ). built level n bytes) (sym counted) ∙ (ap (λ (xs : List ℕ). built level (length cells) xs) spelled
    ∙ built_is level cells rules) in (
      record {
        byte = byte;
        spelled = spelled ∙ ap (λ (cs : List Entry). bytes_of level cs) (sym is);
        rules = subst (λ (cs : List Entry). AreCells (level == 0) None cs) (sym is) rules;
        counted = ap (λ (cs : List Entry). length cs) is ∙ counted;
        short = short;
        room = room;
      },
      is,
    )

-- a page that is built, with one cell more that is put behind it
pub built_more : (level count spare spare' : ℕ) (bytes bytes' : List ℕ) (e : Entry) → IsBuilt level count bytes spare
    → IsNext (record { level = level; cells = built level count bytes }) e
    → bytes' ≡ bytes ++ entry_spelling e → length bytes + length (entry_spelling e) ≤ 8192
    → spare' + length (entry_spelling e) ≡ spare
    → IsBuilt level (count + 1) bytes' spare' × (built level (count + 1) bytes' ≡ built level count bytes ++ e ∷ [])
built_more level count spare spare' bytes bytes' e h next is short room =
    let cells = built level count bytes in
    let spelled : bytes' ≡ bytes_of level (cells ++ e ∷ []) =
    is ∙ (ap (λ (xs : List ℕ). xs ++ entry_spelling e) h.spelled ∙ ap (λ (xs : List ℕ). 1 ∷ level ∷ 0 ∷ 0 ∷ xs)
    (sym (flat_map-push cells e))) in
    let len : length bytes' ≡ length bytes + length (entry_spelling e) = ap (λ (xs : List ℕ). length xs) is
    ∙ length-append bytes (entry_spelling e) in
    is_built level (count + 1) spare' bytes' (cells ++ e ∷ []) h.byte spelled
    (AreCells-push (level == 0) None cells e h.rules next.fits next.follows)
    (omega (arith, length-append cells (e ∷ []), h.counted))
    (omega (arith, len)) (omega (arith, len, h.room))

-- how long the page is with one cell more
pub size_more : (level count spare : ℕ) (bytes : List ℕ) (e : Entry) → IsBuilt level count bytes spare
    → length (spelling (with_cell (record { level = level; cells = built level count bytes }) e)) ≡ length bytes + length
    (entry_spelling e)
size_more level count spare bytes e h =
    let cells = built level count bytes in
    omega (
      arith,
      ap (λ (xs : List ℕ). length xs) h.spelled,
      ap (λ (xs : List ℕ). length xs) (flat_map-push cells e),
      length-append (flat_map entry_spelling cells) (entry_spelling e),
      length-append (head level (length (cells ++ e ∷ []))) (flat_map entry_spelling (cells ++ e ∷ [])),
    )

pub leaf_size : (key : List ℕ) (birth death : ℕ) (value : List ℕ)
    → length (entry_spelling (leaf_entry key birth death value)) ≡ 20 + length key + length value
leaf_size key birth death value =
    omega (
      arith,
      length-append (string key) (to_be_bytes w64 birth ++ (to_be_bytes w64 death ++ string value)),
      length-append (to_be_bytes w64 birth) (to_be_bytes w64 death ++ string value),
      length-append (to_be_bytes w64 death) (string value),
      length-append (to_be_bytes w16 (length key)) key,
      length-append (to_be_bytes w16 (length value)) value,
    )

pub inner_size : (key : List ℕ) (birth : ℕ) (child : Slot) → length (entry_spelling (inner_entry key birth child)) ≡ 22 + length
    key
inner_size key birth child =
    omega (
      arith,
      length-append (string key) (to_be_bytes w64 birth ++ (to_be_bytes w32 child.store ++ to_be_bytes w64 child.number)),
      length-append (to_be_bytes w64 birth) (to_be_bytes w32 child.store ++ to_be_bytes w64 child.number),
      length-append (to_be_bytes w32 child.store) (to_be_bytes w64 child.number),
      length-append (to_be_bytes w16 (length key)) key,
    )

pub value_short : (is_leaf : Bool) (death : ℕ) (value : List ℕ) → FitsBody is_leaf (Carries death value) → length value ≤ 1200
value_short true death value h = h.1
value_short false death value h = absurd h

-- the cells so far are few
pub few : (level count spare : ℕ) (bytes : List ℕ) → IsBuilt level count bytes spare → count < 8192
few level count spare bytes h =
    omega (
      arith,
      ap (λ (xs : List ℕ). length xs) h.spelled,
      cells_many (level == 0) None (built level count bytes) h.rules,
      h.counted,
      h.short,
    )

-- with the number of cells in its head, what was built is the spelling of its content
pub finished : (level count spare : ℕ) (bytes page : List ℕ) → IsBuilt level count bytes spare
    → (0 < level → 2 ≤ length (built level count bytes)) → page ≡ with_count bytes count
    → Spells (record { level = level; cells = built level count bytes }) page
finished level count spare bytes page h least is =
    let cells = built level count bytes in
    let same : spelling (record { level = level; cells = cells }) ≡ page =
    ap (λ (n : ℕ). head level n ++ flat_map entry_spelling cells) h.counted
    ∙ (sym (ap (λ (xs : List ℕ). with_count xs count) h.spelled) ∙ sym is) in
    record {
      rules = record {
        level = h.byte;
        cells = h.rules;
        least = least;
        size = omega (
          arith,
          ap (λ (xs : List ℕ). length xs) h.spelled,
          h.short,
          length-append (head level (length cells))
              (flat_map entry_spelling cells),
        );
      };
      text = same;
    }

-- four parts put one behind the other
pub joined : (old x y z w zr wr a b c : List ℕ) → zr ≡ z → wr ≡ w → a ≡ (old ++ x) ++ y → b ≡ a ++ zr → c ≡ b ++ wr
    → c ≡ old ++ (x ++ (y ++ (z ++ w)))
joined old x y z w zr wr a b c zs ws p q r =
    let whole : c ≡ (((old ++ x) ++ y) ++ z) ++ w =
    r ∙ (ap (λ (t : List ℕ). t ++ wr) (q ∙ ap (λ (t : List ℕ). t ++ zr) p)
    ∙ (ap (λ (t : List ℕ). (((old ++ x) ++ y) ++ t) ++ wr) zs ∙ ap (λ (t : List ℕ). (((old ++ x) ++ y) ++ z) ++ t) ws)) in
    whole ∙ simp append_assoc

-- what one cell more makes of the page that is seen
pub added : (page : Content) (level count spare spare' : ℕ) (bytes bytes' : List ℕ) (e : Entry)
    → record { level = level; cells = built level count bytes } ≡ page → IsBuilt level count bytes spare → IsNext page e
    → bytes' ≡ bytes ++ entry_spelling e → length bytes + length (entry_spelling e) ≤ 8192
    → spare' + length (entry_spelling e) ≡ spare
    → IsBuilt level (count + 1) bytes' spare'
    × (record { level = level; cells = built level (count + 1) bytes' } ≡ with_cell page e)
added page level count spare spare' bytes bytes' e view h next is short room =
    let here : IsNext (record { level = level; cells = built level count bytes }) e =
    subst (λ (p : Content). IsNext p e) (sym view) next in
    let more = built_more level count spare spare' bytes bytes' e h here is short room in (
      more.0,
      ap (λ (cs : List Entry). let made : Content = record { level = level; cells = cs } in made) more.1
          ∙ ap (λ (p : Content). with_cell p e) view,
    )

pub size_with : (page : Content) (level count spare : ℕ) (bytes : List ℕ) (e : Entry)
    → record { level = level; cells = built level count bytes } ≡ page → IsBuilt level count bytes spare
    → length (spelling (with_cell page e)) ≡ length bytes + length (entry_spelling e)
size_with page level count spare bytes e view h =
    ap (λ (p : Content). length (spelling (with_cell p e))) (sym view) ∙ size_more level count spare bytes e h

-- what a run of cells makes of the page that is seen
pub added_run : (page : Content) (level count spare spare' n : ℕ) (bytes bytes' : List ℕ) (run : List Entry)
    → record { level = level; cells = built level count bytes } ≡ page → IsBuilt level count bytes spare
    → AreCells (page.level == 0) None (page.cells ++ run)
    → length run ≡ n → bytes' ≡ bytes ++ flat_map entry_spelling run → length bytes + length (flat_map entry_spelling run) ≤ 8192
    → spare' + length (flat_map entry_spelling run) ≡ spare
    → IsBuilt level (count + n) bytes' spare'
    × (record { level = level; cells = built level (count + n) bytes' } ≡ record page { cells = page.cells ++ run })
added_run page level count spare spare' n bytes bytes' run view h rules long is short room =
    let cells = built level count bytes in
    let here : AreCells (level == 0) None (cells ++ run) = subst (λ (p : Content). AreCells (p.level == 0) None (p.cells ++ run))
    (sym view) rules in
    let spelled : bytes' ≡ bytes_of level (cells ++ run) =
    is ∙ (ap (λ (xs : List ℕ). xs ++ flat_map entry_spelling run) h.spelled ∙ ap (λ (xs : List ℕ). 1 ∷ level ∷ 0 ∷ 0 ∷ xs)
    (sym (flat_append cells run))) in
    let len : length bytes' ≡ length bytes + length (flat_map entry_spelling run) = ap (λ (xs : List ℕ). length xs) is
    ∙ length-append bytes (flat_map entry_spelling run) in
    let more = is_built level (count + n) spare' bytes' (cells ++ run) h.byte spelled here
    (omega (arith, length-append cells run, h.counted, long)) (omega (arith, len, short)) (omega (arith, len, h.room, room)) in (
      more.0,
      ap (λ (cs : List Entry). let made : Content = record { level = level; cells = cs } in made) more.1
          ∙ ap (λ (p : Content). let made : Content = record { level = p.level; cells = p.cells ++ run } in made) view,
    )

-- how long the page is with a run of cells more
pub size_run : (page : Content) (level count spare : ℕ) (bytes : List ℕ) (run : List Entry)
    → record { level = level; cells = built level count bytes } ≡ page → IsBuilt level count bytes spare
    → length (spelling (record page { cells = page.cells ++ run })) ≡ length bytes + length (flat_map entry_spelling run)
size_run page level count spare bytes run view h =
    let cells = built level count bytes in
    let here : length (spelling (record { level = level; cells = cells ++ run })) ≡ length bytes + length
    (flat_map entry_spelling run) = omega (
      arith,
      ap (λ (xs : List ℕ). length xs) h.spelled,
      ap (λ (xs : List ℕ). length xs) (flat_append cells run),
      length-append (flat_map entry_spelling cells) (flat_map entry_spelling run),
      length-append (head level (length (cells ++ run))) (flat_map entry_spelling (cells ++ run)),
    ) in
    subst (λ (p : Content). length (spelling (record { level = p.level; cells = p.cells ++ run })) ≡ length bytes + length
    (flat_map entry_spelling run)) view here

-- as many cells as the run takes
pub run_long : (cells : List Entry) (from to : ℕ) → from ≤ to → to ≤ length cells
    → length (take (to - from) (drop from cells)) ≡ to - from
run_long cells from to le within = omega (arith, length-take (to - from) (drop from cells), length-drop from cells)
