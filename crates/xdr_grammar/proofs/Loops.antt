-- The steps of a loop that reads or writes entries: what was read so far stands before what the
-- grammar reads of the rest.
use Rattle.std.proofs.Common.{◌≡◌, ℕ, zero, suc, ◌+◌, ◌<◌, Bool, true, false, List, [], ◌∷◌, ◌++◌, length, Result, Ok, Err, refl}
use Rattle.std.proofs.Common.{sym, ap, ◌∙◌, append_assoc, length-append, arith}
use Rattle.std.specs.Prelude.{if◌then◌else◌}
use Rattle.std.proofs.lemmas.List.{append-nil}
use Rattle.xdr_grammar.specs.declared.fault.XdrFault.{XdrFault}
use Rattle.xdr_grammar.specs.Grammar.{Grammar, and_then}
use Rattle.xdr_grammar.specs.Items.{truth}
use Rattle.xdr_grammar.specs.Entries.{read_entries, entries}
use Rattle.xdr_grammar.specs.Laws.{Laws, Found}
use Rattle.xdr_grammar.proofs.Items.{truth-laws}
use Rattle.xdr_grammar.proofs.Entries.{mark-long, others_of, entry_of, mark_of}

same_then : {A B : Type 0} (r : Result A XdrFault) (f h : A → Result B XdrFault) → ((x : A) → r ≡ Ok x → f x ≡ h x)
    → and_then r f ≡ and_then r h
same_then (Ok x) f h same = same x refl
same_then (Err d) f h same = refl

-- ---- the bound does not matter

abbrev SameAt : {A : Type 0} → Grammar A → ℕ → ℕ → Type 0
SameAt g m n = (bytes : List ℕ) → length bytes < m → length bytes < n → read_entries m g bytes ≡ read_entries n g bytes

mark-same : {A : Type 0} (g : Grammar A) → Laws g → (m n : ℕ) → SameAt g m n → (bytes : List ℕ) (more : Bool) (after : List ℕ)
    → Found truth bytes more after
    → length bytes < suc m → length bytes < suc n → mark_of m g (more, after) ≡ mark_of n g (more, after)
mark-same g laws m n same bytes true after t lm ln = same_then (g.read after) (entry_of m g) (entry_of n g) (λ x e.
    let f = laws.found after x.0 x.1 e in
    let four = mark-long true t.front t.spelled in
    let less : length x.1 + 4 < suc (length bytes) =
    omega (arith, ap length t.parts, length-append t.front after, ap length f.parts, length-append f.front x.1) in
    ap (λ r. and_then r (others_of x.0)) (same x.1 (omega arith) (omega arith)))
mark-same g laws m n same bytes false after t lm ln = refl

read_entries-same : {A : Type 0} (g : Grammar A) → Laws g → (m n : ℕ) → SameAt g m n
unfolding read_entries
read_entries-same g laws zero n bytes lm ln = absurd (omega arith)
read_entries-same g laws (suc m) zero bytes lm ln = absurd (omega arith)
read_entries-same g laws (suc m) (suc n) bytes lm ln = same_then (truth.read bytes) (mark_of m g) (mark_of n g) (λ x e.
    mark-same g laws m n (read_entries-same g laws m n) bytes x.0 x.1 (truth-laws.found bytes x.0 x.1 e) lm ln)

-- what stands behind a true boolean, an entry and the other entries
abbrev pub behind_entry : {A : Type 0} → Grammar A → A × List ℕ → Result (List A × List ℕ) XdrFault
behind_entry g x = and_then ((entries g).read x.1) (λ xs. Ok (x.0 ∷ xs.0, xs.1))

-- what stands behind a boolean
abbrev pub behind_mark : {A : Type 0} → Grammar A → Bool × List ℕ → Result (List A × List ℕ) XdrFault
behind_mark g more = if more.0 then and_then (g.read more.1) (behind_entry g) else Ok ([], more.1)

mark-bound : {A : Type 0} (g : Grammar A) → Laws g → (m : ℕ) (bytes : List ℕ) (more : Bool) (after : List ℕ)
    → Found truth bytes more after
    → length bytes < suc m → mark_of m g (more, after) ≡ behind_mark g (more, after)
unfolding entries
mark-bound g laws m bytes true after t lm = same_then (g.read after) (entry_of m g) (behind_entry g) (λ x e.
    let f = laws.found after x.0 x.1 e in
    let four = mark-long true t.front t.spelled in
    let less : length x.1 + 4 < suc (length bytes) =
    omega (arith, ap length t.parts, length-append t.front after, ap length f.parts, length-append f.front x.1) in
    ap (λ r. and_then r (others_of x.0)) (read_entries-same g laws m (suc (length x.1)) x.1 (omega arith) (omega arith)))
mark-bound g laws m bytes false after t lm = refl

-- entries are a boolean and, where it is true, an entry and entries
pub entries-read : {A : Type 0} (g : Grammar A) → Laws g → (bytes : List ℕ) → (entries g).read bytes ≡ and_then (truth.read bytes)
    (behind_mark g)
unfolding entries read_entries
entries-read g laws bytes = same_then (truth.read bytes) (mark_of (length bytes) g) (behind_mark g) (λ x e.
    mark-bound g laws (length bytes) bytes x.0 x.1 (truth-laws.found bytes x.0 x.1 e) (omega arith))

-- ---- the steps of a reading loop

-- what a reading gives, behind the entries that were read before
abbrev pub with_front : {A : Type 0} → List A → Result (List A × List ℕ) XdrFault → Result (List A × List ℕ) XdrFault
with_front front (Ok xs) = Ok (front ++ xs.0, xs.1)
with_front front (Err fault) = Err fault

push_front : {A : Type 0} (front : List A) (x : A) (r : Result (List A × List ℕ) XdrFault)
    → with_front front (and_then r (λ xs. Ok (x ∷ xs.0, xs.1))) ≡ with_front (front ++ x ∷ []) r
push_front {A = A} front x (Ok xs) = ap (λ (ys : List A). Ok (ys, xs.1)) (sym (append_assoc front (x ∷ []) xs.0))
push_front front x (Err fault) = refl

-- one entry more
pub entries_more : {A : Type 0} (g : Grammar A) → Laws g → (front : List A) (bytes after others : List ℕ) (x : A)
    → truth.read bytes ≡ Ok (true, after) → g.read after ≡ Ok (x, others)
    → with_front front ((entries g).read bytes) ≡ with_front (front ++ x ∷ []) ((entries g).read others)
entries_more g laws front bytes after others x t e =
    ap (with_front front) (entries-read g laws bytes ∙ ap (λ r. and_then r (behind_mark g)) t
    ∙ ap (λ r. and_then r (behind_entry g)) e)
    ∙ push_front front x ((entries g).read others)

-- no entry more
pub entries_end : {A : Type 0} (g : Grammar A) → Laws g → (front : List A) (bytes after : List ℕ)
    → truth.read bytes ≡ Ok (false, after) → with_front front ((entries g).read bytes) ≡ Ok (front, after)
entries_end {A = A} g laws front bytes after t =
    ap (with_front front) (entries-read g laws bytes ∙ ap (λ r. and_then r (behind_mark g)) t)
    ∙ ap (λ (ys : List A). Ok (ys, after)) (append-nil front)

-- a fault in a boolean
pub entries_mark_fault : {A : Type 0} (g : Grammar A) → Laws g → (front : List A) (bytes : List ℕ) (fault : XdrFault)
    → truth.read bytes ≡ Err fault → with_front front ((entries g).read bytes) ≡ Err fault
entries_mark_fault g laws front bytes fault t = ap (with_front front) (entries-read g laws bytes
    ∙ ap (λ r. and_then r (behind_mark g)) t)

-- a fault in an entry
pub entries_entry_fault : {A : Type 0} (g : Grammar A) → Laws g → (front : List A) (bytes after : List ℕ) (fault : XdrFault)
    → truth.read bytes ≡ Ok (true, after) → g.read after ≡ Err fault → with_front front ((entries g).read bytes) ≡ Err fault
entries_entry_fault g laws front bytes after fault t e =
    ap (with_front front) (entries-read g laws bytes ∙ ap (λ r. and_then r (behind_mark g)) t
    ∙ ap (λ r. and_then r (behind_entry g)) e)
