-- The steps of the loops over entries.
use Rattle.std.proofs.Common.{◌≡◌, ℕ, ◌+◌, ◌≤◌, true, false, List, [], ◌∷◌, ◌++◌, length, take, Result, Ok, Err, sym, ap, ◌∙◌}
use Rattle.std.proofs.Common.{length-append, arith}
use Rattle.std.specs.Prelude.{Vec, vec_len, vec_capacity}
use Rattle.std.specs.List.{flat_map, sum_by}
use Rattle.xdr_grammar.specs.declared.fault.XdrFault.{XdrFault}
use Rattle.xdr_grammar.specs.Grammar.{Grammar}
use Rattle.xdr_grammar.specs.Items.{truth}
use Rattle.xdr_grammar.specs.Entries.{entries}
use Rattle.xdr_grammar.specs.Laws.{Laws}
use Rattle.xdr_grammar.specs.Writing.{Begins}
use Rattle.xdr_grammar.proofs.Loops.{with_front, entries_more, entries_end, entries_mark_fault, entries_entry_fault}
use Rattle.nfs3_res.specs.declared.fault.ResFault.{ResFault}
use Rattle.nfs3_res.specs.declared.fault.ResFault.TheVariants as faults
use Rattle.nfs3_res.specs.Reading.{Fails}

-- ---- reading

pub read_more : {A : Type 0} (g : Grammar A) → Laws g → (front : List A) (bytes after others : List ℕ) (x : A)
    (total : Result (List A × List ℕ) XdrFault)
    → truth.read bytes ≡ Ok (true, after) → g.read after ≡ Ok (x, others) → with_front front ((entries g).read bytes) ≡ total
    → with_front (front ++ x ∷ []) ((entries g).read others) ≡ total
read_more g laws front bytes after others x total t e so_far = sym (entries_more g laws front bytes after others x t e) ∙ so_far

pub read_ends : {A : Type 0} (g : Grammar A) → Laws g → (front : List A) (bytes after : List ℕ)
    (total : Result (List A × List ℕ) XdrFault)
    → truth.read bytes ≡ Ok (false, after) → with_front front ((entries g).read bytes) ≡ total → total ≡ Ok (front, after)
read_ends g laws front bytes after total t so_far = sym so_far ∙ entries_end g laws front bytes after t

pub mark_fails : {A : Type 0} (g : Grammar A) → Laws g → (front : List A) (bytes : List ℕ) (fault : XdrFault)
    (total : Result (List A × List ℕ) XdrFault)
    → truth.read bytes ≡ Err fault → with_front front ((entries g).read bytes) ≡ total → total ≡ Err fault
mark_fails g laws front bytes fault total t so_far = sym so_far ∙ entries_mark_fault g laws front bytes fault t

pub entry_fails : {A : Type 0} (g : Grammar A) → Laws g → (front : List A) (bytes after : List ℕ) (e : ResFault)
    (total : Result (List A × List ℕ) XdrFault)
    → truth.read bytes ≡ Ok (true, after) → Fails (g.read after) e → with_front front ((entries g).read bytes) ≡ total
    → Fails total e
entry_fails g laws front bytes after (faults.Bad fault) total t e so_far = sym so_far
    ∙ entries_entry_fault g laws front bytes after fault t e
entry_fails g laws front bytes after faults.NoMemory total t e so_far = tt

pub entry_shorter : {A : Type 0} (g : Grammar A) → Laws g → (after others : List ℕ) (x : A) → g.read after ≡ Ok (x, others)
    → length others ≤ length after
entry_shorter g laws after others x e = let f = laws.found after x others e in
    omega (arith, ap length f.parts, length-append f.front others)

-- ---- writing

-- the first items were put
pub record Added {A Z : Type 0} (g : Grammar A) (xs : List A) (i : ℕ) (before now : Vec ℕ Z) : Type 0 where
  pub text : now.items ≡ before.items ++ flat_map g.spelling (take i xs)
  pub long : vec_len now ≡ vec_len before + sum_by g.size (take i xs)
  pub front : (front : List ℕ) → Begins front before.items → Begins front now.items
  pub room : vec_capacity before ≤ vec_capacity now
