-- What a journal tells once it gained the entries of a step.
use Rattle.std.proofs.Common.{arith, ◌≡◌, ◌≢◌, ℕ, ◌+◌, ◌*◌, ◌^◌, ◌<◌, ◌≤◌, ◌==◌, Bool, true, false, cond, List, [], ◌∷◌, ◌++◌}
use Rattle.std.proofs.Common.{length, Option, Some, None, Result, Ok, Err, refl, ap, sym, ◌∙◌, subst, append_assoc}
use Rattle.std.specs.Prelude.{reverse, if◌then◌else◌}
use Rattle.std.proofs.lemmas.Bool.Decides.{nat_tests}
use Rattle.std.proofs.lemmas.List.{append-nil}
use Rattle.pair_types.specs.PageMaps.{PageMap}
use Rattle.pair_types.specs.declared.fault.StepFault.{StepFault}
use Rattle.nfs3_types.specs.declared.entry.Entry.{Entry}
use Rattle.page_types.specs.declared.command.Command.{Command}
use Rattle.page_types.specs.declared.command.Command.TheVariants.{Fresh, Read, Look, Write, Prepare, Decide, Resolve}
use Rattle.page_types.specs.declared.answer.Answer.{Answer}
use Rattle.page_types.specs.declared.outcome.Outcome.{Outcome}
use Rattle.page_types.specs.declared.command.Transaction.{Transaction}
use Rattle.page_types.specs.declared.command.Part.{Part}
use Rattle.pair_types.specs.declared.slot.Tid.{Tid}
use Rattle.page_types.specs.declared.journal.JEntry.{JEntry}
use Rattle.page_types.specs.declared.journal.JEntry.TheVariants.{Took, Doubted, Late}
use Rattle.page_types.specs.Asked.{first_of}
use Rattle.page_types.specs.Fair.{IsFair}
use Rattle.page_types.specs.Journals.{Origin, own}
use Rattle.page_types.specs.Stores.{StoreState, first_state, first_next}
use Rattle.page_types.specs.Obeys.{after, after_write, after_prepare, after_decide, write_refusal, prepare_refusal}
use Rattle.page_store.specs.Shown.{after_maybe}
use Rattle.paxos_group.specs.Formed.{list_of}
use Rattle.serial_rules.specs.Worlds.{first_page, replay, pending}
use Rattle.serial_rules.specs.Lawful.{Answered, FairList}
use Rattle.store_group.specs.Behind.{settled_by}
use Rattle.store_group.specs.Journal.{Request, gained, with_late, with_own, with_doubt}
use Rattle.fabric.specs.Settled.{settled, steps, taken}
use Rattle.fabric.proofs.Lists.{reverse_cons}

pub equal_to_self : (n : ℕ) → (n == n) ≡ true
equal_to_self n = grind (arith, nat_tests)

pub are_equal : (n m : ℕ) → (n == m) ≡ true → n ≡ m
are_equal n m e = grind (arith, nat_tests, e)

pub not_equal : (n m : ℕ) → n ≢ m → (n == m) ≡ false
not_equal n m ne = grind (arith, nat_tests, ne)

-- ## Steps

pub gained_steps : (asked : Request) (late : Option (Command × Answer)) (result : Result Answer StepFault) (doubted : Bool)
    (es : List JEntry) →
    steps (gained asked late result doubted es) ≡ steps es + taken result doubted
gained_steps asked None (Ok a) doubted es = refl
gained_steps asked (Some l) (Ok a) doubted es = refl
gained_steps asked None (Err f) true es = refl
gained_steps asked (Some l) (Err f) true es = refl
gained_steps asked None (Err f) false es = omega arith
gained_steps asked (Some l) (Err f) false es = omega arith

-- ## The pass's own entries

module _ {S : Type 0} (stands : PageMap → S → Type 0) (next : S → List ℕ → Entry → S → Type 0) (stores : ℕ) where
  took_fair : (p : ℕ) (asked : Request) (a : Answer) (es : List JEntry) (b : Bool) → (asked.pass == p) ≡ b →
      FairList stands next stores (own p es) →
      IsFair stands next stores (own asked.pass es) asked.pass asked.store asked.command →
      FairList stands next stores (if b then Took asked.pass asked.store asked.command a ∷ own p es else own p es)
  took_fair p asked a es true is f fair =
      (f, subst (λ q. IsFair stands next stores (own q es) asked.pass asked.store asked.command) (are_equal asked.pass p is) fair)
  took_fair p asked a es false is f fair = f

  doubted_fair : (p : ℕ) (asked : Request) (es : List JEntry) (b : Bool) → (asked.pass == p) ≡ b →
      FairList stands next stores (own p es) →
      IsFair stands next stores (own asked.pass es) asked.pass asked.store asked.command →
      FairList stands next stores (if b then Doubted asked.pass asked.store asked.command ∷ own p es else own p es)
  doubted_fair p asked es true is f fair =
      (f, subst (λ q. IsFair stands next stores (own q es) asked.pass asked.store asked.command) (are_equal asked.pass p is) fair)
  doubted_fair p asked es false is f fair = f

  pub gained_fair : (asked : Request) (late : Option (Command × Answer)) (result : Result Answer StepFault) (doubted : Bool)
      (es : List JEntry) →
      ((p : ℕ) → FairList stands next stores (own p es)) →
      IsFair stands next stores (own asked.pass es) asked.pass asked.store asked.command →
      (p : ℕ) → FairList stands next stores (own p (gained asked late result doubted es))
  gained_fair asked None (Ok a) doubted es f fair p = took_fair p asked a es (asked.pass == p) refl (f p) fair
  gained_fair asked (Some l) (Ok a) doubted es f fair p = took_fair p asked a es (asked.pass == p) refl (f p) fair
  gained_fair asked None (Err x) true es f fair p = doubted_fair p asked es (asked.pass == p) refl (f p) fair
  gained_fair asked (Some l) (Err x) true es f fair p = doubted_fair p asked es (asked.pass == p) refl (f p) fair
  gained_fair asked None (Err x) false es f fair p = f p
  gained_fair asked (Some l) (Err x) false es f fair p = f p

-- a pass took no more steps than all
own_step : (p : ℕ) (e : JEntry) (es : List JEntry) (b : Bool) (n : ℕ) → length (own p es) ≤ n →
    length (if b then e ∷ own p es else own p es) ≤ n + 1
own_step p e es true n l = omega arith
own_step p e es false n l = omega arith

pub own_most : (p : ℕ) (es : List JEntry) → length (own p es) ≤ steps es
own_most p [] = omega arith
own_most p (Took pass store c a ∷ es) = own_step p (Took pass store c a) es (pass == p) (steps es) (own_most p es)
own_most p (Doubted pass store c ∷ es) = own_step p (Doubted pass store c) es (pass == p) (steps es) (own_most p es)
own_most p (Late store c a ∷ es) = own_most p es

-- ## What was settled at the store, and what stays at each other one

pub gained_settled : (asked : Request) (late : Option (Command × Answer)) (result : Result Answer StepFault) (doubted : Bool)
    (es : List JEntry) → reverse (settled (gained asked late result doubted es) asked.store)
    ≡ reverse (settled es asked.store) ++ settled_by late result asked.command
gained_settled asked None (Ok a) doubted es = rw (equal_to_self asked.store) (reverse_cons asked.command (settled es asked.store))
gained_settled asked (Some l) (Ok a) doubted es = rw (equal_to_self asked.store)
    (reverse_cons asked.command (l.0 ∷ settled es asked.store)
    ∙ (ap (λ xs. xs ++ asked.command ∷ []) (reverse_cons l.0 (settled es asked.store))
    ∙ append_assoc (reverse (settled es asked.store)) (l.0 ∷ []) (asked.command ∷ [])))
gained_settled asked None (Err f) true es = sym (append-nil (reverse (settled es asked.store)))
gained_settled asked None (Err f) false es = sym (append-nil (reverse (settled es asked.store)))
gained_settled asked (Some l) (Err f) true es = rw (equal_to_self asked.store) (reverse_cons l.0 (settled es asked.store))
gained_settled asked (Some l) (Err f) false es = rw (equal_to_self asked.store) (reverse_cons l.0 (settled es asked.store))

-- the journal tells the same of a store
pub record IsAlike (origin : Origin) (es fs : List JEntry) (store : ℕ) : Type 0 where
  pub replayed : replay origin fs store ≡ replay origin es store
  pub waits : pending fs store ≡ pending es store
  pub obeyed : settled fs store ≡ settled es store

pub elsewhere : (o : Origin) (asked : Request) (late : Option (Command × Answer)) (result : Result Answer StepFault)
    (doubted : Bool)
    (es : List JEntry) (k : ℕ) → (asked.store == k) ≡ false → IsAlike o es (gained asked late result doubted es) k
elsewhere o asked None (Ok a) doubted es k ne = record { replayed = rw ne refl; waits = refl; obeyed = rw ne refl }
elsewhere o asked (Some l) (Ok a) doubted es k ne = record { replayed = rw ne refl; waits = rw ne refl; obeyed = rw ne refl }
elsewhere o asked None (Err f) true es k ne = record { replayed = refl; waits = rw ne refl; obeyed = refl }
elsewhere o asked (Some l) (Err f) true es k ne = record { replayed = rw ne refl; waits = rw ne refl; obeyed = rw ne refl }
elsewhere o asked None (Err f) false es k ne = record { replayed = refl; waits = refl; obeyed = refl }
elsewhere o asked (Some l) (Err f) false es k ne = record { replayed = rw ne refl; waits = rw ne refl; obeyed = rw ne refl }

-- ## Room: no more was settled, and no more numbers were given, than steps were taken

waiting_room : (d : Option Command) (c : Command) → length (list_of (first_of d (Some c))) ≤ length (list_of d) + 1
waiting_room None c = omega arith
waiting_room (Some x) c = omega arith

some_waits : (d : Option Command) (c : Command) → d ≡ Some c → length (list_of d) ≡ 1
some_waits None c e = (cc)
some_waits (Some x) c e = refl

settled_took : (b : Bool) (c : Command) (xs : List Command) (n m : ℕ) → length xs + n ≤ m →
    length (if b then c ∷ xs else xs) + n ≤ m + 1
settled_took true c xs n m l = omega arith
settled_took false c xs n m l = omega arith

settled_late : (b : Bool) (c : Command) (xs : List Command) (d : Option Command) (m : ℕ) → (b ≡ true → length (list_of d) ≡ 1) →
    length xs + length (list_of d) ≤ m → length (if b then c ∷ xs else xs) + length (list_of (if b then None else d)) ≤ m
settled_late true c xs d m one l = let e = one refl in omega (arith, e)
settled_late false c xs d m one l = l

settled_doubted : (b : Bool) (c : Command) (n : ℕ) (d : Option Command) (m : ℕ) → n + length (list_of d) ≤ m →
    n + length (list_of (if b then first_of d (Some c) else d)) ≤ m + 1
settled_doubted true c n d m l = omega (arith, waiting_room d c)
settled_doubted false c n d m l = omega arith

pub settled_room : (o : Origin) (es : List JEntry) → Answered o es → (k : ℕ) →
    length (settled es k) + length (list_of (pending es k)) ≤ steps es
settled_room o [] a k = omega arith
settled_room o (Took pass store c x ∷ es) a k =
    settled_took (store == k) c (settled es k) (length (list_of (pending es k))) (steps es) (settled_room o es a.0 k)
settled_room o (Doubted pass store c ∷ es) a k =
    settled_doubted (store == k) c (length (settled es k)) (pending es k) (steps es) (settled_room o es a k)
settled_room o (Late store c x ∷ es) a k = settled_late (store == k) c (settled es k) (pending es k) (steps es)
    (λ e. some_waits (pending es k) c (subst (λ s. pending es s ≡ Some c) (are_equal store k e) a.1.waited))
    (settled_room o es a.0 k)

wrote_next : (o : Option Answer) (s : StoreState) (x : Transaction) → (after_write o s x).next ≡ s.next
wrote_next (Some a) s x = refl
wrote_next None s x = refl

prepared_next : (o : Option Answer) (s : StoreState) (part : Part) → (after_prepare o s part).next ≡ s.next
prepared_next (Some a) s part = refl
prepared_next None s part = refl

decided_next : (o : Option Outcome) (s : StoreState) (tid : Tid) (p : Outcome) → (after_decide o s tid p).next ≡ s.next
decided_next (Some e) s tid p = refl
decided_next None s tid p = refl

after_next : (s : StoreState) (c : Command) → (after s c).next ≤ s.next + 1
after_next s Fresh = omega arith
after_next s (Read n) = omega arith
after_next s (Look ns) = omega arith
after_next s (Write x) = let e = wrote_next (write_refusal s x) s x in omega (arith, e)
after_next s (Prepare part) = let e = prepared_next (prepare_refusal s part) s part in omega (arith, e)
after_next s (Decide d) = let e = decided_next (s.decided d.tid) s d.tid d.outcome in omega (arith, e)
after_next s (Resolve r) = omega arith

first_next_most : (p : Option (List ℕ)) → (first_state p).next ≤ 1
first_next_most None = omega arith
first_next_most (Some page) = omega arith

next_took : (b : Bool) (s t : StoreState) (c : Command) (n m : ℕ) → (b ≡ true → s ≡ t) → t.next + n ≤ m →
    (if b then after s c else t).next + n ≤ m + 1
next_took true s t c n m e l = let h : (after t c).next ≤ t.next + 1 = after_next t c in
    let g : (after s c).next ≡ (after t c).next = ap (λ (x : StoreState). (after x c).next) (e refl) in omega (arith, h, g)
next_took false s t c n m e l = omega arith

next_late : (b : Bool) (s t : StoreState) (c : Command) (d : Option Command) (m : ℕ) → (b ≡ true → s ≡ t) →
    (b ≡ true → length (list_of d) ≡ 1) →
    t.next + length (list_of d) ≤ m → (if b then after s c else t).next + length (list_of (if b then None else d)) ≤ m
next_late true s t c d m e one l = let h : (after t c).next ≤ t.next + 1 = after_next t c in
    let g : (after s c).next ≡ (after t c).next = ap (λ (x : StoreState). (after x c).next) (e refl) in
    let k = one refl in omega (arith, h, g, k)
next_late false s t c d m e one l = l

pub next_room : (o : Origin) (es : List JEntry) → Answered o es → (k : ℕ) →
    (replay o es k).next + length (list_of (pending es k)) ≤ steps es + 1
next_room o [] a k = let h = first_next_most (first_page o k) in omega (arith, h)
next_room o (Took pass store c x ∷ es) a k = next_took (store == k) (replay o es store) (replay o es k) c
    (length (list_of (pending es k)))
    (steps es + 1) (λ e. ap (replay o es) (are_equal store k e)) (next_room o es a.0 k)
next_room o (Doubted pass store c ∷ es) a k =
    settled_doubted (store == k) c (replay o es k).next (pending es k) (steps es + 1) (next_room o es a k)
next_room o (Late store c x ∷ es) a k = next_late (store == k) (replay o es store) (replay o es k) c (pending es k) (steps es + 1)
    (λ e. ap (replay o es) (are_equal store k e))
    (λ e. some_waits (pending es k) c (subst (λ s. pending es s ≡ Some c) (are_equal store k e) a.1.waited))
    (next_room o es a.0 k)

pub next_most : (s : StoreState) (d : Option Command) (m : ℕ) → s.next + length (list_of d) ≤ m → (after_maybe s d).next ≤ m
next_most s None m l = omega arith
next_most s (Some c) m l = let h = after_next s c in omega (arith, h)
