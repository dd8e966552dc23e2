-- What a buffer begins with, and writing into room that was reserved.
use Rattle.std.proofs.Common.{◌≡◌, ℕ, ◌+◌, ◌≤◌, List, ◌++◌, ◌∙◌, ap, sym, subst, append_assoc, arith, OnOk, OnErr, IsOk, Result}
use Rattle.std.proofs.Common.{Ok, Err}
use Rattle.std.specs.Prelude.{Vec, vec_len, vec_capacity}
use Rattle.xdr_grammar.specs.Grammar.{Grammar}
use Rattle.xdr_grammar.specs.Writing.{Begins, Puts}

pub begins_same : (front old new : List ℕ) → new ≡ old → Begins front old → Begins front new
begins_same front old new e h = record { rest = h.rest; is = e ∙ h.is }

pub begins_more : (front old new more : List ℕ) → new ≡ old ++ more → Begins front old → Begins front new
begins_more front old new more e h = record {
  rest = h.rest ++ more;
  is = e ∙ ap (λ t. t ++ more) h.is
      ∙ append_assoc front h.rest more;
}

pub begins_either : {X E : Type 0} (result : Result X E) (front old new more : List ℕ) → OnOk result (new ≡ old ++ more)
    → OnErr result (new ≡ old) → Begins front old → Begins front new
begins_either (Ok x) front old new more ok err h = begins_more front old new more ok h
begins_either (Err e) front old new more ok err h = begins_same front old new err h

-- a put that had room did not fail
pub not_failed : {X E : Type 0} (result : Result X E) (P : Type 0) → IsOk result → OnErr result P
not_failed (Ok x) P h = tt
not_failed (Err e) P h = absurd cc

-- a put into a buffer that had made room is a put into it as it was
pub reserved : {A Z X E : Type 0} (g : Grammar A) (v : A) (old made new : Vec ℕ Z) (result : Result X E) → made.items ≡ old.items
    → vec_len made ≡ vec_len old → vec_capacity old ≤ vec_capacity made
    → Puts g v made new result → Puts g v old new result
reserved g v old made new result items len capacity puts = record {
  ok = subst (λ held. OnOk result (new.items ≡ held ++ g.spelling v)) items puts.ok;
  len = subst (λ held. OnOk result (vec_len new ≡ held + g.size v)) len puts.len;
  front = λ front h. puts.front front (begins_same front old.items made.items items h);
  room = λ enough. puts.room (omega (arith, enough, len, capacity));
  capacity = omega (arith, capacity, puts.capacity);
}

-- two puts, one behind the other, are the put of what is spelled as both are
pub behind : {A B C Z X Y E : Type 0} (g : Grammar A) (h : Grammar B) (both : Grammar C) (a : A) (b : B) (c : C)
    (old mid new : Vec ℕ Z) (first : Result X E) (second : Result Y E)
    → both.spelling c ≡ g.spelling a ++ h.spelling b → both.size c ≡ g.size a + h.size b → IsOk first
    → Puts g a old mid first → Puts h b mid new second → Puts both c old new second
behind g h both a b c old mid new (Err e) second text size ok p q = absurd cc
behind g h both a b c old mid new (Ok x) (Ok y) text size ok p q = record {
  ok = q.ok ∙ ap (λ t. t ++ h.spelling b) p.ok ∙ append_assoc old.items (g.spelling a) (h.spelling b)
      ∙ ap (λ t. old.items ++ t) (sym text);
  len = omega (arith, p.len, q.len, size);
  front = λ front begins. q.front front (p.front front begins);
  room = λ enough. q.room (omega (arith, enough, p.len, p.capacity, size));
  capacity = omega (arith, p.capacity, q.capacity);
}
behind g h both a b c old mid new (Ok x) (Err e) text size ok p q = record {
  ok = tt;
  len = tt;
  front = λ front begins. q.front front (p.front front begins);
  room = λ enough. q.room (omega (arith, enough, p.len, p.capacity, size));
  capacity = omega (arith, p.capacity, q.capacity);
}
