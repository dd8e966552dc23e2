-- Steps in a row: what the parts of each did, their parts in a row do, and the empty part does nothing.
use Rattle.std.proofs.Common.{ℕ, ◌+◌, List, [], ◌++◌, Option, Some, None, refl, sym, ◌∙◌, ap, append_assoc}
use Rattle.std.proofs.lemmas.List.{append-nil}
use Rattle.nfs3_types.proofs.CountLaws.{counted-nil, counted-in_a_row}
use Rattle.outside.specs.Told.{Gains, Loses, SourceTold, SinkTold, GaveBytes, GotBytes}

pub gains-nil : {X : Type 0} (told : Option (List X)) → Gains told told []
gains-nil None = tt
gains-nil (Some before) = sym (append-nil before)

pub gains-append : {X : Type 0} (old mid now : Option (List X)) (p q : List X) → Gains old mid p → Gains mid now q
    → Gains old now (p ++ q)
gains-append None mid now p q first then = tt
gains-append (Some x) None now p q first then = absurd first
gains-append (Some x) (Some y) None p q first then = absurd then
gains-append (Some x) (Some y) (Some z) p q first then = then ∙ ap (λ l. l ++ q) first ∙ append_assoc x p q

pub loses-nil : {X : Type 0} (told : Option (List X)) → Loses told told []
loses-nil None = tt
loses-nil (Some before) = refl

pub loses-append : {X : Type 0} (old mid now : Option (List X)) (p q : List X) → Loses old mid p → Loses mid now q
    → Loses old now (p ++ q)
loses-append None mid now p q first then = tt
loses-append (Some x) None now p q first then = absurd first
loses-append (Some x) (Some y) None p q first then = absurd then
loses-append (Some x) (Some y) (Some z) p q first then = first ∙ ap (λ l. p ++ l) then ∙ sym (append_assoc p q z)

pub gave_bytes-nil : {S : Type 0} (told : SourceTold S) (source : S) → GaveBytes told source source 0 []
gave_bytes-nil told source = record {
  gained = gains-nil (told.taken source);
  lost = loses-nil (told.left source);
  counted = counted-nil (told.takes source);
}

pub gave_bytes-append : {S : Type 0} (told : SourceTold S) (old mid now : S) (m n : ℕ) (p q : List ℕ)
    → GaveBytes told old mid m p → GaveBytes told mid now n q → GaveBytes told old now (m + n) (p ++ q)
gave_bytes-append told old mid now m n p q first then = record {
  gained = gains-append (told.taken old) (told.taken mid) (told.taken now) p q first.gained then.gained;
  lost = loses-append (told.left old) (told.left mid) (told.left now) p q first.lost then.lost;
  counted = counted-in_a_row m n (told.takes old) (told.takes mid) (told.takes now) first.counted then.counted;
}

pub got_bytes-nil : {K : Type 0} (told : SinkTold K) (sink : K) → GotBytes told sink sink []
got_bytes-nil told sink = gains-nil (told.written sink)

pub got_bytes-append : {K : Type 0} (told : SinkTold K) (old mid now : K) (p q : List ℕ) → GotBytes told old mid p
    → GotBytes told mid now q → GotBytes told old now (p ++ q)
got_bytes-append told old mid now p q = gains-append (told.written old) (told.written mid) (told.written now) p q
