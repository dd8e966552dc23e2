-- Lists of entries merged, and accounts of one call more.
use Rattle.std.proofs.Common.{◌≡◌, ℕ, ◌+◌, ◌≤◌, List, [], ◌∷◌, ◌++◌, map, sum_by, refl, ap, sym, ◌∙◌, subst, arith, ◌⊎◌, inl, inr}
use Rattle.std.proofs.lemmas.List.{map-append}
use Rattle.std.proofs.lemmas.List.Sums.{sum_by-cons}
use Rattle.nfs3_types.specs.declared.entry.Entry.{Entry}
use Rattle.nfs3_types.specs.declared.reply.Reply.{Reply}
use Rattle.call_accounts.specs.Asked.{Given, Replied, Jukebox, Serverfault, LacksMemory, Unanswered, Called, Asked, Told}
use Rattle.call_accounts.specs.Asked.{called_in, told_in, acknowledged, open_calls}
use Rattle.call_accounts.specs.Accounts.{Merges, Accounts}

-- what the calls of these weigh
abbrev pub weighed : (Called → ℕ) → List Told → ℕ
weighed weight rest = sum_by weight (map (λ t. t.called) rest)

weighed_more : (weight : Called → ℕ) (x : Told) (rest : List Told) →
    weighed weight (x ∷ rest) ≡ weight x.called + weighed weight rest
weighed_more weight x rest = sum_by-cons weight x.called (map (λ t. t.called) rest)

-- the rest with one more, in its place
record IsRestWith (x : Told) (xs ys newer older : List Told) : Type 0 where
  rest : List Told
  order : Merges xs rest (older ++ (x ∷ newer))
  heavier : (weight : Called → ℕ) → weighed weight rest ≡ weight x.called + weighed weight ys

put_in : (x : Told) (newer older xs ys : List Told) → Merges xs ys (older ++ newer) → IsRestWith x xs ys newer older
put_in x newer [] xs ys m = record { rest = x ∷ ys; order = inr (ys, refl, m); heavier = λ w. weighed_more w x ys }
put_in x newer (z ∷ older) xs ys (inl m) =
    let r = put_in x newer older m.0 ys m.2 in
    record { rest = r.rest; order = inl (m.0, m.1, r.order); heavier = r.heavier }
put_in x newer (z ∷ older) xs ys (inr m) =
    let r = put_in x newer older xs m.0 m.2 in
    record {
      rest = z ∷ r.rest;
      order = inr (r.rest, refl, r.order);
      heavier = λ w. (
          let h = r.heavier w in
          let y : weighed w ys ≡ w z.called + weighed w m.0 =
          ap (λ (l : List Told). weighed w l) m.1 ∙ weighed_more w z m.0 in
          let u = weighed_more w z r.rest in
          omega (arith, h, y, u)
          );
    }

-- ## One call more, before the others

abbrev with_call : Called → Given → List Asked → List Asked
with_call called given asked = record { called = called; given = given } ∷ asked

pub accounts_replied : (called : Called) (reply : Reply) (asked : List Asked) (x : Entry) (es : List Entry) →
    told_in x ≡ record { called = called; reply = reply } → Accounts asked es →
    Accounts (with_call called (Replied reply) asked) (x ∷ es)
accounts_replied called reply asked x es is a = record {
  rest = a.rest;
  order = inl (acknowledged asked, ap (λ (t : Told). t ∷ acknowledged asked) (sym is), a.order);
  few = a.few;
}

pub accounts_jukebox : (called : Called) (asked : List Asked) (es : List Entry) → Accounts asked es →
    Accounts (with_call called Jukebox asked) es
accounts_jukebox called asked es a = record { rest = a.rest; order = a.order; few = a.few }

-- an open call, which does not stand or stands at some place
pub record MayBeIn (called : Called) (whole rest : List Entry) : Type 0 where
  pub x : Entry
  pub is : called_in x ≡ called
  pub older : List Entry
  pub newer : List Entry
  pub whole_is : whole ≡ older ++ (x ∷ newer)
  pub rest_is : rest ≡ older ++ newer

-- what any open call is: no reply, and one more that may stand
record IsOpen (called : Called) (given : Given) (asked : List Asked) : Type 0 where
  replies : acknowledged (with_call called given asked) ≡ acknowledged asked
  more : open_calls (with_call called given asked) ≡ called ∷ open_calls asked

accounts_open : (called : Called) (given : Given) (asked : List Asked) (whole rest : List Entry) → IsOpen called given asked →
    (whole ≡ rest) ⊎ MayBeIn called whole rest → Accounts asked rest → Accounts (with_call called given asked) whole
accounts_open called given asked whole rest open_is (inl same) a = record {
  rest = a.rest;
  order =
      subst (λ (l : List Told). Merges l a.rest (map told_in whole)) (sym open_is.replies)
      (subst (λ (l : List Entry). Merges (acknowledged asked) a.rest (map told_in l)) (sym same) a.order);
  few = λ w.
      subst (λ (l : List Called). weighed w a.rest ≤ sum_by w l) (sym open_is.more)
      (let f = a.few w in
      let c = sum_by-cons w called (open_calls asked) in
      omega (arith, f, c));
}
accounts_open called given asked whole rest open_is (inr m) a =
    let inside : Merges (acknowledged asked) a.rest (map told_in m.older ++ map told_in m.newer) =
    subst (λ (l : List Told). Merges (acknowledged asked) a.rest l)
    (ap (λ (l : List Entry). map told_in l) m.rest_is ∙ map-append told_in m.older m.newer) a.order in
    let r = put_in (told_in m.x) (map told_in m.newer) (map told_in m.older) (acknowledged asked) a.rest inside in
    record {
      rest = r.rest;
      order =
          subst (λ (l : List Told). Merges l r.rest (map told_in whole)) (sym open_is.replies)
          (subst (λ (l : List Told). Merges (acknowledged asked) r.rest l)
          (sym (ap (λ (l : List Entry). map told_in l) m.whole_is ∙ map-append told_in m.older (m.x ∷ m.newer))) r.order);
      few = λ w.
          subst (λ (l : List Called). weighed w r.rest ≤ sum_by w l) (sym open_is.more)
          (let f = a.few w in
          let h = r.heavier w in
          let same : w (called_in m.x) ≡ w called = ap w m.is in
          let c = sum_by-cons w called (open_calls asked) in
          omega (arith, f, h, same, c));
    }

pub accounts_serverfault : (called : Called) (asked : List Asked) (whole rest : List Entry) →
    (whole ≡ rest) ⊎ MayBeIn called whole rest → Accounts asked rest → Accounts (with_call called Serverfault asked) whole
accounts_serverfault called asked whole rest =
    accounts_open called Serverfault asked whole rest (record { replies = refl; more = refl })

pub accounts_lacks : (called : Called) (asked : List Asked) (whole rest : List Entry) →
    (whole ≡ rest) ⊎ MayBeIn called whole rest → Accounts asked rest → Accounts (with_call called LacksMemory asked) whole
accounts_lacks called asked whole rest =
    accounts_open called LacksMemory asked whole rest (record { replies = refl; more = refl })

pub accounts_unanswered : (called : Called) (asked : List Asked) (whole rest : List Entry) →
    (whole ≡ rest) ⊎ MayBeIn called whole rest → Accounts asked rest → Accounts (with_call called Unanswered asked) whole
accounts_unanswered called asked whole rest =
    accounts_open called Unanswered asked whole rest (record { replies = refl; more = refl })
