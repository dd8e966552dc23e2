-- Where pieces are cut.
use Rattle.std.proofs.Common.{◌≡◌, ◌∙◌, ℕ, suc, ◌+◌, ◌-◌, ◌<◌, ◌≤◌, List, [], ◌∷◌, ◌++◌, length, take, drop, get_or, set, refl}
use Rattle.std.proofs.Common.{sym, ap, subst, arith, append_assoc, length-append, length-drop}
use Rattle.std.proofs.lemmas.List.{append-nil, take-append-drop, take-append-le, drop-append-le, drop_more, take_more, drop_all}
use Rattle.std.proofs.lemmas.List.{take_all, drop-drop, length-take, set_split, take-take, get_or_read, get_or-take}
use Rattle.std.specs.List.{concat}
use Rattle.file_content.specs.Content.{zeros, resized, written}
use Rattle.file_content.proofs.Cuts.{take-append, drop-append, take-nothing, drop-nothing}
use Rattle.file_content.proofs.ContentLaws.{resized-long, resized_short, length-resized}

pub concat-append : (ps qs : List (List ℕ)) → concat (ps ++ qs) ≡ concat ps ++ concat qs
concat-append [] qs = refl
concat-append (p ∷ ps) qs = ap (λ (l : List ℕ). p ++ l) (concat-append ps qs) ∙ sym (append_assoc p (concat ps) (concat qs))

pub concat_parts : (i : ℕ) (ps : List (List ℕ)) → concat ps ≡ concat (take i ps) ++ concat (drop i ps)
concat_parts i ps = ap concat (sym (take-append-drop i ps)) ∙ concat-append (take i ps) (drop i ps)

-- an offset that lies so far behind the first i pieces
pub take_past : (i rest offset : ℕ) (ps : List (List ℕ)) → length (concat (take i ps)) + rest ≡ offset
    → take offset (concat ps) ≡ concat (take i ps) ++ take rest (concat (drop i ps))
take_past i rest offset ps at =
    let inner : offset - length (concat (take i ps)) ≡ rest = omega arith in
    ap (take offset) (concat_parts i ps)
    ∙ take-append offset (concat (take i ps)) (concat (drop i ps))
    ∙ ap (λ (l : List ℕ). l ++ take (offset - length (concat (take i ps))) (concat (drop i ps)))
    (take_all offset (concat (take i ps)) (omega arith))
    ∙ ap (λ (m : ℕ). concat (take i ps) ++ take m (concat (drop i ps))) inner

pub drop_past : (i rest offset : ℕ) (ps : List (List ℕ)) → length (concat (take i ps)) + rest ≡ offset
    → drop offset (concat ps) ≡ drop rest (concat (drop i ps))
drop_past i rest offset ps at =
    let inner : offset - length (concat (take i ps)) ≡ rest = omega arith in
    ap (drop offset) (concat_parts i ps)
    ∙ drop-append offset (concat (take i ps)) (concat (drop i ps))
    ∙ ap (λ (l : List ℕ). l ++ drop (offset - length (concat (take i ps))) (concat (drop i ps)))
    (drop_all offset (concat (take i ps)) (omega arith))
    ∙ ap (λ (m : ℕ). drop m (concat (drop i ps))) inner

-- a piece more before an offset
pub concat_more : (i : ℕ) (ps : List (List ℕ)) → i < length ps → concat (take (i + 1) ps) ≡ concat (take i ps) ++ get_or ps i []
concat_more i ps in' =
    ap concat (take_more ps i [] in') ∙ concat-append (take i ps) (get_or ps i [] ∷ [])
    ∙ ap (λ (l : List ℕ). concat (take i ps) ++ l) (append-nil (get_or ps i []))

concat_next : (i : ℕ) (ps : List (List ℕ)) → i < length ps → concat (drop i ps) ≡ get_or ps i [] ++ concat (drop (i + 1) ps)
concat_next i ps in' = ap concat (drop_more ps i [] in')

-- how far a loop over pieces has read
pub record HasRead (count offset : ℕ) (ps : List (List ℕ)) (i skip : ℕ) (bytes : List ℕ) : Type 0 where
  pub room : length bytes ≤ count
  pub rest : take count (drop offset (concat ps)) ≡ bytes ++ take (count - length bytes) (drop skip (concat (drop i ps)))

pub read_none : (count offset : ℕ) (ps : List (List ℕ)) → HasRead count offset ps 0 offset []
read_none count offset ps = record {
  room = omega arith;
  rest = ap (λ (m : ℕ). take m (drop offset (concat ps))) (let all : count ≡ count - 0 = omega arith in all);
}

-- a part of a piece and what lies behind it
read_across : (m skip : ℕ) (p rest : List ℕ)
    → take m (drop skip (p ++ rest)) ≡ take m (drop skip p) ++ take (m - length (drop skip p)) (drop (skip - length p) rest)
read_across m skip p rest = ap (take m) (drop-append skip p rest) ∙ take-append m (drop skip p) (drop (skip - length p) rest)

pub read_more : (count offset : ℕ) (ps : List (List ℕ)) (i skip : ℕ) (bytes more : List ℕ) → i < length ps
    → HasRead count offset ps i skip bytes
    → more ≡ bytes ++ take (count - length bytes) (drop skip (get_or ps i []))
    → HasRead count offset ps (i + 1) (skip - length (get_or ps i [])) more
read_more count offset ps i skip bytes more in' has is =
    let cut = length-drop skip (get_or ps i []) in
    let got = length-take (count - length bytes) (drop skip (get_or ps i [])) in
    let long : length more ≡ length bytes + length (take (count - length bytes) (drop skip (get_or ps i []))) =
    ap (λ (l : List ℕ). length l) is ∙ length-append bytes (take (count - length bytes) (drop skip (get_or ps i []))) in
    let left : count - length bytes - length (drop skip (get_or ps i [])) ≡ count - length more = omega (arith, has.room) in
    record {
      room = omega (arith, has.room);
      rest =
          has.rest
          ∙ ap (λ (l : List ℕ). bytes ++ take (count - length bytes) (drop skip l)) (concat_next i ps in')
          ∙ ap (λ (l : List ℕ). bytes ++ l) (read_across (count - length bytes) skip (get_or ps i []) (concat (drop (i + 1) ps)))
          ∙ sym (append_assoc bytes (take (count - length bytes) (drop skip (get_or ps i [])))
          (take (count - length bytes - length (drop skip (get_or ps i []))) (drop (skip - length (get_or ps i []))
          (concat (drop (i + 1) ps)))))
          ∙ ap (λ (m : ℕ). (bytes ++ take (count - length bytes) (drop skip (get_or ps i [])))
          ++ take m (drop (skip - length (get_or ps i [])) (concat (drop (i + 1) ps)))) left
          ∙ ap (λ (l : List ℕ). l ++ take (count - length more) (drop (skip - length (get_or ps i []))
          (concat (drop (i + 1) ps)))) (sym is);
    }

-- at the end all is read
pub read_all : (count offset : ℕ) (ps : List (List ℕ)) (i skip : ℕ) (bytes : List ℕ) → length ps ≤ i
    → HasRead count offset ps i skip bytes → bytes ≡ take count (drop offset (concat ps))
read_all count offset ps i skip bytes past has =
    sym (has.rest
    ∙ ap (λ (l : List (List ℕ)). bytes ++ take (count - length bytes) (drop skip (concat l))) (drop_all i ps past)
    ∙ ap (λ (l : List ℕ). bytes ++ take (count - length bytes) l) (drop-nothing skip)
    ∙ ap (λ (l : List ℕ). bytes ++ l) (take-nothing (count - length bytes))
    ∙ append-nil bytes)

pub concat_push : (ps : List (List ℕ)) (p : List ℕ) → concat (ps ++ p ∷ []) ≡ concat ps ++ p
concat_push ps p = concat-append ps (p ∷ []) ∙ ap (λ (l : List ℕ). concat ps ++ l) (append-nil p)

-- ---- the parts at an offset

-- an offset in a piece lies within the pieces
offset_within : (i rest offset : ℕ) (ps : List (List ℕ)) → length (concat (take i ps)) + rest ≡ offset → i < length ps
    → rest ≤ length (get_or ps i []) → offset ≤ length (concat ps)
offset_within i rest offset ps at in' inside =
    let parts = ap (λ (l : List ℕ). length l) (concat_parts i ps) ∙ length-append (concat (take i ps)) (concat (drop i ps)) in
    let next = ap (λ (l : List ℕ). length l) (concat_next i ps in') ∙ length-append (get_or ps i []) (concat (drop (i + 1) ps)) in
    omega arith

pub before_in : (i rest offset : ℕ) (ps : List (List ℕ)) → length (concat (take i ps)) + rest ≡ offset → i < length ps
    → rest ≤ length (get_or ps i []) → concat (take i ps) ++ take rest (get_or ps i []) ≡ resized offset (concat ps)
before_in i rest offset ps at in' inside =
    sym (resized_short offset (concat ps) (offset_within i rest offset ps at in' inside)
    ∙ take_past i rest offset ps at
    ∙ ap (λ (l : List ℕ). concat (take i ps) ++ take rest l) (concat_next i ps in')
    ∙ ap (λ (l : List ℕ). concat (take i ps) ++ l) (take-append-le rest (get_or ps i []) (concat (drop (i + 1) ps)) inside))

pub before_past : (i rest offset : ℕ) (ps : List (List ℕ)) → length (concat (take i ps)) + rest ≡ offset → length ps ≤ i
    → concat (take i ps) ++ (zeros rest ++ []) ≡ resized offset (concat ps)
before_past i rest offset ps at past =
    let all : concat (take i ps) ≡ concat ps = ap concat (take_all i ps past) in
    let long = ap (λ (l : List ℕ). length l) all in
    let left : rest ≡ offset - length (concat ps) = omega arith in
    ap (λ (l : List ℕ). l ++ (zeros rest ++ [])) all
    ∙ ap (λ (l : List ℕ). concat ps ++ l) (append-nil (zeros rest) ∙ ap zeros left)
    ∙ sym (resized-long offset (concat ps) (omega arith))

pub behind_in : (i rest offset : ℕ) (ps : List (List ℕ)) → length (concat (take i ps)) + rest ≡ offset → i < length ps
    → rest ≤ length (get_or ps i []) → drop rest (get_or ps i []) ++ concat (drop (i + 1) ps) ≡ drop offset (concat ps)
behind_in i rest offset ps at in' inside =
    sym (drop_past i rest offset ps at
    ∙ ap (drop rest) (concat_next i ps in')
    ∙ drop-append-le rest (get_or ps i []) (concat (drop (i + 1) ps)) inside)

pub behind_past : (i rest offset : ℕ) (ps : List (List ℕ)) → length (concat (take i ps)) + rest ≡ offset → length ps ≤ i
    → (zeros 0 ++ []) ++ concat (drop i ps) ≡ drop offset (concat ps)
behind_past i rest offset ps at past =
    let all = ap (λ (l : List ℕ). length l) (ap concat (take_all i ps past)) in
    ap concat (drop_all i ps past) ∙ sym (drop_all offset (concat ps) (omega arith))

-- ---- pieces that are cut, and written

pub cut_in : (i rest offset : ℕ) (ps : List (List ℕ)) → length (concat (take i ps)) + rest ≡ offset → i < length ps
    → rest ≤ length (get_or ps i []) → concat (set (take (i + 1) ps) i (take rest (get_or ps i []))) ≡ take offset (concat ps)
cut_in i rest offset ps at in' inside =
    let long : i < length (take (i + 1) ps) = omega (arith, length-take (i + 1) ps) in
    ap concat
    (set_split (take (i + 1) ps) i (take rest (get_or ps i [])) long
    ∙ ap (λ (l : List (List ℕ)). l ++ take rest (get_or ps i []) ∷ drop (suc i) (take (i + 1) ps))
    (take-take i (i + 1) ps (omega arith))
    ∙ ap (λ (l : List (List ℕ)). take i ps ++ take rest (get_or ps i []) ∷ l)
    (drop_all (suc i) (take (i + 1) ps) (omega (arith, length-take (i + 1) ps))))
    ∙ concat-append (take i ps) (take rest (get_or ps i []) ∷ [])
    ∙ ap (λ (l : List ℕ). concat (take i ps) ++ l) (append-nil (take rest (get_or ps i [])))
    ∙ before_in i rest offset ps at in' inside
    ∙ resized_short offset (concat ps) (offset_within i rest offset ps at in' inside)

pub cut_past : (i rest offset : ℕ) (ps : List (List ℕ)) → length (concat (take i ps)) + rest ≡ offset → length ps ≤ i
    → concat ps ≡ take offset (concat ps)
cut_past i rest offset ps at past =
    let all = ap (λ (l : List ℕ). length l) (ap concat (take_all i ps past)) in
    sym (take_all offset (concat ps) (omega arith))

pub write_between : (i k offset : ℕ) (ps between : List (List ℕ)) (front bytes back : List ℕ)
    → concat (take i ps) ++ front ≡ resized offset (concat ps)
    → back ++ concat (drop k (drop i ps)) ≡ drop (length front + length bytes) (concat (drop i ps))
    → concat between ≡ front ++ (bytes ++ back)
    → concat (take i ps ++ (between ++ drop (i + k) ps)) ≡ written offset bytes (concat ps)
unfolding written
write_between i k offset ps between front bytes back before behind is =
    let at : length (concat (take i ps)) + length front ≡ offset =
    sym (length-append (concat (take i ps)) front) ∙ ap (λ (l : List ℕ). length l) before ∙ length-resized offset (concat ps) in
    let end : length (concat (take i ps)) + (length front + length bytes) ≡ offset + length bytes = omega arith in
    concat-append (take i ps) (between ++ drop (i + k) ps)
    ∙ ap (λ (l : List ℕ). concat (take i ps) ++ l) (concat-append between (drop (i + k) ps))
    ∙ ap (λ (l : List ℕ). concat (take i ps) ++ (l ++ concat (drop (i + k) ps))) is
    ∙ (simp append_assoc)
    ∙ ap (λ (l : List (List ℕ)). concat (take i ps) ++ (front ++ (bytes ++ (back ++ concat l)))) (sym (drop-drop k i ps))
    ∙ ap (λ (l : List ℕ). concat (take i ps) ++ (front ++ (bytes ++ l))) (behind
    ∙ sym (drop_past i (length front + length bytes) (offset + length bytes) ps end))
    ∙ sym (append_assoc (concat (take i ps)) front (bytes ++ drop (offset + length bytes) (concat ps)))
    ∙ ap (λ (l : List ℕ). l ++ (bytes ++ drop (offset + length bytes) (concat ps))) before

-- the part beside the pieces before an offset is no longer than the offset
pub part_within : (offset : ℕ) (xs part ys : List ℕ) → xs ++ part ≡ resized offset ys → length part ≤ offset
part_within offset xs part ys is =
    let total = sym (length-append xs part) ∙ ap (λ (l : List ℕ). length l) is ∙ length-resized offset ys in
    omega arith

-- ---- at pieces, with the piece that was looked at

pub place_more : (i rest len offset : ℕ) (ps : List (List ℕ)) (p : List ℕ) → i < length ps → p ≡ get_or ps i p
    → length (concat (take i ps)) + rest ≡ offset → len ≡ length p → len ≤ rest
    → length (concat (take (i + 1) ps)) + (rest - len) ≡ offset
place_more i rest len offset ps p in' is at len_is within =
    let more = ap (λ (l : List ℕ). length l) (concat_more i ps in') ∙ length-append (concat (take i ps)) (get_or ps i []) in
    let long = len_is ∙ ap (λ (l : List ℕ). length l) (get_or_read ps i p in' is []) in
    omega arith

pub before_none : (i rest offset : ℕ) (ps : List (List ℕ)) (part bytes : List ℕ) → length (concat (take i ps)) + rest ≡ offset
    → length ps ≤ i → part ≡ zeros rest ++ bytes → bytes ≡ [] → concat (take i ps) ++ part ≡ resized offset (concat ps)
before_none i rest offset ps part bytes at past is none =
    ap (λ (l : List ℕ). concat (take i ps) ++ l) (is ∙ ap (λ (l : List ℕ). zeros rest ++ l) none)
    ∙ before_past i rest offset ps at past

pub before_some : (i rest offset : ℕ) (ps : List (List ℕ)) (p part : List ℕ) → length (concat (take i ps)) + rest ≡ offset
    → i < length ps → rest ≤ length (get_or ps i []) → p ≡ get_or ps i p → part ≡ take rest p
    → concat (take i ps) ++ part ≡ resized offset (concat ps)
before_some i rest offset ps p part at in' inside is part_is =
    ap (λ (l : List ℕ). concat (take i ps) ++ l) (part_is ∙ ap (take rest) (get_or_read ps i p in' is []))
    ∙ before_in i rest offset ps at in' inside

pub behind_some : (i rest offset : ℕ) (ps : List (List ℕ)) (p part : List ℕ) → length (concat (take i ps)) + rest ≡ offset
    → i < length ps → rest ≤ length (get_or ps i []) → p ≡ get_or ps i p → part ≡ drop rest p
    → part ++ concat (drop (i + 1) ps) ≡ drop offset (concat ps)
behind_some i rest offset ps p part at in' inside is part_is =
    ap (λ (l : List ℕ). l ++ concat (drop (i + 1) ps)) (part_is ∙ ap (drop rest) (get_or_read ps i p in' is []))
    ∙ behind_in i rest offset ps at in' inside

pub cut_some : (i rest offset : ℕ) (ps seen kept : List (List ℕ)) (p part : List ℕ) → seen ≡ ps
    → length (concat (take i seen)) + rest ≡ offset
    → i < length seen → rest ≤ length (get_or seen i []) → kept ≡ take (i + 1) ps → p ≡ get_or kept i p → part ≡ take rest p
    → concat (set kept i part) ≡ take offset (concat ps)
cut_some i rest offset ps seen kept p part seen_is at in' inside kept_is is part_is =
    let kept_seen : kept ≡ take (i + 1) seen = kept_is ∙ ap (take (i + 1)) (sym seen_is) in
    let found : p ≡ get_or seen i p = is ∙ ap (λ (l : List (List ℕ)). get_or l i p) kept_seen
    ∙ get_or-take (i + 1) seen i p (omega arith) in
    ap (λ (l : List (List ℕ)). concat (set l i part)) kept_seen
    ∙ ap (λ (l : List ℕ). concat (set (take (i + 1) seen) i l)) (part_is ∙ ap (take rest) (get_or_read seen i p in' found []))
    ∙ cut_in i rest offset seen at in' inside
    ∙ ap (λ (l : List (List ℕ)). take offset (concat l)) seen_is

pub read_step : (count offset i skip next room : ℕ) (ps : List (List ℕ)) (p bytes more : List ℕ) → i < length ps
    → p ≡ get_or ps i p
    → HasRead count offset ps i skip bytes → room ≡ count - length bytes → more ≡ bytes ++ take room (drop skip p)
    → next ≡ skip - length p → HasRead count offset ps (i + 1) next more
read_step count offset i skip next room ps p bytes more in' is has room_is more_is next_is =
    let seen : p ≡ get_or ps i [] = get_or_read ps i p in' is [] in
    let got : more ≡ bytes ++ take (count - length bytes) (drop skip (get_or ps i [])) =
    more_is ∙ ap (λ (m : ℕ). bytes ++ take m (drop skip p)) room_is
    ∙ ap (λ (l : List ℕ). bytes ++ take (count - length bytes) (drop skip l)) seen in
    let step : skip - length (get_or ps i []) ≡ next = sym (next_is ∙ ap (λ (l : List ℕ). skip - length l) seen) in
    subst (λ (n : ℕ). HasRead count offset ps (i + 1) n more) step (read_more count offset ps i skip bytes more in' has got)

pub between_is : (b0 b1 b2 b3 : List (List ℕ)) (front middle copied bytes back : List ℕ) → b0 ≡ [] → concat b1 ≡ concat b0
    ++ front
    → concat b2 ≡ concat b1 ++ middle → concat b3 ≡ concat b2 ++ back → middle ≡ zeros 0 ++ copied → copied ≡ bytes
    → concat b3 ≡ front ++ (bytes ++ back)
between_is b0 b1 b2 b3 front middle copied bytes back none first second third middle_is copied_is =
    let begun : concat b0 ≡ [] = ap concat none in
    let joined = append_assoc front bytes back in
    cc

-- ps is seen by two slices: the whole, and what lies from i on
pub write_joined : (i k to offset end long : ℕ) (ps whole rest others new : List (List ℕ)) (front bytes back : List ℕ)
    → whole ≡ ps
    → concat (take i whole) ++ front ≡ resized offset (concat whole) → rest ≡ drop i ps
    → back ++ concat (drop k rest) ≡ drop end (concat rest) → long ≡ length front → end ≡ long + length bytes → to ≡ i + k
    → concat others ≡ front ++ (bytes ++ back) → new ≡ take i ps ++ (others ++ drop to ps)
    → concat new ≡ written offset bytes (concat ps)
write_joined i k to offset end long ps whole rest others new front bytes back whole_is before rest_is behind long_is end_is to_is
    others_is new_is =
    let before_ps : concat (take i ps) ++ front ≡ resized offset (concat ps) =
    subst (λ (l : List (List ℕ)). concat (take i l) ++ front ≡ resized offset (concat l)) whole_is before in
    let behind_rest : back ++ concat (drop k (drop i ps)) ≡ drop end (concat (drop i ps)) =
    subst (λ (l : List (List ℕ)). back ++ concat (drop k l) ≡ drop end (concat l)) rest_is behind in
    let end_at : end ≡ length front + length bytes = end_is ∙ ap (λ (m : ℕ). m + length bytes) long_is in
    let behind_ps = behind_rest ∙ ap (λ (m : ℕ). drop m (concat (drop i ps))) end_at in
    ap concat (new_is ∙ ap (λ (m : ℕ). take i ps ++ (others ++ drop m ps)) to_is)
    ∙ write_between i k offset ps others front bytes back before_ps behind_ps others_is
