-- Where a list that is joined of two is cut.
use Rattle.std.proofs.Common.{◌≡◌, ◌∙◌, ℕ, zero, suc, ◌-◌, ◌≤◌, min, List, [], ◌∷◌, ◌++◌, length, take, drop, refl, sym, ap}
use Rattle.std.proofs.Common.{arith, append_assoc}
use Rattle.std.proofs.lemmas.List.{length-replicate, drop-replicate, take_min}
use Rattle.file_content.specs.Content.{zeros}

pub take-append : (n : ℕ) (xs ys : List ℕ) → take n (xs ++ ys) ≡ take n xs ++ take (n - length xs) ys
take-append zero xs ys = ap (λ (m : ℕ). take m ys) (let none : 0 ≡ 0 - length xs = omega arith in none)
take-append (suc n) [] ys = ap (λ (m : ℕ). take m ys) (let all : suc n ≡ suc n - 0 = omega arith in all)
take-append (suc n) (x ∷ xs) ys =
    let same : n - length xs ≡ suc n - suc (length xs) = omega arith in
    ap (λ (l : List ℕ). x ∷ l) (take-append n xs ys ∙ ap (λ (m : ℕ). take n xs ++ take m ys) same)

pub drop-append : (n : ℕ) (xs ys : List ℕ) → drop n (xs ++ ys) ≡ drop n xs ++ drop (n - length xs) ys
drop-append zero xs ys = ap (λ (m : ℕ). xs ++ drop m ys) (let none : 0 ≡ 0 - length xs = omega arith in none)
drop-append (suc n) [] ys = ap (λ (m : ℕ). drop m ys) (let all : suc n ≡ suc n - 0 = omega arith in all)
drop-append (suc n) (x ∷ xs) ys =
    let same : n - length xs ≡ suc n - suc (length xs) = omega arith in
    drop-append n xs ys ∙ ap (λ (m : ℕ). drop n xs ++ drop m ys) same

pub take-zeros : (n m : ℕ) → take n (zeros m) ≡ zeros (min n m)
take-zeros zero m = ap zeros (let none : 0 ≡ min 0 m = omega arith in none)
take-zeros (suc n) zero = ap zeros (let none : 0 ≡ min (suc n) 0 = omega arith in none)
take-zeros (suc n) (suc m) =
    let more : suc (min n m) ≡ min (suc n) (suc m) = omega arith in
    ap (λ (l : List ℕ). 0 ∷ l) (take-zeros n m) ∙ ap zeros more

pub take-nothing : (n : ℕ) → take {A = ℕ} n [] ≡ []
take-nothing zero = refl
take-nothing (suc n) = refl

pub drop-nothing : (n : ℕ) → drop {A = ℕ} n [] ≡ []
drop-nothing zero = refl
drop-nothing (suc n) = refl

-- a list of at most m bytes is not cut by m
pub take-within : (n m : ℕ) (xs : List ℕ) → length xs ≤ m → take (min n m) xs ≡ take n xs
take-within n m xs short =
    sym (take_min (min n m) xs)
    ∙ ap (λ (k : ℕ). take k xs) (let e : min (min n m) (length xs) ≡ min n (length xs) = omega arith in e)
    ∙ take_min n xs

-- how a piece, zeros and bytes, is cut

pub take_piece : (n hole : ℕ) (bytes : List ℕ) → take n (zeros hole ++ bytes) ≡ zeros (min n hole) ++ take (n - hole) bytes
take_piece n hole bytes =
    take-append n (zeros hole) bytes
    ∙ ap (λ (l : List ℕ). l ++ take (n - length (zeros hole)) bytes) (take-zeros n hole)
    ∙ ap (λ (m : ℕ). zeros (min n hole) ++ take (n - m) bytes) (length-replicate hole 0)

pub drop_piece : (n hole : ℕ) (bytes : List ℕ) → drop n (zeros hole ++ bytes) ≡ zeros (hole - n) ++ drop (n - hole) bytes
drop_piece n hole bytes =
    drop-append n (zeros hole) bytes
    ∙ ap (λ (l : List ℕ). l ++ drop (n - length (zeros hole)) bytes) (drop-replicate n hole 0)
    ∙ ap (λ (m : ℕ). zeros (hole - n) ++ drop (n - m) bytes) (length-replicate hole 0)

pub read_piece : (count at hole : ℕ) (bytes : List ℕ)
    → take count (drop at (zeros hole ++ bytes))
    ≡ zeros (min count (hole - at)) ++ take (count - min count (hole - at)) (drop (at - hole) bytes)
read_piece count at hole bytes =
    let same : count - (hole - at) ≡ count - min count (hole - at) = omega arith in
    ap (take count) (drop_piece at hole bytes)
    ∙ take_piece count (hole - at) (drop (at - hole) bytes)
    ∙ ap (λ (m : ℕ). zeros (min count (hole - at)) ++ take m (drop (at - hole) bytes)) same

-- ---- at a piece, with its fields and what it shows

pub back_is : (at hole past left : ℕ) (bytes seen part now : List ℕ) → zeros hole ++ bytes ≡ now → seen ≡ bytes → past ≡ at - hole
    → left ≡ hole - at → part ≡ drop past seen → zeros left ++ part ≡ drop at now
back_is at hole past left bytes seen part now is seen_is past_is left_is part_is =
    let cut = drop_piece at hole bytes in
    let shown : drop at (zeros hole ++ bytes) ≡ drop at now = ap (drop at) is in
    cc

pub read_piece_is : (count at hole gap lead past : ℕ) (bytes seen now before middle after : List ℕ) → zeros hole ++ bytes ≡ now
    → seen ≡ bytes
    → gap ≡ hole - at → lead ≡ min count gap → past ≡ at - hole → middle ≡ before ++ zeros lead
    → after ≡ middle ++ take (count - lead) (drop past seen) → after ≡ before ++ take count (drop at now)
read_piece_is count at hole gap lead past bytes seen now before middle after is seen_is gap_is lead_is past_is middle_is
    after_is =
    let parts = read_piece count at hole bytes in
    let shown : take count (drop at (zeros hole ++ bytes)) ≡ take count (drop at now) =
    ap (λ (l : List ℕ). take count (drop at l)) is in
    let joined = append_assoc before (zeros lead) (take (count - lead) (drop past bytes)) in
    cc
