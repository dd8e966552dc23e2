-- How contents that end in zeros are cut, filled up, written and read.
use Rattle.std.proofs.Common.{◌≡◌, ◌∙◌, ℕ, ◌+◌, ◌-◌, ◌≤◌, min, max, List, [], ◌++◌, length, take, drop, sym, ap, arith}
use Rattle.std.proofs.Common.{append_assoc, length-append, length-drop}
use Rattle.std.proofs.lemmas.List.{length-take, length-replicate, replicate-append-replicate, drop-replicate, take_all, take-take}
use Rattle.std.proofs.lemmas.List.{append-nil}
use Rattle.std.specs.List.{concat}
use Rattle.file_content.specs.Content.{zeros, resized, written}
use Rattle.file_content.proofs.Cuts.{take-append, drop-append, take-zeros, take-within}

pub length-resized : (n : ℕ) (xs : List ℕ) → length (resized n xs) ≡ n
unfolding resized
length-resized n xs =
    let joined = length-append (take n xs) (zeros (n - length xs)) in
    let cut = length-take n xs in
    let filled : length (zeros (n - length xs)) ≡ n - length xs = length-replicate (n - length xs) 0 in
    omega arith

-- a content that is short enough is filled up
pub resized-long : (n : ℕ) (xs : List ℕ) → length xs ≤ n → resized n xs ≡ xs ++ zeros (n - length xs)
unfolding resized
resized-long n xs short = ap (λ (l : List ℕ). l ++ zeros (n - length xs)) (take_all n xs short)

length-filled : (k : ℕ) (xs : List ℕ) → length (xs ++ zeros k) ≡ length xs + k
length-filled k xs = length-append xs (zeros k) ∙ ap (λ (m : ℕ). length xs + m) (length-replicate k 0)

filled_over : (n long k : ℕ) → min (n - long) k + (n - (long + k)) ≡ n - long
filled_over n long k = omega arith

-- zeros at the end make no difference to what a content is when it is given a size
pub resized-filled : (n k : ℕ) (xs : List ℕ) → resized n (xs ++ zeros k) ≡ resized n xs
unfolding resized
resized-filled n k xs =
    ap (λ (m : ℕ). take n (xs ++ zeros k) ++ zeros (n - m)) (length-filled k xs)
    ∙ ap (λ (l : List ℕ). l ++ zeros (n - (length xs + k))) (take-append n xs (zeros k))
    ∙ ap (λ (l : List ℕ). (take n xs ++ l) ++ zeros (n - (length xs + k))) (take-zeros (n - length xs) k)
    ∙ append_assoc (take n xs) (zeros (min (n - length xs) k)) (zeros (n - (length xs + k)))
    ∙ ap (λ (l : List ℕ). take n xs ++ l) (replicate-append-replicate (min (n - length xs) k) (n - (length xs + k)) 0)
    ∙ ap (λ (m : ℕ). take n xs ++ zeros m) (filled_over n (length xs) k)

-- a cut to a size before it makes no difference either
pub resized-cut : (n : ℕ) (xs : List ℕ) → resized n (take n xs) ≡ resized n xs
unfolding resized
resized-cut n xs =
    let same : n - length (take n xs) ≡ n - length xs = omega (arith, length-take n xs) in
    ap (λ (l : List ℕ). l ++ zeros (n - length (take n xs))) (take-take n n xs (omega arith))
    ∙ ap (λ (m : ℕ). take n xs ++ zeros m) same

-- pieces that are filled up to a size are given another
pub resized_again : (n size : ℕ) (xs : List ℕ) → length xs ≤ size → resized n (resized size xs) ≡ resized n (take n xs)
resized_again n size xs short =
    ap (resized n) (resized-long size xs short) ∙ resized-filled n (size - length xs) xs ∙ sym (resized-cut n xs)

pub length-written : (offset : ℕ) (bytes xs : List ℕ)
    → length (written offset bytes xs) ≡ offset + length bytes + (length xs - (offset + length bytes))
unfolding written
length-written offset bytes xs =
    let behind = length-drop (offset + length bytes) xs in
    let after = length-append bytes (drop (offset + length bytes) xs) in
    let whole = length-append (resized offset xs) (bytes ++ drop (offset + length bytes) xs) in
    omega (arith, length-resized offset xs)

-- what is written before zeros
pub written-filled : (offset k : ℕ) (bytes xs : List ℕ)
    → written offset bytes (xs ++ zeros k) ≡ written offset bytes xs ++ zeros (k - (offset + length bytes - length xs))
unfolding written
written-filled offset k bytes xs =
    ap (λ (l : List ℕ). l ++ (bytes ++ drop (offset + length bytes) (xs ++ zeros k))) (resized-filled offset k xs)
    ∙ ap (λ (l : List ℕ). resized offset xs ++ (bytes ++ l))
    (drop-append (offset + length bytes) xs (zeros k)
    ∙ ap (λ (l : List ℕ). drop (offset + length bytes) xs ++ l) (drop-replicate (offset + length bytes - length xs) k 0))
    ∙ (simp append_assoc)

written_within : (offset size : ℕ) (bytes xs : List ℕ) → length xs ≤ size → length (written offset bytes xs) ≤ max size
    (offset + length bytes)
written_within offset size bytes xs short = omega (arith, length-written offset bytes xs)

written_rest : (offset size : ℕ) (bytes xs : List ℕ) → length xs ≤ size
    → size - length xs - (offset + length bytes - length xs) ≡ max size (offset + length bytes) - length (written offset bytes xs)
written_rest offset size bytes xs short = omega (arith, length-written offset bytes xs)

-- what is written on pieces that are filled up is what is written on the pieces, filled up
pub written_over : (offset size : ℕ) (bytes xs : List ℕ) → length xs ≤ size
    → written offset bytes (resized size xs) ≡ resized (max size (offset + length bytes)) (written offset bytes xs)
written_over offset size bytes xs short =
    ap (written offset bytes) (resized-long size xs short)
    ∙ written-filled offset (size - length xs) bytes xs
    ∙ ap (λ (m : ℕ). written offset bytes xs ++ zeros m) (written_rest offset size bytes xs short)
    ∙ sym (resized-long (max size (offset + length bytes)) (written offset bytes xs) (written_within offset size bytes xs short))

read_first : (offset count size : ℕ) (xs : List ℕ) → length xs ≤ size
    → take count (drop offset xs) ≡ take (min count (size - offset)) (drop offset xs)
read_first offset count size xs short =
    let left = length-drop offset xs in
    sym (take-within count (size - offset) (drop offset xs) (omega arith))

read_rest : (offset count size : ℕ) (xs : List ℕ) → length xs ≤ size
    → min (count - length (drop offset xs)) (size - length xs - (offset - length xs)) ≡ min count (size - offset) - length
    (drop offset xs)
read_rest offset count size xs short = omega (arith, length-drop offset xs)

-- what is read of pieces that are filled up is what is read of the pieces, filled up
pub read_over : (offset count size : ℕ) (xs : List ℕ) → length xs ≤ size
    → take count (drop offset (resized size xs)) ≡ resized (min count (size - offset)) (drop offset xs)
unfolding resized
read_over offset count size xs short =
    ap (λ (l : List ℕ). take count (drop offset l)) (resized-long size xs short)
    ∙ ap (take count) (drop-append offset xs (zeros (size - length xs)))
    ∙ ap (λ (l : List ℕ). take count (drop offset xs ++ l)) (drop-replicate (offset - length xs) (size - length xs) 0)
    ∙ take-append count (drop offset xs) (zeros (size - length xs - (offset - length xs)))
    ∙ ap (λ (l : List ℕ). take count (drop offset xs) ++ l) (take-zeros (count - length (drop offset xs))
    (size - length xs - (offset - length xs)))
    ∙ ap (λ (m : ℕ). take count (drop offset xs) ++ zeros m) (read_rest offset count size xs short)
    ∙ ap (λ (l : List ℕ). l ++ zeros (min count (size - offset) - length (drop offset xs)))
    (read_first offset count size xs short)

-- a content that is long enough is cut
pub resized_short : (n : ℕ) (xs : List ℕ) → n ≤ length xs → resized n xs ≡ take n xs
unfolding resized
resized_short n xs within =
    let none : n - length xs ≡ 0 = omega arith in
    ap (λ (m : ℕ). take n xs ++ zeros m) none ∙ append-nil (take n xs)

pub resized_none : (n : ℕ) → resized n [] ≡ zeros n
resized_none n =
    let all : n - 0 ≡ n = omega arith in
    resized-long n [] (omega arith) ∙ ap zeros all

-- ---- at a content, with its size and what its pieces show

pub size_is_length : (size : ℕ) (xs now : List ℕ) → resized size xs ≡ now → size ≡ length now
size_is_length size xs now is = sym (length-resized size xs) ∙ ap (λ (l : List ℕ). length l) is

pub resize_is : (n size : ℕ) (xs kept now : List ℕ) → length xs ≤ size → resized size xs ≡ now → kept ≡ take n xs
    → resized n kept ≡ resized n now
resize_is n size xs kept now short is cut = ap (resized n) cut ∙ sym (resized_again n size xs short) ∙ ap (resized n) is

pub write_is : (offset size : ℕ) (bytes xs more now : List ℕ) → length xs ≤ size → resized size xs ≡ now
    → more ≡ written offset bytes xs → resized (max size (offset + length bytes)) more ≡ written offset bytes now
write_is offset size bytes xs more now short is wrote =
    ap (resized (max size (offset + length bytes))) wrote
    ∙ sym (written_over offset size bytes xs short)
    ∙ ap (written offset bytes) is

pub write_within : (offset size : ℕ) (bytes xs more : List ℕ) → length xs ≤ size
    → more ≡ written offset bytes xs → length more ≤ max size (offset + length bytes)
write_within offset size bytes xs more short wrote =
    let total = ap (λ (l : List ℕ). length l) wrote ∙ length-written offset bytes xs in
    omega arith

pub read_is : (offset count size n : ℕ) (xs now bytes : List ℕ) → length xs ≤ size → resized size xs ≡ now
    → n ≡ min count (size - offset) → bytes ≡ take n (drop offset xs) → resized n bytes ≡ take count (drop offset now)
read_is offset count size n xs now bytes short is least read =
    ap (resized n) read
    ∙ resized-cut n (drop offset xs)
    ∙ ap (λ (m : ℕ). resized m (drop offset xs)) least
    ∙ sym (read_over offset count size xs short)
    ∙ ap (λ (l : List ℕ). take count (drop offset l)) is

-- the bytes that were read, filled up to as many as there are
pub read_filled : (offset count size n left long : ℕ) (ps seen : List (List ℕ)) (now bytes filled : List ℕ)
    → length (concat ps) ≤ size → resized size (concat ps) ≡ now → seen ≡ ps
    → left ≡ size - offset → n ≡ min count left → bytes ≡ take n (drop offset (concat seen)) → long ≡ length bytes
    → filled ≡ take n bytes ++ zeros (n - long) → filled ≡ take count (drop offset now)
unfolding resized
read_filled offset count size n left long ps seen now bytes filled short is seen_is left_is least read long_is filled_is =
    filled_is
    ∙ ap (λ (m : ℕ). take n bytes ++ zeros (n - m)) long_is
    ∙ read_is offset count size n (concat ps) now bytes short is (least ∙ ap (min count) left_is)
    (read ∙ ap (λ (l : List (List ℕ)). take n (drop offset (concat l))) seen_is)
