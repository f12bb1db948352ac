-- A number and its bytes, high byte first, undo each other at every width.
use Rattle.std.specs.Prelude.{◌≡◌, ℕ, zero, suc, ◌+◌, ◌*◌, ◌/◌, ◌%◌, ◌^◌, ◌<◌, List, [], ◌∷◌, ◌++◌, length, take, slice_index, slice_index_or, refl}
use Rattle.std.proofs.Common.{sym, ap, ap₂, ◌∙◌, add-one, arith}
use Rattle.std.proofs.lemmas.Int.Digits.{number_push, number_more}
use Rattle.std.proofs.ByRecursion.{All-push, All-get_or, All-take}
use Rattle.std.proofs.lemmas.List.{length_push, take_more, take_all, length-take-le, nil_from_length}
use Rattle.archive.specs.Numbers.{Bytes, number_of, big_endian}

pub length_be : (k n : ℕ) → length (big_endian k n) ≡ k
length_be zero n = refl
length_be (suc k) n = length_push (big_endian k (n / 256)) (n % 256) ∙ ap (λ m. m + 1) (length_be k (n / 256)) ∙ add-one k

pub bytes_be : (k n : ℕ) → Bytes (big_endian k n)
bytes_be zero n = tt
bytes_be (suc k) n = All-push _ (big_endian k (n / 256)) (n % 256) (bytes_be k (n / 256)) (omega arith)

pub number_be : (k n : ℕ) → n < 256 ^ k → number_of (big_endian k n) ≡ n
number_be zero n h = omega arith
number_be (suc k) n h =
    let q : n / 256 < 256 ^ k = omega arith in
    number_push 256 (big_endian k (n / 256)) (n % 256) ∙ (let e = number_be k (n / 256) q in omega arith)

pub be_number : (k : ℕ) (bs : List ℕ) → Bytes bs → length bs ≡ k → big_endian k (number_of bs) ≡ bs
be_number zero bs all e = sym (nil_from_length bs e)
be_number (suc k) bs all e =
    let i : k < length bs = omega arith in
    let d : slice_index_or bs k 0 < 256 = All-get_or _ bs k 0 i all in
    let whole : take (k + 1) bs ≡ bs = take_all (k + 1) bs (omega arith) in
    let n : number_of bs ≡ number_of (take k bs) * 256 + slice_index_or bs k 0 = sym (ap number_of whole) ∙ number_more 256 bs k i in
    let hi : number_of bs / 256 ≡ number_of (take k bs) = omega arith in
    let lo : number_of bs % 256 ≡ slice_index_or bs k 0 = omega arith in
    ap₂ (λ (x : ℕ) (y : ℕ). big_endian k x ++ (y ∷ [])) hi lo
    ∙ ap (λ l. l ++ (slice_index bs k ∷ [])) (be_number k (take k bs) (All-take _ k bs all) (length-take-le k bs (omega arith)))
    ∙ sym (take_more bs k 0 i) ∙ whole
