-- A count read from its bytes: the array that they make, and the number that code makes of it.
use Rattle.std.proofs.Common.{◌≡◌, ℕ, ◌+◌, ◌*◌, ◌≤◌, List, [], ◌∷◌, length, get_or, sym, ap, ◌∙◌, arith}
use Rattle.std.specs.Array.{IsWholeChunk}
use Rattle.std.specs.Prelude.{◌<◌, ◌≢◌, Some, Result, Ok, Err}
use Rattle.std.specs.Result.{MatchResult, result_ok}
use Rattle.std.proofs.lemmas.Option.{none-some, same_Some}
use Rattle.amount.specs.Counts.{fitted}
use Rattle.amount.specs.CountLaws.{Counted, fitted_number}
use Rattle.archive.specs.Exactly.{exactly_yes}
use Rattle.archive.specs.Kinds.{count_decode}
use Rattle.archive.specs.Numbers.{number_of}

-- the bytes that an array was made of
pub made_of : {E : Type 0} (bs ys : List ℕ) (n : ℕ) (r : Result (List ℕ) E) → MatchResult r (λ y. IsWholeChunk bs y n) (λ _. length bs ≢ n) → Some ys ≡ result_ok r → (length ys ≡ n) × (ys ≡ bs)
made_of bs ys n (Ok y) m e = let k = same_Some ys y e ∙ m.same in (ap length k ∙ m.long, k)
made_of bs ys n (Err x) m e = absurd (none-some ys (sym e))

-- a count of k bytes, read from just as many
pub count_read : {T : Type 0} {limit : ℕ} {make : (n : ℕ) → n < limit → T} {number : T → ℕ} → Counted limit make number → (k : ℕ) (bs ys : List ℕ) (a : T) → k ≤ 16 → (length ys ≡ k) × (ys ≡ bs) → number a ≡ number_of ys → Some a ≡ count_decode k limit make bs
count_read {limit = limit} {make = make} counted k bs ys a h m e = sym (exactly_yes k bs _ h (ap length (sym m.1) ∙ m.0) ∙ ap (fitted limit make) (ap number_of (sym m.1) ∙ sym e) ∙ fitted_number counted a)

-- the number of two bytes, and of eight
pub number_two : (s : List ℕ) → length s ≡ 2 → number_of s ≡ get_or s 0 0 * 256 + get_or s 1 0
number_two [] l = absurd (omega arith)
number_two (x ∷ []) l = absurd (omega arith)
number_two (x ∷ y ∷ []) l = omega arith
number_two (x ∷ y ∷ z ∷ s) l = absurd (omega arith)

pub number_eight : (s : List ℕ) → length s ≡ 8
    → number_of s ≡ get_or s 0 0 * 72057594037927936 + get_or s 1 0 * 281474976710656 + get_or s 2 0 * 1099511627776 + get_or s 3 0 * 4294967296 + get_or s 4 0 * 16777216 + get_or s 5 0 * 65536 + get_or s 6 0 * 256 + get_or s 7 0
number_eight [] l = absurd (omega arith)
number_eight (a ∷ []) l = absurd (omega arith)
number_eight (a ∷ b ∷ []) l = absurd (omega arith)
number_eight (a ∷ b ∷ c ∷ []) l = absurd (omega arith)
number_eight (a ∷ b ∷ c ∷ d ∷ []) l = absurd (omega arith)
number_eight (a ∷ b ∷ c ∷ d ∷ e ∷ []) l = absurd (omega arith)
number_eight (a ∷ b ∷ c ∷ d ∷ e ∷ f ∷ []) l = absurd (omega arith)
number_eight (a ∷ b ∷ c ∷ d ∷ e ∷ f ∷ g ∷ []) l = absurd (omega arith)
number_eight (a ∷ b ∷ c ∷ d ∷ e ∷ f ∷ g ∷ h ∷ []) l = omega arith
number_eight (a ∷ b ∷ c ∷ d ∷ e ∷ f ∷ g ∷ h ∷ z ∷ s) l = absurd (omega arith)
