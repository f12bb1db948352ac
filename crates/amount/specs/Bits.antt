-- Sets of numbers as bits: what the union, the parting and the common part of two come to.
use Rattle.std.specs.Prelude.{◌≡◌, ℕ, zero, suc, ◌+◌, ◌-◌, ◌*◌, ◌/◌, ◌%◌, ◌^◌, ◌<◌, ◌≤◌, bit_and, bit_or, bit_xor, refl}
use Rattle.std.proofs.Common.{sym, ap, ap₂, ◌∙◌, div-add-mod', mod-lt, zero-lt-suc, not-suc-le-zero, le_of_suc-le-suc, arith}
use Rattle.std.proofs.Math.Arith.{bin_ind}
use Rattle.std.proofs.lemmas.Nat.{and_shr, or_shr, xor_shr, and_mod, or_mod, xor_mod, and_comm, or_comm, and_le_r, and_assoc, and_or_self, and_or_apart, and-not}
use Rattle.std.specs.Int.Bits.{and_self, xor_add_and, and_zero_r}

-- the common part goes over a union, and over what two have apart
by_digits : {a b : ℕ} → a / 2 ≡ b / 2 → a % 2 ≡ b % 2 → a ≡ b
by_digits {a} {b} hi lo = sym (div-add-mod' a 2) ∙ ap₂ (λ (x y : ℕ). x * 2 + y) hi lo ∙ div-add-mod' b 2

low : (n : ℕ) → n % 2 < 2
low n = mod-lt n (zero-lt-suc 1)

not_digit : {A : Type 0} {x : ℕ} → suc (suc x) < 2 → A
not_digit h = absurd (not-suc-le-zero (le_of_suc-le-suc (le_of_suc-le-suc h)))

digit_and_or : (x y z : ℕ) → x < 2 → y < 2 → z < 2 → bit_and (bit_or x y) z ≡ bit_or (bit_and x z) (bit_and y z)
digit_and_or zero y z hx hy hz = refl
digit_and_or (suc zero) zero zero hx hy hz = refl
digit_and_or (suc zero) zero (suc zero) hx hy hz = refl
digit_and_or (suc zero) (suc zero) zero hx hy hz = refl
digit_and_or (suc zero) (suc zero) (suc zero) hx hy hz = refl
digit_and_or (suc zero) zero (suc (suc z)) hx hy hz = not_digit hz
digit_and_or (suc zero) (suc zero) (suc (suc z)) hx hy hz = not_digit hz
digit_and_or (suc zero) (suc (suc y)) z hx hy hz = not_digit hy
digit_and_or (suc (suc x)) y z hx hy hz = not_digit hx

pub and_or : (a b c : ℕ) → bit_and (bit_or a b) c ≡ bit_or (bit_and a c) (bit_and b c)
and_or =
    bin_ind (λ (n : ℕ). (b c : ℕ) → bit_and (bit_or n b) c ≡ bit_or (bit_and n c) (bit_and b c)) (λ b c. refl)
    (λ n ih b c. by_digits
    (and_shr (bit_or n b) c 1 ∙ ap (λ (x : ℕ). bit_and x (c / 2)) (or_shr n b 1) ∙ ih (b / 2) (c / 2)
    ∙ sym (or_shr (bit_and n c) (bit_and b c) 1 ∙ ap₂ bit_or (and_shr n c 1) (and_shr b c 1)))
    (and_mod (bit_or n b) c 1 ∙ ap (λ (x : ℕ). bit_and x (c % 2)) (or_mod n b 1)
    ∙ digit_and_or (n % 2) (b % 2) (c % 2) (low n) (low b) (low c)
    ∙ sym (or_mod (bit_and n c) (bit_and b c) 1 ∙ ap₂ bit_or (and_mod n c 1) (and_mod b c 1))))

digit_and_xor : (x y z : ℕ) → x < 2 → y < 2 → z < 2 → bit_and x (bit_xor y z) ≡ bit_xor (bit_and x y) (bit_and x z)
digit_and_xor zero y z hx hy hz = refl
digit_and_xor (suc zero) zero zero hx hy hz = refl
digit_and_xor (suc zero) zero (suc zero) hx hy hz = refl
digit_and_xor (suc zero) (suc zero) zero hx hy hz = refl
digit_and_xor (suc zero) (suc zero) (suc zero) hx hy hz = refl
digit_and_xor (suc zero) zero (suc (suc z)) hx hy hz = not_digit hz
digit_and_xor (suc zero) (suc zero) (suc (suc z)) hx hy hz = not_digit hz
digit_and_xor (suc zero) (suc (suc y)) z hx hy hz = not_digit hy
digit_and_xor (suc (suc x)) y z hx hy hz = not_digit hx

pub and_xor : (a b c : ℕ) → bit_and a (bit_xor b c) ≡ bit_xor (bit_and a b) (bit_and a c)
and_xor =
    bin_ind (λ (n : ℕ). (b c : ℕ) → bit_and n (bit_xor b c) ≡ bit_xor (bit_and n b) (bit_and n c)) (λ b c. refl)
    (λ n ih b c. by_digits
    (and_shr n (bit_xor b c) 1 ∙ ap (bit_and (n / 2)) (xor_shr b c 1) ∙ ih (b / 2) (c / 2)
    ∙ sym (xor_shr (bit_and n b) (bit_and n c) 1 ∙ ap₂ bit_xor (and_shr n b 1) (and_shr n c 1)))
    (and_mod n (bit_xor b c) 1 ∙ ap (bit_and (n % 2)) (xor_mod b c 1)
    ∙ digit_and_xor (n % 2) (b % 2) (c % 2) (low n) (low b) (low c)
    ∙ sym (xor_mod (bit_and n b) (bit_and n c) 1 ∙ ap₂ bit_xor (and_mod n b 1) (and_mod n c 1))))

below_power : (n : ℕ) → n < 2 ^ n
below_power zero = omega arith
below_power (suc n) = let h = below_power n in omega arith

-- a part, and what is left of the whole
pub part_xor : (a b : ℕ) → bit_and a b ≡ a → bit_xor a b ≡ b - a
part_xor a b e = let h : bit_xor a b + bit_and a b * 2 ≡ a + b = xor_add_and a b in let k : bit_xor a b + a * 2 ≡ a + b = ap (λ (x : ℕ). bit_xor a b + x * 2) (sym e) ∙ h in omega arith

pub part_rest : (a b : ℕ) → bit_and a b ≡ a → bit_and a (b - a) ≡ 0
part_rest a b e =
    let w : ℕ = a + b in
    let p : a + b < 2 ^ w = below_power (a + b) in
    let ha : a < 2 ^ w = omega arith in
    let hb : b < 2 ^ w = omega arith in
    let none : bit_and a (2 ^ w - 1 - a) ≡ 0 = and_comm a (2 ^ w - 1 - a) ∙ (let h = and-not w a a ha ha in let k = and_self a in omega arith) in
    let rest : b - a ≡ bit_and (2 ^ w - 1 - a) b = let h = and-not w a b ha hb in omega arith in
    ap (bit_and a) rest ∙ sym (and_assoc b a (2 ^ w - 1 - a)) ∙ ap (λ (x : ℕ). bit_and x b) none

-- a union has its part
pub part_of_union : (a c : ℕ) → bit_and a (bit_or a c) ≡ a
part_of_union a c = and_comm a (bit_or a c) ∙ ap (λ (x : ℕ). bit_and x a) (or_comm a c) ∙ and_or_self a c

-- apart from two is apart from their union, and back
pub apart_or : (a b c : ℕ) → bit_and a c ≡ 0 → bit_and b c ≡ 0 → bit_and (bit_or a b) c ≡ 0
apart_or a b c p q = and_or_apart c a b q ∙ p

pub apart_left : (a b c : ℕ) → bit_and (bit_or a b) c ≡ 0 → bit_and a c ≡ 0
apart_left a b c p = ap (λ (x : ℕ). bit_and x c) (sym (part_of_union a b)) ∙ and_assoc c a (bit_or a b) ∙ ap (bit_and a) p ∙ and_zero_r a

pub apart_right : (a b c : ℕ) → bit_and (bit_or a b) c ≡ 0 → bit_and b c ≡ 0
apart_right a b c p = apart_left b a c (ap (λ (x : ℕ). bit_and x c) (or_comm b a) ∙ p)

pub part_le : (a b : ℕ) → bit_and a b ≡ a → a ≤ b
part_le a b e = let h = and_le_r a b in omega arith
