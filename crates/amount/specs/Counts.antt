-- Counts below a limit, whose sum is undefined where it would reach the limit; whole amperes. Assumes nothing.
use Rattle.std.specs.Prelude.{ℕ, ◌+◌, ◌-◌, ◌<◌, Some, None, Option, ◌==◌}
use Rattle.std.proofs.Math.Decide.{dec_lt, dec_le}
use Rattle.std.proofs.Common.{lit<}
use Rattle.amount.specs.Arithmetic.{Ops, bind}
use Rattle.amount.specs.declared.amps.Amps.{Amps}

-- the value, where the fact holds
abbrev pub given : {P A : Type 0} → Dec P → (P → A) → Option A
given (yes h) f = Some (f h)
given (no _) f = None

-- the count n, if it is below the limit
abbrev pub fitted : {T : Type 0} (limit : ℕ) → ((n : ℕ) → n < limit → T) → ℕ → Option T
fitted limit make n = given (dec_lt n limit) (make n)

-- the operations on counts below a limit: of a number, and back
abbrev pub count_ops : {T : Type 0} (limit : ℕ) → ((n : ℕ) → n < limit → T) → (T → ℕ) → T → Ops T
count_ops limit make number none = record {
  zero = none;
  plus = λ a b. fitted limit make (number a + number b);
  minus = λ b a. bind (given (dec_le (number a) (number b)) (λ _. number b - number a)) (fitted limit make);
  equal = λ a b. (number a == number b);
}

abbrev pub amps : (n : ℕ) → n < 65536 → Amps
amps n h = record { value = n; fits = h }

abbrev pub amps_number : Amps → ℕ
amps_number a = a.value

-- whole amperes, 0 to 65,535
abbrev pub amps_ops : Ops Amps
amps_ops = count_ops 65536 amps amps_number (amps 0 (lit< tt))
