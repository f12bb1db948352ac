-- Sets of modules keep the laws.
use Rattle.std.specs.Prelude.{◌≡◌, ℕ, ◌+◌, ◌-◌, ◌^◌, ◌≤◌, ◌==◌, Some, None, Option, is_some, IfSome, ◌≢◌, bit_and, bit_or, refl}
use Rattle.std.proofs.Common.{sym, ap, ◌∙◌, arith}
use Rattle.std.proofs.Math.Bridge.{le_prop}
use Rattle.std.proofs.Math.Decide.{ℕ_discrete}
use Rattle.std.proofs.lemmas.Nat.{and_comm, or_comm, or_disjoint}
use Rattle.std.proofs.lemmas.Bool.{eqb-true, eqb-false, eq-eqb}
use Rattle.amount.specs.Arithmetic.{Laws, bind}
use Rattle.amount.specs.Sets.{modules, union, without, modules_ops}
use Rattle.amount.specs.declared.modules.Modules.{Modules}
use Rattle.amount.specs.CountLaws.{Counted, number_inj}
use Rattle.amount.specs.Bits.{part_rest, apart_or, apart_left, apart_right, part_of_union, part_le}
use Rattle.amount.specs.Partial.{regroups_by, given_no, given_is, given_held}

abbrev pub names_of : Modules → ℕ
names_of a = a.names

-- the sets as numbers below 2 ^ 64
pub modules_counted : Counted (2 ^ 64) modules names_of
modules_counted = record {
  number_make = λ n h. refl;
  make_number = λ a h. ap (modules a.names) (le_prop h a.fits);
  below = λ a. a.fits;
}

-- a set is known by its bits
pub modules_eq : (a b : Modules) → a.names ≡ b.names → a ≡ b
modules_eq = number_inj modules_counted

pub sum_made : (a b c : Modules) → bit_and a.names b.names ≡ 0 → c.names ≡ bit_or a.names b.names → modules_ops.plus a b ≡ Some c
sum_made a b c p e = given_is _ (union a b) p ∙ ap Some (modules_eq (union a b) c (sym e))

sum_over : (a b : Modules) → (bit_and a.names b.names ≢ 0) → modules_ops.plus a b ≡ None
sum_over a b p = given_no _ (λ _. union a b) p

sum_is : (a b c : Modules) → modules_ops.plus a b ≡ Some c → (bit_and a.names b.names ≡ 0) × (c.names ≡ a.names + b.names)
sum_is a b c e =
    let h = given_held (ℕ_discrete (bit_and a.names b.names) 0) (union a b) c e in
    (h.0, ap (λ (m : Modules). m.names) (sym h.1) ∙ or_disjoint a.names b.names h.0)

pub minus_made : (a b c : Modules) → bit_and a.names b.names ≡ a.names → c.names ≡ b.names - a.names → modules_ops.minus b a ≡ Some c
minus_made a b c p e = given_is _ (without b a) p ∙ ap Some (modules_eq (without b a) c (sym e))

minus_over : (a b : Modules) → (bit_and a.names b.names ≢ a.names) → modules_ops.minus b a ≡ None
minus_over a b p = given_no _ (λ _. without b a) p

-- what code shows of a sum and a difference: whether it is there, and its names
pub sum_shown : (a b : Modules) (r : Option Modules) {P : Modules → Type 0} → is_some r ≡ (bit_and a.names b.names == 0) → IfSome r P → ((c : Modules) → P c → c.names ≡ bit_or a.names b.names) → r ≡ modules_ops.plus a b
sum_shown a b None e s f = sym (sum_over a b (eqb-false _ 0 (sym e)))
sum_shown a b (Some c) e s f = sym (sum_made a b c (eqb-true _ 0 (sym e)) (f c s))

pub minus_shown : (a b : Modules) (r : Option Modules) {P : Modules → Type 0} → is_some r ≡ (bit_and a.names b.names == a.names) → IfSome r P → ((c : Modules) → P c → c.names ≡ b.names - a.names) → r ≡ modules_ops.minus b a
minus_shown a b None e s f = sym (minus_over a b (eqb-false _ a.names (sym e)))
minus_shown a b (Some c) e s f = sym (minus_made a b c (eqb-true _ a.names (sym e)) (f c s))

commutes : (a b : Modules) → modules_ops.plus a b ≡ modules_ops.plus b a
commutes a b = elim (ℕ_discrete (bit_and a.names b.names) 0) [
  | yes h ↦ sum_made a b (union b a) h (or_comm b.names a.names) ∙ sym (sum_made b a (union b a) (and_comm b.names a.names ∙ h) refl)
  | no h ↦ sum_over a b h ∙ sym (sum_over b a (λ k. h (and_comm a.names b.names ∙ k)))
]

-- where the left grouping is defined, the right one is, and is the same
grouped_right : (a b c s t : Modules) → modules_ops.plus a b ≡ Some s → modules_ops.plus s c ≡ Some t → bind (modules_ops.plus b c) (λ u. modules_ops.plus a u) ≡ Some t
grouped_right a b c s t p q =
    let x = sum_is a b s p in
    let y = sum_is s c t q in
    let s-is : s.names ≡ bit_or a.names b.names = x.1 ∙ sym (or_disjoint a.names b.names x.0) in
    let abc : bit_and (bit_or a.names b.names) c.names ≡ 0 = ap (λ (n : ℕ). bit_and n c.names) (sym s-is) ∙ y.0 in
    let bc : bit_and b.names c.names ≡ 0 = apart_right a.names b.names c.names abc in
    let ac : bit_and a.names c.names ≡ 0 = apart_left a.names b.names c.names abc in
    let whole : bit_and a.names (bit_or b.names c.names) ≡ 0 =
    and_comm a.names (bit_or b.names c.names)
    ∙ apart_or b.names c.names a.names (and_comm b.names a.names ∙ x.0) (and_comm c.names a.names ∙ ac) in
    let m = or_disjoint b.names c.names bc in
    let n = or_disjoint a.names (bit_or b.names c.names) whole in
    ap (λ o. bind o (λ u. modules_ops.plus a u)) (sum_made b c (union b c) bc refl)
    ∙ sum_made a (union b c) t whole (omega (arith, x.1, y.1))

left : (a b c : Modules) → modules_ops.minus b a ≡ Some c → modules_ops.plus a c ≡ Some b
left a b c p =
    let h = given_held (ℕ_discrete (bit_and a.names b.names) a.names) (without b a) c p in
    let e : c.names ≡ b.names - a.names = ap (λ (m : Modules). m.names) (sym h.1) in
    let z : bit_and a.names c.names ≡ 0 = ap (bit_and a.names) e ∙ part_rest a.names b.names h.0 in
    let l : a.names ≤ b.names = part_le a.names b.names h.0 in
    let o = or_disjoint a.names c.names z in
    sum_made a c b z (omega arith)

found : (a b c : Modules) → modules_ops.plus a c ≡ Some b → modules_ops.minus b a ≡ Some c
found a b c p =
    let x = sum_is a c b p in
    let o = or_disjoint a.names c.names x.0 in
    let w : b.names ≡ bit_or a.names c.names = x.1 ∙ sym o in
    minus_made a b c (ap (bit_and a.names) w ∙ part_of_union a.names c.names) (omega (arith, x.1))

pub modules_laws : Laws modules_ops
modules_laws = record {
  identity = λ a. sum_made modules_ops.zero a a refl refl;
  commutes = commutes;
  regroups = regroups_by modules_ops.plus commutes grouped_right;
  cancels = λ a b c s p q. let x = sum_is a c s p in let y = sum_is b c s q in modules_eq a b (omega (arith, x.1, y.1));
  positive = λ a b p. let x = sum_is a b modules_ops.zero p in (modules_eq a modules_ops.zero (omega (arith, x.1)), modules_eq b modules_ops.zero (omega (arith, x.1)));
  difference = λ a b c. (left a b c, found a b c);
  equality = λ a b. (λ e. modules_eq a b (eqb-true a.names b.names e), λ e. eq-eqb a.names b.names (ap names_of e));
}
