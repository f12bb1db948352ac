-- Rows and slips.
use Rattle.std.proofs.Common.{◌≡◌, ℕ, zero, suc, ◌+◌, ◌<◌, Bool, true, false, cond, not, ◌⊎◌, List, [], ◌∷◌, length, get_or, set, replicate, is_some, Some, None, Option, sym, refl, ap, ◌∙◌, inl, inr, arith, get_or-set_other}
use native.Mathlib.Decide.{ℕ_discrete}
use lib.ListN.{get_or-map}
use Rattle.amount.specs.Arithmetic.{Ops, bind}
use Rattle.pool.specs.Limits.{lowest_place}
use Rattle.orders.specs.Sessions.{AllEmpty, Bays, Session, bay}
use Rattle.law.specs.Book.{Answer, Reply, Row, accepted, empty, guard, guard_at, is_moving, moving, refused, rest, row, seen, seen_row, slip_bay}
use Rattle.orders.proofs.Bays.{some_none}
use Rattle.orders.proofs.Walked.{true_false, first_none}

pub refused_accepted : {C : Type 0} {k : ℕ} {p : Option ℕ} {r : Reply} → refused k p ≡ accepted r → C
refused_accepted e = let z : ◌≡◌ {A = ℕ} 0 1 = cc in absurd (omega arith)

pub pass : (b : Bool) (k : ℕ) (x : Answer) (r : Reply) → guard b k x ≡ accepted r → (b ≡ false) × (x ≡ accepted r)
pass true k x r h = refused_accepted h
pass false k x r h = (refl, h)

pub pass_at : (b : Option ℕ) (k : ℕ) (x : Answer) (r : Reply) → guard_at b k x ≡ accepted r → (b ≡ None) × (x ≡ accepted r)
pass_at (Some p) k x r h = refused_accepted h
pass_at None k x r h = (refl, h)

pub none_given : {B : Type 0} (x : Option B) → is_some x ≡ false → x ≡ None
none_given None h = refl
none_given (Some b) h = true_false refl h

pub not_not : (b : Bool) → not b ≡ false → b ≡ true
not_not true h = refl
not_not false h = true_false refl h

-- a test that holds nowhere
pub nowhere : {B : Type 0} (f : B → Bool) (d : B) → f d ≡ false → (bs : List B) → lowest_place f bs ≡ None → (j : ℕ) → f (get_or bs j d) ≡ false
nowhere f d n [] h j = n
nowhere f d n (b ∷ bs) h zero = (first_none (f b) (lowest_place f bs) h).0
nowhere f d n (b ∷ bs) h (suc j) = nowhere f d n bs (first_none (f b) (lowest_place f bs) h).1 j

none_first : (w : Bool) (r : Option ℕ) → w ≡ false → r ≡ None → cond w (Some 0) (bind r (λ k. Some (k + 1))) ≡ None
none_first w r e h = rw (e, h)

pub nowhere_set : {B : Type 0} (f : B → Bool) (b : B) → f b ≡ false → (bs : List B) (i : ℕ) → lowest_place f bs ≡ None → lowest_place f (set bs i b) ≡ None
nowhere_set f b n [] i h = refl
nowhere_set f b n (c ∷ bs) zero h = none_first (f b) (lowest_place f bs) n (first_none (f c) (lowest_place f bs) h).1
nowhere_set f b n (c ∷ bs) (suc i) h = let p = first_none (f c) (lowest_place f bs) h in none_first (f c) (lowest_place f (set bs i b)) p.0 (nowhere_set f b n bs i p.1)

module _ {A : Type 0} where
  pub bay_row : (rs : List (Row A)) (i : ℕ) → bay (seen rs) i ≡ seen_row (row rs i)
  bay_row rs i = get_or-map seen_row rs i empty

  pub open_bound : (t : Bays A) (i : ℕ) (s : Session A) → bay t i ≡ Some s → i < length t
  open_bound [] i s h = some_none h refl
  open_bound (b ∷ t) zero s h = omega arith
  open_bound (b ∷ t) (suc i) s h = let p = open_bound t i s h in omega arith

  pub row_rest : (w : Row A) (s : Session A) → seen_row w ≡ Some s → is_moving w ≡ false → w ≡ rest s
  row_rest empty s h n = some_none h refl
  row_rest (rest r) s h n = cc
  row_rest (moving r a) s h n = true_false refl n

  pub row_empty : (w : Row A) → seen_row w ≡ None → w ≡ empty
  row_empty empty h = refl
  row_empty (rest r) h = some_none refl h
  row_empty (moving r a) h = some_none refl h

  pub vacant_rows : (n : ℕ) → AllEmpty (seen (replicate {A = Row A} n empty))
  vacant_rows zero i = refl
  vacant_rows (suc n) zero = refl
  vacant_rows (suc n) (suc i) = vacant_rows n i

  pub slips_set : (rs : List (Row A)) (i : ℕ) (w : Row A) → is_moving w ≡ false → slip_bay rs ≡ None → slip_bay (set rs i w) ≡ None
  slips_set rs i w n h = nowhere_set is_moving w n rs i h

-- the one slip that is out
pub record One {A : Type 0} (o : Ops A) (rs : List (Row A)) : Type 0 where
  pub at : ℕ
  pub session : Session A
  pub portion : A
  pub rest_held : A
  pub moves : row rs at ≡ moving session portion
  pub part : o.minus session.holding portion ≡ Some rest_held
  pub alone : slip_bay (set rs at empty) ≡ None

abbrev pub Slips : {A : Type 0} → Ops A → List (Row A) → Type 0
Slips o rs = (slip_bay rs ≡ None) ⊎ One o rs

module _ {A : Type 0} (o : Ops A) where
  pub slip_alone : (rs : List (Row A)) (j : ℕ) (s : Session A) (a : A) → Slips o rs → row rs j ≡ moving s a
      → (slip_bay (set rs j empty) ≡ None) × ((h : A) × (o.minus s.holding a ≡ Some h))
  slip_alone rs j s a (inl h) m = true_false (ap is_moving m) (nowhere is_moving empty refl rs h j)
  slip_alone rs j s a (inr x) m = go (ℕ_discrete j x.at)
    where
      go : Dec (j ≡ x.at) → (slip_bay (set rs j empty) ≡ None) × ((h : A) × (o.minus s.holding a ≡ Some h))
      go (yes e) =
          let q : moving s a ≡ moving x.session x.portion = sym m ∙ ap (row rs) e ∙ x.moves in
          let es : s ≡ x.session = cc in
          let ea : a ≡ x.portion = cc in
          (rw e x.alone, (x.rest_held, rw (es, ea) x.part))
      go (no n) = true_false (ap is_moving (get_or-set_other rs x.at j empty empty n ∙ m)) (nowhere is_moving empty refl (set rs x.at empty) x.alone j)
