-- The machine's rows, read off the book's.
use Rattle.std.proofs.Common.{◌≡◌, ℕ, ◌+◌, ◌≤◌, Bool, true, false, cond, not, ◌||◌, leb, List, [], ◌∷◌, map, length, get_or, is_some, Some, None, Ok, Err, Option, Result, sym, refl, ap, ◌∙◌, ap₂}
use lib.ListN.{length-map, get_or-map}
use Rattle.std.proofs.lemmas.Bool.{leb-true}
use Rattle.amount.specs.Arithmetic.{Ops, bind}
use Rattle.pool.specs.Limits.{lowest_place, tall_place}
use Rattle.orders.proofs.Walked.{true_false}
use Rattle.orders.specs.Sessions.{Session}
use Rattle.law.specs.Book.{Answer, refused, accepted, done, guard, guard_at, open_answer, State, is_moving, slip_bay, row, seen, seen_row}
use Rattle.law.specs.Book as machine
use Rattle.law.proofs.Rows.{nowhere, none_given}
use Rattle.rows.specs.Effects.{turned}
use Rattle.rows.specs.Kinds.{Kind}
use Rattle.rows.specs.Legend.{refusal}
use Rattle.rows.specs.Rows.{by_state, row_of}
use Rattle.rows.specs.declared.effect.RowCall.{RowCall}
use Rattle.rows.specs.declared.effect.RowCall.TheVariants.{Open}
use Rattle.rows.specs.declared.refusal.Refusal.{Refusal}
use Rattle.rows.specs.declared.refusal.Refusal.TheVariants as refusals
use Rattle.rows.specs.declared.refusal.Refusal.TheVariants.{Shut, NoBay}
use Rattle.rows.specs.declared.row.Row.{Row}
use Rattle.rows.specs.declared.row.RowState.{RowState}
use Rattle.rows.specs.declared.row.RowState.TheVariants.{Empty, AtRest, Moving}
use Rattle.book.specs.Tables.{moving_state, moves, no_row, known, sat}

moves_by : {A : Type 0} (s : RowState) (x : Session A) (a : A) → is_moving (by_state s x a) ≡ moving_state s
moves_by Empty x a = refl
moves_by AtRest x a = refl
moves_by Moving x a = refl

module _ {A : Type 0} (kind : Kind A) where
  -- a slip is out where a row's tag says so
  pub slip_is : (rows : List Row) → lowest_place moves rows ≡ slip_bay (map (row_of kind) rows)
  slip_is [] = refl
  slip_is (r ∷ rows) = ap₂ (λ b x. cond b (Some 0) (bind x (λ p. Some (p + 1)))) (sym (moves_by r.state _ _)) (slip_is rows)

  pub row_is : (rows : List Row) (i : ℕ) → row (map (row_of kind) rows) i ≡ row_of kind (get_or rows i no_row)
  row_is rows i = get_or-map (row_of kind) rows i no_row

-- the bays of the rows
pub seen_length : {A : Type 0} (f : Row → machine.Row A) (rows : List Row) → length (seen (map f rows)) ≡ length rows
seen_length {A} f rows = length-map (map f rows) (seen_row {A = A}) ∙ length-map rows f

pub seen_at : {A : Type 0} (f : Row → machine.Row A) (rows : List Row) (i : ℕ) → f no_row ≡ machine.empty → get_or (seen (map f rows)) i None ≡ seen_row (f (get_or rows i no_row))
seen_at f rows i e = get_or-map seen_row (map f rows) i machine.empty ∙ ap seen_row (ap (get_or (map f rows) i) (sym e) ∙ get_or-map f rows i no_row)

-- a book that is not shut has a kind of at most 16 bytes
pub fits_by : (b c : Bool) → (not b || c) ≡ false → b ≡ true
fits_by true c h = refl
fits_by false c h = true_false refl h

pub fits : (w : ℕ) (c : Bool) → (not (leb w 16) || c) ≡ false → w ≤ 16
fits w c h = leb-true w 16 (fits_by (leb w 16) c h)

pub ok_err : {X E C : Type 0} {x : X} {e : E} → Ok x ≡ Err e → C
ok_err h = absurd cc

pub same_err : {X E : Type 0} {d e : E} → ◌≡◌ {A = Result X E} (Err d) (Err e) → d ≡ e
same_err h = cc

known_by : (x y : Bool) → ◌≡◌ {A = Result (Unit {0}) Refusal} (Ok tt) (cond x (Err Shut) (cond y (Err NoBay) (Ok tt))) → (x ≡ false) × (y ≡ false)
known_by true y e = ok_err e
known_by false true e = ok_err e
known_by false false e = (refl, refl)

-- 1 and 2 are passed
pub known_ok : (shut : Bool) (i : ℕ) → Ok tt ≡ known shut i → (shut ≡ false) × (leb 64 i ≡ false)
known_ok shut i e = known_by shut (leb 64 i) e

-- where no slip is out, no row moves
pub calm : {A : Type 0} (rows : List (machine.Row A)) (i : ℕ) → is_some (slip_bay rows) ≡ false → is_moving (row rows i) ≡ false
calm rows i h = nowhere is_moving machine.empty refl rows (none_given (slip_bay rows) h) i

module _ {A : Type 0} (call : RowCall) (n : RowState) (p : turned Empty call ≡ Err refusals.Empty) (q : turned AtRest call ≡ Ok n) (r : RowState) (u : Session A) (a : A) where
  abbrev chain : Bool → Bool → Bool → Result (RowState × Session A) Refusal
  chain x y z = cond x (Err refusals.Shut) (cond y (Err refusals.NoBay) (cond z (Err refusals.Moving) (sat (turned r call) (seen_row (by_state r u a)))))

  pub refused_by : (x y z : Bool) → (z ≡ false → is_moving (by_state r u a) ≡ false) → (e : Refusal) (k : Option (Session A) → Answer) → k None ≡ refused 6 None → Err e ≡ chain x y z → refusal e ≡ guard x 1 (guard y 2 (guard z 4 (k (seen_row (by_state r u a)))))
  refused_by true y z f e k k6 h = ap refusal (same_err h)
  refused_by false true z f e k k6 h = ap refusal (same_err h)
  refused_by false false true f e k k6 h = ap refusal (same_err h)
  refused_by false false false f e k k6 h = at r refl h (f refl)
    where
      at : (s : RowState) → r ≡ s → Err e ≡ sat (turned r call) (seen_row (by_state r u a)) → is_moving (by_state r u a) ≡ false → refusal e ≡ k (seen_row (by_state r u a))
      at Empty t h m = ap refusal (same_err (h ∙ ap (λ s. sat (turned s call) (seen_row (by_state s u a))) t ∙ ap (λ x. sat x None) p)) ∙ sym k6 ∙ ap (λ s. k (seen_row (by_state s u a))) (sym t)
      at AtRest t h m = ok_err (sym (h ∙ ap (λ s. sat (turned s call) (seen_row (by_state s u a))) t ∙ ap (λ x. sat x (Some u)) q))
      at Moving t h m = true_false (ap (λ s. is_moving (by_state s u a)) t) m

  pub record Sitting (x y z : Bool) (next : RowState) (s : Session A) : Type 0 where
    pub opened : x ≡ false
    pub low : y ≡ false
    pub free : z ≡ false
    pub at_rest : by_state r u a ≡ machine.rest s
    pub turns : next ≡ n
    pub same : u ≡ s

  pub ok_by : (x y z : Bool) → (z ≡ false → is_moving (by_state r u a) ≡ false) → (next : RowState) (s : Session A) → Ok (next, s) ≡ chain x y z → Sitting x y z next s
  ok_by true y z f next s h = ok_err h
  ok_by false true z f next s h = ok_err h
  ok_by false false true f next s h = ok_err h
  ok_by false false false f next s h = at r refl h (f refl)
    where
      at : (t : RowState) → r ≡ t → Ok (next, s) ≡ sat (turned r call) (seen_row (by_state r u a)) → is_moving (by_state r u a) ≡ false → Sitting false false false next s
      at Empty t h m = ok_err (h ∙ ap (λ s. sat (turned s call) (seen_row (by_state s u a))) t ∙ ap (λ x. sat x None) p)
      at AtRest t h m =
          let e : ◌≡◌ {A = Result (RowState × Session A) Refusal} (Ok (next, s)) (Ok (n, u)) = h ∙ ap (λ s. sat (turned s call) (seen_row (by_state s u a))) t ∙ ap (λ x. sat x (Some u)) q in
          let same : (next, s) ≡ (n, u) = ap (λ x. elim x [ Ok y ↦ y | Err _ ↦ (next, s) ]) e in
          record { opened = refl; low = refl; free = refl; at_rest = ap (λ s. by_state s u a) t ∙ ap machine.rest (sym (ap (λ y. y.1) same)); turns = ap (λ y. y.0) same; same = sym (ap (λ y. y.1) same) }
      at Moving t h m = true_false (ap (λ s. is_moving (by_state s u a)) t) m

-- open: what the bay's state makes of it
module _ {A : Type 0} (o : Ops A) (st : State A) (m : ℕ) (c : A) (r : RowState) (u : Session A) (a : A) where
  pub open_refused : is_moving (by_state r u a) ≡ false → (e : Refusal) → Err e ≡ turned r Open → refusal e ≡ open_answer o st m c (by_state r u a)
  open_refused n e h = at r refl
    where
      at : (s : RowState) → r ≡ s → refusal e ≡ open_answer o st m c (by_state r u a)
      at Empty t = ok_err (sym (h ∙ ap (λ s. turned s Open) t))
      at AtRest t = ap refusal (same_err (h ∙ ap (λ s. turned s Open) t)) ∙ ap (λ s. open_answer o st m c (by_state s u a)) (sym t)
      at Moving t = true_false (ap (λ s. is_moving (by_state s u a)) t) n

  pub open_turned : (next : RowState) → Ok next ≡ turned r Open → (next ≡ AtRest) × (open_answer o st m c (by_state r u a) ≡ guard_at (tall_place o st.pile m c) 7 (accepted done))
  open_turned next h = at r refl
    where
      at : (s : RowState) → r ≡ s → (next ≡ AtRest) × (open_answer o st m c (by_state r u a) ≡ guard_at (tall_place o st.pile m c) 7 (accepted done))
      at Empty t = (ap (λ x. elim x [ Ok y ↦ y | Err _ ↦ next ]) (h ∙ ap (λ s. turned s Open) t), ap (λ s. open_answer o st m c (by_state s u a)) t)
      at AtRest t = ok_err (h ∙ ap (λ s. turned s Open) t)
      at Moving t = ok_err (h ∙ ap (λ s. turned s Open) t)

-- confirm and withdraw: what the slip, and the state of its bay, make of it
module _ {A : Type 0} (call : RowCall) (p : turned Empty call ≡ Err refusals.WrongSlip) (q : turned AtRest call ≡ Err refusals.WrongSlip) (n : turned Moving call ≡ Ok AtRest) (r : RowState) (u : Session A) (a : A) where
  abbrev spent : Bool → Bool → Bool → Result RowState Refusal
  spent x y z = cond x (Err refusals.Shut) (cond y (Err refusals.WrongSlip) (cond z (Err refusals.WrongSlip) (turned r call)))

  pub unspent_by : (x y z : Bool) → (z ≡ true → r ≡ Empty) → (e : Refusal) (k : machine.Row A → Answer) → k machine.empty ≡ refused 13 None → ((s : Session A) → k (machine.rest s) ≡ refused 13 None) → Err e ≡ spent x y z → refusal e ≡ guard x 1 (guard y 13 (k (by_state r u a)))
  unspent_by true y z f e k k1 k2 h = ap refusal (same_err h)
  unspent_by false true z f e k k1 k2 h = ap refusal (same_err h)
  unspent_by false false true f e k k1 k2 h = ap refusal (same_err h) ∙ sym k1 ∙ ap (λ s. k (by_state s u a)) (sym (f refl))
  unspent_by false false false f e k k1 k2 h = at r refl
    where
      at : (s : RowState) → r ≡ s → refusal e ≡ k (by_state r u a)
      at Empty t = ap refusal (same_err (h ∙ ap (λ s. turned s call) t ∙ p)) ∙ sym k1 ∙ ap (λ s. k (by_state s u a)) (sym t)
      at AtRest t = ap refusal (same_err (h ∙ ap (λ s. turned s call) t ∙ q)) ∙ sym (k2 u) ∙ ap (λ s. k (by_state s u a)) (sym t)
      at Moving t = ok_err (sym (h ∙ ap (λ s. turned s call) t ∙ n))

  pub record Spends (x y z : Bool) (next : RowState) : Type 0 where
    pub opened : x ≡ false
    pub own : y ≡ false
    pub low : z ≡ false
    pub moves_now : r ≡ Moving
    pub turns : next ≡ AtRest

  pub spends_by : (x y z : Bool) (next : RowState) → Ok next ≡ spent x y z → Spends x y z next
  spends_by true y z next h = ok_err h
  spends_by false true z next h = ok_err h
  spends_by false false true next h = ok_err h
  spends_by false false false next h = at r refl
    where
      at : (s : RowState) → r ≡ s → Spends false false false next
      at Empty t = ok_err (h ∙ ap (λ s. turned s call) t ∙ p)
      at AtRest t = ok_err (h ∙ ap (λ s. turned s call) t ∙ q)
      at Moving t = record { opened = refl; own = refl; low = refl; moves_now = t; turns = ap (λ x. elim x [ Ok y ↦ y | Err _ ↦ next ]) (h ∙ ap (λ s. turned s call) t ∙ n) }
