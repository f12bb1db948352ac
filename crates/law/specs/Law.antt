-- What the book and a patient planner share, over any day. Assumes nothing.
use Rattle.std.specs.Prelude.{◌≡◌, ℕ, ◌<◌, ◌≤◌, Bool, true, false, ◌↔◌, List, [], ◌∷◌, ◌++◌, length, replicate, Some, None, Option}
use Rattle.amount.specs.Arithmetic.{Ops}
use Rattle.pool.specs.Limits.{Bound, Limit, bounds, lowest_place, Idle}
use Rattle.orders.specs.Orders.{Order, LowestFirst}
use Rattle.orders.specs.Planner.{Succeeds}
use Rattle.orders.specs.Sessions.{Session, Bays, bay, held_under}
use Rattle.law.specs.Book.{empty, row, Call, asks, confirms, ends, orders, ordered, Answer, refused, accepted, State, answer, step, after, filled, sheet_after, new}
use Rattle.law.specs.Tally.{Noted, Tally, sessions, note, noted_call, blank}

-- out under each limit is the sum of the holdings of the sessions whose marks it watches
abbrev pub Sums : {A : Type 0} → Ops A → List (Limit A) → Bays A → Type 0
Sums o [] t = Unit {0}
Sums o (l ∷ ls) t = (held_under o l.bound t ≡ Some l.out) × Sums o ls t

-- the tally after a list of calls, from the answers that the book gives them
abbrev pub kept : {A : Type 0} → Ops A → State A → Tally A → List (Call A) → Tally A
kept o st t [] = t
kept o st t (c ∷ cs) = kept o (step o st c) (note o t c (answer o st c)) cs

abbrev pub Accepted : Answer → Type 0
Accepted (refused k p) = ⊥
Accepted (accepted r) = Unit {0}

abbrev pub AcceptedThroughout : {A : Type 0} → Ops A → State A → List (Call A) → Type 0
AcceptedThroughout o st [] = Unit {0}
AcceptedThroughout o st (c ∷ cs) = Accepted (answer o st c) × AcceptedThroughout o (step o st c) cs

-- a sheet of 64 bytes to play with
abbrev pub blank_sheet : List ℕ
blank_sheet = replicate 64 0

-- a bay is played: ask for its need, confirm, end
abbrev pub bay_calls : {A : Type 0} → Ops A → ℕ → ℕ → Option (Session A) → List (Call A)
bay_calls o k i None = []
bay_calls o k i (Some s) = elim (o.minus s.claim s.holding) [ None ↦ [] | Some n ↦ asks i n blank_sheet ∷ (confirms (record { number = k; at = i }) ∷ (ends i ∷ [])) ]

abbrev pub order_calls : {A : Type 0} → Ops A → ℕ → Bays A → List ℕ → List (Call A)
order_calls o k t [] = []
order_calls o k t (i ∷ is) = bay_calls o k i (bay t i) ++ order_calls o k t is

-- the bay whose slip is out, by the tally
abbrev pub has_portion : {A : Type 0} → Option (Noted A) → Bool
has_portion None = false
has_portion (Some n) = elim n.portion [ None ↦ false | Some a ↦ true ]

abbrev pub slip_first : {A : Type 0} → ℕ → Option ℕ → List (Call A) → List (Call A)
slip_first k None cs = cs
slip_first k (Some i) cs = confirms (record { number = k; at = i }) ∷ cs

-- an order is played: the slip confirmed if one is out, then bay by bay
abbrev pub play : {A : Type 0} → Ops A → ℕ → Tally A → List ℕ → List (Call A)
play o k t is = slip_first k (lowest_place has_portion t) (order_calls o k (sessions t) is)

-- every bay is empty, and the pile idle
abbrev pub NothingOut : {A : Type 0} → Ops A → State A → Type 0
NothingOut o st = ((i : ℕ) → row st.rows i ≡ empty) × Idle o st.pile

-- refusals 1 to 9 let the call through
abbrev pub LetThrough : Answer → Type 0
LetThrough r = (k : ℕ) (p : Option ℕ) → r ≡ refused k p → 9 < k

-- what they share at one moment: bs are the bounds of the new book's pile, k its number, t the tally
pub record Moment {A : Type 0} (o : Ops A) (bs : List (Bound A)) (k : ℕ) (st : State A) (t : Tally A) : Type 0 where
  -- an ask is put off exactly when, with it granted in the tally, the planner fails
  pub put_off : (i : ℕ) (a : A) (sheet : List ℕ) → LetThrough (answer o st (asks i a sheet))
      → (answer o st (asks i a sheet) ≡ refused 10 None) ↔ ¬ (Succeeds o bs (sessions (noted_call o t (asks i a sheet))))
  -- the book answers a 64-byte sheet with an order
  pub order : List ℕ
  pub ordered_so : (sheet : List ℕ) → 64 ≤ length sheet → (answer o st (orders sheet) ≡ accepted (ordered (length order))) × (sheet_after o st (orders sheet) ≡ filled o order sheet)
  -- which is the lowest-first completion order of the tally
  pub lowest_first : LowestFirst o bs (sessions t) order
  pub completes : Order o bs (sessions t) order
  -- played, it is accepted throughout and leaves nothing out
  pub plays : AcceptedThroughout o st (play o k t order)
  pub leaves : NothingOut o (after o st (play o k t order))
  -- out under each limit is the sum of the tally's holdings
  pub limits : bounds st.pile ≡ bs
  pub sums : Sums o st.pile (sessions t)

-- one new book over an idle pile, of a kind of at most 16 bytes: before the first call and after each of any list of calls
abbrev pub LawOfDays : {A : Type 0} → Ops A → Type 0
LawOfDays {A} o = (width k : ℕ) (ls : List (Limit A)) → width ≤ 16 → Idle o ls → (cs : List (Call A)) → Moment o (bounds ls) k (after o (new o width k ls) cs) (kept o (new o width k ls) (blank o) cs)
