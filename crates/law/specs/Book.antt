-- The book as a machine: its calls, what each answers, and what it leaves. Assumes nothing.
use Rattle.std.specs.Prelude.{ℕ, Bool, true, false, not, ◌||◌, List, [], ◌∷◌, ◌++◌, map, length, drop, replicate, is_some, Some, None, Option, ◌==◌, nat_le, nat_lt, slice_index_or, slice_set}
use Rattle.amount.specs.Arithmetic.{Ops}
use Rattle.pool.specs.Limits.{Limit, lowest_place, told_place, part, within, tall_place, short_place, torn_place, taken, given_back}
use Rattle.orders.specs.Sessions.{Session, with_holding, Bays, open_bays}
use Rattle.law.specs.SafeOrder.{safe_order}

-- a bay: empty, at rest, or moving with the portion just granted, which counts as held
pub data Row (A : Type 0) : Type 0 where
  empty : Row A
  rest : Session A → Row A
  moving : Session A → A → Row A

abbrev pub seen_row : {A : Type 0} → Row A → Option (Session A)
seen_row empty = None
seen_row (rest s) = Some s
seen_row (moving s a) = Some s

-- the bays with their sessions
abbrev pub seen : {A : Type 0} → List (Row A) → Bays A
seen rs = map seen_row rs

abbrev pub row : {A : Type 0} → List (Row A) → ℕ → Row A
row rs i = slice_index_or rs i empty

abbrev pub is_moving : {A : Type 0} → Row A → Bool
is_moving empty = false
is_moving (rest s) = false
is_moving (moving s a) = true

-- the lowest bay that moves: there is a slip of this book out where there is one
abbrev pub slip_bay : {A : Type 0} → List (Row A) → Option ℕ
slip_bay rs = lowest_place is_moving rs

-- what a granted ask hands out: a book number and a bay
pub record Slip : Type 0 where
  pub number : ℕ
  pub at : ℕ

-- a call with its arguments; a sheet is bytes that the caller lends
pub data Call (A : Type 0) : Type 0 where
  opens : (bay mark : ℕ) (claim : A) → Call A
  asks : (bay : ℕ) (amount : A) (sheet : List ℕ) → Call A
  confirms : Slip → Call A
  withdraws : Slip → Call A
  gives : (bay : ℕ) (amount : A) → Call A
  ends : (bay : ℕ) → Call A
  orders : (sheet : List ℕ) → Call A
  all_in : Call A

pub data Reply : Type 0 where
  done : Reply
  -- how many bays the order has, and the slip
  granted : ℕ → Slip → Reply
  ordered : ℕ → Reply
  answered : Bool → Reply

-- a refusal by its number in the legend, with the place that is told where one is
pub data Answer : Type 0 where
  refused : ℕ → Option ℕ → Answer
  accepted : Reply → Answer

pub record State (A : Type 0) : Type 0 where
  pub shut : Bool
  pub number : ℕ
  pub pile : List (Limit A)
  pub rows : List (Row A)

-- refusal k where the test holds
abbrev pub guard : Bool → ℕ → Answer → Answer
guard true k x = refused k None
guard false k x = x

-- refusal k with its place, where there is one
abbrev pub guard_at : Option ℕ → ℕ → Answer → Answer
guard_at None k x = x
guard_at (Some p) k x = refused k (told_place (Some p))

module _ {A : Type 0} (o : Ops A) where
  abbrev pub open_answer : State A → ℕ → A → Row A → Answer
  open_answer st m c empty = guard_at (tall_place o st.pile m c) 7 (accepted done)
  open_answer st m c (rest s) = refused 5 None
  open_answer st m c (moving s a) = refused 5 None

  -- 10 where the search does not name every open bay, then 12 where the sheet is short
  abbrev pub order_answer : List (Limit A) → Bays A → List ℕ → (ℕ → Reply) → Answer
  order_answer ls t sheet f = guard (not (length (safe_order o ls t) == open_bays t)) 10 (guard (nat_lt (length sheet) 64) 12 (accepted (f (length (safe_order o ls t)))))

  -- the bays, and the pile, with the ask granted
  abbrev pub asked_bays : State A → ℕ → Session A → A → Bays A
  asked_bays st i s h = slice_set (seen st.rows) i (Some (with_holding s h))

  abbrev pub asked_pile : State A → Session A → A → List (Limit A)
  asked_pile st s a = taken o s.mark a st.pile

  abbrev pub grant_answer : State A → ℕ → A → List ℕ → Session A → Option A → Answer
  grant_answer st i a sheet s None = refused 8 None
  grant_answer st i a sheet s (Some h) =
      guard (not (within o (Some h) s.claim)) 8 (guard_at (short_place o st.pile s.mark a) 9
      (order_answer (asked_pile st s a) (asked_bays st i s h) sheet (λ n. granted n (record { number = st.number; at = i }))))

  abbrev pub ask_answer : State A → ℕ → A → List ℕ → Option (Session A) → Answer
  ask_answer st i a sheet None = refused 6 None
  ask_answer st i a sheet (Some s) = grant_answer st i a sheet s (o.plus s.holding a)

  abbrev pub confirm_answer : Row A → Answer
  confirm_answer empty = refused 13 None
  confirm_answer (rest s) = refused 13 None
  confirm_answer (moving s a) = accepted done

  abbrev pub withdraw_answer : State A → Row A → Answer
  withdraw_answer st empty = refused 13 None
  withdraw_answer st (rest s) = refused 13 None
  withdraw_answer st (moving s a) = guard (is_some (torn_place o st.pile s.mark a)) 14 (accepted done)

  abbrev pub give_answer : State A → A → Option (Session A) → Answer
  give_answer st a None = refused 6 None
  give_answer st a (Some s) = guard (not (part o a s.holding)) 11 (guard (is_some (torn_place o st.pile s.mark a)) 14 (accepted done))

  abbrev pub end_answer : State A → Option (Session A) → Answer
  end_answer st None = refused 6 None
  end_answer st (Some s) = guard (is_some (torn_place o st.pile s.mark s.holding)) 14 (accepted done)

  -- an open session that holds anything
  abbrev pub holds_any : Option (Session A) → Bool
  holds_any None = false
  holds_any (Some s) = not (o.equal s.holding o.zero)

  -- the answer to a call, its refusals in the order in which they are tested
  abbrev pub answer : State A → Call A → Answer
  answer st (opens i m c) = guard st.shut 1 (guard (nat_le 64 i) 2 (guard (nat_le 16 m) 3 (guard (is_some (slip_bay st.rows)) 4 (open_answer st m c (row st.rows i)))))
  answer st (asks i a sheet) = guard st.shut 1 (guard (nat_le 64 i) 2 (guard (is_some (slip_bay st.rows)) 4 (ask_answer st i a sheet (seen_row (row st.rows i)))))
  answer st (confirms p) = guard st.shut 1 (guard (not (p.number == st.number)) 13 (confirm_answer (row st.rows p.at)))
  answer st (withdraws p) = guard st.shut 1 (guard (not (p.number == st.number)) 13 (withdraw_answer st (row st.rows p.at)))
  answer st (gives i a) = guard st.shut 1 (guard (nat_le 64 i) 2 (guard (is_some (slip_bay st.rows)) 4 (give_answer st a (seen_row (row st.rows i)))))
  answer st (ends i) = guard st.shut 1 (guard (nat_le 64 i) 2 (guard (is_some (slip_bay st.rows)) 4 (end_answer st (seen_row (row st.rows i)))))
  answer st (orders sheet) = guard st.shut 1 (order_answer st.pile (seen st.rows) sheet ordered)
  answer st all_in = guard st.shut 1 (accepted (answered (not (is_some (lowest_place holds_any (seen st.rows))))))

  -- a row after a granted ask, a confirm, a withdraw, a give
  abbrev pub asked : Row A → A → Row A
  asked empty a = empty
  asked (rest s) a = elim (o.plus s.holding a) [ None ↦ rest s | Some h ↦ moving (with_holding s h) a ]
  asked (moving s b) a = moving s b

  abbrev pub confirmed : Row A → Row A
  confirmed empty = empty
  confirmed (rest s) = rest s
  confirmed (moving s a) = rest s

  abbrev pub less_held : Session A → A → Row A
  less_held s a = elim (o.minus s.holding a) [ None ↦ rest s | Some h ↦ rest (with_holding s h) ]

  abbrev pub withdrawn : Row A → Row A
  withdrawn empty = empty
  withdrawn (rest s) = rest s
  withdrawn (moving s a) = less_held s a

  abbrev pub gave : Row A → A → Row A
  gave empty a = empty
  gave (rest s) a = less_held s a
  gave (moving s b) a = moving s b

  -- what an accepted call does to the rows
  abbrev pub effect : List (Row A) → Call A → List (Row A)
  effect rs (opens i m c) = slice_set rs i (rest (record { mark = m; claim = c; holding = o.zero }))
  effect rs (asks i a sheet) = slice_set rs i (asked (row rs i) a)
  effect rs (confirms p) = slice_set rs p.at (confirmed (row rs p.at))
  effect rs (withdraws p) = slice_set rs p.at (withdrawn (row rs p.at))
  effect rs (gives i a) = slice_set rs i (gave (row rs i) a)
  effect rs (ends i) = slice_set rs i empty
  effect rs (orders sheet) = rs
  effect rs all_in = rs

  -- what an accepted call does to the pile
  abbrev pub give_back : List (Limit A) → Row A → List (Limit A)
  give_back ls empty = ls
  give_back ls (rest s) = given_back o s.mark s.holding ls
  give_back ls (moving s a) = given_back o s.mark a ls

  abbrev pub with_mark : Option (Session A) → (ℕ → List (Limit A)) → List (Limit A) → List (Limit A)
  with_mark None f ls = ls
  with_mark (Some s) f ls = f s.mark

  abbrev pub drawn : List (Limit A) → List (Row A) → Call A → List (Limit A)
  drawn ls rs (opens i m c) = ls
  drawn ls rs (asks i a sheet) = with_mark (seen_row (row rs i)) (λ m. taken o m a ls) ls
  drawn ls rs (confirms p) = ls
  drawn ls rs (withdraws p) = give_back ls (row rs p.at)
  drawn ls rs (gives i a) = with_mark (seen_row (row rs i)) (λ m. given_back o m a ls) ls
  drawn ls rs (ends i) = give_back ls (row rs i)
  drawn ls rs (orders sheet) = ls
  drawn ls rs all_in = ls

  -- a refusal leaves the book as it was
  abbrev pub moved : State A → Call A → Answer → State A
  moved st c (refused k p) = st
  moved st c (accepted r) = record { shut = st.shut; number = st.number; pile = drawn st.pile st.rows c; rows = effect st.rows c }

  abbrev pub step : State A → Call A → State A
  step st c = moved st c (answer st c)

  abbrev pub after : State A → List (Call A) → State A
  after st [] = st
  after st (c ∷ cs) = after (step st c) cs

  -- the order in front of the sheet, whose rest stays
  abbrev pub filled : List ℕ → List ℕ → List ℕ
  filled is sheet = is ++ drop (length is) sheet

  -- the sheet after a call: the order after it where the call is accepted, else as it was
  abbrev pub sheet_by : State A → Call A → Answer → List ℕ
  sheet_by st (asks i a sheet) (accepted r) = let new = moved st (asks i a sheet) (accepted r) in filled (safe_order o new.pile (seen new.rows)) sheet
  sheet_by st (asks i a sheet) (refused k p) = sheet
  sheet_by st (orders sheet) (accepted r) = filled (safe_order o st.pile (seen st.rows)) sheet
  sheet_by st (orders sheet) (refused k p) = sheet
  sheet_by st (opens i m c) r = []
  sheet_by st (confirms p) r = []
  sheet_by st (withdraws p) r = []
  sheet_by st (gives i a) r = []
  sheet_by st (ends i) r = []
  sheet_by st all_in r = []

  abbrev pub sheet_after : State A → Call A → List ℕ
  sheet_after st c = sheet_by st c (answer st c)

  abbrev pub no_rows : List (Row A)
  no_rows = replicate 64 empty

  -- nothing is out at any place
  abbrev pub is_idle : List (Limit A) → Bool
  is_idle ls = not (is_some (lowest_place (λ l. not (o.equal l.out o.zero)) ls))

  -- a book over a pile that is not idle, or over a kind wider than 16 bytes, is shut
  abbrev pub new : ℕ → ℕ → List (Limit A) → State A
  new width k ls = record { shut = not (nat_le width 16) || not (is_idle ls); number = k; pile = ls; rows = no_rows }
