-- Worked points, as answers of the machine. Assumes nothing.
use Rattle.std.specs.Prelude.{◌≡◌, ℕ, ◌^◌, ◌<◌, true, false, List, [], ◌∷◌, replicate, Some, None}
use Rattle.std.proofs.Common.{lit<}
use Rattle.std.specs.Option.{option_map}
use Rattle.amount.specs.Arithmetic.{Ops}
use Rattle.amount.specs.Counts.{amps, amps_ops}
use Rattle.amount.specs.Phases.{phases_of, phases_ops}
use Rattle.amount.specs.Sets.{modules, modules_ops}
use Rattle.amount.specs.declared.amps.Amps.{Amps}
use Rattle.amount.specs.declared.modules.Modules.{Modules}
use Rattle.amount.specs.declared.phases.Phases.{Phases}
use Rattle.pool.specs.Limits.{Bound, Limit, limit, every_number, in_marks, all_but}
use Rattle.orders.specs.Sessions.{held_under}
use Rattle.law.specs.Book.{Row, empty, rest, seen, Slip, Call, opens, asks, confirms, withdraws, ends, orders, all_in, done, granted, ordered, answered, Answer, refused, accepted, State, answer, step, after, sheet_after, new}

-- the answers to a list of calls
abbrev pub answers : {A : Type 0} → Ops A → State A → List (Call A) → List Answer
answers o st [] = []
answers o st (c ∷ cs) = answer o st c ∷ answers o (step o st c) cs

abbrev slip : ℕ → Slip
slip i = record { number = 7; at = i }

abbrev sheet : List ℕ
sheet = replicate 64 0

abbrev phases : (x y z : ℕ) → x < 65536 → y < 65536 → z < 65536 → Phases
phases x y z p q r = phases_of (amps x p) (amps y q) (amps z r)

abbrev numbers : Phases → List ℕ
numbers a = a.l1.value ∷ a.l2.value ∷ a.l3.value ∷ []

abbrev session : {A : Type 0} → A → A → Row A
session c h = rest (record { mark = 0; claim = c; holding = h })

-- the textbook: a store of (10,5,7), and five bays by their claims and holdings, which make (7,2,5) out
abbrev textbook : State Phases
textbook = record {
  shut = false;
  number = 7;
  pile = limit every_number (phases 10 5 7 (lit< tt) (lit< tt) (lit< tt)) (phases 7 2 5 (lit< tt) (lit< tt) (lit< tt)) ∷ [];
  rows =
      session (phases 7 5 3 (lit< tt) (lit< tt) (lit< tt)) (phases 0 1 0 (lit< tt) (lit< tt) (lit< tt))
      ∷ session (phases 3 2 2 (lit< tt) (lit< tt) (lit< tt)) (phases 2 0 0 (lit< tt) (lit< tt) (lit< tt))
      ∷ session (phases 9 0 2 (lit< tt) (lit< tt) (lit< tt)) (phases 3 0 2 (lit< tt) (lit< tt) (lit< tt))
      ∷ session (phases 2 2 2 (lit< tt) (lit< tt) (lit< tt)) (phases 2 1 1 (lit< tt) (lit< tt) (lit< tt))
      ∷ session (phases 4 3 3 (lit< tt) (lit< tt) (lit< tt)) (phases 0 0 2 (lit< tt) (lit< tt) (lit< tt))
      ∷ replicate 59 empty;
}

-- bay 1 asks (1,0,2), bay 0 asks (0,2,0)
abbrev first : Call Phases
first = asks 1 (phases 1 0 2 (lit< tt) (lit< tt) (lit< tt)) sheet

abbrev second : Call Phases
second = asks 0 (phases 0 2 0 (lit< tt) (lit< tt) (lit< tt)) sheet

-- the sheet after an order of the five bays
abbrev listed : List ℕ
listed = 1 ∷ 3 ∷ 0 ∷ 2 ∷ 4 ∷ replicate 59 0

abbrev store_bound : Bound Phases
store_bound = record { watches = every_number; ceiling = phases 10 5 7 (lit< tt) (lit< tt) (lit< tt) }

pub record Textbook : Type 0 where
  -- what is out is the sum of the holdings
  pub sums : option_map numbers (held_under phases_ops (store_bound) (seen textbook.rows)) ≡ Some (7 ∷ 2 ∷ 5 ∷ [])
  -- the order is 1 3 0 2 4
  pub order : (answer phases_ops textbook (orders sheet) ≡ accepted (ordered 5)) × (sheet_after phases_ops textbook (orders sheet) ≡ listed)
  -- bay 1 asks (1,0,2): granted, 1 3 0 2 4
  pub grant : (answer phases_ops textbook first ≡ accepted (granted 5 (slip 1))) × (sheet_after phases_ops textbook first ≡ listed)
  -- that confirmed, bay 0 asks (0,2,0): refused 10
  pub refusal : answer phases_ops (after phases_ops textbook (first ∷ confirms (slip 1) ∷ [])) second ≡ refused 10 None

abbrev set_of : (n : ℕ) → n < 2 ^ 64 → Modules
set_of n p = modules n p

-- a store of {0,1,2,3}; bays 1 and 2 claim {0,1}; bay 1 holds {0}
abbrev modules_book : State Modules
modules_book = record {
  shut = false;
  number = 7;
  pile = limit every_number (set_of 0b1111 (lit< tt)) (set_of 0b1 (lit< tt)) ∷ [];
  rows = empty ∷ session (set_of 0b11 (lit< tt)) (set_of 0b1 (lit< tt)) ∷ session (set_of 0b11 (lit< tt)) (set_of 0 (lit< tt)) ∷ replicate 61 empty;
}

pub record ModulesCase : Type 0 where
  pub put_off : answer modules_ops modules_book (asks 2 (set_of 0b10 (lit< tt)) sheet) ≡ refused 10 None
  pub no_room : answer modules_ops modules_book (asks 2 (set_of 0b1 (lit< tt)) sheet) ≡ refused 9 (Some 0)
  pub above_claim : answer modules_ops modules_book (asks 2 (set_of 0b100 (lit< tt)) sheet) ≡ refused 8 None

-- a store of (32,32,32)
abbrev store_32 : State Phases
store_32 = new phases_ops 6 7 (limit every_number (phases 32 32 32 (lit< tt) (lit< tt) (lit< tt)) phases_ops.zero ∷ [])

pub record Claims : Type 0 where
  pub opened : answer phases_ops store_32 (opens 0 0 (phases 32 32 32 (lit< tt) (lit< tt) (lit< tt))) ≡ accepted done
  pub tall : answer phases_ops store_32 (opens 0 0 (phases 33 0 0 (lit< tt) (lit< tt) (lit< tt))) ≡ refused 7 (Some 0)

abbrev amount : Amps → ℕ
amount a = a.value

pub record EdgeSums : Type 0 where
  pub defined : option_map amount (amps_ops.plus (amps 65534 (lit< tt)) (amps 1 (lit< tt))) ≡ Some 65535
  pub undefined : option_map amount (amps_ops.plus (amps 65535 (lit< tt)) (amps 1 (lit< tt))) ≡ None

-- all of them together
pub record Points : Type 0 where
  pub textbook_case : Textbook
  pub modules_case : ModulesCase
  pub claims : Claims
  pub edge_sums : EdgeSums

abbrev same : (n : ℕ) → n < 65536 → Phases
same n p = phases n n n p p p

-- the worked day: a reserve of 4 for number 0 over a cap of 24 for marks 1 and 2 over a store of 32
abbrev day_pile : List (Limit Phases)
day_pile = limit every_number (same 32 (lit< tt)) phases_ops.zero ∷ limit (in_marks 6) (same 24 (lit< tt)) phases_ops.zero ∷ limit (all_but 0) (same 28 (lit< tt)) phases_ops.zero ∷ []

abbrev day_calls : List (Call Phases)
day_calls =
    opens 3 1 (same 20 (lit< tt)) ∷ opens 5 2 (same 16 (lit< tt)) ∷ asks 3 (same 12 (lit< tt)) sheet ∷ confirms (slip 3)
    ∷ asks 5 (same 8 (lit< tt)) sheet ∷ asks 5 (same 13 (lit< tt)) sheet ∷ asks 3 (same 8 (lit< tt)) sheet ∷ withdraws (slip 3) ∷ ends 3 ∷ all_in ∷ []

abbrev pub WorkedDay : Type 0
WorkedDay = answers phases_ops (new phases_ops 6 7 day_pile) day_calls ≡
    accepted done ∷ accepted done ∷ accepted (granted 2 (slip 3)) ∷ accepted done
    ∷ refused 10 None ∷ refused 9 (Some 1) ∷ accepted (granted 2 (slip 3)) ∷ accepted done ∷ accepted done ∷ accepted (answered true) ∷ []
