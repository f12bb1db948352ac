-- The tally: an account of a day that is kept from the calls' arguments and answers, and from nothing else. Assumes nothing.
use Rattle.std.specs.Prelude.{ℕ, List, map, replicate, Some, None, Option, slice_index_or, slice_set}
use Rattle.std.specs.Option.{option_map}
use Rattle.amount.specs.Arithmetic.{Ops}
use Rattle.orders.specs.Sessions.{Session, with_holding, Bays}
use Rattle.law.specs.Book.{Call, opens, asks, confirms, withdraws, gives, ends, orders, all_in, Answer, refused, accepted}

-- a session, and the portion that was granted and not yet confirmed or withdrawn
pub record Noted (A : Type 0) : Type 0 where
  pub session : Session A
  pub portion : Option A

-- the bays from bay 0
abbrev pub Tally : Type 0 → Type 0
Tally A = List (Option (Noted A))

abbrev pub session_of : {A : Type 0} → Noted A → Session A
session_of n = n.session

-- the sessions of a tally
abbrev pub sessions : {A : Type 0} → Tally A → Bays A
sessions t = map (option_map session_of) t

-- a bay's note, changed
abbrev pub at_bay : {A : Type 0} → Tally A → ℕ → (Noted A → Noted A) → Tally A
at_bay t i f = slice_set t i (option_map f (slice_index_or t i None))

module _ {A : Type 0} (o : Ops A) where
  -- the session with another holding, where that is defined
  abbrev pub holding_now : Session A → Option A → Session A
  holding_now s None = s
  holding_now s (Some h) = with_holding s h

  -- an amount is added to the holding, and noted as the portion
  abbrev pub adds : A → Noted A → Noted A
  adds a n = record { session = holding_now n.session (o.plus n.session.holding a); portion = Some a }

  -- an amount is taken off the holding
  abbrev pub takes_off : A → Noted A → Noted A
  takes_off a n = record { session = holding_now n.session (o.minus n.session.holding a); portion = n.portion }

  abbrev pub forgets : Noted A → Noted A
  forgets n = record { session = n.session; portion = None }

  -- the portion is taken off the holding, and then forgotten
  abbrev pub takes_back : Noted A → Noted A
  takes_back n = forgets (elim n.portion [ None ↦ n | Some a ↦ takes_off a n ])

  -- what an accepted call changes
  abbrev pub noted_call : Tally A → Call A → Tally A
  noted_call t (opens i m c) = slice_set t i (Some (record { session = record { mark = m; claim = c; holding = o.zero }; portion = None }))
  noted_call t (asks i a sheet) = at_bay t i (adds a)
  noted_call t (confirms p) = at_bay t p.at forgets
  noted_call t (withdraws p) = at_bay t p.at takes_back
  noted_call t (gives i a) = at_bay t i (takes_off a)
  noted_call t (ends i) = slice_set t i None
  noted_call t (orders sheet) = t
  noted_call t all_in = t

  -- a refused call changes nothing
  abbrev pub note : Tally A → Call A → Answer → Tally A
  note t c (refused k p) = t
  note t c (accepted r) = noted_call t c

  -- it begins with empty bays
  abbrev pub blank : Tally A
  blank = replicate 64 None
