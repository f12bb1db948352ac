-- What an ask comes to, once its tests are known.
use Rattle.std.proofs.Common.{◌≡◌, ℕ, Bool, true, false, cond, not, List, set, Some, None, Ok, Err, Option, sym, refl, ap, ◌∙◌, ap₂}
use lib.Seq.{map-set}
use Rattle.amount.specs.Arithmetic.{Ops}
use Rattle.pool.specs.Changes.{Changed}
use Rattle.pool.specs.Limits.{Limit, part, bounded, taken, taking, short_place}
use Rattle.pool.specs.declared.limit_fault.LimitFault.{LimitFault}
use Rattle.orders.proofs.Bays.{some_none}
use Rattle.orders.specs.Sessions.{Session, Bays, with_holding}
use Rattle.law.specs.Book.{State, Row, row, rest, moving, seen, seen_row, Answer, Reply, granted, refused, accepted, guard, guard_at, asks, asked, asked_pile, asked_bays, order_answer, grant_answer, answer, with_mark, moved, filled, sheet_by}
use Rattle.law.specs.SafeOrder.{safe_order}
use Rattle.rows.specs.Legend.{refusal}
use Rattle.rows.specs.declared.refusal.Refusal.TheVariants.{NoRoom}
use Rattle.book.proofs.Steps.{change_made, change_refused}

module _ {A : Type 0} (o : Ops A) (st : State A) (i : ℕ) (a : A) (sheet : List ℕ) (s : Session A) where
  -- 9, where a limit has no room, and then what the search answers
  abbrev from_nine : A → Option ℕ → Answer
  from_nine h short = guard_at short 9 (order_answer o (asked_pile o st s a) (asked_bays o st i s h) sheet (λ n. granted n (record { number = st.number; at = i })))

  cut : (h : A) (b : Bool) → part o h s.claim ≡ b → cond b (Some h) None ≡ None → grant_answer o st i a sheet s (Some h) ≡ refused 8 None
  cut h true e n = some_none refl n
  cut h false e n = ap (λ b. guard (not b) 8 (from_nine h (short_place o st.pile s.mark a))) e

  -- 8: the sum is undefined, or no part of the claim
  pub above : (p : Option A) → bounded o s.claim p ≡ None → grant_answer o st i a sheet s p ≡ refused 8 None
  above None n = refl
  above (Some h) n = cut h (part o h s.claim) refl n

  kept : (h k : A) (b : Bool) → part o h s.claim ≡ b → cond b (Some h) None ≡ Some k → (h ≡ k) × (grant_answer o st i a sheet s (Some h) ≡ from_nine h (short_place o st.pile s.mark a))
  kept h k true e n = (cc, ap (λ b. guard (not b) 8 (from_nine h (short_place o st.pile s.mark a))) e)
  kept h k false e n = some_none n refl

  -- 8 is passed
  pub fits_claim : (p : Option A) (h : A) → bounded o s.claim p ≡ Some h → (p ≡ Some h) × (grant_answer o st i a sheet s p ≡ from_nine h (short_place o st.pile s.mark a))
  fits_claim None h n = some_none n refl
  fits_claim (Some k) h n = let x = kept k h (part o k s.claim) refl n in (ap Some x.0, x.1 ∙ ap (λ y. from_nine y (short_place o st.pile s.mark a)) x.0)

  module _ (h : A) (fits : bounded o s.claim (o.plus s.holding a) ≡ Some h) (comes : answer o st (asks i a sheet) ≡ grant_answer o st i a sheet s (o.plus s.holding a)) (exit : List (Limit A)) where
    -- 9: a limit has no room
    pub no_room : (e : LimitFault) → Changed (taking o st.pile s.mark a) st.pile exit (Err e) → refusal (NoRoom e) ≡ answer o st (asks i a sheet)
    no_room e t =
        let y = change_refused o (short_place o st.pile s.mark a) (taken o s.mark a st.pile) st.pile exit e t in
        ap (λ e. refusal (NoRoom e)) y.2 ∙ sym (comes ∙ (fits_claim (o.plus s.holding a) h fits).1 ∙ ap (from_nine h) y.1)

    -- 9 is passed, and the sessions are seated
    module _ (t : Changed (taking o st.pile s.mark a) st.pile exit (Ok tt)) (bays : Bays A) (seated : bays ≡ asked_bays o st i s h) where
      took : (short_place o st.pile s.mark a ≡ None) × (exit ≡ asked_pile o st s a)
      took = change_made o (short_place o st.pile s.mark a) (taken o s.mark a st.pile) st.pile exit t

      pub searched : order_answer o exit bays sheet (λ n. granted n (record { number = st.number; at = i })) ≡ answer o st (asks i a sheet)
      searched =
          ap₂ (λ p u. order_answer o p u sheet (λ n. granted n (record { number = st.number; at = i }))) took.1 seated ∙ sym (comes ∙ (fits_claim (o.plus s.holding a) h fits).1 ∙ ap (from_nine h) took.0)

      module _ (at_rest : row st.rows i ≡ rest s) (r : Reply) where
        asked_is : asked o (rest s) a ≡ moving (with_holding s h) a
        asked_is = rw (asked, (fits_claim (o.plus s.holding a) h fits).0)

        -- the state with the ask granted
        pub granted_state : record { shut = st.shut; number = st.number; pile = exit; rows = set st.rows i (moving (with_holding s h) a) } ≡ moved o st (asks i a sheet) (accepted r)
        granted_state =
            let F : List (Limit A) → Row A → State A = λ ls x. record { shut = st.shut; number = st.number; pile = ls; rows = set st.rows i x } in
            ap₂ F (took.1 ∙ sym (ap (λ x. with_mark o (seen_row x) (λ m. taken o m a st.pile) st.pile) at_rest)) (sym (ap (λ x. asked o x a) at_rest ∙ asked_is))

        -- the order after it, on the sheet
        pub granted_sheet : filled o (safe_order o exit bays) sheet ≡ sheet_by o st (asks i a sheet) (accepted r)
        granted_sheet =
            ap (λ u. filled o (safe_order o exit u) sheet) (seated ∙ sym (map-set seen_row st.rows i (moving (with_holding s h) a)))
            ∙ ap (λ (new : State A). filled o (safe_order o new.pile (seen new.rows)) sheet) granted_state
