-- A slip that is out stays so, whatever is called, until it is spent.
use Rattle.std.proofs.Common.{◌≡◌, ℕ, zero, suc, ◌<◌, Bool, true, false, not, eqb, ltb, leb, List, [], ◌∷◌, length, set, is_some, Some, None, Option, sym, refl, ap, ◌∙◌, subst, arith, get_or-set_same}
use Rattle.amount.specs.Arithmetic.{Ops}
use Rattle.pool.specs.Limits.{short_place, within}
use Rattle.orders.proofs.Walked.{true_false}
use Rattle.orders.specs.Sessions.{with_holding, open_bays}
use Rattle.orders.specs.Sessions.{Session}
use Rattle.law.specs.Book.{Answer, Reply, refused, accepted, granted, guard, State, Row, empty, rest, moving, row, seen_row, is_moving, slip_bay, Call, opens, asks, gives, ends, answer, step, moved, asked, asked_pile, asked_bays, ask_answer, grant_answer}
use Rattle.law.specs.Book as machine
use Rattle.law.specs.SafeOrder.{safe_order}
use Rattle.law.proofs.Rows.{refused_accepted, pass, pass_at, row_rest, nowhere, none_given}
use Rattle.book.proofs.Read.{calm}
use Rattle.book.specs.Replies.{slip_of}
use Rattle.book.specs.declared.slip.Slip.{Slip}
use Rattle.calls.specs.Held.{Out, Held}

abbrev Refused : Answer → Type 0
Refused (refused k p) = Unit {0}
Refused (accepted r) = ⊥

by_four : (x y z : Bool) (a : Answer) → z ≡ true → Refused (guard x 1 (guard y 2 (guard z 4 a)))
by_four true y z a h = tt
by_four false true z a h = tt
by_four false false true a h = tt
by_four false false false a h = true_false h refl

by_four_open : (x y m z : Bool) (a : Answer) → z ≡ true → Refused (guard x 1 (guard y 2 (guard m 3 (guard z 4 a))))
by_four_open true y m z a h = tt
by_four_open false true m z a h = tt
by_four_open false false true z a h = tt
by_four_open false false false true a h = tt
by_four_open false false false false a h = true_false h refl

not_both : (a : Answer) (r : Reply) → Refused a → a ≡ accepted r → ⊥
not_both (refused k p) r h e = refused_accepted e
not_both (accepted q) r h e = h

module _ {A : Type 0} (o : Ops A) (st : State A) where
  stays_by : (c : Call A) (a : Answer) → Refused a → moved o st c a ≡ st
  stays_by c (refused k p) h = refl
  stays_by c (accepted r) h = absurd h

  out_by : (p : Slip) → Out st p → (b : Bool) → is_some (slip_bay st.rows) ≡ b → b ≡ true
  out_by p h true e = refl
  out_by p h false e = true_false h.2 (calm st.rows p.bay e)

  is_out : (p : Slip) → Out st p → is_some (slip_bay st.rows) ≡ true
  is_out p h = out_by p h (is_some (slip_bay st.rows)) refl

  still : (c : Call A) (exit : State A) (h : Option Slip) → Refused (answer o st c) → exit ≡ step o st c → Held st h → Held exit h
  still c exit h n e k = subst (λ s. Held s h) (sym (e ∙ stays_by c (answer o st c) n)) k

  pub open_keeps : (i m : ℕ) (a : A) (exit : State A) (h : Option Slip) → exit ≡ step o st (opens i m a) → Held st h → Held exit h
  open_keeps i m a exit None e k = tt
  open_keeps i m a exit (Some p) e k = still (opens i m a) exit (Some p) (by_four_open st.shut (leb 64 i) (leb 16 m) _ _ (is_out p k)) e k

  pub give_keeps : (i : ℕ) (a : A) (exit : State A) (h : Option Slip) → exit ≡ step o st (gives i a) → Held st h → Held exit h
  give_keeps i a exit None e k = tt
  give_keeps i a exit (Some p) e k = still (gives i a) exit (Some p) (by_four st.shut (leb 64 i) _ _ (is_out p k)) e k

  pub end_keeps : (i : ℕ) (exit : State A) (h : Option Slip) → exit ≡ step o st (ends i) → Held st h → Held exit h
  end_keeps i exit None e k = tt
  end_keeps i exit (Some p) e k = still (ends i) exit (Some p) (by_four st.shut (leb 64 i) _ _ (is_out p k)) e k

  -- no second slip
  pub one_slip : (i : ℕ) (a : A) (n : List ℕ) (r : Reply) (p : Slip) → accepted r ≡ answer o st (asks i a n) → Out st p → ⊥
  one_slip i a n r p q k = not_both (answer o st (asks i a n)) r (by_four st.shut (leb 64 i) _ _ (is_out p k)) (sym q)

  at_row : (i : ℕ) (s : Session A) → row st.rows i ≡ rest s → i < length st.rows
  at_row i s h = go st.rows i h
    where
      go : (rs : List (Row A)) (i : ℕ) → row rs i ≡ rest s → i < length rs
      go [] i h = let z : ◌≡◌ {A = ℕ} 0 1 = cc in absurd (omega arith)
      go (x ∷ rs) zero h = omega arith
      go (x ∷ rs) (suc i) h = let p = go rs i h in omega arith

  -- the slip of a granted ask
  pub grant_out : (i : ℕ) (a : A) (n : List ℕ) (k : ℕ) (p : Slip) (exit : State A) → accepted (granted k (slip_of p)) ≡ answer o st (asks i a n) → exit ≡ step o st (asks i a n) → Out exit p
  grant_out i a n k p exit e to =
      let r = granted k (slip_of p) in
      let p1 = pass st.shut 1 _ r (sym e) in
      let p2 = pass (leb 64 i) 2 _ r p1.1 in
      let p3 = pass (is_some (slip_bay st.rows)) 4 _ r p2.1 in
      let free = none_given (slip_bay st.rows) p3.0 in
      subst (λ s. Out s p) (ap (moved o st (asks i a n)) e ∙ sym to) (at_seen p1.0 free (seen_row (row st.rows i)) refl p3.1)
    where
      named : (m : ℕ) (q : machine.Slip) → accepted (granted m q) ≡ accepted (granted k (slip_of p)) → q ≡ slip_of p
      named m q h = cc

      at_sum : st.shut ≡ false → slip_bay st.rows ≡ None → (s : Session A) (x : Option A) → seen_row (row st.rows i) ≡ Some s → o.plus s.holding a ≡ x → grant_answer o st i a n s x ≡ accepted (granted k (slip_of p)) → Out (moved o st (asks i a n) (accepted (granted k (slip_of p)))) p
      at_sum opened free s None q f h = refused_accepted h
      at_sum opened free s (Some t) q f h =
          let r = granted k (slip_of p) in
          let own : machine.Slip = record { number = st.number; at = i } in
          let order = safe_order o (asked_pile o st s a) (asked_bays o st i s t) in
          let q1 = pass (not (within o (Some t) s.claim)) 8 _ r h in
          let q2 = pass_at (short_place o st.pile s.mark a) 9 _ r q1.1 in
          let q3 = pass (not (eqb (length order) (open_bays (asked_bays o st i s t)))) 10 _ r q2.1 in
          let q4 = pass (ltb (length n) 64) 12 _ r q3.1 in
          let same : own ≡ slip_of p = named (length order) own q4.1 in
          let number : p.book ≡ st.number = sym (ap (λ (z : machine.Slip). z.number) same) in
          let bay : p.bay ≡ i = sym (ap (λ (z : machine.Slip). z.at) same) in
          let at_rest = row_rest (row st.rows i) s q (nowhere is_moving empty refl st.rows free i) in
          let to : asked o (row st.rows i) a ≡ moving (with_holding s t) a = ap (λ w. asked o w a) at_rest ∙ rw (asked, f) in
          let now = get_or-set_same st.rows i (asked o (row st.rows i) a) empty (at_row i s at_rest) in
          (opened, number, ap (λ j. is_moving (row (set st.rows i (asked o (row st.rows i) a)) j)) bay ∙ ap is_moving (now ∙ to))

      at_seen : st.shut ≡ false → slip_bay st.rows ≡ None → (x : Option (Session A)) → seen_row (row st.rows i) ≡ x → ask_answer o st i a n x ≡ accepted (granted k (slip_of p)) → Out (moved o st (asks i a n) (accepted (granted k (slip_of p)))) p
      at_seen opened free None q h = refused_accepted h
      at_seen opened free (Some s) q h = at_sum opened free s (o.plus s.holding a) q refl h
