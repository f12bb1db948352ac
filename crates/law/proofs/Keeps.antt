-- What each call keeps.
use Rattle.std.proofs.Common.{◌≡◌, ℕ, zero, suc, ◌<◌, ◌≤◌, true, false, not, eqb, leb, List, [], ◌∷◌, length, set, is_some, Some, None, Option, sym, refl, ap, ◌∙◌, subst, inl, inr, arith, length-set, get_or-set_same, set-set, eqb-true, leb-false}
use lib.ListN.{length-map}
use lib.Seq.{set-get_or, map-set}
use Rattle.std.proofs.lemmas.Bool.{le-leb}
use Rattle.amount.specs.Arithmetic.{Laws, Ops}
use Rattle.pool.specs.Limits.{Bound, Idle, Limit, bounds, given_back, lowest_place, over, part, short_place, tall_place, within}
use Rattle.orders.specs.Orders.{Order}
use Rattle.orders.specs.Sessions.{Bays, Session, WithinCeilings, bay, held_under, open_bays, share, short_under, with_holding}
use Rattle.law.specs.Book.{asked_pile, asked_bays, Answer, Call, Reply, Row, Slip, State, accepted, after, all_in, answer, ask_answer, asked, asks, confirm_answer, confirmed, confirms, done, empty, end_answer, ends, gave, give_answer, give_back, gives, grant_answer, is_moving, less_held, moved, moving, new, no_rows, open_answer, opens, orders, refused, rest, row, seen, seen_row, slip_bay, step, with_mark, withdraw_answer, withdrawn, withdraws}
use Rattle.law.specs.Law.{Sums}
use Rattle.law.proofs.Opening.{total_open, order_open}
use Rattle.pool.proofs.Stays.{bounds_taken, bounds_given}
use Rattle.law.proofs.Pile.{matches_taken, matches_given, idle_sums, total_back, total_beside, short_same}
use Rattle.law.proofs.Played.{out_vacant}
use Rattle.law.proofs.Rows.{refused_accepted, pass, pass_at, none_given, not_not, nowhere, bay_row, row_rest, vacant_rows, slips_set, Slips, slip_alone}
use Rattle.orders.proofs.Bays.{share_on, share_off, Below, Dom, dom_refl, dom_put_left}
use Rattle.orders.proofs.Planned.{held_down, held_hand, order_down, out_hand_on, out_hand_off, leq_less}
use Rattle.orders.proofs.Sums.{leq_eq, leq_zero, leq_within, within_leq}
use Rattle.orders.proofs.Walked.{true_false}
use Rattle.orders.proofs.Stand.{walk_complete}
use Rattle.law.proofs.Trial.{safe_same}
use Rattle.law.specs.SafeOrder.{safe_order}

-- what holds of a book at every moment: ls are its bounds
pub record Inv {A : Type 0} (o : Ops A) (ls : List (Bound A)) (st : State A) : Type 0 where
  pub opened : st.shut ≡ false
  pub size : length st.rows ≡ 64
  pub frame : bounds st.pile ≡ ls
  pub sums : Sums o st.pile (seen st.rows)
  pub held : WithinCeilings o ls (seen st.rows)
  pub order : (os : List ℕ) × Order o ls (seen st.rows) os
  pub slips : Slips o st.rows

abbrev pub state : {A : Type 0} → State A → List (Limit A) → List (Row A) → State A
state st ks rs = record { shut = st.shut; number = st.number; pile = ks; rows = rs }

module _ {A : Type 0} (o : Ops A) (L : Laws o) where
  pub tall_same : (ks : List (Limit A)) (m : ℕ) (a : A) → tall_place o ks m a ≡ lowest_place (over o m (Some a)) (bounds ks)
  tall_same [] m a = refl
  tall_same (k ∷ ks) m a = rw (tall_same ks m a)

  matches_same : (ks : List (Limit A)) (t u : Bays A) → ((l : Bound A) → held_under o l u ≡ held_under o l t) → Sums o ks t → Sums o ks u
  matches_same [] t u f h = tt
  matches_same (k ∷ ks) t u f h = (f k.bound ∙ h.0, matches_same ks t u f h.1)

  held_same : (ls : List (Bound A)) (t u : Bays A) → ((l : Bound A) → held_under o l u ≡ held_under o l t) → WithinCeilings o ls t → WithinCeilings o ls u
  held_same [] t u f h = tt
  held_same (l ∷ ls) t u f h = (rw (f l) h.0, held_same ls t u f h.1)

  held_idle : (ls : List (Bound A)) (t : Bays A) → ((l : Bound A) → held_under o l t ≡ Some o.zero) → WithinCeilings o ls t
  held_idle [] t f = tt
  held_idle (l ∷ ls) t f = (rw (f l) (leq_within o L (Some o.zero) l.ceiling (leq_zero o L (Some l.ceiling))), held_idle ls t f)

  idle_test : (ks : List (Limit A)) → Idle o ks → lowest_place (λ l. not (o.equal l.out o.zero)) ks ≡ None
  idle_test [] h = refl
  idle_test (k ∷ ks) h = rw ((L.equality k.out o.zero).1 h.0, idle_test ks h.1)

  pub inv_new : (w k : ℕ) (ks : List (Limit A)) → w ≤ 16 → Idle o ks → Inv o (bounds ks) (new o w k ks)
  inv_new w k ks n h =
      let f : (l : Bound A) → held_under o l (seen (no_rows o)) ≡ Some o.zero = λ l. out_vacant o L l (seen (no_rows o)) (vacant_rows 64) in
      record {
        opened = rw (le-leb w 16 n, idle_test ks h);
        size = refl;
        frame = refl;
        sums = idle_sums o L ks (seen (no_rows o)) f h;
        held = held_idle (bounds ks) (seen (no_rows o)) f;
        order = ([], vacant_rows 64);
        slips = inl refl;
      }

  module _ (ls : List (Bound A)) (st : State A) (v : Inv o ls st) where
    -- one row is another, and the pile follows
    inv_set : (ks : List (Limit A)) (i : ℕ) (w : Row A) (x : Option (Session A)) → seen_row w ≡ x → bounds ks ≡ ls → Sums o ks (set (seen st.rows) i x) → WithinCeilings o ls (set (seen st.rows) i x)
        → (os : List ℕ) × Order o ls (set (seen st.rows) i x) os → Slips o (set st.rows i w) → Inv o ls (state st ks (set st.rows i w))
    inv_set ks i w x ex f m h q sl =
        let e : set (seen st.rows) i x ≡ seen (set st.rows i w) = ap (set (seen st.rows) i) (sym ex) ∙ sym (map-set seen_row st.rows i w) in
        record {
          opened = v.opened;
          size = length-set st.rows i w ∙ v.size;
          frame = f;
          sums = subst (Sums o ks) e m;
          held = subst (WithinCeilings o ls) e h;
          order = (q.0, subst (λ t. Order o ls t q.0) e q.1);
          slips = sl;
        }

    -- part of a holding goes back, or all of it
    inv_back : (i : ℕ) (s : Session A) (w : Row A) (x : Option (Session A)) (a h : A) → seen_row w ≡ x → bay (seen st.rows) i ≡ Some s → o.plus a h ≡ Some s.holding
        → ((l : Bound A) → l.watches s.mark ≡ true → share o l x ≡ Some h)
        → ((l : Bound A) → l.watches s.mark ≡ false → share o l x ≡ Some o.zero)
        → Below o L x (Some s) → Slips o (set st.rows i w) → Inv o ls (state st (given_back o s.mark a st.pile) (set st.rows i w))
    inv_back i s w x a h ex b e on off d sl =
        let t = seen st.rows in
        let dom : Dom o L (set t i x) t = dom_put_left o L x t t i (dom_refl o L t) (rw b d) in
        inv_set (given_back o s.mark a st.pile) i w x ex (bounds_given o s.mark a st.pile ∙ v.frame)
        (matches_given o L s.mark a st.pile t (set t i x) (λ l z. total_back o L l t i s x a h b e (on l z) z) (λ l z. total_beside o L l t i s x b (off l z) z) v.sums)
        (held_down o L ls (set t i x) t dom v.held)
        (order_down o L ls v.order.0 (set t i x) t dom v.order.1)
        sl

    part_below : (s : Session A) (a h : A) → o.plus a h ≡ Some s.holding → Below o L (Some (with_holding s h)) (Some s)
    part_below s a h e = (refl, refl, record { more = Some a; sum = L.commutes h a ∙ e })

    -- part of a holding goes back
    inv_less : (i : ℕ) (s : Session A) (a h : A) → bay (seen st.rows) i ≡ Some s → o.minus s.holding a ≡ Some h
        → slip_bay (set st.rows i empty) ≡ None → Inv o ls (state st (given_back o s.mark a st.pile) (set st.rows i (less_held o s a)))
    inv_less i s a h b e sl =
        let p = (L.difference a s.holding h).0 e in
        let ew : less_held o s a ≡ rest (with_holding s h) = rw (e, less_held) in
        let sl' : slip_bay (set st.rows i (rest (with_holding s h))) ≡ None = rw (set-set st.rows i empty (rest (with_holding s h))) at (slips_set (set st.rows i empty) i (rest (with_holding s h)) refl sl) in
        rw ew (inv_back i s (rest (with_holding s h)) (Some (with_holding s h)) a h refl b p (λ l z. share_on o L l (with_holding s h) z) (λ l z. share_off o L l (with_holding s h) z) (part_below s a h p) (inl sl'))

    inv_opens : (i m : ℕ) (c : A) (r : Reply) → answer o st (opens i m c) ≡ accepted r → Inv o ls (moved o st (opens i m c) (accepted r))
    inv_opens i m c r e =
        let p1 = pass st.shut 1 _ r e in
        let p2 = pass (leb 64 i) 2 _ r p1.1 in
        let p3 = pass (leb 16 m) 3 _ r p2.1 in
        let p4 = pass (is_some (slip_bay st.rows)) 4 _ r p3.1 in
        let q = at_row (row st.rows i) p4.1 in
        let s : Session A = record { mark = m; claim = c; holding = o.zero } in
        let t = seen st.rows in
        let b : bay t i ≡ None = bay_row st.rows i ∙ ap seen_row q.0 in
        let lt : i < 64 = leb-false 64 i p2.0 in
        let n : i < length t = omega (arith, length-map st.rows (seen_row {A = A}), v.size) in
        let same : (l : Bound A) → held_under o l (set t i (Some s)) ≡ held_under o l t = λ l. total_open o L l t i s n b refl in
        inv_set st.pile i (rest s) (Some s) refl v.frame (matches_same st.pile t (set t i (Some s)) same v.sums) (held_same ls t (set t i (Some s)) same v.held)
        (order_open o L ls v.order.0 t i s n b refl (subst (λ bs. lowest_place (over o m (Some c)) bs ≡ None) v.frame (sym (tall_same st.pile m c) ∙ q.1)) v.order.1)
        (inl (slips_set st.rows i (rest s) refl (none_given (slip_bay st.rows) p4.0)))
      where
        at_row : (w : Row A) → open_answer o st m c w ≡ accepted r → (w ≡ empty) × (tall_place o st.pile m c ≡ None)
        at_row empty h = (refl, (pass_at (tall_place o st.pile m c) 7 (accepted done) r h).0)
        at_row (rest s) h = refused_accepted h
        at_row (moving s a) h = refused_accepted h

    -- a granted ask: what its answer says
    pub record Grant (i : ℕ) (a : A) (n : List ℕ) : Type 0 where
      pub session : Session A
      pub after_it : A
      pub free : slip_bay st.rows ≡ None
      pub at_rest : row st.rows i ≡ rest session
      pub grown : o.plus session.holding a ≡ Some after_it
      pub room : short_place o st.pile session.mark a ≡ None
      pub names : length (safe_order o (asked_pile o st session a) (asked_bays o st i session after_it)) ≡ open_bays (asked_bays o st i session after_it)

    pub grant_of : (i : ℕ) (a : A) (n : List ℕ) (r : Reply) → answer o st (asks i a n) ≡ accepted r → Grant i a n
    grant_of i a n r e =
        let p1 = pass st.shut 1 _ r e in
        let p2 = pass (leb 64 i) 2 _ r p1.1 in
        let p3 = pass (is_some (slip_bay st.rows)) 4 _ r p2.1 in
        let free = none_given (slip_bay st.rows) p3.0 in
        at_seen free (seen_row (row st.rows i)) refl p3.1
      where
        at_sum : slip_bay st.rows ≡ None → (s : Session A) (x : Option A) → seen_row (row st.rows i) ≡ Some s → o.plus s.holding a ≡ x → grant_answer o st i a n s x ≡ accepted r → Grant i a n
        at_sum free s None q f h = refused_accepted h
        at_sum free s (Some k) q f h =
            let t = set (seen st.rows) i (Some (with_holding s k)) in
            let p1 = pass (not (within o (Some k) s.claim)) 8 _ r h in
            let p2 = pass_at (short_place o st.pile s.mark a) 9 _ r p1.1 in
            let p3 = pass (not (eqb (length (safe_order o (asked_pile o st s a) t)) (open_bays t))) 10 _ r p2.1 in
            record {
              session = s;
              after_it = k;
              free = free;
              at_rest = row_rest (row st.rows i) s q (nowhere is_moving empty refl st.rows free i);
              grown = f;
              room = p2.0;
              names = eqb-true _ _ (not_not _ p3.0);
            }

        at_seen : slip_bay st.rows ≡ None → (x : Option (Session A)) → seen_row (row st.rows i) ≡ x → ask_answer o st i a n x ≡ accepted r → Grant i a n
        at_seen free None q h = refused_accepted h
        at_seen free (Some s) q h = at_sum free s (o.plus s.holding a) q refl h

    -- the state after a granted ask
    inv_grant : (i : ℕ) (a : A) (n : List ℕ) (g : Grant i a n) → Inv o ls (state st (asked_pile o st g.session a) (set st.rows i (moving (with_holding g.session g.after_it) a)))
    inv_grant i a n g =
        let s = g.session in
        let k = g.after_it in
        let t = seen st.rows in
        let u = set t i (Some (with_holding s k)) in
        let w : Row A = moving (with_holding s k) a in
        let b : bay t i ≡ Some s = bay_row st.rows i ∙ ap seen_row g.at_rest in
        let inside : i < length st.rows = open_row st.rows i s g.at_rest in
        let same = bounds_taken o s.mark a st.pile ∙ v.frame in
        let sums = matches_taken o L s.mark a st.pile t u (λ l z. out_hand_on o L l t i s a k b g.grown z) (λ l z. out_hand_off o L l t i s k b z) v.sums g.room in
        inv_set (asked_pile o st s a) i w (Some (with_holding s k)) refl same
        sums
        (held_hand o L ls t u s.mark a (λ l z. leq_eq o L (out_hand_on o L l t i s a k b g.grown z)) (λ l z. leq_eq o L (out_hand_off o L l t i s k b z)) v.held
        (subst (λ bs. short_under o bs t s.mark a ≡ None) v.frame (sym (short_same o L st.pile t s.mark a v.sums) ∙ g.room)))
        (subst (λ bs. (os : List ℕ) × Order o bs u os) same (((walk_complete o L).exists (bounds (asked_pile o st s a)) u).1 (ap length (sym (safe_same o L (asked_pile o st s a) u sums)) ∙ g.names)))
        (inr (record {
          at = i;
          session = with_holding s k;
          portion = a;
          rest_held = s.holding;
          moves = get_or-set_same st.rows i w empty inside;
          part = (L.difference a k s.holding).1 (L.commutes a s.holding ∙ g.grown);
          alone = rw (set-set st.rows i w empty) (slips_set st.rows i empty refl g.free);
        }))
      where
        open_row : (rs : List (Row A)) (i : ℕ) (s : Session A) → row rs i ≡ rest s → i < length rs
        open_row [] i s h = let z : ◌≡◌ {A = ℕ} 0 1 = cc in absurd (omega arith)
        open_row (x ∷ rs) zero s h = omega arith
        open_row (x ∷ rs) (suc i) s h = let p = open_row rs i s h in omega arith

    pub moved_grant : (i : ℕ) (a : A) (n : List ℕ) (r : Reply) (g : Grant i a n) → moved o st (asks i a n) (accepted r) ≡ state st (asked_pile o st g.session a) (set st.rows i (moving (with_holding g.session g.after_it) a))
    moved_grant i a n r g = rw (g.at_rest, asked, g.grown)

    inv_asks : (i : ℕ) (a : A) (n : List ℕ) (r : Reply) → answer o st (asks i a n) ≡ accepted r → Inv o ls (moved o st (asks i a n) (accepted r))
    inv_asks i a n r e = let g = grant_of i a n r e in rw (moved_grant i a n r g) (inv_grant i a n g)

    inv_confirms : (p : Slip) (r : Reply) → answer o st (confirms p) ≡ accepted r → Inv o ls (moved o st (confirms p) (accepted r))
    inv_confirms p r e =
        let p1 = pass st.shut 1 _ r e in
        let p2 = pass (not (eqb p.number st.number)) 13 _ r p1.1 in
        at_row (row st.rows p.at) refl p2.1
      where
        at_row : (w : Row A) → row st.rows p.at ≡ w → confirm_answer o w ≡ accepted r → Inv o ls (state st st.pile (set st.rows p.at (confirmed o w)))
        at_row empty q h = refused_accepted h
        at_row (rest s) q h = refused_accepted h
        at_row (moving s a) q h =
            let j = p.at in
            let t = seen st.rows in
            let same : t ≡ set t j (Some s) = sym (set-get_or t j None) ∙ ap (set t j) (bay_row st.rows j ∙ ap seen_row q) in
            let sl : slip_bay (set st.rows j (rest s)) ≡ None = rw (set-set st.rows j empty (rest s)) at (slips_set (set st.rows j empty) j (rest s) refl (slip_alone o st.rows j s a v.slips q).0) in
            inv_set st.pile j (rest s) (Some s) refl v.frame (subst (Sums o st.pile) same v.sums) (subst (WithinCeilings o ls) same v.held)
            (v.order.0, subst (λ u. Order o ls u v.order.0) same v.order.1) (inl sl)

    inv_withdraws : (p : Slip) (r : Reply) → answer o st (withdraws p) ≡ accepted r → Inv o ls (moved o st (withdraws p) (accepted r))
    inv_withdraws p r e =
        let p1 = pass st.shut 1 _ r e in
        let p2 = pass (not (eqb p.number st.number)) 13 _ r p1.1 in
        at_row (row st.rows p.at) refl p2.1
      where
        at_row : (w : Row A) → row st.rows p.at ≡ w → withdraw_answer o st w ≡ accepted r → Inv o ls (state st (give_back o st.pile w) (set st.rows p.at (withdrawn o w)))
        at_row empty q h = refused_accepted h
        at_row (rest s) q h = refused_accepted h
        at_row (moving s a) q h =
            let k = slip_alone o st.rows p.at s a v.slips q in
            inv_less p.at s a k.1.0 (bay_row st.rows p.at ∙ ap seen_row q) k.1.1 k.0

    inv_gives : (i : ℕ) (a : A) (r : Reply) → answer o st (gives i a) ≡ accepted r → Inv o ls (moved o st (gives i a) (accepted r))
    inv_gives i a r e =
        let p1 = pass st.shut 1 _ r e in
        let p2 = pass (leb 64 i) 2 _ r p1.1 in
        let p3 = pass (is_some (slip_bay st.rows)) 4 _ r p2.1 in
        at_row (none_given (slip_bay st.rows) p3.0) (row st.rows i) refl p3.1
      where
        at_row : slip_bay st.rows ≡ None → (w : Row A) → row st.rows i ≡ w → give_answer o st a (seen_row w) ≡ accepted r
            → Inv o ls (state st (with_mark o (seen_row w) (λ m. given_back o m a st.pile) st.pile) (set st.rows i (gave o w a)))
        at_row free empty q h = refused_accepted h
        at_row free (rest s) q h =
            let p = pass (not (part o a s.holding)) 11 _ r h in
            let k = leq_less o L a s.holding (within_leq o L (Some a) s.holding (not_not _ p.0)) in
            inv_less i s a k.0 (bay_row st.rows i ∙ ap seen_row q) k.1 (slips_set st.rows i empty refl free)
        at_row free (moving s b) q h = true_false (ap is_moving q) (nowhere is_moving empty refl st.rows free i)

    inv_ends : (i : ℕ) (r : Reply) → answer o st (ends i) ≡ accepted r → Inv o ls (moved o st (ends i) (accepted r))
    inv_ends i r e =
        let p1 = pass st.shut 1 _ r e in
        let p2 = pass (leb 64 i) 2 _ r p1.1 in
        let p3 = pass (is_some (slip_bay st.rows)) 4 _ r p2.1 in
        at_row (none_given (slip_bay st.rows) p3.0) (row st.rows i) refl p3.1
      where
        at_row : slip_bay st.rows ≡ None → (w : Row A) → row st.rows i ≡ w → end_answer o st (seen_row w) ≡ accepted r
            → Inv o ls (state st (give_back o st.pile w) (set st.rows i empty))
        at_row free empty q h = refused_accepted h
        at_row free (rest s) q h =
            inv_back i s empty None s.holding o.zero refl (bay_row st.rows i ∙ ap seen_row q) (L.commutes s.holding o.zero ∙ L.identity s.holding) (λ l z. refl) (λ l z. refl) tt (inl (slips_set st.rows i empty refl free))
        at_row free (moving s b) q h = true_false (ap is_moving q) (nowhere is_moving empty refl st.rows free i)

    keeps : (c : Call A) (r : Answer) → answer o st c ≡ r → Inv o ls (moved o st c r)
    keeps c (refused k p) e = v
    keeps (opens i m c) (accepted r) e = inv_opens i m c r e
    keeps (asks i a n) (accepted r) e = inv_asks i a n r e
    keeps (confirms p) (accepted r) e = inv_confirms p r e
    keeps (withdraws p) (accepted r) e = inv_withdraws p r e
    keeps (gives i a) (accepted r) e = inv_gives i a r e
    keeps (ends i) (accepted r) e = inv_ends i r e
    keeps (orders n) (accepted r) e = v
    keeps all_in (accepted r) e = v

    pub inv_step : (c : Call A) → Inv o ls (step o st c)
    inv_step c = keeps c (answer o st c) refl

  pub inv_after : (ls : List (Bound A)) (cs : List (Call A)) (st : State A) → Inv o ls st → Inv o ls (after o st cs)
  inv_after ls [] st v = v
  inv_after ls (c ∷ cs) st v = inv_after ls cs (step o st c) (inv_step ls st v c)
