-- What the book and the planner share at every moment of a day.
use Rattle.std.proofs.Common.{◌≡◌, ℕ, suc, ◌<◌, ◌≤◌, Bool, true, false, not, eqb, ltb, leb, ◌⊎◌, ◌↔◌, List, [], ◌∷◌, ◌++◌, length, get_or, set, is_some, Some, None, Option, sym, refl, ap, ◌∙◌, subst, inl, inr, arith, length-set, get_or-set_other, get_or-set_same, set-set, eq-eqb, eqb-true}
use native.Mathlib.Decide.{ℕ_discrete}
use lib.ListN.{length-map}
use lib.Seq.{set-get_or, map-set}
use borrow.Author.Tests.{lt-leb}
use Rattle.std.proofs.lemmas.Bool.{le-ltb}
use Rattle.amount.specs.Arithmetic.{Ops, Laws}
use Rattle.pool.specs.Limits.{Bound, bounds, lowest_place, told_place, within, short_place, torn_place}
use Rattle.orders.specs.Orders.{Order, LowestFirst, lowest_walk}
use Rattle.orders.specs.Planner.{Succeeds}
use Rattle.orders.specs.Sessions.{held_under, add, Session, Bays, bay, emptied, short_under, with_holding, open_bays}
use Rattle.law.specs.Book.{Row, empty, rest, moving, seen_row, seen, row, is_moving, slip_bay, Slip, Call, asks, confirms, ends, orders, Reply, done, granted, ordered, Answer, refused, accepted, State, guard, guard_at, order_answer, grant_answer, ask_answer, confirm_answer, end_answer, answer, asked_pile, asked_bays, asked, confirmed, moved, step, after, sheet_by, new}
use Rattle.law.specs.Law.{Sums, Accepted, AcceptedThroughout, blank_sheet, bay_calls, order_calls, has_portion, slip_first, play, NothingOut, LetThrough, Moment, LawOfDays}
use Rattle.law.specs.SafeOrder.{safe_order}
use Rattle.law.specs.Tally.{sessions, noted_call, blank}
use Rattle.orders.proofs.Sums.{leq_within, leq_refl, leq_eq}
use Rattle.orders.proofs.Bays.{some_none, bay_shut}
use Rattle.orders.proofs.Planned.{held_hand, out_hand_on, out_hand_off}
use Rattle.orders.proofs.Stand.{walk_complete, planner_agrees}
use Rattle.orders.proofs.Walked.{true_false, first_some}
use Rattle.pool.proofs.Stays.{bounds_taken}
use Rattle.law.proofs.Pile.{never_torn, sums_idle, short_same, total_back, matches_taken}
use Rattle.law.proofs.Played.{order_handed, out_vacant}
use Rattle.law.proofs.Rows.{refused_accepted, nowhere, bay_row, open_bound, row_rest, row_empty, slips_set, Slips, slip_alone}
use Rattle.law.proofs.Keeps.{Inv, inv_new, inv_step, inv_after}
use Rattle.law.proofs.Tallied.{tallied, sessions_tallied, portion_bay, granted_sessions, kept_tallied}
use Rattle.law.proofs.Trial.{safe_same}

through : (b : Bool) (k : ℕ) → b ≡ false → {x y : Answer} → x ≡ y → guard b k x ≡ y
through b k e h = rw e h

through_at : (b : Option ℕ) (k : ℕ) → b ≡ None → {x y : Answer} → x ≡ y → guard_at b k x ≡ y
through_at b k e h = rw e h

somewhere : {B : Type 0} (f : B → Bool) (d : B) (bs : List B) (i : ℕ) → lowest_place f bs ≡ Some i → f (get_or bs i d) ≡ true
somewhere f d [] i h = some_none refl (sym h)
somewhere {B} f d (b ∷ bs) i h = go (first_some (f b) (lowest_place f bs) i h) (λ k e. somewhere f d bs k e)
  where
    go : ((f b ≡ true) × (i ≡ 0)) ⊎ ((f b ≡ false) × ((k : ℕ) × (lowest_place f bs ≡ Some k) × (i ≡ suc k))) → ((k : ℕ) → lowest_place f bs ≡ Some k → f (get_or bs k d) ≡ true) → f (get_or (b ∷ bs) i d) ≡ true
    go (inl h) ih = rw h.1 h.0
    go (inr h) ih = rw h.1.2 (ih h.1.0 h.1.1)

module _ {A : Type 0} (o : Ops A) where
  ask_row : (w : Row A) (s : Session A) (n h : A) → w ≡ rest s → o.plus s.holding n ≡ Some h → asked o w n ≡ moving (with_holding s h) n
  ask_row w s n h e f = rw (e, asked, f)

  -- a slip confirmed: none is out
  settled : (rs : List (Row A)) (j : ℕ) (s : Session A) (a : A) → Slips o rs → row rs j ≡ moving s a → slip_bay (set rs j (confirmed o (row rs j))) ≡ None
  settled rs j s a sl q =
      rw q (rw (set-set rs j empty (rest s)) at (slips_set (set rs j empty) j (rest s) refl (slip_alone o rs j s a sl q).0))

module _ {A : Type 0} (o : Ops A) (L : Laws o) (ls : List (Bound A)) where
  below_64 : (st : State A) (i : ℕ) (s : Session A) → Inv o ls st → bay (seen st.rows) i ≡ Some s → leb 64 i ≡ false
  below_64 st i s v b = let p = open_bound (seen st.rows) i s b in lt-leb 64 i (omega (arith, length-map st.rows (seen_row {A = A}), v.size))

  -- the calls are accepted from st on, and leave nothing out
  abbrev Goes : State A → List (Call A) → Type 0
  Goes st cs = AcceptedThroughout o st cs × NothingOut o (after o st cs)

  goes_on : (st : State A) (c : Call A) (cs : List (Call A)) (r : Reply) → answer o st c ≡ accepted r → Goes (moved o st c (accepted r)) cs → Goes st (c ∷ cs)
  goes_on st c cs r e g = subst (λ x. (Accepted x × AcceptedThroughout o (moved o st c x) cs) × NothingOut o (after o (moved o st c x) cs)) (sym e) ((tt, g.0), g.1)

  next_state : (st : State A) (c : Call A) (r : Reply) → answer o st c ≡ accepted r → Inv o ls st → Inv o ls (moved o st c (accepted r))
  next_state st c r e v = subst (λ x. Inv o ls (moved o st c x)) e (inv_step o L ls st v c)

  -- the tally of the whole order has what is still open
  abbrev Agree : Bays A → Bays A → Type 0
  Agree T t = (j : ℕ) (s : Session A) → bay t j ≡ Some s → bay T j ≡ Some s

  -- the ask for the need of an order's first bay
  asks_granted : (st : State A) (i : ℕ) (os : List ℕ) → Inv o ls st → slip_bay st.rows ≡ None → (r : Order o ls (seen st.rows) (i ∷ os))
      → (g : Reply) × (answer o st (asks i r.0.need blank_sheet) ≡ accepted g)
  asks_granted st i os v free r =
      let x = r.0 in
      let s = x.session in
      let t = seen st.rows in
      let u = set t i (Some (with_holding s s.claim)) in
      let full = (L.difference s.holding s.claim x.need).0 x.rest in
      let b : bay t i ≡ Some s = x.opened in
      let room : short_place o st.pile s.mark x.need ≡ None = short_same o L st.pile t s.mark x.need v.sums ∙ subst (λ bs. short_under o bs t s.mark x.need ≡ None) (sym v.frame) x.room in
      let sums = matches_taken o L s.mark x.need st.pile t u (λ l z. out_hand_on o L l t i s x.need s.claim b full z) (λ l z. out_hand_off o L l t i s s.claim b z) v.sums room in
      let same = bounds_taken o s.mark x.need st.pile ∙ v.frame in
      let names = ap length (safe_same o L (asked_pile o st s x.need) u sums) ∙ ((walk_complete o L).exists (bounds (asked_pile o st s x.need)) u).0 (i ∷ os, subst (λ bs. Order o bs u (i ∷ os)) (sym same) (order_handed o L ls t i os r)) in (
        granted (length (safe_order o (asked_pile o st s x.need) u)) (record { number = st.number; at = i }),
        through st.shut 1 v.opened
            (through (leb 64 i) 2 (below_64 st i s v x.opened)
            (through (is_some (slip_bay st.rows)) 4 (ap is_some free)
            (ap (ask_answer o st i x.need blank_sheet) (sym (bay_row st.rows i) ∙ x.opened)
            ∙ ap (grant_answer o st i x.need blank_sheet s) full
            ∙ through (not (within o (Some s.claim) s.claim)) 8 (ap not (leq_within o L (Some s.claim) s.claim (leq_refl o L (Some s.claim))))
            (through_at (short_place o st.pile s.mark x.need) 9 room
            (through (not (eqb (length (safe_order o (asked_pile o st s x.need) u)) (open_bays u))) 10 (ap not (eq-eqb _ _ names)) refl))))),
      )

  confirm_done : (st : State A) (i : ℕ) (s : Session A) (a : A) → Inv o ls st → row st.rows i ≡ moving s a → answer o st (confirms (record { number = st.number; at = i })) ≡ accepted done
  confirm_done st i s a v q = through st.shut 1 v.opened (through (not (eqb st.number st.number)) 13 (ap not (eq-eqb st.number st.number refl)) (ap (confirm_answer o) q))

  end_done : (st : State A) (i : ℕ) (s : Session A) → Inv o ls st → slip_bay st.rows ≡ None → row st.rows i ≡ rest s → answer o st (ends i) ≡ accepted done
  end_done st i s v free q =
      let t = seen st.rows in
      let b : bay t i ≡ Some s = bay_row st.rows i ∙ ap seen_row q in
      through st.shut 1 v.opened
      (through (leb 64 i) 2 (below_64 st i s v b)
      (through (is_some (slip_bay st.rows)) 4 (ap is_some free)
      (ap (end_answer o st) (ap seen_row q)
      ∙ through (is_some (torn_place o st.pile s.mark s.holding)) 14
      (ap is_some (never_torn o L s.mark s.holding st.pile t (emptied t i) (λ l w. total_back o L l t i s None s.holding o.zero b (L.commutes s.holding o.zero ∙ L.identity s.holding) refl w) v.sums)) refl)))

  agree_shut : (T t : Bays A) (i : ℕ) → Agree T t → Agree T (emptied t i)
  agree_shut T t i f j s h = go (ℕ_discrete j i)
    where
      go : Dec (j ≡ i) → bay T j ≡ Some s
      go (yes e) = some_none h (ap (bay (emptied t i)) e ∙ bay_shut t i)
      go (no n) = f j s (sym (get_or-set_other t i j None None n) ∙ h)

  calls_are : (k i : ℕ) (x : Option (Session A)) (s : Session A) (n : A) → x ≡ Some s → o.minus s.claim s.holding ≡ Some n
      → bay_calls o k i x ≡ asks i n blank_sheet ∷ (confirms (record { number = k; at = i }) ∷ (ends i ∷ []))
  calls_are k i x s n e h = rw (e, bay_calls, h)

  play_order : (os : List ℕ) (T : Bays A) (st : State A) → Inv o ls st → slip_bay st.rows ≡ None → Agree T (seen st.rows) → Order o ls (seen st.rows) os → Goes st (order_calls o st.number T os)
  play_order [] T st v free f r =
      (tt, ((λ i. row_empty (row st.rows i) (sym (bay_row st.rows i) ∙ r i)), sums_idle o L st.pile (seen st.rows) (λ l. out_vacant o L l (seen st.rows) r) v.sums))
  play_order (i ∷ os) T st v free f r =
      let x = r.0 in
      let s = x.session in
      let n = x.need in
      let k = st.number in
      let full = (L.difference s.holding s.claim n).0 x.rest in
      let s' = with_holding s s.claim in
      let inside : i < length st.rows = subst (λ z. i < z) (length-map st.rows seen_row) (open_bound (seen st.rows) i s x.opened) in
      let at_rest : row st.rows i ≡ rest s = row_rest (row st.rows i) s (sym (bay_row st.rows i) ∙ x.opened) (nowhere is_moving empty refl st.rows free i) in
      let a1 = asks_granted st i os v free r in
      let st1 = moved o st (asks i n blank_sheet) (accepted a1.0) in
      let v1 = next_state st (asks i n blank_sheet) a1.0 a1.1 v in
      let m1 : row st1.rows i ≡ moving s' n = get_or-set_same st.rows i (asked o (row st.rows i) n) empty inside ∙ ask_row o (row st.rows i) s n s.claim at_rest full in
      let p : Slip = record { number = k; at = i } in
      let a2 = confirm_done st1 i s' n v1 m1 in
      let st2 = moved o st1 (confirms p) (accepted done) in
      let v2 = next_state st1 (confirms p) done a2 v1 in
      let inside1 : i < length st1.rows = rw length-set inside in
      let m2 : row st2.rows i ≡ rest s' = get_or-set_same st1.rows i (confirmed o (row st1.rows i)) empty inside1 ∙ ap (confirmed o) m1 in
      let free2 : slip_bay st2.rows ≡ None = settled o st1.rows i s' n v1.slips m1 in
      let a3 = end_done st2 i s' v2 free2 m2 in
      let st3 = moved o st2 (ends i) (accepted done) in
      let v3 = next_state st2 (ends i) done a3 v2 in
      let free3 : slip_bay st3.rows ≡ None = slips_set st2.rows i empty refl free2 in
      let e : emptied (seen st.rows) i ≡ seen st3.rows =
      sym (ap seen (set-set st1.rows i (confirmed o (row st1.rows i)) empty ∙ set-set st.rows i (asked o (row st.rows i) n) empty) ∙ map-set seen_row st.rows i empty) in
      let ih = play_order os T st3 v3 free3 (subst (Agree T) e (agree_shut T (seen st.rows) i f)) (subst (λ t. Order o ls t os) e r.1) in
      subst (λ cs. Goes st (cs ++ order_calls o k T os)) (sym (calls_are k i (bay T i) s n (f i s x.opened) x.rest))
      (goes_on st (asks i n blank_sheet) (confirms p ∷ (ends i ∷ order_calls o k T os)) a1.0 a1.1
      (goes_on st1 (confirms p) (ends i ∷ order_calls o k T os) done a2
      (goes_on st2 (ends i) (order_calls o k T os) done a3 ih)))

  -- the slip confirmed first, if one is out
  play_all : (st : State A) (os : List ℕ) → Inv o ls st → Order o ls (seen st.rows) os → Goes st (slip_first st.number (slip_bay st.rows) (order_calls o st.number (seen st.rows) os))
  play_all st os v r = go (slip_bay st.rows) refl
    where
      at_row : (j : ℕ) (w : Row A) → row st.rows j ≡ w → is_moving w ≡ true → Goes st (confirms (record { number = st.number; at = j }) ∷ order_calls o st.number (seen st.rows) os)
      at_row j empty q h = true_false h refl
      at_row j (rest s) q h = true_false h refl
      at_row j (moving s a) q h =
          let p : Slip = record { number = st.number; at = j } in
          let t = seen st.rows in
          let a1 = confirm_done st j s a v q in
          let st1 = moved o st (confirms p) (accepted done) in
          let same : t ≡ seen st1.rows =
          sym (set-get_or t j None) ∙ ap (set t j) (bay_row st.rows j ∙ ap seen_row q) ∙ ap (λ w. set t j (seen_row (confirmed o w))) (sym q) ∙ sym (map-set seen_row st.rows j (confirmed o (row st.rows j))) in
          goes_on st (confirms p) (order_calls o st.number t os) done a1
          (play_order os t st1 (next_state st (confirms p) done a1 v) (settled o st.rows j s a v.slips q) (λ i x e. subst (λ u. bay u i ≡ Some x) (sym same) e) (subst (λ u. Order o ls u os) same r))

      go : (x : Option ℕ) → slip_bay st.rows ≡ x → Goes st (slip_first st.number x (order_calls o st.number (seen st.rows) os))
      go None e = play_order os (seen st.rows) st v e (λ j s h. h) r
      go (Some j) e = at_row j (row st.rows j) refl (somewhere is_moving empty st.rows j e)

  -- an ask that refusals 1 to 9 let through is decided by whether an order exists with it granted
  pub record Decided (st : State A) (i : ℕ) (a : A) (n : List ℕ) : Type 0 where
    pub session : Session A
    pub after_it : A
    pub opened : bay (seen st.rows) i ≡ Some session
    pub at_rest : row st.rows i ≡ rest session
    pub grown : o.plus session.holding a ≡ Some after_it
    pub room : short_place o st.pile session.mark a ≡ None
    pub decides : answer o st (asks i a n) ≡ order_answer o (asked_pile o st session a) (asked_bays o st i session after_it) n (λ m. granted m (record { number = st.number; at = i }))

  let_through : (st : State A) (i : ℕ) (a : A) (n : List ℕ) → LetThrough (answer o st (asks i a n)) → Decided st i a n
  let_through st i a n h = at_closed st.shut (leb 64 i) (slip_bay st.rows) refl refl refl
    where
      Low : Answer → Type 0
      Low x = answer o st (asks i a n) ≡ x

      low : {C : Type 0} (k : ℕ) (p : Option ℕ) → k ≤ 9 → Low (refused k p) → C
      low k p q e = let z = h k p e in absurd (omega arith)

      at_order : (s : Session A) (k : A) (b : Bool) (x : Option ℕ) → slip_bay st.rows ≡ None → seen_row (row st.rows i) ≡ Some s → o.plus s.holding a ≡ Some k → short_place o st.pile s.mark a ≡ x
          → Low (guard b 8 (guard_at x 9 (order_answer o (asked_pile o st s a) (asked_bays o st i s k) n (λ m. granted m (record { number = st.number; at = i }))))) → Decided st i a n
      at_order s k true x free q f r e = low 8 None (omega arith) e
      at_order s k false (Some p) free q f r e = low 9 (told_place (Some p)) (omega arith) e
      at_order s k false None free q f r e = record {
        session = s;
        after_it = k;
        opened = bay_row st.rows i ∙ q;
        at_rest = row_rest (row st.rows i) s q (nowhere is_moving empty refl st.rows free i);
        grown = f;
        room = r;
        decides = e;
      }

      at_sum : (s : Session A) (x : Option A) → slip_bay st.rows ≡ None → seen_row (row st.rows i) ≡ Some s → o.plus s.holding a ≡ x → Low (grant_answer o st i a n s x) → Decided st i a n
      at_sum s None free q f e = low 8 None (omega arith) e
      at_sum s (Some k) free q f e = at_order s k (not (within o (Some k) s.claim)) (short_place o st.pile s.mark a) free q f refl e

      at_seen : (x : Option (Session A)) → slip_bay st.rows ≡ None → seen_row (row st.rows i) ≡ x → Low (ask_answer o st i a n x) → Decided st i a n
      at_seen None free q e = low 6 None (omega arith) e
      at_seen (Some s) free q e = at_sum s (o.plus s.holding a) free q refl e

      at_closed : (c b : Bool) (x : Option ℕ) → st.shut ≡ c → leb 64 i ≡ b → slip_bay st.rows ≡ x → Decided st i a n
      at_closed true b x ec eb ex = low 1 None (omega arith) (rw ec)
      at_closed false true x ec eb ex = low 2 None (omega arith) (rw (ec, eb))
      at_closed false false (Some p) ec eb ex = low 4 None (omega arith) (rw (ec, eb, ex))
      at_closed false false None ec eb ex = at_seen (seen_row (row st.rows i)) ex refl (through st.shut 1 ec (through (leb 64 i) 2 eb (through (is_some (slip_bay st.rows)) 4 (ap is_some ex) refl)))

  refused_10 : (q c : Bool) (x : Reply) (P : Type 0) → (q ≡ true) ↔ P → (guard (not q) 10 (guard c 12 (accepted x)) ≡ refused 10 None) ↔ ¬ P
  refused_10 false c x P h = (λ e p. true_false (h.1 p) refl, λ n. refl)
  refused_10 true true x P h = (λ e. let z : ◌≡◌ {A = ℕ} 12 10 = cc in absurd (omega arith), λ n. absurd (n (h.0 refl)))
  refused_10 true false x P h = (λ e. refused_accepted (sym e), λ n. absurd (n (h.0 refl)))

  put_off_iff : (st : State A) (i : ℕ) (a : A) (n : List ℕ) → Inv o ls st → LetThrough (answer o st (asks i a n))
      → (answer o st (asks i a n) ≡ refused 10 None) ↔ ¬ (Succeeds o ls (sessions (noted_call o (tallied st.rows) (asks i a n))))
  put_off_iff st i a n v h =
      let d = let_through st i a n h in
      let s = d.session in
      let k = d.after_it in
      let t = seen st.rows in
      let u = set t i (Some (with_holding s k)) in
      let ks = asked_pile o st s a in
      let e : u ≡ sessions (noted_call o (tallied st.rows) (asks i a n)) = sym (granted_sessions o st.rows i s a k d.at_rest d.grown n) in
      let on : (l : Bound A) → l.watches s.mark ≡ true → held_under o l u ≡ add o (held_under o l t) (Some a) = λ l z. out_hand_on o L l t i s a k d.opened d.grown z in
      let off : (l : Bound A) → l.watches s.mark ≡ false → held_under o l u ≡ held_under o l t = λ l z. out_hand_off o L l t i s k d.opened z in
      let fits = subst (λ bs. short_under o bs t s.mark a ≡ None) v.frame (sym (short_same o L st.pile t s.mark a v.sums) ∙ d.room) in
      let held = held_hand o L ls t u s.mark a (λ l z. leq_eq o L (on l z)) (λ l z. leq_eq o L (off l z)) v.held fits in
      let sums = matches_taken o L s.mark a st.pile t u on off v.sums d.room in
      let same : safe_order o ks u ≡ lowest_walk o ls u = safe_same o L ks u sums ∙ ap (λ bs. lowest_walk o bs u) (bounds_taken o s.mark a st.pile ∙ v.frame) in
      let found = (walk_complete o L).exists ls u in
      let plan = planner_agrees o L ls u held in
      let test : (eqb (length (safe_order o ks u)) (open_bays u) ≡ true) ↔ Succeeds o ls u =
      (λ q. plan.1 (found.1 (sym (ap length same) ∙ eqb-true _ _ q)), λ p. eq-eqb _ _ (ap length same ∙ found.0 (plan.0 p))) in
      subst (λ w. (answer o st (asks i a n) ≡ refused 10 None) ↔ ¬ (Succeeds o ls w)) e
      (subst (λ y. (y ≡ refused 10 None) ↔ ¬ (Succeeds o ls u)) (sym d.decides)
      (refused_10 _ (ltb (length n) 64) _ (Succeeds o ls u) test))

  moment : (k : ℕ) (st : State A) → st.number ≡ k → Inv o ls st → Moment o ls k st (tallied st.rows)
  moment k st ek v =
      let t = seen st.rows in
      let is = safe_order o st.pile t in
      let seen-so : sessions (tallied st.rows) ≡ t = sessions_tallied st.rows in
      let same : is ≡ lowest_walk o ls t = safe_same o L st.pile t v.sums ∙ ap (λ bs. lowest_walk o bs t) v.frame in
      let w = walk_complete o L in
      let names : length (lowest_walk o ls t) ≡ open_bays t = (w.exists ls t).0 v.order in
      let low : LowestFirst o ls t is = subst (LowestFirst o ls t) (sym same) (w.lowest ls t names) in
      let ord : Order o ls t is = subst (Order o ls t) (sym same) (w.order ls t names) in
      let g = play_all st is v ord in
      let calls : slip_first st.number (slip_bay st.rows) (order_calls o st.number t is) ≡ play o k (tallied st.rows) is =
      ap (λ b. slip_first st.number b (order_calls o st.number t is)) (sym (portion_bay st.rows))
      ∙ ap (λ u. slip_first st.number (lowest_place has_portion (tallied st.rows)) (order_calls o st.number u is)) (sym seen-so)
      ∙ ap (λ m. slip_first m (lowest_place has_portion (tallied st.rows)) (order_calls o m (sessions (tallied st.rows)) is)) ek in
      let told : (sheet : List ℕ) → 64 ≤ length sheet → answer o st (orders sheet) ≡ accepted (ordered (length is)) = λ sheet long.
      through st.shut 1 v.opened (through (not (eqb (length is) (open_bays t))) 10 (ap not (eq-eqb _ _ (ap length same ∙ names))) (through (ltb (length sheet) 64) 12 (le-ltb (length sheet) 64 long) refl)) in
      record {
        put_off = λ i a n h. put_off_iff st i a n v h;
        order = is;
        ordered_so = λ sheet long. (told sheet long, ap (sheet_by o st (orders sheet)) (told sheet long));
        lowest_first = subst (λ u. LowestFirst o ls u is) (sym seen-so) low;
        completes = subst (λ u. Order o ls u is) (sym seen-so) ord;
        plays = subst (AcceptedThroughout o st) calls g.0;
        leaves = subst (λ cs. NothingOut o (after o st cs)) calls g.1;
        limits = v.frame;
        sums = subst (Sums o st.pile) (sym seen-so) v.sums;
      }

module _ {A : Type 0} (o : Ops A) (L : Laws o) where
  number_moved : (st : State A) (c : Call A) (r : Answer) → (moved o st c r).number ≡ st.number
  number_moved st c (refused k p) = refl
  number_moved st c (accepted r) = refl

  number_after : (cs : List (Call A)) (st : State A) → (after o st cs).number ≡ st.number
  number_after [] st = refl
  number_after (c ∷ cs) st = number_after cs (step o st c) ∙ number_moved st c (answer o st c)

  pub law_of_days : LawOfDays o
  law_of_days w k ks n h cs =
      let st = new o w k ks in
      let v = inv_new o L w k ks n h in
      subst (Moment o (bounds ks) k (after o st cs)) (sym (kept_tallied o L (bounds ks) cs st (blank o) v refl))
      (moment o L (bounds ks) k (after o st cs) (number_after cs st) (inv_after o L (bounds ks) cs st v))
