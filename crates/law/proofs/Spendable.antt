-- The slip of a granted ask is taken: by confirm, and by withdraw, after which the book is as it was.
use Rattle.std.proofs.Common.{◌≡◌, ℕ, ◌<◌, Bool, true, false, cond, not, eqb, ltb, leb, List, [], ◌∷◌, length, set, is_some, Some, None, Option, sym, refl, ap, ◌∙◌, arith, get_or-set_same, set-set}
use lib.ListN.{length-map}
use lib.Seq.{set-get_or}
use Rattle.std.proofs.lemmas.Bool.{eq-eqb}
use Rattle.amount.specs.Arithmetic.{Ops, Laws}
use Rattle.pool.specs.Limits.{Limit, given_back, lacks, short_place, shrunk, taken, torn_place, with_out, within}
use Rattle.orders.proofs.Planned.{place_none}
use Rattle.orders.proofs.Walked.{true_false}
use Rattle.orders.specs.Sessions.{Session, bay, open_bays, with_holding}
use Rattle.law.proofs.Rows.{bay_row, none_given, nowhere, open_bound, pass, pass_at, refused_accepted, row_rest}
use Rattle.law.specs.Book.{Answer, Row, Slip, State, accepted, answer, ask_answer, asked, asked_bays, asked_pile, asks, confirm_answer, confirms, done, empty, grant_answer, granted, guard, is_moving, less_held, moved, moving, rest, row, seen, seen_row, slip_bay, step, withdraw_answer, withdrawn, withdraws}
use Rattle.law.specs.SafeOrder.{safe_order}

module _ {A : Type 0} (o : Ops A) (st : State A) (i : ℕ) (a : A) (sheet : List ℕ) where
  -- what a granted ask met, and the slip that it answers
  pub record Granted (p : Slip) : Type 0 where
    pub stands : st.shut ≡ false
    pub slip : p ≡ record { number = st.number; at = i }
    pub session : Session A
    pub at_rest : row st.rows i ≡ rest session
    pub held : A
    pub grown : o.plus session.holding a ≡ Some held
    pub room : short_place o st.pile session.mark a ≡ None

  pub granted_by : (n : ℕ) (p : Slip) → answer o st (asks i a sheet) ≡ accepted (granted n p) → Granted p
  granted_by n p e =
      let p1 = pass st.shut 1 _ (granted n p) e in
      let p2 = pass (leb 64 i) 2 _ (granted n p) p1.1 in
      let p3 = pass (is_some (slip_bay st.rows)) 4 _ (granted n p) p2.1 in
      at_seen p1.0 (none_given (slip_bay st.rows) p3.0) (seen_row (row st.rows i)) refl p3.1
    where
      at_sum : st.shut ≡ false → slip_bay st.rows ≡ None → (s : Session A) (x : Option A) → seen_row (row st.rows i) ≡ Some s → o.plus s.holding a ≡ x → grant_answer o st i a sheet s x ≡ accepted (granted n p) → Granted p
      at_sum stands free s None q f h = refused_accepted h
      at_sum stands free s (Some k) q f h =
          let t = asked_bays o st i s k in
          let p1 = pass (not (within o (Some k) s.claim)) 8 _ (granted n p) h in
          let p2 = pass_at (short_place o st.pile s.mark a) 9 _ (granted n p) p1.1 in
          let p3 = pass (not (eqb (length (safe_order o (asked_pile o st s a) t)) (open_bays t))) 10 _ (granted n p) p2.1 in
          let p4 = pass (ltb (length sheet) 64) 12 _ (granted n p) p3.1 in
          let same : accepted (granted (length (safe_order o (asked_pile o st s a) t)) (record { number = st.number; at = i })) ≡ accepted (granted n p) = p4.1 in
          record {
            stands = stands;
            slip = cc;
            session = s;
            at_rest = row_rest (row st.rows i) s q (nowhere is_moving empty refl st.rows free i);
            held = k;
            grown = f;
            room = p2.0;
          }

      at_seen : st.shut ≡ false → slip_bay st.rows ≡ None → (x : Option (Session A)) → seen_row (row st.rows i) ≡ x → ask_answer o st i a sheet x ≡ accepted (granted n p) → Granted p
      at_seen stands free None q h = refused_accepted h
      at_seen stands free (Some s) q h = at_sum stands free s (o.plus s.holding a) q refl h

  module _ (p : Slip) (g : Granted p) where
    -- the row of the bay that asked
    abbrev asking : Row A
    asking = moving (with_holding g.session g.held) a

    -- the book with the ask granted
    abbrev lent : State A
    lent = record { shut = st.shut; number = st.number; pile = asked_pile o st g.session a; rows = set st.rows i asking }

    pub grants : (n : ℕ) → answer o st (asks i a sheet) ≡ accepted (granted n p) → step o st (asks i a sheet) ≡ lent
    grants n e =
        let m : moved o st (asks i a sheet) (accepted (granted n p)) ≡ lent = rw (g.at_rest, asked, g.grown) in
        ap (moved o st (asks i a sheet)) e ∙ m

    moves_now : row lent.rows i ≡ asking
    moves_now =
        let b : bay (seen st.rows) i ≡ Some g.session = bay_row st.rows i ∙ ap seen_row g.at_rest in
        let n = open_bound (seen st.rows) i g.session b in
        let inside : i < length st.rows = omega (arith, length-map st.rows (seen_row {A = A}), n) in
        get_or-set_same st.rows i asking empty inside

    -- the slip passes the tests of its book and its bay
    taken_as : (f : Row A → Answer) → guard st.shut 1 (guard (not (eqb p.number st.number)) 13 (f (row lent.rows p.at))) ≡ f asking
    taken_as f = rw (g.stands, g.slip, eq-eqb st.number st.number refl, moves_now)

    confirmed_now : answer o lent (confirms p) ≡ accepted done
    confirmed_now = taken_as (confirm_answer o)

-- a slip just granted is confirmed
pub confirm_granted : {A : Type 0} (o : Ops A) (st : State A) (i : ℕ) (a : A) (sheet : List ℕ) (n : ℕ) (p : Slip) → answer o st (asks i a sheet) ≡ accepted (granted n p)
    → answer o (step o st (asks i a sheet)) (confirms p) ≡ accepted done
confirm_granted o st i a sheet n p e =
    let g = granted_by o st i a sheet n p e in
    ap (λ s. answer o s (confirms p)) (grants o st i a sheet p g n e) ∙ confirmed_now o st i a sheet p g

module _ {A : Type 0} (o : Ops A) (L : Laws o) where
  -- a limit that took the amount can get it back, and is then as it was
  undone : (m : ℕ) (a : A) (k : Limit A) (w : Bool) (x : Option A) → k.bound.watches m ≡ w → o.plus k.out a ≡ x → (w ≡ true → within o x k.bound.ceiling ≡ true)
      → (lacks o m a (cond w (with_out o k x) k) ≡ false) × (shrunk o m a (cond w (with_out o k x) k) ≡ k)
  undone m a k false x ew e h = (rw ew, rw ew)
  undone m a k true None ew e h = true_false (h refl) refl
  undone m a k true (Some s) ew e h =
      let d : o.minus s a ≡ Some k.out = (L.difference a s k.out).1 (L.commutes a k.out ∙ e) in
      (rw (ew, d), rw (ew, d))

  -- what a pile took it can get back, and is then as it was
  pub took_back : (m : ℕ) (a : A) (ks : List (Limit A)) → short_place o ks m a ≡ None → (torn_place o (taken o m a ks) m a ≡ None) × (given_back o m a (taken o m a ks) ≡ ks)
  took_back m a [] e = (refl, refl)
  took_back m a (k ∷ ks) e =
      let p = place_none (k.bound.watches m) (within o (o.plus k.out a) k.bound.ceiling) (short_place o ks m a) e in
      let u = undone m a k (k.bound.watches m) (o.plus k.out a) refl refl p.0 in
      let v = took_back m a ks p.1 in
      (rw (u.0, v.0), rw (u.1, v.1))

  module _ (st : State A) (i : ℕ) (a : A) (sheet : List ℕ) (p : Slip) where
    withdrawn_now : (g : Granted o st i a sheet p) → answer o (lent o st i a sheet p g) (withdraws p) ≡ accepted done
    withdrawn_now g = taken_as o st i a sheet p g (withdraw_answer o (lent o st i a sheet p g)) ∙ rw (took_back g.session.mark a st.pile g.room).0

    as_it_was : (g : Granted o st i a sheet p) → moved o (lent o st i a sheet p g) (withdraws p) (accepted done) ≡ st
    as_it_was g =
        let s = g.session in
        let less : o.minus g.held a ≡ Some s.holding = (L.difference a g.held s.holding).1 (L.commutes a s.holding ∙ g.grown) in
        let back : withdrawn o (asking o st i a sheet p g) ≡ rest s = rw (less_held, less) in
        let rows : set (set st.rows i (asking o st i a sheet p g)) i (rest s) ≡ st.rows = set-set st.rows i _ _ ∙ ap (set st.rows i) (sym g.at_rest) ∙ set-get_or st.rows i empty in
        rw (g.slip, moves_now o st i a sheet p g, back, rows, (took_back s.mark a st.pile g.room).1)

    module _ (n : ℕ) (e : answer o st (asks i a sheet) ≡ accepted (granted n p)) where
      -- a slip just granted is withdrawn
      pub withdraw_granted : answer o (step o st (asks i a sheet)) (withdraws p) ≡ accepted done
      withdraw_granted =
          let g = granted_by o st i a sheet n p e in
          ap (λ s. answer o s (withdraws p)) (grants o st i a sheet p g n e) ∙ withdrawn_now g

      -- and the book is then as it was before the ask
      pub withdraw_undoes : step o (step o st (asks i a sheet)) (withdraws p) ≡ st
      withdraw_undoes =
          let g = granted_by o st i a sheet n p e in
          let now = lent o st i a sheet p g in
          ap (λ t. step o t (withdraws p)) (grants o st i a sheet p g n e) ∙ ap (moved o now (withdraws p)) (withdrawn_now g) ∙ as_it_was g
