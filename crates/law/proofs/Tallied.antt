-- The tally, kept from arguments and answers alone, tells what the rows hold.
use Rattle.std.proofs.Common.{◌≡◌, ℕ, ◌+◌, false, cond, not, eqb, leb, List, [], ◌∷◌, map, set, is_some, Some, None, Option, sym, refl, ap, ◌∙◌}
use lib.ListN.{get_or-map}
use lib.Seq.{map-set}
use Rattle.std.specs.Option.{option_map}
use Rattle.amount.specs.Arithmetic.{Ops, Laws, bind}
use Rattle.pool.specs.Limits.{Bound, lowest_place}
use Rattle.orders.specs.Sessions.{Session, with_holding}
use Rattle.law.specs.Book.{Row, empty, rest, moving, seen_row, seen, row, is_moving, slip_bay, Call, opens, asks, confirms, withdraws, gives, ends, orders, all_in, Reply, Answer, refused, accepted, State, guard, confirm_answer, withdraw_answer, answer, asked, confirmed, withdrawn, gave, effect, moved, step, after}
use Rattle.law.specs.Law.{kept, has_portion}
use Rattle.law.specs.Tally.{Noted, Tally, session_of, sessions, at_bay, holding_now, adds, takes_off, forgets, takes_back, noted_call, note}
use Rattle.law.proofs.Keeps.{Inv, grant_of, inv_step}
use Rattle.law.proofs.Rows.{pass, none_given, nowhere}
use Rattle.orders.proofs.Walked.{true_false}

-- what the tally has of a row
abbrev pub noted : {A : Type 0} → Row A → Option (Noted A)
noted empty = None
noted (rest s) = Some (record { session = s; portion = None })
noted (moving s a) = Some (record { session = s; portion = Some a })

abbrev pub tallied : {A : Type 0} → List (Row A) → Tally A
tallied rs = map noted rs

module _ {A : Type 0} where
  noted_session : (w : Row A) → option_map session_of (noted w) ≡ seen_row w
  noted_session empty = refl
  noted_session (rest s) = refl
  noted_session (moving s a) = refl

  pub sessions_tallied : (rs : List (Row A)) → sessions (tallied rs) ≡ seen rs
  sessions_tallied [] = refl
  sessions_tallied (w ∷ rs) = λ i. noted_session w i ∷ sessions_tallied rs i

  noted_moves : (w : Row A) → has_portion (noted w) ≡ is_moving w
  noted_moves empty = refl
  noted_moves (rest s) = refl
  noted_moves (moving s a) = refl

  -- the bay with a portion is the one that moves
  pub portion_bay : (rs : List (Row A)) → lowest_place has_portion (tallied rs) ≡ slip_bay rs
  portion_bay [] = refl
  portion_bay (w ∷ rs) = λ i. cond (noted_moves w i) (Some 0) (bind (portion_bay rs i) (λ p. Some (p + 1)))

  -- a change of one bay's note is that of its row
  pub at_row : (rs : List (Row A)) (i : ℕ) (f : Noted A → Noted A) (w : Row A) → option_map f (noted (row rs i)) ≡ noted w → at_bay (tallied rs) i f ≡ tallied (set rs i w)
  at_row rs i f w e = ap (λ x. set (tallied rs) i (option_map f x)) (get_or-map noted rs i empty) ∙ ap (set (tallied rs) i) e ∙ sym (map-set noted rs i w)

module _ {A : Type 0} (o : Ops A) where
  less_noted : (s : Session A) (x : Option A) → ◌≡◌ {A = Option (Noted A)} (Some (record { session = holding_now o s x; portion = None })) (noted (elim x [ None ↦ rest s | Some h ↦ rest (with_holding s h) ]))
  less_noted s None = refl
  less_noted s (Some h) = refl

  asked_noted : (w : Row A) (s : Session A) (a h : A) → w ≡ rest s → o.plus s.holding a ≡ Some h → option_map (adds o a) (noted w) ≡ noted (moving (with_holding s h) a)
  asked_noted w s a h e f = ap (λ v. option_map (adds o a) (noted v)) e ∙ ap (λ x. Some (record { session = holding_now o s x; portion = Some a })) f

  asked_row : (w : Row A) (s : Session A) (a h : A) → w ≡ rest s → o.plus s.holding a ≡ Some h → asked o w a ≡ moving (with_holding s h) a
  asked_row w s a h e f = rw (e, asked, f)

  -- the sessions with an ask granted
  pub granted_sessions : (rs : List (Row A)) (i : ℕ) (s : Session A) (a h : A) → row rs i ≡ rest s → o.plus s.holding a ≡ Some h → (n : List ℕ) → sessions (noted_call o (tallied rs) (asks i a n)) ≡ set (seen rs) i (Some (with_holding s h))
  granted_sessions rs i s a h e f n =
      ap sessions (at_row rs i (adds o a) (moving (with_holding s h) a) (asked_noted (row rs i) s a h e f))
      ∙ sessions_tallied (set rs i (moving (with_holding s h) a)) ∙ map-set seen_row rs i (moving (with_holding s h) a)

module _ {A : Type 0} (o : Ops A) (L : Laws o) (ls : List (Bound A)) where
  module _ (st : State A) (v : Inv o ls st) where
    asks_noted : (i : ℕ) (a : A) (n : List ℕ) (r : Reply) → answer o st (asks i a n) ≡ accepted r → noted_call o (tallied st.rows) (asks i a n) ≡ tallied (effect o st.rows (asks i a n))
    asks_noted i a n r e =
        let g = grant_of o L ls st v i a n r e in
        at_row st.rows i (adds o a) (asked o (row st.rows i) a)
        (asked_noted o (row st.rows i) g.session a g.after_it g.at_rest g.grown ∙ ap noted (sym (asked_row o (row st.rows i) g.session a g.after_it g.at_rest g.grown)))

    confirms_noted : (w : Row A) (r : Reply) → confirm_answer o w ≡ accepted r → option_map (forgets o) (noted w) ≡ noted (confirmed o w)
    confirms_noted empty r h = refl
    confirms_noted (rest s) r h = refl
    confirms_noted (moving s a) r h = refl

    withdraws_noted : (w : Row A) (r : Reply) → withdraw_answer o st w ≡ accepted r → option_map (takes_back o) (noted w) ≡ noted (withdrawn o w)
    withdraws_noted empty r h = refl
    withdraws_noted (rest s) r h = refl
    withdraws_noted (moving s a) r h = less_noted o s (o.minus s.holding a)

    gives_noted : (w : Row A) (a : A) → is_moving w ≡ false → option_map (takes_off o a) (noted w) ≡ noted (gave o w a)
    gives_noted empty a h = refl
    gives_noted (rest s) a h = less_noted o s (o.minus s.holding a)
    gives_noted (moving s b) a h = true_false refl h

    free : (i : ℕ) (a : A) (r : Reply) → answer o st (gives i a) ≡ accepted r → is_moving (row st.rows i) ≡ false
    free i a r e =
        let p1 = pass st.shut 1 _ r e in
        let p2 = pass (leb 64 i) 2 _ r p1.1 in
        let p3 = pass (is_some (slip_bay st.rows)) 4 _ r p2.1 in
        nowhere is_moving empty refl st.rows (none_given (slip_bay st.rows) p3.0) i

    at_slip : (p : ℕ) (x : Answer) (r : Reply) → guard st.shut 1 (guard (not (eqb p st.number)) 13 x) ≡ accepted r → x ≡ accepted r
    at_slip p x r e = (pass (not (eqb p st.number)) 13 x r (pass st.shut 1 _ r e).1).1

    noted_so : (c : Call A) (x : Answer) → answer o st c ≡ x → note o (tallied st.rows) c x ≡ tallied (moved o st c x).rows
    noted_so c (refused k p) e = refl
    noted_so (opens i m c) (accepted r) e = sym (map-set noted st.rows i _)
    noted_so (asks i a n) (accepted r) e = asks_noted i a n r e
    noted_so (confirms p) (accepted r) e = at_row st.rows p.at (forgets o) (confirmed o (row st.rows p.at)) (confirms_noted (row st.rows p.at) r (at_slip p.number _ r e))
    noted_so (withdraws p) (accepted r) e = at_row st.rows p.at (takes_back o) (withdrawn o (row st.rows p.at)) (withdraws_noted (row st.rows p.at) r (at_slip p.number _ r e))
    noted_so (gives i a) (accepted r) e = at_row st.rows i (takes_off o a) (gave o (row st.rows i) a) (gives_noted (row st.rows i) a (free i a r e))
    noted_so (ends i) (accepted r) e = sym (map-set noted st.rows i empty)
    noted_so (orders n) (accepted r) e = refl
    noted_so all_in (accepted r) e = refl

  pub kept_tallied : (cs : List (Call A)) (st : State A) (t : Tally A) → Inv o ls st → t ≡ tallied st.rows → kept o st t cs ≡ tallied (after o st cs).rows
  kept_tallied [] st t v e = e
  kept_tallied (c ∷ cs) st t v e =
      kept_tallied cs (step o st c) (note o t c (answer o st c)) (inv_step o L ls st v c)
      (ap (λ u. note o u c (answer o st c)) e ∙ noted_so st v c (answer o st c) refl)
