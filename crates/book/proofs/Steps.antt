-- What the calls come to, once their tests are known.
use Rattle.std.proofs.Common.{◌≡◌, ℕ, ◌≤◌, false, not, eqb, leb, List, set, is_some, Some, None, Ok, Err, Option, Result, unwrap_or, sym, refl, ap, ◌∙◌, ap₂, subst, arith}
use lib.Seq.{map-set}
use Rattle.std.proofs.lemmas.Bool.{lt-leb, leb-true}
use Rattle.amount.specs.Arithmetic.{Ops}
use Rattle.pool.specs.Changes.{Changed, fault_at}
use Rattle.pool.specs.Limits.{Limit, told_place, torn_place, giving, given_back, unless}
use Rattle.pool.specs.declared.limit_fault.LimitFault.{LimitFault}
use Rattle.orders.proofs.Bays.{some_none}
use Rattle.orders.specs.Sessions.{with_holding}
use Rattle.orders.specs.Sessions.{Session}
use Rattle.law.specs.Book.{Answer, refused, accepted, done, guard, guard_at, State, Call, Reply, is_moving, slip_bay, row, seen_row, opens, open_answer, give_answer, answer, moved, less_held}
use Rattle.law.specs.Book as machine
use Rattle.rows.specs.Cells.{amount_in}
use Rattle.rows.specs.Effects.{turned}
use Rattle.rows.specs.Kinds.{Kind}
use Rattle.rows.specs.Legend.{refusal}
use Rattle.rows.specs.Rows.{by_state, row_of, session_in}
use Rattle.rows.specs.declared.cell.Cell.{Cell}
use Rattle.rows.specs.declared.effect.RowCall.{RowCall}
use Rattle.rows.specs.declared.refusal.Refusal.{Refusal}
use Rattle.rows.specs.declared.refusal.Refusal.TheVariants as refusals
use Rattle.rows.specs.declared.row.Row.{Row}
use Rattle.rows.specs.declared.row.RowState.{RowState}
use Rattle.rows.specs.declared.row.RowState.TheVariants.{Empty, AtRest, Moving}
use Rattle.book.specs.Books.{state_with, state_of}
use Rattle.book.specs.Served.{Served}
use Rattle.book.specs.declared.book.Book.{Book}
use Rattle.book.specs.Tables.{no_row, row_in, known, sitting, spending}
use Rattle.book.specs.declared.table.Table.{Table}
use Rattle.book.specs.declared.slip.Slip.{Slip}
use Rattle.book.proofs.Read.{known_ok, unspent_by, spends_by, ok_err, same_err, row_is, calm, refused_by, ok_by}

-- the pile allowed the change, or refused it
pub change_made : {A : Type 0} (o : Ops A) (x : Option ℕ) (new ls exit : List (Limit A)) → Changed (unless o x new) ls exit (Ok tt) → (x ≡ None) × (exit ≡ new)
change_made o None new ls exit h = (refl, h.1)
change_made o (Some p) new ls exit h = ok_err h.0

pub change_refused : {A : Type 0} (o : Ops A) (x : Option ℕ) (new ls exit : List (Limit A)) (e : LimitFault) → Changed (unless o x new) ls exit (Err e)
    → (p : ℕ) × (x ≡ Some p) × (e ≡ fault_at p) × (exit ≡ ls)
change_refused o None new ls exit e h = ok_err (sym h.0)
change_refused o (Some p) new ls exit e h = (p, refl, same_err h.0, h.1)

pub less_is : {A : Type 0} (o : Ops A) (s : Session A) (a h : A) → o.minus s.holding a ≡ Some h → less_held o s a ≡ machine.rest (with_holding s h)
less_is o s a h e = rw (less_held, e)

-- a give of more than is held, and of a part of it
pub give_more : {A : Type 0} (o : Ops A) (st : State A) (s : Session A) (a : A) → o.minus s.holding a ≡ None → give_answer o st a (Some s) ≡ refused 11 None
give_more o st s a e = ap (λ m. guard (not (is_some m)) 11 (guard (is_some (torn_place o st.pile s.mark a)) 14 (accepted done))) e

pub give_part : {A : Type 0} (o : Ops A) (st : State A) (s : Session A) (a h : A) → o.minus s.holding a ≡ Some h → give_answer o st a (Some s) ≡ guard (is_some (torn_place o st.pile s.mark a)) 14 (accepted done)
give_part o st s a h e = ap (λ m. guard (not (is_some m)) 11 (guard (is_some (torn_place o st.pile s.mark a)) 14 (accepted done))) e

-- the portion off the holding, where it is part of it
less_by : {A : Type 0} (x : Option A) (s : Session A) → machine.rest (with_holding s (unwrap_or x s.holding)) ≡ elim x [ None ↦ machine.rest s | Some h ↦ machine.rest (with_holding s h) ]
less_by None s = refl
less_by (Some h) s = refl

pub less_or : {A : Type 0} (o : Ops A) (s : Session A) (a : A) → machine.rest (with_holding s (unwrap_or (o.minus s.holding a) s.holding)) ≡ less_held o s a
less_or o s a = less_by (o.minus s.holding a) s

-- 7 with its place, or none
pub tall_told : (x : Option ℕ) (p : ℕ) → Some p ≡ told_place x → guard_at x 7 (accepted done) ≡ refused 7 (Some p)
tall_told None p h = some_none refl h
tall_told (Some q) p h = ap (refused 7) (sym h)

pub tall_none : (x y : Option ℕ) → y ≡ told_place x → y ≡ None → x ≡ None
tall_none None y e h = refl
tall_none (Some q) y e h = some_none e h

-- the table with another row
abbrev pub with_row : Table → ℕ → Row → Table
with_row t i r = record { number = t.number; shut = t.shut; rows = set t.rows i r }

module _ {A : Type 0} (kind : Kind A) (t : Table) (ls : List (Limit A)) where
  abbrev pub state : State A
  state = state_with kind t ls

  abbrev f : Row → machine.Row A
  f = row_of kind

  -- where no slip is out, the bay does not move
  pub calm_at : (i : ℕ) → is_some (slip_bay state.rows) ≡ false → is_moving (f (row_in t i)) ≡ false
  calm_at i z = ap is_moving (sym (row_is kind t.rows i)) ∙ calm state.rows i z

  -- a row and a pile are changed
  pub changed : (i : ℕ) (new : Row) (pile exit : List (Limit A)) (to : machine.Row A) → pile ≡ exit → f new ≡ to
      → state_with kind (with_row t i new) pile ≡ record { shut = state.shut; number = state.number; pile = exit; rows = set state.rows i to }
  changed i new pile exit to p e =
      let F : List (Limit A) → List (machine.Row A) → State A = λ ls rows. record { shut = state.shut; number = t.number; pile = ls; rows = rows } in
      ap₂ F p (map-set f t.rows i new ∙ ap (set state.rows i) e)

  -- a row by its tag
  pub by_tag : (r : Row) (n : RowState) → r.state ≡ n → f r ≡ by_state n (session_in kind r) (amount_in kind r.portion)
  by_tag r n e = ap (λ t. by_state t (session_in kind r) (amount_in kind r.portion)) e

  -- a row with another holding keeps its session's mark and claim
  pub holds_now : (i : ℕ) (new : Row) (h : A) (s : Session A) → new.mark ≡ (row_in t i).mark → new.claim ≡ (row_in t i).claim → amount_in kind new.holding ≡ h → session_in kind (row_in t i) ≡ s
      → session_in kind new ≡ with_holding s h
  holds_now i new h s p q e same =
      let F : ℕ → Cell → A → Session A = λ m c x. record { mark = m; claim = amount_in kind c; holding = x } in
      ap (λ m. F m new.claim (amount_in kind new.holding)) p ∙ ap (λ c. F (row_in t i).mark c (amount_in kind new.holding)) q ∙ ap (F (row_in t i).mark (row_in t i).claim) e ∙ ap (λ t. with_holding t h) same

  -- such a row at rest
  pub rests_now : (i : ℕ) (new : Row) (h : A) (s : Session A) → new.state ≡ AtRest → new.mark ≡ (row_in t i).mark → new.claim ≡ (row_in t i).claim → amount_in kind new.holding ≡ h → session_in kind (row_in t i) ≡ s
      → f new ≡ machine.rest (with_holding s h)
  rests_now i new h s n p q e same = by_tag new AtRest n ∙ ap machine.rest (holds_now i new h s p q e same)

  -- and moving
  pub moves_now : (i : ℕ) (new : Row) (h a : A) (s : Session A) → new.state ≡ Moving → new.mark ≡ (row_in t i).mark → new.claim ≡ (row_in t i).claim → amount_in kind new.holding ≡ h → amount_in kind new.portion ≡ a
      → session_in kind (row_in t i) ≡ s → f new ≡ machine.moving (with_holding s h) a
  moves_now i new h a s n p q e k same = by_tag new Moving n ∙ ap₂ machine.moving (holds_now i new h s p q e same) k

  module _ (call : RowCall) (n : RowState) (p : turned Empty call ≡ Err refusals.Empty) (q : turned AtRest call ≡ Ok n) (i : ℕ) where
    abbrev at : Row
    at = row_in t i

    abbrev held : Session A
    held = session_in kind at

    abbrev moved_now : A
    moved_now = amount_in kind at.portion

    calm_here : is_some (slip_bay state.rows) ≡ false → is_moving (f at) ≡ false
    calm_here = calm_at i

    pub sitting_refused : (e : Refusal) (k : Option (Session A) → Answer) → k None ≡ refused 6 None → Err e ≡ sitting kind t i call
        → refusal e ≡ guard state.shut 1 (guard (leb 64 i) 2 (guard (is_some (slip_bay state.rows)) 4 (k (seen_row (row state.rows i)))))
    sitting_refused e k k6 h =
        refused_by call n p q at.state held moved_now state.shut (leb 64 i) (is_some (slip_bay state.rows)) calm_here e k k6 h
        ∙ ap (λ x. guard state.shut 1 (guard (leb 64 i) 2 (guard (is_some (slip_bay state.rows)) 4 (k (seen_row x))))) (sym (row_is kind t.rows i))

    -- the session sits at the bay, and nothing moves
    pub record Sat (next : RowState) (s : Session A) : Type 0 where
      pub opened : state.shut ≡ false
      pub at_rest : row state.rows i ≡ machine.rest s
      pub turns : next ≡ n
      pub same : session_in kind at ≡ s
      pub through : (k : Option (Session A) → Answer) → guard state.shut 1 (guard (leb 64 i) 2 (guard (is_some (slip_bay state.rows)) 4 (k (seen_row (row state.rows i))))) ≡ k (Some s)

    pub sitting_ok : (next : RowState) (s : Session A) → Ok (next, s) ≡ sitting kind t i call → Sat next s
    sitting_ok next s h =
        let x = ok_by call n p q at.state held moved_now state.shut (leb 64 i) (is_some (slip_bay state.rows)) calm_here next s h in
        let rests : row state.rows i ≡ machine.rest s = row_is kind t.rows i ∙ x.at_rest in
        record {
          opened = x.opened;
          at_rest = rests;
          turns = x.turns;
          same = x.same;
          through = λ k. rw (x.opened, x.low, x.free, rests);
        }

    -- the same, of a session whose parts were read
    pub sits : (next : RowState) (m : ℕ) (claim holding : A) (s : Session A) → record { mark = m; claim = claim; holding = holding } ≡ s → Ok (next, s) ≡ sitting kind t i call
        → Sat next (record { mark = m; claim = claim; holding = holding })
    sits next m claim holding s e h = sitting_ok next (record { mark = m; claim = claim; holding = holding }) (ap (λ z. Ok (next, z)) e ∙ h)

  -- open: 1 to 4 are passed
  pub open_through : (i m : ℕ) (c : A) → Ok tt ≡ known state.shut i → m ≤ 15 → is_some (slip_bay state.rows) ≡ false → answer kind.ops state (opens i m c) ≡ open_answer kind.ops state m c (f (row_in t i))
  open_through i m c e low free =
      let k = known_ok state.shut i e in
      let n : leb 16 m ≡ false = lt-leb 16 m (omega arith) in
      rw (k.0, k.1, n, free) (ap (open_answer kind.ops state m c) (row_is kind t.rows i))

  -- confirm and withdraw
  module _ (call : RowCall) (p : turned Empty call ≡ Err refusals.WrongSlip) (q : turned AtRest call ≡ Err refusals.WrongSlip) (n : turned Moving call ≡ Ok AtRest) (slip : Slip)
      (past : 64 ≤ slip.bay → row_in t slip.bay ≡ no_row) where
    abbrev marked : Row
    marked = row_in t slip.bay

    abbrev owner : Session A
    owner = session_in kind marked

    abbrev portion : A
    portion = amount_in kind marked.portion

    pub spending_refused : (e : Refusal) (k : machine.Row A → Answer) → k machine.empty ≡ refused 13 None → ((s : Session A) → k (machine.rest s) ≡ refused 13 None) → Err e ≡ spending kind.W t slip call
        → refusal e ≡ guard state.shut 1 (guard (not (eqb slip.book state.number)) 13 (k (row state.rows slip.bay)))
    spending_refused e k k1 k2 h =
        unspent_by call p q n marked.state owner portion state.shut (not (eqb slip.book t.number)) (leb 64 slip.bay) (λ z. ap (λ r. r.state) (past (leb-true 64 slip.bay z))) e k k1 k2 h
        ∙ ap (λ x. guard state.shut 1 (guard (not (eqb slip.book state.number)) 13 (k x))) (sym (row_is kind t.rows slip.bay))

    -- the slip's bay moves
    pub record Spent (next : RowState) : Type 0 where
      pub opened : state.shut ≡ false
      pub low : leb 64 slip.bay ≡ false
      pub moves_now : row state.rows slip.bay ≡ machine.moving owner portion
      pub turns : next ≡ AtRest
      pub through : (k : machine.Row A → Answer) → guard state.shut 1 (guard (not (eqb slip.book state.number)) 13 (k (row state.rows slip.bay))) ≡ k (machine.moving owner portion)

    pub spending_ok : (next : RowState) → Ok next ≡ spending kind.W t slip call → Spent next
    spending_ok next h =
        let x = spends_by call p q n marked.state owner portion state.shut (not (eqb slip.book t.number)) (leb 64 slip.bay) next h in
        let moves = row_is kind t.rows slip.bay ∙ by_tag marked Moving x.moves_now in
        record { opened = x.opened; low = x.low; moves_now = moves; turns = x.turns; through = λ k. rw (x.opened, x.own, moves) }

-- a book, and a call of it
module _ {A P : Type 0} (kind : Kind A) (limits : P → List (Limit A)) (old : Book A P) (call : Call A) where
  abbrev before : State A
  before = state_of kind limits old

  pub refuses : (new : Book A P) (e : Refusal) → state_of kind limits new ≡ before → refusal e ≡ answer kind.ops before call → Served kind limits old call (refusal e) new
  refuses new e same h = record { answer = h; after = same ∙ ap (moved kind.ops before call) h }

  pub makes : (new : Book A P) (r : Reply) → accepted r ≡ answer kind.ops before call → state_of kind limits new ≡ moved kind.ops before call (accepted r) → Served kind limits old call (accepted r) new
  makes new r h m = record { answer = h; after = m ∙ ap (moved kind.ops before call) h }

  -- the pile has given back an amount, or refused to
  module _ (m : ℕ) (a : A) (exit : P) (given : Result (Unit {0}) LimitFault) (comes : answer kind.ops before call ≡ guard (is_some (torn_place kind.ops before.pile m a)) 14 (accepted done)) (h : Changed (giving kind.ops before.pile m a) before.pile (limits exit) given) where
    pub torn : (e : LimitFault) → given ≡ Err e → Served kind limits old call (refusal (refusals.Torn e)) (record { table = old.table; pile = exit; trial = old.trial })
    torn e g =
        let y = change_refused kind.ops (torn_place kind.ops before.pile m a) (given_back kind.ops m a before.pile) before.pile (limits exit) e (subst (Changed (giving kind.ops before.pile m a) before.pile (limits exit)) g h) in
        refuses (record { table = old.table; pile = exit; trial = old.trial }) (refusals.Torn e) (ap (state_with kind old.table) y.3) (ap (λ x. refusal (refusals.Torn x)) y.2 ∙ sym (comes ∙ ap (λ p. guard (is_some p) 14 (accepted done)) y.1))

    pub torn_told : (e : LimitFault) → given ≡ Err e → told_place (torn_place kind.ops before.pile m a) ≡ Some e.place
    torn_told e g =
        let y = change_refused kind.ops (torn_place kind.ops before.pile m a) (given_back kind.ops m a before.pile) before.pile (limits exit) e (subst (Changed (giving kind.ops before.pile m a) before.pile (limits exit)) g h) in
        ap told_place y.1 ∙ ap (λ (z : LimitFault). Some z.place) (sym y.2)

    pub gave_back : given ≡ Ok tt → (i : ℕ) (new : Row) (to : machine.Row A) → row_of kind new ≡ to
        → record { shut = before.shut; number = before.number; pile = given_back kind.ops m a before.pile; rows = set before.rows i to } ≡ moved kind.ops before call (accepted done)
        → Served kind limits old call (accepted done) (record { table = with_row old.table i new; pile = exit; trial = old.trial })
    gave_back g i new to e k =
        let y = change_made kind.ops (torn_place kind.ops before.pile m a) (given_back kind.ops m a before.pile) before.pile (limits exit) (subst (Changed (giving kind.ops before.pile m a) before.pile (limits exit)) g h) in
        makes (record { table = with_row old.table i new; pile = exit; trial = old.trial }) done (sym (comes ∙ ap (λ p. guard (is_some p) 14 (accepted done)) y.0)) (changed kind old.table before.pile i new (limits exit) (given_back kind.ops m a before.pile) to y.1 e ∙ k)
