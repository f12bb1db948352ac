-- Steps of the search: one bay more is named, or none is left that may finish.
use Rattle.std.proofs.Common.{◌≡◌, ℕ, zero, suc, ◌-◌, ◌<◌, List, [], ◌∷◌, ◌++◌, length, get_or, set, Some, None, Option, sym, refl, ap, ◌∙◌, inl, inr, append_assoc, append-nil, arith, length-append, length-set}
use Rattle.std.proofs.lemmas.List.{get_or_default}
use Rattle.amount.specs.Arithmetic.{Ops}
use Rattle.pool.specs.Limits.{Limit, lowest_place}
use Rattle.orders.proofs.Bays.{some_none}
use Rattle.orders.proofs.Walked.{first_some, true_false}
use Rattle.orders.specs.Sessions.{Session, Bays, bay, emptied, open_bays}
use Rattle.law.specs.SafeOrder.{may_finish, finished, safe_from, safe_order}
use Rattle.search.specs.Emptied.{without}

module _ {A : Type 0} (o : Ops A) where
  -- a step of the search, by the bay that is next
  abbrev from_next : (m : ℕ) (ls : List (Limit A)) (t : Bays A) → Option ℕ → List ℕ
  from_next m ls t p = elim p [ None ↦ [] | Some i ↦ i ∷ safe_from o m (finished o ls (bay t i)) (emptied t i) ]

  from_none : (m : ℕ) (ls : List (Limit A)) (t : Bays A) → None ≡ lowest_place (may_finish o ls) t → safe_from o m ls t ≡ []
  from_none zero ls t e = refl
  from_none (suc m) ls t e = ap (from_next m ls t) (sym e)

  from_some : (m i : ℕ) (ls : List (Limit A)) (t : Bays A) → Some i ≡ lowest_place (may_finish o ls) t → safe_from o (suc m) ls t ≡ i ∷ safe_from o m (finished o ls (bay t i)) (emptied t i)
  from_some m i ls t e = ap (from_next m ls t) (sym e)

  -- the bay that is next is open
  pub next_open : (ls : List (Limit A)) (t : Bays A) (i : ℕ) → lowest_place (may_finish o ls) t ≡ Some i → open_bays t ≡ suc (open_bays (emptied t i))
  next_open ls [] i h = some_none h refl
  next_open ls (None ∷ t) i h = elim (first_some (may_finish o ls None) (lowest_place (may_finish o ls) t) i h) [
    | inl w ↦ true_false w.0 refl
    | inr w ↦ next_open ls t w.1.0 w.1.1 ∙ ap (λ j. suc (open_bays (emptied (None ∷ t) j))) (sym w.1.2)
  ]
  next_open ls (Some s ∷ t) i h = elim (first_some (may_finish o ls (Some s)) (lowest_place (may_finish o ls) t) i h) [
    | inl w ↦ ap (λ j. suc (open_bays (emptied (Some s ∷ t) j))) (sym w.1)
    | inr w ↦ ap suc (next_open ls t w.1.0 w.1.1) ∙ ap (λ j. suc (open_bays (emptied (Some s ∷ t) j))) (sym w.1.2)
  ]

  -- before the first step
  pub none_named : (order : List ℕ) (ls : List (Limit A)) (t : Bays A) → order ≡ [] → safe_order o ls t ≡ order ++ safe_from o (length t - length order) ls t
  none_named order ls t e = let m : length t ≡ length t - 0 = omega arith in ap (λ n. safe_from o n ls t) m ∙ ap (λ is. is ++ safe_from o (length t - length is) ls t) (sym e)

  -- bay i is named, what it holds is given back, and it is emptied
  pub one_named : (all : List ℕ) (i : ℕ) (order new : List ℕ) (ls exit : List (Limit A)) (t : Bays A) (b : Option (Session A)) → length order < length t → i < length t → Some i ≡ lowest_place (may_finish o ls) t → exit ≡ finished o ls (get_or t i b) → new ≡ order ++ i ∷ [] → all ≡ order ++ safe_from o (length t - length order) ls t → all ≡ new ++ safe_from o (length (set t i None) - length new) exit (set t i None)
  one_named all i order new ls exit t b room inside next left pushed inv =
      let m = length (set t i None) - length new in
      let rest = safe_from o m exit (emptied t i) in
      let one : length t - length order ≡ suc m = omega (arith, length-set t i None, ap length pushed, length-append order (i ∷ []), room) in
      let back : finished o ls (bay t i) ≡ exit = ap (finished o ls) (get_or_default t i None b inside) ∙ sym left in
      let more : safe_from o (length t - length order) ls t ≡ i ∷ rest = ap (λ n. safe_from o n ls t) one ∙ from_some m i ls t next ∙ ap (λ (k : List (Limit A)). i ∷ safe_from o m k (emptied t i)) back in
      inv ∙ ap (λ l. order ++ l) more ∙ sym (append_assoc order (i ∷ []) rest) ∙ ap (λ l. l ++ rest) (sym pushed)

  -- none may finish: what is named is all
  pub all_named : (all order : List ℕ) (m : ℕ) (ls : List (Limit A)) (t : Bays A) → None ≡ lowest_place (may_finish o ls) t → all ≡ order ++ safe_from o m ls t → order ≡ all
  all_named all order m ls t e inv = sym (inv ∙ ap (λ l. order ++ l) (from_none m ls t e) ∙ append-nil order)

-- one bay more is emptied
pub without_more : {A : Type 0} (is : List ℕ) (i : ℕ) (t : Bays A) → without (is ++ (i ∷ [])) t ≡ emptied (without is t) i
without_more [] i t = refl
without_more (j ∷ is) i t = without_more is i (emptied t j)
