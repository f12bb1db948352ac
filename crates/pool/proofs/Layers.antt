-- One limit more above a pile: what is then asked of it and done to it.
use Rattle.std.specs.Prelude.{◌≡◌, ℕ, Bool, true, false, cond, not, ◌&&◌, List, [], ◌∷◌, ◌++◌, map, length, is_some, Some, None, Ok, Err, Option, Result, refl}
use Rattle.std.proofs.Common.{ap, ◌∙◌}
use Rattle.std.specs.Option.{option_or}
use Rattle.std.proofs.lemmas.List.{map-append}
use Rattle.amount.specs.Arithmetic.{Ops}
use Rattle.pool.specs.declared.limit_fault.LimitFault.{LimitFault}
use Rattle.pool.specs.Changes.{Changed, ChangedAbove, fault_at}
use Rattle.pool.specs.Limits.{Limit, lowest_place, part, within, over, lacks, with_out, grown, shrunk, unless, Idle, bounded, room}
use Rattle.pool.proofs.Places.{lowest_push}

module _ {A : Type 0} (o : Ops A) where
  -- a change of each limit, unless one of them fails a test
  abbrev pub changing : (Limit A → Bool) → (Limit A → Limit A) → List (Limit A) → Result (List (Limit A)) ℕ
  changing test change ls = unless o (lowest_place test ls) (map change ls)

  -- the same where one limit stands above
  abbrev on_top : Result (List (Limit A)) ℕ → Bool → Limit A → ℕ → Result (List (Limit A)) ℕ
  on_top (Err n) b l c = Err n
  on_top (Ok new) true l c = Err c
  on_top (Ok new) false l c = Ok (new ++ (l ∷ []))

  top_unless : (p : Option ℕ) (b : Bool) (c : ℕ) (new : List (Limit A)) (l : Limit A) → unless o (option_or p (cond b (Some c) None)) (new ++ (l ∷ [])) ≡ on_top (unless o p new) b l c
  top_unless (Some n) b c new l = refl
  top_unless None true c new l = refl
  top_unless None false c new l = refl

  changing_push : (test : Limit A → Bool) (change : Limit A → Limit A) (ls : List (Limit A)) (l : Limit A) → changing test change (ls ++ (l ∷ [])) ≡ on_top (changing test change ls) (test l) (change l) (length ls)
  changing_push test change ls l =
      ap (λ p. unless o p (map change (ls ++ (l ∷ [])))) (lowest_push test ls l)
      ∙ ap (λ r. unless o (option_or (lowest_place test ls) (cond (test l) (Some (length ls)) None)) r) (map-append change ls (l ∷ []))
      ∙ top_unless (lowest_place test ls) (test l) (length ls) (map change ls) (change l)

  pub idle_push : (ls : List (Limit A)) (l : Limit A) → Idle o ls → l.out ≡ o.zero → Idle o (ls ++ (l ∷ []))
  idle_push [] l h e = (e, tt)
  idle_push (x ∷ ls) l h e = (h.0, idle_push ls l h.1 e)

  pub idle_parts : (ls : List (Limit A)) (l : Limit A) → Idle o (ls ++ (l ∷ [])) → Idle o ls × (l.out ≡ o.zero)
  idle_parts [] l h = (tt, h.0)
  idle_parts (x ∷ ls) l h = let r = idle_parts ls l h.1 in ((h.0, r.0), r.1)

  -- what would be out at a limit tells whether it refuses the change, and what it is afterwards
  abbrev pub Tells : Option A → Limit A → Bool → Limit A → Type 0
  Tells None l refuses changed = refuses ≡ true
  Tells (Some x) l refuses changed = (refuses ≡ false) × (changed ≡ with_out o l (Some x))

  module _ (m : ℕ) (a : A) (l : Limit A) where
    sum_tells : (s : Option A) → Tells (bounded o l.bound.ceiling s) l (not (within o s l.bound.ceiling)) (with_out o l s)
    sum_tells None = refl
    sum_tells (Some s) = elim (part o s l.bound.ceiling) as (λ t. Tells (cond t (Some s) None) l (not t) (with_out o l (Some s))) [ true ↦ (refl, refl) | false ↦ refl ]

    rest_tells : (r : Option A) → Tells r l (not (is_some r)) (with_out o l r)
    rest_tells None = refl
    rest_tells (Some r) = (refl, refl)

    pub take_tells : Tells (cond (l.bound.watches m) (room o l.bound.ceiling l.out a) (Some l.out)) l (over o m (o.plus l.out a) l.bound) (grown o m a l)
    take_tells =
        elim (l.bound.watches m) as (λ t. Tells (cond t (room o l.bound.ceiling l.out a) (Some l.out)) l (t && not (within o (o.plus l.out a) l.bound.ceiling)) (cond t (with_out o l (o.plus l.out a)) l)) [
          | true ↦ sum_tells (o.plus l.out a)
          | false ↦ (refl, refl)
        ]

    pub give_tells : Tells (cond (l.bound.watches m) (o.minus l.out a) (Some l.out)) l (lacks o m a l) (shrunk o m a l)
    give_tells =
        elim (l.bound.watches m) as (λ t. Tells (cond t (o.minus l.out a) (Some l.out)) l (t && not (part o a l.out)) (cond t (with_out o l (o.minus l.out a)) l)) [
          | true ↦ rest_tells (o.minus l.out a)
          | false ↦ (refl, refl)
        ]

  -- what is out after a change, by whether the mark is watched
  pub by_watch : (b : Bool) {r x y : Option A} → (b ≡ true → r ≡ x) → (b ≡ false → r ≡ y) → r ≡ cond b x y
  by_watch true f h = f refl
  by_watch false f h = h refl

  -- the ways through a change of a layer: both change, this limit alone refuses, or the pile below does
  both_change : (res : Result (List (Limit A)) ℕ) (ls exit : List (Limit A)) (l new : Limit A) (c : ℕ) → Changed res ls exit (Ok tt) → Changed (on_top res false new c) (ls ++ (l ∷ [])) (exit ++ (new ∷ [])) (Ok tt)
  both_change (Ok r) ls exit l new c h = (refl, ap (λ r. r ++ (new ∷ [])) h.1)
  both_change (Err n) ls exit l new c h = (cc, cc)

  top_refuses : (res : Result (List (Limit A)) ℕ) (ls exit : List (Limit A)) (l new : Limit A) (c : ℕ) → Changed res ls exit (Ok tt) → Changed (on_top res true new c) (ls ++ (l ∷ [])) (ls ++ (l ∷ [])) (Err (fault_at c))
  top_refuses (Ok r) ls exit l new c h = (refl, refl)
  top_refuses (Err n) ls exit l new c h = (cc, cc)

  below_refuses : (res : Result (List (Limit A)) ℕ) (ls exit : List (Limit A)) (l new : Limit A) (b : Bool) (c : ℕ) (e : LimitFault) → Changed res ls exit (Err e) → Changed (on_top res b new c) (ls ++ (l ∷ [])) (ls ++ (l ∷ [])) (Err e)
  below_refuses (Ok r) ls exit l new true c e h = (cc, cc)
  below_refuses (Ok r) ls exit l new false c e h = (cc, cc)
  below_refuses (Err n) ls exit l new b c e h = (h.0, refl)

  refused_same : (res : Result (List (Limit A)) ℕ) (ls exit : List (Limit A)) (e : LimitFault) → Changed res ls exit (Err e) → exit ≡ ls
  refused_same (Ok r) ls exit e h = cc
  refused_same (Err n) ls exit e h = h.1

  pub layer_changed : (test : Limit A → Bool) (change : Limit A → Limit A) (ls below : List (Limit A)) (l : Limit A) (out : Option A) (told r : Result (Unit {0}) LimitFault) (exit : List (Limit A))
      → Tells out l (test l) (change l) → Changed (changing test change ls) ls below told → ChangedAbove out told ls below l exit r → Changed (changing test change (ls ++ (l ∷ []))) (ls ++ (l ∷ [])) exit r
  layer_changed test change ls below l (Some x) (Ok u) r exit t h c =
      rw (changing_push test change ls l, t.0, t.1, c.0, c.1) (both_change (changing test change ls) ls below l (with_out o l (Some x)) (length ls) h)
  layer_changed test change ls below l None (Ok u) r exit t h c =
      rw (changing_push test change ls l, t, c.0, c.1) (top_refuses (changing test change ls) ls below l (change l) (length ls) h)
  layer_changed test change ls below l (Some x) (Err e) r exit t h c =
      rw (changing_push test change ls l, c.0, c.1, refused_same (changing test change ls) ls below e h) (below_refuses (changing test change ls) ls below l (change l) (test l) (length ls) e h)
  layer_changed test change ls below l None (Err e) r exit t h c =
      rw (changing_push test change ls l, c.0, c.1) (below_refuses (changing test change ls) ls below l (change l) (test l) (length ls) e h)
