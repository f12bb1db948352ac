-- Open bays, counted.
use Rattle.std.proofs.Common.{◌≡◌, ◌+◌, cond, List, ◌∷◌, is_some, count_by, Some, None, Option, sym, refl, arith}
use Rattle.std.proofs.lemmas.List.Recursion.{is_count_by}
use Rattle.orders.specs.Sessions.{Session, Bays, open_bays}

module _ {A : Type 0} where
  open_first : (b : Option (Session A)) (t : List (Option (Session A))) → open_bays (b ∷ t) ≡ cond (is_some b) (1 + open_bays t) (open_bays t)
  open_first None t = refl
  open_first (Some s) t = omega arith

  pub count_open : (t : Bays A) → count_by is_some t ≡ open_bays t
  count_open t = sym (is_count_by open_bays is_some refl open_first t)
