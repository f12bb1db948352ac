-- An order is had again from its bays.
use Rattle.std.proofs.Common.{◌≡◌, ◌-◌, ◌++◌, length, take, replicate, sym, ap, ap₂, ◌∙◌, arith, length-take-le}
use Rattle.std.proofs.lemmas.List.{take-append-drop}
use Rattle.search.specs.Padded.{IsPadded, padded}
use Rattle.search.specs.declared.order.Order.TheInside.{Inside}

pub padded_back : (r : Inside) → IsPadded r → padded (take r.count r.bays) ≡ r
padded_back r h =
    let is = take r.count r.bays in
    let n : length is ≡ r.count = length-take-le r.count r.bays (omega (arith, h.long, h.fits)) in
    let bytes : is ++ replicate (64 - length is) 0 ≡ r.bays = ap (λ k. is ++ replicate (64 - k) 0) n ∙ ap (λ l. is ++ l) (sym h.zeros) ∙ take-append-drop r.count r.bays in
    ap₂ (λ b k. record { bays = b; count = k }) bytes n
