-- Each kind's bytes and amounts are one for one.
use Rattle.std.specs.Prelude.{◌≡◌, ℕ, ◌^◌, ◌<◌, ◌≤◌, List, ◌++◌, length, take, drop, Some, Option, refl}
use Rattle.std.proofs.Common.{sym, ap, ap₂, subst, ◌∙◌, inl, inr, arith, lit≤, length-append, length-drop, take-append-drop}
use Rattle.std.specs.Option.{option_map}
use Rattle.std.proofs.lemmas.Int.Digits.{number_lt}
use Rattle.std.proofs.ByRecursion.{All-append, All-take, All-drop}
use Rattle.std.proofs.lemmas.List.{take_at, take_all, drop_at, drop-drop, length-take-le}
use Rattle.std.proofs.lemmas.Bool.{cases_eq}
use Rattle.amount.specs.Counts.{fitted}
use Rattle.amount.specs.Pairs.{both, pair_of}
use Rattle.amount.specs.Phases.{three}
use Rattle.amount.specs.declared.pair.Pair.{Pair}
use Rattle.amount.specs.Carried.{mapped_some, some_mapped}
use Rattle.amount.specs.CountLaws.{Counted, fitted_number, fitted_is, fitted_some, amps_counted}
use Rattle.amount.specs.PairLaws.{both_some}
use Rattle.amount.specs.PhaseLaws.{to, from, nested}
use Rattle.amount.specs.SetLaws.{modules_counted}
use Rattle.archive.specs.Codec.{Codec}
use Rattle.archive.specs.Kinds.{count_decode, amps_bytes, amps_decode, phases_bytes, phases_decode, modules_bytes, modules_decode, pair_bytes, pair_decode}
use Rattle.archive.specs.Numbers.{number_of, big_endian}
use Rattle.archive.specs.Widths.{joined}
use Rattle.archive.specs.Digits.{length_be, bytes_be, number_be, be_number}
use Rattle.archive.specs.Exactly.{exactly_yes, exactly_other, exactly_some, joined_is}

-- counts that fill k bytes
module _ {T : Type 0} {limit : ℕ} {make : (n : ℕ) → n < limit → T} {number : T → ℕ} (counted : Counted limit make number) (k : ℕ) (full : 256 ^ k ≡ limit) where
  pub count_codec : Codec k (λ a. big_endian k (number a)) (count_decode k limit make)
  count_codec = record {
    long = λ _ a. length_be k (number a);
    in_bytes = λ _ a. bytes_be k (number a);
    reads_back = λ h a.
        exactly_yes k (big_endian k (number a)) _ h (length_be k (number a))
        ∙ ap (fitted limit make) (number_be k (number a) (subst (λ m. number a < m) (sym full) (counted.below a)))
        ∙ fitted_number counted a;
    writes_back = λ bs a all e.
        let p = exactly_some k bs (fitted limit make (number_of bs)) a e in
        (p.0, ap (big_endian k) (fitted_is counted (number_of bs) a p.2) ∙ be_number k bs all p.1);
    total = λ h bs all e.
        let lt : number_of bs < limit = subst (λ m. number_of bs < m) (ap (λ n. 256 ^ n) e ∙ full) (number_lt 256 bs all) in
        (make (number_of bs) lt, exactly_yes k bs _ h e ∙ fitted_some counted (number_of bs) lt);
  }

pub amps_codec : Codec 2 amps_bytes amps_decode
amps_codec = count_codec amps_counted 2 refl

pub modules_codec : Codec 8 modules_bytes modules_decode
modules_codec = count_codec modules_counted 8 refl

module _ {L R : Type 0} {wl wr : ℕ} {bl : L → List ℕ} {br : R → List ℕ} {dl : List ℕ → Option L} {dr : List ℕ → Option R} (l : Codec wl bl dl) (r : Codec wr br dr) where
  long : joined wl wr ≤ 16 → (p : Pair L R) → length (pair_bytes bl br p) ≡ joined wl wr
  long h p =
      let k = joined_is wl wr h in
      length-append (bl p.left) (br p.right) ∙ omega (arith, l.long k.0 p.left, r.long k.1 p.right, k.2)

  pub pair_codec : Codec (joined wl wr) (pair_bytes bl br) (pair_decode wl wr dl dr)
  pair_codec = record {
    long = long;
    in_bytes = λ h p.
        let k = joined_is wl wr h in
        All-append _ (bl p.left) (br p.right) (l.in_bytes k.0 p.left) (r.in_bytes k.1 p.right);
    reads_back = λ h p.
        let k = joined_is wl wr h in
        let x : dl (take wl (pair_bytes bl br p)) ≡ Some p.left = ap dl (take_at (bl p.left) (br p.right) wl (l.long k.0 p.left)) ∙ l.reads_back k.0 p.left in
        let y : dr (drop wl (pair_bytes bl br p)) ≡ Some p.right = ap dr (drop_at (bl p.left) (br p.right) wl (l.long k.0 p.left)) ∙ r.reads_back k.1 p.right in
        exactly_yes (joined wl wr) (pair_bytes bl br p) _ h (long h p) ∙ ap₂ (both pair_of) x y;
    writes_back = λ bs p all e.
        let x = exactly_some (joined wl wr) bs (both pair_of (dl (take wl bs)) (dr (drop wl bs))) p e in
        let y = both_some (dl (take wl bs)) (dr (drop wl bs)) p x.2 in
        let u = l.writes_back (take wl bs) p.left (All-take _ wl bs all) y.0 in
        let v = r.writes_back (drop wl bs) p.right (All-drop _ wl bs all) y.1 in
        (x.0, ap₂ ◌++◌ u.1 v.1 ∙ take-append-drop wl bs);
    total = λ h bs all e.
        let k = joined_is wl wr h in
        let x = l.total k.0 (take wl bs) (All-take _ wl bs all) (length-take-le wl bs (omega (arith, k.2))) in
        let y = r.total k.1 (drop wl bs) (All-drop _ wl bs all) (length-drop wl bs ∙ omega (arith, k.2)) in
        (pair_of x.0 y.0, exactly_yes (joined wl wr) bs _ h e ∙ ap₂ (both pair_of) x.1 y.1);
  }

-- a kind whose values are those of an archived kind, one for one
module _ {A B : Type 0} (there : A → B) (home : B → A) (home-there : (a : A) → home (there a) ≡ a) (there-home : (b : B) → there (home b) ≡ b) where
  pub carried_codec : {w : ℕ} {bytes : B → List ℕ} {decode : List ℕ → Option B} → Codec w bytes decode → Codec w (λ a. bytes (there a)) (λ bs. option_map home (decode bs))
  carried_codec {w} {bytes} {decode} c = record {
    long = λ h a. c.long h (there a);
    in_bytes = λ h a. c.in_bytes h (there a);
    reads_back = λ h a. some_mapped there home home-there there-home _ a (c.reads_back h (there a));
    writes_back = λ bs a all e. c.writes_back bs (there a) all (mapped_some there home home-there there-home (decode bs) a e);
    total = λ h bs all e. let x = c.total h bs all e in (home x.0, ap (option_map home) x.1);
  }

-- phases are amperes in nested pairs
same_decode : (bs : List ℕ) → option_map from (pair_decode 2 4 amps_decode (pair_decode 2 2 amps_decode amps_decode) bs) ≡ phases_decode bs
same_decode bs = elim (cases_eq (length bs) 6) [
  | inl e ↦
      let inner = exactly_yes 4 (drop 2 bs) (both pair_of (amps_decode (take 2 (drop 2 bs))) (amps_decode (drop 2 (drop 2 bs)))) (lit≤ tt) (length-drop 2 bs ∙ omega arith) in
      let end : drop 2 (drop 2 bs) ≡ take 2 (drop 4 bs) = drop-drop 2 2 bs ∙ sym (take_all 2 (drop 4 bs) (omega (arith, length-drop 4 bs))) in
      ap (option_map from) (exactly_yes 6 bs _ (lit≤ tt) e ∙ ap (both pair_of (amps_decode (take 2 bs))) inner)
      ∙ nested (amps_decode (take 2 bs)) (amps_decode (take 2 (drop 2 bs))) (amps_decode (drop 2 (drop 2 bs)))
      ∙ ap (λ l. three (amps_decode (take 2 bs)) (amps_decode (take 2 (drop 2 bs))) (amps_decode l)) end
      ∙ sym (exactly_yes 6 bs _ (lit≤ tt) e)
  | inr n ↦ ap (option_map from) (exactly_other 6 bs _ n) ∙ sym (exactly_other 6 bs _ n)
]

pub phases_codec : Codec 6 phases_bytes phases_decode
phases_codec = subst (λ d. Codec 6 phases_bytes d) (λ i bs. same_decode bs i) (carried_codec to from (λ a. refl) (λ p. refl) (pair_codec amps_codec (pair_codec amps_codec amps_codec)))
