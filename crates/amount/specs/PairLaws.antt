-- A pair of two lawful kinds is lawful.
use Rattle.std.specs.Prelude.{◌≡◌, Some, None, Option, refl}
use Rattle.std.proofs.Common.{sym, ap, ◌∙◌}
use Rattle.std.proofs.lemmas.Bool.{and_parts, and_from}
use Rattle.amount.specs.Arithmetic.{Ops, Laws, bind}
use Rattle.amount.specs.Pairs.{pair_of, both, pair_ops}
use Rattle.amount.specs.declared.pair.Pair.{Pair}
use Rattle.amount.specs.Partial.{never}
use Rattle.std.proofs.lemmas.Option.{same_Some}

pub both_some : {L R : Type 0} (x : Option L) (y : Option R) (p : Pair L R) → both pair_of x y ≡ Some p → (x ≡ Some p.left) × (y ≡ Some p.right)
both_some None y p e = never refl e
both_some (Some x) None p e = never refl e
both_some {L} {R} (Some x) (Some y) p e =
    let q = same_Some (pair_of x y) p e in
    (ap (λ (p : Pair L R). Some p.left) q, ap (λ (p : Pair L R). Some p.right) q)

both_none : {L R : Type 0} (x : Option L) → None ≡ both {B = R} pair_of x None
both_none None = refl
both_none (Some x) = refl

both_bind : {L R : Type 0} (x : Option L) (y : Option R) (f : L → Option L) (g : R → Option R)
    → bind (both pair_of x y) (λ p. both pair_of (f p.left) (g p.right)) ≡ both pair_of (bind x f) (bind y g)
both_bind None y f g = refl
both_bind (Some x) None f g = both_none (f x)
both_bind (Some x) (Some y) f g = refl

module _ {L R : Type 0} {ol : Ops L} {or : Ops R} (l : Laws ol) (r : Laws or) where
  pub pair_laws : Laws (pair_ops ol or)
  pair_laws = record {
    identity = λ a. rw (l.identity a.left, r.identity a.right) refl;
    commutes = λ a b. rw (l.commutes a.left b.left, r.commutes a.right b.right) refl;
    regroups = λ a b c.
        both_bind (ol.plus a.left b.left) (or.plus a.right b.right) (λ s. ol.plus s c.left) (λ s. or.plus s c.right)
        ∙ rw (l.regroups a.left b.left c.left, r.regroups a.right b.right c.right)
        (sym (both_bind (ol.plus b.left c.left) (or.plus b.right c.right) (ol.plus a.left) (or.plus a.right)));
    cancels = λ a b c s p q.
        let x = both_some _ _ s p in
        let y = both_some _ _ s q in
        let u = l.cancels a.left b.left c.left s.left x.0 y.0 in
        let v = r.cancels a.right b.right c.right s.right x.1 y.1 in
        λ i. pair_of (u i) (v i);
    positive = λ a b p.
        let x = both_some _ _ (pair_of ol.zero or.zero) p in
        let u = l.positive a.left b.left x.0 in
        let v = r.positive a.right b.right x.1 in
        (λ i. pair_of (u.0 i) (v.0 i), λ i. pair_of (u.1 i) (v.1 i));
    difference = λ a b c. (
      λ p. let x = both_some _ _ c p in
          rw ((l.difference a.left b.left c.left).0 x.0, (r.difference a.right b.right c.right).0 x.1) refl,
      λ p. let x = both_some _ _ b p in
          rw ((l.difference a.left b.left c.left).1 x.0, (r.difference a.right b.right c.right).1 x.1) refl,
    );
    equality = λ a b. (
      λ e.
          let p = and_parts (ol.equal a.left b.left) (or.equal a.right b.right) e in
          let u = (l.equality a.left b.left).0 p.0 in
          let v = (r.equality a.right b.right).0 p.1 in
          λ i. pair_of (u i) (v i),
      λ e. and_from (ol.equal a.left b.left) (or.equal a.right b.right) ((l.equality a.left b.left).1 (ap (λ (p : Pair L R). p.left) e)) ((r.equality a.right b.right).1 (ap (λ (p : Pair L R). p.right) e)),
    );
  }
