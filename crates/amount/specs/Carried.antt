-- A kind whose values are those of a lawful kind, one for one, is lawful.
use Rattle.std.specs.Prelude.{◌≡◌, Some, None, Option, refl}
use Rattle.std.proofs.Common.{sym, ap, ◌∙◌}
use Rattle.std.specs.Option.{option_map}
use Rattle.amount.specs.Arithmetic.{Ops, Laws, bind}
use Rattle.amount.specs.Partial.{never}
use Rattle.std.proofs.lemmas.Option.{same_Some}

-- the operations of the other kind, carried over
abbrev pub carried : {A B : Type 0} → (A → B) → (B → A) → Ops B → Ops A
carried to from o = record {
  zero = from o.zero;
  plus = λ a b. option_map from (o.plus (to a) (to b));
  minus = λ b a. option_map from (o.minus (to b) (to a));
  equal = λ a b. o.equal (to a) (to b);
}

module _ {A B : Type 0} (to : A → B) (from : B → A) (from-to : (a : A) → from (to a) ≡ a) (to-from : (b : B) → to (from b) ≡ b) where
  pub mapped_some : (o : Option B) (a : A) → option_map from o ≡ Some a → o ≡ Some (to a)
  mapped_some None a e = never refl e
  mapped_some (Some b) a e = ap Some (sym (to-from b) ∙ ap to (same_Some (from b) a e))

  pub some_mapped : (o : Option B) (a : A) → o ≡ Some (to a) → option_map from o ≡ Some a
  some_mapped o a e = ap (option_map from) e ∙ ap Some (from-to a)

  to_inj : (a b : A) → to a ≡ to b → a ≡ b
  to_inj a b e = sym (from-to a) ∙ ap from e ∙ from-to b

  bind_l : (o : Option B) (f : B → B → Option B) (c : A) → bind (option_map from o) (λ s. option_map from (f (to s) (to c))) ≡ option_map from (bind o (λ s. f s (to c)))
  bind_l None f c = refl
  bind_l (Some b) f c = ap (λ x. option_map from (f x (to c))) (to-from b)

  bind_r : (o : Option B) (f : B → B → Option B) (c : A) → bind (option_map from o) (λ s. option_map from (f (to c) (to s))) ≡ option_map from (bind o (λ s. f (to c) s))
  bind_r None f c = refl
  bind_r (Some b) f c = ap (λ x. option_map from (f (to c) x)) (to-from b)

  pub carried_laws : {o : Ops B} → Laws o → Laws (carried to from o)
  carried_laws {o} l = record {
    identity = λ a. some_mapped _ a (ap (λ x. o.plus x (to a)) (to-from o.zero) ∙ l.identity (to a));
    commutes = λ a b. ap (option_map from) (l.commutes (to a) (to b));
    regroups = λ a b c. bind_l (o.plus (to a) (to b)) o.plus c ∙ ap (option_map from) (l.regroups (to a) (to b) (to c)) ∙ sym (bind_r (o.plus (to b) (to c)) o.plus a);
    cancels = λ a b c s p q. to_inj a b (l.cancels (to a) (to b) (to c) (to s) (mapped_some _ s p) (mapped_some _ s q));
    positive = λ a b p.
        let x = l.positive (to a) (to b) (mapped_some _ (from o.zero) p ∙ ap Some (to-from o.zero)) in
        (to_inj a (from o.zero) (x.0 ∙ sym (to-from o.zero)), to_inj b (from o.zero) (x.1 ∙ sym (to-from o.zero)));
    difference = λ a b c. (
      λ p. some_mapped _ b ((l.difference (to a) (to b) (to c)).0 (mapped_some _ c p)),
      λ p. some_mapped _ c ((l.difference (to a) (to b) (to c)).1 (mapped_some _ b p)),
    );
    equality = λ a b. (λ e. to_inj a b ((l.equality (to a) (to b)).0 e), λ e. (l.equality (to a) (to b)).1 (ap to e));
  }
