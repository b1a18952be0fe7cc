-- Each rule's conclusion is a sequent, and so it is concluded.
use Rattle.std.proofs.Common.{◌≡◌, refl, sym, ◌∙◌, ap, subst}
use Rattle.iv_term.specs.declared.typ.Typ.{Typ}
use Rattle.iv_term.specs.declared.typ.Typ.TheBlock.{Nil as no_types}
use Rattle.iv_term.specs.declared.term.Term.{Term}
use Rattle.iv_term.specs.declared.term.Terms.{Terms}
use Rattle.iv_term.specs.declared.term.Term.TheBlock.{Nil}
use Rattle.iv_term.specs.Typ.{prop, fun}
use Rattle.iv_term.specs.Term.{imp, antecedent, consequent, IsImplication}
use Rattle.iv_term.specs.Hyps.{among, union, IsDistinctTerms}
use Rattle.iv_hsub.specs.Typing.{cod, result_type, type_of, HasType}
use Rattle.iv_hsub.specs.Abstract.{abstract_over}
use Rattle.iv_hsub.specs.Hhf.{one}
use Rattle.iv_hsub.specs.Laws.{HappKeepsTypes, AbstractKeepsTypes, RetypeKeepsTypes, InstKeepsTypes}
use Rattle.iv_rules.specs.declared.derivation.Derivation.{Derivation}
use Rattle.iv_rules.specs.Equality.{eq, lhs, rhs, side_type, IsEquation, all, predicate, app}
use Rattle.iv_rules.specs.Instance.{instanced_all}
use Rattle.iv_rules.specs.Sequent.{sequent, IsProp, AreProps, Gives}
use Rattle.iv_rules.specs.Rules.{Concludes, Shows}
use Rattle.iv_rules.specs.Steps.{AxiomShows, AssumeShows, ImpIntrShows, ImpElimShows, AllIntrShows, AllElimShows, ReflShows, SymShows, TransShows, CombShows, AbsShows, EqIntrShows, EqElimShows, ConvShows, InstShows}
use Rattle.iv_rules.proofs.Conclusions.{concludes_sequents}
use Rattle.iv_rules.proofs.Hyps.{union-props, without-props, union-distinct, without-distinct}
use Rattle.iv_rules.proofs.Instances.{instanced-prop, instanced-props}
use Rattle.iv_rules.proofs.Parts.{imp-is, eq-is, all-is, imp_is_prop, eq_is_prop, all_is_prop}

-- a sequent with no hypotheses, with those of one premise, and with those of two
none-is : (p : Term) → IsProp p → Gives (sequent Nil p) (sequent Nil p)
unfolding AreProps IsDistinctTerms
none-is p h = (refl, record { hyps = tt; distinct = tt; prop = h })

kept-is : (d : Derivation) (hs : Terms) (p q : Term) → Shows d hs p → IsProp q → Gives (sequent hs q) (sequent hs q)
kept-is d hs p q k h = let s = concludes_sequents d (sequent hs p) k in (refl, record { hyps = s.hyps; distinct = s.distinct; prop = h })

both-is : (d e : Derivation) (hs ks : Terms) (p q r : Term) → Shows d hs p → Shows e ks q → IsProp r → Gives (sequent (union hs ks) r) (sequent (union hs ks) r)
both-is d e hs ks p q r k l h =
    let s = concludes_sequents d (sequent hs p) k in
    let t = concludes_sequents e (sequent ks q) l in
    (refl, record { hyps = union-props ks hs s.hyps t.hyps; distinct = union-distinct ks hs s.distinct; prop = h })

-- what is shown is a proposition
shown : (d : Derivation) (hs : Terms) (p : Term) → Shows d hs p → IsProp p
shown d hs p k = let s = concludes_sequents d (sequent hs p) k in s.prop

pub axiom-shows : AxiomShows
unfolding Concludes
axiom-shows n a h = none-is a h

pub assume-shows : AssumeShows
unfolding Concludes AreProps IsDistinctTerms among
assume-shows a h = (refl, record { hyps = (h, tt); distinct = (refl, tt); prop = h })

pub imp_intr-shows : ImpIntrShows
unfolding Concludes
imp_intr-shows a d hs p h k =
    let s = concludes_sequents d (sequent hs p) k in
    (sequent hs p, (k, (h, (refl, record { hyps = without-props a hs s.hyps; distinct = without-distinct a hs s.distinct; prop = imp-is a p h s.prop }))))

pub imp_elim-shows : ImpElimShows
unfolding Concludes
imp_elim-shows d e hs ks p q c k l =
    let h : IsProp (imp q (consequent p)) = subst IsProp c (shown d hs p k) in
    (sequent hs p, (sequent ks q, (k, l, (c, both-is d e hs ks p q (consequent p) k l ((imp_is_prop q (consequent p)).0 h).1))))

-- the sides of an equation, and the parts of an implication
sides : (d : Derivation) (hs : Terms) (p : Term) → IsEquation p → Shows d hs p → HasType no_types (side_type p) (lhs p) × HasType no_types (side_type p) (rhs p)
sides d hs p e k = (eq_is_prop (side_type p) (lhs p) (rhs p)).0 (subst IsProp e (shown d hs p k))

parts : (d : Derivation) (hs : Terms) (p : Term) → IsImplication p → Shows d hs p → IsProp (antecedent p) × IsProp (consequent p)
parts d hs p e k = (imp_is_prop (antecedent p) (consequent p)).0 (subst IsProp e (shown d hs p k))

pub refl-shows : ReflShows
unfolding Concludes
refl-shows v h = (h, none-is (eq (type_of no_types v) v v) (eq-is (type_of no_types v) v v (h, refl) (h, refl)))

pub sym-shows : SymShows
unfolding Concludes
sym-shows d hs p e k =
    let s = sides d hs p e k in
    (sequent hs p, (k, (e, kept-is d hs p (eq (side_type p) (rhs p) (lhs p)) k (eq-is (side_type p) (rhs p) (lhs p) s.1 s.0))))

pub trans-shows : TransShows
unfolding Concludes
trans-shows d e hs ks p q c k l =
    let s = sides d hs p c.0 k in
    let t = (eq_is_prop (side_type p) (rhs p) (rhs q)).0 (subst IsProp c.1 (shown e ks q l)) in
    (sequent hs p, (sequent ks q, (k, l, (c, both-is d e hs ks p q (eq (side_type p) (lhs p) (rhs q)) k l (eq-is (side_type p) (lhs p) (rhs q) s.0 t.1)))))

pub eq_intr-shows : EqIntrShows
unfolding Concludes
eq_intr-shows d e hs ks p q c k l =
    let s = parts d hs p c.0 k in
    (sequent hs p, (sequent ks q, (k, l, (c, both-is d e hs ks p q (eq prop (antecedent p) (consequent p)) k l (eq-is prop (antecedent p) (consequent p) s.0 s.1)))))

pub eq_elim-shows : EqElimShows
unfolding Concludes
eq_elim-shows d e hs ks p q c k l =
    let s = (eq_is_prop prop q (rhs p)).0 (subst IsProp c (shown d hs p k)) in
    (sequent hs p, (sequent ks q, (k, l, (c, both-is d e hs ks p q (rhs p) k l s.1))))

pub conv-shows : ConvShows
unfolding Concludes
conv-shows b d hs p c k = (sequent hs p, (k, (c, kept-is d hs p b k c.0)))

-- a function at one argument
app-has : HappKeepsTypes → (c : Typ) (f x : Term) → HasType no_types c f → c ≡ fun (type_of no_types x) (cod c) → HasType no_types (type_of no_types x) x
    → HasType no_types (cod c) (app c f x)
unfolding result_type
app-has happs c f x h e k = happs no_types c f (one x) h (e, (k.0, tt))

module _ (happs : HappKeepsTypes) (abstracts : AbstractKeepsTypes) where
  pub all_intr-shows : AllIntrShows
  unfolding Concludes
  all_intr-shows x a d hs p c k =
      (sequent hs p, (k, (c, kept-is d hs p (all a (abstract_over x a p)) k (all-is a (abstract_over x a p) (abstracts no_types x a prop p (shown d hs p k))))))

  pub all_elim-shows : AllElimShows
  unfolding Concludes cod
  all_elim-shows v d hs p c k =
      let a = type_of no_types v in
      let h : HasType no_types (fun a prop) (predicate p) = (all_is_prop a (predicate p)).0 (subst IsProp c.1 (shown d hs p k)) in
      (sequent hs p, (k, (c, kept-is d hs p (app (fun a prop) (predicate p) v) k (app-has happs (fun a prop) (predicate p) v h refl (c.0, refl)))))

  pub comb-shows : CombShows
  unfolding Concludes
  comb-shows d e hs ks p q c k l =
      let f = side_type p in
      let s = sides d hs p c.0 k in
      let t = sides e ks q c.1 l in
      let takes : (x : Term) → HasType no_types (side_type q) x → f ≡ fun (type_of no_types x) (cod f) = λ x h. c.2 ∙ ap (λ a. fun a (cod f)) (sym h.1) in
      let left = app-has happs f (lhs p) (lhs q) s.0 (takes (lhs q) t.0) (t.0.0, refl) in
      let right = app-has happs f (rhs p) (rhs q) s.1 (takes (rhs q) t.1) (t.1.0, refl) in
      (sequent hs p, (sequent ks q, (k, l, (c, both-is d e hs ks p q (eq (cod f) (app f (lhs p) (lhs q)) (app f (rhs p) (rhs q))) k l (eq-is (cod f) (app f (lhs p) (lhs q)) (app f (rhs p) (rhs q)) left right)))))

  pub abs-shows : AbsShows
  unfolding Concludes
  abs-shows x a d hs p c k =
      let s = sides d hs p c.0 k in
      let left = abstracts no_types x a (side_type p) (lhs p) s.0 in
      let right = abstracts no_types x a (side_type p) (rhs p) s.1 in
      (sequent hs p, (k, (c, kept-is d hs p (eq (fun a (side_type p)) (abstract_over x a (lhs p)) (abstract_over x a (rhs p))) k (eq-is (fun a (side_type p)) (abstract_over x a (lhs p)) (abstract_over x a (rhs p)) left right))))

pub inst-shows : RetypeKeepsTypes → InstKeepsTypes → InstShows
unfolding Concludes IsDistinctTerms
inst-shows types values s d hs p apart c k =
    let q = concludes_sequents d (sequent hs p) k in
    let props = instanced-props types values s hs c.0 q.hyps in
    let is = instanced-prop types values s p c.0 q.prop in
    (sequent hs p, (k, (apart, c, (refl, record { hyps = props; distinct = union-distinct (instanced_all s hs) Nil tt; prop = is }))))
