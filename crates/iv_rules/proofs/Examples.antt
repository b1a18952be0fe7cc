-- Each rule, on a small example: the definitions compute what they should.
use Rattle.std.proofs.Common.{◌≡◌, ℕ, true, false, [], ◌∷◌, codes, refl, sym, ap, arith}
use Rattle.iv_text.specs.declared.name.Name.{Name}
use Rattle.iv_term.specs.declared.typ.Typ.{Typ}
use Rattle.iv_term.specs.declared.typ.Typ.TheBlock.{Con, Schematic as Variable, Nil as no_types}
use Rattle.iv_term.specs.declared.term.Head.TheVariants.{Free, Schematic}
use Rattle.iv_term.specs.declared.term.Term.{Term}
use Rattle.iv_term.specs.declared.term.Term.TheBlock.{Spine, Nil}
use Rattle.iv_term.specs.Typ.{prop, fun, same_typ, same_typs}
use Rattle.iv_term.specs.Term.{lam, tm_cons, imp, same_term, same_terms}
use Rattle.iv_term.specs.Hyps.{among, snoc, added, union, without, IsDistinctTerms}
use Rattle.iv_hsub.specs.Typing.{dom, cod, types_len, type_at, result_type, type_of, IsTerm, HasType}
use Rattle.iv_hsub.specs.Index.{index, raise, raise_all, occurs, occurs_in, lower, lower_all, ends_in_0, front, contracts, eta}
use Rattle.iv_hsub.specs.Hsub.{append, put, put_all, happ}
use Rattle.iv_hsub.specs.Abstract.{free, bind, bind_all, abstract_over}
use Rattle.iv_hsub.specs.Hhf.{one, expand, push, push_args, push_under, hhf, hhf_all}
use Rattle.iv_hsub.specs.Retype.{map_typ, map_typs, retype, retype_all}
use Rattle.iv_hsub.specs.Inst.{inst as put_values, inst_all}
use Rattle.iv_rules.specs.declared.instance.Instance.{Instance}
use Rattle.iv_rules.specs.declared.derivation.Derivation.{Derivation}
use Rattle.iv_rules.specs.declared.derivation.Derivation.TheBlock.{Axiom, Assume, Refl}
use Rattle.iv_rules.specs.Derivation.{imp_intr, imp_elim, all_intr, all_elim, eq_sym, eq_trans, comb, abs, eq_intr, eq_elim, conv, inst}
use Rattle.iv_rules.specs.Eigenvariable.{any_has_named}
use Rattle.iv_rules.specs.Equality.{eq, all}
use Rattle.iv_rules.specs.Instance.{AreTyped, changes_typ, changes_typs, changes, changes_any}
use Rattle.iv_rules.specs.Sequent.{closed, IsProp, AreProps, IsSequent}
use Rattle.iv_rules.specs.Rules.{Concludes}
use Rattle.iv_rules.proofs.Parts.{imp-is, eq-is}
use Rattle.std.specs.List.{IsDistinct}

abbrev name : ℕ → Name
name n = record { text = n ∷ []; number = 0 }

-- a type, individuals of it, a function, a predicate and a proposition
abbrev i : Typ
i = Con (codes "i") no_types

abbrev x : Term
x = free (name 120) i

abbrev y : Term
y = free (name 121) i

abbrev f : Term → Term
f t = Spine (Free (name 102) (fun i i)) (one t)

abbrev p : Term → Term
p t = Spine (Free (name 112) (fun i prop)) (one t)

abbrev a : Term
a = free (name 97) prop

-- what has no premise, as an axiom
abbrev said : Term → Derivation
said t = Axiom [] t

abbrev equal : Term → Term → Term
equal s t = eq i s t

closed-is : (t : Term) → IsProp t → IsSequent (closed t)
unfolding AreProps IsDistinctTerms
closed-is t h = record { hyps = tt; distinct = tt; prop = h }

a-is : IsProp a
unfolding type_of result_type
a-is = ((tt, tt), refl)

x-is : HasType no_types i x
unfolding type_of result_type
x-is = ((tt, tt), refl)

y-is : HasType no_types i y
unfolding type_of result_type
y-is = ((tt, tt), refl)

f-is : (t : Term) → HasType no_types i t → HasType no_types i (f t)
unfolding type_of result_type dom cod
f-is t h = ((tt, (ap (λ d. fun d i) (sym h.1), (h.0, tt))), refl)

-- |- x == x, for any term; y == x from x == y; x == z from x == y and y == z
by-refl : (v : Term) → IsTerm no_types v → Concludes (Refl v) (closed (eq (type_of no_types v) v v))
unfolding Concludes
by-refl v h = (h, (refl, closed-is _ (eq-is (type_of no_types v) v v (h, refl) (h, refl))))

said-is : (t : Term) → IsProp t → Concludes (said t) (closed t)
unfolding Concludes
said-is t h = (refl, closed-is t h)

by-sym : Concludes (eq_sym (said (equal x y))) (closed (equal y x))
unfolding Concludes dom
by-sym = (closed (equal x y), (said-is _ (eq-is i x y x-is y-is), (refl, (refl, closed-is _ (eq-is i y x y-is x-is)))))

by-trans : Concludes (eq_trans (said (equal x y)) (said (equal y (f x)))) (closed (equal x (f x)))
unfolding Concludes dom union
by-trans = (closed (equal x y), (closed (equal y (f x)), (said-is _ (eq-is i x y x-is y-is), said-is _ (eq-is i y (f x) y-is (f-is x x-is)), ((refl, refl), (refl, closed-is _ (eq-is i x (f x) x-is (f-is x x-is)))))))

-- a |- a; |- a ==> a; |- a from that and a
by-assume : Concludes (Assume a) (record { hyps = one a; prop = a })
unfolding Concludes AreProps IsDistinctTerms among
by-assume = (refl, record { hyps = (a-is, tt); distinct = (refl, tt); prop = a-is })

by-imp_intr : Concludes (imp_intr a (Assume a)) (closed (imp a a))
unfolding Concludes without same_term same_terms same_typ same_typs
by-imp_intr = (record { hyps = one a; prop = a }, (by-assume, (a-is, (refl, closed-is _ (imp-is a a a-is a-is)))))

by-imp_elim : Concludes (imp_elim (imp_intr a (Assume a)) (said a)) (closed a)
unfolding Concludes union
by-imp_elim = (closed (imp a a), (closed a, (by-imp_intr, said-is a a-is, (refl, (refl, closed-is a a-is)))))

-- |- a == a from a ==> a, twice; |- a from that and a
by-eq_intr : Concludes (eq_intr (imp_intr a (Assume a)) (imp_intr a (Assume a))) (closed (eq prop a a))
unfolding Concludes union
by-eq_intr = (closed (imp a a), (closed (imp a a), (by-imp_intr, by-imp_intr, ((refl, refl), (refl, closed-is _ (eq-is prop a a a-is a-is))))))

by-eq_elim : Concludes (eq_elim (eq_intr (imp_intr a (Assume a)) (imp_intr a (Assume a))) (said a)) (closed a)
unfolding Concludes union
by-eq_elim = (closed (eq prop a a), (closed a, (by-eq_intr, said-is a a-is, (refl, (refl, closed-is a a-is)))))

-- |- f x == f y from f == f and x == y
abbrev f_alone : Term
f_alone = free (name 102) (fun i i)

by-comb : Concludes (comb (Refl f_alone) (said (equal x y))) (closed (equal (f x) (f y)))
unfolding Concludes union dom cod happ append type_of result_type
by-comb = (closed (eq (fun i i) f_alone f_alone), (closed (equal x y), (by-refl f_alone (tt, tt), said-is _ (eq-is i x y x-is y-is), ((refl, refl, refl), (refl, closed-is _ (eq-is i (f x) (f y) (f-is x x-is) (f-is y y-is)))))))

-- |- !!x. x == x from x == x; |- y == y from that
abbrev all_equal : Term
all_equal = all i (lam i (equal (index 0) (index 0)))

all_equal-is : IsProp all_equal
unfolding type_of result_type dom cod types_len type_at contracts ends_in_0 front occurs occurs_in
all_equal-is = ((tt, (refl, (((tt, (refl, ((omega arith, tt), (refl, ((omega arith, tt), tt))))), refl), tt))), refl)

by-all_intr : Concludes (all_intr (name 120) i (Refl x)) (closed all_equal)
unfolding Concludes any_has_named abstract_over bind bind_all eta contracts ends_in_0 front occurs occurs_in same_typ same_typs type_of result_type
by-all_intr = (closed (equal x x), (by-refl x x-is.0, (refl, (refl, closed-is _ all_equal-is))))

by-all_elim : Concludes (all_elim y (all_intr (name 120) i (Refl x))) (closed (equal y y))
unfolding Concludes happ put put_all raise raise_all same_typ same_typs type_of result_type
by-all_elim = (closed all_equal, (by-all_intr, ((y-is.0, refl), (refl, closed-is _ (eq-is i y y y-is y-is)))))

-- |- f == (%x. x) from f x == x, where the left side is contracted
abbrev identity : Term
identity = lam i (index 0)

identity-is : HasType no_types (fun i i) identity
unfolding type_of result_type types_len type_at contracts ends_in_0
identity-is = (((omega arith, tt), refl), refl)

by-abs : Concludes (abs (name 120) i (said (equal (f x) x))) (closed (eq (fun i i) f_alone identity))
unfolding Concludes any_has_named abstract_over bind bind_all eta contracts ends_in_0 front occurs occurs_in lower lower_all same_typ same_typs type_of result_type dom
by-abs =
    (closed (equal (f x) x), (said-is _ (eq-is i (f x) x (f-is x x-is) x-is), ((refl, refl), (refl, closed-is _ (eq-is (fun i i) f_alone identity ((tt, tt), refl) identity-is)))))

-- |- !!x. a ==> p x from a ==> !!x. p x
abbrev premise_outside : Term
premise_outside = imp a (all i (free (name 112) (fun i prop)))

abbrev premise_inside : Term
premise_inside = all i (lam i (imp a (p (index 0))))

premise_outside-is : IsProp premise_outside
unfolding type_of result_type dom cod
premise_outside-is = imp-is a (all i (free (name 112) (fun i prop))) a-is ((tt, (refl, ((tt, tt), tt))), refl)

premise_inside-is : IsProp premise_inside
unfolding type_of result_type dom cod types_len type_at contracts ends_in_0 front occurs occurs_in
premise_inside-is = ((tt, (refl, (((tt, (refl, ((tt, tt), (refl, ((tt, (refl, ((omega arith, tt), tt))), tt))))), refl), tt))), refl)

by-conv : Concludes (conv premise_inside (said premise_outside)) (closed premise_inside)
unfolding Concludes hhf hhf_all push push_args push_under expand raise raise_all append eta contracts ends_in_0 front occurs occurs_in same_typ same_typs dom
by-conv = (closed premise_outside, (said-is _ premise_outside-is, ((premise_inside-is, refl), (refl, closed-is _ premise_inside-is))))

-- |- y == y from ?x == ?x, where ?x is of a schematic type; y == y |- y == y from ?x == y, y == ?x |- ?x == ?x
abbrev any_x : Typ → Term
any_x c = Spine (Schematic (name 120) c) Nil

abbrev x_is_y : Instance
x_is_y = record { fixed = []; types = (name 116, i) ∷ []; frees = []; schematics = ((name 120, i), y) ∷ [] }

by-inst : Concludes (inst x_is_y (Refl (any_x (Variable (name 116))))) (closed (equal y y))
unfolding Concludes IsDistinct AreTyped changes_any retype retype_all map_typ map_typs put_values inst_all union same_typ same_typs happ type_of result_type
by-inst =
    let v = any_x (Variable (name 116)) in
    (closed (eq (Variable (name 116)) v v), (by-refl v (tt, tt), ((tt, (tt, tt), tt, (tt, tt)), ((tt, (y-is, tt)), refl), (refl, closed-is _ (eq-is i y y y-is y-is)))))

any_x-is : HasType no_types i (any_x i)
unfolding type_of result_type
any_x-is = ((tt, tt), refl)

assumed : (t : Term) → IsProp t → Concludes (Assume t) (record { hyps = one t; prop = t })
unfolding Concludes AreProps IsDistinctTerms among
assumed t h = (refl, record { hyps = (h, tt); distinct = (refl, tt); prop = h })

abbrev there : Term
there = equal (any_x i) y

abbrev back_again : Term
back_again = equal y (any_x i)

abbrev round : Derivation
round = eq_trans (Assume there) (Assume back_again)

there-is : IsProp there
there-is = eq-is i (any_x i) y any_x-is y-is

back_again-is : IsProp back_again
back_again-is = eq-is i y (any_x i) y-is any_x-is

by-round : Concludes round (record { hyps = tm_cons there (one back_again); prop = equal (any_x i) (any_x i) })
unfolding Concludes AreProps IsDistinctTerms union added snoc among same_term same_terms same_typ same_typs dom
by-round =
    let both : IsSequent (record { hyps = tm_cons there (one back_again); prop = equal (any_x i) (any_x i) }) = record { hyps = (there-is, (back_again-is, tt)); distinct = (refl, (refl, tt)); prop = eq-is i (any_x i) (any_x i) any_x-is any_x-is } in
    (record { hyps = one there; prop = there }, (record { hyps = one back_again; prop = back_again }, (assumed there there-is, assumed back_again back_again-is, ((refl, refl), (refl, both)))))

hyps-once : Concludes (inst x_is_y round) (record { hyps = one (equal y y); prop = equal y y })
unfolding Concludes AreProps IsDistinctTerms IsDistinct AreTyped changes_any changes changes_typ changes_typs retype retype_all map_typ map_typs put_values inst_all union added snoc among same_term same_terms same_typ same_typs happ
hyps-once =
    let same = eq-is i y y y-is y-is in (
      record { hyps = tm_cons there (one back_again); prop = equal (any_x i) (any_x i) },
      (by-round, ((tt, (tt, tt), tt, (tt, tt)), ((tt, (y-is, tt)), refl), (refl, record { hyps = (same, tt); distinct = (refl, tt); prop = same }))),
    )

-- an instance replaces x of type i, and no x of another type; it replaces a type in a binder
abbrev y_for_x : Instance
y_for_x = record { fixed = []; types = []; frees = ((name 120, i), y) ∷ []; schematics = [] }

is-there : changes_any y_for_x (one (equal x y)) ≡ true
unfolding changes_any changes changes_typ changes_typs same_typ same_typs
is-there = refl

is-other : changes_any y_for_x (one (eq prop (free (name 120) prop) a)) ≡ false
unfolding changes_any changes changes_typ changes_typs same_typ same_typs
is-other = refl

is-in-a-type : changes_any x_is_y (one (all (Variable (name 116)) (lam (Variable (name 116)) a))) ≡ true
unfolding changes_any changes changes_typ changes_typs same_typ same_typs
is-in-a-type = refl
