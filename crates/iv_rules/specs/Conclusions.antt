-- What each rule concludes, of its arguments and of its premises p and q, which are H |- .. and K |- .. (Reference Manual,
-- primitive inferences; the selection is of this project).
use Rattle.iv_text.specs.declared.name.Name.{Name}
use Rattle.iv_term.specs.declared.typ.Typ.{Typ}
use Rattle.iv_term.specs.declared.typ.Typ.TheBlock.{Nil as no_types}
use Rattle.iv_term.specs.declared.term.Term.{Term}
use Rattle.iv_term.specs.Typ.{prop, fun}
use Rattle.iv_term.specs.Term.{imp, antecedent, consequent}
use Rattle.iv_term.specs.Hyps.{union, without}
use Rattle.iv_hsub.specs.Typing.{cod, type_of}
use Rattle.iv_hsub.specs.Abstract.{abstract_over}
use Rattle.iv_hsub.specs.Hhf.{one}
use Rattle.iv_rules.specs.declared.instance.Instance.{Instance}
use Rattle.iv_rules.specs.Equality.{eq, lhs, rhs, side_type, all, predicate, app}
use Rattle.iv_rules.specs.Instance.{instanced, instanced_hyps}
use Rattle.iv_rules.specs.Sequent.{Sequent, closed}

--   |- A
abbrev pub by_axiom : Term → Sequent
by_axiom a = closed a

--   A |- A
abbrev pub by_assume : Term → Sequent
by_assume a = record { hyps = one a; prop = a }

--   from H |- B: H without A |- A ==> B
abbrev pub by_imp_intr : Term → Sequent → Sequent
by_imp_intr a p = record { hyps = without a p.hyps; prop = imp a p.prop }

--   from H |- A ==> B and K |- A: H and K |- B
abbrev pub by_imp_elim : Sequent → Sequent → Sequent
by_imp_elim p q = record { hyps = union p.hyps q.hyps; prop = consequent p.prop }

--   from H |- B: H |- !!x. B, for x of type a
abbrev pub by_all_intr : Name → Typ → Sequent → Sequent
by_all_intr x a p = record { hyps = p.hyps; prop = all a (abstract_over x a p.prop) }

--   from H |- !!x. B: H |- B with v for x
abbrev pub by_all_elim : Term → Sequent → Sequent
by_all_elim v p = record { hyps = p.hyps; prop = app (fun (type_of no_types v) prop) (predicate p.prop) v }

--   |- v == v
abbrev pub by_refl : Term → Sequent
by_refl v = closed (eq (type_of no_types v) v v)

--   from H |- s == t: H |- t == s
abbrev pub by_sym : Sequent → Sequent
by_sym p = record { hyps = p.hyps; prop = eq (side_type p.prop) (rhs p.prop) (lhs p.prop) }

--   from H |- s == t and K |- t == u: H and K |- s == u
abbrev pub by_trans : Sequent → Sequent → Sequent
by_trans p q = record { hyps = union p.hyps q.hyps; prop = eq (side_type p.prop) (lhs p.prop) (rhs q.prop) }

--   from H |- f == g and K |- x == y: H and K |- f x == g y
abbrev pub by_comb : Sequent → Sequent → Sequent
by_comb p q = record {
  hyps = union p.hyps q.hyps;
  prop = eq (cod (side_type p.prop)) (app (side_type p.prop) (lhs p.prop) (lhs q.prop)) (app (side_type p.prop) (rhs p.prop) (rhs q.prop));
}

--   from H |- s == t: H |- (%x. s) == (%x. t), for x of type a
abbrev pub by_abs : Name → Typ → Sequent → Sequent
by_abs x a p = record { hyps = p.hyps; prop = eq (fun a (side_type p.prop)) (abstract_over x a (lhs p.prop)) (abstract_over x a (rhs p.prop)) }

--   from H |- A ==> B and K |- B ==> A: H and K |- A == B
abbrev pub by_eq_intr : Sequent → Sequent → Sequent
by_eq_intr p q = record { hyps = union p.hyps q.hyps; prop = eq prop (antecedent p.prop) (consequent p.prop) }

--   from H |- A == B and K |- A: H and K |- B
abbrev pub by_eq_elim : Sequent → Sequent → Sequent
by_eq_elim p q = record { hyps = union p.hyps q.hyps; prop = rhs p.prop }

--   from H |- A: H |- B
abbrev pub by_conv : Term → Sequent → Sequent
by_conv b p = record { hyps = p.hyps; prop = b }

--   from H |- A: both under s
abbrev pub by_inst : Instance → Sequent → Sequent
by_inst s p = record { hyps = instanced_hyps s p.hyps; prop = instanced s p.prop }
