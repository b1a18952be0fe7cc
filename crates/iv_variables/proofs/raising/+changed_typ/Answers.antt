use Rattle.std.proofs.Common.{refl, ap, ◌∙◌}
use Rattle.iv_term.specs.Typ.{cons_is}
use Rattle.iv_variables.specs.Variables.{typ_variables, types_variables}
use Rattle.iv_variables.specs.Firsts.{next_number}
use Rattle.iv_variables.specs.Raised.{raised_typ, raised_typs}
use Rattle.iv_variables.proofs.Changed.{exit, lacks, of_first, of_second, at_only, con-changed, types-changed}
use Rattle.iv_variables.proofs.raising.+changed_typ.Goals as goal

pub changed_typ-returns-in_err-args-in-Con-clause-number : goal.changed_typ-returns-in_err-args-in-Con-clause-number
unfolding raised_typ typ_variables
changed_typ-returns-in_err-args-in-Con-clause-number t c = rw c.in-Con.is (exit c.from_residual.result _ _ c.from_residual.ensures.1 c.in_err-args-in-Con.ensures.number)

pub changed_typ-returns-in_ok-args-in-Con-clause-ok : goal.changed_typ-returns-in_ok-args-in-Con-clause-ok
unfolding raised_typ
changed_typ-returns-in_ok-args-in-Con-clause-ok t c = rw c.in-Con.is (con-changed _ _ c.in_ok-args-in-Con.args _ _ c.with_args.ensures.ok c.in_ok-args-in-Con.ensures.ok)

pub changed_typ-returns-in-Fixed-clause-ok : goal.changed_typ-returns-in-Fixed-clause-ok
unfolding raised_typ
changed_typ-returns-in-Fixed-clause-ok t c = rw c.in-Fixed.is refl

pub changed_typ-returns-in_err-name-in-Schematic-clause-number : goal.changed_typ-returns-in_err-name-in-Schematic-clause-number
unfolding raised_typ typ_variables next_number
changed_typ-returns-in_err-name-in-Schematic-clause-number t c =
    rw c.in-Schematic.is
    (exit c.from_residual-in_err-name-in-Schematic.result _ _ c.from_residual-in_err-name-in-Schematic.ensures.1 (λ q. at_only _ _ (c.in_err-name-in-Schematic.ensures.number q)))

pub changed_typ-returns-in_ok-name-in-Schematic-clause-ok : goal.changed_typ-returns-in_ok-name-in-Schematic-clause-ok
unfolding raised_typ
changed_typ-returns-in_ok-name-in-Schematic-clause-ok t c = rw (c.in-Schematic.is, c.in_ok-name-in-Schematic.ensures.ok) refl

pub changed_types-returns-in_err-first-in-Cons-clause-number : goal.changed_types-returns-in_err-first-in-Cons-clause-number
unfolding raised_typs types_variables
changed_types-returns-in_err-first-in-Cons-clause-number t c =
    rw (c.in-Cons.is, cons_is, ← c.get.ensures)
    (exit c.from_residual.result _ _ c.from_residual.ensures.1 (λ q. of_first 4294967295 _ _ (c.in_err-first-in-Cons.ensures.number q)))

pub changed_types-returns-in_err-more-in-Cons-clause-number : goal.changed_types-returns-in_err-more-in-Cons-clause-number
unfolding raised_typs types_variables
changed_types-returns-in_err-more-in-Cons-clause-number t c =
    rw (c.in-Cons.is, cons_is, ← c.get-in-Cons.ensures)
    (exit c.from_residual-in_err-more-in-Cons.result _ _ c.from_residual-in_err-more-in-Cons.ensures.1 (λ q. of_second 4294967295 _ _ (c.in_err-more-in-Cons.ensures.number q)))

pub changed_types-returns-in-Nil-clause-ok : goal.changed_types-returns-in-Nil-clause-ok
unfolding raised_typs
changed_types-returns-in-Nil-clause-ok t c = rw c.in-Nil.is refl

pub changed_types-returns-in_ok-more-in-Cons-clause-ok : goal.changed_types-returns-in_ok-more-in-Cons-clause-ok
unfolding raised_typs
changed_types-returns-in_ok-more-in-Cons-clause-ok t c =
    let first = rw c.get.ensures at c.in_ok-first-in-Cons.ensures.ok in
    let more = rw c.get-in-Cons.ensures at c.in_ok-more-in-Cons.ensures.ok in
    rw (c.in-Cons.is, cons_is) (types-changed _ c.in_ok-first-in-Cons.first c.in_ok-more-in-Cons.more _ _ _ _ c.with_parts.ensures.ok first more)
