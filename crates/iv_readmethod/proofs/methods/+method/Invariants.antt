use Rattle.std.proofs.Common.{◌≡◌, ◌+◌, ◌*◌, drop}
use Rattle.iv_recogniser.specs.declared.class.Class.TheVariants as class
use Rattle.iv_recogniser.specs.declared.class.Sort.TheVariants as sort
use Rattle.iv_facts.specs.Found.{got, begins, behind}
use Rattle.iv_readmethod.specs.Methods.{joins, more, both, joined, between, raised, goes_arg, arg, args, case, more_cases, linked, operand, inside}
use Rattle.iv_readmethod.proofs.Joins.{rank}
use Rattle.iv_readmethod.proofs.methods.+method.Given as goal

abbrev pub decreases-inside : goal.decreases-inside
decreases-inside l = l.left * 20

abbrev pub decreases-parens : goal.decreases-parens
decreases-parens l = l.left * 20 + 1

abbrev pub decreases-case_method : goal.decreases-case_method
decreases-case_method l = l.left * 20 + 1

abbrev pub decreases-case_names : goal.decreases-case_names
decreases-case_names l = l.left * 20 + 2

abbrev pub decreases-case : goal.decreases-case
decreases-case l = l.left * 20 + 3

abbrev pub decreases-core : goal.decreases-core
decreases-core l = l.left * 20 + 2

abbrev pub decreases-arg : goal.decreases-arg
decreases-arg l = l.left * 20 + 2

abbrev pub decreases-more_cases : goal.decreases-more_cases
decreases-more_cases l = l.left * 20 + 4

abbrev pub decreases-cases : goal.decreases-cases
decreases-cases l = l.left * 20 + 5

abbrev pub decreases-method : goal.decreases-method
decreases-method l = l.left * 20 + 3

abbrev pub decreases-args : goal.decreases-args
decreases-args l = l.left * 20 + 3

abbrev pub decreases-call : goal.decreases-call
decreases-call l = l.left * 20 + 4

abbrev pub decreases-match_ : goal.decreases-match_
decreases-match_ l = l.left * 20 + 6

abbrev pub decreases-item : goal.decreases-item
decreases-item l = l.left * 20 + 7

abbrev pub decreases-operand : goal.decreases-operand
decreases-operand l = l.left * 20 + (8 + 3 * rank l.join)

abbrev pub decreases-with_next : goal.decreases-with_next
decreases-with_next l = l.left * 20 + (9 + 3 * rank l.join)

abbrev pub decreases-linked : goal.decreases-linked
decreases-linked l = l.left * 20 + (10 + 3 * rank l.join)

abbrev pub invariant-args-loop-step : goal.invariant-args-loop-step
invariant-args-loop-step l =
    args (inside l.fn.left) l.fn.left l.fn.tokens ≡ joins goes_arg (arg (inside l.fn.left) l.fn.left) (λ xs x us. got (more xs x) us) l.found (drop l._step-index l.tokens) l.rest

abbrev pub invariant-more_cases-loop-step : goal.invariant-more_cases-loop-step
invariant-more_cases-loop-step l =
    more_cases (inside l.fn.left) l.fn.left l.fn.cases l.fn.tokens
    ≡ joins (begins (sort.Only class.CaseBar)) (λ us. case (inside l.fn.left) l.fn.left (behind us)) (λ xs x us. got (more xs x) us) l.cases (drop l._step-index l.tokens) l.rest

abbrev pub invariant-linked-loop-step : goal.invariant-linked-loop-step
invariant-linked-loop-step l =
    linked l.fn.left l.fn.join (operand (inside l.fn.left) l.fn.left l.fn.join) l.fn.tokens
    ≡ joins (begins (sort.Only (between l.fn.join))) (λ us. operand (inside l.fn.left) l.fn.left l.fn.join (behind us)) (λ m n us. raised l.fn.left (both (joined l.fn.join) m n) us) l.found (drop l._step-index l.tokens) l.rest
