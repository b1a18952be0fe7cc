use Rattle.std.proofs.Common.{◌-◌, arith}
use Rattle.iv_rules.specs.Rules.{Proved, axioms_of}
use Rattle.iv_kernel.proofs.Results.{known}
use Rattle.iv_kernel.proofs.Orders.{in-union, goal-implies, goal-rest, goal-claim, each-first}
use Rattle.iv_kernel.proofs.rotate.+opened.Goals as goal

pub returns-then-count-eq0-clause-prop : goal.returns-then-count-eq0-clause-prop
returns-then-count-eq0-clause-prop t c = goal-claim _ _ _ (omega arith) c.requires

pub first_assumed-requires : goal.first_assumed-requires
first_assumed-requires t c = goal-implies c.args.count (c.args.count - 1) _ _ (omega arith) c.requires

pub opened-requires : goal.opened-requires
opened-requires t c = (omega arith, rw c.in_ok-next.ensures.prop (goal-rest c.args.count (c.args.count - 1) _ _ (omega arith) c.requires))

pub returns-clause-hyps : goal.returns-clause-hyps
returns-clause-hyps t c =
    λ ts h k.
    let both = each-first _ c.args.count (c.args.count - 1) _ (omega arith) k in
    c.opened.ensures.hyps ts (rw c.in_ok-next.ensures.hyps (in-union _ _ ts h (both.0, tt))) (rw c.in_ok-next.ensures.prop both.1)

pub returns-clause-axioms : goal.returns-clause-axioms
returns-clause-axioms t c =
    known {T = Proved} _ (λ z. axioms_of z.derivation) _ _ c.opened.ensures.axioms c.in_ok-next.ensures.axioms
