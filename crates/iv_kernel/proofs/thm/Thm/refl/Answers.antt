use Rattle.std.proofs.Common.{Ok, refl}
use Rattle.iv_term.specs.declared.term.Term.TheBlock.{Nil}
use Rattle.iv_kernel.proofs.Results.{shown-by}
use Rattle.iv_kernel.proofs.thm.Thm.refl.Goals as goal

pub by-requires : goal.by-requires
by-requires c =
    shown-by _ (Ok Nil) _ _ _ _ c.refl-rule.ensures.ok refl c.reflexive-prop.ensures.ok (c.equations_are_shown.ensures.refl _ c.requires)

pub returns-clause-prop : goal.returns-clause-prop
returns-clause-prop c = c.by.ensures.prop _ c.reflexive-prop.ensures.ok
