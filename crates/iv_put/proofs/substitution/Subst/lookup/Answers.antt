use Rattle.std.proofs.Common.{sym, ◌∙◌, ap}
use Rattle.std.specs.Option.{option_copied}
use Rattle.iv_put.proofs.Facts.Values.{value-none, value-some}
use Rattle.iv_put.proofs.substitution.Subst.lookup.Goals as goal

pub returns-in-None : goal.returns-in-None
returns-in-None c =
    let found = sym c.get.ensures ∙ ap option_copied c.in-None.is in
    rw (← c.self.view_is) (value-none c.self.inside.entries c.args.name.now found)

pub returns-in-Some : goal.returns-in-Some
returns-in-Some c =
    let found = sym c.get.ensures ∙ ap option_copied c.in-Some.is in
    rw (← c.self.view_is) (value-some c.self.inside.entries c.args.name.now _ c.self.invariant found)
