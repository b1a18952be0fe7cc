use Rattle.std.proofs.Common.{◌∙◌, ap, sym, rules, nat_eq}
use Rattle.indexmap.specs.IndexMap.{get}
use Rattle.iv_grammar.specs.Chain.{begins}
use Rattle.iv_grammar.proofs.SymbolSteps.{pushed_index}
use Rattle.iv_grammar.proofs.symbols.Symbols.push.Goals as goal

pub invariant_of-self-in-Ok : goal.invariant_of-self-in-Ok
invariant_of-self-in-Ok c =
    pushed_index c.self.inside.entries.items c.push-in-Some.new.self.items (get nat_eq c.self.inside.latest) (get nat_eq c.insert.new.self)
    (record { text = c.args.text; sign = c.args.sign; before = c.latest_of-before.result }) c.in-Some.c c.len.result c.self.invariant
    (λ d. ap (begins d) (sym c.as_slice.ensures) ∙ c.in-Some.ensures d) c.latest_of-before.ensures (search (rules, c.len.ensures)) c.in-Ok.ensures.updates.0 c.in_ok-push-in-Some.ensures.items
