use Rattle.std.proofs.Common.{◌∷◌, arith}
use Rattle.iv_grammar.specs.declared.type_nodes.Awaiting.TheVariants as awaiting
use Rattle.iv_grammar.specs.declared.type_nodes.Place.TheVariants as place
use Rattle.iv_grammar.specs.declared.cutting.Token.TheVariants as token
use Rattle.iv_grammar.specs.declared.sign.Sign.TheVariants as sign
use Rattle.iv_grammar.proofs.TypeNodes.{open_step, stuck_by}
use Rattle.iv_grammar.proofs.TypeSteps.{no_sign}
use Rattle.iv_grammar.proofs.TypeStack.{begins_round, begins_square}
use Rattle.iv_grammar.proofs.type_steps.begun_sign.Goals as goal

pub returns-in_ok-open-in-Open-clause-ok : goal.returns-in_ok-open-in-Open-clause-ok
returns-in_ok-open-in-Open-clause-ok c = λ ns left h.
    rw (c.in_ok-open-in-Open.ensures.ok, c.in_ok-open-in-Open.ensures.place, c.in-Open.is)
    (open_step ns c.args.frames.now.items awaiting.Round place.Begin (token.Sign sign.Open ∷ left) left tt (λ n b. begins_round n left b) (omega arith) h)

pub returns-in_ok-open-in-OpenTypes-clause-ok : goal.returns-in_ok-open-in-OpenTypes-clause-ok
returns-in_ok-open-in-OpenTypes-clause-ok c = λ ns left h.
    rw (c.in_ok-open-in-OpenTypes.ensures.ok, c.in_ok-open-in-OpenTypes.ensures.place, c.in-OpenTypes.is)
    (open_step ns c.args.frames.now.items awaiting.Square place.Begin (token.Sign sign.OpenTypes ∷ left) left tt (λ n b. begins_square n left b) (omega arith) h)

pub returns-in_default : goal.returns-in_default
returns-in_default c = record {
  ok = tt;
  stuck = λ e ns left h. stuck_by ns c.args.frames.now.items place.Begin (token.Sign c.args.sign ∷ left) (no_sign c.args.sign left c.in_default.not-Open c.in_default.not-OpenTypes);
}
