use Rattle.std.proofs.Common.{rules, Err, ap}
use Rattle.iv_seq.proofs.Theory.{handed_on}
use Rattle.iv_seq.proofs.Unfoldings.{turn_failed, turn_over, led_popped, led_last, fewer_popped}
use Rattle.iv_seq.proofs.unfolded.Unfolded.turn.Goals as goal

pub returns-in_err-start-clause-turned : goal.returns-in_err-start-clause-turned
returns-in_err-start-clause-turned g c =
    rw (handed_on _ _ c.from_residual.ensures.1)
    (turn_failed _ _ _ _ c.in_err-start.ensures.search (λ k. c.in_err-start.ensures.number (ap (λ y. Err y) k)))

pub invariant_of-self : goal.invariant_of-self
invariant_of-self g c = record {
  goes_on = c.start.new.self.goes_on;
  item_taken = c.start.new.self.item_taken;
  led = led_popped g.S.LazySeq.fits (g.F.Follow.leads c.start.new.self.function) _ _ _ c.pop.ensures.items c.start.new.self.led;
  bounded = fewer_popped _ _ _ _ c.pop.ensures.items c.start.new.self.bounded;
}

pub ask-requires-clause-led : goal.ask-requires-clause-led
ask-requires-clause-led g c = led_last g.S.LazySeq.fits (g.F.Follow.leads c.start.new.self.function) _ _ _ c.in-Some.ensures.items c.start.new.self.led

pub returns-in-None-clause-turned : goal.returns-in-None-clause-turned
returns-in-None-clause-turned g c =
    turn_over g.S.LazySeq.search g.N.On.Seen.seen g.N.Outcome.shows (g.F.Follow.means c.start.new.self.function) c.start.new.self.limit
    _ _ _ _ _ c.in_ok-start.ensures.search c.in_ok-start.ensures.none (search rules) (search rules)
