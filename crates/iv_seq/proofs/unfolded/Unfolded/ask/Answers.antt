use Rattle.std.proofs.Common.{refl, sym}
use Rattle.iv_seq.proofs.Theory.{within-trans}
use Rattle.iv_seq.proofs.Unfoldings.{ask_ended, ask_failed, ask_done, ask_on, turns_ended, turns_done, turns_on, led_pushed, more_pushed, taken_on, ends_in}
use Rattle.iv_seq.proofs.unfolded.Unfolded.ask.Goals as goal

pub invariant_of-self : goal.invariant_of-self
invariant_of-self g c = record {
  goes_on = c.args.self.now.goes_on;
  item_taken = c.args.self.now.item_taken;
  led = led_pushed g.S.LazySeq.fits (g.F.Follow.leads c.args.self.now.function) _ _ _ c.put.ensures c.args.self.now.led
      (within-trans _ _ _ c.pull.ensures.fitting.narrows c.requires.led);
  bounded = more_pushed _ _ _ _ c.put.ensures c.requires.left;
}

pub invariant_of-self-in-On : goal.invariant_of-self-in-On
invariant_of-self-in-On g c =
    let f = rw c.in-Ok-Some.field-0-is at c.in-Ok-Some.ensures.fitting in
    record {
      goes_on = c.args.self.now.goes_on;
      item_taken = taken_on (g.F.Follow.takes c.args.self.now.function) _
          (c.args.self.now.goes_on _ _ (sym c.in-On.ensures.becomes) (c.requires.led _ f.item));
      led = led_pushed g.S.LazySeq.fits (g.F.Follow.leads c.args.self.now.function) _ _ _ c.put.ensures c.args.self.now.led
          (within-trans _ _ _ c.pull.ensures.fitting.narrows c.requires.led);
      bounded = more_pushed _ _ _ _ c.put.ensures c.requires.left;
    }

pub invariant_of-self-in-Err : goal.invariant_of-self-in-Err
invariant_of-self-in-Err g c = record {
  goes_on = c.args.self.now.goes_on;
  item_taken = c.args.self.now.item_taken;
  led = led_pushed g.S.LazySeq.fits (g.F.Follow.leads c.args.self.now.function) _ _ _ c.put-in-Err.ensures c.args.self.now.led
      (within-trans _ _ _ c.pull.ensures.fitting.narrows c.requires.led);
  bounded = more_pushed _ _ _ _ c.put-in-Err.ensures c.requires.left;
}

pub returns-in-Ok-None-clause-turned : goal.returns-in-Ok-None-clause-turned
returns-in-Ok-None-clause-turned g c =
    ask_ended g.S.LazySeq.search g.N.On.Seen.seen g.N.Outcome.shows (g.F.Follow.means c.args.self.now.function) c.args.self.now.limit
    _ _ _ _ _ _ c.requires.none c.requires.left (rw c.in-Ok-None.field-0-is at c.in-Ok-None.ensures.pulled)

pub returns-in-Ok-None-clause-fewer : goal.returns-in-Ok-None-clause-fewer
returns-in-Ok-None-clause-fewer g c =
    turns_ended g.S.LazySeq.search g.N.On.Seen.seen g.N.Outcome.shows (g.F.Follow.means c.args.self.now.function) c.args.self.now.limit
    _ _ _ _ _ _ c.requires.none c.requires.left (rw c.in-Ok-None.field-0-is at c.in-Ok-None.ensures.pulled)

pub returns-in-Done-clause-turned : goal.returns-in-Done-clause-turned
returns-in-Done-clause-turned g c =
    ask_done g.S.LazySeq.search g.N.On.Seen.seen g.N.Outcome.shows (g.F.Follow.means c.args.self.now.function) c.args.self.now.limit
    _ _ _ _ _ _ _ _ _ c.requires.none c.put.ensures c.requires.left c.in-Done.ensures.shows (rw c.in-Ok-Some.field-0-is at c.in-Ok-Some.ensures.pulled)

pub returns-in-Done-clause-fitting : goal.returns-in-Done-clause-fitting
returns-in-Done-clause-fitting g c =
    let f = rw c.in-Ok-Some.field-0-is at c.in-Ok-Some.ensures.fitting in
    ends_in g.N.Outcome.becomes _ (g.F.Follow.leads c.args.self.now.function) _ _ (sym c.in-Done.ensures.becomes) c.requires.led f.item

pub returns-in-Done-clause-fewer : goal.returns-in-Done-clause-fewer
returns-in-Done-clause-fewer g c =
    turns_done g.S.LazySeq.search g.N.On.Seen.seen g.N.Outcome.shows (g.F.Follow.means c.args.self.now.function) c.args.self.now.limit
    _ _ _ _ _ _ _ _ c.requires.none c.put.ensures c.requires.left (rw c.in-Ok-Some.field-0-is at c.in-Ok-Some.ensures.pulled)

pub returns-in-On-clause-turned : goal.returns-in-On-clause-turned
returns-in-On-clause-turned g c =
    ask_on g.S.LazySeq.search g.N.On.Seen.seen g.N.Outcome.shows (g.F.Follow.means c.args.self.now.function) c.args.self.now.limit
    _ _ _ _ _ _ _ _ _ refl c.put.ensures c.requires.left c.in-On.ensures.shows (rw c.in-Ok-Some.field-0-is at c.in-Ok-Some.ensures.pulled)

pub returns-in-On-clause-fewer : goal.returns-in-On-clause-fewer
returns-in-On-clause-fewer g c =
    turns_on g.S.LazySeq.search g.N.On.Seen.seen g.N.Outcome.shows (g.F.Follow.means c.args.self.now.function) c.args.self.now.limit
    _ _ _ _ _ _ _ _ _ refl c.put.ensures c.requires.left c.in-On.ensures.shows (rw c.in-Ok-Some.field-0-is at c.in-Ok-Some.ensures.pulled)

pub returns-in-Err-clause-turned : goal.returns-in-Err-clause-turned
returns-in-Err-clause-turned g c =
    ask_failed g.S.LazySeq.search g.N.On.Seen.seen g.N.Outcome.shows (g.F.Follow.means c.args.self.now.function) c.args.self.now.limit
    _ _ _ _ _ _ _ _ c.requires.none c.put-in-Err.ensures c.requires.left c.in-Err.ensures.pulled
