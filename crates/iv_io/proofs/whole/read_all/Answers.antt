use Rattle.std.proofs.Common.{◌≡◌, ℕ, List, ◌+◌, ◌++◌, Some, length, take, arith, Ok, ap, ◌∙◌, length-drop, length-append}
use Rattle.std.proofs.lemmas.List.{drop-drop, length-take-le}
use Rattle.std.proofs.lemmas.Grind.{common_steps}
use Rattle.iv_io.proofs.Parts.{whole_read, next_read, next_left, next_within}
use Rattle.iv_io.proofs.whole.read_all.Goals as goal

pub returns-then-count-eq0-clause-whole : goal.returns-then-count-eq0-clause-whole
returns-then-count-eq0-clause-whole g c = λ b h. let t = c.reads.invariant.told b h in
    let was : c.read.result ≡ Ok 0 = rw (c.if-count-eq0.true) at c.in_ok-count.was in
    whole_read b _ t.0 (c.read.ensures.end c.reads.invariant.room was _ t.2)

pub returns-then-count-eq0-clause-at_end : goal.returns-then-count-eq0-clause-at_end
returns-then-count-eq0-clause-at_end g c = λ b h. let t = c.reads.invariant.told b h in
    let was : c.read.result ≡ Ok 0 = rw (c.if-count-eq0.true) at c.in_ok-count.was in
    let none = c.read.ensures.end c.reads.invariant.room was _ t.2 in
    let k = c.in_ok-count.ensures.given _ t.2 in
    grind (arith, common_steps, k.2, none)

pub returns-then-count-limit-clause-too_large_told :
    goal.returns-then-count-limit-clause-too_large_told
returns-then-count-limit-clause-too_large_told g c = λ e b h. let t = c.reads.invariant.told b h in
    let k = c.in_ok-count.ensures.given _ t.2 in
    omega (arith, k.1, length-drop (length c.reads.bytes.items) b)

pub returns-then-count-limit-clause-advanced : goal.returns-then-count-limit-clause-advanced
returns-then-count-limit-clause-advanced g c = λ b h. let t = c.reads.invariant.told b h in
    let k = c.in_ok-count.ensures.given _ t.2 in (
      length c.reads.bytes.items + c.in_ok-count.count,
      omega (arith, k.1, length-drop (length c.reads.bytes.items) b),
      rw drop-drop at k.2,
      omega (arith, c.in_ok-count.ensures.taken_ok),
    )

pub reads-preserved : goal.reads-preserved
reads-preserved g c =
    let next : List ℕ = take c.in_ok-count.count c.read.new.into in
    let items : c.extend_from_slice.new.self.items ≡ c.reads.bytes.items ++ next = c.in_ok-extend_from_slice.ensures.items in
    let part : length next ≡ c.in_ok-count.count = length-take-le _ _ (omega (arith, c.in_ok-count.ensures.within)) in
    let both : length (c.reads.bytes.items ++ next) ≡ length c.reads.bytes.items + c.in_ok-count.count
    = omega (arith, length-append c.reads.bytes.items next, part) in
    record {
      room = omega arith;
      within = rw items (omega (arith, both));
      faults = grind (arith, common_steps);
      grown = omega (arith, c.in_ok-count.ensures.taken_ok);
      taken = rw items (omega (arith, c.in_ok-count.ensures.taken_ok, both));
      told = λ b h. let t = c.reads.invariant.told b h in let k = c.in_ok-count.ensures.given _ t.2 in rw items (
        next_read b _ _ _ t.0 part k.0,
        next_within b _ _ _ t.1 part k.1,
        k.2 ∙ ap Some (next_left b c.reads.bytes.items _ _ part),
      );
    }

pub returns-in_err-extend_from_slice-clause-advanced :
    goal.returns-in_err-extend_from_slice-clause-advanced
returns-in_err-extend_from_slice-clause-advanced g c = λ b h. let t = c.reads.invariant.told b h in
    let k = c.in_ok-count.ensures.given _ t.2 in (
      length c.reads.bytes.items + c.in_ok-count.count,
      omega (arith, k.1, length-drop (length c.reads.bytes.items) b),
      rw drop-drop at k.2,
      omega (arith, c.in_ok-count.ensures.taken_ok),
    )
