use Rattle.std.proofs.Common.{◌≡◌, ◌∙◌, sym}
use Rattle.std.specs.Prelude.{true, false}
use Rattle.iv_grammar.specs.Word.{is_blank}
use Rattle.iv_grammar.specs.Measure.{first_is}
use Rattle.iv_grammar.proofs.CutSteps.{first_at, blank_pushed, token_pushed}
use Rattle.iv_grammar.proofs.cutting.cut_one.Goals as goal

pub returns-then-is_blank-clause-pushed : goal.returns-then-is_blank-clause-pushed
returns-then-is_blank-clause-pushed c =
    let b : first_is is_blank c.args.chars.now ≡ true = first_at c.args.chars.now c.index-chars-0.result _ true c.requires c.index-chars-0.is (sym c.is_blank.ensures ∙ c.if-is_blank.true) in
    blank_pushed c.args.symbols.now c.args.chars.now c.args.found.now.items b

pub returns-in_ok-push-in-Sign-clause-pushed : goal.returns-in_ok-push-in-Sign-clause-pushed
returns-in_ok-push-in-Sign-clause-pushed c =
    let b : first_is is_blank c.args.chars.now ≡ false = first_at c.args.chars.now c.index-chars-0.result _ false c.requires c.index-chars-0.is (sym c.is_blank.ensures ∙ c.if-is_blank.false) in
    token_pushed c.args.symbols.now c.args.chars.now c.in-Sign.count _ c.args.found.now.items c.push.new.found.items b c.in-Sign.ensures c.in_ok-push-in-Sign.ensures.ok

pub returns-in_ok-push_word-in-Word-clause-pushed : goal.returns-in_ok-push_word-in-Word-clause-pushed
returns-in_ok-push_word-in-Word-clause-pushed c =
    let b : first_is is_blank c.args.chars.now ≡ false = first_at c.args.chars.now c.index-chars-0.result _ false c.requires c.index-chars-0.is (sym c.is_blank.ensures ∙ c.if-is_blank.false) in
    token_pushed c.args.symbols.now c.args.chars.now c.in-Word.count _ c.args.found.now.items c.push_word.new.found.items b c.in-Word.ensures (rw c.first_items.ensures at c.in_ok-push_word-in-Word.ensures.ok)
