-- The table's verdict on the classes, in words of the forms.
use Rattle.std.proofs.Common.{List, [], ◌∷◌, ◌∙◌, subst}
use Rattle.iv_recogniser.specs.declared.class.Class.{Class}
use Rattle.iv_recogniser.specs.declared.part.Part.TheVariants as P
use Rattle.iv_recogniser.specs.declared.part.Symbol.TheVariants.{Goes}
use Rattle.iv_recogniser.specs.Table.{forms}
use Rattle.iv_recogniser.specs.Spell.{Judged}
use Rattle.iv_forms.specs.Readable.{IsVerdict}
use Rattle.iv_forms.proofs.Verdicts.{verdict}
use Rattle.std.proofs.lemmas.Result.{IfOk-weaker}
use Rattle.iv_forms.proofs.judge.judge.Goals as goal

pub returns-clause-verdict : goal.returns-clause-verdict
returns-clause-verdict c =
    let ts = c.args.lexemes.now in
    IfOk-weaker c.read.result (λ v. Judged forms (Goes P.Command ∷ []) c.deref.result.now v) (λ v. IsVerdict ts v)
    (λ v d. verdict c.sets_are_their_members.ensures ts v (subst (λ (cs : List Class). Judged forms (Goes P.Command ∷ []) cs v) (c.deref.ensures.value ∙ c.in_ok-classes.ensures.ok) d))
    c.read.ensures.judged
