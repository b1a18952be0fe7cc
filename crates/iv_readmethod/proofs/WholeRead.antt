-- A whole method is read, or the first part in it that is too deep is refused.
use Rattle.std.proofs.Common.{◌≡◌, ℕ, Bool, true, false, List, refl, arith}
use Rattle.std.specs.Prelude.{Option, Some, None, ◌||◌, nat_lt}
use Rattle.std.proofs.lemmas.Bool.Decides.{nat_tests}
use Rattle.iv_text.specs.declared.Pos.{Pos}
use Rattle.iv_recogniser.specs.declared.class.Class.TheVariants as class
use Rattle.iv_recogniser.specs.declared.class.Sort.TheVariants as sort
use Rattle.iv_recogniser.specs.Class.{has}
use Rattle.iv_forms.specs.declared.method.MethodText.{MethodText}
use Rattle.iv_forms.specs.declared.lexeme.Lexeme.{Lexeme}
use Rattle.iv_forms.specs.MethodForm.{IsMethod, method, core_name, core_dash, core_paren, IsOptMethod, no_method, a_method}
use Rattle.iv_readmethod.specs.declared.levelled.Levelled.{Levelled}
use Rattle.iv_facts.specs.Found.{Found, got, then_, begins, unless_deep}
use Rattle.iv_facts.specs.FactLevels.{limit, first_of, deep_at}
use Rattle.iv_readmethod.specs.Methods as M
use Rattle.iv_readmethod.specs.MethodLevels.{deep_method, deep_opt_method}
use Rattle.iv_readmethod.proofs.Readings.{Reads, fits, exceeds}
use Rattle.iv_readmethod.proofs.NestedRead.{method_read}
use Rattle.iv_readmethod.specs.Laws.{Below}

settled_by : {v : MethodText} (us : List Lexeme) (o : Option Pos) (y : Levelled MethodText) → y.deep ≡ o → (o ≡ None → y.value ≡ v) → unless_deep y.deep y.value us ≡ unless_deep o v us
settled_by us None y d h = rw (d, h refl) refl
settled_by us (Some p) y d h = rw d refl

settle : {v : MethodText} {us : List Lexeme} {n : ℕ} {o : Option Pos} {f : Found (Levelled MethodText)} (ts : List Lexeme) → Reads limit n n o v us f → M.settled ts f ≡ unless_deep (first_of (deep_at ts n) o) v us
unfolding M.settled
settle {us = us} {n = n} {o = o} ts (fits y b h e) =
    let t : nat_lt limit n ≡ false = grind (arith, nat_tests) in
    rw (e, t) (settled_by us o y h.deep h.value)
settle {n = n} ts (exceeds b p e) =
    let t : nat_lt limit n ≡ true = grind (arith, nat_tests) in
    rw (e, t) refl

then_some : (v : MethodText) (us : List Lexeme) (o : Option Pos) {f : Found MethodText} → f ≡ unless_deep o v us → then_ f (λ m us. got (Some m) us) ≡ unless_deep o (Some v) us
unfolding then_
then_some v us None e = rw e refl
then_some v us (Some p) e = rw e refl

or_last : (a : Bool) {b : Bool} → b ≡ true → (a || b) ≡ true
or_last true e = refl
or_last false e = e

begins_method : {v : MethodText} {ts us : List Lexeme} → IsMethod v ts us → (begins sort.Name ts || (begins (sort.Only class.Minus) ts || begins (sort.Only class.Open) ts)) ≡ true
begins_method (method (core_name h) s) = rw h refl
begins_method (method (core_dash {d = t} h) s) = or_last (has sort.Name t.class) (rw h refl)
begins_method (method (core_paren {a = t} a m b) s) = or_last (has sort.Name t.class) (or_last (has (sort.Only class.Minus) t.class) a)

module _ (law : Below) where
  pub a_method_read : {v : MethodText} {ts us : List Lexeme} (d : IsMethod v ts us) → begins (sort.Only class.Question) us ≡ false → begins (sort.Only class.Plus) us ≡ false → begins (sort.Only class.Left) us ≡ false → M.a_method ts ≡ unless_deep (deep_method d) v us
  unfolding M.a_method
  a_method_read {ts = ts} d q p l = settle ts (method_read law d q p l limit)

  pub opt_method_read : {v : Option MethodText} {ts us : List Lexeme} (d : IsOptMethod v ts us) → begins sort.Name us ≡ false → begins (sort.Only class.Minus) us ≡ false → begins (sort.Only class.Open) us ≡ false
      → begins (sort.Only class.Question) us ≡ false → begins (sort.Only class.Plus) us ≡ false → begins (sort.Only class.Left) us ≡ false → M.opt_method ts ≡ unless_deep (deep_opt_method d) v us
  unfolding M.opt_method
  opt_method_read no_method n m o q p l = rw (n, m, o) refl
  opt_method_read {us = us} (a_method {m = v} d) n m o q p l = rw (begins_method d) (then_some v us (deep_method d) (a_method_read d q p l))
