-- What a call's last answer says of its caller's.
use Rattle.std.proofs.Common.{◌≡◌, ℕ, List, Result, Ok, Err, IfOk, IfErr, sym, ap, ◌∙◌}
use Rattle.iv_text.specs.declared.want.Want.{Want}
use Rattle.iv_term.specs.declared.typ.Typ.TheBlock.{Nil as no_types}
use Rattle.iv_term.specs.declared.term.Term.{Term}
use Rattle.iv_term.specs.declared.term.Terms.{Terms}
use Rattle.iv_term.specs.declared.term.Term.TheBlock.{Nil}
use Rattle.iv_term.specs.Term.{tm_cons}
use Rattle.iv_hsub.specs.Open.{IsOpenTerm, AreOpenTerms}
use Rattle.iv_rules.specs.declared.derivation.Derivation.{Derivation}
use Rattle.iv_rules.specs.declared.derivation.Derivation.TheBlock.{Axiom}
use Rattle.iv_rules.specs.Sequent.{IsProp, AreProps}
use Rattle.iv_rules.specs.Rules.{Shows, Proved}

-- what is known of a result is known by another name
pub known : {T X : Type 0} (r : Result T Want) (f : T → X) (x y : X) → IfOk r (λ t. f t ≡ x) → x ≡ y → IfOk r (λ t. f t ≡ y)
known (Ok t) f x y h e = h ∙ e
known (Err w) f x y h e = tt

-- what three calls make is shown, where what is known of them is
pub shown-by : (r : Result Derivation Want) (s : Result Terms Want) (q : Result Term Want) (d : Derivation) (hs : Terms) (p : Term)
    → IfOk r (λ x. x ≡ d) → IfOk s (λ y. y ≡ hs) → IfOk q (λ z. z ≡ p) → Shows d hs p → IfOk r (λ x. IfOk s (λ y. IfOk q (λ z. Shows x y z)))
shown-by (Err w) s q d hs p e f g h = tt
shown-by (Ok x) (Err w) q d hs p e f g h = tt
shown-by (Ok x) (Ok y) (Err w) d hs p e f g h = tt
shown-by (Ok x) (Ok y) (Ok z) d hs p e f g h = rw (e, f, g) h

-- an axiom is the proposition of the theorem that is made of it
pub axiom-kept : (r : Result Proved Want) (n : List ℕ) (a : Term) → IfOk r (λ t. t.prop ≡ a) → IfOk r (λ t. t.derivation ≡ Axiom n a)
    → IfOk r (λ t. t.derivation ≡ Axiom n t.prop)
axiom-kept (Err w) n a e f = tt
axiom-kept (Ok t) n a e f = f ∙ ap (Axiom n) (sym e)

-- propositions without loose indices are terms under some types
pub open-prop : (t : Term) → IsProp t → IsOpenTerm t
open-prop t h = (no_types, h.0)

pub open-props : (ts : Terms) → AreProps ts → AreOpenTerms ts
unfolding AreProps
open-props Nil h = tt
open-props (tm_cons t ts) h = (open-prop t h.0, open-props ts h.1)
