-- What several writers in a row append.
use Rattle.std.proofs.Common.{◌≡◌, ◌∙◌, List, [], ℕ, ◌++◌, codes, Bool, true, false, Result, OnOk, append_assoc, append-nil, ap, sym, refl}
use Rattle.iv_term.specs.declared.term.Head.{Head}
use Rattle.iv_term.specs.declared.term.Head.TheVariants.{Const, Free, Schematic, Bound}
use Rattle.iv_term.specs.declared.term.Term.{Term}
use Rattle.iv_term.specs.declared.term.Terms.{Terms}
use Rattle.iv_term.specs.declared.term.Terms.TheVariants.{Cons}
use Rattle.iv_term.specs.declared.term.Term.TheBlock.{Spine}
use Rattle.iv_term.specs.Term.{cons_is}
use Rattle.iv_run.specs.Report.{enclosed, is_constant, is_arrow, variable_text, prop_text, sides_text, conclusion_text}

-- where a text is to be written in parts: all is written if nothing is left of it
pub nothing_left : (now all text : List ℕ) → text ≡ [] → now ++ text ≡ all → now ≡ all
nothing_left now all text none so_far = sym (append-nil now) ∙ sym (ap (λ t. now ++ t) none) ∙ so_far

-- its second part is left behind the first
pub part_left : (now new all x y text : List ℕ) → text ≡ x ++ y → new ≡ now ++ x → now ++ text ≡ all → new ++ y ≡ all
part_left now new all x y text parts more so_far = rw (more, append_assoc, ← parts) so_far

-- it is all one variable
pub variable_left : {A E : Type 0} (r : Result A E) (now new all text whole : List ℕ) → whole ≡ text → OnOk r (new ≡ now ++ text) → now ++ whole ≡ all → OnOk r (new ≡ all)
variable_left r now new all text whole is ok so_far = rw (← so_far, is) ok

-- a variable
pub variable_is : (p : Term) (h : Head) (ts : Terms) (b : Bool) → p ≡ Spine h ts → b ≡ is_constant h → b ≡ false → prop_text p ≡ variable_text h
unfolding prop_text
variable_is p (Const c a) ts b is same test = cc
variable_is p (Free x a) ts b is same test = ap prop_text is
variable_is p (Schematic x a) ts b is same test = ap prop_text is
variable_is p (Bound i) ts b is same test = ap prop_text is

-- an implication
pub arrow_is : (p : Term) (h : Head) (ts : Terms) (b : Bool) → p ≡ Spine h ts → b ≡ is_constant h → b ≡ true → prop_text p ≡ sides_text ts
unfolding prop_text
arrow_is p (Const c a) ts b is same test = ap prop_text is
arrow_is p (Free x a) ts b is same test = cc
arrow_is p (Schematic x a) ts b is same test = cc
arrow_is p (Bound i) ts b is same test = cc

-- its sides
pub sides_are : (ts us rest : Terms) (p q : Term) → ts ≡ Cons p rest → q ≡ p → us ≡ rest → sides_text ts ≡ enclosed (is_arrow q) (prop_text q) ++ conclusion_text us
unfolding sides_text
sides_are ts us rest p q is first behind = rw (is, first, behind, cons_is) refl

-- its conclusion
pub conclusion_is : (us rest : Terms) (p q : Term) → us ≡ Cons p rest → q ≡ p → conclusion_text us ≡ codes " ==> " ++ prop_text q
unfolding conclusion_text
conclusion_is us rest p q is last = rw (is, last, cons_is) refl
