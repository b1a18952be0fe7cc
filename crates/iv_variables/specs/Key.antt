-- Variables as keys of a hash map (of this project).
use Rattle.std.specs.Prelude.{◌≡◌, Bool, true, false, refl}
use Rattle.std.specs.Cmp.{IsEquivalence}
use Rattle.std.specs.Hash.{HashWrites, slice, char}
use Rattle.std.proofs.Common.{sym, ◌∙◌, ap}
use Rattle.iv_text.specs.Name.{name_input}
use Rattle.iv_variables.specs.declared.variable.Variable.{Variable}
use Rattle.iv_variables.specs.declared.variable.Variable.TheVariants.{FixedType, SchematicType, Free, Schematic}
use Rattle.iv_variables.specs.Variables.{same_variable}
use Rattle.iv_variables.specs.Same.{variable-true, variable-same}

-- what a hash is made of: the name alone
abbrev pub variable_input : Variable → HashWrites
variable_input (FixedType a) = slice char a
variable_input (SchematicType x) = name_input x
variable_input (Free x a) = name_input x
variable_input (Schematic x a) = name_input x

-- sameness is an equivalence, and variables that are the same have one hash
other_way : (v w : Variable) (b c : Bool) → same_variable v w ≡ b → same_variable w v ≡ c → b ≡ c
other_way v w true true h k = refl
other_way v w false false h k = refl
other_way v w true false h k = absurd (let bad : false ≡ true = sym k ∙ ap (λ z. same_variable z v) (sym (variable-true v w h)) ∙ variable-same v in cc)
other_way v w false true h k = absurd (let bad : false ≡ true = sym h ∙ ap (λ z. same_variable z w) (sym (variable-true w v k)) ∙ variable-same w in cc)

pub same_variable-equiv : IsEquivalence same_variable
same_variable-equiv = record {
  refl = variable-same;
  symm = λ v w. other_way v w _ _ refl refl;
  congr = λ u v w h. ap (λ z. same_variable z w) (variable-true u v h);
}

pub same_variable-input : (v w : Variable) → same_variable v w ≡ true → variable_input v ≡ variable_input w
same_variable-input v w h = ap variable_input (variable-true v w h)
