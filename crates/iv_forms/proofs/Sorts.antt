-- Sets of classes within each other.
use Rattle.std.proofs.Common.{◌≡◌, refl, Bool, true, inl, inr}
use Rattle.std.specs.Prelude.{◌⊎◌}
use Rattle.std.specs.List.{list_all}
use Rattle.iv_recogniser.specs.declared.class.Class.{Class}
use Rattle.iv_recogniser.specs.declared.class.Class.TheVariants as class
use Rattle.iv_recogniser.specs.declared.class.Sort.{Sort}
use Rattle.iv_recogniser.specs.declared.class.Sort.TheVariants as sort
use Rattle.iv_recogniser.specs.Class.{has, members}
use Rattle.iv_forms.specs.declared.lexeme.Lexeme.{Lexeme}
use Rattle.iv_forms.specs.Lexeme.{Is, IsA}

-- what holds of all members of a set holds of each class that the set has
abbrev pub Law : Type 0
Law = (k : Sort) (test : Class → Bool) → list_all test (members k) ≡ true → (c : Class) → has k c ≡ true → test c ≡ true

module _ (law : Law) where
  pub within : (k l : Sort) → list_all (has l) (members k) ≡ true → (t : Lexeme) → Is k t → Is l t
  within k l all t h = law k (has l) all t.class h

  pub name_term : (t : Lexeme) → Is sort.Name t → Is sort.Term t
  name_term t h = within sort.Name sort.Term refl t h

  pub ident_term : (t : Lexeme) → Is sort.Identifier t → Is sort.Term t
  ident_term t h = within sort.Identifier sort.Term refl t h

  pub ident_name : (t : Lexeme) → Is sort.Identifier t → Is sort.Name t
  ident_name t h = within sort.Identifier sort.Name refl t h

  pub long_name : (t : Lexeme) → IsA class.Long t → Is sort.Name t
  long_name t h = within (sort.Only class.Long) sort.Name refl t h

  pub no_ident_term : (t : Lexeme) → Is sort.NoIdent t → Is sort.Term t
  no_ident_term t h = within sort.NoIdent sort.Term refl t h

  pub word_name : (t : Lexeme) → IsA class.Premises t ⊎ IsA class.Conclusion t → Is sort.Name t
  word_name t (inl h) = within (sort.Only class.Premises) sort.Name refl t h
  word_name t (inr h) = within (sort.Only class.Conclusion) sort.Name refl t h
