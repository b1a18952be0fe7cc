-- The types of bound variables as a list, the innermost first (of this project).
use Rattle.iv_term.specs.declared.typ.Types.{Types}
use Rattle.iv_term.specs.Typ.{ty_cons}
use Rattle.iv_hsub.specs.declared.typing.Bounds.{Bounds}
use Rattle.iv_hsub.specs.declared.typing.Bounds.TheBlock.{Outer, Under'}

unfoldable pub types_in : Bounds → Types
types_in (Outer a) = a.now
types_in (Under' a p rest) = ty_cons a.now (types_in rest)
