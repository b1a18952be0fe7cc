-- Written by tools/outer_table.py. Do not edit.
-- A member of each set of classes.
use Rattle.std.proofs.Common.{◌≡◌, refl, true}
use Rattle.std.proofs.lemmas.Bool.{eq-eqb}
use Rattle.iv_recogniser.specs.declared.class.Class.{Class}
use Rattle.iv_recogniser.specs.declared.class.Class.TheVariants as class
use Rattle.iv_recogniser.specs.declared.class.Sort.{Sort}
use Rattle.iv_recogniser.specs.declared.class.Sort.TheVariants as sort
use Rattle.iv_recogniser.specs.Class.{has, number}

pub some_of : (k : Sort) → (c : Class) × (has k c ≡ true)
some_of (sort.Only o) = (o, eq-eqb (number o) (number o) refl)
some_of sort.Identifier = (class.Ident, refl)
some_of sort.Name = (class.Ident, refl)
some_of sort.OtherName = (class.Ident, refl)
some_of sort.CallName = (class.Ident, refl)
some_of sort.SubjectName = (class.Ident, refl)
some_of sort.Term = (class.Ident, refl)
some_of sort.NoName = (class.Var, refl)
some_of sort.NoIdent = (class.Long, refl)
some_of sort.Type = (class.Ident, refl)
some_of sort.Quoted = (class.Plain, refl)
some_of sort.Numeral = (class.Low, refl)
some_of sort.Priority = (class.Low, refl)
some_of sort.Mark = (class.Question, refl)
some_of sort.Binding = (class.Plain, refl)
