-- What the laws of the forms rely on. Of this project.
use Rattle.iv_facts.specs.Laws.{SetsAreApart, FactsAreRead, PropsAreRead, NamesAreRead, FormsAreShort, FormsBegin, PlacesAreKept, DeepFactsArePlaced}
use Rattle.iv_readmethod.specs.Laws.{MethodsAreRead, MethodsBegin, MethodsKeepPlaces, DeepMethodsArePlaced}

-- what is known of the readers below
pub record Below : Type 0 where
  pub sets : SetsAreApart
  pub facts : FactsAreRead
  pub props : PropsAreRead
  pub names : NamesAreRead
  pub lengths : FormsAreShort
  pub firsts : FormsBegin
  pub tails : PlacesAreKept
  pub places : DeepFactsArePlaced
  pub methods : MethodsAreRead
  pub method_firsts : MethodsBegin
  pub method_tails : MethodsKeepPlaces
  pub method_places : DeepMethodsArePlaced
