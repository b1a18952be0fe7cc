-- How selections, attributes and facts are read. Of this project.
use Rattle.std.specs.Prelude.{ℕ, zero, suc, Bool, not, ◌&&◌, ◌||◌, List, [], ◌∷◌, if◌then◌else◌}
use Rattle.iv_recogniser.specs.declared.class.Class.TheVariants as class
use Rattle.iv_recogniser.specs.declared.class.Sort.TheVariants as sort
use Rattle.iv_forms.specs.declared.fact.Sel.{Sel}
use Rattle.iv_forms.specs.declared.fact.Sel.TheVariants as VSel
use Rattle.iv_forms.specs.declared.fact.Mark.{Mark}
use Rattle.iv_forms.specs.declared.fact.Mark.TheVariants as VMark
use Rattle.iv_forms.specs.declared.fact.Where.{Where}
use Rattle.iv_forms.specs.declared.fact.TermPlace.{TermPlace}
use Rattle.iv_forms.specs.declared.fact.TermPlace.TheVariants as VTermPlace
use Rattle.iv_forms.specs.declared.fact.Fact.{Fact}
use Rattle.iv_forms.specs.declared.fact.Fact.TheVariants as VFact
use Rattle.iv_forms.specs.declared.fact.Att.{Att}
use Rattle.iv_forms.specs.declared.fact.Att.TheVariants as VAtt
use Rattle.iv_forms.specs.declared.fact.Place.{Place}
use Rattle.iv_forms.specs.declared.fact.Place.TheVariants as VPlace
use Rattle.iv_forms.specs.declared.lexeme.Lexeme.{Lexeme}
use Rattle.iv_facts.specs.Found.{Found, got, deep, then_, part_at, place_of, begins, behind, one, many}
use Rattle.iv_facts.specs.FactLevels.{limit}

unfoldable pub sel : List Lexeme → Found Sel
sel ts = then_ (one sort.Numeral ts) (λ n us.
    if begins (sort.Only class.Minus) us then then_ (one sort.Numeral (behind us)) (λ m vs. got (VSel.Range n.number m.number) vs) else got (VSel.One n.number) us)

unfoldable pub more_sels : List Sel → List Lexeme → Found (List Sel)
more_sels found ts = many (begins (sort.Only class.Comma)) (λ us. sel (behind us)) found ts ts

unfoldable pub sels : List Lexeme → Found (List Sel)
sels ts = if begins (sort.Only class.Open) ts
    then then_ (sel (behind ts)) (λ s us. then_ (more_sels (s ∷ []) us) (λ ss vs. then_ (one (sort.Only class.Close) vs) (λ b ws. got ss ws)))
    else got [] ts

unfoldable pub mark : List Lexeme → Found Mark
mark ts = if begins (sort.Only class.Exclamation) ts then got VMark.Strong (behind ts)
    else if begins (sort.Only class.Question) ts then got VMark.Weak (behind ts)
    else got VMark.None ts

unfoldable pub term_place : List Lexeme → Found TermPlace
term_place ts = if begins (sort.Only class.Dummy) ts then got VTermPlace.Hole (behind ts) else then_ (one sort.Term ts) (λ t us. got (VTermPlace.Term t.token) us)

unfoldable pub goes_term_place : List Lexeme → Bool
goes_term_place ts = begins (sort.Only class.Dummy) ts || begins sort.Term ts

unfoldable pub term_places : List Lexeme → Found (List TermPlace)
term_places ts = many goes_term_place term_place [] ts ts

unfoldable pub where_ : List Lexeme → Found Where
where_ ts = then_ (one sort.Identifier ts) (λ x us. then_ (one (sort.Only class.Equal) us) (λ e vs. then_ (one sort.Term vs) (λ t ws. got (record { name = x.token; term = t.token }) ws)))

unfoldable pub more_wheres : List Where → List Lexeme → Found (List Where)
more_wheres found ts = many (begins (sort.Only class.And)) (λ us. where_ (behind us)) found ts ts

unfoldable pub wheres : List Lexeme → Found (List Where)
wheres ts = then_ (where_ ts) (λ e us. more_wheres (e ∷ []) us)

-- the reader of facts and that of what stands behind `[` are passed here, and depend on the levels that are left
unfoldable pub opt_atts_with : (List Lexeme → Found (List Att)) → List Lexeme → Found (List Att)
opt_atts_with inside ts = if begins (sort.Only class.Left) ts then inside (behind ts) else got [] ts

unfoldable pub fact_with : (List Lexeme → Found (List Att)) → List Lexeme → Found Fact
fact_with inside ts = then_ (one sort.Name ts) (λ n us. then_ (sels us) (λ ss vs. then_ (opt_atts_with inside vs) (λ xs ws. got (VFact.Fact n.token ss xs) ws)))

unfoldable pub place_with : (List Lexeme → Found Fact) → List Lexeme → Found Place
place_with fact ts = if begins (sort.Only class.Dummy) ts then got VPlace.Hole (behind ts) else then_ (fact ts) (λ f us. got (VPlace.Fact f) us)

unfoldable pub goes_place : List Lexeme → Bool
goes_place ts = begins (sort.Only class.Dummy) ts || begins sort.Name ts

unfoldable pub places_with : (List Lexeme → Found Fact) → List Lexeme → Found (List Place)
places_with fact ts = many goes_place (place_with fact) [] ts ts

unfoldable pub named_att : List Lexeme → Found Att
named_att ts = then_ (one sort.Name ts) (λ n us. then_ (mark us) (λ m vs. got (VAtt.Name n.token m) vs))

unfoldable pub att_with : (List Lexeme → Found Fact) → List Lexeme → Found Att
att_with fact ts = if begins (sort.Only class.OfFacts) ts && goes_place (behind ts) then then_ (places_with fact (behind ts)) (λ ps us. got (VAtt.OfFacts ps) us)
    else if begins (sort.Only class.ThenFact) ts && begins sort.Name (behind ts) then then_ (fact (behind ts)) (λ f us. got (VAtt.ThenFact f) us)
    else if begins (sort.Only class.OfTerms) ts && goes_term_place (behind ts) then then_ (term_places (behind ts)) (λ ps us. got (VAtt.OfTerms ps) us)
    else if begins (sort.Only class.Where) ts then then_ (wheres (behind ts)) (λ es us. got (VAtt.Where es) us)
    else named_att ts

unfoldable pub more_atts_with : (List Lexeme → Found Fact) → List Att → List Lexeme → Found (List Att)
more_atts_with fact found ts = many (begins (sort.Only class.Comma)) (λ us. att_with fact (behind us)) found ts ts

unfoldable pub atts_with : (List Lexeme → Found Fact) → List Lexeme → Found (List Att)
atts_with fact ts = then_ (att_with fact ts) (λ x us. then_ (more_atts_with fact (x ∷ []) us) (λ xs vs. then_ (one (sort.Only class.Right) vs) (λ b ws. got xs ws)))

-- attributes behind `[`, where so many levels are left
unfoldable pub inside : ℕ → List Lexeme → Found (List Att)
inside zero ts = deep (place_of ts)
inside (suc left) ts = atts_with (fact_with (inside left)) ts

unfoldable pub fact : ℕ → List Lexeme → Found Fact
fact left = fact_with (inside left)

unfoldable pub opt_atts : ℕ → List Lexeme → Found (List Att)
opt_atts left = opt_atts_with (inside left)

-- a fact that stands in no attribute
unfoldable pub a_fact : List Lexeme → Found Fact
a_fact ts = part_at ts (fact limit ts)

-- whether a list of facts goes on: by `and`, or by a name that isn't an identifier in front of `:`
unfoldable pub goes_fact : List Lexeme → Bool
goes_fact ts = begins (sort.Only class.And) ts || (begins sort.Name ts && not (begins sort.Identifier ts && begins (sort.Only class.Colon) (behind ts)))

unfoldable pub next_fact : List Lexeme → Found Fact
next_fact ts = if begins (sort.Only class.And) ts then a_fact (behind ts) else a_fact ts

unfoldable pub more_facts : List Fact → List Lexeme → Found (List Fact)
more_facts found ts = many goes_fact next_fact found ts ts

unfoldable pub facts : List Lexeme → Found (List Fact)
facts ts = then_ (a_fact ts) (λ f us. more_facts (f ∷ []) us)
