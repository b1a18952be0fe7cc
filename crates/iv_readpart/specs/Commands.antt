-- How statements, notes and commands are read. Of this project.
use Rattle.std.specs.Prelude.{List, [], ◌∷◌, Bool, true, false, not, ◌&&◌, ◌||◌, if◌then◌else◌, Some, None}
use Rattle.iv_recogniser.specs.declared.class.Class.TheVariants as class
use Rattle.iv_recogniser.specs.declared.class.Sort.TheVariants as sort
use Rattle.iv_recogniser.specs.Class.{has}
use Rattle.iv_forms.specs.declared.fact.Fact.{Fact}
use Rattle.iv_forms.specs.declared.prop.Group.{Group}
use Rattle.iv_forms.specs.declared.prop.VarGroup.{VarGroup}
use Rattle.iv_forms.specs.declared.command.Axiom.{Axiom}
use Rattle.iv_forms.specs.declared.command.Parts.{Parts}
use Rattle.iv_forms.specs.declared.command.Statement.{Statement}
use Rattle.iv_forms.specs.declared.command.Statement.TheVariants as VStatement
use Rattle.iv_forms.specs.declared.command.NoteGroup.{NoteGroup}
use Rattle.iv_forms.specs.declared.command.Obtained.{Obtained}
use Rattle.iv_forms.specs.declared.lexeme.Lexeme.{Lexeme}
use Rattle.iv_facts.specs.declared.props.Named.{Named}
use Rattle.iv_facts.specs.Found.{Found, got, wrong, deep, then_, begins, behind, one, many, fold}
use Rattle.iv_facts.specs.Facts.{a_fact}
use Rattle.iv_facts.specs.Props.{text_of, some_of, named_atts, opt_label, prop, props, vars}

-- AXIOM
unfoldable pub an_axiom : List Lexeme → Found Axiom
an_axiom ts = then_ (named_atts ts) (λ n us. then_ (one (sort.Only class.Colon) us) (λ c vs. then_ (text_of sort.Term vs) (λ t ws. got (record { name = n.name; atts = n.atts; term = t }) ws)))

unfoldable pub more_axioms : List Axiom → List Lexeme → Found (List Axiom)
more_axioms found ts = many (begins (sort.Only class.And)) (λ us. an_axiom (behind us)) found ts ts

unfoldable pub axioms : List Lexeme → Found (List Axiom)
axioms ts = if begins (sort.Only class.Where) ts then then_ (an_axiom (behind ts)) (λ x us. more_axioms (x ∷ []) us) else got [] ts

-- whether a part of `method` stands ahead
unfoldable pub begins_part : List Lexeme → Bool
begins_part ts = begins (sort.Only class.Methods) ts || (begins (sort.Only class.Uses) ts || begins (sort.Only class.Declares) ts)

-- one more part of `method`
unfoldable pub part : Parts → List Lexeme → Found Parts
part p ts =
    if begins (sort.Only class.Methods) ts then then_ (some_of sort.Identifier (behind ts)) (λ xs us. got (record { methods = xs; uses = p.uses; declares = p.declares }) us)
    else (if begins (sort.Only class.Uses) ts then then_ (some_of sort.Identifier (behind ts)) (λ xs us. got (record { methods = p.methods; uses = xs; declares = p.declares }) us)
    else then_ (some_of sort.Identifier (behind ts)) (λ xs us. got (record { methods = p.methods; uses = p.uses; declares = xs }) us))

unfoldable pub parts : List Lexeme → Found Parts
parts ts = fold begins_part part (record { methods = []; uses = []; declares = [] }) ts ts

unfoldable pub fixes : List Lexeme → Found (List VarGroup)
fixes ts = if begins (sort.Only class.Fixes) ts then vars (behind ts) else got [] ts

unfoldable pub assumes : List Lexeme → Found (List Group)
assumes ts = if begins (sort.Only class.Assumes) ts then props (behind ts) else got [] ts

-- whether the long form of a statement stands ahead, behind its label
unfoldable pub begins_long : List Lexeme → Bool
begins_long ts = begins (sort.Only class.Fixes) ts || (begins (sort.Only class.Assumes) ts || begins (sort.Only class.Shows) ts)

unfoldable pub statement : List Lexeme → Found Statement
statement ts = then_ (opt_label ts) (λ l us.
    if begins_long us then then_ (fixes us) (λ xs vs. then_ (assumes vs) (λ gs ws. then_ (one (sort.Only class.Shows) ws) (λ w ys. then_ (prop ys) (λ p zs. got (VStatement.Long l xs gs p) zs))))
    else then_ (prop us) (λ p vs. got (VStatement.Short l p) vs))

-- LABELNAME and `=`
unfoldable pub note_name : List Lexeme → Found Named
note_name ts = then_ (named_atts ts) (λ n us. then_ (one (sort.Only class.Equal) us) (λ e vs. got n vs))

-- whether LABELNAME and `=` stand ahead
abbrev pub is_got : {A : Type 0} → Found A → Bool
is_got (got x us) = true
is_got wrong = false
is_got (deep p) = false

unfoldable pub begins_note : List Lexeme → Bool
begins_note ts = is_got (note_name ts)

-- whether facts go on; those of `note` end before `and`, a name and `=`
unfoldable pub goes_noted : List Lexeme → Bool
goes_noted ts = begins sort.Name ts || (begins (sort.Only class.And) ts && not (begins_note (behind ts)))

unfoldable pub next_noted : List Lexeme → Found Fact
next_noted ts = if begins (sort.Only class.And) ts then a_fact (behind ts) else a_fact ts

unfoldable pub more_noted : List Fact → List Lexeme → Found (List Fact)
more_noted found ts = many goes_noted next_noted found ts ts

unfoldable pub noted : List Lexeme → Found (List Fact)
noted ts = then_ (a_fact ts) (λ f us. more_noted (f ∷ []) us)

unfoldable pub note_group : List Lexeme → Found NoteGroup
note_group ts = then_ (note_name ts) (λ n us. then_ (noted us) (λ fs vs. got (record { name = Some n.name; atts = n.atts; facts = fs }) vs))

-- the first group, which needs no name
unfoldable pub first_note : List Lexeme → Found NoteGroup
first_note ts = if begins_note ts then note_group ts else then_ (noted ts) (λ fs us. got (record { name = None; atts = []; facts = fs }) us)

unfoldable pub more_notes : List NoteGroup → List Lexeme → Found (List NoteGroup)
more_notes found ts = many (begins (sort.Only class.And)) (λ us. note_group (behind us)) found ts ts

unfoldable pub notes : List Lexeme → Found (List NoteGroup)
notes ts = then_ (first_note ts) (λ g us. more_notes (g ∷ []) us)

-- whether behind names and `and` stands `::` or `where`
abbrev pub names_ahead : List Lexeme → Bool
names_ahead [] = false
names_ahead (t ∷ ts) =
    if has sort.Identifier t.class || has (sort.Only class.And) t.class then names_ahead ts
    else has (sort.Only class.Colons) t.class || has (sort.Only class.Where) t.class

unfoldable pub obtained : List Lexeme → Found Obtained
obtained ts =
    if names_ahead ts then then_ (vars ts) (λ xs us. then_ (one (sort.Only class.Where) us) (λ w vs. then_ (props vs) (λ gs ws. got (record { names = xs; props = gs }) ws)))
    else then_ (props ts) (λ gs us. got (record { names = []; props = gs }) us)
