-- How methods are read. Of this project.
use Rattle.std.specs.Prelude.{ℕ, zero, suc, ◌+◌, ◌-◌, max, nat_lt, Bool, not, ◌&&◌, ◌||◌, List, [], ◌∷◌, ◌++◌, Option, Some, None, if◌then◌else◌}
use Rattle.iv_recogniser.specs.declared.class.Class.{Class}
use Rattle.iv_recogniser.specs.declared.class.Class.TheVariants as class
use Rattle.iv_recogniser.specs.declared.class.Sort.TheVariants as sort
use Rattle.iv_recogniser.specs.Class.{has}
use Rattle.iv_forms.specs.declared.fact.Fact.{Fact}
use Rattle.iv_forms.specs.declared.method.Section.{Section}
use Rattle.iv_forms.specs.declared.method.Subject.{Subject}
use Rattle.iv_forms.specs.declared.method.Subject.TheVariants as VSubject
use Rattle.iv_forms.specs.declared.method.MethodText.{MethodText}
use Rattle.iv_forms.specs.declared.method.MethodText.TheVariants as VMethod
use Rattle.iv_forms.specs.declared.method.Arg.{Arg}
use Rattle.iv_forms.specs.declared.method.Arg.TheVariants as VArg
use Rattle.iv_forms.specs.declared.method.Case.{Case}
use Rattle.iv_forms.specs.declared.method.Case.TheVariants as VCase
use Rattle.iv_forms.specs.declared.lexeme.Lexeme.{Lexeme}
use Rattle.iv_readmethod.specs.declared.levelled.Levelled.{Levelled}
use Rattle.iv_readmethod.specs.declared.levelled.Join.{Join}
use Rattle.iv_readmethod.specs.declared.levelled.Join.TheVariants as VJoin
use Rattle.iv_facts.specs.Found.{Found, got, wrong, deep, then_, place_of, begins, behind, one, unless_deep}
use Rattle.iv_facts.specs.FactLevels.{limit, first_of}
use Rattle.iv_facts.specs.Facts.{goes_fact, facts}
use Rattle.iv_facts.specs.Props.{opt_for}
use Rattle.iv_readmethod.specs.Patterns.{named, opt_nat, pattern, more_patterns}

-- a part without levels
abbrev pub flat : {A : Type 0} → A → Levelled A
flat x = record { value = x; levels = 0; deep = None }

-- the same part as another value
abbrev pub mapped : {A B : Type 0} → (A → B) → Levelled A → Levelled B
mapped f a = record { value = f a.value; levels = a.levels; deep = a.deep }

-- two parts as one value
abbrev pub both : {A B C : Type 0} → (A → B → C) → Levelled A → Levelled B → Levelled C
both f a b = record { value = f a.value b.value; levels = max a.levels b.levels; deep = first_of a.deep b.deep }

-- one more part of a list
abbrev pub more : {A : Type 0} → Levelled (List A) → Levelled A → Levelled (List A)
more = both (λ xs x. xs ++ x ∷ [])

-- a part with one level more, where so many may be there
unfoldable pub raised : {A : Type 0} → ℕ → Levelled A → List Lexeme → Found (Levelled A)
raised left a ts = if nat_lt a.levels left then got (record { value = a.value; levels = a.levels + 1; deep = a.deep }) ts else deep (place_of ts)

-- parts joined to the one that was found, as long as the tokens go on with one; the first list says how many may come
unfoldable pub joins : {A B : Type 0} → (List Lexeme → Bool) → (List Lexeme → Found B) → (A → B → List Lexeme → Found A) → A → List Lexeme → List Lexeme → Found A
joins goes item join found [] ts = got found ts
joins goes item join found (_ ∷ steps) ts =
    if goes ts then then_ (item ts) (λ x us. then_ (join found x us) (λ y vs. joins goes item join y steps vs)) else got found ts

-- a list, as long as the tokens go on with one more
unfoldable pub lists : {A : Type 0} → (List Lexeme → Bool) → (List Lexeme → Found (Levelled A)) → Levelled (List A) → List Lexeme → Found (Levelled (List A))
lists goes item found ts = joins goes item (λ xs x us. got (more xs x) us) found ts ts

-- the token that joins two methods, and what they are together
abbrev pub between : Join → Class
between VJoin.Then = class.Comma
between VJoin.On = class.Semicolon
between VJoin.Or = class.Bar

abbrev pub joined : Join → MethodText → MethodText → MethodText
joined VJoin.Then = VMethod.Then
joined VJoin.On = VMethod.On
joined VJoin.Or = VMethod.Or

-- `(` and `[`, `)` and `]`
abbrev pub opens : Class → Bool
opens c = has (sort.Only class.Open) c || has (sort.Only class.Left) c

abbrev pub closes : Class → Bool
closes c = has (sort.Only class.Close) c || has (sort.Only class.Right) c

-- how many brackets are open behind a token
unfoldable pub brackets : ℕ → Class → ℕ
brackets depth c = if opens c then depth + 1 else if closes c then depth - 1 else depth

-- whether a token belongs to the facts, where so many brackets are open
unfoldable pub stays : ℕ → List Lexeme → Bool
stays depth ts = nat_lt 0 depth || (begins (sort.Only class.Open) ts || (begins (sort.Only class.Left) ts || goes_fact ts))

-- what stands behind facts, passed over by their brackets
unfoldable pub past : ℕ → List Lexeme → List Lexeme
past depth [] = []
past depth (t ∷ ts) = if stays depth (t ∷ ts) then past (brackets depth t.class) ts else t ∷ ts

-- facts, or the place of the first that is too deep
unfoldable pub noted : List Lexeme → Found (List Fact) → Found (Levelled (List Fact))
noted ts (got fs us) = got (flat fs) us
noted ts wrong = wrong
noted ts (deep p) = got (record { value = []; levels = 0; deep = Some p }) (past 0 ts)

unfoldable pub noted_facts : List Lexeme → Found (Levelled (List Fact))
noted_facts ts = noted ts (facts ts)

unfoldable pub section : List Lexeme → Found (Levelled Section)
section ts = then_ (one sort.Identifier ts) (λ x us. then_ (one (sort.Only class.Colon) us) (λ c vs. then_ (noted_facts vs) (λ fs ws. got (mapped (λ fs. record { name = x.token; facts = fs }) fs) ws)))

unfoldable pub sections : List Lexeme → Found (Levelled (List Section))
sections ts = lists named section (flat []) ts

-- whether a word stands alone in front of `in`
unfoldable pub alone : Class → List Lexeme → Bool
alone c ts = begins (sort.Only c) ts && begins (sort.Only class.In) (behind ts)

unfoldable pub subject_term : List Lexeme → Found (Levelled Subject)
subject_term ts = then_ (one (sort.Only class.Open) ts) (λ a us. then_ (one sort.Term us) (λ t vs. then_ (one (sort.Only class.Close) vs) (λ b ws. got (flat (VSubject.Term t.token)) ws)))

unfoldable pub subject : List Lexeme → Found (Levelled Subject)
subject ts = if alone class.Premises ts then got (flat VSubject.Premises) (behind ts)
    else if alone class.Conclusion ts then got (flat VSubject.Conclusion) (behind ts)
    else if begins (sort.Only class.Open) ts then subject_term ts
    else then_ (noted_facts ts) (λ fs us. got (mapped VSubject.Facts fs) us)

unfoldable pub rule : List Lexeme → Found (Levelled MethodText)
rule ts = then_ (one (sort.Only class.Rule) ts) (λ w us. then_ (noted_facts us) (λ fs vs. got (mapped (VMethod.Rule w.token) fs) vs))

unfoldable pub suffix : ℕ → Levelled MethodText → List Lexeme → Found (Levelled MethodText)
suffix left m ts = if begins (sort.Only class.Question) ts then raised left (mapped VMethod.Try m) (behind ts)
    else if begins (sort.Only class.Plus) ts then raised left (mapped VMethod.Repeat m) (behind ts)
    else if begins (sort.Only class.Left) ts
    then then_ (opt_nat (behind ts)) (λ n us. then_ (one (sort.Only class.Right) us) (λ b vs. raised left (mapped (λ m. VMethod.First m n) m) vs))
    else got m ts

-- methods with tokens between them that join them
unfoldable pub linked : ℕ → Join → (List Lexeme → Found (Levelled MethodText)) → List Lexeme → Found (Levelled MethodText)
linked left join part ts = then_ (part ts) (λ m us. joins (begins (sort.Only (between join))) (λ vs. part (behind vs)) (λ m n vs. raised left (both (joined join) m n) vs) m us us)

-- whether a call goes on with an argument: by `(`, or by a term that isn't the name of a section
unfoldable pub goes_arg : List Lexeme → Bool
goes_arg ts = begins (sort.Only class.Open) ts || (begins sort.Term ts && not (named ts))

-- `inside` reads what stands in parentheses, or in the cartouche of a case, where `left` levels are left
module _ (inside : List Lexeme → Found (Levelled MethodText)) (left : ℕ) where
  unfoldable pub parens : List Lexeme → Found (Levelled MethodText)
  parens ts = then_ (one (sort.Only class.Open) ts) (λ a us. then_ (inside us) (λ m vs. then_ (one (sort.Only class.Close) vs) (λ b ws. raised left m ws)))

  unfoldable pub core : List Lexeme → Found (Levelled MethodText)
  core ts = if begins (sort.Only class.Open) ts then then_ (parens ts) (λ m us. got (mapped VMethod.Paren m) us)
      else if begins (sort.Only class.Minus) ts then got (flat VMethod.Dash) (behind ts)
      else then_ (one sort.Name ts) (λ n us. got (flat (VMethod.Name n.token)) us)

  unfoldable pub method : List Lexeme → Found (Levelled MethodText)
  method ts = then_ (core ts) (λ m us. suffix left m us)

  unfoldable pub arg : List Lexeme → Found (Levelled Arg)
  arg ts = if begins (sort.Only class.Open) ts then then_ (parens ts) (λ m us. got (mapped VArg.Method m) us)
      else then_ (one sort.Term ts) (λ t us. got (flat (VArg.Term t.token)) us)

  unfoldable pub args : List Lexeme → Found (Levelled (List Arg))
  args ts = lists goes_arg arg (flat []) ts

  unfoldable pub call : List Lexeme → Found (Levelled MethodText)
  call ts = then_ (one sort.CallName ts) (λ n us. then_ (args us) (λ es vs. then_ (sections vs) (λ xs ws. got (both (VMethod.Call n.token) es xs) ws)))

  unfoldable pub case : List Lexeme → Found (Levelled Case)
  case ts = then_ (pattern ts) (λ p us. then_ (more_patterns (p ∷ []) us) (λ ps vs. then_ (opt_for vs) (λ gs ws. then_ (one (sort.Only class.Arrow) ws) (λ a xs. then_ (one (sort.Only class.Into) xs) (λ i ys.
      then_ (inside ys) (λ m zs. then_ (one (sort.Only class.OutOf) zs) (λ o us. raised left (mapped (VCase.Case ps gs) m) us)))))))

  unfoldable pub more_cases : Levelled (List Case) → List Lexeme → Found (Levelled (List Case))
  more_cases found ts = lists (begins (sort.Only class.CaseBar)) (λ us. case (behind us)) found ts

  unfoldable pub cases : List Lexeme → Found (Levelled (List Case))
  cases ts = then_ (one (sort.Only class.In) ts) (λ w us. then_ (case us) (λ c vs. more_cases (more (flat []) c) vs))

  unfoldable pub match_ : List Lexeme → Found (Levelled MethodText)
  match_ ts = then_ (one (sort.Only class.Match) ts) (λ w us. then_ (subject us) (λ s vs. then_ (cases vs) (λ cs ws. got (both VMethod.Match s cs) ws)))

  -- a rule method has facts iff a name follows, `match` a subject iff a name or `(` does, and a call arguments or sections iff a term or `(` does
  unfoldable pub item : List Lexeme → Found (Levelled MethodText)
  item ts = if begins (sort.Only class.Rule) ts && begins sort.Name (behind ts) then rule ts
      else if begins (sort.Only class.Match) ts && (begins (sort.Only class.Open) (behind ts) || begins sort.Name (behind ts)) then match_ ts
      else if begins sort.CallName ts && (begins (sort.Only class.Open) (behind ts) || begins sort.Term (behind ts)) then call ts
      else method ts

  unfoldable pub seq : List Lexeme → Found (Levelled MethodText)
  seq = linked left VJoin.Then item

  unfoldable pub semi : List Lexeme → Found (Levelled MethodText)
  semi = linked left VJoin.On seq

  unfoldable pub alt : List Lexeme → Found (Levelled MethodText)
  alt = linked left VJoin.Or semi

  -- what stands beside such a token
  unfoldable pub operand : Join → List Lexeme → Found (Levelled MethodText)
  operand VJoin.Then = item
  operand VJoin.On = seq
  operand VJoin.Or = semi

-- what stands inside, where so many levels are left outside
unfoldable pub inside : ℕ → List Lexeme → Found (Levelled MethodText)
inside zero ts = deep (place_of ts)
inside (suc left) ts = alt (inside left) left ts

-- a method with the places that were noted in it: where its own levels are too many, it is too deep where it begins
unfoldable pub settled : List Lexeme → Found (Levelled MethodText) → Found MethodText
settled ts (got m us) = unless_deep m.deep m.value us
settled ts wrong = wrong
settled ts (deep p) = deep (place_of ts)

unfoldable pub a_method : List Lexeme → Found MethodText
a_method ts = settled ts (method (inside limit) limit ts)

unfoldable pub opt_method : List Lexeme → Found (Option MethodText)
opt_method ts = if begins sort.Name ts || (begins (sort.Only class.Minus) ts || begins (sort.Only class.Open) ts) then then_ (a_method ts) (λ m us. got (Some m) us) else got None ts
