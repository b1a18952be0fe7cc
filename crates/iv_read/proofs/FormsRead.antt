-- Commands are read as the forms say.
use Rattle.std.proofs.Common.{◌≡◌, ℕ, true, false, List, [], ◌∷◌, refl, ◌∙◌, arith, ap}
use Rattle.std.specs.Prelude.{Option}
use Rattle.iv_lex.specs.declared.cutting.Token.{Token}
use Rattle.iv_recogniser.specs.declared.class.Class.{Class}
use Rattle.iv_recogniser.specs.declared.class.Class.TheVariants as class
use Rattle.iv_recogniser.specs.declared.class.Sort.TheVariants as sort
use Rattle.iv_recogniser.specs.Class.{has, same_class}
use Rattle.iv_forms.specs.declared.fact.Fact.{Fact}
use Rattle.iv_forms.specs.declared.fact.Att.{Att}
use Rattle.iv_forms.specs.declared.prop.Label.{Label}
use Rattle.iv_forms.specs.declared.prop.Claim.{Claim}
use Rattle.iv_forms.specs.declared.prop.Group.{Group}
use Rattle.iv_forms.specs.declared.prop.VarGroup.{VarGroup}
use Rattle.iv_forms.specs.declared.command.Constant.{Constant}
use Rattle.iv_forms.specs.declared.command.Axiom.{Axiom}
use Rattle.iv_forms.specs.declared.command.Parts.{Parts}
use Rattle.iv_forms.specs.declared.command.Statement.{Statement}
use Rattle.iv_forms.specs.declared.command.Equation.{Equation}
use Rattle.iv_forms.specs.declared.command.NoteGroup.{NoteGroup}
use Rattle.iv_forms.specs.declared.command.Obtained.{Obtained}
use Rattle.iv_forms.specs.declared.method.MethodText.{MethodText}
use Rattle.iv_forms.specs.declared.command.Body.{Body}
use Rattle.iv_forms.specs.declared.command.Body.TheVariants as VBody
use Rattle.iv_forms.specs.declared.lexeme.Lexeme.{Lexeme}
use Rattle.iv_forms.specs.Lexeme.{Is, IsA, AreAll}
use Rattle.iv_forms.specs.FactForm.{IsOptAtts, IsFacts}
use Rattle.iv_forms.specs.PropForm as PF
use Rattle.iv_forms.specs.PropForm.{IsOptLabel}
use Rattle.iv_forms.specs.MethodForm.{IsMethod, IsOptMethod}
use Rattle.iv_forms.specs.CommandForm as C
use Rattle.iv_forms.specs.CommandForm.{IsForm}
use Rattle.iv_facts.specs.Found.{got, then_, begins, one, unless_deep}
use Rattle.iv_facts.specs.FactLevels.{opt_atts_levels, deep_at, first_of, deep_facts, deep_opt_label, deep_claim, deep_props}
use Rattle.iv_readmethod.specs.MethodLevels.{deep_method, deep_opt_method}
use Rattle.iv_readpart.specs.CommandLevels.{deep_axioms, deep_statement, deep_notes, deep_obtained}
use Rattle.iv_read.specs.FormLevels.{deep_form}
use Rattle.iv_facts.specs.Facts as F
use Rattle.iv_facts.specs.Props as P
use Rattle.iv_readmethod.specs.Methods as M
use Rattle.iv_readpart.specs.Declarations as D
use Rattle.iv_readpart.specs.Commands as K
use Rattle.iv_read.specs.Forms as W
use Rattle.iv_facts.proofs.Held.{then_unless, then_got, no_and}
use Rattle.iv_read.proofs.Firsts as First
use Rattle.iv_read.proofs.DeclarationsRead as DR
use Rattle.iv_read.proofs.CommandsRead as KR
use Rattle.iv_read.proofs.NotesRead as NR
use Rattle.iv_read.specs.Laws.{Below}

-- two classes that are the same by their numbers are the same
abbrev pub ClassLaw : Type 0
ClassLaw = (a b : Class) → same_class a b ≡ true → a ≡ b

module _ (law : Below) (is : ClassLaw) where
  -- the word picks the form
  at_class : (w : Lexeme) (c : Class) (ts : List Lexeme) → IsA c w → W.form (w ∷ ts) ≡ W.by_class c ts
  at_class w c ts h = ap (λ z. W.by_class z ts) (is w.class c h)

  text_read : (q : Lexeme) (b : Token → Body) → Is sort.Quoted q → then_ (P.text_of sort.Quoted (q ∷ [])) (λ x us. got (b x) us) ≡ got (b q.token) []
  unfolding P.text_of then_
  text_read q b h = rw h refl

  theory_read : (n i m : Lexeme) {b : Lexeme} {xs : List Token} {ts us : List Lexeme} → Is sort.Name n → IsA class.Imports i → Is sort.Name m → AreAll sort.Name xs ts (b ∷ us) → IsA class.Begin b → W.theory (n ∷ i ∷ m ∷ ts) ≡ got (VBody.Theory n.token (m.token ∷ xs)) us
  unfolding W.theory P.text_of then_
  theory_read n i m {b = b} x y a xs e = rw (x, y, law.names.some_of sort.Name m a xs (law.sets.apart sort.Name (sort.Only class.Begin) refl b.class e), e) refl

  typedecl_read : {x : Lexeme} {xs : List Token} {ts us : List Lexeme} → C.IsTvars xs ts (x ∷ us) → Is sort.Identifier x → W.typedecl ts ≡ got (VBody.Typedecl xs x.token) us
  unfolding W.typedecl P.text_of then_
  typedecl_read {x = x} v h = rw (DR.tvars_read law v (law.sets.apart (sort.Only class.Tvar) sort.Identifier refl x.class h) (law.sets.apart (sort.Only class.Open) sort.Identifier refl x.class h), h) refl

  consts_read : {x : Constant} {xs : List Constant} {ts us : List Lexeme} → C.IsConst x ts us → C.IsMoreConsts xs us [] → W.consts ts ≡ got (VBody.Consts (x ∷ xs)) []
  unfolding W.consts D.more_consts then_
  consts_read {x = x} {us = us} d r = rw (DR.const_read law d (First.free_IsMoreConsts law (sort.Only class.Open) refl r refl), DR.more_consts_read law r refl refl (x ∷ []) us (omega (arith))) refl

  judgment_read : (x c t : Lexeme) {ts us : List Lexeme} → Is sort.Identifier x → IsA class.Colons c → Is sort.Type t → C.IsJudgmentForm ts us → begins (sort.Only class.Open) us ≡ false → W.judgment (x ∷ c ∷ t ∷ ts) ≡ got (VBody.Judgment x.token t.token) us
  unfolding W.judgment P.text_of then_
  judgment_read x c t i k y j o = rw (i, k, y, DR.judgment_form_read law j o) refl

  axiomatization_read : {cs : List Constant} {xs : List Axiom} {ts us : List Lexeme} → C.IsAxiomConsts cs ts us → (d : C.IsAxioms xs us []) → W.axiomatization ts ≡ unless_deep (deep_axioms d) (VBody.Axiomatization cs xs) []
  unfolding W.axiomatization then_
  axiomatization_read {cs = cs} {xs = xs} c d =
      rw (DR.axiom_consts_read law c (First.free_IsAxioms law sort.Identifier refl d refl) (First.free_IsAxioms law (sort.Only class.Open) refl d refl) (First.free_IsAxioms law (sort.Only class.And) refl d refl))
      (then_got (deep_axioms d) xs (VBody.Axiomatization cs xs) [] [] _ (KR.axioms_read law d refl refl) refl)

  lemmas_read : (n : Lexeme) {e : Lexeme} {xs : List Att} {fs : List Fact} {ts us : List Lexeme} → Is sort.Name n → (a : IsOptAtts xs ts (e ∷ us)) → IsA class.Equal e → (d : IsFacts fs us []) → W.lemmas (n ∷ ts) ≡ unless_deep (first_of (deep_at (n ∷ ts) (opt_atts_levels a)) (deep_facts d)) (VBody.Lemmas n.token xs fs) []
  unfolding W.lemmas K.note_name then_ F.goes_fact
  lemmas_read n {e = c} {xs = xs} {fs = fs} {ts = ts} {us = us} h a e d =
      then_unless (deep_at (n ∷ ts) (opt_atts_levels a)) (deep_facts d) (record { name = n.token; atts = xs }) (VBody.Lemmas n.token xs fs) us [] _
      (then_got (deep_at (n ∷ ts) (opt_atts_levels a)) (record { name = n.token; atts = xs }) (record { name = n.token; atts = xs }) (c ∷ us) us _ (law.props.named_atts n h a (law.sets.apart (sort.Only class.Left) (sort.Only class.Equal) refl c.class e)) (rw e refl))
      (then_got (deep_facts d) fs (VBody.Lemmas n.token xs fs) [] [] _ (law.facts.facts d refl refl refl refl) refl)

  method_read : (x : Lexeme) {e : Lexeme} {gs : List VarGroup} {p : Parts} {m : MethodText} {ts us vs : List Lexeme} → Is sort.Identifier x → PF.IsOptFor gs ts us → C.IsParts p us (e ∷ vs) → IsA class.Equal e → (d : IsMethod m vs []) → W.method_definition (x ∷ ts) ≡ unless_deep (deep_method d) (VBody.Method x.token gs p m) []
  unfolding W.method_definition P.text_of then_ K.begins_part
  method_read x {e = c} {gs = gs} {p = p} {m = m} {vs = vs} h g q e d =
      let no_for : has (sort.Only class.For) c.class ≡ false = law.sets.apart (sort.Only class.For) (sort.Only class.Equal) refl c.class e in
      let no_colons : has (sort.Only class.Colons) c.class ≡ false = law.sets.apart (sort.Only class.Colons) (sort.Only class.Equal) refl c.class e in
      let no_name : has sort.Identifier c.class ≡ false = law.sets.apart sort.Identifier (sort.Only class.Equal) refl c.class e in
      let no_and_ : has (sort.Only class.And) c.class ≡ false = law.sets.apart (sort.Only class.And) (sort.Only class.Equal) refl c.class e in
      let no_part : K.begins_part (c ∷ vs) ≡ false =
      rw (law.sets.apart (sort.Only class.Methods) (sort.Only class.Equal) refl c.class e, law.sets.apart (sort.Only class.Uses) (sort.Only class.Equal) refl c.class e, law.sets.apart (sort.Only class.Declares) (sort.Only class.Equal) refl c.class e) refl in
      rw (
        h,
        law.names.opt_for g (First.free_IsParts law (sort.Only class.For) refl refl refl q no_for) (First.free_IsParts law (sort.Only class.Colons) refl refl refl q no_colons)
            (First.free_IsParts law sort.Identifier refl refl refl q no_name) (First.free_IsParts law (sort.Only class.And) refl refl refl q no_and_),
        NR.parts_read law q no_name no_part,
        e,
      )
      (then_got (deep_method d) m (VBody.Method x.token gs p m) [] [] _ (law.methods.one d refl refl refl) refl)

  define_read : (x : Lexeme) {h b : Lexeme} {t : Option Token} {l : Option Label} {ts us : List Lexeme} → Is sort.Identifier x → PF.IsOfType t ts (h ∷ us) → IsA class.Where h → (d : IsOptLabel l us (b ∷ [])) → Is sort.Term b → W.define (x ∷ ts) ≡ unless_deep (deep_opt_label d) (VBody.Define x.token t l b.token) []
  unfolding W.define P.text_of then_ P.begins_label
  define_read x {h = w} {b = b} {t = t} {l = l} i y h d e =
      let no_label : P.begins_label (b ∷ []) ≡ false = rw (law.sets.apart (sort.Only class.Left) sort.Term refl b.class e, no_and (has sort.Name b.class) refl) refl in
      rw (i, law.names.of_type y (law.sets.apart (sort.Only class.Colons) (sort.Only class.Where) refl w.class h), h)
      (then_got (deep_opt_label d) l (VBody.Define x.token t l b.token) (b ∷ []) [] _ (law.props.opt_label d no_label) (rw e refl))

  let_read : {x : Equation} {xs : List Equation} {ts us : List Lexeme} → C.IsEquation x ts us → C.IsMoreEquations xs us [] → W.let_ ts ≡ got (VBody.Let (x ∷ xs)) []
  unfolding W.let_ then_
  let_read d r = rw ((DR.equations_read law d r refl).0, (DR.equations_read law d r refl).1) refl

  by_read : {m : MethodText} {n : Option MethodText} {ts us : List Lexeme} (d : IsMethod m ts us) (e : IsOptMethod n us []) → W.by ts ≡ unless_deep (first_of (deep_method d) (deep_opt_method e)) (VBody.By m n) []
  unfolding W.by then_
  by_read {m = m} {n = n} {us = us} d e =
      then_unless (deep_method d) (deep_opt_method e) m (VBody.By m n) us [] _
      (law.methods.one d (law.method_firsts.opt (sort.Only class.Question) refl refl refl e refl) (law.method_firsts.opt (sort.Only class.Plus) refl refl refl e refl) (law.method_firsts.opt (sort.Only class.Left) refl refl refl e refl))
      (then_got (deep_opt_method e) n (VBody.By m n) [] [] _ (law.methods.opt e refl refl refl refl refl refl) refl)

  nat_read : {n : Option ℕ} {ts : List Lexeme} → C.IsSomeNat n ts [] → then_ (D.some_nat ts) (λ x us. got (VBody.Defer x) us) ≡ got (VBody.Defer n) []
  unfolding then_
  nat_read d = rw (DR.some_nat_read law d refl) refl

  vars_form : {gs : List VarGroup} {ts : List Lexeme} → PF.IsVars gs ts [] → then_ (P.vars ts) (λ x us. got (VBody.Fix x) us) ≡ got (VBody.Fix gs) []
  unfolding then_
  vars_form d = rw (law.names.vars d refl refl refl) refl

  number_read : (n : Lexeme) → Is sort.Numeral n → then_ (one sort.Numeral (n ∷ [])) (λ x us. got (VBody.Prefer x.number) us) ≡ got (VBody.Prefer n.number) []
  unfolding then_
  number_read n h = rw h refl

  name_read : (x : Lexeme) → Is sort.Identifier x → then_ (P.text_of sort.Identifier (x ∷ [])) (λ y us. got (VBody.NamedTheorems y) us) ≡ got (VBody.NamedTheorems x.token) []
  unfolding P.text_of then_
  name_read x h = rw h refl

  facts_form : {fs : List Fact} {ts : List Lexeme} (b : List Fact → Body) (d : IsFacts fs ts []) → then_ (F.facts ts) (λ x us. got (b x) us) ≡ unless_deep (deep_facts d) (b fs) []
  unfolding F.goes_fact
  facts_form {fs = fs} b d = then_got (deep_facts d) fs (b fs) [] [] _ (law.facts.facts d refl refl refl refl) refl

  props_form : {gs : List Group} {ts : List Lexeme} (b : List Group → Body) (d : PF.IsProps gs ts []) → then_ (P.props ts) (λ x us. got (b x) us) ≡ unless_deep (deep_props d) (b gs) []
  props_form {gs = gs} b d = then_got (deep_props d) gs (b gs) [] [] _ (law.props.props d refl refl refl refl refl) refl

  claim_form : {c : Claim} {ts : List Lexeme} (b : Claim → Body) (d : PF.IsClaim c ts []) → then_ (P.claim ts) (λ x us. got (b x) us) ≡ unless_deep (deep_claim d) (b c) []
  claim_form {c = c} b d = then_got (deep_claim d) c (b c) [] [] _ (law.props.claim d refl refl refl) refl

  statement_form : {s : Statement} {ts : List Lexeme} (b : Statement → Body) (d : C.IsStatement s ts []) → then_ (K.statement ts) (λ x us. got (b x) us) ≡ unless_deep (deep_statement d) (b s) []
  statement_form {s = s} b d = then_got (deep_statement d) s (b s) [] [] _ (KR.statement_read law d refl refl refl) refl

  notes_form : {gs : List NoteGroup} {ts : List Lexeme} (d : C.IsNotes gs ts []) → then_ (K.notes ts) (λ x us. got (VBody.Note x) us) ≡ unless_deep (deep_notes d) (VBody.Note gs) []
  unfolding K.goes_noted
  notes_form {gs = gs} d = then_got (deep_notes d) gs (VBody.Note gs) [] [] _ (NR.notes_read law d refl refl refl refl refl) refl

  obtained_form : {o : Obtained} {ts : List Lexeme} (d : C.IsObtained o ts []) → then_ (K.obtained ts) (λ x us. got (VBody.Obtain x) us) ≡ unless_deep (deep_obtained d) (VBody.Obtain o) []
  obtained_form {o = o} d = then_got (deep_obtained d) o (VBody.Obtain o) [] [] _ (NR.obtained_read law d refl refl refl refl refl refl) refl

  apply_form : {m : MethodText} {ts : List Lexeme} (d : IsMethod m ts []) → then_ (M.a_method ts) (λ x us. got (VBody.Apply x) us) ≡ unless_deep (deep_method d) (VBody.Apply m) []
  apply_form {m = m} d = then_got (deep_method d) m (VBody.Apply m) [] [] _ (law.methods.one d refl refl refl) refl

  opt_form : {m : Option MethodText} {ts : List Lexeme} (b : Option MethodText → Body) (d : IsOptMethod m ts []) → then_ (M.opt_method ts) (λ x us. got (b x) us) ≡ unless_deep (deep_opt_method d) (b m) []
  opt_form {m = m} b d = then_got (deep_opt_method d) m (b m) [] [] _ (law.methods.opt d refl refl refl refl refl refl) refl

  pub form_read : {f : Body} {ts : List Lexeme} (d : IsForm f ts []) → W.form ts ≡ unless_deep (deep_form d) f []
  form_read (C.theory {w = w} {n = n} {i = i} {m = m} h a k y xs b) = at_class w class.Theory _ h ∙ theory_read n i m a k y xs b
  form_read (C.end_ {w = w} h) = at_class w class.End _ h
  form_read (C.chapter {w = w} {q = q} h k) = at_class w class.Chapter _ h ∙ text_read q (W.text_body class.Chapter) k
  form_read (C.section_ {w = w} {q = q} h k) = at_class w class.Section _ h ∙ text_read q (W.text_body class.Section) k
  form_read (C.subsection {w = w} {q = q} h k) = at_class w class.Subsection _ h ∙ text_read q (W.text_body class.Subsection) k
  form_read (C.subsubsection {w = w} {q = q} h k) = at_class w class.Subsubsection _ h ∙ text_read q (W.text_body class.Subsubsection) k
  form_read (C.paragraph {w = w} {q = q} h k) = at_class w class.Paragraph _ h ∙ text_read q (W.text_body class.Paragraph) k
  form_read (C.subparagraph {w = w} {q = q} h k) = at_class w class.Subparagraph _ h ∙ text_read q (W.text_body class.Subparagraph) k
  form_read (C.prose {w = w} {q = q} h k) = at_class w class.Prose _ h ∙ text_read q (W.text_body class.Prose) k
  form_read (C.txt {w = w} {q = q} h k) = at_class w class.Txt _ h ∙ text_read q (W.text_body class.Txt) k
  form_read (C.typedecl {w = w} h v i) = at_class w class.Typedecl _ h ∙ typedecl_read v i
  form_read (C.consts {w = w} h d r) = at_class w class.Consts _ h ∙ consts_read d r
  form_read (C.judgment {w = w} {x = x} {c = c} {t = t} h i k y j) = at_class w class.Judgment _ h ∙ judgment_read x c t i k y j refl
  form_read (C.axiomatization {w = w} h c d) = at_class w class.Axiomatization _ h ∙ axiomatization_read c d
  form_read (C.lemmas {w = w} {n = n} h i a e d) = at_class w class.Lemmas _ h ∙ lemmas_read n i a e d
  form_read (C.declare {w = w} h d) = at_class w class.Declare _ h ∙ facts_form VBody.Declare d
  form_read (C.named_theorems {w = w} {x = x} h i) = at_class w class.NamedTheorems _ h ∙ name_read x i
  form_read (C.method_ {w = w} {x = x} h i g p e d) = at_class w class.Method _ h ∙ method_read x i g p e d
  form_read (C.lemma_ {w = w} h d) = at_class w class.Lemma _ h ∙ statement_form VBody.Lemma d
  form_read (C.theorem_ {w = w} h d) = at_class w class.Theorem _ h ∙ statement_form VBody.Theorem d
  form_read (C.corollary {w = w} h d) = at_class w class.Corollary _ h ∙ statement_form VBody.Corollary d
  form_read (C.proposition {w = w} h d) = at_class w class.Proposition _ h ∙ statement_form VBody.Proposition d
  form_read (C.fix {w = w} h d) = at_class w class.Fix _ h ∙ vars_form d
  form_read (C.assume {w = w} h d) = at_class w class.Assume _ h ∙ props_form VBody.Assume d
  form_read (C.presume {w = w} h d) = at_class w class.Presume _ h ∙ props_form VBody.Presume d
  form_read (C.define {w = w} {x = x} h i t k d b) = at_class w class.Define _ h ∙ define_read x i t k d b
  form_read (C.note {w = w} h d) = at_class w class.Note _ h ∙ notes_form d
  form_read (C.let_ {w = w} h d r) = at_class w class.Let _ h ∙ let_read d r
  form_read (C.left_brace {w = w} h) = at_class w class.LeftBrace _ h
  form_read (C.right_brace {w = w} h) = at_class w class.RightBrace _ h
  form_read (C.next_ {w = w} h) = at_class w class.Next _ h
  form_read (C.then_ {w = w} h) = at_class w class.Then _ h
  form_read (C.from {w = w} h d) = at_class w class.From _ h ∙ facts_form VBody.From d
  form_read (C.with_ {w = w} h d) = at_class w class.With _ h ∙ facts_form VBody.With d
  form_read (C.have {w = w} h d) = at_class w class.Have _ h ∙ claim_form VBody.Have d
  form_read (C.show {w = w} h d) = at_class w class.Show _ h ∙ claim_form VBody.Show d
  form_read (C.hence {w = w} h d) = at_class w class.Hence _ h ∙ claim_form VBody.Hence d
  form_read (C.thus {w = w} h d) = at_class w class.Thus _ h ∙ claim_form VBody.Thus d
  form_read (C.obtain {w = w} h d) = at_class w class.Obtain _ h ∙ obtained_form d
  form_read (C.also {w = w} h) = at_class w class.Also _ h
  form_read (C.moreover {w = w} h) = at_class w class.Moreover _ h
  form_read (C.finally {w = w} h) = at_class w class.Finally _ h
  form_read (C.ultimately {w = w} h) = at_class w class.Ultimately _ h
  form_read (C.apply {w = w} h d) = at_class w class.Apply _ h ∙ apply_form d
  form_read (C.using_ {w = w} h d) = at_class w class.Using _ h ∙ facts_form VBody.Using d
  form_read (C.defer {w = w} h d) = at_class w class.Defer _ h ∙ nat_read d
  form_read (C.prefer {w = w} {n = n} h k) = at_class w class.Prefer _ h ∙ number_read n k
  form_read (C.back {w = w} h) = at_class w class.Back _ h
  form_read (C.proof {w = w} h d) = at_class w class.Proof _ h ∙ opt_form VBody.Proof d
  form_read (C.qed {w = w} h d) = at_class w class.Qed _ h ∙ opt_form VBody.Qed d
  form_read (C.by {w = w} h d e) = at_class w class.By _ h ∙ by_read d e
  form_read (C.dot {w = w} h) = at_class w class.Dot _ h
  form_read (C.dots {w = w} h) = at_class w class.Dots _ h
  form_read (C.done_ {w = w} h) = at_class w class.Done _ h
  form_read (C.oops {w = w} h) = at_class w class.Oops _ h
