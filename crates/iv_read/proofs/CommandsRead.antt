-- Axioms, the parts of `method`, statements, notes and obtained names are read as the forms say.
use Rattle.std.proofs.Common.{◌≡◌, ◌≤◌, true, false, List, [], ◌∷◌, ◌++◌, length, refl, sym, ◌∙◌, arith, append_assoc, append-nil, ap}
use Rattle.iv_recogniser.specs.declared.class.Class.TheVariants as class
use Rattle.iv_recogniser.specs.declared.class.Sort.TheVariants as sort
use Rattle.iv_recogniser.specs.Class.{has}
use Rattle.iv_forms.specs.declared.prop.Group.{Group}
use Rattle.iv_forms.specs.declared.prop.VarGroup.{VarGroup}
use Rattle.iv_forms.specs.declared.command.Axiom.{Axiom}
use Rattle.iv_forms.specs.declared.command.Statement.{Statement}
use Rattle.iv_forms.specs.declared.command.Statement.TheVariants as VStatement
use Rattle.iv_forms.specs.declared.lexeme.Lexeme.{Lexeme}
use Rattle.iv_forms.specs.Lexeme.{IsA}
use Rattle.iv_forms.specs.CommandForm as C
use Rattle.iv_forms.specs.CommandForm.{IsAxiom, IsMoreAxioms, IsAxioms, IsFixes, IsAssumes, IsStatement}
use Rattle.iv_facts.specs.Found.{got, then_, begins, behind, many, unless_deep}
use Rattle.iv_facts.specs.FactLevels.{opt_atts_levels, deep_at, deep_opt_label}
use Rattle.iv_readpart.specs.CommandLevels.{deep_axiom, deep_more_axioms, deep_axioms, deep_assumes, deep_statement}
use Rattle.iv_facts.specs.Props as P
use Rattle.iv_readpart.specs.Commands as K
use Rattle.iv_facts.proofs.Steps.{many_stop}
use Rattle.iv_facts.proofs.Held.{then_unless, then_got, or_so}
use Rattle.iv_read.proofs.Lengths.{len_IsAxiom}
use Rattle.iv_read.proofs.Firsts as First
use Rattle.iv_read.specs.Laws.{Below}

module _ (law : Below) where
  an_axiom_read : {x : Axiom} {ts us : List Lexeme} (d : IsAxiom x ts us) → K.an_axiom ts ≡ unless_deep (deep_axiom d) x us
  unfolding K.an_axiom P.text_of then_
  an_axiom_read {us = us} (C.axiom_is {n = n} {c = c} {t = t} {xs = xs} {ts = ts} h a k b) =
      then_got (deep_at (n ∷ ts) (opt_atts_levels a)) (record { name = n.token; atts = xs }) (record { name = n.token; atts = xs; term = t.token }) (c ∷ t ∷ us) us _
      (law.props.named_atts n h a (law.sets.apart (sort.Only class.Left) (sort.Only class.Colon) refl c.class k)) (rw (k, b) refl)

  more_axioms_read : {xs : List Axiom} {ts us : List Lexeme} (d : IsMoreAxioms xs ts us) → begins (sort.Only class.And) us ≡ false
      → (found : List Axiom) (steps : List Lexeme) → length ts ≤ length steps → many (begins (sort.Only class.And)) (λ us. K.an_axiom (behind us)) found steps ts ≡ unless_deep (deep_more_axioms d) (found ++ xs) us
  unfolding many
  more_axioms_read {us = us} C.no_more_axioms e found steps b = many_stop (begins (sort.Only class.And)) (λ us. K.an_axiom (behind us)) found steps us e ∙ ap (λ z. got z us) (sym (append-nil found))
  more_axioms_read (C.more_axioms a d r) e found [] b = absurd (omega (arith, b))
  more_axioms_read (C.more_axioms {x = y} {xs = ys} {us = us} {vs = vs} a d r) e found (_ ∷ steps) b =
      rw a
      (then_unless (deep_axiom d) (deep_more_axioms r) y _ us vs _ (an_axiom_read d)
      (more_axioms_read r e (found ++ y ∷ []) steps (omega (arith, b, len_IsAxiom law d)) ∙ ap (λ z. unless_deep (deep_more_axioms r) z vs) (append_assoc found (y ∷ []) ys)))

  pub axioms_read : {xs : List Axiom} {ts us : List Lexeme} (d : IsAxioms xs ts us) → begins (sort.Only class.Where) us ≡ false → begins (sort.Only class.And) us ≡ false → K.axioms ts ≡ unless_deep (deep_axioms d) xs us
  unfolding K.axioms K.more_axioms
  axioms_read C.no_axioms w e = rw w refl
  axioms_read (C.axioms {x = y} {xs = ys} {us = us} {vs = vs} h d r) w e =
      rw h (then_unless (deep_axiom d) (deep_more_axioms r) y (y ∷ ys) us vs _ (an_axiom_read d) (more_axioms_read r e (y ∷ []) us (omega (arith))))

  fixes_read : {gs : List VarGroup} {ts us : List Lexeme} → IsFixes gs ts us → begins (sort.Only class.Fixes) us ≡ false → begins (sort.Only class.Colons) us ≡ false → begins sort.Identifier us ≡ false
      → begins (sort.Only class.And) us ≡ false → K.fixes ts ≡ got gs us
  unfolding K.fixes
  fixes_read C.no_fixes w c i a = rw w refl
  fixes_read (C.fixes h v) w c i a = rw h (law.names.vars v c i a)

  assumes_read : {gs : List Group} {ts us : List Lexeme} (d : IsAssumes gs ts us) → begins (sort.Only class.Assumes) us ≡ false → begins (sort.Only class.Open) us ≡ false → begins sort.Term us ≡ false
      → begins (sort.Only class.Colon) us ≡ false → begins (sort.Only class.Left) us ≡ false → begins (sort.Only class.And) us ≡ false → K.assumes ts ≡ unless_deep (deep_assumes d) gs us
  unfolding K.assumes
  assumes_read C.no_assumes w o t c e a = rw w refl
  assumes_read (C.assumes h v) w o t c e a = rw h (law.props.props v o t c e a)

  -- the words of a long statement
  long_begins : {xs : List VarGroup} {gs : List Group} {us vs ws : List Lexeme} (w : Lexeme) → IsFixes xs us vs → IsAssumes gs vs (w ∷ ws) → IsA class.Shows w → K.begins_long us ≡ true
  unfolding K.begins_long
  long_begins w (C.fixes h v) a s = rw h refl
  long_begins {us = us} w C.no_fixes (C.assumes h v) s = or_so (begins (sort.Only class.Fixes) us) (rw h refl)
  long_begins {us = us} w C.no_fixes C.no_assumes s = or_so (begins (sort.Only class.Fixes) us) (or_so (begins (sort.Only class.Assumes) us) s)

  -- no label stands in front of them
  no_label_long : {xs : List VarGroup} {gs : List Group} {us vs ws : List Lexeme} (w : Lexeme) → IsFixes xs us vs → IsAssumes gs vs (w ∷ ws) → IsA class.Shows w → P.begins_label us ≡ false
  unfolding P.begins_label
  no_label_long {us = us} w f a s =
      let left : begins (sort.Only class.Left) us ≡ false =
      First.free_IsFixes law (sort.Only class.Left) refl f (First.free_IsAssumes law (sort.Only class.Left) refl a (law.sets.apart (sort.Only class.Left) (sort.Only class.Shows) refl w.class s)) in
      let name : begins sort.Name us ≡ false = First.free_IsFixes law sort.Name refl f (First.free_IsAssumes law sort.Name refl a (law.sets.apart sort.Name (sort.Only class.Shows) refl w.class s)) in
      rw (left, name) refl

  pub statement_read : {s : Statement} {ts us : List Lexeme} (d : IsStatement s ts us) → begins (sort.Only class.Open) us ≡ false → begins (sort.Only class.Colon) us ≡ false → begins (sort.Only class.Left) us ≡ false
      → K.statement ts ≡ unless_deep (deep_statement d) s us
  unfolding K.statement K.begins_long then_
  statement_read (C.short {l = l} {p = p} {us = us} {vs = vs} d q) o c e =
      then_got (deep_opt_label d) l (VStatement.Short l p) us vs _ (law.props.opt_label d (law.props.no_label q c e))
      (rw (law.firsts.prop (sort.Only class.Fixes) refl q, law.firsts.prop (sort.Only class.Assumes) refl q, law.firsts.prop (sort.Only class.Shows) refl q, law.props.prop q o) refl)
  statement_read (C.long {l = l} {xs = xs} {gs = gs} {w = w} {p = p} {us = us} {vs = vs} {ws = ws} {ys = ys} d f a s q) o c e =
      let not_fixes : has (sort.Only class.Fixes) w.class ≡ false = law.sets.apart (sort.Only class.Fixes) (sort.Only class.Shows) refl w.class s in
      let not_colons : has (sort.Only class.Colons) w.class ≡ false = law.sets.apart (sort.Only class.Colons) (sort.Only class.Shows) refl w.class s in
      let not_name : has sort.Identifier w.class ≡ false = law.sets.apart sort.Identifier (sort.Only class.Shows) refl w.class s in
      let not_and : has (sort.Only class.And) w.class ≡ false = law.sets.apart (sort.Only class.And) (sort.Only class.Shows) refl w.class s in
      let not_assumes : has (sort.Only class.Assumes) w.class ≡ false = law.sets.apart (sort.Only class.Assumes) (sort.Only class.Shows) refl w.class s in
      let not_open : has (sort.Only class.Open) w.class ≡ false = law.sets.apart (sort.Only class.Open) (sort.Only class.Shows) refl w.class s in
      let not_term : has sort.Term w.class ≡ false = law.sets.apart sort.Term (sort.Only class.Shows) refl w.class s in
      let not_colon : has (sort.Only class.Colon) w.class ≡ false = law.sets.apart (sort.Only class.Colon) (sort.Only class.Shows) refl w.class s in
      let not_left : has (sort.Only class.Left) w.class ≡ false = law.sets.apart (sort.Only class.Left) (sort.Only class.Shows) refl w.class s in
      then_unless (deep_opt_label d) (deep_assumes a) l (VStatement.Long l xs gs p) us ys _ (law.props.opt_label d (no_label_long w f a s))
      (rw (
        long_begins w f a s,
        fixes_read f (First.free_IsAssumes law (sort.Only class.Fixes) refl a not_fixes) (First.free_IsAssumes law (sort.Only class.Colons) refl a not_colons)
            (First.free_IsAssumes law sort.Identifier refl a not_name) (First.free_IsAssumes law (sort.Only class.And) refl a not_and),
      )
      (then_got (deep_assumes a) gs (VStatement.Long l xs gs p) (w ∷ ws) ys _ (assumes_read a not_assumes not_open not_term not_colon not_left not_and) (rw (s, law.props.prop q o) refl)))
