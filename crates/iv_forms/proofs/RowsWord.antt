-- Written by tools/outer_means.py from tools/meanings.txt.
-- What the rows of the table mean.
use Rattle.std.proofs.Common.{List, [], ◌∷◌, subst, inl, inr}
use Rattle.iv_recogniser.specs.declared.part.Part.TheVariants as P
use Rattle.iv_recogniser.specs.declared.part.Symbol.{Symbol}
use Rattle.iv_recogniser.specs.declared.part.Symbol.TheVariants.{Goes}
use Rattle.iv_recogniser.specs.Table.{ALSO, APPLY, ASSUME, AXIOMATIZATION, BACK, BEGIN, BY, CHAPTER, COLONS, CONSTS, COROLLARY, DECLARE, DEFER, DEFINE, DONE, DOT, DOTS, END, EQUAL, FINALLY, FIX, FROM, HAVE, HENCE, IDENTIFIER, IMPORTS, JUDGMENT, LEFT_BRACE, LEMMA, LEMMAS, LET, METHOD, MOREOVER, NAME, NAMED_THEOREMS, NEXT, NOTE, NUMERAL, OBTAIN, OOPS, PARAGRAPH, PREFER, PRESUME, PROOF, PROPOSITION, PROSE, QED, QUOTED, RIGHT_BRACE, SECTION, SHOW, SUBPARAGRAPH, SUBSECTION, SUBSUBSECTION, TERM, THEN, THEOREM, THEORY, THUS, TXT, TYPE, TYPEDECL, ULTIMATELY, USING, WHERE, WITH}
use Rattle.iv_forms.specs.declared.lexeme.Lexeme.{Lexeme}
use Rattle.iv_forms.specs.CommandForm.{also, apply, assume, axiomatization, back, by, chapter, consts, corollary, declare, defer, define, done_, dot, dots, end_, equation, finally, fix, from, have, hence, judgment, left_brace, lemma_, lemmas, let_, method_, moreover, named_theorems, next_, note, obtain, oops, paragraph, prefer, presume, proof, proposition, prose, qed, right_brace, section_, show, subparagraph, subsection, subsubsection, then_, theorem_, theory, thus, txt, typedecl, ultimately, using_, with_}
use Rattle.iv_forms.proofs.Sorts.{Law}
use Rattle.iv_forms.proofs.Means.{Means, MeansPart, end, phrase, token}
use Rattle.iv_recogniser.specs.Table.{forms}
use Rattle.iv_recogniser.specs.Spell.{IsIn}

module _ (law : Law) where
  pub row_command_0 : {ts us : List Lexeme} → Means (THEORY ∷ NAME ∷ IMPORTS ∷ NAME ∷ Goes P.Names ∷ BEGIN ∷ []) ts us → MeansPart P.Command ts us
  row_command_0 (token W w (token N n (token I i (token M m (phrase ms (token B b end)))))) = (_, theory w n i m ms.1 b)

  pub row_command_1 : {ts us : List Lexeme} → Means (END ∷ []) ts us → MeansPart P.Command ts us
  row_command_1 (token W w end) = (_, end_ w)

  pub row_command_2 : {ts us : List Lexeme} → Means (CHAPTER ∷ QUOTED ∷ []) ts us → MeansPart P.Command ts us
  row_command_2 (token W w (token Q q end)) = (_, chapter w q)

  pub row_command_3 : {ts us : List Lexeme} → Means (SECTION ∷ QUOTED ∷ []) ts us → MeansPart P.Command ts us
  row_command_3 (token W w (token Q q end)) = (_, section_ w q)

  pub row_command_4 : {ts us : List Lexeme} → Means (SUBSECTION ∷ QUOTED ∷ []) ts us → MeansPart P.Command ts us
  row_command_4 (token W w (token Q q end)) = (_, subsection w q)

  pub row_command_5 : {ts us : List Lexeme} → Means (SUBSUBSECTION ∷ QUOTED ∷ []) ts us → MeansPart P.Command ts us
  row_command_5 (token W w (token Q q end)) = (_, subsubsection w q)

  pub row_command_6 : {ts us : List Lexeme} → Means (PARAGRAPH ∷ QUOTED ∷ []) ts us → MeansPart P.Command ts us
  row_command_6 (token W w (token Q q end)) = (_, paragraph w q)

  pub row_command_7 : {ts us : List Lexeme} → Means (SUBPARAGRAPH ∷ QUOTED ∷ []) ts us → MeansPart P.Command ts us
  row_command_7 (token W w (token Q q end)) = (_, subparagraph w q)

  pub row_command_8 : {ts us : List Lexeme} → Means (PROSE ∷ QUOTED ∷ []) ts us → MeansPart P.Command ts us
  row_command_8 (token W w (token Q q end)) = (_, prose w q)

  pub row_command_9 : {ts us : List Lexeme} → Means (TXT ∷ QUOTED ∷ []) ts us → MeansPart P.Command ts us
  row_command_9 (token W w (token Q q end)) = (_, txt w q)

  pub row_command_10 : {ts us : List Lexeme} → Means (TYPEDECL ∷ Goes P.Typed ∷ []) ts us → MeansPart P.Command ts us
  row_command_10 (token W w (phrase t end)) = (_, typedecl w t.2 t.3)

  pub row_command_11 : {ts us : List Lexeme} → Means (CONSTS ∷ Goes P.Const ∷ Goes P.MoreConsts ∷ []) ts us → MeansPart P.Command ts us
  row_command_11 (token W w (phrase x (phrase xs end))) = (_, consts w x.1 xs.1)

  pub row_command_12 : {ts us : List Lexeme} → Means (JUDGMENT ∷ IDENTIFIER ∷ COLONS ∷ TYPE ∷ Goes P.JudgmentForm ∷ []) ts us → MeansPart P.Command ts us
  row_command_12 (token W w (token X x (token C c (token T t (phrase j end))))) = (_, judgment w x c t j)

  pub row_command_13 : {ts us : List Lexeme} → Means (AXIOMATIZATION ∷ Goes P.Axiomatized ∷ []) ts us → MeansPart P.Command ts us
  row_command_13 (token W w (phrase r end)) = (_, axiomatization w r.3 r.4)

  pub row_command_14 : {ts us : List Lexeme} → Means (LEMMAS ∷ NAME ∷ Goes P.OptAtts ∷ EQUAL ∷ Goes P.Facts ∷ []) ts us → MeansPart P.Command ts us
  row_command_14 (token W w (token N n (phrase xs (token E e (phrase fs end))))) = (_, lemmas w n xs.1 e fs.1)

  pub row_command_15 : {ts us : List Lexeme} → Means (DECLARE ∷ Goes P.Facts ∷ []) ts us → MeansPart P.Command ts us
  row_command_15 (token W w (phrase fs end)) = (_, declare w fs.1)

  pub row_command_16 : {ts us : List Lexeme} → Means (NAMED_THEOREMS ∷ IDENTIFIER ∷ []) ts us → MeansPart P.Command ts us
  row_command_16 (token W w (token X x end)) = (_, named_theorems w x)

  pub row_command_17 : {ts us : List Lexeme} → Means (METHOD ∷ IDENTIFIER ∷ Goes P.OptFor ∷ Goes P.Parts ∷ []) ts us → MeansPart P.Command ts us
  row_command_17 (token W w (token X x (phrase gs (phrase r end)))) = (_, method_ w x gs.1 r.4 r.5 r.6)

  pub row_command_18 : {ts us : List Lexeme} → Means (LEMMA ∷ Goes P.Statement ∷ []) ts us → MeansPart P.Command ts us
  row_command_18 (token W w (phrase s end)) = (_, lemma_ w s.1)

  pub row_command_19 : {ts us : List Lexeme} → Means (THEOREM ∷ Goes P.Statement ∷ []) ts us → MeansPart P.Command ts us
  row_command_19 (token W w (phrase s end)) = (_, theorem_ w s.1)

  pub row_command_20 : {ts us : List Lexeme} → Means (COROLLARY ∷ Goes P.Statement ∷ []) ts us → MeansPart P.Command ts us
  row_command_20 (token W w (phrase s end)) = (_, corollary w s.1)

  pub row_command_21 : {ts us : List Lexeme} → Means (PROPOSITION ∷ Goes P.Statement ∷ []) ts us → MeansPart P.Command ts us
  row_command_21 (token W w (phrase s end)) = (_, proposition w s.1)

  pub row_command_22 : {ts us : List Lexeme} → Means (FIX ∷ Goes P.Vars ∷ []) ts us → MeansPart P.Command ts us
  row_command_22 (token W w (phrase gs end)) = (_, fix w gs.1)

  pub row_command_23 : {ts us : List Lexeme} → Means (ASSUME ∷ Goes P.Props ∷ []) ts us → MeansPart P.Command ts us
  row_command_23 (token W w (phrase gs end)) = (_, assume w gs.1)

  pub row_command_24 : {ts us : List Lexeme} → Means (PRESUME ∷ Goes P.Props ∷ []) ts us → MeansPart P.Command ts us
  row_command_24 (token W w (phrase gs end)) = (_, presume w gs.1)

  pub row_command_25 : {ts us : List Lexeme} → Means (DEFINE ∷ IDENTIFIER ∷ Goes P.OfType ∷ WHERE ∷ Goes P.LabelledTerm ∷ []) ts us → MeansPart P.Command ts us
  row_command_25 (token W w (token X x (phrase t (token H h (phrase l end))))) = (_, define w x t.1 h l.2 l.3)

  pub row_command_26 : {ts us : List Lexeme} → Means (NOTE ∷ NAME ∷ Goes P.NoteName ∷ []) ts us → MeansPart P.Command ts us
  row_command_26 (token W w (token N n (phrase f end))) = (_, note w (f N n).1)

  pub row_command_27 : {ts us : List Lexeme} → Means (LET ∷ TERM ∷ EQUAL ∷ TERM ∷ Goes P.MoreEquations ∷ []) ts us → MeansPart P.Command ts us
  row_command_27 (token W w (token P p (token E e (token T t (phrase xs end))))) = (_, let_ w (equation p e t) xs.1)

  pub row_command_28 : {ts us : List Lexeme} → Means (LEFT_BRACE ∷ []) ts us → MeansPart P.Command ts us
  row_command_28 (token W w end) = (_, left_brace w)

  pub row_command_29 : {ts us : List Lexeme} → Means (RIGHT_BRACE ∷ []) ts us → MeansPart P.Command ts us
  row_command_29 (token W w end) = (_, right_brace w)

  pub row_command_30 : {ts us : List Lexeme} → Means (NEXT ∷ []) ts us → MeansPart P.Command ts us
  row_command_30 (token W w end) = (_, next_ w)

  pub row_command_31 : {ts us : List Lexeme} → Means (THEN ∷ []) ts us → MeansPart P.Command ts us
  row_command_31 (token W w end) = (_, then_ w)

  pub row_command_32 : {ts us : List Lexeme} → Means (FROM ∷ Goes P.Facts ∷ []) ts us → MeansPart P.Command ts us
  row_command_32 (token W w (phrase fs end)) = (_, from w fs.1)

  pub row_command_33 : {ts us : List Lexeme} → Means (WITH ∷ Goes P.Facts ∷ []) ts us → MeansPart P.Command ts us
  row_command_33 (token W w (phrase fs end)) = (_, with_ w fs.1)

  pub row_command_34 : {ts us : List Lexeme} → Means (HAVE ∷ Goes P.Claim ∷ []) ts us → MeansPart P.Command ts us
  row_command_34 (token W w (phrase c end)) = (_, have w c.1)

  pub row_command_35 : {ts us : List Lexeme} → Means (SHOW ∷ Goes P.Claim ∷ []) ts us → MeansPart P.Command ts us
  row_command_35 (token W w (phrase c end)) = (_, show w c.1)

  pub row_command_36 : {ts us : List Lexeme} → Means (HENCE ∷ Goes P.Claim ∷ []) ts us → MeansPart P.Command ts us
  row_command_36 (token W w (phrase c end)) = (_, hence w c.1)

  pub row_command_37 : {ts us : List Lexeme} → Means (THUS ∷ Goes P.Claim ∷ []) ts us → MeansPart P.Command ts us
  row_command_37 (token W w (phrase c end)) = (_, thus w c.1)

  pub row_command_38 : {ts us : List Lexeme} → Means (OBTAIN ∷ Goes P.Obtained ∷ []) ts us → MeansPart P.Command ts us
  row_command_38 (token W w (phrase o end)) = (_, obtain w o.1)

  pub row_command_39 : {ts us : List Lexeme} → Means (ALSO ∷ []) ts us → MeansPart P.Command ts us
  row_command_39 (token W w end) = (_, also w)

  pub row_command_40 : {ts us : List Lexeme} → Means (MOREOVER ∷ []) ts us → MeansPart P.Command ts us
  row_command_40 (token W w end) = (_, moreover w)

  pub row_command_41 : {ts us : List Lexeme} → Means (FINALLY ∷ []) ts us → MeansPart P.Command ts us
  row_command_41 (token W w end) = (_, finally w)

  pub row_command_42 : {ts us : List Lexeme} → Means (ULTIMATELY ∷ []) ts us → MeansPart P.Command ts us
  row_command_42 (token W w end) = (_, ultimately w)

  pub row_command_43 : {ts us : List Lexeme} → Means (APPLY ∷ Goes P.Method ∷ []) ts us → MeansPart P.Command ts us
  row_command_43 (token W w (phrase m end)) = (_, apply w m.1)

  pub row_command_44 : {ts us : List Lexeme} → Means (USING ∷ Goes P.Facts ∷ []) ts us → MeansPart P.Command ts us
  row_command_44 (token W w (phrase fs end)) = (_, using_ w fs.1)

  pub row_command_45 : {ts us : List Lexeme} → Means (DEFER ∷ Goes P.OptNat ∷ []) ts us → MeansPart P.Command ts us
  row_command_45 (token W w (phrase n end)) = (_, defer w n.1)

  pub row_command_46 : {ts us : List Lexeme} → Means (PREFER ∷ NUMERAL ∷ []) ts us → MeansPart P.Command ts us
  row_command_46 (token W w (token N n end)) = (_, prefer w n)

  pub row_command_47 : {ts us : List Lexeme} → Means (BACK ∷ []) ts us → MeansPart P.Command ts us
  row_command_47 (token W w end) = (_, back w)

  pub row_command_48 : {ts us : List Lexeme} → Means (PROOF ∷ Goes P.OptMethod ∷ []) ts us → MeansPart P.Command ts us
  row_command_48 (token W w (phrase m end)) = (_, proof w m.1)

  pub row_command_49 : {ts us : List Lexeme} → Means (QED ∷ Goes P.OptMethod ∷ []) ts us → MeansPart P.Command ts us
  row_command_49 (token W w (phrase m end)) = (_, qed w m.1)

  pub row_command_50 : {ts us : List Lexeme} → Means (BY ∷ Goes P.Method ∷ Goes P.OptMethod ∷ []) ts us → MeansPart P.Command ts us
  row_command_50 (token W w (phrase m (phrase n end))) = (_, by w m.1 n.1)

  pub row_command_51 : {ts us : List Lexeme} → Means (DOT ∷ []) ts us → MeansPart P.Command ts us
  row_command_51 (token W w end) = (_, dot w)

  pub row_command_52 : {ts us : List Lexeme} → Means (DOTS ∷ []) ts us → MeansPart P.Command ts us
  row_command_52 (token W w end) = (_, dots w)

  pub row_command_53 : {ts us : List Lexeme} → Means (DONE ∷ []) ts us → MeansPart P.Command ts us
  row_command_53 (token W w end) = (_, done_ w)

  pub row_command_54 : {ts us : List Lexeme} → Means (OOPS ∷ []) ts us → MeansPart P.Command ts us
  row_command_54 (token W w end) = (_, oops w)

  pub part_command : (r : List Symbol) → IsIn r (forms P.Command) → {ts us : List Lexeme} → Means r ts us → MeansPart P.Command ts us
  part_command r (inl e) {ts = ts} {us = us} m = row_command_0 (subst (λ q. Means q ts us) e m)
  part_command r (inr (inl e)) {ts = ts} {us = us} m = row_command_1 (subst (λ q. Means q ts us) e m)
  part_command r (inr (inr (inl e))) {ts = ts} {us = us} m = row_command_2 (subst (λ q. Means q ts us) e m)
  part_command r (inr (inr (inr (inl e)))) {ts = ts} {us = us} m = row_command_3 (subst (λ q. Means q ts us) e m)
  part_command r (inr (inr (inr (inr (inl e))))) {ts = ts} {us = us} m = row_command_4 (subst (λ q. Means q ts us) e m)
  part_command r (inr (inr (inr (inr (inr (inl e)))))) {ts = ts} {us = us} m = row_command_5 (subst (λ q. Means q ts us) e m)
  part_command r (inr (inr (inr (inr (inr (inr (inl e))))))) {ts = ts} {us = us} m = row_command_6 (subst (λ q. Means q ts us) e m)
  part_command r (inr (inr (inr (inr (inr (inr (inr (inl e)))))))) {ts = ts} {us = us} m = row_command_7 (subst (λ q. Means q ts us) e m)
  part_command r (inr (inr (inr (inr (inr (inr (inr (inr (inl e))))))))) {ts = ts} {us = us} m = row_command_8 (subst (λ q. Means q ts us) e m)
  part_command r (inr (inr (inr (inr (inr (inr (inr (inr (inr (inl e)))))))))) {ts = ts} {us = us} m = row_command_9 (subst (λ q. Means q ts us) e m)
  part_command r (inr (inr (inr (inr (inr (inr (inr (inr (inr (inr (inl e))))))))))) {ts = ts} {us = us} m = row_command_10 (subst (λ q. Means q ts us) e m)
  part_command r (inr (inr (inr (inr (inr (inr (inr (inr (inr (inr (inr (inl e)))))))))))) {ts = ts} {us = us} m = row_command_11 (subst (λ q. Means q ts us) e m)
  part_command r (inr (inr (inr (inr (inr (inr (inr (inr (inr (inr (inr (inr (inl e))))))))))))) {ts = ts} {us = us} m = row_command_12 (subst (λ q. Means q ts us) e m)
  part_command r (inr (inr (inr (inr (inr (inr (inr (inr (inr (inr (inr (inr (inr (inl e)))))))))))))) {ts = ts} {us = us} m = row_command_13 (subst (λ q. Means q ts us) e m)
  part_command r (inr (inr (inr (inr (inr (inr (inr (inr (inr (inr (inr (inr (inr (inr (inl e))))))))))))))) {ts = ts} {us = us} m = row_command_14 (subst (λ q. Means q ts us) e m)
  part_command r (inr (inr (inr (inr (inr (inr (inr (inr (inr (inr (inr (inr (inr (inr (inr (inl e)))))))))))))))) {ts = ts} {us = us} m = row_command_15 (subst (λ q. Means q ts us) e m)
  part_command r (inr (inr (inr (inr (inr (inr (inr (inr (inr (inr (inr (inr (inr (inr (inr (inr (inl e))))))))))))))))) {ts = ts} {us = us} m = row_command_16 (subst (λ q. Means q ts us) e m)
  part_command r (inr (inr (inr (inr (inr (inr (inr (inr (inr (inr (inr (inr (inr (inr (inr (inr (inr (inl e)))))))))))))))))) {ts = ts} {us = us} m = row_command_17 (subst (λ q. Means q ts us) e m)
  part_command r (inr (inr (inr (inr (inr (inr (inr (inr (inr (inr (inr (inr (inr (inr (inr (inr (inr (inr (inl e))))))))))))))))))) {ts = ts} {us = us} m = row_command_18 (subst (λ q. Means q ts us) e m)
  part_command r (inr (inr (inr (inr (inr (inr (inr (inr (inr (inr (inr (inr (inr (inr (inr (inr (inr (inr (inr (inl e)))))))))))))))))))) {ts = ts} {us = us} m = row_command_19 (subst (λ q. Means q ts us) e m)
  part_command r (inr (inr (inr (inr (inr (inr (inr (inr (inr (inr (inr (inr (inr (inr (inr (inr (inr (inr (inr (inr (inl e))))))))))))))))))))) {ts = ts} {us = us} m = row_command_20 (subst (λ q. Means q ts us) e m)
  part_command r (inr (inr (inr (inr (inr (inr (inr (inr (inr (inr (inr (inr (inr (inr (inr (inr (inr (inr (inr (inr (inr (inl e)))))))))))))))))))))) {ts = ts} {us = us} m = row_command_21 (subst (λ q. Means q ts us) e m)
  part_command r (inr (inr (inr (inr (inr (inr (inr (inr (inr (inr (inr (inr (inr (inr (inr (inr (inr (inr (inr (inr (inr (inr (inl e))))))))))))))))))))))) {ts = ts} {us = us} m = row_command_22 (subst (λ q. Means q ts us) e m)
  part_command r (inr (inr (inr (inr (inr (inr (inr (inr (inr (inr (inr (inr (inr (inr (inr (inr (inr (inr (inr (inr (inr (inr (inr (inl e)))))))))))))))))))))))) {ts = ts} {us = us} m = row_command_23 (subst (λ q. Means q ts us) e m)
  part_command r (inr (inr (inr (inr (inr (inr (inr (inr (inr (inr (inr (inr (inr (inr (inr (inr (inr (inr (inr (inr (inr (inr (inr (inr (inl e))))))))))))))))))))))))) {ts = ts} {us = us} m = row_command_24 (subst (λ q. Means q ts us) e m)
  part_command r (inr (inr (inr (inr (inr (inr (inr (inr (inr (inr (inr (inr (inr (inr (inr (inr (inr (inr (inr (inr (inr (inr (inr (inr (inr (inl e)))))))))))))))))))))))))) {ts = ts} {us = us} m = row_command_25 (subst (λ q. Means q ts us) e m)
  part_command r (inr (inr (inr (inr (inr (inr (inr (inr (inr (inr (inr (inr (inr (inr (inr (inr (inr (inr (inr (inr (inr (inr (inr (inr (inr (inr (inl e))))))))))))))))))))))))))) {ts = ts} {us = us} m = row_command_26 (subst (λ q. Means q ts us) e m)
  part_command r (inr (inr (inr (inr (inr (inr (inr (inr (inr (inr (inr (inr (inr (inr (inr (inr (inr (inr (inr (inr (inr (inr (inr (inr (inr (inr (inr (inl e)))))))))))))))))))))))))))) {ts = ts} {us = us} m = row_command_27 (subst (λ q. Means q ts us) e m)
  part_command r (inr (inr (inr (inr (inr (inr (inr (inr (inr (inr (inr (inr (inr (inr (inr (inr (inr (inr (inr (inr (inr (inr (inr (inr (inr (inr (inr (inr (inl e))))))))))))))))))))))))))))) {ts = ts} {us = us} m = row_command_28 (subst (λ q. Means q ts us) e m)
  part_command r (inr (inr (inr (inr (inr (inr (inr (inr (inr (inr (inr (inr (inr (inr (inr (inr (inr (inr (inr (inr (inr (inr (inr (inr (inr (inr (inr (inr (inr (inl e)))))))))))))))))))))))))))))) {ts = ts} {us = us} m = row_command_29 (subst (λ q. Means q ts us) e m)
  part_command r (inr (inr (inr (inr (inr (inr (inr (inr (inr (inr (inr (inr (inr (inr (inr (inr (inr (inr (inr (inr (inr (inr (inr (inr (inr (inr (inr (inr (inr (inr (inl e))))))))))))))))))))))))))))))) {ts = ts} {us = us} m = row_command_30 (subst (λ q. Means q ts us) e m)
  part_command r (inr (inr (inr (inr (inr (inr (inr (inr (inr (inr (inr (inr (inr (inr (inr (inr (inr (inr (inr (inr (inr (inr (inr (inr (inr (inr (inr (inr (inr (inr (inr (inl e)))))))))))))))))))))))))))))))) {ts = ts} {us = us} m = row_command_31 (subst (λ q. Means q ts us) e m)
  part_command r (inr (inr (inr (inr (inr (inr (inr (inr (inr (inr (inr (inr (inr (inr (inr (inr (inr (inr (inr (inr (inr (inr (inr (inr (inr (inr (inr (inr (inr (inr (inr (inr (inl e))))))))))))))))))))))))))))))))) {ts = ts} {us = us} m = row_command_32 (subst (λ q. Means q ts us) e m)
  part_command r (inr (inr (inr (inr (inr (inr (inr (inr (inr (inr (inr (inr (inr (inr (inr (inr (inr (inr (inr (inr (inr (inr (inr (inr (inr (inr (inr (inr (inr (inr (inr (inr (inr (inl e)))))))))))))))))))))))))))))))))) {ts = ts} {us = us} m = row_command_33 (subst (λ q. Means q ts us) e m)
  part_command r (inr (inr (inr (inr (inr (inr (inr (inr (inr (inr (inr (inr (inr (inr (inr (inr (inr (inr (inr (inr (inr (inr (inr (inr (inr (inr (inr (inr (inr (inr (inr (inr (inr (inr (inl e))))))))))))))))))))))))))))))))))) {ts = ts} {us = us} m = row_command_34 (subst (λ q. Means q ts us) e m)
  part_command r (inr (inr (inr (inr (inr (inr (inr (inr (inr (inr (inr (inr (inr (inr (inr (inr (inr (inr (inr (inr (inr (inr (inr (inr (inr (inr (inr (inr (inr (inr (inr (inr (inr (inr (inr (inl e)))))))))))))))))))))))))))))))))))) {ts = ts} {us = us} m = row_command_35 (subst (λ q. Means q ts us) e m)
  part_command r (inr (inr (inr (inr (inr (inr (inr (inr (inr (inr (inr (inr (inr (inr (inr (inr (inr (inr (inr (inr (inr (inr (inr (inr (inr (inr (inr (inr (inr (inr (inr (inr (inr (inr (inr (inr (inl e))))))))))))))))))))))))))))))))))))) {ts = ts} {us = us} m = row_command_36 (subst (λ q. Means q ts us) e m)
  part_command r (inr (inr (inr (inr (inr (inr (inr (inr (inr (inr (inr (inr (inr (inr (inr (inr (inr (inr (inr (inr (inr (inr (inr (inr (inr (inr (inr (inr (inr (inr (inr (inr (inr (inr (inr (inr (inr (inl e)))))))))))))))))))))))))))))))))))))) {ts = ts} {us = us} m = row_command_37 (subst (λ q. Means q ts us) e m)
  part_command r (inr (inr (inr (inr (inr (inr (inr (inr (inr (inr (inr (inr (inr (inr (inr (inr (inr (inr (inr (inr (inr (inr (inr (inr (inr (inr (inr (inr (inr (inr (inr (inr (inr (inr (inr (inr (inr (inr (inl e))))))))))))))))))))))))))))))))))))))) {ts = ts} {us = us} m = row_command_38 (subst (λ q. Means q ts us) e m)
  part_command r (inr (inr (inr (inr (inr (inr (inr (inr (inr (inr (inr (inr (inr (inr (inr (inr (inr (inr (inr (inr (inr (inr (inr (inr (inr (inr (inr (inr (inr (inr (inr (inr (inr (inr (inr (inr (inr (inr (inr (inl e)))))))))))))))))))))))))))))))))))))))) {ts = ts} {us = us} m = row_command_39 (subst (λ q. Means q ts us) e m)
  part_command r (inr (inr (inr (inr (inr (inr (inr (inr (inr (inr (inr (inr (inr (inr (inr (inr (inr (inr (inr (inr (inr (inr (inr (inr (inr (inr (inr (inr (inr (inr (inr (inr (inr (inr (inr (inr (inr (inr (inr (inr (inl e))))))))))))))))))))))))))))))))))))))))) {ts = ts} {us = us} m = row_command_40 (subst (λ q. Means q ts us) e m)
  part_command r (inr (inr (inr (inr (inr (inr (inr (inr (inr (inr (inr (inr (inr (inr (inr (inr (inr (inr (inr (inr (inr (inr (inr (inr (inr (inr (inr (inr (inr (inr (inr (inr (inr (inr (inr (inr (inr (inr (inr (inr (inr (inl e)))))))))))))))))))))))))))))))))))))))))) {ts = ts} {us = us} m = row_command_41 (subst (λ q. Means q ts us) e m)
  part_command r (inr (inr (inr (inr (inr (inr (inr (inr (inr (inr (inr (inr (inr (inr (inr (inr (inr (inr (inr (inr (inr (inr (inr (inr (inr (inr (inr (inr (inr (inr (inr (inr (inr (inr (inr (inr (inr (inr (inr (inr (inr (inr (inl e))))))))))))))))))))))))))))))))))))))))))) {ts = ts} {us = us} m = row_command_42 (subst (λ q. Means q ts us) e m)
  part_command r (inr (inr (inr (inr (inr (inr (inr (inr (inr (inr (inr (inr (inr (inr (inr (inr (inr (inr (inr (inr (inr (inr (inr (inr (inr (inr (inr (inr (inr (inr (inr (inr (inr (inr (inr (inr (inr (inr (inr (inr (inr (inr (inr (inl e)))))))))))))))))))))))))))))))))))))))))))) {ts = ts} {us = us} m = row_command_43 (subst (λ q. Means q ts us) e m)
  part_command r (inr (inr (inr (inr (inr (inr (inr (inr (inr (inr (inr (inr (inr (inr (inr (inr (inr (inr (inr (inr (inr (inr (inr (inr (inr (inr (inr (inr (inr (inr (inr (inr (inr (inr (inr (inr (inr (inr (inr (inr (inr (inr (inr (inr (inl e))))))))))))))))))))))))))))))))))))))))))))) {ts = ts} {us = us} m = row_command_44 (subst (λ q. Means q ts us) e m)
  part_command r (inr (inr (inr (inr (inr (inr (inr (inr (inr (inr (inr (inr (inr (inr (inr (inr (inr (inr (inr (inr (inr (inr (inr (inr (inr (inr (inr (inr (inr (inr (inr (inr (inr (inr (inr (inr (inr (inr (inr (inr (inr (inr (inr (inr (inr (inl e)))))))))))))))))))))))))))))))))))))))))))))) {ts = ts} {us = us} m = row_command_45 (subst (λ q. Means q ts us) e m)
  part_command r (inr (inr (inr (inr (inr (inr (inr (inr (inr (inr (inr (inr (inr (inr (inr (inr (inr (inr (inr (inr (inr (inr (inr (inr (inr (inr (inr (inr (inr (inr (inr (inr (inr (inr (inr (inr (inr (inr (inr (inr (inr (inr (inr (inr (inr (inr (inl e))))))))))))))))))))))))))))))))))))))))))))))) {ts = ts} {us = us} m = row_command_46 (subst (λ q. Means q ts us) e m)
  part_command r (inr (inr (inr (inr (inr (inr (inr (inr (inr (inr (inr (inr (inr (inr (inr (inr (inr (inr (inr (inr (inr (inr (inr (inr (inr (inr (inr (inr (inr (inr (inr (inr (inr (inr (inr (inr (inr (inr (inr (inr (inr (inr (inr (inr (inr (inr (inr (inl e)))))))))))))))))))))))))))))))))))))))))))))))) {ts = ts} {us = us} m = row_command_47 (subst (λ q. Means q ts us) e m)
  part_command r (inr (inr (inr (inr (inr (inr (inr (inr (inr (inr (inr (inr (inr (inr (inr (inr (inr (inr (inr (inr (inr (inr (inr (inr (inr (inr (inr (inr (inr (inr (inr (inr (inr (inr (inr (inr (inr (inr (inr (inr (inr (inr (inr (inr (inr (inr (inr (inr (inl e))))))))))))))))))))))))))))))))))))))))))))))))) {ts = ts} {us = us} m = row_command_48 (subst (λ q. Means q ts us) e m)
  part_command r (inr (inr (inr (inr (inr (inr (inr (inr (inr (inr (inr (inr (inr (inr (inr (inr (inr (inr (inr (inr (inr (inr (inr (inr (inr (inr (inr (inr (inr (inr (inr (inr (inr (inr (inr (inr (inr (inr (inr (inr (inr (inr (inr (inr (inr (inr (inr (inr (inr (inl e)))))))))))))))))))))))))))))))))))))))))))))))))) {ts = ts} {us = us} m = row_command_49 (subst (λ q. Means q ts us) e m)
  part_command r (inr (inr (inr (inr (inr (inr (inr (inr (inr (inr (inr (inr (inr (inr (inr (inr (inr (inr (inr (inr (inr (inr (inr (inr (inr (inr (inr (inr (inr (inr (inr (inr (inr (inr (inr (inr (inr (inr (inr (inr (inr (inr (inr (inr (inr (inr (inr (inr (inr (inr (inl e))))))))))))))))))))))))))))))))))))))))))))))))))) {ts = ts} {us = us} m = row_command_50 (subst (λ q. Means q ts us) e m)
  part_command r (inr (inr (inr (inr (inr (inr (inr (inr (inr (inr (inr (inr (inr (inr (inr (inr (inr (inr (inr (inr (inr (inr (inr (inr (inr (inr (inr (inr (inr (inr (inr (inr (inr (inr (inr (inr (inr (inr (inr (inr (inr (inr (inr (inr (inr (inr (inr (inr (inr (inr (inr (inl e)))))))))))))))))))))))))))))))))))))))))))))))))))) {ts = ts} {us = us} m = row_command_51 (subst (λ q. Means q ts us) e m)
  part_command r (inr (inr (inr (inr (inr (inr (inr (inr (inr (inr (inr (inr (inr (inr (inr (inr (inr (inr (inr (inr (inr (inr (inr (inr (inr (inr (inr (inr (inr (inr (inr (inr (inr (inr (inr (inr (inr (inr (inr (inr (inr (inr (inr (inr (inr (inr (inr (inr (inr (inr (inr (inr (inl e))))))))))))))))))))))))))))))))))))))))))))))))))))) {ts = ts} {us = us} m = row_command_52 (subst (λ q. Means q ts us) e m)
  part_command r (inr (inr (inr (inr (inr (inr (inr (inr (inr (inr (inr (inr (inr (inr (inr (inr (inr (inr (inr (inr (inr (inr (inr (inr (inr (inr (inr (inr (inr (inr (inr (inr (inr (inr (inr (inr (inr (inr (inr (inr (inr (inr (inr (inr (inr (inr (inr (inr (inr (inr (inr (inr (inr (inl e)))))))))))))))))))))))))))))))))))))))))))))))))))))) {ts = ts} {us = us} m = row_command_53 (subst (λ q. Means q ts us) e m)
  part_command r (inr (inr (inr (inr (inr (inr (inr (inr (inr (inr (inr (inr (inr (inr (inr (inr (inr (inr (inr (inr (inr (inr (inr (inr (inr (inr (inr (inr (inr (inr (inr (inr (inr (inr (inr (inr (inr (inr (inr (inr (inr (inr (inr (inr (inr (inr (inr (inr (inr (inr (inr (inr (inr (inr (inl e))))))))))))))))))))))))))))))))))))))))))))))))))))))) {ts = ts} {us = us} m = row_command_54 (subst (λ q. Means q ts us) e m)
  part_command r (inr (inr (inr (inr (inr (inr (inr (inr (inr (inr (inr (inr (inr (inr (inr (inr (inr (inr (inr (inr (inr (inr (inr (inr (inr (inr (inr (inr (inr (inr (inr (inr (inr (inr (inr (inr (inr (inr (inr (inr (inr (inr (inr (inr (inr (inr (inr (inr (inr (inr (inr (inr (inr (inr (inr (e)))))))))))))))))))))))))))))))))))))))))))))))))))))))) m = elim e [ ]
