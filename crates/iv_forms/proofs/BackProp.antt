-- From the forms back to the table. Written by tools/outer_back.py from tools/back.txt.
use Rattle.std.proofs.Common.{List, [], ◌∷◌, refl, inl, inr}
use Rattle.iv_recogniser.specs.declared.part.Part.TheVariants as P
use Rattle.iv_recogniser.specs.declared.part.Symbol.{Symbol}
use Rattle.iv_recogniser.specs.declared.part.Symbol.TheVariants.{Goes}
use Rattle.iv_recogniser.specs.Table.{AND, CLOSE, COLON, COLONS, FOR, IDENTIFIER, IS, LEFT, NAME, NO_NAME, OPEN, RIGHT, TERM, TYPE}
use Rattle.iv_forms.specs.declared.lexeme.Lexeme.{Lexeme}
use Rattle.iv_forms.specs.FactForm.{atts, no_atts, some_atts}
use Rattle.iv_forms.specs.PropForm.{IsClaim, IsGroup, IsLabel, IsMoreGroups, IsMoreProps, IsMoreVars, IsOfType, IsOptFor, IsPatterns, IsProp, IsProps, IsVars, a_label, bare_label, claim, for_vars, group, more_groups, more_props, more_vars, named_label, no_for, no_label, no_more_groups, no_more_props, no_more_vars, no_patterns, no_type, of_type, patterns, prop, props, var_group, vars}
use Rattle.iv_forms.proofs.Sorts.{Law}
use Rattle.std.specs.Prelude.{Option}
use Rattle.iv_lex.specs.declared.cutting.Token.{Token}
use Rattle.iv_forms.specs.declared.prop.Label.{Label}
use Rattle.iv_forms.specs.declared.prop.Prop.{Prop}
use Rattle.iv_forms.specs.declared.prop.Claim.{Claim}
use Rattle.iv_forms.specs.declared.prop.Group.{Group}
use Rattle.iv_forms.specs.declared.prop.VarGroup.{VarGroup}
use Rattle.iv_recogniser.specs.declared.class.Class.{Class}
use Rattle.iv_recogniser.specs.Table.{forms}
use Rattle.iv_recogniser.specs.Spell.{Spells, word, part}
use Rattle.iv_forms.proofs.Splits.{by_name}
use Rattle.iv_forms.proofs.Splits.{S}
use Rattle.iv_forms.proofs.BackFact.{att_s, idents_s, more_atts_s, terms_s}

module _ (law : Law) where
  -- propositions
  pub patterns_s : {v : List Token} {s : List Symbol} {ts us : List Lexeme} → IsPatterns v ts us → S s us → S (Goes P.Pattern ∷ s) ts
  patterns_s no_patterns d = part ([]) (inl refl) d
  patterns_s (patterns a w t xs b) d = part (OPEN ∷ IS ∷ TERM ∷ Goes P.Terms ∷ CLOSE ∷ []) (inr (inl refl)) (word a (word w (word t (terms_s law xs (word b d)))))

  pub prop_s : {v : Prop} {s : List Symbol} {ts us : List Lexeme} → IsProp v ts us → S s us → S (Goes P.Prop ∷ s) ts
  prop_s (prop t ps) d = part (TERM ∷ Goes P.Pattern ∷ []) (inl refl) (word t (patterns_s ps d))

  pub claim_name_s : {v : List Token} {s : List Symbol} {ts us : List Lexeme} → IsPatterns v ts us → S s us → S (Goes P.ClaimName ∷ s) ts
  claim_name_s no_patterns d = part ([]) (inl refl) d
  claim_name_s (patterns a w t xs b) d = part (OPEN ∷ IS ∷ TERM ∷ Goes P.Terms ∷ CLOSE ∷ []) (inr (inr (inr (inl refl)))) (word a (word w (word t (terms_s law xs (word b d)))))

  pub claim_label : {l : Label} {s : List Symbol} {ts us : List Lexeme} → IsLabel l ts us → S (Goes P.Prop ∷ s) us → S (Goes P.Claim ∷ s) ts
  claim_label (named_label n no_atts c) d = part (NAME ∷ Goes P.ClaimName ∷ []) (inl refl) (word n (part (COLON ∷ Goes P.Prop ∷ []) (inr (inl refl)) (word c d)))
  claim_label (named_label n (some_atts (atts a x xs b)) c) d = part (NAME ∷ Goes P.ClaimName ∷ []) (inl refl) (word n (part (LEFT ∷ Goes P.Att ∷ Goes P.MoreAtts ∷ RIGHT ∷ COLON ∷ Goes P.Prop ∷ []) (inr (inr (inl refl))) (word a (att_s law x (more_atts_s law xs (word b (word c d)))))))
  claim_label (bare_label (atts a x xs b) c) d = part (LEFT ∷ Goes P.Att ∷ Goes P.MoreAtts ∷ RIGHT ∷ COLON ∷ Goes P.Prop ∷ []) (inr (inl refl)) (word a (att_s law x (more_atts_s law xs (word b (word c d)))))

  pub claim_s : {v : Claim} {s : List Symbol} {ts us : List Lexeme} → IsClaim v ts us → S s us → S (Goes P.Claim ∷ s) ts
  claim_s (claim no_label (prop {t = t} h ps)) d = by_name law t h (λ n. part (NAME ∷ Goes P.ClaimName ∷ []) (inl refl) (word n (claim_name_s ps d))) (λ n. part (NO_NAME ∷ Goes P.Pattern ∷ []) (inr (inr (inl refl))) (word n (patterns_s ps d)))
  claim_s (claim (a_label l) p) d = claim_label l (prop_s p d)

  pub more_props_s : {ps : List Prop} {s : List Symbol} {ts us : List Lexeme} → IsMoreProps ps ts us → S (Goes P.MoreProps ∷ s) us → S (Goes P.MoreProps ∷ s) ts
  more_props_s no_more_props d = d
  more_props_s (more_props (prop t pt) ps) d = part (TERM ∷ Goes P.Pattern ∷ Goes P.MoreProps ∷ []) (inr (inl refl)) (word t (patterns_s pt (more_props_s ps d)))

  pub props_wider : {s : List Symbol} {cs : List Class} → Spells forms (Goes P.MoreProps ∷ s) cs → Spells forms (Goes P.PropsName ∷ s) cs
  props_wider (part r (inl e) d) = part r (inl e) d
  props_wider (part r (inr (inl e)) d) = part r (inr (inr (inr (inr (inl e))))) d
  props_wider (part r (inr (inr (inl e))) d) = part r (inr (inr (inr (inr (inr (inl e)))))) d
  props_wider (part r (inr (inr (inr e))) d) = elim e [ ]

  pub props_name_s : {pt : List Token} {s : List Symbol} {ts us : List Lexeme} → IsPatterns pt ts us → S (Goes P.MoreProps ∷ s) us → S (Goes P.PropsName ∷ s) ts
  props_name_s no_patterns d = props_wider d
  props_name_s (patterns a w t xs b) d = part (OPEN ∷ IS ∷ TERM ∷ Goes P.Terms ∷ CLOSE ∷ Goes P.MoreProps ∷ []) (inr (inr (inr (inl refl)))) (word a (word w (word t (terms_s law xs (word b d)))))

  pub props_label : {l : Label} {s : List Symbol} {ts us : List Lexeme} → IsLabel l ts us → S (TERM ∷ Goes P.Pattern ∷ Goes P.MoreProps ∷ s) us → S (Goes P.Props ∷ s) ts
  props_label (named_label n no_atts c) d = part (NAME ∷ Goes P.PropsName ∷ []) (inl refl) (word n (part (COLON ∷ TERM ∷ Goes P.Pattern ∷ Goes P.MoreProps ∷ []) (inr (inl refl)) (word c d)))
  props_label (named_label n (some_atts (atts a x xs b)) c) d = part (NAME ∷ Goes P.PropsName ∷ []) (inl refl) (word n (part (LEFT ∷ Goes P.Att ∷ Goes P.MoreAtts ∷ RIGHT ∷ COLON ∷ TERM ∷ Goes P.Pattern ∷ Goes P.MoreProps ∷ []) (inr (inr (inl refl))) (word a (att_s law x (more_atts_s law xs (word b (word c d)))))))
  props_label (bare_label (atts a x xs b) c) d = part (LEFT ∷ Goes P.Att ∷ Goes P.MoreAtts ∷ RIGHT ∷ COLON ∷ TERM ∷ Goes P.Pattern ∷ Goes P.MoreProps ∷ []) (inr (inl refl)) (word a (att_s law x (more_atts_s law xs (word b (word c d)))))

  pub group_s : {g : Group} {s : List Symbol} {ts us : List Lexeme} → IsGroup g ts us → S (Goes P.MoreProps ∷ s) us → S (Goes P.Props ∷ s) ts
  group_s (group no_label (prop {t = t} h pt) ps) d = by_name law t h (λ n. part (NAME ∷ Goes P.PropsName ∷ []) (inl refl) (word n (props_name_s pt (more_props_s ps d)))) (λ n. part (NO_NAME ∷ Goes P.Pattern ∷ Goes P.MoreProps ∷ []) (inr (inr (inl refl))) (word n (patterns_s pt (more_props_s ps d))))
  group_s (group (a_label l) (prop t pt) ps) d = props_label l (word t (patterns_s pt (more_props_s ps d)))

  pub more_groups_s : {v : List Group} {s : List Symbol} {ts us : List Lexeme} → IsMoreGroups v ts us → S s us → S (Goes P.MoreProps ∷ s) ts
  more_groups_s no_more_groups d = part ([]) (inl refl) d
  more_groups_s (more_groups a g gs) d = part (AND ∷ Goes P.Props ∷ []) (inr (inr (inl refl))) (word a (group_s g (more_groups_s gs d)))

  pub props_s : {v : List Group} {s : List Symbol} {ts us : List Lexeme} → IsProps v ts us → S s us → S (Goes P.Props ∷ s) ts
  props_s (props g gs) d = group_s g (more_groups_s gs d)

  pub of_type_s : {v : Option Token} {s : List Symbol} {ts us : List Lexeme} → IsOfType v ts us → S s us → S (Goes P.OfType ∷ s) ts
  of_type_s no_type d = part ([]) (inl refl) d
  of_type_s (of_type c t) d = part (COLONS ∷ TYPE ∷ []) (inr (inl refl)) (word c (word t d))

  pub more_vars_s : {v : List VarGroup} {s : List Symbol} {ts us : List Lexeme} → IsMoreVars v ts us → S s us → S (Goes P.MoreVars ∷ s) ts
  more_vars_s no_more_vars d = part ([]) (inl refl) d
  more_vars_s (more_vars a (var_group x xs t) gs) d = part (AND ∷ IDENTIFIER ∷ Goes P.Idents ∷ Goes P.OfType ∷ Goes P.MoreVars ∷ []) (inr (inl refl)) (word a (word x (idents_s law xs (of_type_s t (more_vars_s gs d)))))

  pub vars_s : {v : List VarGroup} {s : List Symbol} {ts us : List Lexeme} → IsVars v ts us → S s us → S (Goes P.Vars ∷ s) ts
  vars_s (vars (var_group x xs t) gs) d = part (IDENTIFIER ∷ Goes P.Idents ∷ Goes P.OfType ∷ Goes P.MoreVars ∷ []) (inl refl) (word x (idents_s law xs (of_type_s t (more_vars_s gs d))))

  pub opt_for_s : {v : List VarGroup} {s : List Symbol} {ts us : List Lexeme} → IsOptFor v ts us → S s us → S (Goes P.OptFor ∷ s) ts
  opt_for_s no_for d = part ([]) (inl refl) d
  opt_for_s (for_vars w gs) d = part (FOR ∷ Goes P.Vars ∷ []) (inr (inl refl)) (word w (vars_s gs d))
