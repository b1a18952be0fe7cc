-- Where the first part of a command begins that has too many levels. Of this project.
use Rattle.std.specs.Prelude.{List, ◌∷◌, Option, None}
use Rattle.iv_text.specs.declared.Pos.{Pos}
use Rattle.iv_forms.specs.declared.command.Body.{Body}
use Rattle.iv_forms.specs.declared.lexeme.Lexeme.{Lexeme}
use Rattle.iv_forms.specs.CommandForm as C
use Rattle.iv_forms.specs.CommandForm.{IsForm}
use Rattle.iv_facts.specs.FactLevels.{opt_atts_levels, deep_at, first_of, deep_facts, deep_opt_label, deep_claim, deep_props}
use Rattle.iv_readmethod.specs.MethodLevels.{deep_method, deep_opt_method}
use Rattle.iv_readpart.specs.CommandLevels.{deep_axioms, deep_statement, deep_notes, deep_obtained}

abbrev pub deep_form : {f : Body} {ts us : List Lexeme} → IsForm f ts us → Option Pos
deep_form (C.axiomatization w cs xs) = deep_axioms xs
deep_form (C.lemmas {n = n} {ts = ts} w h a e fs) = first_of (deep_at (n ∷ ts) (opt_atts_levels a)) (deep_facts fs)
deep_form (C.declare w fs) = deep_facts fs
deep_form (C.method_ w x gs p e m) = deep_method m
deep_form (C.lemma_ w s) = deep_statement s
deep_form (C.theorem_ w s) = deep_statement s
deep_form (C.corollary w s) = deep_statement s
deep_form (C.proposition w s) = deep_statement s
deep_form (C.assume w gs) = deep_props gs
deep_form (C.presume w gs) = deep_props gs
deep_form (C.define w x t h l b) = deep_opt_label l
deep_form (C.note w gs) = deep_notes gs
deep_form (C.from w fs) = deep_facts fs
deep_form (C.with_ w fs) = deep_facts fs
deep_form (C.have w c) = deep_claim c
deep_form (C.show w c) = deep_claim c
deep_form (C.hence w c) = deep_claim c
deep_form (C.thus w c) = deep_claim c
deep_form (C.obtain w o) = deep_obtained o
deep_form (C.apply w m) = deep_method m
deep_form (C.using_ w fs) = deep_facts fs
deep_form (C.proof w m) = deep_opt_method m
deep_form (C.qed w m) = deep_opt_method m
deep_form (C.by w m n) = first_of (deep_method m) (deep_opt_method n)
deep_form _ = None
