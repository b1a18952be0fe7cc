-- Derivations with premises: as patterns, and as what they are.
use Rattle.std.specs.Prelude.{◌≡◌, refl}
use Rattle.iv_text.specs.declared.name.Name.{Name}
use Rattle.iv_term.specs.declared.typ.Typ.{Typ}
use Rattle.iv_term.specs.declared.term.Term.{Term}
use Rattle.iv_rules.specs.declared.instance.Instance.{Instance}
use Rattle.iv_rules.specs.declared.derivation.Derivation.{Derivation}
use Rattle.iv_rules.specs.declared.derivation.Derivation.TheVariants.{ImpIntr, ImpElim, AllIntr, AllElim, Sym, Trans, Comb, Abs, EqIntr, EqElim, Conv, Inst}
use Rattle.iv_rules.specs.declared.derivation.Derivation.TheBlock.{ImpIntr', ImpElim', AllIntr', AllElim', Sym', Trans', Comb', Abs', EqIntr', EqElim', Conv', Inst', end_of-Derivation, more_of-Derivation, shape-the_row-Derivation-0, hidden-the_row-Derivation-0}
use denote.Hole.Carrier.{hidden}

pattern abbrev pub imp_intr : Term → Derivation → Derivation
imp_intr a d = ImpIntr' a tt (more_of-Derivation d end_of-Derivation)

pattern abbrev pub imp_elim : Derivation → Derivation → Derivation
imp_elim d e = ImpElim' tt (more_of-Derivation d end_of-Derivation) tt (more_of-Derivation e end_of-Derivation)

pattern abbrev pub all_intr : Name → Typ → Derivation → Derivation
all_intr x a d = AllIntr' x a tt (more_of-Derivation d end_of-Derivation)

pattern abbrev pub all_elim : Term → Derivation → Derivation
all_elim v d = AllElim' v tt (more_of-Derivation d end_of-Derivation)

pattern abbrev pub eq_sym : Derivation → Derivation
eq_sym d = Sym' tt (more_of-Derivation d end_of-Derivation)

pattern abbrev pub eq_trans : Derivation → Derivation → Derivation
eq_trans d e = Trans' tt (more_of-Derivation d end_of-Derivation) tt (more_of-Derivation e end_of-Derivation)

pattern abbrev pub comb : Derivation → Derivation → Derivation
comb d e = Comb' tt (more_of-Derivation d end_of-Derivation) tt (more_of-Derivation e end_of-Derivation)

pattern abbrev pub abs : Name → Typ → Derivation → Derivation
abs x a d = Abs' x a tt (more_of-Derivation d end_of-Derivation)

pattern abbrev pub eq_intr : Derivation → Derivation → Derivation
eq_intr d e = EqIntr' tt (more_of-Derivation d end_of-Derivation) tt (more_of-Derivation e end_of-Derivation)

pattern abbrev pub eq_elim : Derivation → Derivation → Derivation
eq_elim d e = EqElim' tt (more_of-Derivation d end_of-Derivation) tt (more_of-Derivation e end_of-Derivation)

pattern abbrev pub conv : Term → Derivation → Derivation
conv b d = Conv' b tt (more_of-Derivation d end_of-Derivation)

pattern abbrev pub inst : Instance → Derivation → Derivation
inst s d = Inst' s tt (more_of-Derivation d end_of-Derivation)

pub imp_intr_is : (a : Term) (d : Derivation) → ImpIntr a d ≡ imp_intr a d
unfolding shape-the_row-Derivation-0 hidden-the_row-Derivation-0 hidden
imp_intr_is a d = refl

pub imp_elim_is : (d e : Derivation) → ImpElim d e ≡ imp_elim d e
unfolding shape-the_row-Derivation-0 hidden-the_row-Derivation-0 hidden
imp_elim_is d e = refl

pub all_intr_is : (x : Name) (a : Typ) (d : Derivation) → AllIntr x a d ≡ all_intr x a d
unfolding shape-the_row-Derivation-0 hidden-the_row-Derivation-0 hidden
all_intr_is x a d = refl

pub all_elim_is : (v : Term) (d : Derivation) → AllElim v d ≡ all_elim v d
unfolding shape-the_row-Derivation-0 hidden-the_row-Derivation-0 hidden
all_elim_is v d = refl

pub eq_sym_is : (d : Derivation) → Sym d ≡ eq_sym d
unfolding shape-the_row-Derivation-0 hidden-the_row-Derivation-0 hidden
eq_sym_is d = refl

pub eq_trans_is : (d e : Derivation) → Trans d e ≡ eq_trans d e
unfolding shape-the_row-Derivation-0 hidden-the_row-Derivation-0 hidden
eq_trans_is d e = refl

pub comb_is : (d e : Derivation) → Comb d e ≡ comb d e
unfolding shape-the_row-Derivation-0 hidden-the_row-Derivation-0 hidden
comb_is d e = refl

pub abs_is : (x : Name) (a : Typ) (d : Derivation) → Abs x a d ≡ abs x a d
unfolding shape-the_row-Derivation-0 hidden-the_row-Derivation-0 hidden
abs_is x a d = refl

pub eq_intr_is : (d e : Derivation) → EqIntr d e ≡ eq_intr d e
unfolding shape-the_row-Derivation-0 hidden-the_row-Derivation-0 hidden
eq_intr_is d e = refl

pub eq_elim_is : (d e : Derivation) → EqElim d e ≡ eq_elim d e
unfolding shape-the_row-Derivation-0 hidden-the_row-Derivation-0 hidden
eq_elim_is d e = refl

pub conv_is : (b : Term) (d : Derivation) → Conv b d ≡ conv b d
unfolding shape-the_row-Derivation-0 hidden-the_row-Derivation-0 hidden
conv_is b d = refl

pub inst_is : (s : Instance) (d : Derivation) → Inst s d ≡ inst s d
unfolding shape-the_row-Derivation-0 hidden-the_row-Derivation-0 hidden
inst_is s d = refl
