-- Terms of the logic (Reference Manual, Pure), in their part on implication.
use Rattle.std.specs.Prelude.{◌≡◌, Bool, true, false, ◌&&◌, ◌||◌, nat_eq, codes, refl}
use Rattle.std.specs.Str.{bytes_eq}
use denote.Hole.Carrier.{hidden}
use Rattle.iv_text.specs.Name.{same_name}
use Rattle.iv_text.specs.declared.name.Name.{Name}
use Rattle.iv_term.specs.declared.typ.Typ.{Typ}
use Rattle.iv_term.specs.declared.term.Head.{Head}
use Rattle.iv_term.specs.declared.term.Head.TheVariants.{Const, Free, Schematic, Bound}
use Rattle.iv_term.specs.declared.term.Term.{Term}
use Rattle.iv_term.specs.declared.term.Term.TheVariants.{Abs}
use Rattle.iv_term.specs.declared.term.Terms.{Terms}
use Rattle.iv_term.specs.declared.term.Terms.TheVariants.{Cons}
use Rattle.iv_term.specs.declared.term.Term.TheBlock.{Abs', Spine, Nil, Cons', end_of-Term, more_of-Term, end_of-Terms, more_of-Terms, shape-the_row-Term-0, hidden-the_row-Term-0, shape-the_row-Terms-1, hidden-the_row-Terms-1}
use Rattle.iv_term.specs.Typ.{prop, fun, same_typ}

-- an abstraction, and a list of terms with one in front: as patterns, and as what they are
pattern abbrev pub lam : Typ → Term → Term
lam a b = Abs' a tt (more_of-Term b end_of-Term)

pattern abbrev pub tm_cons : Term → Terms → Terms
tm_cons t ts = Cons' tt (more_of-Term t end_of-Term) tt (more_of-Terms ts end_of-Terms)

pub abs_is : (a : Typ) (b : Term) → Abs a b ≡ lam a b
unfolding shape-the_row-Term-0 hidden-the_row-Term-0 hidden
abs_is a b = refl

pub cons_is : (t : Term) (ts : Terms) → Cons t ts ≡ tm_cons t ts
unfolding shape-the_row-Term-0 hidden-the_row-Term-0 shape-the_row-Terms-1 hidden-the_row-Terms-1 hidden
cons_is t ts = refl

-- whether two heads are the same
abbrev pub same_head : Head → Head → Bool
same_head (Const c a) (Const d b) = bytes_eq c d && same_typ a b
same_head (Free x a) (Free y b) = same_name x y && same_typ a b
same_head (Schematic x a) (Schematic y b) = same_name x y && same_typ a b
same_head (Bound i) (Bound j) = nat_eq i j
same_head _ _ = false

unfoldable mutual
  -- whether two terms are the same tree
  pub same_term : Term → Term → Bool
  same_term (lam a b) (lam c d) = same_typ a c && same_term b d
  same_term (Spine h ts) (Spine k us) = same_head h k && same_terms ts us
  same_term _ _ = false

  pub same_terms : Terms → Terms → Bool
  same_terms Nil Nil = true
  same_terms (tm_cons t ts) (tm_cons u us) = same_term t u && same_terms ts us
  same_terms _ _ = false

-- the type of the implication
abbrev pub implies : Typ
implies = fun prop (fun prop prop)

-- a ==> b
abbrev pub imp_head : Head
imp_head = Const (codes "==>") implies

abbrev pub imp : Term → Term → Term
imp a b = Spine imp_head (tm_cons a (tm_cons b Nil))

-- the first of some terms, or d where there is none; the terms behind it
abbrev pub first_or : Term → Terms → Term
first_or d Nil = d
first_or d (tm_cons t ts) = t

abbrev pub rest_of : Terms → Terms
rest_of Nil = Nil
rest_of (tm_cons t ts) = ts

-- whether there is no term, one, or two
abbrev pub is_nil : Terms → Bool
is_nil Nil = true
is_nil (tm_cons t ts) = false

abbrev pub is_one : Terms → Bool
is_one Nil = false
is_one (tm_cons t ts) = is_nil ts

abbrev pub are_two : Terms → Bool
are_two Nil = false
are_two (tm_cons t ts) = is_one ts

-- the first and the second argument, which are the premise and the conclusion of an implication; where there is none, the term itself
abbrev pub antecedent : Term → Term
antecedent (lam a b) = lam a b
antecedent (Spine h ts) = first_or (Spine h ts) ts

abbrev pub consequent : Term → Term
consequent (lam a b) = lam a b
consequent (Spine h ts) = first_or (Spine h ts) (rest_of ts)

-- a term is an implication
abbrev pub IsImplication : Term → Type 0
IsImplication t = t ≡ imp (antecedent t) (consequent t)

-- whether a head is the free variable x of type a
abbrev pub is_free : Name → Typ → Head → Bool
is_free x a (Free y b) = same_name x y && same_typ a b
is_free x a _ = false

unfoldable mutual
  -- whether the free variable x of type a stands in a term
  pub has_free : Name → Typ → Term → Bool
  has_free x a (lam b t) = has_free x a t
  has_free x a (Spine h ts) = is_free x a h || any_has_free x a ts

  pub any_has_free : Name → Typ → Terms → Bool
  any_has_free x a Nil = false
  any_has_free x a (tm_cons t ts) = has_free x a t || any_has_free x a ts
