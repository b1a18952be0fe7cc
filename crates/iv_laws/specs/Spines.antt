-- What the laws on values at arguments, on contraction and on the occurrence of indices say.
use Rattle.std.specs.Prelude.{◌≡◌, ℕ, suc, ◌≤◌, ◌<◌, false}
use Rattle.iv_term.specs.declared.typ.Typ.{Typ}
use Rattle.iv_term.specs.declared.typ.Types.{Types}
use Rattle.iv_term.specs.declared.typ.Typ.TheBlock.{Nil as no_types}
use Rattle.iv_term.specs.declared.term.Head.{Head}
use Rattle.iv_term.specs.declared.term.Term.{Term}
use Rattle.iv_term.specs.declared.term.Terms.{Terms}
use Rattle.iv_term.specs.declared.term.Term.TheBlock.{Spine, Nil}
use Rattle.iv_term.specs.Typ.{fun, ty_cons}
use Rattle.iv_term.specs.Term.{tm_cons}
use Rattle.iv_hsub.specs.Typing.{result_type, type_of, IsTerm, AreArgs, HasType}
use Rattle.iv_hsub.specs.Index.{index, loose, raise, occurs, eta}
use Rattle.iv_hsub.specs.Hsub.{append, happ, hsub}
use Rattle.iv_hsub.specs.Hhf.{expand, one}

-- at no arguments a value is itself; a head with arguments takes more of them at the end
abbrev pub HappOfNothing : Type 0
HappOfNothing = (a : Typ) (v : Term) → happ a v Nil ≡ v

abbrev pub HappOfSpine : Type 0
HappOfSpine = (a : Typ) (h : Head) (ts us : Terms) → happ a (Spine h ts) us ≡ Spine h (append ts us)

-- a value at some arguments and then others
abbrev pub HappAppends : Type 0
HappAppends = (bounds : Types) (a : Typ) (v : Term) (ts us : Terms) → HasType bounds a v → AreArgs bounds a ts
    → happ a v (append ts us) ≡ happ (result_type a ts) (happ a v ts) us

-- an abstraction, contracted or not, at arguments puts the first of them for its variable
abbrev pub HappOfEta : Type 0
HappOfEta = (bounds : Types) (a c : Typ) (b u : Term) (us : Terms) → IsTerm (ty_cons a bounds) b → happ (fun a c) (eta a b) (tm_cons u us) ≡ happ c (hsub a u b) us

-- a function is the abstraction over itself at the new variable, and a spine the abstraction of its body
abbrev pub EtaIsUndone : Type 0
EtaIsUndone = (bounds : Types) (a c : Typ) (f : Term) → HasType bounds (fun a c) f → eta a (happ (fun a c) (raise 1 0 f) (one (index 0))) ≡ f

abbrev pub EtaOfExpand : Type 0
EtaOfExpand = (a : Typ) (h : Head) (ts : Terms) → eta a (expand h ts) ≡ Spine h ts

-- an index that no binder inside of the term counts: none is new under more binders, and those around them are counted on
abbrev pub OccursInRaised : Type 0
OccursInRaised = (c j : ℕ) (t : Term) → c ≤ j → occurs (suc j) (raise 1 c t) ≡ occurs j t

abbrev pub NewIsNowhere : Type 0
NewIsNowhere = (c : ℕ) (t : Term) → occurs c (raise 1 c t) ≡ false

abbrev pub OccursInEta : Type 0
OccursInEta = (a : Typ) (j : ℕ) (b : Term) → occurs j (eta a b) ≡ occurs (suc j) b

-- an index beyond the loose ones is nowhere; where none of those beyond k is anywhere, k bounds the loose ones
abbrev pub BeyondIsNowhere : Type 0
BeyondIsNowhere = (j : ℕ) (t : Term) → loose t ≤ j → occurs j t ≡ false

abbrev pub NowhereIsBeyond : Type 0
NowhereIsBeyond = (k : ℕ) (t : Term) → ((j : ℕ) → k ≤ j → j < loose t → occurs j t ≡ false) → loose t ≤ k

-- functions of some types, the first outermost; the types of some terms
unfoldable pub functions : Types → Typ → Typ
functions no_types c = c
functions (ty_cons a rest) c = fun a (functions rest c)

unfoldable pub argument_types : Types → Terms → Types
argument_types bounds Nil = no_types
argument_types bounds (tm_cons t ts) = ty_cons (type_of bounds t) (argument_types bounds ts)

-- what takes arguments is of the functions from their types
abbrev pub ArgsMakeFunctions : Type 0
ArgsMakeFunctions = (bounds : Types) (a : Typ) (ts : Terms) → AreArgs bounds a ts → a ≡ functions (argument_types bounds ts) (result_type a ts)
