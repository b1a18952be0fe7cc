-- What the laws on abstraction say.
use Rattle.std.specs.Prelude.{◌≡◌, ℕ, false, Option, None, Some}
use Rattle.iv_text.specs.declared.name.Name.{Name}
use Rattle.iv_term.specs.declared.typ.Typ.{Typ}
use Rattle.iv_term.specs.declared.typ.Types.{Types}
use Rattle.iv_term.specs.declared.term.Head.{Head}
use Rattle.iv_term.specs.declared.term.Head.TheVariants.{Free}
use Rattle.iv_term.specs.declared.term.Term.{Term}
use Rattle.iv_term.specs.declared.term.Terms.{Terms}
use Rattle.iv_term.specs.Typ.{fun}
use Rattle.iv_term.specs.Term.{has_free}
use Rattle.iv_hsub.specs.Typing.{IsTerm, HasType}
use Rattle.iv_hsub.specs.Index.{raise, eta}
use Rattle.iv_hsub.specs.Hsub.{happ}
use Rattle.iv_hsub.specs.Hhf.{one}
use Rattle.iv_hsub.specs.Retype.{map_typ, retype}
use Rattle.iv_hsub.specs.Inst.{inst, HeadVars, Vars, Fits}
use Rattle.iv_hsub.specs.Abstract.{free, bind, bind_all, abstract_over}

-- a function at a variable that isn't in it, abstracted over the variable, is the function
abbrev pub AbstractAt : Type 0
AbstractAt = (bounds : Types) (x : Name) (a c : Typ) (f : Term) → HasType bounds (fun a c) f → has_free x a f ≡ false
    → abstract_over x a (happ (fun a c) f (one (free x a))) ≡ f

-- the variable isn't free in what is abstracted over it
abbrev pub AbstractIsWithout : Type 0
AbstractIsWithout = (x : Name) (a : Typ) (t : Term) → has_free x a (abstract_over x a t) ≡ false

-- over a variable that isn't there, it is a constant function
abbrev pub AbstractIsConstant : Type 0
AbstractIsConstant = (x : Name) (a : Typ) (t : Term) → has_free x a t ≡ false → abstract_over x a t ≡ eta a (raise 1 0 t)

-- raising passes abstraction
abbrev pub RaisePassesAbstract : Type 0
RaisePassesAbstract = (x : Name) (a : Typ) (d c : ℕ) (t : Term) → abstract_over x a (raise d c t) ≡ raise d c (abstract_over x a t)

-- values put for other variables, in none of which the variable is, pass abstraction over it, where each fits its variable at whatever type:
-- those of an instance do, which are found by name and type
abbrev pub IsWithout : Name → Typ → Option Term → Type 0
IsWithout x a None = Unit {0}
IsWithout x a (Some v) = has_free x a v ≡ false

abbrev pub InstPassesAbstract : Type 0
InstPassesAbstract = (F : Head → Option Term) (x : Name) (a : Typ) (bounds : Types) (t : Term) → IsTerm bounds t → F (Free x a) ≡ None
    → ((h : Head) → HeadVars (λ k b. Fits (F k) b × IsWithout x a (F k)) h) → inst F (abstract_over x a t) ≡ abstract_over x a (inst F t)

-- a variable bound in a value at arguments
abbrev pub BindPassesHapp : Type 0
BindPassesHapp = (x : Name) (a c : Typ) (k : ℕ) (v : Term) (us : Terms) → happ c (bind x a k v) (bind_all x a k us) ≡ bind x a k (happ c v us)

-- types put in a term pass abstraction over a variable, where they make no other variable of its name the same
abbrev pub RetypePassesAbstract : Type 0
RetypePassesAbstract = (f : Typ → Typ) (x : Name) (a : Typ) (t : Term) → Vars (λ h b. h ≡ Free x b → map_typ f b ≡ map_typ f a → b ≡ a) t
    → retype f (abstract_over x a t) ≡ abstract_over x (map_typ f a) (retype f t)
