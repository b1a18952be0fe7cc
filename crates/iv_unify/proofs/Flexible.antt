-- Flexible terms stay flexible where the values are schematic variables under abstractions.
use Rattle.std.proofs.Common.{◌≡◌, ℕ, suc, Bool, true, false, ◌⊎◌, inl, inr, Option, Some, None, List, [], ◌∷◌, refl, sym, ◌∙◌, ap}
use Rattle.iv_text.specs.declared.name.Name.{Name}
use Rattle.iv_term.specs.declared.typ.Typ.{Typ}
use Rattle.iv_term.specs.declared.typ.Types.{Types}
use Rattle.iv_term.specs.declared.typ.Typ.TheBlock.{Nil as no_types}
use Rattle.iv_term.specs.declared.term.Head.{Head}
use Rattle.iv_term.specs.declared.term.Head.TheVariants.{Const, Free, Schematic, Bound}
use Rattle.iv_term.specs.declared.term.Term.{Term}
use Rattle.iv_term.specs.declared.term.Terms.{Terms}
use Rattle.iv_term.specs.declared.term.Term.TheBlock.{Spine, Nil}
use Rattle.iv_term.specs.Typ.{fun, ty_cons}
use Rattle.iv_term.specs.Term.{lam, tm_cons}
use Rattle.iv_hsub.specs.Typing.{cod, type_of}
use Rattle.iv_hsub.specs.Index.{raise_head, eta, contracts}
use Rattle.iv_hsub.specs.Hsub.{put, happ}
use Rattle.iv_hsub.specs.Hhf.{expand}
use Rattle.iv_hsub.specs.Retype.{map_typ, retype, retype_all}
use Rattle.iv_hsub.specs.Inst.{use_value, inst, inst_all}
use Rattle.iv_hsub.proofs.Theory.{EtaCase, eta_cases, fun_induction, takes_cases, happ-nil, happ-spine, happ-lam, happ-stuck}
use Rattle.iv_put.specs.Subst.{Substitution, by_map, value_of, values, applied, Values}
use Rattle.iv_put.proofs.Theory.{value-in}
use Rattle.iv_unify.specs.Pairs.{is_variable, is_flexible}
use Rattle.iv_unify.specs.Values.{bind_index, abstracted, lams}

-- a schematic variable under abstractions
pub blank : Term → Bool
blank (lam a b) = blank b
blank (Spine h ts) = is_variable h

abbrev pub IsBlank : Term → Type 0
IsBlank t = blank t ≡ true

pub blank-variable : (x : Name) (a : Typ) (ts : Terms) → IsBlank (Spine (Schematic x a) ts)
unfolding blank
blank-variable x a ts = refl

variable-raised : (d c : ℕ) (h : Head) → is_variable (raise_head d c h) ≡ is_variable h
variable-raised d c (Const x a) = refl
variable-raised d c (Free x a) = refl
variable-raised d c (Schematic x a) = refl
variable-raised d c (Bound n) = refl

pub blank-eta : (a : Typ) (b : Term) → IsBlank b → IsBlank (eta a b)
unfolding blank expand
blank-eta a b p = go (eta_cases a b)
  where
    go : ((contracts b ≡ false) × (eta a b ≡ lam a b)) ⊎ EtaCase a b → IsBlank (eta a b)
    go (inl q) = ap blank q.1 ∙ p
    go (inr x) = ap blank x.eta_is ∙ sym (variable-raised 1 0 x.head) ∙ sym (ap blank x.body_is) ∙ p

blank-bind : (i k : ℕ) (t : Term) → IsBlank t → IsBlank (bind_index i k t)
unfolding blank bind_index
blank-bind i k (lam a b) p = blank-bind (suc i) (suc k) b p
blank-bind i k (Spine (Schematic x a) ts) p = refl
blank-bind i k (Spine (Const x a) ts) p = absurd (let bad : false ≡ true = p in cc)
blank-bind i k (Spine (Free x a) ts) p = absurd (let bad : false ≡ true = p in cc)
blank-bind i k (Spine (Bound n) ts) p = absurd (let bad : false ≡ true = p in cc)

pub blank-abstracted : (is : List ℕ) (bs : Types) (t : Term) → IsBlank t → IsBlank (abstracted is bs t)
unfolding abstracted
blank-abstracted [] bs t p = p
blank-abstracted (i ∷ is) bs t p = blank-eta _ (bind_index i 0 (abstracted is bs t)) (blank-bind i 0 (abstracted is bs t) (blank-abstracted is bs t p))

pub blank-lams : (ds : Types) (t : Term) → IsBlank t → IsBlank (lams ds t)
unfolding lams
blank-lams no_types t p = p
blank-lams (ty_cons d ds) t p = blank-eta d (lams ds t) (blank-lams ds t p)

blank-put : (f : Term → Terms → Term) (v : Term) (k : ℕ) (t : Term) → IsBlank t → IsBlank (put f v k t)
unfolding blank put
blank-put f v k (lam a b) p = blank-eta a (put f v (suc k) b) (blank-put f v (suc k) b p)
blank-put f v k (Spine (Schematic x a) ts) p = refl
blank-put f v k (Spine (Const x a) ts) p = absurd (let bad : false ≡ true = p in cc)
blank-put f v k (Spine (Free x a) ts) p = absurd (let bad : false ≡ true = p in cc)
blank-put f v k (Spine (Bound n) ts) p = absurd (let bad : false ≡ true = p in cc)

abbrev Keeping : Typ → Type 0
Keeping a = (v : Term) (us : Terms) → IsBlank v → IsBlank (happ a v us)

blank-step : (a : Typ) → ((x y : Typ) → a ≡ fun x y → Keeping x × Keeping y) → Keeping a
unfolding blank
blank-step a parts v Nil p = ap blank (happ-nil a v) ∙ p
blank-step a parts (Spine h ts) (tm_cons u us) p = ap blank (happ-spine a h ts (tm_cons u us)) ∙ p
blank-step a parts (lam d b) (tm_cons u us) p = go (takes_cases a d)
  where
    go : (a ≡ fun d (cod a)) ⊎ (a ≡ fun d (cod a) → ⊥) → IsBlank (happ a (lam d b) (tm_cons u us))
    go (inl e) = ap blank (happ-lam a d b u us e) ∙ (parts d (cod a) e).1 (put (happ d) u 0 b) us (blank-put (happ d) u 0 b p)
    go (inr n) = ap blank (happ-stuck a d b u us n) ∙ p

blank-happ : (a : Typ) → Keeping a
blank-happ a = fun_induction Keeping blank-step a

blank-value : (o : Option Term) (h : Head) (a : Typ) (us : Terms) → is_variable h ≡ true → ((v : Term) → o ≡ Some v → IsBlank v) → IsBlank (use_value o h a us)
unfolding blank
blank-value None h a us p k = p
blank-value (Some v) h a us p k = blank-happ a v us (k v refl)

-- what is flexible is blank under such values
pub blank-applied : (e : Substitution) → Values IsBlank e.1 → (t : Term) → is_flexible t ≡ true → IsBlank (applied e t)
unfolding inst retype
blank-applied e k (lam a b) p = absurd (let bad : false ≡ true = p in cc)
blank-applied e k (Spine (Const x a) ts) p = absurd (let bad : false ≡ true = p in cc)
blank-applied e k (Spine (Free x a) ts) p = absurd (let bad : false ≡ true = p in cc)
blank-applied e k (Spine (Bound n) ts) p = absurd (let bad : false ≡ true = p in cc)
blank-applied e k (Spine (Schematic x a) ts) p =
    blank-value (value_of e.1 x) (Schematic x (map_typ (by_map e.0) a)) (map_typ (by_map e.0) a) (inst_all (values e) (retype_all (by_map e.0) ts)) refl
    (λ v q. value-in IsBlank e.1 x v k q)

-- and flexible, where its type is no function type
pub plain-flexible : (bs : Types) (t : Term) → IsBlank t → ((a b : Typ) → type_of bs t ≡ fun a b → ⊥) → is_flexible t ≡ true
unfolding blank type_of
plain-flexible bs (lam a b) p n = absurd (n a (type_of (ty_cons a bs) b) refl)
plain-flexible bs (Spine h ts) p n = p
