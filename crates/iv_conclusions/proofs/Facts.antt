-- Terms under an instance whose parts may be new, and what its tests say.
use Rattle.std.proofs.Common.{◌≡◌, ℕ, Bool, true, false, IsTrue, ◌↔◌, List, [], ◌∷◌, Option, Some, None, Bor, is_some, IfOk, ◌≤◌, ◌+◌, length, drop, slice_get, refl, sym, ◌∙◌, ap, subst}
use Rattle.std.specs.Option.{unwrap_or, option_copied}
use Rattle.std.specs.Prelude.{Result}
use Rattle.std.proofs.lemmas.List.{drop_more, drop_all}
use Rattle.std.proofs.lemmas.Option.{slice_get_within, get_or_from_slice_get}
use Rattle.std.proofs.lemmas.Result.{IfOk-weaker}
use Rattle.iv_text.specs.declared.want.Want.{Want}
use Rattle.iv_text.specs.declared.name.Name.{Name}
use Rattle.iv_term.specs.declared.typ.Typ.{Typ}
use Rattle.iv_term.specs.declared.typ.Typ.TheBlock.{Nil as no_types}
use Rattle.iv_term.specs.declared.term.Head.{Head}
use Rattle.iv_term.specs.declared.term.Term.{Term}
use Rattle.iv_term.specs.declared.term.Terms.{Terms}
use Rattle.iv_term.specs.declared.term.Term.TheBlock.{Spine, Nil}
use Rattle.iv_term.specs.Term.{tm_cons}
use Rattle.iv_hsub.specs.Typing.{HasType}
use Rattle.iv_hsub.specs.Hsub.{happ}
use Rattle.iv_hsub.specs.Inst.{use_value}
use Rattle.iv_hsub.specs.Open.{AreShort, AreOpenTerms}
use Rattle.iv_hsub.proofs.Terms.Short.{short-term}
use Rattle.iv_hsub.proofs.Terms.Tests.{never, is_not}
use Rattle.iv_rules.specs.Entries.{VarMap}
use Rattle.iv_rules.specs.Instance.{AreTyped}

-- a value that was looked up
pub found-put : {A : Type 0} (r : Result (Option A) Want) (o p : Option A) (a : A) → IfOk r (λ n. n ≡ o) → o ≡ p
    → IfOk r (λ n. unwrap_or n a ≡ unwrap_or p a)
found-put r o p a h e = IfOk-weaker r (λ n. n ≡ o) (λ n. unwrap_or n a ≡ unwrap_or p a) (λ n q. ap (λ z. unwrap_or z a) (q ∙ e)) h

-- a head that has no value
pub head-stays : (r : Result (Option Term) Want) (o : Option Head) (h k : Head) (ts us : Terms) (w : Term)
    → IfOk r (λ n. unwrap_or n (Spine h ts) ≡ Spine (unwrap_or o h) us) → unwrap_or o h ≡ k → w ≡ Spine k us
    → IfOk r (λ n. unwrap_or n (Spine h ts) ≡ w)
head-stays r o h k ts us w p e q =
    IfOk-weaker r (λ n. unwrap_or n (Spine h ts) ≡ Spine (unwrap_or o h) us) (λ n. unwrap_or n (Spine h ts) ≡ w)
    (λ n f. f ∙ ap (λ z. Spine z us) e ∙ sym q) p

-- what is made of one part, and of two
pub one-put : {A B : Type 0} (K : A → B) (r : Result (Option B) Want) (o : Option A) (x y : A)
    → IfOk r (λ n. (z : A) → unwrap_or n (K z) ≡ K (unwrap_or o z)) → unwrap_or o x ≡ y → IfOk r (λ n. unwrap_or n (K x) ≡ K y)
one-put {A} K r o x y h e =
    IfOk-weaker r (λ n. (z : A) → unwrap_or n (K z) ≡ K (unwrap_or o z)) (λ n. unwrap_or n (K x) ≡ K y) (λ n p. p x ∙ ap K e) h

pub two-put : {A B C : Type 0} (K : A → B → C) (r : Result (Option C) Want) (o : Option A) (q : Option B) (d : C) (x y : A) (v w : B)
    → IfOk r (λ n. unwrap_or n d ≡ K (unwrap_or o x) (unwrap_or q v)) → unwrap_or o x ≡ y → unwrap_or q v ≡ w → IfOk r (λ n. unwrap_or n d ≡ K y w)
two-put K r o q d x y v w h e f =
    IfOk-weaker r (λ n. unwrap_or n d ≡ K (unwrap_or o x) (unwrap_or q v)) (λ n. unwrap_or n d ≡ K y w) (λ n p. p ∙ (λ i. K (e i) (f i))) h

-- a head without a value, and one with a value
pub without-value : (o : Option Term) (h : Head) (a : Typ) → o ≡ None → (us : Terms) → use_value o h a us ≡ Spine h us
without-value o h a e us = ap (λ z. use_value z h a us) e

pub with-value : (o : Option Term) (h : Head) (a : Typ) (v : Term) → o ≡ Some v
    → (us : Terms) → use_value o h a us ≡ happ a v us
with-value o h a v e us = ap (λ z. use_value z h a us) e

-- whether a look-up found something
pub found-some : {A : Type 0} (o : Option (Bor A)) (p : Option A) → option_copied o ≡ p → is_some o ≡ is_some p
found-some None p e = ap is_some e
found-some (Some x) p e = ap is_some e

pub short-terms : (ts : Terms) → AreOpenTerms ts → AreShort ts
short-terms Nil p = tt
short-terms (tm_cons t ts) p = (short-term p.0.0 t p.0.1, short-terms ts p.1)

-- a loop over values
drop-at : {X : Type 0} (s : List X) (i : ℕ) (e : X) → slice_get s i ≡ Some e → drop i s ≡ e ∷ drop (i + 1) s
drop-at s i e h = drop_more s i e (slice_get_within s i e h) ∙ ap (λ z. z ∷ drop (i + 1) s) (get_or_from_slice_get s i e e h)

module _ (m : VarMap) (i : ℕ) where
  pub typed-no : (x : Name) (a : Typ) (v : Term) (r : Bool) → slice_get m i ≡ Some ((x, a), v) → (AreTyped m → AreTyped (drop i m))
      → (IsTrue r ↔ HasType no_types a v) → r ≡ false → (IsTrue false ↔ AreTyped m)
  unfolding AreTyped
  typed-no x a v r h k d e =
      never (AreTyped m) (λ q. let p : AreTyped (((x, a), v) ∷ drop (i + 1) m) = subst AreTyped (drop-at m i ((x, a), v) h) (k q) in is_not (HasType no_types a v) r d e p.0)

  pub typed-on : (x : Name) (a : Typ) (v : Term) → slice_get m i ≡ Some ((x, a), v)
      → (AreTyped m → AreTyped (drop i m)) × (AreTyped (drop i m) → AreTyped m) → HasType no_types a v
      → (AreTyped m → AreTyped (drop (i + 1) m)) × (AreTyped (drop (i + 1) m) → AreTyped m)
  unfolding AreTyped
  typed-on x a v h k p =
      let e = drop-at m i ((x, a), v) h in (
        λ q. let all : AreTyped (((x, a), v) ∷ drop (i + 1) m) = subst AreTyped e (k.0 q) in all.1,
        λ q. let all : AreTyped (((x, a), v) ∷ drop (i + 1) m) = (p, q) in k.1 (subst AreTyped (sym e) all),
      )

  pub typed-end : (AreTyped (drop i m) → AreTyped m) → length m ≤ i → (IsTrue true ↔ AreTyped m)
  unfolding AreTyped
  typed-end k l = let none : AreTyped [] = tt in (λ h. k (subst AreTyped (sym (drop_all i m l)) none), λ q. refl)
