-- What look-ups give.
use Rattle.std.proofs.Common.{◌≡◌, ℕ, zero, suc, Bool, true, false, IsTrue, ◌↔◌, is_some, if◌then◌else◌, Option, Some, None, Bor, List, [], ◌∷◌, ◌++◌, slice_get, ◌+◌, ◌≤◌, length, drop, refl, sym, ◌∙◌, ap, subst, arith}
use Rattle.std.specs.Option.{unwrap_or, option_copied, option_map}
use Rattle.std.specs.List.{IsDistinct}
use Rattle.std.specs.Map.{keys_of}
use Rattle.std.proofs.lemmas.List.{drop_all}
use Rattle.iv_text.specs.declared.name.Name.{Name}
use Rattle.iv_term.specs.declared.typ.Typ.{Typ}
use Rattle.iv_term.specs.declared.typ.Typ.TheBlock.{Schematic as Variable, Nil as no_types}
use Rattle.iv_term.specs.declared.term.Term.{Term}
use Rattle.iv_text.specs.Name.{same_name}
use Rattle.iv_term.specs.declared.term.Head.TheVariants.{Schematic}
use Rattle.iv_term.specs.declared.term.Terms.{Terms}
use Rattle.iv_term.specs.declared.term.Term.TheBlock.{Spine}
use Rattle.iv_hsub.specs.Typing.{HasType}
use Rattle.iv_hsub.specs.Hsub.{happ}
use Rattle.iv_map.specs.NameMap.{look}
use Rattle.iv_subst.specs.TySubst.{TyMap, put_typ, at, seek}
use Rattle.iv_subst.proofs.Laws.Entries.{at-seek, drop-at}
use Rattle.iv_subst.proofs.Laws.Put.{put-none}
use Rattle.iv_put.specs.declared.substitution.Entry.{Entry}
use Rattle.iv_put.specs.Subst.{TermMap, Substitution, value_of, has_value, by_map, values, Values, AreClosed}
use Rattle.iv_hsub.specs.Retype.{map_typ, retype_head}
use Rattle.iv_hsub.specs.Inst.{use_value, inst_head, Fits}
use Rattle.iv_put.specs.Entries.{terms_in, AreTyped}
use Rattle.iv_put.proofs.Facts.Entries.{map-by}
use Rattle.iv_put.proofs.Facts.Tests.{via, never, is_not}

pub at-missing : (s : TyMap) (x : Name) (o : Option (Bor Typ)) → option_copied o ≡ seek s x → o ≡ None → at s x ≡ Variable x
at-missing s x o e q = sym (at-seek s x) ∙ ap (λ z. unwrap_or z (Variable x)) (sym e ∙ ap option_copied q)

pub at-found : (s : TyMap) (x : Name) (o : Option (Bor Typ)) (b : Bor Typ) → option_copied o ≡ seek s x → o ≡ Some b → at s x ≡ b.now
at-found s x o b e q = sym (at-seek s x) ∙ ap (λ z. unwrap_or z (Variable x)) (sym e ∙ ap option_copied q)

-- the value of a name among entries
value-look_by : (e : Name × Entry) (o : Option Term) (p : Option Entry) (b : Bool) → o ≡ option_map (λ z. z.value) p
    → (if b then Some e.1.value else o) ≡ option_map (λ z. z.value) (if b then Some e.1 else p)
value-look_by e o p true k = refl
value-look_by e o p false k = k

value-look : (es : List (Name × Entry)) (y : Name) → value_of (terms_in es) y ≡ option_map (λ z. z.value) (look es y)
unfolding value_of terms_in
value-look [] y = refl
value-look (e ∷ es) y = value-look_by e (value_of (terms_in es) y) (look es y) (same_name y e.0) (value-look es y)

some-parts : {X : Type 0} (x y : X) → Some x ≡ Some y → x ≡ y
some-parts x y q = cc

typed-look_by : (d e : Entry) (o : Option Entry) (b : Bool) → HasType no_types d.typ d.value → (o ≡ Some e → HasType no_types e.typ e.value)
    → (if b then Some d else o) ≡ Some e → HasType no_types e.typ e.value
typed-look_by d e o true p k q = subst (λ z. HasType no_types z.typ z.value) (some-parts d e q) p
typed-look_by d e o false p k q = k q

typed-look : (es : List (Name × Entry)) (y : Name) (e : Entry) → AreTyped es → look es y ≡ Some e → HasType no_types e.typ e.value
unfolding AreTyped
typed-look [] y e p q = absurd (let bad : None ≡ Some e = q in cc)
typed-look (d ∷ es) y e p q = typed-look_by d.1 e (look es y) (same_name y d.0) p.0 (typed-look es y e p.1) q

pub value-none : (es : List (Name × Entry)) (y : Name) → look es y ≡ None → value_of (terms_in es) y ≡ None
value-none es y h = value-look es y ∙ ap (option_map (λ z. z.value)) h

pub value-some : (es : List (Name × Entry)) (y : Name) (e : Entry) → AreTyped es → look es y ≡ Some e
    → (value_of (terms_in es) y ≡ Some e.value) × HasType no_types e.typ e.value
value-some es y e p h = (value-look es y ∙ ap (option_map (λ z. z.value)) h, typed-look es y e p h)

none-by : (o : Option Entry) → is_some (option_map (λ z. z.value) o) ≡ false → o ≡ None
none-by None h = refl
none-by (Some e) h = absurd (let bad : true ≡ false = h in cc)

-- an entry at the end
pub typed-push : (es : List (Name × Entry)) (x : Name) (e : Entry) → AreTyped es → HasType no_types e.typ e.value → AreTyped (es ++ (x, e) ∷ [])
unfolding AreTyped
typed-push [] x e p q = (q, tt)
typed-push (d ∷ es) x e p q = (p.0, typed-push es x e p.1 q)

terms-push : (es : List (Name × Entry)) (x : Name) (e : Entry) → terms_in (es ++ (x, e) ∷ []) ≡ terms_in es ++ (x, e.value) ∷ []
unfolding terms_in
terms-push [] x e = refl
terms-push (d ∷ es) x e = ap (λ z. (d.0, d.1.value) ∷ z) (terms-push es x e)

abbrev pub both : TyMap → TermMap → Substitution
both types terms = (types, terms)

pub added : (s : Substitution) (types : TyMap) (es more : List (Name × Entry)) (x : Name) (e : Entry) → both types (terms_in es) ≡ s → more ≡ es ++ (x, e) ∷ []
    → both types (terms_in more) ≡ both s.0 (s.1 ++ (x, e.value) ∷ [])
added s types es more x e k q = ap (both types) (ap terms_in q ∙ terms-push es x e) ∙ ap (λ z. both z.0 (z.1 ++ (x, e.value) ∷ [])) k

-- what is seen of all entries
pub length-terms : (es : List (Name × Entry)) → length (terms_in es) ≡ length es
unfolding terms_in
length-terms [] = refl
length-terms (e ∷ es) = ap suc (length-terms es)

keys-terms : (es : List (Name × Entry)) → keys_of (terms_in es) ≡ keys_of es
unfolding terms_in
keys-terms [] = refl
keys-terms (e ∷ es) = ap (λ ks. e.0 ∷ ks) (keys-terms es)

pub apart-in : (es : List (Name × Entry)) → IsDistinct same_name (keys_of es) → IsDistinct same_name (keys_of (terms_in es))
apart-in es d = rw (keys-terms es) d

pub closed-in : (es : List (Name × Entry)) → AreTyped es → AreClosed (terms_in es)
unfolding AreTyped terms_in Values
closed-in [] p = tt
closed-in (e ∷ es) p = (p.0.0, closed-in es p.1)

pub terms-at : (es : List (Name × Entry)) (i : ℕ) (x : Name) (e : Entry) → slice_get es i ≡ Some (x, e) → slice_get (terms_in es) i ≡ Some (x, e.value)
unfolding terms_in
terms-at [] i x e h = absurd (let bad : None ≡ Some (x, e) = h in cc)
terms-at (d ∷ es) zero x e h = ap (λ z. Some (z.0, z.1.value)) (some-parts d (x, e) h)
terms-at (d ∷ es) (suc i) x e h = terms-at es i x e h

pub typed-at : (es : List (Name × Entry)) (i : ℕ) (x : Name) (e : Entry) → AreTyped es → slice_get es i ≡ Some (x, e) → HasType no_types e.typ e.value
unfolding AreTyped
typed-at [] i x e p h = absurd (let bad : None ≡ Some (x, e) = h in cc)
typed-at (d ∷ es) zero x e p h = subst (λ z. HasType no_types z.1.typ z.1.value) (some-parts d (x, e) h) p.0
typed-at (d ∷ es) (suc i) x e p h = typed-at es i x e p.1 h

-- a map without entries
pub empty-stays : (s : TyMap) (a : Typ) → length s ≡ 0 → a ≡ put_typ (at s) a
unfolding at
empty-stays [] a e = sym (put-none a)
empty-stays (x ∷ s) a e = absurd (let bad : suc (length s) ≡ 0 = e in omega (arith, bad))

-- what a look-up says of a head
has-value_by : (e : Name × Term) (o : Option Term) (b v : Bool) → is_some o ≡ b → is_some (if v then Some e.1 else o) ≡ (if v then true else b)
has-value_by e o b true k = refl
has-value_by e o b false k = k

pub has-value : (m : TermMap) (y : Name) → is_some (value_of m y) ≡ has_value m y
unfolding value_of has_value
has-value [] y = refl
has-value (e ∷ m) y = has-value_by e (value_of m y) (has_value m y) (same_name y e.0) (has-value m y)

pub no-entry : (es : List (Name × Entry)) (y : Name) → has_value (terms_in es) y ≡ false → look es y ≡ None
no-entry es y h = none-by (look es y) (ap is_some (sym (value-look es y)) ∙ has-value (terms_in es) y ∙ h)

copied-some : (o : Option (Bor Term)) → is_some o ≡ is_some (option_copied o)
copied-some None = refl
copied-some (Some x) = refl

pub has-found : (o : Option (Bor Term)) (m : TermMap) (y : Name) → option_copied o ≡ value_of m y → is_some o ≡ has_value m y
has-found o m y e = copied-some o ∙ ap is_some e ∙ has-value m y

pub at-no_value : (s : Substitution) (x : Name) (a : Typ) → value_of s.1 x ≡ None
    → (us : Terms) → inst_head (values s) (retype_head (by_map s.0) (Schematic x a)) us ≡ Spine (retype_head (by_map s.0) (Schematic x a)) us
at-no_value s x a e us = ap (λ o. use_value o (Schematic x (map_typ (by_map s.0) a)) (map_typ (by_map s.0) a) us) e

pub at-value : (s : Substitution) (x : Name) (a : Typ) (v : Term) → value_of s.1 x ≡ Some v
    → (us : Terms) → inst_head (values s) (retype_head (by_map s.0) (Schematic x a)) us ≡ happ (put_typ (at s.0) a) v us
at-value s x a v e us = ap (λ o. use_value o (Schematic x (map_typ (by_map s.0) a)) (map_typ (by_map s.0) a) us) e ∙ ap (λ b. happ b v us) (map-by s.0 a)

pub fits-when : (s : Substitution) (x : Name) (a b : Typ) (v : Term) (r : Bool) → value_of s.1 x ≡ Some v → HasType no_types b v
    → (IsTrue r ↔ (put_typ (at s.0) a ≡ b)) → (IsTrue r ↔ Fits (value_of s.1 x) (map_typ (by_map s.0) a))
fits-when s x a b v r e p d =
    let m = map-by s.0 a in
    subst (λ o. IsTrue r ↔ Fits o (map_typ (by_map s.0) a)) (sym e)
    (via (put_typ (at s.0) a ≡ b) (Fits (Some v) (map_typ (by_map s.0) a)) r (λ q. (p.0, p.1 ∙ sym q ∙ sym m)) (λ q. sym m ∙ sym q.1 ∙ p.1) d)

-- a loop over all values
module _ (Q : Type 0) (P : Term → Type 0) (m : TermMap) (i : ℕ) where
  pub values-no : (x : Name) (v : Term) (r : Bool) → slice_get m i ≡ Some (x, v) → (Q → Values P (drop i m)) → (IsTrue r ↔ P v) → r ≡ false → (IsTrue false ↔ Q)
  unfolding Values
  values-no x v r h k d e =
      never Q (λ q. let p : Values P ((x, v) ∷ drop (i + 1) m) = subst (Values P) (drop-at m i (x, v) h) (k q) in is_not (P v) r d e p.0)

  pub values-on : (x : Name) (v : Term) → slice_get m i ≡ Some (x, v) → (Q → Values P (drop i m)) × (Values P (drop i m) → Q) → P v
      → (Q → Values P (drop (i + 1) m)) × (Values P (drop (i + 1) m) → Q)
  unfolding Values
  values-on x v h k p =
      let e = drop-at m i (x, v) h in (
        λ q. let all : Values P ((x, v) ∷ drop (i + 1) m) = subst (Values P) e (k.0 q) in all.1,
        λ q. let all : Values P ((x, v) ∷ drop (i + 1) m) = (p, q) in k.1 (subst (Values P) (sym e) all),
      )

  pub values-end : (Values P (drop i m) → Q) → length m ≤ i → (IsTrue true ↔ Q)
  unfolding Values
  values-end k l = let none : Values P [] = tt in (λ h. k (subst (Values P) (sym (drop_all i m l)) none), λ q. refl)
