-- Entries that put schematic variables for free ones.
use Rattle.std.proofs.Common.{◌≡◌, ◌≢◌, ℕ, Bool, true, false, ◌&&◌, List, [], ◌∷◌, ◌++◌, Option, None, Some, ◌⊎◌, inl, inr, if◌then◌else◌, refl, sym, ap, ◌∙◌, subst}
use Rattle.std.proofs.lemmas.Slice.Eq.{bytes_eq-Decides}
use Rattle.std.specs.Prelude.{is_none, is_some}
use Rattle.std.specs.Borrow.{Bor}
use Rattle.std.specs.List.{IsDistinct, AllByRecursion}
use Rattle.std.specs.Map.{lookup, keys_of}
use Rattle.std.specs.Option.{option_copied}
use Rattle.std.specs.Str.{bytes_eq}
use Rattle.iv_text.specs.declared.name.Name.{Name}
use Rattle.iv_term.specs.declared.typ.Typ.{Typ}
use Rattle.iv_term.specs.declared.term.Term.{Term}
use Rattle.iv_term.specs.Typ.{prop, same_typ, same_typs}
use Rattle.iv_hsub.specs.Typing.{type_of, result_type}
use Rattle.iv_rules.specs.Entries.{VarMap, same_var, term_at}
use Rattle.iv_rules.specs.Instance.{AreTyped}
use Rattle.iv_rules.specs.Sequent.{IsProp}
use Rattle.iv_run.specs.Statement.{name_of, schematic_var, with_entry, with_entries}

-- an entry behind others is found where they have none, and what they have stays
module _ {K V : Type 0} (test : K → Bool) where
  last-by : (u : V) (o n m : Option V) (b : Bool) → (o ≡ None → n ≡ m) → (if b then Some u else o) ≡ None → (if b then Some u else n) ≡ m
  last-by u o n m true f h = absurd (let bad : Some u ≡ None = h in cc)
  last-by u o n m false f h = f h

  last-found : (es : List (K × V)) (x : K) (v : V) → lookup test es ≡ None → lookup test (es ++ (x, v) ∷ []) ≡ (if test x then Some v else None)
  last-found [] x v h = refl
  last-found (e ∷ es) x v h =
      last-by e.1 (lookup test es) (lookup test (es ++ (x, v) ∷ [])) (if test x then Some v else None) (test e.0) (last-found es x v) h

  kept-by : (u w : V) (o n : Option V) (b : Bool) → (o ≡ Some w → n ≡ Some w) → (if b then Some u else o) ≡ Some w → (if b then Some u else n) ≡ Some w
  kept-by u w o n true f h = h
  kept-by u w o n false f h = f h

  kept-found : (es : List (K × V)) (x : K) (v w : V) → lookup test es ≡ Some w → lookup test (es ++ (x, v) ∷ []) ≡ Some w
  kept-found [] x v w h = absurd (let bad : None ≡ Some w = h in cc)
  kept-found (e ∷ es) x v w h = kept-by e.1 w (lookup test es) (lookup test (es ++ (x, v) ∷ [])) (test e.0) (kept-found es x v w) h

-- a new key behind others leaves them apart
module _ {K V : Type 0} (same : K → K → Bool) where
  all-push : (P : K → Type 0) (es : List (K × V)) (x : K) (v : V) → AllByRecursion P (keys_of es) → P x → AllByRecursion P (keys_of (es ++ (x, v) ∷ []))
  all-push P [] x v h p = (p, tt)
  all-push P (e ∷ es) x v h p = (h.0, all-push P es x v h.1 p)

  parts : (v : V) (o : Option V) (b : Bool) → (if b then Some v else o) ≡ None → (b ≡ false) × (o ≡ None)
  parts v o true h = absurd (let bad : Some v ≡ None = h in cc)
  parts v o false h = (refl, h)

  apart-push : (es : List (K × V)) (x : K) (v : V) → lookup (λ k. same k x) es ≡ None → IsDistinct same (keys_of es)
      → IsDistinct same (keys_of (es ++ (x, v) ∷ []))
  unfolding IsDistinct
  apart-push [] x v n d = (tt, tt)
  apart-push (e ∷ es) x v n d =
      let p = parts e.1 (lookup (λ k. same k x) es) (same e.0 x) n in
      (all-push (λ y. same e.0 y ≡ false) es x v d.0 p.0, apart-push es x v p.1 d.1)

-- the variable of a text, and whether two of them are the same
abbrev key : List ℕ → Name × Typ
key p = (name_of p, prop)

same_prop : (b : Bool) → ((b && true) && same_typ prop prop) ≡ b
unfolding same_typ same_typs
same_prop true = refl
same_prop false = refl

same_key : (p q : List ℕ) → same_var (key p) (key q) ≡ bytes_eq p q
same_key p q = same_prop (bytes_eq p q)

same-text : (p : List ℕ) → bytes_eq p p ≡ true
same-text p = (bytes_eq-Decides p p).1 refl

-- an entry is put in where there is none, and else nothing changes
chosen : (v : Option Term) (es fs : VarMap) → ((v ≡ None) × ((if is_none v then fs else es) ≡ fs)) ⊎ ((v ≢ None) × ((if is_none v then fs else es) ≡ es))
chosen None es fs = inl (refl, refl)
chosen (Some t) es fs = inr (λ h. let bad : Some t ≡ None = h in cc, refl)

abbrev entered : List ℕ → VarMap → VarMap
entered p es = es ++ (key p, schematic_var p) ∷ []

with_entry-cases : (p : List ℕ) (es : VarMap)
    → ((term_at es (name_of p) prop ≡ None) × (with_entry p es ≡ entered p es)) ⊎ ((term_at es (name_of p) prop ≢ None) × (with_entry p es ≡ es))
unfolding with_entry
with_entry-cases p es = chosen (term_at es (name_of p) prop) es (entered p es)

-- where a look-up finds one, it stays so; where it finds none, there is a new one
there : (r : Option (Bor Term)) → is_some r ≡ true → is_none (option_copied r) ≡ false
there None e = absurd (let bad : false ≡ true = e in cc)
there (Some t) e = refl

nowhere : (r : Option (Bor Term)) → is_some r ≡ false → is_none (option_copied r) ≡ true
nowhere None e = refl
nowhere (Some t) e = absurd (let bad : true ≡ false = e in cc)

pub entry-there : (r : Option (Bor Term)) (p : List ℕ) (es : VarMap) → option_copied r ≡ term_at es (name_of p) prop → is_some r ≡ true → es ≡ with_entry p es
unfolding with_entry
entry-there r p es f e = let n : is_none (term_at es (name_of p) prop) ≡ false = sym (ap (λ o. is_none o) f) ∙ there r e in rw n

pub entry-new : (r : Option (Bor Term)) (p : List ℕ) (es : VarMap) → option_copied r ≡ term_at es (name_of p) prop → is_some r ≡ false
    → entered p es ≡ with_entry p es
unfolding with_entry
entry-new r p es f e = let n : is_none (term_at es (name_of p) prop) ≡ true = sym (ap (λ o. is_none o) f) ∙ nowhere r e in rw n

-- what each new entry keeps, all of them keep
module _ (P : VarMap → Type 0) (step : (p : List ℕ) (es : VarMap) → term_at es (name_of p) prop ≡ None → P es → P (entered p es)) where
  with-one : (p : List ℕ) (es : VarMap) → P es → P (with_entry p es)
  with-one p es h = elim (with_entry-cases p es) [
    | inl c ↦ subst P (sym c.1) (step p es c.0 h)
    | inr c ↦ subst P (sym c.1) h
  ]

  with-all : (ps : List (List ℕ)) (es : VarMap) → P es → P (with_entries ps es)
  unfolding with_entries
  with-all [] es h = h
  with-all (p ∷ ps) es h = with-all ps (with_entry p es) (with-one p es h)

-- the new entry is for its own text
found : (p q : List ℕ) (es : VarMap) → term_at es (name_of q) prop ≡ None
    → term_at (entered p es) (name_of q) prop ≡ (if bytes_eq p q then Some (schematic_var p) else None)
found p q es n =
    last-found (λ k. same_var k (key q)) es (key p) (schematic_var p) n ∙ ap (λ b. if b then Some (schematic_var p) else None) (same_key p q)

-- an entry is there for this variable
abbrev pub Covers : VarMap → List ℕ → Type 0
Covers es q = term_at es (name_of q) prop ≡ Some (schematic_var q)

abbrev pub CoversAll : VarMap → List (List ℕ) → Type 0
CoversAll es [] = Unit {0}
CoversAll es (p ∷ ps) = Covers es p × CoversAll es ps

covers-step : (q p : List ℕ) (es : VarMap) → term_at es (name_of p) prop ≡ None → Covers es q → Covers (entered p es) q
covers-step q p es n k = kept-found (λ x. same_var x (key q)) es (key p) (schematic_var p) (schematic_var q) k

-- entries are for free variables of type prop, with their schematic ones
abbrev IsGeneralAt : VarMap → List ℕ → Type 0
IsGeneralAt es q = (term_at es (name_of q) prop ≡ None) ⊎ Covers es q

abbrev IsGeneral : VarMap → Type 0
IsGeneral es = (q : List ℕ) → IsGeneralAt es q

picked : (p q : List ℕ) (b : Bool) → bytes_eq p q ≡ b
    → ((if b then Some (schematic_var p) else None) ≡ None) ⊎ ((if b then Some (schematic_var p) else None) ≡ Some (schematic_var q))
picked p q true e = inr (ap (λ t. Some (schematic_var t)) ((bytes_eq-Decides p q).0 e))
picked p q false e = inl refl

general-at : (p q : List ℕ) (es : VarMap) → term_at es (name_of p) prop ≡ None → IsGeneralAt es q → IsGeneralAt (entered p es) q
general-at p q es n (inl m) = subst (λ o. (o ≡ None) ⊎ (o ≡ Some (schematic_var q))) (sym (found p q es m)) (picked p q (bytes_eq p q) refl)
general-at p q es n (inr k) = inr (covers-step q p es n k)

general-step : (p : List ℕ) (es : VarMap) → term_at es (name_of p) prop ≡ None → IsGeneral es → IsGeneral (entered p es)
general-step p es n g = λ q. general-at p q es n (g q)

no-entries : IsGeneral []
no-entries q = inl refl

with_entry-covers : (p : List ℕ) (es : VarMap) → IsGeneral es → Covers (with_entry p es) p
with_entry-covers p es g = elim (with_entry-cases p es) [
  | inl h ↦ subst (λ fs. Covers fs p) (sym h.1) (found p p es h.0 ∙ ap (λ b. if b then Some (schematic_var p) else None) (same-text p))
  | inr h ↦ subst (λ fs. Covers fs p) (sym h.1) (elim (g p) [ inl n ↦ absurd (h.0 n) | inr k ↦ k ])
]

with_entries-covers : (ps : List (List ℕ)) (es : VarMap) → IsGeneral es → CoversAll (with_entries ps es) ps
unfolding with_entries
with_entries-covers [] es g = tt
with_entries-covers (p ∷ ps) es g = (
  with-all (λ fs. Covers fs p) (covers-step p) ps (with_entry p es) (with_entry-covers p es g),
  with_entries-covers ps (with_entry p es) (with-one IsGeneral general-step p es g),
)

-- what is put for the variables of a statement
abbrev pub entries_for : List (List ℕ) → List ℕ → VarMap
entries_for ps c = with_entries ps (with_entry c [])

pub premises-covered : (ps : List (List ℕ)) (c : List ℕ) → CoversAll (entries_for ps c) ps
premises-covered ps c = with_entries-covers ps (with_entry c []) (with-one IsGeneral general-step c [] no-entries)

pub conclusion-covered : (ps : List (List ℕ)) (c : List ℕ) → Covers (entries_for ps c) c
conclusion-covered ps c = with-all (λ fs. Covers fs c) (covers-step c) ps (with_entry c []) (with_entry-covers c [] no-entries)

-- each value has its variable's type
schematic-prop : (p : List ℕ) → IsProp (schematic_var p)
unfolding type_of result_type
schematic-prop p = ((tt, tt), refl)

typed-push : (p : List ℕ) (es : VarMap) → AreTyped es → AreTyped (entered p es)
unfolding AreTyped
typed-push p [] h = (schematic-prop p, tt)
typed-push p (e ∷ es) h = (h.0, typed-push p es h.1)

typed-step : (p : List ℕ) (es : VarMap) → term_at es (name_of p) prop ≡ None → AreTyped es → AreTyped (entered p es)
typed-step p es n h = typed-push p es h

pub typed-none : AreTyped []
unfolding AreTyped
typed-none = tt

pub entries-typed : (ps : List (List ℕ)) (c : List ℕ) → AreTyped (entries_for ps c)
entries-typed ps c = with-all AreTyped typed-step ps (with_entry c []) (with-one AreTyped typed-step c [] typed-none)

-- no variable has two
apart-step : (p : List ℕ) (es : VarMap) → term_at es (name_of p) prop ≡ None → IsDistinct same_var (keys_of es) → IsDistinct same_var (keys_of (entered p es))
apart-step p es n d = apart-push same_var es (key p) (schematic_var p) n d

pub none-apart : {K : Type 0} (same : K → K → Bool) → IsDistinct same []
unfolding IsDistinct
none-apart same = tt

pub entries-apart : (ps : List (List ℕ)) (c : List ℕ) → IsDistinct same_var (keys_of (entries_for ps c))
entries-apart ps c =
    let P : VarMap → Type 0 = λ es. IsDistinct same_var (keys_of es) in
    with-all P apart-step ps (with_entry c []) (with-one P apart-step c [] (none-apart same_var))
