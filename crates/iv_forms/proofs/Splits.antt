-- A token of one set is of one of some others.
use Rattle.std.proofs.Common.{◌≡◌, List, [], ◌∷◌, Bool, true, false, refl, inl, inr}
use Rattle.std.specs.Prelude.{◌⊎◌, ◌||◌, map}
use Rattle.std.specs.List.{list_any, list_all}
use Rattle.iv_recogniser.specs.declared.class.Class.{Class}
use Rattle.iv_recogniser.specs.declared.class.Class.TheVariants as class
use Rattle.iv_recogniser.specs.declared.class.Sort.{Sort}
use Rattle.iv_recogniser.specs.declared.class.Sort.TheVariants as sort
use Rattle.iv_recogniser.specs.declared.part.Symbol.{Symbol}
use Rattle.iv_recogniser.specs.Class.{has, members}
use Rattle.iv_recogniser.specs.Table.{forms}
use Rattle.iv_recogniser.specs.Spell.{Spells}
use Rattle.iv_forms.specs.declared.lexeme.Lexeme.{Lexeme}
use Rattle.iv_forms.specs.Lexeme.{Is, IsA}
use Rattle.iv_forms.proofs.Sorts.{Law, within}

-- the classes of some tokens
abbrev pub kinds : List Lexeme → List Class
kinds ts = map (λ t. t.class) ts

-- some symbols spell the classes of some tokens
abbrev pub S : List Symbol → List Lexeme → Type 0
S s ts = Spells forms s (kinds ts)

abbrev OneOf : List Sort → Lexeme → Type 0
OneOf [] t = ⊥
OneOf (k ∷ ks) t = Is k t ⊎ OneOf ks t

or_parts : (a b : Bool) → (a || b) ≡ true → (a ≡ true) ⊎ (b ≡ true)
or_parts true b h = inl refl
or_parts false b h = inr h

one_of : (ks : List Sort) (t : Lexeme) → list_any (λ l. has l t.class) ks ≡ true → OneOf ks t
one_of [] t h = let bad : false ≡ true = h in cc
one_of (k ∷ ks) t h = elim (or_parts (has k t.class) (list_any (λ l. has l t.class) ks) h) [ inl y ↦ inl y | inr n ↦ inr (one_of ks t n) ]

module _ (law : Law) where
  cover : (k : Sort) (ks : List Sort) → list_all (λ c. list_any (λ l. has l c) ks) (members k) ≡ true → (t : Lexeme) → Is k t → OneOf ks t
  cover k ks all t h = one_of ks t (law k (λ c. list_any (λ l. has l c) ks) all t.class h)

  pub strong_mark : (t : Lexeme) → IsA class.Exclamation t → Is sort.Mark t
  strong_mark t h = within law (sort.Only class.Exclamation) sort.Mark refl t h

  pub weak_mark : (t : Lexeme) → IsA class.Question t → Is sort.Mark t
  weak_mark t h = within law (sort.Only class.Question) sort.Mark refl t h

  two : (k a b : Sort) → list_all (λ c. list_any (λ l. has l c) (a ∷ b ∷ [])) (members k) ≡ true → {A : Type 0} (t : Lexeme) → Is k t → (Is a t → A) → (Is b t → A) → A
  two k a b all {A} t h f g = elim (cover k (a ∷ b ∷ []) all t h) [ inl y ↦ f y | inr n ↦ elim n [ inl y ↦ g y | inr e ↦ elim e [ ] ] ]

  three : (k a b c : Sort) → list_all (λ d. list_any (λ l. has l d) (a ∷ b ∷ c ∷ [])) (members k) ≡ true → {A : Type 0} (t : Lexeme) → Is k t → (Is a t → A) → (Is b t → A) → (Is c t → A) → A
  three k a b c all {A} t h f g i = elim (cover k (a ∷ b ∷ c ∷ []) all t h) [ inl y ↦ f y | inr n ↦ elim n [ inl y ↦ g y | inr m ↦ elim m [ inl y ↦ i y | inr e ↦ elim e [ ] ] ] ]

  four : (k a b c d : Sort) → list_all (λ e. list_any (λ l. has l e) (a ∷ b ∷ c ∷ d ∷ [])) (members k) ≡ true → {A : Type 0} (t : Lexeme) → Is k t → (Is a t → A) → (Is b t → A) → (Is c t → A) → (Is d t → A) → A
  four k a b c d all {A} t h f g i j = elim (cover k (a ∷ b ∷ c ∷ d ∷ []) all t h) [ inl y ↦ f y | inr n ↦ elim n [ inl y ↦ g y | inr m ↦ elim m [ inl y ↦ i y | inr o ↦ elim o [ inl y ↦ j y | inr e ↦ elim e [ ] ] ] ] ]

  pub by_name : {A : Type 0} (t : Lexeme) → Is sort.Term t → (Is sort.Name t → A) → (Is sort.NoName t → A) → A
  by_name t h f g = two sort.Term sort.Name sort.NoName refl t h f g

  pub by_ident : {A : Type 0} (t : Lexeme) → Is sort.Term t → (Is sort.Identifier t → A) → (Is sort.NoIdent t → A) → A
  by_ident t h f g = two sort.Term sort.Identifier sort.NoIdent refl t h f g

  pub by_long : {A : Type 0} (t : Lexeme) → Is sort.Name t → (Is sort.Identifier t → A) → (IsA class.Long t → A) → A
  by_long t h f g = two sort.Name sort.Identifier (sort.Only class.Long) refl t h f g

  pub by_att : {A : Type 0} (t : Lexeme) → Is sort.Name t → (IsA class.OfFacts t → A) → (IsA class.ThenFact t → A) → (IsA class.OfTerms t → A) → (Is sort.OtherName t → A) → A
  by_att t h f g i j = four sort.Name (sort.Only class.OfFacts) (sort.Only class.ThenFact) (sort.Only class.OfTerms) sort.OtherName refl t h f g i j

  pub by_call : {A : Type 0} (t : Lexeme) → Is sort.Name t → (IsA class.Rule t → A) → (IsA class.Match t → A) → (Is sort.CallName t → A) → A
  by_call t h f g i = three sort.Name (sort.Only class.Rule) (sort.Only class.Match) sort.CallName refl t h f g i

  pub by_subject : {A : Type 0} (t : Lexeme) → Is sort.Name t → (IsA class.Premises t → A) → (IsA class.Conclusion t → A) → (Is sort.SubjectName t → A) → A
  by_subject t h f g i = three sort.Name (sort.Only class.Premises) (sort.Only class.Conclusion) sort.SubjectName refl t h f g i

  pub by_obtained : {A : Type 0} (t : Lexeme) → Is sort.Term t → (Is sort.Identifier t → A) → (IsA class.Long t → A) → (Is sort.NoName t → A) → A
  by_obtained t h f g i = three sort.Term sort.Identifier (sort.Only class.Long) sort.NoName refl t h f g i
