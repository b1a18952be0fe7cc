-- From the table's verdict to that of the forms.
use Rattle.std.proofs.Common.{◌≡◌, ℕ, zero, suc, ◌<◌, List, [], ◌∷◌, ◌++◌, length, take, true, refl, ap, sym, ◌∙◌, subst}
use Rattle.std.specs.Prelude.{map}
use Rattle.iv_lex.specs.declared.cutting.Kind.TheVariants as kind
use Rattle.iv_recogniser.specs.declared.class.Class.{Class}
use Rattle.iv_recogniser.specs.declared.part.Part.TheVariants as P
use Rattle.iv_recogniser.specs.declared.part.Symbol.{Symbol}
use Rattle.iv_recogniser.specs.declared.part.Symbol.TheVariants.{Word, Goes}
use Rattle.iv_recogniser.specs.declared.reading.Verdict.{Verdict}
use Rattle.iv_recogniser.specs.declared.reading.Verdict.TheVariants.{Whole, Cut, Refused}
use Rattle.iv_recogniser.specs.Class.{has}
use Rattle.iv_recogniser.specs.Table.{forms}
use Rattle.iv_recogniser.specs.Spell.{Spells, none, word, part, IsViable, Judged}
use Rattle.iv_forms.specs.declared.lexeme.Lexeme.{Lexeme}
use Rattle.iv_forms.specs.Readable.{IsReadable, IsOpen, IsVerdict}
use Rattle.iv_forms.proofs.Sorts.{Law}
use Rattle.iv_forms.proofs.Means.{Means, end, token, phrase}
use Rattle.iv_forms.proofs.Closed.{closed}
use Rattle.iv_forms.proofs.Splits.{kinds}
use Rattle.iv_forms.proofs.BackForm.{form_s}

-- what stands behind some of the symbols
split : (r : List Symbol) {s : List Symbol} {ts us : List Lexeme} → Means (r ++ s) ts us → (mid : List Lexeme) × Means r ts mid × Means s mid us
split [] m = (_, end, m)
split (Word k ∷ r) (token t h m) = let x = split r m in (x.0, token t h x.1, x.2)
split (Goes p ∷ r) (phrase d m) = let x = split r m in (x.0, phrase d x.1, x.2)

-- a token of each class
token_of : Class → Lexeme
token_of c = record { class = c; token = record { kind = kind.Bad; text = []; at = record { 0 = 0 }; end = record { 0 = 0 } }; number = 0 }

tokens_of : List Class → List Lexeme
tokens_of cs = map token_of cs

kinds_tokens : (cs : List Class) → kinds (tokens_of cs) ≡ cs
unfolding token_of tokens_of
kinds_tokens [] = refl
kinds_tokens (c ∷ cs) = ap (λ ds. c ∷ ds) (kinds_tokens cs)

kinds_append : (ts us : List Lexeme) → kinds (ts ++ us) ≡ kinds ts ++ kinds us
kinds_append [] us = refl
kinds_append (t ∷ ts) us = ap (λ ds. t.class ∷ ds) (kinds_append ts us)

kinds_take : (k : ℕ) (ts : List Lexeme) → kinds (take k ts) ≡ take k (kinds ts)
kinds_take zero ts = refl
kinds_take (suc k) [] = refl
kinds_take (suc k) (t ∷ ts) = ap (λ ds. t.class ∷ ds) (kinds_take k ts)

kinds_length : (ts : List Lexeme) → length (kinds ts) ≡ length ts
kinds_length [] = refl
kinds_length (t ∷ ts) = ap suc (kinds_length ts)

module _ (law : Law) where
  -- what the table spells, the forms mean
  spelled_means : {s : List Symbol} {cs : List Class} → Spells forms s cs → (ts : List Lexeme) → kinds ts ≡ cs → Means s ts []
  spelled_means none [] e = end
  spelled_means none (t ∷ ts) e = cc
  spelled_means (word h d) [] e = cc
  spelled_means (word {k = k} {c = c} {cs = cs} h d) (t ∷ ts) e =
      let first : t.class ≡ c = cc in let rest : kinds ts ≡ cs = cc in
      token t (subst (λ x. has k x ≡ true) (sym first) h) (spelled_means d ts rest)
  spelled_means (part {p = p} {s = s} r i d) ts e =
      let x = split r (spelled_means d ts e) in phrase (closed law p r i x.1) x.2

  read_form : {ts : List Lexeme} → Means (Goes P.Command ∷ []) ts [] → IsReadable ts
  read_form (phrase d end) = d

  readable : (ts : List Lexeme) → Spells forms (Goes P.Command ∷ []) (kinds ts) → IsReadable ts
  readable ts d = read_form (spelled_means d ts refl)

  spelled : (ts : List Lexeme) → IsReadable ts → Spells forms (Goes P.Command ∷ []) (kinds ts)
  spelled ts r = form_s law r.1 none

  opened : (ts : List Lexeme) → IsViable forms (Goes P.Command ∷ []) (kinds ts) → IsOpen ts
  opened ts v =
      (tokens_of v.0, readable (ts ++ tokens_of v.0) (subst (λ cs. Spells forms (Goes P.Command ∷ []) cs) (ap (λ ds. kinds ts ++ ds) (sym (kinds_tokens v.0)) ∙ sym (kinds_append ts (tokens_of v.0))) v.1))

  viable : (ts : List Lexeme) → IsOpen ts → IsViable forms (Goes P.Command ∷ []) (kinds ts)
  viable ts o = (kinds o.0, subst (λ cs. Spells forms (Goes P.Command ∷ []) cs) (kinds_append ts o.0) (spelled (ts ++ o.0) o.1))

  pub verdict : (ts : List Lexeme) (v : Verdict) → Judged forms (Goes P.Command ∷ []) (kinds ts) v → IsVerdict ts v
  verdict ts Whole d = readable ts d
  verdict ts Cut d = ((λ r. d.0 (spelled ts r)), opened ts d.1)
  verdict ts (Refused k) d = (
    subst (λ n. k < n) (kinds_length ts) d.0,
    opened (take k ts) (subst (λ cs. IsViable forms (Goes P.Command ∷ []) cs) (sym (kinds_take k ts)) d.1),
    (λ o. d.2 (subst (λ cs. IsViable forms (Goes P.Command ∷ []) cs) (kinds_take (suc k) ts) (viable (take (suc k) ts) o))),
  )
