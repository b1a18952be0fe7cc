-- Whatever the reader of types reads belongs to its tokens.
use Rattle.std.proofs.Common.{◌≡◌, ℕ, zero, suc, List, [], ◌∷◌, ◌++◌, refl, ap, sym, ◌∙◌, subst, append_assoc}
use Rattle.std.specs.Prelude.{Bool, true, false, cond, None, Some}
use Rattle.iv_grammar.specs.declared.sign.Sign.TheVariants as sign
use Rattle.iv_grammar.specs.declared.words.Word.TheVariants as word
use Rattle.iv_grammar.specs.declared.cutting.Token.{Token}
use Rattle.iv_grammar.specs.declared.cutting.Token.TheVariants as token
use Rattle.iv_grammar.specs.TypeTree.{Ty, var, con, paren, applied, round, square, more, tuple, arrow, arrows, ident, type_yield, is_round, is_square, is_types, type_goes_on, TypeSuits, TypeFits}
use Rattle.iv_grammar.proofs.TypeReading.{State, begin, got, Read, Reader, then_read, begun, closed, arrowed, grown, some_read, stop, read}

-- a tree was read of some tokens, and these are left
pub record Whole (tokens : List Token) (t : Ty) (left : List Token) : Type 0 where
  pub yields : type_yield t ++ left ≡ tokens
  pub suits : TypeSuits t left
  pub fits : TypeFits t left

abbrev pub Sound : State → List Token → Ty → List Token → Type 0
Sound begin tokens t left = Whole tokens t left
Sound (got x) rest t left = TypeFits x rest → Whole (type_yield x ++ rest) t left

abbrev pub IsSound : Reader → Type 0
IsSound run = (s : State) (tokens : List Token) (t : Ty) (left : List Token) → run s tokens ≡ Some (t, left) → Sound s tokens t left

-- what came of two steps came of the first
pub record Two (r : Read) (f : Ty → List Token → Read) (t : Ty) (left : List Token) : Type 0 where
  pub mid : Ty
  pub between : List Token
  pub one : r ≡ Some (mid, between)
  pub other : f mid between ≡ Some (t, left)

two_steps : (r : Read) (f : Ty → List Token → Read) (t : Ty) (left : List Token) → then_read r f ≡ Some (t, left) → Two r f t left
two_steps None f t left e = absurd (none_some t left e)
  where
    none_some : (t : Ty) (left : List Token) → ◌≡◌ {A = Read} None (Some (t, left)) → ⊥
    none_some t left e = cc
two_steps (Some r) f t left e = record { mid = r.0; between = r.1; one = refl; other = e }

along : (xs ys : List Token) (t : Ty) (left : List Token) → xs ≡ ys → Whole xs t left → Whole ys t left
along xs ys t left e w = subst (λ ts. Whole ts t left) e w

fits_along : (x : Ty) (xs ys : List Token) → xs ≡ ys → TypeFits x xs → TypeFits x ys
fits_along x xs ys e f = subst (λ ts. TypeFits x ts) e f

begun_sound : (run : Reader) → IsSound run → (tokens : List Token) (t : Ty) (left : List Token) → begun run tokens ≡ Some (t, left) → Whole tokens t left
begun_sound run ih (token.Word word.Tvar x ∷ rest) t left e = ih (got (var x)) rest t left e tt
begun_sound run ih (token.Word word.Ident x ∷ rest) t left e = ih (got (con x)) rest t left e tt
begun_sound run ih (token.Sign sign.Open ∷ rest) t left e =
    let s = two_steps (run begin rest) (λ u after. run (got (round u)) after) t left e in
    let b : Whole rest s.mid s.between = ih begin rest s.mid s.between s.one in
    along (token.Sign sign.Open ∷ (type_yield s.mid ++ s.between)) (token.Sign sign.Open ∷ rest) t left (ap (λ ts. token.Sign sign.Open ∷ ts) b.yields) (ih (got (round s.mid)) s.between t left s.other (b.suits, b.fits))
begun_sound run ih (token.Sign sign.OpenTypes ∷ rest) t left e =
    let s = two_steps (run begin rest) (λ u after. run (got (square u)) after) t left e in
    let b : Whole rest s.mid s.between = ih begin rest s.mid s.between s.one in
    along (token.Sign sign.OpenTypes ∷ (type_yield s.mid ++ s.between)) (token.Sign sign.OpenTypes ∷ rest) t left (ap (λ ts. token.Sign sign.OpenTypes ∷ ts) b.yields) (ih (got (square s.mid)) s.between t left s.other (b.suits, b.fits))
begun_sound run ih tokens t left e = cc

-- an operand behind a symbol
between : (x : Ty) (k : Token) (u : Ty) (rest mid : List Token) → type_yield u ++ mid ≡ rest → (type_yield x ++ k ∷ type_yield u) ++ mid ≡ type_yield x ++ k ∷ rest
between x k u rest mid e = append_assoc (type_yield x) (k ∷ type_yield u) mid ∙ ap (λ ts. type_yield x ++ k ∷ ts) e

arrowed_sound : (run : Reader) → IsSound run → (x : Ty) (rest : List Token) (t : Ty) (left : List Token) → is_square x ≡ true → arrowed run x rest ≡ Some (t, left) → TypeFits x (token.Sign sign.CloseTypes ∷ rest)
    → Whole (type_yield x ++ token.Sign sign.CloseTypes ∷ rest) t left
arrowed_sound run ih x (token.Sign sign.Arrow ∷ rest) t left q e f =
    let s = two_steps (run begin rest) (λ u after. run (got (arrows x u)) after) t left e in
    let b : Whole rest s.mid s.between = ih begin rest s.mid s.between s.one in
    let back : token.Sign sign.CloseTypes ∷ token.Sign sign.Arrow ∷ rest ≡ token.Sign sign.CloseTypes ∷ token.Sign sign.Arrow ∷ (type_yield s.mid ++ s.between) = ap (λ ts. token.Sign sign.CloseTypes ∷ token.Sign sign.Arrow ∷ ts) (sym b.yields) in
    along _ _ t left (append_assoc (type_yield x) (token.Sign sign.CloseTypes ∷ token.Sign sign.Arrow ∷ type_yield s.mid) s.between ∙ ap (λ ts. type_yield x ++ ts) (sym back))
    (ih (got (arrows x s.mid)) s.between t left s.other (q, (fits_along x _ _ back f, (b.suits, b.fits))))
arrowed_sound run ih x rest t left q e f = cc

tuple_sound : (run : Reader) → IsSound run → (ts : Ty) (v : Ty) (rest : List Token) (t : Ty) (left : List Token) → is_round ts ≡ true → closed run (more ts v) rest ≡ Some (t, left) → TypeFits (more ts v) (token.Sign sign.Close ∷ rest)
    → Whole (type_yield (more ts v) ++ token.Sign sign.Close ∷ rest) t left
tuple_sound run ih ts v (token.Word word.Ident c ∷ rest) t left q e f =
    along _ _ t left (append_assoc (type_yield (more ts v)) (token.Sign sign.Close ∷ ident c ∷ []) rest) (ih (got (tuple (more ts v) c)) rest t left e (q, (refl, f)))
tuple_sound run ih ts v rest t left q e f = cc

closed_sound : (run : Reader) → IsSound run → (x : Ty) (rest : List Token) (t : Ty) (left : List Token) → is_round x ≡ true → closed run x rest ≡ Some (t, left) → TypeFits x (token.Sign sign.Close ∷ rest)
    → Whole (type_yield x ++ token.Sign sign.Close ∷ rest) t left
closed_sound run ih (round v) rest t left q e f =
    along _ _ t left (ap (λ ts. token.Sign sign.Open ∷ ts) (append_assoc (type_yield v) (token.Sign sign.Close ∷ []) rest)) (ih (got (paren v)) rest t left e f)
closed_sound run ih (more ts v) rest t left q e f = tuple_sound run ih ts v rest t left q e f
closed_sound run ih x rest t left q e f = cc

grown_sound : (run : Reader) → IsSound run → (x : Ty) (tokens : List Token) (t : Ty) (left : List Token) → type_goes_on x tokens ≡ true → grown run x tokens ≡ Some (t, left) → TypeFits x tokens → Whole (type_yield x ++ tokens) t left
grown_sound run ih x (token.Word word.Ident c ∷ rest) t left q e f =
    along _ _ t left (append_assoc (type_yield x) (ident c ∷ []) rest) (ih (got (applied x c)) rest t left e (q, f))
grown_sound run ih x (token.Sign sign.Arrow ∷ rest) t left q e f =
    let s = two_steps (run begin rest) (λ u after. run (got (arrow x u)) after) t left e in
    let b : Whole rest s.mid s.between = ih begin rest s.mid s.between s.one in
    along _ _ t left (between x (token.Sign sign.Arrow) s.mid rest s.between b.yields)
    (ih (got (arrow x s.mid)) s.between t left s.other (q, (fits_along x _ _ (ap (λ ts. token.Sign sign.Arrow ∷ ts) (sym b.yields)) f, (b.suits, b.fits))))
grown_sound run ih x (token.Sign sign.Comma ∷ rest) t left q e f =
    let s = two_steps (run begin rest) (λ u after. run (got (more x u)) after) t left e in
    let b : Whole rest s.mid s.between = ih begin rest s.mid s.between s.one in
    along _ _ t left (between x (token.Sign sign.Comma) s.mid rest s.between b.yields)
    (ih (got (more x s.mid)) s.between t left s.other (q, (fits_along x _ _ (ap (λ ts. token.Sign sign.Comma ∷ ts) (sym b.yields)) f, (b.suits, b.fits))))
grown_sound run ih x (token.Sign sign.Close ∷ rest) t left q e f = closed_sound run ih x rest t left q e f
grown_sound run ih x (token.Sign sign.CloseTypes ∷ rest) t left q e f = arrowed_sound run ih x rest t left q e f
grown_sound run ih x tokens t left q e f = cc

-- where it stops
abbrev Holds : (Ty → List Token → Type 0) → Read → Type 0
Holds P None = Unit {0}
Holds P (Some r) = P r.0 r.1

stop_sound : (x : Ty) (rest : List Token) (t : Ty) (left : List Token) (b : Bool) → type_goes_on x rest ≡ false → is_types x ≡ b → cond b None (some_read x rest) ≡ Some (t, left) → TypeFits x rest → Whole (type_yield x ++ rest) t left
stop_sound x rest t left true g h e f = absurd (none_some e)
  where
    none_some : ◌≡◌ {A = Read} None (Some (t, left)) → ⊥
    none_some e = cc
stop_sound x rest t left false g h e f = subst (λ o. Holds (Whole (type_yield x ++ rest)) o) e (record { yields = refl; suits = record { is_type = h; stops = g }; fits = f })

got_sound : (x : Ty) (rest : List Token) (t : Ty) (left : List Token) (r : Read) (b : Bool) → type_goes_on x rest ≡ b → cond b r (stop x rest) ≡ Some (t, left) → TypeFits x rest → (b ≡ true → r ≡ Some (t, left) → Whole (type_yield x ++ rest) t left)
    → Whole (type_yield x ++ rest) t left
got_sound x rest t left r true g e f further = further refl e
got_sound x rest t left r false g e f further = stop_sound x rest t left (is_types x) g refl e f

pub type_sound : (n : ℕ) → IsSound (read n)
type_sound zero begin tokens t left e = cc
type_sound zero (got x) rest t left e = λ f. got_sound x rest t left None (type_goes_on x rest) refl e f (λ g h. absurd (none_some h))
  where
    none_some : ◌≡◌ {A = Read} None (Some (t, left)) → ⊥
    none_some e = cc
type_sound (suc n) begin tokens t left e = begun_sound (read n) (type_sound n) tokens t left e
type_sound (suc n) (got x) rest t left e = λ f. got_sound x rest t left (grown (read n) x rest) (type_goes_on x rest) refl e f (λ g h. grown_sound (read n) (type_sound n) x rest t left g h f)
