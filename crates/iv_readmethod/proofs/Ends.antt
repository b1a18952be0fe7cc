-- What stands behind parts of methods.
use Rattle.std.proofs.Common.{◌≡◌, Bool, true, false, List, [], ◌∷◌, refl}
use Rattle.std.specs.Prelude.{◌||◌, ◌&&◌, not}
use Rattle.std.specs.List.{list_any, list_all}
use Rattle.iv_recogniser.specs.declared.class.Class.{Class}
use Rattle.iv_recogniser.specs.declared.class.Class.TheVariants as class
use Rattle.iv_recogniser.specs.declared.class.Sort.{Sort}
use Rattle.iv_recogniser.specs.declared.class.Sort.TheVariants as sort
use Rattle.iv_recogniser.specs.Class.{has, same_class}
use Rattle.iv_forms.specs.declared.lexeme.Lexeme.{Lexeme}
use Rattle.iv_forms.specs.Lexeme.{IsA}
use Rattle.iv_facts.specs.Found.{begins}
use Rattle.iv_readmethod.specs.Laws.{Below}

-- whether the next token is one of these classes
abbrev pub ends : List Class → List Lexeme → Bool
ends cs [] = false
ends cs (t ∷ ts) = list_any (same_class t.class) cs

-- what ends an ALT, and what stands between the methods of one
abbrev pub ends_alt : List Class
ends_alt = class.Close ∷ class.OutOf ∷ []

abbrev pub ends_semi : List Class
ends_semi = class.Bar ∷ ends_alt

abbrev pub ends_seq : List Class
ends_seq = class.Semicolon ∷ ends_semi

abbrev pub ends_item : List Class
ends_item = class.Comma ∷ ends_seq

or_right : (a : Bool) {b : Bool} → b ≡ true → (a || b) ≡ true
or_right true e = refl
or_right false e = e

pub ends_more : (c : Class) (cs : List Class) (us : List Lexeme) → ends cs us ≡ true → ends (c ∷ cs) us ≡ true
ends_more c cs [] e = e
ends_more c cs (t ∷ ts) e = or_right (same_class t.class c) e

pub ends_here : (c : Class) (cs : List Class) (t : Lexeme) (ts : List Lexeme) → IsA c t → ends (c ∷ cs) (t ∷ ts) ≡ true
ends_here c cs t ts e = rw e refl

and_left : {a : Bool} (b : Bool) → (a && b) ≡ true → a ≡ true
and_left {a = true} b e = refl
and_left {a = false} b e = cc

and_right : (a : Bool) {b : Bool} → (a && b) ≡ true → b ≡ true
and_right true e = e
and_right false e = cc

module _ (law : Below) where
  free_by : (k : Sort) (d : Class) (c : Class) (more : Bool) → not (has k d) ≡ true → (more ≡ true → has k c ≡ false) → (b : Bool) → same_class c d ≡ b → (b || more) ≡ true → has k c ≡ false
  free_by k d c more l rest true s e = law.sets.apart k (sort.Only d) (rw l refl) c s
  free_by k d c more l rest false s e = rest e

  free_class : (k : Sort) (cs : List Class) (c : Class) → list_all (λ d. not (has k d)) cs ≡ true → list_any (same_class c) cs ≡ true → has k c ≡ false
  free_class k [] c l e = cc
  free_class k (d ∷ cs) c l e = free_by k d c (list_any (same_class c) cs) (and_left (list_all (λ d. not (has k d)) cs) l) (λ i. free_class k cs c (and_right (not (has k d)) l) i) (same_class c d) refl e

  pub free_ends : (k : Sort) (cs : List Class) → list_all (λ d. not (has k d)) cs ≡ true → (us : List Lexeme) → ends cs us ≡ true → begins k us ≡ false
  free_ends k cs l [] e = refl
  free_ends k cs l (t ∷ ts) e = free_class k cs t.class l e
