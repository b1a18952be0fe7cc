-- What holds of each schematic variable of a term, part by part.
use Rattle.std.proofs.Common.{◌≡◌, Bool, true, false, ◌||◌, List, [], ◌∷◌, ◌++◌, refl, sym, ◌∙◌}
use Rattle.std.specs.Bool.{Decides}
use Rattle.std.specs.List.{AllByRecursion}
use Rattle.iv_term.specs.declared.typ.Typ.{Typ}
use Rattle.iv_term.specs.declared.typ.Types.{Types}
use Rattle.iv_term.specs.declared.term.Head.{Head}
use Rattle.iv_term.specs.declared.term.Term.{Term}
use Rattle.iv_term.specs.declared.term.Terms.{Terms}
use Rattle.iv_term.specs.declared.term.Term.TheBlock.{Spine}
use Rattle.iv_term.specs.Typ.{ty_cons}
use Rattle.iv_term.specs.Term.{lam, tm_cons}
use Rattle.iv_kernel.specs.Schematics.{is_open, are_open, is_schematic_head, is_schematic, are_schematic}

module _ {X : Type 0} (P : X → Type 0) where
  all-parts : (xs ys : List X) → AllByRecursion P (xs ++ ys) → AllByRecursion P xs × AllByRecursion P ys
  all-parts [] ys h = (tt, h)
  all-parts (x ∷ xs) ys h = let r = all-parts xs ys h.1 in ((h.0, r.0), r.1)

  all-whole : (xs ys : List X) → AllByRecursion P xs → AllByRecursion P ys → AllByRecursion P (xs ++ ys)
  all-whole [] ys h k = k
  all-whole (x ∷ xs) ys h k = (h.0, all-whole xs ys h.1 k)

  -- a test of each item of two lists, where it holds of the first, and where it doesn't
  pub both_yes : (xs ys : List X) (a b : Bool) → Decides a (AllByRecursion P xs) → a ≡ true → Decides b (AllByRecursion P ys) → Decides b (AllByRecursion P (xs ++ ys))
  both_yes xs ys a b d e f = (λ h. all-whole xs ys (d.0 e) (f.0 h), λ h. f.1 (all-parts xs ys h).1)

  pub first_no : (xs ys : List X) (a : Bool) → Decides a (AllByRecursion P xs) → a ≡ false → Decides a (AllByRecursion P (xs ++ ys))
  first_no xs ys a d e = (λ h. absurd (let bad : false ≡ true = sym e ∙ h in cc), λ h. d.1 (all-parts xs ys h).0)

-- where a test of a part tells of the whole
open-or : (a b : Bool) → a ≡ true → true ≡ (a || b)
open-or a b h = rw h refl

later-or : (a b c : Bool) → a ≡ false → c ≡ b → c ≡ (a || b)
later-or a b c h k = rw h k

pub open-here : (t : Typ) (ts : Types) → is_open t ≡ true → true ≡ are_open (ty_cons t ts)
unfolding are_open
open-here t ts h = open-or (is_open t) (are_open ts) h

pub open-there : (t : Typ) (ts : Types) (b : Bool) → is_open t ≡ false → b ≡ are_open ts → b ≡ are_open (ty_cons t ts)
unfolding are_open
open-there t ts b h k = later-or (is_open t) (are_open ts) b h k

pub under-here : (a : Typ) (t : Term) → is_open a ≡ true → true ≡ is_schematic (lam a t)
unfolding is_schematic
under-here a t h = open-or (is_open a) (is_schematic t) h

pub under-there : (a : Typ) (t : Term) (b : Bool) → is_open a ≡ false → b ≡ is_schematic t → b ≡ is_schematic (lam a t)
unfolding is_schematic
under-there a t b h k = later-or (is_open a) (is_schematic t) b h k

pub head-here : (h : Head) (ts : Terms) → is_schematic_head h ≡ true → true ≡ is_schematic (Spine h ts)
unfolding is_schematic
head-here h ts e = open-or (is_schematic_head h) (are_schematic ts) e

pub head-there : (h : Head) (ts : Terms) (b : Bool) → is_schematic_head h ≡ false → b ≡ are_schematic ts → b ≡ is_schematic (Spine h ts)
unfolding is_schematic
head-there h ts b e k = later-or (is_schematic_head h) (are_schematic ts) b e k

pub term-here : (t : Term) (ts : Terms) → is_schematic t ≡ true → true ≡ are_schematic (tm_cons t ts)
unfolding are_schematic
term-here t ts h = open-or (is_schematic t) (are_schematic ts) h

pub term-there : (t : Term) (ts : Terms) (b : Bool) → is_schematic t ≡ false → b ≡ are_schematic ts → b ≡ are_schematic (tm_cons t ts)
unfolding are_schematic
term-there t ts b h k = later-or (is_schematic t) (are_schematic ts) b h k
