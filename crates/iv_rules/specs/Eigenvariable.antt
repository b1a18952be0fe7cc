-- Free variables that are told by their name alone, as eigenvariables are (Paulson 1989: the conditions on eigenvariables).
use Rattle.std.specs.Prelude.{Bool, false, ◌||◌}
use Rattle.iv_text.specs.declared.name.Name.{Name}
use Rattle.iv_term.specs.declared.term.Head.{Head}
use Rattle.iv_term.specs.declared.term.Head.TheVariants.{Free}
use Rattle.iv_term.specs.declared.term.Term.{Term}
use Rattle.iv_term.specs.declared.term.Terms.{Terms}
use Rattle.iv_term.specs.declared.term.Term.TheBlock.{Spine, Nil}
use Rattle.iv_text.specs.Name.{same_name}
use Rattle.iv_term.specs.Term.{lam, tm_cons}

-- whether a head is a free variable named x, of whatever type
abbrev pub is_named : Name → Head → Bool
is_named x (Free y a) = same_name x y
is_named x h = false

unfoldable mutual
  -- whether a free variable named x stands in a term
  pub has_named : Name → Term → Bool
  has_named x (lam a b) = has_named x b
  has_named x (Spine h ts) = is_named x h || any_has_named x ts

  pub any_has_named : Name → Terms → Bool
  any_has_named x Nil = false
  any_has_named x (tm_cons t ts) = has_named x t || any_has_named x ts
