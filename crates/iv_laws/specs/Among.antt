-- What the laws on lists of hypotheses say: which terms are in them (of this project).
use Rattle.std.specs.Prelude.{◌≡◌, true, not, ◌&&◌, ◌||◌, Option}
use Rattle.iv_term.specs.declared.typ.Typ.{Typ}
use Rattle.iv_term.specs.declared.term.Head.{Head}
use Rattle.iv_term.specs.declared.term.Term.{Term}
use Rattle.iv_term.specs.declared.term.Terms.{Terms}
use Rattle.iv_term.specs.declared.term.Term.TheBlock.{Nil}
use Rattle.iv_term.specs.Term.{tm_cons, same_term}
use Rattle.iv_term.specs.Hyps.{among, union, without, IsDistinctTerms}
use Rattle.iv_hsub.specs.Retype.{retype_all}
use Rattle.iv_hsub.specs.Inst.{inst_all}

-- each term of the first list is in the second
abbrev pub AreAmong : Terms → Terms → Type 0
AreAmong hs ks = (t : Term) → among t hs ≡ true → among t ks ≡ true

abbrev pub AmongItself : Type 0
AmongItself = (hs : Terms) → AreAmong hs hs

abbrev pub AmongThoseAmong : Type 0
AmongThoseAmong = (hs ks ls : Terms) → AreAmong hs ks → AreAmong ks ls → AreAmong hs ls

-- what is in a union, and what is left where a term is taken out
abbrev pub InUnion : Type 0
InUnion = (t : Term) (hs ks : Terms) → among t (union hs ks) ≡ (among t hs || among t ks)

abbrev pub InWithout : Type 0
InWithout = (t a : Term) (hs : Terms) → among t (without a hs) ≡ (not (same_term t a) && among t hs)

-- a union is the least list with both, and what is taken out is missed by nobody who has it
abbrev pub UnionHasFirst : Type 0
UnionHasFirst = (hs ks : Terms) → AreAmong hs (union hs ks)

abbrev pub UnionHasSecond : Type 0
UnionHasSecond = (hs ks : Terms) → AreAmong ks (union hs ks)

abbrev pub UnionIsLeast : Type 0
UnionIsLeast = (hs ks ls : Terms) → AreAmong hs ls → AreAmong ks ls → AreAmong (union hs ks) ls

abbrev pub WithoutIsLess : Type 0
WithoutIsLess = (a : Term) (hs : Terms) → AreAmong (without a hs) hs

abbrev pub WithoutIsDischarged : Type 0
WithoutIsDischarged = (a : Term) (hs ks : Terms) → AreAmong hs (tm_cons a ks) → AreAmong (without a hs) ks

-- a list without repeats is the union of nothing and itself
abbrev pub UnionOfNothing : Type 0
UnionOfNothing = (hs : Terms) → IsDistinctTerms hs → union Nil hs ≡ hs

-- types and terms put in all of them: what was among others is among theirs
abbrev pub InstancesAreAmong : Type 0
InstancesAreAmong = (f : Typ → Typ) (F : Head → Option Term) (hs ks : Terms) → AreAmong hs ks
    → AreAmong (union Nil (inst_all F (retype_all f hs))) (union Nil (inst_all F (retype_all f ks)))
