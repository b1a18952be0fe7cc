-- Each turn of simplification leaves less, so as many turns as the pairs' size are enough.
use Rattle.std.proofs.Common.{◌≡◌, ℕ, zero, suc, ◌+◌, ◌<◌, ◌≤◌, Bool, true, false, ◌&&◌, nat_eq, List, [], ◌∷◌, ◌++◌, Option, Some, None, refl, ap, subst, arith}
use Rattle.std.specs.Str.{bytes_eq}
use Rattle.iv_text.specs.Name.{same_name}
use Rattle.iv_term.specs.declared.typ.Typ.{Typ}
use Rattle.iv_term.specs.declared.typ.Types.{Types}
use Rattle.iv_term.specs.declared.term.Head.{Head}
use Rattle.iv_term.specs.declared.term.Head.TheVariants.{Const, Free, Schematic, Bound}
use Rattle.iv_term.specs.declared.term.Term.{Term}
use Rattle.iv_term.specs.declared.term.Terms.{Terms}
use Rattle.iv_term.specs.declared.term.Term.TheBlock.{Spine, Nil}
use Rattle.iv_term.specs.Typ.{prop, same_typ}
use Rattle.iv_term.specs.Term.{lam, tm_cons}
use Rattle.iv_hsub.specs.Typing.{type_of}
use Rattle.iv_hsub.specs.Index.{index, raise, raise_all}
use Rattle.iv_hsub.specs.Hsub.{append}
use Rattle.iv_hsub.specs.Hhf.{expand}
use Rattle.iv_hsub.specs.Retype.{retype, retype_all}
use Rattle.iv_laws.specs.Forms.{body}
use Rattle.iv_subst.specs.TySubst.{TyMap}
use Rattle.iv_subst.specs.Unifier.{unified}
use Rattle.iv_put.specs.Subst.{by_map}
use Rattle.iv_unify.specs.declared.pair.Pair.{Pair}
use Rattle.iv_unify.specs.Pairs.{pair, typed}
use Rattle.iv_unify.specs.Simplify.{in_pairs, and_first, Look, stays, clash, opens, opened, look_heads, look, Simple, kept, with_types, looked, turn, simplify, size, size_all, total}
use Rattle.iv_unify.specs.Laws.{TurnsAreEnough}

mutual
  unfolding size retype

  size-retype : (f : Typ → Typ) (t : Term) → size (retype f t) ≡ size t
  size-retype f (lam a b) = ap (λ z. 2 + z) (size-retype f b)
  size-retype f (Spine h ts) = ap suc (size_all-retype f ts)

  size_all-retype : (f : Typ → Typ) (ts : Terms) → size_all (retype_all f ts) ≡ size_all ts
  size_all-retype f Nil = refl
  size_all-retype f (tm_cons t ts) = let x = size-retype f t in let y = size_all-retype f ts in λ i. x i + y i

mutual
  unfolding size raise

  size-raise : (d c : ℕ) (t : Term) → size (raise d c t) ≡ size t
  size-raise d c (lam a b) = ap (λ z. 2 + z) (size-raise d (suc c) b)
  size-raise d c (Spine h ts) = ap suc (size_all-raise d c ts)

  size_all-raise : (d c : ℕ) (ts : Terms) → size_all (raise_all d c ts) ≡ size_all ts
  size_all-raise d c Nil = refl
  size_all-raise d c (tm_cons t ts) = let x = size-raise d c t in let y = size_all-raise d c ts in λ i. x i + y i

size_all-append : (ts us : Terms) → size_all (append ts us) ≡ size_all ts + size_all us
unfolding size append
size_all-append Nil us = omega arith
size_all-append (tm_cons t ts) us = let e = size_all-append ts us in omega (arith, e)

size-expand : (h : Head) (ts : Terms) → size (expand h ts) ≡ suc (size (Spine h ts))
unfolding size expand
size-expand h ts =
    let e = size_all-append (raise_all 1 0 ts) (tm_cons (index 0) Nil) in
    let f = size_all-raise 1 0 ts in
    omega (arith, e, f)

size-body : (t : Term) → size (body t) ≤ suc (size t)
unfolding size
size-body (lam a b) = omega arith
size-body (Spine h ts) = let e = size-expand h ts in omega (arith, e)

total-append : (ps qs : List Pair) → total (ps ++ qs) ≡ total ps + total qs
unfolding total
total-append [] qs = omega arith
total-append (p ∷ ps) qs = let e = total-append ps qs in omega (arith, e)

-- what a look leaves
abbrev IfLess : ℕ → Look → Type 0
IfLess n stays = Unit {0}
IfLess n clash = Unit {0}
IfLess n (opens a b qs) = total qs < n

abbrev IfSmall : ℕ → Option (List Pair) → Type 0
IfSmall n None = Unit {0}
IfSmall n (Some qs) = total qs ≤ n

pairs-small : (bs : Types) (ts us : Terms) → IfSmall (size_all ts + size_all us) (in_pairs bs ts us)
unfolding size total in_pairs
pairs-small bs Nil Nil = omega arith
pairs-small bs Nil (tm_cons u us) = tt
pairs-small bs (tm_cons t ts) Nil = tt
pairs-small bs (tm_cons t ts) (tm_cons u us) = go (in_pairs bs ts us) (pairs-small bs ts us)
  where
    go : (o : Option (List Pair)) → IfSmall (size_all ts + size_all us) o → IfSmall ((size t + size_all ts) + (size u + size_all us)) (and_first (pair bs t u) o)
    go None k = tt
    go (Some qs) k = omega (arith, k)

opened-less : (n : ℕ) (v : Bool) (a b : Typ) (o : Option (List Pair)) → IfSmall n o → IfLess (2 + n) (opened v a b o)
opened-less n true a b None k = tt
opened-less n true a b (Some qs) k = omega (arith, k)
opened-less n false a b o k = tt

heads-less : (bs : Types) (h k : Head) (ts us : Terms) → IfLess (2 + (size_all ts + size_all us)) (look_heads bs h ts k us)
heads-less bs (Schematic x a) k ts us = tt
heads-less bs (Const c a) (Schematic y b) ts us = tt
heads-less bs (Const c a) (Const d b) ts us = opened-less (size_all ts + size_all us) (bytes_eq c d) a b (in_pairs bs ts us) (pairs-small bs ts us)
heads-less bs (Const c a) (Free y b) ts us = tt
heads-less bs (Const c a) (Bound m) ts us = tt
heads-less bs (Free x a) (Schematic y b) ts us = tt
heads-less bs (Free x a) (Const d b) ts us = tt
heads-less bs (Free x a) (Free y b) ts us = opened-less (size_all ts + size_all us) (same_name x y && same_typ a b) a b (in_pairs bs ts us) (pairs-small bs ts us)
heads-less bs (Free x a) (Bound m) ts us = tt
heads-less bs (Bound n) (Schematic y b) ts us = tt
heads-less bs (Bound n) (Const d b) ts us = tt
heads-less bs (Bound n) (Free y b) ts us = tt
heads-less bs (Bound n) (Bound m) ts us = opened-less (size_all ts + size_all us) (nat_eq n m) prop prop (in_pairs bs ts us) (pairs-small bs ts us)

same-less : (n m : ℕ) (l : Look) → n ≡ m → IfLess n l → IfLess m l
same-less n m l e k = subst (λ z. IfLess z l) e k

pub look-less : (bs : Types) (t u : Term) → IfLess (size t + size u) (look bs t u)
unfolding size total
look-less bs (lam a b) u = let e = size-body u in omega (arith, e)
look-less bs (Spine h ts) (lam a b) = let e = size-expand h ts in omega (arith, e)
look-less bs (Spine h ts) (Spine k us) = same-less (2 + (size_all ts + size_all us)) (suc (size_all ts) + suc (size_all us)) (look_heads bs h ts k us) (omega arith) (heads-less bs h k ts us)

-- two searches that agree on less
module _ (next other : TyMap → List Pair → Simple) where
  looked-same : (s : TyMap) (p : Pair) (ps : List Pair) (n : ℕ) → ((r : TyMap) (qs : List Pair) → total qs < n + total ps → next r qs ≡ other r qs) → 0 < n → (l : Look) → IfLess n l
      → looked next s p ps l ≡ looked other s p ps l
  looked-same s p ps n same q stays k = ap (kept p) (same s ps (omega (arith, q)))
  looked-same s p ps n same q clash k = refl
  looked-same s p ps n same q (opens a b qs) k = go (unified a b s)
    where
      go : (o : Option TyMap) → with_types o (λ r. next r (qs ++ ps)) ≡ with_types o (λ r. other r (qs ++ ps))
      go None = refl
      go (Some r) = let e = total-append qs ps in same r (qs ++ ps) (omega (arith, e, k))

  turn-same : (s : TyMap) (p : Pair) (ps : List Pair) → ((r : TyMap) (qs : List Pair) → total qs < (size p.left + size p.right) + total ps → next r qs ≡ other r qs) → 0 < size p.left → turn next s p ps ≡ turn other s p ps
  turn-same s p ps same q = go (unified (type_of p.bounds p.left) (type_of p.bounds p.right) s)
    where
      go : (o : Option TyMap) → with_types o (λ r. looked next r (typed r p) ps (look (typed r p).bounds (typed r p).left (typed r p).right))
          ≡ with_types o (λ r. looked other r (typed r p) ps (look (typed r p).bounds (typed r p).left (typed r p).right))
      go None = refl
      go (Some r) =
          let x = size-retype (by_map r) p.left in
          let y = size-retype (by_map r) p.right in
          looked-same r (typed r p) ps (size (typed r p).left + size (typed r p).right) (λ z qs h. same z qs (omega (arith, h, x, y))) (omega (arith, q, x))
          (look (typed r p).bounds (typed r p).left (typed r p).right) (look-less (typed r p).bounds (typed r p).left (typed r p).right)

size-positive : (t : Term) → 0 < size t
unfolding size
size-positive (lam a b) = omega arith
size-positive (Spine h ts) = omega arith

-- the law
simplify-enough : (n m : ℕ) (s : TyMap) (ps : List Pair) → total ps ≤ n → total ps ≤ m → simplify n s ps ≡ simplify m s ps
unfolding simplify total
simplify-enough zero zero s ps p q = refl
simplify-enough zero (suc m) s [] p q = refl
simplify-enough (suc n) zero s [] p q = refl
simplify-enough (suc n) (suc m) s [] p q = refl
simplify-enough zero (suc m) s (x ∷ ps) p q = absurd (let h = size-positive x.left in omega (arith, p, h))
simplify-enough (suc n) zero s (x ∷ ps) p q = absurd (let h = size-positive x.left in omega (arith, q, h))
simplify-enough (suc n) (suc m) s (x ∷ ps) p q =
    let a = size-retype (by_map s) x.left in
    let b = size-retype (by_map s) x.right in
    let h = size-positive x.left in
    turn-same (simplify n) (simplify m) s (typed s x) ps (λ r qs k. simplify-enough n m r qs (omega (arith, p, k, a, b)) (omega (arith, q, k, a, b))) (omega (arith, h, a))

pub turns_enough : TurnsAreEnough
turns_enough n m s ps p q = simplify-enough n m s ps p q
