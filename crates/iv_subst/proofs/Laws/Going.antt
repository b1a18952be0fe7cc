-- What unification keeps from turn to turn.
use Rattle.std.proofs.Common.{◌≡◌, ℕ, true, false, refl, sym, ◌∙◌, ap, subst, List, [], ◌∷◌, ◌++◌, None, Some, ◌≤◌, ◌<◌, ◌+◌, ◌-◌, zero, suc, arith, length}
use Rattle.iv_text.specs.declared.name.Name.{Name}
use Rattle.iv_term.specs.declared.typ.Typ.{Typ}
use Rattle.iv_term.specs.declared.typ.Typ.TheBlock.{Schematic, Nil}
use Rattle.iv_term.specs.Typ.{ty_cons}
use Rattle.iv_subst.specs.TySubst.{put_typ, put_typs, then_put, single, occurs, TyMap, at, assign}
use Rattle.iv_subst.specs.Unifier.{nowhere, clash, variable, differ, differ_all, variables, turn, solve, unified}
use Rattle.iv_subst.specs.Solved.{solved, AreSolved}
use Rattle.iv_subst.specs.Pairs.{Pairs, pairs_differ, IsStep}
use Rattle.iv_subst.proofs.Laws.Put.{put-put, single-absent, single-here, put-assign, then-assign}
use Rattle.iv_subst.proofs.Laws.Differ.{or_then-nowhere, Each, EachIn, differ-each}
use Rattle.iv_subst.proofs.Laws.Solve.{In, without, without-shorter, each-single, each-left, each-right}
use Rattle.iv_subst.proofs.Laws.Solved.{grown-push, solved-push}
use Rattle.iv_subst.proofs.Laws.Pairs.{then-none, step-now}

solve-nowhere : (n : ℕ) (s : TyMap) (a b : Typ) → differ a b ≡ nowhere → solve n s a b ≡ Some s
unfolding solve turn
solve-nowhere zero s a b h = rw h refl
solve-nowhere (suc n) s a b h = rw h refl

solve-clash : (n : ℕ) (s : TyMap) (a b : Typ) → differ a b ≡ clash → solve n s a b ≡ None
unfolding solve turn
solve-clash zero s a b h = rw h refl
solve-clash (suc n) s a b h = rw h refl

solve-inside : (n : ℕ) (s : TyMap) (a b : Typ) (x : Name) (t : Typ) → differ a b ≡ variable x t → occurs x t ≡ true → solve n s a b ≡ None
unfolding solve turn
solve-inside zero s a b x t h o = rw (h, o) refl
solve-inside (suc n) s a b x t h o = rw (h, o) refl

solve-assign : (n : ℕ) (s : TyMap) (a b : Typ) (x : Name) (t : Typ) → differ a b ≡ variable x t → occurs x t ≡ false
    → solve (suc n) s a b ≡ solve n (assign s x t) (put_typ (single x t) a) (put_typ (single x t) b)
unfolding solve turn
solve-assign n s a b x t h o = rw (h, o) refl

-- how many turns are enough
pub bound : Typ → Typ → TyMap → ℕ
bound a b es = length (variables (put_typ (at (solved es)) a) ++ variables (put_typ (at (solved es)) b))

pub record Going (es0 es : TyMap) (a b : Typ) (ps : Pairs) : Type 0 where
  pub keeps : AreSolved es
  pub turns : ℕ
  pub names : List Name
  pub left_over : Each (In names) (put_typ (at (solved es)) a)
  pub right_over : Each (In names) (put_typ (at (solved es)) b)
  pub enough : length names ≤ turns
  pub counted : turns + length es ≡ bound a b es0 + length es0
  pub same : unified a b (solved es0) ≡ solve turns (solved es) (put_typ (at (solved es)) a) (put_typ (at (solved es)) b)
  pub differs : (g : Name → Typ) → differ (put_typ (then_put (at (solved es)) g) a) (put_typ (then_put (at (solved es)) g) b) ≡ pairs_differ (then_put (at (solved es)) g) ps

pub going-start : (es : TyMap) (a b : Typ) → AreSolved es → Going es es a b ((ty_cons a Nil, ty_cons b Nil) ∷ [])
unfolding bound unified pairs_differ put_typs differ_all
going-start es a b k = record {
  keeps = k;
  turns = bound a b es;
  names = variables (put_typ (at (solved es)) a) ++ variables (put_typ (at (solved es)) b);
  left_over = each-left (put_typ (at (solved es)) a) (put_typ (at (solved es)) b);
  right_over = each-right (put_typ (at (solved es)) a) (put_typ (at (solved es)) b);
  enough = omega arith;
  counted = refl;
  same = refl;
  differs = λ g. sym (or_then-nowhere (differ (put_typ (then_put (at (solved es)) g) a) (put_typ (then_put (at (solved es)) g) b)));
}

going-now : (es0 es : TyMap) (a b : Typ) (ps : Pairs) → Going es0 es a b ps
    → differ (put_typ (at (solved es)) a) (put_typ (at (solved es)) b) ≡ pairs_differ (at (solved es)) ps
going-now es0 es a b ps k = subst (λ f. differ (put_typ f a) (put_typ f b) ≡ pairs_differ f ps) (then-none (at (solved es))) (k.differs Schematic)

pub going-end : (es0 es : TyMap) (a b : Typ) (ps qs : Pairs) → Going es0 es a b ps → IsStep es ps qs None → qs ≡ [] → unified a b (solved es0) ≡ Some (solved es)
unfolding pairs_differ
going-end es0 es a b ps qs k l e =
    let d : differ (put_typ (at (solved es)) a) (put_typ (at (solved es)) b) ≡ nowhere =
    going-now es0 es a b ps k ∙ step-now es ps qs l ∙ ap (pairs_differ (at (solved es))) e in
    k.same ∙ solve-nowhere k.turns (solved es) (put_typ (at (solved es)) a) (put_typ (at (solved es)) b) d

pub going-clash : (es0 es : TyMap) (a b : Typ) (ps : Pairs) → Going es0 es a b ps → pairs_differ (at (solved es)) ps ≡ clash → unified a b (solved es0) ≡ None
going-clash es0 es a b ps k h =
    k.same ∙ solve-clash k.turns (solved es) (put_typ (at (solved es)) a) (put_typ (at (solved es)) b) (going-now es0 es a b ps k ∙ h)

pub going-inside : (es0 es : TyMap) (a b : Typ) (ps qs : Pairs) (x : Name) (t : Typ) → Going es0 es a b ps → IsStep es ps qs (Some (x, t))
    → occurs x (put_typ (at (solved es)) t) ≡ true → unified a b (solved es0) ≡ None
going-inside es0 es a b ps qs x t k l o =
    k.same ∙ solve-inside k.turns (solved es) (put_typ (at (solved es)) a) (put_typ (at (solved es)) b) x (put_typ (at (solved es)) t)
    (going-now es0 es a b ps k ∙ l.differs.0) o

length-push : (es : TyMap) (e : Name × Typ) → length (es ++ e ∷ []) ≡ suc (length es)
length-push [] e = refl
length-push (d ∷ es) e = ap suc (length-push es e)

-- what an assignment leaves is what the step leaves, with the assignment in front of g
on-differs : (es0 es : TyMap) (a b : Typ) (ps qs : Pairs) (x : Name) (t : Typ) (k : Going es0 es a b ps) → IsStep es ps qs (Some (x, t))
    → occurs x (put_typ (at (solved es)) t) ≡ false → (g : Name → Typ)
    → differ (put_typ (then_put (at (solved (es ++ (x, t) ∷ []))) g) a) (put_typ (then_put (at (solved (es ++ (x, t) ∷ []))) g) b)
    ≡ pairs_differ (then_put (at (solved (es ++ (x, t) ∷ []))) g) qs
on-differs es0 es a b ps qs x t k l o g =
    let s = solved es in
    let u = put_typ (at s) t in
    let h = then_put (single x u) g in
    let e : solved (es ++ (x, t) ∷ []) ≡ assign s x u = grown-push [] es x t in
    let meets : put_typ g (single x u x) ≡ put_typ h u =
    ap (put_typ g) (single-here x u) ∙ ap (put_typ g) (sym (single-absent x u u o)) ∙ put-put (single x u) g u in
    let f : then_put (at s) h ≡ then_put (at (solved (es ++ (x, t) ∷ []))) g =
    λ i y. sym (ap (λ m. then_put (at m) g y) e ∙ then-assign s x u g y) i in
    subst (λ f. differ (put_typ f a) (put_typ f b) ≡ pairs_differ f qs) f (k.differs h ∙ l.leaves h meets)

-- one more assignment, where turns are left
on-by : (es0 es : TyMap) (a b : Typ) (ps qs : Pairs) (x : Name) (t : Typ) (k : Going es0 es a b ps) → IsStep es ps qs (Some (x, t))
    → occurs x (put_typ (at (solved es)) t) ≡ false → In k.names x → Each (In k.names) (put_typ (at (solved es)) t) → (n : ℕ) → k.turns ≡ n
    → Going es0 (es ++ (x, t) ∷ []) a b qs
on-by es0 es a b ps qs x t k l o i j zero z = let shorter = without-shorter x k.names i in let e = k.enough in absurd (omega arith)
on-by es0 es a b ps qs x t k l o i j (suc n) z =
    let s = solved es in
    let u = put_typ (at s) t in
    let s2 = solved (es ++ (x, t) ∷ []) in
    let e : s2 ≡ assign s x u = grown-push [] es x t in
    let pass : (c : Typ) → put_typ (single x u) (put_typ (at s) c) ≡ put_typ (at s2) c =
    λ c. sym (put-assign s x u c) ∙ ap (λ m. put_typ (at m) c) (sym e) in
    let d : differ (put_typ (at s) a) (put_typ (at s) b) ≡ variable x u = going-now es0 es a b ps k ∙ l.differs.0 in
    let same : solve k.turns s (put_typ (at s) a) (put_typ (at s) b) ≡ solve n s2 (put_typ (at s2) a) (put_typ (at s2) b) =
    ap (λ m. solve m s (put_typ (at s) a) (put_typ (at s) b)) z ∙ solve-assign n s (put_typ (at s) a) (put_typ (at s) b) x u d o
    ∙ (λ i. solve n (sym e i) (pass a i) (pass b i)) in
    let shorter = without-shorter x k.names i in
    let longer = length-push es (x, t) in
    let counted = k.counted in
    let enough = k.enough in
    let fewer : length (without x k.names) ≤ n = omega arith in
    let count : n + length (es ++ (x, t) ∷ []) ≡ bound a b es0 + length es0 = omega arith in
    record {
      keeps = solved-push es x t k.keeps l.differs.1 l.differs.2 o;
      turns = n;
      names = without x k.names;
      left_over = subst (Each (In (without x k.names))) (pass a) (each-single x u k.names o j (put_typ (at s) a) k.left_over);
      right_over = subst (Each (In (without x k.names))) (pass b) (each-single x u k.names o j (put_typ (at s) b) k.right_over);
      enough = fewer;
      counted = count;
      same = k.same ∙ same;
      differs = λ g. on-differs es0 es a b ps qs x t k l o g;
    }

pub going-on : (es0 es : TyMap) (a b : Typ) (ps qs : Pairs) (x : Name) (t : Typ) → Going es0 es a b ps → IsStep es ps qs (Some (x, t))
    → occurs x (put_typ (at (solved es)) t) ≡ false → Going es0 (es ++ (x, t) ∷ []) a b qs
going-on es0 es a b ps qs x t k l o =
    let d : differ (put_typ (at (solved es)) a) (put_typ (at (solved es)) b) ≡ variable x (put_typ (at (solved es)) t) = going-now es0 es a b ps k ∙ l.differs.0 in
    let over : EachIn (In k.names) (variable x (put_typ (at (solved es)) t)) =
    subst (EachIn (In k.names)) d (differ-each (In k.names) (put_typ (at (solved es)) a) (put_typ (at (solved es)) b) k.left_over k.right_over) in
    on-by es0 es a b ps qs x t k l o over.0 over.1 k.turns refl

-- turns are counted down
pub left_to_go : Typ → Typ → TyMap → TyMap → ℕ
left_to_go a b es0 es = bound a b es0 + length es0 - length es

pub fewer-turns : (es0 es : TyMap) (a b : Typ) (ps qs : Pairs) (x : Name) (t : Typ) → Going es0 (es ++ (x, t) ∷ []) a b qs
    → left_to_go a b es0 (es ++ (x, t) ∷ []) < left_to_go a b es0 es
unfolding left_to_go
fewer-turns es0 es a b ps qs x t k =
    let counted = k.counted in
    let longer = length-push es (x, t) in
    omega arith
