-- Laws of the pairs that are left, and of one step on them.
use Rattle.std.proofs.Common.{◌≡◌, ℕ, Bool, true, false, refl, sym, ◌∙◌, ap, subst, List, [], ◌∷◌, ◌++◌, Option, None, Some, if◌then◌else◌, ◌<◌, ◌+◌, suc, arith, IfOk, IfErr, OnOk, Ok, Err}
use Rattle.std.specs.Prelude.{Result}
use Rattle.iv_subst.specs.declared.no_unify.NoUnify.{NoUnify}
use Rattle.iv_subst.specs.declared.no_unify.NoUnify.TheVariants.{Clash as no_unifier}
use Rattle.std.specs.Str.{bytes_eq}
use Rattle.iv_text.specs.declared.name.Name.{Name}
use Rattle.iv_term.specs.declared.typ.Typ.{Typ}
use Rattle.iv_term.specs.declared.typ.Types.{Types}
use Rattle.iv_term.specs.declared.typ.Typ.TheBlock.{Con, Fixed, Schematic, Nil}
use Rattle.iv_term.specs.Typ.{ty_cons}
use Rattle.iv_text.specs.Name.{same_name}
use Rattle.iv_text.proofs.Same.{same_name-true}
use Rattle.iv_subst.specs.declared.pairs.Step.{Step}
use Rattle.iv_subst.specs.declared.pairs.Step.TheVariants.{Done, Open, Clash, Assign}
use Rattle.iv_subst.specs.TySubst.{put_typ, put_typs, then_put, TyMap, seek, at}
use Rattle.iv_subst.specs.Unifier.{nowhere, clash, variable, or_then, differ, differ_all}
use Rattle.iv_subst.specs.Solved.{solved, AreSolved, IsHead}
use Rattle.iv_subst.specs.Pairs.{size, size_all, Pairs, pairs_differ, IsStep, weight, step_of, opened, assigned_by}
use Rattle.iv_subst.proofs.Laws.Put.{put-none, put-put, put-variable}
use Rattle.iv_subst.proofs.Laws.Differ.{or_then-nowhere, or_then-assoc, differ-same}
use Rattle.iv_subst.proofs.Laws.Heads.{head-variable}

pub pairs-push : (f : Name → Typ) (ps : Pairs) (p : Types × Types)
    → pairs_differ f (ps ++ p ∷ []) ≡ or_then (differ_all (put_typs f p.0) (put_typs f p.1)) (pairs_differ f ps)
unfolding pairs_differ
pairs-push f [] p = sym (or_then-nowhere (differ_all (put_typs f p.0) (put_typs f p.1)))
pairs-push f (q ∷ ps) p =
    ap (λ d. or_then d (differ_all (put_typs f q.0) (put_typs f q.1))) (pairs-push f ps p)
    ∙ or_then-assoc (differ_all (put_typs f p.0) (put_typs f p.1)) (pairs_differ f ps) (differ_all (put_typs f q.0) (put_typs f q.1))

pub weight-push : (f : Name → Typ) (ps : Pairs) (p : Types × Types) → weight f (ps ++ p ∷ []) ≡ suc (size_all (put_typs f p.0)) + weight f ps
unfolding weight
weight-push f [] p = refl
weight-push f (q ∷ ps) p = let e = weight-push f ps p in omega arith

-- the pair of two lists that have a first type
pairs-cons : (f : Name → Typ) (ps : Pairs) (t u : Typ) (ts us : Types)
    → pairs_differ f (ps ++ (ty_cons t ts, ty_cons u us) ∷ []) ≡ or_then (differ (put_typ f t) (put_typ f u)) (pairs_differ f (ps ++ (ts, us) ∷ []))
unfolding put_typs differ_all
pairs-cons f ps t u ts us =
    pairs-push f ps (ty_cons t ts, ty_cons u us)
    ∙ or_then-assoc (differ (put_typ f t) (put_typ f u)) (differ_all (put_typs f ts) (put_typs f us)) (pairs_differ f ps)
    ∙ ap (or_then (differ (put_typ f t) (put_typ f u))) (sym (pairs-push f ps (ts, us)))

weight-cons : (f : Name → Typ) (ps : Pairs) (t u : Typ) (ts us : Types)
    → weight f (ps ++ (ty_cons t ts, ty_cons u us) ∷ []) ≡ suc (size (put_typ f t)) + weight f (ps ++ (ts, us) ∷ [])
unfolding put_typs size_all
weight-cons f ps t u ts us =
    let a = weight-push f ps (ty_cons t ts, ty_cons u us) in
    let b = weight-push f ps (ts, us) in
    omega arith

-- what a step of two heads means
abbrev pub StepOf : TyMap → Typ → Typ → Step → Type 0
StepOf es t u Done = (g : Name → Typ) → differ (put_typ (then_put (at (solved es)) g) t) (put_typ (then_put (at (solved es)) g) u) ≡ nowhere
StepOf es t u (Open ts us) = ((g : Name → Typ) → differ (put_typ (then_put (at (solved es)) g) t) (put_typ (then_put (at (solved es)) g) u)
    ≡ differ_all (put_typs (then_put (at (solved es)) g) ts) (put_typs (then_put (at (solved es)) g) us))
    × (suc (size_all (put_typs (at (solved es)) ts)) ≡ size (put_typ (at (solved es)) t))
StepOf es t u Clash = differ (put_typ (at (solved es)) t) (put_typ (at (solved es)) u) ≡ clash
StepOf es t u (Assign x v) = (differ (put_typ (at (solved es)) t) (put_typ (at (solved es)) u) ≡ variable x (put_typ (at (solved es)) v))
    × (seek es x ≡ None) × IsHead es v
    × ((g : Name → Typ) → g x ≡ put_typ g (put_typ (at (solved es)) v)
    → differ (put_typ (then_put (at (solved es)) g) t) (put_typ (then_put (at (solved es)) g) u) ≡ nowhere)

differ-equal : (a b : Typ) → a ≡ b → differ a b ≡ nowhere
differ-equal a b e = ap (λ z. differ z b) e ∙ differ-same b

-- where g puts the same for a variable and a type, both are equal under the map and g
met : (es : TyMap) → AreSolved es → (x : Name) (v : Typ) → IsHead es (Schematic x) → (g : Name → Typ) → g x ≡ put_typ g (put_typ (at (solved es)) v)
    → put_typ (then_put (at (solved es)) g) (Schematic x) ≡ put_typ (then_put (at (solved es)) g) v
met es k x v h g e =
    sym (put-put (at (solved es)) g (Schematic x)) ∙ ap (put_typ g) (head-variable es k x h) ∙ put-variable g x ∙ e ∙ put-put (at (solved es)) g v

con_step : (es : TyMap) (c d : List ℕ) (ts us : Types) (v : Bool) → bytes_eq c d ≡ v
    → StepOf es (Con c ts) (Con d us) (if v then Open ts us else Clash)
unfolding put_typ differ size
con_step es c d ts us true h = (λ g. rw h refl, refl)
con_step es c d ts us false h = rw h refl

fixed_step : (es : TyMap) (a b : List ℕ) (v : Bool) → bytes_eq a b ≡ v → StepOf es (Fixed a) (Fixed b) (if v then Done else Clash)
unfolding put_typ differ
fixed_step es a b true h = λ g. rw h refl
fixed_step es a b false h = rw h refl

left_step : (es : TyMap) → AreSolved es → (x : Name) (u : Typ) → IsHead es (Schematic x) → IsHead es u
    → differ (Schematic x) (put_typ (at (solved es)) u) ≡ variable x (put_typ (at (solved es)) u) → StepOf es (Schematic x) u (Assign x u)
left_step es k x u h q e = (
  ap (λ z. differ z (put_typ (at (solved es)) u)) (head-variable es k x h) ∙ e,
  h x refl,
  q,
  λ g m. differ-equal _ _ (met es k x u h g m),
)

right_step : (es : TyMap) → AreSolved es → (t : Typ) (y : Name) → IsHead es t → IsHead es (Schematic y)
    → differ (put_typ (at (solved es)) t) (Schematic y) ≡ variable y (put_typ (at (solved es)) t) → StepOf es t (Schematic y) (Assign y t)
right_step es k t y h q e = (
  ap (differ (put_typ (at (solved es)) t)) (head-variable es k y q) ∙ e,
  q y refl,
  h,
  λ g m. differ-equal _ _ (sym (met es k y t q g m)),
)

two_variables : (es : TyMap) → AreSolved es → (x y : Name) → IsHead es (Schematic x) → IsHead es (Schematic y) → (v : Bool) → same_name x y ≡ v
    → StepOf es (Schematic x) (Schematic y) (if v then Done else Assign x (Schematic y))
unfolding differ
two_variables es k x y h q true e = λ g. differ-equal _ _ (ap (λ z. put_typ (then_put (at (solved es)) g) (Schematic z)) (same_name-true x y e))
two_variables es k x y h q false e =
    let s : put_typ (at (solved es)) (Schematic y) ≡ Schematic y = head-variable es k y q in
    let d : differ (Schematic x) (Schematic y) ≡ variable x (Schematic y) = rw e refl in
    left_step es k x (Schematic y) h q (ap (differ (Schematic x)) s ∙ d ∙ ap (variable x) (sym s))

pub step-means : (es : TyMap) → AreSolved es → (t u : Typ) → IsHead es t → IsHead es u → StepOf es t u (step_of t u)
unfolding step_of put_typ differ
step-means es k (Con c ts) (Con d us) h q = con_step es c d ts us (bytes_eq c d) refl
step-means es k (Con c ts) (Fixed b) h q = refl
step-means es k (Con c ts) (Schematic y) h q = right_step es k (Con c ts) y h q refl
step-means es k (Fixed a) (Con d us) h q = refl
step-means es k (Fixed a) (Fixed b) h q = fixed_step es a b (bytes_eq a b) refl
step-means es k (Fixed a) (Schematic y) h q = right_step es k (Fixed a) y h q refl
step-means es k (Schematic x) (Con d us) h q = left_step es k x (Con d us) h q refl
step-means es k (Schematic x) (Fixed b) h q = left_step es k x (Fixed b) h q refl
step-means es k (Schematic x) (Schematic y) h q = two_variables es k x y h q (same_name x y) refl

-- the same types seen as far as their heads
heads-differ : (es : TyMap) (t t' u u' : Typ) → put_typ (at (solved es)) t' ≡ put_typ (at (solved es)) t → put_typ (at (solved es)) u' ≡ put_typ (at (solved es)) u
    → (g : Name → Typ) → differ (put_typ (then_put (at (solved es)) g) t) (put_typ (then_put (at (solved es)) g) u)
    ≡ differ (put_typ (then_put (at (solved es)) g) t') (put_typ (then_put (at (solved es)) g) u')
heads-differ es t t' u u' e f g =
    let s = at (solved es) in
    let a : put_typ (then_put s g) t ≡ put_typ (then_put s g) t' = sym (put-put s g t) ∙ ap (put_typ g) (sym e) ∙ put-put s g t' in
    let b : put_typ (then_put s g) u ≡ put_typ (then_put s g) u' = sym (put-put s g u) ∙ ap (put_typ g) (sym f) ∙ put-put s g u' in
    λ i. differ (a i) (b i)

-- one step

pub StepGoal : TyMap → Pairs → Typ → Typ → Types → Types → Step → Type 0
StepGoal es ps t u ts us step =
    IsStep es (ps ++ (ty_cons t ts, ty_cons u us) ∷ []) (opened step (ps ++ (ts, us) ∷ [])) (assigned_by step)
    × (weight (at (solved es)) (opened step (ps ++ (ts, us) ∷ [])) < weight (at (solved es)) (ps ++ (ty_cons t ts, ty_cons u us) ∷ []))

step-by : (es : TyMap) (ps : Pairs) (t t' u u' : Typ) (ts us : Types) → put_typ (at (solved es)) t' ≡ put_typ (at (solved es)) t
    → put_typ (at (solved es)) u' ≡ put_typ (at (solved es)) u → (step : Step) → StepOf es t' u' step → (step ≡ Clash → ⊥) → StepGoal es ps t u ts us step
unfolding StepGoal
step-by es ps t t' u u' ts us e f Done k n =
    let w = weight-cons (at (solved es)) ps t u ts us in (
      record {
        differs = tt;
        leaves = λ g m. pairs-cons (then_put (at (solved es)) g) ps t u ts us
            ∙ ap (λ d. or_then d (pairs_differ (then_put (at (solved es)) g) (ps ++ (ts, us) ∷ []))) (heads-differ es t t' u u' e f g ∙ k g);
      },
      omega arith,
    )
step-by es ps t t' u u' ts us e f (Open xs ys) k n =
    let w = weight-cons (at (solved es)) ps t u ts us in
    let v = weight-push (at (solved es)) (ps ++ (ts, us) ∷ []) (xs, ys) in
    let z : size (put_typ (at (solved es)) t) ≡ suc (size_all (put_typs (at (solved es)) xs)) = ap size (sym e) ∙ sym k.1 in (
      record {
        differs = tt;
        leaves = λ g m. pairs-cons (then_put (at (solved es)) g) ps t u ts us
            ∙ ap (λ d. or_then d (pairs_differ (then_put (at (solved es)) g) (ps ++ (ts, us) ∷ []))) (heads-differ es t t' u u' e f g ∙ k.0 g)
            ∙ sym (pairs-push (then_put (at (solved es)) g) (ps ++ (ts, us) ∷ []) (xs, ys));
      },
      omega arith,
    )
step-by es ps t t' u u' ts us e f Clash k n = absurd (n refl)
step-by es ps t t' u u' ts us e f (Assign x v) k n =
    let w = weight-cons (at (solved es)) ps t u ts us in
    let s = at (solved es) in (
      record {
        differs = (
          pairs-cons s ps t u ts us ∙ ap (λ d. or_then d (pairs_differ s (ps ++ (ts, us) ∷ []))) ((λ i. differ (sym e i) (sym f i)) ∙ k.0),
          k.1,
          k.2,
        );
        leaves = λ g m. pairs-cons (then_put s g) ps t u ts us
            ∙ ap (λ d. or_then d (pairs_differ (then_put s g) (ps ++ (ts, us) ∷ []))) (heads-differ es t t' u u' e f g ∙ k.3 g m);
      },
      omega arith,
    )

pub step-taken : (es : TyMap) → AreSolved es → (ps : Pairs) (t t' u u' : Typ) (ts us : Types) → put_typ (at (solved es)) t' ≡ put_typ (at (solved es)) t
    → put_typ (at (solved es)) u' ≡ put_typ (at (solved es)) u → IsHead es t' → IsHead es u' → (step_of t' u' ≡ Clash → ⊥)
    → StepGoal es ps t u ts us (step_of t' u')
step-taken es k ps t t' u u' ts us e f h q n = step-by es ps t t' u u' ts us e f (step_of t' u') (step-means es k t' u' h q) n

pub step-clash : (es : TyMap) → AreSolved es → (ps : Pairs) (t t' u u' : Typ) (ts us : Types) → put_typ (at (solved es)) t' ≡ put_typ (at (solved es)) t
    → put_typ (at (solved es)) u' ≡ put_typ (at (solved es)) u → IsHead es t' → IsHead es u' → step_of t' u' ≡ Clash
    → pairs_differ (at (solved es)) (ps ++ (ty_cons t ts, ty_cons u us) ∷ []) ≡ clash
step-clash es k ps t t' u u' ts us e f h q n =
    let s = at (solved es) in
    let m : differ (put_typ s t') (put_typ s u') ≡ clash = subst (StepOf es t' u') n (step-means es k t' u' h q) in
    pairs-cons s ps t u ts us ∙ ap (λ d. or_then d (pairs_differ s (ps ++ (ts, us) ∷ []))) ((λ i. differ (sym e i) (sym f i)) ∙ m)

pub step-nil : (es : TyMap) (ps : Pairs) → IsStep es (ps ++ (Nil, Nil) ∷ []) ps None
unfolding put_typs differ_all
step-nil es ps = record { differs = tt; leaves = λ g m. pairs-push (then_put (at (solved es)) g) ps (Nil, Nil) }

pub lighter-nil : (f : Name → Typ) (ps : Pairs) → weight f ps < weight f (ps ++ (Nil, Nil) ∷ [])
lighter-nil f ps = let e = weight-push f ps (Nil, Nil) in omega arith

pub clash-right : (f : Name → Typ) (ps : Pairs) (u : Typ) (us : Types) → pairs_differ f (ps ++ (Nil, ty_cons u us) ∷ []) ≡ clash
unfolding put_typs differ_all
clash-right f ps u us = pairs-push f ps (Nil, ty_cons u us)

pub clash-left : (f : Name → Typ) (ps : Pairs) (t : Typ) (ts : Types) → pairs_differ f (ps ++ (ty_cons t ts, Nil) ∷ []) ≡ clash
unfolding put_typs differ_all
clash-left f ps t ts = pairs-push f ps (ty_cons t ts, Nil)

-- steps one after the other

pub no-step : (es : TyMap) (ps : Pairs) → IsStep es ps ps None
no-step es ps = record { differs = tt; leaves = λ g m. refl }

-- a map followed by nothing
pub then-none : (f : Name → Typ) → then_put f Schematic ≡ f
then-none f = λ i x. put-none (f x) i

pub step-now : (es : TyMap) (ps qs : Pairs) → IsStep es ps qs None → pairs_differ (at (solved es)) ps ≡ pairs_differ (at (solved es)) qs
step-now es ps qs k = subst (λ f. pairs_differ f ps ≡ pairs_differ f qs) (then-none (at (solved es))) (k.leaves Schematic tt)

pub steps : (es : TyMap) (ps qs rs : Pairs) (o : Option (Name × Typ)) → IsStep es ps qs None → IsStep es qs rs o → IsStep es ps rs o
steps es ps qs rs None k l = record { differs = tt; leaves = λ g m. k.leaves g tt ∙ l.leaves g m }
steps es ps qs rs (Some p) k l = record {
  differs = (step-now es ps qs k ∙ l.differs.0, l.differs.1, l.differs.2);
  leaves = λ g m. k.leaves g tt ∙ l.leaves g m;
}

-- a variable against no variable
pub step-left : (x : Name) (u : Typ) → ((y : Name) → u ≡ Schematic y → ⊥) → step_of (Schematic x) u ≡ Assign x u
unfolding step_of
step-left x (Con d us) h = refl
step-left x (Fixed b) h = refl
step-left x (Schematic y) h = absurd (h y refl)

-- what a taken step says of the pairs, for the result of the call

pub taken-step : (r : Result (Option (Name × Typ)) NoUnify) (es : TyMap) → AreSolved es → (ps mid new : Pairs) (t t' u u' : Typ) (ts us : Types) (step : Step)
    → put_typ (at (solved es)) t' ≡ put_typ (at (solved es)) t → put_typ (at (solved es)) u' ≡ put_typ (at (solved es)) u → IsHead es t' → IsHead es u'
    → mid ≡ ps ++ (ts, us) ∷ [] → step ≡ step_of t' u' → OnOk r (new ≡ opened step mid) → IfOk r (λ o. o ≡ assigned_by step) → OnOk r (step ≡ Clash → ⊥)
    → IfOk r (λ o. IsStep es (ps ++ (ty_cons t ts, ty_cons u us) ∷ []) new o)
unfolding StepGoal
taken-step (Ok o) es k ps mid new t t' u u' ts us step e f h q m s p a n =
    let g = step-taken es k ps t t' u u' ts us e f h q (λ z. n (s ∙ z)) in rw (p, a, m, s) g.0
taken-step (Err w) es k ps mid new t t' u u' ts us step e f h q m s p a n = tt

pub taken-lighter : (r : Result (Option (Name × Typ)) NoUnify) (es : TyMap) → AreSolved es → (ps mid new : Pairs) (t t' u u' : Typ) (ts us : Types) (step : Step)
    → put_typ (at (solved es)) t' ≡ put_typ (at (solved es)) t → put_typ (at (solved es)) u' ≡ put_typ (at (solved es)) u → IsHead es t' → IsHead es u'
    → mid ≡ ps ++ (ts, us) ∷ [] → step ≡ step_of t' u' → OnOk r (new ≡ opened step mid) → OnOk r (step ≡ Clash → ⊥)
    → OnOk r (weight (at (solved es)) new < weight (at (solved es)) (ps ++ (ty_cons t ts, ty_cons u us) ∷ []))
unfolding StepGoal
taken-lighter (Ok o) es k ps mid new t t' u u' ts us step e f h q m s p n =
    let g = step-taken es k ps t t' u u' ts us e f h q (λ z. n (s ∙ z)) in rw (p, m, s) g.1
taken-lighter (Err w) es k ps mid new t t' u u' ts us step e f h q m s p n = tt

pub taken-clash : (r : Result (Option (Name × Typ)) NoUnify) (es : TyMap) → AreSolved es → (ps : Pairs) (t t' u u' : Typ) (ts us : Types) (step : Step)
    → put_typ (at (solved es)) t' ≡ put_typ (at (solved es)) t → put_typ (at (solved es)) u' ≡ put_typ (at (solved es)) u → IsHead es t' → IsHead es u'
    → step ≡ step_of t' u' → IfErr r (λ w. w ≡ no_unifier → step ≡ Clash)
    → IfErr r (λ w. w ≡ no_unifier → pairs_differ (at (solved es)) (ps ++ (ty_cons t ts, ty_cons u us) ∷ []) ≡ clash)
taken-clash (Ok o) es k ps t t' u u' ts us step e f h q s c = tt
taken-clash (Err w) es k ps t t' u u' ts us step e f h q s c = λ z. step-clash es k ps t t' u u' ts us e f h q (sym s ∙ c z)

-- after steps that found nothing, a clash of what is left is one of all
pub clash-after : (es : TyMap) (ps qs : Pairs) → IsStep es ps qs None → pairs_differ (at (solved es)) qs ≡ clash → pairs_differ (at (solved es)) ps ≡ clash
clash-after es ps qs k h = step-now es ps qs k ∙ h
