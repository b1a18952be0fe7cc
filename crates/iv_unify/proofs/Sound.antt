-- Each leaf makes both sides of every pair equal, where each part of the search keeps the state.
use Rattle.std.proofs.Common.{◌≡◌, ℕ, zero, suc, ◌+◌, Bool, true, false, nat_lt, if◌then◌else◌, List, [], ◌∷◌, length, Option, Some, None, refl, sym, ◌∙◌, ap, subst}
use Rattle.iv_term.specs.declared.typ.Typ.{Typ}
use Rattle.iv_term.specs.Typ.{fun}
use Rattle.iv_hsub.specs.Typing.{type_of}
use Rattle.iv_subst.specs.TySubst.{TyMap}
use Rattle.iv_put.specs.Subst.{Substitution, applied, composed}
use Rattle.iv_seq.specs.SearchTree.{SearchTree, none, one, large}
use Rattle.iv_unify.specs.declared.pair.Pair.{Pair}
use Rattle.iv_unify.specs.Pairs.{pair, under, all_under, all_typed, is_flexible, is_flex_flex, turned, first_rigid, others, variables_in}
use Rattle.iv_unify.specs.Simplify.{Simple, simplified, all_long}
use Rattle.iv_unify.specs.Values.{assigned, Choice, choices, closing}
use Rattle.iv_unify.specs.Unifiers.{Settled, clashed, stuck, flexible, assigning, settling, with_simple, settle, settled, close, numbered_to, next_of_all, branches, leaf, settled_tree, chosen, grown}
use Rattle.iv_unify.specs.Scope.{Scope, Leads}
use Rattle.iv_unify.specs.Laws.{IsOver, AreOver, IsAlike, AreAlike, EachLeaf, IsUnifier, LeavesUnify}
use Rattle.iv_unify.proofs.States.{all_over-under, State, begins, steps, ends}

-- a pair as simplification leaves it: both sides of one type, which is no function type
pub record IsReady (G : Scope) (p : Pair) : Type 0 where
  pub over : IsOver G p
  pub same : type_of p.bounds p.left ≡ type_of p.bounds p.right
  pub plain : (a b : Typ) → type_of p.bounds p.left ≡ fun a b → ⊥

unfoldable pub AreReady : Scope → List Pair → Type 0
AreReady G [] = Unit {0}
AreReady G (p ∷ ps) = IsReady G p × AreReady G ps

unfoldable pub AreFlexible : List Pair → Type 0
AreFlexible [] = Unit {0}
AreFlexible (p ∷ ps) = (is_flex_flex p ≡ true) × AreFlexible ps

unfoldable pub EachChoice : (Choice → Type 0) → List Choice → Type 0
EachChoice P [] = Unit {0}
EachChoice P (c ∷ cs) = P c × EachChoice P cs

-- what each part owes
pub record Simplifies (G : Scope) (ps : List Pair) (r : TyMap) (qs : List Pair) : Type 0 where
  pub scope : Scope
  pub below : scope.below ≡ G.below
  pub leads : Leads (r, []) G scope
  pub ready : AreReady scope qs
  pub back : (e : Substitution) (E : Scope) → Leads e scope E → AreAlike e qs → AreAlike e (all_under (r, []) ps)

abbrev pub SimplifiesAll : Type 0
SimplifiesAll = (G : Scope) (ps : List Pair) (r : TyMap) (qs : List Pair) → AreOver G ps → simplified ps ≡ Some (r, qs) → Simplifies G ps r (all_long (all_typed r qs))

abbrev pub AssignsAll : Type 0
AssignsAll = (G : Scope) (p : Pair) (e : Substitution) → IsReady G p → assigned p.bounds p.left p.right ≡ Some e → Leads e G G × IsAlike e p

abbrev pub LeadsChoice : Scope → Choice → Type 0
LeadsChoice G c = (D : Scope) × (Leads c.0 G D × (D.below ≡ c.1))

abbrev pub ChoosesAll : Type 0
ChoosesAll = (G : Scope) (p : Pair) → IsReady G p → EachChoice (LeadsChoice G) (choices G.below p)

pub record Closes (G : Scope) (p : Pair) (e : Substitution) : Type 0 where
  pub scope : Scope
  pub below : scope.below ≡ suc G.below
  pub leads : Leads e G scope
  pub alike : IsAlike e p
  pub others : (q : Pair) → IsReady G q → is_flex_flex q ≡ true → IsReady scope (under e q) × (is_flex_flex (under e q) ≡ true)

abbrev pub ClosesAll : Type 0
ClosesAll = (G : Scope) (p : Pair) → IsReady G p → is_flex_flex p ≡ true → Closes G p (closing G.below p)

ready-over : (G : Scope) (ps : List Pair) → AreReady G ps → AreOver G ps
unfolding AreReady AreOver
ready-over G [] r = tt
ready-over G (p ∷ ps) r = (r.0.over, ready-over G ps r.1)

-- the first pair that isn't flex-flex
ready-turned : (G : Scope) (p : Pair) → IsReady G p → IsReady G (turned p)
ready-turned G p r = go (is_flexible p.left)
  where
    go : (v : Bool) → IsReady G (if v then p else pair p.bounds p.right p.left)
    go true = r
    go false = record {
      over = record { left_term = r.over.right_term; right_term = r.over.left_term; left_over = r.over.right_over; right_over = r.over.left_over };
      same = sym r.same;
      plain = λ a b q. r.plain a b (r.same ∙ q);
    }

alike-turned : (e : Substitution) (p : Pair) → IsAlike e (turned p) → IsAlike e p
alike-turned e p = go (is_flexible p.left)
  where
    go : (v : Bool) → IsAlike e (if v then p else pair p.bounds p.right p.left) → IsAlike e p
    go true a = a
    go false a = sym a

some-pair : (p q : Pair) → Some p ≡ Some q → p ≡ q
some-pair p q e = cc

first-ready : (G : Scope) (qs : List Pair) (p : Pair) → AreReady G qs → first_rigid qs ≡ Some p → IsReady G p
unfolding AreReady first_rigid
first-ready G [] p r q = absurd (let bad : None ≡ Some p = q in cc)
first-ready G (x ∷ qs) p r q = go (λ h. first-ready G qs p r.1 h) (is_flex_flex x) q
  where
    go : (first_rigid qs ≡ Some p → IsReady G p) → (v : Bool) → (if v then first_rigid qs else Some (turned x)) ≡ Some p → IsReady G p
    go k true h = k h
    go k false h = subst (IsReady G) (some-pair (turned x) p h) (ready-turned G x r.0)

others-over : (G : Scope) (qs : List Pair) → AreOver G qs → AreOver G (others qs)
unfolding AreOver others
others-over G [] o = tt
others-over G (x ∷ qs) o = go (others-over G qs o.1) (is_flex_flex x)
  where
    go : AreOver G (others qs) → (v : Bool) → AreOver G (if v then x ∷ others qs else qs)
    go k true = (o.0, k)
    go k false = o.1

first-alike : (e g : Substitution) (qs : List Pair) (p : Pair) → first_rigid qs ≡ Some p → IsAlike e p → AreAlike g (all_under e (others qs)) → AreAlike g (all_under e qs)
unfolding AreAlike all_under first_rigid others
first-alike e g [] p q a b = tt
first-alike e g (x ∷ qs) p q a b = go (λ h c. first-alike e g qs p h a c) (is_flex_flex x) q b
  where
    go : (first_rigid qs ≡ Some p → AreAlike g (all_under e (others qs)) → AreAlike g (all_under e qs)) → (v : Bool) → (if v then first_rigid qs else Some (turned x)) ≡ Some p → AreAlike g (all_under e (if v then x ∷ others qs else qs)) → AreAlike g (all_under e (x ∷ qs))
    go k true h c = (c.0, k h c.1)
    go k false h c = (ap (applied g) (alike-turned e x (subst (IsAlike e) (sym (some-pair (turned x) p h)) a)), c)

none-flexible : (qs : List Pair) → first_rigid qs ≡ None → AreFlexible qs
unfolding AreFlexible first_rigid
none-flexible [] q = tt
none-flexible (x ∷ qs) q = go (λ k. none-flexible qs k) (is_flex_flex x) refl q
  where
    go : (first_rigid qs ≡ None → AreFlexible qs) → (v : Bool) → is_flex_flex x ≡ v → (if v then first_rigid qs else Some (turned x)) ≡ None → AreFlexible (x ∷ qs)
    go n true h k = (h, n k)
    go n false h k = absurd (let bad : Some (turned x) ≡ None = k in cc)

under-length : (e : Substitution) (ps : List Pair) → length (all_under e ps) ≡ length ps
unfolding all_under
under-length e [] = refl
under-length e (p ∷ ps) = ap suc (under-length e ps)

module _ (simplifies : SimplifiesAll) (assigns : AssignsAll) (chooses : ChoosesAll) (closes : ClosesAll) (F : Scope) (first : List Pair) (over : AreOver F first) where
  -- closing
  close-under : (G : Scope) (p : Pair) (e : Substitution) → (c : Closes G p e) → (qs : List Pair) → AreReady G qs → AreFlexible qs
      → AreReady c.scope (all_under e qs) × AreFlexible (all_under e qs)
  unfolding AreReady AreFlexible all_under
  close-under G p e c [] r f = (tt, tt)
  close-under G p e c (q ∷ qs) r f =
      let h = c.others q r.0 f.0 in
      let k = close-under G p e c qs r.1 f.1 in
      ((h.0, k.0), (h.1, k.1))

  close-sound : (n m : ℕ) (G : Scope) (ps : List Pair) (s : Substitution) → n ≡ length ps → G.below ≡ m → State F first G ps s → AreReady G ps → AreFlexible ps
      → (E : Scope) × State F first E [] (close n m ps s)
  unfolding AreReady AreFlexible AreAlike close all_under
  close-sound zero m G [] s q b st r f = (G, st)
  close-sound zero m G (p ∷ ps) s q b st r f = absurd (let bad : zero ≡ suc (length ps) = q in cc)
  close-sound (suc n) m G [] s q b st r f = absurd (let bad : suc n ≡ zero = q in cc)
  close-sound (suc n) m G (p ∷ ps) s q b st r f =
      let c : Closes G p (closing m p) = subst (λ k. Closes G p (closing k p)) b (closes G p r.0 f.0) in
      let e = closing m p in
      let u = close-under G p e c ps r.1 f.1 in
      let t = steps F first over G c.scope (p ∷ ps) (all_under e ps) s e st c.leads (ready-over c.scope (all_under e ps) u.0)
      (λ g E l a. (ap (applied g) c.alike, a)) in
      let h : n ≡ length (all_under e ps) = (let k : n ≡ length ps = cc in k) ∙ sym (under-length e ps) in
      close-sound n (suc m) c.scope (all_under e ps) (composed s e) h (c.below ∙ ap suc b) t u.0 u.1

  -- settling
  abbrev Good : ℕ → Settled → Type 0
  Good m clashed = Unit {0}
  Good m (stuck p ps s) = (G : Scope) × ((G.below ≡ m) × (State F first G ps s × IsReady G p))
  Good m (flexible ps s) = (G : Scope) × ((G.below ≡ m) × (State F first G ps s × (AreReady G ps × AreFlexible ps)))

  module _ (m : ℕ) (next : List Pair → Substitution → Settled) (good : (G : Scope) (ps : List Pair) (s : Substitution) → G.below ≡ m → State F first G ps s → Good m (next ps s)) where
    assigning-good : (G : Scope) (qs : List Pair) (s : Substitution) (p : Pair) (o : Option Substitution) → G.below ≡ m → State F first G qs s → AreReady G qs → first_rigid qs ≡ Some p
        → assigned p.bounds p.left p.right ≡ o → Good m (assigning (λ e. next (all_under e (others qs)) (composed s e)) p qs s o)
    assigning-good G qs s p None b st r q a = (G, (b, (st, first-ready G qs p r q)))
    assigning-good G qs s p (Some e) b st r q a =
        let k = assigns G p e (first-ready G qs p r q) a in
        good G (all_under e (others qs)) (composed s e) b
        (steps F first over G G qs (all_under e (others qs)) s e st k.0 (all_over-under e G G k.0 (others qs) (others-over G qs st.left_over))
        (λ g E l c. first-alike e g qs p q k.1 c))

    settling-good : (G : Scope) (qs : List Pair) (s : Substitution) (o : Option Pair) → G.below ≡ m → State F first G qs s → AreReady G qs → first_rigid qs ≡ o → Good m (settling next qs s o)
    settling-good G qs s None b st r q = (G, (b, (st, (r, none-flexible qs q))))
    settling-good G qs s (Some p) b st r q = assigning-good G qs s p (assigned p.bounds p.left p.right) b st r q refl

    simple-good : (G : Scope) (ps : List Pair) (s : Substitution) (o : Simple) → G.below ≡ m → State F first G ps s → simplified ps ≡ o → Good m (with_simple next s o)
    simple-good G ps s None b st q = tt
    simple-good G ps s (Some r) b st q =
        let k = simplifies G ps r.0 r.1 st.left_over q in
        let qs = all_long (all_typed r.0 r.1) in
        settling-good k.scope qs (composed s (r.0, [])) (first_rigid qs) (k.below ∙ b)
        (steps F first over G k.scope ps qs s (r.0, []) st k.leads (ready-over k.scope qs k.ready) k.back) k.ready refl

  settle-good : (n m : ℕ) (G : Scope) (ps : List Pair) (s : Substitution) → G.below ≡ m → State F first G ps s → Good m (settle n ps s)
  unfolding settle
  settle-good zero m G ps s b st = tt
  settle-good (suc n) m G ps s b st = simple-good m (settle n) (λ D qs r c t. settle-good n m D qs r c t) G ps s (simplified ps) b st refl

  -- the tree
  abbrev Holds : SearchTree Substitution → Type 0
  Holds t = EachLeaf (IsUnifier F first) t

  numbered-holds : (n : ℕ) (t : SearchTree Substitution) → Holds t → Holds (numbered_to n t)
  unfolding EachLeaf
  numbered-holds n t h = go (nat_lt 4294967295 n)
    where
      go : (v : Bool) → Holds (if v then large else t)
      go true = tt
      go false = h

  leaf-holds : (m : ℕ) (G : Scope) (ps : List Pair) (s : Substitution) → G.below ≡ m → State F first G ps s → AreReady G ps → AreFlexible ps → Holds (leaf m ps s)
  unfolding EachLeaf
  leaf-holds m G ps s b st r f =
      let c = close-sound (length ps) m G ps s refl b st r f in
      numbered-holds (m + length ps) (one (close (length ps) m ps s)) (ends F first over c.0 (close (length ps) m ps s) c.1, (c.0, c.1.leads))

  module _ (grow : ℕ → List Pair → Substitution → SearchTree Substitution) (holds : (m : ℕ) (G : Scope) (ps : List Pair) (s : Substitution) → G.below ≡ m → State F first G ps s → Holds (grow m ps s)) where
    unders-alike : (e g : Substitution) (ps : List Pair) → AreAlike g (all_under e ps) → AreAlike g (all_under e ps)
    unders-alike e g ps a = a

    branches-hold : (G : Scope) (ps : List Pair) (s : Substitution) (cs : List Choice) → State F first G ps s → EachChoice (LeadsChoice G) cs → Holds (branches grow ps s cs)
    unfolding EachLeaf EachChoice
    branches-hold G ps s [] st k = tt
    branches-hold G ps s (c ∷ cs) st k =
        let d = k.0 in (
          holds c.1 d.0 (all_under c.0 ps) (composed s c.0) d.1.1
              (steps F first over G d.0 ps (all_under c.0 ps) s c.0 st d.1.0 (all_over-under c.0 G d.0 d.1.0 ps st.left_over) (λ g E l a. a)),
          branches-hold G ps s cs st k.1,
        )

    chosen-holds : (m : ℕ) (G : Scope) (p : Pair) (ps : List Pair) (s : Substitution) → G.below ≡ m → State F first G ps s → IsReady G p → Holds (chosen grow m p ps s)
    unfolding EachLeaf
    chosen-holds m G p ps s b st r =
        numbered-holds (next_of_all m (choices m p)) (branches grow ps s (choices m p))
        (branches-hold G ps s (choices m p) st (subst (λ k. EachChoice (LeadsChoice G) (choices k p)) b (chooses G p r)))

  tree-holds : (m : ℕ) (choose : Pair → List Pair → Substitution → SearchTree Substitution)
      → ((G : Scope) (p : Pair) (ps : List Pair) (s : Substitution) → G.below ≡ m → State F first G ps s → IsReady G p → Holds (choose p ps s))
      → (r : Settled) → Good m r → Holds (settled_tree choose m r)
  unfolding EachLeaf
  tree-holds m choose k clashed g = tt
  tree-holds m choose k (stuck p ps s) g = k g.0 p ps s g.1.0 g.1.1.0 g.1.1.1
  tree-holds m choose k (flexible ps s) g = leaf-holds m g.0 ps s g.1.0 g.1.1.0 g.1.1.1.0 g.1.1.1.1

  grown-holds : (k m : ℕ) (G : Scope) (ps : List Pair) (s : Substitution) → G.below ≡ m → State F first G ps s → Holds (grown k m ps s)
  unfolding EachLeaf grown
  grown-holds zero m G ps s b st =
      tree-holds m (λ p qs r. none) (λ D p qs r c t q. tt) (settled ps s) (settle-good (suc (length (variables_in ps))) m G ps s b st)
  grown-holds (suc k) m G ps s b st =
      tree-holds m (chosen (grown k) m) (λ D p qs r c t q. chosen-holds (grown k) (λ n E rs u d v. grown-holds k n E rs u d v) m D p qs r c t q)
      (settled ps s) (settle-good (suc (length (variables_in ps))) m G ps s b st)

pub leaves-unify : SimplifiesAll → AssignsAll → ChoosesAll → ClosesAll → LeavesUnify
leaves-unify simplifies assigns chooses closes G depth ps o =
    grown-holds simplifies assigns chooses closes G ps o depth G.below G ps ([], []) refl (begins G ps o)
