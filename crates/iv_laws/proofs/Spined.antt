-- The laws on values at arguments, on contraction and on the occurrence of indices.
use Rattle.std.proofs.Common.{◌≡◌, ℕ, zero, suc, pred, ◌+◌, ◌<◌, ◌≤◌, max, Bool, true, false, true≢false, ◌||◌, ◌⊎◌, inl, inr, nat_lt, nat_eq, refl, sym, ◌∙◌, ap, arith}
use Rattle.std.proofs.lemmas.Bool.{or_parts}
use Rattle.std.proofs.lemmas.Bool.Decides.{Decides-eqb}
use Rattle.iv_term.specs.declared.term.Head.{Head}
use Rattle.iv_term.specs.declared.term.Head.TheVariants.{Const, Free, Schematic, Bound}
use Rattle.iv_term.specs.declared.term.Term.{Term}
use Rattle.iv_term.specs.declared.term.Terms.{Terms}
use Rattle.iv_term.specs.declared.term.Term.TheBlock.{Spine, Nil}
use Rattle.iv_term.specs.Typ.{fun}
use Rattle.iv_term.specs.Term.{lam, tm_cons}
use Rattle.iv_hsub.specs.Typing.{cod, result_type, type_of}
use Rattle.iv_hsub.specs.Index.{index, loose_head, loose, loose_all, raise_head, raise, raise_all, is_bound, occurs, occurs_in, contracts, eta}
use Rattle.iv_hsub.specs.Hsub.{append, happ, hsub, put}
use Rattle.iv_hsub.specs.Hhf.{expand, one}
use Rattle.iv_hsub.proofs.Theory.{lt_cases, eq_true, eq_false, cod-fun}
use Rattle.iv_hsub.proofs.Theory.{raise-low, raise-high}
use Rattle.iv_hsub.proofs.Theory.{EtaCase, eta_cases, eta-expand, occurs-fresh}
use Rattle.iv_hsub.proofs.Theory.{happ-nil, happ-spine}
use Rattle.iv_hsub.proofs.Theory.{happ-append, happ-eta, eta-at_index}
use Rattle.iv_laws.specs.Spines.{functions, argument_types, HappOfNothing, HappOfSpine, HappAppends, HappOfEta, EtaIsUndone, EtaOfExpand, NewIsNowhere, OccursInEta, NowhereIsBeyond, ArgsMakeFunctions}

pub happ_nothing : HappOfNothing
happ_nothing = happ-nil

pub happ_of_spine : HappOfSpine
happ_of_spine = happ-spine

pub happ_appends : HappAppends
happ_appends bs a v ts us p q = happ-append a v ts us bs p q

pub happ_of_eta : HappOfEta
unfolding hsub
happ_of_eta bs a c b u us p = happ-eta (fun a c) a bs b u us (ap (fun a) (sym (cod-fun a c))) p ∙ ap (λ z. happ z (put (happ a) u 0 b) us) (cod-fun a c)

pub eta_undone : EtaIsUndone
eta_undone = eta-at_index

pub eta_of_expand : EtaOfExpand
eta_of_expand = eta-expand

-- indices
same-bound : (n m j k : ℕ) → (n ≡ j → m ≡ k) → (m ≡ k → n ≡ j) → nat_eq m k ≡ nat_eq n j
same-bound n m j k to from = go (nat_eq n j) refl
  where
    go : (v : Bool) → nat_eq n j ≡ v → nat_eq m k ≡ nat_eq n j
    go true e = eq_true m k (to ((Decides-eqb n j).0 e)) ∙ sym e
    go false e = eq_false m k (λ q. let bad : true ≡ false = sym (eq_true n j (from q)) ∙ e in cc) ∙ sym e

bound-raised : (c j : ℕ) (h : Head) → c ≤ j → is_bound (suc j) (raise_head 1 c h) ≡ is_bound j h
bound-raised c j (Const x a) q = refl
bound-raised c j (Free x a) q = refl
bound-raised c j (Schematic x a) q = refl
bound-raised c j (Bound n) q = go (lt_cases n c)
  where
    go : ((n < c) × (nat_lt n c ≡ true)) ⊎ ((c ≤ n) × (nat_lt n c ≡ false)) → is_bound (suc j) (raise_head 1 c (Bound n)) ≡ nat_eq n j
    go (inl p) = ap (is_bound (suc j)) (raise-low 1 c n p.0) ∙ same-bound n n j (suc j) (λ e. absurd (omega (arith, e, p.0, q))) (λ e. absurd (omega (arith, e, p.0, q)))
    go (inr p) = ap (is_bound (suc j)) (raise-high 1 c n p.0) ∙ same-bound n (n + 1) j (suc j) (λ e. omega (arith, e)) (λ e. omega (arith, e))

mutual
  unfolding occurs raise

  pub occurs-raised : (c j : ℕ) (t : Term) → c ≤ j → occurs (suc j) (raise 1 c t) ≡ occurs j t
  occurs-raised c j (lam a b) q = occurs-raised (suc c) (suc j) b (omega (arith, q))
  occurs-raised c j (Spine h ts) q = λ i. bound-raised c j h q i || occurs_in-raised c j ts q i

  pub occurs_in-raised : (c j : ℕ) (ts : Terms) → c ≤ j → occurs_in (suc j) (raise_all 1 c ts) ≡ occurs_in j ts
  occurs_in-raised c j Nil q = refl
  occurs_in-raised c j (tm_cons t ts) q = λ i. occurs-raised c j t q i || occurs_in-raised c j ts q i

or-last : (b : Bool) → (b || (false || false)) ≡ b
or-last true = refl
or-last false = refl

or-assoc : (a b c : Bool) → ((a || b) || c) ≡ (a || (b || c))
or-assoc true b c = refl
or-assoc false b c = refl

occurs_in-last : (j : ℕ) (ts : Terms) → occurs_in (suc j) (append ts (one (index 0))) ≡ occurs_in (suc j) ts
unfolding occurs append
occurs_in-last j Nil = ap (λ b. (b || false) || false) (eq_false 0 (suc j) (λ e. absurd (omega (arith, e))))
occurs_in-last j (tm_cons t ts) = ap (λ b. occurs (suc j) t || b) (occurs_in-last j ts)

occurs-expand : (j : ℕ) (h : Head) (ts : Terms) → occurs (suc j) (expand h ts) ≡ occurs j (Spine h ts)
unfolding occurs expand
occurs-expand j h ts =
    let u = bound-raised 0 j h (omega arith) in
    let w = occurs_in-last j (raise_all 1 0 ts) ∙ occurs_in-raised 0 j ts (omega arith) in
    λ i. u i || w i

pub occurs-eta : OccursInEta
unfolding occurs
occurs-eta a j b = go (eta_cases a b)
  where
    go : ((contracts b ≡ false) × (eta a b ≡ lam a b)) ⊎ EtaCase a b → occurs j (eta a b) ≡ occurs (suc j) b
    go (inl q) = ap (occurs j) q.1
    go (inr q) = ap (occurs j) q.eta_is ∙ sym (ap (occurs (suc j)) q.body_is ∙ occurs-expand j q.head q.args)

pub new_nowhere : NewIsNowhere
new_nowhere = occurs-fresh

bound-beyond : (j : ℕ) (h : Head) → loose_head h ≤ j → is_bound j h ≡ false
bound-beyond j (Const x a) q = refl
bound-beyond j (Free x a) q = refl
bound-beyond j (Schematic x a) q = refl
bound-beyond j (Bound n) q = eq_false n j (λ e. absurd (let p : suc n ≤ j = q in omega (arith, p, e)))

max-left : (a b c : ℕ) → max a b ≤ c → a ≤ c
max-left a b c h = omega (arith, h)

max-right : (a b c : ℕ) → max a b ≤ c → b ≤ c
max-right a b c h = omega (arith, h)

pred-le : (n c : ℕ) → pred n ≤ c → n ≤ suc c
pred-le zero c h = omega arith
pred-le (suc n) c h = omega (arith, h)

or-none : (a b : Bool) → a ≡ false → b ≡ false → (a || b) ≡ false
or-none a b e f = rw (e, f) refl

mutual
  unfolding occurs loose

  pub beyond-nowhere : (j : ℕ) (t : Term) → loose t ≤ j → occurs j t ≡ false
  beyond-nowhere j (lam a b) q = beyond-nowhere (suc j) b (pred-le (loose b) j q)
  beyond-nowhere j (Spine h ts) q =
      or-none (is_bound j h) (occurs_in j ts) (bound-beyond j h (max-left (loose_head h) (loose_all ts) j q)) (beyond-nowhere_all j ts (max-right (loose_head h) (loose_all ts) j q))

  beyond-nowhere_all : (j : ℕ) (ts : Terms) → loose_all ts ≤ j → occurs_in j ts ≡ false
  beyond-nowhere_all j Nil q = refl
  beyond-nowhere_all j (tm_cons t ts) q =
      or-none (occurs j t) (occurs_in j ts) (beyond-nowhere j t (max-left (loose t) (loose_all ts) j q)) (beyond-nowhere_all j ts (max-right (loose t) (loose_all ts) j q))

le-pred : (n c : ℕ) → n ≤ suc c → pred n ≤ c
le-pred zero c h = omega arith
le-pred (suc n) c h = omega (arith, h)

lt-pred : (j n : ℕ) → suc j < n → j < pred n
lt-pred j zero h = absurd (omega (arith, h))
lt-pred j (suc n) h = omega (arith, h)

bound-within : (k : ℕ) (h : Head) → ((j : ℕ) → k ≤ j → j < loose_head h → is_bound j h ≡ false) → loose_head h ≤ k
bound-within k (Const x a) none = omega arith
bound-within k (Free x a) none = omega arith
bound-within k (Schematic x a) none = omega arith
bound-within k (Bound n) none = go (lt_cases n k)
  where
    go : ((n < k) × (nat_lt n k ≡ true)) ⊎ ((k ≤ n) × (nat_lt n k ≡ false)) → suc n ≤ k
    go (inl p) = omega (arith, p.0)
    go (inr p) = absurd (let bad : true ≡ false = sym (eq_true n n refl) ∙ none n p.0 (omega arith) in true≢false bad)

lt-left : (j a b : ℕ) → j < a → j < max a b
lt-left j a b h = omega (arith, h)

lt-right : (j a b : ℕ) → j < b → j < max a b
lt-right j a b h = omega (arith, h)

le-max : (a b c : ℕ) → a ≤ c → b ≤ c → max a b ≤ c
le-max a b c h k = omega (arith, h, k)

mutual
  unfolding occurs loose

  pub nowhere-beyond : NowhereIsBeyond
  nowhere-beyond k (lam a b) none = le-pred (loose b) k (nowhere-beyond (suc k) b (λ j p q. under j p q))
    where
      under : (j : ℕ) → suc k ≤ j → j < loose b → occurs j b ≡ false
      under zero p q = absurd (omega (arith, p))
      under (suc j) p q = none j (omega (arith, p)) (lt-pred j (loose b) q)
  nowhere-beyond k (Spine h ts) none =
      le-max (loose_head h) (loose_all ts) k
      (bound-within k h (λ j p q. (or_parts (is_bound j h) (occurs_in j ts) (none j p (lt-left j (loose_head h) (loose_all ts) q))).0))
      (nowhere-beyond_all k ts (λ j p q. (or_parts (is_bound j h) (occurs_in j ts) (none j p (lt-right j (loose_head h) (loose_all ts) q))).1))

  nowhere-beyond_all : (k : ℕ) (ts : Terms) → ((j : ℕ) → k ≤ j → j < loose_all ts → occurs_in j ts ≡ false) → loose_all ts ≤ k
  nowhere-beyond_all k Nil none = omega arith
  nowhere-beyond_all k (tm_cons t ts) none =
      le-max (loose t) (loose_all ts) k
      (nowhere-beyond k t (λ j p q. (or_parts (occurs j t) (occurs_in j ts) (none j p (lt-left j (loose t) (loose_all ts) q))).0))
      (nowhere-beyond_all k ts (λ j p q. (or_parts (occurs j t) (occurs_in j ts) (none j p (lt-right j (loose t) (loose_all ts) q))).1))

pub args-functions : ArgsMakeFunctions
unfolding functions argument_types result_type
args-functions bs a Nil p = refl
args-functions bs a (tm_cons t ts) p = p.0 ∙ ap (fun (type_of bs t)) (args-functions bs (cod a) ts p.1.1)
