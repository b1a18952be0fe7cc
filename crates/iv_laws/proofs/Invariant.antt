-- One step of moving !! outwards leaves the form as it is.
use Rattle.std.proofs.Common.{◌≡◌, ℕ, Bool, true, false, ◌&&◌, ◌⊎◌, inl, inr, if◌then◌else◌, refl, sym, ◌∙◌, ap}
use Rattle.iv_term.specs.declared.typ.Typ.{Typ}
use Rattle.iv_term.specs.declared.term.Head.{Head}
use Rattle.iv_term.specs.declared.term.Head.TheVariants.{Bound}
use Rattle.iv_term.specs.declared.term.Term.{Term}
use Rattle.iv_term.specs.declared.term.Terms.{Terms}
use Rattle.iv_term.specs.declared.term.Term.TheBlock.{Spine, Nil}
use Rattle.iv_term.specs.Term.{lam, tm_cons, imp, is_nil, are_two}
use Rattle.iv_hsub.specs.Typing.{dom}
use Rattle.iv_hsub.specs.Index.{index, raise_head, raise, raise_all, contracts, eta}
use Rattle.iv_hsub.specs.Hsub.{append}
use Rattle.iv_hsub.specs.Hhf.{all_head, is_imp, is_all, bound_type, one, expand, all_of, push_expanded, push, push_under, hhf_spine, hhf, hhf_all}
use Rattle.iv_hsub.proofs.Theory.{EtaCase, eta_cases, eta-expand, all-true, all-test, is_all-raise, hhf_spine-other_head, hhf_spine-same}
use Rattle.iv_laws.specs.Forms.{body, is_implication, EtaPassesHhf, OutwardsKeepsHhf}
use Rattle.iv_laws.proofs.Forming.{hhf-imp, hhf-raise, hhf_all-raise}

and-false : (a : Bool) → (a && false) ≡ false
and-false true = refl
and-false false = refl

all-raised : (k : Head) → is_all k ≡ true → raise_head 1 0 k ≡ k
all-raised k e = let q = all-true k e in ap (raise_head 1 0) q ∙ sym q

-- under a new variable it is pushed into the body
under-nil : (a : Term) (h : Head) (v : Bool) → is_all h ≡ v → push_expanded a h Nil ≡ push a (expand h Nil)
unfolding push expand raise append
under-nil a h true e =
    ap (λ z. if z && true then all_of h (imp (raise 1 0 a) (Spine (Bound 1) (one (index 0)))) else imp a (expand h Nil)) e
    ∙ sym (ap (λ z. if z && true then all_of (raise_head 1 0 h) (push_under (raise 1 0 a) (index 0)) else imp a (Spine (raise_head 1 0 h) (one (index 0)))) (is_all-raise 1 0 h ∙ e)
    ∙ ap (λ z. all_of z (push_under (raise 1 0 a) (index 0))) (all-raised h e))
under-nil a h false e =
    ap (λ z. if z && true then all_of h (imp (raise 1 0 a) (Spine (Bound 1) (one (index 0)))) else imp a (expand h Nil)) e
    ∙ sym (ap (λ z. if z && true then all_of (raise_head 1 0 h) (push_under (raise 1 0 a) (index 0)) else imp a (Spine (raise_head 1 0 h) (one (index 0)))) (is_all-raise 1 0 h ∙ e))

is_nil-last : (ts : Terms) → is_nil (append ts (one (index 0))) ≡ false
unfolding append
is_nil-last Nil = refl
is_nil-last (tm_cons t ts) = refl

under-body : (a t : Term) → push_under a t ≡ push a (body t)
unfolding push expand raise append
under-body a (lam c b) = refl
under-body a (Spine h Nil) = under-nil a h (is_all h) refl
under-body a (Spine h (tm_cons t ts)) =
    ap (λ z. if z then all_of h (imp (raise 1 0 a) (Spine (Bound 1) (one (index 0)))) else imp a (expand h (tm_cons t ts))) (and-false (is_all h))
    ∙ sym (ap (λ z. if is_all (raise_head 1 0 h) && z then all_of (raise_head 1 0 h) (push_under (raise 1 0 a) (raise 1 0 t)) else imp a (expand h (tm_cons t ts))) (is_nil-last (raise_all 1 0 ts))
    ∙ ap (λ z. if z then all_of (raise_head 1 0 h) (push_under (raise 1 0 a) (raise 1 0 t)) else imp a (expand h (tm_cons t ts))) (and-false (is_all (raise_head 1 0 h))))

body-eta : (c : Typ) (b : Term) → body (eta c b) ≡ b
body-eta c b = go (eta_cases c b)
  where
    go : ((contracts b ≡ false) × (eta c b ≡ lam c b)) ⊎ EtaCase c b → body (eta c b) ≡ b
    go (inl q) = ap body q.1
    go (inr q) = ap body q.eta_is ∙ sym q.body_is

-- the form of a body
hhf_all-append : (ts us : Terms) → hhf_all (append ts us) ≡ append (hhf_all ts) (hhf_all us)
unfolding hhf append
hhf_all-append Nil us = refl
hhf_all-append (tm_cons t ts) us = ap (λ z. tm_cons (hhf t) z) (hhf_all-append ts us)

more-than-two : (t u : Term) (ts : Terms) → are_two (tm_cons t (tm_cons u (append ts (one (index 0))))) ≡ false
unfolding append
more-than-two t u Nil = refl
more-than-two t u (tm_cons w ws) = refl

last-same : (h : Head) (ts : Terms) → hhf_spine h (append ts (one (index 0))) ≡ Spine h (append ts (one (index 0)))
unfolding append
last-same h Nil = hhf_spine-other_head h (one (index 0)) refl
last-same h (tm_cons t Nil) = hhf_spine-same h (tm_cons t (one (index 0))) (λ e. refl)
last-same h (tm_cons t (tm_cons u us)) = hhf_spine-other_head h (tm_cons t (tm_cons u (append us (one (index 0))))) (more-than-two t u us)

hhf-index : (n : ℕ) → hhf (index n) ≡ index n
unfolding hhf
hhf-index n = refl

hhf-expand : (h : Head) (ts : Terms) → hhf (expand h ts) ≡ expand h (hhf_all ts)
unfolding hhf expand
hhf-expand h ts =
    let e = hhf_all-append (raise_all 1 0 ts) (one (index 0)) ∙ ap (λ z. append z (one (index 0))) (hhf_all-raise 1 0 ts) in
    ap (hhf_spine (raise_head 1 0 h)) e ∙ last-same (raise_head 1 0 h) (raise_all 1 0 (hhf_all ts))

plain-spine : (h : Head) (ts : Terms) → (is_imp h && are_two ts) ≡ false → hhf (Spine h ts) ≡ Spine h (hhf_all ts)
unfolding hhf
plain-spine h ts e = go (is_imp h && are_two (hhf_all ts)) _ (ap (λ z. is_imp h && z) (two-all ts) ∙ e)
  where
    two-all : (us : Terms) → are_two (hhf_all us) ≡ are_two us
    two-all Nil = refl
    two-all (tm_cons t Nil) = refl
    two-all (tm_cons t (tm_cons u Nil)) = refl
    two-all (tm_cons t (tm_cons u (tm_cons w ws))) = refl

    go : (v : Bool) (t : Term) → v ≡ false → (if v then t else Spine h (hhf_all ts)) ≡ Spine h (hhf_all ts)
    go true t f = absurd (let bad : true ≡ false = f in cc)
    go false t f = refl

pub eta_hhf : EtaPassesHhf
unfolding hhf
eta_hhf c b e = go (eta_cases c b)
  where
    go : ((contracts b ≡ false) × (eta c b ≡ lam c b)) ⊎ EtaCase c b → hhf (eta c b) ≡ eta c (hhf b)
    go (inl q) = ap hhf q.1
    go (inr q) =
        ap hhf q.eta_is ∙ plain-spine q.head q.args (sym (ap is_implication q.eta_is) ∙ e)
        ∙ sym (ap (λ z. eta c (hhf z)) q.body_is ∙ ap (eta c) (hhf-expand q.head q.args) ∙ eta-expand c q.head (hhf_all q.args))

hhf-body : (p : Term) → is_implication p ≡ false → hhf (body p) ≡ body (hhf p)
unfolding hhf
hhf-body (lam c b) e = sym (body-eta c (hhf b))
hhf-body (Spine h ts) e = hhf-expand h ts ∙ sym (ap body (plain-spine h ts e))

-- what is contracted has at most one argument left
unfoldable args_of : Term → Terms
args_of (lam c b) = Nil
args_of (Spine h ts) = ts

fewer : (ts : Terms) → are_two (append (raise_all 1 0 ts) (one (index 0))) ≡ true → are_two ts ≡ false
unfolding raise append
fewer Nil e = refl
fewer (tm_cons t Nil) e = refl
fewer (tm_cons t (tm_cons u us)) e = absurd (let bad : false ≡ true = sym (more-than-two (raise 1 0 t) (raise 1 0 u) (raise_all 1 0 us)) ∙ e in cc)

imp-contracted : (c : Typ) (a b : Term) → is_implication (eta c (imp a b)) ≡ false
unfolding expand args_of
imp-contracted c a b = go (eta_cases c (imp a b))
  where
    two : (h : Head) (ts : Terms) → imp a b ≡ expand h ts → are_two ts ≡ false
    two h ts e = fewer ts (sym (ap (λ z. are_two (args_of z)) e))

    go : ((contracts (imp a b) ≡ false) × (eta c (imp a b) ≡ lam c (imp a b))) ⊎ EtaCase c (imp a b) → is_implication (eta c (imp a b)) ≡ false
    go (inl q) = ap is_implication q.1
    go (inr q) = ap is_implication q.eta_is ∙ ap (λ z. is_imp q.head && z) (two q.head q.args q.body_is) ∙ and-false (is_imp q.head)

bound-all : (c : Typ) → bound_type (all_head c) ≡ c
unfolding dom
bound-all c = refl

pushed-all : (a p : Term) (c : Typ) → push a (Spine (all_head c) (one p)) ≡ Spine (all_head c) (one (eta c (push_under (raise 1 0 a) p)))
unfolding push
pushed-all a p c =
    ap (λ z. if z && true then all_of (all_head c) (push_under (raise 1 0 a) p) else imp a (Spine (all_head c) (one p))) (all-test c)
    ∙ ap (λ z. Spine (all_head c) (one (eta z (push_under (raise 1 0 a) p)))) (bound-all c)

pub outwards_hhf : OutwardsKeepsHhf
unfolding hhf
outwards_hhf c a p e =
    let q : hhf (Spine (all_head c) (one p)) ≡ Spine (all_head c) (one (hhf p)) = hhf_spine-other_head (all_head c) (one (hhf p)) refl in
    let w = imp (raise 1 0 a) (body p) in
    let r : hhf w ≡ push_under (raise 1 0 (hhf a)) (hhf p) =
    hhf-imp (raise 1 0 a) (body p) ∙ (let x = hhf-raise 1 0 a in let y = hhf-body p e in λ i. push (x i) (y i)) ∙ sym (under-body (raise 1 0 (hhf a)) (hhf p)) in
    hhf-imp a (Spine (all_head c) (one p)) ∙ ap (push (hhf a)) q ∙ pushed-all (hhf a) (hhf p) c
    ∙ sym (hhf_spine-other_head (all_head c) (one (hhf (eta c w))) refl
    ∙ ap (λ z. Spine (all_head c) (one z)) (eta_hhf c w (imp-contracted c (raise 1 0 a) (body p)) ∙ ap (eta c) r))
