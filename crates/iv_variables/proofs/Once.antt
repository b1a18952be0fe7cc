-- Putting variables into a set one after the other keeps each at its first place.
use Rattle.std.proofs.Common.{◌≡◌, Bool, true, false, not, ◌&&◌, ◌||◌, cond, if◌then◌else◌, List, [], ◌∷◌, ◌++◌, refl, sym, ◌∙◌, ap}
use Rattle.std.specs.List.{list_any, fold, filter}
use Rattle.std.proofs.lemmas.List.{append_assoc, append-nil}
use Rattle.std.proofs.lemmas.List.Folds.{list_any-append}
use Rattle.indexmap.specs.IndexSet.{insert_key}
use Rattle.iv_variables.specs.declared.variable.Variable.{Variable}
use Rattle.iv_variables.specs.declared.kind.Kind.{Kind}
use Rattle.iv_variables.specs.declared.found.Collector.{Collector}
use Rattle.iv_variables.specs.Variables.{same_variable}
use Rattle.iv_variables.specs.Same.{variable-true}
use Rattle.iv_variables.specs.Key.{same_variable-equiv}
use Rattle.iv_variables.specs.Firsts.{without, firsts, stands, extended, of_kind}

-- a filter that passes what two others pass is both
both_by : (n m k : Variable → Bool) (x : Variable) (xs : List Variable) (b c : Bool) → m x ≡ b → n x ≡ c → k x ≡ (b && c)
    → filter k xs ≡ filter n (filter m xs) → filter k (x ∷ xs) ≡ filter n (cond b (x ∷ filter m xs) (filter m xs))
both_by n m k x xs true true p q e h = ap (λ z. cond z (x ∷ filter k xs) (filter k xs)) e ∙ ap (λ z. x ∷ z) h ∙ sym (ap (λ z. cond z (x ∷ filter n (filter m xs)) (filter n (filter m xs))) q)
both_by n m k x xs true false p q e h = ap (λ z. cond z (x ∷ filter k xs) (filter k xs)) e ∙ h ∙ sym (ap (λ z. cond z (x ∷ filter n (filter m xs)) (filter n (filter m xs))) q)
both_by n m k x xs false true p q e h = ap (λ z. cond z (x ∷ filter k xs) (filter k xs)) e ∙ h
both_by n m k x xs false false p q e h = ap (λ z. cond z (x ∷ filter k xs) (filter k xs)) e ∙ h

both : (n m k : Variable → Bool) → ((x : Variable) → k x ≡ (m x && n x)) → (xs : List Variable) → filter k xs ≡ filter n (filter m xs)
both n m k e [] = refl
both n m k e (x ∷ xs) =
    both_by n m k x xs (m x) (n x) refl refl (e x) (both n m k e xs) ∙ ap (filter n) refl

all_pass : (xs : List Variable) → filter (λ v. true) xs ≡ xs
all_pass [] = refl
all_pass (x ∷ xs) = ap (λ z. x ∷ z) (all_pass xs)

-- what is new to some variables isn't one of them
new-apart_by : (out : List Variable) (v w : Variable) (b c : Bool) → stands v out ≡ true → same_variable v w ≡ b → stands w out ≡ c → not c ≡ (not b && not c)
new-apart_by out v w false c h p q = refl
new-apart_by out v w true true h p q = refl
new-apart_by out v w true false h p q = absurd (let bad : false ≡ true = sym q ∙ ap (λ z. stands z out) (sym (variable-true v w p)) ∙ h in cc)

new-more_by : (s b : Bool) → not (s || (b || false)) ≡ (not b && not s)
new-more_by true true = refl
new-more_by true false = refl
new-more_by false true = refl
new-more_by false false = refl

new-more : (out : List Variable) (v w : Variable) → not (stands w (out ++ v ∷ [])) ≡ (not (same_variable v w) && not (stands w out))
new-more out v w =
    ap not (list_any-append (same_variable w) out (v ∷ [])) ∙ new-more_by (stands w out) (same_variable w v)
    ∙ ap (λ z. not z && not (stands w out)) (same_variable-equiv.symm w v)

step_by : (out : List Variable) (v : Variable) (vs : List Variable) (b : Bool) → stands v out ≡ b
    → ((us : List Variable) → fold (insert_key same_variable) us vs ≡ extended us vs)
    → fold (insert_key same_variable) (if b then out else out ++ v ∷ []) vs ≡ out ++ cond (not b) (v ∷ filter (λ w. not (stands w out)) (without v (firsts vs))) (filter (λ w. not (stands w out)) (without v (firsts vs)))
step_by out v vs true h next =
    next out ∙ ap (λ z. out ++ z)
    (both (λ w. not (stands w out)) (λ w. not (same_variable v w)) (λ w. not (stands w out)) (λ w. new-apart_by out v w _ _ h refl refl) (firsts vs))
step_by out v vs false h next =
    next (out ++ v ∷ []) ∙ append_assoc out (v ∷ []) (filter (λ w. not (stands w (out ++ v ∷ []))) (firsts vs)) ∙ ap (λ z. out ++ v ∷ z)
    (both (λ w. not (stands w out)) (λ w. not (same_variable v w)) (λ w. not (stands w (out ++ v ∷ []))) (λ w. new-more out v w) (firsts vs))

pub put-all : (vs us : List Variable) → fold (insert_key same_variable) us vs ≡ extended us vs
unfolding firsts
put-all [] us = sym (append-nil us)
put-all (v ∷ vs) us = step_by us v vs (stands v us) refl (λ z. put-all vs z)

pub put-first : (vs : List Variable) → fold (insert_key same_variable) [] vs ≡ firsts vs
put-first vs = put-all vs [] ∙ all_pass (firsts vs)

-- the collector puts those of its kind
abbrev pub collects : Collector → Variable → Collector
collects c v = record { kind = c.kind; found = if of_kind c.kind v then insert_key same_variable c.found v else c.found }

collected_by : (k : Kind) (us : List Variable) (v : Variable) (vs : List Variable) (b : Bool) → of_kind k v ≡ b
    → ((ws : List Variable) → fold collects (record { kind = k; found = ws }) vs ≡ record { kind = k; found = fold (insert_key same_variable) ws (filter (of_kind k) vs) })
    → fold collects (record { kind = k; found = if b then insert_key same_variable us v else us }) vs
    ≡ record { kind = k; found = fold (insert_key same_variable) us (cond b (v ∷ filter (of_kind k) vs) (filter (of_kind k) vs)) }
collected_by k us v vs true h next = next (insert_key same_variable us v)
collected_by k us v vs false h next = next us

pub collected : (k : Kind) (vs us : List Variable)
    → fold collects (record { kind = k; found = us }) vs ≡ record { kind = k; found = fold (insert_key same_variable) us (filter (of_kind k) vs) }
collected k [] us = refl
collected k (v ∷ vs) us = collected_by k us v vs (of_kind k v) refl (λ z. collected k vs z)

pub collected-first : (k : Kind) (vs : List Variable) → (fold collects (record { kind = k; found = [] }) vs).found ≡ firsts (filter (of_kind k) vs)
collected-first k vs = ap (λ c. c.found) (collected k vs []) ∙ put-first (filter (of_kind k) vs)
