-- Where a fact or a label is too deep, one of the tokens begins.
use Rattle.std.proofs.Common.{◌≡◌, ℕ, ◌<◌, true, false, List, [], ◌∷◌, length, refl, inl, inr, arith, if◌then◌else◌}
use Rattle.std.specs.Prelude.{Option, Some, None, nat_lt}
use Rattle.iv_text.specs.declared.Pos.{Pos}
use Rattle.iv_forms.specs.declared.fact.Fact.{Fact}
use Rattle.iv_forms.specs.declared.prop.Label.{Label}
use Rattle.iv_forms.specs.declared.prop.Claim.{Claim}
use Rattle.iv_forms.specs.declared.prop.Group.{Group}
use Rattle.iv_forms.specs.declared.lexeme.Lexeme.{Lexeme}
use Rattle.iv_forms.specs.FactForm.{IsFact, IsMoreFacts, no_more_facts, more_facts, and_facts, IsFacts, facts}
use Rattle.iv_forms.specs.PropForm.{IsLabel, IsOptLabel, no_label, a_label, IsClaim, claim, IsGroup, group, IsMoreGroups, no_more_groups, more_groups, IsProps, props}
use Rattle.iv_facts.specs.Found.{IsAmong, Placed, nowhere, there}
use Rattle.iv_facts.specs.FactLevels.{limit, fact_levels, label_levels, deep_at, first_of, deep_fact, deep_more_facts, deep_facts, deep_label, deep_opt_label, deep_claim, deep_group, deep_more_groups, deep_props}
use Rattle.iv_facts.proofs.Lengths.{len_IsFact, len_IsLabel}
use Rattle.iv_facts.proofs.Tails.{tail_IsFact, tail_IsGroup}

pub placed : {ts : List Lexeme} {o : Option Pos} → Placed ts o → (p : Pos) → o ≡ Some p → IsAmong p ts
placed nowhere p e = absurd (let bad : ⊥ = cc in bad)
placed {ts = ts} (there {p = q} h) p e =
    let same : q ≡ p = cc in
    rw (← same) h

pub either : {ts : List Lexeme} {o q : Option Pos} → Placed ts o → Placed ts q → Placed ts (first_of o q)
either nowhere k = k
either (there h) k = there h

pub later : {ts us : List Lexeme} {o : Option Pos} → ((p : Pos) → IsAmong p us → IsAmong p ts) → Placed us o → Placed ts o
later f nowhere = nowhere
later f (there {p = p} h) = there (f p h)

pub behind_token : {t : Lexeme} {ts : List Lexeme} {o : Option Pos} → Placed ts o → Placed (t ∷ ts) o
behind_token nowhere = nowhere
behind_token (there h) = there (inr h)

pub at_token : (t : Lexeme) (ts : List Lexeme) (n : ℕ) → Placed (t ∷ ts) (deep_at (t ∷ ts) n)
at_token t ts n = elim (nat_lt limit n) as (λ b. Placed (t ∷ ts) (if b then Some t.token.at else None)) [ true ↦ there (inl refl) | false ↦ nowhere ]

pub at_first : (ts us : List Lexeme) → length us < length ts → (n : ℕ) → Placed ts (deep_at ts n)
at_first [] us h n = absurd (omega (arith, h))
at_first (t ∷ ts) us h n = at_token t ts n

fact_places : {f : Fact} {ts us : List Lexeme} (d : IsFact f ts us) → Placed ts (deep_fact d)
fact_places {ts = ts} d = at_first ts _ (len_IsFact d) (fact_levels d)

more_facts_places : {fs : List Fact} {ts us : List Lexeme} (d : IsMoreFacts fs ts us) → Placed ts (deep_more_facts d)
more_facts_places no_more_facts = nowhere
more_facts_places (more_facts f fs) = either (fact_places f) (later (λ p. tail_IsFact p f) (more_facts_places fs))
more_facts_places (and_facts a f fs) = behind_token (either (fact_places f) (later (λ p. tail_IsFact p f) (more_facts_places fs)))

pub facts_places : {fs : List Fact} {ts us : List Lexeme} (d : IsFacts fs ts us) → Placed ts (deep_facts d)
facts_places (facts f fs) = either (fact_places f) (later (λ p. tail_IsFact p f) (more_facts_places fs))

label_places : {l : Label} {ts us : List Lexeme} (d : IsLabel l ts us) → Placed ts (deep_label d)
label_places {ts = ts} d = at_first ts _ (len_IsLabel d) (label_levels d)

pub opt_label_places : {l : Option Label} {ts us : List Lexeme} (d : IsOptLabel l ts us) → Placed ts (deep_opt_label d)
opt_label_places no_label = nowhere
opt_label_places (a_label l) = label_places l

pub claim_places : {c : Claim} {ts us : List Lexeme} (d : IsClaim c ts us) → Placed ts (deep_claim d)
claim_places (claim l p) = opt_label_places l

group_places : {g : Group} {ts us : List Lexeme} (d : IsGroup g ts us) → Placed ts (deep_group d)
group_places (group l p ps) = opt_label_places l

more_groups_places : {gs : List Group} {ts us : List Lexeme} (d : IsMoreGroups gs ts us) → Placed ts (deep_more_groups d)
more_groups_places no_more_groups = nowhere
more_groups_places (more_groups a g gs) = behind_token (either (group_places g) (later (λ p. tail_IsGroup p g) (more_groups_places gs)))

pub props_places : {gs : List Group} {ts us : List Lexeme} (d : IsProps gs ts us) → Placed ts (deep_props d)
props_places (props g gs) = either (group_places g) (later (λ p. tail_IsGroup p g) (more_groups_places gs))
