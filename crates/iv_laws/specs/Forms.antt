-- What the laws on hereditary Harrop form say, and the step that leads to it: A ==> !!x. B becomes !!x. A ==> B, anywhere in a term
-- (Miller 1991; Paulson 1989).
use Rattle.std.specs.Prelude.{◌≡◌, ℕ, Bool, false, ◌&&◌}
use Rattle.iv_term.specs.declared.typ.Typ.{Typ}
use Rattle.iv_term.specs.declared.typ.Types.{Types}
use Rattle.iv_term.specs.declared.term.Head.{Head}
use Rattle.iv_term.specs.declared.term.Term.{Term}
use Rattle.iv_term.specs.declared.term.Terms.{Terms}
use Rattle.iv_term.specs.declared.term.Term.TheBlock.{Spine, Nil}
use Rattle.iv_term.specs.Term.{lam, tm_cons, imp, are_two}
use Rattle.iv_hsub.specs.Typing.{IsTerm}
use Rattle.iv_hsub.specs.Index.{raise, eta}
use Rattle.iv_hsub.specs.Hsub.{append}
use Rattle.iv_hsub.specs.Hhf.{all_head, is_imp, is_all, one, expand, hhf}
use Rattle.iv_hsub.specs.Retype.{retype_head, retype}

-- a predicate's body, for a new variable
abbrev pub body : Term → Term
body (lam c b) = b
body (Spine h ts) = expand h ts

-- one step: at the term itself, under an abstraction, or in an argument
pub data Moves : Term → Term → Type 0 where
  outwards : (c : Typ) (a p : Term) → Moves (imp a (Spine (all_head c) (one p))) (Spine (all_head c) (one (eta c (imp (raise 1 0 a) (body p)))))
  under : (c : Typ) (t u : Term) → Moves t u → Moves (eta c t) (eta c u)
  argument : (h : Head) (ts us : Terms) (t u : Term) → Moves t u → Moves (Spine h (append ts (tm_cons t us))) (Spine h (append ts (tm_cons u us)))

-- any number of steps
pub data Leads : Term → Term → Type 0 where
  stays : (t : Term) → Leads t t
  moves : (t u v : Term) → Moves t u → Leads u v → Leads t v

-- steps lead from a term to its form
abbrev pub HhfIsReached : Type 0
HhfIsReached = (bounds : Types) (t : Term) → IsTerm bounds t → Leads t (hhf t)

-- the form of an implication is that of the implication between its parts' forms
abbrev pub HhfOfParts : Type 0
HhfOfParts = (bounds : Types) (a b : Term) → IsTerm bounds a → IsTerm bounds b → hhf (imp a b) ≡ hhf (imp (hhf a) (hhf b))

-- raising passes it
abbrev pub RaisePassesHhf : Type 0
RaisePassesHhf = (d c : ℕ) (t : Term) → hhf (raise d c t) ≡ raise d c (hhf t)

abbrev mutual
  -- what holds of each head in a term
  pub Heads : (Head → Type 0) → Term → Type 0
  Heads P (lam a b) = Heads P b
  Heads P (Spine h ts) = P h × AllHeads P ts

  pub AllHeads : (Head → Type 0) → Terms → Type 0
  AllHeads P Nil = Unit {0}
  AllHeads P (tm_cons t ts) = Heads P t × AllHeads P ts

-- types put in a term pass it, where they make no other constant one of the two; so wherever `==>` and `!!` stand at their own types alone
abbrev pub KeepsTests : (Typ → Typ) → Head → Type 0
KeepsTests f h = (is_imp (retype_head f h) ≡ is_imp h) × (is_all (retype_head f h) ≡ is_all h)

abbrev pub RetypePassesHhf : Type 0
RetypePassesHhf = (f : Typ → Typ) (t : Term) → Heads (KeepsTests f) t → hhf (retype f t) ≡ retype f (hhf t)

-- a step leaves the form as it is, where what `!!` stands before is a predicate, and so no implication; at the term itself, and under
-- an abstraction
abbrev pub is_implication : Term → Bool
is_implication (lam c b) = false
is_implication (Spine h ts) = is_imp h && are_two ts

abbrev pub OutwardsKeepsHhf : Type 0
OutwardsKeepsHhf = (c : Typ) (a p : Term) → is_implication p ≡ false
    → hhf (imp a (Spine (all_head c) (one p))) ≡ hhf (Spine (all_head c) (one (eta c (imp (raise 1 0 a) (body p)))))

abbrev pub EtaPassesHhf : Type 0
EtaPassesHhf = (c : Typ) (b : Term) → is_implication (eta c b) ≡ false → hhf (eta c b) ≡ eta c (hhf b)
