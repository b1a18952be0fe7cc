-- Terms in which no abstraction can be contracted.
use Rattle.iv_term.specs.declared.typ.Typ.{Typ}
use Rattle.iv_term.specs.declared.typ.Types.{Types}
use Rattle.iv_term.specs.declared.term.Term.{Term}
use Rattle.iv_term.specs.declared.term.Terms.{Terms}
use Rattle.iv_term.specs.declared.term.Term.TheBlock.{Spine, Nil}
use Rattle.iv_term.specs.Typ.{ty_cons}
use Rattle.iv_term.specs.Term.{lam, tm_cons}
use Rattle.iv_hsub.specs.Typing.{cod, head_type, IsTerm, AreArgs}
use Rattle.iv_hsub.specs.Open.{IsShort, AreShort}

mutual
  pub short-term : (bs : Types) (t : Term) → IsTerm bs t → IsShort t
  short-term bs (lam a b) p = (short-term (ty_cons a bs) b p.0, p.1)
  short-term bs (Spine h ts) p = short-args bs (head_type bs h) ts p.1

  pub short-args : (bs : Types) (a : Typ) (ts : Terms) → AreArgs bs a ts → AreShort ts
  short-args bs a Nil p = tt
  short-args bs a (tm_cons t ts) p = (short-term bs t p.1.0, short-args bs (cod a) ts p.1.1)
