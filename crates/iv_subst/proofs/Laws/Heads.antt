-- Following variables to what they are assigned.
use Rattle.std.proofs.Common.{◌≡◌, ℕ, suc, Bool, true, false, if◌then◌else◌, refl, sym, ◌∙◌, ap, List, [], ◌∷◌, length, Option, None, Some, ◌≤◌, ◌<◌, ◌+◌, arith}
use Rattle.iv_text.specs.Name.{same_name}
use Rattle.iv_text.specs.declared.name.Name.{Name}
use Rattle.iv_term.specs.declared.typ.Typ.{Typ}
use Rattle.iv_term.specs.declared.typ.Types.{Types}
use Rattle.iv_term.specs.declared.typ.Typ.TheBlock.{Con, Fixed, Schematic}
use Rattle.iv_subst.specs.TySubst.{put_typ, TyMap, seek, at}
use Rattle.iv_subst.specs.Solved.{solved, rank, AreSolved, IsHead, link}
use Rattle.iv_subst.proofs.Laws.Put.{put-variable}
use Rattle.iv_subst.specs.Pairs.{size}
use Rattle.iv_subst.proofs.Laws.Solved.{link-some, link-none, rank-some}

pub typ_rank : TyMap → Typ → ℕ
typ_rank es (Con c ts) = 0
typ_rank es (Fixed a) = 0
typ_rank es (Schematic y) = rank es y

rank-small_by : (es : TyMap) (y : Name) (b : Bool) → rank es y ≤ length es → (if b then suc (length es) else rank es y) ≤ suc (length es)
rank-small_by es y true h = omega arith
rank-small_by es y false h = omega arith

rank-small : (es : TyMap) (y : Name) → rank es y ≤ length es
unfolding rank
rank-small [] y = omega arith
rank-small (e ∷ es) y = rank-small_by es y (same_name y e.0) (rank-small es y)

pub typ_rank-small : (es : TyMap) (t : Typ) → typ_rank es t ≤ length es
unfolding typ_rank
typ_rank-small es (Con c ts) = omega arith
typ_rank-small es (Fixed a) = omega arith
typ_rank-small es (Schematic y) = rank-small es y

pub link-rank : (es : TyMap) → AreSolved es → (t u : Typ) → link es t ≡ Some u → typ_rank es u < typ_rank es t
unfolding link typ_rank
link-rank es k (Con c ts) u h = absurd (let bad : None ≡ Some u = h in cc)
link-rank es k (Fixed a) u h = absurd (let bad : None ≡ Some u = h in cc)
link-rank es k (Schematic y) (Con c ts) h = rank-some es y (Con c ts) h
link-rank es k (Schematic y) (Fixed a) h = rank-some es y (Fixed a) h
link-rank es k (Schematic y) (Schematic z) h = k.linked y z h

pub link-same : (es : TyMap) → AreSolved es → (t u : Typ) → link es t ≡ Some u → put_typ (at (solved es)) u ≡ put_typ (at (solved es)) t
unfolding link
link-same es k (Con c ts) u h = absurd (let bad : None ≡ Some u = h in cc)
link-same es k (Fixed a) u h = absurd (let bad : None ≡ Some u = h in cc)
link-same es k (Schematic y) u h = sym (put-variable (at (solved es)) y ∙ link-some es k y u h)

pub link-head : (es : TyMap) (t : Typ) → link es t ≡ None → IsHead es t
unfolding link
link-head es t h y e = sym (ap (link es) e) ∙ h

-- a variable that is a head stays
pub head-variable : (es : TyMap) → AreSolved es → (y : Name) → IsHead es (Schematic y) → put_typ (at (solved es)) (Schematic y) ≡ Schematic y
head-variable es k y h = put-variable (at (solved es)) y ∙ link-none es k y (h y refl)

-- whether a type is a variable with an assignment, as a number
count : Option Typ → ℕ
count None = 0
count (Some t) = 1

pub followed : TyMap → Typ → ℕ
followed es t = count (link es t)

count-small : (o : Option Typ) → count o ≤ 1
unfolding count
count-small None = omega arith
count-small (Some t) = omega arith

pub followed-small : (es : TyMap) (t : Typ) → followed es t ≤ 1
unfolding followed
followed-small es t = count-small (link es t)

pub followed-some : (es : TyMap) (y : Name) (t : Typ) → Some t ≡ seek es y → followed es (Schematic y) ≡ 1
unfolding followed link count
followed-some es y t h = rw (← h)

pub followed-head : (es : TyMap) (t : Typ) → IsHead es t → followed es t ≡ 0
unfolding followed link count
followed-head es (Con c ts) h = refl
followed-head es (Fixed a) h = refl
followed-head es (Schematic y) h = rw (h y refl)

pub followed-con : (es : TyMap) (c : List ℕ) (ts : Types) → followed es (Con c ts) ≡ 0
unfolding followed link count
followed-con es c ts = refl

pub link-default : (es : TyMap) (t : Typ) → ((x : Name) → t ≡ Schematic x → ⊥) → None ≡ link es t
unfolding link
link-default es (Con c ts) h = refl
link-default es (Fixed a) h = refl
link-default es (Schematic y) h = absurd (h y refl)

pub unassigned : (es : TyMap) → AreSolved es → (x : Name) → None ≡ seek es x → Schematic x ≡ put_typ (at (solved es)) (Schematic x)
unassigned es k x h = sym (put-variable (at (solved es)) x ∙ link-none es k x (sym h))

pub assigned : (es : TyMap) → AreSolved es → (x : Name) (value top : Typ) → Some value ≡ seek es x
    → put_typ (at (solved es)) top ≡ put_typ (at (solved es)) value → put_typ (at (solved es)) top ≡ put_typ (at (solved es)) (Schematic x)
assigned es k x value top h e = e ∙ sym (put-variable (at (solved es)) x ∙ link-some es k x value (sym h))

pub assigned-smaller : (es : TyMap) → AreSolved es → (x : Name) (value top : Typ) → Some value ≡ seek es x
    → put_typ (at (solved es)) top ≡ put_typ (at (solved es)) value → IsHead es top
    → size (put_typ (at (solved es)) top) + size (put_typ (at (solved es)) top) + followed es top
    < size (put_typ (at (solved es)) (Schematic x)) + size (put_typ (at (solved es)) (Schematic x)) + followed es (Schematic x)
assigned-smaller es k x value top h e p =
    let s = ap size (assigned es k x value top h e) in
    let a = followed-head es top p in
    let b = followed-some es x value h in
    omega arith
