-- The walk of the occurs test: what its set of variables says, and how much is left of it.
use Rattle.std.proofs.Common.{◌≡◌, ℕ, suc, Bool, true, false, true≢false, refl, sym, ◌∙◌, ap, List, [], ◌∷◌, ◌++◌, if◌then◌else◌, Some, is_some, ◌<◌, ◌+◌, ◌⊎◌, inl, inr, length, arith}
use Rattle.std.specs.List.{AllByRecursion}
use Rattle.std.specs.Map.{keys_of}
use Rattle.iv_text.specs.declared.name.Name.{Name}
use Rattle.iv_term.specs.declared.typ.Typ.{Typ}
use Rattle.iv_term.specs.declared.typ.Types.{Types}
use Rattle.iv_term.specs.declared.typ.Typ.TheBlock.{Con, Fixed, Schematic, Nil}
use Rattle.iv_term.specs.Typ.{ty_cons}
use Rattle.iv_text.specs.Name.{same_name}
use Rattle.iv_text.proofs.Same.{same_name-true}
use Rattle.iv_map.specs.NameMap.{Entries, look}
use Rattle.iv_subst.specs.TySubst.{put_typ, put_typs, occurs, TyMap, seek, at}
use Rattle.iv_subst.specs.Solved.{solved, AreSolved, AreFree, link}
use Rattle.iv_subst.proofs.Laws.Put.{put-variable}
use Rattle.iv_subst.proofs.Laws.Solved.{link-some}
use Rattle.iv_subst.proofs.Laws.Heads.{typ_rank, typ_rank-small, link-rank}

module _ {V : Type 0} (P : Name → Type 0) where
  all-found_by : (seen : Entries V) (x : Name) (e : Name × V) (b : Bool) → same_name x e.0 ≡ b → P e.0
      → (is_some (look seen x) ≡ true → P x) → is_some (if b then Some e.1 else look seen x) ≡ true → P x
  all-found_by seen x e true s p q h = rw (same_name-true x e.0 s) p
  all-found_by seen x e false s p q h = q h

  -- what holds of each name that has an entry
  pub all-found : (seen : Entries V) (x : Name) → AllByRecursion P (keys_of seen) → is_some (look seen x) ≡ true → P x
  all-found [] x h k = absurd (true≢false (sym k))
  all-found (e ∷ seen) x h k = all-found_by seen x e (same_name x e.0) refl h.0 (λ q. all-found seen x h.1 q) k

all-more : (P : Name → Type 0) (ys : List Name) (x : Name) → AllByRecursion P ys → P x → AllByRecursion P (ys ++ x ∷ [])
all-more P [] x h k = (k, tt)
all-more P (y ∷ ys) x h k = (h.0, all-more P ys x h.1 k)

pub free-found : {V : Type 0} (es : TyMap) (x : Name) (seen : Entries V) (y : Name) → AreFree es x (keys_of seen) → is_some (look seen y) ≡ true
    → occurs x (put_typ (at (solved es)) (Schematic y)) ≡ false
unfolding AreFree
free-found es x seen y h k = all-found (λ z. occurs x (put_typ (at (solved es)) (Schematic z)) ≡ false) seen y h k

pub free-entered : {V : Type 0} (es : TyMap) (x : Name) (old new : Entries V) (y : Name) → AreFree es x (keys_of old)
    → occurs x (put_typ (at (solved es)) (Schematic y)) ≡ false → (new ≡ old) ⊎ (keys_of new ≡ keys_of old ++ y ∷ []) → AreFree es x (keys_of new)
unfolding AreFree
free-entered es x old new y h k (inl e) = rw e h
free-entered es x old new y h k (inr e) = rw e (all-more (λ z. occurs x (put_typ (at (solved es)) (Schematic z)) ≡ false) (keys_of old) y h k)

pub free-none : (es : TyMap) (x : Name) → AreFree es x []
unfolding AreFree
free-none es x = tt

-- a variable is what it is assigned
pub assigned-same : (es : TyMap) → AreSolved es → (y : Name) (value : Typ) → seek es y ≡ Some value
    → put_typ (at (solved es)) value ≡ put_typ (at (solved es)) (Schematic y)
assigned-same es k y value h = sym (put-variable (at (solved es)) y ∙ link-some es k y value h)

-- how many nodes a type has, where each counts as k
mutual
  pub bulk : ℕ → Typ → ℕ
  bulk k (Con c ts) = k + bulk_all k ts
  bulk k (Fixed a) = k
  bulk k (Schematic y) = k

  pub bulk_all : ℕ → Types → ℕ
  bulk_all k Nil = 0
  bulk_all k (ty_cons t ts) = k + (bulk k t + bulk_all k ts)

-- a node counts more than the way from a variable to the end of its assignments
node : TyMap → ℕ
node es = suc (length es + length es)

-- how much is left of the walk through a type, and through types
pub to_walk : TyMap → Typ → ℕ
to_walk es t = bulk (node es) (put_typ (at (solved es)) t) + (typ_rank es t + typ_rank es t)

pub to_walk_all : TyMap → Types → ℕ
to_walk_all es ts = bulk_all (node es) (put_typs (at (solved es)) ts)

pub walk-con : (es : TyMap) (c : List ℕ) (ts : Types) → to_walk_all es ts < to_walk es (Con c ts)
unfolding to_walk to_walk_all bulk put_typ node
walk-con es c ts = omega arith

pub walk-first : (es : TyMap) (t : Typ) (ts : Types) → to_walk es t < to_walk_all es (ty_cons t ts)
unfolding to_walk to_walk_all bulk_all put_typs node
walk-first es t ts = let small = typ_rank-small es t in omega arith

pub walk-rest : (es : TyMap) (t : Typ) (ts : Types) → to_walk_all es ts < to_walk_all es (ty_cons t ts)
unfolding to_walk_all bulk_all put_typs node
walk-rest es t ts = omega arith

pub walk-value : (es : TyMap) → AreSolved es → (y : Name) (value : Typ) → seek es y ≡ Some value → suc (to_walk es value) < to_walk es (Schematic y)
unfolding to_walk link
walk-value es k y value h =
    let s = ap (bulk (node es)) (assigned-same es k y value h) in
    let r = link-rank es k (Schematic y) value h in
    omega arith
