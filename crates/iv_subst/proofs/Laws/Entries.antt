-- What the code's loops over a map's entries keep.
use Rattle.std.proofs.Common.{◌≡◌, ℕ, Bool, true, false, refl, sym, ◌∙◌, ap, List, [], ◌∷◌, ◌++◌, Option, None, Some, if◌then◌else◌, ◌≤◌, ◌+◌, length, drop, slice_get, is_some, IfOk, Bor}
use Rattle.std.specs.Option.{unwrap_or, option_copied}
use Rattle.std.specs.Prelude.{Result}
use Rattle.std.specs.List.{IsDistinct}
use Rattle.std.specs.Map.{keys_of}
use Rattle.std.proofs.lemmas.List.{append_assoc, append-nil, map-append, drop_more, drop_all}
use Rattle.std.proofs.lemmas.Option.{slice_get_within, get_or_from_slice_get}
use Rattle.std.proofs.lemmas.Result.{IfOk-weaker}
use Rattle.iv_text.specs.declared.want.Want.{Want}
use Rattle.iv_text.specs.declared.name.Name.{Name}
use Rattle.iv_term.specs.declared.typ.Typ.{Typ}
use Rattle.iv_term.specs.declared.typ.Types.{Types}
use Rattle.iv_term.specs.declared.typ.Typ.TheBlock.{Con, Schematic}
use Rattle.iv_term.specs.Typ.{ty_cons}
use Rattle.iv_text.specs.Name.{same_name}
use Rattle.iv_map.specs.NameMap.{look}
use Rattle.iv_map.proofs.Entries.{new-name, among, others, apart-others}
use Rattle.iv_subst.specs.TySubst.{put_typ, TyMap, seek, at, has, under, unhidden, composed}

at-seek-by : (e : Name × Typ) (y : Name) (o : Option Typ) (b : Typ) (v : Bool) → unwrap_or o (Schematic y) ≡ b
    → unwrap_or (if v then Some e.1 else o) (Schematic y) ≡ (if v then e.1 else b)
at-seek-by e y o b true k = refl
at-seek-by e y o b false k = k

pub at-seek : (s : TyMap) (y : Name) → unwrap_or (seek s y) (Schematic y) ≡ at s y
unfolding seek at
at-seek [] y = refl
at-seek (e ∷ s) y = at-seek-by e y (seek s y) (at s y) (same_name y e.0) (at-seek s y)

pub found-at : (s : TyMap) (y : Name) (o : Option Typ) → o ≡ seek s y → unwrap_or o (Schematic y) ≡ at s y
found-at s y o e = ap (λ z. unwrap_or z (Schematic y)) e ∙ at-seek s y

has-seek-by : (e : Name × Typ) (o : Option Typ) (b v : Bool) → is_some o ≡ b → is_some (if v then Some e.1 else o) ≡ (if v then true else b)
has-seek-by e o b true k = refl
has-seek-by e o b false k = k

pub has-seek : (s : TyMap) (y : Name) → is_some (seek s y) ≡ has s y
unfolding seek has
has-seek [] y = refl
has-seek (e ∷ s) y = has-seek-by e (seek s y) (has s y) (same_name y e.0) (has-seek s y)

-- the entry at an index, and those behind it
pub drop-at : {X : Type 0} (s : List X) (i : ℕ) (e : X) → slice_get s i ≡ Some e → drop i s ≡ e ∷ drop (i + 1) s
drop-at s i e h = drop_more s i e (slice_get_within s i e h) ∙ ap (λ z. z ∷ drop (i + 1) s) (get_or_from_slice_get s i e e h)

-- one more entry written
pub under-on : (f : Name → Typ) (out0 out out2 s : TyMap) (i : ℕ) (x : Name) (t u : Typ) → slice_get s i ≡ Some (x, t)
    → out ++ under f (drop i s) ≡ out0 ++ under f s → u ≡ put_typ f t → out2 ≡ out ++ (x, u) ∷ []
    → out2 ++ under f (drop (i + 1) s) ≡ out0 ++ under f s
unfolding under
under-on f out0 out out2 s i x t u g h e q =
    ap (λ z. z ++ under f (drop (i + 1) s)) (q ∙ (λ k. out ++ (x, e k) ∷ [])) ∙ append_assoc out ((x, put_typ f t) ∷ []) (under f (drop (i + 1) s))
    ∙ ap (λ z. out ++ under f z) (sym (drop-at s i (x, t) g)) ∙ h

pub unhidden-on : (r out0 out out2 s : TyMap) (i : ℕ) (x : Name) (t : Typ) → slice_get s i ≡ Some (x, t)
    → out ++ unhidden r (drop i s) ≡ out0 ++ unhidden r s → has r x ≡ false → out2 ≡ out ++ (x, t) ∷ []
    → out2 ++ unhidden r (drop (i + 1) s) ≡ out0 ++ unhidden r s
unfolding unhidden
unhidden-on r out0 out out2 s i x t g h e q =
    let step : unhidden r ((x, t) ∷ drop (i + 1) s) ≡ (x, t) ∷ unhidden r (drop (i + 1) s) = rw e refl in
    ap (λ z. z ++ unhidden r (drop (i + 1) s)) q ∙ append_assoc out ((x, t) ∷ []) (unhidden r (drop (i + 1) s))
    ∙ ap (λ z. out ++ z) (sym step) ∙ ap (λ z. out ++ unhidden r z) (sym (drop-at s i (x, t) g)) ∙ h

pub hidden-on : (r out0 out s : TyMap) (i : ℕ) (x : Name) (t : Typ) → slice_get s i ≡ Some (x, t)
    → out ++ unhidden r (drop i s) ≡ out0 ++ unhidden r s → has r x ≡ true → out ++ unhidden r (drop (i + 1) s) ≡ out0 ++ unhidden r s
unfolding unhidden
hidden-on r out0 out s i x t g h e =
    let step : unhidden r ((x, t) ∷ drop (i + 1) s) ≡ unhidden r (drop (i + 1) s) = rw e refl in
    ap (λ z. out ++ z) (sym step) ∙ ap (λ z. out ++ unhidden r z) (sym (drop-at s i (x, t) g)) ∙ h

-- at the loop's end nothing is left
pub under-end : (f : Name → Typ) (out0 out s : TyMap) (i : ℕ) → out ++ under f (drop i s) ≡ out0 ++ under f s → length s ≤ i → out ≡ out0 ++ under f s
unfolding under
under-end f out0 out s i h l = sym (append-nil out) ∙ ap (λ z. out ++ under f z) (sym (drop_all i s l)) ∙ h

pub unhidden-end : (r out0 out s : TyMap) (i : ℕ) → out ++ unhidden r (drop i s) ≡ out0 ++ unhidden r s → length s ≤ i → out ≡ out0 ++ unhidden r s
unfolding unhidden
unhidden-end r out0 out s i h l = sym (append-nil out) ∙ ap (λ z. out ++ unhidden r z) (sym (drop_all i s l)) ∙ h

-- the entry of a variable, as a map by name has it
pub seek-look : (s : TyMap) (y : Name) → seek s y ≡ look s y
unfolding seek
seek-look [] y = refl
seek-look (e ∷ s) y = ap (λ o. if same_name y e.0 then Some e.1 else o) (seek-look s y)

-- no two entries of what is written have one variable

keys-under : (f : Name → Typ) (s : TyMap) → keys_of (under f s) ≡ keys_of s
unfolding under
keys-under f [] = refl
keys-under f (e ∷ s) = ap (λ ks. e.0 ∷ ks) (keys-under f s)

has-among : (s : TyMap) (y : Name) → has s y ≡ among (keys_of s) y
unfolding has
has-among [] y = refl
has-among (e ∷ s) y = ap (λ b. if same_name y e.0 then true else b) (has-among s y)

keys-kept : (e : Name × Typ) (r : TyMap) (ks : List Name) (b : Bool) → keys_of r ≡ ks → keys_of (if b then r else e ∷ r) ≡ (if b then ks else e.0 ∷ ks)
keys-kept e r ks true h = h
keys-kept e r ks false h = ap (λ z. e.0 ∷ z) h

keys-unhidden : (s r : TyMap) → keys_of (unhidden s r) ≡ others (keys_of s) (keys_of r)
unfolding unhidden
keys-unhidden s [] = refl
keys-unhidden s (e ∷ r) = rw (has-among s e.0) (keys-kept e (unhidden s r) (others (keys_of s) (keys_of r)) (among (keys_of s) e.0) (keys-unhidden s r))

pub apart-under : (f : Name → Typ) (s : TyMap) → IsDistinct same_name (keys_of s) → IsDistinct same_name (keys_of (under f s))
apart-under f s d = rw (keys-under f s) d

pub apart-composed : (s r : TyMap) → IsDistinct same_name (keys_of s) → IsDistinct same_name (keys_of r) → IsDistinct same_name (keys_of (composed s r))
unfolding composed
apart-composed s r d e =
    let keys : keys_of (composed s r) ≡ keys_of s ++ others (keys_of s) (keys_of r) =
    map-append (λ z. z.0) (under (at r) s) (unhidden s r) ∙ (λ i. keys-under (at r) s i ++ keys-unhidden s r i) in
    rw keys (apart-others (keys_of s) (keys_of r) d e)

pub under-new : (f : Name → Typ) (out0 out s : TyMap) (i : ℕ) (x y : Name) (t : Typ) → slice_get s i ≡ Some (x, t)
    → out ++ under f (drop i s) ≡ out0 ++ under f s → IsDistinct same_name (keys_of (out0 ++ under f s)) → y ≡ x → seek out y ≡ None
unfolding under
under-new f out0 out s i x y t g h d e =
    seek-look out y ∙ new-name out (out0 ++ under f s) (under f (drop (i + 1) s)) x y (put_typ f t) (ap (λ z. out ++ under f z) (sym (drop-at s i (x, t) g)) ∙ h) d e

pub unhidden-new : (r out0 out s : TyMap) (i : ℕ) (x y : Name) (t : Typ) → slice_get s i ≡ Some (x, t)
    → out ++ unhidden r (drop i s) ≡ out0 ++ unhidden r s → has r x ≡ false → IsDistinct same_name (keys_of (out0 ++ unhidden r s)) → y ≡ x → seek out y ≡ None
unfolding unhidden
unhidden-new r out0 out s i x y t g h n d e =
    let step : unhidden r ((x, t) ∷ drop (i + 1) s) ≡ (x, t) ∷ unhidden r (drop (i + 1) s) = rw n refl in
    seek-look out y ∙ new-name out (out0 ++ unhidden r s) (unhidden r (drop (i + 1) s)) x y t
    (ap (λ z. out ++ z) (sym (ap (unhidden r) (drop-at s i (x, t) g) ∙ step)) ∙ h) d e

-- a type whose parts may be new

pub con-changed : (r : Result (Option Typ) Want) (c : List ℕ) (o : Option Types) (ts us : Types)
    → IfOk r (λ n. (xs : Types) → unwrap_or n (Con c xs) ≡ Con c (unwrap_or o xs)) → unwrap_or o ts ≡ us → IfOk r (λ n. unwrap_or n (Con c ts) ≡ Con c us)
con-changed r c o ts us h e =
    IfOk-weaker r (λ n. (xs : Types) → unwrap_or n (Con c xs) ≡ Con c (unwrap_or o xs)) (λ n. unwrap_or n (Con c ts) ≡ Con c us) (λ n p. p ts ∙ ap (Con c) e) h

pub value-changed : (r : Result (Option Typ) Want) (o : Option Typ) (s : TyMap) (y : Name) → IfOk r (λ n. n ≡ o) → o ≡ seek s y
    → IfOk r (λ n. unwrap_or n (Schematic y) ≡ at s y)
value-changed r o s y h e = IfOk-weaker r (λ n. n ≡ o) (λ n. unwrap_or n (Schematic y) ≡ at s y) (λ n p. found-at s y n (p ∙ e)) h

pub parts-changed : (r : Result (Option Types) Want) (o : Option Typ) (q : Option Types) (t u : Typ) (ts us : Types)
    → IfOk r (λ n. unwrap_or n (ty_cons t ts) ≡ ty_cons (unwrap_or o t) (unwrap_or q ts)) → unwrap_or o t ≡ u → unwrap_or q ts ≡ us
    → IfOk r (λ n. unwrap_or n (ty_cons t ts) ≡ ty_cons u us)
parts-changed r o q t u ts us h e f =
    IfOk-weaker r (λ n. unwrap_or n (ty_cons t ts) ≡ ty_cons (unwrap_or o t) (unwrap_or q ts)) (λ n. unwrap_or n (ty_cons t ts) ≡ ty_cons u us)
    (λ n p. p ∙ (λ i. ty_cons (e i) (f i))) h

-- whether a look-up found something

copied-some : (o : Option (Bor Typ)) → is_some o ≡ is_some (option_copied o)
copied-some None = refl
copied-some (Some x) = refl

pub has-found : (o : Option (Bor Typ)) (s : TyMap) (y : Name) → option_copied o ≡ seek s y → is_some o ≡ has s y
has-found o s y e = copied-some o ∙ ap is_some e ∙ has-seek s y
