-- Laws of the first difference of two types.
use Rattle.std.proofs.Common.{◌≡◌, ℕ, Bool, true, false, refl, sym, ◌∙◌, ap, List, if◌then◌else◌, ◌≤◌, ◌+◌, suc, arith}
use Rattle.std.specs.Prelude.{◌||◌}
use Rattle.std.specs.Str.{bytes_eq}
use Rattle.iv_text.specs.declared.name.Name.{Name}
use Rattle.iv_term.specs.declared.typ.Typ.{Typ}
use Rattle.iv_term.specs.declared.typ.Types.{Types}
use Rattle.iv_term.specs.declared.typ.Typ.TheBlock.{Con, Fixed, Schematic, Nil}
use Rattle.iv_term.specs.Typ.{ty_cons}
use Rattle.iv_text.specs.Name.{same_name}
use Rattle.iv_text.proofs.Same.{same_name-true, same_name-same, same_text-true, same_text-same}
use Rattle.iv_subst.specs.TySubst.{put_typ, put_typs, occurs, occurs_any}
use Rattle.iv_subst.specs.Unifier.{Difference, nowhere, clash, variable, or_then, differ, differ_all}
use Rattle.iv_subst.specs.Pairs.{size, size_all}

ty_first : Types → Typ → Typ
ty_first Nil d = d
ty_first (ty_cons t ts) d = t

ty_rest : Types → Types
ty_rest Nil = Nil
ty_rest (ty_cons t ts) = ts

pub ty_cons-parts : (t u : Typ) (ts us : Types) → ty_cons t ts ≡ ty_cons u us → (t ≡ u) × (ts ≡ us)
unfolding ty_first ty_rest
ty_cons-parts t u ts us e = (ap (λ xs. ty_first xs t) e, ap ty_rest e)

pub or_then-nowhere : (d : Difference) → or_then d nowhere ≡ d
or_then-nowhere nowhere = refl
or_then-nowhere clash = refl
or_then-nowhere (variable x t) = refl

pub or_then-assoc : (c d e : Difference) → or_then (or_then c d) e ≡ or_then c (or_then d e)
or_then-assoc nowhere d e = refl
or_then-assoc clash d e = refl
or_then-assoc (variable x t) d e = refl

pub or_then-parts : (c d : Difference) → or_then c d ≡ nowhere → (c ≡ nowhere) × (d ≡ nowhere)
or_then-parts nowhere d h = (refl, h)
or_then-parts clash d h = absurd (let bad : clash ≡ nowhere = h in cc)
or_then-parts (variable x t) d h = absurd (let bad : variable x t ≡ nowhere = h in cc)

-- both types are equal where they differ nowhere
con_by : (c d : List ℕ) (ts us : Types) → (differ_all ts us ≡ nowhere → ts ≡ us) → (v : Bool) → bytes_eq c d ≡ v
    → (if v then differ_all ts us else clash) ≡ nowhere → Con c ts ≡ Con d us
con_by c d ts us k true h q = let e = same_text-true c d h in let f = k q in λ i. Con (e i) (f i)
con_by c d ts us k false h q = absurd (let bad : clash ≡ nowhere = q in cc)

fixed_by : (a b : List ℕ) (v : Bool) → bytes_eq a b ≡ v → (if v then nowhere else clash) ≡ nowhere → Fixed a ≡ Fixed b
fixed_by a b true h q = ap Fixed (same_text-true a b h)
fixed_by a b false h q = absurd (let bad : clash ≡ nowhere = q in cc)

schematic_by : (x y : Name) (v : Bool) → same_name x y ≡ v → (if v then nowhere else variable x (Schematic y)) ≡ nowhere
    → Schematic x ≡ Schematic y
schematic_by x y true h q = ap Schematic (same_name-true x y h)
schematic_by x y false h q = absurd (let bad : variable x (Schematic y) ≡ nowhere = q in cc)

mutual
  unfolding differ differ_all

  pub differ-nowhere : (a b : Typ) → differ a b ≡ nowhere → a ≡ b
  differ-nowhere (Con c ts) (Con d us) h = con_by c d ts us (differ_all-nowhere ts us) (bytes_eq c d) refl h
  differ-nowhere (Con c ts) (Fixed b) h = absurd (let bad : clash ≡ nowhere = h in cc)
  differ-nowhere (Con c ts) (Schematic y) h = absurd (let bad : variable y (Con c ts) ≡ nowhere = h in cc)
  differ-nowhere (Fixed a) (Con d us) h = absurd (let bad : clash ≡ nowhere = h in cc)
  differ-nowhere (Fixed a) (Fixed b) h = fixed_by a b (bytes_eq a b) refl h
  differ-nowhere (Fixed a) (Schematic y) h = absurd (let bad : variable y (Fixed a) ≡ nowhere = h in cc)
  differ-nowhere (Schematic x) (Con d us) h = absurd (let bad : variable x (Con d us) ≡ nowhere = h in cc)
  differ-nowhere (Schematic x) (Fixed b) h = absurd (let bad : variable x (Fixed b) ≡ nowhere = h in cc)
  differ-nowhere (Schematic x) (Schematic y) h = schematic_by x y (same_name x y) refl h

  pub differ_all-nowhere : (ts us : Types) → differ_all ts us ≡ nowhere → ts ≡ us
  differ_all-nowhere Nil Nil h = refl
  differ_all-nowhere Nil (ty_cons u us) h = absurd (let bad : clash ≡ nowhere = h in cc)
  differ_all-nowhere (ty_cons t ts) Nil h = absurd (let bad : clash ≡ nowhere = h in cc)
  differ_all-nowhere (ty_cons t ts) (ty_cons u us) h =
      let p = or_then-parts (differ t u) (differ_all ts us) h in
      let e = differ-nowhere t u p.0 in
      let f = differ_all-nowhere ts us p.1 in
      λ i. ty_cons (e i) (f i)

mutual
  unfolding differ differ_all

  pub differ-same : (a : Typ) → differ a a ≡ nowhere
  differ-same (Con c ts) = rw (same_text-same c) (differ_all-same ts)
  differ-same (Fixed a) = rw (same_text-same a)
  differ-same (Schematic x) = rw (same_name-same x)

  pub differ_all-same : (ts : Types) → differ_all ts ts ≡ nowhere
  differ_all-same Nil = refl
  differ_all-same (ty_cons t ts) = rw (differ-same t) (differ_all-same ts)

-- what a unifier of both types must do
abbrev pub Needs : (Name → Typ) → Difference → Type 0
Needs g nowhere = Unit {0}
Needs g clash = ⊥
Needs g (variable x t) = g x ≡ put_typ g t

needs-or : (g : Name → Typ) (c d : Difference) → Needs g c → Needs g d → Needs g (or_then c d)
needs-or g nowhere d p q = q
needs-or g clash d p q = p
needs-or g (variable x t) d p q = p

con_needs : (g : Name → Typ) (c d : List ℕ) (ts us : Types) → c ≡ d → Needs g (differ_all ts us)
    → (v : Bool) → bytes_eq c d ≡ v → Needs g (if v then differ_all ts us else clash)
con_needs g c d ts us e k true h = k
con_needs g c d ts us e k false h = absurd (let bad : true ≡ false = sym (same_text-same c) ∙ ap (bytes_eq c) e ∙ h in cc)

fixed_needs : (g : Name → Typ) (a b : List ℕ) → a ≡ b → (v : Bool) → bytes_eq a b ≡ v → Needs g (if v then nowhere else clash)
fixed_needs g a b e true h = tt
fixed_needs g a b e false h = absurd (let bad : true ≡ false = sym (same_text-same a) ∙ ap (bytes_eq a) e ∙ h in cc)

schematic_needs : (g : Name → Typ) (x y : Name) → g x ≡ g y → (v : Bool) → Needs g (if v then nowhere else variable x (Schematic y))
unfolding put_typ
schematic_needs g x y e true = tt
schematic_needs g x y e false = e

mutual
  unfolding differ differ_all put_typ put_typs

  pub differ-needs : (g : Name → Typ) (a b : Typ) → put_typ g a ≡ put_typ g b → Needs g (differ a b)
  differ-needs g (Con c ts) (Con d us) e =
      let p : c ≡ d = (let q : Con c (put_typs g ts) ≡ Con d (put_typs g us) = e in cc) in
      let r : put_typs g ts ≡ put_typs g us = (let q : Con c (put_typs g ts) ≡ Con d (put_typs g us) = e in cc) in
      con_needs g c d ts us p (differ_all-needs g ts us r) (bytes_eq c d) refl
  differ-needs g (Con c ts) (Fixed b) e = let q : Con c (put_typs g ts) ≡ Fixed b = e in cc
  differ-needs g (Con c ts) (Schematic y) e = sym e
  differ-needs g (Fixed a) (Con d us) e = let q : Fixed a ≡ Con d (put_typs g us) = e in cc
  differ-needs g (Fixed a) (Fixed b) e =
      let p : a ≡ b = (let q : Fixed a ≡ Fixed b = e in cc) in fixed_needs g a b p (bytes_eq a b) refl
  differ-needs g (Fixed a) (Schematic y) e = sym e
  differ-needs g (Schematic x) (Con d us) e = e
  differ-needs g (Schematic x) (Fixed b) e = e
  differ-needs g (Schematic x) (Schematic y) e = schematic_needs g x y e (same_name x y)

  pub differ_all-needs : (g : Name → Typ) (ts us : Types) → put_typs g ts ≡ put_typs g us → Needs g (differ_all ts us)
  differ_all-needs g Nil Nil e = tt
  differ_all-needs g Nil (ty_cons u us) e = let q : Nil ≡ ty_cons (put_typ g u) (put_typs g us) = e in cc
  differ_all-needs g (ty_cons t ts) Nil e = let q : ty_cons (put_typ g t) (put_typs g ts) ≡ Nil = e in cc
  differ_all-needs g (ty_cons t ts) (ty_cons u us) e =
      let p = ty_cons-parts (put_typ g t) (put_typ g u) (put_typs g ts) (put_typs g us) e in
      needs-or g (differ t u) (differ_all ts us) (differ-needs g t u p.0) (differ_all-needs g ts us p.1)

-- a variable never stands against itself
abbrev pub Apart : Difference → Type 0
Apart nowhere = Unit {0}
Apart clash = Unit {0}
Apart (variable x t) = t ≡ Schematic x → ⊥

apart-or : (c d : Difference) → Apart c → Apart d → Apart (or_then c d)
apart-or nowhere d p q = q
apart-or clash d p q = p
apart-or (variable x t) d p q = p

apart_if : (b : Bool) (d : Difference) → Apart d → Apart (if b then d else clash)
apart_if true d p = p
apart_if false d p = tt

fixed_apart : (b : Bool) → Apart (if b then nowhere else clash)
fixed_apart true = tt
fixed_apart false = tt

schematic_apart : (x y : Name) (v : Bool) → same_name x y ≡ v → Apart (if v then nowhere else variable x (Schematic y))
schematic_apart x y true h = tt
schematic_apart x y false h = λ e. let p : y ≡ x = cc in
    let bad : true ≡ false = sym (same_name-same x) ∙ ap (same_name x) (sym p) ∙ h in cc

mutual
  unfolding differ differ_all

  pub differ-apart : (a b : Typ) → Apart (differ a b)
  differ-apart (Con c ts) (Con d us) = apart_if (bytes_eq c d) (differ_all ts us) (differ_all-apart ts us)
  differ-apart (Con c ts) (Fixed b) = tt
  differ-apart (Con c ts) (Schematic y) = λ e. cc
  differ-apart (Fixed a) (Con d us) = tt
  differ-apart (Fixed a) (Fixed b) = fixed_apart (bytes_eq a b)
  differ-apart (Fixed a) (Schematic y) = λ e. cc
  differ-apart (Schematic x) (Con d us) = λ e. cc
  differ-apart (Schematic x) (Fixed b) = λ e. cc
  differ-apart (Schematic x) (Schematic y) = schematic_apart x y (same_name x y) refl

  pub differ_all-apart : (ts us : Types) → Apart (differ_all ts us)
  differ_all-apart Nil Nil = tt
  differ_all-apart Nil (ty_cons u us) = tt
  differ_all-apart (ty_cons t ts) Nil = tt
  differ_all-apart (ty_cons t ts) (ty_cons u us) = apart-or (differ t u) (differ_all ts us) (differ-apart t u) (differ_all-apart ts us)

-- a property of each variable of a type
unfoldable mutual
  pub Each : (Name → Type 0) → Typ → Type 0
  Each P (Con c ts) = EachOf P ts
  Each P (Fixed a) = Unit {0}
  Each P (Schematic x) = P x

  pub EachOf : (Name → Type 0) → Types → Type 0
  EachOf P Nil = Unit {0}
  EachOf P (ty_cons t ts) = Each P t × EachOf P ts

mutual
  unfolding Each EachOf put_typ put_typs

  pub Each-put : (P Q : Name → Type 0) (f : Name → Typ) (t : Typ) → ((x : Name) → P x → Each Q (f x)) → Each P t → Each Q (put_typ f t)
  Each-put P Q f (Con c ts) k h = EachOf-put P Q f ts k h
  Each-put P Q f (Fixed a) k h = tt
  Each-put P Q f (Schematic x) k h = k x h

  pub EachOf-put : (P Q : Name → Type 0) (f : Name → Typ) (ts : Types) → ((x : Name) → P x → Each Q (f x)) → EachOf P ts → EachOf Q (put_typs f ts)
  EachOf-put P Q f Nil k h = tt
  EachOf-put P Q f (ty_cons t ts) k h = (Each-put P Q f t k h.0, EachOf-put P Q f ts k h.1)

abbrev pub EachIn : (Name → Type 0) → Difference → Type 0
EachIn P nowhere = Unit {0}
EachIn P clash = Unit {0}
EachIn P (variable x t) = P x × Each P t

each-or : (P : Name → Type 0) (c d : Difference) → EachIn P c → EachIn P d → EachIn P (or_then c d)
each-or P nowhere d p q = q
each-or P clash d p q = p
each-or P (variable x t) d p q = p

each_if : (P : Name → Type 0) (b : Bool) (d : Difference) → EachIn P d → EachIn P (if b then d else clash)
each_if P true d p = p
each_if P false d p = tt

fixed_each : (P : Name → Type 0) (b : Bool) → EachIn P (if b then nowhere else clash)
fixed_each P true = tt
fixed_each P false = tt

schematic_each : (P : Name → Type 0) (x y : Name) (v : Bool) → P x → P y → EachIn P (if v then nowhere else variable x (Schematic y))
unfolding Each
schematic_each P x y true p q = tt
schematic_each P x y false p q = (p, q)

mutual
  unfolding differ differ_all Each EachOf

  pub differ-each : (P : Name → Type 0) (a b : Typ) → Each P a → Each P b → EachIn P (differ a b)
  differ-each P (Con c ts) (Con d us) p q = each_if P (bytes_eq c d) (differ_all ts us) (differ_all-each P ts us p q)
  differ-each P (Con c ts) (Fixed b) p q = tt
  differ-each P (Con c ts) (Schematic y) p q = (q, p)
  differ-each P (Fixed a) (Con d us) p q = tt
  differ-each P (Fixed a) (Fixed b) p q = fixed_each P (bytes_eq a b)
  differ-each P (Fixed a) (Schematic y) p q = (q, tt)
  differ-each P (Schematic x) (Con d us) p q = (p, q)
  differ-each P (Schematic x) (Fixed b) p q = (p, tt)
  differ-each P (Schematic x) (Schematic y) p q = schematic_each P x y (same_name x y) p q

  pub differ_all-each : (P : Name → Type 0) (ts us : Types) → EachOf P ts → EachOf P us → EachIn P (differ_all ts us)
  differ_all-each P Nil Nil p q = tt
  differ_all-each P Nil (ty_cons u us) p q = tt
  differ_all-each P (ty_cons t ts) Nil p q = tt
  differ_all-each P (ty_cons t ts) (ty_cons u us) p q =
      each-or P (differ t u) (differ_all ts us) (differ-each P t u p.0 q.0) (differ_all-each P ts us p.1 q.1)

occurs_by : (s n m : ℕ) (a b : Bool) → (a || b) ≡ true → (a ≡ true → s ≤ n) → (b ≡ true → s ≤ m) → s ≤ suc (n + m)
occurs_by s n m true b h k l = let q = k refl in omega arith
occurs_by s n m false b h k l = let q = l h in omega arith

mutual
  unfolding size size_all put_typ put_typs occurs occurs_any

  -- the value of x is at most as large as that of a type where x stands
  pub size-occurs : (g : Name → Typ) (x : Name) (t : Typ) → occurs x t ≡ true → size (g x) ≤ size (put_typ g t)
  size-occurs g x (Con c ts) h = let k = size_all-occurs g x ts h in omega arith
  size-occurs g x (Fixed a) h = absurd (let bad : false ≡ true = h in cc)
  size-occurs g x (Schematic y) h = let e : x ≡ y = same_name-true x y h in rw e (omega arith)

  pub size_all-occurs : (g : Name → Typ) (x : Name) (ts : Types) → occurs_any x ts ≡ true → size (g x) ≤ size_all (put_typs g ts)
  size_all-occurs g x Nil h = absurd (let bad : false ≡ true = h in cc)
  size_all-occurs g x (ty_cons t ts) h =
      occurs_by (size (g x)) (size (put_typ g t)) (size_all (put_typs g ts)) (occurs x t) (occurs_any x ts) h (size-occurs g x t) (size_all-occurs g x ts)

same_by : (x y : Name) → same_name x y ≡ true → Schematic y ≡ Schematic x
same_by x y h = ap Schematic (sym (same_name-true x y h))

-- no substitution makes a variable equal to another type in which it stands
pub occurs-apart : (g : Name → Typ) (x : Name) (t : Typ) → (t ≡ Schematic x → ⊥) → occurs x t ≡ true → g x ≡ put_typ g t → ⊥
unfolding occurs put_typ size
occurs-apart g x (Con c ts) k h e =
    let l = size_all-occurs g x ts h in
    let m : size (g x) ≡ suc (size_all (put_typs g ts)) = ap size e in
    absurd (omega arith)
occurs-apart g x (Fixed a) k h e = let bad : false ≡ true = h in cc
occurs-apart g x (Schematic y) k h e = k (same_by x y h)
