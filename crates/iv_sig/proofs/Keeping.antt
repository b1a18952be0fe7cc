-- Declarations keep what holds of a signature.
use Rattle.std.proofs.Common.{◌≡◌, ℕ, ◌<◌, Bool, true, false, cond, ◌||◌, ◌⊎◌, inl, inr, List, [], ◌∷◌, ◌++◌, Option, None, Some, is_some, refl, sym, ap, subst, ◌∙◌, codes, arith}
use Rattle.std.proofs.lemmas.List.{append_assoc}
use Rattle.std.proofs.lemmas.List.Elements.{All-push}
use Rattle.std.specs.Cmp.Lexicographic.{bytes_decides, nat_list_eq_equiv}
use Rattle.std.specs.List.{All}
use Rattle.std.specs.Str.{bytes_eq}
use Rattle.iv_term.specs.declared.typ.Typ.{Typ}
use Rattle.iv_term.specs.declared.term.Term.{Term}
use Rattle.iv_sig.specs.declared.fixity.Fixity.{Fixity}
use Rattle.iv_sig.specs.Conditions.{IsJudgmentType, IsAxiom}
use Rattle.iv_sig.specs.Signature.{Signature, pure, pure_types, pure_consts, is_there, with_type, with_const, with_notation, with_judgment, with_axiom}
use Rattle.iv_sig.specs.Kept.{BeginsWith, IsJudgment, IsNotation, IsSignature}
use Rattle.iv_sig.specs.Table.{look}

unless : (b : Bool) → (b ≡ true → ⊥) → b ≡ false
unless true n = absurd (n refl)
unless false n = refl

neither : (a b : Bool) → (a || b) ≡ false → (a ≡ false) × (b ≡ false)
neither true b h = absurd (let bad : true ≡ false = h in cc)
neither false b h = (refl, h)

none-is : {V : Type 0} (o : Option V) → is_some o ≡ false → o ≡ None
none-is None h = refl
none-is (Some v) h = absurd (let bad : true ≡ false = h in cc)

begins-on : {X : Type 0} (xs ys : List X) (x : X) → BeginsWith xs ys → BeginsWith (xs ++ x ∷ []) ys
begins-on xs ys x b = (b.0 ++ x ∷ [], ap (λ z. z ++ x ∷ []) b.1 ∙ append_assoc ys b.0 (x ∷ []))

module _ {V : Type 0} where
  on-by : (b : Bool) (a l m : Option V) (v : V) → cond b a l ≡ Some v → (l ≡ Some v → m ≡ Some v) → cond b a m ≡ Some v
  on-by true a l m v h k = h
  on-by false a l m v h k = k h

  -- one entry more hides no other
  look-on : (es : List (List ℕ × V)) (e : List ℕ × V) (q : List ℕ) (v : V) → look es q ≡ Some v → look (es ++ e ∷ []) q ≡ Some v
  look-on [] e q v h = absurd (let bad : None ≡ Some v = h in cc)
  look-on (x ∷ es) e q v h = on-by (bytes_eq q x.0) (Some x.1) (look es q) (look (es ++ e ∷ []) q) v h (look-on es e q v)

  some-by : (o m : Option V) → ((v : V) → o ≡ Some v → m ≡ Some v) → is_some o ≡ true → is_some m ≡ true
  some-by None m k h = absurd (let bad : false ≡ true = h in cc)
  some-by (Some v) m k h = ap is_some (k v refl)

  some-on : (es : List (List ℕ × V)) (e : List ℕ × V) (q : List ℕ) → is_some (look es q) ≡ true → is_some (look (es ++ e ∷ []) q) ≡ true
  some-on es e q h = some-by (look es q) (look (es ++ e ∷ []) q) (look-on es e q) h

  past-by : (b : Bool) (a : V) (l m : Option V) → cond b (Some a) l ≡ None → (l ≡ None → m ≡ None) → cond b (Some a) m ≡ None
  past-by true a l m h k = absurd (let bad : Some a ≡ None = h in cc)
  past-by false a l m h k = k h

  -- a name that isn't there, and isn't the new one, isn't there
  look-past : (es : List (List ℕ × V)) (e : List ℕ × V) (q : List ℕ) → look es q ≡ None → bytes_eq q e.0 ≡ false → look (es ++ e ∷ []) q ≡ None
  look-past [] e q h b = rw b refl
  look-past (x ∷ es) e q h b = past-by (bytes_eq q x.0) x.1 (look es q) (look (es ++ e ∷ []) q) h (λ l. look-past es e q l b)

  new-by : (b : Bool) (a v : V) (l m : Option V) → cond b (Some a) l ≡ None → (l ≡ None → m ≡ Some v) → cond b (Some a) m ≡ Some v
  new-by true a v l m h k = absurd (let bad : Some a ≡ None = h in cc)
  new-by false a v l m h k = k h

  -- the new one
  look-new : (es : List (List ℕ × V)) (n : List ℕ) (v : V) → look es n ≡ None → look (es ++ (n, v) ∷ []) n ≡ Some v
  look-new [] n v h = rw (nat_list_eq_equiv.refl n) refl
  look-new (x ∷ es) n v h = new-by (bytes_eq n x.0) x.1 v (look es n) (look (es ++ (n, v) ∷ []) n) h (look-new es n v)

  was-by : (b c : Bool) (a : V) (l m : Option V) → is_some (cond b (Some a) m) ≡ true → (is_some m ≡ true → (is_some l ≡ true) ⊎ (c ≡ true))
      → (is_some (cond b (Some a) l) ≡ true) ⊎ (c ≡ true)
  was-by true c a l m h k = inl refl
  was-by false c a l m h k = k h

  one-by : (b : Bool) (a : V) → is_some (cond b (Some a) None) ≡ true → b ≡ true
  one-by true a h = refl
  one-by false a h = h

  -- what is there was there, or is the new one
  look-was : (es : List (List ℕ × V)) (e : List ℕ × V) (q : List ℕ) → is_some (look (es ++ e ∷ []) q) ≡ true → (is_some (look es q) ≡ true) ⊎ (bytes_eq q e.0 ≡ true)
  look-was [] e q h = inr (one-by (bytes_eq q e.0) e.1 h)
  look-was (x ∷ es) e q h = was-by (bytes_eq q x.0) (bytes_eq q e.0) x.1 (look es q) (look (es ++ e ∷ []) q) h (look-was es e q)

same : (q n : List ℕ) → bytes_eq q n ≡ true → q ≡ n
same q n h = (bytes_decides q n).0 h

-- at first

at-fun : (q : List ℕ) → q ≡ codes "fun" → look pure_consts q ≡ None
at-fun q e = rw e refl

at-prop : (q : List ℕ) → q ≡ codes "prop" → look pure_consts q ≡ None
at-prop q e = rw e refl

pure-apart : (q : List ℕ) → is_some (look pure_types q) ≡ true → look pure_consts q ≡ None
pure-apart q h = elim (look-was ((codes "fun", 2) ∷ []) (codes "prop", 0) q h) [ inl a ↦ at-fun q (same q (codes "fun") (one-by (bytes_eq q (codes "fun")) 2 a)) | inr b ↦ at-prop q (same q (codes "prop") b) ]

nothing : {X : Type 0} (P : X → Type 0) → All P []
nothing P k d l = absurd (let bad : k < 0 = l in omega arith)

pub kept-pure : IsSignature pure
kept-pure = record {
  pure_types_first = ([], refl);
  pure_consts_first = ([], refl);
  apart = pure-apart;
  notations = nothing _;
  judgment = λ j h. absurd (let bad : None ≡ Some j = h in cc);
  axioms = nothing _;
}

module _ (s : Signature) (k : IsSignature s) where
  -- a new type

  type-apart : (n : List ℕ) (arity : ℕ) → is_there s n ≡ false → (q : List ℕ) → is_some (look (s.types ++ (n, arity) ∷ []) q) ≡ true → look s.consts q ≡ None
  type-apart n arity new q h =
      let absent : look s.consts n ≡ None = none-is (look s.consts n) (neither (is_some (look s.types n)) (is_some (look s.consts n)) new).1 in
      elim (look-was s.types (n, arity) q h) [ inl a ↦ k.apart q a | inr b ↦ rw (same q n b) absent ]

  pub kept-type : (n : List ℕ) (arity : ℕ) → is_there s n ≡ false → IsSignature (with_type s n arity)
  kept-type n arity new = record {
    pure_types_first = begins-on s.types pure_types (n, arity) k.pure_types_first;
    pure_consts_first = k.pure_consts_first;
    apart = type-apart n arity new;
    notations = k.notations;
    judgment = k.judgment;
    axioms = k.axioms;
  }

  -- a new constant

  const-apart : (n : List ℕ) (a : Typ) → is_there s n ≡ false → (q : List ℕ) → is_some (look s.types q) ≡ true → look (s.consts ++ (n, a) ∷ []) q ≡ None
  const-apart n a new q h =
      let absent : is_some (look s.types n) ≡ false = (neither (is_some (look s.types n)) (is_some (look s.consts n)) new).0 in
      let other : bytes_eq q n ≡ true → ⊥ = λ e. let bad : false ≡ true = sym absent ∙ (rw (same q n e) at h) in cc in
      look-past s.consts (n, a) q (k.apart q h) (unless (bytes_eq q n) other)

  notation-on : (e : List ℕ × Typ) (n : List ℕ) (f : Fixity) → IsNotation s.consts n f → IsNotation (s.consts ++ e ∷ []) n f
  notation-on e n f h = record {
    declared = some-on s.consts e n h.declared;
    no_pure = h.no_pure;
    symbol = h.symbol;
    no_delimiter = h.no_delimiter;
    priorities = h.priorities;
  }

  judgment-on : (e : List ℕ × Typ) (j : List ℕ) → IsJudgment s.consts j → IsJudgment (s.consts ++ e ∷ []) j
  judgment-on e j h = (h.0, (look-on s.consts e j h.0 h.1.0, h.1.1))

  pub kept-const : (n : List ℕ) (a : Typ) → is_there s n ≡ false → IsSignature (with_const s n a)
  kept-const n a new = record {
    pure_types_first = k.pure_types_first;
    pure_consts_first = begins-on s.consts pure_consts (n, a) k.pure_consts_first;
    apart = const-apart n a new;
    notations = λ i d l. notation-on (n, a) _ _ (k.notations i d l);
    judgment = λ j h. judgment-on (n, a) j (k.judgment j h);
    axioms = k.axioms;
  }

  -- the judgment

  judgment-new : (n : List ℕ) (a : Typ) → is_there s n ≡ false → IsJudgmentType a → IsJudgment (s.consts ++ (n, a) ∷ []) n
  judgment-new n a new typed =
      let absent : look s.consts n ≡ None = none-is (look s.consts n) (neither (is_some (look s.types n)) (is_some (look s.consts n)) new).1 in
      (a, (look-new s.consts n a absent, typed))

  pub kept-judgment : (n : List ℕ) (a : Typ) → is_there s n ≡ false → IsJudgmentType a → IsSignature (with_judgment s n a)
  kept-judgment n a new typed = record {
    pure_types_first = k.pure_types_first;
    pure_consts_first = begins-on s.consts pure_consts (n, a) k.pure_consts_first;
    apart = const-apart n a new;
    notations = λ i d l. notation-on (n, a) _ _ (k.notations i d l);
    judgment = λ j h. let e : n ≡ j = cc in subst (λ z. IsJudgment (s.consts ++ (n, a) ∷ []) z) e (judgment-new n a new typed);
    axioms = k.axioms;
  }

  -- notations and axioms

  pub kept-notation : (n : List ℕ) (f : Fixity) → IsNotation s.consts n f → IsSignature (with_notation s n f)
  kept-notation n f h = record {
    pure_types_first = k.pure_types_first;
    pure_consts_first = k.pure_consts_first;
    apart = k.apart;
    notations = All-push (λ e. IsNotation s.consts e.0 e.1) s.notations (n, f) k.notations h;
    judgment = k.judgment;
    axioms = k.axioms;
  }

  pub kept-axiom : (n : List ℕ) (t : Term) → IsAxiom t → IsSignature (with_axiom s n t)
  kept-axiom n t h = record {
    pure_types_first = k.pure_types_first;
    pure_consts_first = k.pure_consts_first;
    apart = k.apart;
    notations = k.notations;
    judgment = k.judgment;
    axioms = All-push (λ e. IsAxiom e.1) s.axioms (n, t) k.axioms h;
  }
