-- From steps to the verdict.
use Rattle.std.proofs.Common.{◌≡◌, ℕ, suc, ◌+◌, ◌<◌, ◌≤◌, List, [], ◌∷◌, ◌++◌, length, take, get_or, reverse, Bool, true, false, refl, ap, sym, ◌∙◌, subst, append_assoc, append-nil}
use Rattle.std.specs.Prelude.{Option, Some, None, ◌&&◌}
use Rattle.std.proofs.Math.Seq.{take-suc}
use Rattle.std.proofs.lemmas.List.{take_more, take_all, reverse-append}
use Rattle.std.proofs.lemmas.List.Folds.{list_all-append}
use Rattle.iv_recogniser.specs.declared.class.Class.{Class}
use Rattle.iv_recogniser.specs.declared.part.Part.{Part}
use Rattle.iv_recogniser.specs.declared.part.Symbol.{Symbol}
use Rattle.iv_recogniser.specs.declared.part.Symbol.TheVariants.{Word, Goes}
use Rattle.iv_recogniser.specs.Table.{forms}
use Rattle.iv_recogniser.specs.Spell.{Grammar, Spells, none, word, part, IsViable}
use Rattle.iv_recogniser.specs.Step.{may_end, step, passes, empties}
use Rattle.iv_recogniser.proofs.Sets.{and_left, and_right}
use Rattle.iv_recogniser.proofs.Some.{some_of}
use Rattle.iv_recogniser.proofs.Follow.{follow, sample}
use Rattle.iv_recogniser.proofs.Checks.{is_made, next, run, ends}
use Rattle.iv_recogniser.proofs.Checked.{good, sampled}
use Rattle.iv_recogniser.proofs.Predict.{empty_in, made_empty, made_goes}
use Rattle.iv_recogniser.proofs.Complete.{step_sound, Fits, stepped, step_complete, good_made}

-- symbols that may all be passed spell nothing
pub empties_spells : (g : Grammar) (s : List Symbol) → empties g s ≡ true → Spells g s []
empties_spells g [] h = none
empties_spells g (Word k ∷ s) h = let bad : false ≡ true = h in cc
empties_spells g (Goes p ∷ s) h = part [] (empty_in (g p) (and_left (may_end (g p)) (empties g s) h)) (empties_spells g s (and_right (may_end (g p)) (empties g s) h))

and_both : (a b : Bool) → a ≡ true → b ≡ true → (a && b) ≡ true
and_both true b h e = e
and_both false b h e = let bad : false ≡ true = h in cc

-- what spells nothing may be passed
pub spells_empties : {g : Grammar} {s : List Symbol} → ((p : Part) → is_made (g p) ≡ true) → Spells g s [] → empties g s ≡ true
spells_empties made none = refl
spells_empties {g = g} made (part {p = p} {s = s} [] i d) = and_both (may_end (g p)) (empties g s) (made_empty (g p) (made p) i) (spells_empties made d)
spells_empties {g = g} made (part {p = p} {s = s} (Goes q ∷ r) i d) = absurd (made_goes (g p) q r (made p) i)
spells_empties {g = g} made (part {p = p} {s = s} (Word _ ∷ r) i d) = elim d [ ]

-- classes lead on from where others led
run_none : (g : Grammar) (cs : List Class) → run g None cs ≡ None
run_none g [] = refl
run_none g (c ∷ cs) = run_none g cs

pub run_more : (g : Grammar) (o : Option (List Symbol)) (cs ds : List Class) → run g o (cs ++ ds) ≡ run g (run g o cs) ds
run_more g o [] ds = refl
run_more g o (c ∷ cs) ds = run_more g (next g o c) cs ds

next_sound : (g : Grammar) (o : Option (List Symbol)) (c : Class) (cs : List Class) (s : List Symbol) → next g o c ≡ Some s → Spells g s cs → (t : List Symbol) × ((o ≡ Some t) × Spells g t (c ∷ cs))
next_sound g None c cs s e d = cc
next_sound g (Some t) c cs s e d = (t, (refl, step_sound g t s c cs e d))

pub run_sound : (g : Grammar) (o : Option (List Symbol)) (cs ds : List Class) (s : List Symbol) → run g o cs ≡ Some s → Spells g s ds → (t : List Symbol) × ((o ≡ Some t) × Spells g t (cs ++ ds))
run_sound g o [] ds s e d = (s, (e, d))
run_sound g o (c ∷ cs) ds s e d =
    let r = run_sound g (next g o c) cs ds s e d in
    next_sound g o c (cs ++ ds) r.0 r.1.0 r.1.1

-- what some classes leave, which spells the rest
pub data Running (g : Grammar) (s : List Symbol) (cs : List Class) (ds : List Class) : Type 0 where
  ran : (s' : List Symbol) → run g (Some s) cs ≡ Some s' → Spells g s' ds → Fits g follow s' → Running g s cs ds

after_step : (g : Grammar) (s s' : List Symbol) (c : Class) (cs ds : List Class) → step g s c ≡ Some s' → Running g s' cs ds → Running g s (c ∷ cs) ds
after_step g s s' c cs ds e (ran t r d f) = ran t (ap (λ o. run g o cs) e ∙ r) d f

pub run_complete : (s : List Symbol) (cs ds : List Class) → Spells forms s (cs ++ ds) → Fits forms follow s → Running forms s cs ds
run_complete s [] ds d f = ran s refl d f
run_complete s (c ∷ cs) ds d f =
    elim (step_complete forms follow good d f) [ stepped s' e d' f' ↦ after_step forms s s' c cs ds e (run_complete s' cs ds d' f') ]

-- two that are spelled are spelled one behind the other
append_spells : {g : Grammar} {s : List Symbol} {cs : List Class} (t : List Symbol) (ds : List Class) → Spells g s cs → Spells g t ds → Spells g (s ++ t) (cs ++ ds)
append_spells t ds none e = e
append_spells t ds (word h d) e = word h (append_spells t ds d e)
append_spells {g = g} {cs = cs} t ds (part {s = s} r i d) e = part r i (subst (λ u. Spells g u (cs ++ ds)) (append_assoc r s t) (append_spells t ds d e))

-- a part's sample
ended : (g : Grammar) (s : List Symbol) (cs : List Class) (o : Option (List Symbol)) → run g (Some s) cs ≡ o → ends g o ≡ true → Spells g s cs
ended g s cs None e h = let bad : false ≡ true = h in cc
ended g s cs (Some t) e h =
    let r = run_sound g (Some s) cs [] t e (empties_spells g t h) in
    let is : r.0 ≡ s = cc in
    subst (λ u. Spells g s u) (append-nil cs) (subst (λ u. Spells g u (cs ++ [])) is r.1.1)

pub sample_spells : (p : Part) → Spells forms (Goes p ∷ []) (sample p)
sample_spells p = ended forms (Goes p ∷ []) (sample p) (run forms (Some (Goes p ∷ [])) (sample p)) refl (sampled p)

-- all symbols spell something
pub alive : (s : List Symbol) → (cs : List Class) × Spells forms s cs
alive [] = ([], none)
alive (Word k ∷ s) = let a = alive s in let m = some_of k in (m.0 ∷ a.0, word m.1 a.1)
alive (Goes p ∷ s) = let a = alive s in (sample p ++ a.0, append_spells s a.0 (sample_spells p) a.1)

-- the verdicts
start_fits : (p : Part) → Fits forms follow (Goes p ∷ [])
start_fits p = ((λ c i. let bad : false ≡ true = i in cc), tt)

start_is : (p : Part) (t : List Symbol) (cs : List Class) → Some (Goes p ∷ []) ≡ Some t → Spells forms t cs → Spells forms (Goes p ∷ []) cs
start_is p t cs e d = let is : t ≡ Goes p ∷ [] = cc in subst (λ u. Spells forms u cs) is d

pub viable : (p : Part) (cs : List Class) (s : List Symbol) → run forms (Some (Goes p ∷ [])) cs ≡ Some s → IsViable forms (Goes p ∷ []) cs
viable p cs s e =
    let a = alive s in let r = run_sound forms (Some (Goes p ∷ [])) cs a.0 s e a.1 in
    (a.0, start_is p r.0 (cs ++ a.0) r.1.0 r.1.1)

pub whole : (p : Part) (cs : List Class) (s : List Symbol) → run forms (Some (Goes p ∷ [])) cs ≡ Some s → empties forms s ≡ true → Spells forms (Goes p ∷ []) cs
whole p cs s e h =
    let r = run_sound forms (Some (Goes p ∷ [])) cs [] s e (empties_spells forms s h) in
    subst (λ u. Spells forms (Goes p ∷ []) u) (append-nil cs) (start_is p r.0 (cs ++ []) r.1.0 r.1.1)

pub not_whole : (p : Part) (cs : List Class) (s : List Symbol) → run forms (Some (Goes p ∷ [])) cs ≡ Some s → empties forms s ≡ false → Spells forms (Goes p ∷ []) cs → ⊥
not_whole p cs s e h d =
    elim (run_complete (Goes p ∷ []) cs [] (subst (λ u. Spells forms (Goes p ∷ []) u) (sym (append-nil cs)) d) (start_fits p)) [
      | ran t r d' f ↦ (let same : s ≡ t = cc in let yes : empties forms s ≡ true = ap (empties forms) same ∙ spells_empties (λ q. good_made forms follow q (good q)) d' in let bad : false ≡ true = sym h ∙ yes in cc)
    ]

pub not_viable : (p : Part) (cs : List Class) (c : Class) (s : List Symbol) → run forms (Some (Goes p ∷ [])) cs ≡ Some s → step forms s c ≡ None → IsViable forms (Goes p ∷ []) (cs ++ c ∷ []) → ⊥
not_viable p cs c s e h v =
    elim (run_complete (Goes p ∷ []) (cs ++ c ∷ []) v.0 v.1 (start_fits p)) [
      | ran t r d' f ↦ (let gone : run forms (Some (Goes p ∷ [])) (cs ++ c ∷ []) ≡ None = run_more forms (Some (Goes p ∷ [])) cs (c ∷ []) ∙ ap (λ o. next forms o c) e ∙ h in let bad : Some t ≡ None = sym r ∙ gone in cc)
    ]

both_and : (a b p : Bool) → a ≡ b → (a && (p && true)) ≡ (p && b)
both_and true b true e = e
both_and true b false e = refl
both_and false b true e = e
both_and false b false e = refl

-- symbols may all be passed in either order
pub empties_reverse : (g : Grammar) (s : List Symbol) → empties g (reverse s) ≡ empties g s
empties_reverse g [] = refl
empties_reverse g (x ∷ s) =
    ap (empties g) (reverse-append (x ∷ []) s) ∙ list_all-append (passes g) (reverse s) (x ∷ []) ∙ both_and (empties g (reverse s)) (empties g s) (passes g x) (empties_reverse g s)

-- the loop's end
module _ (start : Part) (classes : List Class) where
  pub refused_at : (k : ℕ) (d : Class) (s : List Symbol) → k < length classes → run forms (Some (Goes start ∷ [])) (take k classes) ≡ Some s → step forms s (get_or classes k d) ≡ None → (k < length classes) × IsViable forms (Goes start ∷ []) (take k classes) × (IsViable forms (Goes start ∷ []) (take (suc k) classes) → ⊥)
  refused_at k d s h e n = (h, viable start (take k classes) s e, (λ v. not_viable start (take k classes) (get_or classes k d) s e n (subst (λ u. IsViable forms (Goes start ∷ []) u) (take-suc classes k d h) v)))

  pub went_on : (k : ℕ) (d : Class) (s s' : List Symbol) → k < length classes → run forms (Some (Goes start ∷ [])) (take k classes) ≡ Some s → step forms s (get_or classes k d) ≡ Some s' → run forms (Some (Goes start ∷ [])) (take (k + 1) classes) ≡ Some s'
  went_on k d s s' h e n =
      ap (run forms (Some (Goes start ∷ []))) (take_more classes k d h) ∙ run_more forms (Some (Goes start ∷ [])) (take k classes) (get_or classes k d ∷ []) ∙ ap (λ o. next forms o (get_or classes k d)) e ∙ n

  pub all_taken : (k : ℕ) (s : List Symbol) → length classes ≤ k → run forms (Some (Goes start ∷ [])) (take k classes) ≡ Some s → run forms (Some (Goes start ∷ [])) classes ≡ Some s
  all_taken k s h e = ap (run forms (Some (Goes start ∷ []))) (sym (take_all k classes h)) ∙ e
