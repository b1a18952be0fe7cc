-- Reports of some theorems and commands, one after another.
use Rattle.std.proofs.Common.{◌≡◌, ◌<◌, ◌≤◌, ◌+◌, ℕ, zero, suc, Bool, true, false, ◌&&◌, ◌==◌, if◌then◌else◌, drop, List, [], ◌∷◌, ◌++◌, map, length, take, get_or, refl, sym, ap, ◌∙◌, subst, ◌⊎◌, inl, inr, append_assoc, append-nil, arith}
use Rattle.std.specs.Prelude.{Option, Some, encode_utf8, encode_utf8_all}
use Rattle.std.proofs.lemmas.Bool.Decides.{nat_tests}
use Rattle.std.specs.List.{flat_map}
use Rattle.std.proofs.lemmas.List.{take_more, drop_all, take-append-drop}
use Rattle.iv_kernel.specs.declared.theorems.NamedThm.{NamedThm}
use Rattle.iv_run.specs.Sound.{seen}
use Rattle.iv_statement.specs.declared.commands.Command.{Command}
use Rattle.iv_run.specs.Machine.{Machine, executed, next}
use Rattle.iv_words.specs.declared.words.Task.{Task}
use Rattle.iv_run.specs.Report.{count_line}
use Rattle.iv_run.specs.Run.{is_ended, counts_behind, line_of_finished, lines_of, report_from, state_behind, all_accepted, is_accepted, refusals_in, IsFrontOf}
use Rattle.iv_run.proofs.Derivable.{finished-grows}
use Rattle.iv_run.proofs.Lists.{drop-item}

pub encoded-append : (xs ys : List ℕ) → encode_utf8_all (xs ++ ys) ≡ encode_utf8_all xs ++ encode_utf8_all ys
encoded-append [] ys = refl
encoded-append (x ∷ xs) ys = ap (λ t. encode_utf8 x ++ t) (encoded-append xs ys) ∙ sym (append_assoc (encode_utf8 x) (encode_utf8_all xs) (encode_utf8_all ys))

pub lines-push : (ns : List NamedThm) (n : NamedThm) → flat_map line_of_finished (map seen (ns ++ n ∷ [])) ≡ flat_map line_of_finished (map seen ns) ++ line_of_finished (seen n)
lines-push [] n = append-nil (line_of_finished (seen n))
lines-push (m ∷ ms) n =
    ap (λ t. line_of_finished (seen m) ++ t) (lines-push ms n)
    ∙ sym (append_assoc (line_of_finished (seen m)) (flat_map line_of_finished (map seen ms)) (line_of_finished (seen n)))

-- one theorem more
pub bytes-push : (ns : List NamedThm) (i : ℕ) (n : NamedThm) (old line : List ℕ) → i < length ns → n ≡ get_or ns i n
    → old ≡ encode_utf8_all (flat_map line_of_finished (map seen (take i ns))) → line ≡ encode_utf8_all (line_of_finished (seen n))
    → old ++ line ≡ encode_utf8_all (flat_map line_of_finished (map seen (take (i + 1) ns)))
bytes-push ns i n old line lt is e f =
    let t : take (i + 1) ns ≡ take i ns ++ n ∷ [] = take_more ns i n lt ∙ ap (λ x. take i ns ++ x ∷ []) (sym is) in
    (λ k. e k ++ f k) ∙ sym (encoded-append (flat_map line_of_finished (map seen (take i ns))) (line_of_finished (seen n)))
    ∙ ap encode_utf8_all (sym (lines-push (take i ns) n)) ∙ ap (λ xs. encode_utf8_all (flat_map line_of_finished (map seen xs))) (sym t)

pub drop-seen : (n : ℕ) (ns : List NamedThm) → map seen (drop n ns) ≡ drop n (map seen ns)
drop-seen zero ns = refl
drop-seen (suc n) [] = refl
drop-seen (suc n) (m ∷ ms) = drop-seen n ms

pub none-new : (n : ℕ) (ns : List NamedThm) → length ns ≤ n → [] ≡ encode_utf8_all (flat_map line_of_finished (drop n (map seen ns)))
none-new n ns le =
    let e : drop n (map seen ns) ≡ [] = sym (drop-seen n ns) ∙ ap (map seen) (drop_all n ns le) in
    ap (λ fs. encode_utf8_all (flat_map line_of_finished fs)) (sym e)

-- the command at a place, and the ones behind it
pub report-step : (document : List ℕ) (m : Machine) (cs : List Command) (i : ℕ) (c : Command) → i < length cs → c ≡ get_or cs i c
    → report_from document m (drop i cs) ≡ lines_of document c m (executed c m) ++ report_from document (next c m) (drop (i + 1) cs)
unfolding report_from
report-step document m cs i c lt is = rw (drop-item cs c i (omega arith) is)

pub state-step : (m : Machine) (cs : List Command) (i : ℕ) (c : Command) → i < length cs → c ≡ get_or cs i c
    → state_behind m (drop i cs) ≡ state_behind (next c m) (drop (i + 1) cs)
unfolding state_behind
state-step m cs i c lt is = rw (drop-item cs c i (omega arith) is)

pub accepted-step : (m : Machine) (cs : List Command) (i : ℕ) (c : Command) → i < length cs → c ≡ get_or cs i c
    → all_accepted m (drop i cs) ≡ (is_accepted (executed c m) && all_accepted (next c m) (drop (i + 1) cs))
unfolding all_accepted
accepted-step m cs i c lt is = rw (drop-item cs c i (omega arith) is)

-- behind the last command
pub report-end : (document : List ℕ) (m : Machine) (cs : List Command) (i : ℕ) → length cs ≤ i → report_from document m (drop i cs) ≡ []
unfolding report_from
report-end document m cs i le = rw (drop_all i cs le)

pub state-end : (m : Machine) (cs : List Command) (i : ℕ) → length cs ≤ i → state_behind m (drop i cs) ≡ m
unfolding state_behind
state-end m cs i le = rw (drop_all i cs le)

pub accepted-end : (m : Machine) (cs : List Command) (i : ℕ) → length cs ≤ i → all_accepted m (drop i cs) ≡ true
unfolding all_accepted
accepted-end m cs i le = rw (drop_all i cs le)

pub and-true : (a : Bool) → (a && true) ≡ a
and-true true = refl
and-true false = refl

pub and-regroup : (a b c : Bool) → (a && (b && c)) ≡ ((a && b) && c)
and-regroup true b c = refl
and-regroup false b c = refl

-- what was told, and one command's lines more
pub told-more : (w told lines bytes : List ℕ) → bytes ≡ encode_utf8_all lines → ((w ++ encode_utf8_all told) ++ bytes) ≡ (w ++ encode_utf8_all (told ++ lines))
told-more w told lines bytes e =
    append_assoc w (encode_utf8_all told) bytes ∙ ap (λ t. w ++ (encode_utf8_all told ++ t)) e ∙ ap (λ t. w ++ t) (sym (encoded-append told lines))

pub report-more : (document : List ℕ) (m n : Machine) (cs : List Command) (i : ℕ) (c : Command) (told whole : List ℕ) → i < length cs → c ≡ get_or cs i c
    → told ++ report_from document m (drop i cs) ≡ whole → n ≡ next c m
    → (told ++ lines_of document c m (executed c m)) ++ report_from document n (drop (i + 1) cs) ≡ whole
report-more document m n cs i c told whole lt is e f =
    append_assoc told (lines_of document c m (executed c m)) (report_from document n (drop (i + 1) cs))
    ∙ ap (λ k. told ++ (lines_of document c m (executed c m) ++ report_from document k (drop (i + 1) cs))) f
    ∙ ap (λ t. told ++ t) (sym (report-step document m cs i c lt is)) ∙ e

-- what is told is a front part of the report
pub front-told : (told rest whole : List ℕ) → told ++ rest ≡ whole → IsFrontOf (encode_utf8_all told) (encode_utf8_all whole)
front-told told rest whole e = (encode_utf8_all rest, ap encode_utf8_all (sym e) ∙ encoded-append told rest)

pub front-part : (told lines rest whole : List ℕ) (n : ℕ) → told ++ (lines ++ rest) ≡ whole
    → IsFrontOf (encode_utf8_all told ++ take n (encode_utf8_all lines)) (encode_utf8_all whole)
front-part told lines rest whole n e = (
  drop n (encode_utf8_all lines) ++ encode_utf8_all rest,
  ap encode_utf8_all (sym e) ∙ encoded-append told (lines ++ rest) ∙ ap (λ t. encode_utf8_all told ++ t) (encoded-append lines rest)
      ∙ ap (λ t. encode_utf8_all told ++ (t ++ encode_utf8_all rest)) (sym (take-append-drop n (encode_utf8_all lines)))
      ∙ ap (λ t. encode_utf8_all told ++ t) (append_assoc (take n (encode_utf8_all lines)) (drop n (encode_utf8_all lines)) (encode_utf8_all rest))
      ∙ sym (append_assoc (encode_utf8_all told) (take n (encode_utf8_all lines)) (drop n (encode_utf8_all lines) ++ encode_utf8_all rest)),
)

-- the theorems of a run that stopped are a front part of those of the whole
pub front-stopped : (m n : Machine) (cs : List Command) (i : ℕ) (c : Command) (whole : Machine) → i < length cs → c ≡ get_or cs i c
    → state_behind m (drop i cs) ≡ whole → (n ≡ m) ⊎ (n ≡ next c m) → IsFrontOf n.finished whole.finished
front-stopped m n cs i c whole lt is e (inl f) =
    subst (λ k. IsFrontOf k.finished whole.finished) (sym f) (subst (λ k. IsFrontOf m.finished k.finished) e (finished-grows m (drop i cs)))
front-stopped m n cs i c whole lt is e (inr f) =
    subst (λ k. IsFrontOf k.finished whole.finished) (sym f)
    (subst (λ k. IsFrontOf (next c m).finished k.finished) (sym (state-step m cs i c lt is) ∙ e) (finished-grows (next c m) (drop (i + 1) cs)))

pub front-whole : {X : Type 0} (xs ys : List X) → xs ≡ ys → IsFrontOf xs ys
front-whole xs ys e = ([], sym e ∙ sym (append-nil xs))

-- one command more, and whether it is refused
pub refusals-more : (m k : Machine) (cs : List Command) (i : ℕ) (c : Command) (b : Bool) (n one whole : ℕ) → i < length cs → c ≡ get_or cs i c
    → b ≡ is_accepted (executed c m) → one ≡ (if b then 0 else 1) → n + refusals_in m (drop i cs) ≡ whole → k ≡ next c m
    → (n + one) + refusals_in k (drop (i + 1) cs) ≡ whole
unfolding refusals_in
refusals-more m k cs i c b n one whole lt is test e h state =
    let at : drop i cs ≡ c ∷ drop (i + 1) cs = drop-item cs c i (omega arith) is in
    let step : refusals_in m (drop i cs) ≡ (if b then 0 else 1) + refusals_in (next c m) (drop (i + 1) cs) = rw (at, test) refl in
    rw (state, e) (omega (arith, step, h))

pub refusals-end : (m : Machine) (cs : List Command) (i n whole : ℕ) → length cs ≤ i → n + refusals_in m (drop i cs) ≡ whole → n ≡ whole
unfolding refusals_in
refusals-end m cs i n whole le h = let none : drop i cs ≡ [] = drop_all i cs le in omega (arith, rw none at h)

-- none is refused exactly where all are accepted
pub none-refused : (m : Machine) (cs : List Command) → (refusals_in m cs == 0) ≡ all_accepted m cs
unfolding refusals_in all_accepted
none-refused m [] = refl
none-refused m (c ∷ cs) = cases (is_accepted (executed c m)) (none-refused (next c m) cs)
  where
    cases : (b : Bool) → (refusals_in (next c m) cs == 0) ≡ all_accepted (next c m) cs
        → ((if b then 0 else 1) + refusals_in (next c m) cs == 0) ≡ (b && all_accepted (next c m) cs)
    cases true h = ap (λ n. n == 0) (omega arith) ∙ h
    cases false h = grind (arith, nat_tests)

-- the line of counts of a run that is over
pub counts_are : (m k : Machine) (cs : List Command) (n : ℕ) (bytes : List ℕ) → bytes ≡ encode_utf8_all (count_line (length k.finished) n (is_ended k.stage))
    → k ≡ state_behind m cs → n ≡ refusals_in m cs → bytes ≡ encode_utf8_all (counts_behind m cs)
unfolding counts_behind
counts_are m k cs n bytes e state count = e ∙ ap (λ j. encode_utf8_all (count_line (length j.finished) n (is_ended j.stage))) state
    ∙ ap (λ j. encode_utf8_all (count_line (length (state_behind m cs).finished) j (is_ended (state_behind m cs).stage))) count

-- a front part that was told
pub front_cut : (w bytes text : List ℕ) (n : ℕ) → bytes ≡ text → IsFrontOf (take n bytes) text
front_cut w bytes text n e = (drop n bytes, sym e ∙ sym (take-append-drop n bytes))

-- a task that was asked for is the one that was asked for
pub of_task : (P : Task → Type 0) (a b : Task) (asked : Option Task) → asked ≡ Some a → asked ≡ Some b → P a → P b
of_task P a b asked d e h = let same : Some a ≡ Some b = sym d ∙ e in let eq : a ≡ b = cc in subst P eq h
