-- The command of the program.
use Rattle.std.proofs.Common.{inl, inr, ◌≡◌, ◌∙◌, true, List, [], ◌∷◌, codes, refl, sym}
use Rattle.std.specs.Prelude.{◌≢◌, Option, None, Some, false, Result, Err, IfOk}
use Rattle.clap.specs.declared.error.kind.ErrorKind.{ErrorKind}
use Rattle.clap.specs.declared.error.kind.ErrorKind.TheVariants as kind
use Rattle.clap.specs.declared.error.Error.{Error}
use Rattle.clap.specs.Words.{HasKind, IsAmong, Kinds, Row, Text, fault_of, first_of, is_simple, is_simple_and_free, kind_of, matches_of}
use Rattle.clap.proofs.OnLiterals.{clap_on_literals}
use Rattle.std.specs.Option.{ok_or}
use Rattle.iv_words.specs.declared.words.Task.{Task}
use Rattle.iv_words.specs.declared.words.BadWords.{BadWords}
use Rattle.iv_words.specs.declared.words.BadWords.TheVariants.{Usage}
use Rattle.iv_words.specs.Words.{isarvm, mode_argument, are_none, task_named, task_on}

pub simple : is_simple isarvm ≡ true
unfolding isarvm mode_argument clap_on_literals
simple = refl

pub simple_and_free : is_simple_and_free isarvm ≡ true
unfolding isarvm mode_argument clap_on_literals
simple_and_free = refl

-- one of some kinds: there is one
some_kind : (k : ErrorKind) (ks : Kinds) → IsAmong k ks → are_none ks ≡ false
some_kind k [] h = absurd h
some_kind k (x ∷ xs) h = refl

-- words that `clap` refuses for another reason than want of memory ask for nothing
pub faulty : (line : List Text) (e : Error) (kinds : Kinds) → kinds ≡ fault_of isarvm line → HasKind kinds e → kind_of e ≢ kind.OutOfMemory → task_on line ≡ None
faulty line e kinds same (inl memory) other = absurd (other memory)
faulty line e kinds same (inr among) other = rw (← same, some_kind _ _ among) refl

-- words that it takes ask for the task of their mode
pub taken : (line : List Text) (kinds : Kinds) (mode : Option Text) (rows : List Row) → kinds ≡ fault_of isarvm line → kinds ≡ [] → mode ≡ first_of (codes "MODE") rows → rows ≡ matches_of isarvm line
    → task_on line ≡ task_named mode
taken line kinds mode rows same none first all = rw (← same, none, ← all, ← first) refl

-- a task, or none, as an answer
abbrev pub failed : BadWords → Result Task BadWords
failed b = Err b

pub failed_by : (a b : BadWords) → failed a ≡ failed b → a ≡ b
failed_by a b e = cc

pub task_answered : (asked named : Option Task) (r : Result Task BadWords) → asked ≡ named → r ≡ ok_or named Usage → IfOk r (λ t. asked ≡ Some t)
task_answered asked None r e is = rw is tt
task_answered asked (Some t) r e is = rw is e

pub task_missing : (asked named : Option Task) (r : Result Task BadWords) → asked ≡ named → r ≡ ok_or named Usage → r ≡ failed Usage → asked ≡ None
task_missing asked None r e is h = e
task_missing asked (Some t) r e is h = absurd (let bad : ok_or (Some t) Usage ≡ failed Usage = sym is ∙ h in cc)
