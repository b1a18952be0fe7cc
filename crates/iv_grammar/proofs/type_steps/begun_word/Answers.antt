use Rattle.std.proofs.Common.{◌∷◌, refl, arith}
use Rattle.iv_grammar.specs.declared.type_nodes.TypeForm.TheVariants as form
use Rattle.iv_grammar.specs.declared.type_nodes.Kind.TheVariants as kind
use Rattle.iv_grammar.specs.declared.type_nodes.Place.TheVariants as place
use Rattle.iv_grammar.specs.declared.cutting.Token.TheVariants as token
use Rattle.iv_grammar.specs.declared.words.Word.TheVariants as word
use Rattle.iv_grammar.specs.TypeTree.{var, con}
use Rattle.iv_grammar.specs.TypeNode.{types_of}
use Rattle.iv_grammar.proofs.TypeNodes.{got_step, atom_made, stuck_by}
use Rattle.iv_grammar.proofs.TypeSteps.{no_word}
use Rattle.iv_grammar.proofs.TypeStack.{begins_var, begins_con}
use Rattle.iv_grammar.proofs.type_steps.begun_word.Goals as goal

pub returns-in_ok-put-in-Tvar-clause-ok : goal.returns-in_ok-put-in-Tvar-clause-ok
returns-in_ok-put-in-Tvar-clause-ok c = λ xs left h.
    rw (c.in_ok-put-in-Tvar.ensures.ok, c.in_ok-put-in-Tvar.ensures.place, c.in_ok-copy-in-Tvar.ensures.ok, c.in-Tvar.is)
    (got_step c.args.trees.now.items (form.Var c.args.text.now) kind.Atom 0 xs place.Begin (token.Word word.Tvar c.args.text.now ∷ left) left
    (atom_made (types_of c.args.trees.now.items) (var c.args.text.now) 0 refl refl refl refl refl) (λ n b. begins_var n c.args.text.now left b) (omega arith) h)

pub returns-in_ok-put-in-Ident-clause-ok : goal.returns-in_ok-put-in-Ident-clause-ok
returns-in_ok-put-in-Ident-clause-ok c = λ xs left h.
    rw (c.in_ok-put-in-Ident.ensures.ok, c.in_ok-put-in-Ident.ensures.place, c.in_ok-copy-in-Ident.ensures.ok, c.in-Ident.is)
    (got_step c.args.trees.now.items (form.Con c.args.text.now) kind.Atom 0 xs place.Begin (token.Word word.Ident c.args.text.now ∷ left) left
    (atom_made (types_of c.args.trees.now.items) (con c.args.text.now) 0 refl refl refl refl refl) (λ n b. begins_con n c.args.text.now left b) (omega arith) h)

pub returns-in_default-clause-stuck : goal.returns-in_default-clause-stuck
returns-in_default-clause-stuck c = λ e xs left h.
    stuck_by c.args.trees.now.items xs place.Begin (token.Word c.args.word c.args.text.now ∷ left) (no_word c.args.word c.args.text.now left c.in_default.not-Tvar c.in_default.not-Ident)
