use Rattle.std.proofs.Common.{◌∙◌, length, sym, subst, arith, ap}
use Rattle.iv_lex.specs.Place.{AreInOrder}
use Rattle.iv_outer.specs.Piece.{pieces_of}
use Rattle.iv_statement.proofs.TokenOrder.{count_of_tokens}
use Rattle.iv_statement.proofs.CommandSteps.{runs_in, each_built, each_only, in_order, in_document, of_document, of_pieces}
use Rattle.iv_statement.proofs.commands.commands.Goals as goal

pub split-requires : goal.split-requires
split-requires c =
    let few = count_of_tokens _ _ _ c.in_ok-all.ensures.in_order in
    rw c.as_slice.ensures.value (omega (arith, few, c.requires.small))

pub commands_in-requires : goal.commands_in-requires
commands_in-requires c =
    runs_in _ _ (c.as_slice-3.ensures.value ∙ c.in_ok-pieces.ensures.ok ∙ ap pieces_of (c.as_slice.ensures.value ∙ sym c.as_slice-2.ensures.value))

pub returns-clause-commands : goal.returns-clause-commands
returns-clause-commands c =
    let pieces = c.as_slice-3.ensures.value ∙ c.in_ok-pieces.ensures.ok ∙ ap pieces_of (c.as_slice.ensures.value ∙ sym c.as_slice-2.ensures.value) in
    each_built _ _ (of_document _ _ _ _ (c.as_slice-2.ensures.value ∙ c.in_ok-all.ensures.ok) pieces c.in_ok-found.ensures.read)

pub returns-clause-only : goal.returns-clause-only
returns-clause-only c = λ cs is.
    let pieces = c.as_slice-3.ensures.value ∙ c.in_ok-pieces.ensures.ok ∙ ap pieces_of (c.as_slice.ensures.value ∙ sym c.as_slice-2.ensures.value) in
    each_only _ _ cs (of_document _ _ _ _ (c.as_slice-2.ensures.value ∙ c.in_ok-all.ensures.ok) pieces c.in_ok-found.ensures.read) is

pub returns-clause-ordered : goal.returns-clause-ordered
returns-clause-ordered c =
    let pieces = c.as_slice-3.ensures.value ∙ c.in_ok-pieces.ensures.ok ∙ ap pieces_of (c.as_slice.ensures.value ∙ sym c.as_slice-2.ensures.value) in
    in_order 0 (length c.args.document.now) _
    (of_pieces _ _ _ _ (c.pieces_are_joined.ensures _) pieces (subst (AreInOrder 0 (length c.args.document.now)) (sym c.as_slice-2.ensures.value) c.in_ok-all.ensures.in_order) c.in_ok-found.ensures.read)

pub returns-clause-inside : goal.returns-clause-inside
returns-clause-inside c =
    let pieces = c.as_slice-3.ensures.value ∙ c.in_ok-pieces.ensures.ok ∙ ap pieces_of (c.as_slice.ensures.value ∙ sym c.as_slice-2.ensures.value) in
    in_document c.args.document.now 0 _
    (of_pieces _ _ _ _ (c.pieces_are_joined.ensures _) pieces (subst (AreInOrder 0 (length c.args.document.now)) (sym c.as_slice-2.ensures.value) c.in_ok-all.ensures.in_order) c.in_ok-found.ensures.read)
