-- The words of the outer syntax with their classes. After the outer syntax of Isabelle's Reference Manual, in a profile of this project.
-- Written by tools/outer_words.py.
use Rattle.std.specs.Prelude.{ℕ, List, [], ◌∷◌, map, codes}
use Rattle.iv_recogniser.specs.declared.class.Class.{Class}
use Rattle.iv_recogniser.specs.declared.class.Class.TheVariants as class
use Rattle.iv_outer.specs.declared.words.Word.{Word}

-- a text with its class
abbrev pub Entry : Type 0
Entry = List ℕ × Class

-- the entries without their references
abbrev pub plain : List Word → List Entry
plain ws = map (λ w. (w.text.now, w.class)) ws

-- identifiers that are words of their own
abbrev pub words : List Entry
words =
    (codes "theory", class.Theory) ∷
    (codes "end", class.End) ∷
    (codes "chapter", class.Chapter) ∷
    (codes "section", class.Section) ∷
    (codes "subsection", class.Subsection) ∷
    (codes "subsubsection", class.Subsubsection) ∷
    (codes "paragraph", class.Paragraph) ∷
    (codes "subparagraph", class.Subparagraph) ∷
    (codes "text", class.Prose) ∷
    (codes "txt", class.Txt) ∷
    (codes "typedecl", class.Typedecl) ∷
    (codes "consts", class.Consts) ∷
    (codes "judgment", class.Judgment) ∷
    (codes "axiomatization", class.Axiomatization) ∷
    (codes "lemmas", class.Lemmas) ∷
    (codes "declare", class.Declare) ∷
    (codes "named_theorems", class.NamedTheorems) ∷
    (codes "method", class.Method) ∷
    (codes "lemma", class.Lemma) ∷
    (codes "theorem", class.Theorem) ∷
    (codes "corollary", class.Corollary) ∷
    (codes "proposition", class.Proposition) ∷
    (codes "fix", class.Fix) ∷
    (codes "assume", class.Assume) ∷
    (codes "presume", class.Presume) ∷
    (codes "define", class.Define) ∷
    (codes "note", class.Note) ∷
    (codes "let", class.Let) ∷
    (codes "next", class.Next) ∷
    (codes "then", class.Then) ∷
    (codes "from", class.From) ∷
    (codes "with", class.With) ∷
    (codes "have", class.Have) ∷
    (codes "show", class.Show) ∷
    (codes "hence", class.Hence) ∷
    (codes "thus", class.Thus) ∷
    (codes "obtain", class.Obtain) ∷
    (codes "also", class.Also) ∷
    (codes "moreover", class.Moreover) ∷
    (codes "finally", class.Finally) ∷
    (codes "ultimately", class.Ultimately) ∷
    (codes "apply", class.Apply) ∷
    (codes "using", class.Using) ∷
    (codes "defer", class.Defer) ∷
    (codes "prefer", class.Prefer) ∷
    (codes "back", class.Back) ∷
    (codes "proof", class.Proof) ∷
    (codes "qed", class.Qed) ∷
    (codes "by", class.By) ∷
    (codes "done", class.Done) ∷
    (codes "oops", class.Oops) ∷
    (codes "and", class.And) ∷
    (codes "assumes", class.Assumes) ∷
    (codes "begin", class.Begin) ∷
    (codes "declares", class.Declares) ∷
    (codes "fixes", class.Fixes) ∷
    (codes "for", class.For) ∷
    (codes "imports", class.Imports) ∷
    (codes "in", class.In) ∷
    (codes "is", class.Is) ∷
    (codes "methods", class.Methods) ∷
    (codes "shows", class.Shows) ∷
    (codes "uses", class.Uses) ∷
    (codes "where", class.Where) ∷
    (codes "OF", class.OfFacts) ∷
    (codes "THEN", class.ThenFact) ∷
    (codes "of", class.OfTerms) ∷
    (codes "infix", class.Infix) ∷
    (codes "infixl", class.Infixl) ∷
    (codes "infixr", class.Infixr) ∷
    (codes "binder", class.Binder) ∷
    (codes "rule", class.Rule) ∷
    (codes "erule", class.Rule) ∷
    (codes "drule", class.Rule) ∷
    (codes "frule", class.Rule) ∷
    (codes "intro", class.Rule) ∷
    (codes "elim", class.Rule) ∷
    (codes "match", class.Match) ∷
    (codes "premises", class.Premises) ∷
    (codes "conclusion", class.Conclusion) ∷
    (codes "cut", class.Cut) ∷
    []

-- delimiters
abbrev pub delimiters : List Entry
delimiters =
    (codes "(", class.Open) ∷
    (codes ")", class.Close) ∷
    (codes "[", class.Left) ∷
    (codes "]", class.Right) ∷
    (codes ",", class.Comma) ∷
    (codes ";", class.Semicolon) ∷
    (codes ":", class.Colon) ∷
    (codes "::", class.Colons) ∷
    (codes "{", class.LeftBrace) ∷
    (codes "}", class.RightBrace) ∷
    (codes ".", class.Dot) ∷
    (codes "..", class.Dots) ∷
    []

-- symbols that a form has
abbrev pub signs : List Entry
signs =
    (codes "=", class.Equal) ∷
    (codes "=>", class.Arrow) ∷
    (codes "|", class.Bar) ∷
    (codes "\\<bar>", class.CaseBar) ∷
    (codes "+", class.Plus) ∷
    (codes "?", class.Question) ∷
    (codes "!", class.Exclamation) ∷
    (codes "-", class.Minus) ∷
    (codes "_", class.Dummy) ∷
    []
