-- Worked examples: what is read of some tokens.
use Rattle.std.proofs.Common.{◌≡◌, ℕ, [], ◌∷◌, refl}
use Rattle.std.specs.Prelude.{None, Some}
use Rattle.iv_grammar.specs.declared.sign.Sign.{Sign}
use Rattle.iv_grammar.specs.declared.sign.Sign.TheVariants as sign
use Rattle.iv_grammar.specs.declared.cutting.Token.{Token}
use Rattle.iv_grammar.specs.declared.cutting.Token.TheVariants as token
use Rattle.iv_grammar.specs.TypeTree.{con, paren, round, more, tuple, arrow, ident}
use Rattle.iv_grammar.specs.Tree.{Tree, atom, paren as closed, apply, prefixed, typed, binary, bound, premise, premises, rule, bare, depth}
use Rattle.iv_grammar.proofs.Reading.{Read, begin, read}
use Rattle.iv_grammar.proofs.TypeReading as types

abbrev id : ℕ → Token
id x = ident (x ∷ [])

abbrev a : Tree
a = atom (id 97)

abbrev b : Tree
b = atom (id 98)

abbrev c : Tree
c = atom (id 99)

abbrev is : Tree → Read
is t = Some (t, [])

abbrev sign_token : Sign → Token
sign_token s = token.Sign s

-- an infix symbol that groups to the left, one that groups to the right, and a prefix symbol `[2] 20`
abbrev plus : Sign
plus = sign.Infixl 0 65

abbrev cons : Sign
cons = sign.Infixr 1 65

abbrev minus : Sign
minus = sign.Prefix 2 2 20

-- a ==> b ==> c
chain : read 10 (begin 0) (id 97 ∷ sign_token sign.Implies ∷ id 98 ∷ sign_token sign.Implies ∷ id 99 ∷ []) ≡ is (binary a sign.Implies (binary b sign.Implies c))
chain = refl

-- a + b + c
sum : read 10 (begin 0) (id 97 ∷ sign_token plus ∷ id 98 ∷ sign_token plus ∷ id 99 ∷ []) ≡ is (binary (binary a plus b) plus c)
sum = refl

-- a # b # c
list : read 10 (begin 0) (id 97 ∷ sign_token cons ∷ id 98 ∷ sign_token cons ∷ id 99 ∷ []) ≡ is (binary a cons (binary b cons c))
list = refl

-- a == b == c is none
no_chain : read 10 (begin 0) (id 97 ∷ sign_token sign.Equals ∷ id 98 ∷ sign_token sign.Equals ∷ id 99 ∷ []) ≡ Some (binary a sign.Equals b, sign_token sign.Equals ∷ id 99 ∷ [])
no_chain = refl

-- - x :: t is - (x :: t)
constrained : read 8 (begin 0) (sign_token minus ∷ id 97 ∷ sign_token sign.Colons ∷ id 98 ∷ []) ≡ is (prefixed minus (typed a (con (98 ∷ []))))
constrained = refl

-- f a b is one level; f (g a) has an application, parentheses and an application
application : read 6 (begin 0) (id 97 ∷ id 98 ∷ id 99 ∷ []) ≡ is (apply (apply a b) c)
application = refl

one_level : depth (apply (apply a b) c) ≡ 1
one_level = refl

three_levels : depth (apply a (closed (apply b c))) ≡ 3
three_levels = refl

-- %x. a b
lambda : read 10 (begin 0) (sign_token sign.Lambda ∷ id 120 ∷ sign_token sign.Dot ∷ id 97 ∷ id 98 ∷ []) ≡ is (bound sign.Lambda (bare (120 ∷ []) ∷ []) (apply a b))
lambda = refl

-- %. a is none
no_names : read 6 (begin 0) (sign_token sign.Lambda ∷ sign_token sign.Dot ∷ id 97 ∷ []) ≡ None
no_names = refl

-- [| a; b |] ==> c
brackets : read 16 (begin 0) (sign_token sign.OpenPremises ∷ id 97 ∷ sign_token sign.Semicolon ∷ id 98 ∷ sign_token sign.ClosePremises ∷ sign_token sign.Implies ∷ id 99 ∷ []) ≡ is (rule (premises (premise a) b) c)
brackets = refl

-- [| a; b |] is none
no_rule : read 10 (begin 0) (sign_token sign.OpenPremises ∷ id 97 ∷ sign_token sign.Semicolon ∷ id 98 ∷ sign_token sign.ClosePremises ∷ []) ≡ None
no_rule = refl

-- (a, b) c => a, and (a) is a in parentheses
pair_type : types.read 9 types.begin (sign_token sign.Open ∷ id 97 ∷ sign_token sign.Comma ∷ id 98 ∷ sign_token sign.Close ∷ id 99 ∷ sign_token sign.Arrow ∷ id 97 ∷ [])
    ≡ Some (arrow (tuple (more (round (con (97 ∷ []))) (con (98 ∷ []))) (99 ∷ [])) (con (97 ∷ [])), [])
pair_type = refl

in_parentheses : types.read 3 types.begin (sign_token sign.Open ∷ id 97 ∷ sign_token sign.Close ∷ []) ≡ Some (paren (con (97 ∷ [])), [])
in_parentheses = refl

-- (a, b) is none
no_pair : types.read 5 types.begin (sign_token sign.Open ∷ id 97 ∷ sign_token sign.Comma ∷ id 98 ∷ sign_token sign.Close ∷ []) ≡ None
no_pair = refl
