-- What symbols are not both of.
use Rattle.std.proofs.Common.{◌≡◌, ◌≤◌, refl, arith}
use Rattle.std.specs.Prelude.{true, false}
use Rattle.iv_grammar.specs.declared.sign.Sign.{Sign}
use Rattle.iv_grammar.specs.declared.sign.Sign.TheVariants as sign
use Rattle.iv_grammar.specs.declared.cutting.Token.TheVariants as token
use Rattle.iv_grammar.specs.Tree.{is_colons, is_infix, is_prefix, is_binder, left_of, own_of, begins_argument}

-- the left place of an infix symbol demands at least its own priority
pub left_least : (s : Sign) → is_infix s ≡ true → own_of s ≤ left_of s
left_least sign.Open h = cc
left_least sign.Close h = cc
left_least sign.Colons h = cc
left_least sign.Lambda h = cc
left_least sign.Dot h = cc
left_least sign.Equals h = omega arith
left_least sign.Implies h = omega arith
left_least sign.OpenPremises h = cc
left_least sign.ClosePremises h = cc
left_least sign.Semicolon h = cc
left_least sign.All h = cc
left_least sign.Arrow h = cc
left_least sign.OpenTypes h = cc
left_least sign.CloseTypes h = cc
left_least sign.Comma h = cc
left_least sign.Prop h = cc
left_least sign.Dummy h = cc
left_least sign.Dots h = cc
left_least (sign.Plain i) h = cc
left_least (sign.Prefix i a b) h = cc
left_least (sign.Infix i a) h = omega arith
left_least (sign.Infixl i a) h = omega arith
left_least (sign.Infixr i a) h = omega arith
left_least (sign.Binder i a) h = cc

pub infix_no_colons : (s : Sign) → is_infix s ≡ true → is_colons s ≡ false
infix_no_colons sign.Open h = refl
infix_no_colons sign.Close h = refl
infix_no_colons sign.Colons h = cc
infix_no_colons sign.Lambda h = refl
infix_no_colons sign.Dot h = refl
infix_no_colons sign.Equals h = refl
infix_no_colons sign.Implies h = refl
infix_no_colons sign.OpenPremises h = refl
infix_no_colons sign.ClosePremises h = refl
infix_no_colons sign.Semicolon h = refl
infix_no_colons sign.All h = refl
infix_no_colons sign.Arrow h = refl
infix_no_colons sign.OpenTypes h = refl
infix_no_colons sign.CloseTypes h = refl
infix_no_colons sign.Comma h = refl
infix_no_colons sign.Prop h = refl
infix_no_colons sign.Dummy h = refl
infix_no_colons sign.Dots h = refl
infix_no_colons (sign.Plain i) h = refl
infix_no_colons (sign.Prefix i a b) h = refl
infix_no_colons (sign.Infix i a) h = refl
infix_no_colons (sign.Infixl i a) h = refl
infix_no_colons (sign.Infixr i a) h = refl
infix_no_colons (sign.Binder i a) h = refl

pub binder_no_prefix : (s : Sign) → is_binder s ≡ true → is_prefix s ≡ false
binder_no_prefix sign.Open h = refl
binder_no_prefix sign.Close h = refl
binder_no_prefix sign.Colons h = refl
binder_no_prefix sign.Lambda h = refl
binder_no_prefix sign.Dot h = refl
binder_no_prefix sign.Equals h = refl
binder_no_prefix sign.Implies h = refl
binder_no_prefix sign.OpenPremises h = refl
binder_no_prefix sign.ClosePremises h = refl
binder_no_prefix sign.Semicolon h = refl
binder_no_prefix sign.All h = refl
binder_no_prefix sign.Arrow h = refl
binder_no_prefix sign.OpenTypes h = refl
binder_no_prefix sign.CloseTypes h = refl
binder_no_prefix sign.Comma h = refl
binder_no_prefix sign.Prop h = cc
binder_no_prefix sign.Dummy h = refl
binder_no_prefix sign.Dots h = refl
binder_no_prefix (sign.Plain i) h = refl
binder_no_prefix (sign.Prefix i a b) h = cc
binder_no_prefix (sign.Infix i a) h = refl
binder_no_prefix (sign.Infixl i a) h = refl
binder_no_prefix (sign.Infixr i a) h = refl
binder_no_prefix (sign.Binder i a) h = refl

-- a token that begins an argument is neither infix nor `::`
pub argument_no_infix : (s : Sign) → begins_argument (token.Sign s) ≡ true → is_infix s ≡ false
argument_no_infix sign.Open h = refl
argument_no_infix sign.Close h = refl
argument_no_infix sign.Colons h = refl
argument_no_infix sign.Lambda h = refl
argument_no_infix sign.Dot h = refl
argument_no_infix sign.Equals h = cc
argument_no_infix sign.Implies h = cc
argument_no_infix sign.OpenPremises h = refl
argument_no_infix sign.ClosePremises h = refl
argument_no_infix sign.Semicolon h = refl
argument_no_infix sign.All h = refl
argument_no_infix sign.Arrow h = refl
argument_no_infix sign.OpenTypes h = refl
argument_no_infix sign.CloseTypes h = refl
argument_no_infix sign.Comma h = refl
argument_no_infix sign.Prop h = refl
argument_no_infix sign.Dummy h = refl
argument_no_infix sign.Dots h = refl
argument_no_infix (sign.Plain i) h = refl
argument_no_infix (sign.Prefix i a b) h = refl
argument_no_infix (sign.Infix i a) h = cc
argument_no_infix (sign.Infixl i a) h = cc
argument_no_infix (sign.Infixr i a) h = cc
argument_no_infix (sign.Binder i a) h = refl

pub argument_no_colons : (s : Sign) → begins_argument (token.Sign s) ≡ true → is_colons s ≡ false
argument_no_colons sign.Open h = refl
argument_no_colons sign.Close h = refl
argument_no_colons sign.Colons h = cc
argument_no_colons sign.Lambda h = refl
argument_no_colons sign.Dot h = refl
argument_no_colons sign.Equals h = refl
argument_no_colons sign.Implies h = refl
argument_no_colons sign.OpenPremises h = refl
argument_no_colons sign.ClosePremises h = refl
argument_no_colons sign.Semicolon h = refl
argument_no_colons sign.All h = refl
argument_no_colons sign.Arrow h = refl
argument_no_colons sign.OpenTypes h = refl
argument_no_colons sign.CloseTypes h = refl
argument_no_colons sign.Comma h = refl
argument_no_colons sign.Prop h = refl
argument_no_colons sign.Dummy h = refl
argument_no_colons sign.Dots h = refl
argument_no_colons (sign.Plain i) h = refl
argument_no_colons (sign.Prefix i a b) h = refl
argument_no_colons (sign.Infix i a) h = refl
argument_no_colons (sign.Infixl i a) h = refl
argument_no_colons (sign.Infixr i a) h = refl
argument_no_colons (sign.Binder i a) h = refl

pub colons_is : (s : Sign) → is_colons s ≡ true → s ≡ sign.Colons
colons_is sign.Open h = cc
colons_is sign.Close h = cc
colons_is sign.Colons h = refl
colons_is sign.Lambda h = cc
colons_is sign.Dot h = cc
colons_is sign.Equals h = cc
colons_is sign.Implies h = cc
colons_is sign.OpenPremises h = cc
colons_is sign.ClosePremises h = cc
colons_is sign.Semicolon h = cc
colons_is sign.All h = cc
colons_is sign.Arrow h = cc
colons_is sign.OpenTypes h = cc
colons_is sign.CloseTypes h = cc
colons_is sign.Comma h = cc
colons_is sign.Prop h = cc
colons_is sign.Dummy h = cc
colons_is sign.Dots h = cc
colons_is (sign.Plain i) h = cc
colons_is (sign.Prefix i a b) h = cc
colons_is (sign.Infix i a) h = cc
colons_is (sign.Infixl i a) h = cc
colons_is (sign.Infixr i a) h = cc
colons_is (sign.Binder i a) h = cc
