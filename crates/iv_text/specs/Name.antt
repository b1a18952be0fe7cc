-- Names, and names as keys of a hash map. Of this project.
use Rattle.std.specs.Prelude.{◌≡◌, Bool, true, ◌&&◌, ◌++◌, nat_eq}
use Rattle.std.specs.Cmp.{IsEquivalence, nat_eq_equiv, on_equiv, and_equiv}
use Rattle.std.specs.Cmp.Lexicographic.{nat_list_eq_equiv}
use Rattle.std.specs.Hash.{HashWrites, slice, char, u32}
use Rattle.std.specs.Str.{bytes_eq}
use Rattle.std.proofs.Common.{eqb}
use Rattle.std.proofs.lemmas.Bool.{and_parts}
use Rattle.std.proofs.lemmas.Bool.Decides.{Decides-eqb}
use Rattle.std.proofs.lemmas.Slice.Eq.{bytes_eq-Decides}
use Rattle.iv_text.specs.declared.name.Name.{Name}

-- whether two names are the same
abbrev pub same_name : Name → Name → Bool
same_name x y = bytes_eq x.text y.text && nat_eq x.number y.number

-- what a hash is made of
abbrev pub name_input : Name → HashWrites
name_input x = slice char x.text ++ u32 x.number

-- sameness is an equivalence, and names that are the same have one hash
pub same_name-equiv : IsEquivalence same_name
same_name-equiv = and_equiv (on_equiv (λ x. x.text) nat_list_eq_equiv) (on_equiv (λ x. x.number) nat_eq_equiv)

pub same_name-input : (x y : Name) → same_name x y ≡ true → name_input x ≡ name_input y
same_name-input x y h =
    let p : (bytes_eq x.text y.text ≡ true) × (eqb x.number y.number ≡ true) = and_parts _ _ h in
    λ i. name_input (record { text = (bytes_eq-Decides x.text y.text).0 p.0 i; number = (Decides-eqb x.number y.number).0 p.1 i })
