-- What may begin at a letter, and how many letters it takes. The forms are told apart by what stands first; each takes as many letters as it can.
use Rattle.std.specs.Prelude.{ℕ, suc, ◌+◌, List, drop, Bool, false, Option, Some, ◌&&◌, ◌||◌, if◌then◌else◌, nat_lt, codes}
use Rattle.std.specs.Option.{option_map}
use Rattle.iv_lex.specs.declared.letters.Letter.{Letter}
use Rattle.iv_lex.specs.declared.nests.Nest.TheVariants as nest
use Rattle.iv_lex.specs.declared.starts.Start.{Start}
use Rattle.iv_lex.specs.declared.starts.Start.TheVariants.{Blank, Comment, Cartouche, Quote, Name, Digits, Variable, TypeVariable, Named, Sign, Run, Double, Single, Nothing}
use Rattle.iv_lex.specs.Letter.{is_blank, is_char, is_start, is_digit, is_symbolic, is_sign, is_single}
use Rattle.iv_lex.specs.Form.{first_is, spells, opening, is_named, nested_from, string_from, name_more, digits_more, var_more, ident_more, symbols_more, alphas}

-- whether this character and then the start of an identifier stand first
abbrev pub is_mark : ℕ → List Letter → Bool
is_mark c ls = first_is (is_char c) ls && first_is is_start (drop 1 ls)

-- what begins here, where it is no space
abbrev pub word_start : List Letter → Start
word_start ls =
    if first_is is_start ls then Name else (if first_is is_digit ls then Digits else (if is_mark 63 ls then Variable else (if is_mark 39 ls then TypeVariable else Nothing)))

-- what begins here, where it is a symbol or a delimiter
abbrev pub sign_start : List Letter → Start
sign_start ls =
    if is_named ls then Named else (if first_is is_sign ls then Sign else (if first_is is_symbolic ls then Run else (if (spells (codes "::") ls || spells (codes "..") ls) then Double else (if first_is is_single ls then Single else Nothing))))

-- what begins here, where it has a closing
abbrev pub closed_start : List Letter → Start
closed_start ls =
    if spells (codes "(*") ls then Comment else (if nat_lt 0 (opening nest.Cartouche ls) then Cartouche else (if first_is (is_char 34) ls then Quote else Nothing))

-- the first that isn't nothing
abbrev pub or_else : Start → Start → Start
or_else Nothing s = s
or_else s _ = s

-- what begins here
abbrev pub start_at : List Letter → Start
start_at ls = if first_is is_blank ls then Blank else or_else (closed_start ls) (or_else (word_start ls) (sign_start ls))

-- how many letters it takes, at most; none where it isn't closed
abbrev pub measured : Start → List Letter → Option ℕ
measured Comment ls = nested_from nest.Comment 0 0 ls
measured Cartouche ls = nested_from nest.Cartouche 0 0 ls
measured Quote ls = option_map suc (string_from false (drop 1 ls))
measured Name ls = Some (1 + name_more (drop 1 ls))
measured Digits ls = Some (1 + digits_more (drop 1 ls))
measured Variable ls = Some (1 + var_more (drop 1 ls))
measured TypeVariable ls = Some (1 + ident_more (drop 1 ls))
measured Named ls = Some (3 + alphas (drop 2 ls))
measured Run ls = Some (1 + symbols_more (drop 1 ls))
measured Double ls = Some 2
measured _ ls = Some 1
