-- Pieces of what is printed: each says what it makes of the bytes before it.
use Rattle.std.specs.Prelude.{ℕ, ◌+◌, ◌/◌, ◌%◌, Bool, cond, List, [], ◌∷◌, ◌++◌, length, take, Some, None, codes, decimal, Option, nat_lt}
use Rattle.std.specs.Char.{is_ascii_graphic}
use Rattle.std.specs.List.{list_all, repeat}
use Rattle.records.specs.declared.types.Position.{Position}
use Rattle.records.specs.Numbers.{position_text}

abbrev pub newline : List ℕ
newline = 10 ∷ []

-- A number in decimal digits.
abbrev pub numbered : ℕ → List ℕ → List ℕ
numbered n out = out ++ decimal n

-- Line and column.
abbrev pub positioned : Position → List ℕ → List ℕ
positioned p out = out ++ position_text p

-- Two blanks for each level.
abbrev pub indented : ℕ → List ℕ → List ℕ
indented depth out = out ++ repeat depth (codes "  ")

-- ## Names

-- Bytes that stand for themselves: visible ASCII.
abbrev pub visible : List ℕ → Bool
visible bytes = list_all is_ascii_graphic bytes

abbrev pub hex_digit_of : ℕ → ℕ
hex_digit_of n = cond (nat_lt n 10) (48 + n) (87 + n)

-- Two hexadecimal digits a byte.
abbrev pub hexed : List ℕ → List ℕ → List ℕ
hexed [] out = out
hexed (b ∷ bs) out = hexed bs ((out ++ hex_digit_of (b / 16) ∷ []) ++ hex_digit_of (b % 16) ∷ [])

-- A name of visible bytes as it is, another in hexadecimal digits.
unfoldable pub spelled : List ℕ → List ℕ → List ℕ
spelled part out = cond (visible part) (out ++ part) (hexed part (out ++ codes "0x"))

-- Of a name its first 60 bytes, and a mark where there are more.
unfoldable pub shown : List ℕ → List ℕ → List ℕ
shown name out = cond (nat_lt 60 (length name)) (spelled (take 60 name) out ++ codes "..") (spelled name out)

abbrev pub shown_if : Option (List ℕ) → List ℕ → List ℕ
shown_if None out = out
shown_if (Some name) out = shown name out
