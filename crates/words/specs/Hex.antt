-- Bytes as pairs of hexadecimal digits, large or small.
use Rattle.std.specs.Prelude.{ℕ, ◌+◌, ◌-◌, ◌*◌, cond, ◌&&◌, List, [], ◌∷◌, ◌++◌, Some, None, Ok, Err, Option, Result, nat_le}
use Rattle.words.specs.declared.expected.Expected.{Expected}
use Rattle.words.specs.declared.expected.Expected.TheVariants.{Hex as HexPairs}

-- What a digit stands for.
abbrev pub hex_digit : ℕ → Option ℕ
hex_digit c =
    cond (nat_le 48 c && nat_le c 57) (Some (c - 48))
    (cond (nat_le 97 c && nat_le c 102) (Some (c - 87))
    (cond (nat_le 65 c && nat_le c 70) (Some (c - 55)) None))

-- The byte of a pair.
abbrev pub pair_of : Option ℕ → Option ℕ → Option ℕ
pair_of None y = None
pair_of (Some x) None = None
pair_of (Some x) (Some y) = Some (x * 16 + y)

-- What comes of a byte, if there is one.
abbrev pub after : Option ℕ → (ℕ → Result (List ℕ) Expected) → Result (List ℕ) Expected
after None f = Err HexPairs
after (Some x) f = f x

-- Some bytes and then those that the pairs stand for, if every digit is one and has its second.
abbrev pub spelt : List ℕ → List ℕ → Result (List ℕ) Expected
spelt bytes [] = Ok bytes
spelt bytes (a ∷ []) = Err HexPairs
spelt bytes (a ∷ (b ∷ cs)) = after (pair_of (hex_digit a) (hex_digit b)) (λ x. spelt (bytes ++ x ∷ []) cs)
