-- Numbers: decimal digits, no sign, at most a given number.
use Rattle.std.specs.Prelude.{ℕ, ◌+◌, ◌-◌, ◌*◌, Bool, true, cond, not, ◌&&◌, List, [], ◌∷◌, length, take, drop, Some, None, Option, ◌==◌, nat_le}
use Rattle.records.specs.declared.types.Position.{Position}
use Rattle.words.specs.Words.{front_of}

abbrev pub digit : ℕ → Bool
digit c = nat_le 48 c && nat_le c 57

abbrev pub digits : List ℕ → Bool
digits [] = true
digits (c ∷ cs) = digit c && digits cs

-- The number that digits write after those of a number.
abbrev pub value_from : ℕ → List ℕ → ℕ
value_from n [] = n
value_from n (c ∷ cs) = value_from (n * 10 + (c - 48)) cs

-- That number, if all are digits and it is small enough.
abbrev pub number_from : ℕ → ℕ → List ℕ → Option ℕ
number_from most n w = cond (digits w && nat_le (value_from n w) most) (Some (value_from n w)) None

-- One digit or more, and a number that is small enough.
abbrev pub number_in : ℕ → List ℕ → Option ℕ
number_in most w = cond (length w == 0) None (number_from most 0 w)

-- A position of two numbers, if both are there.
abbrev pub joined : Option ℕ → Option ℕ → Option Position
joined None y = None
joined (Some x) None = None
joined (Some x) (Some y) = Some (record { line = x; column = y })

abbrev pub before_colon : ℕ → Bool
before_colon c = not (c == 58)

-- Line and column, 16 bits each, with a colon between.
abbrev pub position_in : List ℕ → Option Position
position_in w =
    cond (front_of before_colon w == length w) None
    (joined (number_in 65535 (take (front_of before_colon w) w)) (number_in 65535 (drop (front_of before_colon w + 1) w)))
