-- Words: what stands between blanks.
use Rattle.std.specs.Prelude.{ℕ, Bool, not, ◌||◌, List, take, drop, ◌==◌}
use Rattle.std.specs.List.{prefix_len}
use Rattle.words.specs.declared.words.Sort.{Sort}
use Rattle.words.specs.declared.words.Sort.TheVariants.{Blank, Solid, BeforeColon}

-- Space, tab, and what may end a line.
abbrev pub blank : ℕ → Bool
blank c = c == 32 || (c == 9 || (c == 13 || c == 10))

abbrev pub solid : ℕ → Bool
solid c = not (blank c)

-- Is a byte of a sort?
abbrev pub of_sort : Sort → ℕ → Bool
of_sort Blank c = blank c
of_sort Solid c = solid c
of_sort BeforeColon c = not (c == 58)

-- How many bytes in front pass a test.
abbrev pub front_of : (ℕ → Bool) → List ℕ → ℕ
front_of test bytes = prefix_len test bytes

-- A line from its first word on.
abbrev pub from_word : List ℕ → List ℕ
from_word line = drop (front_of blank line) line

-- The first word of what begins with one, and what follows it.
abbrev pub word_of : List ℕ → List ℕ
word_of line = take (front_of solid line) line

abbrev pub after_word : List ℕ → List ℕ
after_word line = drop (front_of solid line) line
