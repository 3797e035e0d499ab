-- Reading a line word by word: a value with what is left of the line, or what was expected.
use Rattle.std.specs.Prelude.{◌≡◌, ℕ, Bool, cond, List, length, Some, None, Ok, Err, Option, Result, ◌==◌}
use Rattle.std.specs.Borrow.{Bor}
use Rattle.records.specs.declared.types.Position.{Position}
use Rattle.words.specs.declared.expected.Expected.{Expected}
use Rattle.words.specs.declared.expected.Expected.TheVariants.{Number, Position as APosition, Flag, LineEnd}
use Rattle.words.specs.declared.words.Words.{Words}
use Rattle.words.specs.Words.{from_word, word_of, after_word}
use Rattle.words.specs.Numbers.{number_in, position_in}

-- What is still to be read.
abbrev pub left : Words → List ℕ
left words = words.rest.now

-- A reader of a line.
abbrev pub Reads : Type 0 → Type 0
Reads A = List ℕ → Result (A × List ℕ) Expected

-- What a call answered, with what it left.
abbrev pub outcome : {A : Type 0} → Result A Expected → List ℕ → Result (A × List ℕ) Expected
outcome (Ok x) rest = Ok (x, rest)
outcome (Err e) rest = Err e

-- A word that is lent, as bytes.
abbrev pub seen : Result (Bor (List ℕ)) Expected → Result (List ℕ) Expected
seen (Ok word) = Ok word.now
seen (Err e) = Err e

-- A call did what a reader does.
abbrev pub Did : {A : Type 0} → Reads A → List ℕ → Result A Expected → List ℕ → Type 0
Did m before r after = m before ≡ outcome r after

abbrev pub ret : {A : Type 0} → A → Reads A
ret x line = Ok (x, line)

abbrev pub onward : {A B : Type 0} → Result (A × List ℕ) Expected → (A → Reads B) → Result (B × List ℕ) Expected
onward (Ok p) f = f p.0 p.1
onward (Err e) f = Err e

-- One reader and then the next.
abbrev pub bind : {A B : Type 0} → Reads A → (A → Reads B) → Reads B
bind m f line = onward (m line) f

-- A value that a word may have.
abbrev pub given : {A : Type 0} → Expected → Option A → Reads A
given e None line = Err e
given e (Some x) line = Ok (x, line)

-- What a reading gives, whatever is left.
abbrev pub value : {A : Type 0} → Result (A × List ℕ) Expected → Result A Expected
value (Ok p) = Ok p.0
value (Err e) = Err e

-- The next word.
unfoldable pub a_word : Expected → Reads (List ℕ)
a_word e line = cond (length (from_word line) == 0) (Err e) (Ok (word_of (from_word line), after_word (from_word line)))

-- A number up to one.
unfoldable pub a_number : ℕ → Reads ℕ
a_number most = bind (a_word (Number most)) (λ w. given (Number most) (number_in most w))

unfoldable pub a_position : Reads Position
a_position = bind (a_word APosition) (λ w. given APosition (position_in w))

-- 0 or 1.
abbrev pub flag_of : Option ℕ → Option Bool
flag_of None = None
flag_of (Some n) = Some (n == 1)

unfoldable pub a_flag : Reads Bool
a_flag = bind (a_word Flag) (λ w. given Flag (flag_of (number_in 1 w)))

-- The line's end.
unfoldable pub no_more : Reads (Unit {0})
no_more line = cond (length (from_word line) == 0) (Ok (tt, from_word line)) (Err LineEnd)
