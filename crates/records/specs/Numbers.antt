-- The number of every refusal, its words, and what a position prints: the lists that promises use.
use Rattle.std.specs.Prelude.{ℕ, List, ◌++◌, codes, decimal}
use Rattle.records.specs.declared.types.Position.{Position}
use Rattle.records.specs.declared.refusals.Refusal.{Refusal}
use Rattle.records.specs.declared.refusals.Refusal.TheVariants.{TooLarge, Malformed, LeftOut, TooDeep, BadReuse, OutsideLoop, EvalCall, UnknownExpression, SlotsFull, NoRoom, NoCodeRoom, SlotMemory, QuestionWaits, NoneWaits, Over, WrongCall, NotSettable}

-- The number of every refusal.
abbrev pub number_of : Refusal → ℕ
number_of TooLarge = 10
number_of Malformed = 11
number_of LeftOut = 12
number_of TooDeep = 13
number_of BadReuse = 14
number_of OutsideLoop = 15
number_of EvalCall = 16
number_of UnknownExpression = 17
number_of SlotsFull = 21
number_of NoRoom = 22
number_of NoCodeRoom = 23
number_of SlotMemory = 24
number_of QuestionWaits = 31
number_of NoneWaits = 32
number_of Over = 33
number_of WrongCall = 34
number_of NotSettable = 35

-- What every refusal says, in plain words.
abbrev pub words_of : Refusal → List ℕ
words_of TooLarge = codes "too many records, too much text, or a slot limit out of range"
words_of Malformed = codes "a field is missing or against the rules of records"
words_of LeftOut = codes "a form of statement that is left out"
words_of TooDeep = codes "statements nested more than 64 deep"
words_of BadReuse = codes "a reuse index that does not name the newest slot of its name in its block"
words_of OutsideLoop = codes "a break or continue outside every loop"
words_of EvalCall = codes "a call of eval"
words_of UnknownExpression = codes "an expression that the writer does not know"
words_of SlotsFull = codes "more slots than the slot limit allows"
words_of NoRoom = codes "no room in an output, slot or break memory"
words_of NoCodeRoom = codes "no room for the set code"
words_of SlotMemory = codes "slot memory shorter than the deepest slot count"
words_of QuestionWaits = codes "a question waits for its answer"
words_of NoneWaits = codes "no question waits"
words_of Over = codes "the run has ended or is stuck"
words_of WrongCall = codes "an answer of the wrong kind, or a number out of range"
words_of NotSettable = codes "a name that is not live or is constant"

-- A position as it is printed: `LINE:COLUMN`.
abbrev pub position_text : Position → List ℕ
position_text p = decimal p.line ++ codes ":" ++ decimal p.column
