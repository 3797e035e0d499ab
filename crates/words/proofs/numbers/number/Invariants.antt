use Rattle.std.proofs.Common.{◌≡◌, ◌≤◌, drop}
use Rattle.words.specs.Numbers.{number_from}
use Rattle.words.proofs.numbers.number.Given as goal

-- The value so far is small enough, and the digits that are left go on from it.
abbrev pub invariant-loop-byte : goal.invariant-loop-byte
invariant-loop-byte l = (l.value ≤ l.most) × (number_from l.most 0 l.word ≡ number_from l.most l.value (drop l.byte-index l.word))
