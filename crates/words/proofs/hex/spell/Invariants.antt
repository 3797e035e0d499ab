use Rattle.std.proofs.Common.{◌≡◌, length, vec_items}
use Rattle.words.specs.Hex.{spelt}
use Rattle.words.proofs.hex.spell.Given as goal

-- What is left goes on from the bytes so far.
abbrev pub invariant-loop-rest : goal.invariant-loop-rest
invariant-loop-rest l = spelt (vec_items l.initial.bytes) l.fn.word ≡ spelt (vec_items l.bytes) l.rest

abbrev pub decreases-loop-rest : goal.decreases-loop-rest
decreases-loop-rest l = length l.rest
