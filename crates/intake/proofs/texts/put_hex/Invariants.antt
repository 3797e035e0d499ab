use Rattle.std.proofs.Common.{◌≡◌, drop, vec_items}
use Rattle.intake.specs.Texts.{hexed}
use Rattle.intake.proofs.texts.put_hex.Given as goal

-- The bytes that are left go on from what is printed.
abbrev pub invariant-loop-byte : goal.invariant-loop-byte
invariant-loop-byte l = hexed l.bytes (vec_items l.initial.out) ≡ hexed (drop l.byte-index l.bytes) (vec_items l.out)
