-- How an answer agrees with a definition: where memory lacks, nothing is said.
use Rattle.std.specs.Prelude.{◌≡◌, Ok, Err, Result}
use Rattle.words.specs.declared.expected.Expected.{Expected}
use Rattle.words.specs.declared.expected.Fault.{Fault}
use Rattle.words.specs.declared.expected.Fault.TheVariants.{Malformed, NoMemory}

-- The answer, with what the state became, is what the definition gives.
abbrev pub Agrees : {A S : Type 0} → Result (A × S) Expected → Result A Fault → S → Type 0
Agrees m (Ok x) s = m ≡ Ok (x, s)
Agrees m (Err (Malformed e)) s = m ≡ Err e
Agrees m (Err NoMemory) s = Unit {0}

-- The same where only the state counts.
abbrev pub Became : {S : Type 0} → Result S Expected → Result (Unit {0}) Fault → S → Type 0
Became m (Ok x) s = m ≡ Ok s
Became m (Err (Malformed e)) s = m ≡ Err e
Became m (Err NoMemory) s = Unit {0}
