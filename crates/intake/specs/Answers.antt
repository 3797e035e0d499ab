-- What is printed for a script.
use Rattle.std.specs.Prelude.{◌≡◌, ℕ, Bool, cond, List, ◌++◌, Ok, Err, codes, Result}
use Rattle.records.specs.declared.refusals.Refusal.{Refusal}
use Rattle.records.specs.Numbers.{number_of, words_of}
use Rattle.records.specs.Tree.{Records}
use Rattle.records.specs.Checks.{answered, checked}
use Rattle.intake.specs.Texts.{newline, numbered}
use Rattle.intake.specs.Outlines.{outline_text}

-- A refusal: its number and its words.
unfoldable pub refusal_text : Refusal → List ℕ → List ℕ
refusal_text e out = ((numbered (number_of e) (out ++ codes "refused ") ++ codes " ") ++ words_of e) ++ newline

-- The verdict, and the outline where it is wanted.
unfoldable pub verdict_text : Records → Bool → Result (Unit {0}) Refusal → List ℕ → List ℕ
verdict_text R wanted (Ok u) out = cond wanted (outline_text R (out ++ (codes "accepted" ++ newline))) (out ++ (codes "accepted" ++ newline))
verdict_text R wanted (Err e) out = refusal_text e out

-- The answer to a script: its name, and the verdict of its records.
pub record Answers (R : Records) (name : List ℕ) (wanted : Bool) (before after : List ℕ) : Type 0 where
  pub verdict : Result (Unit {0}) Refusal
  pub rightly : answered verdict ≡ checked R
  pub printed : after ≡ verdict_text R wanted verdict (((before ++ codes "script ") ++ name) ++ newline) ++ (codes "end" ++ newline)
