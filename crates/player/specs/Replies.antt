-- What the calls of the code and their results say, in the words of the rules.
use Rattle.std.specs.Prelude.{Bool, true, false, Ok, Err, Result}
use Rattle.records.specs.declared.refusals.Refusal.{Refusal}
use Rattle.records.specs.Numbers.{number_of}
use Rattle.meaning.specs.Calls.{Call as Asked, Call.run, Call.answer, Call.look, Call.put, Reply as Said, Reply.spent, Reply.asks, Reply.ends, Reply.sticks, Reply.taken, Reply.over, Reply.jammed, Reply.found, Reply.declined}
use Rattle.player.specs.declared.kinds.Call.{Call}
use Rattle.player.specs.declared.kinds.Call.TheVariants.{Run, Answer as AnswerCall, Look, Put}
use Rattle.player.specs.declared.kinds.Outcome.{Outcome}
use Rattle.player.specs.declared.kinds.Outcome.TheVariants.{Spent, Asks, Ended as EndedOut, Stuck as StuckOut}
use Rattle.player.specs.declared.kinds.Answered.{Answered}
use Rattle.player.specs.declared.kinds.Answered.TheVariants.{Taken, Ended, Stuck}
use Rattle.player.specs.declared.kinds.Reply.{Reply}
use Rattle.player.specs.declared.kinds.Reply.TheVariants.{Ran, Answered as AnsweredReply, Found, Written, Declined}

abbrev pub call_of : Call → Asked
call_of (Run n) = run n
call_of (AnswerCall a) = answer a
call_of (Look x) = look x
call_of (Put x h) = put x h

abbrev pub outcome_of : Outcome → Said
outcome_of (Spent n) = spent n
outcome_of (Asks n q) = asks n q
outcome_of (EndedOut n e) = ends n e
outcome_of (StuckOut n) = sticks n

abbrev pub answered_of : Answered → Said
answered_of Taken = taken
answered_of (Ended e) = over e
answered_of Stuck = jammed

abbrev pub reply_of : Reply → Said
reply_of (Ran o) = outcome_of o
reply_of (AnsweredReply a) = answered_of a
reply_of (Found h) = found h
reply_of Written = taken
reply_of (Declined e) = declined (number_of e)

-- A call's own result, or the number of its refusal.
abbrev pub result_of : {R : Type 0} → (R → Said) → Result R Refusal → Said
result_of f (Ok x) = f x
result_of f (Err e) = declined (number_of e)

abbrev pub written_of : Unit {0} → Said
written_of u = taken

-- Is a reply one that a call can get?
abbrev pub suits : Call → Reply → Bool
suits c (Declined e) = true
suits (Run n) (Ran o) = true
suits (Run n) (AnsweredReply a) = false
suits (Run n) (Found h) = false
suits (Run n) Written = false
suits (AnswerCall a) (Ran o) = false
suits (AnswerCall a) (AnsweredReply b) = true
suits (AnswerCall a) (Found h) = false
suits (AnswerCall a) Written = false
suits (Look x) (Ran o) = false
suits (Look x) (AnsweredReply a) = false
suits (Look x) (Found h) = true
suits (Look x) Written = false
suits (Put x h) (Ran o) = false
suits (Put x h) (AnsweredReply a) = false
suits (Put x h) (Found k) = false
suits (Put x h) Written = true
