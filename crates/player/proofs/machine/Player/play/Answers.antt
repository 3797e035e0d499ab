use Rattle.std.proofs.Common.{◌≡◌, ◌+◌, ◌-◌, ◌∙◌}
use Rattle.meaning.specs.Calls.{goes, plays}
use Rattle.player.specs.Players.{Kept, mach}
use Rattle.player.specs.States.{state}
use Rattle.player.proofs.Plays.{kept-kept, onward, spends, on-ready, on-waits, on-ended, on-stuck}
use Rattle.player.proofs.machine.Player.play.Goals as goal
use Rattle.player.proofs.machine.Player.play.Goals.{After-step}

kept : (c : After-step) → Kept c.args.self.now c.step.new.self
kept c = kept-kept c.args.self.now c.loop-n.self c.step.new.self c.loop-n.invariant.0 c.step.ensures.kept

-- the run, told from after this step
told_on : (c : After-step) → goes (plays c.args.self.now.code.now c.args.self.now.rows.now (c.args.limit - (c.loop-n.n + 1)) (c.loop-n.n + 1)) (c.loop-n.n + 1) (state c.step.new.self) ≡ plays c.args.self.now.code.now c.args.self.now.rows.now c.args.limit 0 c.args.self.now.place (mach c.args.self.now)
told_on c = onward c.args.self.now c.loop-n.self c.step.new.self c.args.limit c.loop-n.n _ c.loop-n.invariant.0 c.loop-n-test.true c.step.ensures.did c.loop-n.invariant.2

pub returns-in-Waiting : goal.returns-in-Waiting
returns-in-Waiting c = let s = (goal.at.returns-in-Waiting c).After-step in record { kept = kept s; did = on-waits _ _ c.step.new.self _ _ c.in-Waiting.is ∙ told_on s }

pub returns-in-Ended : goal.returns-in-Ended
returns-in-Ended c = let s = (goal.at.returns-in-Ended c).After-step in record { kept = kept s; did = on-ended _ _ c.step.new.self _ c.in-Ended.is ∙ told_on s }

pub returns-in-Stuck : goal.returns-in-Stuck
returns-in-Stuck c = let s = (goal.at.returns-in-Stuck c).After-step in record { kept = kept s; did = on-stuck _ _ c.step.new.self c.in-Stuck.is ∙ told_on s }

pub loop-n-preserved : goal.loop-n-preserved
loop-n-preserved c = let s = (goal.at.loop-n-preserved c).After-step in (kept s, c.in-Ready.is, on-ready _ _ c.step.new.self c.in-Ready.is ∙ told_on s)

pub returns : goal.returns
returns c = record { kept = c.loop-n.invariant.0; did = spends c.args.self.now.code.now c.args.self.now.rows.now c.loop-n.self c.args.limit c.loop-n.n c.loop-n.invariant.1 c.loop-n.auto.n-end c.loop-n-test.false ∙ c.loop-n.invariant.2 }
