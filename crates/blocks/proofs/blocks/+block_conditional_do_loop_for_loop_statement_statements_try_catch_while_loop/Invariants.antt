-- What is left of the nodes falls from a block to its statements, and from a statement to its blocks.
use Rattle.std.proofs.Common.{◌≡◌, ◌+◌, ◌-◌, ◌*◌, ◌≤◌, length}
use Rattle.records.specs.Tree.{records}
use Rattle.records.specs.Accepts.{block_from}
use Rattle.code.specs.declared.shapes.Lowered.TheVariants.{Empty}
use Rattle.meaning.specs.Lower.{lower_list}
use Rattle.lowering.specs.View.{Lent, low}
use Rattle.blocks.specs.Whole.{keeping}
use Rattle.blocks.proofs.blocks.+block_conditional_do_loop_for_loop_statement_statements_try_catch_while_loop.Given as goal

abbrev pub decreases-block : goal.decreases-block
decreases-block l = 4 * (length l.c.now.script.nodes.now - l.from) + 2

abbrev pub decreases-statements : goal.decreases-statements
decreases-statements l = 4 * (length l.c.now.script.nodes.now - l.from) + 1

abbrev pub decreases-statement : goal.decreases-statement
decreases-statement l = 4 * (length l.c.now.script.nodes.now - l.i)

abbrev pub decreases-conditional : goal.decreases-conditional
decreases-conditional l = 4 * (length l.c.now.script.nodes.now - l.i) - 1

abbrev pub decreases-while_loop : goal.decreases-while_loop
decreases-while_loop l = 4 * (length l.c.now.script.nodes.now - l.i) - 1

abbrev pub decreases-do_loop : goal.decreases-do_loop
decreases-do_loop l = 4 * (length l.c.now.script.nodes.now - l.i) - 1

abbrev pub decreases-for_loop : goal.decreases-for_loop
decreases-for_loop l = 4 * (length l.c.now.script.nodes.now - l.i) - 1

abbrev pub decreases-try_catch : goal.decreases-try_catch
decreases-try_catch l = 4 * (length l.c.now.script.nodes.now - l.i) - 1

-- What is still to be lowered from here gives what the whole gives from the start.
abbrev pub invariant-statements-loop-i : goal.invariant-statements-loop-i
invariant-statements-loop-i l = record {
  after : l.from ≤ l.i;
  kept : Lent l.initial.c l.c;
  around : l.c.block ≡ l.initial.c.block;
  limit : l.c.limit ≡ l.initial.c.limit;
  gives : lower_list (records l.initial.c.script) (keeping (records l.initial.c.script) l.initial.c.block) Empty (block_from (records l.initial.c.script) l.from l.to) (low l.initial.c)
      ≡ lower_list (records l.initial.c.script) l.keep l.lowered (block_from (records l.initial.c.script) l.i l.to) (low l.c);
}

abbrev pub decreases-statements-loop-i : goal.decreases-statements-loop-i
decreases-statements-loop-i l = l.to - l.i
