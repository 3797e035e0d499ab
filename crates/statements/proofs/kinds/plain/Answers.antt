use Rattle.std.proofs.Common.{◌≡◌, true, false, Some, sym, ap, ◌∙◌}
use Rattle.records.specs.declared.kinds.Kind.TheVariants.{BreakLoop, Return}
use Rattle.records.specs.Tree.{records, node_at, flagged}
use Rattle.scan.proofs.Heads.{head_as_lem}
use Rattle.statements.proofs.kinds.plain.Goals as goal

pub returns-in-BreakLoop-clause-did : goal.returns-in-BreakLoop-clause-did
returns-in-BreakLoop-clause-did c =
    let R = records c.args.c.now.script in
    let h = head_as_lem R c.args.i BreakLoop (c.requires.at.1.0 ∙ ap Some c.in-BreakLoop.is) in
    let f : flagged 8 (node_at R c.args.i).flags ≡ true = sym c.has_flag-has_break.ensures ∙ c.if-has_break.true in
    λ body branch has hasv. rw (h, f) (c.breaking.ensures.did R)

pub returns-in-BreakLoop-2-clause-did : goal.returns-in-BreakLoop-2-clause-did
returns-in-BreakLoop-2-clause-did c =
    let R = records c.args.c.now.script in
    let h = head_as_lem R c.args.i BreakLoop (c.requires.at.1.0 ∙ ap Some c.in-BreakLoop.is) in
    let f : flagged 8 (node_at R c.args.i).flags ≡ false = sym c.has_flag-has_break.ensures ∙ c.if-has_break.false in
    λ body branch has hasv. rw (h, f) (c.continuing.ensures.did R)

pub returns-in-Return-clause-did : goal.returns-in-Return-clause-did
returns-in-Return-clause-did c =
    let R = records c.args.c.now.script in
    let h = head_as_lem R c.args.i Return (c.requires.at.1.0 ∙ ap Some c.in-Return.is) in
    let f : flagged 8 (node_at R c.args.i).flags ≡ true = sym c.has_flag-has_break.ensures ∙ c.if-has_break-2.true in
    λ body branch has hasv. rw (h, f) (c.throwing.ensures.did R)

pub returns-in-Return-2-clause-did : goal.returns-in-Return-2-clause-did
returns-in-Return-2-clause-did c =
    let R = records c.args.c.now.script in
    let h = head_as_lem R c.args.i Return (c.requires.at.1.0 ∙ ap Some c.in-Return.is) in
    let f : flagged 8 (node_at R c.args.i).flags ≡ false = sym c.has_flag-has_break.ensures ∙ c.if-has_break-2.false in
    λ body branch has hasv. rw (h, f) (c.returning.ensures.did R)
