-- The head of a statement whose kind is known.
use Rattle.std.proofs.Common.{◌≡◌, ℕ, cond, eqb, Some, refl}
use Rattle.records.specs.declared.kinds.Kind.{Kind}
use Rattle.records.specs.declared.kinds.Kind.TheVariants.{Noop, Var, Expr, FnCall, Assignment, Block, TryCatch, For, If, While, Do, BreakLoop, Return}
use Rattle.records.specs.Meanings.{kind_of}
use Rattle.records.specs.Tree.{Records, Head, Head.noop, Head.var, Head.expr, Head.call, Head.assign, Head.other, Head.block, Head.try, Head.for, Head.if, Head.while, Head.do_loop, Head.break, Head.continue, Head.return, Head.throw, node_at, name_of, exp_of, oper_of, if_any, flagged, head_of}
use Rattle.records.proofs.Blocks.{kind-number}

-- What the node at i is as a statement of a kind.
abbrev pub head_as : Records → ℕ → Kind → Head
head_as R i Noop = noop
head_as R i Var = let n = node_at R i in var (flagged 1 n.flags) (name_of R n.label) (exp_of R n.expr) n.reuse
head_as R i Expr = expr (exp_of R (node_at R i).expr)
head_as R i FnCall = call (name_of R (node_at R i).label) i
head_as R i Assignment = let n = node_at R i in cond (eqb n.target 1) (assign (name_of R n.label) (exp_of R n.expr) (if_any (oper_of R) n.operator) n.at n.mark) (other i)
head_as R i Block = block
head_as R i TryCatch = try (if_any (name_of R) (node_at R i).label) (node_at R i).mark
head_as R i For = let n = node_at R i in for (name_of R n.label) (exp_of R n.expr) n.mark
head_as R i If = if (exp_of R (node_at R i).expr)
head_as R i While = while (exp_of R (node_at R i).expr) (node_at R i).mark
head_as R i Do = let n = node_at R i in do_loop (flagged 4 n.flags) (exp_of R n.expr) n.mark
head_as R i BreakLoop = let n = node_at R i in cond (flagged 8 n.flags) (break (if_any (exp_of R) n.expr)) continue
head_as R i Return = let n = node_at R i in cond (flagged 8 n.flags) (throw (if_any (exp_of R) n.expr) n.at) (return (if_any (exp_of R) n.expr))

pub head_as_lem : (R : Records) (i : ℕ) (k : Kind) → kind_of (node_at R i).kind ≡ Some k → head_of R i ≡ head_as R i k
head_as_lem R i Noop q = rw (kind-number (node_at R i).kind Noop q) refl
head_as_lem R i Var q = rw (kind-number (node_at R i).kind Var q) refl
head_as_lem R i Expr q = rw (kind-number (node_at R i).kind Expr q) refl
head_as_lem R i FnCall q = rw (kind-number (node_at R i).kind FnCall q) refl
head_as_lem R i Assignment q = rw (kind-number (node_at R i).kind Assignment q) refl
head_as_lem R i Block q = rw (kind-number (node_at R i).kind Block q) refl
head_as_lem R i TryCatch q = rw (kind-number (node_at R i).kind TryCatch q) refl
head_as_lem R i For q = rw (kind-number (node_at R i).kind For q) refl
head_as_lem R i If q = rw (kind-number (node_at R i).kind If q) refl
head_as_lem R i While q = rw (kind-number (node_at R i).kind While q) refl
head_as_lem R i Do q = rw (kind-number (node_at R i).kind Do q) refl
head_as_lem R i BreakLoop q = rw (kind-number (node_at R i).kind BreakLoop q) refl
head_as_lem R i Return q = rw (kind-number (node_at R i).kind Return q) refl
