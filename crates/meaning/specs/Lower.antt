-- The rules of lowering: one definition for each thing that the compiler does, in the order in which it does it.
use Rattle.std.specs.Prelude.{ℕ, zero, suc, pred, ◌-◌, min, Bool, true, false, cond, not, ◌&&◌, ◌||◌, List, [], ◌∷◌, length, Some, None, Option, ◌==◌, nat_le, nat_lt}
use Rattle.records.specs.declared.types.Position.{Position}
use Rattle.records.specs.declared.refusals.Refusal.TheVariants.{BadReuse, OutsideLoop, EvalCall}
use Rattle.records.specs.Tree.{Records, Name, Exp, Oper, Head, Head.noop, Head.var, Head.expr, Head.call, Head.assign, Head.other, Head.block, Head.try, Head.for, Head.if, Head.while, Head.do_loop, Head.break, Head.continue, Head.return, Head.throw, Tree.node, Forest.nil, Forest.more, Stmt, Block, name_of}
use Rattle.code.specs.declared.ops.Op.{Op}
use Rattle.code.specs.declared.ops.Op.TheVariants.{Unit as UnitOp, StoreLocal, AssignNamed, AssignLocal, DeclareLocal, Pop, Jump, JumpIfFalse, Rotate, UnwindTo, Tick, Checkpoint, EvalAst, PushHandler, PopHandler, IterInit, IterNext, IterDrop, StoreShared, Throw, Return}
use Rattle.code.specs.declared.shapes.Loop.{Loop}
use Rattle.code.specs.declared.shapes.Lowered.{Lowered}
use Rattle.code.specs.declared.shapes.Lowered.TheVariants.{Value, Empty}
use Rattle.meaning.specs.Reading.{same_bytes}
use Rattle.meaning.specs.Run.{endless}
use Rattle.meaning.specs.Breaks.{has_break_value}
use Rattle.meaning.specs.LowerState.{Low, Pile, Level, Out, M, ret, fail, bind, emit_at, emit, here, patch_here, add_row, enter_name, enter_oper, depth, may_declare, declare, drop_slots, resolve, enter_block, leave_block, the_block, set_iters, set_handlers, innermost, enter_loop, leave_loop, add_break, land}

-- A target that is not known yet.
abbrev pub unset : ℕ
unset = 4294967295

-- The bytes of `eval`.
abbrev pub eval_bytes : List ℕ
eval_bytes = 101 ∷ 118 ∷ 97 ∷ 108 ∷ []

-- ## Parts

abbrev pub done : {X : Type 0} → M X → M (Unit {0})
done m = bind m (λ _. ret tt)

-- An operation, if a test holds.
abbrev pub emit_if : Bool → Op → M (Unit {0})
emit_if b o = cond b (done (emit o)) (ret tt)

-- Does a statement leave a value?
abbrev pub leaves : Lowered → Bool
leaves Value = true
leaves Empty = false

abbrev pub lowered : Bool → Lowered
lowered true = Value
lowered false = Empty

-- A residual row and the operation that works it out: of an expression, of a whole statement.
abbrev pub residual : ℕ → ℕ → M (Unit {0})
residual k n = bind (add_row (record { kind = k; number = n })) (λ r. done (emit (EvalAst r true)))

abbrev pub expression : Exp → M (Unit {0})
expression e = residual 1 e.number

abbrev pub statement_row : ℕ → M Lowered
statement_row i = bind (residual 2 i) (λ _. ret Value)

-- An expression, or unit.
abbrev pub expression_or : Option Exp → M (Unit {0})
expression_or None = done (emit UnitOp)
expression_or (Some e) = expression e

-- Slots past a depth are dropped, by an operation, if there are any.
abbrev pub unwind_to : ℕ → M (Unit {0})
unwind_to d = bind depth (λ n. cond (nat_lt d n) (bind (emit (UnwindTo d)) (λ _. drop_slots d)) (ret tt))

-- So many times the same operation.
abbrev pub emits : ℕ → Op → M (Unit {0})
emits zero o = ret tt
emits (suc n) o = bind (emit o) (λ _. emits n o)

-- A block, by its list of statements: the level rises inside, and slots that were added are unwound.
abbrev pub scoped : M Lowered → M Lowered
scoped body = bind depth (λ d. bind enter_block (λ saved. bind body (λ v. bind (unwind_to d) (λ _. bind (leave_block saved) (λ _. ret v)))))

-- A block for its effects only.
abbrev pub discarding : M Lowered → M (Unit {0})
discarding body = bind body (λ v. emit_if (leaves v) Pop)

-- ## Parts of statements that need no records

-- A jump past the branch, where something is to be passed.
abbrev pub jump_if : Bool → M (Option ℕ)
jump_if b = cond b (bind (emit (Jump unset)) (λ site. ret (Some site))) (ret None)

abbrev pub patch_if : Option ℕ → M (Unit {0})
patch_if None = ret tt
patch_if (Some site) = patch_here site

-- Both ways of an `if` come to the same height.
abbrev pub meet : Lowered → Lowered → Option ℕ → M Lowered
meet Value Value past = bind (patch_if past) (λ _. ret Value)
meet Value Empty past = bind (emit UnitOp) (λ _. bind (patch_if past) (λ _. ret Value))
meet Empty Value past = bind (emit (Jump unset)) (λ trailer. bind (patch_if past) (λ _. bind (emit UnitOp) (λ _. bind (patch_here trailer) (λ _. ret Value))))
meet Empty Empty past = bind (patch_if past) (λ _. ret Empty)

-- A loop's end: unit where it has a break value, and just past that its breaks land.
abbrev pub exit_loop : ℕ → Bool → M Lowered
exit_loop count hasv = bind (emit_if hasv UnitOp) (λ _. bind (land count) (λ _. ret (lowered hasv)))

-- The test of a `do`: under `until` a jump straight back where it is false.
abbrev pub round_test : Bool → Position → ℕ → M (Unit {0})
round_test true p top = done (emit_at (JumpIfFalse top) p)
round_test false p top = bind (emit_at (JumpIfFalse unset) p) (λ exit. bind (emit (Jump top)) (λ _. patch_here exit))

-- Handlers and iterators above a floor are given up.
abbrev pub giving_up : ℕ → ℕ → M (Unit {0})
giving_up hands its =
    bind (set_handlers (λ h. h)) (λ h. bind (emits (h - hands) PopHandler) (λ _.
    bind (set_iters (λ i. i)) (λ i. emits (i - its) IterDrop)))

abbrev pub owned : Bool → ℕ
owned true = 1
owned false = 0

-- A local takes the operator's position, any other name its own.
abbrev pub assigned : Option ℕ → ℕ → Option ℕ → Position → Position → M (Unit {0})
assigned (Some i) n o at mark = done (emit_at (AssignLocal i n o) at)
assigned None n o at mark = done (emit_at (AssignNamed n o) mark)

-- A reuse index counts back from the live slots; it must name the newest slot of that name, declared in this block.
abbrev pub reuses : ℕ → ℕ → Level → Option ℕ → Bool
reuses live index b None = false
reuses live index b (Some i) = nat_le index live && (i == live - index && nat_le b.base i)

module _ (R : Records) where
  abbrev pub name_number : Name → M ℕ
  name_number x = enter_name R x.label

  -- The catch name, if there is one.
  abbrev pub name_any : Option Name → M (Option ℕ)
  name_any None = ret None
  name_any (Some x) = bind (name_number x) (λ n. ret (Some n))

  -- An operator row, its two names first.
  abbrev pub oper_row : Option Oper → M (Option ℕ)
  oper_row None = ret None
  oper_row (Some o) =
      bind (name_number o.name₁) (λ n. bind (name_number o.name₂) (λ m.
      bind (enter_oper (record { op_assign = o.token₁; op_assign_name = n; op = o.token₂; op_name = m })) (λ r. ret (Some r))))

  -- ## Statements

  abbrev pub storing : Name → ℕ → Bool → M (Unit {0})
  storing x index k =
      bind depth (λ live. bind the_block (λ b. bind (resolve R x.label) (λ o.
      cond (reuses live index b o) (done (emit (StoreLocal (live - index) k))) (fail BadReuse))))

  -- A declaration is global if it is a constant at level 0.
  abbrev pub declaring : Name → Bool → M (Unit {0})
  declaring x k =
      bind (name_number x) (λ n. bind (declare x.label) (λ _. bind the_block (λ b.
      done (emit (DeclareLocal n k (k && b.level == 0))))))

  -- `let` and `const`: the slot limit comes first, reuse or not.
  abbrev pub variable : Bool → Name → Exp → ℕ → M Lowered
  variable k x e r = bind may_declare (λ _. bind (expression e) (λ _. bind (cond (r == 0) (declaring x k) (storing x r k)) (λ _. ret Empty)))

  -- A call of `eval` is refused.
  abbrev pub calling : Name → ℕ → M Lowered
  calling x i = cond (same_bytes (name_of R x.label).bytes eval_bytes) (fail EvalCall) (statement_row i)

  abbrev pub assigning : Name → Exp → Option Oper → Position → Position → M Lowered
  assigning x e o at mark =
      bind (resolve R x.label) (λ slot. bind (name_number x) (λ n. bind (expression e) (λ _. bind (oper_row o) (λ r.
      bind (assigned slot n r at mark) (λ _. ret Empty)))))

  -- `if`: body, whether there is a branch, branch.
  abbrev pub choosing : Exp → M Lowered → Bool → M Lowered → M Lowered
  choosing e body has branch =
      bind (expression e) (λ _.
      bind (emit_at (JumpIfFalse unset) e.at) (λ to_else.
      bind body (λ v.
      bind (jump_if (has || leaves v)) (λ past.
      bind (patch_here to_else) (λ _.
      bind branch (λ w. meet v w past))))))

  -- The test of a `while`, unless it is endless.
  abbrev pub testing : Exp → M (Option ℕ)
  testing e = cond (endless e) (ret None) (bind (expression e) (λ _. bind (emit_at (JumpIfFalse unset) e.at) (λ site. ret (Some site))))

  abbrev pub looping : Exp → Position → Bool → M Lowered → M Lowered
  looping e mark hasv body =
      bind (emit_at Tick mark) (λ _.
      bind here (λ top.
      bind (testing e) (λ exit.
      bind depth (λ d.
      bind (enter_loop top d false hasv) (λ _.
      bind (discarding body) (λ _.
      bind (emit (Jump top)) (λ _.
      bind leave_loop (λ count.
      bind (patch_if exit) (λ _. exit_loop count hasv)))))))))

  abbrev pub doing : Bool → Exp → Position → Bool → M Lowered → M Lowered
  doing until e mark hasv body =
      bind (emit_at Tick mark) (λ _.
      bind here (λ top.
      bind depth (λ d.
      bind (enter_loop top d false hasv) (λ _.
      bind (discarding body) (λ _.
      bind leave_loop (λ count.
      bind (expression e) (λ _.
      bind (round_test until e.at top) (λ _. exit_loop count hasv))))))))

  -- `for`: the slot limit is tested once the iterator is there.
  abbrev pub going : Name → Exp → Position → Bool → M Lowered → M Lowered
  going x e mark hasv body =
      bind depth (λ outside.
      bind (expression e) (λ _.
      bind (emit_at IterInit e.start) (λ _.
      bind (set_iters suc) (λ _.
      bind may_declare (λ _.
      bind (name_number x) (λ n.
      bind (emit UnitOp) (λ _.
      bind (emit (DeclareLocal n false false)) (λ _.
      bind (declare x.label) (λ _.
      bind (emit_at Tick mark) (λ _.
      bind here (λ top.
      bind (emit_at (IterNext unset None) e.at) (λ exit.
      bind (emit (StoreShared outside)) (λ _.
      bind (enter_loop top outside true hasv) (λ _.
      bind (discarding body) (λ _.
      bind (emit (Jump top)) (λ _.
      bind leave_loop (λ count.
      bind (patch_here exit) (λ _.
      bind (set_iters pred) (λ _.
      bind (emit (UnwindTo outside)) (λ _.
      bind (drop_slots outside) (λ _. exit_loop count hasv)))))))))))))))))))))

  -- The slot limit for a catch name is tested straight after the body.
  abbrev pub may_catch : Option Name → M (Unit {0})
  may_catch None = ret tt
  may_catch (Some x) = may_declare

  abbrev pub declare_any : Option Name → M (Unit {0})
  declare_any None = ret tt
  declare_any (Some x) = declare x.label

  abbrev pub trying : Option Name → Position → M Lowered → M Lowered → M Lowered
  trying x mark body branch =
      bind (name_any x) (λ n.
      bind (emit_at (PushHandler unset n) mark) (λ site.
      bind (set_handlers suc) (λ _.
      bind body (λ v.
      bind (may_catch x) (λ _.
      bind (emit PopHandler) (λ _.
      bind (set_handlers pred) (λ _.
      bind (emit (Jump unset)) (λ past.
      bind (patch_here site) (λ _.
      bind (set_handlers suc) (λ _.
      bind depth (λ d.
      bind (declare_any x) (λ _.
      bind (discarding branch) (λ _.
      bind (unwind_to d) (λ _.
      bind (emit PopHandler) (λ _.
      bind (set_handlers pred) (λ _.
      bind (emit_if (leaves v) UnitOp) (λ _.
      bind (patch_here past) (λ _. ret v))))))))))))))))))

  -- What a break brings: its value, or unit where the loop has a break value.
  abbrev pub bringing : Option Exp → Bool → M (Unit {0})
  bringing (Some e) hasv = bind (expression e) (λ _. done (emit (Rotate 0)))
  bringing None true = bind (emit UnitOp) (λ _. done (emit (Rotate 0)))
  bringing None false = ret tt

  abbrev pub breaking : Option Exp → Option Loop → M Lowered
  breaking e None = fail OutsideLoop
  breaking e (Some l) =
      bind (bringing e l.has_break_value) (λ _.
      bind (giving_up l.handlers (l.iters - owned l.owns_iterator)) (λ _.
      bind (emit (UnwindTo l.break_depth)) (λ _.
      bind (emit (Jump unset)) (λ site. bind (add_break site) (λ _. ret Empty)))))

  abbrev pub continuing : Option Loop → M Lowered
  continuing None = fail OutsideLoop
  continuing (Some l) =
      bind (giving_up l.handlers l.iters) (λ _.
      bind (emit (UnwindTo l.continue_depth)) (λ _.
      bind (emit (Jump l.continue_target)) (λ _. ret Empty)))

  abbrev pub throwing : Option Exp → Position → M Lowered
  throwing e at = bind (expression_or e) (λ _. bind (emit_at Throw at) (λ _. ret Empty))

  abbrev pub returning : Option Exp → M Lowered
  returning e = bind (expression_or e) (λ _. bind (emit Return) (λ _. ret Empty))

  -- A statement by its head: body and branch as blocks, whether there is a branch, whether a break value belongs to it.
  abbrev pub lower_head : Head → M Lowered → M Lowered → Bool → Bool → M Lowered
  lower_head noop body branch has hasv = ret Empty
  lower_head (var k x e r) body branch has hasv = variable k x e r
  lower_head (expr e) body branch has hasv = bind (expression e) (λ _. ret Value)
  lower_head (call x i) body branch has hasv = calling x i
  lower_head (assign x e o at mark) body branch has hasv = assigning x e o at mark
  lower_head (other i) body branch has hasv = statement_row i
  lower_head block body branch has hasv = body
  lower_head (try x mark) body branch has hasv = trying x mark body branch
  lower_head (for x e mark) body branch has hasv = going x e mark hasv body
  lower_head (if e) body branch has hasv = choosing e body has branch
  lower_head (while e mark) body branch has hasv = looping e mark hasv body
  lower_head (do_loop until e mark) body branch has hasv = doing until e mark hasv body
  lower_head (break e) body branch has hasv = bind innermost (λ l. breaking e l)
  lower_head continue body branch has hasv = bind innermost (λ l. continuing l)
  lower_head (return e) body branch has hasv = returning e
  lower_head (throw e at) body branch has hasv = throwing e at

  abbrev pub some : Block → Bool
  some nil = false
  some (more s b) = true

  -- Statements in order: every value but the last is popped; a checkpoint stands before each where the scope is kept.
  abbrev mutual
    pub lower : Stmt → M Lowered
    lower (node h B C) = lower_head h (scoped (lower_list false Empty B)) (scoped (lower_list false Empty C)) (some C) (has_break_value B)

    pub lower_list : Bool → Lowered → Block → M Lowered
    lower_list keep v nil = ret v
    lower_list keep v (more s b) = bind (emit_if (leaves v) Pop) (λ _. bind (emit_if keep Checkpoint) (λ _. bind (lower s) (λ w. lower_list keep w b)))

  -- A whole script: its statements with no unwinding, a value, and `Return`.
  abbrev pub program : Bool → Block → M (Unit {0})
  program keep b = bind (lower_list keep Empty b) (λ v. bind (emit_if (not (leaves v)) UnitOp) (λ _. done (emit Return)))

-- ## The call

-- The rooms of the lent memories.
pub record Rooms : Type 0 where
  pub ops : ℕ
  pub names : ℕ
  pub opers : ℕ
  pub rows : ℕ
  pub slots : ℕ
  pub breaks : ℕ

abbrev pub none : {X : Type 0} → ℕ → Pile X
none n = record { held = []; room = n }

abbrev pub fresh : Rooms → ℕ → Low
fresh m limit = record { code = none m.ops; rows = none m.rows; names = none m.names; opers = none m.opers; slots = none m.slots; breaks = none m.breaks; loops = []; iters = 0; handlers = 0; block = record { level = 0; base = 0 }; limit = limit; deepest = 0 }

-- The lowering of a block of records, with lent memories of these rooms.
abbrev pub lowering : Records → Rooms → Block → Out (Unit {0})
lowering R m b = program R R.keep b (fresh m R.limit)

-- `max_stack`: as many as operations, at most 65,535.
abbrev pub max_stack : Low → ℕ
max_stack s = min 65535 (length s.code.held)
