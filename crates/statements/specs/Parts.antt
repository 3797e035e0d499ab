-- Parts of statements.
use Rattle.std.specs.Prelude.{ℕ, suc, pred, Bool, true, false, ◌||◌, None, Option}
use Rattle.records.specs.declared.types.Position.{Position}
use Rattle.records.specs.Tree.{Records, Name, Exp}
use Rattle.code.specs.declared.ops.Op.TheVariants.{Unit as UnitOp, DeclareLocal, Pop, Jump, JumpIfFalse, UnwindTo, Tick, PushHandler, PopHandler, IterInit, IterNext, StoreShared}
use Rattle.code.specs.declared.shapes.Lowered.{Lowered}
use Rattle.meaning.specs.LowerState.{M, ret, bind, emit_at, emit, here, patch_here, depth, may_declare, declare, drop_slots, set_iters, set_handlers, enter_loop, leave_loop}
use Rattle.meaning.specs.Lower.{unset, emit_if, leaves, residual, unwind_to, jump_if, patch_if, round_test, exit_loop, name_number, name_any, testing, may_catch, declare_any}
use Rattle.statements.specs.declared.loops.Round.{Round}

-- ## An `if`

-- The condition, worked out and tested at a position.
abbrev pub begin_if : ℕ → Position → M ℕ
begin_if e at = bind (residual 1 e) (λ _. emit_at (JumpIfFalse unset) at)

-- The body's end: a jump past the branch, where something is to be passed.
abbrev pub end_then : Bool → Lowered → ℕ → M (Option ℕ)
end_then has v to_else = bind (jump_if (has || leaves v)) (λ past. bind (patch_here to_else) (λ _. ret past))

-- ## A `while`

-- It begins: a mark, its test, and its loop's record.
abbrev pub begin_while : Records → Exp → Position → Bool → M (Round (Option ℕ))
begin_while R e mark hasv =
    bind (emit_at Tick mark) (λ _.
    bind here (λ top.
    bind (testing R e) (λ exit.
    bind depth (λ d.
    bind (enter_loop top d false hasv) (λ _. ret (record { top = top; exit = exit }))))))

-- It ends: what the body left goes first; then back to the test, and the jump out of it lands here.
abbrev pub end_while : Round (Option ℕ) → Lowered → Bool → M Lowered
end_while r v hasv =
    bind (emit_if (leaves v) Pop) (λ _.
    bind (emit (Jump r.top)) (λ _.
    bind leave_loop (λ count.
    bind (patch_if r.exit) (λ _. exit_loop count hasv))))

-- ## A `do`

-- It begins: a mark, and its loop's record. The top is answered.
abbrev pub begin_do : Position → Bool → M ℕ
begin_do mark hasv = bind (emit_at Tick mark) (λ _. bind here (λ top. bind depth (λ d. bind (enter_loop top d false hasv) (λ _. ret top))))

-- It ends: what the body left goes first; then the condition, and its test.
abbrev pub end_do : ℕ → Lowered → Bool → ℕ → Position → Bool → M Lowered
end_do top v until e at hasv =
    bind (emit_if (leaves v) Pop) (λ _.
    bind leave_loop (λ count.
    bind (residual 1 e) (λ _.
    bind (round_test until at top) (λ _. exit_loop count hasv))))

-- ## A `for`

-- Its iterator, made of an expression that starts at a position, and the slot limit.
abbrev pub open_iter : ℕ → Position → M (Unit {0})
open_iter e start = bind (residual 1 e) (λ _. bind (emit_at IterInit start) (λ _. bind (set_iters suc) (λ _. may_declare)))

-- Its variable, first as unit.
abbrev pub loop_variable : Records → Name → M (Unit {0})
loop_variable R x =
    bind (name_number R x) (λ n. bind (emit UnitOp) (λ _. bind (emit (DeclareLocal n false false)) (λ _. declare x.label)))

-- A round: its top, and the place of the jump out of it.
abbrev pub begin_for : Position → Position → ℕ → Bool → M (Round ℕ)
begin_for at mark outside hasv =
    bind (emit_at Tick mark) (λ _.
    bind here (λ top.
    bind (emit_at (IterNext unset None) at) (λ exit.
    bind (emit (StoreShared outside)) (λ _.
    bind (enter_loop top outside true hasv) (λ _. ret (record { top = top; exit = exit }))))))

abbrev pub end_for : Round ℕ → ℕ → Bool → M Lowered
end_for r outside hasv =
    bind (emit (Jump r.top)) (λ _.
    bind leave_loop (λ count.
    bind (patch_here r.exit) (λ _.
    bind (set_iters pred) (λ _.
    bind (emit (UnwindTo outside)) (λ _.
    bind (drop_slots outside) (λ _. exit_loop count hasv))))))

-- The end after a body: what it left goes first.
abbrev pub end_round : Round ℕ → ℕ → Lowered → Bool → M Lowered
end_round r outside v hasv = bind (emit_if (leaves v) Pop) (λ _. end_for r outside hasv)

-- ## A `try`

abbrev pub begin_try : Records → Option Name → Position → M ℕ
begin_try R x mark =
    bind (name_any R x) (λ n. bind (emit_at (PushHandler unset n) mark) (λ site. bind (set_handlers suc) (λ _. ret site)))

-- The body's end, and the jump past the catch block.
abbrev pub end_body : Records → Option Name → ℕ → M ℕ
end_body R x site =
    bind (may_catch R x) (λ _.
    bind (emit PopHandler) (λ _.
    bind (set_handlers pred) (λ _.
    bind (emit (Jump unset)) (λ past.
    bind (patch_here site) (λ _.
    bind (set_handlers suc) (λ _. ret past))))))

abbrev pub begin_catch : Records → Option Name → M ℕ
begin_catch R x = bind depth (λ d. bind (declare_any R x) (λ _. ret d))

abbrev pub end_catch : ℕ → Lowered → ℕ → M Lowered
end_catch d v past =
    bind (unwind_to d) (λ _.
    bind (emit PopHandler) (λ _.
    bind (set_handlers pred) (λ _.
    bind (emit_if (leaves v) UnitOp) (λ _.
    bind (patch_here past) (λ _. ret v)))))

-- The end after a catch block: what that left goes first.
abbrev pub end_caught : ℕ → Lowered → Lowered → ℕ → M Lowered
end_caught d v w past = bind (emit_if (leaves w) Pop) (λ _. end_catch d v past)
