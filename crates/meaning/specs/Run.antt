-- The tree's run: what a script does, told by its tree alone.
use Rattle.std.specs.Prelude.{ℕ, zero, suc, Bool, true, false, cond, ◌||◌, List, [], ◌∷◌, length, Some, None, Option, ◌==◌}
use Rattle.records.specs.declared.types.Position.{Position}
use Rattle.records.specs.Tree.{Name, Exp, Oper, Head, Head.noop, Head.var, Head.expr, Head.call, Head.assign, Head.other, Head.block, Head.try, Head.for, Head.if, Head.while, Head.do_loop, Head.break, Head.continue, Head.return, Head.throw, Tree.node, Forest.nil, Forest.more, Stmt, Block}
use Rattle.meaning.specs.Throws.{keep}
use Rattle.meaning.specs.Reading.{Bytes, Sign, sign_of, Ask, Ask.statement, Ask.combine, Ask.assign as assign_to, Ask.iterate, Ask.next, Event, Cell, Scope, no_scope, seek, declares, sets_inner, St as StOf, st, Around, Heard as HeardOf, Heard.value as heard, Heard.done as over, Heard.fault as fails, Heard.waits as idle, asks as asks_of, Truth, Truth.yes, Truth.no, Truth.neither, truth, Reading, reading as reading_of, Got as GotOf, Got.got, Got.bad, Got.dry, gotten}

-- The tree's variables are scopes, the innermost first.
abbrev pub St : Type 0
St = StOf (List Scope)

abbrev pub Heard : Type 0
Heard = HeardOf (List Scope)

abbrev pub Got : Type 0
Got = GotOf (List Scope)

abbrev pub asks : Ask → Around → St → Heard
asks q A σ = asks_of seek sets_inner q A σ

abbrev pub reading : Reading → Around → St → Got
reading r A σ = reading_of seek sets_inner r A σ

abbrev pub with_scopes : List Scope → St → St
with_scopes ss σ = st ss σ.world

-- What comes of a statement: its value; a `break` with its value or a `continue` that leaves it; the script's value
-- from a `return`; a fault; a question that waits, with what stands around it; or the rounds of its loops are spent.
pub data Out : Type 0 where
  value : ℕ → St → Out
  broke : ℕ → St → Out
  continued : St → Out
  returned : ℕ → St → Out
  fault : ℕ → Position → St → Out
  waits : Ask → Around → St → Out
  spent : Out

-- ## Joining

-- An expression, or a question, and what follows on its value.
abbrev pub bind_g : Got → (ℕ → St → Out) → Out
bind_g (got v σ) k = k v σ
bind_g (bad h p σ) k = fault h p σ
bind_g (dry q A σ) k = waits q A σ

-- A statement, and what follows on its value.
abbrev pub bind_v : Out → (ℕ → St → Out) → Out
bind_v (value v σ) k = k v σ
bind_v (broke v σ) k = broke v σ
bind_v (continued σ) k = continued σ
bind_v (returned v σ) k = returned v σ
bind_v (fault h p σ) k = fault h p σ
bind_v (waits q A σ) k = waits q A σ
bind_v spent k = spent

-- The next item of an iterator: at the end of the items the loop is left, as by a break with unit.
abbrev pub bind_n : Heard → (ℕ → St → Out) → Out
bind_n (heard v σ) k = k v σ
bind_n (over σ) k = broke 0 σ
bind_n (fails h p σ) k = fault h p σ
bind_n (idle q A σ) k = waits q A σ

-- ## Scopes

abbrev pub opened : St → St
opened σ = with_scopes (no_scope ∷ σ.env) σ

abbrev pub declared : Bytes → ℕ → Bool → St → St
declared x h k σ = with_scopes (declares x (record { handle = h; constant = k }) σ.env) σ

abbrev pub closed : ℕ → St → St
closed d σ = with_scopes (keep d σ.env) σ

-- The scopes above the outermost d are closed on every leaving.
abbrev pub closing : ℕ → Out → Out
closing d (value v σ) = value v (closed d σ)
closing d (broke v σ) = broke v (closed d σ)
closing d (continued σ) = continued (closed d σ)
closing d (returned v σ) = returned v (closed d σ)
closing d (fault h p σ) = fault h p (closed d σ)
closing d (waits q A σ) = waits q A σ
closing d spent = spent

-- ## Tests

-- A test faults with handle 3 unless it is true or false.
abbrev pub test : Truth → Position → St → Out → Out → Out
test yes p σ a b = a
test no p σ a b = b
test neither p σ a b = fault 3 p σ

-- The test of a `do`: it goes round while true, under `until` while false.
abbrev pub round_on : Bool → Truth → Position → St → Out
round_on false yes p σ = continued σ
round_on false no p σ = broke 0 σ
round_on true yes p σ = broke 0 σ
round_on true no p σ = continued σ
round_on false neither p σ = fault 3 p σ
round_on true neither p σ = fault 3 p σ

-- ## Loops

-- What a round leads to: a break leaves with its value, all else but an end goes round.
abbrev pub again : Out → (St → Out) → Out
again (value v σ) k = k σ
again (broke v σ) k = value v σ
again (continued σ) k = k σ
again (returned v σ) k = returned v σ
again (fault h p σ) k = fault h p σ
again (waits q A σ) k = waits q A σ
again spent k = spent

-- The rounds of a loop, at most n: a run that is spent at every n goes on for ever.
abbrev pub rounds : (ℕ → St → Out) → ℕ → St → Out
rounds body zero σ = spent
rounds body (suc n) σ = again (body n σ) (rounds body n)

-- ## Try

-- A fault of the body is caught, and nothing else.
abbrev pub catching : Out → (ℕ → St → Out) → Out
catching (value v σ) k = value v σ
catching (broke v σ) k = broke v σ
catching (continued σ) k = continued σ
catching (returned v σ) k = returned v σ
catching (fault h p σ) k = k h σ
catching (waits q A σ) k = waits q A σ
catching spent k = spent

-- ## What stands around

abbrev pub in_for : ℕ → Around → Around
in_for i A = record { iters = i ∷ A.iters; tries = A.tries }

abbrev pub in_try : Around → Around
in_try A = record { iters = A.iters; tries = suc A.tries }

-- ## Statements

-- How a statement or a block runs: what stands around it, the rounds that its loops may take, the state.
abbrev pub Running : Type 0
Running = Around → ℕ → St → Out

-- A block in a scope of its own.
abbrev pub scoped : Running → Running
scoped b A n σ = closing (length σ.env) (b A n (opened σ))

-- A catch name, or none.
abbrev pub naming : Option Name → ℕ → St → St
naming None h σ = σ
naming (Some x) h σ = declared x.bytes h false σ

abbrev pub signed : Option Oper → Option Sign
signed None = None
signed (Some o) = Some (sign_of o)

-- A name's innermost handle is set; the statement's value is unit.
abbrev pub setting : Bytes → ℕ → St → Out
setting x v σ = value 0 (with_scopes (sets_inner x v σ.env) σ)

-- Assigning to a constant faults with handle 4; an operator on a local asks; a name in no scope asks.
abbrev pub combining : Option Oper → Bytes → ℕ → Cell → Around → St → Out
combining None x v c A σ = setting x v σ
combining (Some o) x v c A σ = bind_g (gotten (asks (combine (sign_of o) c.handle v) A σ)) (setting x)

abbrev pub assigning : Option Cell → Option Oper → Bytes → ℕ → Position → Around → St → Out
assigning None o x v p A σ = bind_g (gotten (asks (assign_to x (signed o) v) A σ)) (λ u σ'. value 0 σ')
assigning (Some c) o x v p A σ = cond c.constant (fault 4 p σ) (combining o x v c A σ)

-- `while` on an expression of form 1 or 2 tests nothing.
abbrev pub endless : Exp → Bool
endless e = e.form == 1 || e.form == 2

module _ (ρ : ℕ → Reading) where
  -- Expressions run by their readings.
  abbrev pub evaluate : Exp → Around → St → Got
  evaluate e A σ = reading (ρ e.number) A σ

  -- An absent expression is unit.
  abbrev pub evaluate_any : Option Exp → Around → St → Got
  evaluate_any None A σ = got 0 σ
  evaluate_any (Some e) A σ = evaluate e A σ

  abbrev pub while_round : Bool → Exp → Running → Running
  while_round true e body A n σ = scoped body A n σ
  while_round false e body A n σ = bind_g (evaluate e A σ) (λ v σ'. test (truth v) e.at σ' (scoped body A n σ') (broke 0 σ'))

  -- A statement, by how its body and its branch run.
  abbrev pub run_head : Head → Running → Running → Running
  run_head noop body branch A n σ = value 0 σ
  run_head (var k x e r) body branch A n σ = bind_g (evaluate e A σ) (λ v σ'. value 0 (declared x.bytes v k σ'))
  run_head (expr e) body branch A n σ = bind_g (evaluate e A σ) value
  run_head (call x i) body branch A n σ = bind_g (gotten (asks (statement i) A σ)) value
  run_head (assign x e o at mark) body branch A n σ = bind_g (evaluate e A σ) (λ v σ'. assigning (seek x.bytes σ'.env) o x.bytes v at A σ')
  run_head (other i) body branch A n σ = bind_g (gotten (asks (statement i) A σ)) value
  run_head block body branch A n σ = scoped body A n σ
  -- the body's value, or unit when a fault was caught; the catch name has a scope around the catch block
  run_head (try x mark) body branch A n σ =
      catching (scoped body (in_try A) n σ)
      (λ h σ'. closing (length σ'.env) (bind_v (scoped branch A n (naming x h (opened σ'))) (λ v σ''. value 0 σ'')))
  -- the variable is unit before the first item; every round in the same scope
  run_head (for x e mark) body branch A n σ =
      bind_g (evaluate e A σ) (λ v σ₁.
      bind_g (gotten (asks (iterate v) A σ₁)) (λ it σ₂.
      closing (length σ₂.env)
      (rounds (λ k σ₃. bind_n (asks (next it) (in_for it A) σ₃) (λ u σ₄. scoped body (in_for it A) k (declared x.bytes u false σ₄))) n (declared x.bytes 0 false (opened σ₂)))))
  run_head (if e) body branch A n σ = bind_g (evaluate e A σ) (λ v σ'. test (truth v) e.at σ' (scoped body A n σ') (scoped branch A n σ'))
  run_head (while e mark) body branch A n σ = rounds (while_round (endless e) e body A) n σ
  -- the body, then the test; a `continue` begins the body anew, untested
  run_head (do_loop until e mark) body branch A n σ =
      rounds (λ k σ₁. bind_v (scoped body A k σ₁) (λ w σ₂. bind_g (evaluate e A σ₂) (λ v σ₃. round_on until (truth v) e.at σ₃))) n σ
  run_head (break e) body branch A n σ = bind_g (evaluate_any e A σ) broke
  run_head continue body branch A n σ = continued σ
  run_head (return e) body branch A n σ = bind_g (evaluate_any e A σ) returned
  run_head (throw e at) body branch A n σ = bind_g (evaluate_any e A σ) (λ v σ'. fault v at σ')

  -- Trees: a statement, and a list of statements after one whose value was v.
  abbrev mutual
    pub run : Stmt → Running
    run (node h B C) = run_head h (run_list B 0) (run_list C 0)

    pub run_list : Block → ℕ → Running
    run_list nil v A n σ = value v σ
    run_list (more s b) v A n σ = bind_v (run s A n σ) (λ u σ'. run_list b u A n σ')

  -- ## The whole script

  abbrev pub outermost : Around
  outermost = record { iters = []; tries = 0 }

  -- Fed so many events from the beginning, at most n rounds of each loop.
  abbrev pub run_script : Block → List Event → ℕ → Out
  run_script b f n = run_list b 0 outermost n (st (no_scope ∷ []) (record { feed = f; asked = [] }))
