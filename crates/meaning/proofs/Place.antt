-- Where a statement's code stands: a relation between trees and places, which is all that the proof of the agreement
-- knows of lowering. Every place is a variable; what it means that an operation or an expression's code stands
-- somewhere is a parameter, so that the same relation serves lowered code and set code.
use Rattle.std.proofs.Common.{◌≡◌, ℕ, zero, suc, ◌+◌, ◌-◌, ◌≤◌, max, Bool, true, false, cond, ◌||◌, eqb, ◌⊎◌, List, [], ◌∷◌, ◌++◌, length, Some, None, Option}
use Rattle.records.specs.declared.types.Position.{Position}
use Rattle.records.specs.Tree.{Name, Exp, Oper, Head, Head.noop, Head.var, Head.expr, Head.call, Head.assign, Head.other, Head.block, Head.try, Head.for, Head.if, Head.while, Head.do_loop, Head.break, Head.continue, Head.return, Head.throw, Tree.node, Forest.nil, Forest.more, Stmt, Block, nowhere}
use Rattle.code.specs.declared.ops.Op.{Op}
use Rattle.code.specs.declared.ops.Op.TheVariants.{Unit as UnitOp, StoreLocal, AssignNamed, AssignLocal, DeclareLocal, Pop, Jump, JumpIfFalse, Rotate, UnwindTo, Tick, Checkpoint, EvalAst, PushHandler, PopHandler, IterInit, IterNext, IterDrop, StoreShared, Throw, Return}
use Rattle.meaning.specs.Reading.{Bytes, same_bytes, Sign, sign_of}
use Rattle.meaning.specs.Run.{endless}
use Rattle.meaning.specs.Breaks.{has_break_value}
use Rattle.meaning.specs.Agreement.{Heights}

-- ## What a tree's code leaves behind

-- Does a statement's code leave a value? By its head, whether body and branch leave one, and whether a break with a
-- value belongs to it.
abbrev pub kind_head : Head → Bool → Bool → Bool → Bool
kind_head noop b c v = false
kind_head (var k x e r) b c v = false
kind_head (expr e) b c v = true
kind_head (call x i) b c v = true
kind_head (assign x e o p q) b c v = false
kind_head (other i) b c v = true
kind_head block b c v = b
kind_head (try x p) b c v = b
kind_head (for x e p) b c v = v
kind_head (if e) b c v = b || c
kind_head (while e p) b c v = v
kind_head (do_loop u e p) b c v = v
kind_head (break e) b c v = false
kind_head continue b c v = false
kind_head (return e) b c v = false
kind_head (throw e p) b c v = false

-- A statement; a list of statements after one that left a value or not.
abbrev mutual
  pub kind : Stmt → Bool
  kind (node h B C) = kind_head h (kind_list false B) (kind_list false C) (has_break_value B)

  pub kind_list : Bool → Block → Bool
  kind_list κ nil = κ
  kind_list κ (more s b) = kind_list (kind s) b

-- How many `for` and `try` stand inside one another.
abbrev pub deep_head : Head → ℕ → ℕ
deep_head noop n = n
deep_head (var k x e r) n = n
deep_head (expr e) n = n
deep_head (call x i) n = n
deep_head (assign x e o p q) n = n
deep_head (other i) n = n
deep_head block n = n
deep_head (try x p) n = suc n
deep_head (for x e p) n = suc n
deep_head (if e) n = n
deep_head (while e p) n = n
deep_head (do_loop u e p) n = n
deep_head (break e) n = n
deep_head continue n = n
deep_head (return e) n = n
deep_head (throw e p) n = n

abbrev mutual
  pub deep : Stmt → ℕ
  deep (node h B C) = deep_head h (max (deep_list B) (deep_list C))

  pub deep_list : Block → ℕ
  deep_list nil = 0
  deep_list (more s b) = max (deep s) (deep_list b)

-- ## Names of slots

-- The names of the slots of each scope, the innermost scope first, the oldest slot first.
abbrev pub Scopes : Type 0
Scopes = List (List Bytes)

abbrev pub flat : Scopes → List Bytes
flat [] = []
flat (n ∷ ns) = flat ns ++ n

-- How many slots there are.
abbrev pub depth : Scopes → ℕ
depth [] = 0
depth (n ∷ ns) = length n + depth ns

abbrev pub add_name : Bytes → Scopes → Scopes
add_name x [] = []
add_name x (n ∷ ns) = (n ++ x ∷ []) ∷ ns

-- The newest slot of a name: the last one met from the oldest on.
abbrev pub resolve_from : Bytes → ℕ → Option ℕ → List Bytes → Option ℕ
resolve_from x i o [] = o
resolve_from x i o (y ∷ ys) = resolve_from x (i + 1) (cond (same_bytes y x) (Some i) o) ys

abbrev pub resolve : Bytes → Scopes → Option ℕ
resolve x ns = resolve_from x 0 None (flat ns)

-- The slots of the scopes around the innermost one.
abbrev pub outside : Scopes → ℕ
outside [] = 0
outside (n ∷ ns) = depth ns

-- Only a declaration without reuse adds a slot that lasts.
abbrev pub after : Scopes → Stmt → Scopes
after ns (node noop B C) = ns
after ns (node (var k x e r) B C) = cond (eqb r 0) (add_name x.bytes ns) ns
after ns (node (expr e) B C) = ns
after ns (node (call x i) B C) = ns
after ns (node (assign x e o p q) B C) = ns
after ns (node (other i) B C) = ns
after ns (node block B C) = ns
after ns (node (try x p) B C) = ns
after ns (node (for x e p) B C) = ns
after ns (node (if e) B C) = ns
after ns (node (while e p) B C) = ns
after ns (node (do_loop u e p) B C) = ns
after ns (node (break e) B C) = ns
after ns (node continue B C) = ns
after ns (node (return e) B C) = ns
after ns (node (throw e p) B C) = ns

abbrev pub after_list : Scopes → Block → Scopes
after_list ns nil = ns
after_list ns (more s b) = after_list (after ns s) b

-- A catch name, or none, in a scope of its own.
abbrev pub catch_scope : Option Name → List Bytes
catch_scope None = []
catch_scope (Some x) = x.bytes ∷ []

-- ## Where code stands

-- The loop around: where `continue` and `break` go, whether it has a break value, the scopes that they leave, and how
-- many handlers and iterators there are to give up on the way.
pub record LoopAt : Type 0 where
  pub cont : ℕ
  pub brk : ℕ
  pub hasv : Bool
  pub bns : Scopes
  pub cns : Scopes
  pub pops : ℕ
  pub bdrops : ℕ
  pub cdrops : ℕ

-- What stands around a statement's code: the loop, the slots' names, the open iterators and the handlers.
pub record Ctx : Type 0 where
  pub loop : Option LoopAt
  pub ns : Scopes
  pub its : ℕ
  pub hands : ℕ

abbrev pub in_scopes : Scopes → Ctx → Ctx
in_scopes ns c = record { loop = c.loop; ns = ns; its = c.its; hands = c.hands }

abbrev pub in_loop : LoopAt → Ctx → Ctx
in_loop l c = record { loop = Some l; ns = c.ns; its = c.its; hands = c.hands }

-- Inside a `try`: one handler more to give up.
abbrev pub deeper_loop : Option LoopAt → Option LoopAt
deeper_loop None = None
deeper_loop (Some l) = Some (record { cont = l.cont; brk = l.brk; hasv = l.hasv; bns = l.bns; cns = l.cns; pops = suc l.pops; bdrops = l.bdrops; cdrops = l.cdrops })

abbrev pub in_try_code : Ctx → Ctx
in_try_code c = record { loop = deeper_loop c.loop; ns = c.ns; its = c.its; hands = suc c.hands }

abbrev pub less_hands : Ctx → Ctx
less_hands c = record { loop = c.loop; ns = c.ns; its = c.its; hands = c.hands - 1 }

abbrev pub less_iters : Ctx → Ctx
less_iters c = record { loop = c.loop; ns = c.ns; its = c.its - 1; hands = c.hands }

-- With one more iterator open.
abbrev pub up_iters : Ctx → Ctx
up_iters c = record { loop = c.loop; ns = c.ns; its = suc c.its; hands = c.hands }

-- Around the outermost statements.
abbrev pub top_ctx : Ctx
top_ctx = record { loop = None; ns = [] ∷ []; its = 0; hands = 0 }

abbrev pub one : Bool → ℕ
one true = 1
one false = 0

abbrev pub heights : ℕ → Ctx → Heights
heights v c = record { values = v; slots = depth c.ns; iters = c.its; handlers = c.hands }

-- What it means that code stands somewhere.
pub record Layout : Type 1 where
  -- an operation at a position, met at these heights, stands at a place; another place follows it
  pub Op' : Op → Position → Heights → ℕ → ℕ → Type 0
  -- the code of an expression stands from a place up to another
  pub Exp' : ℕ → ℕ → ℕ → Type 0
  -- the number of a name, of an operator row, of the residual row of a node
  pub Name' : ℕ → Bytes → Type 0
  pub Oper' : ℕ → Sign → Type 0
  pub Row' : ℕ → ℕ → Type 0
  -- there is room for a slot more where so many are live
  pub Room' : ℕ → Type 0

module _ (P : Layout) where
  -- An operation that has no position, or has one.
  abbrev pub Ins : Op → ℕ → Ctx → ℕ → ℕ → Type 0
  Ins o v c a b = P.Op' o nowhere (heights v c) a b

  abbrev pub InsAt : Op → Position → ℕ → Ctx → ℕ → ℕ → Type 0
  InsAt o p v c a b = P.Op' o p (heights v c) a b

  -- A jump, or nothing where it would only go on.
  abbrev pub Hop : ℕ → Ctx → ℕ → ℕ → Type 0
  Hop v c a b = (a ≡ b) ⊎ ((n : ℕ) × Ins (Jump b) v c a n)

  -- From code that leaves a value or not to code that is to leave one or not.
  abbrev pub Glue : Bool → Bool → Ctx → ℕ → ℕ → Type 0
  Glue false false c a b = Hop 0 c a b
  Glue true true c a b = Hop 1 c a b
  Glue false true c a b = (t u : ℕ) × Hop 0 c a t × Ins UnitOp 0 c t u × Hop 1 c u b
  Glue true false c a b = ⊥

  -- A value, if there is one, is dropped.
  abbrev pub Drop : Bool → Ctx → ℕ → ℕ → Type 0
  Drop false c a b = a ≡ b
  Drop true c a b = Ins Pop 1 c a b

  abbrev pub Pops : ℕ → ℕ → Ctx → ℕ → ℕ → Type 0
  Pops v zero c a b = a ≡ b
  Pops v (suc n) c a b = (m : ℕ) × Ins PopHandler v c a m × Pops v n (less_hands c) m b

  abbrev pub Drops : ℕ → ℕ → Ctx → ℕ → ℕ → Type 0
  Drops v zero c a b = a ≡ b
  Drops v (suc n) c a b = (m : ℕ) × Ins IterDrop v c a m × Drops v n (less_iters c) m b

  -- Slots above those of `to` are dropped, where there may be any.
  abbrev pub Unwind : Bool → Ctx → Scopes → ℕ → ℕ → Type 0
  Unwind κ c to a b = ((depth c.ns ≡ depth to) × (a ≡ b)) ⊎ Ins (UnwindTo (depth to)) (one κ) c a b

  -- After so many handlers or iterators were given up.
  abbrev pub up_to : ℕ → ℕ → Ctx → Ctx
  up_to k d c = record { loop = c.loop; ns = c.ns; its = c.its - d; hands = c.hands - k }

  -- Out of a loop or back to its top: handlers, iterators and slots are given up, then a jump.
  abbrev pub Leave : Bool → LoopAt → ℕ → Scopes → Ctx → ℕ → ℕ → Type 0
  Leave κ l d to c a t =
      (m u w x : ℕ) × Pops (one κ) l.pops c a m × Drops (one κ) d (up_to l.pops 0 c) m u
      × Ins (UnwindTo (depth to)) (one κ) (up_to l.pops d c) u w × Ins (Jump t) (one κ) (in_scopes to (up_to l.pops d c)) w x

  -- A break without a value, in a loop that has a break value.
  abbrev pub Blank : Bool → Ctx → ℕ → ℕ → Type 0
  Blank false c a b = a ≡ b
  Blank true c a b = (t : ℕ) × Ins UnitOp 0 c a t × Ins (Rotate 0) 1 c t b

  abbrev pub Break : Option LoopAt → Option Exp → Ctx → ℕ → Type 0
  Break None e c a = ⊥
  Break (Some l) None c a = (m : ℕ) × Blank l.hasv c a m × Leave l.hasv l l.bdrops l.bns c m l.brk
  Break (Some l) (Some e) c a = (m u : ℕ) × (l.hasv ≡ true) × P.Exp' e.number a m × Ins (Rotate 0) 1 c m u × Leave true l l.bdrops l.bns c u l.brk

  abbrev pub Continue : Option LoopAt → Ctx → ℕ → Type 0
  Continue None c a = ⊥
  Continue (Some l) c a = Leave false l l.cdrops l.cns c a l.cont

  -- An expression, or unit.
  abbrev pub ExpAny : Option Exp → Ctx → ℕ → ℕ → Type 0
  ExpAny None c a b = Ins UnitOp 0 c a b
  ExpAny (Some e) c a b = P.Exp' e.number a b

  -- An operator row, or none.
  abbrev pub OperAny : Option Oper → Option ℕ → Type 0
  OperAny None None = Unit {0}
  OperAny None (Some r) = ⊥
  OperAny (Some o) None = ⊥
  OperAny (Some o) (Some r) = P.Oper' r (sign_of o)

  -- A catch name, or none.
  abbrev pub NameAny : Option Name → Option ℕ → Ctx → Type 0
  NameAny None None c = Unit {0}
  NameAny None (Some x) c = ⊥
  NameAny (Some n) None c = ⊥
  NameAny (Some n) (Some x) c = P.Name' x n.bytes × P.Room' (depth c.ns)

  abbrev pub Assigns : Option ℕ → ℕ → Option ℕ → Position → Position → Ctx → ℕ → ℕ → Type 0
  Assigns (Some i) x o at mark c a b = InsAt (AssignLocal i x o) at 1 c a b
  Assigns None x o at mark c a b = InsAt (AssignNamed x o) mark 1 c a b

  -- A declaration: a new slot, or the newest slot of that name if it is of the same block.
  abbrev pub Declares : Bool → Bool → Bytes → Ctx → ℕ → ℕ → Type 0
  Declares true k x c a b = (n : ℕ) × (g : Bool) × P.Name' n x × P.Room' (depth c.ns) × Ins (DeclareLocal n k g) 1 c a b
  Declares false k x c a b = (i : ℕ) × (resolve x c.ns ≡ Some i) × (outside c.ns ≤ i) × Ins (StoreLocal i k) 1 c a b

  -- A test, unless the loop is endless.
  abbrev pub Tests : Bool → Exp → Ctx → ℕ → ℕ → ℕ → Type 0
  Tests true e c f a b = a ≡ b
  Tests false e c f a b = (m : ℕ) × P.Exp' e.number a m × InsAt (JumpIfFalse f) e.at 1 c m b

  -- Where an endless loop cannot be left by its test, there is no way from there.
  abbrev pub Exits : Bool → Bool → Ctx → ℕ → ℕ → Type 0
  Exits true v c f b = Unit {0}
  Exits false v c f b = Glue false v c f b

  -- The test of a `do`: back to the top, or on.
  abbrev pub DoTest : Bool → Position → Ctx → ℕ → ℕ → ℕ → Type 0
  DoTest true p c top a f = InsAt (JumpIfFalse top) p 1 c a f
  DoTest false p c top a f = (m n : ℕ) × InsAt (JumpIfFalse f) p 1 c a m × Ins (Jump top) 0 c m n

  -- A `Checkpoint` before a statement, where the scope is kept.
  abbrev pub Checks : Bool → Ctx → ℕ → ℕ → Type 0
  Checks false c a b = a ≡ b
  Checks true c a b = Ins Checkpoint 0 c a b

  abbrev pub while_loop : ℕ → ℕ → Bool → Ctx → Ctx
  while_loop top b v c = in_loop (record { cont = top; brk = b; hasv = v; bns = c.ns; cns = c.ns; pops = 0; bdrops = 0; cdrops = 0 }) c

  abbrev pub for_loop : ℕ → ℕ → Bool → Bytes → Ctx → Ctx
  for_loop top b v x c = record { loop = Some (record { cont = top; brk = b; hasv = v; bns = c.ns; cns = (x ∷ []) ∷ c.ns; pops = 0; bdrops = 1; cdrops = 0 }); ns = (x ∷ []) ∷ c.ns; its = suc c.its; hands = c.hands }

  -- A statement's code by its head, given where a block's code stands and what it leaves: body and branch.
  abbrev pub CodeHead : Head → (Ctx → ℕ → ℕ → Type 0) → Bool → (Ctx → ℕ → ℕ → Type 0) → Bool → Bool → Ctx → ℕ → ℕ → Type 0
  CodeHead noop B κ C λ' v c a b = a ≡ b
  CodeHead (var k x e r) B κ C λ' v c a b = (m : ℕ) × P.Exp' e.number a m × Declares (eqb r 0) k x.bytes c m b
  CodeHead (expr e) B κ C λ' v c a b = P.Exp' e.number a b
  CodeHead (call x i) B κ C λ' v c a b = (r : ℕ) × P.Row' r i × Ins (EvalAst r true) 0 c a b
  CodeHead (assign x e o at mark) B κ C λ' v c a b =
      (n m : ℕ) × (r : Option ℕ) × P.Name' n x.bytes × P.Exp' e.number a m × OperAny o r × Assigns (resolve x.bytes c.ns) n r at mark c m b
  CodeHead (other i) B κ C λ' v c a b = (r : ℕ) × P.Row' r i × Ins (EvalAst r true) 0 c a b
  CodeHead block B κ C λ' v c a b = B c a b
  CodeHead (try x mark) B κ C λ' v c a b =
      (m u w z p i j k l : ℕ) × (n : Option ℕ) × NameAny x n c × InsAt (PushHandler p n) mark 0 c a m
      × B (in_try_code c) m u × Ins PopHandler (one κ) (in_try_code c) u w × Ins (Jump b) (one κ) c w z
      × C (in_scopes (catch_scope x ∷ c.ns) (in_try_code c)) p i × Drop λ' (in_scopes (catch_scope x ∷ c.ns) (in_try_code c)) i j
      × Unwind false (in_scopes (catch_scope x ∷ c.ns) (in_try_code c)) c.ns j k × Ins PopHandler 0 (in_try_code c) k l × Glue false κ c l b
  CodeHead (for x e mark) B κ C λ' v c a b =
      (d m n u w top y z i j k f g : ℕ) × P.Name' d x.bytes × P.Room' (depth c.ns) × P.Exp' e.number a m × InsAt IterInit e.start 1 c m n
      × Ins UnitOp 0 (up_iters c) n u × Ins (DeclareLocal d false false) 1 (up_iters c) u w × InsAt Tick mark 0 (for_loop top b v x.bytes c) w top
      × InsAt (IterNext f None) e.at 0 (for_loop top b v x.bytes c) top y × Ins (StoreShared (depth c.ns)) 1 (for_loop top b v x.bytes c) y z
      × B (for_loop top b v x.bytes c) z i × Drop κ (for_loop top b v x.bytes c) i j × Ins (Jump top) 0 (for_loop top b v x.bytes c) j k
      × Ins (UnwindTo (depth c.ns)) 0 (in_scopes ((x.bytes ∷ []) ∷ c.ns) c) f g × Glue false v c g b
  CodeHead (if e) B κ C λ' v c a b =
      (m u w f x : ℕ) × P.Exp' e.number a m × InsAt (JumpIfFalse f) e.at 1 c m u
      × B c u w × Glue κ (κ || λ') c w b × C c f x × Glue λ' (κ || λ') c x b
  CodeHead (while e mark) B κ C λ' v c a b =
      (top u w x y f : ℕ) × InsAt Tick mark 0 c a top × Tests (endless e) e c f top u
      × B (while_loop top b v c) u w × Drop κ c w x × Ins (Jump top) 0 c x y × Exits (endless e) v c f b
  CodeHead (do_loop until e mark) B κ C λ' v c a b =
      (top u w m f : ℕ) × InsAt Tick mark 0 c a top × B (while_loop top b v c) top u × Drop κ c u w
      × P.Exp' e.number w m × DoTest until e.at c top m f × Glue false v c f b
  CodeHead (break e) B κ C λ' v c a b = Break c.loop e c a
  CodeHead continue B κ C λ' v c a b = Continue c.loop c a
  CodeHead (return e) B κ C λ' v c a b = (m n : ℕ) × ExpAny e c a m × Ins Return 1 c m n
  CodeHead (throw e at) B κ C λ' v c a b = (m n : ℕ) × ExpAny e c a m × InsAt Throw at 1 c m n

  -- A block, given where its list of statements stands: a scope opens, and its slots are dropped at its end.
  abbrev pub Scoped : Block → (Ctx → ℕ → ℕ → Type 0) → Ctx → ℕ → ℕ → Type 0
  Scoped B L c a b = (m : ℕ) × L (in_scopes ([] ∷ c.ns) c) a m × Unwind (kind_list false B) (in_scopes (after_list ([] ∷ c.ns) B) c) c.ns m b

  -- A statement; a list of statements, with checkpoints or not, after one that left a value or not.
  abbrev mutual
    pub Code : Stmt → Ctx → ℕ → ℕ → Type 0
    Code (node h B C) c a b = CodeHead h (Scoped B (λ d x y. CodeList B false false d x y)) (kind_list false B) (Scoped C (λ d x y. CodeList C false false d x y)) (kind_list false C) (has_break_value B) c a b

    pub CodeList : Block → Bool → Bool → Ctx → ℕ → ℕ → Type 0
    CodeList nil k κ c a b = a ≡ b
    CodeList (more s B) k κ c a b = (m n u : ℕ) × Drop κ c a m × Checks k c m n × Code s c n u × CodeList B k (kind s) (in_scopes (after c.ns s) c) u b

  -- A whole script: its statements, `Unit` if the last leaves no value, `Return`.
  abbrev pub CodeScript : Bool → Block → Type 0
  CodeScript k B = (m n z : ℕ) × CodeList B k false top_ctx 0 m × Glue (kind_list false B) true (in_scopes (after_list ([] ∷ []) B) top_ctx) m n × Ins Return 1 (in_scopes (after_list ([] ∷ []) B) top_ctx) n z
