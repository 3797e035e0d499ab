-- What stands for each operation, put one after the other; then the targets outside segments.
use Rattle.std.proofs.Common.{◌≡◌, ℕ, suc, ◌+◌, ◌-◌, ◌<◌, ◌≤◌, Bool, cond, List, ◌∷◌, ◌++◌, length, get_or, take, drop, set, Some, None, Ok, Option, Result, sym, refl, ap, ◌∙◌, subst, append_assoc, add-one, arith, lt-ltb}
use Rattle.std.proofs.lemmas.Grind.{common_steps}
use Rattle.std.proofs.lemmas.List.{at_drop_more, set_split}
use Rattle.records.specs.declared.refusals.Refusal.{Refusal}
use Rattle.code.specs.declared.ops.Op.{Op}
use Rattle.code.specs.declared.ops.Op.TheVariants.{Unit as UnitOp, Bool as BoolOp, StoreLocal, LoadNamed, AssignNamed, AssignLocal, DeclareLocal, Pop, Jump, JumpIfTrue, JumpIfFalse, Rotate, UnwindTo, Tick, Checkpoint, EvalAst, PushHandler, PopHandler, IterInit, IterNext, IterDrop, StoreShared, Throw, Return, EvalExpr, Foreign}
use Rattle.code.specs.declared.ops.Instr.{Instr}
use Rattle.code.specs.declared.ops.Row.{Row}
use Rattle.meaning.specs.Writer.{Writer}
use Rattle.meaning.specs.SetCode.{expr_of, move_op, width, piece, set_from}
use Rattle.setting.specs.Set.{PieceAs, PiecePut, blank}

-- ## One piece

-- An operation whose target stays.
pub stays : (o : Op) → move_op (λ t. t) o ≡ o
stays UnitOp = refl
stays (BoolOp b) = refl
stays (StoreLocal i k) = refl
stays (LoadNamed x) = refl
stays (AssignNamed x o) = refl
stays (AssignLocal i x o) = refl
stays (DeclareLocal x k g) = refl
stays Pop = refl
stays (Jump t) = refl
stays (JumpIfTrue t) = refl
stays (JumpIfFalse t) = refl
stays (Rotate n) = refl
stays (UnwindTo n) = refl
stays Tick = refl
stays Checkpoint = refl
stays (EvalAst r w) = refl
stays (PushHandler t x) = refl
stays PopHandler = refl
stays IterInit = refl
stays (IterNext t x) = refl
stays IterDrop = refl
stays (StoreShared i) = refl
stays Throw = refl
stays Return = refl
stays (EvalExpr e) = refl
stays (Foreign n) = refl

module _ (W : Writer) (rows : List Row) (x : Instr) (at : ℕ) (b : List Instr) where
  pub piece-as : (o : Option ℕ) (r : Result ℕ Refusal) (a : List Instr) → o ≡ expr_of rows x.op → PieceAs W rows x o at b r a → PiecePut W rows x at b r a
  piece-as o r a e p = subst (λ (k : Option ℕ). PieceAs W rows x k at b r a) e p

  -- Any other operation.
  pub piece-alone : at < length b → PieceAs W rows x None at b (Ok (at + 1)) (set b at x)
  piece-alone h =
      let same : record { op = move_op (λ t. t) x.op; at = x.at } ≡ x = ap (λ (o : Op). record { op = o; at = x.at }) (stays x.op) in
      let n : at + 1 ≡ suc at = add-one at in (
        ap (λ (t : Bool). cond {A = Option ℕ} t None (Some 23)) (lt-ltb 0 (length b - at) (omega arith)),
        omega arith,
        omega arith,
        set_split b at x h ∙ ap (λ (z : Instr). take at b ++ (z ∷ drop (suc at) b)) (sym same) ∙ ap (λ (k : ℕ). take at b ++ (record { op = move_op (λ t. t) x.op; at = x.at } ∷ drop k b)) (sym n),
      )

-- ## All pieces

-- One more piece stands.
module _ (W : Writer) (rows : List Row) (ops : List Instr) (i : ℕ) (h : i < length ops) where
  abbrev op : Instr
  op = get_or ops i blank

  module _ (μ : ℕ → ℕ) (at n : ℕ) (b a : List Instr) (within : at ≤ length b) (wide : n ≡ width W rows op + at) (is : a ≡ take at b ++ (piece W rows μ at op ++ drop n b)) (long : length (piece W rows μ at op) ≡ width W rows op) where
    pub code-on : (whole : List Instr) → whole ≡ take at b ++ set_from W rows μ at (drop i ops) → whole ≡ take n a ++ set_from W rows μ n (drop (i + 1) ops)
    code-on whole e =
        let now : take n a ≡ take at b ++ piece W rows μ at op = grind (arith, common_steps) in
        rw (now, wide) (e ∙ ap (λ (zs : List Instr). take at b ++ zs) (at_drop_more (set_from W rows μ at) ops i blank h) ∙ sym (append_assoc (take at b) (piece W rows μ at op) _))
