-- The targets of a segment are near.
use Rattle.std.proofs.Common.{◌≡◌, ℕ, ◌≤◌, true, false, ltb, leb, List, [], ◌∷◌, length, refl, arith, lt-ltb, leb-true}
use borrow.Author.Tests.{both_ways}
use Rattle.std.proofs.lemmas.Bool.{and_parts, and_from}
use Rattle.code.specs.declared.ops.Op.{Op}
use Rattle.code.specs.declared.ops.Op.TheVariants.{Unit as UnitOp, Bool as BoolOp, StoreLocal, LoadNamed, AssignNamed, AssignLocal, DeclareLocal, Pop, Jump, JumpIfTrue, JumpIfFalse, Rotate, UnwindTo, Tick, Checkpoint, EvalAst, PushHandler, PopHandler, IterInit, IterNext, IterDrop, StoreShared, Throw, Return, EvalExpr, Foreign}
use Rattle.code.specs.declared.ops.Instr.{Instr}
use Rattle.meaning.specs.Fed.{Tables}
use Rattle.meaning.specs.Writer.{Writer, Lawful, is_plain, all_plain}
use Rattle.meaning.specs.SetCode.{target_of, target_fine, targets_fine}

module _ (names exprs len : ℕ) (short : len ≤ 64) where
  near : (t : ℕ) → leb t len ≡ true → ltb t 65 ≡ true
  near t h = lt-ltb t 65 (omega (arith, leb-true t len h))

  none-such : {A : Type 0} → false ≡ true → A
  none-such e = absurd (both_ways false refl e)

  plain-near : (o : Op) → is_plain names exprs len o ≡ true → target_fine 65 (target_of o) ≡ true
  plain-near UnitOp h = refl
  plain-near (BoolOp b) h = refl
  plain-near (StoreLocal i k) h = refl
  plain-near (LoadNamed x) h = refl
  plain-near (AssignNamed x o) h = refl
  plain-near (AssignLocal i x o) h = refl
  plain-near (DeclareLocal x k g) h = refl
  plain-near Pop h = refl
  plain-near (Jump t) h = near t h
  plain-near (JumpIfTrue t) h = near t h
  plain-near (JumpIfFalse t) h = near t h
  plain-near (Rotate n) h = refl
  plain-near (UnwindTo n) h = refl
  plain-near Tick h = refl
  plain-near Checkpoint h = refl
  plain-near (EvalAst r w) h = refl
  plain-near (PushHandler t x) h = none-such h
  plain-near PopHandler h = refl
  plain-near IterInit h = refl
  plain-near (IterNext t x) h = none-such h
  plain-near IterDrop h = refl
  plain-near (StoreShared i) h = refl
  plain-near Throw h = refl
  plain-near Return h = refl
  plain-near (EvalExpr e) h = refl
  plain-near (Foreign n) h = refl

  all_near : (xs : List Instr) → all_plain names exprs len xs ≡ true → targets_fine 65 xs ≡ true
  all_near [] h = refl
  all_near (x ∷ xs) h =
      let p = and_parts (is_plain names exprs len x.op) (all_plain names exprs len xs) h in
      and_from (target_fine 65 (target_of x.op)) (targets_fine 65 xs) (plain-near x.op p.0) (all_near xs p.1)

pub segment-near : (T : Tables) (exprs : ℕ) (W : Writer) (e : ℕ) → Lawful T exprs W → W.known e ≡ true → targets_fine 65 (W.segment e) ≡ true
segment-near T exprs W e law known = all_near (length T.names) exprs (length (W.segment e)) (omega (arith, law.within e known, law.short)) (W.segment e) (law.plain e known)
