-- All pieces stand and all targets are moved: the set code stands.
use Rattle.std.proofs.Common.{◌≡◌, ℕ, zero, suc, ◌+◌, ◌-◌, ◌<◌, ◌≤◌, Bool, true, false, cond, ltb, List, [], ◌∷◌, ◌++◌, length, get_or, take, drop, replicate, Some, None, Ok, Err, Option, Result, sym, refl, ap, ◌∙◌, ap₂, append_assoc, arith, length-append, take-append-drop, take_at, ltb-true}
use Rattle.std.specs.Result.{result_unwrap_or}
use lib.Seq.{set_at}
use Rattle.std.proofs.lemmas.List.{length-take-le}
use Rattle.std.proofs.lemmas.Bool.{and_parts}
use Rattle.std.proofs.lemmas.Bool.Decides.{nat_tests}
use Rattle.code.specs.declared.ops.Op.{Op}
use Rattle.code.specs.declared.ops.Op.TheVariants.{Unit as UnitOp, Bool as BoolOp, StoreLocal, LoadNamed, AssignNamed, AssignLocal, DeclareLocal, Pop, Jump, JumpIfTrue, JumpIfFalse, Rotate, UnwindTo, Tick, Checkpoint, EvalAst, PushHandler, PopHandler, IterInit, IterNext, IterDrop, StoreShared, Throw, Return, EvalExpr, Foreign}
use Rattle.code.specs.declared.ops.Instr.{Instr}
use Rattle.code.specs.declared.ops.Row.{Row}
use Rattle.records.specs.Tree.{Records}
use Rattle.records.specs.declared.refusals.Refusal.{Refusal}
use Rattle.meaning.specs.Writer.{Writer}
use Rattle.meaning.specs.SetCode.{expr_of, target_of, target_fine, targets_fine, move_op, shift_all, width_of, width, place_of, piece_of, piece, set_from, set_code, set_fault}
use Rattle.meaning.proofs.Setting.{piece-length}
use Rattle.blanks.proofs.Blanked.{blanked}
use Rattle.setting.specs.Set.{numbered, fault, outcome, kept, padded, blank, move_at, moved_from, SetDone, SetBy}

-- ## Targets inside more places

pub targets-more : (n m : ℕ) → n ≤ m → (xs : List Instr) → targets_fine n xs ≡ true → targets_fine m xs ≡ true
targets-more n m h [] e = refl
targets-more n m h (x ∷ xs) e = let rest = targets-more n m h xs in grind (arith, nat_tests, rest)

-- ## Maps of places that agree on all targets

module _ (μ ν : ℕ → ℕ) (n : ℕ) (same : (t : ℕ) → t < n → μ t ≡ ν t) where
  at_target : (t : ℕ) → ltb t n ≡ true → μ t ≡ ν t
  at_target t h = same t (ltb-true t n h)

  same_op : (o : Op) → target_fine n (target_of o) ≡ true → move_op μ o ≡ move_op ν o
  same_op UnitOp h = refl
  same_op (BoolOp b) h = refl
  same_op (StoreLocal i k) h = refl
  same_op (LoadNamed x) h = refl
  same_op (AssignNamed x o) h = refl
  same_op (AssignLocal i x o) h = refl
  same_op (DeclareLocal x k g) h = refl
  same_op Pop h = refl
  same_op (Jump t) h = ap Jump (at_target t h)
  same_op (JumpIfTrue t) h = ap JumpIfTrue (at_target t h)
  same_op (JumpIfFalse t) h = ap JumpIfFalse (at_target t h)
  same_op (Rotate k) h = refl
  same_op (UnwindTo k) h = refl
  same_op Tick h = refl
  same_op Checkpoint h = refl
  same_op (EvalAst r w) h = refl
  same_op (PushHandler t x) h = ap (λ (k : ℕ). PushHandler k x) (at_target t h)
  same_op PopHandler h = refl
  same_op IterInit h = refl
  same_op (IterNext t x) h = ap (λ (k : ℕ). IterNext k x) (at_target t h)
  same_op IterDrop h = refl
  same_op (StoreShared i) h = refl
  same_op Throw h = refl
  same_op Return h = refl
  same_op (EvalExpr e) h = refl
  same_op (Foreign k) h = refl

  module _ (W : Writer) (rows : List Row) where
    same-piece : (at : ℕ) (x : Instr) (o : Option ℕ) → target_fine n (target_of x.op) ≡ true → piece_of W rows μ at x o ≡ piece_of W rows ν at x o
    same-piece at x None h = ap (λ (o : Op). record { op = o; at = x.at } ∷ []) (same_op x.op h)
    same-piece at x (Some e) h = refl

    pub same_set : (at : ℕ) (xs : List Instr) → targets_fine n xs ≡ true → set_from W rows μ at xs ≡ set_from W rows ν at xs
    same_set at [] h = refl
    same_set at (x ∷ xs) h =
        let p = and_parts (target_fine n (target_of x.op)) (targets_fine n xs) h in
        ap₂ ◌++◌ (same-piece at x (expr_of rows x.op) p.0) (same_set (width W rows x + at) xs p.1)

module _ (W : Writer) (rows : List Row) where
  -- ## Lengths

  pub set-length : (μ : ℕ → ℕ) (at : ℕ) (xs : List Instr) → length (set_from W rows μ at xs) ≡ place_of W rows xs (length xs)
  set-length μ at [] = refl
  set-length μ at (x ∷ xs) =
      length-append (piece W rows μ at x) (set_from W rows μ (width W rows x + at) xs)
      ∙ ap₂ ◌+◌ (piece-length W rows μ 0 at x (expr_of rows x.op)) (set-length μ (width W rows x + at) xs)

  -- What stands for an operation ends where the code ends, or before.
  pub place-below : (xs : List Instr) (i : ℕ) → i < length xs → place_of W rows xs i + width W rows (get_or xs i blank) ≤ place_of W rows xs (length xs)
  place-below [] i h = absurd (omega arith)
  place-below (x ∷ xs) zero h = omega arith
  place-below (x ∷ xs) (suc i) h = let l = place-below xs i (omega arith) in omega arith

  -- ## Moving all targets

  -- The rest of the operations, after a list that stands.
  abbrev Rest : (ℕ → ℕ) → ℕ → List Instr → List Instr → Type 0
  Rest μ i xs tail =
      (p : List Instr) (at : ℕ) → length p ≡ at → ((j : ℕ) → j < length xs → μ (i + j) ≡ place_of W rows xs j + at)
      → moved_from rows μ i xs (p ++ (set_from W rows (λ t. t) at xs ++ tail)) ≡ p ++ (set_from W rows μ at xs ++ tail)

  moved : (μ : ℕ → ℕ) (i : ℕ) (xs tail : List Instr) → Rest μ i xs tail
  moved μ i [] tail p at long places = refl
  moved μ i (x ∷ xs) tail p at long places = go (moved μ (suc i) xs tail) (expr_of rows x.op) refl
    where
      next : (w j : ℕ) → w ≡ width W rows x → j < length xs → μ (suc i + j) ≡ place_of W rows xs j + (w + at)
      next w j e h =
          let q : suc i + j ≡ i + suc j = omega arith in
          let a : (width W rows x + place_of W rows xs j) + at ≡ place_of W rows xs j + (w + at) = omega arith in
          ap μ q ∙ places (suc j) (omega arith) ∙ a

      -- the piece q is put, and the rest follows
      follows : Rest μ (suc i) xs tail
          → (q : List Instr) (w : ℕ) → w ≡ width W rows x → length q ≡ w
          → moved_from rows μ (suc i) xs (p ++ (q ++ (set_from W rows (λ t. t) (w + at) xs ++ tail))) ≡ p ++ (q ++ (set_from W rows μ (w + at) xs ++ tail))
      follows rec q w e l =
          ap (moved_from rows μ (suc i) xs) (sym (append_assoc p q (set_from W rows (λ t. t) (w + at) xs ++ tail)))
          ∙ rec (p ++ q) (w + at) (omega (arith, length-append p q, long, l)) (λ j h. next w j e h)
          ∙ append_assoc p q (set_from W rows μ (w + at) xs ++ tail)

      go : Rest μ (suc i) xs tail
          → (o : Option ℕ) → expr_of rows x.op ≡ o
          → moved_from rows μ (suc i) xs (move_at μ i x o (p ++ ((piece_of W rows (λ t. t) at x o ++ set_from W rows (λ t. t) (width_of W rows o + at) xs) ++ tail)))
          ≡ p ++ ((piece_of W rows μ at x o ++ set_from W rows μ (width_of W rows o + at) xs) ++ tail)
      go rec None q =
          let here : μ i ≡ length p = (let z : i ≡ i + 0 = omega arith in ap μ z) ∙ places 0 (omega arith) ∙ (let z : 0 + at ≡ length p = omega arith in z) in
          let y : Instr = record { op = move_op μ x.op; at = x.at } in
          ap (moved_from rows μ (suc i) xs) (set_at p _ (set_from W rows (λ t. t) (1 + at) xs ++ tail) y (μ i) (sym here))
          ∙ follows rec (y ∷ []) 1 (sym (ap (width_of W rows) q)) refl
      go rec (Some e) q =
          let seg = shift_all at (W.segment e) in
          let w = length (W.segment e) in
          ap (λ (zs : List Instr). moved_from rows μ (suc i) xs (p ++ zs)) (append_assoc seg (set_from W rows (λ t. t) (w + at) xs) tail)
          ∙ follows rec seg w (sym (ap (width_of W rows) q)) (piece-length W rows μ 0 at x (Some e))
          ∙ ap (λ (zs : List Instr). p ++ zs) (sym (append_assoc seg (set_from W rows μ (w + at) xs) tail))

  -- From pieces that stand to the set code.
  module _ (ops : List Instr) (places : List ℕ) (n : ℕ) (a : List Instr) (known : (i : ℕ) → i < length ops → get_or places i 0 ≡ place_of W rows ops i) (within : n ≤ length a)
      (stand : take n a ≡ set_from W rows (λ t. t) 0 ops) where
    abbrev μ : ℕ → ℕ
    μ t = get_or places t 0

    all : place_of W rows ops (length ops) ≡ n
    all = sym (set-length (λ t. t) 0 ops) ∙ ap length (sym stand) ∙ length-take-le n a within

    -- An operation outside segments has its new place inside the slice.
    pub place-within : (i : ℕ) → i < length ops → expr_of rows (get_or ops i blank).op ≡ None → get_or places i 0 < length a
    place-within i h none =
        let w : width W rows (get_or ops i blank) ≡ 1 = ap (width_of W rows) none in
        omega (arith, known i h, place-below ops i h, all)

    pub set-stands : targets_fine (length ops) ops ≡ true → (b : List Instr) → b ≡ moved_from rows μ 0 ops a → take n b ≡ set_code W rows ops
    set-stands fine b is =
        let split : a ≡ set_from W rows (λ t. t) 0 ops ++ drop n a = sym (take-append-drop n a) ∙ ap (λ (zs : List Instr). zs ++ drop n a) stand in
        let at : (j : ℕ) → j < length ops → μ (0 + j) ≡ place_of W rows ops j + 0 =
        λ j h. (let z : 0 + j ≡ j = omega arith in ap μ z) ∙ known j h ∙ (let z : place_of W rows ops j ≡ place_of W rows ops j + 0 = omega arith in z) in
        let moves : b ≡ set_from W rows μ 0 ops ++ drop n a = is ∙ ap (moved_from rows μ 0 ops) split ∙ moved μ 0 ops (drop n a) [] 0 refl at in
        ap (take n) moves ∙ take_at (set_from W rows μ 0 ops) (drop n a) n (set-length μ 0 ops ∙ all)
        ∙ same_set μ (place_of W rows ops) (length ops) known W rows 0 ops fine

-- ## The call

-- What the call answers and leaves, where the code stands and all past it is blank.
module _ (W : Writer) (R : Records) (names : List ℕ) (ops : List Instr) (rows : List Row) (places room : ℕ) (a b : List Instr) where
  abbrev why : Option ℕ
  why = fault W R names ops rows room places

  pub record Ends (r : Result ℕ Refusal) : Type 0 where
    pub answer : numbered r ≡ outcome why (set_code W rows ops)
    pub code : b ≡ padded blank room (kept why (set_code W rows ops))

  module _ (n : ℕ) (same : length a ≡ room) (long : length b ≡ length a) (past : (k : ℕ) → n ≤ k → k < length b → get_or b k blank ≡ blank) (before : (k : ℕ) → k < n → get_or b k blank ≡ get_or a k blank) where
    rest : n ≤ room → b ≡ take n a ++ replicate (room - n) blank
    rest h = blanked blank a b n (omega arith) long past before ∙ ap (λ (k : ℕ). take n a ++ replicate (k - n) blank) same

    pub ends : (r : Result ℕ Refusal) → n ≡ result_unwrap_or r 0 → SetDone W R names ops rows places room r a → Ends r
    ends (Ok m) is d =
        let code : take n a ≡ set_code W rows ops = ap (λ (k : ℕ). take k a) is ∙ d.2 in
        let size : length (set_code W rows ops) ≡ n = ap length (sym code) ∙ length-take-le n a (omega (arith, d.1)) in
        record {
          answer = rw d.0 (ap Ok (sym (size ∙ is)));
          code = rw d.0 (rest (omega (arith, d.1)) ∙ ap (λ (zs : List Instr). zs ++ replicate (room - n) blank) code ∙ ap (λ (k : ℕ). set_code W rows ops ++ replicate (room - k) blank) (sym size));
        }
    ends (Err x) is d = record { answer = rw d refl; code = rw d (rest (omega arith) ∙ ap (λ (k : ℕ). take k a ++ replicate (room - k) blank) is) }

-- Accepted: nothing is refused, the count is that of the set code, which stands at the start.
pub accepted : (W : Writer) (R : Records) (names : List ℕ) (ops : List Instr) (rows : List Row) (places : List ℕ) (out : List Instr) (n : ℕ) (places' : List ℕ) (out' : List Instr)
    → SetBy W R names ops rows places out (Ok n) places' out'
    → (set_fault W rows R ops (length out) (length places) ≡ None) × (n ≡ length (set_code W rows ops)) × (take n out' ≡ set_code W rows ops)
accepted W R names ops rows places out n places' out' s = go (ltb 65536 (length names)) (set_fault W rows R ops (length out) (length places)) s.answer s.code
  where
    go : (t : Bool) (o : Option ℕ) → Ok n ≡ outcome (cond t (Some 10) o) (set_code W rows ops) → out' ≡ padded blank (length out) (kept (cond t (Some 10) o) (set_code W rows ops))
        → (o ≡ None) × (n ≡ length (set_code W rows ops)) × (take n out' ≡ set_code W rows ops)
    go true o e c = absurd (let z : ◌≡◌ {A = ℕ} 0 1 = cc in omega arith)
    go false None e c =
        let q : n ≡ length (set_code W rows ops) = cc in
        (refl, q, ap (take n) c ∙ take_at (set_code W rows ops) (replicate (length out - length (set_code W rows ops)) blank) n (sym q))
    go false (Some k) e c = absurd (let z : ◌≡◌ {A = ℕ} 0 1 = cc in omega arith)
