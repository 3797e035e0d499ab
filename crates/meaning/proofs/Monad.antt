-- Accepted lowering taken apart: the state that each of its steps leaves.
use Rattle.std.proofs.Common.{◌≡◌, ℕ, suc, ◌-◌, max, Bool, true, false, cond, eqb, ltb, [], ◌∷◌, ◌++◌, length, take, drop, set, Some, None, sym, refl, subst, arith}
use Rattle.records.specs.declared.types.Position.{Position}
use Rattle.records.specs.declared.refusals.Refusal.{Refusal}
use Rattle.records.specs.declared.refusals.Refusal.TheVariants.{TooDeep, SlotsFull, NoRoom}
use Rattle.records.specs.Tree.{Records, Exp, nowhere}
use Rattle.code.specs.declared.ops.Op.{Op}
use Rattle.code.specs.declared.ops.Op.TheVariants.{EvalAst, UnwindTo}
use Rattle.code.specs.declared.ops.Row.{Row}
use Rattle.code.specs.declared.shapes.Loop.{Loop}
use Rattle.meaning.specs.LowerState.{Low, Level, Out, Out.ok, Out.no, M, ret, bind, pushed, holding, has_room, with_code, with_rows, with_slots, with_breaks, with_loops, with_iters, with_handlers, with_block, emit_at, emit, here, patch, patch_all, patch_to, patch_here, add_row, depth, may_declare, declare, drop_slots, newest_same, same_name, resolve, enter_block, leave_block, the_block, set_iters, set_handlers, last_loop, innermost, enter_loop, leave_loop, one_break_more, add_break, land}
use Rattle.meaning.specs.Lower.{done, emit_if, residual, expression, unwind_to}

-- The place of the next operation.
abbrev pub at : Low → ℕ
at s = length s.code.held

-- ## States after a step

-- One operation more; one if a test holds.
abbrev pub emitted : Op → Position → Low → Low
emitted o p s = with_code (pushed (record { op = o; at = p }) s.code) s

abbrev pub emitted_if : Bool → Op → Low → Low
emitted_if b o s = with_code (cond b (pushed (record { op = o; at = nowhere }) s.code) s.code) s

abbrev pub patched : ℕ → ℕ → Low → Low
patched site t s = with_code (holding (patch site t s.code.held) s.code) s

-- A row and the operation that works it out.
abbrev pub rowed : ℕ → ℕ → Low → Low
rowed k n s = emitted (EvalAst (length s.rows.held) true) nowhere (with_rows (pushed (record { kind = k; number = n }) s.rows) s)

abbrev pub evaluated : Exp → Low → Low
evaluated e s = rowed 1 e.number s

abbrev pub declared : ℕ → Low → Low
declared l s = with_slots (pushed l s.slots) s

abbrev pub dropped : ℕ → Low → Low
dropped d s = with_slots (holding (take d s.slots.held) s.slots) s

-- Slots past a depth are dropped, by an operation, if there are any: code, slots, the deepest.
abbrev pub unwound : ℕ → Low → Low
unwound d s =
    record {
      code = cond (ltb d (length s.slots.held)) (pushed (record { op = UnwindTo d; at = nowhere }) s.code) s.code;
      rows = s.rows;
      names = s.names;
      opers = s.opers;
      slots = cond (ltb d (length s.slots.held)) (holding (take d s.slots.held) s.slots) s.slots;
      breaks = s.breaks;
      loops = s.loops;
      iters = s.iters;
      handlers = s.handlers;
      block = s.block;
      limit = s.limit;
      deepest = cond (ltb d (length s.slots.held)) (max s.deepest (length (take d s.slots.held))) s.deepest;
    }

abbrev pub in_block : Low → Low
in_block s = with_block (record { level = suc s.block.level; base = length s.slots.held }) s

abbrev pub new_loop : ℕ → ℕ → Bool → Bool → Low → Loop
new_loop top outside owns hasv s = record { continue_target = top; break_depth = outside; continue_depth = length s.slots.held; iters = s.iters; owns_iterator = owns; handlers = s.handlers; breaks = 0; has_break_value = hasv }

abbrev pub looped : ℕ → ℕ → Bool → Bool → Low → Low
looped top outside owns hasv s = with_loops (s.loops ++ new_loop top outside owns hasv s ∷ []) s

abbrev pub unlooped : Low → Low
unlooped s = with_loops (take (length s.loops - 1) s.loops) s

abbrev pub broken : ℕ → Low → Low
broken site s = with_loops (set s.loops (length s.loops - 1) (one_break_more (last_loop s.loops))) (with_breaks (pushed site s.breaks) s)

-- Break places after the first so many land at the next operation.
abbrev pub landed : ℕ → Low → Low
landed kept s = with_breaks (holding (take kept s.breaks.held) s.breaks) (with_code (holding (patch_all (drop kept s.breaks.held) (at s) s.code.held) s.code) s)

-- ## Sequences

pub never : {X : Type 0} {G : Type 0} {e : Refusal} {x : X} {t : Low} → ◌≡◌ {A = Out X} (no e) (ok x t) → G
never h = let z : ◌≡◌ {A = ℕ} 0 1 = cc in absurd (omega arith)

-- A sequence is accepted if its parts are.
pub bind_ok : {X Y : Type 0} (m : M X) (k : X → M Y) (s t : Low) (y : Y) → bind m k s ≡ ok y t → (x : X) × (u : Low) × (m s ≡ ok x u) × (k x u ≡ ok y t)
bind_ok {X} {Y} m k s t y h = go (m s) refl h
  where
    go : (o : Out X) → m s ≡ o → (elim o as (λ _. Out Y) [ ok x u ↦ k x u | no e ↦ no e ]) ≡ ok y t → (x : X) × (u : Low) × (m s ≡ ok x u) × (k x u ≡ ok y t)
    go (ok x u) e f = (x, u, e, f)
    go (no e') e f = never f

-- If a step is accepted, this is what it answers and leaves.
pub record Sure {X : Type 0} (m : M X) (s : Low) (x : X) (u : Low) : Type 0 where
  pub only : (y : X) (t : Low) → m s ≡ ok y t → ok x u ≡ ok y t

pub run : {X Y : Type 0} {m : M X} {s : Low} {x : X} {u : Low} {y : Y} {t : Low} → Sure m s x u → (k : X → M Y) → bind m k s ≡ ok y t → k x u ≡ ok y t
run {X} {Y} {m} {s} {x} {u} {y} {t} S k h =
    let p = bind_ok m k s t y h in
    let same = S.only p.0 p.1 p.2 in
    let e : x ≡ p.0 = cc in
    let f : u ≡ p.1 = cc in
    subst (λ (z : X). k z u ≡ ok y t) (sym e) (subst (λ (w : Low). k p.0 w ≡ ok y t) (sym f) p.3)

pub then-sure : {X Y : Type 0} {m : M X} {s u v : Low} {x : X} {y : Y} (k : X → M Y) → Sure m s x u → Sure (k x) u y v → Sure (bind m k) s y v
then-sure k S T = record { only = λ z t h. T.only z t (run S k h) }

-- The same, by other words for what it answers and leaves.
pub sure-as : {X : Type 0} {m : M X} {s u w : Low} {x y : X} → Sure m s x u → x ≡ y → u ≡ w → Sure m s y w
sure-as {X} {m} {s} {u} {w} {x} {y} S e f = subst (λ (z : Low). Sure m s y z) f (subst (λ (z : X). Sure m s z u) e S)

pub sure-ret : {X : Type 0} (x : X) (s : Low) → Sure (ret x) s x s
sure-ret x s = record { only = λ y t h. h }

pub cond-ok : {X : Type 0} (b : Bool) (x : X) (u : Low) (e : Refusal) (y : X) (t : Low) → cond b (ok x u) (no e) ≡ ok y t → ok x u ≡ ok y t
cond-ok true x u e y t h = h
cond-ok false x u e y t h = never h

-- ## Single steps

pub sure-emit : (o : Op) (p : Position) (s : Low) → Sure (emit_at o p) s (at s) (emitted o p s)
unfolding emit_at
sure-emit o p s = record { only = λ y t h. cond-ok (has_room s.code) (at s) (emitted o p s) NoRoom y t h }

pub sure-here : (s : Low) → Sure here s (at s) s
unfolding here
sure-here s = record { only = λ y t h. h }

pub sure-patch : (site t : ℕ) (s : Low) → Sure (patch_to site t) s tt (patched site t s)
unfolding patch_to
sure-patch site t s = record { only = λ y u h. h }

pub sure-row : (r : Row) (s : Low) → Sure (add_row r) s (length s.rows.held) (with_rows (pushed r s.rows) s)
unfolding add_row
sure-row r s = record { only = λ y t h. cond-ok (has_room s.rows) (length s.rows.held) (with_rows (pushed r s.rows) s) NoRoom y t h }

pub sure-depth : (s : Low) → Sure depth s (length s.slots.held) s
unfolding depth
sure-depth s = record { only = λ y t h. h }

pub sure-may : (s : Low) → Sure may_declare s tt s
unfolding may_declare
sure-may s = record { only = λ y t h. cond-ok (ltb (length s.slots.held) s.limit) tt s SlotsFull y t h }

pub sure-declare : (l : ℕ) (s : Low) → Sure (declare l) s tt (declared l s)
unfolding declare
sure-declare l s = record { only = λ y t h. cond-ok (has_room s.slots) tt (declared l s) NoRoom y t h }

pub sure-drop : (d : ℕ) (s : Low) → Sure (drop_slots d) s tt (dropped d s)
unfolding drop_slots
sure-drop d s = record { only = λ y t h. h }

pub sure-resolve : (R : Records) (l : ℕ) (s : Low) → Sure (resolve R l) s (newest_same (same_name R) l 0 None s.slots.held) s
unfolding resolve
sure-resolve R l s = record { only = λ y t h. h }

pub sure-enter : (s : Low) → Sure enter_block s s.block (in_block s)
unfolding enter_block
sure-enter s = record { only = λ y t h. h }

pub sure-leave : (b : Level) (s : Low) → Sure (leave_block b) s tt (with_block b s)
unfolding leave_block
sure-leave b s = record { only = λ y t h. h }

pub sure-block : (s : Low) → Sure the_block s s.block s
unfolding the_block
sure-block s = record { only = λ y t h. h }

pub sure-iters : (f : ℕ → ℕ) (s : Low) → Sure (set_iters f) s s.iters (with_iters (f s.iters) s)
unfolding set_iters
sure-iters f s = record { only = λ y t h. h }

pub sure-handlers : (f : ℕ → ℕ) (s : Low) → Sure (set_handlers f) s s.handlers (with_handlers (f s.handlers) s)
unfolding set_handlers
sure-handlers f s = record { only = λ y t h. h }

pub sure-innermost : (s : Low) → Sure innermost s (cond (eqb (length s.loops) 0) None (Some (last_loop s.loops))) s
unfolding innermost
sure-innermost s = record { only = λ y t h. h }

pub sure-loop : (top outside : ℕ) (owns hasv : Bool) (s : Low) → Sure (enter_loop top outside owns hasv) s tt (looped top outside owns hasv s)
unfolding enter_loop
sure-loop top outside owns hasv s = record { only = λ y t h. cond-ok (ltb (length s.loops) 64) tt (looped top outside owns hasv s) TooDeep y t h }

pub sure-unloop : (s : Low) → Sure leave_loop s (last_loop s.loops).breaks (unlooped s)
unfolding leave_loop
sure-unloop s = record { only = λ y t h. h }

pub sure-break : (site : ℕ) (s : Low) → Sure (add_break site) s tt (broken site s)
unfolding add_break
sure-break site s = record { only = λ y t h. cond-ok (has_room s.breaks) tt (broken site s) NoRoom y t h }

pub sure-land : (count : ℕ) (s : Low) → Sure (land count) s tt (landed (length s.breaks.held - count) s)
unfolding land
sure-land count s = record { only = λ y t h. h }

-- ## Steps made of steps

pub sure-done : {X : Type 0} {m : M X} {s u : Low} {x : X} → Sure m s x u → Sure (done m) s tt u
sure-done {u} S = then-sure _ S (sure-ret tt u)

pub sure-put : (o : Op) (p : Position) (s : Low) → Sure (done (emit_at o p)) s tt (emitted o p s)
sure-put o p s = sure-done (sure-emit o p s)

pub sure-put_if : (b : Bool) (o : Op) (s : Low) → Sure (emit_if b o) s tt (emitted_if b o s)
sure-put_if true o s = sure-put o nowhere s
sure-put_if false o s = sure-ret tt s

pub sure-put_if-as : (b d : Bool) (o : Op) (s : Low) → b ≡ d → Sure (emit_if b o) s tt (emitted_if d o s)
sure-put_if-as b d o s e = subst (λ (z : Bool). Sure (emit_if z o) s tt (emitted_if d o s)) (sym e) (sure-put_if d o s)

pub sure-residual : (k n : ℕ) (s : Low) → Sure (residual k n) s tt (rowed k n s)
sure-residual k n s = then-sure _ (sure-row (record { kind = k; number = n }) s) (sure-put (EvalAst (length s.rows.held) true) nowhere (with_rows (pushed (record { kind = k; number = n }) s.rows) s))

pub sure-exp : (e : Exp) (s : Low) → Sure (expression e) s tt (evaluated e s)
sure-exp e s = sure-residual 1 e.number s

pub sure-patch_here : (site : ℕ) (s : Low) → Sure (patch_here site) s tt (patched site (at s) s)
sure-patch_here site s = then-sure _ (sure-here s) (sure-patch site (at s) s)

pub sure-unwind : (d : ℕ) (s : Low) → Sure (unwind_to d) s tt (unwound d s)
sure-unwind d s = then-sure _ (sure-depth s) (go (ltb d (length s.slots.held)))
  where
    go : (b : Bool) → Sure (cond b (bind (emit (UnwindTo d)) (λ _. drop_slots d)) (ret tt)) s tt
        (record {
          code = cond b (pushed (record { op = UnwindTo d; at = nowhere }) s.code) s.code;
          rows = s.rows;
          names = s.names;
          opers = s.opers;
          slots = cond b (holding (take d s.slots.held) s.slots) s.slots;
          breaks = s.breaks;
          loops = s.loops;
          iters = s.iters;
          handlers = s.handlers;
          block = s.block;
          limit = s.limit;
          deepest = cond b (max s.deepest (length (take d s.slots.held))) s.deepest;
        })
    go true = then-sure _ (sure-emit (UnwindTo d) nowhere s) (sure-drop d (emitted (UnwindTo d) nowhere s))
    go false = sure-ret tt s
