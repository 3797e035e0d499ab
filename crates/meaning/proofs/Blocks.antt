-- Blocks, lists of statements and blocks for their effects: accepted lowering stands if its parts do.
use Rattle.std.proofs.Common.{◌≡◌, ℕ, ◌≤◌, Bool, true, false, cond, ◌||◌, eqb, ltb, List, [], ◌∷◌, ◌++◌, length, Some, None, Option, sym, refl, ap, ◌∙◌, subst, arith, le-ltb}
use borrow.Author.Tests.{clash}
use Rattle.std.proofs.lemmas.List.{append-nil}
use Rattle.std.proofs.lemmas.Bool.{or_left, or_right}
use Rattle.records.specs.Tree.{Records, Head.noop, Head.var, Head.expr, Head.call, Head.assign, Head.other, Head.block as block_head, Head.try, Head.for, Head.if, Head.while, Head.do_loop, Head.break, Head.continue, Head.return, Head.throw, Tree.node, Forest.nil, Forest.more, Stmt, Block, nowhere}
use Rattle.code.specs.declared.ops.Op.TheVariants.{Pop, Checkpoint, UnwindTo}
use Rattle.code.specs.declared.ops.Instr.{Instr}
use Rattle.code.specs.declared.shapes.Lowered.{Lowered}
use Rattle.meaning.specs.Reading.{Bytes}
use Rattle.meaning.specs.Agreement.{Heights}
use Rattle.meaning.specs.Breaks.{breaks_s, has_break_value}
use Rattle.meaning.specs.LowerState.{Low, Pile, Level, Out.ok, M, ret, bind, with_code, with_block}
use Rattle.meaning.specs.Lower.{lowered, leaves, scoped, discarding, lower, lower_list}
use Rattle.meaning.proofs.Place.{Scopes, flat, depth, add_name, after, after_list, kind, kind_list, LoopAt, Ctx, in_scopes, one, heights, Layout, Drop, Scoped, Code, CodeList}
use Rattle.meaning.proofs.Monad.{at, emitted_if, unwound, in_block, bind_ok, run, sure-as, sure-depth, sure-enter, sure-leave, sure-unwind, sure-put_if, sure-put_if-as}
use Rattle.meaning.proofs.Aims.{Fin, layout_of, within_wider, noted}
use Rattle.meaning.proofs.Standing.{around_depth, Here, Kept, around-after, kept_then, kept-plain, Result, brk_of, Allows, Good, both-none, quiet-part, quiet-first, quiet-second, quiet-below, quiet-above, MayIns, on_if, ins_if, may-drop, may-check, unwound-slots, unwound-on, unwind-back}
use Rattle.meaning.proofs.Plain.{ends, passes}
use Rattle.meaning.proofs.Leaving.{kept-before}
use Rattle.meaning.specs.Compiled.{spelled}

-- ## Scopes after statements

-- Only the innermost scope changes.
pub after-shape : (st : Stmt) (top : List Bytes) (rest : Scopes) → (n : List Bytes) × (after (top ∷ rest) st ≡ n ∷ rest)
after-shape (node noop B C) top rest = (top, refl)
after-shape (node (var k x e r) B C) top rest = go (eqb r 0)
  where
    go : (b : Bool) → (n : List Bytes) × (cond b (add_name x.bytes (top ∷ rest)) (top ∷ rest) ≡ n ∷ rest)
    go true = (top ++ x.bytes ∷ [], refl)
    go false = (top, refl)
after-shape (node (expr e) B C) top rest = (top, refl)
after-shape (node (call x i) B C) top rest = (top, refl)
after-shape (node (assign x e o p q) B C) top rest = (top, refl)
after-shape (node (other i) B C) top rest = (top, refl)
after-shape (node block_head B C) top rest = (top, refl)
after-shape (node (try x p) B C) top rest = (top, refl)
after-shape (node (for x e p) B C) top rest = (top, refl)
after-shape (node (if e) B C) top rest = (top, refl)
after-shape (node (while e p) B C) top rest = (top, refl)
after-shape (node (do_loop u e p) B C) top rest = (top, refl)
after-shape (node (break e) B C) top rest = (top, refl)
after-shape (node continue B C) top rest = (top, refl)
after-shape (node (return e) B C) top rest = (top, refl)
after-shape (node (throw e p) B C) top rest = (top, refl)

pub after_list-shape : (B : Block) (top : List Bytes) (rest : Scopes) → (n : List Bytes) × (after_list (top ∷ rest) B ≡ n ∷ rest)
after_list-shape nil top rest = (top, refl)
after_list-shape (more st B) top rest =
    let a = after-shape st top rest in
    let b = after_list-shape B a.0 rest in
    (b.0, ap (λ (ns : Scopes). after_list ns B) a.1 ∙ b.1)

-- ## A block

-- What a list of statements comes to, wherever it may stand.
abbrev pub GoodList : Records → M Lowered → Bool → Bool → (Scopes → Scopes) → (Fin → Ctx → ℕ → ℕ → Type 0) → Type 0
GoodList R m κ v next L = (c : Ctx) (s : Low) (hs : ℕ → Heights) (x : Lowered) (t : Low) → Here R c s → Allows c.loop v → m s ≡ ok x t → Result R c κ (next c.ns) (λ F. L F c) s hs x t

pub good-scoped : (R : Records) (B : Block) (m : M Lowered) (v : Bool) (L : Fin → Ctx → ℕ → ℕ → Type 0) → GoodList R m (kind_list false B) v (λ ns. after_list ns B) L
    → Good R (scoped m) (kind_list false B) v (λ F c. Scoped (layout_of R F) B (L F) c)
good-scoped R B m v L H = λ c s hs x t A al h.
    let κ = kind_list false B in
    let ld = around_depth R c s.slots.held s.iters s.handlers s.loops A in
    let h₂ = run (sure-enter s) _ (run (sure-as (sure-depth s) ld refl) _ h) in
    let b = bind_ok m _ (in_block s) t x h₂ in
    let v₁ = b.0 in
    let t₁ = b.1 in
    let c₁ = in_scopes ([] ∷ c.ns) c in
    let here : Here R c₁ (in_block s) = record {
      around = record { slots-are = A.slots-are ∙ sym (append-nil (flat c.ns)); iters-are = A.iters-are; hands-are = A.hands-are; loop-is = A.loop-is };
      top = [];
      rest = c.ns;
      shape = refl;
      base = ld;
    } in
    let r = H c₁ (in_block s) hs v₁ t₁ here al b.2 in
    let sh = after_list-shape B [] c.ns in
    let n = sh.0 in
    let slots₁ : spelled R t₁.slots.held ≡ flat (n ∷ c.ns) = r.kept.slots ∙ ap flat sh.1 in
    let t₀ = with_block s.block (unwound (depth c.ns) t₁) in
    let h₄ = run (sure-leave s.block (unwound (depth c.ns) t₁)) _ (run (sure-unwind (depth c.ns) t₁) _ b.3) in
    let c₂ = in_scopes (after_list ([] ∷ c.ns) B) c in
    let on = r.kept.on in
    let on₂ = unwound-on R c.ns n t₁ slots₁ in
    ends h₄ (record {
      highs = noted (at t₁) (heights (one κ) c₂) r.highs;
      kind = r.kind;
      new = r.new;
      alone = r.alone;
      kept = record {
        slots = unwound-slots R c.ns n t₁ slots₁;
        block = refl;
        iters = r.kept.iters;
        handlers = r.kept.handlers;
        loops = r.kept.loops;
        breaks = r.kept.breaks;
        within = within_wider (at s) (at s) (at t₁) (at t₀) r.new (omega arith) (omega arith) r.kept.within;
        on = omega arith;
        dist = r.kept.dist;
      };
      back = λ F S q f.
          let brk = brk_of c.loop in
          let ub = unwind-back R c.ns n t₁ slots₁ F S c₂ κ r.highs sh.1 (λ lt. quiet-above S (at s) (at t₀) (at s) (at t₁) r.new brk (at t₁) r.kept.within (omega arith) (omega arith) (omega arith) q) f in
          let rb = r.back F S (quiet-part S (at s) (at t₀) (at s) (at t₁) r.new brk (omega arith) (omega arith) q) ub.1 in
          ((at t₁, rb.0, ub.0), rb.1);
    })

-- An empty block is no code.
pub scoped-nil : (v x : Lowered) (u t : Low) → scoped (ret v) u ≡ ok x t → at t ≡ at u
scoped-nil v x u t h =
    let d = length u.slots.held in
    let h₁ = run (sure-leave u.block (unwound d (in_block u))) _ (run (sure-unwind d (in_block u)) _ (run (sure-enter u) _ (run (sure-depth u) _ h))) in
    let e : with_block u.block (unwound d (in_block u)) ≡ t = cc in
    sym (ap at e) ∙ go (ltb d d) (le-ltb d d (omega arith))
  where
    go : (b : Bool) → b ≡ false → length (cond b (record { held = u.code.held ++ record { op = UnwindTo (length u.slots.held); at = nowhere } ∷ []; room = u.code.room }) u.code).held ≡ at u
    go true e = absurd (clash (sym e))
    go false e = refl

-- ## A list

pub leaves-lowered : (κ : Bool) → leaves (lowered κ) ≡ κ
leaves-lowered true = refl
leaves-lowered false = refl

pub allows-left : (o : Option LoopAt) (x y : Bool) → Allows o (x || y) → Allows o x
allows-left None x y a = tt
allows-left (Some l) x y a = λ e. a (or_left x y e)

pub allows-right : (o : Option LoopAt) (x y : Bool) → Allows o (x || y) → Allows o y
allows-right None x y a = tt
allows-right (Some l) x y a = λ e. a (or_right x y e)

pub good-nil : (R : Records) (keep κ : Bool) → GoodList R (lower_list R keep (lowered κ) nil) κ false (λ ns. ns) (λ F c a b. a ≡ b)
good-nil R keep κ = λ c s hs x t A al h.
    ends h (record { highs = hs; kind = refl; new = []; alone = λ z. refl; kept = kept-plain R c.ns s s A.around.slots-are refl refl refl refl refl (omega arith) (λ d. d); back = λ F S q f. (refl, f) })

-- A statement, and those after it.
pub good_more : (R : Records) (keep κ : Bool) (st : Stmt) (B : Block)
    → GoodList R (lower R st) (kind st) (breaks_s st) (λ ns. after ns st) (λ F c. Code (layout_of R F) st c)
    → GoodList R (lower_list R keep (lowered (kind st)) B) (kind_list (kind st) B) (has_break_value B) (λ ns. after_list ns B) (λ F c. CodeList (layout_of R F) B keep (kind st) c)
    → GoodList R (lower_list R keep (lowered κ) (more st B)) (kind_list κ (more st B)) (has_break_value (more st B)) (λ ns. after_list ns (more st B)) (λ F c. CodeList (layout_of R F) (more st B) keep κ c)
good_more R keep κ st B Hs Hb = λ c s hs x t A al h.
    let s₁ = emitted_if κ Pop s in
    let s₂ = emitted_if keep Checkpoint s₁ in
    let on₁ = on_if κ Pop s in
    let on₂ = on_if keep Checkpoint s₁ in
    let h₂ = run (sure-put_if keep Checkpoint s₁) _ (run (sure-put_if-as (leaves (lowered κ)) κ Pop s (leaves-lowered κ)) _ h) in
    let b = bind_ok (lower R st) _ s₂ t x h₂ in
    let w = b.0 in
    let t₁ = b.1 in
    let hs₁ = noted (at s) (heights 1 c) hs in
    let hs₂ = noted (at s₁) (heights 0 c) hs₁ in
    let A₂ : Here R c s₂ = record { around = A.around; top = A.top; rest = A.rest; shape = A.shape; base = A.base } in
    let r₁ = Hs c s₂ hs₂ w t₁ A₂ (allows-left c.loop (breaks_s st) (has_break_value B) al) b.2 in
    let c₁ = in_scopes (after c.ns st) c in
    let sh = after-shape st A.top A.rest in
    let A₃ : Here R c₁ t₁ = record {
      around = around-after R c (after c.ns st) r₁.new s₂ t₁ A.around r₁.kept;
      top = sh.0;
      rest = A.rest;
      shape = ap (λ (ns : Scopes). after ns st) A.shape ∙ sh.1;
      base = ap (λ (z : Level). z.base) r₁.kept.block ∙ A.base;
    } in
    let r₂ = Hb c₁ t₁ r₁.highs x t A₃ (allows-right c.loop (breaks_s st) (has_break_value B) al) (subst (λ (z : Lowered). lower_list R keep z B t₁ ≡ ok x t) r₁.kind b.3) in
    let n₁ = r₁.new in
    let n₂ = r₂.new in
    let both = kept_then R (after c.ns st) (after_list (after c.ns st) B) n₁ n₂ s₂ t₁ t r₁.kept r₂.kept in
    let o₁ = r₁.kept.on in
    let o₂ = r₂.kept.on in
    record {
      highs = r₂.highs;
      kind = r₂.kind;
      new = n₁ ++ n₂;
      alone = λ z. both-none (r₁.alone z) (r₂.alone z);
      kept = kept-before R (after_list (after c.ns st) B) (n₁ ++ n₂) s₂.code s.rows s t (omega arith) both;
      back = λ F S q f.
          let brk = brk_of c.loop in
          let rb₂ = r₂.back F S (quiet-second S (at s) (at t) (at s₂) (at t₁) n₁ n₂ brk (at t₁) (at t) r₁.kept.within (omega arith) (omega arith) (omega arith) q) f in
          let rb₁ = r₁.back F S (quiet-first S (at s) (at t) (at t₁) (at t) n₁ n₂ brk (at s₂) (at t₁) r₂.kept.within (omega arith) (omega arith) (omega arith) q) rb₂.1 in
          let i₂ = ins_if R F S keep s₁ hs₁ Checkpoint (heights 0 c) (λ lt. quiet-below S (at s) (at t) (at s₂) (at t) (n₁ ++ n₂) brk (at s₁) both.within (omega arith) (omega arith) (omega arith) q) refl rb₁.1 in
          let i₁ = ins_if R F S κ s hs Pop (heights 1 c) (λ lt. quiet-below S (at s) (at t) (at s₂) (at t) (n₁ ++ n₂) brk (at s) both.within (omega arith) (omega arith) (omega arith) q) refl i₂.1 in
          ((at s₁, at s₂, at t₁, may-drop (layout_of R F) κ c (at s) (at s₁) i₁.0, may-check (layout_of R F) keep c (at s₁) (at s₂) i₂.0, rb₁.0, rb₂.0), i₁.1);
    }

-- ## A block for its effects

pub discard-ok : {Y : Type 0} (body : M Lowered) (k : Unit {0} → M Y) (s t : Low) (y : Y) → bind (discarding body) k s ≡ ok y t
    → (v : Lowered) × (u : Low) × (body s ≡ ok v u) × (k tt (emitted_if (leaves v) Pop u) ≡ ok y t)
discard-ok body k s t y h =
    let b = bind_ok (discarding body) k s t y h in
    let d = bind_ok body _ s b.1 b.0 b.2 in
    let e = (sure-put_if (leaves d.0) Pop d.1).only b.0 b.1 d.3 in
    (d.0, d.1, d.2, passes k tt b.0 (emitted_if (leaves d.0) Pop d.1) b.1 y t e b.3)

pub may-drop-as : (P : Layout) (v : Lowered) (κ : Bool) (c : Ctx) (a b : ℕ) → v ≡ lowered κ → MayIns P (leaves v) Pop (heights 1 c) a b → Drop P κ c a b
may-drop-as P v κ c a b e m =
    may-drop P κ c a b (subst (λ (z : Bool). MayIns P z Pop (heights 1 c) a b) (ap leaves e ∙ leaves-lowered κ) m)

-- ## Code more at the end

pub kept-onward : (R : Records) (ns : Scopes) (new : List ℕ) (p : Pile Instr) (s t : Low) → at t ≤ length p.held → Kept R ns new s t → Kept R ns new s (with_code p t)
kept-onward R ns new p s t l k =
    let on = k.on in
    record {
      slots = k.slots;
      block = k.block;
      iters = k.iters;
      handlers = k.handlers;
      loops = k.loops;
      breaks = k.breaks;
      within = within_wider (at s) (at s) (at t) (length p.held) new (omega arith) l k.within;
      on = omega arith;
      dist = k.dist;
    }
