-- Break and continue: accepted lowering stands.
use Rattle.std.proofs.Common.{◌≡◌, ℕ, zero, suc, ◌+◌, ◌-◌, ◌<◌, ◌≤◌, Bool, true, false, cond, eqb, List, [], ◌∷◌, length, Some, None, Option, sym, refl, ap, ◌∙◌, subst, arith, ne_eqb}
use Rattle.records.specs.Tree.{Records, Exp, nowhere}
use Rattle.code.specs.declared.ops.Op.{Op}
use Rattle.code.specs.declared.ops.Op.TheVariants.{Unit as UnitOp, Jump, Rotate, UnwindTo, PopHandler, IterDrop}
use Rattle.code.specs.declared.ops.Instr.{Instr}
use Rattle.code.specs.declared.ops.Row.{Row}
use Rattle.code.specs.declared.shapes.Loop.{Loop}
use Rattle.code.specs.declared.shapes.Lowered.{Lowered}
use Rattle.code.specs.declared.shapes.Lowered.TheVariants.{Empty}
use Rattle.meaning.specs.Agreement.{Heights}
use Rattle.std.specs.Prelude.{is_some}
use Rattle.meaning.specs.LowerState.{Low, Pile, Out.ok, M, ret, bind, emit, pushed, with_code, with_rows, last_loop, innermost, add_break}
use Rattle.meaning.specs.Lower.{unset, emits, giving_up, owned, bringing, breaking, continuing}
use Rattle.meaning.specs.SetCode.{expr_of}
use Rattle.meaning.proofs.Place.{Scopes, depth, LoopAt, Ctx, in_scopes, less_hands, less_iters, one, heights, Ins, Pops, Drops, Leave, Blank, Break, Continue}
use Rattle.meaning.proofs.Monad.{at, emitted, evaluated, broken, Sure, run, then-sure, never, sure-as, sure-ret, sure-emit, sure-put, sure-exp, sure-handlers, sure-iters, sure-innermost, sure-break}
use Rattle.meaning.proofs.Aims.{Fin, layout_of, Aims, none, aim_same, aim-other, within_wider, Quiet, noted, Final, ins, hole, exp}
use Rattle.meaning.proofs.Standing.{LoopIs, Inner, AroundOf, Kept, kept-plain, one_more, Result, brk_of, Allows, quiet-part, quiet-below}
use Rattle.meaning.proofs.Plain.{ends, at-emit, at_row}

-- ## Operations before a piece

-- A piece that begins with operations, and a row, more.
pub kept-before : (R : Records) (ns : Scopes) (new : List ℕ) (p : Pile Instr) (r : Pile Row) (s t : Low) → at s ≤ length p.held → Kept R ns new (with_code p (with_rows r s)) t → Kept R ns new s t
kept-before R ns new p r s t l k =
    let on = k.on in
    record {
      slots = k.slots;
      block = k.block;
      iters = k.iters;
      handlers = k.handlers;
      loops = k.loops;
      breaks = k.breaks;
      within = within_wider (at s) (length p.held) (at t) (at t) new l (omega arith) k.within;
      on = omega arith;
      dist = k.dist;
    }

-- ## So many times the same operation

abbrev pushed_n : ℕ → Instr → Pile Instr → Pile Instr
pushed_n zero x p = p
pushed_n (suc n) x p = pushed_n n x (pushed x p)

abbrev emitted_n : ℕ → Op → Low → Low
emitted_n n o s = with_code (pushed_n n (record { op = o; at = nowhere }) s.code) s

sure-emits : (n : ℕ) (o : Op) (s : Low) → Sure (emits n o) s tt (emitted_n n o s)
sure-emits zero o s = sure-ret tt s
sure-emits (suc n) o s = then-sure _ (sure-emit o nowhere s) (sure-emits n o (emitted o nowhere s))

sure-emits-as : (n m : ℕ) (o : Op) (s : Low) → n ≡ m → Sure (emits n o) s tt (emitted_n m o s)
sure-emits-as n m o s e = subst (λ (z : ℕ). Sure (emits z o) s tt (emitted_n m o s)) (sym e) (sure-emits m o s)

at-emits : (n : ℕ) (o : Op) (s : Low) → at (emitted_n n o s) ≡ at s + n
at-emits zero o s = omega arith
at-emits (suc n) o s = let i = at-emits n o (emitted o nowhere s) in let l = at-emit o nowhere s in omega arith

abbrev noted_n : (Ctx → Ctx) → Op → ℕ → ℕ → Ctx → Low → (ℕ → Heights) → ℕ → Heights
noted_n less o v zero c u hs = hs
noted_n less o v (suc n) c u hs = noted_n less o v n (less c) (emitted o nowhere u) (noted (at u) (heights v c) hs)

-- Them all back, for a relation that counts them.
reps : (R : Records) (F : Fin) (S : Aims) (less : Ctx → Ctx) (o : Op) (v : ℕ) (Q : ℕ → Ctx → ℕ → ℕ → Type 0) → ((c : Ctx) (a : ℕ) → Q zero c a a)
    → ((n : ℕ) (c : Ctx) (a m b : ℕ) → Ins (layout_of R F) o v c a m → Q n (less c) m b → Q (suc n) c a b) → expr_of F.rows o ≡ None
    → (n : ℕ) (c : Ctx) (u : Low) (hs : ℕ → Heights) → ((i : ℕ) → at u ≤ i → i < at u + n → S i ≡ None) → Final F S (emitted_n n o u) (noted_n less o v n c u hs)
    → Q n c (at u) (at (emitted_n n o u)) × Final F S u hs
reps R F S less o v Q z more e zero c u hs q f = (z c (at u), f)
reps R F S less o v Q z more e (suc n) c u hs q f =
    let u₁ = emitted o nowhere u in
    let l = at-emit o nowhere u in
    let r = reps R F S less o v Q z more e n (less c) u₁ (noted (at u) (heights v c) hs) (λ i p k. q i (omega arith) (omega arith)) f in
    let b = ins R F S u hs o nowhere (heights v c) (q (at u) (omega arith) (omega arith)) e r.1 in
    (more n c (at u) (at u₁) (at (emitted_n (suc n) o u)) b.0 r.0, b.1)

-- ## Out of a loop, or back to its top

sure-giving : (R : Records) (hands its p d : ℕ) (s : Low) → s.handlers - hands ≡ p → s.iters - its ≡ d → Sure (giving_up hands its) s tt (emitted_n d IterDrop (emitted_n p PopHandler s))
sure-giving R hands its p d s e f =
    let s₁ = emitted_n p PopHandler s in
    then-sure _ (sure-handlers (λ h. h) s) (then-sure _ (sure-emits-as (s.handlers - hands) p PopHandler s e) (then-sure _ (sure-iters (λ i. i) s₁) (sure-emits-as (s.iters - its) d IterDrop s₁ f)))

-- Handlers, iterators and slots are given up.
abbrev left : ℕ → ℕ → ℕ → Low → Low
left p d to u = emitted (UnwindTo to) nowhere (emitted_n d IterDrop (emitted_n p PopHandler u))

abbrev up_from : ℕ → ℕ → Ctx → Ctx
up_from k d c = record { loop = c.loop; ns = c.ns; its = c.its - d; hands = c.hands - k }

abbrev left_highs : ℕ → ℕ → ℕ → Ctx → Low → (ℕ → Heights) → ℕ → Heights
left_highs v p d c u hs =
    let u₁ = emitted_n p PopHandler u in
    let u₂ = emitted_n d IterDrop u₁ in
    noted (at u₂) (heights v (up_from p d c)) (noted_n less_iters IterDrop v d (up_from p 0 c) u₁ (noted_n less_hands PopHandler v p c u hs))

at_left : (p d to : ℕ) (u : Low) → at (left p d to u) ≡ suc (at u + p + d)
at_left p d to u =
    let u₁ = emitted_n p PopHandler u in
    let u₂ = emitted_n d IterDrop u₁ in
    let l₁ = at-emits p PopHandler u in let l₂ = at-emits d IterDrop u₁ in let l₃ = at-emit (UnwindTo to) nowhere u₂ in omega arith

leave-back : (R : Records) (F : Fin) (S : Aims) (κ : Bool) (l : LoopAt) (d : ℕ) (to : Scopes) (c : Ctx) (u : Low) (hs : ℕ → Heights) (t x : ℕ)
    → ((i : ℕ) → at u ≤ i → i < at (left l.pops d (depth to) u) → S i ≡ None)
    → Ins (layout_of R F) (Jump t) (one κ) (in_scopes to (up_from l.pops d c)) (at (left l.pops d (depth to) u)) x
    → Final F S (left l.pops d (depth to) u) (left_highs (one κ) l.pops d c u hs) → Leave (layout_of R F) κ l d to c (at u) t × Final F S u hs
leave-back R F S κ l d to c u hs t x q j f =
    let p = l.pops in
    let v = one κ in
    let u₁ = emitted_n p PopHandler u in
    let u₂ = emitted_n d IterDrop u₁ in
    let u₃ = left p d (depth to) u in
    let l₁ = at-emits p PopHandler u in let l₂ = at-emits d IterDrop u₁ in let l₃ = at-emit (UnwindTo (depth to)) nowhere u₂ in
    let hs₁ = noted_n less_hands PopHandler v p c u hs in
    let hs₂ = noted_n less_iters IterDrop v d (up_from p 0 c) u₁ hs₁ in
    let b₃ = ins R F S u₂ hs₂ (UnwindTo (depth to)) nowhere (heights v (up_from p d c)) (q (at u₂) (omega arith) (omega arith)) refl f in
    let b₂ = reps R F S less_iters IterDrop v (λ n c a b. Drops (layout_of R F) v n c a b) (λ c a. refl) (λ n c a m b i r. (m, i, r)) refl d (up_from p 0 c) u₁ hs₁ (λ i p k. q i (omega arith) (omega arith)) b₃.1 in
    let b₁ = reps R F S less_hands PopHandler v (λ n c a b. Pops (layout_of R F) v n c a b) (λ c a. refl) (λ n c a m b i r. (m, i, r)) refl p c u hs (λ i p k. q i (omega arith) (omega arith)) b₂.1 in
    ((at u₁, at u₂, at u₃, x, b₁.0, b₂.0, b₃.0, j), b₁.1)

-- ## The innermost loop

abbrev as_loop : LoopAt → Loop → Loop
as_loop l k = record { continue_target = l.cont; break_depth = depth l.bns; continue_depth = depth l.cns; iters = k.iters; owns_iterator = k.owns_iterator; handlers = k.handlers; breaks = k.breaks; has_break_value = l.hasv }

sure-none : (s : Low) → s.loops ≡ [] → Sure innermost s None s
sure-none s e = sure-as (sure-innermost s) (ap (λ (ls : List Loop). cond (eqb (length ls) 0) None (Some (last_loop ls))) e) refl

sure-some : (R : Records) (l : LoopAt) (its hands : ℕ) (s : Low) → 0 < length s.loops → LoopIs R l its hands (last_loop s.loops) → Sure innermost s (Some (as_loop l (last_loop s.loops))) s
sure-some R l its hands s h k =
    let e₁ = k.cont-is in let e₂ = k.break-is in let e₃ = k.again-is in let e₄ = k.hasv-is in
    let last = last_loop s.loops in
    let same : last ≡ as_loop l last = λ i. record { continue_target = e₁ i; break_depth = e₂ i; continue_depth = e₃ i; iters = last.iters; owns_iterator = last.owns_iterator; handlers = last.handlers; breaks = last.breaks; has_break_value = e₄ i } in
    let some : cond (eqb (length s.loops) 0) None (Some last) ≡ Some last = rw (ne_eqb (length s.loops) 0 (λ e. omega arith)) refl in
    sure-as (sure-innermost s) (some ∙ ap Some same) refl

module _ (R : Records) (c : Ctx) (s : Low) (hs : ℕ → Heights) (x : Lowered) (t : Low) (A : AroundOf R c s) where
  -- ## Continue

  pub good-continue : bind innermost (λ l. continuing R l) s ≡ ok x t → Result R c false c.ns (λ F a b. Continue (layout_of R F) c.loop c a) s hs x t
  good-continue h = go c.loop A.loop-is
    where
      go : (o : Option LoopAt) → Inner R o c.its c.hands s.loops → Result R c false c.ns (λ F a b. Continue (layout_of R F) o c a) s hs x t
      go None e = never (run (sure-none s e) _ h)
      go (Some l) k =
          let K = as_loop l (last_loop s.loops) in
          let h₀ = run (sure-some R l c.its c.hands s k.0 k.1) _ h in
          let hands = A.hands-are in let its = A.iters-are in let ps = k.1.pops-are in let ds = k.1.cdrops-are in
          let p = l.pops in
          let d = l.cdrops in
          let u = left p d (depth l.cns) s in
          let u₁ = emitted_n d IterDrop (emitted_n p PopHandler s) in
          let t₀ = emitted (Jump l.cont) nowhere u in
          let l₁ = at_left p d (depth l.cns) s in
          let l₂ = at-emit (Jump l.cont) nowhere u in
          let h₁ = run (sure-giving R K.handlers K.iters p d s (omega arith) (ap (λ (i : ℕ). i - K.iters) its ∙ ds)) _ h₀ in
          let h₂ = run (sure-emit (Jump l.cont) nowhere u) _ (run (sure-emit (UnwindTo (depth l.cns)) nowhere u₁) _ h₁) in
          let top = heights 0 (in_scopes l.cns (up_from p d c)) in
          ends h₂ (record {
            highs = noted (at u) top (left_highs 0 p d c s hs);
            kind = refl;
            new = [];
            alone = λ z. refl;
            kept = kept-plain R c.ns s t₀ A.slots-are refl refl refl refl refl (omega arith) (λ d. d);
            back = λ F S q f.
                let b₂ = ins R F S u (left_highs 0 p d c s hs) (Jump l.cont) nowhere top (q (at u) (omega arith) (omega arith)) refl f in
                leave-back R F S false l d l.cns c s hs l.cont (at t₀) (λ i a b. q i a (omega arith)) b₂.0 b₂.1;
          })

-- ## Break

-- What a break does once its value is there.
abbrev leaves_loop : Records → Loop → M Lowered
leaves_loop R k =
    bind (giving_up k.handlers (k.iters - owned k.owns_iterator)) (λ _.
    bind (emit (UnwindTo k.break_depth)) (λ _.
    bind (emit (Jump unset)) (λ site. bind (add_break site) (λ _. ret Empty))))

module _ (R : Records) (c : Ctx) (l : LoopAt) (here : c.loop ≡ Some l) (s : Low) (x : Lowered) (t : Low) (A : AroundOf R c s) (K : LoopIs R l c.its c.hands (last_loop s.loops)) where
  break-rest : (κ : Bool) (p : Pile Instr) (hs : ℕ → Heights) → leaves_loop R (as_loop l (last_loop s.loops)) (with_code p s) ≡ ok x t
      → Result R c false c.ns (λ F a b. Leave (layout_of R F) κ l l.bdrops l.bns c a l.brk) (with_code p s) hs x t
  break-rest κ p hs h =
      let k = as_loop l (last_loop s.loops) in
      let s₀ = with_code p s in
      let hands = A.hands-are in let its = A.iters-are in let ps = K.pops-are in let ds = K.bdrops-are in
      let n = l.pops in
      let d = l.bdrops in
      let floor = k.iters - owned k.owns_iterator in
      let u₁ = emitted_n d IterDrop (emitted_n n PopHandler s₀) in
      let u = left n d (depth l.bns) s₀ in
      let u₂ = emitted (Jump unset) nowhere u in
      let t₀ = broken (at u) u₂ in
      let l₁ = at_left n d (depth l.bns) s₀ in
      let l₂ = at-emit (Jump unset) nowhere u in
      let h₁ = run (sure-giving R k.handlers floor n d s₀ (omega arith) (ap (λ (i : ℕ). i - floor) its ∙ ds)) _ h in
      let h₂ = run (sure-break (at u) u₂) _ (run (sure-emit (Jump unset) nowhere u) _ (run (sure-emit (UnwindTo (depth l.bns)) nowhere u₁) _ h₁)) in
      let v = one κ in
      let top = heights v (in_scopes l.bns (up_from n d c)) in
      let brk : brk_of c.loop ≡ l.brk = ap brk_of here in
      ends h₂ (record {
        highs = noted (at u) top (left_highs v n d c s₀ hs);
        kind = refl;
        new = at u ∷ [];
        alone = λ z. let w : ◌≡◌ {A = ℕ} 0 1 = cc (sym here, z) in absurd (omega arith);
        kept = record { slots = A.slots-are; block = refl; iters = refl; handlers = refl; loops = one_more s.loops; breaks = refl; within = (omega arith, omega arith, tt); on = omega arith; dist = λ d. d };
        back = λ F S q f.
            let quiet : Quiet S (at s₀) (at t₀) (at u ∷ []) l.brk = subst (λ (b : ℕ). Quiet S (at s₀) (at t₀) (at u ∷ []) b) brk q in
            let b₂ = hole R F S u (left_highs v n d c s₀ hs) (Jump unset) nowhere top l.brk (quiet (at u) (omega arith) (omega arith) ∙ aim_same (at u) l.brk none) refl f in
            leave-back R F S κ l d l.bns c s₀ hs l.brk (at u₂) (λ i a b. quiet i a (omega arith) ∙ aim-other (at u) l.brk none i (λ e. omega arith)) b₂.0 b₂.1;
      })

module _ (R : Records) (c : Ctx) (s : Low) (hs : ℕ → Heights) (x : Lowered) (t : Low) (A : AroundOf R c s) where
  -- Before that its value, or unit where the loop has a break value.
  broke : (e : Option Exp) (l : LoopAt) → c.loop ≡ Some l → LoopIs R l c.its c.hands (last_loop s.loops) → (is_some e ≡ true → l.hasv ≡ true) → breaking R e (Some (as_loop l (last_loop s.loops))) s ≡ ok x t
      → Result R c false c.ns (λ F a b. Break (layout_of R F) (Some l) e c a) s hs x t
  broke (Some e) l here K allow h =
      let s₁ = evaluated e s in
      let s₂ = emitted (Rotate 0) nowhere s₁ in
      let l₁ = at_row 1 e.number s in
      let l₂ = at-emit (Rotate 0) nowhere s₁ in
      let value : Sure (bringing R (Some e) l.hasv) s tt s₂ = then-sure _ (sure-exp e s) (sure-put (Rotate 0) nowhere s₁) in
      let r = break-rest R c l here (with_rows s₁.rows s) x t A K true s₂.code (noted (at s₁) (heights 1 c) hs) (run value _ h) in
      let on = r.kept.on in
      record {
        highs = r.highs;
        kind = r.kind;
        new = r.new;
        alone = r.alone;
        kept = kept-before R c.ns r.new s₂.code s₁.rows s t (omega arith) r.kept;
        back = λ F S q f.
            let rb = r.back F S (quiet-part S (at s) (at t) (at s₂) (at t) r.new (brk_of c.loop) (omega arith) (omega arith) q) f in
            let b₂ = ins R F S s₁ hs (Rotate 0) nowhere (heights 1 c) (quiet-below S (at s) (at t) (at s₂) (at t) r.new (brk_of c.loop) (at s₁) r.kept.within (omega arith) (omega arith) (omega arith) q) refl rb.1 in
            let b₁ = exp R F S e s hs (quiet-below S (at s) (at t) (at s₂) (at t) r.new (brk_of c.loop) (at s) r.kept.within (omega arith) (omega arith) (omega arith) q) b₂.1 in
            ((at s₁, at s₂, allow refl, b₁.0, b₂.0, rb.0), b₁.1);
      }
  broke None l here K allow h = go l.hasv h
    where
      go : (v : Bool) → bind (bringing R None v) (λ _. leaves_loop R (as_loop l (last_loop s.loops))) s ≡ ok x t
          → Result R c false c.ns (λ F a b. (m : ℕ) × Blank (layout_of R F) v c a m × Leave (layout_of R F) v l l.bdrops l.bns c m l.brk) s hs x t
      go true f =
          let s₁ = emitted UnitOp nowhere s in
          let s₂ = emitted (Rotate 0) nowhere s₁ in
          let l₁ = at-emit UnitOp nowhere s in
          let l₂ = at-emit (Rotate 0) nowhere s₁ in
          let value : Sure (bringing R None true) s tt s₂ = then-sure _ (sure-emit UnitOp nowhere s) (sure-put (Rotate 0) nowhere s₁) in
          let hs₁ = noted (at s) (heights 0 c) hs in
          let r = break-rest R c l here s x t A K true s₂.code (noted (at s₁) (heights 1 c) hs₁) (run value _ f) in
          let on = r.kept.on in
          record {
            highs = r.highs;
            kind = r.kind;
            new = r.new;
            alone = r.alone;
            kept = kept-before R c.ns r.new s₂.code s.rows s t (omega arith) r.kept;
            back = λ F S q f.
                let rb = r.back F S (quiet-part S (at s) (at t) (at s₂) (at t) r.new (brk_of c.loop) (omega arith) (omega arith) q) f in
                let b₂ = ins R F S s₁ hs₁ (Rotate 0) nowhere (heights 1 c) (quiet-below S (at s) (at t) (at s₂) (at t) r.new (brk_of c.loop) (at s₁) r.kept.within (omega arith) (omega arith) (omega arith) q) refl rb.1 in
                let b₁ = ins R F S s hs UnitOp nowhere (heights 0 c) (quiet-below S (at s) (at t) (at s₂) (at t) r.new (brk_of c.loop) (at s) r.kept.within (omega arith) (omega arith) (omega arith) q) refl b₂.1 in
                ((at s₂, (at s₁, b₁.0, b₂.0), rb.0), b₁.1);
          }
      go false f =
          let r = break-rest R c l here s x t A K false s.code hs f in
          record { highs = r.highs; kind = r.kind; new = r.new; alone = r.alone; kept = r.kept; back = λ F S q f. let rb = r.back F S q f in ((at s, refl, rb.0), rb.1) }

  pub good-break : (e : Option Exp) → Allows c.loop (is_some e) → bind innermost (λ l. breaking R e l) s ≡ ok x t → Result R c false c.ns (λ F a b. Break (layout_of R F) c.loop e c a) s hs x t
  good-break e allow h = go c.loop refl A.loop-is allow
    where
      go : (o : Option LoopAt) → c.loop ≡ o → Inner R o c.its c.hands s.loops → Allows o (is_some e) → Result R c false c.ns (λ F a b. Break (layout_of R F) o e c a) s hs x t
      go None here k w = never (run (sure-none s k) _ h)
      go (Some l) here k w = broke e l here k.1 w (run (sure-some R l c.its c.hands s k.0 k.1) _ h)
