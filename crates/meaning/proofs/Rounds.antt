-- `while` and `do`: accepted lowering stands if the body does.
use Rattle.std.proofs.Common.{◌≡◌, ℕ, ◌<◌, ◌≤◌, Bool, true, false, cond, eqb, List, [], ◌∷◌, ◌++◌, length, Some, None, Option, sym, refl, ap, ◌∙◌, subst, arith}
use Rattle.records.specs.declared.types.Position.{Position}
use Rattle.records.specs.Tree.{Records, Exp, nowhere}
use Rattle.code.specs.declared.ops.Op.TheVariants.{Unit as UnitOp, Pop, Jump, JumpIfFalse, Tick}
use Rattle.code.specs.declared.ops.Instr.{Instr}
use Rattle.code.specs.declared.shapes.Loop.{Loop}
use Rattle.code.specs.declared.shapes.Lowered.{Lowered}
use Rattle.meaning.specs.Agreement.{Heights}
use Rattle.meaning.specs.Run.{endless}
use Rattle.meaning.specs.LowerState.{Low, Pile, Out.ok, M, ret, bind, emit, emit_at, depth as depth_now, pushed, holding, with_code, with_loops, patch, enter_loop, leave_loop}
use Rattle.meaning.specs.Lower.{unset, lowered, leaves, expression, discarding, patch_if, exit_loop, looping, round_test, doing}
use Rattle.meaning.specs.Compiled.{spelled}
use Rattle.meaning.proofs.Place.{Scopes, flat, depth, Ctx, in_loop, heights, Ins, InsAt, Glue, Drop, Tests, Exits, DoTest}
use Rattle.meaning.proofs.Monad.{at, emitted, emitted_if, evaluated, looped, new_loop, Sure, run, then-sure, sure-as, sure-ret, sure-emit, sure-put, sure-here, sure-exp, sure-depth, sure-loop, sure-patch_here, sure-put_if}
use Rattle.meaning.proofs.Aims.{Fin, layout_of, Aims, none, aim, aim_all, aim_same, aim-other, aim_all-below, aim_all-above, aim_all-at, Quiet, noted, ops-same, Final, ins, hole, exp, length-patch_all, snoc}
use Rattle.meaning.proofs.Standing.{LoopIs, AroundOf, around_depth, Kept, kept-plain, Result, brk_of, Good, plus, plus_last-snoc, last_snoc, sure-unloop-as, landed_as, sure-land-as, on_if, ins_if, exit-back, plus_last}
use Rattle.meaning.proofs.Plain.{ends, at-emit, at_row}
use Rattle.meaning.proofs.Leaving.{kept-before}
use Rattle.meaning.proofs.Blocks.{discard-ok, may-drop-as}
use Rattle.meaning.proofs.Choosing.{at-patch, final-aim, patch-back}

-- ## A loop's body

abbrev pub loop_in : ℕ → ℕ → Bool → Ctx → Ctx
loop_in top b v c = in_loop (record { cont = top; brk = b; hasv = v; bns = c.ns; cns = c.ns; pops = 0; bdrops = 0; cdrops = 0 }) c

loop-around : (R : Records) (c : Ctx) (top b : ℕ) (v : Bool) (u : Low) → AroundOf R c u → AroundOf R (loop_in top b v c) (looped top (depth c.ns) false v u)
loop-around R c top b v u A =
    let ld = around_depth R c u.slots.held u.iters u.handlers u.loops A in
    let its = A.iters-are in
    let hands = A.hands-are in
    let new = new_loop top (depth c.ns) false v u in
    let l = snoc u.loops new in
    let is : LoopIs R (record { cont = top; brk = b; hasv = v; bns = c.ns; cns = c.ns; pops = 0; bdrops = 0; cdrops = 0 }) c.its c.hands new =
    record { cont-is = refl; break-is = refl; again-is = ld; hasv-is = refl; pops-are = omega arith; bdrops-are = omega arith; cdrops-are = omega arith } in
    record {
      slots-are = A.slots-are;
      iters-are = its;
      hands-are = hands;
      loop-is = (omega arith, subst (λ (z : Loop). LoopIs R (record { cont = top; brk = b; hasv = v; bns = c.ns; cns = c.ns; pops = 0; bdrops = 0; cdrops = 0 }) c.its c.hands z) (sym (last_snoc u.loops new)) is);
    }

-- The loop's record after its body.
pub loop-after : (R : Records) (ns : Scopes) (new : List ℕ) (l : Loop) (u u₁ t : Low) → u₁.loops ≡ u.loops ++ l ∷ [] → Kept R ns new u₁ t → t.loops ≡ u.loops ++ plus (length new) l ∷ []
loop-after R ns new l u u₁ t e k = k.loops ∙ ap (λ (ls : List Loop). plus_last (length new) ls) e ∙ plus_last-snoc (length new) u.loops l

-- The body and the value that is dropped, one step back.
pub body_back : (R : Records) (c₁ c : Ctx) (κ : Bool) (ns : Scopes) (X : Fin → ℕ → ℕ → Type 0) (u₁ : Low) (hs : ℕ → Heights) (v : Lowered) (t₁ : Low) (r : Result R c₁ κ ns X u₁ hs v t₁) (F : Fin) (V : Aims)
    → Quiet V (at u₁) (at t₁) r.new (brk_of c₁.loop) → (at t₁ < at (emitted_if (leaves v) Pop t₁) → V (at t₁) ≡ None) → Final F V (emitted_if (leaves v) Pop t₁) (noted (at t₁) (heights 1 c) r.highs)
    → X F (at u₁) (at t₁) × Drop (layout_of R F) κ c (at t₁) (at (emitted_if (leaves v) Pop t₁)) × Final F V u₁ hs
body_back R c₁ c κ ns X u₁ hs v t₁ r F V q n f =
    let d = ins_if R F V (leaves v) t₁ r.highs Pop (heights 1 c) n refl f in
    let b = r.back F V q d.1 in
    (b.0, may-drop-as (layout_of R F) v κ c (at t₁) (at (emitted_if (leaves v) Pop t₁)) r.kind d.0, b.1)

-- ## An exit that may be there

abbrev patch_any : Option ℕ → ℕ → List Instr → List Instr
patch_any None t ops = ops
patch_any (Some site) t ops = patch site t ops

abbrev patched_any : Option ℕ → Low → Low
patched_any o u = with_code (holding (patch_any o (at u) u.code.held) u.code) u

sure-patch_if : (R : Records) (o : Option ℕ) (u : Low) → Sure (patch_if o) u tt (patched_any o u)
sure-patch_if R None u = sure-ret tt u
sure-patch_if R (Some site) u = sure-patch_here site u

at-patch_any : (o : Option ℕ) (u : Low) → at (patched_any o u) ≡ at u
at-patch_any None u = refl
at-patch_any (Some site) u = at-patch site (at u) u

abbrev aim_any : Option ℕ → ℕ → Aims → Aims
aim_any None t S = S
aim_any (Some site) t S = aim site t S

-- The exit stands before a place, and is given no target later.
abbrev Site : Option ℕ → ℕ → Aims → Type 0
Site None n S = Unit {0}
Site (Some site) n S = (site < n) × (S site ≡ None)

any-other : (o : Option ℕ) (n t : ℕ) (S V : Aims) (i : ℕ) → Site o n S → n ≤ i → aim_any o t V i ≡ V i
any-other None n t S V i w l = refl
any-other (Some site) n t S V i w l = let k = w.0 in aim-other site t V i (λ e. omega arith)

any_at : (o : Option ℕ) (t : ℕ) (S V : Aims) (i : ℕ) → S i ≡ V i → aim_any o t S i ≡ aim_any o t V i
any_at None t S V i e = e
any_at (Some site) t S V i e = ap (λ (z : Option ℕ). cond (eqb i site) (Some t) z) e

any-back : (o : Option ℕ) (F : Fin) (V : Aims) (u : Low) (hs : ℕ → Heights) → Site o (at u) V → Final F V (patched_any o u) hs → Final F (aim_any o (at u) V) u hs
any-back None F V u hs w f = f
any-back (Some site) F V u hs w f = patch-back F V u hs site (at u) w.0 w.1 f

site-later : (o : Option ℕ) (n m : ℕ) (S V : Aims) → n ≤ m → ((i : ℕ) → i < n → V i ≡ S i) → Site o n S → Site o m V
site-later None n m S V l e w = tt
site-later (Some site) n m S V l e w = let k = w.0 in (omega arith, e site k ∙ w.1)

-- ## While

-- From the loop's begin to its end: the body, the jump back, and where its exit lands.
record Whiled (R : Records) (c : Ctx) (κ hasv : Bool) (X : Fin → Ctx → ℕ → ℕ → Type 0) (top : ℕ) (exit : Option ℕ) (u : Low) (hs : ℕ → Heights) (x : Lowered) (t : Low) : Type 0 where
  highs : ℕ → Heights
  kind : x ≡ lowered hasv
  kept : Kept R c.ns [] u t
  fall : ℕ
  back : (F : Fin) (S : Aims) → ((i : ℕ) → at u ≤ i → i < at t → S i ≡ None) → Site exit (at u) S → Final F S t highs
      → ((w y z : ℕ) × X F (loop_in top (at t) hasv c) (at u) w × Drop (layout_of R F) κ c w y × Ins (layout_of R F) (Jump top) 0 c y z × Glue (layout_of R F) false hasv c fall (at t)) × Final F (aim_any exit fall S) u hs

whiled : {R : Records} {c : Ctx} {κ hasv : Bool} {X : Fin → Ctx → ℕ → ℕ → Type 0} {top : ℕ} {exit : Option ℕ} {u : Low} {hs : ℕ → Heights} {v x : Lowered} {w t : Low} → ok v w ≡ ok x t → Whiled R c κ hasv X top exit u hs v w → Whiled R c κ hasv X top exit u hs x t
whiled {R} {c} {κ} {hasv} {X} {top} {exit} {u} {hs} {v} {x} {w} {t} h r =
    let e : v ≡ x = cc in
    let f : w ≡ t = cc in
    subst (λ (z : Low). Whiled R c κ hasv X top exit u hs x z) f (subst (λ (z : Lowered). Whiled R c κ hasv X top exit u hs z w) e r)

-- The states from the body's end on.
module _ (hasv : Bool) (c : Ctx) (top : ℕ) (exit : Option ℕ) (u : Low) (v : Lowered) (t₁ : Low) where
  abbrev popped : Low
  popped = emitted_if (leaves v) Pop t₁

  abbrev jumped : Low
  jumped = emitted (Jump top) nowhere popped

  abbrev exited : Low
  exited = patched_any exit (with_loops u.loops jumped)

  abbrev while_end : Low
  while_end = emitted_if hasv UnitOp exited

  abbrev while_in : Ctx
  while_in = loop_in top (at while_end) hasv c

module _ (R : Records) (κ hasv : Bool) (X : Fin → Ctx → ℕ → ℕ → Type 0) (c : Ctx) (top : ℕ) (exit : Option ℕ) (u : Low) (hs : ℕ → Heights) (v : Lowered) (t₁ : Low)
    (r : Result R (while_in hasv c top exit u v t₁) κ c.ns (λ F. X F (while_in hasv c top exit u v t₁)) (looped top (depth c.ns) false hasv u) hs v t₁) where
  abbrev t₂ : Low
  t₂ = popped hasv c top exit u v t₁

  abbrev t₃ : Low
  t₃ = jumped hasv c top exit u v t₁

  abbrev t₅ : Low
  t₅ = exited hasv c top exit u v t₁

  abbrev t₆ : Low
  t₆ = while_end hasv c top exit u v t₁

  abbrev hs₂ : ℕ → Heights
  hs₂ = noted (at t₁) (heights 1 c) r.highs

  abbrev hs₃ : ℕ → Heights
  hs₃ = noted (at t₂) (heights 0 c) hs₂

  abbrev c₁ : Ctx
  c₁ = while_in hasv c top exit u v t₁

  while-back : (F : Fin) (S : Aims) → ((i : ℕ) → at u ≤ i → i < at t₆ → S i ≡ None) → Site exit (at u) S → Final F S (landed_as u.breaks.held r.new t₆) (noted (at t₅) (heights 0 c) hs₃)
      → ((w y z : ℕ) × X F c₁ (at u) w × Drop (layout_of R F) κ c w y × Ins (layout_of R F) (Jump top) 0 c y z × Glue (layout_of R F) false hasv c (at t₃) (at t₆)) × Final F (aim_any exit (at t₃) S) u hs
  while-back F S q ex f =
      let u₁ = looped top (depth c.ns) false hasv u in
      let new = r.new in
      let b = at t₆ in
      let o₁ = r.kept.on in
      let o₂ = on_if (leaves v) Pop t₁ in
      let l₃ = at-emit (Jump top) nowhere t₂ in
      let l₅ = at-patch_any exit (with_loops u.loops t₃) in
      let o₆ = on_if hasv UnitOp t₅ in
      let W = r.kept.within in
      let xb = exit-back R F S c hasv u.breaks.held new t₅ hs₃ (at u₁) (at t₁) W o₁ (omega arith) (λ i p k. q i p (omega arith)) f in
      let V : Aims = aim_all new b S in
      let V₁ : Aims = aim_any exit (at t₃) V in
      let ab = any-back exit F V (with_loops u.loops t₃) hs₃ (site-later exit (at u) (at t₃) S V (omega arith) (λ i k. aim_all-below (at u₁) (at t₁) b new S W i k) ex) xb.1 in
      let high : (i : ℕ) → at t₁ ≤ i → i < at t₆ → V₁ i ≡ None = λ i p k. any-other exit (at u) (at t₃) S V i ex (omega arith) ∙ aim_all-above (at u₁) (at t₁) b new S W i p ∙ q i (omega arith) k in
      let jb = ins R F V₁ t₂ hs₂ (Jump top) nowhere (heights 0 c) (high (at t₂) (omega arith) (omega arith)) refl ab in
      let quiet : Quiet V₁ (at u₁) (at t₁) new b = λ i p k. any-other exit (at u) (at t₃) S V i ex p ∙ aim_all-at new b S none i (q i p (omega arith)) in
      let bb = body_back R c₁ c κ c.ns (λ F. X F c₁) u₁ hs v t₁ r F V₁ quiet (λ k. high (at t₁) (omega arith) (omega arith)) jb.1 in
      let g = subst (λ (z : ℕ). Glue (layout_of R F) false hasv c z (at t₆)) l₅ xb.0 in
      let fin : Final F (aim_any exit (at t₃) S) u hs =
      (ops-same F V₁ (aim_any exit (at t₃) S) u.code.held hs hs (λ i k. any_at exit (at t₃) V S i (aim_all-below (at u₁) (at t₁) b new S W i k)) (λ i k. refl) bb.2.0, bb.2.1) in
      ((at t₁, at t₂, at t₃, bb.0, bb.1, jb.0, g), fin)

  while-end : (x : Lowered) (t : Low) → bind (emit (Jump top)) (λ _. bind leave_loop (λ count. bind (patch_if exit) (λ _. exit_loop count hasv))) t₂ ≡ ok x t → Whiled R c κ hasv X top exit u hs x t
  while-end x t h =
      let u₁ = looped top (depth c.ns) false hasv u in
      let nl = new_loop top (depth c.ns) false hasv u in
      let new = r.new in
      let t₀ = landed_as u.breaks.held new t₆ in
      let h₄ = run (sure-unloop-as t₃ u.loops (plus (length new) nl) (length new) (loop-after R c.ns new nl u u₁ t₁ refl r.kept) (omega arith)) _ (run (sure-emit (Jump top) nowhere t₂) _ h) in
      let h₆ = run (sure-land-as (length new) t₆ u.breaks.held new r.kept.breaks refl) _ (run (sure-put_if hasv UnitOp t₅) _ (run (sure-patch_if R exit (with_loops u.loops t₃)) _ h₄)) in
      let o₁ = r.kept.on in
      let o₂ = on_if (leaves v) Pop t₁ in
      let l₃ = at-emit (Jump top) nowhere t₂ in
      let l₅ = at-patch_any exit (with_loops u.loops t₃) in
      let o₆ = on_if hasv UnitOp t₅ in
      let l₀ : at t₀ ≡ at t₆ = length-patch_all new (at t₆) t₆.code.held in
      whiled h₆ (record {
        highs = noted (at t₅) (heights 0 c) hs₃;
        kind = refl;
        kept = kept-plain R c.ns u t₀ r.kept.slots r.kept.block r.kept.iters r.kept.handlers refl refl (omega arith) r.kept.dist;
        fall = at t₃;
        back = λ F S q ex f.
            let b = while-back F S (λ i p k. q i p (omega arith)) ex f in
            let p = b.0 in
            ((p.0, p.1, p.2, subst (λ (z : ℕ). X F (loop_in top z hasv c) (at u) p.0) (sym l₀) p.3, p.4, p.5, subst (λ (z : ℕ). Glue (layout_of R F) false hasv c (at t₃) z) (sym l₀) p.6), b.1);
      })

module _ (R : Records) (body : M Lowered) (κ hasv : Bool) (X : Fin → Ctx → ℕ → ℕ → Type 0) (G : Good R body κ hasv X) where
  while-rest : (c : Ctx) (top : ℕ) (exit : Option ℕ) (u : Low) (hs : ℕ → Heights) (x : Lowered) (t : Low) → AroundOf R c u
      → bind depth_now (λ d. bind (enter_loop top d false hasv) (λ _. bind (discarding body) (λ _. bind (emit (Jump top)) (λ _. bind leave_loop (λ count. bind (patch_if exit) (λ _. exit_loop count hasv)))))) u ≡ ok x t
      → Whiled R c κ hasv X top exit u hs x t
  while-rest c top exit u hs x t A h =
      let ld = around_depth R c u.slots.held u.iters u.handlers u.loops A in
      let u₁ = looped top (depth c.ns) false hasv u in
      let D = discard-ok body _ u₁ t x (run (sure-loop top (depth c.ns) false hasv u) _ (run (sure-as (sure-depth u) ld refl) _ h)) in
      go D.0 D.1 D.2 D.3
    where
      go : (v : Lowered) (t₁ : Low) → body (looped top (depth c.ns) false hasv u) ≡ ok v t₁ → bind (emit (Jump top)) (λ _. bind leave_loop (λ count. bind (patch_if exit) (λ _. exit_loop count hasv))) (emitted_if (leaves v) Pop t₁) ≡ ok x t → Whiled R c κ hasv X top exit u hs x t
      go v t₁ e f = while-end R κ hasv X c top exit u hs v t₁ (G (while_in hasv c top exit u v t₁) (looped top (depth c.ns) false hasv u) hs v t₁ (loop-around R c top (at (while_end hasv c top exit u v t₁)) hasv u A) (λ e. e) e) x t f

  module _ (c : Ctx) (s : Low) (hs : ℕ → Heights) (x : Lowered) (t : Low) (A : AroundOf R c s) (e : Exp) (mark : Position) where
    abbrev While : Bool → Fin → ℕ → ℕ → Type 0
    While d F a b =
        (top u w y z f : ℕ) × InsAt (layout_of R F) Tick mark 0 c a top × Tests (layout_of R F) d e c f top u
        × X F (loop_in top b hasv c) u w × Drop (layout_of R F) κ c w y × Ins (layout_of R F) (Jump top) 0 c y z × Exits (layout_of R F) d hasv c f b

    pub good-while : looping R e mark hasv body s ≡ ok x t → Result R c hasv c.ns (While (endless e)) s hs x t
    good-while h = go (endless e) (run (sure-here s₁) _ (run (sure-emit Tick mark s) _ h))
      where
        s₁ : Low
        s₁ = emitted Tick mark s

        hs₁ : ℕ → Heights
        hs₁ = noted (at s) (heights 0 c) hs

        go : (d : Bool) → bind (cond d (ret None) (bind (expression e) (λ _. bind (emit_at (JumpIfFalse unset) e.at) (λ site. ret (Some site))))) (λ exit.
            bind depth_now (λ d. bind (enter_loop (at s₁) d false hasv) (λ _. bind (discarding body) (λ _. bind (emit (Jump (at s₁))) (λ _. bind leave_loop (λ count. bind (patch_if exit) (λ _. exit_loop count hasv))))))) s₁ ≡ ok x t
            → Result R c hasv c.ns (While d) s hs x t
        go true f =
            let l₁ = at-emit Tick mark s in
            let r = while-rest c (at s₁) None s₁ hs₁ x t A f in
            let o = r.kept.on in
            record {
              highs = r.highs;
              kind = r.kind;
              new = [];
              alone = λ z. refl;
              kept = kept-before R c.ns [] s₁.code s.rows s t (omega arith) r.kept;
              back = λ F S q f.
                  let b = r.back F S (λ i p k. q i (omega arith) k) tt f in
                  let p = b.0 in
                  let k = ins R F S s hs Tick mark (heights 0 c) (q (at s) (omega arith) (omega arith)) refl b.1 in
                  ((at s₁, at s₁, p.0, p.1, p.2, r.fall, k.0, refl, p.3, p.4, p.5, tt), k.1);
            }
        go false f =
            let s₂ = evaluated e s₁ in
            let s₃ = emitted (JumpIfFalse unset) e.at s₂ in
            let l₁ = at-emit Tick mark s in
            let l₂ = at_row 1 e.number s₁ in
            let l₃ = at-emit (JumpIfFalse unset) e.at s₂ in
            let test : Sure (bind (expression e) (λ _. bind (emit_at (JumpIfFalse unset) e.at) (λ site. ret (Some site)))) s₁ (Some (at s₂)) s₃ =
            then-sure _ (sure-exp e s₁) (then-sure _ (sure-emit (JumpIfFalse unset) e.at s₂) (sure-ret (Some (at s₂)) s₃)) in
            let hs₃ = noted (at s₂) (heights 1 c) hs₁ in
            let r = while-rest c (at s₁) (Some (at s₂)) s₃ hs₃ x t A (run test _ f) in
            let o = r.kept.on in
            record {
              highs = r.highs;
              kind = r.kind;
              new = [];
              alone = λ z. refl;
              kept = kept-before R c.ns [] s₃.code s₂.rows s t (omega arith) r.kept;
              back = λ F S q f.
                  let b = r.back F S (λ i p k. q i (omega arith) k) (omega arith, q (at s₂) (omega arith) (omega arith)) f in
                  let p = b.0 in
                  let V : Aims = aim (at s₂) r.fall S in
                  let j = hole R F V s₂ hs₁ (JumpIfFalse unset) e.at (heights 1 c) r.fall (aim_same (at s₂) r.fall S) refl b.1 in
                  let eb = exp R F V e s₁ hs₁ (aim-other (at s₂) r.fall S (at s₁) (λ z. omega arith) ∙ q (at s₁) (omega arith) (omega arith)) j.1 in
                  let k = ins R F V s hs Tick mark (heights 0 c) (aim-other (at s₂) r.fall S (at s) (λ z. omega arith) ∙ q (at s) (omega arith) (omega arith)) refl eb.1 in
                  ((at s₁, at s₃, p.0, p.1, p.2, r.fall, k.0, (at s₂, eb.0, j.0), p.3, p.4, p.5, p.6), final-aim F S s hs (at s₂) r.fall (omega arith) k.1);
            }

-- ## Do

-- The test of a `do`: what it leaves, and where it stands.
abbrev round_pile : Bool → Position → ℕ → Pile Instr → Pile Instr
round_pile true p top q = pushed (record { op = JumpIfFalse top; at = p }) q
round_pile false p top q =
    let w = pushed (record { op = Jump top; at = nowhere }) (pushed (record { op = JumpIfFalse unset; at = p }) q) in
    holding (patch (length q.held) (length w.held) w.held) w

abbrev rounded : Bool → Position → ℕ → Low → Low
rounded until p top u = with_code (round_pile until p top u.code) u

sure-round : (R : Records) (until : Bool) (p : Position) (top : ℕ) (u : Low) → Sure (round_test until p top) u tt (rounded until p top u)
sure-round R true p top u = sure-put (JumpIfFalse top) p u
sure-round R false p top u =
    let u₁ = emitted (JumpIfFalse unset) p u in
    then-sure _ (sure-emit (JumpIfFalse unset) p u) (then-sure _ (sure-emit (Jump top) nowhere u₁) (sure-patch_here (at u) (emitted (Jump top) nowhere u₁)))

round-on : (until : Bool) (p : Position) (top : ℕ) (u : Low) → at u < at (rounded until p top u)
round-on true p top u = let l = at-emit (JumpIfFalse top) p u in omega arith
round-on false p top u =
    let u₁ = emitted (JumpIfFalse unset) p u in
    let u₂ = emitted (Jump top) nowhere u₁ in
    let l₁ = at-emit (JumpIfFalse unset) p u in let l₂ = at-emit (Jump top) nowhere u₁ in let l₃ = at-patch (at u) (at u₂) u₂ in omega arith

abbrev round_highs : Bool → Position → ℕ → Ctx → Low → (ℕ → Heights) → ℕ → Heights
round_highs true p top c u hs = noted (at u) (heights 1 c) hs
round_highs false p top c u hs = noted (at (emitted (JumpIfFalse unset) p u)) (heights 0 c) (noted (at u) (heights 1 c) hs)

round-back : (R : Records) (F : Fin) (S : Aims) (until : Bool) (p : Position) (top : ℕ) (c : Ctx) (u : Low) (hs : ℕ → Heights) → ((i : ℕ) → at u ≤ i → i < at (rounded until p top u) → S i ≡ None)
    → Final F S (rounded until p top u) (round_highs until p top c u hs) → DoTest (layout_of R F) until p c top (at u) (at (rounded until p top u)) × Final F S u hs
round-back R F S true p top c u hs q f = ins R F S u hs (JumpIfFalse top) p (heights 1 c) (q (at u) (omega arith) (round-on true p top u)) refl f
round-back R F S false p top c u hs q f =
    let u₁ = emitted (JumpIfFalse unset) p u in
    let u₂ = emitted (Jump top) nowhere u₁ in
    let l₁ = at-emit (JumpIfFalse unset) p u in
    let l₂ = at-emit (Jump top) nowhere u₁ in
    let l₃ = at-patch (at u) (at u₂) u₂ in
    let hs₁ = noted (at u) (heights 1 c) hs in
    let V : Aims = aim (at u) (at u₂) S in
    let pb = patch-back F S u₂ (noted (at u₁) (heights 0 c) hs₁) (at u) (at u₂) (omega arith) (q (at u) (omega arith) (omega arith)) f in
    let jb = ins R F V u₁ hs₁ (Jump top) nowhere (heights 0 c) (aim-other (at u) (at u₂) S (at u₁) (λ z. omega arith) ∙ q (at u₁) (omega arith) (omega arith)) refl pb in
    let tb = hole R F V u hs (JumpIfFalse unset) p (heights 1 c) (at u₂) (aim_same (at u) (at u₂) S) refl jb.1 in
    ((at u₁, at u₂, subst (λ (z : ℕ). InsAt (layout_of R F) (JumpIfFalse z) p 1 c (at u) (at u₁)) (sym l₃) tb.0, jb.0), final-aim F S u hs (at u) (at u₂) (omega arith) tb.1)

-- The states from the body's end on.
module _ (hasv until : Bool) (e : Exp) (c : Ctx) (u : Low) (v : Lowered) (t₁ : Low) where
  abbrev valued : Low
  valued = evaluated e (with_loops u.loops (emitted_if (leaves v) Pop t₁))

  abbrev round : Low
  round = rounded until e.at (at u) valued

  abbrev do_end : Low
  do_end = emitted_if hasv UnitOp round

  abbrev do_in : Ctx
  do_in = loop_in (at u) (at do_end) hasv c

module _ (R : Records) (κ hasv until : Bool) (X : Fin → Ctx → ℕ → ℕ → Type 0) (e : Exp) (mark : Position) (c : Ctx) (s : Low) (hs : ℕ → Heights) (v : Lowered) (t₁ : Low)
    (r : Result R (do_in hasv until e c (emitted Tick mark s) v t₁) κ c.ns (λ F. X F (do_in hasv until e c (emitted Tick mark s) v t₁))
    (looped (at (emitted Tick mark s)) (depth c.ns) false hasv (emitted Tick mark s)) (noted (at s) (heights 0 c) hs) v t₁) where
  abbrev u : Low
  u = emitted Tick mark s

  abbrev d₂ : Low
  d₂ = emitted_if (leaves v) Pop t₁

  abbrev d₄ : Low
  d₄ = valued hasv until e c u v t₁

  abbrev d₅ : Low
  d₅ = round hasv until e c u v t₁

  abbrev d₆ : Low
  d₆ = do_end hasv until e c u v t₁

  abbrev d_in : Ctx
  d_in = do_in hasv until e c u v t₁

  abbrev ks₂ : ℕ → Heights
  ks₂ = noted (at t₁) (heights 1 c) r.highs

  abbrev ks₅ : ℕ → Heights
  ks₅ = round_highs until e.at (at u) c d₄ ks₂

  abbrev Done : Fin → ℕ → ℕ → Type 0
  Done F a b = (top n w m f : ℕ) × InsAt (layout_of R F) Tick mark 0 c a top × X F (loop_in top b hasv c) top n × Drop (layout_of R F) κ c n w
      × (layout_of R F).Exp' e.number w m × DoTest (layout_of R F) until e.at c top m f × Glue (layout_of R F) false hasv c f b

  do-back : (F : Fin) (S : Aims) → ((i : ℕ) → at s ≤ i → i < at d₆ → S i ≡ None) → Final F S (landed_as s.breaks.held r.new d₆) (noted (at d₅) (heights 0 c) ks₅) → Done F (at s) (at d₆) × Final F S s hs
  do-back F S q f =
      let u₁ = looped (at u) (depth c.ns) false hasv u in
      let new = r.new in
      let b = at d₆ in
      let l₀ = at-emit Tick mark s in
      let o₁ = r.kept.on in
      let o₂ = on_if (leaves v) Pop t₁ in
      let l₄ = at_row 1 e.number d₂ in
      let o₅ = round-on until e.at (at u) d₄ in
      let o₆ = on_if hasv UnitOp d₅ in
      let W = r.kept.within in
      let xb = exit-back R F S c hasv s.breaks.held new d₅ ks₅ (at u₁) (at t₁) W o₁ (omega arith) (λ i p k. q i (omega arith) k) f in
      let V : Aims = aim_all new b S in
      let high : (i : ℕ) → at t₁ ≤ i → i < at d₆ → V i ≡ None = λ i p k. aim_all-above (at u₁) (at t₁) b new S W i p ∙ q i (omega arith) k in
      let tb = round-back R F V until e.at (at u) c d₄ ks₂ (λ i p k. high i (omega arith) (omega arith)) xb.1 in
      let eb = exp R F V e (with_loops s.loops d₂) ks₂ (high (at d₂) (omega arith) (omega arith)) tb.1 in
      let quiet : Quiet V (at u₁) (at t₁) new b = λ i p k. aim_all-at new b S none i (q i (omega arith) (omega arith)) in
      let bb = body_back R d_in c κ c.ns (λ F. X F d_in) u₁ (noted (at s) (heights 0 c) hs) v t₁ r F V quiet (λ k. high (at t₁) (omega arith) (omega arith)) eb.1 in
      let kb = ins R F V s hs Tick mark (heights 0 c) (aim_all-below (at u₁) (at t₁) b new S W (at s) (omega arith) ∙ q (at s) (omega arith) (omega arith)) refl bb.2 in
      let fin : Final F S s hs = (ops-same F V S s.code.held hs hs (λ i k. aim_all-below (at u₁) (at t₁) b new S W i (omega arith)) (λ i k. refl) kb.1.0, kb.1.1) in
      ((at u, at t₁, at d₂, at d₄, at d₅, kb.0, bb.0, bb.1, eb.0, tb.0, xb.0), fin)

  do-end : (x : Lowered) (t : Low) → spelled R s.slots.held ≡ flat c.ns → bind leave_loop (λ count. bind (expression e) (λ _. bind (round_test until e.at (at u)) (λ _. exit_loop count hasv))) d₂ ≡ ok x t → Result R c hasv c.ns Done s hs x t
  do-end x t slots h =
      let u₁ = looped (at u) (depth c.ns) false hasv u in
      let nl = new_loop (at u) (depth c.ns) false hasv u in
      let new = r.new in
      let t₀ = landed_as s.breaks.held new d₆ in
      let h₃ = run (sure-unloop-as d₂ s.loops (plus (length new) nl) (length new) (loop-after R c.ns new nl u u₁ t₁ refl r.kept) (omega arith)) _ h in
      let h₅ = run (sure-round R until e.at (at u) d₄) _ (run (sure-exp e (with_loops s.loops d₂)) _ h₃) in
      let h₆ = run (sure-land-as (length new) d₆ s.breaks.held new r.kept.breaks refl) _ (run (sure-put_if hasv UnitOp d₅) _ h₅) in
      let l₁ = at-emit Tick mark s in
      let o₁ = r.kept.on in
      let o₂ = on_if (leaves v) Pop t₁ in
      let l₄ = at_row 1 e.number d₂ in
      let o₅ = round-on until e.at (at u) d₄ in
      let o₆ = on_if hasv UnitOp d₅ in
      let l₀ : at t₀ ≡ at d₆ = length-patch_all new (at d₆) d₆.code.held in
      ends h₆ (record {
        highs = noted (at d₅) (heights 0 c) ks₅;
        kind = refl;
        new = [];
        alone = λ z. refl;
        kept = kept-plain R c.ns s t₀ r.kept.slots r.kept.block r.kept.iters r.kept.handlers refl refl (omega arith) r.kept.dist;
        back = λ F S q f.
            let b = do-back F S (λ i p k. q i p (omega arith)) f in
            (subst (λ (z : ℕ). Done F (at s) z) (sym l₀) b.0, b.1);
      })

pub good-do : (R : Records) (body : M Lowered) (κ hasv : Bool) (X : Fin → Ctx → ℕ → ℕ → Type 0) (G : Good R body κ hasv X) (c : Ctx) (s : Low) (hs : ℕ → Heights) (x : Lowered) (t : Low) (until : Bool) (e : Exp) (mark : Position)
    → AroundOf R c s → doing R until e mark hasv body s ≡ ok x t
    → Result R c hasv c.ns (λ F a b. (top u w m f : ℕ) × InsAt (layout_of R F) Tick mark 0 c a top × X F (loop_in top b hasv c) top u × Drop (layout_of R F) κ c u w
    × (layout_of R F).Exp' e.number w m × DoTest (layout_of R F) until e.at c top m f × Glue (layout_of R F) false hasv c f b) s hs x t
good-do R body κ hasv X G c s hs x t until e mark A h =
    let ld = around_depth R c s.slots.held s.iters s.handlers s.loops A in
    let w = emitted Tick mark s in
    let D = discard-ok body _ (looped (at w) (depth c.ns) false hasv w) t x (run (sure-loop (at w) (depth c.ns) false hasv w) _ (run (sure-as (sure-depth w) ld refl) _ (run (sure-here w) _ (run (sure-emit Tick mark s) _ h)))) in
    go D.0 D.1 D.2 D.3
  where
    u : Low
    u = emitted Tick mark s

    go : (v : Lowered) (t₁ : Low) → body (looped (at u) (depth c.ns) false hasv u) ≡ ok v t₁ → bind leave_loop (λ count. bind (expression e) (λ _. bind (round_test until e.at (at u)) (λ _. exit_loop count hasv))) (emitted_if (leaves v) Pop t₁) ≡ ok x t
        → Result R c hasv c.ns (λ F a b. (top u w m f : ℕ) × InsAt (layout_of R F) Tick mark 0 c a top × X F (loop_in top b hasv c) top u × Drop (layout_of R F) κ c u w
        × (layout_of R F).Exp' e.number w m × DoTest (layout_of R F) until e.at c top m f × Glue (layout_of R F) false hasv c f b) s hs x t
    go v t₁ q f = do-end R κ hasv until X e mark c s hs v t₁ (G (do_in hasv until e c u v t₁) (looped (at u) (depth c.ns) false hasv u) (noted (at s) (heights 0 c) hs) v t₁ (loop-around R c (at u) (at (do_end hasv until e c u v t₁)) hasv u A) (λ z. z) q) x t A.slots-are f
