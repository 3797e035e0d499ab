-- `if`: accepted lowering stands if its two blocks do.
use Rattle.std.proofs.Common.{◌≡◌, ℕ, suc, ◌<◌, ◌≤◌, Bool, true, false, cond, ◌||◌, eqb, List, ◌++◌, get_or, Some, None, Option, sym, refl, ap, ◌∙◌, subst, inl, inr, arith, length-set}
use borrow.Author.Tests.{clash}
use Rattle.records.specs.Tree.{Records, Exp, nowhere}
use Rattle.code.specs.declared.ops.Op.TheVariants.{Unit as UnitOp, Jump, JumpIfFalse}
use Rattle.code.specs.declared.shapes.Lowered.{Lowered}
use Rattle.code.specs.declared.shapes.Lowered.TheVariants.{Empty}
use Rattle.meaning.specs.Agreement.{Heights}
use Rattle.meaning.specs.LowerState.{Low, Out.ok, M, bind, patch_here, with_code, aimed_at, blank_instr}
use Rattle.meaning.specs.Lower.{unset, lowered, leaves, jump_if, meet, choosing}
use Rattle.meaning.proofs.Place.{Ctx, one, heights, Ins, InsAt, Glue}
use Rattle.meaning.proofs.Monad.{at, emitted, emitted_if, patched, evaluated, bind_ok, Sure, run, then-sure, sure-ret, sure-emit, sure-exp, sure-patch_here}
use Rattle.meaning.proofs.Aims.{Fin, layout_of, Aims, aim, aim_same, aim-other, Within, Quiet, noted, ops-same, ops-patch, Final, ins, hole, exp}
use Rattle.meaning.proofs.Standing.{AroundOf, Kept, around-after, kept_then, Result, brk_of, Allows, Good, both-none, quiet-aim, quiet-first, quiet-second, quiet-below, quiet-above}
use Rattle.meaning.proofs.Plain.{ends, at-emit, at_row}
use Rattle.meaning.proofs.Leaving.{kept-before}
use Rattle.meaning.proofs.Blocks.{leaves-lowered, allows-left, allows-right, kept-onward}

pub at-patch : (site t : ℕ) (u : Low) → at (patched site t u) ≡ at u
at-patch site t u = length-set u.code.held site (aimed_at t (get_or u.code.held site blank_instr))

-- A place to come that is given a target does not matter.
pub final-aim : (F : Fin) (S : Aims) (u : Low) (hs : ℕ → Heights) (site t : ℕ) → at u ≤ site → Final F (aim site t S) u hs → Final F S u hs
final-aim F S u hs site t l f = (ops-same F (aim site t S) S u.code.held hs hs (λ i b. aim-other site t S i (λ e. omega arith)) (λ i b. refl) f.0, f.1)

-- A place that is pointed at a target, one step back.
pub patch-back : (F : Fin) (S : Aims) (u : Low) (hs : ℕ → Heights) (site t : ℕ) → site < at u → S site ≡ None → Final F S (patched site t u) hs → Final F (aim site t S) u hs
patch-back F S u hs site t l n f = (ops-patch F S u.code.held hs site t l n f.0, f.1)

pub jump_to : (R : Records) (F : Fin) (a b v : ℕ) (c : Ctx) (w n : ℕ) → a ≡ b → Ins (layout_of R F) (Jump a) v c w n → Ins (layout_of R F) (Jump b) v c w n
jump_to R F a b v c w n e i = subst (λ (z : ℕ). Ins (layout_of R F) (Jump z) v c w n) e i

-- Between two lists of places.
pub quiet-between : (S : Aims) (a b l m h k : ℕ) (xs ys : List ℕ) (t i : ℕ) → Within l m xs → Within h k ys → a ≤ i → i < b → m ≤ i → i < h → Quiet S a b (xs ++ ys) t → S i ≡ None
quiet-between S a b l m h k xs ys t i w v p r e g q = quiet-below S i (suc i) h k ys t i v (omega arith) (omega arith) g (quiet-second S a b l m xs ys t i (suc i) w p (omega arith) e q)

-- ## Both ways meet

-- From the branch's end on: where the jump past the branch lands, and how each way comes to the same height.
record Met (R : Records) (c : Ctx) (κ μ : Bool) (site : ℕ) (u : Low) (hs : ℕ → Heights) (v : Lowered) (t : Low) : Type 0 where
  highs : ℕ → Heights
  kind : v ≡ lowered (κ || μ)
  frame : t ≡ with_code t.code u
  on : at u ≤ at t
  dest : ℕ
  back : (F : Fin) (S : Aims) → ((i : ℕ) → at u ≤ i → i < at t → S i ≡ None) → site < at u → S site ≡ None → Final F S t highs
      → Glue (layout_of R F) μ (κ || μ) c (at u) (at t) × ((w n : ℕ) → Ins (layout_of R F) (Jump dest) (one κ) c w n → Glue (layout_of R F) κ (κ || μ) c w (at t)) × Final F (aim site dest S) u hs

met : {R : Records} {c : Ctx} {κ μ : Bool} {site : ℕ} {u : Low} {hs : ℕ → Heights} {v x : Lowered} {w t : Low} → ok v w ≡ ok x t → Met R c κ μ site u hs v w → Met R c κ μ site u hs x t
met {R} {c} {κ} {μ} {site} {u} {hs} {v} {x} {w} {t} h r =
    let e : v ≡ x = cc in
    let f : w ≡ t = cc in
    subst (λ (z : Low). Met R c κ μ site u hs x z) f (subst (λ (z : Lowered). Met R c κ μ site u hs z w) e r)

meets : (R : Records) (c : Ctx) (κ μ : Bool) (site : ℕ) (u : Low) (hs : ℕ → Heights) (x : Lowered) (t : Low) → meet (lowered κ) (lowered μ) (Some site) u ≡ ok x t → Met R c κ μ site u hs x t
meets R c true true site u hs x t h =
    let t₀ = patched site (at u) u in
    let l = at-patch site (at u) u in
    met (run (sure-patch_here site u) _ h)
    (record {
      highs = hs;
      kind = refl;
      frame = refl;
      on = omega arith;
      dest = at u;
      back = λ F S n lt e f. (inl (sym l), (λ w n i. inr (n, jump_to R F (at u) (at t₀) 1 c w n (sym l) i)), patch-back F S u hs site (at u) lt e f);
    })
meets R c false false site u hs x t h =
    let t₀ = patched site (at u) u in
    let l = at-patch site (at u) u in
    met (run (sure-patch_here site u) _ h)
    (record {
      highs = hs;
      kind = refl;
      frame = refl;
      on = omega arith;
      dest = at u;
      back = λ F S n lt e f. (inl (sym l), (λ w n i. inr (n, jump_to R F (at u) (at t₀) 0 c w n (sym l) i)), patch-back F S u hs site (at u) lt e f);
    })
meets R c true false site u hs x t h =
    let u₁ = emitted UnitOp nowhere u in
    let t₀ = patched site (at u₁) u₁ in
    let l₁ = at-emit UnitOp nowhere u in
    let l = at-patch site (at u₁) u₁ in
    met (run (sure-patch_here site u₁) _ (run (sure-emit UnitOp nowhere u) _ h))
    (record {
      highs = noted (at u) (heights 0 c) hs;
      kind = refl;
      frame = refl;
      on = omega arith;
      dest = at u₁;
      back = λ F S n lt e f.
          let b₁ = patch-back F S u₁ (noted (at u) (heights 0 c) hs) site (at u₁) (omega arith) e f in
          let b₀ = ins R F (aim site (at u₁) S) u hs UnitOp nowhere (heights 0 c) (aim-other site (at u₁) S (at u) (λ z. omega arith) ∙ n (at u) (omega arith) (omega arith)) refl b₁ in
          ((at u, at u₁, inl refl, b₀.0, inl (sym l)), (λ w n i. inr (n, jump_to R F (at u₁) (at t₀) 1 c w n (sym l) i)), b₀.1);
    })
meets R c false true site u hs x t h =
    let u₁ = emitted (Jump unset) nowhere u in
    let u₂ = patched site (at u₁) u₁ in
    let u₃ = emitted UnitOp nowhere u₂ in
    let t₀ = patched (at u) (at u₃) u₃ in
    let l₁ = at-emit (Jump unset) nowhere u in
    let l₂ = at-patch site (at u₁) u₁ in
    let l₃ = at-emit UnitOp nowhere u₂ in
    let l₄ = at-patch (at u) (at u₃) u₃ in
    let hs₁ = noted (at u) (heights 1 c) hs in
    met (run (sure-patch_here (at u) u₃) _ (run (sure-emit UnitOp nowhere u₂) _ (run (sure-patch_here site u₁) _ (run (sure-emit (Jump unset) nowhere u) _ h))))
    (record {
      highs = noted (at u₂) (heights 0 c) hs₁;
      kind = refl;
      frame = refl;
      on = omega arith;
      dest = at u₁;
      back = λ F S n lt e f.
          let S₁ : Aims = aim (at u) (at u₃) S in
          let S₂ : Aims = aim site (at u₁) S₁ in
          let b₃ = patch-back F S u₃ (noted (at u₂) (heights 0 c) hs₁) (at u) (at u₃) (omega arith) (n (at u) (omega arith) (omega arith)) f in
          let b₂ = ins R F S₁ u₂ hs₁ UnitOp nowhere (heights 0 c) (aim-other (at u) (at u₃) S (at u₂) (λ z. omega arith) ∙ n (at u₂) (omega arith) (omega arith)) refl b₃ in
          let b₁ = patch-back F S₁ u₁ hs₁ site (at u₁) (omega arith) (aim-other (at u) (at u₃) S site (λ z. omega arith) ∙ e) b₂.1 in
          let b₀ = hole R F S₂ u hs (Jump unset) nowhere (heights 1 c) (at u₃) (aim-other site (at u₁) S₁ (at u) (λ z. omega arith) ∙ aim_same (at u) (at u₃) S) refl b₁ in
          let back : Final F (aim site (at u₁) S) u hs =
          (ops-same F S₂ (aim site (at u₁) S) u.code.held hs hs (λ i b. ap (λ (o : Option ℕ). cond (eqb i site) (Some (at u₁)) o) (aim-other (at u) (at u₃) S i (λ z. omega arith))) (λ i b. refl) b₀.1.0, b₀.1.1) in (
            inr (at u₁, jump_to R F (at u₃) (at t₀) 1 c (at u) (at u₁) (sym l₄) b₀.0),
            (λ w n i. (at u₂, at u₃, inr (n, jump_to R F (at u₁) (at u₂) 0 c w n (sym l₂) i), b₂.0, inl (sym l₄))),
            back,
          );
    })

-- ## The whole

sure-jump_if : (R : Records) (b d : Bool) (s : Low) → b ≡ d → Sure (jump_if b) s (cond d (Some (at s)) None) (emitted_if d (Jump unset) s)
sure-jump_if R b d s e = subst (λ (z : Bool). Sure (jump_if z) s (cond d (Some (at s)) None) (emitted_if d (Jump unset) s)) (sym e) (go d)
  where
    go : (d : Bool) → Sure (jump_if d) s (cond d (Some (at s)) None) (emitted_if d (Jump unset) s)
    go true = then-sure _ (sure-emit (Jump unset) nowhere s) (sure-ret (Some (at s)) (emitted (Jump unset) nowhere s))
    go false = sure-ret None s

module _ (R : Records) (c : Ctx) (s : Low) (hs : ℕ → Heights) (x : Lowered) (t : Low) (A : AroundOf R c s) (e : Exp) (body branch : M Lowered) (v_b v_c : Bool) (XB XC : Fin → Ctx → ℕ → ℕ → Type 0) where
  -- Where the code of both ways stands.
  abbrev Both : Bool → Bool → Fin → ℕ → ℕ → Type 0
  Both κ μ F a b =
      (m u w f x : ℕ) × (layout_of R F).Exp' e.number a m × InsAt (layout_of R F) (JumpIfFalse f) e.at 1 c m u
      × XB F c u w × Glue (layout_of R F) κ (κ || μ) c w b × XC F c f x × Glue (layout_of R F) μ (κ || μ) c x b

  abbrev s₁ : Low
  s₁ = evaluated e s

  abbrev s₂ : Low
  s₂ = emitted (JumpIfFalse unset) e.at s₁

  -- The state where the branch begins, with a jump past it.
  abbrev past₂ : Low → Low
  past₂ t₁ = emitted (Jump unset) nowhere t₁

  abbrev past₃ : Low → Low
  past₃ t₁ = patched (at s₁) (at (past₂ t₁)) (past₂ t₁)

  abbrev hs₁ : ℕ → Heights
  hs₁ = noted (at s₁) (heights 1 c) hs

  -- Body, branch and the meeting, all back.
  past_back : (κ μ : Bool) (v₁ : Lowered) (t₁ : Low) (r₁ : Result R c κ c.ns (λ F. XB F c) s₂ hs₁ v₁ t₁) (w : Lowered) (t₄ : Low)
      (r₂ : Result R c μ c.ns (λ F. XC F c) (past₃ t₁) (noted (at t₁) (heights (one κ) c) r₁.highs) w t₄) (m : Met R c κ μ (at t₁) t₄ r₂.highs x t)
      (F : Fin) (S : Aims) → Within (at s₂) (at t₄) (r₁.new ++ r₂.new) → Quiet S (at s) (at t) (r₁.new ++ r₂.new) (brk_of c.loop) → Final F S t m.highs → Both κ μ F (at s) (at t) × Final F S s hs
  past_back κ μ v₁ t₁ r₁ w t₄ r₂ m F S w₀ q f =
      let t₂ = past₂ t₁ in
      let t₃ = past₃ t₁ in
      let l₁ = at_row 1 e.number s in
      let l₂ = at-emit (JumpIfFalse unset) e.at s₁ in
      let l₃ = at-emit (Jump unset) nowhere t₁ in
      let l₄ = at-patch (at s₁) (at t₂) t₂ in
      let o₁ = r₁.kept.on in
      let o₂ = r₂.kept.on in
      let o₃ = m.on in
      let n₁ = r₁.new in
      let n₂ = r₂.new in
      let brk = brk_of c.loop in
      let w₁ = r₁.kept.within in
      let w₂ = r₂.kept.within in
      let mb = m.back F S (λ i p k. quiet-above S (at s) (at t) (at s₂) (at t₄) (n₁ ++ n₂) brk i w₀ (omega arith) k p q) (omega arith)
      (quiet-between S (at s) (at t) (at s₂) (at t₁) (at t₃) (at t₄) n₁ n₂ brk (at t₁) w₁ w₂ (omega arith) (omega arith) (omega arith) (omega arith) q) f in
      let S₁ : Aims = aim (at t₁) m.dest S in
      let S₂ : Aims = aim (at s₁) (at t₂) S₁ in
      let q₂ : Quiet S₁ (at t₃) (at t₄) n₂ brk = quiet-aim S (at t₃) (at t₄) n₂ brk (at t₁) m.dest (λ i p k z. omega arith) (quiet-second S (at s) (at t) (at s₂) (at t₁) n₁ n₂ brk (at t₃) (at t₄) w₁ (omega arith) (omega arith) (omega arith) q) in
      let q₁ : Quiet S₂ (at s₂) (at t₁) n₁ brk = quiet-aim S₁ (at s₂) (at t₁) n₁ brk (at s₁) (at t₂) (λ i p k z. omega arith)
      (quiet-aim S (at s₂) (at t₁) n₁ brk (at t₁) m.dest (λ i p k z. omega arith) (quiet-first S (at s) (at t) (at t₃) (at t₄) n₁ n₂ brk (at s₂) (at t₁) w₂ (omega arith) (omega arith) (omega arith) q)) in
      let low : (i : ℕ) → at s ≤ i → i < at s₂ → S₁ i ≡ None = λ i p k. aim-other (at t₁) m.dest S i (λ z. omega arith) ∙ quiet-below S (at s) (at t) (at s₂) (at t₄) (n₁ ++ n₂) brk i w₀ p (omega arith) k q in
      past-code κ μ v₁ t₁ r₁ w t₄ r₂ m F S mb q₂ q₁ low
    where
      past-code : (κ μ : Bool) (v₁ : Lowered) (t₁ : Low) (r₁ : Result R c κ c.ns (λ F. XB F c) s₂ hs₁ v₁ t₁) (w : Lowered) (t₄ : Low)
          (r₂ : Result R c μ c.ns (λ F. XC F c) (past₃ t₁) (noted (at t₁) (heights (one κ) c) r₁.highs) w t₄) (m : Met R c κ μ (at t₁) t₄ r₂.highs x t) (F : Fin) (S : Aims)
          → Glue (layout_of R F) μ (κ || μ) c (at t₄) (at t) × ((w n : ℕ) → Ins (layout_of R F) (Jump m.dest) (one κ) c w n → Glue (layout_of R F) κ (κ || μ) c w (at t)) × Final F (aim (at t₁) m.dest S) t₄ r₂.highs
          → Quiet (aim (at t₁) m.dest S) (at (past₃ t₁)) (at t₄) r₂.new (brk_of c.loop)
          → Quiet (aim (at s₁) (at (past₂ t₁)) (aim (at t₁) m.dest S)) (at s₂) (at t₁) r₁.new (brk_of c.loop)
          → ((i : ℕ) → at s ≤ i → i < at s₂ → aim (at t₁) m.dest S i ≡ None) → Both κ μ F (at s) (at t) × Final F S s hs
      past-code κ μ v₁ t₁ r₁ w t₄ r₂ m F S mb q₂ q₁ low =
          let t₂ = past₂ t₁ in
          let t₃ = past₃ t₁ in
          let l₁ = at_row 1 e.number s in
          let l₂ = at-emit (JumpIfFalse unset) e.at s₁ in
          let l₃ = at-emit (Jump unset) nowhere t₁ in
          let l₄ = at-patch (at s₁) (at t₂) t₂ in
          let o₁ = r₁.kept.on in
          let S₁ : Aims = aim (at t₁) m.dest S in
          let S₂ : Aims = aim (at s₁) (at t₂) S₁ in
          let rb₂ = r₂.back F S₁ q₂ mb.2 in
          let pb = patch-back F S₁ t₂ (noted (at t₁) (heights (one κ) c) r₁.highs) (at s₁) (at t₂) (omega arith) (low (at s₁) (omega arith) (omega arith)) rb₂.1 in
          let jb = hole R F S₂ t₁ r₁.highs (Jump unset) nowhere (heights (one κ) c) m.dest (aim-other (at s₁) (at t₂) S₁ (at t₁) (λ z. omega arith) ∙ aim_same (at t₁) m.dest S) refl pb in
          let rb₁ = r₁.back F S₂ q₁ jb.1 in
          let tb = hole R F S₂ s₁ hs (JumpIfFalse unset) e.at (heights 1 c) (at t₂) (aim_same (at s₁) (at t₂) S₁) refl rb₁.1 in
          let eb = exp R F S₂ e s hs (aim-other (at s₁) (at t₂) S₁ (at s) (λ z. omega arith) ∙ low (at s) (omega arith) (omega arith)) tb.1 in
          let fin = final-aim F S s hs (at t₁) m.dest (omega arith) (final-aim F S₁ s hs (at s₁) (at t₂) (omega arith) eb.1) in
          ((at s₁, at s₂, at t₁, at t₂, at t₄, eb.0, tb.0, rb₁.0, mb.1 (at t₁) (at t₂) jb.0, subst (λ (z : ℕ). XC F c z (at t₄)) l₄ rb₂.0, mb.0), fin)

  -- From the body's end on.
  past-rest : (κ μ : Bool) (v₁ : Lowered) (t₁ : Low) (r₁ : Result R c κ c.ns (λ F. XB F c) s₂ hs₁ v₁ t₁) (w : Lowered) (t₄ : Low)
      (r₂ : Result R c μ c.ns (λ F. XC F c) (past₃ t₁) (noted (at t₁) (heights (one κ) c) r₁.highs) w t₄) → meet v₁ w (Some (at t₁)) t₄ ≡ ok x t → Result R c (κ || μ) c.ns (Both κ μ) s hs x t
  past-rest κ μ v₁ t₁ r₁ w t₄ r₂ h =
      let h₆ = subst (λ (z : Lowered). meet (lowered κ) z (Some (at t₁)) t₄ ≡ ok x t) r₂.kind (subst (λ (z : Lowered). meet z w (Some (at t₁)) t₄ ≡ ok x t) r₁.kind h) in
      let m = meets R c κ μ (at t₁) t₄ r₂.highs x t h₆ in
      let n₁ = r₁.new in
      let n₂ = r₂.new in
      let l₁ = at_row 1 e.number s in
      let l₂ = at-emit (JumpIfFalse unset) e.at s₁ in
      let l₃ = at-emit (Jump unset) nowhere t₁ in
      let l₄ = at-patch (at s₁) (at (past₂ t₁)) (past₂ t₁) in
      let both = kept_then R c.ns c.ns n₁ n₂ s₂ (past₃ t₁) t₄ (kept-onward R c.ns n₁ (past₃ t₁).code s₂ t₁ (omega arith) r₁.kept) r₂.kept in
      let all = subst (λ (z : Low). Kept R c.ns (n₁ ++ n₂) s₂ z) (sym m.frame) (kept-onward R c.ns (n₁ ++ n₂) t.code s₂ t₄ m.on both) in
      record {
        highs = m.highs;
        kind = m.kind;
        new = n₁ ++ n₂;
        alone = λ z. both-none (r₁.alone z) (r₂.alone z);
        kept = kept-before R c.ns (n₁ ++ n₂) s₂.code s₁.rows s t (omega arith) all;
        back = λ F S q f. past_back κ μ v₁ t₁ r₁ w t₄ r₂ m F S both.within q f;
      }

  -- With a jump past the branch.
  if_past : (has κ μ : Bool) → Good R body κ v_b XB → Good R branch μ v_c XC → (has || κ) ≡ true → Allows c.loop (v_b || v_c) → choosing R e body has branch s ≡ ok x t → Result R c (κ || μ) c.ns (Both κ μ) s hs x t
  if_past has κ μ GB GC past al h =
      let b = bind_ok body _ s₂ t x (run (sure-emit (JumpIfFalse unset) e.at s₁) _ (run (sure-exp e s) _ h)) in
      go b.0 b.1 (GB c s₂ hs₁ b.0 b.1 A (allows-left c.loop v_b v_c al) b.2) b.3
    where
      go : (v₁ : Lowered) (t₁ : Low) → Result R c κ c.ns (λ F. XB F c) s₂ hs₁ v₁ t₁
          → bind (jump_if (has || leaves v₁)) (λ past. bind (patch_here (at s₁)) (λ _. bind branch (λ w. meet v₁ w past))) t₁ ≡ ok x t → Result R c (κ || μ) c.ns (Both κ μ) s hs x t
      go v₁ t₁ r₁ f =
          let jumps : (has || leaves v₁) ≡ true = ap (λ (z : Lowered). has || leaves z) r₁.kind ∙ ap (λ (z : Bool). has || z) (leaves-lowered κ) ∙ past in
          let d = bind_ok branch _ (past₃ t₁) t x (run (sure-patch_here (at s₁) (past₂ t₁)) _ (run (sure-jump_if R (has || leaves v₁) true t₁ jumps) _ f)) in
          past-rest κ μ v₁ t₁ r₁ d.0 d.1 (GC c (past₃ t₁) (noted (at t₁) (heights (one κ) c) r₁.highs) d.0 d.1 (around-after R c c.ns r₁.new s₂ t₁ A r₁.kept) (allows-right c.loop v_b v_c al) d.2) d.3

  -- Without a branch and without values: the code just goes on.
  if_none : Good R body false v_b XB → Good R branch false v_c XC → ((u : Low) (y : Lowered) (w : Low) → branch u ≡ ok y w → at w ≡ at u) → Allows c.loop (v_b || v_c) → choosing R e body false branch s ≡ ok x t
      → Result R c false c.ns (Both false false) s hs x t
  if_none GB GC bare al h =
      let l₁ = at_row 1 e.number s in
      let l₂ = at-emit (JumpIfFalse unset) e.at s₁ in
      let b = bind_ok body _ s₂ t x (run (sure-emit (JumpIfFalse unset) e.at s₁) _ (run (sure-exp e s) _ h)) in
      let v₁ = b.0 in
      let t₁ = b.1 in
      let r₁ = GB c s₂ hs₁ v₁ t₁ A (allows-left c.loop v_b v_c al) b.2 in
      let t₃ = patched (at s₁) (at t₁) t₁ in
      let l₄ = at-patch (at s₁) (at t₁) t₁ in
      let d = bind_ok branch _ t₃ t x (run (sure-patch_here (at s₁) t₁) _ (run (sure-jump_if R (leaves v₁) false t₁ (ap leaves r₁.kind)) _ b.3)) in
      let w = d.0 in
      let t₄ = d.1 in
      let r₂ = GC c t₃ r₁.highs w t₄ (around-after R c c.ns r₁.new s₂ t₁ A r₁.kept) (allows-right c.loop v_b v_c al) d.2 in
      let h₆ = subst (λ (z : Lowered). meet Empty z None t₄ ≡ ok x t) r₂.kind (subst (λ (z : Lowered). meet z w None t₄ ≡ ok x t) r₁.kind d.3) in
      let l₅ = bare t₃ w t₄ d.2 in
      let n₁ = r₁.new in
      let n₂ = r₂.new in
      let o₁ = r₁.kept.on in
      let o₂ = r₂.kept.on in
      let both = kept_then R c.ns c.ns n₁ n₂ s₂ t₃ t₄ (kept-onward R c.ns n₁ t₃.code s₂ t₁ (omega arith) r₁.kept) r₂.kept in
      ends h₆ (record {
        highs = r₂.highs;
        kind = refl;
        new = n₁ ++ n₂;
        alone = λ z. both-none (r₁.alone z) (r₂.alone z);
        kept = kept-before R c.ns (n₁ ++ n₂) s₂.code s₁.rows s t₄ (omega arith) both;
        back = λ F S q f.
            let brk = brk_of c.loop in
            let w₁ = r₁.kept.within in
            let w₂ = r₂.kept.within in
            let w₀ = both.within in
            let rb₂ = r₂.back F S (quiet-second S (at s) (at t₄) (at s₂) (at t₁) n₁ n₂ brk (at t₃) (at t₄) w₁ (omega arith) (omega arith) (omega arith) q) f in
            let low : (i : ℕ) → at s ≤ i → i < at s₂ → S i ≡ None = λ i p k. quiet-below S (at s) (at t₄) (at s₂) (at t₄) (n₁ ++ n₂) brk i w₀ p (omega arith) k q in
            let S₂ : Aims = aim (at s₁) (at t₁) S in
            let pb = patch-back F S t₁ r₁.highs (at s₁) (at t₁) (omega arith) (low (at s₁) (omega arith) (omega arith)) rb₂.1 in
            let q₁ = quiet-aim S (at s₂) (at t₁) n₁ brk (at s₁) (at t₁) (λ i p k z. omega arith) (quiet-first S (at s) (at t₄) (at t₃) (at t₄) n₁ n₂ brk (at s₂) (at t₁) w₂ (omega arith) (omega arith) (omega arith) q) in
            let rb₁ = r₁.back F S₂ q₁ pb in
            let tb = hole R F S₂ s₁ hs (JumpIfFalse unset) e.at (heights 1 c) (at t₁) (aim_same (at s₁) (at t₁) S) refl rb₁.1 in
            let eb = exp R F S₂ e s hs (aim-other (at s₁) (at t₁) S (at s) (λ z. omega arith) ∙ low (at s) (omega arith) (omega arith)) tb.1 in (
              (at s₁, at s₂, at t₁, at t₁, at t₄, eb.0, tb.0, rb₁.0, inl (omega arith), subst (λ (z : ℕ). XC F c z (at t₄)) l₄ rb₂.0, inl refl),
              final-aim F S s hs (at s₁) (at t₁) (omega arith) eb.1,
            );
      })

  pub good-if : (has κ μ : Bool) → Good R body κ v_b XB → Good R branch μ v_c XC → (has ≡ false → (μ ≡ false) × ((u : Low) (y : Lowered) (w : Low) → branch u ≡ ok y w → at w ≡ at u)) → Allows c.loop (v_b || v_c)
      → choosing R e body has branch s ≡ ok x t → Result R c (κ || μ) c.ns (Both κ μ) s hs x t
  good-if true κ μ GB GC bare al h = if_past true κ μ GB GC refl al h
  good-if false true μ GB GC bare al h = if_past false true μ GB GC refl al h
  good-if false false true GB GC bare al h = absurd (clash (sym (bare refl).0))
  good-if false false false GB GC bare al h = if_none GB GC (bare refl).1 al h
