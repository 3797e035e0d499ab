-- `for`: accepted lowering stands if the body does.
use Rattle.std.proofs.Common.{◌≡◌, ℕ, suc, pred, ◌<◌, ◌≤◌, Bool, true, false, List, [], ◌∷◌, length, take, Some, None, sym, refl, ap, ◌∙◌, subst, arith}
use Rattle.std.proofs.lemmas.List.{take_at}
use Rattle.records.specs.declared.types.Position.{Position}
use Rattle.records.specs.Tree.{Records, Name, Exp, name_of, nowhere}
use Rattle.code.specs.declared.ops.Op.TheVariants.{Unit as UnitOp, DeclareLocal, Pop, Jump, UnwindTo, Tick, IterInit, IterNext, StoreShared}
use Rattle.code.specs.declared.shapes.Loop.{Loop}
use Rattle.code.specs.declared.shapes.Lowered.{Lowered}
use Rattle.meaning.specs.Reading.{Bytes}
use Rattle.meaning.specs.Agreement.{Heights}
use Rattle.meaning.specs.LowerState.{Low, Pile, Out.ok, M, bind, emit, emit_at, here, with_names, with_iters, with_loops, patch_here, drop_slots, set_iters, enter_loop, leave_loop, declare}
use Rattle.meaning.specs.Lower.{unset, leaves, discarding, exit_loop, going}
use Rattle.meaning.specs.Compiled.{spelled}
use Rattle.meaning.proofs.Place.{flat, depth, LoopAt, Ctx, in_scopes, up_iters, heights, Ins, InsAt, Glue, Drop}
use Rattle.meaning.proofs.Lowered.{SpelledName}
use Rattle.meaning.proofs.Monad.{at, emitted, emitted_if, patched, evaluated, declared, dropped, looped, new_loop, run, sure-as, sure-emit, sure-here, sure-exp, sure-depth, sure-may, sure-declare, sure-drop, sure-iters, sure-loop, sure-patch_here, sure-put_if}
use Rattle.meaning.proofs.Aims.{Fin, layout_of, Aims, none, aim, aim_all, aim_same, aim-other, aim_all-below, aim_all-above, aim_all-at, Quiet, noted, ops-same, Tabs, Final, ins, hole, exp, length-patch_all, snoc}
use Rattle.meaning.proofs.Tables.{Entry, name-ok, name_back, spelled-take, flat-length}
use Rattle.meaning.proofs.Standing.{LoopIs, AroundOf, around_depth, kept-plain, Result, Good, plus, last_snoc, sure-unloop-as, landed_as, sure-land-as, on_if, exit-back}
use Rattle.meaning.proofs.Plain.{ends, at-emit, at_row, slots-more, name-of}
use Rattle.meaning.proofs.Blocks.{discard-ok}
use Rattle.meaning.proofs.Choosing.{at-patch, final-aim, patch-back}
use Rattle.meaning.proofs.Rounds.{loop-after, body_back}

abbrev pub for_in : ℕ → ℕ → Bool → Bytes → Ctx → Ctx
for_in top b v x c = record { loop = Some (record { cont = top; brk = b; hasv = v; bns = c.ns; cns = (x ∷ []) ∷ c.ns; pops = 0; bdrops = 1; cdrops = 0 }); ns = (x ∷ []) ∷ c.ns; its = suc c.its; hands = c.hands }

-- Where a `for` stands.
abbrev pub ForAt : Records → Fin → Bool → Bool → (Ctx → ℕ → ℕ → Type 0) → Name → Exp → Position → Ctx → ℕ → ℕ → Type 0
ForAt R F κ hasv B x e mark c a b =
    (d m n u w top y z i j k f g : ℕ) × (layout_of R F).Name' d x.bytes × (layout_of R F).Room' (depth c.ns) × (layout_of R F).Exp' e.number a m × InsAt (layout_of R F) IterInit e.start 1 c m n
    × Ins (layout_of R F) UnitOp 0 (up_iters c) n u × Ins (layout_of R F) (DeclareLocal d false false) 1 (up_iters c) u w × InsAt (layout_of R F) Tick mark 0 (for_in top b hasv x.bytes c) w top
    × InsAt (layout_of R F) (IterNext f None) e.at 0 (for_in top b hasv x.bytes c) top y × Ins (layout_of R F) (StoreShared (depth c.ns)) 1 (for_in top b hasv x.bytes c) y z
    × B (for_in top b hasv x.bytes c) z i × Drop (layout_of R F) κ (for_in top b hasv x.bytes c) i j × Ins (layout_of R F) (Jump top) 0 (for_in top b hasv x.bytes c) j k
    × Ins (layout_of R F) (UnwindTo (depth c.ns)) 0 (in_scopes ((x.bytes ∷ []) ∷ c.ns) c) f g × Glue (layout_of R F) false hasv c g b

-- The states up to the body: the iterator, the variable's slot, the tick, the next item and where it is kept.
module _ (y : Name) (e : Exp) (mark : Position) (d n : ℕ) (p : Pile ℕ) (s : Low) where
  abbrev f₁ : Low
  f₁ = evaluated e s

  abbrev f₂ : Low
  f₂ = emitted IterInit e.start f₁

  abbrev f₃ : Low
  f₃ = with_names p (with_iters (suc s.iters) f₂)

  abbrev f₄ : Low
  f₄ = emitted UnitOp nowhere f₃

  abbrev f₅ : Low
  f₅ = emitted (DeclareLocal n false false) nowhere f₄

  abbrev f₆ : Low
  f₆ = declared y.label f₅

  abbrev f₇ : Low
  f₇ = emitted Tick mark f₆

  abbrev f₈ : Low
  f₈ = emitted (IterNext unset None) e.at f₇

  abbrev f₉ : Low
  f₉ = emitted (StoreShared d) nowhere f₈

  -- The states from the body's end on.
  module _ (hasv : Bool) (ls : List Loop) (v : Lowered) (t₁ : Low) where
    abbrev g₂ : Low
    g₂ = emitted_if (leaves v) Pop t₁

    abbrev g₃ : Low
    g₃ = emitted (Jump (at f₇)) nowhere g₂

    abbrev g₄ : Low
    g₄ = with_loops ls g₃

    abbrev g₅ : Low
    g₅ = patched (at f₇) (at g₄) g₄

    abbrev g₆ : Low
    g₆ = with_iters (pred t₁.iters) g₅

    abbrev g₇ : Low
    g₇ = emitted (UnwindTo d) nowhere g₆

    abbrev g₈ : Low
    g₈ = dropped d g₇

    abbrev g₉ : Low
    g₉ = emitted_if hasv UnitOp g₈

module _ (R : Records) (κ hasv : Bool) (X : Fin → Ctx → ℕ → ℕ → Type 0) (y : Name) (sp : SpelledName R y) (e : Exp) (mark : Position) (c : Ctx) (s : Low) (hs : ℕ → Heights) (n : ℕ) (p : Pile ℕ) (N : Entry R s.names.held (name_of R y.label).bytes n p.held) where
  abbrev b₁ : Low
  b₁ = f₁ y e mark (depth c.ns) n p s

  abbrev b₂ : Low
  b₂ = f₂ y e mark (depth c.ns) n p s

  abbrev b₃ : Low
  b₃ = f₃ y e mark (depth c.ns) n p s

  abbrev b₄ : Low
  b₄ = f₄ y e mark (depth c.ns) n p s

  abbrev b₅ : Low
  b₅ = f₅ y e mark (depth c.ns) n p s

  abbrev b₆ : Low
  b₆ = f₆ y e mark (depth c.ns) n p s

  abbrev b₇ : Low
  b₇ = f₇ y e mark (depth c.ns) n p s

  abbrev b₈ : Low
  b₈ = f₈ y e mark (depth c.ns) n p s

  abbrev b₉ : Low
  b₉ = f₉ y e mark (depth c.ns) n p s

  -- The context from the slot on, and the heights up to the body.
  abbrev inside : Ctx
  inside = in_scopes ((y.bytes ∷ []) ∷ c.ns) (up_iters c)

  abbrev ks : ℕ → Heights
  ks = noted (at b₈) (heights 1 inside) (noted (at b₇) (heights 0 inside) (noted (at b₆) (heights 0 inside) (noted (at b₄) (heights 1 (up_iters c)) (noted (at b₃) (heights 0 (up_iters c)) (noted (at b₁) (heights 1 c) hs)))))

  record Begun (F : Fin) (f : ℕ) : Type 0 where
    named : (layout_of R F).Name' n y.bytes
    room : (layout_of R F).Room' (depth c.ns)
    value : (layout_of R F).Exp' e.number (at s) (at b₁)
    init : InsAt (layout_of R F) IterInit e.start 1 c (at b₁) (at b₂)
    unit : Ins (layout_of R F) UnitOp 0 (up_iters c) (at b₂) (at b₄)
    slot : Ins (layout_of R F) (DeclareLocal n false false) 1 (up_iters c) (at b₄) (at b₅)
    tick : InsAt (layout_of R F) Tick mark 0 inside (at b₅) (at b₇)
    next : InsAt (layout_of R F) (IterNext f None) e.at 0 inside (at b₇) (at b₈)
    store : Ins (layout_of R F) (StoreShared (depth c.ns)) 1 inside (at b₈) (at b₉)

  -- Up to the body, all back.
  begin-back : (F : Fin) (V : Aims) (f : ℕ) → length s.slots.held ≡ depth c.ns → ((i : ℕ) → at s ≤ i → i < at b₉ → (i ≡ at b₇ → ⊥) → V i ≡ None) → V (at b₇) ≡ Some f → Final F V b₉ ks → Begun F f × Final F V s hs
  begin-back F V f ld q h fin =
      let l₁ = at_row 1 e.number s in
      let l₂ = at-emit IterInit e.start b₁ in
      let l₄ = at-emit UnitOp nowhere b₃ in
      let l₅ = at-emit (DeclareLocal n false false) nowhere b₄ in
      let l₇ = at-emit Tick mark b₆ in
      let l₈ = at-emit (IterNext unset None) e.at b₇ in
      let l₉ = at-emit (StoreShared (depth c.ns)) nowhere b₈ in
      let h₁ = noted (at b₁) (heights 1 c) hs in
      let h₃ = noted (at b₃) (heights 0 (up_iters c)) h₁ in
      let h₄ = noted (at b₄) (heights 1 (up_iters c)) h₃ in
      let h₆ = noted (at b₆) (heights 0 inside) h₄ in
      let h₇ = noted (at b₇) (heights 0 inside) h₆ in
      let i₉ = ins R F V b₈ h₇ (StoreShared (depth c.ns)) nowhere (heights 1 inside) (q (at b₈) (omega arith) (omega arith) (λ z. omega arith)) refl fin in
      let i₈ = hole R F V b₇ h₆ (IterNext unset None) e.at (heights 0 inside) f h refl i₉.1 in
      let i₇ = ins R F V b₆ h₄ Tick mark (heights 0 inside) (q (at b₆) (omega arith) (omega arith) (λ z. omega arith)) refl i₈.1 in
      let T = i₇.1.1 in
      let deep = T.deep in
      let ls = snoc s.slots.held y.label in
      let T₅ : Tabs F b₅.rows.held p.held s.opers.held s.deepest = record { rows_on = T.rows_on; names-on = T.names-on; opers-on = T.opers-on; deep = omega arith } in
      let i₅ = ins R F V b₄ h₃ (DeclareLocal n false false) nowhere (heights 1 (up_iters c)) (q (at b₄) (omega arith) (omega arith) (λ z. omega arith)) refl (i₇.1.0, T₅) in
      let i₄ = ins R F V b₃ h₁ UnitOp nowhere (heights 0 (up_iters c)) (q (at b₃) (omega arith) (omega arith) (λ z. omega arith)) refl i₅.1 in
      let nb = name_back R F b₁.rows.held s.names.held p.held s.opers.held s.deepest n (name_of R y.label).bytes N i₄.1.1 in
      let i₂ = ins R F V b₁ hs IterInit e.start (heights 1 c) (q (at b₁) (omega arith) (omega arith) (λ z. omega arith)) refl (i₄.1.0, nb.1) in
      let i₁ = exp R F V e s hs (q (at s) (omega arith) (omega arith) (λ z. omega arith)) i₂.1 in
      (record { named = name-of R F n y sp nb.0; room = omega arith; value = i₁.0; init = i₂.0; unit = i₄.0; slot = i₅.0; tick = i₇.0; next = i₈.0; store = i₉.0 }, i₁.1)

  begun-on : suc (suc (at b₇)) ≡ at b₉
  begun-on = let l₈ = at-emit (IterNext unset None) e.at b₇ in let l₉ = at-emit (StoreShared (depth c.ns)) nowhere b₈ in omega arith

  begun-from : at s < at b₇
  begun-from =
      let l₁ = at_row 1 e.number s in
      let l₂ = at-emit IterInit e.start b₁ in
      let l₄ = at-emit UnitOp nowhere b₃ in
      let l₅ = at-emit (DeclareLocal n false false) nowhere b₄ in
      let l₇ = at-emit Tick mark b₆ in
      omega arith

  for-around : (b : ℕ) → AroundOf R c s → AroundOf R (for_in (at b₇) b hasv y.bytes c) (looped (at b₇) (depth c.ns) true hasv b₉)
  for-around b A =
      let ld = around_depth R c s.slots.held s.iters s.handlers s.loops A in
      let its = A.iters-are in
      let hands = A.hands-are in
      let ls = snoc s.slots.held y.label in
      let new = new_loop (at b₇) (depth c.ns) true hasv b₉ in
      let l = snoc s.loops new in
      let at-loop : LoopAt = record { cont = at b₇; brk = b; hasv = hasv; bns = c.ns; cns = (y.bytes ∷ []) ∷ c.ns; pops = 0; bdrops = 1; cdrops = 0 } in
      let is : LoopIs R at-loop (suc c.its) c.hands new =
      record { cont-is = refl; break-is = refl; again-is = omega arith; hasv-is = refl; pops-are = omega arith; bdrops-are = omega arith; cdrops-are = omega arith } in
      record {
        slots-are = slots-more R (flat c.ns) y s.slots.held sp A.slots-are;
        iters-are = ap suc its;
        hands-are = hands;
        loop-is = (omega arith, subst (λ (z : Loop). LoopIs R at-loop (suc c.its) c.hands z) (sym (last_snoc s.loops new)) is);
      }

  -- From the body's end on.
  module _ (v : Lowered) (t₁ : Low) where
    abbrev e₂ : Low
    e₂ = g₂ y e mark (depth c.ns) n p s hasv s.loops v t₁

    abbrev e₃ : Low
    e₃ = g₃ y e mark (depth c.ns) n p s hasv s.loops v t₁

    abbrev e₄ : Low
    e₄ = g₄ y e mark (depth c.ns) n p s hasv s.loops v t₁

    abbrev e₅ : Low
    e₅ = g₅ y e mark (depth c.ns) n p s hasv s.loops v t₁

    abbrev e₆ : Low
    e₆ = g₆ y e mark (depth c.ns) n p s hasv s.loops v t₁

    abbrev e₇ : Low
    e₇ = g₇ y e mark (depth c.ns) n p s hasv s.loops v t₁

    abbrev e₈ : Low
    e₈ = g₈ y e mark (depth c.ns) n p s hasv s.loops v t₁

    abbrev e₉ : Low
    e₉ = g₉ y e mark (depth c.ns) n p s hasv s.loops v t₁

    abbrev f_in : Ctx
    f_in = for_in (at b₇) (at e₉) hasv y.bytes c

    abbrev For : Fin → ℕ → ℕ → Type 0
    For F = ForAt R F κ hasv (X F) y e mark c

    module _ (r : Result R f_in κ f_in.ns (λ F. X F f_in) (looped (at b₇) (depth c.ns) true hasv b₉) ks v t₁) where
      abbrev j₂ : ℕ → Heights
      j₂ = noted (at t₁) (heights 1 f_in) r.highs

      abbrev j₃ : ℕ → Heights
      j₃ = noted (at e₂) (heights 0 f_in) j₂

      abbrev j₇ : ℕ → Heights
      j₇ = noted (at e₆) (heights 0 (in_scopes ((y.bytes ∷ []) ∷ c.ns) c)) j₃

      for-back : (F : Fin) (S : Aims) → length s.slots.held ≡ depth c.ns → ((i : ℕ) → at s ≤ i → i < at e₉ → S i ≡ None) → Final F S (landed_as s.breaks.held r.new e₉) (noted (at e₈) (heights 0 c) j₇) → For F (at s) (at e₉) × Final F S s hs
      for-back F S ld q f =
          let new = r.new in
          let b = at e₉ in
          let from = begun-from in
          let on = begun-on in
          let o₁ = r.kept.on in
          let o₂ = on_if (leaves v) Pop t₁ in
          let l₃ = at-emit (Jump (at b₇)) nowhere e₂ in
          let l₅ = at-patch (at b₇) (at e₄) e₄ in
          let l₇ = at-emit (UnwindTo (depth c.ns)) nowhere e₆ in
          let o₉ = on_if hasv UnitOp e₈ in
          let W = r.kept.within in
          let xb = exit-back R F S c hasv s.breaks.held new e₈ j₇ (at b₉) (at t₁) W o₁ (omega arith) (λ i p k. q i (omega arith) k) f in
          let V : Aims = aim_all new b S in
          let V₁ : Aims = aim (at b₇) (at e₄) V in
          let low : (i : ℕ) → at s ≤ i → i < at b₉ → V i ≡ None = λ i p k. aim_all-below (at b₉) (at t₁) b new S W i k ∙ q i p (omega arith) in
          let high : (i : ℕ) → at t₁ ≤ i → i < at e₉ → V i ≡ None = λ i p k. aim_all-above (at b₉) (at t₁) b new S W i p ∙ q i (omega arith) k in
          let T = xb.1.1 in
          let deep = T.deep in
          let T₇ : Tabs F t₁.rows.held t₁.names.held t₁.opers.held t₁.deepest = record { rows_on = T.rows_on; names-on = T.names-on; opers-on = T.opers-on; deep = omega arith } in
          let ub = ins R F V e₆ j₃ (UnwindTo (depth c.ns)) nowhere (heights 0 (in_scopes ((y.bytes ∷ []) ∷ c.ns) c)) (high (at e₆) (omega arith) (omega arith)) refl (xb.1.0, T₇) in
          let pb = patch-back F V e₄ j₃ (at b₇) (at e₄) (omega arith) (low (at b₇) (omega arith) (omega arith)) ub.1 in
          let jb = ins R F V₁ e₂ j₂ (Jump (at b₇)) nowhere (heights 0 f_in) (aim-other (at b₇) (at e₄) V (at e₂) (λ z. omega arith) ∙ high (at e₂) (omega arith) (omega arith)) refl pb in
          let quiet : Quiet V₁ (at b₉) (at t₁) new b = λ i p k. aim-other (at b₇) (at e₄) V i (λ z. omega arith) ∙ aim_all-at new b S none i (q i (omega arith) (omega arith)) in
          let bb = body_back R f_in f_in κ f_in.ns (λ F. X F f_in) (looped (at b₇) (depth c.ns) true hasv b₉) ks v t₁ r F V₁ quiet (λ k. aim-other (at b₇) (at e₄) V (at t₁) (λ z. omega arith) ∙ high (at t₁) (omega arith) (omega arith)) jb.1 in
          let gb = begin-back F V₁ (at e₄) ld (λ i p k m. aim-other (at b₇) (at e₄) V i m ∙ low i p k) (aim_same (at b₇) (at e₄) V) bb.2 in
          let g = gb.0 in
          let fv = final-aim F V s hs (at b₇) (at e₄) (omega arith) gb.1 in
          let fin : Final F S s hs = (ops-same F V S s.code.held hs hs (λ i k. aim_all-below (at b₉) (at t₁) b new S W i (omega arith)) (λ i k. refl) fv.0, fv.1) in
          let unw = subst (λ (z : ℕ). Ins (layout_of R F) (UnwindTo (depth c.ns)) 0 (in_scopes ((y.bytes ∷ []) ∷ c.ns) c) z (at e₇)) l₅ ub.0 in (
            (
              n,
              at b₁,
              at b₂,
              at b₄,
              at b₅,
              at b₇,
              at b₈,
              at b₉,
              at t₁,
              at e₂,
              at e₃,
              at e₄,
              at e₇,
              g.named,
              g.room,
              g.value,
              g.init,
              g.unit,
              g.slot,
              g.tick,
              g.next,
              g.store,
              bb.0,
              bb.1,
              jb.0,
              unw,
              xb.0,
            ),
            fin,
          )

      for-end : (x : Lowered) (t : Low) → AroundOf R c s
          → bind (emit (Jump (at b₇))) (λ _. bind leave_loop (λ count. bind (patch_here (at b₇)) (λ _. bind (set_iters pred) (λ _. bind (emit (UnwindTo (depth c.ns))) (λ _. bind (drop_slots (depth c.ns)) (λ _. exit_loop count hasv)))))) e₂ ≡ ok x t
          → Result R c hasv c.ns For s hs x t
      for-end x t A h =
          let ld = around_depth R c s.slots.held s.iters s.handlers s.loops A in
          let u₁ = looped (at b₇) (depth c.ns) true hasv b₉ in
          let nl = new_loop (at b₇) (depth c.ns) true hasv b₉ in
          let new = r.new in
          let t₀ = landed_as s.breaks.held new e₉ in
          let h₄ = run (sure-unloop-as e₃ s.loops (plus (length new) nl) (length new) (loop-after R f_in.ns new nl s u₁ t₁ refl r.kept) (omega arith)) _ (run (sure-emit (Jump (at b₇)) nowhere e₂) _ h) in
          let h₈ = run (sure-drop (depth c.ns) e₇) _ (run (sure-emit (UnwindTo (depth c.ns)) nowhere e₆) _ (run (sure-iters pred e₅) _ (run (sure-patch_here (at b₇) e₄) _ h₄))) in
          let h₉ = run (sure-land-as (length new) e₉ s.breaks.held new r.kept.breaks refl) _ (run (sure-put_if hasv UnitOp e₈) _ h₈) in
          let from = begun-from in
          let on = begun-on in
          let o₁ = r.kept.on in
          let o₂ = on_if (leaves v) Pop t₁ in
          let l₃ = at-emit (Jump (at b₇)) nowhere e₂ in
          let l₅ = at-patch (at b₇) (at e₄) e₄ in
          let l₇ = at-emit (UnwindTo (depth c.ns)) nowhere e₆ in
          let o₉ = on_if hasv UnitOp e₈ in
          let l₀ : at t₀ ≡ at e₉ = length-patch_all new (at e₉) e₉.code.held in
          let its : t₁.iters ≡ suc s.iters = r.kept.iters in
          let down : pred t₁.iters ≡ s.iters = omega arith in
          let slots : spelled R (take (depth c.ns) t₁.slots.held) ≡ flat c.ns =
          spelled-take R (depth c.ns) t₁.slots.held ∙ ap (take (depth c.ns)) r.kept.slots ∙ take_at (flat c.ns) (y.bytes ∷ []) (depth c.ns) (flat-length c.ns) in
          ends h₉ (record {
            highs = noted (at e₈) (heights 0 c) j₇;
            kind = refl;
            new = [];
            alone = λ z. refl;
            kept = kept-plain R c.ns s t₀ slots r.kept.block down r.kept.handlers refl refl (omega arith) (λ d. r.kept.dist (N.dist d));
            back = λ F S q f.
                let b = for-back F S ld (λ i p k. q i p (omega arith)) f in
                (subst (λ (z : ℕ). For F (at s) z) (sym l₀) b.0, b.1);
          })

pub good-for : (R : Records) (body : M Lowered) (κ hasv : Bool) (X : Fin → Ctx → ℕ → ℕ → Type 0) (G : Good R body κ hasv X) (c : Ctx) (s : Low) (hs : ℕ → Heights) (x : Lowered) (t : Low) (y : Name) (e : Exp) (mark : Position)
    → SpelledName R y → AroundOf R c s → going R y e mark hasv body s ≡ ok x t → Result R c hasv c.ns (λ F. ForAt R F κ hasv (X F) y e mark c) s hs x t
good-for R body κ hasv X G c s hs x t y e mark sp A h =
    let ld = around_depth R c s.slots.held s.iters s.handlers s.loops A in
    let s₂ = emitted IterInit e.start (evaluated e s) in
    let s₃ = with_iters (suc s.iters) s₂ in
    let N = name-ok R y.label _ s₃ t x (run (sure-may s₃) _ (run (sure-iters suc s₂) _ (run (sure-emit IterInit e.start (evaluated e s)) _ (run (sure-exp e s) _ (run (sure-as (sure-depth s) ld refl) _ h))))) in
    begun N.0 N.1 N.2 N.3
  where
    begun : (n : ℕ) (p : Pile ℕ) → Entry R s.names.held (name_of R y.label).bytes n p.held
        → bind (emit UnitOp) (λ _. bind (emit (DeclareLocal n false false)) (λ _. bind (declare y.label) (λ _. bind (emit_at Tick mark) (λ _. bind here (λ top.
        bind (emit_at (IterNext unset None) e.at) (λ exit. bind (emit (StoreShared (depth c.ns))) (λ _. bind (enter_loop top (depth c.ns) true hasv) (λ _. bind (discarding body) (λ _. bind (emit (Jump top)) (λ _. bind leave_loop (λ count.
        bind (patch_here exit) (λ _. bind (set_iters pred) (λ _. bind (emit (UnwindTo (depth c.ns))) (λ _. bind (drop_slots (depth c.ns)) (λ _. exit_loop count hasv)))))))))))))))
        (with_names p (with_iters (suc s.iters) (emitted IterInit e.start (evaluated e s)))) ≡ ok x t
        → Result R c hasv c.ns (λ F. ForAt R F κ hasv (X F) y e mark c) s hs x t
    begun n p N f =
        let d = depth c.ns in
        let u₃ = f₃ y e mark d n p s in
        let u₄ = f₄ y e mark d n p s in
        let u₅ = f₅ y e mark d n p s in
        let u₆ = f₆ y e mark d n p s in
        let u₇ = f₇ y e mark d n p s in
        let u₈ = f₈ y e mark d n p s in
        let u₉ = f₉ y e mark d n p s in
        let k₅ = run (sure-emit (DeclareLocal n false false) nowhere u₄) _ (run (sure-emit UnitOp nowhere u₃) _ f) in
        let k₇ = run (sure-here u₇) _ (run (sure-emit Tick mark u₆) _ (run (sure-declare y.label u₅) _ k₅)) in
        let k₉ = run (sure-loop (at u₇) d true hasv u₉) _ (run (sure-emit (StoreShared d) nowhere u₈) _ (run (sure-emit (IterNext unset None) e.at u₇) _ k₇)) in
        let D = discard-ok body _ (looped (at u₇) d true hasv u₉) t x k₉ in
        go D.0 D.1 D.2 D.3
      where
        go : (v : Lowered) (t₁ : Low) → body (looped (at (f₇ y e mark (depth c.ns) n p s)) (depth c.ns) true hasv (f₉ y e mark (depth c.ns) n p s)) ≡ ok v t₁
            → bind (emit (Jump (at (f₇ y e mark (depth c.ns) n p s)))) (λ _. bind leave_loop (λ count. bind (patch_here (at (f₇ y e mark (depth c.ns) n p s))) (λ _. bind (set_iters pred) (λ _. bind (emit (UnwindTo (depth c.ns))) (λ _. bind (drop_slots (depth c.ns)) (λ _. exit_loop count hasv)))))) (emitted_if (leaves v) Pop t₁) ≡ ok x t
            → Result R c hasv c.ns (λ F. ForAt R F κ hasv (X F) y e mark c) s hs x t
        go v t₁ q f =
            for-end R κ hasv X y sp e mark c s hs n p N v t₁
            (G (f_in R κ hasv X y sp e mark c s hs n p N v t₁) (looped (at (f₇ y e mark (depth c.ns) n p s)) (depth c.ns) true hasv (f₉ y e mark (depth c.ns) n p s)) (ks R κ hasv X y sp e mark c s hs n p N) v t₁
            (for-around R κ hasv X y sp e mark c s hs n p N (at (e₉ R κ hasv X y sp e mark c s hs n p N v t₁)) A) (λ z. z) q) x t A f
