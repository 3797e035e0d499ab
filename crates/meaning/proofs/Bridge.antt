-- Accepted lowering stands: every statement, and the whole script.
use Rattle.std.proofs.Common.{◌≡◌, ℕ, Bool, true, false, not, List, [], ◌∷◌, map, sym, refl, ap, ◌∙◌, subst, inl, arith}
use borrow.Author.Tests.{clash}
use Rattle.std.proofs.lemmas.List.{append-nil}
use Rattle.std.proofs.lemmas.List.FromFn.{get_or-map-range_with_len}
use Rattle.std.specs.List.{range_with_len}
use Rattle.records.specs.Tree.{Records, Head, Head.noop, Head.var, Head.expr, Head.call, Head.assign, Head.other, Head.block as block_head, Head.try, Head.for, Head.if, Head.while, Head.do_loop, Head.break, Head.continue, Head.return, Head.throw, Tree.node, Forest.nil, Forest.more, Stmt, Block, nowhere}
use Rattle.code.specs.declared.ops.Op.TheVariants.{Unit as UnitOp, Throw, Return}
use Rattle.code.specs.declared.shapes.Lowered.{Lowered}
use Rattle.code.specs.declared.shapes.Lowered.TheVariants.{Empty}
use Rattle.meaning.specs.Breaks.{breaks_s, has_break_value}
use Rattle.meaning.specs.LowerState.{Low, Out.ok, bind, emit}
use Rattle.meaning.specs.Lower.{lowered, leaves, done, emit_if, scoped, some, lower, lower_list, Rooms, fresh}
use Rattle.meaning.proofs.Place.{kind, kind_list, after, after_list, Ctx, in_scopes, top_ctx, heights, Layout, Glue, Scoped, Code, CodeList}
use Rattle.meaning.proofs.Lowered.{no_heights, SpelledHead, SpelledS, Spelled, Stands, LoweringStands}
use Rattle.meaning.proofs.Monad.{at, emitted, emitted_if, bind_ok, run, sure-put, sure-put_if-as}
use Rattle.meaning.proofs.Aims.{Fin, layout_of, none, Quiet, noted, Final, ins}
use Rattle.meaning.proofs.Standing.{Here, Result, Good, MayIns, ins_if}
use Rattle.meaning.proofs.Plain.{at-emit, good-noop, good-expr, good-row, good-call, good-end, good-var, good-assign}
use Rattle.meaning.proofs.Leaving.{good-continue, good-break}
use Rattle.meaning.proofs.Blocks.{GoodList, good-scoped, scoped-nil, leaves-lowered, good-nil, good_more}
use Rattle.meaning.proofs.Choosing.{good-if}
use Rattle.meaning.proofs.Rounds.{good-while, good-do}
use Rattle.meaning.proofs.Going.{good-for}
use Rattle.meaning.proofs.Trying.{good-try}

-- ## Every statement

-- What a block comes to.
abbrev GoodBlock : Records → Block → Type 0
GoodBlock R B = Good R (scoped (lower_list R false Empty B)) (kind_list false B) (has_break_value B) (λ F c. Scoped (layout_of R F) B (λ d x y. CodeList (layout_of R F) B false false d x y) c)

abbrev GoodStmt : Records → Stmt → Type 0
GoodStmt R st = GoodList R (lower R st) (kind st) (breaks_s st) (λ ns. after ns st) (λ F c. Code (layout_of R F) st c)

-- A block that is not there leaves nothing and is no code.
bare : (R : Records) (C : Block) → some R C ≡ false → (kind_list false C ≡ false) × ((u : Low) (y : Lowered) (w : Low) → scoped (lower_list R false Empty C) u ≡ ok y w → at w ≡ at u)
bare R nil e = (refl, λ u y w h. scoped-nil Empty y u w h)
bare R (more st B) e = absurd (clash (sym e))

-- A statement, if its blocks do.
good-head : (R : Records) (h : Head) (B C : Block) → SpelledHead R h → GoodBlock R B → GoodBlock R C → GoodStmt R (node h B C)
good-head R noop B C sp GB GC = λ c s hs x t A al h. good-noop R c s hs x t A h
good-head R (var k y e r) B C sp GB GC = λ c s hs x t A al h. good-var R c s hs x t A k y e r sp h
good-head R (expr e) B C sp GB GC = λ c s hs x t A al h. good-expr R c s hs x t A e h
good-head R (call y i) B C sp GB GC = λ c s hs x t A al h. good-call R c s hs x t A y i h
good-head R (assign y e o p q) B C sp GB GC = λ c s hs x t A al h. good-assign R c s hs x t A y e o p q sp.0 sp.1 h
good-head R (other i) B C sp GB GC = λ c s hs x t A al h. good-row R c s hs x t A i h
good-head R block_head B C sp GB GC = λ c s hs x t A al h. GB c s hs x t A.around al h
good-head R (try y p) B C sp GB GC = λ c s hs x t A al h.
    good-try R _ _ (kind_list false B) (kind_list false C) (has_break_value B) (has_break_value C) _ _ GB GC c s hs x t y p sp A.around al h
good-head R (for y e p) B C sp GB GC = λ c s hs x t A al h. good-for R _ (kind_list false B) (has_break_value B) _ GB c s hs x t y e p sp A.around h
good-head R (if e) B C sp GB GC = λ c s hs x t A al h.
    good-if R c s hs x t A.around e _ _ (has_break_value B) (has_break_value C) _ _ (some R C) (kind_list false B) (kind_list false C) GB GC (bare R C) al h
good-head R (while e p) B C sp GB GC = λ c s hs x t A al h. good-while R _ (kind_list false B) (has_break_value B) _ GB c s hs x t A.around e p h
good-head R (do_loop u e p) B C sp GB GC = λ c s hs x t A al h. good-do R _ (kind_list false B) (has_break_value B) _ GB c s hs x t u e p A.around h
good-head R (break e) B C sp GB GC = λ c s hs x t A al h. good-break R c s hs x t A.around e al h
good-head R continue B C sp GB GC = λ c s hs x t A al h. good-continue R c s hs x t A.around h
good-head R (return e) B C sp GB GC = λ c s hs x t A al h. good-end R c s hs x t A e Return nowhere (λ rows. refl) h
good-head R (throw e p) B C sp GB GC = λ c s hs x t A al h. good-end R c s hs x t A e Throw p (λ rows. refl) h

mutual
  good : (R : Records) (st : Stmt) → SpelledS R st → GoodStmt R st
  good R (node h B C) sp =
      good-head R h B C sp.0
      (good-scoped R B (lower_list R false Empty B) (has_break_value B) (λ F c. CodeList (layout_of R F) B false false c) (good-list R false B sp.1 false))
      (good-scoped R C (lower_list R false Empty C) (has_break_value C) (λ F c. CodeList (layout_of R F) C false false c) (good-list R false C sp.2 false))

  good-list : (R : Records) (keep : Bool) (B : Block) → Spelled R B → (κ : Bool) → GoodList R (lower_list R keep (lowered κ) B) (kind_list κ B) (has_break_value B) (λ ns. after_list ns B) (λ F c. CodeList (layout_of R F) B keep κ c)
  good-list R keep nil sp κ = good-nil R keep κ
  good-list R keep (more st B) sp κ = good_more R keep κ st B (good R st sp.0) (good-list R keep B sp.1 (kind st))

-- ## The script

may-value : (P : Layout) (κ : Bool) (c : Ctx) (a b : ℕ) → MayIns P (not κ) UnitOp (heights 0 c) a b → Glue P κ true c a b
may-value P true c a b m = inl m
may-value P false c a b m = (a, b, inl refl, m, inl refl)

-- A whole lowering, by its statements.
script : (R : Records) (m : Rooms) (B : Block) (v : Lowered) (t₁ : Low)
    → Result R top_ctx (kind_list false B) (after_list ([] ∷ []) B) (λ F. CodeList (layout_of R F) B R.keep false top_ctx) (fresh m R.limit) (λ i. no_heights) v t₁
    → Stands R B (emitted Return nowhere (emitted_if (not (kind_list false B)) UnitOp t₁))
script R m B v t₁ r =
    let κ = kind_list false B in
    let c = in_scopes (after_list ([] ∷ []) B) top_ctx in
    let u₁ = emitted_if (not κ) UnitOp t₁ in
    let u₂ = emitted Return nowhere u₁ in
    let hs₁ = noted (at t₁) (heights 0 c) r.highs in
    let hs₂ = noted (at u₁) (heights 1 c) hs₁ in
    let F : Fin = record { code = u₂.code.held; rows = t₁.rows.held; names = t₁.names.held; opers = t₁.opers.held; deepest = t₁.deepest; heights = map hs₂ (range_with_len 0 (at u₂)) } in
    let l = at-emit Return nowhere u₁ in
    let whole : Final F none u₂ hs₂ = (
      record { long = omega arith; ops = λ i b. refl; high = λ i b. get_or-map-range_with_len hs₂ 0 (at u₂) i i no_heights b (omega arith) },
      record { rows_on = ([], sym (append-nil t₁.rows.held)); names-on = ([], sym (append-nil t₁.names.held)); opers-on = ([], sym (append-nil t₁.opers.held)); deep = omega arith },
    ) in
    let i₂ = ins R F none u₁ hs₁ Return nowhere (heights 1 c) refl refl whole in
    let i₁ = ins_if R F none (not κ) t₁ r.highs UnitOp (heights 0 c) (λ z. refl) refl i₂.1 in
    let quiet : Quiet none 0 (at t₁) r.new 0 = subst (λ (xs : List ℕ). Quiet none 0 (at t₁) xs 0) (sym (r.alone refl)) (λ i p k. refl) in
    let b = r.back F none quiet i₁.1 in
    record {
      heights = map hs₂ (range_with_len 0 (at u₂));
      code = (at t₁, at u₁, at u₂, b.0, may-value (layout_of R F) κ c (at t₁) (at u₁) i₁.0, i₂.0);
      distinct = r.kept.dist (λ x h. absurd (omega arith));
      some = omega arith;
    }

pub lowering-stands : LoweringStands
lowering-stands R m B s sp h =
    let b = bind_ok (lower_list R R.keep Empty B) _ (fresh m R.limit) s tt h in
    go b.0 b.1 b.2 b.3
  where
    go : (v : Lowered) (t₁ : Low) → lower_list R R.keep Empty B (fresh m R.limit) ≡ ok v t₁ → bind (emit_if (not (leaves v)) UnitOp) (λ _. done (emit Return)) t₁ ≡ ok tt s → Stands R B s
    go v t₁ e f =
        let here : Here R top_ctx (fresh m R.limit) = record { around = record { slots-are = refl; iters-are = refl; hands-are = refl; loop-is = refl }; top = []; rest = []; shape = refl; base = refl } in
        let r = good-list R R.keep B sp false top_ctx (fresh m R.limit) (λ i. no_heights) v t₁ here tt e in
        let u₁ = emitted_if (not (kind_list false B)) UnitOp t₁ in
        let g = (sure-put Return nowhere u₁).only tt s (run (sure-put_if-as (not (leaves v)) (not (kind_list false B)) UnitOp t₁ (ap (λ (z : Lowered). not (leaves z)) r.kind ∙ ap not (leaves-lowered (kind_list false B)))) _ f) in
        let same : emitted Return nowhere u₁ ≡ s = cc in
        subst (λ (z : Low). Stands R B z) same (script R m B v t₁ r)
