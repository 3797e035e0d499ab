-- `try`: accepted lowering stands if its two blocks do.
use Rattle.std.proofs.Common.{◌≡◌, ℕ, suc, pred, ◌<◌, ◌≤◌, max, Bool, false, ◌||◌, List, [], ◌∷◌, ◌++◌, length, Some, None, Option, sym, refl, ap, ◌∙◌, subst, arith}
use Rattle.std.proofs.lemmas.List.{append-nil}
use Rattle.records.specs.declared.types.Position.{Position}
use Rattle.records.specs.Tree.{Records, Name, name_of, nowhere}
use Rattle.code.specs.declared.ops.Op.TheVariants.{Unit as UnitOp, Pop, Jump, PushHandler, PopHandler}
use Rattle.code.specs.declared.ops.Row.{Row}
use Rattle.code.specs.declared.ops.AssignOp.{AssignOp}
use Rattle.code.specs.declared.shapes.Loop.{Loop}
use Rattle.code.specs.declared.shapes.Lowered.{Lowered}
use Rattle.meaning.specs.Agreement.{Heights}
use Rattle.meaning.specs.LowerState.{Low, Pile, Out.ok, M, ret, bind, emit, emit_at, depth as depth_now, pushed, with_names, with_handlers, patch_here, set_handlers}
use Rattle.meaning.specs.Lower.{unset, leaves, emit_if, unwind_to, discarding, name_any, may_catch, declare_any, trying}
use Rattle.meaning.specs.Compiled.{spelled}
use Rattle.meaning.proofs.Place.{Scopes, flat, depth, catch_scope, LoopAt, Ctx, in_scopes, deeper_loop, in_try_code, one, heights, Layout, Ins, InsAt, Glue, Drop, Unwind, NameAny}
use Rattle.meaning.proofs.Lowered.{SpelledAny}
use Rattle.meaning.proofs.Monad.{at, emitted, emitted_if, patched, unwound, bind_ok, Sure, run, sure-as, sure-ret, sure-emit, sure-depth, sure-may, sure-declare, sure-handlers, sure-unwind, sure-patch_here, sure-put_if}
use Rattle.meaning.proofs.Aims.{Fin, layout_of, Aims, aim, aim_same, aim-other, within_wider, Quiet, noted, Tabs, Final, ins, hole, snoc}
use Rattle.meaning.proofs.Tables.{Dist, name-ok, name_back, spelled-length, flat-length}
use Rattle.meaning.proofs.Standing.{Inner, AroundOf, Kept, around-after, kept_then, Result, brk_of, Allows, Good, both-none, quiet-aim, quiet-first, quiet-second, quiet-below, quiet-above, MayIns, on_if, ins_if, may-glue, unwound-slots, unwound-on, unwind-back}
use Rattle.meaning.proofs.Plain.{ends, at-emit, slots-more, name-of, passes}
use Rattle.meaning.proofs.Blocks.{leaves-lowered, allows-left, allows-right, discard-ok}
use Rattle.meaning.proofs.Choosing.{at-patch, final-aim, patch-back, jump_to, quiet-between}
use Rattle.meaning.proofs.Rounds.{body_back}

-- ## The catch name

abbrev NameIs : Layout → Option Name → Option ℕ → Type 0
NameIs P None None = Unit {0}
NameIs P None (Some n) = ⊥
NameIs P (Some y) None = ⊥
NameIs P (Some y) (Some n) = P.Name' n y.bytes

abbrev RoomIs : Layout → Option Name → Ctx → Type 0
RoomIs P None c = Unit {0}
RoomIs P (Some y) c = P.Room' (depth c.ns)

name-and-room : (P : Layout) (o : Option Name) (n : Option ℕ) (c : Ctx) → NameIs P o n → RoomIs P o c → NameAny P o n c
name-and-room P None None c a b = tt
name-and-room P None (Some n) c a b = a
name-and-room P (Some y) None c a b = a
name-and-room P (Some y) (Some n) c a b = (a, b)

record Caught (R : Records) (o : Option Name) (old : List ℕ) (n : Option ℕ) (held : List ℕ) : Type 0 where
  dist : Dist R old → Dist R held
  back : (F : Fin) (rows : List Row) (opers : List AssignOp) (d : ℕ) → Tabs F rows held opers d → NameIs (layout_of R F) o n × Tabs F rows old opers d

name-any-ok : {Y : Type 0} (R : Records) (o : Option Name) (k : Option ℕ → M Y) (s t : Low) (y : Y) → SpelledAny R o → bind (name_any R o) k s ≡ ok y t
    → (n : Option ℕ) × (p : Pile ℕ) × Caught R o s.names.held n p.held × (k n (with_names p s) ≡ ok y t)
name-any-ok R None k s t y sp h = (None, s.names, record { dist = λ d. d; back = λ F rows opers d T. (tt, T) }, h)
name-any-ok R (Some x) k s t y sp h =
    let b = bind_ok (name_any R (Some x)) k s t y h in
    let n = name-ok R x.label _ s b.1 b.0 b.2 in (
      Some n.0,
      n.1,
      record {
        dist = n.2.dist;
        back = λ F rows opers d T. let c = name_back R F rows s.names.held n.1.held opers d n.0 (name_of R x.label).bytes n.2 T in (name-of R F n.0 x sp c.0, c.1);
      },
      passes k (Some n.0) b.0 (with_names n.1 s) b.1 y t n.3 b.3,
    )

abbrev slots_any : Option Name → Pile ℕ → Pile ℕ
slots_any None p = p
slots_any (Some y) p = pushed y.label p

abbrev deep_any : Option Name → ℕ → Pile ℕ → ℕ
deep_any None d p = d
deep_any (Some y) d p = max d (length (p.held ++ y.label ∷ []))

abbrev declared_any : Option Name → Low → Low
declared_any o s = record { code = s.code; rows = s.rows; names = s.names; opers = s.opers; slots = slots_any o s.slots; breaks = s.breaks; loops = s.loops; iters = s.iters; handlers = s.handlers; block = s.block; limit = s.limit; deepest = deep_any o s.deepest s.slots }

sure-declare_any : (R : Records) (o : Option Name) (s : Low) → Sure (declare_any R o) s tt (declared_any o s)
sure-declare_any R None s = sure-ret tt s
sure-declare_any R (Some y) s = sure-declare y.label s

sure-may_catch : (R : Records) (o : Option Name) (s : Low) → Sure (may_catch R o) s tt s
sure-may_catch R None s = sure-ret tt s
sure-may_catch R (Some y) s = sure-may s

slots-any : (R : Records) (o : Option Name) (ns : Scopes) (p : Pile ℕ) → SpelledAny R o → spelled R p.held ≡ flat ns → spelled R (slots_any o p).held ≡ flat (catch_scope o ∷ ns)
slots-any R None ns p sp e = e ∙ sym (append-nil (flat ns))
slots-any R (Some y) ns p sp e = slots-more R (flat ns) y p.held sp e

deep-any : (R : Records) (F : Fin) (o : Option Name) (c : Ctx) (rows : List Row) (names : List ℕ) (opers : List AssignOp) (d : ℕ) (p : Pile ℕ) → length p.held ≡ depth c.ns
    → Tabs F rows names opers (deep_any o d p) → RoomIs (layout_of R F) o c × Tabs F rows names opers d
deep-any R F None c rows names opers d p l T = (tt, T)
deep-any R F (Some y) c rows names opers d p l T =
    let deep = T.deep in
    let k = snoc p.held y.label in
    (omega arith, record { rows_on = T.rows_on; names-on = T.names-on; opers-on = T.opers-on; deep = omega arith })

-- ## One handler deeper

inner-deeper : (R : Records) (o : Option LoopAt) (its hands : ℕ) (ls : List Loop) → Inner R o its hands ls → Inner R (deeper_loop o) its (suc hands) ls
inner-deeper R None its hands ls k = k
inner-deeper R (Some l) its hands ls k =
    let i = k.1 in
    let p = i.pops-are in
    (k.0, record { cont-is = i.cont-is; break-is = i.break-is; again-is = i.again-is; hasv-is = i.hasv-is; pops-are = omega arith; bdrops-are = i.bdrops-are; cdrops-are = i.cdrops-are })

allows-deeper : (o : Option LoopAt) (v : Bool) → Allows o v → Allows (deeper_loop o) v
allows-deeper None v a = a
allows-deeper (Some l) v a = a

brk-deeper : (o : Option LoopAt) → brk_of (deeper_loop o) ≡ brk_of o
brk-deeper None = refl
brk-deeper (Some l) = refl

-- ## States

module _ (x : Option Name) (mark : Position) (d : ℕ) (n : Option ℕ) (p : Pile ℕ) (s : Low) where
  abbrev a₁ : Low
  a₁ = with_names p s

  abbrev a₂ : Low
  a₂ = emitted (PushHandler unset n) mark a₁

  abbrev a₃ : Low
  a₃ = with_handlers (suc s.handlers) a₂

  -- From the body's end to the branch.
  module _ (t₁ : Low) where
    abbrev b₂ : Low
    b₂ = emitted PopHandler nowhere t₁

    abbrev b₃ : Low
    b₃ = with_handlers (pred t₁.handlers) b₂

    abbrev b₄ : Low
    b₄ = emitted (Jump unset) nowhere b₃

    abbrev b₅ : Low
    b₅ = patched (at s) (at b₄) b₄

    abbrev b₆ : Low
    b₆ = with_handlers (suc (pred t₁.handlers)) b₅

    abbrev b₇ : Low
    b₇ = declared_any x b₆

    -- From the branch's end on.
    module _ (v w : Lowered) (t₈ : Low) where
      abbrev b₉ : Low
      b₉ = emitted_if (leaves w) Pop t₈

      abbrev b₁₀ : Low
      b₁₀ = unwound d b₉

      abbrev b₁₁ : Low
      b₁₁ = emitted PopHandler nowhere b₁₀

      abbrev b₁₂ : Low
      b₁₂ = with_handlers (pred t₈.handlers) b₁₁

      abbrev b₁₃ : Low
      b₁₃ = emitted_if (leaves v) UnitOp b₁₂

      abbrev b₁₄ : Low
      b₁₄ = patched (at b₂) (at b₁₃) b₁₃

-- Where a `try` stands.
abbrev pub TryAt : Records → Fin → Bool → Bool → (Ctx → ℕ → ℕ → Type 0) → (Ctx → ℕ → ℕ → Type 0) → Option Name → Position → Ctx → ℕ → ℕ → Type 0
TryAt R F κ μ B C x mark c a b =
    (m u w z p i j k l : ℕ) × (n : Option ℕ) × NameAny (layout_of R F) x n c × InsAt (layout_of R F) (PushHandler p n) mark 0 c a m
    × B (in_try_code c) m u × Ins (layout_of R F) PopHandler (one κ) (in_try_code c) u w × Ins (layout_of R F) (Jump b) (one κ) c w z
    × C (in_scopes (catch_scope x ∷ c.ns) (in_try_code c)) p i × Drop (layout_of R F) μ (in_scopes (catch_scope x ∷ c.ns) (in_try_code c)) i j
    × Unwind (layout_of R F) false (in_scopes (catch_scope x ∷ c.ns) (in_try_code c)) c.ns j k × Ins (layout_of R F) PopHandler 0 (in_try_code c) k l × Glue (layout_of R F) false κ c l b

module _ (R : Records) (κ μ : Bool) (XB XC : Fin → Ctx → ℕ → ℕ → Type 0) (x : Option Name) (mark : Position) (c : Ctx) (s : Low) (hs : ℕ → Heights) (A : AroundOf R c s)
    (n : Option ℕ) (p : Pile ℕ) (N : Caught R x s.names.held n p.held) (v : Lowered) (t₁ : Low)
    (r₁ : Result R (in_try_code c) κ c.ns (λ F. XB F (in_try_code c)) (a₃ x mark (depth c.ns) n p s) (noted (at s) (heights 0 c) hs) v t₁) where
  abbrev c₂ : Ctx
  c₂ = in_scopes (catch_scope x ∷ c.ns) (in_try_code c)

  abbrev s₃ : Low
  s₃ = a₃ x mark (depth c.ns) n p s

  abbrev t₂ : Low
  t₂ = b₂ x mark (depth c.ns) n p s t₁

  abbrev t₃ : Low
  t₃ = b₃ x mark (depth c.ns) n p s t₁

  abbrev t₄ : Low
  t₄ = b₄ x mark (depth c.ns) n p s t₁

  abbrev t₇ : Low
  t₇ = b₇ x mark (depth c.ns) n p s t₁

  abbrev hs₂ : ℕ → Heights
  hs₂ = noted (at t₁) (heights (one κ) (in_try_code c)) r₁.highs

  abbrev hs₄ : ℕ → Heights
  hs₄ = noted (at t₂) (heights (one κ) c) hs₂

  live : length t₁.slots.held ≡ depth c.ns
  live = sym (spelled-length R t₁.slots.held) ∙ ap length r₁.kept.slots ∙ flat-length c.ns

  back-hands : suc (pred t₁.handlers) ≡ suc s.handlers
  back-hands = let h : t₁.handlers ≡ suc s.handlers = r₁.kept.handlers in omega arith

  -- What stands around the catch block.
  catch-around : SpelledAny R x → AroundOf R c₂ t₇
  catch-around sp =
      let a = around-after R (in_try_code c) c.ns r₁.new s₃ t₁ (record { slots-are = A.slots-are; iters-are = A.iters-are; hands-are = ap suc A.hands-are; loop-is = inner-deeper R c.loop c.its c.hands s.loops A.loop-is }) r₁.kept in
      record { slots-are = slots-any R x c.ns t₁.slots sp r₁.kept.slots; iters-are = a.iters-are; hands-are = back-hands ∙ ap suc A.hands-are; loop-is = a.loop-is }

  -- The body, the jump past the catch block and the handler, all back.
  record TryBody (F : Fin) (b to : ℕ) : Type 0 where
    named : NameIs (layout_of R F) x n
    push : InsAt (layout_of R F) (PushHandler to n) mark 0 c (at s) (at s₃)
    body : XB F (in_try_code c) (at s₃) (at t₁)
    pop : Ins (layout_of R F) PopHandler (one κ) (in_try_code c) (at t₁) (at t₂)
    jump : Ins (layout_of R F) (Jump b) (one κ) c (at t₂) (at t₄)

  at-s₃ : at s₃ ≡ suc (at s)
  at-s₃ = at-emit (PushHandler unset n) mark (with_names p s)

  at-t₄ : at t₄ ≡ suc (suc (at t₁))
  at-t₄ = let l₁ = at-emit PopHandler nowhere t₁ in let l₂ = at-emit (Jump unset) nowhere t₃ in omega arith

  body-first : (F : Fin) (V : Aims) (b to : ℕ) → V (at s) ≡ Some to → V (at t₂) ≡ Some b → V (at t₁) ≡ None → Quiet V (at s₃) (at t₁) r₁.new (brk_of c.loop) → Final F V t₄ hs₄ → TryBody F b to × Final F V s hs
  body-first F V b to hp hb hn q f =
      let jb = hole R F V t₃ hs₂ (Jump unset) nowhere (heights (one κ) c) b hb refl f in
      let ob = ins R F V t₁ r₁.highs PopHandler nowhere (heights (one κ) (in_try_code c)) hn refl jb.1 in
      let rb = r₁.back F V (subst (λ (z : ℕ). Quiet V (at s₃) (at t₁) r₁.new z) (sym (brk-deeper c.loop)) q) ob.1 in
      let kb = hole R F V (with_names p s) hs (PushHandler unset n) mark (heights 0 c) to hp refl rb.1 in
      let nb = N.back F s.rows.held s.opers.held s.deepest kb.1.1 in
      (record { named = nb.0; push = kb.0; body = rb.0; pop = ob.0; jump = jb.0 }, (kb.1.0, nb.1))

  -- From the branch on.
  module _ (sp : SpelledAny R x) (w : Lowered) (t₈ : Low) (r₂ : Result R c₂ μ c₂.ns (λ F. XC F c₂) t₇ hs₄ w t₈) where
    abbrev t₉ : Low
    t₉ = b₉ x mark (depth c.ns) n p s t₁ v w t₈

    abbrev t₁₀ : Low
    t₁₀ = b₁₀ x mark (depth c.ns) n p s t₁ v w t₈

    abbrev t₁₁ : Low
    t₁₁ = b₁₁ x mark (depth c.ns) n p s t₁ v w t₈

    abbrev t₁₂ : Low
    t₁₂ = b₁₂ x mark (depth c.ns) n p s t₁ v w t₈

    abbrev t₁₃ : Low
    t₁₃ = b₁₃ x mark (depth c.ns) n p s t₁ v w t₈

    abbrev t₁₄ : Low
    t₁₄ = b₁₄ x mark (depth c.ns) n p s t₁ v w t₈

    abbrev hs₉ : ℕ → Heights
    hs₉ = noted (at t₈) (heights 1 c₂) r₂.highs

    abbrev hs₁₀ : ℕ → Heights
    hs₁₀ = noted (at t₉) (heights 0 c₂) hs₉

    abbrev hs₁₁ : ℕ → Heights
    hs₁₁ = noted (at t₁₀) (heights 0 (in_try_code c)) hs₁₀

    abbrev hs₁₃ : ℕ → Heights
    hs₁₃ = noted (at t₁₂) (heights 0 c) hs₁₁

    -- The catch block and what follows it.
    record TryCatch (F : Fin) (b : ℕ) : Type 0 where
      room : RoomIs (layout_of R F) x c
      caught : XC F c₂ (at t₇) (at t₈)
      drop : Drop (layout_of R F) μ c₂ (at t₈) (at t₉)
      unwind : Unwind (layout_of R F) false c₂ c.ns (at t₉) (at t₁₀)
      leave : Ins (layout_of R F) PopHandler 0 (in_try_code c) (at t₁₀) (at t₁₁)
      glue : Glue (layout_of R F) false κ c (at t₁₁) b

    abbrev catch-slots : spelled R t₉.slots.held ≡ flat (catch_scope x ∷ c.ns)
    catch-slots = r₂.kept.slots

    catch-on : (at t₈ ≤ at t₉) × (at t₉ ≤ at t₁₀) × (at t₁₁ ≡ suc (at t₁₀)) × (at t₁₂ ≤ at t₁₃) × (at t₁₄ ≡ at t₁₃)
    catch-on = (on_if (leaves w) Pop t₈, unwound-on R c.ns (catch_scope x) t₉ catch-slots, at-emit PopHandler nowhere t₁₀, on_if (leaves v) UnitOp t₁₂, at-patch (at t₂) (at t₁₃) t₁₃)

    catch-back : (F : Fin) (V : Aims) → ((i : ℕ) → at t₈ ≤ i → i < at t₁₃ → V i ≡ None) → Quiet V (at t₇) (at t₈) r₂.new (brk_of c.loop) → Final F V t₁₃ hs₁₃ → TryCatch F (at t₁₃) × Final F V (b₅ x mark (depth c.ns) n p s t₁) hs₄
    catch-back F V q k f =
        let on = catch-on in
        let gb = ins_if R F V (leaves v) t₁₂ hs₁₁ UnitOp (heights 0 c) (λ z. q (at t₁₂) (omega arith) z) refl f in
        let g = may-glue (layout_of R F) κ c (at t₁₂) (at t₁₃) (subst (λ (z : Bool). MayIns (layout_of R F) z UnitOp (heights 0 c) (at t₁₂) (at t₁₃)) (ap leaves r₁.kind ∙ leaves-lowered κ) gb.0) in
        let ob = ins R F V t₁₀ hs₁₀ PopHandler nowhere (heights 0 (in_try_code c)) (q (at t₁₀) (omega arith) (omega arith)) refl gb.1 in
        let ub = unwind-back R c.ns (catch_scope x) t₉ catch-slots F V c₂ false hs₉ refl (λ z. q (at t₉) (omega arith) (omega arith)) ob.1 in
        let bb = body_back R c₂ c₂ μ c₂.ns (λ F. XC F c₂) t₇ hs₄ w t₈ r₂ F V (subst (λ (z : ℕ). Quiet V (at t₇) (at t₈) r₂.new z) (sym (brk-deeper c.loop)) k) (λ z. q (at t₈) (omega arith) (omega arith)) ub.1 in
        let db = deep-any R F x c t₁.rows.held t₁.names.held t₁.opers.held t₁.deepest t₁.slots live bb.2.1 in
        (record { room = db.0; caught = bb.0; drop = bb.1; unwind = ub.0; leave = ob.0; glue = g }, (bb.2.0, db.1))

    -- Both blocks' breaks.
    both : Kept R c₂.ns (r₁.new ++ r₂.new) s₃ t₈
    both =
        let l = at-t₄ in
        let k = at-patch (at s) (at t₄) t₄ in
        let o = r₁.kept.on in
        let first : Kept R c₂.ns r₁.new s₃ t₇ =
        record {
          slots = slots-any R x c.ns t₁.slots sp r₁.kept.slots;
          block = r₁.kept.block;
          iters = r₁.kept.iters;
          handlers = back-hands;
          loops = r₁.kept.loops;
          breaks = r₁.kept.breaks;
          within = within_wider (at s₃) (at s₃) (at t₁) (at t₇) r₁.new (omega arith) (omega arith) r₁.kept.within;
          on = omega arith;
          dist = r₁.kept.dist;
        } in
        kept_then R c₂.ns c₂.ns r₁.new r₂.new s₃ t₇ t₈ first r₂.kept

    try-back : (F : Fin) (S : Aims) → Quiet S (at s) (at t₁₄) (r₁.new ++ r₂.new) (brk_of c.loop) → Final F S t₁₄ hs₁₃ → TryAt R F κ μ (XB F) (XC F) x mark c (at s) (at t₁₄) × Final F S s hs
    try-back F S q f =
        let n₁ = r₁.new in
        let n₂ = r₂.new in
        let brk = brk_of c.loop in
        let w₁ = r₁.kept.within in
        let w₂ = r₂.kept.within in
        let w₀ = both.within in
        let l₃ = at-s₃ in
        let l₄ = at-t₄ in
        let l₂ = at-emit PopHandler nowhere t₁ in
        let l₅ = at-patch (at s) (at t₄) t₄ in
        let on = catch-on in
        let o₁ = r₁.kept.on in
        let o₂ = r₂.kept.on in
        let mid : (i : ℕ) → at t₁ ≤ i → i < at t₇ → S i ≡ None = λ i a b. quiet-between S (at s) (at t₁₄) (at s₃) (at t₁) (at t₇) (at t₈) n₁ n₂ brk i w₁ w₂ (omega arith) (omega arith) a b q in
        let S₁ : Aims = aim (at t₂) (at t₁₃) S in
        let S₂ : Aims = aim (at s) (at t₄) S₁ in
        let pb = patch-back F S t₁₃ hs₁₃ (at t₂) (at t₁₃) (omega arith) (mid (at t₂) (omega arith) (omega arith)) f in
        let high : (i : ℕ) → at t₈ ≤ i → i < at t₁₃ → S₁ i ≡ None = λ i a b. aim-other (at t₂) (at t₁₃) S i (λ z. omega arith) ∙ quiet-above S (at s) (at t₁₄) (at s₃) (at t₈) (n₁ ++ n₂) brk i w₀ (omega arith) (omega arith) a q in
        let q₂ = quiet-aim S (at t₇) (at t₈) n₂ brk (at t₂) (at t₁₃) (λ i a b z. omega arith) (quiet-second S (at s) (at t₁₄) (at s₃) (at t₁) n₁ n₂ brk (at t₇) (at t₈) w₁ (omega arith) (omega arith) (omega arith) q) in
        let cb = catch-back F S₁ high q₂ pb in
        let sb = patch-back F S₁ t₄ hs₄ (at s) (at t₄) (omega arith) (aim-other (at t₂) (at t₁₃) S (at s) (λ z. omega arith) ∙ quiet-below S (at s) (at t₁₄) (at s₃) (at t₈) (n₁ ++ n₂) brk (at s) w₀ (omega arith) (omega arith) (omega arith) q) cb.1 in
        let q₁ = quiet-aim S₁ (at s₃) (at t₁) n₁ brk (at s) (at t₄) (λ i a b z. omega arith)
        (quiet-aim S (at s₃) (at t₁) n₁ brk (at t₂) (at t₁₃) (λ i a b z. omega arith) (quiet-first S (at s) (at t₁₄) (at t₇) (at t₈) n₁ n₂ brk (at s₃) (at t₁) w₂ (omega arith) (omega arith) (omega arith) q)) in
        let fb = body-first F S₂ (at t₁₃) (at t₄) (aim_same (at s) (at t₄) S₁) (aim-other (at s) (at t₄) S₁ (at t₂) (λ z. omega arith) ∙ aim_same (at t₂) (at t₁₃) S)
        (aim-other (at s) (at t₄) S₁ (at t₁) (λ z. omega arith) ∙ aim-other (at t₂) (at t₁₃) S (at t₁) (λ z. omega arith) ∙ mid (at t₁) (omega arith) (omega arith)) q₁ sb in
        let B = fb.0 in
        let C = cb.0 in
        let last = on.4 in
        let fin = final-aim F S s hs (at t₂) (at t₁₃) (omega arith) (final-aim F S₁ s hs (at s) (at t₄) (omega arith) fb.1) in (
          (
            at s₃,
            at t₁,
            at t₂,
            at t₄,
            at t₄,
            at t₈,
            at t₉,
            at t₁₀,
            at t₁₁,
            n,
            name-and-room (layout_of R F) x n c B.named C.room,
            B.push,
            B.body,
            B.pop,
            jump_to R F (at t₁₃) (at t₁₄) (one κ) c (at t₂) (at t₄) (sym last) B.jump,
            subst (λ (z : ℕ). XC F c₂ z (at t₈)) l₅ C.caught,
            C.drop,
            C.unwind,
            C.leave,
            subst (λ (z : ℕ). Glue (layout_of R F) false κ c (at t₁₁) z) (sym last) C.glue,
          ),
          fin,
        )

    try-end : (y : Lowered) (t : Low) → ok v t₁₄ ≡ ok y t → Result R c κ c.ns (λ F. TryAt R F κ μ (XB F) (XC F) x mark c) s hs y t
    try-end y t h =
        let on = catch-on in
        let l₃ = at-s₃ in
        let k = both.on in
        let hands : t₈.handlers ≡ suc s.handlers = both.handlers in
        let down : pred t₈.handlers ≡ s.handlers = omega arith in
        ends h (record {
          highs = hs₁₃;
          kind = r₁.kind;
          new = r₁.new ++ r₂.new;
          alone = λ z. both-none (r₁.alone (ap deeper_loop z)) (r₂.alone (ap deeper_loop z));
          kept = record {
            slots = unwound-slots R c.ns (catch_scope x) t₉ catch-slots;
            block = both.block;
            iters = both.iters;
            handlers = down;
            loops = both.loops;
            breaks = both.breaks;
            within = within_wider (at s) (at s₃) (at t₈) (at t₁₄) (r₁.new ++ r₂.new) (omega arith) (omega arith) both.within;
            on = omega arith;
            dist = λ d. both.dist (N.dist d);
          };
          back = λ F S q f. try-back F S q f;
        })

pub good-try : (R : Records) (body branch : M Lowered) (κ μ v_b v_c : Bool) (XB XC : Fin → Ctx → ℕ → ℕ → Type 0) (GB : Good R body κ v_b XB) (GC : Good R branch μ v_c XC)
    (c : Ctx) (s : Low) (hs : ℕ → Heights) (y : Lowered) (t : Low) (x : Option Name) (mark : Position) → SpelledAny R x → AroundOf R c s → Allows c.loop (v_b || v_c)
    → trying R x mark body branch s ≡ ok y t → Result R c κ c.ns (λ F. TryAt R F κ μ (XB F) (XC F) x mark c) s hs y t
good-try R body branch κ μ v_b v_c XB XC GB GC c s hs y t x mark sp A al h =
    let N = name-any-ok R x _ s t y sp h in
    named N.0 N.1 N.2 N.3
  where
    d : ℕ
    d = depth c.ns

    Goal : Type 0
    Goal = Result R c κ c.ns (λ F. TryAt R F κ μ (XB F) (XC F) x mark c) s hs y t

    -- from the catch block on
    After : ℕ → ℕ → Lowered → Low → Type 0
    After site k v u =
        bind (discarding branch) (λ _. bind (unwind_to k) (λ _. bind (emit PopHandler) (λ _. bind (set_handlers pred) (λ _. bind (emit_if (leaves v) UnitOp) (λ _. bind (patch_here site) (λ _. ret v)))))) u ≡ ok y t

    caught : (n : Option ℕ) (p : Pile ℕ) (N : Caught R x s.names.held n p.held) (v : Lowered) (t₁ : Low)
        (r₁ : Result R (in_try_code c) κ c.ns (λ F. XB F (in_try_code c)) (a₃ x mark d n p s) (noted (at s) (heights 0 c) hs) v t₁) → After (at (b₂ x mark d n p s t₁)) d v (b₇ x mark d n p s t₁) → Goal
    caught n p N v t₁ r₁ f =
        let D = discard-ok branch _ (b₇ x mark d n p s t₁) t y f in
        ended D.0 D.1 D.2 D.3
      where
        ended : (w : Lowered) (t₈ : Low) → branch (b₇ x mark d n p s t₁) ≡ ok w t₈
            → bind (unwind_to d) (λ _. bind (emit PopHandler) (λ _. bind (set_handlers pred) (λ _. bind (emit_if (leaves v) UnitOp) (λ _. bind (patch_here (at (b₂ x mark d n p s t₁))) (λ _. ret v))))) (b₉ x mark d n p s t₁ v w t₈) ≡ ok y t → Goal
        ended w t₈ q g =
            let u₉ = b₉ x mark d n p s t₁ v w t₈ in
            let u₁₀ = b₁₀ x mark d n p s t₁ v w t₈ in
            let u₁₁ = b₁₁ x mark d n p s t₁ v w t₈ in
            let u₁₂ = b₁₂ x mark d n p s t₁ v w t₈ in
            let u₁₃ = b₁₃ x mark d n p s t₁ v w t₈ in
            let k₁₂ = run (sure-handlers pred u₁₁) _ (run (sure-emit PopHandler nowhere u₁₀) _ (run (sure-unwind d u₉) _ g)) in
            let k₁₄ = run (sure-patch_here (at (b₂ x mark d n p s t₁)) u₁₃) _ (run (sure-put_if (leaves v) UnitOp u₁₂) _ k₁₂) in
            let around = catch-around R κ μ XB XC x mark c s hs A n p N v t₁ r₁ sp in
            try-end R κ μ XB XC x mark c s hs A n p N v t₁ r₁ sp w t₈
            (GC (c₂ R κ μ XB XC x mark c s hs A n p N v t₁ r₁) (b₇ x mark d n p s t₁) (hs₄ R κ μ XB XC x mark c s hs A n p N v t₁ r₁) w t₈ around (allows-deeper c.loop v_c (allows-right c.loop v_b v_c al)) q) y t k₁₄

    done : (n : Option ℕ) (p : Pile ℕ) (N : Caught R x s.names.held n p.held) (v : Lowered) (t₁ : Low)
        → Result R (in_try_code c) κ c.ns (λ F. XB F (in_try_code c)) (a₃ x mark d n p s) (noted (at s) (heights 0 c) hs) v t₁
        → bind (may_catch R x) (λ _. bind (emit PopHandler) (λ _. bind (set_handlers pred) (λ _. bind (emit (Jump unset)) (λ past. bind (patch_here (at s)) (λ _. bind (set_handlers suc) (λ _. bind depth_now (λ k. bind (declare_any R x) (λ _.
        bind (discarding branch) (λ _. bind (unwind_to k) (λ _. bind (emit PopHandler) (λ _. bind (set_handlers pred) (λ _. bind (emit_if (leaves v) UnitOp) (λ _. bind (patch_here past) (λ _. ret v)))))))))))))) t₁ ≡ ok y t → Goal
    done n p N v t₁ r₁ f =
        let u₃ = b₃ x mark d n p s t₁ in
        let u₄ = b₄ x mark d n p s t₁ in
        let u₅ = b₅ x mark d n p s t₁ in
        let u₆ = b₆ x mark d n p s t₁ in
        let k₃ = run (sure-handlers pred (b₂ x mark d n p s t₁)) _ (run (sure-emit PopHandler nowhere t₁) _ (run (sure-may_catch R x t₁) _ f)) in
        let k₆ = run (sure-handlers suc u₅) _ (run (sure-patch_here (at s) u₄) _ (run (sure-emit (Jump unset) nowhere u₃) _ k₃)) in
        caught n p N v t₁ r₁ (run (sure-declare_any R x u₆) _ (run (sure-as (sure-depth u₆) (live R κ μ XB XC x mark c s hs A n p N v t₁ r₁) refl) _ k₆))

    named : (n : Option ℕ) (p : Pile ℕ) → Caught R x s.names.held n p.held
        → bind (emit_at (PushHandler unset n) mark) (λ site. bind (set_handlers suc) (λ _. bind body (λ v. bind (may_catch R x) (λ _. bind (emit PopHandler) (λ _. bind (set_handlers pred) (λ _. bind (emit (Jump unset)) (λ past.
        bind (patch_here site) (λ _. bind (set_handlers suc) (λ _. bind depth_now (λ k. bind (declare_any R x) (λ _.
        bind (discarding branch) (λ _. bind (unwind_to k) (λ _. bind (emit PopHandler) (λ _. bind (set_handlers pred) (λ _. bind (emit_if (leaves v) UnitOp) (λ _. bind (patch_here past) (λ _. ret v))))))))))))))))) (with_names p s) ≡ ok y t → Goal
    named n p N f =
        let k₃ = run (sure-handlers suc (a₂ x mark d n p s)) _ (run (sure-emit (PushHandler unset n) mark (with_names p s)) _ f) in
        let b = bind_ok body _ (a₃ x mark d n p s) t y k₃ in
        let around : AroundOf R (in_try_code c) (a₃ x mark d n p s) = record { slots-are = A.slots-are; iters-are = A.iters-are; hands-are = ap suc A.hands-are; loop-is = inner-deeper R c.loop c.its c.hands s.loops A.loop-is } in
        done n p N b.0 b.1 (GB (in_try_code c) (a₃ x mark d n p s) (noted (at s) (heights 0 c) hs) b.0 b.1 around (allows-deeper c.loop v_b (allows-left c.loop v_b v_c al)) b.2) b.3
