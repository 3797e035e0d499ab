-- What lowering keeps while it works, against what stands around a statement's code; and what an accepted piece of
-- lowering comes to.
use Rattle.std.proofs.Common.{◌≡◌, ℕ, suc, ◌+◌, ◌-◌, ◌<◌, ◌≤◌, max, Bool, true, false, cond, ltb, List, [], ◌∷◌, ◌++◌, length, get_or, take, drop, set, Some, None, Option, sym, refl, ap, ◌∙◌, subst, ap₂, inl, inr, append_assoc, arith, length-append, length-set, ltb-false, ne_eqb}
use Rattle.std.proofs.lemmas.List.{append-nil, set-get_or, set-set, set_at, get_or-set_same, get_or_push, take_at, drop_at, nil_from_length}
use Rattle.records.specs.Tree.{Records, nowhere}
use Rattle.code.specs.declared.ops.Op.{Op}
use Rattle.code.specs.declared.ops.Op.TheVariants.{Unit as UnitOp, Pop, UnwindTo, Checkpoint}
use Rattle.code.specs.declared.ops.Instr.{Instr}
use Rattle.code.specs.declared.shapes.Loop.{Loop}
use Rattle.code.specs.declared.shapes.Lowered.{Lowered}
use Rattle.meaning.specs.Reading.{Bytes}
use Rattle.meaning.specs.Agreement.{Heights}
use Rattle.meaning.specs.LowerState.{Low, M, last_loop, no_loop, one_break_more, holding, with_breaks, with_code, with_loops, patch_all, leave_loop, land, Out.ok}
use Rattle.meaning.specs.Lower.{lowered, owned}
use Rattle.meaning.specs.Compiled.{spelled}
use Rattle.meaning.specs.SetCode.{expr_of}
use Rattle.meaning.proofs.Place.{Scopes, flat, depth, LoopAt, Ctx, in_scopes, one, heights, Layout, Glue, Drop, Checks, Unwind}
use Rattle.meaning.proofs.Monad.{at, emitted_if, unwound, Sure, sure-as, sure-unloop, sure-land}
use Rattle.meaning.proofs.Aims.{Fin, layout_of, Aims, none, aim, aim_all, aim-other, Within, aim_all-below, aim_all-above, aim_all-append, aim_all-at, Quiet, noted, ops-same, ops-patch_all, Tabs, Final, ins, snoc, within-append}
use Rattle.meaning.proofs.Tables.{Dist, spelled-length, spelled-take, flat-length}

-- ## Loops

-- With so many breaks; with so many more.
abbrev pub counted : ℕ → Loop → Loop
counted n l = record { continue_target = l.continue_target; break_depth = l.break_depth; continue_depth = l.continue_depth; iters = l.iters; owns_iterator = l.owns_iterator; handlers = l.handlers; breaks = n; has_break_value = l.has_break_value }

abbrev pub plus : ℕ → Loop → Loop
plus n l = counted (l.breaks + n) l

abbrev pub plus_last : ℕ → List Loop → List Loop
plus_last n ls = set ls (length ls - 1) (plus n (last_loop ls))

plus-path : (l : Loop) (n m : ℕ) → n ≡ m → counted n l ≡ counted m l
plus-path l n m e = ap (λ (b : ℕ). counted b l) e

plus-zero : (l : Loop) → plus 0 l ≡ l
plus-zero l = plus-path l (l.breaks + 0) l.breaks (omega arith)

pub plus_last-zero : (ls : List Loop) → plus_last 0 ls ≡ ls
plus_last-zero ls = ap (λ (x : Loop). set ls (length ls - 1) x) (plus-zero (last_loop ls)) ∙ set-get_or ls (length ls - 1) no_loop

pub last-plus : (n : ℕ) (ls : List Loop) → 0 < length ls → last_loop (plus_last n ls) ≡ plus n (last_loop ls)
last-plus n ls h =
    ap (λ (k : ℕ). get_or (plus_last n ls) (k - 1) no_loop) (length-set ls (length ls - 1) (plus n (last_loop ls)))
    ∙ get_or-set_same ls (length ls - 1) (plus n (last_loop ls)) no_loop (omega arith)

pub plus_last-twice : (n m : ℕ) (ls : List Loop) → plus_last m (plus_last n ls) ≡ plus_last (n + m) ls
plus_last-twice n m [] = refl
plus_last-twice n m (l ∷ ls) =
    let all = l ∷ ls in
    let e : plus m (plus n (last_loop all)) ≡ plus (n + m) (last_loop all) = plus-path (last_loop all) ((last_loop all).breaks + n + m) ((last_loop all).breaks + (n + m)) (omega arith) in
    ap (λ (x : Loop). set (plus_last n all) (length (plus_last n all) - 1) (plus m x)) (last-plus n all (omega arith))
    ∙ ap (λ (k : ℕ). set (plus_last n all) (k - 1) (plus m (plus n (last_loop all)))) (length-set all (length all - 1) (plus n (last_loop all)))
    ∙ set-set all (length all - 1) (plus n (last_loop all)) (plus m (plus n (last_loop all)))
    ∙ ap (λ (x : Loop). set all (length all - 1) x) e

pub one_more : (ls : List Loop) → set ls (length ls - 1) (one_break_more (last_loop ls)) ≡ plus_last 1 ls
one_more ls = ap (λ (x : Loop). set ls (length ls - 1) x) (plus-path (last_loop ls) (suc (last_loop ls).breaks) ((last_loop ls).breaks + 1) (omega arith))

pub last_snoc : (ls : List Loop) (l : Loop) → last_loop (ls ++ l ∷ []) ≡ l
last_snoc ls l = get_or_push ls l no_loop (length (ls ++ l ∷ []) - 1) (let e = snoc ls l in omega arith)

pub plus_last-snoc : (n : ℕ) (ls : List Loop) (l : Loop) → plus_last n (ls ++ l ∷ []) ≡ ls ++ plus n l ∷ []
plus_last-snoc n ls l =
    ap (λ (x : Loop). set (ls ++ l ∷ []) (length (ls ++ l ∷ []) - 1) (plus n x)) (last_snoc ls l)
    ∙ set_at ls l [] (plus n l) (length (ls ++ l ∷ []) - 1) (let e = snoc ls l in omega arith)

-- A loop is left: its count of breaks is answered, the loops around stay.
pub sure-unloop-as : (s : Low) (ls : List Loop) (l : Loop) (n : ℕ) → s.loops ≡ ls ++ l ∷ [] → l.breaks ≡ n → Sure leave_loop s n (with_loops ls s)
sure-unloop-as s ls l n e c =
    let k = snoc ls l in
    let f : take (length s.loops - 1) s.loops ≡ ls = ap (λ (z : List Loop). take (length z - 1) z) e ∙ take_at ls (l ∷ []) (length (ls ++ l ∷ []) - 1) (omega arith) in
    sure-as (sure-unloop s) (ap (λ (z : List Loop). (last_loop z).breaks) e ∙ ap (λ (z : Loop). z.breaks) (last_snoc ls l) ∙ c) (ap (λ (z : List Loop). with_loops z s) f)

-- The newest break places land at the next operation.
abbrev pub landed_as : List ℕ → List ℕ → Low → Low
landed_as bs new s = with_breaks (holding bs s.breaks) (with_code (holding (patch_all new (at s) s.code.held) s.code) s)

pub sure-land-as : (count : ℕ) (s : Low) (bs new : List ℕ) → s.breaks.held ≡ bs ++ new → count ≡ length new → Sure (land count) s tt (landed_as bs new s)
sure-land-as count s bs new e c =
    let l : length s.breaks.held ≡ length bs + length new = ap length e ∙ length-append bs new in
    let k : length bs ≡ length s.breaks.held - count = omega arith in
    let p : take (length s.breaks.held - count) s.breaks.held ≡ bs = ap (take (length s.breaks.held - count)) e ∙ take_at bs new _ k in
    let q : drop (length s.breaks.held - count) s.breaks.held ≡ new = ap (drop (length s.breaks.held - count)) e ∙ drop_at bs new _ k in
    sure-as (sure-land count s) refl (ap₂ (λ (x y : List ℕ). landed_as x y s) p q)

-- ## What stands around

-- The innermost loop's record is that loop.
pub record LoopIs (R : Records) (l : LoopAt) (its hands : ℕ) (k : Loop) : Type 0 where
  pub cont-is : k.continue_target ≡ l.cont
  pub break-is : k.break_depth ≡ depth l.bns
  pub again-is : k.continue_depth ≡ depth l.cns
  pub hasv-is : k.has_break_value ≡ l.hasv
  pub pops-are : k.handlers + l.pops ≡ hands
  pub bdrops-are : its - (k.iters - owned k.owns_iterator) ≡ l.bdrops
  pub cdrops-are : its - k.iters ≡ l.cdrops

abbrev pub Inner : Records → Option LoopAt → ℕ → ℕ → List Loop → Type 0
Inner R None its hands ls = ls ≡ []
Inner R (Some l) its hands ls = (0 < length ls) × LoopIs R l its hands (last_loop ls)

pub record Around (R : Records) (c : Ctx) (slots : List ℕ) (iters hands : ℕ) (loops : List Loop) : Type 0 where
  pub slots-are : spelled R slots ≡ flat c.ns
  pub iters-are : iters ≡ c.its
  pub hands-are : hands ≡ c.hands
  pub loop-is : Inner R c.loop c.its c.hands loops

abbrev pub AroundOf : Records → Ctx → Low → Type 0
AroundOf R c s = Around R c s.slots.held s.iters s.handlers s.loops

pub around_depth : (R : Records) (c : Ctx) (slots : List ℕ) (iters hands : ℕ) (loops : List Loop) → Around R c slots iters hands loops → length slots ≡ depth c.ns
around_depth R c slots iters hands loops a = sym (spelled-length R slots) ∙ ap length a.slots-are ∙ flat-length c.ns

-- A list of statements stands in a scope of its own, which the block's base tells.
pub record Here (R : Records) (c : Ctx) (s : Low) : Type 0 where
  pub around : AroundOf R c s
  pub top : List Bytes
  pub rest : Scopes
  pub shape : c.ns ≡ top ∷ rest
  pub base : s.block.base ≡ depth rest

-- ## What a piece of lowering keeps

pub record Kept (R : Records) (ns : Scopes) (new : List ℕ) (s t : Low) : Type 0 where
  pub slots : spelled R t.slots.held ≡ flat ns
  pub block : t.block ≡ s.block
  pub iters : t.iters ≡ s.iters
  pub handlers : t.handlers ≡ s.handlers
  pub loops : t.loops ≡ plus_last (length new) s.loops
  pub breaks : t.breaks.held ≡ s.breaks.held ++ new
  pub within : Within (at s) (at t) new
  pub on : at s ≤ at t
  pub dist : Dist R s.names.held → Dist R t.names.held

inner-plus : (R : Records) (o : Option LoopAt) (its hands n : ℕ) (ls : List Loop) → Inner R o its hands ls → Inner R o its hands (plus_last n ls)
inner-plus R None its hands n ls e = ap (plus_last n) e
inner-plus R (Some l) its hands n ls p =
    let e = length-set ls (length ls - 1) (plus n (last_loop ls)) in
    let q = p.0 in
    let k = p.1 in (
      omega arith,
      subst (λ (z : Loop). LoopIs R l its hands z) (sym (last-plus n ls q))
          (record { cont-is = k.cont-is; break-is = k.break-is; again-is = k.again-is; hasv-is = k.hasv-is; pops-are = k.pops-are; bdrops-are = k.bdrops-are; cdrops-are = k.cdrops-are }),
    )

pub around-after : (R : Records) (c : Ctx) (ns : Scopes) (new : List ℕ) (s t : Low) → AroundOf R c s → Kept R ns new s t → AroundOf R (in_scopes ns c) t
around-after R c ns new s t a k =
    record {
      slots-are = k.slots;
      iters-are = k.iters ∙ a.iters-are;
      hands-are = k.handlers ∙ a.hands-are;
      loop-is = subst (λ (ls : List Loop). Inner R c.loop c.its c.hands ls) (sym k.loops) (inner-plus R c.loop c.its c.hands (length new) s.loops a.loop-is);
    }

-- One piece after another.
pub kept_then : (R : Records) (ns ms : Scopes) (xs ys : List ℕ) (s t u : Low) → Kept R ns xs s t → Kept R ms ys t u → Kept R ms (xs ++ ys) s u
kept_then R ns ms xs ys s t u p q =
    let p-on = p.on in
    let q-on = q.on in
    record {
      slots = q.slots;
      block = q.block ∙ p.block;
      iters = q.iters ∙ p.iters;
      handlers = q.handlers ∙ p.handlers;
      loops = q.loops ∙ ap (plus_last (length ys)) p.loops ∙ plus_last-twice (length xs) (length ys) s.loops ∙ ap (λ (n : ℕ). plus_last n s.loops) (sym (length-append xs ys));
      breaks = q.breaks ∙ ap (λ (l : List ℕ). l ++ ys) p.breaks ∙ append_assoc s.breaks.held xs ys;
      within = within-append (at s) (at t) (at u) xs ys p-on q-on p.within q.within;
      on = omega arith;
      dist = λ d. q.dist (p.dist d);
    }

-- Without breaks.
pub kept-plain : (R : Records) (ns : Scopes) (s t : Low) → spelled R t.slots.held ≡ flat ns → t.block ≡ s.block → t.iters ≡ s.iters → t.handlers ≡ s.handlers → t.loops ≡ s.loops → t.breaks.held ≡ s.breaks.held
    → at s ≤ at t → (Dist R s.names.held → Dist R t.names.held) → Kept R ns [] s t
kept-plain R ns s t slots same iters handlers loops breaks on dist =
    record { slots = slots; block = same; iters = iters; handlers = handlers; loops = loops ∙ sym (plus_last-zero s.loops); breaks = breaks ∙ sym (append-nil s.breaks.held); within = tt; on = on; dist = dist }

-- ## What a piece comes to

abbrev pub brk_of : Option LoopAt → ℕ
brk_of None = 0
brk_of (Some l) = l.brk

-- What an accepted piece leaves and keeps, the heights of its operations, and where its code stands in every whole
-- program that it is part of.
pub record Result (R : Records) (c : Ctx) (κ : Bool) (ns : Scopes) (C : Fin → ℕ → ℕ → Type 0) (s : Low) (hs : ℕ → Heights) (v : Lowered) (t : Low) : Type 0 where
  pub highs : ℕ → Heights
  pub kind : v ≡ lowered κ
  pub new : List ℕ
  -- outside a loop there are no breaks
  pub alone : c.loop ≡ None → new ≡ []
  pub kept : Kept R ns new s t
  pub back : (F : Fin) (S : Aims) → Quiet S (at s) (at t) new (brk_of c.loop) → Final F S t highs → C F (at s) (at t) × Final F S s hs

pub both-none : {xs ys : List ℕ} → xs ≡ [] → ys ≡ [] → xs ++ ys ≡ []
both-none p q = ap₂ (λ (a b : List ℕ). a ++ b) p q

-- A break with a value stands only in a loop that has one.
abbrev pub Allows : Option LoopAt → Bool → Type 0
Allows None b = Unit {0}
Allows (Some l) b = b ≡ true → l.hasv ≡ true

-- Wherever a block may stand, it comes to its code there.
abbrev pub Good : Records → M Lowered → Bool → Bool → (Fin → Ctx → ℕ → ℕ → Type 0) → Type 0
Good R m κ v C = (c : Ctx) (s : Low) (hs : ℕ → Heights) (x : Lowered) (t : Low) → AroundOf R c s → Allows c.loop v → m s ≡ ok x t → Result R c κ c.ns (λ F. C F c) s hs x t

-- ## Targets of parts

pub quiet-aim : (S : Aims) (a b : ℕ) (xs : List ℕ) (t site to : ℕ) → ((i : ℕ) → a ≤ i → i < b → i ≡ site → ⊥) → Quiet S a b xs t → Quiet (aim site to S) a b xs t
quiet-aim S a b xs t site to n q = λ i p r. aim-other site to S i (n i p r) ∙ q i p r

pub quiet-part : (S : Aims) (a b c d : ℕ) (xs : List ℕ) (t : ℕ) → a ≤ c → d ≤ b → Quiet S a b xs t → Quiet S c d xs t
quiet-part S a b c d xs t p r q = λ i l m. q i (omega arith) (omega arith)

pub quiet-first : (S : Aims) (a b m h : ℕ) (xs ys : List ℕ) (t c d : ℕ) → Within m h ys → a ≤ c → d ≤ b → d ≤ m → Quiet S a b (xs ++ ys) t → Quiet S c d xs t
quiet-first S a b m h xs ys t c d w p r k q =
    λ i l n. q i (omega arith) (omega arith) ∙ aim_all-append xs ys t none i ∙ aim_all-at xs t (aim_all ys t none) none i (aim_all-below m h t ys none w i (omega arith))

pub quiet-second : (S : Aims) (a b l m : ℕ) (xs ys : List ℕ) (t c d : ℕ) → Within l m xs → a ≤ c → d ≤ b → m ≤ c → Quiet S a b (xs ++ ys) t → Quiet S c d ys t
quiet-second S a b l m xs ys t c d w p r k q =
    λ i e n. q i (omega arith) (omega arith) ∙ aim_all-append xs ys t none i ∙ aim_all-above l m t xs (aim_all ys t none) w i (omega arith)

pub quiet-below : (S : Aims) (a b l m : ℕ) (xs : List ℕ) (t i : ℕ) → Within l m xs → a ≤ i → i < b → i < l → Quiet S a b xs t → S i ≡ None
quiet-below S a b l m xs t i w p r k q = q i p r ∙ aim_all-below l m t xs none w i k

pub quiet-above : (S : Aims) (a b l m : ℕ) (xs : List ℕ) (t i : ℕ) → Within l m xs → a ≤ i → i < b → m ≤ i → Quiet S a b xs t → S i ≡ None
quiet-above S a b l m xs t i w p r k q = q i p r ∙ aim_all-above l m t xs none w i k

-- ## Operations that may be there

abbrev pub MayIns : Layout → Bool → Op → Heights → ℕ → ℕ → Type 0
MayIns P true o h a b = P.Op' o nowhere h a b
MayIns P false o h a b = a ≡ b

pub on_if : (b : Bool) (o : Op) (u : Low) → at u ≤ at (emitted_if b o u)
on_if true o u = let e = snoc u.code.held (record { op = o; at = nowhere }) in omega arith
on_if false o u = omega arith

note-away : (F : Fin) (S : Aims) (u : Low) (hs : ℕ → Heights) (h : Heights) → Final F S u (noted (at u) h hs) → Final F S u hs
note-away F S u hs h f = (ops-same F S S u.code.held (noted (at u) h hs) hs (λ i b. refl) (λ i b. rw (ne_eqb i (at u) (λ e. omega arith)) refl) f.0, f.1)

pub ins_if : (R : Records) (F : Fin) (S : Aims) (b : Bool) (u : Low) (hs : ℕ → Heights) (o : Op) (h : Heights) → (at u < at (emitted_if b o u) → S (at u) ≡ None) → expr_of F.rows o ≡ None
    → Final F S (emitted_if b o u) (noted (at u) h hs) → MayIns (layout_of R F) b o h (at u) (at (emitted_if b o u)) × Final F S u hs
ins_if R F S true u hs o h n x f = ins R F S u hs o nowhere h (n (let e = snoc u.code.held (record { op = o; at = nowhere }) in omega arith)) x f
ins_if R F S false u hs o h n x f = (refl, note-away F S u hs h f)

pub may-drop : (P : Layout) (κ : Bool) (c : Ctx) (a b : ℕ) → MayIns P κ Pop (heights 1 c) a b → Drop P κ c a b
may-drop P true c a b m = m
may-drop P false c a b m = m

pub may-check : (P : Layout) (k : Bool) (c : Ctx) (a b : ℕ) → MayIns P k Checkpoint (heights 0 c) a b → Checks P k c a b
may-check P true c a b m = m
may-check P false c a b m = m

pub may-glue : (P : Layout) (v : Bool) (c : Ctx) (a b : ℕ) → MayIns P v UnitOp (heights 0 c) a b → Glue P false v c a b
may-glue P true c a b m = (a, b, inl refl, m, inl refl)
may-glue P false c a b m = inl m

-- ## Slots past a depth

module _ (R : Records) (ns : Scopes) (n : List Bytes) (u : Low) (slots : spelled R u.slots.held ≡ flat (n ∷ ns)) where
  live : length u.slots.held ≡ length n + depth ns
  live =
      let e : length (spelled R u.slots.held) ≡ length (flat ns) + length n = ap length slots ∙ length-append (flat ns) n in
      let f = flat-length ns in
      let g = spelled-length R u.slots.held in
      omega arith

  pub unwound-slots : spelled R (unwound (depth ns) u).slots.held ≡ flat ns
  unwound-slots = go (ltb (depth ns) (length u.slots.held)) refl
    where
      go : (b : Bool) → ltb (depth ns) (length u.slots.held) ≡ b → spelled R (cond b (holding (take (depth ns) u.slots.held) u.slots) u.slots).held ≡ flat ns
      go true e = spelled-take R (depth ns) u.slots.held ∙ ap (take (depth ns)) slots ∙ take_at (flat ns) n (depth ns) (flat-length ns)
      go false e =
          let l = ltb-false (depth ns) (length u.slots.held) e in
          let z : n ≡ [] = nil_from_length n (let w = live in omega arith) in
          slots ∙ ap (λ (m : List Bytes). flat ns ++ m) z ∙ append-nil (flat ns)

  pub unwound-on : at u ≤ at (unwound (depth ns) u)
  unwound-on = go (ltb (depth ns) (length u.slots.held))
    where
      x : Instr
      x = record { op = UnwindTo (depth ns); at = nowhere }

      go : (b : Bool) → at u ≤ length (cond b (record { held = u.code.held ++ x ∷ []; room = u.code.room }) u.code).held
      go true = let e = snoc u.code.held x in omega arith
      go false = omega arith

  -- An unwinding back.
  pub unwind-back : (F : Fin) (S : Aims) (c : Ctx) (κ : Bool) (hs : ℕ → Heights) → c.ns ≡ n ∷ ns → (at u < at (unwound (depth ns) u) → S (at u) ≡ None)
      → Final F S (unwound (depth ns) u) (noted (at u) (heights (one κ) c) hs) → Unwind (layout_of R F) κ c ns (at u) (at (unwound (depth ns) u)) × Final F S u hs
  unwind-back F S c κ hs e q f = go (ltb (depth ns) (length u.slots.held)) refl q f
    where
      d : ℕ
      d = depth ns

      h : Heights
      h = heights (one κ) c

      State : Bool → Low
      State b = record {
        code = cond b (record { held = u.code.held ++ record { op = UnwindTo (depth ns); at = nowhere } ∷ []; room = u.code.room }) u.code;
        rows = u.rows;
        names = u.names;
        opers = u.opers;
        slots = u.slots;
        breaks = u.breaks;
        loops = u.loops;
        iters = u.iters;
        handlers = u.handlers;
        block = u.block;
        limit = u.limit;
        deepest = cond b (max u.deepest (length (take (depth ns) u.slots.held))) u.deepest;
      }

      go : (b : Bool) → ltb (depth ns) (length u.slots.held) ≡ b → (at u < at (State b) → S (at u) ≡ None) → Final F S (State b) (noted (at u) h hs)
          → Unwind (layout_of R F) κ c ns (at u) (at (State b)) × Final F S u hs
      go true b n f =
          let g = f.1 in
          let l = f.1.deep in
          let t : Tabs F u.rows.held u.names.held u.opers.held u.deepest = record { rows_on = g.rows_on; names-on = g.names-on; opers-on = g.opers-on; deep = omega arith } in
          let r = ins R F S u hs (UnwindTo (depth ns)) nowhere h (n (let e = snoc u.code.held (record { op = UnwindTo (depth ns); at = nowhere }) in omega arith)) refl (f.0, t) in
          (inr r.0, r.1)
      go false b m f =
          let l = ltb-false (depth ns) (length u.slots.held) b in
          let w = live in
          let k : depth c.ns ≡ depth ns = ap depth e ∙ omega arith in
          (inl (k, refl), note-away F S u hs h f)

-- ## A loop's end

-- Unit where the loop has a break value, and just past that its breaks land.
pub exit-back : (R : Records) (F : Fin) (S : Aims) (c : Ctx) (hasv : Bool) (bs new : List ℕ) (u : Low) (hs : ℕ → Heights) (lo hi : ℕ) → Within lo hi new → lo ≤ hi → hi ≤ at u
    → ((i : ℕ) → lo ≤ i → i < at (emitted_if hasv UnitOp u) → S i ≡ None)
    → Final F S (landed_as bs new (emitted_if hasv UnitOp u)) (noted (at u) (heights 0 c) hs)
    → Glue (layout_of R F) false hasv c (at u) (at (emitted_if hasv UnitOp u)) × Final F (aim_all new (at (emitted_if hasv UnitOp u)) S) u hs
exit-back R F S c hasv bs new u hs lo hi w lh l n f =
    let u' = emitted_if hasv UnitOp u in
    let on = on_if hasv UnitOp u in
    let o = ops-patch_all F S new u'.code.held (noted (at u) (heights 0 c) hs) (at u') lo hi w (omega arith) (λ i p q. n i p (omega arith)) f.0 in
    let V : Aims = aim_all new (at u') S in
    let m : at u < at u' → V (at u) ≡ None = λ q. aim_all-above lo hi (at u') new S w (at u) l ∙ n (at u) (omega arith) q in
    let r = ins_if R F V hasv u hs UnitOp (heights 0 c) m refl (o, f.1) in
    (may-glue (layout_of R F) hasv c (at u) (at u') r.0, r.1)
