-- Code that stands in one layout stands in another, its places moved: it is enough that each operation and each
-- expression does.
use Rattle.std.proofs.Common.{◌≡◌, ℕ, zero, suc, Bool, true, false, ◌||◌, eqb, [], ◌∷◌, Some, None, Option, refl, ap, subst, inl, inr}
use Rattle.records.specs.declared.types.Position.{Position}
use Rattle.records.specs.Tree.{Name, Exp, Oper, Head, Head.noop, Head.var, Head.expr, Head.call, Head.assign, Head.other, Head.block, Head.try, Head.for, Head.if, Head.while, Head.do_loop, Head.break, Head.continue, Head.return, Head.throw, Tree.node, Forest.nil, Forest.more, Stmt, Block}
use Rattle.code.specs.declared.ops.Op.{Op}
use Rattle.meaning.specs.Reading.{Bytes, Sign}
use Rattle.meaning.specs.Run.{endless}
use Rattle.meaning.specs.Breaks.{has_break_value}
use Rattle.meaning.specs.SetCode.{move_op}
use Rattle.meaning.specs.Agreement.{Heights}
use Rattle.meaning.proofs.Place.{kind, kind_list, Scopes, after, after_list, resolve, catch_scope, LoopAt, Ctx, in_scopes, deeper_loop, in_try_code, less_hands, less_iters, top_ctx, one, Layout, Hop, Glue, Drop, Pops, Drops, Unwind, up_to, Leave, Blank, Break, Continue, ExpAny, OperAny, NameAny, Assigns, Declares, Tests, Exits, DoTest, Checks, while_loop, for_loop, CodeHead, Scoped, Code, CodeList, CodeScript}

-- A layout whose operations and expressions go to another's along a map of places.
pub record Moving (P Q : Layout) (μ : ℕ → ℕ) : Type 0 where
  pub op : {o : Op} {p : Position} {h : Heights} {a b : ℕ} → P.Op' o p h a b → Q.Op' (move_op μ o) p h (μ a) (μ b)
  pub exp : {e a b : ℕ} → P.Exp' e a b → Q.Exp' e (μ a) (μ b)
  pub name : {x : ℕ} {b : Bytes} → P.Name' x b → Q.Name' x b
  pub oper : {r : ℕ} {s : Sign} → P.Oper' r s → Q.Oper' r s
  pub row : {r i : ℕ} → P.Row' r i → Q.Row' r i
  pub room : {n : ℕ} → P.Room' n → Q.Room' n

-- The loop around goes along.
abbrev move_at : (ℕ → ℕ) → LoopAt → LoopAt
move_at μ l = record { cont = μ l.cont; brk = μ l.brk; hasv = l.hasv; bns = l.bns; cns = l.cns; pops = l.pops; bdrops = l.bdrops; cdrops = l.cdrops }

abbrev move_loop : (ℕ → ℕ) → Option LoopAt → Option LoopAt
move_loop μ None = None
move_loop μ (Some l) = Some (move_at μ l)

abbrev move_ctx : (ℕ → ℕ) → Ctx → Ctx
move_ctx μ c = record { loop = move_loop μ c.loop; ns = c.ns; its = c.its; hands = c.hands }

deeper-moved : (μ : ℕ → ℕ) (l : Option LoopAt) → move_loop μ (deeper_loop l) ≡ deeper_loop (move_loop μ l)
deeper-moved μ None = refl
deeper-moved μ (Some l) = refl

module _ {P Q : Layout} {μ : ℕ → ℕ} (M : Moving P Q μ) where
  hop : (v : ℕ) (c : Ctx) (a b : ℕ) → Hop P v c a b → Hop Q v (move_ctx μ c) (μ a) (μ b)
  hop v c a b (inl e) = inl (ap μ e)
  hop v c a b (inr z) = inr (μ z.0, M.op z.1)

  glue : (κ κ' : Bool) (c : Ctx) (a b : ℕ) → Glue P κ κ' c a b → Glue Q κ κ' (move_ctx μ c) (μ a) (μ b)
  glue false false c a b g = hop 0 c a b g
  glue true true c a b g = hop 1 c a b g
  glue false true c a b g = (μ g.0, μ g.1, hop 0 c a g.0 g.2, M.op g.3, hop 1 c g.1 b g.4)
  glue true false c a b g = g

  dropped : (κ : Bool) (c : Ctx) (a b : ℕ) → Drop P κ c a b → Drop Q κ (move_ctx μ c) (μ a) (μ b)
  dropped false c a b e = ap μ e
  dropped true c a b i = M.op i

  popped : (v n : ℕ) (c : Ctx) (a b : ℕ) → Pops P v n c a b → Pops Q v n (move_ctx μ c) (μ a) (μ b)
  popped v zero c a b e = ap μ e
  popped v (suc n) c a b z = (μ z.0, M.op z.1, popped v n (less_hands c) z.0 b z.2)

  drops : (v n : ℕ) (c : Ctx) (a b : ℕ) → Drops P v n c a b → Drops Q v n (move_ctx μ c) (μ a) (μ b)
  drops v zero c a b e = ap μ e
  drops v (suc n) c a b z = (μ z.0, M.op z.1, drops v n (less_iters c) z.0 b z.2)

  unwound : (κ : Bool) (c : Ctx) (to : Scopes) (a b : ℕ) → Unwind P κ c to a b → Unwind Q κ (move_ctx μ c) to (μ a) (μ b)
  unwound κ c to a b (inl e) = inl (e.0, ap μ e.1)
  unwound κ c to a b (inr i) = inr (M.op i)

  left : (κ : Bool) (l : LoopAt) (d : ℕ) (to : Scopes) (c : Ctx) (a t : ℕ) → Leave P κ l d to c a t → Leave Q κ (move_at μ l) d to (move_ctx μ c) (μ a) (μ t)
  left κ l d to c a t z =
      let (m, u, w, x, ps, ds, un, j) = z in
      (μ m, μ u, μ w, μ x, popped (one κ) l.pops c a m ps, drops (one κ) d (up_to P l.pops 0 c) m u ds, M.op un, M.op j)

  blank : (κ : Bool) (c : Ctx) (a b : ℕ) → Blank P κ c a b → Blank Q κ (move_ctx μ c) (μ a) (μ b)
  blank false c a b e = ap μ e
  blank true c a b z = (μ z.0, M.op z.1, M.op z.2)

  broken : (l : Option LoopAt) (e : Option Exp) (c : Ctx) (a : ℕ) → Break P l e c a → Break Q (move_loop μ l) e (move_ctx μ c) (μ a)
  broken None e c a z = z
  broken (Some l) None c a z = (μ z.0, blank l.hasv c a z.0 z.1, left l.hasv l l.bdrops l.bns c z.0 l.brk z.2)
  broken (Some l) (Some e) c a z = (μ z.0, μ z.1, z.2, M.exp z.3, M.op z.4, left true l l.bdrops l.bns c z.1 l.brk z.5)

  continued : (l : Option LoopAt) (c : Ctx) (a : ℕ) → Continue P l c a → Continue Q (move_loop μ l) (move_ctx μ c) (μ a)
  continued None c a z = z
  continued (Some l) c a z = left false l l.cdrops l.cns c a l.cont z

  exp_any : (e : Option Exp) (c : Ctx) (a b : ℕ) → ExpAny P e c a b → ExpAny Q e (move_ctx μ c) (μ a) (μ b)
  exp_any None c a b i = M.op i
  exp_any (Some e) c a b x = M.exp x

  oper_any : (o : Option Oper) (r : Option ℕ) → OperAny P o r → OperAny Q o r
  oper_any None None z = z
  oper_any None (Some r) z = z
  oper_any (Some o) None z = z
  oper_any (Some o) (Some r) z = M.oper z

  name_any : (x : Option Name) (n : Option ℕ) (c : Ctx) → NameAny P x n c → NameAny Q x n (move_ctx μ c)
  name_any None None c z = z
  name_any None (Some n) c z = z
  name_any (Some x) None c z = z
  name_any (Some x) (Some n) c z = (M.name z.0, M.room z.1)

  assigned : (i : Option ℕ) (x : ℕ) (r : Option ℕ) (at mark : Position) (c : Ctx) (a b : ℕ) → Assigns P i x r at mark c a b → Assigns Q i x r at mark (move_ctx μ c) (μ a) (μ b)
  assigned None x r at mark c a b i = M.op i
  assigned (Some n) x r at mark c a b i = M.op i

  declared : (new k : Bool) (x : Bytes) (c : Ctx) (a b : ℕ) → Declares P new k x c a b → Declares Q new k x (move_ctx μ c) (μ a) (μ b)
  declared true k x c a b z = (z.0, z.1, M.name z.2, M.room z.3, M.op z.4)
  declared false k x c a b z = (z.0, z.1, z.2, M.op z.3)

  tested : (κ : Bool) (e : Exp) (c : Ctx) (f a b : ℕ) → Tests P κ e c f a b → Tests Q κ e (move_ctx μ c) (μ f) (μ a) (μ b)
  tested true e c f a b z = ap μ z
  tested false e c f a b z = (μ z.0, M.exp z.1, M.op z.2)

  exits : (κ v : Bool) (c : Ctx) (f b : ℕ) → Exits P κ v c f b → Exits Q κ v (move_ctx μ c) (μ f) (μ b)
  exits true v c f b z = z
  exits false v c f b z = glue false v c f b z

  do_test : (until : Bool) (p : Position) (c : Ctx) (top a f : ℕ) → DoTest P until p c top a f → DoTest Q until p (move_ctx μ c) (μ top) (μ a) (μ f)
  do_test true p c top a f i = M.op i
  do_test false p c top a f z = (μ z.0, μ z.1, M.op z.2, M.op z.3)

  checked : (k : Bool) (c : Ctx) (a b : ℕ) → Checks P k c a b → Checks Q k (move_ctx μ c) (μ a) (μ b)
  checked false c a b e = ap μ e
  checked true c a b i = M.op i

  -- By the head, given that the blocks' code goes along.
  module _ (B B' C C' : Ctx → ℕ → ℕ → Type 0) (κ λ' v : Bool)
      (body : (c : Ctx) (a b : ℕ) → B c a b → B' (move_ctx μ c) (μ a) (μ b)) (branch : (c : Ctx) (a b : ℕ) → C c a b → C' (move_ctx μ c) (μ a) (μ b)) where
    head_moves : (h : Head) (c : Ctx) (a b : ℕ) → CodeHead P h B κ C λ' v c a b → CodeHead Q h B' κ C' λ' v (move_ctx μ c) (μ a) (μ b)
    head_moves noop c a b z = ap μ z
    head_moves (var k x e r) c a b z = (μ z.0, M.exp z.1, declared (eqb r 0) k x.bytes c z.0 b z.2)
    head_moves (expr e) c a b z = M.exp z
    head_moves (call x i) c a b z = (z.0, M.row z.1, M.op z.2)
    head_moves (assign x e o at mark) c a b z =
        let (n, m, r, nm, ex, sg, gi) = z in
        (n, μ m, r, M.name nm, M.exp ex, oper_any o r sg, assigned (resolve x.bytes c.ns) n r at mark c m b gi)
    head_moves (other i) c a b z = (z.0, M.row z.1, M.op z.2)
    head_moves block c a b z = body c a b z
    head_moves (try x mark) c a b z =
        let (m, u, w, y, p, i, j, k, l, n, nm, ph, bd, po, jb, br, dr, un, en, gl) = z in
        let deeper = deeper-moved μ c.loop in
        let inside : (K : Ctx → Type 0) (ns : Scopes) → K (move_ctx μ (in_scopes ns (in_try_code c))) → K (in_scopes ns (in_try_code (move_ctx μ c)))
        = λ K ns. subst (λ (o : Option LoopAt). K (record { loop = o; ns = ns; its = c.its; hands = suc c.hands })) deeper in
        let ns : Scopes = catch_scope x ∷ c.ns in (
          μ m,
          μ u,
          μ w,
          μ y,
          μ p,
          μ i,
          μ j,
          μ k,
          μ l,
          n,
          name_any x n c nm,
          M.op ph,
          inside (λ d. B' d (μ m) (μ u)) c.ns (body (in_try_code c) m u bd),
          M.op po,
          M.op jb,
          inside (λ d. C' d (μ p) (μ i)) ns (branch (in_scopes ns (in_try_code c)) p i br),
          inside (λ d. Drop Q λ' d (μ i) (μ j)) ns (dropped λ' (in_scopes ns (in_try_code c)) i j dr),
          unwound false (in_scopes ns (in_try_code c)) c.ns j k un,
          M.op en,
          glue false κ c l b gl,
        )
    head_moves (for x e mark) c a b z =
        let (d, m, n, u, w, top, y, q, i, j, k, f, g, nm, rm, ex, it, un, de, ti, nx, st, bd, dr, jt, uw, gl) = z in
        let inner = for_loop P top b v x.bytes c in (
          d,
          μ m,
          μ n,
          μ u,
          μ w,
          μ top,
          μ y,
          μ q,
          μ i,
          μ j,
          μ k,
          μ f,
          μ g,
          M.name nm,
          M.room rm,
          M.exp ex,
          M.op it,
          M.op un,
          M.op de,
          M.op ti,
          M.op nx,
          M.op st,
          body inner q i bd,
          dropped κ inner i j dr,
          M.op jt,
          M.op uw,
          glue false v c g b gl,
        )
    head_moves (if e) c a b z =
        let (m, u, w, f, x, ex, te, bd, gb, br, gc) = z in
        (μ m, μ u, μ w, μ f, μ x, M.exp ex, M.op te, body c u w bd, glue κ (κ || λ') c w b gb, branch c f x br, glue λ' (κ || λ') c x b gc)
    head_moves (while e mark) c a b z =
        let (top, u, w, x, y, f, ti, te, bd, dr, jt, ou) = z in
        (μ top, μ u, μ w, μ x, μ y, μ f, M.op ti, tested (endless e) e c f top u te, body (while_loop P top b v c) u w bd, dropped κ c w x dr, M.op jt, exits (endless e) v c f b ou)
    head_moves (do_loop until e mark) c a b z =
        let (top, u, w, m, f, ti, bd, dr, ex, te, gl) = z in
        (μ top, μ u, μ w, μ m, μ f, M.op ti, body (while_loop P top b v c) top u bd, dropped κ c u w dr, M.exp ex, do_test until e.at c top m f te, glue false v c f b gl)
    head_moves (break e) c a b z = broken c.loop e c a z
    head_moves continue c a b z = continued c.loop c a z
    head_moves (return e) c a b z = (μ z.0, μ z.1, exp_any e c a z.0 z.2, M.op z.3)
    head_moves (throw e at) c a b z = (μ z.0, μ z.1, exp_any e c a z.0 z.2, M.op z.3)

  scoped : (B : Block) (L L' : Ctx → ℕ → ℕ → Type 0) → ((c : Ctx) (a b : ℕ) → L c a b → L' (move_ctx μ c) (μ a) (μ b)) → (c : Ctx) (a b : ℕ) → Scoped P B L c a b → Scoped Q B L' (move_ctx μ c) (μ a) (μ b)
  scoped B L L' along c a b z =
      (μ z.0, along (in_scopes ([] ∷ c.ns) c) a z.0 z.1, unwound (kind_list false B) (in_scopes (after_list ([] ∷ c.ns) B) c) c.ns z.0 b z.2)

  -- A statement's code goes along, and a list's.
  mutual
    code_moves : (s : Stmt) (c : Ctx) (a b : ℕ) → Code P s c a b → Code Q s (move_ctx μ c) (μ a) (μ b)
    code_moves (node h B C) c a b z =
        head_moves (Scoped P B (λ d x y. CodeList P B false false d x y)) (Scoped Q B (λ d x y. CodeList Q B false false d x y))
        (Scoped P C (λ d x y. CodeList P C false false d x y)) (Scoped Q C (λ d x y. CodeList Q C false false d x y))
        (kind_list false B) (kind_list false C) (has_break_value B)
        (scoped B (λ d x y. CodeList P B false false d x y) (λ d x y. CodeList Q B false false d x y) (list_moves B false false))
        (scoped C (λ d x y. CodeList P C false false d x y) (λ d x y. CodeList Q C false false d x y) (list_moves C false false)) h c a b z

    list_moves : (B : Block) (k κ : Bool) (c : Ctx) (a b : ℕ) → CodeList P B k κ c a b → CodeList Q B k κ (move_ctx μ c) (μ a) (μ b)
    list_moves nil k κ c a b z = ap μ z
    list_moves (more s B) k κ c a b z =
        let (m, n, u, dr, ch, co, li) = z in
        (μ m, μ n, μ u, dropped κ c a m dr, checked k c m n ch, code_moves s c n u co, list_moves B k (kind s) (in_scopes (after c.ns s) c) u b li)

  -- A whole script's code goes along, if its start stays.
  pub script_moves : (k : Bool) (B : Block) → μ 0 ≡ 0 → CodeScript P k B → CodeScript Q k B
  script_moves k B start z =
      let (m, n, x, li, gl, re) = z in (
        μ m,
        μ n,
        μ x,
        subst (λ (i : ℕ). CodeList Q B k false top_ctx i (μ m)) start (list_moves B k false top_ctx 0 m li),
        glue (kind_list false B) true (in_scopes (after_list ([] ∷ []) B) top_ctx) m n gl,
        M.op re,
      )
