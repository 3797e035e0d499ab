-- A statement that has blocks is its parts, one after the other, and does what they do.
use Rattle.std.proofs.Common.{◌≡◌, ℕ, suc, pred, Bool, true, false, ◌||◌, None, Option, Ok, Err, Result, IsErrAnd, sym, refl, ap, ◌∙◌, subst}
use Rattle.records.specs.declared.types.Position.{Position}
use Rattle.records.specs.declared.refusals.Refusal.{Refusal}
use Rattle.records.specs.declared.types.Script.{Script}
use Rattle.records.specs.Tree.{Records, Name, Exp, records}
use Rattle.code.specs.declared.shapes.Lowered.{Lowered}
use Rattle.code.specs.declared.ops.Op.TheVariants.{Unit as UnitOp, DeclareLocal, Jump, JumpIfFalse, Tick, PushHandler, PopHandler, IterInit, IterNext, StoreShared}
use Rattle.meaning.specs.LowerState.{Low, Out, Out.ok, Out.no, M, bind, emit_at, emit, here, patch_here, depth, may_declare, declare, set_iters, set_handlers, enter_loop}
use Rattle.meaning.specs.Lower.{unset, leaves, residual, jump_if, meet, name_number, name_any, choosing, testing, looping, going, may_catch, declare_any, trying}
use Rattle.lowering.specs.declared.state.Lowering.{Lowering}
use Rattle.lowering.specs.View.{low, outcome}
use Rattle.statements.specs.declared.loops.Round.{Round}
use Rattle.statements.specs.Parts.{begin_if, end_then, begin_while, end_while, open_iter, loop_variable, begin_for, end_round, begin_try, end_body, begin_catch, end_caught}
use Rattle.blocks.specs.Whole.{inner}
use Rattle.blocks.proofs.Steps.{on, off}

-- A first step that is itself a sequence.
step : {X Y Z : Type 0} (o : Out X) (k : X → M Y) (l : Y → M Z) (n : X → M Z) → ((x : X) (t : Low) → n x t ≡ bind (k x) l t)
    → (elim o as (λ _. Out Z) [ ok x t ↦ n x t | no e ↦ no e ])
    ≡ (elim (elim o as (λ _. Out Y) [ ok x t ↦ k x t | no e ↦ no e ]) as (λ _. Out Z) [ ok y u ↦ l y u | no e ↦ no e ])
step (ok x t) k l n h = h x t
step (no e) k l n h = refl

-- The same first step, with the same to follow.
under : {X Z : Type 0} (o : Out X) (n k : X → M Z) → ((x : X) (t : Low) → n x t ≡ k x t)
    → (elim o as (λ _. Out Z) [ ok x t ↦ n x t | no e ↦ no e ]) ≡ (elim o as (λ _. Out Z) [ ok x t ↦ k x t | no e ↦ no e ])
under (ok x t) n k h = h x t
under (no e) n k h = refl

while-parts : (R : Records) (e : Exp) (mark : Position) (hasv valued : Bool) → valued ≡ hasv → (body : M Lowered) (s : Low)
    → looping R e mark hasv body s ≡ bind (begin_while R e mark valued) (λ r. bind body (λ v. end_while r v valued)) s
while-parts R e mark hasv valued q body s =
    ap (λ (b : Bool). looping R e mark b body s) (sym q)
    ∙ step (emit_at Tick mark s) _ _ _ (λ _ a. step (here a) _ _ _ (λ top b. step (testing R e b) _ _ _ (λ exit c. step (depth c) _ _ _ (λ d f. step (enter_loop top d false valued f) _ _ _ (λ _ g. sym (step (body g) _ _ _ (λ v h. refl)))))))

if-parts : (R : Records) (e : Exp) (body : M Lowered) (has there : Bool) → there ≡ has → (branch : M Lowered) (s : Low)
    → choosing R e body has branch s ≡ bind (begin_if e.number e.at) (λ to_else. bind body (λ v. bind (end_then there v to_else) (λ past. bind branch (λ w. meet v w past)))) s
if-parts R e body has there q branch s =
    ap (λ (b : Bool). choosing R e body b branch s) (sym q)
    ∙ step (residual 1 e.number s) _ _ _ (λ _ a. under (emit_at (JumpIfFalse unset) e.at a) _ _ (λ to_else b. under (body b) _ _ (λ v c. step (jump_if (there || leaves v) c) _ _ _ (λ past d. step (patch_here to_else d) _ _ _ (λ _ f. refl)))))

for-parts : (R : Records) (x : Name) (e : Exp) (mark : Position) (hasv valued : Bool) → valued ≡ hasv → (body : M Lowered) (s : Low)
    → going R x e mark hasv body s
    ≡ bind depth (λ outside. bind (open_iter e.number e.start) (λ _. bind (loop_variable R x) (λ _. bind (begin_for e.at mark outside valued) (λ r. bind body (λ v. end_round r outside v valued))))) s
for-parts R x e mark hasv valued q body s =
    ap (λ (b : Bool). going R x e mark b body s) (sym q)
    ∙ under (depth s) _ _ (λ outside a. step (residual 1 e.number a) _ _ _ (λ _ b. step (emit_at IterInit e.start b) _ _ _ (λ _ c. step (set_iters suc c) _ _ _ (λ _ d. under (may_declare d) _ _ (λ _ f.
    step (name_number R x f) _ _ _ (λ n g. step (emit UnitOp g) _ _ _ (λ _ h. step (emit (DeclareLocal n false false) h) _ _ _ (λ _ i. under (declare x.label i) _ _ (λ _ j.
    step (emit_at Tick mark j) _ _ _ (λ _ k. step (here k) _ _ _ (λ top l. step (emit_at (IterNext unset None) e.at l) _ _ _ (λ exit m. step (emit (StoreShared outside) m) _ _ _ (λ _ o. step (enter_loop top outside true valued o) _ _ _ (λ _ p.
    sym (step (body p) _ _ _ (λ v r. refl))))))))))))))))

try-parts : (R : Records) (x : Option Name) (mark : Position) (body branch : M Lowered) (s : Low)
    → trying R x mark body branch s
    ≡ bind (begin_try R x mark) (λ site. bind body (λ v. bind (end_body R x site) (λ past. bind (begin_catch R x) (λ d. bind branch (λ w. end_caught d v w past))))) s
try-parts R x mark body branch s =
    step (name_any R x s) _ _ _ (λ n a. step (emit_at (PushHandler unset n) mark a) _ _ _ (λ site b. step (set_handlers suc b) _ _ _ (λ _ c. under (body c) _ _ (λ v d.
    step (may_catch R x d) _ _ _ (λ _ f. step (emit PopHandler f) _ _ _ (λ _ g. step (set_handlers pred g) _ _ _ (λ _ h. step (emit (Jump unset) h) _ _ _ (λ past i. step (patch_here site i) _ _ _ (λ _ j. step (set_handlers suc j) _ _ _ (λ _ k.
    step (depth k) _ _ _ (λ o l. step (declare_any R x l) _ _ _ (λ _ m. sym (step (branch m) _ _ _ (λ w p. refl))))))))))))))

-- ## A statement by what its parts gave

module _ (R : Records) (e : Exp) (mark : Position) (hasv valued : Bool) (body : M Lowered) (s : Low) {r : Round (Option ℕ)} {t : Low}
    (q : valued ≡ hasv) (g : begin_while R e mark valued s ≡ ok r t) where
  while-begun : looping R e mark hasv body s ≡ bind body (λ v. end_while r v valued) t
  while-begun = while-parts R e mark hasv valued q body s ∙ on (λ r. bind body (λ v. end_while r v valued)) g

  pub while-no-body : {n : Refusal} → body t ≡ no n → looping R e mark hasv body s ≡ no n
  while-no-body h = while-begun ∙ off (λ v. end_while r v valued) h

  pub while-runs : {v : Lowered} {u : Low} {o : Out Lowered} → body t ≡ ok v u → end_while r v valued u ≡ o → looping R e mark hasv body s ≡ o
  while-runs h l = while-begun ∙ (on (λ v. end_while r v valued) h ∙ l)

pub for-runs : (R : Records) (x : Name) (e : Exp) (mark : Position) (hasv valued : Bool) (body : M Lowered) (s : Low) {d : ℕ} {r : Round ℕ} {v : Lowered} {a b t u w : Low} {o : Out Lowered}
    → valued ≡ hasv → depth s ≡ ok d a → open_iter e.number e.start a ≡ ok tt b → loop_variable R x b ≡ ok tt t → begin_for e.at mark d valued t ≡ ok r u → body u ≡ ok v w
    → end_round r d v valued w ≡ o → going R x e mark hasv body s ≡ o
for-runs R x e mark hasv valued body s {d} {r} {v} q f g h i j l =
    for-parts R x e mark hasv valued q body s
    ∙ (on (λ d. bind (open_iter e.number e.start) (λ _. bind (loop_variable R x) (λ _. bind (begin_for e.at mark d valued) (λ r. bind body (λ v. end_round r d v valued))))) f
    ∙ (on (λ _. bind (loop_variable R x) (λ _. bind (begin_for e.at mark d valued) (λ r. bind body (λ v. end_round r d v valued)))) g
    ∙ (on (λ _. bind (begin_for e.at mark d valued) (λ r. bind body (λ v. end_round r d v valued))) h
    ∙ (on (λ r. bind body (λ v. end_round r d v valued)) i
    ∙ (on (λ v. end_round r d v valued) j ∙ l)))))

-- What is to come after an `if`'s condition and body.
abbrev branching : Bool → M Lowered → Lowered → ℕ → M Lowered
branching there branch v to_else = bind (end_then there v to_else) (λ past. bind branch (λ w. meet v w past))

module _ (R : Records) (e : Exp) (body : M Lowered) (has there : Bool) (branch : M Lowered) (s : Low) {to_else : ℕ} {v : Lowered} {t u : Low}
    (q : there ≡ has) (g : begin_if e.number e.at s ≡ ok to_else t) (h : body t ≡ ok v u) where
  if-body : choosing R e body has branch s ≡ branching there branch v to_else u
  if-body = if-parts R e body has there q branch s ∙ (on (λ n. bind body (λ v. branching there branch v n)) g ∙ on (λ v. branching there branch v to_else) h)

  pub if-no-past : {n : Refusal} → end_then there v to_else u ≡ no n → choosing R e body has branch s ≡ no n
  if-no-past i = if-body ∙ off (λ past. bind branch (λ w. meet v w past)) i

  pub if-no-branch : {past : Option ℕ} {w : Low} {n : Refusal} → end_then there v to_else u ≡ ok past w → branch w ≡ no n → choosing R e body has branch s ≡ no n
  if-no-branch {past} i j = if-body ∙ (on (λ past. bind branch (λ w. meet v w past)) i ∙ off (λ w. meet v w past) j)

  pub if-runs : {past : Option ℕ} {w z : Low} {y : Lowered} {o : Out Lowered} → end_then there v to_else u ≡ ok past w → branch w ≡ ok y z → meet v y past z ≡ o
      → choosing R e body has branch s ≡ o
  if-runs {past} i j l = if-body ∙ (on (λ past. bind branch (λ w. meet v w past)) i ∙ (on (λ w. meet v w past) j ∙ l))

-- What is to come after a `try`'s body.
abbrev catching : Records → Option Name → M Lowered → Lowered → ℕ → M Lowered
catching R x branch v past = bind (begin_catch R x) (λ d. bind branch (λ w. end_caught d v w past))

module _ (R : Records) (x : Option Name) (mark : Position) (body branch : M Lowered) (s : Low) {site : ℕ} {v : Lowered} {t u : Low}
    (g : begin_try R x mark s ≡ ok site t) (h : body t ≡ ok v u) where
  try-body : trying R x mark body branch s ≡ bind (end_body R x site) (λ past. catching R x branch v past) u
  try-body =
      try-parts R x mark body branch s
      ∙ (on (λ n. bind body (λ v. bind (end_body R x n) (λ past. catching R x branch v past))) g ∙ on (λ v. bind (end_body R x site) (λ past. catching R x branch v past)) h)

  pub try-no-past : {n : Refusal} → end_body R x site u ≡ no n → trying R x mark body branch s ≡ no n
  try-no-past i = try-body ∙ off (λ past. catching R x branch v past) i

  module _ {past : ℕ} {w : Low} (i : end_body R x site u ≡ ok past w) where
    try-catch : trying R x mark body branch s ≡ catching R x branch v past w
    try-catch = try-body ∙ on (λ past. catching R x branch v past) i

    pub try-no-catch : {n : Refusal} → begin_catch R x w ≡ no n → trying R x mark body branch s ≡ no n
    try-no-catch j = try-catch ∙ off (λ d. bind branch (λ w. end_caught d v w past)) j

    pub try-not-caught : {d : ℕ} {y : Low} {n : Refusal} → begin_catch R x w ≡ ok d y → branch y ≡ no n → trying R x mark body branch s ≡ no n
    try-not-caught {d} j k = try-catch ∙ (on (λ d. bind branch (λ w. end_caught d v w past)) j ∙ off (λ w. end_caught d v w past) k)

    pub try-runs : {d : ℕ} {y z : Low} {c : Lowered} {o : Out Lowered} → begin_catch R x w ≡ ok d y → branch y ≡ ok c z → end_caught d v c past z ≡ o
        → trying R x mark body branch s ≡ o
    try-runs {d} j k l = try-catch ∙ (on (λ d. bind branch (λ w. end_caught d v w past)) j ∙ (on (λ w. end_caught d v w past) k ∙ l))

-- ## The script stays

-- What a rule gave by the records that are kept it gives by those from before.
pub moved : {X : Type 0} (m : Records → M X) (s t : Script) (x : Low) (o : Out X) → t ≡ s → m (records t) x ≡ o → m (records s) x ≡ o
moved m s t x o q = subst (λ (u : Script). m (records u) x ≡ o) q

-- A block, after other steps.
pub inner-after : (x a : Lowering) (from to : ℕ) {o : Out Lowered} → a.script ≡ x.script → inner (records a.script) from to (low a) ≡ o → inner (records x.script) from to (low a) ≡ o
inner-after x a from to {o} = moved (λ R. inner R from to) x.script a.script (low a) o

-- A refusal that is handed on is the same.
pub refused : {X : Type 0} (m : Out X) (e : Refusal) (r : Result X Refusal) (s : Low) → m ≡ no e → IsErrAnd r (λ y. y ≡ e) → m ≡ outcome r s
refused m e (Ok x) s h q = absurd q
refused m e (Err y) s h q = h ∙ ap no (sym q)
