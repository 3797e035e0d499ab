-- The tree's run waits only where everything fed was taken.
use Rattle.std.proofs.Common.{◌≡◌, ℕ, zero, suc, Bool, true, false, cond, List, [], ◌∷◌, length, Some, None, Option, refl}
use Rattle.records.specs.declared.types.Position.{Position}
use Rattle.records.specs.Tree.{Exp, Oper, Head, Head.noop, Head.var, Head.expr, Head.call, Head.assign, Head.other, Head.block, Head.try, Head.for, Head.if, Head.while, Head.do_loop, Head.break, Head.continue, Head.return, Head.throw, Tree.node, Forest.nil, Forest.more, Stmt, Block}
use Rattle.meaning.specs.Reading.{Bytes, sign_of, Ask, Ask.name as ask_name, Ask.expression, Ask.statement, Ask.combine, Ask.assign as assign_to, Ask.iterate, Ask.next, Event, Event.value as fed_value, Event.done as fed_done, Event.fault as fed_fault, Event.put as fed_put, Cell, seek, sets_inner, St as StOf, st, Around, Heard as HeardOf, Heard.value as heard, Heard.done as over, Heard.fault as fails, Heard.waits as idle, valued, doable, hears, asks as asks_of, reads, Truth, Truth.yes, Truth.no, Truth.neither, truth, decides, Reading, Reading.unit, Reading.yes as true', Reading.opaque, Reading.no as false', Reading.name, Reading.all, Reading.any, Items, Items.end, Items.item, reading as reading_of, goes_through, Got as GotOf, Got.got, Got.bad, Got.dry, gotten, bind_got}
use Rattle.meaning.specs.Run.{St, Heard, Got, asks, Out, Out.value, Out.broke, Out.continued, Out.returned, Out.fault, Out.waits, Out.spent, bind_g, bind_v, bind_n, opened, declared, closing, test, round_on, again, rounds, catching, in_for, in_try, Running, scoped, naming, setting, signed, combining, assigning, endless, evaluate, evaluate_any, while_round, run_head, run, run_list, outermost, run_script}

-- ## Questions and expressions

abbrev HeardAll : {E : Type 0} → HeardOf E → Type 0
HeardAll (heard v σ) = Unit {0}
HeardAll (over σ) = Unit {0}
HeardAll (fails h p σ) = Unit {0}
HeardAll (idle q A σ) = σ.world.feed ≡ []

abbrev GotAll : {E : Type 0} → GotOf E → Type 0
GotAll (got v σ) = Unit {0}
GotAll (bad h p σ) = Unit {0}
GotAll (dry q A σ) = σ.world.feed ≡ []

gotten-all : {E : Type 0} (h : HeardOf E) → HeardAll h → GotAll (gotten h)
gotten-all (heard v σ) z = tt
gotten-all (over σ) z = tt
gotten-all (fails h p σ) z = tt
gotten-all (idle q A σ) z = z

module _ {E : Type 0} (find : Bytes → E → Option Cell) (poke : Bytes → ℕ → E → E) where
  hears-all : (q : Ask) (A : Around) (f : List Event) (e : E) (qs : List Ask) → HeardAll (hears find poke q A f e qs)
  hears-all q A [] e qs = refl
  hears-all q A (fed_value h ∷ f) e qs = go (valued q) (hears-all q A f e qs)
    where
      go : (b : Bool) → HeardAll (hears find poke q A f e qs) → HeardAll (cond b (heard h (st e (record { feed = f; asked = qs }))) (hears find poke q A f e qs))
      go true z = tt
      go false z = z
  hears-all q A (fed_done ∷ f) e qs = go (doable q) (hears-all q A f e qs)
    where
      go : (b : Bool) → HeardAll (hears find poke q A f e qs) → HeardAll (cond b (over (st e (record { feed = f; asked = qs }))) (hears find poke q A f e qs))
      go true z = tt
      go false z = z
  hears-all q A (fed_fault h p ∷ f) e qs = tt
  hears-all q A (fed_put x h ∷ f) e qs = hears-all q A f (poke x h e) qs

  asks-all : (q : Ask) (A : Around) (σ : StOf E) → HeardAll (asks_of find poke q A σ)
  asks-all q A σ = hears-all q A σ.world.feed σ.env (q ∷ σ.world.asked)

  bind_got-all : (g : GotOf E) (k : ℕ → StOf E → GotOf E) → GotAll g → ((v : ℕ) (σ : StOf E) → GotAll (k v σ)) → GotAll (bind_got g k)
  bind_got-all (got v σ) k z y = y v σ
  bind_got-all (bad h p σ) k z y = tt
  bind_got-all (dry q A σ) k z y = z

  decides-all : (t on : Truth) (h : ℕ) (p : Position) (σ : StOf E) (g : GotOf E) → GotAll g → GotAll (decides t on h p σ g)
  decides-all yes yes h p σ g z = tt
  decides-all yes no h p σ g z = z
  decides-all yes neither h p σ g z = z
  decides-all no yes h p σ g z = z
  decides-all no no h p σ g z = tt
  decides-all no neither h p σ g z = z
  decides-all neither on h p σ g z = tt

  reads_all : (o : Option Cell) (x : Bytes) (A : Around) (σ : StOf E) → GotAll (reads find poke o x A σ)
  reads_all None x A σ = gotten-all (asks_of find poke (ask_name x) A σ) (asks-all (ask_name x) A σ)
  reads_all (Some c) x A σ = tt

  mutual
    reading-all : (r : Reading) (A : Around) (σ : StOf E) → GotAll (reading_of find poke r A σ)
    reading-all unit A σ = tt
    reading-all true' A σ = tt
    reading-all (opaque e) A σ = gotten-all (asks_of find poke (expression e) A σ) (asks-all (expression e) A σ)
    reading-all false' A σ = tt
    reading-all (name x) A σ = reads_all (find x σ.env) x A σ
    reading-all (all is) A σ = items-all is no 1 2 A σ
    reading-all (any is) A σ = items-all is yes 2 1 A σ

    items-all : (is : Items) (on : Truth) (hit miss : ℕ) (A : Around) (σ : StOf E) → GotAll (goes_through find poke is on hit miss A σ)
    items-all end on hit miss A σ = tt
    items-all (item p r is) on hit miss A σ =
        bind_got-all (reading_of find poke r A σ) (λ v σ'. decides (truth v) on hit p σ' (goes_through find poke is on hit miss A σ'))
        (reading-all r A σ) (λ v σ'. decides-all (truth v) on hit p σ' (goes_through find poke is on hit miss A σ') (items-all is on hit miss A σ'))

-- ## Statements

-- Where a run waits, nothing is left to feed.
abbrev pub Idle : Out → Type 0
Idle (value v σ) = Unit {0}
Idle (broke v σ) = Unit {0}
Idle (continued σ) = Unit {0}
Idle (returned v σ) = Unit {0}
Idle (fault h p σ) = Unit {0}
Idle (waits q A σ) = σ.world.feed ≡ []
Idle spent = Unit {0}

bind_g-idle : (g : Got) (k : ℕ → St → Out) → GotAll g → ((v : ℕ) (σ : St) → Idle (k v σ)) → Idle (bind_g g k)
bind_g-idle (got v σ) k z y = y v σ
bind_g-idle (bad h p σ) k z y = tt
bind_g-idle (dry q A σ) k z y = z

-- A question, and what follows on its value.
asks-idle : (q : Ask) (A : Around) (σ : St) (k : ℕ → St → Out) → ((v : ℕ) (σ' : St) → Idle (k v σ')) → Idle (bind_g (gotten (asks q A σ)) k)
asks-idle q A σ k y = bind_g-idle (gotten (asks q A σ)) k (gotten-all (asks q A σ) (asks-all seek sets_inner q A σ)) y

bind_v-idle : (r : Out) (k : ℕ → St → Out) → Idle r → ((v : ℕ) (σ : St) → Idle (k v σ)) → Idle (bind_v r k)
bind_v-idle (value v σ) k z y = y v σ
bind_v-idle (broke v σ) k z y = tt
bind_v-idle (continued σ) k z y = tt
bind_v-idle (returned v σ) k z y = tt
bind_v-idle (fault h p σ) k z y = tt
bind_v-idle (waits q A σ) k z y = z
bind_v-idle spent k z y = tt

bind_n-idle : (h : Heard) (k : ℕ → St → Out) → HeardAll h → ((v : ℕ) (σ : St) → Idle (k v σ)) → Idle (bind_n h k)
bind_n-idle (heard v σ) k z y = y v σ
bind_n-idle (over σ) k z y = tt
bind_n-idle (fails h p σ) k z y = tt
bind_n-idle (idle q A σ) k z y = z

closing-idle : (d : ℕ) (r : Out) → Idle r → Idle (closing d r)
closing-idle d (value v σ) z = tt
closing-idle d (broke v σ) z = tt
closing-idle d (continued σ) z = tt
closing-idle d (returned v σ) z = tt
closing-idle d (fault h p σ) z = tt
closing-idle d (waits q A σ) z = z
closing-idle d spent z = tt

test-idle : (t : Truth) (p : Position) (σ : St) (a b : Out) → Idle a → Idle b → Idle (test t p σ a b)
test-idle yes p σ a b y z = y
test-idle no p σ a b y z = z
test-idle neither p σ a b y z = tt

round_on-idle : (u : Bool) (t : Truth) (p : Position) (σ : St) → Idle (round_on u t p σ)
round_on-idle false yes p σ = tt
round_on-idle false no p σ = tt
round_on-idle true yes p σ = tt
round_on-idle true no p σ = tt
round_on-idle false neither p σ = tt
round_on-idle true neither p σ = tt

again-idle : (r : Out) (k : St → Out) → Idle r → ((σ : St) → Idle (k σ)) → Idle (again r k)
again-idle (value v σ) k z y = y σ
again-idle (broke v σ) k z y = tt
again-idle (continued σ) k z y = y σ
again-idle (returned v σ) k z y = tt
again-idle (fault h p σ) k z y = tt
again-idle (waits q A σ) k z y = z
again-idle spent k z y = tt

rounds-idle : (body : ℕ → St → Out) → ((n : ℕ) (σ : St) → Idle (body n σ)) → (n : ℕ) (σ : St) → Idle (rounds body n σ)
rounds-idle body z zero σ = tt
rounds-idle body z (suc n) σ = again-idle (body n σ) (rounds body n) (z n σ) (rounds-idle body z n)

catching-idle : (r : Out) (k : ℕ → St → Out) → Idle r → ((h : ℕ) (σ : St) → Idle (k h σ)) → Idle (catching r k)
catching-idle (value v σ) k z y = tt
catching-idle (broke v σ) k z y = tt
catching-idle (continued σ) k z y = tt
catching-idle (returned v σ) k z y = tt
catching-idle (fault h p σ) k z y = y h σ
catching-idle (waits q A σ) k z y = z
catching-idle spent k z y = tt

combining-idle : (o : Option Oper) (x : Bytes) (v : ℕ) (c : Cell) (A : Around) (σ : St) → Idle (combining o x v c A σ)
combining-idle None x v c A σ = tt
combining-idle (Some o) x v c A σ = asks-idle (combine (sign_of o) c.handle v) A σ (setting x) (λ w σ'. tt)

assigning-idle : (d : Option Cell) (o : Option Oper) (x : Bytes) (v : ℕ) (p : Position) (A : Around) (σ : St) → Idle (assigning d o x v p A σ)
assigning-idle None o x v p A σ = asks-idle (assign_to x (signed o) v) A σ (λ u σ'. value 0 σ') (λ u σ'. tt)
assigning-idle (Some c) o x v p A σ = go c.constant (combining-idle o x v c A σ)
  where
    go : (b : Bool) → Idle (combining o x v c A σ) → Idle (cond b (fault 4 p σ) (combining o x v c A σ))
    go true z = tt
    go false z = z

abbrev AlwaysIdle : Running → Type 0
AlwaysIdle b = (A : Around) (n : ℕ) (σ : St) → Idle (b A n σ)

scoped-idle : (b : Running) → AlwaysIdle b → AlwaysIdle (scoped b)
scoped-idle b z A n σ = closing-idle (length σ.env) (b A n (opened σ)) (z A n (opened σ))

module _ (ρ : ℕ → Reading) where
  evaluate-idle : (e : Exp) (A : Around) (σ : St) (k : ℕ → St → Out) → ((v : ℕ) (σ' : St) → Idle (k v σ')) → Idle (bind_g (evaluate ρ e A σ) k)
  evaluate-idle e A σ k y = bind_g-idle (evaluate ρ e A σ) k (reading-all seek sets_inner (ρ e.number) A σ) y

  evaluate_any-idle : (e : Option Exp) (A : Around) (σ : St) (k : ℕ → St → Out) → ((v : ℕ) (σ' : St) → Idle (k v σ')) → Idle (bind_g (evaluate_any ρ e A σ) k)
  evaluate_any-idle None A σ k y = y 0 σ
  evaluate_any-idle (Some e) A σ k y = evaluate-idle e A σ k y

  while_round-idle : (t : Bool) (e : Exp) (body : Running) → AlwaysIdle body → AlwaysIdle (while_round ρ t e body)
  while_round-idle true e body z A n σ = scoped-idle body z A n σ
  while_round-idle false e body z A n σ = evaluate-idle e A σ _ (λ v σ'. test-idle (truth v) e.at σ' (scoped body A n σ') (broke 0 σ') (scoped-idle body z A n σ') tt)

  head-idle : (h : Head) (body branch : Running) → AlwaysIdle body → AlwaysIdle branch → AlwaysIdle (run_head ρ h body branch)
  head-idle noop body branch y z A n σ = tt
  head-idle (var k x e r) body branch y z A n σ = evaluate-idle e A σ _ (λ v σ'. tt)
  head-idle (expr e) body branch y z A n σ = evaluate-idle e A σ _ (λ v σ'. tt)
  head-idle (call x i) body branch y z A n σ = asks-idle (statement i) A σ _ (λ v σ'. tt)
  head-idle (assign x e o at mark) body branch y z A n σ = evaluate-idle e A σ _ (λ v σ'. assigning-idle (seek x.bytes σ'.env) o x.bytes v at A σ')
  head-idle (other i) body branch y z A n σ = asks-idle (statement i) A σ _ (λ v σ'. tt)
  head-idle block body branch y z A n σ = scoped-idle body y A n σ
  head-idle (try x mark) body branch y z A n σ =
      catching-idle (scoped body (in_try A) n σ) _ (scoped-idle body y (in_try A) n σ)
      (λ h σ'. closing-idle (length σ'.env) _ (bind_v-idle (scoped branch A n (naming x h (opened σ'))) _ (scoped-idle branch z A n (naming x h (opened σ'))) (λ v σ''. tt)))
  head-idle (for x e mark) body branch y z A n σ =
      evaluate-idle e A σ _ (λ v σ₁. asks-idle (iterate v) A σ₁ _ (λ it σ₂. closing-idle (length σ₂.env) _
      (rounds-idle _ (λ k σ₃. bind_n-idle (asks (next it) (in_for it A) σ₃) _ (asks-all seek sets_inner (next it) (in_for it A) σ₃) (λ u σ₄. scoped-idle body y (in_for it A) k (declared x.bytes u false σ₄))) n (declared x.bytes 0 false (opened σ₂)))))
  head-idle (if e) body branch y z A n σ = evaluate-idle e A σ _ (λ v σ'. test-idle (truth v) e.at σ' (scoped body A n σ') (scoped branch A n σ') (scoped-idle body y A n σ') (scoped-idle branch z A n σ'))
  head-idle (while e mark) body branch y z A n σ = rounds-idle (while_round ρ (endless e) e body A) (while_round-idle (endless e) e body y A) n σ
  head-idle (do_loop until e mark) body branch y z A n σ =
      rounds-idle _ (λ k σ₁. bind_v-idle (scoped body A k σ₁) _ (scoped-idle body y A k σ₁) (λ w σ₂. evaluate-idle e A σ₂ _ (λ v σ₃. round_on-idle until (truth v) e.at σ₃))) n σ
  head-idle (break e) body branch y z A n σ = evaluate_any-idle e A σ _ (λ v σ'. tt)
  head-idle continue body branch y z A n σ = tt
  head-idle (return e) body branch y z A n σ = evaluate_any-idle e A σ _ (λ v σ'. tt)
  head-idle (throw e at) body branch y z A n σ = evaluate_any-idle e A σ _ (λ v σ'. tt)

  mutual
    run-idle : (s : Stmt) → AlwaysIdle (run ρ s)
    run-idle (node h B C) = head-idle h (run_list ρ B 0) (run_list ρ C 0) (list-idle B 0) (list-idle C 0)

    list-idle : (b : Block) (v : ℕ) → AlwaysIdle (run_list ρ b v)
    list-idle nil v A n σ = tt
    list-idle (more s b) v A n σ = bind_v-idle (run ρ s A n σ) (λ u σ'. run_list ρ b u A n σ') (run-idle s A n σ) (λ u σ'. list-idle b u A n σ')

  -- A script's run waits only with nothing left to feed.
  pub script-idle : (B : Block) (f : List Event) (n : ℕ) → Idle (run_script ρ B f n)
  script-idle B f n = list-idle B 0 (outermost ρ) n _
