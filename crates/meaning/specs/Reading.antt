-- What a script asks, what it is fed, and how expressions run in the tree.
use Rattle.std.specs.Prelude.{ℕ, Bool, true, false, cond, ◌&&◌, List, [], ◌∷◌, Some, None, Option, ◌==◌}
use Rattle.records.specs.declared.types.Position.{Position}
use Rattle.records.specs.Tree.{Oper}

-- ## Names and operators

-- A name is its bytes.
abbrev pub Bytes : Type 0
Bytes = List ℕ

abbrev pub same_bytes : Bytes → Bytes → Bool
same_bytes [] [] = true
same_bytes [] (y ∷ ys) = false
same_bytes (x ∷ xs) [] = false
same_bytes (x ∷ xs) (y ∷ ys) = x == y && same_bytes xs ys

-- An operator is a token and a name twice: `op=` and then `op`.
pub record Sign : Type 0 where
  pub token₁ : ℕ
  pub bytes₁ : Bytes
  pub token₂ : ℕ
  pub bytes₂ : Bytes

abbrev pub sign_of : Oper → Sign
sign_of o = record { token₁ = o.token₁; bytes₁ = o.name₁.bytes; token₂ = o.token₂; bytes₂ = o.name₂.bytes }

-- ## Questions and what is fed

pub data Ask : Type 0 where
  -- 1: the value of an expression
  expression : ℕ → Ask
  -- 2: the value of a whole statement, by its node
  statement : ℕ → Ask
  -- 3: the handle of a name that is in no scope
  name : Bytes → Ask
  -- 4: what an operator makes of the old handle and the new one
  combine : Sign → ℕ → ℕ → Ask
  -- 5: assign a handle to a name that is in no scope, under an operator or none
  assign : Bytes → Option Sign → ℕ → Ask
  -- 6: an iterator over a handle
  iterate : ℕ → Ask
  -- 7: the next item of an iterator
  next : ℕ → Ask

-- An answer, or a put: a name and its new handle.
pub data Event : Type 0 where
  value : ℕ → Event
  done : Event
  fault : ℕ → Position → Event
  put : Bytes → ℕ → Event

-- May a question be answered with a value? With done? (A fault answers every question.)
abbrev pub valued : Ask → Bool
valued (expression e) = true
valued (statement i) = true
valued (name b) = true
valued (combine s old new) = true
valued (assign b s new) = false
valued (iterate h) = true
valued (next i) = true

abbrev pub doable : Ask → Bool
doable (expression e) = false
doable (statement i) = false
doable (name b) = false
doable (combine s old new) = false
doable (assign b s new) = true
doable (iterate h) = false
doable (next i) = true

-- ## Scopes

-- What a scope has under a name: a handle, and whether it is constant.
pub record Cell : Type 0 where
  pub handle : ℕ
  pub constant : Bool

abbrev pub Scope : Type 0
Scope = Bytes → Option Cell

abbrev pub no_scope : Scope
no_scope x = None

abbrev pub or_else : Option Cell → Option Cell → Option Cell
or_else None d = d
or_else (Some c) d = Some c

-- The innermost scope that has the name; scopes have the innermost first.
abbrev pub seek : Bytes → List Scope → Option Cell
seek x [] = None
seek x (s ∷ ss) = or_else (s x) (seek x ss)

-- A scope with a name set.
abbrev pub sets : Bytes → Cell → Scope → Scope
sets x c s y = cond (same_bytes y x) (Some c) (s y)

-- The innermost scope is given a name.
abbrev pub declares : Bytes → Cell → List Scope → List Scope
declares x c [] = []
declares x c (s ∷ ss) = sets x c s ∷ ss

-- The innermost handle of a name is set; a constant stays as it is.
abbrev pub rehandled : ℕ → Cell → Cell
rehandled h c = record { handle = cond c.constant c.handle h; constant = c.constant }

abbrev pub sets_in : Bytes → ℕ → Option Cell → Scope → List Scope → List Scope → List Scope
sets_in x h None s ss r = s ∷ r
sets_in x h (Some c) s ss r = sets x (rehandled h c) s ∷ ss

abbrev pub sets_inner : Bytes → ℕ → List Scope → List Scope
sets_inner x h [] = []
sets_inner x h (s ∷ ss) = sets_in x h (s x) s ss (sets_inner x h ss)

-- ## A state that asks

-- What is still to be fed, and the questions asked so far, the newest first.
pub record World : Type 0 where
  pub feed : List Event
  pub asked : List Ask

-- Variables of some sort (scopes for the tree, slots for the player), and the world.
pub record St (E : Type 0) : Type 0 where
  pub env : E
  pub world : World

abbrev pub st : {E : Type 0} → E → World → St E
st e w = record { env = e; world = w }

-- What stands around: the iterators of the `for` loops, the innermost first, and the number of `try` bodies.
pub record Around : Type 0 where
  pub iters : List ℕ
  pub tries : ℕ

-- What comes of a question: a value, done, a fault, or it waits, with what stands around it.
pub data Heard (E : Type 0) : Type 0 where
  value : ℕ → St E → Heard E
  done : St E → Heard E
  fault : ℕ → Position → St E → Heard E
  waits : Ask → Around → St E → Heard E

-- ## Truth

-- A handle as a test: 2 is true, 1 is false, any other neither.
pub data Truth : Type 0 where
  yes no neither : Truth

abbrev pub truth : ℕ → Truth
truth v = cond (v == 1) no (cond (v == 2) yes neither)

-- ## Expressions

-- How an expression runs: unit, true, a question of its own, false, a name's handle, all of some items, any of
-- some items. An item has its position, where its test faults.
mutual
  pub data Reading : Type 0 where
    unit : Reading
    yes : Reading
    opaque : ℕ → Reading
    no : Reading
    name : Bytes → Reading
    all : Items → Reading
    any : Items → Reading

  pub data Items : Type 0 where
    end : Items
    item : Position → Reading → Items → Items

-- What comes of an expression: a value, a fault, or a question that waits.
pub data Got (E : Type 0) : Type 0 where
  got : ℕ → St E → Got E
  bad : ℕ → Position → St E → Got E
  dry : Ask → Around → St E → Got E

-- For a question that done does not answer.
abbrev pub gotten : {E : Type 0} → Heard E → Got E
gotten (value h σ) = got h σ
gotten (done σ) = got 0 σ
gotten (fault h p σ) = bad h p σ
gotten (waits q A σ) = dry q A σ

abbrev pub bind_got : {E : Type 0} → Got E → (ℕ → St E → Got E) → Got E
bind_got (got h σ) k = k h σ
bind_got (bad h p σ) k = bad h p σ
bind_got (dry q A σ) k = dry q A σ

-- An item is tested: the first that decides stops the list.
abbrev pub decides : {E : Type 0} → Truth → Truth → ℕ → Position → St E → Got E → Got E
decides yes yes h p σ rest = got h σ
decides yes no h p σ rest = rest
decides yes neither h p σ rest = rest
decides no yes h p σ rest = rest
decides no no h p σ rest = got h σ
decides no neither h p σ rest = rest
decides neither t h p σ rest = bad 3 p σ

-- Over variables of any sort: how a name is found, and how a put sets it.
module _ {E : Type 0} (find : Bytes → E → Option Cell) (poke : Bytes → ℕ → E → E) where
  -- While a question waits, puts are taken; the first answer that suits it counts.
  abbrev pub hears : Ask → Around → List Event → E → List Ask → Heard E
  hears q A [] e qs = waits q A (st e (record { feed = []; asked = qs }))
  hears q A (value h ∷ f) e qs = cond (valued q) (value h (st e (record { feed = f; asked = qs }))) (hears q A f e qs)
  hears q A (done ∷ f) e qs = cond (doable q) (done (st e (record { feed = f; asked = qs }))) (hears q A f e qs)
  hears q A (fault h p ∷ f) e qs = fault h p (st e (record { feed = f; asked = qs }))
  hears q A (put x h ∷ f) e qs = hears q A f (poke x h e) qs

  abbrev pub asks : Ask → Around → St E → Heard E
  asks q A σ = hears q A σ.world.feed σ.env (q ∷ σ.world.asked)

  -- A read takes the innermost cell, or asks if there is none.
  abbrev pub reads : Option Cell → Bytes → Around → St E → Got E
  reads None x A σ = gotten (asks (name x) A σ)
  reads (Some c) x A σ = got c.handle σ

  -- all of: false decides, handle 1; any of: true decides, handle 2. A list that nothing decides is the other.
  abbrev mutual
    pub reading : Reading → Around → St E → Got E
    reading unit A σ = got 0 σ
    reading yes A σ = got 2 σ
    reading (opaque e) A σ = gotten (asks (expression e) A σ)
    reading no A σ = got 1 σ
    reading (name x) A σ = reads (find x σ.env) x A σ
    reading (all is) A σ = goes_through is no 1 2 A σ
    reading (any is) A σ = goes_through is yes 2 1 A σ

    -- The items from left to right: `on` decides with handle `hit`, the end gives `miss`.
    pub goes_through : Items → Truth → ℕ → ℕ → Around → St E → Got E
    goes_through end on hit miss A σ = got miss σ
    goes_through (item p r is) on hit miss A σ = bind_got (reading r A σ) (λ v σ'. decides (truth v) on hit p σ' (goes_through is on hit miss A σ'))
