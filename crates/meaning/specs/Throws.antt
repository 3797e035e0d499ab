-- A throw: the handlers in catch above the newest armed one are discarded, its heights are restored, it is set in
-- catch, its name is declared, and the player goes to its catch block. With none the script ends.
use Rattle.std.specs.Prelude.{ℕ, ◌-◌, Bool, false, cond, List, [], ◌∷◌, length, drop, Some, None, Option, nat_le, nat_lt}
use Rattle.records.specs.declared.types.Position.{Position}
use Rattle.code.specs.declared.talk.Handler.{Handler}
use Rattle.meaning.specs.Machine.{Mach, Effect, Effect.goto, Effect.fault, Effect.stuck, add, cut, with_handlers, with_slots}

-- The oldest d of a list that has the newest first.
abbrev pub keep {ℓ} : {A : Type ℓ} → ℕ → List A → List A
keep d xs = drop (length xs - d) xs

-- From the newest armed handler on.
abbrev pub roused : List Handler → List Handler
roused [] = []
roused (h ∷ hs) = cond h.armed (h ∷ hs) (roused hs)

-- A handler in catch.
abbrev pub caught : Handler → Handler
caught h = record { armed = false; target = h.target; name = h.name; values = h.values; slots = h.slots; iters = h.iters }

-- The heights that a handler recorded.
abbrev pub restored : Handler → List Handler → Mach → Mach
restored h hs m = record { values = keep h.values m.values; iters = keep h.iters m.iters; handlers = caught h ∷ hs; slots = cut h.slots m.slots }

-- The catch name is a new slot that holds the fault's handle.
abbrev pub naming : Option ℕ → ℕ → ℕ → Mach → Effect
naming None t v m = goto t m
naming (Some x) t v m =
    cond (nat_lt (length m.slots.live) m.slots.room)
    (goto t (with_slots (add (record { name = x; handle = v; constant = false }) m.slots) m))
    stuck

-- No height may lie above the present one.
abbrev pub fitting : Handler → Mach → Bool
fitting h m = cond (nat_le h.values (length m.values)) (cond (nat_le h.slots (length m.slots.live)) (nat_le h.iters (length m.iters)) false) false

abbrev pub landing : List Handler → ℕ → Position → Mach → Effect
landing [] v p m = fault v p (with_handlers [] m)
landing (h ∷ hs) v p m = cond (fitting h m) (naming h.name h.target v (restored h hs m)) stuck

-- A fault looks for its handler.
abbrev pub catches : ℕ → Position → Mach → Effect
catches v p m = landing (roused m.handlers) v p m
