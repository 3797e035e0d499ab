-- Walks of the fed player: its moves are a function, so whatever it walks to lies on the one path from where it starts.
use Rattle.std.proofs.Common.{◌≡◌, ℕ, suc, List, Some, None, Option, refl, ap, subst, arith}
use Rattle.code.specs.declared.ops.Instr.{Instr}
use Rattle.code.specs.declared.ops.Row.{Row}
use Rattle.meaning.specs.Fed.{Tables, Conf, move, Comes, Comes.here, Comes.then, Goes}

-- What is none is not some, and is some in one way.
pub none-some : {A : Type 0} {o : Option A} {a : A} → o ≡ None → o ≡ Some a → ⊥
none-some p q = let z : ◌≡◌ {A = ℕ} 0 1 = cc in omega arith

pub same_move : {A : Type 0} {o : Option A} {a b : A} → o ≡ Some a → o ≡ Some b → a ≡ b
same_move p q = cc

module _ (code : List Instr) (rows : List Row) (T : Tables) where
  -- By moves from c to d.
  pub data Walk : Conf → Conf → Type 0 where
    stay : {c : Conf} → Walk c c
    go : {c d e : Conf} → move code rows T c ≡ Some d → Walk d e → Walk c e

  pub onward : {c d e : Conf} → Walk c d → Walk d e → Walk c e
  onward stay v = v
  onward (go e w) v = go e (onward w v)

  -- So many moves more than a walk has.
  abbrev pub beyond : {c d : Conf} → Walk c d → ℕ → ℕ
  beyond stay n = n
  beyond (go e w) n = suc (beyond w n)

  pub beyond-suc : {c d : Conf} (w : Walk c d) (n : ℕ) → beyond w (suc n) ≡ suc (beyond w n)
  beyond-suc stay n = refl
  beyond-suc (go e w) n = ap suc (beyond-suc w n)

  module _ (I : Conf → Type 0) where
    -- What goes on for longer than a walk goes on from its end.
    pub goes_on : {c d : Conf} (w : Walk c d) (n : ℕ) → Goes code rows T I (beyond w n) c → Goes code rows T I n d
    goes_on stay n g = g
    goes_on (go e w) n g = goes_on w n (subst (λ c. Goes code rows T I (beyond w n) c) (same_move g.2 e) g.3)

    -- Where there is no move from a state of Q, what comes to one comes to it from the end of every walk.
    pub comes-on : (Q : Conf → Type 0) → ((c : Conf) → Q c → move code rows T c ≡ None) → {c d : Conf} → Walk c d → Comes code rows T I Q c → Comes code rows T I Q d
    comes-on Q f stay t = t
    comes-on Q f (go e w) (here q) = absurd (none-some (f _ q) e)
    comes-on Q f (go e w) (then i m t) = comes-on Q f w (subst (Comes code rows T I Q) (same_move m e) t)

    -- Without a move it is there already.
    pub comes-here : (Q : Conf → Type 0) → {c : Conf} → move code rows T c ≡ None → Comes code rows T I Q c → Q c
    comes-here Q e (here q) = q
    comes-here Q e (then i m t) = absurd (none-some e m)

    -- With one it is a state on the way.
    pub comes-through : (Q : Conf → Type 0) → ((c : Conf) → Q c → move code rows T c ≡ None) → {c d : Conf} → move code rows T c ≡ Some d → Comes code rows T I Q c → I c
    comes-through Q f e (here q) = absurd (none-some (f _ q) e)
    comes-through Q f e (then i m t) = i

    pub comes-map : (P Q : Conf → Type 0) → ((c : Conf) → P c → Q c) → {c : Conf} → Comes code rows T I P c → Comes code rows T I Q c
    comes-map P Q f (here p) = here (f _ p)
    comes-map P Q f (then i m t) = then i m (comes-map P Q f t)
