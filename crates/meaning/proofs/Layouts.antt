-- Where set code stands, and what a fed player has to do: the goal of the simulation.
use Rattle.std.proofs.Common.{◌≡◌, ℕ, suc, ◌+◌, ◌<◌, ◌≤◌, Bool, true, false, List, [], length, get_or, Some}
use Rattle.records.specs.Tree.{Block}
use Rattle.code.specs.declared.ops.Instr.{Instr}
use Rattle.code.specs.declared.ops.Row.{Row}
use Rattle.code.specs.declared.talk.Question.{Question}
use Rattle.code.specs.declared.talk.Purpose.{Purpose}
use Rattle.code.specs.declared.talk.End.TheVariants.{Value as Gives, Fault as Faults}
use Rattle.meaning.specs.Machine.{Mach, no_row}
use Rattle.meaning.specs.Calls.{State, State.ready, State.waits, State.ended, State.halted, instr_at, empty}
use Rattle.meaning.specs.Reading.{Event}
use Rattle.meaning.specs.Run.{Out, Out.value, Out.broke, Out.continued, Out.returned, Out.fault, Out.waits as idles, Out.spent, run_script}
use Rattle.meaning.specs.Fed.{Tables, name_at, sign_at, number_of, in_words, Conf, conf, Comes, Goes}
use Rattle.meaning.specs.Writer.{Writer, Lawful, Holds}
use Rattle.meaning.specs.Agreement.{Heights, heights_of, armed, Alike}
use Rattle.meaning.proofs.Place.{Layout, CodeScript, deep_list}

module _ (code : List Instr) (rows : List Row) (T : Tables) (W : Writer) (room : ℕ) (H : ℕ → Heights) (outside : ℕ → Bool) where
  -- Set code: operations outside segments have heights, an expression is its segment.
  abbrev pub set_layout : Layout
  set_layout = record {
    Op' = λ o p h a b. (instr_at code a ≡ record { op = o; at = p }) × (suc a ≡ b) × (H a ≡ h);
    Exp' = λ e a b. (W.known e ≡ true) × Holds code a a (W.segment e) × (a + length (W.segment e) ≡ b) × ((i : ℕ) → a ≤ i → i < b → outside i ≡ false);
    Name' = λ x b. (x < length T.names) × (name_at T x ≡ b);
    Oper' = λ r s. sign_at T r ≡ s;
    Row' = λ r i. (r < length rows) × (get_or rows r no_row ≡ record { kind = 2; number = i });
    Room' = λ n. n < room;
  }

  -- An operation outside a segment is met at its heights.
  abbrev pub Level : State → Type 0
  Level (ready i m) = outside i ≡ true → heights_of m ≡ H i
  Level (waits q u i m) = Unit {0}
  Level (ended e) = Unit {0}
  Level halted = ⊥

  -- What a fed player has to do, by what the tree's run with at most n rounds comes to.
  abbrev pub Follows : ℕ → Out → Conf → Type 0
  Follows n (value v σ) c = Comes code rows T (λ d. Level d.state) (λ d. d ≡ conf (ended (Gives v)) σ.world) c
  Follows n (broke v σ) c = ⊥
  Follows n (continued σ) c = ⊥
  Follows n (returned v σ) c = Comes code rows T (λ d. Level d.state) (λ d. d ≡ conf (ended (Gives v)) σ.world) c
  Follows n (fault h p σ) c = Comes code rows T (λ d. Level d.state) (λ d. d ≡ conf (ended (Faults h p)) σ.world) c
  Follows n (idles q A σ) c = Comes code rows T (λ d. Level d.state)
      (λ d. (k : Question) × (u : Purpose) × (i : ℕ) × (m : Mach) × (d ≡ conf (waits k u i m) σ.world) × (in_words T k ≡ q) × Alike T σ.env m.slots × (m.iters ≡ A.iters) × (armed m.handlers ≡ A.tries)) c
  Follows n spent c = Goes code rows T (λ d. Level d.state) (suc n) c

  -- The simulation: wherever a script's code stands, the fed player follows the tree.
  abbrev pub Simulation : Type 0
  Simulation =
      (exprs : ℕ) (k : Bool) (B : Block) → Lawful T exprs W → ((x : ℕ) → x < length T.names → number_of T (name_at T x) ≡ Some x)
      → deep_list B ≤ 64 → CodeScript set_layout k B
      → (f : List Event) (n : ℕ) → Follows n (run_script W.reading B f n) (conf (ready 0 (empty room)) (record { feed = f; asked = [] }))
