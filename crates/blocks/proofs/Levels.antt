-- A block: its level is entered, kept inside, and left.
use Rattle.std.proofs.Common.{◌≡◌, ℕ, suc, ◌+◌, Bool, true, false, ◌&&◌, length, reverse, ◌==◌, refl, sym, ap, ◌∙◌, add-one, arith, ne_eqb}
use Rattle.records.specs.declared.refusals.Refusal.{Refusal}
use Rattle.records.specs.Tree.{Records, records}
use Rattle.records.specs.Accepts.{block_from}
use Rattle.code.specs.declared.shapes.Lowered.{Lowered}
use Rattle.code.specs.declared.shapes.Lowered.TheVariants.{Empty}
use Rattle.meaning.specs.LowerState.{Low, Level, Out, Out.ok, Out.no, M, ret, bind, depth, with_block, enter_block, leave_block}
use Rattle.meaning.specs.Lower.{unwind_to, lower_list}
use Rattle.stack64.specs.Listed.{listed}
use Rattle.tables.specs.Stacks.{contents}
use Rattle.lowering.specs.declared.state.Level.{Level as LevelRecord}
use Rattle.lowering.specs.declared.state.Lowering.{Lowering}
use Rattle.lowering.specs.Fit.{most, most_slots}
use Rattle.lowering.specs.View.{Parts, parts, low, level_of}
use Rattle.blocks.proofs.Steps.{on, off}
use Rattle.blocks.specs.Whole.{inner, keeping}

-- The state by its parts.
abbrev pub low_of : Parts → Low
low_of p =
    record { code = contents most p.code.now; rows = contents most p.rows.now; names = contents most p.names.now; opers = contents most p.operators.now; slots = contents most_slots p.slots.now; breaks = contents most p.breaks.now; loops = reverse (listed p.loops); iters = p.iters; handlers = p.handlers; block = level_of p.block; limit = p.limit; deepest = p.deepest }

-- The level inside, from so many slots on.
abbrev pub deeper : Lowering → ℕ → LevelRecord
deeper c base = record { level = c.block.level + 1; base = base }

-- The level is another.
left : (c d : Lowering) (l : LevelRecord) → parts d ≡ record (parts c) { block = l } → leave_block (level_of l) (low c) ≡ ok tt (low d)
unfolding low leave_block
left c d l q = ap (λ (p : Parts). ok tt (low_of p)) (sym q)

-- A block by what its statements gave, which keep no scope.
module _ (c : Lowering) (from to base d : ℕ) (f : depth (low c) ≡ ok d (low c)) (g : base ≡ length (contents most_slots c.slots.now).held) where
  abbrev R : Records
  R = records c.script

  -- The state as the statements begin.
  abbrev begun : Low
  begun = low_of (record (parts c) { block = deeper c base })

  entered : enter_block (low c) ≡ ok (level_of c.block) begun
  unfolding low enter_block
  entered = ap (λ (l : Level). ok (level_of c.block) (with_block l (low c))) inside
    where
      inside : ◌≡◌ {A = Level} (record { level = suc c.block.level; base = length (contents most_slots c.slots.now).held }) (level_of (deeper c base))
      inside = rw (add-one, ← g) refl

  abbrev body : M Lowered
  body = lower_list R false Empty (block_from R from to)

  abbrev ending : M Lowered
  ending = lower_list R (keeping R (deeper c base)) Empty (block_from R from to)

  not-kept : body begun ≡ ending begun
  not-kept = ap (λ (k : Bool). lower_list R k Empty (block_from R from to) begun) (go R.keep)
    where
      go : (b : Bool) → false ≡ (b && (c.block.level + 1) == 0)
      go true = sym (ne_eqb (c.block.level + 1) 0 (λ e. omega arith))
      go false = refl

  abbrev leaving : Lowered → M Lowered
  leaving v = bind (unwind_to d) (λ _. bind (leave_block (level_of c.block)) (λ _. ret v))

  block-inside : inner R from to (low c) ≡ bind ending leaving begun
  block-inside =
      on (λ n. bind enter_block (λ l. bind body (λ v. bind (unwind_to n) (λ _. bind (leave_block l) (λ _. ret v))))) f
      ∙ (on (λ l. bind body (λ v. bind (unwind_to d) (λ _. bind (leave_block l) (λ _. ret v)))) entered
      ∙ ap (λ (o : Out Lowered). elim o as (λ _. Out Lowered) [ ok v t ↦ leaving v t | no e ↦ no e ]) not-kept)

  pub block-refused : {n : Refusal} → ending begun ≡ no n → inner R from to (low c) ≡ no n
  block-refused h = block-inside ∙ off leaving h

  module _ {v : Lowered} {t : Low} (h : ending begun ≡ ok v t) where
    pub block-not-unwound : {n : Refusal} → unwind_to d t ≡ no n → inner R from to (low c) ≡ no n
    block-not-unwound i = block-inside ∙ (on leaving h ∙ off (λ _. bind (leave_block (level_of c.block)) (λ _. ret v)) i)

    pub block-runs : (a b : Lowering) → unwind_to d t ≡ ok tt (low a) → parts b ≡ record (parts a) { block = c.block } → inner R from to (low c) ≡ ok v (low b)
    block-runs a b i j = block-inside ∙ (on leaving h ∙ (on (λ _. bind (leave_block (level_of c.block)) (λ _. ret v)) i ∙ on (λ _. ret v) (left a b c.block j)))
