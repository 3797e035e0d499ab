-- The statements of a block: its first, and then those after it.
use Rattle.std.proofs.Common.{◌≡◌, ℕ, ◌<◌, ◌≤◌, Bool, length, nat_lt, inl, inr, ap, sym, ◌∙◌, lt-ltb, le-ltb}
use Rattle.std.proofs.lemmas.Bool.{cases_lt}
use Rattle.records.specs.declared.refusals.Refusal.{Refusal}
use Rattle.records.specs.Tree.{Records, Block, node_at}
use Rattle.records.specs.Accepts.{Sound, block_from, stmt_from}
use Rattle.records.proofs.Blocks.{block_none, block_more}
use Rattle.code.specs.declared.shapes.Lowered.{Lowered}
use Rattle.code.specs.declared.ops.Op.TheVariants.{Pop, Checkpoint}
use Rattle.meaning.specs.LowerState.{Low, Out.ok, Out.no, M, bind}
use Rattle.meaning.specs.Lower.{some, leaves, emit_if, lower, lower_list}
use Rattle.blocks.proofs.Steps.{on, off}

-- A range has statements if its start is before its end.
pub some-is : (R : Records) → Sound R → (a b : ℕ) → b ≤ length R.nodes → nat_lt a b ≡ some R (block_from R a b)
some-is R h a b w = elim (cases_lt a b) [
  | inl l ↦ lt-ltb a b l ∙ sym (ap (some R) (block_more R h a b l w))
  | inr l ↦ le-ltb a b l ∙ sym (ap (some R) (block_none R a b l))
]

module _ (R : Records) (keep : Bool) (v : Lowered) (a b : ℕ) (s : Low) where
  -- No statements are left.
  pub list-over : b ≤ a → lower_list R keep v (block_from R a b) s ≡ ok v s
  list-over l = ap (λ (f : Block). lower_list R keep v f s) (block_none R a b l)

  module _ (sound : Sound R) (l : a < b) (w : b ≤ length R.nodes) where
    abbrev rest : Lowered → M Lowered
    rest x = lower_list R keep x (block_from R (node_at R a).end b)

    list-first : lower_list R keep v (block_from R a b) s ≡ bind (emit_if (leaves v) Pop) (λ _. bind (emit_if keep Checkpoint) (λ _. bind (lower R (stmt_from R a)) rest)) s
    list-first = ap (λ (f : Block). lower_list R keep v f s) (block_more R sound a b l w)

    pub list-not-popped : {n : Refusal} → emit_if (leaves v) Pop s ≡ no n → lower_list R keep v (block_from R a b) s ≡ no n
    list-not-popped g = list-first ∙ off (λ _. bind (emit_if keep Checkpoint) (λ _. bind (lower R (stmt_from R a)) rest)) g

    module _ {t : Low} (g : emit_if (leaves v) Pop s ≡ ok tt t) where
      list-popped : lower_list R keep v (block_from R a b) s ≡ bind (emit_if keep Checkpoint) (λ _. bind (lower R (stmt_from R a)) rest) t
      list-popped = list-first ∙ on (λ _. bind (emit_if keep Checkpoint) (λ _. bind (lower R (stmt_from R a)) rest)) g

      pub list-no-checkpoint : {n : Refusal} → emit_if keep Checkpoint t ≡ no n → lower_list R keep v (block_from R a b) s ≡ no n
      list-no-checkpoint h = list-popped ∙ off (λ _. bind (lower R (stmt_from R a)) rest) h

      module _ {u : Low} (h : emit_if keep Checkpoint t ≡ ok tt u) where
        pub list-refused : {n : Refusal} → lower R (stmt_from R a) u ≡ no n → lower_list R keep v (block_from R a b) s ≡ no n
        list-refused i = list-popped ∙ (on (λ _. bind (lower R (stmt_from R a)) rest) h ∙ off rest i)

        pub list-goes-on : {x : Lowered} {z : Low} → lower R (stmt_from R a) u ≡ ok x z → lower_list R keep v (block_from R a b) s ≡ lower_list R keep x (block_from R (node_at R a).end b) z
        list-goes-on i = list-popped ∙ (on (λ _. bind (lower R (stmt_from R a)) rest) h ∙ on rest i)
