-- What acceptance by setting and by `fits` gives.
use Rattle.std.proofs.Common.{◌≡◌, ℕ, zero, suc, ◌-◌, ◌<◌, ◌≤◌, Bool, true, false, cond, ◌&&◌, leb, List, [], ◌∷◌, length, Some, None, Option, sym, refl, ap, ◌∙◌, arith, leb-true}
use Rattle.std.proofs.lemmas.Bool.{and_parts}
use Rattle.records.specs.Tree.{Records}
use Rattle.records.specs.Checks.{every, label_law, expr_sound}
use Rattle.code.specs.declared.ops.Instr.{Instr}
use Rattle.code.specs.declared.ops.Row.{Row}
use Rattle.meaning.specs.Calls.{instr_at, fits}
use Rattle.meaning.specs.Writer.{Writer}
use Rattle.meaning.specs.SetCode.{expr_of, targets_fine, rows_fine, write_fault, write_faults, or_next, width, set_too_large, set_fault}

-- ## `fits`

pub fits-room : (room deepest : ℕ) → fits room deepest ≡ None → deepest ≤ room
fits-room room deepest e = go (leb deepest room) refl e
  where
    go : (t : Bool) → leb deepest room ≡ t → cond {A = Option ℕ} t None (Some 24) ≡ None → deepest ≤ room
    go true h e = leb-true deepest room h
    go false h e = absurd (let z : ◌≡◌ {A = ℕ} 0 1 = cc in omega arith)

-- ## Setting

module _ (W : Writer) (rows : List Row) where
  no-first : (a b : Option ℕ) → or_next a b ≡ None → (a ≡ None) × (b ≡ None)
  no-first None b e = (refl, e)
  no-first (Some n) b e = absurd (let z : ◌≡◌ {A = ℕ} 0 1 = cc in omega arith)

  no-fault : (room e : ℕ) → write_fault W rows room (Some e) ≡ None → W.known e ≡ true
  no-fault room e h = go (W.known e) h
    where
      go : (t : Bool) → cond {A = Option ℕ} t (cond (leb (length (W.segment e)) room) None (Some 23)) (Some 17) ≡ None → t ≡ true
      go true h = refl
      go false h = absurd (let z : ◌≡◌ {A = ℕ} 0 1 = cc in omega arith)

  -- Where nothing is refused, every expression is known.
  pub all_known : (room : ℕ) (ops : List Instr) → write_faults W rows room ops ≡ None → (i e : ℕ) → i < length ops → expr_of rows (instr_at ops i).op ≡ Some e → W.known e ≡ true
  all_known room [] h i e l q = absurd (omega arith)
  all_known room (x ∷ xs) h zero e l q = no-fault room e (sym (ap (write_fault W rows room) q) ∙ (no-first (write_fault W rows room (expr_of rows x.op)) _ h).0)
  all_known room (x ∷ xs) h (suc i) e l q = all_known (room - width W rows x) xs (no-first (write_fault W rows room (expr_of rows x.op)) _ h).1 i e (omega arith) q

  -- What setting accepts: known expressions, targets inside the code.
  pub set-accepts : (R : Records) (ops : List Instr) (room places : ℕ) → set_fault W rows R ops room places ≡ None
      → (targets_fine (length ops) ops ≡ true) × (write_faults W rows room ops ≡ None)
  unfolding set_fault
  set-accepts R ops room places h = go (set_too_large R (length ops) room) (every (label_law R) (length R.labels - 1) 1 && every (expr_sound R) (length R.exprs - 1) 1) (targets_fine (length ops) ops && rows_fine (length R.exprs) rows) (leb (length ops) places) refl h
    where
      go : (a b d f : Bool) → (targets_fine (length ops) ops && rows_fine (length R.exprs) rows) ≡ d
          → cond a (Some 10) (cond b (cond d (cond f (write_faults W rows room ops) (Some 23)) (Some 11)) (Some 11)) ≡ None
          → (targets_fine (length ops) ops ≡ true) × (write_faults W rows room ops ≡ None)
      go true b d f q h = absurd (let z : ◌≡◌ {A = ℕ} 0 1 = cc in omega arith)
      go false false d f q h = absurd (let z : ◌≡◌ {A = ℕ} 0 1 = cc in omega arith)
      go false true false f q h = absurd (let z : ◌≡◌ {A = ℕ} 0 1 = cc in omega arith)
      go false true true false q h = absurd (let z : ◌≡◌ {A = ℕ} 0 1 = cc in omega arith)
      go false true true true q h = ((and_parts (targets_fine (length ops) ops) (rows_fine (length R.exprs) rows) q).0, h)
