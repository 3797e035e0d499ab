use Rattle.std.proofs.Common.{◌≡◌, ℕ, ◌<◌, ◌≤◌, true, false, length, refl, lt-ltb, le-leb}
use borrow.Author.Tests.{lt-leb}
use Rattle.records.specs.Tree.{Records}
use Rattle.meaning.specs.Fed.{Tables}
use Rattle.meaning.specs.Writers.{is_record, written_reading, size, writer}

-- Written knows the expressions whose segments fit in 64 operations.
module _ (T : Tables) (R : Records) (e : ℕ) (lo : 1 ≤ e) (hi : e < length R.exprs) where
  inside : is_record (length R.exprs) e ≡ true
  inside = rw (lt-ltb 0 e lo, lt-ltb e (length R.exprs) hi) refl

  pub knows : size (written_reading T R e) ≤ 64 → (writer T R).known e ≡ true
  knows h = rw (inside, le-leb (size (written_reading T R e)) 64 h) refl

  pub knows-not : 64 < size (written_reading T R e) → (writer T R).known e ≡ false
  knows-not h = rw (inside, lt-leb (size (written_reading T R e)) 64 h) refl
