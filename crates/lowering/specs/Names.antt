-- Names are the same when all their bytes are: an equivalence. So are operator rows by their four numbers.
use Rattle.std.specs.Prelude.{◌≡◌, ℕ, Bool, true, ◌&&◌, [], ◌∷◌, ◌==◌, refl}
use Rattle.std.proofs.Common.{arith}
use Rattle.std.proofs.lemmas.Bool.Decides.{nat_tests}
use Rattle.records.specs.Tree.{records, name_of}
use Rattle.code.specs.declared.ops.AssignOp.{AssignOp}
use Rattle.meaning.specs.Reading.{Bytes, same_bytes}
use Rattle.meaning.specs.LowerState.{same_name, same_oper}
use Rattle.tables.specs.Sameness.{Lawful}
use Rattle.lowering.specs.declared.words.Spelling.{Spelling}

pub bytes-itself : (xs : Bytes) → same_bytes xs xs ≡ true
bytes-itself [] = refl
bytes-itself (x ∷ xs) = both x xs (bytes-itself xs)
  where
    both : (x : ℕ) (xs : Bytes) → same_bytes xs xs ≡ true → (x == x && same_bytes xs xs) ≡ true
    both x xs h = grind (arith, nat_tests)

pub bytes-equal : (xs ys : Bytes) → same_bytes xs ys ≡ true → xs ≡ ys
bytes-equal [] [] e = refl
bytes-equal [] (y ∷ ys) e = cc
bytes-equal (x ∷ xs) [] e = cc
bytes-equal (x ∷ xs) (y ∷ ys) e = both x y xs ys e (bytes-equal xs ys)
  where
    both : (x y : ℕ) (xs ys : Bytes) → (x == y && same_bytes xs ys) ≡ true → (same_bytes xs ys ≡ true → xs ≡ ys) → x ∷ xs ≡ y ∷ ys
    both x y xs ys e h = grind (arith, nat_tests)

pub equal-bytes : (xs ys : Bytes) → xs ≡ ys → same_bytes xs ys ≡ true
equal-bytes xs ys e = rw e (bytes-itself ys)

-- The bytes of a label's name.
abbrev pub word_of : Spelling → ℕ → Bytes
word_of w l = (name_of (records w.0) l).bytes

-- Labels are the same when they spell the same name.
abbrev pub same_word : Spelling → ℕ → ℕ → Bool
same_word w = same_name (records w.0)

pub words-lawful : (w : Spelling) → Lawful (same_word w)
words-lawful w = record {
  itself = λ x. bytes-itself (word_of w x);
  turned = λ x y e. rw (bytes-equal (word_of w x) (word_of w y) e) (bytes-itself (word_of w y));
  carried = λ x y z e f. rw (bytes-equal (word_of w x) (word_of w y) e) f;
}

pub opers-lawful : Lawful same_oper
opers-lawful = record { itself = itself; turned = turned; carried = carried }
  where
    itself : (x : AssignOp) → same_oper x x ≡ true
    itself x = grind (arith, nat_tests)

    turned : (x y : AssignOp) → same_oper x y ≡ true → same_oper y x ≡ true
    turned x y e = grind (arith, nat_tests)

    carried : (x y z : AssignOp) → same_oper x y ≡ true → same_oper y z ≡ true → same_oper x z ≡ true
    carried x y z e f = grind (arith, nat_tests)
