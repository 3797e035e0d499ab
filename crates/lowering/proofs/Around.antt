-- The loops around: the code has the innermost first, the rules have it last.
use Rattle.std.proofs.Common.{◌≡◌, ℕ, zero, suc, ◌-◌, ◌≤◌, List, [], ◌∷◌, ◌++◌, length, reverse, set, Some, None, Option, sym, ap, ◌∙◌, arith, length-append}
use Rattle.std.proofs.lemmas.List.{reverse-append, get_or_push, set_at}
use Rattle.code.specs.declared.shapes.Loop.{Loop}
use Rattle.meaning.specs.LowerState.{no_loop, last_loop, one_break_more}
use Rattle.stack64.specs.Moves.{Popped, Replaced, rest}
use Rattle.lowering.specs.Fit.{Counted}

-- The last of a list, and another in its place.
module _ (ls : List Loop) (l : Loop) where
  front : length ls ≡ length (ls ++ l ∷ []) - 1
  front = omega (arith, length-append ls (l ∷ []))

  last-is : last_loop (ls ++ l ∷ []) ≡ l
  last-is = get_or_push ls l no_loop (length (ls ++ l ∷ []) - 1) front

  set-is : (k : Loop) → set (ls ++ l ∷ []) (length (ls ++ l ∷ []) - 1) k ≡ ls ++ k ∷ []
  set-is k = set_at ls l [] k (length (ls ++ l ∷ []) - 1) front

turned : (l : Loop) (xs zs : List Loop) → xs ≡ l ∷ zs → reverse xs ≡ reverse zs ++ l ∷ []
turned l xs zs e = ap reverse e ∙ reverse-append (l ∷ []) zs

-- Another in the place of the innermost.
pub put_anew : (l k : Loop) (xs : List Loop) (r : Option Loop) (ys : List Loop) → xs ≡ l ∷ rest xs → Replaced xs k r ys → ys ≡ k ∷ rest xs
put_anew l k xs (Some y) ys e h = h.1
put_anew l k xs None ys e h = let f : [] ≡ l ∷ rest xs = sym h.0 ∙ e in (cc)

pub broken : (l k : Loop) (xs ys : List Loop) → xs ≡ l ∷ rest xs → ys ≡ k ∷ rest xs → k ≡ one_break_more l
    → set (reverse xs) (length (reverse xs) - 1) (one_break_more (last_loop (reverse xs))) ≡ reverse ys
broken l k xs ys e f o =
    rw (turned l xs (rest xs) e, turned k ys (rest xs) f, last-is (reverse (rest xs)) l, ← o) (set-is (reverse (rest xs)) l k)

-- Break counts stay few.
pub counted-popped : (n : ℕ) (xs : List Loop) (r : Option Loop) (ys : List Loop) → Popped xs r ys → Counted n xs → Counted n ys
counted-popped n xs (Some l) ys e h k = rw e.0 at (h (suc k))
counted-popped n xs None ys e h k = rw e.1 (h k)

pub counted-top : (n : ℕ) (l k : Loop) (xs ys : List Loop) → xs ≡ l ∷ rest xs → ys ≡ k ∷ rest xs → k.breaks ≤ n → Counted n xs → Counted n ys
counted-top n l k xs ys e f b h = rw f go
  where
    go : Counted n (k ∷ rest xs)
    go zero = b
    go (suc j) = rw e at (h (suc j))
