use Rattle.std.proofs.Common.{◌≡◌, ℕ, Bool, not, List, [], ◌∷◌, rules, tests, refl, arith}
use Rattle.std.specs.List.{prefix_len}
use Rattle.std.proofs.lemmas.Iterator.{YieldsList-from_slice}
use Rattle.std.proofs.lemmas.Iterator.Search.{position_from_yields_List}
use Rattle.std.proofs.lemmas.List.Sums.{prefix_len-le-length}
use Rattle.words.proofs.words.front_while.Goals as goal

twice : (test : ℕ → Bool) (xs : List ℕ) → prefix_len (λ x. not (not (test x))) xs ≡ prefix_len test xs
twice test [] = refl
twice test (x ∷ xs) = grind (arith, twice test xs)

pub returns-clause-value : goal.returns-clause-value
returns-clause-value g c = λ test says.
    let at = position_from_yields_List (λ b. not (test b)) _ _ c.position.result c.position.ensures.ran (YieldsList-from_slice c.args.bytes.now cc) (λ x b q k. search (rules, tests, says)) in
    search (rules, at, twice test c.args.bytes.now, prefix_len-le-length test c.args.bytes.now)
