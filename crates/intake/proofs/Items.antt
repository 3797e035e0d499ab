-- Item by item through a list, and statement by statement through a script.
use Rattle.std.proofs.Common.{◌≡◌, ℕ, zero, suc, ◌+◌, ◌-◌, ◌<◌, List, ◌++◌, length, get_or, drop, codes, refl, arith}
use Rattle.std.proofs.lemmas.List.{drop_more}
use Rattle.records.specs.declared.types.Node.{Node}
use Rattle.records.specs.Tree.{Records}
use Rattle.intake.specs.Outlines.{items_text, head_if, expr_in, outline_from, around_next, still_around, line_text}

pub items_more : (R : Records) (n e : ℕ) (out : List ℕ) → 0 < n → items_text R n e out ≡ items_text R (n - 1) (e + 1) (head_if R e (expr_in R e) (out ++ codes " "))
unfolding items_text
items_more R zero e out h = absurd (omega (arith, h))
items_more R (suc m) e out h = let less : suc m - 1 ≡ m = omega arith in rw less refl

pub outline_more : (R : Records) (i : ℕ) (ns around : List Node) (out : List ℕ) (d : Node) → i < length ns → outline_from R i (drop i ns) around out ≡ outline_from R (i + 1) (drop (i + 1) ns) (around_next i (get_or ns i d) (still_around i around)) (line_text R i (get_or ns i d) (still_around i around) out)
unfolding outline_from
outline_more R i ns around out d h = rw (drop_more ns i d h) refl
