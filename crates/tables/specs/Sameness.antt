-- Sameness of entries.
use Rattle.std.specs.Prelude.{◌≡◌, Bool, true}

-- It is reflexive, symmetric and transitive.
pub record Lawful {X : Type 0} (alike : X → X → Bool) : Type 0 where
  pub itself : (x : X) → alike x x ≡ true
  pub turned : (x y : X) → alike x y ≡ true → alike y x ≡ true
  pub carried : (x y z : X) → alike x y ≡ true → alike y z ≡ true → alike x z ≡ true
