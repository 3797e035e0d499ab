use Rattle.std.proofs.Common.{◌≡◌, ◌+◌, refl, rules, arith}
use Rattle.std.proofs.lemmas.List.{length-take-le, length-drop}
use Rattle.stack64.proofs.Stacks.{length-stack, higher, sunk}
use Rattle.stack64.proofs.stack.Stack64.insert.Given.{Over}
use Rattle.stack64.proofs.stack.Stack64.insert.Goals as goal
use Rattle.stack64.proofs.stack.Stack64.insert.Goals.{In_ok-push}

one_higher : (g : Over) (c : In_ok-push g) → c.push.new.self.height ≡ c.args.self.now.height + 1
one_higher g c = higher _ _ _ _ _ (omega arith) (omega arith) c.in_ok-push.ensures.1

pub returns-then-n-self : goal.returns-then-n-self
returns-then-n-self g c = (λ h. omega (arith, length-stack c.args.self.now.cells c.args.self.now.height (omega arith)), refl)

pub slice_bounds-rotate_right-count : goal.slice_bounds-rotate_right-count
slice_bounds-rotate_right-count g c = omega (arith, one_higher g (goal.at.slice_bounds-rotate_right-count g c).In_ok-push)

pub slice_bounds-rotate_right-start : goal.slice_bounds-rotate_right-start
slice_bounds-rotate_right-start g c = let e = one_higher g (goal.at.slice_bounds-rotate_right-start g c).In_ok-push in search rules

pub rotate_right-requires : goal.rotate_right-requires
rotate_right-requires g c = let e = one_higher g (goal.at.rotate_right-requires g c).In_ok-push in search (rules, length-take-le, length-drop)

pub returns : goal.returns
returns g c = (omega (arith, length-stack c.args.self.now.cells c.args.self.now.height (omega arith)), c.in_ok-push.ensures.0, sunk _ _ _ _ _ _ _ (omega arith) (omega arith) (omega arith) c.in_ok-push.ensures.1 c.rotate_right.ensures.after)
