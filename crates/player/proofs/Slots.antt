-- How the live slots change with their count and the caller's memory.
use Rattle.std.proofs.Common.{◌≡◌, ℕ, zero, suc, ◌+◌, ◌<◌, ◌≤◌, List, [], ◌∷◌, ◌++◌, length, get_or, take, set, Some, None, Option, IfSome, MatchOption, Bor, slice_get, ap, ◌∙◌, subst, sym, refl, arith, length-set}
use lib.Seq.{take-set-lt}
use Rattle.std.proofs.lemmas.List.{take_more_set, length-take-le, take-take}
use Rattle.std.specs.Option.{option_copied}
use Rattle.std.specs.List.{HoldsAt}
use Rattle.std.proofs.lemmas.Option.{slice_get_past, slice_get-get_or}
use Rattle.code.specs.declared.talk.Slot.{Slot}
use Rattle.meaning.specs.Machine.{Locals, add, cut, put}
use Rattle.player.specs.Players.{Got, held}

same : (a b : ℕ) (xs ys : List Slot) → a ≡ b → xs ≡ ys → ◌≡◌ {A = Locals} (record { room = a; live = xs }) (record { room = b; live = ys })
same a b xs ys p q = cc

pub held_more : (xs : List Slot) (n : ℕ) (s : Slot) → n < length xs → held (n + 1) (set xs n s) ≡ add s (held n xs)
unfolding held
held_more xs n s h = same (length (set xs n s)) (length xs) (take (n + 1) (set xs n s)) (take n xs ++ s ∷ []) (length-set xs n s) (take_more_set xs n s h)

pub held_cut : (xs : List Slot) (m n : ℕ) → m ≤ length (take n xs) → n ≤ length xs → held m xs ≡ cut m (held n xs)
unfolding held
held_cut xs m n h k =
    let l : m ≤ n = omega (arith, length-take-le n xs k) in
    same (length xs) (length xs) (take m xs) (take m (take n xs)) refl (sym (take-take m n xs l))

pub held-put : (xs : List Slot) (i n : ℕ) (s : Slot) → i < length (take n xs) → n ≤ length xs → held n (set xs i s) ≡ put i s (held n xs)
unfolding held
held-put xs i n s h k =
    let l : i < n = omega (arith, length-take-le n xs k) in
    same (length (set xs i s)) (length xs) (take n (set xs i s)) (set (take n xs) i s) (length-set xs i s) (take-set-lt n xs i s l)

got-more : (x : Slot) (xs : List Slot) (i : ℕ) (o : Option Slot) → Got i xs o → Got (suc i) (x ∷ xs) o
got-more x xs i None g = g
got-more x xs i (Some s) g = (omega (arith, g.0), g.1)

-- the slot at a place is the element there
got : (xs : List Slot) (i : ℕ) → Got i xs (slice_get xs i)
got [] i = refl
got (x ∷ xs) zero = (omega arith, refl)
got (x ∷ xs) (suc i) = got-more x xs i (slice_get xs i) (got xs i)

-- what a read at a place hands out
pub slot_read : (xs : List Slot) (i : ℕ) (o : Option (Bor Slot)) → IfSome o (λ x. x.now ≡ get_or xs i x.now) → MatchOption o (length xs ≤ i) (λ x. (i < length xs) × HoldsAt (λ y. x.now ≡ y) xs i) → Got i xs (option_copied o)
slot_read xs i None s m = subst (Got i xs) (slice_get_past xs i m) (got xs i)
slot_read xs i (Some x) s m = subst (Got i xs) (slice_get-get_or xs i x.now m.0 ∙ ap Some (sym s)) (got xs i)
