-- A run of the definition, taken apart from its last step back.
use Rattle.std.proofs.Common.{◌≡◌, ℕ, suc, ◌+◌, ◌-◌, ◌<◌, ◌≤◌, List, [], sym, refl, ap, ◌∙◌, subst, add-one, arith}
use Rattle.code.specs.declared.talk.Handler.{Handler}
use Rattle.code.specs.declared.talk.Question.{Question}
use Rattle.code.specs.declared.talk.Purpose.{Purpose}
use Rattle.code.specs.declared.talk.End.{End}
use Rattle.code.specs.declared.ops.Instr.{Instr}
use Rattle.code.specs.declared.ops.Row.{Row}
use Rattle.meaning.specs.Machine.{Mach, Locals}
use Rattle.meaning.specs.Calls.{State, State.ready, Reply.spent, Reply.asks, Reply.ends, Reply.sticks, Told, told, goes, step, plays}
use Rattle.player.specs.declared.kinds.Mode.{Mode}
use Rattle.player.specs.declared.kinds.Mode.TheVariants.{Ready, Waiting, Ended, Stuck as StuckMode}
use Rattle.player.specs.declared.machine.Player.{Player}
use Rattle.player.specs.Players.{mach, Kept}
use Rattle.player.specs.States.{state, state_of}

plays-more : (code : List Instr) (rows : List Row) (limit n i : ℕ) (m : Mach) → n < limit → plays code rows (limit - n) n i m ≡ goes (plays code rows (limit - (n + 1)) (n + 1)) (n + 1) (step code rows i m)
unfolding plays
plays-more code rows limit n i m h =
    let e : limit - n ≡ suc (limit - (n + 1)) = omega arith in
    ap (λ k. plays code rows k n i m) e ∙ ap (λ k. goes (plays code rows (limit - (n + 1)) k) k (step code rows i m)) (sym (add-one n))

plays-none : (code : List Instr) (rows : List Row) (limit n i : ℕ) (m : Mach) → limit ≤ n → plays code rows (limit - n) n i m ≡ told (spent n) (ready i m)
unfolding plays
plays-none code rows limit n i m h = let e : limit - n ≡ 0 = omega arith in ap (λ k. plays code rows k n i m) e

pub kept-kept : (a b p : Player) → Kept a b → Kept b p → Kept a p
kept-kept a b p f g = record { lent = g.lent ∙ f.lent; code = g.code ∙ f.code; rows = g.rows ∙ f.rows; names = g.names ∙ f.names }

-- the run from a, with n operations done at b, and one more at p
pub onward : (a b p : Player) (limit n : ℕ) (w : Told) → Kept a b → n < limit → state p ≡ step b.code.now b.rows.now b.place (mach b) → plays a.code.now a.rows.now (limit - n) n b.place (mach b) ≡ w → goes (plays a.code.now a.rows.now (limit - (n + 1)) (n + 1)) (n + 1) (state p) ≡ w
onward a b p limit n w f h e g =
    let k : state p ≡ step a.code.now a.rows.now b.place (mach b) = e ∙ ap (λ c. step c.now b.rows.now b.place (mach b)) f.code ∙ ap (λ r. step a.code.now r.now b.place (mach b)) f.rows in
    ap (goes (plays a.code.now a.rows.now (limit - (n + 1)) (n + 1)) (n + 1)) k ∙ sym (plays-more a.code.now a.rows.now limit n b.place (mach b) h) ∙ g

module _ (f : ℕ → Mach → Told) (n : ℕ) (p : Player) where
  pub on-ready : p.mode ≡ Ready → f p.place (mach p) ≡ goes f n (state p)
  on-ready e = let P : Mode → Type 0 = λ d. f p.place (mach p) ≡ goes f n (state_of d p.place (mach p)) in subst P (sym e) refl

  pub on-waits : (q : Question) (u : Purpose) → p.mode ≡ Waiting q u → told (asks n q) (state p) ≡ goes f n (state p)
  on-waits q u e = let P : Mode → Type 0 = λ d. told (asks n q) (state_of d p.place (mach p)) ≡ goes f n (state_of d p.place (mach p)) in subst P (sym e) refl

  pub on-ended : (x : End) → p.mode ≡ Ended x → told (ends n x) (state p) ≡ goes f n (state p)
  on-ended x e = let P : Mode → Type 0 = λ d. told (ends n x) (state_of d p.place (mach p)) ≡ goes f n (state_of d p.place (mach p)) in subst P (sym e) refl

  pub on-stuck : p.mode ≡ StuckMode → told (sticks n) (state p) ≡ goes f n (state p)
  on-stuck e = let P : Mode → Type 0 = λ d. told (sticks n) (state_of d p.place (mach p)) ≡ goes f n (state_of d p.place (mach p)) in subst P (sym e) refl

pub spends : (code : List Instr) (rows : List Row) (p : Player) (limit n : ℕ) → p.mode ≡ Ready → n ≤ limit → limit ≤ n → told (spent limit) (state p) ≡ plays code rows (limit - n) n p.place (mach p)
spends code rows p limit n e h k =
    let z : limit ≡ n = omega arith in
    ap (λ d. told (spent limit) (state_of d p.place (mach p))) e ∙ ap (λ j. told (spent j) (ready p.place (mach p))) z ∙ sym (plays-none code rows limit n p.place (mach p) k)

pub fresh : (vs is : List ℕ) (hs : List Handler) (l : Locals) → vs ≡ [] → is ≡ [] → hs ≡ [] → ◌≡◌ {A = State} (ready 0 (record { values = vs; iters = is; handlers = hs; slots = l })) (ready 0 (record { values = []; iters = []; handlers = []; slots = l }))
fresh vs is hs l p q r = cc
