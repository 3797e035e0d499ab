-- A list of calls, one more at its end.
use Rattle.std.proofs.Common.{◌≡◌, ℕ, ◌+◌, ◌<◌, List, [], ◌∷◌, ◌++◌, map, length, get_or, take, drop, set, sym, refl, ap, ◌∙◌, arith, Bor}
use Rattle.std.proofs.lemmas.List.{take_more_set, map-append, map_more, drop-drop, drop-set-lt}
use Rattle.code.specs.declared.ops.Instr.{Instr}
use Rattle.code.specs.declared.ops.Row.{Row}
use Rattle.meaning.specs.Calls.{Call as Asked, Reply as Said, State, told, does, after_calls, replies}
use Rattle.player.specs.declared.kinds.Call.{Call}
use Rattle.player.specs.declared.kinds.Reply.{Reply}
use Rattle.player.specs.declared.machine.Player.{Player}
use Rattle.player.specs.Replies.{call_of, reply_of}
use Rattle.player.specs.Players.{Kept}
use Rattle.player.specs.States.{state}

module _ (code : List Instr) (rows : List Row) (names : ℕ) where
  after_push : (cs : List Asked) (c : Asked) (s : State) → after_calls code rows names (cs ++ c ∷ []) s ≡ (does code rows names c (after_calls code rows names cs s)).left
  after_push [] c s = refl
  after_push (x ∷ cs) c s = after_push cs c (does code rows names x s).left

  replies-push : (cs : List Asked) (c : Asked) (s : State) → replies code rows names (cs ++ c ∷ []) s ≡ replies code rows names cs s ++ (does code rows names c (after_calls code rows names cs s)).reply ∷ []
  replies-push [] c s = refl
  replies-push (x ∷ cs) c s = ap (λ t. (does code rows names x s).reply ∷ t) (replies-push cs c (does code rows names x s).left)

-- What a performed call says, in terms of the player that the calls began with
told-from : (a b p : Player) (c : Call) (r : Reply) (s : State) → Kept a b → state b ≡ s → told (reply_of r) (state p) ≡ does b.code.now b.rows.now b.names (call_of c) (state b) → told (reply_of r) (state p) ≡ does a.code.now a.rows.now a.names (call_of c) s
told-from a b p c r s k e d =
    d ∙ ap (λ x. does x.now b.rows.now b.names (call_of c) (state b)) k.code ∙ ap (λ x. does a.code.now x.now b.names (call_of c) (state b)) k.rows
    ∙ ap (λ x. does a.code.now a.rows.now x (call_of c) (state b)) k.names ∙ ap (λ x. does a.code.now a.rows.now a.names (call_of c) x) e

-- The state after one call more
pub left-more : (a b p : Player) (cs : List Call) (i : ℕ) (d : Call) (r : Reply) → i < length cs → Kept a b
    → state b ≡ after_calls a.code.now a.rows.now a.names (map call_of (take i cs)) (state a)
    → told (reply_of r) (state p) ≡ does b.code.now b.rows.now b.names (call_of (get_or cs i d)) (state b)
    → state p ≡ after_calls a.code.now a.rows.now a.names (map call_of (take (i + 1) cs)) (state a)
left-more a b p cs i d r h k e t =
    ap (λ x. x.left) (told-from a b p (get_or cs i d) r _ k e t)
    ∙ sym (ap (λ x. after_calls a.code.now a.rows.now a.names x (state a)) (map_more call_of cs i d h) ∙ after_push a.code.now a.rows.now a.names (map call_of (take i cs)) (call_of (get_or cs i d)) (state a))

-- The replies with one more
pub said_more : (a b p : Player) (cs : List Call) (os : List Reply) (i : ℕ) (d : Call) (r : Reply) → i < length cs → i < length os → Kept a b
    → map reply_of (take i os) ≡ replies a.code.now a.rows.now a.names (map call_of (take i cs)) (state a)
    → state b ≡ after_calls a.code.now a.rows.now a.names (map call_of (take i cs)) (state a)
    → told (reply_of r) (state p) ≡ does b.code.now b.rows.now b.names (call_of (get_or cs i d)) (state b)
    → map reply_of (take (i + 1) (set os i r)) ≡ replies a.code.now a.rows.now a.names (map call_of (take (i + 1) cs)) (state a)
said_more a b p cs os i d r h l k q e t =
    ap (map reply_of) (take_more_set os i r l) ∙ map-append reply_of (take i os) (r ∷ [])
    ∙ ap (λ x. x ++ reply_of r ∷ []) q
    ∙ ap (λ x. replies a.code.now a.rows.now a.names (map call_of (take i cs)) (state a) ++ x ∷ []) (ap (λ x. x.reply) (told-from a b p (get_or cs i d) r _ k e t))
    ∙ sym (ap (λ x. replies a.code.now a.rows.now a.names x (state a)) (map_more call_of cs i d h) ∙ replies-push a.code.now a.rows.now a.names (map call_of (take i cs)) (call_of (get_or cs i d)) (state a))

-- What lies past a write stays
pub rest_more : {A : Type 0} (i : ℕ) (xs zs : List A) (y : A) → drop i xs ≡ drop i zs → drop (i + 1) (set xs i y) ≡ drop (i + 1) zs
rest_more i xs zs y e = drop-set-lt (i + 1) xs i y (omega arith) ∙ sym (drop-drop 1 i xs) ∙ ap (drop 1) e ∙ drop-drop 1 i zs

-- The replies of a player just loaded
pub from-load : (p : Player) (code : Bor (List Instr)) (rows : Bor (List Row)) (names : ℕ) (cs : List Asked) (os : List Said) (s : State) → p.code ≡ code → p.rows ≡ rows → p.names ≡ names → state p ≡ s → os ≡ replies p.code.now p.rows.now p.names cs (state p) → os ≡ replies code.now rows.now names cs s
from-load p code rows names cs os s e f g h q =
    q ∙ ap (λ x. replies x.now p.rows.now p.names cs (state p)) e ∙ ap (λ x. replies code.now x.now p.names cs (state p)) f
    ∙ ap (λ x. replies code.now rows.now x cs (state p)) g ∙ ap (λ x. replies code.now rows.now names cs x) h
