-- From the fed player to lists of calls: a player after a list of calls is where the fed player comes to that is fed
-- what those calls had it accept; so it agrees with the tree's run wherever the fed player follows that.
use Rattle.std.proofs.Common.{◌≡◌, ℕ, zero, suc, ◌+◌, ◌<◌, Bool, true, false, cond, ltb, ◌⊎◌, List, [], ◌∷◌, ◌++◌, reverse, length, Some, None, Option, sym, refl, ap, ◌∙◌, subst, inl, inr, arith, ltb-true}
use mathlib.Core.List.{reverse_aux, reverse_aux-eq, reverse_aux-reverse_aux-nil, reverse-reverse}
use Rattle.records.specs.Tree.{Block}
use Rattle.code.specs.declared.ops.Instr.{Instr}
use Rattle.code.specs.declared.ops.Row.{Row}
use Rattle.code.specs.declared.talk.Answer.{Answer}
use Rattle.code.specs.declared.talk.Answer.TheVariants.{Value, Done, Fault}
use Rattle.code.specs.declared.talk.Purpose.{Purpose}
use Rattle.code.specs.declared.talk.Question.{Question}
use Rattle.meaning.specs.Machine.{Locals, Mach, with_slots, takes, resume}
use Rattle.meaning.specs.Calls.{State, State.ready, State.waits, State.ended, State.halted, after, step, empty, loaded, Call, Call.run, Call.answer, Call.look, Call.put, Reply, Reply.spent, Reply.asks, Reply.ends, Reply.sticks, Reply.taken, Reply.over, Reply.jammed, Reply.found, Reply.declined, Told, told, declines, goes, plays, limit_ok, runs, answered, answers, handle_of, lookup, seen, looks, overwritten, putting, puts, does, after_calls, replies}
use Rattle.meaning.specs.Reading.{Ask, Event}
use Rattle.meaning.specs.Run.{Out, Out.value, Out.broke, Out.continued, Out.returned, Out.fault, Out.waits as idles, Out.spent as endless, run_script}
use Rattle.meaning.specs.Fed.{Tables, name_at, or_same, poke_at, poke_slot, Conf, conf, noted, answered_by, hearing, move, Comes, Comes.here, Comes.then, Goes}
use Rattle.meaning.specs.Writer.{Writer}
use Rattle.meaning.specs.Agreement.{Heights, from_answer, accepts, event_of, fed, asked, SameStop, asked_by, Stopped, Underway, Agrees, MetAt, Agreement}
use Rattle.meaning.specs.SetCode.{set_code, place_of}
use Rattle.meaning.proofs.Layouts.{Level, Follows}
use Rattle.meaning.proofs.Lowered.{Distinct, Moved}
use Rattle.meaning.proofs.Idle.{Idle, script-idle}
use Rattle.meaning.proofs.Walk.{Walk, Walk.stay, Walk.go, onward, beyond, beyond-suc, goes_on, comes-on, comes-here, comes-through, comes-map, none-some, same_move}

-- ## A call is a walk

-- A state with what is still to be fed and the questions asked, the newest first.
abbrev at : State → List Event → List Ask → Conf
at s f a = conf s (record { feed = f; asked = a })

module _ (code : List Instr) (rows : List Row) (T : Tables) where
  -- What a call leads to, fed its event if it is accepted, and then anything.
  abbrev Carries : Call → State → Told → Type 0
  Carries c s t =
      (f : List Event) (a : List Ask)
      → Walk code rows T (at s (cond (accepts t.reply) (event_of T c) [] ++ f) a) (at t.left f (reverse_aux (asked T (t.reply ∷ [])) a))

  -- Every step of a run is a move.
  plays-walk :
      (k n i : ℕ) (m : Mach) (f : List Event) (a : List Ask)
      → Walk code rows T (at (ready i m) f a) (at (plays code rows k n i m).left f (reverse_aux (asked T ((plays code rows k n i m).reply ∷ [])) a))
  unfolding plays
  plays-walk zero n i m f a = stay
  plays-walk (suc k) n i m f a = go refl (on (step code rows i m) (λ j l. plays-walk k (suc n) j l f a))
    where
      on :
          (s : State)
          → ((j : ℕ) (l : Mach) → Walk code rows T (at (ready j l) f a) (at (plays code rows k (suc n) j l).left f (reverse_aux (asked T ((plays code rows k (suc n) j l).reply ∷ [])) a)))
          → let t = goes (plays code rows k (suc n)) (suc n) s in
          Walk code rows T (conf s (noted T s (record { feed = f; asked = a }))) (at t.left f (reverse_aux (asked T (t.reply ∷ [])) a))
      on (ready j l) h = h j l
      on (waits q u j l) h = stay
      on (ended e) h = stay
      on halted h = stay

  -- A call that is declined is no move.
  declined-walk : (c : Call) (s : State) (n : ℕ) → Carries c s (declines n s)
  declined-walk c s n f a = stay

  run-walk : (n : ℕ) (s : State) → Carries (run n) s (runs code rows n s)
  run-walk n (ready i m) = on (limit_ok n)
    where
      quiet : (b : Bool) (f : List Event) → f ≡ cond b [] [] ++ f
      quiet true f = refl
      quiet false f = refl

      on : (b : Bool) → Carries (run n) (ready i m) (cond b (plays code rows n 0 i m) (declines 34 (ready i m)))
      on true f a =
          let t = plays code rows n 0 i m in
          subst (λ g. Walk code rows T (at (ready i m) g a) (at t.left f (reverse_aux (asked T (t.reply ∷ [])) a))) (quiet (accepts t.reply) f) (plays-walk n 0 i m f a)
      on false f a = stay
  run-walk n (waits q u i m) = declined-walk (run n) (waits q u i m) 31
  run-walk n (ended e) = declined-walk (run n) (ended e) 33
  run-walk n halted = declined-walk (run n) halted 33

  -- An answer that suits is taken in one move.
  answer-move :
      (r : Answer) (q : Question) (u : Purpose) (i : ℕ) (m : Mach) (f : List Event) (a : List Ask) → takes u r ≡ true
      → move code rows T (at (waits q u i m) (from_answer r ∷ f) a) ≡ Some (at (after (resume u r m) i) f a)
  answer-move (Value h) q u i m f a e = ap (λ t. Some (answered_by t (Value h) q u i m (record { feed = f; asked = a }))) e
  answer-move Done q u i m f a e = ap (λ t. Some (answered_by t Done q u i m (record { feed = f; asked = a }))) e
  answer-move (Fault h p) q u i m f a e = refl

  answer-walk : (r : Answer) (s : State) → Carries (answer r) s (answers r s)
  answer-walk r (ready i m) = declined-walk (answer r) (ready i m) 32
  answer-walk r (waits q u i m) = on (takes u r) refl
    where
      one : (s : State) → ((f : List Event) (a : List Ask) → move code rows T (at (waits q u i m) (from_answer r ∷ f) a) ≡ Some (at s f a)) → Carries (answer r) (waits q u i m) (answered s)
      one (ready j l) h f a = go (h f a) stay
      one (waits k v j l) h f a = go (h f a) stay
      one (ended e) h f a = go (h f a) stay
      one halted h f a = go (h f a) stay

      on : (b : Bool) → takes u r ≡ b → Carries (answer r) (waits q u i m) (cond b (answered (after (resume u r m) i)) (declines 34 (waits q u i m)))
      on true e = one (after (resume u r m) i) (λ f a. answer-move r q u i m f a e)
      on false e = λ f a. stay
  answer-walk r (ended e) = declined-walk (answer r) (ended e) 33
  answer-walk r halted = declined-walk (answer r) halted 33

  -- A look is no move.
  seen-walk : (x : ℕ) (m : Mach) (s : State) → Carries (look x) s (seen (length T.names) x m s)
  seen-walk x m s = on (ltb x (length T.names))
    where
      on : (b : Bool) → Carries (look x) s (cond b (told (found (handle_of (lookup x m.slots.live))) s) (declines 34 s))
      on true f a = stay
      on false f a = stay

  look-walk : (x : ℕ) (s : State) → Carries (look x) s (looks (length T.names) x s)
  look-walk x (ready i m) = seen-walk x m (ready i m)
  look-walk x (waits q u i m) = seen-walk x m (waits q u i m)
  look-walk x (ended e) = declined-walk (look x) (ended e) 33
  look-walk x halted = declined-walk (look x) halted 33

  -- A put that is accepted is one move: the name's bytes lead back to its number.
  put-walk : Distinct T → (x h : ℕ) (s : State) → Carries (put x h) s (puts (length T.names) x h s)
  put-walk D x h (ready i m) = declined-walk (put x h) (ready i m) 32
  put-walk D x h (waits q u i m) = on (ltb x (length T.names)) refl
    where
      poked : (l : Locals) → x < length T.names → overwritten x h m.slots ≡ Some l → poke_slot T (name_at T x) h m.slots ≡ l
      poked l b e = ap (λ o. poke_at o h m.slots) (D x b) ∙ ap (λ o. or_same o m.slots) e

      over' : x < length T.names → (o : Option Locals) → overwritten x h m.slots ≡ o → Carries (put x h) (waits q u i m) (putting o q u i m)
      over' b None e f a = stay
      over' b (Some l) e f a = go (ap (λ k. Some (at (waits q u i (with_slots k m)) f a)) (poked l b e)) stay

      on : (b : Bool) → ltb x (length T.names) ≡ b → Carries (put x h) (waits q u i m) (cond b (putting (overwritten x h m.slots) q u i m) (declines 34 (waits q u i m)))
      on true e = over' (ltb-true x (length T.names) e) (overwritten x h m.slots) refl
      on false e = λ f a. stay
  put-walk D x h (ended e) = declined-walk (put x h) (ended e) 33
  put-walk D x h halted = declined-walk (put x h) halted 33

  call-walk : Distinct T → (c : Call) (s : State) → Carries c s (does code rows (length T.names) c s)
  call-walk D (run n) s = run-walk n s
  call-walk D (answer r) s = answer-walk r s
  call-walk D (look x) s = look-walk x s
  call-walk D (put x h) s = put-walk D x h s

  asked-more : (r : Reply) (rs : List Reply) (a : List Ask) → reverse_aux (asked T rs) (reverse_aux (asked T (r ∷ [])) a) ≡ reverse_aux (asked T (r ∷ rs)) a
  asked-more (spent n) rs a = refl
  asked-more (asks n q) rs a = refl
  asked-more (ends n e) rs a = refl
  asked-more (sticks n) rs a = refl
  asked-more taken rs a = refl
  asked-more (over e) rs a = refl
  asked-more jammed rs a = refl
  asked-more (found o) rs a = refl
  asked-more (declined n) rs a = refl

  -- A list of calls is a walk that takes everything fed.
  calls-walk :
      Distinct T → (cs : List Call) (s : State) (a : List Ask) → let rs = replies code rows (length T.names) cs s in
      Walk code rows T (at s (fed T cs rs) a) (at (after_calls code rows (length T.names) cs s) [] (reverse_aux (asked T rs) a))
  calls-walk D [] s a = stay
  calls-walk D (c ∷ cs) s a =
      let t = does code rows (length T.names) c s in
      let rs = replies code rows (length T.names) cs t.left in
      onward code rows T (call-walk D c s (fed T cs rs) a)
      (subst (λ b. Walk code rows T (at t.left (fed T cs rs) (reverse_aux (asked T (t.reply ∷ [])) a)) (at (after_calls code rows (length T.names) cs t.left) [] b)) (asked-more t.reply rs a) (calls-walk D cs t.left (reverse_aux (asked T (t.reply ∷ [])) a)))

-- ## Where the fed player stops

-- A state without a move, at which the tree's run stops too, having asked the same questions.
record Lands (code : List Instr) (rows : List Row) (T : Tables) (o : Out) (c : Conf) : Type 0 where
  stop : SameStop T c.state o
  asked : reverse c.world.asked ≡ asked_by o
  last : move code rows T c ≡ None

module _ (code : List Instr) (rows : List Row) (T : Tables) (W : Writer) (room : ℕ) (H : ℕ → Heights) (outside : ℕ → Bool) where
  abbrev Fine : Conf → Type 0
  Fine c = Level code rows T W room H outside c.state

  -- The fed player comes to where the tree's run stops, or both go on for longer than so many rounds and moves.
  abbrev Ways : ℕ → Out → Conf → Type 0
  Ways n o c = Comes code rows T Fine (Lands code rows T o) c ⊎ ((o ≡ endless) × Goes code rows T Fine (suc n) c)

  follows_on : (n : ℕ) (o : Out) (c : Conf) → Idle o → Follows code rows T W room H outside n o c → Ways n o c
  follows_on n (value v σ) c z t = inl (comes-map code rows T Fine _ _ (λ d e. subst (Lands code rows T (value v σ)) (sym e) (record { stop = refl; asked = refl; last = refl })) t)
  follows_on n (broke v σ) c z t = absurd t
  follows_on n (continued σ) c z t = absurd t
  follows_on n (returned v σ) c z t = inl (comes-map code rows T Fine _ _ (λ d e. subst (Lands code rows T (returned v σ)) (sym e) (record { stop = refl; asked = refl; last = refl })) t)
  follows_on n (fault h p σ) c z t = inl (comes-map code rows T Fine _ _ (λ d e. subst (Lands code rows T (fault h p σ)) (sym e) (record { stop = (refl, refl); asked = refl; last = refl })) t)
  follows_on n (idles q A σ) c z t =
      inl (comes-map code rows T Fine _ _ (λ d y. subst (Lands code rows T (idles q A σ)) (sym y.4)
      (record { stop = (y.5, y.6, ap reverse y.7, y.8); asked = refl; last = ap (λ f. hearing T f y.0 y.1 y.2 y.3 σ.world) z })) t)
  follows_on n endless c z t = inr (refl, t)

  -- ## Runs of a player that is ready

  -- Where the player's run stops, from a state with nothing left to feed.
  abbrev Ends : Out → List Ask → State → Type 0
  Ends o a (ready i m) = (k : ℕ) × ((n : ℕ) → Lands code rows T o (at (plays code rows k n i m).left [] (reverse_aux (asked T ((plays code rows k n i m).reply ∷ [])) a)))
  Ends o a (waits q u i m) = Lands code rows T o (at (waits q u i m) [] a)
  Ends o a (ended e) = Lands code rows T o (at (ended e) [] a)
  Ends o a halted = ⊥

  lands-ends : (o : Out) (a : List Ask) (s : State) → Lands code rows T o (at s [] a) → Ends o a s
  lands-ends o a (ready i m) z = absurd (none-some z.last refl)
  lands-ends o a (waits q u i m) z = z
  lands-ends o a (ended e) z = z
  lands-ends o a halted z = z.stop

  -- The questions asked once a state is reached.
  abbrev now_asked : State → List Ask → List Ask
  now_asked s a = (noted T s (record { feed = []; asked = a })).asked

  noted-at : (s : State) (a : List Ask) → conf s (noted T s (record { feed = []; asked = a })) ≡ at s [] (now_asked s a)
  noted-at (ready i m) a = refl
  noted-at (waits q u i m) a = refl
  noted-at (ended e) a = refl
  noted-at halted a = refl

  -- With nothing left to feed, what the moves come to is what a run of the player comes to.
  comes-ends : (o : Out) {c : Conf} → Comes code rows T Fine (Lands code rows T o) c → (s : State) (a : List Ask) → c ≡ at s [] a → Ends o a s
  unfolding plays
  comes-ends o (here z) s a e = lands-ends o a s (subst (Lands code rows T o) e z)
  comes-ends o (then {d = d} i m t) (ready j l) a e =
      let s = step code rows j l in
      let y : move code rows T (at (ready j l) [] a) ≡ Some d = subst (λ c. move code rows T c ≡ Some d) e m in
      let r = on s (comes-ends o t s (now_asked s a) (same_move y refl ∙ noted-at s a)) in
      (suc r.0, r.1)
    where
      on :
          (s : State) → Ends o (now_asked s a) s
          → (k : ℕ) × ((n : ℕ) → let t = goes (plays code rows k (suc n)) (suc n) s in Lands code rows T o (at t.left [] (reverse_aux (asked T (t.reply ∷ [])) a)))
      on (ready i m) r = (r.0, λ n. r.1 (suc n))
      on (waits q u i m) r = (0, λ n. r)
      on (ended e) r = (0, λ n. r)
      on halted r = absurd r
  comes-ends o (then {d = d} i m t) (waits q u j l) a e = absurd (none-some refl (subst (λ c. move code rows T c ≡ Some d) e m))
  comes-ends o (then {d = d} i m t) (ended x) a e = absurd (none-some refl (subst (λ c. move code rows T c ≡ Some d) e m))
  comes-ends o (then {d = d} i m t) halted a e = absurd (none-some refl (subst (λ c. move code rows T c ≡ Some d) e m))

  -- With nothing left to feed, a player that goes on for longer than a run says "spent".
  goes_spent : (k n i : ℕ) (m : Mach) (a : List Ask) → Goes code rows T Fine (suc k) (at (ready i m) [] a) → (plays code rows k n i m).reply ≡ spent (k + n)
  unfolding plays
  goes_spent zero n i m a g = ap spent (omega arith)
  goes_spent (suc k) n i m a g = on (step code rows i m) (λ j l. goes_spent k (suc n) j l a) (subst (Goes code rows T Fine (suc k)) (same_move g.2 refl) g.3)
    where
      on :
          (s : State) → ((j : ℕ) (l : Mach) → Goes code rows T Fine (suc k) (at (ready j l) [] a) → (plays code rows k (suc n) j l).reply ≡ spent (k + suc n))
          → Goes code rows T Fine (suc k) (conf s (noted T s (record { feed = []; asked = a }))) → (goes (plays code rows k (suc n)) (suc n) s).reply ≡ spent (suc k + n)
      on (ready j l) r g = r j l g ∙ ap spent (omega arith)
      on (waits q u j l) r g = absurd (none-some refl g.2)
      on (ended e) r g = absurd (none-some refl g.2)
      on halted r g = absurd (none-some refl g.2)

  -- ## At the end of a walk

  module _ (tree : ℕ → Out) (start : Conf) (idle : (n : ℕ) → Idle (tree n)) (follows : (n : ℕ) → Follows code rows T W room H outside n (tree n) start) where
    -- More moves than a walk has are moves from its end.
    past : {c : Conf} (w : Walk code rows T start c) (k : ℕ) → Goes code rows T Fine (suc (beyond code rows T w k)) start → Goes code rows T Fine (suc k) c
    past w k g = goes_on code rows T Fine w (suc k) (subst (λ n. Goes code rows T Fine n start) (sym (beyond-suc code rows T w k)) g)

    -- What the tree's run stops with is what the player comes to from the end of a walk.
    ahead : {c : Conf} → Walk code rows T start c → (o : Out) → Comes code rows T Fine (Lands code rows T o) start → Comes code rows T Fine (Lands code rows T o) c
    ahead w o t = comes-on code rows T Fine (Lands code rows T o) (λ d z. z.last) w t

    way : (n : ℕ) → Ways n (tree n) start
    way n = follows_on n (tree n) start (idle n) (follows n)

    -- A walk that ends without a move ends where the tree's run stops.
    lands : {c : Conf} (w : Walk code rows T start c) → move code rows T c ≡ None → Lands code rows T (tree (beyond code rows T w 0)) c
    lands {c} w e = on (way (beyond code rows T w 0))
      where
        on : let n = beyond code rows T w 0 in Ways n (tree n) start → Lands code rows T (tree n) c
        on (inl t) = comes-here code rows T Fine _ e (ahead w _ t)
        on (inr g) = absurd (none-some e (past w 0 g.1).2)

    -- Every state with a move is level.
    level : {c d : Conf} (w : Walk code rows T start c) → move code rows T c ≡ Some d → Fine c
    level {c} w e = on (way (beyond code rows T w 0))
      where
        on : let n = beyond code rows T w 0 in Ways n (tree n) start → Fine c
        on (inl t) = comes-through code rows T Fine _ (λ d z. z.last) e (ahead w _ t)
        on (inr g) = (past w 0 g.1).1

    underway : (qs : List Ask) (i : ℕ) (m : Mach) → Walk code rows T start (at (ready i m) [] (reverse qs)) → Underway code rows T tree qs i m
    underway qs i m w = record { comes = comes; ever = ever }
      where
        stopped : (n k : ℕ) → let t = plays code rows k 0 i m in Lands code rows T (tree n) (at t.left [] (reverse_aux (asked T (t.reply ∷ [])) (reverse qs))) → Stopped code rows T tree (qs ++ asked T (t.reply ∷ [])) t.left
        stopped n k z =
            let more = asked T ((plays code rows k 0 i m).reply ∷ []) in
            record { rounds = n; stop = z.stop; asked = ap (λ l. l ++ more) (sym (reverse-reverse qs)) ∙ sym (reverse_aux-eq (reverse qs) more) ∙ sym (reverse_aux-reverse_aux-nil more (reverse qs)) ∙ z.asked }

        comes : (n : ℕ) → (tree n ≡ endless → ⊥) → (k : ℕ) × Stopped code rows T tree (qs ++ asked T ((plays code rows k 0 i m).reply ∷ [])) (plays code rows k 0 i m).left
        comes n f = on (way n)
          where
            on : Ways n (tree n) start → (k : ℕ) × Stopped code rows T tree (qs ++ asked T ((plays code rows k 0 i m).reply ∷ [])) (plays code rows k 0 i m).left
            on (inl t) = let r = comes-ends (tree n) (ahead w (tree n) t) (ready i m) (reverse qs) refl in (r.0, stopped n r.0 (r.1 0))
            on (inr g) = absurd (f g.0)

        ever : ((n : ℕ) → tree n ≡ endless) → (k : ℕ) → (plays code rows k 0 i m).reply ≡ spent k
        ever f k =
            let n = beyond code rows T w k in
            goes_spent k 0 i m (reverse qs) (past w k (subst (λ o. Follows code rows T W room H outside n o start) (f n) (follows n))) ∙ ap spent (omega arith)

    agrees_at : (qs : List Ask) (s : State) → Walk code rows T start (at s [] (reverse qs)) → Agrees code rows T tree qs s × Level code rows T W room H outside s
    agrees_at qs (ready i m) w = (underway qs i m w, level w refl)
    agrees_at qs (waits q u i m) w = let z = lands w refl in (record { rounds = beyond code rows T w 0; stop = z.stop; asked = sym (reverse-reverse qs) ∙ z.asked }, tt)
    agrees_at qs (ended e) w = let z = lands w refl in (record { rounds = beyond code rows T w 0; stop = z.stop; asked = sym (reverse-reverse qs) ∙ z.asked }, tt)
    agrees_at qs halted w = absurd (lands w refl).stop

-- ## After every list of calls

-- Where the fed player follows the tree's run under every feed, a player after every list of calls, declined ones
-- among them, agrees with the tree's run that is fed what was accepted, and stands at the heights of its place.
pub calls-agree :
    (code : List Instr) (rows : List Row) (T : Tables) (W : Writer) (room : ℕ) (H : ℕ → Heights) (outside : ℕ → Bool) (B : Block)
    → Distinct T
    → ((f : List Event) (n : ℕ) → Follows code rows T W room H outside n (run_script W.reading B f n) (conf (ready 0 (empty room)) (record { feed = f; asked = [] })))
    → (cs : List Call) → let rs = replies code rows (length T.names) cs (loaded room) in let s = after_calls code rows (length T.names) cs (loaded room) in
    Agrees code rows T (run_script W.reading B (fed T cs rs)) (asked T rs) s × Level code rows T W room H outside s
calls-agree code rows T W room H outside B D follows cs =
    let rs = replies code rows (length T.names) cs (loaded room) in
    let s = after_calls code rows (length T.names) cs (loaded room) in
    let f = fed T cs rs in
    agrees_at code rows T W room H outside (run_script W.reading B f) (at (loaded room) f []) (script-idle W.reading B f) (follows f) (asked T rs) s (calls-walk code rows T D cs (loaded room) [])

-- An operation outside segments is met at the heights of the place where it was set.
level-met :
    (ops : List Instr) (rows : List Row) (T : Tables) (W : Writer) (room : ℕ) (k : Bool) (B : Block) (M : Moved ops rows T W room k B) (s : State)
    → Level (set_code W rows ops) rows T W room M.heights M.outside s → MetAt W rows ops (λ j. M.heights (place_of W rows ops j)) s
level-met ops rows T W room k B M (ready i m) l = λ j b e p. l (ap M.outside p ∙ M.marks j b e) ∙ ap M.heights p
level-met ops rows T W room k B M (waits q u i m) l = tt
level-met ops rows T W room k B M (ended e) l = tt
level-met ops rows T W room k B M halted l = tt

-- The agreement, where set code stands and the fed player follows the tree's run on it.
pub agreement :
    (ops : List Instr) (rows : List Row) (T : Tables) (W : Writer) (room : ℕ) (k : Bool) (B : Block) (M : Moved ops rows T W room k B)
    → Distinct T
    → ((f : List Event) (n : ℕ) → Follows (set_code W rows ops) rows T W room M.heights M.outside n (run_script W.reading B f n) (conf (ready 0 (empty room)) (record { feed = f; asked = [] })))
    → Agreement B ops rows T W room
agreement ops rows T W room k B M D follows =
    let both = calls-agree (set_code W rows ops) rows T W room M.heights M.outside B D follows in
    record { heights = λ j. M.heights (place_of W rows ops j); agrees = λ cs. (both cs).0; met = λ cs. level-met ops rows T W room k B M _ (both cs).1 }
