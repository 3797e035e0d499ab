-- Scopes of the tree and slots of the player: each scope owns a run of slots, and what it has under a name is the
-- newest slot of that name in its run. Look-ups, puts, declarations, stores and unwinding keep this.
use Rattle.std.proofs.Common.{◌≡◌, ℕ, zero, suc, ◌+◌, ◌<◌, ◌≤◌, Bool, true, false, cond, ◌&&◌, eqb, List, [], ◌∷◌, ◌++◌, length, get_or, take, set, Some, None, Option, sym, refl, ap, ◌∙◌, subst, ap₂, subst₂, append_assoc, arith, length-append, take_all, take-take, take_at, eq-eqb, eqb-true}
use borrow.Author.Tests.{eqb-false}
use Rattle.code.specs.declared.ops.Instr.{Instr}
use Rattle.code.specs.declared.ops.Row.{Row}
use Rattle.code.specs.declared.talk.Slot.{Slot}
use Rattle.meaning.specs.Machine.{Locals, slot_at, newest_from, newest}
use Rattle.meaning.specs.Calls.{rewritten, rewritten_at}
use Rattle.meaning.specs.Throws.{keep}
use Rattle.meaning.specs.Reading.{Bytes, same_bytes, Cell, Scope, no_scope, or_else, seek, declares, sets_in, sets_inner}
use Rattle.meaning.specs.Fed.{Tables, name_at, place_from, number_of, cell_of, cell_at, find_slot, or_same, poke_at, poke_slot}
use Rattle.meaning.specs.Writer.{Writer, Lawful}
use Rattle.meaning.specs.Agreement.{Heights}
use Rattle.meaning.proofs.Place.{Scopes, flat, depth, resolve_from, resolve}
use Rattle.meaning.proofs.Slots.{keep-keep, keep_all, keep-cons, first, look, last_of, mod_here, modify, newest-last, Agrees, last-is, newest-is, no-some, lookup-look, look-++, mod_mark, mod-++, last_mark, last-++, changed, look-mod-same, look-mod-other, set-slot, Free, Firm, Below, firm-++, firm-take, firm-set, firm-above, below-le}

-- What the simulation is about: set code, its tables and its writer, and what is known of them.
pub record Env : Type 0 where
  pub code : List Instr
  pub rows : List Row
  pub T : Tables
  pub W : Writer
  pub room : ℕ
  pub H : ℕ → Heights
  pub free : ℕ → Bool
  pub exprs : ℕ
  pub law : Lawful T exprs W
  pub once : (x : ℕ) → x < length T.names → number_of T (name_at T x) ≡ Some x

-- ## Names and their numbers

same_bytes-true : (a b : Bytes) → same_bytes a b ≡ true → a ≡ b
same_bytes-true [] [] h = refl
same_bytes-true [] (y ∷ ys) h = let z : ◌≡◌ {A = ℕ} 0 1 = cc in absurd (omega arith)
same_bytes-true (x ∷ xs) [] h = let z : ◌≡◌ {A = ℕ} 0 1 = cc in absurd (omega arith)
same_bytes-true (x ∷ xs) (y ∷ ys) h = go (same_bytes-true xs ys) (eqb x y) refl h
  where
    go : (same_bytes xs ys ≡ true → xs ≡ ys) → (t : Bool) → eqb x y ≡ t → (t && same_bytes xs ys) ≡ true → ◌≡◌ {A = Bytes} (x ∷ xs) (y ∷ ys)
    go f true p q = ap₂ (λ (a : ℕ) (r : Bytes). a ∷ r) (eqb-true x y p) (f q)
    go f false p q = let z : ◌≡◌ {A = ℕ} 0 1 = cc in absurd (omega arith)

same_bytes-refl : (a : Bytes) → same_bytes a a ≡ true
same_bytes-refl [] = refl
same_bytes-refl (x ∷ xs) = ap₂ (λ (s t : Bool). s && t) (eq-eqb x x refl) (same_bytes-refl xs)

-- Two tests that follow from one another are one.
iff : (t u : Bool) → (t ≡ true → u ≡ true) → (u ≡ true → t ≡ true) → t ≡ u
iff true true f g = refl
iff true false f g = sym (f refl)
iff false true f g = g refl
iff false false f g = refl

placed : (b : Bytes) (i x : ℕ) (ns : List Bytes) → place_from b i ns ≡ Some x → (j : ℕ) × (x ≡ i + j) × (j < length ns) × (get_or ns j [] ≡ b)
placed b i x [] h = absurd (no-some h)
placed b i x (n ∷ ns) h = go (λ q. placed b (suc i) x ns q) (same_bytes n b) refl h
  where
    go : (place_from b (suc i) ns ≡ Some x → (j : ℕ) × (x ≡ suc i + j) × (j < length ns) × (get_or ns j [] ≡ b)) → (t : Bool) → same_bytes n b ≡ t → cond t (Some i) (place_from b (suc i) ns) ≡ Some x → (j : ℕ) × (x ≡ i + j) × (j < length (n ∷ ns)) × (get_or (n ∷ ns) j [] ≡ b)
    go f true p q = let z : i ≡ x = cc in (0, omega arith, omega arith, same_bytes-true n b p)
    go f false p q = let r = f q in (suc r.0, omega arith, omega arith, r.3)

-- A put: constants stay as they are.
abbrev pub poked : ℕ → Slot → Slot
poked h s = record { name = s.name; handle = cond s.constant s.handle h; constant = s.constant }

abbrev pub stored : ℕ → Bool → Slot → Slot
stored h k s = record { name = s.name; handle = h; constant = k }

-- The newest slot of a name is changed, if the name has a number.
abbrev pub modified : Option ℕ → (Slot → Slot) → List Slot → List Slot
modified None f ss = ss
modified (Some z) f ss = modify z f ss

-- The scopes of a loop are the outermost of those around its body.
pub data Ends (ls : Scopes) : Scopes → Type 0 where
  same : Ends ls ls
  under : {n : List Bytes} {ns : Scopes} → Ends ls ns → Ends ls (n ∷ ns)

pub ends-le : {ls ns : Scopes} → Ends ls ns → length ls ≤ length ns
ends-le same = omega arith
ends-le (under z) = let h = ends-le z in omega arith

pub ends-depth : {ls ns : Scopes} → Ends ls ns → depth ls ≤ depth ns
ends-depth same = omega arith
ends-depth (under z) = let h = ends-depth z in omega arith

-- A list with so many elements more.
abbrev pub Over : {A : Type 0} → ℕ → List A → List A → Type 0
Over zero xs ys = xs ≡ ys
Over (suc n) [] ys = ⊥
Over (suc n) (x ∷ xs) ys = Over n xs ys

-- A number of the table and its name.
abbrev pub Named : Env → ℕ → Bytes → Type 0
Named E d x = (d < length E.T.names) × (name_at E.T d ≡ x)

abbrev pub matches : Option ℕ → ℕ → Bool
matches None d = false
matches (Some z) d = eqb d z

-- Names of slots, from the oldest on.
abbrev pub Spell : Env → List Slot → List Bytes → Type 0
Spell E [] [] = Unit {0}
Spell E [] (b ∷ bs) = ⊥
Spell E (s ∷ ss) [] = ⊥
Spell E (s ∷ ss) (b ∷ bs) = Named E s.name b × Spell E ss bs

abbrev pub newest_of : Option ℕ → ℕ → Option ℕ → List Slot → Option ℕ
newest_of None i o ss = o
newest_of (Some z) i o ss = newest_from z i o ss

abbrev pub cells : Option ℕ → List Slot → Option Cell
cells None ss = None
cells (Some x) ss = cell_of (look x ss)

abbrev pub locals : Env → List Slot → Locals
locals E live = record { room = E.room; live = live }

module _ (E : Env) where
  pub numbered : {d : ℕ} {x : Bytes} → Named E d x → number_of E.T x ≡ Some d
  numbered {d} h = ap (number_of E.T) (sym h.1) ∙ E.once d h.0

  pub number-names : (b : Bytes) (x : ℕ) → number_of E.T b ≡ Some x → Named E x b
  number-names b x h =
      let r = placed b 0 x E.T.names h in
      let z : r.0 ≡ x = omega arith in
      (omega arith, subst (λ (y : ℕ). name_at E.T y ≡ b) z r.3)

  -- Bytes are compared by numbers.
  pub same_number : {d : ℕ} {y : Bytes} (x : Bytes) → Named E d y → same_bytes y x ≡ matches (number_of E.T x) d
  same_number {d} {y} x h = go (number_of E.T x) refl
    where
      go : (o : Option ℕ) → number_of E.T x ≡ o → same_bytes y x ≡ matches o d
      go None p = iff (same_bytes y x) false (λ q. absurd (no-some (sym p ∙ ap (number_of E.T) (sym (same_bytes-true y x q)) ∙ numbered h))) (λ q. let z : ◌≡◌ {A = ℕ} 0 1 = cc in absurd (omega arith))
      go (Some z) p = iff (same_bytes y x) (eqb d z)
          (λ q. let e : Some d ≡ Some z = sym (numbered h) ∙ ap (number_of E.T) (same_bytes-true y x q) ∙ p in eq-eqb d z (cc))
          (λ q. let e : y ≡ x = sym h.1 ∙ ap (name_at E.T) (eqb-true d z q) ∙ (number-names x z p).1 in ap (λ (b : Bytes). same_bytes b x) e ∙ same_bytes-refl x)

  -- The same, where the name sought is known by its number.
  pub same-number' : {d : ℕ} {y : Bytes} (x : Bytes) → Named E d y → same_bytes x y ≡ matches (number_of E.T x) d
  same-number' {d} {y} x h = iff (same_bytes x y) (same_bytes y x) (λ q. ap (λ (b : Bytes). same_bytes b x) (sym (same_bytes-true x y q)) ∙ same_bytes-refl x) (λ q. ap (λ (b : Bytes). same_bytes b y) (sym (same_bytes-true y x q)) ∙ same_bytes-refl y) ∙ same_number x h

  spell-length : (ss : List Slot) (bs : List Bytes) → Spell E ss bs → length ss ≡ length bs
  spell-length [] [] h = refl
  spell-length [] (b ∷ bs) h = absurd h
  spell-length (s ∷ ss) [] h = absurd h
  spell-length (s ∷ ss) (b ∷ bs) h = ap suc (spell-length ss bs h.1)

  spell-++ : (xs : List Slot) (cs : List Bytes) (ys : List Slot) (bs : List Bytes) → Spell E xs cs → Spell E ys bs → Spell E (xs ++ ys) (cs ++ bs)
  spell-++ [] [] ys bs h k = k
  spell-++ [] (a ∷ cs) ys bs h k = absurd h
  spell-++ (x ∷ xs) [] ys bs h k = absurd h
  spell-++ (x ∷ xs) (a ∷ cs) ys bs h k = (h.0, spell-++ xs cs ys bs h.1 k)

  spell-mod : (x : ℕ) (f : Slot → Slot) → ((s : Slot) → (f s).name ≡ s.name) → (ss : List Slot) (bs : List Bytes) → Spell E ss bs → Spell E (modify x f ss) bs
  spell-mod x f k [] bs h = h
  spell-mod x f k (s ∷ ss) [] h = absurd h
  spell-mod x f k (s ∷ ss) (b ∷ bs) h = go (look x ss) (eqb s.name x) (spell-mod x f k ss bs h.1)
    where
      go : (o : Option Slot) (t : Bool) → Spell E (modify x f ss) bs → Spell E (mod_here o t f s ss (modify x f ss)) (b ∷ bs)
      go None true r = (subst (λ (n : ℕ). Named E n b) (sym (k s)) h.0, h.1)
      go None false r = h
      go (Some z) t r = (h.0, r)

  -- A name is resolved to its newest slot.
  resolved : (x : Bytes) (i : ℕ) (o : Option ℕ) (ss : List Slot) (bs : List Bytes) → Spell E ss bs → resolve_from x i o bs ≡ newest_of (number_of E.T x) i o ss
  resolved x i o [] [] h = go (number_of E.T x)
    where
      go : (n : Option ℕ) → o ≡ newest_of n i o []
      go None = refl
      go (Some z) = refl
  resolved x i o [] (b ∷ bs) h = absurd h
  resolved x i o (s ∷ ss) [] h = absurd h
  resolved x i o (s ∷ ss) (b ∷ bs) h = ap (λ (t : Bool). resolve_from x (i + 1) (cond t (Some i) o) bs) (same_number x h.0) ∙ resolved x (i + 1) (cond (matches (number_of E.T x) s.name) (Some i) o) ss bs h.1 ∙ go (number_of E.T x)
    where
      go : (n : Option ℕ) → newest_of n (i + 1) (cond (matches n s.name) (Some i) o) ss ≡ newest_of n i o (s ∷ ss)
      go None = refl
      go (Some z) = refl

  pub find-cells : (b : Bytes) (live : List Slot) → find_slot E.T b (locals E live) ≡ cells (number_of E.T b) live
  find-cells b live = go (number_of E.T b)
    where
      go : (o : Option ℕ) → cell_at o (locals E live) ≡ cells o live
      go None = refl
      go (Some x) = ap cell_of (lookup-look x live)

  -- ## The relation

  pub record Part (n : List Bytes) (s : Scope) (live rest seg : List Slot) : Type 0 where
    pub all : live ≡ rest ++ seg
    pub spelled : Spell E seg n
    pub looks : (b : Bytes) → cells (number_of E.T b) seg ≡ s b

  pub data Runs : Scopes → List Scope → List Slot → Type 0 where
    bottom : Runs [] [] []
    scope : {n : List Bytes} {ns : Scopes} {s : Scope} {ss : List Scope} {live rest : List Slot} (seg : List Slot) → Part n s live rest seg → Runs ns ss rest → Runs (n ∷ ns) (s ∷ ss) live

  -- The slots listed, loop variables, are not constant.
  pub record Rel (js : List ℕ) (ns : Scopes) (ss : List Scope) (live : List Slot) : Type 0 where
    pub runs : Runs ns ss live
    pub firm : Firm js live

  cells-++ : (o : Option ℕ) (xs ys : List Slot) → cells o (xs ++ ys) ≡ or_else (cells o ys) (cells o xs)
  cells-++ None xs ys = refl
  cells-++ (Some x) xs ys = ap cell_of (look-++ x xs ys) ∙ go (look x ys)
    where
      go : (o : Option Slot) → cell_of (first o (look x xs)) ≡ or_else (cell_of o) (cell_of (look x xs))
      go None = refl
      go (Some s) = refl

  -- A name is found alike.
  cells-seek : {ns : Scopes} {ss : List Scope} {live : List Slot} (b : Bytes) → Runs ns ss live → cells (number_of E.T b) live ≡ seek b ss
  cells-seek b bottom = go (number_of E.T b)
    where
      go : (o : Option ℕ) → cells o [] ≡ None
      go None = refl
      go (Some x) = refl
  cells-seek b (scope {s} {ss} {rest} seg p r) = ap (cells (number_of E.T b)) p.all ∙ cells-++ (number_of E.T b) rest seg ∙ ap₂ or_else (p.looks b) (cells-seek b r)

  pub look-agrees : {js : List ℕ} {ns : Scopes} {ss : List Scope} {live : List Slot} (b : Bytes) → Rel js ns ss live → find_slot E.T b (locals E live) ≡ seek b ss
  look-agrees {live} b r = find-cells b live ∙ cells-seek b r.runs

  -- ## Heights
  runs-names : {ns : Scopes} {ss : List Scope} {live : List Slot} → Runs ns ss live → Spell E live (flat ns)
  runs-names bottom = tt
  runs-names (scope {n} {ns} {rest} seg p r) = subst (λ (q : List Slot). Spell E q (flat ns ++ n)) (sym p.all) (spell-++ rest (flat ns) seg n (runs-names r) p.spelled)

  runs-length : {ns : Scopes} {ss : List Scope} {live : List Slot} → Runs ns ss live → length live ≡ depth ns
  runs-length bottom = refl
  runs-length (scope {n} {rest} seg p r) = ap length p.all ∙ length-append rest seg ∙ let a = runs-length r in let b = spell-length seg n p.spelled in omega arith

  pub rel-length : {js : List ℕ} {ns : Scopes} {ss : List Scope} {live : List Slot} → Rel js ns ss live → length live ≡ depth ns
  rel-length r = runs-length r.runs

  runs-scopes : {ns : Scopes} {ss : List Scope} {live : List Slot} → Runs ns ss live → length ss ≡ length ns
  runs-scopes bottom = refl
  runs-scopes (scope seg p r) = ap suc (runs-scopes r)

  pub rel-scopes : {js : List ℕ} {ns : Scopes} {ss : List Scope} {live : List Slot} → Rel js ns ss live → length ss ≡ length ns
  rel-scopes r = runs-scopes r.runs

  -- ## A scope opens and closes
  pub opens : {js : List ℕ} {ns : Scopes} {ss : List Scope} {live : List Slot} → Rel js ns ss live → Rel js ([] ∷ ns) (no_scope ∷ ss) live
  opens {live} r = record { runs = scope [] (record { all = sym (nothing live); spelled = tt; looks = λ b. none (number_of E.T b) }) r.runs; firm = r.firm }
    where
      nothing : (xs : List Slot) → xs ++ [] ≡ xs
      nothing [] = refl
      nothing (x ∷ xs) = ap {B = List Slot} (λ q. x ∷ q) (nothing xs)

      none : (o : Option ℕ) → cells o [] ≡ None
      none None = refl
      none (Some x) = refl

  runs-closes : {n : List Bytes} {ns : Scopes} {ss : List Scope} {live : List Slot} → Runs (n ∷ ns) ss live → Runs ns (keep (length ns) ss) (take (depth ns) live)
  runs-closes {ns} (scope {s} {ss} {live} {rest} seg p r) = subst₂ (λ (x : List Scope) (y : List Slot). Runs ns x y) (sym one) (sym two) r
    where
      one : keep (length ns) (s ∷ ss) ≡ ss
      one = ap (λ (k : ℕ). keep k (s ∷ ss)) (sym (runs-scopes r)) ∙ keep-cons s ss

      two : take (depth ns) live ≡ rest
      two = ap (take (depth ns)) p.all ∙ take_at rest seg (depth ns) (runs-length r)

  pub closes : {js : List ℕ} {n : List Bytes} {ns : Scopes} {ss : List Scope} {live : List Slot} → Below js (depth ns) → Rel js (n ∷ ns) ss live → Rel js ns (keep (length ns) ss) (take (depth ns) live)
  closes {js} {ns} {live} b r = record { runs = runs-closes r.runs; firm = firm-take js (depth ns) live r.firm b }

  take_exact : (d : ℕ) (live : List Slot) → length live ≡ d → take d live ≡ live
  take_exact d live h = take_all d live (omega arith)

  pub whole : {js : List ℕ} {ns : Scopes} {ss : List Scope} {live : List Slot} → Rel js ns ss live → Rel js ns (keep (length ns) ss) (take (depth ns) live)
  whole {js} {ns} {ss} {live} r = subst₂ (λ (x : List Scope) (y : List Slot). Rel js ns x y) (sym (keep_all ss (length ns) (rel-scopes r))) (sym (take_exact (depth ns) live (rel-length r))) r

  -- ## A declaration
  pub declared-rel : {js : List ℕ} {n : List Bytes} {ns : Scopes} {ss : List Scope} {live : List Slot} (d : ℕ) (x : Bytes) (h : ℕ) (k : Bool) → Named E d x → Rel js (n ∷ ns) ss live
      → Rel js ((n ++ x ∷ []) ∷ ns) (declares x (record { handle = h; constant = k }) ss) (live ++ record { name = d; handle = h; constant = k } ∷ [])
  declared-rel {js} {n} {ns} {ss} {live} d x h k nm r = record { runs = go r.runs; firm = firm-++ js live _ r.firm }
    where
      new : Slot
      new = record { name = d; handle = h; constant = k }

      cell : Cell
      cell = record { handle = h; constant = k }

      one : (o : Option ℕ) → cells o (new ∷ []) ≡ cond (matches o d) (Some cell) None
      one None = refl
      one (Some z) = two (eqb d z)
        where
          two : (t : Bool) → cell_of (cond t (Some new) None) ≡ cond t (Some cell) None
          two true = refl
          two false = refl

      three : (t : Bool) (o : Option Cell) → or_else (cond t (Some cell) None) o ≡ cond t (Some cell) o
      three true o = refl
      three false o = refl

      go : {ss : List Scope} → Runs (n ∷ ns) ss live → Runs ((n ++ x ∷ []) ∷ ns) (declares x cell ss) (live ++ new ∷ [])
      go (scope {s} {rest} seg p q) = scope (seg ++ new ∷ [])
          (record {
            all = ap (λ (y : List Slot). y ++ new ∷ []) p.all ∙ append_assoc rest seg (new ∷ []);
            spelled = spell-++ seg n (new ∷ []) (x ∷ []) p.spelled (nm, tt);
            looks = λ b. cells-++ (number_of E.T b) seg (new ∷ []) ∙ ap₂ or_else (one (number_of E.T b)) (p.looks b) ∙ three (matches (number_of E.T b) d) (s b) ∙ ap (λ (t : Bool). cond t (Some cell) (s b)) (sym (same-number' b nm));
          }) q

  -- ## A change of the newest slot of a name

  -- What a run's scope has under each name after it.
  looks-mod : (b x : Bytes) (z : ℕ) (f : Slot → Slot) → ((s : Slot) → (f s).name ≡ s.name) → (seg : List Slot) (s : Slot) (c : Option Cell) → number_of E.T x ≡ Some z → look z seg ≡ Some s → cells (number_of E.T b) seg ≡ c
      → cells (number_of E.T b) (modify z f seg) ≡ cond (same_bytes b x) (cell_of (Some (f s))) c
  looks-mod b x z f k seg s c p q h = go (number_of E.T b) h ∙ ap (λ (t : Bool). cond t (cell_of (Some (f s))) c) (sym (same-number' b (number-names x z p)))
    where
      this : (y : ℕ) → cell_of (look y seg) ≡ c → (t : Bool) → eqb z y ≡ t → cell_of (look y (modify z f seg)) ≡ cond t (cell_of (Some (f s))) c
      this y h true e = ap (λ (n : ℕ). cell_of (look n (modify z f seg))) (sym (eqb-true z y e)) ∙ ap cell_of (look-mod-same z f k seg ∙ ap (changed f) q)
      this y h false e = ap cell_of (look-mod-other z y f k (eqb-false z y e) seg) ∙ h

      go : (o : Option ℕ) → cells o seg ≡ c → cells o (modify z f seg) ≡ cond (matches o z) (cell_of (Some (f s))) c
      go None h = h
      go (Some y) h = this y h (eqb z y) refl

  -- A put reaches the innermost scope that has the name.
  runs-put : {ns : Scopes} {ss : List Scope} {live : List Slot} (x : Bytes) (h : ℕ) → Runs ns ss live → Runs ns (sets_inner x h ss) (modified (number_of E.T x) (poked h) live)
  runs-put x h bottom = go (number_of E.T x)
    where
      go : (o : Option ℕ) → Runs [] [] (modified o (poked h) [])
      go None = bottom
      go (Some z) = bottom
  runs-put x h (scope {n} {ns} {s} {ss} {live} {rest} seg p r) = go (number_of E.T x) refl (runs-put x h r)
    where
      in-run : (z : ℕ) → number_of E.T x ≡ Some z → (o : Option Slot) → look z seg ≡ o → Runs ns (sets_inner x h ss) (modify z (poked h) rest) → Runs (n ∷ ns) (sets_in x h (cell_of o) s ss (sets_inner x h ss)) (modify z (poked h) live)
      in-run z e None q t = scope seg (record { all = ap (modify z (poked h)) p.all ∙ mod-++ z (poked h) rest seg ∙ ap (mod_mark z (poked h) rest seg) q; spelled = p.spelled; looks = p.looks }) t
      in-run z e (Some a) q t = scope (modify z (poked h) seg)
          (record {
            all = ap (modify z (poked h)) p.all ∙ mod-++ z (poked h) rest seg ∙ ap (mod_mark z (poked h) rest seg) q;
            spelled = spell-mod z (poked h) (λ u. refl) seg n p.spelled;
            looks = λ b. looks-mod b x z (poked h) (λ u. refl) seg a (s b) e q (p.looks b);
          }) r

      go : (o : Option ℕ) → number_of E.T x ≡ o → Runs ns (sets_inner x h ss) (modified o (poked h) rest) → Runs (n ∷ ns) (sets_in x h (s x) s ss (sets_inner x h ss)) (modified o (poked h) live)
      go None e t = subst (λ (c : Option Cell). Runs (n ∷ ns) (sets_in x h c s ss (sets_inner x h ss)) live) (ap (λ (o : Option ℕ). cells o seg) (sym e) ∙ p.looks x) (scope seg (record { all = p.all; spelled = p.spelled; looks = p.looks }) t)
      go (Some z) e t = subst (λ (c : Option Cell). Runs (n ∷ ns) (sets_in x h c s ss (sets_inner x h ss)) (modify z (poked h) live)) (ap (λ (o : Option ℕ). cells o seg) (sym e) ∙ p.looks x) (in-run z e (look z seg) refl t)

  -- Where the newest slot of a number stands, changing it there.
  pub at-newest : (js : List ℕ) (z : ℕ) (f : Slot → Slot) → ((s : Slot) → (f s).constant ≡ s.constant) → (live : List Slot) (o : Option ℕ) → Agrees z f live o → Firm js live → Firm js (modify z f live)
  at-newest js z f k live None g h = subst (λ (q : List Slot). Firm js q) (sym g.1) h
  at-newest js z f k live (Some i) g h = subst (λ (q : List Slot). Firm js q) g.3 (firm-set js i live g.0 (f g.0) g.1 (k g.0) h)

  -- What the player's put does.
  pokes : (x : Bytes) (h : ℕ) (live : List Slot) → poke_slot E.T x h (locals E live) ≡ locals E (modified (number_of E.T x) (poked h) live)
  pokes x h live = go (number_of E.T x)
    where
      at_slot : (i : ℕ) (s : Slot) → slot_at i live ≡ Some s → (t : Bool) → s.constant ≡ t → or_same (cond t None (Some (record { room = E.room; live = set live i (record { name = s.name; handle = h; constant = s.constant }) }))) (locals E live) ≡ locals E (set live i (record { name = s.name; handle = cond t s.handle h; constant = s.constant }))
      at_slot i s e true q = ap (locals E) (sym (set-slot i live s e))
      at_slot i s e false q = refl

      found : (z : ℕ) (o : Option ℕ) → Agrees z (poked h) live o → or_same (rewritten_at o h (locals E live)) (locals E live) ≡ locals E (modify z (poked h) live)
      found z None g = ap (locals E) (sym g.1)
      found z (Some i) g = ap (λ (u : Option Slot). or_same (rewritten i h u (locals E live)) (locals E live)) g.1 ∙ at_slot i g.0 g.1 g.0.constant refl ∙ ap (locals E) g.3

      go : (o : Option ℕ) → poke_at o h (locals E live) ≡ locals E (modified o (poked h) live)
      go None = refl
      go (Some z) = found z (newest z live) (newest-is z (poked h) live)

  pub puts : {js : List ℕ} {ns : Scopes} {ss : List Scope} {live : List Slot} (x : Bytes) (h : ℕ) → Rel js ns ss live
      → (after : List Slot) × (poke_slot E.T x h (locals E live) ≡ locals E after) × Rel js ns (sets_inner x h ss) after
  puts {js} {live} x h r = (modified (number_of E.T x) (poked h) live, pokes x h live, record { runs = runs-put x h r.runs; firm = go (number_of E.T x) })
    where
      go : (o : Option ℕ) → Firm js (modified o (poked h) live)
      go None = r.firm
      go (Some z) = at-newest js z (poked h) (λ s. refl) live (last_of z live) (last-is z (poked h) live) r.firm

  -- ## The newest slot of a name by its place

  newest-from : (z : ℕ) (ss : List Slot) → newest_from z 0 None ss ≡ newest z ss
  unfolding newest
  newest-from z ss = refl

  -- A name that is resolved to a slot, or to none.
  abbrev pub Resolved : Option ℕ → Bytes → List Scope → List Slot → Type 0
  Resolved None x ss live = seek x ss ≡ None
  Resolved (Some i) x ss live = (s : Slot) × (slot_at i live ≡ Some s) × (seek x ss ≡ Some (record { handle = s.handle; constant = s.constant }))

  pub resolves : {js : List ℕ} {ns : Scopes} {ss : List Scope} {live : List Slot} (x : Bytes) → Rel js ns ss live → Resolved (resolve x ns) x ss live
  resolves {ns} {ss} {live} x r = subst (λ (o : Option ℕ). Resolved o x ss live) (sym (resolved x 0 None live (flat ns) (runs-names r.runs))) (go (number_of E.T x) (sym (cells-seek x r.runs)))
    where
      some : (z : ℕ) (o : Option ℕ) → Agrees z (λ s. s) live o → seek x ss ≡ cell_of (look z live) → Resolved o x ss live
      some z None g e = e ∙ ap cell_of g.0
      some z (Some i) g e = (g.0, g.1, e ∙ ap cell_of g.2)

      go : (o : Option ℕ) → seek x ss ≡ cells o live → Resolved (newest_of o 0 None live) x ss live
      go None e = e
      go (Some z) e = subst (λ (o : Option ℕ). Resolved o x ss live) (sym (newest-from z live)) (some z (newest z live) (newest-is z (λ s. s) live) e)

  -- A slot that is not constant is assigned to.
  pub assigns-rel : {js : List ℕ} {ns : Scopes} {ss : List Scope} {live : List Slot} (x : Bytes) (h i : ℕ) (s : Slot) → resolve x ns ≡ Some i → slot_at i live ≡ Some s → s.constant ≡ false → Rel js ns ss live
      → Rel js ns (sets_inner x h ss) (set live i (record { name = s.name; handle = h; constant = s.constant }))
  assigns-rel {js} {ns} {ss} {live} x h i s e p q r =
      record { runs = subst (λ (l : List Slot). Runs ns (sets_inner x h ss) l) (go (number_of E.T x) (sym (resolved x 0 None live (flat ns) (runs-names r.runs)) ∙ e)) (runs-put x h r.runs); firm = firm-set js i live s _ p refl r.firm }
    where
      same : (z : ℕ) (o : Option ℕ) → o ≡ Some i → Agrees z (poked h) live o → modify z (poked h) live ≡ set live i (record { name = s.name; handle = h; constant = s.constant })
      same z None w g = absurd (no-some w)
      same z (Some j) w g =
          let ji : j ≡ i = cc in
          let e₁ : Some g.0 ≡ Some s = sym g.1 ∙ ap (λ (n : ℕ). slot_at n live) ji ∙ p in
          let e₂ : g.0 ≡ s = cc in
          sym g.3 ∙ ap₂ (λ (n : ℕ) (u : Slot). set live n (poked h u)) ji e₂ ∙ ap (λ (t : Bool). set live i (record { name = s.name; handle = cond t s.handle h; constant = s.constant })) q

      go : (o : Option ℕ) → newest_of o 0 None live ≡ Some i → modified o (poked h) live ≡ set live i (record { name = s.name; handle = h; constant = s.constant })
      go None w = absurd (no-some w)
      go (Some z) w = same z (newest z live) (sym (newest-from z live) ∙ w) (newest-is z (poked h) live)

  -- A name of the innermost scope is declared anew in its slot.
  pub stores-rel : {js : List ℕ} {n : List Bytes} {ns : Scopes} {ss : List Scope} {live : List Slot} (x : Bytes) (h : ℕ) (k : Bool) (i : ℕ) (s : Slot) → resolve x (n ∷ ns) ≡ Some i → depth ns ≤ i → slot_at i live ≡ Some s → Firm js (set live i (stored h k s)) → Rel js (n ∷ ns) ss live
      → Rel js (n ∷ ns) (declares x (record { handle = h; constant = k }) ss) (set live i (stored h k s))
  stores-rel {js} {n} {ns} {ss} {live} x h k i s e d p fm r = record { runs = go (number_of E.T x) refl (sym (resolved x 0 None live (flat (n ∷ ns)) (runs-names r.runs)) ∙ e) r.runs; firm = fm }
    where
      cell : Cell
      cell = record { handle = h; constant = k }

      same : (z : ℕ) (o : Option ℕ) → o ≡ Some i → Agrees z (stored h k) live o → modify z (stored h k) live ≡ set live i (stored h k s)
      same z None w g = absurd (no-some w)
      same z (Some j) w g =
          let ji : j ≡ i = cc in
          let e₁ : Some g.0 ≡ Some s = sym g.1 ∙ ap (λ (m : ℕ). slot_at m live) ji ∙ p in
          let e₂ : g.0 ≡ s = cc in
          sym g.3 ∙ ap₂ (λ (m : ℕ) (u : Slot). set live m (stored h k u)) ji e₂

      -- the newest slot of the name is of the innermost run
      within : (z : ℕ) (rest seg : List Slot) → length rest ≡ depth ns → (a b : Option ℕ) → last_mark (length rest) a b ≡ Some i → Agrees z (stored h k) seg a → Agrees z (stored h k) rest b → (u : Slot) × (look z seg ≡ Some u)
      within z rest seg l (Some j) b w g g' = (g.0, g.2)
      within z rest seg l None None w g g' = absurd (no-some w)
      within z rest seg l None (Some j) w g g' = let ji : j ≡ i = cc in let lt = g'.4 in absurd (omega arith)

      go : (o : Option ℕ) → number_of E.T x ≡ o → newest_of o 0 None live ≡ Some i → {ss : List Scope} → Runs (n ∷ ns) ss live → Runs (n ∷ ns) (declares x cell ss) (set live i (stored h k s))
      go None q w t = absurd (no-some w)
      go (Some z) q w (scope {s = sc} {rest} seg pt t) =
          let w' : newest z live ≡ Some i = sym (newest-from z live) ∙ w in
          let v = within z rest seg (runs-length t) (last_of z seg) (last_of z rest) (sym (last-++ z rest seg) ∙ ap (last_of z) (sym pt.all) ∙ sym (newest-last z live) ∙ w') (last-is z (stored h k) seg) (last-is z (stored h k) rest) in
          scope (modify z (stored h k) seg)
          (record {
            all = sym (same z (newest z live) w' (newest-is z (stored h k) live)) ∙ ap (modify z (stored h k)) pt.all ∙ mod-++ z (stored h k) rest seg ∙ ap (mod_mark z (stored h k) rest seg) v.1;
            spelled = spell-mod z (stored h k) (λ u. refl) seg n pt.spelled;
            looks = λ b. looks-mod b x z (stored h k) (λ u. refl) seg v.0 (sc b) q v.1 (pt.looks b);
          }) t

  -- The slot of such a name.
  pub reused : {js : List ℕ} {n : List Bytes} {ns : Scopes} {ss : List Scope} {live : List Slot} (x : Bytes) (h : ℕ) (k : Bool) (i : ℕ) → resolve x (n ∷ ns) ≡ Some i → depth ns ≤ i → Below js (depth ns) → Rel js (n ∷ ns) ss live
      → (s : Slot) × (slot_at i live ≡ Some s) × Rel js (n ∷ ns) (declares x (record { handle = h; constant = k }) ss) (set live i (stored h k s))
  reused {js} {n} {ns} {ss} {live} x h k i e d b r =
      let z : Resolved (Some i) x ss live = subst (λ (o : Option ℕ). Resolved o x ss live) e (resolves x r) in
      (z.0, z.1, stores-rel x h k i z.0 e d z.1 (firm-above js i live (stored h k z.0) (below-le js b d) r.firm) r)

  resolve-own : (x : Bytes) (i : ℕ) (o : Option ℕ) (bs : List Bytes) → resolve_from x i o (bs ++ x ∷ []) ≡ Some (i + length bs)
  resolve-own x i o [] = ap (λ (t : Bool). cond t (Some i) o) (same_bytes-refl x) ∙ ap {B = Option ℕ} Some (omega arith)
  resolve-own x i o (b ∷ bs) = resolve-own x (i + 1) (cond (same_bytes b x) (Some i) o) bs ∙ ap {B = Option ℕ} Some (omega arith)

  -- The one slot of a loop variable is stored to.
  pub shares : {js : List ℕ} {x : Bytes} {ns : Scopes} {ss : List Scope} {live : List Slot} (h : ℕ) → Rel (depth ns ∷ js) ((x ∷ []) ∷ ns) ss live
      → (s : Slot) × (slot_at (depth ns) live ≡ Some s) × Rel (depth ns ∷ js) ((x ∷ []) ∷ ns) (declares x (record { handle = h; constant = false }) ss) (set live (depth ns) (record { name = s.name; handle = h; constant = s.constant }))
  shares {js} {x} {ns} {ss} {live} h r =
      let s = r.firm.0.0 in let p = r.firm.0.1 in let q = r.firm.0.2 in (
        s,
        p,
        subst (λ (t : Bool). Rel (depth ns ∷ js) ((x ∷ []) ∷ ns) (declares x (record { handle = h; constant = false }) ss) (set live (depth ns) (record { name = s.name; handle = h; constant = t }))) (sym q)
            (stores-rel x h false (depth ns) s own (omega arith) p (firm-set (depth ns ∷ js) (depth ns) live s (stored h false s) p (sym q) r.firm) r),
      )
    where
      flat-length : (ns : Scopes) → length (flat ns) ≡ depth ns
      flat-length [] = refl
      flat-length (n ∷ ns) = length-append (flat ns) n ∙ let z = flat-length ns in omega arith

      own : resolve x ((x ∷ []) ∷ ns) ≡ Some (depth ns)
      own = resolve-own x 0 None (flat ns) ∙ ap {B = Option ℕ} Some (let z = flat-length ns in omega arith)

  -- A loop variable is new, and unit.
  pub introduces : {js : List ℕ} {ns : Scopes} {ss : List Scope} {live : List Slot} (d : ℕ) (x : Bytes) → Named E d x → Rel js ns ss live
      → Rel (depth ns ∷ js) ((x ∷ []) ∷ ns) (declares x (record { handle = 0; constant = false }) (no_scope ∷ ss)) (live ++ record { name = d; handle = 0; constant = false } ∷ [])
  introduces {js} {ns} {ss} {live} d x nm r = let z = declared-rel d x 0 false nm (opens r) in record { runs = z.runs; firm = (new live (depth ns) (rel-length r), z.firm) }
    where
      new : (xs : List Slot) (n : ℕ) → length xs ≡ n → Free n (xs ++ record { name = d; handle = 0; constant = false } ∷ [])
      new xs n e = subst (λ (m : ℕ). Free m (xs ++ record { name = d; handle = 0; constant = false } ∷ [])) e (end xs)
        where
          end : (xs : List Slot) → Free (length xs) (xs ++ record { name = d; handle = 0; constant = false } ∷ [])
          end [] = (record { name = d; handle = 0; constant = false }, refl, refl)
          end (y ∷ ys) = end ys

  -- ## The scopes of a loop are the outermost of those around its body
  pub drop_to : {ls ns : Scopes} {js : List ℕ} {ss : List Scope} {live : List Slot} → Ends ls ns → Below js (depth ls) → Rel js ns ss live → Rel js ls (keep (length ls) ss) (take (depth ls) live)
  drop_to same b r = whole r
  drop_to {ls} {js} {ss} {live} (under {ns} z) b r = subst₂ (λ (x : List Scope) (y : List Slot). Rel js ls x y) (keep-keep (length ls) (length ns) ss (ends-le z)) (take-take (depth ls) (depth ns) live (ends-depth z)) (drop_to z b (closes (below-le js b (ends-depth z)) r))

  -- Fewer slots are known to be free.
  pub forgets : {ns : Scopes} {ss : List Scope} {live : List Slot} (k : ℕ) (js : List ℕ) {js' : List ℕ} → Over k js js' → Rel js ns ss live → Rel js' ns ss live
  forgets {ns} {ss} {live} zero js o r = subst (λ (q : List ℕ). Rel q ns ss live) o r
  forgets (suc k) [] o r = absurd o
  forgets (suc k) (j ∷ js) o r = forgets k js o (record { runs = r.runs; firm = r.firm.1 })
