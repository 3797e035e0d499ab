-- Slots of a name, told by recursion on the list: what the newest slot of a name is, and the slots with it changed.
use Rattle.std.proofs.Common.{◌≡◌, ℕ, zero, suc, ◌+◌, ◌-◌, ◌<◌, ◌≤◌, Bool, true, false, cond, eqb, List, [], ◌∷◌, ◌++◌, length, take, drop, set, Some, None, Option, sym, refl, ap, ◌∙◌, subst, ap₂, arith, length-drop, drop-drop, ne_eqb, eqb-true}
use native.Mathlib.Nat.{sub-zero}
use lib.Seq.{drop-length}
use Rattle.code.specs.declared.talk.Slot.{Slot}
use Rattle.meaning.specs.Machine.{slot_at, newest_from, newest}
use Rattle.meaning.specs.Calls.{slot_of, lookup}
use Rattle.meaning.specs.Throws.{keep}

-- ## The oldest of a list

module _ {ℓ} {A : Type ℓ} where
  pub keep-keep : (d d' : ℕ) (e : List A) → d ≤ d' → keep d (keep d' e) ≡ keep d e
  keep-keep d d' e h =
      let z : (length e - d') + (length (drop (length e - d') e) - d) ≡ length e - d = simp length-drop (omega arith) in
      drop-drop (length (drop (length e - d') e) - d) (length e - d') e ∙ ap (λ (k : ℕ). drop k e) z

  pub keep_all : (e : List A) (d : ℕ) → length e ≡ d → keep d e ≡ e
  keep_all e d h = let z : length e - d ≡ 0 = omega arith in rw z

  pub keep-none : (e : List A) → keep 0 e ≡ []
  keep-none e = rw sub-zero (drop-length e)

  pub keep-cons : (x : A) (e : List A) → keep (length e) (x ∷ e) ≡ e
  keep-cons x e = let z : suc (length e) - length e ≡ 1 = omega arith in rw z

  pub keep-length : (e : List A) (d : ℕ) → length e ≡ suc d → length (keep d e) ≡ d
  keep-length e d h = simp length-drop (omega arith)

-- ## The newest slot of a name

abbrev pub first : Option Slot → Option Slot → Option Slot
first None d = d
first (Some s) d = Some s

abbrev pub one_of : ℕ → Slot → Option Slot
one_of x s = cond (eqb s.name x) (Some s) None

abbrev pub look : ℕ → List Slot → Option Slot
look x [] = None
look x (s ∷ ss) = first (look x ss) (one_of x s)

abbrev pub last_in : Option ℕ → Bool → Option ℕ
last_in (Some j) t = Some (suc j)
last_in None true = Some zero
last_in None false = None

abbrev pub last_of : ℕ → List Slot → Option ℕ
last_of x [] = None
last_of x (s ∷ ss) = last_in (last_of x ss) (eqb s.name x)

-- The newest slot of a name is changed.
abbrev pub mod_here : Option Slot → Bool → (Slot → Slot) → Slot → List Slot → List Slot → List Slot
mod_here (Some z) t f s ss r = s ∷ r
mod_here None true f s ss r = f s ∷ ss
mod_here None false f s ss r = s ∷ ss

abbrev pub modify : ℕ → (Slot → Slot) → List Slot → List Slot
modify x f [] = []
modify x f (s ∷ ss) = mod_here (look x ss) (eqb s.name x) f s ss (modify x f ss)

abbrev bump : ℕ → Option ℕ → Option ℕ → Option ℕ
bump i None o = o
bump i (Some j) o = Some (i + j)

newest_from-last : (x i : ℕ) (o : Option ℕ) (ss : List Slot) → newest_from x i o ss ≡ bump i (last_of x ss) o
newest_from-last x i o [] = refl
newest_from-last x i o (s ∷ ss) = newest_from-last x (i + 1) (cond (eqb s.name x) (Some i) o) ss ∙ go (last_of x ss) (eqb s.name x)
  where
    go : (l : Option ℕ) (t : Bool) → bump (i + 1) l (cond t (Some i) o) ≡ bump i (last_in l t) o
    go (Some j) t = ap {B = Option ℕ} Some (omega arith)
    go None true = ap {B = Option ℕ} Some (omega arith)
    go None false = refl

pub newest-last : (x : ℕ) (ss : List Slot) → newest x ss ≡ last_of x ss
unfolding newest
newest-last x ss = newest_from-last x 0 None ss ∙ go (last_of x ss)
  where
    go : (l : Option ℕ) → bump 0 l None ≡ l
    go (Some j) = ap {B = Option ℕ} Some (omega arith)
    go None = refl

-- What there is at the place of the newest slot, and what changing it there does.
abbrev pub Agrees' : Option Slot → List Slot → (Slot → Slot) → List Slot → Option ℕ → Type 0
Agrees' lk md f ss None = (lk ≡ None) × (md ≡ ss)
Agrees' lk md f ss (Some i) = (s : Slot) × (slot_at i ss ≡ Some s) × (lk ≡ Some s) × (set ss i (f s) ≡ md) × (i < length ss)

abbrev pub Agrees : ℕ → (Slot → Slot) → List Slot → Option ℕ → Type 0
Agrees x f ss o = Agrees' (look x ss) (modify x f ss) f ss o

pub no-some : {A : Type 0} {x : A} → ◌≡◌ {A = Option A} None (Some x) → ⊥
no-some p = let z : ◌≡◌ {A = ℕ} 0 1 = cc in omega arith

pub last-is : (x : ℕ) (f : Slot → Slot) (ss : List Slot) → Agrees x f ss (last_of x ss)
last-is x f [] = (refl, refl)
last-is x f (s ∷ ss) = go (look x ss) (modify x f ss) (last_of x ss) (last-is x f ss) (eqb s.name x)
  where
    go : (lk : Option Slot) (md : List Slot) (o : Option ℕ) → Agrees' lk md f ss o → (t : Bool) → Agrees' (first lk (cond t (Some s) None)) (mod_here lk t f s ss md) f (s ∷ ss) (last_in o t)
    go None md None h true = (s, refl, refl, refl, omega arith)
    go None md None h false = (refl, refl)
    go None md (Some i) h t = absurd (no-some h.2)
    go (Some z) md None h t = absurd (no-some (sym h.0))
    go (Some z) md (Some i) h t = (h.0, h.1, h.2, ap {B = List Slot} (λ r. s ∷ r) h.3, omega arith)

pub newest-is : (x : ℕ) (f : Slot → Slot) (ss : List Slot) → Agrees x f ss (newest x ss)
newest-is x f ss = subst (λ (o : Option ℕ). Agrees x f ss o) (sym (newest-last x ss)) (last-is x f ss)

pub lookup-look : (x : ℕ) (ss : List Slot) → lookup x ss ≡ look x ss
lookup-look x ss = go (newest x ss) (newest-is x (λ s. s) ss)
  where
    go : (o : Option ℕ) → Agrees x (λ s. s) ss o → slot_of o ss ≡ look x ss
    go None h = sym h.0
    go (Some i) h = h.1 ∙ sym h.2

pub mod-none : (x : ℕ) (f : Slot → Slot) (ss : List Slot) → look x ss ≡ None → modify x f ss ≡ ss
mod-none x f ss h = go (last_of x ss) (last-is x f ss)
  where
    go : (o : Option ℕ) → Agrees x f ss o → modify x f ss ≡ ss
    go None g = g.1
    go (Some i) g = absurd (no-some (sym h ∙ g.2))

-- ## Two runs of slots

first-none : (o : Option Slot) → o ≡ first o None
first-none None = refl
first-none (Some s) = refl

pub look-++ : (x : ℕ) (xs ys : List Slot) → look x (xs ++ ys) ≡ first (look x ys) (look x xs)
look-++ x [] ys = first-none (look x ys)
look-++ x (a ∷ xs) ys = ap (λ (o : Option Slot). first o (one_of x a)) (look-++ x xs ys) ∙ go (look x ys)
  where
    go : (o : Option Slot) → first (first o (look x xs)) (one_of x a) ≡ first o (first (look x xs) (one_of x a))
    go None = refl
    go (Some s) = refl

abbrev pub mod_mark : ℕ → (Slot → Slot) → List Slot → List Slot → Option Slot → List Slot
mod_mark x f xs ys None = modify x f xs ++ ys
mod_mark x f xs ys (Some z) = xs ++ modify x f ys

pub mod-++ : (x : ℕ) (f : Slot → Slot) (xs ys : List Slot) → modify x f (xs ++ ys) ≡ mod_mark x f xs ys (look x ys)
mod-++ x f [] ys = go (look x ys) refl
  where
    go : (o : Option Slot) → look x ys ≡ o → modify x f ys ≡ mod_mark x f [] ys o
    go None h = mod-none x f ys h
    go (Some z) h = refl
mod-++ x f (a ∷ xs) ys = ap₂ (λ (lk : Option Slot) (md : List Slot). mod_here lk (eqb a.name x) f a (xs ++ ys) md) (look-++ x xs ys) (mod-++ x f xs ys) ∙ go (look x ys)
  where
    none : (lk : Option Slot) (t : Bool) → mod_here lk t f a (xs ++ ys) (modify x f xs ++ ys) ≡ mod_here lk t f a xs (modify x f xs) ++ ys
    none None true = refl
    none None false = refl
    none (Some z) t = refl

    go : (o : Option Slot) → mod_here (first o (look x xs)) (eqb a.name x) f a (xs ++ ys) (mod_mark x f xs ys o) ≡ mod_mark x f (a ∷ xs) ys o
    go None = none (look x xs) (eqb a.name x)
    go (Some z) = refl

abbrev pub last_mark : ℕ → Option ℕ → Option ℕ → Option ℕ
last_mark n (Some j) o = Some (n + j)
last_mark n None o = o

pub last-++ : (x : ℕ) (xs ys : List Slot) → last_of x (xs ++ ys) ≡ last_mark (length xs) (last_of x ys) (last_of x xs)
last-++ x [] ys = go (last_of x ys)
  where
    go : (o : Option ℕ) → o ≡ last_mark 0 o None
    go (Some j) = ap {B = Option ℕ} Some (omega arith)
    go None = refl
last-++ x (a ∷ xs) ys = ap (λ (o : Option ℕ). last_in o (eqb a.name x)) (last-++ x xs ys) ∙ go (last_of x ys) (last_of x xs) (eqb a.name x)
  where
    go : (o l : Option ℕ) (t : Bool) → last_in (last_mark (length xs) o l) t ≡ last_mark (suc (length xs)) o (last_in l t)
    go (Some j) l t = ap {B = Option ℕ} Some (omega arith)
    go None l t = refl

-- ## What is found after a change

abbrev pub changed : (Slot → Slot) → Option Slot → Option Slot
changed f None = None
changed f (Some s) = Some (f s)

pub look-mod-same : (x : ℕ) (f : Slot → Slot) → ((s : Slot) → (f s).name ≡ s.name) → (ss : List Slot) → look x (modify x f ss) ≡ changed f (look x ss)
look-mod-same x f k [] = refl
look-mod-same x f k (s ∷ ss) = go (look x ss) refl (eqb s.name x) refl (look-mod-same x f k ss)
  where
    go : (o : Option Slot) → look x ss ≡ o → (t : Bool) → eqb s.name x ≡ t → look x (modify x f ss) ≡ changed f (look x ss) → look x (mod_here o t f s ss (modify x f ss)) ≡ changed f (first o (cond t (Some s) None))
    go None p true q h = ap₂ (λ (o : Option Slot) (t : Bool). first o (cond t (Some (f s)) None)) p (ap (λ (n : ℕ). eqb n x) (k s) ∙ q)
    go None p false q h = ap₂ (λ (o : Option Slot) (t : Bool). first o (cond t (Some s) None)) p q
    go (Some z) p t q h = ap (λ (o : Option Slot). first o (one_of x s)) (h ∙ ap (changed f) p)

pub look-mod-other : (x y : ℕ) (f : Slot → Slot) → ((s : Slot) → (f s).name ≡ s.name) → (x ≡ y → ⊥) → (ss : List Slot) → look y (modify x f ss) ≡ look y ss
look-mod-other x y f k ne [] = refl
look-mod-other x y f k ne (s ∷ ss) = go (look x ss) (eqb s.name x) refl (look-mod-other x y f k ne ss)
  where
    go : (o : Option Slot) (t : Bool) → eqb s.name x ≡ t → look y (modify x f ss) ≡ look y ss → look y (mod_here o t f s ss (modify x f ss)) ≡ look y (s ∷ ss)
    go None true q h =
        let e = eqb-true s.name x q in
        let n : eqb s.name y ≡ false = ne_eqb s.name y (λ p. ne (sym e ∙ p)) in
        let m : eqb (f s).name y ≡ false = ap (λ (i : ℕ). eqb i y) (k s) ∙ n in
        ap (λ (t : Bool). first (look y ss) (cond t (Some (f s)) None)) m ∙ ap (λ (t : Bool). first (look y ss) (cond t (Some s) None)) (sym n)
    go None false q h = refl
    go (Some z) t q h = ap (λ (o : Option Slot). first o (one_of y s)) h

pub set-slot : (i : ℕ) (ss : List Slot) (s : Slot) → slot_at i ss ≡ Some s → set ss i s ≡ ss
set-slot i [] s h = refl
set-slot zero (a ∷ ss) s h = let z : s ≡ a = cc in ap {B = List Slot} (λ r. r ∷ ss) z
set-slot (suc i) (a ∷ ss) s h = ap {B = List Slot} (λ r. a ∷ r) (set-slot i ss s h)

-- ## Slots that are not constant

abbrev pub Free : ℕ → List Slot → Type 0
Free j ss = (s : Slot) × (slot_at j ss ≡ Some s) × (s.constant ≡ false)

abbrev pub Firm : List ℕ → List Slot → Type 0
Firm [] ss = Unit {0}
Firm (j ∷ js) ss = Free j ss × Firm js ss

abbrev pub Below : List ℕ → ℕ → Type 0
Below [] d = Unit {0}
Below (j ∷ js) d = (j < d) × Below js d

free-set : (j i : ℕ) (ss : List Slot) (a : Slot) → Free j ss → (j ≡ i → a.constant ≡ false) → Free j (set ss i a)
free-set j i [] a h e = absurd (no-some h.1)
free-set zero zero (s ∷ ss) a h e = (a, refl, e refl)
free-set zero (suc i) (s ∷ ss) a h e = h
free-set (suc j) zero (s ∷ ss) a h e = h
free-set (suc j) (suc i) (s ∷ ss) a h e = free-set j i ss a h (λ q. e (ap suc q))

free-++ : (j : ℕ) (ss ys : List Slot) → Free j ss → Free j (ss ++ ys)
free-++ j [] ys h = absurd (no-some h.1)
free-++ zero (s ∷ ss) ys h = h
free-++ (suc j) (s ∷ ss) ys h = free-++ j ss ys h

free-take : (j n : ℕ) (ss : List Slot) → Free j ss → j < n → Free j (take n ss)
free-take j n [] h l = absurd (no-some h.1)
free-take j zero (s ∷ ss) h l = absurd (omega arith)
free-take zero (suc n) (s ∷ ss) h l = h
free-take (suc j) (suc n) (s ∷ ss) h l = free-take j n ss h (omega arith)

pub firm-++ : (js : List ℕ) (ss ys : List Slot) → Firm js ss → Firm js (ss ++ ys)
firm-++ [] ss ys h = tt
firm-++ (j ∷ js) ss ys h = (free-++ j ss ys h.0, firm-++ js ss ys h.1)

pub firm-take : (js : List ℕ) (n : ℕ) (ss : List Slot) → Firm js ss → Below js n → Firm js (take n ss)
firm-take [] n ss h l = tt
firm-take (j ∷ js) n ss h l = (free-take j n ss h.0 l.0, firm-take js n ss h.1 l.1)

-- The slot that is set keeps its mark, or lies above.
pub firm-set : (js : List ℕ) (i : ℕ) (ss : List Slot) (s a : Slot) → slot_at i ss ≡ Some s → a.constant ≡ s.constant → Firm js ss → Firm js (set ss i a)
firm-set [] i ss s a p q h = tt
firm-set (j ∷ js) i ss s a p q h = (free-set j i ss a h.0 (λ e. q ∙ same e), firm-set js i ss s a p q h.1)
  where
    same : j ≡ i → s.constant ≡ false
    same e = let r : Some h.0.0 ≡ Some s = sym h.0.1 ∙ ap (λ (n : ℕ). slot_at n ss) e ∙ p in let z : h.0.0 ≡ s = cc in ap (λ (t : Slot). t.constant) (sym z) ∙ h.0.2

pub firm-above : (js : List ℕ) (i : ℕ) (ss : List Slot) (a : Slot) → Below js i → Firm js ss → Firm js (set ss i a)
firm-above [] i ss a b h = tt
firm-above (j ∷ js) i ss a b h = (free-set j i ss a h.0 (λ e. absurd (less e b.0)), firm-above js i ss a b.1 h.1)
  where
    less : j ≡ i → j < i → ⊥
    less p q = omega arith

pub below-le : (js : List ℕ) {d e : ℕ} → Below js d → d ≤ e → Below js e
below-le [] b l = tt
below-le (j ∷ js) b l = (omega arith, below-le js b.1 l)
