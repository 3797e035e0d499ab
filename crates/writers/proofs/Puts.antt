-- Writing a segment operation by operation.
use Rattle.std.proofs.Common.{◌≡◌, ℕ, suc, ◌+◌, ◌-◌, ◌^◌, ◌<◌, ◌≤◌, Bool, true, false, cond, ◌⊎◌, List, [], ◌∷◌, ◌++◌, length, drop, set, Some, None, sym, refl, ap, ◌∙◌, subst, inl, inr, add-one, arith}
use mathlib.Core.Option.{none}
use lib.Seq.{sets, sets-eq}
use Rattle.std.proofs.lemmas.Bool.{cases_lt}
use Rattle.records.specs.Meanings.{form_of}
use Rattle.records.specs.Tree.{Records, records, expr_at}
use Rattle.records.specs.Checks.{tiles, expr_fault}
use Rattle.records.proofs.Tiles.{tiles-on}
use Rattle.code.specs.declared.ops.Op.{Op}
use Rattle.code.specs.declared.ops.Op.TheVariants.{JumpIfTrue, JumpIfFalse}
use Rattle.code.specs.declared.ops.Instr.{Instr}
use Rattle.meaning.specs.Reading.{Reading, Items, Items.item}
use Rattle.meaning.specs.Fed.{Tables}
use Rattle.writers.specs.declared.named.Named.{Named}
use Rattle.writers.specs.Write.{tables_for, reading as reading_for}
use Rattle.meaning.specs.Writers.{plain, written_reading, size, size_items, written, written_items, writer}
use Rattle.meaning.proofs.WritersPlay.{jump_on, length-written, length-items}
use Rattle.writers.specs.Sizes.{weigh, Capped}
use Rattle.writers.specs.Leaves.{leaf_of, decides, closing, items_in}
use Rattle.writers.proofs.Replies.{knows, knows-not}
use Rattle.writers.proofs.Forms.{leaf, list_of, list-is, size-list, written-list}
use Rattle.writers.proofs.Items.{fine-at, inner, items-step, items-end, item-within, all-weigh, weighs}

pub sets-append : {X : Type 0} (l : List X) (i j : ℕ) (xs ys : List X) → j ≡ i + length xs → sets l i (xs ++ ys) ≡ sets (sets l i xs) j ys
sets-append l i j [] ys e = let q : i ≡ j = omega arith in ap (λ (k : ℕ). sets l k ys) q
sets-append l i j (x ∷ xs) ys e = sets-append (set l i x) (suc i) j xs ys (omega arith)

-- A whole segment from the start on.
pub sets-start : {X : Type 0} (l xs : List X) → length xs ≤ length l → sets l 0 xs ≡ xs ++ drop (length xs) l
sets-start l xs h = sets-eq xs l 0 (omega arith) ∙ ap (λ (k : ℕ). xs ++ drop k l) (let z : 0 + length xs ≡ length xs = omega arith in z)

jump-is : (on : Bool) (t : ℕ) → cond on (JumpIfTrue t) (JumpIfFalse t) ≡ jump_on on t
jump-is true t = refl
jump-is false t = refl

-- The items from a up to before b are still to be written from place p on, up to before z; then the slice is w.
pub record Ahead (T : Tables) (R : Records) (on : Bool) (f b z : ℕ) (w : List Instr) (a p : ℕ) (out : List Instr) : Type 0 where
  pub low : 1 ≤ a
  pub within : a ≤ b
  pub tiled : tiles R (b - a) a b ≡ true
  pub room : p + size_items (items_in T R a b) ≡ z
  pub code : sets out p (written_items T (items_in T R a b) (jump_on on) f p) ≡ w

-- The items of the expression e, and the slice with them written from place a on.
abbrev pub items_of : Tables → Records → ℕ → Items
items_of T R e = items_in T R (suc e) (expr_at R e).end

abbrev pub items_put : Tables → Records → ℕ → Bool → ℕ → ℕ → List Instr → List Instr
items_put T R e on f a out = sets out a (written_items T (items_of T R e) (jump_on on) f a)

module _ (T : Tables) (R : Records) (passed : expr_fault R ≡ none) where
  abbrev past : ℕ → ℕ
  past i = (expr_at R i).end

  module _ (on : Bool) (f b z : ℕ) (w : List Instr) (a p : ℕ) (out : List Instr) (t : Ahead T R on f b z w a p out) (top : b ≤ length R.exprs) where
    -- The next item.
    module _ (l : a < b) where
      next : items_in T R a b ≡ item (expr_at R a).at (written_reading T R a) (items_in T R (past a) b)
      next = items-step T R passed a b t.low l top t.tiled

      pub item_room : p + size (written_reading T R a) + 1 ≤ z
      item_room = let q = ap size_items next in let r = t.room in omega arith

      pub ahead : (out₁ out₂ : List Instr) (p₁ p₂ : ℕ) (op : Op) → p₁ ≡ p + size (written_reading T R a) → out₁ ≡ sets out p (written T (written_reading T R a) p)
          → op ≡ cond on (JumpIfTrue f) (JumpIfFalse f) → out₂ ≡ set out₁ p₁ (record { op = op; at = (expr_at R a).at }) → p₂ ≡ p₁ + 1 → Ahead T R on f b z w (past a) p₂ out₂
      ahead out₁ out₂ p₁ p₂ op e₁ e₂ e₃ e₄ e₅ =
          let h = item-within T R passed a b l t.tiled in
          let q = ap size_items next in
          let r = t.room in
          let xs = written T (written_reading T R a) p in
          let rest = items_in T R (past a) b in
          let y : Instr = record { op = jump_on on f; at = (expr_at R a).at } in
          let long = length-written T (written_reading T R a) p in
          let n : suc (size (written_reading T R a) + p) ≡ p₂ = omega arith in
          let m : suc p₁ ≡ p₂ = omega arith in
          let is : y ≡ record { op = op; at = (expr_at R a).at } = ap (λ (o : Op). record { op = o; at = (expr_at R a).at }) (sym (e₃ ∙ jump-is on f)) in
          record {
            low = omega (arith, h.0, t.low);
            within = h.1;
            tiled = sym (tiles-on R a b l h.0 h.1) ∙ t.tiled;
            room = omega arith;
            code =
                sym (sym t.code ∙ ap (λ (is : Items). sets out p (written_items T is (jump_on on) f p)) next
                ∙ sets-append out p p₁ xs (y ∷ written_items T rest (jump_on on) f (suc (size (written_reading T R a) + p))) (omega arith)
                ∙ ap (λ (k : ℕ). sets (set (sets out p xs) p₁ y) (suc p₁) (written_items T rest (jump_on on) f k)) n
                ∙ ap (λ (k : ℕ). sets (set (sets out p xs) p₁ y) k (written_items T rest (jump_on on) f p₂)) m
                ∙ ap (λ (zs : List Instr). sets (set zs p₁ y) p₂ (written_items T rest (jump_on on) f p₂)) (sym e₂)
                ∙ ap (λ (v : Instr). sets (set out₁ p₁ v) p₂ (written_items T rest (jump_on on) f p₂)) is
                ∙ ap (λ (zs : List Instr). sets zs p₂ (written_items T rest (jump_on on) f p₂)) (sym e₄));
          }

    -- No item is left.
    pub done : b ≤ a → (p ≡ z) × (out ≡ w)
    done l =
        let e = items-end T R passed a b l in
        let q = ap size_items e in
        let r = t.room in
        (omega arith, sym (ap (λ (is : Items). sets out p (written_items T is (jump_on on) f p)) e) ∙ t.code)

  -- ## A whole expression

  module _ (e : ℕ) where
    abbrev reading : Reading
    reading = written_reading T R e

    -- One that is no list.
    pub one : (a : ℕ) (out : List Instr) → decides (form_of (expr_at R e).form) ≡ None
        → (a + 1 ≡ a + size reading) × (set out a (plain (leaf_of T R (form_of (expr_at R e).form) e)) ≡ sets out a (written T reading a))
    unfolding written_reading
    one a out d =
        let x = leaf T R e (items_of T R e) a d in
        let s = x.one in
        (omega arith, sym (ap (sets out a) x.op))

    -- A list: its items, then what ends it.
    module _ (on : Bool) (d : decides (form_of (expr_at R e).form) ≡ Some on) where
      list : reading ≡ list_of on (items_of T R e)
      unfolding written_reading
      list = list-is T R e (items_of T R e) on d

      pub list-size : size reading ≡ size_items (items_of T R e) + 3
      list-size = ap size list ∙ size-list on (items_of T R e)

      -- The scan counts the items.
      pub counted : 1 ≤ e → e < length R.exprs → (n : ℕ) → Capped (weigh R (past e - (e + 1)) (e + 1)) n → size reading ≤ 64 → n ≡ size_items (items_of T R e)
      counted lo hi n c s =
          let f = fine-at T R passed e lo hi in
          let y = f.after in
          let w : weigh R (past e - (e + 1)) (e + 1) ≡ size_items (items_of T R e) =
          ap (λ (k : ℕ). weigh R (past e - k) k) (add-one e) ∙ sym (all-weigh T R passed (suc e) (past e) (omega arith) f.within (inner T R passed e lo hi)) in
          c.exact (omega (arith, list-size)) ∙ w

      pub begin : 1 ≤ e → e < length R.exprs → (f a first : ℕ) (out : List Instr) → first ≡ suc e → Ahead T R on f (past e) (a + size_items (items_of T R e)) (items_put T R e on f a out) first a out
      begin lo hi f a first out q =
          let x = fine-at T R passed e lo hi in
          let y = x.after in
          subst (λ (k : ℕ). Ahead T R on f (past e) (a + size_items (items_of T R e)) (items_put T R e on f a out) k a out) (sym q)
          (record { low = omega arith; within = omega arith; tiled = inner T R passed e lo hi; room = refl; code = refl })

      pub finish : (f a p : ℕ) (out out₁ out₂ : List Instr) → p ≡ a + size_items (items_of T R e) → f ≡ p + 2 → out₁ ≡ items_put T R e on f a out → out₂ ≡ sets out₁ p (closing on p)
          → (p + 3 ≡ a + size reading) × (out₂ ≡ sets out a (written T reading a))
      finish f a p out out₁ out₂ e₁ e₂ e₃ e₄ =
          let s = list-size in
          let xs = written_items T (items_of T R e) (jump_on on) f a in
          let n : p ≡ a + length xs = omega (arith, length-items T (items_of T R e) (jump_on on) f a) in (
            omega arith,
            e₄ ∙ ap (λ (zs : List Instr). sets zs p (closing on p)) e₃ ∙ sym (sets-append out a p xs (closing on p) n)
                ∙ ap (sets out a) (sym (ap (λ (r : Reading). written T r a) list ∙ written-list T on (items_of T R e) a p f e₁ e₂)),
          )

  -- ## A known expression

  -- The scan of an expression with its test tells whether its segment fits.
  pub sized : (e : ℕ) → 1 ≤ e → e < length R.exprs → (n : ℕ) → Capped (weigh R (past e - e) e) n → (1 ≤ n) × (n - 1 ≤ 64 → n - 1 ≡ size (written_reading T R e)) × (64 < n - 1 → 64 < size (written_reading T R e))
  sized e lo hi n c = go (cases_lt 65 (weigh R (past e - e) e))
    where
      w : suc (size (written_reading T R e)) ≡ weigh R (past e - e) e
      w = weighs T R passed e lo hi

      go : (65 < weigh R (past e - e) e) ⊎ (weigh R (past e - e) e ≤ 65) → (1 ≤ n) × (n - 1 ≤ 64 → n - 1 ≡ size (written_reading T R e)) × (64 < n - 1 → 64 < size (written_reading T R e))
      go (inl l) = let p = c.past l in (omega arith, λ h. absurd (omega arith), λ h. omega (arith, w))
      go (inr l) = let p = c.exact l in (omega (arith, w), λ h. omega (arith, w), λ h. omega (arith, w))

  -- ## A call that writes

  -- The scan of an expression with its test tells whether Written knows it, and how long its segment is.
  pub record Scanned (e n : ℕ) : Type 0 where
    pub some : 1 ≤ n
    pub fits : n - 1 ≤ 64 → ((writer T R).known e ≡ true) × (n - 1 ≡ length ((writer T R).segment e)) × (n - 1 ≡ size (written_reading T R e))
    pub past : 64 < n - 1 → (writer T R).known e ≡ false

  pub scanned : (e : ℕ) → 1 ≤ e → e < length R.exprs → (n : ℕ) → Capped (weigh R (past e - e) e) n → Scanned e n
  scanned e lo hi n c =
      let s = sized e lo hi n c in
      let long = length-written T (written_reading T R e) 0 in
      record {
        some = s.0;
        fits = λ h. (knows T R e lo hi (omega (arith, s.1 h)), omega (arith, s.1 h, long), s.1 h);
        past = λ h. knows-not T R e lo hi (s.2 h);
      }

-- ## A call that puts

module _ (n : Named) (e : ℕ) (lo : 0 < e) (hi : e < length n.script.exprs.now) where
  abbrev T : Tables
  T = tables_for n

  abbrev R : Records
  R = records n.script

  abbrev last : ℕ
  last = (expr_at R e).end

  abbrev its : Items
  its = items_of T R e

  -- The range of an expression lies past it, inside the records.
  pub record Ranged : Type 0 where
    pub after : e < last
    pub within : last ≤ length n.script.exprs.now
    pub few : length n.script.exprs.now < 2 ^ 32

  pub ranged : Ranged
  ranged = let f = fine-at T R n.checked e lo hi in record { after = f.after; within = f.within; few = n.few }

  module _ (on : Bool) (d : Some on ≡ decides (form_of (expr_at R e).form)) where
    -- The operations of a list are those of its items and three more.
    pub long : size (reading_for n e) ≡ size_items its + 3
    long = list-size T R n.checked e on (sym d)

    pub counts : (k : ℕ) → Capped (weigh R (last - (e + 1)) (e + 1)) k → size (reading_for n e) ≤ 64 → k ≡ size_items its
    counts k c s = counted T R n.checked e on (sym d) lo hi k c s

  -- An item whose turn it is.
  pub record Turn (item place z : ℕ) : Type 0 where
    pub low : 1 ≤ item
    pub after : item < (expr_at R item).end
    pub within : (expr_at R item).end ≤ last
    pub room : place + size (reading_for n item) + 1 ≤ z

  module _ (on : Bool) (f z : ℕ) (w : List Instr) (item place : ℕ) (out : List Instr) (a : Ahead T R on f last z w item place out) where
    pub turn : item < last → Turn item place z
    turn l =
        let r = ranged in
        let i = item-within T R n.checked item last l a.tiled in
        record { low = a.low; after = i.0; within = i.1; room = item_room T R n.checked on f last z w item place out a r.within l }
