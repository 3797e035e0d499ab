-- Lowered code that stands, set, stands as set code.
use Rattle.std.proofs.Common.{◌≡◌, ℕ, zero, suc, ◌+◌, ◌-◌, ◌<◌, ◌≤◌, Bool, true, false, List, [], ◌∷◌, ◌++◌, length, get_or, replicate, Some, None, Option, sym, refl, ap, ◌∙◌, subst, not-suc-le-zero, arith, get_or-append-add}
use lib.ListN.{length-replicate, get_or-replicate, get_or-append}
use Rattle.code.specs.declared.ops.Instr.{Instr}
use Rattle.code.specs.declared.ops.Row.{Row}
use Rattle.meaning.specs.Calls.{instr_at, no_instr}
use Rattle.meaning.specs.Fed.{Tables}
use Rattle.meaning.specs.Writer.{Writer, Holds}
use Rattle.meaning.specs.SetCode.{expr_of, move_op, width_of, width, place_of, shift_all, piece_of, piece, set_from, set_code}
use Rattle.meaning.specs.Agreement.{Heights}
use Rattle.meaning.proofs.Layouts.{set_layout}
use Rattle.meaning.proofs.Lowered.{no_heights, low_layout, SettingStands}
use Rattle.meaning.proofs.Moves.{Moving, script_moves}

-- At a place of set code are heights, or none inside a segment.
abbrev height_or : Option Heights → Heights
height_or None = no_heights
height_or (Some h) = h

abbrev outside_or : Option Heights → Bool
outside_or None = false
outside_or (Some h) = true

pub shift_all-length : (d : ℕ) (xs : List Instr) → length (shift_all d xs) ≡ length xs
shift_all-length d [] = refl
shift_all-length d (x ∷ xs) = ap suc (shift_all-length d xs)

module _ (W : Writer) (rows : List Row) where
  -- ## Places

  pub place-zero : (xs : List Instr) → place_of W rows xs 0 ≡ 0
  place-zero [] = refl
  place-zero (x ∷ xs) = refl

  -- The place after an operation's is past what stands for it.
  pub place-suc : (xs : List Instr) (k : ℕ) → k < length xs → place_of W rows xs (suc k) ≡ place_of W rows xs k + width W rows (instr_at xs k)
  place-suc [] k h = absurd (not-suc-le-zero h)
  place-suc (x ∷ xs) zero h = omega (arith, place-zero xs)
  place-suc (x ∷ xs) (suc k) h = omega (arith, place-suc xs k (omega arith))

  -- ## What is laid out piece by piece

  -- For each operation as many entries as operations stand for it, by its place, its new place, and the expression that
  -- it works out, if any.
  abbrev lay_from : {A : Type 0} → (ℕ → ℕ → Instr → Option ℕ → List A) → ℕ → ℕ → List Instr → List A
  lay_from f i at [] = []
  lay_from f i at (x ∷ xs) = f i at x (expr_of rows x.op) ++ lay_from f (suc i) (width W rows x + at) xs

  module _ {A : Type 0} (f : ℕ → ℕ → Instr → Option ℕ → List A) (long : (i at : ℕ) (x : Instr) (o : Option ℕ) → length (f i at x o) ≡ width_of W rows o) (d : A) where
    laid_from : (i at : ℕ) (xs : List Instr) (k j : ℕ) → k < length xs → j < width W rows (instr_at xs k)
        → get_or (lay_from f i at xs) (place_of W rows xs k + j) d ≡ get_or (f (i + k) (place_of W rows xs k + at) (instr_at xs k) (expr_of rows (instr_at xs k).op)) j d
    laid_from i at [] k j h w = absurd (not-suc-le-zero h)
    laid_from i at (x ∷ xs) zero j h w =
        let o = expr_of rows x.op in
        let e : 0 + j ≡ j = omega arith in
        let i0 : i ≡ i + 0 = omega arith in
        let a0 : at ≡ 0 + at = omega arith in
        let short : j < length (f i at x o) = omega (arith, long i at x o) in
        ap (λ (n : ℕ). get_or (lay_from f i at (x ∷ xs)) n d) e ∙ get_or-append (f i at x o) (lay_from f (suc i) (width W rows x + at) xs) d j short
        ∙ ap (λ (n : ℕ). get_or (f n at x o) j d) i0 ∙ ap (λ (n : ℕ). get_or (f (i + 0) n x o) j d) a0
    laid_from i at (x ∷ xs) (suc k) j h w =
        let o = expr_of rows x.op in
        let n = place_of W rows xs k in
        let y = instr_at xs k in
        let e : (width W rows x + n) + j ≡ length (f i at x o) + (n + j) = omega (arith, long i at x o) in
        let i1 : suc i + k ≡ i + suc k = omega arith in
        let a1 : n + (width W rows x + at) ≡ (width W rows x + n) + at = omega arith in
        ap (λ (m : ℕ). get_or (lay_from f i at (x ∷ xs)) m d) e ∙ get_or-append-add (f i at x o) (lay_from f (suc i) (width W rows x + at) xs) (n + j) d
        ∙ laid_from (suc i) (width W rows x + at) xs k j (omega arith) w
        ∙ ap (λ (m : ℕ). get_or (f m (n + (width W rows x + at)) y (expr_of rows y.op)) j d) i1 ∙ ap (λ (m : ℕ). get_or (f (i + suc k) m y (expr_of rows y.op)) j d) a1

    -- From an operation's new place on stand the entries of its piece.
    laid : (xs : List Instr) (k j n : ℕ) (o : Option ℕ) → k < length xs → expr_of rows (instr_at xs k).op ≡ o → j < width_of W rows o → n ≡ place_of W rows xs k + j
        → get_or (lay_from f 0 0 xs) n d ≡ get_or (f k (place_of W rows xs k) (instr_at xs k) o) j d
    laid xs k j n o h is w at =
        let i0 : 0 + k ≡ k = omega arith in
        let a0 : place_of W rows xs k + 0 ≡ place_of W rows xs k = omega arith in
        let w' : j < width W rows (instr_at xs k) = subst (λ (p : Option ℕ). j < width_of W rows p) (sym is) w in
        ap (λ (m : ℕ). get_or (lay_from f 0 0 xs) m d) at ∙ laid_from 0 0 xs k j h w'
        ∙ ap (λ (m : ℕ). get_or (f m (place_of W rows xs k + 0) (instr_at xs k) (expr_of rows (instr_at xs k).op)) j d) i0
        ∙ ap (λ (m : ℕ). get_or (f k m (instr_at xs k) (expr_of rows (instr_at xs k).op)) j d) a0
        ∙ ap (λ (p : Option ℕ). get_or (f k (place_of W rows xs k) (instr_at xs k) p) j d) is

  -- ## The code

  pub piece-length : (μ : ℕ → ℕ) (i at : ℕ) (x : Instr) (o : Option ℕ) → length (piece_of W rows μ at x o) ≡ width_of W rows o
  piece-length μ i at x None = refl
  piece-length μ i at x (Some e) = shift_all-length at (W.segment e)

  set-laid : (μ : ℕ → ℕ) (i at : ℕ) (xs : List Instr) → set_from W rows μ at xs ≡ lay_from (λ i. piece_of W rows μ) i at xs
  set-laid μ i at [] = refl
  set-laid μ i at (x ∷ xs) = ap (λ (ys : List Instr). piece W rows μ at x ++ ys) (set-laid μ (suc i) (width W rows x + at) xs)

  -- A segment whose operations stand one by one.
  holds : (code : List Instr) (from a : ℕ) (xs : List Instr) → ((j : ℕ) → j < length xs → instr_at code (a + j) ≡ instr_at (shift_all from xs) j) → Holds code from a xs
  holds code from a [] at = tt
  holds code from a (x ∷ xs) at =
      let first : a ≡ a + 0 = omega arith in (
        ap (instr_at code) first ∙ at 0 (omega arith),
        holds code from (suc a) xs (λ j h. let next : suc a + j ≡ a + suc j = omega arith in ap (instr_at code) next ∙ at (suc j) (omega arith)),
      )

  -- ## Heights

  -- What is listed for an operation.
  abbrev marks_of : List Heights → ℕ → Option ℕ → List (Option Heights)
  marks_of hs i None = Some (get_or hs i no_heights) ∷ []
  marks_of hs i (Some e) = replicate (length (W.segment e)) None

  marks-length : (hs : List Heights) (i : ℕ) (o : Option ℕ) → length (marks_of hs i o) ≡ width_of W rows o
  marks-length hs i None = refl
  marks-length hs i (Some e) = length-replicate (length (W.segment e)) None

  -- ## Setting

  module _ (code : List Instr) (hs : List Heights) where
    abbrev μ : ℕ → ℕ
    μ i = place_of W rows code i

    code_at : (k j n : ℕ) (o : Option ℕ) → k < length code → expr_of rows (instr_at code k).op ≡ o → j < width_of W rows o → n ≡ μ k + j
        → instr_at (set_code W rows code) n ≡ instr_at (piece_of W rows μ (μ k) (instr_at code k) o) j
    code_at k j n o h is w at = ap (λ (c : List Instr). instr_at c n) (set-laid μ 0 0 code) ∙ laid (λ i. piece_of W rows μ) (piece-length μ) no_instr code k j n o h is w at

    abbrev marks : List (Option Heights)
    marks = lay_from (λ i at x. marks_of hs i) 0 0 code

    mark-at : (k j n : ℕ) (o : Option ℕ) → k < length code → expr_of rows (instr_at code k).op ≡ o → j < width_of W rows o → n ≡ μ k + j
        → get_or marks n None ≡ get_or (marks_of hs k o) j None
    mark-at = laid (λ i at x. marks_of hs i) (λ i at x. marks-length hs i) None code

    -- An operation that works out no expression keeps its heights.
    alone : (k : ℕ) → k < length code → expr_of rows (instr_at code k).op ≡ None → get_or marks (μ k) None ≡ Some (get_or hs k no_heights)
    alone k h bare = mark-at k 0 (μ k) None h bare (omega arith) (omega arith)

    abbrev H : ℕ → Heights
    H i = height_or (get_or marks i None)

    abbrev outside : ℕ → Bool
    outside i = outside_or (get_or marks i None)

    -- Where every expression is known, each operation and each expression of lowered code goes to its new place.
    moving : (T : Tables) (deepest room : ℕ) → ((i e : ℕ) → i < length code → expr_of rows (instr_at code i).op ≡ Some e → W.known e ≡ true) → deepest ≤ room
        → Moving (low_layout code rows T deepest hs) (set_layout (set_code W rows code) rows T W room H outside) μ
    moving T deepest room known fits = record {
      op = λ {o} {p} {h} {a} {b} z.
          let (below, is, plain, next, high) = z in
          let bare : expr_of rows (instr_at code a).op ≡ None = ap (λ (x : Instr). expr_of rows x.op) is ∙ plain in
          let wide : width W rows (instr_at code a) ≡ 1 = ap (width_of W rows) bare in (
            code_at a 0 (μ a) None below bare (omega arith) (omega arith) ∙ ap (λ (x : Instr). record { op = move_op μ x.op; at = x.at }) is,
            omega (arith, place-suc code a below, ap μ next),
            ap height_or (alone a below bare) ∙ high,
          );
      exp = λ {e} {a} {b} z.
          let (r, below, is, works, next) = z in
          let some : expr_of rows (instr_at code a).op ≡ Some e = ap (expr_of rows) is ∙ works in
          let wide : width W rows (instr_at code a) ≡ length (W.segment e) = ap (width_of W rows) some in
          let ends : μ a + length (W.segment e) ≡ μ b = omega (arith, place-suc code a below, ap μ next) in (
            known a e below some,
            holds (set_code W rows code) (μ a) (μ a) (W.segment e) (λ j h. code_at a j (μ a + j) (Some e) below some h refl),
            ends,
            λ i from to. let h : i - μ a < length (W.segment e) = omega arith in
                ap outside_or (mark-at a (i - μ a) i (Some e) below some h (omega arith) ∙ get_or-replicate (length (W.segment e)) (i - μ a) None None h),
          );
      name = λ {x} {b} z. z;
      oper = λ {r} {s} z. z;
      row = λ {r} {i} z. z;
      room = λ {n} z. omega arith;
    }

-- Lowered code that stands, set by a writer that knows its expressions, stands as set code.
pub setting_stands : SettingStands
setting_stands code rows T W deepest room hs k B known targets fits stands = record {
  heights = H W rows code hs;
  outside = outside W rows code hs;
  marks = λ i below bare. ap outside_or (alone W rows code hs i below bare);
  stands = script_moves (moving W rows code hs T deepest room known fits) k B (place-zero W rows code) stands;
}
