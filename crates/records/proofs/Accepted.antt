-- What the checks' definition means: acceptance is having one tree.
use Rattle.std.proofs.Common.{◌≡◌, ℕ, Bool, true, false, cond, length, Ok, Err, Result, sym, refl, ◌∙◌, subst, arith}
use mathlib.Core.Option.{Option, none, some}
use Rattle.records.specs.declared.refusals.Refusal.{Refusal}
use Rattle.records.specs.Tree.{Records}
use Rattle.records.specs.Preorder.{ForestAt, forest_from}
use Rattle.records.specs.Checks.{answered, too_large, label_law, operator_law, size_fault, label_fault, expr_fault, operator_fault, checked}
use Rattle.records.specs.Accepts.{expressions, statements, ScriptTree, Preorder, script_of, OneTree, ByTree, Sound, SoundIfOk}
use Rattle.records.proofs.Bools.{none-some, first-none, none_first, each_all, all-each}
use Rattle.records.proofs.Forests.{is-forest, is-forest-max, placed}
use Rattle.records.proofs.Statements.{block-stands, block-passes}
use Rattle.records.proofs.Expressions.{terms-stand, terms-pass}

size_fits : (b : Bool) → cond {A = Option ℕ} b (some 10) none ≡ none → b ≡ false
size_fits true e = absurd (none-some e)
size_fits false e = refl

-- Accepted records have a tree.
pub has-tree : (R : Records) → checked R ≡ none → (T : ScriptTree) × Preorder R T
has-tree R e =
    let a = first-none {x = size_fault R} e in
    let b = first-none {x = label_fault R} a.1 in
    let c = first-none {x = expr_fault R} b.1 in
    let d = first-none {x = operator_fault R} c.1 in
    let f = terms-stand R c.0 in
    let g = block-stands R d.1 in (
      record { terms = f.0; block = g.0 },
      record {
        sizes = size_fits (too_large R) a.0;
        labels = each_all (label_law R) (length R.labels) b.0;
        operators = each_all (operator_law R) (length R.operators) d.0;
        terms = f.1;
        block = g.1;
        depth = g.2;
      },
    )

-- Records that have a tree are accepted.
pub tree-accepted : (R : Records) (T : ScriptTree) → Preorder R T → checked R ≡ none
tree-accepted R T p =
    none_first {x = size_fault R} (rw p.sizes refl)
    (none_first {x = label_fault R} (all-each (label_law R) (length R.labels) p.labels)
    (none_first {x = expr_fault R} (terms-pass R T.terms p.terms)
    (none_first {x = operator_fault R} (all-each (operator_law R) (length R.operators) p.operators)
    (block-passes R T.block p.block p.depth))))

-- There is one tree only: the one that is read.
pub the-tree : (R : Records) (T : ScriptTree) → Preorder R T → T ≡ script_of R
the-tree R T p = λ i. record { terms = terms i; block = is-forest (statements R) T.block 0 (length R.nodes) p.block (omega arith) i }
  where
    terms : T.terms ≡ forest_from (expressions R) 1 (length R.exprs)
    terms = is-forest-max (expressions R) T.terms 1 p.terms

pub one-tree : (R : Records) → checked R ≡ none → OneTree R
one-tree R e =
    let x = has-tree R e in
    record { stands = subst (Preorder R) (the-tree R x.0 x.1) x.1; only = the-tree R }

-- Each record of accepted ones stands well.
pub sound : (R : Records) → checked R ≡ none → Sound R
sound R e =
    let x = has-tree R e in
    let p = x.1 in
    record {
      sizes = p.sizes;
      labels = p.labels;
      operators = p.operators;
      exprs = placed (expressions R) x.0.terms 1 p.terms;
      nodes = placed (statements R) x.0.block 0 (subst (λ (m : ℕ). ForestAt (statements R) x.0.block 0 m) (omega arith) p.block);
    }

-- What an answer says by the definition, in the words of trees.
pub by-tree : (R : Records) (r : Result (Unit {0}) Refusal) → answered r ≡ checked R → ByTree R r
by-tree R (Ok x) e = one-tree R (sym e)
by-tree R (Err n) e = λ T p. none-some (e ∙ tree-accepted R T p)

pub sound-if-ok : (R : Records) (r : Result (Unit {0}) Refusal) → answered r ≡ checked R → SoundIfOk R r
sound-if-ok R (Ok x) e = sound R (sym e)
sound-if-ok R (Err n) e = tt
