use Rattle.std.proofs.Common.{◌≡◌, ℕ, List, length, codes, Option, arith, rules, refl}
use Rattle.std.proofs.lemmas.Slice.Eq.{text_from_reads, HasBytesAt}
use Rattle.notation.specs.declared.lines.Keyword.{Keyword}
use Rattle.notation.specs.Lines.{keyword_of}
use Rattle.notation.proofs.lines.Keyword.of.Goals as goal

-- A word that reads as a text is the text's keyword.
reads : (w p : List ℕ) (k : Option Keyword) → length w ≡ length p → HasBytesAt w 0 p → k ≡ keyword_of p → k ≡ keyword_of w
reads w p k len bytes e = let text : w ≡ p = text_from_reads w p len bytes in rw text e

pub returns-in-script : goal.returns-in-script
unfolding keyword_of
returns-in-script c = reads c.args.word.now (codes "script") _ (omega arith) (search rules) refl

pub returns-in-limit : goal.returns-in-limit
unfolding keyword_of
returns-in-limit c = reads c.args.word.now (codes "limit") _ (omega arith) (search rules) refl

pub returns-in-keep : goal.returns-in-keep
unfolding keyword_of
returns-in-keep c = reads c.args.word.now (codes "keep") _ (omega arith) (search rules) refl

pub returns-in-116 : goal.returns-in-116
unfolding keyword_of
returns-in-116 c = reads c.args.word.now (codes "text") _ (omega arith) (search rules) refl

pub returns-in-label : goal.returns-in-label
unfolding keyword_of
returns-in-label c = reads c.args.word.now (codes "label") _ (omega arith) (search rules) refl

pub returns-in-expr : goal.returns-in-expr
unfolding keyword_of
returns-in-expr c = reads c.args.word.now (codes "expr") _ (omega arith) (search rules) refl

pub returns-in-oper : goal.returns-in-oper
unfolding keyword_of
returns-in-oper c = reads c.args.word.now (codes "oper") _ (omega arith) (search rules) refl

pub returns-in-node : goal.returns-in-node
unfolding keyword_of
returns-in-node c = reads c.args.word.now (codes "node") _ (omega arith) (search rules) refl
