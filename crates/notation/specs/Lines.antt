-- What a line says.
use Rattle.std.specs.Prelude.{ℕ, Bool, cond, List, length, Some, None, Ok, Err, codes, Option, Result, ◌==◌, slice_index}
use Rattle.std.specs.Str.{bytes_eq}
use Rattle.records.specs.declared.types.Label.{Label}
use Rattle.records.specs.declared.types.Expr.{Expr}
use Rattle.records.specs.declared.types.Operator.{Operator}
use Rattle.records.specs.declared.types.Symbol.{Symbol}
use Rattle.records.specs.declared.types.Node.{Node}
use Rattle.words.specs.declared.expected.Expected.{Expected}
use Rattle.words.specs.declared.expected.Expected.TheVariants.{Keyword as AKeyword, Name as AName, Hex as HexPairs}
use Rattle.notation.specs.declared.lines.Keyword.{Keyword}
use Rattle.notation.specs.declared.lines.Keyword.TheVariants.{Script as KScript, Limit as KLimit, Keep as KKeep, Text as KText, Label as KLabel, Expr as KExpr, Oper as KOper, Node as KNode, End as KEnd}
use Rattle.notation.specs.declared.lines.Record.{Record}
use Rattle.notation.specs.declared.lines.Record.TheVariants.{Limit, Keep, Text, Label as ALabel, Expr as AnExpr, Oper, Node as ANode}
use Rattle.notation.specs.declared.lines.Line.{Line}
use Rattle.notation.specs.declared.lines.Line.TheVariants.{Empty, Script, Record as ARecord, End}
use Rattle.words.specs.Words.{from_word}
use Rattle.words.specs.Reads.{Reads, ret, bind, given, value, a_word, a_number, a_position, a_flag, no_more}

-- ## What a line may say

-- Something of an open script: bytes stand for themselves.
pub data Entry : Type 0 where
  limit : ℕ → Entry
  keep : Bool → Entry
  text : List ℕ → Entry
  label : Label → Entry
  expr : Expr → Entry
  oper : Operator → Entry
  node : Node → Entry

pub data Said : Type 0 where
  nothing : Said
  script : List ℕ → Said
  entry : Entry → Said
  end : Said

abbrev pub entry_of : Record → Entry
entry_of (Limit n) = limit n
entry_of (Keep b) = keep b
entry_of (Text w) = text w.now
entry_of (ALabel x) = label x
entry_of (AnExpr x) = expr x
entry_of (Oper x) = oper x
entry_of (ANode x) = node x

abbrev pub said : Line → Said
said Empty = nothing
said (Script name) = script name.now
said (ARecord r) = entry (entry_of r)
said End = end

abbrev pub said_of : Result Line Expected → Result Said Expected
said_of (Ok line) = Ok (said line)
said_of (Err e) = Err e

-- ## How it is written

-- The word that a line begins with.
unfoldable pub keyword_of : List ℕ → Option Keyword
keyword_of w =
    cond (bytes_eq w (codes "node")) (Some KNode)
    (cond (bytes_eq w (codes "expr")) (Some KExpr)
    (cond (bytes_eq w (codes "label")) (Some KLabel)
    (cond (bytes_eq w (codes "oper")) (Some KOper)
    (cond (bytes_eq w (codes "script")) (Some KScript)
    (cond (bytes_eq w (codes "end")) (Some KEnd)
    (cond (bytes_eq w (codes "text")) (Some KText)
    (cond (bytes_eq w (codes "limit")) (Some KLimit)
    (cond (bytes_eq w (codes "keep")) (Some KKeep) None))))))))

abbrev pub most32 : ℕ
most32 = 4294967295

abbrev pub four : Reads (ℕ × ℕ × ℕ × ℕ)
four = bind (a_number most32) (λ a. bind (a_number most32) (λ b. bind (a_number most32) (λ c. bind (a_number most32) (λ d. ret (a, b, c, d)))))

-- START LENGTH
abbrev pub label_line : Reads Label
label_line = bind (a_number most32) (λ start. bind (a_number most32) (λ len. ret (record { start = start; length = len })))

-- FORM L:C L:C END LABEL
abbrev pub expr_line : Reads Expr
expr_line =
    bind (a_number most32) (λ form. bind a_position (λ at. bind a_position (λ start. bind (a_number most32) (λ end. bind (a_number most32) (λ label.
    ret (record { form = form; at = at; start = start; end = end; label = label }))))))

-- TOKEN LABEL
abbrev pub symbol_of : Reads Symbol
symbol_of = bind (a_number 65535) (λ token. bind (a_number most32) (λ label. ret (record { token = token; label = label })))

-- TOKEN LABEL TOKEN LABEL
abbrev pub oper_line : Reads Operator
oper_line = bind symbol_of (λ compound. bind symbol_of (λ binary. ret (record { compound = compound; binary = binary })))

-- KIND FLAGS L:C L:C MID END EXPR LABEL LABEL2 REUSE TARGET OPER
abbrev pub node_line : Reads Node
node_line =
    bind (a_number most32) (λ kind. bind (a_number most32) (λ flags. bind a_position (λ at. bind a_position (λ mark. bind four (λ p. bind four (λ q.
    ret (record { kind = kind; flags = flags; at = at; mark = mark; mid = p.0; end = p.1; expr = p.2; label = p.3; counter = q.0; reuse = q.1; target = q.2; operator = q.3 })))))))

-- What follows the first word.
abbrev pub fields_of : Keyword → Reads Said
fields_of KScript = bind (a_word AName) (λ w. ret (script w))
fields_of KLimit = bind (a_number most32) (λ n. ret (entry (limit n)))
fields_of KKeep = bind a_flag (λ b. ret (entry (keep b)))
fields_of KText = bind (a_word HexPairs) (λ w. ret (entry (text w)))
fields_of KLabel = bind label_line (λ x. ret (entry (label x)))
fields_of KExpr = bind expr_line (λ x. ret (entry (expr x)))
fields_of KOper = bind oper_line (λ x. ret (entry (oper x)))
fields_of KNode = bind node_line (λ x. ret (entry (node x)))
fields_of KEnd = ret end

-- A word that begins a comment.
abbrev pub commented : List ℕ → Bool
commented w = slice_index w 0 == 35

-- A line whose first word is known.
abbrev pub said_from : Option Keyword → Reads Said
said_from k = bind (given AKeyword k) (λ k. bind (fields_of k) (λ s. bind no_more (λ u. ret s)))

-- A line with a word in it.
abbrev pub word_line : Reads Said
word_line = bind (a_word AKeyword) (λ w. cond (commented w) (ret nothing) (said_from (keyword_of w)))

-- A whole line.
abbrev pub line_of : List ℕ → Result Said Expected
line_of line = cond (length (from_word line) == 0) (Ok nothing) (value (word_line (from_word line)))
