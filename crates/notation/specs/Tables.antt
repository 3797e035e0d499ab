-- The tables of a script that is being read, and what a line adds to them.
use Rattle.std.specs.Prelude.{ℕ, Bool, true, false, cond, List, [], ◌∷◌, ◌++◌, Ok, Err, vec_items, codes, Result}
use Rattle.std.specs.Str.{bytes_eq}
use Rattle.records.specs.Tree.{Records, no_label, no_expr, no_operator}
use Rattle.words.specs.declared.expected.Expected.{Expected}
use Rattle.words.specs.declared.expected.Expected.TheVariants.{Script as AScript, End as AnEnd}
use Rattle.notation.specs.declared.draft.Draft.{Draft}
use Rattle.notation.specs.declared.reader.Reader.{Reader}
use Rattle.notation.specs.declared.reader.Step.{Step}
use Rattle.notation.specs.declared.reader.Step.TheVariants.{More, Complete}
use Rattle.words.specs.Hex.{spelt}
use Rattle.notation.specs.Lines.{Entry, Entry.limit, Entry.keep, Entry.text, Entry.label, Entry.expr, Entry.oper, Entry.node, Said, Said.nothing, Said.script, Said.entry, Said.end}

-- The name and the records so far.
pub record Tables : Type 0 where
  pub name : List ℕ
  pub records : Records

-- What a draft holds.
abbrev pub records_of : Draft → Records
records_of d = record { text = vec_items d.text; labels = vec_items d.labels; exprs = vec_items d.exprs; operators = vec_items d.operators; nodes = vec_items d.nodes; limit = d.limit; keep = d.keep }

abbrev pub tables : Draft → Tables
tables d = record { name = vec_items d.name; records = records_of d }

-- Before the first script.
abbrev pub untouched : Tables
untouched = record { name = []; records = record { text = []; labels = []; exprs = []; operators = []; nodes = []; limit = 65535; keep = false } }

-- A script begins with the unused records 0, the largest limit, and its scope not kept.
abbrev pub fresh : List ℕ → Tables
fresh name = record { name = name; records = record { text = []; labels = no_label ∷ []; exprs = no_expr ∷ []; operators = no_operator ∷ []; nodes = []; limit = 65535; keep = false } }

-- A text's bytes: a dash is none.
abbrev pub text_of : List ℕ → Result (List ℕ) Expected
text_of w = cond (bytes_eq w (codes "-")) (Ok []) (spelt [] w)

abbrev pub with_text : Records → Result (List ℕ) Expected → Result Records Expected
with_text R (Ok bytes) = Ok (record { text = bytes; labels = R.labels; exprs = R.exprs; operators = R.operators; nodes = R.nodes; limit = R.limit; keep = R.keep })
with_text R (Err e) = Err e

-- A record goes to the end of its table; limit, scope and text take the place of those before.
abbrev pub added : Records → Entry → Result Records Expected
added R (limit n) = Ok (record { text = R.text; labels = R.labels; exprs = R.exprs; operators = R.operators; nodes = R.nodes; limit = n; keep = R.keep })
added R (keep b) = Ok (record { text = R.text; labels = R.labels; exprs = R.exprs; operators = R.operators; nodes = R.nodes; limit = R.limit; keep = b })
added R (text w) = with_text R (text_of w)
added R (label x) = Ok (record { text = R.text; labels = R.labels ++ x ∷ []; exprs = R.exprs; operators = R.operators; nodes = R.nodes; limit = R.limit; keep = R.keep })
added R (expr x) = Ok (record { text = R.text; labels = R.labels; exprs = R.exprs ++ x ∷ []; operators = R.operators; nodes = R.nodes; limit = R.limit; keep = R.keep })
added R (oper x) = Ok (record { text = R.text; labels = R.labels; exprs = R.exprs; operators = R.operators ++ x ∷ []; nodes = R.nodes; limit = R.limit; keep = R.keep })
added R (node x) = Ok (record { text = R.text; labels = R.labels; exprs = R.exprs; operators = R.operators; nodes = R.nodes ++ x ∷ []; limit = R.limit; keep = R.keep })

-- With the name that a script has.
abbrev pub named : List ℕ → Result Records Expected → Result Tables Expected
named name (Ok R) = Ok (record { name = name; records = R })
named name (Err e) = Err e

-- ## The reader

-- Is a script open, and what was read of it.
pub record State : Type 0 where
  pub busy : Bool
  pub tables : Tables

abbrev pub state_of : Reader → State
state_of r = record { busy = r.busy; tables = tables r.draft }

abbrev pub on_tables : Result Tables Expected → Result (Step × State) Expected
on_tables (Ok t) = Ok (More, record { busy = true; tables = t })
on_tables (Err e) = Err e

-- What a line makes of the state: records only inside a script, and no script inside another.
abbrev pub taken : State → Result Said Expected → Result (Step × State) Expected
taken s (Err e) = Err e
taken s (Ok nothing) = Ok (More, s)
taken s (Ok (script name)) = cond s.busy (Err AnEnd) (Ok (More, record { busy = true; tables = fresh name }))
taken s (Ok (entry x)) = cond s.busy (on_tables (named s.tables.name (added s.tables.records x))) (Err AScript)
taken s (Ok end) = cond s.busy (Ok (Complete, record { busy = false; tables = s.tables })) (Err AScript)
