use Rattle.std.proofs.Common.{◌+◌, ◌-◌, ◌<◌}
use Rattle.records.specs.Tree.{records, expr_at}
use Rattle.meaning.specs.Writers.{size_items}
use Rattle.writers.specs.Write.{tables_for}
use Rattle.writers.proofs.Puts.{Ahead, items_of, items_put}
use Rattle.writers.proofs.written.+put.Given as goal

-- an item's range lies inside its list's
abbrev pub decreases-put : goal.decreases-put
decreases-put l = (expr_at (records l.named.now.script) l.expr).end - l.expr

-- past the list's own record, the items from here on are still to be written
abbrev pub invariant-loop-item : goal.invariant-loop-item
invariant-loop-item l =
    let R = records l.named.script in
    let T = tables_for l.named in
    (l.expr < l.item)
    × Ahead T R l.on l.decided l.end (l.at + size_items (items_of T R l.expr)) (items_put T R l.expr l.on l.decided l.at l.initial.out) l.item l.place l.out

abbrev pub decreases-loop-item : goal.decreases-loop-item
decreases-loop-item l = l.end - l.item
