use Rattle.std.proofs.Common.{◌≡◌, ℕ, ◌-◌, ◌<◌, ◌≤◌, ◌++◌, length, get_or, take, drop}
use Rattle.meaning.specs.SetCode.{place_of, set_from, write_faults}
use Rattle.writers.specs.Write.{writer_on}
use Rattle.setting.proofs.places.Setter.put_pieces.Given as goal

-- the pieces up to here stand, each from its remembered place on; those of the operations from here on are still to be
-- put, and decide
abbrev pub invariant-loop-i : goal.invariant-loop-i
invariant-loop-i g l =
    let W = writer_on (g.W.Writer.means l.self.writer.now) l.self.named in
    let rows = l.self.rows.now in
    record {
      within : l.at ≤ length l.out;
      stand : set_from W rows (λ t. t) 0 l.ops ≡ take l.at l.out ++ set_from W rows (λ t. t) l.at (drop l.i l.ops);
      faults : write_faults W rows (length l.out) l.ops ≡ write_faults W rows (length l.out - l.at) (drop l.i l.ops);
      here : l.at ≡ place_of W rows l.ops l.i;
      before : (j : ℕ) → j < l.i → get_or l.places j 0 ≡ place_of W rows l.ops j;
    }
