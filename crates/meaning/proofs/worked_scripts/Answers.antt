-- Every answer is computed.
use Rattle.std.proofs.Common.{refl}
use Rattle.records.specs.Checks.{every, tiles, walk}
use Rattle.records.specs.Preorder.{grown, forest_from}
use Rattle.meaning.specs.LowerState.{emit_at, here, patch_to, add_row, enter_name, enter_oper, depth, may_declare, declare, drop_slots, resolve, enter_block, leave_block, the_block, set_iters, set_handlers, innermost, enter_loop, leave_loop, add_break, land}
use Rattle.meaning.proofs.worked_scripts.Goals as goal

pub returns : goal.returns
unfolding every tiles walk grown forest_from emit_at here patch_to add_row enter_name enter_oper depth may_declare declare drop_slots resolve enter_block leave_block the_block set_iters set_handlers innermost enter_loop leave_loop add_break land
returns c = (refl, refl, (refl, refl, (refl, refl, (refl, refl, (refl, refl, (refl, refl, (refl, refl, (refl, refl, (refl, refl, tt)))))))))
