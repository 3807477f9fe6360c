-- `alternatives::table::Table::append` meets its contract: the sets go behind those in use. Assumes nothing.
use Rattle.std.proofs.Common.{arith, refl}
use Rattle.alternatives.proofs.TableLaws.{stored-append}
use Rattle.alternatives.proofs.table.Table.append.Goals as goal

pub returns : goal.returns
returns c = stored-append c.args.self.now _ c.point.new.self c.copy_from_slice.new.self _ refl refl c.copy_from_slice.ensures.after (omega (arith, c.requires.2)) c.point.ensures
