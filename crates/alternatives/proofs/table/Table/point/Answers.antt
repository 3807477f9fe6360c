-- `alternatives::table::Table::point` meets its contract: the cell is written, and the others stay. Assumes nothing.
use Rattle.std.proofs.Common.{arith}
use Rattle.alternatives.proofs.TableLaws.{stored-point}
use Rattle.alternatives.proofs.table.Table.point.Goals as goal

pub returns : goal.returns
returns c = stored-point c.args.self.now c.args.start c.args.many _ c.cell.ensures.0 (omega (arith, c.cell.ensures.1))
