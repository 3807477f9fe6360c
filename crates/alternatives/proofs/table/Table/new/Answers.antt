-- `alternatives::table::Table::new` meets its contract: no cell stands for any set. Assumes nothing.
use mathlib.Core.Path.{refl}
use Rattle.alternatives.proofs.TableLaws.{filled_none, bare_none}
use Rattle.alternatives.proofs.table.Table.new.Goals as goal

pub invariant_of-result : goal.invariant_of-result
invariant_of-result c = record { filled = filled_none }

pub returns : goal.returns
returns c = bare_none _ refl
