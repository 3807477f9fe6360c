-- `moving::write::put_record` meets its contract: the four fields that are copied, and the figure where there is a field for it, are the
-- record's. Assumes nothing.
use Rattle.moving.proofs.RowLaws.{record-narrower, record-wider}
use Rattle.moving.proofs.write.put_record.Goals as goal

pub returns-then-this-gt-OLD_WIDTH : goal.returns-then-this-gt-OLD_WIDTH
returns-then-this-gt-OLD_WIDTH g c = record-wider _ _ _ _ c.if-this-gt-OLD_WIDTH.true c.requires.width.1 c.copy_fields.ensures c.put_field.ensures

pub returns-else-this-gt-OLD_WIDTH : goal.returns-else-this-gt-OLD_WIDTH
returns-else-this-gt-OLD_WIDTH g c = record-narrower _ _ _ _ c.requires.width.0 c.if-this-gt-OLD_WIDTH.false c.copy_fields.ensures
