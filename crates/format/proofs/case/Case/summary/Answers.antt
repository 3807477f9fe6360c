-- `format::case::Case::summary` meets its contract: a whole case has the section. Assumes nothing.
use Rattle.model.proofs.Bytes.{whole-case}
use Rattle.format.proofs.case.Case.summary.Goals as goal

pub new-requires : goal.new-requires
new-requires c = ((whole-case _).0 c.self.invariant).summary
