use Rattle.normalising.proofs.RecordLaws.{Writing}
use Rattle.normalising.proofs.write.write_records.Given as goal

abbrev pub invariant-loop-k : goal.invariant-loop-k
invariant-loop-k g l = Writing g.T.Tree.fields l.list l.at l.initial.out l.out l.last l.k
