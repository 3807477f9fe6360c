-- `questions::positions::Seen::with` meets its contract: a position that the masks have no room for leaves them as they are. Assumes nothing.
use Rattle.std.proofs.Common.{ℕ, ◌+◌, ap}
use Rattle.questions.proofs.PositionLaws.{sees-far, sees-in}
use Rattle.questions.proofs.positions.Seen.with.Goals as goal

pub returns-then-position-gt63 : goal.returns-then-position-gt63
returns-then-position-gt63 c = sees-far _ _ _ (ap (λ (n : ℕ). c.args.self.count + n) c.from.ensures) c.if-position-gt63.true

pub returns : goal.returns
returns c = sees-in _ _ _ _ (ap (λ (n : ℕ). c.args.self.count + n) c.from.ensures) c.insert.ensures c.has.ensures c.insert_if.ensures
