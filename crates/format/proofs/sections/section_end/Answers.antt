-- `format::sections::section_end` meets its contract: width and count are small, so nothing wraps. Assumes nothing.
use Prim.Native.Nat.{ℕ, ◌+◌, ◌*◌}
use mathlib.Core.Path.{ap}
use native.Mathlib.Omega.{arith}
use Rattle.format.proofs.SectionLaws.{records-few}
use Rattle.format.proofs.sections.section_end.Goals as goal

pub overflow_mul-result : goal.overflow_mul-result
overflow_mul-result c = let e = records-few _ _ c.requires.1 c.field.ensures.1 in omega arith

pub overflow_add-result-2 : goal.overflow_add-result-2
overflow_add-result-2 c = let e = records-few _ _ c.requires.1 c.field.ensures.1 in omega (arith, c.requires.0)

pub returns : goal.returns
returns c = let a = c.args in ap (λ (n : ℕ). a.at + 1 + a.width * n) c.field.ensures.0
