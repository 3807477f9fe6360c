-- E1 to E10 hold: the checker computes each test. Assumes nothing.
use mathlib.Core.Path.{◌≡◌, refl}
use mathlib.Core.Bool.{true}
use lib.ListN.{replicate}
use Rattle.model.specs.Examples.{answers, judged, shows, examples}
use Rattle.model.proofs.Computing.{printing}

pub e1-to-e10 : examples ≡ replicate 15 true
unfolding printing answers judged shows examples
e1-to-e10 = refl
