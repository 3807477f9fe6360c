-- A round as the code answers it.
use Rattle.std.specs.Prelude.{ℕ, Option, Some, None}
use Rattle.std.proofs.Math.Option as math
use Rattle.model.specs.Lists.{total}
use Rattle.model.specs.Summary.{Summary}
use Rattle.model.specs.Pattern.{Pattern}
use Rattle.model.specs.Striking as model
use Rattle.striking.specs.declared.round.Rounded.{Rounded}

-- the leaf that a round strikes, if any
abbrev pub leaf_of : math.Option ℕ → Option ℕ
leaf_of math.none = None
leaf_of (math.some q) = Some q

-- the round over P
abbrev pub round_of : Summary → ℕ → Pattern → Rounded
round_of S L P = let r : model.Round = model.round (model.verdict_without S L P) (model.may_go_of P) in record { leaf = leaf_of r.struck; tried = total r.tried }
