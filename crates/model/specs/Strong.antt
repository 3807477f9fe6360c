-- The strong children of every outline node, gathered into one table. Code is promised against it, and no outcome of a call and no
-- demand is stated with it. proofs/Strong.antt shows that it has for each node exactly its strong children, in outline order.
use Rattle.std.specs.Prelude.{ℕ, List, map}
use Rattle.model.specs.Limits.{max_summary}
use Rattle.model.specs.Lists.{up_from, mask_below}
use Rattle.model.specs.Summary.{Summary}
use Rattle.model.specs.Fitting.{strong_test}

-- by outline node, the mask of its strong children, whose members in ascending order are in outline order
unfoldable pub strong_table : Summary → List ℕ
strong_table S = map (λ s. mask_below (strong_test S s) max_summary) (up_from 0 max_summary)
