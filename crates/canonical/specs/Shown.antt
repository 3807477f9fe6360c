-- What "not included" shows of an embedding.
use Rattle.std.specs.Prelude.{ℕ, ◌+◌, ◌≤◌, ◌≡◌, List, ◌++◌, map}
use Rattle.model.specs.Limits.{max_position}
use Rattle.model.specs.Lists.{up_from}
use Rattle.model.specs.Summary.{Summary}
use Rattle.model.specs.Pattern.{Pattern, node_at, arity}
use Rattle.model.specs.Embeddings.{image_in}
use Rattle.model.specs.Facts.{PatternFacts}
use Rattle.model.specs.Canonical.{canonical, own_result}
use Rattle.model.specs.Bytes.{encode_document, encode_counted}
use Rattle.canonical.specs.Given.{Embedded}

-- the own nodes at positions 1 to k, by a table of own nodes
abbrev pub own_at : Pattern → List ℕ → ℕ → List ℕ
own_at P own k = map (λ i. image_in own (node_at P (i + 1))) (up_from 0 k)

-- the bytes that are shown (document 01: the volume's section, then the result as a count and k node numbers)
abbrev pub shown_document : Summary → Pattern → List ℕ → List ℕ
shown_document S P es = encode_document (canonical S P es) ++ encode_counted (own_result S P es)

-- an embedding of a pattern by the rules, of k positions
pub record Showable (S : Summary) (P : Pattern) (images : List ℕ) (k : ℕ) : Type 0 where
  pub embedded : Embedded S P images
  pub facts : PatternFacts P
  pub positions : k ≡ arity P
  pub few : k ≤ max_position
