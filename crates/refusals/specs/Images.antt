-- The test of a list of images, node by node. proofs/EmbeddingLaws.antt shows that it says exactly whether the list is an
-- embedding into the summary (document 01: a placement).
use Rattle.std.specs.Prelude.{ℕ, zero, suc, ◌≡◌, Bool, ◌&&◌, List, eqb, ltb, length}
use Rattle.model.specs.Summary.{Summary, as_document, summary_label}
use Rattle.model.specs.Pattern.{Pattern, pattern_parent, pattern_label, descends, label_fits}
use Rattle.model.specs.Embeddings.{edge_test, image_in}
use Rattle.format.specs.Given.{SummaryKept, PatternKept}

-- the root's image is the root, and any other node's is reached by its edge from its parent's image
unfoldable pub image_reached : Summary → Pattern → List ℕ → ℕ → Bool
image_reached S P es zero = eqb (image_in es zero) 0
image_reached S P es (suc q) = edge_test (descends P (suc q)) (as_document S) (image_in es (pattern_parent P (suc q))) (image_in es (suc q))

-- node q stands well at its image
unfoldable pub image_kept : Summary → Pattern → List ℕ → ℕ → Bool
image_kept S P es q = ltb (image_in es q) (length S) && label_fits (pattern_label P q) (summary_label S (image_in es q)) && image_reached S P es q

-- what the test asks: the two trees, and an image for each pattern node
pub record ImagesGiven (S : Summary) (P : Pattern) (es : List ℕ) : Type 0 where
  pub summary : SummaryKept S
  pub pattern : PatternKept P
  pub count : length es ≡ length P
