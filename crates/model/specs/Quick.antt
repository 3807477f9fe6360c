-- The quick test of a placement, which lays nothing out. proofs/Quick.antt shows that it equals "the trial passes": code is promised
-- against it, and no outcome of a call and no demand is stated with it. Sets of one member's nodes are functions to Bool. x is
-- a summary node, h what the document node there holds of the first pattern, acc the pattern nodes that its children offer.
use Rattle.std.specs.Prelude.{ℕ, zero, suc, Bool, false, ◌&&◌, ◌||◌, not, List, [], ◌∷◌, eqb, ltb, length}
use Rattle.model.specs.Lists.{up_from, any_of, all_of}
use Rattle.model.specs.Summary.{Summary, summary_label}
use Rattle.model.specs.Pattern.{Pattern, pattern_parent, pattern_label, descends, position, pattern_figure, label_fits, figure_fits}
use Rattle.model.specs.Embeddings.{image_in}
use Rattle.model.specs.Fitting.{strong_children}
use Rattle.model.specs.Canonical.{chain}

-- what a document node holds of the first pattern: a position or 0, and its figure
pub record Held : Type 0 where
  pub position : ℕ
  pub figure : ℕ

-- an own node holds its pattern node's, every other node nothing
abbrev pub held_by : Pattern → ℕ → Held
held_by P c = record { position = position P c; figure = pattern_figure P c }

abbrev pub unheld : Held
unheld = record { position = 0; figure = 0 }

-- p's position is 0 or the one held, and its least figure fits the one held
unfoldable pub may_hold : Pattern → Held → ℕ → Bool
may_hold Q h p = (eqb (position Q p) 0 || eqb (position Q p) h.position) && figure_fits (pattern_figure Q p) h.figure

-- c is a child of p in the pattern
unfoldable pub hangs_from : Pattern → ℕ → ℕ → Bool
hangs_from Q p c = ltb 0 c && eqb (pattern_parent Q c) p

-- p's label fits, p may stand where h is held, and all of p's children are offered
unfoldable pub meets : Summary → Pattern → ℕ → Held → (ℕ → Bool) → ℕ → Bool
meets S Q x h acc p =
    label_fits (pattern_label Q p) (summary_label S x) && may_hold Q h p
    && all_of (λ c. not (hangs_from Q p c) || acc c) (up_from 0 (length Q))

-- what a node offers to its parent: p meets there, or p hangs by a descendant edge and is offered from further down
unfoldable pub offers : Summary → Pattern → ℕ → Held → (ℕ → Bool) → ℕ → Bool
offers S Q x h acc p = meets S Q x h acc p || (descends Q p && acc p)

-- what the filled-up children of a node on x offer, at most n levels deep
unfoldable pub closed_in : ℕ → Summary → Pattern → ℕ → ℕ → Bool
closed_in zero S Q x p = false
closed_in (suc n) S Q x p = any_of (λ t. offers S Q t unheld (closed_in n S Q t) p) (strong_children S x)

-- what the filled-up children of a node on x offer
unfoldable pub closed : Summary → Pattern → ℕ → ℕ → Bool
closed S Q = closed_in (length S) S Q

-- what the root's filled-up children offer, whatever the placement: the one constant of judging
abbrev pub base : Summary → Pattern → ℕ → Bool
base S Q = closed S Q 0

abbrev pub union : (ℕ → Bool) → (ℕ → Bool) → ℕ → Bool
union f g p = f p || g p

-- what a chain along the summary nodes xs offers to the node it hangs from; its last node holds h, the others nothing, and is offered
-- g by the chains that hang from it
unfoldable pub hang : Summary → Pattern → Held → (ℕ → Bool) → List ℕ → ℕ → Bool
hang S Q h g [] = g
hang S Q h g (x ∷ []) = offers S Q x h (union (closed S Q x) g)
hang S Q h g (x ∷ y ∷ ys) = offers S Q x unheld (union (closed S Q x) (hang S Q h g (y ∷ ys)))

-- what the chains that hang from first-pattern node j offer, in the placement es, at most n levels deep
unfoldable pub given_in : ℕ → Summary → Pattern → Pattern → List ℕ → ℕ → ℕ → Bool
given_in zero S P Q es j p = false
given_in (suc n) S P Q es j p =
    any_of (λ c. hangs_from P j c && hang S Q (held_by P c) (given_in n S P Q es c) (chain S (image_in es j) (image_in es c)) p) (up_from 0 (length P))

unfoldable pub given : Summary → Pattern → Pattern → List ℕ → ℕ → ℕ → Bool
given S P Q es = given_in (length P) S P Q es

-- what the chains that hang from first-pattern node j offer, of those children whose parts lie before node q; `last c` is the last node
-- of c's part
unfoldable pub settled : Summary → Pattern → Pattern → (ℕ → ℕ) → List ℕ → ℕ → ℕ → ℕ → Bool
settled S P Q last es q j p =
    any_of (λ c. hangs_from P j c && (ltb (last c) q && hang S Q (held_by P c) (given S P Q es c) (chain S (image_in es j) (image_in es c)) p)) (up_from 0 (length P))

-- the member's root meets at the root
unfoldable pub quick : Summary → Pattern → Pattern → List ℕ → Bool
quick S P Q es = meets S Q 0 (held_by P 0) (union (base S Q) (given S P Q es 0)) 0
