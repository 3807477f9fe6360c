-- The pattern's nodes are laid out one after another, each by its chain: the draft holds the nodes so far, and what is left of the
-- pattern leads to the whole layout. Assumes nothing.
use Prim.Native.Nat.{ℕ, suc, ◌+◌, ◌-◌, ◌≤◌, ◌<◌}
use mathlib.Core.Path.{◌≡◌, refl, sym, ap, ap₂, ◌∙◌, subst}
use mathlib.Core.Logic.{inr}
use mathlib.Core.List.{List, [], ◌∷◌, ◌++◌}
use native.Mathlib.Omega.{arith}
use native.Mathlib.Numerals.{add-one}
use lib.ListN.{length, get_or, drop, set, replicate, drop_of_length-le}
use lib.Seq.{drop-cons, get_or-take}
use Rattle.model.specs.Limits.{max_canonical}
use Rattle.model.specs.Summary.{Summary, as_document}
use Rattle.model.specs.Pattern.{Pattern, PatternRecord, no_pattern_record, pattern_parent, descends}
use Rattle.model.specs.Embeddings.{image_in}
use Rattle.model.specs.Bytes.{written_at_front}
use Rattle.model.specs.Canonical.{Spot, root_spot, chain, append_chain, Layout, lay_node, lay_nodes, root_layout, chains}
use Rattle.model.proofs.ListLaws.{length-snoc}
use Rattle.model.proofs.TreeLaws.{edge-below}
use Rattle.model.proofs.ChainPhase.{drop-one}
use Rattle.format.proofs.FrontLaws.{front-get_or, front-set}
use Rattle.canonical.specs.Draft.{Tables, Drafted}
use Rattle.canonical.specs.Given.{embedding_in, Embedded, Hanging, Hung}
use Rattle.canonical.proofs.DraftLaws.{each_snoc}
use Rattle.canonical.proofs.ChainLaws.{append-length}
use Rattle.canonical.proofs.LayoutLaws.{chains-few}

lay-grows : (es : List ℕ) (S : Summary) (l : Layout) (rs : List PatternRecord) → length l.spots ≤ length (lay_nodes es S l rs).spots
unfolding lay_nodes lay_node
lay-grows es S l [] = omega arith
lay-grows es S l (r ∷ rs) =
    let q : ℕ = length l.own in
    let v : ℕ = image_in l.own r.parent in
    let xs : List ℕ = chain S (image_in es r.parent) (image_in es q) in
    let n : length (append_chain q l.spots v xs) ≡ length l.spots + length xs = append-length q l.spots v xs in
    let k : length (append_chain q l.spots v xs) ≤ length (lay_nodes es S (lay_node es S l r) rs).spots = lay-grows es S (lay_node es S l r) rs in
    omega arith

-- q pattern nodes are laid out: the draft holds the nodes so far, own has the own nodes so far, and the rest leads to the layout
pub record Laying (S : Summary) (P : Pattern) (es : List ℕ) (base now : Tables) (own : List ℕ) (q count : ℕ) : Type 0 where
  pub layout : Layout
  pub drafted : Drafted S layout.spots base now count
  pub own_front : own ≡ written_at_front layout.own (replicate 16 0)
  pub own_length : length layout.own ≡ q
  pub own_inside : (p : ℕ) → p < q → image_in layout.own p < count
  pub rest : lay_nodes es S layout (drop q P) ≡ chains S P es

pub laying-start : (S : Summary) (P : Pattern) (es : List ℕ) {base now : Tables} {count : ℕ} → Drafted S (root_spot ∷ []) base now count
    → Laying S P es base now (replicate 16 0) 1 count
unfolding chains written_at_front
laying-start S P es {count = count} c =
    record {
      layout = root_layout;
      drafted = c;
      own_front = refl;
      own_length = refl;
      own_inside = λ p l. subst (λ (k : ℕ). image_in (0 ∷ []) k < count) (let z : 0 ≡ p = omega arith in z) c.some;
      rest = ap (lay_nodes es S root_layout) (drop-one P);
    }

-- all pattern nodes are laid out
pub laying-end : {S : Summary} {P : Pattern} {es : List ℕ} {base now : Tables} {own : List ℕ} {q count : ℕ}
    → Laying S P es base now own q count → length P ≤ q → Drafted S (chains S P es).spots base now count × (own ≡ written_at_front (chains S P es).own (replicate 16 0))
unfolding lay_nodes
laying-end {S} {P} {es} {base} {now} {own} {q} {count} l h =
    subst (λ (y : Layout). Drafted S y.spots base now count × (own ≡ written_at_front y.own (replicate 16 0))) whole (l.drafted, l.own_front)
  where
    whole : l.layout ≡ chains S P es
    whole = ap (lay_nodes es S l.layout) (sym (drop_of_length-le P h)) ∙ l.rest

module _ {S : Summary} {P : Pattern} {images : List ℕ} (given : Embedded S P images) where
  abbrev es : List ℕ
  es = embedding_in P images

  -- an image, by the table that is lent
  image : (k : ℕ) → k < length P → get_or images k 0 ≡ image_in es k
  image k h = sym (get_or-take (length P) images k 0 h)

  module _ {base now : Tables} {own : List ℕ} {q count : ℕ} (l : Laying S P es base now own q count) (positive : 0 < q) (inside : q < length P) where
    abbrev p : ℕ
    p = pattern_parent P q

    abbrev v : ℕ
    v = image_in l.layout.own p

    -- the next pattern node's parent
    pub parent-earlier : p < q
    parent-earlier = given.pattern.tree.earlier q positive inside

    -- the layout with that node
    next_layout : Layout
    next_layout = lay_node es S l.layout (get_or P q no_pattern_record)

    next-spots : next_layout.spots ≡ append_chain q l.layout.spots v (chain S (image_in es p) (image_in es q))
    unfolding next_layout lay_node
    next-spots = ap (λ (k : ℕ). append_chain k l.layout.spots v (chain S (image_in es p) (image_in es k))) l.own_length

    next-own : next_layout.own ≡ l.layout.own ++ (length next_layout.spots - 1) ∷ []
    unfolding next_layout lay_node
    next-own = refl

    next-rest : lay_nodes es S next_layout (drop (q + 1) P) ≡ chains S P es
    unfolding lay_nodes next_layout
    next-rest =
        ap (λ (k : ℕ). lay_nodes es S next_layout (drop k P)) (add-one q)
        ∙ ap (lay_nodes es S l.layout) (sym (drop-cons P q no_pattern_record inside)) ∙ l.rest

    -- its chain is to be hung from the parent's own node
    next-chain : Hanging S (image_in es p) (image_in es q) v count
    next-chain =
        record {
          reach = inr (edge-below (descends P q) (as_document S) (image_in es p) (image_in es q) (given.embedding.edges q positive inside));
          hangs = l.own_inside p parent-earlier;
          room = fits;
        }
      where
        xs : List ℕ
        xs = chain S (image_in es p) (image_in es q)

        fits : count + length xs ≤ max_canonical
        fits =
            let a : length next_layout.spots ≡ length l.layout.spots + length xs = ap (λ (t : List Spot). length t) next-spots ∙ append-length q l.layout.spots v xs in
            let b : length next_layout.spots ≤ length (lay_nodes es S next_layout (drop (q + 1) P)).spots = lay-grows es S next_layout (drop (q + 1) P) in
            let c : length (lay_nodes es S next_layout (drop (q + 1) P)).spots ≡ length (chains S P es).spots = ap (λ (y : Layout). length y.spots) next-rest in
            let d = chains-few given in
            let e = l.drafted.counted in
            omega arith

    -- the numbers that are read of it
    pub record Read (a b h : ℕ) : Type 0 where
      above : a ≡ image_in es p
      below : b ≡ image_in es q
      from : h ≡ v

    pub read_next : (x a b h : ℕ) → x ≡ p → a ≡ get_or images x 0 → b ≡ get_or images q 0 → h ≡ get_or own x 0 → Read a b h
    read_next x a b h same ea eb eh =
        let e = parent-earlier in
        let n = l.own_length in
        record {
          above = ea ∙ ap (λ (k : ℕ). get_or images k 0) same ∙ image p (omega arith);
          below = eb ∙ image q inside;
          from =
              eh ∙ ap (λ (k : ℕ). get_or own k 0) same ∙ ap (λ (z : List ℕ). get_or z p 0) l.own_front
              ∙ front-get_or l.layout.own (replicate 16 0) p 0 (omega arith);
        }

    module _ {a b h : ℕ} (r : Read a b h) where
      pub next-hanging : Hanging S a b h count
      next-hanging = rw (r.above, r.below, r.from) next-chain

      -- and then the next node's own node is the last
      module _ {after : Tables} {n : ℕ} (u : Hung S a b h count now after n) where
        grown : Drafted S next_layout.spots base after n
        grown =
            subst (λ (t : List Spot). Drafted S t base after n) (sym (next-spots ∙ same)) (u.grown q l.layout.spots base l.drafted)
          where
            same : append_chain q l.layout.spots v (chain S (image_in es p) (image_in es q)) ≡ append_chain q l.layout.spots h (chain S a b)
            same = cc (r.above, r.below, r.from)

        pub laying-next : Laying S P es base after (set own q (n - 1)) (q + 1) n
        laying-next =
            record {
              layout = next_layout;
              drafted = grown;
              own_front = stored;
              own_length = length-snoc';
              own_inside = own-inside;
              rest = next-rest;
            }
          where
            own-next : next_layout.own ≡ l.layout.own ++ (n - 1) ∷ []
            own-next = next-own ∙ ap (λ (k : ℕ). l.layout.own ++ (k - 1) ∷ []) (sym grown.counted)

            length-snoc' : length next_layout.own ≡ q + 1
            length-snoc' = ap (λ (k : List ℕ). length k) own-next ∙ length-snoc l.layout.own (n - 1) ∙ ap suc l.own_length ∙ sym (add-one q)

            stored : set own q (n - 1) ≡ written_at_front next_layout.own (replicate 16 0)
            stored =
                let e = l.own_length in
                let few = given.pattern.few in
                ap₂ (λ (x : List ℕ) (k : ℕ). set x k (n - 1)) l.own_front (sym l.own_length) ∙ front-set l.layout.own (replicate 16 0) (n - 1) (omega arith)
                ∙ ap (λ (w : List ℕ). written_at_front w (replicate 16 0)) (sym own-next)

            longer : count ≤ n
            longer = let k = u.counted in omega arith

            own-inside : (k : ℕ) → k < q + 1 → image_in next_layout.own k < n
            own-inside k h' =
                let e = l.own_length in
                let g = longer in
                let o = grown.some in
                subst (λ (own : List ℕ). image_in own k < n) (sym own-next)
                (each_snoc (λ (x : ℕ). x < n) l.layout.own (n - 1) 0 (λ i m. let j = l.own_inside i (omega arith) in omega arith) (omega arith) k (omega arith))

-- ---- the loop over the pattern's nodes, from what is laid out where it begins

pub record Going (S : Summary) (P : Pattern) (images : List ℕ) (before now : Tables) (own₀ own : List ℕ) (count₀ count q : ℕ) : Type 0 where
  pub positive : 0 < q
  pub turns : q ≤ length P
  pub laying : (base : Tables) → Laying S P (embedding_in P images) base before own₀ 1 count₀ → Laying S P (embedding_in P images) base now own q count
