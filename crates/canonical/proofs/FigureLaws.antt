-- The figures are put in one after another: each store changes one node's figure, no node is an own node twice, and before the first
-- store every figure is 0. Assumes nothing.
use Prim.Native.Nat.{ℕ, suc, ◌+◌, ◌*◌, ◌≤◌, ◌<◌}
use mathlib.Core.Path.{◌≡◌, refl, sym, ap, ap₂, ◌∙◌, subst, fun_ext}
use mathlib.Core.Bool.{Bool, true, false}
use mathlib.Core.List.{List, [], ◌∷◌, ◌++◌, flat_map, append_assoc, Memᴰ}
use native.Mathlib.Omega.{arith}
use native.Mathlib.Nat.{zero-add}
use lib.Dec.{eqb}
use lib.ListN.{length, get_or, take, drop, set, length-set, length-append, get_or-eq_default}
use lib.Seq.{sets, sets-eq, length-sets, split_at, set_split, take-append_seam, drop-append-add, drop-append_seam, length-take-le}
use borrow.Author.Tests.{eqb-true, eq-eqb, ne_eqb}
use Rattle.model.specs.Lists.{up_from, first_of}
use Rattle.model.specs.Tree.{DocumentRecord, Document, no_document_record}
use Rattle.model.specs.Summary.{Summary}
use Rattle.model.specs.Pattern.{PatternRecord, Pattern, no_pattern_record, pattern_figure}
use Rattle.model.specs.Embeddings.{image_in}
use Rattle.model.specs.Bytes.{field_bytes, bytes_of, document_fields, section_fields, encode_document, written_at_front}
use Rattle.model.specs.Canonical.{Spot, spot_record, spot_records, own_figure}
use Rattle.model.proofs.ListLaws.{mem-up_from, up_from-mem, first-hit}
use Rattle.model.proofs.SpotLaws.{length-spots, spot-record}
use Rattle.model.proofs.Bytes.{length-bytes, front_length}
use Rattle.format.proofs.RangeLaws.{up_from-last}
use Rattle.format.proofs.WriteLaws.{flat_map-append, bytes-append, document-fields, document-size}
use Rattle.canonical.specs.Draft.{no_figure}
use Rattle.canonical.specs.Given.{Figureless, Figured}
use Rattle.canonical.proofs.DraftLaws.{map-put}

-- ---- one field of what is written

-- stores over as many entries in the middle
sets_over : (a old rest new : List ℕ) → length new ≡ length old → sets (a ++ (old ++ rest)) (length a) new ≡ a ++ (new ++ rest)
sets_over a old rest new e =
    let m : length (a ++ (old ++ rest)) ≡ length a + length (old ++ rest) = length-append a (old ++ rest) in
    let n : length (old ++ rest) ≡ length old + length rest = length-append old rest in
    sets-eq new (a ++ (old ++ rest)) (length a) (omega arith) ∙ rw (take-append_seam, drop-append-add, e, drop-append_seam, append_assoc)

-- the field after fs becomes x
field_put : (fs gs b : List ℕ) (y x : ℕ) → sets (written_at_front (bytes_of (fs ++ y ∷ gs)) b) (2 * length fs) (field_bytes x) ≡ written_at_front (bytes_of (fs ++ x ∷ gs)) b
unfolding written_at_front bytes_of flat_map field_bytes
field_put fs gs b y x =
    ap₂ (λ (l : List ℕ) (k : ℕ). sets l k (field_bytes x)) (parts y) (sym (length-bytes fs))
    ∙ sets_over (bytes_of fs) (field_bytes y) (bytes_of gs ++ rest) (field_bytes x) refl
    ∙ sym (parts x ∙ ap (λ (k : ℕ). bytes_of fs ++ (field_bytes x ++ (bytes_of gs ++ drop k b))) (long x ∙ sym (long y)))
  where
    long : (z : ℕ) → length (bytes_of (fs ++ z ∷ gs)) ≡ 2 * (length fs + (1 + length gs))
    long z = length-bytes (fs ++ z ∷ gs) ∙ ap (λ (k : ℕ). 2 * k) (length-append fs (z ∷ gs) ∙ omega arith)

    rest : List ℕ
    rest = drop (length (bytes_of (fs ++ y ∷ gs))) b

    parts : (z : ℕ) → bytes_of (fs ++ z ∷ gs) ++ drop (length (bytes_of (fs ++ z ∷ gs))) b
        ≡ bytes_of fs ++ (field_bytes z ++ (bytes_of gs ++ drop (length (bytes_of (fs ++ z ∷ gs))) b))
    parts z =
        let r : List ℕ = drop (length (bytes_of (fs ++ z ∷ gs))) b in
        ap (λ (l : List ℕ). l ++ r) (bytes-append fs (z ∷ gs)) ∙ append_assoc (bytes_of fs) (field_bytes z ++ bytes_of gs) r
        ∙ ap (λ (l : List ℕ). bytes_of fs ++ l) (append_assoc (field_bytes z) (bytes_of gs) r)

-- ---- one node's figure

-- the record with this figure
figured : DocumentRecord → ℕ → DocumentRecord
figured r x = record { parent = r.parent; label = r.label; figure = x }

-- the fields of a section before a node's figure, and from it on
section-parts : (n : ℕ) (A B : Document) (r : DocumentRecord)
    → n ∷ flat_map document_fields (A ++ r ∷ B) ≡ (n ∷ (flat_map document_fields A ++ r.parent ∷ r.label ∷ [])) ++ r.figure ∷ flat_map document_fields B
unfolding flat_map
section-parts n A B r =
    ap (λ (l : List ℕ). n ∷ l)
    (flat_map-append document_fields A (r ∷ B) ∙ sym (append_assoc (flat_map document_fields A) (r.parent ∷ r.label ∷ []) (r.figure ∷ flat_map document_fields B)))

-- the field that holds the figure of node v
figure-put : (W : Document) (b : List ℕ) (v x : ℕ) → v < length W
    → sets (written_at_front (encode_document W) b) (2 * (3 + 3 * v)) (field_bytes x)
    ≡ written_at_front (encode_document (set W v (figured (get_or W v no_document_record) x))) b
unfolding encode_document section_fields figured
figure-put W b v x h =
    ap₂ (λ (fs : List ℕ) (k : ℕ). sets (written_at_front (bytes_of fs) b) (2 * k) (field_bytes x))
    (ap (λ (X : Document). length W ∷ flat_map document_fields X) (split_at W v no_document_record h) ∙ section-parts (length W) A B r) place
    ∙ field_put front (flat_map document_fields B) b r.figure x
    ∙ ap (λ (fs : List ℕ). written_at_front (bytes_of fs) b)
    (sym (section-parts (length W) A B (figured r x)) ∙ ap₂ (λ (n : ℕ) (X : Document). n ∷ flat_map document_fields X) (sym (length-set W v (figured r x))) (sym (set_split W v (figured r x) h)))
  where
    A : Document
    A = take v W

    B : Document
    B = drop (suc v) W

    r : DocumentRecord
    r = get_or W v no_document_record

    front : List ℕ
    front = length W ∷ (flat_map document_fields A ++ r.parent ∷ r.label ∷ [])

    place : 3 + 3 * v ≡ length front
    place =
        let a : length A ≡ v = length-take-le v W (omega arith) in
        let f : length (flat_map document_fields A) ≡ 3 * length A = document-fields A in
        let n : length (flat_map document_fields A ++ r.parent ∷ r.label ∷ []) ≡ length (flat_map document_fields A) + 2 = length-append (flat_map document_fields A) (r.parent ∷ r.label ∷ []) in
        omega arith

-- of the nodes that are laid out, with figures f before and g after
spot-put : (S : Summary) (spots : List Spot) (f g : ℕ → ℕ) (b : List ℕ) (v x : ℕ) → v < length spots → g v ≡ x → ((i : ℕ) → (i ≡ v → ⊥) → g i ≡ f i)
    → sets (written_at_front (encode_document (spot_records S f spots)) b) (2 * (3 + 3 * v)) (field_bytes x) ≡ written_at_front (encode_document (spot_records S g spots)) b
unfolding figured spot_records
spot-put S spots f g b v x h here other =
    figure-put (spot_records S f spots) b v x (omega (arith, length-spots S f spots))
    ∙ ap (λ (W : Document). written_at_front (encode_document W) b)
    (ap (λ (r : DocumentRecord). set (spot_records S f spots) v (figured r x)) (spot-record S f spots v h)
    ∙ map-put no_document_record (spot_record S f spots) (spot_record S g spots) (length spots) v (figured (spot_record S f spots v) x) h
    (ap (figured (spot_record S f spots v)) here) (λ i ne. ap (figured (spot_record S f spots i)) (other i ne)))

-- ---- the first pattern node of which a node is the own node

first-agree : (f g : ℕ → Bool) (d : ℕ) (xs : List ℕ) → ((x : ℕ) → Memᴰ x xs → f x ≡ g x) → first_of f d xs ≡ first_of g d xs
unfolding first_of
first-agree f g d [] h = refl
first-agree f g d (x ∷ xs) h =
    ap₂ (λ (b : Bool) (n : ℕ). elim b as (λ _. ℕ) [ true ↦ x | false ↦ n ]) (h x (Memᴰ.head refl)) (first-agree f g d xs (λ y m. h y (Memᴰ.tail m)))

-- one number more that does not pass
first-snoc : (test : ℕ → Bool) (d : ℕ) (xs : List ℕ) (x : ℕ) → test x ≡ false → first_of test d (xs ++ x ∷ []) ≡ first_of test d xs
unfolding first_of
first-snoc test d [] x e = ap (λ (b : Bool). elim b as (λ _. ℕ) [ true ↦ x | false ↦ d ]) e
first-snoc test d (y ∷ ys) x e = ap (λ (n : ℕ). elim (test y) as (λ _. ℕ) [ true ↦ y | false ↦ n ]) (first-snoc test d ys x e)

-- tables of own nodes that agree on the pattern's nodes give the same figures
pub figures-agree : (P : Pattern) (own more : List ℕ) → ((q : ℕ) → q < length P → image_in own q ≡ image_in more q) → (v : ℕ) → own_figure P own v ≡ own_figure P more v
unfolding own_figure
figures-agree P own more same v =
    ap (pattern_figure P)
    (first-agree (λ q. eqb (image_in own q) v) (λ q. eqb (image_in more q) v) (length P) (up_from 0 (length P))
    (λ q m. (let k = up_from-mem 0 (length P) q m in ap (λ (x : ℕ). eqb x v) (same q (omega arith)))))

-- ---- the loop over the pattern's nodes

-- the figures once those of the first k pattern nodes are in
unfoldable pub figures_of : Pattern → List ℕ → ℕ → ℕ → ℕ
figures_of P own k v = pattern_figure P (first_of (λ q. eqb (image_in own q) v) (length P) (up_from 0 k))

-- k of them are in
pub record Figuring (P : Pattern) (own before now : List ℕ) (k : ℕ) : Type 0 where
  pub turns : k ≤ length P
  pub size : length now ≡ length before
  pub written : (S : Summary) (spots : List Spot) (base : List ℕ) → Figureless S spots P own base before
      → now ≡ written_at_front (encode_document (spot_records S (figures_of P own k) spots)) base

module _ {P : Pattern} {own before : List ℕ} where
  pub figuring-start : Figuring P own before before 0
  unfolding figures_of first_of up_from
  figuring-start =
      record {
        turns = omega arith;
        size = refl;
        written = λ S spots base g.
            g.section
            ∙ ap (λ (f : ℕ → ℕ). written_at_front (encode_document (spot_records S f spots)) base)
            (fun_ext (λ v. sym (ap (λ (r : PatternRecord). r.figure) (get_or-eq_default P no_pattern_record (omega arith)))));
      }

  module _ {now : List ℕ} {k : ℕ} (g : Figuring P own before now k) where
    -- the next pattern node's own node gets its figure
    pub figuring-step : {v x : ℕ} {after : List ℕ} → k < length P → v ≡ image_in own k → x ≡ pattern_figure P k → after ≡ sets now (2 * (3 + 3 * v)) (field_bytes x)
        → Figuring P own before after (k + 1)
    unfolding figures_of
    figuring-step {v} {x} {after} h e fig new =
        record {
          turns = omega arith;
          size = ap (λ (l : List ℕ). length l) new ∙ length-sets now (2 * (3 + 3 * v)) (field_bytes x) ∙ g.size;
          written = λ S spots base given.
              new ∙ ap (λ (l : List ℕ). sets l (2 * (3 + 3 * v)) (field_bytes x)) (g.written S spots base given)
              ∙ spot-put S spots (figures_of P own k) (figures_of P own (k + 1)) base v x (subst (λ (i : ℕ). i < length spots) (sym e) (given.inside k h)) (here given.apart) other;
        }
      where
        here : ((p q : ℕ) → p < length P → q < length P → image_in own p ≡ image_in own q → p ≡ q) → figures_of P own (k + 1) v ≡ x
        here apart =
            let hit = first-hit (λ q. eqb (image_in own q) v) (length P) (up_from 0 (k + 1)) k (mem-up_from 0 (k + 1) k (omega arith) (omega arith)) (eq-eqb (image_in own k) v (sym e)) in
            let q : ℕ = first_of (λ q. eqb (image_in own q) v) (length P) (up_from 0 (k + 1)) in
            let l = up_from-mem 0 (k + 1) q hit.0 in
            ap (pattern_figure P) (apart q k (omega arith) h (eqb-true (image_in own q) v hit.1 ∙ e)) ∙ sym fig

        other : (i : ℕ) → (i ≡ v → ⊥) → figures_of P own (k + 1) i ≡ figures_of P own k i
        other i ne =
            let test : ℕ → Bool = λ q. eqb (image_in own q) i in
            ap (pattern_figure P)
            (ap (first_of test (length P)) (up_from-last 0 k)
            ∙ first-snoc test (length P) (up_from 0 k) (0 + k) (ap test (zero-add k) ∙ ne_eqb (image_in own k) i (λ p. ne (sym (e ∙ p)))))

    pub figuring-end : length P ≤ k → (S : Summary) (spots : List Spot) (base : List ℕ) → Figureless S spots P own base before → Figured S spots P own base now
    unfolding figures_of own_figure
    figuring-end h S spots base given =
        g.written S spots base given
        ∙ ap (λ (n : ℕ). written_at_front (encode_document (spot_records S (figures_of P own n) spots)) base) (let t = g.turns in let e : k ≡ length P = omega arith in e)

  -- where a field to be put stands, in a buffer that keeps its length
  pub figuring-room : {now base : List ℕ} {S : Summary} {spots : List Spot} {k v : ℕ} → Figuring P own before now k → Figureless S spots P own base before → k < length P
      → v ≡ image_in own k → 2 * (3 + 3 * v) + 1 < length now
  figuring-room {base = base} {S = S} {spots = spots} {k} {v} g given h e =
      let i : image_in own k < length spots = given.inside k h in
      let r = given.room in
      let n = g.size in
      let d : length (encode_document (spot_records S no_figure spots)) ≡ 2 + 6 * length (spot_records S no_figure spots) = document-size (spot_records S no_figure spots) in
      let m : length (spot_records S no_figure spots) ≡ length spots = length-spots S no_figure spots in
      let l : length before ≡ length base = ap (λ (x : List ℕ). length x) given.section ∙ front_length (encode_document (spot_records S no_figure spots)) base (omega arith) in
      omega arith
