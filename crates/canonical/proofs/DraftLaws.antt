-- The draft's fronts hold the nodes so far: so of the root alone, and so again when one node is appended, because one record more is
-- written after the others, and only the masks of the new node and of its parent change. Assumes nothing.
use Prim.Native.Nat.{ℕ, suc, ◌+◌, ◌*◌, ◌^◌, ◌≤◌, ◌<◌}
use mathlib.Core.Path.{◌≡◌, refl, sym, ap, ap₂, ◌∙◌, subst, subst₂}
use mathlib.Core.Bool.{Bool, true, false, ◌&&◌, ◌||◌, or-false}
use mathlib.Core.List.{List, [], ◌∷◌, ◌++◌, map, flat_map, map-append, append_assoc, Memᴰ}
use native.Mathlib.Omega.{arith}
use native.Mathlib.Nat.{zero-add}
use native.Mathlib.Numerals.{add-one}
use lib.Bits.{bit_or}
use lib.Dec.{eqb, ltb}
use lib.ListN.{length, get_or, drop, set, length-set, length-map, get_or-append}
use lib.Seq.{sets, length-sets, get_or-append_seam, get_or-set_same, get_or-set_other, set-append_left, ext_get_or}
use borrow.Author.Tests.{eqb-true, eqb-false, eq-eqb, ne_eqb, ltb-true, ltb-false, lt-ltb}
use Rattle.model.specs.Limits.{min_table, max_summary, max_canonical}
use Rattle.model.specs.Lists.{up_from, any_of, has}
use Rattle.model.specs.Tree.{DocumentRecord, Document}
use Rattle.model.specs.Summary.{Summary, summary_label}
use Rattle.model.specs.Bytes.{field_bytes, bytes_of, document_fields, section_fields, encode_document, written_at_front}
use Rattle.model.specs.Canonical.{Spot, root_spot, spot_parent, spot_at, spot_record, spot_records, has_child_on}
use Rattle.model.proofs.ListLaws.{bool-ext, and_left, and_right, any-agree, any_below, up_from-mem, length-snoc, length-map-up_from, get_or_map}
use Rattle.model.proofs.TreeLaws.{length-as_document}
use Rattle.model.proofs.SpotLaws.{length-spots}
use Rattle.model.proofs.Masks.{mask-none}
use Rattle.model.proofs.Bytes.{length-bytes, front_length}
use Rattle.bits.proofs.MaskLaws.{mask-has, mask-agree, mask-insert, any_snoc}
use Rattle.format.proofs.RangeLaws.{up_from-last, map_last, map-below-ext, get_or-map-below}
use Rattle.format.proofs.FrontLaws.{front-get_or, front-set}
use Rattle.format.proofs.WriteLaws.{flat_map-append, Written, written_none, written-put, document-fields}
use Rattle.format.specs.Given.{SummaryKept}
use Rattle.canonical.specs.Draft.{Tables, Roomy, tables_of, no_figure, draft_fields, child_mask, child_masks, Drafted, appended}

-- ---- lists

-- what holds of each element of a list and of one more
pub each_snoc : {A : Type 0} (Q : A → Type 0) (xs : List A) (x d : A) → ((i : ℕ) → i < length xs → Q (get_or xs i d)) → Q x
    → (i : ℕ) → i < suc (length xs) → Q (get_or (xs ++ x ∷ []) i d)
each_snoc Q xs x d old new i h = go (ltb i (length xs)) refl
  where
    go : (b : Bool) → ltb i (length xs) ≡ b → Q (get_or (xs ++ x ∷ []) i d)
    go true e = let l : i < length xs = ltb-true i (length xs) e in subst Q (sym (get_or-append xs (x ∷ []) d i l)) (old i l)
    go false e =
        let here : i ≡ length xs = (let l : length xs ≤ i = ltb-false i (length xs) e in omega arith) in
        subst Q (sym (ap (λ (k : ℕ). get_or (xs ++ x ∷ []) k d) here ∙ get_or-append_seam xs x [] d)) new

-- a table that differs in one place
pub map-put : {A : Type 0} (d : A) (f g : ℕ → A) (n v : ℕ) (x : A) → v < n → g v ≡ x → ((i : ℕ) → (i ≡ v → ⊥) → g i ≡ f i) → set (map f (up_from 0 n)) v x ≡ map g (up_from 0 n)
map-put {A} d f g n v x h here other =
    ext_get_or d (set (map f (up_from 0 n)) v x) (map g (up_from 0 n)) (size ∙ sym (length-map-up_from g 0 n)) (λ i l. at i (subst (λ (k : ℕ). i < k) size l) (eqb i v) refl)
  where
    F : List A
    F = map f (up_from 0 n)

    plain : length F ≡ n
    plain = length-map-up_from f 0 n

    size : length (set F v x) ≡ n
    size = length-set F v x ∙ plain

    at : (i : ℕ) → i < n → (t : Bool) → eqb i v ≡ t → get_or (set F v x) i d ≡ get_or (map g (up_from 0 n)) i d
    at i l true e =
        let p : i ≡ v = eqb-true i v e in
        ap (λ (k : ℕ). get_or (set F v x) k d) p ∙ get_or-set_same F v x d (omega (arith, plain)) ∙ sym here ∙ ap g (sym p) ∙ sym (get_or-map-below g n i d l)
    at i l false e =
        let ne : i ≡ v → ⊥ = eqb-false i v e in
        get_or-set_other F v i x d ne ∙ get_or-map-below f n i d l ∙ sym (other i ne) ∙ sym (get_or-map-below g n i d l)

-- a store into what is written at the front
front-put : (w b : List ℕ) (i x : ℕ) → i < length w → set (written_at_front w b) i x ≡ written_at_front (set w i x) b
unfolding written_at_front
front-put w b i x h = set-append_left w (drop (length w) b) i x h ∙ ap (λ (k : ℕ). set w i x ++ drop k b) (sym (length-set w i x))

eqb-sym : (a b : ℕ) → eqb a b ≡ eqb b a
eqb-sym a b = bool-ext (eqb a b) (eqb b a) (λ e. eq-eqb b a (sym (eqb-true a b e))) (λ e. eq-eqb a b (sym (eqb-true b a e)))

-- ---- children

-- the test of one node
on_test : List Spot → ℕ → ℕ → ℕ → Bool
on_test spots v t i = ltb 0 i && eqb (spot_parent spots i) v && eqb (spot_at spots i) t

module _ (spots : List Spot) (s : Spot) (some : 0 < length spots) where
  abbrev T : List Spot
  T = spots ++ s ∷ []

  old : (v t i : ℕ) → i < length spots → on_test T v t i ≡ on_test spots v t i
  unfolding on_test
  old v t i h =
      ap (λ (k : Spot). ltb 0 i && eqb k.parent v && eqb k.at t) (get_or-append spots (s ∷ []) root_spot i h)

  new : (v t : ℕ) → on_test T v t (length spots) ≡ (eqb s.parent v && eqb s.at t)
  unfolding on_test
  new v t =
      ap (λ (k : Spot). ltb 0 (length spots) && eqb k.parent v && eqb k.at t) (get_or-append_seam spots s [] root_spot)
      ∙ ap (λ (b : Bool). b && eqb s.parent v && eqb s.at t) (lt-ltb 0 (length spots) some)

  -- a child that was there, or the appended node
  has-child-snoc : (v t : ℕ) → has_child_on T v t ≡ (has_child_on spots v t || (eqb s.parent v && eqb s.at t))
  unfolding has_child_on on_test
  has-child-snoc v t =
      let n : ℕ = length spots in
      ap (λ (k : ℕ). any_of (on_test T v t) (up_from 0 k)) (length-snoc spots s ∙ sym (add-one n))
      ∙ ap (any_of (on_test T v t)) (up_from-last 0 n)
      ∙ any_snoc (on_test T v t) (up_from 0 n) (0 + n)
      ∙ ap₂ (λ (a b : Bool). a || b) (any-agree (on_test T v t) (on_test spots v t) (up_from 0 n) (λ i m. old v t i (inside i m)))
      (ap (on_test T v t) (zero-add n) ∙ new v t)
    where
      inside : (i : ℕ) → Memᴰ i (up_from 0 (length spots)) → i < length spots
      inside i m = let r = up_from-mem 0 (length spots) i m in omega arith

  -- the parent's mask has the new node's path
  parent-mask : s.at < max_summary → child_mask T s.parent ≡ bit_or (child_mask spots s.parent) (2 ^ s.at)
  parent-mask h =
      mask-agree (has_child_on T v) (λ i. has_child_on spots v i || eqb i s.at) max_summary (λ i _. has-child-snoc v i ∙ ap (λ (b : Bool). has_child_on spots v i || b) (here i))
      ∙ sym (mask-insert (has_child_on spots v) max_summary s.at h)
    where
      v : ℕ
      v = s.parent

      here : (i : ℕ) → (eqb s.parent v && eqb s.at i) ≡ eqb i s.at
      here i = ap (λ (b : Bool). b && eqb s.at i) (eq-eqb v v refl) ∙ eqb-sym s.at i

  -- no other mask changes
  other-mask : (v : ℕ) → (v ≡ s.parent → ⊥) → child_mask T v ≡ child_mask spots v
  other-mask v ne =
      mask-agree (has_child_on T v) (has_child_on spots v) max_summary
      (λ i _. has-child-snoc v i ∙ ap (λ (b : Bool). has_child_on spots v i || (b && eqb s.at i)) (ne_eqb s.parent v (λ p. ne (sym p))) ∙ or-false (has_child_on spots v i))

-- a number past the nodes has no children
none-past : (spots : List Spot) (v t : ℕ) → ((i : ℕ) → i < length spots → spot_parent spots i < v) → has_child_on spots v t ≡ false
unfolding has_child_on on_test
none-past spots v t below = go (has_child_on spots v t) refl
  where
    go : (b : Bool) → has_child_on spots v t ≡ b → has_child_on spots v t ≡ false
    go true e =
        let r = any_below (on_test spots v t) (length spots) e in
        let i : ℕ = r.0 in
        let l = and_left (ltb 0 i && eqb (spot_parent spots i) v) (eqb (spot_at spots i) t) r.2 in
        let p : spot_parent spots i ≡ v = eqb-true (spot_parent spots i) v (and_right (ltb 0 i) (eqb (spot_parent spots i) v) l) in
        let k : spot_parent spots i < v = below i r.1 in
        absurd (omega arith)
    go false e = e

mask-past-nodes : (spots : List Spot) (v : ℕ) → ((i : ℕ) → i < length spots → spot_parent spots i < v) → child_mask spots v ≡ 0
mask-past-nodes spots v below = mask-none (has_child_on spots v) max_summary (λ t _. none-past spots v t below)

-- ---- the masks

length-masks : (spots : List Spot) → length (child_masks spots) ≡ length spots
unfolding child_masks
length-masks spots = length-map-up_from (child_mask spots) 0 (length spots)

get_or-masks : (spots : List Spot) (v : ℕ) → v < length spots → get_or (child_masks spots) v 0 ≡ child_mask spots v
unfolding child_masks
get_or-masks spots v h = get_or-map-below (child_mask spots) (length spots) v 0 h

root-masks : child_masks (root_spot ∷ []) ≡ 0 ∷ []
unfolding child_masks up_from has_child_on any_of
root-masks = ap (λ (m : ℕ). m ∷ []) (mask-none (has_child_on (root_spot ∷ []) 0) max_summary (λ t _. refl))

masks-snoc : (spots : List Spot) (s : Spot) → 0 < length spots → ((i : ℕ) → i < length spots → spot_parent spots i < length spots) → s.parent < length spots
    → s.at < max_summary → set (child_masks spots) s.parent (bit_or (child_mask spots s.parent) (2 ^ s.at)) ++ 0 ∷ [] ≡ child_masks (spots ++ s ∷ [])
unfolding child_masks
masks-snoc spots s some inside h k =
    let T : List Spot = spots ++ s ∷ [] in
    let n : ℕ = length spots in
    let M : ℕ → ℕ = child_mask T in
    ap₂ (λ (l : List ℕ) (x : ℕ). l ++ x ∷ [])
    (map-put 0 (child_mask spots) M n s.parent (bit_or (child_mask spots s.parent) (2 ^ s.at)) h (parent-mask spots s some k) (other-mask spots s some))
    (sym (other-mask spots s some n (λ p. omega arith) ∙ mask-past-nodes spots n inside))
    ∙ sym (map_last M n) ∙ ap (λ (k : ℕ). map M (up_from 0 k)) (add-one n ∙ sym (length-snoc spots s))

-- ---- the bytes

-- the record of a spot, whose figure is f
spotted : Summary → ℕ → Spot → DocumentRecord
spotted S f s = record { parent = s.parent; label = summary_label S s.at; figure = f }

records-snoc : (S : Summary) (figure : ℕ → ℕ) (spots : List Spot) (s : Spot)
    → spot_records S figure (spots ++ s ∷ []) ≡ spot_records S figure spots ++ spotted S (figure (length spots)) s ∷ []
unfolding spot_records spotted
records-snoc S figure spots s =
    let T : List Spot = spots ++ s ∷ [] in
    let n : ℕ = length spots in
    ap (λ (k : ℕ). map (spot_record S figure T) (up_from 0 k)) (length-snoc spots s ∙ sym (add-one n))
    ∙ map_last (spot_record S figure T) n
    ∙ ap₂ (λ (l : Document) (r : DocumentRecord). l ++ r ∷ [])
    (map-below-ext (spot_record S figure T) (spot_record S figure spots) n (λ i h. ap (spotted S (figure i)) (get_or-append spots (s ∷ []) root_spot i h)))
    (ap (spotted S (figure n)) (get_or-append_seam spots s [] root_spot))

fields-length : (S : Summary) (spots : List Spot) → length (draft_fields S spots) ≡ 1 + 3 * length spots
fields-length S spots =
    let n = document-fields (spot_records S no_figure spots) in
    let m = length-spots S no_figure spots in
    omega arith

fields_snoc : (S : Summary) (spots : List Spot) (s : Spot)
    → ((draft_fields S spots ++ s.parent ∷ []) ++ summary_label S s.at ∷ []) ++ 0 ∷ [] ≡ draft_fields S (spots ++ s ∷ [])
unfolding flat_map spotted
fields_snoc S spots s =
    let W : Document = spot_records S no_figure spots in
    ap (λ (l : List ℕ). 0 ∷ l)
    (append_assoc (flat_map document_fields W ++ s.parent ∷ []) (summary_label S s.at ∷ []) (0 ∷ [])
    ∙ append_assoc (flat_map document_fields W) (s.parent ∷ []) (summary_label S s.at ∷ 0 ∷ [])
    ∙ sym (flat_map-append document_fields W (spotted S 0 s ∷ []))
    ∙ ap (flat_map document_fields) (sym (records-snoc S no_figure spots s)))

-- the count is put in its place
count-put : (n : ℕ) (fs b : List ℕ) → sets (written_at_front (bytes_of (0 ∷ fs)) b) 0 (field_bytes n) ≡ written_at_front (bytes_of (n ∷ fs)) b
unfolding written_at_front bytes_of flat_map field_bytes
count-put n fs b = refl

-- ---- the draft

-- equal drafts hold the same
pub drafted-by : {S : Summary} {spots : List Spot} {base now later : Tables} {count n : ℕ} → later ≡ now → n ≡ count → Drafted S spots base now count → Drafted S spots base later n
drafted-by {S} {spots} {base} e f c = subst₂ (λ (t : Tables) (k : ℕ). Drafted S spots base t k) (sym e) (sym f) c

-- drafts of the same lengths
pub record SameLengths (t u : Tables) : Type 0 where
  pub bytes : length t.bytes ≡ length u.bytes
  pub on : length t.on ≡ length u.on
  pub kids : length t.kids ≡ length u.kids

-- one node more, in tables of the same lengths
pub appended-same : (S : Summary) (t : Tables) (count v x : ℕ) → SameLengths (appended S t count v x) t
appended-same S t count v x =
    record { bytes = simp length-sets; on = simp length-set; kids = simp length-set }

pub roomy-same : {t u : Tables} → SameLengths u t → Roomy t → Roomy u
roomy-same s r = omega arith

module _ {S : Summary} {spots : List Spot} {base now : Tables} {count : ℕ} (c : Drafted S spots base now count) where
  written : Written (draft_fields S spots) base.bytes now.bytes (1 + 3 * count)
  written =
      let n = fields-length S spots in
      let l = length-bytes (draft_fields S spots) in
      let q = c.counted in
      let f = c.fits in
      let r = c.room.bytes in
      record { count = omega arith; size = ap (λ (x : List ℕ). length x) c.bytes ∙ front_length (bytes_of (draft_fields S spots)) base.bytes (omega arith); bytes = c.bytes }

  -- the tables keep their lengths
  pub drafted-lengths : SameLengths now base
  drafted-lengths =
      record {
        bytes = written.size;
        on = same (map (λ (s : Spot). s.at) spots) base.on c.on (length-map spots (λ s. s.at)) c.room.on;
        kids = same (child_masks spots) base.kids c.kids (length-masks spots) c.room.kids;
      }
    where
      same : {l : List ℕ} (w b : List ℕ) → l ≡ written_at_front w b → length w ≡ length spots → min_table ≤ length b → length l ≡ length b
      same w b e n r = ap (λ (x : List ℕ). length x) e ∙ front_length w b (let f = c.fits in let q = c.counted in omega arith)

  pub drafted-roomy : Roomy now
  drafted-roomy = roomy-same drafted-lengths c.room

  -- a node's summary node
  pub drafted-on : (v : ℕ) → v < count → get_or now.on v 0 ≡ spot_at spots v
  drafted-on v h =
      let l : v < length spots = (let q = c.counted in omega arith) in
      let n : length (map (λ (s : Spot). s.at) spots) ≡ length spots = length-map spots (λ s. s.at) in
      ap (λ (x : List ℕ). get_or x v 0) c.on ∙ front-get_or (map (λ (s : Spot). s.at) spots) base.on v 0 (omega arith)
      ∙ get_or_map (λ (s : Spot). s.at) spots v root_spot 0 l

  drafted-kids : (v : ℕ) → v < count → get_or now.kids v 0 ≡ child_mask spots v
  drafted-kids v h =
      let l : v < length spots = (let q = c.counted in omega arith) in
      let n : length (child_masks spots) ≡ length spots = length-masks spots in
      ap (λ (x : List ℕ). get_or x v 0) c.kids ∙ front-get_or (child_masks spots) base.kids v 0 (omega arith) ∙ get_or-masks spots v l

  -- whether a node has a child on a summary node
  pub drafted-child : (v t : ℕ) → v < count → t < max_summary → has (get_or now.kids v 0) t ≡ has_child_on spots v t
  drafted-child v t h k = mask-has (has_child_on spots v) max_summary (get_or now.kids v 0) (drafted-kids v h) t k

  -- one node more
  pub drafted-append : (s : Spot) → s.parent < count → s.at < length S → length S ≤ max_summary → count < max_canonical
      → Drafted S (spots ++ s ∷ []) base (appended S now count s.parent s.at) (count + 1)
  drafted-append s h k few r =
      let q : count ≡ length spots = c.counted in
      let z : 0 < count = c.some in
      let n : length (spots ++ s ∷ []) ≡ suc (length spots) = length-snoc spots s in
      record {
        counted = omega arith;
        some = omega arith;
        fits = omega arith;
        room = c.room;
        inside = inside_snoc;
        bytes = more.bytes ∙ ap (λ (fs : List ℕ). written_at_front (bytes_of fs) base.bytes) (fields_snoc S spots s);
        on =
            ap (λ (l : List ℕ). set l count s.at) c.on ∙ after (map (λ x. x.at) spots) base.on s.at (length-map spots (λ x. x.at)) c.room.on
            ∙ ap (λ (w : List ℕ). written_at_front w base.on) (sym (map-append (λ x. x.at) spots (s ∷ [])));
        kids =
            ap₂ (λ (l : List ℕ) (x : ℕ). set (set l s.parent (bit_or x (2 ^ s.at))) count 0) c.kids (drafted-kids s.parent h)
            ∙ ap (λ (l : List ℕ). set l count 0) (front-put (child_masks spots) base.kids s.parent mask (let m = length-masks spots in omega arith))
            ∙ after (set (child_masks spots) s.parent mask) base.kids 0 (length-set (child_masks spots) s.parent mask ∙ length-masks spots) c.room.kids
            ∙ ap (λ (w : List ℕ). written_at_front w base.kids) (masks-snoc spots s (omega arith) (λ i l. (c.inside i l).0) (omega arith) (omega arith));
      }
    where
      mask : ℕ
      mask = bit_or (child_mask spots s.parent) (2 ^ s.at)

      -- with the record's parent, and its label
      b₁ : List ℕ
      b₁ = sets now.bytes (2 * (1 + 3 * count)) (field_bytes s.parent)

      b₂ : List ℕ
      b₂ = sets b₁ (2 * (2 + 3 * count)) (field_bytes (summary_label S s.at))

      -- the record's three fields
      more : Written (((draft_fields S spots ++ s.parent ∷ []) ++ summary_label S s.at ∷ []) ++ 0 ∷ []) base.bytes
          (sets b₂ (2 * (3 + 3 * count)) (field_bytes 0)) (1 + 3 * count + 1 + 1 + 1)
      more =
          let room = c.room.bytes in
          let two : 2 + 3 * count ≡ 1 + 3 * count + 1 = omega arith in
          let three : 3 + 3 * count ≡ 1 + 3 * count + 1 + 1 = omega arith in
          written-put 0
          (written-put (summary_label S s.at) (written-put s.parent written (omega arith) refl) (omega arith)
          (ap (λ (k : ℕ). sets b₁ (2 * k) (field_bytes (summary_label S s.at))) two))
          (omega arith) (ap (λ (k : ℕ). sets b₂ (2 * k) (field_bytes 0)) three)

      -- a store right after the front
      after : (w b : List ℕ) (x : ℕ) → length w ≡ length spots → min_table ≤ length b → set (written_at_front w b) count x ≡ written_at_front (w ++ x ∷ []) b
      after w b x e m =
          let q : count ≡ length spots = c.counted in
          ap (λ (k : ℕ). set (written_at_front w b) k x) (q ∙ sym e) ∙ front-set w b x (omega arith)

      inside_snoc : (i : ℕ) → i < length (spots ++ s ∷ []) → (spot_parent (spots ++ s ∷ []) i < length (spots ++ s ∷ [])) × (spot_at (spots ++ s ∷ []) i < length S)
      inside_snoc i l =
          let n = length-snoc spots s in
          let q = c.counted in
          each_snoc (λ (x : Spot). (x.parent < length (spots ++ s ∷ [])) × (x.at < length S)) spots s root_spot
          (λ j m. let o = c.inside j m in (omega arith, o.1)) (omega arith, k) i (omega arith)

  -- the section is whole when its count is put
  pub drafted-section : sets now.bytes 0 (field_bytes count) ≡ written_at_front (encode_document (spot_records S no_figure spots)) base.bytes
  unfolding encode_document section_fields
  drafted-section =
      let fs : List ℕ = flat_map document_fields (spot_records S no_figure spots) in
      ap (λ (b : List ℕ). sets b 0 (field_bytes count)) c.bytes ∙ count-put count fs base.bytes
      ∙ ap (λ (n : ℕ). written_at_front (bytes_of (n ∷ fs)) base.bytes) (c.counted ∙ sym (length-spots S no_figure spots))

-- the first entry alone is written
front-one : (b : List ℕ) (x : ℕ) → 0 < length b → set b 0 x ≡ written_at_front (x ∷ []) b
unfolding written_at_front
front-one b x h = front-set [] b x h

pub summary-some : {S : Summary} → SummaryKept S → 0 < length S
summary-some {S} g = subst (λ (n : ℕ). 0 < n) (length-as_document S) g.tree.inhabited

-- the root alone
pub drafted-root : {S : Summary} {base : Tables} {b₁ b₂ b₃ b₄ : List ℕ} {label : ℕ} → Roomy base → 0 < length S → b₁ ≡ sets base.bytes 0 (field_bytes 0) → b₂ ≡ sets b₁ 2 (field_bytes 0)
    → b₃ ≡ sets b₂ 4 (field_bytes label) → label ≡ summary_label S 0 → b₄ ≡ sets b₃ 6 (field_bytes 0)
    → Drafted S (root_spot ∷ []) base (tables_of b₄ (set base.on 0 0) (set base.kids 0 0)) 1
unfolding flat_map spot_records up_from
drafted-root {S} {base} {b₂ = b₂} r some e₁ e₂ e₃ e e₄ =
    let room = r.bytes in
    record {
      counted = refl;
      some = omega arith;
      fits = omega arith;
      room = r;
      inside = first;
      bytes = (written-put 0
          (written-put (summary_label S 0) (written-put 0 (written-put 0 written_none (omega arith) e₁) (omega arith) e₂) (omega arith)
          (e₃ ∙ ap (λ (x : ℕ). sets b₂ 4 (field_bytes x)) e))
          (omega arith) e₄).bytes;
      on = front-one base.on 0 (omega (arith, r.on));
      kids = front-one base.kids 0 (omega (arith, r.kids)) ∙ ap (λ (w : List ℕ). written_at_front w base.kids) (sym root-masks);
    }
  where
    first : (i : ℕ) → i < 1 → (spot_parent (root_spot ∷ []) i < 1) × (spot_at (root_spot ∷ []) i < length S)
    first i h =
        subst (λ (k : ℕ). (spot_parent (root_spot ∷ []) k < 1) × (spot_at (root_spot ∷ []) k < length S)) (let z : 0 ≡ i = omega arith in z) (omega arith, some)
