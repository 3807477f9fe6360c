-- Laws of the writers. Fields that are put one after another, from field 0 on, stand as bytes at the front of the buffer, and one
-- more field adds its two bytes; so the loops write what the encodings say. Assumes nothing.
use Prim.Native.Nat.{ℕ, zero, suc, ◌+◌, ◌*◌, ◌≤◌, ◌<◌}
use mathlib.Core.Path.{◌≡◌, refl, sym, ap, ap₂, ◌∙◌, subst}
use mathlib.Core.List.{List, [], ◌∷◌, ◌++◌, map, flat_map, append_assoc, map-append}
use native.Mathlib.Omega.{arith}
use native.Mathlib.Nat.{add-zero, zero-add}
use native.Mathlib.Numerals.{add-one}
use lib.ListN.{length, get_or, take, set, length-append}
use lib.Seq.{sets, length-sets, get_or-set_same, get_or-set_other, take-suc, length-take-le}
use Rattle.model.specs.Lists.{up_from}
use Rattle.model.specs.Tree.{Document}
use Rattle.model.specs.Bytes.{field, field_bytes, bytes_of, fields_at, document_fields, section_fields, encode_document, encode_counted, written_at_front}
use Rattle.model.proofs.ListLaws.{length-map-up_from}
use Rattle.model.proofs.Bytes.{FitFields, Holds, length-bytes, field-bytes, front-none}
use Rattle.format.proofs.RangeLaws.{up_from-last}
use Rattle.format.proofs.FrontLaws.{front-sets, front-over}

-- ---- lists

pub flat_map-append : {A B : Type 0} (f : A → List B) (xs ys : List A) → flat_map f (xs ++ ys) ≡ flat_map f xs ++ flat_map f ys
unfolding flat_map
flat_map-append f [] ys = refl
flat_map-append f (x ∷ xs) ys = ap (λ (l : List _). f x ++ l) (flat_map-append f xs ys) ∙ sym (append_assoc (f x) (flat_map f xs) (flat_map f ys))

-- the bytes of more fields
pub bytes-append : (fs gs : List ℕ) → bytes_of (fs ++ gs) ≡ bytes_of fs ++ bytes_of gs
unfolding bytes_of
bytes-append fs gs = flat_map-append field_bytes fs gs

-- stores that go on where the last ones ended
pub sets-append : (l : List ℕ) (i : ℕ) (xs ys : List ℕ) → sets l i (xs ++ ys) ≡ sets (sets l i xs) (i + length xs) ys
sets-append l i [] ys = ap (λ (k : ℕ). sets l k ys) (sym (add-zero i))
sets-append l i (x ∷ xs) ys =
    let e : suc i + length xs ≡ i + suc (length xs) = omega arith in
    sets-append (set l i x) (suc i) xs ys ∙ ap (λ (k : ℕ). sets (sets (set l i x) (suc i) xs) k ys) e

-- stores keep a length
pub stored-size : (out₀ : List ℕ) (a : ℕ) (vs : List ℕ) {out : List ℕ} → out ≡ sets out₀ a vs → length out ≡ length out₀
stored-size out₀ a vs e = ap length e ∙ length-sets out₀ a vs

-- fields that go on where the last ones ended
pub fields-run : (out : List ℕ) (at : ℕ) (fs gs : List ℕ) {before after : List ℕ} {to : ℕ} → to ≡ at + length fs → before ≡ sets out (2 * at) (bytes_of fs)
    → after ≡ sets before (2 * to) (bytes_of gs) → after ≡ sets out (2 * at) (bytes_of (fs ++ gs))
fields-run out at fs gs {before} {after} {to} e b a =
    let n : length (bytes_of fs) ≡ 2 * length fs = length-bytes fs in
    let there : 2 * to ≡ 2 * at + length (bytes_of fs) = omega arith in
    a ∙ ap₂ (λ (o : List ℕ) (j : ℕ). sets o j (bytes_of gs)) b there ∙ sym (sets-append out (2 * at) (bytes_of fs) (bytes_of gs))
    ∙ ap (λ (l : List ℕ). sets out (2 * at) l) (sym (bytes-append fs gs))

-- one field, as a run
pub one-run : (out : List ℕ) (at v : ℕ) {after : List ℕ} → after ≡ sets out (2 * at) (field_bytes v) → after ≡ sets out (2 * at) (bytes_of (v ∷ []))
unfolding bytes_of flat_map field_bytes
one-run out at v e = e

-- what stands before stores, and where they go
sets-before : (l : List ℕ) (i : ℕ) (vs : List ℕ) (j : ℕ) → j < i → get_or (sets l i vs) j 0 ≡ get_or l j 0
sets-before l i [] j h = refl
sets-before l i (v ∷ vs) j h = sets-before (set l i v) (suc i) vs j (omega arith) ∙ get_or-set_other l i j v 0 (λ e. omega arith)

sets-at : (l : List ℕ) (i : ℕ) (vs : List ℕ) (k : ℕ) → i + length vs ≤ length l → k < length vs → get_or (sets l i vs) (i + k) 0 ≡ get_or vs k 0
sets-at l i [] k room h = absurd (omega arith)
sets-at l i (v ∷ vs) zero room h =
    let e : i + 0 ≡ i = add-zero i in
    ap (λ (j : ℕ). get_or (sets (set l i v) (suc i) vs) j 0) e ∙ sets-before (set l i v) (suc i) vs i (omega arith) ∙ get_or-set_same l i v 0 (omega arith)
sets-at l i (v ∷ vs) (suc k) room h =
    let e : i + suc k ≡ suc i + k = omega arith in
    let n : length (set l i v) ≡ length l = length-sets l i (v ∷ []) in
    ap (λ (j : ℕ). get_or (sets (set l i v) (suc i) vs) j 0) e ∙ sets-at (set l i v) (suc i) vs k (omega arith) (omega arith)

-- of fields: those before stay, and what is stored is held
pub field-before : (b : List ℕ) (to : ℕ) (vs : List ℕ) (j : ℕ) → j < to → field (sets b (2 * to) vs) j ≡ field b j
unfolding field
field-before b to vs j h = ap₂ (λ (x y : ℕ). x + 256 * y) (sets-before b (2 * to) vs (2 * j) (omega arith)) (sets-before b (2 * to) vs (2 * j + 1) (omega arith))

pub fields-stored : (b : List ℕ) (to : ℕ) (fs : List ℕ) → FitFields fs → 2 * (to + length fs) ≤ length b → Holds (sets b (2 * to) (bytes_of fs)) to fs
unfolding field
fields-stored b to fs fit room j h =
    let n : length (bytes_of fs) ≡ 2 * length fs = length-bytes fs in
    let low : 2 * (to + j) ≡ 2 * to + 2 * j = omega arith in
    let high : 2 * (to + j) + 1 ≡ 2 * to + (2 * j + 1) = omega arith in
    ap₂ (λ (x y : ℕ). x + 256 * y)
    (ap (λ (k : ℕ). get_or (sets b (2 * to) (bytes_of fs)) k 0) low ∙ sets-at b (2 * to) (bytes_of fs) (2 * j) (omega arith) (omega arith))
    (ap (λ (k : ℕ). get_or (sets b (2 * to) (bytes_of fs)) k 0) high ∙ sets-at b (2 * to) (bytes_of fs) (2 * j + 1) (omega arith) (omega arith))
    ∙ field-bytes fs fit j

-- ---- fields put one after another

-- the fields fs, of which `at` is the number, stand at the front of b, which was b₀
pub record Written (fs b₀ b : List ℕ) (at : ℕ) : Type 0 where
  pub count : at ≡ length fs
  pub size : length b ≡ length b₀
  pub bytes : b ≡ written_at_front (bytes_of fs) b₀

pub written_none : {b₀ : List ℕ} → Written [] b₀ b₀ 0
unfolding bytes_of flat_map
written_none {b₀} = record { count = refl; size = refl; bytes = sym (front-none b₀) }

-- a run of fields more
pub written-run : {fs b₀ b b' : List ℕ} {at : ℕ} (gs : List ℕ) → Written fs b₀ b at → 2 * (at + length gs) ≤ length b₀ → b' ≡ sets b (2 * at) (bytes_of gs)
    → Written (fs ++ gs) b₀ b' (at + length gs)
written-run {fs} {b₀} {b} {b'} {at} gs w room e =
    let f : length (bytes_of fs) ≡ 2 * length fs = length-bytes fs in
    let g : length (bytes_of gs) ≡ 2 * length gs = length-bytes gs in
    let there : 2 * at ≡ length (bytes_of fs) = omega arith in
    record {
      count = omega (arith, length-append fs gs);
      size = ap length e ∙ length-sets b (2 * at) (bytes_of gs) ∙ w.size;
      bytes =
          e ∙ ap₂ (λ (l : List ℕ) (k : ℕ). sets l k (bytes_of gs)) w.bytes there
          ∙ front-sets (bytes_of fs) b₀ (bytes_of gs) (omega arith)
          ∙ ap (λ (l : List ℕ). written_at_front l b₀) (sym (bytes-append fs gs));
    }

-- one field more
pub written-put : {fs b₀ b b' : List ℕ} {at : ℕ} (v : ℕ) → Written fs b₀ b at → 2 * at + 1 < length b₀ → b' ≡ sets b (2 * at) (field_bytes v)
    → Written (fs ++ (v ∷ [])) b₀ b' (at + 1)
unfolding bytes_of flat_map field_bytes
written-put v w room e = written-run (v ∷ []) w (omega arith) e

-- what is written over a shorter front is written over what stood before it
pub written_over : {fs gs b₀ b b' : List ℕ} {at at' : ℕ} → Written fs b₀ b at → Written gs b b' at' → at ≤ at' → Written gs b₀ b' at'
written_over {fs} {gs} {b₀} {b} {b'} {at} {at'} w w' h =
    let f : length (bytes_of fs) ≡ 2 * length fs = length-bytes fs in
    let g : length (bytes_of gs) ≡ 2 * length gs = length-bytes gs in
    record {
      count = w'.count;
      size = w'.size ∙ w.size;
      bytes = w'.bytes ∙ ap (λ (l : List ℕ). written_at_front (bytes_of gs) l) w.bytes ∙ front-over (bytes_of fs) (bytes_of gs) b₀ (omega arith);
    }

-- and again over itself: where a loop begins
pub written-again : {fs b₀ b : List ℕ} {at : ℕ} → Written fs b₀ b at → Written fs b b at
written-again {fs} {b₀} {b} {at} w =
    record {
      count = w.count;
      size = refl;
      bytes = w.bytes ∙ sym (ap (λ (l : List ℕ). written_at_front (bytes_of fs) l) w.bytes ∙ front-over (bytes_of fs) (bytes_of fs) b₀ (omega arith));
    }

-- a count in field 0
pub count-written : (b₀ : List ℕ) {b : List ℕ} (n : ℕ) → 1 < length b₀ → b ≡ sets b₀ 0 (field_bytes n) → Written (n ∷ []) b₀ b 1
count-written b₀ n room e = written-put n written_none room e

-- the bytes w stand at the front of b, which was b₀, and end before byte r
abbrev pub Out : List ℕ → List ℕ → List ℕ → ℕ → Type 0
Out w b₀ b r = (r ≡ length w) × (b ≡ written_at_front w b₀)

pub written_out : {fs b₀ b : List ℕ} {at : ℕ} → Written fs b₀ b at → (w : List ℕ) → bytes_of fs ≡ w → Out w b₀ b (2 * at)
written_out {fs} {b₀} {b} {at} w v e =
    let f : length (bytes_of fs) ≡ 2 * length fs = length-bytes fs in
    let g : length (bytes_of fs) ≡ length v = ap length e in
    (omega arith, w.bytes ∙ ap (λ (l : List ℕ). written_at_front l b₀) e)

-- ---- a document

pub document-fields : (W : Document) → length (flat_map document_fields W) ≡ 3 * length W
unfolding flat_map
document-fields [] = refl
document-fields (r ∷ W) = let ih : length (flat_map document_fields W) ≡ 3 * length W = document-fields W in omega arith

-- the byte after the last record
pub document-size : (W : Document) → length (encode_document W) ≡ 2 + 6 * length W
unfolding encode_document section_fields
document-size W =
    let f : length (flat_map document_fields W) ≡ 3 * length W = document-fields W in
    length-bytes (length W ∷ flat_map document_fields W) ∙ omega arith

-- ---- a count and its numbers

-- the loop that writes them: i numbers are written after the count
pub record WritingCounted (nodes : List ℕ) (k : ℕ) (b₀ b : List ℕ) (i : ℕ) : Type 0 where
  pub turns : i ≤ k
  pub written : Written (k ∷ take i nodes) b₀ b (i + 1)

module _ {nodes : List ℕ} {k : ℕ} where
  pub counted_start : {b₀ b : List ℕ} → Written (k ∷ []) b₀ b 1 → WritingCounted nodes k b b 0
  counted_start {b₀} {b} w = record { turns = omega arith; written = written-again w }

  pub counted_step : {b₀ b b' : List ℕ} {i : ℕ} → WritingCounted nodes k b₀ b i → i < k → k ≤ length nodes → 2 + 2 * k ≤ length b₀
      → b' ≡ sets b (2 * (i + 1)) (field_bytes (get_or nodes i 0)) → WritingCounted nodes k b₀ b' (i + 1)
  counted_step {b₀} {b} {b'} {i} w h all room e =
      let more : take i nodes ++ (get_or nodes i 0 ∷ []) ≡ take (i + 1) nodes =
      sym (ap (λ (j : ℕ). take j nodes) (add-one i) ∙ take-suc nodes i 0 (omega arith)) in
      record {
        turns = omega arith;
        written = subst (λ (l : List ℕ). Written (k ∷ l) b₀ b' (i + 1 + 1)) more (written-put (get_or nodes i 0) w.written (omega arith) e);
      }

  pub counted-end : {b₀ b b' : List ℕ} {i : ℕ} → Written (k ∷ []) b₀ b 1 → WritingCounted nodes k b b' i → k ≤ i → k ≤ length nodes
      → Out (encode_counted (take k nodes)) b₀ b' (2 + 2 * k)
  unfolding encode_counted
  counted-end {b₀} {b} {b'} {i} count w h all =
      let done : i ≡ k = omega arith in
      let len : length (take k nodes) ≡ k = length-take-le k nodes all in
      let o : Out (bytes_of (length (take k nodes) ∷ take k nodes)) b₀ b' (2 * (i + 1)) =
      written_out (written_over count w.written (omega arith)) (bytes_of (length (take k nodes) ∷ take k nodes))
      (ap₂ (λ (m j : ℕ). bytes_of (m ∷ take j nodes)) (sym len) done) in
      (omega arith, o.1)

-- ---- fields copied from one place to another

pub fields-last : (b : List ℕ) (from n : ℕ) → fields_at b from (n + 1) ≡ fields_at b from n ++ (field b (from + n) ∷ [])
fields-last b from n = ap (map (field b)) (up_from-last from n) ∙ map-append (field b) (up_from from n) ((from + n) ∷ [])

pub fields-count : (b : List ℕ) (from n : ℕ) → length (fields_at b from n) ≡ n
fields-count b from n = length-map-up_from (field b) from n

-- copied to the front, and after what is written
pub copied-front : {b₀ b' : List ℕ} (b : List ℕ) (from n : ℕ) → 2 * n ≤ length b₀ → b' ≡ sets b₀ 0 (bytes_of (fields_at b from n)) → Written (fields_at b from n) b₀ b' n
copied-front {b₀} {b'} b from n room e =
    let c : length (fields_at b from n) ≡ n = fields-count b from n in
    subst (Written (fields_at b from n) b₀ b') (zero-add (length (fields_at b from n)) ∙ c) (written-run (fields_at b from n) written_none (omega arith) e)

pub copied-after : {fs b₀ out out' : List ℕ} {at : ℕ} (b : List ℕ) (from n : ℕ) → Written fs b₀ out at → 2 * (at + n) ≤ length b₀
    → out' ≡ sets out (2 * at) (bytes_of (fields_at b from n)) → Written (fs ++ fields_at b from n) b₀ out' (at + n)
copied-after {fs} {b₀} {out} {out'} {at} b from n w room e =
    let c : length (fields_at b from n) ≡ n = fields-count b from n in
    subst (λ (k : ℕ). Written (fs ++ fields_at b from n) b₀ out' (at + k)) c (written-run (fields_at b from n) w (omega arith) e)

-- the loop that copies n of them to field `to` and on: i are copied
pub record Copying (b : List ℕ) (from n to : ℕ) (b₀ out : List ℕ) (i : ℕ) : Type 0 where
  pub turns : i ≤ n
  pub size : length out ≡ length b₀
  pub bytes : out ≡ sets b₀ (2 * to) (bytes_of (fields_at b from i))

module _ {b : List ℕ} {from n to : ℕ} {b₀ : List ℕ} where
  pub copying-start : Copying b from n to b₀ b₀ 0
  unfolding up_from bytes_of flat_map
  copying-start = record { turns = omega arith; size = refl; bytes = refl }

  pub copying-step : {out out' : List ℕ} {i v : ℕ} → Copying b from n to b₀ out i → i < n → v ≡ field b (from + i)
      → out' ≡ sets out (2 * (to + i)) (field_bytes v) → Copying b from n to b₀ out' (i + 1)
  copying-step {out} {out'} {i} {v} w h read e =
      let fs : List ℕ = fields_at b from i in
      let there : to + i ≡ to + length fs = ap (λ (k : ℕ). to + k) (sym (fields-count b from i)) in
      record {
        turns = omega arith;
        size = ap length e ∙ length-sets out (2 * (to + i)) (field_bytes v) ∙ w.size;
        bytes =
            fields-run b₀ to fs (v ∷ []) there w.bytes (one-run out (to + i) v e)
            ∙ ap (λ (l : List ℕ). sets b₀ (2 * to) (bytes_of l)) (ap (λ (x : ℕ). fs ++ (x ∷ [])) read ∙ sym (fields-last b from i));
      }

  pub copying-end : {out : List ℕ} {i : ℕ} → Copying b from n to b₀ out i → n ≤ i → out ≡ sets b₀ (2 * to) (bytes_of (fields_at b from n))
  copying-end {out} {i} w h =
      let done : i ≡ n = let t : i ≤ n = w.turns in omega arith in
      w.bytes ∙ ap (λ (k : ℕ). sets b₀ (2 * to) (bytes_of (fields_at b from k))) done
