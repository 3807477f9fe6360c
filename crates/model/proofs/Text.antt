-- What is printed: a number's decimal text is read back as that number, has digits only and no needless zero; the verdict's whole text has
-- at most 26,308 bytes and a printed order at most 484, since numbers and labels have few digits and a trial volume and a selection few
-- nodes. Assumes nothing.
use Prim.Native.Nat.{ℕ, zero, suc, ◌+◌, ◌-◌, ◌*◌, ◌/◌, ◌%◌, ◌^◌, ◌≤◌, ◌<◌}
use mathlib.Core.Path.{◌≡◌, refl, sym, ap, ◌∙◌, subst}
use mathlib.Core.Bool.{true, false}
use mathlib.Core.Logic.{◌⊎◌, inl, inr, ◌≢◌}
use mathlib.Core.List.Memᴰ
use mathlib.Core.List.{List, [], ◌∷◌, ◌++◌, flat_map, Memᴰ}
use native.Mathlib.Omega.{arith}
use native.Mathlib.Nat.{pow-suc}
use lib.Dec.{ltb}
use lib.ListN.{length, get_or, length-append}
use borrow.Author.Tests.{lt-ltb, le-ltb, ltb-true, ltb-false}
use Rattle.model.specs.Lists.{up_from}
use Rattle.model.specs.Limits.{max_limit, max_verdicts, min_buffer, max_pattern, max_canonical, max_position, max_text, max_order_text, max_figure}
use Rattle.model.specs.Tree.{Document, parent_of, label_of, figure_of}
use Rattle.model.specs.Pattern.{Pattern, no_pattern_record, pattern_parent, pattern_label, position, pattern_figure}
use Rattle.model.specs.Text.{ascii, digit, decimal_in, decimal, read_on, number, numbers, line, node_line, node_lines, answer_line, first_lines, shown_text, refused_text, case_text, program_caller, program_tallies, program_refusal, printed, pattern_line, pattern_lines, order_text, struck_text, order_refusal, order_printed, Told, told}
use Rattle.model.specs.Bytes.{case_of}
use Rattle.model.specs.Striking.{strike_all}
use Rattle.model.specs.OldForm.{old_questions}
use Rattle.model.specs.Moving.{upgrade_refusal, downgrade_refusal}
use Rattle.model.specs.Normal.{normalise_refusal}
use Rattle.model.specs.Questions.{Question, refusal, case_questions, limit_in_range, charged_questions, ask, verdict_refusal, minimise_refusal}
use Rattle.model.proofs.ListLaws.{true-or-false, length-up_from, up_from-mem}
use Rattle.model.proofs.Refusals.{refusal-yes, refusal-no}
use Rattle.model.specs.Calls.{tally_of}
use Rattle.model.proofs.Calls.{chosen-accepted, chosen-refused}

-- ---- a number in decimal

below-ten : (k n : ℕ) → n < 10 → decimal_in (suc k) n ≡ digit n ∷ []
unfolding decimal_in
below-ten k n h = rw (lt-ltb n 10 h, decimal_in) refl

from-ten : (k n : ℕ) → 10 ≤ n → decimal_in (suc k) n ≡ decimal_in k (n / 10) ++ (digit (n % 10) ∷ [])
unfolding decimal_in
from-ten k n h = rw (le-ltb n 10 h, decimal_in) refl

-- enough digits are as good as more
enough : (k l n : ℕ) → n < k → n < l → decimal_in k n ≡ decimal_in l n
enough zero l n h i = absurd (omega arith)
enough (suc k) zero n h i = absurd (omega arith)
enough (suc k) (suc l) n h i = go (true-or-false (ltb n 10)) (λ p q. enough k l (n / 10) p q)
  where
    go : (ltb n 10 ≡ true) ⊎ (ltb n 10 ≡ false) → (n / 10 < k → n / 10 < l → decimal_in k (n / 10) ≡ decimal_in l (n / 10)) → decimal_in (suc k) n ≡ decimal_in (suc l) n
    go (inl e) rest = below-ten k n (ltb-true n 10 e) ∙ sym (below-ten l n (ltb-true n 10 e))
    go (inr e) rest =
        let t : 10 ≤ n = ltb-false n 10 e in
        let d : n / 10 < n = omega arith in
        from-ten k n t ∙ ap (λ (cs : List ℕ). cs ++ (digit (n % 10) ∷ [])) (rest (omega arith) (omega arith)) ∙ sym (from-ten l n t)

-- a number below 10 is its digit; any other's last digit follows the text of the rest
pub decimal-one : (n : ℕ) → n < 10 → decimal n ≡ digit n ∷ []
unfolding decimal
decimal-one n h = below-ten n n h

pub decimal-more : (n : ℕ) → 10 ≤ n → decimal n ≡ decimal (n / 10) ++ (digit (n % 10) ∷ [])
unfolding decimal
decimal-more n h =
    let d : n / 10 < n = omega arith in
    from-ten n n h ∙ ap (λ (cs : List ℕ). cs ++ (digit (n % 10) ∷ [])) (enough n (suc (n / 10)) (n / 10) d (omega arith))

-- induction along the digits
by_digits : (P : ℕ → Type 0) → ((n : ℕ) → n < 10 → P n) → ((n : ℕ) → 10 ≤ n → P (n / 10) → P n) → (n : ℕ) → P n
by_digits P one more n = go (suc n) n (omega arith)
  where
    go : (k m : ℕ) → m < k → P m
    go zero m h = absurd (omega arith)
    go (suc k) m h = turn (true-or-false (ltb m 10)) (go k (m / 10))
      where
        turn : (ltb m 10 ≡ true) ⊎ (ltb m 10 ≡ false) → (m / 10 < k → P (m / 10)) → P m
        turn (inl e) rest = one m (ltb-true m 10 e)
        turn (inr e) rest = let t : 10 ≤ m = ltb-false m 10 e in more m t (rest (omega arith))

read-append : (a : ℕ) (cs ds : List ℕ) → read_on a (cs ++ ds) ≡ read_on (read_on a cs) ds
unfolding read_on
read-append a [] ds = refl
read-append a (c ∷ cs) ds = read-append (10 * a + (c - 48)) cs ds

-- the text of a number is read back as the number
pub decimal-read : (n : ℕ) → read_on 0 (decimal n) ≡ n
unfolding read_on
decimal-read = by_digits (λ n. read_on 0 (decimal n) ≡ n) one more
  where
    one : (n : ℕ) → n < 10 → read_on 0 (decimal n) ≡ n
    one n h = ap (read_on 0) (decimal-one n h) ∙ omega arith

    more : (n : ℕ) → 10 ≤ n → read_on 0 (decimal (n / 10)) ≡ n / 10 → read_on 0 (decimal n) ≡ n
    more n h e =
        ap (read_on 0) (decimal-more n h) ∙ read-append 0 (decimal (n / 10)) (digit (n % 10) ∷ [])
        ∙ ap (λ (a : ℕ). read_on a (digit (n % 10) ∷ [])) e ∙ omega arith

-- it has digits only
pub decimal-digits : (n c : ℕ) → Memᴰ c (decimal n) → (48 ≤ c) × (c < 58)
decimal-digits = by_digits (λ n. (c : ℕ) → Memᴰ c (decimal n) → (48 ≤ c) × (c < 58)) one more
  where
    last : (c d : ℕ) → d < 10 → Memᴰ c (digit d ∷ []) → (48 ≤ c) × (c < 58)
    last c d h (Memᴰ.head e) = (omega arith, omega arith)
    last c d h (Memᴰ.tail m) = absurd (Memᴰ.not-nil m)

    one : (n : ℕ) → n < 10 → (c : ℕ) → Memᴰ c (decimal n) → (48 ≤ c) × (c < 58)
    one n h c m = last c n h (subst (Memᴰ c) (decimal-one n h) m)

    more : (n : ℕ) → 10 ≤ n → ((c : ℕ) → Memᴰ c (decimal (n / 10)) → (48 ≤ c) × (c < 58)) → (c : ℕ) → Memᴰ c (decimal n) → (48 ≤ c) × (c < 58)
    more n h rest c m = go (Memᴰ.append_cases (decimal (n / 10)) (subst (Memᴰ c) (decimal-more n h) m))
      where
        go : Memᴰ c (decimal (n / 10)) ⊎ Memᴰ c (digit (n % 10) ∷ []) → (48 ≤ c) × (c < 58)
        go (inl k) = rest c k
        go (inr k) = last c (n % 10) (omega arith) k

-- it is not empty
pub decimal-some : (n : ℕ) → decimal n ≡ [] → ⊥
decimal-some = by_digits (λ n. decimal n ≡ [] → ⊥) (λ n h e. no [] _ (sym (decimal-one n h) ∙ e)) (λ n h rest e. no (decimal (n / 10)) _ (sym (decimal-more n h) ∙ e))
  where
    no : (cs : List ℕ) (z : ℕ) → cs ++ (z ∷ []) ≡ [] → ⊥
    no cs z e = let q : length cs + 1 ≡ 0 = sym (length-append cs (z ∷ [])) ∙ ap length e in absurd (omega arith)

-- and begins with 0 only where it is 0
pub decimal-first : (n : ℕ) → 0 < n → (d : ℕ) (ds : List ℕ) → decimal n ≡ d ∷ ds → 48 < d
decimal-first = by_digits (λ n. 0 < n → (d : ℕ) (ds : List ℕ) → decimal n ≡ d ∷ ds → 48 < d) one more
  where
    one : (n : ℕ) → n < 10 → 0 < n → (d : ℕ) (ds : List ℕ) → decimal n ≡ d ∷ ds → 48 < d
    one n h p d ds e = let q : digit n ≡ d = cc (decimal-one n h, e) in omega arith

    some : (cs : List ℕ) (z : ℕ) (d : ℕ) (ds : List ℕ) → cs ++ (z ∷ []) ≡ d ∷ ds → ((c : ℕ) (es : List ℕ) → cs ≡ c ∷ es → 48 < c) → (cs ≡ [] → ⊥) → 48 < d
    some [] z d ds e rest f = absurd (f refl)
    some (c ∷ cs) z d ds e rest f = let q : c ≡ d = cc e in subst (λ (x : ℕ). 48 < x) q (rest c cs refl)

    more : (n : ℕ) → 10 ≤ n → (0 < n / 10 → (d : ℕ) (ds : List ℕ) → decimal (n / 10) ≡ d ∷ ds → 48 < d) → 0 < n → (d : ℕ) (ds : List ℕ) → decimal n ≡ d ∷ ds → 48 < d
    more n h rest p d ds e =
        some (decimal (n / 10)) (digit (n % 10)) d ds (sym (decimal-more n h) ∙ e) (rest (omega arith)) (decimal-some (n / 10))

-- ---- sizes

-- a number below 10 ^ k has at most k digits
pub decimal-length : (k n : ℕ) → n < 10 ^ suc k → length (decimal n) ≤ suc k
decimal-length zero n h = let e : length (decimal n) ≡ 1 = ap length (decimal-one n h) in omega arith
decimal-length (suc k) n h = go (true-or-false (ltb n 10)) (decimal-length k (n / 10))
  where
    go : (ltb n 10 ≡ true) ⊎ (ltb n 10 ≡ false) → (n / 10 < 10 ^ suc k → length (decimal (n / 10)) ≤ suc k) → length (decimal n) ≤ suc (suc k)
    go (inl e) rest = let p : length (decimal n) ≡ 1 = ap length (decimal-one n (ltb-true n 10 e)) in omega arith
    go (inr e) rest =
        let p : length (decimal n) ≡ length (decimal (n / 10)) + 1 = ap length (decimal-more n (ltb-false n 10 e)) ∙ length-append (decimal (n / 10)) (digit (n % 10) ∷ []) in
        let b : 10 ^ suc (suc k) ≡ 10 ^ suc k * 10 = pow-suc 10 (suc k) in
        let d : n / 10 < 10 ^ suc k = omega arith in
        let r = rest d in
        omega arith

length-numbers : (n : ℕ) (ns : List ℕ) → length (numbers (n ∷ ns)) ≡ 1 + length (decimal n) + length (numbers ns)
unfolding numbers number flat_map
length-numbers n ns = let e = length-append (decimal n) (numbers ns) in omega arith

length-line : (words ns : List ℕ) → length (line words ns) ≡ length words + length (numbers ns) + 1
unfolding line
length-line words ns =
    let e = length-append words (numbers ns ++ ascii "\n") in
    let f = length-append (numbers ns) (ascii "\n") in
    omega arith

-- each number of a list below 10 ^ k takes at most k digits and a space
numbers-small : (k : ℕ) (ns : List ℕ) → ((n : ℕ) → Memᴰ n ns → n < 10 ^ suc k) → length (numbers ns) ≤ (k + 2) * length ns
unfolding numbers flat_map
numbers-small k [] h = omega arith
numbers-small k (n ∷ ns) h =
    let e = length-numbers n ns in
    let d = decimal-length k n (h n (Memᴰ.head refl)) in
    let r = numbers-small k ns (λ m p. h m (Memᴰ.tail p)) in
    let s : (k + 2) * length (n ∷ ns) ≡ (k + 2) + (k + 2) * length ns = omega arith in
    omega arith

flat-small : {A : Type 0} (f : A → List ℕ) (c : ℕ) (xs : List A) → ((x : A) → Memᴰ x xs → length (f x) ≤ c) → length (flat_map f xs) ≤ c * length xs
unfolding flat_map
flat-small f c [] h = omega arith
flat-small f c (x ∷ xs) h =
    let e = length-append (f x) (flat_map f xs) in
    let d = h x (Memᴰ.head refl) in
    let r = flat-small f c xs (λ y p. h y (Memᴰ.tail p)) in
    let s : c * length (x ∷ xs) ≡ c + c * length xs = omega arith in
    omega arith

-- words, and one number below 10 ^ k
one-line-small : (words : List ℕ) (k n : ℕ) → n < 10 ^ suc k → length (line words (n ∷ [])) ≤ length words + k + 3
unfolding numbers flat_map
one-line-small words k n h =
    let e = length-line words (n ∷ []) in
    let f = length-numbers n [] in
    let d = decimal-length k n h in
    omega arith

first_small : (words : List ℕ) (n : ℕ) → n ≤ max_limit → length (first_lines words n) ≤ length words + 15
unfolding first_lines numbers flat_map
first_small words n h =
    let e = length-append (line words []) (line (ascii "tried") (n ∷ [])) in
    let f = length-line words [] in
    let g = one-line-small (ascii "tried") 6 n (omega arith) in
    omega arith

-- the most of a node line: a number, a parent and a figure below 10,000, a label below 100,000
node-small : (W : Document) (i : ℕ) → i < 10_000 → parent_of W i < 10_000 → label_of W i < 100_000 → figure_of W i < 10_000 → length (node_line W i) ≤ 26
unfolding node_line numbers flat_map
node-small W i a b c d =
    let e = length-line (ascii "node") (i ∷ parent_of W i ∷ label_of W i ∷ figure_of W i ∷ []) in
    let f = length-numbers i (parent_of W i ∷ label_of W i ∷ figure_of W i ∷ []) in
    let g = length-numbers (parent_of W i) (label_of W i ∷ figure_of W i ∷ []) in
    let h = length-numbers (label_of W i) (figure_of W i ∷ []) in
    let k = length-numbers (figure_of W i) [] in
    let s = decimal-length 3 (figure_of W i) d in
    let p = decimal-length 3 i a in
    let q = decimal-length 3 (parent_of W i) b in
    let r = decimal-length 4 (label_of W i) c in
    omega arith

-- a volume that can be shown: few nodes, each with its parent among them, a 16-bit label and a figure in range; and a result in it
pub record Printable (W : Document) (result : List ℕ) : Type 0 where
  pub few : length W ≤ max_canonical
  pub parents : (i : ℕ) → i < length W → parent_of W i < length W
  pub labels : (i : ℕ) → i < length W → label_of W i < 65_536
  pub figures : (i : ℕ) → i < length W → figure_of W i ≤ max_figure
  pub positions : length result ≤ max_position
  pub nodes : (v : ℕ) → Memᴰ v result → v < length W

nodes-small : {W : Document} {result : List ℕ} → Printable W result → length (node_lines W) ≤ 26 * max_canonical
unfolding node_lines
nodes-small {W} p =
    let few = p.few in
    let every : (i : ℕ) → Memᴰ i (up_from 0 (length W)) → length (node_line W i) ≤ 26 =
    λ i m.
    let h : i < length W = (let r = (up_from-mem 0 (length W) i m).1 in omega arith) in
    let a = p.parents i h in
    let b = p.labels i h in
    let c = p.figures i h in
    node-small W i (omega arith) (omega arith) (omega arith) (omega arith) in
    let f = flat-small (node_line W) 26 (up_from 0 (length W)) every in
    let n = length-up_from 0 (length W) in
    omega arith

answer-small : {W : Document} {result : List ℕ} → Printable W result → length (answer_line result) ≤ 47
unfolding answer_line
answer-small {W} {result} p =
    let few = p.few in
    let e = length-line (ascii "answer") result in
    let k = p.positions in
    let f = numbers-small 3 result (λ v m. let h = p.nodes v m in omega arith) in
    omega arith

-- the text of "not included" fits
pub shown-small : (n : ℕ) {W : Document} {result : List ℕ} → n ≤ max_limit → Printable W result → length (shown_text n W result) ≤ max_text
unfolding shown_text
shown-small n {W} {result} h p =
    let e = length-append (first_lines (ascii "not included") n) (node_lines W ++ answer_line result) in
    let f = length-append (node_lines W) (answer_line result) in
    let a = first_small (ascii "not included") n h in
    let b = nodes-small p in
    let c = answer-small p in
    omega arith

-- the most of a selection's node line: a number and a parent below 100, a label below 100,000, an edge and a position below 10, a figure
-- below 10,000
pattern-line-small : (P : Pattern) (i : ℕ) → i < 100 → pattern_parent P i < 100 → pattern_label P i < 100_000 → (get_or P i no_pattern_record).edge < 10 → position P i < 10 → pattern_figure P i < 10_000 → length (pattern_line P i) ≤ 26
unfolding pattern_line numbers flat_map
pattern-line-small P i a b c d e v =
    let parent : ℕ = pattern_parent P i in
    let label : ℕ = pattern_label P i in
    let edge : ℕ = (get_or P i no_pattern_record).edge in
    let place : ℕ = position P i in
    let least : ℕ = pattern_figure P i in
    let whole = length-line (ascii "node") (i ∷ parent ∷ label ∷ edge ∷ place ∷ least ∷ []) in
    let f = length-numbers i (parent ∷ label ∷ edge ∷ place ∷ least ∷ []) in
    let g = length-numbers parent (label ∷ edge ∷ place ∷ least ∷ []) in
    let h = length-numbers label (edge ∷ place ∷ least ∷ []) in
    let k = length-numbers edge (place ∷ least ∷ []) in
    let l = length-numbers place (least ∷ []) in
    let m = length-numbers least [] in
    let p = decimal-length 1 i a in
    let q = decimal-length 1 parent b in
    let r = decimal-length 4 label c in
    let s = decimal-length 0 edge d in
    let t = decimal-length 0 place e in
    let u = decimal-length 3 least v in
    omega arith

-- a selection that can be printed as an order: few nodes, each with its parent among them, a 16-bit label, an edge, a position and a figure
-- by the rules; and the numbers of the nodes struck from one that has few
pub record Orderable (P : Pattern) (struck : List ℕ) : Type 0 where
  pub few : length P ≤ max_pattern
  pub parents : (i : ℕ) → i < length P → pattern_parent P i < length P
  pub labels : (i : ℕ) → i < length P → pattern_label P i < 65_536
  pub edges : (i : ℕ) → i < length P → (get_or P i no_pattern_record).edge ≤ 1
  pub positions : (i : ℕ) → i < length P → position P i ≤ max_position
  pub figures : (i : ℕ) → i < length P → pattern_figure P i ≤ max_figure
  pub few_struck : length struck < max_pattern
  pub nodes : (v : ℕ) → Memᴰ v struck → v < max_pattern

pattern-lines-small : {P : Pattern} {struck : List ℕ} → Orderable P struck → length (pattern_lines P) ≤ 26 * max_pattern
unfolding pattern_lines
pattern-lines-small {P} p =
    let few = p.few in
    let every : (i : ℕ) → Memᴰ i (up_from 0 (length P)) → length (pattern_line P i) ≤ 26 =
    λ i m.
    let h : i < length P = (let r = (up_from-mem 0 (length P) i m).1 in omega arith) in
    let a = p.parents i h in
    let b = p.labels i h in
    let c = p.edges i h in
    let d = p.positions i h in
    let e = p.figures i h in
    pattern-line-small P i (omega arith) (omega arith) (omega arith) (omega arith) (omega arith) (omega arith) in
    let f = flat-small (pattern_line P) 26 (up_from 0 (length P)) every in
    let n = length-up_from 0 (length P) in
    omega arith

struck-small : {P : Pattern} {struck : List ℕ} → Orderable P struck → length (line (ascii "struck") struck) ≤ 52
struck-small {P} {struck} p =
    let e = length-line (ascii "struck") struck in
    let k = p.few_struck in
    let f = numbers-small 1 struck (λ v m. let h = p.nodes v m in omega arith) in
    omega arith

-- the text of an order fits
pub order-fits : (n : ℕ) {P : Pattern} {struck : List ℕ} → n ≤ max_verdicts * max_limit → Orderable P struck → length (order_text n P struck) ≤ max_order_text
unfolding order_text
order-fits n {P} {struck} h p =
    let e = length-append (line (ascii "tried") (n ∷ [])) (pattern_lines P ++ line (ascii "struck") struck) in
    let f = length-append (pattern_lines P) (line (ascii "struck") struck) in
    let a = one-line-small (ascii "tried") 8 n (omega arith) in
    let b = pattern-lines-small p in
    let c = struck-small p in
    omega arith

-- ---- what is printed of any bytes

-- every number of the questions is at most k
abbrev Most : ℕ → List Question → Type 0
Most k [] = Unit {0}
Most k (q ∷ qs) = (q.number ≤ k) × Most k qs

refusal-most : (k : ℕ) (qs : List Question) → Most k qs → refusal qs ≤ k
unfolding refusal
refusal-most k [] h = omega arith
refusal-most k (q ∷ qs) h = go (true-or-false q.answer) (refusal-most k qs h.1)
  where
    go : (q.answer ≡ true) ⊎ (q.answer ≡ false) → refusal qs ≤ k → refusal (q ∷ qs) ≤ k
    go (inl y) r = let e = refusal-yes q qs y in omega arith
    go (inr n) r = let e = refusal-no q qs n in let l = h.0 in omega arith

charged-most : (b : List ℕ) (L most caller tally buffer_bytes : ℕ) → refusal (ask 1 (limit_in_range L) ∷ charged_questions b most caller tally buffer_bytes) ≤ 17
unfolding case_questions
charged-most b L most caller tally buffer_bytes =
    refusal-most 17 _
    (omega arith, (omega arith, (omega arith, (omega arith, (omega arith, (omega arith, (omega arith, (omega arith, (omega arith, (omega arith, (omega arith, (omega arith, tt))))))))))))

verdict-most : (b : List ℕ) (L caller tally buffer_bytes : ℕ) → verdict_refusal b L caller tally buffer_bytes ≤ 17
unfolding verdict_refusal
verdict-most b L caller tally buffer_bytes = charged-most b L L caller tally buffer_bytes

minimise-most : (b : List ℕ) (L caller tally buffer_bytes : ℕ) → minimise_refusal b L caller tally buffer_bytes ≤ 17
unfolding minimise_refusal
minimise-most b L caller tally buffer_bytes = charged-most b L (max_verdicts * L) caller tally buffer_bytes

module _ (b : List ℕ) where
  pub printed-refused : program_refusal b ≢ 0 → printed b ≡ refused_text (program_refusal b)
  unfolding printed
  printed-refused f = chosen-refused (program_refusal b) (case_text (case_of b)) (refused_text (program_refusal b)) f

  pub printed-accepted : program_refusal b ≡ 0 → printed b ≡ case_text (case_of b)
  unfolding printed
  printed-accepted e = chosen-accepted (program_refusal b) (case_text (case_of b)) (refused_text (program_refusal b)) e

  pub order-refused : order_refusal b ≢ 0 → order_printed b ≡ refused_text (order_refusal b)
  unfolding order_printed
  order-refused f = chosen-refused (order_refusal b) (struck_text (strike_all (case_of b).summary max_limit (case_of b).first)) (refused_text (order_refusal b)) f

  pub order-accepted : order_refusal b ≡ 0 → order_printed b ≡ struck_text (strike_all (case_of b).summary max_limit (case_of b).first)
  unfolding order_printed
  order-accepted e = chosen-accepted (order_refusal b) (struck_text (strike_all (case_of b).summary max_limit (case_of b).first)) (refused_text (order_refusal b)) e

-- a refusal's line is short
pub refused-short : (n : ℕ) → n < 100 → length (refused_text n) ≤ 11
unfolding refused_text
refused-short n h = let e = one-line-small (ascii "refused") 1 n (omega arith) in omega arith

-- so it fits
pub refused-small : (b : List ℕ) → length (refused_text (program_refusal b)) ≤ max_text
refused-small b = let m = verdict-most b max_limit program_caller (tally_of program_tallies program_caller) min_buffer in omega (arith, refused-short (program_refusal b) (omega arith))

pub order-refused-small : (b : List ℕ) → length (refused_text (order_refusal b)) ≤ max_order_text
order-refused-small b = let m = minimise-most b max_limit program_caller (tally_of program_tallies program_caller) min_buffer in omega (arith, refused-short (order_refusal b) (omega arith))

-- so do the first lines
pub first_fits : (words : List ℕ) (n : ℕ) → length words ≤ 12 → n ≤ max_limit → length (first_lines words n) ≤ max_text
first_fits words n w h = let e = first_small words n h in omega arith

-- ---- what the programs that write a case write

module _ (refused : ℕ) (written : List ℕ) where
  pub told-refused : refused ≢ 0 → told refused written ≡ record { stream = 2; bytes = refused_text refused }
  unfolding told
  told-refused f = chosen-refused {A = Told} refused (record { stream = 1; bytes = written }) (record { stream = 2; bytes = refused_text refused }) f

  pub told-accepted : refused ≡ 0 → told refused written ≡ record { stream = 1; bytes = written }
  unfolding told
  told-accepted e = chosen-accepted {A = Told} refused (record { stream = 1; bytes = written }) (record { stream = 2; bytes = refused_text refused }) e

pub upgrade-most : (b : List ℕ) (buffer_bytes : ℕ) → upgrade_refusal b buffer_bytes ≤ 17
unfolding upgrade_refusal old_questions
upgrade-most b buffer_bytes =
    refusal-most 17 _ (omega arith, (omega arith, (omega arith, (omega arith, (omega arith, (omega arith, (omega arith, tt)))))))

pub downgrade-most : (b : List ℕ) (buffer_bytes : ℕ) → downgrade_refusal b buffer_bytes ≤ 17
unfolding downgrade_refusal case_questions
downgrade-most b buffer_bytes =
    refusal-most 17 _ (omega arith, (omega arith, (omega arith, (omega arith, (omega arith, (omega arith, (omega arith, (omega arith, (omega arith, (omega arith, tt))))))))))

pub normalise-most : (b : List ℕ) (buffer_bytes : ℕ) → normalise_refusal b buffer_bytes ≤ 17
unfolding normalise_refusal case_questions
normalise-most b buffer_bytes =
    refusal-most 17 _ (omega arith, (omega arith, (omega arith, (omega arith, (omega arith, (omega arith, (omega arith, (omega arith, (omega arith, tt)))))))))
