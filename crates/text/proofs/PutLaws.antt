-- Texts put one after another are put as one; at the front of a buffer a text is what is written there. By the laws of `paste`. Assumes
-- nothing.
use Prim.Native.Nat.{ℕ, ◌+◌, ◌/◌, ◌%◌, ◌≤◌, ◌<◌}
use mathlib.Core.Path.{◌≡◌, refl, sym, ap, ap₂, ◌∙◌, subst}
use mathlib.Core.List.{List, [], ◌∷◌, ◌++◌, append_assoc}
use native.Mathlib.Omega.{arith}
use native.Mathlib.Nat.{add-zero, zero-add}
use lib.ListN.{length, take, drop, length-append}
use lib.Seq.{paste, paste-zero, length-paste, take-paste, drop-paste, take_all, drop-drop}
use Rattle.model.specs.Bytes.{written_at_front}
use Rattle.model.specs.Text.{digit, decimal}
use Rattle.model.proofs.Text.{decimal-one, decimal-more}
use Rattle.text.specs.Put.{Room, Put, Printed}
use Rattle.text.specs.declared.page.Page.{Page}

-- the slice keeps its length
pub put-length : {text : List ℕ} {before after : Page} → Put text before after → Room text before → length after.out.now ≡ length before.out.now
put-length {text} {before} p h = ap length p.buffer ∙ length-paste before.out.now before.at text (length text) h.fits (omega arith)

-- equal texts
pub room-same : {s t : List ℕ} {a : Page} → s ≡ t → Room s a → Room t a
room-same {a = a} e = subst (λ (x : List ℕ). Room x a) e

pub put_same : {s t : List ℕ} {a b : Page} → s ≡ t → Put s a b → Put t a b
put_same {a = a} {b} e = subst (λ (x : List ℕ). Put x a b) e

-- ---- a text of two parts

pub record Parts (u s t : List ℕ) : Type 0 where
  pub parts : u ≡ s ++ t

pub both : (s t : List ℕ) → Parts (s ++ t) s t
both s t = record { parts = refl }

module _ {u s t : List ℕ} (e : Parts u s t) {a : Page} (room : Room u a) where
  size : length u ≡ length s + length t
  size = ap length e.parts ∙ length-append s t

  pub room-first : Room s a
  room-first = record { fits = (let f = room.fits in let l = size in omega arith) }

  module _ {b : Page} (p : Put s a b) where
    pub room-rest : Room t b
    room-rest =
        let f = room.fits in
        let l = size in
        let m = p.ends in
        let n = put-length p room-first in
        record { fits = omega arith }

    -- the second put after the first
    pub put_then : {c : Page} → Put t b c → Put u a c
    put_then {c} q =
        let at = a.at in
        let m : b.at ≡ a.at + length s = p.ends in
        let l = size in
        let n : c.at ≡ b.at + length t = q.ends in
        let h : a.at ≤ length a.out.now = (let f = room.fits in omega arith) in
        record {
          same = q.same ∙ p.same;
          ends = omega arith;
          buffer =
              q.buffer ∙ ap₂ (λ (x : List ℕ) (k : ℕ). paste x k t (length t)) p.buffer m
              ∙ ap₂ (λ (x y : List ℕ). x ++ take (length t) t ++ y) (take-paste a.out.now at s (length s) h (omega arith))
              (sym (drop-drop (length t) (at + length s) (paste a.out.now at s (length s))) ∙ ap (drop (length t)) (drop-paste a.out.now at s (length s) h (omega arith))
              ∙ drop-drop (length t) (at + length s) a.out.now ∙ ap (λ (k : ℕ). drop k a.out.now) (let k : at + length s + length t ≡ at + length u = omega arith in k))
              ∙ ap (λ (x : List ℕ). x ++ drop (at + length u) a.out.now) (append_assoc (take at a.out.now) (take (length s) s) (take (length t) t)
              ∙ ap (λ (x : List ℕ). take at a.out.now ++ x)
              (ap₂ ◌++◌ (take_all (length s) s (omega arith)) (take_all (length t) t (omega arith)) ∙ sym e.parts ∙ sym (take_all (length u) u (omega arith))));
        }

-- at the front it is what is written there
pub put_front : {text : List ℕ} {before after : Page} → before.at ≡ 0 → Put text before after → after.out.now ≡ written_at_front text before.out.now
unfolding written_at_front
put_front {text} {before} e p =
    p.buffer ∙ ap (λ (k : ℕ). paste before.out.now k text (length text)) e
    ∙ ap₂ (λ (x : List ℕ) (k : ℕ). x ++ drop k before.out.now) (take_all (length text) text (omega arith)) (zero-add (length text))

-- and so it is printed
pub put-printed : {text : List ℕ} {before after : Page} → before.at ≡ 0 → Room text before → Put text before after → Printed text before.out.now after.out.now after.at
put-printed {text} z h p =
    let e = p.ends in
    let f = h.fits in
    let n = put-length p h in
    record { bytes = put_front z p; counted = omega arith; fits = omega arith }

-- ---- a number's digits

pub one-digit : (n : ℕ) → n < 10 → Parts (decimal n) [] (digit (n % 10) ∷ [])
one-digit n h = record { parts = decimal-one n h ∙ ap (λ (d : ℕ). digit d ∷ []) (let e : n ≡ n % 10 = omega arith in e) }

-- the last digit follows the text of the rest
pub more-digits : (n : ℕ) → 10 ≤ n → Parts (decimal n) (decimal (n / 10)) (digit (n % 10) ∷ [])
more-digits n h = record { parts = decimal-more n h }

-- nothing is put
pub put-none : (a : Page) → Put [] a a
put-none a = record { same = refl; ends = sym (add-zero a.at); buffer = paste-zero a.out.now a.at [] }
