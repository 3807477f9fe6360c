-- What a reader gave: read into a buffer part by part, and what is made of it. Assumes nothing.
use Rattle.std.proofs.Common.{◌≡◌, refl, ℕ, ◌+◌, ◌≤◌, List, ◌++◌, None, Some, IfSome, Result, Ok, Err, OnOk, sym, ap, subst, ◌∙◌, length, take, drop, arith, length-append}
use Rattle.std.proofs.lemmas.List.{take-append-le, length-take-le, take_at}
use Rattle.std.proofs.Math.Seq.{take-append-add}
use Rattle.std.specs.declared.option.Option.{Option}
use borrow.Rule.Slice.PartMut.{put_mid, post_of}
use Rattle.model.specs.Bytes.{written_at_front}
use Rattle.model.specs.Text.{Told}
use Rattle.std.specs.Io.KnownBytes.{Appends}
use Rattle.text.specs.Put.{Printed}
use Rattle.text.specs.Told.{Filed, stream_of, count_of}
use Rattle.streams.specs.Sent.{Sent}

-- n bytes read into the part of xs from a on, which now holds ys
pub take-put_mid-on : (a k n : ℕ) (xs ys : List ℕ) → a ≤ length xs → n ≤ length ys → take (a + n) (put_mid a k xs ys) ≡ take a xs ++ take n ys
take-put_mid-on a k n xs ys within fits =
    let long : length (take a xs) ≡ a = length-take-le a xs within in
    ap (λ (m : ℕ). take (m + n) (take a xs ++ (ys ++ post_of a k xs))) (sym long)
    ∙ take-append-add (take a xs) (ys ++ post_of a k xs) n
    ∙ ap (λ (l : List ℕ). take a xs ++ l) (take-append-le n ys (post_of a k xs) fits)

-- what holds of the bytes that were read holds of the reader's first bytes
pub OnOk-read : {T E : Type 0} (r : Result T E) (P : List ℕ → Type 0) (known : Option (List ℕ)) (bytes : List ℕ) (most n : ℕ)
    → most ≡ n → IfSome known (λ xs. bytes ≡ take most xs) → OnOk r (P bytes) → OnOk r (IfSome known (λ xs. P (take n xs)))
OnOk-read (Ok x) P None bytes most n same e h = tt
OnOk-read (Ok x) P (Some xs) bytes most n same e h = subst P (e ∙ ap (λ (k : ℕ). take k xs) same) h
OnOk-read (Err x) P known bytes most n same e h = tt

-- what is told stands at the front of the array
filed-front : {t : Told} {before after : List ℕ} {r : Result ℕ ℕ} → Filed t before after r → take (count_of r) after ≡ t.bytes
unfolding written_at_front
filed-front {r = r} k = ap (take (count_of r)) k.bytes ∙ take_at _ _ _ (sym k.counted)

pub filed-size : {t : Told} {before after : List ℕ} {r : Result ℕ ℕ} → Filed t before after r → count_of r ≡ length (take (count_of r) after)
filed-size k = k.counted ∙ sym (ap length (filed-front k))

-- and is what was written
pub OnOk-told : {X E : Type 0} (w : Result X E) (S : ℕ → List ℕ → Type 0) {t : Told} {before after : List ℕ} {r : Result ℕ ℕ}
    → Filed t before after r → OnOk w (S (stream_of r) (take (count_of r) after)) → OnOk w (S t.stream t.bytes)
OnOk-told w S k h = rw (← k.stream, ← filed-front k) h

-- no more bytes are told than the array has
pub filed-inside : {t : Told} {before after : List ℕ} {r : Result ℕ ℕ} → Filed t before after r → count_of r ≤ length after
unfolding written_at_front
filed-inside {t} {before} k = omega (arith, k.counted, ap length k.bytes ∙ length-append t.bytes (drop (length t.bytes) before))

-- what is sent to standard output is appended there
pub OnOk-first : {T E A : Type 0} (r : Result T E) (known : Option A) (p : A → List ℕ) (o o' e e' : Option (List ℕ))
    → OnOk r (IfSome known (λ xs. Sent 1 (p xs) o o' e e')) → OnOk r (IfSome known (λ xs. Appends o o' (p xs)))
OnOk-first (Ok x) None p o o' e e' h = tt
OnOk-first (Ok x) (Some xs) p o o' e e' h = (h.0 refl).0
OnOk-first (Err x) known p o o' e e' h = tt

-- a text that is printed is told for standard output
pub printed-filed : {text before after : List ℕ} {n : ℕ} → Printed text before after n → Filed (record { stream = 1; bytes = text }) before after (Ok n)
printed-filed k = record { stream = refl; counted = k.counted; bytes = k.bytes }
