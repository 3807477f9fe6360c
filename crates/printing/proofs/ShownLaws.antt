-- Where the section and the list of an answer buffer stand, by the section's end and the list's count as they are read off it. Assumes
-- nothing.
use Prim.Native.Nat.{ℕ, ◌+◌, ◌-◌, ◌*◌, ◌≤◌}
use mathlib.Core.Path.{◌≡◌, sym, ap, ap₂, ◌∙◌, subst}
use mathlib.Core.List.{List}
use native.Mathlib.Omega.{arith}
use lib.ListN.{length, take, drop}
use lib.Seq.{length-take-le}
use Rattle.model.specs.Limits.{document_width}
use Rattle.model.specs.Bytes.{field, section_end, document_of, list_of, shown_section, shown_list, WholeSection}
use Rattle.model.specs.Text.{shown_text}
use Rattle.text.specs.Put.{Room, Put}
use Rattle.text.specs.declared.page.Page.{Page}
use Rattle.printing.specs.Shown.{ShownWhole, text_of}
use Rattle.text.proofs.PutLaws.{room-same, put_same}

module _ (b : List ℕ) {end k : ℕ} (e : end ≡ section_end document_width b 0) (g : k ≡ field b end) where
  counted : field b (section_end document_width b 0) ≡ k
  counted = ap (field b) (sym e) ∙ sym g

  section : take (2 * end) b ≡ shown_section b
  section = ap (λ (n : ℕ). take (2 * n) b) e

  list : take (2 * (end + 1) + 2 * k - 2 * (end + 1)) (drop (2 * (end + 1)) b) ≡ shown_list b
  list =
      ap₂ (λ (m n : ℕ). take m (drop n b)) (let c = counted in let q : 2 * (end + 1) + 2 * k - 2 * (end + 1) ≡ 2 * field b (section_end document_width b 0) = omega arith in q)
      (ap (λ (n : ℕ). 2 * (n + 1)) e)

  module _ (w : ShownWhole b) where
    pub list_inside : 2 * (end + 1) + 2 * k ≤ length b
    list_inside =
        let i = w.inside in
        let c = counted in
        omega arith

    pub section-whole : WholeSection document_width (take (2 * end) b) 0
    section-whole = subst (λ (x : List ℕ). WholeSection document_width x 0) (sym section) w.whole

    pub section-size : 2 * end ≡ length (take (2 * end) b)
    section-size = let i = list_inside in sym (length-take-le (2 * end) b (omega arith))

  -- the text by the parts that are lent
  same : (tried : ℕ) → text_of tried b ≡ shown_text tried (document_of (take (2 * end) b)) (list_of (take (2 * (end + 1) + 2 * k - 2 * (end + 1)) (drop (2 * (end + 1)) b)))
  same tried = ap₂ (λ (x y : List ℕ). shown_text tried (document_of x) (list_of y)) (sym section) (sym list)

  pub text-room : (tried : ℕ) {page : Page} → Room (text_of tried b) page
      → Room (shown_text tried (document_of (take (2 * end) b)) (list_of (take (2 * (end + 1) + 2 * k - 2 * (end + 1)) (drop (2 * (end + 1)) b)))) page
  text-room tried r = room-same (same tried) r

  pub text-put : (tried : ℕ) {before after : Page}
      → Put (shown_text tried (document_of (take (2 * end) b)) (list_of (take (2 * (end + 1) + 2 * k - 2 * (end + 1)) (drop (2 * (end + 1)) b)))) before after
      → Put (text_of tried b) before after
  text-put tried p = put_same (sym (same tried)) p
