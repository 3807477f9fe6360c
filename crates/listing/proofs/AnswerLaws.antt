-- From the call that strikes to the text: what the call promises says that the answer buffer of an accepted call can be read, that the text
-- of the answer is the one printed, and that it is small. Assumes nothing.
use Prim.Native.Nat.{ℕ, ◌≤◌}
use mathlib.Core.Path.{◌≡◌, refl, sym, subst}
use mathlib.Core.List.{List}
use native.Mathlib.Omega.{arith}
use lib.ListN.{length}
use Rattle.std.specs.Prelude.{Result, Ok, Err, IfOk}
use Rattle.model.specs.Limits.{max_limit, min_buffer, max_order_text}
use Rattle.model.specs.Demands.{MinimiseAnswered}
use Rattle.model.specs.Text.{program_caller, order_printed}
use Rattle.model.specs.Bytes.{AreBytes}
use Rattle.model.proofs.OrderPrinted.{order-orderable, order-back, prints-order, prints-refusal, order_small}
use Rattle.text.specs.Put.{Room, Put, Printed}
use Rattle.text.specs.declared.page.Page.{Page}
use Rattle.text.proofs.PutLaws.{room-same, put_same, put-printed}
use Rattle.questions.specs.declared.refusal.Refusal.{Refusal}
use Rattle.questions.proofs.RefusalLaws.{number-not_zero}
use Rattle.striking.specs.Outcome.{outcome_of}
use Rattle.striking.specs.declared.Minimised.{Minimised}
use Rattle.listing.specs.Order.{OrderHeld, told_text}

module _ (b : List ℕ) (small : AreBytes b) {before after : List ℕ} (size : length before ≡ min_buffer) (long : length after ≡ min_buffer) where
  -- what is written of an accepted call stands inside
  pub order-held : (told : Result Minimised Refusal) → MinimiseAnswered b max_limit program_caller 0 before (outcome_of 0 told after) → IfOk told (λ _. OrderHeld after)
  order-held (Ok m) a =
      let k = order-back b size a small refl in
      let p = order-orderable b size a small refl in
      let n = k.nodes in
      let c = k.count in
      let few = p.few in
      let struck = p.few_struck in
      record { inside = omega arith }
  order-held (Err r) a = tt

  -- its text is the one printed
  told-printed : (told : Result Minimised Refusal) → MinimiseAnswered b max_limit program_caller 0 before (outcome_of 0 told after) → told_text told after ≡ order_printed b
  told-printed (Ok m) a = sym (prints-order b size a small refl)
  told-printed (Err r) a = sym (prints-refusal b size a (number-not_zero r))

  -- an empty page of an array of that size
  module _ (told : Result Minimised Refusal) (a : MinimiseAnswered b max_limit program_caller 0 before (outcome_of 0 told after)) {page : Page} (front : page.at ≡ 0)
      (l : length page.out.now ≡ max_order_text) where
    pub told-fits : Room (told_text told after) page
    told-fits =
        let s : length (told_text told after) ≤ max_order_text = subst (λ (x : List ℕ). length x ≤ max_order_text) (sym (told-printed told a)) (order_small b small) in
        record { fits = omega arith }

    pub text-printed : {page' : Page} → Put (told_text told after) page page' → Printed (order_printed b) page.out.now page'.out.now page'.at
    text-printed p = put-printed front (room-same (told-printed told a) told-fits) (put_same (told-printed told a) p)
