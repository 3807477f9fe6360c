-- Nodes at a position: there are at most as many as the document has nodes, so that they fit a column and the answer buffer; and what
-- each arm of the call returns and leaves in the buffer is the model's outcome. Assumes nothing.
use Prim.Native.Nat.{ℕ, ◌+◌, ◌*◌, ◌≤◌}
use mathlib.Core.Path.{◌≡◌, sym, ap, ◌∙◌}
use mathlib.Core.List.{List}
use native.Mathlib.Omega.{arith}
use lib.ListN.{length, take}
use Rattle.model.specs.Limits.{min_buffer, max_document}
use Rattle.model.specs.Lists.{up_from}
use Rattle.model.specs.Tree.{Document}
use Rattle.model.specs.Pattern.{Pattern}
use Rattle.model.specs.Embeddings.{is_at, nodes_at}
use Rattle.model.specs.Bytes.{case_of, document_of, encode_counted, written_at_front}
use Rattle.model.specs.Questions.{selected, nodes_refusal}
use Rattle.model.specs.Calls.{nodes_accepted}
use Rattle.model.specs.Demands.{NodesAnswered}
use Rattle.std.specs.Prelude.{Ok, Err}
use Rattle.questions.specs.Refusal.{number_of}
use Rattle.questions.specs.declared.refusal.Refusal.{Refusal}
use Rattle.questions.proofs.RefusalLaws.{number-not_zero}
use Rattle.calls.specs.Answers.{nodes_of}
use Rattle.model.proofs.ListLaws.{length-keep, length-up_from}
use Rattle.model.proofs.Bytes.{front-written}
use Rattle.model.proofs.CallFacts.{NodesFacts}
use Rattle.model.proofs.Calls.{nodes-refused, nodes-accepted}
use Rattle.model.proofs.Demands.{nodes-answered}

-- ---- the nodes

few-nodes : (P : Pattern) (W : Document) (p : ℕ) → length (nodes_at P W p) ≤ length W
unfolding nodes_at
few-nodes P W p =
    let kept : length (nodes_at P W p) ≤ length (up_from 0 (length W)) = length-keep (is_at P W p) (up_from 0 (length W)) in
    let all : length (up_from 0 (length W)) ≡ length W = length-up_from 0 (length W) in
    omega arith

-- P is the pattern where the number gives it
module _ {b : List ℕ} {s : ℕ} {w : List ℕ} {p bytes : ℕ} (F : NodesFacts b s w p bytes) (P : Pattern) {count : ℕ} (e : count ≡ length (nodes_at P (document_of w) p)) where
  pub nodes-few : count ≤ max_document
  nodes-few =
      let few : length (nodes_at P (document_of w) p) ≤ length (document_of w) = few-nodes P (document_of w) p in
      let size : length (document_of w) ≤ max_document = F.document.size in
      omega arith

  pub nodes-fit : 2 + 2 * count ≤ bytes
  nodes-fit = let few : count ≤ max_document = nodes-few in let large : min_buffer ≤ bytes = F.buffer in omega arith

-- ---- the outcome

module _ (b : List ℕ) (s : ℕ) (w : List ℕ) (p : ℕ) (buffer : List ℕ) where
  pub nodes-no : (r : Refusal) → number_of r ≡ nodes_refusal b s w p (length buffer) → NodesAnswered b s w p buffer (nodes_of (Err r) buffer)
  nodes-no r e =
      nodes-answered b s w p buffer
      ((λ i. record { answer = record { refused = e i; count = 0 }; buffer = buffer }) ∙ sym (nodes-refused b s w p buffer (λ z. number-not_zero r (e ∙ z))))

  pub nodes-yes : 0 ≡ nodes_refusal b s w p (length buffer) → {P : Pattern} {count : ℕ} {out after : List ℕ} (out₀ : List ℕ) → selected (case_of b) s ≡ P
      → (count ≡ length (nodes_at P (document_of w) p)) × (out ≡ written_at_front (nodes_at P (document_of w) p) out₀) → after ≡ written_at_front (encode_counted (take count out)) buffer
      → NodesAnswered b s w p buffer (nodes_of (Ok count) after)
  unfolding nodes_accepted
  nodes-yes e {P} out₀ same found a =
      let nodes : List ℕ = nodes_at P (document_of w) p in
      let kept = a ∙ ap (λ (l : List ℕ). written_at_front (encode_counted l) buffer) ((λ i. take (found.0 i) (found.1 i)) ∙ front-written nodes out₀) in
      nodes-answered b s w p buffer
      ((λ i. record { answer = record { refused = 0; count = found.0 i }; buffer = kept i })
      ∙ sym (nodes-accepted b s w p buffer (sym e) ∙ ap (λ (Q : Pattern). nodes_accepted (nodes_at Q (document_of w) p) buffer) same))
