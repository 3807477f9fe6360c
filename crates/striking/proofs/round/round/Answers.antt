-- `striking::round::round` meets its contract: before the turn of node q the round over all is what was tried and the round over those from q
-- on. Assumes nothing.
use Rattle.std.proofs.Common.{ℕ, arith, ◌≡◌, ◌<◌, sym, ap, ◌∙◌, inl, inr, length}
use Rattle.model.specs.Pattern.{Pattern}
use Rattle.model.specs.Striking.{may_go}
use Rattle.striking.proofs.RoundLaws.{tried_by, going_start, going_over, turn-few, going_on, going-struck, going-none}
use Rattle.striking.proofs.round.round.Goals as goal
use Rattle.striking.proofs.round.round.Goals.{then-may_go+in-NotContained, else-may_go}

pub loop-q-init : goal.loop-q-init
loop-q-init c = going_start _ _ _

-- the node whose turn it is
inside : {n q : ℕ} {P Q : Pattern} → q < n → n ≡ length P → P ≡ Q → q < length Q
inside {P = P} {Q = Q} h e f = let s = ap length f in omega arith

pub new-set-requires : goal.new-set-requires
new-set-requires c = c.set_of_one-bytes.ensures.0

pub may_go-requires : goal.may_go-requires
may_go-requires c = omega (arith, c.loop-q-test.true, c.count-q-end.ensures.0)

pub verdict_without-requires : goal.verdict_without-requires
verdict_without-requires c =
    record {
      strikable = (c.requires, c.new-set.ensures ∙ c.set_of_one-bytes.ensures.1);
      leaf = ((inside c.loop-q-test.true c.count-q-end.ensures.0 c.pattern-pattern.ensures.0), (ap (λ (P : Pattern). may_go P c.loop-q.q) (sym c.pattern-pattern.ensures.0) ∙ sym c.may_go.ensures ∙ c.if-may_go.true));
    }

pub overflow_add-result : goal.overflow_add-result
overflow_add-result c =
    let G = c.requires in
    let few = turn-few _ _ _ c.loop-q.invariant G.limited G.pattern.few (inside c.loop-q-test.true c.count-q-end.ensures.0 c.pattern-pattern.ensures.0) (ap (λ (P : Pattern). may_go P c.loop-q.q) (sym c.pattern-pattern.ensures.0) ∙ sym c.may_go.ensures ∙ c.if-may_go.true) c.verdict_without.ensures (ap tried_by c.in-Contained.is) in
    record { fits = omega arith }

pub returns-in-Contained : goal.returns-in-Contained
returns-in-Contained c =
    let G = c.requires in
    going-struck _ _ _ c.loop-q.invariant G.limited G.pattern.few (inside c.loop-q-test.true c.count-q-end.ensures.0 c.pattern-pattern.ensures.0) (ap (λ (P : Pattern). may_go P c.loop-q.q) (sym c.pattern-pattern.ensures.0) ∙ sym c.may_go.ensures ∙ c.if-may_go.true) c.verdict_without.ensures c.in-Contained.is

pub overflow_add-tried : goal.overflow_add-tried
overflow_add-tried c =
    let G = c.requires in
    let tried : tried_by c.verdict_without.result ≡ c.in-NotContained.n = elim c.in-NotContained.is [ inl a ↦ ap tried_by a | inr b ↦ ap tried_by b ] in
    let few = turn-few _ _ _ c.loop-q.invariant G.limited G.pattern.few (inside c.loop-q-test.true c.count-q-end.ensures.0 c.pattern-pattern.ensures.0) (ap (λ (P : Pattern). may_go P c.loop-q.q) (sym c.pattern-pattern.ensures.0) ∙ sym c.may_go.ensures ∙ c.if-may_go.true) c.verdict_without.ensures tried in
    record { fits = omega arith }

pub loop-q-preserved : goal.loop-q-preserved
loop-q-preserved c =
    let G = c.requires in
    let h = (inside c.loop-q-test.true c.count-q-end.ensures.0 c.pattern-pattern.ensures.0) in
    elim c.if-may_go.branch [
      | then-may_go+in-NotContained w ↦
          rw w.tried-is (going_on _ _ _ c.loop-q.invariant G.limited G.pattern.few h (ap (λ (P : Pattern). may_go P c.loop-q.q) (sym c.pattern-pattern.ensures.0) ∙ sym c.may_go.ensures ∙ w.if-may_go.true) w.verdict_without.ensures w.in-NotContained.is)
      | else-may_go w ↦ rw w.tried-is (going_over _ _ _ c.loop-q.invariant G.limited G.pattern.few h (ap (λ (P : Pattern). may_go P c.loop-q.q) (sym c.pattern-pattern.ensures.0) ∙ sym c.may_go.ensures ∙ w.if-may_go.false))
    ]

pub returns : goal.returns
returns c = going-none _ _ _ c.loop-q.invariant (let s = ap length c.pattern-pattern.ensures.0 in omega (arith, c.loop-q-test.false, c.count-q-end.ensures.0))
